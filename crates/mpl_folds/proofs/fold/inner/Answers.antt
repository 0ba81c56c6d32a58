use Rattle.std.proofs.Common.{◌≡◌, ◌+◌, arith}
use Rattle.mpl_trees.specs.declared.piece.Start.{Start}
use Rattle.mpl_reader.proofs.Numbers.{inner-fits, inner-too_great}
use Rattle.mpl_folds.proofs.fold.inner.Goals as goal

pub returns-in_default : goal.returns-in_default
returns-in_default c = inner-too_great c.args.start (let h = c.in_default.ensures in omega arith)

pub returns : goal.returns
returns c =
    let h = c.in-Some.ensures in
    let e : c.in-Some.id ≡ c.args.start.id + 1 = omega arith in
    rw e (inner-fits c.args.start (omega arith))
