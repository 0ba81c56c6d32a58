use Rattle.std.proofs.Common.{arith, ap, sym, ◌∙◌}
use Rattle.mpl_mean.proofs.Lists.{none_left}
use Rattle.mpl_scope.specs.First.{at, or_else}
use Rattle.mpl_depend.specs.Internal.Regular.{regular_among}
use Rattle.mpl_depend.proofs.Seen.{or_none}
use Rattle.mpl_depend.proofs.known.regular_classes.Goals as goal

pub returns : goal.returns
returns c = λ name.
    let regular = c.loop-declaration.regular in
    let none = none_left c.args.declarations.now c.loop-declaration.declaration-index (omega arith) in
    sym (or_none (at regular name)) ∙ ap (λ ds. or_else (at regular name) (regular_among name ds)) (sym none) ∙ c.loop-declaration.invariant name
