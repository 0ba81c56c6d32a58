use Rattle.std.proofs.Common.{◌≡◌, ℕ, suc, ◌-◌, subst, arith}
use Rattle.mpl_trees.specs.Folds.{chain}
use Rattle.mpl_reader.specs.Reader.{most_number}
use Rattle.mpl_folds.specs.Row.{Folded, row_of}
use Rattle.mpl_folds.proofs.fold.+chain.Goals as goal

pub chain-returns-else-operators-eq0 : goal.chain-returns-else-operators-eq0
chain-returns-else-operators-eq0 g t c =
    let e : suc (c.args.operators - 1) ≡ c.args.operators = omega arith in
    subst (λ (n : ℕ). Folded (chain g.G.Grade.grade g.G.Grade.parts n most_number c.args.start (row_of c.args.row.now)) c.longer.result (row_of c.longer.new.row)) e c.longer.ensures
