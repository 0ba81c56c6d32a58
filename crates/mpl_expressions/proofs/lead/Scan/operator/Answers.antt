use Rattle.std.proofs.Common.{◌≡◌, ℕ, ◌∷◌, ◌∙◌, arith}
use Rattle.mpl_trees.specs.Ahead.{count}
use Rattle.mpl_trees.specs.declared.position.Position.TheVariants.{Before}
use Rattle.mpl_expressions.proofs.Sums.{above_all, among, past_all, same}
use Rattle.mpl_expressions.proofs.lead.Scan.operator.Goals as goal

pub returns-then-of-level-clause-counted : goal.returns-then-of-level-clause-counted
returns-then-of-level-clause-counted c =
    let s = c.args.self.now in
    λ t ts h. omega (arith, same s.lowest c.args.level (λ n. count n s.position (t ∷ ts)) _ h ∙ past_all s.lowest c.args.level c.args.of (λ n. count n Before ts) (omega arith))

pub returns-then-of-self-clause-counted : goal.returns-then-of-self-clause-counted
returns-then-of-self-clause-counted c =
    let s = c.args.self.now in
    λ t ts h. omega (arith, same s.lowest c.args.level (λ n. count n s.position (t ∷ ts)) _ h ∙ among s.lowest c.args.level c.args.of (λ n. count n Before ts) (omega arith) (omega arith))

pub returns-else-of-self-clause-counted : goal.returns-else-of-self-clause-counted
returns-else-of-self-clause-counted c =
    let s = c.args.self.now in
    λ t ts h. omega (arith, same s.lowest c.args.level (λ n. count n s.position (t ∷ ts)) _ h ∙ above_all s.lowest c.args.level c.args.of (λ n. count n Before ts) (omega arith))
