use Rattle.std.proofs.Common.{◌≡◌, ◌≤◌, drop}
use Rattle.mpl_trees.specs.Ahead.{count}
use Rattle.mpl_trees.specs.declared.position.Position.TheVariants.{Before}
use Rattle.mpl_expressions.specs.Internal.Lead.{all_of, depth, sum_from}
use Rattle.mpl_expressions.proofs.lead.lead.Given as goal

abbrev pub invariant-loop-token : goal.invariant-loop-token
invariant-loop-token l = record {
  counted : sum_from 0 l.level (λ n. count n Before l.tokens) ≡ all_of l.scan l.level (drop l.token-index l.tokens);
  few : l.scan.found ≤ l.token-index;
  shallow : depth l.scan.position ≤ l.token-index;
}
