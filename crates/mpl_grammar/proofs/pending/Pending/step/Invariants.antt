use Rattle.std.proofs.Common.{◌≡◌, ◌≤◌, length}
use Rattle.mpl_mean.specs.Limits.{most_weight}
use Rattle.mpl_grammar.specs.Internal.Machine.{next, weight}
use Rattle.mpl_grammar.proofs.pending.Pending.step.Given as goal

-- the token does the same to what is left
abbrev pub invariant-loop-symbol : goal.invariant-loop-symbol
invariant-loop-symbol l = record {
  same : next l.fn.self l.kind ≡ next l.self l.kind;
  light : weight l.self ≤ most_weight;
}

abbrev pub decreases-loop-symbol : goal.decreases-loop-symbol
decreases-loop-symbol l = length l.self
