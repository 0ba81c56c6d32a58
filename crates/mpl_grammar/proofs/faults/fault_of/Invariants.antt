use Rattle.std.proofs.Common.{◌≡◌, ◌≤◌, [], drop}
use Rattle.mpl_mean.specs.Limits.{most_weight}
use Rattle.mpl_grammar.specs.Internal.Machine.{fault, weight}
use Rattle.mpl_grammar.proofs.faults.fault_of.Given as goal

-- the fault of all tokens is that of those that are left
abbrev pub invariant-loop-token : goal.invariant-loop-token
invariant-loop-token l = record {
  same : fault l.end (drop l.token-index l.tokens) l.pending ≡ fault l.end l.tokens [];
  light : weight l.pending ≤ most_weight;
}
