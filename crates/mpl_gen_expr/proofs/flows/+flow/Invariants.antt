use Rattle.std.proofs.Common.{◌≡◌, drop}
use Rattle.mpl_gen_expr.specs.RowCodes.{all_flows}
use Rattle.mpl_gen_expr.specs.Texts.{written}
use Rattle.mpl_gen_scope.specs.SeenScope.{env_seen}
use Rattle.mpl_gen_expr.proofs.flows.+flow.Given as goal

abbrev pub invariant-flows-loop-argument : goal.invariant-flows-loop-argument
invariant-flows-loop-argument l =
    written (all_flows (env_seen l.scope) (drop l.argument-index l.list)) l.codes ≡ written (all_flows (env_seen l.scope) l.list) l.initial.codes
