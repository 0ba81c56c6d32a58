use Rattle.std.proofs.Common.{◌≡◌, ◌++◌, drop}
use Rattle.mpl_body_image.specs.Internal.RowCodes.{all_flows_code}
use Rattle.mpl_body_image.specs.Internal.SeenScope.{env_seen}
use Rattle.mpl_body_image.proofs.flows.+flow.Given as goal

abbrev pub invariant-flows-loop-argument : goal.invariant-flows-loop-argument
invariant-flows-loop-argument l =
    l.code ++ all_flows_code (env_seen l.scope) (drop l.argument-index l.list) ≡ l.initial.code ++ all_flows_code (env_seen l.scope) l.list
