use Rattle.std.proofs.Common.{arith, length}
use Rattle.mpl_mean.specs.Plain.Expr.{expr_of_flow}
use Rattle.mpl_mean.specs.TypeRules.Typing.{formal_types}
use Rattle.mpl_scope.specs.SeenScope.{seen_scope}
use Rattle.mpl_types.proofs.ArgumentLemmas.{agree_at_end, as_many_types}
use Rattle.mpl_types.proofs.calls.+call.Goals as goal

pub check_flows-returns-clause-agrees : goal.check_flows-returns-clause-agrees
check_flows-returns-clause-agrees t c =
    agree_at_end expr_of_flow (seen_scope c.args.scope.now) c.args.arguments.now (formal_types c.args.scope.now.outline.now c.args.formals.now) c.loop-i.i (length c.args.formals.now)
    (omega arith) c.loop-i.so_far c.all_agree.result (as_many_types c.args.scope.now.outline.now c.args.formals.now) c.all_agree.ensures c.loop-i.invariant
