use Rattle.std.proofs.Common.{map, ap, refl, ◌∙◌}
use Rattle.mpl_ast.specs.declared.flow.Call.{fold-roll-Call, roll-Call}
use Rattle.mpl_ast.specs.declared.flow.Call.TheOpen.{Call-F}
use Rattle.mpl_mean.specs.Plain.Expr.{Expr, call_step, expr_of_call, expr_of_flow, flow_step}
use Rattle.mpl_mean.specs.Plain.Expr as e
use Rattle.mpl_gen_scope.specs.SeenScope.{env_seen}
use Rattle.mpl_gen_expr.proofs.Done.{if_written}
use Rattle.mpl_gen_expr.proofs.FlowForms.{forced_done}
use Rattle.mpl_gen_expr.proofs.flows.call_value.Goals as goal

pub returns-in_ok-call-in-OnOwn : goal.returns-in_ok-call-in-OnOwn
unfolding roll-Call denote.Hole.Carrier.roll
returns-in_ok-call-in-OnOwn c =
    let arm = c.in-OnOwn in
    if_written c.push.result
    (forced_done (env_seen c.args.scope.now) (expr_of_call c.args.node.now) (e.CallOnOwn arm.field-0 arm.field-1 (e.listed (map expr_of_flow arm.field-2))) c.args.codes.now c.call.new.codes c.push.new.self
    (ap expr_of_call arm.is ∙ fold-roll-Call Expr Expr call_step flow_step (Call-F.OnOwn arm.field-0 arm.field-1 arm.field-2)) refl c.in_ok-call-in-OnOwn.ensures)
    c.push.ensures.ok

pub returns-in_ok-call-in-OnTarget : goal.returns-in_ok-call-in-OnTarget
unfolding roll-Call denote.Hole.Carrier.roll
returns-in_ok-call-in-OnTarget c =
    let arm = c.in-OnTarget in
    if_written c.push-in-OnTarget.result
    (forced_done (env_seen c.args.scope.now) (expr_of_call c.args.node.now) (e.CallOnTarget arm.field-0 arm.field-1 arm.field-2 (e.listed (map expr_of_flow arm.field-3))) c.args.codes.now c.call-in-OnTarget.new.codes c.push-in-OnTarget.new.self
    (ap expr_of_call arm.is ∙ fold-roll-Call Expr Expr call_step flow_step (Call-F.OnTarget arm.field-0 arm.field-1 arm.field-2 arm.field-3)) refl c.in_ok-call-in-OnTarget.ensures)
    c.push-in-OnTarget.ensures.ok
