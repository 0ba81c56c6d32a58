use Rattle.std.proofs.Common.{ap, sym, refl, ◌∙◌}
use Rattle.mpl_ast.specs.declared.expression.Place.{roll-Place}
use Rattle.mpl_ast.specs.declared.expression.Conjunction.TheOpen.{Place-F}
use Rattle.mpl_mean.specs.Plain.Expr.{expr_of_forms, expr_of_place}
use Rattle.mpl_mean.proofs.ExpressionInduction.{place_of_parts, place_rolls}
use Rattle.mpl_gen_code.specs.Words.{words_of_expr}
use Rattle.mpl_gen_scope.specs.SeenScope.{env_seen}
use Rattle.mpl_gen_expr.proofs.Done.{if_written}
use Rattle.mpl_gen_expr.proofs.FlowForms.{state_flow, words_done}
use Rattle.mpl_gen_expr.proofs.flows.pass_place.Goals as goal

pub returns-in_ok-place-in-None : goal.returns-in_ok-place-in-None
unfolding roll-Place denote.Hole.Carrier.roll
returns-in_ok-place-in-None c =
    let env = env_seen c.args.scope.now in
    let arm = c.in-Whole in
    let layer = Place-F.Whole arm.field-0 arm.target in
    let tree = place_of_parts expr_of_forms layer in
    let is = ap expr_of_place arm.is ∙ place_rolls expr_of_forms layer in
    if_written c.push-in-None.result
    (words_done env (expr_of_place c.args.node.now) tree (words_of_expr env tree) c.in_ok-kind-in-None.kind.words c.args.codes.now c.place.new.codes c.push-in-None.new.self
    is (state_flow env arm.field-0 arm.target (sym c.in-None.ensures)) (c.in_ok-kind-in-None.ensures.words ∙ ap (λ y. words_of_expr env y) is) c.in_ok-place-in-None.ensures)
    c.push-in-None.ensures.ok

pub returns-in_ok-place-in-Element : goal.returns-in_ok-place-in-Element
unfolding roll-Place denote.Hole.Carrier.roll
returns-in_ok-place-in-Element c =
    let arm = c.in-Element in
    let layer = Place-F.Element arm.field-0 arm.field-1 arm.field-2 arm.field-3 in
    if_written c.push-in-Element.result
    (words_done (env_seen c.args.scope.now) (expr_of_place c.args.node.now) (place_of_parts expr_of_forms layer) 1 1 c.args.codes.now c.place-in-Element.new.codes c.push-in-Element.new.self
    (ap expr_of_place arm.is ∙ place_rolls expr_of_forms layer) refl refl c.in_ok-place-in-Element.ensures)
    c.push-in-Element.ensures.ok
