use Rattle.std.proofs.Common.{ap, refl, ◌∙◌}
use Rattle.mpl_ast.specs.declared.expression.Primary.{roll-Primary}
use Rattle.mpl_ast.specs.declared.expression.Conjunction.TheOpen.{Primary-F}
use Rattle.mpl_mean.specs.FirstForms.ExpressionLevels.{expr_of_primary}
use Rattle.mpl_mean.specs.Meaning.Layout.{function_named}
use Rattle.mpl_mean.specs.Plain.Expr.{expr_of, expr_of_forms}
use Rattle.mpl_mean.proofs.ExpressionInduction.{primary_of_parts, primary_rolls}
use Rattle.mpl_gen_code.specs.Words.{words_of_expr, words_of_function}
use Rattle.mpl_gen_scope.specs.SeenScope.{env_seen}
use Rattle.mpl_gen_expr.proofs.Done.{if_written}
use Rattle.mpl_gen_expr.proofs.FlowForms.{words_done}
use Rattle.mpl_gen_expr.proofs.flows.pass_primary.Goals as goal

pub returns-in_ok-primary-in-CallPlain : goal.returns-in_ok-primary-in-CallPlain
unfolding roll-Primary denote.Hole.Carrier.roll
returns-in_ok-primary-in-CallPlain c =
    let env = env_seen c.args.scope.now in
    let arm = c.in-CallPlain in
    let layer = Primary-F.CallPlain arm.field-0 arm.function arm.field-2 in
    let tree = primary_of_parts expr_of_forms layer in
    if_written c.push.result
    (words_done env (expr_of_primary c.args.node.now) tree (words_of_expr env tree) c.kind_of_call-kind.result.words c.args.codes.now c.primary.new.codes c.push.new.self
    (ap expr_of_primary arm.is ∙ primary_rolls expr_of_forms layer) refl
    (c.kind_of_call-kind.ensures.words ∙ ap (λ name. words_of_function env.declarations (function_named name env.declarations)) c.as_slice.ensures)
    c.in_ok-primary-in-CallPlain.ensures)
    c.push.ensures.ok

pub returns-in_ok-primary-in-Parenthesized : goal.returns-in_ok-primary-in-Parenthesized
unfolding roll-Primary denote.Hole.Carrier.roll
returns-in_ok-primary-in-Parenthesized c =
    let env = env_seen c.args.scope.now in
    let arm = c.in-Parenthesized in
    let layer = Primary-F.Parenthesized arm.field-0 arm.inner in
    let tree = primary_of_parts expr_of_forms layer in
    if_written c.push-in-Parenthesized.result
    (words_done env (expr_of_primary c.args.node.now) tree (words_of_expr env tree) c.in_ok-kind-in-Parenthesized.kind.words c.args.codes.now c.primary-in-Parenthesized.new.codes c.push-in-Parenthesized.new.self
    (ap expr_of_primary arm.is ∙ primary_rolls expr_of_forms layer) refl
    (c.in_ok-kind-in-Parenthesized.ensures.words ∙ ap (λ e. words_of_expr env (expr_of e)) c.get-in-Parenthesized.ensures)
    c.in_ok-primary-in-Parenthesized.ensures)
    c.push-in-Parenthesized.ensures.ok
