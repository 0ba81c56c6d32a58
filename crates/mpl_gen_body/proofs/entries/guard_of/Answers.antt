use Rattle.std.proofs.Common.{map, Option, Some, None, option_map, ap, subst, sym, ◌∙◌}
use Rattle.std.specs.Borrow.{Bor}
use Rattle.mpl_ast.specs.declared.expression.Expression.{Expression}
use Rattle.mpl_mean.specs.Laws.Sizes.{Every}
use Rattle.mpl_mean.specs.Plain.Expr.{expr_of}
use Rattle.mpl_gen_code.specs.ExpressionCode.{value_code}
use Rattle.mpl_gen_code.specs.Scopes.{Env, OfBody}
use Rattle.mpl_gen_scope.specs.SeenMarks.{marked}
use Rattle.mpl_layout.specs.SeenParts.{part_seen}
use Rattle.mpl_gen_scope.specs.SeenScope.{env_seen}
use Rattle.mpl_gen_expr.specs.Drafts.{InstrFits}
use Rattle.mpl_gen_bounds.specs.ImageFits.{GuardFits}
use Rattle.mpl_gen_body.specs.Internal.Accepting.{guard_with}
use Rattle.mpl_gen_body.specs.Internal.Surroundings.{env_with}
use Rattle.mpl_gen_body.proofs.Writes.{all_written}
use Rattle.mpl_gen_body.proofs.entries.guard_of.Goals as goal

pub into_text-requires : goal.into_text-requires
into_text-requires c =
    let ds = c.args.outline.now in
    let parts = map part_seen c.args.parts.now in
    let formals = c.args.formals.now in
    let guard = expr_of c.in-Some.guard.now in
    let whole =
    all_written (value_code (env_seen c.in_ok-scope-in-Some.scope) guard) c.new-codes.result c.expression.new.codes c.new-codes.ensures c.in_ok-expression-in-Some.ensures
    ∙ ap (λ (e : Env). value_code e guard 0) (c.in_ok-scope-in-Some.ensures ∙ ap (λ nodes. env_with ds (marked nodes) (OfBody 0) (record { class = None; parts = c.args.parts }) formals) c.of.ensures) in
    let fits = subst (λ (g : Option (Bor Expression)). GuardFits (guard_with ds parts formals (option_map (λ (g : Bor Expression). g.now) g))) c.in-Some.is c.requires in
    subst (Every InstrFits) (sym whole) fits

pub returns-in_ok-into_text-in-Some : goal.returns-in_ok-into_text-in-Some
returns-in_ok-into_text-in-Some c =
    let ds = c.args.outline.now in
    let parts = map part_seen c.args.parts.now in
    let formals = c.args.formals.now in
    let guard = expr_of c.in-Some.guard.now in
    let whole =
    all_written (value_code (env_seen c.in_ok-scope-in-Some.scope) guard) c.new-codes.result c.expression.new.codes c.new-codes.ensures c.in_ok-expression-in-Some.ensures
    ∙ ap (λ (e : Env). value_code e guard 0) (c.in_ok-scope-in-Some.ensures ∙ ap (λ nodes. env_with ds (marked nodes) (OfBody 0) (record { class = None; parts = c.args.parts }) formals) c.of.ensures) in
    ap (λ code. Some code) (c.in_ok-into_text-in-Some.ensures ∙ whole)
    ∙ ap (λ (g : Option (Bor Expression)). guard_with ds parts formals (option_map (λ (g : Bor Expression). g.now) g)) (sym c.in-Some.is)
