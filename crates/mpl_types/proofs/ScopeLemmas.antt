-- What surrounds a block stays, and what fails in it.
use Rattle.std.proofs.Common.{◌≡◌, Option, Some, None, refl, sym, ap, ap₂, ◌∙◌}
use Rattle.std.specs.Prelude.{option_map}
use Rattle.mpl_ast.specs.declared.flow.Assignment.{Assignment}
use Rattle.mpl_mean.specs.Plain.Expr.{Expr}
use Rattle.mpl_mean.specs.TypeRules.Rules.{Failure}
use Rattle.mpl_mean.specs.TypeRules.Scopes.{Environment, in_block}
use Rattle.mpl_mean.specs.TypeRules.StatementNodes.{stmts_walk}
use Rattle.mpl_mean.specs.Plain.Stmt.{Loops, Stmt, Stmts, assigns, if_any}
use Rattle.mpl_scope.specs.Locals.{outer}
use Rattle.mpl_types.specs.Internal.Least.{earlier}
use Rattle.mpl_types.specs.Internal.Statements.{after, stmt_least, test_least}
use Rattle.mpl_types.proofs.StatementLemmas.{stmt_outer, stmts_outer}

pub within_scope : (s : Stmt) (environment entered behind left : Environment) → entered ≡ in_block environment → behind ≡ after s entered → left ≡ outer behind → left ≡ environment
within_scope s environment entered behind left a b c = c ∙ ap outer (b ∙ ap (after s) a) ∙ stmt_outer s (in_block environment)

pub block_scope : (ss : Stmts) (environment entered behind left : Environment) → entered ≡ in_block environment → behind ≡ (stmts_walk ss entered).after → left ≡ outer behind
    → left ≡ environment
block_scope ss environment entered behind left a b c = c ∙ ap outer (b ∙ ap (λ (e : Environment). (stmts_walk ss e).after) a) ∙ stmts_outer ss (in_block environment)

abbrev pub step_of : Option Assignment → Stmt
step_of step = if_any (option_map assigns step)

pub outer_of_block : (environment : Environment) → outer (in_block environment) ≡ environment
outer_of_block environment = refl

pub step_after : (step : Option Assignment) (environment : Environment) → after (step_of step) environment ≡ environment
step_after None environment = refl
step_after (Some step) environment = refl

pub for_is : (start : Stmt) (test : Expr) (step : Option Assignment) (body : Stmt) (environment entered begun : Environment) (a b c d : Option Failure)
    → entered ≡ in_block environment → begun ≡ after start entered → a ≡ stmt_least start entered → b ≡ test_least test begun → c ≡ stmt_least (step_of step) begun → d ≡ stmt_least body (in_block begun)
    → earlier a (earlier b (earlier c d)) ≡ stmt_least (Loops start test (step_of step) body) environment
for_is start test step body environment entered begun a b c d e f of_start of_test of_step of_body =
    let same : begun ≡ after start (in_block environment) = f ∙ ap (after start) e in
    ap₂ earlier (of_start ∙ ap (stmt_least start) e)
    (ap₂ earlier (of_test ∙ ap (test_least test) same)
    (ap₂ earlier (of_step ∙ ap (stmt_least (step_of step)) same)
    (of_body ∙ ap (λ (x : Environment). stmt_least body (in_block x)) (same ∙ sym (step_after step (after start (in_block environment)))))))
