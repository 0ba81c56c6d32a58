use Rattle.std.proofs.Common.{◌≡◌, ◌+◌, suc, List, ◌∷◌, drop, drop-cons, map, arith, ap, sym, ◌∙◌}
use Rattle.std.proofs.Math.ListN.{drop_of_length-le}
use Rattle.mpl_ast.specs.declared.statement.Declarator.{Declarator}
use Rattle.mpl_mean.specs.Plain.Stmt.{new_local}
use Rattle.mpl_gen_code.specs.StatementCode.{declares_all, locals_code}
use Rattle.mpl_gen_scope.specs.SeenScope.{env_seen}
use Rattle.mpl_gen_expr.specs.Texts.{written}
use Rattle.mpl_gen_body.proofs.InTurn.{locals_end, locals_more}
use Rattle.mpl_gen_body.proofs.statements.declare_all.Goals as goal

pub loop-declarator-preserved : goal.loop-declarator-preserved
loop-declarator-preserved c =
    let all = c.as_slice-declarator-items.result.now in
    let i = c.loop-declarator.declarator-index in
    let x = c.declarator-item.result in
    let split : drop i all ≡ x ∷ drop (i + 1) all =
    drop-cons all i x (omega arith) ∙ ap (λ y. y ∷ drop (suc i) all) (sym c.declarator-item.is) ∙ ap (λ n. x ∷ drop n all) (let e : suc i ≡ i + 1 = omega arith in e) in
    locals_more c.args.local.now.type_name (env_seen c.loop-declarator.scope) (env_seen c.declare_one.new.scope) _ x (drop (i + 1) all) (drop i all) c.loop-declarator.codes c.declare_one.new.codes _
    split c.in_ok-declare_one.ensures c.loop-declarator.invariant

pub returns : goal.returns
returns c =
    let env = env_seen c.args.scope.now in
    let type = c.args.local.now.type_name in
    let all = c.as_slice-declarator-items.result.now in
    let done =
    locals_end type (env_seen c.loop-declarator.scope) _ (drop c.loop-declarator.declarator-index all) c.loop-declarator.codes _
    (drop_of_length-le all {i = c.loop-declarator.declarator-index} (omega arith)) c.loop-declarator.invariant in
    record {
      code = done.0 ∙ ap (λ (l : List Declarator). written (locals_code env type (map new_local l)) c.args.codes.now) c.as_slice-declarator-items.ensures;
      env = done.1 ∙ ap (λ (l : List Declarator). declares_all type (map new_local l) env) c.as_slice-declarator-items.ensures;
    }
