use Rattle.std.proofs.Common.{◌≡◌, ◌+◌, suc, ◌∷◌, drop, drop-cons, map, arith, ap, sym, ◌∙◌}
use Rattle.std.proofs.Math.ListN.{drop_of_length-le}
use Rattle.mpl_mean.specs.Plain.Expr.{expr_of}
use Rattle.mpl_gen_code.specs.ExpressionCode.{value_code}
use Rattle.mpl_gen_code.specs.Pieces.{Piece, all_joined}
use Rattle.mpl_gen_scope.specs.SeenScope.{env_seen}
use Rattle.mpl_gen_expr.specs.Texts.{written}
use Rattle.mpl_gen_expr.proofs.Texts.{joined_written, none_written}
use Rattle.mpl_gen_body.proofs.statements.values.Goals as goal

pub loop-argument-preserved : goal.loop-argument-preserved
loop-argument-preserved c =
    let env = env_seen c.args.scope.now in
    let all = c.args.list.now in
    let i = c.loop-argument.argument-index in
    let x = c.argument-item.result in
    let split : drop i all ≡ x ∷ drop (i + 1) all =
    drop-cons all i x (omega arith) ∙ ap (λ y. y ∷ drop (suc i) all) (sym c.argument-item.is) ∙ ap (λ n. x ∷ drop n all) (let e : suc i ≡ i + 1 = omega arith in e) in
    let rest : Piece = all_joined (map (value_code env) (map expr_of (drop (i + 1) all))) in
    ap (written rest) c.in_ok-expression.ensures
    ∙ sym (joined_written (value_code env (expr_of x)) rest c.loop-argument.codes)
    ∙ ap (λ es. written (all_joined (map (value_code env) (map expr_of es))) c.loop-argument.codes) (sym split)
    ∙ c.loop-argument.invariant

pub returns : goal.returns
returns c =
    let env = env_seen c.args.scope.now in
    let all = c.args.list.now in
    let text = c.loop-argument.codes in
    sym (none_written text)
    ∙ ap (λ es. written (all_joined (map (value_code env) (map expr_of es))) text) (sym (drop_of_length-le all {i = c.loop-argument.argument-index} (omega arith)))
    ∙ c.loop-argument.invariant
