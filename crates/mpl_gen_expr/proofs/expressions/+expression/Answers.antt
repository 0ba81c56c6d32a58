use Rattle.std.proofs.Common.{◌≡◌, true, false, ◌+◌, suc, ◌∷◌, drop, drop-cons, arith, refl, ap, sym, ◌∙◌}
use Rattle.std.proofs.Math.ListN.{drop_of_length-le}
use Rattle.mdf_code.specs.declared.instr.Instr.TheVariants as instr
use Rattle.mpl_ast.specs.declared.expression.Conjunction.{roll-Conjunction}
use Rattle.mpl_ast.specs.declared.expression.Equality.{roll-Equality}
use Rattle.mpl_ast.specs.declared.expression.Expression.{roll-Expression}
use Rattle.mpl_ast.specs.declared.expression.Place.{roll-Place}
use Rattle.mpl_ast.specs.declared.expression.Relation.{roll-Relation}
use Rattle.mpl_ast.specs.declared.expression.Sum.{roll-Sum}
use Rattle.mpl_ast.specs.declared.expression.Term.{roll-Term}
use Rattle.mpl_ast.specs.declared.expression.Unary.{roll-Unary}
use Rattle.mpl_ast.specs.declared.expression.Conjunction.TheOpen.{Conjunction-F, Equality-F, Expression-F, Place-F, Relation-F, Sum-F, Term-F, Unary-F}
use Rattle.mpl_value.specs.Words.{bool_word}
use Rattle.mpl_mean.specs.FirstForms.ExpressionLevels.{expr_of_conjunction, expr_of_equality, expr_of_relation, expr_of_sum, expr_of_term, expr_of_unary}
use Rattle.mpl_mean.specs.Levels.{Or, And, Equate, Compare, Add, Multiply}
use Rattle.mpl_mean.specs.Plain.Expr.{expr_of, expr_of_forms, expr_of_place}
use Rattle.mpl_mean.proofs.ExpressionInduction.{conjunction_rolls, equality_rolls, expression_rolls, place_rolls, relation_rolls, sum_rolls, term_rolls, unary_rolls}
use Rattle.mpl_gen_code.specs.ExpressionCode.{equality_instr, relation_instr, sum_instr, term_instr, value_code}
use Rattle.mpl_gen_code.specs.Pieces.{Piece, either, one}
use Rattle.mpl_gen_scope.specs.SeenScope.{env_seen}
use Rattle.mpl_gen_expr.specs.RowCodes.{all_values}
use Rattle.mpl_gen_expr.specs.Texts.{written}
use Rattle.mpl_gen_expr.proofs.Done.{both_done, element_done, if_written, rest_done, unary_done, value_more}
use Rattle.mpl_gen_expr.proofs.Forms.{no_values_written}
use Rattle.mpl_gen_expr.proofs.Texts.{either_written}
use Rattle.mpl_gen_expr.proofs.expressions.+expression.Goals as goal

pub expression-returns-in_ok-expression-in-Or : goal.expression-returns-in_ok-expression-in-Or
unfolding roll-Expression denote.Hole.Carrier.roll
expression-returns-in_ok-expression-in-Or t c =
    let arm = c.in-Or in
    let is = ap expr_of arm.is ∙ expression_rolls expr_of_forms (Expression-F.Or arm.field-0 arm.field-1 arm.left arm.right) in
    if_written c.or_else.result
    (rest_done (env_seen c.args.scope.now) (expr_of c.args.node.now) (expr_of arm.left) (expr_of_conjunction arm.right) (expr_of c.get.result.now) (expr_of_conjunction c.get-in-Or.result.now)
    arm.field-0 arm.field-1 Or (λ (q : Piece). either (one (instr.Push (bool_word true))) q) c.args.codes.now c.expression.new.codes c.or_else.new.codes
    is (ap expr_of c.get.ensures) (ap expr_of_conjunction c.get-in-Or.ensures) (λ p q. refl) c.in_ok-expression-in-Or.ensures)
    c.or_else.ensures

pub conjunction-returns-in_ok-conjunction-in-And : goal.conjunction-returns-in_ok-conjunction-in-And
unfolding roll-Conjunction denote.Hole.Carrier.roll
conjunction-returns-in_ok-conjunction-in-And t c =
    let arm = c.in-And in
    let is = ap expr_of_conjunction arm.is ∙ conjunction_rolls expr_of_forms (Conjunction-F.And arm.field-0 arm.field-1 arm.left arm.right) in
    if_written c.and_then.result
    (rest_done (env_seen c.args.scope.now) (expr_of_conjunction c.args.node.now) (expr_of_conjunction arm.left) (expr_of_equality arm.right) (expr_of_conjunction c.get.result.now) (expr_of_equality c.get-in-And.result.now)
    arm.field-0 arm.field-1 And (λ (q : Piece). either q (one (instr.Push (bool_word false)))) c.args.codes.now c.conjunction.new.codes c.and_then.new.codes
    is (ap expr_of_conjunction c.get.ensures) (ap expr_of_equality c.get-in-And.ensures) (λ p q. refl) c.in_ok-conjunction-in-And.ensures)
    c.and_then.ensures

pub or_else-returns : goal.or_else-returns
or_else-returns t c =
    either_written (one (instr.Push (bool_word true))) (value_code (env_seen c.args.scope.now) (expr_of_conjunction c.args.right.now)) _ _ _ _ _ _ _ _
    c.in_ok-test.ensures.place c.in_ok-test.ensures.code c.in_ok-push.ensures.ok
    c.in_ok-end.ensures.place c.in_ok-end.ensures.code c.in_ok-conjunction.ensures c.land.ensures

pub and_then-returns : goal.and_then-returns
and_then-returns t c =
    either_written (value_code (env_seen c.args.scope.now) (expr_of_equality c.args.right.now)) (one (instr.Push (bool_word false))) _ _ _ _ _ _ _ _
    c.in_ok-test.ensures.place c.in_ok-test.ensures.code c.in_ok-equality.ensures
    c.in_ok-end.ensures.place c.in_ok-end.ensures.code c.in_ok-push.ensures.ok c.land.ensures

pub equality-returns-in_ok-relation-in-Equate : goal.equality-returns-in_ok-relation-in-Equate
unfolding roll-Equality denote.Hole.Carrier.roll
equality-returns-in_ok-relation-in-Equate t c =
    let arm = c.in-Equate in
    let is = ap expr_of_equality arm.is ∙ equality_rolls expr_of_forms (Equality-F.Equate arm.field-0 arm.field-1 arm.left arm.operator arm.right) in
    if_written c.push.result
    (both_done (env_seen c.args.scope.now) (expr_of_equality c.args.node.now) (expr_of_equality arm.left) (expr_of_relation arm.right) (expr_of_equality c.get.result.now) (expr_of_relation c.get-in-Equate.result.now)
    arm.field-0 arm.field-1 (Equate arm.operator) (equality_instr arm.operator) c.equality_instr.result c.args.codes.now c.equality.new.codes c.relation-in-Equate.new.codes c.push.new.self
    is (ap expr_of_equality c.get.ensures) (ap expr_of_relation c.get-in-Equate.ensures) (λ p q. refl) c.equality_instr.ensures c.in_ok-equality-in-Equate.ensures c.in_ok-relation-in-Equate.ensures)
    c.push.ensures.ok

pub relation-returns-in_ok-sum-in-Compare : goal.relation-returns-in_ok-sum-in-Compare
unfolding roll-Relation denote.Hole.Carrier.roll
relation-returns-in_ok-sum-in-Compare t c =
    let arm = c.in-Compare in
    let is = ap expr_of_relation arm.is ∙ relation_rolls expr_of_forms (Relation-F.Compare arm.field-0 arm.field-1 arm.left arm.operator arm.right) in
    if_written c.push.result
    (both_done (env_seen c.args.scope.now) (expr_of_relation c.args.node.now) (expr_of_relation arm.left) (expr_of_sum arm.right) (expr_of_relation c.get.result.now) (expr_of_sum c.get-in-Compare.result.now)
    arm.field-0 arm.field-1 (Compare arm.operator) (relation_instr arm.operator) c.relation_instr.result c.args.codes.now c.relation.new.codes c.sum-in-Compare.new.codes c.push.new.self
    is (ap expr_of_relation c.get.ensures) (ap expr_of_sum c.get-in-Compare.ensures) (λ p q. refl) c.relation_instr.ensures c.in_ok-relation-in-Compare.ensures c.in_ok-sum-in-Compare.ensures)
    c.push.ensures.ok

pub sum-returns-in_ok-term-in-Add : goal.sum-returns-in_ok-term-in-Add
unfolding roll-Sum denote.Hole.Carrier.roll
sum-returns-in_ok-term-in-Add t c =
    let arm = c.in-Add in
    let is = ap expr_of_sum arm.is ∙ sum_rolls expr_of_forms (Sum-F.Add arm.field-0 arm.line arm.left arm.operator arm.right) in
    if_written c.push.result
    (both_done (env_seen c.args.scope.now) (expr_of_sum c.args.node.now) (expr_of_sum arm.left) (expr_of_term arm.right) (expr_of_sum c.get.result.now) (expr_of_term c.get-in-Add.result.now)
    arm.field-0 arm.line (Add arm.operator) (sum_instr arm.line arm.operator) c.sum_instr.result c.args.codes.now c.sum.new.codes c.term-in-Add.new.codes c.push.new.self
    is (ap expr_of_sum c.get.ensures) (ap expr_of_term c.get-in-Add.ensures) (λ p q. refl) c.sum_instr.ensures c.in_ok-sum-in-Add.ensures c.in_ok-term-in-Add.ensures)
    c.push.ensures.ok

pub term-returns-in_ok-unary-in-Multiply : goal.term-returns-in_ok-unary-in-Multiply
unfolding roll-Term denote.Hole.Carrier.roll
term-returns-in_ok-unary-in-Multiply t c =
    let arm = c.in-Multiply in
    let is = ap expr_of_term arm.is ∙ term_rolls expr_of_forms (Term-F.Multiply arm.field-0 arm.line arm.left arm.operator arm.right) in
    if_written c.push.result
    (both_done (env_seen c.args.scope.now) (expr_of_term c.args.node.now) (expr_of_term arm.left) (expr_of_unary arm.right) (expr_of_term c.get.result.now) (expr_of_unary c.get-in-Multiply.result.now)
    arm.field-0 arm.line (Multiply arm.operator) (term_instr arm.line arm.operator) c.term_instr.result c.args.codes.now c.term.new.codes c.unary-in-Multiply.new.codes c.push.new.self
    is (ap expr_of_term c.get.ensures) (ap expr_of_unary c.get-in-Multiply.ensures) (λ p q. refl) c.term_instr.ensures c.in_ok-term-in-Multiply.ensures c.in_ok-unary-in-Multiply.ensures)
    c.push.ensures.ok

pub unary-returns-in_ok-unary-in-Apply : goal.unary-returns-in_ok-unary-in-Apply
unfolding roll-Unary denote.Hole.Carrier.roll
unary-returns-in_ok-unary-in-Apply t c =
    let arm = c.in-Apply in
    let is = ap expr_of_unary arm.is ∙ unary_rolls expr_of_forms (Unary-F.Apply arm.field-0 arm.line arm.operator arm.operand) in
    if_written c.push.result
    (unary_done (env_seen c.args.scope.now) (expr_of_unary c.args.node.now) (expr_of_unary arm.operand) (expr_of_unary c.get.result.now) arm.field-0 arm.line arm.operator
    c.unary_instr.result c.args.codes.now c.unary.new.codes c.push.new.self
    is (ap expr_of_unary c.get.ensures) c.unary_instr.ensures c.in_ok-unary-in-Apply.ensures)
    c.push.ensures.ok

pub place-returns-in_ok-expression-in-Element : goal.place-returns-in_ok-expression-in-Element
unfolding roll-Place denote.Hole.Carrier.roll
place-returns-in_ok-expression-in-Element t c =
    let arm = c.in-Element in
    let is = ap expr_of_place arm.is ∙ place_rolls expr_of_forms (Place-F.Element arm.at arm.line arm.target arm.index) in
    if_written c.element.result
    (element_done (env_seen c.args.scope.now) (expr_of_place c.args.node.now) (expr_of arm.index) (expr_of c.get.result.now) arm.at arm.line arm.target _ _
    c.args.codes.now c.need.new.codes c.expression.new.codes c.element.new.codes
    is (ap expr_of c.get.ensures) c.has-in-Element.ensures c.in_ok-found-in-Element.ensures c.in_ok-need-in-Element.ensures c.in_ok-expression-in-Element.ensures)
    c.element.ensures

pub arguments-loop-argument-preserved : goal.arguments-loop-argument-preserved
arguments-loop-argument-preserved t c =
    let all = c.args.list.now in
    let i = c.loop-argument.argument-index in
    let x = c.argument-item.result in
    let split : drop i all ≡ x ∷ drop (i + 1) all =
    drop-cons all i x (omega arith) ∙ ap (λ y. y ∷ drop (suc i) all) (sym c.argument-item.is) ∙ ap (λ n. x ∷ drop n all) (let e : suc i ≡ i + 1 = omega arith in e) in
    value_more (env_seen c.args.scope.now) x (drop (i + 1) all) (drop i all) c.loop-argument.codes c.expression.new.codes _ split c.in_ok-expression.ensures c.loop-argument.invariant

pub arguments-returns : goal.arguments-returns
arguments-returns t c =
    let env = env_seen c.args.scope.now in
    let all = c.args.list.now in
    let text = c.loop-argument.codes in
    sym (no_values_written env text) ∙ ap (λ es. written (all_values env es) text) (sym (drop_of_length-le all {i = c.loop-argument.argument-index} (omega arith))) ∙ c.loop-argument.invariant
