-- What the writing of a form comes to, from what its calls have written.
use Rattle.std.proofs.Common.{◌≡◌, ℕ, Bool, List, ◌∷◌, Option, Result, Ok, Err, ap, ap₂, sym, ◌∙◌}
use Rattle.std.specs.Prelude.{OnOk}
use Rattle.mpl_ast.specs.declared.expression.Expression.{Expression}
use Rattle.mpl_ast.specs.declared.expression.Target.{Target}
use Rattle.mpl_ast.specs.declared.expression.UnaryOperator.{UnaryOperator}
use Rattle.mpl_ast.specs.declared.flow.Flow.{Flow}
use Rattle.mpl_ast.specs.declared.place.At.{At}
use Rattle.mpl_value.specs.declared.memory.NoMemory.{NoMemory}
use Rattle.mdf_code.specs.declared.instr.Instr.{Instr}
use Rattle.mpl_mean.specs.Levels.{BinaryOperator}
use Rattle.mpl_mean.specs.Plain.Expr as e
use Rattle.mpl_mean.specs.Plain.Expr.{Expr, expr_of, expr_of_flow}
use Rattle.mpl_gen_code.specs.ExpressionCode.{binary_code, both_code, element_of, flow_code, need_of, unary_instr, value_code}
use Rattle.mpl_gen_code.specs.Pieces.{Piece, followed_by, joined, one}
use Rattle.mpl_gen_code.specs.Scopes.{Env, Found, found_at}
use Rattle.mpl_gen_expr.specs.RowCodes.{all_flows, all_values}
use Rattle.mpl_gen_expr.specs.Texts.{Text, written}
use Rattle.mpl_gen_expr.proofs.Forms.{element_written, flows_written, values_written}
use Rattle.mpl_gen_expr.proofs.Texts.{followed_written, joined_written}

pub if_written : {P Q : Type 0} (r : Result (Unit {0}) NoMemory) → (P → Q) → OnOk r P → OnOk r Q
if_written (Ok u) f h = f h
if_written (Err e) f h = h

-- ---- operators

pub unary_done : (env : Env) (x operand read : Expr) (at : At) (line : ℕ) (operator : UnaryOperator) (i : Instr) (t t1 t2 : Text)
    → x ≡ e.Unary at line operator operand → read ≡ operand → i ≡ unary_instr line operator
    → t1 ≡ written (value_code env read) t → t2 ≡ written (one i) t1 → t2 ≡ written (value_code env x) t
unary_done env x operand read at line operator i t t1 t2 is same i_is is1 is2 =
    is2 ∙ ap (λ i. written (one i) t1) i_is ∙ ap (written (one (unary_instr line operator))) (is1 ∙ ap (λ y. written (value_code env y) t) same)
    ∙ sym (followed_written (value_code env operand) (unary_instr line operator) t)
    ∙ ap (λ y. written (value_code env y) t) (sym is)

-- the left operand, and then the rest with the right one
pub rest_done : (env : Env) (x l r read_l read_r : Expr) (at : At) (line : ℕ) (operator : BinaryOperator) (rest : Piece → Piece) (t t1 t2 : Text)
    → x ≡ e.Binary at line operator l r → read_l ≡ l → read_r ≡ r → ((p q : Piece) → binary_code line operator p q ≡ joined p (rest q))
    → t1 ≡ written (value_code env read_l) t → t2 ≡ written (rest (value_code env read_r)) t1 → t2 ≡ written (value_code env x) t
rest_done env x l r read_l read_r at line operator rest t t1 t2 is same_l same_r code_is is1 is2 =
    is2 ∙ ap (λ y. written (rest (value_code env y)) t1) same_r
    ∙ ap (written (rest (value_code env r))) (is1 ∙ ap (λ y. written (value_code env y) t) same_l)
    ∙ sym (joined_written (value_code env l) (rest (value_code env r)) t)
    ∙ ap (λ (piece : Piece). written piece t) (sym (code_is (value_code env l) (value_code env r)))
    ∙ ap (λ y. written (value_code env y) t) (sym is)

pub both_done : (env : Env) (x l r read_l read_r : Expr) (at : At) (line : ℕ) (operator : BinaryOperator) (i j : Instr) (t t1 t2 t3 : Text)
    → x ≡ e.Binary at line operator l r → read_l ≡ l → read_r ≡ r → ((p q : Piece) → binary_code line operator p q ≡ both_code p q i) → j ≡ i
    → t1 ≡ written (value_code env read_l) t → t2 ≡ written (value_code env read_r) t1 → t3 ≡ written (one j) t2 → t3 ≡ written (value_code env x) t
both_done env x l r read_l read_r at line operator i j t t1 t2 t3 is same_l same_r code_is j_is is1 is2 is3 =
    rest_done env x l r read_l read_r at line operator (λ (q : Piece). followed_by q i) t t1 t3 is same_l same_r code_is is1
    (is3 ∙ ap (λ i. written (one i) t2) j_is ∙ ap (written (one i)) is2 ∙ sym (followed_written (value_code env read_r) i t1))

-- ---- places

pub element_done : (env : Env) (x index read : Expr) (at : At) (line : ℕ) (target : Target) (marked : Bool) (found : Option Found) (t t1 t2 t3 : Text)
    → x ≡ e.Element at line target index → read ≡ index → marked ≡ env.marks at.id → found ≡ found_at env target
    → t1 ≡ written (need_of marked found) t → t2 ≡ written (value_code env read) t1 → t3 ≡ written (element_of line found) t2 → t3 ≡ written (value_code env x) t
element_done env x index read at line target marked found t t1 t2 t3 is same marked_is found_is is1 is2 is3 =
    is3 ∙ ap (λ f. written (element_of line f) t2) found_is
    ∙ ap (written (element_of line (found_at env target)))
    (is2 ∙ ap (λ y. written (value_code env y) t1) same ∙ ap (written (value_code env index)) (is1 ∙ ap₂ (λ m f. written (need_of m f) t) marked_is found_is))
    ∙ sym (element_written env at line target index t)
    ∙ ap (λ y. written (value_code env y) t) (sym is)

-- ---- rows

pub value_more : (env : Env) (x : Expression) (rest later : List Expression) (t t1 end : Text) → later ≡ x ∷ rest
    → t1 ≡ written (value_code env (expr_of x)) t → written (all_values env later) t ≡ end → written (all_values env rest) t1 ≡ end
value_more env x rest later t t1 end split is before =
    ap (written (all_values env rest)) is ∙ sym (values_written env x rest t) ∙ ap (λ (es : List Expression). written (all_values env es) t) (sym split) ∙ before

pub flow_more : (env : Env) (x : Flow) (rest later : List Flow) (t t1 end : Text) → later ≡ x ∷ rest
    → t1 ≡ written (flow_code env (expr_of_flow x)) t → written (all_flows env later) t ≡ end → written (all_flows env rest) t1 ≡ end
flow_more env x rest later t t1 end split is before =
    ap (written (all_flows env rest)) is ∙ sym (flows_written env x rest t) ∙ ap (λ (flows : List Flow). written (all_flows env flows) t) (sym split) ∙ before
