-- What is passed on, and the value of what a call gives.
use Rattle.std.proofs.Common.{◌≡◌, ℕ, None, ap, sym, ◌∙◌}
use Rattle.mpl_ast.specs.declared.expression.Target.{Target}
use Rattle.mpl_ast.specs.declared.place.At.{At}
use Rattle.mdf_code.specs.declared.instr.Instr.TheVariants as instr
use Rattle.mpl_mean.specs.Meaning.CallMeaning.{name_of_target}
use Rattle.mpl_mean.specs.Plain.Expr as e
use Rattle.mpl_mean.specs.Plain.Expr.{Expr}
use Rattle.mpl_gen_code.specs.ExpressionCode.{flow_code, of_place, read_code, value_code}
use Rattle.mpl_gen_code.specs.Pieces.{Piece, followed_by, one}
use Rattle.mpl_gen_code.specs.Scopes.{Env, found_at, whole_slot}
use Rattle.mpl_gen_code.specs.Words.{words_of_expr}
use Rattle.mpl_gen_expr.specs.Texts.{Text, written}
use Rattle.mpl_gen_expr.proofs.Texts.{followed_written}

-- a part of the state is passed on by its words
pub state_flow : (env : Env) (at : At) (target : Target) → whole_slot env (name_of_target target) ≡ None
    → flow_code env (e.Whole at target) ≡ followed_by (value_code env (e.Whole at target)) (instr.ArgWords (words_of_expr env (e.Whole at target)))
state_flow env at target none =
    let words : ℕ = words_of_expr env (e.Whole at target) in
    let value : Piece = read_code (env.marks at.id) (found_at env target) in
    ap (λ slot. (of_place slot words value).flow) none
    ∙ ap (λ slot. followed_by ((of_place slot words value).value) (instr.ArgWords words)) (sym none)

-- so many words, of a value
pub words_done : (env : Env) (x y : Expr) (words n : ℕ) (t t1 t2 : Text) → x ≡ y → flow_code env y ≡ followed_by (value_code env y) (instr.ArgWords words) → n ≡ words
    → t1 ≡ written (value_code env x) t → t2 ≡ written (one (instr.ArgWords n)) t1 → t2 ≡ written (flow_code env x) t
words_done env x y words n t t1 t2 is flow_is n_is is1 is2 =
    is2 ∙ ap (λ n. written (one (instr.ArgWords n)) t1) n_is
    ∙ ap (written (one (instr.ArgWords words))) (is1 ∙ ap (λ y. written (value_code env y) t) is)
    ∙ sym (followed_written (value_code env y) (instr.ArgWords words) t)
    ∙ ap (λ (piece : Piece). written piece t) (sym flow_is)
    ∙ ap (λ y. written (flow_code env y) t) (sym is)

-- the words of what a call gives
pub forced_done : (env : Env) (x y : Expr) (t t1 t2 : Text) → x ≡ y → value_code env y ≡ followed_by (flow_code env y) instr.Force
    → t1 ≡ written (flow_code env x) t → t2 ≡ written (one instr.Force) t1 → t2 ≡ written (value_code env x) t
forced_done env x y t t1 t2 is value_is is1 is2 =
    is2 ∙ ap (written (one instr.Force)) (is1 ∙ ap (λ y. written (flow_code env y) t) is)
    ∙ sym (followed_written (flow_code env y) instr.Force t)
    ∙ ap (λ (piece : Piece). written piece t) (sym value_is)
    ∙ ap (λ y. written (value_code env y) t) (sym is)
