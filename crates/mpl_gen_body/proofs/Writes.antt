-- What the writing of branches and loops comes to, from what their calls have written.
use Rattle.std.proofs.Common.{◌≡◌, ℕ, [], length, refl, ap, ap₂, sym, subst, ◌∙◌}
use Rattle.mdf_code.specs.declared.instr.Instr.TheVariants as instr
use Rattle.mpl_mean.specs.Plain.Expr.{Expr}
use Rattle.mpl_mean.specs.Plain.Stmt.{Stmt}
use Rattle.mpl_mean.specs.Plain.Stmt as s
use Rattle.mpl_gen_code.specs.ExpressionCode.{value_code}
use Rattle.mpl_gen_code.specs.Pieces.{Piece, either, joined, loop, one, unless_zero}
use Rattle.mpl_gen_code.specs.Scopes.{Env}
use Rattle.mpl_gen_code.specs.StatementCode.{behind, behind_block, stmt_code}
use Rattle.mpl_gen_expr.specs.Texts.{Text, place, placed, written}
use Rattle.mpl_gen_expr.proofs.Texts.{either_written, joined_written, none_written, unless_written}
use Rattle.mpl_gen_body.specs.Internal.Writing.{Wrote, left}
use Rattle.mpl_gen_body.proofs.Blocks.{left_loop}
use Rattle.mpl_gen_body.proofs.Loops.{loop_written}
use Rattle.mpl_gen_body.proofs.Rows.{then_done}

pub when_done : (env next : Env) (test : Expr) (tree : Stmt) (t t1 t2 t3 : Text) (at : ℕ) → at ≡ place (written (value_code env test) t)
    → t1 ≡ written (one (instr.JumpZero 0)) (written (value_code env test) t) → Wrote (stmt_code env tree) (behind_block tree env) t1 t2 next
    → t3 ≡ placed at (instr.JumpZero (place t2)) t2 → Wrote (stmt_code env (s.When test tree)) (behind (s.When test tree) env) t t3 next
when_done env next test tree t t1 t2 t3 at at_is is1 part is3 = record {
  code =
      unless_written (stmt_code env tree) (written (value_code env test) t) t1 t2 t3 at at_is is1 part.code is3
      ∙ sym (joined_written (value_code env test) (unless_zero (stmt_code env tree)) t);
  env = part.env;
}

pub either_done : (env middle next : Env) (test : Expr) (first second : Stmt) (t t1 t2 t3 t4 t5 : Text) (at end : ℕ) → at ≡ place (written (value_code env test) t)
    → t1 ≡ written (one (instr.JumpZero 0)) (written (value_code env test) t) → Wrote (stmt_code env first) (behind_block first env) t1 t2 middle
    → end ≡ place t2 → t3 ≡ placed at (instr.JumpZero (place (written (one (instr.Jump 0)) t2))) (written (one (instr.Jump 0)) t2)
    → Wrote (stmt_code middle second) (behind_block second middle) t3 t4 next → t5 ≡ placed end (instr.Jump (place t4)) t4
    → Wrote (stmt_code env (s.Branches test first second)) (behind (s.Branches test first second) env) t t5 next
either_done env middle next test first second t t1 t2 t3 t4 t5 at end at_is is1 part end_is is3 other is5 = record {
  code =
      either_written (stmt_code env first) (stmt_code (behind_block first env) second) (written (value_code env test) t) t1 t2 t3 t4 t5 at end at_is is1 part.code end_is is3
      (other.code ∙ ap (λ (e : Env). written (stmt_code e second) t3) part.env) is5
      ∙ sym (joined_written (value_code env test) (either (stmt_code env first) (stmt_code (behind_block first env) second)) t);
  env = other.env ∙ ap₂ (λ (e f : Env). record (behind second e) { scope = f.scope }) part.env part.env;
}

pub repeat_done : (env next : Env) (test : Expr) (tree : Stmt) (t t1 t2 t3 t4 : Text) (start at : ℕ) → start ≡ place t → at ≡ place (written (joined (one instr.Test) (value_code env test)) t)
    → t1 ≡ written (one (instr.JumpZero 0)) (written (joined (one instr.Test) (value_code env test)) t) → Wrote (stmt_code env tree) (behind_block tree env) t1 t2 next
    → t3 ≡ written (one (instr.Jump start)) t2 → t4 ≡ placed at (instr.JumpZero (place t3)) t3
    → Wrote (stmt_code env (s.Repeats test tree)) (behind (s.Repeats test tree) env) t t4 next
repeat_done env next test tree t t1 t2 t3 t4 start at start_is at_is is1 part is3 is4 = record {
  code = loop_written (value_code env test) (stmt_code env tree) t t1 t2 t3 t4 start at start_is at_is is1 part.code is3 is4;
  env = part.env;
}

pub turns_done : (env middle next : Env) (test : Expr) (tree step : Stmt) (t t1 t2 t3 t4 t5 : Text) (start at : ℕ) → start ≡ place t → at ≡ place (written (joined (one instr.Test) (value_code env test)) t)
    → t1 ≡ written (one (instr.JumpZero 0)) (written (joined (one instr.Test) (value_code env test)) t) → Wrote (stmt_code env tree) (behind_block tree env) t1 t2 middle
    → Wrote (stmt_code middle step) (behind step middle) t2 t3 next
    → t4 ≡ written (one (instr.Jump start)) t3 → t5 ≡ placed at (instr.JumpZero (place t4)) t4
    → Wrote (loop (value_code env test) (joined (stmt_code env tree) (stmt_code (behind_block tree env) step))) (behind step (behind_block tree env)) t t5 next
turns_done env middle next test tree step t t1 t2 t3 t4 t5 start at start_is at_is is1 part other is4 is5 = record {
  code =
      loop_written (value_code env test) (joined (stmt_code env tree) (stmt_code (behind_block tree env) step)) t t1 t3 t4 t5 start at start_is at_is is1
      (then_done (stmt_code env tree) (stmt_code (behind_block tree env) step) t1 t2 t3 part.code (other.code ∙ ap (λ (e : Env). written (stmt_code e step) t2) part.env)) is4 is5;
  env = other.env ∙ ap (behind step) part.env;
}

-- the loop of a `for`, in what surrounds it
abbrev turns_piece : Env → Expr → Stmt → Stmt → Piece
turns_piece env test step tree = loop (value_code env test) (joined (stmt_code env tree) (stmt_code (behind_block tree env) step))

pub for_done : (env within inner next : Env) (first : Stmt) (test : Expr) (step tree : Stmt) (count : ℕ) (t t1 t2 : Text) → count ≡ length env.scope
    → Wrote (stmt_code env first) (behind first env) t t1 within
    → Wrote (loop (value_code within test) (joined (stmt_code within tree) (stmt_code (behind_block tree within) step))) (behind step (behind_block tree within)) t1 t2 inner
    → next ≡ left count inner → Wrote (stmt_code env (s.Loops first test step tree)) (behind (s.Loops first test step tree) env) t t2 next
for_done env within inner next first test step tree count t t1 t2 many begin turns last = record {
  code =
      then_done (stmt_code env first) (turns_piece (behind first env) test step tree) t t1 t2 begin.code
      (turns.code ∙ ap (λ (e : Env). written (turns_piece e test step tree) t1) begin.env);
  env =
      last ∙ ap₂ left many (turns.env ∙ ap (λ (e : Env). behind step (behind_block tree e)) begin.env) ∙ left_loop first step tree env;
}

-- ---- trees by their equations

pub as_tree : (env next : Env) (read tree : Stmt) (t t1 : Text) → read ≡ tree → Wrote (stmt_code env tree) (behind tree env) t t1 next → Wrote (stmt_code env read) (behind read env) t t1 next
as_tree env next read tree t t1 is w = subst (λ (tree : Stmt). Wrote (stmt_code env tree) (behind tree env) t t1 next) (sym is) w

pub empty_done : (env : Env) (read : Stmt) (t : Text) → read ≡ s.Nothing → Wrote (stmt_code env read) (behind read env) t t env
empty_done env read t is = as_tree env env read s.Nothing t t is (record { code = sym (none_written t); env = refl })

-- ---- the whole code of a body

pub all_written : (p : Piece) (t t1 : Text) → t ≡ record { base = 0; code = [] } → t1 ≡ written p t → t1.code ≡ p 0
unfolding written
all_written p t t1 is is1 = ap (λ (t : Text). t.code) (is1 ∙ ap (written p) is)
