-- The code of a loop, as it is written.
use Rattle.std.proofs.Common.{◌≡◌, ℕ, ap, sym, ◌∙◌}
use Rattle.mdf_code.specs.declared.instr.Instr.TheVariants as instr
use Rattle.mpl_gen_code.specs.Pieces.{Piece, followed_by, joined, loop, one, unless_zero}
use Rattle.mpl_gen_expr.proofs.Texts.{followed_written, joined_written, loop_is, unless_written}
use Rattle.mpl_gen_expr.specs.Texts.{Text, place, placed, written}

pub loop_written : (test body : Piece) (t t1 t2 t3 t4 : Text) (start at : ℕ) → start ≡ place t → at ≡ place (written (joined (one instr.Test) test) t)
    → t1 ≡ written (one (instr.JumpZero 0)) (written (joined (one instr.Test) test) t) → t2 ≡ written body t1 → t3 ≡ written (one (instr.Jump start)) t2
    → t4 ≡ placed at (instr.JumpZero (place t3)) t3 → t4 ≡ written (loop test body) t
loop_written test body t t1 t2 t3 t4 start at start_is at_is is1 is2 is3 is4 =
    let back : Piece = followed_by body (instr.Jump (place t)) in
    let inside : t3 ≡ written back t1 =
    is3 ∙ ap (λ n. written (one (instr.Jump n)) t2) start_is ∙ ap (written (one (instr.Jump (place t)))) is2 ∙ sym (followed_written body (instr.Jump (place t)) t1) in
    unless_written back (written (joined (one instr.Test) test) t) t1 t3 t4 at at_is is1 inside is4
    ∙ ap (written (unless_zero back)) (joined_written (one instr.Test) test t)
    ∙ sym (joined_written test (unless_zero back) (written (one instr.Test) t))
    ∙ sym (joined_written (one instr.Test) (joined test (unless_zero back)) t)
    ∙ loop_is test body t
