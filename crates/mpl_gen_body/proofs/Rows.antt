-- Some instructions, one after another, as they are pushed.
use Rattle.std.proofs.Common.{◌≡◌, List, [], ◌∷◌, ap, sym, ◌∙◌}
use Rattle.mdf_code.specs.declared.instr.Instr.{Instr}
use Rattle.mpl_gen_code.specs.Pieces.{Piece, followed_by, joined, one}
use Rattle.mpl_gen_expr.proofs.Texts.{followed_written, joined_written}
use Rattle.mpl_gen_expr.specs.Texts.{Text, written}

abbrev row_of : List Instr → Piece
row_of row base = row

-- one more instruction behind a row
more : (row : List Instr) (x : Instr) (t t1 t2 : Text) → t1 ≡ written (row_of row) t → t2 ≡ written (one x) t1 → t2 ≡ written (followed_by (row_of row) x) t
more row x t t1 t2 is1 is2 = is2 ∙ ap (written (one x)) is1 ∙ sym (followed_written (row_of row) x t)

pub two_done : (a b : Instr) (t t1 t2 : Text) → t1 ≡ written (one a) t → t2 ≡ written (one b) t1 → t2 ≡ written (λ _. a ∷ b ∷ []) t
two_done a b t t1 t2 is1 is2 = more (a ∷ []) b t t1 t2 is1 is2

pub three_done : (a b c : Instr) (t t1 t2 t3 : Text) → t1 ≡ written (one a) t → t2 ≡ written (one b) t1 → t3 ≡ written (one c) t2 → t3 ≡ written (λ _. a ∷ b ∷ c ∷ []) t
three_done a b c t t1 t2 t3 is1 is2 is3 = more (a ∷ b ∷ []) c t t2 t3 (two_done a b t t1 t2 is1 is2) is3

pub six_done : (a b c d e f : Instr) (t t1 t2 t3 t4 t5 t6 : Text) → t1 ≡ written (one a) t → t2 ≡ written (one b) t1 → t3 ≡ written (one c) t2 → t4 ≡ written (one d) t3 → t5 ≡ written (one e) t4
    → t6 ≡ written (one f) t5 → t6 ≡ written (λ _. a ∷ b ∷ c ∷ d ∷ e ∷ f ∷ []) t
six_done a b c d e f t t1 t2 t3 t4 t5 t6 is1 is2 is3 is4 is5 is6 =
    let four = more (a ∷ b ∷ c ∷ []) d t t3 t4 (three_done a b c t t1 t2 t3 is1 is2 is3) is4 in
    more (a ∷ b ∷ c ∷ d ∷ e ∷ []) f t t5 t6 (more (a ∷ b ∷ c ∷ d ∷ []) e t t4 t5 four is5) is6

-- one piece and then another
pub then_done : (p q : Piece) (t t1 t2 : Text) → t1 ≡ written p t → t2 ≡ written q t1 → t2 ≡ written (joined p q) t
then_done p q t t1 t2 is1 is2 = is2 ∙ ap (written q) is1 ∙ sym (joined_written p q t)
