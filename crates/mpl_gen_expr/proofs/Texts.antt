-- What is written, piece by piece.
use Rattle.std.proofs.Common.{◌≡◌, ◌≤◌, ℕ, zero, suc, ◌+◌, ◌-◌, List, [], ◌∷◌, ◌++◌, length, map, append_assoc, add_assoc, arith, refl, ap, sym, ◌∙◌}
use Rattle.std.proofs.lemmas.List.{append-nil, length-append}
use Rattle.std.proofs.Math.ListN.{set}
use Rattle.std.proofs.Math.Seq.{set-append_seam}
use Rattle.mdf_code.specs.declared.instr.Instr.{Instr}
use Rattle.mdf_code.specs.declared.instr.Instr.TheVariants as instr
use Rattle.mpl_gen_code.specs.Pieces.{Piece, either, followed_by, joined, loop, no_code, one, unless_zero}
use Rattle.mpl_gen_expr.specs.Drafts.{drafted}
use Rattle.mpl_gen_expr.specs.Texts.{Text, place, placed, written}
use Rattle.mpl_gen_expr.specs.declared.draft.Draft.{Draft}

abbrev text_of : ℕ → List Instr → Text
text_of base code = record { base = base; code = code }

-- ---- texts by their parts

pub set_past : (code : List Instr) (n : ℕ) (i : Instr) → length code ≤ n → set code n i ≡ code
set_past [] n i h = refl
set_past (x ∷ code) zero i h = absurd (let e : ⊥ = omega (arith, h) in e)
set_past (x ∷ code) (suc n) i h = ap (λ code. x ∷ code) (set_past code n i (let e : length code ≤ n = omega arith in e))

pub set_drafted : (drafts : List Draft) (n : ℕ) (d : Draft) → map drafted (set drafts n d) ≡ set (map drafted drafts) n (drafted d)
set_drafted [] n d = refl
set_drafted (x ∷ drafts) zero d = refl
set_drafted (x ∷ drafts) (suc n) d = ap (λ code. drafted x ∷ code) (set_drafted drafts n d)

-- ---- pieces

pub none_written : (t : Text) → written no_code t ≡ t
unfolding written
none_written t = ap (text_of t.base) (append-nil t.code)

pub joined_written : (p q : Piece) (t : Text) → written (joined p q) t ≡ written q (written p t)
unfolding written
joined_written p q t =
    ap (text_of t.base) (sym (append_assoc t.code (p (t.base + length t.code)) (q ((t.base + length t.code) + length (p (t.base + length t.code)))))
    ∙ ap (λ n. (t.code ++ p (t.base + length t.code)) ++ q n) (add_assoc t.base (length t.code) (length (p (t.base + length t.code))))
    ∙ ap (λ n. (t.code ++ p (t.base + length t.code)) ++ q (t.base + n)) (sym (length-append t.code (p (t.base + length t.code)))))

pub followed_written : (p : Piece) (i : Instr) (t : Text) → written (followed_by p i) t ≡ written (one i) (written p t)
unfolding written
followed_written p i t = ap (text_of t.base) (sym (append_assoc t.code (p (t.base + length t.code)) (i ∷ [])))

-- ---- jumps

seam : (b k : ℕ) (c rest : List Instr) (x y : Instr) → k ≡ b + length c → placed k y (text_of b (c ++ x ∷ rest)) ≡ text_of b (c ++ y ∷ rest)
unfolding placed
seam b k c rest x y is =
    ap (λ n. text_of b (set (c ++ x ∷ rest) (n - b) y)) is
    ∙ ap (λ n. text_of b (set (c ++ x ∷ rest) n y)) (let e : (b + length c) - b ≡ length c = omega arith in e)
    ∙ ap (text_of b) (set-append_seam c x rest y)

wrote : (b n : ℕ) (c : List Instr) (p : Piece) → b + length c ≡ n → written p (text_of b c) ≡ text_of b (c ++ p n)
unfolding written
wrote b n c p is = ap (λ n. text_of b (c ++ p n)) is

stands_at : (b n : ℕ) (c : List Instr) → b + length c ≡ n → place (text_of b c) ≡ n
unfolding place
stands_at b n c is = is

behind : (b k : ℕ) (c rest : List Instr) (x : Instr) → k ≡ length rest → b + length (c ++ x ∷ rest) ≡ (b + length c) + 1 + k
behind b k c rest x is =
    ap (λ n. b + n) (length-append c (x ∷ rest)) ∙ (let e : b + (length c + suc (length rest)) ≡ (b + length c) + 1 + k = omega arith in e)

-- a jump that is still open, and what it may pass over
opened : (b : ℕ) (c : List Instr) (p : Piece) (x : Instr) → written p (written (one x) (text_of b c)) ≡ text_of b (c ++ x ∷ p ((b + length c) + 1))
opened b c p x =
    ap (written p) (wrote b (b + length c) c (one x) refl)
    ∙ wrote b ((b + length c) + 1) (c ++ x ∷ []) p (behind b 0 c [] x refl ∙ (let e : (b + length c) + 1 + 0 ≡ (b + length c) + 1 = omega arith in e))
    ∙ ap (text_of b) (append_assoc c (x ∷ []) (p ((b + length c) + 1)))

place_split : (t : Text) → place t ≡ t.base + length t.code
unfolding place
place_split t = refl

unless_is : (p : Piece) (t : Text) → text_of t.base (t.code ++ instr.JumpZero ((t.base + length t.code) + 1 + length (p ((t.base + length t.code) + 1))) ∷ p ((t.base + length t.code) + 1)) ≡ written (unless_zero p) t
unfolding written
unless_is p t = refl

pub unless_written : (p : Piece) (t t1 t2 t3 : Text) (at : ℕ) → at ≡ place t → t1 ≡ written (one (instr.JumpZero 0)) t → t2 ≡ written p t1
    → t3 ≡ placed at (instr.JumpZero (place t2)) t2 → t3 ≡ written (unless_zero p) t
unless_written p t t1 t2 t3 at at_is is1 is2 is3 =
    let b = t.base in
    let c = t.code in
    let n : ℕ = b + length c in
    let two : t2 ≡ text_of b (c ++ instr.JumpZero 0 ∷ p (n + 1)) = is2 ∙ ap (written p) is1 ∙ opened b c p (instr.JumpZero 0) in
    is3
    ∙ ap (λ (t : Text). placed at (instr.JumpZero (place t)) t) two
    ∙ ap (λ k. placed at (instr.JumpZero k) (text_of b (c ++ instr.JumpZero 0 ∷ p (n + 1)))) (stands_at b (n + 1 + length (p (n + 1))) (c ++ instr.JumpZero 0 ∷ p (n + 1)) (behind b (length (p (n + 1))) c (p (n + 1)) (instr.JumpZero 0) refl))
    ∙ seam b at c (p (n + 1)) (instr.JumpZero 0) (instr.JumpZero (n + 1 + length (p (n + 1)))) (at_is ∙ place_split t)
    ∙ unless_is p t

either_is : (p q : Piece) (t : Text) (n m : ℕ) (f s : List Instr) → n ≡ t.base + length t.code → f ≡ p (n + 1) → m ≡ n + 1 + length f → s ≡ q (m + 1)
    → text_of t.base (t.code ++ instr.JumpZero (m + 1) ∷ (f ++ instr.Jump (m + 1 + length s) ∷ s)) ≡ written (either p q) t
unfolding written
either_is p q t n m f s n_is f_is m_is s_is =
    let at : n + 1 + length (p (n + 1)) ≡ m = ap (λ (f : List Instr). n + 1 + length f) (sym f_is) ∙ sym m_is in
    ap (λ (s : List Instr). text_of t.base (t.code ++ instr.JumpZero (m + 1) ∷ (f ++ instr.Jump (m + 1 + length s) ∷ s))) s_is
    ∙ ap (λ (f : List Instr). text_of t.base (t.code ++ instr.JumpZero (m + 1) ∷ (f ++ instr.Jump (m + 1 + length (q (m + 1))) ∷ q (m + 1)))) f_is
    ∙ ap (λ m. text_of t.base (t.code ++ instr.JumpZero (m + 1) ∷ (p (n + 1) ++ instr.Jump (m + 1 + length (q (m + 1))) ∷ q (m + 1)))) (sym at)
    ∙ ap (λ n. text_of t.base (t.code ++ either p q n)) n_is

pub either_written : (p q : Piece) (t t1 t2 t3 t4 t5 : Text) (at end : ℕ) → at ≡ place t → t1 ≡ written (one (instr.JumpZero 0)) t → t2 ≡ written p t1
    → end ≡ place t2 → t3 ≡ placed at (instr.JumpZero (place (written (one (instr.Jump 0)) t2))) (written (one (instr.Jump 0)) t2)
    → t4 ≡ written q t3 → t5 ≡ placed end (instr.Jump (place t4)) t4 → t5 ≡ written (either p q) t
either_written p q t t1 t2 t3 t4 t5 at end at_is is1 is2 end_is is3 is4 is5 =
    let b = t.base in
    let c = t.code in
    let n : ℕ = b + length c in
    let f : List Instr = p (n + 1) in
    let m : ℕ = n + 1 + length f in
    let s : List Instr = q (m + 1) in
    let zero_jump : Instr = instr.JumpZero (m + 1) in
    let two : t2 ≡ text_of b (c ++ instr.JumpZero 0 ∷ f) = is2 ∙ ap (written p) is1 ∙ opened b c p (instr.JumpZero 0) in
    let two_place : b + length (c ++ instr.JumpZero 0 ∷ f) ≡ m = behind b (length f) c f (instr.JumpZero 0) refl in
    let more : written (one (instr.Jump 0)) t2 ≡ text_of b (c ++ instr.JumpZero 0 ∷ (f ++ instr.Jump 0 ∷ [])) =
    ap (written (one (instr.Jump 0))) two ∙ wrote b m (c ++ instr.JumpZero 0 ∷ f) (one (instr.Jump 0)) two_place ∙ ap (text_of b) (append_assoc c (instr.JumpZero 0 ∷ f) (instr.Jump 0 ∷ [])) in
    let one_more : (x : Instr) → b + length (c ++ x ∷ (f ++ instr.Jump 0 ∷ [])) ≡ m + 1 = λ x.
    behind b (length f + 1) c (f ++ instr.Jump 0 ∷ []) x (sym (length-append f (instr.Jump 0 ∷ []))) ∙ (let e : n + 1 + (length f + 1) ≡ m + 1 = omega arith in e) in
    let three : t3 ≡ text_of b (c ++ zero_jump ∷ (f ++ instr.Jump 0 ∷ [])) =
    is3
    ∙ ap (λ (t : Text). placed at (instr.JumpZero (place t)) t) more
    ∙ ap (λ k. placed at (instr.JumpZero k) (text_of b (c ++ instr.JumpZero 0 ∷ (f ++ instr.Jump 0 ∷ [])))) (stands_at b (m + 1) (c ++ instr.JumpZero 0 ∷ (f ++ instr.Jump 0 ∷ [])) (one_more (instr.JumpZero 0)))
    ∙ seam b at c (f ++ instr.Jump 0 ∷ []) (instr.JumpZero 0) zero_jump (at_is ∙ place_split t) in
    let four : t4 ≡ text_of b ((c ++ zero_jump ∷ f) ++ instr.Jump 0 ∷ s) =
    is4 ∙ ap (written q) three ∙ wrote b (m + 1) (c ++ zero_jump ∷ (f ++ instr.Jump 0 ∷ [])) q (one_more zero_jump)
    ∙ ap (text_of b) (append_assoc c (zero_jump ∷ (f ++ instr.Jump 0 ∷ [])) s ∙ ap (λ (rest : List Instr). c ++ zero_jump ∷ rest) (append_assoc f (instr.Jump 0 ∷ []) s) ∙ sym (append_assoc c (zero_jump ∷ f) (instr.Jump 0 ∷ s))) in
    let four_place : b + length ((c ++ zero_jump ∷ f) ++ instr.Jump 0 ∷ s) ≡ m + 1 + length s =
    behind b (length s) (c ++ zero_jump ∷ f) s (instr.Jump 0) refl ∙ ap (λ k. k + 1 + length s) (behind b (length f) c f zero_jump refl) in
    is5
    ∙ ap (λ (t : Text). placed end (instr.Jump (place t)) t) four
    ∙ ap (λ k. placed end (instr.Jump k) (text_of b ((c ++ zero_jump ∷ f) ++ instr.Jump 0 ∷ s))) (stands_at b (m + 1 + length s) ((c ++ zero_jump ∷ f) ++ instr.Jump 0 ∷ s) four_place)
    ∙ seam b end (c ++ zero_jump ∷ f) s (instr.Jump 0) (instr.Jump (m + 1 + length s)) (end_is ∙ ap place two ∙ stands_at b m (c ++ instr.JumpZero 0 ∷ f) two_place ∙ sym (behind b (length f) c f zero_jump refl))
    ∙ ap (text_of b) (append_assoc c (zero_jump ∷ f) (instr.Jump (m + 1 + length s) ∷ s))
    ∙ either_is p q t n m f s refl refl refl refl

pub loop_is : (test body : Piece) (t : Text) → written (joined (one instr.Test) (joined test (unless_zero (followed_by body (instr.Jump (place t)))))) t ≡ written (loop test body) t
unfolding written place
loop_is test body t = refl
