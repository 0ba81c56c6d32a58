-- A loop that takes one part more in each turn: what was taken so far stands before what the rest of the loop takes.
use Rattle.std.proofs.Common.{◌≡◌, ℕ, zero, suc, ◌+◌, ◌-◌, ◌<◌, ◌≤◌, Bool, true, false, if◌then◌else◌, List, [], ◌∷◌, ◌++◌, length, Option, Some, None, refl, ap, sym, ◌∙◌, append_assoc, arith}
use Rattle.std.proofs.lemmas.List.{append-nil}
use Rattle.std.specs.Option.{option_and_then, option_map}
use Rattle.mpl_ast.specs.declared.token.Mark.TheVariants as m
use Rattle.mpl_mean.specs.Text.Reading.{Rest, is_mark, mark}
use Rattle.mpl_ast.specs.declared.expression.Unary.{Unary}
use Rattle.mpl_trees.specs.Rows.{Joint, more_pieces, take_joint, take_piece, take_pieces}
use Rattle.mpl_trees.specs.declared.piece.Piece.{Piece}
use Rattle.mpl_trees.specs.Taking.{Takes, all_of, both, is_ahead, more_of, skip_then, some_of}

abbrev pub behind : {A : Type 0} → List A → Option (List A × Rest) → Option (List A × Rest)
behind xs o = option_map (λ p. (xs ++ p.0, p.1)) o

pub one_more : {A : Type 0} (xs : List A) (x : A) (o : Option (List A × Rest)) → behind xs (option_map (λ q. (x ∷ q.0, q.1)) o) ≡ behind (xs ++ x ∷ []) o
one_more xs x None = refl
one_more {A = A} xs x (Some p) = ap (λ (ys : List A). Some (ys, p.1)) (sym (append_assoc xs (x ∷ []) p.0))

pub none_more : {A : Type 0} (xs : List A) (r : Rest) → behind xs (Some ([], r)) ≡ Some (xs, r)
none_more {A = A} xs r = ap (λ (ys : List A). Some (ys, r)) (append-nil xs)

-- what a turn takes
pub both-is : {A : Type 0} (take : Takes A) (more : Takes (List A)) (limit : ℕ) (r : Rest) {x : A} {s : Rest} → take limit r ≡ Some (x, s) → both ◌∷◌ take more limit r ≡ option_map (λ q. (x ∷ q.0, q.1)) (more limit s)
both-is {A = A} take more limit r e = ap (option_and_then (λ (p : A × Rest). option_map (λ (q : List A × Rest). (p.0 ∷ q.0, q.1)) (more limit p.1))) e

pub both-none : {A : Type 0} (take : Takes A) (more : Takes (List A)) (limit : ℕ) (r : Rest) → take limit r ≡ None → both ◌∷◌ take more limit r ≡ None
both-none {A = A} take more limit r e = ap (option_and_then (λ (p : A × Rest). option_map (λ (q : List A × Rest). (p.0 ∷ q.0, q.1)) (more limit p.1))) e

-- ---- with commas between

pub first-of : {A : Type 0} (take : Takes A) (limit : ℕ) (r : Rest) {x : A} {s : Rest} → take limit r ≡ Some (x, s) → some_of take limit r ≡ behind (x ∷ []) (more_of take (length r.tokens) limit s)
first-of take limit r e = both-is take (more_of take (length r.tokens)) limit r e

after_comma : {A : Type 0} (take : Takes A) (limit n k : ℕ) (r : Rest) {s : Rest} → n ≡ suc k → is_ahead (is_mark m.Comma) r.tokens ≡ true → mark m.Comma r ≡ Some s → more_of take n limit r ≡ both ◌∷◌ take (more_of take k) limit s
after_comma take limit n k r h c e = rw (h, c, e) refl

pub next-of : {A : Type 0} (take : Takes A) (limit n k : ℕ) (xs : List A) (r : Rest) {s t : Rest} {x : A}
    → n ≡ suc k → is_ahead (is_mark m.Comma) r.tokens ≡ true → mark m.Comma r ≡ Some s → take limit s ≡ Some (x, t)
    → behind xs (more_of take n limit r) ≡ behind (xs ++ x ∷ []) (more_of take k limit t)
next-of take limit n k xs r {s = s} {t = t} {x = x} h c e f =
    ap (behind xs) (after_comma take limit n k r h c e ∙ both-is take (more_of take k) limit s f) ∙ one_more xs x (more_of take k limit t)

pub stuck-of : {A : Type 0} (take : Takes A) (limit n k : ℕ) (xs : List A) (r : Rest) {s : Rest}
    → n ≡ suc k → is_ahead (is_mark m.Comma) r.tokens ≡ true → mark m.Comma r ≡ Some s → take limit s ≡ None → behind xs (more_of take n limit r) ≡ None
stuck-of take limit n k xs r {s = s} h c e f =
    ap (behind xs) (after_comma take limit n k r h c e ∙ both-none take (more_of take k) limit s f)

pub no_mark-of : {A : Type 0} (take : Takes A) (limit n k : ℕ) (xs : List A) (r : Rest) → n ≡ suc k → is_ahead (is_mark m.Comma) r.tokens ≡ true → mark m.Comma r ≡ None → behind xs (more_of take n limit r) ≡ None
no_mark-of take limit n k xs r h c e = rw (h, c, e) refl

pub last-of : {A : Type 0} (take : Takes A) (limit n : ℕ) (xs : List A) (r : Rest) → is_ahead (is_mark m.Comma) r.tokens ≡ false → behind xs (more_of take n limit r) ≡ Some (xs, r)
last-of take limit zero xs r c = none_more xs r
last-of take limit (suc n) xs r c = rw c (none_more xs r)

pub end-of : {A : Type 0} (take : Takes A) (limit n : ℕ) (xs : List A) (r : Rest) → n ≡ 0 → behind xs (more_of take n limit r) ≡ Some (xs, r)
end-of take limit n xs r h = rw h (none_more xs r)

-- ---- up to a closing brace

pub next-all : {A : Type 0} (take : Takes A) (limit n k : ℕ) (xs : List A) (r : Rest) {s : Rest} {x : A}
    → n ≡ suc k → is_ahead (is_mark m.CloseBrace) r.tokens ≡ false → take limit r ≡ Some (x, s) → behind xs (all_of take n limit r) ≡ behind (xs ++ x ∷ []) (all_of take k limit s)
next-all take limit n k xs r {s = s} {x = x} h c e =
    rw (h, c) (ap (behind xs) (both-is take (all_of take k) limit r e) ∙ one_more xs x (all_of take k limit s))

pub stuck-all : {A : Type 0} (take : Takes A) (limit n k : ℕ) (xs : List A) (r : Rest)
    → n ≡ suc k → is_ahead (is_mark m.CloseBrace) r.tokens ≡ false → take limit r ≡ None → behind xs (all_of take n limit r) ≡ None
stuck-all take limit n k xs r h c e = rw (h, c) (ap (behind xs) (both-none take (all_of take k) limit r e))

pub last-all : {A : Type 0} (take : Takes A) (limit n : ℕ) (xs : List A) (r : Rest) → is_ahead (is_mark m.CloseBrace) r.tokens ≡ true → behind xs (all_of take n limit r) ≡ Some (xs, r)
last-all take limit zero xs r c = none_more xs r
last-all take limit (suc n) xs r c = rw c (none_more xs r)

pub end-all : {A : Type 0} (take : Takes A) (limit n : ℕ) (xs : List A) (r : Rest) → n ≡ 0 → behind xs (all_of take n limit r) ≡ Some (xs, r)
end-all take limit n xs r h = rw h (none_more xs r)

-- ---- operands with operators between

pub first-piece : (unary : Takes Unary) (limit : ℕ) (r : Rest) {x : Piece} {s : Rest} → take_piece unary 6 None limit r ≡ Some (x, s) → take_pieces unary limit r ≡ behind (x ∷ []) (more_pieces unary (length r.tokens) limit s)
first-piece unary limit r e = both-is (take_piece unary 6 None) (more_pieces unary (length r.tokens)) limit r e

pub next-piece : (unary : Takes Unary) (limit n k : ℕ) (xs : List Piece) (r : Rest) {j : Joint} {s : Rest} {x : Piece}
    → n ≡ suc k → take_joint r ≡ Some j → take_piece unary j.level (Some j.sign) limit j.rest ≡ Some (x, s)
    → behind xs (more_pieces unary n limit r) ≡ behind (xs ++ x ∷ []) (more_pieces unary k limit s)
next-piece unary limit n k xs r {j = j} {s = s} {x = x} h c e =
    rw (h, c) (ap (behind xs) (both-is (take_piece unary j.level (Some j.sign)) (more_pieces unary k) limit j.rest e) ∙ one_more xs x (more_pieces unary k limit s))

pub stuck-piece : (unary : Takes Unary) (limit n k : ℕ) (xs : List Piece) (r : Rest) {j : Joint}
    → n ≡ suc k → take_joint r ≡ Some j → take_piece unary j.level (Some j.sign) limit j.rest ≡ None → behind xs (more_pieces unary n limit r) ≡ None
stuck-piece unary limit n k xs r {j = j} h c e =
    rw (h, c) (ap (behind xs) (both-none (take_piece unary j.level (Some j.sign)) (more_pieces unary k) limit j.rest e))

pub last-piece : (unary : Takes Unary) (limit n : ℕ) (xs : List Piece) (r : Rest) → take_joint r ≡ None → behind xs (more_pieces unary n limit r) ≡ Some (xs, r)
last-piece unary limit zero xs r c = none_more xs r
last-piece unary limit (suc n) xs r c = rw c (none_more xs r)

pub end-piece : (unary : Takes Unary) (limit n : ℕ) (xs : List Piece) (r : Rest) → n ≡ 0 → behind xs (more_pieces unary n limit r) ≡ Some (xs, r)
end-piece unary limit n xs r h = rw h (none_more xs r)
