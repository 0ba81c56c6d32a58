-- Words from an offset, where it lies within and where it doesn't.
use Rattle.std.proofs.Common.{◌≡◌, ◌≤◌, ◌<◌, ℕ, zero, suc, ◌+◌, List, [], ◌∷◌, ◌++◌, length, get_or, take, drop, ℤ, append_assoc, refl, ap, ap₂, sym, arith, ◌∙◌}
use Rattle.std.proofs.lemmas.List.{append-nil}
use Rattle.std.specs.Prelude.{min}
use Rattle.mpl_value.specs.Words.{with_words, words_at}

pub take_least : (n : ℕ) (xs : List ℤ) → take (min n (length xs)) xs ≡ take n xs
take_least zero xs = ap (λ k. take k xs) (let e : min 0 (length xs) ≡ 0 = omega arith in e)
take_least (suc n) [] = ap (λ k. take k []) (let e : min (suc n) 0 ≡ 0 = omega arith in e)
take_least (suc n) (x ∷ xs) = ap (λ k. take k (x ∷ xs)) (let e : min (suc n) (suc (length xs)) ≡ suc (min n (length xs)) = omega arith in e) ∙ ap (λ rest. x ∷ rest) (take_least n xs)

pub drop_least : (n : ℕ) (xs : List ℤ) → drop (min n (length xs)) xs ≡ drop n xs
drop_least zero xs = ap (λ k. drop k xs) (let e : min 0 (length xs) ≡ 0 = omega arith in e)
drop_least (suc n) [] = ap (λ k. drop k []) (let e : min (suc n) 0 ≡ 0 = omega arith in e)
drop_least (suc n) (x ∷ xs) = ap (λ k. drop k (x ∷ xs)) (let e : min (suc n) (suc (length xs)) ≡ suc (min n (length xs)) = omega arith in e) ∙ drop_least n xs

drop_past : (n : ℕ) (xs : List ℤ) → length xs ≤ n → drop n xs ≡ []
drop_past zero [] h = refl
drop_past zero (x ∷ xs) h = absurd (let b : suc (length xs) ≤ 0 = h in omega arith)
drop_past (suc n) [] h = refl
drop_past (suc n) (x ∷ xs) h = drop_past n xs (let b : suc (length xs) ≤ suc n = h in omega arith)

take_past : (n : ℕ) (xs : List ℤ) → length xs ≤ n → take n xs ≡ xs
take_past zero [] h = refl
take_past zero (x ∷ xs) h = absurd (let b : suc (length xs) ≤ 0 = h in omega arith)
take_past (suc n) [] h = refl
take_past (suc n) (x ∷ xs) h = ap (λ rest. x ∷ rest) (take_past n xs (let b : suc (length xs) ≤ suc n = h in omega arith))

drop_none : (n : ℕ) → drop {A = ℤ} n [] ≡ []
drop_none zero = refl
drop_none (suc n) = refl

drop_again : (n m : ℕ) (xs : List ℤ) → drop m (drop n xs) ≡ drop (n + m) xs
drop_again zero m xs = ap (λ k. drop k xs) (let e : m ≡ 0 + m = omega arith in e)
drop_again (suc n) m [] = drop_none m ∙ sym (drop_none (suc n + m))
drop_again (suc n) m (x ∷ xs) = drop_again n m xs ∙ ap (λ k. drop k (x ∷ xs)) (let e : suc (n + m) ≡ suc n + m = omega arith in e)

pub part_none : (offset count : ℕ) (xs : List ℤ) → length xs ≤ offset → words_at offset count xs ≡ []
part_none offset zero xs h = refl
part_none offset (suc count) xs h = ap (take (suc count)) (drop_past offset xs h)

pub part_one : (offset : ℕ) (xs : List ℤ) (d : ℤ) → offset < length xs → words_at offset 1 xs ≡ get_or xs offset d ∷ []
part_one offset [] d h = absurd (omega arith)
part_one zero (x ∷ xs) d h = refl
part_one (suc offset) (x ∷ xs) d h = part_one offset xs d (let b : suc offset < suc (length xs) = h in omega arith)

pub part_least : (offset count : ℕ) (xs : List ℤ) → take (min count (length (drop offset xs))) (drop offset xs) ≡ words_at offset count xs
part_least offset count xs = take_least count (drop offset xs)

pub with_past : (offset : ℕ) (new xs : List ℤ) → length xs ≤ offset → xs ++ new ≡ with_words offset new xs
with_past offset new xs h =
    ap (λ rest. xs ++ rest) (sym (append-nil new))
    ∙ ap₂ (λ front rest. front ++ (new ++ rest)) (sym (take_past offset xs h)) (sym (drop_past (offset + length new) xs (omega arith)))

pub with_least : (offset : ℕ) (new xs : List ℤ) → (take offset xs ++ new) ++ drop (min (length new) (length (drop offset xs))) (drop offset xs) ≡ with_words offset new xs
with_least offset new xs =
    append_assoc (take offset xs) new (drop (min (length new) (length (drop offset xs))) (drop offset xs))
    ∙ ap (λ rest. take offset xs ++ (new ++ rest)) (drop_least (length new) (drop offset xs) ∙ drop_again offset (length new) xs)
