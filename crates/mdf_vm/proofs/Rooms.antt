-- A stack of words with room behind its top.
use Rattle.std.proofs.Common.{◌≡◌, ◌≤◌, ◌<◌, ◌+◌, ◌-◌, ℕ, zero, suc, List, [], ◌∷◌, ◌++◌, get_or, set, length, take, drop, refl, ap, sym, ◌∙◌, arith}
use Rattle.std.proofs.lemmas.List.{append_assoc, length-append, length-reverse, length-take-le, reverse-append, take_all, take_more_set}
use Rattle.std.specs.Prelude.{reverse}
use Rattle.mdf_code.specs.Stacks.{pushed}
use Rattle.mdf_vm.proofs.Reversed.{drop_reversed}

pub pushed_within : {A : Type 0} (words now : List A) (top : ℕ) (word : A) → reverse (take top words) ≡ now → top < length words → reverse (take (top + 1) (set words top word)) ≡ word ∷ now
pushed_within words now top word seen within =
    ap reverse (take_more_set words top word within) ∙ (reverse-append (take top words) (word ∷ []) ∙ ap (λ l. word ∷ l) seen)

-- behind what is left of the words when the room goes
pub pushed_past : {A : Type 0} (front now : List A) (top : ℕ) (word : A) → reverse front ≡ now → length front ≡ top → reverse (take (top + 1) (front ++ word ∷ [])) ≡ word ∷ now
pushed_past front now top word seen long =
    ap reverse (take_all (top + 1) (front ++ word ∷ []) (omega (arith, long, length-append front (word ∷ []))))
    ∙ (reverse-append front (word ∷ []) ∙ ap (λ l. word ∷ l) seen)

pub pushed_all : {A : Type 0} (front now more : List A) (top : ℕ) → reverse front ≡ now → top ≡ length (front ++ more) → reverse (take top (front ++ more)) ≡ pushed more now
pushed_all front now more top seen long =
    ap reverse (take_all top (front ++ more) (omega (arith, long))) ∙ (reverse-append front more ∙ ap (λ l. reverse more ++ l) seen)

pub one_pushed : {A : Type 0} (more now : List A) (word : A) → length more ≡ 1 → word ≡ get_or more 0 word → pushed more now ≡ word ∷ now
one_pushed [] now word one read = absurd (omega (arith, one))
one_pushed (x ∷ []) now word one read = ap (λ w. w ∷ now) (sym read)
one_pushed (x ∷ y ∷ more) now word one read = absurd (omega (arith, one))

pub take_front : {A : Type 0} (n m : ℕ) (xs : List A) → n ≤ m → take n (take m xs) ≡ take n xs
take_front zero m xs h = refl
take_front (suc n) zero xs h = absurd (omega (arith, h))
take_front (suc n) (suc m) [] h = refl
take_front (suc n) (suc m) (x ∷ xs) h = ap (λ l. x ∷ l) (take_front n m xs (omega (arith, h)))

pub shortened_within : {A : Type 0} (words now : List A) (top count : ℕ) → reverse (take top words) ≡ now → top ≤ length words → count ≤ length now → reverse (take (top - count) words) ≡ drop count now
shortened_within words now top count seen fits h =
    let n : length (take top words) ≡ top = length-take-le top words fits in
    let few : count ≤ length (take top words) = omega (arith, h, ap length seen, length-reverse (take top words)) in
    ap reverse (sym (take_front (top - count) top words (omega arith)))
    ∙ (ap (λ k. reverse (take (k - count) (take top words))) (sym n) ∙ (sym (drop_reversed (take top words) count few) ∙ ap (drop count) seen))

pub replaced_within : {A : Type 0} (words now : List A) (top count : ℕ) (word : A) → reverse (take top words) ≡ now → top ≤ length words → 0 < count → count ≤ length now →
    reverse (take (top - count + 1) (set words (top - count) word)) ≡ word ∷ drop count now
replaced_within words now top count word seen fits some h =
    let n : length (take top words) ≡ top = length-take-le top words fits in
    pushed_within words (drop count now) (top - count) word (shortened_within words now top count seen fits h)
    (omega (arith, n, h, ap length seen, length-reverse (take top words)))
