-- A stack is a vector turned round.
use Rattle.std.proofs.Common.{◌≡◌, ◌≤◌, ◌<◌, ◌+◌, ◌-◌, ℕ, List, [], ◌∷◌, ◌++◌, set, get_or, None, length, take, drop, true, Some, Option, refl, ap, sym, ◌∙◌, arith, cond, subst}
use Rattle.std.proofs.lemmas.Bool.{le-leb}
use Rattle.std.proofs.lemmas.List.{take-append-drop, reverse-append, reverse-reverse, length-reverse, length-drop, drop_at, drop_all, drop-drop, append-nil, take_all, take_at, take_rest, take_more, take_more_set, set_split}
use Rattle.std.proofs.lemmas.Option.{get_or_from_slice_get}
use Rattle.std.specs.Prelude.{reverse, nat_le, zero, suc, slice_get, IsNone, MatchOption, ◌↔◌}
use Rattle.mdf_code.specs.Stacks.{popped, popped_all}

length_behind : {A : Type 0} (xs : List A) (n : ℕ) → n ≤ length xs → length (reverse (drop (length xs - n) xs)) ≡ n
length_behind xs n h = length-reverse (drop (length xs - n) xs) ∙ (length-drop (length xs - n) xs ∙ omega arith)

split : {A : Type 0} (xs : List A) (k : ℕ) → reverse xs ≡ reverse (drop k xs) ++ reverse (take k xs)
split xs k = ap reverse (sym (take-append-drop k xs)) ∙ reverse-append (take k xs) (drop k xs)

pub drop_reversed : {A : Type 0} (xs : List A) (n : ℕ) → n ≤ length xs → drop n (reverse xs) ≡ reverse (take (length xs - n) xs)
drop_reversed xs n h =
    ap (drop n) (split xs (length xs - n)) ∙ drop_at (reverse (drop (length xs - n) xs)) (reverse (take (length xs - n) xs)) n (length_behind xs n h)

pub take_reversed : {A : Type 0} (xs : List A) (n : ℕ) → n ≤ length xs → reverse (take n (reverse xs)) ≡ drop (length xs - n) xs
take_reversed xs n h =
    ap (λ l. reverse (take n l)) (split xs (length xs - n))
    ∙ (ap reverse (take_at (reverse (drop (length xs - n) xs)) (reverse (take (length xs - n) xs)) n (length_behind xs n h)) ∙ reverse-reverse (drop (length xs - n) xs))

-- so many from the end
pub popped_reversed : {A : Type 0} (xs : List A) (n : ℕ) → n ≤ length xs → popped_all n (reverse xs) ≡ Some (record { items = take (length xs - (length xs - n)) (drop (length xs - n) xs); below = drop n (reverse xs) })
popped_reversed {A = A} xs n h =
    let there : nat_le n (length (reverse xs)) ≡ true = le-leb n (length (reverse xs)) (omega (arith, h, length-reverse xs)) in
    ap (λ b. cond b (Some (record { items = reverse (take n (reverse xs)); below = drop n (reverse xs) })) None) there
    ∙ ap (λ (items : List A). Some (record { items = items; below = drop n (reverse xs) })) (take_reversed xs n h ∙ sym (take_rest xs (length xs - n)))

pub popped_read : {A : Type 0} (items now : List A) (count from : ℕ) → reverse items ≡ now → count ≤ length items → from ≡ length items - count →
    popped_all count now ≡ Some (record { items = take (length items - from) (drop from items); below = drop count now })
popped_read items now count from seen h is =
    subst (λ l. popped_all count l ≡ Some (record { items = take (length items - from) (drop from items); below = drop count l })) seen
    (subst (λ k. popped_all count (reverse items) ≡ Some (record { items = take (length items - k) (drop k items); below = drop count (reverse items) })) (sym is)
    (popped_reversed items count h))

pub shortened : {A : Type 0} (items now new : List A) (count : ℕ) → reverse items ≡ now → count ≤ length now → new ≡ take (length items - count) items → reverse new ≡ drop count now
shortened items now new count seen h is =
    ap reverse is ∙ (sym (drop_reversed items count (omega (arith, h, ap length seen, length-reverse items))) ∙ ap (drop count) seen)

-- a write at a place, and what is behind it gone
pub replaced : {A : Type 0} (items now new changed : List A) (count : ℕ) (item : A) → reverse items ≡ now → 0 < count → count ≤ length now → changed ≡ set items (length items - count) item →
    new ≡ take (length items - count + 1) changed → reverse new ≡ item ∷ drop count now
replaced items now new changed count item seen some h wrote is =
    let within : length items - count < length items = omega (arith, h, ap length seen, length-reverse items) in
    ap reverse (is ∙ (ap (take (length items - count + 1)) wrote ∙ take_more_set items (length items - count) item within))
    ∙ (reverse-append (take (length items - count) items) (item ∷ [])
    ∙ ap (λ l. item ∷ l) (sym (drop_reversed items count (omega (arith, h, ap length seen, length-reverse items))) ∙ ap (drop count) seen))

read_below : {A : Type 0} (items : List A) (count place : ℕ) (d : A) → count + 1 ≤ length items → place ≡ length items - (count + 1) →
    popped (drop count (reverse items)) ≡ Some (record { items = get_or items place d; below = drop (count + 1) (reverse items) })
read_below {A = A} items count place d h is =
    let before : length items - count ≡ place + 1 = omega arith in
    let more : take (length items - count) items ≡ take place items ++ get_or items place d ∷ [] = ap (λ n. take n items) before ∙ take_more items place d (omega arith) in
    let turned : drop count (reverse items) ≡ get_or items place d ∷ reverse (take place items) =
    drop_reversed items count (omega arith) ∙ (ap reverse more ∙ reverse-append (take place items) (get_or items place d ∷ [])) in
    let rest : reverse (take place items) ≡ drop (count + 1) (reverse items) = ap (λ n. reverse (take n items)) is ∙ sym (drop_reversed items (count + 1) h) in
    ap popped (turned ∙ ap (λ (l : List A). get_or items place d ∷ l) rest)

pub popped_below : {A : Type 0} (items now : List A) (count place : ℕ) (item : A) → reverse items ≡ now → count + 1 ≤ length items → place ≡ length items - (count + 1) → item ≡ get_or items place item →
    popped (drop count now) ≡ Some (record { items = item; below = drop (count + 1) now })
popped_below items now count place item seen h is read =
    subst (λ l. popped (drop count l) ≡ Some (record { items = item; below = drop (count + 1) l })) seen
    (subst (λ i. popped (drop count (reverse items)) ≡ Some (record { items = i; below = drop (count + 1) (reverse items) })) (sym read) (read_below items count place item h is))

pub nothing_below : {A : Type 0} (items now : List A) (count : ℕ) → reverse items ≡ now → length items < count + 1 → popped (drop count now) ≡ None
nothing_below items now count seen h = ap popped (drop_all count now (omega (arith, h, ap length seen, length-reverse items)))

-- what a write through a vector leaves
pub written : {A : Type 0} (changed inside : List A) (n : ℕ) → length changed ≡ length inside → n ≡ length inside → take n (changed ++ drop (length changed) inside) ≡ changed
written changed inside n same all =
    ap (λ l. take n (changed ++ l)) (drop_all (length changed) inside (omega (arith, same)))
    ∙ (ap (take n) (append-nil changed) ∙ take_all n changed (omega (arith, same, all)))

-- ---- what is left behind a place

pub rest_at : {A : Type 0} (xs : List A) (place : ℕ) (x : A) → slice_get xs place ≡ Some x → drop place xs ≡ x ∷ drop 1 (drop place xs)
rest_at [] place x h = absurd (cc h)
rest_at (y ∷ xs) zero x h = let same : y ≡ x = cc h in ap (λ z. z ∷ xs) same
rest_at (y ∷ xs) (suc place) x h = rest_at xs place x h

pub next_rest : {A : Type 0} (xs now : List A) (place : ℕ) → drop place xs ≡ now → drop (place + 1) xs ≡ drop 1 now
next_rest xs now place seen = sym (drop-drop 1 place xs) ∙ ap (drop 1) seen

pub number_at : {A : Type 0} (xs now : List A) (place : ℕ) (o : Option A) → drop place xs ≡ now → o ≡ slice_get xs place → IsNone o ↔ (length xs ≤ place) → MatchOption o (now ≡ []) (λ x. now ≡ x ∷ drop 1 now)
number_at xs now place None seen read past = sym seen ∙ drop_all place xs (past.0 refl)
number_at xs now place (Some x) seen read past = subst (λ l. l ≡ x ∷ drop 1 l) seen (rest_at xs place x (sym read))

-- ---- a change on top

turned : {A : Type 0} (items : List A) (place : ℕ) (d : A) → length items ≡ place + 1 → reverse items ≡ get_or items place d ∷ reverse (take place items)
turned items place d last =
    ap reverse (sym (take_all (place + 1) items (omega (arith, last))) ∙ take_more items place d (omega (arith, last))) ∙ reverse-append (take place items) (get_or items place d ∷ [])

changed_turned : {A : Type 0} (items : List A) (place : ℕ) (new : A) → length items ≡ place + 1 → reverse (set items place new) ≡ new ∷ reverse (take place items)
changed_turned items place new last =
    ap reverse (set_split items place new (omega (arith, last)) ∙ ap (λ l. take place items ++ new ∷ l) (drop_all (suc place) items (omega (arith, last)))) ∙ reverse-append (take place items) (new ∷ [])

pub top_is : {A : Type 0} (items now : List A) (place : ℕ) (old : A) → reverse items ≡ now → length items ≡ place + 1 → old ≡ get_or items place old → now ≡ old ∷ drop 1 now
top_is items now place old seen last read =
    subst (λ l. l ≡ old ∷ drop 1 l) (sym (turned items place old last) ∙ seen) (ap (λ x. x ∷ reverse (take place items)) (sym read))

pub top_changed : {A : Type 0} (items now : List A) (place : ℕ) (old new : A) → reverse items ≡ now → length items ≡ place + 1 → reverse (set items place new) ≡ new ∷ drop 1 now
top_changed items now place old new seen last =
    changed_turned items place new last ∙ ap (λ l. new ∷ l) (ap (drop 1) (sym (turned items place old last) ∙ seen))

missing : {A : Type 0} (xs : List A) (n : ℕ) → n < length xs → slice_get xs n ≡ None → ⊥
missing [] n h none = omega (arith, h)
missing (x ∷ xs) zero h none = cc none
missing (x ∷ xs) (suc n) h none = missing xs n (omega (arith, h)) none

pub seen_below : {A : Type 0} (items now : List A) (count place : ℕ) (o : Option A) → reverse items ≡ now → count + 1 ≤ length items → place ≡ length items - (count + 1) → o ≡ slice_get items place →
    MatchOption o (popped (drop count now) ≡ None) (λ item. popped (drop count now) ≡ Some (record { items = item; below = drop (count + 1) now }))
seen_below items now count place None seen h is read = absurd (missing items place (omega (arith, h, is)) (sym read))
seen_below items now count place (Some item) seen h is read =
    popped_below items now count place item seen h is (sym (get_or_from_slice_get items place item item (sym read)))
