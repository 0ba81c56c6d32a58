-- Variables whose words lie one after another: one that is written leaves the others as they are.
use Rattle.std.proofs.Common.{◌≡◌, ◌≤◌, ◌<◌, ◌+◌, ◌-◌, ℕ, zero, suc, get_or, List, [], ◌∷◌, ◌++◌, map, set, length, take, drop, Option, None, Some, refl, ap, ap₂, sym, ◌∙◌, arith, subst}
use Rattle.std.proofs.lemmas.List.{append-nil, append_assoc, drop-append-le, drop-drop, drop_at, length-append, length-drop, length-map, length-take-le, map-append, set_split, take-append-drop, take-append-le, take_all, take_at}
use Rattle.std.proofs.Math.Seq.{drop-append-add, take-append-add}
use Rattle.std.proofs.lemmas.Option.{slice_get-get_or, slice_get-map}
use Rattle.std.specs.Option.{option_map}
use Rattle.std.specs.Prelude.{ℤ, slice_get}
use Rattle.mpl_value.specs.Words.{with_words, words_at}
use Rattle.mdf_code.specs.Alone.{Held, Words}
use Rattle.mdf_vm.specs.Internal.Slots.{IsLaid, held_at, held_by}
use Rattle.mdf_vm.specs.declared.slot.Slot.{Slot}

-- ---- places

pub reaches : (from end : ℕ) (slots : List Slot) → IsLaid from slots end → from ≤ end
reaches from end [] laid = laid
reaches from end (s ∷ slots) laid = omega (arith, laid.0, reaches (s.at + s.count) end slots laid.1)

pub within : (from end : ℕ) (slots : List Slot) (i : ℕ) (s : Slot) → IsLaid from slots end → slice_get slots i ≡ Some s → (from ≤ s.at) × (s.at + s.count ≤ end)
within from end [] i s laid there = absurd (cc there)
within from end (t ∷ slots) zero s laid there =
    let same : t ≡ s = cc there in
    subst (λ (u : Slot). (from ≤ u.at) × (u.at + u.count ≤ end)) same (laid.0, reaches (t.at + t.count) end slots laid.1)
within from end (t ∷ slots) (suc i) s laid there =
    let rest : (t.at + t.count ≤ s.at) × (s.at + s.count ≤ end) = within (t.at + t.count) end slots i s laid.1 there in
    (omega (arith, laid.0, rest.0), rest.1)

pub longer : (from end more : ℕ) (slots : List Slot) → IsLaid from slots end → end ≤ more → IsLaid from slots more
longer from end more [] laid h = omega (arith, laid, h)
longer from end more (s ∷ slots) laid h = (laid.0, longer (s.at + s.count) end more slots laid.1 h)

pub one_more : (from end : ℕ) (slots : List Slot) (s : Slot) → IsLaid from slots end → s.at ≡ end → IsLaid from (slots ++ s ∷ []) (end + s.count)
one_more from end [] s laid at = (omega (arith, laid, at), omega (arith, at))
one_more from end (t ∷ slots) s laid at = (laid.0, one_more (t.at + t.count) end slots s laid.1 at)

-- what a slot holds in place of its words says nothing of where they lie
pub same_places : (from end : ℕ) (slots : List Slot) (i : ℕ) (s : Slot) (p : Option ℕ) → IsLaid from slots end → slice_get slots i ≡ Some s → IsLaid from (set slots i (record s { pending = p })) end
same_places from end [] i s p laid there = absurd (cc there)
same_places from end (t ∷ slots) zero s p laid there =
    let same : t ≡ s = cc there in
    subst (λ (u : Slot). (from ≤ u.at) × IsLaid (u.at + u.count) slots end) same laid
same_places from end (t ∷ slots) (suc i) s p laid there = (laid.0, same_places (t.at + t.count) end slots i s p laid.1 there)

-- ---- words

in_front : (front rest other : List ℤ) (at count : ℕ) → at + count ≤ length front → words_at at count (front ++ rest) ≡ words_at at count (front ++ other)
in_front front rest other at count h =
    let long : length (drop at front) ≡ length front - at = length-drop at front in
    let seen : (more : List ℤ) → words_at at count (front ++ more) ≡ words_at at count front = λ more.
    ap (take count) (drop-append-le at front more (omega (arith, h))) ∙ take-append-le count (drop at front) more (omega (arith, h, long)) in
    seen rest ∙ sym (seen other)

behind : (front other rest : List ℤ) (at : ℕ) → length front ≡ length other → length front ≤ at → drop at (front ++ rest) ≡ drop at (other ++ rest)
behind front other rest at same h =
    let step : length front + (at - length front) ≡ at = omega (arith, h) in
    let seen : (xs : List ℤ) → drop (at - length front) (drop (length front) xs) ≡ drop at xs = λ xs. drop-drop (at - length front) (length front) xs ∙ ap (λ k. drop k xs) step in
    sym (seen (front ++ rest))
    ∙ (ap (drop (at - length front)) (drop_at front rest (length front) refl ∙ sym (drop_at other rest (length front) (sym same))) ∙ seen (other ++ rest))

own : (front middle rest : List ℤ) → words_at (length front) (length middle) (front ++ (middle ++ rest)) ≡ middle
own front middle rest = ap (take (length middle)) (drop_at front (middle ++ rest) (length front) refl) ∙ take_at middle rest (length middle) refl

-- ---- variables

-- those that lie behind
rest_same : (from : ℕ) (slots : List Slot) (front other rest : List ℤ) → length front ≡ length other → length front ≤ from → IsLaid from slots (length (front ++ rest)) →
    map (held_at (front ++ rest)) slots ≡ map (held_at (other ++ rest)) slots
rest_same from [] front other rest same h laid = refl
rest_same from (s ∷ slots) front other rest same h laid =
    ap₂ (λ (x : Held) (xs : List Held). x ∷ xs) (ap (λ l. held_by s.pending (take s.count l)) (behind front other rest s.at same (omega (arith, h, laid.0))))
    (rest_same (s.at + s.count) slots front other rest same (omega (arith, h, laid.0)) laid.1)

-- those that lie before a place
front_same : (from : ℕ) (slots : List Slot) (front rest other : List ℤ) → IsLaid from slots (length front) → map (held_at (front ++ rest)) slots ≡ map (held_at (front ++ other)) slots
front_same from [] front rest other laid = refl
front_same from (s ∷ slots) front rest other laid =
    ap₂ (λ (x : Held) (xs : List Held). x ∷ xs) (ap (held_by s.pending) (in_front front rest other s.at s.count (reaches (s.at + s.count) (length front) slots laid.1)))
    (front_same (s.at + s.count) slots front rest other laid.1)

-- one of them has other words
changed : (from : ℕ) (slots : List Slot) (front middle new rest : List ℤ) (i : ℕ) (s : Slot) (p : Option ℕ) → IsLaid from slots (length (front ++ (middle ++ rest))) → slice_get slots i ≡ Some s →
    length front ≡ s.at → length middle ≡ s.count → length new ≡ s.count →
    map (held_at (front ++ (new ++ rest))) (set slots i (record s { pending = p })) ≡ set (map (held_at (front ++ (middle ++ rest))) slots) i (held_by p new)
changed from [] front middle new rest i s p laid there at count long = absurd (cc there)
changed from (t ∷ slots) front middle new rest zero s p laid there at count long =
    let same : t ≡ s = cc there in
    let later : IsLaid (s.at + s.count) slots (length (front ++ (middle ++ rest))) = subst (λ (u : Slot). IsLaid (u.at + u.count) slots (length (front ++ (middle ++ rest)))) same laid.1 in
    let a : front ++ (new ++ rest) ≡ (front ++ new) ++ rest = sym (append_assoc front new rest) in
    let b : front ++ (middle ++ rest) ≡ (front ++ middle) ++ rest = sym (append_assoc front middle rest) in
    let words : words_at s.at s.count (front ++ (new ++ rest)) ≡ new = ap₂ (λ n k. words_at n k (front ++ (new ++ rest))) (sym at) (sym long) ∙ own front new rest in
    ap₂ (λ (x : Held) (xs : List Held). x ∷ xs) (ap (held_by p) words)
    (ap (λ w. map (held_at w) slots) a
    ∙ (sym (rest_same (s.at + s.count) slots (front ++ middle) (front ++ new) rest (omega (arith, at, count, long, length-append front middle, length-append front new))
    (omega (arith, at, count, length-append front middle)) (subst (λ w. IsLaid (s.at + s.count) slots (length w)) b later))
    ∙ ap (λ w. map (held_at w) slots) (sym b)))
changed from (t ∷ slots) front middle new rest (suc i) s p laid there at count long =
    let place : (t.at + t.count ≤ s.at) × (s.at + s.count ≤ length (front ++ (middle ++ rest))) = within (t.at + t.count) (length (front ++ (middle ++ rest))) slots i s laid.1 there in
    ap₂ (λ (x : Held) (xs : List Held). x ∷ xs) (ap (held_by t.pending) (in_front front (new ++ rest) (middle ++ rest) t.at t.count (omega (arith, at, place.0))))
    (changed (t.at + t.count) slots front middle new rest i s p laid.1 there at count long)

-- ---- a write

put_behind : (front rest new : List ℤ) (off : ℕ) → with_words (length front + off) new (front ++ rest) ≡ front ++ with_words off new rest
put_behind front rest new off =
    let over : drop (length front + off + length new) (front ++ rest) ≡ drop (off + length new) rest =
    ap (λ k. drop k (front ++ rest)) (omega arith) ∙ drop-append-add front rest (off + length new) in
    ap₂ (λ a b. a ++ (new ++ b)) (take-append-add front rest off) over ∙ append_assoc front (take off rest) (new ++ drop (off + length new) rest)

put_in_front : (front rest new : List ℤ) (off : ℕ) → off + length new ≤ length front → with_words off new (front ++ rest) ≡ with_words off new front ++ rest
put_in_front front rest new off h =
    ap₂ (λ a b. a ++ (new ++ b)) (take-append-le off front rest (omega (arith, h))) (drop-append-le (off + length new) front rest h)
    ∙ sym (append_assoc (take off front) (new ++ drop (off + length new) front) rest
    ∙ ap (λ l. take off front ++ l) (append_assoc new (drop (off + length new) front) rest))

length_put : (words new : List ℤ) (off : ℕ) → off + length new ≤ length words → length (with_words off new words) ≡ length words
length_put words new off h =
    omega (
      arith,
      h,
      length-append (take off words) (new ++ drop (off + length new) words),
      length-append new (drop (off + length new) words),
      length-take-le off words (omega (arith, h)),
      length-drop (off + length new) words,
    )

pub put_length : (words new : List ℤ) (off : ℕ) → off + length new ≤ length words → length (with_words off new words) ≡ length words
put_length words new off h = length_put words new off h

-- a write to the words of a variable changes that variable alone
pub written : (words new : List ℤ) (slots : List Slot) (i off : ℕ) (s : Slot) (p : Option ℕ) → IsLaid 0 slots (length words) → slice_get slots i ≡ Some s → off + length new ≤ s.count →
    map (held_at (with_words (s.at + off) new words)) (set slots i (record s { pending = p }))
    ≡ set (map (held_at words) slots) i (held_by p (with_words off new (words_at s.at s.count words)))
written words new slots i off s p laid there h =
    let place : (0 ≤ s.at) × (s.at + s.count ≤ length words) = within 0 (length words) slots i s laid there in
    let front = take s.at words in
    let behind = drop s.at words in
    let middle = take s.count behind in
    let rest = drop s.count behind in
    let f : length front ≡ s.at = length-take-le s.at words (omega (arith, place.1)) in
    let m : length middle ≡ s.count = length-take-le s.count behind (omega (arith, place.1, length-drop s.at words)) in
    let split : words ≡ front ++ (middle ++ rest) = sym (ap (λ l. front ++ l) (take-append-drop s.count behind) ∙ take-append-drop s.at words) in
    let changes : with_words (s.at + off) new words ≡ front ++ (with_words off new middle ++ rest) =
    ap (with_words (s.at + off) new) split
    ∙ (ap (λ k. with_words (k + off) new (front ++ (middle ++ rest))) (sym f)
    ∙ (put_behind front (middle ++ rest) new off ∙ ap (λ l. front ++ l) (put_in_front middle rest new off (omega (arith, h, m))))) in
    ap (λ w. map (held_at w) (set slots i (record s { pending = p }))) changes
    ∙ (changed 0 slots front middle (with_words off new middle) rest i s p (subst (λ w. IsLaid 0 slots (length w)) split laid) there f m (length_put middle new off (omega (arith, h, m)) ∙ m)
    ∙ ap (λ w. set (map (held_at w) slots) i (held_by p (with_words off new middle))) (sym split))

-- ---- one variable more

pub seen_longer : (words new : List ℤ) (slots : List Slot) → IsLaid 0 slots (length words) → map (held_at (words ++ new)) slots ≡ map (held_at words) slots
seen_longer words new slots laid = front_same 0 slots words new [] laid ∙ ap (λ w. map (held_at w) slots) (append-nil words)

pub pushed_slot : (words new : List ℤ) (slots : List Slot) (s : Slot) → IsLaid 0 slots (length words) → s.at ≡ length words → s.count ≡ length new →
    map (held_at (words ++ new)) (slots ++ s ∷ []) ≡ map (held_at words) slots ++ held_by s.pending new ∷ []
pushed_slot words new slots s laid at count =
    let seen : words_at s.at s.count (words ++ new) ≡ new =
    ap₂ (λ n k. take k (drop n (words ++ new))) at count ∙ (ap (take (length new)) (drop_at words new (length words) refl) ∙ take_all (length new) new (omega arith)) in
    map-append (held_at (words ++ new)) slots (s ∷ []) ∙ ap₂ (λ (a : List Held) (w : List ℤ). a ++ held_by s.pending w ∷ []) (seen_longer words new slots laid) seen

pub pushed_laid : (words new all : List ℤ) (slots more : List Slot) (s : Slot) → IsLaid 0 slots (length words) → all ≡ words ++ new → more ≡ slots ++ s ∷ [] → s.at ≡ length words → s.count ≡ length new →
    IsLaid 0 more (length all)
pushed_laid words new all slots more s laid longer_by pushed at count =
    let end : length words + s.count ≡ length all = omega (arith, count, ap length longer_by, length-append words new) in
    subst (λ slots. IsLaid 0 slots (length all)) (sym pushed) (subst (IsLaid 0 (slots ++ s ∷ [])) end (one_more 0 (length words) slots s laid at))

pub pushed_seen : (words new all : List ℤ) (slots more : List Slot) (s : Slot) (now : List Held) → IsLaid 0 slots (length words) → all ≡ words ++ new → more ≡ slots ++ s ∷ [] → s.at ≡ length words → s.count ≡ length new →
    map (held_at words) slots ≡ now → map (held_at all) more ≡ now ++ held_by s.pending new ∷ []
pushed_seen words new all slots more s now laid longer_by pushed at count seen =
    ap₂ (λ w slots. map (held_at w) slots) longer_by pushed ∙ (pushed_slot words new slots s laid at count ∙ ap (λ l. l ++ held_by s.pending new ∷ []) seen)

pub still_laid : (words new all : List ℤ) (slots same : List Slot) → IsLaid 0 slots (length words) → all ≡ words ++ new → same ≡ slots → IsLaid 0 same (length all)
still_laid words new all slots same laid longer_by is =
    subst (λ slots. IsLaid 0 slots (length all)) (sym is) (longer 0 (length words) (length all) slots laid (omega (arith, ap length longer_by, length-append words new)))

-- ---- look-ups

pub got : {A : Type 0} (xs ys : List A) (n : ℕ) (x : A) → ys ≡ xs → x ≡ get_or ys n x → n < length ys → slice_get xs n ≡ Some x
got xs ys n x same read within = subst (λ zs. slice_get zs n ≡ Some x) same (slice_get-get_or ys n x within ∙ ap Some (sym read))

pub seen_at : (words : List ℤ) (slots : List Slot) (i : ℕ) (s : Slot) → slice_get slots i ≡ Some s → slice_get (map (held_at words) slots) i ≡ Some (held_at words s)
seen_at words slots i s there = slice_get-map (held_at words) slots i ∙ ap (option_map (held_at words)) there

pub seen_count : (words : List ℤ) (slots : List Slot) (now : List Held) → map (held_at words) slots ≡ now → length now ≡ length slots
seen_count words slots now seen = ap length (sym seen) ∙ length-map slots (held_at words)

pub other_kept : (xs : List Held) (v i : ℕ) (y x held : Held) → (i ≡ v → ⊥) → slice_get xs i ≡ Some x → slice_get (set xs v y) i ≡ Some held → x ≡ held
other_kept [] v i y x held apart there found = absurd (cc there)
other_kept (z ∷ xs) zero zero y x held apart there found = absurd (apart refl)
other_kept (z ∷ xs) zero (suc i) y x held apart there found = cc (there, found)
other_kept (z ∷ xs) (suc v) zero y x held apart there found = cc (there, found)
other_kept (z ∷ xs) (suc v) (suc i) y x held apart there found = other_kept xs v i y x held (λ same. apart (ap suc same)) there found

pub one_written : (words new : List ℤ) (at : ℕ) (word d : ℤ) → length new ≡ 1 → at + length new ≤ length words → word ≡ get_or new 0 d → set words at word ≡ with_words at new words
one_written words [] at word d one fits read = absurd (omega (arith, one))
one_written words (x ∷ []) at word d one fits read =
    let next : suc at ≡ at + 1 = omega arith in
    set_split words at word (omega (arith, fits)) ∙ (ap (λ w. take at words ++ (w ∷ drop (suc at) words)) read ∙ ap (λ k. take at words ++ (x ∷ drop k words)) next)
one_written words (x ∷ y ∷ new) at word d one fits read = absurd (omega (arith, one))
