-- What is written into a variable, and what the variables are then.
use Rattle.std.proofs.Common.{◌≡◌, ◌≤◌, ◌<◌, ◌+◌, ℕ, zero, suc, min, Bool, true, false, List, [], ◌∷◌, ◌++◌, map, set, length, take, drop, Option, None, Some, refl, ap, ap₂, sym, ◌∙◌, arith, subst, cond}
use Rattle.std.proofs.lemmas.Bool.{le-leb, lt-ltb}
use Rattle.std.proofs.lemmas.List.{append-nil, drop_all, drop_min, length-drop, length-set, length-take-le, take_min, take_more}
use Rattle.std.specs.Option.{is_some}
use Rattle.std.specs.Prelude.{ℤ, nat_le, nat_lt, slice_get}
use Rattle.mpl_value.specs.declared.body.Arg.{Arg}
use Rattle.mpl_value.specs.Words.{with_words, words_at}
use Rattle.mdf_code.specs.Alone.{Held, Words, Pending, seen_by}
use Rattle.mdf_code.specs.Stacks.{known_words_of, set_at, write_words}
use Rattle.mdf_vm.specs.Internal.Pouring.{left_by, poured}
use Rattle.mdf_vm.specs.Internal.Slots.{IsLaid, held_at, held_by}
use Rattle.mdf_vm.specs.declared.slot.Slot.{Slot}
use Rattle.mdf_vm.proofs.Laid.{put_length, same_places, seen_at, within, written}

set_there : {A : Type 0} (xs : List A) (i : ℕ) (x : A) → slice_get xs i ≡ Some x → set xs i x ≡ xs
set_there [] i x there = absurd (cc there)
set_there (y ∷ xs) zero x there = let same : y ≡ x = cc there in ap (λ z. z ∷ xs) (sym same)
set_there (y ∷ xs) (suc i) x there = ap (λ l. y ∷ l) (set_there xs i x there)

pub one_there : {A : Type 0} (xs : List A) (i : ℕ) (x y : A) → slice_get xs i ≡ Some x → slice_get xs i ≡ Some y → x ≡ y
one_there xs i x y a b = cc (a, b)

-- ---- a place of the words

pub fits : (words new : List ℤ) (slots : List Slot) (i off : ℕ) (s : Slot) → IsLaid 0 slots (length words) → slice_get slots i ≡ Some s → off + length new ≤ s.count → s.at + off + length new ≤ length words
fits words new slots i off s laid there h =
    let place = within 0 (length words) slots i s laid there in omega (arith, place.1, h)

pub laid_still : (words new all : List ℤ) (slots : List Slot) (at : ℕ) → IsLaid 0 slots (length words) → at + length new ≤ length words → all ≡ with_words at new words → IsLaid 0 slots (length all)
laid_still words new all slots at laid h is = subst (IsLaid 0 slots) (sym (ap length is ∙ put_length words new at h)) laid

region_length : (words : List ℤ) (slots : List Slot) (i : ℕ) (s : Slot) → IsLaid 0 slots (length words) → slice_get slots i ≡ Some s → length (words_at s.at s.count words) ≡ s.count
region_length words slots i s laid there =
    let place = within 0 (length words) slots i s laid there in length-take-le s.count (drop s.at words) (omega (arith, place.1, length-drop s.at words))

-- ---- other words in a variable

pub here : (words new all : List ℤ) (slots : List Slot) (i off : ℕ) (s : Slot) (now : List Held) → IsLaid 0 slots (length words) → slice_get slots i ≡ Some s → off + length new ≤ s.count →
    all ≡ with_words (s.at + off) new words → map (held_at words) slots ≡ now → map (held_at all) slots ≡ set now i (held_by s.pending (with_words off new (words_at s.at s.count words)))
here words new all slots i off s now laid there h is seen =
    ap (λ w. map (held_at w) slots) is
    ∙ (ap (map (held_at (with_words (s.at + off) new words))) (sym (set_there slots i s there))
    ∙ (written words new slots i off s s.pending laid there h ∙ ap (λ l. set l i (held_by s.pending (with_words off new (words_at s.at s.count words)))) seen))

all_new : (old new : List ℤ) → length old ≤ length new → with_words 0 new old ≡ new
all_new old new h =
    let over : drop (0 + length new) old ≡ [] = drop_all (0 + length new) old (omega (arith, h)) in
    ap (λ rest. new ++ rest) over ∙ append-nil new

pub put : (words new all : List ℤ) (slots : List Slot) (i : ℕ) (s : Slot) (now : List Held) → IsLaid 0 slots (length words) → slice_get slots i ≡ Some s → s.count ≡ length new →
    all ≡ with_words s.at new words → map (held_at words) slots ≡ now → map (held_at all) (set slots i (record s { pending = None })) ≡ set now i (Words new)
put words new all slots i s now laid there h is seen =
    let at : s.at ≡ s.at + 0 = omega arith in
    ap (λ w. map (held_at w) (set slots i (record s { pending = None }))) (is ∙ ap (λ k. with_words k new words) at)
    ∙ (written words new slots i 0 s None laid there (omega (arith, h))
    ∙ ap₂ (λ l w. set l i (Words w)) seen (all_new (words_at s.at s.count words) new (omega (arith, h, region_length words slots i s laid there))))

-- the slot that is written is the one that was read
pub put_laid : (words new all : List ℤ) (slots : List Slot) (i : ℕ) (s t : Slot) → IsLaid 0 slots (length words) → slice_get slots i ≡ Some s → slice_get slots i ≡ Some t → s.count ≡ length new →
    all ≡ with_words s.at new words → IsLaid 0 (set slots i (record t { pending = None })) (length all)
put_laid words new all slots i s t laid there other h is =
    let fit : s.at + length new ≤ length words = omega (arith, h, (within 0 (length words) slots i s laid there).1) in
    same_places 0 (length all) slots i t None (laid_still words new all slots s.at laid fit is) other

pub put_seen : (words new all : List ℤ) (slots : List Slot) (i : ℕ) (s t : Slot) (now : List Held) → IsLaid 0 slots (length words) → slice_get slots i ≡ Some s → slice_get slots i ≡ Some t → s.count ≡ length new →
    all ≡ with_words s.at new words → map (held_at words) slots ≡ now → map (held_at all) (set slots i (record t { pending = None })) ≡ set now i (Words new)
put_seen words new all slots i s t now laid there other h is seen =
    subst (λ (u : Slot). map (held_at all) (set slots i (record u { pending = None })) ≡ set now i (Words new)) (one_there slots i s t there other)
    (put words new all slots i s now laid there h is seen)

-- ---- words that are known

-- what a variable holds is what its slot tells
pub told : (words : List ℤ) (slots : List Slot) (i : ℕ) (s : Slot) (now : List Held) (held : Held) → slice_get slots i ≡ Some s → map (held_at words) slots ≡ now → slice_get now i ≡ Some held → held_at words s ≡ held
told words slots i s now held there seen found = one_there now i (held_at words s) held (ap (λ l. slice_get l i) (sym seen) ∙ seen_at words slots i s there) found

known_here : (knows : ℕ → Arg) (p : Option ℕ) (region known : List ℤ) (held : Held) → p ≡ None → held_by p region ≡ held → known_words_of (seen_by knows held) ≡ Some known → region ≡ known
known_here knows p region known held none is found =
    let same : Words region ≡ held = ap (λ q. held_by q region) (sym none) ∙ is in
    let seen : known_words_of (seen_by knows (Words region)) ≡ Some known = ap (λ h. known_words_of (seen_by knows h)) same ∙ found in cc seen

pub known_of_call : (knows : ℕ → Arg) (p : Option ℕ) (region known : List ℤ) (number : ℕ) (held : Held) → p ≡ Some number → held_by p region ≡ held → known_words_of (seen_by knows held) ≡ Some known →
    known_words_of (knows number) ≡ Some known
known_of_call knows p region known number held some is found =
    let same : Pending number ≡ held = ap (λ q. held_by q region) (sym some) ∙ is in
    ap (λ h. known_words_of (seen_by knows h)) same ∙ found

pub known_fits : (knows : ℕ → Arg) (words new known : List ℤ) (slots : List Slot) (i off : ℕ) (s : Slot) (now : List Held) (held : Held) → IsLaid 0 slots (length words) → slice_get slots i ≡ Some s → map (held_at words) slots ≡ now →
    s.pending ≡ None → slice_get now i ≡ Some held → known_words_of (seen_by knows held) ≡ Some known → off + length new ≤ length known → off + length new ≤ s.count
known_fits knows words new known slots i off s now held laid there seen none found is h =
    let same : words_at s.at s.count words ≡ known = known_here knows s.pending (words_at s.at s.count words) known held none (told words slots i s now held there seen found) is in
    omega (arith, h, ap length same, region_length words slots i s laid there)

pub write_is : (off : ℕ) (new known : List ℤ) → off + length new ≤ length known → write_words off new known ≡ Some (with_words off new known)
write_is off new known h = ap (λ b. cond b (Some (with_words off new known)) None) (le-leb (off + length new) (length known) h)

pub set_is : (now after : List Held) (i : ℕ) (held : Held) → i < length now → after ≡ set now i held → set_at i held now ≡ Some after
set_is now after i held h is = ap (λ b. cond b (Some (set now i held)) None) (lt-ltb i (length now) h) ∙ ap Some (sym is)

pub write_here : (knows : ℕ → Arg) (words new known all : List ℤ) (slots : List Slot) (i off : ℕ) (s : Slot) (now : List Held) (held : Held) → IsLaid 0 slots (length words) → slice_get slots i ≡ Some s →
    map (held_at words) slots ≡ now → s.pending ≡ None → all ≡ with_words (s.at + off) new words → off + length new ≤ s.count → i < length now → slice_get now i ≡ Some held → known_words_of (seen_by knows held) ≡ Some known →
    (write_words off new known ≡ Some (with_words off new known)) × (set_at i (Words (with_words off new known)) now ≡ Some (map (held_at all) slots))
write_here knows words new known all slots i off s now held laid there seen none is h inside found known_is =
    let same : words_at s.at s.count words ≡ known = known_here knows s.pending (words_at s.at s.count words) known held none (told words slots i s now held there seen found) known_is in
    let long : off + length new ≤ length known = omega (arith, h, ap length same, region_length words slots i s laid there) in
    let after : map (held_at all) slots ≡ set now i (Words (with_words off new known)) =
    here words new all slots i off s now laid there h is seen ∙ ap₂ (λ p w. set now i (held_by p (with_words off new w))) none same in
    (write_is off new known long, set_is now (map (held_at all) slots) i (Words (with_words off new known)) inside after)

-- ---- words that are poured

pub none_poured : (p : Option ℕ) (region words : List ℤ) → true ≡ is_some p → poured (held_by p region) words ≡ held_by p region
none_poured None region words h = absurd (cc h)
none_poured (Some number) region words h = refl

pub none_left : (p : Option ℕ) (region words : List ℤ) → true ≡ is_some p → words ≡ left_by (held_by p region) words
none_left None region words h = absurd (cc h)
none_left (Some number) region words h = refl

pub pours_nothing : (words given : List ℤ) (slots : List Slot) (i : ℕ) (s : Slot) (now : List Held) (held : Held) → slice_get slots i ≡ Some s → map (held_at words) slots ≡ now → true ≡ is_some s.pending → slice_get now i ≡ Some held →
    now ≡ set now i (poured held given)
pours_nothing words given slots i s now held there seen some found =
    let is = told words slots i s now held there seen found in
    let same : poured held given ≡ held = ap (λ h. poured h given) (sym is) ∙ (none_poured s.pending (words_at s.at s.count words) given some ∙ is) in
    sym (ap (set now i) same ∙ set_there now i held found)

pub leaves_all : (words given : List ℤ) (slots : List Slot) (i : ℕ) (s : Slot) (now : List Held) (held : Held) → slice_get slots i ≡ Some s → map (held_at words) slots ≡ now → true ≡ is_some s.pending → slice_get now i ≡ Some held →
    given ≡ left_by held given
leaves_all words given slots i s now held there seen some found =
    none_left s.pending (words_at s.at s.count words) given some ∙ ap (λ h. left_by h given) (told words slots i s now held there seen found)

one_poured : (p : Option ℕ) (region words first : List ℤ) (count : ℕ) → false ≡ is_some p → length region ≡ count → first ≡ take (min count (length words)) words → held_by p (with_words 0 first region) ≡ poured (held_by p region) words
one_poured None region words first count h long is =
    ap (λ f. Words (with_words 0 f region)) (is ∙ (take_min count words ∙ ap (λ n. take n words) (sym long)))
one_poured (Some number) region words first count h long is = absurd (cc h)

one_left : (p : Option ℕ) (region words rest : List ℤ) (count : ℕ) → false ≡ is_some p → length region ≡ count → rest ≡ drop (min count (length words)) words → rest ≡ left_by (held_by p region) words
one_left None region words rest count h long is = is ∙ (drop_min count words ∙ ap (λ n. drop n words) (sym long))
one_left (Some number) region words rest count h long is = absurd (cc h)

pub pours_one : (words given first all : List ℤ) (slots : List Slot) (i : ℕ) (s : Slot) (now : List Held) (held : Held) → IsLaid 0 slots (length words) → slice_get slots i ≡ Some s → map (held_at words) slots ≡ now → false ≡ is_some s.pending →
    first ≡ take (min s.count (length given)) given → length first ≤ s.count → all ≡ with_words s.at first words → slice_get now i ≡ Some held → map (held_at all) slots ≡ set now i (poured held given)
pours_one words given first all slots i s now held laid there seen none is h wrote found =
    let at : s.at ≡ s.at + 0 = omega arith in
    let fit : 0 + length first ≤ s.count = omega (arith, h) in
    here words first all slots i 0 s now laid there fit (wrote ∙ ap (λ k. with_words k first words) at) seen
    ∙ ap (set now i) (one_poured s.pending (words_at s.at s.count words) given first s.count none (region_length words slots i s laid there) is
    ∙ ap (λ h. poured h given) (told words slots i s now held there seen found))

pub leaves_rest : (words given rest : List ℤ) (slots : List Slot) (i : ℕ) (s : Slot) (now : List Held) (held : Held) → IsLaid 0 slots (length words) → slice_get slots i ≡ Some s → map (held_at words) slots ≡ now → false ≡ is_some s.pending →
    rest ≡ drop (min s.count (length given)) given → slice_get now i ≡ Some held → rest ≡ left_by held given
leaves_rest words given rest slots i s now held laid there seen none is found =
    one_left s.pending (words_at s.at s.count words) given rest s.count none (region_length words slots i s laid there) is
    ∙ ap (λ h. left_by h given) (told words slots i s now held there seen found)
