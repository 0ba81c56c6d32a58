-- A list with an item for each serial that has one, by the marks of these serials.
use Rattle.std.proofs.Common.{◌≡◌, ℕ, zero, suc, ◌+◌, ◌<◌, Bool, true, false, List, [], ◌∷◌, length, refl, ap, sym, ◌∙◌, arith}
use Rattle.std.specs.Prelude.{Option, Some, None, is_some, slice_get, slice_index_or}
use Rattle.std.specs.List.{filter_map, cons_option, items_where_true, range_with_len}
use Rattle.std.specs.Option.{option_and_then}
use Rattle.mdf_order.specs.InOrder.{serials_in}

-- those are marked that have an item
abbrev pub AreMarksOf : {A : Type 0} → (ℕ → Option A) → List Bool → Type 0
AreMarksOf item marks = (serial : ℕ) → serial < length marks → slice_index_or marks serial false ≡ is_some (item serial)

-- the same, if the first mark is that of a serial
abbrev AreMarksFrom : {A : Type 0} → (ℕ → Option A) → ℕ → List Bool → Type 0
AreMarksFrom item first marks = (at : ℕ) → at < length marks → slice_index_or marks at false ≡ is_some (item (first + at))

from-zero : {A : Type 0} (item : ℕ → Option A) (marks : List Bool) → AreMarksOf item marks → AreMarksFrom item 0 marks
from-zero item marks are at within = let same : at ≡ 0 + at = omega arith in are at within ∙ ap (λ n. is_some (item n)) same

later : {A : Type 0} (item : ℕ → Option A) (first : ℕ) (mark : Bool) (marks : List Bool) → AreMarksFrom item first (mark ∷ marks) → AreMarksFrom item (first + 1) marks
later item first mark marks are at within =
    let there : first + suc at ≡ first + 1 + at = omega arith in are (suc at) (omega arith) ∙ ap (λ n. is_some (item n)) there

one-more : {A : Type 0} (item : ℕ → Option A) (first : ℕ) (mark : Bool) (o : Option A) (items : List A) (marks : List Bool) (serials : List ℕ)
    → item first ≡ o → mark ≡ is_some o
    → ((place : ℕ) → slice_get items place ≡ option_and_then item (slice_get (items_where_true marks serials) place))
    → (place : ℕ) → slice_get (cons_option o items) place ≡ option_and_then item (slice_get (items_where_true (mark ∷ marks) (first ∷ serials)) place)
one-more item first true (Some x) items marks serials is marked rest zero = sym is
one-more item first true (Some x) items marks serials is marked rest (suc place) = rest place
one-more item first false None items marks serials is marked rest place = rest place
one-more item first true None items marks serials is marked rest place = absurd (cc)
one-more item first false (Some x) items marks serials is marked rest place = absurd (cc)

item-from : {A : Type 0} (item : ℕ → Option A) (first : ℕ) (marks : List Bool) → AreMarksFrom item first marks → (place : ℕ)
    → slice_get (filter_map item (range_with_len first (length marks))) place
    ≡ option_and_then item (slice_get (items_where_true marks (range_with_len first (length marks))) place)
item-from item first [] are place = refl
item-from item first (mark ∷ marks) are place =
    let here : first + 0 ≡ first = omega arith in
    one-more item first mark (item first) _ marks _ refl (are 0 (omega arith) ∙ ap (λ n. is_some (item n)) here)
    (item-from item (first + 1) marks (later item first mark marks are)) place

-- the item at a place is that of the serial at this place
pub item-at_place : {A : Type 0} (item : ℕ → Option A) (marks : List Bool) → AreMarksOf item marks → (place : ℕ)
    → slice_get (filter_map item (range_with_len 0 (length marks))) place ≡ option_and_then item (slice_get (serials_in marks) place)
item-at_place item marks are place = item-from item 0 marks (from-zero item marks are) place

one-more-length : {A : Type 0} (mark : Bool) (o : Option A) (first : ℕ) (items : List A) (marks : List Bool) (serials : List ℕ) → mark ≡ is_some o
    → length items ≡ length (items_where_true marks serials) → length (cons_option o items) ≡ length (items_where_true (mark ∷ marks) (first ∷ serials))
one-more-length true (Some x) first items marks serials marked rest = ap suc rest
one-more-length false None first items marks serials marked rest = rest
one-more-length true None first items marks serials marked rest = absurd (cc)
one-more-length false (Some x) first items marks serials marked rest = absurd (cc)

length-from : {A : Type 0} (item : ℕ → Option A) (first : ℕ) (marks : List Bool) → AreMarksFrom item first marks
    → length (filter_map item (range_with_len first (length marks))) ≡ length (items_where_true marks (range_with_len first (length marks)))
length-from item first [] are = refl
length-from item first (mark ∷ marks) are =
    let here : first + 0 ≡ first = omega arith in
    one-more-length mark (item first) first _ marks _ (are 0 (omega arith) ∙ ap (λ n. is_some (item n)) here)
    (length-from item (first + 1) marks (later item first mark marks are))

-- there are as many items as serials that are in
pub length-items : {A : Type 0} (item : ℕ → Option A) (marks : List Bool) → AreMarksOf item marks
    → length (filter_map item (range_with_len 0 (length marks))) ≡ length (serials_in marks)
length-items item marks are = length-from item 0 marks (from-zero item marks are)
