-- Items that are taken from the top, the last first.
use Rattle.std.proofs.Common.{◌≡◌, ◌<◌, ℕ, zero, suc, ◌-◌, arith, List, [], ◌∷◌, ◌++◌, take, drop, reverse, append_assoc, refl, ap, sym, ◌∙◌}
use Rattle.std.proofs.lemmas.List.{reverse-append}
use Rattle.mpl_body_code.specs.Machine.{Item}

-- what is taken already, behind what is still to be taken
abbrev pub taken_with : ℕ → List Item → List Item → List Item
taken_with left stack items = reverse (take left stack) ++ items

pub one_taken : (left : ℕ) (item : Item) (below items : List Item) → taken_with left below (item ∷ items) ≡ taken_with (suc left) (item ∷ below) items
one_taken left item below items =
    sym (append_assoc (reverse (take left below)) (item ∷ []) items) ∙ ap (λ all. all ++ items) (sym (reverse-append (item ∷ []) (take left below)))

none_taken : (left : ℕ) (items : List Item) → taken_with left [] items ≡ taken_with (suc left) [] items
none_taken zero items = refl
none_taken (suc left) items = refl

pub none_left : (left : ℕ) (items : List Item) → 0 < left → taken_with (left - 1) [] items ≡ taken_with left [] items
none_left zero items h = absurd (omega arith)
none_left (suc left) items h = ap (λ n. taken_with n [] items) (let e : suc left - 1 ≡ left = omega arith in e) ∙ none_taken left items

drop_none : (n : ℕ) → drop {A = Item} n [] ≡ []
drop_none zero = refl
drop_none (suc n) = refl

pub none_dropped : (left : ℕ) → drop {A = Item} (left - 1) [] ≡ drop left []
none_dropped left = drop_none (left - 1) ∙ sym (drop_none left)
