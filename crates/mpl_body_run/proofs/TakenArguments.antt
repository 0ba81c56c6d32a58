-- Arguments that are taken from the top, the last first.
use Rattle.std.proofs.Common.{◌≡◌, ◌<◌, ℕ, zero, suc, ◌-◌, arith, List, [], ◌∷◌, ◌++◌, map, take, drop, reverse, append_assoc, refl, ap, sym, ◌∙◌}
use Rattle.std.proofs.lemmas.List.{map-append, reverse-append}
use Rattle.mpl_value.specs.declared.body.Arg.{Arg}
use Rattle.mpl_body_code.specs.Machine.{Item, arg_of}

-- what is taken already, behind what is still to be taken
abbrev pub taken_with : ℕ → List Item → List Arg → List Arg
taken_with left stack slots = map arg_of (reverse (take left stack)) ++ slots

pub one_taken : (left : ℕ) (item : Item) (below : List Item) (slots : List Arg) → taken_with left below (arg_of item ∷ slots) ≡ taken_with (suc left) (item ∷ below) slots
one_taken left item below slots =
    sym (append_assoc (map arg_of (reverse (take left below))) (arg_of item ∷ []) slots)
    ∙ ap (λ all. all ++ slots) (sym (map-append arg_of (reverse (take left below)) (item ∷ [])))
    ∙ ap (λ items. map arg_of items ++ slots) (sym (reverse-append (item ∷ []) (take left below)))

pub none_taken : (left : ℕ) (slots : List Arg) → taken_with left [] slots ≡ taken_with (suc left) [] slots
none_taken zero slots = refl
none_taken (suc left) slots = refl

pub none_left : (left : ℕ) (slots : List Arg) → 0 < left → taken_with (left - 1) [] slots ≡ taken_with left [] slots
none_left zero slots h = absurd (omega arith)
none_left (suc left) slots h = ap (λ n. taken_with n [] slots) (let e : suc left - 1 ≡ left = omega arith in e) ∙ none_taken left slots

drop_none : (n : ℕ) → drop {A = Item} n [] ≡ []
drop_none zero = refl
drop_none (suc n) = refl

pub none_dropped : (left : ℕ) → drop {A = Item} (left - 1) [] ≡ drop left []
none_dropped left = drop_none (left - 1) ∙ sym (drop_none left)

pub one_listed : (args : List Arg) (arg : Arg) (slots : List Arg) → (args ++ arg ∷ []) ++ slots ≡ args ++ arg ∷ slots
one_listed args arg slots = append_assoc args (arg ∷ []) slots
