-- What is still to come lies in a list with the next one last.
use Rattle.std.proofs.Common.{◌≡◌, ◌≤◌, ◌<◌, ◌+◌, ℕ, zero, suc, Bool, true, false, ◌&&◌, [], ◌∷◌, ◌++◌, length, drop, get_or, refl, ap, sym, ◌∙◌, subst, arith}
use Rattle.std.specs.Prelude.{reverse}
use Rattle.std.specs.List.{list_all}
use Rattle.std.proofs.lemmas.List.{reverse-append, drop_more}
use Rattle.std.proofs.lemmas.List.Folds.{list_all-append}
use Rattle.mpl_grammar.specs.Internal.Grammar.{Stack}
use Rattle.mpl_grammar.specs.Internal.Machine.{heavier, weight}
use Rattle.mpl_grammar.specs.declared.symbol.Symbol.{Symbol}
use Rattle.mpl_grammar.proofs.Growth.{heavier-least}

pub pushed_on : (xs : Stack) (x : Symbol) → reverse (xs ++ x ∷ []) ≡ x ∷ reverse xs
pushed_on xs x = reverse-append xs (x ∷ [])

pub popped_off : (all xs : Stack) (x : Symbol) → all ≡ xs ++ x ∷ [] → reverse all ≡ x ∷ reverse xs
popped_off all xs x e = ap reverse e ∙ pushed_on xs x

one_swapped : (a b : Bool) → (a && (b && true)) ≡ (b && a)
one_swapped true true = refl
one_swapped true false = refl
one_swapped false true = refl
one_swapped false false = refl

pub all_reversed : (p : Symbol → Bool) (xs : Stack) → list_all p (reverse xs) ≡ list_all p xs
all_reversed p [] = refl
all_reversed p (x ∷ xs) =
    ap (list_all p) (reverse-append (x ∷ []) xs)
    ∙ list_all-append p (reverse xs) (x ∷ [])
    ∙ one_swapped (list_all p (reverse xs)) (p x)
    ∙ ap (λ b. p x && b) (all_reversed p xs)

-- ---- a list that is pushed from its end

lighter : (n : ℕ) (xs old : Stack) → weight (drop n xs ++ old) ≤ weight (xs ++ old)
lighter zero xs old = omega arith
lighter (suc n) [] old = omega arith
lighter (suc n) (x ∷ xs) old =
    let rest = lighter n xs old in
    let more = heavier-least x (weight (xs ++ old)) in
    omega arith

-- the symbol before those that were pushed
pub next_pushed : (xs old now : Stack) (left : ℕ) (d : Symbol) → left < length xs → now ≡ drop (left + 1) xs ++ old → get_or xs left d ∷ now ≡ drop left xs ++ old
next_pushed xs old now left d inside e =
    ap (λ s. get_or xs left d ∷ s) e ∙ ap (λ s. s ++ old) (sym (drop_more xs left d inside))

pub next_weighs : (xs old now : Stack) (left : ℕ) (d : Symbol) → left < length xs → now ≡ drop (left + 1) xs ++ old → heavier (get_or xs left d) (weight now) ≤ weight (xs ++ old)
next_weighs xs old now left d inside e =
    subst (λ s. weight s ≤ weight (xs ++ old)) (sym (next_pushed xs old now left d inside e)) (lighter left xs old)
