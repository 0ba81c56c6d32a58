-- A program has as many weights as tokens, and the weight at a token depends on the tokens up to it alone.
use Rattle.std.proofs.Common.{◌≡◌, ℕ, suc, true, List, [], ◌∷◌, ◌++◌, length, Option, Some, None, refl, ap, sym, ◌∙◌}
use Rattle.std.specs.Prelude.{slice_get}
use Rattle.mpl_ast.specs.declared.program.Program.{Program}
use Rattle.mpl_ast.specs.declared.token.Token.{Token}
use Rattle.mpl_mean.specs.Text.ProgramText.{spells}
use Rattle.mpl_mean.specs.Text.Weight.{weights}
use Rattle.mpl_grammar.specs.Internal.Grammar.{Stack}
use Rattle.mpl_grammar.specs.Internal.Machine.{Ends, is_accepted, next, onward, trace, weights_along}
use Rattle.mpl_grammar.proofs.FaultsFit.{accepted-prepend, nothing_behind, weights-prepend}
use Rattle.mpl_grammar.proofs.Programs.{spelled-trace}

weights-spelled : (p : Program) (tokens : List Token) → spells p tokens ≡ true → weights p ≡ weights_along (trace tokens [])
weights-spelled p tokens h =
    sym (nothing_behind (weights p)) ∙ sym (weights-prepend (weights p) (Ends true)) ∙ ap weights_along (sym (spelled-trace p tokens h))

-- ---- as many weights as tokens

counted-onward : (ts : List Token) (o : Option Stack) → ((s : Stack) → is_accepted (trace ts s) ≡ true → length (weights_along (trace ts s)) ≡ length ts)
    → is_accepted (onward (trace ts) o) ≡ true → length (weights_along (onward (trace ts) o)) ≡ suc (length ts)
counted-onward ts None later h = absurd cc
counted-onward ts (Some s) later h = ap suc (later s h)

counted : (ts : List Token) (s : Stack) → is_accepted (trace ts s) ≡ true → length (weights_along (trace ts s)) ≡ length ts
counted [] s h = refl
counted (t ∷ ts) s h = counted-onward ts (next s t.kind) (counted ts) h

pub length-weights : (p : Program) (tokens : List Token) → spells p tokens ≡ true → length (weights p) ≡ length tokens
length-weights p tokens h =
    let accepted = ap is_accepted (spelled-trace p tokens h) ∙ accepted-prepend (weights p) (Ends true) in
    ap length (weights-spelled p tokens h) ∙ counted tokens [] accepted

-- ---- the tokens up to it alone

abbrev weight_there : List Token → List Token → Stack → Option ℕ
weight_there front rest s = slice_get (weights_along (trace (front ++ rest) s)) (length front)

first_weight : (o : Option Stack) (xs ys : List Token) → slice_get (weights_along (onward (trace xs) o)) 0 ≡ slice_get (weights_along (onward (trace ys) o)) 0
first_weight None xs ys = refl
first_weight (Some s) xs ys = refl

later_weight : (o : Option Stack) (front xs ys : List Token) → ((s : Stack) → weight_there front xs s ≡ weight_there front ys s)
    → slice_get (weights_along (onward (trace (front ++ xs)) o)) (suc (length front)) ≡ slice_get (weights_along (onward (trace (front ++ ys)) o)) (suc (length front))
later_weight None front xs ys later = refl
later_weight (Some s) front xs ys later = later s

same_there : (front : List Token) (t : Token) (xs ys : List Token) (s : Stack) → weight_there front (t ∷ xs) s ≡ weight_there front (t ∷ ys) s
same_there [] t xs ys s = first_weight (next s t.kind) xs ys
same_there (f ∷ front) t xs ys s = later_weight (next s f.kind) front (t ∷ xs) (t ∷ ys) (same_there front t xs ys)

pub same-weight : (p q : Program) (front : List Token) (t : Token) (xs ys : List Token) → spells p (front ++ t ∷ xs) ≡ true → spells q (front ++ t ∷ ys) ≡ true
    → slice_get (weights p) (length front) ≡ slice_get (weights q) (length front)
same-weight p q front t xs ys h k =
    ap (λ ws. slice_get ws (length front)) (weights-spelled p (front ++ t ∷ xs) h) ∙ same_there front t xs ys []
    ∙ ap (λ ws. slice_get ws (length front)) (sym (weights-spelled q (front ++ t ∷ ys) k))
