-- Operands of calls and lines.
use Rattle.std.proofs.Common.{◌≡◌, ◌≢◌, ◌≤◌, ℕ, zero, suc, min, ◌==◌, Bool, true, false, cond, List, [], ◌∷◌, length, drop, refl, ap, arith}
use Rattle.std.specs.Prelude.{ℤ, Result, Ok, Err, OnOk}
use Rattle.mdf_code.specs.Alone.{Held}
use Rattle.mdf_code.specs.Frames.{Flow}
use Rattle.mdf_code.specs.Steps.{sizes_agree, texts_after_first}

-- without words a line is at its end
no_words : (letters : List ℕ) → texts_after_first letters [] ≡ 10 ∷ []
no_words [] = refl
no_words (letter ∷ letters) = refl

pub texts_over : (letters : List ℕ) (words : List ℤ) (place : ℕ) → min (length letters) (length words) ≤ place → texts_after_first (drop place letters) (drop place words) ≡ 10 ∷ []
texts_over [] words zero h = refl
texts_over [] words (suc place) h = refl
texts_over (letter ∷ letters) [] zero h = refl
texts_over (letter ∷ letters) [] (suc place) h = no_words (drop place letters)
texts_over (letter ∷ letters) (word ∷ words) zero h = absurd (omega (arith, h))
texts_over (letter ∷ letters) (word ∷ words) (suc place) h = texts_over letters words place (omega (arith, h))

-- other counts don't agree
if_same : (t : Bool) (u : Bool) → u ≡ false → cond t u false ≡ false
if_same true u h = h
if_same false u h = refl

pub other_count : (sizes : List ℕ) (flows : List (Flow Held)) → length sizes ≢ length flows → sizes_agree sizes flows ≡ false
other_count [] [] h = absurd (h refl)
other_count [] (flow ∷ flows) h = refl
other_count (size ∷ sizes) [] h = refl
other_count (size ∷ sizes) (flow ∷ flows) h = if_same (flow.words == size) (sizes_agree sizes flows) (other_count sizes flows (λ same. h (ap suc same)))

pub on_ok : {T E P Q : Type 0} (r : Result T E) → (P → Q) → OnOk r P → OnOk r Q
on_ok (Ok x) f h = f h
on_ok (Err e) f h = h
