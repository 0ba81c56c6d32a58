-- A number for each actor that is its own and those of the actors of its calls.
use Rattle.std.proofs.Common.{◌≡◌, ◌+◌, ◌<◌, ◌≤◌, ℕ, zero, suc, Option, Some, None, refl, ap, ap₂, arith}
use Rattle.mdf_code.specs.Told.{calls_made}
use Rattle.mdf_core.specs.Naming.{sum_below}
use Rattle.mdf_core.specs.Trees.{IsTree, at_child, over_calls, over_children}
use Rattle.mdf_core.specs.Worlds.{World}
use Rattle.mdf_core.proofs.Lists.{sum_same}

-- along so many levels
abbrev total : ℕ → (ℕ → ℕ) → World → ℕ → ℕ
total zero f w c = 0
total (suc k) f w c = f c + over_calls (total k f w) (w.actors c)

over_same : (w : World) (t : IsTree w) (g h : ℕ → ℕ) (a : ℕ) → ((d : ℕ) → a < d → d < w.count → g d ≡ h d) → (n : ℕ) → over_children g (w.actors a).child n ≡ over_children h (w.actors a).child n
over_same w t g h a same zero = refl
over_same w t g h a same (suc n) = ap₂ (λ x y. x + y) (over_same w t g h a same n) (at ((w.actors a).child (suc n)) refl) where
  at : (o : Option ℕ) → (w.actors a).child (suc n) ≡ o → at_child g o ≡ at_child h o
  at None is = refl
  at (Some d) is = let c = t.children a (suc n) d is in same d c.newer c.there

stable : (w : World) (t : IsTree w) (f : ℕ → ℕ) (k l c : ℕ) → w.count ≤ c + k → w.count ≤ c + l → c < w.count → total k f w c ≡ total l f w c
stable w t f zero l c a b there = absurd (omega (arith, a, there))
stable w t f (suc k) zero c a b there = absurd (omega (arith, b, there))
stable w t f (suc k) (suc l) c a b there =
    ap (λ n. f c + n) (over_same w t (total k f w) (total l f w) c (λ d newer below. stable w t f k l d (omega (arith, a, newer)) (omega (arith, b, newer)) below) (calls_made (w.actors c).told))

pub tree_turns : (w : World) → IsTree w → (f : ℕ → ℕ) → (g : ℕ → ℕ) × ((c : ℕ) → c < w.count → g c ≡ f c + over_calls g (w.actors c))
tree_turns w t f = (total w.count f w, λ c there. at w.count refl c there) where
  at : (n : ℕ) → w.count ≡ n → (c : ℕ) → c < w.count → total n f w c ≡ f c + over_calls (total n f w) (w.actors c)
  at zero is c there = absurd (omega (arith, is, there))
  at (suc m) is c there = ap (λ n. f c + n) (over_same w t (total m f w) (total (suc m) f w) c
      (λ d newer below. stable w t f m (suc m) d (omega (arith, is, newer)) (omega (arith, is, newer)) below) (calls_made (w.actors c).told))

sum_plus : (n : ℕ) (f g : ℕ → ℕ) → sum_below n (λ c. f c + g c) ≡ sum_below n f + sum_below n g
sum_plus zero f g = refl
sum_plus (suc n) f g = omega (arith, sum_plus n f g)

-- the number of `main` is the sum of all actors' own
pub all_turns : (w : World) (f g : ℕ → ℕ) → ((c : ℕ) → c < w.count → g c ≡ f c + over_calls g (w.actors c)) → sum_below w.count (λ a. over_calls g (w.actors a)) + g 0 ≡ sum_below w.count g → g 0 ≡ sum_below w.count f
all_turns w f g each sums = omega (arith, sums, sum_same w.count (λ c. f c + over_calls g (w.actors c)) g each, sum_plus w.count f (λ c. over_calls g (w.actors c)))
