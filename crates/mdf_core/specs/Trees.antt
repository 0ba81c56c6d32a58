-- The actors of a machine are a tree: each but `main` is the child of the one that made its call.
use Rattle.std.specs.Prelude.{ℕ, zero, suc, ◌≡◌, ◌+◌, ◌<◌, ◌≤◌, Option, Some, None}
use Rattle.mdf_code.specs.Told.{calls_made}
use Rattle.mdf_core.specs.Actors.{Actor}
use Rattle.mdf_core.specs.Worlds.{World}

-- a child is the actor of a call that was made, and newer
pub record IsChild (w : World) (a call c : ℕ) : Type 0 where
  pub first : 1 ≤ call
  pub made : call ≤ calls_made (w.actors a).told
  pub newer : a < c
  pub there : c < w.count
  pub caller : (w.actors c).call.caller ≡ a
  pub place : (w.actors c).call.place ≡ call

-- calls and children invert each other
pub record IsTree (w : World) : Type 0 where
  pub children : (a call c : ℕ) → (w.actors a).child call ≡ Some c → IsChild w a call c
  pub callers : (c : ℕ) → 0 < c → c < w.count → (w.actors (w.actors c).call.caller).child (w.actors c).call.place ≡ Some c
  pub calls : (a call : ℕ) → a < w.count → 1 ≤ call → call ≤ calls_made (w.actors a).told → (c : ℕ) × ((w.actors a).child call ≡ Some c)

-- ---- sums

abbrev pub at_child : (ℕ → ℕ) → Option ℕ → ℕ
at_child g None = 0
at_child g (Some c) = g c

-- over the children of so many calls
abbrev pub over_children : (ℕ → ℕ) → (ℕ → Option ℕ) → ℕ → ℕ
over_children g child zero = 0
over_children g child (suc n) = over_children g child n + at_child g (child (suc n))

abbrev pub over_calls : (ℕ → ℕ) → Actor → ℕ
over_calls g x = over_children g x.child (calls_made x.told)
