-- Each missing argument is awaited, and so is each result that is passed on: an arc leads there.
use Rattle.std.specs.Prelude.{ℕ, ◌≡◌, ◌<◌, ◌⊎◌, ◌+◌, ◌==◌, ◌&&◌, Bool, true, false, List, [], ◌∷◌, Some, None, slice_get}
use Rattle.std.specs.List.{AllByRecursion}
use Rattle.mdf_core.specs.Actors.{Arc, Target, Port, Result, Forwarded}
use Rattle.mdf_core.specs.Causes.{Passes}
use Rattle.mdf_core.specs.Worlds.{World, fate_at}

-- ---- arcs to results

-- the result of an actor is passed on to that of another one
pub record PassesOn (w : World) (from a : ℕ) : Type 0 where
  pub from_there : from < w.count
  pub there : a < w.count
  pub passes : Passes w a from

abbrev pub PassesTo : World → ℕ → Target → Type 0
PassesTo w from (Port c port) = Unit {0}
PassesTo w from (Result a) = PassesOn w from a

abbrev pub PassesAlong : World → Arc → Type 0
PassesAlong w arc = PassesTo w arc.from arc.to

-- ---- arcs that are there

abbrev pub LeadsThere : Target → List Arc → Type 0
LeadsThere to [] = ⊥
LeadsThere to (arc ∷ others) = (arc.to ≡ to) ⊎ LeadsThere to others

-- some arc leads there, which waits or is due
abbrev pub IsAwaited : World → Target → Type 0
IsAwaited w to = LeadsThere to w.waits ⊎ LeadsThere to w.due

pub record AllAwaited (w : World) : Type 0 where
  pub ports : (c place : ℕ) → c < w.count → slice_get (w.actors c).ports place ≡ Some None → IsAwaited w (Port c place)
  pub results : (a child : ℕ) → fate_at w a ≡ Forwarded child → IsAwaited w (Result a)
  -- arcs to results are from the results that are passed on
  pub waits : AllByRecursion (PassesAlong w) w.waits
  pub due : AllByRecursion (PassesAlong w) w.due

-- ---- how many arcs lead there

abbrev pub same_target : Target → Target → Bool
same_target (Port c port) (Port d other) = (c == d) && (port == other)
same_target (Port c port) (Result b) = false
same_target (Result a) (Port d other) = false
same_target (Result a) (Result b) = a == b

abbrev pub one_if : Bool → ℕ
one_if true = 1
one_if false = 0

abbrev pub times_there : Target → List Arc → ℕ
times_there to [] = 0
times_there to (arc ∷ others) = one_if (same_target arc.to to) + times_there to others

-- those that wait and those that are due
abbrev pub times_awaited : World → Target → ℕ
times_awaited w to = times_there to w.waits + times_there to w.due
