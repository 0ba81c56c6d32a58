-- Words for laws of logs: the actors that events name, a frame that stays as it is, and sums over actors.
use Rattle.std.specs.Prelude.{ℕ, zero, suc, ◌≡◌, ◌+◌, ◌||◌, Bool, true, false, List, [], ◌∷◌}
use Rattle.mdf_actor.specs.declared.status.ActorStatus.{ActorStatus}
use Rattle.mdf_actor.specs.declared.status.ActorStatus.TheVariants as status
use Rattle.mdf_core.specs.Actors.{Actor}
use Rattle.mdf_core.specs.Events.{Event}
use Rattle.mdf_core.specs.Out.{actor_of, is_actor}
use Rattle.mdf_core.specs.Worlds.{World}

-- whether some of the events is of the actor's frame
abbrev pub names : ℕ → List Event → Bool
names a [] = false
names a (event ∷ others) = is_actor a (actor_of event) || names a others

abbrev pub is_running : ActorStatus → Bool
is_running (status.Waiting missing) = false
is_running status.Ready = false
is_running status.Running = true
is_running (status.Parked child) = false
is_running status.Ended = false
is_running status.Poisoned = false

-- The frame of an actor is the same: where it runs, what it was told, and what follows from that.
pub record SameFrame (x y : Actor) : Type 0 where
  pub status : y.status ≡ x.status
  pub start : y.start ≡ x.start
  pub told : y.told ≡ x.told
  pub counted : y.counted ≡ x.counted
  pub made : y.made ≡ x.made

-- of the numbers below
abbrev pub sum_below : ℕ → (ℕ → ℕ) → ℕ
sum_below zero f = 0
sum_below (suc n) f = sum_below n f + f n

-- the turns that the events of all actors added
abbrev pub spent_in : World → ℕ
spent_in w = sum_below w.count (λ a. (w.actors a).spent)
