-- Who waits for a result, and what is due once it is known.
use Rattle.std.specs.Prelude.{ℕ, Bool, true, false, List, [], ◌∷◌, if◌then◌else◌}
use Rattle.mdf_future.specs.declared.consumer.Consumer.{Consumer}
use Rattle.mdf_future.specs.declared.consumer.Consumer.TheVariants as consumer
use Rattle.mdf_future.specs.declared.consumer.Due.{Due}

-- a result is delivered to ports and to results; a parked actor resumes by itself
abbrev pub is_served : Consumer → Bool
is_served (consumer.Port _) = true
is_served (consumer.Parked _) = false
is_served (consumer.Result _) = true

-- what is due to these consumers of an actor's result, in their order
abbrev pub deliveries : ℕ → List Consumer → List Due
deliveries from [] = []
deliveries from (c ∷ cs) = if is_served c then (record { consumer = c; from = from }) ∷ deliveries from cs else deliveries from cs
