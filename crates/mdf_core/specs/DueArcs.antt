-- An arc waits as long as its result isn't known, and is due from then on.
use Rattle.std.specs.Prelude.{◌≡◌, true, false}
use Rattle.std.specs.List.{AllByRecursion}
use Rattle.mdf_core.specs.Actors.{Arc, is_known}
use Rattle.mdf_core.specs.Worlds.{World, fate_at}

pub record ArcsAreDue (w : World) : Type 0 where
  pub waits : AllByRecursion (λ (arc : Arc). is_known (fate_at w arc.from) ≡ false) w.waits
  pub due : AllByRecursion (λ (arc : Arc). is_known (fate_at w arc.from) ≡ true) w.due
