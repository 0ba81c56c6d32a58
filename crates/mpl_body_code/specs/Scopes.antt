-- Where the words of a place lie, before the body runs.
use Rattle.std.specs.Prelude.{Option, Some, None}
use Rattle.mpl_mean.specs.Meaning.PlaceMeaning.{is_bool}
use Rattle.mpl_mean.specs.Plain.Scopes.{Found, Slot}
use Rattle.mpl_body_code.specs.declared.instruction.Base.{Base}
use Rattle.mpl_body_code.specs.declared.instruction.Base.TheVariants as base
use Rattle.mpl_body_code.specs.declared.instruction.Spot.{Spot}

abbrev pub base_of_slot : Option Slot → Base
base_of_slot None = base.State
base_of_slot (Some slot) = base.Slot slot.number

abbrev pub spot_of : Found → Spot
spot_of found = record { base = base_of_slot found.slot; offset = found.offset; words = found.words; is_bool = is_bool found.type }
