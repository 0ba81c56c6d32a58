-- Ports have their arguments' values, and arcs lead where an argument or a result is to come.
use Rattle.std.specs.Prelude.{ℕ, ◌≡◌, ◌<◌, Some, slice_get}
use Rattle.std.specs.List.{AllByRecursion}
use Rattle.mpl_value.specs.declared.known.Known.{Known}
use Rattle.mpl_value.specs.declared.known.Known.TheVariants.{Value}
use Rattle.mdf_code.specs.Alone.{Held, Words, Pending}
use Rattle.mdf_core.specs.Actors.{Arc, Target, Port, Result}
use Rattle.mdf_core.specs.Worlds.{World, known_at}

-- an argument that an actor passes has this value
abbrev pub ArgumentIs : World → ℕ → Known → Held → Type 0
ArgumentIs w a known (Words words) = Value words ≡ known
ArgumentIs w a known (Pending call) = known_at w ((w.actors a).child call) ≡ Some known

-- the argument of an actor's call at a place has this value
pub record HasArgument (w : World) (c place : ℕ) (known : Known) : Type 0 where
  pub argument : Held
  pub at : slice_get (w.actors c).call.arguments place ≡ Some argument
  pub is : ArgumentIs w (w.actors c).call.caller known argument

-- an arc to a port is from the call that is its argument
pub record LeadsToPort (w : World) (from c port : ℕ) : Type 0 where
  pub there : c < w.count
  pub call : ℕ
  pub at : slice_get (w.actors c).call.arguments port ≡ Some (Pending call)
  pub is : (w.actors (w.actors c).call.caller).child call ≡ Some from

-- an arc to a result is from a call of its actor
pub record LeadsToResult (w : World) (from a : ℕ) : Type 0 where
  pub there : a < w.count
  pub call : ℕ
  pub is : (w.actors a).child call ≡ Some from

abbrev pub LeadsTo : World → ℕ → Target → Type 0
LeadsTo w from (Port c port) = LeadsToPort w from c port
LeadsTo w from (Result a) = LeadsToResult w from a

abbrev pub Leads : World → Arc → Type 0
Leads w arc = LeadsTo w arc.from arc.to

-- all arcs do so
pub record ArcsLead (w : World) : Type 0 where
  pub waits : AllByRecursion (Leads w) w.waits
  pub due : AllByRecursion (Leads w) w.due
