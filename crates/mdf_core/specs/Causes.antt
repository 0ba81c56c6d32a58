-- What a frame was told has its cause in the machine: what it was told at each halt is so there.
use Rattle.std.specs.Prelude.{ℕ, ◌≡◌, ◌+◌, ◌⊎◌, List, [], ◌∷◌, Some, ℤ}
use Rattle.mpl_value.specs.declared.known.Known.{Known}
use Rattle.mpl_value.specs.declared.known.Known.TheVariants.{Value}
use Rattle.mpl_value.specs.Words.{object_word}
use Rattle.mdf_code.specs.Alone.{Held, Words, Pending}
use Rattle.mdf_code.specs.Frames.{Calls, Creates, Needs, Replies}
use Rattle.mdf_code.specs.Told.{Beaten, Beats, Called, Gave, Halt, HaltsNext, Learnt, Named, Stands, Stood, Told, calls_made}
use Rattle.mdf_core.specs.Actors.{Is, Forwarded}
use Rattle.mdf_core.specs.Worlds.{Job, World, fate_at, known_at}

-- a call has an actor, of its member, its object and its arguments
pub record HasActor (w : World) (a call member : ℕ) (object : ℤ) (arguments : List Held) : Type 0 where
  pub child : ℕ
  pub is : (w.actors a).child call ≡ Some child
  pub member_is : (w.actors child).call.member ≡ Some (record { 0 = member })
  pub object_is : (w.actors child).call.object ≡ object
  pub arguments_are : (w.actors child).call.arguments ≡ arguments

-- An actor passes the result of another one on: it will be its own, and is where it is known.
abbrev pub Passes : World → ℕ → ℕ → Type 0
Passes w a child = (fate_at w a ≡ Forwarded child) ⊎ ((known : Known) × (fate_at w a ≡ Is known) × (known_at w (Some child) ≡ Some known))

-- a result was given: known words are it, and that of a call is passed on
abbrev pub IsGiven : World → ℕ → Held → Type 0
IsGiven w a (Words words) = known_at w (Some a) ≡ Some (Value words)
IsGiven w a (Pending call) = (child : ℕ) × ((w.actors a).child call ≡ Some child) × Passes w a child

abbrev pub objects_named : List Told → ℕ
objects_named [] = 0
objects_named (Named object ∷ before) = objects_named before + 1
objects_named (told ∷ before) = objects_named before

-- what the frame of an actor was told at a halt, behind this
abbrev pub IsSo : World → ℕ → List Told → Halt → Told → Type 0
IsSo w a before (Stands (Calls member object arguments)) Called = HasActor w a (calls_made before + 1) member object arguments
IsSo w a before (Stands (Needs (Pending call))) (Learnt known) = known_at w ((w.actors a).child call) ≡ Some known
IsSo w a before (Stands (Creates class)) (Named object) = object ≡ object_word (w.actors a).start.number (objects_named before + 1)
IsSo w a before (Stands (Replies value)) Gave = IsGiven w a value
IsSo w a before Beats Beaten = Unit {0}
IsSo w a before halt told = ⊥

pub record ToldAt (job : Job) (w : World) (a : ℕ) (before : List Told) (told : Told) : Type 0 where
  pub stood : Stood
  pub halts : HaltsNext job.image (w.actors a).start before stood
  pub is : IsSo w a before stood.halt told

-- Each thing that the frame was told is so, the newest first.
abbrev pub AreSo : Job → World → ℕ → List Told → Type 0
AreSo job w a [] = Unit {0}
AreSo job w a (told ∷ before) = ToldAt job w a before told × AreSo job w a before
