-- What a machine holds.
use Rattle.std.specs.Prelude.{ℕ, ◌+◌, ◌==◌, Bool, true, false, List, [], ◌∷◌, Option, Some, None, if◌then◌else◌, ℤ}
use Rattle.std.specs.Ordering.{int_eq}
use Rattle.mpl_value.specs.declared.known.Known.{Known}
use Rattle.mdf_code.specs.declared.raw.RawImage.{RawImage}
use Rattle.mdf_mean.specs.declared.entry.Entry.{Entry}
use Rattle.mdf_core.specs.declared.status.MachineStatus.{MachineStatus}
use Rattle.mdf_core.specs.declared.status.MachineStatus.TheVariants.{Going}
use Rattle.mdf_core.specs.Actors.{Actor, Arc, Fate, known_of, main_actor}

-- what a machine is about: a program, its input, and how many turns it may take
pub record Job : Type 0 where
  pub image : RawImage
  pub input : List ℤ
  pub budget : ℕ

-- an object: its class, the words of its state, and the actor of a body on it that hasn't ended
pub record Object : Type 0 where
  pub class : ℕ
  pub state : List ℤ
  pub busy : Option ℕ

pub record World : Type 0 where
  -- there are so many actors, from 0
  pub count : ℕ
  pub actors : ℕ → Actor
  pub objects : ℤ → Option Object
  -- the objects, the newest first
  pub created : List ℤ
  -- the arcs from results that aren't known, in the order in which they were added
  pub waits : List Arc
  -- the tokens that are due, the oldest first: arcs from results that are known
  pub due : List Arc
  -- the calls on objects that arrived, and those that were accepted, by their actors, the newest first
  pub arrived : List ℕ
  pub accepted : List ℕ
  -- the newest first
  pub journal : List Entry
  pub turns : ℕ
  pub why : MachineStatus

-- ---- looking up

abbrev pub fate_at : World → ℕ → Fate
fate_at w c = (w.actors c).fate

-- the known result of a call of an actor
abbrev pub known_at : World → Option ℕ → Option Known
known_at w None = None
known_at w (Some c) = known_of (fate_at w c)

abbrev pub is_in : ℕ → List ℕ → Bool
is_in c [] = false
is_in c (d ∷ others) = if d == c then true else is_in c others

-- ---- changing

abbrev pub put : {A : Type 0} → ℕ → A → (ℕ → A) → ℕ → A
put a x f k = if k == a then x else f k

abbrev pub put_object : ℤ → Object → (ℤ → Option Object) → ℤ → Option Object
put_object o x f k = if int_eq k o then Some x else f k

abbrev pub change : ℕ → (Actor → Actor) → World → World
change a f w = record w { actors = put a (f (w.actors a)) w.actors }

abbrev pub spends : ℕ → Actor → Actor
spends turns x = record x { spent = x.spent + turns }

-- an event of an actor, with the turns that it adds
abbrev pub acts : ℕ → ℕ → (Actor → Actor) → World → World
acts a turns f w = record (change a (λ x. spends turns (f x)) w) { turns = w.turns + turns }

-- ---- the opening machine

-- `main` is the one actor.
abbrev pub boot : Job → World
boot job = record {
  count = 1;
  actors = λ k. main_actor job.input;
  objects = λ o. None;
  created = [];
  waits = [];
  due = [];
  arrived = [];
  accepted = [];
  journal = [];
  turns = 0;
  why = Going;
}
