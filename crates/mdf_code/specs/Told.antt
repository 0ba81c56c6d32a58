-- A frame alone, by what it was told at its stops.
use Rattle.std.specs.Prelude.{ℕ, zero, suc, ◌+◌, ◌≤◌, ◌==◌, ◌≡◌, Bool, true, false, List, [], ◌∷◌, Option, Some, None, if◌then◌else◌, ℤ}
use Rattle.std.specs.List.{AllByRecursion}
use Rattle.mpl_value.specs.declared.body.Arg.{Arg}
use Rattle.mpl_value.specs.declared.body.Arg.TheVariants.{Unknown}
use Rattle.mpl_value.specs.declared.body.BodyStart.{BodyStart}
use Rattle.mpl_value.specs.declared.known.Known.{Known}
use Rattle.mpl_value.specs.CallAnswers.{arg_of_reply}
use Rattle.mdf_code.specs.declared.raw.RawImage.{RawImage}
use Rattle.mdf_code.specs.Alone.{Held, Words, Pending, framed}
use Rattle.mdf_code.specs.Frames.{Around, Frame, Next, Goes, Spends, Stops, Stop, Calls, Creates, Needs, Replies}
use Rattle.mdf_code.specs.Stacks.{given}
use Rattle.mdf_code.specs.Steps.{step}
use Rattle.mdf_code.specs.Yields.{answered, named, start_frame}

-- ---- runs

-- where a run halts: at a stop, or after as many turns as it was given
pub data Halt : Type 0 where
  Stands : (stop : Stop Held) → Halt
  Beats : Halt

-- the halt, the turns since the last, and the frame there
pub record Stood : Type 0 where
  pub halt : Halt
  pub turns : ℕ
  pub frame : Frame Held

abbrev pub after : (ℕ → Frame Held → Option Stood) → ℕ → ℕ → Next Held → Option Stood
after again quantum turns (Goes f) = again turns f
after again quantum turns (Spends f) = if turns + 1 == quantum then Some (record { halt = Beats; turns = turns + 1; frame = f }) else again (turns + 1) f
after again quantum turns (Stops stop f) = Some (record { halt = Stands stop; turns = turns; frame = f })

-- the run of a frame with this known of its results, to its next halt, where so many steps are enough
abbrev pub run : ℕ → (ℕ → Arg) → Around → ℕ → ℕ → Frame Held → Option Stood
run zero knows x quantum turns f = None
run (suc fuel) knows x quantum turns f = after (run fuel knows x quantum) quantum turns (step (framed knows) x f)

-- ---- what a frame is told

-- at its stops: that a call was made, what a result is, which object was made, that its result was taken; and behind a
-- beat
pub data Told : Type 0 where
  Called : Told
  Learnt : (known : Known) → Told
  Named : (object : ℤ) → Told
  Gave : Told
  Beaten : Told

-- a frame, how many calls it made, and what is known of their results
pub record Alone : Type 0 where
  pub frame : Frame Held
  pub calls : ℕ
  pub knows : ℕ → Arg

abbrev pub learns : ℕ → Arg → (ℕ → Arg) → ℕ → Arg
learns result value knows other = if other == result then value else knows other

-- where it goes on from after it was told that, if it could be told that there
abbrev pub told_at : RawImage → Alone → Frame Held → Halt → Told → Option Alone
told_at image a f (Stands (Calls member object arguments)) Called =
    Some (record a { frame = answered image member (Pending (a.calls + 1)) f; calls = a.calls + 1 })
told_at image a f (Stands (Needs (Pending result))) (Learnt known) = Some (record a { frame = f; knows = learns result (arg_of_reply (Some known)) a.knows })
told_at image a f (Stands (Creates class)) (Named object) = Some (record a { frame = named object f })
told_at image a f (Stands (Replies value)) Gave = Some (record a { frame = f })
told_at image a f Beats Beaten = Some (record a { frame = f })
told_at image a f halt told = None

-- what can be told at a halt
abbrev pub CanBeTold : Halt → Told → Type 0
CanBeTold (Stands (Calls member object arguments)) Called = Unit {0}
CanBeTold (Stands (Needs (Pending result))) (Learnt known) = Unit {0}
CanBeTold (Stands (Creates class)) (Named object) = Unit {0}
CanBeTold (Stands (Replies value)) Gave = Unit {0}
CanBeTold Beats Beaten = Unit {0}
CanBeTold halt told = ⊥

-- the most turns between two events of a frame
abbrev pub most_turns : ℕ
most_turns = 256

abbrev pub around_start : RawImage → BodyStart → Around
around_start image start = record { image = image; object = start.object }

abbrev pub first : RawImage → BodyStart → Alone
first image start = record { frame = start_frame Words image start; calls = 0; knows = λ result. Unknown }

abbrev pub runs_on : ℕ → RawImage → BodyStart → Alone → Option Stood
runs_on fuel image start a = run fuel a.knows (around_start image start) most_turns 0 a.frame

-- a frame behind what it was told, the newest first
abbrev pub behind : ℕ → RawImage → BodyStart → List Told → Option Alone
behind fuel image start [] = Some (first image start)
behind fuel image start (told ∷ before) =
    given (behind fuel image start before) (λ a. given (runs_on fuel image start a) (λ stood. told_at image a stood.frame stood.halt told))

-- where a frame halts next
abbrev pub next_within : ℕ → RawImage → BodyStart → List Told → Option Stood
next_within fuel image start told = given (behind fuel image start told) (runs_on fuel image start)

-- A frame alone that was told so halts next there: enough steps between two halts lead to it.
pub record HaltsNext (image : RawImage) (start : BodyStart) (told : List Told) (stood : Stood) : Type 0 where
  pub steps : ℕ
  pub within : next_within steps image start told ≡ Some stood

-- ---- what a frame may name

abbrev pub calls_made : List Told → ℕ
calls_made [] = 0
calls_made (Called ∷ before) = calls_made before + 1
calls_made (told ∷ before) = calls_made before

abbrev pub has_given : List Told → Bool
has_given [] = false
has_given (Gave ∷ before) = true
has_given (told ∷ before) = has_given before

-- known words, or the result of one of so many calls
abbrev pub IsMade : ℕ → Held → Type 0
IsMade calls (Words words) = Unit {0}
IsMade calls (Pending result) = (1 ≤ result) × (result ≤ calls)

-- a halt names results of so many calls alone
abbrev pub NamesMade : ℕ → Halt → Type 0
NamesMade calls (Stands (Calls member object arguments)) = AllByRecursion (IsMade calls) arguments
NamesMade calls (Stands (Needs value)) = IsMade calls value
NamesMade calls (Stands (Replies value)) = IsMade calls value
NamesMade calls halt = Unit {0}
