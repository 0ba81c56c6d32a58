-- A small image, and words for what one instruction does in it.
use Rattle.std.specs.Prelude.{ℕ, Bool, true, false, List, [], ◌∷◌, Option, Some, None, ℤ, pos, replicate}
use Rattle.mpl_value.specs.declared.body.Arg.{Arg}
use Rattle.mpl_value.specs.declared.body.Arg.TheVariants.{Know, Unknown}
use Rattle.mpl_value.specs.declared.body.BodyStart.{BodyStart}
use Rattle.mpl_value.specs.declared.known.Trap.{Trap}
use Rattle.mpl_value.specs.declared.known.TrapKind.{TrapKind}
use Rattle.mdf_code.specs.declared.instr.Instr.{Instr}
use Rattle.mdf_code.specs.declared.instr.Instr.TheVariants as instr
use Rattle.mdf_code.specs.declared.raw.RawClass.{RawClass}
use Rattle.mdf_code.specs.declared.raw.RawCode.{RawCode}
use Rattle.mdf_code.specs.declared.raw.RawFunction.{RawFunction}
use Rattle.mdf_code.specs.declared.raw.RawImage.{RawImage}
use Rattle.mdf_code.specs.declared.raw.RawMember.{RawMember}
use Rattle.mdf_code.specs.Frames.{Around, Code, InMain, InMember, Flow, Frame, Next, Goes, Spends, Stops, Stop, Traps}
use Rattle.mdf_code.specs.Steps.{Does, does}
use Rattle.mdf_code.specs.Yields.{in_place}

-- ---- images

abbrev pub code : List ℕ → List Instr → RawCode
code sizes text = record { vars = sizes; code = text }

abbrev pub regular_class : RawClass
regular_class = record { regular = true; words = 0; selects = false }

-- a class whose objects have a state of so many words
abbrev pub persistent_class : ℕ → RawClass
persistent_class words = record { regular = false; words = words; selects = true }

abbrev pub member : ℕ → ℕ → Option ℕ → RawCode → RawMember
member class formals gives body = record { class = class; formals = formals; result = gives; body = body }

abbrev pub function : ℕ → ℕ → RawCode → RawFunction
function formals words body = record { formals = formals; result = words; body = body }

-- `main` alone
abbrev pub only_main : RawCode → RawImage
only_main main = record { functions = []; classes = []; members = []; entries = []; main = main }

-- A plain function of two words, a regular class and a persistent one with a state of two words. Member 0 is regular, with
-- two formals and a result. Members 1 and 2 are persistent: one with a formal and no result, one with a result. Main has
-- five instructions and variables of 1, 2 and 2 words.
abbrev pub small : RawImage
small = record {
  functions = function 2 1 (code (1 ∷ 1 ∷ 2 ∷ []) []) ∷ [];
  classes = regular_class ∷ persistent_class 2 ∷ [];
  members = member 0 2 (Some 1) (code (1 ∷ 1 ∷ []) []) ∷ member 1 1 None (code (1 ∷ []) []) ∷ member 1 0 (Some 1) (code [] []) ∷ [];
  entries = [];
  main = code (1 ∷ 2 ∷ 2 ∷ []) (replicate 5 instr.Test);
}

-- ---- frames

abbrev pub number : ℕ → Arg
number n = Know (pos n ∷ [])

abbrev pub pair : ℕ → ℕ → Arg
pair m n = Know (pos m ∷ pos n ∷ [])

abbrev pub flow : Arg → ℕ → Flow Arg
flow value words = record { value = value; words = words }

abbrev pub trap : TrapKind → ℕ → Trap
trap kind line = record { kind = kind; line = line }

-- at place 3 of a code, with the state 7 and 8 and the number 9 as input
abbrev pub frame : Code → List ℤ → List (Flow Arg) → List Arg → Frame Arg
frame code words flows variables = record {
  code = code;
  place = 3;
  words = words;
  flows = flows;
  variables = variables;
  callers = [];
  state = pos 7 ∷ pos 8 ∷ [];
  input = pos 9 ∷ [];
  lines = [];
  replied = false;
}

abbrev pub around_small : Around
around_small = record { image = small; object = pos 5 }

-- an instruction in a code, with these words, flow values and variables
abbrev pub one : Instr → Code → List ℤ → List (Flow Arg) → List Arg → Does Arg
one instruction code words flows variables = does in_place around_small instruction (frame code words flows variables)

-- ---- what it does

abbrev pub frame_of : Next Arg → Frame Arg
frame_of (Goes f) = f
frame_of (Spends f) = f
frame_of (Stops stop f) = f

abbrev pub seen : {A : Type 0} → (Frame Arg → A) → Does Arg → Option A
seen part None = None
seen part (Some next) = Some (part (frame_of next))

-- the words behind it, where it goes on
abbrev pub words_after : Instr → List ℤ → Option (List ℤ)
words_after instruction words = seen (λ f. f.words) (one instruction InMain words [] (number 4 ∷ pair 5 6 ∷ Unknown ∷ []))

abbrev pub flows_after : Instr → List (Flow Arg) → Option (List (Flow Arg))
flows_after instruction flows = seen (λ f. f.flows) (one instruction InMain (pos 2 ∷ pos 1 ∷ []) flows (number 4 ∷ pair 5 6 ∷ Unknown ∷ []))

abbrev pub variables_after : Instr → List ℤ → Option (List Arg)
variables_after instruction words = seen (λ f. f.variables) (one instruction InMain words (flow (pair 1 2) 2 ∷ []) (number 4 ∷ pair 5 6 ∷ Unknown ∷ []))

-- the state behind it, in the persistent member 2
abbrev pub state_after : Instr → List ℤ → Option (List ℤ)
state_after instruction words = seen (λ f. f.state) (one instruction (InMember 2) words [] [])

abbrev pub place_after : Instr → List ℤ → Option ℕ
place_after instruction words = seen (λ f. f.place) (one instruction InMain words [] [])

abbrev pub stop_of : Does Arg → Option (Stop Arg)
stop_of None = None
stop_of (Some (Goes f)) = None
stop_of (Some (Spends f)) = None
stop_of (Some (Stops stop f)) = Some stop

-- the stop of an instruction in `main`
abbrev pub stops_with : Instr → List ℤ → List (Flow Arg) → Option (Stop Arg)
stops_with instruction words flows = stop_of (one instruction InMain words flows (number 4 ∷ pair 5 6 ∷ Unknown ∷ []))

abbrev pub traps_with : TrapKind → ℕ → Option (Stop Arg)
traps_with kind line = Some (Traps (trap kind line))

abbrev pub spends_turn : Does Arg → Bool
spends_turn None = false
spends_turn (Some (Goes f)) = false
spends_turn (Some (Spends f)) = true
spends_turn (Some (Stops stop f)) = false

-- it finds nothing to do
abbrev pub strays : Instr → Code → List ℤ → List (Flow Arg) → Bool
strays instruction code words flows = is_none (one instruction code words flows (number 4 ∷ pair 5 6 ∷ Unknown ∷ [])) where
  is_none : Does Arg → Bool
  is_none None = true
  is_none (Some next) = false

-- the start of `main`
abbrev pub main_start : List ℤ → BodyStart
main_start input = record { member = None; args = []; state = []; object = pos 0; number = 0; input = input }
