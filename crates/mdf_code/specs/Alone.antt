-- A frame alone: a flow value is known words or the result of a call, by its number. What is known of results is no part
-- of the frame, so that to learn one changes nothing in it.
use Rattle.std.specs.Prelude.{ℕ, ◌≡◌, ◌⊎◌, List, ℤ, map}
use Rattle.mpl_value.specs.declared.body.Arg.{Arg}
use Rattle.mpl_value.specs.declared.body.Arg.TheVariants.{Know, Unknown}
use Rattle.mdf_code.specs.Frames.{Caller, Flow, Flows, Frame, Next, Goes, Spends, Stops, Stop, Calls, Creates, Ends, Needs, Replies, Strays, Traps}

pub data Held : Type 0 where
  Words : (words : List ℤ) → Held
  Pending : (result : ℕ) → Held

-- what is known of a value, where this is known of results
abbrev pub seen_by : (ℕ → Arg) → Held → Arg
seen_by knows (Words words) = Know words
seen_by knows (Pending result) = knows result

abbrev pub framed : (ℕ → Arg) → Flows Held
framed knows = record { see = seen_by knows; known = Words }

-- ---- a frame seen

-- a frame as what is seen of its flow values
abbrev pub flow_seen : {V : Type 0} → (V → Arg) → Flow V → Flow Arg
flow_seen see flow = record { value = see flow.value; words = flow.words }

abbrev pub flows_seen : {V : Type 0} → (V → Arg) → List (Flow V) → List (Flow Arg)
flows_seen see = map (flow_seen see)

abbrev pub values_seen : {V : Type 0} → (V → Arg) → List V → List Arg
values_seen see = map see

abbrev pub caller_seen : {V : Type 0} → (V → Arg) → Caller V → Caller Arg
caller_seen see caller = record {
  code = caller.code;
  place = caller.place;
  words = caller.words;
  flows = flows_seen see caller.flows;
  variables = values_seen see caller.variables;
}

abbrev pub frame_seen : {V : Type 0} → (V → Arg) → Frame V → Frame Arg
frame_seen see f = record {
  code = f.code;
  place = f.place;
  words = f.words;
  flows = flows_seen see f.flows;
  variables = values_seen see f.variables;
  callers = map (caller_seen see) f.callers;
  state = f.state;
  input = f.input;
  lines = f.lines;
  replied = f.replied;
}

abbrev pub stop_seen : {V : Type 0} → (V → Arg) → Stop V → Stop Arg
stop_seen see (Calls member object arguments) = Calls member object (values_seen see arguments)
stop_seen see (Needs value) = Needs (see value)
stop_seen see (Replies value) = Replies (see value)
stop_seen see (Creates class) = Creates class
stop_seen see (Ends line) = Ends line
stop_seen see Strays = Strays
stop_seen see (Traps trap) = Traps trap

abbrev pub next_seen : {V : Type 0} → (V → Arg) → Next V → Next Arg
next_seen see (Goes f) = Goes (frame_seen see f)
next_seen see (Spends f) = Spends (frame_seen see f)
next_seen see (Stops stop f) = Stops (stop_seen see stop) (frame_seen see f)

-- ---- more that is known

-- A step where more is known later is the same, unless it strayed or needed what wasn't known.
abbrev pub StaysUnlessUnknown : {V : Type 0} → (V → Arg) → Next V → Next V → Type 0
StaysUnlessUnknown see (Stops Strays f) later = Unit {0}
StaysUnlessUnknown see (Stops (Needs value) f) later = (see value ≡ Unknown) ⊎ (Stops (Needs value) f ≡ later)
StaysUnlessUnknown see next later = next ≡ later
