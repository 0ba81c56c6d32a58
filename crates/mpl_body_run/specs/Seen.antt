-- What the machine in the code stands for, and what became of its steps.
use Rattle.std.specs.Prelude.{◌≡◌, List, map, reverse, Result, Ok, Err}
use Rattle.mpl_body_code.specs.Machine.{Body, Caller, Frame, Machine, Next, Goes, OfPlain, OfRegular, ended, finished, returned}
use Rattle.mpl_body_run.specs.SeenItems.{words_seen}
use Rattle.mpl_body_run.specs.declared.leaves.Leaves.{Leaves}
use Rattle.mpl_body_run.specs.declared.leaves.Leaves.TheVariants as leaves
use Rattle.mpl_body_run.specs.declared.machine.Body as raw_body
use Rattle.mpl_body_run.specs.declared.machine.Caller as raw_caller
use Rattle.mpl_body_run.specs.declared.machine.Caller.TheVariants as raw
use Rattle.mpl_body_run.specs.declared.machine.Frame as raw_frame
use Rattle.mpl_body_run.specs.declared.machine.Machine as raw_machine

abbrev pub frame_seen : raw_frame.Frame → Frame
frame_seen f = record { place = f.place; stack = f.stack; slots = f.slots; object = f.object; number = f.number }

abbrev pub body_seen : raw_body.Body → Body
body_seen b = record {
  state = b.state;
  lines = b.lines;
  input = b.input;
  calls = b.calls;
  creations = b.creations;
  result = b.result;
  finish = b.finish;
  answered = b.answered;
}

abbrev pub caller_seen : raw_caller.Caller → Caller
caller_seen (raw.OfPlain frame line is_bool) = OfPlain (frame_seen frame) line is_bool
caller_seen (raw.OfRegular frame body) = OfRegular (frame_seen frame) (body_seen body)

-- the last is the newest
abbrev pub callers_seen : List raw_caller.Caller → List Caller
callers_seen callers = reverse (map caller_seen callers)

abbrev pub machine_seen : raw_machine.Machine → Machine
machine_seen m = record { frame = frame_seen m.frame; body = body_seen m.body; callers = callers_seen m.callers.items; turns = m.turns }

-- what became of a step, with the machine behind it. Without memory nothing is said
abbrev pub Came : Next → Machine → Result (Unit {0}) Leaves → Type 0
Came next x (Ok u) = next ≡ Goes x
Came next x (Err (leaves.Ends e)) = next ≡ ended x.callers e x.body x.turns
Came next x (Err leaves.Finishes) = next ≡ finished x.callers x.body x.turns
Came next x (Err (leaves.Returns words)) = next ≡ returned (words_seen words) x.callers x.body x.turns
Came next x (Err leaves.NoMemory) = Unit {0}
