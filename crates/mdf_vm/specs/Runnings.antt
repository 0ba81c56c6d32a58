-- A running frame, and what it goes back to.
use Rattle.mdf_code.specs.Alone.{Held}
use Rattle.mdf_code.specs.Frames.{Frame}
use Rattle.mdf_vm.specs.Places.{code_of}
use Rattle.mdf_vm.specs.declared.running.Running.{Running}

abbrev pub frame_of : Running → Frame Held
frame_of r = record {
  code = code_of r.code;
  place = r.place;
  words = r.words;
  flows = r.flows;
  variables = r.variables;
  callers = r.callers;
  state = r.state;
  input = r.input;
  lines = r.lines;
  replied = r.replied;
}
