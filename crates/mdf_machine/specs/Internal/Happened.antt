-- An event as it is kept, and the log that a list of these is.
use Rattle.std.specs.Prelude.{ℕ, ℤ, List, [], ◌∷◌, map, reverse, Option, Some, None}
use Rattle.mpl_value.specs.declared.known.Known.{Known}
use Rattle.mpl_value.specs.declared.known.Known.TheVariants.{Value, Trapped}
use Rattle.mpl_value.specs.declared.known.Trap.{Trap}
use Rattle.mdf_code.specs.Alone.{Held, Words, Pending}
use Rattle.mdf_core.specs.Events.{Ending, Event, Fails, Finishes, Fire, Send, Learn, Park, Resume, Reply, End, Beat, Match, Quit}
use Rattle.mdf_core.specs.Steps.{Log}
use Rattle.mdf_vm.specs.declared.stop.FlowArg.{FlowArg}
use Rattle.mdf_vm.specs.declared.stop.FlowArg.TheVariants as flow
use Rattle.mdf_machine.specs.declared.happened.Happened.{Happened}
use Rattle.mdf_machine.specs.declared.happened.Happened.TheVariants as happened

-- a flow value that was handed out; frames hand out no traps
abbrev pub held_of : FlowArg → Held
held_of (flow.Known (Value words)) = Words words
held_of (flow.Known (Trapped trap)) = Words []
held_of (flow.Result result) = Pending result

abbrev pub ending_of : Option Trap → ℕ → Ending
ending_of None line = Finishes line
ending_of (Some trap) line = Fails trap

abbrev pub event_of : Happened → Event
event_of (happened.Fire a) = Fire a
event_of (happened.Send sent) = Send sent.actor sent.turns sent.callee sent.member sent.object (map held_of sent.arguments)
event_of (happened.Learn a turns call) = Learn a turns call
event_of (happened.Park a turns call) = Park a turns call
event_of (happened.Resume a) = Resume a
event_of (happened.Reply a turns value) = Reply a turns (held_of value)
event_of (happened.End ended) = End ended.actor ended.turns (ending_of ended.trap ended.line) ended.state
event_of (happened.Beat a) = Beat a
event_of (happened.Match place) = Match place
event_of (happened.Quit why) = Quit why

-- the oldest is kept first
abbrev pub log_of : List Happened → Log
log_of events = reverse (map event_of events)
