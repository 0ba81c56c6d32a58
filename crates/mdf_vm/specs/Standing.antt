-- A frame alone, as it is between two calls of it.
use Rattle.std.specs.Prelude.{ℕ, List, ◌≡◌, ◌⊎◌, ◌+◌, ◌<◌, ◌≤◌, ◌^◌, map, length}
use Rattle.mdf_code.specs.declared.raw.RawImage.{RawImage}
use Rattle.mdf_code.specs.Alone.{Held, Words, Pending}
use Rattle.mdf_code.specs.Frames.{Around, Calls, Creates, Ends, Needs, Replies, Strays, Traps}
use Rattle.mdf_code.specs.Told.{Alone, Halt, Beats, Stands}
use Rattle.mdf_code.specs.Yields.{answered, named}
use Rattle.mdf_vm.specs.Results.{knows_of}
use Rattle.mdf_vm.specs.Runs.{RunsTo, Went}
use Rattle.mdf_vm.specs.FlowArgs.{flow_arg}
use Rattle.mdf_vm.specs.Runnings.{frame_of}
use Rattle.mdf_vm.specs.declared.frame.Frame as frames
use Rattle.mdf_vm.specs.declared.last.Last.{Last}
use Rattle.mdf_vm.specs.declared.last.Last.TheVariants as last
use Rattle.mdf_vm.specs.declared.stop.Stop as stops
use Rattle.mdf_vm.specs.declared.stop.Stop.TheVariants as stop

abbrev pub alone_of : frames.Frame → Alone
alone_of f = record { frame = frame_of f.running; calls = length f.setting.results; knows = knows_of f.setting.results }

abbrev pub around_of : RawImage → frames.Frame → Around
around_of image f = record { image = image; object = f.setting.object }

-- ---- stops

-- what is left of a stop, until it is answered
abbrev pub last_at : Halt → Last
last_at (Stands (Calls member object arguments)) = last.Called member
last_at (Stands (Needs (Pending result))) = last.Needs result
last_at (Stands (Needs (Words words))) = last.Going
last_at (Stands (Replies value)) = last.Going
last_at (Stands (Creates class)) = last.Creates
last_at (Stands (Ends line)) = last.Ended line
last_at (Stands Strays) = last.Ended 0
last_at (Stands (Traps trap)) = last.Trapped trap
last_at Beats = last.Going

-- a stop tells where a frame halts
abbrev pub Tells : stops.Stop → Halt → Type 0
Tells (stop.Call sent) halt =
    (arguments : List Held) × (halt ≡ Stands (Calls sent.member.0 sent.object arguments)) × (sent.args ≡ map flow_arg arguments)
Tells (stop.Need result) halt = halt ≡ Stands (Needs (Pending result))
Tells (stop.Reply value) halt = (given : Held) × (halt ≡ Stands (Replies given)) × (value ≡ flow_arg given)
Tells (stop.Create class) halt = halt ≡ Stands (Creates class)
Tells stop.End halt = (halt ≡ Stands Strays) ⊎ ((line : ℕ) × (halt ≡ Stands (Ends line)))
Tells (stop.Trap trap) halt = halt ≡ Stands (Traps trap)
Tells stop.Beat halt = halt ≡ Beats

-- a frame goes on from its last stop
abbrev pub IsAnswered : Last → Type 0
IsAnswered last.Going = Unit {0}
IsAnswered (last.Called member) = Unit {0}
IsAnswered (last.Named object) = Unit {0}
IsAnswered (last.Needs result) = ⊥
IsAnswered last.Creates = ⊥
IsAnswered (last.Ended line) = ⊥
IsAnswered (last.Trapped trap) = ⊥

abbrev pub HasEnded : Last → Type 0
HasEnded (last.Ended line) = Unit {0}
HasEnded (last.Trapped trap) = Unit {0}
HasEnded other = ⊥

-- a frame can run on
abbrev pub IsReady : frames.Frame → Type 0
IsReady f = IsAnswered f.last × (f.turns < 2 ^ 31) × (length f.setting.results < 2 ^ 31)

-- a frame waits for the result of that call
abbrev pub Awaits : ℕ → frames.Frame → Type 0
Awaits number f = (f.last ≡ last.Needs number) × (1 ≤ number) × (number ≤ length f.setting.results)

-- ---- going on

-- where a frame goes on, behind the answer to its last stop
abbrev pub goes_on_at : RawImage → Alone → Last → Alone
goes_on_at image a (last.Called member) = record a { frame = answered image member (Pending (a.calls + 1)) a.frame; calls = a.calls + 1 }
goes_on_at image a (last.Named object) = record a { frame = named object a.frame }
goes_on_at image a other = a

abbrev pub goes_on : RawImage → frames.Frame → Alone
goes_on image f = goes_on_at image (alone_of f) f.last

-- A frame ran until it halted there.
pub record Ran (image : RawImage) (quantum : ℕ) (before : frames.Frame) (stop : stops.Stop) (after : frames.Frame) : Type 0 where
  pub halt : Halt
  pub spent : ℕ
  pub few : spent ≤ quantum
  pub runs : RunsTo (knows_of before.setting.results) (around_of image before) quantum (goes_on image before).frame halt spent (alone_of after).frame
  pub calls : (alone_of after).calls ≡ (goes_on image before).calls
  pub knows : (alone_of after).knows ≡ (goes_on image before).knows
  pub object : after.setting.object ≡ before.setting.object
  pub stop_is : Tells stop halt
  pub last_is : after.last ≡ last_at halt
  pub turns : after.turns ≡ before.turns + spent

-- A frame ran until no memory was left, with turns left, and goes on from there.
pub record RanOut (image : RawImage) (quantum : ℕ) (before : frames.Frame) (after : frames.Frame) : Type 0 where
  pub spent : ℕ
  pub few : spent < quantum
  pub went : Went (knows_of before.setting.results) (around_of image before) quantum 0 (goes_on image before).frame spent (goes_on image after).frame
  pub calls : (goes_on image after).calls ≡ (goes_on image before).calls
  pub knows : (goes_on image after).knows ≡ (goes_on image before).knows
  pub object : after.setting.object ≡ before.setting.object
  pub answered : IsAnswered after.last
  pub turns : after.turns ≡ before.turns + spent
