-- What the parts of a machine hold of a world.
use Rattle.std.specs.Prelude.{ℕ, ◌≡◌, ◌<◌, ◌≤◌, ◌+◌, Bool, true, false, List, map, filter, length, Option, Some, None, slice_get, if◌then◌else◌, nat_lt}
use Rattle.mpl_value.specs.declared.known.Known.{Known}
use Rattle.mpl_value.specs.declared.body.BodyEnd.{BodyEnd}
use Rattle.mdf_actor.specs.declared.status.ActorStatus.{ActorStatus}
use Rattle.mdf_actor.specs.declared.status.ActorStatus.TheVariants as status
use Rattle.mdf_code.specs.Images.{is_image}
use Rattle.mdf_code.specs.Told.{HaltsNext, Stood}
use Rattle.mdf_core.specs.Actors.{Actor, Arc, Fate, Open, Is, Forwarded, Target, Port, Result, is_known}
use Rattle.mdf_core.specs.Calls.{leads_from}
use Rattle.mdf_core.specs.Enabled.{IsLog}
use Rattle.mdf_core.specs.Rest.{end_at}
use Rattle.mdf_core.specs.Steps.{Log, after}
use Rattle.mdf_core.specs.Worlds.{Job, World, fate_at, known_at}
use Rattle.mdf_drive.specs.DriveOrder.{goes_on}
use Rattle.mdf_drive.specs.Plain.{IsPlain}
use Rattle.mdf_future.specs.declared.consumer.Consumer.{Consumer}
use Rattle.mdf_future.specs.declared.consumer.Consumer.TheVariants as consumer
use Rattle.mdf_future.specs.declared.consumer.Due.{Due}
use Rattle.mdf_future.specs.declared.future.Fate.{Fate as KeptFate}
use Rattle.mdf_future.specs.declared.future.Fate.TheVariants as fate
use Rattle.mdf_future.specs.declared.future.Future.{Future}
use Rattle.mdf_vm.specs.declared.frame.Frame.{Frame}
use Rattle.mdf_machine.specs.declared.parts.Parts.{Parts}
use Rattle.mdf_machine.specs.declared.rows.Row.{Row}
use Rattle.mdf_machine.specs.Courses.{fired_in, most_budget}
use Rattle.mdf_machine.specs.Internal.Children.{child_in}
use Rattle.mdf_machine.specs.Internal.Tables.{Each, Keyed}
use Rattle.mdf_machine.specs.Frames.{StandsAt}

-- ---- statuses, ports

abbrev pub StatusIs : World → ℕ → ActorStatus → Type 0
StatusIs w a status = status ≡ (w.actors a).status

abbrev pub PortsAre : World → ℕ → List (Option Known) → Type 0
PortsAre w a ports = ports ≡ (w.actors a).ports

-- ---- rows

-- a frame that was put away
pub record PutAway (job : Job) (x : Actor) (kept : Option Frame) : Type 0 where
  pub frame : Frame
  pub is : kept ≡ Some frame
  pub stood : Stood
  pub stands : StandsAt job.image x.start x.told stood frame

abbrev pub HasFrame : Job → Actor → ActorStatus → Option Frame → Type 0
HasFrame job x (status.Waiting missing) kept = Unit {0}
HasFrame job x status.Ready kept = Unit {0}
HasFrame job x status.Running kept = Unit {0}
HasFrame job x (status.Parked child) kept = PutAway job x kept
HasFrame job x status.Ended kept = Unit {0}
HasFrame job x status.Poisoned kept = Unit {0}

pub record RowOf (job : Job) (x : Actor) (row : Row) : Type 0 where
  pub caller : row.caller ≡ x.call.caller
  pub member : row.member ≡ x.call.member
  pub ports : row.ports ≡ length x.ports
  pub children : (call : ℕ) → child_in row.children call ≡ x.child call
  pub frame : HasFrame job x x.status row.frame

abbrev pub RowIs : Job → World → ℕ → Row → Type 0
RowIs job w a row = RowOf job (w.actors a) row

-- ---- results

abbrev pub kept_fate : Fate → KeptFate
kept_fate Open = fate.Open
kept_fate (Is known) = fate.Known known
kept_fate (Forwarded child) = fate.Forwarded child

abbrev pub consumer_of : Target → Consumer
consumer_of (Port actor port) = consumer.Port (record { actor = actor; port = port })
consumer_of (Result actor) = consumer.Result actor

abbrev pub consumers_in : List Arc → ℕ → List Consumer
consumers_in arcs c = map (λ (arc : Arc). consumer_of arc.to) (filter (leads_from c) arcs)

abbrev pub ResultIs : World → ℕ → Future → Type 0
ResultIs w c future = future ≡ record { fate = kept_fate (fate_at w c); consumers = consumers_in w.waits c }

abbrev pub due_of : Arc → Due
due_of arc = record { consumer = consumer_of arc.to; from = arc.from }

-- ---- who can go on

abbrev pub MarkIs : World → ℕ → Bool → Type 0
MarkIs w a mark = mark ≡ goes_on w (w.actors a).status

-- ---- main

-- where `main` has ended, its lines and its end are kept
pub record MainEnded (job : Job) (x : Actor) (lines : List ℕ) (end : BodyEnd) : Type 0 where
  pub stood : Stood
  pub halts : HaltsNext job.image x.start x.told stood
  pub lines_are : lines ≡ stood.frame.lines
  pub end_is : end ≡ end_at stood.halt

abbrev pub MainIs : Job → Actor → ActorStatus → List ℕ → BodyEnd → Type 0
MainIs job x (status.Waiting missing) lines end = Unit {0}
MainIs job x status.Ready lines end = Unit {0}
MainIs job x status.Running lines end = Unit {0}
MainIs job x (status.Parked child) lines end = Unit {0}
MainIs job x status.Ended lines end = MainEnded job x lines end
MainIs job x status.Poisoned lines end = Unit {0}

-- ---- all of it

pub record Holds (job : Job) (w : World) (p : Parts) : Type 0 where
  pub statuses : Each (StatusIs w) w.count p.statuses
  pub rows : Each (RowIs job w) w.count p.rows
  pub ports : Keyed (PortsAre w) w.count p.ports
  pub results : Keyed (ResultIs w) w.count p.results.results
  pub due : p.results.due ≡ map due_of w.due
  pub going : Each (MarkIs w) w.count p.going
  pub turns : p.turns ≡ w.turns
  pub why : p.why ≡ w.why
  pub main : MainIs job (w.actors 0) (w.actors 0).status p.lines p.main_end
  -- each actor but `main` took a turn
  pub few : w.count ≤ w.turns + 1

pub record Kept (job : Job) (log : Log) (p : Parts) : Type 0 where
  pub is_log : IsLog job log
  pub image : is_image job.image ≡ true
  pub plain : IsPlain job
  pub budget : job.budget ≤ most_budget
  pub holds : Holds job (after job log) p
  pub fired : p.fired ≡ fired_in log
