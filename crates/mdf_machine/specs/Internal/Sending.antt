-- What is kept of a call that is made.
use Rattle.std.specs.Prelude.{ℕ, zero, suc, ◌≡◌, ◌<◌, ◌≤◌, ◌-◌, ◌^◌, Bool, true, false, List, [], ◌∷◌, ◌++◌, length, Option, Some, None}
use Rattle.std.specs.FinMap.{get}
use Rattle.mpl_value.specs.declared.known.Known.{Known}
use Rattle.mdf_actor.specs.declared.status.ActorStatus.{ActorStatus}
use Rattle.mdf_actor.specs.declared.status.ActorStatus.TheVariants as status
use Rattle.mdf_future.specs.Openings.{HaveResults, Passed, opened_with}
use Rattle.mdf_match.specs.Data.{HasFewWords}
use Rattle.mdf_match.specs.Ports.{Open, filled}
use Rattle.mdf_match.specs.declared.token.Tag.{Tag}
use Rattle.mdf_vm.specs.declared.stop.FlowArg.{FlowArg}
use Rattle.mdf_vm.specs.declared.stop.FlowArg.TheVariants as flow
use Rattle.mdf_machine.specs.declared.making.NewCall.{NewCall}
use Rattle.mdf_machine.specs.declared.parts.Parts.{Parts}
use Rattle.mdf_machine.specs.declared.rows.Row.{Row}
use Rattle.mdf_machine.specs.Internal.Rows.{changed, child_at, with_child}

-- ---- arguments

-- what comes to its port at once
abbrev pub port_given : FlowArg → Option Known
port_given (flow.Known known) = Some known
port_given (flow.Result call) = None

-- the ports before the argument of this number has come
abbrev pub ports_until : ℕ → List FlowArg → List (Option Known)
ports_until n [] = []
ports_until zero (arg ∷ others) = None ∷ ports_until zero others
ports_until (suc n) (arg ∷ others) = port_given arg ∷ ports_until n others

-- the ports with an argument at its own
abbrev pub filled_by : Open → Tag → FlowArg → Open
filled_by ports tag (flow.Known known) = filled ports (record { tag = tag; known = known })
filled_by ports tag (flow.Result call) = ports

abbrev pub IsShort : FlowArg → Type 0
IsShort (flow.Known known) = HasFewWords known
IsShort (flow.Result call) = Unit {0}

-- the actor whose result is passed, if it is a result
abbrev pub passed_by : List Row → ℕ → FlowArg → Option ℕ
passed_by rows actor (flow.Known known) = None
passed_by rows actor (flow.Result call) = child_at rows actor call

-- ---- the new actor

-- by how many arguments are missing
abbrev pub status_by : ℕ → ActorStatus
status_by zero = status.Ready
status_by (suc missing) = status.Waiting (suc missing)

abbrev pub mark_by : ℕ → Bool
mark_by zero = true
mark_by (suc missing) = false

abbrev pub row_by : NewCall → Row
row_by call = record { caller = call.caller; member = Some call.member; ports = call.ports; children = []; frame = None }

abbrev pub rows_by : List Row → NewCall → List Row
rows_by rows call = changed (with_child call.callee) call.caller rows ++ row_by call ∷ []

-- all but its ports
abbrev pub with_call : Parts → NewCall → Passed → Parts
with_call p call passed = record p {
  statuses = p.statuses ++ status_by call.missing ∷ [];
  rows = rows_by p.rows call;
  results = opened_with p.results call.callee passed;
  going = p.going ++ mark_by call.missing ∷ [];
}

-- there is a number for it, and nothing is kept of it yet
pub record MayAdd (p : Parts) (call : NewCall) (passed : Passed) : Type 0 where
  pub status : length p.statuses < 2 ^ 32 - 1
  pub mark : length p.going < 2 ^ 32 - 1
  pub caller : call.caller < length p.rows
  pub result : get p.results.results call.callee ≡ None
  pub there : HaveResults p.results passed
  pub few : length passed ≤ 16
