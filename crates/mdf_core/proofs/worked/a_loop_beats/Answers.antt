use Rattle.std.proofs.Common.{List, [], ◌∷◌, refl, replicate, reverse}
use Rattle.std.specs.Fmt.{digits}
use Rattle.mdf_code.specs.SmallBodies.{endless}
use Rattle.mdf_core.specs.declared.status.MachineStatus.TheVariants as machine
use Rattle.mdf_core.specs.SmallRuns.{with_budget}
use Rattle.mdf_core.specs.Worlds.{Job}
use Rattle.mdf_core.proofs.Driving.{found, found_by_first}
use Rattle.mdf_core.proofs.worked.a_loop_beats.Goals as goal
use Rattle.mdf_core.specs.Events.{Event, Beat, Fire, Quit}

abbrev job : Job
job = with_budget endless 300

abbrev events : List Event
events = Fire 0 ∷ Beat 0 ∷ Beat 0 ∷ Quit machine.Spent ∷ []

pub returns : goal.returns
unfolding digits
returns c = record {
  is_log = found 1500 job (replicate 4 0) (reverse events) refl;
  by_first = found_by_first 1500 job 4 (reverse events) refl;
  ends = refl;
  turns_are = refl;
  journal_is = refl;
}
