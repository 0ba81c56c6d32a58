use Rattle.std.proofs.Common.{List, [], ◌∷◌, pos, refl, replicate, reverse}
use Rattle.std.specs.Fmt.{digits}
use Rattle.mpl_value.specs.declared.body.BodyEnd.TheVariants.{Waits}
use Rattle.mdf_code.specs.SmallBodies.{text}
use Rattle.mdf_core.specs.declared.status.MachineStatus.TheVariants as machine
use Rattle.mdf_core.specs.SmallRuns.{lonely_get, with_budget}
use Rattle.mdf_core.specs.Steps.{after}
use Rattle.mdf_core.specs.Worlds.{Job}
use Rattle.mdf_core.proofs.Driving.{did, found, found_by_first}
use Rattle.mdf_core.proofs.worked.a_lonely_get_is_stuck.Goals as goal
use Rattle.mdf_core.specs.Events.{Event, Arrive, Create, Fire, Park, Quit, Send}

abbrev job : Job
job = with_budget lonely_get 100

abbrev events : List Event
events = Fire 0 ∷ Create 0 0 0 (pos 1) ∷ Send 0 0 1 1 (pos 1) [] ∷ Arrive 1 ∷ Park 0 0 1 ∷ Quit machine.Rest ∷ []

pub returns : goal.returns
unfolding digits
returns c = record {
  run = record {
    is_log = found 100 job (replicate 6 0) (reverse events) refl;
    by_first = found_by_first 100 job 6 (reverse events) refl;
    ends = refl;
    turns_are = refl;
    journal_is = refl;
  };
  main = did 100 job (after job (reverse events)) Waits (text []) refl;
}
