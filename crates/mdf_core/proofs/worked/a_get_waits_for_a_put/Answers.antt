use Rattle.std.proofs.Common.{List, [], ◌∷◌, pos, refl, replicate, reverse}
use Rattle.std.specs.Fmt.{digits}
use Rattle.mpl_value.specs.declared.body.BodyEnd.TheVariants.{Done}
use Rattle.mdf_code.specs.SmallBodies.{text}
use Rattle.mdf_core.specs.declared.status.MachineStatus.TheVariants as machine
use Rattle.mdf_core.specs.SmallRuns.{buffer, with_budget, word}
use Rattle.mdf_core.specs.Steps.{after}
use Rattle.mdf_core.specs.Worlds.{Job}
use Rattle.mdf_core.proofs.Driving.{did, found, found_by_first}
use Rattle.mdf_core.proofs.worked.a_get_waits_for_a_put.Goals as goal
use Rattle.mdf_core.specs.Events.{Event, Accept, Arrive, Create, End, Finishes, Fire, Learn, Park, Quit, Reply, Resume, Send}

abbrev job : Job
job = with_budget buffer 100

abbrev events : List Event
events = Fire 0 ∷ Create 0 0 0 (pos 1) ∷ Send 0 0 1 1 (pos 1) [] ∷ Arrive 1 ∷ Send 0 0 2 0 (pos 1) (word 7 ∷ []) ∷ Arrive 2
    ∷ Accept (pos 1) 2 1 ∷ Park 0 0 1 ∷ Fire 2 ∷ End 2 0 (Finishes 3) (pos 7 ∷ pos 1 ∷ [])
    ∷ Accept (pos 1) 1 2 ∷ Fire 1 ∷ Reply 1 0 (word 7) ∷ Resume 0 ∷ Learn 0 0 1 ∷ End 0 0 (Finishes 16) []
    ∷ End 1 0 (Finishes 4) (pos 7 ∷ pos 0 ∷ []) ∷ Quit machine.Rest ∷ []

pub returns : goal.returns
unfolding digits
returns c = record {
  run = record {
    is_log = found 100 job (replicate 18 0) (reverse events) refl;
    by_first = found_by_first 100 job 18 (reverse events) refl;
    ends = refl;
    turns_are = refl;
    journal_is = refl;
  };
  main = did 100 job (after job (reverse events)) Done (text ("7" ∷ [])) refl;
}
