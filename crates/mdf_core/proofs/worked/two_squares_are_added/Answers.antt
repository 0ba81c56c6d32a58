use Rattle.std.proofs.Common.{List, [], ◌∷◌, pos, refl, replicate, reverse}
use Rattle.std.specs.Fmt.{digits}
use Rattle.mpl_value.specs.declared.body.BodyEnd.TheVariants.{Done}
use Rattle.mdf_code.specs.SmallBodies.{text}
use Rattle.mdf_core.specs.declared.status.MachineStatus.TheVariants as machine
use Rattle.mdf_core.specs.SmallRuns.{two_squares, with_budget, word}
use Rattle.mdf_core.specs.Steps.{after}
use Rattle.mdf_core.specs.Worlds.{Job}
use Rattle.mdf_core.proofs.Driving.{did, found, found_by_first}
use Rattle.mdf_core.proofs.worked.two_squares_are_added.Goals as goal
use Rattle.mdf_core.specs.Events.{Event, End, Finishes, Fire, Learn, Park, Quit, Reply, Resume, Send}

abbrev job : Job
job = with_budget two_squares 100

abbrev events : List Event
events = Fire 0 ∷ Send 0 0 1 0 (pos 0) (word 3 ∷ []) ∷ Send 0 0 2 0 (pos 0) (word 4 ∷ []) ∷ Park 0 0 1
    ∷ Fire 1 ∷ Reply 1 0 (word 9) ∷ Resume 0 ∷ Learn 0 0 1 ∷ Park 0 0 2 ∷ End 1 0 (Finishes 2) []
    ∷ Fire 2 ∷ Reply 2 0 (word 16) ∷ Resume 0 ∷ Learn 0 0 2 ∷ End 0 0 (Finishes 9) [] ∷ End 2 0 (Finishes 2) [] ∷ Quit machine.Rest ∷ []

pub returns : goal.returns
unfolding digits
returns c = record {
  run = record {
    is_log = found 100 job (replicate 17 0) (reverse events) refl;
    by_first = found_by_first 100 job 17 (reverse events) refl;
    ends = refl;
    turns_are = refl;
    journal_is = refl;
  };
  main = did 100 job (after job (reverse events)) Done (text ("25" ∷ [])) refl;
}
