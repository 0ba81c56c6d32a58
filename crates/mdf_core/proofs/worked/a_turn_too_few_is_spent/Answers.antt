use Rattle.std.proofs.Common.{List, [], ◌∷◌, pos, refl, replicate, reverse}
use Rattle.std.specs.Fmt.{digits}
use Rattle.mdf_core.specs.declared.status.MachineStatus.TheVariants as machine
use Rattle.mdf_core.specs.SmallRuns.{two_squares, with_budget, word}
use Rattle.mdf_core.specs.Worlds.{Job}
use Rattle.mdf_core.proofs.Driving.{found, found_by_first}
use Rattle.mdf_core.proofs.worked.a_turn_too_few_is_spent.Goals as goal
use Rattle.mdf_core.specs.Events.{Event, End, Finishes, Fire, Learn, Park, Quit, Reply, Resume, Send}

abbrev job : Job
job = with_budget two_squares 4

abbrev events : List Event
events = Fire 0 ∷ Send 0 0 1 0 (pos 0) (word 3 ∷ []) ∷ Send 0 0 2 0 (pos 0) (word 4 ∷ []) ∷ Park 0 0 1
    ∷ Fire 1 ∷ Reply 1 0 (word 9) ∷ Resume 0 ∷ Learn 0 0 1 ∷ Park 0 0 2 ∷ End 1 0 (Finishes 2) []
    ∷ Fire 2 ∷ Quit machine.Spent ∷ []

pub returns : goal.returns
unfolding digits
returns c = record {
  is_log = found 100 job (replicate 12 0) (reverse events) refl;
  by_first = found_by_first 100 job 12 (reverse events) refl;
  ends = refl;
  turns_are = refl;
  journal_is = refl;
}
