use Rattle.std.proofs.Common.{List, [], ◌∷◌, pos, refl, replicate, reverse}
use Rattle.std.specs.Fmt.{digits}
use Rattle.mpl_value.specs.declared.body.BodyEnd.TheVariants.{Done}
use Rattle.mpl_value.specs.declared.known.TrapKind.TheVariants.{DivZero}
use Rattle.mdf_code.specs.Alone.{Pending}
use Rattle.mdf_code.specs.SmallBodies.{text}
use Rattle.mdf_code.specs.SmallCode.{trap}
use Rattle.mdf_core.specs.declared.status.MachineStatus.TheVariants as machine
use Rattle.mdf_core.specs.SmallRuns.{poisons, with_budget, word}
use Rattle.mdf_core.specs.Steps.{after}
use Rattle.mdf_core.specs.Worlds.{Job}
use Rattle.mdf_core.proofs.Driving.{did, found, found_by_first}
use Rattle.mdf_core.proofs.worked.a_trapped_argument_poisons.Goals as goal
use Rattle.mdf_core.specs.Events.{Event, End, Fails, Finishes, Fire, Match, Quit, Send}

abbrev job : Job
job = with_budget poisons 100

abbrev events : List Event
events = Fire 0 ∷ Send 0 0 1 0 (pos 0) (word 0 ∷ []) ∷ Send 0 0 2 0 (pos 0) (Pending 1 ∷ []) ∷ End 0 0 (Finishes 5) []
    ∷ Fire 1 ∷ End 1 0 (Fails (trap DivZero 2)) [] ∷ Match 0 ∷ Quit machine.Rest ∷ []

pub returns-clause-run : goal.returns-clause-run
unfolding digits
returns-clause-run c = record {
  run = record {
    is_log = found 100 job (replicate 8 0) (reverse events) refl;
    by_first = found_by_first 100 job 8 (reverse events) refl;
    ends = refl;
    turns_are = refl;
    journal_is = refl;
  };
  main = did 100 job (after job (reverse events)) Done (text []) refl;
}

pub returns-clause-poisoned : goal.returns-clause-poisoned
returns-clause-poisoned c = (refl, refl)
