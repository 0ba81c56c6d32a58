use Rattle.std.proofs.Common.{ℕ, List, [], ◌∷◌, pos, refl}
use Rattle.std.specs.Fmt.{digits}
use Rattle.mpl_value.specs.declared.body.BodyEnd.TheVariants.{Done}
use Rattle.mdf_code.specs.SmallBodies.{text}
use Rattle.mdf_core.specs.declared.status.MachineStatus.TheVariants as machine
use Rattle.mdf_core.specs.SmallRuns.{two_squares, with_budget, word}
use Rattle.mdf_core.specs.Steps.{Log, after}
use Rattle.mdf_core.specs.Worlds.{Job}
use Rattle.mdf_core.proofs.Driving.{did, found}
use Rattle.mdf_core.proofs.worked.two_squares_are_added_in_another_order.Goals as goal
use Rattle.mdf_core.specs.Events.{End, Finishes, Fire, Learn, Quit, Reply, Send}

abbrev job : Job
job = with_budget two_squares 100

abbrev log : Log
log = Quit machine.Rest ∷ End 1 0 (Finishes 2) [] ∷ End 2 0 (Finishes 2) [] ∷ End 0 0 (Finishes 9) [] ∷ Learn 0 0 2 ∷ Learn 0 0 1
    ∷ Reply 1 0 (word 9) ∷ Fire 1 ∷ Reply 2 0 (word 16) ∷ Fire 2 ∷ Send 0 0 2 0 (pos 0) (word 4 ∷ []) ∷ Send 0 0 1 0 (pos 0) (word 3 ∷ []) ∷ Fire 0 ∷ []

abbrev places : List ℕ
places = 0 ∷ 0 ∷ 1 ∷ 0 ∷ 0 ∷ 0 ∷ 1 ∷ 1 ∷ 2 ∷ 2 ∷ 0 ∷ 0 ∷ 0 ∷ []

pub returns : goal.returns
unfolding digits
returns c = (found 100 job places log refl, refl, did 100 job (after job log) Done (text ("25" ∷ [])) refl)
