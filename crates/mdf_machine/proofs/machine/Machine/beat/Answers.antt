use Rattle.std.proofs.Common.{◌≡◌, sym, subst}
use Rattle.mdf_code.specs.Told.{Beats, most_turns}
use Rattle.mdf_core.specs.declared.status.MachineStatus.TheVariants.{Going}
use Rattle.mdf_core.specs.Enabled.{Stops}
use Rattle.mdf_machine.specs.Courses.{Course, world_of}
use Rattle.mdf_machine.proofs.Keeping.{beat_kept}
use Rattle.mdf_machine.proofs.machine.Machine.beat.Goals as goal

pub invariant_of-self-2 : goal.invariant_of-self-2
invariant_of-self-2 c = beat_kept _ c.self.inside.history _ c.self.inside.parts c.args.actor c.in_ok-turns.turns c.self.invariant c.in_ok-push.ensures.ok
    (subst (λ (o : Course). (world_of o).why ≡ Going) (sym c.self.view_is) c.requires.going)
    (subst (λ (o : Course). Stops o.job (world_of o) c.args.actor most_turns Beats) (sym c.self.view_is) c.requires.stops) c.in_ok-turns.ensures
