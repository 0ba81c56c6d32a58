use Rattle.std.proofs.Common.{◌≡◌, sym, subst, ◌∙◌, arith}
use Rattle.mpl_value.specs.declared.body.BodyEnd.TheVariants as end
use Rattle.mdf_actor.specs.declared.status.ActorStatus.TheVariants as status
use Rattle.mdf_core.specs.declared.status.MachineStatus.TheVariants as machine
use Rattle.mdf_core.specs.Steps.{after}
use Rattle.mdf_core.specs.Worlds.{Job}
use Rattle.mdf_drive.proofs.Plainness.{main_there}
use Rattle.mdf_machine.specs.Courses.{Course, world_of}
use Rattle.mdf_machine.specs.MachineEnds.{CameTo}
use Rattle.mdf_machine.proofs.ReadOff.{did_end, did_wait}
use Rattle.mdf_machine.proofs.Seen.{frame_there, status_is}
use Rattle.mdf_machine.proofs.machine.Machine.main_end.Goals as goal

pub status-requires : goal.status-requires
status-requires c =
    let job : Job = record { image = c.self.inside.image; input = c.self.inside.input; budget = c.self.inside.budget } in
    let k = c.self.invariant in
    omega (arith, main_there job c.self.inside.history k.is_log, k.holds.statuses.length_is)

pub returns-in_default : goal.returns-in_default
returns-in_default c =
    let job : Job = record { image = c.self.inside.image; input = c.self.inside.input; budget = c.self.inside.budget } in
    let p = c.self.inside.parts in
    let k = c.self.invariant in
    let is = status_is job (after job c.self.inside.history) p k.holds 0 c.status.result c.status.ensures in
    subst (λ (o : Course). CameTo o p.main_end) c.self.view_is
    (p.lines, did_end job c.self.inside.history p k (subst (λ (o : Course). (world_of o).why ≡ machine.Rest) (sym c.self.view_is) c.requires) (λ child parked. c.in_default.not-Parked child (is ∙ parked)))

pub returns : goal.returns
returns c =
    let job : Job = record { image = c.self.inside.image; input = c.self.inside.input; budget = c.self.inside.budget } in
    let p = c.self.inside.parts in
    let k = c.self.invariant in
    let parked : ((after job c.self.inside.history).actors 0).status ≡ status.Parked c.in-Parked.field-0 = sym (status_is job (after job c.self.inside.history) p k.holds 0 c.status.result c.status.ensures) ∙ c.in-Parked.is in
    let put = frame_there job (after job c.self.inside.history) p k.holds 0 c.in-Parked.field-0 (main_there job c.self.inside.history k.is_log) parked in
    subst (λ (o : Course). CameTo o end.Waits) c.self.view_is
    (put.stood.frame.lines, did_wait job c.self.inside.history c.in-Parked.field-0 put.stood put.frame k.is_log parked put.stands)
