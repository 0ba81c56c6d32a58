-- A log has few events for its turns.
use Rattle.std.proofs.Common.{◌≡◌, ◌+◌, ◌*◌, ◌≤◌, true, [], ◌∷◌, length, ap, subst, arith}
use Rattle.mdf_code.specs.Images.{is_image}
use Rattle.mdf_core.specs.declared.status.MachineStatus.{MachineStatus}
use Rattle.mdf_core.specs.declared.status.MachineStatus.TheVariants as machine
use Rattle.mdf_core.specs.Enabled.{Enabled, IsLog}
use Rattle.mdf_core.specs.Events.{Event, Fire, Send, Create, Learn, Park, Resume, Reply, End, Beat, Match, Arrive, Accept, Quit}
use Rattle.mdf_core.specs.Steps.{Log, after}
use Rattle.mdf_core.specs.Worlds.{Job}
use Rattle.mdf_drive.specs.Handing.{HandsOut}
use Rattle.mdf_drive.proofs.HandedOut.{hands_out_little}
use Rattle.mdf_finite.specs.Lengths.{most_events}
use Rattle.mdf_finite.proofs.ArcCounts.{arcs_in}
use Rattle.mdf_finite.proofs.Paying.{CallsFew, once_quit, pays, total}
use Rattle.mdf_finite.proofs.Progress.{progress_is_bounded}

calls_few : (job : Job) (log : Log) → is_image job.image ≡ true → IsLog job log → (e : Event) → Enabled job (after job log) e → CallsFew e
calls_few job log is h (Send a turns callee member object arguments) may =
    (subst (HandsOut (after job log) a) may.stops.is (hands_out_little job log is h a turns may.stops.stood may.stops.stops)).0
calls_few job log is h (Fire a) may = tt
calls_few job log is h (Create a turns class object) may = tt
calls_few job log is h (Learn a turns call) may = tt
calls_few job log is h (Park a turns call) may = tt
calls_few job log is h (Resume a) may = tt
calls_few job log is h (Reply a turns value) may = tt
calls_few job log is h (End a turns ending state) may = tt
calls_few job log is h (Beat a) may = tt
calls_few job log is h (Match place) may = tt
calls_few job log is h (Arrive a) may = tt
calls_few job log is h (Accept object a number) may = tt
calls_few job log is h (Quit why) may = tt

-- what has happened is paid for
paid : (job : Job) (log : Log) → is_image job.image ≡ true → IsLog job log → length log + arcs_in (after job log) ≤ total (after job log) + 17 * (after job log).turns + once_quit (after job log).why
paid job [] is h = omega arith
paid job (e ∷ log) is h =
    let before = paid job log is h.1 in let step_pays = pays job log e h (calls_few job log is h.1 e h.0.1) in
    let going = ap once_quit h.0.0 in omega (arith, before, step_pays, going)

quit_few : (why : MachineStatus) → once_quit why ≤ 1
quit_few machine.Going = omega arith
quit_few machine.Rest = omega arith
quit_few machine.Spent = omega arith

pub short : (job : Job) (log : Log) → is_image job.image ≡ true → IsLog job log → length log ≤ most_events (after job log).turns
short job log is h =
    let all = paid job log is h in let bounded = progress_is_bounded job log h in let once = quit_few (after job log).why in omega (arith, all, bounded, once)
