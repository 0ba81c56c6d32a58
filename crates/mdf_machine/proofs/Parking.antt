-- A frame goes out, or is put away.
use Rattle.std.proofs.Common.{◌≡◌, ◌<◌, ◌≤◌, ◌+◌, ℕ, List, ◌∷◌, length, set, Option, Some, None, refl, sym, ap, ◌∙◌, subst, arith, true, false}
use Rattle.std.specs.Prelude.{is_some}
use Rattle.mpl_value.specs.declared.known.Known.{Known}
use Rattle.mdf_actor.specs.declared.status.ActorStatus.TheVariants as status
use Rattle.mdf_code.specs.Alone.{Pending}
use Rattle.mdf_code.specs.Frames.{Needs}
use Rattle.mdf_code.specs.Told.{Stands}
use Rattle.mdf_core.specs.declared.status.MachineStatus.TheVariants.{Going}
use Rattle.mdf_core.specs.Actors.{Actor}
use Rattle.mdf_core.specs.Enabled.{MayFire, MayResume, StopsAt}
use Rattle.mdf_core.specs.Events.{Fire, Park, Resume}
use Rattle.mdf_core.specs.Steps.{Log, after, parks, runs}
use Rattle.mdf_core.specs.Worlds.{Job, World, acts, known_at, spends}
use Rattle.mdf_drive.specs.DriveOrder.{goes_on}
use Rattle.mdf_vm.specs.declared.frame.Frame.{Frame}
use Rattle.mdf_machine.specs.declared.parts.Parts.{Parts}
use Rattle.mdf_machine.specs.declared.rows.Row.{Row}
use Rattle.mdf_machine.specs.Answers.{MayGoOn}
use Rattle.mdf_machine.specs.Frames.{IsFrameAt}
use Rattle.mdf_machine.specs.Internal.Held.{Holds, Kept, RowOf}
use Rattle.mdf_machine.specs.Internal.Rows.{changed, with_frame, without_frame}
use Rattle.mdf_machine.proofs.Acting.{acts_holds}
use Rattle.mdf_machine.proofs.Keeping.{kept_then, main_kept, row_kept}
use Rattle.mdf_machine.proofs.One.{One, acts_one, each_one, each_one_changed, each_one_set, fates_one, marks_one, marks_one_set}

abbrev pub parked : Actor → ℕ → ℕ → Actor
parked x t child = record x { status = status.Parked child; counted = x.counted + t }

abbrev pub with_parked : Parts → ℕ → ℕ → Frame → ℕ → Parts
with_parked p a child frame turns = record p { statuses = set p.statuses a (status.Parked child); rows = changed (with_frame frame) a p.rows; going = set p.going a false; turns = turns }

abbrev pub with_resumed : Parts → ℕ → Parts
with_resumed p a = record p { statuses = set p.statuses a status.Running; rows = changed without_frame a p.rows }

abbrev pub with_begun : Parts → ℕ → ℕ → ℕ → Parts
with_begun p a turns fired = record p { statuses = set p.statuses a status.Running; turns = turns; fired = fired }

module _ (job : Job) (w : World) (p : Parts) (a : ℕ) (h : Holds job w p) where
  pub parks_holds : (t call child turns : ℕ) (frame : Frame) → IsFrameAt job w a t (Stands (Needs (Pending call))) frame → known_at w (Some child) ≡ None → turns ≡ p.turns + t →
      Holds job (acts a t (λ x. parked x t child) w) (with_parked p a child frame turns)
  parks_holds t call child turns frame at unknown turned =
      acts_holds job w p (with_parked p a child frame turns) a t (λ x. parked x t child) h (record { ports = refl; fate = refl }) (record { ports = refl; results = refl; why = refl })
      (each_one_set (λ x s. s ≡ x.status) a y w v w.count w.count p.statuses (status.Parked child) one h.statuses refl refl)
      (each_one_changed (RowOf job) a y w v w.count w.count (with_frame frame) p.rows one h.rows refl
      (λ row r. record { caller = r.caller; member = r.member; ports = r.ports; children = r.children; frame = record { frame = frame; is = refl; stood = at.stood; stands = at.stands } }))
      (marks_one_set a y w v w.count w.count p.going false one (fates_one a y w v one refl) h.going refl (sym (ap is_some unknown)))
      turned (main_kept job w v a y p.lines p.main_end one.others one.here tt h.main) where
        y : Actor
        y = spends t (parked (w.actors a) t child)

        v : World
        v = acts a t (λ x. parked x t child) w

        one : One a (spends t (parked (w.actors a) t child)) w (acts a t (λ x. parked x t child) w)
        one = acts_one a t (λ x. parked x t child) w

  pub resumes_holds : MayGoOn w a → Holds job (acts a 0 runs w) (with_resumed p a)
  resumes_holds may =
      acts_holds job w p (with_resumed p a) a 0 runs h (record { ports = refl; fate = refl }) (record { ports = refl; results = refl; why = refl })
      (each_one_set (λ x s. s ≡ x.status) a y w v w.count w.count p.statuses status.Running one h.statuses refl refl)
      (each_one_changed (RowOf job) a y w v w.count w.count without_frame p.rows one h.rows refl (λ row r. record { caller = r.caller; member = r.member; ports = r.ports; children = r.children; frame = tt }))
      (marks_one a y w v w.count w.count p.going one (fates_one a y w v one refl) h.going refl (sym (ap (goes_on w) may.parked ∙ ap is_some may.is)))
      (omega arith) (main_kept job w v a y p.lines p.main_end one.others one.here tt h.main) where
        y : Actor
        y = spends 0 (runs (w.actors a))

        v : World
        v = acts a 0 runs w

        one : One a (spends 0 (runs (w.actors a))) w (acts a 0 runs w)
        one = acts_one a 0 runs w

  pub fires_holds : (w.actors a).status ≡ status.Ready → (turns fired : ℕ) → turns ≡ p.turns + 1 → Holds job (acts a 1 runs w) (with_begun p a turns fired)
  fires_holds ready turns fired turned =
      acts_holds job w p (with_begun p a turns fired) a 1 runs h (record { ports = refl; fate = refl }) (record { ports = refl; results = refl; why = refl })
      (each_one_set (λ x s. s ≡ x.status) a y w v w.count w.count p.statuses status.Running one h.statuses refl refl)
      (each_one (RowOf job) a y w v w.count w.count p.rows one h.rows refl (λ row r. record { caller = r.caller; member = r.member; ports = r.ports; children = r.children; frame = tt }))
      (marks_one a y w v w.count w.count p.going one (fates_one a y w v one refl) h.going refl (sym (ap (goes_on w) ready)))
      turned (main_kept job w v a y p.lines p.main_end one.others one.here tt h.main) where
        y : Actor
        y = spends 1 (runs (w.actors a))

        v : World
        v = acts a 1 runs w

        one : One a (spends 1 (runs (w.actors a))) w (acts a 1 runs w)
        one = acts_one a 1 runs w

pub park_kept : (job : Job) (log now : Log) (p : Parts) (a t call child turns : ℕ) (frame : Frame) → Kept job log p → now ≡ Park a t call ∷ log → (after job log).why ≡ Going →
    IsFrameAt job (after job log) a t (Stands (Needs (Pending call))) frame → ((after job log).actors a).child call ≡ Some child → known_at (after job log) (Some child) ≡ None → turns ≡ p.turns + t →
    Kept job now (with_parked p a child frame turns)
park_kept job log now p a t call child turns frame k is going at found unknown turned = subst (λ l. Kept job l (with_parked p a child frame turns)) (sym is)
    (kept_then job log (Park a t call) p (with_parked p a child frame turns) k going (record { stops = record { stood = at.stood; stops = at.stops; is = at.is }; child = child; of_call = found; unknown = unknown })
    (subst (λ o. Holds job (acts a t (parks t o) (after job log)) (with_parked p a child frame turns)) (sym found) (parks_holds job (after job log) p a k.holds t call child turns frame at unknown turned)) (omega arith))

pub resume_kept : (job : Job) (log now : Log) (p : Parts) (a : ℕ) → Kept job log p → now ≡ Resume a ∷ log → (after job log).why ≡ Going → a < (after job log).count → MayGoOn (after job log) a → Kept job now (with_resumed p a)
resume_kept job log now p a k is going there may = subst (λ l. Kept job l (with_resumed p a)) (sym is)
    (kept_then job log (Resume a) p (with_resumed p a) k going (record { there = there; child = may.child; parked = may.parked; known = may.known; is = may.is }) (resumes_holds job (after job log) p a k.holds may) (omega arith))

pub fire_kept : (job : Job) (log now : Log) (p : Parts) (a turns fired : ℕ) → Kept job log p → now ≡ Fire a ∷ log → (after job log).why ≡ Going → a < (after job log).count → ((after job log).actors a).status ≡ status.Ready →
    turns ≡ p.turns + 1 → fired ≡ p.fired + 1 → Kept job now (with_begun p a turns fired)
fire_kept job log now p a turns fired k is going there ready turned one = subst (λ l. Kept job l (with_begun p a turns fired)) (sym is)
    (kept_then job log (Fire a) p (with_begun p a turns fired) k going (record { there = there; ready = ready }) (fires_holds job (after job log) p a k.holds ready turns fired turned) one)

-- an actor that is parked on a result that isn't known stays so
pub stays_parked : (w : World) (a child : ℕ) → (w.actors a).status ≡ status.Parked child → known_at w (Some child) ≡ None → MayGoOn w a → ⊥
stays_parked w a child parked none may = let same : may.child ≡ child = cc (sym may.parked ∙ parked) in cc (sym (ap (λ c. known_at w (Some c)) same ∙ none) ∙ may.is)
