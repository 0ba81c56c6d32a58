-- One more event: what the parts hold then.
use Rattle.std.proofs.Common.{◌≡◌, ◌<◌, ◌≤◌, ◌+◌, ◌⊎◌, ℕ, zero, List, [], ◌∷◌, length, set, Option, Some, None, refl, sym, ap, ◌∙◌, subst, arith, true, false, inl, inr}
use Rattle.mdf_actor.specs.declared.status.ActorStatus.{ActorStatus}
use Rattle.mdf_actor.specs.declared.status.ActorStatus.TheVariants as status
use Rattle.mdf_code.specs.Alone.{Held, Words, Pending}
use Rattle.mdf_code.specs.Frames.{Needs}
use Rattle.mdf_code.specs.Told.{Beaten, Beats, Learnt, Stands, Stood, most_turns}
use Rattle.mpl_value.specs.declared.known.Known.{Known}
use Rattle.mpl_value.specs.declared.body.BodyEnd.{BodyEnd}
use Rattle.mdf_core.specs.declared.status.MachineStatus.TheVariants.{Going}
use Rattle.mdf_core.specs.Actors.{Actor, Call}
use Rattle.mdf_core.specs.Enabled.{Enabled, IsLog, MayLearn, MayPark, Stops}
use Rattle.mdf_core.specs.Events.{Event, Beat, Learn, Park}
use Rattle.mdf_core.specs.Steps.{Log, after, learns, parks, step, tells}
use Rattle.mdf_core.specs.Worlds.{Job, World, acts, known_at, spends}
use Rattle.mdf_core.proofs.Lists.{put_here, put_there, same_or}
use Rattle.mdf_drive.specs.DriveOrder.{goes_on}
use Rattle.mdf_vm.specs.declared.frame.Frame.{Frame}
use Rattle.mdf_machine.specs.declared.parts.Parts.{Parts}
use Rattle.mdf_machine.specs.declared.rows.Row.{Row}
use Rattle.mdf_machine.specs.Courses.{begins}
use Rattle.mdf_machine.specs.Frames.{IsFrameAt, StandsAt}
use Rattle.mdf_machine.specs.Internal.Held.{HasFrame, Holds, Kept, MainIs, MarkIs, RowIs, RowOf, StatusIs}
use Rattle.mdf_machine.specs.Internal.Rows.{changed, with_frame}
use Rattle.mdf_machine.proofs.Acting.{OtherParts, Same, acts_holds}
use Rattle.mdf_machine.proofs.One.{One, acts_one, each_one, each_one_changed, each_one_set, fates_one, marks_one, marks_one_set}

pub kept_then : (job : Job) (log : Log) (e : Event) (p q : Parts) → Kept job log p → (after job log).why ≡ Going → Enabled job (after job log) e → Holds job (step job (after job log) e) q → q.fired ≡ p.fired + begins e → Kept job (e ∷ log) q
kept_then job log e p q k going enabled holds fired = record {
  is_log = ((going, enabled), k.is_log);
  image = k.image;
  plain = k.plain;
  budget = k.budget;
  holds = holds;
  fired = fired ∙ ap (λ n. n + begins e) k.fired;
}

-- ---- an event that keeps its actor running

-- what isn't told of a frame stays
pub record Keeps (x y : Actor) : Type 0 where
  pub call : y.call ≡ x.call
  pub ports : y.ports ≡ x.ports
  pub child : (n : ℕ) → y.child n ≡ x.child n
  pub fate : y.fate ≡ x.fate

pub row_kept : (job : Job) (x y : Actor) (row : Row) → Keeps x y → RowOf job x row → HasFrame job y y.status row.frame → RowOf job y row
row_kept job x y row k h frame = record {
  caller = h.caller ∙ ap (λ (c : Call). c.caller) (sym k.call);
  member = h.member ∙ ap (λ (c : Call). c.member) (sym k.call);
  ports = h.ports ∙ ap length (sym k.ports);
  children = λ n. h.children n ∙ sym (k.child n);
  frame = frame;
}

-- `main` is as it was, unless it is the one that changes
pub main_kept : (job : Job) (w v : World) (a : ℕ) (y : Actor) (lines : List ℕ) (end : BodyEnd) → ((k : ℕ) → (k ≡ a → ⊥) → v.actors k ≡ w.actors k) → v.actors a ≡ y → MainIs job y y.status lines end →
    MainIs job (w.actors 0) (w.actors 0).status lines end → MainIs job (v.actors 0) (v.actors 0).status lines end
main_kept job w v a y lines end others here new old = at (same_or 0 a) where
  at : (0 ≡ a) ⊎ (0 ≡ a → ⊥) → MainIs job (v.actors 0) (v.actors 0).status lines end
  at (inl is) = subst (λ (x : Actor). MainIs job x x.status lines end) (sym (ap v.actors is ∙ here)) new
  at (inr differ) = subst (λ (x : Actor). MainIs job x x.status lines end) (sym (others 0 differ)) old

module _ (job : Job) (w : World) (p : Parts) (a t : ℕ) (f : Actor → Actor) (h : Holds job w p) (running : (w.actors a).status ≡ status.Running) (after_is : (f (w.actors a)).status ≡ status.Running) (keeps : Keeps (w.actors a) (f (w.actors a))) where
  -- only turns are added
  pub runs_on_holds : (turns : ℕ) → turns ≡ p.turns + t → Holds job (acts a t f w) (record p { turns = turns })
  runs_on_holds turns is = acts_holds job w p (record p { turns = turns }) a t f h (record { ports = keeps.ports; fate = keeps.fate }) (record { ports = refl; results = refl; why = refl })
      (each_one (λ x s. s ≡ x.status) a y w v w.count w.count p.statuses one h.statuses refl (λ s e. e ∙ running ∙ sym after_is))
      (each_one (RowOf job) a y w v w.count w.count p.rows one h.rows refl (λ row e. row_kept job (w.actors a) y row (record { call = keeps.call; ports = keeps.ports; child = keeps.child; fate = keeps.fate }) e (subst (λ s. HasFrame job y s row.frame) (sym after_is) tt)))
      (marks_one a y w v w.count w.count p.going one (fates_one a y w v one keeps.fate) h.going refl (ap (goes_on w) after_is ∙ ap (goes_on w) (sym running)))
      is (main_kept job w v a y p.lines p.main_end one.others one.here (subst (λ s. MainIs job y s p.lines p.main_end) (sym after_is) tt) h.main) where
        y : Actor
        y = spends t (f (w.actors a))

        v : World
        v = acts a t f w

        one : One a (spends t (f (w.actors a))) w (acts a t f w)
        one = acts_one a t f w

-- ---- turns

pub beat_kept : (job : Job) (log now : Log) (p : Parts) (a turns : ℕ) → Kept job log p → now ≡ Beat a ∷ log → (after job log).why ≡ Going → Stops job (after job log) a most_turns Beats → turns ≡ p.turns + most_turns →
    Kept job now (record p { turns = turns })
beat_kept job log now p a turns k is going stops turned = subst (λ l. Kept job l (record p { turns = turns })) (sym is)
    (kept_then job log (Beat a) p (record p { turns = turns }) k going stops
    (runs_on_holds job (after job log) p a most_turns (tells Beaten) k.holds stops.stops.running stops.stops.running (record { call = refl; ports = refl; child = λ n. refl; fate = refl }) turns turned) (omega arith))

pub learn_kept : (job : Job) (log now : Log) (p : Parts) (a t call turns : ℕ) (known : Known) → Kept job log p → now ≡ Learn a t call ∷ log → (after job log).why ≡ Going → Stops job (after job log) a t (Stands (Needs (Pending call))) →
    known_at (after job log) (((after job log).actors a).child call) ≡ Some known → turns ≡ p.turns + t → Kept job now (record p { turns = turns })
learn_kept job log now p a t call turns known k is going stops knows turned = subst (λ l. Kept job l (record p { turns = turns })) (sym is)
    (kept_then job log (Learn a t call) p (record p { turns = turns }) k going (record { stops = stops; known = known; is = knows })
    (subst (λ o. Holds job (acts a t (learns o) (after job log)) (record p { turns = turns })) (sym knows)
    (runs_on_holds job (after job log) p a t (tells (Learnt known)) k.holds stops.stops.running stops.stops.running (record { call = refl; ports = refl; child = λ n. refl; fate = refl }) turns turned)) (omega arith))
