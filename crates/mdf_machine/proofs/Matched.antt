-- A token that was due goes where it is due.
use Rattle.std.proofs.Common.{◌≡◌, ◌<◌, ◌≤◌, ◌+◌, ◌++◌, ℕ, zero, suc, List, length, map, set, cond, take, drop, Option, Some, None, Bool, true, false, refl, sym, ap, ap₂, ◌∙◌, subst, arith, slice_set}
use Rattle.std.specs.Prelude.{remove}
use Rattle.std.specs.FinMap.{insert}
use Rattle.std.proofs.lemmas.List.{drop-map, length-set, map-append, take-map}
use Rattle.mpl_value.specs.declared.known.Known.{Known}
use Rattle.mpl_value.specs.declared.known.Known.TheVariants.{Trapped}
use Rattle.mpl_value.specs.declared.known.Trap.{Trap}
use Rattle.mpl_value.specs.CallAnswers.{leftmost_trap}
use Rattle.mdf_actor.specs.declared.status.ActorStatus.{ActorStatus}
use Rattle.mdf_actor.specs.declared.status.ActorStatus.TheVariants as status
use Rattle.mdf_core.specs.Actors.{Actor, Arc, Call, Fate, arguments_of, is_post}
use Rattle.mdf_core.specs.Calls.{awaits, complete, completed, counts_ports, poisoned, ready, waiting}
use Rattle.mdf_core.specs.Stages.{has_begun}
use Rattle.mdf_core.specs.Worlds.{Job, World, change, fate_at}
use Rattle.mdf_core.proofs.Changes.{MissesAt}
use Rattle.mdf_core.proofs.Lists.{put_here, put_there}
use Rattle.mdf_core.proofs.Turning.{with_port}
use Rattle.mdf_drive.specs.DriveOrder.{goes_on}
use Rattle.mdf_future.specs.declared.future.Future.{Future}
use Rattle.mdf_match.specs.Ports.{Row as Ports, missing_in}
use Rattle.mdf_machine.specs.declared.parts.Parts.{Parts}
use Rattle.mdf_machine.specs.Internal.Held.{HasFrame, Holds, MainIs, MarkIs, PortsAre, ResultIs, RowOf, consumers_in, due_of, kept_fate}
use Rattle.mdf_machine.specs.Internal.Matching as parts
use Rattle.mdf_machine.specs.Internal.Matching.{brought, counted, filled_if, followed, followed_at, waiting_for}
use Rattle.mdf_machine.specs.Internal.Tables.{Each}
use Rattle.mdf_machine.proofs.Callers.{callers_one}
use Rattle.mdf_machine.proofs.Keeping.{main_kept}
use Rattle.mdf_machine.proofs.Keyed.{keyed_as, keyed_put}
use Rattle.mdf_machine.proofs.KnownResults.{CallersWait, settles_holds}
use Rattle.mdf_machine.proofs.One.{One, each_one, each_one_set, fates_one, marks_one, marks_one_set}

-- ---- the token is taken

removed : {A B : Type 0} (f : A → B) (xs : List A) (place : ℕ) → remove (map f xs) place ≡ map f (remove xs place)
removed f xs place = ap₂ (λ front back. front ++ back) (take-map f place xs) (drop-map f (suc place) xs) ∙ sym (map-append f (take place xs) (drop (suc place) xs))

abbrev pub taken_of : Parts → ℕ → Parts
taken_of p place = record p { results = record p.results { due = remove p.results.due place } }

abbrev pub taken_in : World → ℕ → World
taken_in w place = record w { due = remove w.due place }

pub taken_holds : (job : Job) (w : World) (p : Parts) (place : ℕ) → Holds job w p → Holds job (taken_in w place) (taken_of p place)
taken_holds job w p place h = record {
  statuses = record { length_is = h.statuses.length_is; at = h.statuses.at };
  rows = record { length_is = h.rows.length_is; at = h.rows.at };
  ports = record { at = h.ports.at; beyond = h.ports.beyond };
  results = record { at = h.results.at; beyond = h.results.beyond };
  due = ap (λ due. remove due place) h.due ∙ removed due_of w.due place;
  going = record { length_is = h.going.length_is; at = λ k mark is. h.going.at k mark is ∙ goes_taken (w.actors k).status };
  turns = h.turns;
  why = h.why;
  main = h.main;
  few = h.few;
} where
  goes_taken : (s : ActorStatus) → goes_on w s ≡ goes_on (taken_in w place) s
  goes_taken (status.Waiting missing) = refl
  goes_taken status.Ready = refl
  goes_taken status.Running = refl
  goes_taken (status.Parked child) = refl
  goes_taken status.Ended = refl
  goes_taken status.Poisoned = refl

-- ---- an actor that has not begun

pub change_twice : (c : ℕ) (f g : Actor → Actor) (w : World) → One c (g (f (w.actors c))) w (change c g (change c f w))
change_twice c f g w = record {
  here = put_here c (g ((change c f w).actors c)) (change c f w).actors ∙ ap g (put_here c (f (w.actors c)) w.actors);
  others = λ k differ. put_there c k (g ((change c f w).actors c)) (change c f w).actors differ ∙ put_there c k (f (w.actors c)) w.actors differ;
}

-- all but the actors is as before
pub record Beside (w v : World) : Type 0 where
  pub count : v.count ≡ w.count
  pub waits : v.waits ≡ w.waits
  pub due : v.due ≡ w.due
  pub turns : v.turns ≡ w.turns
  pub why : v.why ≡ w.why

no_frame : (job : Job) (x : Actor) (s : ActorStatus) (kept : _) → has_begun s ≡ false → HasFrame job x s kept
no_frame job x (status.Waiting missing) kept e = tt
no_frame job x status.Ready kept e = tt
no_frame job x status.Running kept e = tt
no_frame job x (status.Parked child) kept e = absurd (cc e)
no_frame job x status.Ended kept e = tt
no_frame job x status.Poisoned kept e = tt

no_main : (job : Job) (x : Actor) (s : ActorStatus) (lines : List ℕ) (end : _) → has_begun s ≡ false → MainIs job x s lines end
no_main job x (status.Waiting missing) lines end e = tt
no_main job x status.Ready lines end e = tt
no_main job x status.Running lines end e = tt
no_main job x (status.Parked child) lines end e = tt
no_main job x status.Ended lines end e = absurd (cc e)
no_main job x status.Poisoned lines end e = tt

-- its ports and its status change
module _ (job : Job) (w v : World) (p : Parts) (c : ℕ) (y : Actor) (h : Holds job w p) (one : One c y w v) (beside : Beside w v) (there : c < w.count)
    (call : y.call ≡ (w.actors c).call) (child : (n : ℕ) → y.child n ≡ (w.actors c).child n) (fate : y.fate ≡ (w.actors c).fate) (sized : length y.ports ≡ length (w.actors c).ports) (early : has_begun y.status ≡ false) where
  ports_at : (k : ℕ) (row : Ports) → (k ≡ c → ⊥) → PortsAre w k row → PortsAre v k row
  ports_at k row differ is = is ∙ ap (λ (x : Actor). x.ports) (sym (one.others k differ))

  fates : (k : ℕ) → fate_at v k ≡ fate_at w k
  fates = fates_one c y w v one fate

  pub early_holds : (going : List Bool) → Each (MarkIs v) w.count going → Holds job v (record p { statuses = set p.statuses c y.status; ports = insert p.ports c y.ports; going = going })
  early_holds going marks = record {
    statuses = each_one_set (λ x s. s ≡ x.status) c y w v w.count v.count p.statuses y.status one h.statuses (sym beside.count) refl;
    rows = each_one (RowOf job) c y w v w.count v.count p.rows one h.rows (sym beside.count) (λ row r. record {
      caller = r.caller ∙ ap (λ (x : Call). x.caller) (sym call);
      member = r.member ∙ ap (λ (x : Call). x.member) (sym call);
      ports = r.ports ∙ sym sized;
      children = λ n. r.children n ∙ sym (child n);
      frame = no_frame job y y.status row.frame early;
    });
    ports = keyed_put (PortsAre w) (PortsAre v) w.count v.count c y.ports p.ports h.ports (sym beside.count) there (ap (λ (x : Actor). x.ports) (sym one.here)) (λ k row below differ is. ports_at k row differ is);
    results = keyed_as (ResultIs w) (ResultIs v) w.count v.count p.results.results h.results (sym beside.count)
        (λ k (future : Future) below is. is ∙ ap₂ (λ (f : Fate) (waits : List Arc). record { fate = kept_fate f; consumers = consumers_in waits k }) (sym (fates k)) (sym beside.waits));
    due = h.due ∙ ap (map due_of) (sym beside.due);
    going = subst (λ n. Each (MarkIs v) n going) (sym beside.count) marks;
    turns = h.turns ∙ sym beside.turns;
    why = h.why ∙ sym beside.why;
    main = main_kept job w v c y p.lines p.main_end one.others one.here (no_main job y y.status p.lines p.main_end early) h.main;
    few = subst (λ n. n ≤ v.turns + 1) (sym beside.count) (subst (λ n. w.count ≤ n + 1) (sym beside.turns) h.few);
  }

-- an actor with an empty port doesn't go on
pub stays_out : (w : World) (s : ActorStatus) (n : ℕ) → MissesAt s (suc n) → goes_on w s ≡ false
stays_out w (status.Waiting missing) n h = refl
stays_out w status.Ready n h = absurd (omega (arith, h))
stays_out w status.Running n h = absurd (omega (arith, h))
stays_out w (status.Parked child) n h = absurd (omega (arith, h))
stays_out w status.Ended n h = refl
stays_out w status.Poisoned n h = refl

-- ---- a port is filled

module _ (job : Job) (u : World) (p : Parts) (c port : ℕ) (known : Known) (h : Holds job u p) (there : c < u.count) (plain : is_post (u.actors c).call ≡ false)
    (missed : goes_on u (u.actors c).status ≡ false) (callers : CallersWait u c) (caller : (u.actors c).call.caller < u.count) where
  x : Actor
  x = u.actors c

  abbrev row : Ports
  row = slice_set (u.actors c).ports port (Some known)

  abbrev z : Actor
  z = with_port port known (u.actors c)

  abbrev changed : World
  changed = change c (with_port port known) u

  abbrev q : Parts
  q = record p { ports = insert p.ports c row }

  here : (change c (with_port port known) u).actors c ≡ with_port port known (u.actors c)
  here = put_here c (with_port port known (u.actors c)) u.actors

  sized : length (slice_set (u.actors c).ports port (Some known)) ≡ length (u.actors c).ports
  sized = length-set (u.actors c).ports port (Some known)

  -- with another status and start
  step_on : (g : Actor → Actor) (s : ActorStatus) → (g z).status ≡ s → has_begun s ≡ false → (g z).call ≡ z.call → ((n : ℕ) → (g z).child n ≡ z.child n) → (g z).fate ≡ z.fate → (g z).ports ≡ z.ports → (going : List Bool) → Each (MarkIs (change c g changed)) u.count going →
      Holds job (change c g changed) (record p { statuses = set p.statuses c s; ports = insert p.ports c row; going = going })
  step_on g s status_is early call child fate ports going marks =
      subst (λ (r : Ports). Holds job (change c g changed) (record p { statuses = set p.statuses c s; ports = insert p.ports c r; going = going })) ports
      (subst (λ (s : ActorStatus). Holds job (change c g changed) (record p { statuses = set p.statuses c s; ports = insert p.ports c (g z).ports; going = going })) status_is
      (early_holds job u (change c g changed) p c (g z) h (change_twice c (with_port port known) g u) (record { count = refl; waits = refl; due = refl; turns = refl; why = refl }) there
      call child fate (ap length ports ∙ sized) (ap has_begun status_is ∙ early) going marks))

  same_fates : (g : Actor → Actor) → (g z).fate ≡ z.fate → (k : ℕ) → fate_at (change c g changed) k ≡ fate_at u k
  same_fates g fate = fates_one c (g z) u (change c g changed) (change_twice c (with_port port known) g u) fate

  marks_stay : (g : Actor → Actor) → (g z).fate ≡ z.fate → goes_on u (g z).status ≡ false → Each (MarkIs (change c g changed)) u.count p.going
  marks_stay g fate out = marks_one c (g z) u (change c g changed) u.count u.count p.going (change_twice c (with_port port known) g u) (same_fates g fate) h.going refl (out ∙ sym missed)

  marks_set : (g : Actor → Actor) → (g z).fate ≡ z.fate → goes_on u (g z).status ≡ true → Each (MarkIs (change c g changed)) u.count (set p.going c true)
  marks_set g fate on = marks_one_set c (g z) u (change c g changed) u.count u.count p.going true (change_twice c (with_port port known) g u) (same_fates g fate) h.going refl (sym on)

  poisoned_callers : CallersWait (change c poisoned (change c (with_port port known) u)) c
  poisoned_callers = callers_one u (change c poisoned changed) c (poisoned z) (change_twice c (with_port port known) poisoned u) c refl (ap (λ (a : Actor). a.call) (change_twice c (with_port port known) poisoned u).here) (λ waits. absurd (cc waits)) callers

  poisoned_caller : ((change c poisoned (change c (with_port port known) u)).actors c).call.caller < u.count
  poisoned_caller = subst (λ (a : Call). a.caller < u.count) (sym (ap (λ (a : Actor). a.call) (change_twice c (with_port port known) poisoned u).here)) caller

  completes : (t : Option Trap) → Holds job (completed c z t changed) (parts.completed q c t)
  completes None = subst (λ (b : Bool). Holds job (change c (cond b complete ready) changed) (parts.completed q c None)) (sym plain)
      (step_on ready status.Ready refl refl refl (λ n. refl) refl refl (set p.going c true) (marks_set ready refl refl))
  completes (Some trap) = settles_holds job (change c poisoned changed) (record q { statuses = set p.statuses c status.Poisoned }) c (Trapped trap)
      (step_on poisoned status.Poisoned refl refl refl (λ n. refl) refl refl p.going (marks_stay poisoned refl refl))
      there poisoned_callers poisoned_caller

  waits_on : (n : ℕ) → Holds job (awaits c z n changed) (waiting_for q c row n)
  waits_on zero = completes (leftmost_trap (arguments_of row))
  waits_on (suc missing) = step_on (waiting (suc missing)) (status.Waiting (suc missing)) refl refl refl (λ n. refl) refl refl p.going (marks_stay (waiting (suc missing)) refl refl)

  pub fills_holds : Holds job (counts_ports c (change c (with_port port known) u)) (waiting_for (record p { ports = insert p.ports c (slice_set (u.actors c).ports port (Some known)) }) c (slice_set (u.actors c).ports port (Some known)) (missing_in (slice_set (u.actors c).ports port (Some known))))
  fills_holds = subst (λ (a : Actor). Holds job (awaits c a (missing_in a.ports) changed) (waiting_for q c row (missing_in row))) (sym here) (waits_on (missing_in row))
