-- Arcs lead where an argument or a result is to come, and ports have their arguments' values, along a log.
use Rattle.std.proofs.Common.{◌≡◌, ◌+◌, ◌<◌, ℕ, suc, false, List, [], ◌∷◌, Option, Some, None, ℤ, refl, sym, ap, ◌∙◌, subst, slice_get, arith}
use Rattle.std.specs.List.{AllByRecursion}
use Rattle.mdf_code.specs.Alone.{Held, Words, Pending}
use Rattle.mdf_code.specs.Told.{Gave}
use Rattle.mdf_core.specs.Actors.{Actor, Arc, Call, Target, Port, Result}
use Rattle.mdf_core.specs.Arguments.{ArcsLead, Leads, LeadsTo}
use Rattle.mdf_core.specs.Calls.{arc_to, arcs_to, calls_on, new_actor, with_arcs}
use Rattle.mdf_core.specs.Enabled.{Enabled, IsLog}
use Rattle.mdf_core.specs.Events.{Event, Fire, Send, Create, Learn, Park, Resume, Reply, End, Beat, Match, Arrive, Accept, Quit}
use Rattle.mdf_core.specs.Steps.{Log, after, runs, sends, step, tells}
use Rattle.mdf_core.specs.Worlds.{Job, World, acts, put, spends}
use Rattle.mdf_core.proofs.ArcLists.{Holds, acts_hold, accepts_hold, arcs_hold, counts_hold, every_append, every_more, finishes_hold, gives_hold, matches_hold, same_hold}
use Rattle.mdf_core.proofs.EachStep.{is_send}
use Rattle.mdf_core.proofs.Fates.{fated}
use Rattle.mdf_core.proofs.Lists.{put_here}
use Rattle.mdf_core.proofs.Passing.{pass}
use Rattle.mdf_core.proofs.Rooted.{send_rooted, with_call}
use Rattle.mdf_core.proofs.Standing.{stand}
use Rattle.mdf_core.proofs.ToldSo.{Later, later_step}
use Rattle.mdf_core.proofs.Transitions.{sends_sent}
use Rattle.mdf_core.proofs.TreeOfActors.{by_event, tree}

-- ---- arcs that were there

leads_later : (w v : World) → Later w v → (from : ℕ) (to : Target) → LeadsTo w from to → LeadsTo v from to
leads_later w v l from (Port c port) h = let same = l.calls c h.there in record {
  there = omega (arith, h.there, l.count);
  call = h.call;
  at = ap (λ (x : Call). slice_get x.arguments port) same ∙ h.at;
  is = ap (λ (x : Call). (v.actors x.caller).child h.call) same ∙ l.children (w.actors c).call.caller h.call from h.is;
}
leads_later w v l from (Result a) h = record { there = omega (arith, h.there, l.count); call = h.call; is = l.children a h.call from h.is }

holds_later : (w v : World) → Later w v → Holds (Leads w) w → Holds (Leads v) w
holds_later w v l h = record {
  waits = every_more (Leads w) (Leads v) (λ arc. leads_later w v l arc.from arc.to) w.waits h.waits;
  due = every_more (Leads w) (Leads v) (λ arc. leads_later w v l arc.from arc.to) w.due h.due;
}

-- ---- arcs that are added

-- from arguments at these places, where what is said holds of each
argument_arcs : (P : Arc → Type 0) (child : ℕ → Option ℕ) (callee port : ℕ) (arguments : List Held) →
    ((i call from : ℕ) → slice_get arguments i ≡ Some (Pending call) → child call ≡ Some from → P (record { from = from; to = Port callee (port + i) })) →
    AllByRecursion P (arcs_to child callee port arguments)
argument_arcs P child callee port [] h = tt
argument_arcs P child callee port (Words words ∷ others) h = argument_arcs P child callee (port + 1) others
    (λ i call from at is. subst (λ n. P (record { from = from; to = Port callee n })) (one_on i) (h (suc i) call from at is)) where
      one_on : (i : ℕ) → port + suc i ≡ port + 1 + i
      one_on i = omega arith
argument_arcs P child callee port (Pending call ∷ others) h = every_append P (arc_to callee port (child call)) (arcs_to child callee (port + 1) others)
    (first (child call) refl)
    (argument_arcs P child callee (port + 1) others (λ i other from at is. subst (λ n. P (record { from = from; to = Port callee n })) (one_on i) (h (suc i) other from at is))) where
      one_on : (i : ℕ) → port + suc i ≡ port + 1 + i
      one_on i = omega arith

      none_on : port + 0 ≡ port
      none_on = omega arith

      first : (o : Option ℕ) → child call ≡ o → AllByRecursion P (arc_to callee port o)
      first None is = tt
      first (Some from) is = (subst (λ n. P (record { from = from; to = Port callee n })) none_on (h 0 call from refl is), tt)

pub new_call_is : (job : Job) (w : World) (a turns member : ℕ) (object : ℤ) (arguments : List Held) →
    ((sends job a turns w.count member object arguments w).actors w.count).call ≡ (new_actor job a (w.actors a) member object arguments).call
new_call_is job w a turns member object arguments = (send_rooted job w a turns w.count member object arguments w.count).call
    ∙ ap (λ (x : Actor). x.call) (put_here w.count (new_actor job a (w.actors a) member object arguments) (put a (spends (turns + 1) (calls_on job w.count member (w.actors a))) w.actors))

send_leads : (job : Job) (w : World) (a turns member : ℕ) (object : ℤ) (arguments : List Held) → a < w.count → Later w (sends job a turns w.count member object arguments w) →
    Holds (Leads w) w → Holds (Leads (sends job a turns w.count member object arguments w)) (sends job a turns w.count member object arguments w)
send_leads job w a turns member object arguments there l h =
    let v = sends job a turns w.count member object arguments w in let y = with_call job a turns w.count member object arguments w in let arcs = arcs_to (w.actors a).child w.count 0 arguments in
    let same = new_call_is job w a turns member object arguments in
    let sent = sends_sent job a turns w.count member object arguments w (λ e. absurd (omega (arith, e, there))) in
    counts_hold (Leads v) w.count (with_arcs arcs y) (arcs_hold (Leads v) arcs y
    (argument_arcs (Leads v) (w.actors a).child w.count 0 arguments (λ i call from at is. record {
      there = omega (arith, sent.count);
      call = call;
      at = ap (λ (x : Call). slice_get x.arguments (0 + i)) same ∙ (ap (slice_get arguments) (zero_on i) ∙ at);
      is = ap (λ (x : Call). (v.actors x.caller).child call) same ∙ l.children a call from is;
    }))
    (same_hold (Leads v) w y refl refl (holds_later w v l h))) where
      zero_on : (i : ℕ) → 0 + i ≡ i
      zero_on i = omega arith

step_leads : (job : Job) (w : World) (e : Event) → Enabled job w e → Later w (step job w e) → is_send e ≡ false → Holds (Leads w) w → Holds (Leads (step job w e)) (step job w e)
step_leads job w (Fire a) h l other k = let v = step job w (Fire a) in acts_hold (Leads v) a 1 runs w (holds_later w v l k)
step_leads job w (Send a turns callee member object arguments) h l other k = absurd (cc other)
step_leads job w (Create a turns class object) h l other k = let v = step job w (Create a turns class object) in same_hold (Leads v) w v refl refl (holds_later w v l k)
step_leads job w (Learn a turns call) h l other k = let v = step job w (Learn a turns call) in same_hold (Leads v) w v refl refl (holds_later w v l k)
step_leads job w (Park a turns call) h l other k = let v = step job w (Park a turns call) in same_hold (Leads v) w v refl refl (holds_later w v l k)
step_leads job w (Resume a) h l other k = let v = step job w (Resume a) in same_hold (Leads v) w v refl refl (holds_later w v l k)
step_leads job w (Reply a turns value) h l other k = let v = step job w (Reply a turns value) in let u = acts a turns (tells Gave) w in
    gives_hold (Leads v) a value u (λ call child is found. record {
      there = omega (arith, h.stops.there, l.count);
      call = call;
      is = l.children a call child (sym (ap (λ (x : Actor). x.child call) (put_here a (spends turns (tells Gave (w.actors a))) w.actors)) ∙ found);
    }) (acts_hold (Leads v) a turns (tells Gave) w (holds_later w v l k))
step_leads job w (End a turns ending state) h l other k = let v = step job w (End a turns ending state) in finishes_hold (Leads v) job a turns ending state w (holds_later w v l k)
step_leads job w (Beat a) h l other k = let v = step job w (Beat a) in same_hold (Leads v) w v refl refl (holds_later w v l k)
step_leads job w (Match place) h l other k = let v = step job w (Match place) in matches_hold (Leads v) place (slice_get w.due place) w (holds_later w v l k)
step_leads job w (Arrive a) h l other k = let v = step job w (Arrive a) in same_hold (Leads v) w v refl refl (holds_later w v l k)
step_leads job w (Accept o a number) h l other k = let v = step job w (Accept o a number) in accepts_hold (Leads v) o a number (w.objects o) w (holds_later w v l k)
step_leads job w (Quit why) h l other k = let v = step job w (Quit why) in same_hold (Leads v) w v refl refl (holds_later w v l k)

pub later_at : (job : Job) (e : Event) (log : Log) → IsLog job (e ∷ log) → Later (after job log) (step job (after job log) e)
later_at job e log h = later_step job (after job log) e h.0.1 (stand job log h.1) (fated job log h.1) (tree job log h.1) (pass job log h.1)

pub holds : (job : Job) (log : Log) → IsLog job log → Holds (Leads (after job log)) (after job log)
holds job [] h = record { waits = tt; due = tt }
holds job (e ∷ log) h = let w = after job log in by_event e
    (λ a turns callee member object arguments is. subst (λ d. Holds (Leads (step job w d)) (step job w d)) (sym is)
    (call a turns callee member object arguments (subst (Enabled job w) is h.0.1) (subst (λ d. Later w (step job w d)) is (later_at job e log h)) (holds job log h.1)))
    (λ other. step_leads job w e h.0.1 (later_at job e log h) other (holds job log h.1)) where
      call : (a turns callee member : ℕ) (object : ℤ) (arguments : List Held) → Enabled job (after job log) (Send a turns callee member object arguments) →
          Later (after job log) (step job (after job log) (Send a turns callee member object arguments)) → Holds (Leads (after job log)) (after job log) →
          Holds (Leads (step job (after job log) (Send a turns callee member object arguments))) (step job (after job log) (Send a turns callee member object arguments))
      call a turns callee member object arguments m l k = subst (λ c. Holds (Leads (step job (after job log) (Send a turns c member object arguments))) (step job (after job log) (Send a turns c member object arguments))) (sym m.next)
          (send_leads job (after job log) a turns member object arguments m.stops.stops.there (subst (λ c. Later (after job log) (step job (after job log) (Send a turns c member object arguments))) m.next l) k)

pub arcs_lead : (job : Job) (log : Log) → IsLog job log → ArcsLead (after job log)
arcs_lead job log h = let k = holds job log h in record { waits = k.waits; due = k.due }
