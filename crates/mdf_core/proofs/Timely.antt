-- Arcs wait and are due by whether their results are known, along a log.
use Rattle.std.proofs.Common.{◌≡◌, ◌+◌, ◌<◌, ◌⊎◌, ℕ, zero, suc, Bool, true, false, not, cond, List, [], ◌∷◌, Option, Some, None, ℤ, refl, sym, ap, ◌∙◌, subst, filter, slice_get, slice_set, remove, inl, inr, arith, nat_eq, eqb-true}
use Rattle.std.specs.List.{AllByRecursion}
use Rattle.mpl_value.specs.CallAnswers.{leftmost_trap}
use Rattle.mpl_value.specs.declared.body.BodyResult.{BodyResult}
use Rattle.mpl_value.specs.declared.body.BodyResult.TheVariants as result
use Rattle.mpl_value.specs.declared.known.Known.{Known}
use Rattle.mpl_value.specs.declared.known.Known.TheVariants.{Value, Trapped}
use Rattle.mpl_value.specs.declared.known.Trap.{Trap}
use Rattle.mdf_actor.specs.Statuses.{is_over}
use Rattle.mdf_actor.specs.declared.status.ActorStatus.TheVariants as status
use Rattle.mdf_code.specs.Alone.{Held, Words, Pending}
use Rattle.mdf_code.specs.Told.{Beaten, Gave, Named, has_given, most_turns}
use Rattle.mdf_match.specs.Ports.{missing_in}
use Rattle.mdf_core.specs.Actors.{Actor, Arc, Fate, Open, Is, Forwarded, Target, Port, Result, arguments_of, is_known, is_post}
use Rattle.mdf_core.specs.Calls.{arcs_to, awaits, becomes, calls_on, complete, completed, counts_ports, leads_from, new_actor, poisoned, ready, waiting, with_arcs}
use Rattle.mdf_core.specs.DueArcs.{ArcsAreDue}
use Rattle.mdf_core.specs.Enabled.{Enabled, IsLog}
use Rattle.mdf_core.specs.Events.{Ending, Event, Fire, Send, Create, Learn, Park, Resume, Reply, End, Beat, Match, Arrive, Accept, Quit}
use Rattle.mdf_core.specs.Steps.{Log, accepted_start, accepts_on, after, becomes_forwarded, becomes_result, brings, brings_known, ends, fills_port, finishes, forwards, frees, frees_object, gives, learns, matches, parks, result_at_end, runs, sends, step, tells, unless_given}
use Rattle.mdf_core.specs.Worlds.{Job, Object, World, acts, change, fate_at, known_at, put, spends}
use Rattle.mdf_core.proofs.ArcLists.{every_append, every_filter, every_remove}
use Rattle.mdf_core.proofs.Fates.{fated, gives_open, is_early}
use Rattle.mdf_core.proofs.Lists.{nat_same, put_here, put_there, same_or}
use Rattle.mdf_core.proofs.Rooted.{with_call}
use Rattle.mdf_core.proofs.Standing.{stand}

-- ---- arcs

abbrev knows : World → ℕ → Bool
knows w c = is_known (fate_at w c)

filter_true : (test : Arc → Bool) (xs : List Arc) → AllByRecursion (λ x. test x ≡ true) (filter test xs)
filter_true test [] = tt
filter_true test (x ∷ xs) = at (test x) refl (filter_true test xs) where
  at : (b : Bool) → test x ≡ b → AllByRecursion (λ y. test y ≡ true) (filter test xs) → AllByRecursion (λ y. test y ≡ true) (cond b (x ∷ filter test xs) (filter test xs))
  at true is k = (is, k)
  at false is k = k

every_both : (P Q R : Arc → Type 0) → ((x : Arc) → P x → Q x → R x) → (xs : List Arc) → AllByRecursion P xs → AllByRecursion Q xs → AllByRecursion R xs
every_both P Q R f [] h k = tt
every_both P Q R f (x ∷ xs) h k = (f x h.0 k.0, every_both P Q R f xs h.1 k.1)

not_true : (b : Bool) → not b ≡ true → b ≡ false
not_true true h = absurd (cc h)
not_true false h = refl

-- where the same is known
due_as : (w v : World) → v.waits ≡ w.waits → v.due ≡ w.due → ((c : ℕ) → knows v c ≡ knows w c) → ArcsAreDue w → ArcsAreDue v
due_as w v waits due same d = record {
  waits = subst (AllByRecursion (λ arc. knows v arc.from ≡ false)) (sym waits) (every_both (λ arc. knows w arc.from ≡ false) (λ arc. knows w arc.from ≡ false) (λ arc. knows v arc.from ≡ false) (λ arc h k. same arc.from ∙ h) w.waits d.waits d.waits);
  due = subst (AllByRecursion (λ arc. knows v arc.from ≡ true)) (sym due) (every_both (λ arc. knows w arc.from ≡ true) (λ arc. knows w arc.from ≡ true) (λ arc. knows v arc.from ≡ true) (λ arc h k. same arc.from ∙ h) w.due d.due d.due);
}

arcs_due : (arcs : List Arc) (w : World) → ArcsAreDue w → ArcsAreDue (with_arcs arcs w)
arcs_due arcs w d = record {
  waits = every_append (λ arc. knows w arc.from ≡ false) w.waits (filter (λ arc. not (knows w arc.from)) arcs) d.waits
      (every_both (λ arc. not (knows w arc.from) ≡ true) (λ arc. not (knows w arc.from) ≡ true) (λ arc. knows w arc.from ≡ false) (λ arc h k. not_true (knows w arc.from) h) (filter (λ arc. not (knows w arc.from)) arcs)
      (filter_true (λ arc. not (knows w arc.from)) arcs) (filter_true (λ arc. not (knows w arc.from)) arcs));
  due = every_append (λ arc. knows w arc.from ≡ true) w.due (filter (λ arc. knows w arc.from) arcs) d.due (filter_true (λ arc. knows w arc.from) arcs);
}

-- ---- results

known_here : (c : ℕ) (known : Known) (w : World) → knows (becomes c known w) c ≡ true
known_here c known w = ap (λ (x : Actor). is_known x.fate) (put_here c (record (w.actors c) { fate = Is known }) w.actors)

known_there : (c : ℕ) (known : Known) (w : World) (k : ℕ) → (k ≡ c → ⊥) → knows (becomes c known w) k ≡ knows w k
known_there c known w k h = ap (λ (x : Actor). is_known x.fate) (put_there c k (record (w.actors c) { fate = Is known }) w.actors h)

known_stays : (c : ℕ) (known : Known) (w : World) (k : ℕ) → knows w k ≡ true → knows (becomes c known w) k ≡ true
known_stays c known w k h = at (same_or k c) where
  at : (k ≡ c) ⊎ (k ≡ c → ⊥) → knows (becomes c known w) k ≡ true
  at (inl same) = ap (knows (becomes c known w)) same ∙ known_here c known w
  at (inr differ) = known_there c known w k differ ∙ h

becomes_due : (c : ℕ) (known : Known) (w : World) → ArcsAreDue w → ArcsAreDue (becomes c known w)
becomes_due c known w d = let v = becomes c known w in record {
  waits = every_both (λ arc. knows w arc.from ≡ false) (λ arc. not (leads_from c arc) ≡ true) (λ arc. knows v arc.from ≡ false)
      (λ arc h k. known_there c known w arc.from (λ same. absurd (cc (not_true (leads_from c arc) k, ap (λ n. nat_eq n c) same ∙ nat_same c))) ∙ h)
      (filter (λ arc. not (leads_from c arc)) w.waits) (every_filter (λ arc. knows w arc.from ≡ false) (λ arc. not (leads_from c arc)) w.waits d.waits) (filter_true (λ arc. not (leads_from c arc)) w.waits);
  due = every_append (λ arc. knows v arc.from ≡ true) w.due (filter (leads_from c) w.waits)
      (every_both (λ arc. knows w arc.from ≡ true) (λ arc. knows w arc.from ≡ true) (λ arc. knows v arc.from ≡ true) (λ arc h k. known_stays c known w arc.from h) w.due d.due d.due)
      (every_both (λ arc. leads_from c arc ≡ true) (λ arc. leads_from c arc ≡ true) (λ arc. knows v arc.from ≡ true)
      (λ arc h k. ap (knows v) (eqb-true arc.from c h) ∙ known_here c known w) (filter (leads_from c) w.waits) (filter_true (leads_from c) w.waits) (filter_true (leads_from c) w.waits));
}

-- an actor changes, and what is known of its result doesn't
put_knows : (w v : World) (c : ℕ) (y : Actor) → v.actors ≡ put c y w.actors → is_known y.fate ≡ knows w c → (k : ℕ) → knows v k ≡ knows w k
put_knows w v c y is same k = at (same_or k c) where
  at : (k ≡ c) ⊎ (k ≡ c → ⊥) → knows v k ≡ knows w k
  at (inl here) = ap (knows v) here ∙ (ap (λ (f : ℕ → Actor). is_known (f c).fate) is ∙ (ap (λ (x : Actor). is_known x.fate) (put_here c y w.actors) ∙ (same ∙ ap (knows w) (sym here))))
  at (inr there) = ap (λ (f : ℕ → Actor). is_known (f k).fate) is ∙ ap (λ (x : Actor). is_known x.fate) (put_there c k y w.actors there)

change_due : (c : ℕ) (f : Actor → Actor) (w : World) → is_known (f (w.actors c)).fate ≡ knows w c → ArcsAreDue w → ArcsAreDue (change c f w)
change_due c f w same = due_as w (change c f w) refl refl (put_knows w (change c f w) c (f (w.actors c)) refl same)

acts_due : (a t : ℕ) (f : Actor → Actor) (w : World) → is_known (f (w.actors a)).fate ≡ knows w a → ArcsAreDue w → ArcsAreDue (acts a t f w)
acts_due a t f w same = due_as w (acts a t f w) refl refl (put_knows w (acts a t f w) a (spends t (f (w.actors a))) refl same)

forwards_due : (a : ℕ) (o : Option ℕ) (w : World) → knows w a ≡ false → ArcsAreDue w → ArcsAreDue (forwards a o w)
forwards_due a None w none d = d
forwards_due a (Some child) w none d = let f : Actor → Actor = λ x. record x { fate = Forwarded child } in
    arcs_due (record { from = child; to = Result a } ∷ []) (change a f w) (change_due a f w (sym none) d)

gives_due : (a : ℕ) (value : Held) (w : World) → knows w a ≡ false → ArcsAreDue w → ArcsAreDue (gives a value w)
gives_due a (Words words) w none d = becomes_due a (Value words) w d
gives_due a (Pending call) w none d = forwards_due a ((w.actors a).child call) w none d

result_due : (a : ℕ) (r : BodyResult) (w : World) → ArcsAreDue w → ArcsAreDue (becomes_result a r w)
result_due a result.Open w d = d
result_due a (result.Known known) w d = becomes_due a known w d
result_due a result.Unknown w d = d

unless_due : (f : Fate) (w settled : World) → ArcsAreDue settled → ArcsAreDue w → ArcsAreDue (unless_given f settled w)
unless_due Open w settled d e = d
unless_due (Is known) w settled d e = e
unless_due (Forwarded child) w settled d e = e

frees_object_due : (o : ℤ) (state : List ℤ) (object : Option Object) (w : World) → ArcsAreDue w → ArcsAreDue (frees_object o state object w)
frees_object_due o state None w d = d
frees_object_due o state (Some object) w d = due_as w (frees_object o state (Some object) w) refl refl (λ c. refl) d

frees_due : (x : Actor) (state : List ℤ) (w : World) → ArcsAreDue w → ArcsAreDue (frees x state w)
frees_due x state w d = at (is_post x.call) where
  at : (b : Bool) → ArcsAreDue (cond b (frees_object x.call.object state (w.objects x.call.object) w) w)
  at true = frees_object_due x.call.object state (w.objects x.call.object) w d
  at false = d

finishes_due : (job : Job) (a t : ℕ) (ending : Ending) (state : List ℤ) (w : World) → ArcsAreDue w → ArcsAreDue (finishes job a t ending state w)
finishes_due job a t ending state w d =
    let v = acts a t (ends t) w in let freed = frees (w.actors a) state v in let r = result_at_end job (w.actors a) ending in let k = frees_due (w.actors a) state v (acts_due a t (ends t) w refl d) in
    unless_due (w.actors a).fate freed (becomes_result a r freed) (result_due a r freed k) k

-- ---- ports

completed_due : (c : ℕ) (x : Actor) (t : Option Trap) (w : World) → ArcsAreDue w → ArcsAreDue (completed c x t w)
completed_due c x (Some trap) w d = becomes_due c (Trapped trap) (change c poisoned w) (change_due c poisoned w refl d)
completed_due c x None w d = at (is_post x.call) where
  at : (b : Bool) → ArcsAreDue (change c (cond b complete ready) w)
  at true = change_due c complete w refl d
  at false = change_due c ready w refl d

awaits_due : (c : ℕ) (x : Actor) (n : ℕ) (w : World) → ArcsAreDue w → ArcsAreDue (awaits c x n w)
awaits_due c x zero w d = completed_due c x (leftmost_trap (arguments_of x.ports)) w d
awaits_due c x (suc n) w d = change_due c (waiting (suc n)) w refl d

counts_due : (c : ℕ) (w : World) → ArcsAreDue w → ArcsAreDue (counts_ports c w)
counts_due c w d = awaits_due c (w.actors c) (missing_in (w.actors c).ports) w d

fills_due : (c port : ℕ) (known : Known) (o : Option (Option Known)) (w : World) → ArcsAreDue w → ArcsAreDue (fills_port c port known o w)
fills_due c port known None w d = d
fills_due c port known (Some (Some other)) w d = d
fills_due c port known (Some None) w d = let f : Actor → Actor = λ x. record x { ports = slice_set x.ports port (Some known) } in counts_due c (change c f w) (change_due c f w refl d)

forwarded_due : (c : ℕ) (known : Known) (f : Fate) (w : World) → ArcsAreDue w → ArcsAreDue (becomes_forwarded c known f w)
forwarded_due c known (Forwarded child) w d = becomes_due c known w d
forwarded_due c known Open w d = d
forwarded_due c known (Is other) w d = d

brings_due : (known : Known) (to : Target) (w : World) → ArcsAreDue w → ArcsAreDue (brings known to w)
brings_due known (Port c port) w d = fills_due c port known (slice_get (w.actors c).ports port) w d
brings_due known (Result c) w d = forwarded_due c known (fate_at w c) w d

known_due : (o : Option Known) (to : Target) (w : World) → ArcsAreDue w → ArcsAreDue (brings_known o to w)
known_due None to w d = d
known_due (Some known) to w d = brings_due known to w d

matches_due : (place : ℕ) (o : Option Arc) (w : World) → ArcsAreDue w → ArcsAreDue (matches place o w)
matches_due place None w d = d
matches_due place (Some arc) w d =
    known_due (known_at w (Some arc.from)) arc.to (record w { due = remove w.due place }) (record { waits = d.waits; due = every_remove (λ a. knows w a.from ≡ true) w.due place d.due })

accepts_due : (o : ℤ) (a number : ℕ) (object : Option Object) (w : World) → ArcsAreDue w → ArcsAreDue (accepts_on o a number object w)
accepts_due o a number None w d = d
accepts_due o a number (Some object) w d = let y : Actor = record (w.actors a) { status = status.Ready; start = accepted_start (w.actors a) object.state number } in
    due_as w (accepts_on o a number (Some object) w) refl refl (put_knows w (accepts_on o a number (Some object) w) a y refl refl) d

-- ---- events

learns_same : (known : Option Known) (x : Actor) → is_known (learns known x).fate ≡ is_known x.fate
learns_same None x = refl
learns_same (Some known) x = refl

parks_same : (turns : ℕ) (child : Option ℕ) (x : Actor) → is_known (parks turns child x).fate ≡ is_known x.fate
parks_same turns None x = refl
parks_same turns (Some child) x = refl

-- a new actor's result is open, as it was
sends_due : (job : Job) (w : World) (a turns callee member : ℕ) (object : ℤ) (arguments : List Held) → knows w callee ≡ false → (a ≡ callee → ⊥) → ArcsAreDue w → ArcsAreDue (sends job a turns callee member object arguments w)
sends_due job w a turns callee member object arguments none differ d =
    let u = acts a (turns + 1) (calls_on job callee member) w in let y = with_call job a turns callee member object arguments w in let new = new_actor job a (w.actors a) member object arguments in
    let before : knows u callee ≡ false = put_knows w u a (spends (turns + 1) (calls_on job callee member (w.actors a))) refl refl callee ∙ none in
    counts_due callee (with_arcs (arcs_to (w.actors a).child callee 0 arguments) y) (arcs_due (arcs_to (w.actors a).child callee 0 arguments) y
    (due_as u y refl refl (put_knows u y callee new refl (sym before)) (acts_due a (turns + 1) (calls_on job callee member) w refl d)))

step_due : (job : Job) (log : Log) (e : Event) → IsLog job log → Enabled job (after job log) e → ArcsAreDue (after job log) → ArcsAreDue (step job (after job log) e)
step_due job log (Fire a) l h d = acts_due a 1 runs (after job log) refl d
step_due job log (Send a turns callee member object arguments) l h d = let w = after job log in let there : a < w.count = h.stops.stops.there in let next : callee ≡ w.count = h.next in
    let beyond = (stand job log l callee).beyond (omega (arith, next)) in let f = fated job log l callee in
    sends_due job w a turns callee member object arguments (ap is_known (f.unsettled (ap has_given (f.untold (ap is_early beyond.0))) (ap is_over beyond.0))) (λ same. absurd (omega (arith, same, there, next))) d
step_due job log (Create a turns class object) l h d = let w = after job log in let f : Actor → Actor = λ x. record (tells (Named object) x) { made = x.made + 1 } in
    due_as (acts a (turns + 1) f w) (step job w (Create a turns class object)) refl refl (λ c. refl) (acts_due a (turns + 1) f w refl d)
step_due job log (Learn a turns call) l h d = let w = after job log in let o = known_at w ((w.actors a).child call) in acts_due a turns (learns o) w (learns_same o (w.actors a)) d
step_due job log (Park a turns call) l h d = let w = after job log in let o = (w.actors a).child call in acts_due a turns (parks turns o) w (parks_same turns o (w.actors a)) d
step_due job log (Resume a) l h d = acts_due a 0 runs (after job log) refl d
step_due job log (Reply a turns value) l h d = let w = after job log in let u = acts a turns (tells Gave) w in
    gives_due a value u (put_knows w u a (spends turns (tells Gave (w.actors a))) refl refl a ∙ ap is_known (gives_open job log a turns value l h)) (acts_due a turns (tells Gave) w refl d)
step_due job log (End a turns ending state) l h d = finishes_due job a turns ending state (after job log) d
step_due job log (Beat a) l h d = acts_due a most_turns (tells Beaten) (after job log) refl d
step_due job log (Match place) l h d = let w = after job log in matches_due place (slice_get w.due place) w d
step_due job log (Arrive a) l h d = let w = after job log in due_as w (step job w (Arrive a)) refl refl (λ c. refl) d
step_due job log (Accept o a number) l h d = let w = after job log in accepts_due o a number (w.objects o) w d
step_due job log (Quit why) l h d = let w = after job log in due_as w (step job w (Quit why)) refl refl (λ c. refl) d

pub arcs_are_due : (job : Job) (log : Log) → IsLog job log → ArcsAreDue (after job log)
arcs_are_due job [] h = record { waits = tt; due = tt }
arcs_are_due job (e ∷ log) h = step_due job log e h.1 h.0.1 (arcs_are_due job log h.1)
