-- What holds of all arcs, along the parts of a step.
use Rattle.std.proofs.Common.{◌≡◌, ℕ, zero, suc, Bool, true, false, not, cond, List, [], ◌∷◌, ◌++◌, Option, Some, None, ℤ, refl, sym, subst, filter, take, drop, slice_get, slice_set, remove}
use Rattle.std.specs.List.{AllByRecursion}
use Rattle.mpl_value.specs.CallAnswers.{leftmost_trap}
use Rattle.mpl_value.specs.declared.body.BodyResult.{BodyResult}
use Rattle.mpl_value.specs.declared.body.BodyResult.TheVariants as result
use Rattle.mpl_value.specs.declared.known.Known.{Known}
use Rattle.mpl_value.specs.declared.known.Known.TheVariants.{Value, Trapped}
use Rattle.mpl_value.specs.declared.known.Trap.{Trap}
use Rattle.mdf_code.specs.Alone.{Held, Words, Pending}
use Rattle.mdf_match.specs.Ports.{missing_in}
use Rattle.mdf_core.specs.Actors.{Actor, Arc, Fate, Open, Is, Forwarded, Target, Port, Result, arguments_of, is_known, is_post}
use Rattle.mdf_core.specs.Calls.{awaits, becomes, complete, completed, counts_ports, leads_from, poisoned, ready, waiting, with_arcs}
use Rattle.mdf_core.specs.Events.{Ending}
use Rattle.mdf_core.specs.Steps.{accepts_on, becomes_forwarded, becomes_result, brings, brings_known, ends, fills_port, finishes, forwards, frees, frees_object, gives, matches, result_at_end, unless_given}
use Rattle.mdf_core.specs.Worlds.{Job, Object, World, acts, change, fate_at, known_at}

-- ---- lists

pub every_append : {A : Type 0} (P : A → Type 0) (xs ys : List A) → AllByRecursion P xs → AllByRecursion P ys → AllByRecursion P (xs ++ ys)
every_append P [] ys h k = k
every_append P (x ∷ xs) ys h k = (h.0, every_append P xs ys h.1 k)

pub every_filter : {A : Type 0} (P : A → Type 0) (test : A → Bool) (xs : List A) → AllByRecursion P xs → AllByRecursion P (filter test xs)
every_filter P test [] h = tt
every_filter P test (x ∷ xs) h = at (test x) (every_filter P test xs h.1) where
  at : (b : Bool) → AllByRecursion P (filter test xs) → AllByRecursion P (cond b (x ∷ filter test xs) (filter test xs))
  at true k = (h.0, k)
  at false k = k

every_take : {A : Type 0} (P : A → Type 0) (xs : List A) (n : ℕ) → AllByRecursion P xs → AllByRecursion P (take n xs)
every_take P [] zero h = tt
every_take P [] (suc n) h = tt
every_take P (x ∷ xs) zero h = tt
every_take P (x ∷ xs) (suc n) h = (h.0, every_take P xs n h.1)

every_drop : {A : Type 0} (P : A → Type 0) (xs : List A) (n : ℕ) → AllByRecursion P xs → AllByRecursion P (drop n xs)
every_drop P [] zero h = tt
every_drop P [] (suc n) h = tt
every_drop P (x ∷ xs) zero h = h
every_drop P (x ∷ xs) (suc n) h = every_drop P xs n h.1

pub every_remove : {A : Type 0} (P : A → Type 0) (xs : List A) (place : ℕ) → AllByRecursion P xs → AllByRecursion P (remove xs place)
every_remove P xs place h = every_append P (take place xs) (drop (suc place) xs) (every_take P xs place h) (every_drop P xs (suc place) h)

pub every_more : {A : Type 0} (P Q : A → Type 0) → ((x : A) → P x → Q x) → (xs : List A) → AllByRecursion P xs → AllByRecursion Q xs
every_more P Q f [] h = tt
every_more P Q f (x ∷ xs) h = (f x h.0, every_more P Q f xs h.1)

pub every_at : {A : Type 0} (P : A → Type 0) (xs : List A) (place : ℕ) (x : A) → AllByRecursion P xs → slice_get xs place ≡ Some x → P x
every_at P [] place x h e = absurd (cc e)
every_at P (y ∷ ys) zero x h e = subst P (same e) h.0 where
  same : Some y ≡ Some x → y ≡ x
  same s = cc s
every_at P (y ∷ ys) (suc place) x h e = every_at P ys place x h.1 e

-- ---- the parts of a step

module _ (P : Arc → Type 0) where
  -- it holds of the arcs that wait and of those that are due
  pub record Holds (w : World) : Type 0 where
    pub waits : AllByRecursion P w.waits
    pub due : AllByRecursion P w.due

  becomes_holds : (c : ℕ) (known : Known) (w : World) → Holds w → Holds (becomes c known w)
  becomes_holds c known w h = record {
    waits = every_filter P (λ arc. not (leads_from c arc)) w.waits h.waits;
    due = every_append P w.due (filter (leads_from c) w.waits) h.due (every_filter P (leads_from c) w.waits h.waits);
  }

  pub arcs_hold : (arcs : List Arc) (w : World) → AllByRecursion P arcs → Holds w → Holds (with_arcs arcs w)
  arcs_hold arcs w n h = record {
    waits = every_append P w.waits (filter (λ arc. not (is_known (fate_at w arc.from))) arcs) h.waits (every_filter P (λ arc. not (is_known (fate_at w arc.from))) arcs n);
    due = every_append P w.due (filter (λ arc. is_known (fate_at w arc.from)) arcs) h.due (every_filter P (λ arc. is_known (fate_at w arc.from)) arcs n);
  }

  pub same_hold : (w v : World) → v.waits ≡ w.waits → v.due ≡ w.due → Holds w → Holds v
  same_hold w v waits due h = record { waits = subst (AllByRecursion P) (sym waits) h.waits; due = subst (AllByRecursion P) (sym due) h.due }

  forwards_hold : (a : ℕ) (o : Option ℕ) (w : World) → ((child : ℕ) → o ≡ Some child → P (record { from = child; to = Result a })) → Holds w → Holds (forwards a o w)
  forwards_hold a None w n h = h
  forwards_hold a (Some child) w n h = let v = change a (λ x. record x { fate = Forwarded child }) w in
      arcs_hold (record { from = child; to = Result a } ∷ []) v (n child refl, tt) (same_hold w v refl refl h)

  pub gives_hold : (a : ℕ) (value : Held) (w : World) → ((call child : ℕ) → value ≡ Pending call → (w.actors a).child call ≡ Some child → P (record { from = child; to = Result a })) → Holds w → Holds (gives a value w)
  gives_hold a (Words words) w n h = becomes_holds a (Value words) w h
  gives_hold a (Pending call) w n h = forwards_hold a ((w.actors a).child call) w (λ child is. n call child refl is) h

  result_holds : (a : ℕ) (r : BodyResult) (w : World) → Holds w → Holds (becomes_result a r w)
  result_holds a result.Open w h = h
  result_holds a (result.Known known) w h = becomes_holds a known w h
  result_holds a result.Unknown w h = h

  unless_holds : (f : Fate) (w settled : World) → Holds settled → Holds w → Holds (unless_given f settled w)
  unless_holds Open w settled h k = h
  unless_holds (Is known) w settled h k = k
  unless_holds (Forwarded child) w settled h k = k

  frees_object_holds : (o : ℤ) (state : List ℤ) (object : Option Object) (w : World) → Holds w → Holds (frees_object o state object w)
  frees_object_holds o state None w h = h
  frees_object_holds o state (Some object) w h = same_hold w (frees_object o state (Some object) w) refl refl h

  frees_holds : (x : Actor) (state : List ℤ) (w : World) → Holds w → Holds (frees x state w)
  frees_holds x state w h = at (is_post x.call) where
    at : (b : Bool) → Holds (cond b (frees_object x.call.object state (w.objects x.call.object) w) w)
    at true = frees_object_holds x.call.object state (w.objects x.call.object) w h
    at false = h

  pub acts_hold : (a t : ℕ) (f : Actor → Actor) (w : World) → Holds w → Holds (acts a t f w)
  acts_hold a t f w h = same_hold w (acts a t f w) refl refl h

  pub finishes_hold : (job : Job) (a t : ℕ) (ending : Ending) (state : List ℤ) (w : World) → Holds w → Holds (finishes job a t ending state w)
  finishes_hold job a t ending state w h =
      let v = acts a t (ends t) w in let freed = frees (w.actors a) state v in let r = result_at_end job (w.actors a) ending in let k = frees_holds (w.actors a) state v (acts_hold a t (ends t) w h) in
      unless_holds (w.actors a).fate freed (becomes_result a r freed) (result_holds a r freed k) k

  change_holds : (c : ℕ) (f : Actor → Actor) (w : World) → Holds w → Holds (change c f w)
  change_holds c f w h = same_hold w (change c f w) refl refl h

  completed_holds : (c : ℕ) (x : Actor) (t : Option Trap) (w : World) → Holds w → Holds (completed c x t w)
  completed_holds c x (Some trap) w h = becomes_holds c (Trapped trap) (change c poisoned w) (change_holds c poisoned w h)
  completed_holds c x None w h = at (is_post x.call) where
    at : (b : Bool) → Holds (change c (cond b complete ready) w)
    at true = change_holds c complete w h
    at false = change_holds c ready w h

  awaits_hold : (c : ℕ) (x : Actor) (n : ℕ) (w : World) → Holds w → Holds (awaits c x n w)
  awaits_hold c x zero w h = completed_holds c x (leftmost_trap (arguments_of x.ports)) w h
  awaits_hold c x (suc n) w h = change_holds c (waiting (suc n)) w h

  pub counts_hold : (c : ℕ) (w : World) → Holds w → Holds (counts_ports c w)
  counts_hold c w h = awaits_hold c (w.actors c) (missing_in (w.actors c).ports) w h

  fills_hold : (c port : ℕ) (known : Known) (o : Option (Option Known)) (w : World) → Holds w → Holds (fills_port c port known o w)
  fills_hold c port known None w h = h
  fills_hold c port known (Some (Some other)) w h = h
  fills_hold c port known (Some None) w h = let f : Actor → Actor = λ x. record x { ports = slice_set x.ports port (Some known) } in counts_hold c (change c f w) (change_holds c f w h)

  forwarded_holds : (c : ℕ) (known : Known) (f : Fate) (w : World) → Holds w → Holds (becomes_forwarded c known f w)
  forwarded_holds c known (Forwarded child) w h = becomes_holds c known w h
  forwarded_holds c known Open w h = h
  forwarded_holds c known (Is other) w h = h

  brings_hold : (known : Known) (to : Target) (w : World) → Holds w → Holds (brings known to w)
  brings_hold known (Port c port) w h = fills_hold c port known (slice_get (w.actors c).ports port) w h
  brings_hold known (Result c) w h = forwarded_holds c known (fate_at w c) w h

  known_holds : (o : Option Known) (to : Target) (w : World) → Holds w → Holds (brings_known o to w)
  known_holds None to w h = h
  known_holds (Some known) to w h = brings_hold known to w h

  pub matches_hold : (place : ℕ) (o : Option Arc) (w : World) → Holds w → Holds (matches place o w)
  matches_hold place None w h = h
  matches_hold place (Some arc) w h = known_holds (known_at w (Some arc.from)) arc.to (record w { due = remove w.due place }) (record { waits = h.waits; due = every_remove P w.due place h.due })

  pub accepts_hold : (o : ℤ) (a number : ℕ) (object : Option Object) (w : World) → Holds w → Holds (accepts_on o a number object w)
  accepts_hold o a number None w h = h
  accepts_hold o a number (Some object) w h = same_hold w (accepts_on o a number (Some object) w) refl refl h
