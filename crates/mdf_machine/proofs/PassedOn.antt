-- A frame gives the result of one of its calls.
use Rattle.std.proofs.Common.{◌≡◌, ◌<◌, ◌+◌, ◌++◌, ◌⊎◌, ℕ, List, ◌∷◌, [], map, filter, not, cond, Some, Bool, true, false, refl, sym, ap, ap₂, ◌∙◌, subst, arith, inl, inr}
use Rattle.std.specs.Prelude.{IsTrue, is_some}
use Rattle.std.specs.FinMap.{insert}
use Rattle.std.specs.Option.{option_map_or}
use Rattle.std.proofs.lemmas.List.{append-nil, map-append}
use Rattle.std.proofs.lemmas.List.Elements.{filter-append}
use Rattle.mdf_actor.specs.declared.status.ActorStatus.{ActorStatus}
use Rattle.mdf_actor.specs.declared.status.ActorStatus.TheVariants as status
use Rattle.mdf_code.specs.Alone.{Pending}
use Rattle.mdf_code.specs.Frames.{Replies}
use Rattle.mdf_code.specs.Told.{Gave, Stands}
use Rattle.mdf_core.specs.declared.status.MachineStatus.TheVariants.{Going}
use Rattle.mdf_core.specs.Actors.{Actor, Arc, Fate, Open, Is, Forwarded, Result, is_known, known_of}
use Rattle.mdf_core.specs.Calls.{leads_from}
use Rattle.mdf_core.specs.Enabled.{Stops}
use Rattle.mdf_core.specs.Events.{Reply}
use Rattle.mdf_core.specs.Steps.{Log, after, forwards, tells}
use Rattle.mdf_core.specs.Worlds.{Job, World, acts, change, fate_at, known_at, spends}
use Rattle.mdf_core.proofs.Fates.{gives_open}
use Rattle.mdf_core.proofs.Lists.{nat_differ, nat_same, put_here, put_there, same_or}
use Rattle.mdf_drive.specs.DriveOrder.{goes_on}
use Rattle.mdf_drive.specs.Handing.{HandsOut, IsOfCall}
use Rattle.mdf_drive.proofs.HandedOut.{hands_out_little}
use Rattle.mdf_future.specs.declared.consumer.Consumer.{Consumer}
use Rattle.mdf_future.specs.declared.consumer.Consumer.TheVariants as consumer
use Rattle.mdf_future.specs.declared.consumer.Due.{Due}
use Rattle.mdf_future.specs.declared.future.Future.{Future}
use Rattle.mdf_future.specs.declared.future.Give.TheVariants as give
use Rattle.mdf_future.specs.Results.{ResultTable, consumers_of, waited, waited_at}
use Rattle.mdf_future.specs.Results as results
use Rattle.mdf_machine.specs.declared.parts.Parts.{Parts}
use Rattle.mdf_machine.specs.Internal.Forwarding.{passed_on}
use Rattle.mdf_machine.specs.Internal.Held.{Holds, Kept, MarkIs, PortsAre, ResultIs, RowOf, consumer_of, consumers_in, due_of, kept_fate}
use Rattle.mdf_machine.specs.Internal.Tables.{Keyed}
use Rattle.mdf_machine.proofs.Acting.{ports_one}
use Rattle.mdf_machine.proofs.Changed.{each_as}
use Rattle.mdf_machine.proofs.Keeping.{kept_then, runs_on_holds}
use Rattle.mdf_machine.proofs.Keyed.{keyed_as, keyed_put}
use Rattle.mdf_machine.proofs.KnownResults.{frame_fate, main_with_fate, status_same, with_fate}
use Rattle.mdf_machine.proofs.One.{One, each_one}
use Rattle.mdf_machine.proofs.Seen.{result_there}

-- ---- one arc more

abbrev pub passes_on : ℕ → ℕ → Arc
passes_on child a = record { from = child; to = Result a }

more_consumers : (waits more : List Arc) (q : ℕ) → consumers_in (waits ++ more) q ≡ consumers_in waits q ++ consumers_in more q
more_consumers waits more q =
    ap (map (λ (x : Arc). consumer_of x.to)) (filter-append (leads_from q) waits more)
    ∙ map-append (λ (x : Arc). consumer_of x.to) (filter (leads_from q) waits) (filter (leads_from q) more)

waits_there : (child a q : ℕ) (waits : List Arc) → (child ≡ q → ⊥) → consumers_in (waits ++ passes_on child a ∷ []) q ≡ consumers_in waits q
waits_there child a q waits differ = more_consumers waits (passes_on child a ∷ []) q
    ∙ ap (λ (b : Bool). consumers_in waits q ++ map (λ (x : Arc). consumer_of x.to) (cond b (passes_on child a ∷ []) [])) (nat_differ child q differ) ∙ append-nil (consumers_in waits q)

waits_here : (child a : ℕ) (waits : List Arc) → consumers_in (waits ++ passes_on child a ∷ []) child ≡ consumers_in waits child ++ consumer.Result a ∷ []
waits_here child a waits = more_consumers waits (passes_on child a ∷ []) child
    ∙ ap (λ (b : Bool). consumers_in waits child ++ map (λ (x : Arc). consumer_of x.to) (cond b (passes_on child a ∷ []) [])) (nat_same child)

known_kept : (f : Fate) → results.is_known (kept_fate f) ≡ is_known f
known_kept Open = refl
known_kept (Is known) = refl
known_kept (Forwarded child) = refl

-- ---- the results then

-- what waits, where the fates are those of a world
abbrev pub WaitsAs : World → List Arc → ℕ → Future → Type 0
WaitsAs w waits k future = future ≡ record { fate = kept_fate (fate_at w k); consumers = consumers_in waits k }

record Waiting (w : World) (waits tokens : List Arc) (t : ResultTable) : Type 0 where
  results : Keyed (WaitsAs w waits) w.count t.results
  due : t.due ≡ map due_of tokens

module _ (job : Job) (w : World) (p : Parts) (a child : ℕ) (h : Holds job w p) (there : child < w.count) where
  before : Future
  before = record { fate = kept_fate (fate_at w child); consumers = consumers_in w.waits child }

  waits_at : (b : Bool) → is_known (fate_at w child) ≡ b →
      Waiting w (w.waits ++ cond (not b) (passes_on child a ∷ []) []) (w.due ++ cond b (passes_on child a ∷ []) []) (waited p.results child (consumer.Result a))
  waits_at true e = subst (λ t. Waiting w (w.waits ++ []) (w.due ++ passes_on child a ∷ []) t)
      (sym (ap (waited_at p.results child (consumer.Result a)) (result_there job w p h child there)
      ∙ ap (λ (b : Bool). cond b (record p.results { due = p.results.due ++ record { consumer = consumer.Result a; from = child } ∷ [] })
      (record p.results { results = insert p.results.results child (record { fate = kept_fate (fate_at w child); consumers = consumers_in w.waits child ++ consumer.Result a ∷ [] }) })) (known_kept (fate_at w child) ∙ e)))
      (record {
        results = subst (λ waits. Keyed (WaitsAs w waits) w.count p.results.results) (sym (append-nil w.waits)) h.results;
        due = ap (λ (ds : List Due). ds ++ record { consumer = consumer.Result a; from = child } ∷ []) h.due ∙ sym (map-append due_of w.due (passes_on child a ∷ []));
      })
  waits_at false e = subst (λ t. Waiting w (w.waits ++ passes_on child a ∷ []) (w.due ++ []) t)
      (sym (ap (waited_at p.results child (consumer.Result a)) (result_there job w p h child there)
      ∙ ap (λ (b : Bool). cond b (record p.results { due = p.results.due ++ record { consumer = consumer.Result a; from = child } ∷ [] })
      (record p.results { results = insert p.results.results child (record { fate = kept_fate (fate_at w child); consumers = consumers_in w.waits child ++ consumer.Result a ∷ [] }) })) (known_kept (fate_at w child) ∙ e)))
      (record {
        results = keyed_put (ResultIs w) (WaitsAs w (w.waits ++ passes_on child a ∷ [])) w.count w.count child _ p.results.results h.results refl there
            (ap (λ (cs : List Consumer). record { fate = kept_fate (fate_at w child); consumers = cs }) (sym (waits_here child a w.waits)))
            (λ k (future : Future) below differ is. is ∙ ap (λ (cs : List Consumer). record { fate = kept_fate (fate_at w k); consumers = cs }) (sym (waits_there child a k w.waits (λ e. differ (sym e)))));
        due = h.due ∙ ap (map due_of) (sym (append-nil w.due));
      })

-- ---- who goes on

goes_known : (w v : World) → ((k : ℕ) → known_at v (Some k) ≡ known_at w (Some k)) → (s : ActorStatus) → goes_on v s ≡ goes_on w s
goes_known w v same (status.Waiting missing) = refl
goes_known w v same status.Ready = refl
goes_known w v same status.Running = refl
goes_known w v same (status.Parked child) = ap is_some (same child)
goes_known w v same status.Ended = refl
goes_known w v same status.Poisoned = refl

-- ---- the event

module _ (job : Job) (w : World) (p : Parts) (a child : ℕ) (h : Holds job w p) (there : a < w.count) (child_there : child < w.count) (differ : child ≡ a → ⊥) (opened : fate_at w a ≡ Open) where
  abbrev v : World
  v = forwards a (Some child) w

  y : Actor
  y = with_fate (Forwarded child) (w.actors a)

  one : One a (with_fate (Forwarded child) (w.actors a)) w (forwards a (Some child) w)
  one = record { here = put_here a (with_fate (Forwarded child) (w.actors a)) w.actors; others = λ k differ. put_there a k (with_fate (Forwarded child) (w.actors a)) w.actors differ }

  fate_here : fate_at (forwards a (Some child) w) a ≡ Forwarded child
  fate_here = ap (λ (x : Actor). x.fate) one.here

  fate_there : (k : ℕ) → (k ≡ a → ⊥) → fate_at (forwards a (Some child) w) k ≡ fate_at w k
  fate_there k differ = ap (λ (x : Actor). x.fate) (one.others k differ)

  known_same : (k : ℕ) → known_at (forwards a (Some child) w) (Some k) ≡ known_at w (Some k)
  known_same k = at (same_or k a) where
    at : (k ≡ a) ⊎ (k ≡ a → ⊥) → known_at (forwards a (Some child) w) (Some k) ≡ known_at w (Some k)
    at (inl is) = ap (λ j. known_at v (Some j)) is ∙ ap known_of fate_here ∙ sym (ap known_of opened) ∙ ap (λ j. known_at w (Some j)) (sym is)
    at (inr differ) = ap known_of (fate_there k differ)

  -- whether the result is known
  abbrev b : Bool
  b = is_known (fate_at (change a (λ x. record x { fate = Forwarded child }) w) child)

  waiting : Waiting w (w.waits ++ cond (not b) (passes_on child a ∷ []) []) (w.due ++ cond b (passes_on child a ∷ []) []) (waited p.results child (consumer.Result a))
  waiting = waits_at job w p a child h child_there b (ap is_known (sym (fate_there child differ)))

  mine : consumers_of (waited p.results child (consumer.Result a)) a ≡ consumers_in (forwards a (Some child) w).waits a
  mine = let e = waiting.results.at a there in ap (λ o. option_map_or (λ (f : Future). f.consumers) o []) e.1 ∙ ap (λ (f : Future). f.consumers) e.2

  pub forwards_holds : Holds job (forwards a (Some child) w) (record p { results = passed_on p.results a child })
  forwards_holds = record {
    statuses = each_one (λ x s. s ≡ x.status) a (with_fate (Forwarded child) (w.actors a)) w v w.count w.count p.statuses one h.statuses refl (λ s e. e);
    rows = each_one (RowOf job) a (with_fate (Forwarded child) (w.actors a)) w v w.count w.count p.rows one h.rows refl
        (λ row r. record { caller = r.caller; member = r.member; ports = r.ports; children = r.children; frame = frame_fate job (w.actors a) (Forwarded child) (w.actors a).status row.frame r.frame });
    ports = keyed_as (PortsAre w) (PortsAre v) w.count w.count p.ports h.ports refl (λ k row below is. is ∙ sym (ports_one a (with_fate (Forwarded child) (w.actors a)) w v one refl k));
    results = keyed_put (WaitsAs w v.waits) (ResultIs v) w.count w.count a _ (waited p.results child (consumer.Result a)).results waiting.results refl there
        (ap₂ (λ (fate : Fate) cs. record { fate = kept_fate fate; consumers = cs }) (sym fate_here) mine)
        (λ k (future : Future) below differ is. is ∙ ap (λ (fate : Fate). record { fate = kept_fate fate; consumers = consumers_in v.waits k }) (sym (fate_there k differ)));
    due = waiting.due;
    going = each_as (MarkIs w) (MarkIs v) w.count w.count p.going h.going refl
        (λ k mark below is. is ∙ sym (goes_known w v known_same (w.actors k).status) ∙ ap (goes_on v) (sym (status_same w v a (Forwarded child) one k)));
    turns = h.turns;
    why = h.why;
    main = main_with_fate job w v a (Forwarded child) p.lines p.main_end one h.main;
    few = h.few;
  }

-- ---- what the code asks for

pub gives_call : (job : Job) (log : Log) (p : Parts) → Kept job log p → (a turns call : ℕ) → Stops job (after job log) a turns (Stands (Replies (Pending call))) → IsOfCall (after job log) a call
gives_call job log p k a turns call stops = subst (HandsOut (after job log) a) stops.is (hands_out_little job log k.image k.is_log a turns stops.stood stops.stops)

pub may_forward : (job : Job) (w : World) (p : Parts) → Holds job w p → (c child : ℕ) → c < w.count → fate_at w c ≡ Open → IsTrue (results.may_give p.results c (give.Result child))
may_forward job w p h c child there opened = ap (λ o. option_map_or (λ (f : Future). results.may_become f.fate (give.Result child)) o false) (result_there job w p h c there)
    ∙ ap (λ (fate : Fate). results.may_become (kept_fate fate) (give.Result child)) opened

module _ (job : Job) (log : Log) (p : Parts) (a t call child : ℕ) (k : Kept job log p) (stops : Stops job (after job log) a t (Stands (Replies (Pending call)))) (found : ((after job log).actors a).child call ≡ Some child) where
  told : World
  told = acts a t (tells Gave) (after job log)

  here : (acts a t (tells Gave) (after job log)).actors a ≡ spends t (tells Gave ((after job log).actors a))
  here = put_here a (spends t (tells Gave ((after job log).actors a))) (after job log).actors

  of_call : IsOfCall (after job log) a call
  of_call = gives_call job log p k a t call stops

  same : of_call.child ≡ child
  same = cc (sym of_call.is ∙ found)

  pub forwarded_kept : (now : Log) (turns : ℕ) → now ≡ Reply a t (Pending call) ∷ log → (after job log).why ≡ Going → turns ≡ p.turns + t → Kept job now (record p { turns = turns; results = passed_on p.results a child })
  forwarded_kept now turns is going turned = subst (λ l. Kept job l (record p { turns = turns; results = passed_on p.results a child })) (sym is)
      (kept_then job log (Reply a t (Pending call)) p (record p { turns = turns; results = passed_on p.results a child }) k going stops
      (subst (λ o. Holds job (forwards a o (acts a t (tells Gave) (after job log))) (record p { turns = turns; results = passed_on p.results a child })) (sym (ap (λ (x : Actor). x.child call) here ∙ found))
      (forwards_holds job (acts a t (tells Gave) (after job log)) (record p { turns = turns }) a child
      (runs_on_holds job (after job log) p a t (tells Gave) k.holds stops.stops.running stops.stops.running (record { call = refl; ports = refl; child = λ n. refl; fate = refl }) turns turned)
      stops.stops.there (subst (λ c. c < (after job log).count) same of_call.there) (λ e. absurd (omega (arith, of_call.newer, same, e)))
      (ap (λ (x : Actor). x.fate) here ∙ gives_open job log a t (Pending call) k.is_log stops)))
      (omega arith))
