-- A call is made: what the parts hold then.
use Rattle.std.proofs.Common.{◌≡◌, ◌<◌, ◌≤◌, ◌+◌, ◌++◌, ◌⊎◌, ℕ, ℤ, zero, suc, Bool, true, false, cond, nat_lt, ltb-true, ltb-false, List, [], ◌∷◌, length, map, filter, Option, Some, None, refl, sym, ap, ap₂, ◌∙◌, subst, arith, inl, inr, slice_get}
use Rattle.std.specs.Prelude.{is_some, IsSome}
use Rattle.std.specs.List.{AllByRecursion}
use Rattle.std.specs.Option.{option_map, option_map_or}
use Rattle.std.specs.FinMap.{get, insert}
use Rattle.std.proofs.lemmas.List.{map-append, length-map}
use Rattle.mpl_value.specs.CallAnswers.{leftmost_trap}
use Rattle.mdf_actor.specs.declared.status.ActorStatus.{ActorStatus}
use Rattle.mdf_actor.specs.declared.status.ActorStatus.TheVariants as status
use Rattle.mdf_code.specs.Alone.{Held, Words, Pending}
use Rattle.mdf_code.specs.Told.{calls_made}
use Rattle.mdf_core.specs.declared.status.MachineStatus.TheVariants.{Going}
use Rattle.mdf_core.specs.Actors.{Actor, Arc, Fate, Target, Port, Result, arguments_of, is_known, is_post, known_of, no_child}
use Rattle.mdf_core.specs.Arguments.{Leads, LeadsTo}
use Rattle.mdf_core.specs.Calls.{arcs_to, calls_on, leads_from, new_actor, port_of, with_arcs}
use Rattle.mdf_core.specs.Enabled.{IsLog, MaySend}
use Rattle.mdf_core.specs.Events.{Event, Send}
use Rattle.mdf_core.specs.Steps.{Log, after, sends, with_actor}
use Rattle.mdf_core.specs.Worlds.{Job, World, acts, change, fate_at, put, spends}
use Rattle.mdf_core.proofs.Lists.{by_bool, nat_differ, put_here, put_there, same_or}
use Rattle.mdf_core.proofs.Transitions.{sends_sent}
use Rattle.mdf_core.proofs.TreeOfActors.{tree}
use Rattle.mdf_core.proofs.Wired.{arcs_lead, new_call_is}
use Rattle.mdf_drive.specs.DriveOrder.{goes_on}
use Rattle.mdf_drive.proofs.DriveOrders.{plain_calls}
use Rattle.mdf_future.specs.declared.consumer.Consumer.{Consumer}
use Rattle.mdf_future.specs.declared.future.Fate.TheVariants as fate
use Rattle.mdf_future.specs.declared.future.Future.{Future}
use Rattle.mdf_future.specs.Openings.{HasOpened, HaveResults, Passed, is_known_at, joined, opened_with, ports_due, ports_for}
use Rattle.mdf_future.specs.Openings as openings
use Rattle.mdf_future.specs.Results as results
use Rattle.mdf_future.proofs.Opened.{has_opened}
use Rattle.mdf_match.specs.Ports.{missing_in}
use Rattle.mdf_machine.specs.declared.making.NewCall.{NewCall}
use Rattle.mdf_machine.specs.declared.parts.Parts.{Parts}
use Rattle.mdf_machine.specs.declared.rows.Row.{Row}
use Rattle.mdf_machine.specs.Internal.Children.{child_in}
use Rattle.mdf_machine.specs.Internal.Held.{HasFrame, Holds, Kept, MainIs, MarkIs, PortsAre, ResultIs, RowIs, RowOf, StatusIs, consumer_of, consumers_in, due_of, kept_fate}
use Rattle.mdf_machine.specs.Internal.Rows.{changed, with_child}
use Rattle.mdf_machine.specs.Internal.Sending.{mark_by, row_by, status_by, with_call}
use Rattle.mdf_machine.specs.Internal.Tables.{Keyed}
use Rattle.mdf_machine.proofs.Adding.{get_last, get_others, get_past}
use Rattle.mdf_machine.proofs.Changed.{each_changed, each_push, has_item}
use Rattle.mdf_machine.proofs.Keeping.{kept_then}
use Rattle.mdf_machine.proofs.Keyed.{keyed_add}
use Rattle.mdf_machine.proofs.Seen.{child_there, parked_child, result_some, result_there}
use Rattle.mdf_machine.proofs.SentArcs.{counted_by, counts_plainly, due_after_call, known_arcs, known_kept, more_consumers, no_trap, passed_of, result_after_call, unknown_arcs, waits_for_ports}

-- ---- the new actor

-- what counting its ports leaves
counted_status : (m : ℕ) (x : Actor) → status_by m ≡ (counted_by m x).status
counted_status zero x = refl
counted_status (suc m) x = refl

counted_ports : (m : ℕ) (x : Actor) → (counted_by m x).ports ≡ x.ports
counted_ports zero x = refl
counted_ports (suc m) x = refl

counted_fate : (m : ℕ) (x : Actor) → (counted_by m x).fate ≡ x.fate
counted_fate zero x = refl
counted_fate (suc m) x = refl

counted_mark : (w : World) (m : ℕ) (x : Actor) → mark_by m ≡ goes_on w (counted_by m x).status
counted_mark w zero x = refl
counted_mark w (suc m) x = refl

no_call : (call : ℕ) → child_in [] call ≡ no_child call
no_call zero = refl
no_call (suc place) = refl

counted_row : (job : Job) (m : ℕ) (x : Actor) (row : Row) → row.caller ≡ x.call.caller → row.member ≡ x.call.member → row.ports ≡ length x.ports → row.children ≡ [] → ((n : ℕ) → x.child n ≡ None) → RowOf job (counted_by m x) row
counted_row job zero x row caller member ports children none = record { caller = caller; member = member; ports = ports; children = λ n. ap (λ cs. child_in cs n) children ∙ no_call n ∙ sym (none n); frame = tt }
counted_row job (suc m) x row caller member ports children none = record { caller = caller; member = member; ports = ports; children = λ n. ap (λ cs. child_in cs n) children ∙ no_call n ∙ sym (none n); frame = tt }

-- ---- one more call of the caller

not_above : (m n : ℕ) → (m < n → ⊥) → n ≤ m
not_above m n never = by_bool (nat_lt m n) (λ e. absurd (never (ltb-true m n e))) (λ e. ltb-false m n e)

as_many_children : (job : Job) (log : Log) → IsLog job log → (a : ℕ) → a < (after job log).count → (children : List ℕ) → ((n : ℕ) → child_in children n ≡ ((after job log).actors a).child n) → length children ≡ calls_made ((after job log).actors a).told
as_many_children job log is a there children same =
    omega (arith, not_above (calls_made ((after job log).actors a).told) (length children) more, not_above (length children) (calls_made ((after job log).actors a).told) less) where
      more : calls_made ((after job log).actors a).told < length children → ⊥
      more below = let i = has_item children (calls_made ((after job log).actors a).told) below in
          let k = (tree job log is).children a (suc (calls_made ((after job log).actors a).told)) i.0 (sym (same (suc (calls_made ((after job log).actors a).told))) ∙ i.1) in omega (arith, k.made)

      less : length children < calls_made ((after job log).actors a).told → ⊥
      less below = let i = (tree job log is).calls a (suc (length children)) there (omega arith) (omega (arith, below)) in
          cc (sym i.1 ∙ sym (same (suc (length children))) ∙ get_past children (length children) (omega arith))

more_children : (children : List ℕ) (callee n : ℕ) (child : ℕ → Option ℕ) (made : ℕ) → length children ≡ made → ((k : ℕ) → child_in children k ≡ child k) → child_in (children ++ callee ∷ []) n ≡ put (made + 1) (Some callee) child n
more_children children callee zero child made many same = same 0 ∙ sym (put_there (made + 1) 0 (Some callee) child (λ e. absurd (omega (arith, e))))
more_children children callee (suc place) child made many same = at (same_or place (length children)) where
  at : (place ≡ length children) ⊎ (place ≡ length children → ⊥) → slice_get (children ++ callee ∷ []) place ≡ put (made + 1) (Some callee) child (suc place)
  at (inl is) = ap (slice_get (children ++ callee ∷ [])) is ∙ get_last children callee ∙ sym (ap (put (made + 1) (Some callee) child) (omega (arith, is, many)) ∙ put_here (made + 1) (Some callee) child)
  at (inr differ) = get_others children callee place differ ∙ same (suc place) ∙ sym (put_there (made + 1) (suc place) (Some callee) child (λ e. differ (omega (arith, e, many))))

-- ---- arcs

none_from : (n : ℕ) (arcs : List Arc) → AllByRecursion (λ (arc : Arc). arc.from < n) arcs → consumers_in arcs n ≡ []
none_from n [] h = refl
none_from n (arc ∷ arcs) h =
    ap (λ b. map (λ (x : Arc). consumer_of x.to) (cond b (arc ∷ filter (leads_from n) arcs) (filter (leads_from n) arcs))) (nat_differ arc.from n (λ e. absurd (omega (arith, e, h.0)))) ∙ none_from n arcs h.1

lead_from : (job : Job) (log : Log) → IsLog job log → (from : ℕ) (to : Target) → LeadsTo (after job log) from to → from < (after job log).count
lead_from job log is from (Port c port) h = (child_there job log is ((after job log).actors c).call.caller h.call from h.is).there
lead_from job log is from (Result a) h = (child_there job log is a h.call from h.is).there

all_from : (job : Job) (log : Log) → IsLog job log → (arcs : List Arc) → AllByRecursion (Leads (after job log)) arcs → AllByRecursion (λ (arc : Arc). arc.from < (after job log).count) arcs
all_from job log is [] h = tt
all_from job log is (arc ∷ arcs) h = (lead_from job log is arc.from arc.to h.0, all_from job log is arcs h.1)

no_ports : (child : ℕ → Option ℕ) (n port : ℕ) (arguments : List Held) → ((call on : ℕ) → child call ≡ Some on → on < n) → ports_for n n port (passed_of child arguments) ≡ []
no_ports child n port [] older = refl
no_ports child n port (Words words ∷ others) older = no_ports child n (port + 1) others older
no_ports child n port (Pending call ∷ others) older = by_child (child call) refl (no_ports child n (port + 1) others older) where
  by_child : (o : Option ℕ) → child call ≡ o → ports_for n n (port + 1) (passed_of child others) ≡ [] → ports_for n n port (child call ∷ passed_of child others) ≡ []
  by_child None is rest = ap (λ o. ports_for n n port (o ∷ passed_of child others)) is ∙ rest
  by_child (Some on) is rest = ap (λ o. ports_for n n port (o ∷ passed_of child others)) is
      ∙ ap (λ b. cond b (openings.port_of n port ∷ ports_for n n (port + 1) (passed_of child others)) (ports_for n n (port + 1) (passed_of child others))) (nat_differ on n (λ e. absurd (omega (arith, e, older call on is)))) ∙ rest

none_either : (b : Bool) → ◌≡◌ {A = List Consumer} (cond b [] []) []
none_either true = refl
none_either false = refl

pub have_results : (t : results.ResultTable) (child : ℕ → Option ℕ) (arguments : List Held) → ((call on : ℕ) → child call ≡ Some on → IsSome (get t.results on)) → HaveResults t (passed_of child arguments)
have_results t child [] there = tt
have_results t child (Words words ∷ others) there = have_results t child others there
have_results t child (Pending call ∷ others) there = by_child (child call) refl (have_results t child others there) where
  by_child : (o : Option ℕ) → child call ≡ o → HaveResults t (passed_of child others) → HaveResults t (child call ∷ passed_of child others)
  by_child None is rest = subst (λ o. HaveResults t (o ∷ passed_of child others)) (sym is) rest
  by_child (Some on) is rest = subst (λ o. HaveResults t (o ∷ passed_of child others)) (sym is) (there call on is, rest)

-- ---- the world

abbrev pub with_new : Job → World → ℕ → ℕ → ℕ → ℤ → List Held → World
with_new job w a t member object arguments = with_actor w.count (new_actor job a (w.actors a) member object arguments) (acts a (t + 1) (calls_on job w.count member) w)

abbrev pub sent_world : Job → World → ℕ → ℕ → ℕ → ℤ → List Held → World
sent_world job w a t member object arguments =
    change w.count (counted_by (missing_in (map port_of arguments))) (with_arcs (arcs_to (w.actors a).child w.count 0 arguments) (with_new job w a t member object arguments))

pub sends_so : (job : Job) (w : World) (a t member : ℕ) (object : ℤ) (arguments : List Held) → is_post (new_actor job a (w.actors a) member object arguments).call ≡ false
    → sends job a t w.count member object arguments w ≡ sent_world job w a t member object arguments
sends_so job w a t member object arguments plain =
    let new = put_here w.count (new_actor job a (w.actors a) member object arguments) (put a (spends (t + 1) (calls_on job w.count member (w.actors a))) w.actors) in
    let v = with_arcs (arcs_to (w.actors a).child w.count 0 arguments) (with_new job w a t member object arguments) in
    counts_plainly w.count v (ap (λ (x : Actor). is_post x.call) new ∙ plain) (ap (λ (x : Actor). leftmost_trap (arguments_of x.ports)) new ∙ no_trap arguments)
    ∙ ap (λ (x : Actor). change w.count (counted_by (missing_in x.ports)) v) new

-- what is kept then
abbrev pub call_made : World → ℕ → ℕ → List Held → NewCall
call_made w a member arguments = record { caller = a; callee = w.count; member = record { 0 = member }; ports = length arguments; missing = missing_in (map port_of arguments) }

abbrev pub with_sent : Parts → NewCall → Passed → List Held → ℕ → Parts
with_sent p call passed arguments turns = record (with_call p call passed) { ports = insert p.ports call.callee (map port_of arguments); turns = turns }

module _ (job : Job) (log : Log) (p : Parts) (a t member : ℕ) (object : ℤ) (arguments : List Held) (k : Kept job log p) (there : a < (after job log).count) (running : ((after job log).actors a).status ≡ status.Running) where
  abbrev w : World
  w = after job log

  abbrev n : ℕ
  n = (after job log).count

  abbrev x : Actor
  x = new_actor job a ((after job log).actors a) member object arguments

  abbrev y : Actor
  y = spends (t + 1) (calls_on job (after job log).count member ((after job log).actors a))

  abbrev m : ℕ
  m = missing_in (map port_of arguments)

  abbrev u : World
  u = with_new job (after job log) a t member object arguments

  abbrev v : World
  v = sent_world job (after job log) a t member object arguments

  abbrev passed : Passed
  passed = passed_of ((after job log).actors a).child arguments

  new_mid : u.actors n ≡ x
  new_mid = put_here n x (put a y w.actors)

  new : v.actors n ≡ counted_by m x
  new = put_here n (counted_by m (u.actors n)) u.actors ∙ ap (counted_by m) new_mid

  as_mid : (j : ℕ) → (j ≡ n → ⊥) → v.actors j ≡ u.actors j
  as_mid j differ = put_there n j (counted_by m (u.actors n)) u.actors differ

  mid : (j : ℕ) → (j ≡ n → ⊥) → u.actors j ≡ put a y w.actors j
  mid j differ = put_there n j x (put a y w.actors) differ

  here_mid : u.actors a ≡ y
  here_mid = mid a (λ e. absurd (omega (arith, e, there))) ∙ put_here a y w.actors

  here : v.actors a ≡ y
  here = as_mid a (λ e. absurd (omega (arith, e, there))) ∙ here_mid

  others_mid : (j : ℕ) → (j ≡ a → ⊥) → (j ≡ n → ⊥) → u.actors j ≡ w.actors j
  others_mid j other differ = mid j differ ∙ put_there a j y w.actors other

  others : (j : ℕ) → (j ≡ a → ⊥) → (j ≡ n → ⊥) → v.actors j ≡ w.actors j
  others j other differ = as_mid j differ ∙ others_mid j other differ

  -- what the call leaves of the caller stays
  kept_mid : {A : Type 0} (g : Actor → A) → g y ≡ g (w.actors a) → (j : ℕ) → (j ≡ n → ⊥) → g (u.actors j) ≡ g (w.actors j)
  kept_mid g same j differ = at (same_or j a) where
    at : (j ≡ a) ⊎ (j ≡ a → ⊥) → g (u.actors j) ≡ g (w.actors j)
    at (inl is) = ap (λ i. g (u.actors i)) is ∙ ap g here_mid ∙ same ∙ ap (λ i. g (w.actors i)) (sym is)
    at (inr other) = ap g (others_mid j other differ)

  kept : {A : Type 0} (g : Actor → A) → g y ≡ g (w.actors a) → (j : ℕ) → (j ≡ n → ⊥) → g (v.actors j) ≡ g (w.actors j)
  kept g same j differ = ap g (as_mid j differ) ∙ kept_mid g same j differ

  older : (call on : ℕ) → (w.actors a).child call ≡ Some on → on < n
  older call on found = (child_there job log k.is_log a call on found).there

  known_same : (call on : ℕ) → (w.actors a).child call ≡ Some on → is_known_at p.results on ≡ is_known (fate_at u on)
  known_same call on found = ap (λ o. option_map_or (λ (f : Future). results.is_known f.fate) o false) (result_there job w p k.holds on (older call on found))
      ∙ known_kept (fate_at w on) ∙ ap is_known (sym (kept_mid (λ (z : Actor). z.fate) refl on (λ e. absurd (omega (arith, e, older call on found)))))

  no_waits : consumers_in v.waits n ≡ []
  no_waits = more_consumers w.waits (unknown_arcs (λ from. is_known (fate_at u from)) (arcs_to (w.actors a).child n 0 arguments)) n
      ∙ ap₂ (λ cs ds. cs ++ ds) (none_from n w.waits (all_from job log k.is_log w.waits (arcs_lead job log k.is_log).waits))
      (waits_for_ports (λ from. is_known (fate_at u from)) (w.actors a).child n n 0 arguments ∙ ap (λ cs. cond (is_known (fate_at u n)) [] cs) (no_ports (w.actors a).child n 0 arguments older) ∙ none_either (is_known (fate_at u n)))

  goes_same : (s : ActorStatus) → ((child : ℕ) → s ≡ status.Parked child → child < n) → goes_on w s ≡ goes_on v s
  goes_same (status.Waiting missing) below = refl
  goes_same status.Ready below = refl
  goes_same status.Running below = refl
  goes_same (status.Parked child) below = ap (λ f. is_some (known_of f)) (sym (kept (λ (z : Actor). z.fate) refl child (λ e. absurd (omega (arith, e, below child refl)))))
  goes_same status.Ended below = refl
  goes_same status.Poisoned below = refl

  apart : (j : ℕ) → j < n → j ≡ n → ⊥
  apart j below e = omega (arith, e, below)

  caller_row : (row : Row) → RowOf job (w.actors a) row → RowOf job y (with_child n row)
  caller_row row r = record {
    caller = r.caller;
    member = r.member;
    ports = r.ports;
    children = λ call. more_children row.children n call (w.actors a).child (calls_made (w.actors a).told) (as_many_children job log k.is_log a there row.children r.children) r.children;
    frame = subst (λ s. HasFrame job y s row.frame) (sym running) tt;
  }

  opened_so : HasOpened p.results n passed (opened_with p.results n passed)
  opened_so = has_opened p.results n passed (have_results p.results (w.actors a).child arguments (λ call on found. result_some job w p k.holds on (older call on found)))

  results_hold : Keyed (ResultIs v) (n + 1) (opened_with p.results n passed).results
  results_hold = record { at = λ j below. at j below (same_or j n); beyond = λ j above. opened_so.others j (λ e. absurd (omega (arith, e, above))) ∙ ap (option_map (joined (ports_for j n 0 passed))) (k.holds.results.beyond j (omega (arith, above))) } where
    at : (j : ℕ) → j < n + 1 → (j ≡ n) ⊎ (j ≡ n → ⊥) → (future : Future) × (get (opened_with p.results n passed).results j ≡ Some future) × ResultIs v j future
    at j below (inl is) = (
      record { fate = fate.Open; consumers = [] },
      ap (get (opened_with p.results n passed).results) is ∙ opened_so.new,
      ap₂ (λ (f : Fate) cs. record { fate = kept_fate f; consumers = cs }) (sym (ap (fate_at v) is ∙ ap (λ (z : Actor). z.fate) new ∙ counted_fate m x)) (sym (ap (consumers_in v.waits) is ∙ no_waits)),
    )
    at j below (inr differ) = (
      record { fate = kept_fate (fate_at u j); consumers = consumers_in v.waits j },
      opened_so.others j differ ∙ ap (option_map (joined (ports_for j n 0 passed))) (result_there job w p k.holds j (omega (arith, below, differ)))
          ∙ ap Some (ap (λ f. joined (ports_for j n 0 passed) (record { fate = kept_fate f; consumers = consumers_in w.waits j })) (sym (kept_mid (λ (z : Actor). z.fate) refl j differ))
          ∙ result_after_call (fate_at u) (w.actors a).child j n arguments w.waits),
      ap (λ f. record { fate = kept_fate f; consumers = consumers_in v.waits j }) (ap (λ (z : Actor). z.fate) (sym (as_mid j differ))),
    )

  main_same : MainIs job (v.actors 0) (v.actors 0).status p.lines p.main_end
  main_same = at (same_or 0 a) where
    at : (0 ≡ a) ⊎ (0 ≡ a → ⊥) → MainIs job (v.actors 0) (v.actors 0).status p.lines p.main_end
    at (inl is) = subst (λ (z : Actor). MainIs job z z.status p.lines p.main_end) (sym (ap v.actors is ∙ here)) (subst (λ s. MainIs job y s p.lines p.main_end) (sym running) tt)
    at (inr differ) = subst (λ (z : Actor). MainIs job z z.status p.lines p.main_end) (sym (others 0 differ (λ e. absurd (omega (arith, e, there))))) k.holds.main

  pub sent_holds : (turns : ℕ) → turns ≡ p.turns + (t + 1) → Holds job v (with_sent p (call_made w a member arguments) passed arguments turns)
  sent_holds turns turned = record {
    statuses = each_push (StatusIs w) (StatusIs v) n (n + 1) (status_by m) p.statuses k.holds.statuses refl (counted_status m x ∙ ap (λ (z : Actor). z.status) (sym new))
        (λ j s below is. is ∙ sym (kept (λ (z : Actor). z.status) refl j (apart j below)));
    rows = each_push (RowIs job v) (RowIs job v) n (n + 1) (row_by (call_made w a member arguments)) (changed (with_child n) a p.rows)
        (each_changed (RowIs job w) (RowIs job v) n n a (with_child n) p.rows k.holds.rows refl (λ row r. subst (λ z. RowOf job z (with_child n row)) (sym here) (caller_row row r))
        (λ j row below other r. subst (λ z. RowOf job z row) (sym (others j other (apart j below))) r))
        refl (subst (λ z. RowOf job z (row_by (call_made w a member arguments))) (sym new) (counted_row job m x (row_by (call_made w a member arguments)) refl refl (sym (length-map arguments port_of)) refl (λ call. refl)))
        (λ j row below r. r);
    ports = keyed_add (PortsAre w) (PortsAre v) n (n + 1) (map port_of arguments) p.ports k.holds.ports refl (sym (ap (λ (z : Actor). z.ports) new ∙ counted_ports m x))
        (λ j ports below is. is ∙ sym (kept (λ (z : Actor). z.ports) refl j (apart j below)));
    results = results_hold;
    due = opened_so.due ∙ ap₂ (λ ds es. ds ++ es) k.holds.due (due_after_call (λ from. is_known (fate_at u from)) (w.actors a).child p.results n 0 arguments known_same)
        ∙ sym (map-append due_of w.due (known_arcs (λ from. is_known (fate_at u from)) (arcs_to (w.actors a).child n 0 arguments)));
    going = each_push (MarkIs w) (MarkIs v) n (n + 1) (mark_by m) p.going k.holds.going refl (counted_mark v m x ∙ ap (λ (z : Actor). goes_on v z.status) (sym new))
        (λ j mark below is. is ∙ goes_same (w.actors j).status (λ child parked. parked_child job log k.is_log j child parked) ∙ ap (goes_on v) (sym (kept (λ (z : Actor). z.status) refl j (apart j below))));
    turns = turned ∙ ap (λ i. i + (t + 1)) k.holds.turns;
    why = k.holds.why;
    main = main_same;
    few = omega (arith, k.holds.few);
  }

-- ---- the event

pub send_kept : (job : Job) (log now : Log) (p : Parts) (a t member turns : ℕ) (object : ℤ) (arguments : List Held) → Kept job log p → now ≡ Send a t (after job log).count member object arguments ∷ log → (after job log).why ≡ Going →
    MaySend job (after job log) a t (after job log).count member object arguments → turns ≡ p.turns + (t + 1) →
    Kept job now (with_sent p (call_made (after job log) a member arguments) (passed_of ((after job log).actors a).child arguments) arguments turns)
send_kept job log now p a t member turns object arguments k is going may turned = subst (λ l. Kept job l q) (sym is)
    (kept_then job log event p q k going may
    (subst (λ v. Holds job v q) (sym (sends_so job w a t member object arguments plain)) (sent_holds job log p a t member object arguments k may.stops.stops.there may.stops.stops.running turns turned)) (omega arith)) where
      w : World
      w = after job log

      event : Event
      event = Send a t (after job log).count member object arguments

      q : Parts
      q = with_sent p (call_made (after job log) a member arguments) (passed_of ((after job log).actors a).child arguments) arguments turns

      more : IsLog job (Send a t (after job log).count member object arguments ∷ log)
      more = ((going, may), k.is_log)

      counted : (sends job a t (after job log).count member object arguments (after job log)).count ≡ (after job log).count + 1
      counted = (sends_sent job a t (after job log).count member object arguments (after job log) (λ e. absurd (omega (arith, e, may.stops.stops.there)))).count

      plain : is_post (new_actor job a ((after job log).actors a) member object arguments).call ≡ false
      plain = ap is_post (sym (new_call_is job (after job log) a t member object arguments))
          ∙ plain_calls job (Send a t (after job log).count member object arguments ∷ log) k.plain more (after job log).count (omega (arith, counted))
