-- The actors are a tree along a log.
use Rattle.std.proofs.Common.{◌≡◌, ◌+◌, ◌<◌, ◌≤◌, ◌⊎◌, ℕ, zero, suc, false, List, [], ◌∷◌, Option, Some, ℤ, refl, sym, ap, ap₂, ◌∙◌, subst, inl, inr, arith, nat_lt, ltb-true, ltb-false}
use Rattle.mdf_code.specs.Alone.{Held}
use Rattle.mdf_code.specs.Told.{calls_made}
use Rattle.mdf_core.specs.Actors.{Actor}
use Rattle.mdf_core.specs.Calls.{calls_on, new_actor}
use Rattle.mdf_core.specs.Enabled.{Enabled, IsLog}
use Rattle.mdf_core.specs.Events.{Event, Fire, Send, Create, Learn, Park, Resume, Reply, End, Beat, Match, Arrive, Accept, Quit}
use Rattle.mdf_core.specs.Naming.{sum_below}
use Rattle.mdf_core.specs.Steps.{Log, after, sends, step}
use Rattle.mdf_core.specs.Trees.{IsChild, IsTree, at_child, over_calls, over_children}
use Rattle.mdf_core.specs.Worlds.{Job, World, put, spends}
use Rattle.mdf_core.proofs.EachStep.{Change, ByActor, ByCall, ByToken, ByArrival, ByAccept, ByEnd, changes, is_send}
use Rattle.mdf_core.proofs.Lists.{by_bool, counted_below, put_here, put_there, same_or, sum_same}
use Rattle.mdf_core.proofs.Related.{All}
use Rattle.mdf_core.proofs.Rooted.{Rooted, rooted_keeps, send_rooted, step_rooted, with_call}
use Rattle.mdf_core.proofs.Transitions.{Came, sends_sent}

-- ---- where calls and children stay

pub child_rooted : (w v : World) → All Rooted rooted_keeps w v → v.count ≡ w.count → (a call c : ℕ) → IsChild w a call c → IsChild v a call c
child_rooted w v r count a call c h = record {
  first = h.first;
  made = subst (λ n. call ≤ n) (sym (r a).calls) h.made;
  newer = h.newer;
  there = subst (λ n. c < n) (sym count) h.there;
  caller = ap (λ x. x.caller) (r c).call ∙ h.caller;
  place = ap (λ x. x.place) (r c).call ∙ h.place;
}

tree_rooted : (w v : World) → All Rooted rooted_keeps w v → v.count ≡ w.count → IsTree w → IsTree v
tree_rooted w v r count t = record {
  children = λ a call c h. child_rooted w v r count a call c (t.children a call c (sym (ap (λ f. f call) (r a).child) ∙ h));
  callers = λ c first there. ap (λ b. (v.actors b.caller).child b.place) (r c).call
      ∙ (ap (λ f. f (w.actors c).call.place) (r (w.actors c).call.caller).child ∙ t.callers c first (subst (λ n. c < n) count there));
  calls = λ a call there first made. let k = t.calls a call (subst (λ n. a < n) count there) first (subst (λ n. call ≤ n) (r a).calls made) in
      (k.0, ap (λ f. f call) (r a).child ∙ k.1);
}

-- ---- a call

module _ (job : Job) (w : World) (a turns member : ℕ) (object : ℤ) (arguments : List Held) (there : a < w.count) where
  abbrev made : ℕ
  made = calls_made (w.actors a).told

  abbrev y : World
  y = with_call job a turns w.count member object arguments w

  abbrev new : Actor
  new = new_actor job a (w.actors a) member object arguments

  abbrev caller : Actor
  caller = spends (turns + 1) (calls_on job w.count member (w.actors a))

  new_is : y.actors w.count ≡ new
  new_is = put_here w.count new (put a caller w.actors)

  old_is : (k : ℕ) → (k ≡ w.count → ⊥) → y.actors k ≡ put a caller w.actors k
  old_is k h = put_there w.count k new (put a caller w.actors) h

  caller_is : y.actors a ≡ caller
  caller_is = old_is a (λ same. absurd (omega (arith, same, there))) ∙ put_here a caller w.actors

  other_is : (k : ℕ) → (k ≡ w.count → ⊥) → (k ≡ a → ⊥) → y.actors k ≡ w.actors k
  other_is k h l = old_is k h ∙ put_there a k caller w.actors l

  pub call_same : (k : ℕ) → k < w.count → (y.actors k).call ≡ (w.actors k).call
  call_same k below = at (same_or k a) where
    at : (k ≡ a) ⊎ (k ≡ a → ⊥) → (y.actors k).call ≡ (w.actors k).call
    at (inl same) = subst (λ d. (y.actors d).call ≡ (w.actors d).call) (sym same) (ap (λ (x : Actor). x.call) caller_is)
    at (inr differ) = ap (λ (x : Actor). x.call) (other_is k (λ same. absurd (omega (arith, same, below))) differ)

  -- a child that was there
  child_stays : (b call c : ℕ) → IsChild w b call c → IsChild y b call c
  child_stays b call c h = record {
    first = h.first;
    made = grown (same_or b a);
    newer = h.newer;
    there = omega (arith, h.there);
    caller = ap (λ x. x.caller) (call_same c h.there) ∙ h.caller;
    place = ap (λ x. x.place) (call_same c h.there) ∙ h.place;
  } where
    grown : (b ≡ a) ⊎ (b ≡ a → ⊥) → call ≤ calls_made (y.actors b).told
    grown (inl same) = subst (λ n. call ≤ n) (sym (ap (λ d. calls_made (y.actors d).told) same ∙ ap (λ (x : Actor). calls_made x.told) caller_is))
        (omega (arith, h.made, ap (λ d. calls_made (w.actors d).told) same))
    grown (inr differ) = subst (λ n. call ≤ n) (sym (ap (λ (x : Actor). calls_made x.told) (other_is b (λ same. absurd (omega (arith, same, h.newer, h.there))) differ))) h.made

  -- the new child
  new_child : IsChild y a (made + 1) w.count
  new_child = record {
    first = omega arith;
    made = subst (λ n. made + 1 ≤ n) (sym (ap (λ (x : Actor). calls_made x.told) caller_is)) (omega arith);
    newer = there;
    there = omega arith;
    caller = ap (λ (x : Actor). x.call.caller) new_is;
    place = ap (λ (x : Actor). x.call.place) new_is;
  }

  caller_child : (call : ℕ) → (y.actors a).child call ≡ put (made + 1) (Some w.count) (w.actors a).child call
  caller_child call = ap (λ (x : Actor). x.child call) caller_is

  tree_children : IsTree w → (b call c : ℕ) → (y.actors b).child call ≡ Some c → IsChild y b call c
  tree_children t b call c h = at (same_or b w.count) (same_or b a) (same_or call (made + 1)) where
    at : (b ≡ w.count) ⊎ (b ≡ w.count → ⊥) → (b ≡ a) ⊎ (b ≡ a → ⊥) → (call ≡ made + 1) ⊎ (call ≡ made + 1 → ⊥) → IsChild y b call c
    at (inl same) q p = absurd (cc (h, ap (λ d. (y.actors d).child call) same ∙ ap (λ (x : Actor). x.child call) new_is))
    at (inr old) (inr differ) p = child_stays b call c (t.children b call c (sym (ap (λ (x : Actor). x.child call) (other_is b old differ)) ∙ h))
    at (inr old) (inl same) (inr before) = child_stays b call c (subst (λ d. IsChild w d call c) (sym same) (t.children a call c
        (sym (put_there (made + 1) call (Some w.count) (w.actors a).child before) ∙ (sym (caller_child call) ∙ (ap (λ d. (y.actors d).child call) (sym same) ∙ h)))))
    at (inr old) (inl same) (inl next) = subst (λ d. IsChild y d call c) (sym same) (subst (λ d. IsChild y a d c) (sym next) (subst (IsChild y a (made + 1)) found new_child)) where
      found : w.count ≡ c
      found = some_same (sym (put_here (made + 1) (Some w.count) (w.actors a).child) ∙ (sym (caller_child (made + 1)) ∙ (ap (λ d. (y.actors a).child d) (sym next) ∙ (ap (λ d. (y.actors d).child call) (sym same) ∙ h)))) where
        some_same : Some w.count ≡ Some c → w.count ≡ c
        some_same e = cc e

  -- a child that was there is found where it was
  pub child_found : (b call c : ℕ) → IsChild w b call c → (w.actors b).child call ≡ Some c → (y.actors b).child call ≡ Some c
  child_found b call c h is = at (same_or b a) where
    at : (b ≡ a) ⊎ (b ≡ a → ⊥) → (y.actors b).child call ≡ Some c
    at (inl same) = ap (λ d. (y.actors d).child call) same ∙ (caller_child call
        ∙ (put_there (made + 1) call (Some w.count) (w.actors a).child (λ e. absurd (omega (arith, e, h.made, ap (λ d. calls_made (w.actors d).told) same)))
        ∙ (ap (λ d. (w.actors d).child call) (sym same) ∙ is)))
    at (inr differ) = ap (λ (x : Actor). x.child call) (other_is b (λ e. absurd (omega (arith, e, h.newer, h.there))) differ) ∙ is

  tree_callers : IsTree w → (c : ℕ) → 0 < c → c < y.count → (y.actors (y.actors c).call.caller).child (y.actors c).call.place ≡ Some c
  tree_callers t c first below = at (same_or c w.count) where
    at : (c ≡ w.count) ⊎ (c ≡ w.count → ⊥) → (y.actors (y.actors c).call.caller).child (y.actors c).call.place ≡ Some c
    at (inl same) = subst (λ d. (y.actors (y.actors d).call.caller).child (y.actors d).call.place ≡ Some d) (sym same)
        (ap (λ (x : Actor). (y.actors x.call.caller).child x.call.place) new_is ∙ (caller_child (made + 1) ∙ put_here (made + 1) (Some w.count) (w.actors a).child))
    at (inr old) = let under : c < w.count = omega_below old in let is = t.callers c first under in
        ap (λ d. (y.actors d.caller).child d.place) (call_same c under)
        ∙ child_found (w.actors c).call.caller (w.actors c).call.place c (t.children (w.actors c).call.caller (w.actors c).call.place c is) is where
          omega_below : (c ≡ w.count → ⊥) → c < w.count
          omega_below d = by_bool (nat_lt c w.count) (λ e. ltb-true c w.count e) (λ e. absurd (d (omega (arith, below, ltb-false c w.count e))))

  tree_calls : IsTree w → (b call : ℕ) → b < y.count → 1 ≤ call → call ≤ calls_made (y.actors b).told → (c : ℕ) × ((y.actors b).child call ≡ Some c)
  tree_calls t b call below first under = at (same_or b w.count) (same_or b a) (same_or call (made + 1)) where
    at : (b ≡ w.count) ⊎ (b ≡ w.count → ⊥) → (b ≡ a) ⊎ (b ≡ a → ⊥) → (call ≡ made + 1) ⊎ (call ≡ made + 1 → ⊥) → (c : ℕ) × ((y.actors b).child call ≡ Some c)
    at (inl same) q p = absurd (omega (arith, first, under, ap (λ d. calls_made (y.actors d).told) same ∙ ap (λ (x : Actor). calls_made x.told) new_is))
    at (inr old) (inr differ) p = let k = t.calls b call (below_count old) first (subst (λ n. call ≤ n) (ap (λ (x : Actor). calls_made x.told) (other_is b old differ)) under) in
        (k.0, ap (λ (x : Actor). x.child call) (other_is b old differ) ∙ k.1) where
          below_count : (b ≡ w.count → ⊥) → b < w.count
          below_count d = by_bool (nat_lt b w.count) (λ e. ltb-true b w.count e) (λ e. absurd (d (omega (arith, below, ltb-false b w.count e))))
    at (inr old) (inl same) (inl next) = (w.count, ap (λ d. (y.actors d).child call) same ∙ (caller_child call ∙ (ap (λ d. put (made + 1) (Some w.count) (w.actors a).child d) next ∙ put_here (made + 1) (Some w.count) (w.actors a).child)))
    at (inr old) (inl same) (inr before) = let k = t.calls a call there first (not_next call made (subst (λ n. call ≤ n) (ap (λ d. calls_made (y.actors d).told) same ∙ ap (λ (x : Actor). calls_made x.told) caller_is) under) before) in
        (k.0, ap (λ d. (y.actors d).child call) same ∙ (caller_child call ∙ (put_there (made + 1) call (Some w.count) (w.actors a).child before ∙ k.1))) where
          not_next : (m n : ℕ) → m ≤ n + 1 → (m ≡ n + 1 → ⊥) → m ≤ n
          not_next m n h d = by_bool (nat_lt n m) (λ e. absurd (d (omega (arith, h, ltb-true n m e)))) (λ e. ltb-false n m e)

  pub call_tree : IsTree w → IsTree y
  call_tree t = record { children = tree_children t; callers = tree_callers t; calls = tree_calls t }

  -- ---- sums

  over_put : (g : ℕ → ℕ) (child : ℕ → Option ℕ) (j : ℕ) (v : Option ℕ) (n : ℕ) → n < j → over_children g (put j v child) n ≡ over_children g child n
  over_put g child j v zero h = refl
  over_put g child j v (suc n) h = ap₂ (λ p q. p + at_child g q) (over_put g child j v n (omega (arith, h))) (put_there j (suc n) v child (λ same. absurd (omega (arith, h, same))))

  over_one_more : (g : ℕ → ℕ) (child : ℕ → Option ℕ) (n j c : ℕ) → j ≡ suc n → over_children g (put j (Some c) child) j ≡ over_children g child n + g c
  over_one_more g child n j c is = ap (over_children g (put j (Some c) child)) is
      ∙ ap₂ (λ p q. p + at_child g q) (over_put g child j (Some c) n (omega (arith, is))) (ap (put j (Some c) child) (sym is) ∙ put_here j (Some c) child)

  pub call_sums : (g : ℕ → ℕ) → sum_below w.count (λ k. over_calls g (w.actors k)) + g 0 ≡ sum_below w.count g → sum_below y.count (λ k. over_calls g (y.actors k)) + g 0 ≡ sum_below y.count g
  call_sums g h = ap (λ n. sum_below n (λ k. over_calls g (y.actors k)) + g 0) (plus_one w.count) ∙ (omega (arith, h, old, fresh) ∙ ap (λ n. sum_below n g) (sym (plus_one w.count))) where
    plus_one : (n : ℕ) → n + 1 ≡ suc n
    plus_one n = omega arith

    fresh : over_calls g (y.actors w.count) ≡ 0
    fresh = ap (over_calls g) new_is

    old : sum_below w.count (λ k. over_calls g (y.actors k)) ≡ sum_below w.count (λ k. over_calls g (w.actors k)) + g w.count
    old = counted_below w.count a (g w.count) (λ k. over_calls g (w.actors k)) (λ k. over_calls g (y.actors k)) there
        (λ k below differ. ap (over_calls g) (other_is k (λ same. absurd (omega (arith, same, below))) differ))
        (ap (over_calls g) caller_is ∙ over_one_more g (w.actors a).child made (made + 1) w.count (plus_one made))

-- ---- logs

pub count_stays : (job : Job) (w v : World) (e : Event) → Change job w e v → is_send e ≡ false → v.count ≡ w.count
count_stays job w v e c h = at c where
  at : Change job w e v → v.count ≡ w.count
  at (ByActor o) = o.acted.lists.count
  at (ByCall o) = absurd (cc (h, o.sends))
  at (ByToken o) = came o.came where
    came : Came w v → v.count ≡ w.count
    came (c, inl q) = q.only.lists.count
    came (c, inr f) = f.lists.count
  at (ByArrival o) = o.count
  at (ByAccept o) = o.count
  at (ByEnd o) = o.count

pub by_event : {P : Type 0} (e : Event) → ((a turns callee member : ℕ) (object : ℤ) (arguments : List Held) → e ≡ Send a turns callee member object arguments → P) → (is_send e ≡ false → P) → P
by_event (Send a turns callee member object arguments) s n = s a turns callee member object arguments refl
by_event (Fire a) s n = n refl
by_event (Create a turns class object) s n = n refl
by_event (Learn a turns call) s n = n refl
by_event (Park a turns call) s n = n refl
by_event (Resume a) s n = n refl
by_event (Reply a turns value) s n = n refl
by_event (End a turns ending state) s n = n refl
by_event (Beat a) s n = n refl
by_event (Match place) s n = n refl
by_event (Arrive a) s n = n refl
by_event (Accept object a number) s n = n refl
by_event (Quit why) s n = n refl

-- what a call and the other events keep of calls and children, each event keeps
step_keeps : (P : World → Type 0) → ((w v : World) → All Rooted rooted_keeps w v → v.count ≡ w.count → P w → P v) →
    ((job : Job) (w : World) (a turns member : ℕ) (object : ℤ) (arguments : List Held) → a < w.count → P w → P (with_call job a turns w.count member object arguments w)) →
    (job : Job) (w : World) (e : Event) → Enabled job w e → P w → P (step job w e)
step_keeps P rooted call job w e h p = by_event e
    (λ a turns callee member object arguments is. subst (λ d. P (step job w d)) (sym is) (sent a turns callee member object arguments (subst (Enabled job w) is h)))
    (λ other. rooted w (step job w e) (step_rooted job w e other) (count_stays job w (step job w e) e (changes job w e h) other) p) where
      sent : (a turns callee member : ℕ) (object : ℤ) (arguments : List Held) → Enabled job w (Send a turns callee member object arguments) → P (step job w (Send a turns callee member object arguments))
      sent a turns callee member object arguments k = subst (λ c. P (step job w (Send a turns c member object arguments))) (sym k.next)
          (let y = with_call job a turns w.count member object arguments w in let u = sends job a turns w.count member object arguments w in
          let there : a < w.count = k.stops.stops.there in
          rooted y u (send_rooted job w a turns w.count member object arguments) (sends_sent job a turns w.count member object arguments w (λ same. absurd (omega (arith, same, there)))).count
          (call job w a turns member object arguments there p))

pub tree : (job : Job) (log : Log) → IsLog job log → IsTree (after job log)
tree job [] h = record {
  children = λ a call c e. absurd (cc e);
  callers = λ c first there. absurd (omega (arith, first, there));
  calls = λ a call there first under. absurd (omega (arith, first, under));
}
tree job (e ∷ log) h = step_keeps IsTree tree_rooted (λ job w a turns member object arguments there t. call_tree job w a turns member object arguments there t) job (after job log) e h.0.1 (tree job log h.1)

abbrev SumsUp : (ℕ → ℕ) → World → Type 0
SumsUp g w = sum_below w.count (λ k. over_calls g (w.actors k)) + g 0 ≡ sum_below w.count g

sums_rooted : (g : ℕ → ℕ) (w v : World) → All Rooted rooted_keeps w v → v.count ≡ w.count → SumsUp g w → SumsUp g v
sums_rooted g w v r count h =
    ap (λ n. sum_below n (λ k. over_calls g (v.actors k)) + g 0) count
    ∙ (ap (λ n. n + g 0) (sum_same w.count (λ k. over_calls g (w.actors k)) (λ k. over_calls g (v.actors k)) (λ k below. ap₂ (over_children g) (r k).child (r k).calls))
    ∙ (h ∙ ap (λ n. sum_below n g) (sym count)))

pub sums_up : (job : Job) (log : Log) → IsLog job log → (g : ℕ → ℕ) → SumsUp g (after job log)
sums_up job [] h g = omega arith
sums_up job (e ∷ log) h g =
    step_keeps (SumsUp g) (sums_rooted g) (λ job w a turns member object arguments there s. call_sums job w a turns member object arguments there g s) job (after job log) e h.0.1 (sums_up job log h.1 g)
