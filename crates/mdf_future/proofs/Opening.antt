-- Consumers of results that are added, and the newest of them that is taken back.
use Rattle.std.proofs.Common.{◌≡◌, ℕ, ◌-◌, Bool, true, false, List, [], ◌∷◌, ◌++◌, length, take, length-append, refl, ap, ap₂, sym, subst, ◌∙◌, arith}
use Rattle.std.specs.Prelude.{Option, Some, None, IsSome, if◌then◌else◌}
use Rattle.std.specs.FinMap.{get, insert}
use Rattle.std.proofs.Math.Seq.{take-append_seam}
use Rattle.mdf_future.proofs.Entries.{table, future}
use Rattle.mdf_future.proofs.Inserted.{inserted, put_back}
use Rattle.mdf_future.specs.Consumers.{is_served, deliveries}
use Rattle.mdf_future.specs.Internal.Newest.{all_but_last, without_newest, without_newest_at}
use Rattle.mdf_future.specs.Openings.{Passed, HaveResults}
use Rattle.mdf_future.specs.Results.{ResultTable, is_known, waited, waited_at}
use Rattle.mdf_future.specs.declared.consumer.Consumer.{Consumer}
use Rattle.mdf_future.specs.declared.consumer.Due.{Due}
use Rattle.mdf_future.specs.declared.future.Future.{Future}

-- all of a list with one more, but that one
without_last : {A : Type 0} (xs : List A) (x : A) → all_but_last (xs ++ x ∷ []) ≡ xs
without_last xs x =
    let counted : length (xs ++ x ∷ []) - 1 ≡ length xs = omega (arith, length-append xs (x ∷ [])) in
    ap (λ n. take n (xs ++ x ∷ [])) counted ∙ take-append_seam xs (x ∷ [])

-- ---- the newest consumer, by whether the result is known

pub without-known : (t : ResultTable) (on : ℕ) (f : Future) → get t.results on ≡ Some f → is_known f.fate ≡ true
    → table t.results (all_but_last t.due) ≡ without_newest t on
without-known t on f here known =
    ap (λ b. if b then table t.results (all_but_last t.due) else table (insert t.results on (future f.fate (all_but_last f.consumers))) t.due) (sym known)
    ∙ ap (without_newest_at t on) (sym here)

pub without-open : (t : ResultTable) (on : ℕ) (f : Future) → get t.results on ≡ Some f → is_known f.fate ≡ false
    → table (insert t.results on (future f.fate (all_but_last f.consumers))) t.due ≡ without_newest t on
without-open t on f here unknown =
    ap (λ b. if b then table t.results (all_but_last t.due) else table (insert t.results on (future f.fate (all_but_last f.consumers))) t.due) (sym unknown)
    ∙ ap (without_newest_at t on) (sym here)

-- ---- one more consumer

-- what one more consumer leaves, by what has become of the result
pub record Waits (t : ResultTable) (on : ℕ) (c : Consumer) : Type 0 where
  pub future : Future
  pub here : get t.results on ≡ Some future
  pub fate : Bool
  pub is : is_known future.fate ≡ fate
  pub leaves : waited t on c ≡ (if fate then table t.results (t.due ++ deliveries on (c ∷ [])) else table (insert t.results on (record future { consumers = future.consumers ++ c ∷ [] })) t.due)

pub waits : (t : ResultTable) (on : ℕ) (c : Consumer) (o : Option Future) → get t.results on ≡ o → IsSome o → Waits t on c
waits t on c None here there = absurd (cc)
waits t on c (Some f) here there = record { future = f; here = here; fate = is_known f.fate; is = refl; leaves = ap (waited_at t on c) here }

delivered_one : (on : ℕ) (c : Consumer) (due : List Due) → is_served c ≡ true → all_but_last (due ++ deliveries on (c ∷ [])) ≡ due
delivered_one on c due served =
    ap (λ b. all_but_last (due ++ (if b then (record { consumer = c; from = on }) ∷ [] else []))) served ∙ without_last due (record { consumer = c; from = on })

-- it is taken back
pub waited-back : (t : ResultTable) (on : ℕ) (c : Consumer) → is_served c ≡ true → IsSome (get t.results on) → without_newest (waited t on c) on ≡ t
waited-back t on c served there = go (waits t on c _ refl there) where
  go : Waits t on c → without_newest (waited t on c) on ≡ t
  go w = ap (λ t. without_newest t on) w.leaves ∙ by_fate w.fate w.is where
    by_fate : (b : Bool) → is_known w.future.fate ≡ b
        → without_newest (if b then table t.results (t.due ++ deliveries on (c ∷ [])) else table (insert t.results on (record w.future { consumers = w.future.consumers ++ c ∷ [] })) t.due) on ≡ t
    by_fate true known =
        sym (without-known (table t.results (t.due ++ deliveries on (c ∷ []))) on w.future w.here known)
        ∙ ap (table t.results) (delivered_one on c t.due served)
    by_fate false unknown =
        let more = record w.future { consumers = w.future.consumers ++ c ∷ [] } in
        sym (without-open (table (insert t.results on more) t.due) on more (inserted (λ o. o ≡ Some more) t.results on on more (λ _. refl) (λ other. absurd (other refl))) unknown)
        ∙ ap₂ table (ap (λ cs. insert (insert t.results on more) on (future w.future.fate cs)) (without_last w.future.consumers c) ∙ put_back t.results on w.future more w.here) refl

-- an actor without a result has none
pub still_new : (t : ResultTable) (on actor : ℕ) (c : Consumer) → IsSome (get t.results on) → get t.results actor ≡ None → get (waited t on c).results actor ≡ None
still_new t on actor c there new = go (waits t on c _ refl there) where
  go : Waits t on c → get (waited t on c).results actor ≡ None
  go w = ap (λ t. get t.results actor) w.leaves ∙ by_fate w.fate where
    by_fate : (b : Bool) → get (if b then table t.results (t.due ++ deliveries on (c ∷ [])) else table (insert t.results on (record w.future { consumers = w.future.consumers ++ c ∷ [] })) t.due).results actor ≡ None
    by_fate true = new
    by_fate false =
        inserted (λ o. o ≡ None) t.results on actor (record w.future { consumers = w.future.consumers ++ c ∷ [] })
        (λ e. let gone : Some w.future ≡ None = sym w.here ∙ ap (get t.results) (sym e) ∙ new in absurd (cc)) (λ _. new)

-- and each that has one has it
pub still_there : (t : ResultTable) (on other : ℕ) (c : Consumer) → IsSome (get t.results on) → IsSome (get t.results other) → IsSome (get (waited t on c).results other)
still_there t on other c there has = go (waits t on c _ refl there) where
  go : Waits t on c → IsSome (get (waited t on c).results other)
  go w = subst (λ (t : ResultTable). IsSome (get t.results other)) (sym w.leaves) (by_fate w.fate) where
    by_fate : (b : Bool) → IsSome (get (if b then table t.results (t.due ++ deliveries on (c ∷ [])) else table (insert t.results on (record w.future { consumers = w.future.consumers ++ c ∷ [] })) t.due).results other)
    by_fate true = has
    by_fate false =
        inserted (λ o. IsSome o) t.results on other (record w.future { consumers = w.future.consumers ++ c ∷ [] }) (λ _. refl) (λ _. has)

pub all_there : (t : ResultTable) (on : ℕ) (c : Consumer) (passed : Passed) → IsSome (get t.results on) → HaveResults t passed → HaveResults (waited t on c) passed
all_there t on c [] there have = tt
all_there t on c (None ∷ others) there have = all_there t on c others there have
all_there t on c (Some other ∷ others) there have = (still_there t on other c there have.0, all_there t on c others there have.1)
