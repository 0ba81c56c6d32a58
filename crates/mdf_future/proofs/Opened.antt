-- What each result has when one more is opened, whose ports wait.
use Rattle.std.proofs.Common.{◌≡◌, ℕ, ◌+◌, ◌==◌, Bool, true, false, List, [], ◌∷◌, ◌++◌, refl, ap, ap₂, sym, subst, ◌∙◌}
use Rattle.std.specs.Prelude.{cond, Option, Some, None, IsSome, if◌then◌else◌}
use Rattle.std.specs.Option.{option_map, option_map_or}
use Rattle.std.specs.FinMap.{get, insert}
use Rattle.std.proofs.lemmas.Bool.{cases_eq, ne_eqb, eq-eqb}
use Rattle.std.proofs.lemmas.List.{append-nil, append_assoc}
use Rattle.std.proofs.Math.Logic.{⊎_elim}
use Rattle.mdf_future.proofs.Entries.{table, future}
use Rattle.mdf_future.proofs.Inserted.{inserted}
use Rattle.mdf_future.proofs.Opening.{Waits, waits, all_there, still_new}
use Rattle.mdf_future.specs.Consumers.{deliveries}
use Rattle.mdf_future.specs.Openings.{HasOpened, HaveResults, Passed, is_known_at, joined, opened_from, opened_with, port_of, ports_due, ports_for}
use Rattle.mdf_future.specs.Results.{ResultTable, is_known, waited}
use Rattle.mdf_future.specs.declared.consumer.Consumer.{Consumer}
use Rattle.mdf_future.specs.declared.consumer.Due.{Due}
use Rattle.mdf_future.specs.declared.future.Fate.{Fate}
use Rattle.mdf_future.specs.declared.future.Fate.TheVariants as fate
use Rattle.mdf_future.specs.declared.future.Future.{Future}

-- ---- one port

joined_none : (f : Future) → joined [] f ≡ f
joined_none f = at (is_known f.fate) where
  at : (b : Bool) → cond b f (record f { consumers = f.consumers ++ [] }) ≡ f
  at true = refl
  at false = ap (future f.fate) (append-nil f.consumers)

joined_twice : (first more : List Consumer) (f : Future) → joined more (joined first f) ≡ joined (first ++ more) f
joined_twice first more f = at (is_known f.fate) refl where
  at : (b : Bool) → is_known f.fate ≡ b → joined more (cond b f (record f { consumers = f.consumers ++ first })) ≡ cond b f (record f { consumers = f.consumers ++ (first ++ more) })
  at true is = ap (λ b. cond b f (record f { consumers = f.consumers ++ more })) is
  at false is =
      ap (λ b. cond b (record f { consumers = f.consumers ++ first }) (record f { consumers = (f.consumers ++ first) ++ more })) is
      ∙ ap (future f.fate) (append_assoc f.consumers first more)

option_none : (o : Option Future) → option_map (joined []) o ≡ o
option_none None = refl
option_none (Some f) = ap (λ f. Some f) (joined_none f)

option_twice : (first more : List Consumer) (o : Option Future) → option_map (joined more) (option_map (joined first) o) ≡ option_map (joined (first ++ more)) o
option_twice first more None = refl
option_twice first more (Some f) = ap (λ f. Some f) (joined_twice first more f)

-- the result that it waits for, and any other
waited_same : (t : ResultTable) (on : ℕ) (c : Consumer) → IsSome (get t.results on) → get (waited t on c).results on ≡ option_map (joined (c ∷ [])) (get t.results on)
waited_same t on c there = go (waits t on c _ refl there) where
  go : Waits t on c → get (waited t on c).results on ≡ option_map (joined (c ∷ [])) (get t.results on)
  go w = ap (λ t. get t.results on) w.leaves ∙ by_fate w.fate w.is ∙ sym (ap (option_map (joined (c ∷ []))) w.here) where
    by_fate : (b : Bool) → is_known w.future.fate ≡ b
        → get (if b then table t.results (t.due ++ deliveries on (c ∷ [])) else table (insert t.results on (record w.future { consumers = w.future.consumers ++ c ∷ [] })) t.due).results on
        ≡ Some (joined (c ∷ []) w.future)
    by_fate true is = w.here ∙ sym (ap (λ b. Some (cond b w.future (record w.future { consumers = w.future.consumers ++ c ∷ [] }))) is)
    by_fate false is =
        inserted (λ o. o ≡ Some (record w.future { consumers = w.future.consumers ++ c ∷ [] })) t.results on on (record w.future { consumers = w.future.consumers ++ c ∷ [] }) (λ _. refl) (λ other. absurd (other refl))
        ∙ sym (ap (λ b. Some (cond b w.future (record w.future { consumers = w.future.consumers ++ c ∷ [] }))) is)

waited_other : (t : ResultTable) (on q : ℕ) (c : Consumer) → IsSome (get t.results on) → (q ≡ on → ⊥) → get (waited t on c).results q ≡ get t.results q
waited_other t on q c there other = go (waits t on c _ refl there) where
  go : Waits t on c → get (waited t on c).results q ≡ get t.results q
  go w = ap (λ t. get t.results q) w.leaves ∙ by_fate w.fate where
    by_fate : (b : Bool)
        → get (if b then table t.results (t.due ++ deliveries on (c ∷ [])) else table (insert t.results on (record w.future { consumers = w.future.consumers ++ c ∷ [] })) t.due).results q ≡ get t.results q
    by_fate true = refl
    by_fate false = inserted (λ o. o ≡ get t.results q) t.results on q (record w.future { consumers = w.future.consumers ++ c ∷ [] }) (λ e. absurd (other e)) (λ _. refl)

-- what is due
waited_due : (t : ResultTable) (on : ℕ) (c : Consumer) → IsSome (get t.results on) → (waited t on c).due ≡ t.due ++ (if is_known_at t on then deliveries on (c ∷ []) else [])
waited_due t on c there = go (waits t on c _ refl there) where
  go : Waits t on c → (waited t on c).due ≡ t.due ++ (if is_known_at t on then deliveries on (c ∷ []) else [])
  go w = ap (λ t. t.due) w.leaves ∙ by_fate w.fate ∙ ap (λ b. t.due ++ (if b then deliveries on (c ∷ []) else [])) (sym w.is ∙ sym (ap (λ o. option_map_or (λ f. is_known f.fate) o false) w.here)) where
    by_fate : (b : Bool)
        → (if b then table t.results (t.due ++ deliveries on (c ∷ [])) else table (insert t.results on (record w.future { consumers = w.future.consumers ++ c ∷ [] })) t.due).due
        ≡ t.due ++ (if b then deliveries on (c ∷ []) else [])
    by_fate true = refl
    by_fate false = sym (append-nil t.due)

-- what is known stays so
joined_known : (more : List Consumer) (o : Option Future) → option_map_or (λ f. is_known f.fate) (option_map (joined more) o) false ≡ option_map_or (λ f. is_known f.fate) o false
joined_known more None = refl
joined_known more (Some f) = at (is_known f.fate) where
  at : (b : Bool) → is_known (cond b f (record f { consumers = f.consumers ++ more })).fate ≡ is_known f.fate
  at true = refl
  at false = refl

waited_known : (t : ResultTable) (on q : ℕ) (c : Consumer) → IsSome (get t.results on) → is_known_at (waited t on c) q ≡ is_known_at t q
waited_known t on q c there = ⊎_elim same other (cases_eq q on) where
  same : q ≡ on → is_known_at (waited t on c) q ≡ is_known_at t q
  same e = subst (λ q. is_known_at (waited t on c) q ≡ is_known_at t q) (sym e)
      (ap (λ o. option_map_or (λ f. is_known f.fate) o false) (waited_same t on c there) ∙ joined_known (c ∷ []) (get t.results on))

  other : (q ≡ on → ⊥) → is_known_at (waited t on c) q ≡ is_known_at t q
  other e = ap (λ o. option_map_or (λ f. is_known f.fate) o false) (waited_other t on q c there e)

-- ---- all ports

new_is : (t : ResultTable) (actor port : ℕ) (passed : Passed) → HaveResults t passed → get (opened_from t actor port passed).results actor ≡ Some (future fate.Open [])
new_is t actor port [] have = inserted (λ o. o ≡ Some (future fate.Open [])) t.results actor actor (future fate.Open []) (λ _. refl) (λ other. absurd (other refl))
new_is t actor port (None ∷ others) have = new_is t actor (port + 1) others have
new_is t actor port (Some on ∷ others) have =
    new_is (waited t on (port_of actor port)) actor (port + 1) others (all_there t on (port_of actor port) others have.0 have.1)

other_is : (t : ResultTable) (actor port q : ℕ) (passed : Passed) → HaveResults t passed → (q ≡ actor → ⊥)
    → get (opened_from t actor port passed).results q ≡ option_map (joined (ports_for q actor port passed)) (get t.results q)
other_is t actor port q [] have other =
    inserted (λ o. o ≡ get t.results q) t.results actor q (future fate.Open []) (λ e. absurd (other e)) (λ _. refl) ∙ sym (option_none (get t.results q))
other_is t actor port q (None ∷ others) have other = other_is t actor (port + 1) q others have other
other_is t actor port q (Some on ∷ others) have other =
    other_is (waited t on (port_of actor port)) actor (port + 1) q others (all_there t on (port_of actor port) others have.0 have.1) other ∙ ⊎_elim same differs (cases_eq q on) where
      same : q ≡ on → option_map (joined (ports_for q actor (port + 1) others)) (get (waited t on (port_of actor port)).results q)
          ≡ option_map (joined (cond (on == q) (port_of actor port ∷ ports_for q actor (port + 1) others) (ports_for q actor (port + 1) others))) (get t.results q)
      same e =
          ap (option_map (joined (ports_for q actor (port + 1) others)))
          (ap (get (waited t on (port_of actor port)).results) e ∙ waited_same t on (port_of actor port) have.0 ∙ ap (λ k. option_map (joined (port_of actor port ∷ [])) (get t.results k)) (sym e))
          ∙ option_twice (port_of actor port ∷ []) (ports_for q actor (port + 1) others) (get t.results q)
          ∙ ap (λ b. option_map (joined (cond b (port_of actor port ∷ ports_for q actor (port + 1) others) (ports_for q actor (port + 1) others))) (get t.results q)) (sym (eq-eqb on q (sym e)))

      differs : (q ≡ on → ⊥) → option_map (joined (ports_for q actor (port + 1) others)) (get (waited t on (port_of actor port)).results q)
          ≡ option_map (joined (cond (on == q) (port_of actor port ∷ ports_for q actor (port + 1) others) (ports_for q actor (port + 1) others))) (get t.results q)
      differs e =
          ap (option_map (joined (ports_for q actor (port + 1) others))) (waited_other t on q (port_of actor port) have.0 e)
          ∙ ap (λ b. option_map (joined (cond b (port_of actor port ∷ ports_for q actor (port + 1) others) (ports_for q actor (port + 1) others))) (get t.results q)) (sym (ne_eqb on q (λ s. e (sym s))))

same_due : (t u : ResultTable) (actor port : ℕ) (passed : Passed) → ((q : ℕ) → is_known_at u q ≡ is_known_at t q) → ports_due u actor port passed ≡ ports_due t actor port passed
same_due t u actor port [] same = refl
same_due t u actor port (None ∷ others) same = same_due t u actor (port + 1) others same
same_due t u actor port (Some on ∷ others) same =
    ap₂ (λ b (due : List Due). if b then (record { consumer = port_of actor port; from = on }) ∷ due else due) (same on) (same_due t u actor (port + 1) others same)

due_is : (t : ResultTable) (actor port : ℕ) (passed : Passed) → HaveResults t passed → (opened_from t actor port passed).due ≡ t.due ++ ports_due t actor port passed
due_is t actor port [] have = sym (append-nil t.due)
due_is t actor port (None ∷ others) have = due_is t actor (port + 1) others have
due_is t actor port (Some on ∷ others) have =
    due_is (waited t on (port_of actor port)) actor (port + 1) others (all_there t on (port_of actor port) others have.0 have.1)
    ∙ ap₂ (λ (a b : List Due). a ++ b) (waited_due t on (port_of actor port) have.0)
    (same_due t (waited t on (port_of actor port)) actor (port + 1) others (λ q. waited_known t on q (port_of actor port) have.0))
    ∙ at (is_known_at t on) where
      at : (b : Bool) → (t.due ++ (if b then (record { consumer = port_of actor port; from = on }) ∷ [] else [])) ++ ports_due t actor (port + 1) others
          ≡ t.due ++ (if b then (record { consumer = port_of actor port; from = on }) ∷ ports_due t actor (port + 1) others else ports_due t actor (port + 1) others)
      at true = append_assoc t.due ((record { consumer = port_of actor port; from = on }) ∷ []) (ports_due t actor (port + 1) others)
      at false = ap (λ (a : List Due). a ++ ports_due t actor (port + 1) others) (append-nil t.due)

pub has_opened : (t : ResultTable) (actor : ℕ) (passed : Passed) → HaveResults t passed → HasOpened t actor passed (opened_with t actor passed)
has_opened t actor passed have = record {
  new = new_is t actor 0 passed have;
  others = λ q other. other_is t actor 0 q passed have other;
  due = due_is t actor 0 passed have;
}
