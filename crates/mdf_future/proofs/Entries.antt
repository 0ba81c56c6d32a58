-- The entries of the results: what a look-up finds, and how many consumers wait as they change.
use Rattle.std.proofs.Common.{◌≡◌, ℕ, ◌+◌, ◌≤◌, List, [], ◌∷◌, ap, sym, subst, ◌∙◌, length, arith}
use Rattle.std.specs.Prelude.{Some, None, Option, IsSome}
use Rattle.std.specs.Ordering.{nat_cmp, match_ordering}
use Rattle.std.specs.declared.cmp.Ordering.{Ordering}
use Rattle.std.specs.declared.cmp.Ordering.TheVariants.{Less, Equal, Greater}
use Rattle.std.specs.BTreeMap.{is_at, insert_entry}
use Rattle.std.specs.Map.{lookup, set_value, values_of}
use Rattle.std.specs.FinMap.{FinMap, get, from_entries}
use Rattle.std.proofs.lemmas.List.Sums.{sum_by-cons}
use Rattle.std.proofs.lemmas.Map.Entries.{sum_by-set_value}
use Rattle.std.proofs.lemmas.Map.Steps.{set_value_same}
use Rattle.mpl_value.proofs.Table.{lookup-get}
use Rattle.mdf_future.specs.Results.{ResultTable}
use Rattle.mdf_future.specs.Room.{waiting_in}
use Rattle.mdf_future.specs.declared.consumer.Consumer.{Consumer}
use Rattle.mdf_future.specs.declared.consumer.Due.{Due}
use Rattle.mdf_future.specs.declared.future.Fate.{Fate}
use Rattle.mdf_future.specs.declared.future.Future.{Future}

abbrev pub Entries : Type 0
Entries = List (ℕ × Future)

abbrev pub table : FinMap nat_cmp Future → List Due → ResultTable
table results due = record { results = results; due = due }

abbrev pub future : Fate → List Consumer → Future
future fate consumers = record { fate = fate; consumers = consumers }

-- what a look-up finds in the entries is what the results have
pub found : (entries : Entries) (results : FinMap nat_cmp Future) (key : ℕ) (here : Option Future) → from_entries entries ≡ results
    → here ≡ lookup (is_at (nat_cmp key)) entries → get results key ≡ here
found entries results key here is value = sym (ap (λ m. get m key) is) ∙ sym (lookup-get entries key) ∙ sym value

-- an actor whose result is found nowhere has none
pub no_result : (entries : Entries) (results : FinMap nat_cmp Future) (key : ℕ) → from_entries entries ≡ results
    → None ≡ lookup (is_at (nat_cmp key)) entries → IsSome (get results key) → ⊥
no_result entries results key is value here =
    let lost : IsSome {T = Future} None = subst (λ (o : Option Future). IsSome o) (found entries results key None is value) here in absurd (cc)

waiting-cons : (e : ℕ × Future) (es : Entries) → waiting_in (e ∷ es) ≡ length e.1.consumers + waiting_in es
waiting-cons e es = sum_by-cons (λ (f : Future). length f.consumers) e.1 (values_of es)

-- a result that nobody waits for adds no consumer
pub waiting-inserted : (es : Entries) (key : ℕ) (f : Future) → f.consumers ≡ [] → waiting_in (insert_entry nat_cmp es key f) ≤ waiting_in es
waiting-inserted [] key f none = omega (arith, waiting-cons (key, f) [], ap length none)
waiting-inserted (e ∷ es) key f none = go (nat_cmp key e.0) (waiting-inserted es key f none) where
  go : (o : Ordering) → waiting_in (insert_entry nat_cmp es key f) ≤ waiting_in es
      → waiting_in (match_ordering o ((key, f) ∷ e ∷ es) ((e.0, f) ∷ es) (e ∷ insert_entry nat_cmp es key f)) ≤ waiting_in (e ∷ es)
  go Less rest = omega (arith, waiting-cons (key, f) (e ∷ es), ap length none)
  go Equal rest = omega (arith, waiting-cons (e.0, f) es, waiting-cons e es, ap length none)
  go Greater rest = omega (arith, waiting-cons e (insert_entry nat_cmp es key f), waiting-cons e es)

-- a result is written over
pub waiting-written : (es es' : Entries) (key : ℕ) (old new : Future) → Some old ≡ lookup (is_at (nat_cmp key)) es
    → es' ≡ set_value (is_at (nat_cmp key)) es new → waiting_in es' + length old.consumers ≡ waiting_in es + length new.consumers
waiting-written es es' key old new here written =
    ap (λ (rest : Entries). waiting_in rest + length old.consumers) written
    ∙ sum_by-set_value (λ (f : Future). length f.consumers) (is_at (nat_cmp key)) es old new (sym here)

-- a result is written over by itself
pub kept : (es es' : Entries) (key : ℕ) (old : Future) → Some old ≡ lookup (is_at (nat_cmp key)) es
    → es' ≡ set_value (is_at (nat_cmp key)) es old → es' ≡ es
kept es es' key old here written = written ∙ set_value_same (is_at (nat_cmp key)) es old (sym here)
