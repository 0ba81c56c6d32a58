-- A consumer of one result changes no other.
use Rattle.std.proofs.Common.{◌≡◌, ◌++◌, ℕ, [], ◌∷◌, cond, Option, Some, None, Bool, true, false, refl, sym}
use Rattle.std.specs.FinMap.{get, insert}
use Rattle.mdf_future.specs.declared.consumer.Consumer.{Consumer}
use Rattle.mdf_future.specs.declared.future.Future.{Future}
use Rattle.mdf_future.specs.Consumers.{deliveries}
use Rattle.mdf_future.specs.Results.{ResultTable, is_known, waited, waited_at}
use Rattle.mdf_machine.proofs.Keyed.{inserted_there}

pub waited_there : (t : ResultTable) (on : ℕ) (c : Consumer) (k : ℕ) → (on ≡ k → ⊥) → get (waited t on c).results k ≡ get t.results k
waited_there t on c k differ = at (get t.results on) where
  put : (f : Future) (b : Bool) → get (cond b (record t { due = t.due ++ deliveries on (c ∷ []) }) (record t { results = insert t.results on (record f { consumers = f.consumers ++ c ∷ [] }) })).results k ≡ get t.results k
  put f true = refl
  put f false = inserted_there t.results on k (record f { consumers = f.consumers ++ c ∷ [] }) (λ e. differ (sym e))

  at : (o : Option Future) → get (waited_at t on c o).results k ≡ get t.results k
  at None = refl
  at (Some f) = put f (is_known f.fate)
