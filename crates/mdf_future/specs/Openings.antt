-- The result of one more actor, whose ports wait for results.
use Rattle.std.specs.Prelude.{◌≡◌, ℕ, ◌+◌, ◌==◌, Bool, false, List, [], ◌∷◌, ◌++◌, Option, Some, None, IsSome, if◌then◌else◌}
use Rattle.std.specs.FinMap.{get}
use Rattle.std.specs.Option.{option_map, option_map_or}
use Rattle.mdf_future.specs.declared.consumer.Consumer.{Consumer}
use Rattle.mdf_future.specs.declared.consumer.Consumer.TheVariants as consumer
use Rattle.mdf_future.specs.declared.consumer.Due.{Due}
use Rattle.mdf_future.specs.declared.future.Fate.TheVariants as fate
use Rattle.mdf_future.specs.declared.future.Future.{Future}
use Rattle.mdf_future.specs.Results.{ResultTable, is_known, opened, waited}

-- for each port the actor whose result is passed there, if that is a result of an actor
abbrev pub Passed : Type 0
Passed = List (Option ℕ)

-- each of these actors has a result
abbrev pub HaveResults : ResultTable → Passed → Type 0
HaveResults t [] = Unit {0}
HaveResults t (None ∷ others) = HaveResults t others
HaveResults t (Some on ∷ others) = IsSome (get t.results on) × HaveResults t others

abbrev pub port_of : ℕ → ℕ → Consumer
port_of actor port = consumer.Port (record { actor = actor; port = port })

-- with an open result of one more actor, whose ports from this one on wait for what is passed there
abbrev pub opened_from : ResultTable → ℕ → ℕ → Passed → ResultTable
opened_from t actor port [] = opened t actor
opened_from t actor port (None ∷ others) = opened_from t actor (port + 1) others
opened_from t actor port (Some on ∷ others) = opened_from (waited t on (port_of actor port)) actor (port + 1) others

abbrev pub opened_with : ResultTable → ℕ → Passed → ResultTable
opened_with t actor passed = opened_from t actor 0 passed

-- ---- what each result has then

-- the ports to which the result of an actor is passed
abbrev pub ports_for : ℕ → ℕ → ℕ → Passed → List Consumer
ports_for q actor port [] = []
ports_for q actor port (None ∷ others) = ports_for q actor (port + 1) others
ports_for q actor port (Some on ∷ others) =
    if on == q then port_of actor port ∷ ports_for q actor (port + 1) others else ports_for q actor (port + 1) others

-- a result that isn't known, with so many more consumers
abbrev pub joined : List Consumer → Future → Future
joined more f = if is_known f.fate then f else record f { consumers = f.consumers ++ more }

abbrev pub is_known_at : ResultTable → ℕ → Bool
is_known_at t on = option_map_or (λ f. is_known f.fate) (get t.results on) false

-- the ports to which known results are passed
abbrev pub ports_due : ResultTable → ℕ → ℕ → Passed → List Due
ports_due t actor port [] = []
ports_due t actor port (None ∷ others) = ports_due t actor (port + 1) others
ports_due t actor port (Some on ∷ others) =
    if is_known_at t on then (record { consumer = port_of actor port; from = on }) ∷ ports_due t actor (port + 1) others
    else ports_due t actor (port + 1) others

pub record HasOpened (before : ResultTable) (actor : ℕ) (passed : Passed) (after : ResultTable) : Type 0 where
  pub new : get after.results actor ≡ Some (record { fate = fate.Open; consumers = [] })
  pub others : (q : ℕ) → (q ≡ actor → ⊥) → get after.results q ≡ option_map (joined (ports_for q actor 0 passed)) (get before.results q)
  pub due : after.due ≡ before.due ++ ports_due before actor 0 passed
