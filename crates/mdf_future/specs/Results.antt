-- Results by the actors that give them, and what is due: how each call changes them.
use Rattle.std.specs.Prelude.{ℕ, ℤ, Bool, true, false, if◌then◌else◌, List, [], ◌∷◌, ◌++◌, Some, None, refl}
use Rattle.std.specs.declared.option.Option.{Option}
use Rattle.std.specs.Option.{option_map_or, option_and_then}
use Rattle.std.specs.Ordering.{nat_cmp}
use Rattle.std.specs.FinMap.{FinMap, get, insert}
use Rattle.std.specs.FinMap as map
use Rattle.std.specs.Coded.{Coded, code_by, coded×, coded_ℕ, coded_list}
use Rattle.mpl_value.specs.declared.known.Known.{Known}
use Rattle.mdf_match.specs.Data.{HasFewWords, words_of}
use Rattle.mdf_future.specs.Consumers.{deliveries}
use Rattle.mdf_future.specs.declared.consumer.Consumer.{Consumer}
use Rattle.mdf_future.specs.declared.consumer.Due.{Due}
use Rattle.mdf_future.specs.declared.future.Fate.{Fate}
use Rattle.mdf_future.specs.declared.future.Fate.TheVariants as fate
use Rattle.mdf_future.specs.declared.future.Future.{Future}
use Rattle.mdf_future.specs.declared.future.ResultState.{ResultState}
use Rattle.mdf_future.specs.declared.future.ResultState.TheVariants as state
use Rattle.mdf_future.specs.declared.future.Give.{Give}
use Rattle.mdf_future.specs.declared.future.Give.TheVariants as give
use Rattle.mdf_future.specs.contracts.consumer.Due as due_code
use Rattle.mdf_future.specs.contracts.future.Future as future_code

-- the results by actors, and the due consumers, the oldest first
pub record ResultTable : Type 0 where
  pub results : FinMap nat_cmp Future
  pub due : List Due

abbrev pub table_code : Coded ResultTable
table_code =
    code_by (FinMap nat_cmp Future × List Due)
    (coded× (map.code coded_ℕ future_code.the_row.coded) (coded_list due_code.the_row.coded))
    (λ t. (t.results, t.due)) (λ p. record { results = p.0; due = p.1 }) (λ _. refl)

-- what is told of a result without its value
abbrev pub state_of : Fate → ResultState
state_of fate.Open = state.Open
state_of (fate.Known _) = state.Known
state_of (fate.Forwarded other) = state.Forwarded other

-- the value of a result that is known
abbrev pub known_of : Fate → Option Known
known_of fate.Open = None
known_of (fate.Known known) = Some known
known_of (fate.Forwarded _) = None

-- the value of an actor's result, if it is known
abbrev pub known_at : ResultTable → ℕ → Option Known
known_at t actor = option_and_then (λ f. known_of f.fate) (get t.results actor)

-- the words of an actor's result
abbrev pub known_words : ResultTable → ℕ → List ℤ
known_words t actor = option_map_or words_of (known_at t actor) []

-- the consumers that wait for an actor's result
abbrev pub consumers_of : ResultTable → ℕ → List Consumer
consumers_of t actor = option_map_or (λ f. f.consumers) (get t.results actor) []

abbrev pub is_known : Fate → Bool
is_known fate.Open = false
is_known (fate.Known _) = true
is_known (fate.Forwarded _) = false

-- an open result may be settled or forwarded, and one that was forwarded may be settled
abbrev pub may_become : Fate → Give → Bool
may_become fate.Open _ = true
may_become (fate.Known _) _ = false
may_become (fate.Forwarded _) (give.Known _) = true
may_become (fate.Forwarded _) (give.Result _) = false

abbrev pub may_give : ResultTable → ℕ → Give → Bool
may_give t actor g = option_map_or (λ f. may_become f.fate g) (get t.results actor) false

-- the value that is given, if any, has few enough words
abbrev pub GivesFewWords : Give → Type 0
GivesFewWords (give.Known known) = HasFewWords known
GivesFewWords (give.Result _) = Unit {0}

-- with an open result of one more actor
abbrev pub opened : ResultTable → ℕ → ResultTable
opened t actor = record t { results = insert t.results actor (record { fate = fate.Open; consumers = [] }) }

-- with one more consumer of a result: it waits behind the others, or is due at once behind all others
abbrev pub waited_at : ResultTable → ℕ → Consumer → Option Future → ResultTable
waited_at t on c None = t
waited_at t on c (Some f) =
    if is_known f.fate then record t { due = t.due ++ deliveries on (c ∷ []) }
    else record t { results = insert t.results on (record f { consumers = f.consumers ++ c ∷ [] }) }

abbrev pub waited : ResultTable → ℕ → Consumer → ResultTable
waited t on c = waited_at t on c (get t.results on)

-- with a result that is known, whose consumers are due behind all others
abbrev pub settled : ResultTable → ℕ → Known → ResultTable
settled t actor known = record {
  results = insert t.results actor (record { fate = fate.Known known; consumers = [] });
  due = t.due ++ deliveries actor (consumers_of t actor);
}

-- with a result that is forwarded, whose consumers go on waiting
abbrev pub forwarded : ResultTable → ℕ → ℕ → ResultTable
forwarded t actor other =
    record t { results = insert t.results actor (record { fate = fate.Forwarded other; consumers = consumers_of t actor }) }

abbrev pub given : ResultTable → ℕ → Give → ResultTable
given t actor (give.Known known) = settled t actor known
given t actor (give.Result other) = forwarded t actor other
