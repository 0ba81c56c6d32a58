-- What has become of an actor's result, after the calls that change it.
use Rattle.std.proofs.Common.{◌≡◌, ℕ, Bool, true, false, List, ◌++◌, [], ◌∷◌, ap, refl, sym, subst, ◌∙◌}
use Rattle.std.specs.Prelude.{Some, None, Option, IsSome, IsTrue, if◌then◌else◌}
use Rattle.std.specs.Option.{option_map, option_map_or, option_and_then}
use Rattle.std.specs.FinMap.{get, insert}
use Rattle.mpl_value.specs.declared.known.Known.{Known}
use Rattle.mdf_match.specs.Data.{words_of}
use Rattle.mdf_future.specs.Consumers.{deliveries}
use Rattle.mdf_future.specs.declared.consumer.Consumer.{Consumer}
use Rattle.mdf_future.specs.declared.future.Fate.{Fate}
use Rattle.mdf_future.specs.declared.future.Fate.TheVariants as fate
use Rattle.mdf_future.specs.declared.future.Future.{Future}
use Rattle.mdf_future.specs.declared.future.Give.{Give}
use Rattle.mdf_future.specs.Results.{ResultTable, is_known, known_of, may_become, may_give, known_words, consumers_of, opened, waited, waited_at, settled, forwarded}
use Rattle.mdf_future.specs.Openings.{HaveResults, Passed, opened_with, ports_for}
use Rattle.mdf_future.specs.Openings as openings
use Rattle.mdf_future.proofs.Opened.{has_opened}
use Rattle.machine_tests.proofs.Inserted.{get_inserted}

abbrev pub fate_in : Option Future → Option Fate
fate_in o = option_map (λ f. f.fate) o

-- what has become of an actor's result, if it has one
abbrev pub fate_of : ResultTable → ℕ → Option Fate
fate_of t actor = fate_in (get t.results actor)

pub opened_fate : (t : ResultTable) (actor : ℕ) → fate_of (opened t actor) actor ≡ Some fate.Open
opened_fate t actor = ap fate_in (get_inserted t.results actor (record { fate = fate.Open; consumers = [] }))

pub settled_fate : (t : ResultTable) (actor : ℕ) (known : Known) → fate_of (settled t actor known) actor ≡ Some (fate.Known known)
settled_fate t actor known = ap fate_in (get_inserted t.results actor (record { fate = fate.Known known; consumers = [] }))

pub forwarded_fate : (t : ResultTable) (actor other : ℕ) → fate_of (forwarded t actor other) actor ≡ Some (fate.Forwarded other)
forwarded_fate t actor other =
    ap fate_in (get_inserted t.results actor (record { fate = fate.Forwarded other; consumers = consumers_of t actor }))

-- with a consumer that is due, and with one that waits
abbrev due_now : ResultTable → ℕ → Consumer → ResultTable
due_now t on consumer = record t { due = t.due ++ deliveries on (consumer ∷ []) }

abbrev joined : ResultTable → ℕ → Consumer → Future → ResultTable
joined t on consumer f = record t { results = insert t.results on (record f { consumers = f.consumers ++ consumer ∷ [] }) }

-- neither changes what has become of the result
pub waited_fate : (t : ResultTable) (on : ℕ) (consumer : Consumer) → fate_of (waited t on consumer) on ≡ fate_of t on
waited_fate t on consumer = go (get t.results on) refl where
  branch : (f : Future) (known : Bool) → get t.results on ≡ Some f
      → fate_of (if known then due_now t on consumer else joined t on consumer f) on ≡ fate_of t on
  branch f true here = refl
  branch f false here =
      ap fate_in (get_inserted t.results on (record f { consumers = f.consumers ++ consumer ∷ [] })) ∙ sym (ap fate_in here)

  go : (o : Option Future) → get t.results on ≡ o → fate_of (waited_at t on consumer o) on ≡ fate_of t on
  go None here = refl
  go (Some f) here = branch f (is_known f.fate) here

pub has_result : (t : ResultTable) (actor : ℕ) (is : Fate) → fate_of t actor ≡ Some is → IsSome (get t.results actor)
has_result t actor is here = go (get t.results actor) here where
  go : (o : Option Future) → fate_in o ≡ Some is → IsSome o
  go None e = absurd (cc)
  go (Some f) e = refl

pub still_there : (t u : ResultTable) (actor : ℕ) → fate_of u actor ≡ fate_of t actor → IsSome (get t.results actor) → IsSome (get u.results actor)
still_there t u actor same here = go (get t.results actor) (get u.results actor) here same where
  go : (o p : Option Future) → IsSome o → fate_in p ≡ fate_in o → IsSome p
  go None p e same = absurd (cc)
  go (Some f) None e same = absurd (cc)
  go (Some f) (Some h) e same = refl

pub may_be_given : (t : ResultTable) (actor : ℕ) (give : Give) (is : Fate) → fate_of t actor ≡ Some is → IsTrue (may_become is give) → IsTrue (may_give t actor give)
may_be_given t actor give is here may = go (get t.results actor) here where
  go : (o : Option Future) → fate_in o ≡ Some is → IsTrue (option_map_or (λ f. may_become f.fate give) o false)
  go None e = absurd (cc)
  go (Some f) e = let same : f.fate ≡ is = cc in subst (λ fate. IsTrue (may_become fate give)) (sym same) may

pub words_are : (t : ResultTable) (actor : ℕ) (known : Known) → fate_of t actor ≡ Some (fate.Known known) → known_words t actor ≡ words_of known
words_are t actor known here = go (get t.results actor) here where
  go : (o : Option Future) → fate_in o ≡ Some (fate.Known known)
      → option_map_or words_of (option_and_then (λ f. known_of f.fate) o) [] ≡ words_of known
  go None e = absurd (cc)
  go (Some f) e = let same : f.fate ≡ fate.Known known = cc in ap (λ fate. option_map_or words_of (known_of fate) []) same

-- ---- an actor whose ports wait

joined_fate : (more : List Consumer) (o : Option Future) → fate_in (option_map (openings.joined more) o) ≡ fate_in o
joined_fate more None = refl
joined_fate more (Some f) = branch (is_known f.fate) where
  branch : (known : Bool) → Some (if known then f else record f { consumers = f.consumers ++ more }).fate ≡ Some f.fate
  branch true = refl
  branch false = refl

pub new_fate : (t : ResultTable) (actor : ℕ) (passed : Passed) → HaveResults t passed → fate_of (opened_with t actor passed) actor ≡ Some fate.Open
new_fate t actor passed have = ap fate_in (has_opened t actor passed have).new

pub other_fate : (t : ResultTable) (actor other : ℕ) (passed : Passed) → HaveResults t passed → (other ≡ actor → ⊥) → fate_of (opened_with t actor passed) other ≡ fate_of t other
other_fate t actor other passed have differs =
    ap fate_in ((has_opened t actor passed have).others other differs) ∙ joined_fate (ports_for other actor 0 passed) (get t.results other)
