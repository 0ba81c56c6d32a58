-- Steps of a body that may go astray.
use Rattle.std.specs.Prelude.{ℕ, Bool, true, false, List, [], ◌∷◌, length, Option, Some, None, ℤ}
use Rattle.mpl_value.specs.declared.body.Arg.{Arg}
use Rattle.mpl_value.specs.declared.body.Arg.TheVariants.{Know, Trapped, Unknown}
use Rattle.mpl_mean.specs.Meaning.Layout.{Function, Member}
use Rattle.mpl_mean.specs.Meaning.Store.{Store, Outcome, Goes, Returns, Ends, Step, Variable, force, only_oldest, pure}

-- something as it is meant, unless it went astray
pub data Checked (A : Type 0) : Type 0 where
  Meant : A → Checked A
  Astray : Checked A

abbrev pub unless_astray : {A B : Type 0} → (A → B) → Checked A → Checked B
unless_astray f (Meant a) = Meant (f a)
unless_astray f Astray = Astray

abbrev pub CheckedStep : Type 0 → Type 0
CheckedStep A = Store → Checked (Outcome A)

-- a step that forces no variable
abbrev pub meant : {A : Type 0} → Step A → CheckedStep A
meant step store = Meant (step store)

abbrev pub goes_on : {A B : Type 0} → Checked (Outcome A) → (A → CheckedStep B) → Checked (Outcome B)
goes_on (Meant (Goes value store)) next = next value store
goes_on (Meant (Returns words store)) next = Meant (Returns words store)
goes_on (Meant (Ends end store)) next = Meant (Ends end store)
goes_on Astray next = Astray

infixl 10 ◌>?>◌
abbrev pub ◌>?>◌ : {A B : Type 0} → CheckedStep A → (A → CheckedStep B) → CheckedStep B
(step >?> next) store = goes_on (step store) next

-- one after another, with the list of their values
abbrev pub checked_all : {A : Type 0} → List (CheckedStep A) → CheckedStep (List A)
checked_all [] = meant (pure [])
checked_all (step ∷ others) = step >?> (λ value. checked_all others >?> (λ values. meant (pure (value ∷ values))))

-- one after another
abbrev pub checked_in_turn : List (CheckedStep (Unit {0})) → CheckedStep (Unit {0})
checked_in_turn [] = meant (pure tt)
checked_in_turn (step ∷ others) = step >?> (λ _. checked_in_turn others)

-- the variables declared in it go out of scope with it
abbrev pub checked_in_scope : {A : Type 0} → CheckedStep A → CheckedStep A
checked_in_scope step store = unless_astray (only_oldest (length store.variables)) (step store)

-- ---- forced uses

-- a use of what isn't known, marked or not
abbrev pub force_unknown : Bool → Arg → CheckedStep (List ℤ)
force_unknown true holds = meant (force holds)
force_unknown false holds = λ store. Astray

abbrev pub checked_force : Bool → Arg → CheckedStep (List ℤ)
checked_force is_marked (Know words) = meant (pure words)
checked_force is_marked (Trapped trap) = force_unknown is_marked (Trapped trap)
checked_force is_marked Unknown = force_unknown is_marked Unknown

-- ---- what surrounds a checked body

-- What a checked body asks from below: a plain function and a regular member, each with its arguments.
pub record CheckedCallees : Type 0 where
  pub plain : Function → List (List ℤ) → CheckedStep (List ℤ)
  pub regular : Member → List (List ℤ) → CheckedStep Arg

-- the uses that are marked, by the numbers of their nodes, and what is called
pub record Checking : Type 0 where
  pub marks : ℕ → Bool
  pub callees : CheckedCallees
