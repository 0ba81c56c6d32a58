-- What a body has and does while it runs.
use Rattle.std.specs.Prelude.{ℕ, ◌+◌, ◌-◌, nat_lt, List, [], ◌∷◌, ◌++◌, length, drop, Option, Some, None, if◌then◌else◌, ℤ, Result, Ok, Err}
use Rattle.std.specs.Str.{bytes_eq}
use Rattle.mpl_ast.specs.declared.statement.TypeName.{TypeName}
use Rattle.mpl_value.specs.declared.body.Arg.{Arg}
use Rattle.mpl_value.specs.declared.body.Arg.TheVariants.{Know, Trapped, Unknown}
use Rattle.mpl_value.specs.declared.body.BodyEnd.{BodyEnd}
use Rattle.mpl_value.specs.declared.body.BodyEnd.TheVariants as end
use Rattle.mpl_value.specs.declared.body.BodyResult.{BodyResult}
use Rattle.mpl_value.specs.declared.body.CallMade.{CallMade}
use Rattle.mpl_value.specs.declared.known.TrapKind.{TrapKind}

-- a formal or a local: its name, its type, and what it holds
pub record Variable : Type 0 where
  pub name : List ℕ
  pub type : TypeName
  pub dimension : Option ℕ
  pub holds : Arg

-- what a body has
pub record Store : Type 0 where
  -- the variables in scope, the newest first
  pub variables : List Variable
  -- the words of its object's state
  pub state : List ℤ
  -- what was printed
  pub lines : List ℕ
  -- the numbers that are left of the input
  pub input : List ℤ
  -- the calls made on persistent objects, and the classes of the objects created
  pub calls : List CallMade
  pub creations : List ℤ
  pub result : BodyResult
  pub turns : ℕ

-- A step of a body goes on with a value, returns from a function or from the body, or ends the body.
pub data Outcome (A : Type 0) : Type 0 where
  Goes : (value : A) (store : Store) → Outcome A
  Returns : (words : List ℤ) (store : Store) → Outcome A
  Ends : (end : BodyEnd) (store : Store) → Outcome A

abbrev pub Step : Type 0 → Type 0
Step A = Store → Outcome A

abbrev pub and_then : {A B : Type 0} → Outcome A → (A → Step B) → Outcome B
and_then (Goes value store) next = next value store
and_then (Returns words store) next = Returns words store
and_then (Ends end store) next = Ends end store

infixl 10 ◌>>=◌
abbrev pub ◌>>=◌ : {A B : Type 0} → Step A → (A → Step B) → Step B
(step >>= next) store = and_then (step store) next

infixl 10 ◌>>◌
abbrev pub ◌>>◌ : {A B : Type 0} → Step A → Step B → Step B
(step >> next) store = and_then (step store) (λ _. next)

abbrev pub pure : {A : Type 0} → A → Step A
pure value store = Goes value store

abbrev pub stop : {A : Type 0} → BodyEnd → Step A
stop end store = Ends end store

-- a trap, which ends the body
abbrev pub trap : {A : Type 0} → TrapKind → ℕ → Step A
trap kind line = stop (end.Trap (record { kind = kind; line = line }))

-- a value that isn't known, which ends the body as well
abbrev pub waits : {A : Type 0} → Step A
waits = stop end.Waits

-- a number that arithmetic gives, or its trap at a line
abbrev pub computed : ℕ → Result ℤ TrapKind → Step ℤ
computed line (Ok z) = pure z
computed line (Err kind) = trap kind line

-- one more turn, of which the body has so many
abbrev pub spend : ℕ → Step (Unit {0})
spend turns store =
    if nat_lt store.turns turns then Goes tt (record store { turns = store.turns + 1 }) else Ends end.Spent (record store { turns = store.turns + 1 })

-- one after another, with the list of their values
abbrev pub all_of : {A : Type 0} → List (Step A) → Step (List A)
all_of [] = pure []
all_of (step ∷ others) = step >>= (λ value. all_of others >>= (λ values. pure (value ∷ values)))

-- one after another
abbrev pub in_turn : List (Step (Unit {0})) → Step (Unit {0})
in_turn [] = pure tt
in_turn (step ∷ others) = step >>= (λ _. in_turn others)

-- more is printed
abbrev pub printed : List ℕ → Step (Unit {0})
printed text store = Goes tt (record store { lines = store.lines ++ text })

-- ---- variables

-- To force what is known gives its words. To force a trap ends the body with it, and what isn't known waits.
abbrev pub force : Arg → Step (List ℤ)
force (Know words) = pure words
force (Trapped t) = stop (end.Trap t)
force Unknown = waits

abbrev pub variable_named : List ℕ → List Variable → Option Variable
variable_named name [] = None
variable_named name (v ∷ others) = if bytes_eq v.name name then Some v else variable_named name others

-- the newest variable of a name holds something else
abbrev pub holding : List ℕ → Arg → List Variable → List Variable
holding name value [] = []
holding name value (v ∷ others) = if bytes_eq v.name name then record v { holds = value } ∷ others else v ∷ holding name value others

abbrev pub hold : List ℕ → Arg → Step (Unit {0})
hold name value store = Goes tt (record store { variables = holding name value store.variables })

abbrev pub declare : Variable → Step (Unit {0})
declare v store = Goes tt (record store { variables = v ∷ store.variables })

-- only the oldest of the variables stay
abbrev pub oldest : ℕ → List Variable → List Variable
oldest count variables = drop (length variables - count) variables

abbrev pub only_oldest : {A : Type 0} → ℕ → Outcome A → Outcome A
only_oldest count (Goes value store) = Goes value (record store { variables = oldest count store.variables })
only_oldest count (Returns words store) = Returns words store
only_oldest count (Ends end store) = Ends end store

-- the variables declared in it go out of scope with it
abbrev pub in_scope : {A : Type 0} → Step A → Step A
in_scope step store = only_oldest (length store.variables) (step store)
