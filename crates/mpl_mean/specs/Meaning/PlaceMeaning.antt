-- What a place stands for, and how its words are read and stored.
use Rattle.std.specs.Prelude.{ℕ, ◌+◌, Bool, true, false, List, [], Option, Some, None, ℤ}
use Rattle.mpl_ast.specs.declared.expression.Target.{Target}
use Rattle.mpl_ast.specs.declared.expression.Target.TheVariants as target
use Rattle.mpl_ast.specs.declared.statement.TypeName.{TypeName}
use Rattle.mpl_ast.specs.declared.statement.TypeName.TheVariants as type
use Rattle.mpl_value.specs.declared.body.Arg.TheVariants.{Know}
use Rattle.mpl_value.specs.declared.known.TrapKind.TheVariants.{Index}
use Rattle.mpl_mean.specs.Meaning.Context.{Context}
use Rattle.mpl_mean.specs.Meaning.Layout.{Part, part_named, parts_of_type, words_of}
use Rattle.mpl_mean.specs.Meaning.Store.{Store, Step, Goes, ◌>>=◌, pure, trap, force, hold, variable_named, Variable}
use Rattle.mpl_value.specs.Words.{words_at, with_words, index_below}
use Rattle.mpl_mean.specs.Meaning.Values.{Value}

-- Where the words of a place lie: in a variable, or else in the object's state; from which word on, and how many there
-- are; of which type they are, and whether the place is a whole variable.
pub record Location : Type 0 where
  pub variable : Option Variable
  pub offset : ℕ
  pub words : ℕ
  pub type : TypeName
  pub is_whole : Bool

abbrev pub location_of_part : Option Variable → ℕ → Option Part → Option Location
location_of_part variable offset None = None
location_of_part variable offset (Some part) =
    Some (record { variable = variable; offset = offset + part.offset; words = part.words; type = part.type; is_whole = false })

-- a name is a variable, and else a member of the state
abbrev pub location_of_name : Context → Option Variable → List ℕ → Option Location
location_of_name context (Some v) name =
    Some (record { variable = Some v; offset = 0; words = words_of context.declarations v.type v.dimension; type = v.type; is_whole = true })
location_of_name context None name = location_of_part None 0 (part_named name context.state)

abbrev pub field_of_location : Context → List ℕ → Option Location → Option Location
field_of_location context field None = None
field_of_location context field (Some location) =
    location_of_part location.variable location.offset (part_named field (parts_of_type context.declarations location.type))

abbrev pub location_of : Context → Target → Store → Option Location
location_of context (target.Variable at variable) store = location_of_name context (variable_named variable.text store.variables) variable.text
location_of context (target.Field at variable field) store =
    field_of_location context field.text (location_of_name context (variable_named variable.text store.variables) variable.text)

abbrev pub is_bool : TypeName → Bool
is_bool (type.Int at) = false
is_bool (type.Bool at) = true
is_bool (type.Named at name) = false

-- all words of the variable that a place is of, which forces it, or those of the state
abbrev pub base_of : Option Variable → Step (List ℤ)
base_of (Some v) = force v.holds
base_of None = λ store. Goes store.state store

-- the words of a spot. A place that stands for nothing has none
abbrev pub words_of_location : Option Location → Step Value
words_of_location None = pure (record { words = []; is_bool = false })
words_of_location (Some location) = base_of location.variable >>= (λ words. pure (record { words = words_at location.offset location.words words; is_bool = is_bool location.type }))

abbrev pub read : Context → Target → Step Value
read context target store = words_of_location (location_of context target store) store

abbrev pub tested_index : ℕ → Option ℕ → Step ℕ
tested_index line None = trap Index line
tested_index line (Some n) = pure n

-- the place of an index in so many elements, or the trap at the line of its bracket
abbrev pub index_of : ℕ → ℕ → ℤ → Step ℕ
index_of line dimension z = tested_index line (index_below dimension z)

-- other words of a variable or of the state from an offset on. A variable is forced before
abbrev pub put : Option Variable → ℕ → List ℤ → Step (Unit {0})
put (Some v) offset words = force v.holds >>= (λ old. hold v.name (Know (with_words offset words old)))
put None offset words = λ store. Goes tt (record store { state = with_words offset words store.state })
