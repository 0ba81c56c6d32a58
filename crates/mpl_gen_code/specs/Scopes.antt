-- What the names of a body stand for, before it runs.
use Rattle.std.specs.Prelude.{ℕ, ◌+◌, Bool, true, false, List, [], ◌∷◌, ◌++◌, length, Option, Some, None, if◌then◌else◌}
use Rattle.std.specs.Str.{bytes_eq}
use Rattle.mpl_ast.specs.declared.class.Formal.{Formal}
use Rattle.mpl_ast.specs.declared.expression.Target.{Target}
use Rattle.mpl_ast.specs.declared.expression.Target.TheVariants as target
use Rattle.mpl_ast.specs.declared.program.Declaration.{Declaration}
use Rattle.mpl_ast.specs.declared.statement.TypeName.{TypeName}
use Rattle.mpl_mean.specs.Meaning.CallMeaning.{MayName}
use Rattle.mpl_mean.specs.Meaning.Layout.{Class, Member, Part, class_of_type, part_named, parts_of_type, words_of}

-- a variable, but for what it holds
pub record Shape : Type 0 where
  pub name : List ℕ
  pub type : TypeName
  pub dimension : Option ℕ

-- a variable of the scope, by its number
pub record Slot : Type 0 where
  pub number : ℕ
  pub shape : Shape

-- how a body ends: `main` or a member at the line of its last `}`, or a plain function that gives so many words
pub data Finish : Type 0 where
  OfBody : (line : ℕ) → Finish
  OfFunction : (words : ℕ) (line : ℕ) → Finish

-- what surrounds a statement
pub record Env : Type 0 where
  pub declarations : List Declaration
  -- the uses by their nodes' numbers, before which a variable is needed
  pub marks : ℕ → Bool
  pub finish : Finish
  -- the members that `self` has, and the parts of the object's state
  pub members : List Member
  pub parts : List Part
  -- the variables in scope: the formals from the first to the last, and before them the locals, the newest first
  pub scope : List Slot
  -- the words of each variable so far, by their numbers
  pub sizes : List ℕ

-- ---- variables

abbrev pub words_of_shape : List Declaration → Shape → ℕ
words_of_shape ds shape = words_of ds shape.type shape.dimension

-- one more variable, with the next number
abbrev pub with_variable : Shape → Env → Env
with_variable shape env = record env {
  scope = record { number = length env.sizes; shape = shape } ∷ env.scope;
  sizes = env.sizes ++ words_of_shape env.declarations shape ∷ [];
}

-- one more variable that has no name
abbrev pub with_hidden : ℕ → Env → Env
with_hidden words env = record env { sizes = env.sizes ++ words ∷ [] }

-- Behind a block its variables have no names any more, and their numbers aren't used again.
abbrev pub out_of : Env → Env → Env
out_of outer inner = record inner { scope = outer.scope }

abbrev pub formal_shape : Formal → Shape
formal_shape formal = record { name = formal.name.text; type = formal.type_name; dimension = None }

abbrev pub formals_from : ℕ → List Formal → List Slot
formals_from number [] = []
formals_from number (formal ∷ formals) = record { number = number; shape = formal_shape formal } ∷ formals_from (number + 1) formals

-- the newest variable of a name
abbrev pub slot_named : List ℕ → List Slot → Option Slot
slot_named name [] = None
slot_named name (slot ∷ older) = if bytes_eq slot.shape.name name then Some slot else slot_named name older

abbrev pub whole_slot : Env → MayName → Option Slot
whole_slot env None = None
whole_slot env (Some name) = slot_named name env.scope

-- ---- places

-- what a place stands for, without what is held there
pub record Found : Type 0 where
  pub slot : Option Slot
  pub offset : ℕ
  pub words : ℕ
  pub type : TypeName
  pub is_whole : Bool

abbrev pub found_part : Option Slot → ℕ → Option Part → Option Found
found_part slot offset None = None
found_part slot offset (Some part) = Some (record { slot = slot; offset = offset + part.offset; words = part.words; type = part.type; is_whole = false })

abbrev pub found_name : Env → Option Slot → List ℕ → Option Found
found_name env (Some slot) name =
    Some (record { slot = Some slot; offset = 0; words = words_of_shape env.declarations slot.shape; type = slot.shape.type; is_whole = true })
found_name env None name = found_part None 0 (part_named name env.parts)

abbrev pub found_field : Env → List ℕ → Option Found → Option Found
found_field env field None = None
found_field env field (Some found) = found_part found.slot found.offset (part_named field (parts_of_type env.declarations found.type))

abbrev pub found_at : Env → Target → Option Found
found_at env (target.Variable at variable) = found_name env (slot_named variable.text env.scope) variable.text
found_at env (target.Field at variable field) = found_field env field.text (found_name env (slot_named variable.text env.scope) variable.text)

abbrev pub class_found : Env → Option Found → Option Class
class_found env None = None
class_found env (Some found) = class_of_type env.declarations found.type
