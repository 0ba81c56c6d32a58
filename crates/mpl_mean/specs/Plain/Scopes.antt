-- What the names of a body stand for, before it runs.
use Rattle.std.specs.Prelude.{ℕ, ◌+◌, Bool, true, false, List, [], ◌∷◌, length, map, Option, Some, None, if◌then◌else◌}
use Rattle.std.specs.Str.{bytes_eq}
use Rattle.mpl_ast.specs.declared.class.Formal.{Formal}
use Rattle.mpl_ast.specs.declared.expression.Target.{Target}
use Rattle.mpl_ast.specs.declared.expression.Target.TheVariants as target
use Rattle.mpl_ast.specs.declared.program.Declaration.{Declaration}
use Rattle.mpl_ast.specs.declared.statement.TypeName.{TypeName}
use Rattle.mpl_mean.specs.Meaning.BodyMeaning.{of_object}
use Rattle.mpl_mean.specs.Meaning.Layout.{Class, Function, Member, Part, class_of_type, dimension_of, part_named, parts_of, parts_of_type, words_of}
use Rattle.mpl_mean.specs.Plain.Expr.{Expr, Whole}
use Rattle.mpl_mean.specs.Plain.Stmt.{NewLocal, Stmt}
use Rattle.mpl_mean.specs.Plain.Stmt as stmt

-- a variable, but for what it holds
pub record Shape : Type 0 where
  pub name : List ℕ
  pub type : TypeName
  pub dimension : Option ℕ

-- a variable of the scope, by the number of those that are older
pub record Slot : Type 0 where
  pub number : ℕ
  pub shape : Shape

-- what surrounds a statement
pub record Env : Type 0 where
  pub declarations : List Declaration
  -- the members that `self` has, and the parts of the object's state
  pub members : List Member
  pub parts : List Part
  -- the newest first
  pub scope : List Shape

-- the newest variable of a name
abbrev pub slot_named : List ℕ → List Shape → Option Slot
slot_named name [] = None
slot_named name (shape ∷ older) = if bytes_eq shape.name name then Some (record { number = length older; shape = shape }) else slot_named name older

-- ---- places

-- what a place stands for, without what is held there
pub record Found : Type 0 where
  pub slot : Option Slot
  pub offset : ℕ
  pub words : ℕ
  pub type : TypeName
  pub is_whole : Bool

abbrev pub found_part : Option Slot → ℕ → Option Part → Option Found
found_part slot offset None = None
found_part slot offset (Some part) = Some (record { slot = slot; offset = offset + part.offset; words = part.words; type = part.type; is_whole = false })

abbrev pub found_name : Env → Option Slot → List ℕ → Option Found
found_name env (Some slot) name =
    Some (record { slot = Some slot; offset = 0; words = words_of env.declarations slot.shape.type slot.shape.dimension; type = slot.shape.type; is_whole = true })
found_name env None name = found_part None 0 (part_named name env.parts)

abbrev pub found_field : Env → List ℕ → Option Found → Option Found
found_field env field None = None
found_field env field (Some found) = found_part found.slot found.offset (part_named field (parts_of_type env.declarations found.type))

abbrev pub found_at : Env → Target → Option Found
found_at env (target.Variable at variable) = found_name env (slot_named variable.text env.scope) variable.text
found_at env (target.Field at variable field) = found_field env field.text (found_name env (slot_named variable.text env.scope) variable.text)

abbrev pub class_found : Env → Option Found → Option Class
class_found env None = None
class_found env (Some found) = class_of_type env.declarations found.type

-- the formal or local that an expression is, if it is one
abbrev pub slot_of_target : Env → Target → Option Slot
slot_of_target env (target.Variable at variable) = slot_named variable.text env.scope
slot_of_target env (target.Field at variable field) = None

abbrev pub whole_slot : Env → Expr → Option Slot
whole_slot env (Whole at target) = slot_of_target env target
whole_slot env other = None

-- ---- what surrounds the next statement

abbrev pub with_scope : Env → List Shape → Env
with_scope env scope = record env { scope = scope }

abbrev pub declares : TypeName → NewLocal → Env → Env
declares type local env = with_scope env (record { name = local.name.text; type = type; dimension = dimension_of local.dimension } ∷ env.scope)

abbrev pub declares_all : TypeName → List NewLocal → Env → Env
declares_all type [] env = env
declares_all type (local ∷ locals) env = declares_all type locals (declares type local env)

-- a block's own variables go with it
abbrev pub behind : Stmt → Env → Env
behind (stmt.Locals type locals) env = declares_all type locals env
behind other env = env

-- ---- what surrounds a body

abbrev pub formal_shape : Formal → Shape
formal_shape formal = record { name = formal.name.text; type = formal.type_name; dimension = None }

abbrev pub function_env : List Declaration → Function → Env
function_env ds function = record { declarations = ds; members = []; parts = []; scope = map formal_shape function.formals }

-- a member sees what its object has: nothing where its class is regular
abbrev pub member_env : List Declaration → Class → Member → Env
member_env ds class member = record {
  declarations = ds;
  members = of_object class class.members;
  parts = of_object class (parts_of ds class.state);
  scope = map formal_shape member.formals;
}

-- a member of a regular class, as it is called in place
abbrev pub regular_env : List Declaration → Member → Env
regular_env ds member = record { declarations = ds; members = []; parts = []; scope = map formal_shape member.formals }

abbrev pub main_env : List Declaration → Env
main_env ds = record { declarations = ds; members = []; parts = []; scope = [] }
