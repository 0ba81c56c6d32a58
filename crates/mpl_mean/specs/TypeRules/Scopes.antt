-- What surrounds a node: the program, a class, a body, and the variables in scope.
use Rattle.std.specs.Prelude.{ℕ, Bool, true, false, not, List, [], ◌∷◌, ◌++◌, flat_map, codes, Option, Some, None, if◌then◌else◌}
use Rattle.std.specs.Str.{bytes_eq}
use Rattle.mpl_ast.specs.declared.class.Item.{Item}
use Rattle.mpl_ast.specs.declared.class.ResultType.{ResultType}
use Rattle.mpl_ast.specs.declared.program.Declaration.{Declaration}
use Rattle.mpl_ast.specs.declared.statement.TypeName.{TypeName}
use Rattle.mpl_mean.specs.Meaning.Layout.{Function, function_named, state_of}
use Rattle.mpl_mean.specs.TypeRules.Types.{Declared, InState, names, first_named, declared_fields}

pub data Body : Type 0 where
  NoBody : Body
  InGuard : Body
  InMain : Body
  InFunction : TypeName → Body
  InMember : ResultType → Body

pub record Surrounding : Type 0 where
  pub name : List ℕ
  pub is_regular : Bool
  pub items : List Item

pub record Environment : Type 0 where
  pub declarations : List Declaration
  pub class : Option Surrounding
  pub body : Body
  pub formals : List Declared
  -- the locals so far of the blocks around, the innermost block first, and those of a block in their order
  pub blocks : List (List Declared)

-- at the top of a program
abbrev pub at_top : List Declaration → Environment
at_top ds = record { declarations = ds; class = None; body = NoBody; formals = []; blocks = [] }

abbrev pub in_class : Surrounding → Environment → Environment
in_class class environment = record environment { class = Some class }

abbrev pub in_body : Body → List Declared → Environment → Environment
in_body body formals environment = record environment { body = body; formals = formals; blocks = [] ∷ [] }

abbrev pub in_block : Environment → Environment
in_block environment = record environment { blocks = [] ∷ environment.blocks }

abbrev pub with_last : Declared → List (List Declared) → List (List Declared)
with_last d [] = (d ∷ []) ∷ []
with_last d (block ∷ blocks) = (block ++ d ∷ []) ∷ blocks

-- behind the declarator of a local
abbrev pub behind : Declared → Environment → Environment
behind d environment = record environment { blocks = with_last d environment.blocks }

-- ---- variables

abbrev pub state_members : Option Surrounding → List Declared
state_members None = []
state_members (Some class) = declared_fields InState (state_of class.items)

-- from the inside: the locals of the blocks, the formals, the state members
abbrev pub variables : Environment → List Declared
variables environment = flat_map (λ block. block) environment.blocks ++ environment.formals ++ state_members environment.class

abbrev pub variable_of : Environment → List ℕ → Option Declared
variable_of environment name = first_named name (variables environment)

abbrev pub locals_beside : List (List Declared) → List Declared → List (List ℕ)
locals_beside [] formals = names formals
locals_beside (block ∷ []) formals = names block ++ names formals
locals_beside (block ∷ outer ∷ others) formals = names block

-- The names from which a new local's differs: those of its block, and in the outermost block those of the formals.
abbrev pub names_beside : Environment → List (List ℕ)
names_beside environment = locals_beside environment.blocks environment.formals

-- ---- functions and bodies

abbrev pub is_main : List ℕ → Bool
is_main name = bytes_eq name (codes "main")

-- a declared function other than `main`
abbrev pub plain_function : Environment → List ℕ → Option Function
plain_function environment name = if is_main name then None else function_named name environment.declarations

abbrev pub is_in_main : Body → Bool
is_in_main InMain = true
is_in_main body = false

abbrev pub is_in_member : Body → Bool
is_in_member (InMember result) = true
is_in_member body = false

abbrev pub is_persistent : Option Surrounding → Bool
is_persistent None = false
is_persistent (Some class) = not class.is_regular
