-- The ways through the bodies of a program, by its declarations.
use Rattle.std.specs.Prelude.{ℕ, Bool, true, false, List, [], ◌∷◌, ◌⊎◌, flat_map, map}
use Rattle.std.specs.List.{Contains}
use Rattle.mpl_ast.specs.declared.class.Formal.{Formal}
use Rattle.mpl_ast.specs.declared.class.Item.{Item}
use Rattle.mpl_ast.specs.declared.class.Item.TheVariants as item
use Rattle.mpl_ast.specs.declared.program.Declaration.{Declaration}
use Rattle.mpl_ast.specs.declared.program.Declaration.TheVariants as declaration
use Rattle.mpl_ast.specs.declared.statement.Statement.{Statement}
use Rattle.mpl_mean.specs.Meaning.Layout.{formals_of, is_regular}
use Rattle.mpl_mean.specs.Pending.BodyWays.{stmts_ways}
use Rattle.mpl_mean.specs.Pending.MayBePending.{AnyMarked}
use Rattle.mpl_mean.specs.Pending.Paths.{Ways}
use Rattle.mpl_mean.specs.Plain.Scopes.{formal_shape}
use Rattle.mpl_mean.specs.Plain.Stmt.{stmts_from}
use Rattle.mpl_depend.specs.Internal.SeenScope.{env_of}

abbrev pub body_ways : List Declaration → List Item → List Formal → List Statement → Ways
body_ways ds state formals statements = stmts_ways (env_of ds state (map formal_shape formals)) (stmts_from statements)

-- members of a regular class see no state
abbrev pub state_in : Bool → List Item → List Item
state_in true items = []
state_in false items = items

abbrev pub function_row : List Declaration → Declaration → List Ways
function_row ds (declaration.Struct at line struct fields) = []
function_row ds (declaration.Class at line kind class items) = []
function_row ds (declaration.Function at result function formals body) = body_ways ds [] (formals_of formals) body.statements ∷ []

abbrev pub item_row : List Declaration → List Item → Item → List Ways
item_row ds state (item.OfField at field) = []
item_row ds state (item.Member at result name formals body) = body_ways ds state (formals_of formals) body.statements ∷ []
item_row ds state (item.Select at line entries) = []
item_row ds state (item.Public at) = []
item_row ds state (item.Private at) = []
item_row ds state (item.Empty at) = []

abbrev pub class_row : List Declaration → Declaration → List Ways
class_row ds (declaration.Struct at line struct fields) = []
class_row ds (declaration.Class at line kind class items) = flat_map (item_row ds (state_in (is_regular kind) items)) items
class_row ds (declaration.Function at result function formals body) = []

-- the uses that are marked in bodies are added to others
pub record Adds (row : List Ways) (before after : List ℕ) : Type 0 where
  pub kept : (node : ℕ) → Contains before node → Contains after node
  pub sound : (node : ℕ) → Contains after node → Contains before node ⊎ AnyMarked row node
  pub complete : (node : ℕ) → AnyMarked row node → Contains after node
