-- The nodes of statements that the type rules speak of, in the scopes of the blocks around them.
use Rattle.std.specs.Prelude.{ℕ, Bool, ◌&&◌, is_none, List, [], ◌∷◌, ◌++◌, flat_map, Option, Some, None}
use Rattle.std.specs.List.{list_all}
use Rattle.mpl_ast.specs.declared.statement.Dimension.{Dimension}
use Rattle.mpl_ast.specs.declared.statement.TypeName.{TypeName}
use Rattle.mpl_ast.specs.declared.statement.TypeName.TheVariants as type
use Rattle.mpl_mean.specs.Plain.Stmt.{Stmt, Stmts, NewLocal}
use Rattle.mpl_mean.specs.Plain.Stmt as stmt
use Rattle.mpl_mean.specs.TypeRules.Nodes.{Node, Located, place, expr_nodes, statement_call_nodes, target_nodes}
use Rattle.mpl_mean.specs.TypeRules.Nodes as node
use Rattle.mpl_mean.specs.Plain.Expr.{Expr, begins}
use Rattle.mpl_mean.specs.TypeRules.Scopes.{Environment, in_block, behind, names_beside}
use Rattle.mpl_mean.specs.TypeRules.Types.{Declared, Role, AsLocal}

-- ---- going over statements

-- the nodes of some statements, and what surrounds those behind them
pub record Walked : Type 0 where
  pub nodes : List Located
  pub after : Environment

abbrev pub Walks : Type 0
Walks = Environment → Walked

infixr 10 ◌⨾◌
abbrev pub ◌⨾◌ : Walks → Walks → Walks
(a ⨾ b) environment = record { nodes = (a environment).nodes ++ (b (a environment).after).nodes; after = (b (a environment).after).after }

abbrev pub no_node : Walks
no_node environment = record { nodes = []; after = environment }

abbrev pub with_nodes : (Environment → List Located) → Walks
with_nodes nodes environment = record { nodes = nodes environment; after = environment }

-- a local, which is in scope from here on
abbrev pub declares : Declared → Walks
declares d environment = record { nodes = []; after = behind d environment }

-- what is declared in it ends with it
abbrev pub scoped : Walks → Walks
scoped a environment = record { nodes = (a (in_block environment)).nodes; after = environment }

-- ---- the parts of statements

abbrev pub type_at : TypeName → ℕ
type_at (type.Int at) = at.span.from
type_at (type.Bool at) = at.span.from
type_at (type.Named at name) = name.from

abbrev pub type_nodes : Role → Bool → TypeName → Environment → List Located
type_nodes role bare type environment = place (type_at type) environment (node.UsedType role bare type) ∷ []

abbrev pub dimension_nodes : Environment → TypeName → Option Dimension → List Located
dimension_nodes environment type None = []
dimension_nodes environment type (Some dimension) = place dimension.number.from environment (node.ADimension type dimension.number.value) ∷ []

abbrev pub expr_walk : Expr → Walks
expr_walk expr environment = record { nodes = expr_nodes environment expr; after = environment }

abbrev pub exprs_if_any : Option Expr → Walks
exprs_if_any None = no_node
exprs_if_any (Some expr) = expr_walk expr

-- one node
abbrev pub one : ℕ → Node → Walks
one at node environment = record { nodes = place at environment node ∷ []; after = environment }

abbrev pub print_walk : List Expr → Walks
print_walk [] = no_node
print_walk (argument ∷ others) = one (begins argument) (node.Printed argument) ⨾ expr_walk argument ⨾ print_walk others

-- ---- locals

abbrev pub declared_local : TypeName → NewLocal → Declared
declared_local type new = record { role = AsLocal; name = new.name.text; type = type; dimension = new.dimension }

-- a local is in scope behind its declarator, and not in its own initialiser
abbrev pub local_walk : TypeName → NewLocal → Walks
local_walk type new =
    with_nodes (λ environment. place new.name.from environment (node.NewName new.name.text (names_beside environment)) ∷ dimension_nodes environment type new.dimension)
    ⨾ one new.name.from (node.ALocal (declared_local type new) new.initialiser)
    ⨾ exprs_if_any new.initialiser
    ⨾ declares (declared_local type new)

abbrev pub locals_walk : TypeName → List NewLocal → Walks
locals_walk type [] = no_node
locals_walk type (new ∷ others) = local_walk type new ⨾ locals_walk type others

-- without dimension and initialiser
abbrev pub is_bare : NewLocal → Bool
is_bare new = is_none new.dimension && is_none new.initialiser

-- ---- statements

-- The statement of a loop or branch is a scope of its own, also where it is a single local, and a `for` opens a block.
abbrev mutual
  pub stmt_walk : Stmt → Walks
  stmt_walk stmt.Nothing = no_node
  stmt_walk (stmt.Within stmts) = scoped (stmts_walk stmts)
  stmt_walk (stmt.Locals type locals) = with_nodes (type_nodes AsLocal (list_all is_bare locals) type) ⨾ locals_walk type locals
  stmt_walk (stmt.Assigns at target value) = one at.span.from (node.Assigned target value) ⨾ expr_walk target ⨾ expr_walk value
  stmt_walk (stmt.Calls call) = with_nodes (λ environment. statement_call_nodes environment call)
  stmt_walk (stmt.Creates at target) = one at.span.from (node.ACreate target) ⨾ with_nodes (λ environment. target_nodes environment target)
  stmt_walk (stmt.When test then_part) = one (begins test) (node.ATest test) ⨾ expr_walk test ⨾ scoped (stmt_walk then_part)
  stmt_walk (stmt.Branches test then_part else_part) =
      one (begins test) (node.ATest test) ⨾ expr_walk test ⨾ scoped (stmt_walk then_part) ⨾ scoped (stmt_walk else_part)
  stmt_walk (stmt.Repeats test body) = one (begins test) (node.ATest test) ⨾ expr_walk test ⨾ scoped (stmt_walk body)
  stmt_walk (stmt.Loops start test step body) =
      scoped (stmt_walk start ⨾ one (begins test) (node.ATest test) ⨾ expr_walk test ⨾ stmt_walk step ⨾ scoped (stmt_walk body))
  stmt_walk (stmt.Prints at arguments) = one at.span.from node.APrint ⨾ print_walk arguments
  stmt_walk (stmt.Gives at value) = one at.span.from (node.AnRtf value) ⨾ expr_walk value
  stmt_walk (stmt.Returns at value) = one at.span.from (node.AReturn value) ⨾ exprs_if_any value

  pub stmts_walk : Stmts → Walks
  stmts_walk stmt.NoStmt = no_node
  stmts_walk (stmt.MoreStmts first others) = stmt_walk first ⨾ stmts_walk others

-- ---- the locals among nodes

abbrev pub local_of : Node → List Declared
local_of (node.ALocal d initialiser) = d ∷ []
local_of other = []

abbrev pub locals_among : List Located → List Declared
locals_among nodes = flat_map (λ (p : Located). local_of p.node) nodes
