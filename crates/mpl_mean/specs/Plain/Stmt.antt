-- Statements as plain data. The parts that a statement may do without are `Nothing` where that does the same.
use Rattle.std.specs.Prelude.{List, [], ◌∷◌, map, Option, Some, None}
use Rattle.std.specs.Option.{option_map}
use Rattle.mpl_ast.specs.declared.expression.Target.{Target}
use Rattle.mpl_ast.specs.declared.flow.Assignment.{Assignment}
use Rattle.mpl_ast.specs.declared.place.At.{At}
use Rattle.mpl_ast.specs.declared.place.Name.{Name}
use Rattle.mpl_ast.specs.declared.statement.Block.{Block, Block-F}
use Rattle.mpl_ast.specs.declared.statement.Declarator.{Declarator}
use Rattle.mpl_ast.specs.declared.statement.Declarator.TheVariants.{Plain, Initialized}
use Rattle.mpl_ast.specs.declared.statement.Dimension.{Dimension}
use Rattle.mpl_ast.specs.declared.statement.ForStart.{ForStart}
use Rattle.mpl_ast.specs.declared.statement.ForStart.TheVariants.{Declare, Assign}
use Rattle.mpl_ast.specs.declared.statement.Local.{Local}
use Rattle.mpl_ast.specs.declared.statement.Statement.{Statement, fold-Statement}
use Rattle.mpl_ast.specs.declared.statement.Statement.TheOpen.{Statement-F}
use Rattle.mpl_ast.specs.declared.statement.TypeName.{TypeName}
use Rattle.mpl_mean.specs.Plain.Expr.{Expr, expr_of, expr_of_place, expr_of_flow, expr_of_call}

-- a name that is declared, with its dimension or its initialiser
pub record NewLocal : Type 0 where
  pub name : Name
  pub dimension : Option Dimension
  pub initialiser : Option Expr

mutual
  pub data Stmt : Type 0 where
    Nothing : Stmt
    Within : Stmts → Stmt
    Locals : TypeName → List NewLocal → Stmt
    Assigns : (at : At) → (place : Expr) → (value : Expr) → Stmt
    Calls : Expr → Stmt
    Creates : (at : At) → Target → Stmt
    -- without an `else`, and with one
    When : (test : Expr) → Stmt → Stmt
    Branches : (test : Expr) → Stmt → Stmt → Stmt
    Repeats : (test : Expr) → Stmt → Stmt
    -- its start, its test, its step and its body
    Loops : Stmt → Expr → Stmt → Stmt → Stmt
    Prints : (at : At) → List Expr → Stmt
    Gives : (at : At) → Expr → Stmt
    Returns : (at : At) → Option Expr → Stmt

  pub data Stmts : Type 0 where
    NoStmt : Stmts
    MoreStmts : Stmt → Stmts → Stmts

abbrev pub in_turn : List Stmt → Stmts
in_turn [] = NoStmt
in_turn (stmt ∷ stmts) = MoreStmts stmt (in_turn stmts)

abbrev pub if_any : Option Stmt → Stmt
if_any None = Nothing
if_any (Some stmt) = stmt

abbrev pub new_local : Declarator → NewLocal
new_local (Plain at variable dimension) = record { name = variable; dimension = dimension; initialiser = None }
new_local (Initialized at variable value) = record { name = variable; dimension = None; initialiser = Some (expr_of_flow value) }

abbrev pub locals : Local → Stmt
locals l = Locals l.type_name (map new_local l.declarators)

abbrev pub assigns : Assignment → Stmt
assigns a = Assigns a.at (expr_of_place a.place) (expr_of_flow a.value)

abbrev pub starts : ForStart → Stmt
starts (Declare local) = locals local
starts (Assign assignment) = assigns assignment

abbrev pub branches : Expr → Stmt → Option Stmt → Stmt
branches test then_part None = When test then_part
branches test then_part (Some else_part) = Branches test then_part else_part

abbrev pub block_step : Block-F Stmt Stmts → Stmts
block_step b = in_turn b.statements

abbrev pub statement_step : Statement-F Stmt Stmts → Stmt
statement_step (Statement-F.OfBlock at block) = Within block
statement_step (Statement-F.Declare at local) = locals local
statement_step (Statement-F.Assign at assignment) = assigns assignment
statement_step (Statement-F.CallAlone at call) = Calls (expr_of_call call)
statement_step (Statement-F.Create at target) = Creates at target
statement_step (Statement-F.If at test then_part else_part) = branches (expr_of test) then_part else_part
statement_step (Statement-F.While at test body) = Repeats (expr_of test) body
statement_step (Statement-F.For at head body) =
    Loops (if_any (option_map starts head.start)) (expr_of head.test) (if_any (option_map assigns head.step)) body
statement_step (Statement-F.Print at arguments) = Prints at (map expr_of arguments)
statement_step (Statement-F.Rtf at value) = Gives at (expr_of_flow value)
statement_step (Statement-F.Return at value) = Returns at (option_map expr_of value)
statement_step (Statement-F.Empty at) = Nothing

abbrev pub stmt_of : Statement → Stmt
stmt_of = fold-Statement Stmt Stmts statement_step block_step

abbrev pub stmts_from : List Statement → Stmts
stmts_from statements = in_turn (map stmt_of statements)

-- the statements of a body
abbrev pub stmts_of : Block → Stmts
stmts_of b = stmts_from b.statements
