-- The least failure in statements, along their form.
use Rattle.std.specs.Prelude.{ℕ, Bool, false, not, ◌&&◌, List, [], ◌∷◌, Option, Some, None}
use Rattle.std.specs.List.{list_all, list_any}
use Rattle.std.specs.Str.{bytes_eq}
use Rattle.mpl_ast.specs.declared.class.ResultType.TheVariants.{Typed}
use Rattle.mpl_ast.specs.declared.statement.Dimension.{Dimension}
use Rattle.mpl_ast.specs.declared.statement.TypeName.{TypeName}
use Rattle.mpl_ast.specs.declared.program.Declaration.{Declaration}
use Rattle.mpl_mean.specs.Meaning.Layout.{natural}
use Rattle.mpl_mean.specs.TypeRules.CallRules.{create_may_stand, is_object}
use Rattle.mpl_mean.specs.Plain.Expr.{Expr, begins}
use Rattle.mpl_mean.specs.TypeRules.ExpressionRules.{can_be_printed, initialiser_agrees, is_no_regular}
use Rattle.mpl_mean.specs.TypeRules.NameRules.{is_meant}
use Rattle.mpl_mean.specs.TypeRules.Rules.{Failure}
use Rattle.mpl_mean.specs.TypeRules.Scopes.{Body, Environment, InFunction, InMain, InMember, behind, in_block, is_in_main, is_in_member, is_persistent, names_beside}
use Rattle.mpl_mean.specs.TypeRules.SizeRules.{is_element, is_size, meant_may_stand}
use Rattle.mpl_mean.specs.TypeRules.StatementNodes.{declared_local, is_bare, stmt_walk, type_at}
use Rattle.mpl_mean.specs.Plain.Stmt.{NewLocal, Stmt, Stmts}
use Rattle.mpl_mean.specs.Plain.Stmt as stmt
use Rattle.mpl_mean.specs.TypeRules.Types.{AsLocal, AsResult, Declared, OfBool, OfInt, Role, ValueType, agree, meant, shape_of, value_type}
use Rattle.mpl_mean.specs.TypeRules.Typing.{target_shape, type_of}
use Rattle.mpl_types.specs.Internal.Expressions.{expr_least, statement_call_least, target_least}
use Rattle.mpl_types.specs.Internal.Least.{earlier, noted}

-- ---- types and dimensions

abbrev pub type_least : List Declaration → Role → Bool → TypeName → Option Failure
type_least ds role bare type = noted (type_at type) 1 (is_meant (meant ds type)) (noted (type_at type) 4 (meant_may_stand role bare (meant ds type)) None)

abbrev pub dimension_least : TypeName → Option Dimension → Option Failure
dimension_least type None = None
dimension_least type (Some dimension) = noted dimension.number.from 5 (is_size (natural dimension.number.value) && is_element type) None

-- ---- locals

-- a local, of which these are the shape and the initialiser
abbrev pub initialiser_least : ℕ → Environment → Declared → Option Expr → Option Failure
initialiser_least at environment d None = None
initialiser_least at environment d (Some value) =
    noted at 17 (initialiser_agrees (shape_of environment.declarations (Some d)) (type_of environment value)) (expr_least environment value)

abbrev pub local_least : TypeName → NewLocal → Environment → Option Failure
local_least type new environment =
    noted new.name.from 2 (not (list_any (bytes_eq new.name.text) (names_beside environment)))
    (earlier (dimension_least type new.dimension) (initialiser_least new.name.from environment (declared_local type new) new.initialiser))

abbrev pub locals_least : TypeName → List NewLocal → Environment → Option Failure
locals_least type [] environment = None
locals_least type (new ∷ others) environment = earlier (local_least type new environment) (locals_least type others (behind (declared_local type new) environment))

-- ---- results

abbrev pub is_result : List Declaration → TypeName → Option ValueType → Bool
is_result ds type value = agree value (value_type AsResult (meant ds type))

-- where `rtf` of a value of this type may stand
abbrev pub gives : List Declaration → Body → Option ValueType → Bool
gives ds (InMember (Typed at type)) value = is_result ds type value
gives ds body value = false

-- where `return` with a value of this type may stand
abbrev pub returns : List Declaration → Body → Option ValueType → Bool
returns ds InMain value = agree value (Some OfInt)
returns ds (InFunction type) value = is_result ds type value
returns ds body value = false

abbrev pub return_least : ℕ → Environment → Option Expr → Option Failure
return_least at environment None = noted at 26 (is_in_member environment.body) None
return_least at environment (Some value) = noted at 26 (returns environment.declarations environment.body (type_of environment value)) (expr_least environment value)

-- ---- statements

abbrev pub test_least : Expr → Environment → Option Failure
test_least test environment = noted (begins test) 12 (agree (Some OfBool) (type_of environment test)) (expr_least environment test)

abbrev pub print_least : List Expr → Environment → Option Failure
print_least [] environment = None
print_least (argument ∷ others) environment =
    noted (begins argument) 13 (can_be_printed (type_of environment argument)) (earlier (expr_least environment argument) (print_least others environment))

abbrev pub after : Stmt → Environment → Environment
after s environment = (stmt_walk s environment).after

abbrev mutual
  pub stmt_least : Stmt → Environment → Option Failure
  stmt_least stmt.Nothing environment = None
  stmt_least (stmt.Within stmts) environment = stmts_least stmts (in_block environment)
  stmt_least (stmt.Locals type locals) environment =
      earlier (type_least environment.declarations AsLocal (list_all is_bare locals) type) (locals_least type locals environment)
  stmt_least (stmt.Assigns at target value) environment =
      noted at.span.from 17 (agree (type_of environment target) (type_of environment value)) (earlier (expr_least environment target) (expr_least environment value))
  stmt_least (stmt.Calls call) environment = statement_call_least environment call
  stmt_least (stmt.Creates at target) environment =
      noted at.span.from 15 (is_no_regular (target_shape environment target))
      (noted at.span.from 19 (is_object (target_shape environment target))
      (noted at.span.from 21 (create_may_stand environment.body (is_persistent environment.class)) (target_least environment target)))
  stmt_least (stmt.When test then_part) environment = earlier (test_least test environment) (stmt_least then_part (in_block environment))
  stmt_least (stmt.Branches test then_part else_part) environment =
      earlier (test_least test environment) (earlier (stmt_least then_part (in_block environment)) (stmt_least else_part (in_block environment)))
  stmt_least (stmt.Repeats test body) environment = earlier (test_least test environment) (stmt_least body (in_block environment))
  stmt_least (stmt.Loops start test step body) environment =
      earlier (stmt_least start (in_block environment))
      (earlier (test_least test (after start (in_block environment)))
      (earlier (stmt_least step (after start (in_block environment))) (stmt_least body (in_block (after step (after start (in_block environment)))))))
  stmt_least (stmt.Prints at arguments) environment = noted at.span.from 23 (is_in_main environment.body) (print_least arguments environment)
  stmt_least (stmt.Gives at value) environment = noted at.span.from 24 (gives environment.declarations environment.body (type_of environment value)) (expr_least environment value)
  stmt_least (stmt.Returns at value) environment = return_least at.span.from environment value

  pub stmts_least : Stmts → Environment → Option Failure
  stmts_least stmt.NoStmt environment = None
  stmts_least (stmt.MoreStmts first others) environment = earlier (stmt_least first environment) (stmts_least others (after first environment))
