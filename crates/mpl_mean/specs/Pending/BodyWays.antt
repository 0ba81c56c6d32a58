-- The ways through expressions, statements and bodies, in the order of evaluation. A use has the number of a node: of its
-- place, where a variable is read or a part of it is stored; of the call, where it is a receiver; of the statement, where an
-- object is created in a field of it.
use Rattle.std.specs.Prelude.{ℕ, Bool, true, false, List, [], ◌∷◌, length, Option, Some, None, if◌then◌else◌}
use Rattle.mpl_ast.specs.declared.statement.TypeName.{TypeName}
use Rattle.mpl_mean.specs.Levels.{BinaryOperator, Or, And, Equate, Compare, Add, Multiply}
use Rattle.mpl_mean.specs.Meaning.Layout.{Class}
use Rattle.mpl_mean.specs.Plain.Expr.{Expr, Exprs}
use Rattle.mpl_mean.specs.Plain.Expr as e
use Rattle.mpl_mean.specs.Plain.Stmt.{NewLocal, Stmt, Stmts}
use Rattle.mpl_mean.specs.Plain.Stmt as s
use Rattle.mpl_mean.specs.Plain.Scopes.{Env, Found, Slot, behind, class_found, declares, found_at, whole_slot}
use Rattle.mpl_mean.specs.Pending.Looseness.{Event, Loosens, Settles, Copies, Forces}
use Rattle.mpl_mean.specs.Pending.Paths.{Ways, NoEvent, Only, Then, Either, Loop, Stop}

-- ---- uses

-- the state is always known
abbrev pub forces : ℕ → Option Slot → Ways
forces node None = NoEvent
forces node (Some slot) = Only (Forces node slot.number)

abbrev pub uses : ℕ → Option Found → Ways
uses node None = NoEvent
uses node (Some found) = forces node found.slot

-- a variable of a regular class holds nothing, and is not forced
abbrev pub receives : ℕ → Option Found → Option Class → Ways
receives node found None = NoEvent
receives node found (Some class) = if class.is_regular then NoEvent else uses node found

-- ---- expressions, flows and calls

-- the right operand of `||` and `&&` is evaluated or isn't
abbrev pub binary_ways : BinaryOperator → Ways → Ways → Ways
binary_ways Or left right = Then left (Either right NoEvent)
binary_ways And left right = Then left (Either right NoEvent)
binary_ways (Equate operator) left right = Then left right
binary_ways (Compare operator) left right = Then left right
binary_ways (Add operator) left right = Then left right
binary_ways (Multiply operator) left right = Then left right

-- a whole variable is passed on as it stands
abbrev pub unless_whole : Option Slot → Ways → Ways
unless_whole (Some slot) value = NoEvent
unless_whole None value = value

abbrev mutual
  -- what is evaluated, and forced where it is a variable
  pub value_ways : Env → Expr → Ways
  value_ways env (e.Number at value) = NoEvent
  value_ways env (e.Truth at value) = NoEvent
  value_ways env (e.Own at) = NoEvent
  value_ways env (e.Input at) = NoEvent
  value_ways env (e.Whole at target) = uses at.id (found_at env target)
  value_ways env (e.Element at line target index) = Then (uses at.id (found_at env target)) (value_ways env index)
  value_ways env (e.PlainCall at function arguments) = values_ways env arguments
  value_ways env (e.Parenthesized at inner) = value_ways env inner
  value_ways env (e.Unary at line operator operand) = value_ways env operand
  value_ways env (e.Binary at line operator left right) = binary_ways operator (value_ways env left) (value_ways env right)
  value_ways env (e.CallOnOwn at member arguments) = flows_ways env arguments
  value_ways env (e.CallOnTarget at target member arguments) =
      Then (receives at.id (found_at env target) (class_found env (found_at env target))) (flows_ways env arguments)

  pub values_ways : Env → Exprs → Ways
  values_ways env e.NoExpr = NoEvent
  values_ways env (e.MoreExprs expr exprs) = Then (value_ways env expr) (values_ways env exprs)

  -- the arguments of a Mentat call
  pub flows_ways : Env → Exprs → Ways
  flows_ways env e.NoExpr = NoEvent
  flows_ways env (e.MoreExprs expr exprs) = Then (unless_whole (whole_slot env expr) (value_ways env expr)) (flows_ways env exprs)

-- what is passed on
abbrev pub flow_ways : Env → Expr → Ways
flow_ways env expr = unless_whole (whole_slot env expr) (value_ways env expr)

-- ---- what goes into a whole variable

abbrev pub held_event : ℕ → Option Slot → Event
held_event variable (Some slot) = Copies variable slot.number
held_event variable None = Settles variable

abbrev pub event_of : Env → ℕ → Expr → Event
event_of env variable (e.CallOnOwn at member arguments) = Loosens variable
event_of env variable (e.CallOnTarget at target member arguments) = Loosens variable
event_of env variable other = held_event variable (whole_slot env other)

abbrev pub becomes : Env → ℕ → Expr → Ways
becomes env variable value = Then (flow_ways env value) (Only (event_of env variable value))

-- ---- statements

abbrev pub local_ways : Env → Option Expr → Ways
local_ways env None = Only (Settles (length env.scope))
local_ways env (Some value) = becomes env (length env.scope) value

abbrev pub locals_ways : Env → TypeName → List NewLocal → Ways
locals_ways env type [] = NoEvent
locals_ways env type (local ∷ locals) = Then (local_ways env local.initialiser) (locals_ways (declares type local env) type locals)

-- A whole variable becomes the value. What goes into a part or into the state is forced, and then the variable whose part
-- it is.
abbrev pub assigned_ways : Env → ℕ → Option Slot → Expr → Option Found → Ways
assigned_ways env node (Some slot) value found = becomes env slot.number value
assigned_ways env node None value found = Then (value_ways env value) (uses node found)

abbrev pub place_ways : Env → Expr → Expr → Ways
place_ways env (e.Whole at target) value = assigned_ways env at.id (whole_slot env (e.Whole at target)) value (found_at env target)
place_ways env (e.Element at line target index) value = Then (value_ways env value) (Then (value_ways env index) (uses at.id (found_at env target)))
place_ways env other value = flow_ways env value

-- a whole variable is not forced
abbrev pub created_in : ℕ → Option Slot → Bool → Ways
created_in node (Some slot) true = Only (Settles slot.number)
created_in node (Some slot) false = Only (Forces node slot.number)
created_in node None is_whole = NoEvent

abbrev pub create_ways : ℕ → Option Found → Ways
create_ways node None = NoEvent
create_ways node (Some found) = created_in node found.slot found.is_whole

abbrev pub each_value : Env → List Expr → Ways
each_value env [] = NoEvent
each_value env (expr ∷ exprs) = Then (value_ways env expr) (each_value env exprs)

abbrev pub return_ways : Env → Option Expr → Ways
return_ways env None = Stop
return_ways env (Some expr) = Then (value_ways env expr) Stop

abbrev mutual
  pub stmt_ways : Env → Stmt → Ways
  stmt_ways env s.Nothing = NoEvent
  stmt_ways env (s.Within stmts) = stmts_ways env stmts
  stmt_ways env (s.Locals type locals) = locals_ways env type locals
  stmt_ways env (s.Assigns at place value) = place_ways env place value
  stmt_ways env (s.Calls call) = flow_ways env call
  stmt_ways env (s.Creates at target) = create_ways at.id (found_at env target)
  stmt_ways env (s.When test then_part) = Then (value_ways env test) (Either (stmt_ways env then_part) NoEvent)
  stmt_ways env (s.Branches test then_part else_part) = Then (value_ways env test) (Either (stmt_ways env then_part) (stmt_ways env else_part))
  stmt_ways env (s.Repeats test body) = Loop (value_ways env test) (stmt_ways env body)
  stmt_ways env (s.Loops first test step body) =
      Then (stmt_ways env first) (Loop (value_ways (behind first env) test) (Then (stmt_ways (behind first env) body) (stmt_ways (behind first env) step)))
  stmt_ways env (s.Prints at exprs) = each_value env exprs
  stmt_ways env (s.Gives at value) = flow_ways env value
  stmt_ways env (s.Returns at value) = return_ways env value

  pub stmts_ways : Env → Stmts → Ways
  stmts_ways env s.NoStmt = NoEvent
  stmts_ways env (s.MoreStmts stmt stmts) = Then (stmt_ways env stmt) (stmts_ways (behind stmt env) stmts)
