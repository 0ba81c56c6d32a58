-- No way through a body asks for the members that are called.
use Rattle.std.proofs.Common.{◌≡◌, ℕ, List, [], ◌∷◌, Option, Some, None, length, refl, ap, ap₂, ◌∙◌}
use Rattle.mpl_ast.specs.declared.expression.Target.{Target}
use Rattle.mpl_ast.specs.declared.expression.Target.TheVariants as target
use Rattle.mpl_ast.specs.declared.statement.TypeName.{TypeName}
use Rattle.mpl_mean.specs.Pending.BodyWays.{assigned_ways, becomes, binary_ways, create_ways, each_value, event_of, flow_ways, flows_ways, held_event, local_ways, locals_ways, place_ways, receives, return_ways, stmt_ways, stmts_ways, unless_whole, uses, value_ways, values_ways}
use Rattle.mpl_mean.specs.Pending.Paths.{NoEvent, Only, Then, Either, Loop, Stop}
use Rattle.mpl_mean.specs.Plain.Expr.{Expr, Exprs}
use Rattle.mpl_mean.specs.Plain.Expr as e
use Rattle.mpl_mean.specs.Plain.Scopes.{Env, Found, Slot, behind, class_found, declares, declares_all, found_at, found_field, found_name, slot_named, slot_of_target, whole_slot}
use Rattle.mpl_mean.specs.Plain.Stmt.{NewLocal, Stmt, Stmts}
use Rattle.mpl_mean.specs.Plain.Stmt as s

abbrev pub without : Env → Env
without env = record env { members = [] }

-- ---- places

name_same : (env : Env) (slot : Option Slot) (name : List ℕ) → found_name (without env) slot name ≡ found_name env slot name
name_same env None name = refl
name_same env (Some slot) name = refl

field_same : (env : Env) (name : List ℕ) (found : Option Found) → found_field (without env) name found ≡ found_field env name found
field_same env name None = refl
field_same env name (Some found) = refl

found_same : (env : Env) (place : Target) → found_at (without env) place ≡ found_at env place
found_same env (target.Variable at variable) = name_same env (slot_named variable.text env.scope) variable.text
found_same env (target.Field at variable field) =
    field_same env field.text (found_name (without env) (slot_named variable.text env.scope) variable.text)
    ∙ ap (found_field env field.text) (name_same env (slot_named variable.text env.scope) variable.text)

class_same : (env : Env) (found : Option Found) → class_found (without env) found ≡ class_found env found
class_same env None = refl
class_same env (Some found) = refl

target_same : (env : Env) (place : Target) → slot_of_target (without env) place ≡ slot_of_target env place
target_same env (target.Variable at variable) = refl
target_same env (target.Field at variable field) = refl

whole_same : (env : Env) (expr : Expr) → whole_slot (without env) expr ≡ whole_slot env expr
whole_same env (e.Number at value) = refl
whole_same env (e.Truth at value) = refl
whole_same env (e.Own at) = refl
whole_same env (e.Input at) = refl
whole_same env (e.Whole at place) = target_same env place
whole_same env (e.Element at line place index) = refl
whole_same env (e.PlainCall at function arguments) = refl
whole_same env (e.Parenthesized at inner) = refl
whole_same env (e.Unary at line operator operand) = refl
whole_same env (e.Binary at line operator left right) = refl
whole_same env (e.CallOnOwn at member arguments) = refl
whole_same env (e.CallOnTarget at place member arguments) = refl

uses_same : (env : Env) (node : ℕ) (place : Target) → uses node (found_at (without env) place) ≡ uses node (found_at env place)
uses_same env node place = ap (uses node) (found_same env place)

receives_same : (env : Env) (node : ℕ) (place : Target)
    → receives node (found_at (without env) place) (class_found (without env) (found_at (without env) place)) ≡ receives node (found_at env place) (class_found env (found_at env place))
receives_same env node place =
    ap (receives node (found_at (without env) place)) (class_same env (found_at (without env) place))
    ∙ ap (λ (found : Option Found). receives node found (class_found env found)) (found_same env place)

-- ---- expressions

mutual
  value_same : (env : Env) (expr : Expr) → value_ways (without env) expr ≡ value_ways env expr
  value_same env (e.Number at value) = refl
  value_same env (e.Truth at value) = refl
  value_same env (e.Own at) = refl
  value_same env (e.Input at) = refl
  value_same env (e.Whole at place) = uses_same env at.id place
  value_same env (e.Element at line place index) = ap₂ Then (uses_same env at.id place) (value_same env index)
  value_same env (e.PlainCall at function arguments) = values_same env arguments
  value_same env (e.Parenthesized at inner) = value_same env inner
  value_same env (e.Unary at line operator operand) = value_same env operand
  value_same env (e.Binary at line operator left right) = ap₂ (binary_ways operator) (value_same env left) (value_same env right)
  value_same env (e.CallOnOwn at member arguments) = flows_same env arguments
  value_same env (e.CallOnTarget at place member arguments) = ap₂ Then (receives_same env at.id place) (flows_same env arguments)

  values_same : (env : Env) (exprs : Exprs) → values_ways (without env) exprs ≡ values_ways env exprs
  values_same env e.NoExpr = refl
  values_same env (e.MoreExprs expr exprs) = ap₂ Then (value_same env expr) (values_same env exprs)

  flows_same : (env : Env) (exprs : Exprs) → flows_ways (without env) exprs ≡ flows_ways env exprs
  flows_same env e.NoExpr = refl
  flows_same env (e.MoreExprs expr exprs) = ap₂ Then (ap₂ unless_whole (whole_same env expr) (value_same env expr)) (flows_same env exprs)

flow_same : (env : Env) (expr : Expr) → flow_ways (without env) expr ≡ flow_ways env expr
flow_same env expr = ap₂ unless_whole (whole_same env expr) (value_same env expr)

-- ---- what goes into variables

event_same : (env : Env) (variable : ℕ) (expr : Expr) → event_of (without env) variable expr ≡ event_of env variable expr
event_same env variable (e.Number at value) = refl
event_same env variable (e.Truth at value) = refl
event_same env variable (e.Own at) = refl
event_same env variable (e.Input at) = refl
event_same env variable (e.Whole at place) = ap (held_event variable) (target_same env place)
event_same env variable (e.Element at line place index) = refl
event_same env variable (e.PlainCall at function arguments) = refl
event_same env variable (e.Parenthesized at inner) = refl
event_same env variable (e.Unary at line operator operand) = refl
event_same env variable (e.Binary at line operator left right) = refl
event_same env variable (e.CallOnOwn at member arguments) = refl
event_same env variable (e.CallOnTarget at place member arguments) = refl

becomes_same : (env : Env) (variable : ℕ) (value : Expr) → becomes (without env) variable value ≡ becomes env variable value
becomes_same env variable value = ap₂ (λ ways event. Then ways (Only event)) (flow_same env value) (event_same env variable value)

-- ---- scopes

all_same : (type : TypeName) (news : List NewLocal) (env : Env) → declares_all type news (without env) ≡ without (declares_all type news env)
all_same type [] env = refl
all_same type (new ∷ news) env = all_same type news (declares type new env)

behind_same : (stmt : Stmt) (env : Env) → behind stmt (without env) ≡ without (behind stmt env)
behind_same s.Nothing env = refl
behind_same (s.Within stmts) env = refl
behind_same (s.Locals type news) env = all_same type news env
behind_same (s.Assigns at place value) env = refl
behind_same (s.Calls call) env = refl
behind_same (s.Creates at place) env = refl
behind_same (s.When test then_part) env = refl
behind_same (s.Branches test then_part else_part) env = refl
behind_same (s.Repeats test body) env = refl
behind_same (s.Loops first test step body) env = refl
behind_same (s.Prints at arguments) env = refl
behind_same (s.Gives at value) env = refl
behind_same (s.Returns at value) env = refl

-- ---- statements

local_same : (env : Env) (initialiser : Option Expr) → local_ways (without env) initialiser ≡ local_ways env initialiser
local_same env None = refl
local_same env (Some value) = becomes_same env (length env.scope) value

locals_same : (env : Env) (type : TypeName) (news : List NewLocal) → locals_ways (without env) type news ≡ locals_ways env type news
locals_same env type [] = refl
locals_same env type (new ∷ news) = ap₂ Then (local_same env new.initialiser) (locals_same (declares type new env) type news)

assigned_same : (env : Env) (node : ℕ) (slot : Option Slot) (value : Expr) (found : Option Found) → assigned_ways (without env) node slot value found ≡ assigned_ways env node slot value found
assigned_same env node None value found = ap (λ ways. Then ways (uses node found)) (value_same env value)
assigned_same env node (Some slot) value found = becomes_same env slot.number value

place_same : (env : Env) (place value : Expr) → place_ways (without env) place value ≡ place_ways env place value
place_same env (e.Number at number) value = flow_same env value
place_same env (e.Truth at truth) value = flow_same env value
place_same env (e.Own at) value = flow_same env value
place_same env (e.Input at) value = flow_same env value
place_same env (e.Whole at place) value =
    assigned_same env at.id (slot_of_target (without env) place) value (found_at (without env) place)
    ∙ ap₂ (λ slot found. assigned_ways env at.id slot value found) (target_same env place) (found_same env place)
place_same env (e.Element at line place index) value = ap₂ Then (value_same env value) (ap₂ Then (value_same env index) (uses_same env at.id place))
place_same env (e.PlainCall at function arguments) value = flow_same env value
place_same env (e.Parenthesized at inner) value = flow_same env value
place_same env (e.Unary at line operator operand) value = flow_same env value
place_same env (e.Binary at line operator left right) value = flow_same env value
place_same env (e.CallOnOwn at member arguments) value = flow_same env value
place_same env (e.CallOnTarget at place member arguments) value = flow_same env value

each_same : (env : Env) (exprs : List Expr) → each_value (without env) exprs ≡ each_value env exprs
each_same env [] = refl
each_same env (expr ∷ exprs) = ap₂ Then (value_same env expr) (each_same env exprs)

return_same : (env : Env) (value : Option Expr) → return_ways (without env) value ≡ return_ways env value
return_same env None = refl
return_same env (Some expr) = ap (λ ways. Then ways Stop) (value_same env expr)

mutual
  stmt_same : (env : Env) (stmt : Stmt) → stmt_ways (without env) stmt ≡ stmt_ways env stmt
  stmt_same env s.Nothing = refl
  stmt_same env (s.Within stmts) = stmts_same env stmts
  stmt_same env (s.Locals type news) = locals_same env type news
  stmt_same env (s.Assigns at place value) = place_same env place value
  stmt_same env (s.Calls call) = flow_same env call
  stmt_same env (s.Creates at place) = ap (create_ways at.id) (found_same env place)
  stmt_same env (s.When test then_part) = ap₂ (λ first ways. Then first (Either ways NoEvent)) (value_same env test) (stmt_same env then_part)
  stmt_same env (s.Branches test then_part else_part) = ap₂ Then (value_same env test) (ap₂ Either (stmt_same env then_part) (stmt_same env else_part))
  stmt_same env (s.Repeats test body) = ap₂ Loop (value_same env test) (stmt_same env body)
  stmt_same env (s.Loops first test step body) =
      ap (λ (inner : Env). Then (stmt_ways (without env) first) (Loop (value_ways inner test) (Then (stmt_ways inner body) (stmt_ways inner step)))) (behind_same first env)
      ∙ ap₂ Then (stmt_same env first) (ap₂ Loop (value_same (behind first env) test) (ap₂ Then (stmt_same (behind first env) body) (stmt_same (behind first env) step)))
  stmt_same env (s.Prints at exprs) = each_same env exprs
  stmt_same env (s.Gives at value) = flow_same env value
  stmt_same env (s.Returns at value) = return_same env value

  pub stmts_same : (env : Env) (stmts : Stmts) → stmts_ways (without env) stmts ≡ stmts_ways env stmts
  stmts_same env s.NoStmt = refl
  stmts_same env (s.MoreStmts stmt stmts) =
      ap (λ (inner : Env). Then (stmt_ways (without env) stmt) (stmts_ways inner stmts)) (behind_same stmt env)
      ∙ ap₂ Then (stmt_same env stmt) (stmts_same (behind stmt env) stmts)
