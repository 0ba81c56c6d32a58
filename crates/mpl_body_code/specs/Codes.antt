-- Which code a body has.
use Rattle.std.specs.Prelude.{ℕ, suc, ◌≡◌, ◌+◌, Bool, true, false, List, [], ◌∷◌, ◌++◌, length, map, pos, slice_get, Option, Some, None, if◌then◌else◌}
use Rattle.std.specs.Str.{bytes_eq}
use Rattle.mpl_plain.specs.Arity.{count_of}
use Rattle.mpl_ast.specs.declared.class.ResultType.{ResultType}
use Rattle.mpl_ast.specs.declared.class.ResultType.TheVariants.{Void, Typed}
use Rattle.mpl_ast.specs.declared.program.Declaration.{Declaration}
use Rattle.mpl_ast.specs.declared.program.Declaration.TheVariants as declaration
use Rattle.mpl_ast.specs.declared.statement.Dimension.{Dimension}
use Rattle.mpl_ast.specs.declared.statement.TypeName.{TypeName}
use Rattle.mpl_mean.specs.Levels.{BinaryOperator}
use Rattle.mpl_mean.specs.Levels as levels
use Rattle.mpl_mean.specs.Meaning.Layout.{Class, Member, dimension_of, member_named, words_of}
use Rattle.mpl_mean.specs.Plain.Expr.{Expr, Exprs}
use Rattle.mpl_mean.specs.Plain.Expr as e
use Rattle.mpl_mean.specs.Plain.Stmt.{NewLocal, Stmt, Stmts}
use Rattle.mpl_mean.specs.Plain.Stmt as t
use Rattle.mpl_mean.specs.Meaning.CallMeaning.{MayName, name_of_target}
use Rattle.mpl_mean.specs.Plain.Scopes.{Env, Found, Slot, behind, class_found, declares, formal_shape, found_at, slot_named}
use Rattle.mpl_body_code.specs.Scopes.{spot_of}
use Rattle.mpl_body_code.specs.declared.instruction.Finish.{Finish}
use Rattle.mpl_body_code.specs.declared.instruction.Finish.TheVariants as finish
use Rattle.mpl_body_code.specs.declared.instruction.Instruction.{Instruction}
use Rattle.mpl_body_code.specs.declared.instruction.Instruction.TheVariants as instruction
use Rattle.mpl_body_code.specs.declared.instruction.Operator.TheVariants as operator

abbrev pub Code : Type 0
Code = List Instruction

-- ---- names

-- the number of a plain function among those that are declared
abbrev pub number_of_function : ℕ → List ℕ → List Declaration → Option ℕ
number_of_function number name [] = None
number_of_function number name (declaration.Struct at line struct fields ∷ others) = number_of_function number name others
number_of_function number name (declaration.Class at line kind class items ∷ others) = number_of_function number name others
number_of_function number name (declaration.Function at result function formals body ∷ others) =
    if bytes_eq function.text name then Some number else number_of_function (suc number) name others

-- ---- expressions

abbrev pub read_code : Option Found → Code
read_code None = instruction.Nothing ∷ []
read_code (Some found) = instruction.Read (spot_of found) ∷ []

abbrev pub plain_code : Option ℕ → ℕ → Code
plain_code None count = instruction.Wait ∷ []
plain_code (Some number) count = instruction.CallPlain number count ∷ []

abbrev pub binary_code : ℕ → BinaryOperator → Code → Code → Code
binary_code line levels.Or left right = left ++ instruction.Or (length right) ∷ right
binary_code line levels.And left right = left ++ instruction.And (length right) ∷ right
binary_code line (levels.Equate o) left right = left ++ (right ++ instruction.Binary line (operator.Equate o) ∷ [])
binary_code line (levels.Compare o) left right = left ++ (right ++ instruction.Binary line (operator.Compare o) ∷ [])
binary_code line (levels.Add o) left right = left ++ (right ++ instruction.Binary line (operator.Add o) ∷ [])
binary_code line (levels.Multiply o) left right = left ++ (right ++ instruction.Binary line (operator.Multiply o) ∷ [])

-- ---- calls

abbrev pub slot_of_name : Env → MayName → Option Slot
slot_of_name env None = None
slot_of_name env (Some name) = slot_named name env.scope

abbrev pub passed_code : Option Slot → Code → Code
passed_code None value = value
passed_code (Some slot) value = instruction.Pass slot.number ∷ []

abbrev pub object_code : Option Member → ℕ → Code → Code
object_code None count arguments = instruction.Wait ∷ []
object_code (Some member) count arguments = arguments ++ instruction.CallObject member.id count ∷ []

abbrev pub regular_code : Option Member → ℕ → Code → Code
regular_code None count arguments = instruction.Wait ∷ []
regular_code (Some member) count arguments = arguments ++ instruction.CallRegular member.id count ∷ []

abbrev pub own_code : Option Member → ℕ → Code → Code
own_code None count arguments = instruction.Wait ∷ []
own_code (Some member) count arguments = instruction.Own ∷ (arguments ++ instruction.CallObject member.id count ∷ [])

abbrev pub target_code : ℕ → Option Found → Option Class → List ℕ → ℕ → Code → Code
target_code line found None member count arguments = instruction.Wait ∷ []
target_code line found (Some class) member count arguments =
    if class.is_regular then regular_code (member_named member class.members) count arguments
    else (read_code found ++ instruction.Receiver line ∷ object_code (member_named member class.members) count arguments)

-- ---- all of them, as values and as what is passed on

pub record Coded : Type 0 where
  pub value : Code
  pub passes : Code

abbrev pub codes_value : Env → MayName → Code → Coded
codes_value env name value = record { value = value; passes = passed_code (slot_of_name env name) value }

-- a call, whose result is forced where it is a value
abbrev pub codes_result : Code → Coded
codes_result call = record { value = call ++ instruction.Force ∷ []; passes = call }

abbrev mutual
  pub tree_code : Env → Expr → Coded
  tree_code env (e.Number at value) = codes_value env None (instruction.Number value ∷ [])
  tree_code env (e.Truth at value) = codes_value env None (instruction.Truth value ∷ [])
  tree_code env (e.Own at) = codes_value env None (instruction.Own ∷ [])
  tree_code env (e.Input at) = codes_value env None (instruction.Input at.line ∷ [])
  tree_code env (e.Whole at target) = codes_value env (name_of_target target) (read_code (found_at env target))
  tree_code env (e.Element at line target index) =
      codes_value env None (read_code (found_at env target) ++ ((tree_code env index).value ++ instruction.Index line ∷ []))
  tree_code env (e.PlainCall at function arguments) =
      codes_value env None (expressions_code env arguments ++ plain_code (number_of_function 0 function.text env.declarations) (count_of arguments))
  tree_code env (e.Parenthesized at inner) = codes_value env None (tree_code env inner).value
  tree_code env (e.Unary at line operator operand) = codes_value env None ((tree_code env operand).value ++ instruction.Unary line operator ∷ [])
  tree_code env (e.Binary at line operator left right) = codes_value env None (binary_code line operator (tree_code env left).value (tree_code env right).value)
  tree_code env (e.CallOnOwn at member arguments) =
      codes_result (own_code (member_named member.text env.members) (count_of arguments) (flows_code env arguments))
  tree_code env (e.CallOnTarget at target member arguments) =
      codes_result (target_code at.line (found_at env target) (class_found env (found_at env target)) member.text (count_of arguments) (flows_code env arguments))

  pub expressions_code : Env → Exprs → Code
  expressions_code env e.NoExpr = []
  expressions_code env (e.MoreExprs expr exprs) = (tree_code env expr).value ++ expressions_code env exprs

  pub flows_code : Env → Exprs → Code
  flows_code env e.NoExpr = []
  flows_code env (e.MoreExprs expr exprs) = (tree_code env expr).passes ++ flows_code env exprs

abbrev pub expression_code : Env → Expr → Code
expression_code env expr = (tree_code env expr).value

abbrev pub flow_code : Env → Expr → Code
flow_code env expr = (tree_code env expr).passes

-- ---- statements

abbrev pub initial_code : Env → TypeName → Option Dimension → Option Expr → Code
initial_code env type dimension None = instruction.Declare (words_of env.declarations type (dimension_of dimension)) ∷ []
initial_code env type dimension (Some value) = flow_code env value ++ instruction.Bind ∷ []

abbrev pub local_code : Env → TypeName → NewLocal → Code
local_code env type new = initial_code env type new.dimension new.initialiser

abbrev pub locals_code : Env → TypeName → List NewLocal → Code
locals_code env type [] = []
locals_code env type (new ∷ news) = local_code env type new ++ locals_code (declares type new env) type news

-- what is on top goes into a place
abbrev pub into_slot : Found → Option Slot → Bool → Code
into_slot found (Some slot) true = instruction.Hold slot.number ∷ []
into_slot found (Some slot) false = instruction.Force ∷ instruction.Put (spot_of found) ∷ []
into_slot found None is_whole = instruction.Force ∷ instruction.Put (spot_of found) ∷ []

abbrev pub into_code : Option Found → Code
into_code None = instruction.Wait ∷ []
into_code (Some found) = into_slot found found.slot found.is_whole

abbrev pub element_code : ℕ → Option Found → Code
element_code line None = instruction.Wait ∷ []
element_code line (Some found) = instruction.PutElement line (spot_of found) ∷ []

-- what is on top goes into what is assigned to
abbrev pub place_code : Env → Expr → Code
place_code env (e.Whole at target) = into_code (found_at env target)
place_code env (e.Element at line target index) = instruction.Force ∷ (expression_code env index ++ element_code line (found_at env target))
place_code env other = instruction.Wait ∷ []

abbrev pub new_code : Option Class → Code
new_code None = instruction.Wait ∷ []
new_code (Some class) = instruction.New (pos class.number) ∷ []

abbrev pub create_in : Found → Option Slot → Bool → Code → Code
create_in found (Some slot) true new = new ++ instruction.Hold slot.number ∷ []
create_in found (Some slot) false new = instruction.ForceSpot (spot_of found) ∷ (new ++ instruction.Put (spot_of found) ∷ [])
create_in found None is_whole new = new ++ instruction.Put (spot_of found) ∷ []

abbrev pub create_code : Env → Option Found → Code
create_code env None = instruction.Wait ∷ []
create_code env (Some found) = create_in found found.slot found.is_whole (new_code (class_found env (Some found)))

-- the variables that are declared in it go out of scope with it
abbrev pub scope_code : Env → Code → Code
scope_code env code = code ++ instruction.Leave (length env.scope) ∷ []

abbrev pub loop_code : Code → Code → Code
loop_code test body =
    instruction.Turn ∷ (test ++ instruction.Unless (suc (length body)) ∷ (body ++ instruction.Again (length test + suc (length body)) ∷ []))

abbrev pub expression_codes : Env → List Expr → Code
expression_codes env [] = []
expression_codes env (expr ∷ exprs) = expression_code env expr ++ expression_codes env exprs

abbrev pub return_code : Env → Option Expr → Code
return_code env None = instruction.ReturnNothing ∷ []
return_code env (Some expr) = expression_code env expr ++ instruction.Return ∷ []

abbrev mutual
  pub statement_code : Env → Stmt → Code
  statement_code env t.Nothing = []
  statement_code env (t.Within stmts) = scope_code env (statements_code env stmts)
  statement_code env (t.Locals type locals) = locals_code env type locals
  statement_code env (t.Assigns at place value) = flow_code env value ++ place_code env place
  statement_code env (t.Calls call) = flow_code env call ++ instruction.Drop ∷ []
  statement_code env (t.Creates at target) = create_code env (found_at env target)
  statement_code env (t.When test then_part) =
      expression_code env test ++ instruction.Unless (length (scope_code env (statement_code env then_part))) ∷ scope_code env (statement_code env then_part)
  statement_code env (t.Branches test then_part else_part) =
      expression_code env test
      ++ instruction.Unless (suc (length (scope_code env (statement_code env then_part))))
      ∷ (scope_code env (statement_code env then_part)
      ++ instruction.Skip (length (scope_code env (statement_code env else_part))) ∷ scope_code env (statement_code env else_part))
  statement_code env (t.Repeats test body) = loop_code (expression_code env test) (scope_code env (statement_code env body))
  statement_code env (t.Loops first test step body) =
      scope_code env
      (statement_code env first
      ++ loop_code (expression_code (behind first env) test)
      (scope_code (behind first env) (statement_code (behind first env) body) ++ statement_code (behind first env) step))
  statement_code env (t.Prints at arguments) = expression_codes env arguments ++ instruction.Print (length arguments) ∷ []
  statement_code env (t.Gives at value) = flow_code env value ++ instruction.Give at.line ∷ []
  statement_code env (t.Returns at value) = return_code env value

  pub statements_code : Env → Stmts → Code
  statements_code env t.NoStmt = []
  statements_code env (t.MoreStmts stmt stmts) = statement_code env stmt ++ statements_code (behind stmt env) stmts

-- the statements of a body, and its end
abbrev pub body_code : Env → Stmts → Code
body_code env stmts = statements_code env stmts ++ instruction.End ∷ []

-- ---- where it stands

-- these instructions stand from one place to another
abbrev pub From : Code → ℕ → Code → ℕ → Type 0
From code place [] end = place ≡ end
From code place (i ∷ is) end = (slice_get code place ≡ Some i) × From code (place + 1) is end

abbrev pub finish_of : ResultType → ℕ → Finish
finish_of (Void at) line = finish.Void
finish_of (Typed at type) line = finish.Value line
