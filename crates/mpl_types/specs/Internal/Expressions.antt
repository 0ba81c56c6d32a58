-- The least failure in an expression, along its form.
use Rattle.std.specs.Prelude.{ℕ, Bool, true, false, ◌&&◌, ◌||◌, is_none, is_some, List, [], Option, Some, None}
use Rattle.mpl_ast.specs.declared.class.Formal.{Formal}
use Rattle.mpl_ast.specs.declared.expression.Target.{Target}
use Rattle.mpl_ast.specs.declared.expression.Target.TheVariants as target
use Rattle.mpl_ast.specs.declared.place.Name.{Name}
use Rattle.mpl_mean.specs.Meaning.Layout.{Function, Member}
use Rattle.mpl_mean.specs.TypeRules.CallRules.{function_takes, can_be_called, member_takes, member_has_value, call_may_stand}
use Rattle.mpl_mean.specs.Plain.Expr.{Expr, Exprs}
use Rattle.mpl_mean.specs.Plain.Expr as expr
use Rattle.mpl_mean.specs.TypeRules.ExpressionRules.{unary_agrees, binary_agrees, can_be_indexed, is_one_value, is_no_regular, is_struct}
use Rattle.mpl_mean.specs.TypeRules.NameRules.{has_field, has_member}
use Rattle.mpl_mean.specs.TypeRules.Rules.{Failure}
use Rattle.mpl_mean.specs.TypeRules.Operations.{binary_operation, unary_operation}
use Rattle.mpl_mean.specs.TypeRules.Scopes.{Environment, variable_of, plain_function, is_in_main, is_in_member, is_persistent}
use Rattle.mpl_mean.specs.TypeRules.Types.{ValueType}
use Rattle.mpl_mean.specs.TypeRules.Typing.{variable_shape, target_shape, receiver_shape, items_called, member_called, type_of, types_of}
use Rattle.mpl_types.specs.Internal.Least.{earlier, noted}

-- a variable, which may not be of a regular class before the dot of a field
abbrev pub target_least : Environment → Target → Option Failure
target_least environment (target.Variable at variable) = noted variable.from 1 (is_some (variable_of environment variable.text)) None
target_least environment (target.Field at variable field) =
    noted variable.from 1 (is_some (variable_of environment variable.text))
    (noted at.span.from 15 (is_no_regular (variable_shape environment variable.text))
    (noted at.span.from 16 (is_struct (variable_shape environment variable.text))
    (noted field.from 1 (has_field environment.declarations field.text (variable_shape environment variable.text)) None)))

abbrev pub own_least : ℕ → Environment → Option Failure
own_least at environment = noted at 22 (is_in_member environment.body && is_persistent environment.class) None

abbrev pub receiver_least : ℕ → Environment → Option Target → Option Failure
receiver_least at environment None = own_least at environment
receiver_least at environment (Some target) = target_least environment target

-- what is called
abbrev pub callee_least : ℕ → Environment → Option Target → Name → Option Failure
callee_least at environment receiver member =
    noted at 21 (call_may_stand environment.body (is_persistent environment.class) (receiver_shape environment receiver))
    (noted member.from 1 (has_member member.text (items_called environment.declarations (receiver_shape environment receiver))) (receiver_least at environment receiver))

-- a call, without its arguments, of which these are the types
abbrev pub call_least : ℕ → Environment → Option Target → Name → List (Option ValueType) → Option Failure
call_least at environment receiver member arguments =
    noted at 19 (can_be_called (receiver_shape environment receiver) && member_takes environment.declarations (member_called environment receiver member.text) arguments)
    (callee_least at environment receiver member)

-- the formals of what is called, where there is a member
abbrev pub formals_called : Option Member → List Formal
formals_called None = []
formals_called (Some member) = member.formals

abbrev pub formals_of_function : Option Function → List Formal
formals_of_function None = []
formals_of_function (Some function) = function.formals

-- a whole call of a member, if there is one, from what is known of its parts
abbrev pub call_with : ℕ → Option Member → Bool → Option Failure → Bool → Option Failure → Option Failure
call_with at member can_be_called of_callee agrees of_arguments = earlier (noted at 19 (can_be_called && (is_none member || agrees)) of_callee) of_arguments

abbrev mutual
  pub expr_least : Environment → Expr → Option Failure
  expr_least environment (expr.Number at value) = None
  expr_least environment (expr.Truth at value) = None
  expr_least environment (expr.Own at) = own_least at.span.from environment
  expr_least environment (expr.Input at) = noted at.span.from 23 (is_in_main environment.body) None
  expr_least environment (expr.Whole at target) = noted at.span.from 15 (is_one_value (target_shape environment target)) (target_least environment target)
  expr_least environment (expr.Element at line target index) =
      noted at.span.from 14 (can_be_indexed (target_shape environment target) (type_of environment index))
      (noted at.span.from 15 (is_no_regular (target_shape environment target)) (earlier (target_least environment target) (expr_least environment index)))
  expr_least environment (expr.PlainCall at function arguments) =
      noted function.from 1 (is_some (plain_function environment function.text))
      (noted at.span.from 18 (function_takes environment.declarations (plain_function environment function.text) (types_of environment arguments))
      (exprs_least environment arguments))
  expr_least environment (expr.Parenthesized at inner) = expr_least environment inner
  expr_least environment (expr.Unary at line operator operand) = noted at.span.from 13 (unary_agrees (unary_operation operator) (type_of environment operand)) (expr_least environment operand)
  expr_least environment (expr.Binary at line operator left right) =
      noted at.span.from 13 (binary_agrees (binary_operation operator) (type_of environment left) (type_of environment right)) (earlier (expr_least environment left) (expr_least environment right))
  expr_least environment (expr.CallOnOwn at member arguments) =
      noted at.span.from 20 (member_has_value (member_called environment None member.text))
      (earlier (call_least at.span.from environment None member (types_of environment arguments)) (exprs_least environment arguments))
  expr_least environment (expr.CallOnTarget at target member arguments) =
      noted at.span.from 20 (member_has_value (member_called environment (Some target) member.text))
      (earlier (call_least at.span.from environment (Some target) member (types_of environment arguments)) (exprs_least environment arguments))

  pub exprs_least : Environment → Exprs → Option Failure
  exprs_least environment expr.NoExpr = None
  exprs_least environment (expr.MoreExprs first others) = earlier (expr_least environment first) (exprs_least environment others)

-- a call that is a whole statement
abbrev pub statement_call_least : Environment → Expr → Option Failure
statement_call_least environment (expr.CallOnOwn at member arguments) =
    earlier (call_least at.span.from environment None member (types_of environment arguments)) (exprs_least environment arguments)
statement_call_least environment (expr.CallOnTarget at target member arguments) =
    earlier (call_least at.span.from environment (Some target) member (types_of environment arguments)) (exprs_least environment arguments)
statement_call_least environment other = expr_least environment other

-- without a plain call, `input()` and `self`
abbrev mutual
  pub fits_guard : Expr → Bool
  fits_guard (expr.Number at value) = true
  fits_guard (expr.Truth at value) = true
  fits_guard (expr.Own at) = false
  fits_guard (expr.Input at) = false
  fits_guard (expr.Whole at target) = true
  fits_guard (expr.Element at line target index) = fits_guard index
  fits_guard (expr.PlainCall at function arguments) = false
  fits_guard (expr.Parenthesized at inner) = fits_guard inner
  fits_guard (expr.Unary at line operator operand) = fits_guard operand
  fits_guard (expr.Binary at line operator left right) = fits_guard left && fits_guard right
  fits_guard (expr.CallOnOwn at member arguments) = false
  fits_guard (expr.CallOnTarget at target member arguments) = fit_guard arguments

  pub fit_guard : Exprs → Bool
  fit_guard expr.NoExpr = true
  fit_guard (expr.MoreExprs first others) = fits_guard first && fit_guard others
