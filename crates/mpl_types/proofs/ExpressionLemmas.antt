-- The least failure along an expression is that at its nodes.
use Rattle.std.proofs.Common.{◌≡◌, ℕ, ◌&&◌, List, ◌++◌, Option, Some, None, is_some, refl, sym, ap, ap₂, ◌∙◌}
use Rattle.mpl_ast.specs.declared.expression.Target.{Target}
use Rattle.mpl_ast.specs.declared.expression.Target.TheVariants as target
use Rattle.mpl_ast.specs.declared.place.Name.{Name}
use Rattle.mpl_mean.specs.TypeRules.CallRules.{function_takes, can_be_called, member_takes, member_has_value, call_may_stand}
use Rattle.mpl_mean.specs.Plain.Expr.{Expr, Exprs}
use Rattle.mpl_mean.specs.Plain.Expr as expr
use Rattle.mpl_mean.specs.TypeRules.ExpressionRules.{unary_agrees, binary_agrees, can_be_indexed, is_one_value, is_no_regular}
use Rattle.mpl_mean.specs.TypeRules.NameRules.{has_member}
use Rattle.mpl_mean.specs.TypeRules.Nodes.{Located, expr_nodes, nodes_of_each, target_nodes, receiver_nodes, call_nodes, statement_call_nodes}
use Rattle.mpl_mean.specs.TypeRules.Rules.{Failure}
use Rattle.mpl_mean.specs.TypeRules.Operations.{binary_operation, unary_operation}
use Rattle.mpl_mean.specs.TypeRules.Scopes.{Environment, plain_function, is_persistent}
use Rattle.mpl_mean.specs.TypeRules.Typing.{target_shape, receiver_shape, items_called, member_called, type_of, types_of}
use Rattle.mpl_types.specs.Internal.Expressions.{target_least, receiver_least, call_least, expr_least, exprs_least, statement_call_least}
use Rattle.mpl_types.specs.Internal.Least.{earlier, noted, least_of}
use Rattle.mpl_types.proofs.LeastLemmas.{least_append}

pub target_is : (environment : Environment) (t : Target) → target_least environment t ≡ least_of (target_nodes environment t)
target_is environment (target.Variable at variable) = refl
target_is environment (target.Field at variable field) = refl

receiver_is : (at : ℕ) (environment : Environment) (receiver : Option Target) → receiver_least at environment receiver ≡ least_of (receiver_nodes at environment receiver)
receiver_is at environment None = refl
receiver_is at environment (Some t) = target_is environment t

call_is : (at : ℕ) (environment : Environment) (receiver : Option Target) (member : Name) (arguments : Exprs)
    → call_least at environment receiver member (types_of environment arguments) ≡ least_of (call_nodes at environment receiver member arguments)
call_is at environment receiver member arguments =
    ap (λ rest. noted at 19 (can_be_called (receiver_shape environment receiver) && member_takes environment.declarations (member_called environment receiver member.text) (types_of environment arguments))
    (noted at 21 (call_may_stand environment.body (is_persistent environment.class) (receiver_shape environment receiver))
    (noted member.from 1 (has_member member.text (items_called environment.declarations (receiver_shape environment receiver))) rest)))
    (receiver_is at environment receiver)

pub joined : (xs ys : List Located) (a b : Option Failure) → a ≡ least_of xs → b ≡ least_of ys → earlier a b ≡ least_of (xs ++ ys)
joined xs ys a b h k = ap₂ earlier h k ∙ sym (least_append xs ys)

mutual
  pub expr_is : (environment : Environment) (e : Expr) → expr_least environment e ≡ least_of (expr_nodes environment e)
  expr_is environment (expr.Number at value) = refl
  expr_is environment (expr.Truth at value) = refl
  expr_is environment (expr.Own at) = refl
  expr_is environment (expr.Input at) = refl
  expr_is environment (expr.Whole at target) = ap (noted at.span.from 15 (is_one_value (target_shape environment target))) (target_is environment target)
  expr_is environment (expr.Element at line target index) =
      ap (λ rest. noted at.span.from 14 (can_be_indexed (target_shape environment target) (type_of environment index)) (noted at.span.from 15 (is_no_regular (target_shape environment target)) rest))
      (joined (target_nodes environment target) (expr_nodes environment index) _ _ (target_is environment target) (expr_is environment index))
  expr_is environment (expr.PlainCall at function arguments) =
      ap (λ rest. noted function.from 1 (is_some (plain_function environment function.text))
      (noted at.span.from 18 (function_takes environment.declarations (plain_function environment function.text) (types_of environment arguments)) rest))
      (exprs_is environment arguments)
  expr_is environment (expr.Parenthesized at inner) = expr_is environment inner
  expr_is environment (expr.Unary at line operator operand) = ap (noted at.span.from 13 (unary_agrees (unary_operation operator) (type_of environment operand))) (expr_is environment operand)
  expr_is environment (expr.Binary at line operator left right) =
      ap (noted at.span.from 13 (binary_agrees (binary_operation operator) (type_of environment left) (type_of environment right)))
      (joined (expr_nodes environment left) (expr_nodes environment right) _ _ (expr_is environment left) (expr_is environment right))
  expr_is environment (expr.CallOnOwn at member arguments) =
      ap (noted at.span.from 20 (member_has_value (member_called environment None member.text)))
      (joined (call_nodes at.span.from environment None member arguments) (nodes_of_each environment arguments) _ _ (call_is at.span.from environment None member arguments) (exprs_is environment arguments))
  expr_is environment (expr.CallOnTarget at target member arguments) =
      ap (noted at.span.from 20 (member_has_value (member_called environment (Some target) member.text)))
      (joined (call_nodes at.span.from environment (Some target) member arguments) (nodes_of_each environment arguments) _ _ (call_is at.span.from environment (Some target) member arguments) (exprs_is environment arguments))

  pub exprs_is : (environment : Environment) (es : Exprs) → exprs_least environment es ≡ least_of (nodes_of_each environment es)
  exprs_is environment expr.NoExpr = refl
  exprs_is environment (expr.MoreExprs first others) =
      joined (expr_nodes environment first) (nodes_of_each environment others) _ _ (expr_is environment first) (exprs_is environment others)

pub statement_call_is : (environment : Environment) (e : Expr) → statement_call_least environment e ≡ least_of (statement_call_nodes environment e)
statement_call_is environment (expr.CallOnOwn at member arguments) =
    joined (call_nodes at.span.from environment None member arguments) (nodes_of_each environment arguments) _ _ (call_is at.span.from environment None member arguments) (exprs_is environment arguments)
statement_call_is environment (expr.CallOnTarget at target member arguments) =
    joined (call_nodes at.span.from environment (Some target) member arguments) (nodes_of_each environment arguments) _ _ (call_is at.span.from environment (Some target) member arguments) (exprs_is environment arguments)
statement_call_is environment (expr.Number at value) = expr_is environment (expr.Number at value)
statement_call_is environment (expr.Truth at value) = expr_is environment (expr.Truth at value)
statement_call_is environment (expr.Own at) = expr_is environment (expr.Own at)
statement_call_is environment (expr.Input at) = expr_is environment (expr.Input at)
statement_call_is environment (expr.Whole at target) = expr_is environment (expr.Whole at target)
statement_call_is environment (expr.Element at line target index) = expr_is environment (expr.Element at line target index)
statement_call_is environment (expr.PlainCall at function arguments) = expr_is environment (expr.PlainCall at function arguments)
statement_call_is environment (expr.Parenthesized at inner) = expr_is environment (expr.Parenthesized at inner)
statement_call_is environment (expr.Unary at line operator operand) = expr_is environment (expr.Unary at line operator operand)
statement_call_is environment (expr.Binary at line operator left right) = expr_is environment (expr.Binary at line operator left right)
