-- How many words the value of an expression, a flow or a call has, and whether it is a `bool`, by the names around it.
use Rattle.std.specs.Prelude.{ℕ, Bool, true, false, List, Option, Some, None}
use Rattle.mpl_ast.specs.declared.expression.UnaryOperator.{UnaryOperator}
use Rattle.mpl_ast.specs.declared.expression.UnaryOperator.TheVariants as unary
use Rattle.mpl_ast.specs.declared.program.Declaration.{Declaration}
use Rattle.mpl_mean.specs.Laws.Sizes.{words_of_result}
use Rattle.mpl_mean.specs.Levels.{BinaryOperator, Or, And, Equate, Compare, Add, Multiply}
use Rattle.mpl_mean.specs.Meaning.Layout.{Class, Function, Member, function_named, member_named, words_of}
use Rattle.mpl_mean.specs.Meaning.PlaceMeaning.{is_bool}
use Rattle.mpl_mean.specs.Plain.Expr.{Expr, Exprs}
use Rattle.mpl_mean.specs.Plain.Expr as e
use Rattle.mpl_gen_code.specs.Scopes.{Env, Found, class_found, found_at}

abbrev pub words_of_found : Option Found → ℕ
words_of_found None = 0
words_of_found (Some found) = found.words

abbrev pub words_of_function : List Declaration → Option Function → ℕ
words_of_function ds None = 0
words_of_function ds (Some function) = words_of ds function.result None

abbrev pub words_of_member : List Declaration → Option Member → ℕ
words_of_member ds None = 0
words_of_member ds (Some member) = words_of_result ds member.result

abbrev pub member_in : Option Class → List ℕ → Option Member
member_in None name = None
member_in (Some class) name = member_named name class.members

abbrev pub words_of_expr : Env → Expr → ℕ
words_of_expr env (e.Number at value) = 1
words_of_expr env (e.Truth at value) = 1
words_of_expr env (e.Own at) = 1
words_of_expr env (e.Input at) = 1
words_of_expr env (e.Whole at target) = words_of_found (found_at env target)
words_of_expr env (e.Element at line target index) = 1
words_of_expr env (e.PlainCall at function arguments) = words_of_function env.declarations (function_named function.text env.declarations)
words_of_expr env (e.Parenthesized at inner) = words_of_expr env inner
words_of_expr env (e.Unary at line operator operand) = 1
words_of_expr env (e.Binary at line operator left right) = 1
words_of_expr env (e.CallOnOwn at member arguments) = words_of_member env.declarations (member_named member.text env.members)
words_of_expr env (e.CallOnTarget at target member arguments) = words_of_member env.declarations (member_in (class_found env (found_at env target)) member.text)

-- ---- which values are `bool`

abbrev pub is_bool_found : Option Found → Bool
is_bool_found None = false
is_bool_found (Some found) = is_bool found.type

abbrev pub is_bool_function : Option Function → Bool
is_bool_function None = false
is_bool_function (Some function) = is_bool function.result

abbrev pub is_bool_unary : UnaryOperator → Bool
is_bool_unary unary.Negative = false
is_bool_unary unary.Not = true

abbrev pub is_bool_binary : BinaryOperator → Bool
is_bool_binary Or = true
is_bool_binary And = true
is_bool_binary (Equate operator) = true
is_bool_binary (Compare operator) = true
is_bool_binary (Add operator) = false
is_bool_binary (Multiply operator) = false

abbrev pub is_bool_expr : Env → Expr → Bool
is_bool_expr env (e.Number at value) = false
is_bool_expr env (e.Truth at value) = true
is_bool_expr env (e.Own at) = false
is_bool_expr env (e.Input at) = false
is_bool_expr env (e.Whole at target) = is_bool_found (found_at env target)
is_bool_expr env (e.Element at line target index) = is_bool_found (found_at env target)
is_bool_expr env (e.PlainCall at function arguments) = is_bool_function (function_named function.text env.declarations)
is_bool_expr env (e.Parenthesized at inner) = is_bool_expr env inner
is_bool_expr env (e.Unary at line operator operand) = is_bool_unary operator
is_bool_expr env (e.Binary at line operator left right) = is_bool_binary operator
is_bool_expr env (e.CallOnOwn at member arguments) = false
is_bool_expr env (e.CallOnTarget at target member arguments) = false
