-- The codes of rows of arguments.
use Rattle.std.specs.Prelude.{List, map}
use Rattle.mpl_ast.specs.declared.expression.Expression.{Expression}
use Rattle.mpl_ast.specs.declared.flow.Flow.{Flow}
use Rattle.mpl_mean.specs.Plain.Expr.{expr_of, expr_of_flow, listed}
use Rattle.mpl_body_code.specs.Codes.{Code, expressions_code, flows_code}
use Rattle.mpl_mean.specs.Plain.Scopes.{Env}

abbrev pub all_code : Env → List Expression → Code
all_code env es = expressions_code env (listed (map expr_of es))

abbrev pub all_flows_code : Env → List Flow → Code
all_flows_code env flows = flows_code env (listed (map expr_of_flow flows))
