-- The codes of rows of arguments.
use Rattle.std.specs.Prelude.{List, map}
use Rattle.mpl_ast.specs.declared.expression.Expression.{Expression}
use Rattle.mpl_ast.specs.declared.flow.Flow.{Flow}
use Rattle.mpl_mean.specs.Plain.Expr.{expr_of, expr_of_flow, listed}
use Rattle.mpl_gen_code.specs.ExpressionCode.{Codes, codes_of_each, flows_code, values_code}
use Rattle.mpl_gen_code.specs.Pieces.{Piece}
use Rattle.mpl_gen_code.specs.Scopes.{Env}

abbrev pub all_values : Env → List Expression → Piece
all_values env es = values_code (codes_of_each env (listed (map expr_of es)))

abbrev pub codes_of_flows : Env → List Flow → List Codes
codes_of_flows env flows = codes_of_each env (listed (map expr_of_flow flows))

abbrev pub all_flows : Env → List Flow → Piece
all_flows env flows = flows_code (codes_of_flows env flows)
