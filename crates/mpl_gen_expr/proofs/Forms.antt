-- The code of each form of expression, as it is written.
use Rattle.std.proofs.Common.{◌≡◌, ℕ, List, [], ◌∷◌, ◌∙◌}
use Rattle.mpl_ast.specs.declared.expression.Expression.{Expression}
use Rattle.mpl_ast.specs.declared.expression.Target.{Target}
use Rattle.mpl_ast.specs.declared.flow.Flow.{Flow}
use Rattle.mpl_ast.specs.declared.place.At.{At}
use Rattle.mpl_mean.specs.Plain.Expr as e
use Rattle.mpl_mean.specs.Plain.Expr.{Expr, expr_of, expr_of_flow}
use Rattle.mpl_gen_code.specs.ExpressionCode.{element_of, flow_code, need_of, value_code}
use Rattle.mpl_gen_code.specs.Pieces.{joined}
use Rattle.mpl_gen_code.specs.Scopes.{Env, found_at}
use Rattle.mpl_gen_expr.specs.RowCodes.{all_flows, all_values}
use Rattle.mpl_gen_expr.specs.Texts.{Text, written}
use Rattle.mpl_gen_expr.proofs.Texts.{joined_written, none_written}

pub element_written : (env : Env) (at : At) (line : ℕ) (target : Target) (index : Expr) (t : Text)
    → written (value_code env (e.Element at line target index)) t
    ≡ written (element_of line (found_at env target)) (written (value_code env index) (written (need_of (env.marks at.id) (found_at env target)) t))
element_written env at line target index t =
    joined_written (need_of (env.marks at.id) (found_at env target)) (joined (value_code env index) (element_of line (found_at env target))) t
    ∙ joined_written (value_code env index) (element_of line (found_at env target)) (written (need_of (env.marks at.id) (found_at env target)) t)

pub no_values_written : (env : Env) (t : Text) → written (all_values env []) t ≡ t
no_values_written env t = none_written t

pub values_written : (env : Env) (x : Expression) (es : List Expression) (t : Text) → written (all_values env (x ∷ es)) t ≡ written (all_values env es) (written (value_code env (expr_of x)) t)
values_written env x es t = joined_written (value_code env (expr_of x)) (all_values env es) t

pub no_flows_written : (env : Env) (t : Text) → written (all_flows env []) t ≡ t
no_flows_written env t = none_written t

pub flows_written : (env : Env) (x : Flow) (flows : List Flow) (t : Text) → written (all_flows env (x ∷ flows)) t ≡ written (all_flows env flows) (written (flow_code env (expr_of_flow x)) t)
flows_written env x flows t = joined_written (flow_code env (expr_of_flow x)) (all_flows env flows) t
