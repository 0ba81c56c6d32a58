-- What an expression is that is no more than its primary expression.
use Rattle.std.specs.Prelude.{◌≡◌}
use Rattle.mpl_mean.specs.FirstForms.ExpressionLevels.{expr_of_primary}
use Rattle.mpl_mean.specs.Plain.Expr.{Expr}
use Rattle.mdf_code.specs.declared.instr.Instr.TheVariants as instr
use Rattle.mpl_gen_code.specs.ExpressionCode.{flow_code, value_code}
use Rattle.mpl_gen_code.specs.Pieces.{followed_by}
use Rattle.mpl_gen_code.specs.Scopes.{Env}
use Rattle.mpl_gen_expr.specs.declared.alone.Alone.{Alone}
use Rattle.mpl_gen_expr.specs.declared.alone.Alone.TheVariants as alone

-- one word, which is computed
pub record IsComputed (e : Expr) : Type 0 where
  pub flow : (env : Env) → flow_code env e ≡ followed_by (value_code env e) (instr.ArgWords 1)

abbrev pub IsAlone : Alone → Expr → Type 0
IsAlone (alone.Primary primary) e = e ≡ expr_of_primary primary.now
IsAlone alone.Computed e = IsComputed e
