-- Expressions with an operator have one word, which is computed.
use Rattle.std.proofs.Common.{ℕ, refl}
use Rattle.mpl_ast.specs.declared.expression.UnaryOperator.{UnaryOperator}
use Rattle.mpl_ast.specs.declared.place.At.{At}
use Rattle.mpl_mean.specs.Levels.{BinaryOperator}
use Rattle.mpl_mean.specs.Plain.Expr as e
use Rattle.mpl_mean.specs.Plain.Expr.{Expr}
use Rattle.mpl_gen_expr.specs.Primaries.{IsComputed}

pub binary_computed : (at : At) (line : ℕ) (operator : BinaryOperator) (left right : Expr) → IsComputed (e.Binary at line operator left right)
binary_computed at line operator left right = record { flow = λ env. refl }

pub unary_computed : (at : At) (line : ℕ) (operator : UnaryOperator) (operand : Expr) → IsComputed (e.Unary at line operator operand)
unary_computed at line operator operand = record { flow = λ env. refl }
