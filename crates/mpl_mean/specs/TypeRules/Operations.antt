-- What operators ask of their operands.
use Rattle.mpl_ast.specs.declared.expression.UnaryOperator.{UnaryOperator}
use Rattle.mpl_ast.specs.declared.expression.UnaryOperator.TheVariants as unary
use Rattle.mpl_mean.specs.Levels.{BinaryOperator, Or, And, Equate, Compare, Add, Multiply}

pub data Operation : Type 0 where
  -- `+ - * / %`, and `-` alone
  Arithmetic : Operation
  -- `< <= > >=`
  Comparison : Operation
  -- `== !=`
  Equality : Operation
  -- `&& ||`, and `!`
  Logic : Operation

abbrev pub binary_operation : BinaryOperator → Operation
binary_operation Or = Logic
binary_operation And = Logic
binary_operation (Equate operator) = Equality
binary_operation (Compare operator) = Comparison
binary_operation (Add operator) = Arithmetic
binary_operation (Multiply operator) = Arithmetic

abbrev pub unary_operation : UnaryOperator → Operation
unary_operation unary.Negative = Arithmetic
unary_operation unary.Not = Logic
