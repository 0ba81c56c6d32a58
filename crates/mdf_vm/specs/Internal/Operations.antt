-- The operations on two words.
use Rattle.std.specs.Prelude.{ℤ, Bool, not, int_lt, int_le, Result}
use Rattle.std.specs.Ordering.{int_eq}
use Rattle.mpl_value.specs.declared.known.TrapKind.{TrapKind}
use Rattle.mpl_value.specs.Arithmetic as arithmetic
use Rattle.mdf_vm.specs.declared.operation.Operation.{Operation}
use Rattle.mdf_vm.specs.declared.operation.Operation.TheVariants as operation
use Rattle.mdf_vm.specs.declared.operation.Comparison.{Comparison}
use Rattle.mdf_vm.specs.declared.operation.Comparison.TheVariants as comparison

abbrev pub operation_of : Operation → ℤ → ℤ → Result ℤ TrapKind
operation_of operation.Add = arithmetic.sum
operation_of operation.Sub = arithmetic.difference
operation_of operation.Mul = arithmetic.product
operation_of operation.Div = arithmetic.quotient
operation_of operation.Rem = arithmetic.remainder

abbrev pub comparison_of : Comparison → ℤ → ℤ → Bool
comparison_of comparison.Equal = int_eq
comparison_of comparison.NotEqual = λ a b. not (int_eq a b)
comparison_of comparison.Less = int_lt
comparison_of comparison.LessEqual = int_le
comparison_of comparison.Greater = λ a b. int_lt b a
comparison_of comparison.GreaterEqual = λ a b. int_le b a
