-- The values of expressions.
use Rattle.std.specs.Prelude.{ℕ, Bool, true, false, not, List, [], ◌∷◌, map, length, Option, Some, None, if◌then◌else◌, ℤ, pos, Result, int_lt, int_le}
use Rattle.std.specs.List.{slice_index_or}
use Rattle.std.specs.Ordering.{int_eq}
use Rattle.mpl_ast.specs.declared.expression.Expression.{Expression}
use Rattle.mpl_ast.specs.declared.expression.Conjunction.TheOpen.{Place-F, Primary-F}
use Rattle.mpl_ast.specs.declared.expression.EqualityOperator.{EqualityOperator}
use Rattle.mpl_ast.specs.declared.expression.EqualityOperator.TheVariants as equality
use Rattle.mpl_ast.specs.declared.expression.RelationOperator.{RelationOperator}
use Rattle.mpl_ast.specs.declared.expression.RelationOperator.TheVariants as relation
use Rattle.mpl_ast.specs.declared.expression.SumOperator.{SumOperator}
use Rattle.mpl_ast.specs.declared.expression.SumOperator.TheVariants as sum
use Rattle.mpl_ast.specs.declared.expression.TermOperator.{TermOperator}
use Rattle.mpl_ast.specs.declared.expression.TermOperator.TheVariants as term
use Rattle.mpl_ast.specs.declared.expression.UnaryOperator.{UnaryOperator}
use Rattle.mpl_ast.specs.declared.expression.UnaryOperator.TheVariants as unary
use Rattle.mpl_ast.specs.declared.place.Name.{Name}
use Rattle.mpl_value.specs.Arithmetic as arithmetic
use Rattle.mpl_value.specs.declared.known.TrapKind.{TrapKind}
use Rattle.mpl_value.specs.declared.known.TrapKind.TheVariants.{NoInput}
use Rattle.mpl_mean.specs.Levels.{BinaryOperator, Or, And, Equate, Compare, Add, Multiply, Forms, expression_by}
use Rattle.mpl_mean.specs.Meaning.Context.{Context}
use Rattle.mpl_mean.specs.Meaning.Layout.{Function, function_named}
use Rattle.mpl_mean.specs.Meaning.PlaceMeaning.{read, index_of, is_bool}
use Rattle.mpl_mean.specs.Meaning.Store.{Goes, Step, ◌>>=◌, pure, trap, waits, computed, all_of}
use Rattle.mpl_mean.specs.Meaning.Values.{Value, word_of, int_value, bool_value, is_true}

abbrev pub Evaluates : Type 0
Evaluates = Context → Step Value

-- ---- operators

-- the left operand, the right one, and then the operator, at whose line it may trap
abbrev pub arithmetic_of : ℕ → (ℤ → ℤ → Result ℤ TrapKind) → Evaluates → Evaluates → Evaluates
arithmetic_of line operator left right context =
    left context >>= (λ a. right context >>= (λ b. computed line (operator (word_of a) (word_of b)) >>= (λ z. pure (int_value z))))

abbrev pub test_of : (ℤ → ℤ → Bool) → Evaluates → Evaluates → Evaluates
test_of test left right context = left context >>= (λ a. right context >>= (λ b. pure (bool_value (test (word_of a) (word_of b)))))

abbrev pub sum_operation : SumOperator → ℤ → ℤ → Result ℤ TrapKind
sum_operation sum.Plus = arithmetic.sum
sum_operation sum.Minus = arithmetic.difference

abbrev pub term_operation : TermOperator → ℤ → ℤ → Result ℤ TrapKind
term_operation term.Times = arithmetic.product
term_operation term.Over = arithmetic.quotient
term_operation term.Modulo = arithmetic.remainder

abbrev pub equality_test : EqualityOperator → ℤ → ℤ → Bool
equality_test equality.Equal a b = int_eq a b
equality_test equality.Unequal a b = not (int_eq a b)

abbrev pub relation_test : RelationOperator → ℤ → ℤ → Bool
relation_test relation.Less a b = int_lt a b
relation_test relation.LessEqual a b = int_le a b
relation_test relation.Greater a b = int_lt b a
relation_test relation.GreaterEqual a b = int_le b a

abbrev pub unary_operation : ℕ → UnaryOperator → Value → Step Value
unary_operation line unary.Negative a = computed line (arithmetic.negation (word_of a)) >>= (λ z. pure (int_value z))
unary_operation line unary.Not a = pure (bool_value (not (is_true a)))

-- ---- the parts of a primary expression

-- the next number of the input
abbrev pub next_of : ℕ → List ℤ → Step Value
next_of line [] = trap NoInput line
next_of line (z ∷ input) = λ store. Goes (int_value z) (record store { input = input })

abbrev pub next_number : ℕ → Step Value
next_number line store = next_of line store.input store

-- a plain function of the program
abbrev pub called : Context → Option Function → List (List ℤ) → Step Value
called context None arguments = waits
called context (Some f) arguments = context.callees.plain f arguments >>= (λ words. pure (record { words = words; is_bool = is_bool f.result }))

abbrev pub call_plain : Context → Name → List (Step Value) → Step Value
call_plain context function arguments =
    all_of arguments >>= (λ values. called context (function_named function.text context.declarations) (map (λ (value : Value). value.words) values))

-- the array, the index, and then its test
abbrev pub element_of : ℕ → Step Value → Step Value → Step Value
element_of line array index =
    array >>= (λ a. index >>= (λ i. index_of line (length a.words) (word_of i) >>= (λ n. pure (record { words = slice_index_or a.words n (pos 0) ∷ []; is_bool = a.is_bool }))))

-- ---- one form after another

-- the left operand first; the right one of `||` and `&&` only where it decides
abbrev pub value_of_binary : ℕ → BinaryOperator → Evaluates → Evaluates → Evaluates
value_of_binary line Or left right = λ context. left context >>= (λ a. if is_true a then pure (bool_value true) else right context)
value_of_binary line And left right = λ context. left context >>= (λ a. if is_true a then right context else pure (bool_value false))
value_of_binary line (Equate operator) left right = test_of (equality_test operator) left right
value_of_binary line (Compare operator) left right = test_of (relation_test operator) left right
value_of_binary line (Add operator) left right = arithmetic_of line (sum_operation operator) left right
value_of_binary line (Multiply operator) left right = arithmetic_of line (term_operation operator) left right

abbrev pub value_of_unary : ℕ → UnaryOperator → Evaluates → Evaluates
value_of_unary line operator operand = λ context. operand context >>= unary_operation line operator

abbrev pub primary_step : Primary-F Evaluates Evaluates Evaluates Evaluates Evaluates Evaluates Evaluates Evaluates Evaluates → Evaluates
primary_step (Primary-F.Number at value) = λ context. pure (int_value value)
primary_step (Primary-F.True at) = λ context. pure (bool_value true)
primary_step (Primary-F.False at) = λ context. pure (bool_value false)
primary_step (Primary-F.Own at) = λ context. pure (int_value context.object)
primary_step (Primary-F.Read at place) = place
primary_step (Primary-F.Input at) = λ context. next_number at.line
primary_step (Primary-F.CallPlain at function arguments) = λ context. call_plain context function (map (λ evaluates. evaluates context) arguments)
primary_step (Primary-F.Parenthesized at inner) = inner

abbrev pub place_step : Place-F Evaluates Evaluates Evaluates Evaluates Evaluates Evaluates Evaluates Evaluates Evaluates → Evaluates
place_step (Place-F.Whole at target) = λ context. read context target
place_step (Place-F.Element at line target index) = λ context. element_of line (read context target) (index context)

abbrev pub value_of_forms : Forms Evaluates
value_of_forms = record {
  alone = λ at part. part;
  binary = λ at. value_of_binary;
  unary = λ at. value_of_unary;
  primary = primary_step;
  place = place_step;
}

-- the value of an expression
abbrev pub value_of : Expression → Evaluates
value_of = expression_by value_of_forms
