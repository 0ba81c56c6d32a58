-- What each expression means, beside what the type rules see of it and the name that it is.
use Rattle.std.proofs.Common.{ℕ, List, [], ◌∷◌, map, None, true, false}
use Rattle.std.specs.List.{AllByRecursion}
use Rattle.mpl_ast.specs.declared.expression.Expression.{Expression}
use Rattle.mpl_ast.specs.declared.place.At.{At}
use Rattle.mpl_mean.specs.Levels.{BinaryOperator, Or, And, Equate, Compare, Add, Multiply}
use Rattle.mpl_mean.specs.Meaning.CallMeaning.{MayName, name_of_forms, whole_name}
use Rattle.mpl_mean.specs.Meaning.ExpressionMeaning.{Evaluates, value_of, value_of_binary, value_of_forms, equality_test, relation_test, sum_operation, term_operation}
use Rattle.mpl_mean.specs.Plain.Expr.{Expr, Binary, listed, expr_of, expr_of_forms}
use Rattle.mpl_mean.proofs.ExpressionInduction.{Becomes, EachForm, by_forms}
use Rattle.mpl_mean.proofs.Sizes.SizedForms.{Means, number, truth, own, input, whole, element, plain, parenthesized, unary, arithmetic, compares, or, and, MeansEach}
use Rattle.mpl_mean.proofs.Sizes.SizedForms as each

abbrev Good : Becomes → Type 0
Good t = Means (t Evaluates value_of_forms) (t Expr expr_of_forms) (t MayName name_of_forms)

binary_means : {v w : Evaluates} {p q : Expr} {m n : MayName} (at : At) (line : ℕ) (operator : BinaryOperator) → Means v p m → Means w q n
    → Means (value_of_binary line operator v w) (Binary at line operator p q) None
binary_means at line Or l r = or at line l r
binary_means at line And l r = and at line l r
binary_means at line (Equate operator) l r = compares at line (Equate operator) (equality_test operator) l r
binary_means at line (Compare operator) l r = compares at line (Compare operator) (relation_test operator) l r
binary_means at line (Add operator) l r = arithmetic at line (Add operator) (sum_operation operator) l r
binary_means at line (Multiply operator) l r = arithmetic at line (Multiply operator) (term_operation operator) l r

each_means : (es : List Expression) → AllByRecursion (λ e. Means (value_of e) (expr_of e) (whole_name e)) es → MeansEach (map value_of es) (listed (map expr_of es))
each_means [] all = each.none
each_means (e ∷ es) all = each.more all.0 (each_means es all.1)

forms_mean : EachForm Good Good
forms_mean = record {
  alone = λ at t p. p;
  binary = λ at line operator l r p q. binary_means at line operator p q;
  unary = λ at line operator t p. unary at line operator p;
  number = λ at value. number at value;
  true = λ at. truth at true;
  false = λ at. truth at false;
  own = λ at. own at;
  read = λ at t p. p;
  input = λ at. input at;
  call = λ at f es all. plain at f (each_means es all);
  parenthesized = λ at t p. parenthesized at p;
  whole = λ at t. whole at t;
  element = λ at line t i p. element at line t p;
}

pub expression_means : (e : Expression) → Means (value_of e) (expr_of e) (whole_name e)
expression_means = by_forms Good Good forms_mean
