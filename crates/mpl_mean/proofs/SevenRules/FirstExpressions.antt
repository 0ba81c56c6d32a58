-- Expressions of the first form, and what the type rules see of them.
use Rattle.std.proofs.Common.{◌≡◌, ℕ, Bool, true, false, ◌&&◌, refl, sym, true≢false}
use Rattle.mpl_ast.specs.declared.expression.Expression.{Expression}
use Rattle.mpl_ast.specs.declared.expression.TermOperator.TheVariants as term
use Rattle.mpl_ast.specs.declared.place.At.{At}
use Rattle.mpl_mean.specs.FirstForms.FirstForm.{is_first_binary, is_first_expression, is_first_of_forms, is_variable}
use Rattle.mpl_mean.specs.Levels.{BinaryOperator, Or, And, Equate, Compare, Add, Multiply}
use Rattle.mpl_mean.specs.Plain.Expr.{Expr, expr_of, expr_of_forms}
use Rattle.mpl_mean.specs.Plain.Expr as expr
use Rattle.mpl_mean.specs.TypeRules.Operations.{Arithmetic, binary_operation}
use Rattle.mpl_mean.proofs.ExpressionInduction.{Becomes, EachForm, by_forms}
use Rattle.mpl_mean.proofs.Truth.{both_true}

-- of numbers and variables, with `+`, `-` and `*`
abbrev pub IsFirst : Expr → Type 0
IsFirst (expr.Number at value) = Unit {0}
IsFirst (expr.Whole at target) = is_variable target ≡ true
IsFirst (expr.Binary at line operator left right) = (binary_operation operator ≡ Arithmetic) × IsFirst left × IsFirst right
IsFirst other = ⊥

abbrev Good : Becomes → Type 0
Good t = t Bool is_first_of_forms ≡ true → IsFirst (t Expr expr_of_forms)

binary_is_first : (at : At) (line : ℕ) (operator : BinaryOperator) (l r : Bool) (p q : Expr) → (l ≡ true → IsFirst p) → (r ≡ true → IsFirst q)
    → is_first_binary operator l r ≡ true → IsFirst (expr.Binary at line operator p q)
binary_is_first at line Or l r p q f g h = absurd cc
binary_is_first at line And l r p q f g h = absurd cc
binary_is_first at line (Equate operator) l r p q f g h = absurd cc
binary_is_first at line (Compare operator) l r p q f g h = absurd cc
binary_is_first at line (Add operator) l r p q f g h = let b = both_true l r h in (refl, f b.0, g b.1)
binary_is_first at line (Multiply term.Times) l r p q f g h = let b = both_true (l && true) r h in (refl, f (both_true l true b.0).0, g b.1)
binary_is_first at line (Multiply term.Over) l r p q f g h =
    let b = both_true (l && false) r h in absurd (true≢false (sym (both_true l false b.0).1))
binary_is_first at line (Multiply term.Modulo) l r p q f g h =
    let b = both_true (l && false) r h in absurd (true≢false (sym (both_true l false b.0).1))

forms_are_first : EachForm Good Good
forms_are_first = record {
  alone = λ at t p. p;
  binary = λ at line operator l r p q. binary_is_first at line operator _ _ _ _ p q;
  unary = λ at line operator t p h. absurd cc;
  number = λ at value h. tt;
  true = λ at h. absurd cc;
  false = λ at h. absurd cc;
  own = λ at h. absurd cc;
  read = λ at t p. p;
  input = λ at h. absurd cc;
  call = λ at f es all h. absurd cc;
  parenthesized = λ at t p h. absurd cc;
  whole = λ at t h. h;
  element = λ at line t i p h. absurd cc;
}

pub expression_is_first : (e : Expression) → is_first_expression e ≡ true → IsFirst (expr_of e)
expression_is_first = by_forms Good Good forms_are_first
