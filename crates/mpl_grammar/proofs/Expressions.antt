-- Each expression takes the machine along.
use Rattle.std.proofs.Common.{List, [], ◌∷◌, map, refl}
use Rattle.std.specs.List.{AllByRecursion}
use Rattle.mpl_ast.specs.declared.expression.Expression.{Expression}
use Rattle.mpl_ast.specs.declared.expression.Place.{Place}
use Rattle.mpl_mean.specs.Levels.{BinaryOperator, Or, And, Equate, Compare, Add, Multiply}
use Rattle.mpl_mean.specs.Text.ExpressionText.{binary_mark, expression_text, place_text, text_of_forms}
use Rattle.mpl_mean.specs.Text.Reading.{Reads}
use Rattle.mpl_mean.specs.Text.Weight.{Weighs, operand_weighs, place_weighs, weight_of_forms}
use Rattle.mpl_mean.proofs.ExpressionInduction.{Becomes, EachForm, by_forms, place_by_forms}
use Rattle.mpl_grammar.proofs.Lists.{Each, more, none}
use Rattle.mpl_grammar.proofs.Operands.{Drives, IsOperator, drives-apply, drives-binary, drives-one, equality_operator, relation_operator, sum_operator, term_operator}
use Rattle.mpl_grammar.proofs.Primaries.{IsPlace, drives-false, drives-input, drives-number, drives-own, drives-parenthesized, drives-plain, drives-read, drives-true, element_place, whole_place}

binary_operator : (o : BinaryOperator) → IsOperator (binary_mark o)
binary_operator Or = record { operator = refl; no_parenthesis = refl; no_bracket = refl; no_dot = refl }
binary_operator And = record { operator = refl; no_parenthesis = refl; no_bracket = refl; no_dot = refl }
binary_operator (Equate o) = equality_operator o
binary_operator (Compare o) = relation_operator o
binary_operator (Add o) = sum_operator o
binary_operator (Multiply o) = term_operator o

each_drives : (es : List Expression) → AllByRecursion (λ e. Drives (expression_text e) (operand_weighs e)) es → Each Drives (map expression_text es) (map operand_weighs es)
each_drives [] all = none
each_drives (e ∷ es) all = more all.0 (each_drives es all.1)

abbrev DrivesForm : Becomes → Type 0
DrivesForm t = Drives (t Reads text_of_forms) (t Weighs weight_of_forms)

abbrev IsPlaceForm : Becomes → Type 0
IsPlaceForm t = IsPlace (t Reads text_of_forms) (t Weighs weight_of_forms)

forms_drive : EachForm DrivesForm IsPlaceForm
forms_drive = record {
  alone = λ at t d. drives-one at d;
  binary = λ at line o l r d e. drives-binary at line (binary_mark o) (binary_operator o) d e;
  unary = λ at line o t d. drives-apply at line o d;
  number = λ at value. drives-number at value;
  true = λ at. drives-true at;
  false = λ at. drives-false at;
  own = λ at. drives-own at;
  read = λ at t p. drives-read at p;
  input = λ at. drives-input at;
  call = λ at f es all. drives-plain at f (each_drives es all);
  parenthesized = λ at t d. drives-parenthesized at d;
  whole = λ at t. whole_place at t;
  element = λ at line t i d. element_place at line t d;
}

pub expression-drives : (e : Expression) → Drives (expression_text e) (operand_weighs e)
expression-drives = by_forms DrivesForm IsPlaceForm forms_drive

pub place-is : (p : Place) → IsPlace (place_text p) (place_weighs p)
place-is = place_by_forms DrivesForm IsPlaceForm forms_drive
