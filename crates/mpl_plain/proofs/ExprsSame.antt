-- Expressions mean what their plain trees mean.
use Rattle.std.proofs.Common.{◌≡◌, List, [], ◌∷◌, map, refl, ap, ap₂, ◌∙◌}
use Rattle.std.specs.List.{AllByRecursion}
use Rattle.mpl_ast.specs.declared.expression.Expression.{Expression}
use Rattle.mpl_mean.specs.Meaning.CallMeaning.{MayName, name_of_forms, pass, whole_name}
use Rattle.mpl_mean.specs.Meaning.ExpressionMeaning.{Evaluates, call_plain, element_of, value_of, value_of_binary, value_of_forms, value_of_unary}
use Rattle.mpl_mean.specs.Meaning.PlaceMeaning.{read}
use Rattle.mpl_mean.specs.Plain.Expr.{Expr, expr_of, expr_of_forms, listed}
use Rattle.mpl_plain.specs.ExprMeaning.{passed, tree_name, tree_passes, tree_value, tree_values}
use Rattle.mpl_mean.proofs.ExpressionInduction.{Becomes, EachForm, by_forms}

-- the value, the name, and what is passed on
record Same (v : Evaluates) (n : MayName) (tree : Expr) : Type 0 where
  value : v ≡ tree_value tree
  name : n ≡ tree_name tree
  passes : passed n v ≡ tree_passes tree

abbrev Good : Becomes → Type 0
Good t = Same (t Evaluates value_of_forms) (t MayName name_of_forms) (t Expr expr_of_forms)

-- what isn't a call is passed on by its name and its value
no_call : {v : Evaluates} {n : MayName} {tree : Expr} → passed (tree_name tree) (tree_value tree) ≡ tree_passes tree → v ≡ tree_value tree → n ≡ tree_name tree → Same v n tree
no_call is value name = record { value = value; name = name; passes = ap₂ passed name value ∙ is }

same_values : (es : List Expression) → AllByRecursion (λ e. Same (value_of e) (whole_name e) (expr_of e)) es
    → map value_of es ≡ tree_values (listed (map expr_of es))
same_values [] all = refl
same_values (e ∷ es) all = ap₂ (λ v vs. v ∷ vs) all.0.value (same_values es all.1)

forms_are_same : EachForm Good Good
forms_are_same = record {
  alone = λ at t p. p;
  binary = λ at line operator l r p q. no_call refl (ap₂ (value_of_binary line operator) p.value q.value) refl;
  unary = λ at line operator t p. no_call refl (ap (value_of_unary line operator) p.value) refl;
  number = λ at value. no_call refl refl refl;
  true = λ at. no_call refl refl refl;
  false = λ at. no_call refl refl refl;
  own = λ at. no_call refl refl refl;
  read = λ at t p. p;
  input = λ at. no_call refl refl refl;
  call = λ at f es all. no_call refl (ap (λ vs context. call_plain context f (map (λ evaluates. evaluates context) vs)) (same_values es all)) refl;
  parenthesized = λ at t p. no_call refl p.value refl;
  whole = λ at t. no_call refl refl refl;
  element = λ at line t i p. no_call refl (ap (λ i context. element_of line (read context t) (i context)) p.value) refl;
}

expression_same : (e : Expression) → Same (value_of e) (whole_name e) (expr_of e)
expression_same = by_forms Good Good forms_are_same

pub value_same : (e : Expression) → value_of e ≡ tree_value (expr_of e)
value_same e = (expression_same e).value

pub name_same : (e : Expression) → whole_name e ≡ tree_name (expr_of e)
name_same e = (expression_same e).name

pub passed_same : (e : Expression) → (λ context. pass context e) ≡ tree_passes (expr_of e)
passed_same e = (expression_same e).passes
