-- The values of expressions, in two runs.
use Rattle.std.proofs.Common.{ℕ, Bool, true, false, List, [], ◌∷◌, map, length, Option, Some, None, if◌then◌else◌, ℤ, Result}
use Rattle.std.specs.List.{AllByRecursion, AllZip}
use Rattle.mpl_ast.specs.declared.expression.Expression.{Expression}
use Rattle.mpl_ast.specs.declared.expression.UnaryOperator.{UnaryOperator}
use Rattle.mpl_ast.specs.declared.expression.UnaryOperator.TheVariants as unary
use Rattle.mpl_ast.specs.declared.place.Name.{Name}
use Rattle.mpl_value.specs.declared.known.TrapKind.{TrapKind}
use Rattle.mpl_mean.specs.Levels.{BinaryOperator, Or, And, Equate, Compare, Add, Multiply}
use Rattle.mpl_mean.specs.Meaning.Context.{Callees, Context}
use Rattle.mpl_mean.specs.Meaning.ExpressionMeaning.{Evaluates, arithmetic_of, call_plain, called, element_of, equality_test, relation_test, sum_operation, term_operation, test_of, unary_operation, value_of, value_of_binary, value_of_forms}
use Rattle.mpl_mean.specs.Meaning.Layout.{Function, function_named}
use Rattle.mpl_mean.specs.Meaning.PlaceMeaning.{read}
use Rattle.mpl_mean.specs.Meaning.Store.{Step, pure, computed, all_of}
use Rattle.mpl_mean.specs.Meaning.Values.{Value, word_of, is_true}
use Rattle.mpl_mean.proofs.Simulations.Simulation.{Simulation, BelowBeside, Same, first, second, goes_on_same, gives_same, computes, all_same}
use Rattle.mpl_mean.proofs.ExpressionInduction.{Becomes, EachForm, by_forms}
use Rattle.mpl_mean.proofs.Simulations.KeptPlaces.{read_kept, index_kept}

-- the relation between the two runs of one meaning
pub record Kept (S : Simulation) (b c : Callees) (A : Type 0) (V : A → A → Type 0) (meaning : Context → Step A) : Type 0 where
  pub at : (x : Context) → S.Steps A V (meaning (first S b x)) (meaning (second S c x))

pub if_kept : (S : Simulation) {A : Type 0} {V : A → A → Type 0} (test : Bool) (f g h k : Step A) → S.Steps A V f g → S.Steps A V h k → S.Steps A V (if test then f else h) (if test then g else k)
if_kept S true f g h k p q = p
if_kept S false f g h k p q = q

module _ (S : Simulation) (b c : Callees) (d : BelowBeside S b c) where
  abbrev Keeps : Evaluates → Type 0
  Keeps = Kept S b c Value Same

  -- ---- operators and calls

  constant_kept : (v : Value) → Keeps (λ x. pure v)
  constant_kept v = record { at = λ x. gives_same S v }

  arithmetic_kept : (line : ℕ) (operator : ℤ → ℤ → Result ℤ TrapKind) (left right : Evaluates) → Keeps left → Keeps right → Keeps (arithmetic_of line operator left right)
  arithmetic_kept line operator left right l r = record {
    at = λ x.
        goes_on_same S (left (first S b x)) (left (second S c x)) _ _ (l.at x) (λ u.
        goes_on_same S (right (first S b x)) (right (second S c x)) _ _ (r.at x) (λ v.
        goes_on_same S (computed line (operator (word_of u) (word_of v))) (computed line (operator (word_of u) (word_of v))) _ _ (computes S line _) (λ z. gives_same S _)));
  }

  test_kept : (test : ℤ → ℤ → Bool) (left right : Evaluates) → Keeps left → Keeps right → Keeps (test_of test left right)
  test_kept test left right l r = record {
    at = λ x.
        goes_on_same S (left (first S b x)) (left (second S c x)) _ _ (l.at x) (λ u.
        goes_on_same S (right (first S b x)) (right (second S c x)) _ _ (r.at x) (λ v. gives_same S _));
  }

  unary_kept : (line : ℕ) (operator : UnaryOperator) (v : Value) → S.Steps Value Same (unary_operation line operator v) (unary_operation line operator v)
  unary_kept line unary.Negative v = goes_on_same S (computed line _) (computed line _) _ _ (computes S line _) (λ z. gives_same S _)
  unary_kept line unary.Not v = gives_same S _

  called_kept : (x : Context) (f : Option Function) (arguments : List (List ℤ)) → S.Steps Value Same (called (first S b x) f arguments) (called (second S c x) f arguments)
  called_kept x None arguments = S.waiting _ _
  called_kept x (Some f) arguments = goes_on_same S (b.plain f arguments) (c.plain f arguments) _ _ (d.plain f arguments) (λ words. gives_same S _)

  call_kept : (x : Context) (function : Name) (fs gs : List (Step Value)) → AllZip (S.Steps Value Same) fs gs → S.Steps Value Same (call_plain (first S b x) function fs) (call_plain (second S c x) function gs)
  call_kept x function fs gs r = goes_on_same S (all_of fs) (all_of gs) _ _ (all_same S fs gs r) (λ values. called_kept x (function_named function.text x.declarations) _)

  element_kept : (line : ℕ) (f g h k : Step Value) → S.Steps Value Same f g → S.Steps Value Same h k → S.Steps Value Same (element_of line f h) (element_of line g k)
  element_kept line f g h k p q =
      goes_on_same S f g _ _ p (λ a. goes_on_same S h k _ _ q (λ i. goes_on_same S _ _ _ _ (index_kept S line (length a.words) (word_of i)) (λ n. gives_same S _)))

  binary_kept : (line : ℕ) (operator : BinaryOperator) (left right : Evaluates) → Keeps left → Keeps right → Keeps (value_of_binary line operator left right)
  binary_kept line Or left right l r = record {
    at = λ x.
        goes_on_same S (left (first S b x)) (left (second S c x)) _ _ (l.at x) (λ u. if_kept S (is_true u) _ _ _ _ (gives_same S _) (r.at x));
  }
  binary_kept line And left right l r = record {
    at = λ x.
        goes_on_same S (left (first S b x)) (left (second S c x)) _ _ (l.at x) (λ u. if_kept S (is_true u) _ _ _ _ (r.at x) (gives_same S _));
  }
  binary_kept line (Equate operator) left right l r = test_kept (equality_test operator) left right l r
  binary_kept line (Compare operator) left right l r = test_kept (relation_test operator) left right l r
  binary_kept line (Add operator) left right l r = arithmetic_kept line (sum_operation operator) left right l r
  binary_kept line (Multiply operator) left right l r = arithmetic_kept line (term_operation operator) left right l r

  arguments_kept : (x : Context) (es : List Expression) → AllByRecursion (λ e. Keeps (value_of e)) es
      → AllZip (S.Steps Value Same) (map (λ evaluates. evaluates (first S b x)) (map value_of es)) (map (λ evaluates. evaluates (second S c x)) (map value_of es))
  arguments_kept x [] all = tt
  arguments_kept x (e ∷ es) all = (all.0.at x, arguments_kept x es all.1)

  -- ---- one form after another

  abbrev KeepsForm : Becomes → Type 0
  KeepsForm t = Keeps (t Evaluates value_of_forms)

  forms_kept : EachForm KeepsForm KeepsForm
  forms_kept = record {
    alone = λ at t p. p;
    binary = λ at line operator l r p q. binary_kept line operator _ _ p q;
    unary = λ at line operator t p. record { at = λ x. goes_on_same S _ _ _ _ (p.at x) (unary_kept line operator) };
    number = λ at value. constant_kept _;
    true = λ at. constant_kept _;
    false = λ at. constant_kept _;
    own = λ at. record { at = λ x. gives_same S _ };
    read = λ at t p. p;
    input = λ at. record { at = λ x. S.inputs at.line };
    call = λ at f es all. record { at = λ x. call_kept x f _ _ (arguments_kept x es all) };
    parenthesized = λ at t p. p;
    whole = λ at t. record { at = λ x. read_kept S b c x t };
    element = λ at line t i p. record { at = λ x. element_kept line (read (first S b x) t) (read (second S c x) t) _ _ (read_kept S b c x t) (p.at x) };
  }

  pub expression_kept : (e : Expression) → Kept S b c Value Same (value_of e)
  expression_kept = by_forms KeepsForm KeepsForm forms_kept
