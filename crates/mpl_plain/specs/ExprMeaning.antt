-- What the plain trees of expressions, flows and calls mean.
use Rattle.std.specs.Prelude.{ℕ, false, List, [], ◌∷◌, map, None}
use Rattle.mpl_ast.specs.declared.expression.Target.{Target}
use Rattle.mpl_ast.specs.declared.place.Name.{Name}
use Rattle.mpl_mean.specs.Meaning.CallMeaning.{MayName, Passes, at_context, call_of_member, call_on_target, held_or, name_of_target, persistent_call, whole_variable}
use Rattle.mpl_mean.specs.Meaning.ExpressionMeaning.{Evaluates, call_plain, element_of, next_number, value_of_binary, value_of_unary}
use Rattle.mpl_mean.specs.Meaning.Layout.{member_named}
use Rattle.mpl_mean.specs.Meaning.PlaceMeaning.{read}
use Rattle.mpl_mean.specs.Meaning.Store.{◌>>=◌, force, pure}
use Rattle.mpl_mean.specs.Meaning.Values.{bool_value, int_value}
use Rattle.mpl_mean.specs.Plain.Expr.{Expr, Exprs}
use Rattle.mpl_mean.specs.Plain.Expr as e

-- the name that it is, if it is one
abbrev pub tree_name : Expr → MayName
tree_name (e.Whole at target) = name_of_target target
tree_name other = None

-- what an expression means: its value, and what it passes on as a flow
pub record Meant : Type 0 where
  pub value : Evaluates
  pub passes : Passes

-- a whole formal or local is passed on as it stands, and every other value is evaluated
abbrev pub passed : MayName → Evaluates → Passes
passed name value = λ context store. held_or (whole_variable name store.variables) (value context) store

abbrev pub means_value : MayName → Evaluates → Meant
means_value name value = record { value = value; passes = passed name value }

-- A call passes on its result. As a value that is forced, though no call of an accepted program stands where a value does.
abbrev pub means_result : Passes → Meant
means_result call = record {
  value = λ context. call context >>= (λ result. force result >>= (λ words. pure (record { words = words; is_bool = false })));
  passes = call;
}

abbrev pub call_on_own : Name → List Passes → Passes
call_on_own member arguments = λ context.
    call_of_member (member_named member.text context.members) (λ m. persistent_call context context.object m (at_context context arguments))

abbrev pub call_on_place : ℕ → Target → Name → List Passes → Passes
call_on_place line target member arguments = λ context. call_on_target context line target member.text (at_context context arguments)

abbrev mutual
  pub tree_means : Expr → Meant
  tree_means (e.Number at value) = means_value None (λ context. pure (int_value value))
  tree_means (e.Truth at value) = means_value None (λ context. pure (bool_value value))
  tree_means (e.Own at) = means_value None (λ context. pure (int_value context.object))
  tree_means (e.Input at) = means_value None (λ context. next_number at.line)
  tree_means (e.Whole at target) = means_value (name_of_target target) (λ context. read context target)
  tree_means (e.Element at line target index) = means_value None (λ context. element_of line (read context target) ((tree_means index).value context))
  tree_means (e.PlainCall at function arguments) =
      means_value None (λ context. call_plain context function (map (λ evaluates. evaluates context) (tree_values arguments)))
  tree_means (e.Parenthesized at inner) = means_value None (tree_means inner).value
  tree_means (e.Unary at line operator operand) = means_value None (value_of_unary line operator (tree_means operand).value)
  tree_means (e.Binary at line operator left right) = means_value None (value_of_binary line operator (tree_means left).value (tree_means right).value)
  tree_means (e.CallOnOwn at member arguments) = means_result (call_on_own member (trees_pass arguments))
  tree_means (e.CallOnTarget at target member arguments) = means_result (call_on_place at.line target member (trees_pass arguments))

  pub tree_values : Exprs → List Evaluates
  tree_values e.NoExpr = []
  tree_values (e.MoreExprs expr exprs) = (tree_means expr).value ∷ tree_values exprs

  pub trees_pass : Exprs → List Passes
  trees_pass e.NoExpr = []
  trees_pass (e.MoreExprs expr exprs) = (tree_means expr).passes ∷ trees_pass exprs

abbrev pub tree_value : Expr → Evaluates
tree_value expr = (tree_means expr).value

abbrev pub tree_passes : Expr → Passes
tree_passes expr = (tree_means expr).passes
