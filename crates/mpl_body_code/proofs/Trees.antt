-- The code of an expression does what it means, as a value and as what is passed on.
use Rattle.std.proofs.Common.{◌≤◌, ℕ, List, None}
use Rattle.mpl_ast.specs.declared.program.Declaration.{Declaration}
use Rattle.mpl_value.specs.declared.body.Arg.{Arg}
use Rattle.mpl_mean.specs.Meaning.CallMeaning.{MayName, Passes, name_of_target}
use Rattle.mpl_mean.specs.Meaning.Context.{Callees}
use Rattle.mpl_mean.specs.Meaning.ExpressionMeaning.{Evaluates}
use Rattle.mpl_mean.specs.Meaning.Layout.{Member, Part}
use Rattle.mpl_mean.specs.Plain.Expr.{Expr, Exprs}
use Rattle.mpl_mean.specs.Plain.Expr as e
use Rattle.mpl_plain.specs.ExprMeaning.{Meant, means_result, means_value, tree_means, tree_values, trees_pass}
use Rattle.mpl_plain.specs.Arity.{ExprFits, ExprsFit, count_of}
use Rattle.mpl_body_code.specs.Codes.{Code, Coded, codes_result, codes_value, expressions_code, flows_code, tree_code}
use Rattle.mpl_body_code.specs.Images.{HasCode}
use Rattle.mpl_mean.specs.Plain.Scopes.{Env, Shape}
use Rattle.mpl_body_code.proofs.Below.{Below}
use Rattle.mpl_body_code.proofs.Expressions as exprs
use Rattle.mpl_body_code.proofs.Flows as flows
use Rattle.mpl_body_code.proofs.Reaching.{Run}

module _ (K : Run) (ds : List Declaration) (members : List Member) (parts : List Part) (callees : Callees) (has : HasCode K.setting ds)
    (base : ℕ) (below : Below K.setting K.yield ds K.answered callees base) (above : base ≤ K.low) (scope : List Shape) (slots : List Arg) where
  abbrev env : Env
  env = record { declarations = ds; members = members; parts = parts; scope = scope }

  abbrev ValueFollows : Code → Evaluates → Type 0
  ValueFollows = exprs.ValueFollows K ds members parts callees has base below above scope slots

  abbrev ValuesFollow : Code → List Evaluates → ℕ → Type 0
  ValuesFollow = exprs.ValuesFollow K ds members parts callees has base below above scope slots

  abbrev ArgumentsFollow : Code → List Passes → ℕ → Type 0
  ArgumentsFollow = flows.ArgumentsFollow K ds members parts callees has base below above scope slots

  pub record Follows (coded : Coded) (meant : Meant) : Type 0 where
    pub value : ValueFollows coded.value meant.value
    pub passes : flows.FlowFollows K ds members parts callees has base below above scope slots coded.passes meant.passes

  a_value : (name : MayName) (code : Code) (v : Evaluates) → ValueFollows code v → Follows (codes_value env name code) (means_value name v)
  a_value name code v follows = record {
    value = follows;
    passes = flows.passed_follows K ds members parts callees has base below above scope slots name code v follows;
  }

  a_result : (code : Code) (f : Passes) → flows.ResultFollows K ds members parts callees has base below above scope slots code f → Follows (codes_result code) (means_result f)
  a_result code f follows = record {
    value = flows.forced_follows K ds members parts callees has base below above scope slots code f follows;
    passes = flows.result_follows K ds members parts callees has base below above scope slots code f follows;
  }

  mutual
    pub tree_follows : (t : Expr) → ExprFits env t → Follows (tree_code env t) (tree_means t)
    tree_follows (e.Number at value) fits = a_value None _ _ (exprs.number_follows K ds members parts callees has base below above scope slots value)
    tree_follows (e.Truth at value) fits = a_value None _ _ (exprs.truth_follows K ds members parts callees has base below above scope slots value)
    tree_follows (e.Own at) fits = a_value None _ _ (exprs.self_follows K ds members parts callees has base below above scope slots)
    tree_follows (e.Input at) fits = a_value None _ _ (exprs.next_follows K ds members parts callees has base below above scope slots at.line)
    tree_follows (e.Whole at target) fits = a_value (name_of_target target) _ _ (exprs.reads K ds members parts callees has base below above scope slots target)
    tree_follows (e.Element at line target index) fits =
        a_value None _ _
        (exprs.element_follows K ds members parts callees has base below above scope slots line target (tree_code env index).value (tree_means index).value (tree_follows index fits).value)
    tree_follows (e.PlainCall at function arguments) fits =
        a_value None _ _
        (exprs.plain_follows K ds members parts callees has base below above scope slots function (expressions_code env arguments) (tree_values arguments) (count_of arguments) fits.0
        (values_follow arguments fits.1))
    tree_follows (e.Parenthesized at inner) fits = a_value None _ _ (tree_follows inner fits).value
    tree_follows (e.Unary at line operator operand) fits =
        a_value None _ _
        (exprs.unary_follows K ds members parts callees has base below above scope slots line operator (tree_code env operand).value (tree_means operand).value (tree_follows operand fits).value)
    tree_follows (e.Binary at line operator left right) fits =
        a_value None _ _
        (exprs.binary_follows K ds members parts callees has base below above scope slots (tree_code env left).value (tree_code env right).value (tree_means left).value (tree_means right).value
        (tree_follows left fits.0).value (tree_follows right fits.1).value line operator)
    tree_follows (e.CallOnOwn at member arguments) fits =
        a_result _ _
        (flows.own_call_follows K ds members parts callees has base below above scope slots (flows_code env arguments) (trees_pass arguments) (count_of arguments) (flows_follow arguments fits) member)
    tree_follows (e.CallOnTarget at target member arguments) fits =
        a_result _ _
        (flows.target_call_follows K ds members parts callees has base below above scope slots (flows_code env arguments) (trees_pass arguments) (count_of arguments) (flows_follow arguments fits.1)
        at.line target member fits.0)

    values_follow : (ts : Exprs) → ExprsFit env ts → ValuesFollow (expressions_code env ts) (tree_values ts) (count_of ts)
    values_follow e.NoExpr fits = exprs.no_value K ds members parts callees has base below above scope slots
    values_follow (e.MoreExprs t ts) fits =
        exprs.more_values K ds members parts callees has base below above scope slots (tree_code env t).value (expressions_code env ts) (tree_means t).value (tree_values ts) (count_of ts)
        (tree_follows t fits.0).value (values_follow ts fits.1)

    flows_follow : (ts : Exprs) → ExprsFit env ts → ArgumentsFollow (flows_code env ts) (trees_pass ts) (count_of ts)
    flows_follow e.NoExpr fits = flows.no_argument K ds members parts callees has base below above scope slots
    flows_follow (e.MoreExprs t ts) fits =
        flows.more_arguments K ds members parts callees has base below above scope slots (tree_code env t).passes (flows_code env ts) (tree_means t).passes (trees_pass ts) (count_of ts)
        (tree_follows t fits.0).passes (flows_follow ts fits.1)
