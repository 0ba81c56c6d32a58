-- What calls and statements do, so many layers deep, in a form that computes.
use Rattle.std.proofs.Common.{◌≡◌, ℕ, zero, suc, ◌+◌, List, [], map, Option, Some, None, if◌then◌else◌, ℤ, refl, ap, ◌∙◌}
use Rattle.mpl_ast.specs.declared.expression.Conjunction.{Conjunction}
use Rattle.mpl_ast.specs.declared.expression.Equality.{Equality}
use Rattle.mpl_ast.specs.declared.expression.Expression.{Expression}
use Rattle.mpl_ast.specs.declared.expression.Place.{Place, out-Place}
use Rattle.mpl_ast.specs.declared.expression.Primary.{Primary}
use Rattle.mpl_ast.specs.declared.expression.Relation.{Relation}
use Rattle.mpl_ast.specs.declared.expression.Sum.{Sum}
use Rattle.mpl_ast.specs.declared.expression.Term.{Term}
use Rattle.mpl_ast.specs.declared.expression.Unary.{Unary}
use Rattle.mpl_ast.specs.declared.expression.Conjunction.TheOpen.{Place-F}
use Rattle.mpl_ast.specs.declared.flow.Assignment.{Assignment}
use Rattle.mpl_ast.specs.declared.flow.Call.{Call, fold-Call, fold_out-Call, map-Call, out-Call}
use Rattle.mpl_ast.specs.declared.flow.Flow.{Flow, fold-Flow, fold_out-Flow, map-Flow, out-Flow}
use Rattle.mpl_ast.specs.declared.flow.Call.TheOpen.{Flow-F}
use Rattle.mpl_ast.specs.declared.statement.Block.{Block, fold-Block, fold_out-Block, map-Block, out-Block}
use Rattle.mpl_ast.specs.declared.statement.Declarator.{Declarator}
use Rattle.mpl_ast.specs.declared.statement.Declarator.TheVariants.{Plain, Initialized}
use Rattle.mpl_ast.specs.declared.statement.ForStart.{ForStart}
use Rattle.mpl_ast.specs.declared.statement.ForStart.TheVariants.{Declare, Assign}
use Rattle.mpl_ast.specs.declared.statement.Local.{Local}
use Rattle.mpl_ast.specs.declared.statement.Statement.{Statement, fold-Statement, fold_out-Statement, map-Statement, out-Statement}
use Rattle.mpl_ast.specs.declared.statement.Statement.TheOpen.{Statement-F}
use Rattle.mpl_ast.specs.declared.statement.TypeName.{TypeName}
use Rattle.mpl_value.specs.declared.body.Arg.{Arg}
use Rattle.mpl_value.specs.declared.body.Arg.TheVariants.{Know}
use Rattle.mpl_mean.specs.Meaning.CallMeaning.{MayName, Passes, call_step, call_value, held_or, passes, whole_name, whole_variable}
use Rattle.mpl_mean.specs.Meaning.Context.{Context}
use Rattle.mpl_mean.specs.Meaning.ExpressionMeaning.{Evaluates, value_of}
use Rattle.mpl_mean.specs.Meaning.Layout.{dimension_of, words_of}
use Rattle.mpl_mean.specs.Meaning.PlaceMeaning.{Location, index_of, put}
use Rattle.mpl_mean.specs.Meaning.StatementMeaning.{Effect, Does, assign_location, at_location, block_step, create_at, does, else_effect, gives_result, line_of, nothing, while_loop}
use Rattle.mpl_value.specs.Words.{zeros}
use Rattle.mpl_mean.specs.Meaning.Store.{Returns, Step, ◌>>=◌, ◌>>◌, all_of, declare, force, in_scope, in_turn, printed, waits}
use Rattle.mpl_mean.specs.Meaning.Values.{Value, is_true, word_of}
use Rattle.mpl_mean.proofs.SmallPrograms.OpenedExpressions.{name_opens, name_to, value_opens, value_to}

-- ---- calls

abbrev pass_by : (Expression → Evaluates) → (Expression → MayName) → Context → Expression → Step Arg
pass_by value name context e store = held_or (whole_variable (name e) store.variables) (value e context) store

abbrev pub flow_step_by : (Expression → Evaluates) → (Expression → MayName) → Flow-F Passes Passes → Passes
flow_step_by value name (Flow-F.OfCall at call) = call
flow_step_by value name (Flow-F.OfExpression at expression) = λ context. pass_by value name context expression

pub record Passed : Type 0 where
  pub call : Call → Passes
  pub flow : Flow → Passes

abbrev pub passed : (Flow-F Passes Passes → Passes) → Passed
passed step = record { call = fold-Call Passes Passes call_step step; flow = fold-Flow Passes Passes call_step step }

abbrev pub next_passed : (Flow-F Passes Passes → Passes) → Passed → Passed
next_passed step p = record {
  call = λ t. call_step (map-Call Call Flow Passes Passes p.call p.flow (out-Call t));
  flow = λ t. step (map-Flow Call Flow Passes Passes p.call p.flow (out-Flow t));
}

abbrev pub opened_passed : (Flow-F Passes Passes → Passes) → ℕ → Passed
opened_passed step zero = passed step
opened_passed step (suc n) = next_passed step (opened_passed step n)

one_more_passed : (step : Flow-F Passes Passes → Passes) → passed step ≡ next_passed step (passed step)
one_more_passed step = λ i. record { call = λ t. fold_out-Call Passes Passes call_step step t i; flow = λ t. fold_out-Flow Passes Passes call_step step t i }

passed_opens : (step : Flow-F Passes Passes → Passes) (n : ℕ) → passed step ≡ opened_passed step n
passed_opens step zero = refl
passed_opens step (suc n) = one_more_passed step ∙ ap (next_passed step) (passed_opens step n)

-- ---- what statements are made of

pub record Parts : Type 0 where
  pub value : Expression → Evaluates
  pub passed : Passed

abbrev parts : Parts
parts = record { value = value_of; passed = record { call = call_value; flow = passes } }

abbrev pub parts_to : ℕ → Parts
parts_to n = record { value = value_to n; passed = opened_passed (flow_step_by (value_to n) (name_to n)) n }

parts_open : (n : ℕ) → parts ≡ parts_to n
parts_open n =
    ap (λ value. record { value = value; passed = passed (flow_step_by value whole_name) }) (value_opens n)
    ∙ ap (λ name. record { value = value_to n; passed = passed (flow_step_by (value_to n) name) }) (name_opens n)
    ∙ ap (λ p. record { value = value_to n; passed = p }) (passed_opens (flow_step_by (value_to n) (name_to n)) n)

-- ---- statements

abbrev declares_by : Parts → Context → TypeName → Declarator → Effect
declares_by p context type (Plain at variable dimension) =
    declare (record { name = variable.text; type = type; dimension = dimension_of dimension; holds = Know (zeros (words_of context.declarations type (dimension_of dimension))) })
declares_by p context type (Initialized at variable value) =
    p.passed.flow value context >>= (λ holds. declare (record { name = variable.text; type = type; dimension = None; holds = holds }))

abbrev declares_all_by : Parts → Context → Local → Effect
declares_all_by p context local = in_turn (map (declares_by p context local.type_name) local.declarators)

abbrev assign_place_by : Parts → Context → Place-F Conjunction Equality Expression Place Primary Relation Sum Term Unary → Arg → Effect
assign_place_by p context (Place-F.Whole at target) value = at_location context target (λ location. assign_location location value)
assign_place_by p context (Place-F.Element at line target index) value = force value >>= (λ words.
    p.value index context >>= (λ i. at_location context target (λ location. element location i words))) where
      element : Option Location → Value → List ℤ → Effect
      element None i words = waits
      element (Some location) i words = index_of line location.words (word_of i) >>= (λ n. put location.variable (location.offset + n) words)

abbrev assigns_by : Parts → Context → Assignment → Effect
assigns_by p context a = p.passed.flow a.value context >>= assign_place_by p context (out-Place a.place)

abbrev loop_by : Parts → Context → Expression → Effect → Effect
loop_by p context test body = while_loop (context.turns + 1) context.turns (p.value test context) body

abbrev starts_by : Parts → Context → Option ForStart → Effect
starts_by p context None = nothing
starts_by p context (Some (Declare local)) = declares_all_by p context local
starts_by p context (Some (Assign assignment)) = assigns_by p context assignment

abbrev steps_by : Parts → Context → Option Assignment → Effect
steps_by p context None = nothing
steps_by p context (Some assignment) = assigns_by p context assignment

abbrev returns_by : Parts → Context → Option Expression → Effect
returns_by p context None = λ store. Returns [] store
returns_by p context (Some e) = p.value e context >>= (λ value store. Returns value.words store)

abbrev pub statement_step_by : Parts → Statement-F Does Does → Does
statement_step_by p (Statement-F.OfBlock at block) = block
statement_step_by p (Statement-F.Declare at local) = λ context. declares_all_by p context local
statement_step_by p (Statement-F.Assign at assignment) = λ context. assigns_by p context assignment
statement_step_by p (Statement-F.CallAlone at call) = λ context. p.passed.call call context >> nothing
statement_step_by p (Statement-F.Create at target) = λ context. at_location context target (create_at context)
statement_step_by p (Statement-F.If at test then_part else_part) = λ context.
    p.value test context >>= (λ value. if is_true value then in_scope (then_part context) else else_effect context else_part)
statement_step_by p (Statement-F.While at test body) = λ context. loop_by p context test (in_scope (body context))
statement_step_by p (Statement-F.For at head body) = λ context.
    in_scope (starts_by p context head.start >> loop_by p context head.test (in_scope (body context) >> steps_by p context head.step))
statement_step_by p (Statement-F.Print at arguments) = λ context. all_of (map (λ e. p.value e context) arguments) >>= (λ values. printed (line_of values))
statement_step_by p (Statement-F.Rtf at value) = λ context. p.passed.flow value context >>= gives_result at.line
statement_step_by p (Statement-F.Return at value) = λ context. returns_by p context value
statement_step_by p (Statement-F.Empty at) = λ context. nothing

pub record Done : Type 0 where
  pub statement : Statement → Does
  pub block : Block → Does

abbrev pub done : Parts → Done
done p = record { statement = fold-Statement Does Does (statement_step_by p) block_step; block = fold-Block Does Does (statement_step_by p) block_step }

abbrev pub next_done : Parts → Done → Done
next_done p d = record {
  statement = λ t. statement_step_by p (map-Statement Statement Block Does Does d.statement d.block (out-Statement t));
  block = λ t. block_step (map-Block Statement Block Does Does d.statement d.block (out-Block t));
}

abbrev pub opened_done : Parts → ℕ → Done
opened_done p zero = done p
opened_done p (suc n) = next_done p (opened_done p n)

one_more_done : (p : Parts) → done p ≡ next_done p (done p)
one_more_done p = λ i. record { statement = λ t. fold_out-Statement Does Does (statement_step_by p) block_step t i; block = λ t. fold_out-Block Does Does (statement_step_by p) block_step t i }

done_opens : (p : Parts) (n : ℕ) → done p ≡ opened_done p n
done_opens p zero = refl
done_opens p (suc n) = one_more_done p ∙ ap (next_done p) (done_opens p n)

-- what a statement does
abbrev pub does_to : ℕ → Statement → Does
does_to n = (opened_done (parts_to n) n).statement

pub does_opens : (n : ℕ) → does ≡ does_to n
does_opens n = ap (λ p. (done p).statement) (parts_open n) ∙ ap (λ d. d.statement) (done_opens (parts_to n) n)
