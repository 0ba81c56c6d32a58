-- The image of a program whose trees have at most so many layers, in a form that computes.
use Rattle.std.proofs.Common.{◌≡◌, ℕ, zero, suc, Bool, List, [], map, Option, Some, None, refl, ap, ◌∙◌, length}
use Rattle.std.specs.FinMap.{FinMap}
use Rattle.std.specs.Fmt.{digits}
use Rattle.std.specs.Option.{option_map}
use Rattle.std.specs.Ordering.{nat_cmp}
use Rattle.std.specs.Prelude.{codes, false, flat_map}
use Rattle.mpl_ast.specs.declared.expression.Conjunction.{Conjunction, fold_out-Conjunction, map-Conjunction, out-Conjunction}
use Rattle.mpl_ast.specs.declared.expression.Equality.{Equality, fold_out-Equality, map-Equality, out-Equality}
use Rattle.mpl_ast.specs.declared.expression.Expression.{Expression, fold_out-Expression, map-Expression, out-Expression}
use Rattle.mpl_ast.specs.declared.expression.Place.{Place, fold_out-Place, map-Place, out-Place}
use Rattle.mpl_ast.specs.declared.expression.Primary.{Primary, fold_out-Primary, map-Primary, out-Primary}
use Rattle.mpl_ast.specs.declared.expression.Relation.{Relation, fold_out-Relation, map-Relation, out-Relation}
use Rattle.mpl_ast.specs.declared.expression.Sum.{Sum, fold_out-Sum, map-Sum, out-Sum}
use Rattle.mpl_ast.specs.declared.expression.Term.{Term, fold_out-Term, map-Term, out-Term}
use Rattle.mpl_ast.specs.declared.expression.Unary.{Unary, fold_out-Unary, map-Unary, out-Unary}
use Rattle.mpl_ast.specs.declared.flow.Assignment.{Assignment}
use Rattle.mpl_ast.specs.declared.flow.Call.{Call, fold-Call, fold_out-Call, map-Call, out-Call}
use Rattle.mpl_ast.specs.declared.flow.Flow.{Flow, fold-Flow, fold_out-Flow, map-Flow, out-Flow}
use Rattle.mpl_ast.specs.declared.flow.Call.TheOpen.{Flow-F}
use Rattle.mpl_ast.specs.declared.program.Declaration.{Declaration}
use Rattle.mpl_ast.specs.declared.program.Program.{Program}
use Rattle.mpl_ast.specs.declared.statement.Block.{Block, fold-Block, fold_out-Block, map-Block, out-Block}
use Rattle.mpl_ast.specs.declared.statement.Declarator.{Declarator}
use Rattle.mpl_ast.specs.declared.statement.Declarator.TheVariants.{Plain, Initialized}
use Rattle.mpl_ast.specs.declared.statement.ForStart.{ForStart}
use Rattle.mpl_ast.specs.declared.statement.ForStart.TheVariants.{Declare, Assign}
use Rattle.mpl_ast.specs.declared.statement.Local.{Local}
use Rattle.mpl_ast.specs.declared.statement.Statement.{Statement, fold-Statement, fold_out-Statement, map-Statement, out-Statement}
use Rattle.mpl_ast.specs.declared.statement.Statement.TheOpen.{Statement-F}
use Rattle.mpl_value.specs.declared.body.BodyStart.{BodyStart}
use Rattle.mpl_value.specs.declared.body.Yield.{Yield}
use Rattle.mpl_value.specs.declared.known.Known.{Known}
use Rattle.mpl_mean.specs.Levels.{Forms, expression_step, conjunction_step, equality_step, relation_step, sum_step, term_step, unary_step, expression_by, conjunction_by, equality_by, relation_by, sum_by, term_by, unary_by, primary_by, place_by}
use Rattle.mpl_mean.specs.Meaning.Layout.{Class, Function, Member, classes_of, function_named, words_of}
use Rattle.mpl_mean.specs.Plain.Expr.{Expr, call_step, expr_of_forms}
use Rattle.mpl_mean.specs.Plain.Stmt.{NewLocal, Stmt, Stmts, block_step, branches, if_any, in_turn, stmt_of}
use Rattle.mpl_mean.specs.Plain.Stmt as s
use Rattle.mpl_mean.proofs.SmallPrograms.OpenTrees.{open_trees}
use Rattle.mdf_code.specs.Yields.{Ended, YieldsUnstrayed, replies_of, run_of, setting_of, yield_at}
use Rattle.mdf_code.specs.declared.raw.RawFunction.{RawFunction}
use Rattle.mdf_code.specs.declared.raw.RawImage.{RawImage}
use Rattle.mdf_code.specs.declared.raw.RawMember.{RawMember}
use Rattle.mpl_gen_code.specs.ExpressionCode.{PlainFunction, plain_functions}
use Rattle.mpl_gen_code.specs.ProgramImage.{code_of_body, function_env, image_of, main_env, member_env, result_image}

-- ---- expressions

record Made (A : Type 0) : Type 0 where
  conjunction : Conjunction → A
  equality : Equality → A
  expression : Expression → A
  place : Place → A
  primary : Primary → A
  relation : Relation → A
  sum : Sum → A
  term : Term → A
  unary : Unary → A

abbrev folded : {A : Type 0} → Forms A → Made A
folded forms = record {
  conjunction = conjunction_by forms;
  equality = equality_by forms;
  expression = expression_by forms;
  place = place_by forms;
  primary = primary_by forms;
  relation = relation_by forms;
  sum = sum_by forms;
  term = term_by forms;
  unary = unary_by forms;
}

abbrev next : {A : Type 0} → Forms A → Made A → Made A
next {A} s m = record {
  conjunction = λ t. conjunction_step s (map-Conjunction Conjunction Equality Expression Place Primary Relation Sum Term Unary A A A A A A A A A m.conjunction m.equality m.expression m.place m.primary m.relation m.sum m.term m.unary (out-Conjunction t));
  equality = λ t. equality_step s (map-Equality Conjunction Equality Expression Place Primary Relation Sum Term Unary A A A A A A A A A m.conjunction m.equality m.expression m.place m.primary m.relation m.sum m.term m.unary (out-Equality t));
  expression = λ t. expression_step s (map-Expression Conjunction Equality Expression Place Primary Relation Sum Term Unary A A A A A A A A A m.conjunction m.equality m.expression m.place m.primary m.relation m.sum m.term m.unary (out-Expression t));
  place = λ t. s.place (map-Place Conjunction Equality Expression Place Primary Relation Sum Term Unary A A A A A A A A A m.conjunction m.equality m.expression m.place m.primary m.relation m.sum m.term m.unary (out-Place t));
  primary = λ t. s.primary (map-Primary Conjunction Equality Expression Place Primary Relation Sum Term Unary A A A A A A A A A m.conjunction m.equality m.expression m.place m.primary m.relation m.sum m.term m.unary (out-Primary t));
  relation = λ t. relation_step s (map-Relation Conjunction Equality Expression Place Primary Relation Sum Term Unary A A A A A A A A A m.conjunction m.equality m.expression m.place m.primary m.relation m.sum m.term m.unary (out-Relation t));
  sum = λ t. sum_step s (map-Sum Conjunction Equality Expression Place Primary Relation Sum Term Unary A A A A A A A A A m.conjunction m.equality m.expression m.place m.primary m.relation m.sum m.term m.unary (out-Sum t));
  term = λ t. term_step s (map-Term Conjunction Equality Expression Place Primary Relation Sum Term Unary A A A A A A A A A m.conjunction m.equality m.expression m.place m.primary m.relation m.sum m.term m.unary (out-Term t));
  unary = λ t. unary_step s (map-Unary Conjunction Equality Expression Place Primary Relation Sum Term Unary A A A A A A A A A m.conjunction m.equality m.expression m.place m.primary m.relation m.sum m.term m.unary (out-Unary t));
}

abbrev opened : {A : Type 0} → Forms A → ℕ → Made A
opened s zero = folded s
opened s (suc n) = next s (opened s n)

one_more : {A : Type 0} (s : Forms A) → folded s ≡ next s (folded s)
one_more {A} s = λ i. record {
  conjunction = λ t. fold_out-Conjunction A A A A A A A A A (conjunction_step s) (equality_step s) (expression_step s) s.place s.primary (relation_step s) (sum_step s) (term_step s) (unary_step s) t i;
  equality = λ t. fold_out-Equality A A A A A A A A A (conjunction_step s) (equality_step s) (expression_step s) s.place s.primary (relation_step s) (sum_step s) (term_step s) (unary_step s) t i;
  expression = λ t. fold_out-Expression A A A A A A A A A (conjunction_step s) (equality_step s) (expression_step s) s.place s.primary (relation_step s) (sum_step s) (term_step s) (unary_step s) t i;
  place = λ t. fold_out-Place A A A A A A A A A (conjunction_step s) (equality_step s) (expression_step s) s.place s.primary (relation_step s) (sum_step s) (term_step s) (unary_step s) t i;
  primary = λ t. fold_out-Primary A A A A A A A A A (conjunction_step s) (equality_step s) (expression_step s) s.place s.primary (relation_step s) (sum_step s) (term_step s) (unary_step s) t i;
  relation = λ t. fold_out-Relation A A A A A A A A A (conjunction_step s) (equality_step s) (expression_step s) s.place s.primary (relation_step s) (sum_step s) (term_step s) (unary_step s) t i;
  sum = λ t. fold_out-Sum A A A A A A A A A (conjunction_step s) (equality_step s) (expression_step s) s.place s.primary (relation_step s) (sum_step s) (term_step s) (unary_step s) t i;
  term = λ t. fold_out-Term A A A A A A A A A (conjunction_step s) (equality_step s) (expression_step s) s.place s.primary (relation_step s) (sum_step s) (term_step s) (unary_step s) t i;
  unary = λ t. fold_out-Unary A A A A A A A A A (conjunction_step s) (equality_step s) (expression_step s) s.place s.primary (relation_step s) (sum_step s) (term_step s) (unary_step s) t i;
}

opens : {A : Type 0} (s : Forms A) (n : ℕ) → folded s ≡ opened s n
opens s zero = refl
opens s (suc n) = one_more s ∙ ap (next s) (opens s n)

-- ---- flows and calls

abbrev flow_step_by : (Expression → Expr) → Flow-F Expr Expr → Expr
flow_step_by value (Flow-F.OfCall at call) = call
flow_step_by value (Flow-F.OfExpression at expression) = value expression

record Passed : Type 0 where
  call : Call → Expr
  flow : Flow → Expr

abbrev passed : (Flow-F Expr Expr → Expr) → Passed
passed step = record { call = fold-Call Expr Expr call_step step; flow = fold-Flow Expr Expr call_step step }

abbrev next_passed : (Flow-F Expr Expr → Expr) → Passed → Passed
next_passed step p = record {
  call = λ t. call_step (map-Call Call Flow Expr Expr p.call p.flow (out-Call t));
  flow = λ t. step (map-Flow Call Flow Expr Expr p.call p.flow (out-Flow t));
}

abbrev opened_passed : (Flow-F Expr Expr → Expr) → ℕ → Passed
opened_passed step zero = passed step
opened_passed step (suc n) = next_passed step (opened_passed step n)

one_more_passed : (step : Flow-F Expr Expr → Expr) → passed step ≡ next_passed step (passed step)
one_more_passed step = λ i. record { call = λ t. fold_out-Call Expr Expr call_step step t i; flow = λ t. fold_out-Flow Expr Expr call_step step t i }

passed_opens : (step : Flow-F Expr Expr → Expr) (n : ℕ) → passed step ≡ opened_passed step n
passed_opens step zero = refl
passed_opens step (suc n) = one_more_passed step ∙ ap (next_passed step) (passed_opens step n)

-- ---- what statements are made of

record Parts : Type 0 where
  value : Expression → Expr
  place : Place → Expr
  passed : Passed

abbrev parts_of_made : Made Expr → Parts
parts_of_made m = record { value = m.expression; place = m.place; passed = passed (flow_step_by m.expression) }

abbrev parts_to : ℕ → Parts
parts_to n = record { value = (opened expr_of_forms n).expression; place = (opened expr_of_forms n).place; passed = opened_passed (flow_step_by (opened expr_of_forms n).expression) n }

parts_open : (n : ℕ) → parts_of_made (folded expr_of_forms) ≡ parts_to n
parts_open n =
    ap parts_of_made (opens expr_of_forms n)
    ∙ ap (λ p. record { value = (opened expr_of_forms n).expression; place = (opened expr_of_forms n).place; passed = p }) (passed_opens (flow_step_by (opened expr_of_forms n).expression) n)

abbrev new_local_by : Parts → Declarator → NewLocal
new_local_by p (Plain at variable dimension) = record { name = variable; dimension = dimension; initialiser = None }
new_local_by p (Initialized at variable value) = record { name = variable; dimension = None; initialiser = Some (p.passed.flow value) }

abbrev locals_by : Parts → Local → Stmt
locals_by p l = s.Locals l.type_name (map (new_local_by p) l.declarators)

abbrev assigns_by : Parts → Assignment → Stmt
assigns_by p a = s.Assigns a.at (p.place a.place) (p.passed.flow a.value)

abbrev starts_by : Parts → ForStart → Stmt
starts_by p (Declare local) = locals_by p local
starts_by p (Assign assignment) = assigns_by p assignment

abbrev statement_step_by : Parts → Statement-F Stmt Stmts → Stmt
statement_step_by p (Statement-F.OfBlock at block) = s.Within block
statement_step_by p (Statement-F.Declare at local) = locals_by p local
statement_step_by p (Statement-F.Assign at assignment) = assigns_by p assignment
statement_step_by p (Statement-F.CallAlone at call) = s.Calls (p.passed.call call)
statement_step_by p (Statement-F.Create at target) = s.Creates at target
statement_step_by p (Statement-F.If at test then_part else_part) = branches (p.value test) then_part else_part
statement_step_by p (Statement-F.While at test body) = s.Repeats (p.value test) body
statement_step_by p (Statement-F.For at head body) = s.Loops (if_any (option_map (starts_by p) head.start)) (p.value head.test) (if_any (option_map (assigns_by p) head.step)) body
statement_step_by p (Statement-F.Print at arguments) = s.Prints at (map p.value arguments)
statement_step_by p (Statement-F.Rtf at value) = s.Gives at (p.passed.flow value)
statement_step_by p (Statement-F.Return at value) = s.Returns at (option_map p.value value)
statement_step_by p (Statement-F.Empty at) = s.Nothing

record Seen : Type 0 where
  statement : Statement → Stmt
  block : Block → Stmts

abbrev seen : Parts → Seen
seen p = record { statement = fold-Statement Stmt Stmts (statement_step_by p) block_step; block = fold-Block Stmt Stmts (statement_step_by p) block_step }

abbrev next_seen : Parts → Seen → Seen
next_seen p d = record {
  statement = λ t. statement_step_by p (map-Statement Statement Block Stmt Stmts d.statement d.block (out-Statement t));
  block = λ t. block_step (map-Block Statement Block Stmt Stmts d.statement d.block (out-Block t));
}

abbrev opened_seen : Parts → ℕ → Seen
opened_seen p zero = seen p
opened_seen p (suc n) = next_seen p (opened_seen p n)

one_more_seen : (p : Parts) → seen p ≡ next_seen p (seen p)
one_more_seen p = λ i. record { statement = λ t. fold_out-Statement Stmt Stmts (statement_step_by p) block_step t i; block = λ t. fold_out-Block Stmt Stmts (statement_step_by p) block_step t i }

seen_opens : (p : Parts) (n : ℕ) → seen p ≡ opened_seen p n
seen_opens p zero = refl
seen_opens p (suc n) = one_more_seen p ∙ ap (next_seen p) (seen_opens p n)

abbrev stmt_to : ℕ → Statement → Stmt
stmt_to n = (opened_seen (parts_to n) n).statement

stmt_same : stmt_of ≡ (seen (parts_of_made (folded expr_of_forms))).statement
stmt_same = refl

stmt_opens : (n : ℕ) → stmt_of ≡ stmt_to n
stmt_opens n = stmt_same ∙ ap (λ p. (seen p).statement) (parts_open n) ∙ ap (λ (d : Seen). d.statement) (seen_opens (parts_to n) n)

-- ---- images

abbrev stmts_by : (Statement → Stmt) → Block → Stmts
stmts_by sees b = in_turn (map sees b.statements)

abbrev main_by : (Statement → Stmt) → Option Function → Stmts
main_by sees None = in_turn []
main_by sees (Some main) = stmts_by sees main.body

abbrev function_by : (Statement → Stmt) → List Declaration → (ℕ → Bool) → PlainFunction → RawFunction
function_by sees ds marks plain = record {
  formals = length plain.function.formals;
  result = words_of ds plain.function.result None;
  body = code_of_body (function_env ds marks plain.function) (stmts_by sees plain.function.body);
}

abbrev member_by : (Statement → Stmt) → List Declaration → (ℕ → Bool) → Class → Member → RawMember
member_by sees ds marks class member = record {
  class = class.number;
  formals = length member.formals;
  result = result_image ds member.result;
  body = code_of_body (member_env ds marks class member) (stmts_by sees member.body);
}

abbrev image_by : (Statement → Stmt) → Program → (ℕ → Bool) → RawImage
image_by sees p marks = record (image_of p marks) {
  functions = map (function_by sees p.declarations marks) (plain_functions p.declarations);
  members = flat_map (λ (class : Class). map (member_by sees p.declarations marks class) class.members) (classes_of p.declarations);
  main = code_of_body (main_env p.declarations marks) (main_by sees (function_named (codes "main") p.declarations));
}

image_same : (p : Program) (marks : ℕ → Bool) → image_of p marks ≡ image_by stmt_of p marks
image_same p marks = refl

-- the image, where the trees are open
unfoldable pub opened_image : Program → (ℕ → Bool) → RawImage
unfolding open_trees digits
opened_image = image_by (stmt_to 40)

pub image_opens : (p : Program) (marks : ℕ → Bool) → image_of p marks ≡ opened_image p marks
unfolding opened_image
image_opens p marks = image_same p marks ∙ ap (λ sees. image_by sees p marks) (stmt_opens 40)

-- ---- runs

abbrev pub seen_end : Ended → Yield × Bool
seen_end ended = (yield_at ended, ended.body.strayed)

-- what a body does within so many steps, and whether it met an instruction that can't stand there
abbrev pub ran : ℕ → RawImage → BodyStart → FinMap nat_cmp Known → ℕ → Option (Yield × Bool)
ran steps image start replies turns = option_map seen_end (run_of steps (setting_of image start (replies_of replies) turns) start)

pub did : (steps : ℕ) (image : RawImage) (start : BodyStart) (replies : FinMap nat_cmp Known) (turns : ℕ) (y : Yield) → ran steps image start replies turns ≡ Some (y, false) → YieldsUnstrayed image start replies turns y
did steps image start replies turns y h = by_end (run_of steps (setting_of image start (replies_of replies) turns) start) refl h where
  some_pair : {a b : Yield × Bool} → ◌≡◌ {A = Option (Yield × Bool)} (Some a) (Some b) → a ≡ b
  some_pair e = cc

  by_end : (o : Option Ended) → run_of steps (setting_of image start (replies_of replies) turns) start ≡ o → option_map seen_end o ≡ Some (y, false) → YieldsUnstrayed image start replies turns y
  by_end None e i = absurd cc
  by_end (Some ended) e i =
      let same = some_pair i in
      record { steps = steps; ended = ended; within = e; is = ap (λ (p : Yield × Bool). p.0) same; unstrayed = ap (λ (p : Yield × Bool). p.1) same }

-- a worked program's image does this
pub image_did : (p : Program) (marks : ℕ → Bool) (steps : ℕ) (start : BodyStart) (replies : FinMap nat_cmp Known) (turns : ℕ) (y : Yield) → ran steps (opened_image p marks) start replies turns ≡ Some (y, false)
    → YieldsUnstrayed (image_of p marks) start replies turns y
image_did p marks steps start replies turns y h = did steps (image_of p marks) start replies turns y (ap (λ image. ran steps image start replies turns) (image_opens p marks) ∙ h)
