-- Statements do what their plain trees do.
use Rattle.std.proofs.Common.{◌≡◌, ◌+◌, List, [], ◌∷◌, map, Option, Some, None, if◌then◌else◌, refl, ap, ap₂, sym, subst, ◌∙◌}
use Rattle.std.specs.Option.{option_map}
use Rattle.mpl_ast.specs.declared.expression.Conjunction.{Conjunction}
use Rattle.mpl_ast.specs.declared.expression.Conjunction.TheOpen.{Place-F}
use Rattle.mpl_ast.specs.declared.expression.Equality.{Equality}
use Rattle.mpl_ast.specs.declared.expression.Expression.{Expression}
use Rattle.mpl_ast.specs.declared.expression.Place.{Place, out-Place}
use Rattle.mpl_ast.specs.declared.expression.Primary.{Primary}
use Rattle.mpl_ast.specs.declared.expression.Relation.{Relation}
use Rattle.mpl_ast.specs.declared.expression.Sum.{Sum}
use Rattle.mpl_ast.specs.declared.expression.Term.{Term}
use Rattle.mpl_ast.specs.declared.expression.Unary.{Unary}
use Rattle.mpl_ast.specs.declared.flow.Assignment.{Assignment}
use Rattle.mpl_ast.specs.declared.flow.Flow.{Flow}
use Rattle.mpl_ast.specs.declared.statement.Block.{Block, Block-F, fold-Block, fold-roll-Block, map-Block, roll-Block}
use Rattle.mpl_ast.specs.declared.statement.Declarator.{Declarator}
use Rattle.mpl_ast.specs.declared.statement.Declarator.TheVariants.{Plain, Initialized}
use Rattle.mpl_ast.specs.declared.statement.ForStart.{ForStart}
use Rattle.mpl_ast.specs.declared.statement.ForStart.TheVariants as start
use Rattle.mpl_ast.specs.declared.statement.Local.{Local}
use Rattle.mpl_ast.specs.declared.statement.Statement.{Statement, fold-roll-Statement, map-Statement, roll-Statement, ind-Statement}
use Rattle.mpl_ast.specs.declared.statement.Statement.TheOpen.{Statement-F}
use Rattle.mpl_ast.specs.declared.statement.TypeName.{TypeName}
use Rattle.mpl_mean.specs.Meaning.BodyMeaning.{run}
use Rattle.mpl_mean.specs.Meaning.CallMeaning.{passes}
use Rattle.mpl_mean.specs.Meaning.Context.{Context}
use Rattle.mpl_mean.specs.Meaning.ExpressionMeaning.{Evaluates, value_of}
use Rattle.mpl_mean.specs.Meaning.StatementMeaning.{Does, Effect, assign_place, assigns, at_location, block_step, declares, does, gives_result, line_of, nothing, returns, starts, statement_step, steps, while_loop}
use Rattle.mpl_mean.specs.Meaning.Store.{◌>>=◌, ◌>>◌, Returns, all_of, declare, force, in_scope, in_turn, printed, spend}
use Rattle.mpl_mean.specs.Meaning.Values.{is_true}
use Rattle.mpl_mean.specs.Plain.Expr.{expr_of, expr_of_flow, expr_of_forms}
use Rattle.mpl_mean.specs.Plain.Stmt.{Stmt, Stmts, if_any, locals, new_local, stmt_of, stmts_from}
use Rattle.mpl_mean.specs.Plain.Stmt as tree
use Rattle.mpl_mean.proofs.ExpressionInduction.{place_of_parts, place_opens}
use Rattle.mpl_plain.specs.ExprMeaning.{tree_passes, tree_value}
use Rattle.mpl_plain.specs.StmtMeaning.{assign_element, assign_tree, local_does, tree_does, tree_returns, trees_do, trees_run}
use Rattle.mpl_plain.proofs.ExprsSame.{value_same}
use Rattle.mpl_plain.proofs.FlowsSame.{call_same, flow_same}

-- ---- the parts of statements

local_same : (context : Context) (type : TypeName) (d : Declarator) → declares context type d ≡ local_does type (new_local d) context
local_same context type (Plain at variable dimension) = refl
local_same context type (Initialized at variable value) =
    ap (λ f. f context >>= (λ holds. declare (record { name = variable.text; type = type; dimension = None; holds = holds }))) (flow_same value)

each_local_same : (context : Context) (type : TypeName) (ds : List Declarator)
    → map (declares context type) ds ≡ map (λ new. local_does type new context) (map new_local ds)
each_local_same context type [] = refl
each_local_same context type (d ∷ ds) = ap₂ (λ f fs. f ∷ fs) (local_same context type d) (each_local_same context type ds)

locals_same : (context : Context) (local : Local) → in_turn (map (declares context local.type_name) local.declarators) ≡ tree_does (locals local) context
locals_same context local = ap in_turn (each_local_same context local.type_name local.declarators)

assigned_same : (context : Context) (place : Place-F Conjunction Equality Expression Place Primary Relation Sum Term Unary) (value : Flow)
    → passes value context >>= assign_place context place ≡ tree_passes (expr_of_flow value) context >>= assign_tree (place_of_parts expr_of_forms place) context
assigned_same context (Place-F.Whole at target) value =
    ap (λ f. f context >>= assign_place context (Place-F.Whole at target)) (flow_same value)
assigned_same context (Place-F.Element at line target index) value =
    ap₂ (λ f i. f context >>= (λ passed. force passed >>= (λ words. i context >>= (λ v. at_location context target (λ location. assign_element line location v words)))))
    (flow_same value) (value_same index)

assignment_same : (context : Context) (a : Assignment) → assigns context a ≡ tree_does (tree.assigns a) context
assignment_same context a =
    assigned_same context (out-Place a.place) a.value
    ∙ ap (λ place. tree_passes (expr_of_flow a.value) context >>= assign_tree place context) (sym (place_opens expr_of_forms a.place))

start_same : (context : Context) (start : Option ForStart) → starts context start ≡ tree_does (if_any (option_map tree.starts start)) context
start_same context None = refl
start_same context (Some (start.Declare local)) = locals_same context local
start_same context (Some (start.Assign assignment)) = assignment_same context assignment

step_same : (context : Context) (step : Option Assignment) → steps context step ≡ tree_does (if_any (option_map tree.assigns step)) context
step_same context None = refl
step_same context (Some assignment) = assignment_same context assignment

returns_same : (context : Context) (value : Option Expression) → returns context value ≡ tree_returns (option_map expr_of value) context
returns_same context None = refl
returns_same context (Some e) = ap (λ v. v context >>= (λ value store. Returns value.words store)) (value_same e)

values_same : (context : Context) (es : List Expression)
    → map (λ e. value_of e context) es ≡ map (λ expr. tree_value expr context) (map expr_of es)
values_same context [] = refl
values_same context (e ∷ es) = ap₂ (λ v vs. v context ∷ vs) (value_same e) (values_same context es)

-- ---- the folds, and what is shown of each tree

abbrev block_does : Block → Does
block_does = fold-Block Does Does statement_step block_step

abbrev block_stmts : Block → Stmts
block_stmts = fold-Block Stmt Stmts tree.statement_step tree.block_step

abbrev Same : Does → Stmt → Type 0
Same f t = (context : Context) → f context ≡ tree_does t context

abbrev Good-Statement : Statement → Type 0
Good-Statement t = Same (does t) (stmt_of t)

abbrev Good-Block : Block → Type 0
Good-Block t = Same (block_does t) (tree.Within (block_stmts t))

abbrev With-Statement : Type 0
With-Statement = (t : Statement) × Good-Statement t

abbrev With-Block : Type 0
With-Block = (t : Block) × Good-Block t

both : {f g : Does} {a b : Stmt} → f ≡ g → a ≡ b → Same f a → Same g b
both {f} {g} {a} {b} i j h = subst (λ g. Same g b) i (subst (λ b. Same f b) j h)

rolled-Statement : (layer : Statement-F Statement Block)
    → Same (statement_step (map-Statement Statement Block Does Does does block_does layer)) (tree.statement_step (map-Statement Statement Block Stmt Stmts stmt_of block_stmts layer))
    → Good-Statement (roll-Statement layer)
rolled-Statement layer = both (sym (fold-roll-Statement Does Does statement_step block_step layer)) (sym (fold-roll-Statement Stmt Stmts tree.statement_step tree.block_step layer))

rolled-Block : (layer : Block-F Statement Block)
    → Same (block_step (map-Block Statement Block Does Does does block_does layer)) (tree.Within (tree.block_step (map-Block Statement Block Stmt Stmts stmt_of block_stmts layer)))
    → Good-Block (roll-Block layer)
rolled-Block layer = both (sym (fold-roll-Block Does Does statement_step block_step layer)) (ap tree.Within (sym (fold-roll-Block Stmt Stmts tree.statement_step tree.block_step layer)))

each_same : (context : Context) (ts : List With-Statement)
    → map (λ (does : Does). does context) (map does (map (λ t. t.0) ts)) ≡ map (λ (does : Does). does context) (trees_do (tree.in_turn (map stmt_of (map (λ t. t.0) ts))))
each_same context [] = refl
each_same context (t ∷ ts) = ap₂ (λ f fs. f ∷ fs) (t.1 context) (each_same context ts)

abbrev tests : Evaluates → Context → Effect → Effect → Effect
tests v context f g = v context >>= (λ value. if is_true value then in_scope f else g)

statement_layer : (y : Statement-F With-Statement With-Block) → Good-Statement (roll-Statement (map-Statement With-Statement With-Block Statement Block (λ t. t.0) (λ t. t.0) y))
statement_layer (Statement-F.OfBlock at t) = rolled-Statement (Statement-F.OfBlock at t.0) t.1
statement_layer (Statement-F.Declare at local) = rolled-Statement (Statement-F.Declare at local) (λ context. locals_same context local)
statement_layer (Statement-F.Assign at assignment) = rolled-Statement (Statement-F.Assign at assignment) (λ context. assignment_same context assignment)
statement_layer (Statement-F.CallAlone at c) = rolled-Statement (Statement-F.CallAlone at c) (λ context. ap (λ f. f context >> nothing) (call_same c))
statement_layer (Statement-F.Create at target) = rolled-Statement (Statement-F.Create at target) (λ context. refl)
statement_layer (Statement-F.If at test t None) = rolled-Statement (Statement-F.If at test t.0 None) (λ context.
    ap₂ (λ v f. tests v context f nothing) (value_same test) (t.1 context))
statement_layer (Statement-F.If at test t (Some u)) = rolled-Statement (Statement-F.If at test t.0 (Some u.0)) (λ context.
    ap₂ (λ v f. tests v context f (in_scope (does u.0 context))) (value_same test) (t.1 context)
    ∙ ap (λ g. tests (tree_value (expr_of test)) context (tree_does (stmt_of t.0) context) (in_scope g)) (u.1 context))
statement_layer (Statement-F.While at test t) = rolled-Statement (Statement-F.While at test t.0) (λ context.
    ap₂ (λ v f. while_loop (context.turns + 1) context.turns (v context) (in_scope f)) (value_same test) (t.1 context))
statement_layer (Statement-F.For at head t) = rolled-Statement (Statement-F.For at head t.0) (λ context.
    ap₂ (λ first rest. in_scope (first >> rest)) (start_same context head.start)
    (ap₂ (λ v f. while_loop (context.turns + 1) context.turns (v context) f) (value_same head.test)
    (ap₂ (λ f g. in_scope f >> g) (t.1 context) (step_same context head.step))))
statement_layer (Statement-F.Print at es) = rolled-Statement (Statement-F.Print at es) (λ context. ap (λ vs. all_of vs >>= (λ values. printed (line_of values))) (values_same context es))
statement_layer (Statement-F.Rtf at value) = rolled-Statement (Statement-F.Rtf at value) (λ context. ap (λ f. f context >>= gives_result at.line) (flow_same value))
statement_layer (Statement-F.Return at value) = rolled-Statement (Statement-F.Return at value) (λ context. returns_same context value)
statement_layer (Statement-F.Empty at) = rolled-Statement (Statement-F.Empty at) (λ context. refl)

block_layer : (y : Block-F With-Statement With-Block) → Good-Block (roll-Block (map-Block With-Statement With-Block Statement Block (λ t. t.0) (λ t. t.0) y))
block_layer y = rolled-Block (map-Block With-Statement With-Block Statement Block (λ t. t.0) (λ t. t.0) y) (λ context. ap (λ all. in_scope (in_turn all)) (each_same context y.statements))

pub statement_same : (t : Statement) (context : Context) → does t context ≡ tree_does (stmt_of t) context
statement_same =
    ind-Statement Good-Statement Good-Block (λ y z is. subst (λ l. Good-Statement (roll-Statement l)) is (statement_layer z))
    (λ y z is. subst (λ l. Good-Block (roll-Block l)) is (block_layer z))

statements_same : (context : Context) (ts : List Statement)
    → map (λ s. does s context) ts ≡ map (λ (does : Does). does context) (trees_do (tree.in_turn (map stmt_of ts)))
statements_same context [] = refl
statements_same context (t ∷ ts) = ap₂ (λ f fs. f ∷ fs) (statement_same t context) (statements_same context ts)

pub run_same : (context : Context) (ts : List Statement) → run context ts ≡ trees_run context (stmts_from ts)
run_same context ts = ap (λ all. spend context.turns >> in_turn all) (statements_same context ts)
