-- A statement has at least as many tokens as forms.
use Rattle.std.proofs.Common.{◌≡◌, ◌≤◌, ℕ, ◌+◌, Bool, true, false, List, [], ◌∷◌, map, Option, Some, None, if◌then◌else◌, refl, ap, subst, sym, arith}
use Rattle.std.specs.Option.{option_map}
use Rattle.mpl_ast.specs.declared.expression.Expression.{Expression}
use Rattle.mpl_ast.specs.declared.flow.Assignment.{Assignment}
use Rattle.mpl_ast.specs.declared.statement.Block.{Block, Block-F, fold-Block, fold-roll-Block, map-Block, roll-Block}
use Rattle.mpl_ast.specs.declared.statement.Declarator.{Declarator}
use Rattle.mpl_ast.specs.declared.statement.Declarator.TheVariants.{Plain, Initialized}
use Rattle.mpl_ast.specs.declared.statement.Dimension.{Dimension}
use Rattle.mpl_ast.specs.declared.statement.ForHead.{ForHead}
use Rattle.mpl_ast.specs.declared.statement.ForStart.{ForStart}
use Rattle.mpl_ast.specs.declared.statement.ForStart.TheVariants.{Declare, Assign}
use Rattle.mpl_ast.specs.declared.statement.Local.{Local}
use Rattle.mpl_ast.specs.declared.statement.Statement.{Statement, fold-roll-Statement, ind-Statement, map-Statement, roll-Statement}
use Rattle.mpl_ast.specs.declared.statement.Statement.TheOpen.{Statement-F}
use Rattle.mpl_ast.specs.declared.statement.TypeName.{TypeName}
use Rattle.mpl_ast.specs.declared.statement.TypeName.TheVariants as type
use Rattle.mpl_mean.specs.Plain.Expr.{expr_of, expr_of_flow}
use Rattle.mpl_mean.specs.Plain.Stmt.{NewLocal, Stmt, Stmts, assigns, if_any, in_turn, locals, new_local, starts, stmt_of, stmts_of}
use Rattle.mpl_mean.specs.Plain.Stmt as stmt
use Rattle.mpl_mean.specs.Text.ExpressionText.{expression_text}
use Rattle.mpl_mean.specs.Text.Reading.{Reads, each, optional, separated}
use Rattle.mpl_mean.specs.Text.StatementText.{StatementText, assignment_text, before_else, block_of, block_step, block_text, declarator_text, dimension_text, flow_text, for_head_text, for_start_text, local_text, statement_of, statement_step, statement_text, texts, type_text}
use Rattle.mpl_gen_bounds.proofs.ExpressionTokens.{call_used, expression_used, flow_used, place_used, target_used}
use Rattle.mpl_gen_bounds.proofs.FormCounts.{count_all, count_if_any, forms, forms_of_local, stmt_forms, stmts_forms}
use Rattle.mpl_gen_bounds.proofs.Readings.{AllUse, Uses, fewer, total, uses_all, uses_both, uses_each, uses_next, uses_node, uses_nothing, uses_optional, uses_row, uses_second, uses_token}

-- ---- the parts of statements

pub type_used : (t : TypeName) → Uses 1 (type_text t)
type_used (type.Int at) = uses_node at (uses_token _)
type_used (type.Bool at) = uses_node at (uses_token _)
type_used (type.Named at name) = uses_node at (uses_token _)

pub dimension_used : (d : Dimension) → Uses 3 (dimension_text d)
dimension_used d = uses_node d.at (uses_next _ (uses_next _ (uses_token _)))

pub dimension_if_any : (o : Option Dimension) → Uses 0 (optional (option_map dimension_text o))
dimension_if_any o = fewer (omega arith) (uses_optional dimension_text (λ d. 3) dimension_used o)

assignment_used : (a : Assignment) → Uses (stmt_forms (assigns a)) (assignment_text a)
assignment_used a = uses_node a.at (fewer (omega arith) (uses_both (place_used a.place) (uses_next _ (flow_used a.value))))

declarator_used : (d : Declarator) → Uses (forms_of_local (new_local d)) (declarator_text d)
declarator_used (Plain at variable dimension) = uses_node at (fewer (omega arith) (uses_next _ (dimension_if_any dimension)))
declarator_used (Initialized at variable value) = uses_node at (fewer (omega arith) (uses_next _ (uses_next _ (flow_used value))))

mapped_count : {A B : Type 0} (count : B → ℕ) (f : A → B) (xs : List A) → count_all (λ x. count (f x)) xs ≡ count_all count (map f xs)
mapped_count count f [] = refl
mapped_count count f (x ∷ xs) = ap (λ n. count (f x) + n) (mapped_count count f xs)

local_used : (l : Local) → Uses (stmt_forms (locals l)) (local_text l)
local_used l =
    uses_node l.at (uses_second (type_used l.type_name)
    (subst (λ n. Uses n (separated (map declarator_text l.declarators))) (mapped_count forms_of_local new_local l.declarators)
    (uses_row declarator_text (λ d. forms_of_local (new_local d)) declarator_used l.declarators)))

start_used : (x : ForStart) → Uses (stmt_forms (starts x)) (for_start_text x)
start_used (Declare local) = local_used local
start_used (Assign assignment) = assignment_used assignment

start_forms : (o : Option ForStart) → count_if_any (λ x. stmt_forms (starts x)) o ≡ stmt_forms (if_any (option_map starts o))
start_forms None = refl
start_forms (Some x) = refl

step_forms : (o : Option Assignment) → count_if_any (λ x. stmt_forms (assigns x)) o ≡ stmt_forms (if_any (option_map assigns o))
step_forms None = refl
step_forms (Some x) = refl

head_used : (head : ForHead) → Uses (stmt_forms (if_any (option_map starts head.start)) + (forms (expr_of head.test) + stmt_forms (if_any (option_map assigns head.step)))) (for_head_text head)
head_used head =
    fewer (omega (arith, start_forms head.start, step_forms head.step))
    (uses_both (uses_optional for_start_text (λ x. stmt_forms (starts x)) start_used head.start)
    (uses_next _ (uses_both (expression_used head.test) (uses_next _ (uses_optional assignment_text (λ x. stmt_forms (assigns x)) assignment_used head.step)))))

values_used : (xs : List Expression) → Uses (count_all forms (map expr_of xs)) (separated (map expression_text xs))
values_used xs =
    subst (λ n. Uses n (separated (map expression_text xs))) (mapped_count forms expr_of xs) (uses_row expression_text (λ x. forms (expr_of x)) expression_used xs)

value_forms : (o : Option Expression) → count_if_any (λ x. forms (expr_of x)) o ≡ count_if_any forms (option_map expr_of o)
value_forms None = refl
value_forms (Some x) = refl

-- ---- statements

abbrev block_reads : Block → Reads
block_reads = fold-Block StatementText Reads statement_step block_step

abbrev block_stmts : Block → Stmts
block_stmts = fold-Block Stmt Stmts stmt.statement_step stmt.block_step

abbrev Good : StatementText → Stmt → Type 0
Good s a = Uses (stmt_forms a) s.text

abbrev GoodBlock : Reads → Stmts → Type 0
GoodBlock s a = Uses (stmts_forms a) s

abbrev Good-Statement : Statement → Type 0
Good-Statement t = Good (statement_of t) (stmt_of t)

abbrev Good-Block : Block → Type 0
Good-Block t = GoodBlock (block_reads t) (block_stmts t)

abbrev With-Statement : Type 0
With-Statement = (t : Statement) × Good-Statement t

abbrev With-Block : Type 0
With-Block = (t : Block) × Good-Block t

rolled-Statement : (layer : Statement-F Statement Block)
    → Good (statement_step (map-Statement Statement Block StatementText Reads statement_of block_reads layer)) (stmt.statement_step (map-Statement Statement Block Stmt Stmts stmt_of block_stmts layer)) → Good-Statement (roll-Statement layer)
rolled-Statement layer h =
    subst (λ s. Good s (stmt_of (roll-Statement layer))) (sym (fold-roll-Statement StatementText Reads statement_step block_step layer))
    (subst (Good (statement_step (map-Statement Statement Block StatementText Reads statement_of block_reads layer))) (sym (fold-roll-Statement Stmt Stmts stmt.statement_step stmt.block_step layer)) h)

rolled-Block : (layer : Block-F Statement Block)
    → GoodBlock (block_step (map-Block Statement Block StatementText Reads statement_of block_reads layer)) (stmt.block_step (map-Block Statement Block Stmt Stmts stmt_of block_stmts layer)) → Good-Block (roll-Block layer)
rolled-Block layer h =
    subst (λ s. GoodBlock s (block_stmts (roll-Block layer))) (sym (fold-roll-Block StatementText Reads statement_step block_step layer))
    (subst (GoodBlock (block_step (map-Block Statement Block StatementText Reads statement_of block_reads layer))) (sym (fold-roll-Block Stmt Stmts stmt.statement_step stmt.block_step layer)) h)

before_used : {n : ℕ} (s : StatementText) → Uses n s.text → Uses n (before_else s)
before_used {n} s h = by_else s.takes_else where
  by_else : (b : Bool) → Uses n (if b then Rattle.mpl_mean.specs.Text.StatementText.refused else s.text)
  by_else true = record { uses = λ r x is. absurd cc }
  by_else false = h

abbrev counts_of : List With-Statement → List ℕ
counts_of [] = []
counts_of (t ∷ ts) = stmt_forms (stmt_of t.0) ∷ counts_of ts

each_used : (ts : List With-Statement) → Uses (stmts_forms (in_turn (map stmt_of (map (λ t. t.0) ts)))) (each (texts (map statement_of (map (λ t. t.0) ts))))
each_used ts = subst (λ n. Uses n (each (texts (map statement_of (map (λ t. t.0) ts))))) (same ts) (uses_each (counts_of ts) (texts (map statement_of (map (λ t. t.0) ts))) (all ts)) where
  all : (ts : List With-Statement) → AllUse (counts_of ts) (texts (map statement_of (map (λ t. t.0) ts)))
  all [] = tt
  all (t ∷ ts) = (t.1, all ts)

  same : (ts : List With-Statement) → total (counts_of ts) ≡ stmts_forms (in_turn (map stmt_of (map (λ t. t.0) ts)))
  same [] = refl
  same (t ∷ ts) = ap (λ n. stmt_forms (stmt_of t.0) + n) (same ts)

statement_layer : (y : Statement-F With-Statement With-Block) → Good-Statement (roll-Statement (map-Statement With-Statement With-Block Statement Block (λ t. t.0) (λ t. t.0) y))
statement_layer (Statement-F.OfBlock at t) = rolled-Statement (Statement-F.OfBlock at t.0) (uses_node at t.1)
statement_layer (Statement-F.Declare at local) = rolled-Statement (Statement-F.Declare at local) (uses_node at (fewer (omega arith) (uses_both (local_used local) (uses_token _))))
statement_layer (Statement-F.Assign at assignment) =
    rolled-Statement (Statement-F.Assign at assignment) (uses_node at (fewer (omega arith) (uses_both (assignment_used assignment) (uses_token _))))
statement_layer (Statement-F.CallAlone at c) = rolled-Statement (Statement-F.CallAlone at c) (uses_node at (fewer (omega arith) (uses_both (call_used c) (uses_token _))))
statement_layer (Statement-F.Create at target) =
    rolled-Statement (Statement-F.Create at target)
    (uses_node at (fewer (omega arith) (uses_both (target_used target) (uses_next _ (uses_next _ (uses_next _ (uses_next _ (uses_token _))))))))
statement_layer (Statement-F.If at test t None) =
    rolled-Statement (Statement-F.If at test t.0 None) (uses_node at (fewer (omega arith) (uses_next _ (uses_next _ (uses_both (expression_used test) (uses_next _ t.1))))))
statement_layer (Statement-F.If at test t (Some u)) =
    rolled-Statement (Statement-F.If at test t.0 (Some u.0))
    (uses_node at (fewer (omega arith) (uses_next _ (uses_next _ (uses_both (expression_used test) (uses_next _ (uses_both (before_used (statement_of t.0) t.1) (uses_next _ u.1))))))))
statement_layer (Statement-F.While at test t) =
    rolled-Statement (Statement-F.While at test t.0) (uses_node at (fewer (omega arith) (uses_next _ (uses_next _ (uses_both (expression_used test) (uses_next _ t.1))))))
statement_layer (Statement-F.For at head t) =
    rolled-Statement (Statement-F.For at head t.0) (uses_node at (fewer (omega arith) (uses_next _ (uses_next _ (uses_both (head_used head) (uses_next _ t.1))))))
statement_layer (Statement-F.Print at xs) =
    rolled-Statement (Statement-F.Print at xs) (uses_node at (fewer (omega arith) (uses_next _ (uses_next _ (uses_both (values_used xs) (uses_next _ (uses_token _)))))))
statement_layer (Statement-F.Rtf at value) =
    rolled-Statement (Statement-F.Rtf at value) (uses_node at (fewer (omega arith) (uses_next _ (uses_next _ (uses_both (flow_used value) (uses_next _ (uses_token _)))))))
statement_layer (Statement-F.Return at value) =
    rolled-Statement (Statement-F.Return at value)
    (uses_node at (fewer (omega (arith, value_forms value)) (uses_next _ (uses_both (uses_optional expression_text (λ x. forms (expr_of x)) expression_used value) (uses_token _)))))
statement_layer (Statement-F.Empty at) = rolled-Statement (Statement-F.Empty at) (fewer (omega arith) (uses_node at (uses_token _)))

block_layer : (y : Block-F With-Statement With-Block) → Good-Block (roll-Block (map-Block With-Statement With-Block Statement Block (λ t. t.0) (λ t. t.0) y))
block_layer y =
    rolled-Block (map-Block With-Statement With-Block Statement Block (λ t. t.0) (λ t. t.0) y)
    (uses_node y.at (fewer (omega arith) (uses_next _ (uses_both (each_used y.statements) (uses_token _)))))

pub statement_used : (t : Statement) → Uses (stmt_forms (stmt_of t)) (statement_text t)
statement_used =
    ind-Statement Good-Statement Good-Block (λ y z is. subst (λ l. Good-Statement (roll-Statement l)) is (statement_layer z))
    (λ y z is. subst (λ l. Good-Block (roll-Block l)) is (block_layer z))

statements_forms : (ts : List Statement) → count_all (λ t. stmt_forms (stmt_of t)) ts ≡ stmts_forms (in_turn (map stmt_of ts))
statements_forms [] = refl
statements_forms (t ∷ ts) = ap (λ n. stmt_forms (stmt_of t) + n) (statements_forms ts)

-- a body has a token more, its last `}`
pub block_used : (b : Block) → Uses (1 + stmts_forms (stmts_of b)) (block_text b)
block_used b =
    uses_node b.at (fewer (omega (arith, statements_forms b.statements)) (uses_next _ (uses_both (uses_all statement_text (λ t. stmt_forms (stmt_of t)) statement_used b.statements) (uses_token _))))
