-- What each flow, call and statement does, beside what the type rules see of it.
use Rattle.std.proofs.Common.{◌≡◌, List, [], ◌∷◌, map, Some, None, sym, subst}
use Rattle.mpl_ast.specs.declared.flow.Call.{Call, fold-roll-Call, map-Call, roll-Call, ind-Call}
use Rattle.mpl_ast.specs.declared.flow.Flow.{Flow, fold-roll-Flow, map-Flow, roll-Flow, ind-Flow}
use Rattle.mpl_ast.specs.declared.flow.Call.TheOpen.{Call-F, Flow-F}
use Rattle.mpl_ast.specs.declared.statement.Block.{Block, Block-F, fold-Block, fold-roll-Block, map-Block, roll-Block}
use Rattle.mpl_ast.specs.declared.statement.Statement.{Statement, fold-roll-Statement, map-Statement, roll-Statement, ind-Statement}
use Rattle.mpl_ast.specs.declared.statement.Statement.TheOpen.{Statement-F}
use Rattle.mpl_mean.specs.Plain.Stmt.{Stmt, Stmts, stmt_of, in_turn}
use Rattle.mpl_mean.specs.Plain.Stmt as stmt
use Rattle.mpl_mean.specs.Meaning.CallMeaning.{Passes, passes, call_value, call_step, flow_step}
use Rattle.mpl_mean.specs.Plain.Expr.{Expr, Exprs, listed, expr_of_call, expr_of_flow}
use Rattle.mpl_mean.specs.Plain.Expr as expr
use Rattle.mpl_mean.specs.Meaning.StatementMeaning.{Does, does, statement_step, block_step}
use Rattle.mpl_mean.proofs.Sizes.SizedForms.{PassesOn, PassesEach, on_own, on_target, expression, Acts, ActsEach, within, declare, assign, call, create, branch, branches, repeats, loops, print, rtf, return, empty}
use Rattle.mpl_mean.proofs.Sizes.SizedForms as each

-- ---- flows and calls

both : {f g : Passes} {p q : Expr} → f ≡ g → p ≡ q → PassesOn f p → PassesOn g q
both {f} {g} {p} {q} i j h = subst (λ g. PassesOn g q) i (subst (λ q. PassesOn f q) j h)

abbrev Good-Call : Call → Type 0
Good-Call t = PassesOn (call_value t) (expr_of_call t)

abbrev Good-Flow : Flow → Type 0
Good-Flow t = PassesOn (passes t) (expr_of_flow t)

abbrev With-Call : Type 0
With-Call = (t : Call) × Good-Call t

abbrev With-Flow : Type 0
With-Flow = (t : Flow) × Good-Flow t

each_passes : (ts : List With-Flow) → PassesEach (map passes (map (λ t. t.0) ts)) (listed (map expr_of_flow (map (λ t. t.0) ts)))
each_passes [] = each.PassesEach.none
each_passes (t ∷ ts) = each.PassesEach.more t.1 (each_passes ts)

rolled-Call : (layer : Call-F Call Flow) → PassesOn (call_step (map-Call Call Flow Passes Passes call_value passes layer)) (expr.call_step (map-Call Call Flow Expr Expr expr_of_call expr_of_flow layer))
    → Good-Call (roll-Call layer)
rolled-Call layer = both (sym (fold-roll-Call Passes Passes call_step flow_step layer)) (sym (fold-roll-Call Expr Expr expr.call_step expr.flow_step layer))

rolled-Flow : (layer : Flow-F Call Flow) → PassesOn (flow_step (map-Flow Call Flow Passes Passes call_value passes layer)) (expr.flow_step (map-Flow Call Flow Expr Expr expr_of_call expr_of_flow layer))
    → Good-Flow (roll-Flow layer)
rolled-Flow layer = both (sym (fold-roll-Flow Passes Passes call_step flow_step layer)) (sym (fold-roll-Flow Expr Expr expr.call_step expr.flow_step layer))

call_layer : (y : Call-F With-Call With-Flow) → Good-Call (roll-Call (map-Call With-Call With-Flow Call Flow (λ t. t.0) (λ t. t.0) y))
call_layer (Call-F.OnOwn at name ts) = rolled-Call (Call-F.OnOwn at name (map (λ t. t.0) ts)) (on_own at name (each_passes ts))
call_layer (Call-F.OnTarget at t name ts) = rolled-Call (Call-F.OnTarget at t name (map (λ t. t.0) ts)) (on_target at t name (each_passes ts))

flow_layer : (y : Flow-F With-Call With-Flow) → Good-Flow (roll-Flow (map-Flow With-Call With-Flow Call Flow (λ t. t.0) (λ t. t.0) y))
flow_layer (Flow-F.OfCall at t) = rolled-Flow (Flow-F.OfCall at t.0) (t.1)
flow_layer (Flow-F.OfExpression at e) = rolled-Flow (Flow-F.OfExpression at e) (expression e)

pub flow_passes : (t : Flow) → PassesOn (passes t) (expr_of_flow t)
flow_passes =
    ind-Flow Good-Call Good-Flow (λ y z is. subst (λ l. Good-Call (roll-Call l)) is (call_layer z)) (λ y z is. subst (λ l. Good-Flow (roll-Flow l)) is (flow_layer z))

pub call_passes : (t : Call) → PassesOn (call_value t) (expr_of_call t)
call_passes =
    ind-Call Good-Call Good-Flow (λ y z is. subst (λ l. Good-Call (roll-Call l)) is (call_layer z)) (λ y z is. subst (λ l. Good-Flow (roll-Flow l)) is (flow_layer z))

-- ---- statements

abbrev block_does : Block → Does
block_does = fold-Block Does Does statement_step block_step

abbrev block_stmts : Block → Stmts
block_stmts = fold-Block Stmt Stmts stmt.statement_step stmt.block_step

abbrev Good-Statement : Statement → Type 0
Good-Statement t = Acts (does t) (stmt_of t)

-- a block, whose locals go with it
abbrev Good-Block : Block → Type 0
Good-Block t = Acts (block_does t) (stmt.Within (block_stmts t))

abbrev With-Statement : Type 0
With-Statement = (t : Statement) × Good-Statement t

abbrev With-Block : Type 0
With-Block = (t : Block) × Good-Block t

same : {f g : Does} {a b : Stmt} → f ≡ g → a ≡ b → Acts f a → Acts g b
same {f} {g} {a} {b} i j h = subst (λ g. Acts g b) i (subst (λ b. Acts f b) j h)

within_same : {f g : Does} {a b : Stmts} → f ≡ g → a ≡ b → Acts f (stmt.Within a) → Acts g (stmt.Within b)
within_same {f} {g} {a} {b} i j h = subst (λ g. Acts g (stmt.Within b)) i (subst (λ b. Acts f (stmt.Within b)) j h)

rolled-Statement : (layer : Statement-F Statement Block) → Acts (statement_step (map-Statement Statement Block Does Does does block_does layer)) (stmt.statement_step (map-Statement Statement Block Stmt Stmts stmt_of block_stmts layer))
    → Good-Statement (roll-Statement layer)
rolled-Statement layer = same (sym (fold-roll-Statement Does Does statement_step block_step layer)) (sym (fold-roll-Statement Stmt Stmts stmt.statement_step stmt.block_step layer))

rolled-Block : (layer : Block-F Statement Block) → Acts (block_step (map-Block Statement Block Does Does does block_does layer)) (stmt.Within (stmt.block_step (map-Block Statement Block Stmt Stmts stmt_of block_stmts layer)))
    → Good-Block (roll-Block layer)
rolled-Block layer = within_same (sym (fold-roll-Block Does Does statement_step block_step layer)) (sym (fold-roll-Block Stmt Stmts stmt.statement_step stmt.block_step layer))

each_acts : (ts : List With-Statement) → ActsEach (map does (map (λ t. t.0) ts)) (in_turn (map stmt_of (map (λ t. t.0) ts)))
each_acts [] = each.ActsEach.none
each_acts (t ∷ ts) = each.ActsEach.more t.1 (each_acts ts)

statement_layer : (y : Statement-F With-Statement With-Block) → Good-Statement (roll-Statement (map-Statement With-Statement With-Block Statement Block (λ t. t.0) (λ t. t.0) y))
statement_layer (Statement-F.OfBlock at t) = rolled-Statement (Statement-F.OfBlock at t.0) (t.1)
statement_layer (Statement-F.Declare at local) = rolled-Statement (Statement-F.Declare at local) (declare local)
statement_layer (Statement-F.Assign at assignment) = rolled-Statement (Statement-F.Assign at assignment) (assign assignment)
statement_layer (Statement-F.CallAlone at c) = rolled-Statement (Statement-F.CallAlone at c) (call c)
statement_layer (Statement-F.Create at target) = rolled-Statement (Statement-F.Create at target) (create at target)
statement_layer (Statement-F.If at test t None) = rolled-Statement (Statement-F.If at test t.0 None) (branch test t.1)
statement_layer (Statement-F.If at test t (Some u)) = rolled-Statement (Statement-F.If at test t.0 (Some u.0)) (branches test t.1 u.1)
statement_layer (Statement-F.While at test t) = rolled-Statement (Statement-F.While at test t.0) (repeats test t.1)
statement_layer (Statement-F.For at head t) = rolled-Statement (Statement-F.For at head t.0) (loops head.start head.test head.step t.1)
statement_layer (Statement-F.Print at es) = rolled-Statement (Statement-F.Print at es) (print at es)
statement_layer (Statement-F.Rtf at value) = rolled-Statement (Statement-F.Rtf at value) (rtf at value)
statement_layer (Statement-F.Return at value) = rolled-Statement (Statement-F.Return at value) (return at value)
statement_layer (Statement-F.Empty at) = rolled-Statement (Statement-F.Empty at) empty

block_layer : (y : Block-F With-Statement With-Block) → Good-Block (roll-Block (map-Block With-Statement With-Block Statement Block (λ t. t.0) (λ t. t.0) y))
block_layer y = rolled-Block (map-Block With-Statement With-Block Statement Block (λ t. t.0) (λ t. t.0) y) (within (each_acts y.statements))

pub statement_acts : (t : Statement) → Acts (does t) (stmt_of t)
statement_acts =
    ind-Statement Good-Statement Good-Block (λ y z is. subst (λ l. Good-Statement (roll-Statement l)) is (statement_layer z))
    (λ y z is. subst (λ l. Good-Block (roll-Block l)) is (block_layer z))

pub statements_act : (ts : List Statement) → ActsEach (map does ts) (in_turn (map stmt_of ts))
statements_act [] = each.ActsEach.none
statements_act (t ∷ ts) = each.ActsEach.more (statement_acts t) (statements_act ts)
