-- Calls and statements of the first form, and what the type rules see of them.
use Rattle.std.proofs.Common.{◌≡◌, Bool, true, List, [], ◌∷◌, map, Option, Some, None, sym, subst, ◌∙◌}
use Rattle.std.specs.List.{list_all}
use Rattle.mpl_ast.specs.declared.expression.Expression.{Expression}
use Rattle.mpl_ast.specs.declared.flow.Call.{Call, fold_out-Call, map-Call, out-Call}
use Rattle.mpl_ast.specs.declared.flow.Flow.{Flow, fold_out-Flow, map-Flow, out-Flow}
use Rattle.mpl_ast.specs.declared.flow.Call.TheOpen.{Call-F, Flow-F}
use Rattle.mpl_ast.specs.declared.statement.Block.{Block, fold-Block}
use Rattle.mpl_ast.specs.declared.statement.Declarator.{Declarator}
use Rattle.mpl_ast.specs.declared.statement.Declarator.TheVariants.{Plain, Initialized}
use Rattle.mpl_ast.specs.declared.statement.Dimension.{Dimension}
use Rattle.mpl_ast.specs.declared.statement.Statement.{Statement, fold_out-Statement, map-Statement, out-Statement}
use Rattle.mpl_ast.specs.declared.statement.Statement.TheOpen.{Statement-F}
use Rattle.mpl_ast.specs.declared.statement.TypeName.{TypeName}
use Rattle.mpl_mean.specs.Plain.Stmt.{Stmt, Stmts, stmt_of, new_local, in_turn}
use Rattle.mpl_mean.specs.Plain.Stmt as stmt
use Rattle.mpl_mean.specs.FirstForms.FirstForm.{is_variable, is_int, is_named, is_call, is_first_call, is_first_declarator, is_first_expression, is_first_flow, is_first_local, is_first_statement, gives_result}
use Rattle.mpl_mean.specs.FirstForms.FirstForm as first
use Rattle.mpl_mean.specs.Plain.Expr.{Expr, Exprs, listed, expr_of, expr_of_call, expr_of_flow}
use Rattle.mpl_mean.specs.Plain.Expr as expr
use Rattle.mpl_mean.proofs.SevenRules.FirstExpressions.{IsFirst, expression_is_first}
use Rattle.mpl_mean.proofs.Truth.{both_true}

-- ---- flows and calls

flow_layer : (l : Flow-F Call Flow) → first.flow_step (map-Flow Call Flow Bool Bool is_first_call is_first_flow l) ≡ true
    → IsFirst (expr.flow_step (map-Flow Call Flow Expr Expr expr_of_call expr_of_flow l))
flow_layer (Flow-F.OfCall at call) h = absurd cc
flow_layer (Flow-F.OfExpression at e) h = expression_is_first e h

pub flow_is_first : (f : Flow) → is_first_flow f ≡ true → IsFirst (expr_of_flow f)
flow_is_first f h =
    subst IsFirst (sym (fold_out-Flow Expr Expr expr.call_step expr.flow_step f))
    (flow_layer (out-Flow f) (sym (fold_out-Flow Bool Bool first.call_step first.flow_step f) ∙ h))

abbrev pub AreFirst : Exprs → Type 0
AreFirst expr.NoExpr = Unit {0}
AreFirst (expr.MoreExprs p ps) = IsFirst p × AreFirst ps

abbrev pub IsFirstCall : Expr → Type 0
IsFirstCall (expr.CallOnTarget at target member arguments) = (is_variable target ≡ true) × AreFirst arguments
IsFirstCall other = ⊥

flows_are_first : (fs : List Flow) → list_all (λ b. b) (map is_first_flow fs) ≡ true → AreFirst (listed (map expr_of_flow fs))
flows_are_first [] h = tt
flows_are_first (f ∷ fs) h = let b = both_true (is_first_flow f) (list_all (λ b. b) (map is_first_flow fs)) h in (flow_is_first f b.0, flows_are_first fs b.1)

call_layer : (l : Call-F Call Flow) → first.call_step (map-Call Call Flow Bool Bool is_first_call is_first_flow l) ≡ true
    → IsFirstCall (expr.call_step (map-Call Call Flow Expr Expr expr_of_call expr_of_flow l))
call_layer (Call-F.OnOwn at member arguments) h = absurd cc
call_layer (Call-F.OnTarget at target member arguments) h =
    let b = both_true (is_variable target) (list_all (λ b. b) (map is_first_flow arguments)) h in (b.0, flows_are_first arguments b.1)

pub call_is_first : (c : Call) → is_first_call c ≡ true → IsFirstCall (expr_of_call c)
call_is_first c h =
    subst IsFirstCall (sym (fold_out-Call Expr Expr expr.call_step expr.flow_step c))
    (call_layer (out-Call c) (sym (fold_out-Call Bool Bool first.call_step first.flow_step c) ∙ h))

passed_layer : (l : Flow-F Call Flow) → is_call l ≡ true → IsFirstCall (expr.flow_step (map-Flow Call Flow Expr Expr expr_of_call expr_of_flow l))
passed_layer (Flow-F.OfCall at call) h = call_is_first call h
passed_layer (Flow-F.OfExpression at e) h = absurd cc

pub passed_is_first : (f : Flow) → is_call (out-Flow f) ≡ true → IsFirstCall (expr_of_flow f)
passed_is_first f h = subst IsFirstCall (sym (fold_out-Flow Expr Expr expr.call_step expr.flow_step f)) (passed_layer (out-Flow f) h)

-- ---- statements

abbrev pub AllFirst : List Expr → Type 0
AllFirst [] = Unit {0}
AllFirst (p ∷ ps) = IsFirst p × AllFirst ps

-- `NAME NAME`, or `int NAME = NAME.NAME(..)`
abbrev pub IsFirstLocal : TypeName → Option Dimension → Option Expr → Type 0
IsFirstLocal type None None = is_named type ≡ true
IsFirstLocal type None (Some call) = (is_int type ≡ true) × IsFirstCall call
IsFirstLocal type (Some dimension) initialiser = ⊥

abbrev pub IsFirstStmt : Stmt → Type 0
IsFirstStmt (stmt.Locals type (new ∷ [])) = IsFirstLocal type new.dimension new.initialiser
IsFirstStmt (stmt.Prints at arguments) = AllFirst arguments
IsFirstStmt other = ⊥

-- the one statement of a member
abbrev pub IsResult : Stmt → Type 0
IsResult (stmt.Gives at value) = IsFirst value
IsResult other = ⊥

local_is_first : (type : TypeName) (ds : List Declarator) → is_first_local type ds ≡ true → IsFirstStmt (stmt.Locals type (map new_local ds))
local_is_first type [] h = absurd cc
local_is_first type (Plain at variable None ∷ []) h = h
local_is_first type (Plain at variable (Some dimension) ∷ []) h = absurd cc
local_is_first type (Initialized at variable value ∷ []) h =
    let b = both_true (is_int type) (is_call (out-Flow value)) h in (b.0, passed_is_first value b.1)
local_is_first type (one ∷ two ∷ others) h = absurd cc

all_are_first : (es : List Expression) → list_all is_first_expression es ≡ true → AllFirst (map expr_of es)
all_are_first [] h = tt
all_are_first (e ∷ es) h = let b = both_true (is_first_expression e) (list_all is_first_expression es) h in (expression_is_first e b.0, all_are_first es b.1)

abbrev block_is_first : Block → Bool
block_is_first = fold-Block Bool Bool first.statement_step first.block_step

abbrev block_gives : Block → Bool
block_gives = fold-Block Bool Bool first.result_step first.block_step

abbrev block_stmts : Block → Stmts
block_stmts = fold-Block Stmt Stmts stmt.statement_step stmt.block_step

statement_layer : (l : Statement-F Statement Block) → first.statement_step (map-Statement Statement Block Bool Bool is_first_statement block_is_first l) ≡ true
    → IsFirstStmt (stmt.statement_step (map-Statement Statement Block Stmt Stmts stmt_of block_stmts l))
statement_layer (Statement-F.OfBlock at block) h = absurd cc
statement_layer (Statement-F.Declare at local) h = local_is_first local.type_name local.declarators h
statement_layer (Statement-F.Assign at assignment) h = absurd cc
statement_layer (Statement-F.CallAlone at call) h = absurd cc
statement_layer (Statement-F.Create at target) h = absurd cc
statement_layer (Statement-F.If at test then_part else_part) h = absurd cc
statement_layer (Statement-F.While at test body) h = absurd cc
statement_layer (Statement-F.For at head body) h = absurd cc
statement_layer (Statement-F.Print at arguments) h = all_are_first arguments h
statement_layer (Statement-F.Rtf at value) h = absurd cc
statement_layer (Statement-F.Return at value) h = absurd cc
statement_layer (Statement-F.Empty at) h = absurd cc

pub statement_is_first : (s : Statement) → is_first_statement s ≡ true → IsFirstStmt (stmt_of s)
statement_is_first s h =
    subst IsFirstStmt (sym (fold_out-Statement Stmt Stmts stmt.statement_step stmt.block_step s))
    (statement_layer (out-Statement s) (sym (fold_out-Statement Bool Bool first.statement_step first.block_step s) ∙ h))

result_layer : (l : Statement-F Statement Block) → first.result_step (map-Statement Statement Block Bool Bool gives_result block_gives l) ≡ true
    → IsResult (stmt.statement_step (map-Statement Statement Block Stmt Stmts stmt_of block_stmts l))
result_layer (Statement-F.OfBlock at block) h = absurd cc
result_layer (Statement-F.Declare at local) h = absurd cc
result_layer (Statement-F.Assign at assignment) h = absurd cc
result_layer (Statement-F.CallAlone at call) h = absurd cc
result_layer (Statement-F.Create at target) h = absurd cc
result_layer (Statement-F.If at test then_part else_part) h = absurd cc
result_layer (Statement-F.While at test body) h = absurd cc
result_layer (Statement-F.For at head body) h = absurd cc
result_layer (Statement-F.Print at arguments) h = absurd cc
result_layer (Statement-F.Rtf at value) h = flow_is_first value h
result_layer (Statement-F.Return at value) h = absurd cc
result_layer (Statement-F.Empty at) h = absurd cc

pub statement_is_result : (s : Statement) → gives_result s ≡ true → IsResult (stmt_of s)
statement_is_result s h =
    subst IsResult (sym (fold_out-Statement Stmt Stmts stmt.statement_step stmt.block_step s))
    (result_layer (out-Statement s) (sym (fold_out-Statement Bool Bool first.result_step first.block_step s) ∙ h))
