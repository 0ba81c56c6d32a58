-- How many forms expressions and statements have: the lengths of codes and of texts are measured by them.
use Rattle.std.proofs.Common.{ℕ, ◌+◌, ◌≤◌, List, [], ◌∷◌, Option, Some, None, arith}
use Rattle.mpl_mean.specs.Plain.Expr.{Expr, Exprs}
use Rattle.mpl_mean.specs.Plain.Expr as e
use Rattle.mpl_mean.specs.Plain.Stmt.{NewLocal, Stmt, Stmts}
use Rattle.mpl_mean.specs.Plain.Stmt as s

abbrev mutual
  pub forms : Expr → ℕ
  forms (e.Number at value) = 1
  forms (e.Truth at value) = 1
  forms (e.Own at) = 1
  forms (e.Input at) = 1
  forms (e.Whole at target) = 1
  forms (e.Element at line target index) = 1 + forms index
  forms (e.PlainCall at function arguments) = 1 + forms_each arguments
  forms (e.Parenthesized at inner) = 1 + forms inner
  forms (e.Unary at line operator operand) = 1 + forms operand
  forms (e.Binary at line operator left right) = 1 + forms left + forms right
  forms (e.CallOnOwn at member arguments) = 1 + forms_each arguments
  forms (e.CallOnTarget at target member arguments) = 1 + forms_each arguments

  pub forms_each : Exprs → ℕ
  forms_each e.NoExpr = 0
  forms_each (e.MoreExprs expr exprs) = forms expr + forms_each exprs

abbrev pub count_if_any : {A : Type 0} → (A → ℕ) → Option A → ℕ
count_if_any count None = 0
count_if_any count (Some x) = count x

abbrev pub count_all : {A : Type 0} → (A → ℕ) → List A → ℕ
count_all count [] = 0
count_all count (x ∷ xs) = count x + count_all count xs

-- one for the name, and those of what it is initialised with
abbrev pub forms_of_local : NewLocal → ℕ
forms_of_local local = 1 + count_if_any forms local.initialiser

abbrev mutual
  pub stmt_forms : Stmt → ℕ
  stmt_forms s.Nothing = 0
  stmt_forms (s.Within stmts) = stmts_forms stmts
  stmt_forms (s.Locals type locals) = count_all forms_of_local locals
  stmt_forms (s.Assigns at place value) = 1 + forms place + forms value
  stmt_forms (s.Calls call) = 1 + forms call
  stmt_forms (s.Creates at target) = 1
  stmt_forms (s.When test then_part) = 1 + forms test + stmt_forms then_part
  stmt_forms (s.Branches test then_part else_part) = 1 + forms test + stmt_forms then_part + stmt_forms else_part
  stmt_forms (s.Repeats test body) = 1 + forms test + stmt_forms body
  stmt_forms (s.Loops first test step body) = 1 + stmt_forms first + forms test + stmt_forms step + stmt_forms body
  stmt_forms (s.Prints at arguments) = 1 + count_all forms arguments
  stmt_forms (s.Gives at value) = 1 + forms value
  stmt_forms (s.Returns at value) = 1 + count_if_any forms value

  pub stmts_forms : Stmts → ℕ
  stmts_forms s.NoStmt = 0
  stmts_forms (s.MoreStmts stmt stmts) = stmt_forms stmt + stmts_forms stmts

pub some_forms : (expr : Expr) → 1 ≤ forms expr
some_forms (e.Number at value) = omega arith
some_forms (e.Truth at value) = omega arith
some_forms (e.Own at) = omega arith
some_forms (e.Input at) = omega arith
some_forms (e.Whole at target) = omega arith
some_forms (e.Element at line target index) = omega arith
some_forms (e.PlainCall at function arguments) = omega arith
some_forms (e.Parenthesized at inner) = omega arith
some_forms (e.Unary at line operator operand) = omega arith
some_forms (e.Binary at line operator left right) = omega arith
some_forms (e.CallOnOwn at member arguments) = omega arith
some_forms (e.CallOnTarget at target member arguments) = omega arith
