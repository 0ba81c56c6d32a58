-- What is asked of calls that are made in place: as many arguments as formals. The step of a loop declares nothing.
use Rattle.std.specs.Prelude.{◌≡◌, ℕ, suc, List, [], ◌∷◌, true, length, Option, Some, None}
use Rattle.mpl_ast.specs.declared.statement.TypeName.{TypeName}
use Rattle.mpl_mean.specs.Meaning.Layout.{Class, Function, Member, function_named, member_named}
use Rattle.mpl_mean.specs.Plain.Expr.{Expr, Exprs}
use Rattle.mpl_mean.specs.Plain.Expr as e
use Rattle.mpl_mean.specs.Plain.Stmt.{NewLocal, Stmt, Stmts}
use Rattle.mpl_mean.specs.Plain.Stmt as t
use Rattle.mpl_mean.specs.Plain.Scopes.{Env, behind, class_found, declares, found_at}

abbrev pub count_of : Exprs → ℕ
count_of e.NoExpr = 0
count_of (e.MoreExprs expr exprs) = suc (count_of exprs)

abbrev pub FunctionTakes : Option Function → ℕ → Type 0
FunctionTakes None count = Unit {0}
FunctionTakes (Some function) count = length function.formals ≡ count

abbrev pub MemberTakes : Option Member → ℕ → Type 0
MemberTakes None count = Unit {0}
MemberTakes (Some member) count = length member.formals ≡ count

-- of a persistent class nothing is asked: its members aren't called in place
abbrev pub ClassTakes : Option Class → List ℕ → ℕ → Type 0
ClassTakes None member count = Unit {0}
ClassTakes (Some class) member count = class.is_regular ≡ true → MemberTakes (member_named member class.members) count

abbrev mutual
  pub ExprFits : Env → Expr → Type 0
  ExprFits env (e.Number at value) = Unit {0}
  ExprFits env (e.Truth at value) = Unit {0}
  ExprFits env (e.Own at) = Unit {0}
  ExprFits env (e.Input at) = Unit {0}
  ExprFits env (e.Whole at target) = Unit {0}
  ExprFits env (e.Element at line target index) = ExprFits env index
  ExprFits env (e.PlainCall at function arguments) = FunctionTakes (function_named function.text env.declarations) (count_of arguments) × ExprsFit env arguments
  ExprFits env (e.Parenthesized at inner) = ExprFits env inner
  ExprFits env (e.Unary at line operator operand) = ExprFits env operand
  ExprFits env (e.Binary at line operator left right) = ExprFits env left × ExprFits env right
  ExprFits env (e.CallOnOwn at member arguments) = ExprsFit env arguments
  ExprFits env (e.CallOnTarget at target member arguments) =
      ClassTakes (class_found env (found_at env target)) member.text (count_of arguments) × ExprsFit env arguments

  pub ExprsFit : Env → Exprs → Type 0
  ExprsFit env e.NoExpr = Unit {0}
  ExprsFit env (e.MoreExprs expr exprs) = ExprFits env expr × ExprsFit env exprs

abbrev pub AnyFits : Env → Option Expr → Type 0
AnyFits env None = Unit {0}
AnyFits env (Some expr) = ExprFits env expr

abbrev pub LocalsFit : Env → TypeName → List NewLocal → Type 0
LocalsFit env type [] = Unit {0}
LocalsFit env type (new ∷ news) = AnyFits env new.initialiser × LocalsFit (declares type new env) type news

abbrev pub IndexFits : Env → Expr → Type 0
IndexFits env (e.Element at line target index) = ExprFits env index
IndexFits env other = Unit {0}

abbrev pub EachFits : Env → List Expr → Type 0
EachFits env [] = Unit {0}
EachFits env (expr ∷ exprs) = ExprFits env expr × EachFits env exprs

abbrev mutual
  pub StatementFits : Env → Stmt → Type 0
  StatementFits env t.Nothing = Unit {0}
  StatementFits env (t.Within stmts) = StatementsFit env stmts
  StatementFits env (t.Locals type locals) = LocalsFit env type locals
  StatementFits env (t.Assigns at place value) = ExprFits env value × IndexFits env place
  StatementFits env (t.Calls call) = ExprFits env call
  StatementFits env (t.Creates at target) = Unit {0}
  StatementFits env (t.When test then_part) = ExprFits env test × StatementFits env then_part
  StatementFits env (t.Branches test then_part else_part) = ExprFits env test × StatementFits env then_part × StatementFits env else_part
  StatementFits env (t.Repeats test body) = ExprFits env test × StatementFits env body
  StatementFits env (t.Loops first test step body) =
      StatementFits env first × ExprFits (behind first env) test × StatementFits (behind first env) step × StatementFits (behind first env) body × (behind step (behind first env) ≡ behind first env)
  StatementFits env (t.Prints at arguments) = EachFits env arguments
  StatementFits env (t.Gives at value) = ExprFits env value
  StatementFits env (t.Returns at value) = AnyFits env value

  pub StatementsFit : Env → Stmts → Type 0
  StatementsFit env t.NoStmt = Unit {0}
  StatementsFit env (t.MoreStmts stmt stmts) = StatementFits env stmt × StatementsFit (behind stmt env) stmts
