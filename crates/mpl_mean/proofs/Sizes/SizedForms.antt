-- What expressions, flows and statements do, beside what the type rules see of them, without the levels of the grammar.
use Rattle.std.proofs.Common.{ℕ, Bool, true, false, List, [], ◌∷◌, map, Option, None, if◌then◌else◌, ℤ, Result}
use Rattle.mpl_ast.specs.declared.expression.Expression.{Expression}
use Rattle.mpl_ast.specs.declared.expression.Target.{Target}
use Rattle.mpl_ast.specs.declared.expression.UnaryOperator.{UnaryOperator}
use Rattle.mpl_ast.specs.declared.flow.Assignment.{Assignment}
use Rattle.mpl_ast.specs.declared.flow.Call.{Call}
use Rattle.mpl_ast.specs.declared.flow.Flow.{Flow}
use Rattle.mpl_ast.specs.declared.place.At.{At}
use Rattle.mpl_ast.specs.declared.place.Name.{Name}
use Rattle.mpl_ast.specs.declared.statement.ForStart.{ForStart}
use Rattle.mpl_ast.specs.declared.statement.Local.{Local}
use Rattle.mpl_value.specs.declared.known.TrapKind.{TrapKind}
use Rattle.mpl_mean.specs.Levels.{BinaryOperator, Or, And}
use Rattle.mpl_mean.specs.Plain.Stmt.{Stmt, Stmts, locals, assigns, starts, if_any}
use Rattle.mpl_mean.specs.Plain.Stmt as stmt
use Rattle.mpl_mean.specs.Meaning.CallMeaning.{MayName, Passes, name_of_target, pass, call_of_member, persistent_call, call_on_target, at_context, passes, call_value}
use Rattle.mpl_mean.specs.Meaning.ExpressionMeaning.{Evaluates, arithmetic_of, call_plain, element_of, next_number, test_of, unary_operation, value_of}
use Rattle.mpl_mean.specs.Meaning.Layout.{member_named}
use Rattle.mpl_mean.specs.Plain.Expr.{Expr, Exprs, expr_of, expr_of_call, expr_of_flow}
use Rattle.mpl_mean.specs.Plain.Expr as expr
use Rattle.mpl_mean.specs.Meaning.PlaceMeaning.{read}
use Rattle.mpl_mean.specs.Meaning.StatementMeaning.{Does, block_effect, declares_all, at_location, create_at, gives_result, line_of, loop, nothing, returns, steps, values_of}
use Rattle.mpl_mean.specs.Meaning.StatementMeaning as statement
use Rattle.mpl_mean.specs.Meaning.Store.{◌>>=◌, ◌>>◌, pure, in_scope, printed}
use Rattle.mpl_mean.specs.Meaning.Values.{int_value, bool_value, is_true}
use Rattle.std.specs.Option.{option_map}

mutual
  -- the meaning of an expression, what is seen of it, and the name that it is
  pub data Means : Evaluates → Expr → MayName → Type 0 where
    number : (at : At) (z : ℤ) → Means (λ context. pure (int_value z)) (expr.Number at z) None
    truth : (at : At) (b : Bool) → Means (λ context. pure (bool_value b)) (expr.Truth at b) None
    own : (at : At) → Means (λ context. pure (int_value context.object)) (expr.Own at) None
    input : (at : At) → Means (λ context. next_number at.line) (expr.Input at) None
    whole : (at : At) (t : Target) → Means (λ context. read context t) (expr.Whole at t) (name_of_target t)
    element : {i : Evaluates} {p : Expr} {m : MayName} (at : At) (line : ℕ) (t : Target) → Means i p m
        → Means (λ context. element_of line (read context t) (i context)) (expr.Element at line t p) None
    plain : {fs : List Evaluates} {ps : Exprs} (at : At) (f : Name) → MeansEach fs ps
        → Means (λ context. call_plain context f (map (λ evaluates. evaluates context) fs)) (expr.PlainCall at f ps) None
    parenthesized : {v : Evaluates} {p : Expr} {m : MayName} (at : At) → Means v p m → Means v (expr.Parenthesized at p) None
    unary : {v : Evaluates} {p : Expr} {m : MayName} (at : At) (line : ℕ) (o : UnaryOperator) → Means v p m
        → Means (λ context. v context >>= unary_operation line o) (expr.Unary at line o p) None
    -- where both operands are evaluated
    arithmetic : {v w : Evaluates} {p q : Expr} {m n : MayName} (at : At) (line : ℕ) (operator : BinaryOperator) (o : ℤ → ℤ → Result ℤ TrapKind) → Means v p m → Means w q n
        → Means (arithmetic_of line o v w) (expr.Binary at line operator p q) None
    compares : {v w : Evaluates} {p q : Expr} {m n : MayName} (at : At) (line : ℕ) (operator : BinaryOperator) (o : ℤ → ℤ → Bool) → Means v p m → Means w q n
        → Means (test_of o v w) (expr.Binary at line operator p q) None
    or : {v w : Evaluates} {p q : Expr} {m n : MayName} (at : At) (line : ℕ) → Means v p m → Means w q n
        → Means (λ context. v context >>= (λ a. if is_true a then pure (bool_value true) else w context))
        (expr.Binary at line Or p q) None
    and : {v w : Evaluates} {p q : Expr} {m n : MayName} (at : At) (line : ℕ) → Means v p m → Means w q n
        → Means (λ context. v context >>= (λ a. if is_true a then w context else pure (bool_value false)))
        (expr.Binary at line And p q) None

  pub data MeansEach : List Evaluates → Exprs → Type 0 where
    none : MeansEach [] expr.NoExpr
    more : {v : Evaluates} {vs : List Evaluates} {p : Expr} {ps : Exprs} {m : MayName} → Means v p m → MeansEach vs ps → MeansEach (v ∷ vs) (expr.MoreExprs p ps)

mutual
  -- what is passed on, and what is seen of it
  pub data PassesOn : Passes → Expr → Type 0 where
    on_own : {fs : List Passes} {ps : Exprs} (at : At) (member : Name) → PassesEach fs ps
        → PassesOn (λ context. call_of_member (member_named member.text context.members) (λ m. persistent_call context context.object m (at_context context fs)))
        (expr.CallOnOwn at member ps)
    on_target : {fs : List Passes} {ps : Exprs} (at : At) (t : Target) (member : Name) → PassesEach fs ps
        → PassesOn (λ context. call_on_target context at.line t member.text (at_context context fs)) (expr.CallOnTarget at t member ps)
    expression : (e : Expression) → PassesOn (λ context. pass context e) (expr_of e)

  pub data PassesEach : List Passes → Exprs → Type 0 where
    none : PassesEach [] expr.NoExpr
    more : {f : Passes} {fs : List Passes} {p : Expr} {ps : Exprs} → PassesOn f p → PassesEach fs ps → PassesEach (f ∷ fs) (expr.MoreExprs p ps)

mutual
  -- what a statement does, and what is seen of it
  pub data Acts : Does → Stmt → Type 0 where
    within : {ds : List Does} {stmts : Stmts} → ActsEach ds stmts → Acts (λ context. block_effect context ds) (stmt.Within stmts)
    declare : (l : Local) → Acts (λ context. declares_all context l) (locals l)
    assign : (a : Assignment) → Acts (λ context. statement.assigns context a) (assigns a)
    call : (c : Call) → Acts (λ context. call_value c context >> nothing) (stmt.Calls (expr_of_call c))
    create : (at : At) (t : Target) → Acts (λ context. at_location context t (create_at context)) (stmt.Creates at t)
    branch : {f : Does} {a : Stmt} (test : Expression) → Acts f a
        → Acts (λ context. value_of test context >>= (λ v. if is_true v then in_scope (f context) else nothing)) (stmt.When (expr_of test) a)
    branches : {f g : Does} {a b : Stmt} (test : Expression) → Acts f a → Acts g b
        → Acts (λ context. value_of test context >>= (λ v. if is_true v then in_scope (f context) else in_scope (g context))) (stmt.Branches (expr_of test) a b)
    repeats : {f : Does} {a : Stmt} (test : Expression) → Acts f a → Acts (λ context. loop context test (in_scope (f context))) (stmt.Repeats (expr_of test) a)
    loops : {f : Does} {a : Stmt} (start : Option ForStart) (test : Expression) (step : Option Assignment) → Acts f a
        → Acts (λ context. in_scope (statement.starts context start >> loop context test (in_scope (f context) >> steps context step)))
        (stmt.Loops (if_any (option_map starts start)) (expr_of test) (if_any (option_map assigns step)) a)
    print : (at : At) (es : List Expression) → Acts (λ context. values_of context es >>= (λ values. printed (line_of values))) (stmt.Prints at (map expr_of es))
    rtf : (at : At) (value : Flow) → Acts (λ context. passes value context >>= gives_result at.line) (stmt.Gives at (expr_of_flow value))
    return : (at : At) (value : Option Expression) → Acts (λ context. returns context value) (stmt.Returns at (option_map expr_of value))
    empty : Acts (λ context. nothing) stmt.Nothing

  pub data ActsEach : List Does → Stmts → Type 0 where
    none : ActsEach [] stmt.NoStmt
    more : {f : Does} {fs : List Does} {a : Stmt} {stmts : Stmts} → Acts f a → ActsEach fs stmts → ActsEach (f ∷ fs) (stmt.MoreStmts a stmts)
