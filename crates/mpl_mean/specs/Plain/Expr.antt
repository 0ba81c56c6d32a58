-- Expressions, places, flows and calls without the levels of the grammar. Each form begins with where its node stands, and
-- one with an operator or a `[` has the line of that.
use Rattle.std.specs.Prelude.{ℕ, Bool, true, false, List, [], ◌∷◌, ℤ}
use Rattle.mpl_ast.specs.declared.expression.Expression.{Expression}
use Rattle.mpl_ast.specs.declared.expression.Place.{Place}
use Rattle.mpl_ast.specs.declared.expression.Conjunction.TheOpen.{Place-F, Primary-F}
use Rattle.mpl_ast.specs.declared.expression.Target.{Target}
use Rattle.mpl_ast.specs.declared.expression.UnaryOperator.{UnaryOperator}
use Rattle.mpl_ast.specs.declared.flow.Call.{Call, fold-Call}
use Rattle.mpl_ast.specs.declared.flow.Flow.{Flow, fold-Flow}
use Rattle.mpl_ast.specs.declared.flow.Call.TheOpen.{Call-F, Flow-F}
use Rattle.mpl_ast.specs.declared.place.At.{At}
use Rattle.mpl_ast.specs.declared.place.Name.{Name}
use Rattle.mpl_mean.specs.Levels.{BinaryOperator, Forms, expression_by, place_by}

mutual
  pub data Expr : Type 0 where
    Number : (at : At) → (value : ℤ) → Expr
    Truth : (at : At) → (value : Bool) → Expr
    Own : (at : At) → Expr
    Input : (at : At) → Expr
    -- a place without an index, and with one
    Whole : (at : At) → Target → Expr
    Element : (at : At) → (line : ℕ) → Target → (index : Expr) → Expr
    PlainCall : (at : At) → (function : Name) → Exprs → Expr
    Parenthesized : (at : At) → Expr → Expr
    Unary : (at : At) → (line : ℕ) → UnaryOperator → Expr → Expr
    Binary : (at : At) → (line : ℕ) → BinaryOperator → Expr → Expr → Expr
    CallOnOwn : (at : At) → (member : Name) → Exprs → Expr
    CallOnTarget : (at : At) → Target → (member : Name) → Exprs → Expr

  pub data Exprs : Type 0 where
    NoExpr : Exprs
    MoreExprs : Expr → Exprs → Exprs

abbrev pub listed : List Expr → Exprs
listed [] = NoExpr
listed (expr ∷ exprs) = MoreExprs expr (listed exprs)

-- where it stands
abbrev pub stands_at : Expr → At
stands_at (Number at value) = at
stands_at (Truth at value) = at
stands_at (Own at) = at
stands_at (Input at) = at
stands_at (Whole at target) = at
stands_at (Element at line target index) = at
stands_at (PlainCall at function arguments) = at
stands_at (Parenthesized at inner) = at
stands_at (Unary at line operator operand) = at
stands_at (Binary at line operator left right) = at
stands_at (CallOnOwn at member arguments) = at
stands_at (CallOnTarget at target member arguments) = at

-- the byte at which it begins
abbrev pub begins : Expr → ℕ
begins expr = (stands_at expr).span.from

-- ---- expressions and places

abbrev pub primary_step : Primary-F Expr Expr Expr Expr Expr Expr Expr Expr Expr → Expr
primary_step (Primary-F.Number at value) = Number at value
primary_step (Primary-F.True at) = Truth at true
primary_step (Primary-F.False at) = Truth at false
primary_step (Primary-F.Own at) = Own at
primary_step (Primary-F.Read at place) = place
primary_step (Primary-F.Input at) = Input at
primary_step (Primary-F.CallPlain at function arguments) = PlainCall at function (listed arguments)
primary_step (Primary-F.Parenthesized at inner) = Parenthesized at inner

abbrev pub place_step : Place-F Expr Expr Expr Expr Expr Expr Expr Expr Expr → Expr
place_step (Place-F.Whole at target) = Whole at target
place_step (Place-F.Element at line target index) = Element at line target index

abbrev pub expr_of_forms : Forms Expr
expr_of_forms = record {
  alone = λ at part. part;
  binary = Binary;
  unary = Unary;
  primary = primary_step;
  place = place_step;
}

abbrev pub expr_of : Expression → Expr
expr_of = expression_by expr_of_forms

abbrev pub expr_of_place : Place → Expr
expr_of_place = place_by expr_of_forms

-- ---- flows and calls

abbrev pub flow_step : Flow-F Expr Expr → Expr
flow_step (Flow-F.OfCall at call) = call
flow_step (Flow-F.OfExpression at expression) = expr_of expression

abbrev pub call_step : Call-F Expr Expr → Expr
call_step (Call-F.OnOwn at member arguments) = CallOnOwn at member (listed arguments)
call_step (Call-F.OnTarget at target member arguments) = CallOnTarget at target member (listed arguments)

abbrev pub expr_of_flow : Flow → Expr
expr_of_flow = fold-Flow Expr Expr call_step flow_step

abbrev pub expr_of_call : Call → Expr
expr_of_call = fold-Call Expr Expr call_step flow_step
