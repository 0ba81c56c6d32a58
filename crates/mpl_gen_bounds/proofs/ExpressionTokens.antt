-- An expression has at least as many tokens as forms.
use Rattle.std.proofs.Common.{◌≡◌, ◌≤◌, ℕ, ◌+◌, List, [], ◌∷◌, map, refl, ap, subst, sym, arith, ◌∙◌}
use Rattle.std.specs.List.{AllByRecursion}
use Rattle.mpl_ast.specs.declared.expression.Expression.{Expression}
use Rattle.mpl_ast.specs.declared.expression.Place.{Place}
use Rattle.mpl_ast.specs.declared.expression.Target.{Target}
use Rattle.mpl_ast.specs.declared.expression.Target.TheVariants as target
use Rattle.mpl_ast.specs.declared.flow.Call.{Call, fold-roll-Call, map-Call, roll-Call, ind-Call}
use Rattle.mpl_ast.specs.declared.flow.Flow.{Flow, fold-roll-Flow, map-Flow, roll-Flow, ind-Flow}
use Rattle.mpl_ast.specs.declared.flow.Call.TheOpen.{Call-F, Flow-F}
use Rattle.mpl_mean.specs.Plain.Expr.{Expr, expr_of, expr_of_call, expr_of_flow, expr_of_forms, expr_of_place, listed}
use Rattle.mpl_mean.specs.Plain.Expr as tree
use Rattle.mpl_mean.specs.Text.ExpressionText.{expression_text, place_text, target_text, text_of_forms}
use Rattle.mpl_mean.specs.Text.Reading.{Reads, separated_if_any}
use Rattle.mpl_mean.specs.Text.StatementText.{call_step, call_text, flow_step, flow_text}
use Rattle.mpl_mean.proofs.ExpressionInduction.{Becomes, EachForm, by_forms, place_by_forms}
use Rattle.mpl_gen_bounds.proofs.FormCounts.{forms, forms_each}
use Rattle.mpl_gen_bounds.proofs.Readings.{AllUse, Uses, fewer, total, uses_both, uses_next, uses_node, uses_nothing, uses_second, uses_separated_if_any, uses_token}

-- ---- the forms of expressions

-- its tokens are at least its forms
abbrev Counted : Becomes → Type 0
Counted t = Uses (forms (t Expr expr_of_forms)) (t Reads text_of_forms)

pub target_used : (t : Target) → Uses 1 (target_text t)
target_used (target.Variable at variable) = uses_node at (uses_token _)
target_used (target.Field at variable field) = uses_node at (fewer (omega arith) (uses_next _ (uses_next _ (uses_token _))))

abbrev counts_of : List Expression → List ℕ
counts_of [] = []
counts_of (x ∷ xs) = forms (expr_of x) ∷ counts_of xs

values_used : (xs : List Expression) → AllByRecursion (λ x. Uses (forms (expr_of x)) (expression_text x)) xs → Uses (forms_each (listed (map expr_of xs))) (separated_if_any (map expression_text xs))
values_used xs h = subst (λ n. Uses n (separated_if_any (map expression_text xs))) (same xs) (uses_separated_if_any (counts_of xs) (map expression_text xs) (all xs h)) where
  all : (xs : List Expression) → AllByRecursion (λ x. Uses (forms (expr_of x)) (expression_text x)) xs → AllUse (counts_of xs) (map expression_text xs)
  all [] h = tt
  all (x ∷ xs) h = (h.0, all xs h.1)

  same : (xs : List Expression) → total (counts_of xs) ≡ forms_each (listed (map expr_of xs))
  same [] = refl
  same (x ∷ xs) = ap (λ n. forms (expr_of x) + n) (same xs)

forms_counted : EachForm Counted Counted
forms_counted = record {
  alone = λ at t p. uses_node at p;
  binary = λ at line operator l r p q. uses_node at (fewer (omega arith) (uses_both p (uses_next _ q)));
  unary = λ at line operator t p. uses_node at (uses_next _ p);
  number = λ at value. uses_node at (uses_token _);
  true = λ at. uses_node at (uses_token _);
  false = λ at. uses_node at (uses_token _);
  own = λ at. uses_node at (uses_token _);
  read = λ at t p. uses_node at p;
  input = λ at. uses_node at (fewer (omega arith) (uses_next _ (uses_next _ (uses_token _))));
  call = λ at f es all. uses_node at (fewer (omega arith) (uses_next _ (uses_next _ (uses_both (values_used es all) (uses_token _)))));
  parenthesized = λ at t p. uses_node at (fewer (omega arith) (uses_next _ (uses_both p (uses_token _))));
  whole = λ at t. uses_node at (target_used t);
  element = λ at line t i p. uses_node at (fewer (omega arith) (uses_both (target_used t) (uses_next _ (uses_both p (uses_token _)))));
}

pub expression_used : (x : Expression) → Uses (forms (expr_of x)) (expression_text x)
expression_used = by_forms Counted Counted forms_counted

pub place_used : (t : Place) → Uses (forms (expr_of_place t)) (place_text t)
place_used = place_by_forms Counted Counted forms_counted

-- ---- flows and calls

abbrev Good-Call : Call → Type 0
Good-Call t = Uses (forms (expr_of_call t)) (call_text t)

abbrev Good-Flow : Flow → Type 0
Good-Flow t = Uses (forms (expr_of_flow t)) (flow_text t)

abbrev With-Call : Type 0
With-Call = (t : Call) × Good-Call t

abbrev With-Flow : Type 0
With-Flow = (t : Flow) × Good-Flow t

rolled : {a b : Reads} {x y : Expr} → a ≡ b → x ≡ y → Uses (forms y) b → Uses (forms x) a
rolled {a} {b} {x} {y} i j h = subst (λ a. Uses (forms x) a) (sym i) (subst (λ x. Uses (forms x) b) (sym j) h)

rolled-Call : (layer : Call-F Call Flow) → Uses (forms (tree.call_step (map-Call Call Flow Expr Expr expr_of_call expr_of_flow layer))) (call_step (map-Call Call Flow Reads Reads call_text flow_text layer)) → Good-Call (roll-Call layer)
rolled-Call layer = rolled (fold-roll-Call Reads Reads call_step flow_step layer) (fold-roll-Call Expr Expr tree.call_step tree.flow_step layer)

rolled-Flow : (layer : Flow-F Call Flow) → Uses (forms (tree.flow_step (map-Flow Call Flow Expr Expr expr_of_call expr_of_flow layer))) (flow_step (map-Flow Call Flow Reads Reads call_text flow_text layer)) → Good-Flow (roll-Flow layer)
rolled-Flow layer = rolled (fold-roll-Flow Reads Reads call_step flow_step layer) (fold-roll-Flow Expr Expr tree.call_step tree.flow_step layer)

abbrev flow_counts : List With-Flow → List ℕ
flow_counts [] = []
flow_counts (t ∷ ts) = forms (expr_of_flow t.0) ∷ flow_counts ts

flows_used : (ts : List With-Flow) → Uses (forms_each (listed (map expr_of_flow (map (λ t. t.0) ts)))) (separated_if_any (map flow_text (map (λ t. t.0) ts)))
flows_used ts = subst (λ n. Uses n (separated_if_any (map flow_text (map (λ t. t.0) ts)))) (same ts) (uses_separated_if_any (flow_counts ts) (map flow_text (map (λ t. t.0) ts)) (all ts)) where
  all : (ts : List With-Flow) → AllUse (flow_counts ts) (map flow_text (map (λ t. t.0) ts))
  all [] = tt
  all (t ∷ ts) = (t.1, all ts)

  same : (ts : List With-Flow) → total (flow_counts ts) ≡ forms_each (listed (map expr_of_flow (map (λ t. t.0) ts)))
  same [] = refl
  same (t ∷ ts) = ap (λ n. forms (expr_of_flow t.0) + n) (same ts)

call_layer : (y : Call-F With-Call With-Flow) → Good-Call (roll-Call (map-Call With-Call With-Flow Call Flow (λ t. t.0) (λ t. t.0) y))
call_layer (Call-F.OnOwn at name ts) =
    rolled-Call (Call-F.OnOwn at name (map (λ t. t.0) ts))
    (uses_node at (fewer (omega arith) (uses_next _ (uses_next _ (uses_next _ (uses_next _ (uses_both (flows_used ts) (uses_token _))))))))
call_layer (Call-F.OnTarget at t name ts) =
    rolled-Call (Call-F.OnTarget at t name (map (λ t. t.0) ts))
    (uses_node at (fewer (omega arith) (uses_both (target_used t) (uses_next _ (uses_next _ (uses_next _ (uses_both (flows_used ts) (uses_token _))))))))

flow_layer : (y : Flow-F With-Call With-Flow) → Good-Flow (roll-Flow (map-Flow With-Call With-Flow Call Flow (λ t. t.0) (λ t. t.0) y))
flow_layer (Flow-F.OfCall at t) = rolled-Flow (Flow-F.OfCall at t.0) (uses_node at t.1)
flow_layer (Flow-F.OfExpression at x) = rolled-Flow (Flow-F.OfExpression at x) (uses_node at (expression_used x))

pub flow_used : (t : Flow) → Uses (forms (expr_of_flow t)) (flow_text t)
flow_used =
    ind-Flow Good-Call Good-Flow (λ y z is. subst (λ l. Good-Call (roll-Call l)) is (call_layer z)) (λ y z is. subst (λ l. Good-Flow (roll-Flow l)) is (flow_layer z))

pub call_used : (t : Call) → Uses (forms (expr_of_call t)) (call_text t)
call_used =
    ind-Call Good-Call Good-Flow (λ y z is. subst (λ l. Good-Call (roll-Call l)) is (call_layer z)) (λ y z is. subst (λ l. Good-Flow (roll-Flow l)) is (flow_layer z))
