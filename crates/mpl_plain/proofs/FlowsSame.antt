-- Flows and calls mean what their plain trees mean.
use Rattle.std.proofs.Common.{◌≡◌, List, [], ◌∷◌, map, refl, ap, ap₂, sym, subst, ◌∙◌}
use Rattle.mpl_ast.specs.declared.flow.Call.{Call, fold-roll-Call, map-Call, roll-Call, ind-Call}
use Rattle.mpl_ast.specs.declared.flow.Flow.{Flow, fold-roll-Flow, map-Flow, roll-Flow, ind-Flow}
use Rattle.mpl_ast.specs.declared.flow.Call.TheOpen.{Call-F, Flow-F}
use Rattle.mpl_mean.specs.Meaning.CallMeaning.{Passes, call_step, call_value, flow_step, passes}
use Rattle.mpl_mean.specs.Plain.Expr.{Expr, expr_of_call, expr_of_flow, listed}
use Rattle.mpl_mean.specs.Plain.Expr as tree
use Rattle.mpl_plain.specs.ExprMeaning.{call_on_own, call_on_place, tree_passes, trees_pass}
use Rattle.mpl_plain.proofs.ExprsSame.{passed_same}

abbrev Good-Call : Call → Type 0
Good-Call t = call_value t ≡ tree_passes (expr_of_call t)

abbrev Good-Flow : Flow → Type 0
Good-Flow t = passes t ≡ tree_passes (expr_of_flow t)

abbrev With-Call : Type 0
With-Call = (t : Call) × Good-Call t

abbrev With-Flow : Type 0
With-Flow = (t : Flow) × Good-Flow t

each_same : (ts : List With-Flow) → map passes (map (λ t. t.0) ts) ≡ trees_pass (listed (map expr_of_flow (map (λ t. t.0) ts)))
each_same [] = refl
each_same (t ∷ ts) = ap₂ (λ f fs. f ∷ fs) t.1 (each_same ts)

rolled-Call : (layer : Call-F Call Flow)
    → call_step (map-Call Call Flow Passes Passes call_value passes layer) ≡ tree_passes (tree.call_step (map-Call Call Flow Expr Expr expr_of_call expr_of_flow layer))
    → Good-Call (roll-Call layer)
rolled-Call layer same = fold-roll-Call Passes Passes call_step flow_step layer ∙ same ∙ ap tree_passes (sym (fold-roll-Call Expr Expr tree.call_step tree.flow_step layer))

rolled-Flow : (layer : Flow-F Call Flow)
    → flow_step (map-Flow Call Flow Passes Passes call_value passes layer) ≡ tree_passes (tree.flow_step (map-Flow Call Flow Expr Expr expr_of_call expr_of_flow layer))
    → Good-Flow (roll-Flow layer)
rolled-Flow layer same = fold-roll-Flow Passes Passes call_step flow_step layer ∙ same ∙ ap tree_passes (sym (fold-roll-Flow Expr Expr tree.call_step tree.flow_step layer))

call_layer : (y : Call-F With-Call With-Flow) → Good-Call (roll-Call (map-Call With-Call With-Flow Call Flow (λ t. t.0) (λ t. t.0) y))
call_layer (Call-F.OnOwn at name ts) =
    rolled-Call (Call-F.OnOwn at name (map (λ t. t.0) ts))
    (ap (call_on_own name) (each_same ts))
call_layer (Call-F.OnTarget at t name ts) =
    rolled-Call (Call-F.OnTarget at t name (map (λ t. t.0) ts))
    (ap (call_on_place at.line t name) (each_same ts))

flow_layer : (y : Flow-F With-Call With-Flow) → Good-Flow (roll-Flow (map-Flow With-Call With-Flow Call Flow (λ t. t.0) (λ t. t.0) y))
flow_layer (Flow-F.OfCall at t) = rolled-Flow (Flow-F.OfCall at t.0) t.1
flow_layer (Flow-F.OfExpression at e) = rolled-Flow (Flow-F.OfExpression at e) (passed_same e)

pub flow_same : (t : Flow) → passes t ≡ tree_passes (expr_of_flow t)
flow_same =
    ind-Flow Good-Call Good-Flow (λ y z is. subst (λ l. Good-Call (roll-Call l)) is (call_layer z)) (λ y z is. subst (λ l. Good-Flow (roll-Flow l)) is (flow_layer z))

pub call_same : (t : Call) → call_value t ≡ tree_passes (expr_of_call t)
call_same =
    ind-Call Good-Call Good-Flow (λ y z is. subst (λ l. Good-Call (roll-Call l)) is (call_layer z)) (λ y z is. subst (λ l. Good-Flow (roll-Flow l)) is (flow_layer z))
