-- Calls and flows are taken. What has the form of a call is one.
use Rattle.std.specs.Prelude.{ℕ, zero, suc, List, Option, Some, None, if◌then◌else◌}
use Rattle.mpl_ast.specs.declared.expression.Target.{Target}
use Rattle.mpl_ast.specs.declared.expression.Target.TheVariants.{Variable}
use Rattle.mpl_ast.specs.declared.flow.Assignment.{Assignment}
use Rattle.mpl_ast.specs.declared.flow.Call.{Call, roll-Call}
use Rattle.mpl_ast.specs.declared.flow.Flow.{Flow, roll-Flow}
use Rattle.mpl_ast.specs.declared.flow.Call.TheOpen.{Call-F, Flow-F}
use Rattle.mpl_ast.specs.declared.expression.Place.{Place}
use Rattle.mpl_ast.specs.declared.place.Name.{Name}
use Rattle.mpl_ast.specs.declared.token.Keyword.TheVariants as word
use Rattle.mpl_ast.specs.declared.token.Mark.TheVariants as m
use Rattle.mpl_ast.specs.declared.token.TokenKind.{TokenKind}
use Rattle.mpl_ast.specs.declared.token.TokenKind.TheVariants as kind
use Rattle.mpl_mean.specs.Text.Reading.{is_mark, keyword, mark}
use Rattle.mpl_trees.specs.Expressions.{begins_call, past_field, take_expression, take_field, take_place}
use Rattle.mpl_trees.specs.Taking.{Takes, ahead, both, is_ahead, list_of, node_of, parenthesized, skip_then, take_name}

-- ---- calls

-- the target of a call, behind which the member's name comes
abbrev pub take_called : Takes Target
take_called limit r = if is_ahead (is_mark m.OpenParenthesis) (past_field r.tokens) then node_of Variable take_name limit r else take_field limit r

-- a member and what it is given
abbrev pub take_member : Takes Flow → Takes (Name × List Flow)
take_member flow = both (λ member arguments. (member, arguments)) take_name (parenthesized (list_of flow))

abbrev pub take_own_call : Takes Flow → Takes Call
take_own_call flow = node_of (λ at (p : Name × List Flow). roll-Call (Call-F.OnOwn at p.0 p.1)) (skip_then (keyword word.Own) (skip_then (mark m.Dot) (take_member flow)))

abbrev pub take_target_call : Takes Flow → Takes Call
take_target_call flow =
    node_of (λ at (p : Target × (Name × List Flow)). roll-Call (Call-F.OnTarget at p.0 p.1.0 p.1.1)) (both (λ target member. (target, member)) take_called (skip_then (mark m.Dot) (take_member flow)))

abbrev pub call_at : Takes Flow → Option TokenKind → Takes Call
call_at flow (Some (kind.Keyword word.Own)) limit r = take_own_call flow limit r
call_at flow _ limit r = take_target_call flow limit r

abbrev pub take_call : Takes Flow → Takes Call
take_call flow limit r = call_at flow (ahead r.tokens) limit r

-- ---- flows

abbrev pub flow_of : Takes Flow → ℕ → Takes Flow
flow_of flow depth limit r =
    if begins_call (ahead r.tokens) r.tokens then node_of (λ at c. roll-Flow (Flow-F.OfCall at c)) (take_call flow) limit r
    else node_of (λ at e. roll-Flow (Flow-F.OfExpression at e)) (take_expression depth) limit r

abbrev pub take_flow : ℕ → Takes Flow
take_flow zero limit r = None
take_flow (suc depth) limit r = flow_of (take_flow depth) (suc depth) limit r

-- ---- assignments

abbrev pub take_assignment : ℕ → Takes Assignment
take_assignment depth = node_of (λ at (p : Place × Flow). record { at = at; place = p.0; value = p.1 }) (both (λ place value. (place, value)) (take_place (take_expression depth)) (skip_then (mark m.Assign) (take_flow depth)))
