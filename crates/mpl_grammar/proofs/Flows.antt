-- Flows, calls and assignments take the machine along.
use Rattle.std.proofs.Common.{◌≡◌, ℕ, List, [], ◌∷◌, map, Some, refl, sym, subst, add-zero}
use Rattle.mpl_ast.specs.declared.expression.Expression.{Expression}
use Rattle.mpl_ast.specs.declared.expression.Target.{Target}
use Rattle.mpl_ast.specs.declared.expression.Target.TheVariants as target
use Rattle.mpl_ast.specs.declared.flow.Assignment.{Assignment}
use Rattle.mpl_ast.specs.declared.flow.Call.{Call, fold-roll-Call, ind-Call, map-Call, roll-Call}
use Rattle.mpl_ast.specs.declared.flow.Flow.{Flow, fold-roll-Flow, ind-Flow, map-Flow, roll-Flow}
use Rattle.mpl_ast.specs.declared.flow.Call.TheOpen.{Call-F, Flow-F}
use Rattle.mpl_ast.specs.declared.place.At.{At}
use Rattle.mpl_ast.specs.declared.place.Name.{Name}
use Rattle.mpl_ast.specs.declared.token.Keyword.TheVariants as word
use Rattle.mpl_ast.specs.declared.token.Mark.{Mark}
use Rattle.mpl_ast.specs.declared.token.Mark.TheVariants as m
use Rattle.mpl_ast.specs.declared.token.TokenKind.TheVariants as kind
use Rattle.mpl_mean.specs.Text.ExpressionText.{expression_text, place_text, target_text}
use Rattle.mpl_mean.specs.Text.Reading.{Reads, Rest, ◌>>◌, keyword, mark, mark_on, name, node, separated_if_any}
use Rattle.mpl_mean.specs.Text.StatementText as text
use Rattle.mpl_mean.specs.Text.StatementText.{assignment_text, call_text, flow_text}
use Rattle.mpl_mean.specs.Text.Weight as weighing
use Rattle.mpl_mean.specs.Text.Weight.{Weighs, ◌⨾◌, assignment_weighs, bracketed, call_weighs, expression_weighs, flow_weighs, place_weighs, plain, target_weighs, with_commas, whole}
use Rattle.mpl_mean.proofs.Readers.Parts.{Reading, inside, parts}
use Rattle.mpl_mean.proofs.Readers.Tokens.{took_first, took_keyword, took_mark, took_mark_on, took_name}
use Rattle.mpl_grammar.specs.Internal.Grammar.{Stack}
use Rattle.mpl_grammar.specs.Internal.Machine.{next, weight}
use Rattle.mpl_grammar.specs.declared.symbol.Symbol.TheVariants.{AFlow, AName, Assign, CloseBracket, CloseParenthesis, FlowField, FlowName, FlowOwn, FlowsIfAny, MoreFlows, OpenFlows, Operand}
use Rattle.mpl_grammar.proofs.Passes.{Passes, joined, passes-bracketed, passes-plain}
use Rattle.mpl_grammar.proofs.Operands.{Start, at_flow, at_flows, at_operand, bracket}
use Rattle.mpl_grammar.proofs.Lists.{Each, EndsAt, Fills, FillsFirst, IsListEnd, Listing, any-fill, list_parenthesis, list_semicolon, more, none, whole-driven}
use Rattle.mpl_grammar.proofs.Primaries.{IsPlace, element_place, whole_place}
use Rattle.mpl_grammar.proofs.Expressions.{expression-drives, place-is}

-- ---- where a flow may begin, and what is below it

pub data FlowStart : Stack → Stack → Type 0 where
  one_flow : (s : Stack) → FlowStart (AFlow ∷ s) s
  first_flow : (s : Stack) → FlowStart (FlowsIfAny ∷ s) (MoreFlows ∷ s)

pub record FlowDrives (a : Reads) (w : Weighs) : Type 0 where
  pub drive : {xs s : Stack} → FlowStart xs s → {r x : Rest} → Reading a r x → EndsAt x → Passes (weight s) r xs w (weight s) x s

expression_start : {xs s : Stack} → FlowStart xs s → Start 0 xs s
expression_start (one_flow s) = at_flow s
expression_start (first_flow s) = at_flows s

-- ---- lists of flows

flows : Listing (AFlow ∷ []) MoreFlows
flows = record { comma = λ z. refl; over = λ e z. closes e z; weighs = λ z. refl; weighs_more = λ z. refl } where
  closes : {o : Mark} → IsListEnd o → (z : Stack) → next (MoreFlows ∷ z) (kind.Mark o) ≡ next z (kind.Mark o)
  closes list_parenthesis z = refl
  closes list_semicolon z = refl

no_flows : (o : Mark) → IsListEnd o → (z : Stack) → next (FlowsIfAny ∷ z) (kind.Mark o) ≡ next z (kind.Mark o)
no_flows _ list_parenthesis z = refl
no_flows _ list_semicolon z = refl

fills-flows : {rs : List Reads} {ws : List Weighs} → Each FlowDrives rs ws → Each (Fills (AFlow ∷ [])) rs ws
fills-flows none = none
fills-flows (more d ds) = more (record { fill = λ z h e. d.drive (one_flow z) h e }) (fills-flows ds)

fills_first-flows : {rs : List Reads} {ws : List Weighs} → Each FlowDrives rs ws → Each (FillsFirst FlowsIfAny MoreFlows) rs ws
fills_first-flows none = none
fills_first-flows (more d ds) = more (record { fill = λ z h e. d.drive (first_flow z) h e }) (fills_first-flows ds)

-- ---- calls

-- what the tokens of a call lead to, up to its arguments
pub record CallStart (xs z : Stack) : Type 0 where
  pub own : Stack
  pub own_dotted : Stack
  pub own_member : Stack
  pub takes_own : next xs (kind.Keyword word.Own) ≡ Some own
  pub own_dot : next own (kind.Mark m.Dot) ≡ Some own_dotted
  pub own_name : (text : List ℕ) → next own_dotted (kind.Name text) ≡ Some own_member
  pub own_open : next own_member (kind.Mark m.OpenParenthesis) ≡ Some (FlowsIfAny ∷ CloseParenthesis ∷ z)
  pub weighs_own : weight own ≡ weight z
  pub weighs_own_dotted : weight own_dotted ≡ weight z
  pub weighs_own_member : weight own_member ≡ weight z
  pub named : Stack
  pub dotted : Stack
  pub field : Stack
  pub field_dotted : Stack
  pub member : Stack
  pub takes_name : (text : List ℕ) → next xs (kind.Name text) ≡ Some named
  pub dot : next named (kind.Mark m.Dot) ≡ Some dotted
  pub takes_field : (text : List ℕ) → next dotted (kind.Name text) ≡ Some field
  pub field_open : next field (kind.Mark m.OpenParenthesis) ≡ Some (FlowsIfAny ∷ CloseParenthesis ∷ z)
  pub field_dot : next field (kind.Mark m.Dot) ≡ Some field_dotted
  pub takes_member : (text : List ℕ) → next field_dotted (kind.Name text) ≡ Some member
  pub member_open : next member (kind.Mark m.OpenParenthesis) ≡ Some (FlowsIfAny ∷ CloseParenthesis ∷ z)
  pub weighs_named : weight named ≡ weight z
  pub weighs_dotted : weight dotted ≡ weight z
  pub weighs_field : weight field ≡ weight z
  pub weighs_field_dotted : weight field_dotted ≡ weight z
  pub weighs_member : weight member ≡ weight z

pub data IsCall : Reads → Weighs → Type 0 where
  on_own : (at : At) (member : Name) {rs : List Reads} {ws : List Weighs} → Each FlowDrives rs ws
      → IsCall (node at (keyword word.Own >> mark m.Dot >> name member >> mark m.OpenParenthesis >> separated_if_any rs >> mark m.CloseParenthesis))
      (plain ⨾ plain ⨾ plain ⨾ bracketed (with_commas ws))
  on_target : (at : At) (t : Target) (member : Name) {rs : List Reads} {ws : List Weighs} → Each FlowDrives rs ws
      → IsCall (node at (target_text t >> mark m.Dot >> name member >> mark m.OpenParenthesis >> separated_if_any rs >> mark m.CloseParenthesis))
      (target_weighs t ⨾ plain ⨾ plain ⨾ bracketed (with_commas ws))

arguments-pass : {rs : List Reads} {ws : List Weighs} → Each FlowDrives rs ws → (q z : Stack) → next q (kind.Mark m.OpenParenthesis) ≡ Some (FlowsIfAny ∷ CloseParenthesis ∷ z) → {r o n x : Rest}
    → Reading (mark m.OpenParenthesis) r o → Reading (separated_if_any rs) o n → Reading (mark m.CloseParenthesis) n x → Passes (weight z) r q (bracketed (with_commas ws)) (weight z) x z
arguments-pass ds q z e o h c =
    let close = took_mark m.CloseParenthesis c in
    let inner = any-fill flows no_flows (fills-flows ds) (fills_first-flows ds) (CloseParenthesis ∷ z) h (record { mark = m.CloseParenthesis; is_end = list_parenthesis; heads = took_first close }) in
    passes-bracketed (took_mark m.OpenParenthesis o) e refl inner close refl refl

pub call-passes : {a : Reads} {w : Weighs} → IsCall a w → {xs z : Stack} → CallStart xs z → {r x : Rest} → Reading a r x → Passes (weight z) r xs w (weight z) x z
call-passes (on_own at member {rs = rs} ds) {z = z} c h =
    let u = parts at (keyword word.Own ∷ mark m.Dot ∷ name member ∷ mark m.OpenParenthesis ∷ separated_if_any rs ∷ mark m.CloseParenthesis ∷ []) h in
    let p = joined (passes-plain (took_keyword word.Own u.1) c.takes_own c.weighs_own)
    (joined (passes-plain (took_mark m.Dot u.2.1) c.own_dot c.weighs_own_dotted)
    (joined (passes-plain (took_name member u.2.2.1) (c.own_name member.text) c.weighs_own_member)
    (arguments-pass ds c.own_member z c.own_open u.2.2.2.1 u.2.2.2.2.1 u.2.2.2.2.2))) in
    record { seen = p.seen; after = p.after }
call-passes (on_target at (target.Variable place variable) member {rs = rs} ds) {z = z} c h =
    let u = parts at (target_text (target.Variable place variable) ∷ mark m.Dot ∷ name member ∷ mark m.OpenParenthesis ∷ separated_if_any rs ∷ mark m.CloseParenthesis ∷ []) h in
    let v = parts place (name variable ∷ []) u.1 in
    let p = joined (passes-plain (took_name variable v) (c.takes_name variable.text) c.weighs_named)
    (joined (passes-plain (took_mark m.Dot u.2.1) c.dot c.weighs_dotted)
    (joined (passes-plain (took_name member u.2.2.1) (c.takes_field member.text) c.weighs_field)
    (arguments-pass ds c.field z c.field_open u.2.2.2.1 u.2.2.2.2.1 u.2.2.2.2.2))) in
    record { seen = p.seen; after = p.after }
call-passes (on_target at (target.Field place variable field) member {rs = rs} ds) {z = z} c h =
    let u = parts at (target_text (target.Field place variable field) ∷ mark m.Dot ∷ name member ∷ mark m.OpenParenthesis ∷ separated_if_any rs ∷ mark m.CloseParenthesis ∷ []) h in
    let v = parts place (name variable ∷ mark m.Dot ∷ name field ∷ []) u.1 in
    let p = joined (joined (passes-plain (took_name variable v.1) (c.takes_name variable.text) c.weighs_named)
    (joined (passes-plain (took_mark m.Dot v.2.1) c.dot c.weighs_dotted) (passes-plain (took_name field v.2.2) (c.takes_field field.text) c.weighs_field)))
    (joined (passes-plain (took_mark m.Dot u.2.1) c.field_dot c.weighs_field_dotted)
    (joined (passes-plain (took_name member u.2.2.1) (c.takes_member member.text) c.weighs_member)
    (arguments-pass ds c.member z c.member_open u.2.2.2.1 u.2.2.2.2.1 u.2.2.2.2.2))) in
    record { seen = p.seen; after = p.after }

flow_calls : {xs s : Stack} → FlowStart xs s → CallStart xs s
flow_calls (one_flow s) = record {
  own = FlowOwn ∷ s;
  own_dotted = AName ∷ OpenFlows ∷ s;
  own_member = OpenFlows ∷ s;
  takes_own = refl;
  own_dot = refl;
  own_name = λ text. refl;
  own_open = refl;
  weighs_own = refl;
  weighs_own_dotted = refl;
  weighs_own_member = refl;
  named = FlowName ∷ s;
  dotted = AName ∷ FlowField ∷ s;
  field = FlowField ∷ s;
  field_dotted = AName ∷ OpenFlows ∷ s;
  member = OpenFlows ∷ s;
  takes_name = λ text. refl;
  dot = refl;
  takes_field = λ text. refl;
  field_open = refl;
  field_dot = refl;
  takes_member = λ text. refl;
  member_open = refl;
  weighs_named = refl;
  weighs_dotted = refl;
  weighs_field = refl;
  weighs_field_dotted = refl;
  weighs_member = refl;
}
flow_calls (first_flow s) = record {
  own = FlowOwn ∷ MoreFlows ∷ s;
  own_dotted = AName ∷ OpenFlows ∷ MoreFlows ∷ s;
  own_member = OpenFlows ∷ MoreFlows ∷ s;
  takes_own = refl;
  own_dot = refl;
  own_name = λ text. refl;
  own_open = refl;
  weighs_own = refl;
  weighs_own_dotted = refl;
  weighs_own_member = refl;
  named = FlowName ∷ MoreFlows ∷ s;
  dotted = AName ∷ FlowField ∷ MoreFlows ∷ s;
  field = FlowField ∷ MoreFlows ∷ s;
  field_dotted = AName ∷ OpenFlows ∷ MoreFlows ∷ s;
  member = OpenFlows ∷ MoreFlows ∷ s;
  takes_name = λ text. refl;
  dot = refl;
  takes_field = λ text. refl;
  field_open = refl;
  field_dot = refl;
  takes_member = λ text. refl;
  member_open = refl;
  weighs_named = refl;
  weighs_dotted = refl;
  weighs_field = refl;
  weighs_field_dotted = refl;
  weighs_member = refl;
}

-- ---- flows

drives-call : (at : At) {a : Reads} {w : Weighs} → IsCall a w → FlowDrives (node at a) w
drives-call at {a = a} c = record { drive = λ start h e. out (call-passes c (flow_calls start) (parts at (a ∷ []) h)) } where
  out : {v : ℕ} {r x : Rest} {s z : Stack} {w : Weighs} → Passes v (inside r) s w v x z → Passes v r s w v x z
  out p = record { seen = p.seen; after = p.after }

drives-expression : (at : At) (e : Expression) → FlowDrives (node at (expression_text e)) (expression_weighs e)
drives-expression at e = record { drive = λ start h f. out (whole-driven ((expression-drives e).drive (expression_start start) (parts at (expression_text e ∷ []) h)) f) } where
  out : {v : ℕ} {r x : Rest} {s z : Stack} {w : Weighs} → Passes v (inside r) s w v x z → Passes v r s w v x z
  out p = record { seen = p.seen; after = p.after }

abbrev Good-Call : Call → Type 0
Good-Call c = IsCall (call_text c) (call_weighs c)

abbrev With-Call : Type 0
With-Call = (c : Call) × Good-Call c

abbrev Good-Flow : Flow → Type 0
Good-Flow f = FlowDrives (flow_text f) (flow_weighs f)

abbrev With-Flow : Type 0
With-Flow = (f : Flow) × Good-Flow f

both : (P : Reads → Weighs → Type 0) {a b : Reads} {v w : Weighs} → a ≡ b → v ≡ w → P a v → P b w
both P {a = a} {w = w} e f h = subst (λ r. P r w) e (subst (λ u. P a u) f h)

rolled-Call : (layer : Call-F Call Flow) → IsCall (text.call_step (map-Call Call Flow Reads Reads call_text flow_text layer)) (weighing.call_step (map-Call Call Flow Weighs Weighs call_weighs flow_weighs layer))
    → Good-Call (roll-Call layer)
rolled-Call layer =
    both IsCall (sym (fold-roll-Call Reads Reads text.call_step text.flow_step layer)) (sym (fold-roll-Call Weighs Weighs weighing.call_step weighing.flow_step layer))

rolled-Flow : (layer : Flow-F Call Flow) → FlowDrives (text.flow_step (map-Flow Call Flow Reads Reads call_text flow_text layer)) (weighing.flow_step (map-Flow Call Flow Weighs Weighs call_weighs flow_weighs layer))
    → Good-Flow (roll-Flow layer)
rolled-Flow layer =
    both FlowDrives (sym (fold-roll-Flow Reads Reads text.call_step text.flow_step layer)) (sym (fold-roll-Flow Weighs Weighs weighing.call_step weighing.flow_step layer))

each_drives : (fs : List With-Flow) → Each FlowDrives (map flow_text (map (λ f. f.0) fs)) (map flow_weighs (map (λ f. f.0) fs))
each_drives [] = none
each_drives (f ∷ fs) = more f.1 (each_drives fs)

layer-Call : (y : Call-F With-Call With-Flow) → Good-Call (roll-Call (map-Call With-Call With-Flow Call Flow (λ c. c.0) (λ f. f.0) y))
layer-Call (Call-F.OnOwn at member fs) = rolled-Call (Call-F.OnOwn at member (map (λ f. f.0) fs)) (on_own at member (each_drives fs))
layer-Call (Call-F.OnTarget at t member fs) = rolled-Call (Call-F.OnTarget at t member (map (λ f. f.0) fs)) (on_target at t member (each_drives fs))

layer-Flow : (y : Flow-F With-Call With-Flow) → Good-Flow (roll-Flow (map-Flow With-Call With-Flow Call Flow (λ c. c.0) (λ f. f.0) y))
layer-Flow (Flow-F.OfCall at c) = rolled-Flow (Flow-F.OfCall at c.0) (drives-call at c.1)
layer-Flow (Flow-F.OfExpression at e) = rolled-Flow (Flow-F.OfExpression at e) (drives-expression at e)

pub flow-drives : (f : Flow) → FlowDrives (flow_text f) (flow_weighs f)
flow-drives =
    ind-Flow Good-Call Good-Flow (λ y z is. subst (λ l. Good-Call (roll-Call l)) is (layer-Call z)) (λ y z is. subst (λ l. Good-Flow (roll-Flow l)) is (layer-Flow z))

pub call-is : (c : Call) → IsCall (call_text c) (call_weighs c)
call-is =
    ind-Call Good-Call Good-Flow (λ y z is. subst (λ l. Good-Call (roll-Call l)) is (layer-Call z)) (λ y z is. subst (λ l. Good-Flow (roll-Flow l)) is (layer-Flow z))

-- ---- assignments

-- what the tokens of a place lead to, up to the value
pub record AssignStart (xs z : Stack) : Type 0 where
  pub named : Stack
  pub dotted : Stack
  pub field : Stack
  pub takes_name : (text : List ℕ) → next xs (kind.Name text) ≡ Some named
  pub dot : next named (kind.Mark m.Dot) ≡ Some dotted
  pub takes_field : (text : List ℕ) → next dotted (kind.Name text) ≡ Some field
  pub named_bracket : next named (kind.Mark m.OpenBracket) ≡ Some (Operand 0 ∷ CloseBracket ∷ Assign ∷ AFlow ∷ z)
  pub field_bracket : next field (kind.Mark m.OpenBracket) ≡ Some (Operand 0 ∷ CloseBracket ∷ Assign ∷ AFlow ∷ z)
  pub named_assign : next named (kind.Mark m.Assign) ≡ Some (AFlow ∷ z)
  pub field_assign : next field (kind.Mark m.Assign) ≡ Some (AFlow ∷ z)
  pub weighs_named : weight named ≡ weight z
  pub weighs_dotted : weight dotted ≡ weight z
  pub weighs_field : weight field ≡ weight z

record TargetPassed (xs z : Stack) (r : Rest) (w : Weighs) (x : Rest) : Type 0 where
  stack : Stack
  assigns : next stack (kind.Mark m.Assign) ≡ Some (AFlow ∷ z)
  opens : next stack (kind.Mark m.OpenBracket) ≡ Some (Operand 0 ∷ CloseBracket ∷ Assign ∷ AFlow ∷ z)
  passes : Passes (weight z) r xs w (weight z) x stack

target-passes : (t : Target) {xs z : Stack} → AssignStart xs z → {r x : Rest} → Reading (target_text t) r x → TargetPassed xs z r (target_weighs t) x
target-passes (target.Variable at variable) c h =
    let p = passes-plain (took_name variable (parts at (name variable ∷ []) h)) (c.takes_name variable.text) c.weighs_named in
    record { stack = c.named; assigns = c.named_assign; opens = c.named_bracket; passes = record { seen = p.seen; after = p.after } }
target-passes (target.Field at variable field) c h =
    let u = parts at (name variable ∷ mark m.Dot ∷ name field ∷ []) h in
    let p = joined (passes-plain (took_name variable u.1) (c.takes_name variable.text) c.weighs_named)
    (joined (passes-plain (took_mark m.Dot u.2.1) c.dot c.weighs_dotted) (passes-plain (took_name field u.2.2) (c.takes_field field.text) c.weighs_field)) in
    record { stack = c.field; assigns = c.field_assign; opens = c.field_bracket; passes = record { seen = p.seen; after = p.after } }

record PlacePassed (xs z : Stack) (r : Rest) (w : Weighs) (x : Rest) : Type 0 where
  stack : Stack
  assigns : next stack (kind.Mark m.Assign) ≡ Some (AFlow ∷ z)
  passes : Passes (weight z) r xs w (weight z) x stack

place-passes : {a : Reads} {w : Weighs} → IsPlace a w → {xs z : Stack} → AssignStart xs z → {r x : Rest} → Reading a r x → PlacePassed xs z r w x
place-passes (whole_place at t) c h =
    let p = target-passes t c (parts at (target_text t ∷ []) h) in
    record { stack = p.stack; assigns = p.assigns; passes = record { seen = p.passes.seen; after = p.passes.after } }
place-passes (element_place at line t {a = a} d) {z = z} c h =
    let u = parts at (target_text t ∷ mark_on line m.OpenBracket ∷ a ∷ mark m.CloseBracket ∷ []) h in
    let p = target-passes t c u.1 in
    let close = took_mark m.CloseBracket u.2.2.2 in
    let inner = whole-driven (d.drive (at_operand 0 (CloseBracket ∷ Assign ∷ AFlow ∷ z)) u.2.2.1) (record { mark = m.CloseBracket; is_end = bracket; heads = took_first close }) in
    let all = joined p.passes (passes-bracketed (took_mark_on line m.OpenBracket u.2.1) p.opens (add-zero _) inner close refl refl) in
    record { stack = Assign ∷ AFlow ∷ z; assigns = refl; passes = record { seen = all.seen; after = all.after } }

pub assignment-passes : (a : Assignment) {xs z : Stack} → AssignStart xs z → {r x : Rest} → Reading (assignment_text a) r x → EndsAt x → Passes (weight z) r xs (assignment_weighs a) (weight z) x z
assignment-passes a {z = z} c h e =
    let u = parts a.at (place_text a.place ∷ mark m.Assign ∷ flow_text a.value ∷ []) h in
    let p = place-passes (place-is a.place) c u.1 in
    let all = joined p.passes (joined (passes-plain (took_mark m.Assign u.2.1) p.assigns refl) ((flow-drives a.value).drive (one_flow z) u.2.2 e)) in
    record { seen = all.seen; after = all.after }
