-- Every flow and every call is taken.
use Rattle.std.proofs.Common.{◌≡◌, ℕ, zero, suc, ◌≤◌, List, [], ◌∷◌, map, length, true, false, Some, ap, ◌∙◌, subst, arith}
use Rattle.std.specs.List.{AllByRecursion}
use Rattle.mpl_ast.specs.declared.expression.Expression.{Expression}
use Rattle.mpl_ast.specs.declared.expression.Target.{Target}
use Rattle.mpl_ast.specs.declared.flow.Call.{Call, fold-roll-Call, ind-Call, map-Call, roll-Call}
use Rattle.mpl_ast.specs.declared.flow.Flow.{Flow, fold-roll-Flow, ind-Flow, map-Flow, roll-Flow}
use Rattle.mpl_ast.specs.declared.flow.Call.TheOpen.{Call-F, Flow-F}
use Rattle.mpl_ast.specs.declared.place.At.{At}
use Rattle.mpl_ast.specs.declared.place.Name.{Name}
use Rattle.mpl_ast.specs.declared.token.Keyword.TheVariants as word
use Rattle.mpl_ast.specs.declared.token.Mark.TheVariants as m
use Rattle.mpl_ast.specs.declared.token.TokenKind.TheVariants as kind
use Rattle.mpl_mean.specs.Text.ExpressionText.{expression_text, target_text}
use Rattle.mpl_mean.specs.Text.Reading.{Reads, Rest, ◌>>◌, is_keyword, is_mark, keyword, mark, name, node, separated_if_any}
use Rattle.mpl_mean.specs.Text.StatementText as text
use Rattle.mpl_mean.specs.Text.StatementText.{call_text, flow_text}
use Rattle.mpl_mean.proofs.Readers.Parts.{Reading, Through, chain, in_turn, told}
use Rattle.mpl_trees.specs.Expressions.{begins_call, second, take_expression}
use Rattle.mpl_trees.specs.Flows.{call_at, take_call, take_called, take_flow, take_member}
use Rattle.mpl_trees.specs.Statements.{begins_create}
use Rattle.mpl_trees.specs.Taking.{ahead, both, inside, is_ahead, is_any_name, list_of, parenthesized, skip_then, take_name, then_skip}
use Rattle.mpl_trees.proofs.Steps.{if_false, if_true, joins, skips, skips_behind}
use Rattle.mpl_trees.proofs.Took.{ahead-took, fewer-took, noded, takes-name, takes-node, took_keyword, took_mark, took_name}
use Rattle.mpl_trees.proofs.Growth.{Growing, fewer, growing-keyword, growing-less, growing-list, growing-mark, growing-name, growing-node, growing-then, growing-told, rising}
use Rattle.mpl_trees.proofs.Operators.{is_ahead-took}
use Rattle.mpl_trees.proofs.Ends.{Ends}
use Rattle.mpl_trees.proofs.Lists.{Begins, Taken, list-taken}
use Rattle.mpl_trees.proofs.Targets.{Called, MemberAhead, NamedAhead, growing-target, second-took, target-called, target-read}
use Rattle.mpl_trees.proofs.Levels.{OperandAhead, begins-node, takes-expression}
use Rattle.mpl_trees.proofs.Primaries.{is_ahead-ahead}
use Rattle.mpl_trees.proofs.Unaries.{not_empty}
use Rattle.mpl_trees.proofs.Expressions.{expression-is}

-- ---- what is shown

-- how a call begins: on `self`, or on a target that is neither created nor declared
pub data CallAhead (r : Rest) : Type 0 where
  on_self : ahead r.tokens ≡ Some (kind.Keyword word.Own) → CallAhead r
  on_name : NamedAhead r → begins_create r.tokens ≡ false → is_ahead is_any_name (second r.tokens) ≡ false → CallAhead r

pub record IsCall (c : Call) : Type 0 where
  pub grows : Growing 1 2 (call_text c)
  pub begins : {r x : Rest} → Reading (call_text c) r x → OperandAhead r
  pub call : {r x : Rest} → Reading (call_text c) r x → begins_call (ahead r.tokens) r.tokens ≡ true
  pub first : {r x : Rest} → Reading (call_text c) r x → CallAhead r
  pub taken : {r x : Rest} → Reading (call_text c) r x → (d : ℕ) → length r.tokens ≤ suc d → (limit : ℕ) → x.next ≤ limit → take_call (take_flow d) limit r ≡ Some (c, x)

pub record IsFlow (f : Flow) : Type 0 where
  pub grows : Growing 1 1 (flow_text f)
  pub begins : {r x : Rest} → Reading (flow_text f) r x → OperandAhead r
  pub taken : {r x : Rest} → Reading (flow_text f) r x → Ends x → (d : ℕ) → length r.tokens ≤ d → (limit : ℕ) → x.next ≤ limit → take_flow d limit r ≡ Some (f, x)

-- ---- a member and what it is given

abbrev given : Name → List Flow → List Reads
given member fs = name member ∷ mark m.OpenParenthesis ∷ separated_if_any (map flow_text fs) ∷ mark m.CloseParenthesis ∷ []

each_taken : (d limit : ℕ) (fs : List Flow) → AllByRecursion IsFlow fs → AllByRecursion (Taken flow_text (take_flow d) d limit) fs
each_taken d limit [] all = tt
each_taken d limit (f ∷ fs) all = (record { takes = λ h e k l. all.0.taken h e d k limit l; grows = growing-less 0 (omega arith) all.0.grows }, each_taken d limit fs all.1)

each_grows : (fs : List Flow) → AllByRecursion IsFlow fs → AllByRecursion (λ f. Growing 1 1 (flow_text f)) fs
each_grows [] all = tt
each_grows (f ∷ fs) all = (all.0.grows, each_grows fs all.1)

each_begins : (fs : List Flow) → AllByRecursion IsFlow fs → AllByRecursion (Begins flow_text) fs
each_begins [] all = tt
each_begins (f ∷ fs) all = (record { no_close = λ h. (all.0.begins h).no_close }, each_begins fs all.1)

member-taken : (member : Name) (fs : List Flow) → AllByRecursion IsFlow fs → (d : ℕ) {r x : Rest} → Through (given member fs) r x → length r.tokens ≤ suc d → (limit : ℕ) → x.next ≤ limit → take_member (take_flow d) limit r ≡ Some ((member, fs), x)
member-taken member fs all d {r = r} u k limit l =
    let close = took_mark m.CloseParenthesis u.2.2.2 in
    let list = list-taken flow_text (take_flow d) d limit fs (each_taken d limit fs all) (each_begins fs all) u.2.2.1 close (omega (arith, k, fewer-took (took_name member u.1).took, fewer-took (took_mark m.OpenParenthesis u.2.1))) (omega (arith, l, close.next)) in
    joins limit (λ member arguments. (member, arguments)) take_name (parenthesized (list_of (take_flow d))) r (takes-name limit member u.1)
    (skips limit (mark m.OpenParenthesis) (then_skip (list_of (take_flow d)) (mark m.CloseParenthesis)) u.2.1 (skips_behind limit (list_of (take_flow d)) (mark m.CloseParenthesis) u.2.0 list u.2.2.2))

growing-given : (member : Name) (fs : List Flow) → AllByRecursion IsFlow fs → Growing 0 36 (chain (given member fs))
growing-given member fs all = growing-less 36 (omega arith) (growing-then (growing-name member) (growing-then (growing-mark m.OpenParenthesis) (growing-then (growing-list 1 1 flow_text fs (each_grows fs all)) (growing-mark m.CloseParenthesis))))

rising-given : (member : Name) (fs : List Flow) → AllByRecursion IsFlow fs → {r x : Rest} → Through (given member fs) r x → r.next ≤ x.next
rising-given member fs all u =
    omega (arith, (took_name member u.1).took.next, (took_mark m.OpenParenthesis u.2.1).next, rising (growing-list 1 1 flow_text fs (each_grows fs all)) u.2.2.1, (took_mark m.CloseParenthesis u.2.2.2).next)

-- ---- calls

own_call-text : (at : At) (member : Name) (fs : List Flow) → call_text (roll-Call (Call-F.OnOwn at member fs)) ≡ node at (keyword word.Own >> mark m.Dot >> chain (given member fs))
own_call-text at member fs = fold-roll-Call Reads Reads text.call_step text.flow_step (Call-F.OnOwn at member fs)

own_call-is : (at : At) (member : Name) (fs : List Flow) → AllByRecursion IsFlow fs → IsCall (roll-Call (Call-F.OnOwn at member fs))
own_call-is at member fs all = record {
  grows = grown;
  begins = λ h.
      let t = took_keyword word.Own (read h).1 in
      record { no_close = is_ahead-took (is_mark m.CloseParenthesis) t; no_semicolon = is_ahead-took (is_mark m.Semicolon) t };
  call = λ {r = r} h.
      let u = read h in
      let t = took_keyword word.Own u.1 in
      ap (λ k. begins_call k r.tokens) (ahead-took t) ∙ ap (is_ahead (is_mark m.Dot)) (second-took t) ∙ is_ahead-took (is_mark m.Dot) (took_mark m.Dot u.2.1);
  first = λ h. on_self (ahead-took (took_keyword word.Own (read h).1));
  taken = λ {r = r} h d k limit l.
      let n = noded at (keyword word.Own >> mark m.Dot >> chain (given member fs)) (told (own_call-text at member fs) h) in
      let u = read h in
      let t = took_keyword word.Own u.1 in
      let member_taken = member-taken member fs all d u.2.2 (omega (arith, k, fewer-took t, fewer-took (took_mark m.Dot u.2.1))) limit l in
      ap (λ k. call_at (take_flow d) k limit r) (ahead-took t)
      ∙ takes-node limit (λ at (p : Name × List Flow). roll-Call (Call-F.OnOwn at p.0 p.1)) (skip_then (keyword word.Own) (skip_then (mark m.Dot) (take_member (take_flow d)))) n (rising grown h) l
      (skips limit (keyword word.Own) (skip_then (mark m.Dot) (take_member (take_flow d))) u.1 (skips limit (mark m.Dot) (take_member (take_flow d)) u.2.1 member_taken));
} where
  grown : Growing 1 2 (call_text (roll-Call (Call-F.OnOwn at member fs)))
  grown = growing-told (own_call-text at member fs) (growing-node at 2 (omega arith) (growing-then (growing-keyword word.Own) (growing-then (growing-mark m.Dot) (growing-given member fs all))))

  read : {r x : Rest} → Reading (call_text (roll-Call (Call-F.OnOwn at member fs))) r x → Through (keyword word.Own ∷ mark m.Dot ∷ given member fs) (inside r) x
  read h = in_turn (keyword word.Own ∷ mark m.Dot ∷ given member fs) (noded at (keyword word.Own >> mark m.Dot >> chain (given member fs)) (told (own_call-text at member fs) h)).read

target_call-text : (at : At) (t : Target) (member : Name) (fs : List Flow) → call_text (roll-Call (Call-F.OnTarget at t member fs)) ≡ node at (target_text t >> mark m.Dot >> chain (given member fs))
target_call-text at t member fs = fold-roll-Call Reads Reads text.call_step text.flow_step (Call-F.OnTarget at t member fs)

member-ahead : (member : Name) {k : Rest} {x n y : Rest} → Reading (mark m.Dot) x k → Reading (name member) k n → Reading (mark m.OpenParenthesis) n y → MemberAhead x
member-ahead member {k = k} {x = x} {n = n} g h i =
    let dot = took_mark m.Dot g in
    let t = (took_name member h).took in
    let open_ = took_mark m.OpenParenthesis i in
    let past : second (second x.tokens) ≡ n.tokens = ap second (second-took dot) ∙ second-took t in
    record {
      dot = is_ahead-took (is_mark m.Dot) dot;
      open_ = ap (is_ahead (is_mark m.OpenParenthesis)) past ∙ is_ahead-took (is_mark m.OpenParenthesis) open_;
      no_dot = ap (is_ahead (is_mark m.Dot)) past ∙ is_ahead-took (is_mark m.Dot) open_;
      no_name = is_ahead-took is_any_name dot;
      no_open = is_ahead-took (is_mark m.OpenParenthesis) dot;
    }

pub begins-named : {r : Rest} → NamedAhead r → OperandAhead r
begins-named {r = r} n = record {
  no_close = is_ahead-ahead (is_mark m.CloseParenthesis) r.tokens (kind.Name n.text) n.is;
  no_semicolon = is_ahead-ahead (is_mark m.Semicolon) r.tokens (kind.Name n.text) n.is;
}

target_call-is : (at : At) (t : Target) (member : Name) (fs : List Flow) → AllByRecursion IsFlow fs → IsCall (roll-Call (Call-F.OnTarget at t member fs))
target_call-is at t member fs all = record {
  grows = grown;
  begins = λ h. let n = (target-read t (read h).1).named in begins-node (begins-named (record { text = n.text; is = n.is }));
  call = λ h. (called h).begins;
  first = λ h.
      let u = read h in
      let c = called h in
      let n = (target-read t u.1).named in
      on_name (record { text = n.text; is = n.is }) (c.create ∙ ap (is_ahead (is_keyword word.Create)) (second-took (took_mark m.Dot u.2.1)) ∙ is_ahead-took (is_keyword word.Create) (took_name member u.2.2.1).took) c.no_name;
  taken = λ {r = r} h d k limit l.
      let n = noded at (target_text t >> mark m.Dot >> chain (given member fs)) (told (target_call-text at t member fs) h) in
      let u = read h in
      let dot = took_mark m.Dot u.2.1 in
      let member_taken = member-taken member fs all d u.2.2 (omega (arith, k, fewer (growing-target t) u.1, fewer-took dot)) limit l in
      ap (λ k. call_at (take_flow d) k limit r) (target-read t u.1).named.is
      ∙ takes-node limit (λ at (p : Target × (Name × List Flow)). roll-Call (Call-F.OnTarget at p.0 p.1.0 p.1.1)) (both (λ target member. (target, member)) take_called (skip_then (mark m.Dot) (take_member (take_flow d)))) n (rising grown h) l
      (joins limit (λ target member. (target, member)) take_called (skip_then (mark m.Dot) (take_member (take_flow d))) (inside r) ((called h).taken limit (omega (arith, l, dot.next, rising-given member fs all u.2.2))) (skips limit (mark m.Dot) (take_member (take_flow d)) u.2.1 member_taken));
} where
  grown : Growing 1 2 (call_text (roll-Call (Call-F.OnTarget at t member fs)))
  grown = growing-told (target_call-text at t member fs) (growing-node at 2 (omega arith) (growing-then (growing-target t) (growing-then (growing-mark m.Dot) (growing-given member fs all))))

  read : {r x : Rest} → Reading (call_text (roll-Call (Call-F.OnTarget at t member fs))) r x → Through (target_text t ∷ mark m.Dot ∷ given member fs) (inside r) x
  read h = in_turn (target_text t ∷ mark m.Dot ∷ given member fs) (noded at (target_text t >> mark m.Dot >> chain (given member fs)) (told (target_call-text at t member fs) h)).read

  called : {r x : Rest} (h : Reading (call_text (roll-Call (Call-F.OnTarget at t member fs))) r x) → Called t (inside r) (read h).0
  called h = let u = read h in target-called t u.1 (member-ahead member u.2.1 u.2.2.1 u.2.2.2.1)

-- ---- flows

of_call-text : (at : At) (c : Call) → flow_text (roll-Flow (Flow-F.OfCall at c)) ≡ node at (call_text c)
of_call-text at c = fold-roll-Flow Reads Reads text.call_step text.flow_step (Flow-F.OfCall at c)

of_expression-text : (at : At) (e : Expression) → flow_text (roll-Flow (Flow-F.OfExpression at e)) ≡ node at (expression_text e)
of_expression-text at e = fold-roll-Flow Reads Reads text.call_step text.flow_step (Flow-F.OfExpression at e)

of_call-is : (at : At) (c : Call) → IsCall c → IsFlow (roll-Flow (Flow-F.OfCall at c))
of_call-is at c i = record {
  grows = grown;
  begins = λ h. begins-node (i.begins (noded at (call_text c) (told (of_call-text at c) h)).read);
  taken = λ h e d k limit l. taken_at h d k limit l;
} where
  grown : Growing 1 1 (flow_text (roll-Flow (Flow-F.OfCall at c)))
  grown = growing-told (of_call-text at c) (growing-node at 1 (omega arith) i.grows)

  taken_at : {r x : Rest} → Reading (flow_text (roll-Flow (Flow-F.OfCall at c))) r x → (d : ℕ) → length r.tokens ≤ d → (limit : ℕ) → x.next ≤ limit → take_flow d limit r ≡ Some (roll-Flow (Flow-F.OfCall at c), x)
  taken_at h zero k limit l = absurd (not_empty at (call_text c) (told (of_call-text at c) h) k)
  taken_at {r = r} h (suc d) k limit l =
      let n = noded at (call_text c) (told (of_call-text at c) h) in
      if_true (begins_call (ahead r.tokens) r.tokens) _ _ (i.call n.read) ∙ takes-node limit (λ at (c : Call). roll-Flow (Flow-F.OfCall at c)) (take_call (take_flow d)) n (rising grown h) l (i.taken n.read d k limit l)

of_expression-is : (at : At) (e : Expression) → IsFlow (roll-Flow (Flow-F.OfExpression at e))
of_expression-is at e = record {
  grows = grown;
  begins = λ h. begins-node ((expression-is e).begins (noded at (expression_text e) (told (of_expression-text at e) h)).read);
  taken = λ h f d k limit l. taken_at h f d k limit l;
} where
  grown : Growing 1 1 (flow_text (roll-Flow (Flow-F.OfExpression at e)))
  grown = growing-told (of_expression-text at e) (growing-node at 1 (omega arith) (expression-is e).grows)

  taken_at : {r x : Rest} → Reading (flow_text (roll-Flow (Flow-F.OfExpression at e))) r x → Ends x → (d : ℕ) → length r.tokens ≤ d → (limit : ℕ) → x.next ≤ limit → take_flow d limit r ≡ Some (roll-Flow (Flow-F.OfExpression at e), x)
  taken_at h f zero k limit l = absurd (not_empty at (expression_text e) (told (of_expression-text at e) h) k)
  taken_at {r = r} h f (suc d) k limit l =
      let n = noded at (expression_text e) (told (of_expression-text at e) h) in
      if_false (begins_call (ahead r.tokens) r.tokens) _ _ ((expression-is e).no_member n.read f.follows)
      ∙ takes-node limit (λ at (e : Expression). roll-Flow (Flow-F.OfExpression at e)) (take_expression (suc d)) n (rising grown h) l (takes-expression (expression-is e) n.read f (suc d) k limit l)

-- ---- each of them

abbrev With-Call : Type 0
With-Call = (c : Call) × IsCall c

abbrev With-Flow : Type 0
With-Flow = (f : Flow) × IsFlow f

each_flow : (fs : List With-Flow) → AllByRecursion IsFlow (map (λ f. f.0) fs)
each_flow [] = tt
each_flow (f ∷ fs) = (f.1, each_flow fs)

call_layer : (y : Call-F With-Call With-Flow) → IsCall (roll-Call (map-Call With-Call With-Flow Call Flow (λ c. c.0) (λ f. f.0) y))
call_layer (Call-F.OnOwn at member fs) = own_call-is at member (map (λ f. f.0) fs) (each_flow fs)
call_layer (Call-F.OnTarget at t member fs) = target_call-is at t member (map (λ f. f.0) fs) (each_flow fs)

flow_layer : (y : Flow-F With-Call With-Flow) → IsFlow (roll-Flow (map-Flow With-Call With-Flow Call Flow (λ c. c.0) (λ f. f.0) y))
flow_layer (Flow-F.OfCall at c) = of_call-is at c.0 c.1
flow_layer (Flow-F.OfExpression at e) = of_expression-is at e

pub flow-is : (f : Flow) → IsFlow f
flow-is = ind-Flow IsCall IsFlow (λ y z is. subst (λ l. IsCall (roll-Call l)) is (call_layer z)) (λ y z is. subst (λ l. IsFlow (roll-Flow l)) is (flow_layer z))

pub call-is : (c : Call) → IsCall c
call-is = ind-Call IsCall IsFlow (λ y z is. subst (λ l. IsCall (roll-Call l)) is (call_layer z)) (λ y z is. subst (λ l. IsFlow (roll-Flow l)) is (flow_layer z))
