-- Places are taken.
use Rattle.std.proofs.Common.{◌≡◌, ℕ, suc, ◌≤◌, List, [], ◌∷◌, length, false, Some, ap, ◌∙◌, arith}
use Rattle.mpl_ast.specs.declared.expression.Expression.{Expression}
use Rattle.mpl_ast.specs.declared.expression.Place.{Place, roll-Place}
use Rattle.mpl_ast.specs.declared.expression.Conjunction.TheOpen.{Place-F}
use Rattle.mpl_ast.specs.declared.expression.Target.{Target}
use Rattle.mpl_ast.specs.declared.place.At.{At}
use Rattle.mpl_ast.specs.declared.token.Mark.TheVariants as m
use Rattle.mpl_ast.specs.declared.token.TokenKind.TheVariants as kind
use Rattle.mpl_mean.specs.Text.ExpressionText.{expression_text, place_text, target_text}
use Rattle.mpl_mean.specs.Text.Reading.{Reads, Rest, is_mark, mark, mark_on}
use Rattle.mpl_mean.proofs.Readers.Parts.{Reading, Through, chain, in_turn, told}
use Rattle.mpl_trees.specs.Expressions.{begins_call, behind_target, element_of, second, take_expression, take_place, take_target}
use Rattle.mpl_trees.specs.Statements.{begins_create}
use Rattle.mpl_trees.specs.Taking.{ahead, continued, inside, is_ahead, is_any_name, line_of, skip_then, then_skip}
use Rattle.mpl_trees.proofs.FormTexts.{element-text, whole-text}
use Rattle.mpl_trees.proofs.Steps.{continues, if_false, if_true, makes, skips, skips_behind}
use Rattle.mpl_trees.proofs.Took.{Took, fewer-took, mark_read, noded, takes-node, took_mark, took_mark_on}
use Rattle.mpl_trees.proofs.Growth.{Growing, fewer, growing-mark, growing-mark_on, growing-node, growing-then, growing-told, rising}
use Rattle.mpl_trees.proofs.Insides.{Inside, Moves, brackets, inside-node, inside-pair, inside-then, pair-behind, moved}
use Rattle.mpl_trees.proofs.Operators.{Follows, is_ahead-took}
use Rattle.mpl_trees.proofs.Ends.{bracket, ends-took}
use Rattle.mpl_trees.proofs.Targets.{NamedAhead, growing-target, moves-node, target-read}
use Rattle.mpl_trees.proofs.Levels.{IsExpression, takes-expression}
use Rattle.mpl_trees.specs.declared.position.Position.TheVariants.{Before, Behind}

-- what a place is assigned by comes behind it
pub record AssignAhead (x : Rest) : Type 0 where
  pub follows : Follows x
  pub no_name : is_ahead is_any_name x.tokens ≡ false

pub assign_ahead : {x y : Rest} → Took (kind.Mark m.Assign) x y → AssignAhead x
assign_ahead t = record {
  follows = record { parenthesis = is_ahead-took (is_mark m.OpenParenthesis) t; bracket = is_ahead-took (is_mark m.OpenBracket) t; dot = is_ahead-took (is_mark m.Dot) t };
  no_name = is_ahead-took is_any_name t;
}

-- a place that is assigned comes first, and neither a call nor a type
pub record PlaceAhead (r : Rest) : Type 0 where
  pub no_member : begins_call (ahead r.tokens) r.tokens ≡ false
  pub no_create : begins_create r.tokens ≡ false
  pub no_name : is_ahead is_any_name (second r.tokens) ≡ false

pub record IsPlace (p : Place) : Type 0 where
  pub inside : {r x : Rest} → Reading (place_text p) r x → Inside r x
  pub moves : {r x : Rest} → Reading (place_text p) r x → Moves Before r Behind x
  pub named : {r x : Rest} → Reading (place_text p) r x → NamedAhead r
  pub no_call : {r x : Rest} → Reading (place_text p) r x → Follows x → is_ahead (is_mark m.OpenParenthesis) (second r.tokens) ≡ false
  pub no_member : {r x : Rest} → Reading (place_text p) r x → Follows x → begins_call (ahead r.tokens) r.tokens ≡ false
  pub assigned : {r x : Rest} → Reading (place_text p) r x → AssignAhead x → PlaceAhead r
  pub grows : Growing 1 10 (place_text p)
  pub taken : {r x : Rest} → Reading (place_text p) r x → Follows x → (d : ℕ) → length r.tokens ≤ suc d → (limit : ℕ) → x.next ≤ limit → take_place (take_expression d) limit r ≡ Some (p, x)

growing-whole : (at : At) (t : Target) → Growing 1 10 (place_text (roll-Place (Place-F.Whole at t)))
growing-whole at t = growing-told (whole-text at t) (growing-node at 10 (omega arith) (growing-target t))

pub whole-is : (at : At) (t : Target) → IsPlace (roll-Place (Place-F.Whole at t))
whole-is at t = record {
  inside = λ h. inside-node (target-read t (noded at (target_text t) (told (whole-text at t) h)).read).inside;
  moves = λ h. moves-node (target-read t (noded at (target_text t) (told (whole-text at t) h)).read).moves;
  named = λ h. let n = (target-read t (noded at (target_text t) (told (whole-text at t) h)).read).named in record { text = n.text; is = n.is };
  no_call = λ h f. (target-read t (noded at (target_text t) (told (whole-text at t) h)).read).no_call f.parenthesis;
  no_member = λ h f. (target-read t (noded at (target_text t) (told (whole-text at t) h)).read).no_member f.parenthesis f.dot;
  assigned = λ h a.
      let n = target-read t (noded at (target_text t) (told (whole-text at t) h)).read in
      record { no_member = n.no_member a.follows.parenthesis a.follows.dot; no_create = n.no_create a.follows.dot; no_name = n.no_name a.no_name };
  grows = growing-whole at t;
  taken = λ {r = r} h f d k limit l.
      let n = noded at (target_text t) (told (whole-text at t) h) in
      let expression = take_expression d in
      takes-node limit (λ at (p : At → Place). p at) (continued take_target (behind_target expression)) n (rising (growing-whole at t) h) l
      (continues {B = At → Place} limit take_target (behind_target expression) (inside r) ((target-read t n.read).taken f.dot limit l) (if_false _ _ _ f.bracket));
}

pub element-is : (at : At) (line : ℕ) (t : Target) (e : Expression) → IsExpression e → IsPlace (roll-Place (Place-F.Element at line t e))
element-is at line t e i = record {
  inside = λ h. let u = read h in inside-node (inside-then (target-read t u.1).inside (inside-pair brackets (took_mark_on line m.OpenBracket u.2.1).took (i.inside u.2.2.1) (took_mark m.CloseBracket u.2.2.2)));
  moves = λ h. let u = read h in moves-node (moved (target-read t u.1).moves (pair-behind brackets (took_mark_on line m.OpenBracket u.2.1).took (i.inside u.2.2.1) (took_mark m.CloseBracket u.2.2.2)));
  named = λ h. let u = read h in let n = (target-read t u.1).named in record { text = n.text; is = n.is };
  no_call = λ h f. let u = read h in (target-read t u.1).no_call (is_ahead-took (is_mark m.OpenParenthesis) (took_mark_on line m.OpenBracket u.2.1).took);
  no_member = λ h f.
      let u = read h in
      let open_ = (took_mark_on line m.OpenBracket u.2.1).took in
      (target-read t u.1).no_member (is_ahead-took (is_mark m.OpenParenthesis) open_) (is_ahead-took (is_mark m.Dot) open_);
  assigned = λ h a.
      let u = read h in
      let open_ = (took_mark_on line m.OpenBracket u.2.1).took in
      let n = target-read t u.1 in
      record {
        no_member = n.no_member (is_ahead-took (is_mark m.OpenParenthesis) open_) (is_ahead-took (is_mark m.Dot) open_);
        no_create = n.no_create (is_ahead-took (is_mark m.Dot) open_);
        no_name = n.no_name (is_ahead-took is_any_name open_);
      };
  grows = grown;
  taken = λ h f d k limit l. taken_at h d k limit l;
} where
  texts : List Reads
  texts = target_text t ∷ mark_on line m.OpenBracket ∷ expression_text e ∷ mark m.CloseBracket ∷ []

  read : {r x : Rest} → Reading (place_text (roll-Place (Place-F.Element at line t e))) r x → Through texts (inside r) x
  read h = in_turn texts (noded at (chain texts) (told (element-text at line t e) h)).read

  grown : Growing 1 10 (place_text (roll-Place (Place-F.Element at line t e)))
  grown =
      growing-told (element-text at line t e) (growing-node at 10 (omega arith) (growing-then (growing-target t)
      (growing-then (growing-mark_on line m.OpenBracket) (growing-then i.grows (growing-mark m.CloseBracket)))))

  taken_at : {r x : Rest} → Reading (place_text (roll-Place (Place-F.Element at line t e))) r x → (d : ℕ) → length r.tokens ≤ suc d → (limit : ℕ) → x.next ≤ limit → take_place (take_expression d) limit r ≡ Some (roll-Place (Place-F.Element at line t e), x)
  taken_at {r = r} {x = x} h d k limit l =
      let n = noded at (chain texts) (told (element-text at line t e) h) in
      let u = in_turn texts n.read in
      let target = target-read t u.1 in
      let open_ = took_mark_on line m.OpenBracket u.2.1 in
      let expression = take_expression d in
      let tree : At → Place = λ at. roll-Place (Place-F.Element at line t e) in
      let close = took_mark m.CloseBracket u.2.2.2 in
      let index = takes-expression i u.2.2.1 (ends-took bracket close) d (omega (arith, k, fewer (growing-target t) u.1, fewer-took open_.took)) limit (omega (arith, l, close.next)) in
      let element : element_of expression t limit u.0 ≡ Some (tree, x) =
      makes {B = At → Place} limit (λ index at. roll-Place (Place-F.Element at (line_of u.0.tokens) t index)) (skip_then (mark m.OpenBracket) (then_skip expression (mark m.CloseBracket))) u.0
      (skips limit (mark m.OpenBracket) (then_skip expression (mark m.CloseBracket)) (mark_read line m.OpenBracket u.2.1) (skips_behind limit expression (mark m.CloseBracket) u.2.0 index u.2.2.2))
      ∙ ap (λ line. Some ((λ (at : At). roll-Place (Place-F.Element at line t e)), x)) open_.line_is in
      let behind : behind_target expression t limit u.0 ≡ Some (tree, x) = if_true (is_ahead (is_mark m.OpenBracket) u.0.tokens) _ _ (is_ahead-took (is_mark m.OpenBracket) open_.took) ∙ element in
      takes-node limit (λ at (p : At → Place). p at) (continued take_target (behind_target expression)) n (rising grown h) l
      (continues limit take_target (behind_target expression) (inside r) (target.taken (is_ahead-took (is_mark m.Dot) open_.took) limit (omega (arith, l, close.next, rising i.grows u.2.2.1, open_.took.next))) behind)
