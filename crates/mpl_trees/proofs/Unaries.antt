-- Operands with operators of their own are taken.
use Rattle.std.proofs.Common.{◌≡◌, ℕ, zero, suc, ◌≤◌, List, [], ◌∷◌, length, false, Some, refl, ap, ◌∙◌, arith}
use Rattle.mpl_ast.specs.declared.expression.Primary.{Primary}
use Rattle.mpl_ast.specs.declared.expression.Unary.{Unary, roll-Unary}
use Rattle.mpl_ast.specs.declared.expression.UnaryOperator.{UnaryOperator}
use Rattle.mpl_ast.specs.declared.expression.UnaryOperator.TheVariants as unary
use Rattle.mpl_ast.specs.declared.expression.Conjunction.TheOpen.{Unary-F}
use Rattle.mpl_ast.specs.declared.place.At.{At}
use Rattle.mpl_ast.specs.declared.token.Mark.TheVariants as m
use Rattle.mpl_ast.specs.declared.token.TokenKind.TheVariants as kind
use Rattle.mpl_mean.specs.FirstForms.ExpressionLevels.{primary_text, unary_text}
use Rattle.mpl_mean.specs.Text.ExpressionText.{unary_mark}
use Rattle.mpl_mean.specs.Text.Reading.{Reads, Rest, is_mark, mark, mark_on, node}
use Rattle.mpl_mean.proofs.Readers.Parts.{Reading, Through, chain, in_turn, told}
use Rattle.mpl_trees.specs.Ahead.{counted}
use Rattle.mpl_trees.specs.Expressions.{begins_call, expression_of, take_apply, take_primary, take_unary, unary_at}
use Rattle.mpl_trees.specs.Taking.{Takes, inside, line_of, skip_then}
use Rattle.mpl_trees.proofs.FormTexts.{apply-text, one_primary-text}
use Rattle.mpl_trees.proofs.Steps.{skips}
use Rattle.mpl_trees.proofs.Took.{ahead-took, fewer-took, mark_read, node-first, noded, takes-node, took_mark_on}
use Rattle.mpl_trees.proofs.Growth.{Growing, growing-mark_on, growing-node, growing-then, growing-told, rising}
use Rattle.mpl_trees.proofs.Insides.{Moves, Plain, bang, counts, inside-mark, inside-node, inside-then, minus, moved}
use Rattle.mpl_trees.proofs.Operators.{Follows, is_ahead-took}
use Rattle.mpl_trees.proofs.Targets.{moves-node}
use Rattle.mpl_trees.proofs.Levels.{IsUnary, begins-node}
use Rattle.mpl_trees.proofs.Primaries.{IsPrimary}
use Rattle.mpl_trees.specs.declared.position.Position.{Position}
use Rattle.mpl_trees.specs.declared.position.Position.TheVariants.{Before}

-- a node has a token, so that some depth is left
pub not_empty : (at : At) (parts : Reads) {r x : Rest} → Reading (node at parts) r x → length r.tokens ≤ 0 → ⊥
not_empty at parts h k = let f = node-first at parts h in omega (arith, k, ap length f.2)

pub one_primary-is : (at : At) (p : Primary) → IsPrimary p → IsUnary (roll-Unary (Unary-F.OnePrimary at p))
one_primary-is at p i = record {
  inside = λ h. inside-node (i.inside (noded at (primary_text p) (told (one_primary-text at p) h)).read);
  moves = λ h. moves-node (i.moves (noded at (primary_text p) (told (one_primary-text at p) h)).read);
  begins = λ h. begins-node (i.begins (noded at (primary_text p) (told (one_primary-text at p) h)).read).begins;
  no_member = λ h f. i.no_member (noded at (primary_text p) (told (one_primary-text at p) h)).read f;
  grows = grown;
  taken = λ h f d k limit l. taken_at h f d k limit l;
} where
  grown : Growing 1 8 (unary_text (roll-Unary (Unary-F.OnePrimary at p)))
  grown = growing-told (one_primary-text at p) (growing-node at 8 (omega arith) i.grows)

  taken_at : {r x : Rest} → Reading (unary_text (roll-Unary (Unary-F.OnePrimary at p))) r x → Follows x → (d : ℕ) → length r.tokens ≤ d → (limit : ℕ) → x.next ≤ limit → take_unary d limit r ≡ Some (roll-Unary (Unary-F.OnePrimary at p), x)
  taken_at h f zero k limit l = absurd (not_empty at (primary_text p) (told (one_primary-text at p) h) k)
  taken_at {r = r} h f (suc d) k limit l =
      let n = noded at (primary_text p) (told (one_primary-text at p) h) in
      (i.begins n.read).plain (take_unary d) limit r
      ∙ takes-node limit (λ at (p : Primary). roll-Unary (Unary-F.OnePrimary at p)) (take_primary (expression_of (take_unary d))) n (rising grown h) l (i.taken n.read f d k limit l)

plain_mark : (o : UnaryOperator) → Plain (unary_mark o)
plain_mark unary.Negative = minus
plain_mark unary.Not = bang

before_mark : (o : UnaryOperator) (level : ℕ) (go : Position → ℕ) → counted level (kind.Mark (unary_mark o)) Before go ≡ go Before
before_mark unary.Negative level go = refl
before_mark unary.Not level go = refl

no_close : (o : UnaryOperator) → is_mark m.CloseParenthesis (kind.Mark (unary_mark o)) ≡ false
no_close unary.Negative = refl
no_close unary.Not = refl

no_semicolon : (o : UnaryOperator) → is_mark m.Semicolon (kind.Mark (unary_mark o)) ≡ false
no_semicolon unary.Negative = refl
no_semicolon unary.Not = refl

applies : (limit : ℕ) (o : UnaryOperator) (operand : Takes Unary) (r : Rest) → unary_at operand (Some (kind.Mark (unary_mark o))) limit r ≡ take_apply o operand limit r
applies limit unary.Negative operand r = refl
applies limit unary.Not operand r = refl

pub apply-is : (at : At) (line : ℕ) (o : UnaryOperator) (u : Unary) → IsUnary u → IsUnary (roll-Unary (Unary-F.Apply at line o u))
apply-is at line o u i = record {
  inside = λ h. let t = read h in inside-node (inside-then (inside-mark (plain_mark o) (took_mark_on line (unary_mark o) t.1).took) (i.inside t.2));
  moves = λ h.
      let t = read h in
      let step : Moves Before _ Before t.0 = record { same = λ level. counts Before level (took_mark_on line (unary_mark o) t.1).took ∙ before_mark o level _ } in
      moves-node (moved step (i.moves t.2));
  begins = λ h.
      let t = (took_mark_on line (unary_mark o) (read h).1).took in
      record { no_close = is_ahead-took (is_mark m.CloseParenthesis) t ∙ no_close o; no_semicolon = is_ahead-took (is_mark m.Semicolon) t ∙ no_semicolon o };
  no_member = λ {r = r} h f. ap (λ k. begins_call k r.tokens) (ahead-took (took_mark_on line (unary_mark o) (read h).1).took);
  grows = grown;
  taken = λ h f d k limit l. taken_at h f d k limit l;
} where
  texts : List Reads
  texts = mark_on line (unary_mark o) ∷ unary_text u ∷ []

  read : {r x : Rest} → Reading (unary_text (roll-Unary (Unary-F.Apply at line o u))) r x → Through texts (inside r) x
  read h = in_turn texts (noded at (chain texts) (told (apply-text at line o u) h)).read

  grown : Growing 1 8 (unary_text (roll-Unary (Unary-F.Apply at line o u)))
  grown = growing-told (apply-text at line o u) (growing-node at 8 (omega arith) (growing-then (growing-mark_on line (unary_mark o)) i.grows))

  taken_at : {r x : Rest} → Reading (unary_text (roll-Unary (Unary-F.Apply at line o u))) r x → Follows x → (d : ℕ) → length r.tokens ≤ d → (limit : ℕ) → x.next ≤ limit → take_unary d limit r ≡ Some (roll-Unary (Unary-F.Apply at line o u), x)
  taken_at h f zero k limit l = absurd (not_empty at (chain texts) (told (apply-text at line o u) h) k)
  taken_at {r = r} {x = x} h f (suc d) k limit l =
      let n = noded at (chain texts) (told (apply-text at line o u) h) in
      let t = in_turn texts n.read in
      let s = took_mark_on line (unary_mark o) t.1 in
      let operand = i.taken t.2 f d (omega (arith, k, fewer-took s.took)) limit l in
      ap (λ k. unary_at (take_unary d) k limit r) (ahead-took s.took) ∙ applies limit o (take_unary d) r
      ∙ takes-node limit (λ at (u : Unary). roll-Unary (Unary-F.Apply at (line_of r.tokens) o u)) (skip_then (mark (unary_mark o)) (take_unary d)) n (rising grown h) l
      (skips limit (mark (unary_mark o)) (take_unary d) (mark_read line (unary_mark o) t.1) operand)
      ∙ ap (λ line. Some (roll-Unary (Unary-F.Apply at line o u), x)) s.line_is
