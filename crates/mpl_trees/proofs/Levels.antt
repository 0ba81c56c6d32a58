-- What is shown of the trees of each level, from operands to expressions.
use Rattle.std.proofs.Common.{◌≡◌, ℕ, suc, ◌≤◌, false, [], ◌∷◌, length, Some, ◌∙◌, arith}
use Rattle.mpl_ast.specs.declared.expression.Expression.{Expression}
use Rattle.mpl_ast.specs.declared.expression.Unary.{Unary}
use Rattle.mpl_ast.specs.declared.place.At.{At}
use Rattle.mpl_ast.specs.declared.token.Mark.{Mark}
use Rattle.mpl_ast.specs.declared.token.Mark.TheVariants as m
use Rattle.mpl_mean.specs.FirstForms.ExpressionLevels.{unary_text}
use Rattle.mpl_mean.specs.Text.ExpressionText.{expression_text}
use Rattle.mpl_mean.specs.Text.Reading.{Reads, Rest, ◌>>◌, is_mark, mark_on, node}
use Rattle.mpl_mean.proofs.Readers.Parts.{Reading, in_turn, told}
use Rattle.mpl_trees.specs.Expressions.{begins_call, take_expression, take_unary}
use Rattle.mpl_trees.specs.Folds.{Folds, Grade, chained, expressions, next_conjunction, next_unary}
use Rattle.mpl_trees.specs.Taking.{ahead, inside, is_ahead}
use Rattle.mpl_trees.proofs.Took.{noded, took_mark_on}
use Rattle.mpl_trees.proofs.Growth.{Growing, fewer, growing-mark_on, growing-node, growing-then, growing-told, rising}
use Rattle.mpl_trees.proofs.Insides.{Inside, Moves, inside-mark, inside-node, inside-then}
use Rattle.mpl_trees.proofs.Operators.{Follows, IsOperator, facts, follows-operator, operator-counted, tally-higher}
use Rattle.mpl_trees.proofs.Chains.{Chain, ClosedAhead, Part, chain-more, chain-one, part-of, part-unary}
use Rattle.mpl_trees.proofs.Ends.{Ends, closed_ahead, expression-taken}
use Rattle.mpl_trees.specs.declared.position.Position.TheVariants.{Before, Behind}

-- What begins an operand comes first, and no mark that ends a list or a statement.
pub record OperandAhead (r : Rest) : Type 0 where
  pub no_close : is_ahead (is_mark m.CloseParenthesis) r.tokens ≡ false
  pub no_semicolon : is_ahead (is_mark m.Semicolon) r.tokens ≡ false

pub begins-node : {r : Rest} → OperandAhead (inside r) → OperandAhead r
begins-node b = record { no_close = b.no_close; no_semicolon = b.no_semicolon }

pub record IsUnary (u : Unary) : Type 0 where
  pub inside : {r x : Rest} → Reading (unary_text u) r x → Inside r x
  pub moves : {r x : Rest} → Reading (unary_text u) r x → Moves Before r Behind x
  pub begins : {r x : Rest} → Reading (unary_text u) r x → OperandAhead r
  pub no_member : {r x : Rest} → Reading (unary_text u) r x → Follows x → begins_call (ahead r.tokens) r.tokens ≡ false
  pub grows : Growing 1 8 (unary_text u)
  pub taken : {r x : Rest} → Reading (unary_text u) r x → Follows x → (d : ℕ) → length r.tokens ≤ d → (limit : ℕ) → x.next ≤ limit → take_unary d limit r ≡ Some (u, x)

-- a part of a level, with so many numbers to spare
pub record IsPart (level spare : ℕ) {C : Type 0} (take : Folds C) (text : C → Reads) (c : C) : Type 0 where
  pub inside : {r x : Rest} → Reading (text c) r x → Inside r x
  pub begins : {r x : Rest} → Reading (text c) r x → OperandAhead r
  pub no_member : {r x : Rest} → Reading (text c) r x → Follows x → begins_call (ahead r.tokens) r.tokens ≡ false
  pub grows : Growing 1 spare (text c)
  pub part : {r x : Rest} → Reading (text c) r x → Follows x → ClosedAhead level x → (limit : ℕ) → x.next ≤ limit → Part limit level take c r x

-- a tree of the level
pub record IsChain (level spare : ℕ) {C T O : Type 0} (g : Grade C T O) (part : Folds C) (text : T → Reads) (t : T) : Type 0 where
  pub inside : {r x : Rest} → Reading (text t) r x → Inside r x
  pub begins : {r x : Rest} → Reading (text t) r x → OperandAhead r
  pub no_member : {r x : Rest} → Reading (text t) r x → Follows x → begins_call (ahead r.tokens) r.tokens ≡ false
  pub grows : Growing 1 spare (text t)
  pub chain : {r x : Rest} → Reading (text t) r x → Follows x → ClosedAhead level x → (limit : ℕ) → x.next ≤ limit → Chain limit level g part t r x

pub unary-is : {u : Unary} → IsUnary u → IsPart 0 8 next_unary unary_text u
unary-is i = record {
  inside = λ h. i.inside h;
  begins = λ h. i.begins h;
  no_member = λ h f. i.no_member h f;
  grows = i.grows;
  part = λ h f c limit l. part-unary (λ d k. i.taken h f d k limit l) (omega (arith, rising i.grows h, l)) (fewer i.grows h) (i.moves h).same;
}

pub chain-is : {level spare : ℕ} {C T O : Type 0} {g : Grade C T O} {part : Folds C} {text : T → Reads} {t : T} → IsChain level spare g part text t → IsPart (suc level) spare (chained level g part) text t
chain-is {level = level} i = record {
  inside = λ h. i.inside h;
  begins = λ h. i.begins h;
  no_member = λ h f. i.no_member h f;
  grows = i.grows;
  part = λ h f c limit l. part-of (i.chain h f (record { none = λ k e. c.none k (omega (arith, e)) }) limit l) (c.none level (omega arith));
}

pub one-is : {level spare : ℕ} {C T O : Type 0} {part : Folds C} {below : C → Reads} (g : Grade C T O) (text : T → Reads) (at : At) {c : C} → text (g.one at c) ≡ node at (below c) → IsPart level (suc spare) part below c → IsChain level spare g part text (g.one at c)
one-is {spare = spare} {below = below} g text at {c = c} e i = record {
  inside = λ h. inside-node (i.inside (noded at (below c) (told e h)).read);
  begins = λ h. begins-node (i.begins (noded at (below c) (told e h)).read);
  no_member = λ h f. i.no_member (noded at (below c) (told e h)).read f;
  grows = growing-told e (growing-node at spare (omega arith) i.grows);
  chain = λ h f k limit l.
      let n = noded at (below c) (told e h) in
      chain-one g at n.place_is (i.part n.read f k limit l);
}

pub more-is : {level spare : ℕ} {C T O : Type 0} {part : Folds C} {below : C → Reads} (g : Grade C T O) (text : T → Reads) (at : At) (line : ℕ) (o : O) (mark : Mark) {l : T} {c : C} → IsOperator level mark → g.operator mark ≡ Some o
    → text (g.more at line l o c) ≡ node at (text l >> mark_on line mark >> below c) → IsChain level spare g part text l → IsPart level (suc spare) part below c → IsChain level spare g part text (g.more at line l o c)
more-is {level = level} {spare = spare} {below = below} g text at line o mark {l = l} {c = c} is found e i j = record {
  inside = λ h.
      let u = in_turn (text l ∷ mark_on line mark ∷ below c ∷ []) (noded at (text l >> mark_on line mark >> below c) (told e h)).read in
      inside-node (inside-then (i.inside u.1) (inside-then (inside-mark (facts is).plain (took_mark_on line mark u.2.1).took) (j.inside u.2.2)));
  begins = λ h.
      let u = in_turn (text l ∷ mark_on line mark ∷ below c ∷ []) (noded at (text l >> mark_on line mark >> below c) (told e h)).read in
      begins-node (i.begins u.1);
  no_member = λ h f.
      let u = in_turn (text l ∷ mark_on line mark ∷ below c ∷ []) (noded at (text l >> mark_on line mark >> below c) (told e h)).read in
      i.no_member u.1 (follows-operator is (took_mark_on line mark u.2.1).took);
  grows = growing-told e (growing-node at spare (omega arith) (growing-then i.grows (growing-then (growing-mark_on line mark) j.grows)));
  chain = λ h f k limit b.
      let n = noded at (text l >> mark_on line mark >> below c) (told e h) in
      let u = in_turn (text l ∷ mark_on line mark ∷ below c ∷ []) n.read in
      let t = took_mark_on line mark u.2.1 in
      let closed : ClosedAhead level u.0 = record { none = λ a b. operator-counted a is t.took ∙ tally-higher a level _ b } in
      chain-more g at line o mark is found n.place_is (i.chain u.1 (follows-operator is t.took) closed limit (omega (arith, b, t.took.next, rising j.grows u.2.2))) t (j.part u.2.2 f k limit b);
}

-- ---- whole expressions

abbrev pub IsExpression : Expression → Type 0
IsExpression = IsChain 5 2 expressions next_conjunction expression_text

pub takes-expression : {e : Expression} → IsExpression e → {r x : Rest} → Reading (expression_text e) r x → Ends x → (d : ℕ) → length r.tokens ≤ d → (limit : ℕ) → x.next ≤ limit → take_expression d limit r ≡ Some (e, x)
takes-expression i h e d k limit l = expression-taken d (part-of (i.chain h e.follows (closed_ahead 5 e) limit l) (e.over 5)) e k
