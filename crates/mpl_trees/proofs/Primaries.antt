-- Operands are taken.
use Rattle.std.proofs.Common.{◌≡◌, ℕ, ℤ, suc, ◌≤◌, List, [], ◌∷◌, map, length, Bool, true, false, ◌&&◌, ◌||◌, Some, refl, ap, ◌∙◌, arith}
use Rattle.std.specs.List.{AllByRecursion}
use Rattle.mpl_ast.specs.declared.expression.Expression.{Expression}
use Rattle.mpl_ast.specs.declared.expression.Place.{Place}
use Rattle.mpl_ast.specs.declared.expression.Primary.{Primary, roll-Primary}
use Rattle.mpl_ast.specs.declared.expression.Unary.{Unary, roll-Unary}
use Rattle.mpl_ast.specs.declared.expression.Conjunction.TheOpen.{Primary-F, Unary-F}
use Rattle.mpl_ast.specs.declared.place.At.{At}
use Rattle.mpl_ast.specs.declared.place.Name.{Name}
use Rattle.mpl_ast.specs.declared.place.Number.{Number}
use Rattle.mpl_ast.specs.declared.token.Keyword.{Keyword}
use Rattle.mpl_ast.specs.declared.token.Keyword.TheVariants as word
use Rattle.mpl_ast.specs.declared.token.Mark.TheVariants as m
use Rattle.mpl_ast.specs.declared.token.Token.{Token}
use Rattle.mpl_ast.specs.declared.token.TokenKind.{TokenKind}
use Rattle.mpl_ast.specs.declared.token.TokenKind.TheVariants as kind
use Rattle.mpl_mean.specs.FirstForms.ExpressionLevels.{primary_text}
use Rattle.mpl_mean.specs.Text.ExpressionText.{expression_text, place_text}
use Rattle.mpl_mean.specs.Text.Reading.{Reads, Rest, is_mark, is_number, keyword, mark, name, node, separated_if_any, token}
use Rattle.mpl_mean.proofs.Readers.Parts.{Reading, Through, chain, in_turn, told}
use Rattle.mpl_trees.specs.Expressions.{begins_call, expression_of, past_field, primary_at, second, take_expression, take_place, take_primary, unary_at}
use Rattle.mpl_trees.specs.Taking.{Takes, ahead, alone, both, inside, is_ahead, list_of, node_of, skip_then, take_name, take_number, then_skip}
use Rattle.mpl_trees.proofs.FormTexts.{call-text, false-text, input-text, number-text, own-text, parenthesized-text, read-text, true-text}
use Rattle.mpl_trees.proofs.Steps.{alone_is, if_false, if_true, joins, skips, skips_behind}
use Rattle.mpl_trees.proofs.Took.{Took, ahead-took, fewer-took, noded, takes-name, takes-node, takes-value, took_keyword, took_mark, took_name, took_value}
use Rattle.mpl_trees.proofs.Growth.{Growing, growing-keyword, growing-less, growing-list, growing-mark, growing-name, growing-node, growing-then, growing-told, growing-value, rising}
use Rattle.mpl_trees.proofs.Insides.{Each, more, none, Inside, IsInside, Moves, inside-list, inside-name, inside-node, inside-pair, inside-then, inside-token, inside-nothing, pair-before, pair-behind, parentheses, moved, word-before}
use Rattle.mpl_trees.proofs.Operators.{Follows, is_ahead-took}
use Rattle.mpl_trees.proofs.Ends.{ends-took, parenthesis}
use Rattle.mpl_trees.proofs.Lists.{Begins, Taken, list-taken}
use Rattle.mpl_trees.proofs.Targets.{moves-node, second-took}
use Rattle.mpl_trees.proofs.Levels.{IsExpression, OperandAhead, takes-expression}
use Rattle.mpl_trees.proofs.Places.{IsPlace}
use Rattle.mpl_trees.specs.declared.position.Position.TheVariants.{Before, Behind}

-- an operand with no operator before it comes first
pub record PrimaryAhead (r : Rest) : Type 0 where
  pub begins : OperandAhead r
  pub plain : (operand : Takes Unary) (limit : ℕ) (q : Rest) → unary_at operand (ahead r.tokens) limit q ≡ node_of (λ at (p : Primary). roll-Unary (Unary-F.OnePrimary at p)) (take_primary (expression_of operand)) limit q

pub record IsPrimary (p : Primary) : Type 0 where
  pub inside : {r x : Rest} → Reading (primary_text p) r x → Inside r x
  pub moves : {r x : Rest} → Reading (primary_text p) r x → Moves Before r Behind x
  pub begins : {r x : Rest} → Reading (primary_text p) r x → PrimaryAhead r
  pub no_member : {r x : Rest} → Reading (primary_text p) r x → Follows x → begins_call (ahead r.tokens) r.tokens ≡ false
  pub grows : Growing 1 9 (primary_text p)
  pub taken : {r x : Rest} → Reading (primary_text p) r x → Follows x → (d : ℕ) → length r.tokens ≤ suc d → (limit : ℕ) → x.next ≤ limit → take_primary (take_expression d) limit r ≡ Some (p, x)

-- ---- the first token

pub is_ahead-ahead : (test : TokenKind → Bool) (ts : List Token) (k : TokenKind) → ahead ts ≡ Some k → is_ahead test ts ≡ test k
is_ahead-ahead test [] k e = absurd cc
is_ahead-ahead test (t ∷ ts) k e = let same : t.kind ≡ k = cc in ap test same

begins_with : {k : TokenKind} (r : Rest) → ahead r.tokens ≡ Some k → is_mark m.CloseParenthesis k ≡ false → is_mark m.Semicolon k ≡ false
    → ((operand : Takes Unary) (limit : ℕ) (q : Rest) → unary_at operand (Some k) limit q ≡ node_of (λ at (p : Primary). roll-Unary (Unary-F.OnePrimary at p)) (take_primary (expression_of operand)) limit q) → PrimaryAhead r
begins_with {k = k} r e c s plain = record {
  begins = record { no_close = is_ahead-ahead (is_mark m.CloseParenthesis) r.tokens k e ∙ c; no_semicolon = is_ahead-ahead (is_mark m.Semicolon) r.tokens k e ∙ s };
  plain = λ operand limit q. ap (λ k. unary_at operand k limit q) e ∙ plain operand limit q;
}

-- ---- one token

pub number-is : (at : At) (value : ℤ) → IsPrimary (roll-Primary (Primary-F.Number at value))
number-is at value = record {
  inside = λ h. inside-node (inside-token (λ n level go. refl) (took h));
  moves = λ h. moves-node (word-before (λ level go. refl) (took h));
  begins = λ {r = r} h. begins_with r (ahead-took (took h)) refl refl (λ operand limit q. refl);
  no_member = λ {r = r} h f. ap (λ k. begins_call k r.tokens) (ahead-took (took h));
  grows = grown;
  taken = λ {r = r} h f d k limit l.
      ap (λ k. primary_at (take_expression d) k limit r) (ahead-took (took h))
      ∙ takes-node limit (λ at (n : Number). roll-Primary (Primary-F.Number at n.value)) take_number (noded at (token (λ t. is_number value t.kind)) (told (number-text at value) h)) (rising grown h) l (takes-value limit value (took h));
} where
  grown : Growing 1 9 (primary_text (roll-Primary (Primary-F.Number at value)))
  grown = growing-told (number-text at value) (growing-node at 9 (omega arith) (growing-value value))

  took : {r x : Rest} → Reading (primary_text (roll-Primary (Primary-F.Number at value))) r x → Took (kind.Number value) (inside r) x
  took h = took_value value (noded at (token (λ t. is_number value t.kind)) (told (number-text at value) h)).read

-- a word that is an operand
pub record IsWord (w : Keyword) (make : At → Primary) : Type 0 where
  pub text : (at : At) → primary_text (make at) ≡ node at (keyword w)
  pub plain : (operand : Takes Unary) (limit : ℕ) (q : Rest) → unary_at operand (Some (kind.Keyword w)) limit q ≡ node_of (λ at (p : Primary). roll-Unary (Unary-F.OnePrimary at p)) (take_primary (expression_of operand)) limit q
  pub no_member : (r x : Rest) → Took (kind.Keyword w) (inside r) x → Follows x → begins_call (Some (kind.Keyword w)) r.tokens ≡ false
  pub takes : (expression : Takes Expression) (limit : ℕ) (r : Rest) → primary_at expression (Some (kind.Keyword w)) limit r ≡ node_of (λ at (n : Bool). make at) (alone true (keyword w)) limit r

pub word-is : (w : Keyword) (make : At → Primary) → IsWord w make → (at : At) → IsPrimary (make at)
word-is w make i at = record {
  inside = λ h. inside-node (inside-token (λ n level go. refl) (took h));
  moves = λ h. moves-node (word-before (λ level go. refl) (took h));
  begins = λ {r = r} h. begins_with r (ahead-took (took h)) refl refl i.plain;
  no_member = λ {r = r} {x = x} h f. ap (λ k. begins_call k r.tokens) (ahead-took (took h)) ∙ i.no_member r x (took h) f;
  grows = grown;
  taken = λ {r = r} h f d k limit l.
      let n = noded at (keyword w) (told (i.text at) h) in
      ap (λ k. primary_at (take_expression d) k limit r) (ahead-took (took h)) ∙ i.takes (take_expression d) limit r ∙ takes-node limit (λ at (n : Bool). make at) (alone true (keyword w)) n (rising grown h) l (alone_is limit true (keyword w) n.read);
} where
  grown : Growing 1 9 (primary_text (make at))
  grown = growing-told (i.text at) (growing-node at 9 (omega arith) (growing-keyword w))

  took : {r x : Rest} → Reading (primary_text (make at)) r x → Took (kind.Keyword w) (inside r) x
  took h = took_keyword w (noded at (keyword w) (told (i.text at) h)).read

pub true-is : (at : At) → IsPrimary (roll-Primary (Primary-F.True at))
true-is = word-is word.True (λ at. roll-Primary (Primary-F.True at)) (record { text = true-text; no_member = λ r x t f. refl; plain = λ operand limit q. refl; takes = λ expression limit r. refl })

pub false-is : (at : At) → IsPrimary (roll-Primary (Primary-F.False at))
false-is = word-is word.False (λ at. roll-Primary (Primary-F.False at)) (record { text = false-text; no_member = λ r x t f. refl; plain = λ operand limit q. refl; takes = λ expression limit r. refl })

pub own-is : (at : At) → IsPrimary (roll-Primary (Primary-F.Own at))
own-is = word-is word.Own (λ at. roll-Primary (Primary-F.Own at)) (record { text = own-text; no_member = λ r x t f. ap (is_ahead (is_mark m.Dot)) (second-took t) ∙ f.dot; plain = λ operand limit q. refl; takes = λ expression limit r. refl })

-- ---- `input ( )` and parentheses

pub input-is : (at : At) → IsPrimary (roll-Primary (Primary-F.Input at))
input-is at = record {
  inside = λ h.
      let u = read h in
      inside-node (inside-then (inside-token (λ n level go. refl) (took_keyword word.Input u.1)) (inside-pair parentheses (took_mark m.OpenParenthesis u.2.1) (inside-nothing _) (took_mark m.CloseParenthesis u.2.2)));
  moves = λ h.
      let u = read h in
      moves-node (moved (word-before (λ level go. refl) (took_keyword word.Input u.1)) (pair-behind parentheses (took_mark m.OpenParenthesis u.2.1) (inside-nothing _) (took_mark m.CloseParenthesis u.2.2)));
  begins = λ {r = r} h. let u = read h in begins_with r (ahead-took (took_keyword word.Input u.1)) refl refl (λ operand limit q. refl);
  no_member = λ {r = r} h f. let u = read h in ap (λ k. begins_call k r.tokens) (ahead-took (took_keyword word.Input u.1));
  grows = grown;
  taken = λ {r = r} h f d k limit l.
      let n = noded at (chain texts) (told (input-text at) h) in
      let u = read h in
      ap (λ k. primary_at (take_expression d) k limit r) (ahead-took (took_keyword word.Input u.1))
      ∙ takes-node limit (λ at (n : Bool). roll-Primary (Primary-F.Input at)) (alone true (chain texts)) n (rising grown h) l (alone_is limit true (chain texts) n.read);
} where
  texts : List Reads
  texts = keyword word.Input ∷ mark m.OpenParenthesis ∷ mark m.CloseParenthesis ∷ []

  grown : Growing 1 9 (primary_text (roll-Primary (Primary-F.Input at)))
  grown = growing-told (input-text at) (growing-node at 9 (omega arith) (growing-then (growing-keyword word.Input) (growing-then (growing-mark m.OpenParenthesis) (growing-mark m.CloseParenthesis))))

  read : {r x : Rest} → Reading (primary_text (roll-Primary (Primary-F.Input at))) r x → Through texts (inside r) x
  read h = in_turn texts (noded at (chain texts) (told (input-text at) h)).read

pub parenthesized-is : (at : At) (e : Expression) → IsExpression e → IsPrimary (roll-Primary (Primary-F.Parenthesized at e))
parenthesized-is at e i = record {
  inside = λ h. let u = read h in inside-node (inside-pair parentheses (took_mark m.OpenParenthesis u.1) (i.inside u.2.1) (took_mark m.CloseParenthesis u.2.2));
  moves = λ h. let u = read h in moves-node (pair-before parentheses (took_mark m.OpenParenthesis u.1) (i.inside u.2.1) (took_mark m.CloseParenthesis u.2.2));
  begins = λ {r = r} h. let u = read h in begins_with r (ahead-took (took_mark m.OpenParenthesis u.1)) refl refl (λ operand limit q. refl);
  no_member = λ {r = r} h f. let u = read h in ap (λ k. begins_call k r.tokens) (ahead-took (took_mark m.OpenParenthesis u.1));
  grows = grown;
  taken = λ {r = r} h f d k limit l.
      let n = noded at (chain texts) (told (parenthesized-text at e) h) in
      let u = read h in
      let t = took_mark m.OpenParenthesis u.1 in
      let close = took_mark m.CloseParenthesis u.2.2 in
      let inner = takes-expression i u.2.1 (ends-took parenthesis close) d (omega (arith, k, fewer-took t)) limit (omega (arith, l, close.next)) in
      ap (λ k. primary_at (take_expression d) k limit r) (ahead-took t)
      ∙ takes-node limit (λ at (e : Expression). roll-Primary (Primary-F.Parenthesized at e)) (skip_then (mark m.OpenParenthesis) (then_skip (take_expression d) (mark m.CloseParenthesis))) n (rising grown h) l
      (skips limit (mark m.OpenParenthesis) (then_skip (take_expression d) (mark m.CloseParenthesis)) u.1 (skips_behind limit (take_expression d) (mark m.CloseParenthesis) u.0 inner u.2.2));
} where
  texts : List Reads
  texts = mark m.OpenParenthesis ∷ expression_text e ∷ mark m.CloseParenthesis ∷ []

  grown : Growing 1 9 (primary_text (roll-Primary (Primary-F.Parenthesized at e)))
  grown = growing-told (parenthesized-text at e) (growing-node at 9 (omega arith) (growing-then (growing-mark m.OpenParenthesis) (growing-then i.grows (growing-mark m.CloseParenthesis))))

  read : {r x : Rest} → Reading (primary_text (roll-Primary (Primary-F.Parenthesized at e))) r x → Through texts (inside r) x
  read h = in_turn texts (noded at (chain texts) (told (parenthesized-text at e) h)).read

-- ---- names

pub read-is : (at : At) (p : Place) → IsPlace p → IsPrimary (roll-Primary (Primary-F.Read at p))
read-is at p i = record {
  inside = λ h. inside-node (i.inside (noded at (place_text p) (told (read-text at p) h)).read);
  moves = λ h. moves-node (i.moves (noded at (place_text p) (told (read-text at p) h)).read);
  begins = λ {r = r} h. let n = i.named (noded at (place_text p) (told (read-text at p) h)).read in begins_with r n.is refl refl (λ operand limit q. refl);
  no_member = λ h f. i.no_member (noded at (place_text p) (told (read-text at p) h)).read f;
  grows = grown;
  taken = λ {r = r} h f d k limit l.
      let n = noded at (place_text p) (told (read-text at p) h) in
      ap (λ k. primary_at (take_expression d) k limit r) (i.named n.read).is
      ∙ if_false (is_ahead (is_mark m.OpenParenthesis) (second r.tokens)) _ _ (i.no_call n.read f)
      ∙ takes-node limit (λ at (p : Place). roll-Primary (Primary-F.Read at p)) (take_place (take_expression d)) n (rising grown h) l (i.taken n.read f d k limit l);
} where
  grown : Growing 1 9 (primary_text (roll-Primary (Primary-F.Read at p)))
  grown = growing-told (read-text at p) (growing-node at 9 (omega arith) i.grows)

each_inside : (es : List Expression) → AllByRecursion IsExpression es → Each IsInside (map expression_text es)
each_inside [] all = none
each_inside (e ∷ es) all = more (record { holds = λ h. all.0.inside h }) (each_inside es all.1)

each_taken : (d limit : ℕ) (es : List Expression) → AllByRecursion IsExpression es → AllByRecursion (Taken expression_text (take_expression d) d limit) es
each_taken d limit [] all = tt
each_taken d limit (e ∷ es) all = (record { takes = λ h f k l. takes-expression all.0 h f d k limit l; grows = growing-less 0 (omega arith) all.0.grows }, each_taken d limit es all.1)

each_grows : (es : List Expression) → AllByRecursion IsExpression es → AllByRecursion (λ e. Growing 1 2 (expression_text e)) es
each_grows [] all = tt
each_grows (e ∷ es) all = (all.0.grows, each_grows es all.1)

each_begins : (es : List Expression) → AllByRecursion IsExpression es → AllByRecursion (Begins expression_text) es
each_begins [] all = tt
each_begins (e ∷ es) all = (record { no_close = λ h. (all.0.begins h).no_close }, each_begins es all.1)

pub call-is : (at : At) (f : Name) (es : List Expression) → AllByRecursion IsExpression es → IsPrimary (roll-Primary (Primary-F.CallPlain at f es))
call-is at f es all = record {
  inside = λ h. let u = read h in inside-node (inside-then (inside-name f u.1) (inside-pair parentheses (took_mark m.OpenParenthesis u.2.1) (inside-list (each_inside es all) u.2.2.1) (took_mark m.CloseParenthesis u.2.2.2)));
  moves = λ h.
      let u = read h in
      moves-node (moved (word-before (λ level go. refl) (took_name f u.1).took) (pair-behind parentheses (took_mark m.OpenParenthesis u.2.1) (inside-list (each_inside es all) u.2.2.1) (took_mark m.CloseParenthesis u.2.2.2)));
  begins = λ {r = r} h. let u = read h in begins_with r (ahead-took (took_name f u.1).took) refl refl (λ operand limit q. refl);
  no_member = λ {r = r} h g.
      let u = read h in
      let t = (took_name f u.1).took in
      let dot = ap (is_ahead (is_mark m.Dot)) (second-took t) ∙ is_ahead-took (is_mark m.Dot) (took_mark m.OpenParenthesis u.2.1) in
      ap (λ k. begins_call k r.tokens) (ahead-took t) ∙ ap (λ (b : Bool). b && (is_ahead (is_mark m.OpenParenthesis) (past_field r.tokens) || is_ahead (is_mark m.Dot) (past_field r.tokens))) dot;
  grows = grown;
  taken = λ h g d k limit l. taken_at h d k limit l;
} where
  texts : List Reads
  texts = name f ∷ mark m.OpenParenthesis ∷ separated_if_any (map expression_text es) ∷ mark m.CloseParenthesis ∷ []

  read : {r x : Rest} → Reading (primary_text (roll-Primary (Primary-F.CallPlain at f es))) r x → Through texts (inside r) x
  read h = in_turn texts (noded at (chain texts) (told (call-text at f es) h)).read

  grown : Growing 1 9 (primary_text (roll-Primary (Primary-F.CallPlain at f es)))
  grown =
      growing-told (call-text at f es) (growing-node at 9 (omega arith) (growing-then (growing-name f)
      (growing-then (growing-mark m.OpenParenthesis) (growing-then (growing-list 1 2 expression_text es (each_grows es all)) (growing-mark m.CloseParenthesis)))))

  taken_at : {r x : Rest} → Reading (primary_text (roll-Primary (Primary-F.CallPlain at f es))) r x → (d : ℕ) → length r.tokens ≤ suc d → (limit : ℕ) → x.next ≤ limit → take_primary (take_expression d) limit r ≡ Some (roll-Primary (Primary-F.CallPlain at f es), x)
  taken_at {r = r} h d k limit l =
      let n = noded at (chain texts) (told (call-text at f es) h) in
      let u = in_turn texts n.read in
      let t = (took_name f u.1).took in
      let s = took_mark m.OpenParenthesis u.2.1 in
      let close = took_mark m.CloseParenthesis u.2.2.2 in
      let arguments = list-taken expression_text (take_expression d) d limit es (each_taken d limit es all) (each_begins es all) u.2.2.1 close (omega (arith, k, fewer-took t, fewer-took s)) (omega (arith, l, close.next)) in
      let list = then_skip (list_of (take_expression d)) (mark m.CloseParenthesis) in
      ap (λ k. primary_at (take_expression d) k limit r) (ahead-took t)
      ∙ if_true (is_ahead (is_mark m.OpenParenthesis) (second r.tokens)) _ _ (ap (is_ahead (is_mark m.OpenParenthesis)) (second-took t) ∙ is_ahead-took (is_mark m.OpenParenthesis) s)
      ∙ takes-node limit (λ at (p : Name × List Expression). roll-Primary (Primary-F.CallPlain at p.0 p.1)) (both (λ function arguments. (function, arguments)) take_name (skip_then (mark m.OpenParenthesis) list)) n (rising grown h) l
      (joins limit (λ function arguments. (function, arguments)) take_name (skip_then (mark m.OpenParenthesis) list) (inside r) (takes-name limit f u.1)
      (skips limit (mark m.OpenParenthesis) list u.2.1 (skips_behind limit (list_of (take_expression d)) (mark m.CloseParenthesis) u.2.0 arguments u.2.2.2)))
