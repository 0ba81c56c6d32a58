-- Trees of operands, flows and assignments, from their tokens.
use Rattle.std.proofs.Common.{◌≡◌, ◌+◌, Bool, true, false, ◌||◌, List, ◌∷◌, refl, sym, ◌⊎◌, inl, inr}
use Rattle.mpl_ast.specs.declared.expression.Place.{roll-Place}
use Rattle.mpl_ast.specs.declared.expression.Primary.{roll-Primary}
use Rattle.mpl_ast.specs.declared.expression.Unary.{roll-Unary}
use Rattle.mpl_ast.specs.declared.expression.Conjunction.TheOpen.{Place-F, Primary-F, Unary-F}
use Rattle.mpl_ast.specs.declared.expression.Target.TheVariants as target
use Rattle.mpl_ast.specs.declared.expression.UnaryOperator.{UnaryOperator}
use Rattle.mpl_ast.specs.declared.expression.UnaryOperator.TheVariants as unary
use Rattle.mpl_ast.specs.declared.flow.Call.{fold-roll-Call, roll-Call}
use Rattle.mpl_ast.specs.declared.flow.Flow.{fold-roll-Flow, roll-Flow}
use Rattle.mpl_ast.specs.declared.flow.Call.TheOpen.{Call-F, Flow-F}
use Rattle.mpl_ast.specs.declared.token.Keyword.TheVariants as word
use Rattle.mpl_ast.specs.declared.token.Mark.TheVariants as m
use Rattle.mpl_ast.specs.declared.token.Token.{Token}
use Rattle.mpl_ast.specs.declared.token.TokenKind.{TokenKind}
use Rattle.mpl_mean.specs.FirstForms.ExpressionLevels.{primary_text, unary_text}
use Rattle.mpl_mean.specs.Text.ExpressionText.{expression_text, place_text, target_text, unary_mark}
use Rattle.mpl_mean.specs.Text.Reading.{Reads, is_keyword, is_mark}
use Rattle.mpl_mean.specs.Text.StatementText as statement
use Rattle.mpl_mean.specs.Text.StatementText.{assignment_text, call_text, flow_text}
use Rattle.mpl_mean.proofs.Readers.Parts.{told}
use Rattle.mpl_grammar.specs.Internal.Kinds.{is_any_name, is_any_number, is_constant, is_unary}
use Rattle.mpl_grammar.proofs.Chains.{Pieces, makes-chain}
use Rattle.mpl_grammar.proofs.Makes.{Makes, ◌▸◌, all_separated_if_any, named, past, place_of, reads-keyword, reads-mark, reads-mark_on, reads-name, reads-node, reads-value, rest_at, value_of}
use Rattle.mpl_grammar.proofs.Parts.{Around, Brackets, Operands, around, brackets, operands}
use Rattle.mpl_mean.proofs.ExpressionInduction.{unary_rolls, place_rolls, primary_rolls}
use Rattle.mpl_mean.specs.Text.ExpressionText.{text_of_forms}

-- ---- targets and places

pub makes-variable : (t : Token) (ts : List Token) → is_any_name t.kind ≡ true → Makes target_text (t ∷ ts) ts
makes-variable t ts h = record {
  make = λ l n. record { tree = target.Variable (place_of t n t.span.to) (named t); last = t.span.to; next = n + 1; reads = reads-node t ts l n _ (past t ts (n + 1)) (reads-name t ts l (n + 1) h) };
}

pub makes-field : (t d u : Token) (ts : List Token) → is_any_name t.kind ≡ true → is_mark m.Dot d.kind ≡ true → is_any_name u.kind ≡ true → Makes target_text (t ∷ d ∷ u ∷ ts) ts
makes-field t d u ts h e f = record {
  make = λ l n. record {
    tree = target.Field (place_of t n u.span.to) (named t) (named u);
    last = u.span.to;
    next = n + 1;
    reads = reads-node t (d ∷ u ∷ ts) l n _ (past u ts (n + 1)) (reads-name t (d ∷ u ∷ ts) l (n + 1) h ▸ reads-mark m.Dot d (u ∷ ts) t.span.to (n + 1) e ▸ reads-name u ts d.span.to (n + 1) f);
  };
}

pub makes-whole : {t : Token} {ts rest : List Token} → Makes target_text (t ∷ ts) rest → Makes place_text (t ∷ ts) rest
makes-whole {t = t} {ts = ts} {rest = rest} p = record {
  make = λ l n.
      let a = p.make l (n + 1) in
      let layer = Place-F.Whole (place_of t n a.last) a.tree in
      record { tree = roll-Place layer; last = a.last; next = a.next; reads = told (sym (place_rolls text_of_forms layer)) (reads-node t ts l n _ (rest_at rest a.last a.next) (a.reads)) };
}

pub makes-element : {t : Token} {ts : List Token} (o : Token) {us : List Token} (c : Token) {rest : List Token} → Makes target_text (t ∷ ts) (o ∷ us) → is_mark m.OpenBracket o.kind ≡ true → Makes expression_text us (c ∷ rest) → is_mark m.CloseBracket c.kind ≡ true → Makes place_text (t ∷ ts) rest
makes-element {t = t} {ts = ts} o {us = us} c {rest = rest} p h q f = record {
  make = λ l n.
      let a = p.make l (n + 1) in
      let b = q.make o.span.to a.next in
      let layer = Place-F.Element (place_of t n c.span.to) o.line a.tree b.tree in
      record { tree = roll-Place layer; last = c.span.to; next = b.next; reads = told (sym (place_rolls text_of_forms layer)) (reads-node t ts l n _ (rest_at rest c.span.to b.next) (a.reads ▸ reads-mark_on m.OpenBracket o us a.last a.next h ▸ b.reads ▸ reads-mark m.CloseBracket c rest b.last b.next f)) };
}

-- ---- primaries

pub makes-number : (t : Token) (rest : List Token) → is_any_number t.kind ≡ true → Makes primary_text (t ∷ rest) rest
makes-number t rest h = record {
  make = λ l n.
      let layer = Primary-F.Number (place_of t n t.span.to) (value_of t.kind) in
      record { tree = roll-Primary layer; last = t.span.to; next = (n + 1); reads = told (sym (primary_rolls text_of_forms layer)) (reads-node t rest l n _ (rest_at rest t.span.to (n + 1)) (reads-value t rest l (n + 1) h)) };
}

pub makes-true : (t : Token) (rest : List Token) → is_keyword word.True t.kind ≡ true → Makes primary_text (t ∷ rest) rest
makes-true t rest h = record {
  make = λ l n.
      let layer = Primary-F.True (place_of t n t.span.to) in
      record { tree = roll-Primary layer; last = t.span.to; next = (n + 1); reads = told (sym (primary_rolls text_of_forms layer)) (reads-node t rest l n _ (rest_at rest t.span.to (n + 1)) (reads-keyword word.True t rest l (n + 1) h)) };
}

pub makes-false : (t : Token) (rest : List Token) → is_keyword word.False t.kind ≡ true → Makes primary_text (t ∷ rest) rest
makes-false t rest h = record {
  make = λ l n.
      let layer = Primary-F.False (place_of t n t.span.to) in
      record { tree = roll-Primary layer; last = t.span.to; next = (n + 1); reads = told (sym (primary_rolls text_of_forms layer)) (reads-node t rest l n _ (rest_at rest t.span.to (n + 1)) (reads-keyword word.False t rest l (n + 1) h)) };
}

pub makes-own : (t : Token) (rest : List Token) → is_keyword word.Own t.kind ≡ true → Makes primary_text (t ∷ rest) rest
makes-own t rest h = record {
  make = λ l n.
      let layer = Primary-F.Own (place_of t n t.span.to) in
      record { tree = roll-Primary layer; last = t.span.to; next = (n + 1); reads = told (sym (primary_rolls text_of_forms layer)) (reads-node t rest l n _ (rest_at rest t.span.to (n + 1)) (reads-keyword word.Own t rest l (n + 1) h)) };
}

pub makes-read : {t : Token} {ts rest : List Token} → Makes place_text (t ∷ ts) rest → Makes primary_text (t ∷ ts) rest
makes-read {t = t} {ts = ts} {rest = rest} p = record {
  make = λ l n.
      let a = p.make l (n + 1) in
      let layer = Primary-F.Read (place_of t n a.last) a.tree in
      record { tree = roll-Primary layer; last = a.last; next = a.next; reads = told (sym (primary_rolls text_of_forms layer)) (reads-node t ts l n _ (rest_at rest a.last a.next) (a.reads)) };
}

pub makes-input : (t : Token) {ts rest : List Token} → is_keyword word.Input t.kind ≡ true → Brackets ts rest → Makes primary_text (t ∷ ts) rest
makes-input t {rest = rest} h (brackets a b e f) = record {
  make = λ l n.
      let layer = Primary-F.Input (place_of t n b.span.to) in
      record { tree = roll-Primary layer; last = b.span.to; next = (n + 1); reads = told (sym (primary_rolls text_of_forms layer)) (reads-node t (a ∷ b ∷ rest) l n _ (rest_at rest b.span.to (n + 1)) (reads-keyword word.Input t (a ∷ b ∷ rest) l (n + 1) h ▸ reads-mark m.OpenParenthesis a (b ∷ rest) t.span.to (n + 1) e ▸ reads-mark m.CloseParenthesis b rest a.span.to (n + 1) f)) };
}

pub makes-plain : (t : Token) {ts rest : List Token} → is_any_name t.kind ≡ true → Around m.OpenParenthesis m.CloseParenthesis (all_separated_if_any expression_text) ts rest → Makes primary_text (t ∷ ts) rest
makes-plain t {rest = rest} h (around a b {ts = us} e p f) = record {
  make = λ l n.
      let c = p.make a.span.to (n + 1) in
      let layer = Primary-F.CallPlain (place_of t n b.span.to) (named t) c.tree in
      record { tree = roll-Primary layer; last = b.span.to; next = c.next; reads = told (sym (primary_rolls text_of_forms layer)) (reads-node t (a ∷ us) l n _ (rest_at rest b.span.to c.next) (reads-name t (a ∷ us) l (n + 1) h ▸ reads-mark m.OpenParenthesis a us t.span.to (n + 1) e ▸ c.reads ▸ reads-mark m.CloseParenthesis b rest c.last c.next f)) };
}

pub makes-parenthesized : {ts rest : List Token} → Around m.OpenParenthesis m.CloseParenthesis expression_text ts rest → Makes primary_text ts rest
makes-parenthesized {rest = rest} (around t b {ts = us} e p f) = record {
  make = λ l n.
      let c = p.make t.span.to (n + 1) in
      let layer = Primary-F.Parenthesized (place_of t n b.span.to) c.tree in
      record { tree = roll-Primary layer; last = b.span.to; next = c.next; reads = told (sym (primary_rolls text_of_forms layer)) (reads-node t us l n _ (rest_at rest b.span.to c.next) (reads-mark m.OpenParenthesis t us l (n + 1) e ▸ c.reads ▸ reads-mark m.CloseParenthesis b rest c.last c.next f)) };
}

either : (b c : Bool) → (b || c) ≡ true → (b ≡ true) ⊎ (c ≡ true)
either true c h = inl refl
either false c h = inr h

pub makes-constant : (t : Token) (rest : List Token) → is_constant t.kind ≡ true → Makes primary_text (t ∷ rest) rest
makes-constant t rest h = first (either (is_any_number t.kind) _ h) where
  second : (is_keyword word.True t.kind ≡ true) ⊎ (is_keyword word.False t.kind ≡ true) → Makes primary_text (t ∷ rest) rest
  second (inl e) = makes-true t rest e
  second (inr e) = makes-false t rest e

  first : (is_any_number t.kind ≡ true) ⊎ ((is_keyword word.True t.kind || is_keyword word.False t.kind) ≡ true) → Makes primary_text (t ∷ rest) rest
  first (inl e) = makes-number t rest e
  first (inr e) = second (either (is_keyword word.True t.kind) _ e)

-- ---- operands

pub makes-primary : {t : Token} {ts rest : List Token} → Makes primary_text (t ∷ ts) rest → Makes unary_text (t ∷ ts) rest
makes-primary {t = t} {ts = ts} {rest = rest} p = record {
  make = λ l n.
      let a = p.make l (n + 1) in
      let layer = Unary-F.OnePrimary (place_of t n a.last) a.tree in
      record { tree = roll-Unary layer; last = a.last; next = a.next; reads = told (sym (unary_rolls text_of_forms layer)) (reads-node t ts l n _ (rest_at rest a.last a.next) (a.reads)) };
}

unary_of_kind : (k : TokenKind) → is_unary k ≡ true → (o : UnaryOperator) × (is_mark (unary_mark o) k ≡ true)
unary_of_kind k h = first (either (is_mark m.Minus k) _ h) where
  first : (is_mark m.Minus k ≡ true) ⊎ (is_mark m.Not k ≡ true) → (o : UnaryOperator) × (is_mark (unary_mark o) k ≡ true)
  first (inl e) = (unary.Negative, e)
  first (inr e) = (unary.Not, e)

pub makes-apply : (t : Token) {ts rest : List Token} → is_unary t.kind ≡ true → Makes unary_text ts rest → Makes unary_text (t ∷ ts) rest
makes-apply t {ts = ts} {rest = rest} h p = record {
  make = λ l n.
      let found = unary_of_kind t.kind h in
      let a = p.make t.span.to (n + 1) in
      let layer = Unary-F.Apply (place_of t n a.last) t.line found.0 a.tree in
      record { tree = roll-Unary layer; last = a.last; next = a.next; reads = told (sym (unary_rolls text_of_forms layer)) (reads-node t ts l n _ (rest_at rest a.last a.next) (reads-mark_on (unary_mark found.0) t ts l (n + 1) found.1 ▸ a.reads)) };
}

-- an expression, from its operands
pub makes-operands : {ts rest : List Token} → Operands ts rest → Makes expression_text ts rest
makes-operands (operands t p ps) = makes-chain p ps

-- ---- flows and calls

pub makes-flow : {t : Token} {ts rest : List Token} → Makes expression_text (t ∷ ts) rest → Makes flow_text (t ∷ ts) rest
makes-flow {t = t} {ts = ts} {rest = rest} p = record {
  make = λ l n.
      let a = p.make l (n + 1) in
      let layer = Flow-F.OfExpression (place_of t n a.last) a.tree in
      record { tree = roll-Flow layer; last = a.last; next = a.next; reads = told (sym (fold-roll-Flow Reads Reads statement.call_step statement.flow_step layer)) (reads-node t ts l n _ (rest_at rest a.last a.next) (a.reads)) };
}

pub flow-operands : {ts rest : List Token} → Operands ts rest → Makes flow_text ts rest
flow-operands (operands t p ps) = makes-flow (makes-chain p ps)

pub flow-primary : {t : Token} {ts mid rest : List Token} → Makes primary_text (t ∷ ts) mid → Pieces mid rest → Makes flow_text (t ∷ ts) rest
flow-primary p ps = makes-flow (makes-chain (makes-primary p) ps)

pub flow-place : {t : Token} {ts mid rest : List Token} → Makes place_text (t ∷ ts) mid → Pieces mid rest → Makes flow_text (t ∷ ts) rest
flow-place p ps = flow-primary (makes-read p) ps

pub makes-called : {t : Token} {ts rest : List Token} → Makes call_text (t ∷ ts) rest → Makes flow_text (t ∷ ts) rest
makes-called {t = t} {ts = ts} {rest = rest} p = record {
  make = λ l n.
      let a = p.make l (n + 1) in
      let layer = Flow-F.OfCall (place_of t n a.last) a.tree in
      record { tree = roll-Flow layer; last = a.last; next = a.next; reads = told (sym (fold-roll-Flow Reads Reads statement.call_step statement.flow_step layer)) (reads-node t ts l n _ (rest_at rest a.last a.next) (a.reads)) };
}

abbrev pub Arguments : List Token → List Token → Type 0
Arguments = Around m.OpenParenthesis m.CloseParenthesis (all_separated_if_any flow_text)

pub call-own : (t d u : Token) {ts rest : List Token} → is_keyword word.Own t.kind ≡ true → is_mark m.Dot d.kind ≡ true → is_any_name u.kind ≡ true → Arguments ts rest → Makes call_text (t ∷ d ∷ u ∷ ts) rest
call-own t d u {rest = rest} h i j (around a b {ts = us} e p f) = record {
  make = λ l n.
      let c = p.make a.span.to (n + 1) in
      let layer = Call-F.OnOwn (place_of t n b.span.to) (named u) c.tree in
      record { tree = roll-Call layer; last = b.span.to; next = c.next; reads = told (sym (fold-roll-Call Reads Reads statement.call_step statement.flow_step layer)) (reads-node t (d ∷ u ∷ a ∷ us) l n _ (rest_at rest b.span.to c.next) (reads-keyword word.Own t (d ∷ u ∷ a ∷ us) l (n + 1) h ▸ reads-mark m.Dot d (u ∷ a ∷ us) t.span.to (n + 1) i ▸ reads-name u (a ∷ us) d.span.to (n + 1) j ▸ reads-mark m.OpenParenthesis a us u.span.to (n + 1) e ▸ c.reads ▸ reads-mark m.CloseParenthesis b rest c.last c.next f)) };
}

pub call-target : {t : Token} {vs : List Token} (d u : Token) {ts rest : List Token} → Makes target_text (t ∷ vs) (d ∷ u ∷ ts) → is_mark m.Dot d.kind ≡ true → is_any_name u.kind ≡ true → Arguments ts rest → Makes call_text (t ∷ vs) rest
call-target {t = t} {vs = vs} d u {rest = rest} q i j (around a b {ts = us} e p f) = record {
  make = λ l n.
      let g = q.make l (n + 1) in
      let c = p.make a.span.to g.next in
      let layer = Call-F.OnTarget (place_of t n b.span.to) g.tree (named u) c.tree in
      record { tree = roll-Call layer; last = b.span.to; next = c.next; reads = told (sym (fold-roll-Call Reads Reads statement.call_step statement.flow_step layer)) (reads-node t vs l n _ (rest_at rest b.span.to c.next) (g.reads ▸ reads-mark m.Dot d (u ∷ a ∷ us) g.last g.next i ▸ reads-name u (a ∷ us) d.span.to g.next j ▸ reads-mark m.OpenParenthesis a us u.span.to g.next e ▸ c.reads ▸ reads-mark m.CloseParenthesis b rest c.last c.next f)) };
}

-- ---- assignments

pub makes-assignment : {t : Token} {ts : List Token} (o : Token) {us rest : List Token} → Makes place_text (t ∷ ts) (o ∷ us) → is_mark m.Assign o.kind ≡ true → Makes flow_text us rest → Makes assignment_text (t ∷ ts) rest
makes-assignment {t = t} {ts = ts} o {us = us} {rest = rest} p h q = record {
  make = λ l n.
      let a = p.make l (n + 1) in
      let b = q.make o.span.to a.next in
      record { tree = record { at = place_of t n b.last; place = a.tree; value = b.tree }; last = b.last; next = b.next; reads = reads-node t ts l n _ (rest_at rest b.last b.next) (a.reads ▸ reads-mark m.Assign o us a.last a.next h ▸ b.reads) };
}
