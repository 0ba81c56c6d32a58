-- Operands with operators between them are an expression.
use Rattle.std.proofs.Common.{◌≡◌, ℕ, zero, suc, ◌+◌, Bool, true, false, ◌||◌, List, ◌∷◌, refl, sym, ◌⊎◌, inl, inr}
use Rattle.mpl_ast.specs.declared.expression.Conjunction.{roll-Conjunction}
use Rattle.mpl_ast.specs.declared.expression.Equality.{roll-Equality}
use Rattle.mpl_ast.specs.declared.expression.Expression.{roll-Expression}
use Rattle.mpl_ast.specs.declared.expression.Relation.{roll-Relation}
use Rattle.mpl_ast.specs.declared.expression.Sum.{roll-Sum}
use Rattle.mpl_ast.specs.declared.expression.Term.{roll-Term}
use Rattle.mpl_ast.specs.declared.expression.Conjunction.TheOpen.{Conjunction-F, Equality-F, Expression-F, Relation-F, Sum-F, Term-F}
use Rattle.mpl_ast.specs.declared.expression.EqualityOperator.{EqualityOperator}
use Rattle.mpl_ast.specs.declared.expression.EqualityOperator.TheVariants.{Equal, Unequal}
use Rattle.mpl_ast.specs.declared.expression.RelationOperator.{RelationOperator}
use Rattle.mpl_ast.specs.declared.expression.RelationOperator.TheVariants as relation
use Rattle.mpl_ast.specs.declared.expression.SumOperator.{SumOperator}
use Rattle.mpl_ast.specs.declared.expression.SumOperator.TheVariants as sum
use Rattle.mpl_ast.specs.declared.expression.TermOperator.{TermOperator}
use Rattle.mpl_ast.specs.declared.expression.TermOperator.TheVariants as term
use Rattle.mpl_ast.specs.declared.token.Mark.TheVariants as m
use Rattle.mpl_ast.specs.declared.token.Token.{Token}
use Rattle.mpl_ast.specs.declared.token.TokenKind.{TokenKind}
use Rattle.mpl_mean.specs.FirstForms.ExpressionLevels.{conjunction_text, equality_text, relation_text, sum_text, term_text, unary_text}
use Rattle.mpl_mean.specs.Text.ExpressionText.{equality_mark, expression_text, relation_mark, sum_mark, term_mark}
use Rattle.mpl_mean.specs.Text.Reading.{is_mark}
use Rattle.mpl_mean.proofs.Readers.Parts.{told}
use Rattle.mpl_grammar.specs.Internal.Kinds.{is_equality_operator, is_operator, is_relation_operator, is_sum_operator, is_term_operator}
use Rattle.mpl_grammar.proofs.Makes.{Makes, ◌▸◌, place_of, reads-mark_on, reads-node, rest_at}
use Rattle.mpl_mean.proofs.ExpressionInduction.{expression_rolls, conjunction_rolls, equality_rolls, relation_rolls, sum_rolls, term_rolls}
use Rattle.mpl_mean.specs.Text.ExpressionText.{text_of_forms}

-- ---- levels

-- the token joins two parts of the level, counted from the innermost
abbrev joins : ℕ → TokenKind → Bool
joins zero k = is_term_operator k
joins (suc zero) k = is_sum_operator k
joins (suc (suc zero)) k = is_relation_operator k
joins (suc (suc (suc zero))) k = is_equality_operator k
joins (suc (suc (suc (suc zero)))) k = is_mark m.AndAnd k
joins (suc (suc (suc (suc (suc zero))))) k = is_mark m.OrOr k
joins (suc (suc (suc (suc (suc (suc n)))))) k = false

-- a tree of a level reads the tokens, the first of which is named, up to those
data Level : ℕ → Token → List Token → List Token → Type 0 where
  bare : {t : Token} {ts rest : List Token} → Makes unary_text (t ∷ ts) rest → Level zero t ts rest
  one : {k : ℕ} {t : Token} {ts rest : List Token} → Level k t ts rest → Level (suc k) t ts rest
  more : {k : ℕ} {t : Token} {ts : List Token} (o u : Token) {us rest : List Token} → Level (suc k) t ts (o ∷ u ∷ us) → joins k o.kind ≡ true → Level k u us rest → Level (suc k) t ts rest

data Within : ℕ → ℕ → Type 0 where
  here : (j : ℕ) → Within j (suc j)
  deeper : {j k : ℕ} → Within j k → Within j (suc k)

lifted : (k : ℕ) {t : Token} {ts rest : List Token} → Level zero t ts rest → Level k t ts rest
lifted zero e = e
lifted (suc k) e = one (lifted k e)

-- one operator and operand more
grown : {j k : ℕ} → Within j k → {t o u : Token} {ts us rest : List Token} → Level k t ts (o ∷ u ∷ us) → joins j o.kind ≡ true → Level zero u us rest → Level k t ts rest
grown (here j) {o = o} {u = u} e h f = more o u e h (lifted j f)
grown (deeper w) (one e) h f = one (grown w e h f)
grown (deeper w) (more p q l g r) h f = more p q l g (grown w r h f)

-- operators with an operand behind each
pub data Pieces : List Token → List Token → Type 0 where
  no_more : (ts : List Token) → Pieces ts ts
  piece : (o u : Token) {us mid rest : List Token} → is_operator o.kind ≡ true → Makes unary_text (u ∷ us) mid → Pieces mid rest → Pieces (o ∷ u ∷ us) rest

abbrev all_levels : ℕ
all_levels = suc (suc (suc (suc (suc (suc zero)))))

either : (b c : Bool) → (b || c) ≡ true → (b ≡ true) ⊎ (c ≡ true)
either true c h = inl refl
either false c h = inr h

record Which (k : TokenKind) : Type 0 where
  level : ℕ
  within : Within level all_levels
  joins_it : joins level k ≡ true

which : (k : TokenKind) → is_operator k ≡ true → Which k
which k h = first (either (is_term_operator k) _ h) where
  fifth : (is_mark m.AndAnd k ≡ true) ⊎ (is_mark m.OrOr k ≡ true) → Which k
  fifth (inl e) = record { level = suc (suc (suc (suc zero))); within = deeper (here _); joins_it = e }
  fifth (inr e) = record { level = suc (suc (suc (suc (suc zero)))); within = here _; joins_it = e }

  fourth : (is_equality_operator k ≡ true) ⊎ ((is_mark m.AndAnd k || is_mark m.OrOr k) ≡ true) → Which k
  fourth (inl e) = record { level = suc (suc (suc zero)); within = deeper (deeper (here _)); joins_it = e }
  fourth (inr e) = fifth (either (is_mark m.AndAnd k) _ e)

  third : (is_relation_operator k ≡ true) ⊎ ((is_equality_operator k || (is_mark m.AndAnd k || is_mark m.OrOr k)) ≡ true) → Which k
  third (inl e) = record { level = suc (suc zero); within = deeper (deeper (deeper (here _))); joins_it = e }
  third (inr e) = fourth (either (is_equality_operator k) _ e)

  second : (is_sum_operator k ≡ true) ⊎ ((is_relation_operator k || (is_equality_operator k || (is_mark m.AndAnd k || is_mark m.OrOr k))) ≡ true) → Which k
  second (inl e) = record { level = suc zero; within = deeper (deeper (deeper (deeper (here _)))); joins_it = e }
  second (inr e) = third (either (is_relation_operator k) _ e)

  first : (is_term_operator k ≡ true) ⊎ ((is_sum_operator k || (is_relation_operator k || (is_equality_operator k || (is_mark m.AndAnd k || is_mark m.OrOr k)))) ≡ true) → Which k
  first (inl e) = record { level = zero; within = deeper (deeper (deeper (deeper (deeper (here _))))); joins_it = e }
  first (inr e) = second (either (is_sum_operator k) _ e)

chained : {t : Token} {ts mid rest : List Token} → Level all_levels t ts mid → Pieces mid rest → Level all_levels t ts rest
chained e (no_more ts) = e
chained e (piece o u h f ps) = let w = which o.kind h in chained (grown w.within e w.joins_it (bare f)) ps

-- ---- the operator of a token

term_of_kind : (k : TokenKind) → is_term_operator k ≡ true → (o : TermOperator) × (is_mark (term_mark o) k ≡ true)
term_of_kind k h = first (either (is_mark m.Star k) _ h) where
  second : (is_mark m.Slash k ≡ true) ⊎ (is_mark m.Percent k ≡ true) → (o : TermOperator) × (is_mark (term_mark o) k ≡ true)
  second (inl e) = (term.Over, e)
  second (inr e) = (term.Modulo, e)

  first : (is_mark m.Star k ≡ true) ⊎ ((is_mark m.Slash k || is_mark m.Percent k) ≡ true) → (o : TermOperator) × (is_mark (term_mark o) k ≡ true)
  first (inl e) = (term.Times, e)
  first (inr e) = second (either (is_mark m.Slash k) _ e)

sum_of_kind : (k : TokenKind) → is_sum_operator k ≡ true → (o : SumOperator) × (is_mark (sum_mark o) k ≡ true)
sum_of_kind k h = first (either (is_mark m.Plus k) _ h) where
  first : (is_mark m.Plus k ≡ true) ⊎ (is_mark m.Minus k ≡ true) → (o : SumOperator) × (is_mark (sum_mark o) k ≡ true)
  first (inl e) = (sum.Plus, e)
  first (inr e) = (sum.Minus, e)

relation_of_kind : (k : TokenKind) → is_relation_operator k ≡ true → (o : RelationOperator) × (is_mark (relation_mark o) k ≡ true)
relation_of_kind k h = first (either (is_mark m.Less k) _ h) where
  third : (is_mark m.Greater k ≡ true) ⊎ (is_mark m.GreaterEqual k ≡ true) → (o : RelationOperator) × (is_mark (relation_mark o) k ≡ true)
  third (inl e) = (relation.Greater, e)
  third (inr e) = (relation.GreaterEqual, e)

  second : (is_mark m.LessEqual k ≡ true) ⊎ ((is_mark m.Greater k || is_mark m.GreaterEqual k) ≡ true) → (o : RelationOperator) × (is_mark (relation_mark o) k ≡ true)
  second (inl e) = (relation.LessEqual, e)
  second (inr e) = third (either (is_mark m.Greater k) _ e)

  first : (is_mark m.Less k ≡ true) ⊎ ((is_mark m.LessEqual k || (is_mark m.Greater k || is_mark m.GreaterEqual k)) ≡ true) → (o : RelationOperator) × (is_mark (relation_mark o) k ≡ true)
  first (inl e) = (relation.Less, e)
  first (inr e) = second (either (is_mark m.LessEqual k) _ e)

equality_of_kind : (k : TokenKind) → is_equality_operator k ≡ true → (o : EqualityOperator) × (is_mark (equality_mark o) k ≡ true)
equality_of_kind k h = first (either (is_mark m.EqualEqual k) _ h) where
  first : (is_mark m.EqualEqual k ≡ true) ⊎ (is_mark m.NotEqual k ≡ true) → (o : EqualityOperator) × (is_mark (equality_mark o) k ≡ true)
  first (inl e) = (Equal, e)
  first (inr e) = (Unequal, e)

-- ---- the trees of the levels

term_one : {t : Token} {ts rest : List Token} → Makes unary_text (t ∷ ts) rest → Makes term_text (t ∷ ts) rest
term_one {t = t} {ts = ts} {rest = rest} p = record {
  make = λ l n.
      let a = p.make l (n + 1) in
      let layer = Term-F.OneUnary (place_of t n a.last) a.tree in
      record { tree = roll-Term layer; last = a.last; next = a.next; reads = told (sym (term_rolls text_of_forms layer)) (reads-node t ts l n (unary_text a.tree) (rest_at rest a.last a.next) a.reads) };
}

term_more : {t : Token} {ts : List Token} (o u : Token) {us rest : List Token} → Makes term_text (t ∷ ts) (o ∷ u ∷ us) → is_term_operator o.kind ≡ true → Makes unary_text (u ∷ us) rest → Makes term_text (t ∷ ts) rest
term_more {t = t} {ts = ts} o u {us = us} {rest = rest} p h q = record {
  make = λ l n.
      let found = term_of_kind o.kind h in
      let a = p.make l (n + 1) in
      let b = q.make o.span.to a.next in
      let layer = Term-F.Multiply (place_of t n b.last) o.line a.tree found.0 b.tree in
      record { tree = roll-Term layer; last = b.last; next = b.next; reads = told (sym (term_rolls text_of_forms layer)) (reads-node t ts l n _ (rest_at rest b.last b.next) (a.reads ▸ reads-mark_on (term_mark found.0) o (u ∷ us) a.last a.next found.1 ▸ b.reads)) };
}

makes-bare : {t : Token} {ts rest : List Token} → Level zero t ts rest → Makes unary_text (t ∷ ts) rest
makes-bare (bare p) = p

makes-term : {t : Token} {ts rest : List Token} → Level (suc zero) t ts rest → Makes term_text (t ∷ ts) rest
makes-term (one e) = term_one (makes-bare e)
makes-term (more o u e h f) = term_more o u (makes-term e) h (makes-bare f)

sum_one : {t : Token} {ts rest : List Token} → Makes term_text (t ∷ ts) rest → Makes sum_text (t ∷ ts) rest
sum_one {t = t} {ts = ts} {rest = rest} p = record {
  make = λ l n.
      let a = p.make l (n + 1) in
      let layer = Sum-F.OneTerm (place_of t n a.last) a.tree in
      record { tree = roll-Sum layer; last = a.last; next = a.next; reads = told (sym (sum_rolls text_of_forms layer)) (reads-node t ts l n (term_text a.tree) (rest_at rest a.last a.next) a.reads) };
}

sum_more : {t : Token} {ts : List Token} (o u : Token) {us rest : List Token} → Makes sum_text (t ∷ ts) (o ∷ u ∷ us) → is_sum_operator o.kind ≡ true → Makes term_text (u ∷ us) rest → Makes sum_text (t ∷ ts) rest
sum_more {t = t} {ts = ts} o u {us = us} {rest = rest} p h q = record {
  make = λ l n.
      let found = sum_of_kind o.kind h in
      let a = p.make l (n + 1) in
      let b = q.make o.span.to a.next in
      let layer = Sum-F.Add (place_of t n b.last) o.line a.tree found.0 b.tree in
      record { tree = roll-Sum layer; last = b.last; next = b.next; reads = told (sym (sum_rolls text_of_forms layer)) (reads-node t ts l n _ (rest_at rest b.last b.next) (a.reads ▸ reads-mark_on (sum_mark found.0) o (u ∷ us) a.last a.next found.1 ▸ b.reads)) };
}

makes-sum : {t : Token} {ts rest : List Token} → Level (suc (suc zero)) t ts rest → Makes sum_text (t ∷ ts) rest
makes-sum (one e) = sum_one (makes-term e)
makes-sum (more o u e h f) = sum_more o u (makes-sum e) h (makes-term f)

relation_one : {t : Token} {ts rest : List Token} → Makes sum_text (t ∷ ts) rest → Makes relation_text (t ∷ ts) rest
relation_one {t = t} {ts = ts} {rest = rest} p = record {
  make = λ l n.
      let a = p.make l (n + 1) in
      let layer = Relation-F.OneSum (place_of t n a.last) a.tree in
      record { tree = roll-Relation layer; last = a.last; next = a.next; reads = told (sym (relation_rolls text_of_forms layer)) (reads-node t ts l n (sum_text a.tree) (rest_at rest a.last a.next) a.reads) };
}

relation_more : {t : Token} {ts : List Token} (o u : Token) {us rest : List Token} → Makes relation_text (t ∷ ts) (o ∷ u ∷ us) → is_relation_operator o.kind ≡ true → Makes sum_text (u ∷ us) rest → Makes relation_text (t ∷ ts) rest
relation_more {t = t} {ts = ts} o u {us = us} {rest = rest} p h q = record {
  make = λ l n.
      let found = relation_of_kind o.kind h in
      let a = p.make l (n + 1) in
      let b = q.make o.span.to a.next in
      let layer = Relation-F.Compare (place_of t n b.last) o.line a.tree found.0 b.tree in
      record { tree = roll-Relation layer; last = b.last; next = b.next; reads = told (sym (relation_rolls text_of_forms layer)) (reads-node t ts l n _ (rest_at rest b.last b.next) (a.reads ▸ reads-mark_on (relation_mark found.0) o (u ∷ us) a.last a.next found.1 ▸ b.reads)) };
}

makes-relation : {t : Token} {ts rest : List Token} → Level (suc (suc (suc zero))) t ts rest → Makes relation_text (t ∷ ts) rest
makes-relation (one e) = relation_one (makes-sum e)
makes-relation (more o u e h f) = relation_more o u (makes-relation e) h (makes-sum f)

equality_one : {t : Token} {ts rest : List Token} → Makes relation_text (t ∷ ts) rest → Makes equality_text (t ∷ ts) rest
equality_one {t = t} {ts = ts} {rest = rest} p = record {
  make = λ l n.
      let a = p.make l (n + 1) in
      let layer = Equality-F.OneRelation (place_of t n a.last) a.tree in
      record { tree = roll-Equality layer; last = a.last; next = a.next; reads = told (sym (equality_rolls text_of_forms layer)) (reads-node t ts l n (relation_text a.tree) (rest_at rest a.last a.next) a.reads) };
}

equality_more : {t : Token} {ts : List Token} (o u : Token) {us rest : List Token} → Makes equality_text (t ∷ ts) (o ∷ u ∷ us) → is_equality_operator o.kind ≡ true → Makes relation_text (u ∷ us) rest → Makes equality_text (t ∷ ts) rest
equality_more {t = t} {ts = ts} o u {us = us} {rest = rest} p h q = record {
  make = λ l n.
      let found = equality_of_kind o.kind h in
      let a = p.make l (n + 1) in
      let b = q.make o.span.to a.next in
      let layer = Equality-F.Equate (place_of t n b.last) o.line a.tree found.0 b.tree in
      record { tree = roll-Equality layer; last = b.last; next = b.next; reads = told (sym (equality_rolls text_of_forms layer)) (reads-node t ts l n _ (rest_at rest b.last b.next) (a.reads ▸ reads-mark_on (equality_mark found.0) o (u ∷ us) a.last a.next found.1 ▸ b.reads)) };
}

makes-equality : {t : Token} {ts rest : List Token} → Level (suc (suc (suc (suc zero)))) t ts rest → Makes equality_text (t ∷ ts) rest
makes-equality (one e) = equality_one (makes-relation e)
makes-equality (more o u e h f) = equality_more o u (makes-equality e) h (makes-relation f)

conjunction_one : {t : Token} {ts rest : List Token} → Makes equality_text (t ∷ ts) rest → Makes conjunction_text (t ∷ ts) rest
conjunction_one {t = t} {ts = ts} {rest = rest} p = record {
  make = λ l n.
      let a = p.make l (n + 1) in
      let layer = Conjunction-F.OneEquality (place_of t n a.last) a.tree in
      record { tree = roll-Conjunction layer; last = a.last; next = a.next; reads = told (sym (conjunction_rolls text_of_forms layer)) (reads-node t ts l n (equality_text a.tree) (rest_at rest a.last a.next) a.reads) };
}

conjunction_more : {t : Token} {ts : List Token} (o u : Token) {us rest : List Token} → Makes conjunction_text (t ∷ ts) (o ∷ u ∷ us) → is_mark m.AndAnd o.kind ≡ true → Makes equality_text (u ∷ us) rest → Makes conjunction_text (t ∷ ts) rest
conjunction_more {t = t} {ts = ts} o u {us = us} {rest = rest} p h q = record {
  make = λ l n.
      let a = p.make l (n + 1) in
      let b = q.make o.span.to a.next in
      let layer = Conjunction-F.And (place_of t n b.last) o.line a.tree b.tree in
      record { tree = roll-Conjunction layer; last = b.last; next = b.next; reads = told (sym (conjunction_rolls text_of_forms layer)) (reads-node t ts l n _ (rest_at rest b.last b.next) (a.reads ▸ reads-mark_on m.AndAnd o (u ∷ us) a.last a.next h ▸ b.reads)) };
}

makes-conjunction : {t : Token} {ts rest : List Token} → Level (suc (suc (suc (suc (suc zero))))) t ts rest → Makes conjunction_text (t ∷ ts) rest
makes-conjunction (one e) = conjunction_one (makes-equality e)
makes-conjunction (more o u e h f) = conjunction_more o u (makes-conjunction e) h (makes-equality f)

expression_one : {t : Token} {ts rest : List Token} → Makes conjunction_text (t ∷ ts) rest → Makes expression_text (t ∷ ts) rest
expression_one {t = t} {ts = ts} {rest = rest} p = record {
  make = λ l n.
      let a = p.make l (n + 1) in
      let layer = Expression-F.OneConjunction (place_of t n a.last) a.tree in
      record { tree = roll-Expression layer; last = a.last; next = a.next; reads = told (sym (expression_rolls text_of_forms layer)) (reads-node t ts l n (conjunction_text a.tree) (rest_at rest a.last a.next) a.reads) };
}

expression_more : {t : Token} {ts : List Token} (o u : Token) {us rest : List Token} → Makes expression_text (t ∷ ts) (o ∷ u ∷ us) → is_mark m.OrOr o.kind ≡ true → Makes conjunction_text (u ∷ us) rest → Makes expression_text (t ∷ ts) rest
expression_more {t = t} {ts = ts} o u {us = us} {rest = rest} p h q = record {
  make = λ l n.
      let a = p.make l (n + 1) in
      let b = q.make o.span.to a.next in
      let layer = Expression-F.Or (place_of t n b.last) o.line a.tree b.tree in
      record { tree = roll-Expression layer; last = b.last; next = b.next; reads = told (sym (expression_rolls text_of_forms layer)) (reads-node t ts l n _ (rest_at rest b.last b.next) (a.reads ▸ reads-mark_on m.OrOr o (u ∷ us) a.last a.next h ▸ b.reads)) };
}

makes-expression : {t : Token} {ts rest : List Token} → Level (suc (suc (suc (suc (suc (suc zero)))))) t ts rest → Makes expression_text (t ∷ ts) rest
makes-expression (one e) = expression_one (makes-conjunction e)
makes-expression (more o u e h f) = expression_more o u (makes-expression e) h (makes-conjunction f)

-- An operand and what follows it are an expression.
pub makes-chain : {t : Token} {ts mid rest : List Token} → Makes unary_text (t ∷ ts) mid → Pieces mid rest → Makes expression_text (t ∷ ts) rest
makes-chain p ps = makes-expression (chained (lifted all_levels (bare p)) ps)
