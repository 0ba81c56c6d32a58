-- Expressions take the machine along.
use Rattle.std.proofs.Common.{◌≡◌, ℕ, suc, ◌+◌, true, false, [], ◌∷◌, ◌++◌, Some, refl, arith}
use Rattle.mpl_ast.specs.declared.expression.EqualityOperator.{EqualityOperator}
use Rattle.mpl_ast.specs.declared.expression.EqualityOperator.TheVariants.{Equal, Unequal}
use Rattle.mpl_ast.specs.declared.expression.RelationOperator.{RelationOperator}
use Rattle.mpl_ast.specs.declared.expression.RelationOperator.TheVariants as relation
use Rattle.mpl_ast.specs.declared.expression.SumOperator.{SumOperator}
use Rattle.mpl_ast.specs.declared.expression.SumOperator.TheVariants as sum
use Rattle.mpl_ast.specs.declared.expression.TermOperator.{TermOperator}
use Rattle.mpl_ast.specs.declared.expression.TermOperator.TheVariants as term
use Rattle.mpl_ast.specs.declared.expression.UnaryOperator.{UnaryOperator}
use Rattle.mpl_ast.specs.declared.expression.UnaryOperator.TheVariants as unary
use Rattle.mpl_ast.specs.declared.place.At.{At}
use Rattle.mpl_ast.specs.declared.token.Mark.{Mark}
use Rattle.mpl_ast.specs.declared.token.Mark.TheVariants as m
use Rattle.mpl_ast.specs.declared.token.TokenKind.TheVariants as kind
use Rattle.mpl_mean.specs.Text.ExpressionText.{equality_mark, relation_mark, sum_mark, term_mark, unary_mark}
use Rattle.mpl_mean.specs.Text.Reading.{Reads, Rest, ◌>>◌, is_mark, mark_on, node}
use Rattle.mpl_mean.specs.Text.Weight.{Weighs, ◌⨾◌, binary, counted}
use Rattle.mpl_mean.proofs.Readers.Parts.{Reading, Through, inside, parts}
use Rattle.mpl_mean.proofs.Readers.Tokens.{took_mark_on}
use Rattle.mpl_grammar.specs.Internal.Grammar.{Stack}
use Rattle.mpl_grammar.specs.Internal.Kinds.{is_operator}
use Rattle.mpl_grammar.specs.Internal.Machine.{next, weight}
use Rattle.mpl_grammar.specs.declared.symbol.Symbol.TheVariants.{AFlow, FlowOwn, FlowName, FlowField, FlowsIfAny, MoreFlows, ExpressionIfAny, ExpressionsIfAny, MoreExpressions, Operand, Operators, OperandName, ElementIfAny}
use Rattle.mpl_grammar.proofs.Passes.{Passes, joined, passes-counted}

-- ---- where an expression may begin, with so many operators before it, and what is below its operators

pub data Start : ℕ → Stack → Stack → Type 0 where
  at_operand : (n : ℕ) (s : Stack) → Start n (Operand n ∷ s) s
  at_flow : (s : Stack) → Start 0 (AFlow ∷ s) s
  at_flows : (s : Stack) → Start 0 (FlowsIfAny ∷ s) (MoreFlows ∷ s)
  at_expression : (s : Stack) → Start 0 (ExpressionIfAny ∷ s) s
  at_expressions : (s : Stack) → Start 0 (ExpressionsIfAny ∷ s) (MoreExpressions ∷ s)

-- what may be to come behind an operand, with so many operators so far
pub data Behind : ℕ → Stack → Type 0 where
  operators : (n : ℕ) → Behind n (Operators n ∷ [])
  operand_name : (n : ℕ) → Behind n (OperandName ∷ Operators n ∷ [])
  element : (n : ℕ) → Behind n (ElementIfAny ∷ Operators n ∷ [])
  flow_own : Behind 0 (FlowOwn ∷ [])
  flow_name : Behind 0 (FlowName ∷ [])
  flow_field : Behind 0 (FlowField ∷ [])

pub weight-behind : {n : ℕ} {ys : Stack} → Behind n ys → (s : Stack) → weight (ys ++ s) ≡ weight s + n
weight-behind (operators n) s = refl
weight-behind (operand_name n) s = refl
weight-behind (element n) s = refl
weight-behind flow_own s = omega arith
weight-behind flow_name s = omega arith
weight-behind flow_field s = omega arith

-- ---- behind an operand

-- a mark that is an operator between operands
pub record IsOperator (o : Mark) : Type 0 where
  pub operator : is_operator (kind.Mark o) ≡ true
  pub no_parenthesis : is_mark m.OpenParenthesis (kind.Mark o) ≡ false
  pub no_bracket : is_mark m.OpenBracket (kind.Mark o) ≡ false
  pub no_dot : is_mark m.Dot (kind.Mark o) ≡ false

pub next-operator : {n : ℕ} {ys : Stack} {o : Mark} → Behind n ys → IsOperator o → (s : Stack) → next (ys ++ s) (kind.Mark o) ≡ Some (Operand (suc n) ∷ s)
next-operator (operators n) i s = rw i.operator
next-operator (operand_name n) i s = rw (i.no_parenthesis, i.no_bracket, i.no_dot, i.operator)
next-operator (element n) i s = rw (i.no_bracket, i.operator)
next-operator flow_own i s = rw (i.no_dot, i.operator)
next-operator flow_name i s = rw (i.no_parenthesis, i.no_bracket, i.no_dot, i.operator)
next-operator flow_field i s = rw (i.no_parenthesis, i.no_dot, i.no_bracket, i.operator)

pub equality_operator : (o : EqualityOperator) → IsOperator (equality_mark o)
equality_operator Equal = record { operator = refl; no_parenthesis = refl; no_bracket = refl; no_dot = refl }
equality_operator Unequal = record { operator = refl; no_parenthesis = refl; no_bracket = refl; no_dot = refl }

pub relation_operator : (o : RelationOperator) → IsOperator (relation_mark o)
relation_operator relation.Less = record { operator = refl; no_parenthesis = refl; no_bracket = refl; no_dot = refl }
relation_operator relation.LessEqual = record { operator = refl; no_parenthesis = refl; no_bracket = refl; no_dot = refl }
relation_operator relation.Greater = record { operator = refl; no_parenthesis = refl; no_bracket = refl; no_dot = refl }
relation_operator relation.GreaterEqual = record { operator = refl; no_parenthesis = refl; no_bracket = refl; no_dot = refl }

pub sum_operator : (o : SumOperator) → IsOperator (sum_mark o)
sum_operator sum.Plus = record { operator = refl; no_parenthesis = refl; no_bracket = refl; no_dot = refl }
sum_operator sum.Minus = record { operator = refl; no_parenthesis = refl; no_bracket = refl; no_dot = refl }

pub term_operator : (o : TermOperator) → IsOperator (term_mark o)
term_operator term.Times = record { operator = refl; no_parenthesis = refl; no_bracket = refl; no_dot = refl }
term_operator term.Over = record { operator = refl; no_parenthesis = refl; no_bracket = refl; no_dot = refl }
term_operator term.Modulo = record { operator = refl; no_parenthesis = refl; no_bracket = refl; no_dot = refl }

-- a mark that ends an expression
pub data IsEnd : Mark → Type 0 where
  parenthesis : IsEnd m.CloseParenthesis
  bracket : IsEnd m.CloseBracket
  comma : IsEnd m.Comma
  semicolon : IsEnd m.Semicolon

pub next-end : {n : ℕ} {ys : Stack} {o : Mark} → Behind n ys → IsEnd o → (s : Stack) → next (ys ++ s) (kind.Mark o) ≡ next s (kind.Mark o)
next-end (operators n) parenthesis s = refl
next-end (operators n) bracket s = refl
next-end (operators n) comma s = refl
next-end (operators n) semicolon s = refl
next-end (operand_name n) parenthesis s = refl
next-end (operand_name n) bracket s = refl
next-end (operand_name n) comma s = refl
next-end (operand_name n) semicolon s = refl
next-end (element n) parenthesis s = refl
next-end (element n) bracket s = refl
next-end (element n) comma s = refl
next-end (element n) semicolon s = refl
next-end flow_own parenthesis s = refl
next-end flow_own bracket s = refl
next-end flow_own comma s = refl
next-end flow_own semicolon s = refl
next-end flow_name parenthesis s = refl
next-end flow_name bracket s = refl
next-end flow_name comma s = refl
next-end flow_name semicolon s = refl
next-end flow_field parenthesis s = refl
next-end flow_field bracket s = refl
next-end flow_field comma s = refl
next-end flow_field semicolon s = refl

-- ---- an expression, a part of it, or an operand

pub record Driven (n : ℕ) (xs s : Stack) (r : Rest) (w : Weighs) (x : Rest) : Type 0 where
  pub more : ℕ
  pub stack : Stack
  pub behind : Behind more stack
  pub passes : Passes (weight s + n) r xs w (weight s + more) x (stack ++ s)

pub record Drives (a : Reads) (w : Weighs) : Type 0 where
  pub drive : {n : ℕ} {xs s : Stack} → Start n xs s → {r x : Rest} → Reading a r x → Driven n xs s r w x

pub drives-one : (at : At) {a : Reads} {w : Weighs} → Drives a w → Drives (node at a) w
drives-one at {a = a} d = record { drive = λ start h. driven start (d.drive start (parts at (a ∷ []) h)) } where
  driven : {n : ℕ} {xs s : Stack} → Start n xs s → {r x : Rest} {w : Weighs} → Driven n xs s (inside r) w x → Driven n xs s r w x
  driven start f = record { more = f.more; stack = f.stack; behind = f.behind; passes = record { seen = f.passes.seen; after = f.passes.after } }

pub drives-binary : (at : At) (line : ℕ) (o : Mark) → IsOperator o → {a b : Reads} {v w : Weighs} → Drives a v → Drives b w → Drives (node at (a >> mark_on line o >> b)) (binary v w)
drives-binary at line o i {a = a} {b = b} {v = v} {w = w} c d = record { drive = λ start h. driven start (parts at (a ∷ mark_on line o ∷ b ∷ []) h) } where
  driven : {n : ℕ} {xs s : Stack} → Start n xs s → {r x : Rest} → Through (a ∷ mark_on line o ∷ b ∷ []) (inside r) x → Driven n xs s r (binary v w) x
  driven {s = s} start u =
      let f = c.drive start u.1 in
      let g = d.drive (at_operand (suc f.more) s) u.2.2 in
      let counts : weight s + suc f.more ≡ (weight s + f.more) + 1 = omega arith in
      let all = joined f.passes (joined (passes-counted (took_mark_on line o u.2.1) (next-operator f.behind i s) refl counts) g.passes) in
      record { more = g.more; stack = g.stack; behind = g.behind; passes = record { seen = all.seen; after = all.after } }

-- ---- unary operators

unary_next : (o : UnaryOperator) {n : ℕ} {xs s : Stack} → Start n xs s → next xs (kind.Mark (unary_mark o)) ≡ Some (Operand (suc n) ∷ s)
unary_next unary.Negative (at_operand n s) = refl
unary_next unary.Negative (at_flow s) = refl
unary_next unary.Negative (at_flows s) = refl
unary_next unary.Negative (at_expression s) = refl
unary_next unary.Negative (at_expressions s) = refl
unary_next unary.Not (at_operand n s) = refl
unary_next unary.Not (at_flow s) = refl
unary_next unary.Not (at_flows s) = refl
unary_next unary.Not (at_expression s) = refl
unary_next unary.Not (at_expressions s) = refl

pub drives-apply : (at : At) (line : ℕ) (o : UnaryOperator) {a : Reads} {w : Weighs} → Drives a w → Drives (node at (mark_on line (unary_mark o) >> a)) (counted ⨾ w)
drives-apply at line o {a = a} {w = w} d = record { drive = λ start h. driven start (parts at (mark_on line (unary_mark o) ∷ a ∷ []) h) } where
  driven : {n : ℕ} {xs s : Stack} → Start n xs s → {r x : Rest} → Through (mark_on line (unary_mark o) ∷ a ∷ []) (inside r) x → Driven n xs s r (counted ⨾ w) x
  driven {n = n} {s = s} start u =
      let g = d.drive (at_operand (suc n) s) u.2 in
      let counts : weight s + suc n ≡ (weight s + n) + 1 = omega arith in
      let all = joined (passes-counted (took_mark_on line (unary_mark o) u.1) (unary_next o start) refl counts) g.passes in
      record { more = g.more; stack = g.stack; behind = g.behind; passes = record { seen = all.seen; after = all.after } }
