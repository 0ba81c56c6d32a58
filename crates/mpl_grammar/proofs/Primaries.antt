-- Operands take the machine along.
use Rattle.std.proofs.Common.{◌≡◌, ℕ, ℤ, ◌+◌, true, List, [], ◌∷◌, ◌++◌, map, Some, refl, ap, sym, ◌∙◌, add-zero}
use Rattle.std.specs.Ordering.{int_eq}
use Rattle.std.specs.Prelude.{int_le, pos}
use Rattle.mpl_ast.specs.declared.expression.Target.{Target}
use Rattle.mpl_ast.specs.declared.expression.Target.TheVariants as target
use Rattle.mpl_ast.specs.declared.place.At.{At}
use Rattle.mpl_ast.specs.declared.place.Name.{Name}
use Rattle.mpl_ast.specs.declared.token.Keyword.TheVariants as word
use Rattle.mpl_ast.specs.declared.token.Mark.TheVariants as m
use Rattle.mpl_ast.specs.declared.token.TokenKind.{TokenKind}
use Rattle.mpl_ast.specs.declared.token.TokenKind.TheVariants as kind
use Rattle.mpl_mean.specs.Text.ExpressionText.{target_text}
use Rattle.mpl_mean.specs.Text.Reading.{Reads, Rest, ◌>>◌, is_number, keyword, mark, mark_on, name, node, separated_if_any, token}
use Rattle.mpl_mean.specs.Text.Weight.{Weighs, ◌⨾◌, bracketed, no_token, plain, target_weighs, whole, with_commas}
use Rattle.mpl_mean.proofs.Readers.Parts.{Reading, Through, inside, parts}
use Rattle.mpl_mean.proofs.Readers.Tokens.{Took, number_is, took_first, took_keyword, took_mark, took_mark_on, took_name, took_number, token_read}
use Rattle.mpl_mean.proofs.Truth.{both_true}
use Rattle.mpl_grammar.specs.Internal.Grammar.{Stack}
use Rattle.mpl_grammar.specs.Internal.Machine.{next, weight}
use Rattle.mpl_grammar.specs.declared.symbol.Symbol.TheVariants.{AName, CloseParenthesis, CloseBracket, FlowOwn, FlowName, FlowField, ExpressionsIfAny, Operand, Operators, OperandName, ElementIfAny, OpenNothing}
use Rattle.mpl_grammar.proofs.Passes.{Passes, joined, passes-bracketed, passes-plain, stays}
use Rattle.mpl_grammar.proofs.Operands.{Behind, Driven, Drives, Start, at_expression, at_expressions, at_flow, at_flows, at_operand, bracket, element, flow_field, flow_name, flow_own, operand_name, operators, parenthesis, weight-behind}
use Rattle.mpl_grammar.proofs.Lists.{Each, any-fill, expressions, fills-whole, fills_first-whole, list_parenthesis, no_expressions, whole-driven}

-- what an operand's first token leads to
pub record Taken (n : ℕ) (xs s : Stack) (k : TokenKind) : Type 0 where
  pub stack : Stack
  pub behind : Behind n stack
  pub is : next xs k ≡ Some (stack ++ s)

number_taken : {n : ℕ} {xs s : Stack} → Start n xs s → (value : ℤ) → int_le (pos 0) value ≡ true → Taken n xs s (kind.Number value)
number_taken (at_operand n s) value h = record { stack = Operators n ∷ []; behind = operators n; is = rw (h) }
number_taken (at_flow s) value h = record { stack = Operators 0 ∷ []; behind = operators 0; is = rw (h) }
number_taken (at_flows s) value h = record { stack = Operators 0 ∷ []; behind = operators 0; is = rw (h) }
number_taken (at_expression s) value h = record { stack = Operators 0 ∷ []; behind = operators 0; is = rw (h) }
number_taken (at_expressions s) value h = record { stack = Operators 0 ∷ []; behind = operators 0; is = rw (h) }

true_taken : {n : ℕ} {xs s : Stack} → Start n xs s → Taken n xs s (kind.Keyword word.True)
true_taken (at_operand n s) = record { stack = Operators n ∷ []; behind = operators n; is = refl }
true_taken (at_flow s) = record { stack = Operators 0 ∷ []; behind = operators 0; is = refl }
true_taken (at_flows s) = record { stack = Operators 0 ∷ []; behind = operators 0; is = refl }
true_taken (at_expression s) = record { stack = Operators 0 ∷ []; behind = operators 0; is = refl }
true_taken (at_expressions s) = record { stack = Operators 0 ∷ []; behind = operators 0; is = refl }

false_taken : {n : ℕ} {xs s : Stack} → Start n xs s → Taken n xs s (kind.Keyword word.False)
false_taken (at_operand n s) = record { stack = Operators n ∷ []; behind = operators n; is = refl }
false_taken (at_flow s) = record { stack = Operators 0 ∷ []; behind = operators 0; is = refl }
false_taken (at_flows s) = record { stack = Operators 0 ∷ []; behind = operators 0; is = refl }
false_taken (at_expression s) = record { stack = Operators 0 ∷ []; behind = operators 0; is = refl }
false_taken (at_expressions s) = record { stack = Operators 0 ∷ []; behind = operators 0; is = refl }

own_taken : {n : ℕ} {xs s : Stack} → Start n xs s → Taken n xs s (kind.Keyword word.Own)
own_taken (at_operand n s) = record { stack = Operators n ∷ []; behind = operators n; is = refl }
own_taken (at_flow s) = record { stack = FlowOwn ∷ []; behind = flow_own; is = refl }
own_taken (at_flows s) = record { stack = FlowOwn ∷ []; behind = flow_own; is = refl }
own_taken (at_expression s) = record { stack = Operators 0 ∷ []; behind = operators 0; is = refl }
own_taken (at_expressions s) = record { stack = Operators 0 ∷ []; behind = operators 0; is = refl }

input_next : {n : ℕ} {xs s : Stack} → Start n xs s → next xs (kind.Keyword word.Input) ≡ Some (OpenNothing ∷ Operators n ∷ s)
input_next (at_operand n s) = refl
input_next (at_flow s) = refl
input_next (at_flows s) = refl
input_next (at_expression s) = refl
input_next (at_expressions s) = refl

open_next : {n : ℕ} {xs s : Stack} → Start n xs s → next xs (kind.Mark m.OpenParenthesis) ≡ Some (Operand 0 ∷ CloseParenthesis ∷ Operators n ∷ s)
open_next (at_operand n s) = refl
open_next (at_flow s) = refl
open_next (at_flows s) = refl
open_next (at_expression s) = refl
open_next (at_expressions s) = refl

-- ---- operands of one token

driven-taken : {k : TokenKind} {n : ℕ} {xs s : Stack} → Taken n xs s k → {r x : Rest} → Took k (inside r) x → Driven n xs s r plain x
driven-taken {n = n} {s = s} t h =
    let p = passes-plain h t.is (weight-behind t.behind s) in
    record { more = n; stack = t.stack; behind = t.behind; passes = record { seen = p.seen; after = p.after } }

pub drives-taken : (at : At) {a : Reads} {k : TokenKind} → ((r x : Rest) → Reading a r x → Took k r x) → ((n : ℕ) (xs s : Stack) → Start n xs s → Taken n xs s k) → Drives (node at a) plain
drives-taken at {a = a} took taken = record { drive = λ start h. driven-taken (taken _ _ _ start) (took _ _ (parts at (a ∷ []) h)) }

-- a number that a token is
pub no_sign : (value : ℤ) (k : TokenKind) → is_number value k ≡ true → int_le (pos 0) value ≡ true
no_sign value k h = (both_true (int_le (pos 0) value) (int_eq value value) (ap (is_number value) (sym (number_is value k h)) ∙ h)).0

pub drives-number : (at : At) (value : ℤ) → Drives (node at (token (λ t. is_number value t.kind))) plain
drives-number at value = record { drive = λ start h. driven start (parts at (token (λ t. is_number value t.kind) ∷ []) h) } where
  driven : {n : ℕ} {xs s : Stack} → Start n xs s → {r x : Rest} → Reading (token (λ t. is_number value t.kind)) (inside r) x → Driven n xs s r plain x
  driven start {r = r} {x = x} h =
      let t = token_read (λ t. is_number value t.kind) (inside r) x h.is in
      driven-taken (number_taken start value (no_sign value t.0.kind t.2)) (took_number value h)

pub drives-true : (at : At) → Drives (node at (keyword word.True)) plain
drives-true at = drives-taken at (λ r x h. took_keyword word.True h) (λ n xs s start. true_taken start)

pub drives-false : (at : At) → Drives (node at (keyword word.False)) plain
drives-false at = drives-taken at (λ r x h. took_keyword word.False h) (λ n xs s start. false_taken start)

pub drives-own : (at : At) → Drives (node at (keyword word.Own)) plain
drives-own at = drives-taken at (λ r x h. took_keyword word.Own h) (λ n xs s start. own_taken start)

-- ---- `input ( )` and parentheses

pub drives-input : (at : At) → Drives (node at (keyword word.Input >> mark m.OpenParenthesis >> mark m.CloseParenthesis)) (plain ⨾ bracketed no_token)
drives-input at = record { drive = λ start h. driven start (parts at (keyword word.Input ∷ mark m.OpenParenthesis ∷ mark m.CloseParenthesis ∷ []) h) } where
  driven : {n : ℕ} {xs s : Stack} → Start n xs s → {r x : Rest} → Through (keyword word.Input ∷ mark m.OpenParenthesis ∷ mark m.CloseParenthesis ∷ []) (inside r) x → Driven n xs s r (plain ⨾ bracketed no_token) x
  driven {n = n} start u =
      let p = joined (passes-plain (took_keyword word.Input u.1) (input_next start) refl)
      (passes-bracketed (took_mark m.OpenParenthesis u.2.1) refl refl (stays refl) (took_mark m.CloseParenthesis u.2.2) refl refl) in
      record { more = n; stack = Operators n ∷ []; behind = operators n; passes = record { seen = p.seen; after = p.after } }

pub drives-parenthesized : (at : At) {a : Reads} {w : Weighs} → Drives a w → Drives (node at (mark m.OpenParenthesis >> a >> mark m.CloseParenthesis)) (bracketed (whole w))
drives-parenthesized at {a = a} {w = w} d = record { drive = λ start h. driven start (parts at (mark m.OpenParenthesis ∷ a ∷ mark m.CloseParenthesis ∷ []) h) } where
  driven : {n : ℕ} {xs s : Stack} → Start n xs s → {r x : Rest} → Through (mark m.OpenParenthesis ∷ a ∷ mark m.CloseParenthesis ∷ []) (inside r) x → Driven n xs s r (bracketed (whole w)) x
  driven {n = n} {s = s} start u =
      let close = took_mark m.CloseParenthesis u.2.2 in
      let inner = whole-driven (d.drive (at_operand 0 (CloseParenthesis ∷ Operators n ∷ s)) u.2.1) (record { mark = m.CloseParenthesis; is_end = parenthesis; heads = took_first close }) in
      let p = passes-bracketed (took_mark m.OpenParenthesis u.1) (open_next start) (add-zero _) inner close refl refl in
      record { more = n; stack = Operators n ∷ []; behind = operators n; passes = record { seen = p.seen; after = p.after } }

-- ---- names

-- behind a name, and behind a field's name
pub data Named : ℕ → Stack → Stack → Type 0 where
  in_expression : (n : ℕ) → Named n (OperandName ∷ Operators n ∷ []) (ElementIfAny ∷ Operators n ∷ [])
  in_flow : Named 0 (FlowName ∷ []) (FlowField ∷ [])

pub record NameTaken (n : ℕ) (xs s : Stack) (text : List ℕ) : Type 0 where
  pub stack : Stack
  pub fields : Stack
  pub named : Named n stack fields
  pub is : next xs (kind.Name text) ≡ Some (stack ++ s)

name_taken : {n : ℕ} {xs s : Stack} → Start n xs s → (text : List ℕ) → NameTaken n xs s text
name_taken (at_operand n s) text = record { stack = OperandName ∷ Operators n ∷ []; fields = ElementIfAny ∷ Operators n ∷ []; named = in_expression n; is = refl }
name_taken (at_flow s) text = record { stack = FlowName ∷ []; fields = FlowField ∷ []; named = in_flow; is = refl }
name_taken (at_flows s) text = record { stack = FlowName ∷ []; fields = FlowField ∷ []; named = in_flow; is = refl }
name_taken (at_expression s) text = record { stack = OperandName ∷ Operators 0 ∷ []; fields = ElementIfAny ∷ Operators 0 ∷ []; named = in_expression 0; is = refl }
name_taken (at_expressions s) text = record { stack = OperandName ∷ Operators 0 ∷ []; fields = ElementIfAny ∷ Operators 0 ∷ []; named = in_expression 0; is = refl }

named_behind : {n : ℕ} {ys zs : Stack} → Named n ys zs → Behind n ys
named_behind (in_expression n) = operand_name n
named_behind in_flow = flow_name

field_behind : {n : ℕ} {ys zs : Stack} → Named n ys zs → Behind n zs
field_behind (in_expression n) = element n
field_behind in_flow = flow_field

named_dot : {n : ℕ} {ys zs : Stack} → Named n ys zs → (s : Stack) → next (ys ++ s) (kind.Mark m.Dot) ≡ Some (AName ∷ zs ++ s)
named_dot (in_expression n) s = refl
named_dot in_flow s = refl

named_bracket : {n : ℕ} {ys zs : Stack} → Named n ys zs → (s : Stack) → next (ys ++ s) (kind.Mark m.OpenBracket) ≡ Some (Operand 0 ∷ CloseBracket ∷ Operators n ∷ s)
named_bracket (in_expression n) s = refl
named_bracket in_flow s = refl

field_bracket : {n : ℕ} {ys zs : Stack} → Named n ys zs → (s : Stack) → next (zs ++ s) (kind.Mark m.OpenBracket) ≡ Some (Operand 0 ∷ CloseBracket ∷ Operators n ∷ s)
field_bracket (in_expression n) s = refl
field_bracket in_flow s = refl

named_open : {n : ℕ} {ys zs : Stack} → Named n ys zs → (s : Stack) → next (ys ++ s) (kind.Mark m.OpenParenthesis) ≡ Some (ExpressionsIfAny ∷ CloseParenthesis ∷ Operators n ∷ s)
named_open (in_expression n) s = refl
named_open in_flow s = refl

-- ---- places

record TargetPassed (n : ℕ) (xs s : Stack) (r : Rest) (w : Weighs) (x : Rest) : Type 0 where
  stack : Stack
  behind : Behind n stack
  opens : next (stack ++ s) (kind.Mark m.OpenBracket) ≡ Some (Operand 0 ∷ CloseBracket ∷ Operators n ∷ s)
  passes : Passes (weight s + n) r xs w (weight s + n) x (stack ++ s)

target-passes : (t : Target) {n : ℕ} {xs s : Stack} → Start n xs s → {r x : Rest} → Reading (target_text t) r x → TargetPassed n xs s r (target_weighs t) x
target-passes (target.Variable at variable) {n = n} {s = s} start h =
    let t = name_taken start variable.text in
    let p = passes-plain (took_name variable (parts at (name variable ∷ []) h)) t.is (weight-behind (named_behind t.named) s) in
    record { stack = t.stack; behind = named_behind t.named; opens = named_bracket t.named s; passes = record { seen = p.seen; after = p.after } }
target-passes (target.Field at variable field) {n = n} {s = s} start h =
    let u = parts at (name variable ∷ mark m.Dot ∷ name field ∷ []) h in
    let t = name_taken start variable.text in
    let weighs = weight-behind (field_behind t.named) s in
    let p = joined (passes-plain (took_name variable u.1) t.is (weight-behind (named_behind t.named) s))
    (joined (passes-plain (took_mark m.Dot u.2.1) (named_dot t.named s) weighs) (passes-plain (took_name field u.2.2) refl weighs)) in
    record { stack = t.fields; behind = field_behind t.named; opens = field_bracket t.named s; passes = record { seen = p.seen; after = p.after } }

-- what a place is
pub data IsPlace : Reads → Weighs → Type 0 where
  whole_place : (at : At) (t : Target) → IsPlace (node at (target_text t)) (target_weighs t)
  element_place : (at : At) (line : ℕ) (t : Target) {a : Reads} {w : Weighs} → Drives a w
      → IsPlace (node at (target_text t >> mark_on line m.OpenBracket >> a >> mark m.CloseBracket)) (target_weighs t ⨾ bracketed (whole w))

place-driven : {a : Reads} {w : Weighs} → IsPlace a w → {n : ℕ} {xs s : Stack} → Start n xs s → {r x : Rest} → Reading a r x → Driven n xs s r w x
place-driven (whole_place at t) {n = n} {s = s} start h =
    let p = target-passes t start (parts at (target_text t ∷ []) h) in
    record { more = n; stack = p.stack; behind = p.behind; passes = record { seen = p.passes.seen; after = p.passes.after } }
place-driven (element_place at line t {a = a} d) {n = n} {s = s} start h =
    let u = parts at (target_text t ∷ mark_on line m.OpenBracket ∷ a ∷ mark m.CloseBracket ∷ []) h in
    let p = target-passes t start u.1 in
    let close = took_mark m.CloseBracket u.2.2.2 in
    let inner = whole-driven (d.drive (at_operand 0 (CloseBracket ∷ Operators n ∷ s)) u.2.2.1) (record { mark = m.CloseBracket; is_end = bracket; heads = took_first close }) in
    let all = joined p.passes (passes-bracketed (took_mark_on line m.OpenBracket u.2.1) p.opens (add-zero _) inner close refl refl) in
    record { more = n; stack = Operators n ∷ []; behind = operators n; passes = record { seen = all.seen; after = all.after } }

pub drives-read : (at : At) {a : Reads} {w : Weighs} → IsPlace a w → Drives (node at a) w
drives-read at {a = a} {w = w} p = record { drive = λ start h. driven start (parts at (a ∷ []) h) } where
  driven : {n : ℕ} {xs s : Stack} → Start n xs s → {r x : Rest} → Reading a (inside r) x → Driven n xs s r w x
  driven start h = let d = place-driven p start h in record { more = d.more; stack = d.stack; behind = d.behind; passes = record { seen = d.passes.seen; after = d.passes.after } }

-- ---- calls of plain functions

pub drives-plain : (at : At) (function : Name) {rs : List Reads} {ws : List Weighs} → Each Drives rs ws
    → Drives (node at (name function >> mark m.OpenParenthesis >> separated_if_any rs >> mark m.CloseParenthesis)) (plain ⨾ bracketed (with_commas (map whole ws)))
drives-plain at function {rs = rs} {ws = ws} ds =
    record { drive = λ start h. driven start (parts at (name function ∷ mark m.OpenParenthesis ∷ separated_if_any rs ∷ mark m.CloseParenthesis ∷ []) h) } where
      driven : {n : ℕ} {xs s : Stack} → Start n xs s → {r x : Rest} → Through (name function ∷ mark m.OpenParenthesis ∷ separated_if_any rs ∷ mark m.CloseParenthesis ∷ []) (inside r) x
          → Driven n xs s r (plain ⨾ bracketed (with_commas (map whole ws))) x
      driven {n = n} {s = s} start u =
          let t = name_taken start function.text in
          let close = took_mark m.CloseParenthesis u.2.2.2 in
          let z = CloseParenthesis ∷ Operators n ∷ s in
          let inner = any-fill expressions no_expressions (fills-whole ds) (fills_first-whole ds) z u.2.2.1 (record { mark = m.CloseParenthesis; is_end = list_parenthesis; heads = took_first close }) in
          let all = joined (passes-plain (took_name function u.1) t.is (weight-behind (named_behind t.named) s))
          (passes-bracketed (took_mark m.OpenParenthesis u.2.1) (named_open t.named s) refl inner close refl refl) in
          record { more = n; stack = Operators n ∷ []; behind = operators n; passes = record { seen = all.seen; after = all.after } }
