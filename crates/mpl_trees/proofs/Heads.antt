-- The head of a `for` is taken, and what may be absent elsewhere.
use Rattle.std.proofs.Common.{◌≡◌, ℕ, ◌≤◌, List, [], ◌∷◌, length, Bool, true, false, Option, Some, None, ap, ◌∙◌, arith}
use Rattle.std.specs.List.{AllByRecursion}
use Rattle.std.specs.Option.{option_map}
use Rattle.mpl_ast.specs.declared.expression.Expression.{Expression}
use Rattle.mpl_ast.specs.declared.flow.Assignment.{Assignment}
use Rattle.mpl_ast.specs.declared.statement.ForHead.{ForHead}
use Rattle.mpl_ast.specs.declared.statement.ForStart.{ForStart}
use Rattle.mpl_ast.specs.declared.statement.ForStart.TheVariants.{Declare, Assign}
use Rattle.mpl_ast.specs.declared.token.Mark.TheVariants as m
use Rattle.mpl_ast.specs.declared.token.TokenKind.{TokenKind}
use Rattle.mpl_ast.specs.declared.token.TokenKind.TheVariants as kind
use Rattle.mpl_mean.specs.Text.ExpressionText.{expression_text}
use Rattle.mpl_mean.specs.Text.Reading.{Reads, Rest, is_mark, mark, optional}
use Rattle.mpl_mean.specs.Text.StatementText.{assignment_text, for_head_text, for_start_text}
use Rattle.mpl_mean.proofs.Readers.Parts.{Reading, in_turn, some_same}
use Rattle.mpl_trees.specs.Expressions.{second, take_expression}
use Rattle.mpl_trees.specs.Flows.{take_assignment, take_flow}
use Rattle.mpl_trees.specs.Locals.{take_local}
use Rattle.mpl_trees.specs.Statements.{for_start_at, take_for_head, take_for_start}
use Rattle.mpl_trees.specs.Taking.{Takes, both, is_ahead, is_any_name, made, then_skip, unless_ahead}
use Rattle.mpl_trees.proofs.Steps.{if_false, if_true, joins, makes, skips_behind}
use Rattle.mpl_trees.proofs.Took.{Took, fewer-took, took_mark}
use Rattle.mpl_trees.proofs.Growth.{Growing, fewer, growing-less, growing-mark, growing-optional, growing-then, rising}
use Rattle.mpl_trees.proofs.Operators.{is_ahead-took}
use Rattle.mpl_trees.proofs.Ends.{ends-took, parenthesis, semicolon}
use Rattle.mpl_trees.proofs.Lists.{ListEnds, Taken}
use Rattle.mpl_trees.proofs.Levels.{takes-expression}
use Rattle.mpl_trees.proofs.Primaries.{is_ahead-ahead}
use Rattle.mpl_trees.proofs.Expressions.{expression-is}
use Rattle.mpl_trees.proofs.Assignments.{assignment-ahead, assignment-named, assignment-taken, growing-assignment}
use Rattle.mpl_trees.proofs.Locals.{LocalAhead, of_bool, of_int, of_name, growing-local, local-ahead, local-taken}

-- ---- before a semicolon or a parenthesis

pub list-semicolon : {x y : Rest} → Took (kind.Mark m.Semicolon) x y → ListEnds x
list-semicolon t = record { ends = ends-took semicolon t; no_comma = is_ahead-took (is_mark m.Comma) t }

pub list-parenthesis : {x y : Rest} → Took (kind.Mark m.CloseParenthesis) x y → ListEnds x
list-parenthesis t = record { ends = ends-took parenthesis t; no_comma = is_ahead-took (is_mark m.Comma) t }

-- what may be absent, before a mark that it doesn't begin with
pub unless-none : {A : Type 0} (limit : ℕ) (test : TokenKind → Bool) (take : Takes A) {r x : Rest} → r ≡ x → is_ahead test x.tokens ≡ true → unless_ahead test take limit r ≡ Some (None, x)
unless-none {A = A} limit test take {r = r} e f =
    if_true {A = Option A × Rest} (is_ahead test r.tokens) (Some (None, r)) (made Some take limit r) (ap (λ (y : Rest). is_ahead test y.tokens) e ∙ f) ∙ ap (λ y. Some (None, y)) e

pub unless-some : {A : Type 0} (limit : ℕ) (test : TokenKind → Bool) (take : Takes A) (r : Rest) {x : Rest} {a : A} → is_ahead test r.tokens ≡ false → take limit r ≡ Some (a, x) → unless_ahead test take limit r ≡ Some (Some a, x)
unless-some {A = A} limit test take r e f = if_false {A = Option A × Rest} (is_ahead test r.tokens) (Some (None, r)) (made Some take limit r) e ∙ makes limit Some take r f

-- an expression in a list, or none
pub each_expression : (d limit : ℕ) (es : List Expression) → AllByRecursion (Taken expression_text (take_expression d) d limit) es
each_expression d limit [] = tt
each_expression d limit (e ∷ es) = (record { takes = λ h f k l. takes-expression (expression-is e) h f d k limit l; grows = growing-less 0 (omega arith) (expression-is e).grows }, each_expression d limit es)

-- ---- the first part

start-taken : (s : ForStart) (d : ℕ) {r x y : Rest} → Reading (for_start_text s) r x → Took (kind.Mark m.Semicolon) x y → length r.tokens ≤ d → (limit : ℕ) → x.next ≤ limit → take_for_start d limit r ≡ Some (s, x)
start-taken (Declare l) d {r = r} {x = x} h t k limit b = begun (local-ahead l h) where
  local : take_local (take_flow d) limit r ≡ Some (l, x)
  local = local-taken l d h (list-semicolon t) (omega (arith, k)) limit b

  begun : LocalAhead r → take_for_start d limit r ≡ Some (Declare l, x)
  begun (of_int e) = ap (λ k. for_start_at d k limit r) e ∙ makes limit Declare (take_local (take_flow d)) r local
  begun (of_bool e) = ap (λ k. for_start_at d k limit r) e ∙ makes limit Declare (take_local (take_flow d)) r local
  begun (of_name n e) = ap (λ k. for_start_at d k limit r) n.is ∙ if_true (is_ahead is_any_name (second r.tokens)) _ _ e ∙ makes limit Declare (take_local (take_flow d)) r local
start-taken (Assign a) d {r = r} h t k limit b =
    ap (λ k. for_start_at d k limit r) (assignment-named a h).is ∙ if_false (is_ahead is_any_name (second r.tokens)) _ _ (assignment-ahead a h).no_name
    ∙ makes limit Assign (take_assignment d) r (assignment-taken a d h (ends-took semicolon t) (omega (arith, k)) limit b)

start-begins : (s : ForStart) {r x : Rest} → Reading (for_start_text s) r x → is_ahead (is_mark m.Semicolon) r.tokens ≡ false
start-begins (Declare l) {r = r} h = begun (local-ahead l h) where
  begun : LocalAhead r → is_ahead (is_mark m.Semicolon) r.tokens ≡ false
  begun (of_int e) = is_ahead-ahead (is_mark m.Semicolon) r.tokens _ e
  begun (of_bool e) = is_ahead-ahead (is_mark m.Semicolon) r.tokens _ e
  begun (of_name n e) = is_ahead-ahead (is_mark m.Semicolon) r.tokens (kind.Name n.text) n.is
start-begins (Assign a) {r = r} h = let n = assignment-named a h in is_ahead-ahead (is_mark m.Semicolon) r.tokens (kind.Name n.text) n.is

growing-start : (s : ForStart) → Growing 1 0 (for_start_text s)
growing-start (Declare l) = growing-local l
growing-start (Assign a) = growing-assignment a

-- ---- the head

start-optional : (o : Option ForStart) (d : ℕ) {r x y : Rest} → Reading (optional (option_map for_start_text o)) r x → Took (kind.Mark m.Semicolon) x y → length r.tokens ≤ d → (limit : ℕ) → x.next ≤ limit → unless_ahead (is_mark m.Semicolon) (take_for_start d) limit r ≡ Some (o, x)
start-optional None d h t k limit l = unless-none limit (is_mark m.Semicolon) (take_for_start d) (some_same h.is) (is_ahead-took (is_mark m.Semicolon) t)
start-optional (Some s) d {r = r} {x = x} h t k limit l =
    let g : Reading (for_start_text s) r x = record { is = h.is } in
    unless-some limit (is_mark m.Semicolon) (take_for_start d) r (start-begins s g) (start-taken s d g t k limit l)

step-optional : (o : Option Assignment) (d : ℕ) {r x y : Rest} → Reading (optional (option_map assignment_text o)) r x → Took (kind.Mark m.CloseParenthesis) x y → length r.tokens ≤ d → (limit : ℕ) → x.next ≤ limit → unless_ahead (is_mark m.CloseParenthesis) (take_assignment d) limit r ≡ Some (o, x)
step-optional None d h t k limit l = unless-none limit (is_mark m.CloseParenthesis) (take_assignment d) (some_same h.is) (is_ahead-took (is_mark m.CloseParenthesis) t)
step-optional (Some a) d {r = r} {x = x} h t k limit l =
    let g : Reading (assignment_text a) r x = record { is = h.is } in
    let n = assignment-named a g in
    unless-some limit (is_mark m.CloseParenthesis) (take_assignment d) r (is_ahead-ahead (is_mark m.CloseParenthesis) r.tokens (kind.Name n.text) n.is) (assignment-taken a d g (ends-took parenthesis t) (omega (arith, k)) limit l)

abbrev parts_of : ForHead → List Reads
parts_of f = optional (option_map for_start_text f.start) ∷ mark m.Semicolon ∷ expression_text f.test ∷ mark m.Semicolon ∷ optional (option_map assignment_text f.step) ∷ []

pub growing-head : (f : ForHead) → Growing 0 24 (for_head_text f)
growing-head f =
    growing-less 24 (omega arith) (growing-then (growing-optional for_start_text growing-start f.start) (growing-then (growing-mark m.Semicolon)
    (growing-then (expression-is f.test).grows (growing-then (growing-mark m.Semicolon) (growing-optional assignment_text growing-assignment f.step)))))

pub head-taken : (f : ForHead) (d : ℕ) {r x y : Rest} → Reading (for_head_text f) r x → Took (kind.Mark m.CloseParenthesis) x y → length r.tokens ≤ d → (limit : ℕ) → x.next ≤ limit → take_for_head d limit r ≡ Some (f, x)
head-taken f d {r = r} h t k limit l =
    let u = in_turn (parts_of f) h in
    let first = took_mark m.Semicolon u.2.1 in
    let second_ = took_mark m.Semicolon u.2.2.2.1 in
    let test_grows = (expression-is f.test).grows in
    let before_test : length u.2.0.tokens ≤ d = omega (arith, fewer (growing-optional for_start_text growing-start f.start) u.1, fewer-took first, k) in
    let behind_test : u.2.2.0.next ≤ limit = omega (arith, l, second_.next, rising (growing-optional assignment_text growing-assignment f.step) u.2.2.2.2) in
    let start = start-optional f.start d u.1 first k limit (omega (arith, behind_test, rising test_grows u.2.2.1, first.next)) in
    let test = takes-expression (expression-is f.test) u.2.2.1 (ends-took semicolon second_) d before_test limit behind_test in
    let step = step-optional f.step d u.2.2.2.2 t (omega (arith, before_test, fewer test_grows u.2.2.1, fewer-took second_)) limit l in
    joins limit (λ (first : Option ForStart) (p : Expression × Option Assignment). record { start = first; test = p.0; step = p.1 }) (then_skip (unless_ahead (is_mark m.Semicolon) (take_for_start d)) (mark m.Semicolon))
    (both (λ test step. (test, step)) (then_skip (take_expression d) (mark m.Semicolon)) (unless_ahead (is_mark m.CloseParenthesis) (take_assignment d))) r
    (skips_behind limit (unless_ahead (is_mark m.Semicolon) (take_for_start d)) (mark m.Semicolon) r start u.2.1)
    (joins limit (λ test step. (test, step)) (then_skip (take_expression d) (mark m.Semicolon)) (unless_ahead (is_mark m.CloseParenthesis) (take_assignment d)) u.2.0 (skips_behind limit (take_expression d) (mark m.Semicolon) u.2.0 test u.2.2.2.1) step)
