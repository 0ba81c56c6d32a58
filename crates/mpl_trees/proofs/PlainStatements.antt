-- Statements that no other stands in are taken.
use Rattle.std.proofs.Common.{◌≡◌, ℕ, zero, suc, ◌≤◌, List, [], ◌∷◌, map, length, Bool, true, false, Option, Some, None, refl, ap, ◌∙◌, arith}
use Rattle.std.specs.Option.{option_map}
use Rattle.mpl_ast.specs.declared.expression.Expression.{Expression}
use Rattle.mpl_ast.specs.declared.expression.Target.{Target}
use Rattle.mpl_ast.specs.declared.flow.Assignment.{Assignment}
use Rattle.mpl_ast.specs.declared.flow.Call.{Call}
use Rattle.mpl_ast.specs.declared.flow.Flow.{Flow}
use Rattle.mpl_ast.specs.declared.place.At.{At}
use Rattle.mpl_ast.specs.declared.statement.Local.{Local}
use Rattle.mpl_ast.specs.declared.statement.Statement.{Statement, roll-Statement}
use Rattle.mpl_ast.specs.declared.statement.Statement.TheOpen.{Statement-F}
use Rattle.mpl_ast.specs.declared.token.Keyword.TheVariants as word
use Rattle.mpl_ast.specs.declared.token.Mark.TheVariants as m
use Rattle.mpl_ast.specs.declared.token.TokenKind.TheVariants as kind
use Rattle.mpl_mean.specs.Text.ExpressionText.{expression_text, target_text}
use Rattle.mpl_mean.specs.Text.Reading.{Reads, Rest, ◌>>◌, is_keyword, is_mark, keyword, mark, node, optional, separated}
use Rattle.mpl_mean.specs.Text.StatementText.{StatementText, assignment_text, call_text, closed, flow_text, local_text}
use Rattle.mpl_mean.proofs.Readers.Parts.{Reading, Through, chain, in_turn, some_same}
use Rattle.mpl_trees.specs.Expressions.{begins_call, second, take_expression}
use Rattle.mpl_trees.specs.Flows.{take_assignment, take_call, take_called, take_flow}
use Rattle.mpl_trees.specs.Locals.{take_local}
use Rattle.mpl_trees.specs.Statements.{begins_create, declared_statement, statement_at, take_create, take_statement}
use Rattle.mpl_trees.specs.Taking.{ahead, alone, inside, is_ahead, is_any_name, node_of, parenthesized, skip_then, some_of, then_skip, unless_ahead}
use Rattle.mpl_trees.proofs.Steps.{alone_is, if_false, if_true, skips, skips_behind}
use Rattle.mpl_trees.proofs.Took.{Took, ahead-took, fewer-took, noded, takes-node, took_keyword, took_mark}
use Rattle.mpl_trees.proofs.Growth.{Growing, all-of, growing-keyword, growing-mark, growing-node, growing-optional, growing-separated, growing-then, rising, shorter}
use Rattle.mpl_trees.proofs.Operators.{is_ahead-took}
use Rattle.mpl_trees.proofs.Ends.{ends-took, parenthesis, semicolon}
use Rattle.mpl_trees.proofs.Lists.{some-taken}
use Rattle.mpl_trees.proofs.Targets.{MemberAhead, growing-target, second-took, target-called, target-read}
use Rattle.mpl_trees.proofs.Levels.{takes-expression}
use Rattle.mpl_trees.proofs.Expressions.{expression-is}
use Rattle.mpl_trees.proofs.Flows.{CallAhead, call-is, flow-is, on_name, on_self}
use Rattle.mpl_trees.proofs.Assignments.{assignment-ahead, assignment-named, assignment-taken, growing-assignment}
use Rattle.mpl_trees.proofs.Locals.{LocalAhead, of_bool, of_int, of_name, growing-local, local-ahead, local-taken}
use Rattle.mpl_trees.proofs.Blocks.{PartAhead, part_ahead}
use Rattle.mpl_trees.proofs.Heads.{each_expression, list-parenthesis, list-semicolon, unless-none, unless-some}

-- ---- what is shown

-- A statement is taken before anything, or before anything but `else` where it would take one.
pub record Stated (t : StatementText) (s : Statement) : Type 0 where
  pub grows : Growing 1 0 t.text
  pub begins : {r x : Rest} → Reading t.text r x → PartAhead r
  pub taken : {r x : Rest} → Reading t.text r x → (t.takes_else ≡ true → is_ahead (is_keyword word.Else) x.tokens ≡ false) → (d : ℕ) → length r.tokens ≤ d → (limit : ℕ) → x.next ≤ limit → take_statement d limit r ≡ Some (s, x)

-- the same, one statement deep
pub record Formed (t : StatementText) (s : Statement) : Type 0 where
  pub grows : Growing 1 0 t.text
  pub begins : {r x : Rest} → Reading t.text r x → PartAhead r
  pub formed : {r x : Rest} → Reading t.text r x → (t.takes_else ≡ true → is_ahead (is_keyword word.Else) x.tokens ≡ false) → (d : ℕ) → length r.tokens ≤ suc d → (limit : ℕ) → x.next ≤ limit
      → statement_at (suc d) (take_statement d) (ahead r.tokens) limit r ≡ Some (s, x)

pub stated : {t : StatementText} {s : Statement} → Formed t s → Stated t s
stated {t = t} {s = s} f = record { grows = f.grows; begins = λ h. f.begins h; taken = taken_at } where
  taken_at : {r x : Rest} → Reading t.text r x → (t.takes_else ≡ true → is_ahead (is_keyword word.Else) x.tokens ≡ false) → (d : ℕ) → length r.tokens ≤ d → (limit : ℕ) → x.next ≤ limit → take_statement d limit r ≡ Some (s, x)
  taken_at h e zero k limit l = absurd (omega (arith, k, shorter f.grows h))
  taken_at h e (suc d) k limit l = f.formed h e d k limit l

-- ---- `;`

growing-empty : (at : At) → Growing 1 0 (node at (mark m.Semicolon))
growing-empty at = growing-node at 0 (omega arith) (growing-mark m.Semicolon)

pub empty-is : (at : At) → Formed (closed (node at (mark m.Semicolon))) (roll-Statement (Statement-F.Empty at))
empty-is at = record {
  grows = growing-empty at;
  begins = λ {r = r} h. part_ahead r (ahead-took (took_mark m.Semicolon (noded at (mark m.Semicolon) h).read)) refl refl;
  formed = λ {r = r} h e d k limit l.
      let n = noded at (mark m.Semicolon) h in
      ap (λ k. statement_at (suc d) (take_statement d) k limit r) (ahead-took (took_mark m.Semicolon n.read))
      ∙ takes-node limit (λ at (n : Bool). roll-Statement (Statement-F.Empty at)) (alone true (mark m.Semicolon)) n (rising (growing-empty at) h) l (alone_is limit true (mark m.Semicolon) n.read);
}

-- ---- declarations

local_begins : {r : Rest} → LocalAhead (inside r) → PartAhead r
local_begins {r = r} (of_int e) = part_ahead r e refl refl
local_begins {r = r} (of_bool e) = part_ahead r e refl refl
local_begins {r = r} (of_name n e) = part_ahead r n.is refl refl

pub declare-is : (at : At) (l : Local) → Formed (closed (node at (local_text l >> mark m.Semicolon))) (roll-Statement (Statement-F.Declare at l))
declare-is at l = record {
  grows = grown;
  begins = λ h. local_begins (local-ahead l (read h).1);
  formed = formed_at;
} where
  texts_of : List Reads
  texts_of = local_text l ∷ mark m.Semicolon ∷ []

  grown : Growing 1 0 (node at (chain texts_of))
  grown = growing-node at 0 (omega arith) (growing-then (growing-local l) (growing-mark m.Semicolon))

  read : {r x : Rest} → Reading (node at (chain texts_of)) r x → Through texts_of (inside r) x
  read h = in_turn texts_of (noded at (chain texts_of) h).read

  formed_at : {r x : Rest} → Reading (node at (chain texts_of)) r x → (false ≡ true → is_ahead (is_keyword word.Else) x.tokens ≡ false) → (d : ℕ) → length r.tokens ≤ suc d → (limit : ℕ) → x.next ≤ limit → statement_at (suc d) (take_statement d) (ahead r.tokens) limit r ≡ Some (roll-Statement (Statement-F.Declare at l), x)
  formed_at {r = r} {x = x} h e d k limit b = begun (local-ahead l (read h).1) where
    local : declared_statement (suc d) limit r ≡ Some (roll-Statement (Statement-F.Declare at l), x)
    local =
        let n = noded at (chain texts_of) h in
        let u = in_turn texts_of n.read in
        let t = took_mark m.Semicolon u.2 in
        takes-node limit (λ at (l : Local). roll-Statement (Statement-F.Declare at l)) (then_skip (take_local (take_flow (suc d))) (mark m.Semicolon)) n (rising grown h) b
        (skips_behind limit (take_local (take_flow (suc d))) (mark m.Semicolon) (inside r) (local-taken l (suc d) u.1 (list-semicolon t) (omega (arith, k)) limit (omega (arith, b, t.next))) u.2)

    begun : LocalAhead (inside r) → statement_at (suc d) (take_statement d) (ahead r.tokens) limit r ≡ Some (roll-Statement (Statement-F.Declare at l), x)
    begun (of_int e) = ap (λ k. statement_at (suc d) (take_statement d) k limit r) e ∙ local
    begun (of_bool e) = ap (λ k. statement_at (suc d) (take_statement d) k limit r) e ∙ local
    begun (of_name n e) = ap (λ k. statement_at (suc d) (take_statement d) k limit r) n.is ∙ if_true (is_ahead is_any_name (second r.tokens)) _ _ e ∙ local

-- ---- assignments

pub assign-is : (at : At) (a : Assignment) → Formed (closed (node at (assignment_text a >> mark m.Semicolon))) (roll-Statement (Statement-F.Assign at a))
assign-is at a = record {
  grows = grown;
  begins = λ {r = r} h. part_ahead r (assignment-named a (read h).1).is refl refl;
  formed = λ {r = r} h e d k limit l.
      let n = noded at (chain texts_of) h in
      let u = in_turn texts_of n.read in
      let p = assignment-ahead a u.1 in
      let t = took_mark m.Semicolon u.2 in
      ap (λ k. statement_at (suc d) (take_statement d) k limit r) (assignment-named a u.1).is
      ∙ if_false (is_ahead is_any_name (second r.tokens)) _ _ p.no_name ∙ if_false (begins_create r.tokens) _ _ p.no_create ∙ if_false (begins_call (ahead r.tokens) r.tokens) _ _ p.no_member
      ∙ takes-node limit (λ at (a : Assignment). roll-Statement (Statement-F.Assign at a)) (then_skip (take_assignment (suc d)) (mark m.Semicolon)) n (rising grown h) l
      (skips_behind limit (take_assignment (suc d)) (mark m.Semicolon) (inside r) (assignment-taken a (suc d) u.1 (ends-took semicolon t) (omega (arith, k)) limit (omega (arith, l, t.next))) u.2);
} where
  texts_of : List Reads
  texts_of = assignment_text a ∷ mark m.Semicolon ∷ []

  grown : Growing 1 0 (node at (chain texts_of))
  grown = growing-node at 0 (omega arith) (growing-then (growing-assignment a) (growing-mark m.Semicolon))

  read : {r x : Rest} → Reading (node at (chain texts_of)) r x → Through texts_of (inside r) x
  read h = in_turn texts_of (noded at (chain texts_of) h).read

-- ---- calls

call_begins : {r : Rest} → CallAhead (inside r) → PartAhead r
call_begins {r = r} (on_self e) = part_ahead r e refl refl
call_begins {r = r} (on_name n e f) = part_ahead r n.is refl refl

pub call_alone-is : (at : At) (c : Call) → Formed (closed (node at (call_text c >> mark m.Semicolon))) (roll-Statement (Statement-F.CallAlone at c))
call_alone-is at c = record {
  grows = grown;
  begins = λ h. call_begins ((call-is c).first (read h).1);
  formed = formed_at;
} where
  texts_of : List Reads
  texts_of = call_text c ∷ mark m.Semicolon ∷ []

  grown : Growing 1 0 (node at (chain texts_of))
  grown = growing-node at 0 (omega arith) (growing-then (call-is c).grows (growing-mark m.Semicolon))

  read : {r x : Rest} → Reading (node at (chain texts_of)) r x → Through texts_of (inside r) x
  read h = in_turn texts_of (noded at (chain texts_of) h).read

  formed_at : {r x : Rest} → Reading (node at (chain texts_of)) r x → (false ≡ true → is_ahead (is_keyword word.Else) x.tokens ≡ false) → (d : ℕ) → length r.tokens ≤ suc d → (limit : ℕ) → x.next ≤ limit → statement_at (suc d) (take_statement d) (ahead r.tokens) limit r ≡ Some (roll-Statement (Statement-F.CallAlone at c), x)
  formed_at {r = r} {x = x} h e d k limit l = begun ((call-is c).first (read h).1) where
    alone_taken : node_of (λ at c. roll-Statement (Statement-F.CallAlone at c)) (then_skip (take_call (take_flow (suc d))) (mark m.Semicolon)) limit r ≡ Some (roll-Statement (Statement-F.CallAlone at c), x)
    alone_taken =
        let n = noded at (chain texts_of) h in
        let u = in_turn texts_of n.read in
        takes-node limit (λ at (c : Call). roll-Statement (Statement-F.CallAlone at c)) (then_skip (take_call (take_flow (suc d))) (mark m.Semicolon)) n (rising grown h) l
        (skips_behind limit (take_call (take_flow (suc d))) (mark m.Semicolon) (inside r) ((call-is c).taken u.1 (suc d) (omega (arith, k)) limit (omega (arith, l, (took_mark m.Semicolon u.2).next))) u.2)

    begun : CallAhead (inside r) → statement_at (suc d) (take_statement d) (ahead r.tokens) limit r ≡ Some (roll-Statement (Statement-F.CallAlone at c), x)
    begun (on_self e) = ap (λ k. statement_at (suc d) (take_statement d) k limit r) e ∙ alone_taken
    begun (on_name n f g) =
        ap (λ k. statement_at (suc d) (take_statement d) k limit r) n.is ∙ if_false (is_ahead is_any_name (second r.tokens)) _ _ g ∙ if_false (begins_create r.tokens) _ _ f
        ∙ if_true (begins_call (ahead r.tokens) r.tokens) _ _ ((call-is c).call (read h).1) ∙ alone_taken

-- ---- creations

abbrev creation : List Reads
creation = mark m.Dot ∷ keyword word.Create ∷ mark m.OpenParenthesis ∷ mark m.CloseParenthesis ∷ mark m.Semicolon ∷ []

create-ahead : {k : Rest} {x n y : Rest} → Took (kind.Mark m.Dot) x k → Took (kind.Keyword word.Create) k n → Took (kind.Mark m.OpenParenthesis) n y → MemberAhead x
create-ahead {k = k} {x = x} {n = n} dot t open_ =
    let past : second (second x.tokens) ≡ n.tokens = ap second (second-took dot) ∙ second-took t in
    record {
      dot = is_ahead-took (is_mark m.Dot) dot;
      open_ = ap (is_ahead (is_mark m.OpenParenthesis)) past ∙ is_ahead-took (is_mark m.OpenParenthesis) open_;
      no_dot = ap (is_ahead (is_mark m.Dot)) past ∙ is_ahead-took (is_mark m.Dot) open_;
      no_name = is_ahead-took is_any_name dot;
      no_open = is_ahead-took (is_mark m.OpenParenthesis) dot;
    }

pub create-is : (at : At) (t : Target) → Formed (closed (node at (target_text t >> chain creation))) (roll-Statement (Statement-F.Create at t))
create-is at t = record {
  grows = grown;
  begins = λ {r = r} h. part_ahead r (target-read t (read h).1).named.is refl refl;
  formed = λ {r = r} h e d k limit l.
      let n = noded at (target_text t >> chain creation) h in
      let u = in_turn (target_text t ∷ chain creation ∷ []) n.read in
      let v = in_turn creation u.2 in
      let dot = took_mark m.Dot v.1 in
      let word_ = took_keyword word.Create v.2.1 in
      let c = target-called t u.1 (create-ahead dot word_ (took_mark m.OpenParenthesis v.2.2.1)) in
      ap (λ k. statement_at (suc d) (take_statement d) k limit r) (target-read t u.1).named.is
      ∙ if_false (is_ahead is_any_name (second r.tokens)) _ _ c.no_name
      ∙ if_true (begins_create r.tokens) _ _ (c.create ∙ ap (is_ahead (is_keyword word.Create)) (second-took dot) ∙ is_ahead-took (is_keyword word.Create) word_)
      ∙ takes-node limit (λ at (t : Target). roll-Statement (Statement-F.Create at t)) take_create n (rising grown h) l (skips_behind limit take_called (chain creation) (inside r) (c.taken limit (omega (arith, l, rising growing-creation u.2))) u.2);
} where
  growing-creation : Growing 0 60 (chain creation)
  growing-creation = growing-then (growing-mark m.Dot) (growing-then (growing-keyword word.Create) (growing-then (growing-mark m.OpenParenthesis) (growing-then (growing-mark m.CloseParenthesis) (growing-mark m.Semicolon))))

  grown : Growing 1 0 (node at (target_text t >> chain creation))
  grown = growing-node at 0 (omega arith) (growing-then (growing-target t) growing-creation)

  read : {r x : Rest} → Reading (node at (target_text t >> chain creation)) r x → Through (target_text t ∷ chain creation ∷ []) (inside r) x
  read h = in_turn (target_text t ∷ chain creation ∷ []) (noded at (target_text t >> chain creation) h).read

-- ---- `print`, `rtf` and `return`

abbrev printing : List Expression → List Reads
printing es = keyword word.Print ∷ mark m.OpenParenthesis ∷ separated (map expression_text es) ∷ mark m.CloseParenthesis ∷ mark m.Semicolon ∷ []

pub print-is : (at : At) (es : List Expression) → Formed (closed (node at (chain (printing es)))) (roll-Statement (Statement-F.Print at es))
print-is at es = record {
  grows = grown;
  begins = λ {r = r} h. let u = in_turn (printing es) (noded at (chain (printing es)) h).read in part_ahead r (ahead-took (took_keyword word.Print u.1)) refl refl;
  formed = λ {r = r} h e d k limit l.
      let n = noded at (chain (printing es)) h in
      let u = in_turn (printing es) n.read in
      let t = took_keyword word.Print u.1 in
      let take = take_expression (suc d) in
      let close = took_mark m.CloseParenthesis u.2.2.2.1 in
      let list = some-taken expression_text take (suc d) limit es (each_expression (suc d) limit es) u.2.2.1 (list-parenthesis close) (omega (arith, k, fewer-took t, fewer-took (took_mark m.OpenParenthesis u.2.1))) (omega (arith, l, close.next, (took_mark m.Semicolon u.2.2.2.2).next)) in
      ap (λ k. statement_at (suc d) (take_statement d) k limit r) (ahead-took t)
      ∙ takes-node limit (λ at (es : List Expression). roll-Statement (Statement-F.Print at es)) (skip_then (keyword word.Print) (then_skip (parenthesized (some_of take)) (mark m.Semicolon))) n (rising grown h) l
      (skips limit (keyword word.Print) (then_skip (parenthesized (some_of take)) (mark m.Semicolon)) u.1
      (skips_behind limit (parenthesized (some_of take)) (mark m.Semicolon) u.0
      (skips limit (mark m.OpenParenthesis) (then_skip (some_of take) (mark m.CloseParenthesis)) u.2.1 (skips_behind limit (some_of take) (mark m.CloseParenthesis) u.2.0 list u.2.2.2.1)) u.2.2.2.2));
} where
  grown : Growing 1 0 (node at (chain (printing es)))
  grown =
      growing-node at 0 (omega arith) (growing-then (growing-keyword word.Print) (growing-then (growing-mark m.OpenParenthesis)
      (growing-then (growing-separated 1 2 expression_text es (all-of (λ e. (expression-is e).grows) es)) (growing-then (growing-mark m.CloseParenthesis) (growing-mark m.Semicolon)))))

abbrev giving : Flow → List Reads
giving f = keyword word.Rtf ∷ mark m.OpenParenthesis ∷ flow_text f ∷ mark m.CloseParenthesis ∷ mark m.Semicolon ∷ []

pub rtf-is : (at : At) (f : Flow) → Formed (closed (node at (chain (giving f)))) (roll-Statement (Statement-F.Rtf at f))
rtf-is at f = record {
  grows = grown;
  begins = λ {r = r} h. let u = in_turn (giving f) (noded at (chain (giving f)) h).read in part_ahead r (ahead-took (took_keyword word.Rtf u.1)) refl refl;
  formed = λ {r = r} h e d k limit l.
      let n = noded at (chain (giving f)) h in
      let u = in_turn (giving f) n.read in
      let t = took_keyword word.Rtf u.1 in
      let take = take_flow (suc d) in
      let close = took_mark m.CloseParenthesis u.2.2.2.1 in
      let value = (flow-is f).taken u.2.2.1 (ends-took parenthesis close) (suc d) (omega (arith, k, fewer-took t, fewer-took (took_mark m.OpenParenthesis u.2.1))) limit (omega (arith, l, close.next, (took_mark m.Semicolon u.2.2.2.2).next)) in
      ap (λ k. statement_at (suc d) (take_statement d) k limit r) (ahead-took t)
      ∙ takes-node limit (λ at (f : Flow). roll-Statement (Statement-F.Rtf at f)) (skip_then (keyword word.Rtf) (then_skip (parenthesized take) (mark m.Semicolon))) n (rising grown h) l
      (skips limit (keyword word.Rtf) (then_skip (parenthesized take) (mark m.Semicolon)) u.1
      (skips_behind limit (parenthesized take) (mark m.Semicolon) u.0
      (skips limit (mark m.OpenParenthesis) (then_skip take (mark m.CloseParenthesis)) u.2.1 (skips_behind limit take (mark m.CloseParenthesis) u.2.0 value u.2.2.2.1)) u.2.2.2.2));
} where
  grown : Growing 1 0 (node at (chain (giving f)))
  grown =
      growing-node at 0 (omega arith) (growing-then (growing-keyword word.Rtf) (growing-then (growing-mark m.OpenParenthesis)
      (growing-then (flow-is f).grows (growing-then (growing-mark m.CloseParenthesis) (growing-mark m.Semicolon)))))

abbrev returning : Option Expression → List Reads
returning o = keyword word.Return ∷ optional (option_map expression_text o) ∷ mark m.Semicolon ∷ []

returned : (o : Option Expression) (d : ℕ) {r x y : Rest} → Reading (optional (option_map expression_text o)) r x → Took (kind.Mark m.Semicolon) x y → length r.tokens ≤ d → (limit : ℕ) → x.next ≤ limit
    → unless_ahead (is_mark m.Semicolon) (take_expression d) limit r ≡ Some (o, x)
returned None d h t k limit l = unless-none limit (is_mark m.Semicolon) (take_expression d) (some_same h.is) (is_ahead-took (is_mark m.Semicolon) t)
returned (Some e) d {r = r} {x = x} h t k limit l =
    let g : Reading (expression_text e) r x = record { is = h.is } in
    unless-some limit (is_mark m.Semicolon) (take_expression d) r ((expression-is e).begins g).no_semicolon (takes-expression (expression-is e) g (ends-took semicolon t) d k limit l)

pub return-is : (at : At) (o : Option Expression) → Formed (closed (node at (chain (returning o)))) (roll-Statement (Statement-F.Return at o))
return-is at o = record {
  grows = grown;
  begins = λ {r = r} h. let u = in_turn (returning o) (noded at (chain (returning o)) h).read in part_ahead r (ahead-took (took_keyword word.Return u.1)) refl refl;
  formed = λ {r = r} h e d k limit l.
      let n = noded at (chain (returning o)) h in
      let u = in_turn (returning o) n.read in
      let t = took_keyword word.Return u.1 in
      let take = unless_ahead (is_mark m.Semicolon) (take_expression (suc d)) in
      let end_ = took_mark m.Semicolon u.2.2 in
      let value = returned o (suc d) u.2.1 end_ (omega (arith, k, fewer-took t)) limit (omega (arith, l, end_.next)) in
      ap (λ k. statement_at (suc d) (take_statement d) k limit r) (ahead-took t)
      ∙ takes-node limit (λ at (o : Option Expression). roll-Statement (Statement-F.Return at o)) (skip_then (keyword word.Return) (then_skip take (mark m.Semicolon))) n (rising grown h) l
      (skips limit (keyword word.Return) (then_skip take (mark m.Semicolon)) u.1 (skips_behind limit take (mark m.Semicolon) u.0 value u.2.2));
} where
  grown : Growing 1 0 (node at (chain (returning o)))
  grown = growing-node at 0 (omega arith) (growing-then (growing-keyword word.Return) (growing-then (growing-optional expression_text (λ e. (expression-is e).grows) o) (growing-mark m.Semicolon)))
