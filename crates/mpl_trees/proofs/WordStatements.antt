-- Statements with others in them are taken.
use Rattle.std.proofs.Common.{◌≡◌, ℕ, suc, ◌≤◌, List, [], ◌∷◌, map, length, Bool, true, false, Option, Some, None, if◌then◌else◌, refl, ap, sym, ◌∙◌, arith, true≢false}
use Rattle.std.specs.List.{AllByRecursion}
use Rattle.std.specs.Option.{option_and_then, option_map}
use Rattle.mpl_ast.specs.declared.expression.Expression.{Expression}
use Rattle.mpl_ast.specs.declared.place.At.{At}
use Rattle.mpl_ast.specs.declared.statement.Block.{Block, roll-Block}
use Rattle.mpl_ast.specs.declared.statement.ForHead.{ForHead}
use Rattle.mpl_ast.specs.declared.statement.Statement.{Statement, roll-Statement}
use Rattle.mpl_ast.specs.declared.statement.Statement.TheOpen.{Statement-F}
use Rattle.mpl_ast.specs.declared.token.Keyword.TheVariants as word
use Rattle.mpl_ast.specs.declared.token.Mark.TheVariants as m
use Rattle.mpl_ast.specs.declared.token.TokenKind.TheVariants as kind
use Rattle.mpl_mean.specs.Text.ExpressionText.{expression_text}
use Rattle.mpl_mean.specs.Text.Reading.{Reads, Rest, each, is_keyword, keyword, mark, mark_on, node}
use Rattle.mpl_mean.specs.Text.StatementText.{StatementText, before_else, block_of, closed, ending_with, for_head_text, refused, statement_of, statement_text}
use Rattle.mpl_mean.proofs.Readers.Parts.{Reading, chain, in_turn}
use Rattle.mpl_trees.specs.Expressions.{take_expression}
use Rattle.mpl_trees.specs.Statements.{statement_at, take_block, take_closed, take_for_head, take_statement, take_test}
use Rattle.mpl_trees.specs.Taking.{Takes, ahead, all_of, both, is_ahead, line_of, made, parenthesized, skip_then, then_skip, where_ahead}
use Rattle.mpl_trees.proofs.Steps.{if_false, if_true, joins, makes, skips, skips_behind}
use Rattle.mpl_trees.proofs.Took.{ahead-took, fewer-took, mark_read, noded, takes-node, took_keyword, took_mark, took_mark_on}
use Rattle.mpl_trees.proofs.Growth.{Growing, fewer, growing-each, growing-keyword, growing-mark, growing-mark_on, growing-node, growing-then, rising}
use Rattle.mpl_trees.proofs.Operators.{is_ahead-took}
use Rattle.mpl_trees.proofs.Ends.{ends-took, parenthesis}
use Rattle.mpl_trees.proofs.Levels.{takes-expression}
use Rattle.mpl_trees.proofs.Expressions.{expression-is}
use Rattle.mpl_trees.proofs.Blocks.{PartTaken, all-taken, part_ahead}
use Rattle.mpl_trees.proofs.Heads.{growing-head, head-taken}
use Rattle.mpl_trees.proofs.PlainStatements.{Formed, Stated}

-- ---- a test in parentheses

pub test-taken : (e : Expression) (d : ℕ) (r : Rest) {k y x : Rest} → Reading (mark m.OpenParenthesis) r k → Reading (expression_text e) k y → Reading (mark m.CloseParenthesis) y x → length k.tokens ≤ d → (limit : ℕ) → x.next ≤ limit → take_test d limit r ≡ Some (e, x)
test-taken e d r {k = k} g h i l limit b =
    let close = took_mark m.CloseParenthesis i in
    let test = takes-expression (expression-is e) h (ends-took parenthesis close) d l limit (omega (arith, b, close.next)) in
    skips limit (mark m.OpenParenthesis) (then_skip (take_expression d) (mark m.CloseParenthesis)) g (skips_behind limit (take_expression d) (mark m.CloseParenthesis) k test i)

-- ---- `while`

abbrev looping : Expression → StatementText → List Reads
looping e t = keyword word.While ∷ mark m.OpenParenthesis ∷ expression_text e ∷ mark m.CloseParenthesis ∷ t.text ∷ []

pub while-is : (at : At) (e : Expression) (t : StatementText) (s : Statement) → Stated t s → Formed (ending_with t (node at (chain (looping e t)))) (roll-Statement (Statement-F.While at e s))
while-is at e t s i = record {
  grows = grown;
  begins = λ {r = r} h. let u = in_turn (looping e t) (noded at (chain (looping e t)) h).read in part_ahead r (ahead-took (took_keyword word.While u.1)) refl refl;
  formed = λ {r = r} h f d k limit l.
      let n = noded at (chain (looping e t)) h in
      let u = in_turn (looping e t) n.read in
      let w = took_keyword word.While u.1 in
      let open_ = took_mark m.OpenParenthesis u.2.1 in
      let close = took_mark m.CloseParenthesis u.2.2.2.1 in
      let test = test-taken e (suc d) u.0 u.2.1 u.2.2.1 u.2.2.2.1 (omega (arith, k, fewer-took w, fewer-took open_)) limit (omega (arith, l, rising i.grows u.2.2.2.2)) in
      let body = i.taken u.2.2.2.2 f d (omega (arith, k, fewer-took w, fewer-took open_, fewer (expression-is e).grows u.2.2.1, fewer-took close)) limit l in
      ap (λ k. statement_at (suc d) (take_statement d) k limit r) (ahead-took w)
      ∙ takes-node limit (λ at (p : Expression × Statement). roll-Statement (Statement-F.While at p.0 p.1)) (skip_then (keyword word.While) (both (λ test body. (test, body)) (take_test (suc d)) (take_statement d))) n (rising grown h) l
      (skips limit (keyword word.While) (both (λ test body. (test, body)) (take_test (suc d)) (take_statement d)) u.1 (joins limit (λ test body. (test, body)) (take_test (suc d)) (take_statement d) u.0 test body));
} where
  grown : Growing 1 0 (node at (chain (looping e t)))
  grown =
      growing-node at 0 (omega arith) (growing-then (growing-keyword word.While) (growing-then (growing-mark m.OpenParenthesis)
      (growing-then (expression-is e).grows (growing-then (growing-mark m.CloseParenthesis) i.grows))))

-- ---- `for`

abbrev counting : ForHead → StatementText → List Reads
counting f t = keyword word.For ∷ mark m.OpenParenthesis ∷ for_head_text f ∷ mark m.CloseParenthesis ∷ t.text ∷ []

pub for-is : (at : At) (f : ForHead) (t : StatementText) (s : Statement) → Stated t s → Formed (ending_with t (node at (chain (counting f t)))) (roll-Statement (Statement-F.For at f s))
for-is at f t s i = record {
  grows = grown;
  begins = λ {r = r} h. let u = in_turn (counting f t) (noded at (chain (counting f t)) h).read in part_ahead r (ahead-took (took_keyword word.For u.1)) refl refl;
  formed = λ {r = r} h e d k limit l.
      let n = noded at (chain (counting f t)) h in
      let u = in_turn (counting f t) n.read in
      let w = took_keyword word.For u.1 in
      let open_ = took_mark m.OpenParenthesis u.2.1 in
      let close = took_mark m.CloseParenthesis u.2.2.2.1 in
      let take = take_for_head (suc d) in
      let head = head-taken f (suc d) u.2.2.1 close (omega (arith, k, fewer-took w, fewer-took open_)) limit (omega (arith, l, rising i.grows u.2.2.2.2, close.next)) in
      let body = i.taken u.2.2.2.2 e d (omega (arith, k, fewer-took w, fewer-took open_, fewer (growing-head f) u.2.2.1, fewer-took close)) limit l in
      ap (λ k. statement_at (suc d) (take_statement d) k limit r) (ahead-took w)
      ∙ takes-node limit (λ at (p : ForHead × Statement). roll-Statement (Statement-F.For at p.0 p.1)) (skip_then (keyword word.For) (both (λ head body. (head, body)) (parenthesized take) (take_statement d))) n (rising grown h) l
      (skips limit (keyword word.For) (both (λ head body. (head, body)) (parenthesized take) (take_statement d)) u.1
      (joins limit (λ head body. (head, body)) (parenthesized take) (take_statement d) u.0
      (skips limit (mark m.OpenParenthesis) (then_skip take (mark m.CloseParenthesis)) u.2.1 (skips_behind limit take (mark m.CloseParenthesis) u.2.0 head u.2.2.2.1)) body));
} where
  grown : Growing 1 0 (node at (chain (counting f t)))
  grown =
      growing-node at 0 (omega arith) (growing-then (growing-keyword word.For) (growing-then (growing-mark m.OpenParenthesis)
      (growing-then (growing-head f) (growing-then (growing-mark m.CloseParenthesis) i.grows))))

-- ---- `if`

abbrev branching : Expression → StatementText → List Reads
branching e t = keyword word.If ∷ mark m.OpenParenthesis ∷ expression_text e ∷ mark m.CloseParenthesis ∷ t.text ∷ []

abbrev branches : Takes Statement → Takes (Statement × Option Statement)
branches statement = both (λ first other. (first, other)) statement (where_ahead (is_keyword word.Else) (skip_then (keyword word.Else) statement))

pub if-is : (at : At) (e : Expression) (t : StatementText) (s : Statement) → Stated t s → Formed (record { text = node at (chain (branching e t)); takes_else = true }) (roll-Statement (Statement-F.If at e s None))
if-is at e t s i = record {
  grows = grown;
  begins = λ {r = r} h. let u = in_turn (branching e t) (noded at (chain (branching e t)) h).read in part_ahead r (ahead-took (took_keyword word.If u.1)) refl refl;
  formed = λ {r = r} {x = x} h f d k limit l.
      let n = noded at (chain (branching e t)) h in
      let u = in_turn (branching e t) n.read in
      let w = took_keyword word.If u.1 in
      let open_ = took_mark m.OpenParenthesis u.2.1 in
      let close = took_mark m.CloseParenthesis u.2.2.2.1 in
      let statement = take_statement d in
      let test = test-taken e (suc d) u.0 u.2.1 u.2.2.1 u.2.2.2.1 (omega (arith, k, fewer-took w, fewer-took open_)) limit (omega (arith, l, rising i.grows u.2.2.2.2)) in
      let first = i.taken u.2.2.2.2 (λ g. f refl) d (omega (arith, k, fewer-took w, fewer-took open_, fewer (expression-is e).grows u.2.2.1, fewer-took close)) limit l in
      let no_other : where_ahead (is_keyword word.Else) (skip_then (keyword word.Else) statement) limit x ≡ Some (None, x) =
      if_false {A = Option Statement × Rest} (is_ahead (is_keyword word.Else) x.tokens) (made Some (skip_then (keyword word.Else) statement) limit x) (Some (None, x)) (f refl) in
      ap (λ k. statement_at (suc d) (take_statement d) k limit r) (ahead-took w)
      ∙ takes-node limit (λ at (p : Expression × (Statement × Option Statement)). roll-Statement (Statement-F.If at p.0 p.1.0 p.1.1)) (skip_then (keyword word.If) (both (λ test parts. (test, parts)) (take_test (suc d)) (branches statement))) n (rising grown h) l
      (skips limit (keyword word.If) (both (λ test parts. (test, parts)) (take_test (suc d)) (branches statement)) u.1
      (joins limit (λ test parts. (test, parts)) (take_test (suc d)) (branches statement) u.0 test
      (joins limit (λ first other. (first, other)) statement (where_ahead (is_keyword word.Else) (skip_then (keyword word.Else) statement)) u.2.2.2.0 first no_other)));
} where
  grown : Growing 1 0 (node at (chain (branching e t)))
  grown =
      growing-node at 0 (omega arith) (growing-then (growing-keyword word.If) (growing-then (growing-mark m.OpenParenthesis)
      (growing-then (expression-is e).grows (growing-then (growing-mark m.CloseParenthesis) i.grows))))

abbrev choosing : Expression → StatementText → StatementText → List Reads
choosing e t o = keyword word.If ∷ mark m.OpenParenthesis ∷ expression_text e ∷ mark m.CloseParenthesis ∷ before_else t ∷ keyword word.Else ∷ o.text ∷ []

-- what is read before an `else` doesn't take it
no_else : (b : Bool) (a : Reads) {r x : Rest} → Reading (if b then refused else a) r x → (b ≡ false) × Reading a r x
no_else true a h = let nothing_read = h.is in absurd cc
no_else false a h = (refl, h)

growing-before_else : {s : ℕ} {a : Reads} (b : Bool) → Growing 1 s a → Growing 1 s (if b then refused else a)
growing-before_else {a = a} b g = record { holds = λ h. g.holds (no_else b a h).1 }

pub if_else-is : (at : At) (e : Expression) (t o : StatementText) (s v : Statement) → Stated t s → Stated o v → Formed (ending_with o (node at (chain (choosing e t o)))) (roll-Statement (Statement-F.If at e s (Some v)))
if_else-is at e t o s v i j = record {
  grows = grown;
  begins = λ {r = r} h. let u = in_turn (choosing e t o) (noded at (chain (choosing e t o)) h).read in part_ahead r (ahead-took (took_keyword word.If u.1)) refl refl;
  formed = λ {r = r} {x = x} h f d k limit l.
      let n = noded at (chain (choosing e t o)) h in
      let u = in_turn (choosing e t o) n.read in
      let w = took_keyword word.If u.1 in
      let open_ = took_mark m.OpenParenthesis u.2.1 in
      let close = took_mark m.CloseParenthesis u.2.2.2.1 in
      let taken = no_else t.takes_else t.text u.2.2.2.2.1 in
      let else_ = took_keyword word.Else u.2.2.2.2.2.1 in
      let statement = take_statement d in
      let other = skip_then (keyword word.Else) statement in
      let behind_first : u.2.2.2.2.0.next ≤ limit = omega (arith, l, rising j.grows u.2.2.2.2.2.2, else_.next) in
      let test = test-taken e (suc d) u.0 u.2.1 u.2.2.1 u.2.2.2.1 (omega (arith, k, fewer-took w, fewer-took open_)) limit (omega (arith, behind_first, rising i.grows taken.1)) in
      let before_first : length u.2.2.2.0.tokens ≤ d = omega (arith, k, fewer-took w, fewer-took open_, fewer (expression-is e).grows u.2.2.1, fewer-took close) in
      let first = i.taken taken.1 (λ g. absurd (true≢false (sym g ∙ taken.0))) d before_first limit behind_first in
      let second_ = j.taken u.2.2.2.2.2.2 f d (omega (arith, before_first, fewer i.grows taken.1, fewer-took else_)) limit l in
      let behind : where_ahead (is_keyword word.Else) other limit u.2.2.2.2.0 ≡ Some (Some v, x) =
      if_true {A = Option Statement × Rest} (is_ahead (is_keyword word.Else) u.2.2.2.2.0.tokens) (made Some other limit u.2.2.2.2.0) (Some (None, u.2.2.2.2.0)) (is_ahead-took (is_keyword word.Else) else_)
      ∙ makes limit Some other u.2.2.2.2.0 (skips limit (keyword word.Else) statement u.2.2.2.2.2.1 second_) in
      ap (λ k. statement_at (suc d) (take_statement d) k limit r) (ahead-took w)
      ∙ takes-node limit (λ at (p : Expression × (Statement × Option Statement)). roll-Statement (Statement-F.If at p.0 p.1.0 p.1.1)) (skip_then (keyword word.If) (both (λ test parts. (test, parts)) (take_test (suc d)) (branches statement))) n (rising grown h) l
      (skips limit (keyword word.If) (both (λ test parts. (test, parts)) (take_test (suc d)) (branches statement)) u.1
      (joins limit (λ test parts. (test, parts)) (take_test (suc d)) (branches statement) u.0 test
      (joins limit (λ first other. (first, other)) statement (where_ahead (is_keyword word.Else) other) u.2.2.2.0 first behind)));
} where
  grown : Growing 1 0 (node at (chain (choosing e t o)))
  grown =
      growing-node at 0 (omega arith) (growing-then (growing-keyword word.If) (growing-then (growing-mark m.OpenParenthesis)
      (growing-then (expression-is e).grows (growing-then (growing-mark m.CloseParenthesis)
      (growing-then (growing-before_else t.takes_else i.grows) (growing-then (growing-keyword word.Else) j.grows))))))

-- ---- blocks

pub record Blocked (a : Reads) (b : Block) : Type 0 where
  pub grows : Growing 1 1 a
  pub first : {r x : Rest} → Reading a r x → ahead r.tokens ≡ Some (kind.Mark m.OpenBrace)
  pub taken : {r x : Rest} → Reading a r x → (d : ℕ) → length r.tokens ≤ suc d → (limit : ℕ) → x.next ≤ limit → take_block (take_statement d) limit r ≡ Some (b, x)

abbrev IsStated : Statement → Type 0
IsStated s = Stated (statement_of s) s

each_part : (d limit : ℕ) (ts : List Statement) → AllByRecursion IsStated ts → AllByRecursion (PartTaken statement_text (take_statement d) d limit) ts
each_part d limit [] all = tt
each_part d limit (s ∷ ts) all = (record { begins = λ h. all.0.begins h; grows = all.0.grows; takes = λ h e k l. all.0.taken h (λ g. e) d k limit l }, each_part d limit ts all.1)

each_grows : (ts : List Statement) → AllByRecursion IsStated ts → AllByRecursion (λ s. Growing 1 0 (statement_text s)) ts
each_grows [] all = tt
each_grows (s ∷ ts) all = (all.0.grows, each_grows ts all.1)

closes : (limit : ℕ) (take : Takes (List Statement)) (line : ℕ) (r : Rest) {k x : Rest} {ts : List Statement} → take limit r ≡ Some (ts, k) → Reading (mark_on line m.CloseBrace) k x → take_closed take limit r ≡ Some ((ts, line), x)
closes limit take line r {k = k} {x = x} {ts = ts} e h =
    ap (option_and_then (λ (p : List Statement × Rest). option_map (λ (x : Rest). ((p.0, line_of p.1.tokens), x)) (mark m.CloseBrace p.1))) e
    ∙ ap (option_map (λ (x : Rest). ((ts, line_of k.tokens), x))) (mark_read line m.CloseBrace h).is ∙ ap (λ line. Some ((ts, line), x)) (took_mark_on line m.CloseBrace h).line_is

abbrev braces : ℕ → List Statement → List Reads
braces line ts = mark m.OpenBrace ∷ each (map statement_text ts) ∷ mark_on line m.CloseBrace ∷ []

pub block-is : (at : At) (line : ℕ) (ts : List Statement) → AllByRecursion IsStated ts → Blocked (block_of at line (map statement_text ts)) (roll-Block (record { at = at; mark_line = line; statements = ts }))
block-is at line ts all = record {
  grows = grown;
  first = λ h. let u = in_turn (braces line ts) (noded at (chain (braces line ts)) h).read in ahead-took (took_mark m.OpenBrace u.1);
  taken = λ {r = r} h d k limit l.
      let n = noded at (chain (braces line ts)) h in
      let u = in_turn (braces line ts) n.read in
      let t = took_mark m.OpenBrace u.1 in
      let take = all_of (take_statement d) (length r.tokens) in
      let close = (took_mark_on line m.CloseBrace u.2.2).took in
      let list = all-taken statement_text (take_statement d) d limit (length r.tokens) ts (each_part d limit ts all) u.2.1 close (omega (arith, k, fewer-took t)) (omega (arith, fewer-took t)) (omega (arith, l, close.next)) in
      takes-node limit (λ at (p : List Statement × ℕ). roll-Block (record { at = at; mark_line = p.1; statements = p.0 })) (skip_then (mark m.OpenBrace) (take_closed take)) n (rising grown h) l
      (skips limit (mark m.OpenBrace) (take_closed take) u.1 (closes limit take line u.0 list u.2.2));
} where
  grown : Growing 1 1 (node at (chain (braces line ts)))
  grown = growing-node at 1 (omega arith) (growing-then (growing-mark m.OpenBrace) (growing-then (growing-each 1 0 statement_text ts (each_grows ts all)) (growing-mark_on line m.CloseBrace)))

pub of_block-is : (at : At) (a : Reads) (b : Block) → Blocked a b → Formed (closed (node at a)) (roll-Statement (Statement-F.OfBlock at b))
of_block-is at a b i = record {
  grows = growing-node at 0 (omega arith) i.grows;
  begins = λ {r = r} h. part_ahead r (i.first (noded at a h).read) refl refl;
  formed = λ {r = r} h e d k limit l.
      let n = noded at a h in
      ap (λ k. statement_at (suc d) (take_statement d) k limit r) (i.first n.read) ∙ takes-node limit (λ at (b : Block). roll-Statement (Statement-F.OfBlock at b)) (take_block (take_statement d)) n (omega (arith, rising i.grows n.read)) l (i.taken n.read d k limit l);
}
