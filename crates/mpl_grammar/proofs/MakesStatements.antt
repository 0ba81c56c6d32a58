-- Trees of statements, from their tokens.
use Rattle.std.proofs.Common.{◌≡◌, ℕ, ◌+◌, Bool, true, false, ◌&&◌, List, ◌∷◌, Some, None, if◌then◌else◌, refl, ap, sym, ◌∙◌}
use Rattle.mpl_ast.specs.declared.statement.Block.{Block, Block-F, fold-roll-Block, roll-Block}
use Rattle.mpl_ast.specs.declared.statement.Declarator.TheVariants as declarator
use Rattle.mpl_ast.specs.declared.statement.ForStart.TheVariants as start
use Rattle.mpl_ast.specs.declared.statement.Statement.{Statement, fold-roll-Statement, map-Statement, roll-Statement}
use Rattle.mpl_ast.specs.declared.statement.Statement.TheOpen.{Statement-F}
use Rattle.mpl_ast.specs.declared.token.Keyword.TheVariants as word
use Rattle.mpl_ast.specs.declared.token.Mark.TheVariants as m
use Rattle.mpl_ast.specs.declared.token.Token.{Token}
use Rattle.mpl_mean.specs.Text.ExpressionText.{expression_text, target_text}
use Rattle.mpl_mean.specs.Text.Reading.{Reads, is_keyword, is_mark}
use Rattle.mpl_mean.specs.Text.StatementText as text
use Rattle.mpl_mean.specs.Text.StatementText.{StatementText, assignment_text, before_else, block_of, block_text, call_text, declarator_text, dimension_text, flow_text, for_head_text, for_start_text, local_text, refused, statement_of, statement_text}
use Rattle.mpl_mean.proofs.Readers.Parts.{Reading, told}
use Rattle.mpl_grammar.specs.Internal.Kinds.{is_any_name, is_any_number, is_type}
use Rattle.mpl_grammar.proofs.Makes.{Makes, ◌▸◌, all_after_first, all_separated, makes-separated, makes-type, named, numbered, past, place_of, reads-keyword, reads-mark, reads-mark_on, reads-name, reads-node, reads-number, rest_at}
use Rattle.mpl_grammar.proofs.Parts.{Around, Brackets, ElsePart, MadeStatement, StatementMakes, UpTo, any, around, brackets, else_first, no_else, up_to, with_else}
use Rattle.mpl_grammar.proofs.StatementTrees.{block_reads, texts_of}

-- ---- what may stand or not

pub makes-any : {A : Type 0} {text : A → Reads} {ts rest : List Token} → Makes text ts rest → Makes (any text) ts rest
makes-any p = record { make = λ l n. let a = p.make l n in record { tree = Some a.tree; last = a.last; next = a.next; reads = record { is = a.reads.is } } }

pub makes-none : {A : Type 0} (text : A → Reads) (ts : List Token) → Makes (any text) ts ts
makes-none text ts = record { make = λ l n. record { tree = None; last = l; next = n; reads = record { is = refl } } }

-- ---- dimensions, declarators and locals

pub makes-dimension : (t u c : Token) (rest : List Token) → is_mark m.OpenBracket t.kind ≡ true → is_any_number u.kind ≡ true → is_mark m.CloseBracket c.kind ≡ true → Makes dimension_text (t ∷ u ∷ c ∷ rest) rest
makes-dimension t u c rest h i j = record {
  make = λ l n. record {
    tree = record { at = place_of t n c.span.to; mark_line = t.line; number = numbered u };
    last = c.span.to;
    next = n + 1;
    reads = reads-node t (u ∷ c ∷ rest) l n _ (past c rest (n + 1)) (reads-mark_on m.OpenBracket t (u ∷ c ∷ rest) l (n + 1) h ▸ reads-number u (c ∷ rest) t.span.to (n + 1) i ▸ reads-mark m.CloseBracket c rest u.span.to (n + 1) j);
  };
}

pub declares-plain : (t : Token) {ts rest : List Token} → is_any_name t.kind ≡ true → Makes (any dimension_text) ts rest → Makes declarator_text (t ∷ ts) rest
declares-plain t {ts = ts} {rest = rest} h p = record {
  make = λ l n.
      let a = p.make t.span.to (n + 1) in
      record { tree = declarator.Plain (place_of t n a.last) (named t) a.tree; last = a.last; next = a.next; reads = reads-node t ts l n _ (rest_at rest a.last a.next) (reads-name t ts l (n + 1) h ▸ a.reads) };
}

pub declares-value : (t o : Token) {ts rest : List Token} → is_any_name t.kind ≡ true → is_mark m.Assign o.kind ≡ true → Makes flow_text ts rest → Makes declarator_text (t ∷ o ∷ ts) rest
declares-value t o {ts = ts} {rest = rest} h i p = record {
  make = λ l n.
      let a = p.make o.span.to (n + 1) in
      record { tree = declarator.Initialized (place_of t n a.last) (named t) a.tree; last = a.last; next = a.next; reads = reads-node t (o ∷ ts) l n _ (rest_at rest a.last a.next) (reads-name t (o ∷ ts) l (n + 1) h ▸ reads-mark m.Assign o ts t.span.to (n + 1) i ▸ a.reads) };
}

pub makes-local : (t : Token) {ts mid rest : List Token} → is_type t.kind ≡ true → Makes declarator_text ts mid → Makes (all_after_first declarator_text) mid rest → Makes local_text (t ∷ ts) rest
makes-local t {ts = ts} {rest = rest} h p q = record {
  make = λ l n.
      let a = (makes-type t ts h).make l (n + 1) in
      let b = (makes-separated p q).make a.last a.next in
      record { tree = record { at = place_of t n b.last; type_name = a.tree; declarators = b.tree }; last = b.last; next = b.next; reads = reads-node t ts l n _ (rest_at rest b.last b.next) (a.reads ▸ b.reads) };
}

-- ---- statements

abbrev step : Statement-F Statement Block → StatementText
step layer = text.statement_step (map-Statement Statement Block StatementText Reads statement_of block_reads layer)

made-statement : (layer : Statement-F Statement Block) {ts : List Token} {l n : ℕ} (rest : List Token) (last next : ℕ) → Reading (step layer).text (rest_at ts l n) (rest_at rest last next)
    → (else_first rest && (step layer).takes_else) ≡ false → MadeStatement ts l n rest
made-statement layer rest last next h e =
    let rolled = fold-roll-Statement StatementText Reads text.statement_step text.block_step layer in
    record {
      tree = roll-Statement layer;
      last = last;
      next = next;
      reads = told (sym (ap (λ (s : StatementText). s.text) rolled)) h;
      free = ap (λ (s : StatementText). else_first rest && s.takes_else) rolled ∙ e;
    }

pub and_false : (b : Bool) → (b && false) ≡ false
and_false true = refl
and_false false = refl

pub statement-empty : (t : Token) (rest : List Token) → is_mark m.Semicolon t.kind ≡ true → StatementMakes (t ∷ rest) rest
statement-empty t rest h = record {
  make = λ l n. made-statement (Statement-F.Empty (place_of t n t.span.to)) rest t.span.to (n + 1) (reads-node t rest l n _ (past t rest (n + 1)) (reads-mark m.Semicolon t rest l (n + 1) h)) (and_false _);
}

pub statement-local : {t : Token} {ts : List Token} (s : Token) {rest : List Token} → Makes local_text (t ∷ ts) (s ∷ rest) → is_mark m.Semicolon s.kind ≡ true → StatementMakes (t ∷ ts) rest
statement-local {t = t} {ts = ts} s {rest = rest} p h = record {
  make = λ l n.
      let a = p.make l (n + 1) in
      made-statement (Statement-F.Declare (place_of t n s.span.to) a.tree) rest s.span.to a.next (reads-node t ts l n _ (past s rest a.next) (a.reads ▸ reads-mark m.Semicolon s rest a.last a.next h)) (and_false _);
}

pub statement-assign : {t : Token} {ts : List Token} (s : Token) {rest : List Token} → Makes assignment_text (t ∷ ts) (s ∷ rest) → is_mark m.Semicolon s.kind ≡ true → StatementMakes (t ∷ ts) rest
statement-assign {t = t} {ts = ts} s {rest = rest} p h = record {
  make = λ l n.
      let a = p.make l (n + 1) in
      made-statement (Statement-F.Assign (place_of t n s.span.to) a.tree) rest s.span.to a.next (reads-node t ts l n _ (past s rest a.next) (a.reads ▸ reads-mark m.Semicolon s rest a.last a.next h)) (and_false _);
}

pub statement-call : {t : Token} {ts : List Token} (s : Token) {rest : List Token} → Makes call_text (t ∷ ts) (s ∷ rest) → is_mark m.Semicolon s.kind ≡ true → StatementMakes (t ∷ ts) rest
statement-call {t = t} {ts = ts} s {rest = rest} p h = record {
  make = λ l n.
      let a = p.make l (n + 1) in
      made-statement (Statement-F.CallAlone (place_of t n s.span.to) a.tree) rest s.span.to a.next (reads-node t ts l n _ (past s rest a.next) (a.reads ▸ reads-mark m.Semicolon s rest a.last a.next h)) (and_false _);
}

pub statement-create : {t : Token} {ts : List Token} (d w : Token) {us : List Token} (s : Token) {rest : List Token} → Makes target_text (t ∷ ts) (d ∷ w ∷ us) → is_mark m.Dot d.kind ≡ true → is_keyword word.Create w.kind ≡ true
    → Brackets us (s ∷ rest) → is_mark m.Semicolon s.kind ≡ true → StatementMakes (t ∷ ts) rest
statement-create {t = t} {ts = ts} d w s {rest = rest} p i j (brackets a b e f) h = record {
  make = λ l n.
      let c = p.make l (n + 1) in
      made-statement (Statement-F.Create (place_of t n s.span.to) c.tree) rest s.span.to c.next (reads-node t ts l n _ (past s rest c.next)
      (c.reads ▸ reads-mark m.Dot d (w ∷ a ∷ b ∷ s ∷ rest) c.last c.next i ▸ reads-keyword word.Create w (a ∷ b ∷ s ∷ rest) d.span.to c.next j
      ▸ reads-mark m.OpenParenthesis a (b ∷ s ∷ rest) w.span.to c.next e ▸ reads-mark m.CloseParenthesis b (s ∷ rest) a.span.to c.next f ▸ reads-mark m.Semicolon s rest b.span.to c.next h)) (and_false _);
}

pub statement-print : (t s : Token) {ts rest : List Token} → is_keyword word.Print t.kind ≡ true → Around m.OpenParenthesis m.CloseParenthesis (all_separated expression_text) ts (s ∷ rest) → is_mark m.Semicolon s.kind ≡ true → StatementMakes (t ∷ ts) rest
statement-print t s {rest = rest} i (around a b {ts = us} e p f) h = record {
  make = λ l n.
      let c = p.make a.span.to (n + 1) in
      made-statement (Statement-F.Print (place_of t n s.span.to) c.tree) rest s.span.to c.next (reads-node t (a ∷ us) l n _ (past s rest c.next)
      (reads-keyword word.Print t (a ∷ us) l (n + 1) i ▸ reads-mark m.OpenParenthesis a us t.span.to (n + 1) e ▸ c.reads ▸ reads-mark m.CloseParenthesis b (s ∷ rest) c.last c.next f ▸ reads-mark m.Semicolon s rest b.span.to c.next h)) (and_false _);
}

pub statement-rtf : (t s : Token) {ts rest : List Token} → is_keyword word.Rtf t.kind ≡ true → Around m.OpenParenthesis m.CloseParenthesis flow_text ts (s ∷ rest) → is_mark m.Semicolon s.kind ≡ true → StatementMakes (t ∷ ts) rest
statement-rtf t s {rest = rest} i (around a b {ts = us} e p f) h = record {
  make = λ l n.
      let c = p.make a.span.to (n + 1) in
      made-statement (Statement-F.Rtf (place_of t n s.span.to) c.tree) rest s.span.to c.next (reads-node t (a ∷ us) l n _ (past s rest c.next)
      (reads-keyword word.Rtf t (a ∷ us) l (n + 1) i ▸ reads-mark m.OpenParenthesis a us t.span.to (n + 1) e ▸ c.reads ▸ reads-mark m.CloseParenthesis b (s ∷ rest) c.last c.next f ▸ reads-mark m.Semicolon s rest b.span.to c.next h)) (and_false _);
}

pub statement-return : (t s : Token) {ts rest : List Token} → is_keyword word.Return t.kind ≡ true → Makes (any expression_text) ts (s ∷ rest) → is_mark m.Semicolon s.kind ≡ true → StatementMakes (t ∷ ts) rest
statement-return t s {ts = ts} {rest = rest} i p h = record {
  make = λ l n.
      let c = p.make t.span.to (n + 1) in
      made-statement (Statement-F.Return (place_of t n s.span.to) c.tree) rest s.span.to c.next (reads-node t ts l n _ (past s rest c.next)
      (reads-keyword word.Return t ts l (n + 1) i ▸ c.reads ▸ reads-mark m.Semicolon s rest c.last c.next h)) (and_false _);
}

-- ---- statements in statements

abbrev pub Test : List Token → List Token → Type 0
Test = Around m.OpenParenthesis m.CloseParenthesis expression_text

pub statement-while : (t : Token) {ts mid rest : List Token} → is_keyword word.While t.kind ≡ true → Test ts mid → StatementMakes mid rest → StatementMakes (t ∷ ts) rest
statement-while t {mid = mid} {rest = rest} i (around a b {ts = us} e p f) q = record {
  make = λ l n.
      let c = p.make a.span.to (n + 1) in
      let s = q.make b.span.to c.next in
      made-statement (Statement-F.While (place_of t n s.last) c.tree s.tree) rest s.last s.next (reads-node t (a ∷ us) l n _ (rest_at rest s.last s.next)
      (reads-keyword word.While t (a ∷ us) l (n + 1) i ▸ reads-mark m.OpenParenthesis a us t.span.to (n + 1) e ▸ c.reads ▸ reads-mark m.CloseParenthesis b mid c.last c.next f ▸ s.reads)) s.free;
}

pub statement-for : (t : Token) {ts mid rest : List Token} → is_keyword word.For t.kind ≡ true → Around m.OpenParenthesis m.CloseParenthesis for_head_text ts mid → StatementMakes mid rest → StatementMakes (t ∷ ts) rest
statement-for t {mid = mid} {rest = rest} i (around a b {ts = us} e p f) q = record {
  make = λ l n.
      let c = p.make a.span.to (n + 1) in
      let s = q.make b.span.to c.next in
      made-statement (Statement-F.For (place_of t n s.last) c.tree s.tree) rest s.last s.next (reads-node t (a ∷ us) l n _ (rest_at rest s.last s.next)
      (reads-keyword word.For t (a ∷ us) l (n + 1) i ▸ reads-mark m.OpenParenthesis a us t.span.to (n + 1) e ▸ c.reads ▸ reads-mark m.CloseParenthesis b mid c.last c.next f ▸ s.reads)) s.free;
}

-- a statement that doesn't take the `else` behind it, where one stands there
takes_none : (b c : Bool) → b ≡ true → (b && c) ≡ false → c ≡ false
takes_none true c e h = h
takes_none false c e h = absurd cc

reads-before_else : (s : StatementText) → s.takes_else ≡ false → before_else s ≡ s.text
reads-before_else s h = ap (λ (b : Bool). if b then refused else s.text) h

pub statement-if : (t : Token) {ts mid us rest : List Token} → is_keyword word.If t.kind ≡ true → Test ts mid → StatementMakes mid us → ElsePart us rest → StatementMakes (t ∷ ts) rest
statement-if t {mid = mid} i (around a b {ts = vs} e p f) q (no_else us g) = record {
  make = λ l n.
      let c = p.make a.span.to (n + 1) in
      let s = q.make b.span.to c.next in
      made-statement (Statement-F.If (place_of t n s.last) c.tree s.tree None) us s.last s.next (reads-node t (a ∷ vs) l n _ (rest_at us s.last s.next)
      (reads-keyword word.If t (a ∷ vs) l (n + 1) i ▸ reads-mark m.OpenParenthesis a vs t.span.to (n + 1) e ▸ c.reads ▸ reads-mark m.CloseParenthesis b mid c.last c.next f ▸ s.reads)) (ap (λ d. d && true) g);
}
statement-if t {mid = mid} i (around a b {ts = vs} e p f) q (with_else o {us = ws} {rest = rest} g r) = record {
  make = λ l n.
      let c = p.make a.span.to (n + 1) in
      let s = q.make b.span.to c.next in
      let u = r.make o.span.to s.next in
      let none = takes_none (is_keyword word.Else o.kind) (statement_of s.tree).takes_else g s.free in
      let then_reads = told (sym (reads-before_else (statement_of s.tree) none)) s.reads in
      made-statement (Statement-F.If (place_of t n u.last) c.tree s.tree (Some u.tree)) rest u.last u.next (reads-node t (a ∷ vs) l n _ (rest_at rest u.last u.next)
      (reads-keyword word.If t (a ∷ vs) l (n + 1) i ▸ reads-mark m.OpenParenthesis a vs t.span.to (n + 1) e ▸ c.reads ▸ reads-mark m.CloseParenthesis b mid c.last c.next f
      ▸ then_reads ▸ reads-keyword word.Else o ws s.last s.next g ▸ u.reads)) u.free;
}

-- ---- blocks

pub makes-statement : {ts rest : List Token} → StatementMakes ts rest → Makes statement_text ts rest
makes-statement p = record { make = λ l n. let a = p.make l n in record { tree = a.tree; last = a.last; next = a.next; reads = a.reads } }

pub makes-block : (t : Token) {ts rest : List Token} → is_mark m.OpenBrace t.kind ≡ true → UpTo statement_text ts rest → Makes block_text (t ∷ ts) rest
makes-block t {ts = ts} {rest = rest} h (up_to b p e) = record {
  make = λ l n.
      let a = p.make t.span.to (n + 1) in
      record {
        tree = roll-Block (record { at = place_of t n b.span.to; mark_line = b.line; statements = a.tree });
        last = b.span.to;
        next = a.next;
        reads = reads-node t ts l n _ (past b rest a.next) (reads-mark m.OpenBrace t ts l (n + 1) h ▸ a.reads ▸ reads-mark_on m.CloseBrace b rest a.last a.next e);
      };
}

pub statement-block : (t : Token) {ts rest : List Token} → is_mark m.OpenBrace t.kind ≡ true → UpTo statement_text ts rest → StatementMakes (t ∷ ts) rest
statement-block t {ts = ts} {rest = rest} h (up_to b p e) = record {
  make = λ l n.
      let a = p.make t.span.to (n + 1 + 1) in
      let layer : Block-F Statement Block = record { at = place_of t (n + 1) b.span.to; mark_line = b.line; statements = a.tree } in
      let block = reads-node t ts l (n + 1) _ (past b rest a.next) (reads-mark m.OpenBrace t ts l (n + 1 + 1) h ▸ a.reads ▸ reads-mark_on m.CloseBrace b rest a.last a.next e) in
      let rolled = fold-roll-Block StatementText Reads text.statement_step text.block_step layer ∙ ap (block_of (place_of t (n + 1) b.span.to) b.line) (texts_of a.tree) in
      made-statement (Statement-F.OfBlock (place_of t n b.span.to) (roll-Block layer)) rest b.span.to a.next (reads-node t ts l n _ (past b rest a.next) (told (sym rolled) block)) (and_false _);
}

-- ---- the head of a `for`

pub makes-head : {ts us vs : List Token} (s e : Token) {rest : List Token} → Makes (any for_start_text) ts (s ∷ us) → is_mark m.Semicolon s.kind ≡ true → Makes expression_text us (e ∷ vs) → is_mark m.Semicolon e.kind ≡ true
    → Makes (any assignment_text) vs rest → Makes for_head_text ts rest
makes-head {us = us} {vs = vs} s e {rest = rest} p h q i r = record {
  make = λ l n.
      let a = p.make l n in
      let b = q.make s.span.to a.next in
      let d = r.make e.span.to b.next in
      record {
        tree = record { start = a.tree; test = b.tree; step = d.tree };
        last = d.last;
        next = d.next;
        reads = record { is = (a.reads ▸ reads-mark m.Semicolon s us a.last a.next h ▸ b.reads ▸ reads-mark m.Semicolon e vs b.last b.next i ▸ d.reads).is };
      };
}

pub starts-local : {ts rest : List Token} → Makes local_text ts rest → Makes for_start_text ts rest
starts-local p = record { make = λ l n. let a = p.make l n in record { tree = start.Declare a.tree; last = a.last; next = a.next; reads = record { is = a.reads.is } } }

pub starts-assignment : {ts rest : List Token} → Makes assignment_text ts rest → Makes for_start_text ts rest
starts-assignment p = record { make = λ l n. let a = p.make l n in record { tree = start.Assign a.tree; last = a.last; next = a.next; reads = record { is = a.reads.is } } }
