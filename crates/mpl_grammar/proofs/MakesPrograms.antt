-- Trees of declarations, from their tokens.
use Rattle.std.proofs.Common.{◌≡◌, ℕ, ◌+◌, Bool, true, false, ◌||◌, List, ◌∷◌, refl, ◌⊎◌, inl, inr}
use Rattle.mpl_ast.specs.declared.class.Item.TheVariants as item
use Rattle.mpl_ast.specs.declared.class.Kind.TheVariants.{Regular, Persistent}
use Rattle.mpl_ast.specs.declared.class.ResultType.TheVariants.{Void, Typed}
use Rattle.mpl_ast.specs.declared.program.Declaration.TheVariants as declaration
use Rattle.mpl_ast.specs.declared.token.Keyword.TheVariants as word
use Rattle.mpl_ast.specs.declared.token.Mark.TheVariants as m
use Rattle.mpl_ast.specs.declared.token.Token.{Token}
use Rattle.mpl_mean.specs.Text.ProgramText.{declaration_text, entry_text, field_name_text, field_text, formal_text, formals_text, guard_text, item_text, kind_text, result_text}
use Rattle.mpl_mean.specs.Text.Reading.{is_keyword, is_mark}
use Rattle.mpl_mean.specs.Text.StatementText.{block_text, dimension_text}
use Rattle.mpl_grammar.specs.Internal.Kinds.{is_access, is_any_name, is_any_number, is_kind, is_type}
use Rattle.mpl_grammar.proofs.Makes.{Made, Makes, ◌▸◌, all_after_first, makes-separated, makes-type, named, numbered, past, place_of, reads-keyword, reads-mark, reads-mark_on, reads-name, reads-node, reads-number, rest_at}
use Rattle.mpl_grammar.proofs.MakesStatements.{Test}
use Rattle.mpl_grammar.proofs.Parts.{Around, Braced, any, around, braced, up_to}

either : (b c : Bool) → (b || c) ≡ true → (b ≡ true) ⊎ (c ≡ true)
either true c h = inl refl
either false c h = inr h

-- ---- fields and formals

pub makes-field_name : (t : Token) {ts rest : List Token} → is_any_name t.kind ≡ true → Makes (any dimension_text) ts rest → Makes field_name_text (t ∷ ts) rest
makes-field_name t {ts = ts} h p = record {
  make = λ l n.
      let a = p.make t.span.to n in
      record { tree = record { name = named t; dimension = a.tree }; last = a.last; next = a.next; reads = record { is = (reads-name t ts l n h ▸ a.reads).is } };
}

pub makes-field : (t : Token) {ts : List Token} (s : Token) {mid rest : List Token} → is_type t.kind ≡ true → Makes field_name_text ts mid → Makes (all_after_first field_name_text) mid (s ∷ rest) → is_mark m.Semicolon s.kind ≡ true → Makes field_text (t ∷ ts) rest
makes-field t {ts = ts} s {rest = rest} h p q i = record {
  make = λ l n.
      let a = (makes-type t ts h).make l (n + 1) in
      let b = (makes-separated p q).make a.last a.next in
      record { tree = record { at = place_of t n s.span.to; type_name = a.tree; names = b.tree }; last = s.span.to; next = b.next; reads = reads-node t ts l n _ (past s rest b.next) (a.reads ▸ b.reads ▸ reads-mark m.Semicolon s rest b.last b.next i) };
}

pub makes-formal : (t u : Token) (ts : List Token) → is_type t.kind ≡ true → is_any_name u.kind ≡ true → Makes formal_text (t ∷ u ∷ ts) ts
makes-formal t u ts h i = record {
  make = λ l n.
      let a = (makes-type t (u ∷ ts) h).make l n in
      record { tree = record { type_name = a.tree; name = named u }; last = u.span.to; next = a.next; reads = record { is = (a.reads ▸ reads-name u ts a.last a.next i).is } };
}

pub makes-formals : (t u : Token) {ts rest : List Token} → is_type t.kind ≡ true → is_any_name u.kind ≡ true → Makes (all_after_first formal_text) ts rest → Makes formals_text (t ∷ u ∷ ts) rest
makes-formals t u {ts = ts} {rest = rest} h i p = record {
  make = λ l n.
      let a = (makes-separated (makes-formal t u ts h i) p).make l (n + 1) in
      record { tree = record { at = place_of t n a.last; list = a.tree }; last = a.last; next = a.next; reads = reads-node t (u ∷ ts) l n _ (rest_at rest a.last a.next) a.reads };
}

-- ---- members and items

pub makes-void : (t : Token) (rest : List Token) → is_keyword word.Void t.kind ≡ true → Makes result_text (t ∷ rest) rest
makes-void t rest h = record { make = λ l n. record { tree = Void (place_of t n t.span.to); last = t.span.to; next = n + 1; reads = reads-node t rest l n _ (past t rest (n + 1)) (reads-keyword word.Void t rest l (n + 1) h) } }

pub makes-typed : (t : Token) (rest : List Token) → is_type t.kind ≡ true → Makes result_text (t ∷ rest) rest
makes-typed t rest h = record {
  make = λ l n.
      let a = (makes-type t rest h).make l (n + 1) in
      record { tree = Typed (place_of t n a.last) a.tree; last = a.last; next = a.next; reads = reads-node t rest l n _ (rest_at rest a.last a.next) a.reads };
}

abbrev pub AnyFormals : List Token → List Token → Type 0
AnyFormals = Around m.OpenParenthesis m.CloseParenthesis (any formals_text)

pub makes-member : {t : Token} (u : Token) {ts mid rest : List Token} → Makes result_text (t ∷ u ∷ ts) (u ∷ ts) → is_any_name u.kind ≡ true → AnyFormals ts mid → Makes block_text mid rest → Makes item_text (t ∷ u ∷ ts) rest
makes-member {t = t} u {mid = mid} {rest = rest} p h (around a b {ts = us} e q f) k = record {
  make = λ l n.
      let c = p.make l (n + 1) in
      let d = q.make a.span.to c.next in
      let s = k.make b.span.to d.next in
      record {
        tree = item.Member (place_of t n s.last) c.tree (named u) d.tree s.tree;
        last = s.last;
        next = s.next;
        reads = reads-node t (u ∷ a ∷ us) l n _ (rest_at rest s.last s.next)
            (c.reads ▸ reads-name u (a ∷ us) c.last c.next h ▸ reads-mark m.OpenParenthesis a us u.span.to c.next e ▸ d.reads ▸ reads-mark m.CloseParenthesis b mid d.last d.next f ▸ s.reads);
      };
}

pub item-field : {t : Token} {ts rest : List Token} → Makes field_text (t ∷ ts) rest → Makes item_text (t ∷ ts) rest
item-field {t = t} {ts = ts} {rest = rest} p = record {
  make = λ l n. let a = p.make l (n + 1) in record { tree = item.OfField (place_of t n a.last) a.tree; last = a.last; next = a.next; reads = reads-node t ts l n _ (rest_at rest a.last a.next) a.reads };
}

pub item-select : (t : Token) {ts rest : List Token} → is_keyword word.Select t.kind ≡ true → Braced entry_text ts rest → Makes item_text (t ∷ ts) rest
item-select t {rest = rest} h (braced a {ts = us} e (up_to b p f)) = record {
  make = λ l n.
      let c = p.make a.span.to (n + 1) in
      record {
        tree = item.Select (place_of t n b.span.to) b.line c.tree;
        last = b.span.to;
        next = c.next;
        reads = reads-node t (a ∷ us) l n _ (past b rest c.next) (reads-keyword word.Select t (a ∷ us) l (n + 1) h ▸ reads-mark m.OpenBrace a us t.span.to (n + 1) e ▸ c.reads ▸ reads-mark_on m.CloseBrace b rest c.last c.next f);
      };
}

pub item-access : (t c : Token) (rest : List Token) → is_access t.kind ≡ true → is_mark m.Colon c.kind ≡ true → Makes item_text (t ∷ c ∷ rest) rest
item-access t c rest h i = record { make = λ l n. made l n (either (is_keyword word.Public t.kind) _ h) } where
  made : (l n : ℕ) → (is_keyword word.Public t.kind ≡ true) ⊎ (is_keyword word.Private t.kind ≡ true) → Made item_text (t ∷ c ∷ rest) l n rest
  made l n (inl e) = record { tree = item.Public (place_of t n c.span.to); last = c.span.to; next = n + 1; reads = reads-node t (c ∷ rest) l n _ (past c rest (n + 1)) (reads-keyword word.Public t (c ∷ rest) l (n + 1) e ▸ reads-mark m.Colon c rest t.span.to (n + 1) i) }
  made l n (inr e) = record { tree = item.Private (place_of t n c.span.to); last = c.span.to; next = n + 1; reads = reads-node t (c ∷ rest) l n _ (past c rest (n + 1)) (reads-keyword word.Private t (c ∷ rest) l (n + 1) e ▸ reads-mark m.Colon c rest t.span.to (n + 1) i) }

pub item-empty : (t : Token) (rest : List Token) → is_mark m.Semicolon t.kind ≡ true → Makes item_text (t ∷ rest) rest
item-empty t rest h = record { make = λ l n. record { tree = item.Empty (place_of t n t.span.to); last = t.span.to; next = n + 1; reads = reads-node t rest l n _ (past t rest (n + 1)) (reads-mark m.Semicolon t rest l (n + 1) h) } }

-- ---- entries

pub makes-guard : (t : Token) {ts rest : List Token} → is_keyword word.Guard t.kind ≡ true → Test ts rest → Makes guard_text (t ∷ ts) rest
makes-guard t {rest = rest} h (around a b {ts = us} e p f) = record {
  make = λ l n.
      let c = p.make a.span.to n in
      record { tree = c.tree; last = b.span.to; next = c.next; reads = record { is = (reads-keyword word.Guard t (a ∷ us) l n h ▸ reads-mark m.OpenParenthesis a us t.span.to n e ▸ c.reads ▸ reads-mark m.CloseParenthesis b rest c.last c.next f).is } };
}

pub makes-entry : (t u c : Token) {ts : List Token} (a n s : Token) {rest : List Token} → is_keyword word.Priority t.kind ≡ true → is_any_number u.kind ≡ true → is_mark m.Colon c.kind ≡ true → Makes (any guard_text) ts (a ∷ n ∷ s ∷ rest)
    → is_keyword word.Accept a.kind ≡ true → is_any_name n.kind ≡ true → is_mark m.Semicolon s.kind ≡ true → Makes entry_text (t ∷ u ∷ c ∷ ts) rest
makes-entry t u c {ts = ts} a o s {rest = rest} h i j p e f g = record {
  make = λ l n.
      let d = p.make c.span.to (n + 1) in
      record {
        tree = record { at = place_of t n s.span.to; priority = numbered u; guard = d.tree; member = named o };
        last = s.span.to;
        next = d.next;
        reads = reads-node t (u ∷ c ∷ ts) l n _ (past s rest d.next)
            (reads-keyword word.Priority t (u ∷ c ∷ ts) l (n + 1) h ▸ reads-number u (c ∷ ts) t.span.to (n + 1) i ▸ reads-mark m.Colon c ts u.span.to (n + 1) j ▸ d.reads
            ▸ reads-keyword word.Accept a (o ∷ s ∷ rest) d.last d.next e ▸ reads-name o (s ∷ rest) a.span.to d.next f ▸ reads-mark m.Semicolon s rest o.span.to d.next g);
      };
}

-- ---- declarations

pub makes-struct : (t u : Token) {ts : List Token} (s : Token) {rest : List Token} → is_keyword word.Struct t.kind ≡ true → is_any_name u.kind ≡ true → Braced field_text ts (s ∷ rest) → is_mark m.Semicolon s.kind ≡ true → Makes declaration_text (t ∷ u ∷ ts) rest
makes-struct t u s {rest = rest} h i (braced a {ts = us} e (up_to b p f)) g = record {
  make = λ l n.
      let c = p.make a.span.to (n + 1) in
      record {
        tree = declaration.Struct (place_of t n s.span.to) b.line (named u) c.tree;
        last = s.span.to;
        next = c.next;
        reads = reads-node t (u ∷ a ∷ us) l n _ (past s rest c.next)
            (reads-keyword word.Struct t (u ∷ a ∷ us) l (n + 1) h ▸ reads-name u (a ∷ us) t.span.to (n + 1) i ▸ reads-mark m.OpenBrace a us u.span.to (n + 1) e ▸ c.reads
            ▸ reads-mark_on m.CloseBrace b (s ∷ rest) c.last c.next f ▸ reads-mark m.Semicolon s rest b.span.to c.next g);
      };
}

makes-kind : (t : Token) (rest : List Token) → is_kind t.kind ≡ true → Makes kind_text (t ∷ rest) rest
makes-kind t rest h = record { make = λ l n. made l n (either (is_keyword word.Regular t.kind) _ h) } where
  made : (l n : ℕ) → (is_keyword word.Regular t.kind ≡ true) ⊎ (is_keyword word.Persistent t.kind ≡ true) → Made kind_text (t ∷ rest) l n rest
  made l n (inl e) = record { tree = Regular (place_of t n t.span.to); last = t.span.to; next = n + 1; reads = reads-node t rest l n _ (past t rest (n + 1)) (reads-keyword word.Regular t rest l (n + 1) e) }
  made l n (inr e) = record { tree = Persistent (place_of t n t.span.to); last = t.span.to; next = n + 1; reads = reads-node t rest l n _ (past t rest (n + 1)) (reads-keyword word.Persistent t rest l (n + 1) e) }

pub makes-class : (t o c u : Token) {ts : List Token} (s : Token) {rest : List Token} → is_kind t.kind ≡ true → is_keyword word.Mentat o.kind ≡ true → is_keyword word.Class c.kind ≡ true → is_any_name u.kind ≡ true → Braced item_text ts (s ∷ rest)
    → is_mark m.Semicolon s.kind ≡ true → Makes declaration_text (t ∷ o ∷ c ∷ u ∷ ts) rest
makes-class t o c u s {rest = rest} h v w i (braced a {ts = us} e (up_to b p f)) g = record {
  make = λ l n.
      let k = (makes-kind t (o ∷ c ∷ u ∷ a ∷ us) h).make l (n + 1) in
      let d = p.make a.span.to k.next in
      record {
        tree = declaration.Class (place_of t n s.span.to) b.line k.tree (named u) d.tree;
        last = s.span.to;
        next = d.next;
        reads = reads-node t (o ∷ c ∷ u ∷ a ∷ us) l n _ (past s rest d.next)
            (k.reads ▸ reads-keyword word.Mentat o (c ∷ u ∷ a ∷ us) k.last k.next v ▸ reads-keyword word.Class c (u ∷ a ∷ us) o.span.to k.next w ▸ reads-name u (a ∷ us) c.span.to k.next i ▸ reads-mark m.OpenBrace a us u.span.to k.next e ▸ d.reads
            ▸ reads-mark_on m.CloseBrace b (s ∷ rest) d.last d.next f ▸ reads-mark m.Semicolon s rest b.span.to d.next g);
      };
}

pub makes-function : (t u : Token) {ts mid rest : List Token} → is_type t.kind ≡ true → is_any_name u.kind ≡ true → AnyFormals ts mid → Makes block_text mid rest → Makes declaration_text (t ∷ u ∷ ts) rest
makes-function t u {mid = mid} {rest = rest} h i (around a b {ts = us} e q f) k = record {
  make = λ l n.
      let c = (makes-type t (u ∷ a ∷ us) h).make l (n + 1) in
      let d = q.make a.span.to c.next in
      let s = k.make b.span.to d.next in
      record {
        tree = declaration.Function (place_of t n s.last) c.tree (named u) d.tree s.tree;
        last = s.last;
        next = s.next;
        reads = reads-node t (u ∷ a ∷ us) l n _ (rest_at rest s.last s.next)
            (c.reads ▸ reads-name u (a ∷ us) c.last c.next i ▸ reads-mark m.OpenParenthesis a us u.span.to c.next e ▸ d.reads ▸ reads-mark m.CloseParenthesis b mid d.last d.next f ▸ s.reads);
      };
}
