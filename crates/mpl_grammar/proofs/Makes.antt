-- There is a tree that reads some tokens, whatever number its first node has.
use Rattle.std.proofs.Common.{◌≡◌, ℕ, ℤ, ◌+◌, Bool, true, false, ◌&&◌, ◌||◌, ◌==◌, List, [], ◌∷◌, map, Some, None, pos, if◌then◌else◌, refl, ap, ◌∙◌, eq-eqb, ◌⊎◌, inl, inr}
use Rattle.std.specs.Option.{option_and_then}
use Rattle.std.specs.Ordering.{int_eq}
use Rattle.std.specs.Prelude.{int_le}
use Rattle.std.proofs.lemmas.Bool.Decides.{Decides-int_eq}
use Rattle.std.proofs.lemmas.Slice.Eq.{bytes_eq-Decides}
use Rattle.mpl_ast.specs.declared.place.At.{At}
use Rattle.mpl_ast.specs.declared.place.Name.{Name}
use Rattle.mpl_ast.specs.declared.place.Number.{Number}
use Rattle.mpl_ast.specs.declared.statement.TypeName.TheVariants as type
use Rattle.mpl_ast.specs.declared.token.Keyword.{Keyword}
use Rattle.mpl_ast.specs.declared.token.Keyword.TheVariants as word
use Rattle.mpl_ast.specs.declared.token.Mark.{Mark}
use Rattle.mpl_ast.specs.declared.token.Mark.TheVariants as m
use Rattle.mpl_ast.specs.declared.token.Token.{Token}
use Rattle.mpl_ast.specs.declared.token.TokenKind.{TokenKind}
use Rattle.mpl_ast.specs.declared.token.TokenKind.TheVariants as kind
use Rattle.mpl_mean.specs.Text.Reading.{Reads, Rest, ◌>>◌, after_first, each, is_keyword, is_mark, is_name, is_number, keyword, mark, mark_on, name, node, number, separated, separated_if_any, token}
use Rattle.mpl_mean.specs.Text.StatementText.{type_text}
use Rattle.mpl_mean.proofs.Readers.Parts.{Reading}
use Rattle.mpl_grammar.specs.Internal.Kinds.{is_any_name, is_any_number, is_basic_type, is_type}

-- ---- one token

abbrev pub rest_at : List Token → ℕ → ℕ → Rest
rest_at ts l n = record { tokens = ts; last = l; next = n }

-- what is left behind a token
abbrev pub past : Token → List Token → ℕ → Rest
past t ts n = rest_at ts t.span.to n

infixr 10 ◌▸◌
pub ◌▸◌ : {a b : Reads} {r y x : Rest} → Reading a r y → Reading b y x → Reading (a >> b) r x
◌▸◌ {b = b} e f = record { is = ap (option_and_then b) e.is ∙ f.is }

pub reads-mark : (o : Mark) (t : Token) (ts : List Token) (l n : ℕ) → is_mark o t.kind ≡ true → Reading (mark o) (rest_at (t ∷ ts) l n) (past t ts n)
reads-mark o t ts l n h = record { is = ap (λ (b : Bool). if b then Some (past t ts n) else None) h }

both_are : (b c : Bool) → b ≡ true → c ≡ true → (b && c) ≡ true
both_are true c e f = f
both_are false c e f = absurd cc

pub reads-mark_on : (o : Mark) (t : Token) (ts : List Token) (l n : ℕ) → is_mark o t.kind ≡ true → Reading (mark_on t.line o) (rest_at (t ∷ ts) l n) (past t ts n)
reads-mark_on o t ts l n h = record { is = ap (λ (b : Bool). if b then Some (past t ts n) else None) (both_are (is_mark o t.kind) (t.line == t.line) h (eq-eqb t.line t.line refl)) }

pub reads-keyword : (w : Keyword) (t : Token) (ts : List Token) (l n : ℕ) → is_keyword w t.kind ≡ true → Reading (keyword w) (rest_at (t ∷ ts) l n) (past t ts n)
reads-keyword w t ts l n h = record { is = ap (λ (b : Bool). if b then Some (past t ts n) else None) h }

text_of : TokenKind → List ℕ
text_of (kind.Name text) = text
text_of (kind.Number value) = []
text_of (kind.Keyword w) = []
text_of (kind.Mark o) = []

-- the name that a token is
pub named : Token → Name
named t = record { from = t.span.from; text = text_of t.kind }

name_fits : (k : TokenKind) → is_any_name k ≡ true → is_name (text_of k) k ≡ true
unfolding text_of
name_fits (kind.Name text) h = (bytes_eq-Decides text text).1 refl
name_fits (kind.Number value) h = absurd cc
name_fits (kind.Keyword w) h = absurd cc
name_fits (kind.Mark o) h = absurd cc

pub reads-name : (t : Token) (ts : List Token) (l n : ℕ) → is_any_name t.kind ≡ true → Reading (name (named t)) (rest_at (t ∷ ts) l n) (past t ts n)
unfolding named
reads-name t ts l n h = record {
  is = ap (λ (b : Bool). if b then Some (past t ts n) else None) (both_are (is_name (text_of t.kind) t.kind) (t.span.from == t.span.from) (name_fits t.kind h) (eq-eqb t.span.from t.span.from refl));
}

pub value_of : TokenKind → ℤ
value_of (kind.Name text) = pos 0
value_of (kind.Number value) = value
value_of (kind.Keyword w) = pos 0
value_of (kind.Mark o) = pos 0

pub number_fits : (k : TokenKind) → is_any_number k ≡ true → is_number (value_of k) k ≡ true
unfolding value_of
number_fits (kind.Name text) h = absurd cc
number_fits (kind.Number value) h = both_are (int_le (pos 0) value) (int_eq value value) h ((Decides-int_eq value value).1 refl)
number_fits (kind.Keyword w) h = absurd cc
number_fits (kind.Mark o) h = absurd cc

-- the number that a token is
abbrev pub numbered : Token → Number
numbered t = record { from = t.span.from; value = value_of t.kind }

pub reads-number : (t : Token) (ts : List Token) (l n : ℕ) → is_any_number t.kind ≡ true → Reading (number (numbered t)) (rest_at (t ∷ ts) l n) (past t ts n)
reads-number t ts l n h = record {
  is = ap (λ (b : Bool). if b then Some (past t ts n) else None) (both_are (is_number (value_of t.kind) t.kind) (t.span.from == t.span.from) (number_fits t.kind h) (eq-eqb t.span.from t.span.from refl));
}

pub reads-value : (t : Token) (ts : List Token) (l n : ℕ) → is_any_number t.kind ≡ true → Reading (token (λ o. is_number (value_of t.kind) o.kind)) (rest_at (t ∷ ts) l n) (past t ts n)
reads-value t ts l n h = record { is = ap (λ (b : Bool). if b then Some (past t ts n) else None) (number_fits t.kind h) }

-- ---- nodes

-- a node that begins with the token and ends there
abbrev pub place_of : Token → ℕ → ℕ → At
place_of t n last = record { span = record { from = t.span.from; to = last }; line = t.line; id = n }

if-three : (a b c d : Bool) (x : Rest) → a ≡ true → b ≡ true → c ≡ true → d ≡ true → (if a && (b && c) then (if d then Some x else None) else None) ≡ Some x
if-three true true true true x e f g h = refl
if-three true true true false x e f g h = absurd cc
if-three true true false d x e f g h = absurd cc
if-three true false c d x e f g h = absurd cc
if-three false b c d x e f g h = absurd cc

pub reads-node : (t : Token) (ts : List Token) (l n : ℕ) (parts : Reads) (x : Rest) → Reading parts (rest_at (t ∷ ts) l (n + 1)) x → Reading (node (place_of t n x.last) parts) (rest_at (t ∷ ts) l n) x
reads-node t ts l n parts x h =
    record { is = rw h.is (if-three (n == n) (t.span.from == t.span.from) (t.line == t.line) (x.last == x.last) x (eq-eqb n n refl) (eq-eqb t.span.from t.span.from refl) (eq-eqb t.line t.line refl) (eq-eqb x.last x.last refl)) }

-- ---- trees

pub record Made {A : Type 0} (text : A → Reads) (ts : List Token) (l n : ℕ) (rest : List Token) : Type 0 where
  pub tree : A
  pub last : ℕ
  pub next : ℕ
  pub reads : Reading (text tree) (rest_at ts l n) (rest_at rest last next)

-- a tree reads these tokens up to those
pub record Makes {A : Type 0} (text : A → Reads) (ts rest : List Token) : Type 0 where
  pub make : (l n : ℕ) → Made text ts l n rest

-- a type
int_or_bool : (b c d : Bool) → (b || (c || d)) ≡ true → (b ≡ true) ⊎ ((c ≡ true) ⊎ (d ≡ true))
int_or_bool true c d h = inl refl
int_or_bool false true d h = inr (inl refl)
int_or_bool false false d h = inr (inr h)

pub makes-type : (t : Token) (ts : List Token) → is_type t.kind ≡ true → Makes type_text (t ∷ ts) ts
makes-type t ts h = record { make = λ l n. made l n (int_or_bool (is_any_name t.kind) (is_keyword word.Int t.kind) (is_keyword word.Bool t.kind) h) } where
  made : (l n : ℕ) → (is_any_name t.kind ≡ true) ⊎ ((is_keyword word.Int t.kind ≡ true) ⊎ (is_keyword word.Bool t.kind ≡ true)) → Made type_text (t ∷ ts) l n ts
  made l n (inl e) = record { tree = type.Named (place_of t n t.span.to) (named t); last = t.span.to; next = n + 1; reads = reads-node t ts l n (name (named t)) (past t ts (n + 1)) (reads-name t ts l (n + 1) e) }
  made l n (inr (inl e)) = record { tree = type.Int (place_of t n t.span.to); last = t.span.to; next = n + 1; reads = reads-node t ts l n (keyword word.Int) (past t ts (n + 1)) (reads-keyword word.Int t ts l (n + 1) e) }
  made l n (inr (inr e)) = record { tree = type.Bool (place_of t n t.span.to); last = t.span.to; next = n + 1; reads = reads-node t ts l n (keyword word.Bool) (past t ts (n + 1)) (reads-keyword word.Bool t ts l (n + 1) e) }

pub basic_type : (k : TokenKind) → is_basic_type k ≡ true → is_type k ≡ true
basic_type k h = or_right (is_any_name k) (is_basic_type k) h where
  or_right : (b c : Bool) → c ≡ true → (b || c) ≡ true
  or_right true c e = refl
  or_right false c e = e

pub name_type : (k : TokenKind) → is_any_name k ≡ true → is_type k ≡ true
name_type k h = or_left (is_any_name k) (is_basic_type k) h where
  or_left : (b c : Bool) → b ≡ true → (b || c) ≡ true
  or_left true c e = refl
  or_left false c e = absurd cc

-- ---- lists

abbrev pub all_after_first : {A : Type 0} → (A → Reads) → List A → Reads
all_after_first text vs = after_first (map text vs)

abbrev pub all_separated : {A : Type 0} → (A → Reads) → List A → Reads
all_separated text vs = separated (map text vs)

abbrev pub all_separated_if_any : {A : Type 0} → (A → Reads) → List A → Reads
all_separated_if_any text vs = separated_if_any (map text vs)

abbrev pub all_each : {A : Type 0} → (A → Reads) → List A → Reads
all_each text vs = each (map text vs)

pub makes-no_more : {A : Type 0} (text : A → Reads) (ts : List Token) → Makes (all_after_first text) ts ts
makes-no_more text ts = record { make = λ l n. record { tree = []; last = l; next = n; reads = record { is = refl } } }

pub makes-more : {A : Type 0} {text : A → Reads} {ts mid rest : List Token} (t : Token) → is_mark m.Comma t.kind ≡ true → Makes text ts mid → Makes (all_after_first text) mid rest → Makes (all_after_first text) (t ∷ ts) rest
makes-more {text = text} {ts = ts} t e p q = record {
  make = λ l n.
      let a = p.make t.span.to n in
      let b = q.make a.last a.next in
      record { tree = a.tree ∷ b.tree; last = b.last; next = b.next; reads = reads-mark m.Comma t ts l n e ▸ (a.reads ▸ b.reads) };
}

pub makes-separated : {A : Type 0} {text : A → Reads} {ts mid rest : List Token} → Makes text ts mid → Makes (all_after_first text) mid rest → Makes (all_separated text) ts rest
makes-separated {text = text} p q = record {
  make = λ l n.
      let a = p.make l n in
      let b = q.make a.last a.next in
      record { tree = a.tree ∷ b.tree; last = b.last; next = b.next; reads = record { is = (a.reads ▸ b.reads).is } };
}

pub makes-some : {A : Type 0} {text : A → Reads} {ts mid rest : List Token} → Makes text ts mid → Makes (all_after_first text) mid rest → Makes (all_separated_if_any text) ts rest
makes-some {text = text} p q = record {
  make = λ l n.
      let a = p.make l n in
      let b = q.make a.last a.next in
      record { tree = a.tree ∷ b.tree; last = b.last; next = b.next; reads = record { is = (a.reads ▸ b.reads).is } };
}

pub makes-no_list : {A : Type 0} (text : A → Reads) (ts : List Token) → Makes (all_separated_if_any text) ts ts
makes-no_list text ts = record { make = λ l n. record { tree = []; last = l; next = n; reads = record { is = refl } } }

pub makes-end : {A : Type 0} (text : A → Reads) (ts : List Token) → Makes (all_each text) ts ts
makes-end text ts = record { make = λ l n. record { tree = []; last = l; next = n; reads = record { is = refl } } }

pub makes-each : {A : Type 0} {text : A → Reads} {ts mid rest : List Token} → Makes text ts mid → Makes (all_each text) mid rest → Makes (all_each text) ts rest
makes-each {text = text} p q = record {
  make = λ l n.
      let a = p.make l n in
      let b = q.make a.last a.next in
      record { tree = a.tree ∷ b.tree; last = b.last; next = b.next; reads = record { is = (a.reads ▸ b.reads).is } };
}
