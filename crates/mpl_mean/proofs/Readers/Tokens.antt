-- Which token a reader of one took.
use Rattle.std.proofs.Common.{◌≡◌, ℕ, ℤ, Bool, true, ◌&&◌, ◌==◌, List, [], ◌∷◌, Option, Some, None, ap, ◌∙◌}
use Rattle.std.proofs.lemmas.Bool.Decides.{Decides-int_eq}
use Rattle.std.proofs.lemmas.Slice.Eq.{bytes_eq-Decides}
use denote.Enum.Bare.{same_true}
use Rattle.mpl_ast.specs.contracts.token.Keyword as keywords
use Rattle.mpl_ast.specs.contracts.token.Mark as marks
use Rattle.mpl_ast.specs.declared.place.Name.{Name}
use Rattle.mpl_ast.specs.declared.token.Keyword.{Keyword}
use Rattle.mpl_ast.specs.declared.token.Mark.{Mark}
use Rattle.mpl_ast.specs.declared.token.Token.{Token}
use Rattle.mpl_ast.specs.declared.token.TokenKind.{TokenKind}
use Rattle.mpl_ast.specs.declared.token.TokenKind.TheVariants as kind
use Rattle.mpl_mean.specs.Text.Reading.{Rest, token, token_from, mark, mark_on, keyword, name, is_mark, is_keyword, is_name, is_number}
use Rattle.mpl_mean.proofs.Readers.Parts.{Reading, if_read, some_same}
use Rattle.mpl_mean.proofs.Truth.{both_true}

-- ---- the token that is read

token_read_from : (test : Token → Bool) (ts : List Token) (next : ℕ) (x : Rest) → token_from test ts next ≡ Some x → (t : Token) × (ts ≡ t ∷ x.tokens) × (test t ≡ true)
token_read_from test [] next x h = absurd cc
token_read_from test (t ∷ ts) next x h =
    let r : Rest = record { tokens = ts; last = t.span.to; next = next } in
    let p = if_read (test t) (Some r) x h in
    (t, ap (λ (y : Rest). t ∷ y.tokens) (some_same p.1), p.0)

-- the token that was read
pub token_read : (test : Token → Bool) (r x : Rest) → token test r ≡ Some x → (t : Token) × (r.tokens ≡ t ∷ x.tokens) × (test t ≡ true)
token_read test r x h = token_read_from test r.tokens r.next x h

-- ---- kinds of tokens

pub mark_is : (m : Mark) (k : TokenKind) → is_mark m k ≡ true → k ≡ kind.Mark m
mark_is m (kind.Name text) h = absurd cc
mark_is m (kind.Number n) h = absurd cc
mark_is m (kind.Keyword w) h = absurd cc
mark_is m (kind.Mark n) h = ap kind.Mark (same_true marks.the_type tt n m h)

pub keyword_is : (w : Keyword) (k : TokenKind) → is_keyword w k ≡ true → k ≡ kind.Keyword w
keyword_is w (kind.Name text) h = absurd cc
keyword_is w (kind.Number n) h = absurd cc
keyword_is w (kind.Keyword v) h = ap kind.Keyword (same_true keywords.the_type tt v w h)
keyword_is w (kind.Mark m) h = absurd cc

pub name_is : (text : List ℕ) (k : TokenKind) → is_name text k ≡ true → k ≡ kind.Name text
name_is text (kind.Name other) h = ap kind.Name ((bytes_eq-Decides other text).0 h)
name_is text (kind.Number n) h = absurd cc
name_is text (kind.Keyword v) h = absurd cc
name_is text (kind.Mark m) h = absurd cc

pub number_is : (value : ℤ) (k : TokenKind) → is_number value k ≡ true → k ≡ kind.Number value
number_is value (kind.Name text) h = absurd cc
number_is value (kind.Number other) h = ap kind.Number ((Decides-int_eq other value).0 (both_true _ _ h).1)
number_is value (kind.Keyword v) h = absurd cc
number_is value (kind.Mark m) h = absurd cc

-- a token of the kind was taken
pub record Took (k : TokenKind) (r x : Rest) : Type 0 where
  pub token : Token
  pub first : r.tokens ≡ token ∷ x.tokens
  pub kind : token.kind ≡ k

pub took_mark : (m : Mark) {r x : Rest} → Reading (mark m) r x → Took (kind.Mark m) r x
took_mark m {r = r} {x = x} h =
    let p = token_read (λ t. is_mark m t.kind) r x h.is in
    record { token = p.0; first = p.1; kind = mark_is m p.0.kind p.2 }

pub took_mark_on : (line : ℕ) (m : Mark) {r x : Rest} → Reading (mark_on line m) r x → Took (kind.Mark m) r x
took_mark_on line m {r = r} {x = x} h =
    let p = token_read (λ t. is_mark m t.kind && (t.line == line)) r x h.is in
    record { token = p.0; first = p.1; kind = mark_is m p.0.kind (both_true _ _ p.2).0 }

pub took_keyword : (w : Keyword) {r x : Rest} → Reading (keyword w) r x → Took (kind.Keyword w) r x
took_keyword w {r = r} {x = x} h =
    let p = token_read (λ t. is_keyword w t.kind) r x h.is in
    record { token = p.0; first = p.1; kind = keyword_is w p.0.kind p.2 }

pub took_name : (n : Name) {r x : Rest} → Reading (name n) r x → Took (kind.Name n.text) r x
took_name n {r = r} {x = x} h =
    let p = token_read (λ t. is_name n.text t.kind && (t.span.from == n.from)) r x h.is in
    record { token = p.0; first = p.1; kind = name_is n.text p.0.kind (both_true _ _ p.2).0 }

pub took_number : (value : ℤ) {r x : Rest} → Reading (token (λ t. is_number value t.kind)) r x → Took (kind.Number value) r x
took_number value {r = r} {x = x} h =
    let p = token_read (λ t. is_number value t.kind) r x h.is in
    record { token = p.0; first = p.1; kind = number_is value p.0.kind p.2 }

-- the kind of the first token
abbrev pub head : List Token → Option TokenKind
head [] = None
head (t ∷ ts) = Some t.kind

-- a token of the kind stands first
pub record Heads (k : TokenKind) (r : Rest) : Type 0 where
  pub first : head r.tokens ≡ Some k

pub took_first : {k : TokenKind} {r x : Rest} → Took k r x → Heads k r
took_first t = record { first = ap head t.first ∙ ap Some t.kind }
