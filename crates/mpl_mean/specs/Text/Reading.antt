-- A tree reads its tokens from the front of a list of tokens: the steps that every rule of the grammar is made of.
use Rattle.std.specs.Prelude.{ℕ, ◌+◌, Bool, false, ◌&&◌, ◌==◌, List, [], ◌∷◌, Option, Some, None, if◌then◌else◌, ℤ, int_le, pos}
use Rattle.std.specs.Option.{option_and_then}
use Rattle.std.specs.Ordering.{int_eq}
use Rattle.std.specs.Str.{bytes_eq}
use denote.Enum.Bare.{sameb}
use Rattle.mpl_ast.specs.declared.place.At.{At}
use Rattle.mpl_ast.specs.declared.place.Name.{Name}
use Rattle.mpl_ast.specs.declared.place.Number.{Number}
use Rattle.mpl_ast.specs.declared.token.Keyword.{Keyword}
use Rattle.mpl_ast.specs.declared.token.Mark.{Mark}
use Rattle.mpl_ast.specs.declared.token.Mark.TheVariants.{Comma}
use Rattle.mpl_ast.specs.declared.token.Token.{Token}
use Rattle.mpl_ast.specs.declared.token.TokenKind.{TokenKind}
use Rattle.mpl_ast.specs.declared.token.TokenKind.TheVariants as kind
use Rattle.mpl_ast.specs.contracts.token.Keyword as keywords
use Rattle.mpl_ast.specs.contracts.token.Mark as marks

-- ---- what a token is

abbrev pub same_mark : Mark → Mark → Bool
same_mark = sameb marks.the_type

abbrev pub same_keyword : Keyword → Keyword → Bool
same_keyword = sameb keywords.the_type

abbrev pub is_mark : Mark → TokenKind → Bool
is_mark m (kind.Name text) = false
is_mark m (kind.Number value) = false
is_mark m (kind.Keyword k) = false
is_mark m (kind.Mark n) = same_mark n m

abbrev pub is_keyword : Keyword → TokenKind → Bool
is_keyword k (kind.Name text) = false
is_keyword k (kind.Number value) = false
is_keyword k (kind.Keyword l) = same_keyword l k
is_keyword k (kind.Mark m) = false

abbrev pub is_name : List ℕ → TokenKind → Bool
is_name text (kind.Name other) = bytes_eq other text
is_name text (kind.Number value) = false
is_name text (kind.Keyword k) = false
is_name text (kind.Mark m) = false

-- a number is written without a sign
abbrev pub is_number : ℤ → TokenKind → Bool
is_number value (kind.Name text) = false
is_number value (kind.Number other) = int_le (pos 0) other && int_eq other value
is_number value (kind.Keyword k) = false
is_number value (kind.Mark m) = false

-- ---- reading

-- what is left to read: the tokens, where the last token read ends, and the number of the next node
pub record Rest : Type 0 where
  pub tokens : List Token
  pub last : ℕ
  pub next : ℕ

-- what is left after a tree has read its tokens, and none where they aren't there
abbrev pub Reads : Type 0
Reads = Rest → Option Rest

abbrev pub nothing : Reads
nothing rest = Some rest

infixr 10 ◌>>◌
abbrev pub ◌>>◌ : Reads → Reads → Reads
(a >> b) rest = option_and_then b (a rest)

-- a token that passes a test
abbrev pub token_from : (Token → Bool) → List Token → ℕ → Option Rest
token_from test [] next = None
token_from test (t ∷ ts) next = if test t then Some (record { tokens = ts; last = t.span.to; next = next }) else None

abbrev pub token : (Token → Bool) → Reads
token test rest = token_from test rest.tokens rest.next

abbrev pub mark : Mark → Reads
mark m = token (λ t. is_mark m t.kind)

-- a mark whose line the node keeps
abbrev pub mark_on : ℕ → Mark → Reads
mark_on line m = token (λ t. is_mark m t.kind && (t.line == line))

abbrev pub keyword : Keyword → Reads
keyword k = token (λ t. is_keyword k t.kind)

abbrev pub name : Name → Reads
name n = token (λ t. is_name n.text t.kind && (t.span.from == n.from))

abbrev pub number : Number → Reads
number n = token (λ t. is_number n.value t.kind && (t.span.from == n.from))

-- one after another
abbrev pub each : List Reads → Reads
each [] = nothing
each (r ∷ rs) = r >> each rs

abbrev pub after_first : List Reads → Reads
after_first [] = nothing
after_first (r ∷ rs) = mark Comma >> r >> after_first rs

-- one or more, with commas between
abbrev pub separated : List Reads → Reads
separated [] rest = None
separated (r ∷ rs) rest = (r >> after_first rs) rest

-- none, or one or more with commas between
abbrev pub separated_if_any : List Reads → Reads
separated_if_any [] rest = nothing rest
separated_if_any (r ∷ rs) rest = separated (r ∷ rs) rest

-- what stands there or doesn't
abbrev pub optional : Option Reads → Reads
optional None rest = nothing rest
optional (Some r) rest = r rest

-- ---- nodes

-- the next token is the node's first
abbrev pub begins : At → List Token → Bool
begins at [] = false
begins at (t ∷ ts) = (at.span.from == t.span.from) && (at.line == t.line)

-- the last token that was read is the node's last
abbrev pub ended : At → Option Rest → Option Rest
ended at None = None
ended at (Some rest) = if at.span.to == rest.last then Some rest else None

-- a node: its number is the next one, its first token begins it, and its parts read up to its end
abbrev pub node : At → Reads → Reads
node at parts rest =
    if (at.id == rest.next) && begins at rest.tokens then ended at (parts (record rest { next = rest.next + 1 })) else None
