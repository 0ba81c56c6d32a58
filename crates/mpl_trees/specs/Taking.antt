-- What a parser is: it takes a tree from the front of the tokens, and leaves the rest.
use Rattle.std.specs.Prelude.{ℕ, zero, suc, ◌+◌, Bool, true, false, List, [], ◌∷◌, length, nat_le, ℤ, Option, Some, None, if◌then◌else◌}
use Rattle.std.specs.Option.{option_and_then, option_map}
use Rattle.mpl_ast.specs.declared.place.At.{At}
use Rattle.mpl_ast.specs.declared.place.Name.{Name}
use Rattle.mpl_ast.specs.declared.place.Number.{Number}
use Rattle.mpl_ast.specs.declared.token.Mark.{Mark}
use Rattle.mpl_ast.specs.declared.token.Mark.TheVariants as m
use Rattle.mpl_ast.specs.declared.token.Token.{Token}
use Rattle.mpl_ast.specs.declared.token.TokenKind.{TokenKind}
use Rattle.mpl_ast.specs.declared.token.TokenKind.TheVariants as kind
use Rattle.mpl_mean.specs.Text.Reading.{Reads, Rest, is_mark, mark}
use Rattle.mpl_trees.specs.declared.piece.Start.{Start}

-- the numbers of nodes go up to a limit
abbrev pub Takes : Type 0 → Type 0
Takes A = ℕ → Rest → Option (A × Rest)

-- ---- one after another

abbrev pub skip_then : {A : Type 0} → Reads → Takes A → Takes A
skip_then a take limit r = option_and_then (take limit) (a r)

abbrev pub then_skip : {A : Type 0} → Takes A → Reads → Takes A
then_skip take a limit r = option_and_then (λ p. option_map (λ x. (p.0, x)) (a p.1)) (take limit r)

abbrev pub both : {A B C : Type 0} → (A → B → C) → Takes A → Takes B → Takes C
both join first second limit r = option_and_then (λ p. option_map (λ q. (join p.0 q.0, q.1)) (second limit p.1)) (first limit r)

-- a tree of fixed tokens
abbrev pub alone : {A : Type 0} → A → Reads → Takes A
alone tree a limit r = option_map (λ x. (tree, x)) (a r)

abbrev pub made : {A B : Type 0} → (A → B) → Takes A → Takes B
made make take limit r = option_map (λ p. (make p.0, p.1)) (take limit r)

-- ---- tokens

-- the kind of the token that comes first
abbrev pub ahead : List Token → Option TokenKind
ahead [] = None
ahead (t ∷ ts) = Some t.kind

abbrev pub is_ahead : (TokenKind → Bool) → List Token → Bool
is_ahead test [] = false
is_ahead test (t ∷ ts) = test t.kind

abbrev pub is_any_name : TokenKind → Bool
is_any_name (kind.Name text) = true
is_any_name (kind.Number value) = false
is_any_name (kind.Keyword k) = false
is_any_name (kind.Mark o) = false

abbrev pub past : Token → List Token → ℕ → Rest
past t ts next = record { tokens = ts; last = t.span.to; next = next }

abbrev pub text_of : TokenKind → Option (List ℕ)
text_of (kind.Name text) = Some text
text_of (kind.Number value) = None
text_of (kind.Keyword k) = None
text_of (kind.Mark o) = None

abbrev pub value_of : TokenKind → Option ℤ
value_of (kind.Name text) = None
value_of (kind.Number value) = Some value
value_of (kind.Keyword k) = None
value_of (kind.Mark o) = None

abbrev pub name_from : List Token → ℕ → Option (Name × Rest)
name_from [] next = None
name_from (t ∷ ts) next = option_map (λ text. (record { from = t.span.from; text = text }, past t ts next)) (text_of t.kind)

abbrev pub take_name : Takes Name
take_name limit r = name_from r.tokens r.next

abbrev pub number_from : List Token → ℕ → Option (Number × Rest)
number_from [] next = None
number_from (t ∷ ts) next = option_map (λ value. (record { from = t.span.from; value = value }, past t ts next)) (value_of t.kind)

abbrev pub take_number : Takes Number
take_number limit r = number_from r.tokens r.next

-- the line of the first token
abbrev pub line_of : List Token → ℕ
line_of [] = 0
line_of (t ∷ ts) = t.line

-- ---- nodes

abbrev pub from_of : List Token → ℕ
from_of [] = 0
from_of (t ∷ ts) = t.span.from

abbrev pub start_of : Rest → Start
start_of r = record { from = from_of r.tokens; line = line_of r.tokens; id = r.next }

-- the node within, which begins at the same token
abbrev pub inner : ℕ → Start → Option Start
inner limit s = if nat_le (s.id + 1) limit then Some (record s { id = s.id + 1 }) else None

abbrev pub inside : Rest → Rest
inside r = record r { next = r.next + 1 }

-- where the next number is within the limit
abbrev pub fitting : ℕ → Rest → Option Rest
fitting limit r = if nat_le r.next limit then Some r else None

abbrev pub place : Start → ℕ → At
place s last = record { span = record { from = s.from; to = last }; line = s.line; id = s.id }

-- a node with these parts
abbrev pub node_of : {A B : Type 0} → (At → A → B) → Takes A → Takes B
node_of make parts limit r = option_map (λ p. (make (place (start_of r) p.1.last) p.0, p.1)) (option_and_then (parts limit) (fitting limit (inside r)))

-- ---- lists

-- with a comma before each, at most so many
abbrev pub more_of : {A : Type 0} → Takes A → ℕ → Takes (List A)
more_of take zero limit r = Some ([], r)
more_of take (suc n) limit r = if is_ahead (is_mark m.Comma) r.tokens then both ◌∷◌ (skip_then (mark m.Comma) take) (more_of take n) limit r else Some ([], r)

abbrev pub some_of : {A : Type 0} → Takes A → Takes (List A)
some_of take limit r = both ◌∷◌ take (more_of take (length r.tokens)) limit r

-- none before the closing parenthesis
abbrev pub list_of : {A : Type 0} → Takes A → Takes (List A)
list_of take limit r = if is_ahead (is_mark m.CloseParenthesis) r.tokens then Some ([], r) else some_of take limit r

-- all up to a closing brace, at most so many
abbrev pub all_of : {A : Type 0} → Takes A → ℕ → Takes (List A)
all_of take zero limit r = Some ([], r)
all_of take (suc n) limit r = if is_ahead (is_mark m.CloseBrace) r.tokens then Some ([], r) else both ◌∷◌ take (all_of take n) limit r

-- what stands there where a token of the kind comes first
abbrev pub where_ahead : {A : Type 0} → (TokenKind → Bool) → Takes A → Takes (Option A)
where_ahead test take limit r = if is_ahead test r.tokens then made Some take limit r else Some (None, r)

-- what stands there where no token of the kind comes first
abbrev pub unless_ahead : {A : Type 0} → (TokenKind → Bool) → Takes A → Takes (Option A)
unless_ahead test take limit r = if is_ahead test r.tokens then Some (None, r) else made Some take limit r

-- between two marks
abbrev pub between : {A : Type 0} → Mark → Takes A → Mark → Takes A
between o take c = skip_then (mark o) (then_skip take (mark c))

abbrev pub parenthesized : {A : Type 0} → Takes A → Takes A
parenthesized take = between m.OpenParenthesis take m.CloseParenthesis

-- a part, and then how a tree is made with it
abbrev pub continued : {A B : Type 0} → Takes A → (A → Takes B) → Takes B
continued take go limit r = option_and_then (λ p. go p.0 limit p.1) (take limit r)
