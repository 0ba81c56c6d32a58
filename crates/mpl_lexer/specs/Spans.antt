-- Where the tokens of a source stand in it.
use Rattle.std.specs.Prelude.{◌≡◌, ℕ, ◌-◌, ◌<◌, ◌≤◌, List, [], ◌∷◌, length, take, drop, All, pos}
use Rattle.mpl_ast.specs.declared.token.Token.{Token}
use Rattle.mpl_ast.specs.declared.token.TokenKind.{TokenKind}
use Rattle.mpl_ast.specs.declared.token.TokenKind.TheVariants as kind
use Rattle.mpl_mean.specs.Text.TokenTable.{keyword_spelling, mark_spelling}
use Rattle.mpl_mean.specs.Text.Lexemes.{value_of}

-- the tokens begin at a place or behind it, each has at least one byte, and none begins before the one before it ends
abbrev pub SpansRise : ℕ → List Token → Type 0
SpansRise from [] = Unit {0}
SpansRise from (t ∷ ts) = (from ≤ t.span.from) × (t.span.from < t.span.to) × SpansRise t.span.to ts

-- the bytes are the token's text
abbrev pub IsSpelled : TokenKind → List ℕ → Type 0
IsSpelled (kind.Name text) bytes = text ≡ bytes
IsSpelled (kind.Number value) bytes = value ≡ pos (value_of bytes)
IsSpelled (kind.Keyword k) bytes = keyword_spelling k ≡ bytes
IsSpelled (kind.Mark m) bytes = mark_spelling m ≡ bytes

-- the token's span is within the source, and its text stands there
abbrev pub StandsIn : List ℕ → Token → Type 0
StandsIn source t = (t.span.to ≤ length source) × IsSpelled t.kind (take (t.span.to - t.span.from) (drop t.span.from source))

-- the tokens stand in the source, one behind another
abbrev pub AreSpansOf : List ℕ → List Token → Type 0
AreSpansOf source ts = SpansRise 0 ts × All (StandsIn source) ts
