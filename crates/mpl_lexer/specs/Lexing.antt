-- What the functions of the lexer give, in the words of the definition of tokens.
use Rattle.std.specs.Prelude.{◌≡◌, ℕ, ◌^◌, List, [], ◌∷◌, Option, Some, None, Result, Ok, Err, if◌then◌else◌, nat_lt, ℤ, pos}
use Rattle.mpl_ast.specs.declared.token.Token.{Token}
use Rattle.mpl_ast.specs.declared.token.TokenKind.{TokenKind}
use Rattle.mpl_mean.specs.Text.Lexemes.{LexicalFault, BadByte, WideNumber, OpenComment, Lexeme, Gap, Word, Fault, lexeme, value_of}
use Rattle.mpl_lexer.specs.declared.lexer.LexFault.{LexFault}
use Rattle.mpl_lexer.specs.declared.lexer.LexFault.TheVariants as fault
use Rattle.mpl_lexer.specs.declared.lexeme.Lexeme.{Lexeme as Found}

-- The fault is the source's first one, if it is of the source.
abbrev pub IsFault : LexFault → Result (List Token) (LexicalFault × ℕ) → Type 0
IsFault (fault.BadByte at) tokens = tokens ≡ Err (BadByte, at)
IsFault (fault.WideNumber at) tokens = tokens ≡ Err (WideNumber, at)
IsFault (fault.OpenComment at) tokens = tokens ≡ Err (OpenComment, at)
IsFault fault.NoMemory tokens = Unit {0}

-- what stands at the front of the bytes
abbrev pub lexeme_of : List ℕ → Lexeme
lexeme_of [] = Fault BadByte
lexeme_of (b ∷ bytes) = lexeme b bytes

-- the word of 64 bits that digits spell
abbrev pub word_of : List ℕ → Option ℤ
word_of digits = if nat_lt (value_of digits) (2 ^ 63) then Some (pos (value_of digits)) else None

-- the fault of what stands at a place
abbrev pub IsFaultAt : ℕ → LexFault → Lexeme → Type 0
IsFaultAt at (fault.BadByte place) there = (place ≡ at) × (there ≡ Fault BadByte)
IsFaultAt at (fault.WideNumber place) there = (place ≡ at) × (there ≡ Fault WideNumber)
IsFaultAt at (fault.OpenComment place) there = (place ≡ at) × (there ≡ Fault OpenComment)
IsFaultAt at fault.NoMemory there = Unit {0}

-- so many bytes and their token are what stands there
abbrev pub IsLexeme : ℕ → Option TokenKind → Lexeme → Type 0
IsLexeme n None there = there ≡ Gap n
IsLexeme n (Some kind) there = there ≡ Word n kind

-- what stands at a place, or its fault
abbrev pub IsFound : ℕ → Result Found LexFault → Lexeme → Type 0
IsFound at (Ok l) there = IsLexeme l.length l.kind there
IsFound at (Err e) there = IsFaultAt at e there
