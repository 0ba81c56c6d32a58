-- Which tokens the bytes of a source have. At each place that no token and no comment covers stands a blank, a
-- comment, or the longest token that begins there.
use Rattle.std.specs.Prelude.{ℕ, zero, suc, ◌+◌, ◌-◌, ◌*◌, ◌^◌, Bool, not, ◌&&◌, ◌||◌, ◌==◌, nat_le, nat_lt, List, [], ◌∷◌, length, fold, take_while, find, Option, Some, None, Result, Ok, Err, if◌then◌else◌, pos}
use Rattle.std.specs.List.{starts_with}
use Rattle.std.specs.Str.{bytes_eq}
use Rattle.std.specs.Prelude.{nat_eq}
use Rattle.mpl_ast.specs.declared.token.Keyword.{Keyword}
use Rattle.mpl_ast.specs.declared.token.Mark.{Mark}
use Rattle.mpl_ast.specs.declared.token.Token.{Token}
use Rattle.mpl_ast.specs.declared.token.TokenKind.{TokenKind}
use Rattle.mpl_ast.specs.declared.token.TokenKind.TheVariants as kind
use Rattle.mpl_mean.specs.Text.TokenTable.{keyword_spelling, keywords, mark_spelling, marks}

-- ---- bytes

abbrev pub is_line_feed : ℕ → Bool
is_line_feed b = b == 10

-- a space, a tab, a line feed or a carriage return
abbrev pub is_blank : ℕ → Bool
is_blank b = (b == 32) || (b == 9) || (b == 10) || (b == 13)

abbrev pub is_digit : ℕ → Bool
is_digit b = nat_le 48 b && nat_le b 57

-- a letter or an underscore
abbrev pub is_letter : ℕ → Bool
is_letter b = (nat_le 65 b && nat_le b 90) || (nat_le 97 b && nat_le b 122) || (b == 95)

abbrev pub continues_name : ℕ → Bool
continues_name b = is_letter b || is_digit b

-- ---- what stands at the front of the bytes

-- why no token stands there: a byte that begins none, a number without a word of 64 bits, a comment without an end
pub data LexicalFault : Type 0 where
  BadByte : LexicalFault
  WideNumber : LexicalFault
  OpenComment : LexicalFault

pub data Lexeme : Type 0 where
  -- a blank, or a comment of more bytes
  Gap : (bytes : ℕ) → Lexeme
  Word : (bytes : ℕ) (kind : TokenKind) → Lexeme
  Fault : (fault : LexicalFault) → Lexeme

-- a word is the keyword that is spelled so, and else a name
abbrev pub word_kind : List ℕ → TokenKind
word_kind text = kind_of (find (λ k. bytes_eq (keyword_spelling k) text) keywords) where
  kind_of : Option Keyword → TokenKind
  kind_of None = kind.Name text
  kind_of (Some k) = kind.Keyword k

-- the number that digits spell
abbrev pub value_of : List ℕ → ℕ
value_of digits = fold (λ n digit. 10 * n + (digit - 48)) 0 digits

abbrev pub number_lexeme : List ℕ → Lexeme
number_lexeme digits = if nat_lt (value_of digits) (2 ^ 63) then Word (length digits) (kind.Number (pos (value_of digits))) else Fault WideNumber

abbrev pub mark_lexeme : Option Mark → Lexeme
mark_lexeme None = Fault BadByte
mark_lexeme (Some m) = Word (length (mark_spelling m)) (kind.Mark m)

-- how many bytes there are up to a line feed
abbrev pub line_rest : List ℕ → ℕ
line_rest bytes = length (take_while (λ b. not (is_line_feed b)) bytes)

-- how many bytes there are up to the first `*/` and with it
abbrev pub comment_rest : List ℕ → Option ℕ
comment_rest [] = None
comment_rest (b ∷ []) = None
comment_rest (b ∷ c ∷ bytes) = if (b == 42) && (c == 47) then Some 2 else one_more (comment_rest (c ∷ bytes)) where
  one_more : Option ℕ → Option ℕ
  one_more None = None
  one_more (Some n) = Some (n + 1)

abbrev pub comment_lexeme : Option ℕ → Lexeme
comment_lexeme None = Fault OpenComment
comment_lexeme (Some n) = Gap (n + 2)

-- what stands at the front of bytes that begin with b
abbrev pub lexeme : ℕ → List ℕ → Lexeme
lexeme b bytes =
    if is_blank b then Gap 1
    else (if starts_with nat_eq (b ∷ bytes) (47 ∷ 47 ∷ []) then Gap (line_rest (b ∷ bytes))
    else (if starts_with nat_eq (b ∷ bytes) (47 ∷ 42 ∷ []) then comment_lexeme (block_rest bytes)
    else (if is_letter b then word (take_while continues_name (b ∷ bytes))
    else (if b == 48 then Word 1 (kind.Number (pos 0))
    else (if is_digit b then number_lexeme (take_while is_digit (b ∷ bytes))
    else mark_lexeme (find (λ m. starts_with nat_eq (b ∷ bytes) (mark_spelling m)) marks)))))) where
      word : List ℕ → Lexeme
      word text = Word (length text) (word_kind text)

      -- behind the `/`, the bytes behind the `*`
      block_rest : List ℕ → Option ℕ
      block_rest [] = None
      block_rest (star ∷ rest) = comment_rest rest

-- ---- all tokens

abbrev pub line_after : ℕ → ℕ → ℕ
line_after b line = if is_line_feed b then line + 1 else line

abbrev pub with_token : Token → Result (List Token) (LexicalFault × ℕ) → Result (List Token) (LexicalFault × ℕ)
with_token t (Err fault) = Err fault
with_token t (Ok ts) = Ok (t ∷ ts)

-- The tokens from a place of a line on, or the first fault and its place. The first `covered` bytes belong to what
-- stands before.
abbrev pub tokens_from : (covered at line : ℕ) → List ℕ → Result (List Token) (LexicalFault × ℕ)
tokens_from covered at line [] = Ok []
tokens_from (suc covered) at line (b ∷ bytes) = tokens_from covered (at + 1) (line_after b line) bytes
tokens_from zero at line (b ∷ bytes) = after (lexeme b bytes) (λ covered. tokens_from covered (at + 1) (line_after b line) bytes) where
  after : Lexeme → (ℕ → Result (List Token) (LexicalFault × ℕ)) → Result (List Token) (LexicalFault × ℕ)
  after (Gap n) go = go (n - 1)
  after (Word n kind) go = with_token (record { kind = kind; span = record { from = at; to = at + n }; line = line }) (go (n - 1))
  after (Fault fault) go = Err (fault, at)

-- the tokens of a source, or its first fault
abbrev pub tokens_of : List ℕ → Result (List Token) (LexicalFault × ℕ)
tokens_of source = tokens_from 0 0 1 source
