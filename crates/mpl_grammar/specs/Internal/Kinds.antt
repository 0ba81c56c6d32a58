-- Sorts of tokens that have one place in the grammar.
use Rattle.std.specs.Prelude.{Bool, true, false, ◌||◌, int_le, pos}
use Rattle.mpl_ast.specs.declared.token.Keyword.TheVariants as word
use Rattle.mpl_ast.specs.declared.token.Mark.TheVariants as m
use Rattle.mpl_ast.specs.declared.token.TokenKind.{TokenKind}
use Rattle.mpl_ast.specs.declared.token.TokenKind.TheVariants as kind
use Rattle.mpl_mean.specs.Text.Reading.{is_keyword, is_mark}

abbrev pub is_any_name : TokenKind → Bool
is_any_name (kind.Name text) = true
is_any_name (kind.Number value) = false
is_any_name (kind.Keyword k) = false
is_any_name (kind.Mark m) = false

-- a number is written without a sign
abbrev pub is_any_number : TokenKind → Bool
is_any_number (kind.Name text) = false
is_any_number (kind.Number value) = int_le (pos 0) value
is_any_number (kind.Keyword k) = false
is_any_number (kind.Mark m) = false

-- `'int' | 'bool'`
abbrev pub is_basic_type : TokenKind → Bool
is_basic_type k = is_keyword word.Int k || is_keyword word.Bool k

abbrev pub is_type : TokenKind → Bool
is_type k = is_any_name k || is_basic_type k

-- `'regular' | 'persistent'`
abbrev pub is_kind : TokenKind → Bool
is_kind k = is_keyword word.Regular k || is_keyword word.Persistent k

-- `'public' | 'private'`
abbrev pub is_access : TokenKind → Bool
is_access k = is_keyword word.Public k || is_keyword word.Private k

-- an operand of one token that is neither a name nor `self`
abbrev pub is_constant : TokenKind → Bool
is_constant k = is_any_number k || (is_keyword word.True k || is_keyword word.False k)

abbrev pub is_unary : TokenKind → Bool
is_unary k = is_mark m.Minus k || is_mark m.Not k

abbrev pub is_term_operator : TokenKind → Bool
is_term_operator k = is_mark m.Star k || (is_mark m.Slash k || is_mark m.Percent k)

abbrev pub is_sum_operator : TokenKind → Bool
is_sum_operator k = is_mark m.Plus k || is_mark m.Minus k

abbrev pub is_relation_operator : TokenKind → Bool
is_relation_operator k = is_mark m.Less k || (is_mark m.LessEqual k || (is_mark m.Greater k || is_mark m.GreaterEqual k))

abbrev pub is_equality_operator : TokenKind → Bool
is_equality_operator k = is_mark m.EqualEqual k || is_mark m.NotEqual k

abbrev pub is_operator : TokenKind → Bool
is_operator k =
    is_term_operator k || (is_sum_operator k || (is_relation_operator k || (is_equality_operator k || (is_mark m.AndAnd k || is_mark m.OrOr k))))
