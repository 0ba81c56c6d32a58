-- The spelling of keywords and marks.
use Rattle.std.specs.Prelude.{ℕ, List, [], ◌∷◌, codes}
use Rattle.mpl_ast.specs.declared.token.Keyword.{Keyword}
use Rattle.mpl_ast.specs.declared.token.Keyword.TheVariants as word
use Rattle.mpl_ast.specs.declared.token.Mark.{Mark}
use Rattle.mpl_ast.specs.declared.token.Mark.TheVariants as m

abbrev pub keyword_spelling : Keyword → List ℕ
keyword_spelling word.Accept = codes "accept"
keyword_spelling word.Bool = codes "bool"
keyword_spelling word.Class = codes "class"
keyword_spelling word.Control = codes "control"
keyword_spelling word.Create = codes "create"
keyword_spelling word.Else = codes "else"
keyword_spelling word.False = codes "false"
keyword_spelling word.For = codes "for"
keyword_spelling word.Guard = codes "guard"
keyword_spelling word.If = codes "if"
keyword_spelling word.Input = codes "input"
keyword_spelling word.Int = codes "int"
keyword_spelling word.Mentat = codes "mentat"
keyword_spelling word.Persistent = codes "persistent"
keyword_spelling word.Print = codes "print"
keyword_spelling word.Priority = codes "priority"
keyword_spelling word.Private = codes "private"
keyword_spelling word.Public = codes "public"
keyword_spelling word.Regular = codes "regular"
keyword_spelling word.Return = codes "return"
keyword_spelling word.Rtf = codes "rtf"
keyword_spelling word.Select = codes "select"
keyword_spelling word.Own = codes "self"
keyword_spelling word.Struct = codes "struct"
keyword_spelling word.True = codes "true"
keyword_spelling word.Void = codes "void"
keyword_spelling word.While = codes "while"

abbrev pub keywords : List Keyword
keywords =
    word.Accept ∷ word.Bool ∷ word.Class ∷ word.Control ∷ word.Create ∷ word.Else ∷ word.False ∷ word.For ∷ word.Guard
    ∷ word.If ∷ word.Input ∷ word.Int ∷ word.Mentat ∷ word.Persistent ∷ word.Print ∷ word.Priority ∷ word.Private
    ∷ word.Public ∷ word.Regular ∷ word.Return ∷ word.Rtf ∷ word.Select ∷ word.Own ∷ word.Struct ∷ word.True ∷ word.Void
    ∷ word.While ∷ []

abbrev pub mark_spelling : Mark → List ℕ
mark_spelling m.OpenBrace = codes "{"
mark_spelling m.CloseBrace = codes "}"
mark_spelling m.OpenParenthesis = codes "("
mark_spelling m.CloseParenthesis = codes ")"
mark_spelling m.OpenBracket = codes "["
mark_spelling m.CloseBracket = codes "]"
mark_spelling m.Semicolon = codes ";"
mark_spelling m.Comma = codes ","
mark_spelling m.Dot = codes "."
mark_spelling m.Colon = codes ":"
mark_spelling m.Assign = codes "="
mark_spelling m.Plus = codes "+"
mark_spelling m.Minus = codes "-"
mark_spelling m.Star = codes "*"
mark_spelling m.Slash = codes "/"
mark_spelling m.Percent = codes "%"
mark_spelling m.Less = codes "<"
mark_spelling m.Greater = codes ">"
mark_spelling m.LessEqual = codes "<="
mark_spelling m.GreaterEqual = codes ">="
mark_spelling m.EqualEqual = codes "=="
mark_spelling m.NotEqual = codes "!="
mark_spelling m.AndAnd = codes "&&"
mark_spelling m.OrOr = codes "||"
mark_spelling m.Not = codes "!"
mark_spelling m.PlusPlus = codes "++"
mark_spelling m.MinusMinus = codes "--"

-- a mark stands behind the longer marks that it begins
abbrev pub marks : List Mark
marks =
    m.LessEqual ∷ m.GreaterEqual ∷ m.EqualEqual ∷ m.NotEqual ∷ m.AndAnd ∷ m.OrOr ∷ m.PlusPlus ∷ m.MinusMinus ∷ m.OpenBrace
    ∷ m.CloseBrace ∷ m.OpenParenthesis ∷ m.CloseParenthesis ∷ m.OpenBracket ∷ m.CloseBracket ∷ m.Semicolon ∷ m.Comma ∷ m.Dot
    ∷ m.Colon ∷ m.Assign ∷ m.Plus ∷ m.Minus ∷ m.Star ∷ m.Slash ∷ m.Percent ∷ m.Less ∷ m.Greater ∷ m.Not ∷ []
