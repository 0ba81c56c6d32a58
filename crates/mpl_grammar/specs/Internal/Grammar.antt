-- The grammar as a table: which tokens may come where something is still to come, and what is to come behind each.
use Rattle.std.specs.Prelude.{ℕ, suc, Bool, true, false, List, [], ◌∷◌, ◌++◌, map}
use Rattle.mpl_ast.specs.declared.token.Keyword.TheVariants as word
use Rattle.mpl_ast.specs.declared.token.Mark.TheVariants as m
use Rattle.mpl_ast.specs.declared.token.TokenKind.{TokenKind}
use Rattle.mpl_grammar.specs.Internal.Kinds.{is_access, is_any_name, is_any_number, is_basic_type, is_constant, is_kind, is_operator, is_type, is_unary}
use Rattle.mpl_grammar.specs.declared.symbol.Symbol.{Symbol}
use Rattle.mpl_grammar.specs.declared.symbol.Symbol.TheVariants.{AName, ANumber, AType, Semicolon, Colon, Dot, Assign, MentatWord, ClassWord, AcceptWord, CloseParenthesis, CloseBracket, OpenFields, OpenItems, OpenEntries, OpenFormals, OpenTest, OpenFor, OpenPrint, OpenFlow, OpenFlows, OpenNothing, ABlock, Fields, Items, Entries, BehindItemName, DimensionIfAny, MoreNames, FormalsIfAny, MoreFormals, GuardIfAny, BlockRest, AStatement, StatementName, StatementDot, StatementField, StatementFieldDot, DeclaratorEnd, MoreDeclarators, ElseIfAny, WordEnd, ForStart, ForName, ForStep, AssignedName, AssignedField, AFlow, FlowOwn, FlowName, FlowField, FlowsIfAny, MoreFlows, ExpressionIfAny, ExpressionsIfAny, MoreExpressions, Operand, Operators, OperandName, ElementIfAny}
use Rattle.mpl_mean.specs.Text.Reading.{is_keyword, is_mark}

-- what is still to come, first the next. Nothing is to come between two declarations
abbrev pub Stack : Type 0
Stack = List Symbol

-- tokens that may come, and what is to come behind one
pub record Row : Type 0 where
  pub test : TokenKind → Bool
  pub pushed : Stack

abbrev pub on : (TokenKind → Bool) → Stack → Row
on test pushed = record { test = test; pushed = pushed }

-- the same, with something further behind it
abbrev pub before : Symbol → Row → Row
before x row = on row.test (row.pushed ++ x ∷ [])

-- ---- expressions

abbrev pub operator_rows : ℕ → List Row
operator_rows n = on is_operator (Operand (suc n) ∷ []) ∷ []

-- what begins an operand, but for a name and `self`
abbrev pub other_operand_rows : ℕ → List Row
other_operand_rows n =
    on is_constant (Operators n ∷ [])
    ∷ on (is_keyword word.Input) (OpenNothing ∷ Operators n ∷ [])
    ∷ on (is_mark m.OpenParenthesis) (Operand 0 ∷ CloseParenthesis ∷ Operators n ∷ [])
    ∷ on is_unary (Operand (suc n) ∷ [])
    ∷ []

abbrev pub operand_rows : ℕ → List Row
operand_rows n =
    on is_any_name (OperandName ∷ Operators n ∷ []) ∷ on (is_keyword word.Own) (Operators n ∷ []) ∷ other_operand_rows n

abbrev pub flow_rows : List Row
flow_rows = on is_any_name (FlowName ∷ []) ∷ on (is_keyword word.Own) (FlowOwn ∷ []) ∷ other_operand_rows 0

-- ---- statements

-- behind a place that is assigned
abbrev pub assigned_rows : Stack → List Row
assigned_rows behind =
    on (is_mark m.Assign) (AFlow ∷ behind) ∷ on (is_mark m.OpenBracket) (Operand 0 ∷ CloseBracket ∷ Assign ∷ AFlow ∷ behind) ∷ []

abbrev pub statement_rows : List Row
statement_rows =
    on (is_mark m.OpenBrace) (BlockRest ∷ [])
    ∷ on is_basic_type (AName ∷ DeclaratorEnd ∷ MoreDeclarators ∷ Semicolon ∷ [])
    ∷ on is_any_name (StatementName ∷ [])
    ∷ on (is_keyword word.Own) (Dot ∷ AName ∷ OpenFlows ∷ Semicolon ∷ [])
    ∷ on (is_keyword word.If) (OpenTest ∷ AStatement ∷ ElseIfAny ∷ [])
    ∷ on (is_keyword word.While) (OpenTest ∷ AStatement ∷ WordEnd ∷ [])
    ∷ on (is_keyword word.For) (OpenFor ∷ AStatement ∷ WordEnd ∷ [])
    ∷ on (is_keyword word.Print) (OpenPrint ∷ Semicolon ∷ [])
    ∷ on (is_keyword word.Rtf) (OpenFlow ∷ Semicolon ∷ [])
    ∷ on (is_keyword word.Return) (ExpressionIfAny ∷ Semicolon ∷ [])
    ∷ on (is_mark m.Semicolon) []
    ∷ []

-- ---- declarations

abbrev pub declaration_rows : List Row
declaration_rows =
    on (is_keyword word.Struct) (AName ∷ OpenFields ∷ Semicolon ∷ [])
    ∷ on is_kind (MentatWord ∷ ClassWord ∷ AName ∷ OpenItems ∷ Semicolon ∷ [])
    ∷ on is_type (AName ∷ OpenFormals ∷ ABlock ∷ [])
    ∷ []

abbrev pub item_rows : List Row
item_rows =
    on is_type (AName ∷ BehindItemName ∷ [])
    ∷ on (is_keyword word.Void) (AName ∷ OpenFormals ∷ ABlock ∷ [])
    ∷ on (is_keyword word.Select) (OpenEntries ∷ [])
    ∷ on is_access (Colon ∷ [])
    ∷ on (is_mark m.Semicolon) []
    ∷ []

-- ---- the table

abbrev pub rows : Symbol → List Row
rows AName = on is_any_name [] ∷ []
rows ANumber = on is_any_number [] ∷ []
rows AType = on is_type [] ∷ []
rows Semicolon = on (is_mark m.Semicolon) [] ∷ []
rows Colon = on (is_mark m.Colon) [] ∷ []
rows Dot = on (is_mark m.Dot) [] ∷ []
rows Assign = on (is_mark m.Assign) [] ∷ []
rows MentatWord = on (is_keyword word.Mentat) [] ∷ []
rows ClassWord = on (is_keyword word.Class) [] ∷ []
rows AcceptWord = on (is_keyword word.Accept) [] ∷ []
rows CloseParenthesis = on (is_mark m.CloseParenthesis) [] ∷ []
rows CloseBracket = on (is_mark m.CloseBracket) [] ∷ []
rows OpenFields = on (is_mark m.OpenBrace) (Fields ∷ []) ∷ []
rows OpenItems = on (is_mark m.OpenBrace) (Items ∷ []) ∷ []
rows OpenEntries = on (is_mark m.OpenBrace) (Entries ∷ []) ∷ []
rows OpenFormals = on (is_mark m.OpenParenthesis) (FormalsIfAny ∷ CloseParenthesis ∷ []) ∷ []
rows OpenTest = on (is_mark m.OpenParenthesis) (Operand 0 ∷ CloseParenthesis ∷ []) ∷ []
rows OpenFor = on (is_mark m.OpenParenthesis) (ForStart ∷ Semicolon ∷ Operand 0 ∷ Semicolon ∷ ForStep ∷ CloseParenthesis ∷ []) ∷ []
rows OpenPrint = on (is_mark m.OpenParenthesis) (Operand 0 ∷ MoreExpressions ∷ CloseParenthesis ∷ []) ∷ []
rows OpenFlow = on (is_mark m.OpenParenthesis) (AFlow ∷ CloseParenthesis ∷ []) ∷ []
rows OpenFlows = on (is_mark m.OpenParenthesis) (FlowsIfAny ∷ CloseParenthesis ∷ []) ∷ []
rows OpenNothing = on (is_mark m.OpenParenthesis) (CloseParenthesis ∷ []) ∷ []
rows ABlock = on (is_mark m.OpenBrace) (BlockRest ∷ []) ∷ []
rows Fields =
    on (is_mark m.CloseBrace) [] ∷ on is_type (AName ∷ DimensionIfAny ∷ MoreNames ∷ Semicolon ∷ Fields ∷ []) ∷ []
rows Items = on (is_mark m.CloseBrace) [] ∷ map (before Items) item_rows
rows Entries =
    on (is_mark m.CloseBrace) []
    ∷ on (is_keyword word.Priority) (ANumber ∷ Colon ∷ GuardIfAny ∷ AcceptWord ∷ AName ∷ Semicolon ∷ Entries ∷ [])
    ∷ []
rows BehindItemName =
    on (is_mark m.OpenParenthesis) (FormalsIfAny ∷ CloseParenthesis ∷ ABlock ∷ [])
    ∷ on (is_mark m.OpenBracket) (ANumber ∷ CloseBracket ∷ MoreNames ∷ Semicolon ∷ [])
    ∷ on (is_mark m.Comma) (AName ∷ DimensionIfAny ∷ MoreNames ∷ Semicolon ∷ [])
    ∷ on (is_mark m.Semicolon) []
    ∷ []
rows DimensionIfAny = on (is_mark m.OpenBracket) (ANumber ∷ CloseBracket ∷ []) ∷ []
rows MoreNames = on (is_mark m.Comma) (AName ∷ DimensionIfAny ∷ MoreNames ∷ []) ∷ []
rows FormalsIfAny = on is_type (AName ∷ MoreFormals ∷ []) ∷ []
rows MoreFormals = on (is_mark m.Comma) (AType ∷ AName ∷ MoreFormals ∷ []) ∷ []
rows GuardIfAny = on (is_keyword word.Guard) (OpenTest ∷ []) ∷ []
rows BlockRest = on (is_mark m.CloseBrace) [] ∷ map (before BlockRest) statement_rows
rows AStatement = statement_rows
rows StatementName =
    on is_any_name (DeclaratorEnd ∷ MoreDeclarators ∷ Semicolon ∷ [])
    ∷ on (is_mark m.Dot) (StatementDot ∷ [])
    ∷ assigned_rows (Semicolon ∷ [])
rows StatementDot = on is_any_name (StatementField ∷ []) ∷ on (is_keyword word.Create) (OpenNothing ∷ Semicolon ∷ []) ∷ []
rows StatementField =
    on (is_mark m.OpenParenthesis) (FlowsIfAny ∷ CloseParenthesis ∷ Semicolon ∷ [])
    ∷ on (is_mark m.Dot) (StatementFieldDot ∷ [])
    ∷ assigned_rows (Semicolon ∷ [])
rows StatementFieldDot =
    on is_any_name (OpenFlows ∷ Semicolon ∷ []) ∷ on (is_keyword word.Create) (OpenNothing ∷ Semicolon ∷ []) ∷ []
rows DeclaratorEnd = on (is_mark m.OpenBracket) (ANumber ∷ CloseBracket ∷ []) ∷ on (is_mark m.Assign) (AFlow ∷ []) ∷ []
rows MoreDeclarators = on (is_mark m.Comma) (AName ∷ DeclaratorEnd ∷ MoreDeclarators ∷ []) ∷ []
rows ElseIfAny = on (is_keyword word.Else) (AStatement ∷ WordEnd ∷ []) ∷ []
rows WordEnd = []
rows ForStart = on is_basic_type (AName ∷ DeclaratorEnd ∷ MoreDeclarators ∷ []) ∷ on is_any_name (ForName ∷ []) ∷ []
rows ForName =
    on is_any_name (DeclaratorEnd ∷ MoreDeclarators ∷ []) ∷ on (is_mark m.Dot) (AName ∷ AssignedField ∷ []) ∷ assigned_rows []
rows ForStep = on is_any_name (AssignedName ∷ []) ∷ []
rows AssignedName = on (is_mark m.Dot) (AName ∷ AssignedField ∷ []) ∷ assigned_rows []
rows AssignedField = assigned_rows []
rows AFlow = flow_rows
rows FlowOwn = on (is_mark m.Dot) (AName ∷ OpenFlows ∷ []) ∷ operator_rows 0
rows FlowName =
    on (is_mark m.OpenParenthesis) (ExpressionsIfAny ∷ CloseParenthesis ∷ Operators 0 ∷ [])
    ∷ on (is_mark m.OpenBracket) (Operand 0 ∷ CloseBracket ∷ Operators 0 ∷ [])
    ∷ on (is_mark m.Dot) (AName ∷ FlowField ∷ [])
    ∷ operator_rows 0
rows FlowField =
    on (is_mark m.OpenParenthesis) (FlowsIfAny ∷ CloseParenthesis ∷ [])
    ∷ on (is_mark m.Dot) (AName ∷ OpenFlows ∷ [])
    ∷ on (is_mark m.OpenBracket) (Operand 0 ∷ CloseBracket ∷ Operators 0 ∷ [])
    ∷ operator_rows 0
rows FlowsIfAny = map (before MoreFlows) flow_rows
rows MoreFlows = on (is_mark m.Comma) (AFlow ∷ MoreFlows ∷ []) ∷ []
rows ExpressionIfAny = operand_rows 0
rows ExpressionsIfAny = map (before MoreExpressions) (operand_rows 0)
rows MoreExpressions = on (is_mark m.Comma) (Operand 0 ∷ MoreExpressions ∷ []) ∷ []
rows (Operand n) = operand_rows n
rows (Operators n) = operator_rows n
rows OperandName =
    on (is_mark m.OpenParenthesis) (ExpressionsIfAny ∷ CloseParenthesis ∷ [])
    ∷ on (is_mark m.OpenBracket) (Operand 0 ∷ CloseBracket ∷ [])
    ∷ on (is_mark m.Dot) (AName ∷ ElementIfAny ∷ [])
    ∷ []
rows ElementIfAny = on (is_mark m.OpenBracket) (Operand 0 ∷ CloseBracket ∷ []) ∷ []

-- it may be over before a token that it doesn't take
abbrev pub may_end : Symbol → Bool
may_end DimensionIfAny = true
may_end MoreNames = true
may_end FormalsIfAny = true
may_end MoreFormals = true
may_end GuardIfAny = true
may_end DeclaratorEnd = true
may_end MoreDeclarators = true
may_end ElseIfAny = true
may_end WordEnd = true
may_end ForStart = true
may_end ForStep = true
may_end FlowOwn = true
may_end FlowName = true
may_end FlowField = true
may_end FlowsIfAny = true
may_end MoreFlows = true
may_end ExpressionIfAny = true
may_end ExpressionsIfAny = true
may_end MoreExpressions = true
may_end (Operators n) = true
may_end OperandName = true
may_end ElementIfAny = true
may_end _ = false
