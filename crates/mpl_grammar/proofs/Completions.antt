-- Whatever is still to come can come: each stack has tokens that end it.
use Rattle.std.proofs.Common.{◌≡◌, ℕ, true, false, List, [], ◌∷◌, ◌++◌, pos, refl, ap, ◌∙◌}
use Rattle.mpl_ast.specs.declared.token.Keyword.{Keyword}
use Rattle.mpl_ast.specs.declared.token.Keyword.TheVariants as word
use Rattle.mpl_ast.specs.declared.token.Mark.{Mark}
use Rattle.mpl_ast.specs.declared.token.Mark.TheVariants as m
use Rattle.mpl_ast.specs.declared.token.Token.{Token}
use Rattle.mpl_ast.specs.declared.token.TokenKind.{TokenKind}
use Rattle.mpl_ast.specs.declared.token.TokenKind.TheVariants as kind
use Rattle.mpl_mean.specs.Text.Reading.{is_keyword, is_mark}
use Rattle.mpl_grammar.specs.Internal.Grammar.{Stack}
use Rattle.mpl_grammar.specs.Internal.Kinds.{is_operator}
use Rattle.mpl_grammar.specs.Internal.Machine.{is_accepted, next, onward, trace}
use Rattle.mpl_grammar.specs.declared.symbol.Symbol.{Symbol}
use Rattle.mpl_grammar.specs.declared.symbol.Symbol.TheVariants.{AName, ANumber, AType, Semicolon, Colon, Dot, Assign, MentatWord, ClassWord, AcceptWord, CloseParenthesis, CloseBracket, OpenFields, OpenItems, OpenEntries, OpenFormals, OpenTest, OpenFor, OpenPrint, OpenFlow, OpenFlows, OpenNothing, ABlock, Fields, Items, Entries, BehindItemName, DimensionIfAny, MoreNames, FormalsIfAny, MoreFormals, GuardIfAny, BlockRest, AStatement, StatementName, StatementDot, StatementField, StatementFieldDot, DeclaratorEnd, MoreDeclarators, ElseIfAny, WordEnd, ForStart, ForName, ForStep, AssignedName, AssignedField, AFlow, FlowOwn, FlowName, FlowField, FlowsIfAny, MoreFlows, ExpressionIfAny, ExpressionsIfAny, MoreExpressions, Operand, Operators, OperandName, ElementIfAny}

-- ---- tokens that end what is to come

abbrev token_of : TokenKind → Token
token_of k = record { kind = k; span = record { from = 0; to = 0 }; line = 1 }

abbrev a_name : Token
a_name = token_of (kind.Name [])

abbrev zero : Token
zero = token_of (kind.Number (pos 0))

abbrev mark_of : Mark → Token
mark_of o = token_of (kind.Mark o)

abbrev word_of : Keyword → Token
word_of w = token_of (kind.Keyword w)

abbrev closer : Symbol → List Token
closer AName = a_name ∷ []
closer ANumber = zero ∷ []
closer AType = word_of word.Int ∷ []
closer Semicolon = mark_of m.Semicolon ∷ []
closer Colon = mark_of m.Colon ∷ []
closer Dot = mark_of m.Dot ∷ []
closer Assign = mark_of m.Assign ∷ []
closer MentatWord = word_of word.Mentat ∷ []
closer ClassWord = word_of word.Class ∷ []
closer AcceptWord = word_of word.Accept ∷ []
closer CloseParenthesis = mark_of m.CloseParenthesis ∷ []
closer CloseBracket = mark_of m.CloseBracket ∷ []
closer OpenFields = mark_of m.OpenBrace ∷ mark_of m.CloseBrace ∷ []
closer OpenItems = mark_of m.OpenBrace ∷ mark_of m.CloseBrace ∷ []
closer OpenEntries = mark_of m.OpenBrace ∷ mark_of m.CloseBrace ∷ []
closer OpenFormals = mark_of m.OpenParenthesis ∷ mark_of m.CloseParenthesis ∷ []
closer OpenTest = mark_of m.OpenParenthesis ∷ zero ∷ mark_of m.CloseParenthesis ∷ []
closer OpenFor = mark_of m.OpenParenthesis ∷ mark_of m.Semicolon ∷ zero ∷ mark_of m.Semicolon ∷ mark_of m.CloseParenthesis ∷ []
closer OpenPrint = mark_of m.OpenParenthesis ∷ zero ∷ mark_of m.CloseParenthesis ∷ []
closer OpenFlow = mark_of m.OpenParenthesis ∷ zero ∷ mark_of m.CloseParenthesis ∷ []
closer OpenFlows = mark_of m.OpenParenthesis ∷ mark_of m.CloseParenthesis ∷ []
closer OpenNothing = mark_of m.OpenParenthesis ∷ mark_of m.CloseParenthesis ∷ []
closer ABlock = mark_of m.OpenBrace ∷ mark_of m.CloseBrace ∷ []
closer Fields = mark_of m.CloseBrace ∷ []
closer Items = mark_of m.CloseBrace ∷ []
closer Entries = mark_of m.CloseBrace ∷ []
closer BehindItemName = mark_of m.Semicolon ∷ []
closer DimensionIfAny = []
closer MoreNames = []
closer FormalsIfAny = word_of word.Int ∷ a_name ∷ []
closer MoreFormals = []
closer GuardIfAny = []
closer BlockRest = mark_of m.CloseBrace ∷ []
closer AStatement = mark_of m.Semicolon ∷ []
closer StatementName = mark_of m.Assign ∷ zero ∷ mark_of m.Semicolon ∷ []
closer StatementDot = word_of word.Create ∷ mark_of m.OpenParenthesis ∷ mark_of m.CloseParenthesis ∷ mark_of m.Semicolon ∷ []
closer StatementField = mark_of m.OpenParenthesis ∷ mark_of m.CloseParenthesis ∷ mark_of m.Semicolon ∷ []
closer StatementFieldDot = word_of word.Create ∷ mark_of m.OpenParenthesis ∷ mark_of m.CloseParenthesis ∷ mark_of m.Semicolon ∷ []
closer DeclaratorEnd = mark_of m.Assign ∷ zero ∷ []
closer MoreDeclarators = []
closer ElseIfAny = []
closer WordEnd = []
closer ForStart = word_of word.Int ∷ a_name ∷ mark_of m.Assign ∷ zero ∷ []
closer ForName = mark_of m.Assign ∷ zero ∷ []
closer ForStep = a_name ∷ mark_of m.Assign ∷ zero ∷ []
closer AssignedName = mark_of m.Assign ∷ zero ∷ []
closer AssignedField = mark_of m.Assign ∷ zero ∷ []
closer AFlow = zero ∷ []
closer FlowOwn = mark_of m.Dot ∷ a_name ∷ mark_of m.OpenParenthesis ∷ mark_of m.CloseParenthesis ∷ []
closer FlowName = mark_of m.OpenParenthesis ∷ mark_of m.CloseParenthesis ∷ []
closer FlowField = mark_of m.OpenParenthesis ∷ mark_of m.CloseParenthesis ∷ []
closer FlowsIfAny = zero ∷ []
closer MoreFlows = []
closer ExpressionIfAny = zero ∷ []
closer ExpressionsIfAny = zero ∷ []
closer MoreExpressions = []
closer (Operand n) = zero ∷ []
closer (Operators n) = []
closer OperandName = mark_of m.OpenParenthesis ∷ mark_of m.CloseParenthesis ∷ []
closer ElementIfAny = []

abbrev pub completing : Stack → List Token
completing [] = []
completing (x ∷ s) = closer x ++ completing s

-- ---- what is over before such tokens

-- none of the tokens with which something goes on that could be over
record IsPlain (k : TokenKind) : Type 0 where
  no_bracket : is_mark m.OpenBracket k ≡ false
  no_comma : is_mark m.Comma k ≡ false
  no_guard : is_keyword word.Guard k ≡ false
  no_else : is_keyword word.Else k ≡ false
  no_operator : is_operator k ≡ false

data StartsPlain : List Token → Type 0 where
  at_end : StartsPlain []
  at_token : (t : Token) (ts : List Token) → IsPlain t.kind → StartsPlain (t ∷ ts)

data IsLeft : Symbol → Type 0 where
  over_dimension : IsLeft DimensionIfAny
  over_names : IsLeft MoreNames
  over_formals : IsLeft MoreFormals
  over_guard : IsLeft GuardIfAny
  over_declarators : IsLeft MoreDeclarators
  over_else : IsLeft ElseIfAny
  over_word : IsLeft WordEnd
  over_flows : IsLeft MoreFlows
  over_expressions : IsLeft MoreExpressions
  over_operators : (n : ℕ) → IsLeft (Operators n)
  over_element : IsLeft ElementIfAny

next-left : {y : Symbol} → IsLeft y → (s : Stack) (k : TokenKind) → IsPlain k → next (y ∷ s) k ≡ next s k
next-left over_dimension s k p = rw p.no_bracket
next-left over_names s k p = rw p.no_comma
next-left over_formals s k p = rw p.no_comma
next-left over_guard s k p = rw p.no_guard
next-left over_declarators s k p = rw p.no_comma
next-left over_else s k p = rw p.no_else
next-left over_word s k p = refl
next-left over_flows s k p = rw p.no_comma
next-left over_expressions s k p = rw p.no_comma
next-left (over_operators n) s k p = rw p.no_operator
next-left over_element s k p = rw p.no_bracket

ends-left : {y : Symbol} → IsLeft y → (s : Stack) → is_accepted (trace [] (y ∷ s)) ≡ is_accepted (trace [] s)
ends-left over_dimension s = refl
ends-left over_names s = refl
ends-left over_formals s = refl
ends-left over_guard s = refl
ends-left over_declarators s = refl
ends-left over_else s = refl
ends-left over_word s = refl
ends-left over_flows s = refl
ends-left over_expressions s = refl
ends-left (over_operators n) s = refl
ends-left over_element s = refl

left : {y : Symbol} → IsLeft y → (s : Stack) {ts : List Token} → StartsPlain ts → is_accepted (trace ts (y ∷ s)) ≡ is_accepted (trace ts s)
left l s at_end = ends-left l s
left l s (at_token t ts p) = ap (λ o. is_accepted (onward (trace ts) o)) (next-left l s t.kind p)

starts : (s : Stack) → StartsPlain (completing s)
starts [] = at_end
starts (AName ∷ s) = at_token _ _ (record { no_bracket = refl; no_comma = refl; no_guard = refl; no_else = refl; no_operator = refl })
starts (ANumber ∷ s) = at_token _ _ (record { no_bracket = refl; no_comma = refl; no_guard = refl; no_else = refl; no_operator = refl })
starts (AType ∷ s) = at_token _ _ (record { no_bracket = refl; no_comma = refl; no_guard = refl; no_else = refl; no_operator = refl })
starts (Semicolon ∷ s) = at_token _ _ (record { no_bracket = refl; no_comma = refl; no_guard = refl; no_else = refl; no_operator = refl })
starts (Colon ∷ s) = at_token _ _ (record { no_bracket = refl; no_comma = refl; no_guard = refl; no_else = refl; no_operator = refl })
starts (Dot ∷ s) = at_token _ _ (record { no_bracket = refl; no_comma = refl; no_guard = refl; no_else = refl; no_operator = refl })
starts (Assign ∷ s) = at_token _ _ (record { no_bracket = refl; no_comma = refl; no_guard = refl; no_else = refl; no_operator = refl })
starts (MentatWord ∷ s) = at_token _ _ (record { no_bracket = refl; no_comma = refl; no_guard = refl; no_else = refl; no_operator = refl })
starts (ClassWord ∷ s) = at_token _ _ (record { no_bracket = refl; no_comma = refl; no_guard = refl; no_else = refl; no_operator = refl })
starts (AcceptWord ∷ s) = at_token _ _ (record { no_bracket = refl; no_comma = refl; no_guard = refl; no_else = refl; no_operator = refl })
starts (CloseParenthesis ∷ s) = at_token _ _ (record { no_bracket = refl; no_comma = refl; no_guard = refl; no_else = refl; no_operator = refl })
starts (CloseBracket ∷ s) = at_token _ _ (record { no_bracket = refl; no_comma = refl; no_guard = refl; no_else = refl; no_operator = refl })
starts (OpenFields ∷ s) = at_token _ _ (record { no_bracket = refl; no_comma = refl; no_guard = refl; no_else = refl; no_operator = refl })
starts (OpenItems ∷ s) = at_token _ _ (record { no_bracket = refl; no_comma = refl; no_guard = refl; no_else = refl; no_operator = refl })
starts (OpenEntries ∷ s) = at_token _ _ (record { no_bracket = refl; no_comma = refl; no_guard = refl; no_else = refl; no_operator = refl })
starts (OpenFormals ∷ s) = at_token _ _ (record { no_bracket = refl; no_comma = refl; no_guard = refl; no_else = refl; no_operator = refl })
starts (OpenTest ∷ s) = at_token _ _ (record { no_bracket = refl; no_comma = refl; no_guard = refl; no_else = refl; no_operator = refl })
starts (OpenFor ∷ s) = at_token _ _ (record { no_bracket = refl; no_comma = refl; no_guard = refl; no_else = refl; no_operator = refl })
starts (OpenPrint ∷ s) = at_token _ _ (record { no_bracket = refl; no_comma = refl; no_guard = refl; no_else = refl; no_operator = refl })
starts (OpenFlow ∷ s) = at_token _ _ (record { no_bracket = refl; no_comma = refl; no_guard = refl; no_else = refl; no_operator = refl })
starts (OpenFlows ∷ s) = at_token _ _ (record { no_bracket = refl; no_comma = refl; no_guard = refl; no_else = refl; no_operator = refl })
starts (OpenNothing ∷ s) = at_token _ _ (record { no_bracket = refl; no_comma = refl; no_guard = refl; no_else = refl; no_operator = refl })
starts (ABlock ∷ s) = at_token _ _ (record { no_bracket = refl; no_comma = refl; no_guard = refl; no_else = refl; no_operator = refl })
starts (Fields ∷ s) = at_token _ _ (record { no_bracket = refl; no_comma = refl; no_guard = refl; no_else = refl; no_operator = refl })
starts (Items ∷ s) = at_token _ _ (record { no_bracket = refl; no_comma = refl; no_guard = refl; no_else = refl; no_operator = refl })
starts (Entries ∷ s) = at_token _ _ (record { no_bracket = refl; no_comma = refl; no_guard = refl; no_else = refl; no_operator = refl })
starts (BehindItemName ∷ s) = at_token _ _ (record { no_bracket = refl; no_comma = refl; no_guard = refl; no_else = refl; no_operator = refl })
starts (DimensionIfAny ∷ s) = starts s
starts (MoreNames ∷ s) = starts s
starts (FormalsIfAny ∷ s) = at_token _ _ (record { no_bracket = refl; no_comma = refl; no_guard = refl; no_else = refl; no_operator = refl })
starts (MoreFormals ∷ s) = starts s
starts (GuardIfAny ∷ s) = starts s
starts (BlockRest ∷ s) = at_token _ _ (record { no_bracket = refl; no_comma = refl; no_guard = refl; no_else = refl; no_operator = refl })
starts (AStatement ∷ s) = at_token _ _ (record { no_bracket = refl; no_comma = refl; no_guard = refl; no_else = refl; no_operator = refl })
starts (StatementName ∷ s) = at_token _ _ (record { no_bracket = refl; no_comma = refl; no_guard = refl; no_else = refl; no_operator = refl })
starts (StatementDot ∷ s) = at_token _ _ (record { no_bracket = refl; no_comma = refl; no_guard = refl; no_else = refl; no_operator = refl })
starts (StatementField ∷ s) = at_token _ _ (record { no_bracket = refl; no_comma = refl; no_guard = refl; no_else = refl; no_operator = refl })
starts (StatementFieldDot ∷ s) = at_token _ _ (record { no_bracket = refl; no_comma = refl; no_guard = refl; no_else = refl; no_operator = refl })
starts (DeclaratorEnd ∷ s) = at_token _ _ (record { no_bracket = refl; no_comma = refl; no_guard = refl; no_else = refl; no_operator = refl })
starts (MoreDeclarators ∷ s) = starts s
starts (ElseIfAny ∷ s) = starts s
starts (WordEnd ∷ s) = starts s
starts (ForStart ∷ s) = at_token _ _ (record { no_bracket = refl; no_comma = refl; no_guard = refl; no_else = refl; no_operator = refl })
starts (ForName ∷ s) = at_token _ _ (record { no_bracket = refl; no_comma = refl; no_guard = refl; no_else = refl; no_operator = refl })
starts (ForStep ∷ s) = at_token _ _ (record { no_bracket = refl; no_comma = refl; no_guard = refl; no_else = refl; no_operator = refl })
starts (AssignedName ∷ s) = at_token _ _ (record { no_bracket = refl; no_comma = refl; no_guard = refl; no_else = refl; no_operator = refl })
starts (AssignedField ∷ s) = at_token _ _ (record { no_bracket = refl; no_comma = refl; no_guard = refl; no_else = refl; no_operator = refl })
starts (AFlow ∷ s) = at_token _ _ (record { no_bracket = refl; no_comma = refl; no_guard = refl; no_else = refl; no_operator = refl })
starts (FlowOwn ∷ s) = at_token _ _ (record { no_bracket = refl; no_comma = refl; no_guard = refl; no_else = refl; no_operator = refl })
starts (FlowName ∷ s) = at_token _ _ (record { no_bracket = refl; no_comma = refl; no_guard = refl; no_else = refl; no_operator = refl })
starts (FlowField ∷ s) = at_token _ _ (record { no_bracket = refl; no_comma = refl; no_guard = refl; no_else = refl; no_operator = refl })
starts (FlowsIfAny ∷ s) = at_token _ _ (record { no_bracket = refl; no_comma = refl; no_guard = refl; no_else = refl; no_operator = refl })
starts (MoreFlows ∷ s) = starts s
starts (ExpressionIfAny ∷ s) = at_token _ _ (record { no_bracket = refl; no_comma = refl; no_guard = refl; no_else = refl; no_operator = refl })
starts (ExpressionsIfAny ∷ s) = at_token _ _ (record { no_bracket = refl; no_comma = refl; no_guard = refl; no_else = refl; no_operator = refl })
starts (MoreExpressions ∷ s) = starts s
starts (Operand n ∷ s) = at_token _ _ (record { no_bracket = refl; no_comma = refl; no_guard = refl; no_else = refl; no_operator = refl })
starts (Operators n ∷ s) = starts s
starts (OperandName ∷ s) = at_token _ _ (record { no_bracket = refl; no_comma = refl; no_guard = refl; no_else = refl; no_operator = refl })
starts (ElementIfAny ∷ s) = starts s

-- The tokens that complete a stack are taken to its end.
pub finishes : (s : Stack) → is_accepted (trace (completing s) s) ≡ true
finishes [] = refl
finishes (AName ∷ s) = finishes s
finishes (ANumber ∷ s) = finishes s
finishes (AType ∷ s) = finishes s
finishes (Semicolon ∷ s) = finishes s
finishes (Colon ∷ s) = finishes s
finishes (Dot ∷ s) = finishes s
finishes (Assign ∷ s) = finishes s
finishes (MentatWord ∷ s) = finishes s
finishes (ClassWord ∷ s) = finishes s
finishes (AcceptWord ∷ s) = finishes s
finishes (CloseParenthesis ∷ s) = finishes s
finishes (CloseBracket ∷ s) = finishes s
finishes (OpenFields ∷ s) = finishes s
finishes (OpenItems ∷ s) = finishes s
finishes (OpenEntries ∷ s) = finishes s
finishes (OpenFormals ∷ s) = finishes s
finishes (OpenTest ∷ s) = finishes s
finishes (OpenFor ∷ s) = finishes s
finishes (OpenPrint ∷ s) = finishes s
finishes (OpenFlow ∷ s) = finishes s
finishes (OpenFlows ∷ s) = finishes s
finishes (OpenNothing ∷ s) = finishes s
finishes (ABlock ∷ s) = finishes s
finishes (Fields ∷ s) = finishes s
finishes (Items ∷ s) = finishes s
finishes (Entries ∷ s) = finishes s
finishes (BehindItemName ∷ s) = finishes s
finishes (DimensionIfAny ∷ s) = left over_dimension (s) (starts s) ∙ finishes s
finishes (MoreNames ∷ s) = left over_names (s) (starts s) ∙ finishes s
finishes (FormalsIfAny ∷ s) = left over_formals (s) (starts s) ∙ finishes s
finishes (MoreFormals ∷ s) = left over_formals (s) (starts s) ∙ finishes s
finishes (GuardIfAny ∷ s) = left over_guard (s) (starts s) ∙ finishes s
finishes (BlockRest ∷ s) = finishes s
finishes (AStatement ∷ s) = finishes s
finishes (StatementName ∷ s) = finishes s
finishes (StatementDot ∷ s) = finishes s
finishes (StatementField ∷ s) = finishes s
finishes (StatementFieldDot ∷ s) = finishes s
finishes (DeclaratorEnd ∷ s) = left (over_operators 0) (s) (starts s) ∙ finishes s
finishes (MoreDeclarators ∷ s) = left over_declarators (s) (starts s) ∙ finishes s
finishes (ElseIfAny ∷ s) = left over_else (s) (starts s) ∙ finishes s
finishes (WordEnd ∷ s) = left over_word (s) (starts s) ∙ finishes s
finishes (ForStart ∷ s) = left (over_operators 0) (MoreDeclarators ∷ s) (starts s) ∙ left over_declarators (s) (starts s) ∙ finishes s
finishes (ForName ∷ s) = left (over_operators 0) (s) (starts s) ∙ finishes s
finishes (ForStep ∷ s) = left (over_operators 0) (s) (starts s) ∙ finishes s
finishes (AssignedName ∷ s) = left (over_operators 0) (s) (starts s) ∙ finishes s
finishes (AssignedField ∷ s) = left (over_operators 0) (s) (starts s) ∙ finishes s
finishes (AFlow ∷ s) = left (over_operators 0) (s) (starts s) ∙ finishes s
finishes (FlowOwn ∷ s) = finishes s
finishes (FlowName ∷ s) = left (over_operators 0) (s) (starts s) ∙ finishes s
finishes (FlowField ∷ s) = finishes s
finishes (FlowsIfAny ∷ s) = left (over_operators 0) (MoreFlows ∷ s) (starts s) ∙ left over_flows (s) (starts s) ∙ finishes s
finishes (MoreFlows ∷ s) = left over_flows (s) (starts s) ∙ finishes s
finishes (ExpressionIfAny ∷ s) = left (over_operators 0) (s) (starts s) ∙ finishes s
finishes (ExpressionsIfAny ∷ s) = left (over_operators 0) (MoreExpressions ∷ s) (starts s) ∙ left over_expressions (s) (starts s) ∙ finishes s
finishes (MoreExpressions ∷ s) = left over_expressions (s) (starts s) ∙ finishes s
finishes (Operand n ∷ s) = left (over_operators n) (s) (starts s) ∙ finishes s
finishes (Operators n ∷ s) = left (over_operators n) (s) (starts s) ∙ finishes s
finishes (OperandName ∷ s) = finishes s
finishes (ElementIfAny ∷ s) = left over_element (s) (starts s) ∙ finishes s
