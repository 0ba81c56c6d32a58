-- What the tokens are that come for each part of what is to come.
use Rattle.std.proofs.Common.{◌≡◌, ℕ, Bool, true, false, ◌&&◌, List, [], ◌∷◌, ◌++◌, map, Option}
use Rattle.std.specs.Option.{option_map}
use Rattle.mpl_ast.specs.declared.statement.Statement.{Statement}
use Rattle.mpl_ast.specs.declared.token.Keyword.TheVariants as word
use Rattle.mpl_ast.specs.declared.token.Mark.{Mark}
use Rattle.mpl_ast.specs.declared.token.Mark.TheVariants as m
use Rattle.mpl_ast.specs.declared.token.Token.{Token}
use Rattle.mpl_ast.specs.declared.token.TokenKind.{TokenKind}
use Rattle.mpl_mean.specs.Text.ExpressionText.{expression_text, place_text}
use Rattle.mpl_mean.specs.FirstForms.ExpressionLevels.{primary_text, unary_text}
use Rattle.mpl_mean.specs.Text.ProgramText.{entry_text, field_name_text, field_text, formal_text, formals_text, guard_text, item_text}
use Rattle.mpl_mean.specs.Text.Reading.{Reads, is_keyword, is_mark, optional}
use Rattle.mpl_mean.specs.Text.StatementText.{assignment_text, block_text, declarator_text, dimension_text, flow_text, for_head_text, for_start_text, statement_of, statement_text}
use Rattle.mpl_mean.proofs.Readers.Parts.{Reading}
use Rattle.mpl_grammar.specs.Internal.Grammar.{Row, Stack, before}
use Rattle.mpl_grammar.specs.Internal.Kinds.{is_any_name, is_any_number, is_type}
use Rattle.mpl_grammar.specs.declared.symbol.Symbol.{Symbol}
use Rattle.mpl_grammar.specs.declared.symbol.Symbol.TheVariants.{AName, ANumber, AType, Semicolon, Colon, Dot, Assign, MentatWord, ClassWord, AcceptWord, CloseParenthesis, CloseBracket, OpenFields, OpenItems, OpenEntries, OpenFormals, OpenTest, OpenFor, OpenPrint, OpenFlow, OpenFlows, OpenNothing, ABlock, Fields, Items, Entries, BehindItemName, DimensionIfAny, MoreNames, FormalsIfAny, MoreFormals, GuardIfAny, BlockRest, AStatement, StatementName, StatementDot, StatementField, StatementFieldDot, DeclaratorEnd, MoreDeclarators, ElseIfAny, WordEnd, ForStart, ForName, ForStep, AssignedName, AssignedField, AFlow, FlowOwn, FlowName, FlowField, FlowsIfAny, MoreFlows, ExpressionIfAny, ExpressionsIfAny, MoreExpressions, Operand, Operators, OperandName, ElementIfAny}
use Rattle.mpl_grammar.proofs.Chains.{Pieces}
use Rattle.mpl_grammar.proofs.Makes.{Makes, all_after_first, all_each, all_separated, all_separated_if_any, rest_at}

-- ---- pieces of text

-- a token that passes the test
pub data Tok (test : TokenKind → Bool) : List Token → List Token → Type 0 where
  tok : (t : Token) {ts : List Token} → test t.kind ≡ true → Tok test (t ∷ ts) ts

-- something between two marks
pub data Around {A : Type 0} (o c : Mark) (text : A → Reads) : List Token → List Token → Type 0 where
  around : (a b : Token) {ts us : List Token} → is_mark o a.kind ≡ true → Makes text ts (b ∷ us) → is_mark c b.kind ≡ true → Around o c text (a ∷ ts) us

-- `( )`
pub data Brackets : List Token → List Token → Type 0 where
  brackets : (a b : Token) {us : List Token} → is_mark m.OpenParenthesis a.kind ≡ true → is_mark m.CloseParenthesis b.kind ≡ true → Brackets (a ∷ b ∷ us) us

-- all up to `}`, and with the `{` before it
pub data UpTo {A : Type 0} (text : A → Reads) : List Token → List Token → Type 0 where
  up_to : (b : Token) {ts us : List Token} → Makes (all_each text) ts (b ∷ us) → is_mark m.CloseBrace b.kind ≡ true → UpTo text ts us

pub data Braced {A : Type 0} (text : A → Reads) : List Token → List Token → Type 0 where
  braced : (a : Token) {ts us : List Token} → is_mark m.OpenBrace a.kind ≡ true → UpTo text ts us → Braced text (a ∷ ts) us

abbrev pub any : {A : Type 0} → (A → Reads) → Option A → Reads
any text o = optional (option_map text o)

abbrev pub else_first : List Token → Bool
else_first [] = false
else_first (t ∷ ts) = is_keyword word.Else t.kind

-- a statement that doesn't take an `else` behind it
pub record MadeStatement (ts : List Token) (l n : ℕ) (rest : List Token) : Type 0 where
  pub tree : Statement
  pub last : ℕ
  pub next : ℕ
  pub reads : Reading (statement_text tree) (rest_at ts l n) (rest_at rest last next)
  pub free : (else_first rest && (statement_of tree).takes_else) ≡ false

pub record StatementMakes (ts rest : List Token) : Type 0 where
  pub make : (l n : ℕ) → MadeStatement ts l n rest

pub data ElsePart : List Token → List Token → Type 0 where
  no_else : (ts : List Token) → else_first ts ≡ false → ElsePart ts ts
  with_else : (o : Token) {us rest : List Token} → is_keyword word.Else o.kind ≡ true → StatementMakes us rest → ElsePart (o ∷ us) rest

pub data Same : List Token → List Token → Type 0 where
  same : (ts : List Token) → Same ts ts

pub data Operands : List Token → List Token → Type 0 where
  operands : (t : Token) {ts mid rest : List Token} → Makes unary_text (t ∷ ts) mid → Pieces mid rest → Operands (t ∷ ts) rest

-- ---- behind some tokens of a whole

abbrev pub BehindName : (List Token → List Token → Type 0) → List Token → List Token → Type 0
BehindName P ts rest = (t : Token) → is_any_name t.kind ≡ true → P (t ∷ ts) rest

abbrev pub BehindDot : (List Token → List Token → Type 0) → List Token → List Token → Type 0
BehindDot P ts rest = (t d : Token) → is_any_name t.kind ≡ true → is_mark m.Dot d.kind ≡ true → P (t ∷ d ∷ ts) rest

abbrev pub BehindField : (List Token → List Token → Type 0) → List Token → List Token → Type 0
BehindField P ts rest = (t d u : Token) → is_any_name t.kind ≡ true → is_mark m.Dot d.kind ≡ true → is_any_name u.kind ≡ true → P (t ∷ d ∷ u ∷ ts) rest

abbrev pub BehindFieldDot : (List Token → List Token → Type 0) → List Token → List Token → Type 0
BehindFieldDot P ts rest =
    (t d u e : Token) → is_any_name t.kind ≡ true → is_mark m.Dot d.kind ≡ true → is_any_name u.kind ≡ true → is_mark m.Dot e.kind ≡ true → P (t ∷ d ∷ u ∷ e ∷ ts) rest

-- ---- the parts

abbrev pub Part : Symbol → List Token → List Token → Type 0
Part AName = Tok is_any_name
Part ANumber = Tok is_any_number
Part AType = Tok is_type
Part Semicolon = Tok (is_mark m.Semicolon)
Part Colon = Tok (is_mark m.Colon)
Part Dot = Tok (is_mark m.Dot)
Part Assign = Tok (is_mark m.Assign)
Part MentatWord = Tok (is_keyword word.Mentat)
Part ClassWord = Tok (is_keyword word.Class)
Part AcceptWord = Tok (is_keyword word.Accept)
Part CloseParenthesis = Tok (is_mark m.CloseParenthesis)
Part CloseBracket = Tok (is_mark m.CloseBracket)
Part OpenFields = Braced field_text
Part OpenItems = Braced item_text
Part OpenEntries = Braced entry_text
Part OpenFormals = Around m.OpenParenthesis m.CloseParenthesis (any formals_text)
Part OpenTest = Around m.OpenParenthesis m.CloseParenthesis expression_text
Part OpenFor = Around m.OpenParenthesis m.CloseParenthesis for_head_text
Part OpenPrint = Around m.OpenParenthesis m.CloseParenthesis (all_separated expression_text)
Part OpenFlow = Around m.OpenParenthesis m.CloseParenthesis flow_text
Part OpenFlows = Around m.OpenParenthesis m.CloseParenthesis (all_separated_if_any flow_text)
Part OpenNothing = Brackets
Part ABlock = Makes block_text
Part Fields = UpTo field_text
Part Items = UpTo item_text
Part Entries = UpTo entry_text
Part BehindItemName = λ ts rest. (t u : Token) → is_type t.kind ≡ true → is_any_name u.kind ≡ true → Makes item_text (t ∷ u ∷ ts) rest
Part DimensionIfAny = Makes (any dimension_text)
Part MoreNames = Makes (all_after_first field_name_text)
Part FormalsIfAny = Makes (any formals_text)
Part MoreFormals = Makes (all_after_first formal_text)
Part GuardIfAny = Makes (any guard_text)
Part BlockRest = UpTo statement_text
Part AStatement = StatementMakes
Part StatementName = BehindName StatementMakes
Part StatementDot = BehindDot StatementMakes
Part StatementField = BehindField StatementMakes
Part StatementFieldDot = BehindFieldDot StatementMakes
Part DeclaratorEnd = BehindName (Makes declarator_text)
Part MoreDeclarators = Makes (all_after_first declarator_text)
Part ElseIfAny = ElsePart
Part WordEnd = Same
Part ForStart = Makes (any for_start_text)
Part ForName = BehindName (Makes for_start_text)
Part ForStep = Makes (any assignment_text)
Part AssignedName = BehindName (Makes assignment_text)
Part AssignedField = BehindField (Makes assignment_text)
Part AFlow = Makes flow_text
Part FlowOwn = λ ts rest. (t : Token) → is_keyword word.Own t.kind ≡ true → Makes flow_text (t ∷ ts) rest
Part FlowName = BehindName (Makes flow_text)
Part FlowField = BehindField (Makes flow_text)
Part FlowsIfAny = Makes (all_separated_if_any flow_text)
Part MoreFlows = Makes (all_after_first flow_text)
Part ExpressionIfAny = Makes (any expression_text)
Part ExpressionsIfAny = Makes (all_separated_if_any expression_text)
Part MoreExpressions = Makes (all_after_first expression_text)
Part (Operand n) = Operands
Part (Operators n) = Pieces
Part OperandName = BehindName (Makes primary_text)
Part ElementIfAny = BehindField (Makes place_text)

-- one part after another
pub data Parts : Stack → List Token → List Token → Type 0 where
  done : (ts : List Token) → Parts [] ts ts
  part : {x : Symbol} {s : Stack} {ts mid rest : List Token} → Part x ts mid → Parts s mid rest → Parts (x ∷ s) ts rest

-- ---- rows

-- a token that fits the row, and the parts behind it, are a whole
abbrev pub Combines : (List Token → List Token → Type 0) → Row → Type 0
Combines P row = (t : Token) (ts rest : List Token) → row.test t.kind ≡ true → Parts row.pushed ts rest → P (t ∷ ts) rest

abbrev pub AllCombine : (List Token → List Token → Type 0) → List Row → Type 0
AllCombine P [] = Unit {0}
AllCombine P (row ∷ all) = Combines P row × AllCombine P all

pub record Split (s z : Stack) (ts rest : List Token) : Type 0 where
  pub mid : List Token
  pub first : Parts s ts mid
  pub second : Parts z mid rest

pub split : (s z : Stack) {ts rest : List Token} → Parts (s ++ z) ts rest → Split s z ts rest
split [] z {ts = ts} p = record { mid = ts; first = done ts; second = p }
split (x ∷ s) z (part p ps) = let q = split s z ps in record { mid = q.mid; first = part p q.first; second = q.second }

-- rows with something further behind each
pub combine-before : (y : Symbol) (P Q : List Token → List Token → Type 0) → ((t : Token) (ts mid rest : List Token) → P (t ∷ ts) mid → Part y mid rest → Q (t ∷ ts) rest)
    → (all : List Row) → AllCombine P all → AllCombine Q (map (before y) all)
combine-before y P Q join [] c = tt
combine-before y P Q join (row ∷ all) c = (one, combine-before y P Q join all c.1) where
  last_one : (p : Stack) (t : Token) (ts mid rest : List Token) → P (t ∷ ts) mid → Parts (y ∷ []) mid rest → Q (t ∷ ts) rest
  last_one p t ts mid rest a (part b (done us)) = join t ts mid us a b

  one : Combines Q (before y row)
  one t ts rest e ps = let q = split row.pushed (y ∷ []) ps in last_one [] t ts q.mid rest (c.0 t ts q.mid e q.first) q.second
