-- Each row of the table: a token that fits it and the parts behind it are a part.
use Rattle.std.proofs.Common.{◌≡◌, ℕ, suc, Bool, true, false, List, [], ◌∷◌, Some, None, if◌then◌else◌, refl}
use Rattle.mpl_ast.specs.declared.token.Keyword.TheVariants as word
use Rattle.mpl_ast.specs.declared.token.Mark.TheVariants as m
use Rattle.mpl_ast.specs.declared.token.Token.{Token}
use Rattle.mpl_ast.specs.declared.token.TokenKind.{TokenKind}
use Rattle.mpl_mean.specs.Text.ExpressionText.{expression_text}
use Rattle.mpl_mean.specs.Text.ProgramText.{declaration_text, entry_text, field_name_text, field_text, formal_text, formals_text, guard_text, item_text}
use Rattle.mpl_mean.specs.Text.Reading.{Reads, is_keyword, is_mark}
use Rattle.mpl_mean.specs.Text.StatementText.{assignment_text, declarator_text, dimension_text, flow_text, for_start_text, statement_text}
use Rattle.mpl_grammar.specs.Internal.Grammar.{Row, Stack, declaration_rows, flow_rows, item_rows, may_end, on, operand_rows, other_operand_rows, rows, statement_rows}
use Rattle.mpl_grammar.specs.Internal.Kinds.{is_access, is_any_name, is_any_number, is_basic_type, is_constant, is_kind, is_operator, is_type, is_unary}
use Rattle.mpl_grammar.specs.Internal.Machine.{takes}
use Rattle.mpl_grammar.specs.declared.symbol.Symbol.{Symbol}
use Rattle.mpl_grammar.specs.declared.symbol.Symbol.TheVariants.{AName, ANumber, AType, Semicolon, Colon, Dot, Assign, MentatWord, ClassWord, AcceptWord, CloseParenthesis, CloseBracket, OpenFields, OpenItems, OpenEntries, OpenFormals, OpenTest, OpenFor, OpenPrint, OpenFlow, OpenFlows, OpenNothing, ABlock, Fields, Items, Entries, BehindItemName, DimensionIfAny, MoreNames, FormalsIfAny, MoreFormals, GuardIfAny, BlockRest, AStatement, StatementName, StatementDot, StatementField, StatementFieldDot, DeclaratorEnd, MoreDeclarators, ElseIfAny, WordEnd, ForStart, ForName, ForStep, AssignedName, AssignedField, AFlow, FlowOwn, FlowName, FlowField, FlowsIfAny, MoreFlows, ExpressionIfAny, ExpressionsIfAny, MoreExpressions, Operand, Operators, OperandName, ElementIfAny}
use Rattle.mpl_grammar.proofs.Chains.{Pieces, no_more, piece}
use Rattle.mpl_grammar.proofs.Makes.{Makes, all_separated_if_any, basic_type, makes-each, makes-end, makes-more, makes-no_list, makes-no_more, makes-separated, makes-some, name_type}
use Rattle.mpl_grammar.proofs.MakesExpressions.{call-own, call-target, flow-operands, flow-place, flow-primary, makes-apply, makes-assignment, makes-called, makes-constant, makes-element, makes-field as makes-target_field, makes-input, makes-operands, makes-own, makes-parenthesized, makes-plain, makes-primary, makes-read, makes-variable, makes-whole}
use Rattle.mpl_grammar.proofs.MakesStatements.{declares-plain, declares-value, makes-any, makes-block, makes-dimension, makes-head, makes-local, makes-none, makes-statement, starts-assignment, starts-local, statement-assign, statement-block, statement-call, statement-create, statement-empty, statement-for, statement-if, statement-local, statement-print, statement-return, statement-rtf, statement-while}
use Rattle.mpl_grammar.proofs.MakesPrograms.{item-access, item-empty, item-field, item-select, makes-class, makes-entry, makes-field, makes-field_name, makes-formal, makes-formals, makes-function, makes-guard, makes-member, makes-struct, makes-typed, makes-void}
use Rattle.mpl_grammar.proofs.Parts.{AllCombine, Combines, Operands, Part, StatementMakes, Tok, UpTo, any, around, braced, brackets, combine-before, done, no_else, operands, part, same, tok, up_to, with_else}

-- ---- helpers

token_row : (test : TokenKind → Bool) → Combines (Tok test) (on test [])
token_row test t ts rest e (done us) = tok t e

close_row : {A : Type 0} (text : A → Reads) → Combines (UpTo text) (on (is_mark m.CloseBrace) [])
close_row text t ts rest e (done us) = up_to t (makes-end text (t ∷ us)) e

one_more : {A : Type 0} {text : A → Reads} {ts mid rest : List Token} → Makes text ts mid → UpTo text mid rest → UpTo text ts rest
one_more p (up_to b q e) = up_to b (makes-each p q) e

combine-map : (P Q : List Token → List Token → Type 0) → ((t : Token) (ts rest : List Token) → P (t ∷ ts) rest → Q (t ∷ ts) rest) → (all : List Row) → AllCombine P all → AllCombine Q all
combine-map P Q f [] c = tt
combine-map P Q f (row ∷ all) c = ((λ t ts rest e ps. f t ts rest (c.0 t ts rest e ps)), combine-map P Q f all c.1)

-- ---- rows

row-OpenFields : Combines (Part OpenFields) (on (is_mark m.OpenBrace) (Fields ∷ []))
row-OpenFields t ts rest e (part p (done us)) = braced t e p

row-OpenItems : Combines (Part OpenItems) (on (is_mark m.OpenBrace) (Items ∷ []))
row-OpenItems t ts rest e (part p (done us)) = braced t e p

row-OpenEntries : Combines (Part OpenEntries) (on (is_mark m.OpenBrace) (Entries ∷ []))
row-OpenEntries t ts rest e (part p (done us)) = braced t e p

row-OpenFormals : Combines (Part OpenFormals) (on (is_mark m.OpenParenthesis) (FormalsIfAny ∷ CloseParenthesis ∷ []))
row-OpenFormals t ts rest e (part p (part (tok c f) (done us))) = around t c e p f

row-OpenTest : Combines (Part OpenTest) (on (is_mark m.OpenParenthesis) (Operand 0 ∷ CloseParenthesis ∷ []))
row-OpenTest t ts rest e (part p (part (tok c f) (done us))) = around t c e (makes-operands p) f

row-OpenFor : Combines (Part OpenFor) (on (is_mark m.OpenParenthesis) (ForStart ∷ Semicolon ∷ Operand 0 ∷ Semicolon ∷ ForStep ∷ CloseParenthesis ∷ []))
row-OpenFor t ts rest e (part p (part (tok s f) (part q (part (tok u g) (part r (part (tok c h) (done us))))))) = around t c e (makes-head s u p f (makes-operands q) g r) h

row-OpenPrint : Combines (Part OpenPrint) (on (is_mark m.OpenParenthesis) (Operand 0 ∷ MoreExpressions ∷ CloseParenthesis ∷ []))
row-OpenPrint t ts rest e (part p (part q (part (tok c f) (done us)))) = around t c e (makes-separated (makes-operands p) q) f

row-OpenFlow : Combines (Part OpenFlow) (on (is_mark m.OpenParenthesis) (AFlow ∷ CloseParenthesis ∷ []))
row-OpenFlow t ts rest e (part p (part (tok c f) (done us))) = around t c e p f

row-OpenFlows : Combines (Part OpenFlows) (on (is_mark m.OpenParenthesis) (FlowsIfAny ∷ CloseParenthesis ∷ []))
row-OpenFlows t ts rest e (part p (part (tok c f) (done us))) = around t c e p f

row-OpenNothing : Combines (Part OpenNothing) (on (is_mark m.OpenParenthesis) (CloseParenthesis ∷ []))
row-OpenNothing t ts rest e (part (tok c f) (done us)) = brackets t c e f

row-ABlock : Combines (Part ABlock) (on (is_mark m.OpenBrace) (BlockRest ∷ []))
row-ABlock t ts rest e (part p (done us)) = makes-block t e p

row-Fields : Combines (Part Fields) (on is_type (AName ∷ DimensionIfAny ∷ MoreNames ∷ Semicolon ∷ Fields ∷ []))
row-Fields t ts rest e (part (tok u f) (part d (part q (part (tok s g) (part r (done us)))))) = one_more (makes-field t s e (makes-field_name u f d) q g) r

row-item-1 : Combines (Makes item_text) (on is_type (AName ∷ BehindItemName ∷ []))
row-item-1 t ts rest e (part (tok u f) (part p (done us))) = p t u e f

row-item-2 : Combines (Makes item_text) (on (is_keyword word.Void) (AName ∷ OpenFormals ∷ ABlock ∷ []))
row-item-2 t ts rest e (part (tok u f) (part p (part q (done us)))) = makes-member u (makes-void t _ e) f p q

row-item-3 : Combines (Makes item_text) (on (is_keyword word.Select) (OpenEntries ∷ []))
row-item-3 t ts rest e (part p (done us)) = item-select t e p

row-item-4 : Combines (Makes item_text) (on is_access (Colon ∷ []))
row-item-4 t ts rest e (part (tok c f) (done us)) = item-access t c us e f

row-item-5 : Combines (Makes item_text) (on (is_mark m.Semicolon) ([]))
row-item-5 t ts rest e (done us) = item-empty t us e

row-Entries : Combines (Part Entries) (on (is_keyword word.Priority) (ANumber ∷ Colon ∷ GuardIfAny ∷ AcceptWord ∷ AName ∷ Semicolon ∷ Entries ∷ []))
row-Entries t ts rest e (part (tok u f) (part (tok c g) (part p (part (tok a h) (part (tok o i) (part (tok s j) (part r (done us)))))))) = one_more (makes-entry t u c a o s e f g p h i j) r

row-BehindItemName-1 : Combines (Part BehindItemName) (on (is_mark m.OpenParenthesis) (FormalsIfAny ∷ CloseParenthesis ∷ ABlock ∷ []))
row-BehindItemName-1 o ts rest e (part p (part (tok c f) (part q (done us)))) = λ t u h i. makes-member u (makes-typed t _ h) i (around o c e p f) q

row-BehindItemName-2 : Combines (Part BehindItemName) (on (is_mark m.OpenBracket) (ANumber ∷ CloseBracket ∷ MoreNames ∷ Semicolon ∷ []))
row-BehindItemName-2 o ts rest e (part (tok v f) (part (tok c g) (part q (part (tok s j) (done us))))) = λ t u h i. item-field (makes-field t s h (makes-field_name u i (makes-any (makes-dimension o v c _ e f g))) q j)

row-BehindItemName-3 : Combines (Part BehindItemName) (on (is_mark m.Comma) (AName ∷ DimensionIfAny ∷ MoreNames ∷ Semicolon ∷ []))
row-BehindItemName-3 o ts rest e (part (tok v f) (part d (part q (part (tok s j) (done us))))) = λ t u h i. item-field (makes-field t s h (makes-field_name u i (makes-none dimension_text _)) (makes-more o e (makes-field_name v f d) q) j)

row-BehindItemName-4 : Combines (Part BehindItemName) (on (is_mark m.Semicolon) ([]))
row-BehindItemName-4 o ts rest e (done us) = λ t u h i. item-field (makes-field t o h (makes-field_name u i (makes-none dimension_text _)) (makes-no_more field_name_text _) e)

row-DimensionIfAny : Combines (Part DimensionIfAny) (on (is_mark m.OpenBracket) (ANumber ∷ CloseBracket ∷ []))
row-DimensionIfAny t ts rest e (part (tok v f) (part (tok c g) (done us))) = makes-any (makes-dimension t v c us e f g)

row-MoreNames : Combines (Part MoreNames) (on (is_mark m.Comma) (AName ∷ DimensionIfAny ∷ MoreNames ∷ []))
row-MoreNames t ts rest e (part (tok v f) (part d (part q (done us)))) = makes-more t e (makes-field_name v f d) q

row-FormalsIfAny : Combines (Part FormalsIfAny) (on is_type (AName ∷ MoreFormals ∷ []))
row-FormalsIfAny t ts rest e (part (tok u f) (part q (done us))) = makes-any (makes-formals t u e f q)

row-MoreFormals : Combines (Part MoreFormals) (on (is_mark m.Comma) (AType ∷ AName ∷ MoreFormals ∷ []))
row-MoreFormals t ts rest e (part (tok a f) (part (tok u g) (part q (done us)))) = makes-more t e (makes-formal a u _ f g) q

row-GuardIfAny : Combines (Part GuardIfAny) (on (is_keyword word.Guard) (OpenTest ∷ []))
row-GuardIfAny t ts rest e (part p (done us)) = makes-any (makes-guard t e p)

row-statement-1 : Combines (StatementMakes) (on (is_mark m.OpenBrace) (BlockRest ∷ []))
row-statement-1 t ts rest e (part p (done us)) = statement-block t e p

row-statement-2 : Combines (StatementMakes) (on is_basic_type (AName ∷ DeclaratorEnd ∷ MoreDeclarators ∷ Semicolon ∷ []))
row-statement-2 t ts rest e (part (tok u f) (part d (part q (part (tok s g) (done us))))) = statement-local s (makes-local t (basic_type t.kind e) (d u f) q) g

row-statement-3 : Combines (StatementMakes) (on is_any_name (StatementName ∷ []))
row-statement-3 t ts rest e (part p (done us)) = p t e

row-statement-4 : Combines (StatementMakes) (on (is_keyword word.Own) (Dot ∷ AName ∷ OpenFlows ∷ Semicolon ∷ []))
row-statement-4 t ts rest e (part (tok d f) (part (tok u g) (part p (part (tok s h) (done us))))) = statement-call s (call-own t d u e f g p) h

row-statement-5 : Combines (StatementMakes) (on (is_keyword word.If) (OpenTest ∷ AStatement ∷ ElseIfAny ∷ []))
row-statement-5 t ts rest e (part p (part q (part r (done us)))) = statement-if t e p q r

row-statement-6 : Combines (StatementMakes) (on (is_keyword word.While) (OpenTest ∷ AStatement ∷ WordEnd ∷ []))
row-statement-6 t ts rest e (part p (part q (part (same vs) (done us)))) = statement-while t e p q

row-statement-7 : Combines (StatementMakes) (on (is_keyword word.For) (OpenFor ∷ AStatement ∷ WordEnd ∷ []))
row-statement-7 t ts rest e (part p (part q (part (same vs) (done us)))) = statement-for t e p q

row-statement-8 : Combines (StatementMakes) (on (is_keyword word.Print) (OpenPrint ∷ Semicolon ∷ []))
row-statement-8 t ts rest e (part p (part (tok s f) (done us))) = statement-print t s e p f

row-statement-9 : Combines (StatementMakes) (on (is_keyword word.Rtf) (OpenFlow ∷ Semicolon ∷ []))
row-statement-9 t ts rest e (part p (part (tok s f) (done us))) = statement-rtf t s e p f

row-statement-10 : Combines (StatementMakes) (on (is_keyword word.Return) (ExpressionIfAny ∷ Semicolon ∷ []))
row-statement-10 t ts rest e (part p (part (tok s f) (done us))) = statement-return t s e p f

row-statement-11 : Combines (StatementMakes) (on (is_mark m.Semicolon) ([]))
row-statement-11 t ts rest e (done us) = statement-empty t us e

row-StatementName-1 : Combines (Part StatementName) (on is_any_name (DeclaratorEnd ∷ MoreDeclarators ∷ Semicolon ∷ []))
row-StatementName-1 o ts rest e (part d (part q (part (tok s g) (done us)))) = λ t h. statement-local s (makes-local t (name_type t.kind h) (d o e) q) g

row-StatementName-2 : Combines (Part StatementName) (on (is_mark m.Dot) (StatementDot ∷ []))
row-StatementName-2 o ts rest e (part p (done us)) = λ t h. p t o h e

row-StatementName-3 : Combines (Part StatementName) (on (is_mark m.Assign) (AFlow ∷ Semicolon ∷ []))
row-StatementName-3 o ts rest e (part p (part (tok s g) (done us))) = λ t h. statement-assign s (makes-assignment o (makes-whole (makes-variable t _ h)) e p) g

row-StatementName-4 : Combines (Part StatementName) (on (is_mark m.OpenBracket) (Operand 0 ∷ CloseBracket ∷ Assign ∷ AFlow ∷ Semicolon ∷ []))
row-StatementName-4 o ts rest e (part p (part (tok c f) (part (tok a g) (part q (part (tok s i) (done us)))))) = λ t h. statement-assign s (makes-assignment a (makes-element o c (makes-variable t _ h) e (makes-operands p) f) g q) i

row-StatementDot-1 : Combines (Part StatementDot) (on is_any_name (StatementField ∷ []))
row-StatementDot-1 u ts rest e (part p (done us)) = λ t d h i. p t d u h i e

row-StatementDot-2 : Combines (Part StatementDot) (on (is_keyword word.Create) (OpenNothing ∷ Semicolon ∷ []))
row-StatementDot-2 w ts rest e (part p (part (tok s g) (done us))) = λ t d h i. statement-create d w s (makes-variable t _ h) i e p g

row-StatementField-1 : Combines (Part StatementField) (on (is_mark m.OpenParenthesis) (FlowsIfAny ∷ CloseParenthesis ∷ Semicolon ∷ []))
row-StatementField-1 o ts rest e (part p (part (tok c f) (part (tok s g) (done us)))) = λ t d u h i j. statement-call s (call-target d u (makes-variable t _ h) i j (around o c e p f)) g

row-StatementField-2 : Combines (Part StatementField) (on (is_mark m.Dot) (StatementFieldDot ∷ []))
row-StatementField-2 o ts rest e (part p (done us)) = λ t d u h i j. p t d u o h i j e

row-StatementField-3 : Combines (Part StatementField) (on (is_mark m.Assign) (AFlow ∷ Semicolon ∷ []))
row-StatementField-3 o ts rest e (part p (part (tok s g) (done us))) = λ t d u h i j. statement-assign s (makes-assignment o (makes-whole (makes-target_field t d u _ h i j)) e p) g

row-StatementField-4 : Combines (Part StatementField) (on (is_mark m.OpenBracket) (Operand 0 ∷ CloseBracket ∷ Assign ∷ AFlow ∷ Semicolon ∷ []))
row-StatementField-4 o ts rest e (part p (part (tok c f) (part (tok a g) (part q (part (tok s k) (done us)))))) = λ t d u h i j. statement-assign s (makes-assignment a (makes-element o c (makes-target_field t d u _ h i j) e (makes-operands p) f) g q) k

row-StatementFieldDot-1 : Combines (Part StatementFieldDot) (on is_any_name (OpenFlows ∷ Semicolon ∷ []))
row-StatementFieldDot-1 v ts rest e (part p (part (tok s g) (done us))) = λ t d u o h i j k. statement-call s (call-target o v (makes-target_field t d u _ h i j) k e p) g

row-StatementFieldDot-2 : Combines (Part StatementFieldDot) (on (is_keyword word.Create) (OpenNothing ∷ Semicolon ∷ []))
row-StatementFieldDot-2 w ts rest e (part p (part (tok s g) (done us))) = λ t d u o h i j k. statement-create o w s (makes-target_field t d u _ h i j) k e p g

row-DeclaratorEnd-1 : Combines (Part DeclaratorEnd) (on (is_mark m.OpenBracket) (ANumber ∷ CloseBracket ∷ []))
row-DeclaratorEnd-1 o ts rest e (part (tok v f) (part (tok c g) (done us))) = λ t h. declares-plain t h (makes-any (makes-dimension o v c us e f g))

row-DeclaratorEnd-2 : Combines (Part DeclaratorEnd) (on (is_mark m.Assign) (AFlow ∷ []))
row-DeclaratorEnd-2 o ts rest e (part p (done us)) = λ t h. declares-value t o h e p

row-MoreDeclarators : Combines (Part MoreDeclarators) (on (is_mark m.Comma) (AName ∷ DeclaratorEnd ∷ MoreDeclarators ∷ []))
row-MoreDeclarators t ts rest e (part (tok u f) (part d (part q (done us)))) = makes-more t e (d u f) q

row-ElseIfAny : Combines (Part ElseIfAny) (on (is_keyword word.Else) (AStatement ∷ WordEnd ∷ []))
row-ElseIfAny t ts rest e (part p (part (same vs) (done us))) = with_else t e p

row-ForStart-1 : Combines (Part ForStart) (on is_basic_type (AName ∷ DeclaratorEnd ∷ MoreDeclarators ∷ []))
row-ForStart-1 t ts rest e (part (tok u f) (part d (part q (done us)))) = makes-any (starts-local (makes-local t (basic_type t.kind e) (d u f) q))

row-ForStart-2 : Combines (Part ForStart) (on is_any_name (ForName ∷ []))
row-ForStart-2 t ts rest e (part p (done us)) = makes-any (p t e)

row-ForName-1 : Combines (Part ForName) (on is_any_name (DeclaratorEnd ∷ MoreDeclarators ∷ []))
row-ForName-1 o ts rest e (part d (part q (done us))) = λ t h. starts-local (makes-local t (name_type t.kind h) (d o e) q)

row-ForName-2 : Combines (Part ForName) (on (is_mark m.Dot) (AName ∷ AssignedField ∷ []))
row-ForName-2 o ts rest e (part (tok u f) (part p (done us))) = λ t h. starts-assignment (p t o u h e f)

row-ForName-3 : Combines (Part ForName) (on (is_mark m.Assign) (AFlow ∷ []))
row-ForName-3 o ts rest e (part p (done us)) = λ t h. starts-assignment (makes-assignment o (makes-whole (makes-variable t _ h)) e p)

row-ForName-4 : Combines (Part ForName) (on (is_mark m.OpenBracket) (Operand 0 ∷ CloseBracket ∷ Assign ∷ AFlow ∷ []))
row-ForName-4 o ts rest e (part p (part (tok c f) (part (tok a g) (part q (done us))))) = λ t h. starts-assignment (makes-assignment a (makes-element o c (makes-variable t _ h) e (makes-operands p) f) g q)

row-ForStep : Combines (Part ForStep) (on is_any_name (AssignedName ∷ []))
row-ForStep t ts rest e (part p (done us)) = makes-any (p t e)

row-AssignedName-1 : Combines (Part AssignedName) (on (is_mark m.Dot) (AName ∷ AssignedField ∷ []))
row-AssignedName-1 o ts rest e (part (tok u f) (part p (done us))) = λ t h. p t o u h e f

row-AssignedName-2 : Combines (Part AssignedName) (on (is_mark m.Assign) (AFlow ∷ []))
row-AssignedName-2 o ts rest e (part p (done us)) = λ t h. makes-assignment o (makes-whole (makes-variable t _ h)) e p

row-AssignedName-3 : Combines (Part AssignedName) (on (is_mark m.OpenBracket) (Operand 0 ∷ CloseBracket ∷ Assign ∷ AFlow ∷ []))
row-AssignedName-3 o ts rest e (part p (part (tok c f) (part (tok a g) (part q (done us))))) = λ t h. makes-assignment a (makes-element o c (makes-variable t _ h) e (makes-operands p) f) g q

row-AssignedField-1 : Combines (Part AssignedField) (on (is_mark m.Assign) (AFlow ∷ []))
row-AssignedField-1 o ts rest e (part p (done us)) = λ t d u h i j. makes-assignment o (makes-whole (makes-target_field t d u _ h i j)) e p

row-AssignedField-2 : Combines (Part AssignedField) (on (is_mark m.OpenBracket) (Operand 0 ∷ CloseBracket ∷ Assign ∷ AFlow ∷ []))
row-AssignedField-2 o ts rest e (part p (part (tok c f) (part (tok a g) (part q (done us))))) = λ t d u h i j. makes-assignment a (makes-element o c (makes-target_field t d u _ h i j) e (makes-operands p) f) g q

row-operand-1 : (n : ℕ) → Combines (Operands) (on is_any_name (OperandName ∷ Operators n ∷ []))
row-operand-1 n t ts rest e (part p (part q (done us))) = operands t (makes-primary (p t e)) q

row-operand-2 : (n : ℕ) → Combines (Operands) (on (is_keyword word.Own) (Operators n ∷ []))
row-operand-2 n t ts rest e (part q (done us)) = operands t (makes-primary (makes-own t _ e)) q

row-operand-3 : (n : ℕ) → Combines (Operands) (on is_constant (Operators n ∷ []))
row-operand-3 n t ts rest e (part q (done us)) = operands t (makes-primary (makes-constant t _ e)) q

row-operand-4 : (n : ℕ) → Combines (Operands) (on (is_keyword word.Input) (OpenNothing ∷ Operators n ∷ []))
row-operand-4 n t ts rest e (part p (part q (done us))) = operands t (makes-primary (makes-input t e p)) q

row-operand-5 : (n : ℕ) → Combines (Operands) (on (is_mark m.OpenParenthesis) (Operand 0 ∷ CloseParenthesis ∷ Operators n ∷ []))
row-operand-5 n t ts rest e (part p (part (tok c f) (part q (done us)))) = operands t (makes-primary (makes-parenthesized (around t c e (makes-operands p) f))) q

row-operand-6 : (n : ℕ) → Combines (Operands) (on is_unary (Operand (suc n) ∷ []))
row-operand-6 n t ts rest e (part (operands u p q) (done us)) = operands t (makes-apply t e p) q

row-flow-1 : Combines (Makes flow_text) (on is_any_name (FlowName ∷ []))
row-flow-1 t ts rest e (part p (done us)) = p t e

row-flow-2 : Combines (Makes flow_text) (on (is_keyword word.Own) (FlowOwn ∷ []))
row-flow-2 t ts rest e (part p (done us)) = p t e

row-FlowOwn-1 : Combines (Part FlowOwn) (on (is_mark m.Dot) (AName ∷ OpenFlows ∷ []))
row-FlowOwn-1 d ts rest e (part (tok u f) (part p (done us))) = λ t h. makes-called (call-own t d u h e f p)

row-FlowOwn-2 : Combines (Part FlowOwn) (on is_operator (Operand (suc 0) ∷ []))
row-FlowOwn-2 o ts rest e (part (operands u p q) (done us)) = λ t h. flow-primary (makes-own t _ h) (piece o u e p q)

row-FlowName-1 : Combines (Part FlowName) (on (is_mark m.OpenParenthesis) (ExpressionsIfAny ∷ CloseParenthesis ∷ Operators 0 ∷ []))
row-FlowName-1 o ts rest e (part p (part (tok c f) (part q (done us)))) = λ t h. flow-primary (makes-plain t h (around o c e p f)) q

row-FlowName-2 : Combines (Part FlowName) (on (is_mark m.OpenBracket) (Operand 0 ∷ CloseBracket ∷ Operators 0 ∷ []))
row-FlowName-2 o ts rest e (part p (part (tok c f) (part q (done us)))) = λ t h. flow-place (makes-element o c (makes-variable t _ h) e (makes-operands p) f) q

row-FlowName-3 : Combines (Part FlowName) (on (is_mark m.Dot) (AName ∷ FlowField ∷ []))
row-FlowName-3 o ts rest e (part (tok u f) (part p (done us))) = λ t h. p t o u h e f

row-FlowName-4 : Combines (Part FlowName) (on is_operator (Operand (suc 0) ∷ []))
row-FlowName-4 o ts rest e (part (operands u p q) (done us)) = λ t h. flow-place (makes-whole (makes-variable t _ h)) (piece o u e p q)

row-FlowField-1 : Combines (Part FlowField) (on (is_mark m.OpenParenthesis) (FlowsIfAny ∷ CloseParenthesis ∷ []))
row-FlowField-1 o ts rest e (part p (part (tok c f) (done us))) = λ t d u h i j. makes-called (call-target d u (makes-variable t _ h) i j (around o c e p f))

row-FlowField-2 : Combines (Part FlowField) (on (is_mark m.Dot) (AName ∷ OpenFlows ∷ []))
row-FlowField-2 o ts rest e (part (tok v f) (part p (done us))) = λ t d u h i j. makes-called (call-target o v (makes-target_field t d u _ h i j) e f p)

row-FlowField-3 : Combines (Part FlowField) (on (is_mark m.OpenBracket) (Operand 0 ∷ CloseBracket ∷ Operators 0 ∷ []))
row-FlowField-3 o ts rest e (part p (part (tok c f) (part q (done us)))) = λ t d u h i j. flow-place (makes-element o c (makes-target_field t d u _ h i j) e (makes-operands p) f) q

row-FlowField-4 : Combines (Part FlowField) (on is_operator (Operand (suc 0) ∷ []))
row-FlowField-4 o ts rest e (part (operands v p q) (done us)) = λ t d u h i j. flow-place (makes-whole (makes-target_field t d u _ h i j)) (piece o v e p q)

row-MoreFlows : Combines (Part MoreFlows) (on (is_mark m.Comma) (AFlow ∷ MoreFlows ∷ []))
row-MoreFlows t ts rest e (part p (part q (done us))) = makes-more t e p q

row-MoreExpressions : Combines (Part MoreExpressions) (on (is_mark m.Comma) (Operand 0 ∷ MoreExpressions ∷ []))
row-MoreExpressions t ts rest e (part p (part q (done us))) = makes-more t e (makes-operands p) q

row-Operators : (n : ℕ) → Combines (Pieces) (on is_operator (Operand (suc n) ∷ []))
row-Operators n t ts rest e (part (operands u p q) (done us)) = piece t u e p q

row-OperandName-1 : Combines (Part OperandName) (on (is_mark m.OpenParenthesis) (ExpressionsIfAny ∷ CloseParenthesis ∷ []))
row-OperandName-1 o ts rest e (part p (part (tok c f) (done us))) = λ t h. makes-plain t h (around o c e p f)

row-OperandName-2 : Combines (Part OperandName) (on (is_mark m.OpenBracket) (Operand 0 ∷ CloseBracket ∷ []))
row-OperandName-2 o ts rest e (part p (part (tok c f) (done us))) = λ t h. makes-read (makes-element o c (makes-variable t _ h) e (makes-operands p) f)

row-OperandName-3 : Combines (Part OperandName) (on (is_mark m.Dot) (AName ∷ ElementIfAny ∷ []))
row-OperandName-3 o ts rest e (part (tok u f) (part p (done us))) = λ t h. makes-read (p t o u h e f)

row-ElementIfAny : Combines (Part ElementIfAny) (on (is_mark m.OpenBracket) (Operand 0 ∷ CloseBracket ∷ []))
row-ElementIfAny o ts rest e (part p (part (tok c f) (done us))) = λ t d u h i j. makes-element o c (makes-target_field t d u _ h i j) e (makes-operands p) f

row-declaration-1 : Combines (Makes declaration_text) (on (is_keyword word.Struct) (AName ∷ OpenFields ∷ Semicolon ∷ []))
row-declaration-1 t ts rest e (part (tok u f) (part p (part (tok s g) (done us)))) = makes-struct t u s e f p g

row-declaration-2 : Combines (Makes declaration_text) (on is_kind (MentatWord ∷ ClassWord ∷ AName ∷ OpenItems ∷ Semicolon ∷ []))
row-declaration-2 t ts rest e (part (tok o f) (part (tok c g) (part (tok u h) (part p (part (tok s i) (done us)))))) = makes-class t o c u s e f g h p i

row-declaration-3 : Combines (Makes declaration_text) (on is_type (AName ∷ OpenFormals ∷ ABlock ∷ []))
row-declaration-3 t ts rest e (part (tok u f) (part p (part q (done us)))) = makes-function t u e f p q

-- ---- the whole table

pub combine-declarations : AllCombine (Makes declaration_text) declaration_rows
combine-declarations = (row-declaration-1, (row-declaration-2, (row-declaration-3, tt)))

combine-items : AllCombine (Makes item_text) item_rows
combine-items = (row-item-1, (row-item-2, (row-item-3, (row-item-4, (row-item-5, tt)))))

combine-statements : AllCombine StatementMakes statement_rows
combine-statements = (row-statement-1, (row-statement-2, (row-statement-3, (row-statement-4, (row-statement-5, (row-statement-6, (row-statement-7, (row-statement-8, (row-statement-9, (row-statement-10, (row-statement-11, tt)))))))))))

combine-other_operands : (n : ℕ) → AllCombine Operands (other_operand_rows n)
combine-other_operands n = (row-operand-3 n, (row-operand-4 n, (row-operand-5 n, (row-operand-6 n, tt))))

combine-operands : (n : ℕ) → AllCombine Operands (operand_rows n)
combine-operands n = (row-operand-1 n, (row-operand-2 n, combine-other_operands n))

combine-flows : AllCombine (Makes flow_text) flow_rows
combine-flows = (row-flow-1, (row-flow-2, combine-map Operands (Makes flow_text) (λ t ts rest p. flow-operands p) (other_operand_rows 0) (combine-other_operands 0)))

pub combines : (x : Symbol) → AllCombine (Part x) (rows x)
combines AName = (token_row is_any_name, tt)
combines ANumber = (token_row is_any_number, tt)
combines AType = (token_row is_type, tt)
combines Semicolon = (token_row (is_mark m.Semicolon), tt)
combines Colon = (token_row (is_mark m.Colon), tt)
combines Dot = (token_row (is_mark m.Dot), tt)
combines Assign = (token_row (is_mark m.Assign), tt)
combines MentatWord = (token_row (is_keyword word.Mentat), tt)
combines ClassWord = (token_row (is_keyword word.Class), tt)
combines AcceptWord = (token_row (is_keyword word.Accept), tt)
combines CloseParenthesis = (token_row (is_mark m.CloseParenthesis), tt)
combines CloseBracket = (token_row (is_mark m.CloseBracket), tt)
combines OpenFields = (row-OpenFields, tt)
combines OpenItems = (row-OpenItems, tt)
combines OpenEntries = (row-OpenEntries, tt)
combines OpenFormals = (row-OpenFormals, tt)
combines OpenTest = (row-OpenTest, tt)
combines OpenFor = (row-OpenFor, tt)
combines OpenPrint = (row-OpenPrint, tt)
combines OpenFlow = (row-OpenFlow, tt)
combines OpenFlows = (row-OpenFlows, tt)
combines OpenNothing = (row-OpenNothing, tt)
combines ABlock = (row-ABlock, tt)
combines Fields = (close_row field_text, (row-Fields, tt))
combines Items = (close_row item_text, combine-before Items (Makes item_text) (UpTo item_text) (λ t ts mid rest p q. one_more p q) item_rows combine-items)
combines Entries = (close_row entry_text, (row-Entries, tt))
combines BehindItemName = (row-BehindItemName-1, (row-BehindItemName-2, (row-BehindItemName-3, (row-BehindItemName-4, tt))))
combines DimensionIfAny = (row-DimensionIfAny, tt)
combines MoreNames = (row-MoreNames, tt)
combines FormalsIfAny = (row-FormalsIfAny, tt)
combines MoreFormals = (row-MoreFormals, tt)
combines GuardIfAny = (row-GuardIfAny, tt)
combines BlockRest = (close_row statement_text, combine-before BlockRest StatementMakes (UpTo statement_text) (λ t ts mid rest p q. one_more (makes-statement p) q) statement_rows combine-statements)
combines AStatement = combine-statements
combines StatementName = (row-StatementName-1, (row-StatementName-2, (row-StatementName-3, (row-StatementName-4, tt))))
combines StatementDot = (row-StatementDot-1, (row-StatementDot-2, tt))
combines StatementField = (row-StatementField-1, (row-StatementField-2, (row-StatementField-3, (row-StatementField-4, tt))))
combines StatementFieldDot = (row-StatementFieldDot-1, (row-StatementFieldDot-2, tt))
combines DeclaratorEnd = (row-DeclaratorEnd-1, (row-DeclaratorEnd-2, tt))
combines MoreDeclarators = (row-MoreDeclarators, tt)
combines ElseIfAny = (row-ElseIfAny, tt)
combines WordEnd = tt
combines ForStart = (row-ForStart-1, (row-ForStart-2, tt))
combines ForName = (row-ForName-1, (row-ForName-2, (row-ForName-3, (row-ForName-4, tt))))
combines ForStep = (row-ForStep, tt)
combines AssignedName = (row-AssignedName-1, (row-AssignedName-2, (row-AssignedName-3, tt)))
combines AssignedField = (row-AssignedField-1, (row-AssignedField-2, tt))
combines AFlow = combine-flows
combines FlowOwn = (row-FlowOwn-1, (row-FlowOwn-2, tt))
combines FlowName = (row-FlowName-1, (row-FlowName-2, (row-FlowName-3, (row-FlowName-4, tt))))
combines FlowField = (row-FlowField-1, (row-FlowField-2, (row-FlowField-3, (row-FlowField-4, tt))))
combines FlowsIfAny = combine-before MoreFlows (Makes flow_text) (Makes (all_separated_if_any flow_text)) (λ t ts mid rest p q. makes-some p q) flow_rows combine-flows
combines MoreFlows = (row-MoreFlows, tt)
combines ExpressionIfAny = combine-map Operands (Makes (any expression_text)) (λ t ts rest p. makes-any (makes-operands p)) (operand_rows 0) (combine-operands 0)
combines ExpressionsIfAny = combine-before MoreExpressions Operands (Makes (all_separated_if_any expression_text)) (λ t ts mid rest p q. makes-some (makes-operands p) q) (operand_rows 0) (combine-operands 0)
combines MoreExpressions = (row-MoreExpressions, tt)
combines (Operand n) = combine-operands n
combines (Operators n) = (row-Operators n, tt)
combines OperandName = (row-OperandName-1, (row-OperandName-2, (row-OperandName-3, tt)))
combines ElementIfAny = (row-ElementIfAny, tt)

-- ---- what may be left out

abbrev pub NotTaken : Symbol → List Token → Type 0
NotTaken x [] = Unit {0}
NotTaken x (t ∷ ts) = takes x t.kind ≡ None

no_else_taken : (b : Bool) (p : Stack) → (if b then Some p else None) ≡ None → b ≡ false
no_else_taken true p h = absurd cc
no_else_taken false p h = refl

pub skips : (x : Symbol) → may_end x ≡ true → (ts : List Token) → NotTaken x ts → Part x ts ts
skips AName e ts f = absurd cc
skips ANumber e ts f = absurd cc
skips AType e ts f = absurd cc
skips Semicolon e ts f = absurd cc
skips Colon e ts f = absurd cc
skips Dot e ts f = absurd cc
skips Assign e ts f = absurd cc
skips MentatWord e ts f = absurd cc
skips ClassWord e ts f = absurd cc
skips AcceptWord e ts f = absurd cc
skips CloseParenthesis e ts f = absurd cc
skips CloseBracket e ts f = absurd cc
skips OpenFields e ts f = absurd cc
skips OpenItems e ts f = absurd cc
skips OpenEntries e ts f = absurd cc
skips OpenFormals e ts f = absurd cc
skips OpenTest e ts f = absurd cc
skips OpenFor e ts f = absurd cc
skips OpenPrint e ts f = absurd cc
skips OpenFlow e ts f = absurd cc
skips OpenFlows e ts f = absurd cc
skips OpenNothing e ts f = absurd cc
skips ABlock e ts f = absurd cc
skips Fields e ts f = absurd cc
skips Items e ts f = absurd cc
skips Entries e ts f = absurd cc
skips BehindItemName e ts f = absurd cc
skips DimensionIfAny e ts f = makes-none dimension_text ts
skips MoreNames e ts f = makes-no_more field_name_text ts
skips FormalsIfAny e ts f = makes-none formals_text ts
skips MoreFormals e ts f = makes-no_more formal_text ts
skips GuardIfAny e ts f = makes-none guard_text ts
skips BlockRest e ts f = absurd cc
skips AStatement e ts f = absurd cc
skips StatementName e ts f = absurd cc
skips StatementDot e ts f = absurd cc
skips StatementField e ts f = absurd cc
skips StatementFieldDot e ts f = absurd cc
skips DeclaratorEnd e ts f = λ t h. declares-plain t h (makes-none dimension_text ts)
skips MoreDeclarators e ts f = makes-no_more declarator_text ts
skips ElseIfAny e [] f = no_else [] refl
skips ElseIfAny e (t ∷ ts) f = no_else (t ∷ ts) (no_else_taken (is_keyword word.Else t.kind) (AStatement ∷ WordEnd ∷ []) f)
skips WordEnd e ts f = same ts
skips ForStart e ts f = makes-none for_start_text ts
skips ForName e ts f = absurd cc
skips ForStep e ts f = makes-none assignment_text ts
skips AssignedName e ts f = absurd cc
skips AssignedField e ts f = absurd cc
skips AFlow e ts f = absurd cc
skips FlowOwn e ts f = λ t h. flow-primary (makes-own t ts h) (no_more ts)
skips FlowName e ts f = λ t h. flow-place (makes-whole (makes-variable t ts h)) (no_more ts)
skips FlowField e ts f = λ t d u h i j. flow-place (makes-whole (makes-target_field t d u ts h i j)) (no_more ts)
skips FlowsIfAny e ts f = makes-no_list flow_text ts
skips MoreFlows e ts f = makes-no_more flow_text ts
skips ExpressionIfAny e ts f = makes-none expression_text ts
skips ExpressionsIfAny e ts f = makes-no_list expression_text ts
skips MoreExpressions e ts f = makes-no_more expression_text ts
skips (Operand n) e ts f = absurd cc
skips (Operators n) e ts f = no_more ts
skips OperandName e ts f = λ t h. makes-read (makes-whole (makes-variable t ts h))
skips ElementIfAny e ts f = λ t d u h i j. makes-whole (makes-target_field t d u ts h i j)
