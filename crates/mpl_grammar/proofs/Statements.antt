-- Statements take the machine along.
use Rattle.std.proofs.Common.{◌≡◌, ℕ, ◌+◌, Bool, true, false, ◌&&◌, List, [], ◌∷◌, ◌++◌, Some, refl, ap, ◌∙◌, add-zero}
use Rattle.mpl_ast.specs.declared.expression.Expression.{Expression}
use Rattle.mpl_ast.specs.declared.place.At.{At}
use Rattle.mpl_ast.specs.declared.token.Keyword.{Keyword}
use Rattle.mpl_ast.specs.declared.token.Keyword.TheVariants as word
use Rattle.mpl_ast.specs.declared.token.Mark.TheVariants as m
use Rattle.mpl_ast.specs.declared.token.TokenKind.{TokenKind}
use Rattle.mpl_ast.specs.declared.token.TokenKind.TheVariants as kind
use Rattle.mpl_mean.specs.Text.ExpressionText.{expression_text}
use Rattle.mpl_mean.specs.Text.Reading.{Reads, Rest, each, is_keyword, mark, mark_on}
use Rattle.mpl_mean.specs.Text.StatementText.{StatementText, block_of, texts}
use Rattle.mpl_mean.specs.Text.Weight.{Weighs, bracketed, expression_weighs, in_order}
use Rattle.mpl_mean.proofs.Readers.Parts.{Reading, in_turn, inside, parts, some_same}
use Rattle.mpl_mean.proofs.Readers.Tokens.{Heads, Took, head, took_first, took_mark, took_mark_on}
use Rattle.mpl_grammar.specs.Internal.Grammar.{Stack}
use Rattle.mpl_grammar.specs.Internal.Machine.{next, weight}
use Rattle.mpl_grammar.specs.declared.symbol.Symbol.TheVariants.{AName, AStatement, BlockRest, CloseParenthesis, Dot, ElseIfAny, ExpressionIfAny, OpenFlow, OpenFlows, OpenFor, OpenPrint, OpenTest, Semicolon, StatementDot, StatementField, StatementFieldDot, StatementName, WordEnd}
use Rattle.mpl_grammar.proofs.Passes.{Passes, ends_as, joined, passes-bracketed, stays, trace-heads}
use Rattle.mpl_grammar.proofs.Operands.{at_operand, parenthesis, semicolon}
use Rattle.mpl_grammar.proofs.Lists.{EndsAt, ListEndsAt, list_parenthesis, list_semicolon, whole-driven}
use Rattle.mpl_grammar.proofs.Expressions.{expression-drives}
use Rattle.mpl_grammar.proofs.Flows.{AssignStart, CallStart}
use Rattle.mpl_grammar.proofs.Locals.{LocalStart}

-- ---- where a statement may begin, and what is below it

pub data StatementStart : Stack → Stack → Type 0 where
  one_statement : (s : Stack) → StatementStart (AStatement ∷ s) s
  in_block : (s : Stack) → StatementStart (BlockRest ∷ s) (BlockRest ∷ s)

abbrev pub calls : {xs s : Stack} → StatementStart xs s → CallStart xs (Semicolon ∷ s)
calls (one_statement s) = record {
  own = Dot ∷ AName ∷ OpenFlows ∷ Semicolon ∷ s;
  own_dotted = AName ∷ OpenFlows ∷ Semicolon ∷ s;
  own_member = OpenFlows ∷ Semicolon ∷ s;
  takes_own = refl;
  own_dot = refl;
  own_name = λ text. refl;
  own_open = refl;
  weighs_own = refl;
  weighs_own_dotted = refl;
  weighs_own_member = refl;
  named = StatementName ∷ s;
  dotted = StatementDot ∷ s;
  field = StatementField ∷ s;
  field_dotted = StatementFieldDot ∷ s;
  member = OpenFlows ∷ Semicolon ∷ s;
  takes_name = λ text. refl;
  dot = refl;
  takes_field = λ text. refl;
  field_open = refl;
  field_dot = refl;
  takes_member = λ text. refl;
  member_open = refl;
  weighs_named = refl;
  weighs_dotted = refl;
  weighs_field = refl;
  weighs_field_dotted = refl;
  weighs_member = refl;
}
calls (in_block t) = record {
  own = Dot ∷ AName ∷ OpenFlows ∷ Semicolon ∷ BlockRest ∷ t;
  own_dotted = AName ∷ OpenFlows ∷ Semicolon ∷ BlockRest ∷ t;
  own_member = OpenFlows ∷ Semicolon ∷ BlockRest ∷ t;
  takes_own = refl;
  own_dot = refl;
  own_name = λ text. refl;
  own_open = refl;
  weighs_own = refl;
  weighs_own_dotted = refl;
  weighs_own_member = refl;
  named = StatementName ∷ BlockRest ∷ t;
  dotted = StatementDot ∷ BlockRest ∷ t;
  field = StatementField ∷ BlockRest ∷ t;
  field_dotted = StatementFieldDot ∷ BlockRest ∷ t;
  member = OpenFlows ∷ Semicolon ∷ BlockRest ∷ t;
  takes_name = λ text. refl;
  dot = refl;
  takes_field = λ text. refl;
  field_open = refl;
  field_dot = refl;
  takes_member = λ text. refl;
  member_open = refl;
  weighs_named = refl;
  weighs_dotted = refl;
  weighs_field = refl;
  weighs_field_dotted = refl;
  weighs_member = refl;
}

pub assigns : {xs s : Stack} → StatementStart xs s → AssignStart xs (Semicolon ∷ s)
assigns (one_statement s) = record {
  named = StatementName ∷ s;
  dotted = StatementDot ∷ s;
  field = StatementField ∷ s;
  takes_name = λ text. refl;
  dot = refl;
  takes_field = λ text. refl;
  named_bracket = refl;
  field_bracket = refl;
  named_assign = refl;
  field_assign = refl;
  weighs_named = refl;
  weighs_dotted = refl;
  weighs_field = refl;
}
assigns (in_block t) = record {
  named = StatementName ∷ BlockRest ∷ t;
  dotted = StatementDot ∷ BlockRest ∷ t;
  field = StatementField ∷ BlockRest ∷ t;
  takes_name = λ text. refl;
  dot = refl;
  takes_field = λ text. refl;
  named_bracket = refl;
  field_bracket = refl;
  named_assign = refl;
  field_assign = refl;
  weighs_named = refl;
  weighs_dotted = refl;
  weighs_field = refl;
}

pub locals : {xs s : Stack} → StatementStart xs s → LocalStart xs (Semicolon ∷ s)
locals (one_statement s) = record { named = StatementName ∷ s; takes_int = refl; takes_bool = refl; takes_name = λ text. refl; second = λ text. refl; weighs_named = refl }
locals (in_block t) = record { named = StatementName ∷ BlockRest ∷ t; takes_int = refl; takes_bool = refl; takes_name = λ text. refl; second = λ text. refl; weighs_named = refl }

-- what the word of a statement leads to
abbrev pub behind_word : Keyword → Stack
behind_word word.If = OpenTest ∷ AStatement ∷ ElseIfAny ∷ []
behind_word word.While = OpenTest ∷ AStatement ∷ WordEnd ∷ []
behind_word word.For = OpenFor ∷ AStatement ∷ WordEnd ∷ []
behind_word word.Print = OpenPrint ∷ Semicolon ∷ []
behind_word word.Rtf = OpenFlow ∷ Semicolon ∷ []
behind_word word.Return = ExpressionIfAny ∷ Semicolon ∷ []
behind_word _ = []

-- a word that begins a statement
pub data IsFirst : Keyword → Type 0 where
  if_word : IsFirst word.If
  while_word : IsFirst word.While
  for_word : IsFirst word.For
  print_word : IsFirst word.Print
  rtf_word : IsFirst word.Rtf
  return_word : IsFirst word.Return

pub word_next : {w : Keyword} → IsFirst w → {xs s : Stack} → StatementStart xs s → next xs (kind.Keyword w) ≡ Some (behind_word w ++ s)
word_next if_word (one_statement s) = refl
word_next if_word (in_block t) = refl
word_next while_word (one_statement s) = refl
word_next while_word (in_block t) = refl
word_next for_word (one_statement s) = refl
word_next for_word (in_block t) = refl
word_next print_word (one_statement s) = refl
word_next print_word (in_block t) = refl
word_next rtf_word (one_statement s) = refl
word_next rtf_word (in_block t) = refl
word_next return_word (one_statement s) = refl
word_next return_word (in_block t) = refl

pub brace_next : {xs s : Stack} → StatementStart xs s → next xs (kind.Mark m.OpenBrace) ≡ Some (BlockRest ∷ s)
brace_next (one_statement s) = refl
brace_next (in_block t) = refl

pub empty_next : {xs s : Stack} → StatementStart xs s → next xs (kind.Mark m.Semicolon) ≡ Some s
empty_next (one_statement s) = refl
empty_next (in_block t) = refl

-- ---- what ends a statement

-- a stack does as another before all tokens, or before all but `else`
pub record Over (takes_else : Bool) (z s : Stack) : Type 0 where
  pub before : (k : TokenKind) → (takes_else && is_keyword word.Else k) ≡ false → next z k ≡ next s k

pub record StatementPassed (takes_else : Bool) (s xs : Stack) (r : Rest) (w : Weighs) (x : Rest) : Type 0 where
  pub stack : Stack
  pub over : Over takes_else stack s
  pub passes : Passes (weight s) r xs w (weight s) x stack

-- something other than `else` stands there
pub record NotElse (r : Rest) : Type 0 where
  pub kind : TokenKind
  pub heads : Heads kind r
  pub not_else : is_keyword word.Else kind ≡ false

pub record Stated (t : StatementText) (w : Weighs) : Type 0 where
  pub begins : {r x : Rest} → Reading t.text r x → NotElse r
  pub state : {xs s : Stack} → StatementStart xs s → {r x : Rest} → Reading t.text r x → StatementPassed t.takes_else s xs r w x

pub not_else : {k : TokenKind} {r x : Rest} → Took k r x → is_keyword word.Else k ≡ false → NotElse r
not_else t e = record { kind = _; heads = took_first t; not_else = e }

pub and-false : (b c : Bool) → c ≡ false → (b && c) ≡ false
and-false true c e = e
and-false false c e = refl

-- a statement that ends with its last token
pub closed : {xs s : Stack} {r x : Rest} {w : Weighs} → Passes (weight s) r xs w (weight s) x s → StatementPassed false s xs r w x
closed {s = s} p = record { stack = s; over = record { before = λ k h. refl }; passes = p }

pub out : {v u : ℕ} {r x : Rest} {s z : Stack} {w : Weighs} → Passes v (inside r) s w u x z → Passes v r s w u x z
out p = record { seen = p.seen; after = p.after }

pub at_close : {r x : Rest} → Took (kind.Mark m.CloseParenthesis) r x → EndsAt r
at_close t = record { mark = m.CloseParenthesis; is_end = parenthesis; heads = took_first t }

pub at_semicolon : {r x : Rest} → Took (kind.Mark m.Semicolon) r x → EndsAt r
at_semicolon t = record { mark = m.Semicolon; is_end = semicolon; heads = took_first t }

pub at_list_close : {r x : Rest} → Took (kind.Mark m.CloseParenthesis) r x → ListEndsAt r
at_list_close t = record { mark = m.CloseParenthesis; is_end = list_parenthesis; heads = took_first t }

pub at_list_semicolon : {r x : Rest} → Took (kind.Mark m.Semicolon) r x → ListEndsAt r
at_list_semicolon t = record { mark = m.Semicolon; is_end = list_semicolon; heads = took_first t }

-- ---- the parts of statements

-- `( test )`
pub test-passes : (e : Expression) (q : Stack) {r y n x : Rest} → Reading (mark m.OpenParenthesis) r y → Reading (expression_text e) y n → Reading (mark m.CloseParenthesis) n x
    → Passes (weight q) r (OpenTest ∷ q) (bracketed (expression_weighs e)) (weight q) x q
test-passes e q o h c =
    let close = took_mark m.CloseParenthesis c in
    let inner = whole-driven ((expression-drives e).drive (at_operand 0 (CloseParenthesis ∷ q)) h) (at_close close) in
    passes-bracketed (took_mark m.OpenParenthesis o) refl (add-zero _) inner close refl refl

-- ---- blocks

pub record BlockDrives (a : Reads) (w : Weighs) : Type 0 where
  pub begins : {r x : Rest} → Reading a r x → NotElse r
  pub drive : (q z : Stack) → next q (kind.Mark m.OpenBrace) ≡ Some (BlockRest ∷ z) → {r x : Rest} → Reading a r x → Passes (weight z) r q w (weight z) x z

pub data EachStated : List StatementText → List Weighs → Type 0 where
  none_stated : EachStated [] []
  more_stated : {t : StatementText} {w : Weighs} {ts : List StatementText} {ws : List Weighs} → Stated t w → EachStated ts ws → EachStated (t ∷ ts) (w ∷ ws)

rest-begins : {ts : List StatementText} {ws : List Weighs} → EachStated ts ws → {r x : Rest} → Reading (each (texts ts)) r x → Heads (kind.Mark m.CloseBrace) x → NotElse r
rest-begins none_stated h c = record { kind = kind.Mark m.CloseBrace; heads = record { first = ap (λ (r : Rest). head r.tokens) (some_same h.is) ∙ c.first }; not_else = refl }
rest-begins (more_stated {t = t} {ts = ts} s ss) h c = let u = in_turn (t.text ∷ each (texts ts) ∷ []) h in let n = s.begins u.1 in record { kind = n.kind; heads = n.heads; not_else = n.not_else }

each-pass : {ts : List StatementText} {ws : List Weighs} → EachStated ts ws → (z : Stack) {r x : Rest} → Reading (each (texts ts)) r x → Heads (kind.Mark m.CloseBrace) x
    → Passes (weight z + 1) r (BlockRest ∷ z) (in_order ws) (weight z + 1) x (BlockRest ∷ z)
each-pass none_stated z h c = stays (ap (λ (r : Rest). r.tokens) (some_same h.is))
each-pass (more_stated {t = t} {ts = ts} s ss) z h c =
    let u = in_turn (t.text ∷ each (texts ts) ∷ []) h in
    let p = s.state (in_block z) u.1 in
    let n = rest-begins ss u.2 c in
    let same = trace-heads p.stack (BlockRest ∷ z) n.heads (p.over.before n.kind (and-false t.takes_else (is_keyword word.Else n.kind) n.not_else)) in
    joined (ends_as same p.passes) (each-pass ss z u.2 c)

pub drives-block : (at : At) (line : ℕ) {ts : List StatementText} {ws : List Weighs} → EachStated ts ws → BlockDrives (block_of at line (texts ts)) (bracketed (in_order ws))
drives-block at line {ts = ts} ss = record {
  begins = λ h. let n = not_else (took_mark m.OpenBrace (parts at (mark m.OpenBrace ∷ each (texts ts) ∷ mark_on line m.CloseBrace ∷ []) h).1) refl in record { kind = n.kind; heads = record { first = n.heads.first }; not_else = n.not_else };
  drive = λ q z e h.
      let u = parts at (mark m.OpenBrace ∷ each (texts ts) ∷ mark_on line m.CloseBrace ∷ []) h in
      let close = took_mark_on line m.CloseBrace u.2.2 in
      out (passes-bracketed (took_mark m.OpenBrace u.1) e refl (each-pass ss z u.2.1 (took_first close)) close refl refl);
}
