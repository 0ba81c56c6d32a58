-- Each statement takes the machine along.
use Rattle.std.proofs.Common.{◌≡◌, ◌+◌, Bool, true, false, ◌&&◌, List, [], ◌∷◌, map, Option, Some, None, if◌then◌else◌, refl, ap, sym, ◌∙◌, subst, add-zero}
use Rattle.std.specs.Option.{option_map}
use Rattle.mpl_ast.specs.declared.expression.Expression.{Expression}
use Rattle.mpl_ast.specs.declared.expression.Target.{Target}
use Rattle.mpl_ast.specs.declared.expression.Target.TheVariants as target
use Rattle.mpl_ast.specs.declared.flow.Assignment.{Assignment}
use Rattle.mpl_ast.specs.declared.flow.Call.{Call}
use Rattle.mpl_ast.specs.declared.flow.Flow.{Flow}
use Rattle.mpl_ast.specs.declared.place.At.{At}
use Rattle.mpl_ast.specs.declared.statement.Block.{Block, Block-F, fold-Block, fold-roll-Block, map-Block, roll-Block}
use Rattle.mpl_ast.specs.declared.statement.ForHead.{ForHead}
use Rattle.mpl_ast.specs.declared.statement.ForStart.{ForStart}
use Rattle.mpl_ast.specs.declared.statement.ForStart.TheVariants.{Declare, Assign}
use Rattle.mpl_ast.specs.declared.statement.Local.{Local}
use Rattle.mpl_ast.specs.declared.statement.TypeName.{TypeName}
use Rattle.mpl_ast.specs.declared.statement.TypeName.TheVariants as type
use Rattle.mpl_ast.specs.declared.statement.Statement.{Statement, fold-roll-Statement, ind-Statement, map-Statement, roll-Statement}
use Rattle.mpl_ast.specs.declared.statement.Statement.TheOpen.{Statement-F}
use Rattle.mpl_ast.specs.declared.token.Keyword.TheVariants as word
use Rattle.mpl_ast.specs.declared.token.Mark.TheVariants as m
use Rattle.mpl_ast.specs.declared.token.TokenKind.TheVariants as kind
use Rattle.mpl_mean.specs.Text.ExpressionText.{expression_text, place_text, target_text}
use Rattle.mpl_mean.specs.Text.Reading.{Reads, Rest, ◌>>◌, is_keyword, keyword, mark, mark_on, name, node, optional, separated, separated_if_any}
use Rattle.mpl_mean.specs.Text.StatementText as text
use Rattle.mpl_mean.specs.Text.StatementText.{StatementText, assignment_text, before_else, block_of, block_text, call_text, declarator_text, flow_text, for_head_text, for_start_text, local_text, refused, statement_of, statement_text, texts, type_text}
use Rattle.mpl_mean.specs.Text.Weight as weighing
use Rattle.mpl_mean.specs.Text.Weight.{Weighs, ◌⨾◌, assignment_weighs, block_weighs, bracketed, call_weighs, else_weighs, expression_weighs, flow_weighs, for_head_weighs, for_start_weighs, if_any, in_order, local_weighs, no_token, operand_weighs, plain, statement_weighs, target_weighs, with_commas, worded, whole}
use Rattle.mpl_mean.proofs.Readers.Parts.{Reading, in_turn, inside, parts}
use Rattle.mpl_mean.proofs.Readers.Tokens.{Heads, Took, took_first, took_keyword, took_mark, took_name}
use Rattle.mpl_grammar.specs.Internal.Grammar.{Stack}
use Rattle.mpl_grammar.specs.Internal.Machine.{next, weight}
use Rattle.mpl_grammar.specs.declared.symbol.Symbol.TheVariants.{AName, AStatement, AssignedField, AssignedName, CloseParenthesis, ElseIfAny, ExpressionIfAny, ForName, ForStart as AForStart, ForStep, OpenNothing, Operand, Semicolon, WordEnd}
use Rattle.mpl_grammar.proofs.Passes.{Passes, as_whole, ends_as, joined, passes-bracketed, passes-counted, passes-plain, stays, trace-heads}
use Rattle.mpl_grammar.proofs.Operands.{Drives, at_expression, at_operand, parenthesis, semicolon}
use Rattle.mpl_grammar.proofs.Lists.{Each, Fills, expressions, fills-whole, more, none, some-fill, whole-driven}
use Rattle.mpl_grammar.proofs.Primaries.{IsPlace, element_place, whole_place}
use Rattle.mpl_grammar.proofs.Expressions.{expression-drives, place-is}
use Rattle.mpl_grammar.proofs.Flows.{AssignStart, IsCall, assignment-passes, call-is, call-passes, flow-drives, on_own, on_target, one_flow}
use Rattle.mpl_grammar.proofs.Locals.{LocalStart, local-passes, read_nothing, took_type}
use Rattle.mpl_grammar.proofs.Statements.{BlockDrives, EachStated, NotElse, Over, Stated, StatementStart, and-false, assigns, at_close, at_list_close, at_list_semicolon, at_semicolon, brace_next, calls, closed, drives-block, empty_next, for_word, if_word, in_block, locals, more_stated, none_stated, not_else, one_statement, out, print_word, return_word, rtf_word, test-passes, while_word, word_next}

abbrev text_of : Reads → StatementText
text_of a = record { text = a; takes_else = false }

outer : {r : Rest} → NotElse (inside r) → NotElse r
outer n = record { kind = n.kind; heads = record { first = n.heads.first }; not_else = n.not_else }

-- ---- blocks, `;` and calls

stated-block : (at : At) {a : Reads} {w : Weighs} → BlockDrives a w → Stated (text_of (node at a)) w
stated-block at {a = a} d = record {
  begins = λ h. outer (d.begins (parts at (a ∷ []) h));
  state = λ start h. closed (out (d.drive _ _ (brace_next start) (parts at (a ∷ []) h)));
}

stated-empty : (at : At) → Stated (text_of (node at (mark m.Semicolon))) plain
stated-empty at = record {
  begins = λ h. outer (not_else (took_mark m.Semicolon (parts at (mark m.Semicolon ∷ []) h)) refl);
  state = λ start h. closed (out (passes-plain (took_mark m.Semicolon (parts at (mark m.Semicolon ∷ []) h)) (empty_next start) refl));
}

target_begins : (t : Target) {r x : Rest} → Reading (target_text t) r x → NotElse r
target_begins (target.Variable at variable) h = outer (not_else (took_name variable (parts at (name variable ∷ []) h)) refl)
target_begins (target.Field at variable field) h = outer (not_else (took_name variable (parts at (name variable ∷ mark m.Dot ∷ name field ∷ []) h).1) refl)

call_begins : {a : Reads} {w : Weighs} → IsCall a w → {r x : Rest} → Reading a r x → NotElse r
call_begins (on_own at member {rs = rs} ds) h =
    outer (not_else (took_keyword word.Own (parts at (keyword word.Own ∷ mark m.Dot ∷ name member ∷ mark m.OpenParenthesis ∷ separated_if_any rs ∷ mark m.CloseParenthesis ∷ []) h).1) refl)
call_begins (on_target at t member {rs = rs} ds) h =
    outer (target_begins t (parts at (target_text t ∷ mark m.Dot ∷ name member ∷ mark m.OpenParenthesis ∷ separated_if_any rs ∷ mark m.CloseParenthesis ∷ []) h).1)

stated-call : (at : At) (c : Call) → Stated (text_of (node at (call_text c >> mark m.Semicolon))) (call_weighs c ⨾ plain)
stated-call at c = record {
  begins = λ h. outer (call_begins (call-is c) (parts at (call_text c ∷ mark m.Semicolon ∷ []) h).1);
  state = λ start h.
      let u = parts at (call_text c ∷ mark m.Semicolon ∷ []) h in
      closed (out (joined (call-passes (call-is c) (calls start) u.1) (passes-plain (took_mark m.Semicolon u.2) refl refl)));
}

-- ---- locals, assignments and creations

type_begins : (t : TypeName) {r x : Rest} → Reading (type_text t) r x → NotElse r
type_begins (type.Int at) h = outer (not_else (took_type (type.Int at) h) refl)
type_begins (type.Bool at) h = outer (not_else (took_type (type.Bool at) h) refl)
type_begins (type.Named at n) h = outer (not_else (took_type (type.Named at n) h) refl)

local_begins : (l : Local) {r x : Rest} → Reading (local_text l) r x → NotElse r
local_begins l h = outer (type_begins l.type_name (parts l.at (type_text l.type_name ∷ separated (map declarator_text l.declarators) ∷ []) h).1)

stated-declare : (at : At) (l : Local) → Stated (text_of (node at (local_text l >> mark m.Semicolon))) (local_weighs l ⨾ plain)
stated-declare at l = record {
  begins = λ h. outer (local_begins l (parts at (local_text l ∷ mark m.Semicolon ∷ []) h).1);
  state = λ start h.
      let u = parts at (local_text l ∷ mark m.Semicolon ∷ []) h in
      let semi = took_mark m.Semicolon u.2 in
      closed (out (joined (local-passes l (locals start) u.1 (at_list_semicolon semi)) (passes-plain semi refl refl)));
}

place_begins : {a : Reads} {w : Weighs} → IsPlace a w → {r x : Rest} → Reading a r x → NotElse r
place_begins (whole_place at t) h = outer (target_begins t (parts at (target_text t ∷ []) h))
place_begins (element_place at line t {a = a} d) h = outer (target_begins t (parts at (target_text t ∷ mark_on line m.OpenBracket ∷ a ∷ mark m.CloseBracket ∷ []) h).1)

assignment_begins : (a : Assignment) {r x : Rest} → Reading (assignment_text a) r x → NotElse r
assignment_begins a h = outer (place_begins (place-is a.place) (parts a.at (place_text a.place ∷ mark m.Assign ∷ flow_text a.value ∷ []) h).1)

stated-assign : (at : At) (a : Assignment) → Stated (text_of (node at (assignment_text a >> mark m.Semicolon))) (assignment_weighs a ⨾ plain)
stated-assign at a = record {
  begins = λ h. outer (assignment_begins a (parts at (assignment_text a ∷ mark m.Semicolon ∷ []) h).1);
  state = λ start h.
      let u = parts at (assignment_text a ∷ mark m.Semicolon ∷ []) h in
      let semi = took_mark m.Semicolon u.2 in
      closed (out (joined (assignment-passes a (assigns start) u.1 (at_semicolon semi)) (passes-plain semi refl refl)));
}

create_next : {xs s : Stack} (start : StatementStart xs s) → next (calls start).dotted (kind.Keyword word.Create) ≡ Some (OpenNothing ∷ Semicolon ∷ s)
create_next (one_statement s) = refl
create_next (in_block t) = refl

create_field_next : {xs s : Stack} (start : StatementStart xs s) → next (calls start).field_dotted (kind.Keyword word.Create) ≡ Some (OpenNothing ∷ Semicolon ∷ s)
create_field_next (one_statement s) = refl
create_field_next (in_block t) = refl

abbrev creation : Target → List Reads
creation t = target_text t ∷ mark m.Dot ∷ keyword word.Create ∷ mark m.OpenParenthesis ∷ mark m.CloseParenthesis ∷ mark m.Semicolon ∷ []

create-passes : (at : At) (t : Target) {xs s : Stack} → StatementStart xs s → {r x : Rest}
    → Reading (node at (target_text t >> mark m.Dot >> keyword word.Create >> mark m.OpenParenthesis >> mark m.CloseParenthesis >> mark m.Semicolon)) r x
    → Passes (weight s) r xs (target_weighs t ⨾ plain ⨾ plain ⨾ bracketed no_token ⨾ plain) (weight s) x s
create-passes at (target.Variable place variable) start h =
    let u = parts at (creation (target.Variable place variable)) h in
    let c = calls start in
    out (joined (out (passes-plain (took_name variable (parts place (name variable ∷ []) u.1)) (c.takes_name variable.text) c.weighs_named))
    (joined (passes-plain (took_mark m.Dot u.2.1) c.dot c.weighs_dotted)
    (joined (passes-plain (took_keyword word.Create u.2.2.1) (create_next start) refl)
    (joined (passes-bracketed (took_mark m.OpenParenthesis u.2.2.2.1) refl refl (stays refl) (took_mark m.CloseParenthesis u.2.2.2.2.1) refl refl)
    (passes-plain (took_mark m.Semicolon u.2.2.2.2.2) refl refl)))))
create-passes at (target.Field place variable field) start h =
    let u = parts at (creation (target.Field place variable field)) h in
    let v = parts place (name variable ∷ mark m.Dot ∷ name field ∷ []) u.1 in
    let c = calls start in
    out (joined (out (joined (passes-plain (took_name variable v.1) (c.takes_name variable.text) c.weighs_named)
    (joined (passes-plain (took_mark m.Dot v.2.1) c.dot c.weighs_dotted) (passes-plain (took_name field v.2.2) (c.takes_field field.text) c.weighs_field))))
    (joined (passes-plain (took_mark m.Dot u.2.1) c.field_dot c.weighs_field_dotted)
    (joined (passes-plain (took_keyword word.Create u.2.2.1) (create_field_next start) refl)
    (joined (passes-bracketed (took_mark m.OpenParenthesis u.2.2.2.1) refl refl (stays refl) (took_mark m.CloseParenthesis u.2.2.2.2.1) refl refl)
    (passes-plain (took_mark m.Semicolon u.2.2.2.2.2) refl refl)))))

stated-create : (at : At) (t : Target) → Stated (text_of (node at (target_text t >> mark m.Dot >> keyword word.Create >> mark m.OpenParenthesis >> mark m.CloseParenthesis >> mark m.Semicolon)))
    (target_weighs t ⨾ plain ⨾ plain ⨾ bracketed no_token ⨾ plain)
stated-create at t = record {
  begins = λ h. outer (target_begins t (parts at (creation t) h).1);
  state = λ start h. closed (create-passes at t start h);
}

-- ---- `print`, `rtf` and `return`

abbrev printing : List Expression → List Reads
printing es = keyword word.Print ∷ mark m.OpenParenthesis ∷ separated (map expression_text es) ∷ mark m.CloseParenthesis ∷ mark m.Semicolon ∷ []

each_expression : (es : List Expression) → Each Drives (map expression_text es) (map operand_weighs es)
each_expression [] = none
each_expression (e ∷ es) = more (expression-drives e) (each_expression es)

whole_each : (es : List Expression) → map whole (map operand_weighs es) ≡ map expression_weighs es
whole_each [] = refl
whole_each (e ∷ es) = ap (λ ws. expression_weighs e ∷ ws) (whole_each es)

stated-print : (at : At) (es : List Expression) → Stated (text_of (node at (keyword word.Print >> mark m.OpenParenthesis >> separated (map expression_text es) >> mark m.CloseParenthesis >> mark m.Semicolon)))
    (plain ⨾ bracketed (with_commas (map expression_weighs es)) ⨾ plain)
stated-print at es = record {
  begins = λ h. outer (not_else (took_keyword word.Print (parts at (printing es) h).1) refl);
  state = λ {xs} {s} start h.
      let u = parts at (printing es) h in
      let close = took_mark m.CloseParenthesis u.2.2.2.1 in
      let each = subst (λ ws. Each (Fills (Operand 0 ∷ [])) (map expression_text es) ws) (whole_each es) (fills-whole (each_expression es)) in
      let inner = some-fill expressions each (CloseParenthesis ∷ Semicolon ∷ s) u.2.2.1 (at_list_close close) in
      closed (out (joined (passes-plain (took_keyword word.Print u.1) (word_next print_word start) refl)
      (joined (passes-bracketed (took_mark m.OpenParenthesis u.2.1) refl (add-zero _) inner close refl refl) (passes-plain (took_mark m.Semicolon u.2.2.2.2) refl refl))));
}

abbrev giving : Flow → List Reads
giving f = keyword word.Rtf ∷ mark m.OpenParenthesis ∷ flow_text f ∷ mark m.CloseParenthesis ∷ mark m.Semicolon ∷ []

stated-rtf : (at : At) (f : Flow) → Stated (text_of (node at (keyword word.Rtf >> mark m.OpenParenthesis >> flow_text f >> mark m.CloseParenthesis >> mark m.Semicolon)))
    (plain ⨾ bracketed (flow_weighs f) ⨾ plain)
stated-rtf at f = record {
  begins = λ h. outer (not_else (took_keyword word.Rtf (parts at (giving f) h).1) refl);
  state = λ {xs} {s} start h.
      let u = parts at (giving f) h in
      let close = took_mark m.CloseParenthesis u.2.2.2.1 in
      let inner = (flow-drives f).drive (one_flow (CloseParenthesis ∷ Semicolon ∷ s)) u.2.2.1 (at_close close) in
      closed (out (joined (passes-plain (took_keyword word.Rtf u.1) (word_next rtf_word start) refl)
      (joined (passes-bracketed (took_mark m.OpenParenthesis u.2.1) refl refl inner close refl refl) (passes-plain (took_mark m.Semicolon u.2.2.2.2) refl refl))));
}

abbrev returning : Option Expression → List Reads
returning e = keyword word.Return ∷ optional (option_map expression_text e) ∷ mark m.Semicolon ∷ []

value-passes : (e : Option Expression) (z : Stack) {r x : Rest} → Reading (optional (option_map expression_text e)) r x → Heads (kind.Mark m.Semicolon) x
    → Passes (weight z) r (ExpressionIfAny ∷ Semicolon ∷ z) (if_any (option_map expression_weighs e)) (weight z) x (Semicolon ∷ z)
value-passes None z {x = x} h e = ends_as {x = x} (trace-heads (ExpressionIfAny ∷ Semicolon ∷ z) (Semicolon ∷ z) e refl) (stays (read_nothing expression_text h))
value-passes (Some v) z h e =
    whole-driven ((expression-drives v).drive (at_expression (Semicolon ∷ z)) (record { is = h.is })) (record { mark = m.Semicolon; is_end = semicolon; heads = e })

stated-return : (at : At) (e : Option Expression) → Stated (text_of (node at (keyword word.Return >> optional (option_map expression_text e) >> mark m.Semicolon)))
    (plain ⨾ if_any (option_map expression_weighs e) ⨾ plain)
stated-return at e = record {
  begins = λ h. outer (not_else (took_keyword word.Return (parts at (returning e) h).1) refl);
  state = λ {xs} {s} start h.
      let u = parts at (returning e) h in
      let semi = took_mark m.Semicolon u.2.2 in
      closed (out (joined (passes-plain (took_keyword word.Return u.1) (word_next return_word start) refl)
      (joined (value-passes e s u.2.1 (took_first semi)) (passes-plain semi refl refl))));
}

-- ---- `while` and `for`

abbrev looping : Expression → StatementText → List Reads
looping e t = keyword word.While ∷ mark m.OpenParenthesis ∷ expression_text e ∷ mark m.CloseParenthesis ∷ t.text ∷ []

over_word : {b : Bool} {z s : Stack} → Over b z (WordEnd ∷ s) → Over b z s
over_word o = record { before = λ k h. o.before k h }

stated-while : (at : At) (e : Expression) {t : StatementText} {w : Weighs} → Stated t w
    → Stated (record { text = node at (keyword word.While >> mark m.OpenParenthesis >> expression_text e >> mark m.CloseParenthesis >> t.text); takes_else = t.takes_else })
    (worded (bracketed (expression_weighs e) ⨾ w))
stated-while at e {t = t} b = record {
  begins = λ h. outer (not_else (took_keyword word.While (parts at (looping e t) h).1) refl);
  state = λ {xs} {s} start h.
      let u = parts at (looping e t) h in
      let p = b.state (one_statement (WordEnd ∷ s)) u.2.2.2.2 in
      record {
        stack = p.stack;
        over = over_word p.over;
        passes = out (as_whole (joined (passes-counted (took_keyword word.While u.1) (word_next while_word start) refl refl)
            (joined (test-passes e (AStatement ∷ WordEnd ∷ s) u.2.1 u.2.2.1 u.2.2.2.1) p.passes)));
      };
}

start-locals : (z : Stack) → LocalStart (AForStart ∷ z) z
start-locals z = record { named = ForName ∷ z; takes_int = refl; takes_bool = refl; takes_name = λ text. refl; second = λ text. refl; weighs_named = refl }

start-assigns : (z : Stack) → AssignStart (AForStart ∷ z) z
start-assigns z = record {
  named = ForName ∷ z;
  dotted = AName ∷ AssignedField ∷ z;
  field = AssignedField ∷ z;
  takes_name = λ text. refl;
  dot = refl;
  takes_field = λ text. refl;
  named_bracket = refl;
  field_bracket = refl;
  named_assign = refl;
  field_assign = refl;
  weighs_named = refl;
  weighs_dotted = refl;
  weighs_field = refl;
}

step-assigns : (z : Stack) → AssignStart (ForStep ∷ z) z
step-assigns z = record {
  named = AssignedName ∷ z;
  dotted = AName ∷ AssignedField ∷ z;
  field = AssignedField ∷ z;
  takes_name = λ text. refl;
  dot = refl;
  takes_field = λ text. refl;
  named_bracket = refl;
  field_bracket = refl;
  named_assign = refl;
  field_assign = refl;
  weighs_named = refl;
  weighs_dotted = refl;
  weighs_field = refl;
}

start-passes : (f : Option ForStart) (z : Stack) {r y x : Rest} → Reading (optional (option_map for_start_text f)) r y → Took (kind.Mark m.Semicolon) y x
    → Passes (weight z) r (AForStart ∷ Semicolon ∷ z) (if_any (option_map for_start_weighs f)) (weight z) y (Semicolon ∷ z)
start-passes None z {y = y} h t = ends_as {x = y} (trace-heads (AForStart ∷ Semicolon ∷ z) (Semicolon ∷ z) (took_first t) refl) (stays (read_nothing for_start_text h))
start-passes (Some (Declare l)) z h t = local-passes l (start-locals (Semicolon ∷ z)) (record { is = h.is }) (at_list_semicolon t)
start-passes (Some (Assign a)) z h t = assignment-passes a (start-assigns (Semicolon ∷ z)) (record { is = h.is }) (at_semicolon t)

step-passes : (a : Option Assignment) (z : Stack) {r x : Rest} → Reading (optional (option_map assignment_text a)) r x → Heads (kind.Mark m.CloseParenthesis) x
    → Passes (weight z + 1) r (ForStep ∷ CloseParenthesis ∷ z) (if_any (option_map assignment_weighs a)) (weight z + 1) x (CloseParenthesis ∷ z)
step-passes None z {x = x} h e = ends_as {x = x} (trace-heads (ForStep ∷ CloseParenthesis ∷ z) (CloseParenthesis ∷ z) e refl) (stays (read_nothing assignment_text h))
step-passes (Some a) z h e = assignment-passes a (step-assigns (CloseParenthesis ∷ z)) (record { is = h.is }) (record { mark = m.CloseParenthesis; is_end = parenthesis; heads = e })

abbrev head_parts : ForHead → List Reads
head_parts f = optional (option_map for_start_text f.start) ∷ mark m.Semicolon ∷ expression_text f.test ∷ mark m.Semicolon ∷ optional (option_map assignment_text f.step) ∷ []

head-passes : (f : ForHead) (z : Stack) {r x : Rest} → Reading (for_head_text f) r x → Heads (kind.Mark m.CloseParenthesis) x
    → Passes (weight z + 1) r (AForStart ∷ Semicolon ∷ Operand 0 ∷ Semicolon ∷ ForStep ∷ CloseParenthesis ∷ z) (for_head_weighs f) (weight z + 1) x (CloseParenthesis ∷ z)
head-passes f z {r = r} {x = x} h e =
    let u = in_turn (head_parts f) {r = r} {x = x} (record { is = h.is }) in
    let first = took_mark m.Semicolon u.2.1 in
    let second = took_mark m.Semicolon u.2.2.2.1 in
    let behind = Operand 0 ∷ Semicolon ∷ ForStep ∷ CloseParenthesis ∷ z in
    let start = subst (λ v. Passes v r (AForStart ∷ Semicolon ∷ behind) (if_any (option_map for_start_weighs f.start)) v u.0 (Semicolon ∷ behind)) (add-zero (weight z + 1)) (start-passes f.start behind u.1 first) in
    let test = whole-driven ((expression-drives f.test).drive (at_operand 0 (Semicolon ∷ ForStep ∷ CloseParenthesis ∷ z)) u.2.2.1) (at_semicolon second) in
    joined start (joined (passes-plain first refl (add-zero _)) (joined test (joined (passes-plain second refl refl) (step-passes f.step z u.2.2.2.2 e))))

abbrev counting : ForHead → StatementText → List Reads
counting f t = keyword word.For ∷ mark m.OpenParenthesis ∷ for_head_text f ∷ mark m.CloseParenthesis ∷ t.text ∷ []

stated-for : (at : At) (f : ForHead) {t : StatementText} {w : Weighs} → Stated t w
    → Stated (record { text = node at (keyword word.For >> mark m.OpenParenthesis >> for_head_text f >> mark m.CloseParenthesis >> t.text); takes_else = t.takes_else })
    (worded (bracketed (for_head_weighs f) ⨾ w))
stated-for at f {t = t} b = record {
  begins = λ h. outer (not_else (took_keyword word.For (parts at (counting f t) h).1) refl);
  state = λ {xs} {s} start h.
      let u = parts at (counting f t) h in
      let p = b.state (one_statement (WordEnd ∷ s)) u.2.2.2.2 in
      let close = took_mark m.CloseParenthesis u.2.2.2.1 in
      let inner = head-passes f (AStatement ∷ WordEnd ∷ s) u.2.2.1 (took_first close) in
      record {
        stack = p.stack;
        over = over_word p.over;
        passes = out (as_whole (joined (passes-counted (took_keyword word.For u.1) (word_next for_word start) refl refl)
            (joined (passes-bracketed (took_mark m.OpenParenthesis u.2.1) refl (add-zero _) inner close refl refl) p.passes)));
      };
}

-- ---- `if`

abbrev branching : Expression → StatementText → List Reads
branching e t = keyword word.If ∷ mark m.OpenParenthesis ∷ expression_text e ∷ mark m.CloseParenthesis ∷ t.text ∷ []

over_if : {b : Bool} {z s : Stack} → Over b z (ElseIfAny ∷ s) → Over true z s
over_if {b = b} {s = s} o = record { before = λ k h. o.before k (and-false b (is_keyword word.Else k) h) ∙ rw h }

stated-if : (at : At) (e : Expression) {t : StatementText} {w : Weighs} → Stated t w
    → Stated (record { text = node at (keyword word.If >> mark m.OpenParenthesis >> expression_text e >> mark m.CloseParenthesis >> t.text); takes_else = true })
    (worded (bracketed (expression_weighs e) ⨾ w) ⨾ no_token)
stated-if at e {t = t} b = record {
  begins = λ h. outer (not_else (took_keyword word.If (parts at (branching e t) h).1) refl);
  state = λ {xs} {s} start h.
      let u = parts at (branching e t) h in
      let p = b.state (one_statement (ElseIfAny ∷ s)) u.2.2.2.2 in
      record {
        stack = p.stack;
        over = over_if p.over;
        passes = out (joined (as_whole (joined (passes-counted (took_keyword word.If u.1) (word_next if_word start) refl refl)
            (joined (test-passes e (AStatement ∷ ElseIfAny ∷ s) u.2.1 u.2.2.1 u.2.2.2.1) p.passes))) (stays refl));
      };
}

abbrev choosing : Expression → StatementText → StatementText → List Reads
choosing e t o = keyword word.If ∷ mark m.OpenParenthesis ∷ expression_text e ∷ mark m.CloseParenthesis ∷ before_else t ∷ keyword word.Else ∷ o.text ∷ []

-- what is read before an `else` doesn't take it
no_else : (b : Bool) (a : Reads) {r x : Rest} → Reading (if b then refused else a) r x → (b ≡ false) × Reading a r x
no_else true a h = let nothing_read = h.is in absurd cc
no_else false a h = (refl, h)

stated-if_else : (at : At) (e : Expression) {t o : StatementText} {w v : Weighs} → Stated t w → Stated o v
    → Stated (record { text = node at (keyword word.If >> mark m.OpenParenthesis >> expression_text e >> mark m.CloseParenthesis >> before_else t >> keyword word.Else >> o.text); takes_else = o.takes_else })
    (worded (bracketed (expression_weighs e) ⨾ w) ⨾ worded v)
stated-if_else at e {t = t} {o = o} b c = record {
  begins = λ h. outer (not_else (took_keyword word.If (parts at (choosing e t o) h).1) refl);
  state = λ {xs} {s} start h.
      let u = parts at (choosing e t o) h in
      let taken = no_else t.takes_else t.text u.2.2.2.2.1 in
      let p = b.state (one_statement (ElseIfAny ∷ s)) taken.1 in
      let q = c.state (one_statement (WordEnd ∷ s)) u.2.2.2.2.2.2 in
      let at_else = p.over.before (kind.Keyword word.Else) (ap (λ d. d && true) taken.0) in
      record {
        stack = q.stack;
        over = over_word q.over;
        passes = out (joined (as_whole (joined (passes-counted (took_keyword word.If u.1) (word_next if_word start) refl refl)
            (joined (test-passes e (AStatement ∷ ElseIfAny ∷ s) u.2.1 u.2.2.1 u.2.2.2.1) p.passes)))
            (as_whole (joined (passes-counted (took_keyword word.Else u.2.2.2.2.2.1) at_else refl refl) q.passes)));
      };
}

-- ---- each statement

abbrev pub block_reads : Block → Reads
block_reads = fold-Block StatementText Reads text.statement_step text.block_step

abbrev block_weights : Block → Weighs
block_weights = fold-Block Weighs Weighs weighing.statement_step weighing.block_step

abbrev Good-Statement : Statement → Type 0
Good-Statement s = Stated (statement_of s) (statement_weighs s)

abbrev With-Statement : Type 0
With-Statement = (s : Statement) × Good-Statement s

abbrev Good-Block : Block → Type 0
Good-Block b = BlockDrives (block_reads b) (block_weights b)

abbrev With-Block : Type 0
With-Block = (b : Block) × Good-Block b

both : {A : Type 0} (P : A → Weighs → Type 0) {a b : A} {v w : Weighs} → a ≡ b → v ≡ w → P a v → P b w
both P {a = a} {w = w} e f h = subst (λ r. P r w) e (subst (λ u. P a u) f h)

rolled-Statement : (layer : Statement-F Statement Block)
    → Stated (text.statement_step (map-Statement Statement Block StatementText Reads statement_of block_reads layer)) (weighing.statement_step (map-Statement Statement Block Weighs Weighs statement_weighs block_weights layer))
    → Good-Statement (roll-Statement layer)
rolled-Statement layer =
    both Stated (sym (fold-roll-Statement StatementText Reads text.statement_step text.block_step layer)) (sym (fold-roll-Statement Weighs Weighs weighing.statement_step weighing.block_step layer))

rolled-Block : (layer : Block-F Statement Block)
    → BlockDrives (text.block_step (map-Block Statement Block StatementText Reads statement_of block_reads layer)) (weighing.block_step (map-Block Statement Block Weighs Weighs statement_weighs block_weights layer))
    → Good-Block (roll-Block layer)
rolled-Block layer =
    both BlockDrives (sym (fold-roll-Block StatementText Reads text.statement_step text.block_step layer)) (sym (fold-roll-Block Weighs Weighs weighing.statement_step weighing.block_step layer))

each_stated : (ss : List With-Statement) → EachStated (map statement_of (map (λ s. s.0) ss)) (map statement_weighs (map (λ s. s.0) ss))
each_stated [] = none_stated
each_stated (s ∷ ss) = more_stated s.1 (each_stated ss)

layer-Statement : (y : Statement-F With-Statement With-Block) → Good-Statement (roll-Statement (map-Statement With-Statement With-Block Statement Block (λ s. s.0) (λ b. b.0) y))
layer-Statement (Statement-F.OfBlock at b) = rolled-Statement (Statement-F.OfBlock at b.0) (stated-block at b.1)
layer-Statement (Statement-F.Declare at l) = rolled-Statement (Statement-F.Declare at l) (stated-declare at l)
layer-Statement (Statement-F.Assign at a) = rolled-Statement (Statement-F.Assign at a) (stated-assign at a)
layer-Statement (Statement-F.CallAlone at c) = rolled-Statement (Statement-F.CallAlone at c) (stated-call at c)
layer-Statement (Statement-F.Create at t) = rolled-Statement (Statement-F.Create at t) (stated-create at t)
layer-Statement (Statement-F.If at e s None) = rolled-Statement (Statement-F.If at e s.0 None) (stated-if at e s.1)
layer-Statement (Statement-F.If at e s (Some o)) = rolled-Statement (Statement-F.If at e s.0 (Some o.0)) (stated-if_else at e s.1 o.1)
layer-Statement (Statement-F.While at e s) = rolled-Statement (Statement-F.While at e s.0) (stated-while at e s.1)
layer-Statement (Statement-F.For at f s) = rolled-Statement (Statement-F.For at f s.0) (stated-for at f s.1)
layer-Statement (Statement-F.Print at es) = rolled-Statement (Statement-F.Print at es) (stated-print at es)
layer-Statement (Statement-F.Rtf at f) = rolled-Statement (Statement-F.Rtf at f) (stated-rtf at f)
layer-Statement (Statement-F.Return at e) = rolled-Statement (Statement-F.Return at e) (stated-return at e)
layer-Statement (Statement-F.Empty at) = rolled-Statement (Statement-F.Empty at) (stated-empty at)

layer-Block : (y : Block-F With-Statement With-Block) → Good-Block (roll-Block (map-Block With-Statement With-Block Statement Block (λ s. s.0) (λ b. b.0) y))
layer-Block y = rolled-Block (map-Block With-Statement With-Block Statement Block (λ s. s.0) (λ b. b.0) y) (drives-block y.at y.mark_line (each_stated y.statements))

pub statement-states : (s : Statement) → Stated (statement_of s) (statement_weighs s)
statement-states =
    ind-Statement Good-Statement Good-Block (λ y z is. subst (λ l. Good-Statement (roll-Statement l)) is (layer-Statement z)) (λ y z is. subst (λ l. Good-Block (roll-Block l)) is (layer-Block z))

-- ---- blocks of bodies

each_statement : (ss : List Statement) → EachStated (map statement_of ss) (map statement_weighs ss)
each_statement [] = none_stated
each_statement (s ∷ ss) = more_stated (statement-states s) (each_statement ss)

pub texts_of : (ss : List Statement) → texts (map statement_of ss) ≡ map statement_text ss
texts_of [] = refl
texts_of (s ∷ ss) = ap (λ rs. statement_text s ∷ rs) (texts_of ss)

pub block-drives : (b : Block) → BlockDrives (block_text b) (block_weighs b)
block-drives b = subst (λ rs. BlockDrives (block_of b.at b.mark_line rs) (block_weighs b)) (texts_of b.statements) (drives-block b.at b.mark_line (each_statement b.statements))
