-- Fields, formals, bodies and entries are taken.
use Rattle.std.proofs.Common.{◌≡◌, ℕ, ◌≤◌, List, [], ◌∷◌, map, length, false, Option, Some, None, refl, ap, ◌∙◌, arith}
use Rattle.std.specs.List.{AllByRecursion}
use Rattle.std.specs.Option.{option_and_then, option_map}
use Rattle.mpl_ast.specs.declared.class.Entry.{Entry}
use Rattle.mpl_ast.specs.declared.class.Field.{Field}
use Rattle.mpl_ast.specs.declared.class.FieldName.{FieldName}
use Rattle.mpl_ast.specs.declared.class.Formal.{Formal}
use Rattle.mpl_ast.specs.declared.class.Formals.{Formals}
use Rattle.mpl_ast.specs.declared.expression.Expression.{Expression}
use Rattle.mpl_ast.specs.declared.place.Name.{Name}
use Rattle.mpl_ast.specs.declared.place.Number.{Number}
use Rattle.mpl_ast.specs.declared.statement.Block.{Block}
use Rattle.mpl_ast.specs.declared.statement.Dimension.{Dimension}
use Rattle.mpl_ast.specs.declared.statement.TypeName.{TypeName}
use Rattle.mpl_ast.specs.declared.token.Keyword.TheVariants as word
use Rattle.mpl_ast.specs.declared.token.Mark.TheVariants as m
use Rattle.mpl_ast.specs.declared.token.TokenKind.TheVariants as kind
use Rattle.mpl_mean.specs.Text.ExpressionText.{expression_text}
use Rattle.mpl_mean.specs.Text.Reading.{Reads, Rest, after_first, each, is_keyword, is_mark, keyword, mark, mark_on, name, number, optional, separated}
use Rattle.mpl_mean.specs.Text.StatementText.{block_text, dimension_text, type_text}
use Rattle.mpl_mean.proofs.Readers.Parts.{Reading, Through, chain, in_turn, some_same}
use Rattle.mpl_trees.specs.Expressions.{second}
use Rattle.mpl_trees.specs.Locals.{take_dimension_if_any, take_type}
use Rattle.mpl_trees.specs.Statements.{take_test}
use Rattle.mpl_trees.specs.Taking.{Takes, all_of, both, inside, is_ahead, line_of, made, skip_then, some_of, take_name, take_number, then_skip, unless_ahead, where_ahead}
use Rattle.mpl_trees.proofs.Steps.{if_false, if_true, joins, makes, skips, skips_behind}
use Rattle.mpl_trees.proofs.Took.{Took, ahead-took, fewer-took, mark_read, noded, takes-name, takes-node, takes-number, took_keyword, took_mark, took_mark_on, took_name}
use Rattle.mpl_trees.proofs.Growth.{Growing, all-of, growing-keyword, growing-less, growing-less_node, growing-mark, growing-name, growing-node, growing-number, growing-optional, growing-separated, growing-then, rising}
use Rattle.mpl_trees.proofs.Operators.{is_ahead-took}
use Rattle.mpl_trees.proofs.Lists.{ListEnds, Taken, follows-list, some-taken}
use Rattle.mpl_trees.proofs.Targets.{second-took}
use Rattle.mpl_trees.proofs.Primaries.{is_ahead-ahead}
use Rattle.mpl_trees.proofs.Expressions.{expression-is}
use Rattle.mpl_trees.proofs.Locals.{TypeAhead, bool, dimension-if_any, dimension_if_any, growing-dimension, growing-type, int, named, type-read}
use Rattle.mpl_trees.proofs.Blocks.{PartAhead, PartTaken, all-taken, part_ahead}
use Rattle.mpl_trees.proofs.Heads.{list-parenthesis, list-semicolon, unless-none, unless-some}
use Rattle.mpl_trees.proofs.WordStatements.{test-taken}
use Rattle.mpl_trees.proofs.Statements.{body-is}
use Rattle.mpl_mean.specs.Text.ProgramText.{entry_text, field_name_text, field_text, formal_text, formals_text, guard_text}
use Rattle.mpl_trees.specs.Programs.{take_body, take_braced, take_entry, take_field, take_field_name, take_formal, take_formals, take_formals_if_any, take_function, take_guard}

-- ---- types first

pub type_begins : {r : Rest} → TypeAhead r → PartAhead r
type_begins {r = r} (int e) = part_ahead r e refl refl
type_begins {r = r} (bool e) = part_ahead r e refl refl
type_begins {r = r} (named n) = part_ahead r n.is refl refl

type_no_close : {r : Rest} → TypeAhead r → is_ahead (is_mark m.CloseParenthesis) r.tokens ≡ false
type_no_close {r = r} (int e) = is_ahead-ahead (is_mark m.CloseParenthesis) r.tokens _ e
type_no_close {r = r} (bool e) = is_ahead-ahead (is_mark m.CloseParenthesis) r.tokens _ e
type_no_close {r = r} (named n) = is_ahead-ahead (is_mark m.CloseParenthesis) r.tokens _ n.is

-- ---- fields

growing-field_name : (f : FieldName) → Growing 0 0 (field_name_text f)
growing-field_name f = growing-less 0 (omega arith) (growing-then (growing-name f.name) (growing-optional dimension_text growing-dimension f.dimension))

field_name-taken : (f : FieldName) (d limit : ℕ) → Taken field_name_text take_field_name d limit f
field_name-taken f d limit = record {
  takes = λ {r = r} h e k l.
      let u = in_turn (name f.name ∷ dimension_if_any f.dimension ∷ []) h in
      joins limit (λ (n : Name) (d : Option Dimension). record { name = n; dimension = d }) take_name take_dimension_if_any r (takes-name limit f.name u.1) ((dimension-if_any f.dimension u.2 e).taken limit l);
  grows = growing-field_name f;
}

each_field_name : (d limit : ℕ) (fs : List FieldName) → AllByRecursion (Taken field_name_text take_field_name d limit) fs
each_field_name d limit [] = tt
each_field_name d limit (f ∷ fs) = (field_name-taken f d limit, each_field_name d limit fs)

abbrev parts_of_field : Field → List Reads
parts_of_field f = type_text f.type_name ∷ separated (map field_name_text f.names) ∷ mark m.Semicolon ∷ []

-- behind the first name no parenthesis comes
no_call_first : (fs : List FieldName) {r x : Rest} → Reading (separated (map field_name_text fs)) r x → ListEnds x → is_ahead (is_mark m.OpenParenthesis) (second r.tokens) ≡ false
no_call_first [] h e = let nothing_read = h.is in absurd cc
no_call_first (f ∷ fs) {r = r} {x = x} h e =
    let u = in_turn (field_name_text f ∷ after_first (map field_name_text fs) ∷ []) {r = r} {x = x} (record { is = h.is }) in
    let v = in_turn (name f.name ∷ dimension_if_any f.dimension ∷ []) u.1 in
    ap (is_ahead (is_mark m.OpenParenthesis)) (second-took (took_name f.name v.1).took) ∙ (dimension-if_any f.dimension v.2 (follows-list field_name_text fs u.2 e)).no_call

pub growing-field : (f : Field) → Growing 1 1 (field_text f)
growing-field f = growing-node f.at 1 (omega arith) (growing-then (growing-type f.type_name) (growing-then (growing-separated 0 0 field_name_text f.names (all-of growing-field_name f.names)) (growing-mark m.Semicolon)))

-- a field, and that it is no member
pub record FieldRead (f : Field) (r x : Rest) : Type 0 where
  pub taken : (limit : ℕ) → x.next ≤ limit → take_field limit r ≡ Some (f, x)
  pub ahead_is : TypeAhead r
  pub no_call : is_ahead (is_mark m.OpenParenthesis) (second (second r.tokens)) ≡ false

pub type-node : {r : Rest} → TypeAhead (inside r) → TypeAhead r
type-node (int e) = int e
type-node (bool e) = bool e
type-node (named n) = named (record { text = n.text; is = n.is })

pub field-read : (f : Field) {r x : Rest} → Reading (field_text f) r x → FieldRead f r x
field-read f {r = r} h =
    let n = noded f.at (chain (parts_of_field f)) h in
    let u = in_turn (parts_of_field f) n.read in
    let t = type-read f.type_name u.1 in
    let s = took_mark m.Semicolon u.2.2 in
    let e = list-semicolon s in
    let d = length r.tokens in
    let names_grow = growing-separated 0 0 field_name_text f.names (all-of growing-field_name f.names) in
    record {
      taken = λ limit l.
          let list = some-taken field_name_text take_field_name d limit f.names (each_field_name d limit f.names) u.2.1 e (omega (arith, t.shorter)) (omega (arith, l, s.next)) in
          takes-node limit (λ at (p : TypeName × List FieldName). record { at = at; type_name = p.0; names = p.1 }) (both (λ type_name names. (type_name, names)) take_type (then_skip (some_of take_field_name) (mark m.Semicolon))) n
          (rising (growing-field f) h) l
          (joins limit (λ type_name names. (type_name, names)) take_type (then_skip (some_of take_field_name) (mark m.Semicolon)) (inside r) (t.taken limit (omega (arith, l, s.next, rising names_grow u.2.1))) (skips_behind limit (some_of take_field_name) (mark m.Semicolon) u.0 list u.2.2));
      ahead_is = type-node t.ahead_is;
      no_call = ap (λ ts. is_ahead (is_mark m.OpenParenthesis) (second ts)) t.second_is ∙ no_call_first f.names u.2.1 e;
    }

pub each_field : (d limit : ℕ) (fs : List Field) → AllByRecursion (PartTaken field_text take_field d limit) fs
each_field d limit [] = tt
each_field d limit (f ∷ fs) = (record { begins = λ h. type_begins (field-read f h).ahead_is; grows = growing-less_node (growing-field f); takes = λ h e k l. (field-read f h).taken limit l }, each_field d limit fs)

-- ---- formals

abbrev parts_of_formal : Formal → List Reads
parts_of_formal f = type_text f.type_name ∷ name f.name ∷ []

growing-formal : (f : Formal) → Growing 0 23 (formal_text f)
growing-formal f = growing-then (growing-type f.type_name) (growing-name f.name)

formal-taken : (f : Formal) (d limit : ℕ) → Taken formal_text take_formal d limit f
formal-taken f d limit = record {
  takes = λ {r = r} h e k l.
      let u = in_turn (parts_of_formal f) h in
      joins limit (λ (t : TypeName) (n : Name). record { type_name = t; name = n }) take_type take_name r ((type-read f.type_name u.1).taken limit (omega (arith, l, (took_name f.name u.2).took.next))) (takes-name limit f.name u.2);
  grows = growing-less 0 (omega arith) (growing-formal f);
}

each_formal : (d limit : ℕ) (fs : List Formal) → AllByRecursion (Taken formal_text take_formal d limit) fs
each_formal d limit [] = tt
each_formal d limit (f ∷ fs) = (formal-taken f d limit, each_formal d limit fs)

pub growing-formals : (f : Formals) → Growing 1 22 (formals_text f)
growing-formals f = growing-node f.at 22 (omega arith) (growing-separated 0 23 formal_text f.list (all-of growing-formal f.list))

first_formal : (fs : List Formal) {r x : Rest} → Reading (separated (map formal_text fs)) r x → TypeAhead r
first_formal [] h = let nothing_read = h.is in absurd cc
first_formal (f ∷ fs) {r = r} {x = x} h =
    let u = in_turn (formal_text f ∷ after_first (map formal_text fs) ∷ []) {r = r} {x = x} (record { is = h.is }) in
    (type-read f.type_name (in_turn (parts_of_formal f) u.1).1).ahead_is

formals-read : (o : Option Formals) {r x y : Rest} → Reading (optional (option_map formals_text o)) r x → Took (kind.Mark m.CloseParenthesis) x y → (limit : ℕ) → x.next ≤ limit → unless_ahead (is_mark m.CloseParenthesis) take_formals limit r ≡ Some (o, x)
formals-read None h t limit l = unless-none limit (is_mark m.CloseParenthesis) take_formals (some_same h.is) (is_ahead-took (is_mark m.CloseParenthesis) t)
formals-read (Some f) {r = r} {x = x} h t limit l =
    let g : Reading (formals_text f) r x = record { is = h.is } in
    let n = noded f.at (separated (map formal_text f.list)) g in
    let d = length r.tokens in
    let list = some-taken formal_text take_formal d limit f.list (each_formal d limit f.list) n.read (list-parenthesis t) (omega arith) l in
    unless-some limit (is_mark m.CloseParenthesis) take_formals r (type_no_close (type-node (first_formal f.list n.read)))
    (takes-node limit (λ at (list : List Formal). record { at = at; list = list }) (some_of take_formal) n (rising (growing-formals f) g) l list)

-- ---- formals and a body

abbrev pub function_parts : Option Formals → Block → List Reads
function_parts formals body = mark m.OpenParenthesis ∷ optional (option_map formals_text formals) ∷ mark m.CloseParenthesis ∷ block_text body ∷ []

pub function-taken : (formals : Option Formals) (body : Block) {r x : Rest} → Through (function_parts formals body) r x → (limit : ℕ) → x.next ≤ limit → take_function limit r ≡ Some ((formals, body), x)
function-taken formals body {r = r} u limit l =
    let close = took_mark m.CloseParenthesis u.2.2.1 in
    let inner = unless_ahead (is_mark m.CloseParenthesis) take_formals in
    let block : take_body limit u.2.2.0 ≡ Some (body, _) = (body-is body).taken u.2.2.2 (length u.2.2.0.tokens) (omega arith) limit l in
    let list = formals-read formals u.2.1 close limit (omega (arith, l, rising (body-is body).grows u.2.2.2, close.next)) in
    joins limit (λ formals body. (formals, body)) take_formals_if_any take_body r
    (skips limit (mark m.OpenParenthesis) (then_skip inner (mark m.CloseParenthesis)) u.1 (skips_behind limit inner (mark m.CloseParenthesis) u.0 list u.2.2.1)) block

pub growing-function : (formals : Option Formals) (body : Block) → Growing 0 24 (chain (function_parts formals body))
growing-function formals body =
    growing-less 24 (omega arith) (growing-then (growing-mark m.OpenParenthesis) (growing-then (growing-optional formals_text growing-formals formals) (growing-then (growing-mark m.CloseParenthesis) (body-is body).grows)))

pub rising-function : (formals : Option Formals) (body : Block) {r x : Rest} → Through (function_parts formals body) r x → r.next ≤ x.next
rising-function formals body u =
    omega (arith, (took_mark m.OpenParenthesis u.1).next, rising (growing-optional formals_text growing-formals formals) u.2.1, (took_mark m.CloseParenthesis u.2.2.1).next, rising (body-is body).grows u.2.2.2)

-- ---- in braces

abbrev pub braces : {A : Type 0} → (A → Reads) → ℕ → List A → List Reads
braces text line ts = mark m.OpenBrace ∷ each (map text ts) ∷ mark_on line m.CloseBrace ∷ []

pub braced-taken : {A : Type 0} (limit : ℕ) (text : A → Reads) (take : Takes A) (line : ℕ) (ts : List A) (r : Rest) {k y x : Rest} → AllByRecursion (PartTaken text take (length r.tokens) limit) ts → Reading (mark m.OpenBrace) r k → Reading (each (map text ts)) k y
    → Reading (mark_on line m.CloseBrace) y x → x.next ≤ limit → take_braced take limit r ≡ Some ((ts, line), x)
braced-taken {A = A} limit text take line ts r {k = k} {y = y} {x = x} all g h i l =
    let t = took_mark_on line m.CloseBrace i in
    let list = all-taken text take (length r.tokens) limit (length r.tokens) ts all h t.took (omega (arith, fewer-took (took_mark m.OpenBrace g))) (omega (arith, fewer-took (took_mark m.OpenBrace g))) (omega (arith, l, t.took.next)) in
    ap (option_and_then (λ (p : List A × Rest). option_map (λ (x : Rest). ((p.0, line_of p.1.tokens), x)) (mark m.CloseBrace p.1))) (skips limit (mark m.OpenBrace) (all_of take (length r.tokens)) g list)
    ∙ ap (option_map (λ (x : Rest). ((ts, line_of y.tokens), x))) (mark_read line m.CloseBrace i).is ∙ ap (λ line. Some ((ts, line), x)) t.line_is

-- ---- entries

abbrev parts_of_guard : Expression → List Reads
parts_of_guard e = keyword word.Guard ∷ mark m.OpenParenthesis ∷ expression_text e ∷ mark m.CloseParenthesis ∷ []

growing-guard : (e : Expression) → Growing 0 24 (guard_text e)
growing-guard e =
    growing-less 24 (omega arith) (growing-then (growing-keyword word.Guard) (growing-then (growing-mark m.OpenParenthesis) (growing-then (expression-is e).grows (growing-mark m.CloseParenthesis))))

guard-read : (o : Option Expression) {r x y : Rest} → Reading (optional (option_map guard_text o)) r x → Took (kind.Keyword word.Accept) x y → (limit : ℕ) → x.next ≤ limit → where_ahead (is_keyword word.Guard) take_guard limit r ≡ Some (o, x)
guard-read None {r = r} {x = x} h t limit l =
    let same = some_same h.is in
    if_false {A = Option Expression × Rest} (is_ahead (is_keyword word.Guard) r.tokens) (made Some take_guard limit r) (Some (None, r)) (ap (λ (y : Rest). is_ahead (is_keyword word.Guard) y.tokens) same ∙ is_ahead-took (is_keyword word.Guard) t)
    ∙ ap (λ y. Some (None, y)) same
guard-read (Some e) {r = r} {x = x} h t limit l =
    let g : Reading (chain (parts_of_guard e)) r x = record { is = h.is } in
    let u = in_turn (parts_of_guard e) g in
    let w = took_keyword word.Guard u.1 in
    let open_ = took_mark m.OpenParenthesis u.2.1 in
    let test = test-taken e (length r.tokens) u.0 u.2.1 u.2.2.1 u.2.2.2 (omega (arith, fewer-took w, fewer-took open_)) limit l in
    if_true {A = Option Expression × Rest} (is_ahead (is_keyword word.Guard) r.tokens) (made Some take_guard limit r) (Some (None, r)) (is_ahead-took (is_keyword word.Guard) w)
    ∙ makes limit Some take_guard r (skips limit (keyword word.Guard) (take_test (length r.tokens)) u.1 test)

abbrev parts_of_entry : Entry → List Reads
parts_of_entry e = keyword word.Priority ∷ number e.priority ∷ mark m.Colon ∷ optional (option_map guard_text e.guard) ∷ keyword word.Accept ∷ name e.member ∷ mark m.Semicolon ∷ []

entry-read : (e : Entry) {r x : Rest} → Reading (entry_text e) r x → Through (parts_of_entry e) (inside r) x
entry-read e h = in_turn (parts_of_entry e) (noded e.at (chain (parts_of_entry e)) h).read

pub growing-entry : (e : Entry) → Growing 1 0 (entry_text e)
growing-entry e =
    growing-node e.at 0 (omega arith) (growing-then (growing-keyword word.Priority) (growing-then (growing-number e.priority) (growing-then (growing-mark m.Colon)
    (growing-then (growing-optional guard_text growing-guard e.guard) (growing-then (growing-keyword word.Accept) (growing-then (growing-name e.member) (growing-mark m.Semicolon)))))))

entry-taken : (e : Entry) {r x : Rest} → Reading (entry_text e) r x → (limit : ℕ) → x.next ≤ limit → take_entry limit r ≡ Some (e, x)
entry-taken e {r = r} h limit l =
    let n = noded e.at (chain (parts_of_entry e)) h in
    let u = in_turn (parts_of_entry e) n.read in
    let accepted = took_keyword word.Accept u.2.2.2.2.1 in
    let guard = guard-read e.guard u.2.2.2.1 accepted limit (omega (arith, l, (took_mark m.Semicolon u.2.2.2.2.2.2).next, (took_name e.member u.2.2.2.2.2.1).took.next, accepted.next)) in
    let member = then_skip take_name (mark m.Semicolon) in
    let accept = skip_then (keyword word.Accept) member in
    let behind = both (λ (guard : Option Expression) (member : Name). (guard, member)) (where_ahead (is_keyword word.Guard) take_guard) accept in
    let priority = then_skip take_number (mark m.Colon) in
    let whole = both (λ (priority : Number) (behind : Option Expression × Name). (priority, behind)) priority behind in
    takes-node limit (λ at (p : Number × (Option Expression × Name)). record { at = at; priority = p.0; guard = p.1.0; member = p.1.1 }) (skip_then (keyword word.Priority) whole) n (rising (growing-entry e) h) l
    (skips limit (keyword word.Priority) whole u.1
    (joins limit (λ (priority : Number) (behind : Option Expression × Name). (priority, behind)) priority behind u.0 (skips_behind limit take_number (mark m.Colon) u.0 (takes-number limit e.priority u.2.1) u.2.2.1)
    (joins limit (λ (guard : Option Expression) (member : Name). (guard, member)) (where_ahead (is_keyword word.Guard) take_guard) accept u.2.2.0 guard
    (skips limit (keyword word.Accept) member u.2.2.2.2.1 (skips_behind limit take_name (mark m.Semicolon) u.2.2.2.2.0 (takes-name limit e.member u.2.2.2.2.2.1) u.2.2.2.2.2.2)))))

pub each_entry : (d limit : ℕ) (es : List Entry) → AllByRecursion (PartTaken entry_text take_entry d limit) es
each_entry d limit [] = tt
each_entry d limit (e ∷ es) = (
  record {
    begins = λ {r = r} h. part_ahead r (ahead-took (took_keyword word.Priority (entry-read e h).1)) refl refl;
    grows = growing-entry e;
    takes = λ h f k l. entry-taken e h limit l;
  },
  each_entry d limit es,
)
