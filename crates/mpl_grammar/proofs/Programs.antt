-- Programs take the machine along: from nothing to nothing, with their weights.
use Rattle.std.proofs.Common.{◌≡◌, ℕ, ◌+◌, List, [], ◌∷◌, map, true, Option, Some, None, refl, ap, sym, ◌∙◌}
use Rattle.std.specs.Option.{option_map}
use Rattle.mpl_ast.specs.declared.class.Entry.{Entry}
use Rattle.mpl_ast.specs.declared.class.Field.{Field}
use Rattle.mpl_ast.specs.declared.class.FieldName.{FieldName}
use Rattle.mpl_ast.specs.declared.class.Formal.{Formal}
use Rattle.mpl_ast.specs.declared.class.Formals.{Formals}
use Rattle.mpl_ast.specs.declared.class.Item.{Item}
use Rattle.mpl_ast.specs.declared.class.Item.TheVariants as item
use Rattle.mpl_ast.specs.declared.class.Kind.{Kind}
use Rattle.mpl_ast.specs.declared.class.Kind.TheVariants.{Regular, Persistent}
use Rattle.mpl_ast.specs.declared.class.ResultType.{ResultType}
use Rattle.mpl_ast.specs.declared.class.ResultType.TheVariants.{Void, Typed}
use Rattle.mpl_ast.specs.declared.expression.Expression.{Expression}
use Rattle.mpl_ast.specs.declared.place.Name.{Name}
use Rattle.mpl_ast.specs.declared.program.Declaration.{Declaration}
use Rattle.mpl_ast.specs.declared.program.Declaration.TheVariants as declaration
use Rattle.mpl_ast.specs.declared.program.Program.{Program}
use Rattle.mpl_ast.specs.declared.statement.Block.{Block}
use Rattle.mpl_ast.specs.declared.statement.Dimension.{Dimension}
use Rattle.mpl_ast.specs.declared.statement.TypeName.{TypeName}
use Rattle.mpl_ast.specs.declared.statement.TypeName.TheVariants as type
use Rattle.mpl_ast.specs.declared.token.Keyword.TheVariants as word
use Rattle.mpl_ast.specs.declared.token.Mark.{Mark}
use Rattle.mpl_ast.specs.declared.token.Mark.TheVariants as m
use Rattle.mpl_ast.specs.declared.token.Token.{Token}
use Rattle.mpl_ast.specs.declared.token.TokenKind.{TokenKind}
use Rattle.mpl_ast.specs.declared.token.TokenKind.TheVariants as kind
use Rattle.mpl_mean.specs.Text.ExpressionText.{expression_text}
use Rattle.mpl_mean.specs.Text.ProgramText.{all_of, declaration_text, entry_text, field_name_text, field_text, formal_text, formals_text, guard_text, item_text, kind_text, nothing_left, program_text, result_text, spells}
use Rattle.mpl_mean.specs.Text.Reading.{Reads, Rest, after_first, each, keyword, mark, mark_on, name, number, optional, separated}
use Rattle.mpl_mean.specs.Text.StatementText.{block_text, dimension_text, type_text}
use Rattle.mpl_mean.specs.Text.Weight.{Weighs, ◌⨾◌, block_weighs, bracketed, declaration_weighs, dimension_weighs, entry_weighs, field_name_weighs, field_weighs, formals_weighs, guard_weighs, if_any, in_order, item_weighs, plain, weights}
use Rattle.mpl_mean.proofs.Readers.Parts.{Reading, if_read, in_turn, inside, parts, some_same}
use Rattle.mpl_mean.proofs.Readers.Tokens.{Heads, Took, head, took_first, took_keyword, took_mark, took_mark_on, took_name}
use Rattle.mpl_grammar.specs.Internal.Grammar.{Stack}
use Rattle.mpl_grammar.specs.Internal.Machine.{Ends, Weighs as Weighing, next, trace, weight}
use Rattle.mpl_grammar.specs.declared.symbol.Symbol.TheVariants.{ABlock, AName, AType, AcceptWord, BehindItemName, ClassWord, CloseParenthesis, DimensionIfAny, Entries, Fields, FormalsIfAny, GuardIfAny, Items, MentatWord, MoreFormals, MoreNames, OpenFormals, OpenItems, Semicolon}
use Rattle.mpl_grammar.proofs.Passes.{Passes, ends_as, joined, passes-bracketed, passes-plain, prepend, stays, trace-heads, trace-took}
use Rattle.mpl_grammar.proofs.Operands.{IsEnd, bracket, comma, parenthesis, semicolon}
use Rattle.mpl_grammar.proofs.Lists.{Each, EndsAt, Fills, IsListEnd, ListEndsAt, Listing, list_parenthesis, list_semicolon, more, none, some-fill}
use Rattle.mpl_grammar.proofs.Locals.{dimension-passes, number_next, read_nothing, took_numbered, took_type, type_head}
use Rattle.mpl_grammar.proofs.Statements.{test-passes}
use Rattle.mpl_grammar.proofs.StatementTrees.{block-drives}

out : {v u : ℕ} {r x : Rest} {s z : Stack} {w : Weighs} → Passes v (inside r) s w u x z → Passes v r s w u x z
out p = record { seen = p.seen; after = p.after }

-- a type, where one may stand
type-passes : (t : TypeName) (s z : Stack) → next s (type_head t) ≡ Some z → weight z ≡ weight s → {r x : Rest} → Reading (type_text t) r x → Passes (weight s) r s plain (weight s) x z
type-passes t s z e f h = out (passes-plain (took_type t h) e f)

-- ---- fields

name-over : {o : Mark} → IsEnd o → (z : Stack) → next (DimensionIfAny ∷ z) (kind.Mark o) ≡ next z (kind.Mark o)
name-over parenthesis z = refl
name-over bracket z = refl
name-over comma z = refl
name-over semicolon z = refl

-- a dimension, or none before what ends a name
dimension_if_any-passes : (d : FieldName) (z : Stack) {r x : Rest} → Reading (optional (option_map dimension_text d.dimension)) r x → EndsAt x
    → Passes (weight z) r (DimensionIfAny ∷ z) (if_any (option_map dimension_weighs d.dimension)) (weight z) x z
dimension_if_any-passes d z {r = r} {x = x} h e = cases d.dimension h where
  cases : (o : Option _) → Reading (optional (option_map dimension_text o)) r x → Passes (weight z) r (DimensionIfAny ∷ z) (if_any (option_map dimension_weighs o)) (weight z) x z
  cases None h = ends_as {x = x} (trace-heads (DimensionIfAny ∷ z) z e.heads (name-over e.is_end z)) (stays (read_nothing dimension_text h))
  cases (Some d) h = dimension-passes d (DimensionIfAny ∷ z) z refl (record { is = h.is })

field_name-passes : (f : FieldName) (z : Stack) {r x : Rest} → Reading (field_name_text f) r x → EndsAt x → Passes (weight z) r (AName ∷ DimensionIfAny ∷ z) (field_name_weighs f) (weight z) x z
field_name-passes f z {r = r} {x = x} h e =
    let u = in_turn (name f.name ∷ optional (option_map dimension_text f.dimension) ∷ []) {r = r} {x = x} (record { is = h.is }) in
    joined (passes-plain (took_name f.name u.1) refl refl) (dimension_if_any-passes f z u.2 e)

each_field_name : (fs : List FieldName) → Each (Fills (AName ∷ DimensionIfAny ∷ [])) (map field_name_text fs) (map field_name_weighs fs)
each_field_name [] = none
each_field_name (f ∷ fs) = more (record { fill = λ z h e. field_name-passes f z h e }) (each_field_name fs)

names : Listing (AName ∷ DimensionIfAny ∷ []) MoreNames
names = record { comma = λ z. refl; over = λ e z. closes e z; weighs = λ z. refl; weighs_more = λ z. refl } where
  closes : {o : Mark} → IsListEnd o → (z : Stack) → next (MoreNames ∷ z) (kind.Mark o) ≡ next z (kind.Mark o)
  closes list_parenthesis z = refl
  closes list_semicolon z = refl

at_list_semicolon : {r x : Rest} → Took (kind.Mark m.Semicolon) r x → ListEndsAt r
at_list_semicolon t = record { mark = m.Semicolon; is_end = list_semicolon; heads = took_first t }

abbrev field_parts : Field → List Reads
field_parts f = type_text f.type_name ∷ separated (map field_name_text f.names) ∷ mark m.Semicolon ∷ []

fields_next : (t : TypeName) (z : Stack) → next (Fields ∷ z) (type_head t) ≡ Some (AName ∷ DimensionIfAny ∷ MoreNames ∷ Semicolon ∷ Fields ∷ z)
fields_next (type.Int at) z = refl
fields_next (type.Bool at) z = refl
fields_next (type.Named at n) z = refl

field-passes : (f : Field) (z : Stack) {r x : Rest} → Reading (field_text f) r x → Passes (weight z + 1) r (Fields ∷ z) (field_weighs f) (weight z + 1) x (Fields ∷ z)
field-passes f z h =
    let u = parts f.at (field_parts f) h in
    let semi = took_mark m.Semicolon u.2.2 in
    out (joined (type-passes f.type_name (Fields ∷ z) (AName ∷ DimensionIfAny ∷ MoreNames ∷ Semicolon ∷ Fields ∷ z) (fields_next f.type_name z) refl u.1)
    (joined (some-fill names (each_field_name f.names) (Semicolon ∷ Fields ∷ z) u.2.1 (at_list_semicolon semi)) (passes-plain semi refl refl)))

fields-pass : (fs : List Field) (z : Stack) {r x : Rest} → Reading (each (map field_text fs)) r x → Passes (weight z + 1) r (Fields ∷ z) (in_order (map field_weighs fs)) (weight z + 1) x (Fields ∷ z)
fields-pass [] z h = stays (ap (λ (r : Rest). r.tokens) (some_same h.is))
fields-pass (f ∷ fs) z h = let u = in_turn (field_text f ∷ each (map field_text fs) ∷ []) h in joined (field-passes f z u.1) (fields-pass fs z u.2)

-- ---- formals

abbrev formal_weighs : Formal → Weighs
formal_weighs f = plain ⨾ plain

a_type_next : (t : TypeName) (z : Stack) → next (AType ∷ z) (type_head t) ≡ Some z
a_type_next (type.Int at) z = refl
a_type_next (type.Bool at) z = refl
a_type_next (type.Named at n) z = refl

formal-passes : (f : Formal) (z : Stack) {r x : Rest} → Reading (formal_text f) r x → Passes (weight z) r (AType ∷ AName ∷ z) (formal_weighs f) (weight z) x z
formal-passes f z {r = r} {x = x} h =
    let u = in_turn (type_text f.type_name ∷ name f.name ∷ []) {r = r} {x = x} (record { is = h.is }) in
    joined (type-passes f.type_name (AType ∷ AName ∷ z) (AName ∷ z) (a_type_next f.type_name (AName ∷ z)) refl u.1) (passes-plain (took_name f.name u.2) refl refl)

each_formal : (fs : List Formal) → Each (Fills (AType ∷ AName ∷ [])) (map formal_text fs) (map formal_weighs fs)
each_formal [] = none
each_formal (f ∷ fs) = more (record { fill = λ z h e. formal-passes f z h }) (each_formal fs)

formals : Listing (AType ∷ AName ∷ []) MoreFormals
formals = record { comma = λ z. refl; over = λ e z. closes e z; weighs = λ z. refl; weighs_more = λ z. refl } where
  closes : {o : Mark} → IsListEnd o → (z : Stack) → next (MoreFormals ∷ z) (kind.Mark o) ≡ next z (kind.Mark o)
  closes list_parenthesis z = refl
  closes list_semicolon z = refl

-- the first formal's type is taken as any other's
formals_next : (t : TypeName) (z : Stack) → next (FormalsIfAny ∷ z) (type_head t) ≡ next (AType ∷ AName ∷ MoreFormals ∷ z) (type_head t)
formals_next (type.Int at) z = refl
formals_next (type.Bool at) z = refl
formals_next (type.Named at n) z = refl

some_formals-trace : (fs : List Formal) (z : Stack) {r x : Rest} → Reading (separated (map formal_text fs)) r x → trace r.tokens (FormalsIfAny ∷ z) ≡ trace r.tokens (AType ∷ AName ∷ MoreFormals ∷ z)
some_formals-trace [] z h = let nothing_read = h.is in absurd cc
some_formals-trace (f ∷ fs) z {r = r} h =
    let u = in_turn (formal_text f ∷ after_first (map formal_text fs) ∷ []) {r = r} (record { is = h.is }) in
    let v = in_turn (type_text f.type_name ∷ name f.name ∷ []) {r = r} (record { is = u.1.is }) in
    let taken = took_first (took_type f.type_name v.1) in
    trace-heads {x = r} (FormalsIfAny ∷ z) (AType ∷ AName ∷ MoreFormals ∷ z) (record { first = taken.first }) (formals_next f.type_name z)

formals-pass : (f : Option Formals) (z : Stack) {r x : Rest} → Reading (optional (option_map formals_text f)) r x → Heads (kind.Mark m.CloseParenthesis) x
    → Passes (weight z) r (FormalsIfAny ∷ z) (if_any (option_map formals_weighs f)) (weight z) x z
formals-pass None z {x = x} h e = ends_as {x = x} (trace-heads (FormalsIfAny ∷ z) z e refl) (stays (read_nothing formals_text h))
formals-pass (Some f) z {r = r} {x = x} h e =
    let u = parts f.at (separated (map formal_text f.list) ∷ []) {r = r} {x = x} (record { is = h.is }) in
    let p = some-fill formals (each_formal f.list) z u (record { mark = m.CloseParenthesis; is_end = list_parenthesis; heads = e }) in
    record { seen = some_formals-trace f.list z u ∙ p.seen; after = p.after }

-- `( formals? ) block`
body-passes : (f : Option Formals) (b : Block) (q z : Stack) → next q (kind.Mark m.OpenParenthesis) ≡ Some (FormalsIfAny ∷ CloseParenthesis ∷ ABlock ∷ z) → {r n o p x : Rest}
    → Reading (mark m.OpenParenthesis) r n → Reading (optional (option_map formals_text f)) n o → Reading (mark m.CloseParenthesis) o p → Reading (block_text b) p x
    → Passes (weight z) r q (bracketed (if_any (option_map formals_weighs f)) ⨾ block_weighs b) (weight z) x z
body-passes f b q z e o h c k =
    let close = took_mark m.CloseParenthesis c in
    joined (passes-bracketed (took_mark m.OpenParenthesis o) e refl (formals-pass f (CloseParenthesis ∷ ABlock ∷ z) h (took_first close)) close refl refl)
    ((block-drives b).drive (ABlock ∷ z) z refl k)

-- ---- items

-- a mark that stands behind the first name of a field
data IsBehindName : Mark → Type 0 where
  dimension : IsBehindName m.OpenBracket
  another : IsBehindName m.Comma
  last : IsBehindName m.Semicolon

behind_name_next : {o : Mark} → IsBehindName o → (z : Stack) → next (BehindItemName ∷ z) (kind.Mark o) ≡ next (DimensionIfAny ∷ MoreNames ∷ Semicolon ∷ z) (kind.Mark o)
behind_name_next dimension z = refl
behind_name_next another z = refl
behind_name_next last z = refl

record BehindName (r : Rest) : Type 0 where
  mark : Mark
  is_behind : IsBehindName mark
  heads : Heads (kind.Mark mark) r

moved_heads : {k : TokenKind} {r x : Rest} → r.tokens ≡ x.tokens → Heads k x → Heads k r
moved_heads e h = record { first = ap head e ∙ h.first }

names_follow : (fs : List FieldName) {r y x : Rest} → Reading (after_first (map field_name_text fs)) r y → Took (kind.Mark m.Semicolon) y x → BehindName r
names_follow [] h t = record { mark = m.Semicolon; is_behind = last; heads = moved_heads (ap (λ (r : Rest). r.tokens) (some_same h.is)) (took_first t) }
names_follow (f ∷ fs) h t =
    record { mark = m.Comma; is_behind = another; heads = took_first (took_mark m.Comma (in_turn (mark m.Comma ∷ field_name_text f ∷ after_first (map field_name_text fs) ∷ []) h).1) }

dimension_follows : (o : Option Dimension) (fs : List FieldName) {r n y x : Rest} → Reading (optional (option_map dimension_text o)) r n → Reading (after_first (map field_name_text fs)) n y → Took (kind.Mark m.Semicolon) y x → BehindName r
dimension_follows None fs h k t = let b = names_follow fs k t in record { mark = b.mark; is_behind = b.is_behind; heads = moved_heads (read_nothing dimension_text h) b.heads }
dimension_follows (Some d) fs {r = r} {n = n} h k t =
    let u = parts d.at (mark_on d.mark_line m.OpenBracket ∷ number d.number ∷ mark m.CloseBracket ∷ []) {r = r} {x = n} (record { is = h.is }) in
    record { mark = m.OpenBracket; is_behind = dimension; heads = record { first = (took_first (took_mark_on d.mark_line m.OpenBracket u.1)).first } }

-- the names of a field among a class's items
item_names-trace : (fs : List FieldName) (z : Stack) {r y x : Rest} → Reading (separated (map field_name_text fs)) r y → Took (kind.Mark m.Semicolon) y x
    → trace r.tokens (AName ∷ BehindItemName ∷ z) ≡ trace r.tokens (AName ∷ DimensionIfAny ∷ MoreNames ∷ Semicolon ∷ z)
item_names-trace [] z h t = let nothing_read = h.is in absurd cc
item_names-trace (f ∷ fs) z {r = r} {y = y} h t =
    let u = in_turn (field_name_text f ∷ after_first (map field_name_text fs) ∷ []) {r = r} {x = y} (record { is = h.is }) in
    let v = in_turn (name f.name ∷ optional (option_map dimension_text f.dimension) ∷ []) {r = r} {x = u.0} (record { is = u.1.is }) in
    let taken = took_name f.name v.1 in
    let b = dimension_follows f.dimension fs v.2 u.2 t in
    let same = trace-heads (BehindItemName ∷ z) (DimensionIfAny ∷ MoreNames ∷ Semicolon ∷ z) b.heads (behind_name_next b.is_behind z) in
    trace-took (AName ∷ BehindItemName ∷ z) taken refl ∙ ap (Weighing (weight z)) same ∙ sym (trace-took (AName ∷ DimensionIfAny ∷ MoreNames ∷ Semicolon ∷ z) taken refl)

items_next : (t : TypeName) (z : Stack) → next (Items ∷ z) (type_head t) ≡ Some (AName ∷ BehindItemName ∷ Items ∷ z)
items_next (type.Int at) z = refl
items_next (type.Bool at) z = refl
items_next (type.Named at n) z = refl

item_field-passes : (f : Field) (z : Stack) {r x : Rest} → Reading (field_text f) r x → Passes (weight z + 1) r (Items ∷ z) (field_weighs f) (weight z + 1) x (Items ∷ z)
item_field-passes f z h =
    let u = parts f.at (field_parts f) h in
    let semi = took_mark m.Semicolon u.2.2 in
    let same = item_names-trace f.names (Items ∷ z) u.2.1 semi in
    out (joined (ends_as same (type-passes f.type_name (Items ∷ z) (AName ∷ BehindItemName ∷ Items ∷ z) (items_next f.type_name z) refl u.1))
    (joined (some-fill names (each_field_name f.names) (Semicolon ∷ Items ∷ z) u.2.1 (at_list_semicolon semi)) (passes-plain semi refl refl)))

guard-passes : (g : Option Expression) (z : Stack) {r x : Rest} → Reading (optional (option_map guard_text g)) r x → Heads (kind.Keyword word.Accept) x
    → Passes (weight z) r (GuardIfAny ∷ AcceptWord ∷ z) (if_any (option_map guard_weighs g)) (weight z) x (AcceptWord ∷ z)
guard-passes None z {x = x} h e = ends_as {x = x} (trace-heads (GuardIfAny ∷ AcceptWord ∷ z) (AcceptWord ∷ z) e refl) (stays (read_nothing guard_text h))
guard-passes (Some test) z {r = r} {x = x} h e =
    let u = in_turn (keyword word.Guard ∷ mark m.OpenParenthesis ∷ expression_text test ∷ mark m.CloseParenthesis ∷ []) {r = r} {x = x} (record { is = h.is }) in
    joined (passes-plain (took_keyword word.Guard u.1) refl refl) (test-passes test (AcceptWord ∷ z) u.2.1 u.2.2.1 u.2.2.2)

abbrev entry_parts : Entry → List Reads
entry_parts e =
    keyword word.Priority ∷ number e.priority ∷ mark m.Colon ∷ optional (option_map guard_text e.guard) ∷ keyword word.Accept ∷ name e.member ∷ mark m.Semicolon ∷ []

entry-passes : (e : Entry) (z : Stack) {r x : Rest} → Reading (entry_text e) r x → Passes (weight z + 1) r (Entries ∷ z) (entry_weighs e) (weight z + 1) x (Entries ∷ z)
entry-passes e z h =
    let u = parts e.at (entry_parts e) h in
    let accept = took_keyword word.Accept u.2.2.2.2.1 in
    out (joined (passes-plain (took_keyword word.Priority u.1) refl refl)
    (joined (passes-plain (took_numbered e.priority u.2.1) (number_next e.priority u.2.1 _) refl)
    (joined (passes-plain (took_mark m.Colon u.2.2.1) refl refl)
    (joined (guard-passes e.guard (AName ∷ Semicolon ∷ Entries ∷ z) u.2.2.2.1 (took_first accept))
    (joined (passes-plain accept refl refl)
    (joined (passes-plain (took_name e.member u.2.2.2.2.2.1) refl refl)
    (passes-plain (took_mark m.Semicolon u.2.2.2.2.2.2) refl refl)))))))

entries-pass : (es : List Entry) (z : Stack) {r x : Rest} → Reading (each (map entry_text es)) r x → Passes (weight z + 1) r (Entries ∷ z) (in_order (map entry_weighs es)) (weight z + 1) x (Entries ∷ z)
entries-pass [] z h = stays (ap (λ (r : Rest). r.tokens) (some_same h.is))
entries-pass (e ∷ es) z h = let u = in_turn (entry_text e ∷ each (map entry_text es) ∷ []) h in joined (entry-passes e z u.1) (entries-pass es z u.2)

abbrev member_parts : ResultType → Name → Option Formals → Block → List Reads
member_parts t n f b =
    result_text t ∷ name n ∷ mark m.OpenParenthesis ∷ optional (option_map formals_text f) ∷ mark m.CloseParenthesis ∷ block_text b ∷ []

item-passes : (i : Item) (z : Stack) {r x : Rest} → Reading (item_text i) r x → Passes (weight z + 1) r (Items ∷ z) (item_weighs i) (weight z + 1) x (Items ∷ z)
item-passes (item.OfField at field) z h = out (item_field-passes field z (parts at (field_text field ∷ []) h))
item-passes (item.Member at (Void place) n f b) z h =
    let u = parts at (member_parts (Void place) n f b) h in
    out (joined (out (passes-plain (took_keyword word.Void (parts place (keyword word.Void ∷ []) u.1)) refl refl))
    (joined (passes-plain (took_name n u.2.1) refl refl) (body-passes f b (OpenFormals ∷ ABlock ∷ Items ∷ z) (Items ∷ z) refl u.2.2.1 u.2.2.2.1 u.2.2.2.2.1 u.2.2.2.2.2)))
item-passes (item.Member at (Typed place t) n f b) z h =
    let u = parts at (member_parts (Typed place t) n f b) h in
    out (joined (out (type-passes t (Items ∷ z) (AName ∷ BehindItemName ∷ Items ∷ z) (items_next t z) refl (parts place (type_text t ∷ []) u.1)))
    (joined (passes-plain (took_name n u.2.1) refl refl) (body-passes f b (BehindItemName ∷ Items ∷ z) (Items ∷ z) refl u.2.2.1 u.2.2.2.1 u.2.2.2.2.1 u.2.2.2.2.2)))
item-passes (item.Select at line entries) z h =
    let u = parts at (keyword word.Select ∷ mark m.OpenBrace ∷ each (map entry_text entries) ∷ mark_on line m.CloseBrace ∷ []) h in
    out (joined (passes-plain (took_keyword word.Select u.1) refl refl)
    (passes-bracketed (took_mark m.OpenBrace u.2.1) refl refl (entries-pass entries (Items ∷ z) u.2.2.1) (took_mark_on line m.CloseBrace u.2.2.2) refl refl))
item-passes (item.Public at) z h =
    let u = parts at (keyword word.Public ∷ mark m.Colon ∷ []) h in
    out (joined (passes-plain (took_keyword word.Public u.1) refl refl) (passes-plain (took_mark m.Colon u.2) refl refl))
item-passes (item.Private at) z h =
    let u = parts at (keyword word.Private ∷ mark m.Colon ∷ []) h in
    out (joined (passes-plain (took_keyword word.Private u.1) refl refl) (passes-plain (took_mark m.Colon u.2) refl refl))
item-passes (item.Empty at) z h = out (passes-plain (took_mark m.Semicolon (parts at (mark m.Semicolon ∷ []) h)) refl refl)

items-pass : (is : List Item) (z : Stack) {r x : Rest} → Reading (each (map item_text is)) r x → Passes (weight z + 1) r (Items ∷ z) (in_order (map item_weighs is)) (weight z + 1) x (Items ∷ z)
items-pass [] z h = stays (ap (λ (r : Rest). r.tokens) (some_same h.is))
items-pass (i ∷ is) z h = let u = in_turn (item_text i ∷ each (map item_text is) ∷ []) h in joined (item-passes i z u.1) (items-pass is z u.2)

-- ---- declarations

kind_taken : (k : Kind) {r x : Rest} → Reading (kind_text k) r x → Passes 0 r [] plain 0 x (MentatWord ∷ ClassWord ∷ AName ∷ OpenItems ∷ Semicolon ∷ [])
kind_taken (Regular at) h = out (passes-plain (took_keyword word.Regular (parts at (keyword word.Regular ∷ []) h)) refl refl)
kind_taken (Persistent at) h = out (passes-plain (took_keyword word.Persistent (parts at (keyword word.Persistent ∷ []) h)) refl refl)

function_next : (t : TypeName) → next [] (type_head t) ≡ Some (AName ∷ OpenFormals ∷ ABlock ∷ [])
function_next (type.Int at) = refl
function_next (type.Bool at) = refl
function_next (type.Named at n) = refl

declaration-passes : (d : Declaration) {r x : Rest} → Reading (declaration_text d) r x → Passes 0 r [] (declaration_weighs d) 0 x []
declaration-passes (declaration.Struct at line struct fields) h =
    let u = parts at (keyword word.Struct ∷ name struct ∷ mark m.OpenBrace ∷ each (map field_text fields) ∷ mark_on line m.CloseBrace ∷ mark m.Semicolon ∷ []) h in
    out (joined (passes-plain (took_keyword word.Struct u.1) refl refl)
    (joined (passes-plain (took_name struct u.2.1) refl refl)
    (joined (passes-bracketed (took_mark m.OpenBrace u.2.2.1) refl refl (fields-pass fields (Semicolon ∷ []) u.2.2.2.1) (took_mark_on line m.CloseBrace u.2.2.2.2.1) refl refl)
    (passes-plain (took_mark m.Semicolon u.2.2.2.2.2) refl refl))))
declaration-passes (declaration.Class at line kind class items) h =
    let u = parts at (kind_text kind ∷ keyword word.Mentat ∷ keyword word.Class ∷ name class ∷ mark m.OpenBrace ∷ each (map item_text items) ∷ mark_on line m.CloseBrace ∷ mark m.Semicolon ∷ []) h in
    out (joined (kind_taken kind u.1)
    (joined (passes-plain (took_keyword word.Mentat u.2.1) refl refl)
    (joined (passes-plain (took_keyword word.Class u.2.2.1) refl refl)
    (joined (passes-plain (took_name class u.2.2.2.1) refl refl)
    (joined (passes-bracketed (took_mark m.OpenBrace u.2.2.2.2.1) refl refl (items-pass items (Semicolon ∷ []) u.2.2.2.2.2.1) (took_mark_on line m.CloseBrace u.2.2.2.2.2.2.1) refl refl)
    (passes-plain (took_mark m.Semicolon u.2.2.2.2.2.2.2) refl refl))))))
declaration-passes (declaration.Function at result function formals body) h =
    let u = parts at (type_text result ∷ name function ∷ mark m.OpenParenthesis ∷ optional (option_map formals_text formals) ∷ mark m.CloseParenthesis ∷ block_text body ∷ []) h in
    out (joined (type-passes result [] (AName ∷ OpenFormals ∷ ABlock ∷ []) (function_next result) refl u.1)
    (joined (passes-plain (took_name function u.2.1) refl refl)
    (body-passes formals body (OpenFormals ∷ ABlock ∷ []) [] refl u.2.2.1 u.2.2.2.1 u.2.2.2.2.1 u.2.2.2.2.2)))

declarations-pass : (ds : List Declaration) {r x : Rest} → Reading (each (map declaration_text ds)) r x → Passes 0 r [] (in_order (map declaration_weighs ds)) 0 x []
declarations-pass [] h = stays (ap (λ (r : Rest). r.tokens) (some_same h.is))
declarations-pass (d ∷ ds) h = let u = in_turn (declaration_text d ∷ each (map declaration_text ds) ∷ []) h in joined (declaration-passes d u.1) (declarations-pass ds u.2)

-- ---- programs

read_all : (o : Option Rest) → nothing_left o ≡ true → (x : Rest) × (o ≡ Some x) × (x.tokens ≡ [])
read_all None h = absurd cc
read_all (Some x) h = (x, refl, is_nothing x.tokens h) where
  is_nothing : (ts : List Token) → nothing_left (Some (record { tokens = ts; last = 0; next = 0 })) ≡ true → ts ≡ []
  is_nothing [] h = refl
  is_nothing (t ∷ ts) h = absurd cc

program-reads : (p : Program) (tokens : List Token) (x : Rest) → program_text p tokens ≡ Some x → (n : ℕ) × Reading (each (map declaration_text p.declarations)) (record { tokens = tokens; last = 0; next = n }) x
program-reads p [] x h = (0, record { is = (if_read _ _ x h).1 })
program-reads p (t ∷ ts) x h = (1, parts p.at (each (map declaration_text p.declarations) ∷ []) {r = all_of (t ∷ ts)} {x = x} (record { is = h }))

-- The tokens of a program take the machine from nothing to nothing, with the program's weights.
pub spelled-trace : (p : Program) (tokens : List Token) → spells p tokens ≡ true → trace tokens [] ≡ prepend (weights p) (Ends true)
spelled-trace p tokens h =
    let all = read_all (program_text p tokens) h in
    let read = program-reads p tokens all.0 all.1 in
    (declarations-pass p.declarations read.1).seen ∙ ap (λ ts. prepend (weights p) (trace ts [])) all.2
