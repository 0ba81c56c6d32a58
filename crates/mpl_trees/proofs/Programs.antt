-- Every declaration and every program is taken.
use Rattle.std.proofs.Common.{◌≡◌, ℕ, zero, suc, ◌≤◌, ◌+◌, ◌*◌, List, [], ◌∷◌, map, length, Bool, true, Option, Some, None, refl, ap, sym, ◌∙◌, arith}
use Rattle.std.specs.Option.{option_map}
use Rattle.mpl_ast.specs.declared.class.Field.{Field}
use Rattle.mpl_ast.specs.declared.class.Formals.{Formals}
use Rattle.mpl_ast.specs.declared.class.Item.{Item}
use Rattle.mpl_ast.specs.declared.class.Kind.{Kind}
use Rattle.mpl_ast.specs.declared.class.Kind.TheVariants.{Regular, Persistent}
use Rattle.mpl_ast.specs.declared.place.At.{At}
use Rattle.mpl_ast.specs.declared.place.Name.{Name}
use Rattle.mpl_ast.specs.declared.program.Declaration.{Declaration}
use Rattle.mpl_ast.specs.declared.program.Declaration.TheVariants as declaration
use Rattle.mpl_ast.specs.declared.program.Program.{Program}
use Rattle.mpl_ast.specs.declared.statement.Block.{Block}
use Rattle.mpl_ast.specs.declared.statement.TypeName.{TypeName}
use Rattle.mpl_ast.specs.declared.token.Keyword.TheVariants as word
use Rattle.mpl_ast.specs.declared.token.Mark.TheVariants as m
use Rattle.mpl_ast.specs.declared.token.Token.{Token}
use Rattle.mpl_ast.specs.declared.token.TokenKind.{TokenKind}
use Rattle.mpl_mean.specs.Text.Reading.{Reads, Rest, each, keyword, mark, mark_on, name, node}
use Rattle.mpl_mean.specs.Text.StatementText.{type_text}
use Rattle.mpl_mean.proofs.Readers.Parts.{Reading, chain, in_turn, some_same}
use Rattle.mpl_trees.specs.Locals.{take_type}
use Rattle.mpl_trees.specs.Taking.{Takes, ahead, alone, both, inside, skip_then, take_name, then_skip}
use Rattle.mpl_trees.proofs.Steps.{alone_is, joins, skips, skips_behind}
use Rattle.mpl_trees.proofs.Took.{ahead-took, fewer-took, noded, takes-name, takes-node, took_keyword, took_mark, took_mark_on, took_name}
use Rattle.mpl_trees.proofs.Growth.{Growing, all-of, growing-each, growing-keyword, growing-mark, growing-mark_on, growing-name, growing-node, growing-then, rising, shorter}
use Rattle.mpl_trees.proofs.Locals.{TypeAhead, bool, growing-type, int, named, type-read}
use Rattle.mpl_mean.specs.Text.ProgramText.{all_of as every_token, declaration_text, field_text, item_text, kind_text, nothing_left, program_text, spells}
use Rattle.mpl_trees.specs.Programs.{declaration_at, declarations_at, take_braced, take_class, take_declaration, take_declarations, take_field, take_function, take_function_declaration, take_item, take_persistent, take_program, take_regular}
use Rattle.mpl_trees.proofs.Members.{braced-taken, each_field, function-taken, function_parts, growing-field, growing-function, rising-function, type-node}
use Rattle.mpl_trees.proofs.Items.{each_item, item-is}
use Rattle.mpl_mean.proofs.Readers.Parts.{if_read}
use Rattle.mpl_mean.proofs.Truth.{both_true}
use Rattle.std.proofs.lemmas.Bool.Decides.{Decides-eqb}

pub record IsDeclaration (d : Declaration) : Type 0 where
  pub grows : Growing 1 0 (declaration_text d)
  pub taken : {r x : Rest} → Reading (declaration_text d) r x → (limit : ℕ) → x.next ≤ limit → take_declaration limit r ≡ Some (d, x)

-- ---- structs

abbrev struct_parts : ℕ → Name → List Field → List Reads
struct_parts line n fs = keyword word.Struct ∷ name n ∷ mark m.OpenBrace ∷ each (map field_text fs) ∷ mark_on line m.CloseBrace ∷ mark m.Semicolon ∷ []

struct-is : (at : At) (line : ℕ) (struct : Name) (fs : List Field) → IsDeclaration (declaration.Struct at line struct fs)
struct-is at line struct fs = record {
  grows = grown;
  taken = λ {r = r} h limit l.
      let n = noded at (chain (struct_parts line struct fs)) h in
      let u = in_turn (struct_parts line struct fs) n.read in
      let list = braced-taken limit field_text take_field line fs u.2.0 (each_field (length u.2.0.tokens) limit fs) u.2.2.1 u.2.2.2.1 u.2.2.2.2.1 (omega (arith, l, (took_mark m.Semicolon u.2.2.2.2.2).next)) in
      let fields = then_skip (take_braced take_field) (mark m.Semicolon) in
      let whole = both (λ (n : Name) (fields : List Field × ℕ). (n, fields)) take_name fields in
      ap (λ k. declaration_at k limit r) (ahead-took (took_keyword word.Struct u.1))
      ∙ takes-node limit (λ at (p : Name × (List Field × ℕ)). declaration.Struct at p.1.1 p.0 p.1.0) (skip_then (keyword word.Struct) whole) n (rising grown h) l
      (skips limit (keyword word.Struct) whole u.1 (joins limit (λ (n : Name) (fields : List Field × ℕ). (n, fields)) take_name fields u.0 (takes-name limit struct u.2.1) (skips_behind limit (take_braced take_field) (mark m.Semicolon) u.2.0 list u.2.2.2.2.2)));
} where
  grown : Growing 1 0 (declaration_text (declaration.Struct at line struct fs))
  grown =
      growing-node at 0 (omega arith) (growing-then (growing-keyword word.Struct) (growing-then (growing-name struct) (growing-then (growing-mark m.OpenBrace)
      (growing-then (growing-each 1 1 field_text fs (all-of growing-field fs)) (growing-then (growing-mark_on line m.CloseBrace) (growing-mark m.Semicolon))))))

-- ---- classes

growing-kind : (k : Kind) → Growing 1 11 (kind_text k)
growing-kind (Regular at) = growing-node at 11 (omega arith) (growing-keyword word.Regular)
growing-kind (Persistent at) = growing-node at 11 (omega arith) (growing-keyword word.Persistent)

record KindRead (k : Kind) (r x : Rest) : Type 0 where
  kind : Takes Kind
  taken : (limit : ℕ) → x.next ≤ limit → kind limit r ≡ Some (k, x)
  shorter : length r.tokens ≡ suc (length x.tokens)
  chosen : (limit : ℕ) (q : Rest) {y : Rest} {d : Declaration} → q.tokens ≡ r.tokens → take_class kind limit q ≡ Some (d, y) → take_declaration limit q ≡ Some (d, y)

kind-read : (k : Kind) {r x : Rest} → Reading (kind_text k) r x → KindRead k r x
kind-read (Regular at) h =
    let n = noded at (keyword word.Regular) h in
    let t = took_keyword word.Regular n.read in
    record {
      kind = take_regular;
      taken = λ limit l. takes-node limit (λ at (n : Bool). Regular at) (alone true (keyword word.Regular)) n (rising (growing-kind (Regular at)) h) l (alone_is limit true (keyword word.Regular) n.read);
      shorter = fewer-took t;
      chosen = λ limit q e f. ap (λ k. declaration_at k limit q) (ap ahead e ∙ ahead-took t) ∙ f;
    }
kind-read (Persistent at) h =
    let n = noded at (keyword word.Persistent) h in
    let t = took_keyword word.Persistent n.read in
    record {
      kind = take_persistent;
      taken = λ limit l. takes-node limit (λ at (n : Bool). Persistent at) (alone true (keyword word.Persistent)) n (rising (growing-kind (Persistent at)) h) l (alone_is limit true (keyword word.Persistent) n.read);
      shorter = fewer-took t;
      chosen = λ limit q e f. ap (λ k. declaration_at k limit q) (ap ahead e ∙ ahead-took t) ∙ f;
    }

abbrev class_parts : ℕ → Kind → Name → List Item → List Reads
class_parts line k n is = kind_text k ∷ keyword word.Mentat ∷ keyword word.Class ∷ name n ∷ mark m.OpenBrace ∷ each (map item_text is) ∷ mark_on line m.CloseBrace ∷ mark m.Semicolon ∷ []

class-is : (at : At) (line : ℕ) (k : Kind) (class : Name) (is : List Item) → IsDeclaration (declaration.Class at line k class is)
class-is at line k class is = record {
  grows = grown;
  taken = λ {r = r} h limit l.
      let n = noded at (chain (class_parts line k class is)) h in
      let u = in_turn (class_parts line k class is) n.read in
      let p = kind-read k u.1 in
      let behind_items : u.2.2.2.2.2.2.0.next ≤ limit = omega (arith, l, (took_mark m.Semicolon u.2.2.2.2.2.2.2).next) in
      let list = braced-taken limit item_text take_item line is u.2.2.2.0 (each_item (length u.2.2.2.0.tokens) limit is) u.2.2.2.2.1 u.2.2.2.2.2.1 u.2.2.2.2.2.2.1 behind_items in
      let before_items : u.0.next ≤ limit = omega (
        arith,
        behind_items,
        (took_mark_on line m.CloseBrace u.2.2.2.2.2.2.1).took.next,
        rising (growing-each 1 0 item_text is (all-of (λ i. (item-is i).grows) is)) u.2.2.2.2.2.1,
        (took_mark m.OpenBrace u.2.2.2.2.1).next,
        (took_name class u.2.2.2.1).took.next,
        (took_keyword word.Class u.2.2.1).next,
        (took_keyword word.Mentat u.2.1).next,
      ) in
      let items = then_skip (take_braced take_item) (mark m.Semicolon) in
      let whole = both (λ (n : Name) (items : List Item × ℕ). (n, items)) take_name items in
      let class_ = skip_then (keyword word.Class) whole in
      let mentat = skip_then (keyword word.Mentat) class_ in
      p.chosen limit r refl
      (takes-node limit (λ at (p : Kind × (Name × (List Item × ℕ))). declaration.Class at p.1.1.1 p.0 p.1.0 p.1.1.0) (both (λ (k : Kind) (p : Name × (List Item × ℕ)). (k, p)) p.kind mentat) n (rising grown h) l
      (joins limit (λ (k : Kind) (p : Name × (List Item × ℕ)). (k, p)) p.kind mentat (inside r) (p.taken limit before_items)
      (skips limit (keyword word.Mentat) class_ u.2.1 (skips limit (keyword word.Class) whole u.2.2.1
      (joins limit (λ (n : Name) (items : List Item × ℕ). (n, items)) take_name items u.2.2.0 (takes-name limit class u.2.2.2.1) (skips_behind limit (take_braced take_item) (mark m.Semicolon) u.2.2.2.0 list u.2.2.2.2.2.2.2))))));
} where
  grown : Growing 1 0 (declaration_text (declaration.Class at line k class is))
  grown =
      growing-node at 0 (omega arith) (growing-then (growing-kind k) (growing-then (growing-keyword word.Mentat) (growing-then (growing-keyword word.Class) (growing-then (growing-name class) (growing-then (growing-mark m.OpenBrace)
      (growing-then (growing-each 1 0 item_text is (all-of (λ i. (item-is i).grows) is)) (growing-then (growing-mark_on line m.CloseBrace) (growing-mark m.Semicolon))))))))

-- ---- functions

of_type : (limit : ℕ) {r x : Rest} {d : Declaration} → TypeAhead r → take_function_declaration limit r ≡ Some (d, x) → take_declaration limit r ≡ Some (d, x)
of_type limit {r = r} (int e) f = ap (λ k. declaration_at k limit r) e ∙ f
of_type limit {r = r} (bool e) f = ap (λ k. declaration_at k limit r) e ∙ f
of_type limit {r = r} (named n) f = ap (λ k. declaration_at k limit r) n.is ∙ f

abbrev function_whole : TypeName → Name → Option Formals → Block → List Reads
function_whole t n formals body = type_text t ∷ name n ∷ function_parts formals body

function-is : (at : At) (t : TypeName) (function : Name) (formals : Option Formals) (body : Block) → IsDeclaration (declaration.Function at t function formals body)
function-is at t function formals body = record {
  grows = grown;
  taken = λ {r = r} h limit l.
      let n = noded at (chain (function_whole t function formals body)) h in
      let u = in_turn (function_whole t function formals body) n.read in
      let p = type-read t u.1 in
      let behind = both (λ (n : Name) (p : Option Formals × Block). (n, p)) take_name take_function in
      of_type limit (type-node p.ahead_is)
      (takes-node limit (λ at (p : TypeName × (Name × (Option Formals × Block))). declaration.Function at p.0 p.1.0 p.1.1.0 p.1.1.1) (both (λ (r : TypeName) (p : Name × (Option Formals × Block)). (r, p)) take_type behind) n (rising grown h) l
      (joins limit (λ (r : TypeName) (p : Name × (Option Formals × Block)). (r, p)) take_type behind (inside r) (p.taken limit (omega (arith, l, (took_name function u.2.1).took.next, rising-function formals body u.2.2)))
      (joins limit (λ (n : Name) (p : Option Formals × Block). (n, p)) take_name take_function u.0 (takes-name limit function u.2.1) (function-taken formals body u.2.2 limit l))));
} where
  grown : Growing 1 0 (declaration_text (declaration.Function at t function formals body))
  grown = growing-node at 0 (omega arith) (growing-then (growing-type t) (growing-then (growing-name function) (growing-function formals body)))

pub declaration-is : (d : Declaration) → IsDeclaration d
declaration-is (declaration.Struct at line struct fields) = struct-is at line struct fields
declaration-is (declaration.Class at line k class items) = class-is at line k class items
declaration-is (declaration.Function at result function formals body) = function-is at result function formals body

-- ---- programs

some_ahead : (ts : List Token) (n : ℕ) → suc n ≤ length ts → (k : TokenKind) × (ahead ts ≡ Some k)
some_ahead [] n h = absurd (omega (arith, h))
some_ahead (t ∷ ts) n h = (t.kind, refl)

declarations-taken : (n : ℕ) (ds : List Declaration) {r x : Rest} → Reading (each (map declaration_text ds)) r x → x.tokens ≡ [] → length r.tokens ≤ n → (limit : ℕ) → x.next ≤ limit → take_declarations n limit r ≡ Some (ds, x)
declarations-taken zero [] {r = r} h e k limit l = ap (λ y. Some ([], y)) (some_same h.is)
declarations-taken (suc n) [] {r = r} {x = x} h e k limit l =
    let same = some_same h.is in
    ap (λ k. declarations_at (take_declarations n) k limit r) (ap (λ (y : Rest). ahead y.tokens) same ∙ ap ahead e) ∙ ap (λ y. Some ([], y)) same
declarations-taken zero (d ∷ ds) h e k limit l =
    let u = in_turn (declaration_text d ∷ each (map declaration_text ds) ∷ []) h in absurd (omega (arith, k, shorter (declaration-is d).grows u.1))
declarations-taken (suc n) (d ∷ ds) {r = r} h e k limit l =
    let u = in_turn (declaration_text d ∷ each (map declaration_text ds) ∷ []) h in
    let i = declaration-is d in
    let less = shorter i.grows u.1 in
    let behind : u.0.next ≤ limit = omega (arith, l, rising (growing-each 1 0 declaration_text ds (all-of (λ d. (declaration-is d).grows) ds)) u.2) in
    ap (λ k. declarations_at (take_declarations n) k limit r) (some_ahead r.tokens (length u.0.tokens) less).1
    ∙ joins limit ◌∷◌ take_declaration (take_declarations n) r (i.taken u.1 limit behind) (declarations-taken n ds u.2 e (omega (arith, k, less)) limit l)

none_read : (ds : List Declaration) {r x : Rest} → Reading (each (map declaration_text ds)) r x → r.tokens ≡ [] → [] ≡ ds
none_read [] h e = refl
none_read (d ∷ ds) h e =
    let u = in_turn (declaration_text d ∷ each (map declaration_text ds) ∷ []) h in absurd (omega (arith, shorter (declaration-is d).grows u.1, ap length e))

record AllRead (o : Option Rest) : Type 0 where
  rest : Rest
  read : o ≡ Some rest
  none : rest.tokens ≡ []

all_read : (o : Option Rest) → nothing_left o ≡ true → AllRead o
all_read None h = absurd cc
all_read (Some x) h = record { rest = x; read = refl; none = empty x.tokens h } where
  empty : (ts : List Token) → nothing_left (Some (record { tokens = ts; last = x.last; next = x.next })) ≡ true → ts ≡ []
  empty [] h = refl
  empty (t ∷ ts) h = absurd cc

at_is : (at : At) → at.id ≡ 0 → at.span.from ≡ 0 → at.span.to ≡ 0 → at.line ≡ 1 → record { span = record { from = 0; to = 0 }; line = 1; id = 0 } ≡ at
at_is at e f g h =
    let all : ℕ → ℕ → ℕ → ℕ → At = λ from to line id. record { span = record { from = from; to = to }; line = line; id = id } in
    ap (λ n. all n 0 1 0) (sym f) ∙ ap (λ n. all at.span.from n 1 0) (sym g) ∙ ap (λ n. all at.span.from at.span.to n 0) (sym h) ∙ ap (λ n. all at.span.from at.span.to at.line n) (sym e)

-- What spells the tokens is what the parser takes.
pub program-taken : (p : Program) (tokens : List Token) (limit : ℕ) → spells p tokens ≡ true → 12 * length tokens + 1 ≤ limit → take_program limit tokens ≡ Some p
program-taken p [] limit h l =
    let a = all_read (program_text p []) h in
    let b = if_read _ _ _ a.read in
    let c = both_true _ _ b.0 in
    let d = both_true _ _ c.0 in
    let e = both_true _ _ d.0 in
    let made : At → List Declaration → Program = λ at declarations. record { at = at; declarations = declarations } in
    let read : Reading (each (map declaration_text p.declarations)) (every_token []) a.rest = record { is = b.1 } in
    ap (λ at. Some (made at [])) (at_is p.at ((Decides-eqb p.at.id 0).0 e.0) ((Decides-eqb p.at.span.from 0).0 e.1) ((Decides-eqb p.at.span.to 0).0 d.1) ((Decides-eqb p.at.line 1).0 c.1))
    ∙ ap (λ ds. Some (made p.at ds)) (none_read p.declarations read refl)
program-taken p (t ∷ ts) limit h l =
    let a = all_read (program_text p (t ∷ ts)) h in
    let read : Reading (node p.at (each (map declaration_text p.declarations))) (every_token (t ∷ ts)) a.rest = record { is = a.read } in
    let n = noded p.at (each (map declaration_text p.declarations)) read in
    let grown = (growing-each 1 0 declaration_text p.declarations (all-of (λ d. (declaration-is d).grows) p.declarations)).holds n.read in
    let few : a.rest.next ≤ limit = omega (arith, l, grown.few) in
    ap (option_map (λ (p : Program × Rest). p.0))
    (takes-node limit (λ at (list : List Declaration). record { at = at; declarations = list }) (take_declarations (length (t ∷ ts))) n (omega (arith, grown.rises)) few
    (declarations-taken (length (t ∷ ts)) p.declarations n.read a.none (omega arith) limit few))

some_program : {p q : Program} → ◌≡◌ {A = Option Program} (Some p) (Some q) → p ≡ q
some_program e = cc

-- No two programs have the same tokens.
pub one_program : (p q : Program) (tokens : List Token) → spells p tokens ≡ true → spells q tokens ≡ true → p ≡ q
one_program p q tokens h k =
    let limit = 12 * length tokens + 1 in
    some_program (sym (program-taken p tokens limit h (omega arith)) ∙ program-taken q tokens limit k (omega arith))
