-- In a typed program each variable of a body has few words.
use Rattle.std.proofs.Common.{◌≡◌, ◌≤◌, ℕ, ◌+◌, ◌==◌, Bool, true, false, List, [], ◌∷◌, ◌++◌, length, map, Option, Some, None, if◌then◌else◌, nat_le, arith}
use Rattle.std.proofs.lemmas.Bool.{eqb-false, leb-true}
use Rattle.std.proofs.lemmas.List.Sums.{sum_by-append, sum_by-cons}
use Rattle.std.specs.Prelude.{sum_by}
use Rattle.std.specs.Str.{bytes_eq}
use Rattle.mpl_ast.specs.declared.class.Field.{Field}
use Rattle.mpl_ast.specs.declared.class.FieldName.{FieldName}
use Rattle.mpl_ast.specs.declared.class.Formal.{Formal}
use Rattle.mpl_ast.specs.declared.class.Item.{Item}
use Rattle.mpl_ast.specs.declared.class.Item.TheVariants as item
use Rattle.mpl_ast.specs.declared.program.Declaration.{Declaration}
use Rattle.mpl_ast.specs.declared.program.Declaration.TheVariants as declaration
use Rattle.mpl_ast.specs.declared.program.Program.{Program}
use Rattle.mpl_ast.specs.declared.statement.Dimension.{Dimension}
use Rattle.mpl_ast.specs.declared.statement.TypeName.{TypeName}
use Rattle.mpl_ast.specs.declared.statement.TypeName.TheVariants as type
use Rattle.mpl_mean.specs.Laws.Sizes.{Every}
use Rattle.mpl_mean.specs.Meaning.Layout.{Meant, AnInt, ABool, AStruct, AClass, Nothing, Part, dimension_of, formals_of, is_regular, meant, meant_by, natural, parts_from, parts_of, parts_of_names, state_of, words_of, words_of_fields, words_of_one, words_of_parts, words_of_word}
use Rattle.mpl_mean.specs.Plain.Stmt.{NewLocal, Stmt, Stmts}
use Rattle.mpl_mean.specs.Plain.Stmt as s
use Rattle.mpl_mean.specs.TypeRules.Nodes.{expr_nodes}
use Rattle.mpl_mean.specs.TypeRules.ProgramNodes.{declaration_nodes, field_nodes, formal_nodes, item_nodes, outline_nodes, parts_nodes, result_nodes, declared_name, entry_nodes, Before, field_names, surrounding, nodes_inside, environments, inners}
use Rattle.mpl_mean.specs.TypeRules.Rules.{is_typed}
use Rattle.mpl_mean.specs.TypeRules.Scopes.{Environment, at_top, in_block, in_class}
use Rattle.mpl_mean.specs.TypeRules.SizeRules.{declaration_fits, is_element, is_size}
use Rattle.mpl_mean.specs.TypeRules.StatementNodes.{exprs_if_any, locals_walk, stmt_walk, stmts_walk, dimension_nodes, print_walk}
use Rattle.mpl_mean.specs.TypeRules.Types.{Declared, InState, declared_by, declared_fields, words_of_state, words_of_state_member}
use Rattle.mpl_mean.proofs.Sizes.SizedRules.{AllRight, Right, every_left, every_right, typed_right}
use Rattle.mpl_mean.proofs.Truth.{both_true, not_true}

-- ---- sizes of declarations

abbrev pub DeclarationFew : List Declaration → Declaration → Type 0
DeclarationFew ds d = declaration_fits ds d ≡ true

sizes_fit : (ds : List Declaration) (before : ℕ) (earlier : List (List ℕ)) (some : List Declaration) → AllRight (declaration_nodes (at_top ds) before earlier some) → Every (DeclarationFew ds) some
sizes_fit ds before earlier [] r = tt
sizes_fit ds before earlier (d ∷ some) r = (r.0.size, sizes_fit ds (before + 1) (earlier ++ (declared_name d).text ∷ []) some (every_right Right (parts_nodes (at_top ds) d) _ r.1.1))

-- ---- counts of formals

few_formals : (environment : Environment) (before : ℕ) (earlier : List (List ℕ)) (formals : List Formal) → before ≤ 16 → AllRight (formal_nodes environment before earlier formals) → before + length formals ≤ 16
few_formals environment before earlier [] le r = omega (arith, le)
few_formals environment before earlier (formal ∷ formals) le r =
    let other = eqb-false before 16 (not_true (before == 16) r.0.count) in
    let rest = few_formals environment (before + 1) (earlier ++ formal.name.text ∷ []) formals (omega (arith, le, other)) r.1.1.1 in
    let z : before + 1 + length formals ≤ 16 = rest in omega (arith, z)

abbrev pub ItemFew : Item → Type 0
ItemFew (item.Member at result name formals body) = length (formals_of formals) ≤ 16
ItemFew other = Unit {0}

items_few : (environment : Environment) (before : Before) (items : List Item) → AllRight (item_nodes environment before items) → Every ItemFew items
items_few environment before [] r = tt
items_few environment before (item.OfField at field ∷ items) r =
    (tt, items_few environment (record before { names = before.names ++ field_names field }) items (every_right Right (field_nodes environment InState before.names field) _ r.1))
items_few environment before (item.Member at result name formals body ∷ items) r =
    let signature = every_left Right (result_nodes result environment ++ formal_nodes environment 0 [] (formals_of formals)) _ r.1.1 in (
      (let z : 0 + length (formals_of formals) ≤ 16 = few_formals environment 0 [] (formals_of formals) (omega arith) (every_right Right (result_nodes result environment) _ signature) in omega (arith, z)),
      items_few environment (record before { names = before.names ++ name.text ∷ []; members = before.members + 1 }) items
          (every_right Right (result_nodes result environment ++ formal_nodes environment 0 [] (formals_of formals)) _ r.1.1),
    )
items_few environment before (item.Select at line entries ∷ items) r = (tt, items_few environment (record before { selects = before.selects + 1 }) items (every_right Right (entry_nodes environment 0 entries) _ r.1.1))
items_few environment before (item.Public at ∷ items) r = (tt, items_few environment before items r)
items_few environment before (item.Private at ∷ items) r = (tt, items_few environment before items r)
items_few environment before (item.Empty at ∷ items) r = (tt, items_few environment before items r)

abbrev pub ClassFew : Declaration → Type 0
ClassFew (declaration.Class at line kind name items) = Every ItemFew items
ClassFew (declaration.Struct at line name fields) = Unit {0}
ClassFew (declaration.Function at result name formals body) = Unit {0}

class_few : (ds : List Declaration) (d : Declaration) → AllRight (parts_nodes (at_top ds) d) → ClassFew d
class_few ds (declaration.Class at line kind name items) r = items_few (in_class (surrounding kind name items) (at_top ds)) (record { names = []; members = 0; selects = 0 }) items r
class_few ds (declaration.Struct at line name fields) r = tt
class_few ds (declaration.Function at result name formals body) r = tt

counts_fit : (ds : List Declaration) (before : ℕ) (earlier : List (List ℕ)) (some : List Declaration) → AllRight (declaration_nodes (at_top ds) before earlier some) → Every ClassFew some
counts_fit ds before earlier [] r = tt
counts_fit ds before earlier (d ∷ some) r = (
  class_few ds d (every_left Right (parts_nodes (at_top ds) d) _ r.1.1),
  counts_fit ds (before + 1) (earlier ++ (declared_name d).text ∷ []) some (every_right Right (parts_nodes (at_top ds) d) _ r.1.1),
)

-- what is known of the sizes and counts of a typed program
pub record Few (p : Program) : Type 0 where
  pub sizes : Every (DeclarationFew p.declarations) p.declarations
  pub counts : Every ClassFew p.declarations

pub few : (p : Program) → is_typed p ≡ true → Few p
few p typed =
    let outline = every_left Right (outline_nodes p) (nodes_inside (environments p) (inners p)) (typed_right p typed) in
    record { sizes = sizes_fit p.declarations 0 [] p.declarations outline.1; counts = counts_fit p.declarations 0 [] p.declarations outline.1 }

-- ---- words of types

size_most : (n : ℕ) → is_size n ≡ true → n ≤ 256
size_most n h = leb-true n 256 (both_true (nat_le 1 n) (nat_le n 256) h).1

struct_few : (whole : List Declaration) (name : List ℕ) (ds : List Declaration) → Every (DeclarationFew whole) ds → words_of_one (meant_by name ds) ≤ 256
struct_few whole name [] h = omega arith
struct_few whole name (declaration.Struct at line struct fields ∷ ds) h = chosen (bytes_eq struct.text name) (struct_few whole name ds h.1) where
  chosen : (b : Bool) → words_of_one (meant_by name ds) ≤ 256 → words_of_one (if b then AStruct name fields else meant_by name ds) ≤ 256
  chosen true k = size_most (words_of_fields fields) h.0
  chosen false k = k
struct_few whole name (declaration.Class at line kind class items ∷ ds) h = chosen (bytes_eq class.text name) (is_regular kind) (struct_few whole name ds h.1) where
  chosen : (b regular : Bool) → words_of_one (meant_by name ds) ≤ 256 → words_of_one (if b then AClass name regular items else meant_by name ds) ≤ 256
  chosen true true k = omega arith
  chosen true false k = omega arith
  chosen false regular k = k
struct_few whole name (declaration.Function at result function formals body ∷ ds) h = struct_few whole name ds h.1

pub type_few : (ds : List Declaration) → Every (DeclarationFew ds) ds → (t : TypeName) → words_of ds t None ≤ 256
type_few ds h (type.Int at) = omega arith
type_few ds h (type.Bool at) = omega arith
type_few ds h (type.Named at name) = struct_few ds name.text ds h

-- ---- the state of a class

word_least : (m : Meant) (dimension : Option ℕ) → Rattle.mpl_mean.specs.Meaning.Layout.words_of_meant m dimension ≤ words_of_state_member m dimension
word_least m (Some n) = by_meant m where
  by_meant : (m : Meant) → n ≤ words_of_state_member m (Some n)
  by_meant AnInt = omega arith
  by_meant ABool = omega arith
  by_meant (AStruct name fields) = omega arith
  by_meant (AClass name regular items) = omega arith
  by_meant Nothing = omega arith
word_least AnInt None = omega arith
word_least ABool None = omega arith
word_least (AStruct name fields) None = omega arith
word_least (AClass name true items) None = omega arith
word_least (AClass name false items) None = omega arith
word_least Nothing None = omega arith

abbrev state_words : List Declaration → Declared → ℕ
state_words ds d = words_of_state_member (meant ds d.type) (dimension_of d.dimension)

abbrev part_words : Part → ℕ
part_words part = part.words

names_least : (ds : List Declaration) (t : TypeName) (offset : ℕ) (names : List FieldName)
    → words_of_parts (parts_of_names ds t offset names) ≤ sum_by (state_words ds) (map (λ (name : FieldName). record { role = InState; name = name.name.text; type = t; dimension = name.dimension }) names)
names_least ds t offset [] = omega arith
names_least ds t offset (name ∷ names) =
    let rest = names_least ds t (offset + words_of ds t (dimension_of name.dimension)) names in
    let first = word_least (meant ds t) (dimension_of name.dimension) in
    let one = sum_by-cons part_words (record { name = name.name.text; type = t; dimension = dimension_of name.dimension; offset = offset; words = words_of ds t (dimension_of name.dimension) }) (parts_of_names ds t (offset + words_of ds t (dimension_of name.dimension)) names) in
    let two = sum_by-cons (state_words ds) (record { role = InState; name = name.name.text; type = t; dimension = name.dimension }) (map (λ (name : FieldName). record { role = InState; name = name.name.text; type = t; dimension = name.dimension }) names) in
    omega (arith, rest, first, one, two)

pub state_least : (ds : List Declaration) (offset : ℕ) (fields : List Field) → words_of_parts (parts_from ds offset fields) ≤ words_of_state ds fields
state_least ds offset [] = omega arith
state_least ds offset (field ∷ fields) =
    let later = offset + words_of_parts (parts_of_names ds field.type_name offset field.names) in
    let first = names_least ds field.type_name offset field.names in
    let rest = state_least ds later fields in
    let one = sum_by-append part_words (parts_of_names ds field.type_name offset field.names) (parts_from ds later fields) in
    let two = sum_by-append (state_words ds) (declared_by InState field) (declared_fields InState fields) in
    omega (arith, first, rest, one, two)

-- ---- the locals of a body

abbrev pub DimensionFew : NewLocal → Type 0
DimensionFew new = by_dimension new.dimension where
  by_dimension : Option Dimension → Type 0
  by_dimension None = Unit {0}
  by_dimension (Some dimension) = natural dimension.number.value ≤ 256

abbrev mutual
  pub LocalsFew : Stmt → Type 0
  LocalsFew s.Nothing = Unit {0}
  LocalsFew (s.Within stmts) = AllLocalsFew stmts
  LocalsFew (s.Locals type locals) = Every DimensionFew locals
  LocalsFew (s.Assigns at place value) = Unit {0}
  LocalsFew (s.Calls call) = Unit {0}
  LocalsFew (s.Creates at target) = Unit {0}
  LocalsFew (s.When test then_part) = LocalsFew then_part
  LocalsFew (s.Branches test then_part else_part) = LocalsFew then_part × LocalsFew else_part
  LocalsFew (s.Repeats test body) = LocalsFew body
  LocalsFew (s.Loops first test step body) = LocalsFew first × LocalsFew step × LocalsFew body
  LocalsFew (s.Prints at arguments) = Unit {0}
  LocalsFew (s.Gives at value) = Unit {0}
  LocalsFew (s.Returns at value) = Unit {0}

  pub AllLocalsFew : Stmts → Type 0
  AllLocalsFew s.NoStmt = Unit {0}
  AllLocalsFew (s.MoreStmts stmt stmts) = LocalsFew stmt × AllLocalsFew stmts

dimension_few : (environment : Environment) (t : TypeName) (new : NewLocal) → AllRight (dimension_nodes environment t new.dimension) → DimensionFew new
dimension_few environment t new r = by_dimension new.dimension r where
  by_dimension : (dimension : Option Dimension) → AllRight (dimension_nodes environment t dimension) → DimensionFew (record new { dimension = dimension })
  by_dimension None r = tt
  by_dimension (Some dimension) r = size_most (natural dimension.number.value) (both_true (is_size (natural dimension.number.value)) (is_element t) r.0.dimension).0

locals_few : (t : TypeName) (locals : List NewLocal) (environment : Environment) → AllRight (locals_walk t locals environment).nodes → Every DimensionFew locals
locals_few t [] environment r = tt
locals_few t (new ∷ locals) environment r =
    let one = Rattle.mpl_mean.specs.TypeRules.StatementNodes.local_walk t new environment in
    let first = every_left Right one.nodes (locals_walk t locals one.after).nodes r in
    (dimension_few environment t new (every_left Right (dimension_nodes environment t new.dimension) _ first.1), locals_few t locals one.after (every_right Right one.nodes (locals_walk t locals one.after).nodes r))

mutual
  pub stmt_few : (stmt : Stmt) (environment : Environment) → AllRight (stmt_walk stmt environment).nodes → LocalsFew stmt
  stmt_few s.Nothing environment r = tt
  stmt_few (s.Within stmts) environment r = stmts_few stmts (in_block environment) r
  stmt_few (s.Locals type locals) environment r = locals_few type locals environment r.1
  stmt_few (s.Assigns at place value) environment r = tt
  stmt_few (s.Calls call) environment r = tt
  stmt_few (s.Creates at target) environment r = tt
  stmt_few (s.When test then_part) environment r = stmt_few then_part (in_block environment) (every_right Right (expr_nodes environment test) _ r.1)
  stmt_few (s.Branches test then_part else_part) environment r =
      let both = every_right Right (expr_nodes environment test) _ r.1 in
      (stmt_few then_part (in_block environment) (every_left Right (stmt_walk then_part (in_block environment)).nodes _ both), stmt_few else_part (in_block environment) (every_right Right (stmt_walk then_part (in_block environment)).nodes _ both))
  stmt_few (s.Repeats test body) environment r = stmt_few body (in_block environment) (every_right Right (expr_nodes environment test) _ r.1)
  stmt_few (s.Loops first test step body) environment r =
      let begun = stmt_walk first (in_block environment) in
      let rest = every_right Right begun.nodes _ r in
      let both = every_right Right (expr_nodes begun.after test) _ rest.1 in
      let stepped = stmt_walk step begun.after in (
        stmt_few first (in_block environment) (every_left Right begun.nodes _ r),
        stmt_few step begun.after (every_left Right stepped.nodes _ both),
        stmt_few body (in_block stepped.after) (every_right Right stepped.nodes _ both),
      )
  stmt_few (s.Prints at arguments) environment r = tt
  stmt_few (s.Gives at value) environment r = tt
  stmt_few (s.Returns at value) environment r = tt

  pub stmts_few : (stmts : Stmts) (environment : Environment) → AllRight (stmts_walk stmts environment).nodes → AllLocalsFew stmts
  stmts_few s.NoStmt environment r = tt
  stmts_few (s.MoreStmts stmt stmts) environment r =
      let one = stmt_walk stmt environment in
      (stmt_few stmt environment (every_left Right one.nodes _ r), stmts_few stmts one.after (every_right Right one.nodes _ r))
