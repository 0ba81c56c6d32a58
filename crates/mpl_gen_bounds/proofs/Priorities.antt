-- In a typed program the priorities of entries have 8 bits.
use Rattle.std.proofs.Common.{◌≡◌, ◌≤◌, ℕ, ◌+◌, true, List, [], ◌∷◌, ◌++◌, nat_le, arith}
use Rattle.std.proofs.lemmas.Bool.{leb-true}
use Rattle.mpl_ast.specs.declared.class.Entry.{Entry}
use Rattle.mpl_ast.specs.declared.class.Item.{Item}
use Rattle.mpl_ast.specs.declared.class.Item.TheVariants as item
use Rattle.mpl_ast.specs.declared.program.Declaration.{Declaration}
use Rattle.mpl_ast.specs.declared.program.Declaration.TheVariants as declaration
use Rattle.mpl_ast.specs.declared.program.Program.{Program}
use Rattle.mpl_mean.specs.Laws.Sizes.{Every}
use Rattle.mpl_mean.specs.Meaning.Layout.{formals_of, natural}
use Rattle.mpl_mean.specs.TypeRules.ClassRules.{select_is_allowed}
use Rattle.mpl_mean.specs.TypeRules.Nodes.{Located}
use Rattle.mpl_mean.specs.TypeRules.ProgramNodes.{Before, declaration_nodes, declared_name, entry_nodes, environments, field_names, field_nodes, formal_nodes, inners, item_nodes, nodes, nodes_inside, outline_nodes, parts_nodes, result_nodes, surrounding}
use Rattle.mpl_mean.specs.TypeRules.Rules.{failures_among, failures_at, is_empty, is_typed, rules}
use Rattle.mpl_mean.specs.TypeRules.Scopes.{Environment, at_top, in_class}
use Rattle.mpl_mean.specs.TypeRules.Types.{InState}
use Rattle.mpl_mean.proofs.Sizes.SizedRules.{every_left, every_right}
use Rattle.mpl_gen_laws.proofs.GuardRules.{empty_left, empty_right, hold_all}

abbrev Allowed : Located → Type 0
Allowed p = select_is_allowed p.environment p.node ≡ true

all_allowed : (ps : List Located) → is_empty (failures_among rules ps) ≡ true → Every Allowed ps
all_allowed [] e = tt
all_allowed (p ∷ ps) e =
    let h = hold_all p rules (empty_left (failures_at rules p) (failures_among rules ps) e) in
    (h.1.1.1.1.1.1.1.1.1.0, all_allowed ps (empty_right (failures_at rules p) (failures_among rules ps) e))

abbrev pub IsByte : Entry → Type 0
IsByte entry = natural entry.priority.value ≤ 255

abbrev pub ItemPriorities : Item → Type 0
ItemPriorities (item.OfField at field) = Unit {0}
ItemPriorities (item.Member at result name formals body) = Unit {0}
ItemPriorities (item.Select at line entries) = Every IsByte entries
ItemPriorities (item.Public at) = Unit {0}
ItemPriorities (item.Private at) = Unit {0}
ItemPriorities (item.Empty at) = Unit {0}

abbrev pub DeclarationPriorities : Declaration → Type 0
DeclarationPriorities (declaration.Struct at line name fields) = Unit {0}
DeclarationPriorities (declaration.Class at line kind name items) = Every ItemPriorities items
DeclarationPriorities (declaration.Function at result name formals body) = Unit {0}

entries_keep : (environment : Environment) (before : ℕ) (entries : List Entry) → Every Allowed (entry_nodes environment before entries) → Every IsByte entries
entries_keep environment before [] r = tt
entries_keep environment before (entry ∷ entries) r = (leb-true (natural entry.priority.value) 255 r.1.0, entries_keep environment (before + 1) entries r.1.1.1)

items_keep : (environment : Environment) (before : Before) (items : List Item) → Every Allowed (item_nodes environment before items) → Every ItemPriorities items
items_keep environment before [] r = tt
items_keep environment before (item.OfField at field ∷ items) r =
    (tt, items_keep environment (record before { names = before.names ++ field_names field }) items (every_right Allowed (field_nodes environment InState before.names field) _ r.1))
items_keep environment before (item.Member at result name formals body ∷ items) r = (
  tt,
  items_keep environment (record before { names = before.names ++ name.text ∷ []; members = before.members + 1 }) items
      (every_right Allowed (result_nodes result environment ++ formal_nodes environment 0 [] (formals_of formals)) _ r.1.1),
)
items_keep environment before (item.Select at line entries ∷ items) r = (
  entries_keep environment 0 entries (every_left Allowed (entry_nodes environment 0 entries) _ r.1.1),
  items_keep environment (record before { selects = before.selects + 1 }) items (every_right Allowed (entry_nodes environment 0 entries) _ r.1.1),
)
items_keep environment before (item.Public at ∷ items) r = (tt, items_keep environment before items r)
items_keep environment before (item.Private at ∷ items) r = (tt, items_keep environment before items r)
items_keep environment before (item.Empty at ∷ items) r = (tt, items_keep environment before items r)

declaration_keeps : (ds : List Declaration) (d : Declaration) → Every Allowed (parts_nodes (at_top ds) d) → DeclarationPriorities d
declaration_keeps ds (declaration.Class at line kind name items) r = items_keep (in_class (surrounding kind name items) (at_top ds)) (record { names = []; members = 0; selects = 0 }) items r
declaration_keeps ds (declaration.Struct at line name fields) r = tt
declaration_keeps ds (declaration.Function at result name formals body) r = tt

declarations_keep : (ds : List Declaration) (before : ℕ) (earlier : List (List ℕ)) (some : List Declaration) → Every Allowed (declaration_nodes (at_top ds) before earlier some) → Every DeclarationPriorities some
declarations_keep ds before earlier [] r = tt
declarations_keep ds before earlier (d ∷ some) r = (
  declaration_keeps ds d (every_left Allowed (parts_nodes (at_top ds) d) _ r.1.1),
  declarations_keep ds (before + 1) (earlier ++ (declared_name d).text ∷ []) some (every_right Allowed (parts_nodes (at_top ds) d) _ r.1.1),
)

pub priorities_keep : (p : Program) → is_typed p ≡ true → Every DeclarationPriorities p.declarations
priorities_keep p typed =
    let outline = every_left Allowed (outline_nodes p) (nodes_inside (environments p) (inners p)) (all_allowed (nodes p) typed) in
    declarations_keep p.declarations 0 [] p.declarations outline.1
