-- Declarations of worked programs and whole programs, each with what the type rules see of it.
use Rattle.std.proofs.Common.{◌≡◌, ℕ, ◌+◌, List, [], ◌∷◌, pos, refl, ap}
use Rattle.std.specs.Prelude.{Option, Some, None}
use Prim.Native.String.{String}
use Rattle.mpl_ast.specs.declared.class.Entry.{Entry}
use Rattle.mpl_ast.specs.declared.class.Field.{Field}
use Rattle.mpl_ast.specs.declared.class.FieldName.{FieldName}
use Rattle.mpl_ast.specs.declared.class.Formal.{Formal}
use Rattle.mpl_ast.specs.declared.class.Formals.{Formals}
use Rattle.mpl_ast.specs.declared.class.Item.{Item}
use Rattle.mpl_ast.specs.declared.class.Item.TheVariants as item
use Rattle.mpl_ast.specs.declared.class.Kind.{Kind}
use Rattle.mpl_ast.specs.declared.class.Kind.TheVariants.{Regular, Persistent}
use Rattle.mpl_ast.specs.declared.class.ResultType.{ResultType}
use Rattle.mpl_ast.specs.declared.class.ResultType.TheVariants.{Void, Typed}
use Rattle.mpl_ast.specs.declared.program.Declaration.TheVariants as declaration
use Rattle.mpl_ast.specs.declared.program.Program.{Program}
use Rattle.mpl_ast.specs.declared.statement.Dimension.{Dimension}
use Rattle.mpl_ast.specs.declared.statement.TypeName.{TypeName}
use Rattle.mpl_mean.specs.Plain.Stmt.{stmt_of, in_turn}
use Rattle.mpl_mean.specs.Meaning.Layout.{formals_of}
use Rattle.mpl_mean.specs.Plain.Expr.{expr_of}
use Rattle.mpl_mean.specs.TypeRules.ProgramNodes.{Inside, OfRoutine, OfGuard, inside_declaration, inside_item, guards_of_entry, surrounding, nodes_with}
use Rattle.mpl_mean.specs.TypeRules.Rules.{Failure, failures, failures_among, is_empty, is_typed, least, least_failure, rules}
use Rattle.mpl_mean.specs.TypeRules.Scopes.{Environment, at_top, in_class}
use Rattle.mpl_mean.proofs.SmallPrograms.Expressions.{at, name}
use Rattle.mpl_mean.proofs.SmallPrograms.Shown.{Shown, all_seen, seen_each, Part, part_trees, all_inners, has_all}
use Rattle.mpl_mean.proofs.SmallPrograms.Statements.{block, int}

-- ---- functions and structs

abbrev pub formal : TypeName → ℕ → String → Formal
formal type from text = record { type_name = type; name = name from text }

abbrev pub formals : List Formal → Option Formals
formals [] = None
formals (first ∷ others) = Some (record { at = at 0; list = first ∷ others })

abbrev pub function : ℕ → TypeName → ℕ → String → List Formal → List (Shown stmt_of) → Part inside_declaration
function from type name_from text fs statements = record {
  tree = declaration.Function (at from) type (name name_from text) (formals fs) (block from statements);
  inners = OfRoutine from (formals_of (formals fs)) (in_turn (all_seen statements)) ∷ [];
  has = λ environment. ap (λ stmts. OfRoutine from (formals_of (formals fs)) (in_turn stmts) ∷ []) (seen_each stmt_of statements);
}

-- `int main() { .. }`
abbrev pub main_at : ℕ → List (Shown stmt_of) → Part inside_declaration
main_at from statements = function from (int from) (from + 4) "main" [] statements

abbrev pub field_name : ℕ → String → Option Dimension → FieldName
field_name from text d = record { name = name from text; dimension = d }

abbrev pub fields : ℕ → TypeName → List FieldName → Field
fields from type names = record { at = at from; type_name = type; names = names }

abbrev pub struct : ℕ → ℕ → String → List Field → Part inside_declaration
struct from name_from text fs = record { tree = declaration.Struct (at from) 1 (name name_from text) fs; inners = []; has = λ environment. refl }

-- ---- classes

abbrev pub in_items : Environment × List Item → Item → List Inside
in_items c = inside_item c.0 c.1

abbrev pub state : Field → Part in_items
state f = record { tree = item.OfField f.at f; inners = []; has = λ c. refl }

abbrev pub member : ℕ → ResultType → ℕ → String → List Formal → List (Shown stmt_of) → Part in_items
member from result name_from text fs statements = record {
  tree = item.Member (at from) result (name name_from text) (formals fs) (block from statements);
  inners = OfRoutine from (formals_of (formals fs)) (in_turn (all_seen statements)) ∷ [];
  has = λ c. ap (λ stmts. OfRoutine from (formals_of (formals fs)) (in_turn stmts) ∷ []) (seen_each stmt_of statements);
}

abbrev pub void : ℕ → ResultType
void from = Void (at from)

abbrev pub typed : ℕ → TypeName → ResultType
typed from type = Typed (at from) type

abbrev pub in_entries : Environment × List Item → Entry → List Inside
in_entries c entry = guards_of_entry c.0 c.1 entry.member entry.guard

-- `priority NUMBER : accept NAME;`
abbrev pub entry : ℕ → ℕ → ℕ → ℕ → String → Part in_entries
entry from priority_from priority member_from member = record {
  tree = record { at = at from; priority = record { from = priority_from; value = pos priority }; guard = None; member = name member_from member };
  inners = [];
  has = λ c. refl;
}

-- `priority NUMBER : guard (..) accept NAME;`
abbrev pub guarded : ℕ → ℕ → ℕ → Shown expr_of → ℕ → String → Part in_entries
guarded from priority_from priority test member_from member = record {
  tree = record { at = at from; priority = record { from = priority_from; value = pos priority }; guard = Some test.tree; member = name member_from member };
  inners = OfGuard test.seen ∷ [];
  has = λ c. ap (λ expr. OfGuard expr ∷ []) test.is;
}

abbrev pub select : ℕ → List (Part in_entries) → Part in_items
select from entries = record { tree = item.Select (at from) 1 (part_trees entries); inners = all_inners entries; has = λ c. has_all in_entries entries c }

abbrev pub class : Kind → ℕ → ℕ → String → List (Part in_items) → Part inside_declaration
class kind from name_from text items = record {
  tree = declaration.Class (at from) 1 kind (name name_from text) (part_trees items);
  inners = all_inners items;
  has = λ environment. has_all in_items items (in_class (surrounding kind (name name_from text) (part_trees items)) environment, part_trees items);
}

abbrev pub regular_class : ℕ → ℕ → String → List (Part in_items) → Part inside_declaration
regular_class from = class (Regular (at from)) from

abbrev pub persistent_class : ℕ → ℕ → String → List (Part in_items) → Part inside_declaration
persistent_class from = class (Persistent (at from)) from

-- ---- programs

abbrev pub Parts : Type 0
Parts = List (Part inside_declaration)

abbrev pub program : Parts → Program
program parts = record { at = at 0; declarations = part_trees parts }

-- the rule of that number fails at that byte
abbrev pub fails : ℕ → ℕ → Option Failure
fails rule at = Some (record { at = at; rule = rule })

-- the failures of a worked program compute from what is seen of it
abbrev pub seen_failures : Parts → List Failure
seen_failures parts = failures_among rules (nodes_with (program parts) (all_inners parts))

pub computed : (parts : Parts) → failures (program parts) ≡ seen_failures parts
computed parts = ap (λ inners. failures_among rules (nodes_with (program parts) inners)) (has_all inside_declaration parts (at_top (part_trees parts)))

pub failed : (parts : Parts) → least_failure (program parts) ≡ least (seen_failures parts)
failed parts = ap least (computed parts)

pub held : (parts : Parts) → is_typed (program parts) ≡ is_empty (seen_failures parts)
held parts = ap is_empty (computed parts)
