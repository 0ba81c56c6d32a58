-- All nodes of a program that the type rules speak of: those of its outline, and those inside its bodies and guards. No
-- rule is known here.
use Rattle.std.specs.Prelude.{ℕ, ◌+◌, true, List, [], ◌∷◌, ◌++◌, map, flat_map, Option, Some, None, if◌then◌else◌}
use Rattle.mpl_ast.specs.declared.class.Entry.{Entry}
use Rattle.mpl_ast.specs.declared.class.Field.{Field}
use Rattle.mpl_ast.specs.declared.class.FieldName.{FieldName}
use Rattle.mpl_ast.specs.declared.class.Formal.{Formal}
use Rattle.mpl_ast.specs.declared.class.Item.{Item}
use Rattle.mpl_ast.specs.declared.class.Item.TheVariants as item
use Rattle.mpl_ast.specs.declared.class.Kind.{Kind}
use Rattle.mpl_ast.specs.declared.class.ResultType.{ResultType}
use Rattle.mpl_ast.specs.declared.class.ResultType.TheVariants as result
use Rattle.mpl_ast.specs.declared.expression.Expression.{Expression}
use Rattle.mpl_ast.specs.declared.place.Name.{Name}
use Rattle.mpl_ast.specs.declared.program.Declaration.{Declaration}
use Rattle.mpl_ast.specs.declared.program.Declaration.TheVariants as declaration
use Rattle.mpl_ast.specs.declared.program.Program.{Program}
use Rattle.mpl_ast.specs.declared.statement.Block.{Block}
use Rattle.mpl_ast.specs.declared.statement.TypeName.{TypeName}
use Rattle.mpl_mean.specs.Plain.Stmt.{Stmts, stmts_of}
use Rattle.mpl_mean.specs.Meaning.Layout.{Member, is_regular, formals_of}
use Rattle.mpl_mean.specs.TypeRules.Nodes.{Located, place, expr_nodes}
use Rattle.mpl_mean.specs.TypeRules.Nodes as node
use Rattle.mpl_mean.specs.Plain.Expr.{Expr, begins, expr_of}
use Rattle.mpl_mean.specs.TypeRules.Scopes.{Environment, Body, InGuard, InMain, InFunction, InMember, Surrounding, at_top, in_class, in_body, is_main}
use Rattle.mpl_mean.specs.TypeRules.StatementNodes.{stmts_walk, locals_among, type_at, type_nodes, dimension_nodes}
use Rattle.mpl_mean.specs.TypeRules.Types.{Role, InState, InStruct, AsFormal, AsResult, declared_formals}
use Rattle.mpl_mean.specs.TypeRules.Typing.{member_of}

-- ---- bodies and guards

-- a function's or member's body with the byte at which that begins and its formals, or a guard
pub data Inner : Type 0 where
  OfRoutine : (at : ℕ) → List Formal → Stmts → Inner
  OfGuard : Expr → Inner

pub record Inside : Type 0 where
  pub environment : Environment
  pub inner : Inner

abbrev pub routine_nodes : ℕ → Environment → List Formal → List Located → List Located
routine_nodes at environment formals nodes = place at environment (node.Routine (declared_formals formals ++ locals_among nodes)) ∷ nodes

abbrev pub inner_nodes : Environment → Inner → List Located
inner_nodes environment (OfRoutine at formals stmts) = routine_nodes at environment formals (stmts_walk stmts environment).nodes
inner_nodes environment (OfGuard test) = place (begins test) environment (node.AGuard test) ∷ expr_nodes environment test

abbrev pub routine : ℕ → Environment → Body → List Formal → Block → Inside
routine at environment body formals block = record { environment = in_body body (declared_formals formals) environment; inner = OfRoutine at formals (stmts_of block) }

abbrev pub accepted_formals : Option Member → List Formal
accepted_formals None = []
accepted_formals (Some member) = member.formals

-- in the scope of a guard are the formals of its member, and the state
abbrev pub guard : Environment → List Item → Name → Expression → Inside
guard environment items member test =
    record { environment = in_body InGuard (declared_formals (accepted_formals (member_of member.text items))) environment; inner = OfGuard (expr_of test) }

abbrev pub guards_of_entry : Environment → List Item → Name → Option Expression → List Inside
guards_of_entry environment items member None = []
guards_of_entry environment items member (Some test) = guard environment items member test ∷ []

abbrev pub inside_item : Environment → List Item → Item → List Inside
inside_item environment items (item.OfField at field) = []
inside_item environment items (item.Member at result name formals body) = routine at.span.from environment (InMember result) (formals_of formals) body ∷ []
inside_item environment items (item.Select at line entries) = flat_map (λ (entry : Entry). guards_of_entry environment items entry.member entry.guard) entries
inside_item environment items (item.Public at) = []
inside_item environment items (item.Private at) = []
inside_item environment items (item.Empty at) = []

abbrev pub inside_class : Environment → List Item → List Inside
inside_class environment items = flat_map (inside_item environment items) items

abbrev pub function_body : List ℕ → TypeName → Body
function_body name result = if is_main name then InMain else InFunction result

abbrev pub surrounding : Kind → Name → List Item → Surrounding
surrounding kind name items = record { name = name.text; is_regular = is_regular kind; items = items }

abbrev pub inside_declaration : Environment → Declaration → List Inside
inside_declaration environment (declaration.Struct at line name fields) = []
inside_declaration environment (declaration.Class at line kind name items) = inside_class (in_class (surrounding kind name items) environment) items
inside_declaration environment (declaration.Function at result name formals body) =
    routine at.span.from environment (function_body name.text result) (formals_of formals) body ∷ []

-- the bodies and guards of a program
abbrev pub insides : Program → List Inside
insides p = flat_map (inside_declaration (at_top p.declarations)) p.declarations

abbrev pub inners : Program → List Inner
inners p = map (λ (inside : Inside). inside.inner) (insides p)

abbrev pub environments : Program → List Environment
environments p = map (λ (inside : Inside). inside.environment) (insides p)

-- ---- formals and fields

abbrev pub formal_nodes : Environment → ℕ → List (List ℕ) → List Formal → List Located
formal_nodes environment before earlier [] = []
formal_nodes environment before earlier (formal ∷ others) =
    place (type_at formal.type_name) environment (node.AFormal before) ∷ place formal.name.from environment (node.NewName formal.name.text earlier)
    ∷ type_nodes AsFormal true formal.type_name environment ++ formal_nodes environment (before + 1) (earlier ++ formal.name.text ∷ []) others

abbrev pub result_nodes : ResultType → Environment → List Located
result_nodes (result.Void at) environment = []
result_nodes (result.Typed at type) environment = type_nodes AsResult true type environment

abbrev pub field_name_nodes : Environment → TypeName → List (List ℕ) → List FieldName → List Located
field_name_nodes environment type earlier [] = []
field_name_nodes environment type earlier (field ∷ others) =
    place field.name.from environment (node.NewName field.name.text earlier)
    ∷ dimension_nodes environment type field.dimension ++ field_name_nodes environment type (earlier ++ field.name.text ∷ []) others

abbrev pub field_nodes : Environment → Role → List (List ℕ) → Field → List Located
field_nodes environment role earlier field = type_nodes role true field.type_name environment ++ field_name_nodes environment field.type_name earlier field.names

abbrev pub field_names : Field → List (List ℕ)
field_names field = map (λ (name : FieldName). name.name.text) field.names

abbrev pub fields_nodes : Environment → List (List ℕ) → List Field → List Located
fields_nodes environment earlier [] = []
fields_nodes environment earlier (field ∷ others) = field_nodes environment InStruct earlier field ++ fields_nodes environment (earlier ++ field_names field) others

-- ---- classes

abbrev pub entry_nodes : Environment → ℕ → List Entry → List Located
entry_nodes environment before [] = []
entry_nodes environment before (entry ∷ others) =
    place entry.at.span.from environment (node.AnEntry before) ∷ place entry.priority.from environment (node.APriority entry.priority.value)
    ∷ place entry.member.from environment (node.Accepted entry.member) ∷ entry_nodes environment (before + 1) others

-- the items that stand before one in its class: the names of those, and how many members and selects they are
pub record Before : Type 0 where
  pub names : List (List ℕ)
  pub members : ℕ
  pub selects : ℕ

abbrev pub item_nodes : Environment → Before → List Item → List Located
item_nodes environment before [] = []
item_nodes environment before (item.OfField at field ∷ others) =
    place at.span.from environment node.AState ∷ field_nodes environment InState before.names field
    ++ item_nodes environment (record before { names = before.names ++ field_names field }) others
item_nodes environment before (item.Member at result name formals body ∷ others) =
    place at.span.from environment (node.AMember before.members result) ∷ place name.from environment (node.NewName name.text before.names)
    ∷ result_nodes result environment ++ formal_nodes environment 0 [] (formals_of formals)
    ++ item_nodes environment (record before { names = before.names ++ name.text ∷ []; members = before.members + 1 }) others
item_nodes environment before (item.Select at line entries ∷ others) =
    place at.span.from environment node.AState ∷ place at.span.from environment (node.ASelect before.selects)
    ∷ entry_nodes environment 0 entries ++ item_nodes environment (record before { selects = before.selects + 1 }) others
item_nodes environment before (item.Public at ∷ others) = item_nodes environment before others
item_nodes environment before (item.Private at ∷ others) = item_nodes environment before others
item_nodes environment before (item.Empty at ∷ others) = item_nodes environment before others

-- ---- declarations

abbrev pub declared_name : Declaration → Name
declared_name (declaration.Struct at line name fields) = name
declared_name (declaration.Class at line kind name items) = name
declared_name (declaration.Function at result name formals body) = name

abbrev pub declaration_at : Declaration → ℕ
declaration_at (declaration.Struct at line name fields) = at.span.from
declaration_at (declaration.Class at line kind name items) = at.span.from
declaration_at (declaration.Function at result name formals body) = at.span.from

abbrev pub parts_nodes : Environment → Declaration → List Located
parts_nodes environment (declaration.Struct at line name fields) = fields_nodes environment [] fields
parts_nodes environment (declaration.Class at line kind name items) =
    item_nodes (in_class (surrounding kind name items) environment) (record { names = []; members = 0; selects = 0 }) items
parts_nodes environment (declaration.Function at result name formals body) =
    type_nodes AsResult true result environment ++ formal_nodes environment 0 [] (formals_of formals)

abbrev pub declaration_nodes : Environment → ℕ → List (List ℕ) → List Declaration → List Located
declaration_nodes environment before earlier [] = []
declaration_nodes environment before earlier (d ∷ others) =
    place (declaration_at d) environment (node.ADeclaration before d) ∷ place (declared_name d).from environment (node.NewName (declared_name d).text earlier)
    ∷ parts_nodes environment d ++ declaration_nodes environment (before + 1) (earlier ++ (declared_name d).text ∷ []) others

-- ---- the whole of it

abbrev pub outline_nodes : Program → List Located
outline_nodes p = place 0 (at_top p.declarations) node.TheProgram ∷ declaration_nodes (at_top p.declarations) 0 [] p.declarations

abbrev pub nodes_inside : List Environment → List Inner → List Located
nodes_inside [] inners = []
nodes_inside (environment ∷ environments) [] = []
nodes_inside (environment ∷ environments) (inner ∷ inners) = inner_nodes environment inner ++ nodes_inside environments inners

-- the nodes, where these are the bodies and guards
abbrev pub nodes_with : Program → List Inner → List Located
nodes_with p inners = outline_nodes p ++ nodes_inside (environments p) inners

abbrev pub nodes : Program → List Located
nodes p = nodes_with p (inners p)
