-- Words to write the trees of statements and programs by hand.
use Prim.Native.String.{String}
use Rattle.std.specs.Prelude.{ℕ, List, [], ◌∷◌, Option, Some, None, pos}
use Rattle.mpl_ast.specs.declared.class.Entry.{Entry}
use Rattle.mpl_ast.specs.declared.class.Field.{Field}
use Rattle.mpl_ast.specs.declared.class.FieldName.{FieldName}
use Rattle.mpl_ast.specs.declared.class.Formal.{Formal}
use Rattle.mpl_ast.specs.declared.class.Formals.{Formals}
use Rattle.mpl_ast.specs.declared.class.Item.{Item}
use Rattle.mpl_ast.specs.declared.class.Item.TheVariants as item
use Rattle.mpl_ast.specs.declared.class.Kind.TheVariants.{Regular, Persistent}
use Rattle.mpl_ast.specs.declared.class.ResultType.{ResultType}
use Rattle.mpl_ast.specs.declared.class.ResultType.TheVariants.{Void, Typed}
use Rattle.mpl_ast.specs.declared.expression.Expression.{Expression}
use Rattle.mpl_ast.specs.declared.expression.Place.{Place}
use Rattle.mpl_ast.specs.declared.expression.Target.TheVariants as target
use Rattle.mpl_ast.specs.declared.flow.Assignment.{Assignment}
use Rattle.mpl_ast.specs.declared.flow.Call.{Call}
use Rattle.mpl_ast.specs.declared.flow.Flow.{Flow}
use Rattle.mpl_ast.specs.declared.program.Declaration.{Declaration}
use Rattle.mpl_ast.specs.declared.program.Declaration.TheVariants as declaration
use Rattle.mpl_ast.specs.declared.program.Program.{Program}
use Rattle.mpl_ast.specs.declared.statement.Block.{Block}
use Rattle.mpl_ast.specs.declared.statement.Declarator.TheVariants.{Plain, Initialized}
use Rattle.mpl_ast.specs.declared.statement.Dimension.{Dimension}
use Rattle.mpl_ast.specs.declared.statement.ForStart.TheVariants.{Assign, Declare}
use Rattle.mpl_ast.specs.declared.statement.Statement.{Statement, roll-Statement}
use Rattle.mpl_ast.specs.declared.statement.Statement.TheOpen.{Statement-F}
use Rattle.mpl_ast.specs.declared.statement.TypeName.{TypeName}
use Rattle.mpl_ast.specs.declared.statement.TypeName.TheVariants as type
use Rattle.mpl_mean.specs.SmallPrograms.ExpressionTrees.{at, name}

abbrev pub int : TypeName
int = type.Int (at 1)

abbrev pub bool : TypeName
bool = type.Bool (at 1)

abbrev pub named : String → TypeName
named text = type.Named (at 1) (name text)

abbrev dimension : ℕ → Dimension
dimension n = record { at = at 1; mark_line = 1; number = record { from = 0; value = pos n } }

abbrev pub declare : TypeName → String → Statement
declare t x = roll-Statement (Statement-F.Declare (at 1) (record { at = at 1; type_name = t; declarators = Plain (at 1) (name x) None ∷ [] }))

abbrev pub declare_array : TypeName → String → ℕ → Statement
declare_array t x n = roll-Statement (Statement-F.Declare (at 1) (record { at = at 1; type_name = t; declarators = Plain (at 1) (name x) (Some (dimension n)) ∷ [] }))

abbrev pub declare_as : TypeName → String → Flow → Statement
declare_as t x value = roll-Statement (Statement-F.Declare (at 1) (record { at = at 1; type_name = t; declarators = Initialized (at 1) (name x) value ∷ [] }))

abbrev pub assignment : Place → Flow → Assignment
assignment p value = record { at = at 1; place = p; value = value }

abbrev pub assign : Place → Flow → Statement
assign p value = roll-Statement (Statement-F.Assign (at 1) (assignment p value))

abbrev pub give_back : Expression → Statement
give_back e = roll-Statement (Statement-F.Return (at 1) (Some e))

abbrev pub call_alone : Call → Statement
call_alone c = roll-Statement (Statement-F.CallAlone (at 1) c)

abbrev pub create : String → Statement
create x = roll-Statement (Statement-F.Create (at 1) (target.Variable (at 1) (name x)))

abbrev pub block : List Statement → Statement
block statements = roll-Statement (Statement-F.OfBlock (at 1) (record { at = at 1; mark_line = 1; statements = statements }))

abbrev pub when : Expression → Statement → Statement → Statement
when test then_part else_part = roll-Statement (Statement-F.If (at 1) test then_part (Some else_part))

abbrev pub while : Expression → Statement → Statement
while test body = roll-Statement (Statement-F.While (at 1) test body)

abbrev pub for : Assignment → Expression → Assignment → Statement → Statement
for first test step body = roll-Statement (Statement-F.For (at 1) (record { start = Some (Assign first); test = test; step = Some step }) body)

-- a `for` that begins with a local
abbrev pub for_local : TypeName → String → Flow → Expression → Assignment → Statement → Statement
for_local t x value test step body =
    roll-Statement (Statement-F.For (at 1) (record { start = Some (Declare (record { at = at 1; type_name = t; declarators = Initialized (at 1) (name x) value ∷ [] })); test = test; step = Some step }) body)

abbrev pub print : List Expression → Statement
print values = roll-Statement (Statement-F.Print (at 1) values)

abbrev pub rtf : ℕ → Flow → Statement
rtf line value = roll-Statement (Statement-F.Rtf (at line) value)

-- ---- classes and functions

abbrev pub formal : TypeName → String → Formal
formal t x = record { type_name = t; name = name x }

abbrev formals : List Formal → Option Formals
formals [] = None
formals (f ∷ others) = Some (record { at = at 1; list = f ∷ others })

-- statements up to a brace on a line
abbrev body : ℕ → List Statement → Block
body line statements = record { at = at 1; mark_line = line; statements = statements }

abbrev pub returning : TypeName → ResultType
returning t = Typed (at 1) t

abbrev pub void : ResultType
void = Void (at 1)

abbrev pub member : ResultType → String → List Formal → ℕ → List Statement → Item
member result text fs line statements = item.Member (at 1) result (name text) (formals fs) (body line statements)

abbrev fields : TypeName → List FieldName → Field
fields t names = record { at = at 1; type_name = t; names = names }

abbrev pub field : TypeName → String → Field
field t x = fields t (record { name = name x; dimension = None } ∷ [])

abbrev pub array_field : TypeName → String → ℕ → Field
array_field t x n = fields t (record { name = name x; dimension = Some (dimension n) } ∷ [])

abbrev pub state : Field → Item
state f = item.OfField (at 1) f

-- what a class accepts at a priority: a member where a test holds
abbrev pub accepts : ℕ → Expression → String → Entry
accepts priority test text = record { at = at 1; priority = record { from = 0; value = pos priority }; guard = Some test; member = name text }

abbrev pub select : List Entry → Item
select entries = item.Select (at 1) 1 entries

abbrev pub regular_class : String → List Item → Declaration
regular_class text items = declaration.Class (at 1) 1 (Regular (at 1)) (name text) items

abbrev pub persistent_class : String → List Item → Declaration
persistent_class text items = declaration.Class (at 1) 1 (Persistent (at 1)) (name text) items

abbrev pub struct : String → List Field → Declaration
struct text fs = declaration.Struct (at 1) 1 (name text) fs

abbrev pub function : TypeName → String → List Formal → ℕ → List Statement → Declaration
function t text fs line statements = declaration.Function (at 1) t (name text) (formals fs) (body line statements)

abbrev pub main : ℕ → List Statement → Declaration
main = function int "main" []

abbrev pub program : List Declaration → Program
program declarations = record { at = at 1; declarations = declarations }
