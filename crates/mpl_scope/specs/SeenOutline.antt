-- What the checker's own tables of a program stand for.
use Rattle.std.specs.Prelude.{◌≡◌, ℕ, List, Option, Some, None, option_map}
use Rattle.mpl_ast.specs.declared.program.Declaration.{Declaration}
use Rattle.mpl_mean.specs.Meaning.Layout as layout
use Rattle.mpl_mean.specs.TypeRules.Types as types
use Rattle.mpl_scope.specs.First.{at}
use Rattle.mpl_scope.specs.declared.first_named.FirstNamed.{FirstNamed}
use Rattle.mpl_scope.specs.declared.outline.Function.{Function}
use Rattle.mpl_scope.specs.declared.outline.Meant.{Meant}
use Rattle.mpl_scope.specs.declared.outline.Meant.TheVariants as meant
use Rattle.mpl_scope.specs.declared.outline.Named.{Named}
use Rattle.mpl_scope.specs.declared.outline.Named.TheVariants as named

abbrev pub seen_function : Function → layout.Function
seen_function f = record { result = f.result.now; formals = f.formals.now; body = f.body.now }

abbrev pub seen_named : Named → types.Meant
seen_named (named.Struct s) = types.AStruct s.0 s.1
seen_named (named.Class c) = types.AClass c.name c.is_regular c.items

abbrev pub seen_found : Option Named → types.Meant
seen_found None = types.Nothing
seen_found (Some n) = seen_named n

abbrev pub or_meant : types.Meant → types.Meant → types.Meant
or_meant types.Nothing b = b
or_meant a b = a

abbrev pub seen_meant : Meant → types.Meant
seen_meant meant.Int = types.AnInt
seen_meant meant.Bool = types.ABool
seen_meant (meant.Struct s) = types.AStruct s.now.0 s.now.1
seen_meant (meant.Class c) = types.AClass c.now.name c.now.is_regular c.now.items
seen_meant meant.Nothing = types.Nothing

-- the tables have what the declarations say
abbrev pub Agrees : FirstNamed Named → FirstNamed Function → List Declaration → Type 0
Agrees found functions ds =
    ((name : List ℕ) → seen_found (at found name) ≡ types.meant_by name ds) × ((name : List ℕ) → option_map seen_function (at functions name) ≡ layout.function_named name ds)
