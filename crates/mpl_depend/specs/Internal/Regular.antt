-- Whether the first class of a name is regular.
use Rattle.std.specs.Prelude.{ℕ, Bool, List, [], ◌∷◌, Option, Some, None, option_map, if◌then◌else◌}
use Rattle.std.specs.Str.{bytes_eq}
use Rattle.mpl_ast.specs.declared.program.Declaration.{Declaration}
use Rattle.mpl_ast.specs.declared.program.Declaration.TheVariants as declaration
use Rattle.mpl_ast.specs.declared.statement.TypeName.{TypeName}
use Rattle.mpl_mean.specs.Meaning.Layout.{Class, class_of_type, is_regular}

abbrev pub regular_among : List ℕ → List Declaration → Option Bool
regular_among name [] = None
regular_among name (declaration.Struct at line struct fields ∷ others) = regular_among name others
regular_among name (declaration.Class at line kind class items ∷ others) = if bytes_eq class.text name then Some (is_regular kind) else regular_among name others
regular_among name (declaration.Function at result function formals body ∷ others) = regular_among name others

abbrev pub regular_type : List Declaration → TypeName → Option Bool
regular_type ds type = option_map (λ (class : Class). class.is_regular) (class_of_type ds type)
