-- The items of the classes of a program, in their order.
use Rattle.std.specs.Prelude.{List, [], ◌∷◌}
use Rattle.mpl_ast.specs.declared.class.Item.{Item}
use Rattle.mpl_ast.specs.declared.program.Declaration.{Declaration}
use Rattle.mpl_ast.specs.declared.program.Declaration.TheVariants as declaration

abbrev pub class_items : List Declaration → List (List Item)
class_items [] = []
class_items (declaration.Struct at line name fields ∷ ds) = class_items ds
class_items (declaration.Class at line kind name items ∷ ds) = items ∷ class_items ds
class_items (declaration.Function at result name formals body ∷ ds) = class_items ds
