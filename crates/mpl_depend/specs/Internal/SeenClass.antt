-- The items of the class whose state is seen.
use Rattle.std.specs.Prelude.{List, [], Option, Some, None}
use Rattle.std.specs.Borrow.{Bor}
use Rattle.mpl_ast.specs.declared.class.Item.{Item}
use Rattle.mpl_scope.specs.declared.kinds.Class.{Class}

abbrev pub items_seen : Option (Bor Class) → List Item
items_seen None = []
items_seen (Some class) = class.now.items
