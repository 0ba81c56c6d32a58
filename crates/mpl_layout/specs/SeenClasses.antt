-- What the classes of a layout stand for.
use Rattle.std.specs.Prelude.{List}
use Rattle.mpl_ast.specs.declared.class.Item.{Item}
use Rattle.mpl_mean.specs.Meaning.Layout as layout
use Rattle.mpl_layout.specs.declared.class.Class.{Class}

abbrev pub class_seen : Class → layout.Class
class_seen c = record {
  number = c.number;
  name = c.name.now;
  is_regular = c.is_regular;
  state = layout.state_of c.items.now;
  members = layout.members_from c.first c.items.now;
}

abbrev pub items_seen : Class → List Item
items_seen c = c.items.now
