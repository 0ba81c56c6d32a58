-- The tables of a layout beside the declarations.
use Rattle.std.specs.Prelude.{◌≡◌, ℕ, List, map, option_map}
use Rattle.mpl_ast.specs.declared.program.Declaration.{Declaration}
use Rattle.mpl_mean.specs.Meaning.Layout.{Nothing, class_named, classes_of, meant_by}
use Rattle.mpl_scope.specs.First.{at}
use Rattle.mpl_scope.specs.declared.first_named.FirstNamed.{FirstNamed}
use Rattle.mpl_layout.specs.Bounds.{Bounded}
use Rattle.mpl_layout.specs.ClassItems.{class_items}
use Rattle.mpl_layout.specs.SeenClasses.{class_seen, items_seen}
use Rattle.mpl_layout.specs.SeenNamed.{named_or}
use Rattle.mpl_layout.specs.declared.class.Class.{Class}
use Rattle.mpl_layout.specs.declared.named.Named.{Named}

-- what is found in a table is what is found along the declarations, whose sizes are within bounds
pub record Stands (ds : List Declaration) (types : FirstNamed Named) (classes : List Class) (named : FirstNamed Class) : Type 0 where
  pub types_are : (name : List ℕ) → named_or name (at types name) Nothing ≡ meant_by name ds
  pub classes_are : map class_seen classes ≡ classes_of ds
  pub items_are : map items_seen classes ≡ class_items ds
  pub class_is : (name : List ℕ) → option_map class_seen (at named name) ≡ class_named name (classes_of ds)
  pub bounded : Bounded ds
