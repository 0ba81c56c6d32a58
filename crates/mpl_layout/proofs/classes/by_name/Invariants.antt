use Rattle.std.proofs.Common.{◌≡◌, ℕ, List, drop, map, option_map}
use Rattle.mpl_mean.specs.Meaning.Layout.{class_named}
use Rattle.mpl_scope.specs.First.{at, or_else}
use Rattle.mpl_layout.specs.SeenClasses.{class_seen}
use Rattle.mpl_layout.proofs.classes.by_name.Given as goal

-- the table, and the classes that are left, have the first of each name
abbrev pub invariant-loop-class : goal.invariant-loop-class
invariant-loop-class l = (q : List ℕ) → or_else (option_map class_seen (at l.named q)) (class_named q (map class_seen (drop l.class-index l.classes))) ≡ class_named q (map class_seen l.classes)
