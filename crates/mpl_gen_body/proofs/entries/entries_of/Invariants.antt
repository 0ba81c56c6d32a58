use Rattle.std.proofs.Common.{◌≡◌, ◌++◌, drop, map}
use Rattle.mpl_mean.specs.Laws.Sizes.{Every}
use Rattle.mpl_gen_code.specs.ProgramImage.{all_entries}
use Rattle.mpl_layout.specs.Bounds.{StateFits}
use Rattle.mpl_gen_scope.specs.SeenSelects.{select_seen}
use Rattle.mpl_layout.specs.SeenClasses.{class_seen}
use Rattle.mpl_gen_bounds.specs.ImageFits.{EntryFits}
use Rattle.mpl_gen_body.proofs.entries.entries_of.Given as goal

abbrev pub invariant-loop-class : goal.invariant-loop-class
invariant-loop-class l = record {
  images : l.entries ++ all_entries l.outline (map class_seen (drop l.class-index l.class-items)) (map select_seen (drop l.class-index l.class-items))
      ≡ all_entries l.outline (map class_seen l.class-items) (map select_seen l.class-items);
  fit : Every (StateFits l.outline) (map class_seen (drop l.class-index l.class-items));
  fits : Every EntryFits (all_entries l.outline (map class_seen (drop l.class-index l.class-items)) (map select_seen (drop l.class-index l.class-items)));
}
