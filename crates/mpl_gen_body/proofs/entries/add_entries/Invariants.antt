use Rattle.std.proofs.Common.{◌≡◌, ◌++◌, drop}
use Rattle.mpl_mean.specs.Laws.Sizes.{Every}
use Rattle.mpl_gen_code.specs.ProgramImage.{entries_image}
use Rattle.mpl_layout.specs.SeenClasses.{class_seen}
use Rattle.mpl_gen_body.specs.Internal.Fitting.{ListedFits}
use Rattle.mpl_gen_body.proofs.entries.add_entries.Given as goal

abbrev pub invariant-loop-entry : goal.invariant-loop-entry
invariant-loop-entry l = record {
  images : l.entries ++ entries_image l.outline (class_seen l.class) (drop l.entry-index l.list) ≡ l.initial.entries ++ entries_image l.outline (class_seen l.class) l.list;
  fits : Every (ListedFits l.outline (class_seen l.class)) (drop l.entry-index l.list);
}
