use Rattle.std.proofs.Common.{subst, sym}
use Rattle.mpl_mean.specs.Laws.Sizes.{Every}
use Rattle.mpl_gen_code.specs.ProgramImage.{entries_of_select}
use Rattle.mpl_layout.specs.SeenClasses.{class_seen}
use Rattle.mpl_gen_bounds.specs.ImageFits.{EntryFits}
use Rattle.mpl_gen_body.proofs.Fitting.{listed_fit}
use Rattle.mpl_gen_body.proofs.entries.add_class.Goals as goal

pub add_entries-requires-clause-fits : goal.add_entries-requires-clause-fits
add_entries-requires-clause-fits c =
    let ds = c.args.outline.now in
    let class = class_seen c.args.class in
    listed_fit ds class c.in-Some.list.now (subst (λ select. Every EntryFits (entries_of_select ds class select)) (sym c.in-Some.ensures) c.requires.fits)
