use Rattle.std.proofs.Common.{refl}
use Rattle.mpl_worked.proofs.TreeOfSource.{tree_of}
use Rattle.mdf_worked.specs.JournalSources as source
use Rattle.mdf_worked.proofs.OfSource.{has_program}
use Rattle.mdf_worked.proofs.OpenedLanguage.{over_at, opened_language}
use Rattle.mdf_worked.proofs.journals.endless_bodies_are_over.Goals as goal

pub returns : goal.returns
unfolding opened_language
returns c = record { whole = has_program source.endless _ refl refl refl (over_at 100 _ (tree_of source.endless) refl refl) }
