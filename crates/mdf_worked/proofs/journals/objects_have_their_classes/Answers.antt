use Rattle.std.proofs.Common.{refl}
use Rattle.mpl_worked.proofs.TreeOfSource.{tree_of}
use Rattle.mdf_worked.specs.JournalSources as source
use Rattle.mdf_worked.proofs.OfSource.{has_program}
use Rattle.mdf_worked.proofs.OpenedLanguage.{explains, opened_language}
use Rattle.mdf_worked.proofs.journals.objects_have_their_classes.Goals as goal

pub returns : goal.returns
unfolding opened_language
returns c = record { whole = has_program source.two_objects _ refl refl refl (explains 100 _ _ 11 (tree_of source.two_objects) refl refl refl refl) }
