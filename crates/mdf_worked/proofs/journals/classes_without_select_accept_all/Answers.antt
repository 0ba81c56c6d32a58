use Rattle.std.proofs.Common.{refl}
use Rattle.mpl_worked.proofs.TreeOfSource.{tree_of}
use Rattle.mdf_worked.specs.JournalSources as source
use Rattle.mdf_worked.proofs.OfSource.{has_program}
use Rattle.mdf_worked.proofs.OpenedLanguage.{explains, fails_at, opened_language}
use Rattle.mdf_worked.proofs.journals.classes_without_select_accept_all.Goals as goal

pub returns-clause-whole : goal.returns-clause-whole
unfolding opened_language
returns-clause-whole c = has_program source.tally _ refl refl refl (explains 100 _ _ 6 (tree_of source.tally) refl refl refl refl)

pub returns-clause-second_before_first : goal.returns-clause-second_before_first
unfolding opened_language
returns-clause-second_before_first c = has_program source.tally _ refl refl refl (fails_at 100 _ _ (tree_of source.tally) refl refl)
