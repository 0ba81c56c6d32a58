use Rattle.std.proofs.Common.{refl}
use Rattle.mpl_worked.proofs.TreeOfSource.{tree_of}
use Rattle.mdf_worked.specs.JournalSources as source
use Rattle.mdf_worked.proofs.OfSource.{has_program}
use Rattle.mdf_worked.proofs.OpenedLanguage.{explains, fails_at, opened_language}
use Rattle.mdf_worked.proofs.journals.what_waits_for_itself_is_stuck.Goals as goal

pub returns-clause-whole : goal.returns-clause-whole
unfolding opened_language
returns-clause-whole c = has_program source.looper _ refl refl refl (explains 100 _ _ 5 (tree_of source.looper) refl refl refl refl)

pub returns-clause-accepts_no_second : goal.returns-clause-accepts_no_second
unfolding opened_language
returns-clause-accepts_no_second c = has_program source.looper _ refl refl refl (fails_at 100 _ _ (tree_of source.looper) refl refl)
