use Rattle.std.proofs.Common.{refl}
use Rattle.mpl_worked.proofs.TreeOfSource.{tree_of}
use Rattle.mdf_worked.specs.JournalSources as source
use Rattle.mdf_worked.proofs.OfSource.{has_program}
use Rattle.mdf_worked.proofs.OpenedLanguage.{explains, fails_at, opened_language}
use Rattle.mdf_worked.proofs.journals.trapped_arguments_never_arrive.Goals as goal

pub returns-clause-whole : goal.returns-clause-whole
unfolding opened_language
returns-clause-whole c = has_program source.trapped_argument _ refl refl refl (explains 100 _ _ 5 (tree_of source.trapped_argument) refl refl refl refl)

pub returns-clause-arrival : goal.returns-clause-arrival
unfolding opened_language
returns-clause-arrival c = has_program source.trapped_argument _ refl refl refl (fails_at 100 _ _ (tree_of source.trapped_argument) refl refl)
