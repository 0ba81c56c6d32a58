use Rattle.std.proofs.Common.{refl}
use Rattle.mpl_worked.proofs.TreeOfSource.{tree_of}
use Rattle.mdf_worked.specs.JournalSources as source
use Rattle.mdf_worked.proofs.OfSource.{has_program}
use Rattle.mdf_worked.proofs.OpenedLanguage.{explains, explains_part, fails_at, over_at, opened_language}
use Rattle.mdf_worked.proofs.journals.gets_wait_for_puts.Goals as goal

pub returns-clause-whole : goal.returns-clause-whole
unfolding opened_language
returns-clause-whole c = has_program source.buffer _ refl refl refl (explains 100 _ _ 6 (tree_of source.buffer) refl refl refl refl)

pub returns-clause-without_the_last : goal.returns-clause-without_the_last
unfolding opened_language
returns-clause-without_the_last c = has_program source.buffer _ refl refl refl (explains_part 100 _ (tree_of source.buffer) refl refl)

pub returns-clause-get_too_early : goal.returns-clause-get_too_early
unfolding opened_language
returns-clause-get_too_early c = has_program source.buffer _ refl refl refl (fails_at 100 _ _ (tree_of source.buffer) refl refl)

pub returns-clause-reply_before_accept : goal.returns-clause-reply_before_accept
unfolding opened_language
returns-clause-reply_before_accept c = has_program source.buffer _ refl refl refl (fails_at 100 _ _ (tree_of source.buffer) refl refl)

pub returns-clause-reply_before_body : goal.returns-clause-reply_before_body
unfolding opened_language
returns-clause-reply_before_body c = has_program source.buffer _ refl refl refl (fails_at 100 _ _ (tree_of source.buffer) refl refl)

pub returns-clause-other_value : goal.returns-clause-other_value
unfolding opened_language
returns-clause-other_value c = has_program source.buffer _ refl refl refl (fails_at 100 _ _ (tree_of source.buffer) refl refl)

pub returns-clause-lonely_get : goal.returns-clause-lonely_get
unfolding opened_language
returns-clause-lonely_get c = has_program source.lonely_get _ refl refl refl (explains 100 _ _ 3 (tree_of source.lonely_get) refl refl refl refl)

pub returns-clause-a_turn_too_few : goal.returns-clause-a_turn_too_few
unfolding opened_language
returns-clause-a_turn_too_few c = has_program source.buffer _ refl refl refl (over_at 5 _ (tree_of source.buffer) refl refl)

pub returns-clause-second_put_waits : goal.returns-clause-second_put_waits
unfolding opened_language
returns-clause-second_put_waits c = has_program source.two_puts _ refl refl refl (explains 100 _ _ 5 (tree_of source.two_puts) refl refl refl refl)
