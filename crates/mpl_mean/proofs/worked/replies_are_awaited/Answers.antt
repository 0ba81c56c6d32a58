use Rattle.std.proofs.Common.{[], ◌∷◌, ◌∙◌, pos}
use Rattle.std.specs.FinMap.{empty, get-empty}
use Rattle.mpl_mean.specs.Meaning.DirectRun.{main_start}
use Rattle.mpl_mean.specs.SmallPrograms.ReplyPrograms as program
use Rattle.mpl_mean.specs.SmallPrograms.WorkedYields.{member_start}
use Rattle.mpl_mean.proofs.SmallPrograms.OpenedBodies.{opened_yield, opens, runs}
use Rattle.mpl_mean.proofs.worked.replies_are_awaited.Goals as goal

pub returns-clause-two_replies : goal.returns-clause-two_replies
unfolding opened_yield
returns-clause-two_replies c = λ replies first second. opens program.gets_and_puts (main_start []) replies 4 ∙ rw first

pub returns-clause-no_reply : goal.returns-clause-no_reply
unfolding opened_yield
returns-clause-no_reply c = runs program.gets_and_puts [] 4 ∙ simp get-empty

pub returns-clause-passed_on : goal.returns-clause-passed_on
unfolding opened_yield
returns-clause-passed_on c = runs program.passes_it_back [] 4 ∙ simp get-empty

pub returns-clause-put : goal.returns-clause-put
unfolding opened_yield
returns-clause-put c = opens program.gets_and_puts (member_start 0 (pos 7 ∷ []) (pos 0 ∷ pos 0 ∷ [])) empty 1

pub returns-clause-get : goal.returns-clause-get
unfolding opened_yield
returns-clause-get c = opens program.gets_and_puts (member_start 1 [] (pos 7 ∷ pos 1 ∷ [])) empty 1
