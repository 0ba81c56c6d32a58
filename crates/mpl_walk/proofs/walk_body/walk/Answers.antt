use Rattle.mpl_mean.specs.Meaning.BodyMeaning.{yield_of}
use Rattle.mpl_walk.proofs.Meanings.{of_meaning}
use Rattle.mpl_walk.proofs.walk_body.walk.Goals as goal

pub returns-clause-spent : goal.returns-clause-spent
returns-clause-spent c =
    of_meaning c.walk_body.result (yield_of c.args.typed.now c.args.start.now c.args.replies.now c.args.budget) c.args.budget c.walk_body.ensures
    (c.allowances_are_exact.ensures.spent c.args.typed.now c.args.start.now c.args.replies.now c.args.budget)
