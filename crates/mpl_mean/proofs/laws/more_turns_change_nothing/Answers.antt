use Rattle.mpl_mean.proofs.MoreTurns.TurnsChangeNothing.{more_turns}
use Rattle.mpl_mean.proofs.laws.more_turns_change_nothing.Goals as goal

pub returns : goal.returns
returns c = more_turns
