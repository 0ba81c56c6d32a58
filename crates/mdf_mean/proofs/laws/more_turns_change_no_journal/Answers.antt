use Rattle.mdf_mean.specs.Explained.{turns_of}
use Rattle.std.proofs.Common.{◌≤◌}
use Rattle.mdf_mean.proofs.Alike.{more_alike, same_journal}
use Rattle.mdf_mean.proofs.laws.more_turns_change_no_journal.Goals as goal

pub returns : goal.returns
returns c = λ s h n law e within le. same_journal s (record s { turns = n }) (λ h. turns_of s h ≤ s.turns) (more_alike s law n le) h e within
