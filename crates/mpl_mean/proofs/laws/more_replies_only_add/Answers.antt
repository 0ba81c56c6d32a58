use Rattle.mpl_mean.proofs.MoreReplies.RepliesOnlyAdd.{more_replies}
use Rattle.mpl_mean.proofs.laws.more_replies_only_add.Goals as goal

pub returns : goal.returns
returns c = more_replies
