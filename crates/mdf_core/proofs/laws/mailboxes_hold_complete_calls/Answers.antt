use Rattle.mdf_core.proofs.Mailboxes.{mail_is}
use Rattle.mdf_core.proofs.laws.mailboxes_hold_complete_calls.Goals as goal

pub returns : goal.returns
returns c = mail_is
