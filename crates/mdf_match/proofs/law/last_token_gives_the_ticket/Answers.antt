use Rattle.mdf_match.proofs.Missing.{ticket_with_the_last}
use Rattle.mdf_match.proofs.law.last_token_gives_the_ticket.Goals as goal

pub returns : goal.returns
returns c = ticket_with_the_last
