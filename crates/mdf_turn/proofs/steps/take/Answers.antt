use Rattle.std.proofs.Common.{rules}
use Rattle.mdf_turn.proofs.Keeps.{takes_turn}
use Rattle.mdf_turn.proofs.steps.take.Goals as goal

pub compare_exchange-requires : goal.compare_exchange-requires
compare_exchange-requires g c = let o = c.args.shared.now.key in let t = g.T.Logged in (search rules, search rules, takes_turn t.job t.events t.actor t.is_out (t.job o.value.value) o.parts _ _ _ _ c.requires.word.0 c.requires.seat.1 c.requires.seat.2)
