use Rattle.std.proofs.Common.{rules, ap, ◌∙◌, arith}
use Rattle.mdf_turn.proofs.Keeps.{splits}
use Rattle.mdf_turn.proofs.turn.Turn.split.Goals as goal

pub split_seat-cut-requires : goal.split_seat-cut-requires
split_seat-cut-requires g c = let o = c.self.inside.table.shared.key in let t = g.T.Logged in
    let parts = ap (λ p. p.parts) c.pass.view_is in
    (search rules, search rules, splits t.job t.events t.actor t.is_out (t.job o.value.value) o.parts _ _ (ap (λ p. p.inside) c.pass.view_is ∙ c.requires.outside) (omega (arith, parts, c.requires.parts)))
