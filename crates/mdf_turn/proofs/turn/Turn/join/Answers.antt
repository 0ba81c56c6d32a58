use Rattle.std.proofs.Common.{rules, ap, ◌∙◌}
use Rattle.mdf_turn.proofs.Keeps.{joins, looks_joined}
use Rattle.mdf_turn.proofs.turn.Turn.join.Goals as goal

pub join_seat-requires : goal.join_seat-requires
join_seat-requires g c = let o = c.self.inside.table.shared.key in let t = g.T.Logged in (
  search rules,
  search rules,
  search rules,
  search rules,
  joins t.job t.events t.actor t.is_out (t.job o.value.value) o.parts _ _ _ _
      (ap (λ p. p.inside) c.a.view_is ∙ c.requires.outside.0) (ap (λ p. p.inside) c.b.view_is ∙ c.requires.outside.1) c.a.invariant.has_part c.b.invariant.has_part,
)

pub load-requires : goal.load-requires
load-requires g c = let o = c.self.inside.table.shared.key in let t = g.T.Logged in
    (search rules, search rules, looks_joined t.job t.events t.actor t.is_out (t.job o.value.value) o.parts _ _ _ c.a.inside.seat.me.0 c.b.inside.seat.me.0 c.a.inside.seat.me.1 c.join_seat.ensures.2 c.a.invariant.has_part)
