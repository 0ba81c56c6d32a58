use Rattle.std.proofs.Common.{rules, ◌*◌, ◌+◌, ap, sym, ◌∙◌, subst, arith}
use Rattle.mdf_turn.specs.Prefixes.{StartsWith, after}
use Rattle.mdf_turn.specs.Actors.{NameOnlyFree}
use Rattle.mdf_turn.specs.Passes.{PassState}
use Rattle.mdf_turn.proofs.Keeps.{gives_put}
use Rattle.mdf_turn.proofs.turn.Turn.leave.Goals as goal

pub store-requires : goal.store-requires
store-requires g c = let o = c.self.inside.table.shared.key in let t = g.T.Logged in let is = c.pass.view_is in let value = c.args.entered.value in
    let inside = ap (λ p. p.inside) is ∙ c.requires.inside in
    let Free = λ (p : PassState g.row.T-Job.Denot g.row.T-Event.Denot). NameOnlyFree t.actor t.is_out (after p.seen (t.events value)) p.held p.seen in
    let Longer = λ (p : PassState g.row.T-Job.Denot g.row.T-Event.Denot). StartsWith (t.events value) p.seen in (
      search rules,
      search rules,
      gives_put t.job t.events t.actor t.is_out (t.job o.value.value) o.parts t.has_ended t.others_stay _ _ c.slot_in.new.seat.me c.pass.inside.seat.me.0 value (2 * c.pass.inside.turns + 2)
          c.slot_in.ensures.step.has
          inside
          (omega (arith, c.pass.invariant.number inside))
          (ap (λ p. p.root) is ∙ c.requires.job)
          (subst Longer (sym is) c.requires.seen)
          (subst Free (sym is) c.requires.free),
    )
