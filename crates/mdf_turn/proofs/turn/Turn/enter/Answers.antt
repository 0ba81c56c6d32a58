use Rattle.std.proofs.Common.{subst}
use Rattle.std.specs.Prelude.{Option}
use Rattle.atomic_table.specs.Table.{Me}
use Rattle.mdf_turn.specs.declared.view.View.{View}
use Rattle.mdf_turn.specs.Prefixes.{after}
use Rattle.mdf_turn.specs.Actors.{NameNone}
use Rattle.mdf_turn.specs.Passes.{PassState}
use Rattle.mdf_turn.proofs.Keeps.{taken_calm}
use Rattle.mdf_turn.proofs.turn.Turn.enter.Goals as goal

pub returns-then-take-clause-calm : goal.returns-then-take-clause-calm
returns-then-take-clause-calm g c = let o = c.self.inside.table.shared.key in let t = g.T.Logged in let log = t.events c.slot_out-value.result in
    let AtSeat = λ (m : Me (Option g.row.T.Denot) (View g.row.T-Job.Denot g.row.T-Event.Denot)). NameNone t.actor (after m.0.seen log) m.0.held in
    let AtPass = λ (p : PassState g.row.T-Job.Denot g.row.T-Event.Denot). NameNone t.actor (after p.seen log) p.held in
    let calm = taken_calm t.job t.events t.actor t.is_out (t.job o.value.value) o.parts _ _ _ _ c.if-take.ensures.step c.slot_out-value.ensures.step.had in
    subst AtPass c.pass.view_is (subst AtSeat c.loop.invariant.1 calm)
