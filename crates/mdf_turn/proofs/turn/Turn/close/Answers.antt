use Rattle.std.proofs.Common.{ap, sym, refl, ◌∙◌, subst}
use Rattle.std.specs.Prelude.{IsSome}
use Rattle.mdf_turn.specs.Prefixes.{StartsWith}
use Rattle.mdf_turn.specs.Passes.{PassState}
use Rattle.mdf_turn.proofs.Keeps.{closes, last_job, last_seen}
use Rattle.mdf_turn.proofs.turn.Turn.close.Goals as goal

pub unwrap-value-requires : goal.unwrap-value-requires
unwrap-value-requires g c = let o = c.self.inside.table.shared.key in let t = g.T.Logged in let is = c.pass.view_is in
    let whole = ap (λ p. p.parts) is ∙ (c.requires.all ∙ sym (ap (λ s. s.parts) c.self.view_is)) in
    let last = closes t.job t.events t.actor t.is_out (t.job o.value.value) o.parts _ _ _ _ c.take.result c.take.ensures.value (ap (λ p. p.inside) is ∙ c.requires.outside) whole c.pass.invariant.has_part c.close_with-closed.ensures.values.2 in
    subst IsSome (sym last.is) refl

pub returns-clause-job : goal.returns-clause-job
returns-clause-job g c = let o = c.self.inside.table.shared.key in let t = g.T.Logged in let is = c.pass.view_is in
    let whole = ap (λ p. p.parts) is ∙ (c.requires.all ∙ sym (ap (λ s. s.parts) c.self.view_is)) in
    let last = closes t.job t.events t.actor t.is_out (t.job o.value.value) o.parts _ _ _ _ c.take.result c.take.ensures.value (ap (λ p. p.inside) is ∙ c.requires.outside) whole c.pass.invariant.has_part c.close_with-closed.ensures.values.2 in
    sym (ap (λ p. p.root) is) ∙ last_job t.job t.events t.actor t.is_out (t.job o.value.value) o.parts _ _ _ last c.unwrap-value.ensures

pub returns-clause-seen : goal.returns-clause-seen
returns-clause-seen g c = let o = c.self.inside.table.shared.key in let t = g.T.Logged in let is = c.pass.view_is in
    let whole = ap (λ p. p.parts) is ∙ (c.requires.all ∙ sym (ap (λ s. s.parts) c.self.view_is)) in
    let last = closes t.job t.events t.actor t.is_out (t.job o.value.value) o.parts _ _ _ _ c.take.result c.take.ensures.value (ap (λ p. p.inside) is ∙ c.requires.outside) whole c.pass.invariant.has_part c.close_with-closed.ensures.values.2 in
    let Longer = λ (p : PassState g.row.T-Job.Denot g.row.T-Event.Denot). StartsWith (t.events c.unwrap-value.result) p.seen in
    subst Longer is (last_seen t.job t.events t.actor t.is_out (t.job o.value.value) o.parts _ _ _ last c.unwrap-value.ensures)
