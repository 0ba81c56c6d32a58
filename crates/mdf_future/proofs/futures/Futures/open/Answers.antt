use Rattle.std.proofs.Common.{◌≤◌, ap, ap₂, sym, subst, ◌∙◌, arith}
use Rattle.std.specs.FinMap.{insert}
use Rattle.mpl_value.proofs.Table.{updated}
use Rattle.mdf_future.specs.Room.{waiting_in}
use Rattle.mdf_future.specs.declared.future.Fate.TheVariants.{Open}
use Rattle.mdf_future.proofs.Entries.{Entries, table, future, waiting-inserted}
use Rattle.mdf_future.proofs.futures.Futures.open.Goals as goal

pub invariant_of-self-2 : goal.invariant_of-self-2
invariant_of-self-2 c = record {
  counted =
      let fewer = waiting-inserted c.self.inside.results.entries c.args.actor (future Open c.new.result) c.new.ensures in
      subst (λ (es : Entries). waiting_in es ≤ c.self.inside.waiting) (sym c.in_ok-insert.ensures.entries) (omega (arith, fewer, c.self.invariant.counted));
  within = c.self.invariant.within;
}

pub returns-clause-ok : goal.returns-clause-ok
returns-clause-ok c = ap₂ table
    (updated _ _ c.args.actor (future Open c.new.result) c.in_ok-insert.ensures.updates.0
    ∙ ap₂ (λ m cs. insert m c.args.actor (future Open cs)) (ap (λ t. t.results) c.self.view_is) c.new.ensures)
    (ap (λ t. t.due) c.self.view_is)
