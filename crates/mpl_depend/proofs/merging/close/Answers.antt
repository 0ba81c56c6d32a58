use Rattle.std.proofs.Common.{subst, arith, refl}
use Rattle.mpl_mean.proofs.Lists.{none_left}
use Rattle.mpl_depend.proofs.Merges.{Closing, closing_begins, closing_ends, closing_on_new, closing_on_old}
use Rattle.mpl_depend.proofs.Savings.{next_saved, saved_at}
use Rattle.mpl_depend.proofs.merging.close.Goals.{then-value-one+in_ok-add, else-value-one}
use Rattle.mpl_depend.proofs.merging.close.Goals as goal

pub loop-one-init : goal.loop-one-init
loop-one-init c = record {
  closing = closing_begins c.args.saved.now c.args.values.now.edges.items c.args.current.now c.requires;
  count = refl;
  uses = refl;
}

pub loop-one-preserved : goal.loop-one-preserved
loop-one-preserved c =
    let saved = c.args.saved.now in
    let one = saved_at saved c.loop-one.one-index in
    let edges = c.args.values.now.edges.items in
    let more = c.loop-one.values.edges.items in
    let last = c.args.current.now in
    let closing = subst (λ left. Closing saved left edges more last) (next_saved saved c.loop-one.one-index c.loop-one-test.true) c.loop-one.invariant.closing in
    elim c.if-value-one.branch [
      | then-value-one+in_ok-add w ↦ rw (w.values-is, w.in_ok-add.ensures.count, w.in_ok-add.ensures.edges, w.in_ok-add.ensures.uses) (record {
        closing = closing_on_new saved one _ edges more last closing w.if-value-one.true;
        count = c.loop-one.invariant.count;
        uses = c.loop-one.invariant.uses;
      })
      | else-value-one w ↦ rw (w.values-is) (record {
        closing = closing_on_old saved one _ edges more last closing w.if-value-one.false;
        count = c.loop-one.invariant.count;
        uses = c.loop-one.invariant.uses;
      })
    ]

pub returns : goal.returns
returns c = record {
  closed = closing_ends c.args.saved.now c.args.values.now.edges.items c.loop-one.values.edges.items c.args.current.now
      (subst (λ left. Closing c.args.saved.now left c.args.values.now.edges.items c.loop-one.values.edges.items c.args.current.now) (none_left c.args.saved.now c.loop-one.one-index (omega arith)) c.loop-one.invariant.closing);
  uses = c.loop-one.invariant.uses;
  count = c.loop-one.invariant.count;
}
