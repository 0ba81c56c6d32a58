use Rattle.std.proofs.Common.{subst, arith, refl}
use Rattle.mpl_mean.proofs.Lists.{none_left}
use Rattle.mpl_depend.proofs.Merges.{Opening, opening_begins, opening_ends, opening_on_new, opening_on_old}
use Rattle.mpl_depend.proofs.Savings.{next_saved, saved_at}
use Rattle.mpl_depend.proofs.merging.open.Goals.{then-current-one+in_ok-into+in_ok-add, else-current-one}
use Rattle.mpl_depend.proofs.merging.open.Goals as goal

pub loop-one-init : goal.loop-one-init
loop-one-init c = record {
  opening = opening_begins c.args.saved.now c.args.values.now.count c.args.values.now.edges.items c.args.current.now c.requires.within c.requires.of c.requires.below;
  uses = refl;
}

pub loop-one-preserved : goal.loop-one-preserved
loop-one-preserved c =
    let saved = c.args.saved.now in
    let one = saved_at saved c.loop-one.one-index in
    let low = c.args.values.now.count in
    let high = c.loop-one.values.count in
    let edges = c.args.values.now.edges.items in
    let more = c.loop-one.values.edges.items in
    let before = c.args.current.now in
    let now = c.loop-one.current in
    let opening = subst (λ left. Opening saved left low high edges more before now) (next_saved saved c.loop-one.one-index c.loop-one-test.true) c.loop-one.invariant.opening in
    elim c.if-current-one.branch [
      | then-current-one+in_ok-into+in_ok-add w ↦
          rw (w.current-is, w.values-is, w.in_ok-add.ensures.count, w.in_ok-into.ensures.count, w.in_ok-add.ensures.edges, w.in_ok-into.ensures.edges, w.in_ok-into.ensures.value, w.in_ok-add.ensures.uses, w.in_ok-into.ensures.uses) (record {
            opening = opening_on_new saved one _ low high edges more before now opening w.if-current-one.true;
            uses = c.loop-one.invariant.uses;
          })
      | else-current-one w ↦ rw (w.current-is, w.values-is) (record {
        opening = opening_on_old saved one _ low high edges more before now opening w.if-current-one.false;
        uses = c.loop-one.invariant.uses;
      })
    ]

pub returns : goal.returns
returns c = record {
  opened = opening_ends c.args.saved.now c.args.values.now.count c.loop-one.values.count c.args.values.now.edges.items c.loop-one.values.edges.items c.args.current.now c.loop-one.current
      (subst (λ left. Opening c.args.saved.now left c.args.values.now.count c.loop-one.values.count c.args.values.now.edges.items c.loop-one.values.edges.items c.args.current.now c.loop-one.current) (none_left c.args.saved.now c.loop-one.one-index (omega arith)) c.loop-one.invariant.opening);
  uses = c.loop-one.invariant.uses;
}
