use Rattle.std.proofs.Common.{subst, arith, refl, inl, inr}
use Rattle.mpl_mean.proofs.Lists.{none_left}
use Rattle.mpl_depend.proofs.Merges.{MeetingAll, meeting_begins, meeting_ends, meeting_on_new, meeting_on_old}
use Rattle.mpl_depend.proofs.Savings.{next_saved, saved_at}
use Rattle.mpl_depend.proofs.merging.merge.Goals.{then-value-first+then-value-one+in_ok-into+in_ok-add+in_ok-add-2, else-value-first, else-value-first-via-then-value-first+else-value-one, else-value-first-via-else-value-first}
use Rattle.mpl_depend.proofs.merging.merge.Goals as goal

pub loop-one-init : goal.loop-one-init
loop-one-init c = record {
  meeting = meeting_begins c.args.saved.now c.args.values.now.count c.args.values.now.edges.items c.args.current.now c.requires.within c.requires.below;
  uses = refl;
}

pub loop-one-preserved : goal.loop-one-preserved
loop-one-preserved c =
    let saved = c.args.saved.now in
    let one = saved_at saved c.loop-one.one-index in
    let low = c.args.values.now.count in
    let high = c.loop-one.values.count in
    let edges = c.args.values.now.edges.items in
    let more = c.loop-one.values.edges.items in
    let right = c.args.current.now in
    let now = c.loop-one.current in
    let meeting = subst (λ left. MeetingAll saved left low high edges more right now) (next_saved saved c.loop-one.one-index c.loop-one-test.true) c.loop-one.invariant.meeting in
    elim c.if-value-first.branch [
      | then-value-first+then-value-one+in_ok-into+in_ok-add+in_ok-add-2 w ↦
          rw (w.current-is, w.values-is, w.in_ok-add-2.ensures.count, w.in_ok-add.ensures.count, w.in_ok-into.ensures.count, w.in_ok-add-2.ensures.edges, w.in_ok-add.ensures.edges, w.in_ok-into.ensures.edges, w.in_ok-into.ensures.value, w.in_ok-add-2.ensures.uses, w.in_ok-add.ensures.uses, w.in_ok-into.ensures.uses) (record {
            meeting = meeting_on_new saved one _ low high edges more right now c.requires.below meeting w.if-value-first.true w.if-value-one.true;
            uses = c.loop-one.invariant.uses;
          })
      | else-value-first w ↦ rw (w.current-is, w.values-is) (record {
        meeting = meeting_on_old saved one _ low high edges more right now c.requires.below meeting (elim w.else-value-first.branch [
          | else-value-first-via-then-value-first+else-value-one v ↦ inr v.if-value-one.false
          | else-value-first-via-else-value-first v ↦ inl v.if-value-first.false
        ]);
        uses = c.loop-one.invariant.uses;
      })
    ]

pub returns : goal.returns
returns c = record {
  merged = meeting_ends c.args.saved.now c.args.values.now.count c.loop-one.values.count c.args.values.now.edges.items c.loop-one.values.edges.items c.args.current.now c.loop-one.current c.requires.below
      (subst (λ left. MeetingAll c.args.saved.now left c.args.values.now.count c.loop-one.values.count c.args.values.now.edges.items c.loop-one.values.edges.items c.args.current.now c.loop-one.current) (none_left c.args.saved.now c.loop-one.one-index (omega arith)) c.loop-one.invariant.meeting);
  uses = c.loop-one.invariant.uses;
}
