use Rattle.std.proofs.Common.{arith, ◌<◌}
use Rattle.mpl_mean.proofs.Lists.{none_left}
use Rattle.mpl_depend.specs.Internal.Ranks.{value_at}
use Rattle.mpl_depend.proofs.Reachings.{marks_end, marks_next, marks_not, marks_one, some_above, use_at}
use Rattle.mpl_depend.proofs.finding.mark_uses.Goals.{then-entry-gt0+in_ok-push, else-entry-gt0}
use Rattle.mpl_depend.proofs.finding.mark_uses.Goals as goal

pub loop-one-preserved : goal.loop-one-preserved
loop-one-preserved c =
    let ranks = c.args.ranks.now in
    let uses = c.args.uses.now in
    let i = c.loop-one.one-index in
    let made = use_at uses i in
    let before = c.args.marks.now.items in
    let now = c.loop-one.marks.items in
    elim c.if-entry-gt0.branch [
      | then-entry-gt0+in_ok-push w ↦ rw (w.marks-is, w.in_ok-push.ensures.items)
          (marks_next ranks uses i before now _ c.loop-one-test.true c.loop-one.invariant (marks_one ranks now made (some_above (value_at ranks made.value) (let above : 0 < c.entry.result = w.if-entry-gt0.true in let e = c.entry.ensures in omega arith))))
      | else-entry-gt0 w ↦ rw (w.marks-is)
          (marks_next ranks uses i before now now c.loop-one-test.true c.loop-one.invariant (marks_not ranks now made (let e = c.entry.ensures in let not_above = w.if-entry-gt0.false in omega arith)))
    ]

pub returns : goal.returns
returns c =
    marks_end c.args.ranks.now c.args.uses.now c.loop-one.one-index c.args.marks.now.items c.loop-one.marks.items (none_left c.args.uses.now c.loop-one.one-index (omega arith)) c.loop-one.invariant
