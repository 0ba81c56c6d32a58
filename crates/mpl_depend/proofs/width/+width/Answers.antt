use Rattle.std.proofs.Common.{◌+◌, drop, map, ap, subst, sym, ◌∙◌, arith}
use Rattle.mpl_mean.proofs.Lists.{next_left, none_left}
use Rattle.mpl_mean.specs.Pending.Paths as paths
use Rattle.mpl_depend.specs.Internal.SeenWays.{all_seen, ways_seen, ways_step}
use Rattle.mpl_depend.specs.Internal.Walking.{Spans}
use Rattle.mpl_depend.specs.declared.ways.Ways.{Ways, fold-roll-Ways, roll-Ways}
use Rattle.mpl_depend.specs.declared.ways.Ways.TheOpen.{Ways-F}
use Rattle.mpl_depend.proofs.Widths.{spans_either, spans_loop, spans_nothing, spans_then}
use Rattle.mpl_depend.proofs.width.+width.Goals as goal

pub width-returns-in_ok-other-in-Then : goal.width-returns-in_ok-other-in-Then
unfolding roll-Ways denote.Hole.Carrier.roll
width-returns-in_ok-other-in-Then t c =
    let arm = c.in-Then in
    let is = ap ways_seen arm.is ∙ fold-roll-Ways paths.Ways ways_step (Ways-F.Then arm.first arm.second) in
    subst (λ w. Spans c.greater.result w) (sym is)
    (spans_then (ways_seen arm.first) (ways_seen arm.second) c.in_ok-one-in-Then.one c.in_ok-other-in-Then.other c.greater.result
    (subst (λ (w : Ways). Spans c.in_ok-one-in-Then.one (ways_seen w)) c.get.ensures c.in_ok-one-in-Then.ensures)
    (subst (λ (w : Ways). Spans c.in_ok-other-in-Then.other (ways_seen w)) c.get-in-Then.ensures c.in_ok-other-in-Then.ensures)
    c.greater.ensures.left c.greater.ensures.right)

pub width-returns-in_ok-other-in-Either : goal.width-returns-in_ok-other-in-Either
unfolding roll-Ways denote.Hole.Carrier.roll
width-returns-in_ok-other-in-Either t c =
    let arm = c.in-Either in
    let is = ap ways_seen arm.is ∙ fold-roll-Ways paths.Ways ways_step (Ways-F.Either arm.first arm.second) in
    subst (λ w. Spans c.greater-in-Either.result w) (sym is)
    (spans_either (ways_seen arm.first) (ways_seen arm.second) c.in_ok-one-in-Either.one c.in_ok-other-in-Either.other c.greater-in-Either.result
    (subst (λ (w : Ways). Spans c.in_ok-one-in-Either.one (ways_seen w)) c.get-in-Either.ensures c.in_ok-one-in-Either.ensures)
    (subst (λ (w : Ways). Spans c.in_ok-other-in-Either.other (ways_seen w)) c.get-in-Either-2.ensures c.in_ok-other-in-Either.ensures)
    c.greater-in-Either.ensures.left c.greater-in-Either.ensures.right)

pub width-returns-in_ok-other-in-Loop : goal.width-returns-in_ok-other-in-Loop
unfolding roll-Ways denote.Hole.Carrier.roll
width-returns-in_ok-other-in-Loop t c =
    let arm = c.in-Loop in
    let is = ap ways_seen arm.is ∙ fold-roll-Ways paths.Ways ways_step (Ways-F.Loop arm.test arm.body) in
    subst (λ w. Spans c.greater-in-Loop.result w) (sym is)
    (spans_loop (ways_seen arm.test) (ways_seen arm.body) c.in_ok-one-in-Loop.one c.in_ok-other-in-Loop.other c.greater-in-Loop.result
    (subst (λ (w : Ways). Spans c.in_ok-one-in-Loop.one (ways_seen w)) c.get-in-Loop.ensures c.in_ok-one-in-Loop.ensures)
    (subst (λ (w : Ways). Spans c.in_ok-other-in-Loop.other (ways_seen w)) c.get-in-Loop-2.ensures c.in_ok-other-in-Loop.ensures)
    c.greater-in-Loop.ensures.left c.greater-in-Loop.ensures.right)

pub width_of_all-loop-ways-preserved : goal.width_of_all-loop-ways-preserved
width_of_all-loop-ways-preserved t c = λ more le rest.
    let list = c.args.list.now in
    let i = c.loop-ways.ways-index in
    let x = c.ways-item.result in
    let left = next_left list i x (omega arith) c.ways-item.is in
    c.loop-ways.invariant more (omega (arith, le, c.greater-count.ensures.left))
    (subst (λ ws. Spans more (all_seen (map ways_seen ws))) (sym left)
    (spans_then (ways_seen x) (all_seen (map ways_seen (drop (i + 1) list))) c.in_ok-width.field-0 more more c.in_ok-width.ensures rest (omega (arith, le, c.greater-count.ensures.right)) (omega arith)))

pub width_of_all-returns : goal.width_of_all-returns
width_of_all-returns t c =
    let list = c.args.list.now in
    let i = c.loop-ways.ways-index in
    let count = c.loop-ways.count in
    c.loop-ways.invariant count (omega arith) (subst (λ ws. Spans count (all_seen (map ways_seen ws))) (sym (none_left list i (omega arith))) (spans_nothing count))
