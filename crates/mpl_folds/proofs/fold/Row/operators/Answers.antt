use Rattle.std.proofs.Common.{◌≡◌, ℕ, ◌+◌, ◌<◌, Option, Some, None, drop, ap, sym, ◌∙◌, arith}
use Rattle.mpl_trees.specs.Ahead.{tally}
use Rattle.mpl_trees.specs.Folds.{count_pieces}
use Rattle.mpl_folds.proofs.Pieces.{counted_at, tally-above, tally-below, tally-here}
use Rattle.mpl_folds.proofs.fold.Row.operators.Goals as goal
use Rattle.mpl_folds.proofs.fold.Row.operators.Goals.{then-other-level-2, else-other-level-2}

pub returns-in_default : goal.returns-in_default
returns-in_default c =
    let ps = c.args.self.now.pieces.items in
    let rest = count_pieces c.args.level (drop (c.loop-at.at + 1) ps) in
    let e = counted_at c.args.level ps c.loop-at.at ∙ ap (λ (o : Option ℕ). tally c.args.level o rest) (sym c.level_at.ensures ∙ c.in_default.is) in
    omega (arith, c.loop-at.invariant.counted, e)

pub returns-then-other-level : goal.returns-then-other-level
returns-then-other-level c =
    let ps = c.args.self.now.pieces.items in
    let rest = count_pieces c.args.level (drop (c.loop-at.at + 1) ps) in
    let e = counted_at c.args.level ps c.loop-at.at ∙ ap (λ (o : Option ℕ). tally c.args.level o rest) (sym c.level_at.ensures ∙ c.in-Some.is) in
    omega (arith, c.loop-at.invariant.counted, e, tally-above c.args.level c.in-Some.other rest (omega arith))

pub loop-at-preserved : goal.loop-at-preserved
loop-at-preserved c =
    let ps = c.args.self.now.pieces.items in
    let rest = count_pieces c.args.level (drop (c.loop-at.at + 1) ps) in
    let e = counted_at c.args.level ps c.loop-at.at ∙ ap (λ (o : Option ℕ). tally c.args.level o rest) (sym c.level_at.ensures ∙ c.in-Some.is) in
    elim c.if-other-level-2.branch [
      | then-other-level-2 w ↦ record {
        counted = omega (arith, c.loop-at.invariant.counted, e, w.found-is, tally-here c.args.level c.in-Some.other rest w.if-other-level-2.true);
        few = omega (arith, w.found-is);
      }
      | else-other-level-2 w ↦ record {
        counted = omega (arith, c.loop-at.invariant.counted, e, w.found-is, tally-below c.args.level c.in-Some.other rest (omega (arith, w.if-other-level-2.false)));
        few = omega (arith, w.found-is);
      }
    ]
