use Rattle.std.proofs.Common.{◌≡◌, ◌≤◌, ◌++◌, arith, ap, length, map, reverse, sym, ◌∙◌}
use Rattle.mpl_mean.proofs.Lists.{none_left}
use Rattle.mpl_body_run.specs.Splitting.{split_by}
use Rattle.mpl_body_run.proofs.Pieces.{all_pieces, piece_item}
use Rattle.mpl_body_run.proofs.start_machine.slots_of.Goals as goal

pub returns : goal.returns
returns c =
    let counts = c.args.counts.now in
    let pieces = c.loop-count.pieces in
    let past : length counts ≤ c.loop-count.count-index = search (arith, c.loop-count.auto.count-index-end, c.loop-count-test.false) in
    let few : length pieces ≡ length counts = search (arith, c.loop-count.invariant.1, c.loop-count.auto.count-index-end, c.loop-count-test.false) in
    c.into_slots.ensures
    ∙ c.in_ok-arguments.ensures.taken
    ∙ all_pieces pieces (length counts) (split_by counts c.args.words.now) few
    (ap (λ rest. reverse pieces ++ map piece_item (split_by rest c.loop-count.rest.now)) (sym (none_left counts c.loop-count.count-index past)) ∙ c.loop-count.invariant.0)
