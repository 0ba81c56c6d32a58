use Rattle.std.proofs.Common.{◌≡◌, ◌++◌, drop, length, map, reverse}
use Rattle.mpl_body_run.specs.Splitting.{split_by}
use Rattle.mpl_body_run.proofs.Pieces.{piece_item}
use Rattle.mpl_body_run.proofs.start_machine.slots_of.Given as goal

abbrev pub invariant-loop-count : goal.invariant-loop-count
invariant-loop-count l =
    (reverse l.pieces ++ map piece_item (split_by (drop l.count-index l.counts) l.rest) ≡ map piece_item (split_by l.counts l.words)) × (length l.pieces ≡ l.count-index)
