-- Pieces that are left, from a place on.
use Rattle.std.proofs.Common.{◌≡◌, ℕ, zero, suc, ◌+◌, ◌<◌, List, [], ◌∷◌, Some, drop, refl, arith, add-one}
use Rattle.std.proofs.lemmas.Bool.Decides.{nat_tests}
use Rattle.mpl_trees.specs.Ahead.{tally}
use Rattle.mpl_trees.specs.Folds.{count_pieces}
use Rattle.mpl_trees.specs.declared.piece.Piece.{Piece}
use Rattle.mpl_folds.specs.Row.{level_at}

counted : (level : ℕ) (ps : List Piece) (i : ℕ) → count_pieces level (drop i ps) ≡ tally level (level_at ps i) (count_pieces level (drop (suc i) ps))
counted level [] zero = refl
counted level [] (suc i) = refl
counted level (p ∷ ps) zero = refl
counted level (p ∷ ps) (suc i) = counted level ps i

pub counted_at : (level : ℕ) (ps : List Piece) (i : ℕ) → count_pieces level (drop i ps) ≡ tally level (level_at ps i) (count_pieces level (drop (i + 1) ps))
counted_at level ps i = rw add-one (counted level ps i)

pub tally-here : (level l n : ℕ) → l ≡ level → tally level (Some l) n ≡ suc n
tally-here level l n h = grind (arith, nat_tests)

pub tally-below : (level l n : ℕ) → l < level → tally level (Some l) n ≡ n
tally-below level l n h = grind (arith, nat_tests)

pub tally-above : (level l n : ℕ) → level < l → tally level (Some l) n ≡ 0
tally-above level l n h = grind (arith, nat_tests)
