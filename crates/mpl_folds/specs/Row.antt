-- What the functions that fold a row of operands say of their answers.
use Rattle.std.specs.Prelude.{◌≡◌, ℕ, List, [], ◌∷◌, slice_get, Option, Some, None, Result, Ok, Err}
use Rattle.std.specs.Option.{option_and_then}
use Rattle.mpl_ast.specs.declared.expression.Expression.{Expression}
use Rattle.mpl_trees.specs.Folds as folds
use Rattle.mpl_trees.specs.Folds.{Folds, sign_level}
use Rattle.mpl_trees.specs.Taking.{Takes, inner}
use Rattle.mpl_mean.specs.Text.Reading.{Rest}
use Rattle.mpl_trees.specs.declared.piece.Piece.{Piece}
use Rattle.mpl_trees.specs.declared.piece.Start.{Start}
use Rattle.mpl_reader.specs.Reader.{most_number}
use Rattle.mpl_folds.specs.declared.fold.Opening.{Opening}
use Rattle.mpl_folds.specs.declared.fold.Row.{Row}
use Rattle.mpl_reader.specs.declared.stop.Stop.{Stop}
use Rattle.mpl_reader.specs.declared.stop.Stop.TheVariants.{Stuck}

abbrev pub row_of : Row → folds.Row
row_of r = record { pieces = r.pieces.items; last = r.last }

-- What was folded is the answer.
abbrev pub Folded : {A : Type 0} → Option (A × folds.Row) → Result A Stop → folds.Row → Type 0
Folded folded (Ok tree) after = folded ≡ Some (tree, after)
Folded folded (Err e) after = e ≡ Stuck → folded ≡ None

-- the same of a whole row
abbrev pub Whole : Option Expression → Result Expression Stop → Type 0
Whole folded (Ok tree) = folded ≡ Some tree
Whole folded (Err e) = e ≡ Stuck → folded ≡ None

abbrev pub IsInner : Start → Result Start Stop → Type 0
IsInner start (Ok within) = inner most_number start ≡ Some within
IsInner start (Err e) = inner most_number start ≡ None

-- what stands before the first operand
abbrev pub IsOpening : List Piece → Option Opening → Type 0
IsOpening [] (Some j) = ⊥
IsOpening (p ∷ ps) (Some j) = (p.sign ≡ Some j.sign) × (p.start ≡ j.start)
IsOpening [] None = Unit {0}
IsOpening (p ∷ ps) None = p.sign ≡ None

abbrev pub level_of_piece : Option Piece → Option ℕ
level_of_piece None = None
level_of_piece (Some p) = sign_level p.sign

-- the level of the operator before an operand
abbrev pub level_at : List Piece → ℕ → Option ℕ
level_at pieces at = level_of_piece (slice_get pieces at)

-- operands in a row were taken
abbrev pub TookRow : Takes (List Piece) → Rest → Result Row Stop → Rest → Type 0
TookRow take before (Ok row) after = take most_number before ≡ Some (row.pieces.items, after)
TookRow take before (Err e) after = e ≡ Stuck → take most_number before ≡ None
