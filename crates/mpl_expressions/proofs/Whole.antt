-- An expression is the row of its operands, folded.
use Rattle.std.proofs.Common.{◌≡◌, ℕ, false, List, [], ◌∷◌, length, Option, Some, None, Result, Ok, Err, ◌∙◌, refl, subst}
use Rattle.std.specs.Option.{is_some}
use Rattle.mpl_ast.specs.declared.expression.Expression.{Expression}
use Rattle.mpl_ast.specs.declared.expression.Unary.{Unary}
use Rattle.mpl_mean.specs.Text.Reading.{Rest}
use Rattle.mpl_trees.specs.Expressions.{expression_of}
use Rattle.mpl_trees.specs.Folds.{whole_row}
use Rattle.mpl_trees.specs.Rows.{Joint, take_joint, take_piece, take_pieces}
use Rattle.mpl_trees.specs.Taking.{Takes, start_of}
use Rattle.mpl_trees.specs.declared.piece.Piece.{Piece}
use Rattle.mpl_trees.specs.declared.piece.Start.{Start}
use Rattle.mpl_reader.specs.Reader.{Took, most_number}
use Rattle.mpl_reader.specs.declared.stop.Stop.{Stop}
use Rattle.mpl_folds.specs.Row.{Whole}
use Rattle.mpl_expressions.proofs.Turns.{first-piece, last-piece}

none_of : (o : Option Joint) → is_some o ≡ false → o ≡ None
none_of None h = refl
none_of (Some j) h = absurd cc

-- no operator behind the first operand
pub lone_row : (unary : Takes Unary) (limit : ℕ) (r : Rest) {x : Piece} {s : Rest} → take_piece unary 6 None limit r ≡ Some (x, s) → is_some (take_joint s) ≡ false → take_pieces unary limit r ≡ Some (x ∷ [], s)
lone_row unary limit r {x = x} {s = s} e h = first-piece unary limit r e ∙ last-piece unary limit (length r.tokens) (x ∷ []) s (none_of (take_joint s) h)

took_here : (unary : Takes Unary) (r s : Rest) (row : List Piece) (answer : Result Expression Stop) → take_pieces unary most_number r ≡ Some (row, s)
    → Whole (whole_row most_number (start_of r) row) answer → Took (expression_of unary) r answer s
took_here unary r s row (Ok tree) e h = rw (e, h) refl
took_here unary r s row (Err why) e h = λ stuck. let k = h stuck in rw (e, k) refl

pub took_row : (unary : Takes Unary) (r s : Rest) (row : List Piece) (start : Start) (answer : Result Expression Stop) → take_pieces unary most_number r ≡ Some (row, s) → start ≡ start_of r
    → Whole (whole_row most_number start row) answer → Took (expression_of unary) r answer s
took_row unary r s row start answer e same h = took_here unary r s row answer e (subst (λ z. Whole (whole_row most_number z row) answer) same h)
