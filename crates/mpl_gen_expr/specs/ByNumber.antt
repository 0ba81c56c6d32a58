-- The code of a call by the number of its member.
use Rattle.std.specs.Prelude.{ℕ, Option, Some, None}
use Rattle.mdf_code.specs.declared.instr.Instr.TheVariants as instr
use Rattle.mpl_gen_code.specs.Pieces.{Piece, followed_by, joined, no_code, one}

abbrev pub own_by : Option ℕ → ℕ → Piece → Piece
own_by None count arguments = no_code
own_by (Some id) count arguments = joined (one instr.Own) (followed_by arguments (instr.Post id count))

abbrev pub send_by : Option ℕ → ℕ → Piece → Piece
send_by None count arguments = no_code
send_by (Some id) count arguments = followed_by arguments (instr.Send id count)

abbrev pub post_by : Option ℕ → ℕ → Piece → Piece
post_by None count arguments = no_code
post_by (Some id) count arguments = followed_by arguments (instr.Post id count)
