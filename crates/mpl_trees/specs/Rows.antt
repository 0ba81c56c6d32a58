-- Operands with operators between them, in a row.
use Rattle.std.specs.Prelude.{ℕ, zero, suc, ◌+◌, List, [], ◌∷◌, length, Option, Some, None}
use Rattle.std.specs.Option.{option_and_then, option_map}
use Rattle.mpl_ast.specs.declared.expression.Unary.{Unary}
use Rattle.mpl_ast.specs.declared.token.Token.{Token}
use Rattle.mpl_ast.specs.declared.token.TokenKind.{TokenKind}
use Rattle.mpl_ast.specs.declared.token.TokenKind.TheVariants as kind
use Rattle.mpl_mean.specs.Text.Reading.{Rest}
use Rattle.mpl_trees.specs.Ahead.{lead, level_of}
use Rattle.mpl_trees.specs.Taking.{Takes, both, fitting, past, start_of}
use Rattle.mpl_trees.specs.declared.piece.Piece.{Piece}
use Rattle.mpl_trees.specs.declared.piece.Sign.{Sign}

-- behind the numbers of the nodes of lower levels that begin here
abbrev pub reserved : ℕ → Rest → Rest
reserved level r = record r { next = r.next + lead level r.tokens }

abbrev pub take_piece : Takes Unary → ℕ → Option Sign → Takes Piece
take_piece unary level sign limit r =
    option_map (λ p. (record { sign = sign; start = start_of r; unary = p.0; to = p.1.last }, p.1)) (option_and_then (unary limit) (fitting limit (reserved level r)))

-- an operator that comes first, with its level
pub record Joint : Type 0 where
  pub sign : Sign
  pub level : ℕ
  pub rest : Rest

abbrev pub joint_of : TokenKind → Token → List Token → ℕ → Option Joint
joint_of (kind.Name text) t ts next = None
joint_of (kind.Number value) t ts next = None
joint_of (kind.Keyword k) t ts next = None
joint_of (kind.Mark o) t ts next = option_map (λ level. record { sign = record { line = t.line; mark = o }; level = level; rest = past t ts next }) (level_of o)

abbrev pub joint_from : List Token → ℕ → Option Joint
joint_from [] next = None
joint_from (t ∷ ts) next = joint_of t.kind t ts next

abbrev pub take_joint : Rest → Option Joint
take_joint r = joint_from r.tokens r.next

-- a piece behind each operator, at most so many
abbrev pub piece_behind : Takes Unary → Takes (List Piece) → Option Joint → Takes (List Piece)
piece_behind unary more None limit r = Some ([], r)
piece_behind unary more (Some j) limit r = both ◌∷◌ (take_piece unary j.level (Some j.sign)) more limit j.rest

abbrev pub more_pieces : Takes Unary → ℕ → Takes (List Piece)
more_pieces unary zero limit r = Some ([], r)
more_pieces unary (suc n) limit r = piece_behind unary (more_pieces unary n) (take_joint r) limit r

abbrev pub take_pieces : Takes Unary → Takes (List Piece)
take_pieces unary limit r = both ◌∷◌ (take_piece unary 6 None) (more_pieces unary (length r.tokens)) limit r
