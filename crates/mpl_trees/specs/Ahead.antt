-- The operators that stand ahead at each level. The levels are counted from the one that binds most.
use Rattle.std.specs.Prelude.{ℕ, zero, suc, ◌+◌, ◌==◌, List, [], ◌∷◌, nat_le, Option, Some, None, if◌then◌else◌}
use Rattle.mpl_ast.specs.declared.token.Mark.{Mark}
use Rattle.mpl_ast.specs.declared.token.Mark.TheVariants as m
use Rattle.mpl_ast.specs.declared.token.Token.{Token}
use Rattle.mpl_ast.specs.declared.token.TokenKind.{TokenKind}
use Rattle.mpl_ast.specs.declared.token.TokenKind.TheVariants as kind
use Rattle.mpl_trees.specs.declared.position.Position.{Position}
use Rattle.mpl_trees.specs.declared.position.Position.TheVariants.{Before, Behind, Within}

-- the level of an operator between operands
abbrev pub level_of : Mark → Option ℕ
level_of m.Star = Some 0
level_of m.Slash = Some 0
level_of m.Percent = Some 0
level_of m.Plus = Some 1
level_of m.Minus = Some 1
level_of m.Less = Some 2
level_of m.Greater = Some 2
level_of m.LessEqual = Some 2
level_of m.GreaterEqual = Some 2
level_of m.EqualEqual = Some 3
level_of m.NotEqual = Some 3
level_of m.AndAnd = Some 4
level_of m.OrOr = Some 5
level_of _ = None

-- so many of a level, where this operator stands before so many: one of a higher level ends them
abbrev pub tally : ℕ → Option ℕ → ℕ → ℕ
tally level None more = 0
tally level (Some l) more = if l == level then suc more else (if nat_le l level then more else 0)

abbrev pub opened : Position → Position
opened Before = Within 0
opened Behind = Within 0
opened (Within n) = Within (suc n)

-- what a closing bracket leads to; it ends an expression that is in none
abbrev pub counted_close : Position → (Position → ℕ) → ℕ
counted_close Before go = 0
counted_close Behind go = 0
counted_close (Within zero) go = go Behind
counted_close (Within (suc n)) go = go (Within n)

-- any other mark: before an operand it is an operator of its own, and behind one it is between two or ends the expression
abbrev pub counted_mark : ℕ → Option ℕ → Position → (Position → ℕ) → ℕ
counted_mark level l Before go = go Before
counted_mark level l Behind go = tally level l (go Before)
counted_mark level l (Within n) go = go (Within n)

-- a word of an operand
abbrev pub counted_word : Position → (Position → ℕ) → ℕ
counted_word Before go = go Behind
counted_word Behind go = go Behind
counted_word (Within n) go = go (Within n)

abbrev pub counted : ℕ → TokenKind → Position → (Position → ℕ) → ℕ
counted level (kind.Name text) p go = counted_word p go
counted level (kind.Number value) p go = counted_word p go
counted level (kind.Keyword k) p go = counted_word p go
counted level (kind.Mark m.OpenParenthesis) p go = go (opened p)
counted level (kind.Mark m.OpenBracket) p go = go (opened p)
counted level (kind.Mark m.CloseParenthesis) p go = counted_close p go
counted level (kind.Mark m.CloseBracket) p go = counted_close p go
counted level (kind.Mark m.Dot) p go = counted_word p go
counted level (kind.Mark o) p go = counted_mark level (level_of o) p go

-- how many operators of a level come, up to one of a higher level or the expression's end
abbrev pub count : ℕ → Position → List Token → ℕ
count level p [] = 0
count level p (t ∷ ts) = counted level t.kind p (λ q. count level q ts)

-- the nodes that begin with an operand, of the levels below
abbrev pub lead : ℕ → List Token → ℕ
lead zero ts = 0
lead (suc level) ts = lead level ts + (count level Before ts + 1)
