-- A row of operands folded into an expression, one level of operators in the other.
use Rattle.std.specs.Prelude.{ℕ, zero, suc, List, [], ◌∷◌, Option, Some, None}
use Rattle.std.specs.Option.{option_and_then, option_map}
use Rattle.mpl_ast.specs.declared.expression.Conjunction.{Conjunction, roll-Conjunction}
use Rattle.mpl_ast.specs.declared.expression.Equality.{Equality, roll-Equality}
use Rattle.mpl_ast.specs.declared.expression.EqualityOperator.{EqualityOperator}
use Rattle.mpl_ast.specs.declared.expression.EqualityOperator.TheVariants.{Equal, Unequal}
use Rattle.mpl_ast.specs.declared.expression.Expression.{Expression, roll-Expression}
use Rattle.mpl_ast.specs.declared.expression.Relation.{Relation, roll-Relation}
use Rattle.mpl_ast.specs.declared.expression.RelationOperator.{RelationOperator}
use Rattle.mpl_ast.specs.declared.expression.RelationOperator.TheVariants as relation
use Rattle.mpl_ast.specs.declared.expression.Sum.{Sum, roll-Sum}
use Rattle.mpl_ast.specs.declared.expression.SumOperator.{SumOperator}
use Rattle.mpl_ast.specs.declared.expression.SumOperator.TheVariants as sum
use Rattle.mpl_ast.specs.declared.expression.Term.{Term, roll-Term}
use Rattle.mpl_ast.specs.declared.expression.TermOperator.{TermOperator}
use Rattle.mpl_ast.specs.declared.expression.TermOperator.TheVariants as term
use Rattle.mpl_ast.specs.declared.expression.Unary.{Unary}
use Rattle.mpl_ast.specs.declared.expression.Conjunction.TheOpen.{Conjunction-F, Equality-F, Expression-F, Relation-F, Sum-F, Term-F}
use Rattle.mpl_ast.specs.declared.place.At.{At}
use Rattle.mpl_ast.specs.declared.token.Mark.{Mark}
use Rattle.mpl_ast.specs.declared.token.Mark.TheVariants as m
use Rattle.mpl_trees.specs.Ahead.{level_of, tally}
use Rattle.mpl_trees.specs.Taking.{inner, place}
use Rattle.mpl_trees.specs.declared.piece.Piece.{Piece}
use Rattle.mpl_trees.specs.declared.piece.Sign.{Sign}
use Rattle.mpl_trees.specs.declared.piece.Sole.{Sole}
use Rattle.mpl_trees.specs.declared.piece.Sole.TheVariants.{TheOperator}
use Rattle.mpl_trees.specs.declared.piece.Start.{Start}

-- what is left of a row, and where its last operand that was taken ends
pub record Row : Type 0 where
  pub pieces : List Piece
  pub last : ℕ

-- from the front of a row, where a node begins there, with numbers of nodes up to a limit
abbrev pub Folds : Type 0 → Type 0
Folds A = ℕ → Start → Row → Option (A × Row)

-- ---- operators that are left

abbrev pub sign_level : Option Sign → Option ℕ
sign_level None = None
sign_level (Some s) = level_of s.mark

abbrev pub count_pieces : ℕ → List Piece → ℕ
count_pieces level [] = 0
count_pieces level (p ∷ ps) = tally level (sign_level p.sign) (count_pieces level ps)

-- those behind the first operand
abbrev pub operators_in : ℕ → List Piece → ℕ
operators_in level [] = 0
operators_in level (p ∷ ps) = count_pieces level ps

-- ---- a level

-- how its trees are made, from one part of the next level or two with an operator between them
pub record Grade (C T O : Type 0) : Type 0 where
  pub one : At → C → T
  pub more : At → ℕ → T → O → C → T
  pub operator : Mark → Option O

abbrev pub one_of : {C T O : Type 0} → Grade C T O → Start → Option (C × Row) → Option (T × Row)
one_of g s part = option_map (λ p. (g.one (place s p.1.last) p.0, p.1)) part

abbrev pub joined_to : {C T O : Type 0} → Grade C T O → Folds C → ℕ → Start → T → Piece → Sign → Row → Option (T × Row)
joined_to g part limit s left p sign row =
    option_and_then (λ o. option_map (λ q. (g.more (place s q.1.last) sign.line left o q.0, q.1)) (part limit p.start row)) (g.operator sign.mark)

abbrev pub joined_at : {C T O : Type 0} → Grade C T O → Folds C → ℕ → Start → T → Piece → Option Sign → Row → Option (T × Row)
joined_at g part limit s left p None row = None
joined_at g part limit s left p (Some sign) row = joined_to g part limit s left p sign row

abbrev pub joined_on : {C T O : Type 0} → Grade C T O → Folds C → ℕ → Start → T → List Piece → Row → Option (T × Row)
joined_on g part limit s left [] row = None
joined_on g part limit s left (p ∷ ps) row = joined_at g part limit s left p p.sign row

abbrev pub more_of : {C T O : Type 0} → Grade C T O → Folds C → ℕ → Start → Option (T × Row) → Option (T × Row)
more_of g part limit s left = option_and_then (λ p. joined_on g part limit s p.0 p.1.pieces p.1) left

-- so many operators of the level, where a node begins there
abbrev pub chain : {C T O : Type 0} → Grade C T O → Folds C → ℕ → Folds T
chain g part zero limit s row = one_of g s (option_and_then (λ i. part limit i row) (inner limit s))
chain g part (suc n) limit s row = more_of g part limit s (option_and_then (λ i. chain g part n limit i row) (inner limit s))

-- all of the level that come
abbrev pub chained : {C T O : Type 0} → ℕ → Grade C T O → Folds C → Folds T
chained level g part limit s row = chain g part (operators_in level row.pieces) limit s row

-- ---- the levels

abbrev pub term_operator : Mark → Option TermOperator
term_operator m.Star = Some term.Times
term_operator m.Slash = Some term.Over
term_operator m.Percent = Some term.Modulo
term_operator _ = None

abbrev pub sum_operator : Mark → Option SumOperator
sum_operator m.Plus = Some sum.Plus
sum_operator m.Minus = Some sum.Minus
sum_operator _ = None

abbrev pub relation_operator : Mark → Option RelationOperator
relation_operator m.Less = Some relation.Less
relation_operator m.LessEqual = Some relation.LessEqual
relation_operator m.Greater = Some relation.Greater
relation_operator m.GreaterEqual = Some relation.GreaterEqual
relation_operator _ = None

abbrev pub equality_operator : Mark → Option EqualityOperator
equality_operator m.EqualEqual = Some Equal
equality_operator m.NotEqual = Some Unequal
equality_operator _ = None

abbrev pub and_operator : Mark → Option Sole
and_operator m.AndAnd = Some TheOperator
and_operator _ = None

abbrev pub or_operator : Mark → Option Sole
or_operator m.OrOr = Some TheOperator
or_operator _ = None

abbrev pub terms : Grade Unary Term TermOperator
terms = record {
  one = λ at u. roll-Term (Term-F.OneUnary at u);
  more = λ at line l o r. roll-Term (Term-F.Multiply at line l o r);
  operator = term_operator;
}

abbrev pub sums : Grade Term Sum SumOperator
sums = record {
  one = λ at t. roll-Sum (Sum-F.OneTerm at t);
  more = λ at line l o r. roll-Sum (Sum-F.Add at line l o r);
  operator = sum_operator;
}

abbrev pub relations : Grade Sum Relation RelationOperator
relations = record {
  one = λ at t. roll-Relation (Relation-F.OneSum at t);
  more = λ at line l o r. roll-Relation (Relation-F.Compare at line l o r);
  operator = relation_operator;
}

abbrev pub equalities : Grade Relation Equality EqualityOperator
equalities = record {
  one = λ at t. roll-Equality (Equality-F.OneRelation at t);
  more = λ at line l o r. roll-Equality (Equality-F.Equate at line l o r);
  operator = equality_operator;
}

abbrev pub conjunctions : Grade Equality Conjunction Sole
conjunctions = record {
  one = λ at t. roll-Conjunction (Conjunction-F.OneEquality at t);
  more = λ at line l o r. roll-Conjunction (Conjunction-F.And at line l r);
  operator = and_operator;
}

abbrev pub expressions : Grade Conjunction Expression Sole
expressions = record {
  one = λ at t. roll-Expression (Expression-F.OneConjunction at t);
  more = λ at line l o r. roll-Expression (Expression-F.Or at line l r);
  operator = or_operator;
}

-- ---- one level in the other

abbrev pub first_unary : List Piece → Option (Unary × Row)
first_unary [] = None
first_unary (p ∷ ps) = Some (p.unary, record { pieces = ps; last = p.to })

abbrev pub next_unary : Folds Unary
next_unary limit s row = first_unary row.pieces

abbrev pub next_term : Folds Term
next_term = chained 0 terms next_unary

abbrev pub next_sum : Folds Sum
next_sum = chained 1 sums next_term

abbrev pub next_relation : Folds Relation
next_relation = chained 2 relations next_sum

abbrev pub next_equality : Folds Equality
next_equality = chained 3 equalities next_relation

abbrev pub next_conjunction : Folds Conjunction
next_conjunction = chained 4 conjunctions next_equality

abbrev pub next_expression : Folds Expression
next_expression = chained 5 expressions next_conjunction

abbrev pub whole_row : ℕ → Start → List Piece → Option Expression
whole_row limit s ps = option_map (λ p. p.0) (next_expression limit s (record { pieces = ps; last = 0 }))
