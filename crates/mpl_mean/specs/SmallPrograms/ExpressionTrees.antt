-- Words to write the trees of expressions and calls by hand. Lines stand where the meaning asks for them; spans and
-- numbers of nodes don't count.
use Prim.Native.String.{String}
use Rattle.std.specs.Prelude.{ℕ, List, codes, pos}
use Rattle.mpl_ast.specs.declared.expression.Conjunction.{Conjunction, roll-Conjunction}
use Rattle.mpl_ast.specs.declared.expression.Equality.{Equality, roll-Equality}
use Rattle.mpl_ast.specs.declared.expression.Expression.{Expression, roll-Expression}
use Rattle.mpl_ast.specs.declared.expression.Place.{Place, roll-Place}
use Rattle.mpl_ast.specs.declared.expression.Primary.{Primary, roll-Primary}
use Rattle.mpl_ast.specs.declared.expression.Relation.{Relation, roll-Relation}
use Rattle.mpl_ast.specs.declared.expression.Sum.{Sum, roll-Sum}
use Rattle.mpl_ast.specs.declared.expression.Term.{Term, roll-Term}
use Rattle.mpl_ast.specs.declared.expression.Unary.{Unary, roll-Unary}
use Rattle.mpl_ast.specs.declared.expression.Conjunction.TheOpen.{Conjunction-F, Equality-F, Expression-F, Place-F, Primary-F, Relation-F, Sum-F, Term-F, Unary-F}
use Rattle.mpl_ast.specs.declared.expression.EqualityOperator.TheVariants.{Equal}
use Rattle.mpl_ast.specs.declared.expression.RelationOperator.TheVariants.{Less}
use Rattle.mpl_ast.specs.declared.expression.SumOperator.TheVariants.{Plus, Minus}
use Rattle.mpl_ast.specs.declared.expression.Target.TheVariants as target
use Rattle.mpl_ast.specs.declared.expression.TermOperator.TheVariants.{Times, Over, Modulo}
use Rattle.mpl_ast.specs.declared.expression.UnaryOperator.TheVariants.{Not}
use Rattle.mpl_ast.specs.declared.flow.Call.{Call, roll-Call}
use Rattle.mpl_ast.specs.declared.flow.Flow.{Flow, roll-Flow}
use Rattle.mpl_ast.specs.declared.flow.Call.TheOpen.{Call-F, Flow-F}
use Rattle.mpl_ast.specs.declared.place.At.{At}
use Rattle.mpl_ast.specs.declared.place.Name.{Name}

abbrev pub at : ℕ → At
at line = record { span = record { from = 0; to = 0 }; line = line; id = 0 }

abbrev pub name : String → Name
name text = record { from = 0; text = codes text }

-- ---- primary expressions

abbrev pub number : ℕ → Primary
number n = roll-Primary (Primary-F.Number (at 1) (pos n))

abbrev pub true : Primary
true = roll-Primary (Primary-F.True (at 1))

abbrev pub false : Primary
false = roll-Primary (Primary-F.False (at 1))

abbrev pub input : ℕ → Primary
input line = roll-Primary (Primary-F.Input (at line))

abbrev pub whole : String → Place
whole x = roll-Place (Place-F.Whole (at 1) (target.Variable (at 1) (name x)))

abbrev pub element : ℕ → String → Expression → Place
element line x index = roll-Place (Place-F.Element (at line) line (target.Variable (at line) (name x)) index)

-- an element of a field
abbrev pub field_element : ℕ → String → String → Expression → Place
field_element line x field index = roll-Place (Place-F.Element (at line) line (target.Field (at line) (name x) (name field)) index)

abbrev pub place : Place → Primary
place p = roll-Primary (Primary-F.Read (at 1) p)

abbrev pub variable : String → Primary
variable x = place (whole x)

abbrev pub call_plain : String → List Expression → Primary
call_plain f arguments = roll-Primary (Primary-F.CallPlain (at 1) (name f) arguments)

abbrev pub parenthesized : Expression → Primary
parenthesized e = roll-Primary (Primary-F.Parenthesized (at 1) e)

-- ---- operators

abbrev unary : Primary → Unary
unary p = roll-Unary (Unary-F.OnePrimary (at 1) p)

abbrev pub term : Primary → Term
term p = roll-Term (Term-F.OneUnary (at 1) (unary p))

abbrev pub times : ℕ → Term → Primary → Term
times line left right = roll-Term (Term-F.Multiply (at line) line left Times (unary right))

abbrev pub over : ℕ → Term → Primary → Term
over line left right = roll-Term (Term-F.Multiply (at line) line left Over (unary right))

abbrev pub modulo : ℕ → Term → Primary → Term
modulo line left right = roll-Term (Term-F.Multiply (at line) line left Modulo (unary right))

abbrev pub sum_of : Term → Sum
sum_of t = roll-Sum (Sum-F.OneTerm (at 1) t)

abbrev pub sum : Primary → Sum
sum p = sum_of (term p)

abbrev pub plus : ℕ → Sum → Term → Sum
plus line left right = roll-Sum (Sum-F.Add (at line) line left Plus right)

abbrev pub minus : ℕ → Sum → Term → Sum
minus line left right = roll-Sum (Sum-F.Add (at line) line left Minus right)

abbrev relation_of : Sum → Relation
relation_of s = roll-Relation (Relation-F.OneSum (at 1) s)

abbrev equality_of : Relation → Equality
equality_of r = roll-Equality (Equality-F.OneRelation (at 1) r)

abbrev conjunction_of : Equality → Conjunction
conjunction_of e = roll-Conjunction (Conjunction-F.OneEquality (at 1) e)

abbrev conjoined : Conjunction → Expression
conjoined c = roll-Expression (Expression-F.OneConjunction (at 1) c)

abbrev expression_of : Relation → Expression
expression_of r = conjoined (conjunction_of (equality_of r))

abbrev pub not : Primary → Expression
not p = expression_of (relation_of (sum_of (roll-Term (Term-F.OneUnary (at 1) (roll-Unary (Unary-F.Apply (at 1) 1 Not (unary p)))))))

-- a whole expression that is a sum, a product or a primary expression
abbrev pub summed : Sum → Expression
summed s = expression_of (relation_of s)

abbrev pub multiplied : Term → Expression
multiplied t = summed (sum_of t)

abbrev pub only : Primary → Expression
only p = multiplied (term p)

abbrev pub less : ℕ → Sum → Sum → Expression
less line left right = expression_of (roll-Relation (Relation-F.Compare (at line) line (relation_of left) Less right))

-- a primary expression and an equation, joined
abbrev equation : ℕ → Sum → Sum → Equality
equation line left right = roll-Equality (Equality-F.Equate (at line) line (equality_of (relation_of left)) Equal (relation_of right))

abbrev pub and_equal : ℕ → Primary → Sum → Sum → Expression
and_equal line p left right = conjoined (roll-Conjunction (Conjunction-F.And (at line) line (conjunction_of (equality_of (relation_of (sum p)))) (equation line left right)))

abbrev pub or_equal : ℕ → Primary → Sum → Sum → Expression
or_equal line p left right = roll-Expression (Expression-F.Or (at line) line (only p) (conjunction_of (equation line left right)))

-- ---- flows and calls

abbrev pub flow : Expression → Flow
flow e = roll-Flow (Flow-F.OfExpression (at 1) e)

abbrev pub call : ℕ → String → String → List Flow → Call
call line receiver member arguments = roll-Call (Call-F.OnTarget (at line) (target.Variable (at line) (name receiver)) (name member) arguments)

abbrev pub result : Call → Flow
result c = roll-Flow (Flow-F.OfCall (at 1) c)
