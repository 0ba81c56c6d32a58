-- To unfold `open_trees` is to open every node: what `out` gives of a tree that is written with `roll` is its layer.
use Rattle.mpl_ast.specs.declared.expression.Conjunction.{out-Conjunction, roll-Conjunction}
use Rattle.mpl_ast.specs.declared.expression.Equality.{out-Equality, roll-Equality}
use Rattle.mpl_ast.specs.declared.expression.Expression.{out-Expression, roll-Expression}
use Rattle.mpl_ast.specs.declared.expression.Place.{out-Place, roll-Place}
use Rattle.mpl_ast.specs.declared.expression.Primary.{out-Primary, roll-Primary}
use Rattle.mpl_ast.specs.declared.expression.Relation.{out-Relation, roll-Relation}
use Rattle.mpl_ast.specs.declared.expression.Sum.{out-Sum, roll-Sum}
use Rattle.mpl_ast.specs.declared.expression.Term.{out-Term, roll-Term}
use Rattle.mpl_ast.specs.declared.expression.Unary.{out-Unary, roll-Unary}
use Rattle.mpl_ast.specs.declared.expression.Conjunction.TheBlock.{shown-the_row-Conjunction-0, hidden-the_row-Conjunction-0, shown-the_row-Equality-1, hidden-the_row-Equality-1, shown-the_row-Expression-3, hidden-the_row-Expression-3, shown-the_row-Expression-5, hidden-the_row-Expression-5, shown-the_row-Place-4, hidden-the_row-Place-4, shown-the_row-Relation-2, hidden-the_row-Relation-2, shown-the_row-Sum-6, hidden-the_row-Sum-6, shown-the_row-Term-7, hidden-the_row-Term-7, shown-the_row-Unary-8, hidden-the_row-Unary-8}
use Rattle.mpl_ast.specs.declared.flow.Call.{out-Call, roll-Call}
use Rattle.mpl_ast.specs.declared.flow.Flow.{out-Flow, roll-Flow}
use Rattle.mpl_ast.specs.declared.flow.Call.TheBlock.{shown-the_row-Flow-0, hidden-the_row-Flow-0, shown-the_row-Call-1, hidden-the_row-Call-1}
use Rattle.mpl_ast.specs.declared.statement.Statement.{out-Statement, roll-Statement}
use Rattle.mpl_ast.specs.declared.statement.Statement.TheBlock.{shown-the_row-Statement-0, hidden-the_row-Statement-0, shown-the_row-Statement-1, hidden-the_row-Statement-1}

-- the layers
unfoldable open_layers : Unit {0}
unfolding out-Conjunction roll-Conjunction out-Equality roll-Equality out-Expression roll-Expression out-Place roll-Place out-Primary roll-Primary out-Relation roll-Relation out-Sum roll-Sum out-Term roll-Term out-Unary roll-Unary out-Call roll-Call out-Flow roll-Flow out-Statement roll-Statement denote.Hole.Carrier.out denote.Hole.Carrier.roll
open_layers = tt

-- the boxes and lists in them
unfoldable open_expressions : Unit {0}
unfolding shown-the_row-Conjunction-0 hidden-the_row-Conjunction-0 shown-the_row-Equality-1 hidden-the_row-Equality-1 shown-the_row-Expression-3 hidden-the_row-Expression-3 shown-the_row-Expression-5 hidden-the_row-Expression-5 shown-the_row-Place-4 hidden-the_row-Place-4 shown-the_row-Relation-2 hidden-the_row-Relation-2 shown-the_row-Sum-6 hidden-the_row-Sum-6 shown-the_row-Term-7 hidden-the_row-Term-7 shown-the_row-Unary-8 hidden-the_row-Unary-8 denote.Hole.Carrier.shown denote.Hole.Carrier.hidden
open_expressions = tt

unfoldable open_calls : Unit {0}
unfolding shown-the_row-Flow-0 hidden-the_row-Flow-0 shown-the_row-Call-1 hidden-the_row-Call-1 denote.Hole.Carrier.shown denote.Hole.Carrier.hidden
open_calls = tt

unfoldable open_statements : Unit {0}
unfolding shown-the_row-Statement-0 hidden-the_row-Statement-0 shown-the_row-Statement-1 hidden-the_row-Statement-1 denote.Hole.Carrier.shown denote.Hole.Carrier.hidden
open_statements = tt

unfoldable pub open_trees : Unit {0}
unfolding open_layers open_expressions open_calls open_statements
open_trees = tt
