-- The first form of programs: regular classes whose members give one expression, and `int main()` whose statements
-- declare variables of a class, keep results of calls, and print. An expression is of numbers and names, with `+`, `-`
-- and `*`.
use Rattle.std.specs.Prelude.{Bool, true, false, ◌&&◌, List, [], ◌∷◌, codes, Option, None, Some}
use Rattle.std.specs.List.{list_all}
use Rattle.std.specs.Str.{bytes_eq}
use Rattle.mpl_ast.specs.declared.class.Formal.{Formal}
use Rattle.mpl_ast.specs.declared.class.Formals.{Formals}
use Rattle.mpl_ast.specs.declared.class.Item.{Item}
use Rattle.mpl_ast.specs.declared.class.Item.TheVariants as item
use Rattle.mpl_ast.specs.declared.class.Kind.{Kind}
use Rattle.mpl_ast.specs.declared.class.Kind.TheVariants.{Regular, Persistent}
use Rattle.mpl_ast.specs.declared.class.ResultType.{ResultType}
use Rattle.mpl_ast.specs.declared.class.ResultType.TheVariants as result
use Rattle.mpl_ast.specs.declared.expression.Target.{Target}
use Rattle.mpl_ast.specs.declared.expression.Target.TheVariants as target
use Rattle.mpl_ast.specs.declared.flow.Call.{Call, fold-Call}
use Rattle.mpl_ast.specs.declared.flow.Flow.{Flow, fold-Flow, out-Flow}
use Rattle.mpl_ast.specs.declared.flow.Call.TheOpen.{Call-F, Flow-F}
use Rattle.mpl_ast.specs.declared.statement.Declarator.{Declarator}
use Rattle.mpl_ast.specs.declared.statement.Declarator.TheVariants as declarator
use Rattle.mpl_ast.specs.declared.expression.Expression.{Expression}
use Rattle.mpl_ast.specs.declared.expression.Conjunction.{Conjunction}
use Rattle.mpl_ast.specs.declared.expression.Equality.{Equality}
use Rattle.mpl_ast.specs.declared.expression.Relation.{Relation}
use Rattle.mpl_ast.specs.declared.expression.Sum.{Sum}
use Rattle.mpl_ast.specs.declared.expression.Term.{Term}
use Rattle.mpl_ast.specs.declared.expression.Unary.{Unary}
use Rattle.mpl_ast.specs.declared.expression.Primary.{Primary}
use Rattle.mpl_ast.specs.declared.expression.Place.{Place}
use Rattle.mpl_ast.specs.declared.expression.Conjunction.TheOpen.{Place-F, Primary-F}
use Rattle.mpl_ast.specs.declared.expression.TermOperator.{TermOperator}
use Rattle.mpl_ast.specs.declared.expression.TermOperator.TheVariants as term
use Rattle.mpl_ast.specs.declared.program.Declaration.{Declaration}
use Rattle.mpl_ast.specs.declared.program.Declaration.TheVariants as declaration
use Rattle.mpl_ast.specs.declared.program.Program.{Program}
use Rattle.mpl_ast.specs.declared.statement.Block.{Block-F}
use Rattle.mpl_ast.specs.declared.statement.Statement.{Statement, fold-Statement}
use Rattle.mpl_ast.specs.declared.statement.Statement.TheOpen.{Statement-F}
use Rattle.mpl_ast.specs.declared.statement.TypeName.{TypeName}
use Rattle.mpl_ast.specs.declared.statement.TypeName.TheVariants as type
use Rattle.mpl_mean.specs.Levels.{BinaryOperator, Or, And, Equate, Compare, Add, Multiply, Forms, expression_by, conjunction_by, equality_by, relation_by, sum_by, term_by, unary_by, primary_by, place_by}

abbrev pub is_product : TermOperator → Bool
is_product term.Times = true
is_product term.Over = false
is_product term.Modulo = false

-- a sum, or a product, of parts of the first form
abbrev pub is_first_binary : BinaryOperator → Bool → Bool → Bool
is_first_binary Or left right = false
is_first_binary And left right = false
is_first_binary (Equate operator) left right = false
is_first_binary (Compare operator) left right = false
is_first_binary (Add operator) left right = left && right
is_first_binary (Multiply operator) left right = left && is_product operator && right

abbrev pub primary_step : Primary-F Bool Bool Bool Bool Bool Bool Bool Bool Bool → Bool
primary_step (Primary-F.Number at value) = true
primary_step (Primary-F.True at) = false
primary_step (Primary-F.False at) = false
primary_step (Primary-F.Own at) = false
primary_step (Primary-F.Read at place) = place
primary_step (Primary-F.Input at) = false
primary_step (Primary-F.CallPlain at function arguments) = false
primary_step (Primary-F.Parenthesized at inner) = false

abbrev pub is_variable : Target → Bool
is_variable (target.Variable at variable) = true
is_variable (target.Field at variable field) = false

abbrev pub place_step : Place-F Bool Bool Bool Bool Bool Bool Bool Bool Bool → Bool
place_step (Place-F.Whole at target) = is_variable target
place_step (Place-F.Element at line target index) = false

abbrev pub is_first_of_forms : Forms Bool
is_first_of_forms = record {
  alone = λ at part. part;
  binary = λ at line. is_first_binary;
  unary = λ at line operator operand. false;
  primary = primary_step;
  place = place_step;
}

abbrev pub is_first_expression : Expression → Bool
is_first_expression = expression_by is_first_of_forms

abbrev pub is_first_conjunction : Conjunction → Bool
is_first_conjunction = conjunction_by is_first_of_forms

abbrev pub is_first_equality : Equality → Bool
is_first_equality = equality_by is_first_of_forms

abbrev pub is_first_relation : Relation → Bool
is_first_relation = relation_by is_first_of_forms

abbrev pub is_first_sum : Sum → Bool
is_first_sum = sum_by is_first_of_forms

abbrev pub is_first_term : Term → Bool
is_first_term = term_by is_first_of_forms

abbrev pub is_first_unary : Unary → Bool
is_first_unary = unary_by is_first_of_forms

abbrev pub is_first_primary : Primary → Bool
is_first_primary = primary_by is_first_of_forms

abbrev pub is_first_place : Place → Bool
is_first_place = place_by is_first_of_forms

abbrev pub flow_step : Flow-F Bool Bool → Bool
flow_step (Flow-F.OfCall at call) = false
flow_step (Flow-F.OfExpression at expression) = is_first_expression expression

abbrev pub call_step : Call-F Bool Bool → Bool
call_step (Call-F.OnOwn at member arguments) = false
call_step (Call-F.OnTarget at target member arguments) = is_variable target && list_all (λ b. b) arguments

-- an expression, as an argument or as the operand of `rtf`
abbrev pub is_first_flow : Flow → Bool
is_first_flow = fold-Flow Bool Bool call_step flow_step

-- a call on a variable
abbrev pub is_first_call : Call → Bool
is_first_call = fold-Call Bool Bool call_step flow_step

abbrev pub is_int : TypeName → Bool
is_int (type.Int at) = true
is_int (type.Bool at) = false
is_int (type.Named at name) = false

abbrev pub is_named : TypeName → Bool
is_named (type.Int at) = false
is_named (type.Bool at) = false
is_named (type.Named at name) = true

abbrev pub is_call : Flow-F Call Flow → Bool
is_call (Flow-F.OfCall at call) = is_first_call call
is_call (Flow-F.OfExpression at expression) = false

-- `NAME NAME`, or `int NAME = NAME.NAME(..)`
abbrev pub is_first_declarator : TypeName → Declarator → Bool
is_first_declarator type (declarator.Plain at variable None) = is_named type
is_first_declarator type (declarator.Plain at variable (Some dimension)) = false
is_first_declarator type (declarator.Initialized at variable value) = is_int type && is_call (out-Flow value)

abbrev pub is_first_local : TypeName → List Declarator → Bool
is_first_local type [] = false
is_first_local type (one ∷ []) = is_first_declarator type one
is_first_local type (one ∷ two ∷ others) = false

abbrev pub statement_step : Statement-F Bool Bool → Bool
statement_step (Statement-F.OfBlock at block) = false
statement_step (Statement-F.Declare at local) = is_first_local local.type_name local.declarators
statement_step (Statement-F.Assign at assignment) = false
statement_step (Statement-F.CallAlone at call) = false
statement_step (Statement-F.Create at target) = false
statement_step (Statement-F.If at test then_part else_part) = false
statement_step (Statement-F.While at test body) = false
statement_step (Statement-F.For at head body) = false
statement_step (Statement-F.Print at arguments) = list_all is_first_expression arguments
statement_step (Statement-F.Rtf at value) = false
statement_step (Statement-F.Return at value) = false
statement_step (Statement-F.Empty at) = false

abbrev pub block_step : Block-F Bool Bool → Bool
block_step block = false

abbrev pub is_first_statement : Statement → Bool
is_first_statement = fold-Statement Bool Bool statement_step block_step

-- ---- classes

-- the one statement of a member
abbrev pub result_step : Statement-F Bool Bool → Bool
result_step (Statement-F.OfBlock at block) = false
result_step (Statement-F.Declare at local) = false
result_step (Statement-F.Assign at assignment) = false
result_step (Statement-F.CallAlone at call) = false
result_step (Statement-F.Create at target) = false
result_step (Statement-F.If at test then_part else_part) = false
result_step (Statement-F.While at test body) = false
result_step (Statement-F.For at head body) = false
result_step (Statement-F.Print at arguments) = false
result_step (Statement-F.Rtf at value) = is_first_flow value
result_step (Statement-F.Return at value) = false
result_step (Statement-F.Empty at) = false

abbrev pub gives_result : Statement → Bool
gives_result = fold-Statement Bool Bool result_step block_step

abbrev pub is_one_result : List Statement → Bool
is_one_result [] = false
is_one_result (one ∷ []) = gives_result one
is_one_result (one ∷ two ∷ others) = false

abbrev pub are_ints : Option Formals → Bool
are_ints None = true
are_ints (Some formals) = list_all (λ (formal : Formal). is_int formal.type_name) formals.list

abbrev pub is_int_result : ResultType → Bool
is_int_result (result.Void at) = false
is_int_result (result.Typed at type) = is_int type

abbrev pub is_first_item : Item → Bool
is_first_item (item.OfField at field) = false
is_first_item (item.Member at result member formals body) = is_int_result result && are_ints formals && is_one_result body.statements
is_first_item (item.Select at line entries) = false
is_first_item (item.Public at) = false
is_first_item (item.Private at) = false
is_first_item (item.Empty at) = false

abbrev pub is_regular : Kind → Bool
is_regular (Regular at) = true
is_regular (Persistent at) = false

abbrev pub is_class : Declaration → Bool
is_class (declaration.Struct at line struct fields) = false
is_class (declaration.Class at line kind class items) = is_regular kind && list_all is_first_item items
is_class (declaration.Function at result function formals body) = false

-- ---- programs

abbrev pub is_without_formals : Option Formals → Bool
is_without_formals None = true
is_without_formals (Some formals) = false

abbrev pub is_main : Declaration → Bool
is_main (declaration.Struct at line struct fields) = false
is_main (declaration.Class at line kind class items) = false
is_main (declaration.Function at result function formals body) =
    is_int result && bytes_eq function.text (codes "main") && is_without_formals formals && list_all is_first_statement body.statements

-- classes, and then `main`
abbrev pub are_first : List Declaration → Bool
are_first [] = false
are_first (d ∷ []) = is_main d
are_first (d ∷ e ∷ others) = is_class d && are_first (e ∷ others)

-- the program is of the first form
abbrev pub is_first_form : Program → Bool
is_first_form p = are_first p.declarations
