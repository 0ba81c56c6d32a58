-- The weight at each token of a program: how many constructs are open there. It is the sum of the brackets that are
-- open behind the token, the words `if`, `while`, `for` and `else` up to it whose statement has not ended before
-- it, and the operators up to it of expressions that have not ended before it. For an `if` the statement is the one
-- before its `else`, and an expression is a whole one, no operand of an operator.
use Rattle.std.specs.Prelude.{ℕ, ◌+◌, ◌-◌, Bool, List, [], ◌∷◌, ◌++◌, map, nat_le, Option, Some, None}
use Rattle.std.specs.Option.{option_map}
use Rattle.std.specs.List.{list_all}
use Rattle.mpl_ast.specs.declared.class.Entry.{Entry}
use Rattle.mpl_ast.specs.declared.class.Field.{Field}
use Rattle.mpl_ast.specs.declared.class.FieldName.{FieldName}
use Rattle.mpl_ast.specs.declared.class.Formal.{Formal}
use Rattle.mpl_ast.specs.declared.class.Formals.{Formals}
use Rattle.mpl_ast.specs.declared.class.Item.{Item}
use Rattle.mpl_ast.specs.declared.class.Item.TheVariants as item
use Rattle.mpl_ast.specs.declared.expression.Expression.{Expression}
use Rattle.mpl_ast.specs.declared.expression.Place.{Place}
use Rattle.mpl_ast.specs.declared.expression.Conjunction.TheOpen.{Place-F, Primary-F}
use Rattle.mpl_ast.specs.declared.expression.Target.{Target}
use Rattle.mpl_ast.specs.declared.expression.Target.TheVariants as target
use Rattle.mpl_ast.specs.declared.flow.Assignment.{Assignment}
use Rattle.mpl_ast.specs.declared.flow.Call.{Call, fold-Call}
use Rattle.mpl_ast.specs.declared.flow.Flow.{Flow, fold-Flow}
use Rattle.mpl_ast.specs.declared.flow.Call.TheOpen.{Call-F, Flow-F}
use Rattle.mpl_ast.specs.declared.program.Declaration.{Declaration}
use Rattle.mpl_ast.specs.declared.program.Declaration.TheVariants as declaration
use Rattle.mpl_ast.specs.declared.program.Program.{Program}
use Rattle.mpl_ast.specs.declared.statement.Block.{Block, Block-F}
use Rattle.mpl_ast.specs.declared.statement.Declarator.{Declarator}
use Rattle.mpl_ast.specs.declared.statement.Declarator.TheVariants.{Plain, Initialized}
use Rattle.mpl_ast.specs.declared.statement.Dimension.{Dimension}
use Rattle.mpl_ast.specs.declared.statement.ForHead.{ForHead}
use Rattle.mpl_ast.specs.declared.statement.ForStart.{ForStart}
use Rattle.mpl_ast.specs.declared.statement.ForStart.TheVariants.{Declare, Assign}
use Rattle.mpl_ast.specs.declared.statement.Local.{Local}
use Rattle.mpl_ast.specs.declared.statement.Statement.{Statement, fold-Statement}
use Rattle.mpl_ast.specs.declared.statement.Statement.TheOpen.{Statement-F}
use Rattle.mpl_mean.specs.Levels.{Forms, expression_by, place_by}
use Rattle.mpl_mean.specs.Limits.{most_weight}

-- the weights of some tokens in their order, and what still counts behind them, from what counts before them
pub record Weighed : Type 0 where
  pub weights : List ℕ
  pub after : ℕ

abbrev pub Weighs : Type 0
Weighs = ℕ → Weighed

abbrev pub no_token : Weighs
no_token w = record { weights = []; after = w }

infixr 10 ◌⨾◌
abbrev pub ◌⨾◌ : Weighs → Weighs → Weighs
(a ⨾ b) w = record { weights = (a w).weights ++ (b (a w).after).weights; after = (b (a w).after).after }

-- a token that counts no further
abbrev pub plain : Weighs
plain w = record { weights = w ∷ []; after = w }

-- an opening bracket, an operator or a word, which counts from itself on
abbrev pub counted : Weighs
counted w = record { weights = (w + 1) ∷ []; after = w + 1 }

-- a closing bracket, which ends the count of its opening one
abbrev pub closing : Weighs
closing w = record { weights = (w - 1) ∷ []; after = w - 1 }

-- what is counted in it ends with it
abbrev pub whole : Weighs → Weighs
whole a w = record { weights = (a w).weights; after = w }

abbrev pub in_order : List Weighs → Weighs
in_order [] = no_token
in_order (a ∷ all) = a ⨾ in_order all

abbrev pub each_after_comma : List Weighs → Weighs
each_after_comma [] = no_token
each_after_comma (a ∷ all) = plain ⨾ a ⨾ each_after_comma all

abbrev pub with_commas : List Weighs → Weighs
with_commas [] = no_token
with_commas (a ∷ all) = a ⨾ each_after_comma all

abbrev pub if_any : Option Weighs → Weighs
if_any None = no_token
if_any (Some a) = a

abbrev pub bracketed : Weighs → Weighs
bracketed inner = counted ⨾ inner ⨾ closing

-- ---- expressions

abbrev pub target_weighs : Target → Weighs
target_weighs (target.Variable at variable) = plain
target_weighs (target.Field at variable field) = plain ⨾ plain ⨾ plain

abbrev pub binary : Weighs → Weighs → Weighs
binary left right = left ⨾ counted ⨾ right

abbrev pub primary_step : Primary-F Weighs Weighs Weighs Weighs Weighs Weighs Weighs Weighs Weighs → Weighs
primary_step (Primary-F.Number at value) = plain
primary_step (Primary-F.True at) = plain
primary_step (Primary-F.False at) = plain
primary_step (Primary-F.Own at) = plain
primary_step (Primary-F.Read at place) = place
primary_step (Primary-F.Input at) = plain ⨾ bracketed no_token
primary_step (Primary-F.CallPlain at function arguments) = plain ⨾ bracketed (with_commas (map whole arguments))
primary_step (Primary-F.Parenthesized at inner) = bracketed (whole inner)

abbrev pub place_step : Place-F Weighs Weighs Weighs Weighs Weighs Weighs Weighs Weighs Weighs → Weighs
place_step (Place-F.Whole at target) = target_weighs target
place_step (Place-F.Element at line target index) = target_weighs target ⨾ bracketed (whole index)

abbrev pub weight_of_forms : Forms Weighs
weight_of_forms = record {
  alone = λ at part. part;
  binary = λ at line operator left right. binary left right;
  unary = λ at line operator operand. counted ⨾ operand;
  primary = primary_step;
  place = place_step;
}

-- an expression as an operand: its operators count on behind it
abbrev pub operand_weighs : Expression → Weighs
operand_weighs = expression_by weight_of_forms

abbrev pub expression_weighs : Expression → Weighs
expression_weighs e = whole (operand_weighs e)

abbrev pub place_weighs : Place → Weighs
place_weighs = place_by weight_of_forms

-- ---- calls

abbrev pub flow_step : Flow-F Weighs Weighs → Weighs
flow_step (Flow-F.OfCall at call) = call
flow_step (Flow-F.OfExpression at expression) = expression_weighs expression

abbrev pub call_step : Call-F Weighs Weighs → Weighs
call_step (Call-F.OnOwn at member arguments) = plain ⨾ plain ⨾ plain ⨾ bracketed (with_commas arguments)
call_step (Call-F.OnTarget at target member arguments) = target_weighs target ⨾ plain ⨾ plain ⨾ bracketed (with_commas arguments)

abbrev pub flow_weighs : Flow → Weighs
flow_weighs = fold-Flow Weighs Weighs call_step flow_step

abbrev pub call_weighs : Call → Weighs
call_weighs = fold-Call Weighs Weighs call_step flow_step

-- ---- statements

abbrev pub assignment_weighs : Assignment → Weighs
assignment_weighs a = place_weighs a.place ⨾ plain ⨾ flow_weighs a.value

abbrev pub dimension_weighs : Dimension → Weighs
dimension_weighs d = bracketed plain

abbrev pub declarator_weighs : Declarator → Weighs
declarator_weighs (Plain at variable dimension) = plain ⨾ if_any (option_map dimension_weighs dimension)
declarator_weighs (Initialized at variable value) = plain ⨾ plain ⨾ flow_weighs value

abbrev pub local_weighs : Local → Weighs
local_weighs l = plain ⨾ with_commas (map declarator_weighs l.declarators)

abbrev pub for_start_weighs : ForStart → Weighs
for_start_weighs (Declare local) = local_weighs local
for_start_weighs (Assign assignment) = assignment_weighs assignment

abbrev pub for_head_weighs : ForHead → Weighs
for_head_weighs head =
    if_any (option_map for_start_weighs head.start) ⨾ plain ⨾ expression_weighs head.test ⨾ plain ⨾ if_any (option_map assignment_weighs head.step)

-- a word before a statement, which counts up to the statement's end
abbrev pub worded : Weighs → Weighs
worded rest = whole (counted ⨾ rest)

abbrev pub else_weighs : Option Weighs → Weighs
else_weighs None = no_token
else_weighs (Some statement) = worded statement

abbrev pub block_step : Block-F Weighs Weighs → Weighs
block_step b = bracketed (in_order b.statements)

abbrev pub statement_step : Statement-F Weighs Weighs → Weighs
statement_step (Statement-F.OfBlock at block) = block
statement_step (Statement-F.Declare at local) = local_weighs local ⨾ plain
statement_step (Statement-F.Assign at assignment) = assignment_weighs assignment ⨾ plain
statement_step (Statement-F.CallAlone at call) = call_weighs call ⨾ plain
statement_step (Statement-F.Create at target) = target_weighs target ⨾ plain ⨾ plain ⨾ bracketed no_token ⨾ plain
statement_step (Statement-F.If at test then_part else_part) =
    worded (bracketed (expression_weighs test) ⨾ then_part) ⨾ else_weighs else_part
statement_step (Statement-F.While at test body) = worded (bracketed (expression_weighs test) ⨾ body)
statement_step (Statement-F.For at head body) = worded (bracketed (for_head_weighs head) ⨾ body)
statement_step (Statement-F.Print at arguments) = plain ⨾ bracketed (with_commas (map expression_weighs arguments)) ⨾ plain
statement_step (Statement-F.Rtf at value) = plain ⨾ bracketed (flow_weighs value) ⨾ plain
statement_step (Statement-F.Return at value) = plain ⨾ if_any (option_map expression_weighs value) ⨾ plain
statement_step (Statement-F.Empty at) = plain

abbrev pub statement_weighs : Statement → Weighs
statement_weighs = fold-Statement Weighs Weighs statement_step block_step

abbrev pub block_weighs : Block → Weighs
block_weighs b = bracketed (in_order (map statement_weighs b.statements))

-- ---- programs

abbrev pub field_name_weighs : FieldName → Weighs
field_name_weighs f = plain ⨾ if_any (option_map dimension_weighs f.dimension)

abbrev pub field_weighs : Field → Weighs
field_weighs f = plain ⨾ with_commas (map field_name_weighs f.names) ⨾ plain

abbrev pub formals_weighs : Formals → Weighs
formals_weighs f = with_commas (map (λ (formal : Formal). plain ⨾ plain) f.list)

abbrev pub guard_weighs : Expression → Weighs
guard_weighs test = plain ⨾ bracketed (expression_weighs test)

abbrev pub entry_weighs : Entry → Weighs
entry_weighs e = plain ⨾ plain ⨾ plain ⨾ if_any (option_map guard_weighs e.guard) ⨾ plain ⨾ plain ⨾ plain

-- a function or a member: its type, its name, its formals and its block
abbrev pub function_weighs : Option Formals → Block → Weighs
function_weighs formals body = plain ⨾ plain ⨾ bracketed (if_any (option_map formals_weighs formals)) ⨾ block_weighs body

abbrev pub item_weighs : Item → Weighs
item_weighs (item.OfField at field) = field_weighs field
item_weighs (item.Member at result member formals body) = function_weighs formals body
item_weighs (item.Select at line entries) = plain ⨾ bracketed (in_order (map entry_weighs entries))
item_weighs (item.Public at) = plain ⨾ plain
item_weighs (item.Private at) = plain ⨾ plain
item_weighs (item.Empty at) = plain

abbrev pub declaration_weighs : Declaration → Weighs
declaration_weighs (declaration.Struct at line struct fields) =
    plain ⨾ plain ⨾ bracketed (in_order (map field_weighs fields)) ⨾ plain
declaration_weighs (declaration.Class at line kind class items) =
    plain ⨾ plain ⨾ plain ⨾ plain ⨾ bracketed (in_order (map item_weighs items)) ⨾ plain
declaration_weighs (declaration.Function at result function formals body) = function_weighs formals body

-- the weights of a program's tokens
abbrev pub weights : Program → List ℕ
weights p = (in_order (map declaration_weighs p.declarations) 0).weights

-- no token has a weight above the most
abbrev pub is_light : Program → Bool
is_light p = list_all (λ w. nat_le w most_weight) (weights p)
