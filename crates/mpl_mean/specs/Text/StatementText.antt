-- The tokens of calls and statements.
use Rattle.std.specs.Prelude.{ℕ, Bool, true, false, List, map, Some, None, if◌then◌else◌}
use Rattle.std.specs.Option.{option_map}
use Rattle.mpl_ast.specs.declared.flow.Assignment.{Assignment}
use Rattle.mpl_ast.specs.declared.flow.Call.{Call, fold-Call}
use Rattle.mpl_ast.specs.declared.flow.Flow.{Flow, fold-Flow}
use Rattle.mpl_ast.specs.declared.flow.Call.TheOpen.{Call-F, Flow-F}
use Rattle.mpl_ast.specs.declared.place.At.{At}
use Rattle.mpl_ast.specs.declared.statement.Block.{Block, Block-F}
use Rattle.mpl_ast.specs.declared.statement.Statement.{Statement, fold-Statement}
use Rattle.mpl_ast.specs.declared.statement.Statement.TheOpen.{Statement-F}
use Rattle.mpl_ast.specs.declared.statement.Declarator.{Declarator}
use Rattle.mpl_ast.specs.declared.statement.Declarator.TheVariants.{Plain, Initialized}
use Rattle.mpl_ast.specs.declared.statement.Dimension.{Dimension}
use Rattle.mpl_ast.specs.declared.statement.ForHead.{ForHead}
use Rattle.mpl_ast.specs.declared.statement.ForStart.{ForStart}
use Rattle.mpl_ast.specs.declared.statement.ForStart.TheVariants.{Declare, Assign}
use Rattle.mpl_ast.specs.declared.statement.Local.{Local}
use Rattle.mpl_ast.specs.declared.statement.TypeName.{TypeName}
use Rattle.mpl_ast.specs.declared.statement.TypeName.TheVariants as type
use Rattle.mpl_ast.specs.declared.token.Keyword.TheVariants as word
use Rattle.mpl_ast.specs.declared.token.Mark.TheVariants as m
use Rattle.mpl_mean.specs.Text.Reading.{Reads, ◌>>◌, node, mark, mark_on, keyword, name, number, each, separated, separated_if_any, optional}
use Rattle.mpl_mean.specs.Text.ExpressionText.{expression_text, place_text, target_text}

-- ---- calls

abbrev pub flow_step : Flow-F Reads Reads → Reads
flow_step (Flow-F.OfCall at call) = node at call
flow_step (Flow-F.OfExpression at expression) = node at (expression_text expression)

abbrev pub call_step : Call-F Reads Reads → Reads
call_step (Call-F.OnOwn at member arguments) =
    node at (keyword word.Own >> mark m.Dot >> name member >> mark m.OpenParenthesis >> separated_if_any arguments >> mark m.CloseParenthesis)
call_step (Call-F.OnTarget at target member arguments) =
    node at (target_text target >> mark m.Dot >> name member >> mark m.OpenParenthesis >> separated_if_any arguments >> mark m.CloseParenthesis)

abbrev pub flow_text : Flow → Reads
flow_text = fold-Flow Reads Reads call_step flow_step

abbrev pub call_text : Call → Reads
call_text = fold-Call Reads Reads call_step flow_step

-- ---- the parts of statements

abbrev pub assignment_text : Assignment → Reads
assignment_text a = node a.at (place_text a.place >> mark m.Assign >> flow_text a.value)

abbrev pub type_text : TypeName → Reads
type_text (type.Int at) = node at (keyword word.Int)
type_text (type.Bool at) = node at (keyword word.Bool)
type_text (type.Named at named) = node at (name named)

abbrev pub dimension_text : Dimension → Reads
dimension_text d = node d.at (mark_on d.mark_line m.OpenBracket >> number d.number >> mark m.CloseBracket)

abbrev pub declarator_text : Declarator → Reads
declarator_text (Plain at variable dimension) = node at (name variable >> optional (option_map dimension_text dimension))
declarator_text (Initialized at variable value) = node at (name variable >> mark m.Assign >> flow_text value)

abbrev pub local_text : Local → Reads
local_text l = node l.at (type_text l.type_name >> separated (map declarator_text l.declarators))

abbrev pub for_start_text : ForStart → Reads
for_start_text (Declare local) = local_text local
for_start_text (Assign assignment) = assignment_text assignment

abbrev pub for_head_text : ForHead → Reads
for_head_text head =
    optional (option_map for_start_text head.start) >> mark m.Semicolon >> expression_text head.test >> mark m.Semicolon
    >> optional (option_map assignment_text head.step)

-- ---- statements

-- the tokens of a statement, and whether an `else` behind it would belong to an `if` at its end
pub record StatementText : Type 0 where
  pub text : Reads
  pub takes_else : Bool

abbrev pub closed : Reads → StatementText
closed text = record { text = text; takes_else = false }

-- a statement that ends with another
abbrev pub ending_with : StatementText → Reads → StatementText
ending_with last text = record { text = text; takes_else = last.takes_else }

abbrev pub refused : Reads
refused rest = None

abbrev pub texts : List StatementText → List Reads
texts = map (λ s. s.text)

-- what stands before an `else` doesn't take it
abbrev pub before_else : StatementText → Reads
before_else s = if s.takes_else then refused else s.text

-- a block, of the tokens of its statements
abbrev pub block_of : At → ℕ → List Reads → Reads
block_of at line statements = node at (mark m.OpenBrace >> each statements >> mark_on line m.CloseBrace)

abbrev pub block_step : Block-F StatementText Reads → Reads
block_step b = block_of b.at b.mark_line (texts b.statements)

abbrev pub statement_step : Statement-F StatementText Reads → StatementText
statement_step (Statement-F.OfBlock at block) = closed (node at block)
statement_step (Statement-F.Declare at local) = closed (node at (local_text local >> mark m.Semicolon))
statement_step (Statement-F.Assign at assignment) = closed (node at (assignment_text assignment >> mark m.Semicolon))
statement_step (Statement-F.CallAlone at call) = closed (node at (call_text call >> mark m.Semicolon))
statement_step (Statement-F.Create at target) =
    closed (node at (target_text target >> mark m.Dot >> keyword word.Create >> mark m.OpenParenthesis >> mark m.CloseParenthesis >> mark m.Semicolon))
statement_step (Statement-F.If at test then_part None) =
    record {
      text = node at (keyword word.If >> mark m.OpenParenthesis >> expression_text test >> mark m.CloseParenthesis >> then_part.text);
      takes_else = true;
    }
statement_step (Statement-F.If at test then_part (Some else_part)) =
    ending_with else_part (node at (keyword word.If >> mark m.OpenParenthesis >> expression_text test >> mark m.CloseParenthesis
    >> before_else then_part >> keyword word.Else >> else_part.text))
statement_step (Statement-F.While at test body) =
    ending_with body (node at (keyword word.While >> mark m.OpenParenthesis >> expression_text test >> mark m.CloseParenthesis >> body.text))
statement_step (Statement-F.For at head body) =
    ending_with body (node at (keyword word.For >> mark m.OpenParenthesis >> for_head_text head >> mark m.CloseParenthesis >> body.text))
statement_step (Statement-F.Print at arguments) =
    closed (node at (keyword word.Print >> mark m.OpenParenthesis >> separated (map expression_text arguments) >> mark m.CloseParenthesis >> mark m.Semicolon))
statement_step (Statement-F.Rtf at value) =
    closed (node at (keyword word.Rtf >> mark m.OpenParenthesis >> flow_text value >> mark m.CloseParenthesis >> mark m.Semicolon))
statement_step (Statement-F.Return at value) =
    closed (node at (keyword word.Return >> optional (option_map expression_text value) >> mark m.Semicolon))
statement_step (Statement-F.Empty at) = closed (node at (mark m.Semicolon))

abbrev pub statement_of : Statement → StatementText
statement_of = fold-Statement StatementText Reads statement_step block_step

abbrev pub statement_text : Statement → Reads
statement_text s = (statement_of s).text

abbrev pub block_text : Block → Reads
block_text b = block_of b.at b.mark_line (map statement_text b.statements)
