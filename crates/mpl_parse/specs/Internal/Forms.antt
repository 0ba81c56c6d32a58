-- Parts of rules are taken, each by the function that reads it.
use Rattle.std.specs.Prelude.{◌≡◌, ℕ, Bool, true, List, Option, Some, None, Result, Ok, Err, if◌then◌else◌}
use Rattle.mpl_ast.specs.declared.class.Formals.{Formals}
use Rattle.mpl_ast.specs.declared.class.Item.{Item}
use Rattle.mpl_ast.specs.declared.class.Item.TheVariants as item
use Rattle.mpl_ast.specs.declared.expression.Expression.{Expression}
use Rattle.mpl_ast.specs.declared.flow.Assignment.{Assignment}
use Rattle.mpl_ast.specs.declared.flow.Flow.{Flow, roll-Flow}
use Rattle.mpl_ast.specs.declared.flow.Call.TheOpen.{Flow-F}
use Rattle.mpl_ast.specs.declared.place.Name.{Name}
use Rattle.mpl_ast.specs.declared.place.Number.{Number}
use Rattle.mpl_ast.specs.declared.program.Program.{Program}
use Rattle.mpl_ast.specs.declared.statement.ForStart.{ForStart}
use Rattle.mpl_ast.specs.declared.statement.ForStart.TheVariants as start
use Rattle.mpl_ast.specs.declared.statement.Statement.{Statement, roll-Statement}
use Rattle.mpl_ast.specs.declared.statement.Statement.TheOpen.{Statement-F}
use Rattle.mpl_ast.specs.declared.statement.TypeName.{TypeName}
use Rattle.mpl_ast.specs.declared.statement.TypeName.TheVariants as type
use Rattle.mpl_ast.specs.declared.token.Keyword.TheVariants as word
use Rattle.mpl_ast.specs.declared.token.Mark.TheVariants as m
use Rattle.mpl_mean.specs.Text.Reading.{Reads, ◌>>◌, is_keyword, is_mark, keyword, mark}
use Rattle.mpl_trees.specs.Expressions.{second, take_expression}
use Rattle.mpl_trees.specs.Flows.{take_assignment, take_call, take_flow}
use Rattle.mpl_trees.specs.Locals.{take_local}
use Rattle.mpl_trees.specs.Programs.{take_braced, take_field, take_formals, take_guard, take_item}
use Rattle.mpl_trees.specs.Statements.{statement_at, take_block, take_create, take_for_start}
use Rattle.mpl_trees.specs.Taking.{Takes, ahead, alone, both, is_ahead, is_any_name, made, node_of, skip_then, take_name, take_number, then_skip, unless_ahead, where_ahead}
use Rattle.mpl_reader.specs.declared.stop.Stop.{Stop}
use Rattle.mpl_reader.specs.declared.stop.Stop.TheVariants.{Stuck}

-- ---- types

abbrev pub take_named_type : Takes TypeName
take_named_type = node_of type.Named take_name

abbrev pub take_int : Takes TypeName
take_int = node_of (λ at (n : Bool). type.Int at) (alone true (keyword word.Int))

abbrev pub take_bool : Takes TypeName
take_bool = node_of (λ at (n : Bool). type.Bool at) (alone true (keyword word.Bool))

-- ---- flows

abbrev pub take_call_flow : Takes Flow → Takes Flow
take_call_flow flow = node_of (λ at c. roll-Flow (Flow-F.OfCall at c)) (take_call flow)

abbrev pub take_expression_flow : ℕ → Takes Flow
take_expression_flow depth = node_of (λ at e. roll-Flow (Flow-F.OfExpression at e)) (take_expression depth)

-- ---- statements

abbrev pub statement_of : ℕ → Takes Statement → Takes Statement
statement_of depth statement limit r = statement_at depth statement (ahead r.tokens) limit r

abbrev pub take_of_block : Takes Statement → Takes Statement
take_of_block statement = node_of (λ at b. roll-Statement (Statement-F.OfBlock at b)) (take_block statement)

abbrev pub take_other : Takes Statement → Takes (Option Statement)
take_other statement = where_ahead (is_keyword word.Else) (skip_then (keyword word.Else) statement)

abbrev pub take_create_statement : Takes Statement
take_create_statement = node_of (λ at t. roll-Statement (Statement-F.Create at t)) take_create

abbrev pub creation : Reads
creation = mark m.Dot >> keyword word.Create >> mark m.OpenParenthesis >> mark m.CloseParenthesis >> mark m.Semicolon

abbrev pub take_call_alone : ℕ → Takes Statement
take_call_alone depth = node_of (λ at c. roll-Statement (Statement-F.CallAlone at c)) (then_skip (take_call (take_flow depth)) (mark m.Semicolon))

abbrev pub take_assign : ℕ → Takes Statement
take_assign depth = node_of (λ at a. roll-Statement (Statement-F.Assign at a)) (then_skip (take_assignment depth) (mark m.Semicolon))

abbrev pub take_empty : Takes Statement
take_empty = node_of (λ at (n : Bool). roll-Statement (Statement-F.Empty at)) (alone true (mark m.Semicolon))

abbrev pub take_value_if_any : ℕ → Takes (Option Expression)
take_value_if_any depth = unless_ahead (is_mark m.Semicolon) (take_expression depth)

-- ---- the head of a `for`

abbrev pub take_declared_start : ℕ → Takes ForStart
take_declared_start depth = made start.Declare (take_local (take_flow depth))

abbrev pub take_assigned_start : ℕ → Takes ForStart
take_assigned_start depth = made start.Assign (take_assignment depth)

abbrev pub take_named_start : ℕ → Takes ForStart
take_named_start depth limit r = if is_ahead is_any_name (second r.tokens) then take_declared_start depth limit r else take_assigned_start depth limit r

abbrev pub take_start_if_any : ℕ → Takes (Option ForStart)
take_start_if_any depth = unless_ahead (is_mark m.Semicolon) (take_for_start depth)

abbrev pub take_step_if_any : ℕ → Takes (Option Assignment)
take_step_if_any depth = unless_ahead (is_mark m.CloseParenthesis) (take_assignment depth)

-- ---- classes

abbrev pub take_formals_within : Takes (Option Formals)
take_formals_within = unless_ahead (is_mark m.CloseParenthesis) take_formals

abbrev pub take_guard_if_any : Takes (Option Expression)
take_guard_if_any = where_ahead (is_keyword word.Guard) take_guard

abbrev pub take_accepted : Takes Name
take_accepted = skip_then (keyword word.Accept) (then_skip take_name (mark m.Semicolon))

abbrev pub take_entry_behind : Takes (Number × (Option Expression × Name))
take_entry_behind =
    both (λ priority behind. (priority, behind)) (then_skip take_number (mark m.Colon)) (both (λ guard member. (guard, member)) take_guard_if_any take_accepted)

abbrev pub take_field_item : Takes Item
take_field_item = node_of item.OfField take_field

abbrev pub take_public : Takes Item
take_public = node_of (λ at (n : Bool). item.Public at) (then_skip (alone true (keyword word.Public)) (mark m.Colon))

abbrev pub take_private : Takes Item
take_private = node_of (λ at (n : Bool). item.Private at) (then_skip (alone true (keyword word.Private)) (mark m.Colon))

abbrev pub take_empty_item : Takes Item
take_empty_item = node_of (λ at (n : Bool). item.Empty at) (alone true (mark m.Semicolon))

abbrev pub take_class_behind : Takes (Name × (List Item × ℕ))
take_class_behind = skip_then (keyword word.Mentat) (skip_then (keyword word.Class) (both (λ n items. (n, items)) take_name (then_skip (take_braced take_item) (mark m.Semicolon))))

-- ---- programs

-- The program that was taken is the answer.
abbrev pub TookProgram : Option Program → Result Program Stop → Type 0
TookProgram taken (Ok tree) = taken ≡ Some tree
TookProgram taken (Err e) = e ≡ Stuck → taken ≡ None
