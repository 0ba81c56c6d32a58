-- Statements are taken.
use Rattle.std.specs.Prelude.{ℕ, zero, suc, Bool, true, ◌&&◌, ◌||◌, List, length, Option, Some, None, if◌then◌else◌}
use Rattle.std.specs.Option.{option_and_then, option_map}
use Rattle.mpl_ast.specs.declared.expression.Expression.{Expression}
use Rattle.mpl_ast.specs.declared.expression.Target.{Target}
use Rattle.mpl_ast.specs.declared.flow.Assignment.{Assignment}
use Rattle.mpl_ast.specs.declared.statement.Block.{Block, roll-Block}
use Rattle.mpl_ast.specs.declared.statement.ForHead.{ForHead}
use Rattle.mpl_ast.specs.declared.statement.ForStart.{ForStart}
use Rattle.mpl_ast.specs.declared.statement.ForStart.TheVariants as start
use Rattle.mpl_ast.specs.declared.statement.Statement.{Statement, roll-Statement}
use Rattle.mpl_ast.specs.declared.statement.Statement.TheOpen.{Statement-F}
use Rattle.mpl_ast.specs.declared.token.Keyword.TheVariants as word
use Rattle.mpl_ast.specs.declared.token.Mark.TheVariants as m
use Rattle.mpl_ast.specs.declared.token.Token.{Token}
use Rattle.mpl_ast.specs.declared.token.TokenKind.{TokenKind}
use Rattle.mpl_ast.specs.declared.token.TokenKind.TheVariants as kind
use Rattle.mpl_mean.specs.Text.Reading.{◌>>◌, is_keyword, is_mark, keyword, mark}
use Rattle.mpl_trees.specs.Expressions.{begins_call, past_field, second, take_expression}
use Rattle.mpl_trees.specs.Flows.{take_assignment, take_call, take_called, take_flow}
use Rattle.mpl_trees.specs.Locals.{take_local}
use Rattle.mpl_trees.specs.Taking.{Takes, ahead, all_of, alone, both, is_ahead, is_any_name, line_of, made, node_of, parenthesized, skip_then, some_of, then_skip, unless_ahead, where_ahead}

-- ---- blocks

-- statements up to the closing brace, with its line
abbrev pub take_closed : Takes (List Statement) → Takes (List Statement × ℕ)
take_closed statements limit r = option_and_then (λ p. option_map (λ x. ((p.0, line_of p.1.tokens), x)) (mark m.CloseBrace p.1)) (statements limit r)

abbrev pub take_block : Takes Statement → Takes Block
take_block statement limit r =
    node_of (λ at (p : List Statement × ℕ). roll-Block (record { at = at; mark_line = p.1; statements = p.0 })) (skip_then (mark m.OpenBrace) (take_closed (all_of statement (length r.tokens)))) limit r

-- ---- what a name begins

-- `.create` behind a variable or a field
abbrev pub begins_create : List Token → Bool
begins_create ts =
    is_ahead (is_mark m.Dot) (second ts)
    && (is_ahead (is_keyword word.Create) (second (second ts)) || (is_ahead (is_mark m.Dot) (past_field ts) && is_ahead (is_keyword word.Create) (second (past_field ts))))

abbrev pub take_create : Takes Target
take_create = then_skip take_called (mark m.Dot >> keyword word.Create >> mark m.OpenParenthesis >> mark m.CloseParenthesis >> mark m.Semicolon)

abbrev pub named_statement : ℕ → Takes Statement
named_statement depth limit r =
    if is_ahead is_any_name (second r.tokens) then node_of (λ at l. roll-Statement (Statement-F.Declare at l)) (then_skip (take_local (take_flow depth)) (mark m.Semicolon)) limit r
    else if begins_create r.tokens then node_of (λ at t. roll-Statement (Statement-F.Create at t)) take_create limit r
    else if begins_call (ahead r.tokens) r.tokens then node_of (λ at c. roll-Statement (Statement-F.CallAlone at c)) (then_skip (take_call (take_flow depth)) (mark m.Semicolon)) limit r
    else node_of (λ at a. roll-Statement (Statement-F.Assign at a)) (then_skip (take_assignment depth) (mark m.Semicolon)) limit r

-- ---- what a word begins

abbrev pub take_test : ℕ → Takes Expression
take_test depth = parenthesized (take_expression depth)

abbrev pub take_if : ℕ → Takes Statement → Takes Statement
take_if depth statement =
    node_of (λ at (p : Expression × (Statement × Option Statement)). roll-Statement (Statement-F.If at p.0 p.1.0 p.1.1))
    (skip_then (keyword word.If) (both (λ test parts. (test, parts)) (take_test depth)
    (both (λ first other. (first, other)) statement (where_ahead (is_keyword word.Else) (skip_then (keyword word.Else) statement)))))

abbrev pub take_while : ℕ → Takes Statement → Takes Statement
take_while depth statement =
    node_of (λ at (p : Expression × Statement). roll-Statement (Statement-F.While at p.0 p.1)) (skip_then (keyword word.While) (both (λ test body. (test, body)) (take_test depth) statement))

abbrev pub for_start_at : ℕ → Option TokenKind → Takes ForStart
for_start_at depth (Some (kind.Name text)) limit r =
    if is_ahead is_any_name (second r.tokens) then made start.Declare (take_local (take_flow depth)) limit r else made start.Assign (take_assignment depth) limit r
for_start_at depth _ limit r = made start.Declare (take_local (take_flow depth)) limit r

abbrev pub take_for_start : ℕ → Takes ForStart
take_for_start depth limit r = for_start_at depth (ahead r.tokens) limit r

abbrev pub take_for_head : ℕ → Takes ForHead
take_for_head depth =
    both (λ (first : Option ForStart) (p : Expression × Option Assignment). record { start = first; test = p.0; step = p.1 }) (then_skip (unless_ahead (is_mark m.Semicolon) (take_for_start depth)) (mark m.Semicolon))
    (both (λ test step. (test, step)) (then_skip (take_expression depth) (mark m.Semicolon)) (unless_ahead (is_mark m.CloseParenthesis) (take_assignment depth)))

abbrev pub take_for : ℕ → Takes Statement → Takes Statement
take_for depth statement =
    node_of (λ at (p : ForHead × Statement). roll-Statement (Statement-F.For at p.0 p.1)) (skip_then (keyword word.For) (both (λ head body. (head, body)) (parenthesized (take_for_head depth)) statement))

abbrev pub take_print : ℕ → Takes Statement
take_print depth =
    node_of (λ at es. roll-Statement (Statement-F.Print at es)) (skip_then (keyword word.Print) (then_skip (parenthesized (some_of (take_expression depth))) (mark m.Semicolon)))

abbrev pub take_rtf : ℕ → Takes Statement
take_rtf depth = node_of (λ at f. roll-Statement (Statement-F.Rtf at f)) (skip_then (keyword word.Rtf) (then_skip (parenthesized (take_flow depth)) (mark m.Semicolon)))

abbrev pub take_return : ℕ → Takes Statement
take_return depth =
    node_of (λ at e. roll-Statement (Statement-F.Return at e)) (skip_then (keyword word.Return) (then_skip (unless_ahead (is_mark m.Semicolon) (take_expression depth)) (mark m.Semicolon)))

-- ---- statements

abbrev pub declared_statement : ℕ → Takes Statement
declared_statement depth = node_of (λ at l. roll-Statement (Statement-F.Declare at l)) (then_skip (take_local (take_flow depth)) (mark m.Semicolon))

abbrev pub statement_at : ℕ → Takes Statement → Option TokenKind → Takes Statement
statement_at depth statement (Some (kind.Name text)) limit r = named_statement depth limit r
statement_at depth statement (Some (kind.Mark m.OpenBrace)) limit r = node_of (λ at b. roll-Statement (Statement-F.OfBlock at b)) (take_block statement) limit r
statement_at depth statement (Some (kind.Mark m.Semicolon)) limit r = node_of (λ at (n : Bool). roll-Statement (Statement-F.Empty at)) (alone true (mark m.Semicolon)) limit r
statement_at depth statement (Some (kind.Keyword word.Int)) limit r = declared_statement depth limit r
statement_at depth statement (Some (kind.Keyword word.Bool)) limit r = declared_statement depth limit r
statement_at depth statement (Some (kind.Keyword word.Own)) limit r = node_of (λ at c. roll-Statement (Statement-F.CallAlone at c)) (then_skip (take_call (take_flow depth)) (mark m.Semicolon)) limit r
statement_at depth statement (Some (kind.Keyword word.If)) limit r = take_if depth statement limit r
statement_at depth statement (Some (kind.Keyword word.While)) limit r = take_while depth statement limit r
statement_at depth statement (Some (kind.Keyword word.For)) limit r = take_for depth statement limit r
statement_at depth statement (Some (kind.Keyword word.Print)) limit r = take_print depth limit r
statement_at depth statement (Some (kind.Keyword word.Rtf)) limit r = take_rtf depth limit r
statement_at depth statement (Some (kind.Keyword word.Return)) limit r = take_return depth limit r
statement_at depth statement _ limit r = None

-- within so many statements
abbrev pub take_statement : ℕ → Takes Statement
take_statement zero limit r = None
take_statement (suc depth) limit r = statement_at (suc depth) (take_statement depth) (ahead r.tokens) limit r
