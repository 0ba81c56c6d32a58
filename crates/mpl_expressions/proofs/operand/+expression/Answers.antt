use Rattle.std.proofs.Common.{◌≡◌, ◌-◌, ◌+◌, ◌∷◌, [], Some, length, rules, ap, sym, ◌∙◌, arith}
use Rattle.mpl_ast.specs.declared.token.TokenKind.TheVariants as kind
use Rattle.mpl_trees.specs.Expressions.{primary_at, take_expression, take_primary, take_unary}
use Rattle.mpl_trees.specs.Rows.{more_pieces}
use Rattle.mpl_trees.specs.Taking.{ahead, more_of}
use Rattle.mpl_reader.specs.Reader.{most_number, rest_of}
use Rattle.mpl_expressions.proofs.Alike.{took_alike}
use Rattle.mpl_expressions.proofs.Whole.{lone_row, took_row}
use Rattle.mpl_expressions.proofs.Turns.{behind, end-of, first-piece, last-of, last-piece, next-of, next-piece}
use Rattle.mpl_expressions.proofs.operand.+expression.Goals as goal

pub expressions-returns-then-not-sees_mark : goal.expressions-returns-then-not-sees_mark
expressions-returns-then-not-sees_mark t c =
    c.loop-turn.invariant ∙ last-of (take_expression c.args.depth) most_number _ c.loop-turn.list (rest_of c.loop-turn.reader) (sym c.sees_mark.ensures ∙ c.if-not-sees_mark.true)

pub expressions-loop-turn-preserved : goal.expressions-loop-turn-preserved
expressions-loop-turn-preserved t c =
    let take = take_expression c.args.depth in
    let turns = length c.args.reader.now.left.now in
    let e = next-of take most_number (turns - c.loop-turn._turn) (turns - (c.loop-turn._turn + 1)) c.loop-turn.list (rest_of c.loop-turn.reader)
    (omega arith) (sym c.sees_mark.ensures ∙ c.if-not-sees_mark.false) c.in_ok-mark.ensures c.in_ok-next.ensures in
    c.loop-turn.invariant ∙ e ∙ ap (λ xs. behind xs (more_of take (turns - (c.loop-turn._turn + 1)) most_number (rest_of c.expression-in-loop-turn.new.reader))) (sym c.in_ok-push-2.ensures.ok)

pub expressions-returns : goal.expressions-returns
expressions-returns t c =
    let turns = length c.args.reader.now.left.now in
    c.loop-turn.invariant ∙ end-of (take_expression c.args.depth) most_number (turns - c.loop-turn._turn) c.loop-turn.list (rest_of c.loop-turn.reader) (omega arith)

pub pieces-returns-in_default : goal.pieces-returns-in_default
pieces-returns-in_default t c =
    let row = c.loop-turn.row.pieces.items in
    c.loop-turn.invariant ∙ last-piece (take_unary c.args.depth) most_number _ row (rest_of c.loop-turn.reader) c.in_default.ensures.0 ∙ ap (λ r. Some (row, r)) (sym c.in_default.ensures.1)

pub pieces-loop-turn-preserved : goal.pieces-loop-turn-preserved
pieces-loop-turn-preserved t c =
    let unary = take_unary c.args.depth in
    let turns = c.args.turns in
    let e = next-piece unary most_number (turns - c.loop-turn._turn) (turns - (c.loop-turn._turn + 1)) c.loop-turn.row.pieces.items (rest_of c.loop-turn.reader)
    (omega arith) c.in-Some.ensures c.in_ok-next.ensures in
    c.loop-turn.invariant ∙ e ∙ ap (λ xs. behind xs (more_pieces unary (turns - (c.loop-turn._turn + 1)) most_number (rest_of c.piece.new.reader))) (sym c.in_ok-push-2.ensures.ok)

pub expression-returns-then-not-sees_operator : goal.expression-returns-then-not-sees_operator
expression-returns-then-not-sees_operator t c =
    let r = rest_of c.args.reader.now in
    let s = rest_of c.piece.new.reader in
    let row = lone_row (take_unary c.args.depth) most_number r c.in_ok-first.ensures (sym (c.sees_operator.ensures s.last s.next) ∙ c.if-not-sees_operator.true) in
    took_row (take_unary c.args.depth) r s (c.in_ok-first.first ∷ []) c.here-start.result c.lone_operand.result row c.here-start.ensures c.lone_operand.ensures

pub expression-returns : goal.expression-returns
expression-returns t c =
    let r = rest_of c.args.reader.now in
    let unary = take_unary c.args.depth in
    let row = first-piece unary most_number r c.in_ok-first.ensures ∙ c.in_ok-row.ensures in
    took_row unary r (rest_of c.pieces.new.reader) c.in_ok-row.row.pieces.items c.here-start.result c.whole_row.result row c.here-start.ensures c.whole_row.ensures

pub primary-returns-in-Keyword : goal.primary-returns-in-Keyword
primary-returns-in-Keyword t c =
    let expression = take_expression c.args.depth in
    let r = rest_of c.args.reader.now in
    let e : ahead c.args.reader.now.left.now ≡ Some (kind.Keyword c.in-Keyword.found) = search rules in
    took_alike (take_primary expression) (primary_at expression (Some (kind.Keyword c.in-Keyword.found))) r c.word.result (rest_of c.word.new.reader)
    (ap (λ o. primary_at expression o most_number r) e) (c.word.ensures expression)
