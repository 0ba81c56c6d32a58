use Rattle.std.proofs.Common.{◌-◌, ◌+◌, length, ap, sym, ◌∙◌, arith}
use Rattle.std.proofs.lemmas.Result.{err_from_is_err_and}
use Rattle.mpl_trees.specs.Programs.{take_field_name}
use Rattle.mpl_trees.specs.Taking.{more_of}
use Rattle.mpl_reader.specs.Reader.{most_number, rest_of}
use Rattle.mpl_expressions.proofs.Turns.{behind, end-of, last-of, next-of, stuck-of}
use Rattle.mpl_parse.proofs.class.field_names.Goals as goal

pub returns-then-not-sees_mark : goal.returns-then-not-sees_mark
returns-then-not-sees_mark c =
    c.loop-turn.invariant ∙ last-of take_field_name most_number _ c.loop-turn.list (rest_of c.loop-turn.reader) (sym c.sees_mark.ensures ∙ c.if-not-sees_mark.true)

pub loop-turn-preserved : goal.loop-turn-preserved
loop-turn-preserved c =
    let take = take_field_name in
    let turns = length c.args.reader.now.left.now in
    let e = next-of take most_number (turns - c.loop-turn._turn) (turns - (c.loop-turn._turn + 1)) c.loop-turn.list (rest_of c.loop-turn.reader)
    (omega arith) (sym c.sees_mark.ensures ∙ c.if-not-sees_mark.false) c.in_ok-mark.ensures c.in_ok-next.ensures in
    c.loop-turn.invariant ∙ e ∙ ap (λ xs. behind xs (more_of take (turns - (c.loop-turn._turn + 1)) most_number (rest_of c.field_name-in-loop-turn.new.reader))) (sym c.in_ok-push-2.ensures.ok)

pub returns : goal.returns
returns c =
    let turns = length c.args.reader.now.left.now in
    c.loop-turn.invariant ∙ end-of take_field_name most_number (turns - c.loop-turn._turn) c.loop-turn.list (rest_of c.loop-turn.reader) (omega arith)

pub returns-in_err-next : goal.returns-in_err-next
returns-in_err-next c =
    let take = take_field_name in
    let turns = length c.args.reader.now.left.now in
    let p = err_from_is_err_and c.from_residual-in_err-next.result c.from_residual-in_err-next.ensures.1 in
    rw (p.1, p.2) (λ s. c.loop-turn.invariant ∙ stuck-of take most_number (turns - c.loop-turn._turn) (turns - (c.loop-turn._turn + 1)) c.loop-turn.list (rest_of c.loop-turn.reader)
    (omega arith) (sym c.sees_mark.ensures ∙ c.if-not-sees_mark.false) c.in_ok-mark.ensures (c.in_err-next.ensures s))
