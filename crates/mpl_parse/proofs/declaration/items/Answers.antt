use Rattle.std.proofs.Common.{◌-◌, ◌+◌, length, ap, sym, ◌∙◌, arith}
use Rattle.std.proofs.lemmas.Result.{err_from_is_err_and}
use Rattle.mpl_trees.specs.Programs.{take_item}
use Rattle.mpl_trees.specs.Taking.{all_of}
use Rattle.mpl_reader.specs.Reader.{most_number, rest_of}
use Rattle.mpl_expressions.proofs.Turns.{behind, end-all, last-all, next-all, stuck-all}
use Rattle.mpl_parse.proofs.declaration.items.Goals as goal

pub returns-then-sees_mark : goal.returns-then-sees_mark
returns-then-sees_mark c =
    c.loop-turn.invariant ∙ last-all take_item most_number _ c.loop-turn.list (rest_of c.loop-turn.reader) (sym c.sees_mark.ensures ∙ c.if-sees_mark.true)

pub loop-turn-preserved : goal.loop-turn-preserved
loop-turn-preserved c =
    let take = take_item in
    let turns = c.args.turns in
    let e = next-all take most_number (turns - c.loop-turn._turn) (turns - (c.loop-turn._turn + 1)) c.loop-turn.list (rest_of c.loop-turn.reader)
    (omega arith) (sym c.sees_mark.ensures ∙ c.if-sees_mark.false) c.in_ok-next.ensures in
    c.loop-turn.invariant ∙ e ∙ ap (λ xs. behind xs (all_of take (turns - (c.loop-turn._turn + 1)) most_number (rest_of c.item.new.reader))) (sym c.in_ok-push.ensures.ok)

pub returns : goal.returns
returns c = c.loop-turn.invariant ∙ end-all take_item most_number (c.args.turns - c.loop-turn._turn) c.loop-turn.list (rest_of c.loop-turn.reader) (omega arith)

pub returns-in_err-next : goal.returns-in_err-next
returns-in_err-next c =
    let turns = c.args.turns in
    let p = err_from_is_err_and c.from_residual-in_err-next.result c.from_residual-in_err-next.ensures.1 in
    rw (p.1, p.2) (λ s. c.loop-turn.invariant ∙ stuck-all take_item most_number (turns - c.loop-turn._turn) (turns - (c.loop-turn._turn + 1)) c.loop-turn.list (rest_of c.loop-turn.reader)
    (omega arith) (sym c.sees_mark.ensures ∙ c.if-sees_mark.false) (c.in_err-next.ensures s))
