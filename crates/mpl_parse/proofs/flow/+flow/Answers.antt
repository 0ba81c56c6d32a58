use Rattle.std.proofs.Common.{◌≡◌, suc, ◌-◌, ◌+◌, length, ap, sym, ◌∙◌, arith}
use Rattle.std.proofs.lemmas.Result.{err_from_is_err_and}
use Rattle.mpl_trees.specs.Flows.{flow_of, take_flow}
use Rattle.mpl_trees.specs.Taking.{more_of}
use Rattle.mpl_reader.specs.Reader.{most_number, rest_of}
use Rattle.mpl_expressions.proofs.Alike.{took_alike}
use Rattle.mpl_expressions.proofs.Turns.{behind, end-of, last-of, next-of, stuck-of}
use Rattle.mpl_parse.proofs.Depths.{flow-is}
use Rattle.mpl_parse.proofs.flow.+flow.Goals as goal

pub flows-returns-then-not-sees_mark : goal.flows-returns-then-not-sees_mark
flows-returns-then-not-sees_mark t c =
    c.loop-turn.invariant ∙ last-of (take_flow c.args.depth) most_number _ c.loop-turn.list (rest_of c.loop-turn.reader) (sym c.sees_mark.ensures ∙ c.if-not-sees_mark.true)

pub flows-loop-turn-preserved : goal.flows-loop-turn-preserved
flows-loop-turn-preserved t c =
    let take = (take_flow c.args.depth) in
    let turns = length c.args.reader.now.left.now in
    let e = next-of take most_number (turns - c.loop-turn._turn) (turns - (c.loop-turn._turn + 1)) c.loop-turn.list (rest_of c.loop-turn.reader)
    (omega arith) (sym c.sees_mark.ensures ∙ c.if-not-sees_mark.false) c.in_ok-mark.ensures c.in_ok-next.ensures in
    c.loop-turn.invariant ∙ e ∙ ap (λ xs. behind xs (more_of take (turns - (c.loop-turn._turn + 1)) most_number (rest_of c.flow-in-loop-turn.new.reader))) (sym c.in_ok-push-2.ensures.ok)

pub flows-returns : goal.flows-returns
flows-returns t c =
    let turns = length c.args.reader.now.left.now in
    c.loop-turn.invariant ∙ end-of (take_flow c.args.depth) most_number (turns - c.loop-turn._turn) c.loop-turn.list (rest_of c.loop-turn.reader) (omega arith)

pub flows-returns-in_err-next : goal.flows-returns-in_err-next
flows-returns-in_err-next t c =
    let take = (take_flow c.args.depth) in
    let turns = length c.args.reader.now.left.now in
    let p = err_from_is_err_and c.from_residual-in_err-next.result c.from_residual-in_err-next.ensures.1 in
    rw (p.1, p.2) (λ s. c.loop-turn.invariant ∙ stuck-of take most_number (turns - c.loop-turn._turn) (turns - (c.loop-turn._turn + 1)) c.loop-turn.list (rest_of c.loop-turn.reader)
    (omega arith) (sym c.sees_mark.ensures ∙ c.if-not-sees_mark.false) c.in_ok-mark.ensures (c.in_err-next.ensures s))

pub flow-returns : goal.flow-returns
flow-returns t c =
    let h = c.in-Some.ensures in
    let e : c.args.depth ≡ suc c.in-Some.inside = omega arith in
    let r = rest_of c.args.reader.now in
    took_alike (take_flow c.args.depth) (flow_of (take_flow c.in-Some.inside) c.args.depth) r c.flow_within.result (rest_of c.flow_within.new.reader)
    (flow-is c.args.depth c.in-Some.inside most_number r e) c.flow_within.ensures
