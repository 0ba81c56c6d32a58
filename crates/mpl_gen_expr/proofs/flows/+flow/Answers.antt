use Rattle.std.proofs.Common.{◌≡◌, ◌+◌, suc, ◌∷◌, drop, drop-cons, arith, ap, sym, ◌∙◌}
use Rattle.std.proofs.Math.ListN.{drop_of_length-le}
use Rattle.mpl_gen_scope.specs.SeenScope.{env_seen}
use Rattle.mpl_gen_expr.specs.RowCodes.{all_flows}
use Rattle.mpl_gen_expr.specs.Texts.{written}
use Rattle.mpl_gen_expr.proofs.Done.{flow_more}
use Rattle.mpl_gen_expr.proofs.Forms.{no_flows_written}
use Rattle.mpl_gen_expr.proofs.flows.+flow.Goals as goal

pub flows-loop-argument-preserved : goal.flows-loop-argument-preserved
flows-loop-argument-preserved t c =
    let all = c.args.list.now in
    let i = c.loop-argument.argument-index in
    let x = c.argument-item.result in
    let split : drop i all ≡ x ∷ drop (i + 1) all =
    drop-cons all i x (omega arith) ∙ ap (λ y. y ∷ drop (suc i) all) (sym c.argument-item.is) ∙ ap (λ n. x ∷ drop n all) (let e : suc i ≡ i + 1 = omega arith in e) in
    flow_more (env_seen c.args.scope.now) x (drop (i + 1) all) (drop i all) c.loop-argument.codes c.flow.new.codes _ split c.in_ok-flow.ensures c.loop-argument.invariant

pub flows-returns : goal.flows-returns
flows-returns t c =
    let env = env_seen c.args.scope.now in
    let all = c.args.list.now in
    let text = c.loop-argument.codes in
    sym (no_flows_written env text) ∙ ap (λ flows. written (all_flows env flows) text) (sym (drop_of_length-le all {i = c.loop-argument.argument-index} (omega arith))) ∙ c.loop-argument.invariant
