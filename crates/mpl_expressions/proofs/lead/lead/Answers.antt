use Rattle.std.proofs.Common.{◌≡◌, ℕ, suc, ◌<◌, [], ◌∷◌, drop, refl, ap, sym, ◌∙◌, arith, drop-cons}
use Rattle.std.proofs.Math.ListN.{drop_of_length-le}
use Rattle.mpl_trees.specs.Ahead.{count}
use Rattle.mpl_expressions.specs.Internal.Lead.{all_of}
use Rattle.mpl_expressions.proofs.Sums.{lead-is, none}
use Rattle.mpl_expressions.proofs.lead.lead.Goals as goal

pub returns-then-not-step : goal.returns-then-not-step
returns-then-not-step c =
    let ts = c.args.tokens.now in
    let i = c.loop-token.token-index in
    let d = drop-cons ts i c.token-item.result (omega arith) ∙ ap (λ t. t ∷ drop (suc i) ts) (sym c.token-item.is) in
    omega (arith, lead-is c.args.level ts, c.loop-token.invariant.counted, ap (all_of c.loop-token.scan c.args.level) d, c.if-not-step.ensures.scanned c.token-item.result (drop (suc i) ts) refl)

pub returns : goal.returns
returns c =
    let ts = c.args.tokens.now in
    let s = c.loop-token.scan in
    omega (arith, lead-is c.args.level ts, c.loop-token.invariant.counted, ap (all_of s c.args.level) (drop_of_length-le ts {i = c.loop-token.token-index} (omega arith)), none s.lowest c.args.level (λ n. count n s.position []) (λ n. refl))
