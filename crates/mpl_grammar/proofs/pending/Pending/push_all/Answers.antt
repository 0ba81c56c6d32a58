use Rattle.std.proofs.Common.{◌≡◌, ◌+◌, ◌-◌, ◌++◌, subst, ◌∙◌, drop, arith}
use Rattle.mpl_grammar.specs.declared.symbol.Symbol.TheVariants.{AName}
use Rattle.mpl_grammar.proofs.Reversed.{next_pushed, next_weighs}
use Rattle.mpl_grammar.proofs.pending.Pending.push_all.Goals as goal

pub push-requires : goal.push-requires
push-requires c =
    let left = c.loop-left.left - 1 in
    let whole : c.loop-left.left ≡ left + 1 = omega (arith, c.loop-left-test.true) in
    let pushed = subst (λ n. c.loop-left.self ≡ drop n c.args.symbols.now ++ c.args.self.now) whole c.loop-left.invariant.pushed in
    let weighs = next_weighs c.args.symbols.now c.args.self.now c.loop-left.self left AName (omega (arith, c.loop-left.invariant.within, c.loop-left-test.true)) pushed in
    omega (arith, weighs, c.requires)

pub loop-left-preserved : goal.loop-left-preserved
loop-left-preserved c =
    let left = c.loop-left.left - 1 in
    let whole : c.loop-left.left ≡ left + 1 = omega (arith, c.loop-left-test.true) in
    let pushed = subst (λ n. c.loop-left.self ≡ drop n c.args.symbols.now ++ c.args.self.now) whole c.loop-left.invariant.pushed in
    record {
      within = omega (arith, c.loop-left.invariant.within);
      pushed = c.in_ok-push.ensures.ok ∙ next_pushed c.args.symbols.now c.args.self.now c.loop-left.self left AName (omega (arith, c.loop-left.invariant.within, c.loop-left-test.true)) pushed;
    }
