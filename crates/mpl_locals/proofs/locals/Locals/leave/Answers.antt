use Rattle.mpl_locals.proofs.Variables.{few_gone, gone_more}
use Rattle.std.proofs.Common.{◌+◌, ◌<◌, subst}
use Rattle.mpl_locals.proofs.locals.Locals.leave.Goals as goal

pub loop-self-preserved : goal.loop-self-preserved
loop-self-preserved c =
    let gone = c.loop-self.invariant.0 in (
      gone + 1,
      gone_more c.args.self.now c.loop-self.self c.forget.new.self gone c.in_ok-forget.ensures c.loop-self.invariant.1,
      few_gone c.args.self.now c.loop-self.self c.args.count gone c.loop-self.invariant.1 c.loop-self.invariant.2 (subst (λ n. c.args.count < n) c.len.ensures c.loop-self-test.true),
    )
