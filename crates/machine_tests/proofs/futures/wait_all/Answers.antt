use Rattle.std.proofs.Common.{◌≡◌, ap, ◌∙◌}
use Rattle.machine_tests.proofs.Fates.{fate_of, waited_fate, still_there}
use Rattle.machine_tests.proofs.futures.wait_all.Goals as goal

pub loop-consumer-preserved : goal.loop-consumer-preserved
loop-consumer-preserved c =
    let same : fate_of c.wait.new.self c.args.on ≡ fate_of c.loop-consumer.futures c.args.on =
    ap (λ t. fate_of t c.args.on) c.in_ok-wait.ensures.ok ∙ waited_fate c.loop-consumer.futures c.args.on _ in
    (still_there c.loop-consumer.futures c.wait.new.self c.args.on same c.loop-consumer.invariant.0, same ∙ c.loop-consumer.invariant.1)
