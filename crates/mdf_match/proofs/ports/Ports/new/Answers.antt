-- Behind the loop there are as many empty ports as were asked for.
use Rattle.std.proofs.Common.{◌≡◌, ap, sym, ◌∙◌, arith}
use Rattle.std.specs.Prelude.{None, replicate}
use Rattle.mdf_match.specs.Ports.{missing_in}
use Rattle.mdf_match.proofs.Missing.{missing-replicate}
use Rattle.mdf_match.proofs.ports.Ports.new.Goals as goal

pub invariant_of-result : goal.invariant_of-result
invariant_of-result c =
    let done : c.loop-port._port ≡ c.args.count = omega arith in
    sym (missing-replicate c.args.count) ∙ ap (λ n. missing_in (replicate n None)) (sym done) ∙ ap missing_in (sym c.loop-port.invariant)
