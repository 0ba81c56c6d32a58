use Rattle.std.proofs.Common.{◌≡◌, ◌+◌, suc, Some, refl, ap, ◌∙◌, arith}
use Rattle.std.specs.FinMap.{get}
use Rattle.mdf_machine.specs.Internal.Sending.{ports_until}
use Rattle.mdf_machine.proofs.PassedPorts.{filled_here, filled_there, port_empty, short_at, until_all, until_none}
use Rattle.mdf_machine.proofs.passing.fill_ports.Goals as goal

pub loop-port-init : goal.loop-port-init
loop-port-init c = record { here = c.requires.empty ∙ ap Some (until_none c.args.args.now); others = λ other differ. refl }

pub fill-requires-clause-empty : goal.fill-requires-clause-empty
fill-requires-clause-empty c = port_empty c.loop-port.ports c.args.args.now c.args.actor c.loop-port.port c.loop-port.invariant.here (omega (arith, c.loop-port-test.true, c.requires.few))

pub fill-requires-clause-short : goal.fill-requires-clause-short
fill-requires-clause-short c = short_at c.args.args.now c.loop-port.port c.arg_at.result.now c.requires.short c.arg_at.ensures

pub loop-port-preserved : goal.loop-port-preserved
loop-port-preserved c =
    let next : suc c.loop-port.port ≡ c.loop-port.port + 1 = omega arith in
    record {
      here = ap (λ m. get m c.args.actor) c.in_ok-fill.ensures.ok ∙ filled_here c.loop-port.ports c.args.args.now c.args.actor c.loop-port.port c.arg_at.result.now c.loop-port.invariant.here c.arg_at.ensures
          ∙ ap (λ n. Some (ports_until n c.args.args.now)) next;
      others = λ other differ. ap (λ m. get m other) c.in_ok-fill.ensures.ok ∙ filled_there c.loop-port.ports c.args.actor c.loop-port.port other c.arg_at.result.now differ ∙ c.loop-port.invariant.others other differ;
    }

pub returns-clause-ok : goal.returns-clause-ok
returns-clause-ok c = c.loop-port.invariant.here ∙ ap Some (until_all c.args.args.now c.loop-port.port (omega (arith, c.loop-port-test.false, c.requires.few)))
