use Rattle.std.proofs.Common.{None, length, map, replicate, ap, ◌∙◌}
use Rattle.std.specs.FinMap.{get}
use Rattle.mdf_machine.specs.Internal.Sending.{port_given}
use Rattle.mdf_machine.proofs.Keyed.{inserted_here, inserted_there}
use Rattle.mdf_machine.proofs.PassedPorts.{closed_again, made_so}
use Rattle.mdf_machine.proofs.passing.open_ports.Goals as goal

pub fill_ports-requires-clause-empty : goal.fill_ports-requires-clause-empty
fill_ports-requires-clause-empty c = ap (λ m. get m c.args.actor) c.in_ok-open.ensures.ok ∙ inserted_here c.args.ports.now c.args.actor (replicate (length c.args.args.now) None)

pub returns-in-Err-clause-err : goal.returns-in-Err-clause-err
returns-in-Err-clause-err c = c.close.ensures ∙ closed_again c.args.ports.now c.fill_ports.new.ports c.args.actor c.requires.new
    (λ other differ. c.in-Err.ensures.others other differ ∙ ap (λ m. get m other) c.in_ok-open.ensures.ok ∙ inserted_there c.args.ports.now c.args.actor other (replicate (length c.args.args.now) None) differ)

pub returns-clause-ok : goal.returns-clause-ok
returns-clause-ok c = made_so c.args.ports.now c.fill_ports.new.ports c.args.actor (map port_given c.args.args.now) c.in_default.ensures.ok
    (λ other differ. c.in_default.ensures.others other differ ∙ ap (λ m. get m other) c.in_ok-open.ensures.ok ∙ inserted_there c.args.ports.now c.args.actor other (replicate (length c.args.args.now) None) differ)
