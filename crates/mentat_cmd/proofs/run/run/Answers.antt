use Rattle.std.proofs.Common.{◌≡◌}
use Rattle.mentat_cmd.specs.Input.{input_of}
use Rattle.mentat_cmd.proofs.RunLemmas.{given, never_waits}
use Rattle.mentat_cmd.proofs.run.run.Goals as goal

pub returns-clause-ran : goal.returns-clause-ran
returns-clause-ran g c =
    let before = c.args.input.now in
    let after = c.numbers_for.new.input in
    let input = input_of (g.S.Source.left before) (g.S.Source.left after) (g.S.Source.faults before) (g.S.Source.faults after) (after ≡ before) in
    record {
      numbers = c.in_ok-numbers.numbers;
      given = given c.args.source.now input c.in_ok-accepted.accepted.asks c.in_ok-numbers.numbers c.in_ok-accepted.ensures.asks c.in_ok-numbers.ensures;
      runs = record {
        program = c.in_ok-accepted.accepted.typed;
        source_is = c.in_ok-accepted.ensures.built;
        yield = c.in_ok-done.ensures.meaning;
      };
    }

pub returns-clause-never : goal.returns-clause-never
returns-clause-never g c =
    never_waits c.args.budget c.args.source.now c.in_ok-accepted.accepted.typed c.in_ok-numbers.numbers c.in_ok-done.done
    c.in_ok-accepted.ensures.built c.in_ok-done.ensures.meaning c.only_replies_are_awaited.ensures.direct
