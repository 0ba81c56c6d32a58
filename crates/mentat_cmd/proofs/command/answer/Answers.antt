use Rattle.std.proofs.Common.{◌≡◌, Err, inr, subst}
use Rattle.mentat_cmd.specs.Answer.{Refuses, stream}
use Rattle.mentat_cmd.specs.Input.{input_of}
use Rattle.mentat_cmd.specs.Internal.Ran.{Ran, fault_status}
use Rattle.mentat_cmd.specs.declared.run.Rejection.{Rejection}
use Rattle.mentat_cmd.specs.declared.status.Status.{Status}
use Rattle.mentat_cmd.proofs.AnswerLemmas.{answers, faulty_input, refused_so}
use Rattle.mentat_cmd.proofs.command.answer.Goals as goal

pub returns-in-Ok-clause-cause : goal.returns-in-Ok-clause-cause
returns-in-Ok-clause-cause g c =
    let before = c.args.input.now in
    let after = c.run.new.input in
    let input = input_of (g.S.Source.left before) (g.S.Source.left after) (g.S.Source.faults before) (g.S.Source.faults after) (after ≡ before) in
    answers c.args.budget _ input c.in-Ok.done _ _ _ _ c.in-Ok.ensures.ran c.in-Ok.ensures.never (c.finish.ensures.ends c.args.budget c.in-Ok.ensures.spent)

pub returns-in-Err-Input-clause-cause : goal.returns-in-Err-Input-clause-cause
returns-in-Err-Input-clause-cause g c =
    let before = c.args.input.now in
    let after = c.run.new.input in
    let input = input_of (g.S.Source.left before) (g.S.Source.left after) (g.S.Source.faults before) (g.S.Source.faults after) (after ≡ before) in
    let out = stream (g.K.Sink.written c.args.out.now) (g.K.Sink.written c.args.out.now) (g.K.Sink.faults c.args.out.now) (g.K.Sink.faults c.args.out.now) in
    let err = stream (g.E.Sink.written c.args.err.now) (g.E.Sink.written c.refuse-in-Err-Input.new.err) (g.E.Sink.faults c.args.err.now) (g.E.Sink.faults c.refuse-in-Err-Input.new.err) in
    let fault = c.in-Err-Input.fault in
    let answered = c.refuse-in-Err-Input.result.status in
    let turns = c.refuse-in-Err-Input.result.turns in
    let ran = subst (λ (e : Rejection). Ran c.args.budget c.args.bytes.now input (Err e)) c.in-Err-Input.field-0-is c.in-Err-Input.ensures.ran in
    refused_so c.args.budget c.args.bytes.now input out err (fault_status fault) answered turns (inr ran.0)
    (λ stops. faulty_input c.args.budget c.args.bytes.now input out err fault turns ran stops)
    (subst (λ (s : Status). Refuses err s answered turns) c.status_of_fault.ensures c.refuse-in-Err-Input.ensures)
