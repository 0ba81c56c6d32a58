use Rattle.mentat_cmd.specs.Answer.{stream}
use Rattle.mentat_cmd.proofs.AnswerLemmas.{unwritten}
use Rattle.mentat_cmd.proofs.command.written.Goals as goal

pub returns-in-Err-clause-ends : goal.returns-in-Err-clause-ends
returns-in-Err-clause-ends g c = λ budget y of_ same.
    unwritten budget y
    (stream (g.K.Sink.written c.args.out.now) (g.K.Sink.written c.write_all.new.out) (g.K.Sink.faults c.args.out.now) (g.K.Sink.faults c.write_all.new.out))
    (stream (g.E.Sink.written c.args.err.now) (g.E.Sink.written c.tell.new.err) (g.E.Sink.faults c.args.err.now) (g.E.Sink.faults c.tell.new.err))
    c.args.status _ of_ same c.in-Err.ensures.err c.in-Err.ensures.cause c.tell.ensures
