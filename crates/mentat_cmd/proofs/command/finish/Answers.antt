use Rattle.std.proofs.Common.{inl, refl}
use Rattle.mentat_cmd.proofs.command.finish.Goals as goal

pub returns-in-Spent-clause-ends : goal.returns-in-Spent-clause-ends
returns-in-Spent-clause-ends g c = λ budget spent.
    inl (refl, (c.in-Spent.is, spent c.in-Spent.is, c.tell.ensures))

pub returns-in_default : goal.returns-in_default
returns-in_default g c = record {
  ends = λ budget spent. c.report.ensures.ends budget;
  unwritten = c.report.ensures.unwritten;
  silent = c.report.ensures.silent;
}
