use Rattle.std.proofs.Common.{inl, refl, sym}
use Rattle.mentat_cmd.proofs.command.report.Goals as goal

pub returns-in-Ok-clause-ends : goal.returns-in-Ok-clause-ends
returns-in-Ok-clause-ends g c = λ budget.
    inl (refl, c.written.ensures.ends budget c.args.done.now c.requires.status (sym c.as_slice.ensures))
