use Rattle.mpl_mean.specs.Meaning.BodyMeaning.{yield_of}
use Rattle.mpl_checked.proofs.AgreeBodies.{yields_so}
use Rattle.mpl_checked.proofs.Fitting.{bodies_fit}
use Rattle.mpl_gen_code.proofs.Programs.{program_yields}
use Rattle.mpl_gen_code.proofs.TypedPrograms.{typed_fits}
use Rattle.mpl_gen_code.proofs.laws.marked_code_does_what_programs_mean.Goals as goal

pub returns : goal.returns
returns c p marks typed marked start replies turns fit promised =
    program_yields p marks (typed_fits p marks typed) start replies turns (yield_of p start replies turns) promised fit (yields_so p (bodies_fit p typed) marks marked start replies turns)
