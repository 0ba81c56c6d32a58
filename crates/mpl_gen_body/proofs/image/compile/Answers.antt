use Rattle.std.proofs.Common.{subst, sym}
use Rattle.mdf_code.specs.Yields.{YieldsUnstrayed}
use Rattle.mdf_code.specs.declared.raw.RawImage.{RawImage}
use Rattle.mpl_mean.specs.Meaning.BodyMeaning.{yield_of}
use Rattle.mpl_checked.proofs.AgreeBodies.{yields_so}
use Rattle.mpl_checked.proofs.Fitting.{bodies_fit}
use Rattle.mpl_gen_code.proofs.Programs.{program_yields}
use Rattle.mpl_gen_code.proofs.TypedPrograms.{typed_fits}
use Rattle.mpl_gen_scope.specs.SeenMarks.{marked}
use Rattle.mpl_gen_body.proofs.Covering.{covered}
use Rattle.mpl_gen_body.proofs.image.compile.Goals as goal

pub returns-clause-yields : goal.returns-clause-yields
returns-clause-yields c covers start replies turns fit promised =
    let p = c.args.typed.now in
    let marks = marked c.args.pend.now in
    let typed = c.in_ok-image.ensures.typed in
    subst (λ (image : RawImage). YieldsUnstrayed image start replies turns (yield_of p start replies turns)) (sym c.in_ok-image.ensures.image)
    (program_yields p marks (typed_fits p marks typed) start replies turns (yield_of p start replies turns) promised fit (yields_so p (bodies_fit p typed) marks (covered c.args.pend.now p covers) start replies turns))
