use Rattle.std.proofs.Common.{◌≡◌, true, subst, sym}
use Rattle.mdf_code.specs.Images.{is_image}
use Rattle.mdf_code.specs.declared.raw.RawImage.{RawImage}
use Rattle.mpl_ast.specs.declared.program.Program.{Program}
use Rattle.mpl_mean.specs.TypeRules.Rules.{is_typed}
use Rattle.mpl_gen_bounds.proofs.SmallImages.{images_fit}
use Rattle.mpl_gen_laws.proofs.ProgramImages.{program_is_image}
use Rattle.mpl_gen_laws.proofs.SpelledLines.{spelled_prints}
use Rattle.mpl_gen_scope.specs.SeenMarks.{marked}
use Rattle.mpl_layout.proofs.Bounds.{acceptable_bounded}
use Rattle.mpl_gen_body.proofs.Covering.{never_falls}
use Rattle.mpl_gen_body.proofs.image.image_with.Goals as goal

pub parts_of-requires-clause-rising : goal.parts_of-requires-clause-rising
parts_of-requires-clause-rising c = never_falls c.nodes.result.now c.nodes.ensures.rising

pub parts_of-requires-clause-bounded : goal.parts_of-requires-clause-bounded
parts_of-requires-clause-bounded c = acceptable_bounded c.program.result.now c.program.ensures.accepted

pub parts_of-requires-clause-fits : goal.parts_of-requires-clause-fits
parts_of-requires-clause-fits c = images_fit c.program.result.now (marked c.nodes.result.now) c.program.ensures.accepted

pub of-requires : goal.of-requires
of-requires c =
    let p = c.program.result.now in
    let accepted = c.program.ensures.accepted in
    subst (λ (image : RawImage). is_image image ≡ true) (sym c.in_ok-parts.ensures)
    (program_is_image p (marked c.nodes.result.now) accepted.typed (spelled_prints p accepted.tokens accepted.spelled))

pub returns-clause-typed : goal.returns-clause-typed
returns-clause-typed c = subst (λ (p : Program). is_typed p ≡ true) c.program.ensures.same c.program.ensures.accepted.typed
