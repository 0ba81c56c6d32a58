use Rattle.std.proofs.Common.{ℕ, List, subst, sym, ◌∙◌}
use Rattle.mpl_ast.specs.declared.program.Declaration.{Declaration}
use Rattle.mpl_mean.specs.Laws.Sizes.{Every}
use Rattle.mpl_gen_scope.specs.SeenMarks.{marked}
use Rattle.mpl_gen_body.specs.Internal.Fitting.{DeclarationFits}
use Rattle.mpl_gen_body.proofs.Fitting.{declarations_fit}
use Rattle.mpl_gen_body.proofs.image.parts_of.Goals as goal

pub functions_of-requires : goal.functions_of-requires
functions_of-requires c =
    let ds = c.args.program.now.declarations in
    subst (λ (some : List Declaration). Every (DeclarationFits some (marked c.of-marks.result.nodes.now)) some) (sym (c.in_ok-outline.ensures ∙ c.as_slice.ensures))
    (subst (λ (nodes : List ℕ). Every (DeclarationFits ds (marked nodes)) ds) (sym c.of-marks.ensures) (declarations_fit ds (marked c.args.marks.now) ds c.requires.fits.functions))
