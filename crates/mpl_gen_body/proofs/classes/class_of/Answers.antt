use Rattle.std.proofs.Common.{List, map, arith, ap, ◌∙◌}
use Rattle.mpl_ast.specs.declared.program.Declaration.{Declaration}
use Rattle.mpl_mean.specs.Meaning.Layout.{parts_of}
use Rattle.mpl_layout.specs.SeenClasses.{class_seen}
use Rattle.mpl_layout.specs.SeenParts.{part_seen}
use Rattle.mpl_gen_body.proofs.Fitting.{few_words}
use Rattle.mpl_gen_body.proofs.classes.class_of.Goals as goal

pub words_of_parts-requires : goal.words_of_parts-requires
words_of_parts-requires c =
    few_words c.args.outline.now (map part_seen c.as_slice.result.now) (class_seen c.args.class).state (ap (λ parts. map part_seen parts) c.as_slice.ensures.value ∙ c.in_ok-parts.ensures ∙ ap (λ (ds : List Declaration). parts_of ds (class_seen c.args.class).state) c.layout.ensures) c.requires

pub overflow_cast-result : goal.overflow_cast-result
overflow_cast-result c =
    let few =
    few_words c.args.outline.now (map part_seen c.as_slice.result.now) (class_seen c.args.class).state (ap (λ parts. map part_seen parts) c.as_slice.ensures.value ∙ c.in_ok-parts.ensures ∙ ap (λ (ds : List Declaration). parts_of ds (class_seen c.args.class).state) c.layout.ensures) c.requires in
    omega (arith, few, c.words_of_parts.ensures)
