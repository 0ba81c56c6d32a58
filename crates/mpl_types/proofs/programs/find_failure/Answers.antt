use Rattle.std.proofs.Common.{List, [], ap, ◌∙◌}
use Rattle.std.specs.Prelude.{flat_map}
use Rattle.std.specs.List.{list_any}
use Rattle.mpl_ast.specs.declared.program.Declaration.{Declaration}
use Rattle.mpl_mean.specs.TypeRules.NameRules.{is_named_main}
use Rattle.mpl_mean.specs.TypeRules.ProgramNodes.{inside_declaration}
use Rattle.mpl_mean.specs.TypeRules.Scopes.{at_top}
use Rattle.mpl_types.specs.Internal.Least.{earlier, noted}
use Rattle.mpl_types.specs.Internal.Outlines.{declarations_least}
use Rattle.mpl_types.specs.Internal.Programs.{insides_least}
use Rattle.mpl_types.proofs.programs.find_failure.Goals as goal

pub returns : goal.returns
returns c =
    let all = c.as_slice-declarations.result.now in
    c.in_ok-failure.ensures
    ∙ ap (λ (ds : List Declaration). earlier (noted 0 3 (list_any is_named_main all) (declarations_least ds 0 [] all)) (insides_least (flat_map (inside_declaration (at_top ds)) all))) c.in_ok-outline.ensures
    ∙ ap (λ (ds : List Declaration). earlier (noted 0 3 (list_any is_named_main ds) (declarations_least ds 0 [] ds)) (insides_least (flat_map (inside_declaration (at_top ds)) ds))) c.as_slice-declarations.ensures
