use Rattle.std.proofs.Common.{arith, ap, option_map, sym, ◌∙◌}
use Rattle.mpl_mean.proofs.Lists.{none_left}
use Rattle.mpl_mean.specs.Meaning.Layout.{function_named}
use Rattle.mpl_mean.specs.TypeRules.Types.{meant_by}
use Rattle.mpl_scope.specs.First.{at, or_else}
use Rattle.mpl_scope.specs.SeenOutline.{or_meant, seen_found, seen_function}
use Rattle.mpl_scope.proofs.TableLemmas.{or_none, or_nothing}
use Rattle.mpl_scope.proofs.outline.Outline.of.Goals as goal

pub invariant_of-result : goal.invariant_of-result
invariant_of-result c =
    let types = c.loop-declaration.types in
    let functions = c.loop-declaration.functions in
    let none = none_left c.args.declarations.now c.loop-declaration.declaration-index (omega arith) in (
      λ q. sym (or_nothing (at types q)) ∙ ap (λ ds. or_meant (seen_found (at types q)) (meant_by q ds)) (sym none) ∙ c.loop-declaration.invariant.types q,
      λ q. sym (or_none (option_map seen_function (at functions q))) ∙ ap (λ ds. or_else (option_map seen_function (at functions q)) (function_named q ds)) (sym none)
          ∙ c.loop-declaration.invariant.functions q,
    )
