use Rattle.std.proofs.Common.{◌≡◌, ℕ, List, drop, option_map}
use Rattle.mpl_mean.specs.Meaning.Layout.{function_named}
use Rattle.mpl_mean.specs.TypeRules.Types.{meant_by}
use Rattle.mpl_scope.specs.First.{at, or_else}
use Rattle.mpl_scope.specs.SeenOutline.{or_meant, seen_found, seen_function}
use Rattle.mpl_scope.proofs.outline.Outline.of.Given as goal

-- the tables, and the declarations that are left, have the first of each name
abbrev pub invariant-loop-declaration : goal.invariant-loop-declaration
invariant-loop-declaration l = record {
  types : (q : List ℕ) → or_meant (seen_found (at l.types q)) (meant_by q (drop l.declaration-index l.declarations)) ≡ meant_by q l.declarations;
  functions : (q : List ℕ) → or_else (option_map seen_function (at l.functions q)) (function_named q (drop l.declaration-index l.declarations)) ≡ function_named q l.declarations;
}
