use Rattle.std.proofs.Common.{◌≡◌, ◌≤◌, ℕ, List, drop}
use Rattle.mpl_body_code.specs.Codes.{number_of_function}
use Rattle.mpl_scope.specs.First.{at, or_else}
use Rattle.mpl_body_image.proofs.outline.functions_of.Given as goal

-- the table, and the declarations that are left, have the first of each name
abbrev pub invariant-loop-declaration : goal.invariant-loop-declaration
invariant-loop-declaration l = record {
  found : (q : List ℕ) → or_else (at l.functions q) (number_of_function l.number q (drop l.declaration-index l.declarations)) ≡ number_of_function 0 q l.declarations;
  few : l.number ≤ l.declaration-index;
}
