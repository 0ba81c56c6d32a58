use Rattle.std.proofs.Common.{◌≡◌, ◌≤◌, ℕ, List, drop}
use Rattle.mpl_gen_code.specs.ExpressionCode.{function_number, number_from, plain_functions}
use Rattle.mpl_scope.specs.First.{at, or_else}
use Rattle.mpl_gen_scope.proofs.outline.functions_of.Given as goal

-- the table, and the declarations that are left, have the first of each name
abbrev pub invariant-loop-declaration : goal.invariant-loop-declaration
invariant-loop-declaration l = record {
  found : (q : List ℕ) → or_else (at l.functions q) (number_from l.number q (plain_functions (drop l.declaration-index l.declarations))) ≡ function_number l.declarations q;
  few : l.number ≤ l.declaration-index;
}
