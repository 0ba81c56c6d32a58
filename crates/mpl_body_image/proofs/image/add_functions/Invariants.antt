use Rattle.std.proofs.Common.{◌≡◌, ◌++◌, drop, length}
use Rattle.mpl_body_image.specs.Laid.{function_entries, functions_code}
use Rattle.mpl_body_image.proofs.image.add_functions.Given as goal

abbrev pub invariant-loop-declaration : goal.invariant-loop-declaration
invariant-loop-declaration l =
    (l.code ++ functions_code l.outline (drop l.declaration-index l.declaration-items) ≡ l.initial.code ++ functions_code l.outline l.declaration-items)
    × (l.functions.items ++ function_entries l.outline (length l.code) (drop l.declaration-index l.declaration-items) ≡ function_entries l.outline (length l.initial.code) l.declaration-items)
