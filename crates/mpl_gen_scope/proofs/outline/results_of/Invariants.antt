use Rattle.std.proofs.Common.{◌≡◌, ℕ, List, drop, option_map}
use Rattle.std.specs.Borrow.{Bor}
use Rattle.mpl_ast.specs.declared.statement.TypeName.{TypeName}
use Rattle.mpl_mean.specs.Meaning.Layout.{function_named}
use Rattle.mpl_scope.specs.First.{at, or_else}
use Rattle.mpl_gen_scope.specs.Outlines.{result_of}
use Rattle.mpl_gen_scope.proofs.outline.results_of.Given as goal

-- the table, and the declarations that are left, have the first of each name
abbrev pub invariant-loop-declaration : goal.invariant-loop-declaration
invariant-loop-declaration l =
    (q : List ℕ) → or_else (option_map (λ (type : Bor TypeName). type.now) (at l.results q)) (option_map result_of (function_named q (drop l.declaration-index l.declarations)))
    ≡ option_map result_of (function_named q l.declarations)
