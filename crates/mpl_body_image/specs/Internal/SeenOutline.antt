-- The table of functions beside the declarations.
use Rattle.std.specs.Prelude.{◌≡◌, ℕ, List}
use Rattle.mpl_ast.specs.declared.program.Declaration.{Declaration}
use Rattle.mpl_body_code.specs.Codes.{number_of_function}
use Rattle.mpl_scope.specs.First.{at}
use Rattle.mpl_scope.specs.declared.first_named.FirstNamed.{FirstNamed}

-- what is found in the table is what is found along the declarations
abbrev pub Stands : List Declaration → FirstNamed ℕ → Type 0
Stands ds functions = (name : List ℕ) → at functions name ≡ number_of_function 0 name ds
