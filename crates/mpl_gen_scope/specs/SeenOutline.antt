-- The tables of functions beside the declarations.
use Rattle.std.specs.Prelude.{◌≡◌, ℕ, List, option_map}
use Rattle.std.specs.Borrow.{Bor}
use Rattle.mpl_ast.specs.declared.program.Declaration.{Declaration}
use Rattle.mpl_ast.specs.declared.statement.TypeName.{TypeName}
use Rattle.mpl_mean.specs.Meaning.Layout.{function_named}
use Rattle.mpl_gen_code.specs.ExpressionCode.{function_number}
use Rattle.mpl_scope.specs.First.{at}
use Rattle.mpl_scope.specs.declared.first_named.FirstNamed.{FirstNamed}
use Rattle.mpl_gen_scope.specs.Outlines.{result_of}

-- what is found in a table is what is found along the declarations
pub record Stands (ds : List Declaration) (functions : FirstNamed ℕ) (results : FirstNamed (Bor TypeName)) : Type 0 where
  pub function_is : (name : List ℕ) → at functions name ≡ function_number ds name
  pub result_is : (name : List ℕ) → option_map (λ (type : Bor TypeName). type.now) (at results name) ≡ option_map result_of (function_named name ds)
