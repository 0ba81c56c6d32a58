-- Which uses of a program may find a pending or a trapped result.
use Rattle.std.specs.Prelude.{ℕ, List, [], ◌∷◌, ◌++◌, ◌⊎◌, flat_map, map}
use Rattle.mpl_ast.specs.declared.program.Declaration.{Declaration}
use Rattle.mpl_ast.specs.declared.program.Declaration.TheVariants as declaration
use Rattle.mpl_ast.specs.declared.program.Program.{Program}
use Rattle.mpl_mean.specs.Meaning.Layout.{Class, Function, Member, classes_of, formals_of}
use Rattle.mpl_mean.specs.Plain.Stmt.{stmts_of}
use Rattle.mpl_mean.specs.Plain.Scopes.{function_env, member_env}
use Rattle.mpl_mean.specs.Pending.BodyWays.{stmts_ways}
use Rattle.mpl_mean.specs.Pending.Paths.{Marked, Ways}

-- the functions, `main` among them
abbrev pub functions_of : List Declaration → List Function
functions_of [] = []
functions_of (declaration.Struct at line struct fields ∷ others) = functions_of others
functions_of (declaration.Class at line kind class items ∷ others) = functions_of others
functions_of (declaration.Function at result function formals body ∷ others) =
    record { result = result; formals = formals_of formals; body = body } ∷ functions_of others

abbrev pub function_ways : List Declaration → Function → Ways
function_ways ds function = stmts_ways (function_env ds function) (stmts_of function.body)

abbrev pub member_ways : List Declaration → Class → Member → Ways
member_ways ds class member = stmts_ways (member_env ds class member) (stmts_of member.body)

-- the ways through each body of a program
abbrev pub all_ways : List Declaration → List Ways
all_ways ds = map (function_ways ds) (functions_of ds) ++ flat_map (λ (class : Class). map (member_ways ds class) class.members) (classes_of ds)

abbrev pub AnyMarked : List Ways → ℕ → Type 0
AnyMarked [] node = ⊥
AnyMarked (ways ∷ others) node = Marked ways node ⊎ AnyMarked others node

-- a use, by the number of its node, may find a result that is pending or trapped
abbrev pub MayBePending : Program → ℕ → Type 0
MayBePending p node = AnyMarked (all_ways p.declarations) node
