-- The least failure in a program: in its outline, and inside its bodies and guards.
use Rattle.std.specs.Prelude.{ℕ, ◌&&◌, nat_le, List, [], ◌∷◌, ◌++◌, Option, Some, None}
use Rattle.mpl_ast.specs.declared.class.Formal.{Formal}
use Rattle.mpl_ast.specs.declared.program.Program.{Program}
use Rattle.mpl_mean.specs.Limits.{most_words_of_variables}
use Rattle.mpl_mean.specs.Plain.Expr.{Expr, begins}
use Rattle.mpl_mean.specs.TypeRules.ProgramNodes.{Inner, Inside, OfGuard, OfRoutine, insides}
use Rattle.mpl_mean.specs.TypeRules.Rules.{Failure}
use Rattle.mpl_mean.specs.TypeRules.Scopes.{Environment}
use Rattle.mpl_mean.specs.Plain.Stmt.{Stmts}
use Rattle.mpl_mean.specs.TypeRules.Types.{OfBool, agree, declared_formals, words_of_variables}
use Rattle.mpl_mean.specs.TypeRules.Typing.{type_of}
use Rattle.mpl_types.specs.Internal.Expressions.{expr_least, fits_guard}
use Rattle.mpl_types.specs.Internal.Least.{earlier, noted}
use Rattle.mpl_types.specs.Internal.Outlines.{outline_least}
use Rattle.mpl_types.specs.Internal.Statements.{stmts_least}
use Rattle.mpl_scope.specs.Locals.{stmts_locals}

abbrev pub routine_least : ℕ → Environment → List Formal → Stmts → Option Failure
routine_least at environment formals stmts =
    noted at 7 (nat_le (words_of_variables environment.declarations (declared_formals formals ++ stmts_locals stmts)) most_words_of_variables) (stmts_least stmts environment)

abbrev pub guard_least : Environment → Expr → Option Failure
guard_least environment test = noted (begins test) 11 (agree (Some OfBool) (type_of environment test) && fits_guard test) (expr_least environment test)

abbrev pub inner_least : Environment → Inner → Option Failure
inner_least environment (OfRoutine at formals stmts) = routine_least at environment formals stmts
inner_least environment (OfGuard test) = guard_least environment test

abbrev pub insides_least : List Inside → Option Failure
insides_least [] = None
insides_least (inside ∷ others) = earlier (inner_least inside.environment inside.inner) (insides_least others)

abbrev pub program_least : Program → Option Failure
program_least p = earlier (outline_least p.declarations) (insides_least (insides p))
