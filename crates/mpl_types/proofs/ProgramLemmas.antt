-- The least failure in a program is that at its nodes.
use Rattle.std.proofs.Common.{◌≡◌, Bool, true, false, ◌&&◌, List, [], ◌∷◌, ◌++◌, map, Option, Some, None, is_none, refl, sym, ap₂, ◌∙◌}
use Rattle.std.proofs.lemmas.List.Folds.{list_all-append}
use Rattle.std.specs.List.{list_all}
use Rattle.std.specs.Prelude.{nat_le}
use Rattle.mpl_ast.specs.declared.expression.Target.{Target}
use Rattle.mpl_ast.specs.declared.expression.Target.TheVariants as target
use Rattle.mpl_ast.specs.declared.program.Program.{Program}
use Rattle.mpl_mean.specs.Limits.{most_words_of_variables}
use Rattle.mpl_mean.specs.TypeRules.ClassRules.{may_stand_in_guard}
use Rattle.mpl_mean.specs.Plain.Expr.{Expr, Exprs, begins}
use Rattle.mpl_mean.specs.Plain.Expr as expr
use Rattle.mpl_mean.specs.TypeRules.Nodes.{Located, expr_nodes, nodes_of_each, target_nodes}
use Rattle.mpl_mean.specs.TypeRules.ProgramNodes.{Inner, Inside, OfGuard, OfRoutine, environments, inner_nodes, inners, insides, nodes, nodes_inside, outline_nodes}
use Rattle.mpl_mean.specs.TypeRules.Rules.{Failure, is_empty, is_typed, least, least_failure, failures}
use Rattle.mpl_mean.specs.TypeRules.Scopes.{Environment}
use Rattle.mpl_mean.specs.TypeRules.Types.{Declared, OfBool, agree, declared_formals, words_of_variables}
use Rattle.mpl_mean.specs.TypeRules.Typing.{type_of}
use Rattle.mpl_mean.proofs.LeastRefusal.LeastFailure.{least_none}
use Rattle.mpl_types.specs.Internal.Expressions.{fit_guard, fits_guard}
use Rattle.mpl_types.specs.Internal.Least.{noted, least_of}
use Rattle.mpl_types.specs.Internal.Seen.{failure_of}
use Rattle.mpl_types.specs.declared.failure.Failure as code
use Rattle.mpl_types.specs.Internal.Programs.{inner_least, insides_least, program_least}
use Rattle.mpl_types.proofs.ExpressionLemmas.{expr_is, joined}
use Rattle.mpl_types.proofs.LeastLemmas.{least_of_is_least}
use Rattle.mpl_types.proofs.OutlineLemmas.{outline_is}
use Rattle.mpl_types.proofs.StatementLemmas.{stmts_is, stmts_locals_is}

-- ---- guards

all_may : (xs ys : List Located) (a b : Bool) → a ≡ list_all (λ (p : Located). may_stand_in_guard p.node) xs → b ≡ list_all (λ (p : Located). may_stand_in_guard p.node) ys
    → (a && b) ≡ list_all (λ (p : Located). may_stand_in_guard p.node) (xs ++ ys)
all_may xs ys a b h k = ap₂ (λ a b. a && b) h k ∙ sym (list_all-append (λ (p : Located). may_stand_in_guard p.node) xs ys)

target_may : (environment : Environment) (t : Target) → true ≡ list_all (λ (p : Located). may_stand_in_guard p.node) (target_nodes environment t)
target_may environment (target.Variable at variable) = refl
target_may environment (target.Field at variable field) = refl

mutual
  guard_fits : (environment : Environment) (e : Expr) → fits_guard e ≡ list_all (λ (p : Located). may_stand_in_guard p.node) (expr_nodes environment e)
  guard_fits environment (expr.Number at value) = refl
  guard_fits environment (expr.Truth at value) = refl
  guard_fits environment (expr.Own at) = refl
  guard_fits environment (expr.Input at) = refl
  guard_fits environment (expr.Whole at target) = target_may environment target
  guard_fits environment (expr.Element at line target index) =
      all_may (target_nodes environment target) (expr_nodes environment index) true (fits_guard index) (target_may environment target) (guard_fits environment index)
  guard_fits environment (expr.PlainCall at function arguments) = refl
  guard_fits environment (expr.Parenthesized at inner) = guard_fits environment inner
  guard_fits environment (expr.Unary at line operator operand) = guard_fits environment operand
  guard_fits environment (expr.Binary at line operator left right) =
      all_may (expr_nodes environment left) (expr_nodes environment right) (fits_guard left) (fits_guard right) (guard_fits environment left) (guard_fits environment right)
  guard_fits environment (expr.CallOnOwn at member arguments) = refl
  guard_fits environment (expr.CallOnTarget at target member arguments) =
      all_may (target_nodes environment target) (nodes_of_each environment arguments) true (fit_guard arguments) (target_may environment target) (guards_fit environment arguments)

  guards_fit : (environment : Environment) (es : Exprs) → fit_guard es ≡ list_all (λ (p : Located). may_stand_in_guard p.node) (nodes_of_each environment es)
  guards_fit environment expr.NoExpr = refl
  guards_fit environment (expr.MoreExprs first others) =
      all_may (expr_nodes environment first) (nodes_of_each environment others) (fits_guard first) (fit_guard others) (guard_fits environment first) (guards_fit environment others)

-- ---- bodies and guards

inner_is : (environment : Environment) (inner : Inner) → inner_least environment inner ≡ least_of (inner_nodes environment inner)
inner_is environment (OfRoutine at formals stmts) =
    ap₂ (λ (locals : List Declared) rest. noted at 7 (nat_le (words_of_variables environment.declarations (declared_formals formals ++ locals)) most_words_of_variables) rest)
    (stmts_locals_is stmts environment) (stmts_is stmts environment)
inner_is environment (OfGuard test) =
    ap₂ (λ fits rest. noted (begins test) 11 (agree (Some OfBool) (type_of environment test) && fits) rest) (guard_fits environment test) (expr_is environment test)

insides_are : (all : List Inside) → insides_least all ≡ least_of (nodes_inside (map (λ (inside : Inside). inside.environment) all) (map (λ (inside : Inside). inside.inner) all))
insides_are [] = refl
insides_are (inside ∷ others) =
    joined (inner_nodes inside.environment inside.inner) (nodes_inside (map (λ (inside : Inside). inside.environment) others) (map (λ (inside : Inside). inside.inner) others)) _ _
    (inner_is inside.environment inside.inner) (insides_are others)

-- ---- the whole of it

pub program_is : (p : Program) → program_least p ≡ least_failure p
program_is p =
    joined (outline_nodes p) (nodes_inside (environments p) (inners p)) _ _ (outline_is p) (insides_are (insides p)) ∙ least_of_is_least (nodes p)

pub none_fails : (p : Program) → program_least p ≡ None → is_typed p ≡ true
none_fails p e = least_none (failures p) (sym (program_is p) ∙ e)

some_fails : (fs : List Failure) (f : Failure) → Some f ≡ least fs → false ≡ is_empty fs
some_fails [] f e = absurd cc
some_fails (g ∷ fs) f e = refl

pub typed_by : (p : Program) (f : Option code.Failure) → failure_of f ≡ program_least p → is_none f ≡ is_typed p
typed_by p None e = sym (none_fails p (sym e))
typed_by p (Some f) e = some_fails (failures p) (record { at = f.at; rule = f.rule }) (e ∙ program_is p)

pub refused_by : (p : Program) (f : code.Failure) → failure_of (Some f) ≡ program_least p → least_failure p ≡ Some (record { at = f.at; rule = f.rule })
refused_by p f e = sym (e ∙ program_is p)
