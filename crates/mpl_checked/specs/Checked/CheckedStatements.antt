-- The checked meaning of statements.
use Rattle.std.specs.Prelude.{ℕ, zero, suc, ◌+◌, Bool, true, false, List, [], ◌∷◌, map, Option, Some, None, if◌then◌else◌, ℤ}
use Rattle.mpl_ast.specs.declared.statement.TypeName.{TypeName}
use Rattle.mpl_value.specs.Words.{with_words, zeros}
use Rattle.mpl_value.specs.declared.body.Arg.{Arg}
use Rattle.mpl_value.specs.declared.body.Arg.TheVariants.{Know}
use Rattle.mpl_value.specs.declared.body.BodyEnd.TheVariants as end
use Rattle.mpl_mean.specs.Meaning.CallMeaning.{class_of_location}
use Rattle.mpl_mean.specs.Meaning.Context.{Context}
use Rattle.mpl_mean.specs.Meaning.Layout.{dimension_of, words_of}
use Rattle.mpl_mean.specs.Meaning.PlaceMeaning.{Location, index_of, location_of, put}
use Rattle.mpl_mean.specs.Meaning.StatementMeaning.{gives_result, line_of, new_object, nothing}
use Rattle.mpl_mean.specs.Meaning.Store.{Returns, Variable, declare, force, hold, printed, pure, spend, stop, waits}
use Rattle.mpl_mean.specs.Meaning.Values.{Value, is_true, word_of}
use Rattle.mpl_mean.specs.Plain.Expr.{Expr, stands_at}
use Rattle.mpl_mean.specs.Plain.Expr as e
use Rattle.mpl_mean.specs.Plain.Stmt.{NewLocal, Stmt, Stmts}
use Rattle.mpl_mean.specs.Plain.Stmt as s
use Rattle.mpl_checked.specs.Checked.CheckedExpressions.{checked_base, checked_passes, checked_value}
use Rattle.mpl_checked.specs.Checked.CheckedSteps.{CheckedStep, Checking, ◌>?>◌, checked_all, checked_force, checked_in_scope, checked_in_turn, meant}

abbrev pub CheckedEffect : Type 0
CheckedEffect = CheckedStep (Unit {0})

abbrev pub CheckedDoes : Type 0
CheckedDoes = Context → CheckedEffect

-- ---- locals

abbrev pub checked_initial : Checking → Context → TypeName → NewLocal → Option Expr → CheckedStep Arg
checked_initial checking context type local None = meant (pure (Know (zeros (words_of context.declarations type (dimension_of local.dimension)))))
checked_initial checking context type local (Some expr) = checked_passes checking expr context

abbrev pub checked_declares : Checking → Context → TypeName → NewLocal → CheckedEffect
checked_declares checking context type local = checked_initial checking context type local local.initialiser
    >?> (λ holds. meant (declare (record { name = local.name.text; type = type; dimension = dimension_of local.dimension; holds = holds })))

-- ---- assignments

-- other words of a variable, which a use forces, or of the state
abbrev pub checked_put : Checking → ℕ → Option Variable → ℕ → List ℤ → CheckedEffect
checked_put checking node (Some v) offset words = checked_force (checking.marks node) v.holds >?> (λ old. meant (hold v.name (Know (with_words offset words old))))
checked_put checking node None offset words = meant (put None offset words)

-- What goes into a part or into the state is forced: a whole variable by a use, and the result of a call at once.
abbrev pub checked_force_passed : Checking → Expr → Arg → CheckedStep (List ℤ)
checked_force_passed checking (e.CallOnOwn at member arguments) passed = meant (force passed)
checked_force_passed checking (e.CallOnTarget at target member arguments) passed = meant (force passed)
checked_force_passed checking other passed = checked_force (checking.marks (stands_at other).id) passed

abbrev pub checked_part : Checking → ℕ → Expr → Location → Arg → CheckedEffect
checked_part checking node expr location passed = checked_force_passed checking expr passed >?> (λ words. checked_put checking node location.variable location.offset words)

abbrev pub checked_into : Checking → ℕ → Expr → Location → Option Variable → Bool → Arg → CheckedEffect
checked_into checking node expr location (Some v) true passed = meant (hold v.name passed)
checked_into checking node expr location (Some v) false passed = checked_part checking node expr location passed
checked_into checking node expr location None is_whole passed = checked_part checking node expr location passed

abbrev pub checked_assign : Checking → ℕ → Expr → Option Location → Arg → CheckedEffect
checked_assign checking node expr None passed = meant waits
checked_assign checking node expr (Some location) passed = checked_into checking node expr location location.variable location.is_whole passed

abbrev pub checked_assign_element : Checking → ℕ → ℕ → Option Location → Value → List ℤ → CheckedEffect
checked_assign_element checking node line None i words = meant waits
checked_assign_element checking node line (Some location) i words =
    meant (index_of line location.words (word_of i)) >?> (λ n. checked_put checking node location.variable (location.offset + n) words)

abbrev pub checked_assigns : Checking → Expr → Expr → CheckedDoes
checked_assigns checking (e.Whole at target) expr = λ context.
    checked_passes checking expr context >?> (λ passed store. checked_assign checking at.id expr (location_of context target store) passed store)
checked_assigns checking (e.Element at line target index) expr = λ context.
    checked_passes checking expr context >?> (λ passed. checked_force_passed checking expr passed >?> (λ words.
    checked_value checking index context >?> (λ i store. checked_assign_element checking at.id line (location_of context target store) i words store)))
checked_assigns checking other expr = λ context. checked_passes checking expr context >?> (λ passed. meant waits)

-- ---- objects

abbrev pub checked_create_in : Checking → Context → ℕ → Location → Option Variable → Bool → CheckedEffect
checked_create_in checking context node location (Some v) true =
    meant (new_object context (class_of_location context (Some location))) >?> (λ object. meant (hold v.name (Know (object ∷ []))))
checked_create_in checking context node location (Some v) false = checked_base checking node (Some v)
    >?> (λ _. meant (new_object context (class_of_location context (Some location))) >?> (λ object. checked_put checking node (Some v) location.offset (object ∷ [])))
checked_create_in checking context node location None is_whole =
    meant (new_object context (class_of_location context (Some location))) >?> (λ object. meant (put None location.offset (object ∷ [])))

abbrev pub checked_create : Checking → Context → ℕ → Option Location → CheckedEffect
checked_create checking context node None = meant waits
checked_create checking context node (Some location) = checked_create_in checking context node location location.variable location.is_whole

-- ---- loops and results

abbrev pub checked_while : ℕ → ℕ → CheckedStep Value → CheckedEffect → CheckedEffect
checked_while zero turns test body = meant (stop end.Spent)
checked_while (suc fuel) turns test body =
    meant (spend turns) >?> (λ _. test >?> (λ value. if is_true value then (body >?> (λ _. checked_while fuel turns test body)) else meant nothing))

abbrev pub checked_loop : Checking → Context → Expr → CheckedEffect → CheckedEffect
checked_loop checking context test body = checked_while (context.turns + 1) context.turns (checked_value checking test context) body

abbrev pub checked_returned : Checking → Option Expr → CheckedDoes
checked_returned checking None = λ context. meant (λ store. Returns [] store)
checked_returned checking (Some expr) = λ context. checked_value checking expr context >?> (λ value. meant (λ store. Returns value.words store))

-- ---- one form after another

abbrev mutual
  pub checked_does : Checking → Stmt → CheckedDoes
  checked_does checking s.Nothing = λ context. meant nothing
  checked_does checking (s.Within stmts) = λ context. checked_in_scope (checked_in_turn (checked_each checking stmts context))
  checked_does checking (s.Locals type locals) = λ context. checked_in_turn (map (checked_declares checking context type) locals)
  checked_does checking (s.Assigns at place expr) = checked_assigns checking place expr
  checked_does checking (s.Calls call) = λ context. checked_passes checking call context >?> (λ _. meant nothing)
  checked_does checking (s.Creates at target) = λ context store. checked_create checking context at.id (location_of context target store) store
  checked_does checking (s.When test then_part) = λ context.
      checked_value checking test context >?> (λ v. if is_true v then checked_in_scope (checked_does checking then_part context) else meant nothing)
  checked_does checking (s.Branches test then_part else_part) = λ context.
      checked_value checking test context
      >?> (λ v. if is_true v then checked_in_scope (checked_does checking then_part context) else checked_in_scope (checked_does checking else_part context))
  checked_does checking (s.Repeats test body) = λ context. checked_loop checking context test (checked_in_scope (checked_does checking body context))
  checked_does checking (s.Loops first test step body) = λ context.
      checked_in_scope (checked_does checking first context
      >?> (λ _. checked_loop checking context test (checked_in_scope (checked_does checking body context) >?> (λ _. checked_does checking step context))))
  checked_does checking (s.Prints at exprs) = λ context. checked_all (map (λ expr. checked_value checking expr context) exprs) >?> (λ vs. meant (printed (line_of vs)))
  checked_does checking (s.Gives at expr) = λ context. checked_passes checking expr context >?> (λ passed. meant (gives_result at.line passed))
  checked_does checking (s.Returns at expr) = checked_returned checking expr

  pub checked_each : Checking → Stmts → Context → List CheckedEffect
  checked_each checking s.NoStmt = λ context. []
  checked_each checking (s.MoreStmts stmt stmts) = λ context. checked_does checking stmt context ∷ checked_each checking stmts context
