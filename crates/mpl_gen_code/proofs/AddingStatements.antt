-- Statements only add calls.
use Rattle.std.proofs.Common.{◌≡◌, ℕ, zero, suc, ◌+◌, Bool, true, false, List, [], ◌∷◌, map, length, Option, Some, None, ℤ, refl}
use Rattle.std.specs.FinMap.{FinMap}
use Rattle.std.specs.Ordering.{nat_cmp}
use Rattle.mpl_ast.specs.declared.expression.Target.{Target}
use Rattle.mpl_ast.specs.declared.program.Declaration.{Declaration}
use Rattle.mpl_ast.specs.declared.statement.TypeName.{TypeName}
use Rattle.mpl_value.specs.declared.body.Arg.{Arg}
use Rattle.mpl_value.specs.declared.body.BodyResult.{BodyResult}
use Rattle.mpl_value.specs.declared.body.BodyResult.TheVariants as result
use Rattle.mpl_mean.specs.Meaning.Context.{Context}
use Rattle.mpl_mean.specs.Meaning.Layout.{Class, Function, Member}
use Rattle.mpl_mean.specs.Meaning.PlaceMeaning.{Location, location_of}
use Rattle.mpl_mean.specs.Meaning.StatementMeaning.{give_result, new_object, created}
use Rattle.mpl_mean.specs.Meaning.Store.{Store, Outcome, Goes, Returns, Ends, Variable, only_oldest, spend}
use Rattle.mpl_mean.specs.Meaning.Values.{Value, is_true}
use Rattle.mpl_mean.specs.Plain.Expr.{Expr}
use Rattle.mpl_mean.specs.Plain.Expr as e
use Rattle.mpl_mean.specs.Plain.Stmt.{NewLocal, Stmt, Stmts}
use Rattle.mpl_mean.specs.Plain.Stmt as s
use Rattle.mpl_checked.specs.Checked.CheckedExpressions.{checked_passes, checked_value}
use Rattle.mpl_checked.specs.Checked.CheckedStatements.{checked_assign, checked_assign_element, checked_assigns, checked_create, checked_create_in, checked_declares, checked_does, checked_each, checked_force_passed, checked_initial, checked_into, checked_part, checked_put, checked_returned, checked_while}
use Rattle.mpl_checked.specs.Checked.CheckedSteps.{Checked, Meant, Astray, CheckedStep, Checking, checked_in_scope, checked_in_turn, unless_astray, ◌>?>◌}
use Rattle.mpl_gen_code.proofs.Adding.{Adds, EachAdds, Within, adds_all, adds_base, adds_force, adds_if, adds_none, adds_passes, adds_then, adds_value, at_store, calls_of, force_same, index_same, same_then, spend_same}

module _ (ds : List Declaration) (table : FinMap nat_cmp Rattle.mpl_value.specs.declared.known.Known.Known) where
  -- ---- one after another, in scopes and in loops

  pub adds_in_turn : (steps : List (CheckedStep (Unit {0}))) → EachAdds ds table steps → Adds ds table (checked_in_turn steps)
  adds_in_turn [] each = adds_none ds table (λ s. refl)
  adds_in_turn (step ∷ steps) each = adds_then ds table each.0 (λ _. adds_in_turn steps each.1)

  pub within_scope : {A : Type 0} (count : ℕ) (o : Checked (Outcome A)) → Within ds table (unless_astray (only_oldest count) o) → Within ds table o
  within_scope count (Meant (Goes a t)) w = w
  within_scope count (Meant (Returns words t)) w = w
  within_scope count (Meant (Ends x t)) w = w
  within_scope count Astray w = w

  pub adds_in_scope : {step : CheckedStep (Unit {0})} → Adds ds table step → Adds ds table (checked_in_scope step)
  adds_in_scope {step} on = record { back = λ s w. on.back s (within_scope (length s.variables) (step s) w) }

  pub adds_while : (fuel turns : ℕ) {test : CheckedStep Value} {body : CheckedStep (Unit {0})} → Adds ds table test → Adds ds table body → Adds ds table (checked_while fuel turns test body)
  adds_while zero turns on_test on_body = adds_none ds table (λ s. refl)
  adds_while (suc fuel) turns on_test on_body =
      adds_then ds table (adds_none ds table (spend_same turns)) (λ _. adds_then ds table on_test (λ value.
      adds_if ds table (is_true value) (adds_then ds table on_body (λ _. adds_while fuel turns on_test on_body)) (adds_none ds table (λ s. refl))))

  module _ (checking : Checking) (context : Context) (plain : (f : Function) (arguments : List (List ℤ)) → Adds ds table (checking.callees.plain f arguments))
      (regular : (m : Member) (arguments : List (List ℤ)) → Adds ds table (checking.callees.regular m arguments)) where
    value : (t : Expr) → Adds ds table (checked_value checking t context)
    value = adds_value ds table checking context plain regular

    passes : (t : Expr) → Adds ds table (checked_passes checking t context)
    passes = adds_passes ds table checking context plain regular

    -- ---- locals and assignments

    adds_initial : (type : TypeName) (local : NewLocal) (o : Option Expr) → Adds ds table (checked_initial checking context type local o)
    adds_initial type local None = adds_none ds table (λ s. refl)
    adds_initial type local (Some t) = passes t

    pub adds_declares : (type : TypeName) (local : NewLocal) → Adds ds table (checked_declares checking context type local)
    adds_declares type local = adds_then ds table (adds_initial type local local.initialiser) (λ holds. adds_none ds table (λ s. refl))

    pub adds_locals : (type : TypeName) (locals : List NewLocal) → EachAdds ds table (map (checked_declares checking context type) locals)
    adds_locals type [] = tt
    adds_locals type (local ∷ locals) = (adds_declares type local, adds_locals type locals)

    pub adds_put : (node : ℕ) (v : Option Variable) (offset : ℕ) (words : List ℤ) → Adds ds table (checked_put checking node v offset words)
    adds_put node (Some v) offset words = adds_then ds table (adds_force ds table (checking.marks node) v.holds) (λ old. adds_none ds table (λ s. refl))
    adds_put node None offset words = adds_none ds table (λ s. refl)

    pub adds_force_passed : (t : Expr) (a : Arg) → Adds ds table (checked_force_passed checking t a)
    adds_force_passed (e.CallOnOwn at member arguments) a = adds_none ds table (force_same a)
    adds_force_passed (e.CallOnTarget at target member arguments) a = adds_none ds table (force_same a)
    adds_force_passed (e.Number at z) a = adds_force ds table _ a
    adds_force_passed (e.Truth at b) a = adds_force ds table _ a
    adds_force_passed (e.Own at) a = adds_force ds table _ a
    adds_force_passed (e.Input at) a = adds_force ds table _ a
    adds_force_passed (e.Whole at target) a = adds_force ds table _ a
    adds_force_passed (e.Element at line target index) a = adds_force ds table _ a
    adds_force_passed (e.PlainCall at function arguments) a = adds_force ds table _ a
    adds_force_passed (e.Parenthesized at t) a = adds_force ds table _ a
    adds_force_passed (e.Unary at line operator t) a = adds_force ds table _ a
    adds_force_passed (e.Binary at line operator left right) a = adds_force ds table _ a

    adds_part : (node : ℕ) (t : Expr) (l : Location) (a : Arg) → Adds ds table (checked_part checking node t l a)
    adds_part node t l a = adds_then ds table (adds_force_passed t a) (λ words. adds_put node l.variable l.offset words)

    adds_into : (node : ℕ) (t : Expr) (l : Location) (v : Option Variable) (b : Bool) (a : Arg) → Adds ds table (checked_into checking node t l v b a)
    adds_into node t l (Some v) true a = adds_none ds table (λ s. refl)
    adds_into node t l (Some v) false a = adds_part node t l a
    adds_into node t l None b a = adds_part node t l a

    adds_assign : (node : ℕ) (t : Expr) (l : Option Location) (a : Arg) → Adds ds table (checked_assign checking node t l a)
    adds_assign node t None a = adds_none ds table (λ s. refl)
    adds_assign node t (Some l) a = adds_into node t l l.variable l.is_whole a

    pub adds_assign_at : (node : ℕ) (t : Expr) (target : Target) (a : Arg) → Adds ds table (λ s. checked_assign checking node t (location_of context target s) a s)
    adds_assign_at node t target a = at_store ds table {f = λ l. checked_assign checking node t l a} {g = location_of context target} (λ l. adds_assign node t l a)

    adds_assign_element : (node line : ℕ) (l : Option Location) (i : Value) (words : List ℤ) → Adds ds table (checked_assign_element checking node line l i words)
    adds_assign_element node line None i words = adds_none ds table (λ s. refl)
    adds_assign_element node line (Some l) i words = adds_then ds table (adds_none ds table (index_same line _)) (λ n. adds_put node l.variable (l.offset + n) words)

    pub adds_element_at : (node line : ℕ) (target : Target) (index : Expr) (words : List ℤ)
        → Adds ds table (checked_value checking index context >?> (λ i s. checked_assign_element checking node line (location_of context target s) i words s))
    adds_element_at node line target index words =
        adds_then ds table (value index) (λ i. at_store ds table {f = λ l. checked_assign_element checking node line l i words} {g = location_of context target} (λ l. adds_assign_element node line l i words))

    adds_assigns : (place t : Expr) → Adds ds table (checked_assigns checking place t context)
    adds_assigns (e.Whole at target) t = adds_then ds table (passes t) (adds_assign_at at.id t target)
    adds_assigns (e.Element at line target index) t =
        adds_then ds table (passes t) (λ a. adds_then ds table (adds_force_passed t a) (adds_element_at at.id line target index))
    adds_assigns (e.Number at z) t = adds_then ds table (passes t) (λ a. adds_none ds table (λ s. refl))
    adds_assigns (e.Truth at b) t = adds_then ds table (passes t) (λ a. adds_none ds table (λ s. refl))
    adds_assigns (e.Own at) t = adds_then ds table (passes t) (λ a. adds_none ds table (λ s. refl))
    adds_assigns (e.Input at) t = adds_then ds table (passes t) (λ a. adds_none ds table (λ s. refl))
    adds_assigns (e.PlainCall at function arguments) t = adds_then ds table (passes t) (λ a. adds_none ds table (λ s. refl))
    adds_assigns (e.Parenthesized at inner) t = adds_then ds table (passes t) (λ a. adds_none ds table (λ s. refl))
    adds_assigns (e.Unary at line operator operand) t = adds_then ds table (passes t) (λ a. adds_none ds table (λ s. refl))
    adds_assigns (e.Binary at line operator left right) t = adds_then ds table (passes t) (λ a. adds_none ds table (λ s. refl))
    adds_assigns (e.CallOnOwn at member arguments) t = adds_then ds table (passes t) (λ a. adds_none ds table (λ s. refl))
    adds_assigns (e.CallOnTarget at target member arguments) t = adds_then ds table (passes t) (λ a. adds_none ds table (λ s. refl))

    -- ---- objects and results

    new_same : (class : Option Class) (s : Store) → calls_of (new_object context class s) ≡ s.calls
    new_same None s = refl
    new_same (Some class) s = same_then (spend context.turns s) (λ _. created context class) s (spend_same context.turns s) (λ _ t. refl)

    adds_create_in : (node : ℕ) (l : Location) (v : Option Variable) (b : Bool) → Adds ds table (checked_create_in checking context node l v b)
    adds_create_in node l (Some v) true = adds_then ds table (adds_none ds table (new_same _)) (λ object. adds_none ds table (λ s. refl))
    adds_create_in node l (Some v) false =
        adds_then ds table (adds_base ds table checking node (Some v)) (λ _. adds_then ds table (adds_none ds table (new_same _)) (λ object. adds_put node (Some v) l.offset (object ∷ [])))
    adds_create_in node l None b = adds_then ds table (adds_none ds table (new_same _)) (λ object. adds_none ds table (λ s. refl))

    adds_create : (node : ℕ) (l : Option Location) → Adds ds table (checked_create checking context node l)
    adds_create node None = adds_none ds table (λ s. refl)
    adds_create node (Some l) = adds_create_in node l l.variable l.is_whole

    give_same : (line : ℕ) (a : Arg) (r : BodyResult) (s : Store) → calls_of (give_result line a r s) ≡ s.calls
    give_same line a result.Open s = refl
    give_same line a (result.Known known) s = refl
    give_same line a result.Unknown s = refl

    adds_returned : (o : Option Expr) → Adds ds table (checked_returned checking o context)
    adds_returned None = adds_none ds table (λ s. refl)
    adds_returned (Some t) = adds_then ds table (value t) (λ v. adds_none ds table (λ s. refl))

    adds_each_value : (ts : List Expr) → EachAdds ds table (map (λ t. checked_value checking t context) ts)
    adds_each_value [] = tt
    adds_each_value (t ∷ ts) = (value t, adds_each_value ts)

    -- ---- the forms

    mutual
      pub adds_does : (stmt : Stmt) → Adds ds table (checked_does checking stmt context)
      adds_does s.Nothing = adds_none ds table (λ s. refl)
      adds_does (s.Within stmts) = adds_in_scope (adds_in_turn _ (adds_each stmts))
      adds_does (s.Locals type locals) = adds_in_turn _ (adds_locals type locals)
      adds_does (s.Assigns at place t) = adds_assigns place t
      adds_does (s.Calls call) = adds_then ds table (passes call) (λ _. adds_none ds table (λ s. refl))
      adds_does (s.Creates at target) = at_store ds table {f = checked_create checking context at.id} {g = location_of context target} (adds_create at.id)
      adds_does (s.When test then_part) =
          adds_then ds table (value test) (λ v. adds_if ds table (is_true v) (adds_in_scope (adds_does then_part)) (adds_none ds table (λ s. refl)))
      adds_does (s.Branches test then_part else_part) =
          adds_then ds table (value test) (λ v. adds_if ds table (is_true v) (adds_in_scope (adds_does then_part)) (adds_in_scope (adds_does else_part)))
      adds_does (s.Repeats test body) = adds_while _ _ (value test) (adds_in_scope (adds_does body))
      adds_does (s.Loops first test step body) =
          adds_in_scope (adds_then ds table (adds_does first) (λ _.
          adds_while _ _ (value test) (adds_then ds table (adds_in_scope (adds_does body)) (λ _. adds_does step))))
      adds_does (s.Prints at ts) = adds_then ds table (adds_all ds table _ (adds_each_value ts)) (λ vs. adds_none ds table (λ s. refl))
      adds_does (s.Gives at t) = adds_then ds table (passes t) (λ a. adds_none ds table (λ s. give_same at.line a s.result s))
      adds_does (s.Returns at o) = adds_returned o

      pub adds_each : (stmts : Stmts) → EachAdds ds table (checked_each checking stmts context)
      adds_each s.NoStmt = tt
      adds_each (s.MoreStmts stmt stmts) = (adds_does stmt, adds_each stmts)
