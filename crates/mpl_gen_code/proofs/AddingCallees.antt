-- What is called in place only adds calls.
use Rattle.std.proofs.Common.{◌≡◌, ℕ, zero, suc, List, ℤ, refl, subst}
use Rattle.std.specs.FinMap.{FinMap, empty}
use Rattle.std.specs.Ordering.{nat_cmp}
use Rattle.mpl_ast.specs.declared.program.Declaration.{Declaration}
use Rattle.mpl_value.specs.declared.body.BodyEnd.{BodyEnd}
use Rattle.mpl_value.specs.declared.body.BodyEnd.TheVariants as end
use Rattle.mpl_value.specs.declared.body.BodyResult.{BodyResult}
use Rattle.mpl_value.specs.declared.known.Known.{Known}
use Rattle.mpl_mean.specs.Meaning.BodyMeaning.{back_with, callees_at, context_with, formals_holding, member_end, with_variables}
use Rattle.mpl_mean.specs.Meaning.Context.{Context}
use Rattle.mpl_mean.specs.Meaning.Layout.{Function, Member}
use Rattle.mpl_mean.specs.Meaning.Store.{Store, Outcome, Goes, Returns, Ends, ◌>>◌, spend, stop}
use Rattle.mpl_mean.specs.Plain.Stmt.{Stmts, stmts_of}
use Rattle.mpl_checked.specs.Checked.CheckedBodies.{after_function, after_member, checked_callees_at, checked_run}
use Rattle.mpl_checked.specs.Checked.CheckedSteps.{Checked, Meant, Astray, Checking, meant, unless_astray}
use Rattle.mpl_gen_code.proofs.Adding.{Adds, Promised, Within, adds_none, adds_then, calls_of, same_then, spend_same}
use Rattle.mpl_gen_code.proofs.AddingStatements.{adds_each, adds_in_turn}

module _ (ds : List Declaration) (vowed : FinMap nat_cmp Known) where
  abbrev Fs : Checking → Type 0
  Fs checking = (f : Function) (arguments : List (List ℤ)) → Adds ds vowed (checking.callees.plain f arguments)

  abbrev Ms : Checking → Type 0
  Ms checking = (m : Member) (arguments : List (List ℤ)) → Adds ds vowed (checking.callees.regular m arguments)

  pub adds_run : (checking : Checking) (context : Context) → Fs checking → Ms checking → (stmts : Stmts) → Adds ds vowed (checked_run checking context stmts)
  adds_run checking context plain regular stmts =
      adds_then ds vowed (adds_none ds vowed (spend_same context.turns)) (λ _. adds_in_turn ds vowed _ (adds_each ds vowed checking context plain regular stmts))

  after_function_within : (f : Function) (s : Store) (o : Checked (Outcome (Unit {0}))) → Within ds vowed (unless_astray (after_function f s) o) → Within ds vowed o
  after_function_within f s (Meant (Goes u t)) w = w
  after_function_within f s (Meant (Returns words t)) w = w
  after_function_within f s (Meant (Ends e t)) w = w
  after_function_within f s Astray w = w

  back_same : (turns : ℕ) (e : BodyEnd) (given : BodyResult) (s : Store) → calls_of (back_with turns (e, given) s) ≡ s.calls
  back_same turns end.Done given s = refl
  back_same turns (end.Trap t) given s = refl
  back_same turns end.Waits given s = refl
  back_same turns end.Spent given s = refl

  after_member_within : (m : Member) (s : Store) (o : Checked (Outcome (Unit {0}))) → Within ds vowed (unless_astray (after_member m s) o) → Promised ds vowed s.calls
  after_member_within m s (Meant o) w = subst (Promised ds vowed) (back_same _ (member_end m o).0 (member_end m o).1 s) w
  after_member_within m s Astray w = absurd w

  nothing_left : {A : Type 0} (turns : ℕ) → Adds ds vowed (meant (spend turns >> stop {A = A} end.Spent))
  nothing_left {A} turns = adds_none ds vowed (λ s. same_then (spend turns s) (λ _. stop {A = A} end.Spent) s (spend_same turns s) (λ _ t. refl))

  mutual
    pub plain_adds : (marks : ℕ → Rattle.std.specs.Prelude.Bool) (level turns : ℕ) (table : FinMap nat_cmp Known) (f : Function) (arguments : List (List ℤ)) → Adds ds vowed ((checked_callees_at marks level ds turns table).plain f arguments)
    plain_adds marks zero turns table f arguments = nothing_left turns
    plain_adds marks (suc level) turns table f arguments = record {
      back = λ s w.
          (adds_run (record { marks = marks; callees = checked_callees_at marks level ds turns table }) (context_with ds turns table (callees_at level ds turns table))
          (plain_adds marks level turns table) (regular_adds marks level turns table) (stmts_of f.body)).back (with_variables (formals_holding f.formals arguments) s)
          (after_function_within f s _ w);
    }

    pub regular_adds : (marks : ℕ → Rattle.std.specs.Prelude.Bool) (level turns : ℕ) (table : FinMap nat_cmp Known) (m : Member) (arguments : List (List ℤ)) → Adds ds vowed ((checked_callees_at marks level ds turns table).regular m arguments)
    regular_adds marks zero turns table m arguments = nothing_left turns
    regular_adds marks (suc level) turns table m arguments = record { back = λ s w. after_member_within m s _ w }
