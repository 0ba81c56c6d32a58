-- The checked meaning of bodies, from their start to their end.
use Rattle.std.specs.Prelude.{ℕ, zero, suc, Bool, List, [], codes, Option, Some, None, ℤ}
use Rattle.std.specs.FinMap.{FinMap, empty}
use Rattle.std.specs.Ordering.{nat_cmp}
use Rattle.mpl_ast.specs.declared.program.Declaration.{Declaration}
use Rattle.mpl_ast.specs.declared.program.Program.{Program}
use Rattle.mpl_value.specs.declared.body.Arg.{Arg}
use Rattle.mpl_value.specs.declared.body.BodyEnd.TheVariants as end
use Rattle.mpl_value.specs.declared.body.BodyStart.{BodyStart}
use Rattle.mpl_value.specs.declared.body.MemberId.{MemberId}
use Rattle.mpl_value.specs.declared.body.Yield.{Yield}
use Rattle.mpl_value.specs.declared.known.Known.{Known}
use Rattle.mpl_value.specs.declared.known.TrapKind.TheVariants.{NoReply}
use Rattle.mpl_mean.specs.Meaning.BodyMeaning.{back_with, callees_at, context_with, formals_holding, in_class, main_yield, member_end, member_of_classes, member_yield, split_words, store_of, store_with, with_variables}
use Rattle.mpl_mean.specs.Meaning.Context.{Context}
use Rattle.mpl_mean.specs.Meaning.Layout.{Class, Function, Member, classes_of, function_named}
use Rattle.mpl_mean.specs.Meaning.Store.{Store, Outcome, Goes, Returns, Ends, ◌>>◌, spend, stop, trap}
use Rattle.mpl_mean.specs.Plain.Stmt.{Stmts, NoStmt, stmts_of}
use Rattle.mpl_checked.specs.Checked.CheckedStatements.{CheckedEffect, checked_each}
use Rattle.mpl_checked.specs.Checked.CheckedSteps.{Checked, Meant, CheckedCallees, CheckedStep, Checking, ◌>?>◌, checked_in_turn, meant, unless_astray}

-- a turn for the start, and then the statements
abbrev pub checked_run : Checking → Context → Stmts → CheckedEffect
checked_run checking context stmts = meant (spend context.turns) >?> (λ _. checked_in_turn (checked_each checking stmts context))

-- ---- calling in place

-- the caller goes on with the turns that a regular member's body took
abbrev pub after_member : Member → Store → Outcome (Unit {0}) → Outcome Arg
after_member m store outcome = back_with (store_of outcome).turns (member_end m outcome) store

-- a plain function ends with its words, and the caller has its own variables again
abbrev pub after_function : Function → Store → Outcome (Unit {0}) → Outcome (List ℤ)
after_function f store (Goes value after) = trap NoReply f.body.mark_line (with_variables store.variables after)
after_function f store (Returns words after) = Goes words (with_variables store.variables after)
after_function f store (Ends e after) = Ends e (with_variables store.variables after)

abbrev pub checked_member : Checking → Context → Member → List (List ℤ) → CheckedStep Arg
checked_member checking context m arguments store =
    unless_astray (after_member m store) (checked_run checking context (stmts_of m.body) (store_with (formals_holding m.formals arguments) [] [] store.turns))

abbrev pub checked_function : Checking → Context → Function → List (List ℤ) → CheckedStep (List ℤ)
checked_function checking context f arguments store =
    unless_astray (after_function f store) (checked_run checking context (stmts_of f.body) (with_variables (formals_holding f.formals arguments) store))

-- what is called so many levels deep
abbrev pub checked_callees_at : (marks : ℕ → Bool) → ℕ → List Declaration → ℕ → FinMap nat_cmp Known → CheckedCallees
checked_callees_at marks zero ds turns replies = record {
  plain = λ f arguments. meant (spend turns >> stop end.Spent);
  regular = λ m arguments. meant (spend turns >> stop end.Spent);
}
checked_callees_at marks (suc level) ds turns replies = record {
  plain = λ f arguments. checked_function (record { marks = marks; callees = checked_callees_at marks level ds turns replies })
      (context_with ds turns replies (callees_at level ds turns replies)) f arguments;
  regular = λ m arguments. checked_member (record { marks = marks; callees = checked_callees_at marks level ds turns empty })
      (context_with ds turns empty (callees_at level ds turns empty)) m arguments;
}

-- ---- yields

abbrev pub stmts_of_function : Option Function → Stmts
stmts_of_function None = NoStmt
stmts_of_function (Some f) = stmts_of f.body

abbrev pub checked_main : Checking → Context → BodyStart → Checked Yield
checked_main checking context start =
    unless_astray main_yield (checked_run checking (record context { number = start.number }) (stmts_of_function (function_named (codes "main") context.declarations))
    (store_with [] start.state start.input 0))

abbrev pub checked_of_class : Checking → Context → BodyStart → Option (Class × Member) → Checked Yield
checked_of_class checking context start None = Meant (main_yield (Ends end.Waits (store_with [] start.state start.input 0)))
checked_of_class checking context start (Some found) =
    unless_astray (member_yield found.1) (checked_run checking (in_class found.0 start context) (stmts_of found.1.body)
    (store_with (formals_holding found.1.formals (split_words context.declarations found.1.formals start.args)) start.state start.input 0))

abbrev pub checked_body : Checking → Context → BodyStart → Option MemberId → Checked Yield
checked_body checking context start None = checked_main checking context start
checked_body checking context start (Some m) = checked_of_class checking context start (member_of_classes m.0 (classes_of context.declarations))

-- What a body does from a start, under these marks and these replies to its calls, with so many turns.
abbrev pub checked_yield : (marks : ℕ → Bool) → Program → BodyStart → FinMap nat_cmp Known → ℕ → Checked Yield
checked_yield marks p start replies turns =
    checked_body (record { marks = marks; callees = checked_callees_at marks turns p.declarations turns replies })
    (context_with p.declarations turns replies (callees_at turns p.declarations turns replies)) start start.member
