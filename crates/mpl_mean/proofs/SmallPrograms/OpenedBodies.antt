-- What a program does, in a form that computes.
use Rattle.std.proofs.Common.{◌≡◌, ℕ, zero, suc, List, [], map, Option, Some, None, ℤ, refl, ap, ap₂, ◌∙◌}
use Rattle.std.specs.Fmt.{digits}
use Rattle.std.specs.FinMap.{FinMap, empty}
use Rattle.std.specs.Ordering.{nat_cmp}
use Rattle.mpl_ast.specs.declared.program.Declaration.{Declaration}
use Rattle.mpl_ast.specs.declared.program.Program.{Program}
use Rattle.mpl_ast.specs.declared.statement.Statement.{Statement}
use Rattle.mpl_value.specs.declared.body.Arg.{Arg}
use Rattle.mpl_value.specs.declared.body.BodyEnd.TheVariants as end
use Rattle.mpl_value.specs.declared.body.BodyStart.{BodyStart}
use Rattle.mpl_value.specs.declared.body.MemberId.{MemberId}
use Rattle.mpl_value.specs.declared.body.Yield.{Yield}
use Rattle.mpl_value.specs.declared.known.Known.{Known}
use Rattle.mpl_value.specs.declared.known.TrapKind.TheVariants.{NoReply}
use Rattle.mpl_mean.specs.Meaning.BodyMeaning.{back_with, callees_at, body_of, context_with, formals_holding, in_class, main_statements, main_yield, member_end, member_of_classes, member_yield, split_words, store_of, store_with, with_variables, yield_of}
use Rattle.mpl_mean.specs.Meaning.Context.{Callees, Context}
use Rattle.mpl_mean.specs.Meaning.DirectRun.{direct_run, main_start}
use Rattle.mpl_mean.specs.Meaning.Layout.{Class, Function, Member, classes_of}
use Rattle.mpl_mean.specs.Meaning.StatementMeaning.{Does, Effect, does}
use Rattle.mpl_mean.specs.Meaning.Store.{Step, Ends, Goes, Outcome, Returns, ◌>>◌, in_turn, spend, stop, trap}
use Rattle.mpl_mean.proofs.SmallPrograms.OpenTrees.{open_trees}
use Rattle.mpl_mean.proofs.SmallPrograms.OpenedStatements.{does_opens, does_to}

abbrev pub Doer : Type 0
Doer = Statement → Does

abbrev pub run_by : Doer → Context → List Statement → Effect
run_by d context statements = spend context.turns >> in_turn (map (λ s. d s context) statements)

abbrev regular_by : Doer → Context → Member → List (List ℤ) → Step Arg
regular_by d context m arguments store = ended (run_by d context m.body.statements (store_with (formals_holding m.formals arguments) [] [] store.turns)) where
  ended : Outcome (Unit {0}) → Outcome Arg
  ended outcome = back_with (store_of outcome).turns (member_end m outcome) store

abbrev plain_by : Doer → Context → Function → List (List ℤ) → Step (List ℤ)
plain_by d context f arguments store = ended (run_by d context f.body.statements (with_variables (formals_holding f.formals arguments) store)) where
  ended : Outcome (Unit {0}) → Outcome (List ℤ)
  ended (Goes value after) = trap NoReply f.body.mark_line (with_variables store.variables after)
  ended (Returns words after) = Goes words (with_variables store.variables after)
  ended (Ends e after) = Ends e (with_variables store.variables after)

-- what is called one level up from what is called below
abbrev one_up : Doer → List Declaration → ℕ → FinMap nat_cmp Known → Callees → Callees → Callees
one_up d ds turns replies callees alone = record {
  plain = λ f arguments. plain_by d (context_with ds turns replies callees) f arguments;
  regular = λ m arguments. regular_by d (context_with ds turns empty alone) m arguments;
}

abbrev callees_by : Doer → ℕ → List Declaration → ℕ → FinMap nat_cmp Known → Callees
callees_by d zero ds turns replies = record {
  plain = λ f arguments. spend turns >> stop end.Spent;
  regular = λ m arguments. spend turns >> stop end.Spent;
}
callees_by d (suc level) ds turns replies = record {
  plain = λ f arguments. plain_by d (context_with ds turns replies (callees_by d level ds turns replies)) f arguments;
  regular = λ m arguments. regular_by d (context_with ds turns empty (callees_by d level ds turns empty)) m arguments;
}

callees_is : (level : ℕ) (ds : List Declaration) (turns : ℕ) (replies : FinMap nat_cmp Known) → callees_at level ds turns replies ≡ callees_by does level ds turns replies
callees_is zero ds turns replies = refl
callees_is (suc level) ds turns replies = ap₂ (one_up does ds turns replies) (callees_is level ds turns replies) (callees_is level ds turns empty)

abbrev member_by : Doer → Context → BodyStart → Option (Class × Member) → Yield
member_by d context start None = main_yield (Ends end.Waits (store_with [] start.state start.input 0))
member_by d context start (Some found) =
    member_yield found.1 (run_by d (in_class found.0 start context) found.1.body.statements
    (store_with (formals_holding found.1.formals (split_words context.declarations found.1.formals start.args)) start.state start.input 0))

abbrev main_by : Doer → Context → BodyStart → Yield
main_by d context start =
    main_yield (run_by d (record context { number = start.number }) (main_statements context.declarations) (store_with [] start.state start.input 0))

abbrev body_by : Doer → Context → BodyStart → Option MemberId → Yield
body_by d context start None = main_by d context start
body_by d context start (Some m) = member_by d context start (member_of_classes m.0 (classes_of context.declarations))

abbrev yield_by : Doer → Program → BodyStart → FinMap nat_cmp Known → ℕ → Yield
yield_by d p start replies turns =
    body_by d (context_with p.declarations turns replies (callees_by d turns p.declarations turns replies)) start start.member

-- what a program does where each of its trees has at most so many layers
abbrev pub yield_to : ℕ → Program → BodyStart → FinMap nat_cmp Known → ℕ → Yield
yield_to n = yield_by (does_to n)

pub yield_opens : (n : ℕ) (p : Program) (start : BodyStart) (replies : FinMap nat_cmp Known) (turns : ℕ) → yield_of p start replies turns ≡ yield_to n p start replies turns
yield_opens n p start replies turns =
    ap (λ callees. body_of (context_with p.declarations turns replies callees) start start.member) (callees_is turns p.declarations turns replies)
    ∙ ap (λ d. yield_by d p start replies turns) (does_opens n)

-- the same, where the trees are open
unfoldable pub opened_yield : Program → BodyStart → FinMap nat_cmp Known → ℕ → Yield
unfolding open_trees digits
opened_yield = yield_to 40

pub opens : (p : Program) (start : BodyStart) (replies : FinMap nat_cmp Known) (turns : ℕ) → yield_of p start replies turns ≡ opened_yield p start replies turns
unfolding opened_yield
opens = yield_opens 40

pub runs : (p : Program) (input : List ℤ) (turns : ℕ) → direct_run p input turns ≡ opened_yield p (main_start input) empty turns
runs p input turns = opens p (main_start input) empty turns
