-- What is known of a source is what is said of its run.
use Rattle.std.proofs.Common.{◌≡◌, ◌≢◌, ℕ, ℤ, Bool, true, false, List, Ok, Err, inl, inr, ap, sym, subst, ◌∙◌, refl, arith, nat_cmp}
use Rattle.std.specs.FinMap.{FinMap, empty}
use Rattle.mpl_ast.specs.declared.program.Program.{Program}
use Rattle.mpl_mean.specs.Laws.Sizes.{StartFits}
use Rattle.mpl_mean.specs.Laws.Waiting.{HasPersistent}
use Rattle.mpl_mean.specs.Meaning.BodyMeaning.{yield_of}
use Rattle.mpl_mean.specs.Meaning.DirectRun.{direct_run, main_start}
use Rattle.mpl_mean.specs.TypeRules.Rules.{is_typed}
use Rattle.mpl_value.specs.declared.body.BodyEnd.TheVariants.{Waits}
use Rattle.mpl_value.specs.declared.body.BodyStart.{BodyStart}
use Rattle.mpl_value.specs.declared.body.Yield.{Yield}
use Rattle.mpl_value.specs.declared.known.Known.{Known}
use Rattle.mentat_input.specs.declared.fault.InputFault.{InputFault}
use Rattle.mentat_cmd.specs.Answer.{IsGiven}
use Rattle.mentat_cmd.specs.Input.{Input}
use Rattle.mentat_cmd.specs.Internal.Ran.{Giving, Reading}
use Rattle.mentat_cmd.specs.Program.{IsBuilt, NeedsInput, asks_for_input}
use Rattle.mentat_cmd.proofs.Persistent.{no_persistent}

-- from its own start and without replies a program's yield is its direct run
pub runs_directly : (p : Program) (y : Yield) (input : List ℤ) (start : BodyStart) (replies : FinMap nat_cmp Known) (turns : ℕ) → y ≡ yield_of p start replies turns
    → start ≡ main_start input → replies ≡ empty → y ≡ direct_run p input turns
runs_directly p y input start replies turns told starts none =
    told
    ∙ ap (λ (s : BodyStart). yield_of p s replies turns) starts
    ∙ ap (λ (r : FinMap nat_cmp Known). yield_of p (main_start input) r turns) none

-- the start of `main` fits any program
pub main_fits : (p : Program) (input : List ℤ) (start : BodyStart) → start ≡ main_start input → StartFits p start
main_fits p input start is =
    let fits : StartFits p (main_start input) = record { number = omega arith; words = (refl, refl) } in
    subst (λ (s : BodyStart). StartFits p s) (sym is) fits

-- the numbers of a run
pub given : (source : List ℕ) (input : Input) (asks : Bool) (numbers : List ℤ) → asks ≡ asks_for_input source → Giving asks input (Ok numbers) → IsGiven source input numbers
given source input true numbers is g = inr (sym is, g)
given source input false numbers is g = inl (sym is, g.0, g.1)

-- only a source that asks for its input meets a fault of it
pub faulty : (source : List ℕ) (input : Input) (p : Program) (asks : Bool) (e : InputFault) → IsBuilt source p → asks ≡ asks_for_input source → Giving asks input (Err e)
    → NeedsInput source × Reading input (Err e)
faulty source input p true e built is g = (record { program = p; source_is = built; asks = sym is }, g)
faulty source input p false e built is g = absurd g

-- a program without persistent classes never waits
pub never_waits : (budget : ℕ) (source : List ℕ) (p : Program) (input : List ℤ) (y : Yield) → IsBuilt source p → y ≡ direct_run p input budget
    → ((q : Program) (numbers : List ℤ) (n : ℕ) → is_typed q ≡ true → (HasPersistent q.declarations → ⊥) → (direct_run q numbers n).end ≢ Waits) → y.end ≡ Waits → ⊥
never_waits budget source p input y built is law waits =
    law p input budget built.accepted.typed (no_persistent p.declarations built.regular) (sym (ap (λ (z : Yield). z.end) is) ∙ waits)
