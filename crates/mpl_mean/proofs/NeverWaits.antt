-- A well typed program's body waits only for replies.
use Rattle.std.proofs.Common.{◌≡◌, ◌≢◌, ℕ, true, List, [], ◌∷◌, length, ℤ, refl}
use Rattle.std.specs.FinMap.{FinMap, empty}
use Rattle.std.specs.Ordering.{nat_cmp}
use Rattle.mpl_ast.specs.declared.program.Program.{Program}
use Rattle.mpl_value.specs.declared.body.BodyEnd.TheVariants as end
use Rattle.mpl_value.specs.declared.body.BodyStart.{BodyStart}
use Rattle.mpl_value.specs.declared.known.Known.{Known}
use Rattle.mpl_mean.specs.Meaning.BodyMeaning.{yield_of}
use Rattle.mpl_mean.specs.Meaning.DirectRun.{direct_run, main_start}
use Rattle.mpl_mean.specs.TypeRules.Rules.{is_typed}
use Rattle.mpl_mean.specs.Laws.Sizes.{Every, RepliesFit, StartFits, WordsFit, words_given}
use Rattle.mpl_mean.specs.Laws.Waiting.{CanCall, HasPersistent, HasReply}
use Rattle.mpl_mean.proofs.Sizes.SizedPrograms.{well_program}
use Rattle.mpl_mean.proofs.Sizes.SizedYields.{YieldFits, body_yields}

pub answered_never_waits : (p : Program) (start : BodyStart) (replies : FinMap nat_cmp Known) (n : ℕ) → is_typed p ≡ true → StartFits p start → RepliesFit p start replies n
    → Every (HasReply replies) (yield_of p start replies n).calls → (yield_of p start replies n).end ≢ end.Waits
answered_never_waits p start replies n typed starts fit answered =
    (body_yields p.declarations (well_program p typed) (Unit {0}) ⊥ replies n start start.member starts.words (λ c. (tt, fit, answered))).waits

none_made : {A : Type 0} (P : A → Type 0) (xs : List A) → Every (λ x. P x × ⊥) xs → xs ≡ []
none_made P [] h = refl
none_made P (x ∷ xs) h = absurd h.0.1

-- a body that can make no call
silent : (p : Program) (start : BodyStart) (replies : FinMap nat_cmp Known) (n : ℕ) → is_typed p ≡ true → WordsFit p.declarations start start.member → (CanCall p.declarations start.member → ⊥)
    → YieldFits p.declarations ⊥ ⊥ (words_given p.declarations start.member) (length start.state) (yield_of p start replies n)
silent p start replies n typed words cannot =
    body_yields p.declarations (well_program p typed) ⊥ ⊥ replies n start start.member words (λ c. absurd (cannot c))

pub silent_makes_none : (p : Program) (start : BodyStart) (replies : FinMap nat_cmp Known) (n : ℕ) → is_typed p ≡ true → StartFits p start → (CanCall p.declarations start.member → ⊥)
    → (yield_of p start replies n).calls ≡ []
silent_makes_none p start replies n typed starts cannot = none_made _ _ (silent p start replies n typed starts.words cannot).made

pub silent_never_waits : (p : Program) (start : BodyStart) (replies : FinMap nat_cmp Known) (n : ℕ) → is_typed p ≡ true → StartFits p start → (CanCall p.declarations start.member → ⊥)
    → (yield_of p start replies n).end ≢ end.Waits
silent_never_waits p start replies n typed starts cannot = (silent p start replies n typed starts.words cannot).waits

pub direct_never_waits : (p : Program) (input : List ℤ) (n : ℕ) → is_typed p ≡ true → (HasPersistent p.declarations → ⊥) → (direct_run p input n).end ≢ end.Waits
direct_never_waits p input n typed cannot = (silent p (main_start input) empty n typed (refl, refl) cannot).waits
