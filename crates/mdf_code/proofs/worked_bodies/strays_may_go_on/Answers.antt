use Rattle.std.proofs.Common.{◌≡◌, ℕ, zero, suc, [], ◌∷◌, refl, ap, pos}
use Rattle.std.proofs.Math.Path.{fun_ext}
use Rattle.std.specs.Fmt.{digits}
use Rattle.mpl_value.specs.declared.body.Arg.{Arg}
use Rattle.mpl_value.specs.declared.body.Arg.TheVariants.{Know, Unknown}
use Rattle.mpl_value.specs.CallAnswers.{arg_of_reply}
use Rattle.mdf_code.specs.SmallBodies.{prints_unawaited}
use Rattle.mdf_code.specs.SmallCode.{main_start}
use Rattle.mdf_code.specs.Yields.{replies_of, yield_under}
use Rattle.mdf_code.proofs.worked_bodies.strays_may_go_on.Goals as goal

-- a table of replies with this to the first call
abbrev with_first : (ℕ → Arg) → Arg → ℕ → Arg
with_first table first zero = table zero
with_first table first (suc zero) = first
with_first table first (suc (suc k)) = table (suc (suc k))

is_with_first : (table : ℕ → Arg) (first : Arg) → table 1 ≡ first → table ≡ with_first table first
is_with_first table first one = fun_ext each where
  each : (k : ℕ) → table k ≡ with_first table first k
  each zero = refl
  each (suc zero) = one
  each (suc (suc k)) = refl

pub returns-clause-unknown : goal.returns-clause-unknown
returns-clause-unknown c = λ replies none.
    ap (λ (table : ℕ → Arg). yield_under 100 prints_unawaited (main_start []) table 3) (is_with_first (replies_of replies) Unknown (ap arg_of_reply none))

pub returns-clause-known : goal.returns-clause-known
unfolding digits
returns-clause-known c = λ replies first.
    ap (λ (table : ℕ → Arg). yield_under 100 prints_unawaited (main_start []) table 3) (is_with_first (replies_of replies) (Know (pos 7 ∷ [])) (ap arg_of_reply first))
