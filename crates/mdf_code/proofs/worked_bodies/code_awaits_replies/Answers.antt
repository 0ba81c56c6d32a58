use Rattle.std.proofs.Common.{◌≡◌, ℕ, zero, suc, [], ◌∷◌, refl, ap, pos}
use Rattle.std.proofs.Math.Path.{fun_ext}
use Rattle.std.specs.Fmt.{digits}
use Rattle.mpl_value.specs.declared.body.Arg.{Arg}
use Rattle.mpl_value.specs.declared.body.Arg.TheVariants.{Know, Unknown}
use Rattle.mpl_value.specs.CallAnswers.{arg_of_reply}
use Rattle.mdf_code.specs.SmallBodies.{puts_and_gets}
use Rattle.mdf_code.specs.SmallCode.{main_start}
use Rattle.mdf_code.specs.Yields.{replies_of, yield_under}
use Rattle.mdf_code.proofs.worked_bodies.code_awaits_replies.Goals as goal

-- a table of replies with these to the first two calls
abbrev with_two : (ℕ → Arg) → Arg → Arg → ℕ → Arg
with_two table first second zero = table zero
with_two table first second (suc zero) = first
with_two table first second (suc (suc zero)) = second
with_two table first second (suc (suc (suc k))) = table (suc (suc (suc k)))

is_with_two : (table : ℕ → Arg) (first second : Arg) → table 1 ≡ first → table 2 ≡ second → table ≡ with_two table first second
is_with_two table first second one two = fun_ext each where
  each : (k : ℕ) → table k ≡ with_two table first second k
  each zero = refl
  each (suc zero) = one
  each (suc (suc zero)) = two
  each (suc (suc (suc k))) = refl

pub returns-clause-two_replies : goal.returns-clause-two_replies
unfolding digits
returns-clause-two_replies c = λ replies first second.
    ap (λ (table : ℕ → Arg). yield_under 100 puts_and_gets (main_start []) table 5)
    (is_with_two (replies_of replies) (Know []) (Know (pos 7 ∷ [])) (ap arg_of_reply first) (ap arg_of_reply second))

pub returns-clause-no_reply : goal.returns-clause-no_reply
returns-clause-no_reply c = λ replies none.
    ap (λ (table : ℕ → Arg). yield_under 100 puts_and_gets (main_start []) table 5)
    (is_with_two (replies_of replies) _ Unknown refl (ap arg_of_reply none))

pub returns-clause-put : goal.returns-clause-put
returns-clause-put c = λ replies. refl

pub returns-clause-get : goal.returns-clause-get
returns-clause-get c = λ replies. refl
