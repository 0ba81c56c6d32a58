-- Which call an object accepts next.
use Rattle.std.specs.Prelude.{ℕ, ◌&&◌, List, [], ◌∷◌, Option, Some, None, is_some, if◌then◌else◌, nat_eq, nat_lt, ℤ}
use Rattle.std.specs.Option.{option_map}
use Rattle.std.specs.Ordering.{int_eq}
use Rattle.mpl_value.specs.declared.body.CallMade.{CallMade}
use Rattle.mdf_mean.specs.declared.entry.Entry.{Entry}
use Rattle.mdf_mean.specs.declared.entry.Entry.TheVariants.{Arrive, Accept, Reply}
use Rattle.mdf_mean.specs.Meanings.{Choice, Meaning}
use Rattle.mdf_mean.specs.Histories.{CallName, accepted_as}
use Rattle.mdf_mean.specs.Ran.{Ran, argument_words, class_of, known_call, state_of}

-- ---- open calls

-- The priorities at which a call is open on an object in this state: those of the entries that name its member and hold.
abbrev pub open_at : List Choice → List ℤ → CallMade → List ℕ
open_at [] state call = []
open_at (choice ∷ others) state call =
    if nat_eq choice.member.0 call.member.0 && choice.holds state (argument_words call.args) then choice.priority ∷ open_at others state call
    else open_at others state call

abbrev pub greater : ℕ → Option ℕ → Option ℕ
greater p None = Some p
greater p (Some q) = Some (if nat_lt p q then q else p)

abbrev pub greatest : List ℕ → Option ℕ
greatest [] = None
greatest (p ∷ others) = greater p (greatest others)

abbrev pub choices_of : Meaning → Option ℤ → List Choice
choices_of m None = []
choices_of m (Some class) = m.choices class

-- ---- the pick

-- a call that is open, at the greatest priority that it is open at
pub record Candidate : Type 0 where
  pub priority : ℕ
  pub name : CallName

abbrev pub if_on : ℤ → Option CallMade → Option CallMade
if_on o None = None
if_on o (Some call) = if int_eq call.object o then Some call else None

-- a call on the object that isn't accepted yet
abbrev pub waiting_call : List Ran → List Entry → ℤ → ℕ → ℕ → Option CallMade
waiting_call bs h o i k = if is_some (accepted_as i k h) then None else if_on o (known_call bs i k)

abbrev pub priority_of : Meaning → List Ran → ℤ → Option CallMade → Option ℕ
priority_of m bs o None = None
priority_of m bs o (Some call) = greatest (open_at (choices_of m (class_of bs o)) (state_of m bs o) call)

abbrev pub candidate : Meaning → List Ran → List Entry → ℤ → ℕ → ℕ → Option Candidate
candidate m bs h o i k =
    option_map (λ priority. record { priority = priority; name = record { body = i; call = k } }) (priority_of m bs o (waiting_call bs h o i k))

-- the one of the greater priority, and of two that are equal the one that arrived first
abbrev pub better : (later earlier : Option Candidate) → Option Candidate
better None earlier = earlier
better (Some later) None = Some later
better (Some later) (Some earlier) = if nat_lt earlier.priority later.priority then Some later else Some earlier

abbrev pub best_of : Meaning → List Ran → List Entry → ℤ → List Entry → Option Candidate
best_of m bs h o [] = None
best_of m bs h o (Arrive i k ∷ before) = better (candidate m bs h o i k) (best_of m bs h o before)
best_of m bs h o (Accept number i k ∷ before) = best_of m bs h o before
best_of m bs h o (Reply i k known ∷ before) = best_of m bs h o before

-- The pick of an object: of the open calls that have arrived one of the greatest priority, and of these the first.
abbrev pub pick : Meaning → List Ran → List Entry → ℤ → Option CallName
pick m bs h o = option_map (λ (c : Candidate). c.name) (best_of m bs h o h)
