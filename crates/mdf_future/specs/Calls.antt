-- The calls that change results and what is due, the newest first: what they leave, and what is due by the calls alone.
use Rattle.std.specs.Prelude.{◌≡◌, ℕ, Bool, false, ◌==◌, ◌||◌, IsTrue, List, [], ◌∷◌, ◌++◌, remove, None, IsSome, if◌then◌else◌}
use Rattle.std.specs.FinMap.{get, empty}
use Rattle.mdf_future.specs.Consumers.{deliveries}
use Rattle.mdf_future.specs.Results.{ResultTable, opened, waited, given, may_give}
use Rattle.mdf_future.specs.declared.consumer.Consumer.{Consumer}
use Rattle.mdf_future.specs.declared.consumer.Due.{Due}
use Rattle.mdf_future.specs.declared.future.Give.{Give}
use Rattle.mdf_future.specs.declared.future.Give.TheVariants as give

pub data Call : Type 0 where
  -- the result of an actor
  Opens : ℕ → Call
  -- a consumer of a result
  Waits : ℕ → Consumer → Call
  Gives : ℕ → Give → Call
  -- the due consumer at a place
  Takes : ℕ → Call

-- what the calls leave
abbrev pub after : List Call → ResultTable
after [] = record { results = empty; due = [] }
after (Opens actor ∷ before) = opened (after before) actor
after (Waits on consumer ∷ before) = waited (after before) on consumer
after (Gives actor g ∷ before) = given (after before) actor g
after (Takes at ∷ before) = record (after before) { due = remove (after before).due at }

-- each call was made where it may be
abbrev pub AreAllowed : List Call → Type 0
AreAllowed [] = Unit {0}
AreAllowed (Opens actor ∷ before) = (get (after before).results actor ≡ None) × AreAllowed before
AreAllowed (Waits on consumer ∷ before) = IsSome (get (after before).results on) × AreAllowed before
AreAllowed (Gives actor g ∷ before) = IsTrue (may_give (after before) actor g) × AreAllowed before
AreAllowed (Takes at ∷ before) = AreAllowed before

-- whether the result of an actor became known
abbrev pub was_settled : ℕ → List Call → Bool
was_settled actor [] = false
was_settled actor (Opens _ ∷ before) = was_settled actor before
was_settled actor (Waits _ _ ∷ before) = was_settled actor before
was_settled actor (Gives other (give.Known _) ∷ before) = other == actor || was_settled actor before
was_settled actor (Gives _ (give.Result _) ∷ before) = was_settled actor before
was_settled actor (Takes _ ∷ before) = was_settled actor before

-- the consumers that were added to the result of an actor, in their order
abbrev pub added_to : ℕ → List Call → List Consumer
added_to actor [] = []
added_to actor (Opens _ ∷ before) = added_to actor before
added_to actor (Waits on consumer ∷ before) = if on == actor then added_to actor before ++ consumer ∷ [] else added_to actor before
added_to actor (Gives _ _ ∷ before) = added_to actor before
added_to actor (Takes _ ∷ before) = added_to actor before

-- what is due: a result that becomes known is due to the consumers that were added to it, in their order and behind all
-- others, and one that is known to each that is added later; what was taken isn't due any more
abbrev pub queue : List Call → List Due
queue [] = []
queue (Opens _ ∷ before) = queue before
queue (Waits on consumer ∷ before) =
    if was_settled on before then queue before ++ deliveries on (consumer ∷ []) else queue before
queue (Gives actor (give.Known _) ∷ before) = queue before ++ deliveries actor (added_to actor before)
queue (Gives _ (give.Result _) ∷ before) = queue before
queue (Takes at ∷ before) = remove (queue before) at

-- after any calls, what is due is what is due by the calls alone
abbrev pub EachIsDueOnce : Type 0
EachIsDueOnce = (calls : List Call) → AreAllowed calls → (after calls).due ≡ queue calls
