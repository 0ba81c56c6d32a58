use Rattle.std.proofs.Common.{◌≡◌, true, false, [], ◌∷◌, pos, refl, reverse}
use Rattle.mdf_actor.specs.declared.status.ActorStatus.TheVariants as status
use Rattle.mdf_code.specs.Alone.{Pending}
use Rattle.mdf_code.specs.SmallBodies.{puts_and_gets}
use Rattle.mdf_core.specs.Events.{Accept, Arrive, Create, Fire, Send}
use Rattle.mdf_core.specs.SmallRuns.{buffer, two_squares, with_budget, word}
use Rattle.mdf_core.proofs.Driving.{found}
use Rattle.mdf_core.proofs.refused.calls_arrive_once.Goals as goal

pub returns-clause-regular : goal.returns-clause-regular
returns-clause-regular c = record {
  is_log = found 100 (with_budget two_squares 100) (0 ∷ 0 ∷ []) (reverse (Fire 0 ∷ Send 0 0 1 0 (pos 0) (word 3 ∷ []) ∷ [])) refl;
  refused = λ h. let e : status.Ready ≡ status.Waiting 0 = h.1.complete in absurd (cc e);
}

pub returns-clause-unknown_argument : goal.returns-clause-unknown_argument
returns-clause-unknown_argument c = record {
  is_log = found 100 (with_budget puts_and_gets 100) (2 ∷ 1 ∷ 0 ∷ 0 ∷ 0 ∷ []) (reverse (Fire 0 ∷ Create 0 0 1 (pos 1) ∷ Send 0 0 1 0 (pos 1) (word 7 ∷ []) ∷ Send 0 0 2 1 (pos 1) [] ∷ Send 0 0 3 0 (pos 1) (Pending 2 ∷ []) ∷ [])) refl;
  refused = λ h. let e : status.Waiting 1 ≡ status.Waiting 0 = h.1.complete in absurd (cc e);
}

pub returns-clause-twice : goal.returns-clause-twice
returns-clause-twice c = record {
  is_log = found 100 (with_budget buffer 100) (0 ∷ 0 ∷ 0 ∷ 0 ∷ []) (reverse (Fire 0 ∷ Create 0 0 0 (pos 1) ∷ Send 0 0 1 1 (pos 1) [] ∷ Arrive 1 ∷ [])) refl;
  refused = λ h. let e : true ≡ false = h.1.first in absurd (cc e);
}

pub returns-clause-accepted : goal.returns-clause-accepted
returns-clause-accepted c = record {
  is_log = found 100 (with_budget buffer 100) (0 ∷ 0 ∷ 0 ∷ 0 ∷ 0 ∷ 0 ∷ 0 ∷ []) (reverse (Fire 0 ∷ Create 0 0 0 (pos 1) ∷ Send 0 0 1 1 (pos 1) [] ∷ Arrive 1 ∷ Send 0 0 2 0 (pos 1) (word 7 ∷ []) ∷ Arrive 2 ∷ Accept (pos 1) 2 1 ∷ [])) refl;
  refused = λ h. let e : status.Ready ≡ status.Waiting 0 = h.1.complete in absurd (cc e);
}
