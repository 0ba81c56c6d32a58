use Rattle.std.proofs.Common.{◌≡◌, [], ◌∷◌, Some, None, pos, refl, reverse}
use Rattle.mpl_value.specs.declared.known.Known.TheVariants.{Value}
use Rattle.mdf_actor.specs.declared.status.ActorStatus.TheVariants as status
use Rattle.mdf_code.specs.Alone.{Pending}
use Rattle.mdf_code.specs.Frames.{Calls, Needs}
use Rattle.mdf_code.specs.Told.{Stands}
use Rattle.mdf_core.specs.Events.{Fire, Park, Reply, Send}
use Rattle.mdf_core.specs.SmallRuns.{two_squares, with_budget, word}
use Rattle.mdf_core.specs.Steps.{after}
use Rattle.mdf_core.proofs.Driving.{found}
use Rattle.mdf_core.proofs.Refusing.{elsewhere, parks_known}
use Rattle.mdf_core.proofs.refused.results_are_learnt_when_they_are_known.Goals as goal

pub returns-clause-learns_the_unknown : goal.returns-clause-learns_the_unknown
returns-clause-learns_the_unknown c = record {
  is_log = found 100 (with_budget two_squares 100) (0 ∷ 0 ∷ 0 ∷ []) (reverse (Fire 0 ∷ Send 0 0 1 0 (pos 0) (word 3 ∷ []) ∷ Send 0 0 2 0 (pos 0) (word 4 ∷ []) ∷ [])) refl;
  refused = λ h. let e : None ≡ Some h.1.known = h.1.is in absurd (cc e);
}

pub returns-clause-learns_another : goal.returns-clause-learns_another
returns-clause-learns_another c = record {
  is_log = found 100 (with_budget two_squares 100) (0 ∷ 0 ∷ 0 ∷ []) (reverse (Fire 0 ∷ Send 0 0 1 0 (pos 0) (word 3 ∷ []) ∷ Send 0 0 2 0 (pos 0) (word 4 ∷ []) ∷ [])) refl;
  refused = λ h. elsewhere 100 (with_budget two_squares 100) (after (with_budget two_squares 100) (reverse (Fire 0 ∷ Send 0 0 1 0 (pos 0) (word 3 ∷ []) ∷ Send 0 0 2 0 (pos 0) (word 4 ∷ []) ∷ []))) 0 0 (Stands (Needs (Pending 2))) (Stands (Needs (Pending 1))) refl (λ e. absurd (cc e)) h.1.stops;
}

pub returns-clause-learns_while_parked : goal.returns-clause-learns_while_parked
returns-clause-learns_while_parked c = record {
  is_log = found 100 (with_budget two_squares 100) (0 ∷ 0 ∷ 0 ∷ 0 ∷ []) (reverse (Fire 0 ∷ Send 0 0 1 0 (pos 0) (word 3 ∷ []) ∷ Send 0 0 2 0 (pos 0) (word 4 ∷ []) ∷ Park 0 0 1 ∷ [])) refl;
  refused = λ h. let e : status.Parked 1 ≡ status.Running = h.1.stops.stops.running in absurd (cc e);
}

pub returns-clause-parks_at_a_call : goal.returns-clause-parks_at_a_call
returns-clause-parks_at_a_call c = record {
  is_log = found 100 (with_budget two_squares 100) (0 ∷ []) (reverse (Fire 0 ∷ [])) refl;
  refused = λ h. elsewhere 100 (with_budget two_squares 100) (after (with_budget two_squares 100) (reverse (Fire 0 ∷ []))) 0 0 (Stands (Needs (Pending 1))) (Stands (Calls 0 (pos 0) (word 3 ∷ []))) refl (λ e. absurd (cc e)) h.1.stops;
}

pub returns-clause-parks_for_the_known : goal.returns-clause-parks_for_the_known
returns-clause-parks_for_the_known c = record {
  is_log = found 100 (with_budget two_squares 100) (1 ∷ 1 ∷ 0 ∷ 0 ∷ 0 ∷ []) (reverse (Fire 0 ∷ Send 0 0 1 0 (pos 0) (word 3 ∷ []) ∷ Send 0 0 2 0 (pos 0) (word 4 ∷ []) ∷ Fire 1 ∷ Reply 1 0 (word 9) ∷ [])) refl;
  refused = λ h. parks_known (with_budget two_squares 100) (after (with_budget two_squares 100) (reverse (Fire 0 ∷ Send 0 0 1 0 (pos 0) (word 3 ∷ []) ∷ Send 0 0 2 0 (pos 0) (word 4 ∷ []) ∷ Fire 1 ∷ Reply 1 0 (word 9) ∷ []))) 0 0 1 1 (Value (pos 9 ∷ [])) refl refl h.1;
}
