use Rattle.std.proofs.Common.{◌≡◌, [], ◌∷◌, pos, refl, reverse}
use Rattle.mdf_actor.specs.declared.status.ActorStatus.TheVariants as status
use Rattle.mdf_code.specs.Frames.{Calls}
use Rattle.mdf_code.specs.Told.{Stands}
use Rattle.mdf_core.specs.Events.{Fire}
use Rattle.mdf_core.specs.SmallRuns.{two_squares, with_budget, word}
use Rattle.mdf_core.specs.Steps.{after}
use Rattle.mdf_core.proofs.Driving.{found}
use Rattle.mdf_core.proofs.Refusing.{above, elsewhere, other_turns}
use Rattle.mdf_core.proofs.refused.calls_are_what_frames_stop_with.Goals as goal

pub returns-clause-other_argument : goal.returns-clause-other_argument
returns-clause-other_argument c = record {
  is_log = found 100 (with_budget two_squares 100) (0 ∷ []) (reverse (Fire 0 ∷ [])) refl;
  refused = λ h. elsewhere 100 (with_budget two_squares 100) (after (with_budget two_squares 100) (reverse (Fire 0 ∷ []))) 0 0 (Stands (Calls 0 (pos 0) (word 4 ∷ []))) (Stands (Calls 0 (pos 0) (word 3 ∷ []))) refl (λ e. absurd (cc e)) h.1.stops;
}

pub returns-clause-other_member : goal.returns-clause-other_member
returns-clause-other_member c = record {
  is_log = found 100 (with_budget two_squares 100) (0 ∷ []) (reverse (Fire 0 ∷ [])) refl;
  refused = λ h. elsewhere 100 (with_budget two_squares 100) (after (with_budget two_squares 100) (reverse (Fire 0 ∷ []))) 0 0 (Stands (Calls 1 (pos 0) (word 3 ∷ []))) (Stands (Calls 0 (pos 0) (word 3 ∷ []))) refl (λ e. absurd (cc e)) h.1.stops;
}

pub returns-clause-other_actor : goal.returns-clause-other_actor
returns-clause-other_actor c = record {
  is_log = found 100 (with_budget two_squares 100) (0 ∷ []) (reverse (Fire 0 ∷ [])) refl;
  refused = λ h. let e : 2 ≡ 1 = h.1.next in absurd (cc e);
}

pub returns-clause-other_turns : goal.returns-clause-other_turns
returns-clause-other_turns c = record {
  is_log = found 100 (with_budget two_squares 100) (0 ∷ []) (reverse (Fire 0 ∷ [])) refl;
  refused = λ h. other_turns 100 (with_budget two_squares 100) (after (with_budget two_squares 100) (reverse (Fire 0 ∷ []))) 0 1 (Stands (Calls 0 (pos 0) (word 3 ∷ []))) 0 refl (λ e. absurd (cc e)) h.1.stops;
}

pub returns-clause-not_out : goal.returns-clause-not_out
returns-clause-not_out c = record {
  is_log = found 100 (with_budget two_squares 100) [] (reverse []) refl;
  refused = λ h. let e : status.Ready ≡ status.Running = h.1.stops.stops.running in absurd (cc e);
}

pub returns-clause-over_the_budget : goal.returns-clause-over_the_budget
returns-clause-over_the_budget c = record {
  is_log = found 100 (with_budget two_squares 0) (0 ∷ []) (reverse (Fire 0 ∷ [])) refl;
  refused = λ h. above 1 0 refl h.1.within;
}
