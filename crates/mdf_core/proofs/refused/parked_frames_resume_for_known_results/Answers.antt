use Rattle.std.proofs.Common.{◌≡◌, [], ◌∷◌, pos, refl, reverse}
use Rattle.mdf_actor.specs.declared.status.ActorStatus.TheVariants as status
use Rattle.mdf_core.specs.Events.{Fire, Park, Send}
use Rattle.mdf_core.specs.SmallRuns.{two_squares, with_budget, word}
use Rattle.mdf_core.specs.Steps.{after}
use Rattle.mdf_core.proofs.Driving.{found}
use Rattle.mdf_core.proofs.Refusing.{resumes_unknown}
use Rattle.mdf_core.proofs.refused.parked_frames_resume_for_known_results.Goals as goal

pub returns-clause-unknown : goal.returns-clause-unknown
returns-clause-unknown c = record {
  is_log = found 100 (with_budget two_squares 100) (0 ∷ 0 ∷ 0 ∷ 0 ∷ []) (reverse (Fire 0 ∷ Send 0 0 1 0 (pos 0) (word 3 ∷ []) ∷ Send 0 0 2 0 (pos 0) (word 4 ∷ []) ∷ Park 0 0 1 ∷ [])) refl;
  refused = λ h. resumes_unknown (after (with_budget two_squares 100) (reverse (Fire 0 ∷ Send 0 0 1 0 (pos 0) (word 3 ∷ []) ∷ Send 0 0 2 0 (pos 0) (word 4 ∷ []) ∷ Park 0 0 1 ∷ []))) 0 1 refl refl h.1;
}

pub returns-clause-not_parked : goal.returns-clause-not_parked
returns-clause-not_parked c = record {
  is_log = found 100 (with_budget two_squares 100) (0 ∷ []) (reverse (Fire 0 ∷ [])) refl;
  refused = λ h. let e : status.Running ≡ status.Parked h.1.child = h.1.parked in absurd (cc e);
}
