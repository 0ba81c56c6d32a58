use Rattle.std.proofs.Common.{◌≡◌, [], ◌∷◌, pos, refl, reverse}
use Rattle.mdf_code.specs.Frames.{Calls, Creates}
use Rattle.mdf_code.specs.Told.{Stands}
use Rattle.mdf_core.specs.Events.{Fire}
use Rattle.mdf_core.specs.SmallRuns.{buffer, two_squares, with_budget, word}
use Rattle.mdf_core.specs.Steps.{after}
use Rattle.mdf_core.proofs.Driving.{found}
use Rattle.mdf_core.proofs.Refusing.{above, elsewhere}
use Rattle.mdf_core.proofs.refused.objects_are_created_in_their_order.Goals as goal

pub returns-clause-at_a_call : goal.returns-clause-at_a_call
returns-clause-at_a_call c = record {
  is_log = found 100 (with_budget two_squares 100) (0 ∷ []) (reverse (Fire 0 ∷ [])) refl;
  refused = λ h. elsewhere 100 (with_budget two_squares 100) (after (with_budget two_squares 100) (reverse (Fire 0 ∷ []))) 0 0 (Stands (Creates 0)) (Stands (Calls 0 (pos 0) (word 3 ∷ []))) refl (λ e. absurd (cc e)) h.1.stops;
}

pub returns-clause-other_word : goal.returns-clause-other_word
returns-clause-other_word c = record {
  is_log = found 100 (with_budget buffer 100) (0 ∷ []) (reverse (Fire 0 ∷ [])) refl;
  refused = λ h. let e : pos 2 ≡ pos 1 = h.1.next in absurd (cc e);
}

pub returns-clause-other_class : goal.returns-clause-other_class
returns-clause-other_class c = record {
  is_log = found 100 (with_budget buffer 100) (0 ∷ []) (reverse (Fire 0 ∷ [])) refl;
  refused = λ h. elsewhere 100 (with_budget buffer 100) (after (with_budget buffer 100) (reverse (Fire 0 ∷ []))) 0 0 (Stands (Creates 1)) (Stands (Creates 0)) refl (λ e. absurd (cc e)) h.1.stops;
}

pub returns-clause-over_the_budget : goal.returns-clause-over_the_budget
returns-clause-over_the_budget c = record {
  is_log = found 100 (with_budget buffer 0) (0 ∷ []) (reverse (Fire 0 ∷ [])) refl;
  refused = λ h. above 1 0 refl h.1.within;
}
