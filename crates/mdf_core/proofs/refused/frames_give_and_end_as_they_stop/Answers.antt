use Rattle.std.proofs.Common.{[], ◌∷◌, Some, None, pos, refl, reverse}
use Rattle.mpl_value.specs.declared.known.TrapKind.TheVariants.{DivZero}
use Rattle.mdf_code.specs.Frames.{Calls, Ends, Replies}
use Rattle.mdf_code.specs.SmallCode.{trap}
use Rattle.mdf_code.specs.Told.{Beats, Stands}
use Rattle.mdf_core.specs.Events.{Fails, Finishes, Fire, Park, Reply, Send}
use Rattle.mdf_core.specs.SmallRuns.{two_squares, with_budget, word}
use Rattle.mdf_core.specs.Steps.{after}
use Rattle.mdf_core.proofs.Driving.{found}
use Rattle.mdf_core.proofs.Refusing.{elsewhere, no_end, other_state}
use Rattle.mdf_core.proofs.refused.frames_give_and_end_as_they_stop.Goals as goal

pub returns-clause-other_result : goal.returns-clause-other_result
returns-clause-other_result c = record {
  is_log = found 100 (with_budget two_squares 100) (0 ∷ 0 ∷ 0 ∷ 0 ∷ 0 ∷ []) (reverse (Fire 0 ∷ Send 0 0 1 0 (pos 0) (word 3 ∷ []) ∷ Send 0 0 2 0 (pos 0) (word 4 ∷ []) ∷ Park 0 0 1 ∷ Fire 1 ∷ [])) refl;
  refused = λ h. elsewhere 100 (with_budget two_squares 100) (after (with_budget two_squares 100) (reverse (Fire 0 ∷ Send 0 0 1 0 (pos 0) (word 3 ∷ []) ∷ Send 0 0 2 0 (pos 0) (word 4 ∷ []) ∷ Park 0 0 1 ∷ Fire 1 ∷ []))) 1 0 (Stands (Replies (word 10))) (Stands (Replies (word 9))) refl (λ e. absurd (cc e)) h.1;
}

pub returns-clause-result_again : goal.returns-clause-result_again
returns-clause-result_again c = record {
  is_log = found 100 (with_budget two_squares 100) (0 ∷ 0 ∷ 0 ∷ 0 ∷ 0 ∷ 0 ∷ []) (reverse (Fire 0 ∷ Send 0 0 1 0 (pos 0) (word 3 ∷ []) ∷ Send 0 0 2 0 (pos 0) (word 4 ∷ []) ∷ Park 0 0 1 ∷ Fire 1 ∷ Reply 1 0 (word 9) ∷ [])) refl;
  refused = λ h. elsewhere 100 (with_budget two_squares 100) (after (with_budget two_squares 100) (reverse (Fire 0 ∷ Send 0 0 1 0 (pos 0) (word 3 ∷ []) ∷ Send 0 0 2 0 (pos 0) (word 4 ∷ []) ∷ Park 0 0 1 ∷ Fire 1 ∷ Reply 1 0 (word 9) ∷ []))) 1 0 (Stands (Replies (word 9))) (Stands (Ends 2)) refl (λ e. absurd (cc e)) h.1;
}

pub returns-clause-ends_at_a_call : goal.returns-clause-ends_at_a_call
returns-clause-ends_at_a_call c = record {
  is_log = found 100 (with_budget two_squares 100) (0 ∷ []) (reverse (Fire 0 ∷ [])) refl;
  refused = λ h. no_end 100 (with_budget two_squares 100) (after (with_budget two_squares 100) (reverse (Fire 0 ∷ []))) 0 0 (Finishes 9) [] None refl (λ e. absurd (cc e)) h.1;
}

pub returns-clause-ends_by_a_trap : goal.returns-clause-ends_by_a_trap
returns-clause-ends_by_a_trap c = record {
  is_log = found 100 (with_budget two_squares 100) (0 ∷ 0 ∷ 0 ∷ 0 ∷ 0 ∷ 0 ∷ []) (reverse (Fire 0 ∷ Send 0 0 1 0 (pos 0) (word 3 ∷ []) ∷ Send 0 0 2 0 (pos 0) (word 4 ∷ []) ∷ Park 0 0 1 ∷ Fire 1 ∷ Reply 1 0 (word 9) ∷ [])) refl;
  refused = λ h. no_end 100 (with_budget two_squares 100) (after (with_budget two_squares 100) (reverse (Fire 0 ∷ Send 0 0 1 0 (pos 0) (word 3 ∷ []) ∷ Send 0 0 2 0 (pos 0) (word 4 ∷ []) ∷ Park 0 0 1 ∷ Fire 1 ∷ Reply 1 0 (word 9) ∷ []))) 1 0 (Fails (trap DivZero 2)) [] (Some (Finishes 2)) refl (λ e. absurd (cc e)) h.1;
}

pub returns-clause-other_state : goal.returns-clause-other_state
returns-clause-other_state c = record {
  is_log = found 100 (with_budget two_squares 100) (0 ∷ 0 ∷ 0 ∷ 0 ∷ 0 ∷ 0 ∷ []) (reverse (Fire 0 ∷ Send 0 0 1 0 (pos 0) (word 3 ∷ []) ∷ Send 0 0 2 0 (pos 0) (word 4 ∷ []) ∷ Park 0 0 1 ∷ Fire 1 ∷ Reply 1 0 (word 9) ∷ [])) refl;
  refused = λ h. other_state 100 (with_budget two_squares 100) (after (with_budget two_squares 100) (reverse (Fire 0 ∷ Send 0 0 1 0 (pos 0) (word 3 ∷ []) ∷ Send 0 0 2 0 (pos 0) (word 4 ∷ []) ∷ Park 0 0 1 ∷ Fire 1 ∷ Reply 1 0 (word 9) ∷ []))) 1 0 (Finishes 2) (pos 1 ∷ []) [] refl (λ e. absurd (cc e)) h.1;
}

pub returns-clause-beats_at_a_call : goal.returns-clause-beats_at_a_call
returns-clause-beats_at_a_call c = record {
  is_log = found 100 (with_budget two_squares 100) (0 ∷ []) (reverse (Fire 0 ∷ [])) refl;
  refused = λ h. elsewhere 100 (with_budget two_squares 100) (after (with_budget two_squares 100) (reverse (Fire 0 ∷ []))) 0 256 (Beats) (Stands (Calls 0 (pos 0) (word 3 ∷ []))) refl (λ e. absurd (cc e)) h.1;
}
