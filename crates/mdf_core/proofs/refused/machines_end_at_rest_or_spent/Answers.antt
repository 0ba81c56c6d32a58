use Rattle.std.proofs.Common.{◌≡◌, [], ◌∷◌, pos, refl, reverse}
use Rattle.mdf_code.specs.SmallBodies.{does_nothing}
use Rattle.mdf_core.specs.declared.item.Item.TheVariants as item
use Rattle.mdf_core.specs.declared.status.MachineStatus.TheVariants as machine
use Rattle.mdf_core.specs.Events.{End, Finishes, Fire, Learn, Park, Quit, Reply, Resume, Send}
use Rattle.mdf_core.specs.SmallRuns.{two_squares, with_budget, word}
use Rattle.mdf_core.specs.Steps.{after}
use Rattle.mdf_core.proofs.Driving.{fits, found}
use Rattle.mdf_core.proofs.Refusing.{above, not_below}
use Rattle.mdf_core.proofs.refused.machines_end_at_rest_or_spent.Goals as goal

pub returns-clause-something_is_left : goal.returns-clause-something_is_left
returns-clause-something_is_left c = record {
  is_log = found 100 (with_budget two_squares 100) [] (reverse []) refl;
  refused = λ h. let e : item.Fire 0 ∷ [] ≡ [] = h.1.0 in absurd (cc e);
}

pub returns-clause-a_frame_is_out : goal.returns-clause-a_frame_is_out
returns-clause-a_frame_is_out c = record {
  is_log = found 100 (with_budget two_squares 100) (0 ∷ 0 ∷ 0 ∷ []) (reverse (Fire 0 ∷ Send 0 0 1 0 (pos 0) (word 3 ∷ []) ∷ Send 0 0 2 0 (pos 0) (word 4 ∷ []) ∷ [])) refl;
  refused = λ h. let e : item.Run 0 ∷ item.Fire 1 ∷ item.Fire 2 ∷ [] ≡ [] = h.1.0 in absurd (cc e);
}

pub returns-clause-within_the_budget : goal.returns-clause-within_the_budget
returns-clause-within_the_budget c = record {
  is_log = found 100 (with_budget two_squares 100) (0 ∷ []) (reverse (Fire 0 ∷ [])) refl;
  refused = λ h. not_below 100 1 refl h.1;
}

pub returns-clause-rest_above_the_budget : goal.returns-clause-rest_above_the_budget
returns-clause-rest_above_the_budget c = record {
  is_log = ((refl, (fits 100 (with_budget does_nothing 0) (after (with_budget does_nothing 0) (Fire 0 ∷ [])) (item.Run 0) (End 0 0 (Finishes 1) []) refl).0), found 100 (with_budget does_nothing 0) (0 ∷ []) (Fire 0 ∷ []) refl);
  refused = λ h. above 1 0 refl h.1.1;
}

pub returns-clause-no_reason : goal.returns-clause-no_reason
returns-clause-no_reason c = record {
  is_log = found 100 (with_budget two_squares 100) [] (reverse []) refl;
  refused = λ h. h.1;
}

pub returns-clause-twice : goal.returns-clause-twice
returns-clause-twice c = record {
  is_log = found 100 (with_budget two_squares 4) (0 ∷ 0 ∷ 0 ∷ 0 ∷ 0 ∷ 0 ∷ 0 ∷ 0 ∷ 0 ∷ 0 ∷ 0 ∷ 0 ∷ []) (reverse (Fire 0 ∷ Send 0 0 1 0 (pos 0) (word 3 ∷ []) ∷ Send 0 0 2 0 (pos 0) (word 4 ∷ []) ∷ Park 0 0 1 ∷ Fire 1 ∷ Reply 1 0 (word 9) ∷ Resume 0 ∷ Learn 0 0 1 ∷ Park 0 0 2 ∷ End 1 0 (Finishes 2) [] ∷ Fire 2 ∷ Quit machine.Spent ∷ [])) refl;
  refused = λ h. let e : machine.Spent ≡ machine.Going = h.0 in absurd (cc e);
}
