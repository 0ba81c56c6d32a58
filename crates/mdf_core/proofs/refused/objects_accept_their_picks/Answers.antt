use Rattle.std.proofs.Common.{◌≡◌, [], ◌∷◌, Some, None, pos, refl, reverse}
use Rattle.mdf_core.specs.Events.{Accept, Arrive, Create, Fire, Send}
use Rattle.mdf_core.specs.SmallRuns.{buffer, with_budget, word}
use Rattle.mdf_core.proofs.Driving.{found}
use Rattle.mdf_core.proofs.refused.objects_accept_their_picks.Goals as goal

pub returns-clause-no_object : goal.returns-clause-no_object
returns-clause-no_object c = record {
  is_log = found 100 (with_budget buffer 100) (0 ∷ []) (reverse (Fire 0 ∷ [])) refl;
  refused = λ h. let e : None ≡ Some 1 = h.1.picked in absurd (cc e);
}

pub returns-clause-no_open_call : goal.returns-clause-no_open_call
returns-clause-no_open_call c = record {
  is_log = found 100 (with_budget buffer 100) (0 ∷ 0 ∷ 0 ∷ 0 ∷ []) (reverse (Fire 0 ∷ Create 0 0 0 (pos 1) ∷ Send 0 0 1 1 (pos 1) [] ∷ Arrive 1 ∷ [])) refl;
  refused = λ h. let e : None ≡ Some 1 = h.1.picked in absurd (cc e);
}

pub returns-clause-not_the_pick : goal.returns-clause-not_the_pick
returns-clause-not_the_pick c = record {
  is_log = found 100 (with_budget buffer 100) (0 ∷ 0 ∷ 0 ∷ 0 ∷ 0 ∷ 0 ∷ []) (reverse (Fire 0 ∷ Create 0 0 0 (pos 1) ∷ Send 0 0 1 1 (pos 1) [] ∷ Arrive 1 ∷ Send 0 0 2 0 (pos 1) (word 7 ∷ []) ∷ Arrive 2 ∷ [])) refl;
  refused = λ h. let e : Some 2 ≡ Some 1 = h.1.picked in absurd (cc e);
}

pub returns-clause-other_number : goal.returns-clause-other_number
returns-clause-other_number c = record {
  is_log = found 100 (with_budget buffer 100) (0 ∷ 0 ∷ 0 ∷ 0 ∷ 0 ∷ 0 ∷ []) (reverse (Fire 0 ∷ Create 0 0 0 (pos 1) ∷ Send 0 0 1 1 (pos 1) [] ∷ Arrive 1 ∷ Send 0 0 2 0 (pos 1) (word 7 ∷ []) ∷ Arrive 2 ∷ [])) refl;
  refused = λ h. let e : 2 ≡ 1 = h.1.next in absurd (cc e);
}

pub returns-clause-busy : goal.returns-clause-busy
returns-clause-busy c = record {
  is_log = found 100 (with_budget buffer 100) (0 ∷ 0 ∷ 0 ∷ 0 ∷ 0 ∷ 0 ∷ 0 ∷ []) (reverse (Fire 0 ∷ Create 0 0 0 (pos 1) ∷ Send 0 0 1 1 (pos 1) [] ∷ Arrive 1 ∷ Send 0 0 2 0 (pos 1) (word 7 ∷ []) ∷ Arrive 2 ∷ Accept (pos 1) 2 1 ∷ [])) refl;
  refused = λ h. let e : None ≡ Some 1 = h.1.picked in absurd (cc e);
}
