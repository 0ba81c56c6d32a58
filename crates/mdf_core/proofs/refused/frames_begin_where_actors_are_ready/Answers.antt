use Rattle.std.proofs.Common.{◌≡◌, [], ◌∷◌, pos, refl, reverse}
use Rattle.mpl_value.specs.declared.known.TrapKind.TheVariants.{DivZero}
use Rattle.mdf_actor.specs.declared.status.ActorStatus.TheVariants as status
use Rattle.mdf_code.specs.Alone.{Pending}
use Rattle.mdf_code.specs.SmallCode.{trap}
use Rattle.mdf_core.specs.declared.status.MachineStatus.TheVariants as machine
use Rattle.mdf_core.specs.Events.{Create, End, Fails, Finishes, Fire, Learn, Match, Park, Quit, Reply, Resume, Send}
use Rattle.mdf_core.specs.SmallRuns.{buffer, poisons, two_squares, with_budget, word}
use Rattle.mdf_core.proofs.Driving.{found}
use Rattle.mdf_core.proofs.Refusing.{not_below}
use Rattle.mdf_core.proofs.refused.frames_begin_where_actors_are_ready.Goals as goal

pub returns-clause-once : goal.returns-clause-once
returns-clause-once c = record {
  is_log = found 100 (with_budget two_squares 100) (0 ∷ []) (reverse (Fire 0 ∷ [])) refl;
  refused = λ h. let e : status.Running ≡ status.Ready = h.1.ready in absurd (cc e);
}

pub returns-clause-waits_for_arguments : goal.returns-clause-waits_for_arguments
returns-clause-waits_for_arguments c = record {
  is_log = found 100 (with_budget poisons 100) (0 ∷ 0 ∷ 0 ∷ []) (reverse (Fire 0 ∷ Send 0 0 1 0 (pos 0) (word 0 ∷ []) ∷ Send 0 0 2 0 (pos 0) (Pending 1 ∷ []) ∷ [])) refl;
  refused = λ h. let e : status.Waiting 1 ≡ status.Ready = h.1.ready in absurd (cc e);
}

pub returns-clause-poisoned : goal.returns-clause-poisoned
returns-clause-poisoned c = record {
  is_log = found 100 (with_budget poisons 100) (0 ∷ 0 ∷ 0 ∷ 0 ∷ 0 ∷ 0 ∷ 0 ∷ []) (reverse (Fire 0 ∷ Send 0 0 1 0 (pos 0) (word 0 ∷ []) ∷ Send 0 0 2 0 (pos 0) (Pending 1 ∷ []) ∷ End 0 0 (Finishes 5) [] ∷ Fire 1 ∷ End 1 0 (Fails (trap DivZero 2)) [] ∷ Match 0 ∷ [])) refl;
  refused = λ h. let e : status.Poisoned ≡ status.Ready = h.1.ready in absurd (cc e);
}

pub returns-clause-not_accepted : goal.returns-clause-not_accepted
returns-clause-not_accepted c = record {
  is_log = found 100 (with_budget buffer 100) (0 ∷ 0 ∷ 0 ∷ []) (reverse (Fire 0 ∷ Create 0 0 0 (pos 1) ∷ Send 0 0 1 1 (pos 1) [] ∷ [])) refl;
  refused = λ h. let e : status.Waiting 0 ≡ status.Ready = h.1.ready in absurd (cc e);
}

pub returns-clause-no_such_actor : goal.returns-clause-no_such_actor
returns-clause-no_such_actor c = record {
  is_log = found 100 (with_budget two_squares 100) [] (reverse []) refl;
  refused = λ h. not_below 1 1 refl h.1.there;
}

pub returns-clause-ended : goal.returns-clause-ended
returns-clause-ended c = record {
  is_log = found 100 (with_budget two_squares 4) (0 ∷ 0 ∷ 0 ∷ 0 ∷ 0 ∷ 0 ∷ 0 ∷ 0 ∷ 0 ∷ 0 ∷ 0 ∷ 0 ∷ []) (reverse (Fire 0 ∷ Send 0 0 1 0 (pos 0) (word 3 ∷ []) ∷ Send 0 0 2 0 (pos 0) (word 4 ∷ []) ∷ Park 0 0 1 ∷ Fire 1 ∷ Reply 1 0 (word 9) ∷ Resume 0 ∷ Learn 0 0 1 ∷ Park 0 0 2 ∷ End 1 0 (Finishes 2) [] ∷ Fire 2 ∷ Quit machine.Spent ∷ [])) refl;
  refused = λ h. let e : machine.Spent ≡ machine.Going = h.0 in absurd (cc e);
}
