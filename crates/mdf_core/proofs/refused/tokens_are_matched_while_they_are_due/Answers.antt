use Rattle.std.proofs.Common.{◌≡◌, [], ◌∷◌, Some, None, pos, refl, reverse}
use Rattle.mpl_value.specs.declared.known.TrapKind.TheVariants.{DivZero}
use Rattle.mdf_code.specs.Alone.{Pending}
use Rattle.mdf_code.specs.SmallCode.{trap}
use Rattle.mdf_core.specs.Events.{End, Fails, Finishes, Fire, Match, Send}
use Rattle.mdf_core.specs.SmallRuns.{poisons, two_squares, with_budget, word}
use Rattle.mdf_core.proofs.Driving.{found}
use Rattle.mdf_core.proofs.refused.tokens_are_matched_while_they_are_due.Goals as goal

pub returns-clause-none : goal.returns-clause-none
returns-clause-none c = record {
  is_log = found 100 (with_budget two_squares 100) [] (reverse []) refl;
  refused = λ h. let e : None ≡ Some h.1.0 = h.1.1 in absurd (cc e);
}

pub returns-clause-twice : goal.returns-clause-twice
returns-clause-twice c = record {
  is_log = found 100 (with_budget poisons 100) (0 ∷ 0 ∷ 0 ∷ 0 ∷ 0 ∷ 0 ∷ 0 ∷ []) (reverse (Fire 0 ∷ Send 0 0 1 0 (pos 0) (word 0 ∷ []) ∷ Send 0 0 2 0 (pos 0) (Pending 1 ∷ []) ∷ End 0 0 (Finishes 5) [] ∷ Fire 1 ∷ End 1 0 (Fails (trap DivZero 2)) [] ∷ Match 0 ∷ [])) refl;
  refused = λ h. let e : None ≡ Some h.1.0 = h.1.1 in absurd (cc e);
}
