-- Who is parked on an actor, where one actor changes.
use Rattle.std.proofs.Common.{◌≡◌, ◌<◌, ◌⊎◌, ℕ, Some, true, sym, ap, ◌∙◌, subst, inl, inr}
use Rattle.mdf_core.specs.Actors.{Actor, Call}
use Rattle.mdf_core.specs.Worlds.{World}
use Rattle.mdf_core.proofs.Lists.{same_or}
use Rattle.mdf_machine.specs.Internal.Settling.{waits_for}
use Rattle.mdf_machine.proofs.KnownResults.{CallersWait}
use Rattle.mdf_machine.proofs.One.{One}

-- it isn't parked on this one afterwards unless it was before
pub callers_one : (w v : World) (a : ℕ) (y : Actor) → One a y w v → (c : ℕ) → v.count ≡ w.count → (v.actors c).call ≡ (w.actors c).call →
    (waits_for c (Some y.status) ≡ true → waits_for c (Some (w.actors a).status) ≡ true) → CallersWait w c → CallersWait v c
callers_one w v a y one c count call parked waits k below is =
    waits k (subst (λ n. k < n) count below) (at (same_or k a)) ∙ ap (λ (x : Call). x.caller) (sym call) where
      at : (k ≡ a) ⊎ (k ≡ a → ⊥) → waits_for c (Some (w.actors k).status) ≡ true
      at (inl same) = ap (λ j. waits_for c (Some (w.actors j).status)) same ∙ parked (ap (λ (x : Actor). waits_for c (Some x.status)) (sym (ap v.actors same ∙ one.here)) ∙ is)
      at (inr differ) = ap (λ (x : Actor). waits_for c (Some x.status)) (sym (one.others k differ)) ∙ is
