-- An event of one actor that changes no result.
use Rattle.std.proofs.Common.{◌≡◌, ◌<◌, ◌≤◌, ◌+◌, ◌⊎◌, ℕ, List, length, Option, Some, None, refl, sym, ap, ◌∙◌, subst, arith, inl, inr}
use Rattle.mdf_core.specs.Actors.{Actor}
use Rattle.mdf_core.specs.Worlds.{Job, World, acts, fate_at, spends}
use Rattle.mdf_core.proofs.Lists.{same_or}
use Rattle.mdf_future.specs.declared.future.Future.{Future}
use Rattle.mdf_machine.specs.declared.parts.Parts.{Parts}
use Rattle.mdf_machine.specs.Internal.Held.{Holds, MainIs, MarkIs, PortsAre, ResultIs, RowIs, StatusIs, consumers_in, kept_fate}
use Rattle.mdf_machine.specs.Internal.Tables.{Each, Keyed}
use Rattle.mdf_machine.proofs.Keyed.{keyed_as}
use Rattle.mdf_machine.proofs.One.{One, acts_one, fates_one}

-- what the event leaves of its actor
pub record Same (x y : Actor) : Type 0 where
  pub ports : y.ports ≡ x.ports
  pub fate : y.fate ≡ x.fate

pub record OtherParts (p q : Parts) : Type 0 where
  pub ports : q.ports ≡ p.ports
  pub results : q.results ≡ p.results
  pub why : q.why ≡ p.why

pub ports_one : (a : ℕ) (y : Actor) (w v : World) → One a y w v → y.ports ≡ (w.actors a).ports → (k : ℕ) → (v.actors k).ports ≡ (w.actors k).ports
ports_one a y w v one same k = at (same_or k a) where
  at : (k ≡ a) ⊎ (k ≡ a → ⊥) → (v.actors k).ports ≡ (w.actors k).ports
  at (inl is) = ap (λ j. (v.actors j).ports) is ∙ ap (λ (x : Actor). x.ports) one.here ∙ same ∙ ap (λ j. (w.actors j).ports) (sym is)
  at (inr differ) = ap (λ (x : Actor). x.ports) (one.others k differ)

pub acts_holds : (job : Job) (w : World) (p q : Parts) (a t : ℕ) (f : Actor → Actor) → Holds job w p → Same (w.actors a) (f (w.actors a)) → OtherParts p q →
    Each (StatusIs (acts a t f w)) w.count q.statuses → Each (RowIs job (acts a t f w)) w.count q.rows → Each (MarkIs (acts a t f w)) w.count q.going →
    q.turns ≡ p.turns + t → MainIs job ((acts a t f w).actors 0) ((acts a t f w).actors 0).status q.lines q.main_end → Holds job (acts a t f w) q
acts_holds job w p q a t f h same other statuses rows going turns main = record {
  statuses = statuses;
  rows = rows;
  ports = subst (Keyed (PortsAre v) w.count) (sym other.ports) (keyed_as (PortsAre w) (PortsAre v) w.count w.count p.ports h.ports refl (λ k row below is. is ∙ sym (ports_one a y w v one same.ports k)));
  results = subst (λ r. Keyed (ResultIs v) w.count r.results) (sym other.results) (keyed_as (ResultIs w) (ResultIs v) w.count w.count p.results.results h.results refl
      (λ k (future : Future) below is. is ∙ ap (λ (fate : _). record { fate = kept_fate fate; consumers = consumers_in w.waits k }) (sym (fates_one a y w v one same.fate k))));
  due = ap (λ r. r.due) other.results ∙ h.due;
  going = going;
  turns = turns ∙ ap (λ n. n + t) h.turns;
  why = other.why ∙ h.why;
  main = main;
  few = omega (arith, h.few);
} where
  v : World
  v = acts a t f w

  y : Actor
  y = spends t (f (w.actors a))

  one : One a (spends t (f (w.actors a))) w (acts a t f w)
  one = acts_one a t f w
