-- The arcs from one result.
use Rattle.std.proofs.Common.{◌≡◌, ◌++◌, ℕ, Bool, true, false, not, cond, List, [], ◌∷◌, map, filter, refl, sym, ap, ap₂, ◌∙◌, nat_eq, eqb-true}
use Rattle.mdf_core.specs.Actors.{Arc, Target, Port, Result}
use Rattle.mdf_core.specs.Calls.{leads_from}
use Rattle.mdf_core.proofs.Lists.{by_bool, nat_differ, nat_same}
use Rattle.mdf_future.specs.Consumers.{deliveries, is_served}
use Rattle.mdf_machine.specs.Internal.Held.{consumer_of, consumers_in, due_of}

served : (to : Target) → is_served (consumer_of to) ≡ true
served (Port c port) = refl
served (Result a) = refl

-- what is left when those of a result are taken
pub none_left : (c : ℕ) (arcs : List Arc) → consumers_in (filter (λ arc. not (leads_from c arc)) arcs) c ≡ []
none_left c [] = refl
none_left c (arc ∷ arcs) = by_bool (leads_from c arc) (yes_case (none_left c arcs)) (no_case (none_left c arcs)) where
  yes_case : consumers_in (filter (λ x. not (leads_from c x)) arcs) c ≡ [] → leads_from c arc ≡ true → consumers_in (filter (λ arc. not (leads_from c arc)) (arc ∷ arcs)) c ≡ []
  yes_case rest e = ap (λ b. consumers_in (cond (not b) (arc ∷ filter (λ arc. not (leads_from c arc)) arcs) (filter (λ arc. not (leads_from c arc)) arcs)) c) e ∙ rest

  no_case : consumers_in (filter (λ x. not (leads_from c x)) arcs) c ≡ [] → leads_from c arc ≡ false → consumers_in (filter (λ arc. not (leads_from c arc)) (arc ∷ arcs)) c ≡ []
  no_case rest e = ap (λ b. consumers_in (cond (not b) (arc ∷ filter (λ arc. not (leads_from c arc)) arcs) (filter (λ arc. not (leads_from c arc)) arcs)) c) e
      ∙ ap (λ b. map (λ (x : Arc). consumer_of x.to) (cond b (arc ∷ filter (leads_from c) (filter (λ arc. not (leads_from c arc)) arcs)) (filter (leads_from c) (filter (λ arc. not (leads_from c arc)) arcs)))) e ∙ rest

others_at : (c k : ℕ) (arc : Arc) (arcs : List Arc) → (k ≡ c → ⊥) → consumers_in (filter (λ x. not (leads_from c x)) arcs) k ≡ consumers_in arcs k →
    (b : Bool) → leads_from c arc ≡ b → consumers_in (cond (not b) (arc ∷ filter (λ x. not (leads_from c x)) arcs) (filter (λ x. not (leads_from c x)) arcs)) k ≡ consumers_in (arc ∷ arcs) k
others_at c k arc arcs differ again true e = again ∙ sym (ap (λ b. map (λ (x : Arc). consumer_of x.to) (cond b (arc ∷ filter (leads_from k) arcs) (filter (leads_from k) arcs))) (nat_differ arc.from k (λ s. differ (sym s ∙ eqb-true arc.from c e))))
others_at c k arc arcs differ again false e = by_bool (leads_from k arc)
    (λ t. ap (λ b. map (λ (x : Arc). consumer_of x.to) (cond b (arc ∷ filter (leads_from k) (filter (λ x. not (leads_from c x)) arcs)) (filter (leads_from k) (filter (λ x. not (leads_from c x)) arcs)))) t
    ∙ ap (λ cs. consumer_of arc.to ∷ cs) again ∙ sym (ap (λ b. map (λ (x : Arc). consumer_of x.to) (cond b (arc ∷ filter (leads_from k) arcs) (filter (leads_from k) arcs))) t))
    (λ t. ap (λ b. map (λ (x : Arc). consumer_of x.to) (cond b (arc ∷ filter (leads_from k) (filter (λ x. not (leads_from c x)) arcs)) (filter (leads_from k) (filter (λ x. not (leads_from c x)) arcs)))) t
    ∙ again ∙ sym (ap (λ b. map (λ (x : Arc). consumer_of x.to) (cond b (arc ∷ filter (leads_from k) arcs) (filter (leads_from k) arcs))) t))

pub others_left : (c k : ℕ) (arcs : List Arc) → (k ≡ c → ⊥) → consumers_in (filter (λ arc. not (leads_from c arc)) arcs) k ≡ consumers_in arcs k
others_left c k [] differ = refl
others_left c k (arc ∷ arcs) differ =
    ap (λ b. consumers_in (cond (not b) (arc ∷ filter (λ x. not (leads_from c x)) arcs) (filter (λ x. not (leads_from c x)) arcs)) k) refl
    ∙ others_at c k arc arcs differ (others_left c k arcs differ) (leads_from c arc) refl

-- those of a result are due
pub delivered : (c : ℕ) (arcs : List Arc) → deliveries c (consumers_in arcs c) ≡ map due_of (filter (leads_from c) arcs)
delivered c [] = refl
delivered c (arc ∷ arcs) = by_bool (leads_from c arc)
    (λ t. ap (λ b. deliveries c (map (λ (x : Arc). consumer_of x.to) (cond b (arc ∷ filter (leads_from c) arcs) (filter (leads_from c) arcs)))) t
    ∙ ap (λ b. cond b (record { consumer = consumer_of arc.to; from = c } ∷ deliveries c (consumers_in arcs c)) (deliveries c (consumers_in arcs c))) (served arc.to)
    ∙ ap₂ (λ from ds. record { consumer = consumer_of arc.to; from = from } ∷ ds) (sym (eqb-true arc.from c t)) (delivered c arcs)
    ∙ sym (ap (λ b. map due_of (cond b (arc ∷ filter (leads_from c) arcs) (filter (leads_from c) arcs))) t))
    (λ t. ap (λ b. deliveries c (map (λ (x : Arc). consumer_of x.to) (cond b (arc ∷ filter (leads_from c) arcs) (filter (leads_from c) arcs)))) t
    ∙ delivered c arcs ∙ sym (ap (λ b. map due_of (cond b (arc ∷ filter (leads_from c) arcs) (filter (leads_from c) arcs))) t))
