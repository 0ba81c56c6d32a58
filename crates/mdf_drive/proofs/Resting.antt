-- What a machine at rest has left to do: nothing.
use Rattle.std.proofs.Common.{◌≡◌, ◌+◌, ◌<◌, ◌≤◌, ◌⊎◌, ℕ, zero, suc, List, [], ◌∷◌, ◌++◌, map, length, Option, Some, None, refl, sym, ap, ◌∙◌, subst, arith, inl, inr}
use Rattle.std.specs.List.{filter_map, range_with_len}
use Rattle.mpl_value.specs.declared.known.Known.{Known}
use Rattle.mdf_actor.specs.declared.status.ActorStatus.TheVariants as status
use Rattle.mdf_core.specs.declared.item.Item.{Item}
use Rattle.mdf_core.specs.declared.item.Item.TheVariants as item
use Rattle.mdf_core.specs.declared.status.MachineStatus.TheVariants.{Going}
use Rattle.mdf_core.specs.Actors.{Arc, Target}
use Rattle.mdf_core.specs.Awaited.{LeadsThere}
use Rattle.mdf_core.specs.DriveList.{accept_items, actor_items, arrive_items, due_items, going_on, items, items_at, resuming}
use Rattle.mdf_core.specs.Worlds.{Job, World, known_at}

pub record Resting (w : World) : Type 0 where
  pub ready : (c : ℕ) → c < w.count → (w.actors c).status ≡ status.Ready → ⊥
  pub running : (c : ℕ) → c < w.count → (w.actors c).status ≡ status.Running → ⊥
  pub parked : (c child : ℕ) → c < w.count → (w.actors c).status ≡ status.Parked child → known_at w (Some child) ≡ None
  pub undue : (to : Target) → LeadsThere to w.due → ⊥

append_left : {A : Type 0} (xs ys : List A) → xs ++ ys ≡ [] → xs ≡ []
append_left [] ys h = refl
append_left (x ∷ xs) ys h = absurd (cc h)

append_right : {A : Type 0} (xs ys : List A) → xs ++ ys ≡ [] → ys ≡ []
append_right [] ys h = h
append_right (x ∷ xs) ys h = absurd (cc h)

no_range : (n : ℕ) → map item.Match (range_with_len 0 n) ≡ [] → n ≡ 0
no_range zero h = refl
no_range (suc n) h = absurd (cc h)

none_here : (w : World) (a : ℕ) (others : List ℕ) (o : Option Item) → going_on w a (w.actors a).status ≡ o → filter_map (λ b. going_on w b (w.actors b).status) (a ∷ others) ≡ [] →
    (o ≡ None) × (filter_map (λ b. going_on w b (w.actors b).status) others ≡ [])
none_here w a others None is h = (refl, sym (at is) ∙ h) where
  at : going_on w a (w.actors a).status ≡ None → filter_map (λ b. going_on w b (w.actors b).status) (a ∷ others) ≡ filter_map (λ b. going_on w b (w.actors b).status) others
  at e = rw (e) refl
none_here w a others (Some i) is h = absurd (cc (sym (at is) ∙ h)) where
  at : going_on w a (w.actors a).status ≡ Some i → filter_map (λ b. going_on w b (w.actors b).status) (a ∷ others) ≡ i ∷ filter_map (λ b. going_on w b (w.actors b).status) others
  at e = rw (e) refl

none_going : (w : World) (n from c : ℕ) → from ≤ c → c < from + n → filter_map (λ b. going_on w b (w.actors b).status) (range_with_len from n) ≡ [] → going_on w c (w.actors c).status ≡ None
none_going w zero from c low high h = absurd (omega (arith, low, high))
none_going w (suc n) from c low high h = let k = none_here w from (range_with_len (from + 1) n) (going_on w from (w.actors from).status) refl h in
    at (below from c low) k.0 (λ more. none_going w n (from + 1) c more (omega (arith, high)) k.1) where
      below : (m k : ℕ) → m ≤ k → (m ≡ k) ⊎ (m + 1 ≤ k)
      below zero zero h = inl refl
      below zero (suc k) h = inr (omega arith)
      below (suc m) zero h = absurd (omega (arith, h))
      below (suc m) (suc k) h = next (below m k (omega (arith, h))) where
        next : (m ≡ k) ⊎ (m + 1 ≤ k) → (suc m ≡ suc k) ⊎ (suc m + 1 ≤ suc k)
        next (inl e) = inl (ap suc e)
        next (inr l) = inr (omega (arith, l))

      at : (from ≡ c) ⊎ (from + 1 ≤ c) → going_on w from (w.actors from).status ≡ None → (from + 1 ≤ c → going_on w c (w.actors c).status ≡ None) → going_on w c (w.actors c).status ≡ None
      at (inl same) here further = subst (λ d. going_on w d (w.actors d).status ≡ None) same here
      at (inr more) here further = further more

no_due : (due : List Arc) (to : Target) → length due ≡ 0 → LeadsThere to due → ⊥
no_due [] to none h = h
no_due (arc ∷ others) to none h = absurd (omega (arith, none))

pub resting : (job : Job) (w : World) → w.why ≡ Going → items job w ≡ [] → Resting w
resting job w going rest = record {
  ready = λ c there is. absurd (cc (sym (ap (going_on w c) is) ∙ none c there));
  running = λ c there is. absurd (cc (sym (ap (going_on w c) is) ∙ none c there));
  parked = λ c child there is. unknown c child (known_at w (Some child)) refl (sym (ap (going_on w c) is) ∙ none c there);
  undue = λ to. no_due w.due to (no_range (length w.due) (append_left (due_items w) (arrive_items w ++ (accept_items job w ++ actor_items w)) all));
} where
  all : due_items w ++ (arrive_items w ++ (accept_items job w ++ actor_items w)) ≡ []
  all = sym (ap (λ why. items_at why job w) going) ∙ rest

  none : (c : ℕ) → c < w.count → going_on w c (w.actors c).status ≡ None
  none c there = none_going w w.count 0 c (omega arith) (omega (arith, there))
      (append_right (accept_items job w) (actor_items w) (append_right (arrive_items w) (accept_items job w ++ actor_items w)
      (append_right (due_items w) (arrive_items w ++ (accept_items job w ++ actor_items w)) (sym (ap (λ why. items_at why job w) going) ∙ rest))))

  unknown : (c child : ℕ) (o : Option Known) → known_at w (Some child) ≡ o → resuming c (known_at w (Some child)) ≡ None → o ≡ None
  unknown c child None is h = refl
  unknown c child (Some known) is h = absurd (cc (sym (ap (resuming c) is) ∙ h))
