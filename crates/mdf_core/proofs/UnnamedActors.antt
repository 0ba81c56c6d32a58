-- Lists of events: who is out is a matter of the events that name the actor.
use Rattle.std.proofs.Common.{◌≡◌, ℕ, true, false, cond, List, [], ◌∷◌, ◌++◌, reverse, Option, Some, None, refl, sym, ap, ◌∙◌, subst, eqb-true, append_assoc, append-nil, Contains, filter_map, zero-lt-suc}
use Rattle.std.proofs.lemmas.List.{reverse-append}
use Rattle.std.proofs.lemmas.List.Elements.{Contains-append_left, Contains-append_right, filter_map-append}
use Rattle.mdf_core.specs.Events.{Event}
use Rattle.mdf_core.specs.Out.{actor_of, is_actor, is_out, is_out_in_order, moved, moves}
use Rattle.mdf_core.specs.Steps.{Log}
use Rattle.mdf_core.proofs.Lists.{by_bool}

-- ---- out

is_actor_some : (a : ℕ) (o : Option ℕ) → is_actor a o ≡ true → o ≡ Some a
is_actor_some a None h = absurd (cc h)
is_actor_some a (Some b) h = ap Some (eqb-true b a h)

named_one : (a : ℕ) (e : Event) → actor_of e ≡ Some a → filter_map actor_of (e ∷ []) ≡ a ∷ []
named_one a e h = rw (h) refl

named_here : (a : ℕ) (e : Event) → actor_of e ≡ Some a → Contains (filter_map actor_of (e ∷ [])) a
named_here a e h = subst (λ l. Contains l a) (sym (named_one a e h)) (0, zero-lt-suc 0, refl)

out_unnamed : (log : Log) (e : Event) (a : ℕ) → is_actor a (actor_of e) ≡ false → is_out (e ∷ log) a ≡ is_out log a
out_unnamed log e a h = ap (λ b. cond b (moved (is_out log a) (moves e)) (is_out log a)) h

pub stays_out : (events more : List Event) (a : ℕ) → (Contains (filter_map actor_of more) a → ⊥) → is_out_in_order (events ++ more) a ≡ is_out_in_order events a
stays_out events [] a h = ap (λ l. is_out_in_order l a) (append-nil events)
stays_out events (e ∷ more) a h =
    ap (λ l. is_out_in_order l a) (sym (append_assoc events (e ∷ []) more))
    ∙ (stays_out (events ++ e ∷ []) more a (λ c. h (subst (λ l. Contains l a) (sym (filter_map-append actor_of (e ∷ []) more)) (Contains-append_right (filter_map actor_of (e ∷ [])) (filter_map actor_of more) a c)))
    ∙ (ap (λ l. is_out l a) (reverse-append events (e ∷ []))
    ∙ by_bool (is_actor a (actor_of e))
    (λ t. absurd (h (subst (λ l. Contains l a) (sym (filter_map-append actor_of (e ∷ []) more))
    (Contains-append_left (filter_map actor_of (e ∷ [])) (filter_map actor_of more) a (named_here a e (is_actor_some a (actor_of e) t))))))
    (λ f. out_unnamed (reverse events) e a f)))
