-- What stands in mailboxes and what was accepted, along a log.
use Rattle.std.proofs.Common.{◌≡◌, ◌<◌, ℕ, true, cond, List, [], ◌∷◌, sym, ap, ◌∙◌, subst, arith, inl, inr, ◌⊎◌, nat_eq, eqb-true}
use Rattle.mdf_core.specs.Actors.{is_post}
use Rattle.mdf_core.specs.Enabled.{IsLog}
use Rattle.mdf_core.specs.Events.{Event}
use Rattle.mdf_core.specs.Mail.{MailIs}
use Rattle.mdf_core.specs.Stages.{AsItsStatus, HasArguments}
use Rattle.mdf_core.specs.Steps.{Log, after, step}
use Rattle.mdf_core.specs.Worlds.{Job, World, is_in}
use Rattle.mdf_core.proofs.EachStep.{Change, ByActor, ByCall, ByToken, ByArrival, ByAccept, ByEnd, changes}
use Rattle.mdf_core.proofs.Lists.{by_bool}
use Rattle.mdf_core.proofs.Staging.{as_statuses_say}
use Rattle.mdf_core.proofs.Standing.{stand}
use Rattle.mdf_core.proofs.ToldSo.{Later}
use Rattle.mdf_core.proofs.Transitions.{Came}
use Rattle.mdf_core.proofs.Wired.{later_at}

-- what arrived, and what was accepted
record Kept (w : World) : Type 0 where
  there : (c : ℕ) → is_in c w.arrived ≡ true → c < w.count
  posts : (c : ℕ) → is_in c w.arrived ≡ true → is_post (w.actors c).call ≡ true
  came : (c : ℕ) → is_in c w.accepted ≡ true → is_in c w.arrived ≡ true

in_more : (c d : ℕ) (ds : List ℕ) → is_in c (d ∷ ds) ≡ true → (d ≡ c) ⊎ (is_in c ds ≡ true)
in_more c d ds h = by_bool (nat_eq d c) (λ t. inl (eqb-true d c t)) (λ f. inr (sym (ap (λ b. cond b true (is_in c ds)) f) ∙ h))

in_later : (c d : ℕ) (ds : List ℕ) → is_in c ds ≡ true → is_in c (d ∷ ds) ≡ true
in_later c d ds h = by_bool (nat_eq d c) (λ t. ap (λ b. cond b true (is_in c ds)) t) (λ f. ap (λ b. cond b true (is_in c ds)) f ∙ h)

call_stays : (w v : World) → Later w v → Kept w → (c : ℕ) → is_in c w.arrived ≡ true → is_post (v.actors c).call ≡ true
call_stays w v l k c h = ap is_post (l.calls c (k.there c h)) ∙ k.posts c h

same_mail : (w v : World) → Later w v → v.arrived ≡ w.arrived → v.accepted ≡ w.accepted → Kept w → Kept v
same_mail w v l arrived accepted k = record {
  there = λ c h. let below = k.there c (sym (ap (is_in c) arrived) ∙ h) in omega (arith, below, l.count);
  posts = λ c h. call_stays w v l k c (sym (ap (is_in c) arrived) ∙ h);
  came = λ c h. ap (is_in c) arrived ∙ k.came c (sym (ap (is_in c) accepted) ∙ h);
}

change_mail : (job : Job) (w : World) (e : Event) (v : World) → Change job w e v → Later w v → ((c : ℕ) → AsItsStatus job (w.actors c)) → Kept w → Kept v
change_mail job w e v (ByActor o) l s k = same_mail w v l o.acted.lists.arrived o.acted.lists.accepted k
change_mail job w e v (ByCall o) l s k = same_mail w v l o.sent.arrived o.sent.accepted k
change_mail job w e v (ByToken o) l s k = at o.came where
  at : Came w v → Kept v
  at (c, inl q) = same_mail w v l q.only.lists.arrived q.only.lists.accepted k
  at (c, inr f) = same_mail w v l f.lists.arrived f.lists.accepted k
change_mail job w e v (ByArrival o) l s k = record {
  there = λ c h. there c (in_more c o.actor w.arrived (sym (ap (is_in c) o.arrived) ∙ h));
  posts = λ c h. posts c (in_more c o.actor w.arrived (sym (ap (is_in c) o.arrived) ∙ h));
  came = λ c h. ap (is_in c) o.arrived ∙ in_later c o.actor w.arrived (k.came c (sym (ap (is_in c) o.accepted) ∙ h));
} where
  complete : is_post (w.actors o.actor).call ≡ true
  complete = (subst (HasArguments job (w.actors o.actor)) o.complete (s o.actor).arguments).0

  there : (c : ℕ) → (o.actor ≡ c) ⊎ (is_in c w.arrived ≡ true) → c < v.count
  there c (inl same) = omega (arith, same, o.there, l.count)
  there c (inr h) = let below = k.there c h in omega (arith, below, l.count)

  posts : (c : ℕ) → (o.actor ≡ c) ⊎ (is_in c w.arrived ≡ true) → is_post (v.actors c).call ≡ true
  posts c (inl same) = subst (λ d. is_post (v.actors d).call ≡ true) same (ap is_post (l.calls o.actor o.there) ∙ complete)
  posts c (inr h) = call_stays w v l k c h
change_mail job w e v (ByAccept o) l s k = record {
  there = λ c h. let below = k.there c (sym (ap (is_in c) o.arrived) ∙ h) in omega (arith, below, l.count);
  posts = λ c h. call_stays w v l k c (sym (ap (is_in c) o.arrived) ∙ h);
  came = λ c h. ap (is_in c) o.arrived ∙ came c (in_more c o.actor w.accepted (sym (ap (is_in c) o.accepted) ∙ h));
} where
  came : (c : ℕ) → (o.actor ≡ c) ⊎ (is_in c w.accepted ≡ true) → is_in c w.arrived ≡ true
  came c (inl same) = subst (λ d. is_in d w.arrived ≡ true) same o.came
  came c (inr h) = k.came c h
change_mail job w e v (ByEnd o) l s k = same_mail w v l o.arrived o.accepted k

kept : (job : Job) (log : Log) → IsLog job log → Kept (after job log)
kept job [] h = record { there = λ c e. absurd (cc e); posts = λ c e. absurd (cc e); came = λ c e. absurd (cc e) }
kept job (e ∷ log) h = change_mail job (after job log) e (step job (after job log) e) (changes job (after job log) e h.0.1) (later_at job e log h) (as_statuses_say job log h.1) (kept job log h.1)

pub mail_is : (job : Job) (log : Log) → IsLog job log → MailIs (after job log)
mail_is job log h = let k = kept job log h in record { there = k.there; posts = k.posts; came = k.came; waits = λ c arrived accepted. (stand job log h c).waits arrived accepted }
