-- With more replies and no fewer turns a body that is spent takes more turns than its first allowance, and the calls that
-- both runs make are the same but for what was not known.
use Rattle.std.proofs.Common.{◌≡◌, ℕ, ◌<◌, ◌≤◌, Bool, true, false, List, [], ◌∷◌, Option, Some, None, ◌⊎◌, inl, inr, ℤ, refl, sym, ap, subst, ◌∙◌, arith, le_refl}
use Rattle.std.specs.FinMap.{FinMap}
use Rattle.std.specs.List.{AllZip}
use Rattle.std.specs.Ordering.{nat_cmp}
use Rattle.mpl_ast.specs.declared.program.Declaration.{Declaration}
use Rattle.mpl_ast.specs.declared.program.Program.{Program}
use Rattle.mpl_value.specs.declared.body.BodyEnd.TheVariants as end
use Rattle.mpl_value.specs.declared.body.BodyStart.{BodyStart}
use Rattle.mpl_value.specs.declared.body.MemberId.{MemberId}
use Rattle.mpl_value.specs.declared.body.Yield.{Yield}
use Rattle.mpl_value.specs.declared.known.Known.{Known}
use Rattle.mpl_mean.specs.Laws.Allowance.{AtSharedPlaces}
use Rattle.mpl_mean.specs.Meaning.BodyMeaning.{callees_at, body_of, context_with, formals_holding, in_class, main_statements, member_body, member_of_classes, split_words, store_with, yield_of}
use Rattle.mpl_mean.specs.Meaning.Context.{Context}
use Rattle.mpl_mean.specs.Meaning.Layout.{Class, Member, classes_of}
use Rattle.mpl_value.specs.Growing.{AreAmong, Begins, CallStays}
use Rattle.mpl_mean.specs.Meaning.Store.{Outcome, Ends, Store}
use Rattle.mpl_mean.proofs.Allowance.ExactYields.{turns_spent, turns_within}
use Rattle.mpl_mean.proofs.Allowance.Tells.{Tells, main_tells, member_tells, spent_is, is_not_spent, is_spent_so}
use Rattle.mpl_mean.proofs.MoreReplies.Follows.{Follows, goes, returns, ends, waited, first_spent, second_spent, store_after}
use Rattle.mpl_mean.proofs.Simulations.KeptStatements.{run_kept}
use Rattle.mpl_mean.proofs.MoreReplies.Later.{Beside, Later-itself, Beside-itself}
use Rattle.mpl_mean.proofs.MoreReplies.RepliesOnlyAdd.{by_replies, callees_beside}
use Rattle.mpl_mean.proofs.Simulations.Simulation.{Same}
use Rattle.mpl_mean.proofs.Simulations.UnlessSpent.{is_spent, is_spent_end}

-- ---- lists

shared_zip : {A : Type 0} (R : A → A → Type 0) (xs ys : List A) → AllZip R xs ys → AtSharedPlaces R xs ys
shared_zip R [] ys h = tt
shared_zip R (x ∷ xs) [] h = tt
shared_zip R (x ∷ xs) (y ∷ ys) h = (h.0, shared_zip R xs ys h.1)

shared_begins : {A : Type 0} (R : A → A → Type 0) (xs ys : List A) → Begins R xs ys → AtSharedPlaces R xs ys
shared_begins R [] ys h = tt
shared_begins R (x ∷ xs) [] h = tt
shared_begins R (x ∷ xs) (y ∷ ys) h = (h.0, shared_begins R xs ys h.1)

shared_back : {A : Type 0} (R : A → A → Type 0) (xs ys : List A) → Begins (λ y x. R x y) ys xs → AtSharedPlaces R xs ys
shared_back R [] ys h = tt
shared_back R (x ∷ xs) [] h = tt
shared_back R (x ∷ xs) (y ∷ ys) h = (h.0, shared_back R xs ys h.1)

-- ---- outcomes

shared_calls : {A : Type 0} (V : A → A → Type 0) (o p : Outcome A) → Follows V o p → AtSharedPlaces CallStays (store_after o).calls (store_after p).calls
shared_calls V o p (goes {s = s} {t = t} v e) = shared_zip CallStays s.calls t.calls e.calls
shared_calls V o p (returns {s = s} {t = t} e) = shared_zip CallStays s.calls t.calls e.calls
shared_calls V o p (ends {s = s} {t = t} e) = shared_zip CallStays s.calls t.calls e.calls
shared_calls V o p (waited {s = s} {p = p'} l) = shared_begins CallStays s.calls (store_after p').calls l.calls
shared_calls V o p (first_spent {s = s} {p = p'} l) = shared_begins CallStays s.calls (store_after p').calls l.calls
shared_calls V o p (second_spent {o = o'} {t = t} i) = shared_back CallStays (store_after o').calls t.calls i.0

abbrev SameClass : ℤ → ℤ → Type 0
SameClass a b = a ≡ b

shared_same : (xs ys : List ℤ) → xs ≡ ys → AtSharedPlaces SameClass xs ys
shared_same xs ys e = subst (λ ys. AtSharedPlaces SameClass xs ys) e (itself xs) where
  itself : (xs : List ℤ) → AtSharedPlaces SameClass xs xs
  itself [] = tt
  itself (x ∷ xs) = (refl, itself xs)

shared_turned : (xs ys : List ℤ) → AtSharedPlaces SameClass xs ys → AtSharedPlaces SameClass ys xs
shared_turned [] [] h = tt
shared_turned [] (y ∷ ys) h = tt
shared_turned (x ∷ xs) [] h = tt
shared_turned (x ∷ xs) (y ∷ ys) h = (sym h.0, shared_turned xs ys h.1)

beside_creations : (s t : Store) → Beside s t → AtSharedPlaces SameClass s.creations t.creations
beside_creations s t e = shared_same s.creations t.creations (ap (λ (u : Store). u.creations) e.same)

shared_creations : {A : Type 0} (V : A → A → Type 0) (o p : Outcome A) → Follows V o p → AtSharedPlaces SameClass (store_after o).creations (store_after p).creations
shared_creations V o p (goes {s = s} {t = t} v e) = beside_creations s t e
shared_creations V o p (returns {s = s} {t = t} e) = beside_creations s t e
shared_creations V o p (ends {s = s} {t = t} e) = beside_creations s t e
shared_creations V o p (waited {s = s} {p = p'} l) = shared_begins SameClass s.creations (store_after p').creations l.creations
shared_creations V o p (first_spent {s = s} {p = p'} l) = shared_begins SameClass s.creations (store_after p').creations l.creations
shared_creations V o p (second_spent {o = o'} {t = t} i) = shared_turned t.creations (store_after o').creations (shared_begins SameClass t.creations (store_after o').creations i.1)

-- where the first is spent the second has as many turns, or is spent
abbrev NoFewer : {A : Type 0} → Outcome A → Outcome A → Type 0
NoFewer o p = ((store_after o).turns ≤ (store_after p).turns) ⊎ (is_spent p ≡ true)

no_fewer : {A : Type 0} (V : A → A → Type 0) (o p : Outcome A) → Follows V o p → is_spent o ≡ true → NoFewer o p
no_fewer V o p (goes v e) h = absurd cc
no_fewer V o p (returns e) h = absurd cc
no_fewer V o p (ends e) h = inl e.turns
no_fewer V o p (waited l) h = absurd cc
no_fewer V o p (first_spent l) h = inl l.turns
no_fewer V o p (second_spent i) h = inr refl

-- ---- two yields

pub record YieldsFollow (y z : Yield) : Type 0 where
  pub first : Outcome (Unit {0})
  pub second : Outcome (Unit {0})
  pub follow : Follows Same first second
  pub tells : Tells first y
  pub tells_more : Tells second z

module _ (ds : List Declaration) (n m : ℕ) (le : n ≤ m) (replies more : FinMap nat_cmp Known) (among : AreAmong replies more) (start : BodyStart) where
  abbrev with_few : Context
  with_few = context_with ds n replies (callees_at n ds n replies)

  abbrev with_more : Context
  with_more = context_with ds m more (callees_at m ds m more)

  members_follow : (found : Option (Class × Member)) → YieldsFollow (member_body with_few start found) (member_body with_more start found)
  members_follow None =
      let s = store_with [] start.state start.input 0 in
      record { first = Ends end.Waits s; second = Ends end.Waits s; follow = waited (Later-itself s); tells = main_tells _; tells_more = main_tells _ }
  members_follow (Some found) =
      let s = store_with (formals_holding found.1.formals (split_words ds found.1.formals start.args)) start.state start.input 0 in
      let ran = (run_kept (by_replies n m le replies more among) _ _ (callees_beside ds n m le n m replies more among le) (in_class found.0 start with_few) found.1.body.statements) in
      record { first = _; second = _; follow = ran.follows s s (Beside-itself s); tells = member_tells found.1 _; tells_more = member_tells found.1 _ }

  bodies_follow : (member : Option MemberId) → YieldsFollow (body_of with_few start member) (body_of with_more start member)
  bodies_follow None =
      let s = store_with [] start.state start.input 0 in
      let ran = (run_kept (by_replies n m le replies more among) _ _ (callees_beside ds n m le n m replies more among le) (record with_few { number = start.number }) (main_statements ds)) in
      record { first = _; second = _; follow = ran.follows s s (Beside-itself s); tells = main_tells _; tells_more = main_tells _ }
  bodies_follow (Some m) = members_follow (member_of_classes m.0 (classes_of ds))

-- ---- the laws

pub calls_shared : (p : Program) (start : BodyStart) (replies more : FinMap nat_cmp Known) (n m : ℕ) → AreAmong replies more → n ≤ m
    → AtSharedPlaces CallStays (yield_of p start replies n).calls (yield_of p start more m).calls
calls_shared p start replies more n m among le =
    let b = bodies_follow p.declarations n m le replies more among start start.member in
    subst (λ xs. AtSharedPlaces CallStays xs (yield_of p start more m).calls) b.tells.calls
    (subst (λ ys. AtSharedPlaces CallStays (store_after b.first).calls ys) b.tells_more.calls (shared_calls Same b.first b.second b.follow))

pub creations_shared : (p : Program) (start : BodyStart) (replies more : FinMap nat_cmp Known) (n m : ℕ) → AreAmong replies more → n ≤ m
    → AtSharedPlaces (λ class other. class ≡ other) (yield_of p start replies n).creations (yield_of p start more m).creations
creations_shared p start replies more n m among le =
    let b = bodies_follow p.declarations n m le replies more among start start.member in
    subst (λ xs. AtSharedPlaces SameClass xs (yield_of p start more m).creations) b.tells.creations
    (subst (λ ys. AtSharedPlaces SameClass (store_after b.first).creations ys) b.tells_more.creations (shared_creations Same b.first b.second b.follow))

pub spent_beyond : (p : Program) (start : BodyStart) (replies more : FinMap nat_cmp Known) (n m : ℕ) → AreAmong replies more → n ≤ m
    → (yield_of p start replies n).end ≡ end.Spent → n < (yield_of p start more m).turns
spent_beyond p start replies more n m among le h = by_second (no_fewer Same b.first b.second b.follow (b.tells.spent ∙ spent_is _ h)) where
  b : YieldsFollow (yield_of p start replies n) (yield_of p start more m)
  b = bodies_follow p.declarations n m le replies more among start start.member

  by_second : NoFewer b.first b.second → n < (yield_of p start more m).turns
  by_second (inl few) = omega (arith, few, b.tells.turns, b.tells_more.turns, turns_spent p start replies n h)
  by_second (inr spent) = omega (arith, turns_spent p start more m (is_spent_so _ (sym b.tells_more.spent ∙ spent)))

pub stays_spent : (p : Program) (start : BodyStart) (replies more : FinMap nat_cmp Known) (n : ℕ) → AreAmong replies more
    → (yield_of p start replies n).end ≡ end.Spent → (yield_of p start more n).end ≡ end.Spent
stays_spent p start replies more n among h = by_test (is_spent_end y.end) refl where
  y : Yield
  y = yield_of p start more n

  by_test : (b : Bool) → is_spent_end y.end ≡ b → y.end ≡ end.Spent
  by_test true e = is_spent_so y.end e
  by_test false e = absurd (omega (arith, spent_beyond p start replies more n n among (le_refl n) h, turns_within p start more n (is_not_spent y.end e)))
