-- The test of closed journals decides.
use Rattle.std.proofs.Common.{◌≡◌, ℕ, zero, suc, ◌+◌, ◌*◌, ◌/◌, ◌%◌, ◌<◌, ◌^◌, Bool, true, false, not, ◌&&◌, ◌||◌, ◌⊎◌, inl, inr, List, [], ◌∷◌, length, Option, Some, None, if◌then◌else◌, ℤ, pos, negsuc, refl, sym, ap, ◌∙◌, subst, arith, nat_eq}
use Rattle.std.proofs.lemmas.Bool.{eqb-true}
use Rattle.std.specs.List.{list_all}
use Rattle.std.specs.Option.{is_some}
use Rattle.std.specs.Prelude.{slice_get}
use Rattle.mpl_value.specs.declared.body.CallMade.{CallMade}
use Rattle.mpl_value.specs.declared.known.Known.{Known}
use Rattle.mpl_value.specs.Words.{object_word}
use Rattle.mpl_mean.proofs.Truth.{both_true, or_left, or_right, some_is}
use Rattle.mdf_mean.specs.declared.entry.Entry.{Entry}
use Rattle.mdf_mean.specs.declared.entry.Entry.TheVariants.{Arrive, Accept, Reply}
use Rattle.mdf_mean.specs.Decides.{each_number, is_closed_by, is_replied, none_accepts, none_arrives}
use Rattle.mdf_mean.specs.Explained.{IsClosed, MayArrive, MayReply}
use Rattle.mdf_mean.specs.Histories.{CallName, accepted_as, has_arrived, has_reply, is_named}
use Rattle.mdf_mean.specs.Meanings.{Meaning}
use Rattle.mdf_mean.specs.Picks.{pick}
use Rattle.mdf_mean.specs.Ran.{Ran, body_numbered, call_in, class_of, creation_in, creator_of, if_known, is_idle, known_call, numbered, place_of, result_of}
use Rattle.mdf_mean.proofs.Basics.{by_bool, by_option, not_both}

-- ---- tests

and_true : {a b : Bool} → a ≡ true → b ≡ true → (a && b) ≡ true
and_true {b = b} e f = ap (λ t. t && b) e ∙ f

all_of : {A : Type 0} (test : A → Bool) → ((a : A) → test a ≡ true) → (xs : List A) → list_all test xs ≡ true
all_of test h [] = refl
all_of test h (x ∷ xs) = and_true (h x) (all_of test h xs)

each_of : {A : Type 0} (test : ℕ → Bool) → ((k : ℕ) → test k ≡ true) → (items : List A) → each_number test items ≡ true
each_of test h [] = refl
each_of test h (x ∷ items) = and_true (h (suc (length items))) (each_of test h items)

-- a place that has an item is below the length
place_below : {A : Type 0} (items : List A) (n : ℕ) (a : A) → slice_get items n ≡ Some a → n < length items
place_below [] n a e = absurd cc
place_below (x ∷ items) zero a e = omega arith
place_below (x ∷ items) (suc n) a e = let r = place_below items n a e in omega (arith, r)

each_at : {A : Type 0} (test : ℕ → Bool) (items : List A) (n : ℕ) → each_number test items ≡ true → n < length items → test (suc n) ≡ true
each_at test [] n h l = absurd (omega arith)
each_at test (x ∷ items) n h l = by_place (both_true (test (suc (length items))) (each_number test items) h) (each_at test items n) (last_or n (length items) (omega arith)) where
  last_or : (n m : ℕ) → n < m + 1 → (n ≡ m) ⊎ (n < m)
  last_or n m l = grind arith

  by_place : (test (suc (length items)) ≡ true) × (each_number test items ≡ true) → (each_number test items ≡ true → n < length items → test (suc n) ≡ true) → (n ≡ length items) ⊎ (n < length items) → test (suc n) ≡ true
  by_place both r (inl e) = subst (λ k. test (suc k) ≡ true) (sym e) both.0
  by_place both r (inr l) = r both.1 l

each_numbered : {A : Type 0} (test : ℕ → Bool) (items : List A) (k : ℕ) (a : A) → each_number test items ≡ true → numbered k items ≡ Some a → test k ≡ true
each_numbered test items zero a h e = absurd cc
each_numbered test items (suc n) a h e = each_at test items n h (place_below items n a e)

-- the second of two holds where the first doesn't
or_second : (a b : Bool) → a ≡ false → (a || b) ≡ true → b ≡ true
or_second true b e h = absurd cc
or_second false b e h = h

-- ---- bodies

body_at : (test : Ran → Bool) (bs : List Ran) (i : ℕ) (b : Ran) → list_all test bs ≡ true → body_numbered i bs ≡ Some b → (b.start.number ≡ i) × (test b ≡ true)
body_at test [] i b h e = absurd cc
body_at test (c ∷ bs) i b h e = by_test (both_true (test c) (list_all test bs) h) (body_at test bs i b) (nat_eq c.start.number i) refl e where
  by_test : (test c ≡ true) × (list_all test bs ≡ true) → (list_all test bs ≡ true → body_numbered i bs ≡ Some b → (b.start.number ≡ i) × (test b ≡ true)) → (t : Bool) → nat_eq c.start.number i ≡ t
      → (if t then Some c else body_numbered i bs) ≡ Some b → (b.start.number ≡ i) × (test b ≡ true)
  by_test both r true t e = (subst (λ (x : Ran). x.start.number ≡ i) (some_is e) (eqb-true c.start.number i t), subst (λ x. test x ≡ true) (some_is e) both.0)
  by_test both r false t e = r both.1 e

record MadeAt (bs : List Ran) (i k : ℕ) : Type 0 where
  maker : Ran
  found : body_numbered i bs ≡ Some maker
  call : CallMade
  is : numbered k maker.yield.calls ≡ Some call

made_at : (bs : List Ran) (i k : ℕ) (call : CallMade) → known_call bs i k ≡ Some call → MadeAt bs i k
made_at bs i k call e =
    by_option (body_numbered i bs)
    (λ n. not_both (ap (λ b. if_known (call_in k b)) n) e)
    (λ b f. by_option (numbered k b.yield.calls)
    (λ n. not_both (ap (λ b. if_known (call_in k b)) f ∙ ap if_known n) e)
    (λ c is. record { maker = b; found = f; call = c; is = is }))

record CreatedAt (bs : List Ran) (o : ℤ) : Type 0 where
  creator : Ran
  found : body_numbered (creator_of o) bs ≡ Some creator
  class : ℤ
  is : numbered (place_of o) creator.yield.creations ≡ Some class

created_at : (bs : List Ran) (o class : ℤ) → class_of bs o ≡ Some class → CreatedAt bs o
created_at bs o class e =
    by_option (body_numbered (creator_of o) bs)
    (λ n. not_both (ap (creation_in (place_of o)) n) e)
    (λ b f. record { creator = b; found = f; class = class; is = sym (ap (creation_in (place_of o)) f) ∙ e })

word_back : (w : ℕ) → w / 2 ^ 32 * 2 ^ 32 + w % 2 ^ 32 ≡ w
word_back w = omega arith

-- an object that was created has the word of its creator and its place
word_is : (o : ℤ) (xs : List ℤ) (class : ℤ) → numbered (place_of o) xs ≡ Some class → object_word (creator_of o) (place_of o) ≡ o
word_is (pos w) xs class e = ap pos (word_back w)
word_is (negsuc n) xs class e = absurd (none_first e) where
  none_first : ◌≡◌ {A = Option ℤ} None (Some class) → ⊥
  none_first e = cc

-- ---- from the test

module _ (m : Meaning) (bs : List Ran) (h : List Entry) where
  none_may_arrive : none_arrives bs h ≡ true → (i k : ℕ) → MayArrive bs h i k → ⊥
  none_may_arrive t i k a =
      let at = made_at bs i k a.call a.made in
      let body = body_at (λ (b : Ran). each_number (λ k. not (is_some (known_call bs b.start.number k)) || has_arrived b.start.number k h) b.yield.calls) bs i at.maker t at.found in
      let test = each_numbered (λ k. not (is_some (known_call bs at.maker.start.number k)) || has_arrived at.maker.start.number k h) at.maker.yield.calls k at.call body.1 at.is in
      let here = subst (λ j. (not (is_some (known_call bs j k)) || has_arrived j k h) ≡ true) body.0 test in
      contradicts (or_second (not (is_some (known_call bs i k))) (has_arrived i k h) (ap (λ c. not (is_some c)) a.made) here) a.first where
        contradicts : has_arrived i k h ≡ true → has_arrived i k h ≡ false → ⊥
        contradicts e f = absurd cc

  none_may_accept : none_accepts m bs h ≡ true → (o : ℤ) → is_idle bs o ≡ true → pick m bs h o ≡ None
  none_may_accept t o idle =
      by_option (class_of bs o)
      (λ n. absurd (there n (both_true (is_some (class_of bs o)) _ idle).0))
      (λ class is.
      let at = created_at bs o class is in
      let body = body_at (λ (b : Ran). each_number (λ j. let o = object_word b.start.number j in not (is_idle bs o) || not (is_some (pick m bs h o))) b.yield.creations) bs (creator_of o) at.creator t at.found in
      let test = each_numbered (λ j. let o = object_word at.creator.start.number j in not (is_idle bs o) || not (is_some (pick m bs h o))) at.creator.yield.creations (place_of o) at.class body.1 at.is in
      let word = ap (λ i. object_word i (place_of o)) body.0 ∙ word_is o at.creator.yield.creations at.class at.is in
      let here = subst (λ o. (not (is_idle bs o) || not (is_some (pick m bs h o))) ≡ true) word test in
      none_is (pick m bs h o) (or_second (not (is_idle bs o)) (not (is_some (pick m bs h o))) (ap not idle) here)) where
        none_is : (p : Option CallName) → not (is_some p) ≡ true → p ≡ None
        none_is None e = refl
        none_is (Some c) e = absurd cc

        there : class_of bs o ≡ None → is_some (class_of bs o) ≡ true → ⊥
        there n t = contra (sym (ap is_some n) ∙ t) where
          contra : false ≡ true → ⊥
          contra e = absurd cc

  accept_at : (test : Entry → Bool) (i k n : ℕ) (part : List Entry) → list_all test part ≡ true → accepted_as i k part ≡ Some n → test (Accept n i k) ≡ true
  accept_at test i k n [] t e = absurd cc
  accept_at test i k n (Arrive j l ∷ part) t e = accept_at test i k n part (both_true _ _ t).1 e
  accept_at test i k n (Accept number j l ∷ part) t e = by_name (both_true (test (Accept number j l)) (list_all test part) t) (accept_at test i k n part) (is_named i k j l) refl e where
    by_name : (test (Accept number j l) ≡ true) × (list_all test part ≡ true) → (list_all test part ≡ true → accepted_as i k part ≡ Some n → test (Accept n i k) ≡ true) → (b : Bool) → is_named i k j l ≡ b
        → (if b then Some number else accepted_as i k part) ≡ Some n → test (Accept n i k) ≡ true
    by_name both r true b e =
        let names = both_true (nat_eq j i) (nat_eq l k) b in
        subst (λ l. test (Accept n i l) ≡ true) (eqb-true l k names.1) (subst (λ j. test (Accept n j l) ≡ true) (eqb-true j i names.0) (subst (λ number. test (Accept number j l) ≡ true) (some_is e) both.0))
    by_name both r false b e = r both.1 e
  accept_at test i k n (Reply j l v ∷ part) t e = accept_at test i k n part (both_true _ _ t).1 e

  none_may_reply : list_all (is_replied bs h) h ≡ true → (i k : ℕ) (v : Known) → MayReply bs h i k v → ⊥
  none_may_reply t i k v a =
      by_option (accepted_as i k h)
      (λ n. not_both (ap (result_of bs) n) a.given)
      (λ number is.
      contradicts (or_second (not (is_some (result_of bs (accepted_as i k h)))) (has_reply i k h) (ap (λ r. not (is_some r)) a.given) (accept_at (is_replied bs h) i k number h t is)) a.first) where
        contradicts : has_reply i k h ≡ true → has_reply i k h ≡ false → ⊥
        contradicts e f = absurd cc

  pub closed_is : is_closed_by m bs h ≡ true → IsClosed m bs h
  closed_is t =
      let both = both_true (none_arrives bs h) (none_accepts m bs h && list_all (is_replied bs h) h) t in
      let rest = both_true (none_accepts m bs h) (list_all (is_replied bs h) h) both.1 in
      record { arrived = none_may_arrive both.0; accepted = none_may_accept rest.0; replied = none_may_reply rest.1 }

  -- ---- to the test

  arrived_test : IsClosed m bs h → (i k : ℕ) → (not (is_some (known_call bs i k)) || has_arrived i k h) ≡ true
  arrived_test c i k =
      by_option (known_call bs i k)
      (λ n. or_left (not (is_some (known_call bs i k))) (has_arrived i k h) (ap (λ c. not (is_some c)) n))
      (λ call is. by_bool (has_arrived i k h)
      (λ e. or_right (not (is_some (known_call bs i k))) (has_arrived i k h) e)
      (λ e. absurd (c.arrived i k (record { call = call; made = is; first = e }))))

  accepted_test : IsClosed m bs h → (o : ℤ) → (not (is_idle bs o) || not (is_some (pick m bs h o))) ≡ true
  accepted_test c o =
      by_bool (is_idle bs o)
      (λ e. or_right (not (is_idle bs o)) (not (is_some (pick m bs h o))) (ap (λ p. not (is_some p)) (c.accepted o e)))
      (λ e. or_left (not (is_idle bs o)) (not (is_some (pick m bs h o))) (ap not e))

  replied_test : IsClosed m bs h → (e : Entry) → is_replied bs h e ≡ true
  replied_test c (Arrive i k) = refl
  replied_test c (Accept n i k) =
      by_option (result_of bs (accepted_as i k h))
      (λ none. or_left (not (is_some (result_of bs (accepted_as i k h)))) (has_reply i k h) (ap (λ r. not (is_some r)) none))
      (λ v is. by_bool (has_reply i k h)
      (λ e. or_right (not (is_some (result_of bs (accepted_as i k h)))) (has_reply i k h) e)
      (λ e. absurd (c.replied i k v (record { given = is; first = e }))))
  replied_test c (Reply i k v) = refl

  pub is_closed_so : IsClosed m bs h → is_closed_by m bs h ≡ true
  is_closed_so c =
      and_true (all_of _ (λ (b : Ran). each_of _ (λ k. arrived_test c b.start.number k) b.yield.calls) bs)
      (and_true (all_of _ (λ (b : Ran). each_of _ (λ j. accepted_test c (object_word b.start.number j)) b.yield.creations) bs) (all_of _ (replied_test c) h))
