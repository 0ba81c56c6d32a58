-- The bodies of a journal by their numbers.
use Rattle.std.proofs.Common.{◌≡◌, ℕ, ◌<◌, Bool, true, false, ◌&&◌, ◌||◌, ◌⊎◌, inl, inr, List, [], ◌∷◌, map, Option, Some, None, if◌then◌else◌, refl, sym, ap, ◌∙◌, subst, arith, nat_eq}
use Rattle.std.proofs.lemmas.Bool.{eqb-true, eq-eqb}
use Rattle.std.specs.Option.{option_map}
use Rattle.mpl_value.specs.declared.body.BodyStart.{BodyStart}
use Rattle.mpl_value.specs.declared.body.CallMade.{CallMade}
use Rattle.mpl_mean.specs.Meaning.DirectRun.{main_start}
use Rattle.mpl_mean.proofs.Truth.{or_left, or_right, never, some_is}
use Rattle.mdf_mean.specs.declared.entry.Entry.{Entry}
use Rattle.mdf_mean.specs.declared.entry.Entry.TheVariants.{Arrive, Accept, Reply}
use Rattle.mdf_mean.specs.Explained.{MayAccept}
use Rattle.mdf_mean.specs.Histories.{accepted_as, has_reply, is_named, is_taken, replies_to}
use Rattle.mdf_mean.specs.Meanings.{Meaning, Setting, answer_to}
use Rattle.mdf_mean.specs.Ran.{Ran, accepted_start, bodies, body_numbered, is_known, known_call, call_in, if_known, numbered, ran, starts_of, state_of, with_call}
use Rattle.mdf_mean.proofs.Basics.{by_option, not_both}
use Rattle.std.specs.List.{list_all}

abbrev pub find_start : ℕ → List BodyStart → Option BodyStart
find_start i [] = None
find_start i (b ∷ starts) = if nat_eq b.number i then Some b else find_start i starts

-- what a body of a list did is found by its start
pub body_found : (s : Setting) (h : List Entry) (i : ℕ) (starts : List BodyStart) → body_numbered i (map (ran s h) starts) ≡ option_map (ran s h) (find_start i starts)
body_found s h i [] = refl
body_found s h i (b ∷ starts) = by_test (body_found s h i starts) (nat_eq b.number i) where
  by_test : body_numbered i (map (ran s h) starts) ≡ option_map (ran s h) (find_start i starts) → (t : Bool)
      → (if t then Some (ran s h b) else body_numbered i (map (ran s h) starts)) ≡ option_map (ran s h) (if t then Some b else find_start i starts)
  by_test r true = refl
  by_test r false = r

pub found_number : (i : ℕ) (starts : List BodyStart) (b : BodyStart) → find_start i starts ≡ Some b → b.number ≡ i
found_number i [] b e = absurd cc
found_number i (c ∷ starts) b e = by_test (found_number i starts b) (nat_eq c.number i) refl e where
  by_test : (find_start i starts ≡ Some b → b.number ≡ i) → (t : Bool) → nat_eq c.number i ≡ t → (if t then Some c else find_start i starts) ≡ Some b → b.number ≡ i
  by_test r true t e = ap (λ (x : BodyStart). x.number) (sym (some_is e)) ∙ eqb-true c.number i t
  by_test r false t e = r e

-- ---- numbers that are taken

abbrev IsTaken : ℕ → List Entry → Type 0
IsTaken i h = (i ≡ 0) ⊎ (is_taken i h ≡ true)

taken_more : (n i : ℕ) (h : List Entry) → IsTaken i h → (i ≡ 0) ⊎ ((nat_eq n i || is_taken i h) ≡ true)
taken_more n i h (inl e) = inl e
taken_more n i h (inr e) = inr (or_right (nat_eq n i) (is_taken i h) e)

taken_with : (m : Meaning) (n i : ℕ) (h : List Entry) (bs : List Ran) (starts : List BodyStart) (b : BodyStart) → (find_start i starts ≡ Some b → IsTaken i h) → (call : Option CallMade)
    → find_start i (with_call m n bs starts call) ≡ Some b → (i ≡ 0) ⊎ ((nat_eq n i || is_taken i h) ≡ true)
taken_with m n i h bs starts b r None e = taken_more n i h (r e)
taken_with m n i h bs starts b r (Some call) e = by_test (nat_eq n i) refl e where
  by_test : (t : Bool) → nat_eq n i ≡ t → (if t then Some (accepted_start n (state_of m bs call.object) call) else find_start i starts) ≡ Some b → (i ≡ 0) ⊎ ((nat_eq n i || is_taken i h) ≡ true)
  by_test true t e = inr (or_left (nat_eq n i) (is_taken i h) t)
  by_test false t e = taken_more n i h (r e)

pub found_taken : (s : Setting) (h : List Entry) (i : ℕ) (b : BodyStart) → find_start i (starts_of s h) ≡ Some b → IsTaken i h
found_taken s [] i b e = by_test (nat_eq 0 i) refl e where
  by_test : (t : Bool) → nat_eq 0 i ≡ t → (if t then Some (main_start s.input) else None) ≡ Some b → IsTaken i []
  by_test true t e = inl (sym (eqb-true 0 i t))
  by_test false t e = absurd cc
found_taken s (Arrive j k ∷ h) i b e = found_taken s h i b e
found_taken s (Accept n j k ∷ h) i b e = taken_with s.meaning n i h (bodies s h) (starts_of s h) b (found_taken s h i b) (known_call (bodies s h) j k) e
found_taken s (Reply j k known ∷ h) i b e = found_taken s h i b e

-- a number that is free is no body's
pub free_absent : (s : Setting) (h : List Entry) (n : ℕ) → 0 < n → is_taken n h ≡ false → find_start n (starts_of s h) ≡ None
free_absent s h n least free = by_option (find_start n (starts_of s h)) (λ e. e) (λ b e. by_taken (found_taken s h n b e)) where
  by_taken : IsTaken n h → find_start n (starts_of s h) ≡ None
  by_taken (inl e) = absurd (omega (arith, e))
  by_taken (inr e) = never _ free e

-- a number that was given is taken
pub given_taken : (i k n : ℕ) (h : List Entry) → accepted_as i k h ≡ Some n → is_taken n h ≡ true
given_taken i k n [] e = absurd cc
given_taken i k n (Arrive j l ∷ h) e = given_taken i k n h e
given_taken i k n (Accept m j l ∷ h) e = by_test (given_taken i k n h) (is_named i k j l) e where
  by_test : (accepted_as i k h ≡ Some n → is_taken n h ≡ true) → (t : Bool) → (if t then Some m else accepted_as i k h) ≡ Some n → (nat_eq m n || is_taken n h) ≡ true
  by_test r true e = or_left (nat_eq m n) (is_taken n h) (eq-eqb m n (some_is e))
  by_test r false e = or_right (nat_eq m n) (is_taken n h) (r e)
given_taken i k n (Reply j l known ∷ h) e = given_taken i k n h e

-- ---- replies

-- a call without a reply has no answer
pub no_answer : (i k : ℕ) (h : List Entry) → has_reply i k h ≡ false → answer_to k (replies_to i h) ≡ None
no_answer i k [] e = refl
no_answer i k (Arrive j l ∷ h) e = no_answer i k h e
no_answer i k (Accept m j l ∷ h) e = no_answer i k h e
no_answer i k (Reply j l known ∷ h) e = by_body (no_answer i k h) (nat_eq j i) e where
  by_call : (has_reply i k h ≡ false → answer_to k (replies_to i h) ≡ None) → (t : Bool) → (t || has_reply i k h) ≡ false → (if t then Some known else answer_to k (replies_to i h)) ≡ None
  by_call r true e = absurd cc
  by_call r false e = r e

  by_body : (has_reply i k h ≡ false → answer_to k (replies_to i h) ≡ None) → (t : Bool) → ((t && nat_eq l k) || has_reply i k h) ≡ false
      → answer_to k (if t then (l, known) ∷ replies_to i h else replies_to i h) ≡ None
  by_body r true e = by_call r (nat_eq l k) e
  by_body r false e = r e

-- ---- calls

-- the body that made a call, and the call among those of its yield
pub record MadeBy (s : Setting) (h : List Entry) (starts : List BodyStart) (i k : ℕ) (call : CallMade) : Type 0 where
  pub maker : BodyStart
  pub found : find_start i starts ≡ Some maker
  pub made : numbered k (s.meaning.yield maker (replies_to i h) s.turns).calls ≡ Some call
  pub are_known : list_all is_known call.args ≡ true

known_is : (made : Option CallMade) (call : CallMade) → if_known made ≡ Some call → (made ≡ Some call) × (list_all is_known call.args ≡ true)
known_is None call e = absurd cc
known_is (Some c) call e = by_test (list_all is_known c.args) refl e where
  by_test : (t : Bool) → list_all is_known c.args ≡ t → (if t then Some c else None) ≡ Some call → (Some c ≡ Some call) × (list_all is_known call.args ≡ true)
  by_test true t e = (e, subst (λ (x : CallMade). list_all is_known x.args ≡ true) (some_is e) t)
  by_test false t e = absurd cc

pub made_by : (s : Setting) (h : List Entry) (starts : List BodyStart) (i k : ℕ) (call : CallMade) → known_call (map (ran s h) starts) i k ≡ Some call → MadeBy s h starts i k call
made_by s h starts i k call e =
    by_option (find_start i starts)
    (λ n. absurd (not_both {A = CallMade} (ap (λ o. if_known (call_in k o)) (body_found s h i starts ∙ ap (option_map (ran s h)) n)) e))
    (λ b f.
    let is = known_is (call_in k (Some (ran s h b))) call (sym (ap (λ o. if_known (call_in k o)) (body_found s h i starts ∙ ap (option_map (ran s h)) f)) ∙ e) in
    record { maker = b; found = f; made = subst (λ j. numbered k (s.meaning.yield b (replies_to j h) s.turns).calls ≡ Some call) (found_number i starts b f) is.0; are_known = is.1 })

-- the starts after a call is accepted
pub starts_with : (s : Setting) (h : List Entry) (n i k : ℕ) (a : MayAccept s.meaning (bodies s h) h n i k)
    → starts_of s (Accept n i k ∷ h) ≡ accepted_start n (state_of s.meaning (bodies s h) a.call.object) a.call ∷ starts_of s h
starts_with s h n i k a = ap (with_call s.meaning n (bodies s h) (starts_of s h)) a.made
