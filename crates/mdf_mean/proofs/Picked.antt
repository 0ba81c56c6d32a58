-- What is picked is named by an entry of the object's class.
use Rattle.std.proofs.Common.{◌≡◌, ℕ, Bool, true, false, ◌&&◌, List, [], ◌∷◌, Option, Some, None, if◌then◌else◌, ℤ, refl, sym, ap, ◌∙◌, subst, nat_eq, nat_lt}
use Rattle.std.proofs.lemmas.Bool.{eqb-true}
use Rattle.std.specs.Option.{option_map, is_some}
use Rattle.std.specs.Ordering.{int_eq}
use Rattle.mpl_value.specs.declared.body.CallMade.{CallMade}
use Rattle.mpl_value.specs.declared.body.MemberId.{MemberId}
use Rattle.mpl_mean.specs.Laws.Sizes.{Every}
use Rattle.mpl_mean.proofs.Truth.{both_true, some_is}
use Rattle.mdf_mean.specs.declared.entry.Entry.{Entry}
use Rattle.mdf_mean.specs.declared.entry.Entry.TheVariants.{Arrive, Accept, Reply}
use Rattle.mdf_mean.specs.Fits.{IsOf}
use Rattle.mdf_mean.specs.Histories.{CallName, accepted_as}
use Rattle.mdf_mean.specs.Meanings.{Choice, Meaning}
use Rattle.mdf_mean.specs.Picks.{Candidate, best_of, better, candidate, choices_of, greatest, if_on, open_at, pick, priority_of, waiting_call}
use Rattle.mdf_mean.specs.Ran.{Ran, argument_words, class_of, known_call, state_of}

-- ---- entries that hold

member_is : (a b : MemberId) → a.0 ≡ b.0 → a ≡ b
member_is a b e = ap (λ n. record { 0 = n }) e

chosen : (m : Meaning) (class : ℤ) (choices : List Choice) (state : List ℤ) (call : CallMade) (p : ℕ) → Every (λ (choice : Choice). IsOf class (m.sizes choice.member)) choices
    → greatest (open_at choices state call) ≡ Some p → IsOf class (m.sizes call.member)
chosen m class [] state call p h e = absurd cc
chosen m class (choice ∷ others) state call p h e = by_test (chosen m class others state call p h.1) (nat_eq choice.member.0 call.member.0 && choice.holds state (argument_words call.args)) refl e where
  by_test : (greatest (open_at others state call) ≡ Some p → IsOf class (m.sizes call.member)) → (t : Bool)
      → (nat_eq choice.member.0 call.member.0 && choice.holds state (argument_words call.args)) ≡ t
      → greatest (if t then choice.priority ∷ open_at others state call else open_at others state call) ≡ Some p → IsOf class (m.sizes call.member)
  by_test r true t e =
      subst (λ id. IsOf class (m.sizes id)) (member_is choice.member call.member (eqb-true _ _ (both_true (nat_eq choice.member.0 call.member.0) (choice.holds state (argument_words call.args)) t).0)) h.0
  by_test r false t e = r e

-- ---- candidates

-- a call that is on the object, isn't accepted yet, and is open
pub record IsOpen (m : Meaning) (bs : List Ran) (h : List Entry) (o : ℤ) (i k : ℕ) : Type 0 where
  pub call : CallMade
  pub made : known_call bs i k ≡ Some call
  pub free : is_some (accepted_as i k h) ≡ false
  pub priority : ℕ
  pub opens : greatest (open_at (choices_of m (class_of bs o)) (state_of m bs o) call) ≡ Some priority

pub waits_as : (bs : List Ran) (h : List Entry) (o : ℤ) (i k : ℕ) (call : CallMade) → waiting_call bs h o i k ≡ Some call → (is_some (accepted_as i k h) ≡ false) × (known_call bs i k ≡ Some call)
waits_as bs h o i k call e = by_accepted (is_some (accepted_as i k h)) refl e where
  on : (o' : Option CallMade) → if_on o o' ≡ Some call → o' ≡ Some call
  on None e = absurd cc
  on (Some c) e = by_object (int_eq c.object o) e where
    by_object : (t : Bool) → (if t then Some c else None) ≡ Some call → Some c ≡ Some call
    by_object true e = e
    by_object false e = absurd cc

  by_accepted : (t : Bool) → is_some (accepted_as i k h) ≡ t → (if t then None else if_on o (known_call bs i k)) ≡ Some call → (is_some (accepted_as i k h) ≡ false) × (known_call bs i k ≡ Some call)
  by_accepted true t e = absurd cc
  by_accepted false t e = (t, on (known_call bs i k) e)

candidate_opens : (m : Meaning) (bs : List Ran) (h : List Entry) (o : ℤ) (i k : ℕ) (c : Candidate) → candidate m bs h o i k ≡ Some c
    → (c.name ≡ record { body = i; call = k }) × IsOpen m bs h o i k
candidate_opens m bs h o i k c e = by_call (waiting_call bs h o i k) refl e where
  named : ℕ → Candidate
  named = λ priority. record { priority = priority; name = record { body = i; call = k } }

  by_priority : (call : CallMade) → waiting_call bs h o i k ≡ Some call → (p : Option ℕ) → priority_of m bs o (Some call) ≡ p → option_map named p ≡ Some c
      → (c.name ≡ record { body = i; call = k }) × IsOpen m bs h o i k
  by_priority call w None p e = absurd cc
  by_priority call w (Some priority) p e =
      let is = waits_as bs h o i k call w in
      (ap (λ (d : Candidate). d.name) (sym (some_is e)), record { call = call; made = is.1; free = is.0; priority = priority; opens = p })

  by_call : (call : Option CallMade) → waiting_call bs h o i k ≡ call → option_map named (priority_of m bs o call) ≡ Some c
      → (c.name ≡ record { body = i; call = k }) × IsOpen m bs h o i k
  by_call None w e = absurd cc
  by_call (Some call) w e = by_priority call w (priority_of m bs o (Some call)) refl e

best_opens : (m : Meaning) (bs : List Ran) (h : List Entry) (o : ℤ) (part : List Entry) (c : Candidate) → best_of m bs h o part ≡ Some c → IsOpen m bs h o c.name.body c.name.call
best_opens m bs h o [] c e = absurd cc
best_opens m bs h o (Arrive i k ∷ part) c e = by_later (best_opens m bs h o part) (candidate m bs h o i k) refl e where
  of_candidate : (d : Candidate) → candidate m bs h o i k ≡ Some d → IsOpen m bs h o d.name.body d.name.call
  of_candidate d e = let is = candidate_opens m bs h o i k d e in subst (λ (name : CallName). IsOpen m bs h o name.body name.call) (sym is.0) is.1

  by_test : (later earlier : Candidate) → IsOpen m bs h o later.name.body later.name.call → IsOpen m bs h o earlier.name.body earlier.name.call → (t : Bool)
      → (if t then Some later else Some earlier) ≡ Some c → IsOpen m bs h o c.name.body c.name.call
  by_test later earlier l r true e = subst (λ (d : Candidate). IsOpen m bs h o d.name.body d.name.call) (some_is e) l
  by_test later earlier l r false e = subst (λ (d : Candidate). IsOpen m bs h o d.name.body d.name.call) (some_is e) r

  by_earlier : ((d : Candidate) → best_of m bs h o part ≡ Some d → IsOpen m bs h o d.name.body d.name.call) → (later : Candidate) → candidate m bs h o i k ≡ Some later → (earlier : Option Candidate) → best_of m bs h o part ≡ earlier
      → better (Some later) earlier ≡ Some c → IsOpen m bs h o c.name.body c.name.call
  by_earlier r later l None b e = of_candidate c (l ∙ e)
  by_earlier r later l (Some earlier) b e = by_test later earlier (of_candidate later l) (r earlier b) (nat_lt earlier.priority later.priority) e

  by_later : ((d : Candidate) → best_of m bs h o part ≡ Some d → IsOpen m bs h o d.name.body d.name.call) → (later : Option Candidate) → candidate m bs h o i k ≡ later
      → better later (best_of m bs h o part) ≡ Some c → IsOpen m bs h o c.name.body c.name.call
  by_later r None l e = r c e
  by_later r (Some later) l e = by_earlier r later l (best_of m bs h o part) refl e
best_opens m bs h o (Accept n i k ∷ part) c e = best_opens m bs h o part c e
best_opens m bs h o (Reply i k known ∷ part) c e = best_opens m bs h o part c e

pub pick_opens : (m : Meaning) (bs : List Ran) (h : List Entry) (o : ℤ) (i k : ℕ) → pick m bs h o ≡ Some (record { body = i; call = k }) → IsOpen m bs h o i k
pick_opens m bs h o i k e = by_best (best_of m bs h o h) refl e where
  by_best : (b : Option Candidate) → best_of m bs h o h ≡ b → option_map (λ (c : Candidate). c.name) b ≡ Some (record { body = i; call = k }) → IsOpen m bs h o i k
  by_best None b e = absurd cc
  by_best (Some c) b e = subst (λ (name : CallName). IsOpen m bs h o name.body name.call) (some_is e) (best_opens m bs h o h c b)

-- the member of the call that is picked is one of the object's class
pub picked_of : (m : Meaning) (bs : List Ran) (h : List Entry) (o class : ℤ) (i k : ℕ) (call : CallMade) → ((class : ℤ) → Every (λ (choice : Choice). IsOf class (m.sizes choice.member)) (m.choices class))
    → class_of bs o ≡ Some class → pick m bs h o ≡ Some (record { body = i; call = k }) → known_call bs i k ≡ Some call → IsOf class (m.sizes call.member)
picked_of m bs h o class i k call members is picked made =
    let o' = pick_opens m bs h o i k picked in
    subst (λ (c : CallMade). IsOf class (m.sizes c.member)) (some_is (sym o'.made ∙ made))
    (chosen m class (m.choices class) (state_of m bs o) o'.call o'.priority (members class)
    (ap (λ c. greatest (open_at (choices_of m c) (state_of m bs o) o'.call)) (sym is) ∙ o'.opens))
