-- A justified accept keeps what holds along a journal.
use Rattle.std.proofs.Common.{◌≡◌, ℕ, Bool, true, false, List, [], ◌∷◌, length, map, Option, Some, None, if◌then◌else◌, ℤ, refl, sym, ap, ◌∙◌, subst, nat_eq}
use Rattle.std.proofs.lemmas.Bool.{eqb-true, eqb-false}
use Rattle.std.proofs.lemmas.List.{length-replicate}
use Rattle.std.specs.List.{list_all}
use Rattle.std.specs.Option.{option_map, is_some}
use Rattle.std.specs.Ordering.{int_eq}
use Rattle.std.specs.Prelude.{pos}
use Rattle.mpl_value.specs.declared.body.BodyStart.{BodyStart}
use Rattle.mpl_value.specs.declared.body.CallMade.{CallMade}
use Rattle.mpl_value.specs.declared.body.MemberId.{MemberId}
use Rattle.mpl_value.specs.Growing.{CallStays}
use Rattle.mpl_mean.specs.Laws.Sizes.{Every}
use Rattle.mpl_mean.proofs.Truth.{both_true, some_is}
use Rattle.mdf_mean.specs.declared.entry.Entry.{Entry}
use Rattle.mdf_mean.specs.declared.entry.Entry.TheVariants.{Accept}
use Rattle.mdf_mean.specs.Explained.{MayAccept}
use Rattle.mdf_mean.specs.Fits.{AnswerFits, AreAmong, ArgumentsFit, Fits, IsOf, Lawful, MemberFits, StartFits, WordsFit}
use Rattle.mdf_mean.specs.Histories.{accepted_as, is_named, is_taken, replies_to}
use Rattle.mdf_mean.specs.Meanings.{Meaning, MemberSizes, Setting, answer_to}
use Rattle.mdf_mean.specs.Ran.{accepted_start, argument_words, class_of, creation_in, creator_of, is_idle, is_known, last_on, numbered, place_of, ran, state_left, state_of, words_of_object}
use Rattle.mdf_mean.proofs.Along.{Along, IsMemberOf, OfCall, OfCreation, among_itself, replies_fit}
use Rattle.mdf_mean.proofs.Basics.{by_option, every_map, every_numbered, int_same, nat_differ, nat_same, not_both, shared_numbered}
use Rattle.mdf_mean.proofs.Found.{MadeBy, body_found, find_start, found_number, given_taken, made_by}
use Rattle.mdf_mean.proofs.Picked.{picked_of}
use Rattle.mdf_mean.proofs.Sized.{arguments_length}

-- ---- the newest body on an object

abbrev last_start : ℤ → List BodyStart → Option BodyStart
last_start o [] = None
last_start o (b ∷ starts) = if int_eq b.object o then Some b else last_start o starts

last_found : (s : Setting) (h : List Entry) (o : ℤ) (starts : List BodyStart) → last_on o (map (ran s h) starts) ≡ option_map (ran s h) (last_start o starts)
last_found s h o [] = refl
last_found s h o (b ∷ starts) = by_test (last_found s h o starts) (int_eq b.object o) where
  by_test : last_on o (map (ran s h) starts) ≡ option_map (ran s h) (last_start o starts) → (t : Bool)
      → (if t then Some (ran s h b) else last_on o (map (ran s h) starts)) ≡ option_map (ran s h) (if t then Some b else last_start o starts)
  by_test r true = refl
  by_test r false = r

last_is : (P : BodyStart → Type 0) (o : ℤ) (starts : List BodyStart) (b : BodyStart) → Every P starts → last_start o starts ≡ Some b → (b.object ≡ o) × P b
last_is P o [] b h e = absurd cc
last_is P o (c ∷ starts) b h e = by_test (last_is P o starts b h.1) (int_eq c.object o) refl e where
  by_test : (last_start o starts ≡ Some b → (b.object ≡ o) × P b) → (t : Bool) → int_eq c.object o ≡ t → (if t then Some c else last_start o starts) ≡ Some b → (b.object ≡ o) × P b
  by_test r true t e = (subst (λ (x : BodyStart). x.object ≡ o) (some_is e) (int_same c.object o t), subst P (some_is e) h.0)
  by_test r false t e = r e

-- ---- objects

-- who created an object, and which of its creations it is
pub record CreatedBy (s : Setting) (h : List Entry) (starts : List BodyStart) (o : ℤ) : Type 0 where
  pub class : ℤ
  pub is : class_of (map (ran s h) starts) o ≡ Some class
  pub creator : BodyStart
  pub found : find_start (creator_of o) starts ≡ Some creator
  pub creates : numbered (place_of o) (s.meaning.yield creator (replies_to (creator_of o) h) s.turns).creations ≡ Some class

pub created_by : (s : Setting) (h : List Entry) (starts : List BodyStart) (o class : ℤ) → class_of (map (ran s h) starts) o ≡ Some class → CreatedBy s h starts o
created_by s h starts o class is =
    let found = body_found s h (creator_of o) starts in
    by_option (find_start (creator_of o) starts)
    (λ n. not_both (ap (creation_in (place_of o)) (found ∙ ap (option_map (ran s h)) n)) is)
    (λ b f. record {
      class = class;
      is = is;
      creator = b;
      found = f;
      creates = subst (λ j. numbered (place_of o) (s.meaning.yield b (replies_to j h) s.turns).creations ≡ Some class) (found_number (creator_of o) starts b f)
          (sym (ap (creation_in (place_of o)) (found ∙ ap (option_map (ran s h)) f)) ∙ is);
    })

idle_created : (s : Setting) (h : List Entry) (starts : List BodyStart) (o : ℤ) → is_idle (map (ran s h) starts) o ≡ true → CreatedBy s h starts o
idle_created s h starts o idle =
    let bs = map (ran s h) starts in
    let there = (both_true (is_some (class_of bs o)) _ idle).0 in
    by_option (class_of bs o) (λ n. absurd (none_is (class_of bs o) n there)) (λ class is. created_by s h starts o class is) where
      none_is : (c : Option ℤ) → c ≡ None → is_some c ≡ true → ⊥
      none_is None n t = absurd cc
      none_is (Some c) n t = absurd cc

-- ---- the state of an object

member_state : (m : Meaning) (b : BodyStart) (class : ℤ) (member : Option MemberId) → WordsFit m b member → IsMemberOf m member class → length b.state ≡ m.words class
member_state m b class None f is = absurd is
member_state m b class (Some id) f is = by_sizes (m.sizes id) f is where
  by_sizes : (sizes : Option MemberSizes) → MemberFits m b sizes → IsOf class sizes → length b.state ≡ m.words class
  by_sizes None f is = absurd f
  by_sizes (Some z) f is = f.1 ∙ ap m.words is

pub state_fits : (s : Setting) (law : Lawful s.meaning) (h : List Entry) (starts : List BodyStart) → Along s h starts → (o : ℤ) (by : CreatedBy s h starts o)
    → length (state_of s.meaning (map (ran s h) starts) o) ≡ s.meaning.words by.class
state_fits s law h starts a o by =
    let m = s.meaning in
    let bs = map (ran s h) starts in
    let e = ap (words_of_object m) by.is in
    let f = last_found s h o starts in
    ap (λ words. length (state_left words (last_on o bs))) e ∙ ap (λ b. length (state_left (m.words by.class) b)) f
    ∙ by_option (last_start o starts)
    (λ n. ap (λ b. length (state_left (m.words by.class) (option_map (ran s h) b))) n ∙ length-replicate (m.words by.class) (pos 0))
    (λ b l.
    let is = last_is (λ (b : BodyStart). find_start b.number starts ≡ Some b) o starts b a.apart l in
    let fit = a.fits b.number b is.1 in
    let kept = (law.sizes b (replies_to b.number h) s.turns fit).state in
    let class = a.classes b.number b by.creator is.1 (subst (λ w. find_start (creator_of w) starts ≡ Some by.creator) (sym is.0) by.found)
    (replies_to (creator_of b.object) h) (among_itself _) by.class
    (subst (λ w. numbered (place_of w) (m.yield by.creator (replies_to (creator_of w) h) s.turns).creations ≡ Some by.class) (sym is.0) by.creates) in
    ap (λ b. length (state_left (m.words by.class) (option_map (ran s h) b))) l ∙ kept ∙ member_state m b by.class b.member fit.starts.words class)

-- ---- the new start

new_words : (m : Meaning) (new : BodyStart) (call : CallMade) (class : ℤ) → new.args ≡ argument_words call.args → length new.state ≡ m.words class → list_all is_known call.args ≡ true
    → (sizes : Option MemberSizes) → ArgumentsFit call.args sizes → IsOf class sizes → MemberFits m new sizes
new_words m new call class args state known None f is = absurd f
new_words m new call class args state known (Some z) f is = (ap length args ∙ arguments_length z.formals call.args f known, state ∙ ap m.words (sym is))

-- ---- the step

-- by whether a start is the new one
with_new : (P : Type 0) (new b : BodyStart) (i : ℕ) (starts : List BodyStart) → find_start i (new ∷ starts) ≡ Some b → (new.number ≡ i → new ≡ b → P) → ((new.number ≡ i → ⊥) → find_start i starts ≡ Some b → P) → P
with_new P new b i starts e is other = by_test (nat_eq new.number i) refl e where
  by_test : (t : Bool) → nat_eq new.number i ≡ t → (if t then Some new else find_start i starts) ≡ Some b → P
  by_test true t e = is (eqb-true new.number i t) (some_is e)
  by_test false t e = other (eqb-false new.number i t) e

none_with : (new : BodyStart) (i : ℕ) (starts : List BodyStart) → find_start i (new ∷ starts) ≡ None → (new.number ≡ i → ⊥) × (find_start i starts ≡ None)
none_with new i starts e = by_test (nat_eq new.number i) refl e where
  by_test : (t : Bool) → nat_eq new.number i ≡ t → (if t then Some new else find_start i starts) ≡ None → (new.number ≡ i → ⊥) × (find_start i starts ≡ None)
  by_test true t e = absurd cc
  by_test false t e = (eqb-false new.number i t, e)

-- a call that was accepted before, or the new one
accepted_with : (n i k j call a : ℕ) (h : List Entry) (P : Type 0) → accepted_as j call (Accept n i k ∷ h) ≡ Some a → (i ≡ j → k ≡ call → n ≡ a → P) → (accepted_as j call h ≡ Some a → P) → P
accepted_with n i k j call a h P e new old = by_test (is_named j call i k) refl e where
  by_test : (t : Bool) → is_named j call i k ≡ t → (if t then Some n else accepted_as j call h) ≡ Some a → P
  by_test true t e = let both = both_true (nat_eq i j) (nat_eq k call) t in new (eqb-true i j both.0) (eqb-true k call both.1) (some_is e)
  by_test false t e = old e

pub accepted : (s : Setting) (law : Lawful s.meaning) (h : List Entry) (starts : List BodyStart) (n i k : ℕ) (may : MayAccept s.meaning (map (ran s h) starts) h n i k)
    → find_start n starts ≡ None → Along s h starts → Along s (Accept n i k ∷ h) (accepted_start n (state_of s.meaning (map (ran s h) starts) may.call.object) may.call ∷ starts)
accepted s law h starts n i k may absent a = record {
  apart = (ap (λ t. if t then Some new else find_start n starts) (nat_same n), every_map (λ (b : BodyStart). find_start b.number starts ≡ Some b) (λ (b : BodyStart). find_start b.number (new ∷ starts) ≡ Some b) old_found starts a.apart);
  fits = λ j b e. with_new (Fits m b (replies_to j h) s.turns) new b j starts e
      (λ same is. subst (λ b. Fits m b (replies_to j h) s.turns) is (subst (λ j. Fits m new (replies_to j h) s.turns) same new_fits))
      (λ differs e. a.fits j b e);
  answers = λ j call b v e f more among c made. with_new (AnswerFits (Some v) (m.sizes c.member)) new b j starts e
      (λ same is. not_both (subst (λ j. answer_to call (replies_to j h) ≡ None) same (ap (answer_to call) no_replies)) f)
      (λ differs e. a.answers j call b v e f more among c made);
  links = λ j call number b accepted e f g more among c made. accepted_with n i k j call number h (accepted.member ≡ Some c.member) e
      (λ body place same. with_new (accepted.member ≡ Some c.member) new b j starts f
      (λ taken is. not_both absent (subst (λ x. find_start x starts ≡ Some maker.maker) (body ∙ sym taken) maker.found))
      (λ differs f. new_link j call number b accepted body place same f g more among c made))
      (λ e. old_link j call number b accepted e f g more among c made);
  classes = λ j b creator e f more among class made. with_new (IsMemberOf m b.member class) new b j starts e
      (λ same is. subst (λ (b : BodyStart). IsMemberOf m b.member class) is
      (new_class creator (subst (λ (b : BodyStart). find_start (creator_of b.object) (new ∷ starts) ≡ Some creator) (sym is) f) more
      (subst (λ (b : BodyStart). AreAmong (replies_to (creator_of b.object) h) more) (sym is) among) class
      (subst (λ (b : BodyStart). numbered (place_of b.object) (m.yield creator more s.turns).creations ≡ Some class) (sym is) made)))
      (λ differs e. with_new (IsMemberOf m b.member class) new creator (creator_of b.object) starts f
      (λ same is. absurd (a.created j b e (subst (λ x. find_start x starts ≡ None) same absent)))
      (λ apart f. a.classes j b creator e f more among class made));
  created = λ j b e f. let none = none_with new (creator_of b.object) starts f in with_new ⊥ new b j starts e
      (λ same is. not_both (subst (λ (b : BodyStart). find_start (creator_of b.object) starts ≡ None) (sym is) none.1) by.found)
      (λ differs e. a.created j b e none.1);
  made = λ j call number e f. let none = none_with new j starts f in accepted_with n i k j call number h ⊥ e
      (λ body place same. not_both (subst (λ x. find_start x starts ≡ None) (sym body) none.1) maker.found)
      (λ e. a.made j call number e none.1);
  silent = λ j e. a.silent j (none_with new j starts e).1;
} where
  m : Meaning
  m = s.meaning

  new : BodyStart
  new = accepted_start n (state_of s.meaning (map (ran s h) starts) may.call.object) may.call

  maker : MadeBy s h starts i k may.call
  maker = made_by s h starts i k may.call may.made

  by : CreatedBy s h starts may.call.object
  by = idle_created s h starts may.call.object may.idle

  is_of : IsOf by.class (m.sizes may.call.member)
  is_of = picked_of m (map (ran s h) starts) h may.call.object by.class i k may.call law.members by.is may.picked may.made

  no_replies : replies_to n h ≡ []
  no_replies = a.silent n absent

  old_found : (b : BodyStart) → find_start b.number starts ≡ Some b → find_start b.number (new ∷ starts) ≡ Some b
  old_found b e = ap (λ t. if t then Some new else find_start b.number starts) (nat_differ n b.number (λ same. not_both (subst (λ x. find_start x starts ≡ None) same absent) e)) ∙ e

  new_starts : StartFits m new
  new_starts = record {
    number = may.most;
    words = new_words m new may.call by.class refl (state_fits s law h starts a may.call.object by) maker.are_known (m.sizes may.call.member)
        (every_numbered (λ (c : CallMade). ArgumentsFit c.args (m.sizes c.member)) _ k may.call (law.sizes maker.maker (replies_to i h) s.turns (a.fits i maker.maker maker.found)).calls maker.made) is_of;
  }

  new_fits : Fits m new (replies_to n h) s.turns
  new_fits = replies_fit s law new (replies_to n h) new_starts (λ call v e c f. not_both (ap (answer_to call) no_replies) e)

  new_class : (creator : BodyStart) → find_start (creator_of may.call.object) (new ∷ starts) ≡ Some creator
      → OfCreation s creator (replies_to (creator_of may.call.object) h) (place_of may.call.object) (λ class. IsOf class (m.sizes may.call.member))
  new_class creator f more among class made = with_new (IsOf class (m.sizes may.call.member)) new creator (creator_of may.call.object) starts f
      (λ same is. not_both (subst (λ x. find_start x starts ≡ None) same absent) by.found)
      (λ differs f.
      let is = some_is (sym by.found ∙ f) in
      subst (λ c. IsOf c (m.sizes may.call.member))
      (shared_numbered (λ x y. x ≡ y) _ _ (place_of may.call.object) by.class class
      (law.creations_stay by.creator (replies_to (creator_of may.call.object) h) more s.turns (a.fits (creator_of may.call.object) by.creator by.found) among)
      by.creates (subst (λ c. numbered (place_of may.call.object) (m.yield c more s.turns).creations ≡ Some class) (sym is) made))
      is_of)

  new_link : (j call number : ℕ) (b accepted : BodyStart) → i ≡ j → k ≡ call → n ≡ number → find_start j starts ≡ Some b → find_start number (new ∷ starts) ≡ Some accepted
      → OfCall s b (replies_to j h) call (λ (c : CallMade). accepted.member ≡ Some c.member)
  new_link j call number b accepted body place same f g more among c made =
      let is = some_is (sym (ap (λ t. if t then Some new else find_start number starts) (ap (λ x. nat_eq n x) (sym same) ∙ nat_same n)) ∙ g) in
      let b_is = some_is (sym maker.found ∙ subst (λ x. find_start x starts ≡ Some b) (sym body) f) in
      let stays = shared_numbered CallStays _ _ k may.call c
      (law.calls_stay maker.maker (replies_to i h) more s.turns (a.fits i maker.maker maker.found) (subst (λ x. AreAmong (replies_to x h) more) (sym body) among))
      maker.made (subst (λ x. numbered x (m.yield maker.maker more s.turns).calls ≡ Some c) (sym place) (subst (λ x. numbered call (m.yield x more s.turns).calls ≡ Some c) (sym b_is) made)) in
      sym (ap (λ (x : BodyStart). x.member) is) ∙ ap Some stays.member

  old_link : (j call number : ℕ) (b accepted : BodyStart) → accepted_as j call h ≡ Some number → find_start j (new ∷ starts) ≡ Some b → find_start number (new ∷ starts) ≡ Some accepted
      → OfCall s b (replies_to j h) call (λ (c : CallMade). accepted.member ≡ Some c.member)
  old_link j call number b accepted e f g more among c made = with_new (accepted.member ≡ Some c.member) new b j starts f
      (λ same is. absurd (a.made j call number e (subst (λ x. find_start x starts ≡ None) same absent)))
      (λ differs f. with_new (accepted.member ≡ Some c.member) new accepted number starts g
      (λ same is. absurd (taken_free (given_taken j call number h e) (subst (λ x. is_taken x h ≡ false) same may.free)))
      (λ apart g. a.links j call number b accepted e f g more among c made)) where
        taken_free : is_taken number h ≡ true → is_taken number h ≡ false → ⊥
        taken_free t f = absurd cc
