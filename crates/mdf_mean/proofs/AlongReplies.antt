-- A justified reply keeps what holds along a journal.
use Rattle.std.proofs.Common.{◌≡◌, ℕ, Bool, true, false, List, ◌∷◌, map, Some, None, if◌then◌else◌, refl, sym, ap, ◌∙◌, subst, nat_eq}
use Rattle.std.proofs.lemmas.Bool.{eqb-true}
use Rattle.std.specs.Option.{option_map}
use Rattle.mpl_value.specs.declared.body.BodyStart.{BodyStart}
use Rattle.mpl_value.specs.declared.body.CallMade.{CallMade}
use Rattle.mpl_value.specs.declared.known.Known.{Known}
use Rattle.mpl_mean.specs.Laws.Sizes.{ResultFits}
use Rattle.mpl_mean.proofs.Truth.{some_is}
use Rattle.mdf_mean.specs.declared.entry.Entry.{Entry}
use Rattle.mdf_mean.specs.declared.entry.Entry.TheVariants.{Reply}
use Rattle.mdf_mean.specs.Explained.{MayReply}
use Rattle.mdf_mean.specs.Fits.{AnswerFits, AreAmong, Lawful, words_given}
use Rattle.mdf_mean.specs.Histories.{accepted_as, has_reply, replies_to}
use Rattle.mdf_mean.specs.Meanings.{Answers, Setting, answer_to}
use Rattle.mdf_mean.specs.Ran.{known_result, numbered, ran, result_in, result_of}
use Rattle.mdf_mean.proofs.Along.{Along, OfCall, replies_fit}
use Rattle.mdf_mean.proofs.Basics.{by_bool, by_option, not_both}
use Rattle.mdf_mean.proofs.Found.{body_found, find_start, found_number, no_answer}
use Rattle.mdf_mean.proofs.Sized.{result_answers}

-- the replies to each body stay among them
pub more_replies_with : (i k : ℕ) (v : Known) (h : List Entry) (j : ℕ) → has_reply i k h ≡ false → AreAmong (replies_to j h) (replies_to j (Reply i k v ∷ h))
more_replies_with i k v h j fresh call known e = by_body (nat_eq i j) refl where
  by_call : i ≡ j → (t : Bool) → nat_eq k call ≡ t → (if t then Some v else answer_to call (replies_to j h)) ≡ Some known
  by_call same true t =
      not_both (subst (λ n. answer_to n (replies_to j h) ≡ None) (eqb-true k call t) (subst (λ b. answer_to k (replies_to b h) ≡ None) same (no_answer i k h fresh))) e
  by_call same false t = e

  by_body : (t : Bool) → nat_eq i j ≡ t → answer_to call (if t then (k, v) ∷ replies_to j h else replies_to j h) ≡ Some known
  by_body true t = by_call (eqb-true i j t) (nat_eq k call) refl
  by_body false t = e

-- a reply is to one of those before, or the new one
answer_with : (i k : ℕ) (v : Known) (h : List Entry) (j call : ℕ) (known : Known) (P : Type 0) → answer_to call (replies_to j (Reply i k v ∷ h)) ≡ Some known
    → (answer_to call (replies_to j h) ≡ Some known → P) → (i ≡ j → k ≡ call → v ≡ known → P) → P
answer_with i k v h j call known P e old new = by_body (nat_eq i j) refl e where
  by_call : i ≡ j → (t : Bool) → nat_eq k call ≡ t → (if t then Some v else answer_to call (replies_to j h)) ≡ Some known → P
  by_call same true t e = new same (eqb-true k call t) (some_is e)
  by_call same false t e = old e

  by_body : (t : Bool) → nat_eq i j ≡ t → answer_to call (if t then (k, v) ∷ replies_to j h else replies_to j h) ≡ Some known → P
  by_body true t e = by_call (eqb-true i j t) (nat_eq k call) refl e
  by_body false t e = old e

-- the body whose result is given
pub record GivenBy (s : Setting) (h : List Entry) (starts : List BodyStart) (i k : ℕ) (v : Known) : Type 0 where
  pub number : ℕ
  pub accepted : accepted_as i k h ≡ Some number
  pub giver : BodyStart
  pub found : find_start number starts ≡ Some giver
  pub gives : known_result (s.meaning.yield giver (replies_to number h) s.turns).result ≡ Some v

pub given_by : (s : Setting) (h : List Entry) (starts : List BodyStart) (i k : ℕ) (v : Known) → result_of (map (ran s h) starts) (accepted_as i k h) ≡ Some v → GivenBy s h starts i k v
given_by s h starts i k v e =
    by_option (accepted_as i k h)
    (λ n. not_both (ap (result_of (map (ran s h) starts)) n) e)
    (λ number a.
    let in_body = sym (ap (result_of (map (ran s h) starts)) a) ∙ e in
    let found = body_found s h number starts in
    by_option (find_start number starts)
    (λ n. not_both (ap result_in (found ∙ ap (option_map (ran s h)) n)) in_body)
    (λ b f. record {
      number = number;
      accepted = a;
      giver = b;
      found = f;
      gives = subst (λ j. known_result (s.meaning.yield b (replies_to j h) s.turns).result ≡ Some v) (found_number number starts b f)
          (sym (ap result_in (found ∙ ap (option_map (ran s h)) f)) ∙ in_body);
    }))

pub replied : (s : Setting) (law : Lawful s.meaning) (h : List Entry) (starts : List BodyStart) (i k : ℕ) (v : Known) → MayReply (map (ran s h) starts) h i k v
    → Along s h starts → Along s (Reply i k v ∷ h) starts
replied s law h starts i k v may a = record {
  apart = a.apart;
  fits = λ j b e. replies_fit s law b (replies_to j after) (a.fits j b e).starts (λ call known f c n. fitting j call b known e f (replies_to j after) (λ x y z. z) c n);
  answers = fitting;
  links = λ j call n b accepted e f g more among c made. a.links j call n b accepted e f g more (λ x y z. among x y (grows j x y z)) c made;
  classes = λ j b creator e f more among class made. a.classes j b creator e f more (λ x y z. among x y (grows _ x y z)) class made;
  created = a.created;
  made = a.made;
  silent = λ j e. by_bool (nat_eq i j)
      (λ t. absurd (a.made i k given.number given.accepted (subst (λ n. find_start n starts ≡ None) (sym (eqb-true i j t)) e)))
      (λ t. ap (λ t. if t then (k, v) ∷ replies_to j h else replies_to j h) t ∙ a.silent j e);
} where
  after : List Entry
  after = Reply i k v ∷ h

  grows : (j : ℕ) → AreAmong (replies_to j h) (replies_to j (Reply i k v ∷ h))
  grows j = more_replies_with i k v h j may.first

  given : GivenBy s h starts i k v
  given = given_by s h starts i k v may.given

  new_fits : (b : BodyStart) → find_start i starts ≡ Some b → (more : Answers) → AreAmong (replies_to i h) more → (c : CallMade) → numbered k (s.meaning.yield b more s.turns).calls ≡ Some c
      → AnswerFits (Some v) (s.meaning.sizes c.member)
  new_fits b e more among c made =
      let sized = law.sizes given.giver (replies_to given.number h) s.turns (a.fits given.number given.giver given.found) in
      let member = a.links i k given.number b given.giver given.accepted e given.found more among c made in
      result_answers s.meaning c.member _ v (subst (λ id. ResultFits (words_given s.meaning id) (s.meaning.yield given.giver (replies_to given.number h) s.turns).result) member sized.result) given.gives

  fitting : (j call : ℕ) (b : BodyStart) (known : Known) → find_start j starts ≡ Some b → answer_to call (replies_to j (Reply i k v ∷ h)) ≡ Some known
      → OfCall s b (replies_to j (Reply i k v ∷ h)) call (λ (c : CallMade). AnswerFits (Some known) (s.meaning.sizes c.member))
  fitting j call b known e f more among c made =
      answer_with i k v h j call known (AnswerFits (Some known) (s.meaning.sizes c.member)) f
      (λ old. a.answers j call b known e old more (λ x y z. among x y (grows j x y z)) c made)
      (λ same_body same_call same_value. subst (λ known. AnswerFits (Some known) (s.meaning.sizes c.member)) same_value
      (new_fits b (subst (λ n. find_start n starts ≡ Some b) (sym same_body) e) more
      (subst (λ n. AreAmong (replies_to n h) more) (sym same_body) (λ x y z. among x y (grows j x y z))) c
      (subst (λ n. numbered n (s.meaning.yield b more s.turns).calls ≡ Some c) (sym same_call) made)))
