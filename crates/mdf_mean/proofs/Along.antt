-- Along an explained journal every start and every table of replies fits.
use Rattle.std.proofs.Common.{◌≡◌, ℕ, suc, Bool, true, false, List, [], ◌∷◌, Option, Some, None, if◌then◌else◌, ℤ, refl, sym, subst, arith, nat_eq}
use Rattle.mpl_value.specs.declared.body.BodyStart.{BodyStart}
use Rattle.mpl_value.specs.declared.body.CallMade.{CallMade}
use Rattle.mpl_value.specs.declared.body.MemberId.{MemberId}
use Rattle.mpl_value.specs.declared.known.Known.{Known}
use Rattle.mpl_mean.specs.Laws.Sizes.{Every}
use Rattle.mpl_mean.specs.Meaning.DirectRun.{main_start}
use Rattle.mpl_mean.proofs.Truth.{some_is}
use Rattle.mdf_mean.specs.declared.entry.Entry.{Entry}
use Rattle.mdf_mean.specs.Fits.{AnswerFits, AreAmong, Fits, IsOf, Lawful, StartFits}
use Rattle.mdf_mean.specs.Histories.{accepted_as, replies_to}
use Rattle.mdf_mean.specs.Meanings.{Answers, Meaning, Setting, answer_to}
use Rattle.mdf_mean.specs.Ran.{creator_of, numbered, place_of}
use Rattle.mdf_mean.proofs.Basics.{by_option, not_both}
use Rattle.mdf_mean.proofs.Found.{find_start}
use Rattle.mdf_mean.proofs.Sized.{each_call, no_answer_fits}

-- ---- what holds whatever replies come

-- whatever replies are added: of the k-th call that the body makes, if it makes one
abbrev pub OfCall : Setting → BodyStart → Answers → ℕ → (CallMade → Type 0) → Type 0
OfCall s b answers k P = (more : Answers) → AreAmong answers more → (call : CallMade) → numbered k (s.meaning.yield b more s.turns).calls ≡ Some call → P call

-- the same of a creation
abbrev pub OfCreation : Setting → BodyStart → Answers → ℕ → (ℤ → Type 0) → Type 0
OfCreation s b answers j P = (more : Answers) → AreAmong answers more → (class : ℤ) → numbered j (s.meaning.yield b more s.turns).creations ≡ Some class → P class

-- a member of the class
abbrev pub IsMemberOf : Meaning → Option MemberId → ℤ → Type 0
IsMemberOf m None class = ⊥
IsMemberOf m (Some id) class = IsOf class (m.sizes id)

pub record Along (s : Setting) (h : List Entry) (starts : List BodyStart) : Type 0 where
  -- numbers are apart
  pub apart : Every (λ (b : BodyStart). find_start b.number starts ≡ Some b) starts
  pub fits : (i : ℕ) (b : BodyStart) → find_start i starts ≡ Some b → Fits s.meaning b (replies_to i h) s.turns
  -- each reply fits the call that it answers
  pub answers : (i k : ℕ) (b : BodyStart) (v : Known) → find_start i starts ≡ Some b → answer_to k (replies_to i h) ≡ Some v
      → OfCall s b (replies_to i h) k (λ (call : CallMade). AnswerFits (Some v) (s.meaning.sizes call.member))
  -- an accepted call is of the member that its body has
  pub links : (i k n : ℕ) (b accepted : BodyStart) → accepted_as i k h ≡ Some n → find_start i starts ≡ Some b → find_start n starts ≡ Some accepted
      → OfCall s b (replies_to i h) k (λ (call : CallMade). accepted.member ≡ Some call.member)
  -- a body's member is of the class of its object
  pub classes : (i : ℕ) (b creator : BodyStart) → find_start i starts ≡ Some b → find_start (creator_of b.object) starts ≡ Some creator
      → OfCreation s creator (replies_to (creator_of b.object) h) (place_of b.object) (IsMemberOf s.meaning b.member)
  -- who created a body's object, who made an accepted call, and who has replies is there
  pub created : (i : ℕ) (b : BodyStart) → find_start i starts ≡ Some b → find_start (creator_of b.object) starts ≡ None → ⊥
  pub made : (i k n : ℕ) → accepted_as i k h ≡ Some n → find_start i starts ≡ None → ⊥
  pub silent : (i : ℕ) → find_start i starts ≡ None → replies_to i h ≡ []

pub among_itself : (answers : Answers) → AreAmong answers answers
among_itself answers k v e = e

-- starts fit whose replies fit their calls
pub replies_fit : (s : Setting) (law : Lawful s.meaning) (b : BodyStart) (answers : Answers) → StartFits s.meaning b
    → ((k : ℕ) (v : Known) → answer_to k answers ≡ Some v → (call : CallMade) → numbered k (s.meaning.yield b answers s.turns).calls ≡ Some call → AnswerFits (Some v) (s.meaning.sizes call.member))
    → Fits s.meaning b answers s.turns
replies_fit s law b answers starts h = record {
  starts = starts;
  replies = each_call (λ (call : CallMade). AnswerFits (answer_to call.call answers) (s.meaning.sizes call.member)) 1 (s.meaning.yield b answers s.turns).calls (law.numbers b answers s.turns starts) (λ k call e n.
      let is : call.call ≡ suc k = omega (arith, n) in
      by_option (answer_to call.call answers)
      (λ none. subst (λ a. AnswerFits a (s.meaning.sizes call.member)) (sym none) (no_answer_fits (s.meaning.sizes call.member)))
      (λ v some. subst (λ a. AnswerFits a (s.meaning.sizes call.member)) (sym some)
      (h call.call v some call (subst (λ j. numbered j (s.meaning.yield b answers s.turns).calls ≡ Some call) (sym is) e))));
}

-- ---- the beginning

only_main : (input : List ℤ) (i : ℕ) (b : BodyStart) → find_start i (main_start input ∷ []) ≡ Some b → b ≡ main_start input
only_main input i b e = by_test (nat_eq 0 i) e where
  by_test : (t : Bool) → (if t then Some (main_start input) else None) ≡ Some b → b ≡ main_start input
  by_test true e = sym (some_is e)
  by_test false e = absurd cc

pub main_fits : (m : Meaning) (input : List ℤ) → StartFits m (main_start input)
main_fits m input = record { number = omega arith; words = (refl, refl) }

pub begins : (s : Setting) (law : Lawful s.meaning) → Along s [] (main_start s.input ∷ [])
begins s law = record {
  apart = (refl, tt);
  fits = λ i b e. subst (λ b. Fits s.meaning b [] s.turns) (sym (only_main s.input i b e)) (replies_fit s law (main_start s.input) [] (main_fits s.meaning s.input) (λ k v e call f. absurd cc));
  answers = λ i k b v e f. absurd cc;
  links = λ i k n b accepted e f g. absurd cc;
  classes = λ i b creator e f more among class g.
      absurd (none_first class (subst (λ (b : BodyStart). numbered (place_of b.object) (s.meaning.yield creator more s.turns).creations ≡ Some class) (only_main s.input i b e) g));
  created = λ i b e f. absurd (subst (λ (b : BodyStart). find_start (creator_of b.object) (main_start s.input ∷ []) ≡ None → ⊥) (sym (only_main s.input i b e)) (λ g. not_both g refl) f);
  made = λ i k n e f. absurd cc;
  silent = λ i e. refl;
} where
  none_first : (class : ℤ) → ◌≡◌ {A = Option ℤ} None (Some class) → ⊥
  none_first class e = absurd cc
