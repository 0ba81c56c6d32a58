-- How many words what a body makes has, and the laws that what bodies do keeps.
use Rattle.std.specs.Prelude.{◌≡◌, ◌≢◌, ℕ, ◌+◌, ◌<◌, ◌≤◌, ◌^◌, List, [], ◌∷◌, length, Option, Some, None, ℤ}
use Rattle.std.specs.List.{AllZip}
use Rattle.std.specs.Option.{option_map}
use Rattle.mpl_value.specs.declared.body.Arg.{Arg}
use Rattle.mpl_value.specs.declared.body.BodyEnd.TheVariants as end
use Rattle.mpl_value.specs.declared.body.BodyStart.{BodyStart}
use Rattle.mpl_value.specs.declared.body.CallMade.{CallMade}
use Rattle.mpl_value.specs.declared.body.MemberId.{MemberId}
use Rattle.mpl_value.specs.declared.body.Yield.{Yield}
use Rattle.mpl_value.specs.declared.known.Known.{Known}
use Rattle.mpl_value.specs.Growing.{CallStays, Grows}
use Rattle.mpl_mean.specs.Laws.Allowance.{AtSharedPlaces}
use Rattle.mpl_mean.specs.Laws.Numbers.{NumberedFrom}
use Rattle.mpl_mean.specs.Laws.Sizes.{ArgFits, Every, ReplyFits, ResultFits}
use Rattle.mdf_mean.specs.Meanings.{Answers, Choice, Meaning, MemberSizes, answer_to}

abbrev pub all_words : List ℕ → ℕ
all_words [] = 0
all_words (words ∷ others) = words + all_words others

-- ---- starts and replies

-- as many words as the formals of the member and the state of its class have; `main` has neither
abbrev pub MemberFits : Meaning → BodyStart → Option MemberSizes → Type 0
MemberFits m start None = ⊥
MemberFits m start (Some sizes) = (length start.args ≡ all_words sizes.formals) × (length start.state ≡ m.words sizes.class)

abbrev pub WordsFit : Meaning → BodyStart → Option MemberId → Type 0
WordsFit m start None = (length start.args ≡ 0) × (length start.state ≡ 0)
WordsFit m start (Some id) = MemberFits m start (m.sizes id)

pub record StartFits (m : Meaning) (start : BodyStart) : Type 0 where
  pub number : start.number < 2 ^ 31
  pub words : WordsFit m start start.member

abbrev pub AnswerFits : Option Known → Option MemberSizes → Type 0
AnswerFits answer None = Unit {0}
AnswerFits answer (Some sizes) = ReplyFits sizes.result answer

-- The value that answers a call of the body has as many words as its member's result.
abbrev pub AnswersFit : Meaning → BodyStart → Answers → ℕ → Type 0
AnswersFit m start answers n = Every (λ (call : CallMade). AnswerFits (answer_to call.call answers) (m.sizes call.member)) (m.yield start answers n).calls

pub record Fits (m : Meaning) (start : BodyStart) (answers : Answers) (n : ℕ) : Type 0 where
  pub starts : StartFits m start
  pub replies : AnswersFit m start answers n

-- ---- yields

abbrev pub ArgumentsFit : List Arg → Option MemberSizes → Type 0
ArgumentsFit arguments None = ⊥
ArgumentsFit arguments (Some sizes) = AllZip ArgFits sizes.formals arguments

abbrev pub words_given : Meaning → Option MemberId → Option ℕ
words_given m None = None
words_given m (Some id) = option_map (λ (sizes : MemberSizes). sizes.result) (m.sizes id)

-- Each call has the arguments that its member's formals ask for; result and state have their words.
pub record Sized (m : Meaning) (start : BodyStart) (yield : Yield) : Type 0 where
  pub calls : Every (λ (call : CallMade). ArgumentsFit call.args (m.sizes call.member)) yield.calls
  pub result : ResultFits (words_given m start.member) yield.result
  pub state : length yield.state ≡ length start.state

-- ---- laws

-- each reply of the first is one of the second
abbrev pub AreAmong : Answers → Answers → Type 0
AreAmong answers more = (call : ℕ) (known : Known) → answer_to call answers ≡ Some known → answer_to call more ≡ Some known

-- an entry of a class names a member of that class
abbrev pub IsOf : ℤ → Option MemberSizes → Type 0
IsOf class None = ⊥
IsOf class (Some sizes) = sizes.class ≡ class

-- What is known of a meaning, at starts and replies that fit.
pub record Lawful (m : Meaning) : Type 0 where
  -- more turns change nothing of a body that has enough
  pub more_turns : (start : BodyStart) (answers : Answers) (n w : ℕ) → Fits m start answers n → (m.yield start answers n).end ≢ end.Spent → n ≤ w
      → m.yield start answers w ≡ m.yield start answers n
  -- more replies only add
  pub more_replies : (start : BodyStart) (answers more : Answers) (n : ℕ) → Fits m start answers n → AreAmong answers more
      → (m.yield start answers n).end ≢ end.Spent → (m.yield start more n).end ≢ end.Spent → Grows (m.yield start answers n) (m.yield start more n)
  -- an allowance is exact: within it, or one turn above it
  pub within : (start : BodyStart) (answers : Answers) (n : ℕ) → Fits m start answers n → (m.yield start answers n).end ≢ end.Spent → (m.yield start answers n).turns ≤ n
  pub spent : (start : BodyStart) (answers : Answers) (n : ℕ) → Fits m start answers n → (m.yield start answers n).end ≡ end.Spent → (m.yield start answers n).turns ≡ n + 1
  -- what is spent needs more turns with more replies, too
  pub beyond : (start : BodyStart) (answers more : Answers) (n w : ℕ) → Fits m start answers n → AreAmong answers more → n ≤ w
      → (m.yield start answers n).end ≡ end.Spent → n < (m.yield start more w).turns
  -- a call and a creation stay where they were, also where a body is spent
  pub calls_stay : (start : BodyStart) (answers more : Answers) (n : ℕ) → Fits m start answers n → AreAmong answers more
      → AtSharedPlaces CallStays (m.yield start answers n).calls (m.yield start more n).calls
  pub creations_stay : (start : BodyStart) (answers more : Answers) (n : ℕ) → Fits m start answers n → AreAmong answers more
      → AtSharedPlaces (λ class other. class ≡ other) (m.yield start answers n).creations (m.yield start more n).creations
  pub numbers : (start : BodyStart) (answers : Answers) (n : ℕ) → StartFits m start → NumberedFrom 1 (m.yield start answers n).calls
  pub sizes : (start : BodyStart) (answers : Answers) (n : ℕ) → Fits m start answers n → Sized m start (m.yield start answers n)
  pub members : (class : ℤ) → Every (λ (choice : Choice). IsOf class (m.sizes choice.member)) (m.choices class)
