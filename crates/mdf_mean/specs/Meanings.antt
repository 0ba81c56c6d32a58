-- What a journal's definitions ask of a program: what its bodies do, and which calls its classes accept.
use Rattle.std.specs.Prelude.{ℕ, Bool, List, [], ◌∷◌, Option, Some, None, if◌then◌else◌, nat_eq, ℤ}
use Rattle.mpl_value.specs.declared.body.BodyStart.{BodyStart}
use Rattle.mpl_value.specs.declared.body.MemberId.{MemberId}
use Rattle.mpl_value.specs.declared.body.Yield.{Yield}
use Rattle.mpl_value.specs.declared.known.Known.{Known}

-- the replies to the calls of a body, each with the number of its call
abbrev pub Answers : Type 0
Answers = List (ℕ × Known)

abbrev pub answer_to : ℕ → Answers → Option Known
answer_to call [] = None
answer_to call (answer ∷ others) = if nat_eq answer.0 call then Some answer.1 else answer_to call others

-- An entry of a class: calls of its member are accepted with its priority where it holds, which the words of the
-- object's state and of the call's arguments decide.
pub record Choice : Type 0 where
  pub priority : ℕ
  pub member : MemberId
  pub holds : List ℤ → List ℤ → Bool

-- a member's class, the words of each of its formals, and the words of its result
pub record MemberSizes : Type 0 where
  pub class : ℤ
  pub formals : List ℕ
  pub result : ℕ

pub record Meaning : Type 0 where
  -- what a body does from its start with these replies and so many turns, with regular calls made in place
  pub yield : BodyStart → Answers → ℕ → Yield
  -- the entries of a class, by its number
  pub choices : ℤ → List Choice
  -- the words of the state of an object of a class
  pub words : ℤ → ℕ
  -- the sizes of a member, if there is one of that number
  pub sizes : MemberId → Option MemberSizes

-- a program with its input, and the turns that each body has
pub record Setting : Type 0 where
  pub meaning : Meaning
  pub input : List ℤ
  pub turns : ℕ
