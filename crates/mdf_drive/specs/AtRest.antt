-- What holds of a machine at rest.
use Rattle.std.specs.Prelude.{ℕ, ◌≡◌, ◌≢◌, Bool, true, false, List, Option, Some, None}
use Rattle.std.specs.FinMap.{empty}
use Rattle.mpl_value.specs.declared.body.Arg.{Arg}
use Rattle.mpl_value.specs.declared.body.Arg.TheVariants.{Trapped, Unknown}
use Rattle.mpl_value.specs.declared.body.BodyEnd.{BodyEnd}
use Rattle.mpl_value.specs.declared.body.BodyEnd.TheVariants as end
use Rattle.mpl_value.specs.declared.body.Yield.{Yield}
use Rattle.mpl_value.specs.declared.known.Trap.{Trap}
use Rattle.mpl_value.specs.CallAnswers.{any_unknown, arg_of_reply, arg_of_result, known_words, leftmost_trap}
use Rattle.mpl_mean.specs.Meaning.DirectRun.{main_start}
use Rattle.mdf_code.specs.Alone.{seen_by, values_seen}
use Rattle.mdf_code.specs.Right.{OwnYield}
use Rattle.mdf_code.specs.Yields.{Yields}
use Rattle.mdf_core.specs.Actors.{arguments_of, member_of}
use Rattle.mdf_core.specs.Rest.{MainDid}
use Rattle.mdf_core.specs.Worlds.{Job, World, known_at}

-- `main` yields that directly within the budget, with the machine's turns, and the machine has its end and its lines
pub record IsDirectRun (job : Job) (w : World) : Type 0 where
  pub yield : Yield
  pub yields : Yields job.image (main_start job.input) empty job.budget yield
  pub turns : w.turns ≡ yield.turns
  pub unspent : yield.end ≢ end.Spent
  pub did : MainDid job w yield.end yield.lines

-- ---- answers

-- what is known of an actor's result
abbrev pub result_seen : World → Option ℕ → Arg
result_seen w c = arg_of_reply (known_at w c)

-- what is known of the result of an actor's call
abbrev pub call_seen : World → ℕ → ℕ → Arg
call_seen w a call = result_seen w ((w.actors a).child call)

abbrev pub AnswerUnlessTrapped : Job → ℕ → List Arg → Arg → Option Trap → Type 0
AnswerUnlessTrapped job member arguments answer (Some trap) = answer ≡ Trapped trap
AnswerUnlessTrapped job member arguments answer None = (yield : Yield) × OwnYield job.image member (known_words arguments) yield × (answer ≡ arg_of_result yield.result)

-- A call is answered so: not at all where an argument isn't known, else by the leftmost trap among them, and else by what
-- the member's body yields with their words.
abbrev pub AnswerUnlessUnknown : Job → ℕ → List Arg → Arg → Bool → Type 0
AnswerUnlessUnknown job member arguments answer true = answer ≡ Unknown
AnswerUnlessUnknown job member arguments answer false = AnswerUnlessTrapped job member arguments answer (leftmost_trap arguments)

-- the result of an actor is the answer of its call
pub record IsAnswer (job : Job) (w : World) (c : ℕ) : Type 0 where
  pub arguments : arguments_of (w.actors c).ports ≡ values_seen (seen_by (call_seen w (w.actors c).call.caller)) (w.actors c).call.arguments
  pub answer : AnswerUnlessUnknown job (member_of (w.actors c).call).0 (arguments_of (w.actors c).ports) (result_seen w (Some c)) (any_unknown (arguments_of (w.actors c).ports))

-- ---- fires

-- an actor fires once where its arguments are known and not trapped
abbrev pub fires_unless : Bool → Option Trap → ℕ
fires_unless true trap = 0
fires_unless false (Some trap) = 0
fires_unless false None = 1

abbrev pub fires_with : List Arg → ℕ
fires_with arguments = fires_unless (any_unknown arguments) (leftmost_trap arguments)

-- ---- two orders

-- two machines at rest whose `main` did the same, with as many turns
pub record SameRun (job : Job) (one other : World) : Type 0 where
  pub turns : one.turns ≡ other.turns
  pub end : BodyEnd
  pub lines : List ℕ
  pub did : MainDid job one end lines
  pub other_did : MainDid job other end lines
