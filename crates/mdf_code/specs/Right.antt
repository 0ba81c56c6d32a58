-- Which things that a frame alone is told are right, and what its body does by them. A call is answered when it is made:
-- one of a regular member by what that member's own code yields in place, one on a persistent object by its reply.
use Rattle.std.specs.Prelude.{ℕ, ◌≡◌, ◌≢◌, ◌+◌, Bool, true, false, List, [], ◌∷◌, ◌++◌, flat_map, length, Option, Some, None, ℤ, pos}
use Rattle.std.specs.FinMap.{FinMap, empty}
use Rattle.std.specs.Ordering.{nat_cmp}
use Rattle.mpl_value.specs.declared.body.Arg.{Arg}
use Rattle.mpl_value.specs.declared.body.Arg.TheVariants.{Trapped, Unknown}
use Rattle.mpl_value.specs.declared.body.BodyEnd.{BodyEnd}
use Rattle.mpl_value.specs.declared.body.BodyEnd.TheVariants as end
use Rattle.mpl_value.specs.declared.body.BodyResult.{BodyResult}
use Rattle.mpl_value.specs.declared.body.BodyResult.TheVariants as result
use Rattle.mpl_value.specs.declared.body.BodyStart.{BodyStart}
use Rattle.mpl_value.specs.declared.body.CallMade.{CallMade}
use Rattle.mpl_value.specs.declared.body.Yield.{Yield}
use Rattle.mpl_value.specs.declared.known.Known.{Known}
use Rattle.mpl_value.specs.declared.known.Trap.{Trap}
use Rattle.mpl_value.specs.CallAnswers.{any_unknown, arg_of_reply, arg_of_result, known_words, leftmost_trap}
use Rattle.mpl_value.specs.Results.{result_of}
use Rattle.mpl_value.specs.Words.{object_word}
use Rattle.mdf_code.specs.declared.raw.RawImage.{RawImage}
use Rattle.mdf_code.specs.Alone.{Held, Pending, frame_seen, seen_by, values_seen}
use Rattle.mdf_code.specs.Frames.{Frame, Stops, Calls, Creates, Ends, Needs, Replies, Strays, Traps}
use Rattle.mdf_code.specs.Steps.{step}
use Rattle.mdf_code.specs.Told.{Beaten, Beats, Called, Gave, Halt, HaltsNext, Learnt, Named, Stands, Stood, Told, around_start, learns}
use Rattle.mdf_code.specs.Yields.{Ended, Setting, Yields, answer, in_place, member_is_regular, missed_at, or_missed, regular_start, replies_of, result_at_trap, run_of, setting_of}

-- ---- what a body did

-- What a body did, by what its frame was told: the answers to its calls by their numbers, how many it made, those on
-- persistent objects, the classes of the objects created, its result and its turns.
pub record Account : Type 0 where
  pub answers : ℕ → Arg
  pub sent : ℕ
  pub calls : List CallMade
  pub creations : List ℤ
  pub result : BodyResult
  pub turns : ℕ

-- a turn for the start
abbrev pub opening : Account
opening = record { answers = λ call. Unknown; sent = 0; calls = []; creations = []; result = result.Open; turns = 1 }

-- with so many more turns
abbrev pub with_turns : ℕ → Account → Account
with_turns turns a = record a { turns = a.turns + turns }

-- with one more call that has this answer
abbrev pub with_answer : Arg → Account → Account
with_answer value a = record a { answers = learns (a.sent + 1) value a.answers; sent = a.sent + 1 }

abbrev pub with_call : ℕ → ℤ → List Arg → Account → Account
with_call member object arguments a =
    record a { calls = a.calls ++ record { call = length a.calls + 1; object = object; member = record { 0 = member }; args = arguments } ∷ [] }

abbrev pub with_creation : ℕ → Account → Account
with_creation class a = record a { creations = a.creations ++ pos class ∷ [] }

-- ---- answers of regular calls

-- The code of a regular member yields this with these arguments, and isn't spent.
pub record OwnYield (image : RawImage) (member : ℕ) (arguments : List (List ℤ)) (yield : Yield) : Type 0 where
  pub turns : ℕ
  pub yields : Yields image (regular_start member (flat_map (λ words. words) arguments)) empty turns yield
  pub unspent : yield.end ≢ end.Spent

-- a call with known arguments is answered by its member's own yield, whose turns are its caller's too
pub record ReadyCall (image : RawImage) (member : ℕ) (arguments : List (List ℤ)) (a b : Account) : Type 0 where
  pub yield : Yield
  pub own : OwnYield image member arguments yield
  pub is : with_answer (arg_of_result yield.result) (with_turns yield.turns a) ≡ b

abbrev pub UnlessTrapped : RawImage → ℕ → List Arg → Account → Account → Option Trap → Type 0
UnlessTrapped image member arguments a b None = ReadyCall image member (known_words arguments) a b
UnlessTrapped image member arguments a b (Some t) = with_answer (Trapped t) a ≡ b

abbrev pub UnlessUnknown : RawImage → ℕ → List Arg → Account → Account → Bool → Type 0
UnlessUnknown image member arguments a b true = with_answer Unknown a ≡ b
UnlessUnknown image member arguments a b false = UnlessTrapped image member arguments a b (leftmost_trap arguments)

-- ---- what is told

-- behind a call, by whether its member is of a regular class
abbrev pub IsCalled : RawImage → (ℕ → Arg) → ℕ → ℤ → List Arg → Account → Account → Bool → Type 0
IsCalled image replies member object arguments a b true = UnlessUnknown image member arguments a b (any_unknown arguments)
IsCalled image replies member object arguments a b false =
    with_answer (answer arguments (replies (length a.calls + 1))) (with_call member object arguments a) ≡ b

-- What a frame is told at a halt is right, and the body has then done this.
abbrev pub IsRightAt : RawImage → BodyStart → (ℕ → Arg) → Account → Halt → Told → Account → Type 0
IsRightAt image start replies a (Stands (Calls member object arguments)) Called b =
    IsCalled image replies member object (values_seen (seen_by a.answers) arguments) (with_turns 1 a) b (member_is_regular image member)
IsRightAt image start replies a (Stands (Needs (Pending result))) (Learnt known) b = (a.answers result ≡ arg_of_reply (Some known)) × (a ≡ b)
IsRightAt image start replies a (Stands (Creates class)) (Named object) b =
    (object_word start.number (length a.creations + 1) ≡ object) × (with_creation class (with_turns 1 a) ≡ b)
IsRightAt image start replies a (Stands (Replies value)) Gave b = record a { result = result_of (seen_by a.answers value) } ≡ b
IsRightAt image start replies a Beats Beaten b = a ≡ b
IsRightAt image start replies a halt told b = ⊥

-- one more thing told, where the frame halts next
pub record Tells (image : RawImage) (start : BodyStart) (replies : FinMap nat_cmp Known) (before : List Told) (Was : Account → Type 0) (told : Told) (b : Account) : Type 0 where
  pub a : Account
  pub was : Was a
  pub stood : Stood
  pub halts : HaltsNext image start before stood
  pub is : IsRightAt image start (replies_of replies) (with_turns stood.turns a) stood.halt told b

-- Each thing that a frame was told is right, the newest first, and its body has then done this.
abbrev pub Right : RawImage → BodyStart → FinMap nat_cmp Known → List Told → Account → Type 0
Right image start replies [] a = opening ≡ a
Right image start replies (told ∷ before) a = Tells image start replies before (Right image start replies before) told a

-- ---- ends

abbrev pub yield_by : Account → Frame Held → BodyResult → BodyEnd → Yield
yield_by a f given x = record { lines = f.lines; calls = a.calls; creations = a.creations; result = given; state = f.state; turns = a.turns; end = x }

-- the frame strays in place too
abbrev pub StraysInPlace : RawImage → BodyStart → Account → Frame Held → Type 0
StraysInPlace image start a f =
    step in_place (around_start image start) (frame_seen (seen_by a.answers) f) ≡ Stops Strays (frame_seen (seen_by a.answers) f)

-- What a body yields that comes to its end at a halt: the end of its code, a trap, or the need of what isn't known.
abbrev pub EndsAt : RawImage → BodyStart → Account → Frame Held → Halt → Yield → Type 0
EndsAt image start a f (Stands (Ends line)) y = yield_by a f (or_missed (missed_at image line start.member) a.result) end.Done ≡ y
EndsAt image start a f (Stands (Traps t)) y = yield_by a f (result_at_trap start.member t a.result) (end.Trap t) ≡ y
EndsAt image start a f (Stands (Needs value)) y = (seen_by a.answers value ≡ Unknown) × (yield_by a f a.result end.Waits ≡ y)
EndsAt image start a f (Stands Strays) y = StraysInPlace image start a f × (yield_by a f (or_missed (missed_at image 0 start.member) a.result) end.Done ≡ y)
EndsAt image start a f halt y = ⊥

-- A frame that is told what is right comes through to the end of its body, which has then done this.
pub record Through (image : RawImage) (start : BodyStart) (replies : FinMap nat_cmp Known) (yield : Yield) : Type 0 where
  pub told : List Told
  pub account : Account
  pub right : Right image start replies told account
  pub stood : Stood
  pub halts : HaltsNext image start told stood
  pub ends : EndsAt image start (with_turns stood.turns account) stood.frame stood.halt yield

-- Where a frame that is told what is right strays, it strays in place too: it loads nothing that it didn't learn.
abbrev pub StraysAsInPlace : RawImage → BodyStart → FinMap nat_cmp Known → Type 0
StraysAsInPlace image start replies =
    (told : List Told) (a : Account) (stood : Stood) → Right image start replies told a → HaltsNext image start told stood → stood.halt ≡ Stands Strays →
    StraysInPlace image start a stood.frame

-- ---- a body that runs alone

-- each of its calls is answered by its number
abbrev pub setting_alone : RawImage → BodyStart → (ℕ → Arg) → ℕ → Setting
setting_alone image start answers turns = record (setting_of image start (λ call. Unknown) turns) { answers = Some answers }

-- With these answers to its calls it meets no instruction that can't stand there.
abbrev pub StraysNowhere : RawImage → BodyStart → (ℕ → Arg) → Type 0
StraysNowhere image start answers = (turns steps : ℕ) (ended : Ended) → run_of steps (setting_alone image start answers turns) start ≡ Some ended → ended.body.strayed ≡ false
