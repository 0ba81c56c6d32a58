-- The yield of a body by its code: each stop of its frame is answered, and regular calls are made in place.
use Rattle.std.specs.Prelude.{ℕ, zero, suc, ◌≡◌, ◌+◌, Bool, true, false, nat_lt, List, [], ◌∷◌, ◌++◌, map, flat_map, length, slice_get, Option, Some, None, if◌then◌else◌, ℤ, pos}
use Rattle.std.specs.FinMap.{FinMap, get}
use Rattle.std.specs.Option.{option_map, unwrap_or}
use Rattle.std.specs.Ordering.{nat_cmp}
use Rattle.mpl_value.specs.declared.body.Arg.{Arg}
use Rattle.mpl_value.specs.declared.body.Arg.TheVariants.{Know, Trapped, Unknown}
use Rattle.mpl_value.specs.declared.body.BodyEnd.{BodyEnd}
use Rattle.mpl_value.specs.declared.body.BodyEnd.TheVariants as end
use Rattle.mpl_value.specs.declared.body.BodyResult.{BodyResult}
use Rattle.mpl_value.specs.declared.body.BodyResult.TheVariants as result
use Rattle.mpl_value.specs.declared.body.BodyStart.{BodyStart}
use Rattle.mpl_value.specs.declared.body.CallMade.{CallMade}
use Rattle.mpl_value.specs.declared.body.MemberId.{MemberId}
use Rattle.mpl_value.specs.declared.body.Yield.{Yield}
use Rattle.mpl_value.specs.declared.known.Known.{Known}
use Rattle.mpl_value.specs.declared.known.Known.TheVariants as known
use Rattle.mpl_value.specs.declared.known.Trap.{Trap}
use Rattle.mpl_value.specs.declared.known.TrapKind.TheVariants.{NoReply}
use Rattle.mpl_value.specs.CallAnswers.{any_unknown, arg_of_reply, arg_of_result, known_words, leftmost_trap}
use Rattle.mpl_value.specs.Results.{result_at, result_of}
use Rattle.mpl_value.specs.Words.{object_word}
use Rattle.mdf_code.specs.declared.raw.RawImage.{RawImage}
use Rattle.mdf_code.specs.declared.raw.RawMember.{RawMember}
use Rattle.mdf_code.specs.Frames.{Around, Code, InMain, InMember, Flows, Frame, Next, Goes, Spends, Stops, Stop, Calls, Creates, Ends, Needs, Replies, Strays, Traps}
use Rattle.mdf_code.specs.Parts.{is_regular, result_words, sizes_at, variables_holding}
use Rattle.mdf_code.specs.Steps.{step}

-- in place a flow value is what is known of it
abbrev pub in_place : Flows Arg
in_place = record { see = λ value. value; known = Know }

-- What a body runs in: its image, its member, its object and its number, how many turns it may take, the replies to its
-- calls on persistent objects, and, where it runs alone, the answers to its calls by their numbers.
pub record Setting : Type 0 where
  pub image : RawImage
  pub member : Option MemberId
  pub object : ℤ
  pub number : ℕ
  pub turns : ℕ
  pub replies : ℕ → Arg
  pub answers : Option (ℕ → Arg)

-- A body: its frame, how many calls it made, those on persistent objects, the classes of the objects created, its result,
-- its turns, and whether it met an instruction that can't stand there.
pub record Body : Type 0 where
  pub frame : Frame Arg
  pub sent : ℕ
  pub calls : List CallMade
  pub creations : List ℤ
  pub result : BodyResult
  pub turns : ℕ
  pub strayed : Bool

pub record Ended : Type 0 where
  pub body : Body
  pub end : BodyEnd

abbrev pub around : Setting → Around
around s = record { image = s.image; object = s.object }

-- ---- starting

abbrev pub code_of_member : Option MemberId → Code
code_of_member None = InMain
code_of_member (Some member) = InMember member.0

abbrev pub formals_of : Option RawMember → ℕ
formals_of None = 0
formals_of (Some m) = m.formals

abbrev pub formals_at : RawImage → Option MemberId → ℕ
formals_at image None = 0
formals_at image (Some member) = formals_of (slice_get image.members member.0)

-- the frame of a body: the formals hold the words of the arguments
abbrev pub start_frame : {V : Type 0} → (List ℤ → V) → RawImage → BodyStart → Frame V
start_frame known image start = record {
  code = code_of_member start.member;
  place = 0;
  words = [];
  flows = [];
  variables = map known (variables_holding (formals_at image start.member) (sizes_at image (code_of_member start.member)) start.args);
  callers = [];
  state = start.state;
  input = start.input;
  lines = [];
  replied = false;
}

abbrev pub start_body : RawImage → BodyStart → ℕ → Body
start_body image start turns = record {
  frame = start_frame Know image start;
  sent = 0;
  calls = [];
  creations = [];
  result = result.Open;
  turns = turns;
  strayed = false;
}

-- ---- ending

-- a member with a value that ends without having given it traps; one without a value gives no words
abbrev pub missed : ℕ → Option ℕ → BodyResult
missed line None = result.Known (known.Value [])
missed line (Some words) = result.Known (known.Trapped (record { kind = NoReply; line = line }))

abbrev pub missed_by : ℕ → Option RawMember → BodyResult
missed_by line None = result.Open
missed_by line (Some m) = missed line m.result

abbrev pub missed_at : RawImage → ℕ → Option MemberId → BodyResult
missed_at image line None = result.Open
missed_at image line (Some member) = missed_by line (slice_get image.members member.0)

-- a result that is still open
abbrev pub or_missed : BodyResult → BodyResult → BodyResult
or_missed missed result.Open = missed
or_missed missed (result.Known known) = result.Known known
or_missed missed result.Unknown = result.Unknown

-- the result of `main` stays open
abbrev pub result_at_trap : Option MemberId → Trap → BodyResult → BodyResult
result_at_trap None t given = given
result_at_trap (Some member) t given = result_at (end.Trap t) given

abbrev pub ends : BodyEnd → Body → Option Ended
ends e b = Some (record { body = b; end = e })

abbrev pub ends_at : ℕ → Setting → Body → Option Ended
ends_at line s b = ends end.Done (record b { result = or_missed (missed_at s.image line s.member) b.result })

abbrev pub traps_with : Trap → Setting → Body → Option Ended
traps_with t s b = ends (end.Trap t) (record b { result = result_at_trap s.member t b.result })

-- ---- going on

abbrev pub Runs : Type 0
Runs = Setting → Body → Option Ended

-- one more turn, of which the body has so many
abbrev pub spends : Setting → Body → (Body → Option Ended) → Option Ended
spends s b next =
    if nat_lt b.turns s.turns then next (record b { turns = b.turns + 1 }) else ends end.Spent (record b { turns = b.turns + 1 })

abbrev pub with_frame : Frame Arg → Body → Body
with_frame f b = record b { frame = f }

abbrev pub words_of_member : Option RawMember → ℕ
words_of_member None = 0
words_of_member (Some m) = result_words m.result

abbrev pub words_of_result : RawImage → ℕ → ℕ
words_of_result image member = words_of_member (slice_get image.members member)

-- the answer of a call
abbrev pub answered : {V : Type 0} → RawImage → ℕ → V → Frame V → Frame V
answered image member value f = record f { flows = record { value = value; words = words_of_result image member } ∷ f.flows }

-- the word of a new object
abbrev pub named : {V : Type 0} → ℤ → Frame V → Frame V
named object f = record f { words = object ∷ f.words }

abbrev pub goes_on_answered : Runs → Setting → ℕ → Body → Arg → Option Ended
goes_on_answered again s member b value = again s (with_frame (answered s.image member value b.frame) b)

-- ---- calls

-- the start of a regular member's body
abbrev pub regular_start : ℕ → List ℤ → BodyStart
regular_start member words = record { member = Some (record { 0 = member }); args = words; state = []; object = pos 0; number = 0; input = [] }

-- what the body of a regular member runs in: it has no object and no replies
abbrev pub regular_setting : Setting → ℕ → Setting
regular_setting s member = record s { member = Some (record { 0 = member }); object = pos 0; number = 0; replies = λ k. Unknown; answers = None }

-- the caller goes on with the turns that the body took, and is spent where the body is
abbrev pub comes_back_at : Runs → Setting → ℕ → Body → Ended → BodyEnd → Option Ended
comes_back_at again s member b ended end.Done = goes_on_answered again s member (record b { turns = ended.body.turns }) (arg_of_result ended.body.result)
comes_back_at again s member b ended (end.Trap t) = goes_on_answered again s member (record b { turns = ended.body.turns }) (arg_of_result ended.body.result)
comes_back_at again s member b ended end.Waits = goes_on_answered again s member (record b { turns = ended.body.turns }) (arg_of_result ended.body.result)
comes_back_at again s member b ended end.Spent = ends end.Spent (record b { turns = ended.body.turns })

abbrev pub comes_back : Runs → Setting → ℕ → Body → Option Ended → Option Ended
comes_back again s member b None = None
comes_back again s member b (Some ended) = comes_back_at again s member b ended ended.end

-- a regular member in place: a turn for its start, and then its code
abbrev pub called_in_place : Runs → Setting → ℕ → List (List ℤ) → Body → Option Ended
called_in_place again s member arguments b =
    comes_back again s member b (spends s (start_body s.image (regular_start member (flat_map (λ words. words) arguments)) b.turns) (again (regular_setting s member)))

-- a trap among the arguments is the answer
abbrev pub unless_trapped : Runs → Setting → ℕ → Body → Option Trap → Option Ended → Option Ended
unless_trapped again s member b None body = body
unless_trapped again s member b (Some t) body = goes_on_answered again s member b (Trapped t)

-- what is known, unless there is a trap
abbrev pub unless_trap : Arg → Option Trap → Arg
unless_trap known None = known
unless_trap known (Some t) = Trapped t

-- The answer of a call: unknown where an argument is, else the leftmost trap of its arguments, else what is known of it.
abbrev pub answer : List Arg → Arg → Arg
answer arguments known = if any_unknown arguments then Unknown else unless_trap known (leftmost_trap arguments)

abbrev pub regular_call : Runs → Setting → ℕ → List Arg → Option (ℕ → Arg) → Body → Option Ended
regular_call again s member arguments (Some answers) b = goes_on_answered again s member b (answers b.sent)
regular_call again s member arguments None b =
    if any_unknown arguments then goes_on_answered again s member b Unknown
    else unless_trapped again s member b (leftmost_trap arguments) (called_in_place again s member (known_words arguments) b)

-- one more call on a persistent object
abbrev pub made : ℕ → ℤ → List Arg → Body → Body
made member object arguments b =
    record b { calls = b.calls ++ record { call = length b.calls + 1; object = object; member = record { 0 = member }; args = arguments } ∷ [] }

-- the answer of a call on a persistent object: that of its reply, and for a body that runs alone what it is given
abbrev pub reply_to : List Arg → (ℕ → Arg) → Body → Option (ℕ → Arg) → Arg
reply_to arguments replies b None = answer arguments (replies (length b.calls + 1))
reply_to arguments replies b (Some answers) = answers b.sent

abbrev pub persistent_call : Runs → Setting → ℕ → ℤ → List Arg → Body → Option Ended
persistent_call again s member object arguments b = goes_on_answered again s member (made member object arguments b) (reply_to arguments s.replies b s.answers)

abbrev pub found_regular : RawImage → Option RawMember → Bool
found_regular image None = false
found_regular image (Some m) = unwrap_or (is_regular image m) false

abbrev pub member_is_regular : RawImage → ℕ → Bool
member_is_regular image member = found_regular image (slice_get image.members member)

abbrev pub calls : Runs → Setting → ℕ → ℤ → List Arg → Body → Option Ended
calls again s member object arguments b =
    if member_is_regular s.image member then regular_call again s member arguments s.answers (record b { sent = b.sent + 1 })
    else persistent_call again s member object arguments (record b { sent = b.sent + 1 })

-- ---- steps

abbrev pub creates : Runs → Setting → ℕ → Body → Option Ended
creates again s class b =
    again s (with_frame (named (object_word s.number (length b.creations + 1)) b.frame) (record b { creations = b.creations ++ pos class ∷ [] }))

abbrev pub at_stop : Runs → Setting → Body → Stop Arg → Option Ended
at_stop again s b (Calls member object arguments) = spends s b (calls again s member object arguments)
at_stop again s b (Needs value) = ends end.Waits b
at_stop again s b (Replies value) = again s (record b { result = result_of value })
at_stop again s b (Creates class) = spends s b (creates again s class)
at_stop again s b (Ends line) = ends_at line s b
at_stop again s b Strays = ends_at 0 s (record b { strayed = true })
at_stop again s b (Traps t) = traps_with t s b

abbrev pub act : Runs → Setting → Body → Next Arg → Option Ended
act again s b (Goes f) = again s (with_frame f b)
act again s b (Spends f) = spends s (with_frame f b) (again s)
act again s b (Stops stop f) = at_stop again s (with_frame f b) stop

-- a body's run, where so many steps are enough, with those of what it calls
abbrev pub exec : ℕ → Runs
exec zero s b = None
exec (suc fuel) s b = act (exec fuel) s b (step in_place (around s) b.frame)

-- ---- yields

abbrev pub yield_at : Ended → Yield
yield_at ended = record {
  lines = ended.body.frame.lines;
  calls = ended.body.calls;
  creations = ended.body.creations;
  result = ended.body.result;
  state = ended.body.frame.state;
  turns = ended.body.turns;
  end = ended.end;
}

abbrev pub setting_of : RawImage → BodyStart → (ℕ → Arg) → ℕ → Setting
setting_of image start replies turns = record {
  image = image;
  member = start.member;
  object = start.object;
  number = start.number;
  turns = turns;
  replies = replies;
  answers = None;
}

-- a turn for the start, and then the code
abbrev pub run_of : ℕ → Setting → BodyStart → Option Ended
run_of fuel s start = spends s (start_body s.image start 0) (exec fuel s)

-- the yield of a body under these replies to its calls by their numbers, where so many steps are enough
abbrev pub yield_under : ℕ → RawImage → BodyStart → (ℕ → Arg) → ℕ → Option Yield
yield_under steps image start replies turns = option_map yield_at (run_of steps (setting_of image start replies turns) start)

abbrev pub replies_of : FinMap nat_cmp Known → ℕ → Arg
replies_of replies call = arg_of_reply (get replies call)

abbrev pub yield_within : ℕ → RawImage → BodyStart → FinMap nat_cmp Known → ℕ → Option Yield
yield_within steps image start replies = yield_under steps image start (replies_of replies)

-- What the code of a body does from a start, under these replies to its calls, with so many turns.
pub record Yields (image : RawImage) (start : BodyStart) (replies : FinMap nat_cmp Known) (turns : ℕ) (yield : Yield) : Type 0 where
  pub steps : ℕ
  pub within : yield_within steps image start replies turns ≡ Some yield

-- The same of a body that met no instruction that can't stand there. To load a variable that isn't known is one, and ends
-- the body: where it becomes known by more replies the body goes on.
pub record YieldsUnstrayed (image : RawImage) (start : BodyStart) (replies : FinMap nat_cmp Known) (turns : ℕ) (yield : Yield) : Type 0 where
  pub steps : ℕ
  pub ended : Ended
  pub within : run_of steps (setting_of image start (replies_of replies) turns) start ≡ Some ended
  pub is : yield_at ended ≡ yield
  pub unstrayed : ended.body.strayed ≡ false
