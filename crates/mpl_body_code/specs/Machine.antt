-- What runs a body's code: a frame, the body that it belongs to, and who called it.
use Rattle.std.specs.Prelude.{ℕ, Bool, false, List, [], ◌∷◌, ℤ, if◌then◌else◌, nat_eq, length}
use Rattle.std.specs.FinMap.{FinMap}
use Rattle.std.specs.Ordering.{nat_cmp}
use Rattle.mpl_value.specs.declared.body.Arg.{Arg}
use Rattle.mpl_value.specs.declared.body.Arg.TheVariants as arg
use Rattle.mpl_value.specs.declared.body.BodyEnd.{BodyEnd}
use Rattle.mpl_value.specs.declared.body.BodyEnd.TheVariants as end
use Rattle.mpl_value.specs.declared.body.BodyResult.{BodyResult}
use Rattle.mpl_value.specs.declared.body.BodyResult.TheVariants as result
use Rattle.mpl_value.specs.declared.body.CallMade.{CallMade}
use Rattle.mpl_value.specs.declared.body.Yield.{Yield}
use Rattle.mpl_value.specs.declared.known.Known.{Known}
use Rattle.mpl_value.specs.declared.known.Known.TheVariants as known
use Rattle.mpl_value.specs.declared.known.Trap.{Trap}
use Rattle.mpl_value.specs.declared.known.TrapKind.TheVariants.{NoReply}
use Rattle.mpl_value.specs.CallAnswers.{arg_of_result}
use Rattle.mpl_value.specs.Results.{result_at}
use Rattle.mpl_mean.specs.Meaning.Values.{Value}
use Rattle.mpl_body_code.specs.declared.instruction.Finish.{Finish}
use Rattle.mpl_body_code.specs.declared.instruction.Finish.TheVariants as finish
use Rattle.mpl_body_code.specs.declared.instruction.FunctionCode.{FunctionCode}
use Rattle.mpl_body_code.specs.declared.instruction.Instruction.{Instruction}
use Rattle.mpl_body_code.specs.declared.instruction.MemberCode.{MemberCode}

-- ---- what a body has

-- what lies on the stack: a value, or what is passed on in its place
pub data Item : Type 0 where
  OfValue : (value : Value) → Item
  OfTrap : (trap : Trap) → Item
  NotKnown : Item

abbrev pub words_item : List ℤ → Bool → Item
words_item words is_bool = OfValue (record { words = words; is_bool = is_bool })

abbrev pub item_of : Arg → Item
item_of (arg.Know words) = words_item words false
item_of (arg.Trapped trap) = OfTrap trap
item_of arg.Unknown = NotKnown

abbrev pub arg_of : Item → Arg
arg_of (OfValue value) = arg.Know value.words
arg_of (OfTrap trap) = arg.Trapped trap
arg_of NotKnown = arg.Unknown

pub record Frame : Type 0 where
  -- the place of the next instruction
  pub place : ℕ
  -- the top first
  pub stack : List Item
  -- what the variables hold, the newest first
  pub slots : List Arg
  pub object : ℤ
  pub number : ℕ

-- `main` or a member, of which plain functions are a part while they run
pub record Body : Type 0 where
  pub state : List ℤ
  pub lines : List ℕ
  pub input : List ℤ
  pub calls : List CallMade
  pub creations : List ℤ
  pub result : BodyResult
  pub finish : Finish
  -- whether the replies are to its calls
  pub answered : Bool

-- what goes on behind a call
pub data Caller : Type 0 where
  -- of a plain function, that traps at the line where it ends without a value
  OfPlain : (frame : Frame) (line : ℕ) (is_bool : Bool) → Caller
  OfRegular : (frame : Frame) (body : Body) → Caller

pub record Machine : Type 0 where
  pub frame : Frame
  pub body : Body
  -- the newest first
  pub callers : List Caller
  pub turns : ℕ

pub record Image : Type 0 where
  pub code : List Instruction
  pub functions : List FunctionCode
  -- by the numbers of the members
  pub members : List MemberCode

-- what a machine runs in: the code of its program, its turns, and the replies to the calls of its first body
pub record Setting : Type 0 where
  pub image : Image
  pub turns : ℕ
  pub replies : FinMap nat_cmp Known

-- A step leads to another one, or is the last.
pub data Next : Type 0 where
  Goes : (machine : Machine) → Next
  Stops : (yield : Yield) → Next

-- ---- variables

-- what the variable of a number holds, the oldest being 0
abbrev pub held : ℕ → List Arg → Arg
held number [] = arg.Unknown
held number (holds ∷ older) = if nat_eq number (length older) then holds else held number older

abbrev pub put_held : ℕ → Arg → List Arg → List Arg
put_held number value [] = []
put_held number value (holds ∷ older) = if nat_eq number (length older) then value ∷ older else holds ∷ put_held number value older

-- ---- how bodies end

-- what becomes of the result of a body that is done
abbrev pub at_end : Finish → BodyResult → BodyResult
at_end finish.Main result = result
at_end finish.Void result.Open = result.Known (known.Value [])
at_end finish.Void (result.Known known) = result.Known known
at_end finish.Void result.Unknown = result.Unknown
at_end (finish.Value line) result.Open = result.Known (known.Trapped (record { kind = NoReply; line = line }))
at_end (finish.Value line) (result.Known known) = result.Known known
at_end (finish.Value line) result.Unknown = result.Unknown

-- what becomes of the result of a body that ends otherwise
abbrev pub at_stop : Finish → BodyEnd → BodyResult → BodyResult
at_stop finish.Main e result = result
at_stop finish.Void e result = result_at e result
at_stop (finish.Value line) e result = result_at e result

abbrev pub yield_at : BodyEnd → BodyResult → Body → ℕ → Yield
yield_at e result body turns = record {
  lines = body.lines;
  calls = body.calls;
  creations = body.creations;
  result = result;
  state = body.state;
  turns = turns;
  end = e;
}

-- the frame goes on with one more item
abbrev pub resumed : Frame → Item → Body → List Caller → ℕ → Next
resumed frame item body callers turns = Goes (record { frame = record frame { stack = item ∷ frame.stack }; body = body; callers = callers; turns = turns })

-- where a body is spent its caller is, too
abbrev pub unless_spent : BodyEnd → Next → Next → Next
unless_spent end.Done goes spent = goes
unless_spent (end.Trap trap) goes spent = goes
unless_spent end.Waits goes spent = goes
unless_spent end.Spent goes spent = spent

-- a body ends before its end, and with it the plain functions that it is in
abbrev pub ended : List Caller → BodyEnd → Body → ℕ → Next
ended [] e body turns = Stops (yield_at e (at_stop body.finish e body.result) body turns)
ended (OfPlain frame line is_bool ∷ callers) e body turns = ended callers e body turns
ended (OfRegular frame outer ∷ callers) e body turns =
    unless_spent e (resumed frame (item_of (arg_of_result (at_stop body.finish e body.result))) outer callers turns) (ended callers end.Spent outer turns)

-- a body or a plain function comes to its end
abbrev pub finished : List Caller → Body → ℕ → Next
finished [] body turns = Stops (yield_at end.Done (at_end body.finish body.result) body turns)
finished (OfPlain frame line is_bool ∷ callers) body turns = ended callers (end.Trap (record { kind = NoReply; line = line })) body turns
finished (OfRegular frame outer ∷ callers) body turns = resumed frame (item_of (arg_of_result (at_end body.finish body.result))) outer callers turns

-- it returns, with words or none
abbrev pub returned : List ℤ → List Caller → Body → ℕ → Next
returned words [] body turns = finished [] body turns
returned words (OfPlain frame line is_bool ∷ callers) body turns = resumed frame (words_item words is_bool) body callers turns
returned words (OfRegular frame outer ∷ callers) body turns = finished (OfRegular frame outer ∷ callers) body turns
