-- A frame: a body's code that runs, and what it has. What stands for a flow value is left open: where calls are made in
-- place it is what is known of it, and in a frame alone it is known words or the number of a result.
use Rattle.std.specs.Prelude.{ℕ, Bool, List, ℤ}
use Rattle.mdf_code.specs.declared.raw.RawImage.{RawImage}
use Rattle.mpl_value.specs.declared.body.Arg.{Arg}
use Rattle.mpl_value.specs.declared.known.Trap.{Trap}

-- the code that a frame stands in: that of `main`, of a plain function, of a member, or the guard of an entry
pub data Code : Type 0 where
  InMain : Code
  InFunction : (function : ℕ) → Code
  InMember : (member : ℕ) → Code
  InGuard : (entry : ℕ) → Code

-- a flow value, and how many words it has or will have
pub record Flow (V : Type 0) : Type 0 where
  pub value : V
  pub words : ℕ

-- what a plain function goes back to
pub record Caller (V : Type 0) : Type 0 where
  pub code : Code
  pub place : ℕ
  pub words : List ℤ
  pub flows : List (Flow V)
  pub variables : List V

pub record Frame (V : Type 0) : Type 0 where
  pub code : Code
  pub place : ℕ
  -- the two stacks, the top first
  pub words : List ℤ
  pub flows : List (Flow V)
  pub variables : List V
  -- the newest first
  pub callers : List (Caller V)
  -- the words of the object's state
  pub state : List ℤ
  -- the numbers that are left of the input
  pub input : List ℤ
  -- what was printed
  pub lines : List ℕ
  -- whether the body's result was given
  pub replied : Bool

-- what an instruction asks of a flow value: what is known of it, and one that has these words
pub record Flows (V : Type 0) : Type 0 where
  pub see : V → Arg
  pub known : List ℤ → V

-- what a frame runs in: its image, and the word of its object
pub record Around : Type 0 where
  pub image : RawImage
  pub object : ℤ

-- Why a frame stops: for a call of a member on an object, for a value that isn't known, for a result or an object, at its
-- end with the line where a result was missed, at an instruction that can't stand there, or by a trap.
pub data Stop (V : Type 0) : Type 0 where
  Calls : (member : ℕ) (object : ℤ) (arguments : List V) → Stop V
  Needs : (value : V) → Stop V
  Replies : (value : V) → Stop V
  Creates : (class : ℕ) → Stop V
  Ends : (line : ℕ) → Stop V
  Strays : Stop V
  Traps : (trap : Trap) → Stop V

-- A step goes on, goes on with a turn, or stops.
pub data Next (V : Type 0) : Type 0 where
  Goes : (frame : Frame V) → Next V
  Spends : (frame : Frame V) → Next V
  Stops : (stop : Stop V) (frame : Frame V) → Next V
