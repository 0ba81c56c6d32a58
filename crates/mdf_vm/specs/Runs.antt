-- A frame that runs until it halts, or until no memory is left.
use Rattle.std.specs.Prelude.{ℕ, ◌+◌, ◌≡◌, Some}
use Rattle.mpl_value.specs.declared.body.Arg.{Arg}
use Rattle.mdf_code.specs.Alone.{Held}
use Rattle.mdf_code.specs.Frames.{Around, Frame}
use Rattle.mdf_code.specs.Told.{Halt, run}

-- A frame that went there, with so many turns, goes on as the first does, however it goes on.
pub record Went (knows : ℕ → Arg) (x : Around) (quantum turns : ℕ) (before : Frame Held) (spent : ℕ) (after : Frame Held) : Type 0 where
  pub steps : ℕ
  pub same : (more : ℕ) → run (more + steps) knows x quantum turns before ≡ run more knows x quantum spent after

-- A frame halts there next.
pub record RunsTo (knows : ℕ → Arg) (x : Around) (quantum : ℕ) (before : Frame Held) (halt : Halt) (spent : ℕ) (after : Frame Held) : Type 0 where
  pub steps : ℕ
  pub runs : run steps knows x quantum 0 before ≡ Some (record { halt = halt; turns = spent; frame = after })
