-- What `main` has done, in a machine at rest.
use Rattle.std.specs.Prelude.{ℕ, ◌≡◌, List}
use Rattle.mpl_value.specs.declared.body.BodyEnd.{BodyEnd}
use Rattle.mpl_value.specs.declared.body.BodyEnd.TheVariants as end
use Rattle.mdf_code.specs.Frames.{Calls, Creates, Ends, Needs, Replies, Strays, Traps}
use Rattle.mdf_code.specs.Told.{Beats, Halt, HaltsNext, Stands, Stood}
use Rattle.mdf_core.specs.Worlds.{Job, World}

-- the end of a body whose frame stays there
abbrev pub end_at : Halt → BodyEnd
end_at (Stands (Ends line)) = end.Done
end_at (Stands Strays) = end.Done
end_at (Stands (Traps trap)) = end.Trap trap
end_at (Stands (Calls member object arguments)) = end.Waits
end_at (Stands (Needs value)) = end.Waits
end_at (Stands (Replies value)) = end.Waits
end_at (Stands (Creates class)) = end.Waits
end_at Beats = end.Waits

-- `main` came to this end, and printed these lines.
pub record MainDid (job : Job) (w : World) (end : BodyEnd) (lines : List ℕ) : Type 0 where
  pub stood : Stood
  pub halts : HaltsNext job.image (w.actors 0).start (w.actors 0).told stood
  pub ended : end_at stood.halt ≡ end
  pub printed : stood.frame.lines ≡ lines
