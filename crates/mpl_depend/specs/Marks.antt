-- The numbers of the uses that may find a pending or a trapped result.
use Rattle.std.specs.Prelude.{ℕ, List}
use Rattle.std.specs.List.{Contains}
use Rattle.std.specs.List.Sorted.{IsStrictlyIncreasing}
use Rattle.mpl_ast.specs.declared.program.Program.{Program}
use Rattle.mpl_mean.specs.Pending.MayBePending.{MayBePending}

-- they are those of the program, and rise
pub record AreMarks (nodes : List ℕ) (program : Program) : Type 0 where
  pub sound : (node : ℕ) → Contains nodes node → MayBePending program node
  pub complete : (node : ℕ) → MayBePending program node → Contains nodes node
  pub rising : IsStrictlyIncreasing nodes
