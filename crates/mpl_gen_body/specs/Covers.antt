-- Maps that have all uses of a program that may find a pending or a trapped result.
use Rattle.std.specs.Prelude.{ℕ, List}
use Rattle.std.specs.List.{Contains}
use Rattle.mpl_ast.specs.declared.program.Program.{Program}
use Rattle.mpl_mean.specs.Pending.MayBePending.{MayBePending}

-- and maybe more
pub record Covers (nodes : List ℕ) (p : Program) : Type 0 where
  pub has : (node : ℕ) → MayBePending p node → Contains nodes node
