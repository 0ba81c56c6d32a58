-- The row above is shorter.
use Rattle.std.specs.Prelude.{ℕ, ◌≤◌, List, length, Option, Some, None, Box, Vec}
use Rattle.std.proofs.Common.{arith}
use Rattle.std.specs.Global.{Global}
use Rattle.mdf_order.specs.declared.counts.Counts.TheDeep.{deep-Counts}
use Rattle.mdf_order.specs.Internal.Above.{IsAbove}

pub deep-le-length : (numbers : Vec ℕ Global) (above : Option (Box (List ℕ) Global)) → IsAbove numbers.items above
    → deep-Counts (record { numbers = numbers; above = above }) ≤ length numbers.items
deep-le-length numbers None is = omega arith
deep-le-length numbers (Some above) is = omega (arith, is.0, is.1.no_more)
