use Rattle.std.proofs.Common.{ap, ◌∙◌}
use Rattle.std.specs.Prelude.{None, replicate, slice_get}
use Rattle.std.specs.Ordering.{nat_cmp}
use Rattle.std.specs.FinMap.{get, get-empty}
use Rattle.mdf_match.specs.Ports.{row_of}
use Rattle.machine_tests.proofs.Rows.{opened}
use Rattle.machine_tests.proofs.matching.last_port_gives_the_ticket.Goals as goal

pub open-requires-clause-new : goal.open-requires-clause-new
open-requires-clause-new g c = ap (λ m. get m 4) c.new-matcher.ensures ∙ get-empty nat_cmp 4

pub arrive-requires-clause-empty : goal.arrive-requires-clause-empty
arrive-requires-clause-empty g c =
    ap (λ m. slice_get (row_of m 4) 1) c.in_ok-open.ensures.ok ∙ ap (λ row. slice_get row 1) (opened c.new-matcher.result 4 (replicate 2 None))
