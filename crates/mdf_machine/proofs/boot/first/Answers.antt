use Rattle.std.proofs.Common.{◌≡◌, ap, refl, sym, subst}
use Rattle.std.specs.Prelude.{None}
use Rattle.std.specs.FinMap.{get, get-empty}
use Rattle.std.specs.Ordering.{nat_cmp}
use Rattle.mdf_machine.proofs.boot.first.Goals as goal

pub open-requires-clause-new : goal.open-requires-clause-new
open-requires-clause-new c = subst (λ m. get m 0 ≡ None) (sym c.new-ports.ensures) (get-empty nat_cmp 0)

pub open-requires-2 : goal.open-requires-2
open-requires-2 c = subst (λ t. get t.results 0 ≡ None) (sym c.new-results.ensures) (get-empty nat_cmp 0)
