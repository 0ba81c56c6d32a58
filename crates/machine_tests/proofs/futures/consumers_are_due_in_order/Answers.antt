-- The result is open until it is given.
use Rattle.std.proofs.Common.{◌≡◌, ap, refl, ◌∙◌}
use Rattle.std.specs.Prelude.{Some}
use Rattle.std.specs.Ordering.{nat_cmp}
use Rattle.std.specs.FinMap.{get, get-empty}
use Rattle.mdf_future.specs.declared.future.Fate.TheVariants.{Open}
use Rattle.mdf_future.specs.declared.future.Give.TheVariants.{Known}
use Rattle.machine_tests.proofs.Fates.{fate_of, opened_fate, has_result, may_be_given}
use Rattle.machine_tests.proofs.futures.consumers_are_due_in_order.Goals as goal

pub open-requires : goal.open-requires
open-requires g c = ap (λ t. get t.results 4) c.new-futures.ensures ∙ get-empty nat_cmp 4

pub wait_all-requires : goal.wait_all-requires
wait_all-requires g c =
    has_result c.open.new.self 4 Open (ap (λ t. fate_of t 4) c.in_ok-open.ensures.ok ∙ opened_fate c.new-futures.result 4)

pub give-requires-clause-allowed : goal.give-requires-clause-allowed
give-requires-clause-allowed g c =
    let opened : fate_of c.open.new.self 4 ≡ Some Open = ap (λ t. fate_of t 4) c.in_ok-open.ensures.ok ∙ opened_fate c.new-futures.result 4 in
    may_be_given c.wait_all.new.futures 4 (Known c.in_ok-known.known) Open (c.in_ok-wait_all.ensures ∙ opened) refl
