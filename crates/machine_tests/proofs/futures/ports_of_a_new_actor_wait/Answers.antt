-- The result that is passed is open until it is given.
use Rattle.std.proofs.Common.{◌≡◌, [], ◌∷◌, ap, sym, subst, refl, ◌∙◌, arith}
use Rattle.std.specs.Prelude.{Some, None}
use Rattle.std.specs.Ordering.{nat_cmp}
use Rattle.std.specs.Cmp.{nat_cmp_total}
use Rattle.std.specs.FinMap.{get, get-empty, get-insert}
use Rattle.mdf_future.specs.declared.future.Fate.TheVariants.{Open}
use Rattle.mdf_future.specs.declared.future.Give.TheVariants.{Known}
use Rattle.mdf_future.specs.Openings.{HaveResults, opened_with}
use Rattle.mdf_future.specs.Results.{ResultTable, opened}
use Rattle.machine_tests.proofs.Fates.{fate_of, has_result, may_be_given, new_fate, opened_fate, other_fate}
use Rattle.machine_tests.proofs.futures.ports_of_a_new_actor_wait.Goals as goal

-- the result of 4 alone
abbrev IsFourOpen : ResultTable → Type 0
IsFourOpen t = fate_of t 4 ≡ Some Open

have : (t : ResultTable) → IsFourOpen t → HaveResults t (None ∷ Some 4 ∷ [])
have t is_open = (has_result t 4 Open is_open, tt)

no_nine : (t : ResultTable) → get t.results 9 ≡ None → get (opened t 4).results 9 ≡ None
no_nine t none = get-insert nat_cmp_total t.results 4 (record { fate = Open; consumers = [] }) 9 ∙ none

pub open-requires : goal.open-requires
open-requires g c = ap (λ t. get t.results 4) c.new-futures.ensures ∙ get-empty nat_cmp 4

pub open_with-requires-clause-new : goal.open_with-requires-clause-new
open_with-requires-clause-new g c =
    ap (λ t. get t.results 9) c.in_ok-open.ensures.ok ∙ no_nine c.new-futures.result (ap (λ t. get t.results 9) c.new-futures.ensures ∙ get-empty nat_cmp 9)

pub open_with-requires-clause-there : goal.open_with-requires-clause-there
open_with-requires-clause-there g c =
    subst (HaveResults c.open.new.self) (sym c.as_slice.ensures) (have c.open.new.self (ap (λ t. fate_of t 4) c.in_ok-open.ensures.ok ∙ opened_fate c.new-futures.result 4))

pub state-requires : goal.state-requires
state-requires g c =
    let before = ap (λ t. fate_of t 4) c.in_ok-open.ensures.ok ∙ opened_fate c.new-futures.result 4 in
    has_result c.open_with.new.self 9 Open
    (ap (λ t. fate_of t 9) (c.in_ok-open_with.ensures.ok ∙ ap (opened_with c.open.new.self 9) c.as_slice.ensures) ∙ new_fate c.open.new.self 9 (None ∷ Some 4 ∷ []) (have c.open.new.self before))

pub give-requires-clause-allowed : goal.give-requires-clause-allowed
give-requires-clause-allowed g c =
    let before = ap (λ t. fate_of t 4) c.in_ok-open.ensures.ok ∙ opened_fate c.new-futures.result 4 in
    may_be_given c.open_with.new.self 4 (Known c.in_ok-known.known) Open
    (ap (λ t. fate_of t 4) (c.in_ok-open_with.ensures.ok ∙ ap (opened_with c.open.new.self 9) c.as_slice.ensures)
    ∙ other_fate c.open.new.self 9 4 (None ∷ Some 4 ∷ []) (have c.open.new.self before) (λ e. absurd (omega (arith, e))) ∙ before) refl
