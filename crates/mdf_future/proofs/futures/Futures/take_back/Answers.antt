-- The newest consumer leaves those of a result that isn't known, or the queue.
use Rattle.std.proofs.Common.{◌≡◌, ℕ, ◌-◌, ◌+◌, ◌≤◌, ap, ap₂, refl, subst, sym, ◌∙◌, length, take, arith}
use Rattle.std.specs.Prelude.{Option, Some, None, MatchOption, IsSome, if◌then◌else◌}
use Rattle.std.specs.FinMap.{insert, from_entries}
use Rattle.mpl_value.proofs.Table.{updated}
use Rattle.mdf_future.specs.Room.{waiting_in}
use Rattle.mdf_future.specs.Internal.Newest.{all_but_last}
use Rattle.mdf_future.proofs.Entries.{table, found, no_result, waiting-written, kept}
use Rattle.mdf_future.proofs.Opening.{without-known, without-open}
use Rattle.mdf_future.proofs.futures.Futures.take_back.Goals as goal

-- without one, if there is one
no_more : {A : Type 0} (o : Option A) (left all : ℕ) → MatchOption o ((all ≡ 0) × (left ≡ 0)) (λ _. left + 1 ≡ all) → left ≤ all
no_more None left all is = omega (arith, is.1)
no_more (Some x) left all is = omega (arith, is)

pub unreachable-requires : goal.unreachable-requires
unreachable-requires c = no_result _ c.args.self.now.results c.args.on (ap (λ t. t.results) c.self.view_is) c.in_default.ensures.value c.requires

pub invariant_of-self : goal.invariant_of-self
invariant_of-self c =
    let same = kept _ _ c.args.on c.in-Some.future.now c.in-Some.ensures.value (c.get_mut.follows.holds c.in-Some.future.now).0 in
    record {
      counted = omega (arith, ap waiting_in same, c.self.invariant.counted);
      within = omega (arith, c.self.invariant.within, no_more c.pop_back.result _ _ c.pop_back.ensures.cases, c.pop_back.ensures.capacity);
    }

pub invariant_of-self-then-leave : goal.invariant_of-self-then-leave
invariant_of-self-then-leave c =
    let fewer = waiting-written _ _ c.args.on c.in-Some.future.now c.leave.new.self c.in-Some.ensures.value (c.get_mut.follows.holds c.leave.new.self).0 in
    let one : length c.leave.new.self.consumers + 1 ≡ length c.in-Some.future.now.consumers = ap (λ b. length c.leave.new.self.consumers + (if b then 1 else 0)) (sym c.if-leave.true) ∙ c.leave.ensures.one in
    record {
      counted = omega (arith, fewer, one, c.self.invariant.counted);
      within = omega (arith, c.self.invariant.within);
    }

pub invariant_of-self-else-leave : goal.invariant_of-self-else-leave
invariant_of-self-else-leave c =
    let fewer = waiting-written _ _ c.args.on c.in-Some.future.now c.leave.new.self c.in-Some.ensures.value (c.get_mut.follows.holds c.leave.new.self).0 in
    let none : length c.leave.new.self.consumers + 0 ≡ length c.in-Some.future.now.consumers = ap (λ b. length c.leave.new.self.consumers + (if b then 1 else 0)) (sym c.if-leave.false) ∙ c.leave.ensures.one in
    record {
      counted = omega (arith, fewer, none, c.self.invariant.counted);
      within = c.self.invariant.within;
    }

pub returns-then-is_known : goal.returns-then-is_known
returns-then-is_known c =
    let same = kept _ _ c.args.on c.in-Some.future.now c.in-Some.ensures.value (c.get_mut.follows.holds c.in-Some.future.now).0 in
    let here = found _ c.args.self.now.results c.args.on (Some c.in-Some.future.now) (ap (λ t. t.results) c.self.view_is) c.in-Some.ensures.value in
    ap₂ table
    (ap from_entries same ∙ ap (λ t. t.results) c.self.view_is)
    (c.pop_back.ensures.rest ∙ ap (λ n. take (n - 1) c.self.inside.due.items) c.self.inside.due.ok.0 ∙ ap all_but_last (ap (λ t. t.due) c.self.view_is))
    ∙ without-known c.args.self.now c.args.on c.in-Some.future.now here (sym c.is_known.ensures ∙ c.if-is_known.true)

pub returns-then-leave : goal.returns-then-leave
returns-then-leave c =
    let here = found _ c.args.self.now.results c.args.on (Some c.in-Some.future.now) (ap (λ t. t.results) c.self.view_is) c.in-Some.ensures.value in
    ap₂ table
    (updated _ _ c.args.on c.leave.new.self ((c.get_mut.follows.holds c.leave.new.self).3 (subst IsSome c.in-Some.ensures.value refl)).0
    ∙ ap₂ (λ m f. insert m c.args.on f) (ap (λ t. t.results) c.self.view_is) c.leave.ensures.rest)
    (ap (λ t. t.due) c.self.view_is)
    ∙ without-open c.args.self.now c.args.on c.in-Some.future.now here (sym c.is_known.ensures ∙ c.if-is_known.false)

pub returns-else-leave : goal.returns-else-leave
returns-else-leave c =
    let here = found _ c.args.self.now.results c.args.on (Some c.in-Some.future.now) (ap (λ t. t.results) c.self.view_is) c.in-Some.ensures.value in
    ap₂ table
    (updated _ _ c.args.on c.leave.new.self ((c.get_mut.follows.holds c.leave.new.self).3 (subst IsSome c.in-Some.ensures.value refl)).0
    ∙ ap₂ (λ m f. insert m c.args.on f) (ap (λ t. t.results) c.self.view_is) c.leave.ensures.rest)
    (ap (λ t. t.due) c.self.view_is)
    ∙ without-open c.args.self.now c.args.on c.in-Some.future.now here (sym c.is_known.ensures ∙ c.if-is_known.false)
