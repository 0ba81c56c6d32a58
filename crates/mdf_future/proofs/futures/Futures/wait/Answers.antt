-- A consumer joins the others of a result that isn't known, or is served at once.
use Rattle.std.proofs.Common.{◌≡◌, ℕ, ◌+◌, ◌++◌, ◌∷◌, [], ap, ap₂, refl, subst, sym, ◌∙◌, length, length-append, arith, true, false}
use Rattle.std.specs.Prelude.{Some, None, Option, Ok, Err, Result, IsSome, OnErr, if◌then◌else◌}
use Rattle.std.specs.Option.{SomeIff, ok_or}
use Rattle.std.specs.BTreeMap.{is_at}
use Rattle.std.specs.Ordering.{nat_cmp}
use Rattle.std.specs.Map.{set_value}
use Rattle.std.specs.FinMap.{insert, from_entries, get}
use Rattle.mpl_value.proofs.Table.{updated}
use Rattle.mdf_future.specs.Consumers.{deliveries}
use Rattle.mdf_future.specs.Results.{ResultTable, is_known, waited, waited_at}
use Rattle.mdf_future.specs.Room.{waiting_in}
use Rattle.mdf_future.specs.declared.consumer.Consumer.{Consumer}
use Rattle.mdf_future.specs.declared.future.Future.{Future}
use Rattle.mdf_future.proofs.Entries.{table, future, found, no_result, waiting-written, kept}
use Rattle.mdf_future.proofs.futures.Futures.wait.Goals as goal

-- what is so is so where there is an error
on_err : {T E P : Type 0} (r : Result T E) → P → OnErr r P
on_err (Ok _) p = tt
on_err (Err _) p = p

-- a checked sum that there is is the sum
is_sum : {E : Type 0} (P : Type 0) (n m : ℕ) (e : E) (o : Option ℕ) → SomeIff o P m → Ok n ≡ ok_or o e → n ≡ m
is_sum P n m e None none is = absurd (cc)
is_sum P n m e (Some x) some is = let sum = some.1 in cc

waited-known : (t : ResultTable) (on : ℕ) (c : Consumer) (f : Future) → get t.results on ≡ Some f → is_known f.fate ≡ true
    → table t.results (t.due ++ deliveries on (c ∷ [])) ≡ waited t on c
waited-known t on c f here known =
    ap (λ b. if b then table t.results (t.due ++ deliveries on (c ∷ [])) else table (insert t.results on (future f.fate (f.consumers ++ c ∷ []))) t.due) (sym known)
    ∙ ap (waited_at t on c) (sym here)

waited-open : (t : ResultTable) (on : ℕ) (c : Consumer) (f : Future) → get t.results on ≡ Some f → is_known f.fate ≡ false
    → table (insert t.results on (future f.fate (f.consumers ++ c ∷ []))) t.due ≡ waited t on c
waited-open t on c f here unknown =
    ap (λ b. if b then table t.results (t.due ++ deliveries on (c ∷ [])) else table (insert t.results on (future f.fate (f.consumers ++ c ∷ []))) t.due) (sym unknown)
    ∙ ap (waited_at t on c) (sym here)

pub unreachable-requires : goal.unreachable-requires
unreachable-requires c = no_result _ c.args.self.now.results c.args.on (ap (λ t. t.results) c.self.view_is) c.in_default.ensures.value c.requires

pub invariant_of-self-then-is_known : goal.invariant_of-self-then-is_known
invariant_of-self-then-is_known c =
    let same = kept _ _ c.args.on c.in-Some.future.now c.in-Some.ensures.value (c.get_mut.follows.holds c.in-Some.future.now).0 in
    let placed : c.in_ok-places.places ≡ c.self.inside.waiting + 1 = is_sum _ _ _ _ _ c.checked_add.ensures c.in_ok-places.ensures.value in
    record {
      counted = omega (arith, ap waiting_in same, c.self.invariant.counted);
      within = omega (arith, placed, ap length c.as_slice.ensures, c.deliver.ensures.len, c.deliver.ensures.capacity, c.in_ok-reserve.ensures.ok);
    }

pub returns-then-is_known-clause-ok : goal.returns-then-is_known-clause-ok
returns-then-is_known-clause-ok c =
    let same = kept _ _ c.args.on c.in-Some.future.now c.in-Some.ensures.value (c.get_mut.follows.holds c.in-Some.future.now).0 in
    let here = found _ c.args.self.now.results c.args.on (Some c.in-Some.future.now) (ap (λ t. t.results) c.self.view_is) c.in-Some.ensures.value in
    ap₂ table
    (ap from_entries same ∙ ap (λ t. t.results) c.self.view_is)
    (c.deliver.ensures.due ∙ ap₂ (λ due cs. due ++ deliveries c.args.on cs) (c.reserve.ensures.items ∙ ap (λ t. t.due) c.self.view_is) c.as_slice.ensures)
    ∙ waited-known c.args.self.now c.args.on c.args.consumer c.in-Some.future.now here (sym c.is_known.ensures ∙ c.if-is_known.true)

pub invariant_of-self-in_err-join : goal.invariant_of-self-in_err-join
invariant_of-self-in_err-join c =
    let same = waiting-written _ _ c.args.on c.in-Some.future.now c.join.new.self c.in-Some.ensures.value (c.get_mut.follows.holds c.join.new.self).0 in
    record {
      counted = omega (arith, same, ap (λ f. length f.consumers) c.in_err-join.ensures.err, c.self.invariant.counted);
      within = omega (arith, c.self.invariant.within, c.reserve.ensures.len, c.reserve.ensures.capacity);
    }

pub returns-in_err-join-clause-err : goal.returns-in_err-join-clause-err
returns-in_err-join-clause-err c =
    let same = kept _ _ c.args.on c.in-Some.future.now c.in-Some.ensures.value ((c.get_mut.follows.holds c.join.new.self).0 ∙ ap (set_value (is_at (nat_cmp c.args.on)) c.self.inside.results.entries) c.in_err-join.ensures.err) in
    on_err _ (ap₂ table (ap from_entries same ∙ ap (λ t. t.results) c.self.view_is) (c.reserve.ensures.items ∙ ap (λ t. t.due) c.self.view_is))

pub invariant_of-self-else-is_known : goal.invariant_of-self-else-is_known
invariant_of-self-else-is_known c =
    let more = waiting-written _ _ c.args.on c.in-Some.future.now c.join.new.self c.in-Some.ensures.value (c.get_mut.follows.holds c.join.new.self).0 in
    let placed : c.in_ok-places.places ≡ c.self.inside.waiting + 1 = is_sum _ _ _ _ _ c.checked_add.ensures c.in_ok-places.ensures.value in
    record {
      counted = omega (arith, more, placed, simp length-append at (ap (λ f. length f.consumers) c.in_ok-join.ensures.ok), c.self.invariant.counted);
      within = omega (arith, c.in_ok-reserve.ensures.ok);
    }

pub returns-in_ok-join-clause-ok : goal.returns-in_ok-join-clause-ok
returns-in_ok-join-clause-ok c =
    let here = found _ c.args.self.now.results c.args.on (Some c.in-Some.future.now) (ap (λ t. t.results) c.self.view_is) c.in-Some.ensures.value in
    ap₂ table
    (updated _ _ c.args.on c.join.new.self ((c.get_mut.follows.holds c.join.new.self).3 (subst IsSome c.in-Some.ensures.value refl)).0
    ∙ ap₂ (λ m f. insert m c.args.on f) (ap (λ t. t.results) c.self.view_is) c.in_ok-join.ensures.ok)
    (c.reserve.ensures.items ∙ ap (λ t. t.due) c.self.view_is)
    ∙ waited-open c.args.self.now c.args.on c.args.consumer c.in-Some.future.now here (sym c.is_known.ensures ∙ c.if-is_known.false)
