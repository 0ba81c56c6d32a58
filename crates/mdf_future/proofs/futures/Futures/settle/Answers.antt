-- All consumers of the result leave it; those that are served go to the end of the queue.
use Rattle.std.proofs.Common.{◌≡◌, ◌++◌, ap, ap₂, refl, subst, sym, ◌∙◌, length, arith}
use Rattle.std.specs.Prelude.{Some, IsSome, []}
use Rattle.std.specs.Option.{option_map_or}
use Rattle.std.specs.FinMap.{insert}
use Rattle.mpl_value.proofs.Table.{updated}
use Rattle.mdf_future.specs.Consumers.{deliveries}
use Rattle.mdf_future.specs.Results.{consumers_of}
use Rattle.mdf_future.specs.declared.future.Fate.TheVariants.{Known}
use Rattle.mdf_future.proofs.Entries.{table, future, found, no_result, waiting-written}
use Rattle.mdf_future.proofs.futures.Futures.settle.Goals as goal

pub unreachable-requires : goal.unreachable-requires
unreachable-requires c = no_result _ c.args.self.now.results c.args.actor (ap (λ t. t.results) c.self.view_is) c.in_default.ensures.value c.requires

pub invariant_of-self : goal.invariant_of-self
invariant_of-self c =
    let fewer = waiting-written _ _ c.args.actor c.in-Some.future.now c.replace-open.new.dest c.in-Some.ensures.value (c.get_mut.follows.holds c.replace-open.new.dest).0 in
    let left = ap length c.new.ensures in
    let replaced = ap (λ f. length f.consumers) c.replace-open.ensures.after in
    let taken = ap (λ f. length f.consumers) c.replace-open.ensures.value in
    let passed = ap length c.as_slice.ensures in
    record {
      counted = omega (arith, fewer, left, replaced, taken, c.len.ensures, c.self.invariant.counted);
      within = omega (arith, fewer, left, replaced, taken, passed, c.len.ensures, c.self.invariant.counted, c.self.invariant.within, c.deliver.ensures.len, c.deliver.ensures.capacity);
    }

pub returns : goal.returns
returns c =
    let here = found _ c.args.self.now.results c.args.actor (Some c.in-Some.future.now) (ap (λ t. t.results) c.self.view_is) c.in-Some.ensures.value in
    let consumers : c.in-Some.future.now.consumers ≡ consumers_of c.args.self.now c.args.actor = ap (λ o. option_map_or (λ f. f.consumers) o []) (sym here) in
    let passed : c.as_slice.result.now ≡ consumers_of c.args.self.now c.args.actor = c.as_slice.ensures ∙ ap (λ f. f.consumers) c.replace-open.ensures.value ∙ consumers in
    ap₂ table
    (updated _ _ c.args.actor c.replace-open.new.dest ((c.get_mut.follows.holds c.replace-open.new.dest).3 (subst IsSome c.in-Some.ensures.value refl)).0
    ∙ ap₂ (λ m f. insert m c.args.actor f) (ap (λ t. t.results) c.self.view_is) (c.replace-open.ensures.after ∙ ap (future (Known c.args.datum)) c.new.ensures))
    (c.deliver.ensures.due ∙ ap₂ (λ due cs. due ++ deliveries c.args.actor cs) (ap (λ t. t.due) c.self.view_is) passed)
