-- The consumers go on waiting.
use Rattle.std.proofs.Common.{◌≡◌, ap, ap₂, refl, subst, sym, ◌∙◌, length, arith}
use Rattle.std.specs.Prelude.{Some, IsSome, []}
use Rattle.std.specs.Option.{option_map_or}
use Rattle.std.specs.FinMap.{insert}
use Rattle.mpl_value.proofs.Table.{updated}
use Rattle.mdf_future.specs.Results.{consumers_of}
use Rattle.mdf_future.specs.declared.future.Fate.TheVariants.{Forwarded}
use Rattle.mdf_future.proofs.Entries.{table, future, found, no_result, waiting-written}
use Rattle.mdf_future.proofs.futures.Futures.forward.Goals as goal

pub unreachable-requires : goal.unreachable-requires
unreachable-requires c = no_result _ c.args.self.now.results c.args.actor (ap (λ t. t.results) c.self.view_is) c.in_default.ensures.value c.requires

pub invariant_of-self : goal.invariant_of-self
invariant_of-self c = record {
  counted =
      let same = waiting-written _ _ c.args.actor c.in-Some.future.now c.forward.new.self c.in-Some.ensures.value (c.get_mut.follows.holds c.forward.new.self).0 in
      omega (arith, same, ap (λ f. length f.consumers) c.forward.ensures, c.self.invariant.counted);
  within = c.self.invariant.within;
}

pub returns : goal.returns
returns c =
    let here = found _ c.args.self.now.results c.args.actor (Some c.in-Some.future.now) (ap (λ t. t.results) c.self.view_is) c.in-Some.ensures.value in
    let consumers : c.in-Some.future.now.consumers ≡ consumers_of c.args.self.now c.args.actor = ap (λ o. option_map_or (λ f. f.consumers) o []) (sym here) in
    ap₂ table
    (updated _ _ c.args.actor c.forward.new.self ((c.get_mut.follows.holds c.forward.new.self).3 (subst IsSome c.in-Some.ensures.value refl)).0
    ∙ ap₂ (λ m f. insert m c.args.actor f) (ap (λ t. t.results) c.self.view_is) (c.forward.ensures ∙ ap (future (Forwarded c.args.other)) consumers))
    (ap (λ t. t.due) c.self.view_is)
