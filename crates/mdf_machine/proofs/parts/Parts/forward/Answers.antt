use Rattle.std.proofs.Common.{false, sym, ap, ◌∙◌, subst}
use Rattle.std.specs.Prelude.{IsTrue}
use Rattle.std.specs.Option.{option_map_or}
use Rattle.mdf_future.specs.declared.consumer.Consumer.TheVariants as consumer
use Rattle.mdf_future.specs.declared.future.Future.{Future}
use Rattle.mdf_future.specs.declared.future.Give.TheVariants as give
use Rattle.mdf_future.specs.Results.{ResultTable, may_become, may_give}
use Rattle.mdf_machine.proofs.Waited.{waited_there}
use Rattle.mdf_machine.proofs.parts.Parts.forward.Goals as goal

pub give-requires-clause-allowed : goal.give-requires-clause-allowed
give-requires-clause-allowed c = subst (λ (t : ResultTable). IsTrue (may_give t c.args.actor (give.Result c.args.child))) (sym c.in_ok-wait.ensures.ok)
    (ap (λ o. option_map_or (λ (f : Future). may_become f.fate (give.Result c.args.child)) o false) (waited_there c.args.self.now.results c.args.child (consumer.Result c.args.actor) c.args.actor c.requires.other) ∙ c.requires.may)
