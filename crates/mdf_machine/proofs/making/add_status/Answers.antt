use Rattle.std.proofs.Common.{◌++◌, ◌∷◌, [], set, ap, ap₂, ◌∙◌}
use Rattle.mdf_actor.specs.declared.status.ActorStatus.TheVariants as status
use Rattle.mdf_machine.proofs.Adding.{set_last, status_ready}
use Rattle.mdf_machine.proofs.making.add_status.Goals as goal

pub returns-then-missing-eq0-clause-ok : goal.returns-then-missing-eq0-clause-ok
returns-then-missing-eq0-clause-ok c =
    c.set.ensures ∙ ap₂ (λ xs place. set xs place status.Ready) c.in_ok-actor.ensures.ok c.in_ok-actor.ensures.serial
    ∙ set_last c.args.statuses.now (status.Waiting c.args.missing) status.Ready ∙ ap (λ s. c.args.statuses.now ++ s ∷ []) (status_ready c.args.missing c.if-missing-eq0.true)
