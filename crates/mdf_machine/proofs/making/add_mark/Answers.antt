use Rattle.std.proofs.Common.{◌++◌, ◌∷◌, [], set, true, false, ap, ap₂, ◌∙◌}
use Rattle.mdf_machine.proofs.Adding.{mark_on, set_last}
use Rattle.mdf_machine.proofs.making.add_mark.Goals as goal

pub returns-then-missing-eq0-clause-ok : goal.returns-then-missing-eq0-clause-ok
returns-then-missing-eq0-clause-ok c =
    c.insert.ensures ∙ ap₂ (λ xs place. set xs place true) c.in_ok-actor.ensures.ok c.in_ok-actor.ensures.serial
    ∙ set_last c.args.going.now false true ∙ ap (λ s. c.args.going.now ++ s ∷ []) (mark_on c.args.missing c.if-missing-eq0.true)
