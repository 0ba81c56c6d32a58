use Rattle.std.proofs.Common.{ap, sym, ◌∙◌}
use Rattle.mdf_code.specs.Alone as alone
use Rattle.mdf_vm.specs.Internal.Slots.{held_by}
use Rattle.mdf_vm.specs.Results.{knows_of}
use Rattle.mdf_vm.proofs.lent.Lent.sight.Goals as goal

pub returns-in-None : goal.returns-in-None
returns-in-None c =
    let words = c.self.inside.words.now in
    (words, ap (alone.seen_by (knows_of c.args.results.now)) (sym c.self.view_is ∙ ap (λ p. held_by p words) c.in-None.is))
