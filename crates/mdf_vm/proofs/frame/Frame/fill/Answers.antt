use Rattle.std.proofs.Common.{ap, ◌∙◌}
use Rattle.mdf_vm.specs.Internal.Pouring.{all_poured}
use Rattle.mdf_vm.proofs.Filled.{filled}
use Rattle.mdf_vm.proofs.frame.Frame.fill.Goals as goal

pub returns-clause-alone : goal.returns-clause-alone
returns-clause-alone c = λ image hollow fits. filled image c.args.start c.args.self.now c.pour.new.self c.new.result
    (c.pour.ensures ∙ ap (all_poured c.args.self.now.running.variables) c.as_slice.ensures) c.new.ensures hollow fits
