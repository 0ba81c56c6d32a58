use Rattle.std.proofs.Common.{ap, ◌∙◌}
use Rattle.mdf_code.specs.Told.{first}
use Rattle.mdf_vm.proofs.Filled.{started}
use Rattle.mdf_vm.proofs.frame.Frame.start.Goals as goal

pub returns-clause-alone : goal.returns-clause-alone
returns-clause-alone c =
    started c.raw-raw.result.now c.args.start.now _ _ _ _ _ _ _ _ _ c.code_of-code.ensures c.new.ensures c.new-2.ensures c.in_ok-variables.ensures c.new-3.ensures c.in_ok-state.ensures
    (c.new-input.ensures ∙ c.in_ok-copy.ensures) c.new-4.ensures c.new-5.ensures
    ∙ ap (λ image. first image c.args.start.now) c.raw-raw.ensures.parts
