use Rattle.std.proofs.Common.{ap, sym, ◌∙◌, ◌++◌, arith}
use Rattle.mdf_vm.proofs.Operands.{on_ok, texts_over}
use Rattle.mdf_vm.proofs.printing.print_others.Goals as goal

pub returns : goal.returns
returns c =
    on_ok c.push-2.result (λ pushed.
    pushed ∙ (ap (λ text. c.loop-place.line ++ text) (sym (texts_over c.args.letters.now c.args.words.now c.loop-place.place (omega arith))) ∙ c.loop-place.invariant))
    c.push-2.ensures.ok
