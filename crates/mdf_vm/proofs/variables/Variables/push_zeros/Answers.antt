use Rattle.std.proofs.Common.{ap, length, sym}
use Rattle.std.proofs.lemmas.List.{length-replicate}
use Rattle.mpl_value.specs.Words.{zeros}
use Rattle.mdf_vm.proofs.Laid.{pushed_laid, pushed_seen, still_laid}
use Rattle.mdf_vm.proofs.variables.Variables.push_zeros.Goals as goal

pub invariant_of-self-in_err-push : goal.invariant_of-self-in_err-push
invariant_of-self-in_err-push c =
    still_laid c.self.inside.words.items (zeros c.args.size) _ c.self.inside.slots.items _ c.self.invariant c.in_ok-extend_by_zeros.ensures.ok c.in_err-push.ensures.items

pub invariant_of-self-2 : goal.invariant_of-self-2
invariant_of-self-2 c =
    pushed_laid c.self.inside.words.items (zeros c.args.size) _ c.self.inside.slots.items _ _ c.self.invariant c.in_ok-extend_by_zeros.ensures.ok c.in_ok-push.ensures.items (ap length c.as_slice-at.ensures.value) (sym (length-replicate c.args.size _))

pub returns : goal.returns
returns c =
    pushed_seen c.self.inside.words.items (zeros c.args.size) _ c.self.inside.slots.items _ _ c.args.self.now c.self.invariant c.in_ok-extend_by_zeros.ensures.ok c.in_ok-push.ensures.items (ap length c.as_slice-at.ensures.value)
    (sym (length-replicate c.args.size _)) c.self.view_is
