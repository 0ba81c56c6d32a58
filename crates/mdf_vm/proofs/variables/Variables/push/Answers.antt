use Rattle.std.proofs.Common.{ap, length, refl}
use Rattle.mdf_vm.proofs.Laid.{pushed_laid, pushed_seen, still_laid}
use Rattle.mdf_vm.proofs.variables.Variables.push.Goals as goal

pub invariant_of-self-in_err-push : goal.invariant_of-self-in_err-push
invariant_of-self-in_err-push c =
    still_laid c.self.inside.words.items c.args.words.now _ c.self.inside.slots.items _ c.self.invariant c.in_ok-extend_from_slice.ensures.items c.in_err-push.ensures.items

pub invariant_of-self-2 : goal.invariant_of-self-2
invariant_of-self-2 c =
    pushed_laid c.self.inside.words.items c.args.words.now _ c.self.inside.slots.items _ _ c.self.invariant c.in_ok-extend_from_slice.ensures.items c.in_ok-push.ensures.items (ap length c.as_slice-at.ensures.value) refl

pub returns : goal.returns
returns c =
    pushed_seen c.self.inside.words.items c.args.words.now _ c.self.inside.slots.items _ _ c.args.self.now c.self.invariant c.in_ok-extend_from_slice.ensures.items c.in_ok-push.ensures.items (ap length c.as_slice-at.ensures.value) refl
    c.self.view_is
