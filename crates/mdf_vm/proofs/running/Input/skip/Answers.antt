use Rattle.mdf_vm.proofs.Reversed.{next_rest}
use Rattle.mdf_vm.proofs.running.Input.skip.Goals as goal

pub returns : goal.returns
returns c = next_rest c.self.inside.numbers c.args.self.now c.self.inside.read c.self.view_is
