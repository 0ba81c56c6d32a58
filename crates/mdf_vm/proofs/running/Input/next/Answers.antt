use Rattle.mdf_vm.proofs.Reversed.{number_at}
use Rattle.mdf_vm.proofs.running.Input.next.Goals as goal

pub returns : goal.returns
returns c = number_at c.self.inside.numbers c.args.self.now c.self.inside.read c.get.result c.self.view_is c.get.ensures.value c.get.ensures.past
