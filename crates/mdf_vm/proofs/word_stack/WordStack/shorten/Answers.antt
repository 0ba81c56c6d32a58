use Rattle.mdf_vm.proofs.Rooms.{shortened_within}
use Rattle.mdf_vm.proofs.word_stack.WordStack.shorten.Goals as goal

pub returns : goal.returns
returns c = shortened_within c.self.inside.words.items c.args.self.now c.self.inside.top c.args.count c.self.view_is c.self.invariant c.requires
