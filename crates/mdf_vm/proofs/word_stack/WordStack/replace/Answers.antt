use Rattle.std.proofs.lemmas.Int.{to_z-of_z}
use Rattle.std.specs.Int.{w64}
use Rattle.mdf_vm.proofs.Rooms.{replaced_within}
use Rattle.mdf_vm.proofs.word_stack.WordStack.replace.Goals as goal

pub returns : goal.returns
returns c =
    rw (to_z-of_z w64 c.args.word c.ranges.word)
    (replaced_within c.self.inside.words.items c.args.self.now c.self.inside.top c.args.count c.args.word c.self.view_is c.self.invariant c.requires.some c.requires.there)
