use Rattle.std.proofs.Common.{◌≡◌, map, take}
use Rattle.mdf_machine.specs.Internal.Sending.{passed_by}
use Rattle.mdf_machine.proofs.parts.Parts.passed.Given as goal

abbrev pub invariant-loop-arg : goal.invariant-loop-arg
invariant-loop-arg l = l.passed.items ≡ map (passed_by l.self.rows l.actor) (take l.arg-index l.args)
