use Rattle.std.proofs.Common.{◌≡◌, ◌++◌, take}
use Rattle.std.specs.List.{flat_map}
use Rattle.mdf_code.specs.Listing.{operand_text}
use Rattle.mdf_code.proofs.text.list_instr.Given as goal

abbrev pub invariant-loop-operand : goal.invariant-loop-operand
invariant-loop-operand l = l.text ≡ l.initial.text ++ flat_map operand_text (take l.operand-index l.operand-items)
