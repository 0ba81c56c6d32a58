use Rattle.std.proofs.Common.{◌≡◌, ◌++◌, take}
use Rattle.mdf_code.specs.Listing.{lines_of}
use Rattle.mdf_code.proofs.text.list_code.Given as goal

abbrev pub invariant-loop-instruction : goal.invariant-loop-instruction
invariant-loop-instruction l = l.text ≡ l.initial.text ++ lines_of (take l.instruction-index l.code)
