use Rattle.std.proofs.Common.{◌≡◌, drop}
use Rattle.mentat_cmd.specs.Program.{first_persistent}
use Rattle.mentat_cmd.proofs.source_words.first_persistent.Given as goal

-- the first word is in the rest
abbrev pub invariant-loop-declaration : goal.invariant-loop-declaration
invariant-loop-declaration l = first_persistent (drop l.declaration-index l.declarations) ≡ first_persistent l.declarations
