use Rattle.std.proofs.Common.{◌≡◌, drop}
use Rattle.mpl_gen_code.specs.ProgramImage.{select_of}
use Rattle.mpl_gen_body.proofs.classes.select_of.Given as goal

abbrev pub invariant-loop-item : goal.invariant-loop-item
invariant-loop-item l = select_of (drop l.item-index l.items) ≡ select_of l.items
