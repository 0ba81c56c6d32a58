use Rattle.std.proofs.Common.{◌≡◌, drop}
use Rattle.mpl_gen_body.specs.Internal.Accepting.{formals_among}
use Rattle.mpl_gen_body.proofs.entries.formals_among.Given as goal

abbrev pub invariant-loop-item : goal.invariant-loop-item
invariant-loop-item l = formals_among l.name (drop l.item-index l.items) ≡ formals_among l.name l.items
