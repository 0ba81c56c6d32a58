use Rattle.std.proofs.Common.{◌≡◌, map}
use Rattle.std.specs.Vec.Iter.{into_iter_items}
use Rattle.mpl_mean.specs.Laws.Sizes.{Every}
use Rattle.mpl_gen_expr.specs.Drafts.{InstrFits, drafted}
use Rattle.mpl_gen_expr.proofs.codes.Codes.into_text.Given as goal

abbrev pub invariant-loop-instruction : goal.invariant-loop-instruction
invariant-loop-instruction l = record {
  text : l.text ≡ map drafted l.yielded;
  fits : Every InstrFits (map drafted (into_iter_items l.instruction-iterator));
}
