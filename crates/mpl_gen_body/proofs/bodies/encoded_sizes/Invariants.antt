use Rattle.std.proofs.Common.{◌≡◌, ◌++◌, drop}
use Rattle.mpl_mean.specs.Laws.Sizes.{Every}
use Rattle.mpl_gen_expr.specs.Drafts.{Fits32}
use Rattle.mpl_gen_body.proofs.bodies.encoded_sizes.Given as goal

abbrev pub invariant-loop-size : goal.invariant-loop-size
invariant-loop-size l = record {
  sizes : l.encoded ++ drop l.size-index l.sizes ≡ l.sizes;
  fits : Every Fits32 (drop l.size-index l.sizes);
}
