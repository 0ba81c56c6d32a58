use Rattle.std.proofs.Common.{◌≡◌, ◌++◌, drop, map}
use Rattle.mpl_mean.specs.Laws.Sizes.{words_of_formal}
use Rattle.mpl_gen_body.proofs.bodies.sizes_of.Given as goal

abbrev pub invariant-loop-formal : goal.invariant-loop-formal
invariant-loop-formal l = l.sizes ++ map (words_of_formal l.outline) (drop l.formal-index l.formals) ≡ map (words_of_formal l.outline) l.formals
