use Rattle.std.proofs.Common.{◌≡◌, ◌++◌, drop, map}
use Rattle.mpl_mean.specs.Laws.Sizes.{words_of_formal}
use Rattle.mpl_body_image.proofs.sizes.words_of_all.Given as goal

abbrev pub invariant-loop-formal : goal.invariant-loop-formal
invariant-loop-formal l = l.words.items ++ map (words_of_formal l.outline) (drop l.formal-index l.formals) ≡ map (words_of_formal l.outline) l.formals
