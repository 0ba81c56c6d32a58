use Rattle.std.proofs.Common.{sym, subst, ◌<◌, ◌∙◌}
use Rattle.std.proofs.Math.ListN.{length-set}
use Rattle.mpl_depend.proofs.ranking.rank.Goals as goal

pub complete-requires-clause-into : goal.complete-requires-clause-into
complete-requires-clause-into c = λ edge is. subst (λ count. edge.into < count) (sym (c.in_ok-search.ensures.sized ∙ length-set c.args.ranks.now 1 1)) (c.requires.into edge is)
