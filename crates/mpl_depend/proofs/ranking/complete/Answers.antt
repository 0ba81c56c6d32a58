use Rattle.std.proofs.Common.{sym, subst, ◌<◌, ◌∙◌}
use Rattle.mpl_depend.proofs.Reachings.{is_found}
use Rattle.mpl_depend.proofs.ranking.complete.Goals as goal

pub loop-next-smaller : goal.loop-next-smaller
loop-next-smaller c =
    let edge = c.in-Some.edge in
    let found = is_found c.args.edges.now c.loop-next.ranks c.loop-next.next edge c.in-Some.is c.loop-next.invariant.is_open in
    c.in_ok-follow.ensures.fewer found.1 (subst (λ count. edge.into < count) (sym c.loop-next.invariant.sized) (c.requires.into edge found.0))

pub loop-next-preserved : goal.loop-next-preserved
loop-next-preserved c =
    let found = is_found c.args.edges.now c.loop-next.ranks c.loop-next.next c.in-Some.edge c.in-Some.is c.loop-next.invariant.is_open in
    record {
      sized = c.in_ok-follow.ensures.sized ∙ c.loop-next.invariant.sized;
      reaching = c.in_ok-follow.ensures.reaching c.args.edges.now found.0 c.loop-next.invariant.reaching;
      is_open = c.open_edge-next-in-Some.ensures;
    }
