use Rattle.mpl_depend.specs.Internal.SeenWays.{ways_seen}
use Rattle.mpl_depend.proofs.FoundUses.{edges_below, found_adds}
use Rattle.mpl_depend.proofs.finding.mark_ways.Goals as goal

pub mark_values-requires-clause-into : goal.mark_values-requires-clause-into
mark_values-requires-clause-into c = edges_below (ways_seen c.args.ways.now) c.in_ok-values.values.count c.in_ok-values.values.edges.items c.in_ok-values.values.uses.items c.in_ok-values.ensures

pub returns : goal.returns
returns c =
    found_adds (ways_seen c.args.ways.now) c.in_ok-values.values.count c.in_ok-values.values.edges.items c.in_ok-values.values.uses.items c.args.marks.now.items c.mark_values.new.marks.items
    c.in_ok-values.ensures c.in_ok-mark_values.ensures
