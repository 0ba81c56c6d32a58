use Rattle.std.proofs.Common.{map, drop, length, subst, sym, arith, rules, ◌+◌}
use Rattle.mpl_mean.proofs.Lists.{next_left}
use Rattle.mpl_depend.specs.Internal.SeenWays.{all_seen, ways_seen}
use Rattle.mpl_depend.specs.Internal.Walking.{Within}
use Rattle.mpl_depend.proofs.Walks.{item_smaller}
use Rattle.mpl_depend.proofs.Savings.{saves_next}
use Rattle.mpl_depend.proofs.writing.+save.Goals as goal

pub save_both-save-requires-2 : goal.save_both-save-requires-2
save_both-save-requires-2 t c = (search rules, subst (λ count. Within count (ways_seen c.args.second.now)) (sym c.in_ok-save.ensures.sized) c.requires.1)

pub save_all-save-requires : goal.save_all-save-requires
save_all-save-requires t c =
    let list = c.args.list.now in
    let i = c.loop-ways.ways-index in
    let x = c.ways-item.result in
    let left = next_left list i x (omega arith) c.ways-item.is in
    let within = subst (λ left. Within (length c.loop-ways.current) (all_seen (map ways_seen left))) left c.loop-ways.invariant.within in
    (search (rules, item_smaller list i x left), within.0)

pub save_all-loop-ways-preserved : goal.save_all-loop-ways-preserved
save_all-loop-ways-preserved t c =
    let list = c.args.list.now in
    let i = c.loop-ways.ways-index in
    let x = c.ways-item.result in
    let left = next_left list i x (omega arith) c.ways-item.is in
    let within = subst (λ left. Within (length c.loop-ways.current) (all_seen (map ways_seen left))) left c.loop-ways.invariant.within in
    let done = c.in_ok-save.ensures in
    record {
      within = subst (λ count. Within count (all_seen (map ways_seen (drop (i + 1) list)))) (sym done.sized) within.1;
      so = saves_next list i x c.args.mark c.args.current.now c.loop-ways.current c.save.new.current c.args.saved.now.items c.loop-ways.saved.items c.save.new.saved.items left done.sized c.loop-ways.invariant.so done.saved;
    }
