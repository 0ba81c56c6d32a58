use Rattle.std.proofs.Common.{◌+◌, drop, None, arith, ap, sym, ◌∙◌}
use Rattle.mpl_mean.proofs.Lists.{next_left}
use Rattle.mpl_types.specs.Internal.Least.{earlier}
use Rattle.mpl_types.specs.Internal.Outlines.{entries_least, entry_least}
use Rattle.mpl_types.specs.Internal.Seen.{failure_of}
use Rattle.mpl_types.proofs.LoopLemmas.{entry_and_others, one_more}
use Rattle.mpl_types.proofs.classes.check_entries.Goals as goal

pub loop-i-preserved : goal.loop-i-preserved
loop-i-preserved c =
    let entries = c.args.entries.now in
    let class = c.args.class.now in
    let i = c.loop-i.i in
    let entry = c.index-entries-i.result in
    let found = failure_of c.loop-i.found in
    let next = next_left entries i entry (omega arith) c.index-entries-i.is in
    let rest = entries_least class (i + 1) (drop (i + 1) entries) in
    one_more found (entry_least class i entry None) rest (entries_least class 0 entries) (failure_of c.earlier-found.result)
    (c.earlier-found.ensures ∙ ap (earlier found) c.check_entry.ensures)
    (ap (earlier found) (entry_and_others class i entry rest ∙ sym (ap (entries_least class i) next)) ∙ c.loop-i.invariant)
