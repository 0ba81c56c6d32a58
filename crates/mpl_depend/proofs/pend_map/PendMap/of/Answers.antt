use Rattle.mpl_depend.proofs.Found.{sorted_complete, sorted_rises, sorted_sound}
use Rattle.mpl_depend.proofs.pend_map.PendMap.of.Goals as goal

pub invariant_of-result : goal.invariant_of-result
invariant_of-result c = sorted_rises c.sort.new.self.items c.dedup.new.self.items c.in_ok-sort.ensures.sorted c.dedup.ensures.filtered

pub returns-clause-rising : goal.returns-clause-rising
returns-clause-rising c = sorted_rises c.sort.new.self.items c.dedup.new.self.items c.in_ok-sort.ensures.sorted c.dedup.ensures.filtered

pub returns-clause-sound : goal.returns-clause-sound
returns-clause-sound c = λ node there. sorted_sound c.args.marks.items c.sort.new.self.items c.dedup.new.self.items node c.sort.ensures.permutation c.dedup.ensures.filtered there

pub returns-clause-complete : goal.returns-clause-complete
returns-clause-complete c = λ node there. sorted_complete c.args.marks.items c.sort.new.self.items c.dedup.new.self.items node c.sort.ensures.permutation c.dedup.ensures.filtered there
