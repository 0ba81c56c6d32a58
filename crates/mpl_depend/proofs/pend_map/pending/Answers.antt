use Rattle.std.proofs.Common.{rules}
use Rattle.mpl_depend.proofs.Marking.{marks_at}
use Rattle.mpl_depend.proofs.pend_map.pending.Goals as goal

pub returns : goal.returns
returns c = marks_at c.args.typed.now {ds = c.in_ok-known.known} {list = c.as_slice-declarations.result.now} c.in_ok-marks.marks.items c.in_ok-map.map c.in_ok-marks.ensures (search rules) (search rules) c.in_ok-map.ensures.sound c.in_ok-map.ensures.complete c.in_ok-map.ensures.rising
