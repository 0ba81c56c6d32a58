use Rattle.std.proofs.Common.{◌≡◌, ◌-◌, length}
use Rattle.mdf_code.specs.Marks.{IsRight, marks}
use Rattle.mdf_code.proofs.loops.marks_all.Given as goal

abbrev pub invariant-loop : goal.invariant-loop
invariant-loop l = record {
  same : length l.marked ≡ length l.code;
  right : IsRight l.code l.marked;
}

abbrev pub decreases-loop : goal.decreases-loop
decreases-loop l = length l.code - marks l.marked
