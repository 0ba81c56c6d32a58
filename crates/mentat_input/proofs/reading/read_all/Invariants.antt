use Rattle.std.proofs.Common.{◌-◌, ◌+◌, ◌≤◌, length}
use Rattle.mentat_input.specs.Limits.{most_input_bytes}
use Rattle.mentat_input.proofs.ReadLemmas.{Taken}
use Rattle.mentat_input.proofs.reading.read_all.Given as goal

abbrev pub invariant-loop-piece : goal.invariant-loop-piece
invariant-loop-piece g l = record {
  short : length l.bytes ≤ most_input_bytes + 1;
  taken : Taken (g.S.Source.left l.fn.input) (g.S.Source.left l.input) l.bytes;
  later : g.S.Source.faults l.fn.input ≤ g.S.Source.faults l.input;
}

abbrev pub decreases-loop-piece : goal.decreases-loop-piece
decreases-loop-piece g l = most_input_bytes + 1 - length l.bytes
