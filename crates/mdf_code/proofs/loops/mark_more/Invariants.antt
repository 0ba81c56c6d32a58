use Rattle.std.proofs.Common.{◌≡◌, ◌<◌, ◌≤◌, ℕ, length, true, false}
use Rattle.std.specs.List.{slice_get}
use Rattle.mdf_code.specs.Images.{all_ways}
use Rattle.mdf_code.specs.Marks.{IsRight, is_marked, marks}
use Rattle.mdf_code.proofs.loops.mark_more.Given as goal

abbrev pub invariant-loop-place : goal.invariant-loop-place
invariant-loop-place l = record {
  same : length l.marked ≡ length l.code;
  below : l.place ≤ length l.code;
  right : IsRight l.code l.marked;
  grown : marks l.initial.marked ≤ marks l.marked;
  more : l.more ≡ true → marks l.initial.marked < marks l.marked;
  closed : l.more ≡ false → (p : ℕ) → l.place ≤ p → p < length l.code → all_ways (is_marked l.marked) (slice_get l.code p) p ≡ true → is_marked l.marked p ≡ true;
}

abbrev pub decreases-loop-place : goal.decreases-loop-place
decreases-loop-place l = l.place
