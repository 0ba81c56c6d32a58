-- Numbers of nodes within the limit, and above it.
use Rattle.std.proofs.Common.{◌≡◌, ◌+◌, ◌<◌, ◌≤◌, ◌^◌, Some, None, arith, nat_le, true, false}
use Rattle.std.proofs.lemmas.Bool.Decides.{nat_tests}
use Rattle.mpl_mean.specs.Text.Reading.{Rest}
use Rattle.mpl_trees.specs.Taking.{fitting, inner}
use Rattle.mpl_trees.specs.declared.piece.Start.{Start}
use Rattle.mpl_reader.specs.Reader.{most_number}

pub within : (n : _) → n < 2 ^ 32 → nat_le n most_number ≡ true
unfolding most_number
within n h = grind (arith, nat_tests)

pub above : (n : _) → 2 ^ 32 ≤ n → nat_le n most_number ≡ false
unfolding most_number
above n h = grind (arith, nat_tests)

pub fits : (r : Rest) → r.next < 2 ^ 32 → fitting most_number r ≡ Some r
fits r h = let e = within r.next h in rw e

pub too_great : (r : Rest) → 2 ^ 32 ≤ r.next → fitting most_number r ≡ None
too_great r h = let e = above r.next h in rw e

pub inner-fits : (s : Start) → s.id + 1 < 2 ^ 32 → inner most_number s ≡ Some (record s { id = s.id + 1 })
inner-fits s h = let e = within (s.id + 1) h in rw e

pub inner-too_great : (s : Start) → 2 ^ 32 ≤ s.id + 1 → inner most_number s ≡ None
inner-too_great s h = let e = above (s.id + 1) h in rw e
