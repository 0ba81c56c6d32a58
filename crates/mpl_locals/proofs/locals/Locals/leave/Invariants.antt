use Rattle.std.proofs.Common.{◌≡◌, ◌≤◌, ◌-◌, ℕ, drop, length}
use Rattle.mpl_locals.proofs.locals.Locals.leave.Given as goal

-- some of the newest are gone, and not too many
abbrev pub invariant-loop-self : goal.invariant-loop-self
invariant-loop-self l = (gone : ℕ) × (l.self ≡ drop gone l.initial.self) × (gone ≤ length l.initial.self - l.count)

abbrev pub decreases-loop-self : goal.decreases-loop-self
decreases-loop-self l = length l.self
