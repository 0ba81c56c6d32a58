-- Sums of words, as far as a limit can tell.
use Rattle.std.proofs.Common.{◌≡◌, ◌≤◌, ◌+◌, ℕ, arith}
use Rattle.mpl_scope.specs.Words.{told}

-- one more, where the others are known
pub told_step : (words x sum rest total : ℕ) → sum ≡ told (words + told x) → told (words + (x + rest)) ≡ told total → told (sum + rest) ≡ told total
told_step words x sum rest total is before = grind (arith)

pub told_end : (words total : ℕ) → words ≤ 1025 → told (words + 0) ≡ told total → words ≡ told total
told_end words total few before = grind (arith)

pub told_both : (a b x y : ℕ) → a ≡ told x → b ≡ told y → told (a + b) ≡ told (x + y)
told_both a b x y h k = grind (arith)
