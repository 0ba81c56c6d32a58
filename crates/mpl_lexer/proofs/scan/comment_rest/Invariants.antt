use Rattle.std.proofs.Common.{ℕ, ◌+◌, ◌<◌}
use Rattle.mpl_lexer.proofs.Comments.{NoEnd}
use Rattle.mpl_lexer.proofs.scan.comment_rest.Given as goal

-- no comment ends before the byte at i
abbrev pub invariant-loop-i : goal.invariant-loop-i
invariant-loop-i l = (k : ℕ) → k + 1 < l.i → NoEnd l.bytes k
