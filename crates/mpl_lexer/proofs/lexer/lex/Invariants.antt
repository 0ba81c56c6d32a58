use Rattle.std.proofs.Common.{◌-◌, length}
use Rattle.mpl_lexer.proofs.Steps.{LoopKeeps}
use Rattle.mpl_lexer.proofs.lexer.lex.Given as goal

abbrev pub invariant-loop-at : goal.invariant-loop-at
invariant-loop-at l = LoopKeeps l.source l.at l.line l.list

abbrev pub decreases-loop-at : goal.decreases-loop-at
decreases-loop-at l = length l.initial.source - l.at
