use Rattle.std.proofs.Common.{◌≡◌, ◌≤◌, ◌+◌, drop, map}
use Rattle.mpl_mean.specs.Plain.Stmt.{in_turn, stmt_of}
use Rattle.mpl_mean.specs.TypeRules.Types.{words_of_variables}
use Rattle.mpl_scope.specs.Locals.{stmts_locals}
use Rattle.mpl_scope.specs.Words.{told}
use Rattle.mpl_scope.proofs.words.+words.Given as goal

-- those so far and those that are left are all
abbrev pub invariant-words_of_statements-loop-statement : goal.invariant-words_of_statements-loop-statement
invariant-words_of_statements-loop-statement l = record {
  few : l.words ≤ 1025;
  all : told (l.words + words_of_variables l.outline (stmts_locals (in_turn (map stmt_of (drop l.statement-index l.statements))))) ≡ told (words_of_variables l.outline (stmts_locals (in_turn (map stmt_of l.statements))));
}
