-- The locals that statements declare.
use Rattle.std.specs.Prelude.{List, [], ◌++◌, map, drop}
use Rattle.mpl_mean.specs.TypeRules.Scopes.{Environment}
use Rattle.mpl_mean.specs.TypeRules.StatementNodes.{declared_local}
use Rattle.mpl_mean.specs.Plain.Stmt.{Stmt, Stmts}
use Rattle.mpl_mean.specs.Plain.Stmt as stmt
use Rattle.mpl_mean.specs.TypeRules.Types.{Declared}

-- without the innermost block
abbrev pub outer : Environment → Environment
outer environment = record environment { blocks = drop 1 environment.blocks }

-- ---- the locals of statements

abbrev mutual
  pub stmt_locals : Stmt → List Declared
  stmt_locals stmt.Nothing = []
  stmt_locals (stmt.Within stmts) = stmts_locals stmts
  stmt_locals (stmt.Locals type locals) = map (declared_local type) locals
  stmt_locals (stmt.Assigns at target value) = []
  stmt_locals (stmt.Calls call) = []
  stmt_locals (stmt.Creates at target) = []
  stmt_locals (stmt.When test then_part) = stmt_locals then_part
  stmt_locals (stmt.Branches test then_part else_part) = stmt_locals then_part ++ stmt_locals else_part
  stmt_locals (stmt.Repeats test body) = stmt_locals body
  stmt_locals (stmt.Loops start test step body) = stmt_locals start ++ (stmt_locals step ++ stmt_locals body)
  stmt_locals (stmt.Prints at arguments) = []
  stmt_locals (stmt.Gives at value) = []
  stmt_locals (stmt.Returns at value) = []

  pub stmts_locals : Stmts → List Declared
  stmts_locals stmt.NoStmt = []
  stmts_locals (stmt.MoreStmts first others) = stmt_locals first ++ stmts_locals others
