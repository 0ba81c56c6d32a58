-- The scope behind statements.
use Rattle.std.specs.Prelude.{ℕ, ◌-◌, drop, length}
use Rattle.mpl_mean.specs.Plain.Scopes.{Env, behind, with_scope}
use Rattle.mpl_mean.specs.Plain.Stmt.{NoStmt, MoreStmts, Stmts}

-- what surrounds what follows all of them
abbrev pub behind_all : Stmts → Env → Env
behind_all NoStmt env = env
behind_all (MoreStmts first others) env = behind_all others (behind first env)

-- only so many of the oldest variables stay
abbrev pub left : ℕ → Env → Env
left count env = with_scope env (drop (length env.scope - count) env.scope)
