-- What the writing of a statement comes to: its code behind what was there, and the scope behind it.
use Rattle.std.specs.Prelude.{◌≡◌, ◌++◌}
use Rattle.mpl_mean.specs.Plain.Stmt.{Stmt, Stmts}
use Rattle.mpl_mean.specs.Plain.Scopes.{Env, behind}
use Rattle.mpl_body_code.specs.Codes.{Code, statement_code, statements_code}
use Rattle.mpl_locals.specs.Behind.{behind_all}

pub record Wrote (env : Env) (tree : Stmt) (before after : Code) (next : Env) : Type 0 where
  pub code : after ≡ before ++ statement_code env tree
  pub scope : next ≡ behind tree env

pub record WroteAll (env : Env) (trees : Stmts) (before after : Code) (next : Env) : Type 0 where
  pub code : after ≡ before ++ statements_code env trees
  pub scope : next ≡ behind_all trees env

-- the scope stays
pub record WroteCode (env : Env) (code before after : Code) (next : Env) : Type 0 where
  pub code_is : after ≡ before ++ code
  pub same : next ≡ env
