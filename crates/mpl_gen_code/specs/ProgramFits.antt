-- What is asked of the bodies of a program, so that its code finds what it takes: the type rules give it.
use Rattle.std.specs.Prelude.{ℕ, Bool, codes, List}
use Rattle.mpl_ast.specs.declared.program.Declaration.{Declaration}
use Rattle.mpl_mean.specs.Meaning.Layout.{Class, Function, Member, function_named}
use Rattle.mpl_mean.specs.Plain.Stmt.{stmts_of}
use Rattle.mpl_gen_code.specs.Fits.{FunctionIs, MemberIs, StmtsFit, function_may, main_may, member_may}
use Rattle.mpl_gen_code.specs.ProgramImage.{function_env, main_env, main_stmts, member_env}

pub record ProgramFits (ds : List Declaration) (marks : ℕ → Bool) : Type 0 where
  pub main : StmtsFit main_may (main_env ds marks) (main_stmts (function_named (codes "main") ds))
  pub function : (name : List ℕ) (f : Function) → FunctionIs ds name f → StmtsFit function_may (function_env ds marks f) (stmts_of f.body)
  pub member : (class : Class) (m : Member) → MemberIs ds class m → StmtsFit (member_may ds class m) (member_env ds marks class m) (stmts_of m.body)
