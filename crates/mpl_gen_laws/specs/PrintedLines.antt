-- Each line that a program prints has a value: the grammar asks for one at least.
use Rattle.std.specs.Prelude.{List, [], ◌∷◌}
use Rattle.mpl_ast.specs.declared.class.Item.{Item}
use Rattle.mpl_ast.specs.declared.class.Item.TheVariants as item
use Rattle.mpl_ast.specs.declared.program.Declaration.{Declaration}
use Rattle.mpl_ast.specs.declared.program.Declaration.TheVariants as declaration
use Rattle.mpl_ast.specs.declared.program.Program.{Program}
use Rattle.mpl_mean.specs.Laws.Sizes.{Every}
use Rattle.mpl_mean.specs.Plain.Expr.{Expr}
use Rattle.mpl_mean.specs.Plain.Stmt.{Stmt, Stmts, stmts_of}
use Rattle.mpl_mean.specs.Plain.Stmt as s

abbrev pub PrintsValues : List Expr → Type 0
PrintsValues [] = ⊥
PrintsValues (expr ∷ exprs) = Unit {0}

abbrev mutual
  pub Prints : Stmt → Type 0
  Prints s.Nothing = Unit {0}
  Prints (s.Within stmts) = AllPrint stmts
  Prints (s.Locals type locals) = Unit {0}
  Prints (s.Assigns at place value) = Unit {0}
  Prints (s.Calls call) = Unit {0}
  Prints (s.Creates at target) = Unit {0}
  Prints (s.When test then_part) = Prints then_part
  Prints (s.Branches test then_part else_part) = Prints then_part × Prints else_part
  Prints (s.Repeats test body) = Prints body
  Prints (s.Loops first test step body) = Prints first × Prints step × Prints body
  Prints (s.Prints at arguments) = PrintsValues arguments
  Prints (s.Gives at value) = Unit {0}
  Prints (s.Returns at value) = Unit {0}

  pub AllPrint : Stmts → Type 0
  AllPrint s.NoStmt = Unit {0}
  AllPrint (s.MoreStmts stmt stmts) = Prints stmt × AllPrint stmts

abbrev pub ItemPrints : Item → Type 0
ItemPrints (item.Member at result name formals body) = AllPrint (stmts_of body)
ItemPrints other = Unit {0}

abbrev pub DeclarationPrints : Declaration → Type 0
DeclarationPrints (declaration.Struct at line name fields) = Unit {0}
DeclarationPrints (declaration.Class at line kind name items) = Every ItemPrints items
DeclarationPrints (declaration.Function at result name formals body) = AllPrint (stmts_of body)

-- in each body of the program
abbrev pub LinesHaveValues : Program → Type 0
LinesHaveValues p = Every DeclarationPrints p.declarations
