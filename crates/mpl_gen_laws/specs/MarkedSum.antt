-- The program whose `main` prints the sum of two squares, with numbers for the two uses of results.
use Rattle.std.specs.Prelude.{ℕ, Bool, ◌==◌, ◌||◌, List, [], ◌∷◌, pos}
use Rattle.mpl_ast.specs.declared.expression.Place.{roll-Place}
use Rattle.mpl_ast.specs.declared.expression.Primary.{Primary}
use Rattle.mpl_ast.specs.declared.expression.Conjunction.TheOpen.{Place-F}
use Rattle.mpl_ast.specs.declared.expression.Target.TheVariants as target
use Rattle.mpl_ast.specs.declared.class.Item.{Item}
use Rattle.mpl_ast.specs.declared.place.At.{At}
use Rattle.mpl_ast.specs.declared.program.Program.{Program}
use Rattle.mpl_ast.specs.declared.statement.Statement.{Statement}
use Rattle.mpl_mean.specs.SmallPrograms.ExpressionTrees.{call, flow, multiplied, name, number, only, place, plus, result, sum, summed, term, times, variable}
use Rattle.mpl_mean.specs.SmallPrograms.ProgramTrees.{declare, declare_as, formal, int, main, member, named, print, program, regular_class, returning, rtf}
use Prim.Native.String.{String}
use Rattle.mdf_code.specs.declared.instr.Instr.{Instr}
use Rattle.mdf_code.specs.declared.instr.Instr.TheVariants as instr

-- a node on line 8
abbrev node : ℕ → At
node id = record { span = record { from = 0; to = 0 }; line = 8; id = id }

-- the use of a variable, by the number of its node
abbrev use_of : ℕ → String → Primary
use_of id x = place (roll-Place (Place-F.Whole (node id) (target.Variable (node id) (name x))))

abbrev sq : Item
sq = member (returning int) "sq" (formal int "x" ∷ []) 2 (rtf 2 (flow (multiplied (times 2 (term (variable "x")) (variable "x")))) ∷ [])

abbrev pub marked_sum : Program
marked_sum = program (regular_class "calc" (sq ∷ []) ∷ main 9 statements ∷ []) where
  statements : List Statement
  statements =
      declare (named "calc") "w"
      ∷ declare_as int "a" (result (call 6 "w" "sq" (flow (only (number 3)) ∷ [])))
      ∷ declare_as int "b" (result (call 7 "w" "sq" (flow (only (number 4)) ∷ [])))
      ∷ print (summed (plus 8 (sum (use_of 1 "a")) (term (use_of 2 "b"))) ∷ [])
      ∷ []

-- the two uses of results
abbrev pub results : ℕ → Bool
results id = (id == 1) || (id == 2)

-- each of them is needed before it is loaded
abbrev pub code_of_main : List Instr
code_of_main =
    instr.Zero 0
    ∷ instr.Push (pos 3) ∷ instr.ArgWords 1 ∷ instr.Send 0 1 ∷ instr.SetVariable 1
    ∷ instr.Push (pos 4) ∷ instr.ArgWords 1 ∷ instr.Send 0 1 ∷ instr.SetVariable 2
    ∷ instr.Need 1 ∷ instr.Load 1 0 1 ∷ instr.Need 2 ∷ instr.Load 2 0 1 ∷ instr.Add 8 ∷ instr.Print (105 ∷ [])
    ∷ instr.End 9 ∷ []

-- formals of the member are known
abbrev pub code_of_square : List Instr
code_of_square = instr.Load 0 0 1 ∷ instr.Load 0 0 1 ∷ instr.Mul 2 ∷ instr.ArgWords 1 ∷ instr.Reply 2 ∷ instr.End 2 ∷ []
