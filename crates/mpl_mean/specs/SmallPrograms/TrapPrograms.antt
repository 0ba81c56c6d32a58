-- Programs that come upon a trap, each below its source.
use Rattle.std.specs.Prelude.{List, [], ◌∷◌}
use Rattle.mpl_ast.specs.declared.class.Item.{Item}
use Rattle.mpl_ast.specs.declared.program.Program.{Program}
use Rattle.mpl_ast.specs.declared.statement.Statement.{Statement}
use Rattle.mpl_mean.specs.SmallPrograms.ExpressionTrees.{number, variable, input, element, call_plain, sum, plus, term, summed, only, flow, call, result}
use Rattle.mpl_mean.specs.SmallPrograms.ProgramTrees.{int, named, declare, declare_array, declare_as, assign, print, rtf, formal, returning, member, regular_class, persistent_class, function, main, program}

-- 1  int main() {
-- 2    print(1);
-- 3    print(9223372036854775807 + 1);
-- 4    print(2);
-- 5  }
abbrev pub too_large : Program
too_large = program (main 5 statements ∷ []) where
  statements : List Statement
  statements =
      print (only (number 1) ∷ [])
      ∷ print (summed (plus 3 (sum (number 9223372036854775807)) (term (number 1))) ∷ [])
      ∷ print (only (number 2) ∷ [])
      ∷ []

-- 1  int main() { int a[3]; a[3] = 1; }
abbrev pub index_outside : Program
index_outside = program (main 1 statements ∷ []) where
  statements : List Statement
  statements = declare_array int "a" 3 ∷ assign (element 1 "a" (only (number 3))) (flow (only (number 1))) ∷ []

-- 1  persistent mentat class buffer {
-- 2    int get() { rtf(1); }
-- 3  };
-- 4  int main() { buffer b; int x = b.get(); }
abbrev pub no_object : Program
no_object = program (persistent_class "buffer" (get ∷ []) ∷ main 4 statements ∷ []) where
  get : Item
  get = member (returning int) "get" [] 2 (rtf 2 (flow (only (number 1))) ∷ [])

  statements : List Statement
  statements = declare (named "buffer") "b" ∷ declare_as int "x" (result (call 4 "b" "get" [])) ∷ []

-- 1  int main() { print(input()); }
abbrev pub asks_for_input : Program
asks_for_input = program (main 1 (print (only (input 1) ∷ []) ∷ []) ∷ [])

-- 1  regular mentat class calc {
-- 2    int f(int x) {
-- 3      rtf(1);
-- 4      rtf(2);
-- 5    }
-- 6  };
-- 7  int main() { calc w; int a = w.f(0); print(a); }
abbrev calling : List Statement → Program
calling f = program (regular_class "calc" (member (returning int) "f" (formal int "x" ∷ []) 5 f ∷ []) ∷ main 7 statements ∷ []) where
  statements : List Statement
  statements =
      declare (named "calc") "w"
      ∷ declare_as int "a" (result (call 7 "w" "f" (flow (only (number 0)) ∷ [])))
      ∷ print (only (variable "a") ∷ [])
      ∷ []

abbrev pub second_result : Program
second_result = calling (rtf 3 (flow (only (number 1))) ∷ rtf 4 (flow (only (number 2))) ∷ [])

-- the same without the lines 3 and 4
abbrev pub no_result : Program
no_result = calling []

-- 1  int f(int x) {
-- 2  }
-- 3  int main() { print(f(1)); }
abbrev pub function_without_result : Program
function_without_result = program (function int "f" (formal int "x" ∷ []) 2 [] ∷ main 3 statements ∷ []) where
  statements : List Statement
  statements = print (only (call_plain "f" (only (number 1) ∷ [])) ∷ []) ∷ []
