-- Programs with calls on regular objects, each below its source.
use Rattle.std.specs.Prelude.{ℕ, List, [], ◌∷◌}
use Rattle.mpl_ast.specs.declared.class.Item.{Item}
use Rattle.mpl_ast.specs.declared.flow.Flow.{Flow}
use Rattle.mpl_ast.specs.declared.program.Program.{Program}
use Rattle.mpl_ast.specs.declared.statement.Statement.{Statement}
use Rattle.mpl_mean.specs.SmallPrograms.ExpressionTrees.{number, variable, whole, term, times, over, sum, plus, minus, summed, multiplied, only, less, flow, call, result}
use Rattle.mpl_mean.specs.SmallPrograms.ProgramTrees.{int, named, declare, declare_as, assign, when, while, print, rtf, block, formal, returning, member, regular_class, main, program}

abbrev sq : ℕ → Item
sq line = member (returning int) "sq" (formal int "x" ∷ []) line (rtf line (flow (multiplied (times line (term (variable "x")) (variable "x")))) ∷ [])

abbrev add : ℕ → Item
add line = member (returning int) "add" (formal int "x" ∷ formal int "y" ∷ []) line (rtf line (flow (summed (plus line (sum (variable "x")) (term (variable "y"))))) ∷ [])

abbrev div : ℕ → Item
div line = member (returning int) "div" (formal int "x" ∷ formal int "y" ∷ []) line (rtf line (flow (multiplied (over line (term (variable "x")) (variable "y")))) ∷ [])

-- 1  regular mentat class calc {
-- 2    int sq(int x) { rtf(x * x); }
-- 3  };
-- 4  int main() {
-- 5    calc w;
-- 6    int a = w.sq(3);
-- 7    int b = w.sq(4);
-- 8    print(a + b);
-- 9  }
abbrev pub sum_of_squares : Program
sum_of_squares = program (regular_class "calc" (sq 2 ∷ []) ∷ main 9 statements ∷ []) where
  statements : List Statement
  statements =
      declare (named "calc") "w"
      ∷ declare_as int "a" (result (call 6 "w" "sq" (flow (only (number 3)) ∷ [])))
      ∷ declare_as int "b" (result (call 7 "w" "sq" (flow (only (number 4)) ∷ [])))
      ∷ print (summed (plus 8 (sum (variable "a")) (term (variable "b"))) ∷ [])
      ∷ []

-- 1  regular mentat class calc {
-- 2    int add(int x, int y) { rtf(x + y); }
-- 3    int fib(int n) {
-- 4      calc w;
-- 5      if (n < 2) { rtf(n); }
-- 6      else { int a = w.fib(n - 1); int b = w.fib(n - 2); rtf(w.add(a, b)); }
-- 7    }
-- 8  };
-- 9  int main() { calc w; int r = w.fib(10); print(r); }
abbrev pub fib_of_ten : Program
fib_of_ten = program (regular_class "calc" (add 2 ∷ member (returning int) "fib" (formal int "n" ∷ []) 7 fib ∷ []) ∷ main 9 statements ∷ []) where
  -- `w.fib(n - k)`
  earlier : ℕ → Flow
  earlier k = result (call 6 "w" "fib" (flow (summed (minus 6 (sum (variable "n")) (term (number k)))) ∷ []))

  two_calls : List Statement
  two_calls =
      declare_as int "a" (earlier 1)
      ∷ declare_as int "b" (earlier 2)
      ∷ rtf 6 (result (call 6 "w" "add" (flow (only (variable "a")) ∷ flow (only (variable "b")) ∷ [])))
      ∷ []

  fib : List Statement
  fib =
      declare (named "calc") "w"
      ∷ when (less 5 (sum (variable "n")) (sum (number 2))) (block (rtf 5 (flow (only (variable "n"))) ∷ [])) (block two_calls)
      ∷ []

  statements : List Statement
  statements =
      declare (named "calc") "w"
      ∷ declare_as int "r" (result (call 9 "w" "fib" (flow (only (number 10)) ∷ [])))
      ∷ print (only (variable "r") ∷ [])
      ∷ []

-- 1  regular mentat class calc {
-- 2    int sq(int x) { rtf(x * x); }
-- 3    int add(int x, int y) { rtf(x + y); }
-- 4  };
-- 5  int main() { calc w; int a = w.sq(3); int c = w.add(a, a); print(c); }
abbrev pub one_result_twice : Program
one_result_twice = program (regular_class "calc" (sq 2 ∷ add 3 ∷ []) ∷ main 5 statements ∷ []) where
  statements : List Statement
  statements =
      declare (named "calc") "w"
      ∷ declare_as int "a" (result (call 5 "w" "sq" (flow (only (number 3)) ∷ [])))
      ∷ declare_as int "c" (result (call 5 "w" "add" (flow (only (variable "a")) ∷ flow (only (variable "a")) ∷ [])))
      ∷ print (only (variable "c") ∷ [])
      ∷ []

-- 1  regular mentat class calc {
-- 2    int div(int x, int y) { rtf(x / y); }
-- 3  };
-- 4  int main() { calc w; int a = w.div(1, 0); int b = a; print(1); .. }
abbrev division_then : List Statement → Program
division_then others = program (regular_class "calc" (div 2 ∷ []) ∷ main 4 statements ∷ []) where
  statements : List Statement
  statements =
      declare (named "calc") "w"
      ∷ declare_as int "a" (result (call 4 "w" "div" (flow (only (number 1)) ∷ flow (only (number 0)) ∷ [])))
      ∷ declare_as int "b" (flow (only (variable "a")))
      ∷ print (only (number 1) ∷ [])
      ∷ others

abbrev pub unforced_division : Program
unforced_division = division_then []

-- the same with `print(b);` at its end
abbrev pub forced_division : Program
forced_division = division_then (print (only (variable "b") ∷ []) ∷ [])

-- 1  regular mentat class calc {
-- 2    int div(int x, int y) { rtf(x / y); }
-- 3    int big(int x) { rtf(9223372036854775807 + x); }
-- 4    int add(int x, int y) { rtf(x + y); }
-- 5  };
-- 6  int main() { calc w; int a = w.div(1, 0); int b = w.big(1); int c = w.add(b, a); print(c); }
abbrev pub leftmost_trap_wins : Program
leftmost_trap_wins = program (regular_class "calc" (div 2 ∷ big ∷ add 4 ∷ []) ∷ main 6 statements ∷ []) where
  big : Item
  big = member (returning int) "big" (formal int "x" ∷ []) 3 (rtf 3 (flow (summed (plus 3 (sum (number 9223372036854775807)) (term (variable "x"))))) ∷ [])

  statements : List Statement
  statements =
      declare (named "calc") "w"
      ∷ declare_as int "a" (result (call 6 "w" "div" (flow (only (number 1)) ∷ flow (only (number 0)) ∷ [])))
      ∷ declare_as int "b" (result (call 6 "w" "big" (flow (only (number 1)) ∷ [])))
      ∷ declare_as int "c" (result (call 6 "w" "add" (flow (only (variable "b")) ∷ flow (only (variable "a")) ∷ [])))
      ∷ print (only (variable "c") ∷ [])
      ∷ []

-- 1  regular mentat class calc {
-- 2    int f(int x) { rtf(x); int i = 0; while (i < 3) { i = i + 1; } }
-- 3  };
-- 4  int main() { calc w; int a = w.f(7); print(a); }
abbrev pub goes_on_after_its_result : Program
goes_on_after_its_result = program (regular_class "calc" (member (returning int) "f" (formal int "x" ∷ []) 2 f ∷ []) ∷ main 4 statements ∷ []) where
  f : List Statement
  f =
      rtf 2 (flow (only (variable "x")))
      ∷ declare_as int "i" (flow (only (number 0)))
      ∷ while (less 2 (sum (variable "i")) (sum (number 3)))
      (block (assign (whole "i") (flow (summed (plus 2 (sum (variable "i")) (term (number 1))))) ∷ []))
      ∷ []

  statements : List Statement
  statements =
      declare (named "calc") "w"
      ∷ declare_as int "a" (result (call 4 "w" "f" (flow (only (number 7)) ∷ [])))
      ∷ print (only (variable "a") ∷ [])
      ∷ []
