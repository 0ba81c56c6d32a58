-- Programs that tell in which order things are evaluated, and what is forced, each below its source.
use Rattle.std.specs.Prelude.{ℕ, List, [], ◌∷◌}
use Rattle.mpl_ast.specs.declared.class.Item.{Item}
use Rattle.mpl_ast.specs.declared.expression.Expression.{Expression}
use Rattle.mpl_ast.specs.declared.expression.Primary.{Primary}
use Rattle.mpl_ast.specs.declared.expression.Term.{Term}
use Rattle.mpl_ast.specs.declared.program.Program.{Program}
use Rattle.mpl_ast.specs.declared.statement.Statement.{Statement}
use Rattle.mpl_mean.specs.SmallPrograms.ExpressionTrees.{number, true, false, variable, whole, place, element, field_element, call_plain, parenthesized, term, over, modulo, sum_of, sum, plus, minus, summed, multiplied, only, less, and_equal, or_equal, flow, call, result}
use Rattle.mpl_mean.specs.SmallPrograms.ProgramTrees.{int, named, declare, declare_array, declare_as, assignment, assign, call_alone, block, for_local, print, rtf, give_back, formal, returning, void, member, array_field, struct, regular_class, persistent_class, function, main, program}

-- `1 / 0`
abbrev quotient : ℕ → Term
quotient line = over line (term (number 1)) (number 0)

abbrev only_quotient : ℕ → Expression
only_quotient line = multiplied (quotient line)

-- 1  regular mentat class calc {
-- 2    int div(int x, int y) { rtf(x / y); }
-- 3  };
-- 4  int main() { calc w; int a = w.div(1, 0); int b = (a); print(1); }
abbrev pub parentheses_force : Program
parentheses_force = program (regular_class "calc" (div ∷ []) ∷ main 4 statements ∷ []) where
  div : Item
  div = member (returning int) "div" (formal int "x" ∷ formal int "y" ∷ []) 2 (rtf 2 (flow (multiplied (over 2 (term (variable "x")) (variable "y")))) ∷ [])

  statements : List Statement
  statements =
      declare (named "calc") "w"
      ∷ declare_as int "a" (result (call 4 "w" "div" (flow (only (number 1)) ∷ flow (only (number 0)) ∷ [])))
      ∷ declare_as int "b" (flow (only (parenthesized (only (variable "a")))))
      ∷ print (only (number 1) ∷ [])
      ∷ []

-- 1  int main() {
-- 2    int a[2];
-- 3    a[5] = 1 / 0;
-- 4  }
abbrev pub right_side_first : Program
right_side_first = program (main 4 statements ∷ []) where
  statements : List Statement
  statements = declare_array int "a" 2 ∷ assign (element 3 "a" (only (number 5))) (flow (only_quotient 3)) ∷ []

-- 1  struct vec { int v[2]; };
-- 2  regular mentat class op {
-- 3    vec unit(int i) { vec s; s.v[i] = 1; rtf(s); }
-- 4  };
-- 5  int main() {
-- 6    op w;
-- 7    vec s = w.unit(2);
-- 8    print(s.v[1 / 0]);
-- 9  }
abbrev pub variable_before_index : Program
variable_before_index = program (
    struct "vec" (array_field int "v" 2 ∷ [])
    ∷ regular_class "op" (member (returning (named "vec")) "unit" (formal int "i" ∷ []) 3 unit ∷ [])
    ∷ main 9 statements
    ∷ []) where
      unit : List Statement
      unit =
          declare (named "vec") "s"
          ∷ assign (field_element 3 "s" "v" (only (variable "i"))) (flow (only (number 1)))
          ∷ rtf 3 (flow (only (variable "s")))
          ∷ []

      statements : List Statement
      statements =
          declare (named "op") "w"
          ∷ declare_as (named "vec") "s" (result (call 7 "w" "unit" (flow (only (number 2)) ∷ [])))
          ∷ print (only (place (field_element 8 "s" "v" (only_quotient 8))) ∷ [])
          ∷ []

-- 1  persistent mentat class buffer {
-- 2    void put(int x) { }
-- 3  };
-- 4  int main() { buffer b; b.put(1 / 0); }
abbrev pub receiver_first : Program
receiver_first = program (persistent_class "buffer" (member void "put" (formal int "x" ∷ []) 2 [] ∷ []) ∷ main 4 statements ∷ []) where
  statements : List Statement
  statements = declare (named "buffer") "b" ∷ call_alone (call 4 "b" "put" (flow (only_quotient 4) ∷ [])) ∷ []

-- 1  int main() { print(false && 1 / 0 == 0, true || 1 / 0 == 0); }
abbrev pub left_decides : Program
left_decides = program (main 1 statements ∷ []) where
  statements : List Statement
  statements = print (and_equal 1 false (sum_of (quotient 1)) (sum (number 0)) ∷ or_equal 1 true (sum_of (quotient 1)) (sum (number 0)) ∷ []) ∷ []

-- 1  int main() {
-- 2    int x = 1;
-- 3    { int x = 2; x = 3; }
-- 4    for (int x = 5; x < 6; x = x + 1) { }
-- 5    print(x);
-- 6  }
abbrev pub inner_names : Program
inner_names = program (main 6 statements ∷ []) where
  statements : List Statement
  statements =
      declare_as int "x" (flow (only (number 1)))
      ∷ block (declare_as int "x" (flow (only (number 2))) ∷ assign (whole "x") (flow (only (number 3))) ∷ [])
      ∷ for_local int "x" (flow (only (number 5))) (less 4 (sum (variable "x")) (sum (number 6)))
      (assignment (whole "x") (flow (summed (plus 4 (sum (variable "x")) (term (number 1)))))) (block [])
      ∷ print (only (variable "x") ∷ [])
      ∷ []

-- 1  int twice(int x) { return x + x; }
-- 2  int main() { print(twice(twice(2))); return 0; print(1); }
abbrev pub function_in_function : Program
function_in_function = program (function int "twice" (formal int "x" ∷ []) 1 twice ∷ main 2 statements ∷ []) where
  twice : List Statement
  twice = give_back (summed (plus 1 (sum (variable "x")) (term (variable "x")))) ∷ []

  statements : List Statement
  statements =
      print (only (call_plain "twice" (only (call_plain "twice" (only (number 2) ∷ [])) ∷ [])) ∷ [])
      ∷ give_back (only (number 0))
      ∷ print (only (number 1) ∷ [])
      ∷ []

-- 1  int main() { print((0 - 7) / 2, (0 - 7) % 2); }
abbrev pub quotient_to_zero : Program
quotient_to_zero = program (main 1 statements ∷ []) where
  minus_seven : Primary
  minus_seven = parenthesized (summed (minus 1 (sum (number 0)) (term (number 7))))

  statements : List Statement
  statements = print (multiplied (over 1 (term minus_seven) (number 2)) ∷ multiplied (modulo 1 (term minus_seven) (number 2)) ∷ []) ∷ []
