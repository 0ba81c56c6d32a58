-- Programs with structs, input and loops, each below its source.
use Prim.Native.String.{String}
use Rattle.std.specs.Prelude.{ℕ, List, [], ◌∷◌}
use Rattle.mpl_ast.specs.declared.expression.Expression.{Expression}
use Rattle.mpl_ast.specs.declared.expression.Place.{Place}
use Rattle.mpl_ast.specs.declared.expression.Primary.{Primary}
use Rattle.mpl_ast.specs.declared.flow.Assignment.{Assignment}
use Rattle.mpl_ast.specs.declared.flow.Flow.{Flow}
use Rattle.mpl_ast.specs.declared.program.Program.{Program}
use Rattle.mpl_ast.specs.declared.statement.Statement.{Statement}
use Rattle.mpl_mean.specs.SmallPrograms.ExpressionTrees.{number, true, variable, place, input, whole, field_element, term, times, sum, plus, summed, only, less, flow, call, result}
use Rattle.mpl_mean.specs.SmallPrograms.ProgramTrees.{int, named, declare, declare_as, assignment, assign, while, for, print, rtf, block, formal, returning, member, array_field, struct, regular_class, main, program}

abbrev callees_four : Expression
callees_four = less 1 (sum (variable "i")) (sum (number 4))

abbrev one_more : Assignment
one_more = assignment (whole "i") (flow (summed (plus 1 (sum (variable "i")) (term (number 1)))))

abbrev zero : Flow
zero = flow (only (number 0))

abbrev assign_one_more : Statement
assign_one_more = assign (whole "i") (flow (summed (plus 1 (sum (variable "i")) (term (number 1)))))

-- the element i of the field of a struct
abbrev element_at_i : ℕ → String → Place
element_at_i line x = field_element line x "v" (only (variable "i"))

abbrev at_i : ℕ → String → Primary
at_i line x = place (element_at_i line x)

-- 1  struct vec { int v[4]; };
-- 2  regular mentat class op {
-- 3    int dot(vec a, vec b) {
-- 4      int s = 0;
-- 5      int i = 0;
-- 6      for (i = 0; i < 4; i = i + 1) { s = s + a.v[i] * b.v[i]; }
-- 7      rtf(s);
-- 8    }
-- 9  };
-- 10 int main() {
-- 11   op w; vec a; vec b; int i = 0;
-- 12   while (i < 4) { a.v[i] = input(); i = i + 1; }
-- 13   for (i = 0; i < 4; i = i + 1) { b.v[i] = input(); }
-- 14   int d = w.dot(a, b);
-- 15   int e = w.dot(b, b);
-- 16   print(d, e);
-- 17 }
abbrev pub products_of_input : Program
products_of_input = program (
    struct "vec" (array_field int "v" 4 ∷ [])
    ∷ regular_class "op" (member (returning int) "dot" (formal (named "vec") "a" ∷ formal (named "vec") "b" ∷ []) 8 dot ∷ [])
    ∷ main 17 statements
    ∷ []) where
      dot : List Statement
      dot =
          declare_as int "s" zero
          ∷ declare_as int "i" zero
          ∷ for (assignment (whole "i") zero) callees_four one_more
          (block (assign (whole "s") (flow (summed (plus 6 (sum (variable "s")) (times 6 (term (at_i 6 "a")) (at_i 6 "b"))))) ∷ []))
          ∷ rtf 7 (flow (only (variable "s")))
          ∷ []

      statements : List Statement
      statements =
          declare (named "op") "w"
          ∷ declare (named "vec") "a"
          ∷ declare (named "vec") "b"
          ∷ declare_as int "i" zero
          ∷ while callees_four (block (assign (element_at_i 12 "a") (flow (only (input 12))) ∷ assign_one_more ∷ []))
          ∷ for (assignment (whole "i") zero) callees_four one_more (block (assign (element_at_i 13 "b") (flow (only (input 13))) ∷ []))
          ∷ declare_as int "d" (result (call 14 "w" "dot" (flow (only (variable "a")) ∷ flow (only (variable "b")) ∷ [])))
          ∷ declare_as int "e" (result (call 15 "w" "dot" (flow (only (variable "b")) ∷ flow (only (variable "b")) ∷ [])))
          ∷ print (only (variable "d") ∷ only (variable "e") ∷ [])
          ∷ []

-- 1  regular mentat class calc {
-- 2    int spin(int x) { while (true) { x = x; } rtf(x); }
-- 3  };
-- 4  int main() { calc w; int a = w.spin(1); print(1); }
abbrev pub endless : Program
endless = program (regular_class "calc" (member (returning int) "spin" (formal int "x" ∷ []) 2 spin ∷ []) ∷ main 4 statements ∷ []) where
  spin : List Statement
  spin = while (only true) (block (assign (whole "x") (flow (only (variable "x"))) ∷ [])) ∷ rtf 2 (flow (only (variable "x"))) ∷ []

  statements : List Statement
  statements =
      declare (named "calc") "w"
      ∷ declare_as int "a" (result (call 4 "w" "spin" (flow (only (number 1)) ∷ [])))
      ∷ print (only (number 1) ∷ [])
      ∷ []
