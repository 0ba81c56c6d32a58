-- Sources of small programs, line by line. Between them they have every kind of statement.
use Rattle.std.specs.Prelude.{ℕ, List, [], ◌∷◌}
use Rattle.mpl_mean.specs.SmallPrograms.WorkedYields.{text}

-- ---- calls on regular objects, and on one that is created

abbrev pub sum_of_squares : List ℕ
sum_of_squares = text (
    "regular mentat class calc {"
    ∷ "  int sq(int x) { rtf(x * x); }"
    ∷ "};"
    ∷ "int main() {"
    ∷ "  calc w;"
    ∷ "  int a = w.sq(3);"
    ∷ "  int b = w.sq(4);"
    ∷ "  print(a + b);"
    ∷ "}"
    ∷ [])

abbrev pub fib_of_ten : List ℕ
fib_of_ten = text (
    "regular mentat class calc {"
    ∷ "  int add(int x, int y) { rtf(x + y); }"
    ∷ "  int fib(int n) {"
    ∷ "    calc w;"
    ∷ "    if (n < 2) { rtf(n); }"
    ∷ "    else { int a = w.fib(n - 1); int b = w.fib(n - 2); rtf(w.add(a, b)); }"
    ∷ "  }"
    ∷ "};"
    ∷ "int main() { calc w; int r = w.fib(10); print(r); }"
    ∷ [])

abbrev pub one_result_twice : List ℕ
one_result_twice = text (
    "regular mentat class calc {"
    ∷ "  int sq(int x) { rtf(x * x); }"
    ∷ "  int add(int x, int y) { rtf(x + y); }"
    ∷ "};"
    ∷ "int main() { calc w; int a = w.sq(3); int c = w.add(a, a); print(c); }"
    ∷ [])

abbrev pub unforced_division : List ℕ
unforced_division = text (
    "regular mentat class calc {"
    ∷ "  int div(int x, int y) { rtf(x / y); }"
    ∷ "};"
    ∷ "int main() { calc w; int a = w.div(1, 0); int b = a; print(1); }"
    ∷ [])

abbrev pub forced_division : List ℕ
forced_division = text (
    "regular mentat class calc {"
    ∷ "  int div(int x, int y) { rtf(x / y); }"
    ∷ "};"
    ∷ "int main() { calc w; int a = w.div(1, 0); int b = a; print(1); print(b); }"
    ∷ [])

abbrev pub leftmost_trap_wins : List ℕ
leftmost_trap_wins = text (
    "regular mentat class calc {"
    ∷ "  int div(int x, int y) { rtf(x / y); }"
    ∷ "  int big(int x) { rtf(9223372036854775807 + x); }"
    ∷ "  int add(int x, int y) { rtf(x + y); }"
    ∷ "};"
    ∷ "int main() { calc w; int a = w.div(1, 0); int b = w.big(1); int c = w.add(b, a); print(c); }"
    ∷ [])

abbrev pub goes_on_after_its_result : List ℕ
goes_on_after_its_result = text (
    "regular mentat class calc {"
    ∷ "  int f(int x) { rtf(x); int i = 0; while (i < 3) { i = i + 1; } }"
    ∷ "};"
    ∷ "int main() { calc w; int a = w.f(7); print(a); }"
    ∷ [])

abbrev pub puts : List ℕ
puts = text (
    "persistent mentat class buffer {"
    ∷ "  int v; bool full;"
    ∷ "  void put(int x) { v = x; full = true; }"
    ∷ "  int get() { full = false; rtf(v); }"
    ∷ "  select {"
    ∷ "    priority 1 : guard (!full) accept put;"
    ∷ "    priority 1 : guard (full) accept get;"
    ∷ "  }"
    ∷ "};"
    ∷ "int main() {"
    ∷ "  buffer b;"
    ∷ "  b.create();"
    ∷ "  b.put(7);"
    ∷ "  print(1);"
    ∷ "}"
    ∷ [])

-- ---- one trap each, at its line

abbrev pub too_large : List ℕ
too_large = text (
    "int main() {"
    ∷ "  print(1);"
    ∷ "  print(9223372036854775807 + 1);"
    ∷ "  print(2);"
    ∷ "}"
    ∷ [])

abbrev pub index_outside : List ℕ
index_outside = text ("int main() { int a[3]; a[3] = 1; }" ∷ [])

abbrev pub no_object : List ℕ
no_object = text (
    "persistent mentat class buffer {"
    ∷ "  int get() { rtf(1); }"
    ∷ "};"
    ∷ "int main() { buffer b; int x = b.get(); }"
    ∷ [])

abbrev pub asks_for_input : List ℕ
asks_for_input = text ("int main() { print(input()); }" ∷ [])

abbrev pub second_result : List ℕ
second_result = text (
    "regular mentat class calc {"
    ∷ "  int f(int x) {"
    ∷ "    rtf(1);"
    ∷ "    rtf(2);"
    ∷ "  }"
    ∷ "};"
    ∷ "int main() { calc w; int a = w.f(0); print(a); }"
    ∷ [])

abbrev pub no_result : List ℕ
no_result = text (
    "regular mentat class calc {"
    ∷ "  int f(int x) {"
    ∷ "  }"
    ∷ "};"
    ∷ "int main() { calc w; int a = w.f(0); print(a); }"
    ∷ [])

abbrev pub function_without_result : List ℕ
function_without_result = text (
    "int f(int x) {"
    ∷ "}"
    ∷ "int main() { print(f(1)); }"
    ∷ [])

-- ---- what comes first

abbrev pub parentheses_force : List ℕ
parentheses_force = text (
    "regular mentat class calc {"
    ∷ "  int div(int x, int y) { rtf(x / y); }"
    ∷ "};"
    ∷ "int main() { calc w; int a = w.div(1, 0); int b = (a); print(1); }"
    ∷ [])

abbrev pub right_side_first : List ℕ
right_side_first = text (
    "int main() {"
    ∷ "  int a[2];"
    ∷ "  a[5] = 1 / 0;"
    ∷ "}"
    ∷ [])

abbrev pub variable_before_index : List ℕ
variable_before_index = text (
    "struct vec { int v[2]; };"
    ∷ "regular mentat class op {"
    ∷ "  vec unit(int i) { vec s; s.v[i] = 1; rtf(s); }"
    ∷ "};"
    ∷ "int main() {"
    ∷ "  op w;"
    ∷ "  vec s = w.unit(2);"
    ∷ "  print(s.v[1 / 0]);"
    ∷ "}"
    ∷ [])

abbrev pub receiver_first : List ℕ
receiver_first = text (
    "persistent mentat class buffer {"
    ∷ "  void put(int x) { }"
    ∷ "};"
    ∷ "int main() { buffer b; b.put(1 / 0); }"
    ∷ [])

abbrev pub left_decides : List ℕ
left_decides = text ("int main() { print(false && 1 / 0 == 0, true || 1 / 0 == 0); }" ∷ [])

abbrev pub inner_names : List ℕ
inner_names = text (
    "int main() {"
    ∷ "  int x = 1;"
    ∷ "  { int x = 2; x = 3; }"
    ∷ "  for (int x = 5; x < 6; x = x + 1) { }"
    ∷ "  print(x);"
    ∷ "}"
    ∷ [])

abbrev pub function_in_function : List ℕ
function_in_function = text (
    "int twice(int x) { return x + x; }"
    ∷ "int main() { print(twice(twice(2))); return 0; print(1); }"
    ∷ [])

abbrev pub quotient_to_zero : List ℕ
quotient_to_zero = text ("int main() { print((0 - 7) / 2, (0 - 7) % 2); }" ∷ [])

-- ---- structs, input, loops and branches

abbrev pub products_of_input : List ℕ
products_of_input = text (
    "struct vec { int v[4]; };"
    ∷ "regular mentat class op {"
    ∷ "  int dot(vec a, vec b) {"
    ∷ "    int s = 0;"
    ∷ "    int i = 0;"
    ∷ "    for (i = 0; i < 4; i = i + 1) { s = s + a.v[i] * b.v[i]; }"
    ∷ "    rtf(s);"
    ∷ "  }"
    ∷ "};"
    ∷ "int main() {"
    ∷ "  op w; vec a; vec b; int i = 0;"
    ∷ "  while (i < 4) { a.v[i] = input(); i = i + 1; }"
    ∷ "  for (i = 0; i < 4; i = i + 1) { b.v[i] = input(); }"
    ∷ "  int d = w.dot(a, b);"
    ∷ "  int e = w.dot(b, b);"
    ∷ "  print(d, e);"
    ∷ "}"
    ∷ [])

abbrev pub endless : List ℕ
endless = text (
    "regular mentat class calc {"
    ∷ "  int spin(int x) { while (true) { x = x; } rtf(x); }"
    ∷ "};"
    ∷ "int main() { calc w; int a = w.spin(1); print(1); }"
    ∷ [])

-- each `else` goes to the nearest `if`, and parts of a `for` may be absent
abbrev pub nearest_if : List ℕ
nearest_if = text (
    "int sign(int x) {"
    ∷ "  if (x < 1) if (x < 0) return -1; else return 0;"
    ∷ "  if (x == 0) ; else return 1;"
    ∷ "}"
    ∷ "int main() {"
    ∷ "  for (; false;) ;"
    ∷ "  print(sign(-7), sign(0), sign(9));"
    ∷ "  return;"
    ∷ "}"
    ∷ [])
