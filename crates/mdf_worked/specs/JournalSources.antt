-- Sources of small programs with persistent objects, line by line.
use Rattle.std.specs.Prelude.{ℕ, List, [], ◌∷◌}
use Rattle.mpl_mean.specs.SmallPrograms.WorkedYields.{text}

-- a get that waits until something was put
abbrev pub buffer : List ℕ
buffer = text (
    "persistent mentat class buffer {"
    ∷ "  int v; bool full;"
    ∷ "  void put(int x) { v = x; full = true; }"
    ∷ "  int get() { full = false; rtf(v); }"
    ∷ "  select {"
    ∷ "    priority 1 : guard (!full) accept put;"
    ∷ "    priority 1 : guard (full) accept get;"
    ∷ "  }"
    ∷ "};"
    ∷ "int main() {"
    ∷ "  buffer b;"
    ∷ "  b.create();"
    ∷ "  int x = b.get();"
    ∷ "  b.put(7);"
    ∷ "  print(x);"
    ∷ "}"
    ∷ [])

-- a get for which nothing is put
abbrev pub lonely_get : List ℕ
lonely_get = text (
    "persistent mentat class buffer {"
    ∷ "  int v; bool full;"
    ∷ "  void put(int x) { v = x; full = true; }"
    ∷ "  int get() { full = false; rtf(v); }"
    ∷ "  select {"
    ∷ "    priority 1 : guard (!full) accept put;"
    ∷ "    priority 1 : guard (full) accept get;"
    ∷ "  }"
    ∷ "};"
    ∷ "int main() {"
    ∷ "  buffer b;"
    ∷ "  b.create();"
    ∷ "  int x = b.get();"
    ∷ "  print(x);"
    ∷ "}"
    ∷ [])

-- a put for which there is no room
abbrev pub two_puts : List ℕ
two_puts = text (
    "persistent mentat class buffer {"
    ∷ "  int v; bool full;"
    ∷ "  void put(int x) { v = x; full = true; }"
    ∷ "  int get() { full = false; rtf(v); }"
    ∷ "  select {"
    ∷ "    priority 1 : guard (!full) accept put;"
    ∷ "    priority 1 : guard (full) accept get;"
    ∷ "  }"
    ∷ "};"
    ∷ "int main() {"
    ∷ "  buffer b;"
    ∷ "  b.create();"
    ∷ "  b.put(7);"
    ∷ "  b.put(8);"
    ∷ "}"
    ∷ [])

-- calls of different priorities
abbrev pub desk : List ℕ
desk = text (
    "persistent mentat class desk {"
    ∷ "  bool ready; int log;"
    ∷ "  void go() { ready = true; }"
    ∷ "  int lo() { log = log * 10 + 1; rtf(log); }"
    ∷ "  int hi() { log = log * 10 + 9; rtf(log); }"
    ∷ "  select {"
    ∷ "    priority 1 : guard (ready) accept lo;"
    ∷ "    priority 9 : guard (ready) accept hi;"
    ∷ "    priority 0 : accept go;"
    ∷ "  }"
    ∷ "};"
    ∷ "int main() {"
    ∷ "  desk d;"
    ∷ "  d.create();"
    ∷ "  int a = d.lo();"
    ∷ "  int b = d.hi();"
    ∷ "  d.go();"
    ∷ "  print(a, b);"
    ∷ "}"
    ∷ [])

-- a guard that traps while n is 0
abbrev pub cell : List ℕ
cell = text (
    "persistent mentat class cell {"
    ∷ "  int n;"
    ∷ "  int f() { rtf(n); }"
    ∷ "  void put(int x) { n = x; }"
    ∷ "  select {"
    ∷ "    priority 1 : guard (10 / n > 1) accept f;"
    ∷ "    priority 1 : accept put;"
    ∷ "  }"
    ∷ "};"
    ∷ "int main() { cell c; c.create(); int a = c.f(); c.put(4); print(a); }"
    ∷ [])

-- a member that waits for its own object
abbrev pub looper : List ℕ
looper = text (
    "persistent mentat class looper { int f() { int x = self.f(); rtf(x + 1); } };"
    ∷ "int main() { looper c; c.create(); int a = c.f(); print(a); }"
    ∷ [])

-- a class without select
abbrev pub tally : List ℕ
tally = text (
    "persistent mentat class tally {"
    ∷ "  int n;"
    ∷ "  void put(int x) { n = n + x; }"
    ∷ "  int get() { rtf(n); }"
    ∷ "};"
    ∷ "int main() { tally t; t.create(); t.put(5); int a = t.get(); print(a); }"
    ∷ [])

-- an argument that is a trap
abbrev pub trapped_argument : List ℕ
trapped_argument = text (
    "regular mentat class calc { int div(int x, int y) { rtf(x / y); } };"
    ∷ "persistent mentat class tally {"
    ∷ "  int n;"
    ∷ "  void put(int x) { n = n + x; }"
    ∷ "  int get() { rtf(n); }"
    ∷ "};"
    ∷ "int main() {"
    ∷ "  calc w; tally t;"
    ∷ "  t.create();"
    ∷ "  int a = w.div(1, 0);"
    ∷ "  t.put(a);"
    ∷ "  print(1);"
    ∷ "}"
    ∷ [])

-- an object of each of two classes
abbrev pub two_objects : List ℕ
two_objects = text (
    "persistent mentat class tally {"
    ∷ "  int n;"
    ∷ "  void put(int x) { n = n + x; }"
    ∷ "  int get() { rtf(n); }"
    ∷ "};"
    ∷ "persistent mentat class buffer {"
    ∷ "  int v; bool full;"
    ∷ "  void put(int x) { v = x; full = true; }"
    ∷ "  int get() { full = false; rtf(v); }"
    ∷ "  select {"
    ∷ "    priority 1 : guard (!full) accept put;"
    ∷ "    priority 1 : guard (full) accept get;"
    ∷ "  }"
    ∷ "};"
    ∷ "int main() {"
    ∷ "  tally t; buffer b;"
    ∷ "  t.create();"
    ∷ "  b.create();"
    ∷ "  b.put(3);"
    ∷ "  t.put(4);"
    ∷ "  int x = b.get();"
    ∷ "  int y = t.get();"
    ∷ "  print(x, y);"
    ∷ "}"
    ∷ [])

-- a regular call that never ends
abbrev pub endless : List ℕ
endless = text (
    "regular mentat class calc {"
    ∷ "  int spin(int x) { while (true) { x = x; } rtf(x); }"
    ∷ "};"
    ∷ "persistent mentat class buffer {"
    ∷ "  int v; bool full;"
    ∷ "  void put(int x) { v = x; full = true; }"
    ∷ "  int get() { full = false; rtf(v); }"
    ∷ "  select {"
    ∷ "    priority 1 : guard (!full) accept put;"
    ∷ "    priority 1 : guard (full) accept get;"
    ∷ "  }"
    ∷ "};"
    ∷ "int main() { calc w; int a = w.spin(1); buffer b; b.create(); b.put(1); print(a); }"
    ∷ [])
