-- Programs with calls on persistent objects, each below its source.
use Rattle.std.specs.Prelude.{List, [], ◌∷◌}
use Rattle.mpl_ast.specs.declared.class.Entry.{Entry}
use Rattle.mpl_ast.specs.declared.class.Item.{Item}
use Rattle.mpl_ast.specs.declared.program.Declaration.{Declaration}
use Rattle.mpl_ast.specs.declared.program.Program.{Program}
use Rattle.mpl_ast.specs.declared.statement.Statement.{Statement}
use Rattle.mpl_mean.specs.SmallPrograms.ExpressionTrees.{number, true, false, variable, whole, not, only, flow, call, result}
use Rattle.mpl_mean.specs.SmallPrograms.ProgramTrees.{int, bool, named, declare, declare_as, assign, call_alone, create, print, rtf, formal, field, returning, void, member, state, accepts, select, persistent_class, main, program}

-- 1  persistent mentat class buffer {
-- 2    int v; bool full;
-- 3    void put(int x) { v = x; full = true; }
-- 4    int get() { full = false; rtf(v); }
-- 5    select {
-- 6      priority 1 : guard (!full) accept put;
-- 7      priority 1 : guard (full) accept get;
-- 8    }
-- 9  };
abbrev buffer : Declaration
buffer = persistent_class "buffer" (state (field int "v") ∷ state (field bool "full") ∷ put ∷ get ∷ select entries ∷ []) where
  put : Item
  put = member void "put" (formal int "x" ∷ []) 3 (assign (whole "v") (flow (only (variable "x"))) ∷ assign (whole "full") (flow (only true)) ∷ [])

  get : Item
  get = member (returning int) "get" [] 4 (assign (whole "full") (flow (only false)) ∷ rtf 4 (flow (only (variable "v"))) ∷ [])

  entries : List Entry
  entries = accepts 1 (not (variable "full")) "put" ∷ accepts 1 (only (variable "full")) "get" ∷ []

-- the buffer, and then
-- 10 int main() {
-- 11   buffer b;
-- 12   b.create();
-- 13   int x = b.get();
-- 14   b.put(7);
-- 15   print(x);
-- 16 }
abbrev pub gets_and_puts : Program
gets_and_puts = program (buffer ∷ main 16 statements ∷ []) where
  statements : List Statement
  statements =
      declare (named "buffer") "b"
      ∷ create "b"
      ∷ declare_as int "x" (result (call 13 "b" "get" []))
      ∷ call_alone (call 14 "b" "put" (flow (only (number 7)) ∷ []))
      ∷ print (only (variable "x") ∷ [])
      ∷ []

-- the same with `b.put(x);` in line 14, and without line 15
abbrev pub passes_it_back : Program
passes_it_back = program (buffer ∷ main 16 statements ∷ []) where
  statements : List Statement
  statements =
      declare (named "buffer") "b"
      ∷ create "b"
      ∷ declare_as int "x" (result (call 13 "b" "get" []))
      ∷ call_alone (call 14 "b" "put" (flow (only (variable "x")) ∷ []))
      ∷ []
