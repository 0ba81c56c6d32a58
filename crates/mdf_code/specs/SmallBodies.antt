-- Small images, as code written by hand below the source that they do the work of, and their yields.
use Prim.Native.String.{String}
use Rattle.std.specs.Prelude.{ℕ, List, [], ◌∷◌, ◌++◌, replicate, codes, Some, None, ℤ, pos}
use Rattle.mpl_value.specs.declared.body.Arg.{Arg}
use Rattle.mpl_value.specs.declared.body.BodyEnd.{BodyEnd}
use Rattle.mpl_value.specs.declared.body.BodyEnd.TheVariants as end
use Rattle.mpl_value.specs.declared.body.BodyResult.{BodyResult}
use Rattle.mpl_value.specs.declared.body.BodyResult.TheVariants as result
use Rattle.mpl_value.specs.declared.body.BodyStart.{BodyStart}
use Rattle.mpl_value.specs.declared.body.CallMade.{CallMade}
use Rattle.mpl_value.specs.declared.body.Yield.{Yield}
use Rattle.mpl_value.specs.declared.known.TrapKind.{TrapKind}
use Rattle.mdf_code.specs.declared.instr.Instr.{Instr}
use Rattle.mdf_code.specs.declared.instr.Instr.TheVariants.{Add, ArgVariable, ArgWords, Call, Create, Div, Drop, End, Fail, Fetch, Force, Greater, Input, Jump, JumpZero, Less, Load, LoadIndexed, Mul, Need, Post, Print, Push, Reply, Return, Send, SetVariable, Store, Sub, Test, Bound, Keep}
use Rattle.mdf_code.specs.declared.raw.RawImage.{RawImage}
use Rattle.mdf_code.specs.SmallCode.{code, function, member, only_main, persistent_class, regular_class, trap}

-- ---- yields

-- lines as they are printed
abbrev pub text : List String → List ℕ
text [] = []
text (line ∷ lines) = codes line ++ 10 ∷ text lines

-- what `main` does where it creates no object: its lines, its turns and its end
abbrev pub yields : List String → ℕ → BodyEnd → Yield
yields lines turns e = record { lines = text lines; calls = []; creations = []; result = result.Open; state = []; turns = turns; end = e }

abbrev pub traps : TrapKind → ℕ → BodyEnd
traps kind line = end.Trap (trap kind line)

-- what a member's body does that makes no call: its result, its state and its end after its only turn
abbrev pub gives : BodyResult → List ℤ → BodyEnd → Yield
gives given state e = record { lines = []; calls = []; creations = []; result = given; state = state; turns = 1; end = e }

abbrev pub on_first : ℕ → ℕ → List Arg → CallMade
on_first call member args = record { call = call; object = pos 1; member = record { 0 = member }; args = args }

-- the start of a member's body on the first object
abbrev pub member_start : ℕ → List ℤ → List ℤ → BodyStart
member_start member args state = record { member = Some (record { 0 = member }); args = args; state = state; object = pos 1; number = 1; input = [] }

-- ---- images

-- int sq(int x) { rtf(x * x); }   int add(int x, int y) { rtf(x + y); }
-- int main() { calc c; int s; s = c.add(c.sq(3), c.sq(4)); print(s); }
abbrev pub sum_of_squares : RawImage
sum_of_squares = record {
  functions = [];
  classes = regular_class ∷ [];
  members =
      member 0 1 (Some 1) (code (1 ∷ []) (Load 0 0 1 ∷ Load 0 0 1 ∷ Mul 2 ∷ ArgWords 1 ∷ Reply 2 ∷ End 2 ∷ []))
      ∷ member 0 2 (Some 1) (code (1 ∷ 1 ∷ []) (Load 0 0 1 ∷ Load 1 0 1 ∷ Add 3 ∷ ArgWords 1 ∷ Reply 3 ∷ End 3 ∷ [])) ∷ [];
  entries = [];
  main = code (1 ∷ []) (
      Push (pos 3) ∷ ArgWords 1 ∷ Send 0 1 ∷ Push (pos 4) ∷ ArgWords 1 ∷ Send 0 1 ∷ Send 1 2 ∷ SetVariable 0
      ∷ Need 0 ∷ Load 0 0 1 ∷ Print (codes "i") ∷ End 0 ∷ []);
}

-- int main() { int n = 3; while (n > 0) { print(n); n = n - 1; } }
abbrev pub counts_down : RawImage
counts_down = only_main (code (1 ∷ []) (
    Push (pos 3) ∷ Store 0 0 1
    ∷ Test ∷ Load 0 0 1 ∷ Push (pos 0) ∷ Greater ∷ JumpZero 13
    ∷ Load 0 0 1 ∷ Print (codes "i") ∷ Load 0 0 1 ∷ Push (pos 1) ∷ Sub 1 ∷ Jump 14
    ∷ End 1
    ∷ Store 0 0 1 ∷ Jump 2 ∷ []))

-- int main() { while (true) { } }
abbrev pub endless : RawImage
endless = only_main (code [] (Test ∷ Push (pos 1) ∷ JumpZero 4 ∷ Jump 0 ∷ End 1 ∷ []))

-- int twice(int x) { return x + x; }   int main() { int n = 1; while (n < 5) { n = twice(n); } print(n); }
abbrev pub doubles : RawImage
doubles = record {
  functions = function 1 1 (code (1 ∷ []) (Load 0 0 1 ∷ Load 0 0 1 ∷ Add 1 ∷ Return 1 ∷ Fail 1 ∷ [])) ∷ [];
  classes = [];
  members = [];
  entries = [];
  main = code (1 ∷ []) (
      Push (pos 1) ∷ Store 0 0 1
      ∷ Test ∷ Load 0 0 1 ∷ Push (pos 5) ∷ Less ∷ JumpZero 11
      ∷ Load 0 0 1 ∷ Call 0 ∷ Store 0 0 1 ∷ Jump 2
      ∷ Load 0 0 1 ∷ Print (codes "i") ∷ End 2 ∷ []);
}

-- A regular member `halve` traps where its divisor is 0, `pass` forwards what it gives, and `none` gives nothing.
-- int halve(int x) { rtf(8 / x); }   int pass(int x) { rtf(self.halve(x)); }   int none() { }
abbrev pub forwards : List Instr → RawImage
forwards main = record {
  functions = [];
  classes = regular_class ∷ [];
  members =
      member 0 1 (Some 1) (code (1 ∷ []) (Push (pos 8) ∷ Load 0 0 1 ∷ Div 2 ∷ ArgWords 1 ∷ Reply 2 ∷ End 2 ∷ []))
      ∷ member 0 1 (Some 1) (code (1 ∷ []) (ArgVariable 0 ∷ Send 0 1 ∷ Reply 3 ∷ End 3 ∷ []))
      ∷ member 0 0 (Some 1) (code [] (End 4 ∷ [])) ∷ [];
  entries = [];
  main = code (1 ∷ 2 ∷ []) main;
}

-- what member 1 passes on of a number is printed
abbrev pub passes_on : ℕ → RawImage
passes_on n = forwards (Push (pos n) ∷ ArgWords 1 ∷ Send 1 1 ∷ Force ∷ Print (codes "i") ∷ End 0 ∷ [])

-- the result of member 2 is forced
abbrev pub forces_nothing : RawImage
forces_nothing = forwards (Send 2 0 ∷ Force ∷ End 0 ∷ [])

-- an element of an array of two
abbrev pub reads_element : ℕ → RawImage
reads_element n = forwards (Push (pos n) ∷ LoadIndexed 1 0 2 7 ∷ Print (codes "i") ∷ End 0 ∷ [])

-- a sum that no word has
abbrev pub overflows : RawImage
overflows = only_main (code [] (Push (pos 9223372036854775807) ∷ Push (pos 1) ∷ Add 3 ∷ End 0 ∷ []))

-- a call on no object
abbrev pub asks_no_object : RawImage
asks_no_object = only_main (code [] (Push (pos 0) ∷ Bound 4 ∷ End 0 ∷ []))

-- int main() { }
abbrev pub does_nothing : RawImage
does_nothing = only_main (code [] (End 1 ∷ []))

-- a `main` past whose end it runs, and a plain function past whose end it runs
abbrev pub runs_past : RawImage
runs_past = only_main (code [] (Push (pos 1) ∷ []))

abbrev pub runs_past_function : RawImage
runs_past_function = record runs_past { functions = function 0 0 (code [] []) ∷ []; main = code [] (Call 0 ∷ Push (pos 1) ∷ Print (codes "i") ∷ End 0 ∷ []) }

-- a number of the input
abbrev pub reads_input : RawImage
reads_input = only_main (code [] (Input 5 ∷ Print (codes "b") ∷ End 0 ∷ []))

-- A cell with `void put(int x)`, `int get()`, which gives its state, and `int again()`, which gives it twice.
-- main() { cell c; c.create(); c.put(7); int a; a = c.get(); c.put(a); print(a); }
abbrev pub puts_and_gets : RawImage
puts_and_gets = record {
  functions = [];
  classes = regular_class ∷ persistent_class 1 ∷ [];
  members =
      member 1 1 None (code (1 ∷ []) (Load 0 0 1 ∷ Keep 0 1 ∷ End 0 ∷ []))
      ∷ member 1 0 (Some 1) (code [] (Fetch 0 1 ∷ ArgWords 1 ∷ Reply 3 ∷ End 3 ∷ []))
      ∷ member 1 0 (Some 1) (code [] (Fetch 0 1 ∷ ArgWords 1 ∷ Reply 4 ∷ Fetch 0 1 ∷ ArgWords 1 ∷ Reply 5 ∷ End 5 ∷ [])) ∷ [];
  entries =
      record { class = 1; priority = 1; member = record { 0 = 0 }; guard = Some (Fetch 0 1 ∷ Load 0 0 1 ∷ Less ∷ []) }
      ∷ record { class = 1; priority = 0; member = record { 0 = 0 }; guard = Some (Load 0 0 1 ∷ Fetch 0 1 ∷ Div 6 ∷ []) }
      ∷ record { class = 1; priority = 0; member = record { 0 = 1 }; guard = None } ∷ [];
  main = code (1 ∷ 1 ∷ []) (
      Create 1 ∷ Store 0 0 1
      ∷ Load 0 0 1 ∷ Bound 8 ∷ Push (pos 7) ∷ ArgWords 1 ∷ Post 0 1
      ∷ Load 0 0 1 ∷ Bound 9 ∷ Post 1 0 ∷ SetVariable 1
      ∷ Load 0 0 1 ∷ Bound 9 ∷ ArgVariable 1 ∷ Post 0 1
      ∷ Need 1 ∷ Load 1 0 1 ∷ Print (codes "i") ∷ End 0 ∷ []);
}

-- The cell's state is printed, but `main` doesn't wait for it: without a reply its load strays.
abbrev pub prints_unawaited : RawImage
prints_unawaited = record puts_and_gets { main = code (1 ∷ []) (Create 1 ∷ Post 1 0 ∷ SetVariable 0 ∷ Load 0 0 1 ∷ Print (codes "i") ∷ End 0 ∷ []) }

-- two ways round, of which one passes no test
abbrev pub goes_round : RawImage
goes_round = only_main (code [] (Push (pos 1) ∷ JumpZero 3 ∷ Test ∷ Jump 0 ∷ End 0 ∷ []))

-- a guard with one word more than so many on its stack
abbrev pub stacks_words : ℕ → RawImage
stacks_words n = record puts_and_gets { entries = record { class = 1; priority = 0; member = record { 0 = 1 }; guard = Some (replicate n (Push (pos 1)) ++ Push (pos 1) ∷ Drop n ∷ []) } ∷ [] }

-- a guard that jumps back
abbrev pub jumps_back : RawImage
jumps_back = record puts_and_gets { entries = record { class = 1; priority = 0; member = record { 0 = 1 }; guard = Some (Push (pos 1) ∷ Jump 0 ∷ []) } ∷ [] }
