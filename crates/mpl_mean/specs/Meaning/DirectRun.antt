-- The direct run of a program: what `main` does with no reply at all.
use Rattle.std.specs.Prelude.{ℕ, List, [], ℤ, pos, None}
use Rattle.std.specs.FinMap.{empty}
use Rattle.mpl_ast.specs.declared.program.Program.{Program}
use Rattle.mpl_value.specs.declared.body.BodyStart.{BodyStart}
use Rattle.mpl_value.specs.declared.body.Yield.{Yield}
use Rattle.mpl_mean.specs.Meaning.BodyMeaning.{yield_of}

-- the start of `main`
abbrev pub main_start : List ℤ → BodyStart
main_start input = record {
  member = None;
  args = [];
  state = [];
  object = pos 0;
  number = 0;
  input = input;
}

-- what `main` does with this input and so many turns
abbrev pub direct_run : Program → List ℤ → ℕ → Yield
direct_run p input turns = yield_of p (main_start input) empty turns
