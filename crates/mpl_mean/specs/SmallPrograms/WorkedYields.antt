-- Words for the yields of worked programs.
use Prim.Native.String.{String}
use Rattle.std.specs.Prelude.{ℕ, List, [], ◌∷◌, ◌++◌, codes, Some, ℤ, pos}
use Rattle.mpl_value.specs.declared.body.BodyEnd.{BodyEnd}
use Rattle.mpl_value.specs.declared.body.BodyEnd.TheVariants as end
use Rattle.mpl_value.specs.declared.body.BodyResult.{BodyResult}
use Rattle.mpl_value.specs.declared.body.BodyResult.TheVariants as result
use Rattle.mpl_value.specs.declared.body.Arg.{Arg}
use Rattle.mpl_value.specs.declared.body.BodyStart.{BodyStart}
use Rattle.mpl_value.specs.declared.body.CallMade.{CallMade}
use Rattle.mpl_value.specs.declared.body.Yield.{Yield}
use Rattle.mpl_value.specs.declared.known.Known.TheVariants as known
use Rattle.mpl_value.specs.declared.known.TrapKind.{TrapKind}

-- lines as they are printed
abbrev pub text : List String → List ℕ
text [] = []
text (line ∷ lines) = codes line ++ 10 ∷ text lines

-- what `main` does where it creates no object: its lines, its turns and its end
abbrev pub yields : List String → ℕ → BodyEnd → Yield
yields lines turns e = record {
  lines = text lines;
  calls = [];
  creations = [];
  result = result.Open;
  state = [];
  turns = turns;
  end = e;
}

abbrev pub traps : TrapKind → ℕ → BodyEnd
traps kind line = end.Trap (record { kind = kind; line = line })

-- a call on the first object that `main` creates
abbrev pub on_first : ℕ → ℕ → List Arg → CallMade
on_first call member args = record { call = call; object = pos 1; member = record { 0 = member }; args = args }

-- what `main` does where it creates an object of the first class
abbrev pub yields_with : List CallMade → List String → ℕ → BodyEnd → Yield
yields_with calls lines turns e = record (yields lines turns e) { calls = calls; creations = pos 0 ∷ [] }

-- the start of a member's body on the first object, with its arguments and its state
abbrev pub member_start : ℕ → List ℤ → List ℤ → BodyStart
member_start member args state = record { member = Some (record { 0 = member }); args = args; state = state; object = pos 1; number = 1; input = [] }

-- the start of the body of a regular member
abbrev pub regular_start : ℕ → List ℤ → BodyStart
regular_start member args = record { member = Some (record { 0 = member }); args = args; state = []; object = pos 0; number = 0; input = [] }

abbrev pub trapped : TrapKind → ℕ → BodyResult
trapped kind line = result.Known (known.Trapped (record { kind = kind; line = line }))

-- what a member's body does that makes no call: its result, its state, and its end after its only turn
abbrev pub gives : BodyResult → List ℤ → BodyEnd → Yield
gives given state e = record {
  lines = [];
  calls = [];
  creations = [];
  result = given;
  state = state;
  turns = 1;
  end = e;
}
