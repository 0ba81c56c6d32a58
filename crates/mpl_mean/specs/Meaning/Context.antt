-- What a body runs in.
use Rattle.std.specs.Prelude.{ℕ, List, ℤ}
use Rattle.std.specs.FinMap.{FinMap}
use Rattle.std.specs.Ordering.{nat_cmp}
use Rattle.mpl_ast.specs.declared.program.Declaration.{Declaration}
use Rattle.mpl_value.specs.declared.body.Arg.{Arg}
use Rattle.mpl_value.specs.declared.known.Known.{Known}
use Rattle.mpl_mean.specs.Meaning.Layout.{Function, Member, Part}
use Rattle.mpl_mean.specs.Meaning.Store.{Step}

-- What a body asks from below: a plain function and a regular member, each with its arguments.
pub record Callees : Type 0 where
  pub plain : Function → List (List ℤ) → Step (List ℤ)
  pub regular : Member → List (List ℤ) → Step Arg

-- the program, the body's turns, its class if it has one, its object and its number, the replies to its calls, and what
-- is called
pub record Context : Type 0 where
  pub declarations : List Declaration
  pub turns : ℕ
  -- the members that `self` has, and the parts of the object's state
  pub members : List Member
  pub state : List Part
  pub object : ℤ
  pub number : ℕ
  pub replies : FinMap nat_cmp Known
  pub callees : Callees
