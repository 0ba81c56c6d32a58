-- With more replies to its calls a body's yield only grows: what that means.
use Rattle.std.specs.Prelude.{ℕ, ◌≡◌, ◌≤◌, List, [], ◌∷◌, Some}
use Rattle.std.specs.FinMap.{FinMap, get}
use Rattle.std.specs.List.{AllZip}
use Rattle.std.specs.Ordering.{nat_cmp}
use Rattle.mpl_value.specs.declared.body.Arg.{Arg}
use Rattle.mpl_value.specs.declared.body.Arg.TheVariants.{Know, Trapped, Unknown}
use Rattle.mpl_value.specs.declared.body.BodyEnd.{BodyEnd}
use Rattle.mpl_value.specs.declared.body.BodyEnd.TheVariants as end
use Rattle.mpl_value.specs.declared.body.BodyResult.{BodyResult}
use Rattle.mpl_value.specs.declared.body.BodyResult.TheVariants as result
use Rattle.mpl_value.specs.declared.body.CallMade.{CallMade}
use Rattle.mpl_value.specs.declared.body.Yield.{Yield}
use Rattle.mpl_value.specs.declared.known.Known.{Known}

-- a body came to its end, by a trap or without
abbrev pub IsOver : BodyEnd → Type 0
IsOver end.Done = Unit {0}
IsOver (end.Trap trap) = Unit {0}
IsOver end.Waits = ⊥
IsOver end.Spent = ⊥

-- each call that has a reply among the first has the same one among the second
abbrev pub AreAmong : FinMap nat_cmp Known → FinMap nat_cmp Known → Type 0
AreAmong replies more = (call : ℕ) (known : Known) → get replies call ≡ Some known → get more call ≡ Some known

-- an argument stays as it was, unless it was not known
abbrev pub Stays : Arg → Arg → Type 0
Stays (Know words) after = Know words ≡ after
Stays (Trapped t) after = Trapped t ≡ after
Stays Unknown after = Unit {0}

-- a call stays, but for what was not known of its arguments
pub record CallStays (before after : CallMade) : Type 0 where
  pub call : before.call ≡ after.call
  pub object : before.object ≡ after.object
  pub member : before.member ≡ after.member
  pub arguments : AllZip Stays before.args after.args

-- the second list begins with as many items as the first has, each in this relation to the first's
abbrev pub Begins : {A : Type 0} → (A → A → Type 0) → List A → List A → Type 0
Begins R [] after = Unit {0}
Begins R (x ∷ before) [] = ⊥
Begins R (x ∷ before) (y ∷ after) = R x y × Begins R before after

-- the second list is the first and maybe more
abbrev pub IsFront : {A : Type 0} → List A → List A → Type 0
IsFront = Begins (λ x y. x ≡ y)

-- a known result stays
abbrev pub ResultStays : BodyResult → BodyResult → Type 0
ResultStays (result.Known known) after = result.Known known ≡ after
ResultStays result.Open after = Unit {0}
ResultStays result.Unknown after = Unit {0}

-- what stays of a body that came to its end
pub record IsSettled (before after : Yield) : Type 0 where
  pub end : before.end ≡ after.end
  pub lines : before.lines ≡ after.lines
  pub state : before.state ≡ after.state

-- With more replies a yield only grows.
pub record Grows (before after : Yield) : Type 0 where
  pub result : ResultStays before.result after.result
  pub settled : IsOver before.end → IsSettled before after
  pub lines : IsFront before.lines after.lines
  pub creations : IsFront before.creations after.creations
  pub calls : Begins CallStays before.calls after.calls
  pub turns : before.turns ≤ after.turns
