-- Arguments beside the formals that they are for.
use Rattle.std.specs.Prelude.{Bool, true, ◌||◌, ◌&&◌, is_none, List, [], ◌∷◌, Option}
use Rattle.std.specs.List.{list_any}
use Rattle.mpl_mean.specs.TypeRules.Rules.{Failure}
use Rattle.mpl_mean.specs.TypeRules.Types.{ValueType, agree}
use Rattle.mpl_mean.specs.TypeRules.Typing.{all_agree}
use Rattle.mpl_types.specs.Internal.Least.{earlier}
use Rattle.mpl_types.specs.Internal.Seen.{failure_of}
use Rattle.mpl_types.specs.declared.arguments.Arguments.{Arguments}

abbrev pub first_agrees : Option ValueType → List (Option ValueType) → Bool
first_agrees argument [] = true
first_agrees argument (formal ∷ formals) = agree argument formal

-- what is known of all, from what is known of some and what the others are
pub record Known : Type 0 where
  pub untyped : Bool
  pub agrees : Bool
  pub failure : Option Failure

abbrev pub with_others : Arguments → List (Option ValueType) → List (Option ValueType) → Option Failure → Known
with_others some others formals least =
    record { untyped = some.has_untyped || list_any is_none others; agrees = some.agrees && all_agree others formals; failure = earlier (failure_of some.failure) least }
