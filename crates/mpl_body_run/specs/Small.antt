-- Numbers that stay small while a machine runs.
use Rattle.std.specs.Prelude.{ℕ, ◌<◌, ◌≤◌, ◌^◌, List, [], ◌∷◌, length}
use Rattle.mpl_body_code.specs.Machine.{Caller, Machine, OfPlain, OfRegular}

-- the number of a frame, and the objects and the calls of its body, each of which took a turn
pub record IsSmall (number creations calls turns : ℕ) : Type 0 where
  pub number_small : number < 2 ^ 31
  pub creations_few : creations ≤ turns
  pub calls_few : calls ≤ turns

abbrev pub CallerIsSmall : ℕ → Caller → Type 0
CallerIsSmall turns (OfPlain frame line is_bool) = frame.number < 2 ^ 31
CallerIsSmall turns (OfRegular frame body) = IsSmall frame.number (length body.creations) (length body.calls) turns

abbrev pub CallersAreSmall : ℕ → List Caller → Type 0
CallersAreSmall turns [] = Unit {0}
CallersAreSmall turns (caller ∷ callers) = CallerIsSmall turns caller × CallersAreSmall turns callers

pub record PartsAreSmall (most number creations calls turns : ℕ) (callers : List Caller) : Type 0 where
  pub own : IsSmall number creations calls turns
  pub callers_small : CallersAreSmall turns callers
  pub within : turns ≤ most

-- all that a machine has, within so many turns
abbrev pub MachineIsSmall : ℕ → Machine → Type 0
MachineIsSmall most x = PartsAreSmall most x.frame.number (length x.body.creations) (length x.body.calls) x.turns x.callers
