-- Frames alone that stray nowhere, whatever fits they are told: so many steps on, through all their halts.
use Rattle.std.specs.Prelude.{ℕ, zero, suc, ◌≡◌, ◌+◌, List, length, slice_get, Option, Some, None, ℤ}
use Rattle.std.specs.List.{AllZip}
use Rattle.mpl_value.specs.declared.body.Arg.{Arg}
use Rattle.mpl_value.specs.declared.known.Known.{Known}
use Rattle.mpl_value.specs.CallAnswers.{arg_of_reply}
use Rattle.mdf_code.specs.declared.raw.RawImage.{RawImage}
use Rattle.mdf_code.specs.declared.raw.RawMember.{RawMember}
use Rattle.mdf_code.specs.Alone.{Held, Words, Pending, framed}
use Rattle.mdf_code.specs.Frames.{Frame, Next, Goes, Spends, Stops, Calls, Creates, Ends, Needs, Replies, Strays, Traps}
use Rattle.mdf_code.specs.Parts.{sizes_of_formals}
use Rattle.mdf_code.specs.Sizes.{ArgFits}
use Rattle.mdf_code.specs.Steps.{step}
use Rattle.mdf_code.specs.Told.{learns}
use Rattle.mdf_code.specs.Yields.{answered, named, words_of_result}

-- known words of this size, or a result that has it
abbrev pub HeldFits : (ℕ → ℕ) → ℕ → Held → Type 0
HeldFits sizes size (Words words) = length words ≡ size
HeldFits sizes size (Pending result) = sizes result ≡ size

-- a value of its size for each formal of a member
abbrev pub HeldArguments : (ℕ → ℕ) → List Held → Option RawMember → Type 0
HeldArguments sizes arguments None = ⊥
HeldArguments sizes arguments (Some m) = AllZip (HeldFits sizes) (sizes_of_formals m) arguments

-- what holds of a frame, the calls that it made, and what is known of their results
abbrev pub Holds : Type 1
Holds = ℕ → (ℕ → Arg) → Frame Held → Type 0

-- Behind a step: what is passed fits, a result has the size that is said of its number, and what is learnt of it fits.
abbrev pub SafeNext : RawImage → (ℕ → ℕ) → Holds → ℕ → (ℕ → Arg) → Next Held → Type 0
SafeNext image sizes again calls knows (Goes f) = again calls knows f
SafeNext image sizes again calls knows (Spends f) = again calls knows f
SafeNext image sizes again calls knows (Stops (Calls member object arguments) f) =
    HeldArguments sizes arguments (slice_get image.members member) × (sizes (calls + 1) ≡ words_of_result image member → again (calls + 1) knows (answered image member (Pending (calls + 1)) f))
SafeNext image sizes again calls knows (Stops (Needs (Words words)) f) = Unit {0}
SafeNext image sizes again calls knows (Stops (Needs (Pending result)) f) =
    (known : Known) → ArgFits (sizes result) (arg_of_reply (Some known)) → again calls (learns result (arg_of_reply (Some known)) knows) f
SafeNext image sizes again calls knows (Stops (Replies value) f) = again calls knows f
SafeNext image sizes again calls knows (Stops (Creates class) f) = (object : ℤ) → again calls knows (named object f)
SafeNext image sizes again calls knows (Stops (Ends line) f) = Unit {0}
SafeNext image sizes again calls knows (Stops (Traps trap) f) = Unit {0}
SafeNext image sizes again calls knows (Stops Strays f) = ⊥

-- for so many steps
abbrev pub Safe : RawImage → ℤ → (ℕ → ℕ) → ℕ → Holds
Safe image object sizes zero calls knows f = Unit {0}
Safe image object sizes (suc n) calls knows f = SafeNext image sizes (Safe image object sizes n) calls knows (step (framed knows) (record { image = image; object = object }) f)
