-- The code of a call by the number of its member.
use Rattle.std.specs.Prelude.{ℕ, [], ◌∷◌, ◌++◌, Option, Some, None}
use Rattle.mpl_body_code.specs.Codes.{Code}
use Rattle.mpl_body_code.specs.declared.instruction.Instruction.TheVariants as instruction

abbrev pub object_by : Option ℕ → ℕ → Code → Code
object_by None count arguments = instruction.Wait ∷ []
object_by (Some id) count arguments = arguments ++ instruction.CallObject id count ∷ []

abbrev pub regular_by : Option ℕ → ℕ → Code → Code
regular_by None count arguments = instruction.Wait ∷ []
regular_by (Some id) count arguments = arguments ++ instruction.CallRegular id count ∷ []

abbrev pub own_by : Option ℕ → ℕ → Code → Code
own_by None count arguments = instruction.Wait ∷ []
own_by (Some id) count arguments = instruction.Own ∷ (arguments ++ instruction.CallObject id count ∷ [])
