-- What is seen of a value that is needed.
use Rattle.std.specs.Prelude.{◌≡◌, ℤ, List}
use Rattle.mpl_value.specs.declared.body.Arg.{Arg}
use Rattle.mpl_value.specs.declared.body.Arg.TheVariants.{Know, Trapped, Unknown}
use Rattle.mdf_code.specs.Alone.{Held, Pending}
use Rattle.mdf_vm.specs.declared.held.Sight.{Sight}
use Rattle.mdf_vm.specs.declared.held.Sight.TheVariants as sight

abbrev pub IsSight : Held → Arg → Sight → Type 0
IsSight held known sight.Known = (words : List ℤ) × (known ≡ Know words)
IsSight held known (sight.Trapped trap) = known ≡ Trapped trap
IsSight held known (sight.Unknown result) = (known ≡ Unknown) × (held ≡ Pending result)
