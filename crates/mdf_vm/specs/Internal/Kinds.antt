-- What a variable holds.
use Rattle.mdf_code.specs.Alone.{Held, Words, Pending}
use Rattle.mdf_vm.specs.declared.held.Kind.{Kind}
use Rattle.mdf_vm.specs.declared.held.Kind.TheVariants as kind

abbrev pub held_of : Kind → Held
held_of (kind.Words words) = Words words
held_of (kind.Pending result) = Pending result
