-- The code that a frame stands in.
use Rattle.mdf_code.specs.Frames.{Code, InMain, InFunction, InMember}
use Rattle.mdf_vm.specs.declared.code.CodeKind.{CodeKind}
use Rattle.mdf_vm.specs.declared.code.CodeKind.TheVariants as kind

abbrev pub code_of : CodeKind → Code
code_of kind.Main = InMain
code_of (kind.Function function) = InFunction function
code_of (kind.Member member) = InMember member
