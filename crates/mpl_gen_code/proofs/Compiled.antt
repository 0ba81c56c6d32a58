-- What an image has that was compiled: the code of each function and each member.
use Rattle.std.proofs.Common.{◌≡◌, ℕ, Bool, List, Some}
use Rattle.std.specs.List.{slice_get}
use Rattle.mpl_ast.specs.declared.program.Declaration.{Declaration}
use Rattle.mpl_mean.specs.Meaning.Layout.{Class, Member, class_named, classes_of}
use Rattle.mdf_code.specs.declared.raw.RawClass.{RawClass}
use Rattle.mdf_code.specs.declared.raw.RawImage.{RawImage}
use Rattle.mpl_gen_code.specs.ExpressionCode.{PlainFunction, plain_functions}
use Rattle.mpl_gen_code.specs.Fits.{MemberIs}
use Rattle.mpl_gen_code.specs.ProgramImage.{function_image}
use Rattle.mpl_gen_code.proofs.Calling.{MemberStands}

pub record Compiled (image : RawImage) (ds : List Declaration) (marks : ℕ → Bool) : Type 0 where
  pub members : (class : Class) (m : Member) → MemberIs ds class m → MemberStands image ds marks class m
  pub classes : (name : List ℕ) (class : Class) → class_named name (classes_of ds) ≡ Some class → (raw : RawClass) × (slice_get image.classes class.number ≡ Some raw) × (raw.regular ≡ class.is_regular)
  pub functions : (number : ℕ) (plain : PlainFunction) → slice_get (plain_functions ds) number ≡ Some plain → slice_get image.functions number ≡ Some (function_image ds marks plain)
