-- When two entries of a class accept the same calls.
use Rattle.std.specs.Prelude.{◌≡◌, List, length, Some, ℤ}
use Rattle.mpl_ast.specs.declared.program.Program.{Program}
use Rattle.mpl_mean.specs.Laws.Sizes.{member_of_id, words_of_formals, words_of_object}
use Rattle.mpl_mean.specs.Meaning.Layout.{Class, Member}
use Rattle.mdf_mean.specs.Meanings.{Choice}

-- They have one priority and one member, and hold with the same states and arguments: those that have their sizes.
pub record SameChoice (p : Program) (class : Class) (one other : Choice) : Type 0 where
  pub priority : one.priority ≡ other.priority
  pub member : one.member ≡ other.member
  pub holds : (m : Member) (state arguments : List ℤ) → member_of_id p.declarations one.member ≡ Some (class, m) → length state ≡ words_of_object p.declarations class
      → length arguments ≡ words_of_formals p.declarations m.formals → one.holds state arguments ≡ other.holds state arguments
