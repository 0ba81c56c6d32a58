-- Which bodies can wait: those that can make a call, and have no reply to one that they made.
use Rattle.std.specs.Prelude.{◌≡◌, ◌≢◌, ℕ, List, false, Option, Some, None}
use Rattle.std.specs.FinMap.{FinMap, get}
use Rattle.std.specs.Ordering.{nat_cmp}
use Rattle.mpl_ast.specs.declared.program.Declaration.{Declaration}
use Rattle.mpl_value.specs.declared.body.CallMade.{CallMade}
use Rattle.mpl_value.specs.declared.body.MemberId.{MemberId}
use Rattle.mpl_value.specs.declared.known.Known.{Known}
use Rattle.mpl_mean.specs.Meaning.Layout.{Class, Member, class_named, classes_of}
use Rattle.mpl_mean.specs.Laws.Sizes.{member_of_id}

-- a persistent class of the program
pub record HasPersistent (ds : List Declaration) : Type 0 where
  pub name : List ℕ
  pub class : Class
  pub named : class_named name (classes_of ds) ≡ Some class
  pub persistent : class.is_regular ≡ false

abbrev pub FoundCanCall : Option (Class × Member) → Type 0
FoundCanCall None = ⊥
FoundCanCall (Some found) = found.0.is_regular ≡ false

-- a body that can call members of persistent objects: `main` of a program with a persistent class, or a member of such a
-- class
abbrev pub CanCall : List Declaration → Option MemberId → Type 0
CanCall ds None = HasPersistent ds
CanCall ds (Some id) = FoundCanCall (member_of_id ds id)

-- a call that was replied to
abbrev pub HasReply : FinMap nat_cmp Known → CallMade → Type 0
HasReply replies call = get replies call.call ≢ None
