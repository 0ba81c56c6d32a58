use Rattle.std.proofs.Common.{◌≡◌, drop}
use Rattle.std.specs.List.{list_all}
use Rattle.mdf_code.specs.Images.{is_member}
use Rattle.mdf_code.proofs.check.members_fit.Given as goal

abbrev pub invariant-loop-member : goal.invariant-loop-member
invariant-loop-member l = list_all is_member l.members ≡ list_all is_member (drop l.member-index l.members)
