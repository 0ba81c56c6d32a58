use Rattle.std.proofs.Common.{◌≡◌, ◌++◌, take}
use Rattle.std.specs.List.{flat_map}
use Rattle.mdf_code.specs.declared.raw.RawEntry.{RawEntry}
use Rattle.mdf_code.specs.declared.raw.RawFunction.{RawFunction}
use Rattle.mdf_code.specs.declared.raw.RawMember.{RawMember}
use Rattle.mdf_code.specs.Listing.{guard_of, lines_of}
use Rattle.mdf_code.proofs.text.listing.Given as goal

abbrev pub invariant-loop-function : goal.invariant-loop-function
invariant-loop-function l = l.text ≡ l.initial.text ++ flat_map (λ (f : RawFunction). lines_of f.body.code) (take l.function-index l.function-items)

abbrev pub invariant-loop-member : goal.invariant-loop-member
invariant-loop-member l = l.text ≡ l.initial.text ++ flat_map (λ (m : RawMember). lines_of m.body.code) (take l.member-index l.member-items)

abbrev pub invariant-loop-entry : goal.invariant-loop-entry
invariant-loop-entry l = l.text ≡ l.initial.text ++ flat_map (λ (e : RawEntry). lines_of (guard_of e.guard)) (take l.entry-index l.entry-items)
