use Rattle.std.proofs.Common.{◌≡◌, true, [], refl, sym, subst}
use Rattle.mdf_code.specs.Images.{is_image}
use Rattle.mdf_core.specs.Steps.{Log}
use Rattle.mdf_machine.specs.declared.parts.Parts.{Parts}
use Rattle.mdf_machine.specs.Internal.Opening.{first_parts}
use Rattle.mdf_machine.specs.Internal.Held.{Kept}
use Rattle.mdf_core.specs.Worlds.{Job}
use Rattle.mdf_machine.proofs.Booted.{booted}
use Rattle.mdf_machine.proofs.machine.Machine.boot.Goals as goal

pub invariant_of-result : goal.invariant_of-result
invariant_of-result c =
    let job : Job = record { image = c.args.image; input = c.args.input; budget = c.args.budget } in
    let first : Kept job [] first_parts = record { is_log = tt; image = subst (λ raw. is_image raw ≡ true) c.image.view_is c.image.invariant; plain = c.requires.plain; budget = c.requires.few; holds = booted job; fired = refl } in
    subst (λ (log : Log). Kept job log c.in_ok-parts.parts) (sym c.new.ensures) (subst (λ (parts : Parts). Kept job [] parts) (sym c.in_ok-parts.ensures) first)
