use Rattle.std.proofs.Common.{◌+◌, length, sym, ap, ap₂, ◌∙◌, arith}
use Rattle.mdf_core.specs.DriveList.{items}
use Rattle.mdf_core.specs.Worlds.{Job}
use Rattle.mdf_machine.specs.Courses.{Course, world_of}
use Rattle.mdf_machine.proofs.Enabling.{few_items}
use Rattle.mdf_machine.proofs.Quitted.{so_many}
use Rattle.mdf_machine.proofs.machine.Machine.enabled.Goals as goal

pub overflow_cast-result : goal.overflow_cast-result
overflow_cast-result c =
    let job : Job = record { image = c.self.inside.image; input = c.self.inside.input; budget = c.self.inside.budget } in
    record { fits = omega (arith, c.due_len.ensures, few_items job c.self.inside.history c.self.inside.parts c.self.invariant) }

pub overflow_add-result : goal.overflow_add-result
overflow_add-result c =
    let job : Job = record { image = c.self.inside.image; input = c.self.inside.input; budget = c.self.inside.budget } in
    record { fits = omega (arith, c.due_len.ensures, c.len.ensures, few_items job c.self.inside.history c.self.inside.parts c.self.invariant) }

pub returns : goal.returns
returns c =
    let job : Job = record { image = c.self.inside.image; input = c.self.inside.input; budget = c.self.inside.budget } in
    let k = c.self.invariant in
    ap₂ (λ m n. m + n) c.due_len.ensures c.len.ensures ∙ sym (so_many job c.self.inside.history c.self.inside.parts k (sym k.holds.why ∙ c.in-Going.is))
    ∙ ap (λ (o : Course). length (items o.job (world_of o))) c.self.view_is
