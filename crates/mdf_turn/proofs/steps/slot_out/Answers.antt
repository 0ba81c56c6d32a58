use Rattle.std.proofs.Common.{◌∷◌, sym, ap, ◌∙◌}
use Rattle.std.specs.Prelude.{Some}
use Rattle.atomic_table.specs.Table.{rest}
use Rattle.mdf_turn.proofs.steps.slot_out.Goals as goal

pub exchange-requires : goal.exchange-requires
exchange-requires g c = let slot = c.requires.slot in (c.requires.table, (Some slot.0, slot.1 ∙ ap (λ l. (0, Some slot.0) ∷ rest l) (sym slot.1)))
