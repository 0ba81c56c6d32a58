-- Whether nothing is left to do, by what is kept.
use Rattle.std.specs.Prelude.{◌==◌, ◌&&◌, Bool, is_none, length, slice_get}
use Rattle.mdf_order.specs.InOrder.{serials_in}
use Rattle.mdf_machine.specs.declared.parts.Parts.{Parts}

abbrev pub is_idle : Parts → Bool
is_idle p = is_none (slice_get p.results.due 0) && (length (serials_in p.going) == 0)
