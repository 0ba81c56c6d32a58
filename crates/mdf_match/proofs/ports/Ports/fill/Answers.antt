-- An empty port was filled, so one less is missing.
use Rattle.std.proofs.Common.{◌≡◌, arith, ap, ◌∙◌}
use Rattle.std.specs.Prelude.{Some, None, slice_get}
use Rattle.mdf_match.proofs.Missing.{missing-filled}
use Rattle.mdf_match.proofs.ports.Ports.fill.Goals as goal

pub overflow_sub-self : goal.overflow_sub-self
overflow_sub-self c =
    let is_empty : slice_get c.self.inside.known.items c.args.port ≡ Some None = ap (λ row. slice_get row c.args.port) c.self.view_is ∙ c.requires in
    let counted = missing-filled c.self.inside.known.items c.args.port c.args.datum is_empty in
    omega (arith, counted, c.self.invariant)

pub invariant_of-self : goal.invariant_of-self
invariant_of-self c =
    let is_empty : slice_get c.self.inside.known.items c.args.port ≡ Some None = ap (λ row. slice_get row c.args.port) c.self.view_is ∙ c.requires in
    let counted = missing-filled c.self.inside.known.items c.args.port c.args.datum is_empty in
    omega (arith, counted, c.self.invariant)
