use Rattle.std.proofs.Common.{◌≡◌, ◌-◌, ◌^◌, ◌<◌, length, ap, arith}
use Rattle.std.proofs.lemmas.List.Sums.{count_by-le-length}
use Rattle.mdf_order.specs.Internal.Marks.{mark_count}
use Rattle.mdf_order.proofs.Sums.{sum-whole}
use Rattle.mdf_order.proofs.Marks.{counted-pushed, counted-same}
use Rattle.mdf_order.proofs.serials.Serials.add.Goals as goal
use Rattle.mdf_order.proofs.serials.Serials.add.Goals.{then-serial-eq0+in_ok-push, else-serial-eq0}

pub push-requires : goal.push-requires
push-requires c =
    omega (
      arith,
      sum-whole mark_count c.self.inside.marks.items c.self.inside.blocks c.self.invariant.in_blocks,
      count_by-le-length (λ marked. marked) c.self.inside.marks.items,
      c.self.invariant.numbered,
    )

pub invariant_of-self-2 : goal.invariant_of-self-2
invariant_of-self-2 c =
    let marks = c.self.inside.marks.items in
    let counted : c.len-serial.result ≡ length marks = omega (arith, c.len-serial.ensures) in
    let few : length marks < 2 ^ 32 - 1 = omega (arith, c.requires, ap length c.self.view_is) in
    elim c.if-serial-eq0.branch [
      | then-serial-eq0+in_ok-push w ↦
          rw (c.push_reserved.ensures.items, w.self-inside-is, c.reserve.ensures.items)
          (counted-pushed marks c.self.inside.blocks w.push.new.self c.self.inside.count c.len-serial.result c.self.invariant counted few w.if-serial-eq0.true w.in_ok-push.ensures.ok)
      | else-serial-eq0 w ↦
          rw (c.push_reserved.ensures.items, w.self-inside-is, c.reserve.ensures.items)
          (counted-same marks c.self.inside.blocks c.self.inside.count c.len-serial.result c.self.invariant counted few w.if-serial-eq0.false)
    ]
