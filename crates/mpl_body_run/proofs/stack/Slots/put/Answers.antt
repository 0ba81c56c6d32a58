use Rattle.std.proofs.Common.{arith, ap, sym, ◌∙◌}
use Rattle.mpl_body_code.specs.Machine.{put_held}
use Rattle.mpl_body_run.specs.SeenItems.{arg_seen}
use Rattle.mpl_body_run.proofs.SlotLists.{put_past, put_seen}
use Rattle.mpl_body_run.proofs.stack.Slots.put.Goals.{in-Words-1, in-Word-1}
use Rattle.mpl_body_run.proofs.stack.Slots.put.Goals as goal

pub returns-then-number-len : goal.returns-then-number-len
returns-then-number-len c = elim c.match-index_mut-item.branch [
  | in-Words-1 w ↦ w.self-is ∙ put_seen c.self.inside.items.items c.args.number c.args.item ∙ ap (put_held c.args.number (arg_seen c.args.item)) c.self.view_is
  | in-Word-1 w ↦ w.self-is ∙ put_seen c.self.inside.items.items c.args.number c.args.item ∙ ap (put_held c.args.number (arg_seen c.args.item)) c.self.view_is
]

pub returns-else-number-len : goal.returns-else-number-len
returns-else-number-len c =
    sym c.self.view_is
    ∙ sym (put_past c.self.inside.items.items c.args.number (arg_seen c.args.item) (omega (arith, c.if-number-len.false, c.len.ensures)))
    ∙ ap (put_held c.args.number (arg_seen c.args.item)) c.self.view_is
