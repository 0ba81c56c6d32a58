use Rattle.std.proofs.Common.{◌+◌, ap, arith, rules, ◌∙◌}
use Rattle.mpl_body_run.specs.Seen.{machine_seen}
use Rattle.mpl_body_run.specs.SeenItems.{item_seen}
use Rattle.mpl_body_run.specs.SeenSetting.{setting_seen}
use Rattle.mpl_body_run.proofs.Performing.{called}
use Rattle.mpl_body_run.proofs.machine.Machine.call_member.Goals as goal

pub returns-in_ok-push : goal.returns-in_ok-push
returns-in_ok-push c =
    called (setting_seen c.args.setting.now) (machine_seen c.args.self.now) (machine_seen c.onward.new.self) c.onward.result c.args.member c.args.arguments c.args.object
    c.args.self.now.frame.stack (item_seen c.in_ok-item.item) (c.len.result + 1) c.in_ok-args.args c.push.new.self (omega (arith, c.if-self-setting.true)) (ap (λ n. n + 1) c.len.ensures)
    (c.in_ok-args.ensures ∙ c.into_slots.ensures)
    (search (rules, c.in_ok-push.ensures.ok)) c.in_ok-item.ensures c.onward.ensures
