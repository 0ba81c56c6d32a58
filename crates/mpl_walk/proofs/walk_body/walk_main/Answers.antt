use Rattle.std.proofs.Common.{ap, pos, ◌∙◌}
use Rattle.mpl_body_code.specs.Images.{main_machine}
use Rattle.mpl_body_code.specs.declared.instruction.Finish.TheVariants as finish
use Rattle.mpl_body_run.specs.Seen.{machine_seen}
use Rattle.mpl_body_run.specs.SeenSetting.{setting_seen}
use Rattle.mpl_walk.proofs.Meanings.{comes_from, machine_with}
use Rattle.mpl_walk.proofs.walk_body.walk_main.Goals as goal

pub returns : goal.returns
returns c =
    comes_from (setting_seen c.args.setting.now) c.run.result (machine_seen c.in_ok-machine.machine) (main_machine c.args.start.now c.args.entry)
    (c.in_ok-machine.ensures.seen ∙ ap (machine_with c.args.start.now (pos 0) c.args.entry finish.Main) c.new-slots.ensures) c.run.ensures
