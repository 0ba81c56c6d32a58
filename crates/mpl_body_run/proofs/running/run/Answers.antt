use Rattle.std.proofs.Common.{arith}
use Rattle.mpl_body_run.specs.Seen.{machine_seen}
use Rattle.mpl_body_run.specs.SeenSetting.{setting_seen}
use Rattle.mpl_body_run.proofs.Starts.{started}
use Rattle.mpl_body_run.proofs.running.run.Goals as goal

pub returns-then-machine-setting : goal.returns-then-machine-setting
returns-then-machine-setting c = started (setting_seen c.args.setting.now) (machine_seen c.args.machine) c.go.result (omega (arith, c.if-machine-setting.true)) c.go.ensures
