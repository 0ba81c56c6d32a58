use Rattle.std.proofs.Common.{◌≡◌, ℕ, Some}
use Rattle.mpl_value.specs.declared.body.Yield.{Yield}
use Rattle.mpl_body_code.specs.Steps.{exec}
use Rattle.mpl_body_code.specs.StepsLeft.{steps_left}
use Rattle.mpl_body_run.specs.Seen.{machine_seen}
use Rattle.mpl_body_run.specs.SeenSetting.{setting_seen}
use Rattle.mpl_body_run.specs.Small.{MachineIsSmall}
use Rattle.mpl_body_run.proofs.running.go.Given as goal

-- what it comes to from here it comes to from its start
abbrev pub invariant-loop-why : goal.invariant-loop-why
invariant-loop-why l = record {
  small : MachineIsSmall l.setting.budget (machine_seen l.machine);
  same : (n : ℕ) (y : Yield) → exec n (setting_seen l.setting) (machine_seen l.machine) ≡ Some y
      → (m : ℕ) × (exec m (setting_seen l.setting) (machine_seen l.initial.machine) ≡ Some y);
}

abbrev pub decreases-loop-why : goal.decreases-loop-why
decreases-loop-why l = steps_left (setting_seen l.setting) (machine_seen l.machine)
