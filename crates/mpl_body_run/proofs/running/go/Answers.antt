use Rattle.std.proofs.Common.{suc}
use Rattle.mpl_body_code.proofs.FallingSteps.{steps_fall}
use Rattle.mpl_body_code.specs.Steps.{step}
use Rattle.mpl_body_run.specs.Seen.{machine_seen}
use Rattle.mpl_body_run.specs.SeenSetting.{setting_seen}
use Rattle.mpl_body_run.proofs.Performing.{goes_by, stopped_by}
use Rattle.mpl_body_run.proofs.SmallSteps.{stays_small}
use Rattle.mpl_body_run.proofs.Starts.{last_step, one_step}
use Rattle.mpl_body_run.proofs.running.go.Goals as goal

pub returns-in-Some : goal.returns-in-Some
returns-in-Some c =
    let S = setting_seen c.args.setting.now in
    let x = machine_seen c.loop-why.machine in
    c.loop-why.invariant.same 1 c.in-Some.result (last_step S x c.in-Some.result (stopped_by S x (machine_seen c.stop.new.self) c.in_ok-result-in-Err.field-0 c.in-Some.result c.in-Some.is (c.in_ok-result-in-Err.ensures (step S x) c.in-Err.ensures)))

pub loop-why-smaller : goal.loop-why-smaller
loop-why-smaller c =
    let S = setting_seen c.args.setting.now in
    let x = machine_seen c.loop-why.machine in
    let z = machine_seen c.stop.new.self in
    steps_fall S x z (goes_by S x z c.in_ok-result-in-Err.field-0 c.in-None.is (c.in_ok-result-in-Err.ensures (step S x) c.in-Err.ensures))

pub loop-why-preserved : goal.loop-why-preserved
loop-why-preserved c =
    let S = setting_seen c.args.setting.now in
    let x = machine_seen c.loop-why.machine in
    let z = machine_seen c.stop.new.self in
    let goes = goes_by S x z c.in_ok-result-in-Err.field-0 c.in-None.is (c.in_ok-result-in-Err.ensures (step S x) c.in-Err.ensures) in
    record {
      small = stays_small S x z c.loop-why.invariant.small goes;
      same = λ n y h. c.loop-why.invariant.same (suc n) y (one_step S x z n y goes h);
    }

pub loop-why-smaller-in-Ok : goal.loop-why-smaller-in-Ok
loop-why-smaller-in-Ok c = steps_fall (setting_seen c.args.setting.now) (machine_seen c.loop-why.machine) (machine_seen c.performed.new.self) c.in-Ok.ensures

pub loop-why-preserved-in-Ok : goal.loop-why-preserved-in-Ok
loop-why-preserved-in-Ok c =
    let S = setting_seen c.args.setting.now in
    let x = machine_seen c.loop-why.machine in
    let z = machine_seen c.performed.new.self in
    record {
      small = stays_small S x z c.loop-why.invariant.small c.in-Ok.ensures;
      same = λ n y h. c.loop-why.invariant.same (suc n) y (one_step S x z n y c.in-Ok.ensures h);
    }
