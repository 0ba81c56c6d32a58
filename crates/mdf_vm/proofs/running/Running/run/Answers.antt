use Rattle.std.proofs.Common.{subst}
use Rattle.mdf_vm.specs.Runnings.{frame_of}
use Rattle.mdf_vm.specs.Internal.Turns.{ComesTo}
use Rattle.mdf_vm.specs.Results.{knows_of}
use Rattle.mdf_vm.proofs.Going.{on_err, spends_one, stops_there, went_on}
use Rattle.mdf_vm.proofs.running.Running.run.Goals as goal

pub returns-in_err-until_turn-clause-err : goal.returns-in_err-until_turn-clause-err
returns-in_err-until_turn-clause-err c =
    let knows = knows_of c.args.setting.now.results in
    on_err c.from_residual.result (went_on knows (record { image = c.args.image.now; object = c.args.setting.now.object }) c.args.quantum c.loop-spent.spent (frame_of c.args.self.now) (frame_of c.loop-spent.self) (frame_of c.until_turn.new.self)
    (c.loop-spent.invariant.going c.loop-spent-test.true) c.in_err-until_turn.ensures.err)

pub loop-spent-preserved : goal.loop-spent-preserved
loop-spent-preserved c =
    let knows = knows_of c.args.setting.now.results in
    let later = frame_of c.until_turn.new.self in
    spends_one knows (record { image = c.args.image.now; object = c.args.setting.now.object }) c.args.quantum c.loop-spent.spent (frame_of c.args.self.now) (frame_of c.loop-spent.self) later
    (c.loop-spent.invariant.going c.loop-spent-test.true) c.loop-spent-test.true
    (subst (λ m. ComesTo knows (record { image = c.args.image.now; object = c.args.setting.now.object }) (frame_of c.loop-spent.self) m later) c.in-Spends.is c.in_ok-until_turn.ensures.ok)

pub returns-in-Stops-clause-ok : goal.returns-in-Stops-clause-ok
returns-in-Stops-clause-ok c =
    let knows = knows_of c.args.setting.now.results in
    let later = frame_of c.until_turn.new.self in
    stops_there knows (record { image = c.args.image.now; object = c.args.setting.now.object }) c.args.quantum c.loop-spent.spent (frame_of c.args.self.now) (frame_of c.loop-spent.self) later c.in-Stops.halted
    (c.loop-spent.invariant.going c.loop-spent-test.true)
    (subst (λ m. ComesTo knows (record { image = c.args.image.now; object = c.args.setting.now.object }) (frame_of c.loop-spent.self) m later) c.in-Stops.is c.in_ok-until_turn.ensures.ok)
