use Rattle.std.proofs.Common.{◌+◌, ap, refl, subst, sym}
use Rattle.mdf_vm.specs.Internal.Answers.{IsAnswer}
use Rattle.mdf_vm.specs.Internal.Turns.{halt_of}
use Rattle.mdf_vm.specs.Runnings.{frame_of}
use Rattle.mdf_vm.specs.Results.{knows_of}
use Rattle.mdf_vm.specs.Runs.{RunsTo}
use Rattle.mdf_vm.specs.Standing.{around_of}
use Rattle.mdf_vm.specs.declared.frame.Frame as frames
use Rattle.mdf_vm.proofs.Going.{on_err}
use Rattle.mdf_vm.proofs.Ran.{ran, ran_out}
use Rattle.mdf_vm.proofs.frame.Frame.run.Goals as goal

pub returns-in_err-halted-clause-err : goal.returns-in_err-halted-clause-err
returns-in_err-halted-clause-err c =
    let a = c.answer.new.self in
    let spent = c.run-ran.new.spent in
    on_err c.from_residual-in_err-halted.result
    (ran_out c.args.image.now c.args.quantum c.args.self.now a (record { running = c.run-ran.new.self; setting = a.setting; turns = a.turns + spent; last = a.last }) spent c.in_err-halted.ensures.left
    (subst (λ image. IsAnswer image c.args.self.now a) c.raw.ensures.parts c.in_ok-answer.ensures.ok) c.in_err-halted.ensures.err refl refl refl)

pub returns-clause-ok : goal.returns-clause-ok
returns-clause-ok c =
    let a = c.answer.new.self in
    ran c.args.image.now c.args.quantum c.args.self.now a c.stop.new.self c.stop.result (halt_of c.in_ok-halted.halted) c.run-ran.new.spent c.run-ran.ensures.few
    (subst (λ image. IsAnswer image c.args.self.now a) c.raw.ensures.parts c.in_ok-answer.ensures.ok)
    (subst (λ f. RunsTo (knows_of a.setting.results) (around_of c.args.image.now a) c.args.quantum (frame_of a.running) (halt_of c.in_ok-halted.halted) c.run-ran.new.spent (frame_of f.running)) (sym c.stop.ensures.last) c.in_ok-halted.ensures.ok)
    (ap (λ (f : frames.Frame). f.setting) c.stop.ensures.last) c.stop.ensures.tells (ap (λ (f : frames.Frame). f.last) c.stop.ensures.last) (ap (λ (f : frames.Frame). f.turns) c.stop.ensures.last)
