use Rattle.std.proofs.Common.{◌≡◌, ap, ◌∙◌, subst, sym, true}
use Rattle.mdf_code.specs.Alone.{framed}
use Rattle.mdf_code.specs.Images.{is_image}
use Rattle.mdf_code.specs.Parts.{text_at}
use Rattle.mdf_code.specs.Steps.{step}
use Rattle.mdf_vm.specs.declared.moves.Move.TheVariants as moves
use Rattle.mdf_vm.specs.declared.moves.Quick.TheVariants as quick
use Rattle.mdf_vm.specs.Internal.Moves.{next_of}
use Rattle.mdf_vm.specs.Internal.Turns.{GoesOn}
use Rattle.mdf_vm.specs.Places.{code_of}
use Rattle.mdf_vm.specs.Runnings.{frame_of}
use Rattle.mdf_vm.specs.Results.{knows_of}
use Rattle.mdf_vm.proofs.Going.{comes_to, goes_further, on_err}
use Rattle.mdf_vm.proofs.Nearness.{is_short, step_nearer}
use Rattle.mdf_vm.proofs.Quickly.{came_as}
use Rattle.mdf_vm.proofs.running.Running.until_turn.Goals as goal

pub loop-self-smaller-in-Goes : goal.loop-self-smaller-in-Goes
loop-self-smaller-in-Goes c =
    let knows = knows_of c.args.setting.now.results in
    let object = c.args.setting.now.object in
    let now = c.loop-self.self in
    let came = c.quick.ensures.came (record { image = c.args.image.now; object = object }) c.loop-self.invariant.1 in
    let goes = came_as (step (framed knows) (record { image = c.args.image.now; object = object }) (frame_of now)) now c.quick.new.self c.quick.result quick.Goes c.in-Goes.is came in
    step_nearer c.args.image.now (subst (λ image. is_image image ≡ true) c.raw-raw.ensures.parts c.raw-raw.ensures.image) knows object (frame_of now) (frame_of c.quick.new.self)
    (is_short c.args.image.now c.quick.new.self.code) goes

pub loop-self-preserved-in-Goes : goal.loop-self-preserved-in-Goes
loop-self-preserved-in-Goes c =
    let knows = knows_of c.args.setting.now.results in
    let object = c.args.setting.now.object in
    let now = c.loop-self.self in
    let came = c.quick.ensures.came (record { image = c.args.image.now; object = object }) c.loop-self.invariant.1 in
    let goes = came_as (step (framed knows) (record { image = c.args.image.now; object = object }) (frame_of now)) now c.quick.new.self c.quick.result quick.Goes c.in-Goes.is came in (
      goes_further knows (record { image = c.args.image.now; object = object }) (frame_of c.args.self.now) (frame_of now) (frame_of c.quick.new.self) c.loop-self.invariant.0 goes,
      c.loop-self.invariant.1 ∙ ap (λ code. text_at c.args.image.now (code_of code)) (sym c.quick.ensures.code),
    )

pub returns-in-Spends-clause-ok : goal.returns-in-Spends-clause-ok
returns-in-Spends-clause-ok c =
    let knows = knows_of c.args.setting.now.results in
    let object = c.args.setting.now.object in
    let now = c.loop-self.self in
    let came = c.quick.ensures.came (record { image = c.args.image.now; object = object }) c.loop-self.invariant.1 in
    let spends = came_as (step (framed knows) (record { image = c.args.image.now; object = object }) (frame_of now)) now c.quick.new.self c.quick.result quick.Spends c.in-Spends.is came in
    comes_to knows (record { image = c.args.image.now; object = object }) (frame_of c.args.self.now) (frame_of now) (frame_of c.quick.new.self) moves.Spends c.loop-self.invariant.0 spends (λ same. cc same)

pub returns-in_err-going-clause-err : goal.returns-in_err-going-clause-err
returns-in_err-going-clause-err c =
    let knows = knows_of c.args.setting.now.results in
    let object = c.args.setting.now.object in
    let now = c.loop-self.self in
    let came = c.quick.ensures.came (record { image = c.args.image.now; object = object }) c.loop-self.invariant.1 in
    let same = came_as (step (framed knows) (record { image = c.args.image.now; object = object }) (frame_of now)) now c.quick.new.self c.quick.result quick.Waits c.in-Waits.is came in
    on_err c.from_residual.result (subst (GoesOn knows (record { image = c.args.image.now; object = object }) (frame_of c.args.self.now)) (sym (c.in_err-going.ensures.err ∙ same)) c.loop-self.invariant.0)

pub returns-then-not-goes-clause-ok : goal.returns-then-not-goes-clause-ok
returns-then-not-goes-clause-ok c =
    let knows = knows_of c.args.setting.now.results in
    let object = c.args.setting.now.object in
    let now = c.loop-self.self in
    let later = frame_of c.step.new.self in
    let came = c.quick.ensures.came (record { image = c.args.image.now; object = object }) c.loop-self.invariant.1 in
    let same = came_as (step (framed knows) (record { image = c.args.image.now; object = object }) (frame_of now)) now c.quick.new.self c.quick.result quick.Waits c.in-Waits.is came in
    comes_to knows (record { image = c.args.image.now; object = object }) (frame_of c.args.self.now) (frame_of now) later c.in_ok-going.going c.loop-self.invariant.0
    (subst (λ f. step (framed knows) (record { image = c.args.image.now; object = object }) f ≡ next_of c.in_ok-going.going later) same
    (subst (λ image. step (framed knows) (record { image = image; object = object }) (frame_of c.quick.new.self) ≡ next_of c.in_ok-going.going later) c.raw-raw.ensures.parts c.in_ok-going.ensures.ok))
    c.if-not-goes.ensures

pub loop-self-smaller : goal.loop-self-smaller
loop-self-smaller c =
    let knows = knows_of c.args.setting.now.results in
    let object = c.args.setting.now.object in
    let now = c.loop-self.self in
    let later = frame_of c.step.new.self in
    let came = c.quick.ensures.came (record { image = c.args.image.now; object = object }) c.loop-self.invariant.1 in
    let same = came_as (step (framed knows) (record { image = c.args.image.now; object = object }) (frame_of now)) now c.quick.new.self c.quick.result quick.Waits c.in-Waits.is came in
    step_nearer c.args.image.now (subst (λ image. is_image image ≡ true) c.raw-raw.ensures.parts c.raw-raw.ensures.image) knows object (frame_of now) later
    (is_short c.args.image.now c.step.new.self.code)
    (subst (λ f. step (framed knows) (record { image = c.args.image.now; object = object }) f ≡ next_of c.in_ok-going.going later) same
    (subst (λ image. step (framed knows) (record { image = image; object = object }) (frame_of c.quick.new.self) ≡ next_of c.in_ok-going.going later) c.raw-raw.ensures.parts c.in_ok-going.ensures.ok)
    ∙ ap (λ m. next_of m later) c.if-not-goes.ensures)

pub loop-self-preserved : goal.loop-self-preserved
loop-self-preserved c =
    let knows = knows_of c.args.setting.now.results in
    let object = c.args.setting.now.object in
    let now = c.loop-self.self in
    let later = frame_of c.step.new.self in
    let came = c.quick.ensures.came (record { image = c.args.image.now; object = object }) c.loop-self.invariant.1 in
    let same = came_as (step (framed knows) (record { image = c.args.image.now; object = object }) (frame_of now)) now c.quick.new.self c.quick.result quick.Waits c.in-Waits.is came in (
      goes_further knows (record { image = c.args.image.now; object = object }) (frame_of c.args.self.now) (frame_of now) later c.loop-self.invariant.0
          (subst (λ f. step (framed knows) (record { image = c.args.image.now; object = object }) f ≡ next_of c.in_ok-going.going later) same
          (subst (λ image. step (framed knows) (record { image = image; object = object }) (frame_of c.quick.new.self) ≡ next_of c.in_ok-going.going later) c.raw-raw.ensures.parts c.in_ok-going.ensures.ok)
          ∙ ap (λ m. next_of m later) c.if-not-goes.ensures),
      c.text_of-text-in-loop-self.ensures ∙ ap (λ image. text_at image (code_of c.step.new.self.code)) c.raw-raw.ensures.parts,
    )
