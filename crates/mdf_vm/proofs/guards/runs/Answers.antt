use Rattle.std.proofs.Common.{◌≡◌, ◌∙◌, ◌-◌, ◌+◌, ℕ, length, zero-add, Bool, true, false, cond, sym, ap, subst}
use Rattle.std.proofs.lemmas.Option.{slice_get_within}
use Rattle.std.specs.Option.{option_copied}
use Rattle.mdf_code.specs.Guards.{runs_guard}
use Rattle.mdf_code.specs.Images.{stands_in_guard}
use Rattle.mdf_code.proofs.Passing.{stands_at}
use Rattle.mdf_vm.specs.Internal.Guarded.{Looks, guard_around, guard_at}
use Rattle.mdf_vm.proofs.GuardRuns.{guard_end, guard_turn, more_left}
use Rattle.mdf_vm.proofs.guards.runs.Goals as goal

pub returns-in_default : goal.returns-in_default
returns-in_default g c = λ image entry text.
    c.pop_true.ensures ∙ sym (c.loop-step.invariant image entry text ∙ guard_end (record { image = image; entry = entry; formals = g.F.Formals.words c.args.formals.now; state = c.args.state.now }) c.args.guard.now (length c.args.guard.now - c.loop-step._step) c.loop-step.going text (sym c.instruction_of.ensures ∙ ap option_copied c.in_default.is))

pub step-requires-clause-within : goal.step-requires-clause-within
step-requires-clause-within g c =
    slice_get_within c.args.guard.now c.loop-step.going.place c.in-Some.instruction.now (sym c.instruction_of.ensures ∙ ap option_copied c.in-Some.is)

pub step-requires-clause-stands : goal.step-requires-clause-stands
step-requires-clause-stands g c =
    subst (λ (p : ℕ). stands_in_guard p c.in-Some.instruction.now ≡ true) (zero-add c.loop-step.going.place)
    (stands_at c.args.guard.now 0 c.loop-step.going.place c.in-Some.instruction.now c.requires.sound (sym c.instruction_of.ensures ∙ ap option_copied c.in-Some.is))

pub returns-then-not-step : goal.returns-then-not-step
returns-then-not-step g c = λ image entry text.
    let l : Looks = record { image = image; entry = entry; formals = g.F.Formals.words c.args.formals.now; state = c.args.state.now } in
    let fuel = length c.args.guard.now - (c.loop-step._step + 1) in
    sym (c.loop-step.invariant image entry text
    ∙ (ap (λ (n : ℕ). runs_guard n (guard_around l) (guard_at l c.loop-step.going)) (more_left (length c.args.guard.now) c.loop-step._step c.loop-step-test.true)
    ∙ (guard_turn l c.args.guard.now fuel c.in-Some.instruction.now c.loop-step.going c.step.new.self c.step.result text (sym c.instruction_of.ensures ∙ ap option_copied c.in-Some.is) (c.step.ensures image entry (ap length text))
    ∙ ap (λ (b : Bool). cond b (runs_guard fuel (guard_around l) (guard_at l c.step.new.self)) false) c.if-not-step.true)))

pub loop-step-preserved : goal.loop-step-preserved
loop-step-preserved g c = λ image entry text.
    let l : Looks = record { image = image; entry = entry; formals = g.F.Formals.words c.args.formals.now; state = c.args.state.now } in
    let fuel = length c.args.guard.now - (c.loop-step._step + 1) in
    c.loop-step.invariant image entry text
    ∙ (ap (λ (n : ℕ). runs_guard n (guard_around l) (guard_at l c.loop-step.going)) (more_left (length c.args.guard.now) c.loop-step._step c.loop-step-test.true)
    ∙ (guard_turn l c.args.guard.now fuel c.in-Some.instruction.now c.loop-step.going c.step.new.self c.step.result text (sym c.instruction_of.ensures ∙ ap option_copied c.in-Some.is) (c.step.ensures image entry (ap length text))
    ∙ ap (λ (b : Bool). cond b (runs_guard fuel (guard_around l) (guard_at l c.step.new.self)) false) c.if-not-step.false))
