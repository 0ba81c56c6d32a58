use Rattle.std.proofs.Common.{◌≡◌, sym, ap, subst, ◌∙◌, arith, true, false}
use Rattle.mdf_core.specs.declared.status.MachineStatus.TheVariants as machine
use Rattle.mdf_core.specs.Steps.{Log, after}
use Rattle.mdf_core.specs.Worlds.{Job}
use Rattle.mdf_machine.specs.Courses.{Course}
use Rattle.mdf_machine.specs.MachineEnds.{Quits}
use Rattle.mdf_machine.proofs.Quitted.{goes_on_still, is_over, nothing_left, quit_kept, something_left}
use Rattle.mdf_machine.proofs.machine.Machine.quit.Goals as goal

pub invariant_of-self-then-self : goal.invariant_of-self-then-self
invariant_of-self-then-self c =
    let job : Job = record { image = c.self.inside.image; input = c.self.inside.input; budget = c.self.inside.budget } in
    let k = c.self.invariant in
    quit_kept job c.self.inside.history c.push.new.self c.self.inside.parts machine.Spent k c.in_ok-push.ensures.ok (sym k.holds.why ∙ c.in-Going.is) (omega (arith, c.if-self.true, k.holds.turns))

pub returns-then-not-is_idle-clause-ok : goal.returns-then-not-is_idle-clause-ok
returns-then-not-is_idle-clause-ok c =
    let job : Job = record { image = c.self.inside.image; input = c.self.inside.input; budget = c.self.inside.budget } in
    let k = c.self.invariant in
    let going : (after job c.self.inside.history).why ≡ machine.Going = sym k.holds.why ∙ c.in-Going.is in
    subst (λ (o : Course). Quits o o false) c.self.view_is
    (goes_on_still (record { job = job; log = c.self.inside.history }) going
    (something_left job c.self.inside.history c.self.inside.parts k going (sym c.is_idle.ensures ∙ c.if-not-is_idle.true))
    (omega (arith, c.if-self.false, k.holds.turns)))

pub invariant_of-self-2 : goal.invariant_of-self-2
invariant_of-self-2 c =
    let job : Job = record { image = c.self.inside.image; input = c.self.inside.input; budget = c.self.inside.budget } in
    let k = c.self.invariant in
    let going : (after job c.self.inside.history).why ≡ machine.Going = sym k.holds.why ∙ c.in-Going.is in
    quit_kept job c.self.inside.history c.push-2.new.self c.self.inside.parts machine.Rest k c.in_ok-push-2.ensures.ok going
    (nothing_left job c.self.inside.history c.self.inside.parts k going (sym c.is_idle.ensures ∙ c.if-not-is_idle.false), omega (arith, c.if-self.false, k.holds.turns))

pub returns-clause-ok : goal.returns-clause-ok
returns-clause-ok c =
    let job : Job = record { image = c.self.inside.image; input = c.self.inside.input; budget = c.self.inside.budget } in
    let k = c.self.invariant in
    let going : (after job c.self.inside.history).why ≡ machine.Going = sym k.holds.why ∙ c.in-Going.is in
    subst (λ (o : Course). Quits o (record { job = job; log = c.push-2.new.self }) true) c.self.view_is
    (is_over (record { job = job; log = c.self.inside.history }) (record { job = job; log = c.push-2.new.self }) machine.Rest going
    (nothing_left job c.self.inside.history c.self.inside.parts k going (sym c.is_idle.ensures ∙ c.if-not-is_idle.false), omega (arith, c.if-self.false, k.holds.turns))
    (ap (λ (log : Log). record { job = job; log = log }) c.in_ok-push-2.ensures.ok))
