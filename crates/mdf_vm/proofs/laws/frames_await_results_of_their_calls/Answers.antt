use Rattle.std.proofs.Common.{◌≤◌, ◌∙◌, ℕ, ap, subst, sym}
use Rattle.mdf_code.specs.Told.{NamesMade, calls_made}
use Rattle.mdf_code.proofs.ToldFrames.{names_made}
use Rattle.mdf_vm.specs.Standing.{last_at}
use Rattle.mdf_vm.proofs.laws.frames_await_results_of_their_calls.Goals as goal

pub returns : goal.returns
returns c = λ image start told stood number f halts needs left calls.
    let made = subst (NamesMade (calls_made told)) needs (names_made image start told stood halts) in
    (left ∙ ap last_at needs, made.0, subst (λ (n : ℕ). number ≤ n) (sym calls) made.1)
