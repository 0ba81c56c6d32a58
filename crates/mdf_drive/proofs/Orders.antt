-- Two logs of one job did the same.
use Rattle.std.proofs.Common.{◌≡◌, ◌≤◌, ◌∷◌, sym, ap, ◌∙◌, subst, arith}
use Rattle.std.specs.FinMap.{empty}
use Rattle.mpl_value.specs.declared.body.Yield.{Yield}
use Rattle.mpl_mean.specs.Meaning.DirectRun.{main_start}
use Rattle.mdf_code.proofs.MoreSteps.{one_yield}
use Rattle.mdf_core.specs.declared.status.MachineStatus.TheVariants.{Rest}
use Rattle.mdf_core.specs.Enabled.{IsLog}
use Rattle.mdf_core.specs.Events.{Quit}
use Rattle.mdf_core.specs.Rest.{MainDid}
use Rattle.mdf_core.specs.Steps.{Log, after}
use Rattle.mdf_core.specs.Worlds.{Job}
use Rattle.mdf_drive.specs.AtRest.{SameRun}
use Rattle.mdf_drive.specs.Plain.{IsPlain, StraysAsBodies}
use Rattle.mdf_drive.proofs.DirectRun.{direct_run}
use Rattle.mdf_drive.proofs.Spending.{turns_within_run}

pub same_run : (job : Job) (one other : Log) → IsPlain job → StraysAsBodies job (after job one) → StraysAsBodies job (after job other) → IsLog job (Quit Rest ∷ one) → IsLog job (Quit Rest ∷ other) → SameRun job (after job one) (after job other)
same_run job one other main strays others h k =
    let a = direct_run job one main strays h in let b = direct_run job other main others k in
    let same : b.yield ≡ a.yield = one_yield job.image (main_start job.input) empty job.budget b.yield a.yield b.yields a.yields in record {
      turns = a.turns ∙ (sym (ap (λ (y : Yield). y.turns) same) ∙ sym b.turns);
      end = a.yield.end;
      lines = a.yield.lines;
      did = a.did;
      other_did = subst (λ (y : Yield). MainDid job (after job other) y.end y.lines) same b.did;
    }

pub turns_not_more : (job : Job) (one other : Log) → IsPlain job → StraysAsBodies job (after job one) → StraysAsBodies job (after job other) → IsLog job (Quit Rest ∷ one) → IsLog job other → (after job other).turns ≤ (after job one).turns
turns_not_more job one other main strays others h k = let a = direct_run job one main strays h in
    omega (arith, a.turns, turns_within_run job other a.yield job.budget main others k a.yields a.unspent)
