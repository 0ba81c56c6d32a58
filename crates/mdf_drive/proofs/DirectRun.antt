-- A log at rest is the direct run.
use Rattle.std.proofs.Common.{◌≡◌, ◌<◌, ℕ, zero, suc, [], ◌∷◌, None, sym, ap, ◌∙◌, subst, arith}
use Rattle.std.specs.FinMap.{empty}
use Rattle.mpl_value.specs.CallAnswers.{leftmost_trap}
use Rattle.mpl_mean.specs.Meaning.DirectRun.{main_start}
use Rattle.mdf_actor.specs.declared.status.ActorStatus.{ActorStatus}
use Rattle.mdf_actor.specs.declared.status.ActorStatus.TheVariants as status
use Rattle.mdf_code.specs.Yields.{Yields}
use Rattle.mdf_code.proofs.YieldingThrough.{yields_through}
use Rattle.mdf_match.specs.Ports.{missing_in}
use Rattle.mdf_core.specs.declared.status.MachineStatus.TheVariants.{Rest}
use Rattle.mdf_core.specs.Actors.{Call, arguments_of}
use Rattle.mdf_core.specs.Enabled.{IsLog}
use Rattle.mdf_core.specs.Events.{Quit}
use Rattle.mdf_core.specs.Stages.{HasArguments, Starts, StartsPlain, OfMain, OfMember}
use Rattle.mdf_core.specs.Steps.{Log, after}
use Rattle.mdf_core.specs.Worlds.{Job, World}
use Rattle.mdf_core.proofs.Awaiting.{all_awaited}
use Rattle.mdf_core.proofs.Changes.{MissesAt}
use Rattle.mdf_core.proofs.Fates.{fated}
use Rattle.mdf_core.proofs.FilledPorts.{ports_fit}
use Rattle.mdf_core.proofs.Running.{turns_sum}
use Rattle.mdf_core.proofs.Staging.{as_statuses_say}
use Rattle.mdf_core.proofs.Standing.{stand}
use Rattle.mdf_core.proofs.Timely.{arcs_are_due}
use Rattle.mdf_core.proofs.ToldSo.{so}
use Rattle.mdf_core.proofs.TreeOfActors.{sums_up, tree}
use Rattle.mdf_core.proofs.Wired.{arcs_lead}
use Rattle.mdf_drive.specs.AtRest.{IsDirectRun}
use Rattle.mdf_drive.specs.Plain.{IsPlain, StraysAsBodies}
use Rattle.mdf_drive.proofs.Plainness.{all_plain, main_call_is, main_there}
use Rattle.mdf_drive.proofs.Resting.{resting}
use Rattle.mdf_drive.proofs.Settling.{all_settled}
use Rattle.mdf_drive.proofs.Tallies.{Did, DidAt, Own, Rested, plain_start}
use Rattle.mdf_drive.proofs.TreeTurns.{all_turns, tree_turns}

pub rested : (job : Job) (log : Log) → IsPlain job → IsLog job (Quit Rest ∷ log) → Rested job (after job log)
rested job log main h = let w = after job log in let t = tree job log h.1 in let s = as_statuses_say job log h.1 in record {
  still = record { rest = resting job w h.0.0 h.0.1.0; awaited = all_awaited job log h.1; lead = arcs_lead job log h.1; due = arcs_are_due job log h.1; fits = ports_fit job log h.1 };
  tree = t;
  stages = s;
  standing = stand job log h.1;
  fated = fated job log h.1;
  so = so job log h.1;
  plain = all_plain job w main t s (so job log h.1) (main_call_is job log h.1);
  main = main;
}

-- so many turns each actor has, with those of its calls
pub record Counts (job : Job) (w : World) : Type 0 where
  pub g : ℕ → ℕ
  pub did : (c : ℕ) → c < w.count → Did job w c (g c)
  pub all : g 0 ≡ w.turns

pub counts : (job : Job) (log : Log) → IsPlain job → StraysAsBodies job (after job log) → IsLog job (Quit Rest ∷ log) → Counts job (after job log)
counts job log main strays h = let w = after job log in let k = tree_turns w (tree job log h.1) (λ c. (w.actors c).spent) in record {
  g = k.0;
  did = all_settled job w (rested job log main h) strays k.0 k.1;
  all = all_turns w (λ c. (w.actors c).spent) k.0 k.1 (sums_up job log h.1 k.0) ∙ sym (turns_sum job log h.1);
}

-- `main` began
main_own : (job : Job) (log : Log) (r : Rested job (after job log)) → IsLog job log → (n : ℕ) → Did job (after job log) 0 n → Own job (after job log) 0 n × Starts job ((after job log).actors 0)
main_own job log r l n did = at ((after job log).actors 0).status (r.stages 0).arguments (r.standing 0).misses did where
  call : ((after job log).actors 0).call.member ≡ None
  call = ap (λ (c : Call). c.member) (main_call_is job log l)

  ports : ((after job log).actors 0).ports ≡ []
  ports = (r.stages 0).member.alone (ap (λ (c : Call). c.member) (main_call_is job log l))

  at : (s : ActorStatus) → HasArguments job ((after job log).actors 0) s → MissesAt s (missing_in ((after job log).actors 0).ports) → DidAt job (after job log) 0 n s → Own job (after job log) 0 n × Starts job ((after job log).actors 0)
  at (status.Waiting zero) args misses d = absurd (cc (args.0, r.plain 0 (main_there job log l)))
  at (status.Waiting (suc m)) args misses d = absurd (omega (arith, misses, ap missing_in ports))
  at status.Ready args misses d = absurd d
  at status.Running args misses d = absurd d
  at (status.Parked child) args misses o = (o, args)
  at status.Ended args misses o = (o, args)
  at status.Poisoned args misses d = absurd (cc (args.leftmost, ap (λ p. leftmost_trap (arguments_of p)) ports))

pub direct_run : (job : Job) (log : Log) → IsPlain job → StraysAsBodies job (after job log) → IsLog job (Quit Rest ∷ log) → IsDirectRun job (after job log)
direct_run job log main strays h = record {
  yield = o.0.yield;
  yields = subst (λ b. Yields job.image b empty job.budget o.0.yield) start (yields_through job.image ((after job log).actors 0).start empty job.budget o.0.yield o.0.through
      (omega (arith, o.0.turns, k.all, h.0.1.1)));
  turns = sym (o.0.turns ∙ k.all);
  unspent = o.0.unspent;
  did = record { stood = o.0.stood; halts = o.0.halts; ended = o.0.ended; printed = o.0.printed };
} where
  r : Rested job (after job log)
  r = rested job log main h

  k : Counts job (after job log)
  k = counts job log main strays h

  o : Own job (after job log) 0 (k.g 0) × Starts job ((after job log).actors 0)
  o = main_own job log r h.1 (k.g 0) (k.did 0 (main_there job log h.1))

  start : ((after job log).actors 0).start ≡ main_start job.input
  start = at (plain_start job ((after job log).actors 0) (r.plain 0 (main_there job log h.1)) o.1) where
    at : StartsPlain job ((after job log).actors 0).call ((after job log).actors 0).ports ((after job log).actors 0).start → ((after job log).actors 0).start ≡ main_start job.input
    at (OfMain none is) = is
    at (OfMember m named is) = absurd (cc (named, ap (λ (c : Call). c.member) (main_call_is job log h.1)))
