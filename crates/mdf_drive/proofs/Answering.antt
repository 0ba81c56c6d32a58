-- At rest actors have fired where their arguments are known, and results are the answers of their calls.
use Rattle.std.proofs.Common.{◌≡◌, ◌<◌, ◌≤◌, ℕ, zero, suc, List, ◌∷◌, Some, refl, sym, ap, ap₂, ◌∙◌, subst, arith}
use Rattle.std.specs.FinMap.{empty}
use Rattle.mpl_value.specs.declared.body.Arg.{Arg}
use Rattle.mpl_value.specs.CallAnswers.{any_unknown, arg_of_reply, known_words, leftmost_trap}
use Rattle.mdf_actor.specs.Statuses.{is_over}
use Rattle.mdf_actor.specs.declared.status.ActorStatus.{ActorStatus}
use Rattle.mdf_actor.specs.declared.status.ActorStatus.TheVariants as status
use Rattle.mdf_code.specs.Right.{OwnYield}
use Rattle.mdf_code.specs.Told.{has_given}
use Rattle.mdf_code.specs.Yields.{Yields}
use Rattle.mdf_code.proofs.YieldingThrough.{yields_through}
use Rattle.mdf_match.specs.Ports.{missing_in}
use Rattle.mdf_core.specs.declared.status.MachineStatus.TheVariants.{Rest}
use Rattle.mdf_core.specs.Actors.{arguments_of, known_of, member_of}
use Rattle.mdf_core.specs.Enabled.{IsLog}
use Rattle.mdf_core.specs.Events.{Quit}
use Rattle.mdf_core.specs.Stages.{HasArguments, Starts, has_begun, once_if, times_fired}
use Rattle.mdf_core.specs.Steps.{Log, after}
use Rattle.mdf_core.specs.Worlds.{Job, World}
use Rattle.mdf_core.proofs.Changes.{MissesAt}
use Rattle.mdf_core.proofs.Fates.{is_early}
use Rattle.mdf_core.proofs.Staging.{fire_once}
use Rattle.mdf_core.proofs.Standing.{stand}
use Rattle.mdf_drive.specs.AtRest.{AnswerUnlessTrapped, AnswerUnlessUnknown, IsAnswer, fires_unless, fires_with, result_seen}
use Rattle.mdf_drive.specs.Plain.{IsPlain, StraysAsBodies}
use Rattle.mdf_drive.proofs.DirectRun.{counts, rested}
use Rattle.mdf_drive.proofs.Plainness.{made_member}
use Rattle.mdf_drive.proofs.SeenArguments.{arguments_seen}
use Rattle.mdf_drive.proofs.Tallies.{Did, DidAt, Own, Rested, member_start, none_unknown, unknown_missing}

-- ---- fires

fires_at : (job : Job) (w : World) (r : Rested job w) (c n : ℕ) → c < w.count → Did job w c n → once_if (has_begun (w.actors c).status) ≡ fires_with (arguments_of (w.actors c).ports)
fires_at job w r c n there did = at (w.actors c).status (r.stages c).arguments (r.standing c).misses did where
  args : List Arg
  args = arguments_of (w.actors c).ports

  at : (s : ActorStatus) → HasArguments job (w.actors c) s → MissesAt s (missing_in (w.actors c).ports) → DidAt job w c n s → once_if (has_begun s) ≡ fires_with (arguments_of (w.actors c).ports)
  at (status.Waiting zero) h misses d = absurd (cc (h.0, r.plain c there))
  at (status.Waiting (suc m)) h misses d = sym (ap (λ b. fires_unless b (leftmost_trap args)) (unknown_missing (w.actors c).ports m misses))
  at status.Ready h misses d = absurd d
  at status.Running h misses d = absurd d
  at (status.Parked child) h misses d = sym (ap₂ fires_unless (none_unknown (w.actors c).ports misses) h.untrapped)
  at status.Ended h misses d = sym (ap₂ fires_unless (none_unknown (w.actors c).ports misses) h.untrapped)
  at status.Poisoned h misses d = sym (ap₂ fires_unless (none_unknown (w.actors c).ports misses) h.leftmost)

pub actors_fire : (job : Job) (log : Log) → IsPlain job → StraysAsBodies job (after job log) → IsLog job (Quit Rest ∷ log) → (c : ℕ) → c < (after job log).count → times_fired c log ≡ fires_with (arguments_of ((after job log).actors c).ports)
actors_fire job log main strays h c there = let k = counts job log main strays h in
    fire_once job log h.1 c ∙ fires_at job (after job log) (rested job log main h) c (k.g c) there (k.did c there)

pub others_fire_not : (job : Job) (log : Log) → IsLog job log → (c : ℕ) → (after job log).count ≤ c → times_fired c log ≡ 0
others_fire_not job log h c beyond = fire_once job log h c ∙ ap (λ s. once_if (has_begun s)) ((stand job log h c).beyond beyond).0

-- ---- answers

answer_at : (job : Job) (w : World) (r : Rested job w) (c n member : ℕ) → c < w.count → (w.actors c).call.member ≡ Some (record { 0 = member }) → Did job w c n →
    AnswerUnlessUnknown job member (arguments_of (w.actors c).ports) (result_seen w (Some c)) (any_unknown (arguments_of (w.actors c).ports))
answer_at job w r c n member there named did = at (w.actors c).status refl (r.stages c).arguments (r.standing c).misses did where
  args : List Arg
  args = arguments_of (w.actors c).ports

  begun : missing_in (w.actors c).ports ≡ 0 → Starts job (w.actors c) → Own job w c n → AnswerUnlessUnknown job member (arguments_of (w.actors c).ports) (result_seen w (Some c)) (any_unknown (arguments_of (w.actors c).ports))
  begun none s o = subst (AnswerUnlessUnknown job member args (result_seen w (Some c))) (sym (none_unknown (w.actors c).ports none))
      (subst (AnswerUnlessTrapped job member args (result_seen w (Some c))) (sym s.untrapped) (o.yield, own, sym o.result)) where
        own : OwnYield job.image member (known_words (arguments_of (w.actors c).ports)) o.yield
        own = record {
          turns = o.yield.turns;
          yields = subst (λ b. Yields job.image b empty o.yield.turns o.yield) (member_start job w r c member there named s) (yields_through job.image (w.actors c).start empty o.yield.turns o.yield o.through (omega arith));
          unspent = o.unspent;
        }

  at : (s : ActorStatus) → (w.actors c).status ≡ s → HasArguments job (w.actors c) s → MissesAt s (missing_in (w.actors c).ports) → DidAt job w c n s →
      AnswerUnlessUnknown job member (arguments_of (w.actors c).ports) (result_seen w (Some c)) (any_unknown (arguments_of (w.actors c).ports))
  at (status.Waiting zero) is h misses d = absurd (cc (h.0, r.plain c there))
  at (status.Waiting (suc m)) is h misses d = let f = r.fated c in let opened = f.unsettled (ap has_given (f.untold (ap is_early is))) (ap is_over is) in
      subst (AnswerUnlessUnknown job member args (result_seen w (Some c))) (sym (unknown_missing (w.actors c).ports m misses)) (ap (λ o. arg_of_reply o) (ap known_of opened))
  at status.Ready is h misses d = absurd d
  at status.Running is h misses d = absurd d
  at (status.Parked child) is h misses d = begun misses h d
  at status.Ended is h misses d = begun misses h d
  at status.Poisoned is h misses d = subst (AnswerUnlessUnknown job member args (result_seen w (Some c))) (sym (none_unknown (w.actors c).ports misses))
      (subst (AnswerUnlessTrapped job member args (result_seen w (Some c))) (sym h.leftmost) (ap (λ o. arg_of_reply o) (ap known_of h.is)))

pub answers : (job : Job) (log : Log) → IsPlain job → StraysAsBodies job (after job log) → IsLog job (Quit Rest ∷ log) → (c : ℕ) → 0 < c → c < (after job log).count → IsAnswer job (after job log) c
answers job log main strays h c first there = let w = after job log in let r = rested job log main h in let k = counts job log main strays h in record {
  arguments = arguments_seen w r.still c there (r.stages c).member.sized;
  answer = at (made_member job w r.tree r.so c first there);
} where
  at : (m : ℕ) × (((after job log).actors c).call.member ≡ Some (record { 0 = m })) →
      AnswerUnlessUnknown job (member_of ((after job log).actors c).call).0 (arguments_of ((after job log).actors c).ports) (result_seen (after job log) (Some c)) (any_unknown (arguments_of ((after job log).actors c).ports))
  at (m, named) = let k = counts job log main strays h in
      subst (λ n. AnswerUnlessUnknown job n (arguments_of ((after job log).actors c).ports) (result_seen (after job log) (Some c)) (any_unknown (arguments_of ((after job log).actors c).ports)))
      (sym (same named)) (answer_at job (after job log) (rested job log main h) c (k.g c) m there named (k.did c there)) where
        same : ((after job log).actors c).call.member ≡ Some (record { 0 = m }) → (member_of ((after job log).actors c).call).0 ≡ m
        same is = rw (is) refl
