-- A machine takes no more turns than the direct run, where that isn't spent.
use Rattle.std.proofs.Common.{◌≡◌, ◌≢◌, ◌+◌, ◌<◌, ◌≤◌, ◌⊎◌, ℕ, zero, suc, Bool, true, false, Some, refl, sym, ap, ◌∙◌, subst, arith, inl, inr}
use Rattle.std.specs.FinMap.{empty}
use Rattle.mpl_value.specs.declared.body.BodyEnd.{BodyEnd}
use Rattle.mpl_value.specs.declared.body.BodyEnd.TheVariants as end
use Rattle.mpl_value.specs.declared.body.BodyResult.TheVariants as result
use Rattle.mpl_value.specs.declared.body.Yield.{Yield}
use Rattle.mpl_value.specs.declared.known.Known.{Known}
use Rattle.mpl_value.specs.CallAnswers.{arg_of_reply, arg_of_result}
use Rattle.mpl_mean.specs.Meaning.DirectRun.{main_start}
use Rattle.mdf_actor.specs.Statuses.{is_over}
use Rattle.mdf_actor.specs.declared.status.ActorStatus.{ActorStatus}
use Rattle.mdf_actor.specs.declared.status.ActorStatus.TheVariants as status
use Rattle.mdf_code.specs.Frames.{Calls, Creates, Ends, Needs, Replies, Strays, Traps}
use Rattle.mdf_code.specs.Right.{Account, EndsAt, IsRightAt, Through, with_turns}
use Rattle.mdf_code.specs.Told.{Beats, Halt, HaltsNext, Stands, Stood, Told, has_given}
use Rattle.mdf_code.specs.Yields.{Yields, missed_at, or_missed, replies_of, result_at_trap}
use Rattle.mdf_code.proofs.ComingThrough.{comes_through}
use Rattle.mdf_code.proofs.CountedSteps.{within_counted}
use Rattle.mdf_core.specs.Actors.{Call, known_of}
use Rattle.mdf_core.specs.Enabled.{IsLog, ending_at}
use Rattle.mdf_core.specs.Events.{Ending, Finishes, Fails}
use Rattle.mdf_core.specs.Stages.{Began, HaltsAgain, HaltsEnded, HaltsParked, HasArguments, Halted, HasTurns, Idle, Starts, StartsPlain, OfMain, OfMember, has_begun}
use Rattle.mdf_core.specs.Steps.{Log, after, result_at_end}
use Rattle.mdf_core.specs.Trees.{over_calls, over_children}
use Rattle.mdf_core.specs.Worlds.{Job, World, known_at}
use Rattle.mdf_core.proofs.Fates.{fated}
use Rattle.mdf_core.proofs.FilledPorts.{ports_fit}
use Rattle.mdf_core.proofs.Running.{turns_sum}
use Rattle.mdf_core.proofs.Staging.{as_statuses_say}
use Rattle.mdf_core.proofs.Standing.{stand}
use Rattle.mdf_core.proofs.ToldSo.{so}
use Rattle.mdf_core.proofs.TreeOfActors.{sums_up, tree}
use Rattle.mdf_code.specs.Told.{calls_made}
use Rattle.mdf_drive.specs.Plain.{IsPlain, StraysAsBodies}
use Rattle.mdf_drive.proofs.Agreeing.{Agrees, AgreesAt, AgreesUpTo, AgreesWith, Logged, agrees_upto}
use Rattle.mdf_drive.proofs.Fronts.{WayOn, AtEnd, Further, given_stays, turns_to, turns_within, way_on}
use Rattle.mdf_drive.proofs.Plainness.{all_plain, main_call_is, main_there}
use Rattle.mdf_drive.proofs.Settling.{fate_seen, start_member}
use Rattle.mdf_drive.proofs.Tallies.{arg_of_result_of, plain_start}
use Rattle.mdf_drive.proofs.TreeTurns.{all_turns, tree_turns}

pub logged : (job : Job) (log : Log) → IsPlain job → StraysAsBodies job (after job log) → IsLog job log → Logged job (after job log)
logged job log main strays h = let w = after job log in let t = tree job log h in let s = as_statuses_say job log h in record {
  tree = t;
  stages = s;
  standing = stand job log h;
  fated = fated job log h;
  so = so job log h;
  fits = ports_fit job log h;
  plain = all_plain job w main t s (so job log h) (main_call_is job log h);
  main = main;
  strays = strays;
}

-- ---- an actor

module _ (job : Job) (w : World) (r : Logged job w) (g : ℕ → ℕ) (each : (c : ℕ) → c < w.count → g c ≡ (w.actors c).spent + over_calls g (w.actors c)) where
  module _ (c : ℕ) (there : c < w.count) (later : (d : ℕ) → c < d → d < w.count → AgreesAt job w d (g d) (w.actors d).status) where
    idle_turns : Idle (w.actors c) → g c ≡ 0
    idle_turns i = omega (arith, each c there, i.spent, ap (λ t. over_children g (w.actors c).child (calls_made t)) i.told)

    module _ (starts : Starts job (w.actors c)) (began : Began job (w.actors c)) (begun : has_begun (w.actors c).status ≡ true) (m : ℕ) (y : Yield) (yields : Yields job.image (w.actors c).start empty m y) (unspent : y.end ≢ end.Spent) where
      through : Through job.image (w.actors c).start empty y
      through = comes_through job.image (w.actors c).start empty m y (r.strays c there begun) yields unspent

      done : (a : Account) × AgreesUpTo job w g c (w.actors c).told began.upto a
      done = agrees_upto job w r g c there starts y through later (w.actors c).told began.upto (r.so c there) began.turns

      module _ (a : Account) (t : AgreesUpTo job w g c (w.actors c).told began.upto a) where
        turns_on : a.turns + (w.actors c).counted ≤ y.turns → g c ≤ y.turns
        turns_on h = omega (arith, h, t.turns, began.spent, each c there)

        stopped : (stood : Stood) → HaltsNext job.image (w.actors c).start (w.actors c).told stood → (w.actors c).counted ≡ stood.turns → g c ≤ y.turns
        stopped stood halts counted = turns_on (omega (arith, turns_to job.image (w.actors c).start y through (w.actors c).told a stood t.right halts, counted))

        nothing_counted : (w.actors c).counted ≡ 0 → g c ≤ y.turns
        nothing_counted none = turns_on (omega (arith, turns_within job.image (w.actors c).start y through (w.actors c).told a t.right, none))

        -- a result that was given
        given_is : has_given (w.actors c).told ≡ true → (k : Known) → known_at w (Some c) ≡ Some k → arg_of_result y.result ≡ arg_of_reply (Some k)
        given_is is k knows = let v = t.given is in
            ap arg_of_result (given_stays job.image (w.actors c).start y through (w.actors c).told a v.0 t.right is v.1) ∙ (arg_of_result_of v.0 ∙ v.2 k knows)

        by_gift : (has_given (w.actors c).told ≡ false → (k : Known) → known_at w (Some c) ≡ Some k → arg_of_result y.result ≡ arg_of_reply (Some k)) → (k : Known) → known_at w (Some c) ≡ Some k → arg_of_result y.result ≡ arg_of_reply (Some k)
        by_gift none k knows = at (has_given (w.actors c).told) refl where
          at : (b : Bool) → has_given (w.actors c).told ≡ b → arg_of_result y.result ≡ arg_of_reply (Some k)
          at true is = given_is is k knows
          at false is = none is k knows

        not_over : is_over (w.actors c).status ≡ false → (k : Known) → known_at w (Some c) ≡ Some k → arg_of_result y.result ≡ arg_of_reply (Some k)
        not_over over = by_gift (λ none k knows. absurd (cc (knows, ap known_of ((r.fated c).unsettled none over))))

        member : (w.actors c).start.member ≡ (w.actors c).call.member
        member = start_member job (w.actors c) (plain_start job (w.actors c) (r.plain c there) starts)

        same_ending : (d e : Ending) → Some d ≡ Some e → e ≡ d
        same_ending d e h = cc h

        missed : (stood : Stood) (line : ℕ) (ending : Ending) → Some (Finishes line) ≡ Some ending → a.result ≡ result.Open → or_missed (missed_at job.image line (w.actors c).start.member) a.result ≡ result_at_end job (w.actors c) ending
        missed stood line ending is none = ap (or_missed (missed_at job.image line (w.actors c).start.member)) none ∙ (ap (missed_at job.image line) member ∙ ap (result_at_end job (w.actors c)) (sym (same_ending (Finishes line) ending is)))

        ends_open : (stood : Stood) (halt : Halt) (ending : Ending) → ending_at halt ≡ Some ending → EndsAt job.image (w.actors c).start (with_turns stood.turns a) stood.frame halt y → a.result ≡ result.Open → y.result ≡ result_at_end job (w.actors c) ending
        ends_open stood (Stands (Ends line)) ending is e none = sym (ap (λ (z : Yield). z.result) e) ∙ missed stood line ending is none
        ends_open stood (Stands Strays) ending is e none = sym (ap (λ (z : Yield). z.result) e.1) ∙ missed stood 0 ending is none
        ends_open stood (Stands (Traps trap)) ending is e none = sym (ap (λ (z : Yield). z.result) e) ∙ (ap (result_at_trap (w.actors c).start.member trap) none
            ∙ (ap (λ n. result_at_trap n trap result.Open) member ∙ ap (result_at_end job (w.actors c)) (sym (same_ending (Fails trap) ending is))))
        ends_open stood (Stands (Calls called object arguments)) ending is e none = absurd (cc is)
        ends_open stood (Stands (Needs value)) ending is e none = absurd (cc is)
        ends_open stood (Stands (Replies value)) ending is e none = absurd (cc is)
        ends_open stood (Stands (Creates class)) ending is e none = absurd (cc is)
        ends_open stood Beats ending is e none = absurd (cc is)

        -- at an end nothing more is told
        nothing_told : (x b : Account) (halt : Halt) (ending : Ending) (u : Told) → ending_at halt ≡ Some ending → IsRightAt job.image (w.actors c).start (replies_of empty) x halt u b → ⊥
        nothing_told x b (Stands (Ends line)) ending u is h = h
        nothing_told x b (Stands Strays) ending u is h = h
        nothing_told x b (Stands (Traps trap)) ending u is h = h
        nothing_told x b (Stands (Calls called object arguments)) ending u is h = cc is
        nothing_told x b (Stands (Needs value)) ending u is h = cc is
        nothing_told x b (Stands (Replies value)) ending u is h = cc is
        nothing_told x b (Stands (Creates class)) ending u is h = cc is
        nothing_told x b Beats ending u is h = cc is

        ended : HaltsEnded job (w.actors c) → (k : Known) → known_at w (Some c) ≡ Some k → arg_of_result y.result ≡ arg_of_reply (Some k)
        ended h = by_gift (λ none k knows. ap arg_of_result (at none (way_on job.image (w.actors c).start y through (w.actors c).told a h.stood t.right h.halts))
            ∙ (sym (fate_seen (result_at_end job (w.actors c) h.ending)) ∙ ap arg_of_reply (sym (ap known_of (h.result none)) ∙ knows))) where
              at : has_given (w.actors c).told ≡ false → WayOn job.image (w.actors c).start y through (w.actors c).told a h.stood → y.result ≡ result_at_end job (w.actors c) h.ending
              at none (AtEnd e) = ends_open h.stood h.stood.halt h.ending h.ends e (t.not_given none)
              at none (Further u b is right) = absurd (nothing_told (with_turns h.stood.turns a) b h.stood.halt h.ending u h.ends is)

        running : (w.actors c).status ≡ status.Running → ((w.actors c).counted ≡ 0) ⊎ HaltsAgain job (w.actors c) → AgreesWith w c (g c) y
        running is (inl none) = record { turns = nothing_counted none; result = not_over (ap is_over is) }
        running is (inr h) = record { turns = stopped h.stood h.halts h.counted; result = not_over (ap is_over is) }

        parked : (child : ℕ) → (w.actors c).status ≡ status.Parked child → HaltsParked job (w.actors c) child → AgreesWith w c (g c) y
        parked child is h = record { turns = stopped h.stood h.halts h.counted; result = not_over (ap is_over is) }

        over : HaltsEnded job (w.actors c) → AgreesWith w c (g c) y
        over h = record { turns = stopped h.stood h.halts h.counted; result = ended h }

    agrees_at : (s : ActorStatus) → (w.actors c).status ≡ s → HasArguments job (w.actors c) s → Halted job (w.actors c) s → HasTurns job (w.actors c) s → AgreesAt job w c (g c) s
    agrees_at (status.Waiting n) is args halted turns = idle_turns turns
    agrees_at status.Ready is args halted turns = idle_turns turns
    agrees_at status.Running is args halted turns = λ m y yields unspent. let d = done args turns (ap has_begun is) m y yields unspent in running args turns (ap has_begun is) m y yields unspent d.0 d.1 is halted
    agrees_at (status.Parked child) is args halted turns = λ m y yields unspent. let d = done args turns (ap has_begun is) m y yields unspent in parked args turns (ap has_begun is) m y yields unspent d.0 d.1 child is halted
    agrees_at status.Ended is args halted turns = λ m y yields unspent. let d = done args turns (ap has_begun is) m y yields unspent in over args turns (ap has_begun is) m y yields unspent d.0 d.1 halted
    agrees_at status.Poisoned is args halted turns = idle_turns turns

  -- from the newest actor down
  agrees_from : (k c : ℕ) → w.count ≤ c + k → c < w.count → AgreesAt job w c (g c) (w.actors c).status
  agrees_from zero c far there = absurd (omega (arith, far, there))
  agrees_from (suc k) c far there = let s = r.stages c in
      agrees_at c there (λ d newer below. agrees_from k d (omega (arith, far, newer)) below) (w.actors c).status refl s.arguments s.halted s.turns

  pub all_agree : (c : ℕ) → c < w.count → AgreesAt job w c (g c) (w.actors c).status
  all_agree c there = agrees_from w.count c (omega arith) there

-- ---- main

main_starts : (job : Job) (log : Log) (r : Logged job (after job log)) → IsLog job log → Starts job ((after job log).actors 0) → ((after job log).actors 0).start ≡ main_start job.input
main_starts job log r h s = at (plain_start job ((after job log).actors 0) (r.plain 0 (main_there job log h)) s) where
  at : StartsPlain job ((after job log).actors 0).call ((after job log).actors 0).ports ((after job log).actors 0).start → ((after job log).actors 0).start ≡ main_start job.input
  at (OfMain none is) = is
  at (OfMember m named is) = absurd (cc (named, ap (λ (c : Call). c.member) (main_call_is job log h)))

-- with turns that suffice in place, the machine takes no more
pub turns_within_run : (job : Job) (log : Log) (y : Yield) (m : ℕ) → IsPlain job → StraysAsBodies job (after job log) → IsLog job log → Yields job.image (main_start job.input) empty m y → y.end ≢ end.Spent → (after job log).turns ≤ y.turns
turns_within_run job log y m main strays h yields unspent = at ((after job log).actors 0).status (r.stages 0).arguments (all_agree job w r k.0 k.1 0 (main_there job log h)) where
  w : World
  w = after job log

  r : Logged job (after job log)
  r = logged job log main strays h

  k : (g : ℕ → ℕ) × ((c : ℕ) → c < (after job log).count → g c ≡ ((after job log).actors c).spent + over_calls g ((after job log).actors c))
  k = tree_turns (after job log) (tree job log h) (λ c. ((after job log).actors c).spent)

  all : k.0 0 ≡ (after job log).turns
  all = all_turns (after job log) (λ c. ((after job log).actors c).spent) k.0 k.1 (sums_up job log h k.0) ∙ sym (turns_sum job log h)

  begun : Starts job ((after job log).actors 0) → Agrees job (after job log) 0 (k.0 0) → (after job log).turns ≤ y.turns
  begun s agrees = let a = agrees m y (subst (λ b. Yields job.image b empty m y) (sym (main_starts job log r h s)) yields) unspent in omega (arith, a.turns, all)

  at : (s : ActorStatus) → HasArguments job ((after job log).actors 0) s → AgreesAt job (after job log) 0 (k.0 0) s → (after job log).turns ≤ y.turns
  at (status.Waiting n) args none = omega (arith, none, all)
  at status.Ready args none = omega (arith, none, all)
  at status.Running args a = begun args a
  at (status.Parked child) args a = begun args a
  at status.Ended args a = begun args a
  at status.Poisoned args none = omega (arith, none, all)

is_spent : (e : BodyEnd) → (e ≡ end.Spent) ⊎ (e ≢ end.Spent)
is_spent end.Done = inr (λ h. cc h)
is_spent (end.Trap t) = inr (λ h. cc h)
is_spent end.Waits = inr (λ h. cc h)
is_spent end.Spent = inl refl

pub over_is_spent : (job : Job) (log : Log) (y : Yield) → IsPlain job → StraysAsBodies job (after job log) → IsLog job log → job.budget < (after job log).turns → Yields job.image (main_start job.input) empty job.budget y → y.end ≡ end.Spent
over_is_spent job log y main strays h beyond yields = at (is_spent y.end) where
  at : (y.end ≡ end.Spent) ⊎ (y.end ≢ end.Spent) → y.end ≡ end.Spent
  at (inl is) = is
  at (inr unspent) = absurd (omega (arith, beyond, turns_within_run job log y job.budget main strays h yields unspent, within_counted job.image (main_start job.input) empty job.budget y yields unspent))
