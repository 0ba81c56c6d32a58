-- What happens to an actor once or once for each of its calls, counted. It grows along a log, and the turns bound it.
use Rattle.std.proofs.Common.{◌+◌, ◌*◌, ◌≤◌, ◌==◌, ℕ, zero, suc, Bool, true, false, List, [], ◌∷◌, Option, Some, None, ap, arith}
use Rattle.mdf_actor.specs.declared.status.ActorStatus.{ActorStatus}
use Rattle.mdf_actor.specs.declared.status.ActorStatus.TheVariants as status
use Rattle.mpl_value.specs.declared.body.BodyStart.{BodyStart}
use Rattle.mdf_code.specs.Told.{Beaten, Called, Gave, Learnt, Named, Told, calls_made, has_given}
use Rattle.mdf_core.specs.Actors.{Actor, is_known}
use Rattle.mdf_core.specs.Awaited.{one_if}
use Rattle.mdf_core.specs.Enabled.{IsLog}
use Rattle.mdf_core.specs.Naming.{sum_below}
use Rattle.mdf_core.specs.Stages.{AsItsStatus, Began, HasTurns, Idle, TurnsUpTo}
use Rattle.mdf_core.specs.Steps.{Log, after}
use Rattle.mdf_core.specs.Trees.{at_child, over_calls, over_children}
use Rattle.mdf_core.specs.Worlds.{Job, World, fate_at, is_in}
use Rattle.mdf_core.proofs.Running.{turns_sum}
use Rattle.mdf_core.proofs.Staging.{as_statuses_say}
use Rattle.mdf_core.proofs.ToldSo.{so}
use Rattle.mdf_core.proofs.TreeOfActors.{sums_up}
use Rattle.mdf_finite.proofs.LearntResults.{learns_few, results_learnt}
use Rattle.mdf_finite.proofs.Sums.{sum_each_more, sum_most, sum_ones}

-- ---- what is counted

-- whether a frame with this status is put away until the result of c is known
abbrev pub is_parked_on : ℕ → ActorStatus → Bool
is_parked_on c (status.Waiting missing) = false
is_parked_on c status.Ready = false
is_parked_on c status.Running = false
is_parked_on c (status.Parked child) = child == c
is_parked_on c status.Ended = false
is_parked_on c status.Poisoned = false

-- A caller may be put away for a result as long as that isn't known, and goes on when it is.
abbrev pub stage : Bool → Bool → ℕ
stage true known = 1
stage false true = 2
stage false false = 0

abbrev pub stage_of : World → ℕ → ℕ
stage_of w c = stage (is_parked_on c (w.actors (w.actors c).call.caller).status) (is_known (fate_at w c))

abbrev pub is_ended : ActorStatus → Bool
is_ended (status.Waiting missing) = false
is_ended status.Ready = false
is_ended status.Running = false
is_ended (status.Parked child) = false
is_ended status.Ended = true
is_ended status.Poisoned = false

-- a frame learns results, gives and ends
abbrev pub of_frame : Actor → ℕ
of_frame x = results_learnt x.told + one_if (is_ended x.status) + 2 * one_if (has_given x.told)

-- a call arrives and is accepted
abbrev pub of_mail : List ℕ → List ℕ → ℕ → ℕ
of_mail arrived accepted c = one_if (is_in c arrived) + one_if (is_in c accepted)

abbrev pub progress : World → ℕ → ℕ
progress w c = of_frame (w.actors c) + stage_of w c + of_mail w.arrived w.accepted c

-- ---- its bound

pub one_few : (b : Bool) → one_if b ≤ 1
one_few true = omega arith
one_few false = omega arith

stage_few : (parked known : Bool) → stage parked known ≤ 2
stage_few true known = omega arith
stage_few false true = omega arith
stage_few false false = omega arith

progress_few : (w : World) (c : ℕ) → results_learnt (w.actors c).told ≤ calls_made (w.actors c).told → progress w c ≤ calls_made (w.actors c).told + 7
progress_few w c learnt =
    let ended = one_few (is_ended (w.actors c).status) in let given = one_few (has_given (w.actors c).told) in
    let stage = stage_few (is_parked_on c (w.actors (w.actors c).call.caller).status) (is_known (fate_at w c)) in
    let arrived = one_few (is_in c w.arrived) in let accepted = one_few (is_in c w.accepted) in omega (arith, learnt, ended, given, stage, arrived, accepted)

-- each call costs a turn
calls_cost : (job : Job) (start : BodyStart) (told : List Told) (n : ℕ) → TurnsUpTo job start told n → calls_made told + 1 ≤ n
calls_cost job start [] n is = omega (arith, is)
calls_cost job start (Called ∷ before) n up = let less = calls_cost job start before up.0 up.3 in omega (arith, less, up.4)
calls_cost job start (Learnt known ∷ before) n up = let less = calls_cost job start before up.0 up.3 in omega (arith, less, up.4)
calls_cost job start (Named object ∷ before) n up = let less = calls_cost job start before up.0 up.3 in omega (arith, less, up.4)
calls_cost job start (Gave ∷ before) n up = let less = calls_cost job start before up.0 up.3 in omega (arith, less, up.4)
calls_cost job start (Beaten ∷ before) n up = let less = calls_cost job start before up.0 up.3 in omega (arith, less, up.4)

idle_few : (x : Actor) → Idle x → calls_made x.told ≤ x.spent
idle_few x idle = let none = ap calls_made idle.told in omega (arith, none)

began_few : (job : Job) (x : Actor) → Began job x → calls_made x.told ≤ x.spent
began_few job x began = let less = calls_cost job x.start x.told began.upto began.turns in omega (arith, less, began.spent)

calls_few : (job : Job) (x : Actor) → AsItsStatus job x → calls_made x.told ≤ x.spent
calls_few job x says = at x.status says.turns where
  at : (s : ActorStatus) → HasTurns job x s → calls_made x.told ≤ x.spent
  at (status.Waiting missing) idle = idle_few x idle
  at status.Ready idle = idle_few x idle
  at status.Running began = began_few job x began
  at (status.Parked child) began = began_few job x began
  at status.Ended began = began_few job x began
  at status.Poisoned idle = idle_few x idle

-- ---- all actors

children_few : (child : ℕ → Option ℕ) (n : ℕ) → over_children (λ c. 1) child n ≤ n
children_few child zero = omega arith
children_few child (suc n) = let rest = children_few child n in let one = at (child (suc n)) in omega (arith, rest, one) where
  at : (o : Option ℕ) → at_child (λ c. 1) o ≤ 1
  at None = omega arith
  at (Some c) = omega arith

-- there is one actor more than there are calls
few_actors : (job : Job) (log : Log) → IsLog job log → (after job log).count ≤ (after job log).turns + 1
few_actors job log h =
    let w = after job log in
    let sums = sums_up job log h (λ c. 1) in
    let less = sum_most w.count (λ k. over_calls (λ c. 1) (w.actors k)) (λ k. (w.actors k).spent)
    (λ k below. (let few = children_few (w.actors k).child (calls_made (w.actors k).told) in let made = calls_few job (w.actors k) (as_statuses_say job log h k) in omega (arith, few, made))) in
    let turns = turns_sum job log h in
    omega (arith, sums, less, turns, sum_ones w.count)

pub progress_is_bounded : (job : Job) (log : Log) → IsLog job log → sum_below (after job log).count (progress (after job log)) ≤ 8 * (after job log).turns + 7
progress_is_bounded job log h =
    let w = after job log in
    let less = sum_most w.count (progress w) (λ k. (w.actors k).spent + 7)
    (λ k below. (let few = progress_few w k (learns_few job w k (w.actors k).told (so job log h k below)) in let made = calls_few job (w.actors k) (as_statuses_say job log h k) in omega (arith, few, made))) in
    let turns = turns_sum job log h in
    omega (arith, less, turns, sum_each_more w.count 7 (λ k. (w.actors k).spent), few_actors job log h)
