-- Each event is paid for: by turns, by the progress of an actor, by an arc that is gone, or by the end of the machine.
use Rattle.std.proofs.Common.{◌≡◌, ◌+◌, ◌*◌, ◌<◌, ◌≤◌, ℕ, Bool, true, false, cond, List, ◌∷◌, length, Option, Some, None, ℤ, refl, ap, sym, ◌∙◌, subst, arith, nat_lt, ltb-true, ltb-false}
use Rattle.mpl_value.specs.declared.known.Known.{Known}
use Rattle.mdf_actor.specs.declared.status.ActorStatus.TheVariants as status
use Rattle.mdf_code.specs.Alone.{Held}
use Rattle.mdf_code.specs.Told.{Gave, Told, has_given}
use Rattle.mdf_code.proofs.ToldFrames.{nothing_is_given_twice}
use Rattle.mdf_core.specs.declared.status.MachineStatus.{MachineStatus}
use Rattle.mdf_core.specs.declared.status.MachineStatus.TheVariants as machine
use Rattle.mdf_core.specs.Actors.{Actor, is_known}
use Rattle.mdf_core.specs.Awaited.{one_if}
use Rattle.mdf_core.specs.Choices.{idle_pick}
use Rattle.mdf_core.specs.Enabled.{IsLog, MayQuit}
use Rattle.mdf_core.specs.Events.{Ending, Event, Fire, Send, Create, Learn, Park, Resume, Reply, End, Beat, Match, Arrive, Accept, Quit}
use Rattle.mdf_core.specs.Naming.{sum_below}
use Rattle.mdf_core.specs.Stages.{Halted, HaltsParked}
use Rattle.mdf_core.specs.Steps.{Log, accepts_on, after, learns, matches, parks, runs, step}
use Rattle.mdf_core.specs.Worlds.{Job, Object, World, fate_at, is_in, known_at, spends}
use Rattle.mdf_core.proofs.EachStep.{picked_open}
use Rattle.mdf_core.proofs.Lists.{by_bool, nat_same, put_here}
use Rattle.mdf_core.proofs.Staging.{as_statuses_say}
use Rattle.mdf_core.proofs.Standing.{stand}
use Rattle.mdf_core.proofs.Transitions.{ends_acted, gives_acted, sends_sent}
use Rattle.mdf_core.proofs.TreeOfActors.{tree}
use Rattle.mdf_finite.proofs.ArcCounts.{accepts_arcs, arcs_in, finishes_arcs, matches_arcs, reply_arcs, sends_arcs}
use Rattle.mdf_finite.proofs.GrowingProgress.{grown, later, none_known, parked_on, same_caller, some_known, sum_grows, sum_with_gain, turns_more}
use Rattle.mdf_finite.proofs.LearntResults.{results_learnt}
use Rattle.mdf_finite.proofs.Progress.{is_ended, is_parked_on, of_frame, of_mail, progress, stage, stage_of}

-- ---- what an event costs

-- a machine quits once
abbrev pub once_quit : MachineStatus → ℕ
once_quit machine.Going = 0
once_quit machine.Rest = 1
once_quit machine.Spent = 1

abbrev pub total : World → ℕ
total w = sum_below w.count (progress w)

-- one event, and the arcs that are added
abbrev pub Pays : World → World → Type 0
Pays w v = arcs_in v + 1 + total w + 17 * w.turns ≤ arcs_in w + total v + 17 * v.turns + once_quit v.why

by_turns : (w v : World) (turns : ℕ) → arcs_in v ≤ arcs_in w + 16 → total w ≤ total v → v.turns ≡ w.turns + (turns + 1) → Pays w v
by_turns w v turns arcs more is = omega (arith, arcs, more, is)

by_gain : (w v : World) → arcs_in v ≤ arcs_in w → total w + 1 ≤ total v → w.turns ≤ v.turns → Pays w v
by_gain w v arcs more turns = omega (arith, arcs, more, turns)

by_gift : (w v : World) → arcs_in v ≤ arcs_in w + 1 → total w + 2 ≤ total v → w.turns ≤ v.turns → Pays w v
by_gift w v arcs more turns = omega (arith, arcs, more, turns)

by_arc : (w v : World) → arcs_in v + 1 ≡ arcs_in w → total w ≤ total v → w.turns ≤ v.turns → Pays w v
by_arc w v arcs more turns = omega (arith, arcs, more, turns)

by_end : (w v : World) → arcs_in v ≡ arcs_in w → total w ≤ total v → w.turns ≤ v.turns → once_quit v.why ≡ 1 → Pays w v
by_end w v arcs more turns over = omega (arith, arcs, more, turns, over)

-- ---- what grows

-- a result is learnt
learns_more : (turns : ℕ) (o : Option Known) (known : Known) (x : Actor) → o ≡ Some known → of_frame x + 1 ≤ of_frame (spends turns (learns o x))
learns_more turns None known x is = absurd (cc is)
learns_more turns (Some k) known x is = omega arith

frame_more : (x y : Actor) (told : Told) (gain : ℕ) → y.told ≡ told ∷ x.told → of_frame x + gain ≤ of_frame (record x { told = told ∷ x.told }) → y.status ≡ x.status → of_frame x + gain ≤ of_frame y
frame_more x y told gain is more same =
    let learnt = ap results_learnt is in let given = ap (λ t. one_if (has_given t)) is in let ended = ap (λ s. one_if (is_ended s)) same in omega (arith, more, learnt, given, ended)

gives_more : (x : Actor) → has_given x.told ≡ false → of_frame x + 2 ≤ of_frame (record x { told = Gave ∷ x.told })
gives_more x is = let none = ap one_if is in omega (arith, none)

ends_more : (x y : Actor) → x.status ≡ status.Running → y.status ≡ status.Ended → y.told ≡ x.told → of_frame x + 1 ≤ of_frame y
ends_more x y was is same =
    let learnt = ap results_learnt same in let given = ap (λ t. one_if (has_given t)) same in let before = ap (λ s. one_if (is_ended s)) was in let now = ap (λ s. one_if (is_ended s)) is in
    omega (arith, learnt, given, before, now)

first_in : (a : ℕ) (others : List ℕ) → is_in a others ≡ false → one_if (is_in a others) + 1 ≡ one_if (is_in a (a ∷ others))
first_in a others is = let none = ap one_if is in let now = ap (λ b. one_if (cond b true (is_in a others))) (nat_same a) in omega (arith, none, now)

-- ---- a step

module _ (job : Job) (log : Log) (e : Event) (h : IsLog job (e ∷ log)) where
  -- by the part that grows
  frame_gains : (c gain : ℕ) → c < (after job log).count → of_frame ((after job log).actors c) + gain ≤ of_frame ((step job (after job log) e).actors c) → total (after job log) + gain ≤ total (step job (after job log) e)
  frame_gains c gain there more = let g = grown job log e h c there in let stages = g.stage in let mail = g.mail in sum_with_gain job log e h c gain there (omega (arith, more, stages, mail))

  mail_gains : (c gain : ℕ) → c < (after job log).count
      → of_mail (after job log).arrived (after job log).accepted c + gain ≤ of_mail (step job (after job log) e).arrived (step job (after job log) e).accepted c → total (after job log) + gain ≤ total (step job (after job log) e)
  mail_gains c gain there more = let g = grown job log e h c there in let stages = g.stage in let frame = g.frame in sum_with_gain job log e h c gain there (omega (arith, more, stages, frame))

  stage_gains : (c gain : ℕ) → c < (after job log).count → stage_of (after job log) c + gain ≤ stage_of (step job (after job log) e) c → total (after job log) + gain ≤ total (step job (after job log) e)
  stage_gains c gain there more = let g = grown job log e h c there in let mail = g.mail in let frame = g.frame in sum_with_gain job log e h c gain there (omega (arith, more, mail, frame))

  -- the stage of a child, by its caller
  stage_by : (a c : ℕ) → c < (after job log).count → ((after job log).actors c).call.caller ≡ a → (was is known now : Bool) → is_parked_on c ((after job log).actors a).status ≡ was
      → is_parked_on c ((step job (after job log) e).actors a).status ≡ is → is_known (fate_at (after job log) c) ≡ known → is_known (fate_at (step job (after job log) e) c) ≡ now
      → (stage_of (after job log) c ≡ stage was known) × (stage_of (step job (after job log) e) c ≡ stage is now)
  stage_by a c there caller was is known now p q k n = (
    ap (λ b. stage (is_parked_on c ((after job log).actors b).status) (is_known (fate_at (after job log) c))) caller ∙ (ap (λ b. stage b (is_known (fate_at (after job log) c))) p ∙ ap (stage was) k),
    ap (λ b. stage (is_parked_on c ((step job (after job log) e).actors b).status) (is_known (fate_at (step job (after job log) e) c))) (same_caller job log e h c there ∙ caller)
        ∙ (ap (λ b. stage b (is_known (fate_at (step job (after job log) e) c))) q ∙ ap (stage is) n),
  )

-- ---- events

learn_gains : (job : Job) (log : Log) (a turns call : ℕ) (h : IsLog job (Learn a turns call ∷ log)) → total (after job log) + 1 ≤ total (step job (after job log) (Learn a turns call))
learn_gains job log a turns call h =
    let w = after job log in let m = h.0.1 in let o = known_at w ((w.actors a).child call) in
    frame_gains job log (Learn a turns call) h a 1 m.stops.stops.there
    (subst (λ y. of_frame ((after job log).actors a) + 1 ≤ of_frame y) (sym (put_here a (spends turns (learns o (w.actors a))) w.actors)) (learns_more turns o m.known (w.actors a) m.is))

park_gains : (job : Job) (log : Log) (a turns call : ℕ) (h : IsLog job (Park a turns call ∷ log)) → total (after job log) + 1 ≤ total (step job (after job log) (Park a turns call))
park_gains job log a turns call h =
    let w = after job log in let m = h.0.1 in let c = m.child in let k = (tree job log h.1).children a call m.child m.of_call in let v = step job w (Park a turns call) in
    let now = ap (λ (y : Actor). y.status) (put_here a (spends turns (parks turns ((w.actors a).child call) (w.actors a))) w.actors) ∙ ap (λ o. (spends turns (parks turns o (w.actors a))).status) m.of_call in
    let s = stage_by job log (Park a turns call) h a c k.there k.caller false true false (is_known (fate_at v c)) (ap (is_parked_on c) m.stops.stops.running) (parked_on c (v.actors a).status now) (none_known (fate_at w c) m.unknown) refl in
    let before = s.0 in let behind = s.1 in
    stage_gains job log (Park a turns call) h c 1 k.there (omega (arith, before, behind))

resume_gains : (job : Job) (log : Log) (a : ℕ) (h : IsLog job (Resume a ∷ log)) → total (after job log) + 1 ≤ total (step job (after job log) (Resume a))
resume_gains job log a h =
    let w = after job log in let m = h.0.1 in let c = m.child in let v = step job w (Resume a) in
    let halted : HaltsParked job (w.actors a) m.child = subst (Halted job (w.actors a)) m.parked (as_statuses_say job log h.1 a).halted in
    let k = (tree job log h.1).children a halted.call m.child halted.is in
    let now = ap (λ (y : Actor). y.status) (put_here a (spends 0 (runs (w.actors a))) w.actors) in
    let known = some_known (fate_at v c) m.known ((later job log (Resume a) h).known c m.known k.there m.is) in
    let s = stage_by job log (Resume a) h a c k.there k.caller true false (is_known (fate_at w c)) true (parked_on c (w.actors a).status m.parked) (ap (is_parked_on c) now) refl known in
    let before = s.0 in let behind = s.1 in
    stage_gains job log (Resume a) h c 1 k.there (omega (arith, before, behind))

reply_gains : (job : Job) (log : Log) (a turns : ℕ) (value : Held) (h : IsLog job (Reply a turns value ∷ log)) → total (after job log) + 2 ≤ total (step job (after job log) (Reply a turns value))
reply_gains job log a turns value h =
    let w = after job log in let m = h.0.1 in let x = w.actors a in let acted = gives_acted a turns value w in
    let first : has_given x.told ≡ false = by_bool (has_given x.told) (λ t. absurd (nothing_is_given_twice job.image x.start x.told m.stood value m.stops.halts t m.is)) (λ f. f) in
    frame_gains job log (Reply a turns value) h a 2 m.stops.there (frame_more x ((step job w (Reply a turns value)).actors a) Gave 2 acted.frame.told (gives_more x first) acted.frame.status)

end_gains : (job : Job) (log : Log) (a turns : ℕ) (ending : Ending) (state : List ℤ) (h : IsLog job (End a turns ending state ∷ log)) → total (after job log) + 1 ≤ total (step job (after job log) (End a turns ending state))
end_gains job log a turns ending state h =
    let w = after job log in let m = h.0.1 in let acted = ends_acted job a turns ending state w in
    frame_gains job log (End a turns ending state) h a 1 m.stops.there
    (ends_more (w.actors a) ((step job w (End a turns ending state)).actors a) m.stops.running acted.frame.status acted.frame.told)

arrive_gains : (job : Job) (log : Log) (a : ℕ) (h : IsLog job (Arrive a ∷ log)) → total (after job log) + 1 ≤ total (step job (after job log) (Arrive a))
arrive_gains job log a h = let w = after job log in let m = h.0.1 in let first = first_in a w.arrived m.first in mail_gains job log (Arrive a) h a 1 m.there (omega (arith, first))

accepts_more : (job : Job) (w : World) (o : ℤ) (a number : ℕ) (object : Option Object) → idle_pick job w o object ≡ Some a → is_in a w.accepted ≡ false →
    of_mail w.arrived w.accepted a + 1 ≤ of_mail (accepts_on o a number object w).arrived (accepts_on o a number object w).accepted a
accepts_more job w o a number None picked is = absurd (cc picked)
accepts_more job w o a number (Some object) picked is = let first = first_in a w.accepted is in omega (arith, first)

accept_gains : (job : Job) (log : Log) (o : ℤ) (a number : ℕ) (h : IsLog job (Accept o a number ∷ log)) → total (after job log) + 1 ≤ total (step job (after job log) (Accept o a number))
accept_gains job log o a number h =
    let w = after job log in let m = h.0.1 in let p = picked_open job w o (w.objects o) a m.picked in
    mail_gains job log (Accept o a number) h a 1 (there p.0 p.1) (accepts_more job w o a number (w.objects o) m.picked p.1) where
      there : is_in a (after job log).arrived ≡ true → is_in a (after job log).accepted ≡ false → a < (after job log).count
      there came first = by_bool (nat_lt a (after job log).count) (λ t. ltb-true a (after job log).count t)
          (λ f. absurd (cc ((stand job log h.1 a).waits came first, ((stand job log h.1 a).beyond (ltb-false a (after job log).count f)).0)))

quit_once : (job : Job) (w : World) (why : MachineStatus) → MayQuit job w why → once_quit why ≡ 1
quit_once job w machine.Going may = absurd may
quit_once job w machine.Rest may = refl
quit_once job w machine.Spent may = refl

-- a call has few arguments
abbrev pub CallsFew : Event → Type 0
CallsFew (Send a turns callee member object arguments) = length arguments ≤ 16
CallsFew other = Unit {0}

pub pays : (job : Job) (log : Log) (e : Event) → IsLog job (e ∷ log) → CallsFew e → Pays (after job log) (step job (after job log) e)
pays job log (Fire a) h few = by_turns (after job log) (step job (after job log) (Fire a)) 0 (omega arith) (sum_grows job log (Fire a) h) refl
pays job log (Send a turns callee member object arguments) h few =
    let w = after job log in let v = step job w (Send a turns callee member object arguments) in let m = h.0.1 in let arcs = sends_arcs job a turns callee member object arguments w in
    let there : a < w.count = m.stops.stops.there in let next : callee ≡ w.count = m.next in
    by_turns w v turns (omega (arith, few, arcs)) (sum_grows job log (Send a turns callee member object arguments) h)
    (sends_sent job a turns callee member object arguments w (λ same. absurd (omega (arith, same, there, next)))).turns
pays job log (Create a turns class object) h few =
    by_turns (after job log) (step job (after job log) (Create a turns class object)) turns (omega arith) (sum_grows job log (Create a turns class object) h) refl
pays job log (Learn a turns call) h few =
    by_gain (after job log) (step job (after job log) (Learn a turns call)) (omega arith) (learn_gains job log a turns call h) (turns_more job log (Learn a turns call) h)
pays job log (Park a turns call) h few = by_gain (after job log) (step job (after job log) (Park a turns call)) (omega arith) (park_gains job log a turns call h) (turns_more job log (Park a turns call) h)
pays job log (Resume a) h few = by_gain (after job log) (step job (after job log) (Resume a)) (omega arith) (resume_gains job log a h) (turns_more job log (Resume a) h)
pays job log (Reply a turns value) h few =
    by_gift (after job log) (step job (after job log) (Reply a turns value)) (reply_arcs a turns value (after job log)) (reply_gains job log a turns value h) (turns_more job log (Reply a turns value) h)
pays job log (End a turns ending state) h few =
    let same = finishes_arcs job a turns ending state (after job log) in
    by_gain (after job log) (step job (after job log) (End a turns ending state)) (omega (arith, same)) (end_gains job log a turns ending state h) (turns_more job log (End a turns ending state) h)
pays job log (Beat a) h few = by_turns (after job log) (step job (after job log) (Beat a)) 255 (omega arith) (sum_grows job log (Beat a) h) refl
pays job log (Match place) h few =
    let w = after job log in let m = h.0.1 in
    by_arc w (step job w (Match place)) (subst (λ o. arcs_in (matches place o w) + 1 ≡ arcs_in w) (sym m.1) (matches_arcs place m.0 w m.1)) (sum_grows job log (Match place) h) (turns_more job log (Match place) h)
pays job log (Arrive a) h few = by_gain (after job log) (step job (after job log) (Arrive a)) (omega arith) (arrive_gains job log a h) (turns_more job log (Arrive a) h)
pays job log (Accept o a number) h few =
    let w = after job log in let same = accepts_arcs o a number (w.objects o) w in
    by_gain w (step job w (Accept o a number)) (omega (arith, same)) (accept_gains job log o a number h) (turns_more job log (Accept o a number) h)
pays job log (Quit why) h few = by_end (after job log) (step job (after job log) (Quit why)) refl (sum_grows job log (Quit why) h) (turns_more job log (Quit why) h) (quit_once job (after job log) why h.0.1)
