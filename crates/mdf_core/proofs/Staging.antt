-- Actors are as their statuses say along a log, and fire once.
use Rattle.std.proofs.Common.{◌≡◌, ◌+◌, ◌⊎◌, ℕ, zero, suc, Bool, true, false, not, cond, List, [], ◌∷◌, Option, Some, None, ℤ, refl, sym, ap, ◌∙◌, subst, slice_get, inl, inr, nat_lt, ltb-false, arith, length, slice_set}
use Rattle.std.proofs.lemmas.List.{length-map}
use Rattle.mpl_value.specs.CallAnswers.{leftmost_trap}
use Rattle.mpl_value.specs.declared.body.BodyResult.{BodyResult}
use Rattle.mpl_value.specs.declared.body.BodyResult.TheVariants as result
use Rattle.mpl_value.specs.declared.body.MemberId.{MemberId}
use Rattle.mpl_value.specs.declared.known.Known.{Known}
use Rattle.mpl_value.specs.declared.known.Trap.{Trap}
use Rattle.mdf_actor.specs.Statuses.{is_over}
use Rattle.mdf_actor.specs.declared.status.ActorStatus.{ActorStatus}
use Rattle.mdf_actor.specs.declared.status.ActorStatus.TheVariants as status
use Rattle.mdf_code.specs.Alone.{Held}
use Rattle.mdf_code.specs.Told.{most_turns}
use Rattle.mdf_code.specs.Yields.{member_is_regular, regular_start}
use Rattle.mdf_match.specs.Ports.{missing_in}
use Rattle.mdf_core.specs.Actors.{Actor, Call, Fate, Is, Forwarded, arguments_of, is_post, main_actor, member_of, port_words}
use Rattle.mdf_core.specs.Calls.{port_of, complete, new_actor, next_call, ready}
use Rattle.mdf_core.specs.Enabled.{Enabled, IsLog}
use Rattle.mdf_core.specs.Events.{Ending, Finishes, Fails, Event, Fire, Send, Create, Learn, Park, Resume, Reply, End, Beat, Match, Arrive, Accept, Quit}
use Rattle.mdf_core.specs.Stages.{AsItsStatus, HasArguments, Halted, HasMember, HasTurns, Idle, StartsAs, StartsPlain, OfMain, OfMember, TurnsUpTo, fate_of, fires, has_begun, once_if, times_fired}
use Rattle.mdf_core.specs.Steps.{Log, after, result_at_end, runs, step}
use Rattle.mdf_core.specs.Worlds.{Job, World, spends}
use Rattle.mdf_core.proofs.Fates.{Fated, fated, is_early}
use Rattle.mdf_core.proofs.Lists.{by_bool, nat_differ, nat_same, put_here, same_or}
use Rattle.mdf_core.proofs.Standing.{stand}
use Rattle.mdf_core.proofs.TreeOfActors.{tree}
use Rattle.mdf_core.proofs.Turning.{Turned, Stays, Fires, Sends, Makes, Learns, Parks, Resumes, Gives, Ends, EndsKnown, Pauses, Fills, Follows, Accepts, New, awaited, counted_now, settled, turned, with_port}

-- ---- at a status

stage_at : {job : Job} {y : Actor} (s : ActorStatus) → y.status ≡ s → HasMember job y → HasArguments job y s → Halted job y s → HasTurns job y s → AsItsStatus job y
stage_at {job} {y} s is member arguments halted turns = record {
  member = member;
  arguments = subst (HasArguments job y) (sym is) arguments;
  halted = subst (Halted job y) (sym is) halted;
  turns = subst (HasTurns job y) (sym is) turns;
}

arguments_at : (job : Job) (x : Actor) (s : ActorStatus) → x.status ≡ s → AsItsStatus job x → HasArguments job x s
arguments_at job x s is a = subst (HasArguments job x) is a.arguments

halted_at : (job : Job) (x : Actor) (s : ActorStatus) → x.status ≡ s → AsItsStatus job x → Halted job x s
halted_at job x s is a = subst (Halted job x) is a.halted

turns_at : (job : Job) (x : Actor) (s : ActorStatus) → x.status ≡ s → AsItsStatus job x → HasTurns job x s
turns_at job x s is a = subst (HasTurns job x) is a.turns

idle_at : (job : Job) (x : Actor) (s : ActorStatus) → is_early s ≡ true → HasTurns job x s → Idle x
idle_at job x (status.Waiting n) h t = t
idle_at job x status.Ready h t = t
idle_at job x status.Running h t = absurd (cc h)
idle_at job x (status.Parked c) h t = absurd (cc h)
idle_at job x status.Ended h t = absurd (cc h)
idle_at job x status.Poisoned h t = absurd (cc h)

-- ---- ports that are counted

starts_plain : (job : Job) (z : Actor) → (z.call.member ≡ None → ⊥) → StartsPlain job z.call z.ports (regular_start (member_of z.call).0 (port_words z.ports))
starts_plain job z some = at z.call.member refl where
  at : (o : Option MemberId) → z.call.member ≡ o → StartsPlain job z.call z.ports (regular_start (member_of z.call).0 (port_words z.ports))
  at None is = absurd (some is)
  at (Some member) is = OfMember member is (ap (λ (c : MemberId). regular_start c.0 (port_words z.ports)) (named z.call member is)) where
    named : (call : Call) (member : MemberId) → call.member ≡ Some member → member_of call ≡ member
    named call member is = rw (is) refl

counted_stage : (job : Job) (z : Actor) → HasMember job z → (z.call.member ≡ None → ⊥) → Idle z → AsItsStatus job (counted_now z)
counted_stage job z member some idle = at (missing_in z.ports) where
  by_kind : (b : Bool) → is_post z.call ≡ b → leftmost_trap (arguments_of z.ports) ≡ None → AsItsStatus job (cond {A = Actor → Actor} b complete ready z)
  by_kind true post none = stage_at (status.Waiting 0) refl (record { post = member.post; alone = member.alone; sized = member.sized }) (post, none) tt (record { told = idle.told; counted = idle.counted; spent = idle.spent })
  by_kind false plain none = stage_at status.Ready refl (record { post = member.post; alone = member.alone; sized = member.sized })
      (record { untrapped = none; start = subst (StartsAs job z.call z.ports (regular_start (member_of z.call).0 (port_words z.ports))) (sym plain) (starts_plain job z some) }) tt
      (record { told = idle.told; counted = idle.counted; spent = idle.spent })

  by_trap : (t : Option Trap) → leftmost_trap (arguments_of z.ports) ≡ t → AsItsStatus job (settled z t)
  by_trap (Some trap) is = stage_at status.Poisoned refl (record { post = member.post; alone = member.alone; sized = member.sized }) (record { trap = trap; leftmost = is; is = refl }) tt
      (record { told = idle.told; counted = idle.counted; spent = idle.spent })
  by_trap None is = by_kind (is_post z.call) refl is

  at : (n : ℕ) → AsItsStatus job (awaited z n)
  at zero = by_trap (leftmost_trap (arguments_of z.ports)) refl
  at (suc n) = stage_at (status.Waiting (suc n)) refl (record { post = member.post; alone = member.alone; sized = member.sized }) tt tt (record { told = idle.told; counted = idle.counted; spent = idle.spent })

-- ---- results at an end

same_result : (job : Job) (x y : Actor) (ending : Ending) → y.call ≡ x.call → result_at_end job y ending ≡ result_at_end job x ending
same_result job x y (Finishes line) same = ap (λ (c : Call). result_at_end job (record x { call = c }) (Finishes line)) same
same_result job x y (Fails trap) same = ap (λ (c : Call). result_at_end job (record x { call = c }) (Fails trap)) same

not_forwarded : (f : Fate) (r : BodyResult) (child : ℕ) → f ≡ Forwarded child → f ≡ fate_of r → ⊥
not_forwarded f result.Open child h k = cc (h, k)
not_forwarded f (result.Known known) child h k = cc (h, k)
not_forwarded f result.Unknown child h k = cc (h, k)

-- ---- a result that comes

follows_arguments : (job : Job) (x : Actor) (child : ℕ) (known : Known) (s : ActorStatus) → x.fate ≡ Forwarded child → HasArguments job x s → HasArguments job (record x { fate = Is known }) s
follows_arguments job x child known (status.Waiting zero) is h = h
follows_arguments job x child known (status.Waiting (suc n)) is h = tt
follows_arguments job x child known status.Ready is h = record { untrapped = h.untrapped; start = h.start }
follows_arguments job x child known status.Running is h = record { untrapped = h.untrapped; start = h.start }
follows_arguments job x child known (status.Parked c) is h = record { untrapped = h.untrapped; start = h.start }
follows_arguments job x child known status.Ended is h = record { untrapped = h.untrapped; start = h.start }
follows_arguments job x child known status.Poisoned is h = absurd (cc (is, h.is))

follows_halted : (job : Job) (x : Actor) (child : ℕ) (known : Known) (s : ActorStatus) → x.fate ≡ Forwarded child → Halted job x s → Halted job (record x { fate = Is known }) s
follows_halted job x child known (status.Waiting n) is h = tt
follows_halted job x child known status.Ready is h = tt
follows_halted job x child known status.Running is (inl none) = inl none
follows_halted job x child known status.Running is (inr h) = inr (record { stood = h.stood; halts = h.halts; counted = h.counted })
follows_halted job x child known (status.Parked c) is h = record { stood = h.stood; halts = h.halts; call = h.call; needs = h.needs; is = h.is; counted = h.counted }
follows_halted job x child known status.Ended is h = record {
  stood = h.stood;
  halts = h.halts;
  ending = h.ending;
  ends = h.ends;
  counted = h.counted;
  result = λ g. absurd (not_forwarded x.fate (result_at_end job x h.ending) child is (h.result g));
}
follows_halted job x child known status.Poisoned is h = tt

follows_turns : (job : Job) (x : Actor) (known : Known) (s : ActorStatus) → HasTurns job x s → HasTurns job (record x { fate = Is known }) s
follows_turns job x known (status.Waiting n) h = record { told = h.told; counted = h.counted; spent = h.spent }
follows_turns job x known status.Ready h = record { told = h.told; counted = h.counted; spent = h.spent }
follows_turns job x known status.Running h = record { upto = h.upto; turns = h.turns; spent = h.spent }
follows_turns job x known (status.Parked c) h = record { upto = h.upto; turns = h.turns; spent = h.spent }
follows_turns job x known status.Ended h = record { upto = h.upto; turns = h.turns; spent = h.spent }
follows_turns job x known status.Poisoned h = record { told = h.told; counted = h.counted; spent = h.spent }

-- ---- turns

told_turns : (spent upto counted turns stood : ℕ) → spent ≡ upto + counted → stood ≡ turns + counted → spent + turns ≡ upto + stood + 0 + 0
told_turns spent upto counted turns stood a b = omega (arith, a, b)

call_turns : (spent upto counted turns stood : ℕ) → spent ≡ upto + counted → stood ≡ turns + counted → spent + (turns + 1) ≡ upto + stood + 1 + 0
call_turns spent upto counted turns stood a b = omega (arith, a, b)

stop_turns : (spent upto counted turns : ℕ) → spent ≡ upto + counted → spent + turns ≡ upto + (counted + turns)
stop_turns spent upto counted turns a = omega (arith, a)

-- ---- each change

post_kind : (job : Job) (a : ℕ) (x : Actor) (member : ℕ) (object : ℤ) (arguments : List Held) → is_post (next_call job a x member object arguments) ≡ not (member_is_regular job.image member)
post_kind job a x member object arguments = at (member_is_regular job.image member) refl where
  at : (b : Bool) → member_is_regular job.image member ≡ b → is_post (next_call job a x member object arguments) ≡ not b
  at true is = rw (is) refl
  at false is = rw (is) (positive x.posts) where
    positive : (n : ℕ) → nat_lt 0 (n + 1) ≡ true
    positive n = by_bool (nat_lt 0 (n + 1)) (λ t. t) (λ f. absurd (omega (arith, ltb-false 0 (n + 1) f)))

new_member : (job : Job) (a : ℕ) (x : Actor) (member : ℕ) (object : ℤ) (arguments : List Held) → HasMember job (new_actor job a x member object arguments)
new_member job a x member object arguments = record {
  post = λ m is. post_kind job a x member object arguments ∙ ap (λ n. not (member_is_regular job.image n)) (same m is);
  alone = λ none. absurd (cc none);
  sized = length-map arguments port_of;
} where
  same : (m : MemberId) → Some (record { 0 = member }) ≡ Some m → member ≡ m.0
  same m is = ap (λ (c : MemberId). c.0) (some_same is) where
    some_same : {n k : MemberId} → Some n ≡ Some k → n ≡ k
    some_same s = cc s

set_length : {A : Type 0} (xs : List A) (place : ℕ) (x : A) → length (slice_set xs place x) ≡ length xs
set_length [] zero x = refl
set_length [] (suc place) x = refl
set_length (y ∷ ys) zero x = refl
set_length (y ∷ ys) (suc place) x = ap suc (set_length ys place x)

ports_of_none : (ports : List (Option Known)) (port : ℕ) → ports ≡ [] → slice_get ports port ≡ Some None → ⊥
ports_of_none ports port none is = cc (is, ap (λ p. slice_get p port) none)

staged : (job : Job) (w : World) (e : Event) (k : ℕ) (x y : Actor) → Turned job w e k x y → Fated x → AsItsStatus job x → AsItsStatus job y
staged job w e k x y Stays f s = s
staged job w e k x y (Fires named is) f s = let a = arguments_at job x status.Ready is s in let t = turns_at job x status.Ready is s in
    stage_at status.Running refl (record { post = s.member.post; alone = s.member.alone; sized = s.member.sized }) (record { untrapped = a.untrapped; start = a.start }) (inl t.counted)
    (record { upto = 1; turns = subst (λ told. TurnsUpTo job x.start told 1) (sym t.told) refl; spent = ap (λ n. n + 1) t.spent ∙ ap (λ n. 1 + n) (sym t.counted) })
staged job w e k x y (Sends turns callee member object arguments stood h halt) f s = let a = arguments_at job x status.Running h.running s in let t = turns_at job x status.Running h.running s in
    stage_at status.Running h.running (record { post = s.member.post; alone = s.member.alone; sized = s.member.sized }) (record { untrapped = a.untrapped; start = a.start }) (inl refl)
    (record { upto = t.upto + stood.turns + 1; turns = (t.upto, stood, h.halts, t.turns, refl); spent = call_turns x.spent t.upto x.counted turns stood.turns t.spent h.turns_are })
staged job w e k x y (Makes turns class object stood h halt) f s = let a = arguments_at job x status.Running h.running s in let t = turns_at job x status.Running h.running s in
    stage_at status.Running h.running (record { post = s.member.post; alone = s.member.alone; sized = s.member.sized }) (record { untrapped = a.untrapped; start = a.start }) (inl refl)
    (record { upto = t.upto + stood.turns + 1; turns = (t.upto, stood, h.halts, t.turns, refl); spent = call_turns x.spent t.upto x.counted turns stood.turns t.spent h.turns_are })
staged job w e k x y (Learns turns call known stood h halt) f s = let a = arguments_at job x status.Running h.running s in let t = turns_at job x status.Running h.running s in
    stage_at status.Running h.running (record { post = s.member.post; alone = s.member.alone; sized = s.member.sized }) (record { untrapped = a.untrapped; start = a.start }) (inl refl)
    (record { upto = t.upto + stood.turns + 0; turns = (t.upto, stood, h.halts, t.turns, refl); spent = told_turns x.spent t.upto x.counted turns stood.turns t.spent h.turns_are })
staged job w e k x y (Parks turns call child stood h halt is) f s = let a = arguments_at job x status.Running h.running s in let t = turns_at job x status.Running h.running s in
    stage_at (status.Parked child) refl (record { post = s.member.post; alone = s.member.alone; sized = s.member.sized }) (record { untrapped = a.untrapped; start = a.start })
    (record { stood = stood; halts = h.halts; call = call; needs = halt; is = is; counted = omega (arith, h.turns_are) })
    (record { upto = t.upto; turns = t.turns; spent = stop_turns x.spent t.upto x.counted turns t.spent })
staged job w e k x y (Resumes child is) f s = let a = arguments_at job x (status.Parked child) is s in let t = turns_at job x (status.Parked child) is s in let p = halted_at job x (status.Parked child) is s in
    stage_at status.Running refl (record { post = s.member.post; alone = s.member.alone; sized = s.member.sized }) (record { untrapped = a.untrapped; start = a.start })
    (inr (record { stood = p.stood; halts = p.halts; counted = p.counted }))
    (record { upto = t.upto; turns = t.turns; spent = omega (arith, t.spent) })
staged job w e k x y (Gives turns value fate stood named h halt gives) f s = let a = arguments_at job x status.Running h.running s in let t = turns_at job x status.Running h.running s in
    stage_at status.Running h.running (record { post = s.member.post; alone = s.member.alone; sized = s.member.sized }) (record { untrapped = a.untrapped; start = a.start }) (inl refl)
    (record { upto = t.upto + stood.turns + 0; turns = (t.upto, stood, h.halts, t.turns, refl); spent = told_turns x.spent t.upto x.counted turns stood.turns t.spent h.turns_are })
staged job w e k x y (Ends turns ending stood h is opened) f s = let a = arguments_at job x status.Running h.running s in let t = turns_at job x status.Running h.running s in
    stage_at status.Ended refl (record { post = s.member.post; alone = s.member.alone; sized = s.member.sized }) (record { untrapped = a.untrapped; start = a.start })
    (record {
      stood = stood;
      halts = h.halts;
      ending = ending;
      ends = is;
      counted = omega (arith, h.turns_are);
      result = λ g. let o = f.unsettled g (ap is_over h.running) in o ∙ (sym (opened o) ∙ ap fate_of (sym (same_result job x y ending refl)));
    })
    (record { upto = t.upto; turns = t.turns; spent = stop_turns x.spent t.upto x.counted turns t.spent })
staged job w e k x y (EndsKnown turns ending known stood h is opened r) f s = let a = arguments_at job x status.Running h.running s in let t = turns_at job x status.Running h.running s in
    stage_at status.Ended refl (record { post = s.member.post; alone = s.member.alone; sized = s.member.sized }) (record { untrapped = a.untrapped; start = a.start })
    (record {
      stood = stood;
      halts = h.halts;
      ending = ending;
      ends = is;
      counted = omega (arith, h.turns_are);
      result = λ g. sym (ap fate_of (same_result job x y ending refl ∙ r));
    })
    (record { upto = t.upto; turns = t.turns; spent = stop_turns x.spent t.upto x.counted turns t.spent })
staged job w e k x y (Pauses stood h halt) f s = let a = arguments_at job x status.Running h.running s in let t = turns_at job x status.Running h.running s in
    stage_at status.Running h.running (record { post = s.member.post; alone = s.member.alone; sized = s.member.sized }) (record { untrapped = a.untrapped; start = a.start }) (inl refl)
    (record { upto = t.upto + stood.turns + 0; turns = (t.upto, stood, h.halts, t.turns, refl); spent = told_turns x.spent t.upto x.counted most_turns stood.turns t.spent h.turns_are })
staged job w e k x y (Fills port known empty fresh) f s = let i = idle_at job x x.status fresh.early s.turns in
    counted_stage job (with_port port known x) (record { post = s.member.post; alone = λ none. absurd (ports_of_none x.ports port (s.member.alone none) empty); sized = set_length x.ports port (Some known) ∙ s.member.sized })
    (λ none. ports_of_none x.ports port (s.member.alone none) empty) (record { told = i.told; counted = i.counted; spent = i.spent })
staged job w e k x y (Follows child known arc place at to knows is) f s = record {
  member = record { post = s.member.post; alone = s.member.alone; sized = s.member.sized };
  arguments = follows_arguments job x child known x.status is s.arguments;
  halted = follows_halted job x child known x.status is s.halted;
  turns = follows_turns job x known x.status s.turns;
}
staged job w e k x y (Accepts number state is) f s = let a = arguments_at job x (status.Waiting 0) is s in let t = turns_at job x (status.Waiting 0) is s in
    stage_at status.Ready refl (record { post = s.member.post; alone = s.member.alone; sized = s.member.sized })
    (record { untrapped = a.1; start = subst (StartsAs job x.call x.ports y.start) (sym a.0) (record { number = number; state = state; is = refl }) }) tt
    (record { told = t.told; counted = t.counted; spent = t.spent })
staged job w e k x y (New a member object arguments is beyond) f s =
    counted_stage job (new_actor job a (w.actors a) member object arguments) (new_member job a (w.actors a) member object arguments) (λ none. cc none) (record { told = refl; counted = refl; spent = refl })

pub as_statuses_say : (job : Job) (log : Log) → IsLog job log → (a : ℕ) → AsItsStatus job ((after job log).actors a)
as_statuses_say job [] h a = stage_at {y = main_actor job.input} status.Ready refl
    (record { post = λ m is. absurd (cc is); alone = λ none. refl; sized = refl }) (record { untrapped = refl; start = OfMain refl refl }) tt (record { told = refl; counted = refl; spent = refl })
as_statuses_say job (e ∷ log) h a = let w = after job log in let f = fated job log h.1 in
    staged job w e a (w.actors a) ((step job w e).actors a) (turned job w e h.0.1 (stand job log h.1) f (tree job log h.1) a) (f a) (as_statuses_say job log h.1 a)

-- ---- firing

early_begun : (s : ActorStatus) → is_early s ≡ true → has_begun s ≡ false
early_begun (status.Waiting n) h = refl
early_begun status.Ready h = refl
early_begun status.Running h = absurd (cc h)
early_begun (status.Parked c) h = absurd (cc h)
early_begun status.Ended h = absurd (cc h)
early_begun status.Poisoned h = absurd (cc h)

counted_begun : (z : Actor) → has_begun (counted_now z).status ≡ false
counted_begun z = at (missing_in z.ports) where
  by_kind : (b : Bool) → has_begun (cond {A = Actor → Actor} b complete ready z).status ≡ false
  by_kind true = refl
  by_kind false = refl

  by_trap : (t : Option Trap) → has_begun (settled z t).status ≡ false
  by_trap (Some trap) = refl
  by_trap None = by_kind (is_post z.call)

  at : (n : ℕ) → has_begun (awaited z n).status ≡ false
  at zero = by_trap (leftmost_trap (arguments_of z.ports))
  at (suc n) = refl

begun_later : (job : Job) (w : World) (e : Event) (k : ℕ) (x y : Actor) → Turned job w e k x y → (e ≡ Fire k → ⊥) → has_begun y.status ≡ has_begun x.status
begun_later job w e k x y Stays n = refl
begun_later job w e k x y (Fires named is) n = absurd (n named)
begun_later job w e k x y (Sends turns callee member object arguments stood h halt) n = refl
begun_later job w e k x y (Makes turns class object stood h halt) n = refl
begun_later job w e k x y (Learns turns call known stood h halt) n = refl
begun_later job w e k x y (Parks turns call child stood h halt is) n = sym (ap has_begun h.running)
begun_later job w e k x y (Resumes child is) n = sym (ap has_begun is)
begun_later job w e k x y (Gives turns value fate stood named h halt gives) n = refl
begun_later job w e k x y (Ends turns ending stood h is opened) n = sym (ap has_begun h.running)
begun_later job w e k x y (EndsKnown turns ending known stood h is opened r) n = sym (ap has_begun h.running)
begun_later job w e k x y (Pauses stood h halt) n = refl
begun_later job w e k x y (Fills port known empty fresh) n = counted_begun (with_port port known x) ∙ sym (early_begun x.status fresh.early)
begun_later job w e k x y (Follows child known arc place at to knows is) n = refl
begun_later job w e k x y (Accepts number state is) n = sym (ap has_begun is)
begun_later job w e k x y (New a member object arguments is beyond) n = counted_begun (new_actor job a (w.actors a) member object arguments) ∙ sym (ap has_begun beyond)

-- an event that doesn't fire the actor adds nothing
fires_other : (k : ℕ) (e : Event) → (e ≡ Fire k → ⊥) → fires k e ≡ 0
fires_other k (Fire b) n = ap (λ t. cond t 1 0) (nat_differ b k (λ same. n (ap Fire same)))
fires_other k (Send a turns callee member object arguments) n = refl
fires_other k (Create a turns class object) n = refl
fires_other k (Learn a turns call) n = refl
fires_other k (Park a turns call) n = refl
fires_other k (Resume a) n = refl
fires_other k (Reply a turns value) n = refl
fires_other k (End a turns ending state) n = refl
fires_other k (Beat a) n = refl
fires_other k (Match place) n = refl
fires_other k (Arrive a) n = refl
fires_other k (Accept object a number) n = refl
fires_other k (Quit why) n = refl

is_fire : (k : ℕ) (e : Event) → (e ≡ Fire k) ⊎ (e ≡ Fire k → ⊥)
is_fire k (Fire b) = at (same_or b k) where
  at : (b ≡ k) ⊎ (b ≡ k → ⊥) → (Fire b ≡ Fire k) ⊎ (Fire b ≡ Fire k → ⊥)
  at (inl same) = inl (ap Fire same)
  at (inr differ) = inr (λ s. differ (cc s))
is_fire k (Send a turns callee member object arguments) = inr (λ s. cc s)
is_fire k (Create a turns class object) = inr (λ s. cc s)
is_fire k (Learn a turns call) = inr (λ s. cc s)
is_fire k (Park a turns call) = inr (λ s. cc s)
is_fire k (Resume a) = inr (λ s. cc s)
is_fire k (Reply a turns value) = inr (λ s. cc s)
is_fire k (End a turns ending state) = inr (λ s. cc s)
is_fire k (Beat a) = inr (λ s. cc s)
is_fire k (Match place) = inr (λ s. cc s)
is_fire k (Arrive a) = inr (λ s. cc s)
is_fire k (Accept object a number) = inr (λ s. cc s)
is_fire k (Quit why) = inr (λ s. cc s)

fired_now : (job : Job) (w : World) (k : ℕ) → Enabled job w (Fire k) → (has_begun (w.actors k).status ≡ false) × (has_begun ((step job w (Fire k)).actors k).status ≡ true)
fired_now job w k h = (ap has_begun h.ready, ap (λ (x : Actor). has_begun x.status) (put_here k (spends 1 (runs (w.actors k))) w.actors))

pub fire_once : (job : Job) (log : Log) → IsLog job log → (a : ℕ) → times_fired a log ≡ once_if (has_begun ((after job log).actors a).status)
fire_once job [] h a = refl
fire_once job (e ∷ log) h a = at (is_fire a e) (fire_once job log h.1 a) where
  at : (e ≡ Fire a) ⊎ (e ≡ Fire a → ⊥) → times_fired a log ≡ once_if (has_begun ((after job log).actors a).status) → fires a e + times_fired a log ≡ once_if (has_begun ((step job (after job log) e).actors a).status)
  at (inl is) before = let f = fired_now job (after job log) a (subst (Enabled job (after job log)) is h.0.1) in
      subst (λ d. fires a d + times_fired a log ≡ once_if (has_begun ((step job (after job log) d).actors a).status)) (sym is)
      (omega (arith, ap (λ t. cond {A = ℕ} t 1 0) (nat_same a), before, ap once_if f.0, ap once_if f.1))
  at (inr other) before = omega (
    arith,
    fires_other a e other,
    before,
    ap once_if (begun_later job (after job log) e a ((after job log).actors a) ((step job (after job log) e).actors a)
        (turned job (after job log) e h.0.1 (stand job log h.1) (fated job log h.1) (tree job log h.1) a) other),
  )
