-- At rest each actor that began came to its end, or waits for what will not be known.
use Rattle.std.proofs.Common.{◌≡◌, ◌≢◌, ◌+◌, ◌<◌, ◌≤◌, ℕ, zero, suc, Bool, true, false, List, Option, Some, None, refl, sym, ap, ◌∙◌, subst, arith}
use Rattle.mpl_value.specs.declared.body.Arg.{Arg}
use Rattle.mpl_value.specs.declared.body.Arg.TheVariants.{Know, Trapped, Unknown}
use Rattle.mpl_value.specs.declared.body.BodyEnd.{BodyEnd}
use Rattle.mpl_value.specs.declared.body.BodyEnd.TheVariants as end
use Rattle.mpl_value.specs.declared.body.BodyResult.{BodyResult}
use Rattle.mpl_value.specs.declared.body.BodyResult.TheVariants as result
use Rattle.mpl_value.specs.declared.body.BodyStart.{BodyStart}
use Rattle.mpl_value.specs.declared.body.MemberId.{MemberId}
use Rattle.mpl_value.specs.declared.known.Known.TheVariants as known
use Rattle.mpl_value.specs.declared.known.Trap.{Trap}
use Rattle.mpl_value.specs.CallAnswers.{arg_of_reply, arg_of_result}
use Rattle.mpl_value.specs.Results.{result_of}
use Rattle.mdf_actor.specs.Statuses.{is_over}
use Rattle.mdf_actor.specs.declared.status.ActorStatus.{ActorStatus}
use Rattle.mdf_actor.specs.declared.status.ActorStatus.TheVariants as status
use Rattle.mdf_code.specs.Alone.{Pending}
use Rattle.mdf_code.specs.Frames.{Calls, Creates, Ends, Needs, Replies, Strays, Traps}
use Rattle.mdf_code.specs.Right.{Account, EndsAt, with_turns, yield_by}
use Rattle.mdf_code.specs.Told.{Beats, Halt, HaltsNext, IsMade, NamesMade, Stands, Stood, Told, calls_made, has_given}
use Rattle.mdf_code.specs.Yields.{missed_at, or_missed, result_at_trap}
use Rattle.mdf_code.proofs.ToldFrames.{names_made}
use Rattle.mdf_core.specs.Actors.{Actor, known_of}
use Rattle.mdf_core.specs.Enabled.{ending_at}
use Rattle.mdf_core.specs.Events.{Ending, Finishes, Fails}
use Rattle.mdf_core.specs.Rest.{end_at}
use Rattle.mdf_core.specs.Stages.{Began, HasArguments, Halted, HasTurns, Idle, Starts, StartsPlain, OfMain, OfMember, fate_of, has_begun}
use Rattle.mdf_core.specs.Steps.{result_at_end}
use Rattle.mdf_core.specs.Trees.{over_calls, over_children}
use Rattle.mdf_core.specs.Worlds.{Job, World}
use Rattle.mdf_drive.specs.AtRest.{result_seen}
use Rattle.mdf_drive.specs.Plain.{StraysAsBodies}
use Rattle.mdf_drive.proofs.Tallies.{Did, DidAt, Own, Rested, Tally, arg_of_result_of, plain_start, tally}

-- ---- results

pub fate_seen : (r : BodyResult) → arg_of_reply (known_of (fate_of r)) ≡ arg_of_result r
fate_seen result.Open = refl
fate_seen (result.Known (known.Value words)) = refl
fate_seen (result.Known (known.Trapped t)) = refl
fate_seen result.Unknown = refl

pub or_given : (m : BodyResult) (v : Arg) → or_missed m (result_of v) ≡ result_of v
or_given m (Know words) = refl
or_given m (Trapped t) = refl
or_given m Unknown = refl

pub trap_given : (member : Option MemberId) (t : Trap) (v : Arg) → result_at_trap member t (result_of v) ≡ result_of v
trap_given None t v = refl
trap_given (Some m) t (Know words) = refl
trap_given (Some m) t (Trapped u) = refl
trap_given (Some m) t Unknown = refl

pub start_member : (job : Job) (x : Actor) → StartsPlain job x.call x.ports x.start → x.start.member ≡ x.call.member
start_member job x (OfMain none is) = ap (λ (b : BodyStart). b.member) is ∙ sym none
start_member job x (OfMember m named is) = ap (λ (b : BodyStart). b.member) is ∙ sym named

-- ---- an actor

module _ (job : Job) (w : World) (r : Rested job w) (strays : StraysAsBodies job w) (g : ℕ → ℕ) (each : (c : ℕ) → c < w.count → g c ≡ (w.actors c).spent + over_calls g (w.actors c)) where
  module _ (c : ℕ) (there : c < w.count) (later : (d : ℕ) → c < d → d < w.count → Did job w d (g d)) where
    -- one that hasn't begun
    idle_turns : Idle (w.actors c) → g c ≡ 0
    idle_turns i = omega (arith, each c there, i.spent, ap (λ t. over_children g (w.actors c).child (calls_made t)) i.told)

    module _ (starts : Starts job (w.actors c)) (began : Began job (w.actors c)) where
      abbrev told : List Told
      told = (w.actors c).told

      done : (a : Account) × Tally job w g c (w.actors c).told began.upto a
      done = tally job w r g c there starts later (w.actors c).told began.upto (r.so c there) began.turns

      module _ (a : Account) (t : Tally job w g c (w.actors c).told began.upto a) (stood : Stood) (halts : HaltsNext job.image (w.actors c).start (w.actors c).told stood) (counted : (w.actors c).counted ≡ stood.turns) where
        abbrev x : Account
        x = with_turns stood.turns a

        all_told : a.turns + stood.turns ≡ g c
        all_told = omega (arith, t.turns, began.spent, counted, each c there)

        -- it comes to its end there
        comes : (res : BodyResult) (e : BodyEnd) (halt : Halt) → stood.halt ≡ halt → EndsAt job.image (w.actors c).start (with_turns stood.turns a) stood.frame halt (yield_by (with_turns stood.turns a) stood.frame res e) →
            arg_of_result res ≡ result_seen w (Some c) → e ≢ end.Spent → end_at halt ≡ e → Own job w c (g c)
        comes res e halt is ends seen unspent ended = record {
          yield = yield_by (with_turns stood.turns a) stood.frame res e;
          through = record {
            told = (w.actors c).told;
            account = a;
            right = t.right;
            stood = stood;
            halts = halts;
            ends = subst (λ h. EndsAt job.image (w.actors c).start (with_turns stood.turns a) stood.frame h (yield_by (with_turns stood.turns a) stood.frame res e)) (sym is) ends;
          };
          turns = all_told;
          result = seen;
          unspent = unspent;
          stood = stood;
          halts = halts;
          ended = ap end_at is ∙ ended;
          printed = refl;
        }

        -- its result, where it isn't over
        result_on : is_over (w.actors c).status ≡ false → arg_of_result a.result ≡ result_seen w (Some c)
        result_on over = at (has_given (w.actors c).told) refl where
          at : (b : Bool) → has_given (w.actors c).told ≡ b → arg_of_result a.result ≡ result_seen w (Some c)
          at true is = let v = t.given is in ap arg_of_result v.1 ∙ (arg_of_result_of v.0 ∙ v.2)
          at false is = ap arg_of_result (t.not_given is) ∙ sym (ap (λ f. arg_of_reply (known_of f)) ((r.fated c).unsettled is over))

        -- at an end, where `becomes` says what becomes of a result that is open
        result_over : (becomes : BodyResult → BodyResult) (ending : Ending) → ((v : Arg) → becomes (result_of v) ≡ result_of v) → becomes result.Open ≡ result_at_end job (w.actors c) ending →
            (has_given (w.actors c).told ≡ false → (w.actors c).fate ≡ fate_of (result_at_end job (w.actors c) ending)) → arg_of_result (becomes a.result) ≡ result_seen w (Some c)
        result_over becomes ending stays says fate = at (has_given (w.actors c).told) refl where
          at : (b : Bool) → has_given (w.actors c).told ≡ b → arg_of_result (becomes a.result) ≡ result_seen w (Some c)
          at true is = let v = t.given is in ap (λ s. arg_of_result (becomes s)) v.1 ∙ (ap arg_of_result (stays v.0) ∙ (arg_of_result_of v.0 ∙ v.2))
          at false is = ap (λ s. arg_of_result (becomes s)) (t.not_given is) ∙ (ap arg_of_result says
              ∙ (sym (fate_seen (result_at_end job (w.actors c) ending)) ∙ sym (ap (λ f. arg_of_reply (known_of f)) (fate is))))

        member : (w.actors c).start.member ≡ (w.actors c).call.member
        member = start_member job (w.actors c) (plain_start job (w.actors c) (r.plain c there) starts)

        parked : (call child : ℕ) → (w.actors c).status ≡ status.Parked child → stood.halt ≡ Stands (Needs (Pending call)) → (w.actors c).child call ≡ Some child → Own job w c (g c)
        parked call child is halt found = comes a.result end.Waits (Stands (Needs (Pending call))) halt
            (t.answers call names.0 names.1 ∙ (ap (result_seen w) found ∙ ap arg_of_reply (r.still.rest.parked c child there is)), refl)
            (result_on (ap is_over is)) (λ e. cc e) refl where
              names : IsMade (calls_made (w.actors c).told) (Pending call)
              names = subst (NamesMade (calls_made (w.actors c).told)) halt (names_made job.image (w.actors c).start (w.actors c).told stood halts)

        missed : (line : ℕ) (ending : Ending) → ending ≡ Finishes line → (has_given (w.actors c).told ≡ false → (w.actors c).fate ≡ fate_of (result_at_end job (w.actors c) ending)) →
            arg_of_result (or_missed (missed_at job.image line (w.actors c).start.member) a.result) ≡ result_seen w (Some c)
        missed line ending is = result_over (or_missed (missed_at job.image line (w.actors c).start.member)) ending (or_given (missed_at job.image line (w.actors c).start.member))
            (ap (missed_at job.image line) member ∙ ap (result_at_end job (w.actors c)) (sym is))

        same_ending : (d e : Ending) → Some d ≡ Some e → e ≡ d
        same_ending d e h = cc h

        ended : has_begun (w.actors c).status ≡ true → (halt : Halt) (ending : Ending) → stood.halt ≡ halt → ending_at halt ≡ Some ending → (has_given (w.actors c).told ≡ false → (w.actors c).fate ≡ fate_of (result_at_end job (w.actors c) ending)) → Own job w c (g c)
        ended over (Stands (Ends line)) ending halt is fate = comes (or_missed (missed_at job.image line (w.actors c).start.member) a.result) end.Done (Stands (Ends line)) halt refl
            (missed line ending (same_ending (Finishes line) ending is) fate) (λ e. cc e) refl
        ended over (Stands Strays) ending halt is fate = comes (or_missed (missed_at job.image 0 (w.actors c).start.member) a.result) end.Done (Stands Strays) halt
            (strays c there over (w.actors c).told a stood t.right halts halt, refl) (missed 0 ending (same_ending (Finishes 0) ending is) fate) (λ e. cc e) refl
        ended over (Stands (Traps trap)) ending halt is fate = comes (result_at_trap (w.actors c).start.member trap a.result) (end.Trap trap) (Stands (Traps trap)) halt refl
            (result_over (result_at_trap (w.actors c).start.member trap) ending (trap_given (w.actors c).start.member trap)
            (ap (λ m. result_at_trap m trap result.Open) member ∙ ap (result_at_end job (w.actors c)) (sym (same_ending (Fails trap) ending is))) fate) (λ e. cc e) refl
        ended over (Stands (Calls member object arguments)) ending halt is fate = absurd (cc is)
        ended over (Stands (Needs value)) ending halt is fate = absurd (cc is)
        ended over (Stands (Replies value)) ending halt is fate = absurd (cc is)
        ended over (Stands (Creates class)) ending halt is fate = absurd (cc is)
        ended over Beats ending halt is fate = absurd (cc is)

    settled_at : (s : ActorStatus) → (w.actors c).status ≡ s → HasArguments job (w.actors c) s → Halted job (w.actors c) s → HasTurns job (w.actors c) s → DidAt job w c (g c) s
    settled_at (status.Waiting n) is args halted turns = idle_turns turns
    settled_at status.Ready is args halted turns = absurd (r.still.rest.ready c there is)
    settled_at status.Running is args halted turns = absurd (r.still.rest.running c there is)
    settled_at (status.Parked child) is args halted turns = let d = done args turns in
        parked args turns d.0 d.1 halted.stood halted.halts halted.counted halted.call child is halted.needs halted.is
    settled_at status.Ended is args halted turns = let d = done args turns in
        ended args turns d.0 d.1 halted.stood halted.halts halted.counted (ap has_begun is) halted.stood.halt halted.ending refl halted.ends halted.result
    settled_at status.Poisoned is args halted turns = idle_turns turns

    settled : Did job w c (g c)
    settled = let s = r.stages c in settled_at (w.actors c).status refl s.arguments s.halted s.turns

  -- from the newest actor down
  settle_from : (k c : ℕ) → w.count ≤ c + k → c < w.count → Did job w c (g c)
  settle_from zero c far there = absurd (omega (arith, far, there))
  settle_from (suc k) c far there = settled c there (λ d newer below. settle_from k d (omega (arith, far, newer)) below)

  pub all_settled : (c : ℕ) → c < w.count → Did job w c (g c)
  all_settled c there = settle_from w.count c (omega arith) there
