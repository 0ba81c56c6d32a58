-- Along a log each body that has begun starts with words of its formals' sizes, and each known result has its size.
use Rattle.std.proofs.Common.{◌≡◌, ◌+◌, ◌<◌, ◌≤◌, ◌⊎◌, ℕ, zero, suc, Bool, true, false, sum, List, [], ◌∷◌, length, take, flat_map, slice_get, Option, Some, None, ℤ, refl, sym, ap, ap₂, ◌∙◌, subst, arith, inl, inr, nat_lt, ltb-true, ltb-false}
use Rattle.std.specs.Option.{option_map, unwrap_or}
use Rattle.mpl_value.specs.declared.body.Arg.{Arg}
use Rattle.mpl_value.specs.declared.body.Arg.TheVariants.{Know, Trapped, Unknown}
use Rattle.mpl_value.specs.declared.body.BodyResult.TheVariants as result
use Rattle.mpl_value.specs.declared.body.BodyStart.{BodyStart}
use Rattle.mpl_value.specs.declared.body.MemberId.{MemberId}
use Rattle.mpl_value.specs.declared.known.Known.{Known}
use Rattle.mpl_value.specs.declared.known.Known.TheVariants as known
use Rattle.mpl_value.specs.CallAnswers.{any_unknown, arg_of_reply, known_words, leftmost_trap}
use Rattle.mpl_value.specs.Results.{result_of}
use Rattle.mdf_actor.specs.Statuses.{is_over}
use Rattle.mdf_actor.specs.declared.status.ActorStatus.{ActorStatus}
use Rattle.mdf_actor.specs.declared.status.ActorStatus.TheVariants as status
use Rattle.mdf_code.specs.declared.raw.RawImage.{RawImage}
use Rattle.mdf_code.specs.declared.raw.RawMember.{RawMember}
use Rattle.mdf_code.specs.Alone.{Held, Words, Pending, seen_by, values_seen}
use Rattle.mdf_code.specs.Frames.{Calls, Creates, Needs, Replies}
use Rattle.mdf_code.specs.Parts.{result_words, sizes_of}
use Rattle.mdf_code.specs.Sizes.{ArgFits, ArgumentsFit, ResultFits, StartFits, sizes_of_start, words_given}
use Rattle.mdf_code.specs.Told.{Beaten, Beats, Called, Gave, Halt, HaltsNext, Learnt, Named, Stands, Stood, Told, calls_made, has_given}
use Rattle.mdf_code.specs.Yields.{formals_of, missed, missed_at, missed_by, result_at_trap, words_of_member, words_of_result}
use Rattle.mdf_code.proofs.FittingValues.{joined_fit}
use Rattle.mdf_match.specs.Ports.{missing_in}
use Rattle.mdf_core.specs.Actors.{Actor, Call, arguments_of, is_post, known_of, main_call, port_words}
use Rattle.mdf_core.specs.Arguments.{ArgumentIs, HasArgument}
use Rattle.mdf_core.specs.Causes.{AreSo, HasActor, IsGiven, IsSo, Passes}
use Rattle.mdf_core.specs.Enabled.{IsLog}
use Rattle.mdf_core.specs.Events.{Ending, Finishes, Fails}
use Rattle.mdf_core.specs.Stages.{AsItsStatus, HasArguments, Halted, HasTurns, Starts, StartsAs, OfMain, OfMember, fate_of, has_begun}
use Rattle.mdf_core.specs.Steps.{Log, after, result_at_end}
use Rattle.mdf_core.specs.Trees.{IsTree}
use Rattle.mdf_core.specs.Worlds.{Job, World, known_at}
use Rattle.mdf_core.proofs.Changes.{MissesAt}
use Rattle.mdf_core.proofs.Fates.{Fated, fated, is_early}
use Rattle.mdf_core.proofs.FilledPorts.{ports_fit, some_same}
use Rattle.mdf_core.proofs.Lists.{by_bool, same_or}
use Rattle.mdf_core.proofs.Staging.{as_statuses_say}
use Rattle.mdf_core.proofs.Standing.{Standing, stand}
use Rattle.mdf_core.proofs.ToldSo.{so}
use Rattle.mdf_core.proofs.Transitions.{empty_misses}
use Rattle.mdf_core.proofs.TreeOfActors.{tree}
use Rattle.mdf_drive.specs.AtRest.{call_seen, result_seen}
use Rattle.mdf_drive.proofs.Plainness.{main_call_is}
use Rattle.mdf_drive.proofs.SeenArguments.{seen_all}
use Rattle.mdf_drive.proofs.Tallies.{none_unknown}
use Rattle.mdf_drive.proofs.FittingFrames.{AllKeep, HaltFits, TellsWell, halt_fits, keeps_first, keeps_on}

-- ---- values

-- a result of a size, as a value
value_fits : (words : ℕ) (v : Arg) → ResultFits (Some words) (result_of v) → ArgFits words v
value_fits words (Know ws) fits = fits
value_fits words (Trapped t) fits = tt
value_fits words Unknown fits = tt

-- a result that was missed has its size
missed_fits : (image : RawImage) (line : ℕ) (member : MemberId) → ArgFits (words_of_result image member.0) (arg_of_reply (known_of (fate_of (missed_at image line (Some member)))))
missed_fits image line member = by_member (slice_get image.members member.0) where
  by_result : (o : Option ℕ) → ArgFits (result_words o) (arg_of_reply (known_of (fate_of (missed line o))))
  by_result None = refl
  by_result (Some words) = tt

  by_member : (o : Option RawMember) → ArgFits (words_of_member o) (arg_of_reply (known_of (fate_of (missed_by line o))))
  by_member None = tt
  by_member (Some m) = by_result m.result

ending_fits : (job : Job) (x : Actor) (member : MemberId) (ending : Ending) → x.call.member ≡ Some member → ArgFits (words_of_result job.image member.0) (arg_of_reply (known_of (fate_of (result_at_end job x ending))))
ending_fits job x member (Finishes line) is =
    subst (λ (o : Option MemberId). ArgFits (words_of_result job.image member.0) (arg_of_reply (known_of (fate_of (missed_at job.image line o))))) (sym is) (missed_fits job.image line member)
ending_fits job x member (Fails trap) is =
    subst (λ (o : Option MemberId). ArgFits (words_of_result job.image member.0) (arg_of_reply (known_of (fate_of (result_at_trap o trap result.Open))))) (sym is) tt

-- known arguments of the sizes of the formals
joined : (arguments : List Arg) (o : Option RawMember) → ArgumentsFit arguments o → any_unknown arguments ≡ false → leftmost_trap arguments ≡ None
    → length (flat_map (λ words. words) (known_words arguments)) ≡ sum (take (formals_of o) (sizes_of (option_map (λ (m : RawMember). m.body) o)))
joined arguments None fits known untrapped = absurd fits
joined arguments (Some m) fits known untrapped = joined_fit (take m.formals m.body.vars) arguments fits known untrapped

-- ---- a machine after a log

record Logged (job : Job) (w : World) : Type 0 where
  tree : IsTree w
  stages : (c : ℕ) → AsItsStatus job (w.actors c)
  standing : (c : ℕ) → Standing w c
  fated : (c : ℕ) → Fated (w.actors c)
  so : (c : ℕ) → c < w.count → AreSo job w c (w.actors c).told
  ports : (c place : ℕ) (known : Known) → c < w.count → slice_get (w.actors c).ports place ≡ Some (Some known) → HasArgument w c place known
  main : (w.actors 0).call ≡ main_call

logged : (job : Job) (log : Log) → IsLog job log → Logged job (after job log)
logged job log h = record {
  tree = tree job log h;
  stages = as_statuses_say job log h;
  standing = stand job log h;
  fated = fated job log h;
  so = so job log h;
  ports = ports_fit job log h;
  main = main_call_is job log h;
}

-- an actor that has begun has all arguments and a start
record Begun (job : Job) (x : Actor) : Type 0 where
  starts : Starts job x
  full : missing_in x.ports ≡ 0

begun_at : (job : Job) (x : Actor) (s : ActorStatus) → has_begun s ≡ true → HasArguments job x s → MissesAt s (missing_in x.ports) → Begun job x
begun_at job x (status.Waiting n) is args misses = absurd cc
begun_at job x status.Ready is args misses = absurd cc
begun_at job x status.Running is args misses = record { starts = args; full = misses }
begun_at job x (status.Parked child) is args misses = record { starts = args; full = misses }
begun_at job x status.Ended is args misses = record { starts = args; full = misses }
begun_at job x status.Poisoned is args misses = absurd cc

-- one that was told something has begun
told_begun : (job : Job) (x : Actor) (s : ActorStatus) → HasTurns job x s → 1 ≤ calls_made x.told → has_begun s ≡ true
told_begun job x (status.Waiting n) turns made = absurd (omega (arith, made, ap calls_made turns.told))
told_begun job x status.Ready turns made = absurd (omega (arith, made, ap calls_made turns.told))
told_begun job x status.Running turns made = refl
told_begun job x (status.Parked child) turns made = refl
told_begun job x status.Ended turns made = refl
told_begun job x status.Poisoned turns made = absurd (omega (arith, made, ap calls_made turns.told))

-- where the body of a call starts
record StartsCall (x : Actor) (member : MemberId) : Type 0 where
  member_is : x.start.member ≡ Some member
  args : x.start.args ≡ port_words x.ports

starts_call : (job : Job) (x : Actor) (member : MemberId) → x.call.member ≡ Some member → Starts job x → StartsCall x member
starts_call job x member named s = at (is_post x.call) s.start where
  at : (b : Bool) → StartsAs job x.call x.ports x.start b → StartsCall x member
  at true s = record { member_is = ap (λ (b : BodyStart). b.member) s.is ∙ ap (λ o. Some (unwrap_or o (record { 0 = 0 }))) named; args = ap (λ (b : BodyStart). b.args) s.is }
  at false (OfMain none is) = absurd (cc (none, named))
  at false (OfMember own is start) = record { member_is = ap (λ (b : BodyStart). b.member) start ∙ (sym is ∙ named); args = ap (λ (b : BodyStart). b.args) start }

main_fits : (job : Job) (x : Actor) → x.call ≡ main_call → Starts job x → StartFits job.image x.start
main_fits job x call s = at (subst (StartsAs job x.call x.ports x.start) (ap is_post call) s.start) where
  at : StartsAs job x.call x.ports x.start false → StartFits job.image x.start
  at (OfMain none is) = subst (StartFits job.image) (sym is) refl
  at (OfMember own named is) = absurd (cc (named, ap (λ (c : Call). c.member) call))

module _ (job : Job) (w : World) (r : Logged job w) where
  -- the start of an actor fits, and its arguments fit its member's formals
  record Well (c : ℕ) : Type 0 where
    start : StartFits job.image (w.actors c).start
    arguments : (member : MemberId) → (w.actors c).call.member ≡ Some member → ArgumentsFit (arguments_of (w.actors c).ports) (slice_get job.image.members member.0)

  -- so it is with an actor that has begun
  abbrev StartsWell : ℕ → Type 0
  StartsWell c = has_begun (w.actors c).status ≡ true → Well c

  -- what is known of an actor's result fits
  abbrev GivesWell : ℕ → Type 0
  GivesWell c = (member : MemberId) → (w.actors c).call.member ≡ Some member → ArgFits (words_of_result job.image member.0) (result_seen w (Some c))

  begun : (c : ℕ) → has_begun (w.actors c).status ≡ true → Begun job (w.actors c)
  begun c is = begun_at job (w.actors c) (w.actors c).status is (r.stages c).arguments (r.standing c).misses

  -- with all arguments known the ports hold what is seen of them
  arguments_seen : (d : ℕ) → d < w.count → missing_in (w.actors d).ports ≡ 0 → arguments_of (w.actors d).ports ≡ values_seen (seen_by (call_seen w (w.actors d).call.caller)) (w.actors d).call.arguments
  arguments_seen d there full = seen_all (seen_by (call_seen w (w.actors d).call.caller)) (w.actors d).ports (w.actors d).call.arguments (r.stages d).member.sized each where
    value : (known : Known) (argument : Held) → ArgumentIs w (w.actors d).call.caller known argument → arg_of_reply (Some known) ≡ seen_by (call_seen w (w.actors d).call.caller) argument
    value known (Words words) is = ap (λ k. arg_of_reply (Some k)) (sym is)
    value known (Pending call) is = ap arg_of_reply (sym is)

    each : (place : ℕ) (o : Option Known) (x : Held) → slice_get (w.actors d).ports place ≡ Some o → slice_get (w.actors d).call.arguments place ≡ Some x → arg_of_reply o ≡ seen_by (call_seen w (w.actors d).call.caller) x
    each place None x port at = absurd (let e = empty_misses (w.actors d).ports place port in omega (arith, e.1, full))
    each place (Some known) x port at = let a = r.ports d place known there port in value known a.argument a.is ∙ ap (seen_by (call_seen w (w.actors d).call.caller)) (some_same (sym a.at ∙ at))

  -- ---- what the frame of an actor was told

  module _ (a : ℕ) (here : a < w.count) (fit : StartFits job.image (w.actors a).start) (later : (d : ℕ) → a < d → d < w.count → StartsWell d → GivesWell d) where
    abbrev start : BodyStart
    start = (w.actors a).start

    abbrev will : ℕ → Arg
    will = call_seen w a

    record Walked (told : List Told) : Type 0 where
      keeps : AllKeep job.image (w.actors a).start (call_seen w a) told
      children : (call d : ℕ) → 1 ≤ call → call ≤ calls_made told → (w.actors a).child call ≡ Some d → StartsWell d
      given : has_given told ≡ true → (member : MemberId) → (w.actors a).start.member ≡ Some member → ArgFits (words_of_result job.image member.0) (result_seen w (Some a))

    module _ (before : List Told) (k : Walked before) (stood : Stood) (halts : HaltsNext job.image (w.actors a).start before stood) where
      fits_at : (halt : Halt) → stood.halt ≡ halt → HaltFits job.image start will halt stood.frame
      fits_at halt is = subst (λ h. HaltFits job.image start will h stood.frame) is (halt_fits job.image start will before k.keeps stood halts)

      keeps_told : (halt : Halt) → stood.halt ≡ halt → (t : Told) → TellsWell job.image start will before halt t → AllKeep job.image start will (t ∷ before)
      keeps_told halt is t well = keeps_on job.image start will before k.keeps stood halts t (subst (λ h. TellsWell job.image start will before h t) (sym is) well)

      -- a call whose arguments fit
      called : (member : ℕ) (object : ℤ) (arguments : List Held) → stood.halt ≡ Stands (Calls member object arguments) → HasActor w a (calls_made before + 1) member object arguments → Walked (Called ∷ before)
      called member object arguments is h = record {
        keeps = keeps_told (Stands (Calls member object arguments)) is Called
            (subst (λ o. ArgFits (words_of_result job.image member) (result_seen w o)) (sym h.is) (later h.child newer there well (record { 0 = member }) h.member_is));
        children = λ call d first made found. child call d first made found (same_or call (calls_made before + 1));
        given = k.given;
      } where
        newer : a < h.child
        newer = (r.tree.children a (calls_made before + 1) h.child h.is).newer

        there : h.child < w.count
        there = (r.tree.children a (calls_made before + 1) h.child h.is).there

        caller : (w.actors h.child).call.caller ≡ a
        caller = (r.tree.children a (calls_made before + 1) h.child h.is).caller

        arguments_fit : missing_in (w.actors h.child).ports ≡ 0 → ArgumentsFit (arguments_of (w.actors h.child).ports) (slice_get job.image.members member)
        arguments_fit full = subst (λ args. ArgumentsFit args (slice_get job.image.members member))
            (sym (arguments_seen h.child there full ∙ ap₂ (λ d args. values_seen (seen_by (call_seen w d)) args) caller h.arguments_are))
            (fits_at (Stands (Calls member object arguments)) is).1

        well : StartsWell h.child
        well begins = let b = begun h.child begins in let s = starts_call job (w.actors h.child) (record { 0 = member }) h.member_is b.starts in
            record {
              start = ap length s.args ∙ (joined (arguments_of (w.actors h.child).ports) (slice_get job.image.members member) (arguments_fit b.full) (none_unknown (w.actors h.child).ports b.full) b.starts.untrapped
                  ∙ ap (λ o. sum (sizes_of_start job.image o)) (sym s.member_is));
              arguments = λ own named. subst (λ (m : MemberId). ArgumentsFit (arguments_of (w.actors h.child).ports) (slice_get job.image.members m.0)) (some_same (sym h.member_is ∙ named)) (arguments_fit b.full);
            }

        child : (call d : ℕ) → 1 ≤ call → call ≤ calls_made before + 1 → (w.actors a).child call ≡ Some d → (call ≡ calls_made before + 1) ⊎ (call ≡ calls_made before + 1 → ⊥) → StartsWell d
        child call d first made found (inl same) = subst StartsWell (some_same (sym h.is ∙ (sym (ap (w.actors a).child same) ∙ found))) well
        child call d first made found (inr differ) = k.children call d first
            (by_bool (nat_lt (calls_made before) call) (λ e. absurd (differ (omega (arith, made, ltb-true (calls_made before) call e)))) (λ e. ltb-false (calls_made before) call e)) found

      -- what was given fits
      gave : (value : Held) → stood.halt ≡ Stands (Replies value) → IsGiven w a value → (member : MemberId) → (w.actors a).start.member ≡ Some member → ArgFits (words_of_result job.image member.0) (result_seen w (Some a))
      gave value is given member own = at value given seen where
        seen : ArgFits (words_of_result job.image member.0) (seen_by (call_seen w a) value)
        seen = value_fits (words_of_result job.image member.0) (seen_by (call_seen w a) value)
            (subst (λ (o : Option MemberId). ResultFits (words_given job.image o) (result_of (seen_by (call_seen w a) value))) own (fits_at (Stands (Replies value)) is).1)

        passed : (child : ℕ) → Passes w a child → ArgFits (words_of_result job.image member.0) (result_seen w (Some child)) → ArgFits (words_of_result job.image member.0) (result_seen w (Some a))
        passed child (inl f) fits = subst (λ o. ArgFits (words_of_result job.image member.0) (arg_of_reply o)) (sym (ap known_of f)) tt
        passed child (inr p) fits = subst (λ o. ArgFits (words_of_result job.image member.0) (arg_of_reply o)) (p.2 ∙ sym (ap known_of p.1)) fits

        at : (v : Held) → IsGiven w a v → ArgFits (words_of_result job.image member.0) (seen_by (call_seen w a) v) → ArgFits (words_of_result job.image member.0) (result_seen w (Some a))
        at (Words words) given fits = subst (λ o. ArgFits (words_of_result job.image member.0) (arg_of_reply o)) (sym given) fits
        at (Pending call) given fits = passed given.0 given.2 (subst (λ o. ArgFits (words_of_result job.image member.0) (result_seen w o)) given.1 fits)

      one : (halt : Halt) → stood.halt ≡ halt → (t : Told) → IsSo w a before halt t → Walked (t ∷ before)
      one (Stands (Calls member object arguments)) is Called h = called member object arguments is h
      one (Stands (Needs (Pending call))) is (Learnt known) h = record { keeps = keeps_told (Stands (Needs (Pending call))) is (Learnt known) (ap arg_of_reply h); children = k.children; given = k.given }
      one (Stands (Creates class)) is (Named object) h = record { keeps = keeps_told (Stands (Creates class)) is (Named object) tt; children = k.children; given = k.given }
      one (Stands (Replies value)) is Gave h = record { keeps = keeps_told (Stands (Replies value)) is Gave tt; children = k.children; given = λ g. gave value is h }
      one Beats is Beaten h = record { keeps = keeps_told Beats is Beaten tt; children = k.children; given = k.given }
      one halt is t h = absurd h

    walk : (told : List Told) → AreSo job w a told → Walked told
    walk [] so = record { keeps = keeps_first job.image (w.actors a).start (call_seen w a) fit; children = λ call d first made found. absurd (omega (arith, first, made)); given = λ g. absurd (cc g) }
    walk (t ∷ before) so = one before (walk before so.1) so.0.stood so.0.halts so.0.stood.halt refl t so.0.is

  -- ---- results

  module _ (c : ℕ) (here : c < w.count) (well : StartsWell c) (later : (d : ℕ) → c < d → d < w.count → StartsWell d → GivesWell d) (member : MemberId) (named : (w.actors c).call.member ≡ Some member) where
    abbrev Good : Type 0
    Good = ArgFits (words_of_result job.image member.0) (result_seen w (Some c))

    by_fate : (o : Option Known) → known_at w (Some c) ≡ o → ArgFits (words_of_result job.image member.0) (arg_of_reply o) → Good
    by_fate o is fits = subst (λ o. ArgFits (words_of_result job.image member.0) (arg_of_reply o)) (sym is) fits

    -- one that isn't over and has given nothing
    opened : has_given (w.actors c).told ≡ false → is_over (w.actors c).status ≡ false → Good
    opened none over = by_fate None (ap known_of ((r.fated c).unsettled none over)) tt

    given : has_begun (w.actors c).status ≡ true → has_given (w.actors c).told ≡ true → Good
    given is gave = (walk c here (well is).start later (w.actors c).told (r.so c here)).given gave member (starts_call job (w.actors c) member named (begun c is).starts).member_is

    early : is_early (w.actors c).status ≡ true → is_over (w.actors c).status ≡ false → Good
    early is over = opened (ap has_given ((r.fated c).untold is)) over

    on_the_way : has_begun (w.actors c).status ≡ true → is_over (w.actors c).status ≡ false → Good
    on_the_way is over = by_bool (has_given (w.actors c).told) (given is) (λ none. opened none over)

    at : (s : ActorStatus) → (w.actors c).status ≡ s → HasArguments job (w.actors c) s → Halted job (w.actors c) s → Good
    at (status.Waiting n) is args halted = early (ap is_early is) (ap is_over is)
    at status.Ready is args halted = early (ap is_early is) (ap is_over is)
    at status.Running is args halted = on_the_way (ap has_begun is) (ap is_over is)
    at (status.Parked child) is args halted = on_the_way (ap has_begun is) (ap is_over is)
    at status.Ended is args halted = by_bool (has_given (w.actors c).told) (given (ap has_begun is))
        (λ none. by_fate (known_of (fate_of (result_at_end job (w.actors c) halted.ending))) (ap known_of (halted.result none)) (ending_fits job (w.actors c) member halted.ending named))
    at status.Poisoned is args halted = by_fate (Some (known.Trapped args.trap)) (ap known_of args.is) tt

    result_fits : Good
    result_fits = at (w.actors c).status refl (r.stages c).arguments (r.stages c).halted

  -- from the newest actor down
  gives_from : (k c : ℕ) → w.count ≤ c + k → c < w.count → StartsWell c → GivesWell c
  gives_from zero c far here well = absurd (omega (arith, far, here))
  gives_from (suc k) c far here well = result_fits c here well (λ d newer there. gives_from k d (omega (arith, far, newer)) there)

  gives_well : (c : ℕ) → c < w.count → StartsWell c → GivesWell c
  gives_well c here = gives_from w.count c (omega arith) here

  -- ---- starts

  -- from `main` on
  starts_below : (k c : ℕ) → c < k → c < w.count → StartsWell c
  starts_below zero c below here = absurd (omega (arith, below))
  starts_below (suc k) zero below here = λ is. record {
    start = main_fits job (w.actors 0) r.main (begun 0 is).starts;
    arguments = λ member named. absurd (cc (named, ap (λ (c : Call). c.member) r.main));
  }
  starts_below (suc k) (suc c) below here =
      let found = r.tree.callers (suc c) (omega arith) here in
      let child = r.tree.children (w.actors (suc c)).call.caller (w.actors (suc c)).call.place (suc c) found in
      of_caller (w.actors (suc c)).call.caller (omega (arith, child.newer, here)) (starts_below k (w.actors (suc c)).call.caller (omega (arith, child.newer, below)) (omega (arith, child.newer, here)))
      (w.actors (suc c)).call.place child.first child.made found where
        of_caller : (a : ℕ) → a < w.count → StartsWell a → (call : ℕ) → 1 ≤ call → call ≤ calls_made (w.actors a).told → (w.actors a).child call ≡ Some (suc c) → StartsWell (suc c)
        of_caller a there well call first made found =
            let is = told_begun job (w.actors a) (w.actors a).status (r.stages a).turns (omega (arith, first, made)) in
            (walk a there (well is).start (λ d newer. gives_well d) (w.actors a).told (r.so a there)).children call (suc c) first made found

  starts_well : (c : ℕ) → c < w.count → StartsWell c
  starts_well c here = starts_below w.count c here here

-- ---- the laws

pub actor_starts : (job : Job) (log : Log) → IsLog job log → (c : ℕ) → has_begun ((after job log).actors c).status ≡ true → Starts job ((after job log).actors c)
actor_starts job log h c is = (begun job (after job log) (logged job log h) c is).starts

pub starts_fit : (job : Job) (log : Log) → IsLog job log → (c : ℕ) → c < (after job log).count → has_begun ((after job log).actors c).status ≡ true → StartFits job.image ((after job log).actors c).start
starts_fit job log h c here is = (starts_well job (after job log) (logged job log h) c here is).start

pub arguments_fit : (job : Job) (log : Log) → IsLog job log → (c : ℕ) (member : MemberId) → c < (after job log).count → has_begun ((after job log).actors c).status ≡ true → ((after job log).actors c).call.member ≡ Some member
    → ArgumentsFit (arguments_of ((after job log).actors c).ports) (slice_get job.image.members member.0)
arguments_fit job log h c member here is named = (starts_well job (after job log) (logged job log h) c here is).arguments member named

pub results_fit : (job : Job) (log : Log) → IsLog job log → (c : ℕ) (member : MemberId) → c < (after job log).count → ((after job log).actors c).call.member ≡ Some member
    → ArgFits (words_of_result job.image member.0) (result_seen (after job log) (Some c))
results_fit job log h c member here = gives_well job (after job log) (logged job log h) c here (starts_well job (after job log) (logged job log h) c here) member

-- where the frame of an actor halts next it has its sizes, and so has what it hands out
pub halts_fit : (job : Job) (log : Log) → IsLog job log → (c : ℕ) → c < (after job log).count → has_begun ((after job log).actors c).status ≡ true
    → (stood : Stood) → HaltsNext job.image ((after job log).actors c).start ((after job log).actors c).told stood
    → HaltFits job.image ((after job log).actors c).start (call_seen (after job log) c) stood.halt stood.frame
halts_fit job log h c here is stood halts =
    let w = after job log in let r = logged job log h in
    halt_fits job.image (w.actors c).start (call_seen w c) (w.actors c).told
    (walk job w r c here (starts_well job w r c here is).start (λ d newer. gives_well job w r d) (w.actors c).told (r.so c here)).keeps stood halts
