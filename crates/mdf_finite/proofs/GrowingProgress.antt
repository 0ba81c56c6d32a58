-- The progress of each actor grows along a log.
use Rattle.std.proofs.Common.{◌≡◌, ◌+◌, ◌<◌, ◌≤◌, ◌⊎◌, inl, inr, ℕ, zero, suc, Bool, true, false, cond, List, ◌∷◌, Option, Some, None, ℤ, refl, ap, sym, ◌∙◌, subst, arith, nat_eq, eqb-true}
use Rattle.mpl_value.specs.CallAnswers.{leftmost_trap}
use Rattle.mpl_value.specs.declared.known.Known.{Known}
use Rattle.mpl_value.specs.declared.known.Trap.{Trap}
use Rattle.mdf_actor.specs.declared.status.ActorStatus.{ActorStatus}
use Rattle.mdf_actor.specs.declared.status.ActorStatus.TheVariants as status
use Rattle.mdf_code.specs.Told.{has_given}
use Rattle.mdf_match.specs.Ports.{missing_in}
use Rattle.mdf_core.specs.Actors.{Actor, Fate, Open, Is, Forwarded, arguments_of, is_known, is_post, known_of}
use Rattle.mdf_core.specs.Awaited.{one_if}
use Rattle.mdf_core.specs.Calls.{complete, new_actor, ready}
use Rattle.mdf_core.specs.Enabled.{Enabled, IsLog}
use Rattle.mdf_core.specs.Events.{Ending, Event, Fire, Park, Resume, End}
use Rattle.mdf_core.specs.Naming.{is_running, sum_below}
use Rattle.mdf_core.specs.Steps.{Log, after, parks, step}
use Rattle.mdf_core.specs.Worlds.{Job, World, fate_at, is_in, known_at, spends}
use Rattle.mdf_core.proofs.EachStep.{Change, ByActor, ByCall, ByToken, ByArrival, ByAccept, ByEnd, changes}
use Rattle.mdf_core.proofs.Fates.{fated, is_early}
use Rattle.mdf_core.proofs.Lists.{nat_same, put_here}
use Rattle.mdf_core.proofs.Passing.{pass}
use Rattle.mdf_core.proofs.Running.{out_runs}
use Rattle.mdf_core.proofs.Standing.{stand}
use Rattle.mdf_core.proofs.ToldSo.{Later, later_step}
use Rattle.mdf_core.proofs.Transitions.{Came, ends_acted}
use Rattle.mdf_core.proofs.TreeOfActors.{tree}
use Rattle.mdf_core.proofs.Turning.{Turned, Stays, Fires, Sends, Makes, Learns, Parks, Resumes, Gives, Ends, EndsKnown, Pauses, Fills, Follows, Accepts, New, awaited, counted_now, settled, turned, with_port}
use Rattle.mdf_finite.proofs.LearntResults.{results_learnt}
use Rattle.mdf_finite.proofs.Moving.{put_back, taken_out, out_behind}
use Rattle.mdf_finite.proofs.Progress.{is_ended, is_parked_on, of_frame, of_mail, one_few, progress, stage, stage_of}
use Rattle.mdf_finite.proofs.Sums.{sum_gains, sum_longer, sum_most}

-- ---- frames

counted_told : (z : Actor) → (counted_now z).told ≡ z.told
counted_told z = at (missing_in z.ports) where
  by_kind : (b : Bool) → (cond {A = Actor → Actor} b complete ready z).told ≡ z.told
  by_kind true = refl
  by_kind false = refl

  by_trap : (t : Option Trap) → (settled z t).told ≡ z.told
  by_trap (Some trap) = refl
  by_trap None = by_kind (is_post z.call)

  at : (n : ℕ) → (awaited z n).told ≡ z.told
  at zero = by_trap (leftmost_trap (arguments_of z.ports))
  at (suc n) = refl

early_not_ended : (s : ActorStatus) → is_early s ≡ true → one_if (is_ended s) ≡ 0
early_not_ended (status.Waiting missing) early = refl
early_not_ended status.Ready early = refl
early_not_ended status.Running early = refl
early_not_ended (status.Parked child) early = refl
early_not_ended status.Ended early = absurd (cc early)
early_not_ended status.Poisoned early = refl

-- as long as it hasn't ended, what it was told is all that counts
told_alone : (x y : Actor) → one_if (is_ended x.status) ≡ 0 → y.told ≡ x.told → of_frame x ≤ of_frame y
told_alone x y going same = let learnt = ap results_learnt same in let given = ap (λ told. one_if (has_given told)) same in omega (arith, going, learnt, given)

not_ended : (x : Actor) (s : ActorStatus) → x.status ≡ s → is_ended s ≡ false → one_if (is_ended x.status) ≡ 0
not_ended x s is going = ap one_if (ap is_ended is ∙ going)

frame_grows : (job : Job) (w : World) (e : Event) (k : ℕ) (x y : Actor) → Turned job w e k x y → (k ≡ w.count → ⊥) → of_frame x ≤ of_frame y
frame_grows job w e k x y Stays old = omega arith
frame_grows job w e k x y (Fires named is) old = told_alone x y (not_ended x status.Ready is refl) refl
frame_grows job w e k x y (Sends turns callee member object arguments stood h halt) old = omega arith
frame_grows job w e k x y (Makes turns class object stood h halt) old = omega arith
frame_grows job w e k x y (Learns turns call known stood h halt) old = omega arith
frame_grows job w e k x y (Parks turns call child stood h halt is) old = told_alone x y (not_ended x status.Running h.running refl) refl
frame_grows job w e k x y (Resumes child is) old = told_alone x y (not_ended x (status.Parked child) is refl) refl
frame_grows job w e k x y (Gives turns value fate stood named h halt gives) old = let given = one_few (has_given x.told) in omega (arith, given)
frame_grows job w e k x y (Ends turns ending stood h is opened) old = told_alone x y (not_ended x status.Running h.running refl) refl
frame_grows job w e k x y (EndsKnown turns ending known stood h is fate settles) old = told_alone x y (not_ended x status.Running h.running refl) refl
frame_grows job w e k x y (Pauses stood h halt) old = omega arith
frame_grows job w e k x y (Fills port known empty fresh) old = told_alone x y (early_not_ended x.status fresh.early) (counted_told (with_port port known x))
frame_grows job w e k x y (Follows child known arc place at to knows is) old = omega arith
frame_grows job w e k x y (Accepts number state is) old = told_alone x y (not_ended x (status.Waiting 0) is refl) refl
frame_grows job w e k x y (New a member object arguments is ready) old = absurd (old is)

-- ---- mail

in_more : (c d : ℕ) (ds : List ℕ) → one_if (is_in c ds) ≤ one_if (is_in c (d ∷ ds))
in_more c d ds = at (nat_eq d c) where
  at : (b : Bool) → one_if (is_in c ds) ≤ one_if (cond b true (is_in c ds))
  at true = one_few (is_in c ds)
  at false = omega arith

mail_same : (k : ℕ) (arrived accepted now behind : List ℕ) → now ≡ arrived → behind ≡ accepted → of_mail arrived accepted k ≤ of_mail now behind k
mail_same k arrived accepted now behind a b = let first = ap (λ ds. one_if (is_in k ds)) a in let second = ap (λ ds. one_if (is_in k ds)) b in omega (arith, first, second)

mail_grows : (job : Job) (w v : World) (e : Event) → Change job w e v → (k : ℕ) → of_mail w.arrived w.accepted k ≤ of_mail v.arrived v.accepted k
mail_grows job w v e (ByActor o) k = mail_same k w.arrived w.accepted v.arrived v.accepted o.acted.lists.arrived o.acted.lists.accepted
mail_grows job w v e (ByCall o) k = mail_same k w.arrived w.accepted v.arrived v.accepted o.sent.arrived o.sent.accepted
mail_grows job w v e (ByToken o) k = at o.came where
  at : Came w v → of_mail w.arrived w.accepted k ≤ of_mail v.arrived v.accepted k
  at (c, inl q) = mail_same k w.arrived w.accepted v.arrived v.accepted q.only.lists.arrived q.only.lists.accepted
  at (c, inr f) = mail_same k w.arrived w.accepted v.arrived v.accepted f.lists.arrived f.lists.accepted
mail_grows job w v e (ByArrival o) k =
    let more = in_more k o.actor w.arrived in let same = mail_same k (o.actor ∷ w.arrived) w.accepted v.arrived v.accepted o.arrived o.accepted in omega (arith, more, same)
mail_grows job w v e (ByAccept o) k =
    let more = in_more k o.actor w.accepted in let same = mail_same k w.arrived (o.actor ∷ w.accepted) v.arrived v.accepted o.arrived o.accepted in omega (arith, more, same)
mail_grows job w v e (ByEnd o) k = mail_same k w.arrived w.accepted v.arrived v.accepted o.arrived o.accepted

-- ---- turns

turns_grow : (job : Job) (w v : World) (e : Event) → Change job w e v → w.turns ≤ v.turns
turns_grow job w v e (ByActor o) = let more = o.acted.turns in omega (arith, more)
turns_grow job w v e (ByCall o) = let more = o.sent.turns in omega (arith, more)
turns_grow job w v e (ByToken o) = at o.came where
  at : Came w v → w.turns ≤ v.turns
  at (c, inl q) = let same = q.only.turns in omega (arith, same)
  at (c, inr f) = let same = f.turns in omega (arith, same)
turns_grow job w v e (ByArrival o) = let same = o.turns in omega (arith, same)
turns_grow job w v e (ByAccept o) = let same = o.turns in omega (arith, same)
turns_grow job w v e (ByEnd o) = let same = o.turns in omega (arith, same)

-- ---- stages

known_some : (f : Fate) → is_known f ≡ true → (k : Known) × (known_of f ≡ Some k)
known_some Open h = absurd (cc h)
known_some (Is known) h = (known, refl)
known_some (Forwarded actor) h = absurd (cc h)

pub some_known : (f : Fate) (k : Known) → known_of f ≡ Some k → is_known f ≡ true
some_known Open k h = absurd (cc h)
some_known (Is known) k h = refl
some_known (Forwarded actor) k h = absurd (cc h)

pub none_known : (f : Fate) → known_of f ≡ None → is_known f ≡ false
none_known Open h = refl
none_known (Is known) h = absurd (cc h)
none_known (Forwarded actor) h = refl

parked_is : (c : ℕ) (s : ActorStatus) → is_parked_on c s ≡ true → s ≡ status.Parked c
parked_is c (status.Waiting missing) h = absurd (cc h)
parked_is c status.Ready h = absurd (cc h)
parked_is c status.Running h = absurd (cc h)
parked_is c (status.Parked child) h = ap status.Parked (eqb-true child c h)
parked_is c status.Ended h = absurd (cc h)
parked_is c status.Poisoned h = absurd (cc h)

pub parked_on : (c : ℕ) (s : ActorStatus) → s ≡ status.Parked c → is_parked_on c s ≡ true
parked_on c s is = ap (is_parked_on c) is ∙ nat_same c

same_child : (c d : ℕ) → status.Parked c ≡ status.Parked d → c ≡ d
same_child c d h = cc h

-- a frame that was put away stays so, or runs
parked_goes : (job : Job) (w : World) (e : Event) (k c : ℕ) (x y : Actor) → Turned job w e k x y → x.status ≡ status.Parked c → (y.status ≡ status.Parked c) ⊎ (y.status ≡ status.Running)
parked_goes job w e k c x y Stays was = inl was
parked_goes job w e k c x y (Fires named is) was = absurd (cc (is, was))
parked_goes job w e k c x y (Sends turns callee member object arguments stood h halt) was = absurd (cc (h.running, was))
parked_goes job w e k c x y (Makes turns class object stood h halt) was = absurd (cc (h.running, was))
parked_goes job w e k c x y (Learns turns call known stood h halt) was = absurd (cc (h.running, was))
parked_goes job w e k c x y (Parks turns call child stood h halt is) was = absurd (cc (h.running, was))
parked_goes job w e k c x y (Resumes child is) was = inr refl
parked_goes job w e k c x y (Gives turns value fate stood named h halt gives) was = absurd (cc (h.running, was))
parked_goes job w e k c x y (Ends turns ending stood h is opened) was = absurd (cc (h.running, was))
parked_goes job w e k c x y (EndsKnown turns ending known stood h is fate settles) was = absurd (cc (h.running, was))
parked_goes job w e k c x y (Pauses stood h halt) was = absurd (cc (h.running, was))
parked_goes job w e k c x y (Fills port known empty fresh) was = absurd (cc (fresh.early, ap is_early was))
parked_goes job w e k c x y (Follows child known arc place at to knows is) was = inl was
parked_goes job w e k c x y (Accepts number state is) was = absurd (cc (is, was))
parked_goes job w e k c x y (New a member object arguments is ready) was = absurd (cc (ready, was))

counted_not_parked : (z : Actor) (c : ℕ) → (counted_now z).status ≡ status.Parked c → ⊥
counted_not_parked z c = at (missing_in z.ports) where
  by_kind : (b : Bool) → (cond {A = Actor → Actor} b complete ready z).status ≡ status.Parked c → ⊥
  by_kind true h = cc h
  by_kind false h = cc h

  by_trap : (t : Option Trap) → (settled z t).status ≡ status.Parked c → ⊥
  by_trap (Some trap) h = cc h
  by_trap None h = by_kind (is_post z.call) h

  at : (n : ℕ) → (awaited z n).status ≡ status.Parked c → ⊥
  at zero h = by_trap (leftmost_trap (arguments_of z.ports)) h
  at (suc n) h = cc h

-- a frame that is put away was so, or ran
parked_before : (job : Job) (w : World) (e : Event) (k c : ℕ) (x y : Actor) → Turned job w e k x y → y.status ≡ status.Parked c → (x.status ≡ status.Parked c) ⊎ (x.status ≡ status.Running)
parked_before job w e k c x y Stays now = inl now
parked_before job w e k c x y (Fires named is) now = absurd (cc now)
parked_before job w e k c x y (Sends turns callee member object arguments stood h halt) now = inr h.running
parked_before job w e k c x y (Makes turns class object stood h halt) now = inr h.running
parked_before job w e k c x y (Learns turns call known stood h halt) now = inr h.running
parked_before job w e k c x y (Parks turns call child stood h halt is) now = inr h.running
parked_before job w e k c x y (Resumes child is) now = absurd (cc now)
parked_before job w e k c x y (Gives turns value fate stood named h halt gives) now = inr h.running
parked_before job w e k c x y (Ends turns ending stood h is opened) now = inr h.running
parked_before job w e k c x y (EndsKnown turns ending known stood h is fate settles) now = inr h.running
parked_before job w e k c x y (Pauses stood h halt) now = inr h.running
parked_before job w e k c x y (Fills port known empty fresh) now = absurd (counted_not_parked (with_port port known x) c now)
parked_before job w e k c x y (Follows child known arc place at to knows is) now = inl now
parked_before job w e k c x y (Accepts number state is) now = absurd (cc now)
parked_before job w e k c x y (New a member object arguments is ready) now = absurd (counted_not_parked (new_actor job a (w.actors a) member object arguments) c now)

-- how a stage may go on: a result that is known stays so, a caller goes on when it is known, and parks while it isn't
stage_grows : (was is known now : Bool) → (known ≡ true → now ≡ true) → (was ≡ true → is ≡ false → now ≡ true) → (was ≡ false → is ≡ true → known ≡ false) → stage was known ≤ stage is now
stage_grows true true known now stays goes parks = omega arith
stage_grows true false known now stays goes parks = let done = ap (stage false) (goes refl refl) in omega (arith, done)
stage_grows false true known now stays goes parks = let open_ = ap (stage false) (parks refl refl) in omega (arith, open_)
stage_grows false false true now stays goes parks = let done = ap (stage false) (stays refl) in omega (arith, done)
stage_grows false false false now stays goes parks = omega arith

park_status : (turns : ℕ) (o : Option ℕ) (child : ℕ) (x : Actor) → o ≡ Some child → (spends turns (parks turns o x)).status ≡ status.Parked child
park_status turns None child x is = absurd (cc is)
park_status turns (Some d) child x is = ap status.Parked (same is) where
  same : Some d ≡ Some child → d ≡ child
  same s = cc s

-- ---- a step

module _ (job : Job) (log : Log) (e : Event) (h : IsLog job (e ∷ log)) where
  turned_at : (k : ℕ) → Turned job (after job log) e k ((after job log).actors k) ((step job (after job log) e).actors k)
  turned_at = turned job (after job log) e h.0.1 (stand job log h.1) (fated job log h.1) (tree job log h.1)

  pub later : Later (after job log) (step job (after job log) e)
  later = later_step job (after job log) e h.0.1 (stand job log h.1) (fated job log h.1) (tree job log h.1) (pass job log h.1)

  changed : Change job (after job log) e (step job (after job log) e)
  changed = changes job (after job log) e h.0.1

  pub turns_more : (after job log).turns ≤ (step job (after job log) e).turns
  turns_more = turns_grow job (after job log) (step job (after job log) e) e changed

  known_still : (k : ℕ) → k < (after job log).count → is_known (fate_at (after job log) k) ≡ true → is_known (fate_at (step job (after job log) e) k) ≡ true
  known_still k there is = let known = known_some (fate_at (after job log) k) is in some_known (fate_at (step job (after job log) e) k) known.0 (later.known k known.0 there known.1)

  -- a frame that goes on
  goes_on : (a k : ℕ) → k < (after job log).count → is_parked_on k ((after job log).actors a).status ≡ true → is_parked_on k ((step job (after job log) e).actors a).status ≡ false →
      is_known (fate_at (step job (after job log) e) k) ≡ true
  goes_on a k there was is = at (parked_goes job (after job log) e a k ((after job log).actors a) ((step job (after job log) e).actors a) (turned_at a) parked) where
    parked : ((after job log).actors a).status ≡ status.Parked k
    parked = parked_is k ((after job log).actors a).status was

    runs_now : ((step job (after job log) e).actors a).status ≡ status.Running → out_behind e a false ≡ true
    runs_now running = ap (out_behind e a) (sym (out_runs job log a h.1 ∙ ap is_running parked)) ∙ (out_runs job (e ∷ log) a h ∙ ap is_running running)

    fires : e ≡ Fire a → is_known (fate_at (step job (after job log) e) k) ≡ true
    fires named = let may = subst (Enabled job (after job log)) named h.0.1 in absurd (cc (may.ready, parked))

    resumes : e ≡ Resume a → is_known (fate_at (step job (after job log) e) k) ≡ true
    resumes named =
        let may = subst (Enabled job (after job log)) named h.0.1 in
        let same = same_child may.child k (sym may.parked ∙ parked) in
        known_still k there (some_known (fate_at (after job log) k) may.known (subst (λ c. known_at (after job log) (Some c) ≡ Some may.known) same may.is))

    at : (((step job (after job log) e).actors a).status ≡ status.Parked k) ⊎ (((step job (after job log) e).actors a).status ≡ status.Running) → is_known (fate_at (step job (after job log) e) k) ≡ true
    at (inl stays) = absurd (cc (is, parked_on k ((step job (after job log) e).actors a).status stays))
    at (inr running) = taken_out e a (runs_now running) fires resumes

  -- a frame that is put away
  is_put_away : (a k : ℕ) → is_parked_on k ((after job log).actors a).status ≡ false → is_parked_on k ((step job (after job log) e).actors a).status ≡ true → is_known (fate_at (after job log) k) ≡ false
  is_put_away a k was is = at (parked_before job (after job log) e a k ((after job log).actors a) ((step job (after job log) e).actors a) (turned_at a) parked) where
    parked : ((step job (after job log) e).actors a).status ≡ status.Parked k
    parked = parked_is k ((step job (after job log) e).actors a).status is

    ran : ((after job log).actors a).status ≡ status.Running → out_behind e a true ≡ false
    ran running = ap (out_behind e a) (sym (out_runs job log a h.1 ∙ ap is_running running)) ∙ (out_runs job (e ∷ log) a h ∙ ap is_running parked)

    by_park : (turns call : ℕ) → e ≡ Park a turns call → is_known (fate_at (after job log) k) ≡ false
    by_park turns call named =
        let may = subst (Enabled job (after job log)) named h.0.1 in
        let x = (after job log).actors a in
        let behind : ((step job (after job log) (Park a turns call)).actors a).status ≡ status.Parked may.child
        = ap (λ (y : Actor). y.status) (put_here a (spends turns (parks turns (x.child call) x)) (after job log).actors) ∙ park_status turns (x.child call) may.child x may.of_call in
        let now : ((step job (after job log) (Park a turns call)).actors a).status ≡ status.Parked k = subst (λ d. ((step job (after job log) d).actors a).status ≡ status.Parked k) named parked in
        let same = same_child may.child k (sym behind ∙ now) in
        none_known (fate_at (after job log) k) (subst (λ c. known_at (after job log) (Some c) ≡ None) same may.unknown)

    by_end : (turns : ℕ) (ending : Ending) (state : List ℤ) → e ≡ End a turns ending state → is_known (fate_at (after job log) k) ≡ false
    by_end turns ending state named =
        let now : ((step job (after job log) (End a turns ending state)).actors a).status ≡ status.Parked k = subst (λ d. ((step job (after job log) d).actors a).status ≡ status.Parked k) named parked in
        absurd (cc (now, (ends_acted job a turns ending state (after job log)).frame.status))

    at : (((after job log).actors a).status ≡ status.Parked k) ⊎ (((after job log).actors a).status ≡ status.Running) → is_known (fate_at (after job log) k) ≡ false
    at (inl stays) = absurd (cc (was, parked_on k ((after job log).actors a).status stays))
    at (inr running) = put_back e a (ran running) by_park by_end

  pub same_caller : (k : ℕ) → k < (after job log).count → ((step job (after job log) e).actors k).call.caller ≡ ((after job log).actors k).call.caller
  same_caller k there = ap (λ c. c.caller) (later.calls k there)

  stages_grow : (k : ℕ) → k < (after job log).count → stage_of (after job log) k ≤ stage_of (step job (after job log) e) k
  stages_grow k there =
      let a = ((after job log).actors k).call.caller in
      subst (λ b. stage_of (after job log) k ≤ stage (is_parked_on k ((step job (after job log) e).actors b).status) (is_known (fate_at (step job (after job log) e) k))) (sym (same_caller k there))
      (stage_grows (is_parked_on k ((after job log).actors a).status) (is_parked_on k ((step job (after job log) e).actors a).status) (is_known (fate_at (after job log) k)) (is_known (fate_at (step job (after job log) e) k))
      (known_still k there) (goes_on a k there) (is_put_away a k))

  -- each part grows
  pub record Grown (k : ℕ) : Type 0 where
    pub frame : of_frame ((after job log).actors k) ≤ of_frame ((step job (after job log) e).actors k)
    pub stage : stage_of (after job log) k ≤ stage_of (step job (after job log) e) k
    pub mail : of_mail (after job log).arrived (after job log).accepted k ≤ of_mail (step job (after job log) e).arrived (step job (after job log) e).accepted k

  pub grown : (k : ℕ) → k < (after job log).count → Grown k
  grown k there = record {
    frame = frame_grows job (after job log) e k ((after job log).actors k) ((step job (after job log) e).actors k) (turned_at k) (λ same. absurd (omega (arith, same, there)));
    stage = stages_grow k there;
    mail = mail_grows job (after job log) (step job (after job log) e) e changed k;
  }

  progress_grows : (k : ℕ) → k < (after job log).count → progress (after job log) k ≤ progress (step job (after job log) e) k
  progress_grows k there = let g = grown k there in let frame = g.frame in let stages = g.stage in let mail = g.mail in omega (arith, frame, stages, mail)

  -- the sums
  pub sum_grows : sum_below (after job log).count (progress (after job log)) ≤ sum_below (step job (after job log) e).count (progress (step job (after job log) e))
  sum_grows =
      let each = sum_most (after job log).count (progress (after job log)) (progress (step job (after job log) e)) progress_grows in
      let longer = sum_longer (after job log).count (step job (after job log) e).count (progress (step job (after job log) e)) later.count in omega (arith, each, longer)

  pub sum_with_gain : (c gain : ℕ) → c < (after job log).count → progress (after job log) c + gain ≤ progress (step job (after job log) e) c →
      sum_below (after job log).count (progress (after job log)) + gain ≤ sum_below (step job (after job log) e).count (progress (step job (after job log) e))
  sum_with_gain c gain there more =
      let each = sum_gains (after job log).count c gain (progress (after job log)) (progress (step job (after job log) e)) there progress_grows more in
      let longer = sum_longer (after job log).count (step job (after job log) e).count (progress (step job (after job log) e)) later.count in omega (arith, each, longer)
