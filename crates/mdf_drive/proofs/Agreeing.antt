-- What is known in a machine agrees with what bodies do in place, at whichever time, as long as these have enough turns.
use Rattle.std.proofs.Common.{◌≡◌, ◌≢◌, ◌+◌, ◌<◌, ◌≤◌, ◌⊎◌, ℕ, suc, Bool, true, false, List, [], ◌∷◌, slice_get, Option, Some, None, ℤ, refl, sym, ap, ◌∙◌, subst, arith, inl, inr, nat_lt, ltb-true, ltb-false}
use Rattle.std.specs.FinMap.{empty}
use Rattle.mpl_value.specs.declared.body.Arg.{Arg}
use Rattle.mpl_value.specs.declared.body.Arg.TheVariants.{Trapped, Unknown}
use Rattle.mpl_value.specs.declared.body.BodyEnd.TheVariants as end
use Rattle.mpl_value.specs.declared.body.BodyResult.TheVariants as result
use Rattle.mpl_value.specs.declared.body.BodyStart.{BodyStart}
use Rattle.mpl_value.specs.declared.body.Yield.{Yield}
use Rattle.mpl_value.specs.declared.known.Known.{Known}
use Rattle.mpl_value.specs.declared.known.Known.TheVariants as known
use Rattle.mpl_value.specs.declared.known.Trap.{Trap}
use Rattle.mpl_value.specs.CallAnswers.{any_unknown, arg_of_reply, arg_of_result, leftmost_trap}
use Rattle.mpl_value.specs.Results.{result_of}
use Rattle.mdf_actor.specs.Statuses.{is_over}
use Rattle.mdf_actor.specs.declared.status.ActorStatus.{ActorStatus}
use Rattle.mdf_actor.specs.declared.status.ActorStatus.TheVariants as status
use Rattle.mdf_code.specs.declared.raw.RawImage.{RawImage}
use Rattle.mdf_code.specs.Alone.{Held, Words, Pending, seen_by, values_seen}
use Rattle.mdf_code.specs.Frames.{Calls, Creates, Needs, Replies}
use Rattle.mdf_code.specs.Right.{Account, EndsAt, IsCalled, IsRightAt, Right, Through, UnlessTrapped, UnlessUnknown, opening, with_turns}
use Rattle.mdf_code.specs.Told.{Beaten, Beats, Called, Gave, Halt, HaltsNext, IsMade, Learnt, Named, NamesMade, Stands, Stood, Told, calls_made, has_given, learns}
use Rattle.mdf_code.specs.Yields.{Yields, member_is_regular, regular_start, replies_of}
use Rattle.mdf_code.proofs.OneHalt.{one_halt}
use Rattle.mdf_code.proofs.ToldFrames.{names_made}
use Rattle.mdf_match.specs.Ports.{missing_in}
use Rattle.mdf_core.specs.Actors.{Is, arguments_of, is_post, known_of, port_words}
use Rattle.mdf_core.specs.Arguments.{ArgumentIs, HasArgument}
use Rattle.mdf_core.specs.Causes.{AreSo, HasActor, IsGiven, IsSo, Passes}
use Rattle.mdf_core.specs.Stages.{AsItsStatus, HasArguments, Starts, StartsPlain, OfMain, OfMember, TurnsUpTo, cost}
use Rattle.mdf_core.specs.Trees.{IsTree, at_child, over_children}
use Rattle.mdf_core.specs.Worlds.{Job, World, known_at}
use Rattle.mdf_core.proofs.ArcLists.{every_at}
use Rattle.mdf_core.proofs.Changes.{MissesAt}
use Rattle.mdf_core.proofs.Fates.{Fated, is_early}
use Rattle.mdf_core.proofs.FilledPorts.{some_same}
use Rattle.mdf_core.proofs.Lists.{by_bool, same_or}
use Rattle.mdf_core.proofs.Standing.{Standing}
use Rattle.mdf_core.proofs.Transitions.{empty_misses}
use Rattle.mdf_drive.specs.Plain.{IsPlain, StraysAsBodies}
use Rattle.mdf_drive.proofs.Fronts.{WayOn, AtEnd, Further, way_on}
use Rattle.mdf_drive.proofs.SeenArguments.{seen_all}
use Rattle.mdf_drive.proofs.Tallies.{calls_regular, creates_nothing, learns_here, learns_there, none_unknown, plain_start}

-- ---- a machine after a log

pub record Logged (job : Job) (w : World) : Type 0 where
  pub tree : IsTree w
  pub stages : (c : ℕ) → AsItsStatus job (w.actors c)
  pub standing : (c : ℕ) → Standing w c
  pub fated : (c : ℕ) → Fated (w.actors c)
  pub so : (c : ℕ) → c < w.count → AreSo job w c (w.actors c).told
  pub fits : (c place : ℕ) (known : Known) → c < w.count → slice_get (w.actors c).ports place ≡ Some (Some known) → HasArgument w c place known
  pub plain : (c : ℕ) → c < w.count → is_post (w.actors c).call ≡ false
  pub main : IsPlain job
  pub strays : StraysAsBodies job w

-- with this yield in place an actor takes no more turns, and where its result is known it is the yield's
pub record AgreesWith (w : World) (c n : ℕ) (y : Yield) : Type 0 where
  pub turns : n ≤ y.turns
  pub result : (k : Known) → known_at w (Some c) ≡ Some k → arg_of_result y.result ≡ arg_of_reply (Some k)

abbrev pub Agrees : Job → World → ℕ → ℕ → Type 0
Agrees job w c n = (m : ℕ) (y : Yield) → Yields job.image (w.actors c).start empty m y → y.end ≢ end.Spent → AgreesWith w c n y

abbrev pub AgreesAt : Job → World → ℕ → ℕ → ActorStatus → Type 0
AgreesAt job w c n (status.Waiting missing) = n ≡ 0
AgreesAt job w c n status.Ready = n ≡ 0
AgreesAt job w c n status.Running = Agrees job w c n
AgreesAt job w c n (status.Parked child) = Agrees job w c n
AgreesAt job w c n status.Ended = Agrees job w c n
AgreesAt job w c n status.Poisoned = n ≡ 0

-- ---- a call

-- what a body has done behind a call of this actor
record CallsAs (w : World) (d n : ℕ) (x b : Account) : Type 0 where
  value : Arg
  answers : b.answers ≡ learns (x.sent + 1) value x.answers
  sent : b.sent ≡ x.sent + 1
  turns : x.turns + n ≤ b.turns
  is : (k : Known) → known_at w (Some d) ≡ Some k → value ≡ arg_of_reply (Some k)
  result : b.result ≡ x.result

trapped_as : (w : World) (image : RawImage) (member d n : ℕ) (arguments : List Arg) (x b : Account) (t : Option Trap) → n ≡ 0 → known_at w (Some d) ≡ None → UnlessTrapped image member arguments x b t → CallsAs w d n x b
trapped_as w image member d n arguments x b (Some trap) none unknown h = record {
  value = Trapped trap;
  answers = sym (ap (λ (a : Account). a.answers) h);
  sent = sym (ap (λ (a : Account). a.sent) h);
  turns = omega (arith, none, ap (λ (a : Account). a.turns) h);
  is = λ k knows. absurd (cc (unknown, knows));
  result = sym (ap (λ (a : Account). a.result) h);
}
trapped_as w image member d n arguments x b None none unknown h = record {
  value = arg_of_result h.yield.result;
  answers = sym (ap (λ (a : Account). a.answers) h.is);
  sent = sym (ap (λ (a : Account). a.sent) h.is);
  turns = omega (arith, none, ap (λ (a : Account). a.turns) h.is);
  is = λ k knows. absurd (cc (unknown, knows));
  result = sym (ap (λ (a : Account). a.result) h.is);
}

-- an actor whose result is open, and that has no turns
unknown_as : (w : World) (image : RawImage) (member d n : ℕ) (arguments : List Arg) (x b : Account) (u : Bool) → n ≡ 0 → known_at w (Some d) ≡ None → UnlessUnknown image member arguments x b u → CallsAs w d n x b
unknown_as w image member d n arguments x b true none unknown h = record {
  value = Unknown;
  answers = sym (ap (λ (a : Account). a.answers) h);
  sent = sym (ap (λ (a : Account). a.sent) h);
  turns = omega (arith, none, ap (λ (a : Account). a.turns) h);
  is = λ k knows. absurd (cc (unknown, knows));
  result = sym (ap (λ (a : Account). a.result) h);
}
unknown_as w image member d n arguments x b false none unknown h = trapped_as w image member d n arguments x b (leftmost_trap arguments) none unknown h

known_same : (w : World) (c : ℕ) (k l : Known) → known_at w (Some c) ≡ Some k → known_at w (Some c) ≡ Some l → k ≡ l
known_same w c k l a b = some_same (sym a ∙ b)

module _ (job : Job) (w : World) (r : Logged job w) where
  member_start : (d member : ℕ) → d < w.count → (w.actors d).call.member ≡ Some (record { 0 = member }) → Starts job (w.actors d) → (w.actors d).start ≡ regular_start member (port_words (w.actors d).ports)
  member_start d member there named s = at (plain_start job (w.actors d) (r.plain d there) s) where
    at : StartsPlain job (w.actors d).call (w.actors d).ports (w.actors d).start → (w.actors d).start ≡ regular_start member (port_words (w.actors d).ports)
    at (OfMain none is) = absurd (cc (none, named))
    at (OfMember own is start) = start ∙ ap (λ m. regular_start m (port_words (w.actors d).ports)) (ap (λ m. m.0) (some_same (sym is ∙ named)))

  -- one that began
  begun_as : (d member n : ℕ) → d < w.count → (w.actors d).call.member ≡ Some (record { 0 = member }) → missing_in (w.actors d).ports ≡ 0 → Starts job (w.actors d) → Agrees job w d n → (x b : Account) →
      UnlessUnknown job.image member (arguments_of (w.actors d).ports) x b (any_unknown (arguments_of (w.actors d).ports)) → CallsAs w d n x b
  begun_as d member n there named none s agrees x b h = at (subst (UnlessTrapped job.image member args x b) s.untrapped (subst (UnlessUnknown job.image member args x b) (none_unknown (w.actors d).ports none) h)) where
    args : List Arg
    args = arguments_of (w.actors d).ports

    at : UnlessTrapped job.image member args x b None → CallsAs w d n x b
    at ready = let k = agrees ready.own.turns ready.yield (subst (λ start. Yields job.image start empty ready.own.turns ready.yield) (sym (member_start d member there named s)) ready.own.yields) ready.own.unspent in record {
      value = arg_of_result ready.yield.result;
      answers = sym (ap (λ (a : Account). a.answers) ready.is);
      sent = sym (ap (λ (a : Account). a.sent) ready.is);
      turns = omega (arith, k.turns, ap (λ (a : Account). a.turns) ready.is);
      is = k.result;
      result = sym (ap (λ (a : Account). a.result) ready.is);
    }

  poisoned_as : (d member n : ℕ) (trap : Trap) → missing_in (w.actors d).ports ≡ 0 → leftmost_trap (arguments_of (w.actors d).ports) ≡ Some trap → (w.actors d).fate ≡ Is (known.Trapped trap) → n ≡ 0 → (x b : Account) →
      UnlessUnknown job.image member (arguments_of (w.actors d).ports) x b (any_unknown (arguments_of (w.actors d).ports)) → CallsAs w d n x b
  poisoned_as d member n trap none leftmost is idle x b h = at (subst (UnlessTrapped job.image member args x b) leftmost (subst (UnlessUnknown job.image member args x b) (none_unknown (w.actors d).ports none) h)) where
    args : List Arg
    args = arguments_of (w.actors d).ports

    at : UnlessTrapped job.image member args x b (Some trap) → CallsAs w d n x b
    at trapped = record {
      value = Trapped trap;
      answers = sym (ap (λ (a : Account). a.answers) trapped);
      sent = sym (ap (λ (a : Account). a.sent) trapped);
      turns = omega (arith, idle, ap (λ (a : Account). a.turns) trapped);
      is = λ k knows. ap (λ l. arg_of_reply (Some l)) (known_same w d (known.Trapped trap) k (ap known_of is) knows);
      result = sym (ap (λ (a : Account). a.result) trapped);
    }

  called_as : (d member n : ℕ) → d < w.count → (w.actors d).call.member ≡ Some (record { 0 = member }) → AgreesAt job w d n (w.actors d).status → (arguments : List Arg) → (missing_in (w.actors d).ports ≡ 0 → arguments ≡ arguments_of (w.actors d).ports) →
      (x b : Account) → UnlessUnknown job.image member arguments x b (any_unknown arguments) → CallsAs w d n x b
  called_as d member n there named agrees arguments same x b h = at (w.actors d).status refl (r.stages d).arguments (r.standing d).misses agrees where
    opened : (s : ActorStatus) → (w.actors d).status ≡ s → is_early s ≡ true → is_over s ≡ false → known_at w (Some d) ≡ None
    opened s is early over = ap known_of ((r.fated d).unsettled (ap has_given ((r.fated d).untold (ap is_early is ∙ early))) (ap is_over is ∙ over))

    filled : missing_in (w.actors d).ports ≡ 0 → UnlessUnknown job.image member (arguments_of (w.actors d).ports) x b (any_unknown (arguments_of (w.actors d).ports))
    filled none = subst (λ args. UnlessUnknown job.image member args x b (any_unknown args)) (same none) h

    at : (s : ActorStatus) → (w.actors d).status ≡ s → HasArguments job (w.actors d) s → MissesAt s (missing_in (w.actors d).ports) → AgreesAt job w d n s → CallsAs w d n x b
    at (status.Waiting m) is args misses none = unknown_as w job.image member d n arguments x b (any_unknown arguments) none (opened (status.Waiting m) is refl refl) h
    at status.Ready is args misses none = unknown_as w job.image member d n arguments x b (any_unknown arguments) none (opened status.Ready is refl refl) h
    at status.Running is args misses a = begun_as d member n there named misses args a x b (filled misses)
    at (status.Parked child) is args misses a = begun_as d member n there named misses args a x b (filled misses)
    at status.Ended is args misses a = begun_as d member n there named misses args a x b (filled misses)
    at status.Poisoned is args misses none = poisoned_as d member n args.trap misses args.leftmost args.is none x b (filled misses)

-- ---- what a frame was told

-- what is known of the results of a body's calls is what it is answered in place
pub record AgreesUpTo (job : Job) (w : World) (g : ℕ → ℕ) (c : ℕ) (told : List Told) (n : ℕ) (a : Account) : Type 0 where
  pub right : Right job.image (w.actors c).start empty told a
  pub sent : a.sent ≡ calls_made told
  pub answers : (call : ℕ) (k : Known) → 1 ≤ call → call ≤ calls_made told → known_at w ((w.actors c).child call) ≡ Some k → a.answers call ≡ arg_of_reply (Some k)
  pub turns : n + over_children g (w.actors c).child (calls_made told) ≤ a.turns
  pub not_given : has_given told ≡ false → a.result ≡ result.Open
  pub given : has_given told ≡ true → (v : Arg) × (a.result ≡ result_of v) × ((k : Known) → known_at w (Some c) ≡ Some k → v ≡ arg_of_reply (Some k))

-- at a call nothing is told but that it was made
only_called : (image : RawImage) (start : BodyStart) (replies : ℕ → Arg) (a : Account) (member : ℕ) (object : ℤ) (arguments : List Held) (t : Told) (b : Account) → IsRightAt image start replies a (Stands (Calls member object arguments)) t b → t ≡ Called
only_called image start replies a member object arguments Called b h = refl
only_called image start replies a member object arguments (Learnt known) b h = absurd h
only_called image start replies a member object arguments (Named o) b h = absurd h
only_called image start replies a member object arguments Gave b h = absurd h
only_called image start replies a member object arguments Beaten b h = absurd h

module _ (job : Job) (w : World) (r : Logged job w) (g : ℕ → ℕ) (c : ℕ) (there : c < w.count) (starts : Starts job (w.actors c)) (y : Yield) (through : Through job.image (w.actors c).start empty y)
    (later : (d : ℕ) → c < d → d < w.count → AgreesAt job w d (g d) (w.actors d).status) where
  abbrev Upto : List Told → ℕ → Type 0
  Upto told n = (a : Account) × AgreesUpTo job w g c told n a

  module _ (before : List Told) (m : ℕ) (stood : Stood) (halts : HaltsNext job.image (w.actors c).start before stood) (a : Account) (t : AgreesUpTo job w g c before m a) where
    abbrev x : Account
    x = with_turns stood.turns a

    one_right : (told : Told) (b : Account) (halt : Halt) → stood.halt ≡ halt → IsRightAt job.image (w.actors c).start (replies_of empty) (with_turns stood.turns a) halt told b → Right job.image (w.actors c).start empty (told ∷ before) b
    one_right told b halt is h = record { a = a; was = t.right; stood = stood; halts = halts; is = subst (λ k. IsRightAt job.image (w.actors c).start (replies_of empty) (with_turns stood.turns a) k told b) (sym is) h }

    stop_turns : m + stood.turns + 0 + over_children g (w.actors c).child (calls_made before) ≤ a.turns + stood.turns
    stop_turns = omega (arith, t.turns)

    module _ (member : ℕ) (object : ℤ) (arguments : List Held) (halt : stood.halt ≡ Stands (Calls member object arguments)) (h : HasActor w c (calls_made before + 1) member object arguments) where
      names : NamesMade (calls_made before) (Stands (Calls member object arguments))
      names = subst (NamesMade (calls_made before)) halt (names_made job.image (w.actors c).start before stood halts)

      child : h.child < w.count
      child = (r.tree.children c (calls_made before + 1) h.child h.is).there

      regular : member_is_regular job.image member ≡ true
      regular = calls_regular job (w.actors c) r.main (r.stages c) (r.plain c there) starts before stood member object arguments halts halt

      -- the arguments of a call whose ports are filled
      seen : missing_in (w.actors h.child).ports ≡ 0 → values_seen (seen_by a.answers) arguments ≡ arguments_of (w.actors h.child).ports
      seen none = ap (values_seen (seen_by a.answers)) (sym h.arguments_are)
          ∙ sym (seen_all (seen_by a.answers) (w.actors h.child).ports (w.actors h.child).call.arguments (r.stages h.child).member.sized each) where
            value : (place : ℕ) (k : Known) (argument : Held) → slice_get arguments place ≡ Some argument → ArgumentIs w c k argument → arg_of_reply (Some k) ≡ seen_by a.answers argument
            value place k (Words words) at is = ap (λ l. arg_of_reply (Some l)) (sym is)
            value place k (Pending call) at is = let made : IsMade (calls_made before) (Pending call) = every_at (IsMade (calls_made before)) arguments place (Pending call) names at in
                sym (t.answers call k made.0 made.1 is)

            each : (place : ℕ) (o : Option Known) (z : Held) → slice_get (w.actors h.child).ports place ≡ Some o → slice_get (w.actors h.child).call.arguments place ≡ Some z → arg_of_reply o ≡ seen_by a.answers z
            each place None z port at = let e = empty_misses (w.actors h.child).ports place port in absurd (omega (arith, none, e.1))
            each place (Some k) z port at = let f = r.fits h.child place k child port in
                value place k f.argument (ap (λ args. slice_get args place) (sym h.arguments_are) ∙ f.at)
                (subst (λ d. ArgumentIs w d k f.argument) (r.tree.children c (calls_made before + 1) h.child h.is).caller f.is) ∙ ap (seen_by a.answers) (some_same (sym f.at ∙ at))

      over : over_children g (w.actors c).child (calls_made before + 1) ≡ over_children g (w.actors c).child (calls_made before) + g h.child
      over = ap (over_children g (w.actors c).child) (plus_one (calls_made before))
          ∙ ap (λ o. over_children g (w.actors c).child (calls_made before) + at_child g o) (ap (w.actors c).child (sym (plus_one (calls_made before))) ∙ h.is) where
            plus_one : (n : ℕ) → n + 1 ≡ suc n
            plus_one n = omega arith

      call_agrees : (b : Account) → Right job.image (w.actors c).start empty (Called ∷ before) b → CallsAs w h.child (g h.child) (with_turns 1 (with_turns stood.turns a)) b → AgreesUpTo job w g c (Called ∷ before) (m + stood.turns + 1) b
      call_agrees b right k = record {
        right = right;
        sent = k.sent ∙ ap (λ n. n + 1) t.sent;
        answers = λ call l first made is. answer call l first made is (same_or call (calls_made before + 1));
        turns = omega (arith, k.turns, t.turns, over);
        not_given = λ n. k.result ∙ t.not_given n;
        given = λ n. let v = t.given n in (v.0, k.result ∙ v.1, v.2);
      } where
        answer : (call : ℕ) (l : Known) → 1 ≤ call → call ≤ calls_made before + 1 → known_at w ((w.actors c).child call) ≡ Some l → (call ≡ calls_made before + 1) ⊎ (call ≡ calls_made before + 1 → ⊥) → b.answers call ≡ arg_of_reply (Some l)
        answer call l first made is (inl same) = ap (λ (f : ℕ → Arg). f call) k.answers ∙ (ap (λ n. learns (a.sent + 1) k.value a.answers n) (same ∙ ap (λ n. n + 1) (sym t.sent))
            ∙ (learns_here (a.sent + 1) k.value a.answers ∙ k.is l (ap (known_at w) (sym (ap (w.actors c).child same ∙ h.is)) ∙ is)))
        answer call l first made is (inr differ) = ap (λ (f : ℕ → Arg). f call) k.answers ∙ (learns_there (a.sent + 1) call k.value a.answers (λ e. differ (e ∙ ap (λ n. n + 1) t.sent))
            ∙ t.answers call l first (below call (calls_made before) made differ) is) where
              below : (p q : ℕ) → p ≤ q + 1 → (p ≡ q + 1 → ⊥) → p ≤ q
              below p q less d = by_bool (nat_lt q p) (λ e. absurd (d (omega (arith, less, ltb-true q p e)))) (λ e. ltb-false q p e)

      told_call : Upto (Called ∷ before) (m + stood.turns + 1)
      told_call = at (way_on job.image (w.actors c).start y through before a stood t.right halts) where
        further : (u : Told) (b : Account) → IsRightAt job.image (w.actors c).start (replies_of empty) (with_turns stood.turns a) (Stands (Calls member object arguments)) u b → u ≡ Called → Upto (Called ∷ before) (m + stood.turns + 1)
        further u b is same =
            let called : IsRightAt job.image (w.actors c).start (replies_of empty) (with_turns stood.turns a) (Stands (Calls member object arguments)) Called b =
            subst (λ v. IsRightAt job.image (w.actors c).start (replies_of empty) (with_turns stood.turns a) (Stands (Calls member object arguments)) v b) same is in
            let unless : UnlessUnknown job.image member (values_seen (seen_by a.answers) arguments) (with_turns 1 (with_turns stood.turns a)) b (any_unknown (values_seen (seen_by a.answers) arguments)) =
            subst (IsCalled job.image (replies_of empty) member object (values_seen (seen_by a.answers) arguments) (with_turns 1 (with_turns stood.turns a)) b) regular called in (
              b,
              call_agrees b (one_right Called b (Stands (Calls member object arguments)) halt called)
                  (called_as job w r h.child member (g h.child) child h.member_is (later h.child (r.tree.children c (calls_made before + 1) h.child h.is).newer child) (values_seen (seen_by a.answers) arguments) seen
                  (with_turns 1 (with_turns stood.turns a)) b unless),
            )

        at : WayOn job.image (w.actors c).start y through before a stood → Upto (Called ∷ before) (m + stood.turns + 1)
        at (AtEnd e) = absurd (subst (λ k. EndsAt job.image (w.actors c).start (with_turns stood.turns a) stood.frame k y) halt e)
        at (Further u b is right) = let now = subst (λ k. IsRightAt job.image (w.actors c).start (replies_of empty) (with_turns stood.turns a) k u b) halt is in
            further u b now (only_called job.image (w.actors c).start (replies_of empty) (with_turns stood.turns a) member object arguments u b now)

    told_known : (call : ℕ) (k : Known) → stood.halt ≡ Stands (Needs (Pending call)) → known_at w ((w.actors c).child call) ≡ Some k → Upto (Learnt k ∷ before) (m + stood.turns + 0)
    told_known call k halt is = (
      x,
      record {
        right = one_right (Learnt k) x (Stands (Needs (Pending call))) halt (t.answers call k made.0 made.1 is, refl);
        sent = t.sent;
        answers = t.answers;
        turns = stop_turns;
        not_given = t.not_given;
        given = t.given;
      },
    ) where
      made : IsMade (calls_made before) (Pending call)
      made = subst (NamesMade (calls_made before)) halt (names_made job.image (w.actors c).start before stood halts)

    told_gave : (value : Held) → stood.halt ≡ Stands (Replies value) → IsGiven w c value → Upto (Gave ∷ before) (m + stood.turns + 0)
    told_gave value halt is = (
      record x { result = result_of (seen_by a.answers value) },
      record {
        right = one_right Gave (record x { result = result_of (seen_by a.answers value) }) (Stands (Replies value)) halt refl;
        sent = t.sent;
        answers = t.answers;
        turns = stop_turns;
        not_given = λ n. absurd (cc n);
        given = λ n. (seen_by a.answers value, refl, at value made is);
      },
    ) where
      made : IsMade (calls_made before) value
      made = subst (NamesMade (calls_made before)) halt (names_made job.image (w.actors c).start before stood halts)

      passed : (call d : ℕ) → IsMade (calls_made before) (Pending call) → (w.actors c).child call ≡ Some d → Passes w c d → (k : Known) → known_at w (Some c) ≡ Some k → a.answers call ≡ arg_of_reply (Some k)
      passed call d n found (inl f) k knows = absurd (cc (knows, ap known_of f))
      passed call d n found (inr (l, own, of_child)) k knows = t.answers call k n.0 n.1 (ap (known_at w) found ∙ (of_child ∙ (sym (ap known_of own) ∙ knows)))

      at : (v : Held) → IsMade (calls_made before) v → IsGiven w c v → (k : Known) → known_at w (Some c) ≡ Some k → seen_by a.answers v ≡ arg_of_reply (Some k)
      at (Words words) n given k knows = ap (λ l. arg_of_reply (Some l)) (known_same w c (known.Value words) k given knows)
      at (Pending call) n given k knows = passed call given.0 n given.1 given.2 k knows

    told_beat : stood.halt ≡ Beats → Upto (Beaten ∷ before) (m + stood.turns + 0)
    told_beat halt = (x, record { right = one_right Beaten x Beats halt refl; sent = t.sent; answers = t.answers; turns = stop_turns; not_given = t.not_given; given = t.given })

    told_one : (halt : Halt) (told : Told) → stood.halt ≡ halt → IsSo w c before halt told → Upto (told ∷ before) (m + stood.turns + cost told)
    told_one (Stands (Calls member object arguments)) Called halt is = told_call member object arguments halt is
    told_one (Stands (Needs (Pending call))) (Learnt k) halt is = told_known call k halt is
    told_one (Stands (Creates class)) (Named object) halt is = absurd (creates_nothing job (w.actors c) r.main (r.stages c) (r.plain c there) starts before stood class halts halt)
    told_one (Stands (Replies value)) Gave halt is = told_gave value halt is
    told_one Beats Beaten halt is = told_beat halt
    told_one halt told e is = absurd is

  pub agrees_upto : (told : List Told) (n : ℕ) → AreSo job w c told → TurnsUpTo job (w.actors c).start told n → (a : Account) × AgreesUpTo job w g c told n a
  agrees_upto [] n so turns = (opening, record { right = refl; sent = refl; answers = λ call k first made. absurd (omega (arith, first, made)); turns = omega (arith, turns); not_given = λ h. refl; given = λ h. absurd (cc h) })
  agrees_upto (told ∷ before) n so turns = next (agrees_upto before turns.0 so.1 turns.3) where
    same : so.0.stood ≡ turns.1
    same = one_halt job.image (w.actors c).start before so.0.stood turns.1 so.0.halts turns.2

    next : (a : Account) × AgreesUpTo job w g c before turns.0 a → (b : Account) × AgreesUpTo job w g c (told ∷ before) n b
    next (a, t) = subst (λ k. (b : Account) × AgreesUpTo job w g c (told ∷ before) k b) (sym turns.4)
        (told_one before turns.0 turns.1 turns.2 a t turns.1.halt told refl (subst (λ s. IsSo w c before s.halt told) same so.0.is))
