-- At rest what a frame was told is right, as far as the calls of its body are answered.
use Rattle.std.proofs.Common.{◌≡◌, ◌≢◌, ◌+◌, ◌<◌, ◌≤◌, ◌⊎◌, ℕ, zero, suc, Bool, true, false, not, cond, List, [], ◌∷◌, Option, Some, None, ℤ, refl, sym, ap, ap₂, ◌∙◌, subst, arith, inl, inr, nat_lt, ltb-true, ltb-false}
use Rattle.std.specs.FinMap.{empty}
use Rattle.std.specs.List.{AllByRecursion}
use Rattle.mpl_value.specs.declared.body.Arg.{Arg}
use Rattle.mpl_value.specs.declared.body.Arg.TheVariants.{Know, Trapped, Unknown}
use Rattle.mpl_value.specs.declared.body.BodyEnd.TheVariants as end
use Rattle.mpl_value.specs.declared.body.BodyResult.TheVariants as result
use Rattle.mpl_value.specs.declared.body.BodyStart.{BodyStart}
use Rattle.mpl_value.specs.declared.body.MemberId.{MemberId}
use Rattle.mpl_value.specs.declared.body.Yield.{Yield}
use Rattle.mpl_value.specs.declared.known.Known.{Known}
use Rattle.mpl_value.specs.declared.known.Known.TheVariants as known
use Rattle.mpl_value.specs.CallAnswers.{any_unknown, arg_of_reply, arg_of_result, known_words}
use Rattle.mpl_value.specs.Results.{result_of}
use Rattle.mdf_actor.specs.Statuses.{is_over}
use Rattle.mdf_actor.specs.declared.status.ActorStatus.{ActorStatus}
use Rattle.mdf_actor.specs.declared.status.ActorStatus.TheVariants as status
use Rattle.mdf_code.specs.declared.raw.RawImage.{RawImage}
use Rattle.mdf_code.specs.Alone.{Held, Words, Pending, seen_by, values_seen}
use Rattle.mdf_code.specs.Frames.{Calls, Creates, Needs, Replies}
use Rattle.mdf_code.specs.Right.{Account, IsCalled, IsRightAt, OwnYield, Right, Through, UnlessTrapped, UnlessUnknown, opening, with_answer, with_turns}
use Rattle.mdf_code.specs.Told.{Beaten, Beats, Called, Gave, Halt, HaltsNext, IsMade, Learnt, Named, NamesMade, Stands, Stood, Told, calls_made, has_given, learns}
use Rattle.mdf_code.specs.Yields.{Yields, member_is_regular, regular_start, replies_of}
use Rattle.mdf_code.proofs.OneHalt.{one_halt}
use Rattle.mdf_code.proofs.ToldFrames.{names_made, regular_bodies_call_regular_members, regular_bodies_create_nothing}
use Rattle.mdf_code.proofs.YieldingThrough.{yields_through}
use Rattle.mdf_match.specs.Ports.{missing_in}
use Rattle.mdf_core.specs.Actors.{Actor, arguments_of, is_post, known_of, port_words}
use Rattle.mdf_core.specs.Causes.{AreSo, HasActor, IsGiven, IsSo, Passes}
use Rattle.mdf_core.specs.Rest.{end_at}
use Rattle.mdf_core.specs.Stages.{AsItsStatus, HasArguments, Starts, StartsAs, StartsPlain, OfMain, OfMember, TurnsUpTo, cost}
use Rattle.mdf_core.specs.Trees.{IsTree, at_child, over_children}
use Rattle.mdf_core.specs.Worlds.{Job, World, known_at}
use Rattle.mdf_core.proofs.Changes.{MissesAt}
use Rattle.mdf_core.proofs.Fates.{Fated, is_early}
use Rattle.mdf_core.proofs.Lists.{by_bool, nat_differ, nat_same, same_or}
use Rattle.mdf_core.proofs.Standing.{Standing}
use Rattle.mdf_drive.specs.AtRest.{call_seen, result_seen}
use Rattle.mdf_drive.specs.Plain.{IsPlain}
use Rattle.mdf_drive.proofs.SeenArguments.{Still, arguments_seen, forwarded_unknown}

-- ---- a machine at rest

pub record Rested (job : Job) (w : World) : Type 0 where
  pub still : Still w
  pub tree : IsTree w
  pub stages : (c : ℕ) → AsItsStatus job (w.actors c)
  pub standing : (c : ℕ) → Standing w c
  pub fated : (c : ℕ) → Fated (w.actors c)
  pub so : (c : ℕ) → c < w.count → AreSo job w c (w.actors c).told
  pub plain : (c : ℕ) → c < w.count → is_post (w.actors c).call ≡ false
  pub main : IsPlain job

-- ---- what an actor did

-- a body that began came through to its end with so many turns, and its result is the actor's
pub record Own (job : Job) (w : World) (c n : ℕ) : Type 0 where
  pub yield : Yield
  pub through : Through job.image (w.actors c).start empty yield
  pub turns : yield.turns ≡ n
  pub result : arg_of_result yield.result ≡ result_seen w (Some c)
  pub unspent : yield.end ≢ end.Spent
  pub stood : Stood
  pub halts : HaltsNext job.image (w.actors c).start (w.actors c).told stood
  pub ended : end_at stood.halt ≡ yield.end
  pub printed : stood.frame.lines ≡ yield.lines

abbrev pub DidAt : Job → World → ℕ → ℕ → ActorStatus → Type 0
DidAt job w c n (status.Waiting missing) = n ≡ 0
DidAt job w c n status.Ready = ⊥
DidAt job w c n status.Running = ⊥
DidAt job w c n (status.Parked child) = Own job w c n
DidAt job w c n status.Ended = Own job w c n
DidAt job w c n status.Poisoned = n ≡ 0

abbrev pub Did : Job → World → ℕ → ℕ → Type 0
Did job w c n = DidAt job w c n (w.actors c).status

-- ---- starts

pub plain_start : (job : Job) (x : Actor) → is_post x.call ≡ false → Starts job x → StartsPlain job x.call x.ports x.start
plain_start job x is s = subst (StartsAs job x.call x.ports x.start) is s.start

regular_of : (job : Job) (x : Actor) (member : MemberId) → AsItsStatus job x → is_post x.call ≡ false → x.call.member ≡ Some member → member_is_regular job.image member.0 ≡ true
regular_of job x member s plain is = at (member_is_regular job.image member.0) (sym (s.member.post member is) ∙ plain) where
  at : (b : Bool) → not b ≡ false → b ≡ true
  at true h = refl
  at false h = absurd (cc h)

-- a body without objects calls regular members
pub calls_regular : (job : Job) (x : Actor) → IsPlain job → AsItsStatus job x → is_post x.call ≡ false → Starts job x → (told : List Told) (stood : Stood) (member : ℕ) (object : ℤ) (arguments : List Held) →
    HaltsNext job.image x.start told stood → stood.halt ≡ Stands (Calls member object arguments) → member_is_regular job.image member ≡ true
calls_regular job x main s plain starts told stood member object arguments halts halt = at (plain_start job x plain starts) where
  at : StartsPlain job x.call x.ports x.start → member_is_regular job.image member ≡ true
  at (OfMain none is) = main.calls told stood member object arguments (subst (λ b. HaltsNext job.image b told stood) is halts) halt
  at (OfMember own named is) = regular_bodies_call_regular_members job.image x.start told stood own member object arguments halts (ap (λ (b : BodyStart). b.member) is) (regular_of job x own s plain named) halt

pub creates_nothing : (job : Job) (x : Actor) → IsPlain job → AsItsStatus job x → is_post x.call ≡ false → Starts job x → (told : List Told) (stood : Stood) (class : ℕ) →
    HaltsNext job.image x.start told stood → stood.halt ≡ Stands (Creates class) → ⊥
creates_nothing job x main s plain starts told stood class halts halt = at (plain_start job x plain starts) where
  at : StartsPlain job x.call x.ports x.start → ⊥
  at (OfMain none is) = main.creates told stood class (subst (λ b. HaltsNext job.image b told stood) is halts) halt
  at (OfMember own named is) = regular_bodies_create_nothing job.image x.start told stood own class halts (ap (λ (b : BodyStart). b.member) is) (regular_of job x own s plain named) halt

-- ---- lists

pub unknown_missing : (ports : List (Option Known)) (n : ℕ) → missing_in ports ≡ suc n → any_unknown (arguments_of ports) ≡ true
unknown_missing [] n h = absurd (cc h)
unknown_missing (None ∷ ports) n h = refl
unknown_missing (Some (known.Value words) ∷ ports) n h = unknown_missing ports n h
unknown_missing (Some (known.Trapped t) ∷ ports) n h = unknown_missing ports n h

pub none_unknown : (ports : List (Option Known)) → missing_in ports ≡ 0 → any_unknown (arguments_of ports) ≡ false
none_unknown [] h = refl
none_unknown (None ∷ ports) h = absurd (omega (arith, h))
none_unknown (Some (known.Value words) ∷ ports) h = none_unknown ports h
none_unknown (Some (known.Trapped t) ∷ ports) h = none_unknown ports h

same_seen : (n : ℕ) (knows more : ℕ → Arg) → ((r : ℕ) → 1 ≤ r → r ≤ n → knows r ≡ more r) → (arguments : List Held) → AllByRecursion (IsMade n) arguments → values_seen (seen_by knows) arguments ≡ values_seen (seen_by more) arguments
same_seen n knows more same [] h = refl
same_seen n knows more same (Words words ∷ others) h = ap (λ xs. Know words ∷ xs) (same_seen n knows more same others h.1)
same_seen n knows more same (Pending call ∷ others) h = ap₂ (λ x xs. x ∷ xs) (same call h.0.0 h.0.1) (same_seen n knows more same others h.1)

pub learns_here : (r : ℕ) (value : Arg) (knows : ℕ → Arg) → learns r value knows r ≡ value
learns_here r value knows = ap (λ b. cond b value (knows r)) (nat_same r)

pub learns_there : (r other : ℕ) (value : Arg) (knows : ℕ → Arg) → (other ≡ r → ⊥) → learns r value knows other ≡ knows other
learns_there r other value knows differ = ap (λ b. cond b value (knows other)) (nat_differ other r differ)

pub arg_of_result_of : (v : Arg) → arg_of_result (result_of v) ≡ v
arg_of_result_of (Know words) = refl
arg_of_result_of (Trapped t) = refl
arg_of_result_of Unknown = refl

-- ---- a call

-- what a body has done behind a call that has this answer and took so many turns
pub record CalledTo (image : RawImage) (member : ℕ) (arguments : List Arg) (x : Account) (value : Arg) (n : ℕ) : Type 0 where
  pub b : Account
  pub is : UnlessUnknown image member arguments x b (any_unknown arguments)
  pub answers : b.answers ≡ learns (x.sent + 1) value x.answers
  pub sent : b.sent ≡ x.sent + 1
  pub turns : b.turns ≡ x.turns + n
  pub result : b.result ≡ x.result

module _ (job : Job) (w : World) (r : Rested job w) where
  pub member_start : (d member : ℕ) → d < w.count → (w.actors d).call.member ≡ Some (record { 0 = member }) → Starts job (w.actors d) → (w.actors d).start ≡ regular_start member (port_words (w.actors d).ports)
  member_start d member there named s = at (plain_start job (w.actors d) (r.plain d there) s) where
    at : StartsPlain job (w.actors d).call (w.actors d).ports (w.actors d).start → (w.actors d).start ≡ regular_start member (port_words (w.actors d).ports)
    at (OfMain none is) = absurd (cc (none, named))
    at (OfMember own is start) = start ∙ ap (λ (m : MemberId). regular_start m.0 (port_words (w.actors d).ports)) (same (sym is ∙ named)) where
      same : Some own ≡ Some (record { 0 = member }) → own ≡ record { 0 = member }
      same e = cc e

  -- one that began
  called_begun : (d member n : ℕ) → d < w.count → (w.actors d).call.member ≡ Some (record { 0 = member }) → missing_in (w.actors d).ports ≡ 0 → Starts job (w.actors d) → Own job w d n → (x : Account) →
      CalledTo job.image member (arguments_of (w.actors d).ports) x (result_seen w (Some d)) n
  called_begun d member n there named none s o x = record {
    b = with_answer (arg_of_result o.yield.result) (with_turns o.yield.turns x);
    is = subst (UnlessUnknown job.image member args x now) (sym (none_unknown (w.actors d).ports none)) (subst (UnlessTrapped job.image member args x now) (sym s.untrapped) (record { yield = o.yield; own = own; is = refl }));
    answers = ap (λ v. learns (x.sent + 1) v x.answers) o.result;
    sent = refl;
    turns = ap (λ m. x.turns + m) o.turns;
    result = refl;
  } where
    args : List Arg
    args = arguments_of (w.actors d).ports

    now : Account
    now = with_answer (arg_of_result o.yield.result) (with_turns o.yield.turns x)

    own : OwnYield job.image member (known_words (arguments_of (w.actors d).ports)) o.yield
    own = record {
      turns = o.yield.turns;
      yields = subst (λ b. Yields job.image b empty o.yield.turns o.yield) (member_start d member there named s) (yields_through job.image (w.actors d).start empty o.yield.turns o.yield o.through (omega arith));
      unspent = o.unspent;
    }

  pub called : (d member n : ℕ) → d < w.count → (w.actors d).call.member ≡ Some (record { 0 = member }) → Did job w d n → (x : Account) → CalledTo job.image member (arguments_of (w.actors d).ports) x (result_seen w (Some d)) n
  called d member n there named did x = at (w.actors d).status refl (r.stages d).arguments (r.standing d).misses did where
    args : List Arg
    args = arguments_of (w.actors d).ports

    at : (s : ActorStatus) → (w.actors d).status ≡ s → HasArguments job (w.actors d) s → MissesAt s (missing_in (w.actors d).ports) → DidAt job w d n s → CalledTo job.image member (arguments_of (w.actors d).ports) x (result_seen w (Some d)) n
    at (status.Waiting zero) is h misses none = absurd (cc (h.0, r.plain d there))
    at (status.Waiting (suc m)) is h misses none = let f = r.fated d in let opened = f.unsettled (ap has_given (f.untold (ap is_early is))) (ap is_over is) in record {
      b = with_answer Unknown x;
      is = subst (UnlessUnknown job.image member args x (with_answer Unknown x)) (sym (unknown_missing (w.actors d).ports m misses)) refl;
      answers = ap (λ o. learns (x.sent + 1) (arg_of_reply o) x.answers) (sym (ap known_of opened));
      sent = refl;
      turns = omega (arith, none);
      result = refl;
    }
    at status.Ready is h misses none = absurd none
    at status.Running is h misses none = absurd none
    at (status.Parked c) is h misses o = called_begun d member n there named misses h o x
    at status.Ended is h misses o = called_begun d member n there named misses h o x
    at status.Poisoned is h misses none = record {
      b = with_answer (Trapped h.trap) x;
      is = subst (UnlessUnknown job.image member args x (with_answer (Trapped h.trap) x)) (sym (none_unknown (w.actors d).ports misses))
          (subst (UnlessTrapped job.image member args x (with_answer (Trapped h.trap) x)) (sym h.leftmost) refl);
      answers = ap (λ o. learns (x.sent + 1) (arg_of_reply o) x.answers) (sym (ap known_of h.is));
      sent = refl;
      turns = omega (arith, none);
      result = refl;
    }

-- ---- what a frame was told

-- what a body has done: its calls are answered by what is known, and its turns are those of its frame and of its calls
pub record Tally (job : Job) (w : World) (g : ℕ → ℕ) (c : ℕ) (told : List Told) (n : ℕ) (a : Account) : Type 0 where
  pub right : Right job.image (w.actors c).start empty told a
  pub sent : a.sent ≡ calls_made told
  pub answers : (call : ℕ) → 1 ≤ call → call ≤ calls_made told → a.answers call ≡ call_seen w c call
  pub turns : a.turns ≡ n + over_children g (w.actors c).child (calls_made told)
  pub not_given : has_given told ≡ false → a.result ≡ result.Open
  pub given : has_given told ≡ true → (v : Arg) × (a.result ≡ result_of v) × (v ≡ result_seen w (Some c))

module _ (job : Job) (w : World) (r : Rested job w) (g : ℕ → ℕ) (c : ℕ) (there : c < w.count) (starts : Starts job (w.actors c)) (did : (d : ℕ) → c < d → d < w.count → Did job w d (g d)) where
  abbrev start : BodyStart
  start = (w.actors c).start

  abbrev ToldUpTo : List Told → ℕ → Type 0
  ToldUpTo told n = (a : Account) × Tally job w g c told n a

  module _ (before : List Told) (m : ℕ) (stood : Stood) (halts : HaltsNext job.image (w.actors c).start before stood) (a : Account) (t : Tally job w g c before m a) where
    abbrev x : Account
    x = with_turns stood.turns a

    one_right : (told : Told) (b : Account) (halt : Halt) → stood.halt ≡ halt → IsRightAt job.image (w.actors c).start (replies_of empty) (with_turns stood.turns a) halt told b → Right job.image (w.actors c).start empty (told ∷ before) b
    one_right told b halt is h = record { a = a; was = t.right; stood = stood; halts = halts; is = subst (λ k. IsRightAt job.image (w.actors c).start (replies_of empty) (with_turns stood.turns a) k told b) (sym is) h }

    stop_turns : a.turns + stood.turns ≡ m + stood.turns + 0 + over_children g (w.actors c).child (calls_made before)
    stop_turns = omega (arith, t.turns)

    told_call : (member : ℕ) (object : ℤ) (arguments : List Held) → stood.halt ≡ Stands (Calls member object arguments) → HasActor w c (calls_made before + 1) member object arguments → ToldUpTo (Called ∷ before) (m + stood.turns + 1)
    told_call member object arguments halt h = (
      k.b,
      record {
        right = one_right Called k.b (Stands (Calls member object arguments)) halt
            (subst (IsCalled job.image (replies_of empty) member object (values_seen (seen_by a.answers) arguments) (with_turns 1 x) k.b) (sym regular)
            (subst (λ args. UnlessUnknown job.image member args (with_turns 1 x) k.b (any_unknown args)) (sym seen) k.is));
        sent = k.sent ∙ ap (λ n. n + 1) t.sent;
        answers = λ call first made. answers call first made (same_or call (calls_made before + 1));
        turns = k.turns ∙ omega (arith, t.turns, over);
        not_given = λ n. k.result ∙ t.not_given n;
        given = λ n. let v = t.given n in (v.0, k.result ∙ v.1, v.2);
      },
    ) where
      child : h.child < w.count
      child = (r.tree.children c (calls_made before + 1) h.child h.is).there

      caller : (w.actors h.child).call.caller ≡ c
      caller = (r.tree.children c (calls_made before + 1) h.child h.is).caller

      regular : member_is_regular job.image member ≡ true
      regular = calls_regular job (w.actors c) r.main (r.stages c) (r.plain c there) starts before stood member object arguments halts halt

      k : CalledTo job.image member (arguments_of (w.actors h.child).ports) (with_turns 1 (with_turns stood.turns a)) (result_seen w (Some h.child)) (g h.child)
      k = called job w r h.child member (g h.child) (r.tree.children c (calls_made before + 1) h.child h.is).there h.member_is
          (did h.child (r.tree.children c (calls_made before + 1) h.child h.is).newer (r.tree.children c (calls_made before + 1) h.child h.is).there) (with_turns 1 (with_turns stood.turns a))

      names : NamesMade (calls_made before) (Stands (Calls member object arguments))
      names = subst (NamesMade (calls_made before)) halt (names_made job.image (w.actors c).start before stood halts)

      seen : values_seen (seen_by a.answers) arguments ≡ arguments_of (w.actors h.child).ports
      seen = same_seen (calls_made before) a.answers (call_seen w c) t.answers arguments (subst (NamesMade (calls_made before)) halt (names_made job.image (w.actors c).start before stood halts))
          ∙ sym (arguments_seen w r.still h.child (r.tree.children c (calls_made before + 1) h.child h.is).there (r.stages h.child).member.sized
          ∙ ap₂ (λ d args. values_seen (seen_by (call_seen w d)) args) (r.tree.children c (calls_made before + 1) h.child h.is).caller h.arguments_are)

      over : over_children g (w.actors c).child (calls_made before + 1) ≡ over_children g (w.actors c).child (calls_made before) + g h.child
      over = ap (over_children g (w.actors c).child) (plus_one (calls_made before))
          ∙ ap (λ o. over_children g (w.actors c).child (calls_made before) + at_child g o) (ap (w.actors c).child (sym (plus_one (calls_made before))) ∙ h.is) where
            plus_one : (n : ℕ) → n + 1 ≡ suc n
            plus_one n = omega arith

      answers : (call : ℕ) → 1 ≤ call → call ≤ calls_made before + 1 → (call ≡ calls_made before + 1) ⊎ (call ≡ calls_made before + 1 → ⊥) → k.b.answers call ≡ call_seen w c call
      answers call first made (inl same) = ap (λ (f : ℕ → Arg). f call) k.answers ∙ (ap (λ n. learns (a.sent + 1) (result_seen w (Some h.child)) a.answers n) (same ∙ ap (λ n. n + 1) (sym t.sent))
          ∙ (learns_here (a.sent + 1) (result_seen w (Some h.child)) a.answers ∙ ap (result_seen w) (sym (ap (w.actors c).child same ∙ h.is))))
      answers call first made (inr differ) = ap (λ (f : ℕ → Arg). f call) k.answers ∙ (learns_there (a.sent + 1) call (result_seen w (Some h.child)) a.answers (λ e. differ (e ∙ ap (λ n. n + 1) t.sent))
          ∙ t.answers call first (below call (calls_made before) made differ)) where
            below : (p q : ℕ) → p ≤ q + 1 → (p ≡ q + 1 → ⊥) → p ≤ q
            below p q l d = by_bool (nat_lt q p) (λ e. absurd (d (omega (arith, l, ltb-true q p e)))) (λ e. ltb-false q p e)

    told_known : (call : ℕ) (value_known : Known) → stood.halt ≡ Stands (Needs (Pending call)) → known_at w ((w.actors c).child call) ≡ Some value_known → ToldUpTo (Learnt value_known ∷ before) (m + stood.turns + 0)
    told_known call value_known halt is = (
      x,
      record {
        right = one_right (Learnt value_known) x (Stands (Needs (Pending call))) halt (t.answers call names.0 names.1 ∙ ap arg_of_reply is, refl);
        sent = t.sent;
        answers = t.answers;
        turns = stop_turns;
        not_given = t.not_given;
        given = t.given;
      },
    ) where
      names : IsMade (calls_made before) (Pending call)
      names = subst (NamesMade (calls_made before)) halt (names_made job.image (w.actors c).start before stood halts)

    told_gave : (value : Held) → stood.halt ≡ Stands (Replies value) → IsGiven w c value → ToldUpTo (Gave ∷ before) (m + stood.turns + 0)
    told_gave value halt is = (
      record x { result = result_of (seen_by a.answers value) },
      record {
        right = one_right Gave (record x { result = result_of (seen_by a.answers value) }) (Stands (Replies value)) halt refl;
        sent = t.sent;
        answers = t.answers;
        turns = stop_turns;
        not_given = λ n. absurd (cc n);
        given = λ n. (seen_by a.answers value, refl, at value names is);
      },
    ) where
      names : IsMade (calls_made before) value
      names = subst (NamesMade (calls_made before)) halt (names_made job.image (w.actors c).start before stood halts)

      passed : (d : ℕ) → Passes w c d → result_seen w (Some d) ≡ result_seen w (Some c)
      passed d (inl f) = ap arg_of_reply (forwarded_unknown w r.still c d f) ∙ sym (ap (λ k. arg_of_reply (known_of k)) f)
      passed d (inr k) = ap arg_of_reply k.2 ∙ sym (ap (λ f. arg_of_reply (known_of f)) k.1)

      at : (v : Held) → IsMade (calls_made before) v → IsGiven w c v → seen_by a.answers v ≡ result_seen w (Some c)
      at (Words words) made g = sym (ap arg_of_reply g)
      at (Pending call) made g = t.answers call made.0 made.1 ∙ (ap (result_seen w) g.1 ∙ passed g.0 g.2)

    told_beat : stood.halt ≡ Beats → ToldUpTo (Beaten ∷ before) (m + stood.turns + 0)
    told_beat halt = (x, record { right = one_right Beaten x Beats halt refl; sent = t.sent; answers = t.answers; turns = stop_turns; not_given = t.not_given; given = t.given })

    told_one : (halt : Halt) (told : Told) → stood.halt ≡ halt → IsSo w c before halt told → ToldUpTo (told ∷ before) (m + stood.turns + cost told)
    told_one (Stands (Calls member object arguments)) Called halt is = told_call member object arguments halt is
    told_one (Stands (Needs (Pending call))) (Learnt value_known) halt is = told_known call value_known halt is
    told_one (Stands (Creates class)) (Named object) halt is = absurd (creates_nothing job (w.actors c) r.main (r.stages c) (r.plain c there) starts before stood class halts halt)
    told_one (Stands (Replies value)) Gave halt is = told_gave value halt is
    told_one Beats Beaten halt is = told_beat halt
    told_one halt told e is = absurd is

  pub tally : (told : List Told) (n : ℕ) → AreSo job w c told → TurnsUpTo job (w.actors c).start told n → (a : Account) × Tally job w g c told n a
  tally [] n so turns = (opening, record { right = refl; sent = refl; answers = λ call first made. absurd (omega (arith, first, made)); turns = omega (arith, turns); not_given = λ h. refl; given = λ h. absurd (cc h) })
  tally (told ∷ before) n so turns = next (tally before turns.0 so.1 turns.3) where
    same : so.0.stood ≡ turns.1
    same = one_halt job.image (w.actors c).start before so.0.stood turns.1 so.0.halts turns.2

    next : (a : Account) × Tally job w g c before turns.0 a → (b : Account) × Tally job w g c (told ∷ before) n b
    next (a, t) = subst (λ k. (b : Account) × Tally job w g c (told ∷ before) k b) (sym turns.4)
        (told_one before turns.0 turns.1 turns.2 a t turns.1.halt told refl (subst (λ s. IsSo w c before s.halt told) same so.0.is))
