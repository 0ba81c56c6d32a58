-- A body that runs alone comes to where its frame alone is, with what the frame knows in the end as the answers to its calls.
use Rattle.std.proofs.Common.{◌≡◌, ◌≢◌, ◌≤◌, ◌+◌, ◌==◌, ℕ, zero, suc, Bool, true, false, cond, List, [], ◌∷◌, ◌++◌, length, Option, Some, None, ℤ, pos, refl, sym, ap, ◌∙◌, subst, arith}
use Rattle.std.proofs.lemmas.Bool.{eqb-false, eqb-true}
use Rattle.std.specs.FinMap.{FinMap}
use Rattle.std.specs.Ordering.{nat_cmp}
use Rattle.mpl_value.specs.declared.body.Arg.{Arg}
use Rattle.mpl_value.specs.declared.body.Arg.TheVariants.{Trapped, Unknown}
use Rattle.mpl_value.specs.declared.body.BodyStart.{BodyStart}
use Rattle.mpl_value.specs.declared.body.CallMade.{CallMade}
use Rattle.mpl_value.specs.declared.known.Known.{Known}
use Rattle.mpl_value.specs.declared.known.Known.TheVariants as known
use Rattle.mpl_value.specs.declared.known.Trap.{Trap}
use Rattle.mpl_value.specs.CallAnswers.{any_unknown, arg_of_reply, leftmost_trap}
use Rattle.mpl_value.specs.Growing.{Stays}
use Rattle.mpl_value.specs.Results.{result_of}
use Rattle.mpl_value.specs.Words.{object_word}
use Rattle.mdf_code.specs.declared.raw.RawImage.{RawImage}
use Rattle.mdf_code.specs.Alone.{Held, Words, Pending, frame_seen, framed, next_seen, seen_by, values_seen}
use Rattle.mdf_code.specs.Frames.{Around, Frame, Next, Goes, Spends, Stops, Stop, Calls, Creates, Needs, Replies, Strays}
use Rattle.mdf_code.specs.Right.{Account, IsCalled, IsRightAt, Right, StraysNowhere, UnlessTrapped, UnlessUnknown, opening, with_answer, with_call, with_creation, with_turns}
use Rattle.mdf_code.specs.Stacks.{given}
use Rattle.mdf_code.specs.Steps.{step}
use Rattle.mdf_code.specs.Told.{Alone, Beaten, Beats, Called, Gave, Halt, HaltsNext, IsMade, Learnt, Named, Stands, Stood, Told, after, around_start, behind, learns, most_turns, run, runs_on, told_at}
use Rattle.mdf_code.specs.Yields.{act, code_of_member, exec, in_place, member_is_regular, persistent_call, regular_call, replies_of}
use Rattle.mdf_code.proofs.Midway.{Midway, body_of, frame_again, learns_it, stops_midway, unknown_stays}
use Rattle.mdf_code.proofs.MoreReplies.{stays_same}
use Rattle.mdf_code.proofs.NeedingSteps.{StopsHere, stops_here}
use Rattle.mdf_code.proofs.OneHalt.{behind_kept}
use Rattle.mdf_code.proofs.Reached.{AtLast, CallAt, Came, Given, Leads, answered_came, at_last, beat_came, called_body, came_first, created_came, gave_came, learnt_came, seen_arguments, setting, some_stood, world}
use Rattle.mdf_code.proofs.SeenSteps.{framed_seen}
use Rattle.mdf_code.proofs.YieldingThrough.{Asking, asked, came}

-- ---- what a frame knows grows

-- a run halts at a need of what isn't known
needs_unknown : (l : ℕ) (knows : ℕ → Arg) (x : Around) (quantum turns : ℕ) (f : Frame Held) (stood : Stood) (value : Held) → run l knows x quantum turns f ≡ Some stood → stood.halt ≡ Stands (Needs value) → seen_by knows value ≡ Unknown
needs_unknown zero knows x quantum turns f stood value h is = absurd (cc h)
needs_unknown (suc l) knows x quantum turns f stood value h is =
    by_next (λ turns g i. needs_unknown l knows x quantum turns g stood value i is) (step (framed knows) x f) (stops_here (framed knows) (seen_by knows) x f) h where
      on_spent : ((turns : ℕ) (g : Frame Held) → run l knows x quantum turns g ≡ Some stood → seen_by knows value ≡ Unknown) → (g : Frame Held) (t : Bool) →
          cond t (Some (record { halt = Beats; turns = turns + 1; frame = g })) (run l knows x quantum (turns + 1) g) ≡ Some stood → seen_by knows value ≡ Unknown
      on_spent again g true i = absurd (cc (ap (λ (s : Stood). s.halt) (some_stood _ stood i) ∙ is))
      on_spent again g false i = again (turns + 1) g i

      by_stop : (stop : Stop Held) (g : Frame Held) → StopsHere (seen_by knows) (seen_by knows) f (Stops stop g) (step (framed knows) x f) → Stands stop ≡ Stands (Needs value) → seen_by knows value ≡ Unknown
      by_stop (Needs other) g here same = let is_other : other ≡ value = cc same in ap (seen_by knows) (sym is_other) ∙ here.unknown
      by_stop stop g here same = absurd (cc same)

      by_next : ((turns : ℕ) (g : Frame Held) → run l knows x quantum turns g ≡ Some stood → seen_by knows value ≡ Unknown) → (next : Next Held) → StopsHere (seen_by knows) (seen_by knows) f next (step (framed knows) x f) →
          after (run l knows x quantum) quantum turns next ≡ Some stood → seen_by knows value ≡ Unknown
      by_next again (Goes g) here i = again turns g i
      by_next again (Spends g) here i = on_spent again g (turns + 1 == quantum) i
      by_next again (Stops stop g) here i = by_stop stop g here (ap (λ (s : Stood). s.halt) (some_stood _ stood i) ∙ is)

-- a frame behind what it was told knows no more than a table
abbrev KnowsLess : RawImage → BodyStart → List Told → (ℕ → Arg) → Type 0
KnowsLess image start told table = (fuel : ℕ) (alone : Alone) → behind fuel image start told ≡ Some alone → (result : ℕ) → Stays (alone.knows result) (table result)

-- what it knew before it was told one thing more
told_less : (image : RawImage) (alone : Alone) (stood : Stood) (t : Told) (table : ℕ → Arg) (replies : ℕ → Arg) (start : BodyStart) (a b : Account) → ((value : Held) → stood.halt ≡ Stands (Needs value) → seen_by alone.knows value ≡ Unknown) →
    IsRightAt image start replies a stood.halt t b → ((next : Alone) → told_at image alone stood.frame stood.halt t ≡ Some next → (result : ℕ) → Stays (next.knows result) (table result)) →
    (result : ℕ) → Stays (alone.knows result) (table result)
told_less image alone stood t table replies start a b unknown right less = by_told stood.halt t unknown right less where
  learnt : (result : ℕ) (known : Known) → alone.knows result ≡ Unknown → ((other : ℕ) → Stays (learns result (arg_of_reply (Some known)) alone.knows other) (table other)) → (other : ℕ) → Stays (alone.knows other) (table other)
  learnt result known is all other = by_test (other == result) refl (all other) where
    by_test : (t : Bool) → other == result ≡ t → Stays (cond t (arg_of_reply (Some known)) (alone.knows other)) (table other) → Stays (alone.knows other) (table other)
    by_test true same h = unknown_stays (alone.knows other) (table other) (ap alone.knows (eqb-true other result same) ∙ is)
    by_test false same h = h

  by_told : (halt : Halt) (t : Told) → ((value : Held) → halt ≡ Stands (Needs value) → seen_by alone.knows value ≡ Unknown) → IsRightAt image start replies a halt t b →
      ((next : Alone) → told_at image alone stood.frame halt t ≡ Some next → (result : ℕ) → Stays (next.knows result) (table result)) → (result : ℕ) → Stays (alone.knows result) (table result)
  by_told (Stands (Calls member object arguments)) Called unknown right less = less _ refl
  by_told (Stands (Needs (Pending result))) (Learnt known) unknown right less = learnt result known (unknown (Pending result) refl) (less _ refl)
  by_told (Stands (Creates class)) (Named object) unknown right less = less _ refl
  by_told (Stands (Replies value)) Gave unknown right less = less _ refl
  by_told Beats Beaten unknown right less = less _ refl
  by_told halt t unknown right less = absurd right

some_is : (x y : Alone) → Some x ≡ Some y → x ≡ y
some_is x y h = cc h

one_behind : (image : RawImage) (start : BodyStart) (told : List Told) (k l : ℕ) (x y : Alone) → behind k image start told ≡ Some x → behind l image start told ≡ Some y → x ≡ y
one_behind image start told k l x y first second =
    some_is x y (sym (behind_kept k (k + l) (omega arith) image start told x first) ∙ behind_kept l (k + l) (omega arith) image start told y second)

knew_less : (image : RawImage) (start : BodyStart) (told : List Told) (stood : Stood) (t : Told) (table replies : ℕ → Arg) (a b : Account) → HaltsNext image start told stood → IsRightAt image start replies a stood.halt t b →
    KnowsLess image start (t ∷ told) table → KnowsLess image start told table
knew_less image start told stood t table replies a b halts right less fuel alone is = by_behind (behind halts.steps image start told) refl halts.within where
  by_behind : (o : Option Alone) → behind halts.steps image start told ≡ o → given o (runs_on halts.steps image start) ≡ Some stood → (result : ℕ) → Stays (alone.knows result) (table result)
  by_behind None none h = absurd (cc h)
  by_behind (Some x) some h =
      let same : x ≡ alone = one_behind image start told halts.steps fuel x alone some is in
      let runs : runs_on halts.steps image start alone ≡ Some stood = ap (runs_on halts.steps image start) (sym same) ∙ h in
      let here : behind halts.steps image start told ≡ Some alone = some ∙ ap (λ (y : Alone). Some y) same in
      told_less image alone stood t table replies start a b
      (λ value halt. needs_unknown halts.steps alone.knows (around_start image start) most_turns 0 alone.frame stood value runs halt) right
      (λ next i. less halts.steps next
      (ap (λ (o : Option Alone). given o (λ alone. given (runs_on halts.steps image start alone) (λ stood. told_at image alone stood.frame stood.halt t))) here
      ∙ (ap (λ (o : Option Stood). given o (λ stood. told_at image alone stood.frame stood.halt t)) runs ∙ i)))

-- ---- a body alone

-- its answers, and an allowance
record Lone : Type 0 where
  image : RawImage
  start : BodyStart
  table : ℕ → Arg
  n : ℕ

abbrev lone : Lone → Given
lone u = record { image = u.image; start = u.start; replies = λ call. Unknown; answers = Some u.table; n = u.n }

-- what the body alone did beside what the body did that makes its calls
record Mirrors (u : Lone) (a c : Account) : Type 0 where
  sent : c.sent ≡ a.sent
  creations : c.creations ≡ a.creations
  turns : c.turns ≤ a.turns
  table : (result : ℕ) → 1 ≤ result → result ≤ c.sent → c.answers result ≡ u.table result

record LoneCame (u : Lone) (told : List Told) (a : Account) : Type 0 where
  c : Account
  came : Came (lone u) told c
  mirrors : Mirrors u a c

-- ---- calls

-- one more call that takes no turns off
record OneCall (a b : Account) : Type 0 where
  sent : b.sent ≡ a.sent + 1
  creations : b.creations ≡ a.creations
  turns : a.turns ≤ b.turns

one_call : (value : Arg) (a b c : Account) → with_answer value b ≡ c → b.sent ≡ a.sent → b.creations ≡ a.creations → a.turns ≤ b.turns → OneCall a c
one_call value a b c is sent creations turns = subst (OneCall a) is (record { sent = ap (λ (n : ℕ). n + 1) sent; creations = creations; turns = turns })

called_once : (image : RawImage) (replies : ℕ → Arg) (member : ℕ) (object : ℤ) (arguments : List Arg) (a b : Account) (regular : Bool) → IsCalled image replies member object arguments a b regular → OneCall a b
called_once image replies member object arguments a b false right = one_call _ a (with_call member object arguments a) b right refl refl (omega arith)
called_once image replies member object arguments a b true right = by_test (any_unknown arguments) right where
  by_trap : (t : Option Trap) → UnlessTrapped image member arguments a b t → OneCall a b
  by_trap (Some t) right = one_call (Trapped t) a a b right refl refl (omega arith)
  by_trap None right = one_call _ a (with_turns right.yield.turns a) b right.is refl refl (omega arith)

  by_test : (t : Bool) → UnlessUnknown image member arguments a b t → OneCall a b
  by_test true right = one_call Unknown a a b right refl refl (omega arith)
  by_test false right = by_trap (leftmost_trap arguments) right

record LoneCalled (u : Lone) (told : List Told) (c : Account) (turns : ℕ) : Type 0 where
  calls : List CallMade
  came : Came (lone u) (Called ∷ told) (with_answer (u.table (c.sent + 1)) (record c { calls = calls; turns = c.turns + turns + 1 }))

lone_called : (u : Lone) (told : List Told) (c : Account) (l : CallAt (lone u) told c) → LoneCalled u told c l.turns
lone_called u told c l = by_test (member_is_regular u.image l.member) refl where
  by_test : (t : Bool) → member_is_regular u.image l.member ≡ t → LoneCalled u told c l.turns
  by_test true is = record {
    calls = c.calls;
    came = answered_came (lone u) told c l (u.table (c.sent + 1)) c.calls (c.turns + l.turns + 1) (omega arith)
        (λ within k e i. (
          k,
          ap (λ (t : Bool). cond t (regular_call (exec k) (setting (lone u)) l.member (seen_arguments l) (Some u.table) (called_body l c.calls (c.turns + l.turns + 1)))
              (persistent_call (exec k) (setting (lone u)) l.member l.object (seen_arguments l) (called_body l c.calls (c.turns + l.turns + 1)))) is ∙ i,
        ));
  }
  by_test false is = record {
    calls = (with_call l.member l.object (seen_arguments l) c).calls;
    came = answered_came (lone u) told c l (u.table (c.sent + 1)) (with_call l.member l.object (seen_arguments l) c).calls (c.turns + l.turns + 1) (omega arith)
        (λ within k e i. (
          k,
          ap (λ (t : Bool). cond t (regular_call (exec k) (setting (lone u)) l.member (seen_arguments l) (Some u.table) (called_body l c.calls (c.turns + l.turns + 1)))
              (persistent_call (exec k) (setting (lone u)) l.member l.object (seen_arguments l) (called_body l c.calls (c.turns + l.turns + 1)))) is ∙ i,
        ));
  }

answers_mirrored : (sent : ℕ) (table answers : ℕ → Arg) → ((result : ℕ) → 1 ≤ result → result ≤ sent → answers result ≡ table result) →
    (result : ℕ) → 1 ≤ result → result ≤ sent + 1 → learns (sent + 1) (table (sent + 1)) answers result ≡ table result
answers_mirrored sent table answers mirrored result low high = by_test (result == sent + 1) refl where
  by_test : (t : Bool) → result == sent + 1 ≡ t → cond t (table (sent + 1)) (answers result) ≡ table result
  by_test true is = ap table (sym (eqb-true result (sent + 1) is))
  by_test false is = mirrored result low (let other = eqb-false result (sent + 1) is in omega (arith, high, other))

-- ---- one more thing told

stop_lone : (u : Lone) (told : List Told) (a : Account) (replies : ℕ → Arg) (c : Account) (mirrors : Mirrors u a c) (l : CallAt (lone u) told c) (b : Account) →
    IsCalled u.image replies l.member l.object (values_seen (seen_by a.answers) l.arguments) (with_turns 1 (with_turns l.turns a)) b (member_is_regular u.image l.member) → LoneCame u (Called ∷ told) b
stop_lone u told a replies c mirrors l b right =
    let called = lone_called u told c l in
    let once = called_once u.image replies l.member l.object (values_seen (seen_by a.answers) l.arguments) (with_turns 1 (with_turns l.turns a)) b (member_is_regular u.image l.member) right in
    let turns = once.turns in let fewer = mirrors.turns in
    record {
      c = with_answer (u.table (c.sent + 1)) (record c { calls = called.calls; turns = c.turns + l.turns + 1 });
      came = called.came;
      mirrors = record {
        sent = ap (λ (n : ℕ). n + 1) mirrors.sent ∙ sym once.sent;
        creations = mirrors.creations ∙ sym once.creations;
        turns = omega (arith, turns, fewer);
        table = answers_mirrored c.sent u.table c.answers mirrors.table;
      };
    }

known_is : (known : Known) (b : Arg) → Stays (arg_of_reply (Some known)) b → b ≡ arg_of_reply (Some known)
known_is (known.Value words) b stays = sym stays
known_is (known.Trapped t) b stays = sym stays

-- what the frame learns stands in the table
learnt_in_table : (u : Lone) (told : List Told) (c : Account) (turns : ℕ) (f : Frame Held) (m : Midway u.image u.start told c turns f) (result : ℕ) (h : Frame Held) →
    step (framed m.alone.knows) (world (lone u)) f ≡ Stops (Needs (Pending result)) h → (known : Known) → KnowsLess u.image u.start (Learnt known ∷ told) u.table → u.table result ≡ arg_of_reply (Some known)
learnt_in_table u told c turns f m result h is known less =
    let halted = stops_midway u.image u.start told c turns f m (Needs (Pending result)) h is in
    let next : Alone = record halted.alone { frame = h; knows = learns result (arg_of_reply (Some known)) halted.alone.knows } in
    let behind_it : behind halted.fuel u.image u.start (Learnt known ∷ told) ≡ Some next =
    ap (λ (o : Option Alone). given o (λ alone. given (runs_on halted.fuel u.image u.start alone) (λ stood. told_at u.image alone stood.frame stood.halt (Learnt known)))) halted.is_behind
    ∙ ap (λ (o : Option Stood). given o (λ stood. told_at u.image halted.alone stood.frame stood.halt (Learnt known))) halted.runs in
    known_is known (u.table result)
    (subst (λ (value : Arg). Stays value (u.table result)) (learns_it result (arg_of_reply (Some known)) halted.alone.knows) (less halted.fuel next behind_it result))

at_stop_lone : (u : Lone) (told : List Told) (a : Account) (replies : ℕ → Arg) (c : Account) → Mirrors u a c → (turns : ℕ) (f : Frame Held) (m : Midway u.image u.start told c turns f) → (c.turns + turns ≤ u.n → Leads (lone u) (body_of c (c.turns + turns) f)) →
    (stop : Stop Held) (h : Frame Held) → step (framed m.alone.knows) (world (lone u)) f ≡ Stops stop h → (t : Told) (b : Account) → IsRightAt u.image u.start replies (with_turns turns a) (Stands stop) t b →
    KnowsLess u.image u.start (t ∷ told) u.table → LoneCame u (t ∷ told) b
at_stop_lone u told a replies c mirrors turns f m leads (Calls member object arguments) h is Called b right less =
    stop_lone u told a replies c mirrors (record { turns = turns; f = f; midway = m; leads = leads; member = member; object = object; arguments = arguments; h = h; is = is }) b right
at_stop_lone u told a replies c mirrors turns f m leads (Needs (Pending result)) h is (Learnt known) b right less =
    let halted = stops_midway u.image u.start told c turns f m (Needs (Pending result)) h is in
    let made = halted.names in let fewer = mirrors.turns in
    subst (LoneCame u (Learnt known ∷ told)) right.1 (record {
      c = with_turns turns c;
      came = learnt_came (lone u) told c turns f m leads result h is known (mirrors.table result made.0 made.1 ∙ learnt_in_table u told c turns f m result h is known less);
      mirrors = record { sent = mirrors.sent; creations = mirrors.creations; turns = omega (arith, fewer); table = mirrors.table };
    })
at_stop_lone u told a replies c mirrors turns f m leads (Creates class) h is (Named object) b right less =
    let fewer = mirrors.turns in
    subst (λ (object : ℤ). LoneCame u (Named object ∷ told) b) (ap (λ (made : List ℤ). object_word u.start.number (length made + 1)) mirrors.creations ∙ right.0)
    (subst (LoneCame u (Named (object_word u.start.number (length c.creations + 1)) ∷ told)) right.1 (record {
      c = with_creation class (with_turns 1 (with_turns turns c));
      came = created_came (lone u) told c turns f m leads class h is;
      mirrors = record { sent = mirrors.sent; creations = ap (λ (made : List ℤ). made ++ pos class ∷ []) mirrors.creations; turns = omega (arith, fewer); table = mirrors.table };
    }))
at_stop_lone u told a replies c mirrors turns f m leads (Replies value) h is Gave b right less =
    let fewer = mirrors.turns in
    subst (LoneCame u (Gave ∷ told)) right (record {
      c = record (with_turns turns c) { result = result_of (seen_by c.answers value) };
      came = gave_came (lone u) told c turns f m leads value h is;
      mirrors = record { sent = mirrors.sent; creations = mirrors.creations; turns = omega (arith, fewer); table = mirrors.table };
    })
at_stop_lone u told a replies c mirrors turns f m leads stop h is t b right less = absurd right

at_beat_lone : (u : Lone) (told : List Told) (a : Account) (replies : ℕ → Arg) (c : Account) → Mirrors u a c → (turns : ℕ) (t : Told) (b : Account) → Came (lone u) (Beaten ∷ told) (with_turns turns c) →
    IsRightAt u.image u.start replies (with_turns turns a) Beats t b → LoneCame u (t ∷ told) b
at_beat_lone u told a replies c mirrors turns Beaten b came right =
    let fewer = mirrors.turns in
    subst (LoneCame u (Beaten ∷ told)) right (record {
      c = with_turns turns c;
      came = came;
      mirrors = record { sent = mirrors.sent; creations = mirrors.creations; turns = omega (arith, fewer); table = mirrors.table };
    })
at_beat_lone u told a replies c mirrors turns t b came right = absurd right

one_more_lone : (u : Lone) (told : List Told) (a : Account) (replies : ℕ → Arg) (c : Account) → Mirrors u a c → (stood : Stood) → AtLast (lone u) told c stood → (t : Told) (b : Account) →
    IsRightAt u.image u.start replies (with_turns stood.turns a) stood.halt t b → KnowsLess u.image u.start (t ∷ told) u.table → LoneCame u (t ∷ told) b
one_more_lone u told a replies c mirrors stood l t b right less = by_next (step (framed l.midway.alone.knows) (world (lone u)) l.f) refl l.last where
  right_at : (other : Stood) → Some other ≡ Some stood → IsRightAt u.image u.start replies (with_turns other.turns a) other.halt t b
  right_at other h = subst (λ (s : Stood). IsRightAt u.image u.start replies (with_turns s.turns a) s.halt t b) (sym (some_stood other stood h)) right

  on_spent : (h : Frame Held) → step (framed l.midway.alone.knows) (world (lone u)) l.f ≡ Spends h → (test : Bool) → l.turns + 1 == most_turns ≡ test →
      cond test (Some (record { halt = Beats; turns = l.turns + 1; frame = h })) None ≡ Some stood → LoneCame u (t ∷ told) b
  on_spent h is true test j =
      at_beat_lone u told a replies c mirrors (l.turns + 1) t b (beat_came (lone u) told c l.turns l.f l.midway l.leads h is test) (right_at (record { halt = Beats; turns = l.turns + 1; frame = h }) j)
  on_spent h is false test j = absurd (cc j)

  by_next : (next : Next Held) → step (framed l.midway.alone.knows) (world (lone u)) l.f ≡ next → after (λ _ _. None) most_turns l.turns next ≡ Some stood → LoneCame u (t ∷ told) b
  by_next (Goes h) is j = absurd (cc j)
  by_next (Spends h) is j = on_spent h is (l.turns + 1 == most_turns) refl j
  by_next (Stops stop h) is j =
      at_stop_lone u told a replies c mirrors l.turns l.f l.midway l.leads stop h is t b (right_at (record { halt = Stands stop; turns = l.turns; frame = h }) j) less

-- ---- what is told rightly

lone_came : (u : Lone) (replies : FinMap nat_cmp Known) (told : List Told) (a : Account) → Right u.image u.start replies told a → KnowsLess u.image u.start told u.table → LoneCame u told a
lone_came u replies [] a right less = subst (LoneCame u []) right (record {
  c = opening;
  came = came_first (lone u);
  mirrors = record { sent = refl; creations = refl; turns = omega arith; table = λ result low high. absurd (omega (arith, low, high)) };
})
lone_came u replies (t ∷ told) b right less =
    let before = lone_came u replies told right.a right.was
    (knew_less u.image u.start told right.stood t u.table (replies_of replies) (with_turns right.stood.turns right.a) b right.halts right.is less) in
    one_more_lone u told right.a (replies_of replies) before.c before.mirrors right.stood (at_last (lone u) told before.c before.came right.stood right.halts) t b right.is less

true_is_not_false : true ≡ false → ⊥
true_is_not_false h = cc h

pub strays_alone : (image : RawImage) (start : BodyStart) (replies : FinMap nat_cmp Known) (told : List Told) (a : Account) (stood : Stood) → ((answers : ℕ → Arg) → ((call : ℕ) → Stays (answers call) (a.answers call)) → StraysNowhere image start answers) →
    Right image start replies told a → HaltsNext image start told stood → stood.halt ≢ Stands Strays
strays_alone image start replies told a stood nowhere right halts strays = by_next (step (framed last.midway.alone.knows) (world (lone u)) last.f) refl last.last where
  q : Asking
  q = record { image = image; start = start; replies = replies; n = 0 }

  own : AtLast (asked q) told a stood
  own = at_last (asked q) told a (came q told a right) stood halts

  u : Lone
  u = record { image = image; start = start; table = own.midway.alone.knows; n = a.turns + stood.turns }

  same_alone : (fuel : ℕ) (alone : Alone) → behind fuel image start told ≡ Some alone → own.midway.alone ≡ alone
  same_alone fuel alone is = one_behind image start told own.midway.fuel fuel own.midway.alone alone own.midway.is_behind is

  there : LoneCame u told a
  there = lone_came u replies told a right (λ fuel alone is result. subst (λ (x : Alone). Stays (x.knows result) (own.midway.alone.knows result)) (same_alone fuel alone is) (stays_same (own.midway.alone.knows result)))

  last : AtLast (lone u) told there.c stood
  last = at_last (lone u) told there.c there.came stood halts

  alike : (value : Held) → IsMade there.c.sent value → seen_by last.midway.alone.knows value ≡ seen_by there.c.answers value
  alike (Words words) made = refl
  alike (Pending result) made =
      ap (λ (x : Alone). x.knows result) (sym (same_alone last.midway.fuel last.midway.alone last.midway.is_behind)) ∙ sym (there.mirrors.table result made.0 made.1)

  strayed : (h : Frame Held) → step (framed last.midway.alone.knows) (world (lone u)) last.f ≡ Stops Strays h →
      step in_place (world (lone u)) (frame_seen (seen_by there.c.answers) last.f) ≡ Stops Strays (frame_seen (seen_by last.midway.alone.knows) h)
  strayed h is =
      ap (step in_place (world (lone u))) (sym (frame_again (seen_by last.midway.alone.knows) (seen_by there.c.answers) (IsMade there.c.sent) alike (code_of_member start.member) last.f last.midway.has))
      ∙ (sym (framed_seen last.midway.alone.knows (world (lone u)) last.f) ∙ ap (next_seen (seen_by last.midway.alone.knows)) is)

  by_stop : (stop : Stop Held) (h : Frame Held) → step (framed last.midway.alone.knows) (world (lone u)) last.f ≡ Stops stop h → record { halt = Stands stop; turns = last.turns; frame = h } ≡ stood → Stands stop ≡ Stands Strays → ⊥
  by_stop Strays h is same halt =
      let turns : last.turns ≡ stood.turns = ap (λ (s : Stood). s.turns) same in
      let fewer = there.mirrors.turns in
      let ran = last.leads (omega (arith, turns, fewer)) 1 _ (ap (act (exec 0) (setting (lone u)) (body_of there.c (there.c.turns + last.turns) last.f)) (strayed h is)) in
      true_is_not_false (nowhere own.midway.alone.knows own.midway.less u.n ran.0 _ ran.1)
  by_stop stop h is same halt = cc halt

  by_next : (next : Next Held) → step (framed last.midway.alone.knows) (world (lone u)) last.f ≡ next → after (λ _ _. None) most_turns last.turns next ≡ Some stood → ⊥
  by_next (Goes h) is j = cc j
  by_next (Spends h) is j = on_spent (last.turns + 1 == most_turns) j where
    on_spent : (test : Bool) → cond test (Some (record { halt = Beats; turns = last.turns + 1; frame = h })) None ≡ Some stood → ⊥
    on_spent true j = cc (ap (λ (s : Stood). s.halt) (some_stood _ stood j) ∙ strays)
    on_spent false j = cc j
  by_next (Stops stop h) is j =
      by_stop stop h is (some_stood (record { halt = Stands stop; turns = last.turns; frame = h }) stood j) (ap (λ (s : Stood). s.halt) (some_stood (record { halt = Stands stop; turns = last.turns; frame = h }) stood j) ∙ strays)
