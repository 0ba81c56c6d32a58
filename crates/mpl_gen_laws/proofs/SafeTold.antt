-- A frame that is safe for any number of steps strays nowhere, whatever it is told rightly.
use Rattle.std.proofs.Common.{◌≡◌, ◌≤◌, ◌<◌, ℕ, zero, suc, ◌+◌, ◌==◌, Bool, true, false, List, [], ◌∷◌, length, take, flat_map, sum, Option, Some, None, if◌then◌else◌, ℤ, ◌⊎◌, inl, inr, refl, ap, sym, subst, arith, ◌∙◌}
use Rattle.std.proofs.lemmas.Bool.{eqb-true}
use Rattle.std.specs.FinMap.{empty, get-empty}
use Rattle.std.specs.List.{AllByRecursion, AllZip, slice_get}
use Rattle.std.specs.Option.{option_map}
use Rattle.std.specs.Ordering.{nat_cmp}
use Rattle.mpl_value.specs.CallAnswers.{any_unknown, arg_of_reply, arg_of_result, known_words, leftmost_trap}
use Rattle.mpl_value.specs.declared.body.Arg.{Arg}
use Rattle.mpl_value.specs.declared.body.Arg.TheVariants as arg
use Rattle.mpl_value.specs.declared.body.BodyResult.{BodyResult}
use Rattle.mpl_value.specs.declared.body.BodyResult.TheVariants as result
use Rattle.mpl_value.specs.declared.body.BodyStart.{BodyStart}
use Rattle.mpl_value.specs.declared.body.CallMade.{CallMade}
use Rattle.mpl_value.specs.declared.known.Known.{Known}
use Rattle.mpl_value.specs.declared.known.Known.TheVariants as known
use Rattle.mpl_value.specs.declared.known.Trap.{Trap}
use Rattle.mpl_mean.proofs.Sizes.SizedClasses.{same_number}
use Rattle.mdf_code.specs.Alone.{Held, Words, Pending, framed, seen_by, values_seen}
use Rattle.mdf_code.specs.Frames.{Frame, Next, Goes, Spends, Stops, Calls, Creates, Needs, Replies}
use Rattle.mdf_code.specs.Parts.{sizes_of, sizes_of_formals}
use Rattle.mdf_code.specs.Right.{Account, IsCalled, IsRightAt, Right, StraysAsInPlace, UnlessTrapped, UnlessUnknown, opening, with_answer, with_call, with_turns}
use Rattle.mdf_code.specs.Sizes.{ArgFits, ArgumentsFit, CallReplyFits, ResultFits, StartFits}
use Rattle.mdf_code.specs.Stacks.{given}
use Rattle.mdf_code.specs.Steps.{step}
use Rattle.mdf_code.specs.Told.{Alone, Beaten, Beats, Called, Gave, Halt, HaltsNext, Learnt, Named, Stands, Stood, Told, after, around_start, behind, first, learns, most_turns, run, runs_on, told_at}
use Rattle.mdf_code.specs.Yields.{answer, formals_of, member_is_regular, regular_start, replies_of, start_frame, words_of_result}
use Rattle.mdf_code.specs.declared.raw.RawImage.{RawImage}
use Rattle.mdf_code.specs.declared.raw.RawMember.{RawMember}
use Rattle.mdf_code.proofs.FittingRuns.{yields_fit}
use Rattle.mdf_code.proofs.FittingValues.{joined_fit}
use Rattle.mdf_code.proofs.OneHalt.{one_halt}
use Rattle.mpl_gen_code.proofs.Calling.{answer_fits}
use Rattle.mpl_gen_laws.specs.SafeFrames.{HeldArguments, HeldFits, Safe, SafeNext}

some_is : {A : Type 0} {a b : A} → ◌≡◌ {A = Option A} (Some a) (Some b) → a ≡ b
some_is e = cc

-- ---- answers that fit

result_fits : (words : ℕ) (r : BodyResult) → ResultFits (Some words) r → ArgFits words (arg_of_result r)
result_fits words result.Open fit = tt
result_fits words (result.Known (known.Value value)) fit = fit
result_fits words (result.Known (known.Trapped t)) fit = tt
result_fits words result.Unknown fit = tt

none_replied : (image : RawImage) (calls : List CallMade) → AllByRecursion (CallReplyFits image (replies_of empty)) calls
none_replied image [] = tt
none_replied image (call ∷ calls) =
    (subst (λ reply. ArgFits (words_of_result image call.member.0) (arg_of_reply reply)) (sym (get-empty nat_cmp call.call)) tt, none_replied image calls)

start_fits : (image : RawImage) (member : ℕ) (arguments : List Arg) → ArgumentsFit arguments (slice_get image.members member) → any_unknown arguments ≡ false → leftmost_trap arguments ≡ None
    → StartFits image (regular_start member (flat_map (λ words. words) (known_words arguments)))
start_fits image member arguments fits known untrapped = by_member (slice_get image.members member) fits where
  by_member : (o : Option RawMember) → ArgumentsFit arguments o → length (flat_map (λ words. words) (known_words arguments)) ≡ sum (take (formals_of o) (sizes_of (option_map (λ (m : RawMember). m.body) o)))
  by_member None fits = absurd fits
  by_member (Some m) fits = joined_fit (take m.formals m.body.vars) arguments fits known untrapped

-- what is held of results that fit fits
seen_fits : (sizes : ℕ → ℕ) (knows : ℕ → Arg) → ((r : ℕ) → ArgFits (sizes r) (knows r)) → (size : ℕ) (v : Held) → HeldFits sizes size v → ArgFits size (seen_by knows v)
seen_fits sizes knows good size (Words words) fit = fit
seen_fits sizes knows good size (Pending r) fit = subst (λ n. ArgFits n (knows r)) fit (good r)

all_seen_fit : (sizes : ℕ → ℕ) (knows : ℕ → Arg) → ((r : ℕ) → ArgFits (sizes r) (knows r)) → (counts : List ℕ) (values : List Held) → AllZip (HeldFits sizes) counts values → AllZip ArgFits counts (values_seen (seen_by knows) values)
all_seen_fit sizes knows good [] [] fit = tt
all_seen_fit sizes knows good [] (v ∷ values) fit = absurd fit
all_seen_fit sizes knows good (count ∷ counts) [] fit = absurd fit
all_seen_fit sizes knows good (count ∷ counts) (v ∷ values) fit = (seen_fits sizes knows good count v fit.0, all_seen_fit sizes knows good counts values fit.1)

arguments_seen : (sizes : ℕ → ℕ) (knows : ℕ → Arg) → ((r : ℕ) → ArgFits (sizes r) (knows r)) → (arguments : List Held) (o : Option RawMember) → HeldArguments sizes arguments o → ArgumentsFit (values_seen (seen_by knows) arguments) o
arguments_seen sizes knows good arguments None fit = absurd fit
arguments_seen sizes knows good arguments (Some m) fit = all_seen_fit sizes knows good (sizes_of_formals m) arguments fit

-- one more call that was answered by what fits
record OneMore (image : RawImage) (member : ℕ) (a b : Account) : Type 0 where
  value : Arg
  fits : ArgFits (words_of_result image member) value
  sent : b.sent ≡ a.sent + 1
  answers : b.answers ≡ learns (a.sent + 1) value a.answers

one_more : (image : RawImage) (member : ℕ) (a c b : Account) (value : Arg) → ArgFits (words_of_result image member) value → c.sent ≡ a.sent → c.answers ≡ a.answers → with_answer value c ≡ b → OneMore image member a b
one_more image member a c b value fits sent answers is = record {
  value = value;
  fits = fits;
  sent = sym (ap Account.sent is) ∙ ap (λ n. n + 1) sent;
  answers = sym (ap Account.answers is) ∙ ap (λ n. learns (n + 1) value c.answers) sent ∙ ap (λ knows. learns (a.sent + 1) value knows) answers;
}

called_right : (image : RawImage) (member : ℕ) (object : ℤ) (arguments : List Arg) (a c b : Account) → ArgumentsFit arguments (slice_get image.members member) → c.sent ≡ a.sent → c.answers ≡ a.answers → (regular : Bool)
    → IsCalled image (replies_of empty) member object arguments c b regular → OneMore image member a b
called_right image member object arguments a c b fits sent answers true is = by_unknown (any_unknown arguments) refl is where
  by_trap : any_unknown arguments ≡ false → (o : Option Trap) → leftmost_trap arguments ≡ o → UnlessTrapped image member arguments c b o → OneMore image member a b
  by_trap known (Some t) e is = one_more image member a c b (arg.Trapped t) tt sent answers is
  by_trap known None e is =
      let own = is.own in
      let sized = yields_fit image (regular_start member (flat_map (λ words. words) (known_words arguments))) empty own.turns is.yield (start_fits image member arguments fits known e) own.yields (none_replied image is.yield.calls) in
      one_more image member a (with_turns is.yield.turns c) b (arg_of_result is.yield.result) (result_fits (words_of_result image member) is.yield.result sized.result) sent answers is.is

  by_unknown : (u : Bool) → any_unknown arguments ≡ u → UnlessUnknown image member arguments c b u → OneMore image member a b
  by_unknown true e is = one_more image member a c b arg.Unknown tt sent answers is
  by_unknown false e is = by_trap e (leftmost_trap arguments) refl is
called_right image member object arguments a c b fits sent answers false is =
    one_more image member a (with_call member object arguments c) b (answer arguments (replies_of empty (length c.calls + 1)))
    (answer_fits (words_of_result image member) arguments (replies_of empty (length c.calls + 1))
    (subst (λ reply. ArgFits (words_of_result image member) (arg_of_reply reply)) (sym (get-empty nat_cmp (length c.calls + 1))) tt)) sent answers is

-- ---- frames between two halts

given_some : {A B : Type 0} (o : Option A) (next : A → Option B) (y : B) → given o next ≡ Some y → (x : A) × (o ≡ Some x) × (next x ≡ Some y)
given_some None next y e = absurd cc
given_some (Some x) next y e = (x, refl, e)

module _ (image : RawImage) (start : BodyStart) where
  abbrev SafeHalt : (ℕ → ℕ) → ℕ → (ℕ → Arg) → Halt → Frame Held → Type 0
  SafeHalt sizes calls knows (Stands stop) f = (n : ℕ) → SafeNext image sizes (Safe image start.object sizes n) calls knows (Stops stop f)
  SafeHalt sizes calls knows Beats f = (n : ℕ) → Safe image start.object sizes n calls knows f

  abbrev SafeStood : (ℕ → ℕ) → ℕ → (ℕ → Arg) → Stood → Type 0
  SafeStood sizes calls knows stood = SafeHalt sizes calls knows stood.halt stood.frame

  -- a run from a safe frame halts safely
  run_safe : (sizes : ℕ → ℕ) (calls : ℕ) (knows : ℕ → Arg) (fuel quantum turns : ℕ) (f : Frame Held) (stood : Stood) → ((n : ℕ) → Safe image start.object sizes n calls knows f)
      → run fuel knows (around_start image start) quantum turns f ≡ Some stood → SafeStood sizes calls knows stood
  run_safe sizes calls knows zero quantum turns f stood safe e = absurd cc
  run_safe sizes calls knows (suc fuel) quantum turns f stood safe e =
      by_next (step (framed knows) (around_start image start) f) (λ n. safe (suc n)) e (λ turns g safe e. run_safe sizes calls knows fuel quantum turns g stood safe e) where
        by_beat : (b : Bool) (turns : ℕ) (g : Frame Held) → ((n : ℕ) → Safe image start.object sizes n calls knows g)
            → (if b then Some (record { halt = Beats; turns = turns; frame = g }) else run fuel knows (around_start image start) quantum turns g) ≡ Some stood
            → ((turns : ℕ) (g : Frame Held) → ((n : ℕ) → Safe image start.object sizes n calls knows g) → run fuel knows (around_start image start) quantum turns g ≡ Some stood → SafeStood sizes calls knows stood)
            → SafeStood sizes calls knows stood
        by_beat true turns g safe e again = subst (SafeStood sizes calls knows) (some_is e) safe
        by_beat false turns g safe e again = again turns g safe e

        by_next : (next : Next Held) → ((n : ℕ) → SafeNext image sizes (Safe image start.object sizes n) calls knows next) → after (run fuel knows (around_start image start) quantum) quantum turns next ≡ Some stood
            → ((turns : ℕ) (g : Frame Held) → ((n : ℕ) → Safe image start.object sizes n calls knows g) → run fuel knows (around_start image start) quantum turns g ≡ Some stood → SafeStood sizes calls knows stood)
            → SafeStood sizes calls knows stood
        by_next (Goes g) safe e again = again turns g safe e
        by_next (Spends g) safe e again = by_beat (turns + 1 == quantum) (turns + 1) g safe e again
        by_next (Stops stop g) safe e again = subst (SafeStood sizes calls knows) (some_is e) safe

  -- ---- what is known behind what was told

  record Facts (told : List Told) (a : Account) : Type 0 where
    sizes : ℕ → ℕ
    fits : (r : ℕ) → ArgFits (sizes r) (a.answers r)
    beyond : (r : ℕ) → a.sent < r → a.answers r ≡ arg.Unknown
    safe : (others : ℕ → ℕ) → ((r : ℕ) → r ≤ a.sent → others r ≡ sizes r) → (fuel : ℕ) (x : Alone) → behind fuel image start told ≡ Some x → (x.calls ≡ a.sent) × ((n : ℕ) → Safe image start.object others n x.calls x.knows x.frame)

  -- where a frame halts next it halts safely
  record AtHalt (others : ℕ → ℕ) (a : Account) (stood : Stood) (t : Told) (b : Alone) : Type 0 where
    x : Alone
    calls : x.calls ≡ a.sent
    safe : SafeStood others x.calls x.knows stood
    told : told_at image x stood.frame stood.halt t ≡ Some b

  reached : (before : List Told) (a : Account) (facts : Facts before a) (stood : Stood) → HaltsNext image start before stood → (others : ℕ → ℕ) → ((r : ℕ) → r ≤ a.sent → others r ≡ facts.sizes r)
      → (t : Told) (fuel : ℕ) (b : Alone) → behind fuel image start (t ∷ before) ≡ Some b → AtHalt others a stood t b
  reached before a facts stood halts others agree t fuel b e =
      let one = given_some (behind fuel image start before) (λ x. given (runs_on fuel image start x) (λ stood. told_at image x stood.frame stood.halt t)) b e in
      let two = given_some (runs_on fuel image start one.0) (λ stood. told_at image one.0 stood.frame stood.halt t) b one.2 in
      let here = facts.safe others agree fuel one.0 one.1 in
      let same : two.0 ≡ stood =
      one_halt image start before two.0 stood (record { steps = fuel; within = ap (λ (o : Option Alone). given o (runs_on fuel image start)) one.1 ∙ two.1 }) halts in
      record {
        x = one.0;
        calls = here.0;
        safe = subst (SafeStood others one.0.calls one.0.knows) same (run_safe others one.0.calls one.0.knows fuel most_turns 0 one.0.frame two.0 here.1 two.1);
        told = subst (λ (s : Stood). told_at image one.0 s.frame s.halt t ≡ Some b) same two.2;
      }

  -- the halt itself is safe, by the sizes of the results so far
  halts_safely : (before : List Told) (a : Account) (facts : Facts before a) (stood : Stood) → HaltsNext image start before stood → (x : Alone) × SafeStood facts.sizes x.calls x.knows stood
  halts_safely before a facts stood halts =
      let one = given_some (behind halts.steps image start before) (runs_on halts.steps image start) stood halts.within in
      let here = facts.safe facts.sizes (λ r h. refl) halts.steps one.0 one.1 in
      (one.0, run_safe facts.sizes one.0.calls one.0.knows halts.steps most_turns 0 one.0.frame stood here.1 one.2)

  -- what is told but a call leaves the answers as they are
  kept : (before : List Told) (a : Account) (facts : Facts before a) (t : Told) (b : Account) → b.sent ≡ a.sent → b.answers ≡ a.answers
      → ((others : ℕ → ℕ) → ((r : ℕ) → r ≤ a.sent → others r ≡ facts.sizes r) → (fuel : ℕ) (x : Alone) → behind fuel image start (t ∷ before) ≡ Some x → (x.calls ≡ a.sent) × ((n : ℕ) → Safe image start.object others n x.calls x.knows x.frame))
      → Facts (t ∷ before) b
  kept before a facts t b sent answers safe = record {
    sizes = facts.sizes;
    fits = λ r. subst (λ (knows : ℕ → Arg). ArgFits (facts.sizes r) (knows r)) (sym answers) (facts.fits r);
    beyond = λ r more. ap (λ (knows : ℕ → Arg). knows r) answers ∙ facts.beyond r (omega (arith, more, sent));
    safe = λ others agree fuel x e. let got = safe others (λ r le. agree r (omega (arith, le, sent))) fuel x e in (got.0 ∙ sym sent, got.1);
  }

  -- a call that was made
  called : (before : List Told) (a : Account) (facts : Facts before a) (b : Account) (stood : Stood) → HaltsNext image start before stood → (member : ℕ) (object : ℤ) (arguments : List Held) → stood.halt ≡ Stands (Calls member object arguments)
      → OneMore image member a b → Facts (Called ∷ before) b
  called before a facts b stood halts member object arguments is one = record {
    sizes = grown;
    fits = λ r. subst (λ (knows : ℕ → Arg). ArgFits (grown r) (knows r)) (sym one.answers) (by_test_fits r (r == a.sent + 1));
    beyond = λ r more. ap (λ (knows : ℕ → Arg). knows r) one.answers ∙ by_test_beyond r (omega (arith, more, one.sent)) (r == a.sent + 1) refl;
    safe = λ others agree fuel x e. behind_call others (λ r le. agree r (omega (arith, le, one.sent))) fuel x e;
  } where
    grown : ℕ → ℕ
    grown r = if r == a.sent + 1 then words_of_result image member else facts.sizes r

    by_test_fits : (r : ℕ) (b : Bool) → ArgFits (if b then words_of_result image member else facts.sizes r) (if b then one.value else a.answers r)
    by_test_fits r true = one.fits
    by_test_fits r false = facts.fits r

    by_test_beyond : (r : ℕ) → a.sent + 1 < r → (b : Bool) → r == a.sent + 1 ≡ b → (if b then one.value else a.answers r) ≡ arg.Unknown
    by_test_beyond r more true e = absurd (let same = eqb-true r (a.sent + 1) e in omega (arith, more, same))
    by_test_beyond r more false e = facts.beyond r (omega (arith, more))

    -- an older result has its size
    older : (r : ℕ) → r ≤ a.sent → (b : Bool) → r == a.sent + 1 ≡ b → (if b then words_of_result image member else facts.sizes r) ≡ facts.sizes r
    older r le true e = absurd (let same = eqb-true r (a.sent + 1) e in omega (arith, le, same))
    older r le false e = refl

    newest : grown (a.sent + 1) ≡ words_of_result image member
    newest = ap (λ b. if b then words_of_result image member else facts.sizes (a.sent + 1)) (same_number (a.sent + 1))

    behind_call : (others : ℕ → ℕ) → ((r : ℕ) → r ≤ a.sent + 1 → others r ≡ grown r) → (fuel : ℕ) (x : Alone) → behind fuel image start (Called ∷ before) ≡ Some x → (x.calls ≡ b.sent) × ((n : ℕ) → Safe image start.object others n x.calls x.knows x.frame)
    behind_call others agree fuel x e =
        let at = reached before a facts stood halts others (λ r le. agree r (omega (arith, le)) ∙ older r le (r == a.sent + 1) refl) Called fuel x e in
        let safe : SafeHalt others at.x.calls at.x.knows (Stands (Calls member object arguments)) stood.frame = subst (λ halt. SafeHalt others at.x.calls at.x.knows halt stood.frame) is at.safe in
        let now : told_at image at.x stood.frame (Stands (Calls member object arguments)) Called ≡ Some x = subst (λ halt. told_at image at.x stood.frame halt Called ≡ Some x) is at.told in
        let sized : others (at.x.calls + 1) ≡ words_of_result image member = ap (λ n. others (n + 1)) at.calls ∙ agree (a.sent + 1) (omega arith) ∙ newest in
        subst (λ (x : Alone). (x.calls ≡ b.sent) × ((n : ℕ) → Safe image start.object others n x.calls x.knows x.frame)) (some_is now)
        (ap (λ n. n + 1) at.calls ∙ sym one.sent, (λ n. (safe n).1 sized))

  -- ---- what is told rightly

  -- what is learnt of a result fits
  learnt_fits : (a : Account) (sizes others : ℕ → ℕ) → ((r : ℕ) → ArgFits (sizes r) (a.answers r)) → ((r : ℕ) → a.sent < r → a.answers r ≡ arg.Unknown) → ((r : ℕ) → r ≤ a.sent → others r ≡ sizes r)
      → (r : ℕ) (k : Known) → a.answers r ≡ arg_of_reply (Some k) → ArgFits (others r) (arg_of_reply (Some k))
  learnt_fits a sizes others fits beyond agree r k e = by_order (made r a.sent) where
    made : (n m : ℕ) → (n ≤ m) ⊎ (m < n)
    made zero m = inl (omega arith)
    made (suc n) zero = inr (omega arith)
    made (suc n) (suc m) = one_up (made n m) where
      one_up : (n ≤ m) ⊎ (m < n) → (suc n ≤ suc m) ⊎ (suc m < suc n)
      one_up (inl h) = inl (omega (arith, h))
      one_up (inr h) = inr (omega (arith, h))

    never : (k : Known) → arg_of_reply (Some k) ≡ arg.Unknown → ⊥
    never (known.Value value) e = cc e
    never (known.Trapped t) e = cc e

    by_order : (r ≤ a.sent) ⊎ (a.sent < r) → ArgFits (others r) (arg_of_reply (Some k))
    by_order (inl le) = subst (λ n. ArgFits n (arg_of_reply (Some k))) (sym (agree r le)) (subst (ArgFits (sizes r)) e (fits r))
    by_order (inr more) = absurd (never k (sym e ∙ beyond r more))

  right_facts : (before : List Told) (a : Account) (facts : Facts before a) (stood : Stood) → HaltsNext image start before stood → (halt : Halt) → stood.halt ≡ halt → (t : Told) (b : Account)
      → IsRightAt image start (replies_of empty) (with_turns stood.turns a) halt t b → Facts (t ∷ before) b
  right_facts before a facts stood halts (Stands (Calls member object arguments)) is Called b right =
      let safely = halts_safely before a facts stood halts in
      let safe : SafeHalt facts.sizes safely.0.calls safely.0.knows (Stands (Calls member object arguments)) stood.frame = subst (λ halt. SafeHalt facts.sizes safely.0.calls safely.0.knows halt stood.frame) is safely.1 in
      called before a facts b stood halts member object arguments is
      (called_right image member object (values_seen (seen_by a.answers) arguments) a (with_turns 1 (with_turns stood.turns a)) b
      (arguments_seen facts.sizes a.answers facts.fits arguments (slice_get image.members member) (safe 0).0) refl refl (member_is_regular image member) right)
  right_facts before a facts stood halts (Stands (Needs (Pending r))) is (Learnt k) b right =
      kept before a facts (Learnt k) b (sym (ap Account.sent right.1)) (sym (ap Account.answers right.1))
      (λ others agree fuel x e.
      let at = reached before a facts stood halts others agree (Learnt k) fuel x e in
      let safe : SafeHalt others at.x.calls at.x.knows (Stands (Needs (Pending r))) stood.frame = subst (λ halt. SafeHalt others at.x.calls at.x.knows halt stood.frame) is at.safe in
      let now : told_at image at.x stood.frame (Stands (Needs (Pending r))) (Learnt k) ≡ Some x = subst (λ halt. told_at image at.x stood.frame halt (Learnt k) ≡ Some x) is at.told in
      subst (λ (x : Alone). (x.calls ≡ a.sent) × ((n : ℕ) → Safe image start.object others n x.calls x.knows x.frame)) (some_is now)
      (at.calls, (λ n. safe n k (learnt_fits a facts.sizes others facts.fits facts.beyond agree r k right.0))))
  right_facts before a facts stood halts (Stands (Creates class)) is (Named object) b right =
      kept before a facts (Named object) b (sym (ap Account.sent right.1)) (sym (ap Account.answers right.1))
      (λ others agree fuel x e.
      let at = reached before a facts stood halts others agree (Named object) fuel x e in
      let safe : SafeHalt others at.x.calls at.x.knows (Stands (Creates class)) stood.frame = subst (λ halt. SafeHalt others at.x.calls at.x.knows halt stood.frame) is at.safe in
      let now : told_at image at.x stood.frame (Stands (Creates class)) (Named object) ≡ Some x = subst (λ halt. told_at image at.x stood.frame halt (Named object) ≡ Some x) is at.told in
      subst (λ (x : Alone). (x.calls ≡ a.sent) × ((n : ℕ) → Safe image start.object others n x.calls x.knows x.frame)) (some_is now) (at.calls, (λ n. safe n object)))
  right_facts before a facts stood halts (Stands (Replies value)) is Gave b right =
      kept before a facts Gave b (sym (ap Account.sent right)) (sym (ap Account.answers right))
      (λ others agree fuel x e.
      let at = reached before a facts stood halts others agree Gave fuel x e in
      let safe : SafeHalt others at.x.calls at.x.knows (Stands (Replies value)) stood.frame = subst (λ halt. SafeHalt others at.x.calls at.x.knows halt stood.frame) is at.safe in
      let now : told_at image at.x stood.frame (Stands (Replies value)) Gave ≡ Some x = subst (λ halt. told_at image at.x stood.frame halt Gave ≡ Some x) is at.told in
      subst (λ (x : Alone). (x.calls ≡ a.sent) × ((n : ℕ) → Safe image start.object others n x.calls x.knows x.frame)) (some_is now) (at.calls, safe))
  right_facts before a facts stood halts Beats is Beaten b right =
      kept before a facts Beaten b (sym (ap Account.sent right)) (sym (ap Account.answers right))
      (λ others agree fuel x e.
      let at = reached before a facts stood halts others agree Beaten fuel x e in
      let safe : SafeHalt others at.x.calls at.x.knows Beats stood.frame = subst (λ halt. SafeHalt others at.x.calls at.x.knows halt stood.frame) is at.safe in
      let now : told_at image at.x stood.frame Beats Beaten ≡ Some x = subst (λ halt. told_at image at.x stood.frame halt Beaten ≡ Some x) is at.told in
      subst (λ (x : Alone). (x.calls ≡ a.sent) × ((n : ℕ) → Safe image start.object others n x.calls x.knows x.frame)) (some_is now) (at.calls, safe))
  right_facts before a facts stood halts halt is t b right = absurd right

  -- ---- safe from the start

  module _ (from_first : (sizes : ℕ → ℕ) (n : ℕ) → Safe image start.object sizes n 0 (λ r. arg.Unknown) (start_frame Words image start)) where
    facts_first : Facts [] opening
    facts_first = record {
      sizes = λ r. 0;
      fits = λ r. tt;
      beyond = λ r more. refl;
      safe = λ others agree fuel x e.
          subst (λ (x : Alone). (x.calls ≡ 0) × ((n : ℕ) → Safe image start.object others n x.calls x.knows x.frame)) (some_is {a = first image start} {b = x} e) (refl, (λ n. from_first others n));
    }

    facts_of : (told : List Told) (a : Account) → Right image start empty told a → Facts told a
    facts_of [] a right = subst (Facts []) right facts_first
    facts_of (t ∷ before) a right = right_facts before right.a (facts_of before right.a right.was) right.stood right.halts right.stood.halt refl t a right.is

    pub strays_nowhere : StraysAsInPlace image start empty
    strays_nowhere told a stood right halts strays =
        let safely = halts_safely told a (facts_of told a right) stood halts in
        absurd (subst (λ halt. SafeHalt (facts_of told a right).sizes safely.0.calls safely.0.knows halt stood.frame) strays safely.1 0)
