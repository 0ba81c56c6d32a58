-- What more replies change of a body's yield.
use Rattle.std.proofs.Common.{◌≡◌, ◌≢◌, ◌≤◌, ◌<◌, ◌+◌, ℕ, List, Option, Some, None, refl, sym, ap, ◌∙◌, subst, arith}
use Rattle.std.specs.FinMap.{FinMap, get}
use Rattle.std.specs.Option.{option_map}
use Rattle.std.specs.Ordering.{nat_cmp}
use Rattle.mpl_value.specs.declared.body.Arg.{Arg}
use Rattle.mpl_value.specs.declared.body.Arg.TheVariants.{Know}
use Rattle.mpl_value.specs.declared.body.BodyEnd.{BodyEnd}
use Rattle.mpl_value.specs.declared.body.BodyEnd.TheVariants as end
use Rattle.mpl_value.specs.declared.body.BodyStart.{BodyStart}
use Rattle.mpl_value.specs.declared.body.Yield.{Yield}
use Rattle.mpl_value.specs.declared.known.Known.{Known}
use Rattle.mpl_value.specs.CallAnswers.{arg_of_reply}
use Rattle.mpl_value.specs.Growing.{AreAmong, Grows, Stays}
use Rattle.mdf_code.specs.declared.raw.RawImage.{RawImage}
use Rattle.mdf_code.specs.Alone.{frame_seen}
use Rattle.mdf_code.specs.Frames.{Flows}
use Rattle.mdf_code.specs.Parts.{sizes_at, variables_holding}
use Rattle.mdf_code.specs.Yields.{Ended, Yields, YieldsUnstrayed, code_of_member, formals_at, replies_of, run_of, setting_of, start_body, start_frame, yield_at}
use Rattle.mdf_code.proofs.CountedSteps.{spent_counted, within_counted}
use Rattle.mdf_code.proofs.MoreReplies.{AreTwins, KnownTwice, Meets, Tables, exec_meets, known_twice, past_meets, shown_after, shown_before, stays_same, turned}
use Rattle.mdf_code.proofs.MoreSteps.{more_turns}
use Rattle.mdf_code.proofs.SeenSteps.{IsSeen, known_words_seen}
use Rattle.mdf_code.proofs.TwoRuns.{exec_counting, spends_both}

-- ---- replies

replies_stay : (replies more : FinMap nat_cmp Known) → AreAmong replies more → (call : ℕ) → Stays (replies_of replies call) (replies_of more call)
replies_stay replies more among call = by_reply (get replies call) refl where
  by_reply : (o : Option Known) → get replies call ≡ o → Stays (arg_of_reply o) (replies_of more call)
  by_reply None is = tt
  by_reply (Some known) is = subst (λ (o : Option Known). Stays (arg_of_reply (Some known)) (arg_of_reply o)) (sym (among call known is)) (stays_same (arg_of_reply (Some known)))

abbrev tables : (n m : ℕ) → n ≤ m → (replies more : FinMap nat_cmp Known) → AreAmong replies more → Tables
tables n m less replies more among = record { n = n; m = m; less = less; knows = replies_of replies; more = replies_of more; stays = replies_stay replies more among }

-- ---- the start

start_seen : (flows : Flows KnownTwice) → IsSeen flows → (image : RawImage) (start : BodyStart) → frame_seen flows.see (start_frame flows.known image start) ≡ start_frame Know image start
start_seen flows is image start =
    ap (λ (variables : List Arg). record (start_frame Know image start) { variables = variables })
    (known_words_seen flows is (variables_holding (formals_at image start.member) (sizes_at image (code_of_member start.member)) start.args))

start_twins : (n m : ℕ) (image : RawImage) (start : BodyStart) → AreTwins n m (start_body image start 0) (start_body image start 0)
start_twins n m image start = record {
  frame = start_frame known_twice image start;
  first = start_seen shown_before (λ words. refl) image start;
  second = start_seen shown_after (λ words. refl) image start;
  calls = tt;
  creations = refl;
  result = refl;
  unset = λ _. refl;
  within = omega arith;
  within_more = omega arith;
  fewer = omega arith;
}

run_meets : (t : Tables) (k l : ℕ) (image : RawImage) (start : BodyStart) (e f : Ended) → run_of k (setting_of image start t.knows t.n) start ≡ Some e → run_of l (setting_of image start t.more t.m) start ≡ Some f → Meets e f
run_meets t k l image start e f h g =
    spends_both t.n t.m t.less (setting_of image start t.knows t.n) (setting_of image start t.more t.m) (start_body image start 0) (start_body image start 0) e f _ _
    (exec_counting t.n k (setting_of image start t.knows t.n)) (exec_counting t.m l (setting_of image start t.more t.m)) (omega arith) (omega arith) (omega arith)
    (λ one two i j. exec_meets t k l (setting_of image start t.knows t.n) _ _ e f (turned 1 1 (start_twins t.n t.m image start) one two (omega arith)) i j) (past_meets e f) h g

-- ---- yields

-- what a run came to
record CameTo (o : Option Ended) (y : Yield) : Type 0 where
  ended : Ended
  ran : o ≡ Some ended
  is : yield_at ended ≡ y

came_to : (o : Option Ended) (y : Yield) → option_map yield_at o ≡ Some y → CameTo o y
came_to None y h = absurd (cc h)
came_to (Some e) y h = record { ended = e; ran = refl; is = some_is (yield_at e) y h } where
  some_is : (a b : Yield) → Some a ≡ Some b → a ≡ b
  some_is a b h = cc h

-- with more replies, and no smaller allowance, it takes no fewer turns
no_fewer : (n m : ℕ) → n ≤ m → (image : RawImage) (start : BodyStart) (replies more : FinMap nat_cmp Known) (y z : Yield) → AreAmong replies more → Yields image start replies n y → Yields image start more m z → y.turns ≤ z.turns
no_fewer n m less image start replies more y z among first second =
    let one = came_to (run_of first.steps (setting_of image start (replies_of replies) n) start) y first.within in
    let two = came_to (run_of second.steps (setting_of image start (replies_of more) m) start) z second.within in
    let meets = run_meets (tables n m less replies more among) first.steps second.steps image start one.ended two.ended one.ran two.ran in
    subst (λ (x : Yield). x.turns ≤ z.turns) one.is (subst (λ (x : Yield). one.ended.body.turns ≤ x.turns) two.is meets.turns)

pub beyond : (image : RawImage) (start : BodyStart) (replies more : FinMap nat_cmp Known) (n m : ℕ) (y z : Yield) → AreAmong replies more → n ≤ m → Yields image start replies n y → Yields image start more m z → y.end ≡ end.Spent → n < z.turns
beyond image start replies more n m y z among less first second spent =
    let turns = no_fewer n m less image start replies more y z among first second in
    let counted = spent_counted image start replies n y first spent in
    omega (arith, turns, counted)

pub stays_spent : (image : RawImage) (start : BodyStart) (replies more : FinMap nat_cmp Known) (n : ℕ) (y z : Yield) → AreAmong replies more → Yields image start replies n y → Yields image start more n z → y.end ≡ end.Spent → z.end ≡ end.Spent
stays_spent image start replies more n y z among first second spent = by_end z.end refl where
  within : (x : BodyEnd) → z.end ≡ x → (x ≢ end.Spent) → z.end ≡ end.Spent
  within x is not_spent =
      let turns = beyond image start replies more n n y z among (omega arith) first second spent in
      let most = within_counted image start more n z second (λ other. not_spent (sym is ∙ other)) in
      absurd (omega (arith, turns, most))

  by_end : (x : BodyEnd) → z.end ≡ x → z.end ≡ end.Spent
  by_end end.Done is = within end.Done is (λ h. absurd (cc h))
  by_end (end.Trap t) is = within (end.Trap t) is (λ h. absurd (cc h))
  by_end end.Waits is = within end.Waits is (λ h. absurd (cc h))
  by_end end.Spent is = is

pub unstrayed_yields : (image : RawImage) (start : BodyStart) (replies : FinMap nat_cmp Known) (n : ℕ) (y : Yield) → YieldsUnstrayed image start replies n y → Yields image start replies n y
unstrayed_yields image start replies n y first = record { steps = first.steps; within = ap (option_map yield_at) first.within ∙ ap (λ (x : Yield). Some x) first.is }

pub only_adds : (image : RawImage) (start : BodyStart) (replies more : FinMap nat_cmp Known) (n m : ℕ) (y z : Yield) → AreAmong replies more → YieldsUnstrayed image start replies n y → Yields image start more m z →
    y.end ≢ end.Spent → z.end ≢ end.Spent → Grows y z
only_adds image start replies more n m y z among first second not_spent not_spent_more =
    let longer : Yields image start more (n + m) z = more_turns image start more m (n + m) z second not_spent_more (omega arith) in
    let two = came_to (run_of longer.steps (setting_of image start (replies_of more) (n + m)) start) z longer.within in
    let meets = run_meets (tables n (n + m) (omega arith) replies more among) first.steps longer.steps image start first.ended two.ended first.within two.ran in
    subst (λ (x : Yield). Grows x z) first.is (subst (Grows (yield_at first.ended)) two.is
    (meets.grows (λ spent. not_spent (sym (ap (λ (x : Yield). x.end) first.is) ∙ spent)) (λ spent. not_spent_more (sym (ap (λ (x : Yield). x.end) two.is) ∙ spent)) first.unstrayed))
