-- A frame alone on its way from one halt to the next, beside its body in place.
use Rattle.std.proofs.Common.{◌≡◌, ◌<◌, ◌+◌, ◌==◌, ℕ, suc, Bool, true, false, cond, List, [], ◌∷◌, map, Option, Some, None, ℤ, refl, sym, ap, ap₂, ◌∙◌, subst, arith, eq-eqb}
use Rattle.std.proofs.lemmas.Bool.{eqb-true, ne_eqb}
use Rattle.std.specs.List.{AllByRecursion}
use Rattle.mpl_value.specs.declared.body.Arg.{Arg}
use Rattle.mpl_value.specs.declared.body.Arg.TheVariants.{Unknown}
use Rattle.mpl_value.specs.declared.body.BodyStart.{BodyStart}
use Rattle.mpl_value.specs.declared.body.CallMade.{CallMade}
use Rattle.mpl_value.specs.declared.known.Known.{Known}
use Rattle.mpl_value.specs.CallAnswers.{arg_of_reply}
use Rattle.mpl_value.specs.Growing.{Stays}
use Rattle.mdf_code.specs.declared.raw.RawImage.{RawImage}
use Rattle.mdf_code.specs.Alone.{Held, Words, Pending, StaysUnlessUnknown, caller_seen, flows_seen, frame_seen, framed, next_seen, seen_by, values_seen}
use Rattle.mdf_code.specs.Frames.{Caller, Code, Flow, Frame, Next, Goes, Spends, Stops, Stop, Calls, Creates, Ends, Needs, Replies, Strays, Traps}
use Rattle.mdf_code.specs.Parts.{sizes_at, variables_holding}
use Rattle.mdf_code.specs.Right.{Account, opening, with_answer, with_turns}
use Rattle.mdf_code.specs.Stacks.{given}
use Rattle.mdf_code.specs.Steps.{step}
use Rattle.mdf_code.specs.Told.{Alone, Beats, Called, Halt, HaltsNext, IsMade, Learnt, Stands, Stood, Told, after, around_start, behind, first, learns, most_turns, run, runs_on, told_at}
use Rattle.mdf_code.specs.Yields.{Body, answered, code_of_member, formals_at, in_place, start_frame}
use Rattle.mdf_code.proofs.HeldSteps.{FrameHas, NextHas, PlaceHas, StopHas, step_has}
use Rattle.mdf_code.proofs.MoreKnown.{more_known}
use Rattle.mdf_code.proofs.MoreReplies.{stays_same}
use Rattle.mdf_code.proofs.NeedingSteps.{StopsHere, stops_here}
use Rattle.mdf_code.proofs.OneHalt.{behind_kept, runs_on_kept}
use Rattle.mdf_code.proofs.SeenSteps.{framed_seen}
use Rattle.mdf_code.proofs.ToldFrames.{all_words, frame_more, kept, one_more_made, own_code}

-- ---- seen the same

abbrev SeenAlike : (Held → Arg) → (Held → Arg) → (Held → Type 0) → Type 0
SeenAlike see more P = (value : Held) → P value → see value ≡ more value

values_again : (see more : Held → Arg) (P : Held → Type 0) → SeenAlike see more P → (values : List Held) → AllByRecursion P values → values_seen see values ≡ values_seen more values
values_again see more P alike [] has = refl
values_again see more P alike (value ∷ values) has = ap₂ (λ (a : Arg) (others : List Arg). a ∷ others) (alike value has.0) (values_again see more P alike values has.1)

flows_again : (see more : Held → Arg) (P : Held → Type 0) → SeenAlike see more P → (flows : List (Flow Held)) → AllByRecursion (λ (flow : Flow Held). P flow.value) flows → flows_seen see flows ≡ flows_seen more flows
flows_again see more P alike [] has = refl
flows_again see more P alike (flow ∷ flows) has =
    ap₂ (λ (a : Arg) (others : List (Flow Arg)). record { value = a; words = flow.words } ∷ others) (alike flow.value has.0) (flows_again see more P alike flows has.1)

caller_again : (see more : Held → Arg) (P : Held → Type 0) → SeenAlike see more P → (c : Caller Held) → AllByRecursion P c.variables → AllByRecursion (λ (flow : Flow Held). P flow.value) c.flows → caller_seen see c ≡ caller_seen more c
caller_again see more P alike c variables flows =
    ap₂ (λ (seen : List (Flow Arg)) (values : List Arg). record (caller_seen see c) { flows = seen; variables = values }) (flows_again see more P alike c.flows flows) (values_again see more P alike c.variables variables)

callers_again : (see more : Held → Arg) (P : Held → Type 0) → SeenAlike see more P → (base : Code) (callers : List (Caller Held)) → AllByRecursion (λ (c : Caller Held). PlaceHas P base c.code c.variables c.flows) callers →
    map (caller_seen see) callers ≡ map (caller_seen more) callers
callers_again see more P alike base [] has = refl
callers_again see more P alike base (c ∷ callers) has =
    ap₂ (λ (a : Caller Arg) (others : List (Caller Arg)). a ∷ others) (caller_again see more P alike c has.0.variables has.0.flows) (callers_again see more P alike base callers has.1)

pub frame_again : (see more : Held → Arg) (P : Held → Type 0) → SeenAlike see more P → (base : Code) (f : Frame Held) → FrameHas P base f → frame_seen see f ≡ frame_seen more f
frame_again see more P alike base f has =
    ap₂ (λ (seen : List (Flow Arg)) (values : List Arg). record (frame_seen see f) { flows = seen; variables = values }) (flows_again see more P alike f.flows has.here.flows)
    (values_again see more P alike f.variables has.here.variables)
    ∙ ap (λ (callers : List (Caller Arg)). record (frame_seen more f) { callers = callers }) (callers_again see more P alike base f.callers has.callers)

-- to learn the result of one call more changes nothing of those made before
learns_others : (sent : ℕ) (value : Arg) (knows : ℕ → Arg) → SeenAlike (seen_by knows) (seen_by (learns (sent + 1) value knows)) (IsMade sent)
learns_others sent value knows (Words words) made = refl
learns_others sent value knows (Pending result) made =
    sym (ap (λ (t : Bool). cond t value (knows result)) (ne_eqb result (sent + 1) (λ is. let below = made.1 in absurd (omega (arith, is, below)))))

pub learns_it : (result : ℕ) (value : Arg) (knows : ℕ → Arg) → learns result value knows result ≡ value
learns_it result value knows = ap (λ (t : Bool). cond t value (knows result)) (eq-eqb result result refl)

-- the frame that goes on with the answer of a call, as it is seen
pub answer_seen : (image : RawImage) (member sent calls : ℕ) (value : Arg) (knows : ℕ → Arg) (base : Code) (f : Frame Held) → calls ≡ sent → FrameHas (IsMade sent) base f →
    frame_seen (seen_by (learns (sent + 1) value knows)) (answered image member (Pending (calls + 1)) f) ≡ answered image member value (frame_seen (seen_by knows) f)
answer_seen image member sent calls value knows base f is has =
    ap₂ (λ (a : Arg) (g : Frame Arg). answered image member a g) (ap (λ (n : ℕ). learns (sent + 1) value knows (n + 1)) is ∙ learns_it (sent + 1) value knows)
    (sym (frame_again (seen_by knows) (seen_by (learns (sent + 1) value knows)) (IsMade sent) (learns_others sent value knows) base f has))

-- ---- on the way

-- A frame alone that is on its way after it was told so: it knows no more than the answers of its body's calls, and names
-- the results of these alone.
pub record Midway (image : RawImage) (start : BodyStart) (told : List Told) (a : Account) (turns : ℕ) (f : Frame Held) : Type 0 where
  pub alone : Alone
  pub fuel : ℕ
  pub is_behind : behind fuel image start told ≡ Some alone
  pub made : alone.calls ≡ a.sent
  pub less : (result : ℕ) → Stays (alone.knows result) (a.answers result)
  pub unmade : (result : ℕ) → a.sent < result → alone.knows result ≡ Unknown
  pub leads : (steps : ℕ) (stood : Stood) → run steps alone.knows (around_start image start) most_turns turns f ≡ Some stood → (more : ℕ) × (runs_on more image start alone ≡ Some stood)
  pub has : FrameHas (IsMade a.sent) (code_of_member start.member) f

abbrev HaltHas : RawImage → BodyStart → Account → Halt → Type 0
HaltHas image start a (Stands stop) = StopHas (IsMade a.sent) image (code_of_member start.member) stop
HaltHas image start a Beats = Unit {0}

-- a frame alone at a halt
pub record Halted (image : RawImage) (start : BodyStart) (told : List Told) (a : Account) (stood : Stood) : Type 0 where
  pub alone : Alone
  pub fuel : ℕ
  pub is_behind : behind fuel image start told ≡ Some alone
  pub runs : runs_on fuel image start alone ≡ Some stood
  pub made : alone.calls ≡ a.sent
  pub less : (result : ℕ) → Stays (alone.knows result) (a.answers result)
  pub unmade : (result : ℕ) → a.sent < result → alone.knows result ≡ Unknown
  pub has : FrameHas (IsMade a.sent) (code_of_member start.member) stood.frame
  pub names : HaltHas image start a stood.halt

pub halts_next : (image : RawImage) (start : BodyStart) (told : List Told) (a : Account) (stood : Stood) → Halted image start told a stood → HaltsNext image start told stood
halts_next image start told a stood h = record { steps = h.fuel; within = ap (λ (o : Option Alone). given o (runs_on h.fuel image start)) h.is_behind ∙ h.runs }

abbrev pub begins : (image : RawImage) (start : BodyStart) → Midway image start [] opening 0 (start_frame Words image start)
begins image start = record {
  alone = first image start;
  fuel = 0;
  is_behind = refl;
  made = refl;
  less = λ _. tt;
  unmade = λ _ _. refl;
  leads = λ steps stood h. (steps, h);
  has = record {
    here = record {
      is_of = own_code start.member;
      variables = all_words 0 (variables_holding (formals_at image start.member) (sizes_at image (code_of_member start.member)) start.args);
      flows = tt;
    };
    callers = tt;
  };
}

pub next_has : (image : RawImage) (start : BodyStart) (told : List Told) (a : Account) (turns : ℕ) (f : Frame Held) (m : Midway image start told a turns f) (next : Next Held) →
    step (framed m.alone.knows) (around_start image start) f ≡ next → NextHas (IsMade a.sent) image (code_of_member start.member) next
next_has image start told a turns f m next is =
    subst (NextHas (IsMade a.sent) image (code_of_member start.member)) is (step_has (kept m.alone.knows (around_start image start) (code_of_member start.member) a.sent) f m.has)

abbrev pub goes_midway : (image : RawImage) (start : BodyStart) (told : List Told) (a : Account) (turns : ℕ) (f : Frame Held) (m : Midway image start told a turns f) (g : Frame Held) →
    step (framed m.alone.knows) (around_start image start) f ≡ Goes g → Midway image start told a turns g
goes_midway image start told a turns f m g is = record {
  alone = m.alone;
  fuel = m.fuel;
  is_behind = m.is_behind;
  made = m.made;
  less = m.less;
  unmade = m.unmade;
  leads = λ steps stood h. m.leads (suc steps) stood (ap (after (run steps m.alone.knows (around_start image start) most_turns) most_turns turns) is ∙ h);
  has = next_has image start told a turns f m (Goes g) is;
}

abbrev pub spends_midway : (image : RawImage) (start : BodyStart) (told : List Told) (a : Account) (turns : ℕ) (f : Frame Held) (m : Midway image start told a turns f) (g : Frame Held) →
    step (framed m.alone.knows) (around_start image start) f ≡ Spends g → turns + 1 == most_turns ≡ false → Midway image start told a (turns + 1) g
spends_midway image start told a turns f m g is test = record {
  alone = m.alone;
  fuel = m.fuel;
  is_behind = m.is_behind;
  made = m.made;
  less = m.less;
  unmade = m.unmade;
  leads = λ steps stood h. m.leads (suc steps) stood (ap (after (run steps m.alone.knows (around_start image start) most_turns) most_turns turns) is
      ∙ (ap (λ (t : Bool). cond t (Some (record { halt = Beats; turns = turns + 1; frame = g })) (run steps m.alone.knows (around_start image start) most_turns (turns + 1) g)) test ∙ h));
  has = next_has image start told a turns f m (Spends g) is;
}

-- a run of one step that halts
halts_at : (image : RawImage) (start : BodyStart) (told : List Told) (a : Account) (turns : ℕ) (f : Frame Held) (m : Midway image start told a turns f) (stood : Stood) →
    run 1 m.alone.knows (around_start image start) most_turns turns f ≡ Some stood → FrameHas (IsMade a.sent) (code_of_member start.member) stood.frame → HaltHas image start a stood.halt → Halted image start told a stood
halts_at image start told a turns f m stood h has names =
    let led = m.leads 1 stood h in
    record {
      alone = m.alone;
      fuel = m.fuel + led.0;
      is_behind = behind_kept m.fuel (m.fuel + led.0) (omega arith) image start told m.alone m.is_behind;
      runs = runs_on_kept led.0 (m.fuel + led.0) (omega arith) image start m.alone stood led.1;
      made = m.made;
      less = m.less;
      unmade = m.unmade;
      has = has;
      names = names;
    }

pub stops_midway : (image : RawImage) (start : BodyStart) (told : List Told) (a : Account) (turns : ℕ) (f : Frame Held) (m : Midway image start told a turns f) (stop : Stop Held) (g : Frame Held) →
    step (framed m.alone.knows) (around_start image start) f ≡ Stops stop g → Halted image start told a (record { halt = Stands stop; turns = turns; frame = g })
stops_midway image start told a turns f m stop g is =
    let has = next_has image start told a turns f m (Stops stop g) is in
    halts_at image start told a turns f m (record { halt = Stands stop; turns = turns; frame = g })
    (ap (after (λ _ _. None) most_turns turns) is) has.0 has.1

pub beats_midway : (image : RawImage) (start : BodyStart) (told : List Told) (a : Account) (turns : ℕ) (f : Frame Held) (m : Midway image start told a turns f) (g : Frame Held) →
    step (framed m.alone.knows) (around_start image start) f ≡ Spends g → turns + 1 == most_turns ≡ true → Halted image start told a (record { halt = Beats; turns = turns + 1; frame = g })
beats_midway image start told a turns f m g is test =
    halts_at image start told a turns f m (record { halt = Beats; turns = turns + 1; frame = g })
    (ap (after (λ _ _. None) most_turns turns) is ∙ ap (λ (t : Bool). cond t (Some (record { halt = Beats; turns = turns + 1; frame = g })) None) test)
    (next_has image start told a turns f m (Spends g) is) tt

-- ---- behind one more thing told

abbrev pub tells : (image : RawImage) (start : BodyStart) (told : List Told) (a : Account) (stood : Stood) (h : Halted image start told a stood) (t : Told) (b : Account) (next : Alone) →
    told_at image h.alone stood.frame stood.halt t ≡ Some next → next.calls ≡ b.sent → ((result : ℕ) → Stays (next.knows result) (b.answers result)) → ((result : ℕ) → b.sent < result → next.knows result ≡ Unknown) →
    FrameHas (IsMade b.sent) (code_of_member start.member) next.frame → Midway image start (t ∷ told) b 0 next.frame
tells image start told a stood h t b next is made less unmade has = record {
  alone = next;
  fuel = h.fuel;
  is_behind =
      ap (λ (o : Option Alone). given o (λ alone. given (runs_on h.fuel image start alone) (λ stood. told_at image alone stood.frame stood.halt t))) h.is_behind
      ∙ (ap (λ (o : Option Stood). given o (λ stood. told_at image h.alone stood.frame stood.halt t)) h.runs ∙ is);
  made = made;
  less = less;
  unmade = unmade;
  leads = λ steps stood g. (steps, g);
  has = has;
}

pub unknown_stays : (a b : Arg) → a ≡ Unknown → Stays a b
unknown_stays a b is = subst (λ (c : Arg). Stays c b) (sym is) tt

pub learnt_stays : (result : ℕ) (value : Arg) (knows answers : ℕ → Arg) → answers result ≡ value → ((other : ℕ) → Stays (knows other) (answers other)) → (other : ℕ) → Stays (learns result value knows other) (answers other)
learnt_stays result value knows answers is less other = by_test (other == result) refl where
  by_test : (t : Bool) → other == result ≡ t → Stays (cond t value (knows other)) (answers other)
  by_test true same = subst (Stays value) (sym (ap answers (eqb-true other result same) ∙ is)) (stays_same value)
  by_test false same = less other

pub learnt_unmade : (result sent : ℕ) (value : Arg) (knows : ℕ → Arg) → ((other : ℕ) → sent < other → knows other ≡ Unknown) → IsMade sent (Pending result) → (other : ℕ) → sent < other → learns result value knows other ≡ Unknown
learnt_unmade result sent value knows unmade made other above = by_test (other == result) refl where
  by_test : (t : Bool) → other == result ≡ t → cond t value (knows other) ≡ Unknown
  by_test true same = let is_result = eqb-true other result same in let below = made.1 in absurd (omega (arith, is_result, below, above))
  by_test false same = unmade other above

pub called_stays : (sent : ℕ) (value : Arg) (knows answers : ℕ → Arg) → ((other : ℕ) → Stays (knows other) (answers other)) → ((other : ℕ) → sent < other → knows other ≡ Unknown) →
    (result : ℕ) → Stays (knows result) (learns (sent + 1) value answers result)
called_stays sent value knows answers less unmade result = by_test (result == sent + 1) refl where
  by_test : (t : Bool) → result == sent + 1 ≡ t → Stays (knows result) (cond t value (answers result))
  by_test true is = unknown_stays (knows result) value (unmade result (let same = eqb-true result (sent + 1) is in omega (arith, same)))
  by_test false is = less result

pub called_has : (image : RawImage) (base : Code) (sent calls member : ℕ) (g : Frame Held) → calls ≡ sent → FrameHas (IsMade sent) base g → FrameHas (IsMade (sent + 1)) base (answered image member (Pending (calls + 1)) g)
called_has image base sent calls member g made has =
    let more = frame_more (IsMade sent) (IsMade (sent + 1)) base g (one_more_made sent) has in
    record {
      here = record { is_of = more.here.is_of; variables = more.here.variables; flows = ((omega arith, omega (arith, made)), more.here.flows) };
      callers = more.callers;
    }

-- behind a call, by an account with its answer
abbrev pub called_midway : (image : RawImage) (start : BodyStart) (told : List Told) (a : Account) (member : ℕ) (object : ℤ) (arguments : List Held) (turns : ℕ) (g : Frame Held)
    (h : Halted image start told a (record { halt = Stands (Calls member object arguments); turns = turns; frame = g })) (calls : List CallMade) (all : ℕ) (value : Arg) →
    Midway image start (Called ∷ told) (with_answer value (record a { calls = calls; turns = all })) 0 (answered image member (Pending (h.alone.calls + 1)) g)
called_midway image start told a member object arguments turns g h calls all value =
    tells image start told a (record { halt = Stands (Calls member object arguments); turns = turns; frame = g }) h Called (with_answer value (record a { calls = calls; turns = all }))
    (record h.alone { frame = answered image member (Pending (h.alone.calls + 1)) g; calls = h.alone.calls + 1 }) refl (ap (λ (n : ℕ). n + 1) h.made)
    (called_stays a.sent value h.alone.knows a.answers h.less h.unmade) (λ result above. h.unmade result (omega (arith, above)))
    (called_has image (code_of_member start.member) a.sent h.alone.calls member g h.made h.has)

-- behind a need, with what the body knows of the result
abbrev pub learnt_midway : (image : RawImage) (start : BodyStart) (told : List Told) (a : Account) (result turns : ℕ) (g : Frame Held) (h : Halted image start told a (record { halt = Stands (Needs (Pending result)); turns = turns; frame = g }))
    (known : Known) → a.answers result ≡ arg_of_reply (Some known) → Midway image start (Learnt known ∷ told) (with_turns turns a) 0 g
learnt_midway image start told a result turns g h known is =
    tells image start told a (record { halt = Stands (Needs (Pending result)); turns = turns; frame = g }) h (Learnt known) (with_turns turns a)
    (record h.alone { frame = g; knows = learns result (arg_of_reply (Some known)) h.alone.knows }) refl h.made
    (learnt_stays result (arg_of_reply (Some known)) h.alone.knows a.answers is h.less) (learnt_unmade result a.sent (arg_of_reply (Some known)) h.alone.knows h.unmade h.names) h.has

-- ---- the step in place

-- a step that needs nothing and doesn't stray
abbrev pub IsSure : Next Held → Type 0
IsSure (Stops (Needs value) f) = ⊥
IsSure (Stops Strays f) = ⊥
IsSure next = Unit {0}

stays_sure : (see : Held → Arg) (next later : Next Held) → IsSure next → StaysUnlessUnknown see next later → next ≡ later
stays_sure see (Goes f) later sure stays = stays
stays_sure see (Spends f) later sure stays = stays
stays_sure see (Stops (Calls member object arguments) f) later sure stays = stays
stays_sure see (Stops (Needs value) f) later sure stays = absurd sure
stays_sure see (Stops (Replies value) f) later sure stays = stays
stays_sure see (Stops (Creates class) f) later sure stays = stays
stays_sure see (Stops (Ends line) f) later sure stays = stays
stays_sure see (Stops Strays f) later sure stays = absurd sure
stays_sure see (Stops (Traps trap) f) later sure stays = stays

-- with all answers known
full_next : (image : RawImage) (start : BodyStart) (told : List Told) (a : Account) (turns : ℕ) (f : Frame Held) (m : Midway image start told a turns f) (next : Next Held) →
    next ≡ step (framed a.answers) (around_start image start) f → step in_place (around_start image start) (frame_seen (seen_by a.answers) f) ≡ next_seen (seen_by a.answers) next
full_next image start told a turns f m next is = sym (ap (next_seen (seen_by a.answers)) is ∙ framed_seen a.answers (around_start image start) f)

pub sure_next : (image : RawImage) (start : BodyStart) (told : List Told) (a : Account) (turns : ℕ) (f : Frame Held) (m : Midway image start told a turns f) (next : Next Held) →
    step (framed m.alone.knows) (around_start image start) f ≡ next → IsSure next → step in_place (around_start image start) (frame_seen (seen_by a.answers) f) ≡ next_seen (seen_by a.answers) next
sure_next image start told a turns f m next is sure =
    full_next image start told a turns f m next (stays_sure (seen_by m.alone.knows) next (step (framed a.answers) (around_start image start) f) sure
    (subst (λ (other : Next Held). StaysUnlessUnknown (seen_by m.alone.knows) other (step (framed a.answers) (around_start image start) f)) is
    (more_known m.alone.knows a.answers m.less (around_start image start) f)))

-- what is said of the step beside one that knows more
pub fair_next : (image : RawImage) (start : BodyStart) (told : List Told) (a : Account) (turns : ℕ) (f : Frame Held) (m : Midway image start told a turns f) (more : ℕ → Arg) (next : Next Held) →
    step (framed m.alone.knows) (around_start image start) f ≡ next → StopsHere (seen_by m.alone.knows) (seen_by more) f next (step (framed more) (around_start image start) f)
fair_next image start told a turns f m more next is =
    subst (λ (other : Next Held). StopsHere (seen_by m.alone.knows) (seen_by more) f other (step (framed more) (around_start image start) f)) is
    (stops_here (framed m.alone.knows) (seen_by more) (around_start image start) f)

-- a need of what isn't known to the body either
pub needing_next : (image : RawImage) (start : BodyStart) (told : List Told) (a : Account) (turns : ℕ) (f : Frame Held) (m : Midway image start told a turns f) (value : Held) (g : Frame Held) →
    step (framed m.alone.knows) (around_start image start) f ≡ Stops (Needs value) g → seen_by a.answers value ≡ Unknown →
    step in_place (around_start image start) (frame_seen (seen_by a.answers) f) ≡ Stops (Needs (seen_by a.answers value)) (frame_seen (seen_by a.answers) g)
needing_next image start told a turns f m value g is unknown =
    full_next image start told a turns f m (Stops (Needs value) g) ((fair_next image start told a turns f m a.answers (Stops (Needs value) g) is).still unknown)

-- ---- the body in place

abbrev pub body_of : Account → ℕ → Frame Held → Body
body_of a turns f = record {
  frame = frame_seen (seen_by a.answers) f;
  sent = a.sent;
  calls = a.calls;
  creations = a.creations;
  result = a.result;
  turns = turns;
  strayed = false;
}
