-- A frame alone that is told one thing more, and a body in place that comes to where the frame is.
use Rattle.std.proofs.Common.{◌≡◌, ◌≤◌, ◌+◌, ◌==◌, ℕ, zero, suc, Bool, true, false, cond, List, [], ◌∷◌, map, length, Option, Some, None, ℤ, refl, sym, ap, ◌∙◌, arith}
use Rattle.mpl_value.specs.declared.body.Arg.{Arg}
use Rattle.mpl_value.specs.declared.body.Arg.TheVariants.{Know, Unknown}
use Rattle.mpl_value.specs.declared.body.BodyStart.{BodyStart}
use Rattle.mpl_value.specs.declared.body.CallMade.{CallMade}
use Rattle.mpl_value.specs.declared.known.Known.{Known}
use Rattle.mpl_value.specs.CallAnswers.{arg_of_reply}
use Rattle.mpl_value.specs.Results.{result_of}
use Rattle.mpl_value.specs.Words.{object_word}
use Rattle.mdf_code.specs.declared.raw.RawImage.{RawImage}
use Rattle.mdf_code.specs.Alone.{Held, Words, Pending, framed, next_seen, seen_by, values_seen}
use Rattle.mdf_code.specs.Frames.{Around, Frame, Next, Goes, Spends, Stops, Calls, Creates, Needs, Replies}
use Rattle.mdf_code.specs.Parts.{sizes_at, variables_holding}
use Rattle.mdf_code.specs.Right.{Account, opening, with_answer, with_creation, with_turns}
use Rattle.mdf_code.specs.Stacks.{given}
use Rattle.mdf_code.specs.Steps.{step}
use Rattle.mdf_code.specs.Told.{Alone, Beaten, Beats, Called, Gave, HaltsNext, Learnt, Named, Stands, Stood, Told, after, around_start, behind, most_turns, run, runs_on}
use Rattle.mdf_code.specs.Yields.{Body, Ended, Setting, act, answered, calls, code_of_member, creates, exec, formals_at, goes_on_answered, named, run_of, setting_of, start_body, start_frame}
use Rattle.mdf_code.proofs.Midway.{Midway, IsSure, answer_seen, beats_midway, begins, body_of, called_midway, fair_next, goes_midway, learnt_midway, spends_midway, stops_midway, sure_next, tells}
use Rattle.mdf_code.proofs.OneHalt.{behind_kept}
use Rattle.mdf_code.proofs.OwnRuns.{goes_spends}
use Rattle.mdf_code.proofs.SeenSteps.{known_words_seen}

-- a body with the replies to its calls, the answers that it is given where it runs alone, and an allowance
pub record Given : Type 0 where
  pub image : RawImage
  pub start : BodyStart
  pub replies : ℕ → Arg
  pub answers : Option (ℕ → Arg)
  pub n : ℕ

abbrev pub setting : Given → Setting
setting g = record (setting_of g.image g.start g.replies g.n) { answers = g.answers }

abbrev pub world : Given → Around
world g = around_start g.image g.start

-- where the body in place comes to from here, it comes to from its start
abbrev pub Leads : Given → Body → Type 0
Leads g b = (k : ℕ) (e : Ended) → exec k (setting g) b ≡ Some e → (m : ℕ) × (run_of m (setting g) g.start ≡ Some e)

-- a frame alone that goes on behind what it was told, to which the body in place comes within its allowance
pub record Came (g : Given) (told : List Told) (a : Account) : Type 0 where
  pub f : Frame Held
  pub midway : Midway g.image g.start told a 0 f
  pub starts : midway.alone.frame ≡ f
  pub leads : a.turns ≤ g.n → Leads g (body_of a a.turns f)

-- a frame alone before the step that halts
pub record AtLast (g : Given) (told : List Told) (a : Account) (stood : Stood) : Type 0 where
  pub turns : ℕ
  pub f : Frame Held
  pub midway : Midway g.image g.start told a turns f
  pub leads : a.turns + turns ≤ g.n → Leads g (body_of a (a.turns + turns) f)
  pub last : after (λ _ _. None) most_turns turns (step (framed midway.alone.knows) (world g) f) ≡ Some stood

-- ---- from one halt to the next

-- a step of the frame that is sure is the body's
pub acted : (g : Given) (told : List Told) (a : Account) (turns all : ℕ) (f : Frame Held) (m : Midway g.image g.start told a turns f) (next : Next Held) → step (framed m.alone.knows) (world g) f ≡ next → IsSure next →
    (k : ℕ) → exec (suc k) (setting g) (body_of a all f) ≡ act (exec k) (setting g) (body_of a all f) (next_seen (seen_by a.answers) next)
acted g told a turns all f m next is sure k = ap (act (exec k) (setting g) (body_of a all f)) (sure_next g.image g.start told a turns f m next is sure)

abbrev pub AllLast : Given → List Told → Account → Stood → ℕ → Type 0
AllLast g told a stood l = (turns : ℕ) (f : Frame Held) (m : Midway g.image g.start told a turns f) → (a.turns + turns ≤ g.n → Leads g (body_of a (a.turns + turns) f)) →
    run l m.alone.knows (world g) most_turns turns f ≡ Some stood → AtLast g told a stood

pub last_of : (g : Given) (told : List Told) (a : Account) (stood : Stood) (l : ℕ) → AllLast g told a stood l
last_of g told a stood zero turns f m leads h = absurd (cc h)
last_of g told a stood (suc l) turns f m leads h = by_next (last_of g told a stood l) (step (framed m.alone.knows) (world g) f) refl h where
  on_spent : AllLast g told a stood l → (h : Frame Held) → step (framed m.alone.knows) (world g) f ≡ Spends h → (t : Bool) → turns + 1 == most_turns ≡ t →
      cond t (Some (record { halt = Beats; turns = turns + 1; frame = h })) (run l m.alone.knows (world g) most_turns (turns + 1) h) ≡ Some stood → AtLast g told a stood
  on_spent again h is true test j = record {
    turns = turns;
    f = f;
    midway = m;
    leads = leads;
    last = ap (after (λ _ _. None) most_turns turns) is ∙ (ap (λ (t : Bool). cond t (Some (record { halt = Beats; turns = turns + 1; frame = h })) None) test ∙ j);
  }
  on_spent again h is false test j =
      again (turns + 1) h (spends_midway g.image g.start told a turns f m h is test)
      (λ within k e i. leads (omega (arith, within)) (suc k) e
      (acted g told a turns (a.turns + turns) f m (Spends h) is tt k
      ∙ (goes_spends g.n (setting g) (body_of a (a.turns + turns) h) (exec k (setting g)) (omega (arith, within))
      ∙ (ap (λ (all : ℕ). exec k (setting g) (body_of a all h)) (omega arith) ∙ i)))) j

  by_next : AllLast g told a stood l → (next : Next Held) → step (framed m.alone.knows) (world g) f ≡ next → after (run l m.alone.knows (world g) most_turns) most_turns turns next ≡ Some stood → AtLast g told a stood
  by_next again (Goes h) is j =
      again turns h (goes_midway g.image g.start told a turns f m h is)
      (λ within k e i. leads within (suc k) e (acted g told a turns (a.turns + turns) f m (Goes h) is tt k ∙ i)) j
  by_next again (Spends h) is j = on_spent again h is (turns + 1 == most_turns) refl j
  by_next again (Stops stop h) is j = record { turns = turns; f = f; midway = m; leads = leads; last = ap (after (λ _ _. None) most_turns turns) is ∙ j }

-- the run from a halt to the next, of the frame alone that came there
halts_from : (g : Given) (told : List Told) (a : Account) (c : Came g told a) (stood : Stood) → HaltsNext g.image g.start told stood → (l : ℕ) × (run l c.midway.alone.knows (world g) most_turns 0 c.f ≡ Some stood)
halts_from g told a c stood halts = by_behind (behind halts.steps g.image g.start told) refl halts.within where
  some_is : (x y : Alone) → Some x ≡ Some y → x ≡ y
  some_is x y h = cc h

  by_behind : (o : Option Alone) → behind halts.steps g.image g.start told ≡ o → given o (runs_on halts.steps g.image g.start) ≡ Some stood → (l : ℕ) × (run l c.midway.alone.knows (world g) most_turns 0 c.f ≡ Some stood)
  by_behind None is h = absurd (cc h)
  by_behind (Some x) is h =
      let same : x ≡ c.midway.alone = some_is x c.midway.alone
      (sym (behind_kept halts.steps (halts.steps + c.midway.fuel) (omega arith) g.image g.start told x is)
      ∙ behind_kept c.midway.fuel (halts.steps + c.midway.fuel) (omega arith) g.image g.start told c.midway.alone c.midway.is_behind) in (
        halts.steps,
        ap (λ (f : Frame Held). run halts.steps c.midway.alone.knows (world g) most_turns 0 f) (sym c.starts)
            ∙ (ap (runs_on halts.steps g.image g.start) (sym same) ∙ h),
      )

pub at_last : (g : Given) (told : List Told) (a : Account) → Came g told a → (stood : Stood) → HaltsNext g.image g.start told stood → AtLast g told a stood
at_last g told a c stood halts =
    let from = halts_from g told a c stood halts in
    last_of g told a stood from.0 0 c.f c.midway
    (λ within k e i. c.leads (omega (arith, within)) k e (ap (λ (all : ℕ). exec k (setting g) (body_of a all c.f)) (omega arith) ∙ i)) from.1

-- ---- calls

pub record CallAt (g : Given) (told : List Told) (a : Account) : Type 0 where
  pub turns : ℕ
  pub f : Frame Held
  pub midway : Midway g.image g.start told a turns f
  pub leads : a.turns + turns ≤ g.n → Leads g (body_of a (a.turns + turns) f)
  pub member : ℕ
  pub object : ℤ
  pub arguments : List Held
  pub h : Frame Held
  pub is : step (framed midway.alone.knows) (world g) f ≡ Stops (Calls member object arguments) h

abbrev pub seen_arguments : {g : Given} {told : List Told} {a : Account} → CallAt g told a → List Arg
seen_arguments {g} {told} {a} l = values_seen (seen_by a.answers) l.arguments

-- the body in place goes on with the answer
abbrev pub called_body : {g : Given} {told : List Told} {a : Account} → CallAt g told a → List CallMade → ℕ → Body
called_body {g} {told} {a} l made all = record (body_of a all l.h) { sent = a.sent + 1; calls = made }

-- where it goes on so, the call came to that
abbrev pub Reaches : {g : Given} {told : List Told} {a : Account} → CallAt g told a → Arg → List CallMade → ℕ → Type 0
Reaches {g} {told} {a} l value made turns = (k : ℕ) (e : Ended) → goes_on_answered (exec k) (setting g) l.member (called_body l made turns) value ≡ Some e →
    (m : ℕ) × (calls (exec m) (setting g) l.member l.object (seen_arguments l) (body_of a (a.turns + l.turns + 1) l.h) ≡ Some e)

pub answered_came : (g : Given) (told : List Told) (a : Account) (l : CallAt g told a) (value : Arg) (made : List CallMade) (turns : ℕ) → a.turns + l.turns + 1 ≤ turns → (turns ≤ g.n → Reaches l value made turns) →
    Came g (Called ∷ told) (with_answer value (record a { calls = made; turns = turns }))
answered_came g told a l value made turns above reaches =
    let halted = stops_midway g.image g.start told a l.turns l.f l.midway (Calls l.member l.object l.arguments) l.h l.is in
    record {
      f = answered g.image l.member (Pending (halted.alone.calls + 1)) l.h;
      midway = called_midway g.image g.start told a l.member l.object l.arguments l.turns l.h halted made turns value;
      starts = refl;
      leads = λ within k e i.
          let reach = reaches within k e (ap (λ (frame : Frame Arg). exec k (setting g) (record (called_body l made turns) { frame = frame }))
          (sym (answer_seen g.image l.member a.sent halted.alone.calls value a.answers _ l.h halted.made halted.has)) ∙ i) in
          l.leads (omega (arith, within, above)) (suc reach.0) e
          (acted g told a l.turns (a.turns + l.turns) l.f l.midway (Stops (Calls l.member l.object l.arguments) l.h) l.is tt reach.0
          ∙ (goes_spends g.n (setting g) (body_of a (a.turns + l.turns) l.h) (calls (exec reach.0) (setting g) l.member l.object (seen_arguments l)) (omega (arith, within, above)) ∙ reach.1));
    }

-- ---- one more thing told

pub learnt_came : (g : Given) (told : List Told) (a : Account) (turns : ℕ) (f : Frame Held) (m : Midway g.image g.start told a turns f) → (a.turns + turns ≤ g.n → Leads g (body_of a (a.turns + turns) f)) →
    (result : ℕ) (h : Frame Held) → step (framed m.alone.knows) (world g) f ≡ Stops (Needs (Pending result)) h → (known : Known) → a.answers result ≡ arg_of_reply (Some known) → Came g (Learnt known ∷ told) (with_turns turns a)
learnt_came g told a turns f m leads result h is known answers =
    let halted = stops_midway g.image g.start told a turns f m (Needs (Pending result)) h is in
    let here : f ≡ h = (fair_next g.image g.start told a turns f m a.answers (Stops (Needs (Pending result)) h) is).here in
    record {
      f = h;
      midway = learnt_midway g.image g.start told a result turns h halted known answers;
      starts = refl;
      leads = λ within k e i. leads within k e (ap (λ (f : Frame Held). exec k (setting g) (body_of a (a.turns + turns) f)) here ∙ i);
    }

pub created_came : (g : Given) (told : List Told) (a : Account) (turns : ℕ) (f : Frame Held) (m : Midway g.image g.start told a turns f) → (a.turns + turns ≤ g.n → Leads g (body_of a (a.turns + turns) f)) →
    (class : ℕ) (h : Frame Held) → step (framed m.alone.knows) (world g) f ≡ Stops (Creates class) h → Came g (Named (object_word g.start.number (length a.creations + 1)) ∷ told) (with_creation class (with_turns 1 (with_turns turns a)))
created_came g told a turns f m leads class h is =
    let halted = stops_midway g.image g.start told a turns f m (Creates class) h is in
    let made : ℤ = object_word g.start.number (length a.creations + 1) in
    let after : Account = with_creation class (with_turns 1 (with_turns turns a)) in
    record {
      f = named made h;
      midway = tells g.image g.start told a (record { halt = Stands (Creates class); turns = turns; frame = h }) halted (Named made) after (record halted.alone { frame = named made h }) refl halted.made halted.less halted.unmade
          (record { here = halted.has.here; callers = halted.has.callers });
      starts = refl;
      leads = λ within k e i. leads (omega (arith, within)) (suc k) e
          (acted g told a turns (a.turns + turns) f m (Stops (Creates class) h) is tt k
          ∙ (goes_spends g.n (setting g) (body_of a (a.turns + turns) h) (creates (exec k) (setting g) class) (omega (arith, within)) ∙ i));
    }

pub gave_came : (g : Given) (told : List Told) (a : Account) (turns : ℕ) (f : Frame Held) (m : Midway g.image g.start told a turns f) → (a.turns + turns ≤ g.n → Leads g (body_of a (a.turns + turns) f)) →
    (value : Held) (h : Frame Held) → step (framed m.alone.knows) (world g) f ≡ Stops (Replies value) h → Came g (Gave ∷ told) (record (with_turns turns a) { result = result_of (seen_by a.answers value) })
gave_came g told a turns f m leads value h is =
    let halted = stops_midway g.image g.start told a turns f m (Replies value) h is in
    let after : Account = record (with_turns turns a) { result = result_of (seen_by a.answers value) } in
    record {
      f = h;
      midway = tells g.image g.start told a (record { halt = Stands (Replies value); turns = turns; frame = h }) halted Gave after (record halted.alone { frame = h }) refl halted.made halted.less halted.unmade halted.has;
      starts = refl;
      leads = λ within k e i. leads within (suc k) e (acted g told a turns (a.turns + turns) f m (Stops (Replies value) h) is tt k ∙ i);
    }

pub beat_came : (g : Given) (told : List Told) (a : Account) (turns : ℕ) (f : Frame Held) (m : Midway g.image g.start told a turns f) → (a.turns + turns ≤ g.n → Leads g (body_of a (a.turns + turns) f)) →
    (h : Frame Held) → step (framed m.alone.knows) (world g) f ≡ Spends h → turns + 1 == most_turns ≡ true → Came g (Beaten ∷ told) (with_turns (turns + 1) a)
beat_came g told a turns f m leads h is test =
    let halted = beats_midway g.image g.start told a turns f m h is test in
    record {
      f = h;
      midway = tells g.image g.start told a (record { halt = Beats; turns = turns + 1; frame = h }) halted Beaten (with_turns (turns + 1) a) (record halted.alone { frame = h }) refl halted.made halted.less halted.unmade halted.has;
      starts = refl;
      leads = λ within k e i. leads (omega (arith, within)) (suc k) e
          (acted g told a turns (a.turns + turns) f m (Spends h) is tt k
          ∙ (goes_spends g.n (setting g) (body_of a (a.turns + turns) h) (exec k (setting g)) (omega (arith, within))
          ∙ (ap (λ (all : ℕ). exec k (setting g) (body_of a all h)) (omega arith) ∙ i)));
    }

-- ---- the start

pub came_first : (g : Given) → Came g [] opening
came_first g = record {
  f = start_frame Words g.image g.start;
  midway = begins g.image g.start;
  starts = refl;
  leads = λ within k e i. (
    k,
    goes_spends g.n (setting g) (start_body g.image g.start 0) (exec k (setting g)) (omega (arith, within))
        ∙ (ap (λ (variables : List Arg). exec k (setting g) (record (start_body g.image g.start 0) { turns = 1; frame = record (start_frame Know g.image g.start) { variables = variables } })) (sym seen) ∙ i),
  );
} where
  seen : values_seen (seen_by (λ result. Unknown)) (map Words (variables_holding (formals_at g.image g.start.member) (sizes_at g.image (code_of_member g.start.member)) g.start.args))
      ≡ map Know (variables_holding (formals_at g.image g.start.member) (sizes_at g.image (code_of_member g.start.member)) g.start.args)
  seen = known_words_seen (framed (λ result. Unknown)) (λ words. refl) (variables_holding (formals_at g.image g.start.member) (sizes_at g.image (code_of_member g.start.member)) g.start.args)

pub some_stood : (s t : Stood) → Some s ≡ Some t → s ≡ t
some_stood s t h = cc h
