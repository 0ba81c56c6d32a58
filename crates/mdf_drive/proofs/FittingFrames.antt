-- A frame alone keeps its sizes, as its flow values are seen by all that will be known of its calls.
use Rattle.std.proofs.Common.{◌≡◌, ℕ, zero, suc, ◌+◌, ◌==◌, Bool, true, false, cond, List, [], ◌∷◌, length, Option, Some, None, refl, sym, ap, ◌∙◌, subst}
use Rattle.std.specs.List.{AllZip, slice_get}
use Rattle.mpl_value.specs.declared.body.Arg.{Arg}
use Rattle.mpl_value.specs.declared.body.BodyStart.{BodyStart}
use Rattle.mpl_value.specs.declared.body.MemberId.{MemberId}
use Rattle.mpl_value.specs.CallAnswers.{arg_of_reply}
use Rattle.mpl_value.specs.Growing.{Stays}
use Rattle.mpl_value.specs.Results.{result_of}
use Rattle.mdf_code.specs.declared.raw.RawImage.{RawImage}
use Rattle.mdf_code.specs.Alone.{Held, Pending, StaysUnlessUnknown, frame_seen, framed, next_seen, seen_by, values_seen}
use Rattle.mdf_code.specs.Frames.{Frame, Next, Goes, Spends, Stops, Stop, Calls, Creates, Ends, Needs, Replies, Strays, Traps}
use Rattle.mdf_code.specs.Parts.{sizes_at, variables_holding}
use Rattle.mdf_code.specs.Sizes.{ArgFits, ArgumentsFit, ResultFits, StartFits, words_given}
use Rattle.mdf_code.specs.Stacks.{given}
use Rattle.mdf_code.specs.Steps.{step}
use Rattle.mdf_code.specs.Told.{Alone, Beaten, Beats, Called, Gave, Halt, HaltsNext, Learnt, Named, Stands, Stood, Told, after, around_start, behind, calls_made, first, learns, most_turns, run, runs_on, told_at}
use Rattle.mdf_code.specs.Yields.{answered, code_of_member, formals_at, words_of_result}
use Rattle.mdf_code.proofs.FittingSteps.{Fitted, FrameFits, NextFits, StandsIn, step_fits}
use Rattle.mdf_code.proofs.FittingValues.{held_fit}
use Rattle.mdf_code.proofs.Midway.{learnt_stays}
use Rattle.mdf_code.proofs.MoreKnown.{more_known}
use Rattle.mdf_code.proofs.NeedingSteps.{StopsHere, stops_here}
use Rattle.mdf_code.proofs.OneHalt.{one_halt}
use Rattle.mdf_code.proofs.SeenSteps.{framed_seen, known_words_seen}

some_is : {A : Type 0} {a b : A} → ◌≡◌ {A = Option A} (Some a) (Some b) → a ≡ b
some_is e = cc e

-- what an optional value leads to
pub given_some : {A B : Type 0} (o : Option A) (next : A → Option B) (y : B) → given o next ≡ Some y → (x : A) × (o ≡ Some x) × (next x ≡ Some y)
given_some None next y e = absurd cc
given_some (Some x) next y e = (x, refl, e)

-- `will` is all that will be known of the results of its calls
module _ (image : RawImage) (start : BodyStart) (will : ℕ → Arg) where
  abbrev pub fitted : Fitted
  fitted = record { x = around_start image start; member = start.member; words = length start.state }

  abbrev pub Fits : Frame Held → Type 0
  Fits f = FrameFits fitted (frame_seen (seen_by will) f)

  -- where it stops the frame fits, and so do the arguments that it passes and the result that it gives
  abbrev pub StopFits : Stop Held → Frame Held → Type 0
  StopFits (Calls member object arguments) g = Fits g × ArgumentsFit (values_seen (seen_by will) arguments) (slice_get image.members member)
  StopFits (Replies value) g = Fits g × ResultFits (words_given image start.member) (result_of (seen_by will value))
  StopFits (Needs value) g = Fits g
  StopFits (Creates class) g = Fits g
  StopFits (Ends line) g = Fits g
  StopFits Strays g = Fits g
  StopFits (Traps trap) g = Fits g

  abbrev FitsNext : Next Held → Type 0
  FitsNext (Goes g) = Fits g
  FitsNext (Spends g) = Fits g
  FitsNext (Stops stop g) = StopFits stop g

  abbrev pub HaltFits : Halt → Frame Held → Type 0
  HaltFits (Stands stop) g = StopFits stop g
  HaltFits Beats g = Fits g

  next_fits : (knows : ℕ → Arg) (f : Frame Held) → Fits f → (next later : Next Held) → StaysUnlessUnknown (seen_by knows) next later → StopsHere (seen_by knows) (seen_by will) f next later → NextFits fitted (next_seen (seen_by will) later) → FitsNext next
  next_fits knows f fits (Goes g) later stays here seen = subst (λ (n : Next Held). NextFits fitted (next_seen (seen_by will) n)) (sym stays) seen
  next_fits knows f fits (Spends g) later stays here seen = subst (λ (n : Next Held). NextFits fitted (next_seen (seen_by will) n)) (sym stays) seen
  next_fits knows f fits (Stops (Calls member object arguments) g) later stays here seen = subst (λ (n : Next Held). NextFits fitted (next_seen (seen_by will) n)) (sym stays) seen
  next_fits knows f fits (Stops (Replies value) g) later stays here seen = subst (λ (n : Next Held). NextFits fitted (next_seen (seen_by will) n)) (sym stays) seen
  next_fits knows f fits (Stops (Needs value) g) later stays here seen = subst Fits here.here fits
  next_fits knows f fits (Stops (Creates class) g) later stays here seen = subst (λ (n : Next Held). NextFits fitted (next_seen (seen_by will) n)) (sym stays) seen
  next_fits knows f fits (Stops (Ends line) g) later stays here seen = subst (λ (n : Next Held). NextFits fitted (next_seen (seen_by will) n)) (sym stays) seen
  next_fits knows f fits (Stops Strays g) later stays here seen = subst Fits here fits
  next_fits knows f fits (Stops (Traps trap) g) later stays here seen = subst (λ (n : Next Held). NextFits fitted (next_seen (seen_by will) n)) (sym stays) seen

  module _ (knows : ℕ → Arg) (less : (r : ℕ) → Stays (knows r) (will r)) where
    one_step : (f : Frame Held) → Fits f → FitsNext (step (framed knows) (around_start image start) f)
    one_step f fits =
        next_fits knows f fits (step (framed knows) (around_start image start) f) (step (framed will) (around_start image start) f) (more_known knows will less (around_start image start) f)
        (stops_here (framed knows) (seen_by will) (around_start image start) f)
        (subst (NextFits fitted) (sym (framed_seen will (around_start image start) f)) (step_fits fitted (frame_seen (seen_by will) f) fits))

    run_fits : (fuel quantum turns : ℕ) (f : Frame Held) (stood : Stood) → Fits f → run fuel knows (around_start image start) quantum turns f ≡ Some stood → HaltFits stood.halt stood.frame
    run_fits zero quantum turns f stood fits e = absurd cc
    run_fits (suc fuel) quantum turns f stood fits e =
        by_next (step (framed knows) (around_start image start) f) (one_step f fits) e (λ turns g fits e. run_fits fuel quantum turns g stood fits e) where
          by_beat : (b : Bool) (turns : ℕ) (g : Frame Held) → Fits g → cond b (Some (record { halt = Beats; turns = turns; frame = g })) (run fuel knows (around_start image start) quantum turns g) ≡ Some stood
              → ((turns : ℕ) (g : Frame Held) → Fits g → run fuel knows (around_start image start) quantum turns g ≡ Some stood → HaltFits stood.halt stood.frame) → HaltFits stood.halt stood.frame
          by_beat true turns g fits e again = subst (λ (s : Stood). HaltFits s.halt s.frame) (some_is {a = record { halt = Beats; turns = turns; frame = g }} {b = stood} e) fits
          by_beat false turns g fits e again = again turns g fits e

          by_next : (next : Next Held) → FitsNext next → after (run fuel knows (around_start image start) quantum) quantum turns next ≡ Some stood
              → ((turns : ℕ) (g : Frame Held) → Fits g → run fuel knows (around_start image start) quantum turns g ≡ Some stood → HaltFits stood.halt stood.frame) → HaltFits stood.halt stood.frame
          by_next (Goes g) fits e again = again turns g fits e
          by_next (Spends g) fits e again = by_beat (turns + 1 == quantum) (turns + 1) g fits e again
          by_next (Stops stop g) fits e again = subst (λ (s : Stood). HaltFits s.halt s.frame) (some_is {a = record { halt = Stands stop; turns = turns; frame = g }} {b = stood} e) fits

  -- ---- behind what it was told

  -- a frame that was told so, and what is known in it
  pub record Keeps (told : List Told) (x : Alone) : Type 0 where
    pub calls : x.calls ≡ calls_made told
    pub less : (r : ℕ) → Stays (x.knows r) (will r)
    pub fits : Fits x.frame

  abbrev pub AllKeep : List Told → Type 0
  AllKeep told = (fuel : ℕ) (x : Alone) → behind fuel image start told ≡ Some x → Keeps told x

  -- what is told of a call fits: its result will, and what is learnt will be known
  abbrev pub TellsWell : List Told → Halt → Told → Type 0
  TellsWell before (Stands (Calls member object arguments)) Called = ArgFits (words_of_result image member) (will (calls_made before + 1))
  TellsWell before (Stands (Needs (Pending call))) (Learnt known) = will call ≡ arg_of_reply (Some known)
  TellsWell before halt told = Unit {0}

  pub halt_fits : (told : List Told) → AllKeep told → (stood : Stood) → HaltsNext image start told stood → HaltFits stood.halt stood.frame
  halt_fits told all stood halts =
      let one = given_some (behind halts.steps image start told) (runs_on halts.steps image start) stood halts.within in
      let k = all halts.steps one.0 one.1 in
      run_fits one.0.knows k.less halts.steps most_turns 0 one.0.frame stood k.fits one.2

  told_keeps : (before : List Told) (x : Alone) → Keeps before x → (f : Frame Held) (halt : Halt) → HaltFits halt f → (t : Told) → TellsWell before halt t → (y : Alone) → told_at image x f halt t ≡ Some y → Keeps (t ∷ before) y
  told_keeps before x k f (Stands (Calls member object arguments)) fits Called well y e = subst (Keeps (Called ∷ before)) (some_is {a = record x { frame = answered image member (Pending (x.calls + 1)) f; calls = x.calls + 1 }} {b = y} e) (record {
    calls = ap (λ n. n + 1) k.calls;
    less = k.less;
    fits = record {
      here = record {
        stands = fits.0.here.stands;
        variables = fits.0.here.variables;
        flows = (subst (λ n. ArgFits (words_of_result image member) (will (n + 1))) (sym k.calls) well, fits.0.here.flows);
      };
      callers = fits.0.callers;
      state = fits.0.state;
    };
  })
  told_keeps before x k f (Stands (Needs (Pending call))) fits (Learnt known) well y e = subst (Keeps (Learnt known ∷ before)) (some_is {a = record x { frame = f; knows = learns call (arg_of_reply (Some known)) x.knows }} {b = y} e) (record {
    calls = k.calls;
    less = learnt_stays call (arg_of_reply (Some known)) x.knows will well k.less;
    fits = fits;
  })
  told_keeps before x k f (Stands (Creates class)) fits (Named object) well y e =
      subst (Keeps (Named object ∷ before)) (some_is {b = y} e) (record { calls = k.calls; less = k.less; fits = record { here = fits.here; callers = fits.callers; state = fits.state } })
  told_keeps before x k f (Stands (Replies value)) fits Gave well y e = subst (Keeps (Gave ∷ before)) (some_is {a = record x { frame = f }} {b = y} e) (record { calls = k.calls; less = k.less; fits = fits.0 })
  told_keeps before x k f Beats fits Beaten well y e = subst (Keeps (Beaten ∷ before)) (some_is {a = record x { frame = f }} {b = y} e) (record { calls = k.calls; less = k.less; fits = fits })
  told_keeps before x k f halt fits t well y e = absurd cc

  pub keeps_on : (before : List Told) → AllKeep before → (stood : Stood) → HaltsNext image start before stood → (t : Told) → TellsWell before stood.halt t → AllKeep (t ∷ before)
  keeps_on before all stood halts t well fuel y e =
      let one = given_some (behind fuel image start before) (λ x. given (runs_on fuel image start x) (λ s. told_at image x s.frame s.halt t)) y e in
      let two = given_some (runs_on fuel image start one.0) (λ s. told_at image one.0 s.frame s.halt t) y one.2 in
      let same : two.0 ≡ stood = one_halt image start before two.0 stood (record { steps = fuel; within = ap (λ (o : Option Alone). given o (runs_on fuel image start)) one.1 ∙ two.1 }) halts in
      let told : told_at image one.0 stood.frame stood.halt t ≡ Some y = subst (λ (s : Stood). told_at image one.0 s.frame s.halt t ≡ Some y) same two.2 in
      told_keeps before one.0 (all fuel one.0 one.1) stood.frame stood.halt (halt_fits before all stood halts) t well y told

  -- ---- from the start

  stands_at_start : (member : Option MemberId) → StandsIn member (code_of_member member)
  stands_at_start None = tt
  stands_at_start (Some member) = refl

  pub keeps_first : StartFits image start → AllKeep []
  keeps_first fit fuel x e = subst (Keeps []) (some_is {a = first image start} {b = x} e) (record {
    calls = refl;
    less = λ r. tt;
    fits = record {
      here = record {
        stands = stands_at_start start.member;
        variables = subst (AllZip ArgFits (sizes_at image (code_of_member start.member)))
            (sym (known_words_seen (framed will) (λ words. refl) (variables_holding (formals_at image start.member) (sizes_at image (code_of_member start.member)) start.args)))
            (held_fit (formals_at image start.member) (sizes_at image (code_of_member start.member)) start.args fit);
        flows = tt;
      };
      callers = tt;
      state = refl;
    };
  })
