-- Frames in code are where the bodies are that they are of.
use Rattle.std.proofs.Common.{◌≡◌, ◌+◌, ℕ, [], ◌∷◌, List, Option, Some, None, refl, ap, sym, subst, ◌∙◌, arith}
use Rattle.std.specs.Prelude.{ℤ}
use Rattle.mpl_value.specs.declared.body.Arg.{Arg}
use Rattle.mpl_value.specs.declared.body.BodyStart.{BodyStart}
use Rattle.mpl_value.specs.declared.known.Known.{Known}
use Rattle.mpl_value.specs.CallAnswers.{arg_of_reply}
use Rattle.mdf_code.specs.declared.raw.RawImage.{RawImage}
use Rattle.mdf_code.specs.Alone.{Held, Pending}
use Rattle.mdf_code.specs.Frames.{Calls, Frame, Needs, Replies}
use Rattle.mdf_code.specs.Stacks.{given}
use Rattle.mdf_code.specs.Told.{Alone, Beaten, Beats, Called, Gave, Halt, HaltsNext, Learnt, Stands, Stood, Told, behind, first, learns, most_turns, runs_on, told_at}
use Rattle.mdf_code.specs.Yields.{answered}
use Rattle.mdf_vm.specs.Standing.{IsAnswered, Ran, Tells, alone_of, goes_on, goes_on_at, last_at}
use Rattle.mdf_vm.specs.declared.frame.Frame as frames
use Rattle.mdf_vm.specs.declared.last.Last.{Last}
use Rattle.mdf_vm.specs.declared.last.Last.TheVariants as last
use Rattle.mdf_vm.specs.declared.stop.Stop as stops
use Rattle.mdf_vm.proofs.OnTheWay.{begins_the_way, comes_to_halt}
use Rattle.mdf_machine.specs.Frames.{Begins, GoesOn, HasLearnt, StandsAt}

pub begins_there : (image : RawImage) (start : BodyStart) (f : frames.Frame) → Begins image start f → GoesOn image start [] f
begins_there image start f b = record {
  steps = 0;
  behind_is = ap (λ (a : Alone). Some a) (sym b.alone) ∙ ap (λ (l : Last). Some (goes_on_at image (alone_of f) l)) (sym b.last);
  answered = subst IsAnswered (sym b.last) tt;
  object = b.object;
}

pub runs_there : (image : RawImage) (start : BodyStart) (told : List Told) (f g : frames.Frame) (stop : stops.Stop) → GoesOn image start told f → Ran image most_turns f stop g
    → (stood : Stood) × StandsAt image start told stood g × Tells stop stood.halt × (g.turns ≡ f.turns + stood.turns)
runs_there image start told f g stop on ran =
    let way = begins_the_way image start told f (record { steps = on.steps; behind_is = on.behind_is; answered = on.answered; object = on.object }) in
    let come = comes_to_halt image start told 0 most_turns f g stop way (omega arith) ran in (
      record { halt = ran.halt; turns = ran.spent + 0; frame = (alone_of g).frame },
      record { steps = come.steps; from = come.from; behind_is = come.behind_is; halts = come.halts; frame = come.frame; calls = come.calls; knows = come.knows; last = come.last; object = come.object },
      ran.stop_is,
      omega (arith, ran.turns),
    )

pub halts_there : (image : RawImage) (start : BodyStart) (told : List Told) (stood : Stood) (f : frames.Frame) → StandsAt image start told stood f → HaltsNext image start told stood
halts_there image start told stood f s = record {
  steps = s.steps;
  within = ap (λ (o : Option Alone). given o (runs_on s.steps image start)) s.behind_is ∙ s.halts;
}

-- ---- told

-- what it stands at, behind what it was told
module _ (image : RawImage) (start : BodyStart) (told : List Told) (stood : Stood) (f : frames.Frame) (s : StandsAt image start told stood f) where
  alone_is : alone_of f ≡ record { frame = stood.frame; calls = s.from.calls; knows = s.from.knows }
  alone_is =
      ap (λ (g : Frame Held). record { frame = g; calls = (alone_of f).calls; knows = (alone_of f).knows }) s.frame
      ∙ ap (λ n. record { frame = stood.frame; calls = n; knows = (alone_of f).knows }) s.calls
      ∙ ap (λ k. record { frame = stood.frame; calls = s.from.calls; knows = k }) s.knows

  -- behind one more thing that it was told
  behind_more : (t : Told) (halt : Halt) → stood.halt ≡ halt → behind s.steps image start (t ∷ told) ≡ told_at image s.from stood.frame halt t
  behind_more t halt is =
      ap (λ (o : Option Alone). given o (λ a. given (runs_on s.steps image start a) (λ (x : Stood). told_at image a x.frame x.halt t))) s.behind_is
      ∙ ap (λ (o : Option Stood). given o (λ (x : Stood). told_at image s.from x.frame x.halt t)) s.halts
      ∙ ap (λ (h : Halt). told_at image s.from stood.frame h t) is

  goes_on_told : (t : Told) (halt : Halt) → stood.halt ≡ halt → (a : Alone) → told_at image s.from stood.frame halt t ≡ Some a → IsAnswered (last_at halt)
      → goes_on_at image (record { frame = stood.frame; calls = s.from.calls; knows = s.from.knows }) (last_at halt) ≡ a → GoesOn image start (t ∷ told) f
  goes_on_told t halt is a tells answered same =
      let last : f.last ≡ last_at halt = s.last ∙ ap last_at is in
      record {
        steps = s.steps;
        behind_is = behind_more t halt is ∙ tells ∙ ap (λ (a : Alone). Some a) (sym (ap (λ (l : Last). goes_on_at image (alone_of f) l) last ∙ ap (λ (a : Alone). goes_on_at image a (last_at halt)) alone_is ∙ same));
        answered = subst IsAnswered (sym last) answered;
        object = s.object;
      }

pub called_goes_on : (image : RawImage) (start : BodyStart) (told : List Told) (stood : Stood) (f : frames.Frame) (member : ℕ) (object : ℤ) (arguments : List Held)
    → StandsAt image start told stood f → stood.halt ≡ Stands (Calls member object arguments) → GoesOn image start (Called ∷ told) f
called_goes_on image start told stood f member object arguments s is =
    goes_on_told image start told stood f s Called (Stands (Calls member object arguments)) is
    (record s.from { frame = answered image member (Pending (s.from.calls + 1)) stood.frame; calls = s.from.calls + 1 }) refl tt refl

pub gave_goes_on : (image : RawImage) (start : BodyStart) (told : List Told) (stood : Stood) (f : frames.Frame) (value : Held)
    → StandsAt image start told stood f → stood.halt ≡ Stands (Replies value) → GoesOn image start (Gave ∷ told) f
gave_goes_on image start told stood f value s is =
    goes_on_told image start told stood f s Gave (Stands (Replies value)) is (record s.from { frame = stood.frame }) refl tt refl

pub beaten_goes_on : (image : RawImage) (start : BodyStart) (told : List Told) (stood : Stood) (f : frames.Frame) → StandsAt image start told stood f → stood.halt ≡ Beats → GoesOn image start (Beaten ∷ told) f
beaten_goes_on image start told stood f s is = goes_on_told image start told stood f s Beaten Beats is (record s.from { frame = stood.frame }) refl tt refl

pub learnt_goes_on : (image : RawImage) (start : BodyStart) (told : List Told) (stood : Stood) (f g : frames.Frame) (number : ℕ) (known : Known)
    → StandsAt image start told stood f → stood.halt ≡ Stands (Needs (Pending number)) → HasLearnt number known f g → GoesOn image start (Learnt known ∷ told) g
learnt_goes_on image start told stood f g number known s is h =
    record {
      steps = s.steps;
      behind_is =
          behind_more image start told stood f s (Learnt known) (Stands (Needs (Pending number))) is
          ∙ ap (λ (a : Alone). Some a)
          (ap (λ (a : Alone). record a { knows = learns number (arg_of_reply (Some known)) a.knows }) (sym (alone_is image start told stood f s)) ∙ sym h.alone
          ∙ ap (λ (l : Last). goes_on_at image (alone_of g) l) (sym h.last));
      answered = subst IsAnswered (sym h.last) tt;
      object = h.object ∙ s.object;
    }
