-- A run behind the answer to a frame's last stop.
use Rattle.std.proofs.Common.{◌≡◌, ◌<◌, ◌≤◌, ◌+◌, ℕ, refl, ap, ◌∙◌, sym, subst}
use Rattle.std.specs.Prelude.{ℤ}
use Rattle.mpl_value.specs.declared.body.Arg.{Arg}
use Rattle.mdf_code.specs.declared.raw.RawImage.{RawImage}
use Rattle.mdf_code.specs.Alone.{Held}
use Rattle.mdf_code.specs.Frames.{Around, Frame}
use Rattle.mdf_code.specs.Told.{Alone, Halt}
use Rattle.mdf_vm.specs.Internal.Answers.{IsAnswer}
use Rattle.mdf_vm.specs.Runnings.{frame_of}
use Rattle.mdf_vm.specs.Results.{knows_of}
use Rattle.mdf_vm.specs.Runs.{RunsTo, Went}
use Rattle.mdf_vm.specs.Standing.{IsAnswered, Ran, RanOut, Tells, alone_of, around_of, goes_on, goes_on_at, last_at}
use Rattle.mdf_vm.specs.declared.frame.Frame as frames
use Rattle.mdf_vm.specs.declared.last.Last.{Last}
use Rattle.mdf_vm.specs.declared.last.Last.TheVariants as last
use Rattle.mdf_vm.specs.declared.stop.Stop as stops

-- an answer adds nothing to what is known
pub same_knows : (image : RawImage) (a : Alone) (l : Last) → (goes_on_at image a l).knows ≡ a.knows
same_knows image a last.Going = refl
same_knows image a (last.Called member) = refl
same_knows image a (last.Needs result) = refl
same_knows image a last.Creates = refl
same_knows image a (last.Named object) = refl
same_knows image a (last.Ended line) = refl
same_knows image a (last.Trapped trap) = refl

knows_before : (image : RawImage) (before a : frames.Frame) → IsAnswer image before a → knows_of a.setting.results ≡ knows_of before.setting.results
knows_before image before a answer = ap (λ (l : Alone). l.knows) answer.alone ∙ same_knows image (alone_of before) before.last

around_before : (image : RawImage) (before a : frames.Frame) → IsAnswer image before a → around_of image a ≡ around_of image before
around_before image before a answer = ap (λ (o : ℤ). record { image = image; object = o }) answer.object

pub ran : (image : RawImage) (quantum : ℕ) (before a after : frames.Frame) (stop : stops.Stop) (halt : Halt) (spent : ℕ) → spent ≤ quantum → IsAnswer image before a →
    RunsTo (knows_of a.setting.results) (around_of image a) quantum (frame_of a.running) halt spent (frame_of after.running) → after.setting ≡ a.setting →
    Tells stop halt → after.last ≡ last_at halt → after.turns ≡ a.turns + spent → Ran image quantum before stop after
ran image quantum before a after stop halt spent few answer runs same tells left turns = record {
  halt = halt;
  spent = spent;
  few = few;
  runs =
      subst (λ (k : ℕ → Arg). RunsTo k (around_of image before) quantum (goes_on image before).frame halt spent (frame_of after.running)) (knows_before image before a answer)
      (subst (λ (x : Around). RunsTo (knows_of a.setting.results) x quantum (goes_on image before).frame halt spent (frame_of after.running)) (around_before image before a answer)
      (subst (λ (f : Frame Held). RunsTo (knows_of a.setting.results) (around_of image a) quantum f halt spent (frame_of after.running)) (ap (λ (l : Alone). l.frame) answer.alone) runs));
  calls = ap (λ s. (alone_of (record a { setting = s })).calls) same ∙ ap (λ (l : Alone). l.calls) answer.alone;
  knows = ap (λ s. (alone_of (record a { setting = s })).knows) same ∙ ap (λ (l : Alone). l.knows) answer.alone;
  object = ap (λ s. (record a { setting = s }).setting.object) same ∙ answer.object;
  stop_is = tells;
  last_is = left;
  turns = turns ∙ ap (λ n. n + spent) answer.turns;
}

pub ran_out : (image : RawImage) (quantum : ℕ) (before a after : frames.Frame) (spent : ℕ) → spent < quantum → IsAnswer image before a →
    Went (knows_of a.setting.results) (around_of image a) quantum 0 (frame_of a.running) spent (frame_of after.running) → after.setting ≡ a.setting →
    after.last ≡ a.last → after.turns ≡ a.turns + spent → RanOut image quantum before after
ran_out image quantum before a after spent few answer went same left turns =
    let going = left ∙ answer.going in
    record {
      spent = spent;
      few = few;
      went =
          subst (λ (f : Frame Held). Went (knows_of before.setting.results) (around_of image before) quantum 0 (goes_on image before).frame spent f)
          (sym (ap (λ l. (goes_on_at image (alone_of after) l).frame) going))
          (subst (λ (k : ℕ → Arg). Went k (around_of image before) quantum 0 (goes_on image before).frame spent (frame_of after.running)) (knows_before image before a answer)
          (subst (λ (x : Around). Went (knows_of a.setting.results) x quantum 0 (goes_on image before).frame spent (frame_of after.running)) (around_before image before a answer)
          (subst (λ (f : Frame Held). Went (knows_of a.setting.results) (around_of image a) quantum 0 f spent (frame_of after.running)) (ap (λ (l : Alone). l.frame) answer.alone) went)));
      calls =
          ap (λ l. (goes_on_at image (alone_of after) l).calls) going
          ∙ (ap (λ s. (alone_of (record a { setting = s })).calls) same ∙ ap (λ (l : Alone). l.calls) answer.alone);
      knows =
          ap (λ l. (goes_on_at image (alone_of after) l).knows) going
          ∙ (ap (λ s. (alone_of (record a { setting = s })).knows) same ∙ ap (λ (l : Alone). l.knows) answer.alone);
      object = ap (λ s. (record a { setting = s }).setting.object) same ∙ answer.object;
      answered = subst IsAnswered (sym going) tt;
      turns = turns ∙ ap (λ n. n + spent) answer.turns;
    }
