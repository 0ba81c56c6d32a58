-- A hollow frame that is filled is the frame at the start.
use Rattle.std.proofs.Common.{◌≡◌, ℕ, zero, suc, false, List, [], length, map, Option, refl, ap, ap₂, ◌∙◌}
use Rattle.std.proofs.Math.Path.{fun_ext}
use Rattle.std.specs.Prelude.{ℤ}
use Rattle.mpl_value.specs.declared.body.Arg.{Arg}
use Rattle.mpl_value.specs.declared.body.Arg.TheVariants.{Unknown}
use Rattle.mpl_value.specs.declared.body.BodyStart.{BodyStart}
use Rattle.mpl_value.specs.declared.known.Known.{Known}
use Rattle.mdf_code.specs.declared.raw.RawImage.{RawImage}
use Rattle.mdf_code.specs.Alone.{Held, Words}
use Rattle.mdf_code.specs.Frames.{Caller, Code, Flow, Frame}
use Rattle.mdf_code.specs.Parts.{sizes_at, variables_holding}
use Rattle.mdf_code.specs.Sizes.{StartFits}
use Rattle.mdf_code.specs.Told.{Alone, first}
use Rattle.mdf_code.specs.Yields.{code_of_member, formals_at}
use Rattle.mdf_vm.specs.Hollow.{IsHollow, hollow_frame}
use Rattle.mdf_vm.specs.Internal.Pouring.{all_poured}
use Rattle.mdf_vm.specs.Results.{knows_of}
use Rattle.mdf_vm.specs.Standing.{alone_of}
use Rattle.mdf_vm.specs.declared.frame.Frame as frames
use Rattle.mdf_vm.proofs.Poured.{fills}

nothing_known : (result : ℕ) → knows_of [] result ≡ Unknown
nothing_known zero = refl
nothing_known (suc place) = refl

pub filled : (image : RawImage) (start : BodyStart) (before : frames.Frame) (held : List Held) (input : List ℤ) → held ≡ all_poured before.running.variables start.args → input ≡ start.input →
    IsHollow image start.member before → StartFits image start →
    alone_of (record before { running = record before.running { variables = held; state = start.state; input = input }; setting = record before.setting { object = start.object } }) ≡ first image start
filled image start before held input pours reads hollow fits =
    let sizes = sizes_at image (code_of_member start.member) in
    let variables = pours ∙ (ap (λ l. all_poured l start.args) (ap (λ (f : Frame Held). f.variables) hollow.frame) ∙ fills (formals_at image start.member) sizes start.args fits) in
    let frame =
    ap (λ (f : Frame Held). record f { variables = held; state = start.state; input = input }) hollow.frame
    ∙ ap₂ (λ (v : List Held) (i : List ℤ). record (hollow_frame image start.member) { variables = v; state = start.state; input = i }) variables reads in
    ap (λ (f : Frame Held). record (alone_of before) { frame = f }) frame
    ∙ (ap (λ (r : List (Option Known)). record (first image start) { calls = length r; knows = knows_of r }) hollow.results
    ∙ ap (λ (k : ℕ → Arg). record (first image start) { knows = k }) (fun_ext nothing_known))

-- a frame of these parts is the frame at the start
pub started : (image : RawImage) (start : BodyStart) (code : Code) (words : List ℤ) (flows : List (Flow Held)) (variables : List Held) (callers : List (Caller Held)) (state input : List ℤ) (lines : List ℕ) (results : List (Option Known)) →
    code ≡ code_of_member start.member → words ≡ [] → flows ≡ [] → variables ≡ map Words (variables_holding (formals_at image start.member) (sizes_at image (code_of_member start.member)) start.args) → callers ≡ [] →
    state ≡ start.state → input ≡ start.input → lines ≡ [] → results ≡ [] →
    ◌≡◌ {A = Alone} (record {
      frame = record { code = code; place = 0; words = words; flows = flows; variables = variables; callers = callers; state = state; input = input; lines = lines; replied = false };
      calls = length results;
      knows = knows_of results;
    }) (first image start)
started image start code words flows variables callers state input lines results a b c d e f g h i =
    rw (a, b, c, d, e, f, g, h, i) (ap (λ (k : ℕ → Arg). record (first image start) { knows = k }) (fun_ext nothing_known))
