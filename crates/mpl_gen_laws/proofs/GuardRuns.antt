-- What the code of a guard comes to, from what its next steps come to.
use Rattle.std.proofs.Common.{◌≡◌, ◌≤◌, ◌<◌, ℕ, zero, suc, ◌+◌, Bool, false, not, List, [], ◌∷◌, length, Option, Some, ℤ, pos, Result, Ok, Err, refl, ap, sym, subst, arith, ◌∙◌}
use Rattle.std.proofs.lemmas.Bool.{le-leb}
use Rattle.std.proofs.lemmas.Option.{slice_get_past, slice_get_within}
use Rattle.std.specs.List.{slice_get}
use Rattle.std.specs.Ordering.{int_eq}
use Rattle.mpl_value.specs.declared.body.Arg.{Arg}
use Rattle.mpl_value.specs.declared.known.Trap.{Trap}
use Rattle.mpl_value.specs.declared.known.TrapKind.{TrapKind}
use Rattle.mdf_code.specs.Frames.{Around, Frame, InGuard, Next, Goes, Stops, Traps}
use Rattle.mdf_code.specs.Guards.{goes_within, guard_step, most_guard_words, runs_guard}
use Rattle.mdf_code.specs.Parts.{text_at}
use Rattle.mdf_code.specs.Steps.{does, or_strays}
use Rattle.mdf_code.specs.Steps as steps
use Rattle.mdf_code.specs.Yields.{in_place}
use Rattle.mdf_code.specs.declared.instr.Instr.{Instr}
use Rattle.mdf_code.specs.declared.raw.RawImage.{RawImage}
use Rattle.mpl_gen_code.proofs.Popping.{if_true}

-- the guard of an entry, with its code, its variables and the state that it reads
pub record Guard : Type 0 where
  pub image : RawImage
  pub entry : ℕ
  pub code : List Instr
  pub is : text_at image (InGuard entry) ≡ code
  pub variables : List Arg
  pub state : List ℤ

module _ (G : Guard) where
  abbrev pub frame : ℕ → List ℤ → Frame Arg
  frame place words = record {
    code = InGuard G.entry;
    place = place;
    words = words;
    flows = [];
    variables = G.variables;
    callers = [];
    state = G.state;
    input = [];
    lines = [];
    replied = false;
  }

  abbrev pub around : Around
  around = record { image = G.image; object = pos 0 }

  -- from here the guard comes to this answer
  abbrev pub Gives : Bool → ℕ → List ℤ → Type 0
  Gives b place words = (fuel : ℕ) → length G.code ≤ fuel + place → runs_guard fuel around (frame place words) ≡ b

  abbrev pub Is : ℕ → Instr → Type 0
  Is place i = slice_get G.code place ≡ Some i

  -- what a step comes to at an instruction
  stepped : (again : Frame Arg → Bool) (p : ℕ) (ws : List ℤ) (i : Instr) → Is p i
      → guard_step again around (slice_get (text_at G.image (InGuard G.entry)) p) (frame p ws) ≡ goes_within again (or_strays (frame p ws) (does in_place around i (frame p ws)))
  stepped again p ws i is = ap (λ (o : Option Instr). guard_step again around o (frame p ws)) (ap (λ (code : List Instr). slice_get code p) G.is ∙ is)

  pub goes : (b : Bool) (p : ℕ) (ws : List ℤ) (i : Instr) (q : ℕ) (xs : List ℤ) → Is p i → does in_place around i (frame p ws) ≡ Some (Goes (frame q xs)) → p < q → length xs ≤ most_guard_words
      → Gives b q xs → Gives b p ws
  goes b p ws i q xs is e later few next zero long = absurd (let inside = slice_get_within G.code p i is in omega (arith, long, inside))
  goes b p ws i q xs is e later few next (suc fuel) long =
      stepped (runs_guard fuel around) p ws i is
      ∙ ap (λ (o : Option (Next Arg)). goes_within (runs_guard fuel around) (or_strays (frame p ws) o)) e
      ∙ if_true (runs_guard fuel around (frame q xs)) false (le-leb (length xs) most_guard_words few)
      ∙ next fuel (omega (arith, long, later))

  pub traps : (p : ℕ) (ws : List ℤ) (i : Instr) (t : Trap) → Is p i → does in_place around i (frame p ws) ≡ Some (Stops (Traps t) (frame p ws)) → Gives false p ws
  traps p ws i t is e zero long = absurd (let inside = slice_get_within G.code p i is in omega (arith, long, inside))
  traps p ws i t is e (suc fuel) long =
      stepped (runs_guard fuel around) p ws i is ∙ ap (λ (o : Option (Next Arg)). goes_within (runs_guard fuel around) (or_strays (frame p ws) o)) e

  -- behind the last instruction
  pub ends : (q : ℕ) (w : ℤ) → q ≡ length G.code → Gives (not (int_eq w (pos 0))) q (w ∷ [])
  ends q w last zero long = refl
  ends q w last (suc fuel) long =
      ap (λ (o : Option Instr). guard_step (runs_guard fuel around) around o (frame q (w ∷ [])))
      (ap (λ (code : List Instr). slice_get code q) G.is ∙ slice_get_past G.code q (omega (arith, last)))

  -- ---- words

  pub computes : (b : Bool) (p : ℕ) (ws below : List ℤ) (i : Instr) (line : ℕ) (r : Result ℤ TrapKind) → Is p i
      → does in_place around i (frame p ws) ≡ steps.computed line r below (frame p ws) → length below + 1 ≤ most_guard_words
      → ((z : ℤ) → r ≡ Ok z → Gives b (p + 1) (z ∷ below)) → ((kind : TrapKind) → r ≡ Err kind → b ≡ false) → Gives b p ws
  computes b p ws below i line r is e few ok err = by_result r refl where
    by_result : (given : Result ℤ TrapKind) → r ≡ given → Gives b p ws
    by_result (Ok z) h =
        goes b p ws i (p + 1) (z ∷ below) is (e ∙ ap (λ (r : Result ℤ TrapKind). steps.computed line r below (frame p ws)) h) (omega arith) (let few' : length below + 1 ≤ most_guard_words = few in omega (arith, few')) (ok z h)
    by_result (Err kind) h =
        subst (λ answer. Gives answer p ws) (sym (err kind h))
        (traps p ws i (record { kind = kind; line = line }) is (e ∙ ap (λ (r : Result ℤ TrapKind). steps.computed line r below (frame p ws)) h))
