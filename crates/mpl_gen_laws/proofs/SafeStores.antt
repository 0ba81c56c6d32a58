-- What goes into variables, into the state, and out of a body is safe in a frame alone, where it is safe behind it.
use Rattle.std.proofs.Common.{◌≡◌, ◌≤◌, ◌<◌, ℕ, ◌+◌, ◌==◌, Bool, true, false, not, List, ◌∷◌, length, Some, if◌then◌else◌, ℤ, refl, ap, arith, ◌∙◌}
use Rattle.std.proofs.lemmas.Option.{slice_get_within}
use Rattle.std.specs.List.{slice_get, slice_set}
use Rattle.mpl_value.specs.Words.{with_words, zeros}
use Rattle.mpl_value.specs.declared.body.Arg.TheVariants as arg
use Rattle.mpl_value.specs.declared.known.TrapKind.TheVariants.{Twice}
use Rattle.mpl_mean.proofs.Sizes.SizedClasses.{same_number}
use Rattle.mpl_mean.proofs.Sizes.SizedStores.{with_words_long}
use Rattle.mdf_code.specs.Alone.{Held, Words, framed, seen_by}
use Rattle.mdf_code.specs.Frames.{Flow}
use Rattle.mdf_code.specs.Frames as frames
use Rattle.mdf_code.specs.Parts.{given_words, has_object, may_post}
use Rattle.mdf_code.specs.Stacks.{known_words_of, popped_all, pushed, set_at, write_words}
use Rattle.mdf_code.specs.Steps.{does}
use Rattle.mdf_code.specs.Steps as steps
use Rattle.mdf_code.specs.declared.instr.Instr.TheVariants as instr
use Rattle.mdf_code.specs.declared.raw.RawClass.{RawClass}
use Rattle.mdf_code.proofs.FittingValues.{zeros_fit}
use Rattle.mpl_gen_code.proofs.Popping.{given_is, popped_pushed, set_there, true_is, write_there}
use Rattle.mpl_gen_laws.specs.SafeFrames.{HeldFits}
use Rattle.mpl_gen_laws.proofs.SafeSteps.{At, Is, Later, Onward, Run, Scene, VarsFit, all_sizes, frame, known_long, performs, x, zip_get, zip_set}

module _ (C : Scene) where
  -- a place is safe with other variables
  abbrev pub ThenHolding : ℕ → Run C → ℕ → List ℤ → List (Flow Held) → List Held → Type 0
  ThenHolding n D q ws fs us = VarsFit C us → (m : ℕ) → m < n → At C m D q ws fs us

  -- a variable takes a flow value
  pub sets : (n : ℕ) (D : Run C) (p : ℕ) (ws : List ℤ) (fs : List (Flow Held)) (vs : List Held) (variable count : ℕ) (v : Held) → Is C p (instr.SetVariable variable) → slice_get (all_sizes C) variable ≡ Some count → HeldFits C.sizes count v → VarsFit C vs
      → ThenHolding n D (p + 1) ws fs (slice_set vs variable v) → At C n D p ws (record { value = v; words = count } ∷ fs) vs
  sets n D p ws fs vs variable count v is size fits fit h =
      let held = zip_get (HeldFits C.sizes) (all_sizes C) vs variable count fit size in
      performs C n D p ws (record { value = v; words = count } ∷ fs) vs (instr.SetVariable variable) (frames.Goes (frame C D (p + 1) ws fs (slice_set vs variable v))) is
      (given_is (slice_get (all_sizes C) variable) count _ size ∙ true_is (count == count) _ (same_number count) ∙ given_is (set_at variable v vs) _ _ (set_there variable v vs held.3))
      (h (zip_set (HeldFits C.sizes) (all_sizes C) vs variable count v fit size fits))

  -- a variable of zeros
  pub clears : (n : ℕ) (D : Run C) (p : ℕ) (ws : List ℤ) (fs : List (Flow Held)) (vs : List Held) (variable count : ℕ) → Is C p (instr.Zero variable) → slice_get (all_sizes C) variable ≡ Some count → VarsFit C vs
      → ThenHolding n D (p + 1) ws fs (slice_set vs variable (Words (zeros count))) → At C n D p ws fs vs
  clears n D p ws fs vs variable count is size fit h =
      let held = zip_get (HeldFits C.sizes) (all_sizes C) vs variable count fit size in
      performs C n D p ws fs vs (instr.Zero variable) (frames.Goes (frame C D (p + 1) ws fs (slice_set vs variable (Words (zeros count))))) is
      (given_is (slice_get (all_sizes C) variable) count _ size ∙ given_is (set_at variable (Words (zeros count)) vs) _ _ (set_there variable (Words (zeros count)) vs held.3))
      (h (zip_set (HeldFits C.sizes) (all_sizes C) vs variable count (Words (zeros count)) fit size (zeros_fit count)))

  -- words into a part of a variable that is known
  pub stores : (n : ℕ) (D : Run C) (p : ℕ) (items ws : List ℤ) (fs : List (Flow Held)) (vs : List Held) (variable offset count size : ℕ) (v : Held) (words : List ℤ) → Is C p (instr.Store variable offset count) → slice_get (all_sizes C) variable ≡ Some size
      → slice_get vs variable ≡ Some v → HeldFits C.sizes size v → seen_by D.knows v ≡ arg.Know words → length items ≡ count → offset + count ≤ size → VarsFit C vs
      → ThenHolding n D (p + 1) ws fs (slice_set vs variable (Words (with_words offset items words))) → At C n D p (pushed items ws) fs vs
  stores n D p items ws fs vs variable offset count size v words is sized held fits known long inside fit h =
      let total = known_long C D size v words fits known in
      let room : offset + length items ≤ length words = omega (arith, total, long, inside) in
      let new = with_words offset items words in
      performs C n D p (pushed items ws) fs vs (instr.Store variable offset count) (frames.Goes (frame C D (p + 1) ws fs (slice_set vs variable (Words new)))) is
      (given_is (slice_get vs variable) v _ held
      ∙ given_is (known_words_of (seen_by D.knows v)) words _ (ap known_words_of known)
      ∙ given_is (popped_all count (pushed items ws)) _ _ (popped_pushed items ws count long)
      ∙ given_is (write_words offset items words) _ _ (write_there offset items words room)
      ∙ given_is (set_at variable (Words new) vs) _ _ (set_there variable (Words new) vs (slice_get_within vs variable v held)))
      (h (zip_set (HeldFits C.sizes) (all_sizes C) vs variable size (Words new) fit sized (with_words_long offset items words room ∙ total)))

  -- ---- the state

  abbrev pub with_state : (D : Run C) (state : List ℤ) → length state ≡ C.long → Run C
  with_state D state long = record { calls = D.calls; knows = D.knows; good = D.good; state = state; is_long = long; input = D.input; lines = D.lines; replied = D.replied }

  pub keeps : (n : ℕ) (D : Run C) (p : ℕ) (items ws : List ℤ) (fs : List (Flow Held)) (vs : List Held) (offset count : ℕ) → Is C p (instr.Keep offset count) → has_object C.image C.code ≡ true → length items ≡ count → offset + count ≤ C.long
      → ((E : Run C) → Later C D E → (m : ℕ) → m < n → At C m E (p + 1) ws fs vs) → At C n D p (pushed items ws) fs vs
  keeps n D p items ws fs vs offset count is has long inside h =
      let exact = D.is_long in
      let room : offset + length items ≤ length D.state = omega (arith, exact, long, inside) in
      let next = with_state D (with_words offset items D.state) (with_words_long offset items D.state room ∙ exact) in
      performs C n D p (pushed items ws) fs vs (instr.Keep offset count) (frames.Goes (frame C next (p + 1) ws fs vs)) is
      (true_is (has_object C.image C.code) _ has
      ∙ given_is (popped_all count (pushed items ws)) _ _ (popped_pushed items ws count long)
      ∙ given_is (write_words offset items D.state) _ _ (write_there offset items D.state room))
      (h next (record { keeps = λ result words e. e }))

  -- ---- flow values and results

  pub drops : (n : ℕ) (D : Run C) (p : ℕ) (ws : List ℤ) (fs : List (Flow Held)) (vs : List Held) (flow : Flow Held) → Is C p instr.DropFlow → Onward C n D (p + 1) ws fs vs → At C n D p ws (flow ∷ fs) vs
  drops n D p ws fs vs flow is h = performs C n D p ws (flow ∷ fs) vs instr.DropFlow (frames.Goes (frame C D (p + 1) ws fs vs)) is refl h

  -- a result is given once, and a second one traps
  pub gives : (n : ℕ) (D : Run C) (p : ℕ) (ws : List ℤ) (fs : List (Flow Held)) (vs : List Held) (line count : ℕ) (v : Held) → Is C p (instr.Reply line) → given_words C.image C.code ≡ Some count
      → ((E : Run C) → Later C D E → (m : ℕ) → m < n → At C m E (p + 1) ws fs vs) → At C n D p ws (record { value = v; words = count } ∷ fs) vs
  gives n D p ws fs vs line count v is words h = by_given D.replied refl where
    top : List (Flow Held)
    top = record { value = v; words = count } ∷ fs

    replied : Run C
    replied = record { calls = D.calls; knows = D.knows; good = D.good; state = D.state; is_long = D.is_long; input = D.input; lines = D.lines; replied = true }

    step : does (framed D.knows) (x C) (instr.Reply line) (frame C D p ws (record { value = v; words = count } ∷ fs) vs)
        ≡ (if D.replied then steps.traps Twice line (frame C D p ws (record { value = v; words = count } ∷ fs) vs)
        else steps.stops (frames.Replies v) (frame C (record { calls = D.calls; knows = D.knows; good = D.good; state = D.state; is_long = D.is_long; input = D.input; lines = D.lines; replied = true }) (p + 1) ws fs vs))
    step = given_is (given_words C.image C.code) count _ words ∙ true_is (count == count) _ (same_number count)

    by_given : (b : Bool) → D.replied ≡ b → At C n D p ws (record { value = v; words = count } ∷ fs) vs
    by_given true e =
        performs C n D p ws (record { value = v; words = count } ∷ fs) vs (instr.Reply line) (frames.Stops (frames.Traps (record { kind = Twice; line = line })) (frame C D p ws (record { value = v; words = count } ∷ fs) vs)) is
        (step ∙ Rattle.mpl_gen_code.proofs.Popping.if_true _ _ e) (λ m less. tt)
    by_given false e =
        performs C n D p ws (record { value = v; words = count } ∷ fs) vs (instr.Reply line)
        (frames.Stops (frames.Replies v) (frame C (record { calls = D.calls; knows = D.knows; good = D.good; state = D.state; is_long = D.is_long; input = D.input; lines = D.lines; replied = true }) (p + 1) ws fs vs)) is
        (step ∙ Rattle.mpl_gen_code.proofs.Popping.if_false _ _ e)
        (h (record { calls = D.calls; knows = D.knows; good = D.good; state = D.state; is_long = D.is_long; input = D.input; lines = D.lines; replied = true }) (record { keeps = λ result words e. e }))

  -- a new object
  pub creates : (n : ℕ) (D : Run C) (p : ℕ) (ws : List ℤ) (fs : List (Flow Held)) (vs : List Held) (class : ℕ) (raw : RawClass) → Is C p (instr.Create class) → may_post C.image C.code ≡ true → slice_get C.image.classes class ≡ Some raw → raw.regular ≡ false
      → ((object : ℤ) → Onward C n D (p + 1) (object ∷ ws) fs vs) → At C n D p ws fs vs
  creates n D p ws fs vs class raw is may there regular h =
      performs C n D p ws fs vs (instr.Create class) (frames.Stops (frames.Creates class) (frame C D (p + 1) ws fs vs)) is
      (true_is (may_post C.image C.code) _ may ∙ given_is (slice_get C.image.classes class) raw _ there ∙ true_is (not raw.regular) _ (ap not regular))
      (λ m less object. h object m less)

  -- the end of a body
  pub ends : (n : ℕ) (D : Run C) (p : ℕ) (ws : List ℤ) (fs : List (Flow Held)) (vs : List Held) (line : ℕ) → Is C p (instr.End line) → At C n D p ws fs vs
  ends n D p ws fs vs line is = performs C n D p ws fs vs (instr.End line) (frames.Stops (frames.Ends line) (frame C D p ws fs vs)) is refl (λ m less. tt)
