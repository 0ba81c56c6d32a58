-- What a body comes to that stands at an instruction, from what it comes to behind it.
use Rattle.std.proofs.Common.{◌≡◌, ◌≤◌, ◌<◌, ℕ, ◌+◌, true, false, List, [], ◌∷◌, length, Option, Some, None, ℤ, pos, Result, Ok, Err, refl, ap, sym, subst, ◌∙◌}
use Rattle.std.specs.List.{slice_get, slice_set}
use Rattle.std.specs.Ordering.{int_eq}
use Rattle.mpl_value.specs.Words.{index_below, with_words, words_at, zeros}
use Rattle.mpl_value.specs.declared.body.Arg.{Arg}
use Rattle.mpl_value.specs.declared.body.Arg.TheVariants as arg
use Rattle.mpl_value.specs.declared.body.BodyEnd.TheVariants as end
use Rattle.mpl_value.specs.declared.known.Trap.{Trap}
use Rattle.mpl_value.specs.declared.known.TrapKind.{TrapKind}
use Rattle.mpl_value.specs.declared.known.TrapKind.TheVariants.{Index, NoInput}
use Rattle.mpl_mean.specs.Meaning.Store.{Store}
use Rattle.mdf_code.specs.Frames.{Caller, Code, Flow, Frame, Next}
use Rattle.mdf_code.specs.Frames as frames
use Rattle.mdf_code.specs.Parts.{has_object, has_state, is_main, is_place, sizes_at, text_at}
use Rattle.mdf_code.specs.Stacks.{given, popped_all, pushed, read_words, set_at, write_words}
use Rattle.mdf_code.specs.Steps.{computed, or_strays}
use Rattle.mdf_code.specs.Steps as steps
use Rattle.mdf_code.specs.Yields.{around, in_place, with_frame}
use Rattle.mdf_code.specs.declared.instr.Instr.{Instr}
use Rattle.mdf_code.specs.declared.instr.Instr.TheVariants as instr
use Rattle.mpl_gen_code.proofs.Popping.{given_is, if_false, if_true, popped_pushed, read_there, set_there, true_is, write_there}
use Rattle.mpl_gen_code.proofs.Reaching.{Acts, Point, Reaches, Run, Stopped, body_at, frame_at, performing}

module _ (K : Run) where
  abbrev pub point : ℕ → List ℤ → List (Flow Arg) → List Arg → Point
  point place ws fs vs = record { code = K.here.code; place = place; words = ws; flows = fs; variables = vs; callers = K.here.callers }

  -- from here the body comes to where it is to come, whatever calls were made
  abbrev pub At : ℕ → List ℤ → List (Flow Arg) → List Arg → Store → Type 0
  At place ws fs vs s = (sent : ℕ) → Reaches K.whole (body_at (point place ws fs vs) sent s)

  -- an instruction of the code
  abbrev pub Is : ℕ → Instr → Type 0
  Is place i = slice_get (text_at K.whole.setting.image K.here.code) place ≡ Some i

  abbrev frame : ℕ → List ℤ → List (Flow Arg) → List Arg → Store → Frame Arg
  frame place ws fs vs s = frame_at (point place ws fs vs) s

  abbrev does : Instr → Frame Arg → Option (Next Arg)
  does i f = steps.does in_place (around K.whole.setting) i f

  -- ---- how a step ends

  pub goes : (p : ℕ) (ws : List ℤ) (fs : List (Flow Arg)) (vs : List Arg) (s : Store) (i : Instr) (q : ℕ) (xs : List ℤ) (gs : List (Flow Arg)) (us : List Arg) (t : Store) → Is p i
      → does i (frame p ws fs vs s) ≡ Some (frames.Goes (frame q xs gs us t))
      → ((sent : ℕ) → with_frame (frame q xs gs us t) (body_at (point p ws fs vs) sent s) ≡ body_at (point q xs gs us) sent t)
      → At q xs gs us t → At p ws fs vs s
  goes p ws fs vs s i q xs gs us t is e same h sent =
      performing K.whole (body_at (point p ws fs vs) sent s) i is
      (subst (λ (o : Option (Next Arg)). Acts K.whole (body_at (point p ws fs vs) sent s) (or_strays (frame p ws fs vs s) o)) (sym e)
      (subst (Reaches K.whole) (sym (same sent)) (h sent)))

  pub traps : (p : ℕ) (ws : List ℤ) (fs : List (Flow Arg)) (vs : List Arg) (s : Store) (i : Instr) (t : Trap) (q : ℕ) (xs : List ℤ) (gs : List (Flow Arg)) (us : List Arg) → Is p i
      → does i (frame p ws fs vs s) ≡ Some (frames.Stops (frames.Traps t) (frame q xs gs us s)) → Stopped K.whole (end.Trap t) s → At p ws fs vs s
  traps p ws fs vs s i t q xs gs us is e h sent =
      performing K.whole (body_at (point p ws fs vs) sent s) i is
      (subst (λ (o : Option (Next Arg)). Acts K.whole (body_at (point p ws fs vs) sent s) (or_strays (frame p ws fs vs s) o)) (sym e)
      (0, _, refl, h (point q xs gs us) sent))

  pub needs : (p : ℕ) (ws : List ℤ) (fs : List (Flow Arg)) (vs : List Arg) (s : Store) (i : Instr) → Is p i
      → does i (frame p ws fs vs s) ≡ Some (frames.Stops (frames.Needs arg.Unknown) (frame p ws fs vs s)) → Stopped K.whole end.Waits s → At p ws fs vs s
  needs p ws fs vs s i is e h sent =
      performing K.whole (body_at (point p ws fs vs) sent s) i is
      (subst (λ (o : Option (Next Arg)). Acts K.whole (body_at (point p ws fs vs) sent s) (or_strays (frame p ws fs vs s) o)) (sym e)
      (0, _, refl, h (point p ws fs vs) sent))

  -- ---- words

  module _ (p : ℕ) (ws : List ℤ) (fs : List (Flow Arg)) (vs : List Arg) (s : Store) where
    pub pushes : (w : ℤ) → Is p (instr.Push w) → At (p + 1) (w ∷ ws) fs vs s → At p ws fs vs s
    pushes w is = goes p ws fs vs s (instr.Push w) (p + 1) (w ∷ ws) fs vs s is refl (λ _. refl)

    pub drops : (count : ℕ) (items : List ℤ) → length items ≡ count → Is p (instr.Drop count) → At (p + 1) ws fs vs s → At p (pushed items ws) fs vs s
    drops count items long is =
        goes p (pushed items ws) fs vs s (instr.Drop count) (p + 1) ws fs vs s is
        (given_is (popped_all count (pushed items ws)) _ _ (popped_pushed items ws count long)) (λ _. refl)

    pub computes : (i : Instr) (line : ℕ) (operation : ℤ → ℤ → Result ℤ TrapKind) (a b : ℤ)
        → does i (frame p (b ∷ a ∷ ws) fs vs s) ≡ computed line (operation a b) ws (frame p (b ∷ a ∷ ws) fs vs s) → Is p i
        → ((z : ℤ) → operation a b ≡ Ok z → At (p + 1) (z ∷ ws) fs vs s)
        → ((kind : TrapKind) → operation a b ≡ Err kind → Stopped K.whole (end.Trap (record { kind = kind; line = line })) s)
        → At p (b ∷ a ∷ ws) fs vs s
    computes i line operation a b e is ok err = by_result (operation a b) refl where
      by_result : (r : Result ℤ TrapKind) → operation a b ≡ r → At p (b ∷ a ∷ ws) fs vs s
      by_result (Ok z) h =
          goes p (b ∷ a ∷ ws) fs vs s i (p + 1) (z ∷ ws) fs vs s is (e ∙ ap (λ (r : Result ℤ TrapKind). computed line r ws (frame p (b ∷ a ∷ ws) fs vs s)) h) (λ _. refl) (ok z h)
      by_result (Err kind) h =
          traps p (b ∷ a ∷ ws) fs vs s i (record { kind = kind; line = line }) p (b ∷ a ∷ ws) fs vs is (e ∙ ap (λ (r : Result ℤ TrapKind). computed line r ws (frame p (b ∷ a ∷ ws) fs vs s)) h) (err kind h)

    -- ---- variables and the state

    pub loads : (n offset count : ℕ) (held : List ℤ) → slice_get vs n ≡ Some (arg.Know held) → offset + count ≤ length held → Is p (instr.Load n offset count)
        → At (p + 1) (pushed (words_at offset count held) ws) fs vs s → At p ws fs vs s
    loads n offset count held e inside is =
        goes p ws fs vs s (instr.Load n offset count) (p + 1) (pushed (words_at offset count held) ws) fs vs s is
        (given_is (slice_get vs n) (arg.Know held) _ e ∙ given_is (read_words offset count held) _ _ (read_there offset count held inside)) (λ _. refl)

    pub fetches : (offset count : ℕ) → has_state K.whole.setting.image K.here.code ≡ true → offset + count ≤ length s.state → Is p (instr.Fetch offset count)
        → At (p + 1) (pushed (words_at offset count s.state) ws) fs vs s → At p ws fs vs s
    fetches offset count has inside is =
        goes p ws fs vs s (instr.Fetch offset count) (p + 1) (pushed (words_at offset count s.state) ws) fs vs s is
        (true_is (has_state K.whole.setting.image K.here.code) _ has ∙ given_is (read_words offset count s.state) _ _ (read_there offset count s.state inside)) (λ _. refl)

    pub stores : (n offset count : ℕ) (held items : List ℤ) → slice_get vs n ≡ Some (arg.Know held) → n < length vs → length items ≡ count → offset + count ≤ length held
        → Is p (instr.Store n offset count)
        → At (p + 1) ws fs (slice_set vs n (arg.Know (with_words offset items held))) s → At p (pushed items ws) fs vs s
    stores n offset count held items e there long inside is =
        let written = write_there offset items held (subst (λ (k : ℕ). offset + k ≤ length held) (sym long) inside) in
        goes p (pushed items ws) fs vs s (instr.Store n offset count) (p + 1) ws fs (slice_set vs n (arg.Know (with_words offset items held))) s is
        (given_is (slice_get vs n) (arg.Know held) _ e
        ∙ given_is (popped_all count (pushed items ws)) _ _ (popped_pushed items ws count long)
        ∙ given_is (write_words offset items held) _ _ written
        ∙ given_is (set_at n (arg.Know (with_words offset items held)) vs) _ _ (set_there n _ vs there))
        (λ _. refl)

    pub keeps : (offset count : ℕ) (items : List ℤ) → has_object K.whole.setting.image K.here.code ≡ true → length items ≡ count → offset + count ≤ length s.state
        → Is p (instr.Keep offset count)
        → At (p + 1) ws fs vs (record s { state = with_words offset items s.state }) → At p (pushed items ws) fs vs s
    keeps offset count items has long inside is =
        let written = write_there offset items s.state (subst (λ (k : ℕ). offset + k ≤ length s.state) (sym long) inside) in
        goes p (pushed items ws) fs vs s (instr.Keep offset count) (p + 1) ws fs vs (record s { state = with_words offset items s.state }) is
        (true_is (has_object K.whole.setting.image K.here.code) _ has
        ∙ given_is (popped_all count (pushed items ws)) _ _ (popped_pushed items ws count long)
        ∙ given_is (write_words offset items s.state) _ _ written)
        (λ _. refl)

    pub zeroes : (n size : ℕ) → slice_get (sizes_at K.whole.setting.image K.here.code) n ≡ Some size → n < length vs → Is p (instr.Zero n)
        → At (p + 1) ws fs (slice_set vs n (arg.Know (zeros size))) s → At p ws fs vs s
    zeroes n size e there is =
        goes p ws fs vs s (instr.Zero n) (p + 1) ws fs (slice_set vs n (arg.Know (zeros size))) s is
        (given_is (slice_get (sizes_at K.whole.setting.image K.here.code) n) size _ e ∙ given_is (set_at n (arg.Know (zeros size)) vs) _ _ (set_there n _ vs there)) (λ _. refl)

    -- ---- indices

    pub loads_element : (n offset count line : ℕ) (held : List ℤ) (i : ℤ) (at : ℕ) → slice_get vs n ≡ Some (arg.Know held) → offset + count ≤ length held → index_below count i ≡ Some at
        → at + 1 ≤ length (words_at offset count held) → Is p (instr.LoadIndexed n offset count line)
        → At (p + 1) (pushed (words_at at 1 (words_at offset count held)) ws) fs vs s → At p (i ∷ ws) fs vs s
    loads_element n offset count line held i at e inside below there is =
        goes p (i ∷ ws) fs vs s (instr.LoadIndexed n offset count line) (p + 1) (pushed (words_at at 1 (words_at offset count held)) ws) fs vs s is
        (given_is (slice_get vs n) (arg.Know held) _ e
        ∙ given_is (read_words offset count held) _ _ (read_there offset count held inside)
        ∙ ap (λ (o : Option ℕ). steps.at_index o line (frame p (i ∷ ws) fs vs s) (λ k. given (read_words k 1 (words_at offset count held)) (λ words. steps.goes_with (pushed words ws) (frame p (i ∷ ws) fs vs s)))) below
        ∙ given_is (read_words at 1 (words_at offset count held)) _ _ (read_there at 1 (words_at offset count held) there))
        (λ _. refl)

    pub loads_outside : (n offset count line : ℕ) (held : List ℤ) (i : ℤ) → slice_get vs n ≡ Some (arg.Know held) → offset + count ≤ length held → index_below count i ≡ None
        → Is p (instr.LoadIndexed n offset count line)
        → Stopped K.whole (end.Trap (record { kind = Index; line = line })) s → At p (i ∷ ws) fs vs s
    loads_outside n offset count line held i e inside outside is =
        traps p (i ∷ ws) fs vs s (instr.LoadIndexed n offset count line) (record { kind = Index; line = line }) p (i ∷ ws) fs vs is
        (given_is (slice_get vs n) (arg.Know held) _ e
        ∙ given_is (read_words offset count held) _ _ (read_there offset count held inside)
        ∙ ap (λ (o : Option ℕ). steps.at_index o line (frame p (i ∷ ws) fs vs s) (λ k. given (read_words k 1 (words_at offset count held)) (λ words. steps.goes_with (pushed words ws) (frame p (i ∷ ws) fs vs s)))) outside)

    pub fetches_element : (offset count line : ℕ) (i : ℤ) (at : ℕ) → has_state K.whole.setting.image K.here.code ≡ true → offset + count ≤ length s.state → index_below count i ≡ Some at
        → at + 1 ≤ length (words_at offset count s.state) → Is p (instr.FetchIndexed offset count line)
        → At (p + 1) (pushed (words_at at 1 (words_at offset count s.state)) ws) fs vs s → At p (i ∷ ws) fs vs s
    fetches_element offset count line i at has inside below there is =
        goes p (i ∷ ws) fs vs s (instr.FetchIndexed offset count line) (p + 1) (pushed (words_at at 1 (words_at offset count s.state)) ws) fs vs s is
        (true_is (has_state K.whole.setting.image K.here.code) _ has
        ∙ given_is (read_words offset count s.state) _ _ (read_there offset count s.state inside)
        ∙ ap (λ (o : Option ℕ). steps.at_index o line (frame p (i ∷ ws) fs vs s) (λ k. given (read_words k 1 (words_at offset count s.state)) (λ words. steps.goes_with (pushed words ws) (frame p (i ∷ ws) fs vs s)))) below
        ∙ given_is (read_words at 1 (words_at offset count s.state)) _ _ (read_there at 1 (words_at offset count s.state) there))
        (λ _. refl)

    pub fetches_outside : (offset count line : ℕ) (i : ℤ) → has_state K.whole.setting.image K.here.code ≡ true → offset + count ≤ length s.state → index_below count i ≡ None
        → Is p (instr.FetchIndexed offset count line)
        → Stopped K.whole (end.Trap (record { kind = Index; line = line })) s → At p (i ∷ ws) fs vs s
    fetches_outside offset count line i has inside outside is =
        traps p (i ∷ ws) fs vs s (instr.FetchIndexed offset count line) (record { kind = Index; line = line }) p (i ∷ ws) fs vs is
        (true_is (has_state K.whole.setting.image K.here.code) _ has
        ∙ given_is (read_words offset count s.state) _ _ (read_there offset count s.state inside)
        ∙ ap (λ (o : Option ℕ). steps.at_index o line (frame p (i ∷ ws) fs vs s) (λ k. given (read_words k 1 (words_at offset count s.state)) (λ words. steps.goes_with (pushed words ws) (frame p (i ∷ ws) fs vs s)))) outside)

    -- ---- jumps

    pub jumps : (q : ℕ) → is_place K.whole.setting.image K.here.code q ≡ true → Is p (instr.Jump q) → At q ws fs vs s → At p ws fs vs s
    jumps q there is = goes p ws fs vs s (instr.Jump q) q ws fs vs s is (true_is (is_place K.whole.setting.image K.here.code q) _ there) (λ _. refl)

    pub passes_on : (q : ℕ) (w : ℤ) → is_place K.whole.setting.image K.here.code q ≡ true → int_eq w (pos 0) ≡ false → Is p (instr.JumpZero q) → At (p + 1) ws fs vs s → At p (w ∷ ws) fs vs s
    passes_on q w there other is =
        goes p (w ∷ ws) fs vs s (instr.JumpZero q) (p + 1) ws fs vs s is (true_is (is_place K.whole.setting.image K.here.code q) _ there ∙ if_false _ _ other) (λ _. refl)

    pub jumps_over : (q : ℕ) (w : ℤ) → is_place K.whole.setting.image K.here.code q ≡ true → int_eq w (pos 0) ≡ true → Is p (instr.JumpZero q) → At q ws fs vs s → At p (w ∷ ws) fs vs s
    jumps_over q w there is_zero is =
        goes p (w ∷ ws) fs vs s (instr.JumpZero q) q ws fs vs s is (true_is (is_place K.whole.setting.image K.here.code q) _ there ∙ if_true _ _ is_zero) (λ _. refl)

    -- ---- objects and the input

    pub own : has_object K.whole.setting.image K.here.code ≡ true → Is p instr.Own → At (p + 1) (K.whole.setting.object ∷ ws) fs vs s → At p ws fs vs s
    own has is = goes p ws fs vs s instr.Own (p + 1) (K.whole.setting.object ∷ ws) fs vs s is (true_is (has_object K.whole.setting.image K.here.code) _ has) (λ _. refl)

    pub reads : (line : ℕ) (z : ℤ) (zs : List ℤ) → s.input ≡ z ∷ zs → is_main K.here.code ≡ true → Is p (instr.Input line)
        → At (p + 1) (z ∷ ws) fs vs (record s { input = zs }) → At p ws fs vs s
    reads line z zs e main is =
        goes p ws fs vs s (instr.Input line) (p + 1) (z ∷ ws) fs vs (record s { input = zs }) is
        (true_is (is_main K.here.code) _ main ∙ ap (λ (input : List ℤ). steps.reads line input (frame p ws fs vs s)) e) (λ _. refl)

    pub reads_nothing : (line : ℕ) → s.input ≡ [] → is_main K.here.code ≡ true → Is p (instr.Input line)
        → Stopped K.whole (end.Trap (record { kind = NoInput; line = line })) s → At p ws fs vs s
    reads_nothing line e main is =
        traps p ws fs vs s (instr.Input line) (record { kind = NoInput; line = line }) p ws fs vs is
        (true_is (is_main K.here.code) _ main ∙ ap (λ (input : List ℤ). steps.reads line input (frame p ws fs vs s)) e)

    -- ---- what is needed

    pub needs_known : (n : ℕ) (words : List ℤ) → slice_get vs n ≡ Some (arg.Know words) → Is p (instr.Need n) → At (p + 1) ws fs vs s → At p ws fs vs s
    needs_known n words e is = goes p ws fs vs s (instr.Need n) (p + 1) ws fs vs s is (given_is (slice_get vs n) (arg.Know words) _ e) (λ _. refl)

    pub needs_trapped : (n : ℕ) (t : Trap) → slice_get vs n ≡ Some (arg.Trapped t) → Is p (instr.Need n) → Stopped K.whole (end.Trap t) s → At p ws fs vs s
    needs_trapped n t e is = traps p ws fs vs s (instr.Need n) t p ws fs vs is (given_is (slice_get vs n) (arg.Trapped t) _ e)

    pub needs_unknown : (n : ℕ) → slice_get vs n ≡ Some arg.Unknown → Is p (instr.Need n) → Stopped K.whole end.Waits s → At p ws fs vs s
    needs_unknown n e is = needs p ws fs vs s (instr.Need n) is (given_is (slice_get vs n) arg.Unknown _ e)

    -- ---- flow values

    pub argues_words : (count : ℕ) (items : List ℤ) → length items ≡ count → Is p (instr.ArgWords count)
        → At (p + 1) ws (record { value = arg.Know items; words = count } ∷ fs) vs s → At p (pushed items ws) fs vs s
    argues_words count items long is =
        goes p (pushed items ws) fs vs s (instr.ArgWords count) (p + 1) ws (record { value = arg.Know items; words = count } ∷ fs) vs s is
        (given_is (popped_all count (pushed items ws)) _ _ (popped_pushed items ws count long)) (λ _. refl)

    pub argues_variable : (n size : ℕ) (value : Arg) → slice_get (sizes_at K.whole.setting.image K.here.code) n ≡ Some size → slice_get vs n ≡ Some value → Is p (instr.ArgVariable n)
        → At (p + 1) ws (record { value = value; words = size } ∷ fs) vs s → At p ws fs vs s
    argues_variable n size value e held is =
        goes p ws fs vs s (instr.ArgVariable n) (p + 1) ws (record { value = value; words = size } ∷ fs) vs s is
        (given_is (slice_get (sizes_at K.whole.setting.image K.here.code) n) size _ e ∙ given_is (slice_get vs n) value _ held) (λ _. refl)
