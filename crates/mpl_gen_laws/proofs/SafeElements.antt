-- An element that is stored is safe in a frame alone, where it is safe behind it.
use Rattle.std.proofs.Common.{◌≡◌, ◌≤◌, ◌<◌, ℕ, ◌+◌, true, List, [], ◌∷◌, length, Option, Some, None, ℤ, pos, refl, ap, sym, subst, arith, ◌∙◌}
use Rattle.std.proofs.lemmas.List.{length-replicate}
use Rattle.std.proofs.lemmas.Option.{slice_get_within}
use Rattle.std.specs.List.{slice_get, slice_set, slice_index_or}
use Rattle.mpl_value.specs.Words.{index_below, with_words, words_at, zeros}
use Rattle.mpl_value.specs.declared.body.Arg.TheVariants as arg
use Rattle.mpl_value.specs.declared.known.TrapKind.TheVariants.{Index}
use Rattle.mpl_mean.proofs.Sizes.SizedStores.{with_words_long, words_at_long}
use Rattle.mdf_code.specs.Alone.{Held, Words, framed, seen_by}
use Rattle.mdf_code.specs.Frames.{Flow}
use Rattle.mdf_code.specs.Frames as frames
use Rattle.mdf_code.specs.Parts.{has_object}
use Rattle.mdf_code.specs.Stacks.{given, known_words_of, popped_all, pushed, read_words, set_at, write_words}
use Rattle.mdf_code.specs.Steps.{Does, does}
use Rattle.mdf_code.specs.Steps as steps
use Rattle.mdf_code.specs.declared.instr.Instr.TheVariants as instr
use Rattle.mpl_gen_code.specs.StatementCode.{tests_index}
use Rattle.mpl_gen_code.proofs.Operators.{index_inside}
use Rattle.mpl_gen_code.proofs.Places.{element_at}
use Rattle.mpl_gen_code.proofs.Popping.{given_is, popped_pushed, read_there, set_there, true_is, write_there}
use Rattle.mpl_gen_code.proofs.Reaching.{From}
use Rattle.mpl_gen_laws.specs.SafeFrames.{HeldFits}
use Rattle.mpl_gen_laws.proofs.Loosened.{got_other, got_set}
use Rattle.mpl_gen_laws.proofs.SafeSteps.{At, Is, Later, Onward, Run, Scene, VarsFit, all_sizes, frame, known_long, performs, text, x, zip_get, zip_set}
use Rattle.mpl_gen_laws.proofs.SafeStores.{clears, sets, with_state}

module _ (C : Scene) where
  -- a place is safe with whatever words this variable holds
  abbrev pub ThenStored : ℕ → Run C → ℕ → List ℤ → List (Flow Held) → List Held → ℕ → Type 0
  ThenStored n D q ws fs vs variable = (new : List ℤ) → VarsFit C (slice_set vs variable (Words new)) → Onward C n D q ws fs (slice_set vs variable (Words new))

  -- with the index and the zeros in their variables
  abbrev pub behind_test : ℕ → ℕ → ℤ → List Held → List Held
  behind_test hidden count i vs = slice_set (slice_set vs hidden (Words (i ∷ []))) (hidden + 1) (Words (zeros count))

  -- an element of a variable that is known
  pub stores_indexed : (n : ℕ) (D : Run C) (p : ℕ) (w i : ℤ) (ws : List ℤ) (fs : List (Flow Held)) (vs : List Held) (variable offset count line size : ℕ) (v : Held) (words : List ℤ) → Is C p (instr.StoreIndexed variable offset count line)
      → slice_get (all_sizes C) variable ≡ Some size → slice_get vs variable ≡ Some v → HeldFits C.sizes size v → seen_by D.knows v ≡ arg.Know words → offset + count ≤ size → VarsFit C vs
      → ThenStored n D (p + 1) ws fs vs variable → At C n D p (i ∷ w ∷ ws) fs vs
  stores_indexed n D p w i ws fs vs variable offset count line size v words is sized held fits known inside fit h = by_index (index_below count i) refl where
    total : length words ≡ size
    total = known_long C D size v words fits known

    room : offset + count ≤ length words
    room = omega (arith, total, inside)

    stored : ℕ → Does Held
    stored n = steps.stores (framed D.knows) variable (write_words (offset + n) (w ∷ []) words) (frame C D p ws fs vs)

    found : does (framed D.knows) (x C) (instr.StoreIndexed variable offset count line) (frame C D p (i ∷ w ∷ ws) fs vs) ≡ steps.indexed count i line (frame C D p (i ∷ w ∷ ws) fs vs) stored
    found =
        given_is (slice_get vs variable) v _ held
        ∙ given_is (known_words_of (seen_by D.knows v)) words _ (ap known_words_of known)
        ∙ given_is (read_words offset count words) _ _ (read_there offset count words room)

    by_index : (o : Option ℕ) → index_below count i ≡ o → At C n D p (i ∷ w ∷ ws) fs vs
    by_index None e =
        performs C n D p (i ∷ w ∷ ws) fs vs (instr.StoreIndexed variable offset count line) (frames.Stops (frames.Traps (record { kind = Index; line = line })) (frame C D p (i ∷ w ∷ ws) fs vs)) is
        (found ∙ ap (λ (o : Option ℕ). steps.at_index o line (frame C D p (i ∷ w ∷ ws) fs vs) stored) e) (λ m less. tt)
    by_index (Some at) e =
        let enough : at < count = index_inside count i at e in
        let there : offset + at + 1 ≤ length words = omega (arith, room, enough) in
        let new = with_words (offset + at) (w ∷ []) words in
        performs C n D p (i ∷ w ∷ ws) fs vs (instr.StoreIndexed variable offset count line) (frames.Goes (frame C D (p + 1) ws fs (slice_set vs variable (Words new)))) is
        (found
        ∙ ap (λ (o : Option ℕ). steps.at_index o line (frame C D p (i ∷ w ∷ ws) fs vs) stored) e
        ∙ given_is (write_words (offset + at) (w ∷ []) words) _ _ (write_there (offset + at) (w ∷ []) words there)
        ∙ given_is (set_at variable (Words new) vs) _ _ (set_there variable (Words new) vs (slice_get_within vs variable v held)))
        (h new (zip_set (HeldFits C.sizes) (all_sizes C) vs variable size (Words new) fit sized (with_words_long (offset + at) (w ∷ []) words there ∙ total)))

  -- an element of the state
  pub keeps_indexed : (n : ℕ) (D : Run C) (p : ℕ) (w i : ℤ) (ws : List ℤ) (fs : List (Flow Held)) (vs : List Held) (offset count line : ℕ) → Is C p (instr.KeepIndexed offset count line) → has_object C.image C.code ≡ true → offset + count ≤ C.long
      → ((E : Run C) → Later C D E → (m : ℕ) → m < n → At C m E (p + 1) ws fs vs) → At C n D p (i ∷ w ∷ ws) fs vs
  keeps_indexed n D p w i ws fs vs offset count line is has inside h = by_index (index_below count i) refl where
    exact : length D.state ≡ C.long
    exact = D.is_long

    room : offset + count ≤ length D.state
    room = omega (arith, exact, inside)

    kept : ℕ → Does Held
    kept n = steps.goes_keeping (write_words (offset + n) (w ∷ []) D.state) (frame C D p ws fs vs)

    found : does (framed D.knows) (x C) (instr.KeepIndexed offset count line) (frame C D p (i ∷ w ∷ ws) fs vs) ≡ steps.indexed count i line (frame C D p (i ∷ w ∷ ws) fs vs) kept
    found = true_is (has_object C.image C.code) _ has ∙ given_is (read_words offset count D.state) _ _ (read_there offset count D.state room)

    by_index : (o : Option ℕ) → index_below count i ≡ o → At C n D p (i ∷ w ∷ ws) fs vs
    by_index None e =
        performs C n D p (i ∷ w ∷ ws) fs vs (instr.KeepIndexed offset count line) (frames.Stops (frames.Traps (record { kind = Index; line = line })) (frame C D p (i ∷ w ∷ ws) fs vs)) is
        (found ∙ ap (λ (o : Option ℕ). steps.at_index o line (frame C D p (i ∷ w ∷ ws) fs vs) kept) e) (λ m less. tt)
    by_index (Some at) e =
        let enough : at < count = index_inside count i at e in
        let there : offset + at + 1 ≤ length D.state = omega (arith, room, enough) in
        let next = with_state C D (with_words (offset + at) (w ∷ []) D.state) (with_words_long (offset + at) (w ∷ []) D.state there ∙ exact) in
        performs C n D p (i ∷ w ∷ ws) fs vs (instr.KeepIndexed offset count line) (frames.Goes (frame C next (p + 1) ws fs vs)) is
        (found
        ∙ ap (λ (o : Option ℕ). steps.at_index o line (frame C D p (i ∷ w ∷ ws) fs vs) kept) e
        ∙ given_is (write_words (offset + at) (w ∷ []) D.state) _ _ (write_there (offset + at) (w ∷ []) D.state there))
        (h next (record { keeps = λ result words e. e }))

  -- ---- words on top that go

  pub drops_words : (n : ℕ) (D : Run C) (p count : ℕ) (items ws : List ℤ) (fs : List (Flow Held)) (vs : List Held) → Is C p (instr.Drop count) → length items ≡ count → Onward C n D (p + 1) ws fs vs → At C n D p (pushed items ws) fs vs
  drops_words n D p count items ws fs vs is long h =
      performs C n D p (pushed items ws) fs vs (instr.Drop count) (frames.Goes (frame C D (p + 1) ws fs vs)) is (given_is (popped_all count (pushed items ws)) _ _ (popped_pushed items ws count long)) h

  -- ---- an index that is tested

  pub loads_words : (n : ℕ) (D : Run C) (p variable : ℕ) (words ws : List ℤ) (fs : List (Flow Held)) (vs : List Held) → Is C p (instr.Load variable 0 (length words)) → slice_get vs variable ≡ Some (Words words)
      → Onward C n D (p + 1) (pushed (words_at 0 (length words) words) ws) fs vs → At C n D p ws fs vs
  loads_words n D p variable words ws fs vs is held h =
      performs C n D p ws fs vs (instr.Load variable 0 (length words)) (frames.Goes (frame C D (p + 1) (pushed (words_at 0 (length words) words) ws) fs vs)) is
      (given_is (slice_get vs variable) (Words words) _ held ∙ given_is (read_words 0 (length words) words) _ _ (read_there 0 (length words) words (let e : 0 + length words ≤ length words = omega arith in e))) h

  loads_indexed : (n : ℕ) (D : Run C) (p variable count line : ℕ) (words : List ℤ) (i : ℤ) (ws : List ℤ) (fs : List (Flow Held)) (vs : List Held) → Is C p (instr.LoadIndexed variable 0 count line) → slice_get vs variable ≡ Some (Words words) → length words ≡ count
      → ((w : ℤ) → Onward C n D (p + 1) (w ∷ ws) fs vs) → At C n D p (i ∷ ws) fs vs
  loads_indexed n D p variable count line words i ws fs vs is held long h = by_index (index_below count i) refl where
    room : 0 + count ≤ length words
    room = omega (arith, long)

    array : List ℤ
    array = words_at 0 count words

    array_long : length array ≡ count
    array_long = words_at_long 0 count words room

    rest : ℕ → Does Held
    rest k = given (read_words k 1 array) (λ words. steps.goes_with (pushed words ws) (frame C D p (i ∷ ws) fs vs))

    found : does (framed D.knows) (x C) (instr.LoadIndexed variable 0 count line) (frame C D p (i ∷ ws) fs vs) ≡ steps.indexed count i line (frame C D p (i ∷ ws) fs vs) rest
    found = given_is (slice_get vs variable) (Words words) _ held ∙ given_is (read_words 0 count words) _ _ (read_there 0 count words room)

    by_index : (o : Option ℕ) → index_below count i ≡ o → At C n D p (i ∷ ws) fs vs
    by_index None e =
        performs C n D p (i ∷ ws) fs vs (instr.LoadIndexed variable 0 count line) (frames.Stops (frames.Traps (record { kind = Index; line = line })) (frame C D p (i ∷ ws) fs vs)) is
        (found ∙ ap (λ (o : Option ℕ). steps.at_index o line (frame C D p (i ∷ ws) fs vs) rest) e) (λ m less. tt)
    by_index (Some at) e =
        let enough : at < count = index_inside count i at e in
        let w = slice_index_or array at (pos 0) in
        performs C n D p (i ∷ ws) fs vs (instr.LoadIndexed variable 0 count line) (frames.Goes (frame C D (p + 1) (w ∷ ws) fs vs)) is
        (found
        ∙ ap (λ (o : Option ℕ). steps.at_index o line (frame C D p (i ∷ ws) fs vs) rest) e
        ∙ given_is (read_words at 1 array) (words_at at 1 array) _ (read_there at 1 array (omega (arith, enough, array_long)))
        ∙ ap (λ (words : List ℤ). Some (frames.Goes (frame C D (p + 1) (pushed words ws) fs vs))) (element_at at array (omega (arith, enough, array_long))))
        (h w)

  -- the variable without a name holds the index behind its test
  pub index_tested : (n : ℕ) (D : Run C) (line hidden count p q : ℕ) (i : ℤ) (ws : List ℤ) (fs : List (Flow Held)) (vs : List Held) → From (text C) p (tests_index line hidden count p) q
      → slice_get (all_sizes C) hidden ≡ Some 1 → slice_get (all_sizes C) (hidden + 1) ≡ Some count → VarsFit C vs
      → (VarsFit C (behind_test hidden count i vs) → slice_get (behind_test hidden count i vs) hidden ≡ Some (Words (i ∷ [])) → Onward C n D q ws fs (behind_test hidden count i vs)) → At C n D p (i ∷ ws) fs vs
  index_tested n D line hidden count p q i ws fs vs from first_size second_size fit h =
      performs C n D p (i ∷ ws) fs vs (instr.ArgWords 1) (frames.Goes (frame C D (p + 1) ws (record { value = Words (i ∷ []); words = 1 } ∷ fs) vs)) from.0
      (given_is (popped_all 1 (pushed (i ∷ []) ws)) _ _ (popped_pushed (i ∷ []) ws 1 refl))
      (λ a a_less.
      sets C a D (p + 1) ws fs vs hidden 1 (Words (i ∷ [])) from.1.0 first_size refl fit
      (λ fit1 b b_less.
      clears C b D (p + 1 + 1) ws fs vs1 (hidden + 1) count from.1.1.0 second_size fit1
      (λ fit2 d d_less.
      let in_first = zip_get (HeldFits C.sizes) (all_sizes C) vs hidden 1 fit first_size in
      let in_second = zip_get (HeldFits C.sizes) (all_sizes C) vs1 (hidden + 1) count fit1 second_size in
      let held_index : slice_get vs2 hidden ≡ Some (Words (i ∷ [])) = got_other vs1 hidden (hidden + 1) (Words (zeros count)) (λ e. absurd (omega arith)) ∙ got_set vs hidden (Words (i ∷ [])) in_first.3 in
      let held_zeros : slice_get vs2 (hidden + 1) ≡ Some (Words (zeros count)) = got_set vs1 (hidden + 1) (Words (zeros count)) in_second.3 in
      loads_words d D (p + 1 + 1 + 1) hidden (i ∷ []) ws fs vs2 from.1.1.1.0 held_index
      (λ e e_less.
      loads_indexed e D (p + 1 + 1 + 1 + 1) (hidden + 1) count line (zeros count) i ws fs vs2 from.1.1.1.1.0 held_zeros (length-replicate count (pos 0))
      (λ w g g_less.
      drops_words g D (p + 1 + 1 + 1 + 1 + 1) 1 (w ∷ []) ws fs vs2 from.1.1.1.1.1.0 refl
      (λ k k_less.
      let there : p + 1 + 1 + 1 + 1 + 1 + 1 ≡ q = from.1.1.1.1.1.1 in
      subst (λ r. At C k D r ws fs vs2) (sym there) (h fit2 held_index k (omega (arith, a_less, b_less, d_less, e_less, g_less, k_less))))))))) where
        vs1 : List Held
        vs1 = slice_set vs hidden (Words (i ∷ []))

        vs2 : List Held
        vs2 = slice_set vs1 (hidden + 1) (Words (zeros count))
