-- What a body comes to that stands at an instruction of a statement, from what it comes to behind it.
use Rattle.std.proofs.Common.{◌≡◌, ◌≤◌, ◌<◌, ℕ, ◌+◌, ◌==◌, Bool, true, false, not, List, [], ◌∷◌, ◌++◌, length, Option, Some, None, ℤ, pos, refl, ap, sym, subst, ◌∙◌}
use Rattle.std.proofs.lemmas.Bool.{eq-eqb}
use Rattle.std.specs.List.{slice_get, slice_set}
use Rattle.mpl_value.specs.Results.{result_of}
use Rattle.mpl_value.specs.Words.{index_below, object_word, with_words}
use Rattle.mpl_value.specs.declared.body.Arg.{Arg}
use Rattle.mpl_value.specs.declared.body.Arg.TheVariants as arg
use Rattle.mpl_value.specs.declared.body.BodyEnd.TheVariants as end
use Rattle.mpl_value.specs.declared.known.Trap.{Trap}
use Rattle.mpl_value.specs.declared.known.TrapKind.TheVariants.{Index, NoReply, Twice}
use Rattle.mpl_mean.specs.Meaning.Store.{Store, spend}
use Rattle.mdf_code.specs.Frames.{Caller, Flow, Next}
use Rattle.mdf_code.specs.Parts.{function_of, given_words, has_object, is_main, may_post, sizes_at}
use Rattle.mdf_code.specs.Stacks.{popped_all, pushed, read_words, set_at, write_words}
use Rattle.mdf_code.specs.Steps.{line_of, or_strays}
use Rattle.mdf_code.specs.Steps as steps
use Rattle.mdf_code.specs.Yields.{creates, exec, in_place}
use Rattle.mdf_code.specs.declared.instr.Instr.TheVariants as instr
use Rattle.mdf_code.specs.declared.raw.RawClass.{RawClass}
use Rattle.mdf_code.specs.declared.raw.RawFunction.{RawFunction}
use Rattle.mpl_checked.specs.Checked.CheckedSteps.{CheckedStep, Meant, goes_on}
use Rattle.mpl_gen_code.proofs.Calling.{Bounded, spends_comes}
use Rattle.mpl_gen_code.proofs.Instructions.{At, Is, goes, needs, point, traps}
use Rattle.mpl_gen_code.proofs.Popping.{given_is, if_false, if_true, popped_pushed, read_there, set_there, true_is, write_there}
use Rattle.mpl_gen_code.proofs.Reaching.{Acts, Comes, IsDone, Reaches, Run, Stopped, back_at, body_at, frame_at, performing, was_given}

module _ (K : Run) (p : ℕ) (ws : List ℤ) (fs : List (Flow Arg)) (vs : List Arg) (s : Store) where
  -- ---- flow values

  pub sets_variable : (n size words : ℕ) (value : Arg) → slice_get (sizes_at K.whole.setting.image K.here.code) n ≡ Some size → words ≡ size → n < length vs → Is K p (instr.SetVariable n)
      → At K (p + 1) ws fs (slice_set vs n value) s → At K p ws (record { value = value; words = words } ∷ fs) vs s
  sets_variable n size words value e same there is =
      goes K p ws (record { value = value; words = words } ∷ fs) vs s (instr.SetVariable n) (p + 1) ws fs (slice_set vs n value) s is
      (given_is (slice_get (sizes_at K.whole.setting.image K.here.code) n) size _ e ∙ true_is (words == size) _ (eq-eqb words size same) ∙ given_is (set_at n value vs) _ _ (set_there n value vs there)) (λ _. refl)

  pub drops_flow : (flow : Flow Arg) → Is K p instr.DropFlow → At K (p + 1) ws fs vs s → At K p ws (flow ∷ fs) vs s
  drops_flow flow is = goes K p ws (flow ∷ fs) vs s instr.DropFlow (p + 1) ws fs vs s is refl (λ _. refl)

  pub forces_known : (words : ℕ) (value : List ℤ) → Is K p instr.Force → At K (p + 1) (pushed value ws) fs vs s → At K p ws (record { value = arg.Know value; words = words } ∷ fs) vs s
  forces_known words value is = goes K p ws (record { value = arg.Know value; words = words } ∷ fs) vs s instr.Force (p + 1) (pushed value ws) fs vs s is refl (λ _. refl)

  pub forces_trapped : (words : ℕ) (t : Trap) → Is K p instr.Force → Stopped K.whole (end.Trap t) s → At K p ws (record { value = arg.Trapped t; words = words } ∷ fs) vs s
  forces_trapped words t is =
      traps K p ws (record { value = arg.Trapped t; words = words } ∷ fs) vs s instr.Force t p ws (record { value = arg.Trapped t; words = words } ∷ fs) vs is refl

  pub forces_unknown : (words : ℕ) → Is K p instr.Force → Stopped K.whole end.Waits s → At K p ws (record { value = arg.Unknown; words = words } ∷ fs) vs s
  forces_unknown words is = needs K p ws (record { value = arg.Unknown; words = words } ∷ fs) vs s instr.Force is refl

  -- ---- elements that are stored

  pub stores_element : (n offset count line : ℕ) (held : List ℤ) (w i : ℤ) (at : ℕ) → slice_get vs n ≡ Some (arg.Know held) → n < length vs → offset + count ≤ length held → index_below count i ≡ Some at
      → offset + at + 1 ≤ length held → Is K p (instr.StoreIndexed n offset count line)
      → At K (p + 1) ws fs (slice_set vs n (arg.Know (with_words (offset + at) (w ∷ []) held))) s → At K p (i ∷ w ∷ ws) fs vs s
  stores_element n offset count line held w i at e there inside below inside_too is =
      goes K p (i ∷ w ∷ ws) fs vs s (instr.StoreIndexed n offset count line) (p + 1) ws fs (slice_set vs n (arg.Know (with_words (offset + at) (w ∷ []) held))) s is
      (given_is (slice_get vs n) (arg.Know held) _ e
      ∙ given_is (read_words offset count held) _ _ (read_there offset count held inside)
      ∙ ap (λ (o : Option ℕ). steps.at_index o line (frame_at (point K p (i ∷ w ∷ ws) fs vs) s) (λ k. steps.stores in_place n (write_words (offset + k) (w ∷ []) held) (record (frame_at (point K p (i ∷ w ∷ ws) fs vs) s) { words = ws }))) below
      ∙ given_is (write_words (offset + at) (w ∷ []) held) _ _ (write_there (offset + at) (w ∷ []) held inside_too)
      ∙ given_is (set_at n (arg.Know (with_words (offset + at) (w ∷ []) held)) vs) _ _ (set_there n _ vs there))
      (λ _. refl)

  pub stores_outside : (n offset count line : ℕ) (held : List ℤ) (w i : ℤ) → slice_get vs n ≡ Some (arg.Know held) → offset + count ≤ length held → index_below count i ≡ None
      → Is K p (instr.StoreIndexed n offset count line)
      → Stopped K.whole (end.Trap (record { kind = Index; line = line })) s → At K p (i ∷ w ∷ ws) fs vs s
  stores_outside n offset count line held w i e inside outside is =
      traps K p (i ∷ w ∷ ws) fs vs s (instr.StoreIndexed n offset count line) (record { kind = Index; line = line }) p (i ∷ w ∷ ws) fs vs is
      (given_is (slice_get vs n) (arg.Know held) _ e
      ∙ given_is (read_words offset count held) _ _ (read_there offset count held inside)
      ∙ ap (λ (o : Option ℕ). steps.at_index o line (frame_at (point K p (i ∷ w ∷ ws) fs vs) s) (λ k. steps.stores in_place n (write_words (offset + k) (w ∷ []) held) (record (frame_at (point K p (i ∷ w ∷ ws) fs vs) s) { words = ws }))) outside)

  pub keeps_element : (offset count line : ℕ) (w i : ℤ) (at : ℕ) → has_object K.whole.setting.image K.here.code ≡ true → offset + count ≤ length s.state → index_below count i ≡ Some at
      → offset + at + 1 ≤ length s.state → Is K p (instr.KeepIndexed offset count line)
      → At K (p + 1) ws fs vs (record s { state = with_words (offset + at) (w ∷ []) s.state }) → At K p (i ∷ w ∷ ws) fs vs s
  keeps_element offset count line w i at has inside below inside_too is =
      goes K p (i ∷ w ∷ ws) fs vs s (instr.KeepIndexed offset count line) (p + 1) ws fs vs (record s { state = with_words (offset + at) (w ∷ []) s.state }) is
      (true_is (has_object K.whole.setting.image K.here.code) _ has
      ∙ given_is (read_words offset count s.state) _ _ (read_there offset count s.state inside)
      ∙ ap (λ (o : Option ℕ). steps.at_index o line (frame_at (point K p (i ∷ w ∷ ws) fs vs) s) (λ k. steps.goes_keeping (write_words (offset + k) (w ∷ []) s.state) (record (frame_at (point K p (i ∷ w ∷ ws) fs vs) s) { words = ws }))) below
      ∙ given_is (write_words (offset + at) (w ∷ []) s.state) _ _ (write_there (offset + at) (w ∷ []) s.state inside_too))
      (λ _. refl)

  pub keeps_outside : (offset count line : ℕ) (w i : ℤ) → has_object K.whole.setting.image K.here.code ≡ true → offset + count ≤ length s.state → index_below count i ≡ None
      → Is K p (instr.KeepIndexed offset count line)
      → Stopped K.whole (end.Trap (record { kind = Index; line = line })) s → At K p (i ∷ w ∷ ws) fs vs s
  keeps_outside offset count line w i has inside outside is =
      traps K p (i ∷ w ∷ ws) fs vs s (instr.KeepIndexed offset count line) (record { kind = Index; line = line }) p (i ∷ w ∷ ws) fs vs is
      (true_is (has_object K.whole.setting.image K.here.code) _ has
      ∙ given_is (read_words offset count s.state) _ _ (read_there offset count s.state inside)
      ∙ ap (λ (o : Option ℕ). steps.at_index o line (frame_at (point K p (i ∷ w ∷ ws) fs vs) s) (λ k. steps.goes_keeping (write_words (offset + k) (w ∷ []) s.state) (record (frame_at (point K p (i ∷ w ∷ ws) fs vs) s) { words = ws }))) outside)

  -- ---- what is printed and given

  pub prints : (letters : List ℕ) (items : List ℤ) → is_main K.here.code ≡ true → length items ≡ length letters → Is K p (instr.Print letters)
      → At K (p + 1) ws fs vs (record s { lines = s.lines ++ line_of letters items }) → At K p (pushed items ws) fs vs s
  prints letters items main long is =
      goes K p (pushed items ws) fs vs s (instr.Print letters) (p + 1) ws fs vs (record s { lines = s.lines ++ line_of letters items }) is
      (true_is (is_main K.here.code) _ main ∙ given_is (popped_all (length letters) (pushed items ws)) _ _ (popped_pushed items ws (length letters) long)) (λ _. refl)

  pub gives_twice : (line words size : ℕ) (value : Arg) → given_words K.whole.setting.image K.here.code ≡ Some size → words ≡ size → was_given s.result ≡ true → Is K p (instr.Reply line)
      → Stopped K.whole (end.Trap (record { kind = Twice; line = line })) s → At K p ws (record { value = value; words = words } ∷ fs) vs s
  gives_twice line words size value e same given_before is =
      traps K p ws (record { value = value; words = words } ∷ fs) vs s (instr.Reply line) (record { kind = Twice; line = line }) p ws (record { value = value; words = words } ∷ fs) vs is
      (given_is (given_words K.whole.setting.image K.here.code) size _ e ∙ true_is (words == size) _ (eq-eqb words size same) ∙ if_true _ _ given_before)

  given_now : (value : Arg) → was_given (result_of value) ≡ true
  given_now (arg.Know words) = refl
  given_now (arg.Trapped t) = refl
  given_now arg.Unknown = refl

  pub gives_first : (line words size : ℕ) (value : Arg) → given_words K.whole.setting.image K.here.code ≡ Some size → words ≡ size → was_given s.result ≡ false → Is K p (instr.Reply line)
      → At K (p + 1) ws fs vs (record s { result = result_of value }) → At K p ws (record { value = value; words = words } ∷ fs) vs s
  gives_first line words size value e same not_before is h sent =
      performing K.whole (body_at (point K p ws (record { value = value; words = words } ∷ fs) vs) sent s) (instr.Reply line) is
      (subst (λ (o : Option (Next Arg)). Acts K.whole (body_at (point K p ws (record { value = value; words = words } ∷ fs) vs) sent s) (or_strays (frame_at (point K p ws (record { value = value; words = words } ∷ fs) vs) s) o))
      (sym (given_is (given_words K.whole.setting.image K.here.code) size _ e ∙ true_is (words == size) _ (eq-eqb words size same) ∙ if_false _ _ not_before))
      (subst (λ (b : Bool). Reaches K.whole (record (body_at (point K (p + 1) ws fs vs) sent (record s { result = result_of value })) { frame = record (frame_at (point K (p + 1) ws fs vs) s) { replied = b } })) (given_now value) (h sent)))

  -- ---- turns

  pub tests : {B : Type 0} (Q : B → Store → Type 0) (rest : CheckedStep B) → Bounded K s → Is K p instr.Test
      → (Bounded K (record s { turns = s.turns + 1 }) → Comes K Q (rest (record s { turns = s.turns + 1 })) → At K (p + 1) ws fs vs (record s { turns = s.turns + 1 }))
      → Comes K Q (goes_on (Meant (spend K.whole.setting.turns s)) (λ _. rest)) → At K p ws fs vs s
  tests Q rest bounded is f c sent =
      performing K.whole (body_at (point K p ws fs vs) sent s) instr.Test is
      (spends_comes K Q (point K (p + 1) ws fs vs) sent s rest (λ fuel. exec fuel K.whole.setting) bounded (λ now d. f now d sent) c)

  pub creates_object : {B : Type 0} (Q : B → Store → Type 0) (rest : CheckedStep B) (number : ℕ) (class : RawClass) → Bounded K s → may_post K.whole.setting.image K.here.code ≡ true
      → slice_get K.whole.setting.image.classes number ≡ Some class → class.regular ≡ false → Is K p (instr.Create number)
      → (Bounded K (record s { turns = s.turns + 1 }) → Comes K Q (rest (record s { turns = s.turns + 1 }))
      → At K (p + 1) (object_word K.whole.setting.number (length s.creations + 1) ∷ ws) fs vs (record s { turns = s.turns + 1; creations = s.creations ++ pos number ∷ [] }))
      → Comes K Q (goes_on (Meant (spend K.whole.setting.turns s)) (λ _. rest)) → At K p ws fs vs s
  creates_object Q rest number class bounded may stands persistent is f c sent =
      performing K.whole (body_at (point K p ws fs vs) sent s) (instr.Create number) is
      (subst (λ (o : Option (Next Arg)). Acts K.whole (body_at (point K p ws fs vs) sent s) (or_strays (frame_at (point K p ws fs vs) s) o))
      (sym (true_is (may_post K.whole.setting.image K.here.code) _ may ∙ given_is (slice_get K.whole.setting.image.classes number) class _ stands ∙ true_is (not class.regular) _ (ap not persistent)))
      (spends_comes K Q (point K (p + 1) ws fs vs) sent s rest (λ fuel. creates (exec fuel) K.whole.setting number) bounded (λ now d. f now d sent) c))

  -- ---- ends

  pub ends_body : (line : ℕ) → Is K p (instr.End line) → IsDone K.whole line s → At K p ws fs vs s
  ends_body line is h sent = performing K.whole (body_at (point K p ws fs vs) sent s) (instr.End line) is (0, _, refl, h (point K p ws fs vs) sent)

  pub fails : (line : ℕ) (function : RawFunction) → function_of K.whole.setting.image K.here.code ≡ Some function → Is K p (instr.Fail line)
      → Stopped K.whole (end.Trap (record { kind = NoReply; line = line })) s → At K p ws fs vs s
  fails line function e is =
      traps K p ws fs vs s (instr.Fail line) (record { kind = NoReply; line = line }) p ws fs vs is (given_is (function_of K.whole.setting.image K.here.code) function _ e)

  pub goes_back : (count : ℕ) (function : RawFunction) (items : List ℤ) (caller : Caller Arg) (callers : List (Caller Arg)) → function_of K.whole.setting.image K.here.code ≡ Some function → function.result ≡ count
      → length items ≡ count → K.here.callers ≡ caller ∷ callers → Is K p (instr.Return count)
      → ((sent : ℕ) → Reaches K.whole (body_at (back_at caller callers items) sent s)) → At K p (pushed items ws) fs vs s
  goes_back count function items caller callers e same long called is h sent =
      performing K.whole (body_at (point K p (pushed items ws) fs vs) sent s) (instr.Return count) is
      (subst (λ (o : Option (Next Arg)). Acts K.whole (body_at (point K p (pushed items ws) fs vs) sent s) (or_strays (frame_at (point K p (pushed items ws) fs vs) s) o))
      (sym (given_is (function_of K.whole.setting.image K.here.code) function _ e
      ∙ true_is (function.result == count) _ (eq-eqb function.result count same)
      ∙ given_is (popped_all count (pushed items ws)) _ _ (popped_pushed items ws count long)
      ∙ ap (λ (all : List (Caller Arg)). steps.goes_back items all (frame_at (point K p (pushed items ws) fs vs) s)) called))
      (h sent))
