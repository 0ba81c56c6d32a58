-- The code of an assignment to an element does what the assignment means.
use Rattle.std.proofs.Common.{◌≡◌, ◌≤◌, ◌<◌, ℕ, ◌+◌, true, List, [], ◌∷◌, ◌++◌, length, Option, Some, None, ℤ, pos, refl, ap, sym, subst, arith, ◌∙◌}
use Rattle.std.proofs.lemmas.List.{length-append, length-replicate}
use Rattle.std.specs.List.{slice_get, slice_set}
use Rattle.std.specs.Option.{option_map}
use Rattle.mpl_ast.specs.declared.expression.Target.{Target}
use Rattle.mpl_ast.specs.declared.place.At.{At}
use Rattle.mpl_value.specs.Words.{index_below, with_words, words_at, zeros}
use Rattle.mpl_value.specs.declared.body.Arg.{Arg}
use Rattle.mpl_value.specs.declared.body.Arg.TheVariants as arg
use Rattle.mpl_value.specs.declared.body.BodyEnd.TheVariants as end
use Rattle.mpl_value.specs.declared.known.TrapKind.TheVariants.{Index}
use Rattle.mpl_mean.specs.Meaning.Context.{Callees, Context}
use Rattle.mpl_mean.specs.Meaning.Layout.{Function, Member, words_of_parts}
use Rattle.mpl_mean.specs.Meaning.PlaceMeaning.{index_of, location_of, tested_index}
use Rattle.mpl_mean.specs.Meaning.Store.{Store, Outcome}
use Rattle.mpl_mean.specs.Meaning.Values.{Value, first_word, word_of}
use Rattle.mpl_mean.specs.Plain.Expr.{Expr}
use Rattle.mpl_mean.proofs.Sizes.SizedStores.{with_words_long, words_at_long}
use Rattle.mdf_code.specs.Parts.{has_object, sizes_at, text_at}
use Rattle.mdf_code.specs.Stacks.{pushed}
use Rattle.mdf_code.specs.declared.instr.Instr.{Instr}
use Rattle.mdf_code.specs.declared.instr.Instr.TheVariants as instr
use Rattle.mpl_checked.specs.Checked.CheckedExpressions.{checked_passes, checked_value}
use Rattle.mpl_checked.specs.Checked.CheckedStatements.{checked_assign_element, checked_force_passed, checked_put}
use Rattle.mpl_checked.specs.Checked.CheckedSteps.{Checked, CheckedCallees, CheckedStep, Checking, Meant, goes_on}
use Rattle.mpl_gen_code.specs.ExpressionCode.{need_of_slot, value_code}
use Rattle.mpl_gen_code.specs.Fits.{ExprFits, FlowFits, May, PlaceFits, words_of_base}
use Rattle.mpl_gen_code.specs.Pieces.{joined, where_marked}
use Rattle.mpl_gen_code.specs.Scopes.{Env, Found, Slot, found_at, words_of_shape}
use Rattle.mpl_gen_code.specs.StatementCode.{behind_element, behind_found, element_code, store_element, tested_store, tests_index}
use Rattle.mpl_gen_code.specs.Words.{is_bool_expr, words_of_expr}
use Rattle.mpl_gen_code.proofs.Adding.{Adds, adds_then}
use Rattle.mpl_gen_code.proofs.Assignments.{Done, Writable, or_not, restated}
use Rattle.mpl_gen_code.proofs.AddingStatements.{adds_element_at, adds_force_passed}
use Rattle.mpl_gen_code.proofs.Behind.{hides_stands, holds_stands}
use Rattle.mpl_gen_code.proofs.Below.{Below}
use Rattle.mpl_gen_code.proofs.Effects.{keeps_element, keeps_outside, sets_variable, stores_element}
use Rattle.mpl_gen_code.proofs.Flows.{Surrounded, meets_map}
use Rattle.mpl_gen_code.proofs.Expressions.{expr_follows}
use Rattle.mpl_gen_code.proofs.Operators.{index_inside, top}
use Rattle.mpl_gen_code.proofs.Forcing.{forced_follows, need_meets}
use Rattle.mpl_gen_code.proofs.Instructions.{At as Reached, argues_words, drops, loads, loads_element, loads_outside, zeroes}
use Rattle.mpl_gen_code.proofs.Members.{Meets}
use Rattle.mpl_gen_code.proofs.Places.{Upto, ValueAt, from_joined, known_at, moved, not_without_parts, of_stands, one_word, upto_before}
use Rattle.mpl_gen_code.proofs.Reaching.{Comes, From, Run, Stopped, comes_map}
use Rattle.mpl_gen_code.proofs.Scoped.{Allowed, IsApart, IsFrontOf, IsSlot, Scoped, Stands, context_of, got_in_front, held, held_there, location_at, located, size_here, variable_of}
use Rattle.mpl_gen_code.proofs.Storing.{apart_next, found_same, got_last, got_within, held_other, held_set, number_inside}

-- ---- the variables without names

-- behind them the variables with names are as before
pub hidden_stands : (K : Run) (env : Env) (o : Option Found) (vs : List Arg) (s : Store) → Stands K K.here.keeping env vs s → Stands K K.here.keeping (behind_found o env) vs s
hidden_stands K env o vs s stands = subst (λ e. Stands K K.here.keeping e vs s) (sym (found_same o env)) (record {
  agree = stands.agree;
  sized = stands.sized;
  keeps = stands.keeps;
  long = stands.long;
  low = stands.low;
  within = stands.within;
  result = stands.result;
})

hidden_meets : (K : Run) (env : Env) (o : Option Found) (q : ℕ) (out : Checked (Outcome (Unit {0}))) → Meets K env.declarations (Done K (behind_found o env) q) out → Meets K env.declarations (Done K env q) out
hidden_meets K env o q out m = (m.0, comes_map K out (λ u s d vs stands. d vs (hidden_stands K env o vs s stands)) m.1)

apart_further : (sizes : List ℕ) (ds : List Rattle.mpl_ast.specs.declared.program.Declaration.Declaration) (scope : List Slot) → Rattle.mpl_gen_code.proofs.Scoped.WellScoped ds sizes scope → IsApart (length sizes + 1) scope
apart_further sizes ds [] well = tt
apart_further sizes ds (slot ∷ scope) well =
    ((λ e. absurd (let h = got_within sizes slot.number _ well.0 in omega arith)), apart_further sizes ds scope well.2)

module _ (K : Run) (may : May) (env : Env) (inner : Callees) (callees : CheckedCallees) (base : ℕ) (below : Below K.whole env.declarations callees base) (above : base ≤ K.low)
    (allowed : Allowed K may env.parts) (scoped : Scoped K env) (around : Surrounded K env.declarations env.marks)
    (plain : (f : Function) (arguments : List (List ℤ)) → Adds env.declarations K.whole.vowed (callees.plain f arguments))
    (regular : (m : Member) (arguments : List (List ℤ)) → Adds env.declarations K.whole.vowed (callees.regular m arguments))
    (writable : Writable K env.parts) where
  abbrev c : Context
  c = context_of K inner env

  abbrev chk : Checking
  chk = record { marks = env.marks; callees = callees }

  abbrev text : List Instr
  text = text_at K.whole.setting.image K.here.code

  abbrev S : List Arg → Store → Type 0
  S vs s = Stands K K.here.keeping env vs s

  abbrev M : {A : Type 0} → (A → Store → Type 0) → Checked (Outcome A) → Type 0
  M Q o = Meets K env.declarations Q o

  abbrev hidden : ℕ
  hidden = length env.sizes

  -- ---- the test of an index

  -- where the index is below the dimension the test leaves the stack without it, and else there is a trap
  tests_follow : (line count : ℕ) (m n : ℕ) (w i : ℤ) (vs : List Arg) (s : Store) → From text m (tests_index line hidden count m) n → S vs s
      → slice_get (sizes_at K.whole.setting.image K.here.code) hidden ≡ Some 1 → slice_get (sizes_at K.whole.setting.image K.here.code) (hidden + 1) ≡ Some count
      → (index_below count i ≡ None → Stopped K.whole (end.Trap (record { kind = Index; line = line })) s)
      → ((at : ℕ) → index_below count i ≡ Some at → (us : List Arg) → S us s → slice_get us hidden ≡ Some (arg.Know (i ∷ [])) → Reached K n (w ∷ []) [] us s)
      → Reached K m (i ∷ w ∷ []) [] vs s
  tests_follow line count m n w i vs s from stands first_size second_size outside there =
      argues_words K m (w ∷ []) [] vs s 1 (i ∷ []) refl from.0
      (sets_variable K (m + 1) (w ∷ []) [] vs s hidden 1 1 (arg.Know (i ∷ [])) first_size refl (number_inside _ vs hidden 1 stands.sized first_size) from.1.0
      (zeroes K (m + 1 + 1) (w ∷ []) [] vs1 s (hidden + 1) count second_size (number_inside _ vs1 (hidden + 1) count stands1.sized second_size) from.1.1.0
      (loads K (m + 1 + 1 + 1) (w ∷ []) [] vs2 s hidden 0 1 (i ∷ []) held_index (let one : 0 + 1 ≤ 1 = omega arith in one) from.1.1.1.0
      (by_index (index_below count i) refl)))) where
        vs1 : List Arg
        vs1 = slice_set vs hidden (arg.Know (i ∷ []))

        vs2 : List Arg
        vs2 = slice_set vs1 (hidden + 1) (arg.Know (zeros count))

        zeros_long : length (zeros count) ≡ count
        zeros_long = length-replicate count (pos 0)

        stands1 : S vs1 s
        stands1 = hides_stands K K.here.keeping env vs s hidden 1 (arg.Know (i ∷ [])) (apart_next env.declarations env.sizes env.scope scoped.scope) first_size refl stands

        stands2 : S vs2 s
        stands2 = hides_stands K K.here.keeping env vs1 s (hidden + 1) count (arg.Know (zeros count)) (apart_further env.sizes env.declarations env.scope scoped.scope) second_size zeros_long stands1

        held_index : slice_get vs2 hidden ≡ Some (arg.Know (i ∷ []))
        held_index =
            (held_there _ vs2 hidden 1 stands2.sized first_size).0
            ∙ ap Some (held_other hidden (hidden + 1) (arg.Know (zeros count)) vs1 (λ e. absurd (omega arith)) ∙ held_set hidden (arg.Know (i ∷ [])) vs (number_inside _ vs hidden 1 stands.sized first_size))

        held_zeros : slice_get vs2 (hidden + 1) ≡ Some (arg.Know (zeros count))
        held_zeros =
            (held_there _ vs2 (hidden + 1) count stands2.sized second_size).0
            ∙ ap Some (held_set (hidden + 1) (arg.Know (zeros count)) vs1 (number_inside _ vs1 (hidden + 1) count stands1.sized second_size))

        all_zeros : 0 + count ≤ length (zeros count)
        all_zeros = omega (arith, zeros_long)

        by_index : (o : Option ℕ) → index_below count i ≡ o → Reached K (m + 1 + 1 + 1 + 1) (i ∷ w ∷ []) [] vs2 s
        by_index None e = loads_outside K (m + 1 + 1 + 1 + 1) (w ∷ []) [] vs2 s (hidden + 1) 0 count line (zeros count) i held_zeros all_zeros e from.1.1.1.1.0 (outside e)
        by_index (Some at) e =
            let below_count : at < count = index_inside count i at e in
            let long : length (words_at 0 count (zeros count)) ≡ count = words_at_long 0 count (zeros count) all_zeros in
            let inside : at + 1 ≤ length (words_at 0 count (zeros count)) = omega (arith, long, below_count) in
            loads_element K (m + 1 + 1 + 1 + 1) (w ∷ []) [] vs2 s (hidden + 1) 0 count line (zeros count) i at held_zeros all_zeros e inside from.1.1.1.1.0
            (drops K (m + 1 + 1 + 1 + 1 + 1) (w ∷ []) [] vs2 s 1 (words_at at 1 (words_at 0 count (zeros count))) (words_at_long at 1 (words_at 0 count (zeros count)) inside) from.1.1.1.1.1.0
            (moved K K.here.keeping env vs2 (w ∷ []) [] s from.1.1.1.1.1.1 (there at e vs2 stands2 held_index)))

  -- ---- what is stored behind it

  -- an element of a variable
  variable_element : (node line : ℕ) (found : Found) (t : Target) → found_at env t ≡ Some found → (slot : Slot) → found.slot ≡ Some slot → (m q : ℕ) (w i : ℤ) (vs : List Arg) (s : Store)
      → From text m (tested_store (env.marks node) line hidden found slot m) q → found.offset + found.words ≤ words_of_shape env.declarations slot.shape
      → slice_get (sizes_at K.whole.setting.image K.here.code) hidden ≡ Some 1 → slice_get (sizes_at K.whole.setting.image K.here.code) (hidden + 1) ≡ Some found.words → S vs s
      → M (Done K env q) (goes_on (Meant (index_of line found.words i s)) (λ n s. checked_put chk node (option_map (variable_of vs) (Some slot)) (found.offset + n) (w ∷ []) s))
      → ((us : List Arg) → S us s → M (Done K env q) (goes_on (Meant (index_of line found.words i s)) (λ n s. checked_put chk node (option_map (variable_of us) (Some slot)) (found.offset + n) (w ∷ []) s)))
      → Reached K m (i ∷ w ∷ []) [] vs s
  variable_element node line found t e slot is m q w i vs s from fits first_size second_size stands here h =
      let parts = from_joined text (tests_index line hidden found.words) (joined (where_marked (env.marks node) (need_of_slot (Some slot))) (λ _. instr.Load hidden 0 1 ∷ instr.StoreIndexed slot.number found.offset found.words line ∷ [])) m q from in
      let rest = from_joined text (where_marked (env.marks node) (need_of_slot (Some slot))) (λ _. instr.Load hidden 0 1 ∷ instr.StoreIndexed slot.number found.offset found.words line ∷ []) parts.middle q parts.second in
      let is_slot = (known_at K may env t allowed).slot found slot e is in
      tests_follow line found.words m parts.middle w i vs s parts.first stands first_size second_size
      (λ none. (subst (λ o. M (Done K env q) (goes_on (Meant (tested_index line o s)) (λ n s. checked_put chk node (option_map (variable_of vs) (Some slot)) (found.offset + n) (w ∷ []) s))) none here).1 (of_stands K K.here.keeping env vs stands _))
      (λ at below_count us stands_us held_index.
      need_meets K K.here.keeping env us (Done K env q) (env.marks node) slot parts.middle rest.middle (w ∷ []) [] s _ rest.first scoped is_slot stands_us
      (λ old got old_long d.
      let inside : found.offset + found.words ≤ length old = omega (arith, old_long, fits) in
      let at_inside : at < found.words = index_inside found.words i at below_count in
      let new_inside : found.offset + at + 1 ≤ length old = omega (arith, inside, at_inside) in
      loads K rest.middle (w ∷ []) [] us s hidden 0 1 (i ∷ []) held_index (let one : 0 + 1 ≤ 1 = omega arith in one) rest.second.0
      (stores_element K (rest.middle + 1) [] [] us s slot.number found.offset found.words line old w i at got (number_inside _ us slot.number _ stands_us.sized (size_here K env scoped slot is_slot)) inside below_count new_inside rest.second.1.0
      (moved K K.here.keeping env _ [] [] s rest.second.1.1
      (d.1 _ (holds_stands K K.here.keeping env us s slot _ scoped is_slot (with_words_long (found.offset + at) (w ∷ []) old new_inside ∙ old_long) stands_us)))))
      (subst (λ o. M (Done K env q) (goes_on (Meant (tested_index line o s)) (λ n s. checked_put chk node (option_map (variable_of us) (Some slot)) (found.offset + n) (w ∷ []) s))) below_count (h us stands_us)))

  -- an element of the state
  state_element : (node line : ℕ) (found : Found) (t : Target) → found_at env t ≡ Some found → found.slot ≡ None → (m q : ℕ) (w i : ℤ) (vs : List Arg) (s : Store)
      → slice_get text m ≡ Some (instr.KeepIndexed found.offset found.words line) → m + 1 ≡ q → found.offset + found.words ≤ words_of_parts env.parts → S vs s
      → M (Done K env q) (goes_on (Meant (index_of line found.words i s)) (λ n s. checked_put chk node None (found.offset + n) (w ∷ []) s))
      → Reached K m (i ∷ w ∷ []) [] vs s
  state_element node line found t e is m q w i vs s stands_at there fits stands h = by_index (index_below found.words i) refl h where
    has : has_object K.whole.setting.image K.here.code ≡ true
    has = (known_at K may env t allowed).writes found e is

    inside : found.offset + found.words ≤ length s.state
    inside = let enough = stands.long in omega arith

    sized : (words : ℕ) × (K.here.keeping ≡ Rattle.mpl_gen_code.proofs.Reaching.Sized words)
    sized = or_not writable (λ none. not_without_parts env t found none e is)

    by_index : (o : Option ℕ) → index_below found.words i ≡ o → M (Done K env q) (goes_on (Meant (tested_index line o s)) (λ n s. checked_put chk node None (found.offset + n) (w ∷ []) s)) → Reached K m (i ∷ w ∷ []) [] vs s
    by_index None o d = keeps_outside K m [] [] vs s found.offset found.words line w i has inside o stands_at (d.1 (of_stands K K.here.keeping env vs stands _))
    by_index (Some at) o d =
        let at_inside : at < found.words = index_inside found.words i at o in
        let new_inside : found.offset + at + 1 ≤ length s.state = omega (arith, inside, at_inside) in
        keeps_element K m [] [] vs s found.offset found.words line w i at has inside o new_inside stands_at
        (moved K K.here.keeping env vs [] [] (record s { state = with_words (found.offset + at) (w ∷ []) s.state }) there
        (d.1 vs (record {
          agree = stands.agree;
          sized = stands.sized;
          keeps = restated K.here.keeping sized.0 (found.offset + at) (w ∷ []) s.state sized.1 new_inside stands.keeps;
          long = subst (λ n. words_of_parts env.parts ≤ n) (sym (with_words_long (found.offset + at) (w ∷ []) s.state new_inside)) stands.long;
          low = stands.low;
          within = stands.within;
          result = stands.result;
        })))

  -- ---- an assignment with an index

  module _ (at : At) (line : ℕ) (t : Target) (index value : Expr) (p q : ℕ) (vs : List Arg) (s : Store) (inside : Upto K K.here.keeping env vs q) where
    -- what becomes of the words
    abbrev stored : List ℤ → CheckedStep (Unit {0})
    stored words = λ s. goes_on (checked_value chk index c s) (λ i s. checked_assign_element chk at.id line (location_of c t s) i words s)

    abbrev forces : Arg → CheckedStep (Unit {0})
    forces passed s = goes_on (checked_force_passed chk value passed s) stored

    with_words_there : (found : Found) → found_at env t ≡ Some found → (m : ℕ)
        → From text m (store_element (env.marks at.id) line hidden found found.slot m) q → found.offset + found.words ≤ words_of_base env found.slot
        → IsFrontOf (behind_found (Some found) env).sizes (sizes_at K.whole.setting.image K.here.code)
        → (w : ℤ) (i : Value) (s2 : Store) → S vs s2 → M (Done K env q) (checked_assign_element chk at.id line (location_of c t s2) i (w ∷ []) s2) → Reached K m (word_of i ∷ w ∷ []) [] vs s2
    with_words_there found e m from fits fronts w i s2 stands2 d = by_slot found.slot refl from fits fronts where
      located_at : (us : List Arg) → S us s2 → M (Done K env q) (goes_on (Meant (index_of line found.words (word_of i) s2)) (λ n s. checked_put chk at.id (option_map (variable_of us) found.slot) (found.offset + n) (w ∷ []) s))
      located_at us stands_us =
          subst (λ l. M (Done K env q) (checked_assign_element chk at.id line l i (w ∷ []) s2)) (located K K.here.keeping inner env us s2 t stands_us ∙ ap (option_map (location_at us)) e) d

      by_slot : (slot : Option Slot) → found.slot ≡ slot → From text m (store_element (env.marks at.id) line hidden found slot m) q → found.offset + found.words ≤ words_of_base env slot
          → IsFrontOf (behind_element found slot env).sizes (sizes_at K.whole.setting.image K.here.code) → Reached K m (word_of i ∷ w ∷ []) [] vs s2
      by_slot None is from fits fronts =
          state_element at.id line found t e is m q w (word_of i) vs s2 from.0 from.1 fits stands2
          (subst (λ v. M (Done K env q) (goes_on (Meant (index_of line found.words (word_of i) s2)) (λ n s. checked_put chk at.id (option_map (variable_of vs) v) (found.offset + n) (w ∷ []) s))) is (located_at vs stands2))
      by_slot (Some slot) is from fits fronts =
          variable_element at.id line found t e slot is m q w (word_of i) vs s2 from fits
          (ap (λ (all : List ℕ). slice_get all hidden) fronts.is
          ∙ got_in_front ((env.sizes ++ 1 ∷ []) ++ found.words ∷ []) fronts.rest hidden 1 (got_in_front (env.sizes ++ 1 ∷ []) (found.words ∷ []) hidden 1 (got_last env.sizes 1)))
          (ap (λ (all : List ℕ). slice_get all (hidden + 1)) fronts.is
          ∙ got_in_front ((env.sizes ++ 1 ∷ []) ++ found.words ∷ []) fronts.rest (hidden + 1) found.words
          (subst (λ n. slice_get ((env.sizes ++ 1 ∷ []) ++ found.words ∷ []) n ≡ Some found.words) (length-append env.sizes (1 ∷ [])) (got_last (env.sizes ++ 1 ∷ []) found.words)))
          stands2
          (subst (λ v. M (Done K env q) (goes_on (Meant (index_of line found.words (word_of i) s2)) (λ n s. checked_put chk at.id (option_map (variable_of vs) v) (found.offset + n) (w ∷ []) s))) is (located_at vs stands2))
          (λ us stands_us. subst (λ v. M (Done K env q) (goes_on (Meant (index_of line found.words (word_of i) s2)) (λ n s. checked_put chk at.id (option_map (variable_of us) v) (found.offset + n) (w ∷ []) s))) is (located_at us stands_us))

    pub element_assigned : From text p (element_code (env.marks at.id) line hidden (value_code env value) (value_code env index) (found_at env t) p) q → PlaceFits env (found_at env t)
        → IsFrontOf (behind_found (found_at env t) env).sizes (sizes_at K.whole.setting.image K.here.code)
        → FlowFits may env value → words_of_expr env value ≡ 1 → ExprFits may env index → words_of_expr env index ≡ 1 → S vs s
        → M (Done K (behind_found (found_at env t) env) q) (goes_on (checked_passes chk value c s) forces) → Reached K p [] [] vs s
    element_assigned from fits fronts value_fits value_one index_fits index_one stands m0 = by_found (found_at env t) refl from fits fronts where
      m : M (Done K env q) (goes_on (checked_passes chk value c s) forces)
      m = hidden_meets K env (found_at env t) q _ m0

      by_found : (o : Option Found) → found_at env t ≡ o → From text p (element_code (env.marks at.id) line hidden (value_code env value) (value_code env index) o p) q → PlaceFits env o
          → IsFrontOf (behind_found o env).sizes (sizes_at K.whole.setting.image K.here.code) → Reached K p [] [] vs s
      by_found None e from fits fronts = absurd fits
      by_found (Some found) e from fits fronts =
          let first = from_joined text (value_code env value) (joined (value_code env index) (store_element (env.marks at.id) line hidden found found.slot)) p q from in
          let second = from_joined text (value_code env index) (store_element (env.marks at.id) line hidden found found.slot) first.middle q first.second in
          forced_follows K may env inner callees base below above allowed scoped around plain regular vs (Done K env q) value forces stored K.here.keeping p first.middle [] [] s value_fits (λ a s1 stands1. refl)
          (λ a. adds_then env.declarations K.whole.vowed (adds_force_passed env.declarations K.whole.vowed chk c plain regular value a) (λ words. adds_element_at env.declarations K.whole.vowed chk c plain regular at.id line t index words))
          first.first (upto_before K K.here.keeping env vs q first.middle first.within inside) stands
          (λ words s1 stands1 long d.
          let is_one : words ≡ first_word words ∷ [] = one_word words (long ∙ value_one) in
          subst (λ (all : List ℤ). Reached K first.middle (pushed all []) [] vs s1) (sym is_one)
          (expr_follows K may env inner callees base below above allowed scoped vs index K.here.keeping first.middle second.middle (first_word words ∷ []) [] s1 second.first
          (upto_before K K.here.keeping env vs q second.middle second.within inside) index_fits stands1
          (meets_map K env.declarations (Done K env q) (ValueAt K K.here.keeping env vs second.middle (first_word words ∷ []) [] (words_of_expr env index) (is_bool_expr env index)) (checked_value chk index c s1) _
          (λ i s2 d2 stands2 long2 bool2.
          top K may env inner callees base below above allowed scoped vs i second.middle (first_word words ∷ []) [] s2 (long2 ∙ index_one)
          (with_words_there found e second.middle second.second fits fronts (first_word words) i s2 stands2
          (subst (λ (all : List ℤ). M (Done K env q) (checked_assign_element chk at.id line (location_of c t s2) i all s2)) is_one d2)))
          d)))
          m
