-- The code of a guard comes to what its expression means.
use Rattle.std.proofs.Common.{◌≡◌, ◌≤◌, ◌<◌, ℕ, ◌+◌, Bool, true, false, not, List, [], ◌∷◌, length, Option, Some, None, if◌then◌else◌, ℤ, pos, nat_le, Result, refl, ap, sym, subst, arith, ◌∙◌}
use Rattle.std.proofs.lemmas.Bool.{le-leb}
use Rattle.std.specs.FinMap.{empty}
use Rattle.std.specs.List.{slice_get, slice_index_or}
use Rattle.std.specs.Option.{option_map}
use Rattle.std.specs.Ordering.{int_eq}
use Rattle.std.specs.Prelude.{int_le, int_lt}
use Rattle.mpl_ast.specs.declared.expression.EqualityOperator.TheVariants as equality
use Rattle.mpl_ast.specs.declared.expression.Expression.{Expression}
use Rattle.mpl_ast.specs.declared.expression.RelationOperator.TheVariants as relation
use Rattle.mpl_ast.specs.declared.expression.SumOperator.TheVariants as sum
use Rattle.mpl_ast.specs.declared.expression.Target.{Target}
use Rattle.mpl_ast.specs.declared.expression.TermOperator.TheVariants as term
use Rattle.mpl_ast.specs.declared.expression.UnaryOperator.{UnaryOperator}
use Rattle.mpl_ast.specs.declared.expression.UnaryOperator.TheVariants as unary
use Rattle.mpl_ast.specs.declared.program.Declaration.{Declaration}
use Rattle.mpl_value.specs.Arithmetic as arithmetic
use Rattle.mpl_value.specs.Words.{bool_word, index_below, words_at}
use Rattle.mpl_value.specs.declared.body.Arg.{Arg}
use Rattle.mpl_value.specs.declared.body.Arg.TheVariants.{Know}
use Rattle.mpl_value.specs.declared.body.BodyEnd.TheVariants as end
use Rattle.mpl_value.specs.declared.body.BodyResult.TheVariants as result
use Rattle.mpl_value.specs.declared.body.Yield.{Yield}
use Rattle.mpl_value.specs.declared.known.TrapKind.{TrapKind}
use Rattle.mpl_value.specs.declared.known.TrapKind.TheVariants.{Index}
use Rattle.mpl_mean.specs.Levels.{BinaryOperator, Or, And, Equate, Compare, Add, Multiply}
use Rattle.mpl_mean.specs.Meaning.BodyMeaning.{callees_at}
use Rattle.mpl_mean.specs.Meaning.CallMeaning.{name_of_target}
use Rattle.mpl_mean.specs.Meaning.Context.{Context}
use Rattle.mpl_mean.specs.Meaning.ExpressionMeaning.{Evaluates, element_of, value_of_forms, value_of_binary}
use Rattle.mpl_mean.specs.Meaning.Layout.{Class, Member}
use Rattle.mpl_mean.specs.Meaning.PlaceMeaning.{Location, base_of, index_of, is_bool, read, tested_index, words_of_location}
use Rattle.mpl_mean.specs.Meaning.Store.{Outcome, Goes, Returns, Ends, Step, Store, Variable, ◌>>=◌, and_then, computed, pure}
use Rattle.mpl_mean.specs.Meaning.Values.{Value, bool_value, first_word, int_value, is_true, word_of}
use Rattle.mpl_mean.specs.Plain.Expr.{Expr, expr_of_forms}
use Rattle.mpl_mean.specs.Plain.Expr as e
use Rattle.mpl_mean.proofs.ExpressionInduction.{Becomes, EachForm, by_forms}
use Rattle.mpl_mean.proofs.Sizes.SizedStores.{words_at_long}
use Rattle.mdf_code.specs.Frames.{Frame, InGuard, Next}
use Rattle.mdf_code.specs.Frames as frames
use Rattle.mdf_code.specs.Guards.{most_guard_words}
use Rattle.mdf_code.specs.Parts.{is_place, sizes_at}
use Rattle.mdf_code.specs.Sizes.{ArgFits}
use Rattle.mdf_code.specs.Stacks.{given, pushed, read_words}
use Rattle.mdf_code.specs.Steps.{Does, does}
use Rattle.mdf_code.specs.Steps as steps
use Rattle.mdf_code.specs.Yields.{in_place, setting_of}
use Rattle.mdf_code.specs.declared.instr.Instr.{Instr}
use Rattle.mdf_code.specs.declared.instr.Instr.TheVariants as instr
use Rattle.mdf_mean.specs.Guards.{guard_context}
use Rattle.mpl_gen_code.specs.ExpressionCode.{binary_code, both_code, codes_of, element_from, equality_instr, load_from, of_place, read_code, relation_instr, sum_instr, term_instr, unary_instr, value_code}
use Rattle.mpl_gen_code.specs.Fits.{PlaceFits, words_of_base}
use Rattle.mpl_gen_code.specs.Pieces.{Piece, either, followed_by, joined, no_code, one}
use Rattle.mpl_gen_code.specs.ProgramImage.{guard_env}
use Rattle.mpl_gen_code.specs.Scopes.{Env, Found, OfBody, Slot, found_at, whole_slot}
use Rattle.mpl_gen_code.specs.Words.{words_of_expr, words_of_found}
use Rattle.mpl_gen_code.proofs.Expressions.{place_value}
use Rattle.mpl_gen_code.proofs.Operators.{index_inside}
use Rattle.mpl_gen_code.proofs.Places.{element_at, from_followed, from_joined, one_word}
use Rattle.mpl_gen_code.proofs.Popping.{given_is, if_false, if_true, read_there, true_is}
use Rattle.mpl_gen_code.proofs.Reaching.{Fixed, From, Run, from_length, from_parts, run_of}
use Rattle.mpl_gen_code.proofs.Scoped.{IsSlot, Scoped, Stands, held, held_there, located, location_at, size_here, slot_is, variable_of}
use Rattle.mpl_gen_laws.proofs.GuardForms.{Ready}
use Rattle.mpl_gen_laws.proofs.GuardRuns.{Gives, Guard, Is, around, computes, frame, goes, traps}

-- ---- two ways

-- two ways from a place, both forward
record Ways (code : List Instr) (first second : Piece) (m q : ℕ) : Type 0 where
  other : ℕ
  back : ℕ
  test : slice_get code m ≡ Some (instr.JumpZero other)
  one_way : From code (m + 1) (first (m + 1)) back
  jump : slice_get code back ≡ Some (instr.Jump q)
  forward : back < q
  other_forward : m < other
  other_within : other ≤ q
  other_way : From code other (second other) q

two_ways : (code : List Instr) (first second : Piece) (m q : ℕ) → From code m (either first second m) q → Ways code first second m q
two_ways code first second m q h =
    let c = length (first (m + 1)) in
    let o = m + 1 + c + 1 in
    let parts = from_parts code (first (m + 1)) (instr.Jump (o + length (second o)) ∷ second o) (m + 1) q h.1 in
    let b : parts.0 ≡ m + 1 + c = from_length code (first (m + 1)) (m + 1) parts.0 parts.1 in
    let at_other : parts.0 + 1 ≡ o = omega arith in
    let way : From code o (second o) q = subst (λ n. From code n (second o) q) at_other parts.2.1 in
    let there : q ≡ o + length (second o) = from_length code (second o) o q way in
    record {
      other = o;
      back = parts.0;
      test = h.0;
      one_way = parts.1;
      jump = subst (λ n. slice_get code parts.0 ≡ Some (instr.Jump n)) (sym there) parts.2.0;
      forward = omega arith;
      other_forward = omega arith;
      other_within = omega arith;
      other_way = way;
    }

-- ---- outcomes

-- what an outcome asks for, where the guard is to come to this answer
abbrev Asks : {A : Type 0} → Bool → (A → Store → Type 0) → Outcome A → Type 0
Asks answer Q (Goes a t) = Q a t
Asks answer Q (Returns words t) = answer ≡ false
Asks answer Q (Ends x t) = answer ≡ false

asks_then : {A B : Type 0} (answer : Bool) (Q : B → Store → Type 0) (o : Outcome A) (h : A → Step B) → Asks answer Q (and_then o h) → Asks answer (λ a t. Asks answer Q (h a t)) o
asks_then answer Q (Goes a t) h c = c
asks_then answer Q (Returns words t) h c = c
asks_then answer Q (Ends x t) h c = c

asks_map : {A : Type 0} (answer : Bool) {P Q : A → Store → Type 0} (o : Outcome A) → ((a : A) (t : Store) → P a t → Q a t) → Asks answer P o → Asks answer Q o
asks_map answer (Goes a t) f c = f a t c
asks_map answer (Returns words t) f c = c
asks_map answer (Ends x t) f c = c

asks_on : {A B : Type 0} (answer : Bool) (Q : B → Store → Type 0) (P : A → Store → Type 0) (o : Outcome A) (h : A → Step B) → ((a : A) (t : Store) → Asks answer Q (h a t) → P a t) → Asks answer Q (and_then o h) → Asks answer P o
asks_on answer Q P o h f c = asks_map answer o f (asks_then answer Q o h c)

-- ---- a guard's run, as that of a code in a body

abbrev pub nothing_yet : Yield
nothing_yet = record { lines = []; calls = []; creations = []; result = result.Open; state = []; turns = 0; end = end.Done }

abbrev pub run_of_guard : Guard → Run
run_of_guard G = run_of (record {
  setting = setting_of G.image (record { member = None; args = []; state = []; object = pos 0; number = 0; input = [] }) (λ call. Rattle.mpl_value.specs.declared.body.Arg.TheVariants.Unknown) 0;
  outer = [];
  final = nothing_yet;
  given = None;
  table = empty;
  vowed = empty;
}) 0 (record { code = InGuard G.entry; callers = []; finish = OfBody 0; keeping = Fixed G.state; object = pos 0; number = 0 })

-- each variable is known
abbrev pub AllKnown : List Arg → Type 0
AllKnown vs = (n : ℕ) (a : Arg) → slice_get vs n ≡ Some a → (words : List ℤ) × (a ≡ Know words)

-- what an outcome asks for, where one word of its value is to be on top in this store
abbrev pub Wanted : Guard → Store → Bool → ℕ → List ℤ → Outcome Value → Type 0
Wanted G s answer q ws (Goes v t) = t ≡ s → length v.words ≡ 1 → Gives G answer q (word_of v ∷ ws)
Wanted G s answer q ws (Returns words t) = answer ≡ false
Wanted G s answer q ws (Ends x t) = answer ≡ false

module _ (ds : List Declaration) (class : Class) (m : Member) (G : Guard) (s : Store) (state_is : s.state ≡ G.state) (known : AllKnown G.variables)
    (scoped : Scoped (run_of_guard G) (guard_env ds class m)) (stands : Stands (run_of_guard G) (Fixed G.state) (guard_env ds class m) G.variables s) (answer : Bool) where
  abbrev env : Env
  env = guard_env ds class m

  abbrev c : Context
  c = guard_context ds class

  abbrev vs : List Arg
  vs = G.variables

  abbrev At : ℕ → List ℤ → Type 0
  At = Gives G answer

  moved : {p q : ℕ} (ws : List ℤ) → p ≡ q → At q ws → At p ws
  moved ws e = subst (λ n. At n ws) (sym e)

  -- one word of the value is on top
  abbrev Top : ℕ → List ℤ → Value → Store → Type 0
  Top q ws v t = t ≡ s → length v.words ≡ 1 → At q (word_of v ∷ ws)

  abbrev Wants : ℕ → List ℤ → Outcome Value → Type 0
  Wants q ws = Asks answer (Top q ws)

  abbrev Follows : Evaluates → Expr → Type 0
  Follows v t = (p q : ℕ) (ws : List ℤ) → From G.code p (value_code env t p) q → q ≤ length G.code → Ready env (length ws) t → Wants q ws (v c s) → At p ws

  more : (ws : List ℤ) (w : ℤ) → length ws + 1 ≤ most_guard_words → length (w ∷ ws) ≤ most_guard_words
  more ws w few = let few' : length ws + 1 ≤ most_guard_words = few in omega (arith, few')

  place_there : (q : ℕ) → q ≤ length G.code → is_place G.image (InGuard G.entry) q ≡ true
  place_there q h = ap (λ (code : List Instr). nat_le q (length code)) G.is ∙ le-leb q (length G.code) h

  -- ---- words

  pushes : (p q : ℕ) (ws : List ℤ) (w : ℤ) → Is G p (instr.Push w) → p + 1 ≡ q → length ws + 1 ≤ most_guard_words → At q (w ∷ ws) → At p ws
  pushes p q ws w is there few h = goes G answer p ws (instr.Push w) (p + 1) (w ∷ ws) is refl (omega arith) (more ws w few) (moved (w ∷ ws) there h)

  jumps : (p q : ℕ) (ws : List ℤ) → Is G p (instr.Jump q) → p < q → q ≤ length G.code → length ws ≤ most_guard_words → At q ws → At p ws
  jumps p q ws is later within few h = goes G answer p ws (instr.Jump q) q ws is (true_is (is_place G.image (InGuard G.entry) q) _ (place_there q within)) later few h

  -- by whether a word is 0
  jumps_by : (p o : ℕ) (ws : List ℤ) (w : ℤ) → Is G p (instr.JumpZero o) → p < o → o ≤ length G.code → length ws ≤ most_guard_words
      → (int_eq w (pos 0) ≡ true → At o ws) → (int_eq w (pos 0) ≡ false → At (p + 1) ws) → At p (w ∷ ws)
  jumps_by p o ws w is later within few zero other = by_test (int_eq w (pos 0)) refl where
    tested : does in_place (around G) (instr.JumpZero o) (frame G p (w ∷ ws)) ≡ (if int_eq w (pos 0) then Some (frames.Goes (frame G o ws)) else Some (frames.Goes (frame G (p + 1) ws)))
    tested = true_is (is_place G.image (InGuard G.entry) o) _ (place_there o within)

    by_test : (b : Bool) → int_eq w (pos 0) ≡ b → At p (w ∷ ws)
    by_test true e = goes G answer p (w ∷ ws) (instr.JumpZero o) o ws is (tested ∙ if_true _ _ e) later few (zero e)
    by_test false e = goes G answer p (w ∷ ws) (instr.JumpZero o) (p + 1) ws is (tested ∙ if_false _ _ e) (omega arith) few (other e)

  -- ---- places

  -- the words that a place is of, and what loads it
  record Based (found : Found) : Type 0 where
    base : List ℤ
    got : base_of (option_map (variable_of vs) found.slot) s ≡ Goes base s
    inside : found.offset + found.words ≤ length base
    loads : (p : ℕ) (ws : List ℤ) → does in_place (around G) (load_from found found.slot) (frame G p ws) ≡ Some (frames.Goes (frame G (p + 1) (pushed (words_at found.offset found.words base) ws)))
    element : (line p : ℕ) (ws : List ℤ) (i : ℤ) → does in_place (around G) (element_from line found found.slot) (frame G p (i ∷ ws))
        ≡ steps.indexed found.words i line (frame G p (i ∷ ws)) (λ n. given (read_words n 1 (words_at found.offset found.words base)) (λ words. steps.goes_with (pushed words ws) (frame G p (i ∷ ws))))

  based : (t : Target) (found : Found) → found_at env t ≡ Some found → found.offset + found.words ≤ words_of_base env found.slot → Based found
  based t found is fits = by_slot found.slot refl fits where
    at_slot : Option Slot → Found
    at_slot slot = record found { slot = slot }

    by_slot : (slot : Option Slot) → found.slot ≡ slot → found.offset + found.words ≤ words_of_base env slot → Based (at_slot slot)
    by_slot None e fits =
        let long = stands.long in
        let enough : found.offset + found.words ≤ length s.state = omega (arith, long, fits) in
        let inside : found.offset + found.words ≤ length G.state = subst (λ (state : List ℤ). found.offset + found.words ≤ length state) state_is enough in
        let got = read_there found.offset found.words G.state inside in
        record {
          base = G.state;
          got = ap (λ (state : List ℤ). Goes state s) state_is;
          inside = inside;
          loads = λ p ws. given_is (read_words found.offset found.words G.state) _ _ got;
          element = λ line p ws i. given_is (read_words found.offset found.words G.state) _ _ got;
        }
    by_slot (Some slot) e fits =
        let of_scope : IsSlot env.scope slot = slot_is env t found slot is e in
        let there = held_there (sizes_at G.image (InGuard G.entry)) vs slot.number _ stands.sized (size_here (run_of_guard G) env scoped slot of_scope) in
        let words = known slot.number (held slot.number vs) there.0 in
        let long : length words.0 ≡ Rattle.mpl_gen_code.specs.Scopes.words_of_shape ds slot.shape = subst (ArgFits (Rattle.mpl_gen_code.specs.Scopes.words_of_shape ds slot.shape)) words.1 there.1 in
        let inside : found.offset + found.words ≤ length words.0 = omega (arith, long, fits) in
        let held_so = there.0 ∙ ap Some words.1 in
        let got = read_there found.offset found.words words.0 inside in
        record {
          base = words.0;
          got = ap (λ (a : Arg). Rattle.mpl_mean.specs.Meaning.Store.force a s) words.1;
          inside = inside;
          loads = λ p ws. given_is (slice_get vs slot.number) (Know words.0) _ held_so ∙ given_is (read_words found.offset found.words words.0) _ _ got;
          element = λ line p ws i. given_is (slice_get vs slot.number) (Know words.0) _ held_so ∙ given_is (read_words found.offset found.words words.0) _ _ got;
        }

  abbrev array_of : Found → List ℤ → Value
  array_of found base = record { words = words_at found.offset found.words base; is_bool = is_bool found.type }

  -- what a place means
  read_is : (t : Target) (found : Found) → found_at env t ≡ Some found → (b : Based found) → read c t s ≡ Goes (array_of found b.base) s
  read_is t found is b =
      ap (λ (l : Option Location). words_of_location l s) (located (run_of_guard G) (Fixed G.state) (callees_at 0 ds 0 empty) env vs s t stands ∙ ap (option_map (location_at vs)) is)
      ∙ ap (λ (o : Outcome (List ℤ)). and_then o (λ words. pure (array_of found words))) b.got

  whole_follows : (node : ℕ) (t : Target) (o : Option Found) → found_at env t ≡ o → (p q : ℕ) (ws : List ℤ) → From G.code p (read_code false o p) q → PlaceFits env o → words_of_found o ≡ 1 → length ws + 1 ≤ most_guard_words
      → Wants q ws (read c t s) → At p ws
  whole_follows node t None is p q ws from fits single few h = absurd fits
  whole_follows node t (Some found) is p q ws from fits single few h =
      let b = based t found is fits in
      let parts = from_joined G.code no_code (one (load_from found found.slot)) p q from in
      let words = words_at found.offset found.words b.base in
      let long : length words ≡ 1 = words_at_long found.offset found.words b.base b.inside ∙ single in
      let first : p ≡ parts.middle = parts.first in
      let next : parts.middle + 1 ≡ q = parts.second.1 in
      moved ws first
      (goes G answer parts.middle ws (load_from found found.slot) (parts.middle + 1) (first_word words ∷ ws) parts.second.0
      (b.loads parts.middle ws ∙ ap (λ (words : List ℤ). Some (frames.Goes (frame G (parts.middle + 1) (pushed words ws)))) (one_word words long))
      (omega arith) (more ws (first_word words) few)
      (moved (first_word words ∷ ws) next (subst (Wants q ws) (read_is t found is b) h refl long)))

  abbrev element_value : List ℤ → Bool → ℕ → Step Value
  element_value array bool n = pure (record { words = slice_index_or array n (pos 0) ∷ []; is_bool = bool })

  indexes : (line : ℕ) (found : Found) (b : Based found) (m q : ℕ) (ws : List ℤ) (i : Value) (t : Store) (bool : Bool) → t ≡ s → Is G m (element_from line found found.slot) → m + 1 ≡ q → length ws + 1 ≤ most_guard_words
      → Asks answer (Top q ws) (and_then (tested_index line (index_below found.words (word_of i)) t) (element_value (words_at found.offset found.words b.base) bool)) → At m (word_of i ∷ ws)
  indexes line found b m q ws i t bool same is next few h = by_index (index_below found.words (word_of i)) refl h where
    array : List ℤ
    array = words_at found.offset found.words b.base

    rest : ℕ → Does Arg
    rest n = given (read_words n 1 array) (λ words. steps.goes_with (pushed words ws) (frame G m (word_of i ∷ ws)))

    by_index : (o : Option ℕ) → index_below found.words (word_of i) ≡ o → Asks answer (Top q ws) (and_then (tested_index line o t) (element_value array bool)) → At m (word_of i ∷ ws)
    by_index None e h =
        subst (λ b. Gives G b m (word_of i ∷ ws)) (sym h)
        (traps G m (word_of i ∷ ws) (element_from line found found.slot) (record { kind = Index; line = line }) is
        (b.element line m ws (word_of i) ∙ ap (λ (o : Option ℕ). steps.at_index o line (frame G m (word_of i ∷ ws)) rest) e))
    by_index (Some n) e h =
        let enough : n < found.words = index_inside found.words (word_of i) n e in
        let long : length array ≡ found.words = words_at_long found.offset found.words b.base b.inside in
        let w = slice_index_or array n (pos 0) in
        goes G answer m (word_of i ∷ ws) (element_from line found found.slot) (m + 1) (w ∷ ws) is
        (b.element line m ws (word_of i)
        ∙ ap (λ (o : Option ℕ). steps.at_index o line (frame G m (word_of i ∷ ws)) rest) e
        ∙ given_is (read_words n 1 array) (words_at n 1 array) _ (read_there n 1 array (omega (arith, enough, long)))
        ∙ ap (λ (words : List ℤ). Some (frames.Goes (frame G (m + 1) (pushed words ws)))) (element_at n array (omega (arith, enough, long))))
        (omega arith) (more ws w few) (moved (w ∷ ws) next (h same refl))

  element_follows : (line : ℕ) (t : Target) (o : Option Found) → found_at env t ≡ o → (v : Evaluates) (index : Expr) → Follows v index → (p q : ℕ) (ws : List ℤ)
      → From G.code p (joined no_code (joined (value_code env index) (Rattle.mpl_gen_code.specs.ExpressionCode.element_of line o)) p) q → q ≤ length G.code → PlaceFits env o → Ready env (length ws) index → length ws + 1 ≤ most_guard_words
      → Wants q ws (element_of line (read c t) (v c) s) → At p ws
  element_follows line t None is v index on_index p q ws from within fits ready few h = absurd fits
  element_follows line t (Some found) is v index on_index p q ws from within fits ready few h =
      let b = based t found is fits in
      let first = from_joined G.code no_code (joined (value_code env index) (one (element_from line found found.slot))) p q from in
      let second = from_joined G.code (value_code env index) (one (element_from line found found.slot)) first.middle q first.second in
      let begins : p ≡ first.middle = first.first in
      let next : second.middle + 1 ≡ q = second.second.1 in
      let inner = second.within in
      moved ws begins
      (on_index first.middle second.middle ws second.first (omega (arith, within, inner)) ready
      (asks_on answer (Top q ws) (Top second.middle ws) (v c s) (λ i. index_of line (length (words_at found.offset found.words b.base)) (word_of i) >>= element_value (words_at found.offset found.words b.base) (is_bool found.type))
      (λ i t1 h1 same single.
      indexes line found b second.middle q ws i t1 (is_bool found.type) same second.second.0 next few
      (subst (λ k. Asks answer (Top q ws) (and_then (tested_index line (index_below k (word_of i)) t1) (element_value (words_at found.offset found.words b.base) (is_bool found.type))))
      (words_at_long found.offset found.words b.base b.inside) h1))
      (subst (λ o. Asks answer (Top q ws) (and_then o (λ a. v c >>= (λ i. index_of line (length a.words) (word_of i) >>= element_value a.words a.is_bool))))
      (read_is t found is b) h)))

  -- ---- operators

  operands : (l r : Evaluates) (left right : Expr) → Follows l left → Follows r right → (i : Instr) (p q : ℕ) (ws : List ℤ) → From G.code p (both_code (value_code env left) (value_code env right) i p) q → q ≤ length G.code
      → Ready env (length ws) left → Ready env (length ws + 1) right → (outcome : Value → Value → Step Value)
      → ((a b : Value) (m : ℕ) → Is G m i → m + 1 ≡ q → Wants q ws (outcome a b s) → At m (word_of b ∷ word_of a ∷ ws))
      → Wants q ws ((l c >>= (λ a. r c >>= outcome a)) s) → At p ws
  operands l r left right on_left on_right i p q ws from within left_ready right_ready outcome ends h =
      let first = from_joined G.code (value_code env left) (followed_by (value_code env right) i) p q from in
      let second = from_followed G.code (value_code env right) i first.middle q first.second in
      let one_within = first.within in
      let two_within = second.within in
      on_left p first.middle ws first.first (omega (arith, within, one_within)) left_ready
      (asks_on answer (Top q ws) (Top first.middle ws) (l c s) (λ a. r c >>= outcome a)
      (λ a t1 h1 same single.
      on_right first.middle second.middle (word_of a ∷ ws) second.first (omega (arith, within, two_within)) (subst (λ k. Ready env k right) (let e : length ws + 1 ≡ length (word_of a ∷ ws) = omega arith in e) right_ready)
      (asks_on answer (Top q ws) (Top second.middle (word_of a ∷ ws)) (r c s) (outcome a)
      (λ b t2 h2 same2 single2. ends a b second.middle second.is second.next (subst (λ t. Wants q ws (outcome a b t)) same2 h2))
      (subst (λ t. Asks answer (Top q ws) (and_then (r c t) (outcome a))) same h1)))
      h)

  arithmetics : (line : ℕ) (operation : ℤ → ℤ → Result ℤ TrapKind) (i : Instr) (q : ℕ) (ws : List ℤ) → length ws + 1 ≤ most_guard_words
      → ((p : ℕ) (a b : ℤ) → does in_place (around G) i (frame G p (b ∷ a ∷ ws)) ≡ steps.computed line (operation a b) ws (frame G p (b ∷ a ∷ ws)))
      → (a b : Value) (m : ℕ) → Is G m i → m + 1 ≡ q → Wants q ws (and_then (computed line (operation (word_of a) (word_of b)) s) (λ z. pure (int_value z))) → At m (word_of b ∷ word_of a ∷ ws)
  arithmetics line operation i q ws few step a b m is next h =
      computes G answer m (word_of b ∷ word_of a ∷ ws) ws i line (operation (word_of a) (word_of b)) is (step m (word_of a) (word_of b)) few
      (λ z e. moved (z ∷ ws) next (subst (λ r. Wants q ws (and_then (computed line r s) (λ z. pure (int_value z)))) e h refl refl))
      (λ kind e. subst (λ r. Wants q ws (and_then (computed line r s) (λ z. pure (int_value z)))) e h)

  tests : (test : ℤ → ℤ → Bool) (i : Instr) (q : ℕ) (ws : List ℤ) → length ws + 1 ≤ most_guard_words
      → ((p : ℕ) (a b : ℤ) → does in_place (around G) i (frame G p (b ∷ a ∷ ws)) ≡ steps.goes_with (bool_word (test a b) ∷ ws) (frame G p (b ∷ a ∷ ws)))
      → (a b : Value) (m : ℕ) → Is G m i → m + 1 ≡ q → Wants q ws (pure (bool_value (test (word_of a) (word_of b))) s) → At m (word_of b ∷ word_of a ∷ ws)
  tests test i q ws few step a b m is next h =
      goes G answer m (word_of b ∷ word_of a ∷ ws) i (m + 1) (bool_word (test (word_of a) (word_of b)) ∷ ws) is (step m (word_of a) (word_of b)) (omega arith) (more ws (bool_word (test (word_of a) (word_of b))) few)
      (moved (bool_word (test (word_of a) (word_of b)) ∷ ws) next (h refl refl))

  ready_left : (at : Rattle.mpl_ast.specs.declared.place.At.At) (line k : ℕ) (o : BinaryOperator) (left right : Expr) → Ready env k (e.Binary at line o left right) → Ready env k left
  ready_left at line k o left right r = record { fits = r.fits.0; one = r.fits.1; alone = r.alone.0; low = r.low.1 }

  ready_right : (at : Rattle.mpl_ast.specs.declared.place.At.At) (line k : ℕ) (o : BinaryOperator) (left right : Expr) → Ready env k (e.Binary at line o left right) → Ready env k right
  ready_right at line k o left right r = record { fits = r.fits.2; one = r.fits.3; alone = r.alone.1; low = r.low.2 }

  ready_last : (at : Rattle.mpl_ast.specs.declared.place.At.At) (line k : ℕ) (o : BinaryOperator) (left right : Expr) → Ready env k (e.Binary at line o left right) → Ready env (k + 1) right
  ready_last at line k o left right r = record { fits = r.fits.2; one = r.fits.3; alone = r.alone.1; low = r.low.3 }

  is_true_by : (v : Value) (b : Bool) → int_eq (word_of v) (pos 0) ≡ b → is_true v ≡ not b
  is_true_by v b e = ap not e

  -- the right operand is evaluated where the left one doesn't decide
  logic_follows : (l r : Evaluates) (left right : Expr) → Follows l left → Follows r right → (first second : Piece) (p q : ℕ) (ws : List ℤ) → From G.code p (joined (value_code env left) (either first second) p) q → q ≤ length G.code
      → Ready env (length ws) left → length ws + 1 ≤ most_guard_words → (outcome : Bool → Step Value)
      → ((m b : ℕ) → From G.code m (first m) b → b ≤ length G.code → Wants b ws (outcome true s) → At m ws)
      → ((m : ℕ) → From G.code m (second m) q → Wants q ws (outcome false s) → At m ws)
      → Wants q ws ((l c >>= (λ a. outcome (is_true a))) s) → At p ws
  logic_follows l r left right on_left on_right first second p q ws from within ready few outcome decided rest h =
      let parts = from_joined G.code (value_code env left) (either first second) p q from in
      let ways = two_ways G.code first second parts.middle q parts.second in
      let up = parts.within in
      let other_forward = ways.other_forward in
      let other_within = ways.other_within in
      let forward = ways.forward in
      let fewer : length ws ≤ most_guard_words = let few' : length ws + 1 ≤ most_guard_words = few in omega (arith, few') in
      on_left p parts.middle ws parts.first (omega (arith, within, up)) ready
      (asks_on answer (Top q ws) (Top parts.middle ws) (l c s) (λ a. outcome (is_true a))
      (λ a t1 h1 same single.
      let h2 = subst (λ t. Wants q ws (outcome (is_true a) t)) same h1 in
      jumps_by parts.middle ways.other ws (word_of a) ways.test other_forward (omega (arith, other_within, within)) fewer
      (λ zero. rest ways.other ways.other_way (subst (λ b. Wants q ws (outcome b s)) (is_true_by a true zero) h2))
      (λ other.
      decided (parts.middle + 1) ways.back ways.one_way (omega (arith, forward, within))
      (asks_map answer (outcome true s)
      (λ v t k same2 single2. jumps_back ways.back (word_of v) ways.jump forward few (k same2 single2))
      (subst (λ b. Wants q ws (outcome b s)) (is_true_by a false other) h2))))
      h) where
        jumps_back : (back : ℕ) (w : ℤ) → Is G back (instr.Jump q) → back < q → length ws + 1 ≤ most_guard_words → At q (w ∷ ws) → At back (w ∷ ws)
        jumps_back back w is forward few k = jumps back q (w ∷ ws) is forward within (more ws w few) k

  pushed_follows : (b : Bool) (m q : ℕ) (ws : List ℤ) → From G.code m (one (instr.Push (bool_word b)) m) q → length ws + 1 ≤ most_guard_words → Wants q ws (pure (bool_value b) s) → At m ws
  pushed_follows b m q ws from few h = pushes m q ws (bool_word b) from.0 from.1 few (h refl refl)

  binary_follows : (at : Rattle.mpl_ast.specs.declared.place.At.At) (line : ℕ) (o : BinaryOperator) (l r : Evaluates) (left right : Expr) → Follows l left → Follows r right → Follows (value_of_binary line o l r) (e.Binary at line o left right)
  binary_follows at line Or l r left right on_left on_right p q ws from within ready h =
      logic_follows l r left right on_left on_right (one (instr.Push (bool_word true))) (value_code env right) p q ws from within (ready_left at line (length ws) Or left right ready) ready.low.0
      (λ b. if b then pure (bool_value true) else r c)
      (λ m b from' within' k. pushed_follows true m b ws from' ready.low.0 k)
      (λ m from' k. on_right m q ws from' within (ready_right at line (length ws) Or left right ready) k)
      h
  binary_follows at line And l r left right on_left on_right p q ws from within ready h =
      logic_follows l r left right on_left on_right (value_code env right) (one (instr.Push (bool_word false))) p q ws from within (ready_left at line (length ws) And left right ready) ready.low.0
      (λ b. if b then r c else pure (bool_value false))
      (λ m b from' within' k. on_right m b ws from' within' (ready_right at line (length ws) And left right ready) k)
      (λ m from' k. pushed_follows false m q ws from' ready.low.0 k)
      h
  binary_follows at line (Equate equality.Equal) l r left right on_left on_right p q ws from within ready h =
      operands l r left right on_left on_right instr.Equal p q ws from within (ready_left at line (length ws) _ left right ready) (ready_last at line (length ws) _ left right ready) _
      (tests int_eq instr.Equal q ws ready.low.0 (λ p a b. refl)) h
  binary_follows at line (Equate equality.Unequal) l r left right on_left on_right p q ws from within ready h =
      operands l r left right on_left on_right instr.NotEqual p q ws from within (ready_left at line (length ws) _ left right ready) (ready_last at line (length ws) _ left right ready) _
      (tests (λ a b. not (int_eq a b)) instr.NotEqual q ws ready.low.0 (λ p a b. refl)) h
  binary_follows at line (Compare relation.Less) l r left right on_left on_right p q ws from within ready h =
      operands l r left right on_left on_right instr.Less p q ws from within (ready_left at line (length ws) _ left right ready) (ready_last at line (length ws) _ left right ready) _
      (tests int_lt instr.Less q ws ready.low.0 (λ p a b. refl)) h
  binary_follows at line (Compare relation.LessEqual) l r left right on_left on_right p q ws from within ready h =
      operands l r left right on_left on_right instr.LessEqual p q ws from within (ready_left at line (length ws) _ left right ready) (ready_last at line (length ws) _ left right ready) _
      (tests int_le instr.LessEqual q ws ready.low.0 (λ p a b. refl)) h
  binary_follows at line (Compare relation.Greater) l r left right on_left on_right p q ws from within ready h =
      operands l r left right on_left on_right instr.Greater p q ws from within (ready_left at line (length ws) _ left right ready) (ready_last at line (length ws) _ left right ready) _
      (tests (λ a b. int_lt b a) instr.Greater q ws ready.low.0 (λ p a b. refl)) h
  binary_follows at line (Compare relation.GreaterEqual) l r left right on_left on_right p q ws from within ready h =
      operands l r left right on_left on_right instr.GreaterEqual p q ws from within (ready_left at line (length ws) _ left right ready) (ready_last at line (length ws) _ left right ready) _
      (tests (λ a b. int_le b a) instr.GreaterEqual q ws ready.low.0 (λ p a b. refl)) h
  binary_follows at line (Add sum.Plus) l r left right on_left on_right p q ws from within ready h =
      operands l r left right on_left on_right (instr.Add line) p q ws from within (ready_left at line (length ws) _ left right ready) (ready_last at line (length ws) _ left right ready) _
      (arithmetics line arithmetic.sum (instr.Add line) q ws ready.low.0 (λ p a b. refl)) h
  binary_follows at line (Add sum.Minus) l r left right on_left on_right p q ws from within ready h =
      operands l r left right on_left on_right (instr.Sub line) p q ws from within (ready_left at line (length ws) _ left right ready) (ready_last at line (length ws) _ left right ready) _
      (arithmetics line arithmetic.difference (instr.Sub line) q ws ready.low.0 (λ p a b. refl)) h
  binary_follows at line (Multiply term.Times) l r left right on_left on_right p q ws from within ready h =
      operands l r left right on_left on_right (instr.Mul line) p q ws from within (ready_left at line (length ws) _ left right ready) (ready_last at line (length ws) _ left right ready) _
      (arithmetics line arithmetic.product (instr.Mul line) q ws ready.low.0 (λ p a b. refl)) h
  binary_follows at line (Multiply term.Over) l r left right on_left on_right p q ws from within ready h =
      operands l r left right on_left on_right (instr.Div line) p q ws from within (ready_left at line (length ws) _ left right ready) (ready_last at line (length ws) _ left right ready) _
      (arithmetics line arithmetic.quotient (instr.Div line) q ws ready.low.0 (λ p a b. refl)) h
  binary_follows at line (Multiply term.Modulo) l r left right on_left on_right p q ws from within ready h =
      operands l r left right on_left on_right (instr.Rem line) p q ws from within (ready_left at line (length ws) _ left right ready) (ready_last at line (length ws) _ left right ready) _
      (arithmetics line arithmetic.remainder (instr.Rem line) q ws ready.low.0 (λ p a b. refl)) h

  unary_follows : (at : Rattle.mpl_ast.specs.declared.place.At.At) (line : ℕ) (o : UnaryOperator) (v : Evaluates) (operand : Expr) → Follows v operand
      → Follows (Rattle.mpl_mean.specs.Meaning.ExpressionMeaning.value_of_unary line o v) (e.Unary at line o operand)
  unary_follows at line o v operand on_operand p q ws from within ready h =
      let parts = from_followed G.code (value_code env operand) (unary_instr line o) p q from in
      let up = parts.within in
      on_operand p parts.middle ws parts.first (omega (arith, within, up)) (record { fits = ready.fits.0; one = ready.fits.1; alone = ready.alone; low = ready.low.1 })
      (asks_on answer (Top q ws) (Top parts.middle ws) (v c s) (Rattle.mpl_mean.specs.Meaning.ExpressionMeaning.unary_operation line o)
      (λ a t1 h1 same single. by_operator o a parts.middle parts.is parts.next ready.low.0 (subst (λ t. Wants q ws (Rattle.mpl_mean.specs.Meaning.ExpressionMeaning.unary_operation line o a t)) same h1))
      h) where
        twice : (b : Bool) → not (not b) ≡ b
        twice true = refl
        twice false = refl

        by_operator : (o : UnaryOperator) (a : Value) (m : ℕ) → Is G m (unary_instr line o) → m + 1 ≡ q → length ws + 1 ≤ most_guard_words
            → Wants q ws (Rattle.mpl_mean.specs.Meaning.ExpressionMeaning.unary_operation line o a s) → At m (word_of a ∷ ws)
        by_operator unary.Negative a m is next few h =
            computes G answer m (word_of a ∷ ws) ws (instr.Neg line) line (arithmetic.negation (word_of a)) is refl few
            (λ z e. moved (z ∷ ws) next (subst (λ r. Wants q ws (and_then (computed line r s) (λ z. pure (int_value z)))) e h refl refl))
            (λ kind e. subst (λ r. Wants q ws (and_then (computed line r s) (λ z. pure (int_value z)))) e h)
        by_operator unary.Not a m is next few h =
            goes G answer m (word_of a ∷ ws) instr.Not (m + 1) (bool_word (int_eq (word_of a) (pos 0)) ∷ ws) is refl (omega arith) (more ws (bool_word (int_eq (word_of a) (pos 0))) few)
            (moved (bool_word (int_eq (word_of a) (pos 0)) ∷ ws) next
            (subst (λ b. At q (bool_word b ∷ ws)) (twice (int_eq (word_of a) (pos 0))) (h refl refl)))

  -- ---- the forms

  abbrev FollowsForm : Becomes → Type 0
  FollowsForm t = Follows (t Evaluates value_of_forms) (t Expr expr_of_forms)

  forms_follow : EachForm FollowsForm FollowsForm
  forms_follow = record {
    alone = λ at t h. h;
    binary = λ at line o l r on_left on_right. binary_follows at line o (l Evaluates value_of_forms) (r Evaluates value_of_forms) (l Expr expr_of_forms) (r Expr expr_of_forms) on_left on_right;
    unary = λ at line o t h. unary_follows at line o (t Evaluates value_of_forms) (t Expr expr_of_forms) h;
    number = λ at z p q ws from within ready h. pushes p q ws z from.0 from.1 ready.low (h refl refl);
    true = λ at p q ws from within ready h. pushed_follows true p q ws from ready.low h;
    false = λ at p q ws from within ready h. pushed_follows false p q ws from ready.low h;
    own = λ at p q ws from within ready h. absurd ready.alone;
    read = λ at t h. h;
    input = λ at p q ws from within ready h. absurd ready.alone;
    call = λ at f es all p q ws from within ready h. absurd ready.alone;
    parenthesized = λ at t on p q ws from within ready h. on p q ws from within (record { fits = ready.fits; one = ready.one; alone = ready.alone; low = ready.low }) h;
    whole = λ at t p q ws from within ready h.
        whole_follows at.id t (found_at env t) refl p q ws
        (subst (λ (piece : Piece). From G.code p (piece p) q) (place_value (whole_slot env (name_of_target t)) (words_of_expr env (e.Whole at t)) (read_code false (found_at env t))) from) ready.fits ready.one ready.low h;
    element = λ at line t i on p q ws from within ready h.
        element_follows line t (found_at env t) refl (i Evaluates value_of_forms) (i Expr expr_of_forms) on p q ws (need_none (found_at env t) line (i Expr expr_of_forms) p q from) within ready.fits.0
        (record { fits = ready.fits.1; one = ready.fits.2; alone = ready.alone; low = ready.low.1 }) ready.low.0 h;
  } where
    need_none : (o : Option Found) (line : ℕ) (index : Expr) (p q : ℕ) → From G.code p (joined (Rattle.mpl_gen_code.specs.ExpressionCode.need_of false o) (joined (value_code env index) (Rattle.mpl_gen_code.specs.ExpressionCode.element_of line o)) p) q
        → From G.code p (joined no_code (joined (value_code env index) (Rattle.mpl_gen_code.specs.ExpressionCode.element_of line o)) p) q
    need_none None line index p q from = from
    need_none (Some found) line index p q from = from

  -- where the code of an expression stands, it comes to the answer that its outcome asks for
  pub expression_follows : (test : Expression) (p q : ℕ) (ws : List ℤ) → From G.code p (value_code (guard_env ds class m) (Rattle.mpl_mean.specs.Plain.Expr.expr_of test) p) q → q ≤ length G.code
      → Ready (guard_env ds class m) (length ws) (Rattle.mpl_mean.specs.Plain.Expr.expr_of test)
      → Wanted G s answer q ws (Rattle.mpl_mean.specs.Meaning.ExpressionMeaning.value_of test (guard_context ds class) s) → Gives G answer p ws
  expression_follows test p q ws from within ready h =
      by_forms FollowsForm FollowsForm forms_follow test p q ws from within ready (wants (Rattle.mpl_mean.specs.Meaning.ExpressionMeaning.value_of test (guard_context ds class) s) h) where
        wants : (o : Outcome Value) → Wanted G s answer q ws o → Wants q ws o
        wants (Goes v t) h = h
        wants (Returns words t) h = h
        wants (Ends x t) h = h
