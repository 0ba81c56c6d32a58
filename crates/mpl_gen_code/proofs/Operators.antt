-- The code of operators does what they mean, where that of their operands does.
use Rattle.std.proofs.Common.{◌≡◌, ◌≤◌, ◌<◌, ℕ, ◌+◌, Bool, true, false, not, List, [], ◌∷◌, length, Some, None, if◌then◌else◌, ℤ, pos, Result, Ok, Err, refl, ap, sym, subst, arith, ◌∙◌}
use Rattle.std.specs.List.{slice_get, slice_index_or}
use Rattle.std.specs.Option.{option_map}
use Rattle.std.specs.Ordering.{int_eq}
use Rattle.std.specs.Prelude.{flat_map, int_le, int_lt, nat_lt}
use Rattle.mpl_ast.specs.declared.expression.EqualityOperator.{EqualityOperator}
use Rattle.mpl_ast.specs.declared.expression.EqualityOperator.TheVariants as equality
use Rattle.mpl_ast.specs.declared.expression.RelationOperator.{RelationOperator}
use Rattle.mpl_ast.specs.declared.expression.RelationOperator.TheVariants as relation
use Rattle.mpl_ast.specs.declared.expression.SumOperator.{SumOperator}
use Rattle.mpl_ast.specs.declared.expression.SumOperator.TheVariants as sum
use Rattle.mpl_ast.specs.declared.expression.TermOperator.{TermOperator}
use Rattle.mpl_ast.specs.declared.expression.TermOperator.TheVariants as term
use Rattle.mpl_ast.specs.declared.expression.UnaryOperator.{UnaryOperator}
use Rattle.mpl_ast.specs.declared.expression.UnaryOperator.TheVariants as unary
use Rattle.mpl_value.specs.Arithmetic as arithmetic
use Rattle.mpl_value.specs.Words.{bool_word, index_below}
use Rattle.mpl_value.specs.declared.body.Arg.{Arg}
use Rattle.mpl_value.specs.declared.known.TrapKind.{TrapKind}
use Rattle.mpl_mean.specs.Levels.{BinaryOperator, Or, And, Equate, Compare, Add, Multiply}
use Rattle.mpl_mean.specs.Meaning.Context.{Callees, Context}
use Rattle.mpl_mean.specs.Meaning.ExpressionMeaning.{equality_test, next_of, relation_test, sum_operation, term_operation, unary_operation}
use Rattle.mpl_mean.specs.Meaning.Store.{Store, and_then, computed, pure}
use Rattle.mpl_mean.specs.Meaning.Values.{Value, bool_value, int_value, is_true, word_of}
use Rattle.mpl_mean.specs.Plain.Expr.{Expr}
use Rattle.mdf_code.specs.Frames.{Flow}
use Rattle.mdf_code.specs.Parts.{text_at}
use Rattle.mdf_code.specs.Stacks.{pushed}
use Rattle.mdf_code.specs.Yields.{around, in_place}
use Rattle.mdf_code.specs.Steps as steps
use Rattle.mdf_code.specs.declared.instr.Instr.{Instr}
use Rattle.mdf_code.specs.declared.instr.Instr.TheVariants as instr
use Rattle.mpl_checked.specs.Checked.CheckedExpressions.{checked_binary, checked_read, checked_value, checked_words}
use Rattle.mpl_checked.specs.Checked.CheckedSteps.{CheckedCallees, CheckedStep, Checking, Meant, ◌>?>◌}
use Rattle.mpl_gen_code.specs.ExpressionCode.{Codes, both_code, binary_code, codes_of_each, element_of, equality_instr, function_number, need_of, plain_code, relation_instr, sum_instr, term_instr, unary_instr, value_code, values_code}
use Rattle.mpl_gen_code.specs.Fits.{DecidesBool, ExprFits, May, PlaceFits}
use Rattle.mpl_gen_code.specs.Pieces.{either, followed_by, joined, one}
use Rattle.mpl_gen_code.specs.Scopes.{Env, found_at}
use Rattle.mpl_gen_code.specs.Words.{is_bool_binary, is_bool_expr, is_bool_found, words_of_expr, words_of_found, words_of_function}
use Rattle.mpl_gen_code.proofs.Below.{Below}
use Rattle.mpl_gen_code.proofs.Instructions.{At, Is, computes, fetches_element, fetches_outside, goes, jumps, jumps_over, loads_element, loads_outside, own, passes_on, pushes, reads, reads_nothing}
use Rattle.mpl_gen_code.proofs.Places.{Upto, ValueAt, from_either, from_followed, from_joined, known_at, moved, of_stands, one_word, read_follows, upto_before}
use Rattle.mpl_gen_code.proofs.Reaching.{Comes, Fixed, From, Keeping, Keeps, Run, Stopped, comes_map, comes_on, from_parts}
use Rattle.mpl_gen_code.proofs.Scoped.{Allowed, Scoped, Stands, context_of, located}

-- an index is below its dimension
pub index_inside : (count : ℕ) (i : ℤ) (at : ℕ) → index_below count i ≡ Some at → at < count
index_inside count (pos n) at e = by_test (nat_lt n count) refl e where
  by_test : (b : Bool) → nat_lt n count ≡ b → (if b then Some n else None) ≡ Some at → at < count
  by_test true is e = let same : n ≡ at = cc e in subst (λ k. k < count) same (Rattle.std.proofs.lemmas.Bool.ltb-true n count is)
  by_test false is e = absurd cc
index_inside count (Rattle.std.specs.Prelude.negsuc n) at e = absurd cc

pub zero_or_not : (P : Type 0) (b : Bool) → (b ≡ true → P) → (b ≡ false → P) → P
zero_or_not P true f g = f refl
zero_or_not P false f g = g refl

module _ (K : Run) (may : May) (env : Env) (inner : Callees) (callees : CheckedCallees) (base : ℕ) (below : Below K.whole env.declarations callees base) (above : base ≤ K.low)
    (allowed : Allowed K may env.parts) (scoped : Scoped K env) (vs : List Arg) where
  abbrev pub c : Context
  c = context_of K inner env

  abbrev pub chk : Checking
  chk = record { marks = env.marks; callees = callees }

  abbrev text : List Instr
  text = text_at K.whole.setting.image K.here.code

  abbrev S : Keeping → Store → Type 0
  S keeping s = Stands K keeping env vs s

  abbrev V : Keeping → ℕ → List ℤ → List (Flow Arg) → ℕ → Bool → Value → Store → Type 0
  V keeping = ValueAt K keeping env vs

  abbrev here : {p q : ℕ} → Keeping → (ws : List ℤ) (fs : List (Flow Arg)) (s : Store) → p ≡ q → At K q ws fs vs s → At K p ws fs vs s
  here keeping = moved K keeping env vs

  abbrev Inside : ℕ → Type 0
  Inside = Upto K (Fixed []) env vs

  before : (q m : ℕ) → m ≤ q → Inside q → Inside m
  before = upto_before K (Fixed []) env vs

  -- ---- places

  pub reads_place : (keeping : Keeping) (node : ℕ) (t : Rattle.mpl_ast.specs.declared.expression.Target.Target) (p q : ℕ) (ws : List ℤ) (fs : List (Flow Arg)) (s : Store)
      → From text p (Rattle.mpl_gen_code.specs.ExpressionCode.read_code (env.marks node) (found_at env t) p) q → PlaceFits env (found_at env t) → S keeping s
      → Comes K (V keeping q ws fs (words_of_found (found_at env t)) (is_bool_found (found_at env t))) (checked_read chk node c t s) → At K p ws fs vs s
  reads_place keeping node t p q ws fs s from fits stands h =
      read_follows K keeping env vs chk node (found_at env t) p q ws fs s from scoped (known_at K may env t allowed) fits stands
      (subst (λ l. Comes K (V keeping q ws fs (words_of_found (found_at env t)) (is_bool_found (found_at env t))) (checked_words chk node l s)) (located K keeping inner env vs s t stands) h)

  -- ---- operators

  pub input_follows : (keeping : Keeping) (p q : ℕ) (ws : List ℤ) (fs : List (Flow Arg)) (s : Store) (line : ℕ) (input : List ℤ) → s.input ≡ input → may.input ≡ true → Is K p (instr.Input line) → p + 1 ≡ q → S keeping s
      → Comes K (V keeping q ws fs 1 false) (Meant (next_of line input s)) → At K p ws fs vs s
  input_follows keeping p q ws fs s line [] e main is there stands h = reads_nothing K p ws fs vs s line e (allowed.input main) is (h (of_stands K keeping env vs stands _))
  input_follows keeping p q ws fs s line (z ∷ zs) e main is there stands h =
      reads K p ws fs vs s line z zs e (allowed.input main) is
      (here keeping (z ∷ ws) fs (record s { input = zs }) there
      (h (record { agree = stands.agree; sized = stands.sized; keeps = stands.keeps; long = stands.long; low = stands.low; within = stands.within; result = stands.result }) refl refl))

  computed_follows : (keeping : Keeping) (p q : ℕ) (ws : List ℤ) (fs : List (Flow Arg)) (s : Store) (i : Instr) (line : ℕ) (operation : ℤ → ℤ → Result ℤ TrapKind) (a b : ℤ)
      → steps.does in_place (around K.whole.setting) i (Rattle.mpl_gen_code.proofs.Reaching.frame_at (Rattle.mpl_gen_code.proofs.Instructions.point K p (b ∷ a ∷ ws) fs vs) s)
      ≡ steps.computed line (operation a b) ws (Rattle.mpl_gen_code.proofs.Reaching.frame_at (Rattle.mpl_gen_code.proofs.Instructions.point K p (b ∷ a ∷ ws) fs vs) s)
      → Is K p i → p + 1 ≡ q → S keeping s
      → Comes K (V keeping q ws fs 1 false) (Meant (and_then (computed line (operation a b) s) (λ z. pure (int_value z)))) → At K p (b ∷ a ∷ ws) fs vs s
  computed_follows keeping p q ws fs s i line operation a b does is there stands h =
      computes K p ws fs vs s i line operation a b does is
      (λ z e. here keeping (z ∷ ws) fs s there
      (subst (λ (r : Result ℤ TrapKind). Comes K (V keeping q ws fs 1 false) (Meant (and_then (computed line r s) (λ z. pure (int_value z))))) e h stands refl refl))
      (λ kind e. subst (λ (r : Result ℤ TrapKind). Comes K (V keeping q ws fs 1 false) (Meant (and_then (computed line r s) (λ z. pure (int_value z))))) e h (of_stands K keeping env vs stands _))

  compared_follows : (keeping : Keeping) (p q : ℕ) (ws : List ℤ) (fs : List (Flow Arg)) (s : Store) (i : Instr) (test : ℤ → ℤ → Bool) (a b : ℤ)
      → steps.does in_place (around K.whole.setting) i (Rattle.mpl_gen_code.proofs.Reaching.frame_at (Rattle.mpl_gen_code.proofs.Instructions.point K p (b ∷ a ∷ ws) fs vs) s)
      ≡ steps.goes_with (bool_word (test a b) ∷ ws) (Rattle.mpl_gen_code.proofs.Reaching.frame_at (Rattle.mpl_gen_code.proofs.Instructions.point K p (b ∷ a ∷ ws) fs vs) s)
      → Is K p i → p + 1 ≡ q → S keeping s
      → Comes K (V keeping q ws fs 1 true) (Meant (pure (bool_value (test a b)) s)) → At K p (b ∷ a ∷ ws) fs vs s
  compared_follows keeping p q ws fs s i test a b does is there stands h =
      goes K p (b ∷ a ∷ ws) fs vs s i (p + 1) (bool_word (test a b) ∷ ws) fs vs s is does (λ _. refl)
      (here keeping (bool_word (test a b) ∷ ws) fs s there (h stands refl refl))

  negated_follows : (keeping : Keeping) (p q : ℕ) (ws : List ℤ) (fs : List (Flow Arg)) (s : Store) (line : ℕ) (a : ℤ) → Is K p (instr.Neg line) → p + 1 ≡ q → S keeping s
      → Comes K (V keeping q ws fs 1 false) (Meant (and_then (computed line (arithmetic.negation a) s) (λ z. pure (int_value z)))) → At K p (a ∷ ws) fs vs s
  negated_follows keeping p q ws fs s line a is there stands h = by_result (arithmetic.negation a) refl h where
    by_result : (r : Result ℤ TrapKind) → arithmetic.negation a ≡ r → Comes K (V keeping q ws fs 1 false) (Meant (and_then (computed line r s) (λ z. pure (int_value z)))) → At K p (a ∷ ws) fs vs s
    by_result (Ok z) e h =
        goes K p (a ∷ ws) fs vs s (instr.Neg line) (p + 1) (z ∷ ws) fs vs s is
        (ap (λ (r : Result ℤ TrapKind). steps.computed line r ws (Rattle.mpl_gen_code.proofs.Reaching.frame_at (Rattle.mpl_gen_code.proofs.Instructions.point K p (a ∷ ws) fs vs) s)) e) (λ _. refl)
        (here keeping (z ∷ ws) fs s there (h stands refl refl))
    by_result (Err kind) e h =
        Rattle.mpl_gen_code.proofs.Instructions.traps K p (a ∷ ws) fs vs s (instr.Neg line) (record { kind = kind; line = line }) p (a ∷ ws) fs vs is
        (ap (λ (r : Result ℤ TrapKind). steps.computed line r ws (Rattle.mpl_gen_code.proofs.Reaching.frame_at (Rattle.mpl_gen_code.proofs.Instructions.point K p (a ∷ ws) fs vs) s)) e)
        (h (of_stands K keeping env vs stands _))

  pub unary_follows : (keeping : Keeping) (p q : ℕ) (ws : List ℤ) (fs : List (Flow Arg)) (s : Store) (line : ℕ) (o : UnaryOperator) (a : Value) → Is K p (unary_instr line o) → p + 1 ≡ q → S keeping s
      → Comes K (V keeping q ws fs 1 (Rattle.mpl_gen_code.specs.Words.is_bool_unary o)) (Meant (unary_operation line o a s)) → At K p (word_of a ∷ ws) fs vs s
  unary_follows keeping p q ws fs s line unary.Negative a is there stands h = negated_follows keeping p q ws fs s line (word_of a) is there stands h
  unary_follows keeping p q ws fs s line unary.Not a is there stands h =
      goes K p (word_of a ∷ ws) fs vs s instr.Not (p + 1) (bool_word (int_eq (word_of a) (pos 0)) ∷ ws) fs vs s is refl (λ _. refl)
      (here keeping (bool_word (int_eq (word_of a) (pos 0)) ∷ ws) fs s there
      (subst (λ b. At K q (bool_word b ∷ ws) fs vs s) (twice (int_eq (word_of a) (pos 0))) (h stands refl refl))) where
        twice : (b : Bool) → not (not b) ≡ b
        twice true = refl
        twice false = refl

  -- ---- expressions

  abbrev pub Follows : Expr → Type 0
  Follows t = (keeping : Keeping) (p q : ℕ) (ws : List ℤ) (fs : List (Flow Arg)) (s : Store) → From text p (value_code env t p) q → Inside q → ExprFits may env t → S keeping s
      → Comes K (V keeping q ws fs (words_of_expr env t) (is_bool_expr env t)) (checked_value chk t c s) → At K p ws fs vs s

  -- one word on top
  pub top : (v : Value) (q : ℕ) (ws : List ℤ) (fs : List (Flow Arg)) (s : Store) → length v.words ≡ 1 → At K q (word_of v ∷ ws) fs vs s → At K q (pushed v.words ws) fs vs s
  top v q ws fs s e = subst (λ (words : List ℤ). At K q (pushed words ws) fs vs s) (sym (one_word v.words e))

  -- both operands, and then what an instruction makes of them
  operands_follow : (left right : Expr) → Follows left → Follows right → (keeping : Keeping) (p q : ℕ) (ws : List ℤ) (fs : List (Flow Arg)) (s : Store) (i : Instr) (bool : Bool)
      → From text p (both_code (value_code env left) (value_code env right) i p) q → Inside q
      → ExprFits may env left → (words_of_expr env left ≡ 1) → ExprFits may env right → (words_of_expr env right ≡ 1) → S keeping s
      → (outcome : Value → Value → CheckedStep Value)
      → ((a b : Value) (p1 : ℕ) (s1 : Store) → Is K p1 i → p1 + 1 ≡ q → S keeping s1 → Comes K (V keeping q ws fs 1 bool) (outcome a b s1) → At K p1 (word_of b ∷ word_of a ∷ ws) fs vs s1)
      → Comes K (V keeping q ws fs 1 bool) ((checked_value chk left c >?> (λ a. checked_value chk right c >?> outcome a)) s) → At K p ws fs vs s
  operands_follow left right on_left on_right keeping p q ws fs s i bool from inside left_fits left_one right_fits right_one stands outcome ends h =
      let first = from_joined text (value_code env left) (followed_by (value_code env right) i) p q from in
      let second = from_followed text (value_code env right) i first.middle q first.second in
      let up = before q second.middle second.within inside in
      let up_first = before q first.middle first.within inside in
      on_left keeping p first.middle ws fs s first.first up_first left_fits stands
      (comes_on K (V keeping q ws fs 1 bool) (V keeping first.middle ws fs (words_of_expr env left) (is_bool_expr env left)) (checked_value chk left c s) _ (λ a s1 h1 stands1 long1 bool1.
      top a first.middle ws fs s1 (long1 ∙ left_one)
      (on_right keeping first.middle second.middle (word_of a ∷ ws) fs s1 second.first up right_fits stands1
      (comes_on K (V keeping q ws fs 1 bool) (V keeping second.middle (word_of a ∷ ws) fs (words_of_expr env right) (is_bool_expr env right)) (checked_value chk right c s1) _ (λ b s2 h2 stands2 long2 bool2.
      top b second.middle (word_of a ∷ ws) fs s2 (long2 ∙ right_one)
      (ends a b second.middle s2 second.is second.next stands2 h2))
      h1)))
      h)

  -- ---- where the left operand decides

  is_true_by : (v : Value) (b : Bool) → int_eq (word_of v) (pos 0) ≡ b → is_true v ≡ not b
  is_true_by v b e = ap not e

  or_follows : (left right : Expr) → Follows left → Follows right → (keeping : Keeping) (p q : ℕ) (ws : List ℤ) (fs : List (Flow Arg)) (s : Store)
      → From text p (joined (value_code env left) (either (one (instr.Push (bool_word true))) (value_code env right)) p) q → Inside q
      → ExprFits may env left → (words_of_expr env left ≡ 1) → ExprFits may env right → (words_of_expr env right ≡ 1) → is_bool_expr env right ≡ true → S keeping s
      → Comes K (V keeping q ws fs 1 true) ((checked_value chk left c >?> (λ a. if is_true a then (λ s. Meant (pure (bool_value true) s)) else checked_value chk right c)) s) → At K p ws fs vs s
  or_follows left right on_left on_right keeping p q ws fs s from inside left_fits left_one right_fits right_one right_bool stands h =
      let first = from_joined text (value_code env left) (either (one (instr.Push (bool_word true))) (value_code env right)) p q from in
      let ways = from_either text (one (instr.Push (bool_word true))) (value_code env right) first.middle q first.second in
      let to_other = ways.other_within in
      let to_back = ways.one_way.1 in
      on_left keeping p first.middle ws fs s first.first (before q first.middle first.within inside) left_fits stands
      (comes_on K (V keeping q ws fs 1 true) (V keeping first.middle ws fs (words_of_expr env left) (is_bool_expr env left)) (checked_value chk left c s) _ (λ a s1 h1 stands1 long1 bool1.
      top a first.middle ws fs s1 (long1 ∙ left_one)
      (zero_or_not (At K first.middle (word_of a ∷ ws) fs vs s1) (int_eq (word_of a) (pos 0))
      (λ z. jumps_over K first.middle ws fs vs s1 ways.other (word_of a) (inside ways.other to_other) z ways.test
      (on_right keeping ways.other q ws fs s1 ways.other_way inside right_fits stands1
      (subst (λ n. Comes K (V keeping q ws fs n (is_bool_expr env right)) (checked_value chk right c s1)) (sym right_one)
      (subst (λ b. Comes K (V keeping q ws fs 1 b) (checked_value chk right c s1)) (sym right_bool)
      (subst (λ b. Comes K (V keeping q ws fs 1 true) ((if b then (λ s. Meant (pure (bool_value true) s)) else checked_value chk right c) s1)) (is_true_by a true z) h1)))))
      (λ z. passes_on K first.middle ws fs vs s1 ways.other (word_of a) (inside ways.other to_other) z ways.test
      (pushes K (first.middle + 1) ws fs vs s1 (bool_word true) ways.one_way.0
      (here keeping (bool_word true ∷ ws) fs s1 to_back
      (jumps K ways.back (bool_word true ∷ ws) fs vs s1 q (inside q (omega arith)) ways.jump
      ((subst (λ b. Comes K (V keeping q ws fs 1 true) ((if b then (λ s. Meant (pure (bool_value true) s)) else checked_value chk right c) s1)) (is_true_by a false z) h1) stands1 refl refl)))))))
      h)

  and_follows : (left right : Expr) → Follows left → Follows right → (keeping : Keeping) (p q : ℕ) (ws : List ℤ) (fs : List (Flow Arg)) (s : Store)
      → From text p (joined (value_code env left) (either (value_code env right) (one (instr.Push (bool_word false)))) p) q → Inside q
      → ExprFits may env left → (words_of_expr env left ≡ 1) → ExprFits may env right → (words_of_expr env right ≡ 1) → is_bool_expr env right ≡ true → S keeping s
      → Comes K (V keeping q ws fs 1 true) ((checked_value chk left c >?> (λ a. if is_true a then checked_value chk right c else (λ s. Meant (pure (bool_value false) s)))) s) → At K p ws fs vs s
  and_follows left right on_left on_right keeping p q ws fs s from inside left_fits left_one right_fits right_one right_bool stands h =
      let first = from_joined text (value_code env left) (either (value_code env right) (one (instr.Push (bool_word false)))) p q from in
      let ways = from_either text (value_code env right) (one (instr.Push (bool_word false))) first.middle q first.second in
      let to_other = ways.other_within in
      let to_back : ways.back ≤ q = ways.back_within in
      on_left keeping p first.middle ws fs s first.first (before q first.middle first.within inside) left_fits stands
      (comes_on K (V keeping q ws fs 1 true) (V keeping first.middle ws fs (words_of_expr env left) (is_bool_expr env left)) (checked_value chk left c s) _ (λ a s1 h1 stands1 long1 bool1.
      top a first.middle ws fs s1 (long1 ∙ left_one)
      (zero_or_not (At K first.middle (word_of a ∷ ws) fs vs s1) (int_eq (word_of a) (pos 0))
      (λ z. jumps_over K first.middle ws fs vs s1 ways.other (word_of a) (inside ways.other to_other) z ways.test
      (pushes K ways.other ws fs vs s1 (bool_word false) ways.other_way.0
      (here keeping (bool_word false ∷ ws) fs s1 ways.other_way.1
      ((subst (λ b. Comes K (V keeping q ws fs 1 true) ((if b then checked_value chk right c else (λ s. Meant (pure (bool_value false) s))) s1)) (is_true_by a true z) h1) stands1 refl refl))))
      (λ z. passes_on K first.middle ws fs vs s1 ways.other (word_of a) (inside ways.other to_other) z ways.test
      (on_right keeping (first.middle + 1) ways.back ws fs s1 ways.one_way (before q ways.back to_back inside) right_fits stands1
      (comes_map K (checked_value chk right c s1) (λ v s2 d stands2 long2 bool2.
      jumps K ways.back (pushed v.words ws) fs vs s2 q (inside q (omega arith)) ways.jump (d stands2 (long2 ∙ right_one) (bool2 ∙ right_bool)))
      (subst (λ b. Comes K (V keeping q ws fs 1 true) ((if b then checked_value chk right c else (λ s. Meant (pure (bool_value false) s))) s1)) (is_true_by a false z) h1))))))
      h)

  -- ---- all operators

  sum_follows : (o : SumOperator) (line : ℕ) (keeping : Keeping) (p q : ℕ) (ws : List ℤ) (fs : List (Flow Arg)) (s : Store) (a b : ℤ) → Is K p (sum_instr line o) → p + 1 ≡ q → S keeping s
      → Comes K (V keeping q ws fs 1 false) (Meant (and_then (computed line (sum_operation o a b) s) (λ z. pure (int_value z)))) → At K p (b ∷ a ∷ ws) fs vs s
  sum_follows sum.Plus line keeping p q ws fs s a b is there stands h = computed_follows keeping p q ws fs s (instr.Add line) line arithmetic.sum a b refl is there stands h
  sum_follows sum.Minus line keeping p q ws fs s a b is there stands h = computed_follows keeping p q ws fs s (instr.Sub line) line arithmetic.difference a b refl is there stands h

  term_follows : (o : TermOperator) (line : ℕ) (keeping : Keeping) (p q : ℕ) (ws : List ℤ) (fs : List (Flow Arg)) (s : Store) (a b : ℤ) → Is K p (term_instr line o) → p + 1 ≡ q → S keeping s
      → Comes K (V keeping q ws fs 1 false) (Meant (and_then (computed line (term_operation o a b) s) (λ z. pure (int_value z)))) → At K p (b ∷ a ∷ ws) fs vs s
  term_follows term.Times line keeping p q ws fs s a b is there stands h = computed_follows keeping p q ws fs s (instr.Mul line) line arithmetic.product a b refl is there stands h
  term_follows term.Over line keeping p q ws fs s a b is there stands h = computed_follows keeping p q ws fs s (instr.Div line) line arithmetic.quotient a b refl is there stands h
  term_follows term.Modulo line keeping p q ws fs s a b is there stands h = computed_follows keeping p q ws fs s (instr.Rem line) line arithmetic.remainder a b refl is there stands h

  equality_follows : (o : EqualityOperator) (keeping : Keeping) (p q : ℕ) (ws : List ℤ) (fs : List (Flow Arg)) (s : Store) (a b : ℤ) → Is K p (equality_instr o) → p + 1 ≡ q → S keeping s
      → Comes K (V keeping q ws fs 1 true) (Meant (pure (bool_value (equality_test o a b)) s)) → At K p (b ∷ a ∷ ws) fs vs s
  equality_follows equality.Equal keeping p q ws fs s a b is there stands h = compared_follows keeping p q ws fs s instr.Equal int_eq a b refl is there stands h
  equality_follows equality.Unequal keeping p q ws fs s a b is there stands h = compared_follows keeping p q ws fs s instr.NotEqual (λ a b. not (int_eq a b)) a b refl is there stands h

  relation_follows : (o : RelationOperator) (keeping : Keeping) (p q : ℕ) (ws : List ℤ) (fs : List (Flow Arg)) (s : Store) (a b : ℤ) → Is K p (relation_instr o) → p + 1 ≡ q → S keeping s
      → Comes K (V keeping q ws fs 1 true) (Meant (pure (bool_value (relation_test o a b)) s)) → At K p (b ∷ a ∷ ws) fs vs s
  relation_follows relation.Less keeping p q ws fs s a b is there stands h = compared_follows keeping p q ws fs s instr.Less int_lt a b refl is there stands h
  relation_follows relation.LessEqual keeping p q ws fs s a b is there stands h = compared_follows keeping p q ws fs s instr.LessEqual int_le a b refl is there stands h
  relation_follows relation.Greater keeping p q ws fs s a b is there stands h = compared_follows keeping p q ws fs s instr.Greater (λ a b. int_lt b a) a b refl is there stands h
  relation_follows relation.GreaterEqual keeping p q ws fs s a b is there stands h = compared_follows keeping p q ws fs s instr.GreaterEqual (λ a b. int_le b a) a b refl is there stands h

  pub binary_follows : (line : ℕ) (o : BinaryOperator) (left right : Expr) → Follows left → Follows right → (keeping : Keeping) (p q : ℕ) (ws : List ℤ) (fs : List (Flow Arg)) (s : Store)
      → From text p (binary_code line o (value_code env left) (value_code env right) p) q → Inside q
      → ExprFits may env left → (words_of_expr env left ≡ 1) → ExprFits may env right → (words_of_expr env right ≡ 1) → DecidesBool env o right → S keeping s
      → Comes K (V keeping q ws fs 1 (is_bool_binary o)) (checked_binary line o (checked_value chk left) (checked_value chk right) c s) → At K p ws fs vs s
  binary_follows line Or left right on_left on_right keeping p q ws fs s from inside lf lo rf ro decides stands h =
      or_follows left right on_left on_right keeping p q ws fs s from inside lf lo rf ro decides stands h
  binary_follows line And left right on_left on_right keeping p q ws fs s from inside lf lo rf ro decides stands h =
      and_follows left right on_left on_right keeping p q ws fs s from inside lf lo rf ro decides stands h
  binary_follows line (Equate o) left right on_left on_right keeping p q ws fs s from inside lf lo rf ro decides stands h =
      operands_follow left right on_left on_right keeping p q ws fs s (equality_instr o) true from inside lf lo rf ro stands
      (λ a b s. Meant (pure (bool_value (equality_test o (word_of a) (word_of b))) s))
      (λ a b p1 s1 is there stands1 h1. equality_follows o keeping p1 q ws fs s1 (word_of a) (word_of b) is there stands1 h1) h
  binary_follows line (Compare o) left right on_left on_right keeping p q ws fs s from inside lf lo rf ro decides stands h =
      operands_follow left right on_left on_right keeping p q ws fs s (relation_instr o) true from inside lf lo rf ro stands
      (λ a b s. Meant (pure (bool_value (relation_test o (word_of a) (word_of b))) s))
      (λ a b p1 s1 is there stands1 h1. relation_follows o keeping p1 q ws fs s1 (word_of a) (word_of b) is there stands1 h1) h
  binary_follows line (Add o) left right on_left on_right keeping p q ws fs s from inside lf lo rf ro decides stands h =
      operands_follow left right on_left on_right keeping p q ws fs s (sum_instr line o) false from inside lf lo rf ro stands
      (λ a b s. Meant (and_then (computed line (sum_operation o (word_of a) (word_of b)) s) (λ z. pure (int_value z))))
      (λ a b p1 s1 is there stands1 h1. sum_follows o line keeping p1 q ws fs s1 (word_of a) (word_of b) is there stands1 h1) h
  binary_follows line (Multiply o) left right on_left on_right keeping p q ws fs s from inside lf lo rf ro decides stands h =
      operands_follow left right on_left on_right keeping p q ws fs s (term_instr line o) false from inside lf lo rf ro stands
      (λ a b s. Meant (and_then (computed line (term_operation o (word_of a) (word_of b)) s) (λ z. pure (int_value z))))
      (λ a b p1 s1 is there stands1 h1. term_follows o line keeping p1 q ws fs s1 (word_of a) (word_of b) is there stands1 h1) h
