-- The code of an expression is safe in a frame alone, where it is safe behind it and the uses ahead are marked where their
-- variables are loose.
use Rattle.std.proofs.Common.{◌≡◌, ◌≤◌, ◌<◌, ℕ, ◌+◌, Bool, true, false, not, List, [], ◌∷◌, ◌++◌, length, map, sum, Option, Some, None, if◌then◌else◌, ℤ, pos, ◌⊎◌, inl, inr, Result, Ok, Err, refl, ap, sym, subst, arith, ◌∙◌}
use Rattle.std.proofs.lemmas.List.{length-append}
use Rattle.std.proofs.lemmas.List.Sums.{sum_by-cons}
use Rattle.std.specs.List.{slice_get}
use Rattle.std.specs.Ordering.{int_eq}
use Rattle.std.specs.Prelude.{int_le, int_lt}
use Rattle.mpl_ast.specs.declared.class.Formal.{Formal}
use Rattle.mpl_ast.specs.declared.expression.EqualityOperator.TheVariants as equality
use Rattle.mpl_ast.specs.declared.expression.RelationOperator.TheVariants as relation
use Rattle.mpl_ast.specs.declared.expression.SumOperator.TheVariants as sums
use Rattle.mpl_ast.specs.declared.expression.Target.{Target}
use Rattle.mpl_ast.specs.declared.expression.TermOperator.TheVariants as term
use Rattle.mpl_ast.specs.declared.expression.UnaryOperator.{UnaryOperator}
use Rattle.mpl_ast.specs.declared.expression.UnaryOperator.TheVariants as unary
use Rattle.mpl_ast.specs.declared.program.Declaration.{Declaration}
use Rattle.mpl_value.specs.Arithmetic as arithmetic
use Rattle.mpl_value.specs.Words.{bool_word, index_below, words_at}
use Rattle.mpl_value.specs.declared.body.Arg.TheVariants as arg
use Rattle.mpl_value.specs.declared.known.TrapKind.{TrapKind}
use Rattle.mpl_mean.specs.Laws.Sizes.{words_of_formal}
use Rattle.mpl_mean.specs.Levels.{BinaryOperator, Or, And, Equate, Compare, Add, Multiply}
use Rattle.mpl_mean.specs.Meaning.CallMeaning.{name_of_target}
use Rattle.mpl_mean.specs.Meaning.Layout.{Function, Part, words_of, words_of_parts}
use Rattle.mpl_mean.specs.Meaning.Values.{first_word}
use Rattle.mpl_mean.specs.Plain.Expr.{Expr, Exprs}
use Rattle.mpl_mean.specs.Plain.Expr as e
use Rattle.mpl_mean.specs.Plain.Scopes as plain
use Rattle.mpl_mean.specs.Pending.BodyWays.{binary_ways, forces, uses, value_ways, values_ways}
use Rattle.mpl_mean.specs.Pending.Looseness.{Forces}
use Rattle.mpl_mean.specs.Pending.Paths.{Ways}
use Rattle.mpl_mean.specs.Pending.Paths as ways
use Rattle.mpl_mean.proofs.Sizes.SizedStores.{words_at_long}
use Rattle.mdf_code.specs.Alone.{Held, framed, seen_by}
use Rattle.mdf_code.specs.Frames.{Flow, Frame, Next}
use Rattle.mdf_code.specs.Frames as frames
use Rattle.mdf_code.specs.Parts.{given_words, has_object, has_state, is_main, is_place, may_post, may_send}
use Rattle.mdf_code.specs.Stacks.{given, pushed, read_words}
use Rattle.mdf_code.specs.Steps.{Does, does}
use Rattle.mdf_code.specs.Steps as steps
use Rattle.mdf_code.specs.declared.instr.Instr.{Instr}
use Rattle.mdf_code.specs.declared.instr.Instr.TheVariants as instr
use Rattle.mpl_gen_code.specs.ExpressionCode.{both_code, binary_code, codes_of_each, element_from, element_of, function_number, load_from, need_of, need_of_slot, plain_code, read_code, unary_instr, value_code, values_code}
use Rattle.mpl_gen_code.specs.Fits.{ExprFits, FunctionIs, May, PlaceFits, ValuesFit, words_of_base}
use Rattle.mpl_gen_code.specs.Pieces.{Piece, either, followed_by, joined, no_code, one, where_marked}
use Rattle.mpl_gen_code.specs.Scopes.{Env, Found, Slot, found_at, whole_slot, words_of_shape}
use Rattle.mpl_gen_code.specs.Words.{words_of_expr, words_of_found, words_of_function}
use Rattle.mpl_gen_code.proofs.Below.{function_numbered}
use Rattle.mpl_gen_code.proofs.Expressions.{place_value}
use Rattle.mpl_gen_code.proofs.Operators.{index_inside}
use Rattle.mpl_gen_code.proofs.Places.{element_at, from_either, from_followed, from_joined, not_without_parts, one_word}
use Rattle.mpl_gen_code.proofs.Popping.{given_is, if_false, if_true, pushed_both, read_there, true_is}
use Rattle.mpl_gen_code.proofs.Reaching.{From}
use Rattle.mpl_gen_code.proofs.Scoped.{IsFrontOf, IsSlot, WellScoped, got_in_front, slot_is, slot_sized}
use Rattle.mpl_gen_laws.specs.SafeFrames.{HeldFits}
use Rattle.mpl_gen_laws.proofs.LooseWays.{one_then, other_then}
use Rattle.mpl_gen_laws.proofs.Loosened.{KnownAt, SameFound, SameSlot, StandsAt, found_same, plain_env}
use Rattle.mpl_gen_laws.proofs.SafeAhead.{Ahead, ahead_by, ahead_in_turn, ahead_later, ahead_skip, past_use, used_or_known}
use Rattle.mpl_gen_laws.proofs.SafeSteps.{At, Is, Later, Onward, Run, Scene, VarsFit, all_sizes, frame, known_long, later_same, later_then, needed, performs, still_known, text, x, zip_get}

-- ---- what is known of a scene

pub record InScope (C : Scene) (env : Env) : Type 0 where
  pub sizes : IsFrontOf env.sizes (all_sizes C)
  pub scope : WellScoped env.declarations env.sizes env.scope

pub record MayIn (C : Scene) (may : May) (parts : List Part) : Type 0 where
  pub input : may.input ≡ true → is_main C.code ≡ true
  pub own : may.own ≡ true → has_object C.image C.code ≡ true
  pub sends : may.sends ≡ true → may_send C.code ≡ true
  pub posts : may.posts ≡ true → may_post C.image C.code ≡ true
  pub gives : (words : ℕ) → may.gives ≡ Some words → given_words C.image C.code ≡ Some words
  pub reads : (parts ≡ []) ⊎ (has_state C.image C.code ≡ true)
  pub writes : (parts ≡ []) ⊎ (has_object C.image C.code ≡ true)
  pub state : words_of_parts parts ≤ C.long

pub or_not : {P Q : Type 0} → P ⊎ Q → (P → ⊥) → Q
or_not (inl p) h = absurd (h p)
or_not (inr q) h = q

pub slot_size : (C : Scene) (env : Env) → InScope C env → (slot : Slot) → IsSlot env.scope slot → slice_get (all_sizes C) slot.number ≡ Some (words_of_shape env.declarations slot.shape)
slot_size C env scoped slot is =
    ap (λ (all : List ℕ). slice_get all slot.number) scoped.sizes.is
    ∙ got_in_front env.sizes scoped.sizes.rest slot.number _ (slot_sized env.declarations env.sizes env.scope slot is.name scoped.scope is.named)

-- ---- a plain function that is called

-- these words are on top behind a place
abbrev pub ThenWords : (C : Scene) → ℕ → Run C → ℕ → List ℤ → List (Flow Held) → List Held → ℕ → Type 0
ThenWords C n D q ws fs vs count = (m : ℕ) → m ≤ n → (E : Run C) → Later C D E → (words : List ℤ) → length words ≡ count → At C m E q (pushed words ws) fs vs

abbrev pub ThenWord : (C : Scene) → ℕ → Run C → ℕ → List ℤ → List (Flow Held) → List Held → Type 0
ThenWord C n D q ws fs vs = (m : ℕ) → m ≤ n → (E : Run C) → Later C D E → (word : ℤ) → At C m E q (word ∷ ws) fs vs

-- the same, with what lies ahead there
abbrev pub BehindWords : (C : Scene) → (ℕ → Bool) → List Slot → ℕ → Run C → ℕ → List ℤ → List (Flow Held) → List Held → ℕ → Ways → Type 0
BehindWords C marks scope n D q ws fs vs count rest = (m : ℕ) → m ≤ n → (E : Run C) → Later C D E → (words : List ℤ) → length words ≡ count → Ahead C marks scope E vs rest → At C m E q (pushed words ws) fs vs

abbrev pub BehindWord : (C : Scene) → (ℕ → Bool) → List Slot → ℕ → Run C → ℕ → List ℤ → List (Flow Held) → List Held → Ways → Type 0
BehindWord C marks scope n D q ws fs vs rest = (m : ℕ) → m ≤ n → (E : Run C) → Later C D E → (word : ℤ) → Ahead C marks scope E vs rest → At C m E q (word ∷ ws) fs vs

abbrev pub Called : Scene → List Declaration → ℕ → Type 0
Called C ds n = (name : List ℕ) (f : Function) → FunctionIs ds name f → (number : ℕ) → function_number ds name ≡ Some number → (D : Run C) (p : ℕ) (arguments ws : List ℤ) (fs : List (Flow Held)) (vs : List Held)
    → length arguments ≡ sum (map (words_of_formal ds) f.formals) → Is C p (instr.Call number) → ThenWords C n D (p + 1) ws fs vs (words_of ds f.result None) → At C n D p (pushed arguments ws) fs vs

module _ (C : Scene) (may : May) (env : Env) (scoped : InScope C env) (allowed : MayIn C may env.parts) (N : ℕ) (below : (m : ℕ) → m ≤ N → Called C env.declarations m) where
  abbrev pub Upto : ℕ → Type 0
  Upto q = (k : ℕ) → k ≤ q → is_place C.image C.code k ≡ true

  pub upto_before : (q m : ℕ) → m ≤ q → Upto q → Upto m
  upto_before q m h upto k le = upto k (omega (arith, h, le))

  pub moved : {p q : ℕ} (n : ℕ) (D : Run C) (ws : List ℤ) (fs : List (Flow Held)) (vs : List Held) → p ≡ q → At C n D q ws fs vs → At C n D p ws fs vs
  moved n D ws fs vs e = subst (λ k. At C n D k ws fs vs) (sym e)

  abbrev pub Here : Run C → List Held → Ways → Type 0
  Here D vs ways = Ahead C env.marks env.scope D vs ways

  abbrev around : plain.Env
  around = plain_env env

  -- what lies ahead stays where nothing is used
  pub onward : (n : ℕ) (D : Run C) (q : ℕ) (ws : List ℤ) (fs : List (Flow Held)) (vs : List Held) (count : ℕ) (rest : Ways) → BehindWords C env.marks env.scope n D q ws fs vs count rest → Here D vs rest → ThenWords C n D q ws fs vs count
  onward n D q ws fs vs count rest h a m le E later words long = h m le E later words long (ahead_later C env.marks env.scope D E vs rest later a)

  pub onward_word : (n : ℕ) (D : Run C) (q : ℕ) (ws : List ℤ) (fs : List (Flow Held)) (vs : List Held) (rest : Ways) → BehindWord C env.marks env.scope n D q ws fs vs rest → Here D vs rest → ThenWord C n D q ws fs vs
  onward_word n D q ws fs vs rest h a m le E later w = h m le E later w (ahead_later C env.marks env.scope D E vs rest later a)

  -- ---- words

  pub pushes : (n : ℕ) (D : Run C) (p q : ℕ) (ws : List ℤ) (fs : List (Flow Held)) (vs : List Held) (w : ℤ) → Is C p (instr.Push w) → p + 1 ≡ q → ThenWord C n D q ws fs vs → At C n D p ws fs vs
  pushes n D p q ws fs vs w is there h =
      performs C n D p ws fs vs (instr.Push w) (frames.Goes (frame C D (p + 1) (w ∷ ws) fs vs)) is refl
      (λ m less. moved m D (w ∷ ws) fs vs there (h m (omega (arith, less)) D (later_same C D) w))

  computes : (n : ℕ) (D : Run C) (p q : ℕ) (ws rest : List ℤ) (fs : List (Flow Held)) (vs : List Held) (i : Instr) (line : ℕ) (r : Result ℤ TrapKind) → Is C p i → p + 1 ≡ q
      → does (framed D.knows) (x C) i (frame C D p ws fs vs) ≡ steps.computed line r rest (frame C D p ws fs vs) → ThenWord C n D q rest fs vs → At C n D p ws fs vs
  computes n D p q ws rest fs vs i line r is there e h = by_result r refl where
    by_result : (given : Result ℤ TrapKind) → r ≡ given → At C n D p ws fs vs
    by_result (Ok z) same =
        performs C n D p ws fs vs i (frames.Goes (frame C D (p + 1) (z ∷ rest) fs vs)) is (e ∙ ap (λ (r : Result ℤ TrapKind). steps.computed line r rest (frame C D p ws fs vs)) same)
        (λ m less. moved m D (z ∷ rest) fs vs there (h m (omega (arith, less)) D (later_same C D) z))
    by_result (Err kind) same =
        performs C n D p ws fs vs i (frames.Stops (frames.Traps (record { kind = kind; line = line })) (frame C D p ws fs vs)) is (e ∙ ap (λ (r : Result ℤ TrapKind). steps.computed line r rest (frame C D p ws fs vs)) same)
        (λ m less. tt)

  compares : (n : ℕ) (D : Run C) (p q : ℕ) (ws rest : List ℤ) (fs : List (Flow Held)) (vs : List Held) (i : Instr) (w : ℤ) → Is C p i → p + 1 ≡ q
      → does (framed D.knows) (x C) i (frame C D p ws fs vs) ≡ steps.goes_with (w ∷ rest) (frame C D p ws fs vs) → ThenWord C n D q rest fs vs → At C n D p ws fs vs
  compares n D p q ws rest fs vs i w is there e h =
      performs C n D p ws fs vs i (frames.Goes (frame C D (p + 1) (w ∷ rest) fs vs)) is e (λ m less. moved m D (w ∷ rest) fs vs there (h m (omega (arith, less)) D (later_same C D) w))

  pub jumps : (n : ℕ) (D : Run C) (p q : ℕ) (ws : List ℤ) (fs : List (Flow Held)) (vs : List Held) → Is C p (instr.Jump q) → is_place C.image C.code q ≡ true → Onward C n D q ws fs vs → At C n D p ws fs vs
  jumps n D p q ws fs vs is there h = performs C n D p ws fs vs (instr.Jump q) (frames.Goes (frame C D q ws fs vs)) is (true_is (is_place C.image C.code q) _ there) h

  pub jumps_by : (n : ℕ) (D : Run C) (p o : ℕ) (ws : List ℤ) (w : ℤ) (fs : List (Flow Held)) (vs : List Held) → Is C p (instr.JumpZero o) → is_place C.image C.code o ≡ true → Onward C n D o ws fs vs → Onward C n D (p + 1) ws fs vs
      → At C n D p (w ∷ ws) fs vs
  jumps_by n D p o ws w fs vs is there at_zero other = by_test (int_eq w (pos 0)) refl where
    tested : does (framed D.knows) (x C) (instr.JumpZero o) (frame C D p (w ∷ ws) fs vs) ≡ (if int_eq w (pos 0) then Some (frames.Goes (frame C D o ws fs vs)) else Some (frames.Goes (frame C D (p + 1) ws fs vs)))
    tested = true_is (is_place C.image C.code o) _ there

    by_test : (b : Bool) → int_eq w (pos 0) ≡ b → At C n D p (w ∷ ws) fs vs
    by_test true e = performs C n D p (w ∷ ws) fs vs (instr.JumpZero o) (frames.Goes (frame C D o ws fs vs)) is (tested ∙ if_true _ _ e) at_zero
    by_test false e = performs C n D p (w ∷ ws) fs vs (instr.JumpZero o) (frames.Goes (frame C D (p + 1) ws fs vs)) is (tested ∙ if_false _ _ e) other

  -- ---- places

  -- the variable of a slot: what it holds, with its size
  pub variable : (vs : List Held) → VarsFit C vs → (slot : Slot) → IsSlot env.scope slot
      → (v : Held) × (slice_get vs slot.number ≡ Some v) × HeldFits C.sizes (words_of_shape env.declarations slot.shape) v × (slot.number < length vs)
  variable vs fit slot is = zip_get (HeldFits C.sizes) (all_sizes C) vs slot.number (words_of_shape env.declarations slot.shape) fit (slot_size C env scoped slot is)

  -- a variable is known behind its need
  pub needs : (n : ℕ) (D : Run C) (p q : ℕ) (ws : List ℤ) (fs : List (Flow Held)) (vs : List Held) (slot : ℕ) (v : Held) → slice_get vs slot ≡ Some v → Is C p (instr.Need slot) → p + 1 ≡ q
      → ((m : ℕ) → m ≤ n → (E : Run C) → Later C D E → (words : List ℤ) → seen_by E.knows v ≡ arg.Know words → At C m E q ws fs vs) → At C n D p ws fs vs
  needs n D p q ws fs vs slot v held is there h =
      needed C n n (omega arith) D p ws fs vs (instr.Need slot) v (λ words f. frames.Goes (record f { place = f.place + 1 })) is (λ E. given_is (slice_get vs slot) v _ held)
      (λ m le E later words known j less. moved j E ws fs vs there (h j (omega (arith, le, less)) E later words known))

  -- a variable that is used is known behind its need, or else at once
  pub uses_slot : (n : ℕ) (D : Run C) (p q : ℕ) (ws : List ℤ) (fs : List (Flow Held)) (vs : List Held) (id number : ℕ) (slot : Slot) (v : Held) (rest : Ways) → slice_get vs slot.number ≡ Some v → StandsAt env.scope number slot
      → Here D vs (ways.Then (ways.Only (Forces id number)) rest) → From (text C) p (where_marked (env.marks id) (need_of_slot (Some slot)) p) q
      → ((m : ℕ) → m ≤ n → (E : Run C) → Later C D E → (words : List ℤ) → seen_by E.knows v ≡ arg.Know words → Here E vs rest → At C m E q ws fs vs) → At C n D p ws fs vs
  uses_slot n D p q ws fs vs id number slot v rest held stands a from h = by_mark (env.marks id) refl from (used_or_known C env.marks env.scope D vs id number slot rest stands a) where
    past : (E : Run C) → Later C D E → (words : List ℤ) → seen_by E.knows v ≡ arg.Know words → Here E vs rest
    past E later words known =
        past_use C env.marks env.scope E vs id number slot rest stands (v, words, held, known) (ahead_later C env.marks env.scope D E vs (ways.Then (ways.Only (Forces id number)) rest) later a)

    at_once : p ≡ q → KnownAt D.knows vs slot.number → At C n D p ws fs vs
    at_once there k =
        let known : seen_by D.knows v ≡ arg.Know k.1 = ap (seen_by D.knows) (same_held (sym held ∙ k.2)) ∙ k.3 in
        moved n D ws fs vs there (h n (omega arith) D (later_same C D) k.1 known (past D (later_same C D) k.1 known)) where
          same_held : {a b : Held} → Some a ≡ Some b → a ≡ b
          same_held e = cc e

    by_mark : (b : Bool) → env.marks id ≡ b → From (text C) p (where_marked b (need_of_slot (Some slot)) p) q → (env.marks id ≡ true) ⊎ KnownAt D.knows vs slot.number → At C n D p ws fs vs
    by_mark true is from known = needs n D p q ws fs vs slot.number v held from.0 from.1 (λ m le E later words known. h m le E later words known (past E later words known))
    by_mark false is from (inl marked) = absurd (cc (is, marked))
    by_mark false is from (inr known) = at_once from known

  -- words that are read at a place: from a known variable, or from the state
  pub record Source (E : Run C) (vs : List Held) (found : Found) : Type 0 where
    pub base : List ℤ
    pub inside : found.offset + found.words ≤ length base
    pub loads : (p : ℕ) (ws : List ℤ) (fs : List (Flow Held)) → does (framed E.knows) (x C) (load_from found found.slot) (frame C E p ws fs vs) ≡ Some (frames.Goes (frame C E (p + 1) (pushed (words_at found.offset found.words base) ws) fs vs))
    pub element : (line p : ℕ) (ws : List ℤ) (i : ℤ) (fs : List (Flow Held)) → does (framed E.knows) (x C) (element_from line found found.slot) (frame C E p (i ∷ ws) fs vs)
        ≡ steps.indexed found.words i line (frame C E p (i ∷ ws) fs vs) (λ n. given (read_words n 1 (words_at found.offset found.words base)) (λ words. steps.goes_with (pushed words ws) (frame C E p (i ∷ ws) fs vs)))

  of_state : (E : Run C) (vs : List Held) (t : Target) (found : Found) → found_at env t ≡ Some found → found.slot ≡ None → found.offset + found.words ≤ words_of_parts env.parts → Source E vs (record found { slot = None })
  of_state E vs t found is none fits =
      let has = or_not allowed.reads (λ parts. not_without_parts env t found parts is none) in
      let long = allowed.state in
      let exact = E.is_long in
      let inside : found.offset + found.words ≤ length E.state = omega (arith, long, exact, fits) in
      let got = read_there found.offset found.words E.state inside in
      record {
        base = E.state;
        inside = inside;
        loads = λ p ws fs. true_is (has_state C.image C.code) _ has ∙ given_is (read_words found.offset found.words E.state) _ _ got;
        element = λ line p ws i fs. true_is (has_state C.image C.code) _ has ∙ given_is (read_words found.offset found.words E.state) _ _ got;
      }

  of_variable : (E : Run C) (vs : List Held) (found : Found) (slot : Slot) (v : Held) (words : List ℤ) → slice_get vs slot.number ≡ Some v → seen_by E.knows v ≡ arg.Know words → found.offset + found.words ≤ length words
      → Source E vs (record found { slot = Some slot })
  of_variable E vs found slot v words held known inside =
      let got = read_there found.offset found.words words inside in
      record {
        base = words;
        inside = inside;
        loads = λ p ws fs.
            given_is (slice_get vs slot.number) v _ held ∙ given_is (Rattle.mdf_code.specs.Stacks.known_words_of (seen_by E.knows v)) words _ (ap Rattle.mdf_code.specs.Stacks.known_words_of known)
            ∙ given_is (read_words found.offset found.words words) _ _ got;
        element = λ line p ws i fs.
            given_is (slice_get vs slot.number) v _ held ∙ given_is (Rattle.mdf_code.specs.Stacks.known_words_of (seen_by E.knows v)) words _ (ap Rattle.mdf_code.specs.Stacks.known_words_of known)
            ∙ given_is (read_words found.offset found.words words) _ _ got;
      }

  -- behind the use of a place what is read there is known from then on
  pub sourced : (n : ℕ) (D : Run C) (id : ℕ) (t : Target) (found : Found) → found_at env t ≡ Some found → (p q : ℕ) (ws : List ℤ) (fs : List (Flow Held)) (vs : List Held) (rest : Ways) → Here D vs (ways.Then (uses id (plain.found_at around t)) rest)
      → From (text C) p (need_of (env.marks id) (Some found) p) q → found.offset + found.words ≤ words_of_base env found.slot
      → ((m : ℕ) → m ≤ n → (E : Run C) → Later C D E → ((F : Run C) → Later C E F → Source F vs found) → Here E vs rest → At C m E q ws fs vs) → At C n D p ws fs vs
  sourced n D id t found is p q ws fs vs rest a from fits h = by_found (plain.found_at around t) (subst (SameFound env.scope (plain.found_at around t)) is (found_same env t)) a where
    no_need : (b : Bool) → From (text C) p (where_marked b no_code p) q → p ≡ q
    no_need true from = from
    no_need false from = from

    by_slot : (seen : Option plain.Slot) (slot : Option Slot) → SameSlot env.scope seen slot → found.slot ≡ slot → Here D vs (ways.Then (forces id seen) rest) → From (text C) p (need_of (env.marks id) (Some (record found { slot = slot })) p) q
        → found.offset + found.words ≤ words_of_base env slot
        → ((m : ℕ) → m ≤ n → (E : Run C) → Later C D E → ((F : Run C) → Later C E F → Source F vs (record found { slot = slot })) → Here E vs rest → At C m E q ws fs vs) → At C n D p ws fs vs
    by_slot None None same none a from fits h =
        moved n D ws fs vs (no_need (env.marks id) from)
        (h n (omega arith) D (later_same C D) (λ F later. of_state F vs t found is none fits) (ahead_skip C env.marks env.scope D vs rest a))
    by_slot None (Some slot) same some a from fits h = absurd same
    by_slot (Some seen) None same none a from fits h = absurd same
    by_slot (Some seen) (Some slot) same some a from fits h =
        let held = variable vs a.fit slot (slot_is env t found slot is some) in
        uses_slot n D p q ws fs vs id seen.number slot held.0 rest held.1 same.0 a from
        (λ m le E later words known ahead.
        let long = known_long C E (words_of_shape env.declarations slot.shape) held.0 words held.2 known in
        h m le E later (λ F after. of_variable F vs found slot held.0 words held.1 (still_known C E F held.0 words after known) (omega (arith, long, fits))) ahead)

    by_found : (seen : Option plain.Found) → SameFound env.scope seen (Some found) → Here D vs (ways.Then (uses id seen) rest) → At C n D p ws fs vs
    by_found None same a = absurd same
    by_found (Some seen) same a = by_slot seen.slot found.slot same.slot refl a from fits h

  -- ---- places that are read

  pub reads_place : (n : ℕ) (D : Run C) (id : ℕ) (t : Target) (o : Option Found) → found_at env t ≡ o → (p q : ℕ) (ws : List ℤ) (fs : List (Flow Held)) (vs : List Held) (rest : Ways) → From (text C) p (read_code (env.marks id) o p) q → PlaceFits env o
      → Here D vs (ways.Then (uses id (plain.found_at around t)) rest) → BehindWords C env.marks env.scope n D q ws fs vs (words_of_found o) rest → At C n D p ws fs vs
  reads_place n D id t None is p q ws fs vs rest from fits a h = absurd fits
  reads_place n D id t (Some found) is p q ws fs vs rest from fits a h =
      let parts = from_joined (text C) (need_of (env.marks id) (Some found)) (one (load_from found found.slot)) p q from in
      sourced n D id t found is p parts.middle ws fs vs rest a parts.first fits
      (λ m le E later source ahead.
      let here = source E (later_same C E) in
      let words = words_at found.offset found.words here.base in
      let next : parts.middle + 1 ≡ q = parts.second.1 in
      performs C m E parts.middle ws fs vs (load_from found found.slot) (frames.Goes (frame C E (parts.middle + 1) (pushed words ws) fs vs)) parts.second.0 (here.loads parts.middle ws fs)
      (λ j less. moved j E (pushed words ws) fs vs next (h j (omega (arith, le, less)) E later words (words_at_long found.offset found.words here.base here.inside) ahead)))

  indexes : (n : ℕ) (E : Run C) (vs : List Held) (line : ℕ) (found : Found) (here : Source E vs found) (m q : ℕ) (ws : List ℤ) (i : ℤ) (fs : List (Flow Held)) → Is C m (element_from line found found.slot) → m + 1 ≡ q
      → ThenWord C n E q ws fs vs → At C n E m (i ∷ ws) fs vs
  indexes n E vs line found here m q ws i fs is next h = by_index (index_below found.words i) refl where
    array : List ℤ
    array = words_at found.offset found.words here.base

    rest : ℕ → Does Held
    rest k = given (read_words k 1 array) (λ words. steps.goes_with (pushed words ws) (frame C E m (i ∷ ws) fs vs))

    by_index : (o : Option ℕ) → index_below found.words i ≡ o → At C n E m (i ∷ ws) fs vs
    by_index None e =
        performs C n E m (i ∷ ws) fs vs (element_from line found found.slot) (frames.Stops (frames.Traps (record { kind = Rattle.mpl_value.specs.declared.known.TrapKind.TheVariants.Index; line = line })) (frame C E m (i ∷ ws) fs vs)) is
        (here.element line m ws i fs ∙ ap (λ (o : Option ℕ). steps.at_index o line (frame C E m (i ∷ ws) fs vs) rest) e) (λ j less. tt)
    by_index (Some k) e =
        let enough : k < found.words = index_inside found.words i k e in
        let long : length array ≡ found.words = words_at_long found.offset found.words here.base here.inside in
        let w = Rattle.std.specs.List.slice_index_or array k (pos 0) in
        performs C n E m (i ∷ ws) fs vs (element_from line found found.slot) (frames.Goes (frame C E (m + 1) (w ∷ ws) fs vs)) is
        (here.element line m ws i fs
        ∙ ap (λ (o : Option ℕ). steps.at_index o line (frame C E m (i ∷ ws) fs vs) rest) e
        ∙ given_is (read_words k 1 array) (words_at k 1 array) _ (read_there k 1 array (omega (arith, enough, long)))
        ∙ ap (λ (words : List ℤ). Some (frames.Goes (frame C E (m + 1) (pushed words ws) fs vs))) (element_at k array (omega (arith, enough, long))))
        (λ j less. moved j E (w ∷ ws) fs vs next (h j (omega (arith, less)) E (later_same C E) w))

  -- ---- expressions

  abbrev pub Follows : Expr → Type 0
  Follows t = (n : ℕ) → n ≤ N → (D : Run C) (p q : ℕ) (ws : List ℤ) (fs : List (Flow Held)) (vs : List Held) → From (text C) p (value_code env t p) q → ((k : ℕ) → k ≤ q → is_place C.image C.code k ≡ true) → ExprFits may env t
      → (rest : Ways) → Here D vs (ways.Then (value_ways around t) rest) → BehindWords C env.marks env.scope n D q ws fs vs (words_of_expr env t) rest → At C n D p ws fs vs

  -- one word of a value
  pub one_of : (n : ℕ) (D : Run C) (q : ℕ) (ws : List ℤ) (fs : List (Flow Held)) (vs : List Held) (t : Expr) (rest : Ways) → words_of_expr env t ≡ 1 → BehindWord C env.marks env.scope n D q ws fs vs rest → BehindWords C env.marks env.scope n D q ws fs vs (words_of_expr env t) rest
  one_of n D q ws fs vs t rest single h m le E later words long a =
      subst (λ (words : List ℤ). At C m E q (pushed words ws) fs vs) (sym (one_word words (long ∙ single))) (h m le E later (first_word words) a)

  pub word_of_words : (n : ℕ) (D : Run C) (q : ℕ) (ws : List ℤ) (fs : List (Flow Held)) (vs : List Held) (rest : Ways) → BehindWords C env.marks env.scope n D q ws fs vs 1 rest → BehindWord C env.marks env.scope n D q ws fs vs rest
  word_of_words n D q ws fs vs rest h m le E later w a = h m le E later (w ∷ []) refl a

  -- where nothing comes before the rest
  skipped : (D : Run C) (vs : List Held) (rest : Ways) → Here D vs (ways.Then ways.NoEvent rest) → Here D vs rest
  skipped = ahead_skip C env.marks env.scope

  in_turn : (D : Run C) (vs : List Held) (first second rest : Ways) → Here D vs (ways.Then (ways.Then first second) rest) → Here D vs (ways.Then first (ways.Then second rest))
  in_turn = ahead_in_turn C env.marks env.scope

  element_follows : (line id : ℕ) (t : Target) (o : Option Found) → found_at env t ≡ o → (index : Expr) → Follows index → (n : ℕ) → n ≤ N → (D : Run C) (p q : ℕ) (ws : List ℤ) (fs : List (Flow Held)) (vs : List Held) (rest : Ways)
      → From (text C) p (joined (need_of (env.marks id) o) (joined (value_code env index) (element_of line o)) p) q → Upto q → PlaceFits env o → ExprFits may env index → words_of_expr env index ≡ 1
      → Here D vs (ways.Then (ways.Then (uses id (plain.found_at around t)) (value_ways around index)) rest) → BehindWord C env.marks env.scope n D q ws fs vs rest → At C n D p ws fs vs
  element_follows line id t None is index on_index n few D p q ws fs vs rest from up fits index_fits single a h = absurd fits
  element_follows line id t (Some found) is index on_index n few D p q ws fs vs rest from up fits index_fits single a h =
      let first = from_joined (text C) (need_of (env.marks id) (Some found)) (joined (value_code env index) (one (element_from line found found.slot))) p q from in
      let second = from_joined (text C) (value_code env index) (one (element_from line found found.slot)) first.middle q first.second in
      sourced n D id t found is p first.middle ws fs vs (ways.Then (value_ways around index) rest) (in_turn D vs (uses id (plain.found_at around t)) (value_ways around index) rest a) first.first fits
      (λ m le E later source ahead.
      on_index m (omega (arith, le, few)) E first.middle second.middle ws fs vs second.first (upto_before q second.middle second.within up) index_fits rest ahead
      (one_of m E second.middle ws fs vs index rest single
      (λ j less F after i b.
      indexes j F vs line found (source F after) second.middle q ws i fs second.second.0 second.second.1
      (onward_word j F q ws fs vs rest (λ k under H more w c. h k (omega (arith, le, less, under)) H (later_then C D F H (later_then C D E F later after) more) w c) b))))

  operands_follow : (left right : Expr) → Follows left → Follows right → (i : Instr) (n : ℕ) → n ≤ N → (D : Run C) (p q : ℕ) (ws : List ℤ) (fs : List (Flow Held)) (vs : List Held) (rest : Ways)
      → From (text C) p (both_code (value_code env left) (value_code env right) i p) q → Upto q → ExprFits may env left → words_of_expr env left ≡ 1 → ExprFits may env right → words_of_expr env right ≡ 1
      → Here D vs (ways.Then (ways.Then (value_ways around left) (value_ways around right)) rest)
      → ((m : ℕ) (E : Run C) (p1 : ℕ) (a b : ℤ) → Is C p1 i → p1 + 1 ≡ q → ThenWord C m E q ws fs vs → At C m E p1 (b ∷ a ∷ ws) fs vs) → BehindWord C env.marks env.scope n D q ws fs vs rest → At C n D p ws fs vs
  operands_follow left right on_left on_right i n few D p q ws fs vs rest from up left_fits left_one right_fits right_one ahead ends h =
      let first = from_joined (text C) (value_code env left) (followed_by (value_code env right) i) p q from in
      let second = from_followed (text C) (value_code env right) i first.middle q first.second in
      on_left n few D p first.middle ws fs vs first.first (upto_before q first.middle first.within up) left_fits (ways.Then (value_ways around right) rest) (in_turn D vs (value_ways around left) (value_ways around right) rest ahead)
      (one_of n D first.middle ws fs vs left (ways.Then (value_ways around right) rest) left_one
      (λ m le E later a ahead.
      on_right m (omega (arith, le, few)) E first.middle second.middle (a ∷ ws) fs vs second.first (upto_before q second.middle second.within up) right_fits rest ahead
      (one_of m E second.middle (a ∷ ws) fs vs right rest right_one
      (λ j less F after b ahead.
      ends j F second.middle a b second.is second.next
      (onward_word j F q ws fs vs rest (λ k under H more w c. h k (omega (arith, le, less, under)) H (later_then C D F H (later_then C D E F later after) more) w c) ahead)))))

  -- either way comes to the same place
  either_follows : (left : Expr) → Follows left → (first second : Piece) (mid : Ways) (n : ℕ) → n ≤ N → (D : Run C) (p q : ℕ) (ws : List ℤ) (fs : List (Flow Held)) (vs : List Held) (rest : Ways)
      → From (text C) p (joined (value_code env left) (either first second) p) q → Upto q → ExprFits may env left → words_of_expr env left ≡ 1 → Here D vs (ways.Then (ways.Then (value_ways around left) mid) rest)
      → ((m : ℕ) → m ≤ N → (E : Run C) (a b : ℕ) → From (text C) a (first a) b → Upto b → Here E vs (ways.Then mid rest) → BehindWord C env.marks env.scope m E b ws fs vs rest → At C m E a ws fs vs)
      → ((m : ℕ) → m ≤ N → (E : Run C) (a b : ℕ) → From (text C) a (second a) b → Upto b → Here E vs (ways.Then mid rest) → BehindWord C env.marks env.scope m E b ws fs vs rest → At C m E a ws fs vs)
      → BehindWord C env.marks env.scope n D q ws fs vs rest → At C n D p ws fs vs
  either_follows left on_left first second mid n few D p q ws fs vs rest from up fits single ahead one_way other_way h =
      let parts = from_joined (text C) (value_code env left) (either first second) p q from in
      let ways = from_either (text C) first second parts.middle q parts.second in
      on_left n few D p parts.middle ws fs vs parts.first (upto_before q parts.middle parts.within up) fits (Rattle.mpl_mean.specs.Pending.Paths.Then mid rest) (in_turn D vs (value_ways around left) mid rest ahead)
      (one_of n D parts.middle ws fs vs left (Rattle.mpl_mean.specs.Pending.Paths.Then mid rest) single
      (λ m le E later a ahead.
      jumps_by m E parts.middle ways.other ws a fs vs ways.test (up ways.other ways.other_within)
      (λ j less. other_way j (omega (arith, le, less, few)) E ways.other q ways.other_way up ahead (λ k under F after w c. h k (omega (arith, le, less, under)) F (later_then C D E F later after) w c))
      (λ j less. one_way j (omega (arith, le, less, few)) E (parts.middle + 1) ways.back ways.one_way (upto_before q ways.back ways.back_within up) ahead
      (λ k under F after w c. jumps k F ways.back q (w ∷ ws) fs vs ways.jump (up q (omega arith)) (λ i above. h i (omega (arith, le, less, under, above)) F (later_then C D E F later after) w c)))))

  pushed_follows : (b : Bool) (m : ℕ) → m ≤ N → (E : Run C) (a q : ℕ) (ws : List ℤ) (fs : List (Flow Held)) (vs : List Held) → From (text C) a (one (instr.Push (bool_word b)) a) q → ThenWord C m E q ws fs vs → At C m E a ws fs vs
  pushed_follows b m few E a q ws fs vs from h = pushes m E a q ws fs vs (bool_word b) from.0 from.1 h

  compared : (i : Instr) (test : ℤ → ℤ → Bool) (q : ℕ) (ws : List ℤ) (fs : List (Flow Held)) (vs : List Held)
      → ((E : Run C) (p : ℕ) (a b : ℤ) → does (framed E.knows) (x C) i (frame C E p (b ∷ a ∷ ws) fs vs) ≡ steps.goes_with (bool_word (test a b) ∷ ws) (frame C E p (b ∷ a ∷ ws) fs vs))
      → (m : ℕ) (E : Run C) (p1 : ℕ) (a b : ℤ) → Is C p1 i → p1 + 1 ≡ q → ThenWord C m E q ws fs vs → At C m E p1 (b ∷ a ∷ ws) fs vs
  compared i test q ws fs vs step m E p1 a b is next h = compares m E p1 q (b ∷ a ∷ ws) ws fs vs i (bool_word (test a b)) is next (step E p1 a b) h

  calculated : (i : Instr) (line : ℕ) (operation : ℤ → ℤ → Result ℤ TrapKind) (q : ℕ) (ws : List ℤ) (fs : List (Flow Held)) (vs : List Held)
      → ((E : Run C) (p : ℕ) (a b : ℤ) → does (framed E.knows) (x C) i (frame C E p (b ∷ a ∷ ws) fs vs) ≡ steps.computed line (operation a b) ws (frame C E p (b ∷ a ∷ ws) fs vs))
      → (m : ℕ) (E : Run C) (p1 : ℕ) (a b : ℤ) → Is C p1 i → p1 + 1 ≡ q → ThenWord C m E q ws fs vs → At C m E p1 (b ∷ a ∷ ws) fs vs
  calculated i line operation q ws fs vs step m E p1 a b is next h = computes m E p1 q (b ∷ a ∷ ws) ws fs vs i line (operation a b) is next (step E p1 a b) h

  abbrev Fits_both : Expr → Expr → Type 0
  Fits_both left right = ExprFits may env left × (words_of_expr env left ≡ 1) × ExprFits may env right × (words_of_expr env right ≡ 1)

  -- the right operand, or not
  with_right : (E : Run C) (vs : List Held) (right rest : Ways) → Here E vs (ways.Then (ways.Either right ways.NoEvent) rest) → Here E vs (ways.Then right rest)
  with_right E vs right rest a = ahead_by C env.marks env.scope E vs (ways.Then right rest) (ways.Then (ways.Either right ways.NoEvent) rest) (one_then right ways.NoEvent rest) a

  without : (E : Run C) (vs : List Held) (right rest : Ways) → Here E vs (ways.Then (ways.Either right ways.NoEvent) rest) → Here E vs rest
  without E vs right rest a =
      skipped E vs rest (ahead_by C env.marks env.scope E vs (ways.Then ways.NoEvent rest) (ways.Then (ways.Either right ways.NoEvent) rest) (other_then right ways.NoEvent rest) a)

  binary_follows : (line : ℕ) (o : BinaryOperator) (left right : Expr) → Follows left → Follows right → (n : ℕ) → n ≤ N → (D : Run C) (p q : ℕ) (ws : List ℤ) (fs : List (Flow Held)) (vs : List Held) (rest : Ways)
      → From (text C) p (binary_code line o (value_code env left) (value_code env right) p) q → Upto q → Fits_both left right → Here D vs (ways.Then (binary_ways o (value_ways around left) (value_ways around right)) rest)
      → BehindWord C env.marks env.scope n D q ws fs vs rest → At C n D p ws fs vs
  binary_follows line Or left right on_left on_right n few D p q ws fs vs rest from up fits a h =
      either_follows left on_left (one (instr.Push (bool_word true))) (value_code env right) (ways.Either (value_ways around right) ways.NoEvent) n few D p q ws fs vs rest from up fits.0 fits.1 a
      (λ m few E a b from up ahead h. pushed_follows true m few E a b ws fs vs from (onward_word m E b ws fs vs rest h (without E vs (value_ways around right) rest ahead)))
      (λ m few E a b from up ahead h. on_right m few E a b ws fs vs from up fits.2 rest (with_right E vs (value_ways around right) rest ahead) (one_of m E b ws fs vs right rest fits.3 h)) h
  binary_follows line And left right on_left on_right n few D p q ws fs vs rest from up fits a h =
      either_follows left on_left (value_code env right) (one (instr.Push (bool_word false))) (ways.Either (value_ways around right) ways.NoEvent) n few D p q ws fs vs rest from up fits.0 fits.1 a
      (λ m few E a b from up ahead h. on_right m few E a b ws fs vs from up fits.2 rest (with_right E vs (value_ways around right) rest ahead) (one_of m E b ws fs vs right rest fits.3 h))
      (λ m few E a b from up ahead h. pushed_follows false m few E a b ws fs vs from (onward_word m E b ws fs vs rest h (without E vs (value_ways around right) rest ahead))) h
  binary_follows line (Equate equality.Equal) left right on_left on_right n few D p q ws fs vs rest from up fits a h =
      operands_follow left right on_left on_right instr.Equal n few D p q ws fs vs rest from up fits.0 fits.1 fits.2 fits.3 a (compared instr.Equal int_eq q ws fs vs (λ E p a b. refl)) h
  binary_follows line (Equate equality.Unequal) left right on_left on_right n few D p q ws fs vs rest from up fits a h =
      operands_follow left right on_left on_right instr.NotEqual n few D p q ws fs vs rest from up fits.0 fits.1 fits.2 fits.3 a (compared instr.NotEqual (λ a b. not (int_eq a b)) q ws fs vs (λ E p a b. refl)) h
  binary_follows line (Compare relation.Less) left right on_left on_right n few D p q ws fs vs rest from up fits a h =
      operands_follow left right on_left on_right instr.Less n few D p q ws fs vs rest from up fits.0 fits.1 fits.2 fits.3 a (compared instr.Less int_lt q ws fs vs (λ E p a b. refl)) h
  binary_follows line (Compare relation.LessEqual) left right on_left on_right n few D p q ws fs vs rest from up fits a h =
      operands_follow left right on_left on_right instr.LessEqual n few D p q ws fs vs rest from up fits.0 fits.1 fits.2 fits.3 a (compared instr.LessEqual int_le q ws fs vs (λ E p a b. refl)) h
  binary_follows line (Compare relation.Greater) left right on_left on_right n few D p q ws fs vs rest from up fits a h =
      operands_follow left right on_left on_right instr.Greater n few D p q ws fs vs rest from up fits.0 fits.1 fits.2 fits.3 a (compared instr.Greater (λ a b. int_lt b a) q ws fs vs (λ E p a b. refl)) h
  binary_follows line (Compare relation.GreaterEqual) left right on_left on_right n few D p q ws fs vs rest from up fits a h =
      operands_follow left right on_left on_right instr.GreaterEqual n few D p q ws fs vs rest from up fits.0 fits.1 fits.2 fits.3 a (compared instr.GreaterEqual (λ a b. int_le b a) q ws fs vs (λ E p a b. refl)) h
  binary_follows line (Add sums.Plus) left right on_left on_right n few D p q ws fs vs rest from up fits a h =
      operands_follow left right on_left on_right (instr.Add line) n few D p q ws fs vs rest from up fits.0 fits.1 fits.2 fits.3 a (calculated (instr.Add line) line arithmetic.sum q ws fs vs (λ E p a b. refl)) h
  binary_follows line (Add sums.Minus) left right on_left on_right n few D p q ws fs vs rest from up fits a h =
      operands_follow left right on_left on_right (instr.Sub line) n few D p q ws fs vs rest from up fits.0 fits.1 fits.2 fits.3 a (calculated (instr.Sub line) line arithmetic.difference q ws fs vs (λ E p a b. refl)) h
  binary_follows line (Multiply term.Times) left right on_left on_right n few D p q ws fs vs rest from up fits a h =
      operands_follow left right on_left on_right (instr.Mul line) n few D p q ws fs vs rest from up fits.0 fits.1 fits.2 fits.3 a (calculated (instr.Mul line) line arithmetic.product q ws fs vs (λ E p a b. refl)) h
  binary_follows line (Multiply term.Over) left right on_left on_right n few D p q ws fs vs rest from up fits a h =
      operands_follow left right on_left on_right (instr.Div line) n few D p q ws fs vs rest from up fits.0 fits.1 fits.2 fits.3 a (calculated (instr.Div line) line arithmetic.quotient q ws fs vs (λ E p a b. refl)) h
  binary_follows line (Multiply term.Modulo) left right on_left on_right n few D p q ws fs vs rest from up fits a h =
      operands_follow left right on_left on_right (instr.Rem line) n few D p q ws fs vs rest from up fits.0 fits.1 fits.2 fits.3 a (calculated (instr.Rem line) line arithmetic.remainder q ws fs vs (λ E p a b. refl)) h

  unary_ends : (line : ℕ) (o : UnaryOperator) (m : ℕ) (E : Run C) (p1 q : ℕ) (ws : List ℤ) (fs : List (Flow Held)) (vs : List Held) (a : ℤ) → Is C p1 (unary_instr line o) → p1 + 1 ≡ q → ThenWord C m E q ws fs vs → At C m E p1 (a ∷ ws) fs vs
  unary_ends line unary.Negative m E p1 q ws fs vs a is next h = computes m E p1 q (a ∷ ws) ws fs vs (instr.Neg line) line (arithmetic.negation a) is next refl h
  unary_ends line unary.Not m E p1 q ws fs vs a is next h = compares m E p1 q (a ∷ ws) ws fs vs instr.Not (bool_word (int_eq a (pos 0))) is next refl h

  inputs : (n : ℕ) (D : Run C) (p q : ℕ) (ws : List ℤ) (fs : List (Flow Held)) (vs : List Held) (line : ℕ) (input : List ℤ) → D.input ≡ input → may.input ≡ true → Is C p (instr.Input line) → p + 1 ≡ q → ThenWord C n D q ws fs vs → At C n D p ws fs vs
  inputs n D p q ws fs vs line [] same main is there h =
      performs C n D p ws fs vs (instr.Input line) (frames.Stops (frames.Traps (record { kind = Rattle.mpl_value.specs.declared.known.TrapKind.TheVariants.NoInput; line = line })) (frame C D p ws fs vs)) is
      (true_is (is_main C.code) _ (allowed.input main) ∙ ap (λ (input : List ℤ). steps.reads line input (frame C D p ws fs vs)) same) (λ m less. tt)
  inputs n D p q ws fs vs line (z ∷ zs) same main is there h =
      performs C n D p ws fs vs (instr.Input line) (frames.Goes (frame C rest (p + 1) (z ∷ ws) fs vs)) is
      (true_is (is_main C.code) _ (allowed.input main) ∙ ap (λ (input : List ℤ). steps.reads line input (frame C D p ws fs vs)) same)
      (λ m less. moved m rest (z ∷ ws) fs vs there (h m (omega (arith, less)) rest (record { keeps = λ result words e. e }) z)) where
        rest : Run C
        rest = record { calls = D.calls; knows = D.knows; good = D.good; state = D.state; is_long = D.is_long; input = zs; lines = D.lines; replied = D.replied }

  -- a word that comes with no event
  plainly : (n : ℕ) (D : Run C) (q : ℕ) (ws : List ℤ) (fs : List (Flow Held)) (vs : List Held) (rest : Ways) → BehindWords C env.marks env.scope n D q ws fs vs 1 rest → Here D vs (ways.Then ways.NoEvent rest) → ThenWord C n D q ws fs vs
  plainly n D q ws fs vs rest h a = onward_word n D q ws fs vs rest (word_of_words n D q ws fs vs rest h) (skipped D vs rest a)

  -- what a plain function takes: one value after another
  abbrev pub ValuesFollow : Exprs → Type 0
  ValuesFollow ts = (formals : List Formal) (n : ℕ) → n ≤ N → (D : Run C) (p q : ℕ) (ws : List ℤ) (fs : List (Flow Held)) (vs : List Held) → From (text C) p (values_code (codes_of_each env ts) p) q
      → ((k : ℕ) → k ≤ q → is_place C.image C.code k ≡ true) → ValuesFit may env formals ts → (rest : Ways) → Here D vs (ways.Then (values_ways around ts) rest)
      → BehindWords C env.marks env.scope n D q ws fs vs (sum (map (words_of_formal env.declarations) formals)) rest → At C n D p ws fs vs

  mutual
    pub expr_follows : (t : Expr) → Follows t
    expr_follows (e.Number at z) n few D p q ws fs vs from up fits rest a h = pushes n D p q ws fs vs z from.0 from.1 (plainly n D q ws fs vs rest h a)
    expr_follows (e.Truth at b) n few D p q ws fs vs from up fits rest a h = pushes n D p q ws fs vs (bool_word b) from.0 from.1 (plainly n D q ws fs vs rest h a)
    expr_follows (e.Own at) n few D p q ws fs vs from up fits rest a h =
        compares n D p q ws ws fs vs instr.Own C.object from.0 from.1 (true_is (has_object C.image C.code) _ (allowed.own fits)) (plainly n D q ws fs vs rest h a)
    expr_follows (e.Input at) n few D p q ws fs vs from up fits rest a h = inputs n D p q ws fs vs at.line D.input refl fits from.0 from.1 (plainly n D q ws fs vs rest h a)
    expr_follows (e.Whole at target) n few D p q ws fs vs from up fits rest a h =
        reads_place n D at.id target (found_at env target) refl p q ws fs vs rest
        (subst (λ (piece : Piece). From (text C) p (piece p) q)
        (place_value (whole_slot env (name_of_target target)) (words_of_expr env (e.Whole at target)) (read_code (env.marks at.id) (found_at env target))) from) fits a h
    expr_follows (e.Element at line target index) n few D p q ws fs vs from up fits rest a h =
        element_follows line at.id target (found_at env target) refl index (expr_follows index) n few D p q ws fs vs rest from up fits.0 fits.1 fits.2 a (word_of_words n D q ws fs vs rest h)
    expr_follows (e.PlainCall at function arguments) n few D p q ws fs vs from up fits rest a h =
        let f = fits.0 in
        let numbered = function_numbered env.declarations function.text f fits.1 in
        let code : From (text C) p (plain_code (Some numbered.number) (values_code (codes_of_each env arguments)) p) q =
        subst (λ (n : Option ℕ). From (text C) p (plain_code n (values_code (codes_of_each env arguments)) p) q) numbered.numbered from in
        let parts = from_followed (text C) (values_code (codes_of_each env arguments)) (instr.Call numbered.number) p q code in
        values_follow arguments f.formals n few D p parts.middle ws fs vs parts.first (upto_before q parts.middle parts.within up) fits.2 rest a
        (λ m le E later words long ahead.
        below m (omega (arith, le, few)) function.text f fits.1 numbered.number numbered.numbered E parts.middle words ws fs vs long parts.is
        (λ j less F after result result_long.
        moved j F (pushed result ws) fs vs parts.next
        (h j (omega (arith, le, less)) F (later_then C D E F later after) result (result_long ∙ ap (words_of_function env.declarations) (sym (fits.1).named)) (ahead_later C env.marks env.scope E F vs rest after ahead))))
    expr_follows (e.Parenthesized at t) n few D p q ws fs vs from up fits rest a h = expr_follows t n few D p q ws fs vs from up fits rest a h
    expr_follows (e.Unary at line operator operand) n few D p q ws fs vs from up fits rest a h =
        let parts = from_followed (text C) (value_code env operand) (unary_instr line operator) p q from in
        expr_follows operand n few D p parts.middle ws fs vs parts.first (upto_before q parts.middle parts.within up) fits.0 rest a
        (one_of n D parts.middle ws fs vs operand rest fits.1
        (λ m le E later w ahead. unary_ends line operator m E parts.middle q ws fs vs w parts.is parts.next
        (onward_word m E q ws fs vs rest (λ j less F after w c. h j (omega (arith, le, less)) F (later_then C D E F later after) (w ∷ []) refl c) ahead)))
    expr_follows (e.Binary at line operator left right) n few D p q ws fs vs from up fits rest a h =
        binary_follows line operator left right (expr_follows left) (expr_follows right) n few D p q ws fs vs rest from up (fits.0, fits.1, fits.2, fits.3) a (word_of_words n D q ws fs vs rest h)
    expr_follows (e.CallOnOwn at member arguments) n few D p q ws fs vs from up fits rest a h = absurd fits
    expr_follows (e.CallOnTarget at target member arguments) n few D p q ws fs vs from up fits rest a h = absurd fits

    pub values_follow : (ts : Exprs) → ValuesFollow ts
    values_follow e.NoExpr [] n few D p q ws fs vs from up fits rest a h = moved n D ws fs vs from (h n (omega arith) D (later_same C D) [] refl (skipped D vs rest a))
    values_follow e.NoExpr (formal ∷ formals) n few D p q ws fs vs from up fits rest a h = absurd fits
    values_follow (e.MoreExprs t ts) [] n few D p q ws fs vs from up fits rest a h = absurd fits
    values_follow (e.MoreExprs t ts) (formal ∷ formals) n few D p q ws fs vs from up fits rest a h =
        let parts = from_joined (text C) (value_code env t) (values_code (codes_of_each env ts)) p q from in
        expr_follows t n few D p parts.middle ws fs vs parts.first (upto_before q parts.middle parts.within up) fits.0 (ways.Then (values_ways around ts) rest) (in_turn D vs (value_ways around t) (values_ways around ts) rest a)
        (λ m le E later words long ahead.
        values_follow ts formals m (omega (arith, le, few)) E parts.middle q (pushed words ws) fs vs parts.second up fits.2 rest ahead
        (λ j less F after more more_long ahead.
        subst (λ (all : List ℤ). At C j F q all fs vs) (sym (pushed_both words more ws))
        (h j (omega (arith, le, less)) F (later_then C D E F later after) (words ++ more)
        (let one = length-append words more in let total = sum_by-cons (λ (n : ℕ). n) (words_of_formal env.declarations formal) (map (words_of_formal env.declarations) formals) in
        let size : words_of_expr env t ≡ words_of_formal env.declarations formal = fits.1 in omega (arith, one, total, long, more_long, size)) ahead)))
