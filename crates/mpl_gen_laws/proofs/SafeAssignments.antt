-- The code of an assignment and of a new object is safe in a frame alone, where it is safe behind it and the uses ahead are
-- marked where their variables are loose.
use Rattle.std.proofs.Common.{◌≡◌, ◌≤◌, ℕ, ◌+◌, Bool, true, false, List, [], ◌∷◌, ◌++◌, length, Option, Some, None, ℤ, inl, inr, refl, ap, sym, subst, arith, ◌∙◌}
use Rattle.std.proofs.lemmas.List.{length-append}
use Rattle.std.specs.List.{slice_get, slice_set}
use Rattle.mpl_ast.specs.declared.expression.Target.{Target}
use Rattle.mpl_ast.specs.declared.place.At.{At as Node}
use Rattle.mpl_value.specs.Words.{with_words, zeros}
use Rattle.mpl_mean.specs.Meaning.Layout.{Class, class_named, classes_of}
use Rattle.mpl_mean.specs.Meaning.Values.{first_word}
use Rattle.mpl_mean.specs.Pending.BodyWays.{assigned_ways, create_ways, created_in, event_of, flow_ways, forces, place_ways, uses, value_ways}
use Rattle.mpl_mean.specs.Pending.Looseness.{Forces, Settles}
use Rattle.mpl_mean.specs.Pending.Paths.{Ways}
use Rattle.mpl_mean.specs.Pending.Paths as ways
use Rattle.mpl_mean.specs.Plain.Expr.{Expr}
use Rattle.mpl_mean.specs.Plain.Expr as e
use Rattle.mpl_mean.specs.Plain.Scopes as plain
use Rattle.mdf_code.specs.Alone.{Held, Words}
use Rattle.mdf_code.specs.Frames.{Flow}
use Rattle.mdf_code.specs.Parts.{has_object, is_place}
use Rattle.mdf_code.specs.Stacks.{pushed}
use Rattle.mdf_code.specs.declared.instr.Instr.TheVariants as instr
use Rattle.mpl_gen_code.specs.ExpressionCode.{codes_of, flow_code, need_of_slot, value_code}
use Rattle.mpl_gen_code.specs.Fits.{CreationFits, ExprFits, FlowFits, May, PlaceFits, WordsAre, words_of_base}
use Rattle.mpl_gen_code.specs.Pieces.{followed_by, joined, where_marked}
use Rattle.mpl_gen_code.specs.Scopes.{Env, Found, Slot, class_found, found_at, words_of_shape}
use Rattle.mpl_gen_code.specs.StatementCode.{behind_element, behind_found, create_code, create_in, create_of, element_code, into_code, into_slot, store_element, tests_index}
use Rattle.mpl_gen_code.specs.Words.{words_of_expr}
use Rattle.mpl_gen_code.proofs.Assignments.{whole_found}
use Rattle.mpl_gen_code.proofs.Compiled.{Compiled}
use Rattle.mpl_gen_code.proofs.Fronts.{front_more}
use Rattle.mpl_gen_code.proofs.Places.{from_followed, from_joined, not_without_parts, one_word}
use Rattle.mpl_gen_code.proofs.Reaching.{From}
use Rattle.mpl_gen_code.proofs.Scoped.{IsApart, IsFrontOf, got_in_front, slot_is}
use Rattle.mpl_gen_code.proofs.Storing.{apart_next, got_last, well_more}
use Rattle.mpl_gen_laws.specs.SafeFrames.{HeldFits}
use Rattle.mpl_gen_laws.proofs.Loosened.{SameFound, SamePlace, SameSlot, SeenSlot, StandsAt, found_same, none_seen, part_seen, place_seen, plain_env, some_seen, whole_seen}
use Rattle.mpl_gen_laws.proofs.SafeAhead.{Ahead, ahead_in_turn, ahead_later, ahead_skip, event_into, past_store, past_taken, past_test}
use Rattle.mpl_gen_laws.proofs.SafeElements.{behind_test, index_tested, keeps_indexed, loads_words, stores_indexed}
use Rattle.mpl_gen_laws.proofs.SafeExpressions.{Called, InScope, MayIn, expr_follows, one_of, or_not, slot_size, upto_before, uses_slot, variable}
use Rattle.mpl_gen_laws.proofs.SafeFlows.{arg_words, flow_follows}
use Rattle.mpl_gen_laws.proofs.SafeForcing.{forced_follows}
use Rattle.mpl_gen_laws.proofs.SafeSteps.{At, Is, Later, Onward, Run, Scene, VarsFit, all_sizes, later_same, later_then, text}
use Rattle.mpl_gen_laws.proofs.SafeStores.{creates, keeps, sets, stores}

-- behind a statement, with what lies ahead there
abbrev pub BehindStmt : (C : Scene) → (ℕ → Bool) → List Slot → ℕ → Run C → ℕ → Ways → Type 0
BehindStmt C marks scope n D q rest = (m : ℕ) → m ≤ n → (E : Run C) → Later C D E → (us : List Held) → Ahead C marks scope E us rest → At C m E q [] [] us

-- a variable takes the flow value on top
pub takes_flow : (C : Scene) (n : ℕ) (D : Run C) (p q : ℕ) (vs : List Held) (number count size : ℕ) (v : Held) → count ≡ size → Is C p (instr.SetVariable number) → p + 1 ≡ q → slice_get (all_sizes C) number ≡ Some size → HeldFits C.sizes count v → VarsFit C vs
    → (VarsFit C (slice_set vs number v) → Onward C n D q [] [] (slice_set vs number v)) → At C n D p [] (record { value = v; words = count } ∷ []) vs
takes_flow C n D p q vs number count size v same is next sized held fit h =
    sets C n D p [] [] vs number count v is (sized ∙ ap Some (sym same)) held fit (λ fit_now m less. subst (λ r. At C m D r [] [] (slice_set vs number v)) (sym next) (h fit_now m less))

module _ (C : Scene) (may : May) (env : Env) (scoped : InScope C env) (allowed : MayIn C may env.parts) (N : ℕ) (below : (m : ℕ) → m ≤ N → Called C env.declarations m)
    (marks : ℕ → Bool) (compiled : Compiled C.image env.declarations marks) where
  abbrev Inside : ℕ → Type 0
  Inside q = (k : ℕ) → k ≤ q → is_place C.image C.code k ≡ true

  abbrev before : (q m : ℕ) → m ≤ q → Inside q → Inside m
  before = upto_before C may env scoped allowed N below

  -- a place of the state is written in a member that has an object
  written : (t : Target) (found : Found) → found_at env t ≡ Some found → found.slot ≡ None → has_object C.image C.code ≡ true
  written t found e is = or_not allowed.writes (λ parts. not_without_parts env t found parts e is)

  within_state : (found : Found) → found.offset + found.words ≤ words_of_base env None → found.offset + found.words ≤ C.long
  within_state found fits = let long = allowed.state in omega (arith, long, fits)

  abbrev around : plain.Env
  around = plain_env env

  abbrev Here : Run C → List Held → Ways → Type 0
  Here D vs ways = Ahead C env.marks env.scope D vs ways

  -- how the ways see a place
  seen : (t : Target) (found : Found) → found_at env t ≡ Some found → (p : plain.Found) × (plain.found_at around t ≡ Some p) × SamePlace env.scope p found
  seen t found e = place_seen env.scope (plain.found_at around t) found (subst (SameFound env.scope (plain.found_at around t)) e (found_same env t))

  -- the use of a place in a variable
  record SeenUse (id : ℕ) (t : Target) (slot : Slot) : Type 0 where
    number : ℕ
    stands : StandsAt env.scope number slot
    is : uses id (plain.found_at around t) ≡ ways.Only (Forces id number)

  seen_use : (id : ℕ) (t : Target) (found : Found) (slot : Slot) → found_at env t ≡ Some found → found.slot ≡ Some slot → SeenUse id t slot
  seen_use id t found slot e is =
      let p = seen t found e in
      let s = some_seen env.scope (p.0).slot slot (subst (SameSlot env.scope (p.0).slot) is (p.2).slot) in record {
        number = s.0.number;
        stands = s.2;
        is = ap (uses id) p.1 ∙ ap (forces id) s.1;
      }

  no_use : (id : ℕ) (t : Target) (found : Found) → found_at env t ≡ Some found → found.slot ≡ None → uses id (plain.found_at around t) ≡ ways.NoEvent
  no_use id t found e is = let p = seen t found e in ap (uses id) p.1 ∙ ap (forces id) (none_seen env.scope (p.0).slot (subst (SameSlot env.scope (p.0).slot) is (p.2).slot))

  -- ---- a whole variable, a part of one, or of the state

  module _ (node : Node) (t : Target) (value : Expr) (n : ℕ) (few : n ≤ N) (D : Run C) (p q : ℕ) (vs : List Held) (up : Inside q) (flow_fits : FlowFits may env value) (rest : Ways)
      (a : Ahead C env.marks env.scope D vs (ways.Then (place_ways (plain_env env) (e.Whole node t) value) rest)) (h : BehindStmt C env.marks env.scope n D q rest) where
    abbrev id : ℕ
    id = node.id

    -- what is assigned, where the whole variable is seen or isn't
    ahead_at : (o : Option plain.Slot) → plain.whole_slot around (e.Whole node t) ≡ o → Here D vs (ways.Then (assigned_ways around node.id o value (plain.found_at around t)) rest)
    ahead_at o is = subst (λ o. Here D vs (ways.Then (assigned_ways around node.id o value (plain.found_at around t)) rest)) is a

    into : (found : Found) → found_at env t ≡ Some found → (slot : Option Slot) → found.slot ≡ slot → (whole : Bool) → found.is_whole ≡ whole → From (text C) p (into_slot (env.marks id) (codes_of env value) found slot whole p) q
        → found.offset + found.words ≤ words_of_base env slot → found.words ≡ words_of_expr env value → At C n D p [] [] vs
    into found e (Some slot) is true w from fits words =
        let parts = from_followed (text C) (flow_code env value) (instr.SetVariable slot.number) p q from in
        let same : words_of_expr env value ≡ words_of_shape env.declarations slot.shape = sym words ∙ whole_found env t found slot e w is in
        let s = whole_seen env node t found slot e is w in
        let event = event_of around s.0.number value in
        flow_follows C may env scoped allowed N below marks compiled value n few D p parts.middle [] [] vs parts.first (before q parts.middle parts.within up) flow_fits (ways.Then (ways.Only event) rest)
        (ahead_in_turn C env.marks env.scope D vs (flow_ways around value) (ways.Only event) rest (ahead_at (Some s.0) s.1))
        (λ m le E later v held takes ahead.
        let there = variable C may env scoped allowed N below vs ahead.fit slot (slot_is env t found slot e is) in
        takes_flow C m E parts.middle q vs slot.number (words_of_expr env value) (words_of_shape env.declarations slot.shape) v same parts.is parts.next (slot_size C env scoped slot (slot_is env t found slot e is)) held ahead.fit
        (λ fit_us j less. h j (omega (arith, le, less)) E later (slice_set vs slot.number v)
        (past_taken C env.marks env.scope E env.declarations env.sizes vs s.0.number slot v event rest scoped.scope s.2 there.3 fit_us (event_into around s.0.number value) (takes s.0.number) ahead)))
    into found e (Some slot) is false w from fits words =
        let first = from_joined (text C) (value_code env value) (followed_by (where_marked (env.marks id) (need_of_slot (Some slot))) (instr.Store slot.number found.offset found.words)) p q from in
        let second = from_followed (text C) (where_marked (env.marks id) (need_of_slot (Some slot))) (instr.Store slot.number found.offset found.words) first.middle q first.second in
        let u = seen_use id t found slot e is in
        let begins = ahead_in_turn C env.marks env.scope D vs (value_ways around value) (uses id (plain.found_at around t)) rest (ahead_at None (part_seen env node t found e (inr w))) in
        forced_follows C may env scoped allowed N below marks compiled value n few D p first.middle [] [] vs first.first (before q first.middle first.within up) flow_fits (ways.Then (ways.Only (Forces id u.number)) rest)
        (subst (λ used. Here D vs (ways.Then (value_ways around value) (ways.Then used rest))) u.is begins)
        (λ m le E later items long ahead.
        let held = variable C may env scoped allowed N below vs ahead.fit slot (slot_is env t found slot e is) in
        uses_slot C may env scoped allowed N below m E first.middle second.middle (pushed items []) [] vs id u.number slot held.0 rest held.1 u.stands ahead second.first
        (λ j less F after old known ahead.
        stores C j F second.middle items [] [] vs slot.number found.offset found.words (words_of_shape env.declarations slot.shape) held.0 old second.is (slot_size C env scoped slot (slot_is env t found slot e is)) held.1 held.2 known (long ∙ sym words) fits ahead.fit
        (λ fit_now i under.
        let new = with_words found.offset items old in
        subst (λ r. At C i F r [] [] (slice_set vs slot.number (Words (with_words found.offset items old)))) (sym second.next)
        (h i (omega (arith, le, less, under)) F (later_then C D E F later after) (slice_set vs slot.number (Words new))
        (past_store C env.marks env.scope F env.declarations env.sizes vs u.number slot (Words new) new rest scoped.scope u.stands held.3 fit_now refl ahead)))))
    into found e None is whole w from fits words =
        let parts = from_followed (text C) (value_code env value) (instr.Keep found.offset found.words) p q from in
        let begins = ahead_in_turn C env.marks env.scope D vs (value_ways around value) (uses id (plain.found_at around t)) rest (ahead_at None (part_seen env node t found e (inl is))) in
        forced_follows C may env scoped allowed N below marks compiled value n few D p parts.middle [] [] vs parts.first (before q parts.middle parts.within up) flow_fits (ways.Then ways.NoEvent rest)
        (subst (λ used. Here D vs (ways.Then (value_ways around value) (ways.Then used rest))) (no_use id t found e is) begins)
        (λ m le E later items long ahead.
        keeps C m E parts.middle items [] [] vs found.offset found.words parts.is (written t found e is) (long ∙ sym words) (within_state found fits)
        (λ F after j less. subst (λ r. At C j F r [] [] vs) (sym parts.next)
        (h j (omega (arith, le, less)) F (later_then C D E F later after) vs (ahead_later C env.marks env.scope E F vs rest after (ahead_skip C env.marks env.scope E vs rest ahead)))))

    pub assigns_follow : From (text C) p (into_code (env.marks id) (codes_of env value) (found_at env t) p) q → PlaceFits env (found_at env t) → WordsAre (found_at env t) (words_of_expr env value) → At C n D p [] [] vs
    assigns_follow from fits words = by_found (found_at env t) refl from fits words where
      by_found : (o : Option Found) → found_at env t ≡ o → From (text C) p (into_code (env.marks id) (codes_of env value) o p) q → PlaceFits env o → WordsAre o (words_of_expr env value) → At C n D p [] [] vs
      by_found None e from fits words = absurd fits
      by_found (Some found) e from fits words = into found e found.slot refl found.is_whole refl from fits words

  -- ---- an element

  abbrev hidden : ℕ
  hidden = length env.sizes

  -- the two variables without a name
  hidden_apart : IsApart hidden env.scope
  hidden_apart = apart_next env.declarations env.sizes env.scope scoped.scope

  next_apart : IsApart (hidden + 1) env.scope
  next_apart = subst (λ n. IsApart n env.scope) (length-append env.sizes (1 ∷ [])) (apart_next env.declarations (env.sizes ++ 1 ∷ []) env.scope (well_more env.declarations env.scope (front_more env.sizes (1 ∷ [])) scoped.scope))

  module _ (id line : ℕ) (t : Target) (vs : List Held) where
    -- behind the value and the index
    element_stored : (found : Found) → found_at env t ≡ Some found → (slot : Option Slot) → found.slot ≡ slot → (n : ℕ) (D : Run C) (p q : ℕ) (w i : ℤ) → From (text C) p (store_element (env.marks id) line hidden found slot p) q
        → found.offset + found.words ≤ words_of_base env slot → IsFrontOf (behind_element found slot env).sizes (all_sizes C) → (rest : Ways) → Here D vs (ways.Then (uses id (plain.found_at around t)) rest) → BehindStmt C env.marks env.scope n D q rest
        → At C n D p (i ∷ w ∷ []) [] vs
    element_stored found e None is n D p q w i from fits fronts rest a h =
        let ahead = ahead_skip C env.marks env.scope D vs rest (subst (λ used. Here D vs (ways.Then used rest)) (no_use id t found e is) a) in
        keeps_indexed C n D p w i [] [] vs found.offset found.words line from.0 (written t found e is) (within_state found fits)
        (λ E later m less. let there : p + 1 ≡ q = from.1 in subst (λ r. At C m E r [] [] vs) (sym there) (h m (omega (arith, less)) E later vs (ahead_later C env.marks env.scope D E vs rest later ahead)))
    element_stored found e (Some slot) is n D p q w i from fits fronts rest a h =
        let parts = from_joined (text C) (tests_index line hidden found.words) (joined (where_marked (env.marks id) (need_of_slot (Some slot))) (λ _. instr.Load hidden 0 1 ∷ instr.StoreIndexed slot.number found.offset found.words line ∷ [])) p q from in
        let second = from_joined (text C) (where_marked (env.marks id) (need_of_slot (Some slot))) (λ _. instr.Load hidden 0 1 ∷ instr.StoreIndexed slot.number found.offset found.words line ∷ []) parts.middle q parts.second in
        let is_slot = slot_is env t found slot e is in
        let u = seen_use id t found slot e is in
        let begins = subst (λ used. Here D vs (ways.Then used rest)) u.is a in
        let us = behind_test C hidden found.words i vs in
        index_tested C n D line hidden found.words p parts.middle i (w ∷ []) [] vs parts.first
        (ap (λ (all : List ℕ). slice_get all hidden) fronts.is
        ∙ got_in_front ((env.sizes ++ 1 ∷ []) ++ found.words ∷ []) fronts.rest hidden 1 (got_in_front (env.sizes ++ 1 ∷ []) (found.words ∷ []) hidden 1 (got_last env.sizes 1)))
        (ap (λ (all : List ℕ). slice_get all (hidden + 1)) fronts.is
        ∙ got_in_front ((env.sizes ++ 1 ∷ []) ++ found.words ∷ []) fronts.rest (hidden + 1) found.words
        (subst (λ n. slice_get ((env.sizes ++ 1 ∷ []) ++ found.words ∷ []) n ≡ Some found.words) (length-append env.sizes (1 ∷ [])) (got_last (env.sizes ++ 1 ∷ []) found.words)))
        a.fit
        (λ fit_us held_index k k_less.
        let ahead = past_test C env.marks env.scope D vs hidden (hidden + 1) (Words (i ∷ [])) (Words (zeros found.words)) (ways.Then (ways.Only (Forces id u.number)) rest) hidden_apart next_apart fit_us begins in
        let held = variable C may env scoped allowed N below us fit_us slot is_slot in
        uses_slot C may env scoped allowed N below k D parts.middle second.middle (w ∷ []) [] us id u.number slot held.0 rest held.1 u.stands ahead second.first
        (λ a le G after words known ahead.
        loads_words C a G second.middle hidden (i ∷ []) (w ∷ []) [] us second.second.0 held_index
        (λ b b_less.
        stores_indexed C b G (second.middle + 1) w i [] [] us slot.number found.offset found.words line (words_of_shape env.declarations slot.shape) held.0 words second.second.1.0 (slot_size C env scoped slot is_slot) held.1 held.2 known fits fit_us
        (λ new fit_ts d d_less.
        let there : second.middle + 1 + 1 ≡ q = second.second.1.1 in
        subst (λ r. At C d G r [] [] (slice_set us slot.number (Words new))) (sym there)
        (h d (omega (arith, k_less, le, b_less, d_less)) G after (slice_set us slot.number (Words new))
        (past_store C env.marks env.scope G env.declarations env.sizes us u.number slot (Words new) new rest scoped.scope u.stands held.3 fit_ts refl ahead))))))

    pub element_assigned : (index value : Expr) (n : ℕ) → n ≤ N → (D : Run C) (p q : ℕ) → From (text C) p (element_code (env.marks id) line hidden (value_code env value) (value_code env index) (found_at env t) p) q → Inside q
        → PlaceFits env (found_at env t) → IsFrontOf (behind_found (found_at env t) env).sizes (all_sizes C) → FlowFits may env value → words_of_expr env value ≡ 1 → ExprFits may env index → words_of_expr env index ≡ 1
        → (rest : Ways) → Here D vs (ways.Then (ways.Then (value_ways around value) (ways.Then (value_ways around index) (uses id (plain.found_at around t)))) rest) → BehindStmt C env.marks env.scope n D q rest → At C n D p [] [] vs
    element_assigned index value n few D p q from up fits fronts value_fits value_one index_fits index_one rest a h = by_found (found_at env t) refl from fits fronts where
      by_found : (o : Option Found) → found_at env t ≡ o → From (text C) p (element_code (env.marks id) line hidden (value_code env value) (value_code env index) o p) q → PlaceFits env o → IsFrontOf (behind_found o env).sizes (all_sizes C) → At C n D p [] [] vs
      by_found None e from fits fronts = absurd fits
      by_found (Some found) e from fits fronts =
          let first = from_joined (text C) (value_code env value) (joined (value_code env index) (store_element (env.marks id) line hidden found found.slot)) p q from in
          let second = from_joined (text C) (value_code env index) (store_element (env.marks id) line hidden found found.slot) first.middle q first.second in
          let used = uses id (plain.found_at around t) in
          forced_follows C may env scoped allowed N below marks compiled value n few D p first.middle [] [] vs first.first (before q first.middle first.within up) value_fits (ways.Then (ways.Then (value_ways around index) used) rest)
          (ahead_in_turn C env.marks env.scope D vs (value_ways around value) (ways.Then (value_ways around index) used) rest a)
          (λ m le E later words long ahead.
          let is_one : words ≡ first_word words ∷ [] = one_word words (long ∙ value_one) in
          subst (λ (all : List ℤ). At C m E first.middle (pushed all []) [] vs) (sym is_one)
          (expr_follows C may env scoped allowed N below index m (omega (arith, le, few)) E first.middle second.middle (first_word words ∷ []) [] vs second.first (before q second.middle second.within up) index_fits (ways.Then used rest)
          (ahead_in_turn C env.marks env.scope E vs (value_ways around index) used rest ahead)
          (one_of C may env scoped allowed N below m E second.middle (first_word words ∷ []) [] vs index (ways.Then used rest) index_one
          (λ j less F after i ahead.
          element_stored found e found.slot refl j F second.middle q (first_word words) i second.second fits fronts rest ahead
          (λ k under G further us behind. h k (omega (arith, le, less, under)) G (later_then C D F G (later_then C D E F later after) further) us behind)))))

  -- ---- a new object

  abbrev IsCreated : Class → Type 0
  IsCreated class = (may.posts ≡ true) × (class.is_regular ≡ false) × ((name : List ℕ) × (class_named name (classes_of env.declarations) ≡ Some class))

  object_follows : (class : Class) → IsCreated class → (n : ℕ) (D : Run C) (p : ℕ) (ws : List ℤ) (fs : List (Flow Held)) (vs : List Held) → Is C p (instr.Create class.number) → ((object : ℤ) → Onward C n D (p + 1) (object ∷ ws) fs vs) → At C n D p ws fs vs
  object_follows class fits n D p ws fs vs is h =
      let found = compiled.classes fits.2.0 class fits.2.1 in
      creates C n D p ws fs vs class.number found.0 is (allowed.posts fits.0) found.1 (found.2 ∙ fits.1) h

  module _ (id : ℕ) (t : Target) (n : ℕ) (D : Run C) (p q : ℕ) (vs : List Held) (rest : Ways) (a : Ahead C env.marks env.scope D vs (ways.Then (create_ways id (plain.found_at (plain_env env) t)) rest)) (h : BehindStmt C env.marks env.scope n D q rest) where
    -- where the place is seen so
    ahead_created : (found : Found) (e : found_at env t ≡ Some found) (whole : Bool) → found.is_whole ≡ whole → (o : Option plain.Slot) → (seen t found e).0.slot ≡ o → Here D vs (ways.Then (created_in id o whole) rest)
    ahead_created found e whole w o slot_is =
        let s = seen t found e in
        subst (λ created. Here D vs (ways.Then created rest)) (ap (create_ways id) s.1 ∙ ap (λ slot. created_in id slot s.0.is_whole) slot_is ∙ ap (created_in id o) ((s.2).whole ∙ w)) a

    slot_seen : (found : Found) (e : found_at env t ≡ Some found) (slot : Slot) → found.slot ≡ Some slot → SeenSlot env.scope ((seen t found e).0).slot slot
    slot_seen found e slot is = let s = seen t found e in some_seen env.scope (s.0).slot slot (subst (SameSlot env.scope (s.0).slot) is (s.2).slot)

    creates_in : (found : Found) → found_at env t ≡ Some found → (class : Class) → IsCreated class → (slot : Option Slot) → found.slot ≡ slot → (whole : Bool) → found.is_whole ≡ whole
        → From (text C) p (create_in (env.marks id) class.number found slot whole p) q → found.offset + found.words ≤ words_of_base env slot → found.words ≡ 1 → At C n D p [] [] vs
    creates_in found e class is_created (Some slot) is true w from fits single =
        let same : 1 ≡ words_of_shape env.declarations slot.shape = sym single ∙ whole_found env t found slot e w is in
        let s = slot_seen found e slot is in
        let begins = ahead_created found e true w (Some s.0) s.1 in
        let there = variable C may env scoped allowed N below vs a.fit slot (slot_is env t found slot e is) in
        object_follows class is_created n D p [] [] vs from.0
        (λ object b b_less.
        arg_words C may env scoped allowed N below marks compiled b D (p + 1) (p + 1 + 1) (object ∷ []) [] [] vs 1 refl from.1.0 refl
        (λ m m_less.
        takes_flow C m D (p + 1 + 1) q vs slot.number 1 (words_of_shape env.declarations slot.shape) (Words (object ∷ [])) same from.1.1.0 from.1.1.1 (slot_size C env scoped slot (slot_is env t found slot e is)) refl a.fit
        (λ fit_us j less. h j (omega (arith, b_less, m_less, less)) D (later_same C D) (slice_set vs slot.number (Words (object ∷ [])))
        (past_taken C env.marks env.scope D env.declarations env.sizes vs s.0.number slot (Words (object ∷ [])) (Settles s.0.number) rest scoped.scope s.2 there.3 fit_us refl (object ∷ [], refl) begins))))
    creates_in found e class is_created (Some slot) is false w from fits single =
        let parts = from_joined (text C) (where_marked (env.marks id) (need_of_slot (Some slot))) (λ _. instr.Create class.number ∷ instr.Store slot.number found.offset found.words ∷ []) p q from in
        let held = variable C may env scoped allowed N below vs a.fit slot (slot_is env t found slot e is) in
        let s = slot_seen found e slot is in
        uses_slot C may env scoped allowed N below n D p parts.middle [] [] vs id s.0.number slot held.0 rest held.1 s.2 (ahead_created found e false w (Some s.0) s.1) parts.first
        (λ m le E later old known ahead.
        object_follows class is_created m E parts.middle [] [] vs parts.second.0
        (λ object j less.
        stores C j E (parts.middle + 1) (object ∷ []) [] [] vs slot.number found.offset found.words (words_of_shape env.declarations slot.shape) held.0 old parts.second.1.0 (slot_size C env scoped slot (slot_is env t found slot e is)) held.1 held.2 known (sym single) fits ahead.fit
        (λ fit_now i under.
        let there : parts.middle + 1 + 1 ≡ q = parts.second.1.1 in
        let new = with_words found.offset (object ∷ []) old in
        subst (λ r. At C i E r [] [] (slice_set vs slot.number (Words (with_words found.offset (object ∷ []) old)))) (sym there)
        (h i (omega (arith, le, less, under)) E later (slice_set vs slot.number (Words new))
        (past_store C env.marks env.scope E env.declarations env.sizes vs s.0.number slot (Words new) new rest scoped.scope s.2 held.3 fit_now refl ahead)))))
    creates_in found e class is_created None is whole w from fits single =
        let begins = ahead_skip C env.marks env.scope D vs rest (ahead_created found e whole w None (let s = seen t found e in none_seen env.scope (s.0).slot (subst (SameSlot env.scope (s.0).slot) is (s.2).slot))) in
        object_follows class is_created n D p [] [] vs from.0
        (λ object b b_less.
        keeps C b D (p + 1) (object ∷ []) [] [] vs found.offset found.words from.1.0 (written t found e is) (sym single) (within_state found fits)
        (λ E later j less. let there : p + 1 + 1 ≡ q = from.1.1 in subst (λ r. At C j E r [] [] vs) (sym there) (h j (omega (arith, b_less, less)) E later vs (ahead_later C env.marks env.scope D E vs rest later begins))))

    pub creates_follow : From (text C) p (create_code env (env.marks id) (found_at env t) p) q → CreationFits may env (found_at env t) (class_found env (found_at env t)) → At C n D p [] [] vs
    creates_follow from fits = by_found (found_at env t) refl from fits where
      by_class : (found : Found) → found_at env t ≡ Some found → (class : Option Class) → From (text C) p (create_of (env.marks id) found class p) q → CreationFits may env (Some found) class → At C n D p [] [] vs
      by_class found e None from fits = absurd fits
      by_class found e (Some class) from fits = creates_in found e class (fits.0, fits.1, fits.2) found.slot refl found.is_whole refl from fits.3 fits.4

      by_found : (o : Option Found) → found_at env t ≡ o → From (text C) p (create_code env (env.marks id) o p) q → CreationFits may env o (class_found env o) → At C n D p [] [] vs
      by_found None e from fits = absurd fits
      by_found (Some found) e from fits = by_class found e (class_found env (Some found)) from fits
