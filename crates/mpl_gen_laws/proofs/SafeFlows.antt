-- The code of flows and calls is safe in a frame alone, where it is safe behind it and the uses ahead are marked where their
-- variables are loose.
use Rattle.std.proofs.Common.{◌≡◌, ◌≤◌, ℕ, suc, ◌+◌, Bool, true, false, not, List, [], ◌∷◌, length, map, Option, Some, None, if◌then◌else◌, ℤ, pos, refl, ap, sym, subst, arith, ◌∙◌}
use Rattle.std.specs.List.{AllZip, slice_get}
use Rattle.std.specs.Ordering.{int_eq}
use Rattle.std.specs.Prelude.{◌==◌}
use Rattle.mpl_ast.specs.declared.class.Formal.{Formal}
use Rattle.mpl_ast.specs.declared.expression.Target.{Target}
use Rattle.mpl_ast.specs.declared.expression.Target.TheVariants as target
use Rattle.mpl_ast.specs.declared.place.At.{At as Node}
use Rattle.mpl_ast.specs.declared.program.Declaration.{Declaration}
use Rattle.mpl_mean.specs.Laws.Sizes.{words_of_formal, words_of_result}
use Rattle.mpl_mean.specs.Meaning.Layout.{Class, Member, member_named}
use Rattle.mpl_mean.specs.Plain.Expr.{Expr, Exprs}
use Rattle.mpl_mean.specs.Plain.Expr as e
use Rattle.mpl_mean.specs.Plain.Scopes as plain
use Rattle.mpl_mean.specs.Pending.BodyWays.{event_of, flow_ways, flows_ways, held_event, receives, unless_whole, uses, value_ways}
use Rattle.mpl_mean.specs.Pending.Looseness.{Settles}
use Rattle.mpl_mean.specs.Pending.Paths.{Ways}
use Rattle.mpl_mean.specs.Pending.Paths as ways
use Rattle.mpl_mean.specs.Meaning.Values.{first_word}
use Rattle.mpl_value.specs.declared.known.TrapKind.TheVariants.{Unbound}
use Rattle.mpl_mean.specs.Plain.Stmt.{stmts_of}
use Rattle.mpl_mean.proofs.Sizes.SizedClasses.{same_number}
use Rattle.mdf_code.specs.Alone.{Held, Words, Pending, framed}
use Rattle.mdf_code.specs.Frames.{Flow, Frame, Next}
use Rattle.mdf_code.specs.Frames as frames
use Rattle.mdf_code.specs.Parts.{has_object, is_place, is_regular, may_post, may_send, sizes_of_formals}
use Rattle.mdf_code.specs.Stacks.{popped_all, pushed}
use Rattle.mdf_code.specs.Steps.{Does, does, on_member, sizes_agree, values_of}
use Rattle.mdf_code.specs.Steps as steps
use Rattle.mdf_code.specs.Yields.{words_of_result as result_words_of}
use Rattle.mdf_code.specs.declared.instr.Instr.{Instr}
use Rattle.mdf_code.specs.declared.instr.Instr.TheVariants as instr
use Rattle.mdf_code.specs.declared.raw.RawMember.{RawMember}
use Rattle.mpl_gen_code.specs.ExpressionCode.{codes_of_each, flow_code, flows_code, of_place, own_code, post_code, read_code, send_code, target_code, value_code}
use Rattle.mpl_gen_code.specs.Fits.{ExprFits, FlowFits, FlowsFit, May, MemberIs, PlaceFits, ReceiverFits}
use Rattle.mpl_gen_code.specs.Pieces.{Piece, followed_by, joined, one}
use Rattle.mpl_gen_code.specs.ProgramImage.{member_env, member_image}
use Rattle.mpl_gen_code.specs.Scopes.{Env, Found, Slot, found_at, found_name, slot_named, words_of_shape}
use Rattle.mpl_gen_code.specs.Words.{member_in, words_of_expr, words_of_found, words_of_member}
use Rattle.mpl_gen_code.proofs.Calling.{words_same}
use Rattle.mpl_gen_code.proofs.Compiled.{Compiled}
use Rattle.mpl_gen_code.proofs.Fronts.{formals_first}
use Rattle.mpl_gen_code.proofs.Expressions.{place_value}
use Rattle.mpl_gen_code.proofs.Places.{from_followed, from_joined, one_word}
use Rattle.mpl_gen_code.proofs.Popping.{given_is, if_false, if_true, popped_pushed, pushed_both, true_is}
use Rattle.mpl_gen_code.proofs.Reaching.{From}
use Rattle.mpl_gen_code.proofs.Scoped.{IsSlot}
use Rattle.mpl_gen_laws.specs.SafeFrames.{HeldArguments, HeldFits, Safe}
use Rattle.mpl_gen_laws.proofs.Loosened.{SameSlot, class_same, found_same, named_same, none_seen, plain_env, some_seen}
use Rattle.mpl_gen_laws.proofs.SafeAhead.{Ahead, TakesAs, ahead_in_turn, ahead_later, ahead_skip}
use Rattle.mpl_gen_laws.proofs.SafeExpressions.{Called, InScope, MayIn, expr_follows, moved, reads_place, slot_size, upto_before, variable}
use Rattle.mpl_gen_laws.proofs.SafeSteps.{At, Is, Later, Onward, Run, Scene, VarsFit, all_sizes, frame, later_same, later_then, performs, text, x}

-- a flow value of so many words is on top behind a place
abbrev pub ThenFlow : (C : Scene) → ℕ → Run C → ℕ → List ℤ → List (Flow Held) → List Held → ℕ → Type 0
ThenFlow C n D q ws fs vs count = (m : ℕ) → m ≤ n → (E : Run C) → Later C D E → (v : Held) → HeldFits C.sizes count v → At C m E q ws (record { value = v; words = count } ∷ fs) vs

-- a flow value of its size for each formal
abbrev pub FlowsFor : (ℕ → ℕ) → List Declaration → List Formal → List (Flow Held) → Type 0
FlowsFor sizes ds [] [] = Unit {0}
FlowsFor sizes ds [] (flow ∷ flows) = ⊥
FlowsFor sizes ds (formal ∷ formals) [] = ⊥
FlowsFor sizes ds (formal ∷ formals) (flow ∷ flows) = (flow.words ≡ words_of_formal ds formal) × HeldFits sizes flow.words flow.value × FlowsFor sizes ds formals flows

many_flows : (sizes : ℕ → ℕ) (ds : List Declaration) (formals : List Formal) (flows : List (Flow Held)) → FlowsFor sizes ds formals flows → length flows ≡ length formals
many_flows sizes ds [] [] h = refl
many_flows sizes ds [] (flow ∷ flows) h = absurd h
many_flows sizes ds (formal ∷ formals) [] h = absurd h
many_flows sizes ds (formal ∷ formals) (flow ∷ flows) h = ap suc (many_flows sizes ds formals flows h.2)

agree_flows : (sizes : ℕ → ℕ) (ds : List Declaration) (formals : List Formal) (flows : List (Flow Held)) → FlowsFor sizes ds formals flows → sizes_agree (map (words_of_formal ds) formals) flows ≡ true
agree_flows sizes ds [] [] h = refl
agree_flows sizes ds [] (flow ∷ flows) h = absurd h
agree_flows sizes ds (formal ∷ formals) [] h = absurd h
agree_flows sizes ds (formal ∷ formals) (flow ∷ flows) h =
    if_true (sizes_agree (map (words_of_formal ds) formals) flows) false (ap (λ n. n == words_of_formal ds formal) h.0 ∙ same_number (words_of_formal ds formal)) ∙ agree_flows sizes ds formals flows h.2

held_flows : (sizes : ℕ → ℕ) (ds : List Declaration) (formals : List Formal) (flows : List (Flow Held)) → FlowsFor sizes ds formals flows → AllZip (HeldFits sizes) (map (words_of_formal ds) formals) (values_of flows)
held_flows sizes ds [] [] h = tt
held_flows sizes ds [] (flow ∷ flows) h = absurd h
held_flows sizes ds (formal ∷ formals) [] h = absurd h
held_flows sizes ds (formal ∷ formals) (flow ∷ flows) h = (subst (λ n. HeldFits sizes n flow.value) h.0 h.1, held_flows sizes ds formals flows h.2)

-- the same, with what lies ahead there, and with what a variable takes that takes it
abbrev pub BehindFlow : (C : Scene) → Env → ℕ → Run C → ℕ → List ℤ → List (Flow Held) → List Held → Expr → Ways → Type 0
BehindFlow C env n D q ws fs vs t rest = (m : ℕ) → m ≤ n → (E : Run C) → Later C D E → (v : Held) → HeldFits C.sizes (words_of_expr env t) v → ((variable : ℕ) → TakesAs E.knows env.scope vs v (event_of (plain_env env) variable t))
    → Ahead C env.marks env.scope E vs rest → At C m E q ws (record { value = v; words = words_of_expr env t } ∷ fs) vs

abbrev pub BehindFlows : (C : Scene) → Env → ℕ → Run C → ℕ → List ℤ → List (Flow Held) → List Held → List Formal → Ways → Type 0
BehindFlows C env n D q ws fs vs formals rest = (m : ℕ) → m ≤ n → (E : Run C) → Later C D E → (flows : List (Flow Held)) → FlowsFor C.sizes env.declarations formals flows → Ahead C env.marks env.scope E vs rest → At C m E q ws (pushed flows fs) vs

module _ (C : Scene) (may : May) (env : Env) (scoped : InScope C env) (allowed : MayIn C may env.parts) (N : ℕ) (below : (m : ℕ) → m ≤ N → Called C env.declarations m)
    (marks : ℕ → Bool) (compiled : Compiled C.image env.declarations marks) where
  abbrev ds : List Declaration
  ds = env.declarations

  -- ---- calls

  -- the sizes of a member's formals
  formals_sizes : (class : Class) (m : Member) → sizes_of_formals (member_image ds marks class m) ≡ map (words_of_formal ds) m.formals
  formals_sizes class m = formals_first ds m.formals (stmts_of m.body) (member_env ds marks class m) refl

  abbrev called : Run C → Run C
  called D = record { calls = D.calls + 1; knows = D.knows; good = D.good; state = D.state; is_long = D.is_long; input = D.input; lines = D.lines; replied = D.replied }

  -- a call is made and answered by a result with its number
  made : (n : ℕ) (D : Run C) (p q : ℕ) (ws rest : List ℤ) (fs flows : List (Flow Held)) (vs : List Held) (class : Class) (m : Member) → MemberIs ds class m → (i : Instr) (object : ℤ) → Is C p i → p + 1 ≡ q → FlowsFor C.sizes ds m.formals flows
      → does (framed D.knows) (x C) i (frame C D p ws (pushed flows fs) vs) ≡ steps.calls m.id (member_image ds marks class m) object (frame C D p rest (pushed flows fs) vs)
      → ThenFlow C n D q rest fs vs (words_of_result ds m.result) → At C n D p ws (pushed flows fs) vs
  made n D p q ws rest fs flows vs class m is i object stands next for e h =
      performs C n D p ws (pushed flows fs) vs i (frames.Stops (frames.Calls m.id object (values_of flows)) (frame C D (p + 1) rest fs vs)) stands
      (e
      ∙ given_is (popped_all (length m.formals) (pushed flows fs)) _ _ (popped_pushed flows fs (length m.formals) (many_flows C.sizes ds m.formals flows for))
      ∙ true_is (sizes_agree (sizes_of_formals (member_image ds marks class m)) flows) _ (ap (λ sizes. sizes_agree sizes flows) (formals_sizes class m) ∙ agree_flows C.sizes ds m.formals flows for))
      (λ k less. (
        arguments_fit,
        (λ sized.
            let words : result_words_of C.image m.id ≡ words_of_result ds m.result = words_same C.image ds marks class m (compiled.members class m is) in
            subst (λ count. Safe C.image C.object C.sizes k (D.calls + 1) D.knows (frame C (called D) (p + 1) rest (record { value = Pending (D.calls + 1); words = count } ∷ fs) vs)) (sym words)
            (subst (λ r. At C k (called D) r rest (record { value = Pending (D.calls + 1); words = words_of_result ds m.result } ∷ fs) vs) (sym next)
            (h k (omega (arith, less)) (called D) (record { keeps = λ result words e. e }) (Pending (D.calls + 1)) (sized ∙ words)))),
      )) where
        arguments_fit : HeldArguments C.sizes (values_of flows) (slice_get C.image.members m.id)
        arguments_fit =
            subst (HeldArguments C.sizes (values_of flows)) (sym (compiled.members class m is).stands)
            (subst (λ sizes. AllZip (HeldFits C.sizes) sizes (values_of flows)) (sym (formals_sizes class m)) (held_flows C.sizes ds m.formals flows for))

  -- a member of this kind, with as many formals
  member_there : {V : Type 0} (class : Class) (m : Member) → MemberIs ds class m → (count : ℕ) → length m.formals ≡ count → (kind : Bool → Bool) → kind class.is_regular ≡ true → (next : RawMember → Does V)
      → on_member (x C) m.id count kind next ≡ next (member_image ds marks class m)
  member_there class m is count many kind right next =
      let there = compiled.members class m is in
      given_is (slice_get C.image.members m.id) (member_image ds marks class m) _ there.stands
      ∙ given_is (is_regular C.image (member_image ds marks class m)) class.is_regular _ there.class_is
      ∙ true_is (kind class.is_regular) _ right
      ∙ true_is (length m.formals == count) _ (subst (λ n. (n == count) ≡ true) (sym many) (same_number count))

  count_of : (formals : List Formal) (ts : Exprs) → FlowsFit may env formals ts → length formals ≡ length (codes_of_each env ts)
  count_of [] e.NoExpr fits = refl
  count_of [] (e.MoreExprs t ts) fits = absurd fits
  count_of (formal ∷ formals) e.NoExpr fits = absurd fits
  count_of (formal ∷ formals) (e.MoreExprs t ts) fits = ap suc (count_of formals ts fits.2)

  sends : (n : ℕ) (D : Run C) (p q : ℕ) (ws : List ℤ) (fs flows : List (Flow Held)) (vs : List Held) (class : Class) (m : Member) → MemberIs ds class m → class.is_regular ≡ true → may.sends ≡ true → (count : ℕ) → length m.formals ≡ count
      → Is C p (instr.Send m.id count) → p + 1 ≡ q → FlowsFor C.sizes ds m.formals flows → ThenFlow C n D q ws fs vs (words_of_result ds m.result) → At C n D p ws (pushed flows fs) vs
  sends n D p q ws fs flows vs class m is regular may_it count many stands next for h =
      made n D p q ws ws fs flows vs class m is (instr.Send m.id count) (pos 0) stands next for
      (true_is (may_send C.code) _ (allowed.sends may_it) ∙ member_there class m is count many (λ regular. regular) regular (λ m'. steps.calls m.id m' (pos 0) (frame C D p ws (pushed flows fs) vs))) h

  posts : (n : ℕ) (D : Run C) (p q : ℕ) (ws : List ℤ) (object : ℤ) (fs flows : List (Flow Held)) (vs : List Held) (class : Class) (m : Member) → MemberIs ds class m → class.is_regular ≡ false → may.posts ≡ true → (count : ℕ) → length m.formals ≡ count
      → Is C p (instr.Post m.id count) → p + 1 ≡ q → FlowsFor C.sizes ds m.formals flows → ThenFlow C n D q ws fs vs (words_of_result ds m.result) → At C n D p (object ∷ ws) (pushed flows fs) vs
  posts n D p q ws object fs flows vs class m is regular may_it count many stands next for h =
      made n D p q (object ∷ ws) ws fs flows vs class m is (instr.Post m.id count) object stands next for
      (true_is (may_post C.image C.code) _ (allowed.posts may_it)
      ∙ member_there class m is count many not (ap not regular) (λ m'. steps.on_word (frame C D p (object ∷ ws) (pushed flows fs) vs) (λ object below. steps.calls m.id m' object (record (frame C D p (object ∷ ws) (pushed flows fs) vs) { words = below })))) h

  -- ---- what is passed on

  abbrev around : plain.Env
  around = plain_env env

  abbrev Here : Run C → List Held → Ways → Type 0
  Here D vs ways = Ahead C env.marks env.scope D vs ways

  -- known words become a flow value
  pub arg_words : (n : ℕ) (D : Run C) (p q : ℕ) (words ws : List ℤ) (fs : List (Flow Held)) (vs : List Held) (count : ℕ) → length words ≡ count → Is C p (instr.ArgWords count) → p + 1 ≡ q
      → Onward C n D q ws (record { value = Words words; words = count } ∷ fs) vs → At C n D p (pushed words ws) fs vs
  arg_words n D p q words ws fs vs count long is next h =
      performs C n D p (pushed words ws) fs vs (instr.ArgWords count) (frames.Goes (frame C D (p + 1) ws (record { value = Words words; words = count } ∷ fs) vs)) is
      (given_is (popped_all count (pushed words ws)) _ _ (popped_pushed words ws count long))
      (λ m less. subst (λ r. At C m D r ws (record { value = Words words; words = count } ∷ fs) vs) (sym next) (h m less))

  abbrev pub FlowFollows : Expr → Type 0
  FlowFollows t = (n : ℕ) → n ≤ N → (D : Run C) (p q : ℕ) (ws : List ℤ) (fs : List (Flow Held)) (vs : List Held) → From (text C) p (flow_code env t p) q → ((k : ℕ) → k ≤ q → is_place C.image C.code k ≡ true) → FlowFits may env t
      → (rest : Ways) → Here D vs (ways.Then (flow_ways around t) rest) → BehindFlow C env n D q ws fs vs t rest → At C n D p ws fs vs

  -- a value that is passed on as its words
  as_words : (t : Expr) → ((variable : ℕ) → event_of around variable t ≡ Settles variable) → flow_ways around t ≡ value_ways around t → (n : ℕ) → n ≤ N → (D : Run C) (p q : ℕ) (ws : List ℤ) (fs : List (Flow Held)) (vs : List Held) (count : ℕ)
      → words_of_expr env t ≡ count → From (text C) p (followed_by (value_code env t) (instr.ArgWords count) p) q → ((k : ℕ) → k ≤ q → is_place C.image C.code k ≡ true) → ExprFits may env t
      → (rest : Ways) → Here D vs (ways.Then (flow_ways around t) rest) → BehindFlow C env n D q ws fs vs t rest → At C n D p ws fs vs
  as_words t settles are n few D p q ws fs vs count same from up fits rest a h =
      let parts = from_followed (text C) (value_code env t) (instr.ArgWords count) p q from in
      expr_follows C may env scoped allowed N below t n few D p parts.middle ws fs vs parts.first (upto_before C may env scoped allowed N below q parts.middle parts.within up) fits rest
      (subst (λ ways. Here D vs (Rattle.mpl_mean.specs.Pending.Paths.Then ways rest)) are a)
      (λ m le E later words long ahead.
      arg_words m E parts.middle q words ws fs vs count (long ∙ same) parts.is parts.next
      (λ j less. subst (λ c. At C j E q ws (record { value = Words words; words = c } ∷ fs) vs) same
      (h j (omega (arith, le, less)) E later (Words words) long (λ variable. subst (TakesAs E.knows env.scope vs (Words words)) (sym (settles variable)) (words, refl)) ahead)))

  -- a whole variable as it stands
  as_variable : (n : ℕ) (D : Run C) (p q : ℕ) (ws : List ℤ) (fs : List (Flow Held)) (vs : List Held) (slot : Slot) → IsSlot env.scope slot → Is C p (instr.ArgVariable slot.number) → p + 1 ≡ q → VarsFit C vs
      → ((v : Held) → HeldFits C.sizes (words_of_shape ds slot.shape) v → slice_get vs slot.number ≡ Some v → Onward C n D q ws (record { value = v; words = words_of_shape ds slot.shape } ∷ fs) vs) → At C n D p ws fs vs
  as_variable n D p q ws fs vs slot is stands next fit h =
      let held = variable C may env scoped allowed N below vs fit slot is in
      performs C n D p ws fs vs (instr.ArgVariable slot.number) (frames.Goes (frame C D (p + 1) ws (record { value = held.0; words = words_of_shape ds slot.shape } ∷ fs) vs)) stands
      (given_is (slice_get (all_sizes C) slot.number) (words_of_shape ds slot.shape) _ (slot_size C env scoped slot is) ∙ given_is (slice_get vs slot.number) held.0 _ held.1)
      (λ m less. subst (λ r. At C m D r ws (record { value = held.0; words = words_of_shape ds slot.shape } ∷ fs) vs) (sym next) (h held.0 held.2 held.1 m less))

  whole_flow : (at : Node) (t : Target) → FlowFollows (e.Whole at t)
  whole_flow at (target.Field node variable field) n few D p q ws fs vs from up fits rest a h =
      as_words (e.Whole at (target.Field node variable field)) (λ variable. refl) refl n few D p q ws fs vs _ refl from up fits rest a h
  whole_flow at (target.Variable node name) n few D p q ws fs vs from up fits rest a h = by_slot (slot_named name.text env.scope) refl where
    whole : Expr
    whole = e.Whole at (target.Variable node name)

    by_slot : (o : Option Slot) → slot_named name.text env.scope ≡ o → At C n D p ws fs vs
    by_slot None none =
        let seen = none_seen env.scope (plain.slot_named name.text (plain_env env).scope) (subst (SameSlot env.scope (plain.slot_named name.text (plain_env env).scope)) none (named_same name.text env.scope)) in
        as_words (e.Whole at (target.Variable node name)) (λ variable. ap (held_event variable) seen) (ap (λ o. unless_whole o (value_ways (plain_env env) (e.Whole at (target.Variable node name)))) seen) n few D p q ws fs vs _ refl
        (subst (λ o. From (text C) p ((of_place o (words_of_expr env (e.Whole at (target.Variable node name))) (value_code env (e.Whole at (target.Variable node name)))).flow p) q) none
        (same_flow (slot_named name.text env.scope) from)) up fits rest a h where
          same_flow : (o : Option Slot) → From (text C) p ((of_place o (words_of_expr env (e.Whole at (target.Variable node name))) (read_code (env.marks at.id) (found_at env (target.Variable node name)))).flow p) q
              → From (text C) p ((of_place o (words_of_expr env (e.Whole at (target.Variable node name))) (value_code env (e.Whole at (target.Variable node name)))).flow p) q
          same_flow None h =
              subst (λ (piece : Piece). From (text C) p (followed_by piece (instr.ArgWords (words_of_expr env (e.Whole at (target.Variable node name)))) p) q)
              (sym (place_value (slot_named name.text env.scope) _ _)) h
          same_flow (Some slot) h = h
    by_slot (Some slot) some =
        let seen = some_seen env.scope (plain.slot_named name.text (plain_env env).scope) slot (subst (SameSlot env.scope (plain.slot_named name.text (plain_env env).scope)) some (named_same name.text env.scope)) in
        let code = subst (λ o. From (text C) p ((of_place o (words_of_expr env (e.Whole at (target.Variable node name))) (read_code (env.marks at.id) (found_at env (target.Variable node name)))).flow p) q) some from in
        let words : words_of_expr env (e.Whole at (target.Variable node name)) ≡ words_of_shape ds slot.shape = ap (λ o. words_of_found (found_name env o name.text)) some in
        let ahead : Here D vs rest =
        ahead_skip C env.marks env.scope D vs rest (subst (λ o. Here D vs (ways.Then (unless_whole o (value_ways (plain_env env) (e.Whole at (target.Variable node name)))) rest)) seen.1 a) in
        as_variable n D p q ws fs vs slot (record { name = name.text; named = some }) code.0 code.1 a.fit
        (λ v held got m less. subst (λ count. At C m D q ws (record { value = v; words = count } ∷ fs) vs) words
        (h m (omega (arith, less)) D (later_same C D) v (subst (λ count. HeldFits C.sizes count v) (sym words) held)
        (λ variable. subst (λ o. TakesAs D.knows env.scope vs v (held_event variable o)) (sym seen.1) (slot, seen.2, got)) ahead))

  receiver_sends : (o : Option Found) → ReceiverFits may env o true → may.sends ≡ true
  receiver_sends None h = absurd h
  receiver_sends (Some found) h = h

  receiver_posts : (o : Option Found) → ReceiverFits may env o false → (may.posts ≡ true) × PlaceFits env o × (words_of_found o ≡ 1)
  receiver_posts None h = absurd h
  receiver_posts (Some found) h = h

  -- an object that is not 0
  bound : (n : ℕ) (D : Run C) (p q : ℕ) (ws : List ℤ) (object : ℤ) (fs : List (Flow Held)) (vs : List Held) (line : ℕ) → Is C p (instr.Bound line) → p + 1 ≡ q → Onward C n D q (object ∷ ws) fs vs → At C n D p (object ∷ ws) fs vs
  bound n D p q ws object fs vs line is next h = by_test (int_eq object (pos 0)) refl where
    by_test : (b : Bool) → int_eq object (pos 0) ≡ b → At C n D p (object ∷ ws) fs vs
    by_test true e =
        performs C n D p (object ∷ ws) fs vs (instr.Bound line) (frames.Stops (frames.Traps (record { kind = Unbound; line = line })) (frame C D p (object ∷ ws) fs vs)) is (if_true _ _ e) (λ m less. tt)
    by_test false e =
        performs C n D p (object ∷ ws) fs vs (instr.Bound line) (frames.Goes (frame C D (p + 1) (object ∷ ws) fs vs)) is (if_false _ _ e)
        (λ m less. subst (λ r. At C m D r (object ∷ ws) fs vs) (sym next) (h m less))

  abbrev Arguments : Piece → List Held → List Formal → Ways → Type 0
  Arguments arguments vs formals passed = (k : ℕ) → k ≤ N → (D : Run C) (p q : ℕ) (ws : List ℤ) (fs : List (Flow Held)) → From (text C) p (arguments p) q → ((k : ℕ) → k ≤ q → is_place C.image C.code k ≡ true)
      → (rest : Ways) → Here D vs (ways.Then passed rest) → BehindFlows C env k D q ws fs vs formals rest → At C k D p ws fs vs

  on_target : (id line : ℕ) (target : Target) (class : Class) (m : Member) → MemberIs ds class m → (name : List ℕ) → member_named name class.members ≡ Some m → (count : ℕ) (arguments : Piece) (passed : Ways) → length m.formals ≡ count → (vs : List Held)
      → Arguments arguments vs m.formals passed → (n : ℕ) → n ≤ N → (D : Run C) (p q : ℕ) (ws : List ℤ) (fs : List (Flow Held)) → From (text C) p (target_code (env.marks id) line (found_at env target) (Some class) name count arguments p) q
      → ((k : ℕ) → k ≤ q → is_place C.image C.code k ≡ true) → ReceiverFits may env (found_at env target) class.is_regular → (rest : Ways) → Here D vs (ways.Then (ways.Then (receives id (plain.found_at around target) (Some class)) passed) rest)
      → ((k : ℕ) → k ≤ n → (E : Run C) → Later C D E → (v : Held) → HeldFits C.sizes (words_of_result ds m.result) v → Here E vs rest → At C k E q ws (record { value = v; words = words_of_result ds m.result } ∷ fs) vs) → At C n D p ws fs vs
  on_target id line target class m is name named count arguments passed many vs follow n few D p q ws fs from up receiver rest a h = by_kind class.is_regular refl from receiver a where
    by_kind : (b : Bool) → class.is_regular ≡ b
        → From (text C) p ((if b then send_code (member_named name class.members) count arguments else joined (followed_by (read_code (env.marks id) (found_at env target)) (instr.Bound line)) (post_code (member_named name class.members) count arguments)) p) q
        → ReceiverFits may env (found_at env target) b → Here D vs (ways.Then (ways.Then (if b then ways.NoEvent else uses id (plain.found_at around target)) passed) rest) → At C n D p ws fs vs
    by_kind true regular from receiver a =
        let code = subst (λ o. From (text C) p (send_code o count arguments p) q) named from in
        let parts = from_followed (text C) arguments (instr.Send m.id count) p q code in
        follow n few D p parts.middle ws fs parts.first (upto_before C may env scoped allowed N below q parts.middle parts.within up) rest
        (ahead_skip C env.marks env.scope D vs (ways.Then passed rest) (ahead_in_turn C env.marks env.scope D vs ways.NoEvent passed rest a))
        (λ k le E later flows for ahead.
        sends k E parts.middle q ws fs flows vs class m is regular (receiver_sends (found_at env target) receiver) count many parts.is parts.next for
        (λ j less F after v held. h j (omega (arith, le, less)) F (later_then C D E F later after) v held (ahead_later C env.marks env.scope E F vs rest after ahead)))
    by_kind false regular from receiver a =
        let may_it = receiver_posts (found_at env target) receiver in
        let code = subst (λ o. From (text C) p (joined (followed_by (read_code (env.marks id) (found_at env target)) (instr.Bound line)) (post_code o count arguments) p) q) named from in
        let parts = from_joined (text C) (followed_by (read_code (env.marks id) (found_at env target)) (instr.Bound line)) (followed_by arguments (instr.Post m.id count)) p q code in
        let first = from_followed (text C) (read_code (env.marks id) (found_at env target)) (instr.Bound line) p parts.middle parts.first in
        let last = from_followed (text C) arguments (instr.Post m.id count) parts.middle q parts.second in
        reads_place C may env scoped allowed N below n D id target (found_at env target) refl p first.middle ws fs vs (ways.Then passed rest) first.first may_it.1
        (ahead_in_turn C env.marks env.scope D vs (uses id (plain.found_at around target)) passed rest a)
        (λ k le E later words long ahead.
        subst (λ (words : List ℤ). At C k E first.middle (pushed words ws) fs vs) (sym (one_word words (long ∙ may_it.2)))
        (bound k E first.middle parts.middle ws (first_word words) fs vs line first.is first.next
        (λ j less.
        follow j (omega (arith, le, less, few)) E parts.middle last.middle (first_word words ∷ ws) fs last.first (upto_before C may env scoped allowed N below q last.middle last.within up) rest ahead
        (λ i under F after flows for ahead.
        posts i F last.middle q ws (first_word words) fs flows vs class m is regular may_it.0 count many last.is last.next for
        (λ b above G further v held. h b (omega (arith, le, less, under, above)) G (later_then C D F G (later_then C D E F later after) further) v held (ahead_later C env.marks env.scope F G vs rest further ahead))))))

  mutual
    pub flow_follows : (t : Expr) → FlowFollows t
    flow_follows (e.Number at z) n few D p q ws fs vs from up fits rest a h = as_words (e.Number at z) (λ variable. refl) refl n few D p q ws fs vs 1 refl from up fits rest a h
    flow_follows (e.Truth at b) n few D p q ws fs vs from up fits rest a h = as_words (e.Truth at b) (λ variable. refl) refl n few D p q ws fs vs 1 refl from up fits rest a h
    flow_follows (e.Own at) n few D p q ws fs vs from up fits rest a h = as_words (e.Own at) (λ variable. refl) refl n few D p q ws fs vs 1 refl from up fits rest a h
    flow_follows (e.Input at) n few D p q ws fs vs from up fits rest a h = as_words (e.Input at) (λ variable. refl) refl n few D p q ws fs vs 1 refl from up fits rest a h
    flow_follows (e.Whole at target) n few D p q ws fs vs from up fits rest a h = whole_flow at target n few D p q ws fs vs from up fits rest a h
    flow_follows (e.Element at line target index) n few D p q ws fs vs from up fits rest a h = as_words (e.Element at line target index) (λ variable. refl) refl n few D p q ws fs vs 1 refl from up fits rest a h
    flow_follows (e.PlainCall at function arguments) n few D p q ws fs vs from up fits rest a h = as_words (e.PlainCall at function arguments) (λ variable. refl) refl n few D p q ws fs vs _ refl from up fits rest a h
    flow_follows (e.Parenthesized at t) n few D p q ws fs vs from up fits rest a h = as_words (e.Parenthesized at t) (λ variable. refl) refl n few D p q ws fs vs _ refl from up fits rest a h
    flow_follows (e.Unary at line operator operand) n few D p q ws fs vs from up fits rest a h = as_words (e.Unary at line operator operand) (λ variable. refl) refl n few D p q ws fs vs 1 refl from up fits rest a h
    flow_follows (e.Binary at line operator left right) n few D p q ws fs vs from up fits rest a h = as_words (e.Binary at line operator left right) (λ variable. refl) refl n few D p q ws fs vs 1 refl from up fits rest a h
    flow_follows (e.CallOnOwn at member arguments) n few D p q ws fs vs from up fits rest a h =
        let m = fits.1 in
        let count = length (codes_of_each env arguments) in
        let code = subst (λ o. From (text C) p (own_code o count (flows_code (codes_of_each env arguments)) p) q) fits.4 from in
        let parts = from_joined (text C) (one instr.Own) (followed_by (flows_code (codes_of_each env arguments)) (instr.Post m.id count)) p q code in
        let last = from_followed (text C) (flows_code (codes_of_each env arguments)) (instr.Post m.id count) parts.middle q parts.second in
        let words : words_of_expr env (e.CallOnOwn at member arguments) ≡ words_of_result ds m.result = ap (words_of_member ds) fits.4 in
        let next : p + 1 ≡ parts.middle = parts.first.1 in
        performs C n D p ws fs vs instr.Own (frames.Goes (frame C D (p + 1) (C.object ∷ ws) fs vs)) parts.first.0 (true_is (has_object C.image C.code) _ (allowed.own fits.5))
        (λ k less.
        subst (λ r. At C k D r (C.object ∷ ws) fs vs) (sym next)
        (flows_follow arguments m.formals k (omega (arith, less, few)) D parts.middle last.middle (C.object ∷ ws) fs vs last.first (upto_before C may env scoped allowed N below q last.middle last.within up) fits.7 rest a
        (λ j le E later flows for ahead.
        posts j E last.middle q ws C.object fs flows vs fits.0 m fits.2 fits.3 fits.6 count (count_of m.formals arguments fits.7) last.is last.next for
        (subst (ThenFlow C j E q ws fs vs) words
        (λ i under F after v held. h i (omega (arith, less, le, under)) F (later_then C D E F later after) v held (λ variable. tt) (ahead_later C env.marks env.scope E F vs rest after ahead))))))
    flow_follows (e.CallOnTarget at target member arguments) n few D p q ws fs vs from up fits rest a h =
        let class = fits.0 in
        let m = fits.1 in
        let count = length (codes_of_each env arguments) in
        let words : words_of_expr env (e.CallOnTarget at target member arguments) ≡ words_of_result ds m.result = ap (λ o. words_of_member ds (member_in o member.text)) fits.3 ∙ ap (words_of_member ds) fits.4 in
        let seen : plain.class_found around (plain.found_at around target) ≡ Some class = class_same env (plain.found_at around target) (found_at env target) (found_same env target) ∙ fits.3 in
        on_target at.id at.line target class m fits.2 member.text fits.4 count (flows_code (codes_of_each env arguments)) (flows_ways around arguments) (count_of m.formals arguments fits.6) vs
        (λ k few D p q ws fs from up rest a h. flows_follow arguments m.formals k few D p q ws fs vs from up fits.6 rest a h)
        n few D p q ws fs
        (subst (λ o. From (text C) p (target_code (env.marks at.id) at.line (found_at env target) o member.text count (flows_code (codes_of_each env arguments)) p) q) fits.3 from)
        up fits.5 rest (subst (λ o. Here D vs (ways.Then (ways.Then (receives at.id (plain.found_at around target) o) (flows_ways around arguments)) rest)) seen a)
        (λ k le E later v held ahead. subst (λ count. At C k E q ws (record { value = v; words = count } ∷ fs) vs) words (h k le E later v (subst (λ count. HeldFits C.sizes count v) (sym words) held) (λ variable. tt) ahead))

    pub flows_follow : (ts : Exprs) (formals : List Formal) (n : ℕ) → n ≤ N → (D : Run C) (p q : ℕ) (ws : List ℤ) (fs : List (Flow Held)) (vs : List Held) → From (text C) p (flows_code (codes_of_each env ts) p) q
        → ((k : ℕ) → k ≤ q → is_place C.image C.code k ≡ true) → FlowsFit may env formals ts → (rest : Ways) → Here D vs (ways.Then (flows_ways around ts) rest) → BehindFlows C env n D q ws fs vs formals rest → At C n D p ws fs vs
    flows_follow e.NoExpr [] n few D p q ws fs vs from up fits rest a h = moved C may env scoped allowed N below n D ws fs vs from (h n (omega arith) D (later_same C D) [] tt (ahead_skip C env.marks env.scope D vs rest a))
    flows_follow e.NoExpr (formal ∷ formals) n few D p q ws fs vs from up fits rest a h = absurd fits
    flows_follow (e.MoreExprs t ts) [] n few D p q ws fs vs from up fits rest a h = absurd fits
    flows_follow (e.MoreExprs t ts) (formal ∷ formals) n few D p q ws fs vs from up fits rest a h =
        let parts = from_joined (text C) (flow_code env t) (flows_code (codes_of_each env ts)) p q from in
        flow_follows t n few D p parts.middle ws fs vs parts.first (upto_before C may env scoped allowed N below q parts.middle parts.within up) fits.0 (ways.Then (flows_ways around ts) rest)
        (ahead_in_turn C env.marks env.scope D vs (flow_ways around t) (flows_ways around ts) rest a)
        (λ m le E later v held takes ahead.
        flows_follow ts formals m (omega (arith, le, few)) E parts.middle q ws (record { value = v; words = words_of_expr env t } ∷ fs) vs parts.second up fits.2 rest ahead
        (λ j less F after flows for ahead.
        subst (λ all. At C j F q ws all vs) (sym (pushed_both (record { value = v; words = words_of_expr env t } ∷ []) flows fs))
        (h j (omega (arith, le, less)) F (later_then C D E F later after) (record { value = v; words = words_of_expr env t } ∷ flows) (fits.1, held, for) ahead)))
