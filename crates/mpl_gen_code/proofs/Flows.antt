-- The code of a flow does what the flow means.
use Rattle.std.proofs.Common.{◌≡◌, ◌≤◌, ℕ, suc, ◌+◌, Bool, true, false, List, [], ◌∷◌, length, Option, Some, None, if◌then◌else◌, ℤ, pos, refl, ap, sym, subst, ◌∙◌}
use Rattle.std.specs.FinMap.{get}
use Rattle.std.specs.List.{slice_get}
use Rattle.std.specs.Option.{option_map}
use Rattle.std.specs.Ordering.{int_eq}
use Rattle.mpl_ast.specs.declared.class.Formal.{Formal}
use Rattle.mpl_ast.specs.declared.expression.Target.{Target}
use Rattle.mpl_ast.specs.declared.expression.Target.TheVariants as target
use Rattle.mpl_ast.specs.declared.program.Declaration.{Declaration}
use Rattle.mpl_value.specs.CallAnswers.{arg_of_reply}
use Rattle.mpl_value.specs.declared.body.Arg.{Arg}
use Rattle.mpl_value.specs.declared.body.Arg.TheVariants as arg
use Rattle.mpl_value.specs.declared.known.TrapKind.TheVariants.{Unbound}
use Rattle.mpl_mean.specs.Laws.Sizes.{ArgumentsFit, words_of_result}
use Rattle.mpl_mean.specs.Meaning.CallMeaning.{bound, class_of_location, name_of_target, whole_variable}
use Rattle.mpl_mean.specs.Meaning.Context.{Callees, Context}
use Rattle.mpl_mean.specs.Meaning.Layout.{Class, Function, Member, class_named, classes_of, member_named}
use Rattle.mpl_mean.specs.Meaning.PlaceMeaning.{location_of}
use Rattle.mpl_mean.specs.Meaning.Store.{Store, Outcome, Goes, Returns, Ends, pure, trap, variable_named}
use Rattle.mpl_mean.specs.Meaning.Values.{Value, first_word}
use Rattle.mpl_mean.specs.Plain.Expr.{Expr, Exprs}
use Rattle.mpl_mean.specs.Plain.Expr as e
use Rattle.mdf_code.specs.Frames.{Flow}
use Rattle.mdf_code.specs.Parts.{text_at}
use Rattle.mdf_code.specs.Sizes.{ArgFits}
use Rattle.mdf_code.specs.Stacks.{pushed}
use Rattle.mdf_code.specs.declared.instr.Instr.{Instr}
use Rattle.mdf_code.specs.declared.raw.RawClass.{RawClass}
use Rattle.mdf_code.specs.declared.instr.Instr.TheVariants as instr
use Rattle.mpl_checked.specs.Checked.CheckedExpressions.{checked_call_on, checked_flows, checked_held, checked_passes, checked_persistent, checked_read, checked_regular, checked_value, checked_words}
use Rattle.mpl_checked.specs.Checked.CheckedSteps.{Checked, CheckedCallees, CheckedStep, Checking, Meant, Astray, checked_all, goes_on, meant, ◌>?>◌}
use Rattle.mpl_gen_code.specs.ExpressionCode.{codes_of_each, flow_code, flows_code, of_place, own_code, post_code, read_code, send_code, target_code, value_code}
use Rattle.mpl_gen_code.specs.Fits.{ExprFits, FlowFits, FlowsFit, May, MemberIs, ReceiverFits}
use Rattle.mpl_gen_code.specs.Pieces.{followed_by, joined, one}
use Rattle.mpl_gen_code.specs.Scopes.{Env, Found, Slot, class_found, found_at, found_name, whole_slot, words_of_shape}
use Rattle.mpl_gen_code.specs.Words.{is_bool_expr, is_bool_found, member_in, words_of_expr, words_of_found, words_of_member}
use Rattle.mpl_gen_code.proofs.Adding.{Adds, adds_all, adds_flows, adds_made, adds_none, adds_call, adds_then}
use Rattle.mpl_gen_code.proofs.Below.{Below}
use Rattle.mpl_gen_code.proofs.Calling.{MemberStands, flows_for}
use Rattle.mpl_gen_code.proofs.Expressions.{expr_follows}
use Rattle.mpl_gen_code.proofs.Instructions.{At, Is, argues_variable, argues_words, goes, own, traps}
use Rattle.mpl_gen_code.proofs.Members.{ItemAt, Meets, post_follows, send_follows}
use Rattle.mpl_gen_code.proofs.Operators.{reads_place, zero_or_not}
use Rattle.mpl_gen_code.proofs.Places.{Known, Upto, ValueAt, from_followed, from_joined, known_at, moved, of_stands, one_word, read_follows, upto_before}
use Rattle.mpl_gen_code.proofs.Popping.{if_false, if_true, pushed_both}
use Rattle.mpl_gen_code.proofs.Reaching.{Comes, From, Keeping, Run, comes_on}
use Rattle.mpl_gen_code.proofs.Scoped.{Allowed, IsSlot, Scoped, Stands, context_of, held, held_there, located, location_at, named, size_here, variable_of}

-- ---- one after another, with what is promised

pub meets_map : {A B : Type 0} (K : Run) (ds : List Declaration) (Q : B → Store → Type 0) (P : A → Store → Type 0) (o : Checked (Outcome A)) (h : A → CheckedStep B)
    → ((a : A) (s : Store) → Meets K ds Q (h a s) → P a s) → Meets K ds Q (goes_on o h) → Comes K P o
meets_map K ds Q P (Meant (Goes a s)) h f m = f a s m
meets_map K ds Q P (Meant (Returns words s)) h f m = m.1
meets_map K ds Q P (Meant (Ends x s)) h f m = m.1
meets_map K ds Q P Astray h f m = m.1

-- where the rest only adds calls
pub meets_on : {A B : Type 0} (K : Run) (ds : List Declaration) (Q : B → Store → Type 0) (P : A → Store → Type 0) (o : Checked (Outcome A)) (h : A → CheckedStep B)
    → ((a : A) → Adds ds K.whole.vowed (h a)) → ((a : A) (s : Store) → Meets K ds Q (h a s) → P a s) → Meets K ds Q (goes_on o h) → Meets K ds P o
meets_on K ds Q P (Meant (Goes a s)) h adds f m = ((adds a).back s m.0, f a s m)
meets_on K ds Q P (Meant (Returns words s)) h adds f m = m
meets_on K ds Q P (Meant (Ends x s)) h adds f m = m
meets_on K ds Q P Astray h adds f m = m

-- what is known of the image
pub record Surrounded (K : Run) (ds : List Declaration) (marks : ℕ → Bool) : Type 0 where
  pub members : (class : Class) (m : Member) → MemberIs ds class m → MemberStands K.whole.setting.image ds marks class m
  pub classes : (name : List ℕ) (class : Class) → class_named name (classes_of ds) ≡ Some class
      → (raw : RawClass) × (slice_get K.whole.setting.image.classes class.number ≡ Some raw) × (raw.regular ≡ class.is_regular)
  pub in_place : K.whole.setting.answers ≡ None

module _ (K : Run) (may : May) (env : Env) (inner : Callees) (callees : CheckedCallees) (base : ℕ) (below : Below K.whole env.declarations callees base) (above : base ≤ K.low)
    (allowed : Allowed K may env.parts) (scoped : Scoped K env) (around : Surrounded K env.declarations env.marks)
    (plain : (f : Function) (arguments : List (List ℤ)) → Adds env.declarations K.whole.vowed (callees.plain f arguments))
    (regular : (m : Member) (arguments : List (List ℤ)) → Adds env.declarations K.whole.vowed (callees.regular m arguments)) (vs : List Arg) where
  abbrev c : Context
  c = context_of K inner env

  abbrev chk : Checking
  chk = record { marks = env.marks; callees = callees }

  abbrev text : List Instr
  text = text_at K.whole.setting.image K.here.code

  abbrev S : Keeping → Store → Type 0
  S keeping s = Stands K keeping env vs s

  abbrev I : Keeping → ℕ → List ℤ → List (Flow Arg) → ℕ → Arg → Store → Type 0
  I keeping = ItemAt K keeping env vs

  abbrev V : Keeping → ℕ → List ℤ → List (Flow Arg) → ℕ → Bool → Value → Store → Type 0
  V keeping = ValueAt K keeping env vs

  abbrev M : {A : Type 0} → (A → Store → Type 0) → Checked (Outcome A) → Type 0
  M Q o = Meets K env.declarations Q o

  -- the flow values are on top, one after another
  abbrev pub FlowsAt : Keeping → ℕ → List ℤ → List (Flow Arg) → List Formal → List Arg → Store → Type 0
  FlowsAt keeping q ws fs formals args s = S keeping s → ArgumentsFit env.declarations formals args → At K q ws (pushed (flows_for env.declarations formals args) fs) vs s

  -- ---- an expression that is evaluated

  value_passes : (t : Expr) → ExprFits may env t → (keeping : Keeping) (p q : ℕ) (ws : List ℤ) (fs : List (Flow Arg)) (s : Store)
      → From text p (followed_by (value_code env t) (instr.ArgWords (words_of_expr env t)) p) q → Upto K keeping env vs q → S keeping s
      → M (I keeping q ws fs (words_of_expr env t)) (checked_held None (checked_value chk t c) s) → At K p ws fs vs s
  value_passes t fits keeping p q ws fs s from inside stands m =
      let parts = from_followed text (value_code env t) (instr.ArgWords (words_of_expr env t)) p q from in
      expr_follows K may env inner callees base below above allowed scoped vs t keeping p parts.middle ws fs s parts.first (upto_before K keeping env vs q parts.middle parts.within inside) fits stands
      (comes_on K (I keeping q ws fs (words_of_expr env t)) (V keeping parts.middle ws fs (words_of_expr env t) (is_bool_expr env t)) (checked_value chk t c s) _
      (λ v s1 d stands1 long bool.
      argues_words K parts.middle ws fs vs s1 (words_of_expr env t) v.words long parts.is
      (moved K keeping env vs ws (record { value = arg.Know v.words; words = words_of_expr env t } ∷ fs) s1 parts.next (d stands1 long)))
      m.1)

  -- ---- a whole variable

  -- a name that is a whole variable stands for all its words
  pub whole_words : (t : Target) (slot : Slot) → whole_slot env (name_of_target t) ≡ Some slot → words_of_found (found_at env t) ≡ words_of_shape env.declarations slot.shape
  whole_words (target.Variable at variable) slot is = ap (λ (o : Option Slot). words_of_found (found_name env o variable.text)) is
  whole_words (target.Field at variable field) slot is = absurd cc

  pub whole_named : (t : Target) (slot : Slot) → whole_slot env (name_of_target t) ≡ Some slot → IsSlot env.scope slot
  whole_named (target.Variable at variable) slot is = record { name = variable.text; named = is }
  whole_named (target.Field at variable field) slot is = absurd cc

  pub whole_held : (t : Target) (keeping : Keeping) (s : Store) → S keeping s → whole_variable (name_of_target t) s.variables ≡ option_map (variable_of vs) (whole_slot env (name_of_target t))
  whole_held (target.Variable at variable) keeping s stands = ap (variable_named variable.text) stands.agree ∙ named variable.text env.scope vs
  whole_held (target.Field at variable field) keeping s stands = refl

  place_passes : (at : Rattle.mpl_ast.specs.declared.place.At.At) (t : Target) (slot : Option Slot) → whole_slot env (name_of_target t) ≡ slot → ExprFits may env (e.Whole at t)
      → (keeping : Keeping) (p q : ℕ) (ws : List ℤ) (fs : List (Flow Arg)) (s : Store)
      → From text p ((of_place slot (words_of_found (found_at env t)) (read_code (env.marks at.id) (found_at env t))).flow p) q → Upto K keeping env vs q → S keeping s
      → M (I keeping q ws fs (words_of_found (found_at env t))) (checked_held (option_map (variable_of vs) slot) (checked_read chk at.id c t) s) → At K p ws fs vs s
  place_passes at t None is fits keeping p q ws fs s from inside stands m =
      let parts = from_followed text (read_code (env.marks at.id) (found_at env t)) (instr.ArgWords (words_of_found (found_at env t))) p q from in
      reads_place K may env inner callees base below above allowed scoped vs keeping at.id t p parts.middle ws fs s parts.first fits stands
      (comes_on K (I keeping q ws fs (words_of_found (found_at env t))) (V keeping parts.middle ws fs (words_of_found (found_at env t)) (is_bool_found (found_at env t))) (checked_read chk at.id c t s) _
      (λ v s1 d stands1 long bool.
      argues_words K parts.middle ws fs vs s1 (words_of_found (found_at env t)) v.words long parts.is
      (moved K keeping env vs ws (record { value = arg.Know v.words; words = words_of_found (found_at env t) } ∷ fs) s1 parts.next (d stands1 long)))
      m.1)
  place_passes at t (Some slot) is fits keeping p q ws fs s from inside stands m =
      let size = size_here K env scoped slot (whole_named t slot is) in
      let there = held_there _ vs slot.number _ stands.sized size in
      argues_variable K p ws fs vs s slot.number (words_of_shape env.declarations slot.shape) (held slot.number vs) size there.0 from.0
      (moved K keeping env vs ws (record { value = held slot.number vs; words = words_of_shape env.declarations slot.shape } ∷ fs) s from.1
      (subst (λ n. At K q ws (record { value = held slot.number vs; words = n } ∷ fs) vs s) (whole_words t slot is)
      (m.1 stands (subst (λ n. ArgFits n (held slot.number vs)) (sym (whole_words t slot is)) there.1))))

  -- ---- the receiver of a call

  bound_follows : (keeping : Keeping) (p q : ℕ) (ws : List ℤ) (fs : List (Flow Arg)) (s : Store) (line : ℕ) (object : ℤ) → Is K p (instr.Bound line) → p + 1 ≡ q → S keeping s
      → Comes K (λ w t. S keeping t → At K q (w ∷ ws) fs vs t) (Meant (bound line object s)) → At K p (object ∷ ws) fs vs s
  bound_follows keeping p q ws fs s line object is there stands h =
      zero_or_not (At K p (object ∷ ws) fs vs s) (int_eq object (pos 0))
      (λ z. traps K p (object ∷ ws) fs vs s (instr.Bound line) (record { kind = Unbound; line = line }) p (object ∷ ws) fs vs is (if_true _ _ z)
      (subst (λ b. Comes K (λ w t. S keeping t → At K q (w ∷ ws) fs vs t) (Meant ((if b then trap Unbound line else pure object) s))) z h (of_stands K keeping env vs stands _)))
      (λ z. goes K p (object ∷ ws) fs vs s (instr.Bound line) (p + 1) (object ∷ ws) fs vs s is (if_false _ _ z) (λ _. refl)
      (moved K keeping env vs (object ∷ ws) fs s there
      (subst (λ b. Comes K (λ w t. S keeping t → At K q (w ∷ ws) fs vs t) (Meant ((if b then trap Unbound line else pure object) s))) z h stands)))

  count_of : (formals : List Formal) (ts : Exprs) → FlowsFit may env formals ts → length formals ≡ length (codes_of_each env ts)
  count_of [] e.NoExpr fits = refl
  count_of [] (e.MoreExprs t ts) fits = absurd fits
  count_of (formal ∷ formals) e.NoExpr fits = absurd fits
  count_of (formal ∷ formals) (e.MoreExprs t ts) fits = ap suc (count_of formals ts fits.2)

  class_located : (o : Option Found) → class_of_location c (option_map (location_at vs) o) ≡ class_found env o
  class_located None = refl
  class_located (Some found) = refl

  -- ---- the forms

  abbrev F : Expr → Type 0
  F t = (keeping : Keeping) (p q : ℕ) (ws : List ℤ) (fs : List (Flow Arg)) (s : Store) → From text p (flow_code env t p) q → Upto K keeping env vs q → FlowFits may env t → S keeping s
      → M (I keeping q ws fs (words_of_expr env t)) (checked_passes chk t c s) → At K p ws fs vs s

  abbrev Fs : Exprs → Type 0
  Fs ts = (keeping : Keeping) (formals : List Formal) (p q : ℕ) (ws : List ℤ) (fs : List (Flow Arg)) (s : Store)
      → From text p (flows_code (codes_of_each env ts) p) q → Upto K keeping env vs q → FlowsFit may env formals ts → S keeping s
      → M (FlowsAt keeping q ws fs formals) (checked_all (checked_flows chk ts c) s) → At K p ws fs vs s

  -- the arguments and the call on a persistent object, whose word is on top
  posts : (ts : Exprs) → Fs ts → (class : Class) (m : Member) → MemberIs env.declarations class m → class.is_regular ≡ false → may.posts ≡ true
      → (keeping : Keeping) (p q : ℕ) (ws : List ℤ) (fs : List (Flow Arg)) (s : Store) (object : ℤ)
      → From text p (followed_by (flows_code (codes_of_each env ts)) (instr.Post m.id (length (codes_of_each env ts))) p) q → Upto K keeping env vs q → FlowsFit may env m.formals ts → S keeping s
      → M (I keeping q ws fs (words_of_result env.declarations m.result)) (checked_persistent c object m (checked_flows chk ts c) s) → At K p (object ∷ ws) fs vs s
  posts ts on_args class m is persistent posting keeping p q ws fs s object from inside fits stands h =
      let parts = from_followed text (flows_code (codes_of_each env ts)) (instr.Post m.id (length (codes_of_each env ts))) p q from in
      on_args keeping m.formals p parts.middle (object ∷ ws) fs s parts.first (upto_before K keeping env vs q parts.middle parts.within inside) fits stands
      (meets_on K env.declarations (I keeping q ws fs (words_of_result env.declarations m.result)) (FlowsAt keeping parts.middle (object ∷ ws) fs m.formals) (checked_all (checked_flows chk ts c) s) _
      (λ args. adds_call env.declarations K.whole.vowed K.whole.setting.turns object m.id args (λ k. arg_of_reply (get K.whole.table k)))
      (λ args s1 d stands1 fit.
      post_follows K keeping env vs class m is (around.members class m is) persistent (allowed.posts posting).0 (allowed.posts posting).2 around.in_place (allowed.posts posting).3 parts.middle q ws fs s1 object args
      (length (codes_of_each env ts)) (count_of m.formals ts fits) fit parts.is parts.next stands1 d)
      h)

  sends : (ts : Exprs) → Fs ts → (class : Class) (m : Member) → MemberIs env.declarations class m → class.is_regular ≡ true → may.sends ≡ true
      → (keeping : Keeping) (p q : ℕ) (ws : List ℤ) (fs : List (Flow Arg)) (s : Store)
      → From text p (followed_by (flows_code (codes_of_each env ts)) (instr.Send m.id (length (codes_of_each env ts))) p) q → Upto K keeping env vs q → FlowsFit may env m.formals ts → S keeping s
      → M (I keeping q ws fs (words_of_result env.declarations m.result)) (checked_regular chk c m (checked_flows chk ts c) s) → At K p ws fs vs s
  sends ts on_args class m is is_regular sending keeping p q ws fs s from inside fits stands h =
      let parts = from_followed text (flows_code (codes_of_each env ts)) (instr.Send m.id (length (codes_of_each env ts))) p q from in
      on_args keeping m.formals p parts.middle ws fs s parts.first (upto_before K keeping env vs q parts.middle parts.within inside) fits stands
      (meets_on K env.declarations (I keeping q ws fs (words_of_result env.declarations m.result)) (FlowsAt keeping parts.middle ws fs m.formals) (checked_all (checked_flows chk ts c) s) _
      (λ args. adds_made env.declarations K.whole.vowed chk c plain regular m args)
      (λ args s1 d stands1 fit.
      send_follows K keeping env vs callees base below above class m is (around.members class m is) is_regular (allowed.sends sending) around.in_place parts.middle q ws fs s1 args
      (length (codes_of_each env ts)) (count_of m.formals ts fits) fit parts.is parts.next stands1 d.1)
      h)

  -- by whether the class of the receiver is regular
  on_target : (ts : Exprs) → Fs ts → (class : Class) (m : Member) → MemberIs env.declarations class m → (b : Bool) → class.is_regular ≡ b
      → (node line : ℕ) (o : Option Found) → Known K env o → ReceiverFits may env o b
      → (keeping : Keeping) (p q : ℕ) (ws : List ℤ) (fs : List (Flow Arg)) (s : Store)
      → From text p ((if b then send_code (Some m) (length (codes_of_each env ts)) (flows_code (codes_of_each env ts))
      else joined (followed_by (read_code (env.marks node) o) (instr.Bound line)) (post_code (Some m) (length (codes_of_each env ts)) (flows_code (codes_of_each env ts)))) p) q
      → Upto K keeping env vs q → FlowsFit may env m.formals ts → S keeping s
      → M (I keeping q ws fs (words_of_result env.declarations m.result))
      ((if b then checked_regular chk c m (checked_flows chk ts c)
      else (checked_words chk node (option_map (location_at vs) o) >?> (λ value. meant (bound line (first_word value.words)) >?> (λ object. checked_persistent c object m (checked_flows chk ts c))))) s)
      → At K p ws fs vs s
  on_target ts on_args class m is true kind node line None known receiver keeping p q ws fs s from inside fits stands h = absurd receiver
  on_target ts on_args class m is true kind node line (Some found) known receiver keeping p q ws fs s from inside fits stands h =
      sends ts on_args class m is kind receiver keeping p q ws fs s from inside fits stands h
  on_target ts on_args class m is false kind node line None known receiver keeping p q ws fs s from inside fits stands h = absurd receiver
  on_target ts on_args class m is false kind node line (Some found) known receiver keeping p q ws fs s from inside fits stands h =
      let whole = from_joined text (followed_by (read_code (env.marks node) (Some found)) (instr.Bound line)) (followed_by (flows_code (codes_of_each env ts)) (instr.Post m.id (length (codes_of_each env ts)))) p q from in
      let front = from_followed text (read_code (env.marks node) (Some found)) (instr.Bound line) p whole.middle whole.first in
      read_follows K keeping env vs chk node (Some found) p front.middle ws fs s front.first scoped known receiver.1 stands
      (meets_map K env.declarations (I keeping q ws fs (words_of_result env.declarations m.result)) (V keeping front.middle ws fs found.words (is_bool_found (Some found)))
      (checked_words chk node (Some (location_at vs found)) s) _
      (λ value s1 d stands1 long bool.
      subst (λ (words : List ℤ). At K front.middle (pushed words ws) fs vs s1) (sym (one_word value.words (long ∙ receiver.2)))
      (bound_follows keeping front.middle whole.middle ws fs s1 line (first_word value.words) front.is front.next stands1
      (meets_map K env.declarations (I keeping q ws fs (words_of_result env.declarations m.result)) (λ w t. S keeping t → At K whole.middle (w ∷ ws) fs vs t) (Meant (bound line (first_word value.words) s1)) _
      (λ object s2 d2 stands2. posts ts on_args class m is kind receiver.0 keeping whole.middle q ws fs s2 object whole.second inside fits stands2 d2) d)))
      h)

  own_follows : (member : Rattle.mpl_ast.specs.declared.place.Name.Name) (ts : Exprs) → Fs ts → (at : Rattle.mpl_ast.specs.declared.place.At.At) → F (e.CallOnOwn at member ts)
  own_follows member ts on_args at keeping p q ws fs s from inside fits stands h =
      let m = fits.1 in
      let object = allowed.own fits.5 in
      let named = fits.4 in
      let code : From text p (own_code (Some m) (length (codes_of_each env ts)) (flows_code (codes_of_each env ts)) p) q =
      subst (λ (o : Option Member). From text p (own_code o (length (codes_of_each env ts)) (flows_code (codes_of_each env ts)) p) q) named from in
      let whole = from_joined text (one instr.Own) (followed_by (flows_code (codes_of_each env ts)) (instr.Post m.id (length (codes_of_each env ts)))) p q code in
      own K p ws fs vs s object.0 whole.first.0
      (moved K keeping env vs (K.whole.setting.object ∷ ws) fs s whole.first.1
      (subst (λ (word : ℤ). At K whole.middle (word ∷ ws) fs vs s) object.1
      (posts ts on_args fits.0 m fits.2 fits.3 fits.6 keeping whole.middle q ws fs s K.here.object whole.second inside fits.7 stands
      (subst (λ n. M (I keeping q ws fs n) (checked_persistent c K.here.object m (checked_flows chk ts c) s)) (ap (words_of_member env.declarations) named)
      (subst (λ (o : Option Member). M (I keeping q ws fs (words_of_member env.declarations (member_named member.text env.members)))
      (Rattle.mpl_checked.specs.Checked.CheckedExpressions.checked_of_member o (λ m. checked_persistent c c.object m (checked_flows chk ts c)) s)) named h)))))

  target_follows : (t : Target) (member : Rattle.mpl_ast.specs.declared.place.Name.Name) (ts : Exprs) → Fs ts → (at : Rattle.mpl_ast.specs.declared.place.At.At) → F (e.CallOnTarget at t member ts)
  target_follows t member ts on_args at keeping p q ws fs s from inside fits stands h =
      let class = fits.0 in
      let m = fits.1 in
      let o = found_at env t in
      let code : From text p ((if class.is_regular then send_code (Some m) (length (codes_of_each env ts)) (flows_code (codes_of_each env ts))
      else joined (followed_by (read_code (env.marks at.id) o) (instr.Bound at.line)) (post_code (Some m) (length (codes_of_each env ts)) (flows_code (codes_of_each env ts)))) p) q =
      subst (λ (found : Option Member). From text p ((if class.is_regular then send_code found (length (codes_of_each env ts)) (flows_code (codes_of_each env ts))
      else joined (followed_by (read_code (env.marks at.id) o) (instr.Bound at.line)) (post_code found (length (codes_of_each env ts)) (flows_code (codes_of_each env ts)))) p) q) fits.4
      (subst (λ (found : Option Class). From text p (target_code (env.marks at.id) at.line o found member.text (length (codes_of_each env ts)) (flows_code (codes_of_each env ts)) p) q) fits.3 from) in
      let words : words_of_expr env (e.CallOnTarget at t member ts) ≡ words_of_result env.declarations m.result =
      ap (λ (found : Option Class). words_of_member env.declarations (member_in found member.text)) fits.3 ∙ ap (words_of_member env.declarations) fits.4 in
      let Q = I keeping q ws fs (words_of_result env.declarations m.result) in
      let located_h : M Q (checked_call_on chk c at.id at.line (option_map (location_at vs) o) (class_of_location c (option_map (location_at vs) o)) member.text (checked_flows chk ts c) s) =
      subst (λ l. M Q (checked_call_on chk c at.id at.line l (class_of_location c l) member.text (checked_flows chk ts c) s)) (located K keeping inner env vs s t stands)
      (subst (λ n. M (I keeping q ws fs n) (checked_call_on chk c at.id at.line (location_of c t s) (class_of_location c (location_of c t s)) member.text (checked_flows chk ts c) s)) words h) in
      let class_h = subst (λ (found : Option Class). M Q (checked_call_on chk c at.id at.line (option_map (location_at vs) o) found member.text (checked_flows chk ts c) s)) (class_located o ∙ fits.3) located_h in
      let member_h : M Q ((if class.is_regular then checked_regular chk c m (checked_flows chk ts c)
      else (checked_words chk at.id (option_map (location_at vs) o) >?> (λ value. meant (bound at.line (first_word value.words)) >?> (λ object. checked_persistent c object m (checked_flows chk ts c))))) s) =
      subst (λ (found : Option Member). M Q ((if class.is_regular then Rattle.mpl_checked.specs.Checked.CheckedExpressions.checked_of_member found (λ m. checked_regular chk c m (checked_flows chk ts c))
      else (checked_words chk at.id (option_map (location_at vs) o) >?> (λ value. meant (bound at.line (first_word value.words)) >?> (λ object.
      Rattle.mpl_checked.specs.Checked.CheckedExpressions.checked_of_member found (λ m. checked_persistent c object m (checked_flows chk ts c)))))) s)) fits.4 class_h in
      on_target ts on_args class m fits.2 class.is_regular refl at.id at.line o (known_at K may env t allowed) fits.5 keeping p q ws fs s code inside fits.6 stands member_h

  -- ---- all flows

  mutual
    pub flow_follows : (t : Expr) → F t
    flow_follows (e.CallOnOwn at member ts) keeping p q ws fs s from inside fits stands h = own_follows member ts (flows_follow ts) at keeping p q ws fs s from inside fits stands h
    flow_follows (e.CallOnTarget at t member ts) keeping p q ws fs s from inside fits stands h = target_follows t member ts (flows_follow ts) at keeping p q ws fs s from inside fits stands h
    flow_follows (e.Number at z) keeping p q ws fs s from inside fits stands h = value_passes (e.Number at z) fits keeping p q ws fs s from inside stands h
    flow_follows (e.Truth at b) keeping p q ws fs s from inside fits stands h = value_passes (e.Truth at b) fits keeping p q ws fs s from inside stands h
    flow_follows (e.Own at) keeping p q ws fs s from inside fits stands h = value_passes (e.Own at) fits keeping p q ws fs s from inside stands h
    flow_follows (e.Input at) keeping p q ws fs s from inside fits stands h = value_passes (e.Input at) fits keeping p q ws fs s from inside stands h
    flow_follows (e.Whole at t) keeping p q ws fs s from inside fits stands h =
        place_passes at t (whole_slot env (name_of_target t)) refl fits keeping p q ws fs s from inside stands
        (subst (λ v. M (I keeping q ws fs (words_of_found (found_at env t))) (checked_held v (checked_read chk at.id c t) s)) (whole_held t keeping s stands) h)
    flow_follows (e.Element at line t index) keeping p q ws fs s from inside fits stands h = value_passes (e.Element at line t index) fits keeping p q ws fs s from inside stands h
    flow_follows (e.PlainCall at function ts) keeping p q ws fs s from inside fits stands h = value_passes (e.PlainCall at function ts) fits keeping p q ws fs s from inside stands h
    flow_follows (e.Parenthesized at t) keeping p q ws fs s from inside fits stands h = value_passes (e.Parenthesized at t) fits keeping p q ws fs s from inside stands h
    flow_follows (e.Unary at line operator t) keeping p q ws fs s from inside fits stands h = value_passes (e.Unary at line operator t) fits keeping p q ws fs s from inside stands h
    flow_follows (e.Binary at line operator left right) keeping p q ws fs s from inside fits stands h =
        value_passes (e.Binary at line operator left right) fits keeping p q ws fs s from inside stands h

    -- one after another
    pub flows_follow : (ts : Exprs) → Fs ts
    flows_follow e.NoExpr keeping [] p q ws fs s from inside fits stands h = moved K keeping env vs ws fs s from (h.1 stands tt)
    flows_follow e.NoExpr keeping (formal ∷ formals) p q ws fs s from inside fits stands h = absurd fits
    flows_follow (e.MoreExprs t ts) keeping [] p q ws fs s from inside fits stands h = absurd fits
    flows_follow (e.MoreExprs t ts) keeping (formal ∷ formals) p q ws fs s from inside fits stands h =
        let parts = from_joined text (flow_code env t) (flows_code (codes_of_each env ts)) p q from in
        flow_follows t keeping p parts.middle ws fs s parts.first (upto_before K keeping env vs q parts.middle parts.within inside) fits.0 stands
        (meets_on K env.declarations (FlowsAt keeping q ws fs (formal ∷ formals)) (I keeping parts.middle ws fs (words_of_expr env t)) (checked_passes chk t c s) _
        (λ a. adds_then env.declarations K.whole.vowed (adds_all env.declarations K.whole.vowed (checked_flows chk ts c) (adds_flows env.declarations K.whole.vowed chk c plain regular ts))
        (λ values. adds_none env.declarations K.whole.vowed (λ s. refl)))
        (λ a s1 d stands1 fit1.
        flows_follow ts keeping formals parts.middle q ws (record { value = a; words = words_of_expr env t } ∷ fs) s1 parts.second inside fits.2 stands1
        (meets_on K env.declarations (FlowsAt keeping q ws fs (formal ∷ formals)) (FlowsAt keeping q ws (record { value = a; words = words_of_expr env t } ∷ fs) formals) (checked_all (checked_flows chk ts c) s1) _
        (λ values. adds_none env.declarations K.whole.vowed (λ s. refl))
        (λ values s2 d2 stands2 fit2.
        subst (λ (flows : List (Flow Arg)). At K q ws flows vs s2) (first_under a values fits.1)
        (d2.1 stands2 (subst (λ n. ArgFits n a) fits.1 fit1, fit2)))
        d))
        h) where
          -- the first flow value lies below the others
          first_under : {n m : ℕ} (a : Arg) (values : List Arg) → n ≡ m
              → pushed (record { value = a; words = m } ∷ flows_for env.declarations formals values) fs ≡ pushed (flows_for env.declarations formals values) (record { value = a; words = n } ∷ fs)
          first_under a values same =
              sym (pushed_both (with_words a _ ∷ []) (flows_for env.declarations formals values) fs)
              ∙ ap (λ n. pushed (flows_for env.declarations formals values) (with_words a n ∷ fs)) (sym same) where
                with_words : Arg → ℕ → Flow Arg
                with_words a n = record { value = a; words = n }
