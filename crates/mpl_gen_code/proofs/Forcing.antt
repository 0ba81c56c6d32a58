-- The code of a value that is forced where it is passed.
use Rattle.std.proofs.Common.{◌≡◌, ◌≤◌, ℕ, ◌+◌, Bool, List, ◌∷◌, length, Option, Some, None, ℤ, refl, ap, sym, subst, arith, ◌∙◌}
use Rattle.std.proofs.lemmas.List.{take_all}
use Rattle.std.specs.List.{slice_get}
use Rattle.std.specs.Option.{option_map}
use Rattle.mpl_ast.specs.declared.expression.Target.{Target}
use Rattle.mpl_ast.specs.declared.expression.Target.TheVariants as target
use Rattle.mpl_ast.specs.declared.program.Declaration.{Declaration}
use Rattle.mpl_value.specs.Words.{words_at}
use Rattle.mpl_value.specs.declared.body.Arg.{Arg}
use Rattle.mpl_value.specs.declared.body.Arg.TheVariants as arg
use Rattle.mpl_mean.specs.Meaning.CallMeaning.{name_of_target}
use Rattle.mpl_mean.specs.Meaning.Context.{Callees, Context}
use Rattle.mpl_mean.specs.Meaning.Layout.{Function, Member}
use Rattle.mpl_mean.specs.Meaning.Store.{Store, Outcome, Goes, Returns, Ends}
use Rattle.mpl_mean.specs.Plain.Expr.{Expr}
use Rattle.mpl_mean.specs.Plain.Expr as e
use Rattle.mdf_code.specs.Frames.{Flow}
use Rattle.mdf_code.specs.Parts.{text_at}
use Rattle.mdf_code.specs.Sizes.{ArgFits}
use Rattle.mdf_code.specs.Stacks.{pushed}
use Rattle.mdf_code.specs.declared.instr.Instr.{Instr}
use Rattle.mdf_code.specs.declared.instr.Instr.TheVariants as instr
use Rattle.mpl_checked.specs.Checked.CheckedExpressions.{checked_held, checked_passes, checked_read, checked_value}
use Rattle.mpl_checked.specs.Checked.CheckedStatements.{checked_force_passed}
use Rattle.mpl_checked.specs.Checked.CheckedSteps.{Checked, CheckedCallees, CheckedStep, Checking, Meant, Astray, checked_force, goes_on}
use Rattle.mpl_gen_code.specs.ExpressionCode.{flow_code, need_of_slot, read_code, value_code}
use Rattle.mpl_gen_code.specs.Fits.{ExprFits, FlowFits, May}
use Rattle.mpl_gen_code.specs.Pieces.{Piece, followed_by, one, where_marked}
use Rattle.mpl_gen_code.specs.Scopes.{Env, Slot, found_at, found_name, slot_named, whole_slot, words_of_shape}
use Rattle.mpl_gen_code.specs.Words.{words_of_expr, words_of_found}
use Rattle.mpl_gen_code.proofs.Adding.{Adds}
use Rattle.mpl_gen_code.proofs.Below.{Below}
use Rattle.mpl_gen_code.proofs.Effects.{forces_known, forces_trapped, forces_unknown}
use Rattle.mpl_gen_code.proofs.Expressions.{expr_follows, place_value}
use Rattle.mpl_gen_code.proofs.Flows.{Surrounded, flow_follows, meets_map, meets_on, whole_held}
use Rattle.mpl_gen_code.proofs.Instructions.{At, loads}
use Rattle.mpl_gen_code.proofs.Members.{ItemAt, Meets}
use Rattle.mpl_gen_code.proofs.Operators.{reads_place}
use Rattle.mpl_gen_code.proofs.Places.{Upto, from_followed, from_joined, moved, need_follows, of_stands, upto_before}
use Rattle.mpl_gen_code.proofs.Reaching.{Comes, From, Keeping, Run, comes_on}
use Rattle.mpl_gen_code.proofs.Scoped.{Allowed, IsSlot, Scoped, Stands, context_of, held, variable_of}

-- what a value asks for, of which another one is made and then the rest
pub meets_deep : {A B D : Type 0} (K : Run) (ds : List Declaration) (Q : D → Store → Type 0) (o : Checked (Outcome A)) (f : A → CheckedStep B) (h : B → CheckedStep D) → Meets K ds Q (goes_on (goes_on o f) h)
    → Comes K (λ a s. Meets K ds Q (goes_on (f a s) h)) o
meets_deep K ds Q (Meant (Goes a s)) f h m = m
meets_deep K ds Q (Meant (Returns words s)) f h m = m.1
meets_deep K ds Q (Meant (Ends x s)) f h m = m.1
meets_deep K ds Q Astray f h m = m.1

pub comes_pure : {A : Type 0} (K : Run) (Q : A → Store → Type 0) (o : Checked (Outcome A)) → Comes K Q o → Comes K Q (goes_on o (λ a s. Meant (Goes a s)))
comes_pure K Q (Meant (Goes a s)) h = h
comes_pure K Q (Meant (Returns words s)) h = h
comes_pure K Q (Meant (Ends x s)) h = h
comes_pure K Q Astray h = h

-- a variable that is used, with what is promised
pub need_meets : {B : Type 0} (K : Run) (keeping : Keeping) (env : Env) (vs : List Arg) (Q : B → Store → Type 0) (marked : Bool) (slot : Slot) (p m : ℕ) (ws : List ℤ) (fs : List (Flow Arg)) (s : Store) (h : List ℤ → CheckedStep B)
    → From (text_at K.whole.setting.image K.here.code) p (where_marked marked (need_of_slot (Some slot)) p) m → Scoped K env → IsSlot env.scope slot → Stands K keeping env vs s
    → ((words : List ℤ) → slice_get vs slot.number ≡ Some (arg.Know words) → length words ≡ words_of_shape env.declarations slot.shape → Meets K env.declarations Q (h words s) → At K m ws fs vs s)
    → Meets K env.declarations Q (goes_on (checked_force marked (held slot.number vs) s) h) → At K p ws fs vs s
need_meets K keeping env vs Q marked slot p m ws fs s h from scoped is stands next d =
    need_follows K keeping env vs (λ words t. Meets K env.declarations Q (h words t)) marked slot p m ws fs s (λ words t. Meant (Goes words t)) from scoped is stands (λ words got long c. next words got long c)
    (comes_pure K (λ words t. Meets K env.declarations Q (h words t)) (checked_force marked (held slot.number vs) s)
    (meets_map K env.declarations Q (λ words t. Meets K env.declarations Q (h words t)) (checked_force marked (held slot.number vs) s) h (λ words t m. m) d))

module _ (K : Run) (may : May) (env : Env) (inner : Callees) (callees : CheckedCallees) (base : ℕ) (below : Below K.whole env.declarations callees base) (above : base ≤ K.low)
    (allowed : Allowed K may env.parts) (scoped : Scoped K env) (around : Surrounded K env.declarations env.marks)
    (plain : (f : Function) (arguments : List (List ℤ)) → Adds env.declarations K.whole.vowed (callees.plain f arguments))
    (regular : (m : Member) (arguments : List (List ℤ)) → Adds env.declarations K.whole.vowed (callees.regular m arguments)) (vs : List Arg) where
  abbrev c : Context
  c = context_of K inner env

  abbrev chk : Checking
  chk = record { marks = env.marks; callees = callees }

  abbrev text : List Instr
  text = text_at K.whole.setting.image K.here.code

  abbrev S : Keeping → Store → Type 0
  S keeping s = Stands K keeping env vs s

  abbrev M : {A : Type 0} → (A → Store → Type 0) → Checked (Outcome A) → Type 0
  M Q o = Meets K env.declarations Q o

  -- what is left to do with the words of a value on top
  abbrev pub WithWords : {B : Type 0} → (B → Store → Type 0) → Keeping → (words : ℕ) → ℕ → List ℤ → List (Flow Arg) → (List ℤ → CheckedStep B) → Type 0
  WithWords Q keeping count q ws fs rest = (words : List ℤ) (s : Store) → S keeping s → length words ≡ count → M Q (rest words s) → At K q (pushed words ws) fs vs s

  -- what is passed is forced by what comes next
  abbrev pub IsForced : {B : Type 0} → Keeping → Expr → (Arg → CheckedStep B) → (List ℤ → CheckedStep B) → Type 0
  IsForced keeping t forces rest = (a : Arg) (s : Store) → S keeping s → forces a s ≡ goes_on (checked_force_passed chk t a s) rest

  -- an expression that is evaluated
  value_forced : {B : Type 0} (Q : B → Store → Type 0) (t : Expr) (forces : Arg → CheckedStep B) (rest : List ℤ → CheckedStep B) (keeping : Keeping) (p q : ℕ) (ws : List ℤ) (fs : List (Flow Arg)) (s : Store)
      → ExprFits may env t → ((words : List ℤ) (s : Store) → goes_on (checked_force_passed chk t (arg.Know words) s) rest ≡ rest words s) → IsForced keeping t forces rest
      → From text p (value_code env t p) q → Upto K keeping env vs q → S keeping s → WithWords Q keeping (words_of_expr env t) q ws fs rest
      → M Q (goes_on (checked_held None (checked_value chk t c) s) forces) → At K p ws fs vs s
  value_forced Q t forces rest keeping p q ws fs s fits known is from inside stands next m =
      expr_follows K may env inner callees base below above allowed scoped vs t keeping p q ws fs s from inside fits stands
      (Rattle.mpl_gen_code.proofs.Reaching.comes_map K (checked_value chk t c s)
      (λ v s1 d stands1 long bool. next v.words s1 stands1 long (subst (M Q) (is (arg.Know v.words) s1 stands1 ∙ known v.words s1) d))
      (meets_deep K env.declarations Q (checked_value chk t c s) (λ v s. Meant (Goes (arg.Know v.words) s)) forces m))

  -- a call, whose result is forced at once
  call_forced : {B : Type 0} (Q : B → Store → Type 0) (t : Expr) (forces : Arg → CheckedStep B) (rest : List ℤ → CheckedStep B) (keeping : Keeping) (p q : ℕ) (ws : List ℤ) (fs : List (Flow Arg)) (s : Store)
      → FlowFits may env t → ((a : Arg) (s : Store) → checked_force_passed chk t a s ≡ Meant (Rattle.mpl_mean.specs.Meaning.Store.force a s)) → IsForced keeping t forces rest → ((a : Arg) → Adds env.declarations K.whole.vowed (forces a))
      → From text p (followed_by (flow_code env t) instr.Force p) q → Upto K keeping env vs q → S keeping s → WithWords Q keeping (words_of_expr env t) q ws fs rest
      → M Q (goes_on (checked_passes chk t c s) forces) → At K p ws fs vs s
  call_forced Q t forces rest keeping p q ws fs s fits at_once is adds from inside stands next m =
      let parts = from_followed text (flow_code env t) instr.Force p q from in
      flow_follows K may env inner callees base below above allowed scoped around plain regular vs t keeping p parts.middle ws fs s parts.first (upto_before K keeping env vs q parts.middle parts.within inside) fits stands
      (meets_on K env.declarations Q (ItemAt K keeping env vs parts.middle ws fs (words_of_expr env t)) (checked_passes chk t c s) forces adds
      (λ a s1 d stands1 fit. by_arg parts.middle parts.is parts.next a s1 stands1 fit
      (subst (M Q) (is a s1 stands1 ∙ ap (λ (o : Checked (Outcome (List ℤ))). goes_on o rest) (at_once a s1)) d)) m) where
        by_arg : (n : ℕ) → slice_get text n ≡ Some instr.Force → n + 1 ≡ q → (a : Arg) (s1 : Store) → S keeping s1 → ArgFits (words_of_expr env t) a
            → M Q (goes_on (Meant (Rattle.mpl_mean.specs.Meaning.Store.force a s1)) rest) → At K n ws (record { value = a; words = words_of_expr env t } ∷ fs) vs s1
        by_arg n force there (arg.Know words) s1 stands1 fit d = forces_known K n ws fs vs s1 (words_of_expr env t) words force (moved K keeping env vs (pushed words ws) fs s1 there (next words s1 stands1 fit d))
        by_arg n force there (arg.Trapped t1) s1 stands1 fit d = forces_trapped K n ws fs vs s1 (words_of_expr env t) t1 force (d.1 (of_stands K keeping env vs stands1 _))
        by_arg n force there arg.Unknown s1 stands1 fit d = forces_unknown K n ws fs vs s1 (words_of_expr env t) force (d.1 (of_stands K keeping env vs stands1 _))

  -- a place, which is a use where it is a whole variable
  place_forced : {B : Type 0} (Q : B → Store → Type 0) (node : Rattle.mpl_ast.specs.declared.place.At.At) (t : Target) (slot : Option Slot) → whole_slot env (name_of_target t) ≡ slot
      → (forces : Arg → CheckedStep B) (rest : List ℤ → CheckedStep B) (keeping : Keeping) (p q : ℕ) (ws : List ℤ) (fs : List (Flow Arg)) (s : Store)
      → ExprFits may env (e.Whole node t) → IsForced keeping (e.Whole node t) forces rest
      → From text p (read_code (env.marks node.id) (found_at env t) p) q → Upto K keeping env vs q → S keeping s → WithWords Q keeping (words_of_found (found_at env t)) q ws fs rest
      → M Q (goes_on (checked_held (option_map (variable_of vs) slot) (checked_read chk node.id c t) s) forces) → At K p ws fs vs s
  place_forced Q node t None whole forces rest keeping p q ws fs s fits is from inside stands next m =
      reads_place K may env inner callees base below above allowed scoped vs keeping node.id t p q ws fs s from fits stands
      (Rattle.mpl_gen_code.proofs.Reaching.comes_map K (checked_read chk node.id c t s)
      (λ v s1 d stands1 long bool. next v.words s1 stands1 long (subst (M Q) (is (arg.Know v.words) s1 stands1) d))
      (meets_deep K env.declarations Q (checked_read chk node.id c t s) (λ v s. Meant (Goes (arg.Know v.words) s)) forces m))
  place_forced Q node (target.Field at variable field) (Some slot) whole forces rest keeping p q ws fs s fits is from inside stands next m = absurd cc
  place_forced Q node (target.Variable at variable) (Some slot) whole forces rest keeping p q ws fs s fits is from inside stands next m =
      let code : From text p (read_code (env.marks node.id) (found_name env (Some slot) variable.text) p) q =
      subst (λ (o : Option Slot). From text p (read_code (env.marks node.id) (found_name env o variable.text) p) q) whole from in
      let size = words_of_shape env.declarations slot.shape in
      let count : words_of_found (found_name env (slot_named variable.text env.scope) variable.text) ≡ size = ap (λ (o : Option Slot). words_of_found (found_name env o variable.text)) whole in
      let parts = from_joined text (where_marked (env.marks node.id) (need_of_slot (Some slot))) (one (instr.Load slot.number 0 size)) p q code in
      need_meets K keeping env vs Q (env.marks node.id) slot p parts.middle ws fs s rest parts.first scoped (record { name = variable.text; named = whole }) stands
      (λ words got long d.
      let inside_words : 0 + size ≤ length words = omega (arith, long) in
      loads K parts.middle ws fs vs s slot.number 0 size words got inside_words parts.second.0
      (moved K keeping env vs _ fs s parts.second.1
      (subst (λ (all : List ℤ). At K q (pushed all ws) fs vs s) (sym (all_words words size long)) (next words s stands (long ∙ sym count) d))))
      (subst (M Q) (is (held slot.number vs) s stands) m) where
        all_words : (words : List ℤ) (size : ℕ) → length words ≡ size → words_at 0 size words ≡ words
        all_words words size e = take_all size words (omega (arith, e))

  -- ---- the forms

  pub forced_follows : {B : Type 0} (Q : B → Store → Type 0) (t : Expr) (forces : Arg → CheckedStep B) (rest : List ℤ → CheckedStep B) (keeping : Keeping) (p q : ℕ) (ws : List ℤ) (fs : List (Flow Arg)) (s : Store)
      → FlowFits may env t → IsForced keeping t forces rest → ((a : Arg) → Adds env.declarations K.whole.vowed (forces a))
      → From text p (value_code env t p) q → Upto K keeping env vs q → S keeping s → WithWords Q keeping (words_of_expr env t) q ws fs rest
      → M Q (goes_on (checked_passes chk t c s) forces) → At K p ws fs vs s
  forced_follows Q (e.CallOnOwn at member ts) forces rest keeping p q ws fs s fits is adds from inside stands next m =
      call_forced Q (e.CallOnOwn at member ts) forces rest keeping p q ws fs s fits (λ a s. refl) is adds from inside stands next m
  forced_follows Q (e.CallOnTarget at t member ts) forces rest keeping p q ws fs s fits is adds from inside stands next m =
      call_forced Q (e.CallOnTarget at t member ts) forces rest keeping p q ws fs s fits (λ a s. refl) is adds from inside stands next m
  forced_follows Q (e.Whole at t) forces rest keeping p q ws fs s fits is adds from inside stands next m =
      place_forced Q at t (whole_slot env (name_of_target t)) refl forces rest keeping p q ws fs s fits is
      (subst (λ (piece : Piece). From text p (piece p) q) (place_value (whole_slot env (name_of_target t)) (words_of_expr env (e.Whole at t)) (read_code (env.marks at.id) (found_at env t))) from)
      inside stands next
      (subst (λ v. M Q (goes_on (checked_held v (checked_read chk at.id c t) s) forces)) (whole_held K may env inner callees base below above allowed scoped around plain regular vs t keeping s stands) m)
  forced_follows Q (e.Number at z) forces rest keeping p q ws fs s fits is adds from inside stands next m =
      value_forced Q (e.Number at z) forces rest keeping p q ws fs s fits (λ words s. refl) is from inside stands next m
  forced_follows Q (e.Truth at b) forces rest keeping p q ws fs s fits is adds from inside stands next m =
      value_forced Q (e.Truth at b) forces rest keeping p q ws fs s fits (λ words s. refl) is from inside stands next m
  forced_follows Q (e.Own at) forces rest keeping p q ws fs s fits is adds from inside stands next m =
      value_forced Q (e.Own at) forces rest keeping p q ws fs s fits (λ words s. refl) is from inside stands next m
  forced_follows Q (e.Input at) forces rest keeping p q ws fs s fits is adds from inside stands next m =
      value_forced Q (e.Input at) forces rest keeping p q ws fs s fits (λ words s. refl) is from inside stands next m
  forced_follows Q (e.Element at line t index) forces rest keeping p q ws fs s fits is adds from inside stands next m =
      value_forced Q (e.Element at line t index) forces rest keeping p q ws fs s fits (λ words s. refl) is from inside stands next m
  forced_follows Q (e.PlainCall at function ts) forces rest keeping p q ws fs s fits is adds from inside stands next m =
      value_forced Q (e.PlainCall at function ts) forces rest keeping p q ws fs s fits (λ words s. refl) is from inside stands next m
  forced_follows Q (e.Parenthesized at t) forces rest keeping p q ws fs s fits is adds from inside stands next m =
      value_forced Q (e.Parenthesized at t) forces rest keeping p q ws fs s fits (λ words s. refl) is from inside stands next m
  forced_follows Q (e.Unary at line operator t) forces rest keeping p q ws fs s fits is adds from inside stands next m =
      value_forced Q (e.Unary at line operator t) forces rest keeping p q ws fs s fits (λ words s. refl) is from inside stands next m
  forced_follows Q (e.Binary at line operator left right) forces rest keeping p q ws fs s fits is adds from inside stands next m =
      value_forced Q (e.Binary at line operator left right) forces rest keeping p q ws fs s fits (λ words s. refl) is from inside stands next m
