-- The code of an assignment to a variable, a part of one or the state does what the assignment means.
use Rattle.std.proofs.Common.{◌≡◌, ◌≤◌, ℕ, ◌+◌, Bool, true, false, List, [], length, Option, Some, None, ℤ, ◌⊎◌, inl, inr, refl, ap, ap₂, sym, subst, arith, ◌∙◌}
use Rattle.std.specs.List.{slice_set}
use Rattle.std.specs.Option.{option_map}
use Rattle.mpl_ast.specs.declared.expression.Target.{Target}
use Rattle.mpl_ast.specs.declared.expression.Target.TheVariants as target
use Rattle.mpl_ast.specs.declared.place.At.{At}
use Rattle.mpl_value.specs.Words.{with_words}
use Rattle.mpl_value.specs.declared.body.Arg.{Arg}
use Rattle.mpl_value.specs.declared.body.Arg.TheVariants as arg
use Rattle.mpl_mean.specs.Meaning.Context.{Callees, Context}
use Rattle.mpl_mean.specs.Meaning.Layout.{Function, Member, Part, words_of_parts}
use Rattle.mpl_mean.specs.Meaning.PlaceMeaning.{location_of}
use Rattle.mpl_mean.specs.Meaning.Store.{Store, Outcome, Goes, holding}
use Rattle.mpl_mean.specs.Plain.Expr.{Expr}
use Rattle.mpl_mean.proofs.Sizes.SizedStores.{with_words_long}
use Rattle.mdf_code.specs.Parts.{text_at}
use Rattle.mdf_code.specs.Sizes.{ArgFits}
use Rattle.mdf_code.specs.Stacks.{pushed}
use Rattle.mdf_code.specs.declared.instr.Instr.{Instr}
use Rattle.mdf_code.specs.declared.instr.Instr.TheVariants as instr
use Rattle.mpl_checked.specs.Checked.CheckedExpressions.{checked_passes}
use Rattle.mpl_checked.specs.Checked.CheckedStatements.{checked_assign, checked_force_passed, checked_into, checked_put}
use Rattle.mpl_checked.specs.Checked.CheckedSteps.{Checked, CheckedCallees, CheckedStep, Checking, Meant, goes_on}
use Rattle.mpl_gen_code.specs.ExpressionCode.{codes_of, flow_code, need_of_slot, value_code}
use Rattle.mpl_gen_code.specs.Fits.{FlowFits, May, PlaceFits, WordsAre, words_of_base}
use Rattle.mpl_gen_code.specs.Pieces.{followed_by, where_marked}
use Rattle.mpl_gen_code.specs.Scopes.{Env, Found, Slot, found_at, found_field, found_name, found_part, slot_named, words_of_shape}
use Rattle.mpl_gen_code.specs.StatementCode.{into_code, into_slot}
use Rattle.mpl_gen_code.specs.Words.{words_of_expr}
use Rattle.mpl_gen_code.proofs.Adding.{Adds}
use Rattle.mpl_gen_code.proofs.AddingStatements.{adds_assign_at}
use Rattle.mpl_gen_code.proofs.Behind.{holds_stands}
use Rattle.mpl_gen_code.proofs.Below.{Below}
use Rattle.mpl_gen_code.proofs.Effects.{sets_variable}
use Rattle.mpl_gen_code.proofs.Flows.{Surrounded, flow_follows, meets_on}
use Rattle.mpl_gen_code.proofs.Forcing.{forced_follows, need_meets}
use Rattle.mpl_gen_code.proofs.Instructions as instruction
use Rattle.mpl_gen_code.proofs.Instructions.{At as Reached, keeps, stores}
use Rattle.mpl_gen_code.proofs.Members.{ItemAt, Meets}
use Rattle.mpl_gen_code.proofs.Places.{Upto, from_followed, from_joined, known_at, moved, not_without_parts, upto_before}
use Rattle.mpl_gen_code.proofs.Reaching.{From, Keeping, Keeps, Run, Sized}
use Rattle.mpl_gen_code.proofs.Scoped.{Allowed, IsSlot, Scoped, Stands, context_of, location_at, located, size_here, variable_of}
use Rattle.mpl_gen_code.proofs.Storing.{number_inside}

-- where there are parts of the state, its count of words is what is kept
abbrev pub Writable : Run → List Part → Type 0
Writable K parts = (parts ≡ []) ⊎ ((words : ℕ) × (K.here.keeping ≡ Sized words))

-- behind a statement, with nothing on the stacks
abbrev pub Done : Run → Env → ℕ → Unit {0} → Store → Type 0
Done K env q u s = (vs : List Arg) → Stands K K.here.keeping env vs s → Reached K q [] [] vs s

-- ---- whole variables

some_same : {A : Type 0} {a b : A} → Some a ≡ Some b → a ≡ b
some_same e = cc

part_whole : (slot : Option Slot) (offset : ℕ) (part : Option Part) (found : Found) → found_part slot offset part ≡ Some found → found.is_whole ≡ true → ⊥
part_whole slot offset None found e w = absurd cc
part_whole slot offset (Some part) found e w = absurd (let same : false ≡ found.is_whole = ap Found.is_whole (some_same e) in cc (same, w))

name_whole : (env : Env) (o : Option Slot) (name : List ℕ) (found : Found) (slot : Slot) → found_name env o name ≡ Some found → found.is_whole ≡ true → found.slot ≡ Some slot → found.words ≡ words_of_shape env.declarations slot.shape
name_whole env (Some other) name found slot e w is =
    sym (ap Found.words (some_same e)) ∙ ap (λ (o : Slot). words_of_shape env.declarations o.shape) (some_same (ap Found.slot (some_same e) ∙ is))
name_whole env None name found slot e w is = absurd (part_whole None 0 _ found e w)

field_whole : (env : Env) (field : List ℕ) (o : Option Found) (found : Found) → found_field env field o ≡ Some found → found.is_whole ≡ true → ⊥
field_whole env field None found e w = absurd cc
field_whole env field (Some o) found e w = part_whole o.slot o.offset _ found e w

pub whole_found : (env : Env) (t : Target) (found : Found) (slot : Slot) → found_at env t ≡ Some found → found.is_whole ≡ true → found.slot ≡ Some slot → found.words ≡ words_of_shape env.declarations slot.shape
whole_found env (target.Variable at variable) found slot e w is = name_whole env (slot_named variable.text env.scope) variable.text found slot e w is
whole_found env (target.Field at variable field) found slot e w is = absurd (field_whole env field.text _ found e w)

pub or_not : {P Q : Type 0} → P ⊎ Q → (P → ⊥) → Q
or_not (inl p) h = absurd (h p)
or_not (inr q) h = q

-- other words of the state leave its count
pub restated : (keeping : Keeping) (words offset : ℕ) (new state : List ℤ) → keeping ≡ Sized words → offset + length new ≤ length state → Keeps keeping state → Keeps keeping (with_words offset new state)
restated keeping words offset new state e inside kept =
    subst (λ k. Keeps k (with_words offset new state)) (sym e) (with_words_long offset new state inside ∙ subst (λ k. Keeps k state) e kept)

module _ (K : Run) (may : May) (env : Env) (inner : Callees) (callees : CheckedCallees) (base : ℕ) (below : Below K.whole env.declarations callees base) (above : base ≤ K.low)
    (allowed : Allowed K may env.parts) (scoped : Scoped K env) (around : Surrounded K env.declarations env.marks)
    (plain : (f : Function) (arguments : List (List ℤ)) → Adds env.declarations K.whole.vowed (callees.plain f arguments))
    (regular : (m : Member) (arguments : List (List ℤ)) → Adds env.declarations K.whole.vowed (callees.regular m arguments))
    (writable : Writable K env.parts) (vs : List Arg) where
  abbrev c : Context
  c = context_of K inner env

  abbrev chk : Checking
  chk = record { marks = env.marks; callees = callees }

  abbrev text : List Instr
  text = text_at K.whole.setting.image K.here.code

  abbrev S : Store → Type 0
  S s = Stands K K.here.keeping env vs s

  abbrev M : {A : Type 0} → (A → Store → Type 0) → Checked (Outcome A) → Type 0
  M Q o = Meets K env.declarations Q o

  -- ---- parts

  -- words on top go into a variable
  pub puts_variable : (node : ℕ) (slot : Slot) (offset count : ℕ) (p q : ℕ) (s : Store) (words : List ℤ)
      → From text p (followed_by (where_marked (env.marks node) (need_of_slot (Some slot))) (instr.Store slot.number offset count) p) q
      → IsSlot env.scope slot → offset + count ≤ words_of_shape env.declarations slot.shape → length words ≡ count → S s
      → M (Done K env q) (checked_put chk node (Some (variable_of vs slot)) offset words s) → Reached K p (pushed words []) [] vs s
  puts_variable node slot offset count p q s words from is fits long stands m =
      let parts = from_followed text (where_marked (env.marks node) (need_of_slot (Some slot))) (instr.Store slot.number offset count) p q from in
      need_meets K K.here.keeping env vs (Done K env q) (env.marks node) slot p parts.middle (pushed words []) [] s _ parts.first scoped is stands
      (λ old got old_long d.
      let inside : offset + count ≤ length old = omega (arith, old_long, fits) in
      let inside_new : offset + length words ≤ length old = omega (arith, long, inside) in
      let there = number_inside _ vs slot.number _ stands.sized (size_here K env scoped slot is) in
      stores K parts.middle [] [] vs s slot.number offset count old words got there long inside parts.is
      (moved K K.here.keeping env (slice_set vs slot.number (arg.Know (with_words offset words old))) [] [] s parts.next
      (d.1 _ (holds_stands K K.here.keeping env vs s slot (arg.Know (with_words offset words old)) scoped is (with_words_long offset words old inside_new ∙ old_long) stands))))
      m

  -- words on top go into the state
  pub puts_state : (node : ℕ) (t : Target) (found : Found) → found_at env t ≡ Some found → found.slot ≡ None → (p q : ℕ) (s : Store) (words : List ℤ)
      → instruction.Is K p (instr.Keep found.offset found.words) → p + 1 ≡ q → found.offset + found.words ≤ words_of_parts env.parts → length words ≡ found.words → S s
      → M (Done K env q) (checked_put chk node None found.offset words s) → Reached K p (pushed words []) [] vs s
  puts_state node t found e is p q s words stands_at there fits long stands m =
      let inside : found.offset + found.words ≤ length s.state = let enough = stands.long in omega arith in
      let inside_new : found.offset + length words ≤ length s.state = omega (arith, long, inside) in
      let sized = or_not writable (λ none. not_without_parts env t found none e is) in
      keeps K p [] [] vs s found.offset found.words words ((known_at K may env t allowed).writes found e is) long inside stands_at
      (moved K K.here.keeping env vs [] [] (record s { state = with_words found.offset words s.state }) there
      (m.1 vs (record {
        agree = stands.agree;
        sized = stands.sized;
        keeps = restated K.here.keeping sized.0 found.offset words s.state sized.1 inside_new stands.keeps;
        long = subst (λ n. words_of_parts env.parts ≤ n) (sym (with_words_long found.offset words s.state inside_new)) stands.long;
        low = stands.low;
        within = stands.within;
        result = stands.result;
      })))

  -- ---- an assignment without an index

  module _ (at : At) (t : Target) (value : Expr) (p q : ℕ) (s : Store) (inside : Upto K K.here.keeping env vs q) (flow_fits : FlowFits may env value) (stands : S s) where
    -- what becomes of what is passed
    abbrev assigns : Arg → CheckedStep (Unit {0})
    assigns passed s = checked_assign chk at.id value (location_of c t s) passed s

    adds : (a : Arg) → Adds env.declarations K.whole.vowed (assigns a)
    adds a = adds_assign_at env.declarations K.whole.vowed chk c plain regular at.id value t a

    assigned : (found : Found) → found_at env t ≡ Some found → (slot : Option Slot) → found.slot ≡ slot → (whole : Bool) → found.is_whole ≡ whole → (a : Arg) (s1 : Store) → S s1
        → assigns a s1 ≡ checked_into chk at.id value (location_at vs found) (option_map (variable_of vs) slot) whole a s1
    assigned found e slot is whole w a s1 stands1 =
        ap (λ l. checked_assign chk at.id value l a s1) (located K K.here.keeping inner env vs s1 t stands1 ∙ ap (option_map (location_at vs)) e)
        ∙ ap₂ (λ v b. checked_into chk at.id value (location_at vs found) v b a s1) (ap (option_map (variable_of vs)) is) w

    into : (found : Found) → found_at env t ≡ Some found → (slot : Option Slot) → found.slot ≡ slot → (whole : Bool) → found.is_whole ≡ whole
        → From text p (into_slot (env.marks at.id) (codes_of env value) found slot whole p) q → found.offset + found.words ≤ words_of_base env slot → found.words ≡ words_of_expr env value
        → M (Done K env q) (goes_on (checked_passes chk value c s) assigns) → Reached K p [] [] vs s
    into found e (Some slot) is true w from fits words m =
        let parts = from_followed text (flow_code env value) (instr.SetVariable slot.number) p q from in
        let is_slot = (known_at K may env t allowed).slot found slot e is in
        let size = size_here K env scoped slot is_slot in
        let same : words_of_expr env value ≡ words_of_shape env.declarations slot.shape = sym words ∙ whole_found env t found slot e w is in
        flow_follows K may env inner callees base below above allowed scoped around plain regular vs value K.here.keeping p parts.middle [] [] s parts.first (upto_before K K.here.keeping env vs q parts.middle parts.within inside) flow_fits stands
        (meets_on K env.declarations (Done K env q) (ItemAt K K.here.keeping env vs parts.middle [] [] (words_of_expr env value)) (checked_passes chk value c s) assigns adds
        (λ a s1 d stands1 fit.
        let d1 : M (Done K env q) (Meant (Goes tt (record s1 { variables = holding slot.shape.name a s1.variables }))) = subst (M (Done K env q)) (assigned found e (Some slot) is true w a s1 stands1) d in
        sets_variable K parts.middle [] [] vs s1 slot.number (words_of_shape env.declarations slot.shape) (words_of_expr env value) a size same (number_inside _ vs slot.number _ stands1.sized size) parts.is
        (moved K K.here.keeping env (slice_set vs slot.number a) [] [] s1 parts.next
        (d1.1 _ (holds_stands K K.here.keeping env vs s1 slot a scoped is_slot (subst (λ n. ArgFits n a) same fit) stands1))))
        m)
    into found e (Some slot) is false w from fits words m =
        let parts = from_joined text (value_code env value) (followed_by (where_marked (env.marks at.id) (need_of_slot (Some slot))) (instr.Store slot.number found.offset found.words)) p q from in
        let is_slot = (known_at K may env t allowed).slot found slot e is in
        forced_follows K may env inner callees base below above allowed scoped around plain regular vs (Done K env q) value assigns (λ words. checked_put chk at.id (Some (variable_of vs slot)) found.offset words)
        K.here.keeping p parts.middle [] [] s flow_fits
        (λ a s1 stands1. assigned found e (Some slot) is false w a s1 stands1
        ∙ ap (λ v. goes_on (checked_force_passed chk value a s1) (λ words. checked_put chk at.id (option_map (variable_of vs) v) found.offset words)) is)
        adds parts.first (upto_before K K.here.keeping env vs q parts.middle parts.within inside) stands
        (λ given s1 stands1 long d. puts_variable at.id slot found.offset found.words parts.middle q s1 given parts.second is_slot fits (long ∙ sym words) stands1 d)
        m
    into found e None is whole w from fits words m =
        let parts = from_followed text (value_code env value) (instr.Keep found.offset found.words) p q from in
        forced_follows K may env inner callees base below above allowed scoped around plain regular vs (Done K env q) value assigns (λ words. checked_put chk at.id None found.offset words)
        K.here.keeping p parts.middle [] [] s flow_fits
        (λ a s1 stands1. assigned found e None is whole w a s1 stands1
        ∙ ap (λ v. goes_on (checked_force_passed chk value a s1) (λ words. checked_put chk at.id (option_map (variable_of vs) v) found.offset words)) is)
        adds parts.first (upto_before K K.here.keeping env vs q parts.middle parts.within inside) stands
        (λ given s1 stands1 long d. puts_state at.id t found e is parts.middle q s1 given parts.is parts.next fits (long ∙ sym words) stands1 d)
        m

    pub assigns_follow : From text p (into_code (env.marks at.id) (codes_of env value) (found_at env t) p) q → PlaceFits env (found_at env t) → WordsAre (found_at env t) (words_of_expr env value)
        → M (Done K env q) (goes_on (checked_passes chk value c s) assigns) → Reached K p [] [] vs s
    assigns_follow from fits words m = by_found (found_at env t) refl from fits words where
      by_found : (o : Option Found) → found_at env t ≡ o → From text p (into_code (env.marks at.id) (codes_of env value) o p) q → PlaceFits env o → WordsAre o (words_of_expr env value) → Reached K p [] [] vs s
      by_found None e from fits words = absurd fits
      by_found (Some found) e from fits words = into found e found.slot refl found.is_whole refl from fits words m
