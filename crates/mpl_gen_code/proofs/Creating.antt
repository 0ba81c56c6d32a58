-- The code of a statement that creates an object does what the statement means.
use Rattle.std.proofs.Common.{◌≡◌, ◌≤◌, ℕ, zero, suc, ◌+◌, Bool, true, false, List, [], ◌∷◌, ◌++◌, length, Option, Some, None, ℤ, pos, refl, sym, subst, arith, ◌∙◌}
use Rattle.std.specs.List.{slice_get}
use Rattle.std.specs.Option.{option_map}
use Rattle.mpl_ast.specs.declared.expression.Target.{Target}
use Rattle.mpl_ast.specs.declared.place.At.{At}
use Rattle.mpl_value.specs.Words.{object_word, with_words}
use Rattle.mpl_value.specs.declared.body.Arg.{Arg}
use Rattle.mpl_value.specs.declared.body.Arg.TheVariants as arg
use Rattle.mpl_mean.specs.Meaning.CallMeaning.{class_of_location}
use Rattle.mpl_mean.specs.Meaning.Context.{Callees, Context}
use Rattle.mpl_mean.specs.Meaning.Layout.{Class, Function, Member, class_named, classes_of}
use Rattle.mpl_mean.specs.Meaning.PlaceMeaning.{location_of}
use Rattle.mpl_mean.specs.Meaning.StatementMeaning.{created, new_object}
use Rattle.mpl_mean.specs.Meaning.Store.{Store, Outcome, Goes, holding, spend}
use Rattle.mpl_mean.proofs.Sizes.SizedStores.{with_words_long}
use Rattle.mdf_code.specs.Frames.{Flow}
use Rattle.mdf_code.specs.Parts.{text_at}
use Rattle.mdf_code.specs.declared.instr.Instr.{Instr}
use Rattle.mdf_code.specs.declared.instr.Instr.TheVariants as instr
use Rattle.mpl_checked.specs.Checked.CheckedStatements.{checked_create, checked_create_in, checked_put}
use Rattle.mpl_checked.specs.Checked.CheckedSteps.{Checked, CheckedCallees, CheckedStep, Checking, Meant, checked_force, goes_on}
use Rattle.mpl_gen_code.specs.ExpressionCode.{need_of_slot}
use Rattle.mpl_gen_code.specs.Fits.{CreationFits, May, words_of_base}
use Rattle.mpl_gen_code.specs.Pieces.{where_marked}
use Rattle.mpl_gen_code.specs.Scopes.{Env, Found, Slot, class_found, found_at, words_of_shape}
use Rattle.mpl_gen_code.specs.StatementCode.{create_code, create_in}
use Rattle.mpl_gen_code.proofs.Adding.{Adds}
use Rattle.mpl_gen_code.proofs.Assignments.{Done, Writable, puts_state, whole_found}
use Rattle.mpl_gen_code.proofs.Behind.{holds_stands}
use Rattle.mpl_gen_code.proofs.Below.{Below}
use Rattle.mpl_gen_code.proofs.Calling.{Bounded, meant_then}
use Rattle.mpl_gen_code.proofs.Effects.{creates_object, sets_variable}
use Rattle.mpl_gen_code.proofs.Flows.{Surrounded}
use Rattle.mpl_gen_code.proofs.Forcing.{comes_pure, meets_deep, need_meets}
use Rattle.mpl_gen_code.proofs.Instructions.{At as Reached, Is, argues_words, stores}
use Rattle.mpl_gen_code.proofs.Members.{Meets, bounded}
use Rattle.mpl_gen_code.proofs.Places.{from_joined, known_at, moved}
use Rattle.mpl_gen_code.proofs.Reaching.{From, Run}
use Rattle.mpl_gen_code.proofs.Scoped.{Allowed, Scoped, Stands, context_of, held, location_at, located, size_here, variable_of}
use Rattle.mpl_gen_code.proofs.Storing.{number_inside}

module _ (K : Run) (may : May) (env : Env) (inner : Callees) (callees : CheckedCallees) (base : ℕ) (below : Below K.whole env.declarations callees base) (above : base ≤ K.low)
    (allowed : Allowed K may env.parts) (scoped : Scoped K env) (around : Surrounded K env.declarations env.marks)
    (plain : (f : Function) (arguments : List (List ℤ)) → Adds env.declarations K.whole.vowed (callees.plain f arguments))
    (regular : (m : Member) (arguments : List (List ℤ)) → Adds env.declarations K.whole.vowed (callees.regular m arguments))
    (writable : Writable K env.parts) where
  abbrev c : Context
  c = context_of K inner env

  abbrev chk : Checking
  chk = record { marks = env.marks; callees = callees }

  abbrev text : List Instr
  text = text_at K.whole.setting.image K.here.code

  abbrev S : List Arg → Store → Type 0
  S vs s = Stands K K.here.keeping env vs s

  abbrev M : {A : Type 0} → (A → Store → Type 0) → Checked (Outcome A) → Type 0
  M Q o = Meets K env.declarations Q o

  -- a class of objects that may be created
  abbrev IsCreated : Class → Type 0
  IsCreated class = (may.posts ≡ true) × (class.is_regular ≡ false) × ((name : List ℕ) × (class_named name (classes_of env.declarations) ≡ Some class))

  -- the word of the object that comes next
  abbrev next_object : Store → ℤ
  next_object s = object_word K.whole.setting.number (length s.creations + 1)

  object_follows : {B : Type 0} (Q : B → Store → Type 0) (next : ℤ → CheckedStep B) (class : Class) → IsCreated class → (p : ℕ) (ws : List ℤ) (fs : List (Flow Arg)) (vs : List Arg) (s : Store)
      → Is K p (instr.Create class.number) → S vs s → M Q (goes_on (Meant (new_object c (Some class) s)) next)
      → ((s1 : Store) → S vs s1 → M Q (next (next_object s) s1) → Reached K (p + 1) (next_object s ∷ ws) fs vs s1) → Reached K p ws fs vs s
  object_follows {B} Q next class created_is p ws fs vs s is stands m f =
      let found = around.classes created_is.2.0 class created_is.2.1 in
      let posting = allowed.posts created_is.0 in
      creates_object K p ws fs vs s (λ u t. M Q (goes_on (Meant (created c class t)) next)) (λ t. Meant (Goes tt t)) class.number found.0 (bounded K K.here.keeping env vs stands) posting.0 found.1 (found.2 ∙ created_is.1) is
      (λ now d. behind now (subst (λ n. M Q (next (object_word n (length s.creations + 1)) (after s class.number))) posting.1 d))
      (comes_pure K (λ u t. M Q (goes_on (Meant (created c class t)) next)) (Meant (spend K.whole.setting.turns s))
      (meets_deep K env.declarations Q (Meant (spend K.whole.setting.turns s)) (λ u t. Meant (created c class t)) next
      (subst (λ o. M Q (goes_on o next)) (meant_then (spend K.whole.setting.turns s) (λ _. created c class)) m))) where
        after : Store → ℕ → Store
        after s number = record s { turns = s.turns + 1; creations = s.creations ++ pos number ∷ [] }

        behind : Bounded K (record s { turns = s.turns + 1 }) → M Q (next (next_object s) (after s class.number)) → Reached K (p + 1) (next_object s ∷ ws) fs vs (after s class.number)
        behind now d = f (after s class.number) (record {
          agree = stands.agree;
          sized = stands.sized;
          keeps = stands.keeps;
          long = stands.long;
          low = now.low;
          within = now.within;
          result = stands.result;
        }) d

  module _ (at : At) (t : Target) (p q : ℕ) (vs : List Arg) (s : Store) (stands : S vs s) where
    creates_in : (found : Found) → found_at env t ≡ Some found → (class : Class) → IsCreated class → (slot : Option Slot) → found.slot ≡ slot → (whole : Bool) → found.is_whole ≡ whole
        → From text p (create_in (env.marks at.id) class.number found slot whole p) q → found.offset + found.words ≤ words_of_base env slot → found.words ≡ 1
        → class_of_location c (Some (location_at vs found)) ≡ Some class
        → M (Done K env q) (checked_create_in chk c at.id (location_at vs found) (option_map (variable_of vs) slot) whole s) → Reached K p [] [] vs s
    creates_in found e class is_created (Some slot) is true w from fits one class_is m =
        let is_slot = (known_at K may env t allowed).slot found slot e is in
        let size = size_here K env scoped slot is_slot in
        let same : 1 ≡ words_of_shape env.declarations slot.shape = sym one ∙ whole_found env t found slot e w is in
        object_follows (Done K env q) (λ object s. Meant (Goes tt (record s { variables = holding slot.shape.name (arg.Know (object ∷ [])) s.variables }))) class is_created p [] [] vs s from.0 stands
        (subst (λ o. M (Done K env q) (goes_on (Meant (new_object c o s)) (λ object s. Meant (Goes tt (record s { variables = holding slot.shape.name (arg.Know (object ∷ [])) s.variables }))))) class_is m)
        (λ s1 stands1 d.
        argues_words K (p + 1) [] [] vs s1 1 (next_object s ∷ []) refl from.1.0
        (sets_variable K (p + 1 + 1) [] [] vs s1 slot.number (words_of_shape env.declarations slot.shape) 1 (arg.Know (next_object s ∷ [])) size same (number_inside _ vs slot.number _ stands1.sized size) from.1.1.0
        (moved K K.here.keeping env _ [] [] s1 from.1.1.1
        (d.1 _ (holds_stands K K.here.keeping env vs s1 slot (arg.Know (next_object s ∷ [])) scoped is_slot same stands1)))))
    creates_in found e class is_created (Some slot) is false w from fits one class_is m =
        let is_slot = (known_at K may env t allowed).slot found slot e is in
        let parts = from_joined text (where_marked (env.marks at.id) (need_of_slot (Some slot))) (λ _. instr.Create class.number ∷ instr.Store slot.number found.offset found.words ∷ []) p q from in
        need_meets K K.here.keeping env vs (Done K env q) (env.marks at.id) slot p parts.middle [] [] s _ parts.first scoped is_slot stands
        (λ old got old_long d.
        let known : held slot.number vs ≡ arg.Know old = held_is slot.number vs (arg.Know old) got in
        object_follows (Done K env q) (λ object. checked_put chk at.id (Some (variable_of vs slot)) found.offset (object ∷ [])) class is_created parts.middle [] [] vs s parts.second.0 stands
        (subst (λ o. M (Done K env q) (goes_on (Meant (new_object c o s)) (λ object. checked_put chk at.id (Some (variable_of vs slot)) found.offset (object ∷ [])))) class_is d)
        (λ s1 stands1 d1.
        let inside : found.offset + found.words ≤ length old = omega (arith, old_long, fits) in
        let inside_new : found.offset + 1 ≤ length old = omega (arith, one, inside) in
        let d2 : M (Done K env q) (Meant (Goes tt (record s1 { variables = holding slot.shape.name (arg.Know (with_words found.offset (next_object s ∷ []) old)) s1.variables }))) =
        subst (λ a. M (Done K env q) (goes_on (checked_force (env.marks at.id) a s1) (λ old' s'. Meant (Goes tt (record s' { variables = holding slot.shape.name (arg.Know (with_words found.offset (next_object s ∷ []) old')) s'.variables }))))) known d1 in
        stores K (parts.middle + 1) [] [] vs s1 slot.number found.offset found.words old (next_object s ∷ []) got (number_inside _ vs slot.number _ stands1.sized (size_here K env scoped slot is_slot)) (sym one) inside parts.second.1.0
        (moved K K.here.keeping env _ [] [] s1 parts.second.1.1
        (d2.1 _ (holds_stands K K.here.keeping env vs s1 slot _ scoped is_slot (with_words_long found.offset (next_object s ∷ []) old inside_new ∙ old_long) stands1)))))
        m where
          held_is : (n : ℕ) (vs : List Arg) (a : Arg) → slice_get vs n ≡ Some a → held n vs ≡ a
          held_is n [] a e = absurd cc
          held_is zero (v ∷ vs) a e = cc
          held_is (suc n) (v ∷ vs) a e = held_is n vs a e
    creates_in found e class is_created None is whole w from fits one class_is m =
        object_follows (Done K env q) (λ object. checked_put chk at.id None found.offset (object ∷ [])) class is_created p [] [] vs s from.0 stands
        (subst (λ o. M (Done K env q) (goes_on (Meant (new_object c o s)) (λ object. checked_put chk at.id None found.offset (object ∷ [])))) class_is m)
        (λ s1 stands1 d.
        puts_state K may env inner callees base below above allowed scoped around plain regular writable vs at.id t found e is (p + 1) q s1 (next_object s ∷ []) from.1.0 from.1.1 fits (sym one) stands1 d)

    pub creates_follow : From text p (create_code env (env.marks at.id) (found_at env t) p) q → CreationFits may env (found_at env t) (class_found env (found_at env t))
        → M (Done K env q) (checked_create chk c at.id (location_of c t s) s) → Reached K p [] [] vs s
    creates_follow from fits m = by_found (found_at env t) refl from fits (subst (λ l. M (Done K env q) (checked_create chk c at.id l s)) (located K K.here.keeping inner env vs s t stands) m) where
      by_class : (found : Found) → found_at env t ≡ Some found → (class : Option Class) → class_found env (Some found) ≡ class
          → From text p (Rattle.mpl_gen_code.specs.StatementCode.create_of (env.marks at.id) found class p) q → CreationFits may env (Some found) class
          → M (Done K env q) (checked_create_in chk c at.id (location_at vs found) (option_map (variable_of vs) found.slot) found.is_whole s) → Reached K p [] [] vs s
      by_class found e None class_is from fits m = absurd fits
      by_class found e (Some class) class_is from fits m =
          creates_in found e class (fits.0, fits.1, fits.2) found.slot refl found.is_whole refl from fits.3 fits.4 class_is m

      by_found : (o : Option Found) → found_at env t ≡ o → From text p (create_code env (env.marks at.id) o p) q → CreationFits may env o (class_found env o)
          → M (Done K env q) (checked_create chk c at.id (option_map (location_at vs) o) s) → Reached K p [] [] vs s
      by_found None e from fits m = absurd fits
      by_found (Some found) e from fits m = by_class found e (class_found env (Some found)) refl from fits m
