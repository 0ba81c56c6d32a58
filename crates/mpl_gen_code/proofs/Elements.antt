-- The code of an element that is read does what the element means.
use Rattle.std.proofs.Common.{◌≡◌, ◌≤◌, ◌<◌, ℕ, ◌+◌, Bool, true, false, List, [], ◌∷◌, length, Option, Some, None, ℤ, pos, refl, ap, sym, subst, arith, ◌∙◌}
use Rattle.std.specs.List.{slice_index_or}
use Rattle.std.specs.Option.{option_map}
use Rattle.mpl_value.specs.Words.{index_below, words_at}
use Rattle.mpl_value.specs.declared.body.Arg.{Arg}
use Rattle.mpl_value.specs.declared.body.BodyEnd.TheVariants as end
use Rattle.mpl_value.specs.declared.known.TrapKind.TheVariants.{Index}
use Rattle.mpl_mean.specs.Meaning.Context.{Callees, Context}
use Rattle.mpl_mean.specs.Meaning.PlaceMeaning.{index_of, is_bool, tested_index}
use Rattle.mpl_mean.specs.Meaning.Store.{Store, and_then, pure}
use Rattle.mpl_mean.specs.Meaning.Values.{Value, word_of}
use Rattle.mpl_mean.specs.Plain.Expr.{Expr}
use Rattle.mpl_mean.proofs.Sizes.SizedStores.{words_at_long}
use Rattle.mdf_code.specs.Frames.{Flow}
use Rattle.mdf_code.specs.Parts.{text_at}
use Rattle.mdf_code.specs.Stacks.{pushed}
use Rattle.mdf_code.specs.declared.instr.Instr.{Instr}
use Rattle.mdf_code.specs.declared.instr.Instr.TheVariants as instr
use Rattle.mpl_checked.specs.Checked.CheckedExpressions.{checked_value, checked_words}
use Rattle.mpl_checked.specs.Checked.CheckedSteps.{CheckedCallees, CheckedStep, Checking, Meant, goes_on, ◌>?>◌}
use Rattle.mpl_gen_code.specs.ExpressionCode.{element_from, element_of, need_of, need_of_slot, value_code}
use Rattle.mpl_gen_code.specs.Fits.{ExprFits, May, PlaceFits, words_of_base}
use Rattle.mpl_gen_code.specs.Pieces.{joined, one, where_marked}
use Rattle.mpl_gen_code.specs.Scopes.{Env, Found, Slot}
use Rattle.mpl_gen_code.specs.Words.{is_bool_expr, is_bool_found, words_of_expr}
use Rattle.mpl_gen_code.proofs.Below.{Below}
use Rattle.mpl_gen_code.proofs.Instructions.{At, fetches_element, fetches_outside, loads_element, loads_outside}
use Rattle.mpl_gen_code.proofs.Operators.{Follows, index_inside, top}
use Rattle.mpl_gen_code.proofs.Places.{Known, Upto, ValueAt, element_at, from_joined, moved, need_follows, of_stands, upto_before}
use Rattle.mpl_gen_code.proofs.Reaching.{Comes, Fixed, From, Keeping, Keeps, Run, Stopped, comes_on, comes_then}
use Rattle.mpl_gen_code.proofs.Scoped.{Allowed, Scoped, Stands, context_of, location_at}

module _ (K : Run) (may : May) (env : Env) (inner : Callees) (callees : CheckedCallees) (base : ℕ) (below : Below K.whole env.declarations callees base) (above : base ≤ K.low)
    (allowed : Allowed K may env.parts) (scoped : Scoped K env) (vs : List Arg) where
  abbrev c : Context
  c = context_of K inner env

  abbrev chk : Checking
  chk = record { marks = env.marks; callees = callees }

  abbrev text : List Instr
  text = text_at K.whole.setting.image K.here.code

  abbrev S : Keeping → Store → Type 0
  S keeping s = Stands K keeping env vs s

  abbrev V : Keeping → ℕ → List ℤ → List (Flow Arg) → ℕ → Bool → Value → Store → Type 0
  V keeping = ValueAt K keeping env vs

  -- what the test of an index makes of an array
  abbrev tested : ℕ → List ℤ → Bool → Value → CheckedStep Value
  tested line array bool i s = Meant (and_then (index_of line (length array) (word_of i) s) (λ n. pure (record { words = slice_index_or array n (pos 0) ∷ []; is_bool = bool })))

  index_follows : (keeping : Keeping) (line count q : ℕ) (m : ℕ) (ws : List ℤ) (fs : List (Flow Arg)) (s : Store) (array : List ℤ) (bool : Bool) (i : Value) → length array ≡ count → S keeping s
      → ((at : ℕ) → index_below count (word_of i) ≡ Some at → at < length array → At K q (slice_index_or array at (pos 0) ∷ ws) fs vs s → At K m (word_of i ∷ ws) fs vs s)
      → (index_below count (word_of i) ≡ None → Stopped K.whole (end.Trap (record { kind = Index; line = line })) s → At K m (word_of i ∷ ws) fs vs s)
      → Comes K (V keeping q ws fs 1 bool) (tested line array bool i s) → At K m (word_of i ∷ ws) fs vs s
  index_follows keeping line count q m ws fs s array bool i long stands there outside h =
      by_index (index_below count (word_of i)) refl
      (subst (λ n. Comes K (V keeping q ws fs 1 bool) (Meant (and_then (tested_index line (index_below n (word_of i)) s) (λ n. pure (record { words = slice_index_or array n (pos 0) ∷ []; is_bool = bool }))))) long h) where
        by_index : (o : Option ℕ) → index_below count (word_of i) ≡ o
            → Comes K (V keeping q ws fs 1 bool) (Meant (and_then (tested_index line o s) (λ n. pure (record { words = slice_index_or array n (pos 0) ∷ []; is_bool = bool })))) → At K m (word_of i ∷ ws) fs vs s
        by_index None e h = outside e (h (of_stands K keeping env vs stands _))
        by_index (Some at) e h = there at e (subst (λ n. at < n) (sym long) (index_inside count (word_of i) at e)) (h stands refl refl)

  pub element_follows : (node line : ℕ) (o : Option Found) (index : Expr) → Follows K may env inner callees base below above allowed scoped vs index
      → (keeping : Keeping) (p q : ℕ) (ws : List ℤ) (fs : List (Flow Arg)) (s : Store)
      → From text p (joined (need_of (env.marks node) o) (joined (value_code env index) (element_of line o)) p) q → Upto K keeping env vs q
      → Known K env o → PlaceFits env o → ExprFits may env index → words_of_expr env index ≡ 1 → S keeping s
      → Comes K (V keeping q ws fs 1 (is_bool_found o))
      (goes_on (checked_words chk node (option_map (location_at vs) o) s) (λ a. checked_value chk index c >?> (λ i. tested line a.words a.is_bool i))) → At K p ws fs vs s
  element_follows node line None index on_index keeping p q ws fs s from inside known fits index_fits index_one stands h = absurd fits
  element_follows node line (Some found) index on_index keeping p q ws fs s from inside known fits index_fits index_one stands h = by_slot found.slot refl from fits h where
    at_slot : Option Slot → Found
    at_slot slot = record found { slot = slot }

    rest : Value → CheckedStep Value
    rest a = checked_value chk index c >?> (λ i. tested line a.words a.is_bool i)

    array : List ℤ → Value
    array words = record { words = words_at found.offset found.words words; is_bool = is_bool found.type }

    by_slot : (slot : Option Slot) → found.slot ≡ slot
        → From text p (joined (need_of (env.marks node) (Some (at_slot slot))) (joined (value_code env index) (one (element_from line found slot))) p) q → found.offset + found.words ≤ words_of_base env slot
        → Comes K (V keeping q ws fs 1 (is_bool found.type)) (goes_on (checked_words chk node (Some (location_at vs (at_slot slot))) s) rest) → At K p ws fs vs s
    by_slot None is from fits h =
        let first = from_joined text (need_of (env.marks node) (Some (at_slot None))) (joined (value_code env index) (one (instr.FetchIndexed found.offset found.words line))) p q from in
        let second = from_joined text (value_code env index) (one (instr.FetchIndexed found.offset found.words line)) first.middle q first.second in
        let begins : p ≡ first.middle = nothing (env.marks node) first.middle first.first in
        let inside_state : found.offset + found.words ≤ length s.state = let long = stands.long in omega arith in
        let fixed : S (Fixed s.state) s = record { agree = stands.agree; sized = stands.sized; keeps = refl; long = stands.long; low = stands.low; within = stands.within; result = stands.result } in
        moved K keeping env vs ws fs s begins
        (on_index (Fixed s.state) first.middle second.middle ws fs s second.first (upto_before K keeping env vs q second.middle second.within inside) index_fits fixed
        (comes_on K (V keeping q ws fs 1 (is_bool found.type)) (V (Fixed s.state) second.middle ws fs (words_of_expr env index) (is_bool_expr env index)) (checked_value chk index c s) _
        (λ i s1 h1 stands1 long1 bool1.
        let same : s1.state ≡ s.state = stands1.keeps in
        let again : S keeping s1 = record { agree = stands1.agree; sized = stands1.sized; keeps = subst (Keeps keeping) (sym same) stands.keeps; long = stands1.long; low = stands1.low; within = stands1.within; result = stands1.result } in
        let inside_then : found.offset + found.words ≤ length s1.state = subst (λ (state : List ℤ). found.offset + found.words ≤ length state) (sym same) inside_state in
        let is_array : words_at found.offset found.words s.state ≡ words_at found.offset found.words s1.state = ap (words_at found.offset found.words) (sym same) in
        top K may env inner callees base below above allowed scoped vs i second.middle ws fs s1 (long1 ∙ index_one)
        (index_follows keeping line found.words q second.middle ws fs s1 (words_at found.offset found.words s1.state) (is_bool found.type) i (words_at_long found.offset found.words s1.state inside_then) again
        (λ at e below_count d. fetches_element K second.middle ws fs vs s1 found.offset found.words line (word_of i) at (known.reads found refl is) inside_then e (omega arith) second.second.0
        (moved K keeping env vs _ fs s1 second.second.1 (subst (λ (words : List ℤ). At K q (pushed words ws) fs vs s1) (sym (element_at at (words_at found.offset found.words s1.state) below_count)) d)))
        (λ e d. fetches_outside K second.middle ws fs vs s1 found.offset found.words line (word_of i) (known.reads found refl is) inside_then e second.second.0 d)
        (subst (λ (words : List ℤ). Comes K (V keeping q ws fs 1 (is_bool found.type)) (tested line words (is_bool found.type) i s1)) is_array h1)))
        h)) where
          nothing : (marked : Bool) (m : ℕ) → From text p (where_marked marked (need_of_slot None) p) m → p ≡ m
          nothing true m e = e
          nothing false m e = e
    by_slot (Some slot) is from fits h =
        let first = from_joined text (need_of (env.marks node) (Some (at_slot (Some slot)))) (joined (value_code env index) (one (instr.LoadIndexed slot.number found.offset found.words line))) p q from in
        let second = from_joined text (value_code env index) (one (instr.LoadIndexed slot.number found.offset found.words line)) first.middle q first.second in
        need_follows K keeping env vs (λ a t. Comes K (V keeping q ws fs 1 (is_bool found.type)) (rest a t)) (env.marks node) slot p first.middle ws fs s _ first.first scoped (known.slot found slot refl is) stands
        (λ words got long d.
        let inside_words : found.offset + found.words ≤ length words = omega (arith, long, fits) in
        on_index keeping first.middle second.middle ws fs s second.first (upto_before K keeping env vs q second.middle second.within inside) index_fits stands
        (comes_on K (V keeping q ws fs 1 (is_bool found.type)) (V keeping second.middle ws fs (words_of_expr env index) (is_bool_expr env index)) (checked_value chk index c s) _
        (λ i s1 h1 stands1 long1 bool1.
        top K may env inner callees base below above allowed scoped vs i second.middle ws fs s1 (long1 ∙ index_one)
        (index_follows keeping line found.words q second.middle ws fs s1 (words_at found.offset found.words words) (is_bool found.type) i (words_at_long found.offset found.words words inside_words) stands1
        (λ at e below_count d. loads_element K second.middle ws fs vs s1 slot.number found.offset found.words line words (word_of i) at got inside_words e (omega arith) second.second.0
        (moved K keeping env vs _ fs s1 second.second.1 (subst (λ (ws' : List ℤ). At K q (pushed ws' ws) fs vs s1) (sym (element_at at (words_at found.offset found.words words) below_count)) d)))
        (λ e d. loads_outside K second.middle ws fs vs s1 slot.number found.offset found.words line words (word_of i) got inside_words e second.second.0 d)
        h1))
        d))
        (comes_then K (V keeping q ws fs 1 (is_bool found.type)) _ rest h)
