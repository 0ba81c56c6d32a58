-- Pieces of code from place to place, and the code of a place that is read.
use Rattle.std.proofs.Common.{◌≡◌, ◌≤◌, ◌<◌, ℕ, zero, suc, ◌+◌, Bool, true, false, List, [], ◌∷◌, length, Option, Some, None, ℤ, pos, ◌⊎◌, inl, inr, refl, ap, sym, subst, arith, ◌∙◌}
use Rattle.std.specs.List.{slice_get, slice_index_or}
use Rattle.std.specs.Option.{option_map}
use Rattle.mpl_ast.specs.declared.expression.Target.{Target}
use Rattle.mpl_ast.specs.declared.expression.Target.TheVariants as target
use Rattle.mpl_value.specs.Words.{words_at}
use Rattle.mpl_value.specs.declared.body.Arg.{Arg}
use Rattle.mpl_value.specs.declared.body.Arg.TheVariants as arg
use Rattle.mpl_mean.specs.Meaning.Layout.{Part, part_named}
use Rattle.mpl_mean.specs.Meaning.PlaceMeaning.{is_bool}
use Rattle.mpl_mean.specs.Meaning.Store.{Store}
use Rattle.mpl_mean.specs.Meaning.Values.{Value, first_word}
use Rattle.mpl_mean.proofs.Sizes.SizedStores.{words_at_long}
use Rattle.mdf_code.specs.Frames.{Flow}
use Rattle.mdf_code.specs.Parts.{has_object, has_state, is_place, text_at}
use Rattle.mdf_code.specs.Sizes.{ArgFits}
use Rattle.mdf_code.specs.Stacks.{pushed}
use Rattle.mdf_code.specs.declared.instr.Instr.{Instr}
use Rattle.mdf_code.specs.declared.instr.Instr.TheVariants as instr
use Rattle.mpl_checked.specs.Checked.CheckedExpressions.{checked_words}
use Rattle.mpl_checked.specs.Checked.CheckedSteps.{CheckedStep, Checking, checked_force, ◌>?>◌}
use Rattle.mpl_gen_code.specs.ExpressionCode.{need_of, need_of_slot, read_code}
use Rattle.mpl_gen_code.specs.Fits.{May, PlaceFits, words_of_base}
use Rattle.mpl_gen_code.specs.Pieces.{Piece, either, followed_by, joined, one, unless_zero, where_marked}
use Rattle.mpl_gen_code.specs.Scopes.{Env, Found, Slot, found_at, found_field, found_name, found_part, slot_named, words_of_shape}
use Rattle.mpl_gen_code.specs.Words.{is_bool_found, words_of_found}
use Rattle.mpl_gen_code.proofs.Instructions.{At, fetches, loads, needs_known, needs_trapped, needs_unknown}
use Rattle.mpl_gen_code.proofs.Reaching.{Comes, From, Halted, Keeping, Run, from_length, from_parts}
use Rattle.mpl_gen_code.proofs.Scoped.{Allowed, IsSlot, Scoped, Stands, held, held_there, location_at, size_here, variable_of}

-- ---- pieces

-- a code is no shorter than nothing
pub no_back : (code : List Instr) (a : List Instr) (p q : ℕ) → From code p a q → p ≤ q
no_back code a p q h = let e = from_length code a p q h in omega arith

-- one piece, and then another
pub record Joined (code : List Instr) (a b : Piece) (p q : ℕ) : Type 0 where
  pub middle : ℕ
  pub first : From code p (a p) middle
  pub second : From code middle (b middle) q
  pub within : middle ≤ q

pub from_joined : (code : List Instr) (a b : Piece) (p q : ℕ) → From code p (joined a b p) q → Joined code a b p q
from_joined code a b p q h =
    let parts = from_parts code (a p) (b (p + length (a p))) p q h in record {
      middle = parts.0;
      first = parts.1;
      second = subst (λ n. From code parts.0 (b n) q) (sym (from_length code (a p) p parts.0 parts.1)) parts.2;
      within = no_back code (b (p + length (a p))) parts.0 q parts.2;
    }

-- a piece, and then an instruction
pub record Followed (code : List Instr) (a : Piece) (i : Instr) (p q : ℕ) : Type 0 where
  pub middle : ℕ
  pub first : From code p (a p) middle
  pub is : slice_get code middle ≡ Some i
  pub next : middle + 1 ≡ q
  pub within : middle ≤ q

pub from_followed : (code : List Instr) (a : Piece) (i : Instr) (p q : ℕ) → From code p (followed_by a i p) q → Followed code a i p q
from_followed code a i p q h =
    let parts = from_parts code (a p) (i ∷ []) p q h in
    let e = parts.2.1 in
    record { middle = parts.0; first = parts.1; is = parts.2.0; next = e; within = omega arith }

-- two ways from a place
pub record Ways (code : List Instr) (first second : Piece) (m q : ℕ) : Type 0 where
  pub other : ℕ
  pub back : ℕ
  pub test : slice_get code m ≡ Some (instr.JumpZero other)
  pub one_way : From code (m + 1) (first (m + 1)) back
  pub jump : slice_get code back ≡ Some (instr.Jump q)
  pub back_within : back ≤ q
  pub other_within : other ≤ q
  pub next_within : m + 1 ≤ q
  pub other_way : From code other (second other) q

pub from_either : (code : List Instr) (first second : Piece) (m q : ℕ) → From code m (either first second m) q → Ways code first second m q
from_either code first second m q h =
    let c = length (first (m + 1)) in
    let o = m + 1 + c + 1 in
    let parts = from_parts code (first (m + 1)) (instr.Jump (o + length (second o)) ∷ second o) (m + 1) q h.1 in
    let b : parts.0 ≡ m + 1 + c = from_length code (first (m + 1)) (m + 1) parts.0 parts.1 in
    let at_other : parts.0 + 1 ≡ o = omega arith in
    let way : From code o (second o) q = subst (λ n. From code n (second o) q) at_other parts.2.1 in
    let there : q ≡ o + length (second o) = from_length code (second o) o q way in
    record {
      other = o;
      back = parts.0;
      test = h.0;
      one_way = parts.1;
      jump = subst (λ n. slice_get code parts.0 ≡ Some (instr.Jump n)) (sym there) parts.2.0;
      back_within = omega arith;
      other_within = omega arith;
      next_within = omega arith;
      other_way = way;
    }

-- a way that is passed over
pub record Way (code : List Instr) (piece : Piece) (m q : ℕ) : Type 0 where
  pub test : slice_get code m ≡ Some (instr.JumpZero q)
  pub way : From code (m + 1) (piece (m + 1)) q

pub from_unless : (code : List Instr) (piece : Piece) (m q : ℕ) → From code m (unless_zero piece m) q → Way code piece m q
from_unless code piece m q h =
    let there : q ≡ m + 1 + length (piece (m + 1)) = from_length code (piece (m + 1)) (m + 1) q h.1 in
    record { test = subst (λ n. slice_get code m ≡ Some (instr.JumpZero n)) (sym there) h.0; way = h.1 }

-- ---- words

pub one_word : (words : List ℤ) → length words ≡ 1 → words ≡ first_word words ∷ []
one_word [] e = absurd cc
one_word (w ∷ []) e = refl
one_word (w ∷ x ∷ ws) e = absurd (let e' : suc (suc (length ws)) ≡ 1 = e in omega arith)

-- an element of an array
pub element_at : (at : ℕ) (words : List ℤ) → at < length words → words_at at 1 words ≡ slice_index_or words at (pos 0) ∷ []
element_at at [] h = absurd (let e : at < 0 = h in omega arith)
element_at zero (w ∷ ws) h = refl
element_at (suc at) (w ∷ ws) h = element_at at ws (let e : suc at < suc (length ws) = h in omega arith)

-- ---- where a place is of the state

part_there : (parts : List Part) (offset : ℕ) (name : List ℕ) (found : Found) → parts ≡ [] → found_part None offset (part_named name parts) ≡ Some found → ⊥
part_there parts offset name found none e = absurd (let f : found_part None offset (part_named name []) ≡ Some found = ap (λ (ps : List Part). found_part None offset (part_named name ps)) (sym none) ∙ e in cc f)

name_there : (env : Env) (slot : Option Slot) (name : List ℕ) (found : Found) → env.parts ≡ [] → found_name env slot name ≡ Some found → found.slot ≡ None → ⊥
name_there env (Some slot) name found none e is = absurd (let f : found.slot ≡ Some slot = ap (λ (o : Option Found). slot_or o) (sym e) in cc (f, is)) where
  slot_or : Option Found → Option Slot
  slot_or None = None
  slot_or (Some found) = found.slot
name_there env None name found none e is = part_there env.parts 0 name found none e

field_there : (env : Env) (field : List ℕ) (outer : Option Found) (found : Found) → ((o : Found) → outer ≡ Some o → o.slot ≡ None → ⊥) → found_field env field outer ≡ Some found → found.slot ≡ None → ⊥
field_there env field None found h e is = absurd cc
field_there env field (Some o) found h e is = h o refl (of_part o.slot o.offset _ e ∙ is) where
  of_part : (slot : Option Slot) (offset : ℕ) (part : Option Part) → found_part slot offset part ≡ Some found → slot ≡ found.slot
  of_part slot offset None e = absurd cc
  of_part slot offset (Some part) e = ap (λ (o : Option Found). slot_or o) e where
    slot_or : Option Found → Option Slot
    slot_or None = None
    slot_or (Some found) = found.slot

pub not_without_parts : (env : Env) (t : Target) (found : Found) → env.parts ≡ [] → found_at env t ≡ Some found → found.slot ≡ None → ⊥
not_without_parts env (target.Variable at variable) found none e is = name_there env (slot_named variable.text env.scope) variable.text found none e is
not_without_parts env (target.Field at variable field) found none e is =
    field_there env field.text (found_name env (slot_named variable.text env.scope) variable.text) found
    (λ o f. name_there env (slot_named variable.text env.scope) variable.text o none f) e is

-- ---- what is known of a place that was found

-- its variable is of the scope, and where it is of the state that may be read
pub record Known (K : Run) (env : Env) (o : Option Found) : Type 0 where
  pub slot : (found : Found) (slot : Slot) → o ≡ Some found → found.slot ≡ Some slot → IsSlot env.scope slot
  pub reads : (found : Found) → o ≡ Some found → found.slot ≡ None → has_state K.whole.setting.image K.here.code ≡ true
  pub writes : (found : Found) → o ≡ Some found → found.slot ≡ None → has_object K.whole.setting.image K.here.code ≡ true

or_not : {P Q : Type 0} → P ⊎ Q → (P → ⊥) → Q
or_not (inl p) h = absurd (h p)
or_not (inr q) h = q

pub known_at : (K : Run) (may : May) (env : Env) (t : Target) → Allowed K may env.parts → Known K env (found_at env t)
known_at K may env t allowed = record {
  slot = λ found slot e is. Rattle.mpl_gen_code.proofs.Scoped.slot_is env t found slot e is;
  reads = λ found e is. or_not allowed.reads (λ none. not_without_parts env t found none e is);
  writes = λ found e is. or_not allowed.writes (λ none. not_without_parts env t found none e is);
}

module _ (K : Run) (keeping : Keeping) (env : Env) (vs : List Arg) where
  abbrev text : List Instr
  text = text_at K.whole.setting.image K.here.code

  -- every place up to this one is one of the code
  abbrev pub Upto : ℕ → Type 0
  Upto q = (n : ℕ) → n ≤ q → is_place K.whole.setting.image K.here.code n ≡ true

  pub upto_before : (q m : ℕ) → m ≤ q → Upto q → Upto m
  upto_before q m h upto n le = upto n (omega arith)

  -- the words of a value are on top at a place
  abbrev pub ValueAt : ℕ → List ℤ → List (Flow Arg) → ℕ → Bool → Value → Store → Type 0
  ValueAt q ws fs words bool v s = Stands K keeping env vs s → length v.words ≡ words → v.is_bool ≡ bool → At K q (pushed v.words ws) fs vs s

  pub moved : {p q : ℕ} (ws : List ℤ) (fs : List (Flow Arg)) (s : Store) → p ≡ q → At K q ws fs vs s → At K p ws fs vs s
  moved ws fs s e = subst (λ n. At K n ws fs vs s) (sym e)

  pub of_stands : {s : Store} → Stands K keeping env vs s → (e : Rattle.mpl_value.specs.declared.body.BodyEnd.BodyEnd) → Halted K e s
  of_stands stands e = record { low = stands.low; within = λ _. stands.within; result = stands.result }

  -- ---- a variable that is used

  pub need_follows : {B : Type 0} (Q : B → Store → Type 0) (marked : Bool) (slot : Slot) (p m : ℕ) (ws : List ℤ) (fs : List (Flow Arg)) (s : Store) (h : List ℤ → CheckedStep B)
      → From text p (where_marked marked (need_of_slot (Some slot)) p) m → Scoped K env → IsSlot env.scope slot → Stands K keeping env vs s
      → ((words : List ℤ) → slice_get vs slot.number ≡ Some (arg.Know words) → length words ≡ words_of_shape env.declarations slot.shape → Comes K Q (h words s) → At K m ws fs vs s)
      → Comes K Q ((checked_force marked (held slot.number vs) >?> h) s) → At K p ws fs vs s
  need_follows Q marked slot p m ws fs s h from scoped is stands next c = by_held (held slot.number vs) refl marked from c where
    there : (slice_get vs slot.number ≡ Some (held slot.number vs)) × ArgFits (words_of_shape env.declarations slot.shape) (held slot.number vs)
    there = held_there _ vs slot.number _ stands.sized (size_here K env scoped slot is)

    by_held : (a : Arg) → held slot.number vs ≡ a → (marked : Bool) → From text p (where_marked marked (need_of_slot (Some slot)) p) m → Comes K Q ((checked_force marked a >?> h) s) → At K p ws fs vs s
    by_held (arg.Know words) e true from c =
        let got = there.0 ∙ ap Some e in
        needs_known K p ws fs vs s slot.number words got from.0
        (moved ws fs s from.1 (next words got (subst (ArgFits (words_of_shape env.declarations slot.shape)) e there.1) c))
    by_held (arg.Know words) e false from c =
        moved ws fs s from (next words (there.0 ∙ ap Some e) (subst (ArgFits (words_of_shape env.declarations slot.shape)) e there.1) c)
    by_held (arg.Trapped t) e true from c = needs_trapped K p ws fs vs s slot.number t (there.0 ∙ ap Some e) from.0 (c (of_stands stands _))
    by_held (arg.Trapped t) e false from c = absurd c
    by_held arg.Unknown e true from c = needs_unknown K p ws fs vs s slot.number (there.0 ∙ ap Some e) from.0 (c (of_stands stands _))
    by_held arg.Unknown e false from c = absurd c

  -- ---- a place that is read

  pub read_follows : (checking : Checking) (node : ℕ) (o : Option Found) (p q : ℕ) (ws : List ℤ) (fs : List (Flow Arg)) (s : Store) → From text p (read_code (checking.marks node) o p) q
      → Scoped K env → Known K env o → PlaceFits env o → Stands K keeping env vs s
      → Comes K (ValueAt q ws fs (words_of_found o) (is_bool_found o)) (checked_words checking node (option_map (location_at vs) o) s) → At K p ws fs vs s
  read_follows checking node None p q ws fs s from scoped known fits stands c = absurd fits
  read_follows checking node (Some found) p q ws fs s from scoped known fits stands c = by_slot found.slot refl from fits c where
    -- the place with this slot
    at_slot : Option Slot → Found
    at_slot slot = record found { slot = slot }

    by_slot : (slot : Option Slot) → found.slot ≡ slot → From text p (read_code (checking.marks node) (Some (at_slot slot)) p) q → found.offset + found.words ≤ words_of_base env slot
        → Comes K (ValueAt q ws fs found.words (is_bool found.type)) (checked_words checking node (Some (location_at vs (at_slot slot))) s) → At K p ws fs vs s
    by_slot None is from fits c =
        let parts = from_joined text (need_of (checking.marks node) (Some (at_slot None))) (one (instr.Fetch found.offset found.words)) p q from in
        let first : p ≡ parts.middle = nothing (checking.marks node) parts.middle parts.first in
        let inside : found.offset + found.words ≤ length s.state = let long = stands.long in omega arith in
        moved ws fs s first
        (fetches K parts.middle ws fs vs s found.offset found.words (known.reads found refl is) inside parts.second.0
        (moved _ fs s parts.second.1 (c stands (words_at_long found.offset found.words s.state inside) refl))) where
          nothing : (marked : Bool) (m : ℕ) → From text p (where_marked marked (need_of_slot None) p) m → p ≡ m
          nothing true m e = e
          nothing false m e = e
    by_slot (Some slot) is from fits c =
        let parts = from_joined text (need_of (checking.marks node) (Some (at_slot (Some slot)))) (one (instr.Load slot.number found.offset found.words)) p q from in
        need_follows (ValueAt q ws fs found.words (is_bool found.type)) (checking.marks node) slot p parts.middle ws fs s _ parts.first scoped (known.slot found slot refl is) stands
        (λ words got long d.
        let inside : found.offset + found.words ≤ length words = omega (arith, long, fits) in
        loads K parts.middle ws fs vs s slot.number found.offset found.words words got inside parts.second.0
        (moved _ fs s parts.second.1 (d stands (words_at_long found.offset found.words words inside) refl)))
        c
