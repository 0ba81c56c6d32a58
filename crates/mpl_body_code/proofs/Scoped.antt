-- The variables of a store, by the scope and what they hold.
use Rattle.std.proofs.Common.{◌≡◌, ◌≤◌, ◌<◌, ℕ, zero, suc, Bool, true, false, List, [], ◌∷◌, length, Option, Some, None, if◌then◌else◌, refl, ap, sym, arith, ◌∙◌}
use Rattle.std.proofs.lemmas.Bool.{eq-eqb, ne_eqb}
use Rattle.mpl_mean.proofs.Truth.{some_is}
use Rattle.std.specs.Option.{option_map}
use Rattle.std.specs.Str.{bytes_eq}
use Rattle.mpl_ast.specs.declared.expression.Target.{Target}
use Rattle.mpl_ast.specs.declared.expression.Target.TheVariants as target
use Rattle.mpl_value.specs.declared.body.Arg.{Arg}
use Rattle.mpl_mean.specs.Meaning.Context.{Callees, Context}
use Rattle.mpl_mean.specs.Meaning.Layout.{Part, part_named, parts_of_type}
use Rattle.mpl_mean.specs.Meaning.PlaceMeaning.{Location, field_of_location, location_of, location_of_name, location_of_part}
use Rattle.mpl_mean.specs.Meaning.Store.{Store, Variable, variable_named}
use Rattle.std.specs.FinMap.{empty}
use Rattle.mpl_body_code.specs.Machine.{held}
use Rattle.mpl_mean.specs.Plain.Scopes.{Env, Found, Shape, Slot, found_at, found_field, found_name, found_part, slot_named}
use Rattle.mpl_body_code.proofs.Reaching.{Run}

abbrev pub variable_of : Shape → Arg → Variable
variable_of shape holds = record { name = shape.name; type = shape.type; dimension = shape.dimension; holds = holds }

abbrev pub variables_of : List Shape → List Arg → List Variable
variables_of [] slots = []
variables_of (shape ∷ scope) [] = []
variables_of (shape ∷ scope) (holds ∷ slots) = variable_of shape holds ∷ variables_of scope slots

abbrev pub variable_at : List Arg → Slot → Variable
variable_at slots slot = variable_of slot.shape (held slot.number slots)

abbrev pub location_at : List Arg → Found → Location
location_at slots found = record {
  variable = option_map (variable_at slots) found.slot;
  offset = found.offset;
  words = found.words;
  type = found.type;
  is_whole = found.is_whole;
}

-- a store of a scope whose variables hold these, within the turns of a run
pub record Stands (K : Run) (scope : List Shape) (slots : List Arg) (s : Store) : Type 0 where
  pub agree : s.variables ≡ variables_of scope slots
  pub sized : length scope ≡ length slots
  pub low : K.low ≤ s.turns
  pub within : s.turns ≤ K.setting.turns

-- what a frame's body runs in
abbrev pub context_of : Run → Callees → Env → Context
context_of K callees env = record {
  declarations = env.declarations;
  turns = K.setting.turns;
  members = env.members;
  state = env.parts;
  object = K.around.object;
  number = K.around.number;
  replies = if K.answered then K.setting.replies else empty;
  callees = callees;
}

-- ---- numbers

pub if_true : {A : Type 0} {b : Bool} (x y : A) → b ≡ true → (if b then x else y) ≡ x
if_true x y e = ap (λ b. if b then x else y) e

pub if_false : {A : Type 0} {b : Bool} (x y : A) → b ≡ false → (if b then x else y) ≡ y
if_false x y e = ap (λ b. if b then x else y) e

held_here : (n : ℕ) (holds : Arg) (older : List Arg) → n ≡ length older → held n (holds ∷ older) ≡ holds
held_here n holds older e = if_true holds (held n older) (eq-eqb n (length older) e)

held_below : (n : ℕ) (holds : Arg) (older : List Arg) → n < length older → held n (holds ∷ older) ≡ held n older
held_below n holds older h = if_false holds (held n older) (ne_eqb n (length older) (λ e. absurd (let e' : n ≡ length older = e in omega arith)))

-- ---- look-up

number_below : (b : Bool) (shape : Shape) (older : List Shape) (other : Option Slot) (slot : Slot)
    → (if b then Some (record { number = length older; shape = shape }) else other) ≡ Some slot → (other ≡ Some slot → slot.number < length older) → slot.number < suc (length older)
number_below true shape older other slot e h = let n : length older ≡ slot.number = ap Slot.number (some_is e) in omega arith
number_below false shape older other slot e h = let below = h e in omega arith

pub slot_below : (name : List ℕ) (scope : List Shape) (slot : Slot) → slot_named name scope ≡ Some slot → slot.number < length scope
slot_below name [] slot e = absurd cc
slot_below name (shape ∷ older) slot e = number_below (bytes_eq shape.name name) shape older (slot_named name older) slot e (slot_below name older slot)

seen_below : (shapes : List Shape) (holds : Arg) (slots : List Arg) (found : Option Slot) → ((slot : Slot) → found ≡ Some slot → slot.number < length slots)
    → option_map (variable_at slots) found ≡ option_map (variable_at (holds ∷ slots)) found
seen_below shapes holds slots None h = refl
seen_below shapes holds slots (Some slot) h = ap (λ a. Some (variable_of slot.shape a)) (sym (held_below slot.number holds slots (h slot refl)))

named_first : (b : Bool) (shape : Shape) (holds : Arg) (scope : List Shape) (slots : List Arg) (v : Option Variable) (found : Option Slot) → length scope ≡ length slots
    → v ≡ option_map (variable_at (holds ∷ slots)) found
    → (if b then Some (variable_of shape holds) else v) ≡ option_map (variable_at (holds ∷ slots)) (if b then Some (record { number = length scope; shape = shape }) else found)
named_first true shape holds scope slots v found e h = ap (λ a. Some (variable_of shape a)) (sym (held_here (length scope) holds slots e))
named_first false shape holds scope slots v found e h = h

one_less : {a b : ℕ} → suc a ≡ suc b → a ≡ b
one_less e = omega arith

pub named : (name : List ℕ) (scope : List Shape) (slots : List Arg) → length scope ≡ length slots
    → variable_named name (variables_of scope slots) ≡ option_map (variable_at slots) (slot_named name scope)
named name [] slots e = refl
named name (shape ∷ scope) [] e = absurd (let e' : suc (length scope) ≡ zero = e in omega arith)
named name (shape ∷ scope) (holds ∷ slots) e =
    named_first (bytes_eq shape.name name) shape holds scope slots _ _ (one_less e)
    (named name scope slots (one_less e) ∙ seen_below scope holds slots (slot_named name scope) (λ slot is. let below = slot_below name scope slot is in let sized : length scope ≡ length slots = one_less e in omega arith))

part_located : (slots : List Arg) (slot : Option Slot) (offset : ℕ) (part : Option Part)
    → location_of_part (option_map (variable_at slots) slot) offset part ≡ option_map (location_at slots) (found_part slot offset part)
part_located slots slot offset None = refl
part_located slots slot offset (Some part) = refl

name_located : (K : Run) (callees : Callees) (env : Env) (slots : List Arg) (slot : Option Slot) (name : List ℕ)
    → location_of_name (context_of K callees env) (option_map (variable_at slots) slot) name ≡ option_map (location_at slots) (found_name env slot name)
name_located K callees env slots (Some slot) name = refl
name_located K callees env slots None name = part_located slots None 0 (part_named name env.parts)

field_located : (K : Run) (callees : Callees) (env : Env) (slots : List Arg) (field : List ℕ) (found : Option Found)
    → field_of_location (context_of K callees env) field (option_map (location_at slots) found) ≡ option_map (location_at slots) (found_field env field found)
field_located K callees env slots field None = refl
field_located K callees env slots field (Some found) = part_located slots found.slot found.offset (part_named field (parts_of_type env.declarations found.type))

-- what a target stands for, as it was found before the run
pub located : (K : Run) (callees : Callees) (env : Env) (slots : List Arg) (s : Store) (t : Target) → Stands K env.scope slots s
    → location_of (context_of K callees env) t s ≡ option_map (location_at slots) (found_at env t)
located K callees env slots s (target.Variable at variable) stands =
    ap (λ all. location_of_name (context_of K callees env) (variable_named variable.text all) variable.text) stands.agree
    ∙ ap (λ v. location_of_name (context_of K callees env) v variable.text) (named variable.text env.scope slots stands.sized)
    ∙ name_located K callees env slots (slot_named variable.text env.scope) variable.text
located K callees env slots s (target.Field at variable field) stands =
    ap (λ all. field_of_location (context_of K callees env) field.text (location_of_name (context_of K callees env) (variable_named variable.text all) variable.text)) stands.agree
    ∙ ap (λ v. field_of_location (context_of K callees env) field.text (location_of_name (context_of K callees env) v variable.text)) (named variable.text env.scope slots stands.sized)
    ∙ ap (field_of_location (context_of K callees env) field.text) (name_located K callees env slots (slot_named variable.text env.scope) variable.text)
    ∙ field_located K callees env slots field.text (found_name env (slot_named variable.text env.scope) variable.text)
