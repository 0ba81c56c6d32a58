-- The variables of a store, by the scope and what the variables of the frame hold.
use Rattle.std.proofs.Common.{◌≡◌, ◌≢◌, ◌≤◌, ℕ, zero, suc, Bool, true, false, List, [], ◌∷◌, ◌++◌, length, map, Option, Some, None, if◌then◌else◌, ◌⊎◌, refl, ap, sym, subst, ◌∙◌}
use Rattle.std.specs.FinMap.{get}
use Rattle.std.specs.List.{AllZip, slice_get}
use Rattle.std.specs.Option.{option_map}
use Rattle.std.specs.Str.{bytes_eq}
use Rattle.mpl_ast.specs.declared.expression.Target.{Target}
use Rattle.mpl_ast.specs.declared.expression.Target.TheVariants as target
use Rattle.mpl_ast.specs.declared.program.Declaration.{Declaration}
use Rattle.mpl_value.specs.declared.body.Arg.{Arg}
use Rattle.mpl_value.specs.declared.body.Arg.TheVariants as arg
use Rattle.mpl_value.specs.CallAnswers.{arg_of_reply}
use Rattle.mpl_mean.specs.Meaning.Context.{Callees, Context}
use Rattle.mpl_mean.specs.Meaning.Layout.{Part, part_named, parts_of_type, words_of_parts}
use Rattle.mpl_mean.specs.Meaning.PlaceMeaning.{Location, field_of_location, location_of, location_of_name, location_of_part}
use Rattle.mpl_mean.specs.Meaning.Store.{Store, Variable, variable_named}
use Rattle.mdf_code.specs.Parts.{given_words, has_object, has_state, is_main, may_post, may_send, sizes_at}
use Rattle.mdf_code.specs.Sizes.{ArgFits, ResultFits}
use Rattle.mpl_gen_code.specs.Fits.{May}
use Rattle.mpl_gen_code.specs.Scopes.{Env, Found, Slot, found_at, found_field, found_name, found_part, slot_named, words_of_shape}
use Rattle.mpl_gen_code.proofs.Reaching.{Keeping, Keeps, Run}

-- ---- what variables hold

-- the variable of a number
abbrev pub held : ℕ → List Arg → Arg
held n [] = arg.Unknown
held zero (value ∷ values) = value
held (suc n) (value ∷ values) = held n values

abbrev pub variable_of : List Arg → Slot → Variable
variable_of values slot = record { name = slot.shape.name; type = slot.shape.type; dimension = slot.shape.dimension; holds = held slot.number values }

abbrev pub variables_of : List Arg → List Slot → List Variable
variables_of values scope = map (variable_of values) scope

abbrev pub location_at : List Arg → Found → Location
location_at values found = record {
  variable = option_map (variable_of values) found.slot;
  offset = found.offset;
  words = found.words;
  type = found.type;
  is_whole = found.is_whole;
}

-- ---- what holds of a scope

abbrev pub IsApart : ℕ → List Slot → Type 0
IsApart n [] = Unit {0}
IsApart n (slot ∷ slots) = (slot.number ≢ n) × IsApart n slots

-- each variable has its own number, and at that its size
abbrev pub WellScoped : List Declaration → List ℕ → List Slot → Type 0
WellScoped ds sizes [] = Unit {0}
WellScoped ds sizes (slot ∷ slots) = (slice_get sizes slot.number ≡ Some (words_of_shape ds slot.shape)) × IsApart slot.number slots × WellScoped ds sizes slots

pub record IsFrontOf {A : Type 0} (front whole : List A) : Type 0 where
  pub rest : List A
  pub is : whole ≡ front ++ rest

-- what is known of a scope before the run
pub record Scoped (K : Run) (env : Env) : Type 0 where
  pub sizes : IsFrontOf env.sizes (sizes_at K.whole.setting.image K.here.code)
  pub scope : WellScoped env.declarations env.sizes env.scope

-- ---- what a code may do

-- the replies of the machine are those of the table
abbrev pub Replied : Run → Type 0
Replied K = (call : ℕ) → K.whole.setting.replies call ≡ arg_of_reply (get K.whole.table call)

pub record Allowed (K : Run) (may : May) (parts : List Part) : Type 0 where
  pub input : may.input ≡ true → is_main K.here.code ≡ true
  pub own : may.own ≡ true → (has_object K.whole.setting.image K.here.code ≡ true) × (K.here.object ≡ K.whole.setting.object)
  pub sends : may.sends ≡ true → may_send K.here.code ≡ true
  pub posts : may.posts ≡ true → (may_post K.whole.setting.image K.here.code ≡ true) × (K.here.number ≡ K.whole.setting.number) × (K.whole.vowed ≡ K.whole.table) × Replied K
  pub gives : (words : ℕ) → may.gives ≡ Some words → (given_words K.whole.setting.image K.here.code ≡ Some words) × (K.whole.given ≡ Some words)
  pub reads : (parts ≡ []) ⊎ (has_state K.whole.setting.image K.here.code ≡ true)
  pub writes : (parts ≡ []) ⊎ (has_object K.whole.setting.image K.here.code ≡ true)

-- ---- a store in a scope

-- a store of a scope whose variables hold these, within the turns of a run
pub record Stands (K : Run) (keeping : Keeping) (env : Env) (values : List Arg) (s : Store) : Type 0 where
  pub agree : s.variables ≡ variables_of values env.scope
  pub sized : AllZip ArgFits (sizes_at K.whole.setting.image K.here.code) values
  pub keeps : Keeps keeping s.state
  pub long : words_of_parts env.parts ≤ length s.state
  pub low : K.low ≤ s.turns
  pub within : s.turns ≤ K.whole.setting.turns
  pub result : ResultFits K.whole.given s.result

-- what a frame's body runs in
abbrev pub context_of : Run → Callees → Env → Context
context_of K callees env = record {
  declarations = env.declarations;
  turns = K.whole.setting.turns;
  members = env.members;
  state = env.parts;
  object = K.here.object;
  number = K.here.number;
  replies = K.whole.table;
  callees = callees;
}

-- ---- look-up

named_first : (b : Bool) (values : List Arg) (slot : Slot) (v : Option Variable) (found : Option Slot) → v ≡ option_map (variable_of values) found
    → (if b then Some (variable_of values slot) else v) ≡ option_map (variable_of values) (if b then Some slot else found)
named_first true values slot v found h = refl
named_first false values slot v found h = h

pub named : (name : List ℕ) (scope : List Slot) (values : List Arg) → variable_named name (variables_of values scope) ≡ option_map (variable_of values) (slot_named name scope)
named name [] values = refl
named name (slot ∷ scope) values = named_first (bytes_eq slot.shape.name name) values slot _ _ (named name scope values)

part_located : (values : List Arg) (slot : Option Slot) (offset : ℕ) (part : Option Part)
    → location_of_part (option_map (variable_of values) slot) offset part ≡ option_map (location_at values) (found_part slot offset part)
part_located values slot offset None = refl
part_located values slot offset (Some part) = refl

name_located : (K : Run) (callees : Callees) (env : Env) (values : List Arg) (slot : Option Slot) (name : List ℕ)
    → location_of_name (context_of K callees env) (option_map (variable_of values) slot) name ≡ option_map (location_at values) (found_name env slot name)
name_located K callees env values (Some slot) name = refl
name_located K callees env values None name = part_located values None 0 (part_named name env.parts)

field_located : (K : Run) (callees : Callees) (env : Env) (values : List Arg) (field : List ℕ) (found : Option Found)
    → field_of_location (context_of K callees env) field (option_map (location_at values) found) ≡ option_map (location_at values) (found_field env field found)
field_located K callees env values field None = refl
field_located K callees env values field (Some found) = part_located values found.slot found.offset (part_named field (parts_of_type env.declarations found.type))

-- what a target stands for, as it was found before the run
pub located : (K : Run) (keeping : Keeping) (callees : Callees) (env : Env) (values : List Arg) (s : Store) (t : Target) → Stands K keeping env values s
    → location_of (context_of K callees env) t s ≡ option_map (location_at values) (found_at env t)
located K keeping callees env values s (target.Variable at variable) stands =
    ap (λ all. location_of_name (context_of K callees env) (variable_named variable.text all) variable.text) stands.agree
    ∙ ap (λ v. location_of_name (context_of K callees env) v variable.text) (named variable.text env.scope values)
    ∙ name_located K callees env values (slot_named variable.text env.scope) variable.text
located K keeping callees env values s (target.Field at variable field) stands =
    ap (λ all. field_of_location (context_of K callees env) field.text (location_of_name (context_of K callees env) (variable_named variable.text all) variable.text)) stands.agree
    ∙ ap (λ v. field_of_location (context_of K callees env) field.text (location_of_name (context_of K callees env) v variable.text)) (named variable.text env.scope values)
    ∙ ap (field_of_location (context_of K callees env) field.text) (name_located K callees env values (slot_named variable.text env.scope) variable.text)
    ∙ field_located K callees env values field.text (found_name env (slot_named variable.text env.scope) variable.text)

-- ---- which slots a place can have

-- a slot of the scope
pub record IsSlot (scope : List Slot) (slot : Slot) : Type 0 where
  pub name : List ℕ
  pub named : slot_named name scope ≡ Some slot

some_is : {A : Type 0} {a b : A} → Some a ≡ Some b → a ≡ b
some_is e = cc

-- of two, by a test
pub one_of : {A : Type 0} (P : Type 0) (b : Bool) (x y : Option A) (z : Option A) → (if b then x else y) ≡ z → (b ≡ true → x ≡ z → P) → (b ≡ false → y ≡ z → P) → P
one_of P true x y z e here there = here refl e
one_of P false x y z e here there = there refl e

part_slot : (slot : Option Slot) (offset : ℕ) (part : Option Part) (found : Found) → found_part slot offset part ≡ Some found → found.slot ≡ slot
part_slot slot offset None found e = absurd cc
part_slot slot offset (Some part) found e = sym (ap Found.slot (some_is e))

name_slot : (env : Env) (slot : Option Slot) (name : List ℕ) (found : Found) → found_name env slot name ≡ Some found → found.slot ≡ slot
name_slot env (Some slot) name found e = sym (ap Found.slot (some_is e))
name_slot env None name found e = part_slot None 0 _ found e

field_slot : (env : Env) (field : List ℕ) (outer : Option Found) (slot : Option Slot) (found : Found) → ((o : Found) → outer ≡ Some o → o.slot ≡ slot)
    → found_field env field outer ≡ Some found → found.slot ≡ slot
field_slot env field None slot found h e = absurd cc
field_slot env field (Some o) slot found h e = part_slot o.slot o.offset _ found e ∙ h o refl

pub slot_is : (env : Env) (t : Target) (found : Found) (slot : Slot) → found_at env t ≡ Some found → found.slot ≡ Some slot → IsSlot env.scope slot
slot_is env (target.Variable at variable) found slot e is =
    record { name = variable.text; named = sym (name_slot env (slot_named variable.text env.scope) variable.text found e) ∙ is }
slot_is env (target.Field at variable field) found slot e is =
    record { name = variable.text; named = sym (field_slot env field.text _ (slot_named variable.text env.scope) found (name_slot env (slot_named variable.text env.scope) variable.text) e) ∙ is }

-- a slot of the scope has its size
pub slot_sized : (ds : List Declaration) (sizes : List ℕ) (scope : List Slot) (slot : Slot) (name : List ℕ) → WellScoped ds sizes scope → slot_named name scope ≡ Some slot
    → slice_get sizes slot.number ≡ Some (words_of_shape ds slot.shape)
slot_sized ds sizes [] slot name well e = absurd cc
slot_sized ds sizes (first ∷ scope) slot name well e =
    one_of (slice_get sizes slot.number ≡ Some (words_of_shape ds slot.shape)) (bytes_eq first.shape.name name) (Some first) (slot_named name scope) (Some slot) e
    (λ _ this. ap (λ (o : Slot). slice_get sizes o.number) (sym (some_is this)) ∙ well.0 ∙ ap (λ (o : Slot). Some (words_of_shape ds o.shape)) (some_is this))
    (λ _ rest. slot_sized ds sizes scope slot name well.2 rest)

-- the front of a list is read in the whole
pub got_in_front : {A : Type 0} (front rest : List A) (n : ℕ) (x : A) → slice_get front n ≡ Some x → slice_get (front ++ rest) n ≡ Some x
got_in_front [] rest n x e = absurd cc
got_in_front (y ∷ front) rest zero x e = e
got_in_front (y ∷ front) rest (suc n) x e = got_in_front front rest n x e

pub size_here : (K : Run) (env : Env) → Scoped K env → (slot : Slot) → IsSlot env.scope slot
    → slice_get (sizes_at K.whole.setting.image K.here.code) slot.number ≡ Some (words_of_shape env.declarations slot.shape)
size_here K env scoped slot is =
    ap (λ (all : List ℕ). slice_get all slot.number) scoped.sizes.is
    ∙ got_in_front env.sizes scoped.sizes.rest slot.number _ (slot_sized env.declarations env.sizes env.scope slot is.name scoped.scope is.named)

-- ---- what is held

-- where there is a size there is a variable that holds what fits
pub held_there : (sizes : List ℕ) (values : List Arg) (n size : ℕ) → AllZip ArgFits sizes values → slice_get sizes n ≡ Some size
    → (slice_get values n ≡ Some (held n values)) × ArgFits size (held n values)
held_there [] values n size fit e = absurd cc
held_there (k ∷ sizes) [] n size fit e = absurd fit
held_there (k ∷ sizes) (value ∷ values) zero size fit e = (refl, subst (λ (m : ℕ). ArgFits m value) (some_is e) fit.0)
held_there (k ∷ sizes) (value ∷ values) (suc n) size fit e = held_there sizes values n size fit.1 e
