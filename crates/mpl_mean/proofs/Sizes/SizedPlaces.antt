-- Where the words of a place lie, and how many there are.
use Rattle.std.proofs.Common.{◌≡◌, ℕ, ◌+◌, ◌≤◌, Bool, true, false, List, [], length, Option, Some, None, if◌then◌else◌, nat_lt, ℤ, pos, negsuc, refl, sym, ap, subst, ◌∙◌, arith}
use Rattle.std.proofs.lemmas.Bool.Decides.{nat_tests}
use Rattle.std.specs.Prelude.{is_some}
use Rattle.mpl_ast.specs.declared.class.Field.{Field}
use Rattle.mpl_ast.specs.declared.expression.Target.{Target}
use Rattle.mpl_ast.specs.declared.expression.Target.TheVariants as target
use Rattle.mpl_ast.specs.declared.program.Declaration.{Declaration}
use Rattle.mpl_ast.specs.declared.statement.TypeName.{TypeName}
use Rattle.mpl_ast.specs.declared.statement.TypeName.TheVariants as type
use Rattle.mpl_value.specs.declared.body.Arg.TheVariants.{Know}
use Rattle.mpl_mean.specs.TypeRules.ExpressionRules.{is_struct}
use Rattle.mpl_mean.specs.Meaning.Layout.{Part, dimension_of, part_named, parts_of, parts_of_meant, parts_of_type, words_of, words_of_fields, words_of_one, words_of_parts}
use Rattle.mpl_mean.specs.TypeRules.NameRules.{has_field, meant_has_field}
use Rattle.mpl_mean.specs.TypeRules.Nodes.{target_nodes}
use Rattle.mpl_mean.specs.Meaning.PlaceMeaning.{Location, base_of, field_of_location, index_of, put, location_of, location_of_name, location_of_part, tested_index, words_of_location}
use Rattle.mpl_value.specs.Words.{index_below}
use Rattle.mpl_mean.specs.TypeRules.Scopes.{variable_of}
use Rattle.mpl_mean.specs.Laws.Sizes.{Every}
use Rattle.mpl_mean.specs.Meaning.Store.{Step, Variable, variable_named}
use Rattle.mpl_value.specs.Words.{with_words}
use Rattle.mpl_mean.specs.TypeRules.Types.{AClass, ABool, AnInt, AStruct, Declared, InStruct, Meant, OfBool, OfClass, OfInt, OfStruct, AnArray, ARegular, OneValue, Role, Shape, ValueType, declared_fields, first_named, is_field, meant, meant_by, shape_of, value_type}
use Rattle.mpl_mean.specs.TypeRules.Types as types
use Rattle.mpl_mean.specs.TypeRules.Typing.{shape_behind_dot, shape_of_field, target_shape}
use Rattle.mpl_mean.specs.Meaning.Values.{Value}
use Rattle.mpl_mean.proofs.Sizes.SizedParts.{PartFits, parts_fit, struct_words}
use Rattle.mpl_mean.proofs.Sizes.SizedRules.{AllRight, WellDeclared}
use Rattle.mpl_mean.proofs.Sizes.SizedSettings.{FoundAs, Matches, PlaceFits, Setting, VariableOf, environment, inside, look_keeps}
use Rattle.mpl_mean.proofs.Sizes.SizedSteps.{Frame, Keeps, VariableFits, bare, force_keeps, from_premise, give_keeps, so_keeps, stop_keeps, then_keeps, variable_words}
use Rattle.mpl_mean.proofs.Sizes.SizedStores.{hold_keeps, restates_keeps, state_keeps, with_words_long, words_at_long}
use Rattle.mpl_mean.proofs.Sizes.SizedTypes.{WellProgram, not_bool, not_int, struct_of, value_of_shape}

-- ---- structs

pub record StructOf (ds : List Declaration) (name : List ℕ) (t : TypeName) : Type 0 where
  pub fields : List Field
  pub meant : meant_by name ds ≡ AStruct name fields
  pub parts : parts_of_type ds t ≡ parts_of ds fields
  pub words : words_of ds t None ≡ words_of_fields fields
  pub well : Every (WellDeclared ds) (declared_fields InStruct fields)

struct_name : {a b : List ℕ} → ◌≡◌ {A = Option ValueType} (Some (OfStruct a)) (Some (OfStruct b)) → a ≡ b
struct_name e = cc

pub struct_type : {ds : List Declaration} → WellProgram ds → (role : Role) (t : TypeName) (n : List ℕ) → value_type role (meant ds t) ≡ Some (OfStruct n) → StructOf ds n t
struct_type well role (type.Int at) n e = absurd cc
struct_type well role (type.Bool at) n e = absurd cc
struct_type {ds} well role (type.Named at name) n e = named (meant_by name.text ds) refl e where
  named : (m : Meant) → meant_by name.text ds ≡ m → value_type role m ≡ Some (OfStruct n) → StructOf ds n (type.Named at name)
  named AnInt i e = absurd (not_int name.text ds i)
  named ABool i e = absurd (not_bool name.text ds i)
  named (AStruct k fields) i e = field (is_field role) e where
    field : (b : Bool) → (if b then None else Some (OfStruct k)) ≡ Some (OfStruct n) → StructOf ds n (type.Named at name)
    field true e = absurd cc
    field false e =
        let h = struct_of well name.text k fields i in
        let same = struct_name e in
        let text : name.text ≡ n = h.0 ∙ same in
        record {
          fields = fields;
          meant = subst (λ w. meant_by w ds ≡ AStruct n fields) text (i ∙ ap (λ w. AStruct w fields) same);
          parts = ap (parts_of_meant ds) i;
          words = ap words_of_one i;
          well = h.1;
        }
  named (AClass k true items) i e = absurd cc
  named (AClass k false items) i e = absurd cc
  named types.Nothing i e = absurd cc

-- ---- spots

-- the words of a spot are among those of its variable, or of the state
abbrev pub BaseFits : Type 0 → List Declaration → ℕ → List Variable → Option Variable → ℕ → ℕ → Bool → Type 0
BaseFits W ds total vs None offset words is_whole = offset + words ≤ total
BaseFits W ds total vs (Some v) offset words is_whole =
    (offset + words ≤ variable_words ds v) × VariableFits W ds v × (variable_named v.name vs ≡ Some (bare v)) × (is_whole ≡ true → words ≡ variable_words ds v)

pub record SpotFits (W : Type 0) (ds : List Declaration) (total : ℕ) (vs : List Variable) (d : Declared) (location : Location) : Type 0 where
  pub type : location.type ≡ d.type
  pub words : location.words ≡ words_of ds d.type (dimension_of d.dimension)
  pub base : BaseFits W ds total vs location.variable location.offset location.words location.is_whole
  pub well : WellDeclared ds d

abbrev pub SpotMaybe : Type 0 → List Declaration → ℕ → List Variable → Option Declared → Option Location → Type 0
SpotMaybe W ds total vs None None = Unit {0}
SpotMaybe W ds total vs None (Some location) = ⊥
SpotMaybe W ds total vs (Some d) None = ⊥
SpotMaybe W ds total vs (Some d) (Some location) = SpotFits W ds total vs d location

part_location : (W : Type 0) (ds : List Declaration) (total : ℕ) (vs : List Variable) (d : Option Declared) (part : Option Part) → PartFits ds total d part → SpotMaybe W ds total vs d (location_of_part None 0 part)
part_location W ds total vs None None h = tt
part_location W ds total vs None (Some part) h = absurd h
part_location W ds total vs (Some d) None h = absurd h
part_location W ds total vs (Some d) (Some part) h = let i = h.inside in record { type = h.type; words = h.words; base = omega arith; well = h.well }

variable_location : (W : Type 0) (ds : List Declaration) (total : ℕ) (vs : List Variable) (v : Variable) (d : Option Declared) → VariableOf ds d (bare v) → VariableFits W ds v → variable_named v.name vs ≡ Some (bare v)
    → SpotMaybe W ds total vs d (Some (record { variable = Some v; offset = 0; words = words_of ds v.type v.dimension; type = v.type; is_whole = true }))
variable_location W ds total vs v None h f e = absurd h
variable_location W ds total vs v (Some d) h f e = record {
  type = h.0;
  words = ap (λ t. words_of ds t v.dimension) h.0 ∙ ap (words_of ds d.type) h.1;
  base = (omega arith, f, e, λ _. refl);
  well = h.2;
}

name_location : (G : Frame) (S : Setting) (blocks : List (List Declared)) (vs : List Variable) (name : List ℕ) (v : Option Variable) → Matches G S blocks vs
    → FoundAs G.MayWait G.declarations (variable_named name vs) name v
    → SpotMaybe G.MayWait G.declarations G.state_words vs (variable_of (environment G S blocks) name) (location_of_name (inside G S) v name)
name_location G S blocks vs name None m f =
    part_location G.MayWait G.declarations G.state_words vs (variable_of (environment G S blocks) name) (part_named name S.context.state)
    (subst (λ u. PlaceFits G.declarations G.state_words (variable_of (environment G S blocks) name) u (part_named name S.context.state)) f (m name))
name_location G S blocks vs name (Some v) m f =
    variable_location G.MayWait G.declarations G.state_words vs v (variable_of (environment G S blocks) name)
    (subst (λ u. PlaceFits G.declarations G.state_words (variable_of (environment G S blocks) name) u (part_named name S.context.state)) f.0 (m name)) f.1
    (ap (λ w. variable_named w vs) f.2 ∙ f.0)

-- what is known of the place of a target
pub record SpotRight (G : Frame) (S : Setting) (blocks : List (List Declared)) (vs : List Variable) (t : Target) (location : Option Location) : Type 0 where
  pub declared : Declared
  pub shape : target_shape (environment G S blocks) t ≡ shape_of G.declarations (Some declared)
  pub fits : SpotMaybe G.MayWait G.declarations G.state_words vs (Some declared) location

pub field_base : (W : Type 0) (ds : List Declaration) (total : ℕ) (vs : List Variable) (v : Option Variable) (offset words more size : ℕ) (is_whole : Bool) → BaseFits W ds total vs v offset words is_whole → more + size ≤ words
    → BaseFits W ds total vs v (offset + more) size false
field_base W ds total vs None offset words more size is_whole h k = omega arith
field_base W ds total vs (Some v) offset words more size is_whole h k = let i = h.0 in (omega arith, h.1, h.2, λ e. absurd cc)

field_part : (W : Type 0) (ds : List Declaration) (total : ℕ) (vs : List Variable) (location : Location) (d : Declared) (f : Declared) (part : Option Part) → SpotFits W ds total vs d location → (n : ℕ) → n ≡ location.words → PartFits ds n (Some f) part
    → SpotMaybe W ds total vs (Some f) (location_of_part location.variable location.offset part)
field_part W ds total vs location d f None h n e k = absurd k
field_part W ds total vs location d f (Some part) h n e k =
    let i = k.inside in
    record { type = k.type; words = k.words; base = field_base W ds total vs location.variable location.offset location.words part.offset part.words location.is_whole h.base (omega arith); well = k.well }

pub which : {A : Type 0} (o : Option A) → is_some o ≡ true → (a : A) × (o ≡ Some a)
which None e = absurd cc
which (Some a) e = (a, refl)

-- a field of a variable that is a struct
field_location : (G : Frame) (S : Setting) (blocks : List (List Declared)) (vs : List Variable) (well : WellProgram G.declarations) (variable field : List ℕ) (d : Option Declared) (location : Option Location)
    → is_some d ≡ true → is_struct (shape_of G.declarations d) ≡ true → has_field G.declarations field (shape_of G.declarations d) ≡ true → SpotMaybe G.MayWait G.declarations G.state_words vs d location
    → (f : Declared) × (shape_behind_dot G.declarations field (shape_of G.declarations d) ≡ shape_of G.declarations (Some f)) × SpotMaybe G.MayWait G.declarations G.state_words vs (Some f) (field_of_location (inside G S) field location)
field_location G S blocks vs well variable field None location i j k h = absurd cc
field_location G S blocks vs well variable field (Some d) None i j k h = absurd h
field_location G S blocks vs well variable field (Some d) (Some location) i j k h = shaped (shape_of G.declarations (Some d)) refl h.well.0 j k where
  shaped : (s : Option Shape) → shape_of G.declarations (Some d) ≡ s → is_some s ≡ true → is_struct s ≡ true → has_field G.declarations field s ≡ true
      → (f : Declared) × (shape_behind_dot G.declarations field s ≡ shape_of G.declarations (Some f)) × SpotMaybe G.MayWait G.declarations G.state_words vs (Some f) (field_of_location (inside G S) field (Some location))
  shaped None e i j k = absurd cc
  shaped (Some (OneValue (OfStruct n))) e i j k =
      let v = value_of_shape d.role d.dimension (meant G.declarations d.type) (OfStruct n) e in
      let st = struct_type well d.role d.type n v.1 in
      let f = which (first_named field (declared_fields InStruct st.fields)) (subst (λ m. meant_has_field field m ≡ true) st.meant k) in
      let parts : parts_of_type G.declarations location.type ≡ parts_of G.declarations st.fields = ap (parts_of_type G.declarations) h.type ∙ st.parts in
      let total : words_of_parts (parts_of G.declarations st.fields) ≡ location.words =
      struct_words well 0 st.fields st.well ∙ (sym st.words ∙ (ap (λ n. words_of G.declarations d.type (dimension_of n)) (sym v.0) ∙ sym h.words)) in
      let part : PartFits G.declarations (words_of_parts (parts_of G.declarations st.fields)) (Some f.0) (part_named field (parts_of G.declarations st.fields)) =
      subst (λ o. PartFits G.declarations (words_of_parts (parts_of G.declarations st.fields)) o (part_named field (parts_of G.declarations st.fields))) f.1
      (parts_fit G.declarations (words_of_parts (parts_of G.declarations st.fields)) field InStruct 0 st.fields st.well (omega arith)) in (
        f.0,
        ap (shape_of_field G.declarations field) st.meant ∙ ap (shape_of G.declarations) f.1,
        field_part G.MayWait G.declarations G.state_words vs location d f.0 (part_named field (parts_of_type G.declarations location.type)) h (words_of_parts (parts_of G.declarations st.fields)) total
            (subst (λ ps. PartFits G.declarations (words_of_parts (parts_of G.declarations st.fields)) (Some f.0) (part_named field ps)) (sym parts) part),
      )
  shaped (Some (OneValue OfInt)) e i j k = absurd cc
  shaped (Some (OneValue OfBool)) e i j k = absurd cc
  shaped (Some (OneValue (OfClass n))) e i j k = absurd cc
  shaped (Some (AnArray t)) e i j k = absurd cc
  shaped (Some (ARegular items)) e i j k = absurd cc

-- a step that begins with a look at a place
pub location_keeps : (G : Frame) (S : Setting) (well : WellProgram G.declarations) (blocks : List (List Declared)) (vs : List Variable) {P : Type 0} {A : Type 0} {V : A → Type 0} (t : Target) (h : Option Location → Step A)
    → (P → Matches G S blocks vs) → (P → AllRight (target_nodes (environment G S blocks) t)) → ((location : Option Location) → Keeps G vs (P × SpotRight G S blocks vs t location) A V (h location))
    → Keeps G vs P A V (λ s. h (location_of (inside G S) t s) s)
location_keeps G S well blocks vs {P} (target.Variable at name) h m n r =
    look_keeps G vs name.text (λ v. h (location_of_name (inside G S) v name.text))
    (λ v. from_premise G vs (λ p. (p.0, right v p)) (r (location_of_name (inside G S) v name.text))) where
      right : (v : Option Variable) → P × FoundAs G.MayWait G.declarations (variable_named name.text vs) name.text v → SpotRight G S blocks vs (target.Variable at name) (location_of_name (inside G S) v name.text)
      right v p =
          let d = which (variable_of (environment G S blocks) name.text) (n p.0).0.known in
          record {
            declared = d.0;
            shape = ap (shape_of G.declarations) d.1;
            fits = subst (λ d. SpotMaybe G.MayWait G.declarations G.state_words vs d (location_of_name (inside G S) v name.text)) d.1 (name_location G S blocks vs name.text v (m p.0) p.1);
          }
location_keeps G S well blocks vs {P} (target.Field at name field) h m n r =
    look_keeps G vs name.text (λ v. h (field_of_location (inside G S) field.text (location_of_name (inside G S) v name.text)))
    (λ v. from_premise G vs (λ p. (p.0, right v p)) (r (field_of_location (inside G S) field.text (location_of_name (inside G S) v name.text)))) where
      right : (v : Option Variable) → P × FoundAs G.MayWait G.declarations (variable_named name.text vs) name.text v
          → SpotRight G S blocks vs (target.Field at name field) (field_of_location (inside G S) field.text (location_of_name (inside G S) v name.text))
      right v p =
          let nodes = n p.0 in
          let f = field_location G S blocks vs well name.text field.text (variable_of (environment G S blocks) name.text) (location_of_name (inside G S) v name.text) nodes.0.known nodes.1.0.of_struct nodes.1.1.0.known
          (name_location G S blocks vs name.text v (m p.0) p.1) in
          record { declared = f.0; shape = f.1; fits = f.2 }

-- ---- reading and storing

same_location : {a b : Location} → ◌≡◌ {A = Option Location} (Some a) (Some b) → a ≡ b
same_location e = cc

pub base_keeps : (G : Frame) (vs : List Variable) {P : Type 0} (v : Option Variable) (offset words : ℕ) (is_whole : Bool) → (P → BaseFits G.MayWait G.declarations G.state_words vs v offset words is_whole)
    → Keeps G vs P (List ℤ) (λ ws. offset + words ≤ length ws) (base_of v)
base_keeps G vs None offset words is_whole h = so_keeps G vs (λ p. p) (λ ws p e. let i = h p in omega arith) (state_keeps G vs)
base_keeps G vs (Some v) offset words is_whole h = so_keeps G vs (λ p. p) (λ ws p e. let i = (h p).0 in omega arith) (force_keeps G vs (variable_words G.declarations v) v.holds (λ p. (h p).1))

pub words_keeps : (G : Frame) (S : Setting) (blocks : List (List Declared)) (vs : List Variable) {P : Type 0} (t : Target) (location : Option Location) → (P → SpotRight G S blocks vs t location)
    → Keeps G vs P Value (λ v. (s : Location) → location ≡ Some s → length v.words ≡ s.words) (words_of_location location)
words_keeps G S blocks vs t None r = give_keeps G vs _ (λ p s e. absurd cc)
words_keeps G S blocks vs t (Some location) r =
    then_keeps G vs (base_keeps G vs location.variable location.offset location.words location.is_whole (λ p. (r p).fits.base))
    (λ words. give_keeps G vs _ (λ p s e. words_at_long location.offset location.words words p.1 ∙ ap (λ (o : Location). o.words) (same_location e)))

pub put_keeps : (G : Frame) (vs : List Variable) {P : Type 0} (v : Option Variable) (offset : ℕ) (is_whole : Bool) (new : List ℤ)
    → (P → (words : ℕ) × (length new ≤ words) × BaseFits G.MayWait G.declarations G.state_words vs v offset words is_whole) → Keeps G vs P (Unit {0}) (λ _. Unit {0}) (put v offset new)
put_keeps G vs None offset is_whole new h = restates_keeps G vs offset new (λ p. let i = h p in let j = i.1 in let k = i.2 in omega arith)
put_keeps G vs (Some v) offset is_whole new h =
    so_keeps G vs (λ p. p) (λ a p e. tt)
    (then_keeps G vs (force_keeps G vs (variable_words G.declarations v) v.holds (λ p. (h p).2.1))
    (λ old. hold_keeps G vs v.name (Know (with_words offset new old))
    (λ p.
    let i = h p.0 in
    let e = p.1 in
    let j = i.1 in
    let k = i.2.0 in
    (bare v, i.2.2, with_words_long offset new old (omega arith) ∙ e))))

tested_keeps : (G : Frame) (vs : List Variable) {P : Type 0} (line dimension : ℕ) (o : Option ℕ) → ((n : ℕ) → o ≡ Some n → n + 1 ≤ dimension) → Keeps G vs P ℕ (λ n. n + 1 ≤ dimension) (tested_index line o)
tested_keeps G vs line dimension None h = stop_keeps G vs _ (λ p. tt)
tested_keeps G vs line dimension (Some n) h = give_keeps G vs n (λ p. h n refl)

index_inside : (dimension : ℕ) (z : ℤ) (n : ℕ) → index_below dimension z ≡ Some n → n + 1 ≤ dimension
index_inside dimension (pos k) n e = chosen (nat_lt k dimension) refl e where
  chosen : (b : Bool) → nat_lt k dimension ≡ b → (if b then Some k else None) ≡ Some n → n + 1 ≤ dimension
  chosen true i e = let j : k ≡ n = cc in let l : k + 1 ≤ dimension = grind (arith, nat_tests) in omega arith
  chosen false i e = absurd cc
index_inside dimension (negsuc k) n e = absurd cc

pub index_keeps : (G : Frame) (vs : List Variable) {P : Type 0} (line dimension : ℕ) (z : ℤ) → Keeps G vs P ℕ (λ n. n + 1 ≤ dimension) (index_of line dimension z)
index_keeps G vs line dimension z = tested_keeps G vs line dimension (index_below dimension z) (index_inside dimension z)
