-- In typed programs a place is found, with the words of what is declared there.
use Rattle.std.proofs.Common.{◌≡◌, ℕ, ◌+◌, ◌≤◌, Bool, true, false, List, [], ◌∷◌, map, Option, Some, None, if◌then◌else◌, refl, sym, ap, subst, ◌∙◌, arith}
use Rattle.std.specs.Prelude.{is_some}
use Rattle.std.specs.Str.{bytes_eq}
use Rattle.mpl_ast.specs.declared.class.Field.{Field}
use Rattle.mpl_ast.specs.declared.expression.Target.{Target}
use Rattle.mpl_ast.specs.declared.expression.Target.TheVariants as target
use Rattle.mpl_ast.specs.declared.program.Declaration.{Declaration}
use Rattle.mpl_value.specs.declared.body.Arg.TheVariants.{Unknown}
use Rattle.mpl_mean.specs.Meaning.Layout.{Member, Part, dimension_of, part_named, parts_of, parts_of_type, words_of, words_of_parts}
use Rattle.mpl_mean.specs.Meaning.Store.{Variable, variable_named}
use Rattle.mpl_mean.specs.TypeRules.ExpressionRules.{is_struct}
use Rattle.mpl_mean.specs.TypeRules.NameRules.{has_field, meant_has_field}
use Rattle.mpl_mean.specs.TypeRules.Nodes.{target_nodes}
use Rattle.mpl_mean.specs.TypeRules.Scopes.{variable_of}
use Rattle.mpl_mean.specs.TypeRules.Types.{AnArray, ARegular, Declared, InStruct, OfBool, OfClass, OfInt, OfStruct, OneValue, Shape as TypeShape, declared_fields, first_named, meant, shape_of}
use Rattle.mpl_mean.specs.TypeRules.Typing.{shape_behind_dot, shape_of_field, target_shape}
use Rattle.mpl_mean.proofs.Sizes.SizedParts.{PartFits, parts_fit, struct_words}
use Rattle.mpl_mean.proofs.Sizes.SizedPlaces.{struct_type, which}
use Rattle.mpl_mean.proofs.Sizes.SizedRules.{AllRight, WellDeclared}
use Rattle.mpl_mean.proofs.Sizes.SizedSettings.{Matches, PlaceFits, Setting, environment}
use Rattle.mpl_mean.proofs.Sizes.SizedSteps.{Frame}
use Rattle.mpl_mean.proofs.Sizes.SizedTypes.{WellProgram, value_of_shape}
use Rattle.mpl_mean.proofs.Sizes.SizedTyping.{place_well}
use Rattle.mpl_gen_code.specs.Fits.{words_of_base}
use Rattle.mpl_gen_code.specs.Scopes.{Env, Finish, Found, Shape, Slot, found_at, found_field, found_name, found_part, slot_named}

-- the variable that is declared, without what it holds
abbrev pub declared_variable : Shape → Variable
declared_variable shape = record { name = shape.name; type = shape.type; dimension = shape.dimension; holds = Unknown }

abbrev pub variables_of : List Slot → List Variable
variables_of = map (λ (slot : Slot). declared_variable slot.shape)

abbrev IsVariable : Option Slot → Option Variable → Type 0
IsVariable None None = Unit {0}
IsVariable None (Some v) = ⊥
IsVariable (Some slot) None = ⊥
IsVariable (Some slot) (Some v) = (slot.shape.type ≡ v.type) × (slot.shape.dimension ≡ v.dimension)

slot_is_variable : (name : List ℕ) (scope : List Slot) → IsVariable (slot_named name scope) (variable_named name (variables_of scope))
slot_is_variable name [] = tt
slot_is_variable name (slot ∷ older) = chosen (bytes_eq slot.shape.name name) (slot_is_variable name older) where
  chosen : (b : Bool) → IsVariable (slot_named name older) (variable_named name (variables_of older))
      → IsVariable (if b then Some slot else slot_named name older) (if b then Some (declared_variable slot.shape) else variable_named name (variables_of older))
  chosen true h = (refl, refl)
  chosen false h = h

-- what is found is what is declared
pub record FoundIs (env : Env) (d : Declared) (found : Found) : Type 0 where
  pub type : found.type ≡ d.type
  pub words : found.words ≡ words_of env.declarations d.type (dimension_of d.dimension)
  pub inside : found.offset + found.words ≤ words_of_base env found.slot
  pub well : WellDeclared env.declarations d

abbrev pub FoundFits : Env → Option Declared → Option Found → Type 0
FoundFits env None None = Unit {0}
FoundFits env None (Some found) = ⊥
FoundFits env (Some d) None = ⊥
FoundFits env (Some d) (Some found) = FoundIs env d found

part_found : (env : Env) (total : ℕ) (d : Option Declared) (part : Option Part) → total ≤ words_of_parts env.parts → PartFits env.declarations total d part → FoundFits env d (found_part None 0 part)
part_found env total None None l h = tt
part_found env total None (Some part) l h = absurd h
part_found env total (Some d) None l h = absurd h
part_found env total (Some d) (Some part) l h = let i = h.inside in record { type = h.type; words = h.words; inside = omega arith; well = h.well }

name_found : (env : Env) (total : ℕ) (name : List ℕ) (d : Option Declared) (slot : Option Slot) (v : Option Variable) → total ≤ words_of_parts env.parts → IsVariable slot v
    → PlaceFits env.declarations total d v (part_named name env.parts) → FoundFits env d (found_name env slot name)
name_found env total name d None None l i h = part_found env total d (part_named name env.parts) l h
name_found env total name d None (Some v) l i h = absurd i
name_found env total name d (Some slot) None l i h = absurd i
name_found env total name None (Some slot) (Some v) l i h = absurd h
name_found env total name (Some d) (Some slot) (Some v) l i h = record {
  type = i.0 ∙ h.0;
  words = ap (λ t. words_of env.declarations t slot.shape.dimension) (i.0 ∙ h.0) ∙ ap (words_of env.declarations d.type) (i.1 ∙ h.1);
  inside = omega arith;
  well = h.2;
}

-- a field of a variable that is a struct
module _ (env : Env) (well : WellProgram env.declarations) (field : List ℕ) (d : Declared) where
  abbrev ds : List Declaration
  ds = env.declarations

  part_inside : (f : Declared) (o : Found) (part : Option Part) (total : ℕ) → total ≡ o.words → FoundIs env d o → PartFits ds total (Some f) part
      → FoundFits env (Some f) (found_part o.slot o.offset part)
  part_inside f o None total e h p = absurd p
  part_inside f o (Some part) total e h p =
      let i = p.inside in
      let j = h.inside in
      record { type = p.type; words = p.words; inside = omega arith; well = p.well }

  in_struct : (fields : List Field) (f : Declared) (o : Option Found) → FoundFits env (Some d) o → words_of_parts (parts_of ds fields) ≡ words_of ds d.type (dimension_of d.dimension)
      → PartFits ds (words_of_parts (parts_of ds fields)) (Some f) (part_named field (parts_of_type ds d.type))
      → FoundFits env (Some f) (found_field env field o)
  in_struct fields f None h e p = absurd h
  in_struct fields f (Some o) h e p =
      part_inside f o (part_named field (parts_of_type ds o.type)) (words_of_parts (parts_of ds fields)) (e ∙ sym h.words) h
      (subst (λ t. PartFits ds (words_of_parts (parts_of ds fields)) (Some f) (part_named field (parts_of_type ds t))) (sym h.type) p)

  field_found : (found : Option Found) → is_some (shape_of ds (Some d)) ≡ true → is_struct (shape_of ds (Some d)) ≡ true → has_field ds field (shape_of ds (Some d)) ≡ true
      → FoundFits env (Some d) found
      → (f : Declared) × (shape_behind_dot ds field (shape_of ds (Some d)) ≡ shape_of ds (Some f)) × FoundFits env (Some f) (found_field env field found)
  field_found found i j k h = shaped (shape_of ds (Some d)) refl i j k where
    shaped : (s : Option TypeShape) → shape_of ds (Some d) ≡ s → is_some s ≡ true → is_struct s ≡ true → has_field ds field s ≡ true
        → (f : Declared) × (shape_behind_dot ds field s ≡ shape_of ds (Some f)) × FoundFits env (Some f) (found_field env field found)
    shaped None e i j k = absurd cc
    shaped (Some (OneValue (OfStruct n))) e i j k =
        let v = value_of_shape d.role d.dimension (meant ds d.type) (OfStruct n) e in
        let st = struct_type well d.role d.type n v.1 in
        let f = which (first_named field (declared_fields InStruct st.fields)) (subst (λ m. meant_has_field field m ≡ true) st.meant k) in
        let total : words_of_parts (parts_of ds st.fields) ≡ words_of ds d.type (dimension_of d.dimension) =
        struct_words well 0 st.fields st.well ∙ (sym st.words ∙ ap (λ n. words_of ds d.type (dimension_of n)) (sym v.0)) in
        let part : PartFits ds (words_of_parts (parts_of ds st.fields)) (Some f.0) (part_named field (parts_of ds st.fields)) =
        subst (λ o. PartFits ds (words_of_parts (parts_of ds st.fields)) o (part_named field (parts_of ds st.fields))) f.1
        (parts_fit ds (words_of_parts (parts_of ds st.fields)) field InStruct 0 st.fields st.well (omega arith)) in (
          f.0,
          ap (shape_of_field ds field) st.meant ∙ ap (shape_of ds) f.1,
          in_struct st.fields f.0 found h total
              (subst (λ ps. PartFits ds (words_of_parts (parts_of ds st.fields)) (Some f.0) (part_named field ps)) (sym st.parts) part),
        )
    shaped (Some (OneValue OfInt)) e i j k = absurd cc
    shaped (Some (OneValue OfBool)) e i j k = absurd cc
    shaped (Some (OneValue (OfClass n))) e i j k = absurd cc
    shaped (Some (AnArray t)) e i j k = absurd cc
    shaped (Some (ARegular items)) e i j k = absurd cc

-- what of a body's surroundings stays
pub record Kept : Type 0 where
  pub marks : ℕ → Bool
  pub finish : Finish
  pub members : List Member

abbrev pub env_in : Frame → Setting → Kept → List Slot → List ℕ → Env
env_in G S K scope sizes = record {
  declarations = G.declarations;
  marks = K.marks;
  finish = K.finish;
  members = K.members;
  parts = S.context.state;
  scope = scope;
  sizes = sizes;
}

module _ (G : Frame) (S : Setting) (K : Kept) (well : WellProgram G.declarations) (total : G.state_words ≤ words_of_parts S.context.state) (blocks : List (List Declared)) (scope : List Slot) (sizes : List ℕ)
    (m : Matches G S blocks (variables_of scope)) where
  abbrev env : Env
  env = env_in G S K scope sizes

  variable_found : (name : List ℕ) → FoundFits env (variable_of (environment G S blocks) name) (found_name env (slot_named name scope) name)
  variable_found name =
      name_found env G.state_words name (variable_of (environment G S blocks) name) (slot_named name scope) (variable_named name (variables_of scope)) total (slot_is_variable name scope) (m name)

  variable_well : (name : List ℕ) (d : Declared) → variable_of (environment G S blocks) name ≡ Some d → WellDeclared G.declarations d
  variable_well name d e =
      place_well G.declarations G.state_words d (variable_named name (variables_of scope)) (part_named name S.context.state)
      (subst (λ d. PlaceFits G.declarations G.state_words d (variable_named name (variables_of scope)) (part_named name S.context.state)) e (m name))

  pub target_found : (t : Target) → AllRight (target_nodes (environment G S blocks) t)
      → (d : Declared) × (target_shape (environment G S blocks) t ≡ shape_of G.declarations (Some d)) × FoundFits env (Some d) (found_at env t)
  target_found (target.Variable at name) n =
      let d = which (variable_of (environment G S blocks) name.text) n.0.known in (
        d.0,
        ap (shape_of G.declarations) d.1,
        subst (λ d. FoundFits env d (found_name env (slot_named name.text scope) name.text)) d.1 (variable_found name.text),
      )
  target_found (target.Field at name field) n =
      let d = which (variable_of (environment G S blocks) name.text) n.0.known in
      let is : is_struct (shape_of G.declarations (Some d.0)) ≡ true = subst (λ o. is_struct (shape_of G.declarations o) ≡ true) d.1 n.1.0.of_struct in
      let has : has_field G.declarations field.text (shape_of G.declarations (Some d.0)) ≡ true = subst (λ o. has_field G.declarations field.text (shape_of G.declarations o) ≡ true) d.1 n.1.1.0.known in
      let f = field_found env well field.text d.0 (found_name env (slot_named name.text scope) name.text) (variable_well name.text d.0 d.1).0 is has
      (subst (λ d. FoundFits env d (found_name env (slot_named name.text scope) name.text)) d.1 (variable_found name.text)) in
      (f.0, ap (λ o. shape_behind_dot G.declarations field.text (shape_of G.declarations o)) d.1 ∙ f.1, f.2)
