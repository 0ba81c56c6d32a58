-- An expression at whose nodes no rule fails has a type.
use Rattle.std.proofs.Common.{◌≡◌, ℕ, Bool, true, false, List, [], ◌∷◌, Option, Some, None, if◌then◌else◌, refl, sym, ap, subst, ◌∙◌}
use Rattle.std.specs.Prelude.{is_some}
use Rattle.std.specs.Str.{bytes_eq}
use Rattle.mpl_ast.specs.declared.expression.Target.{Target}
use Rattle.mpl_ast.specs.declared.expression.Target.TheVariants as target
use Rattle.mpl_ast.specs.declared.place.At.{At}
use Rattle.mpl_ast.specs.declared.program.Declaration.{Declaration}
use Rattle.mpl_mean.specs.Levels.{BinaryOperator, Or, And}
use Rattle.mpl_mean.specs.Meaning.CallMeaning.{MayName}
use Rattle.mpl_mean.specs.Meaning.ExpressionMeaning.{Evaluates}
use Rattle.mpl_mean.specs.TypeRules.ExpressionRules.{can_be_indexed, is_one_value, is_struct}
use Rattle.mpl_mean.specs.Meaning.Layout.{Function, Part, dimension_of, function_named, part_named, words_of}
use Rattle.mpl_mean.specs.TypeRules.NameRules.{has_field, meant_has_field}
use Rattle.mpl_mean.specs.TypeRules.Nodes.{expr_nodes, target_nodes}
use Rattle.mpl_mean.specs.Plain.Expr.{Expr}
use Rattle.mpl_mean.specs.Plain.Expr as expr
use Rattle.mpl_mean.specs.TypeRules.Operations.{binary_operation, unary_operation}
use Rattle.mpl_mean.specs.TypeRules.Scopes.{is_main, plain_function, variable_of}
use Rattle.mpl_mean.specs.Laws.Sizes.{Every}
use Rattle.mpl_mean.specs.Meaning.Store.{Variable, variable_named}
use Rattle.mpl_mean.specs.TypeRules.Types.{Declared, InStruct, OfBool, OfClass, OfInt, OfStruct, Shape, AnArray, ARegular, OneValue, ValueType, declared_fields, first_named, is_int, meant, shape_of}
use Rattle.mpl_mean.specs.TypeRules.Typing.{shape_behind_dot, shape_of_field, target_shape, type_of, type_of_element, type_of_plain_call, type_of_whole}
use Rattle.mpl_mean.proofs.Sizes.SizedArguments.{function_of}
use Rattle.mpl_mean.proofs.Sizes.SizedForms.{Means, number, truth, own, input, whole, element, plain, parenthesized, unary, arithmetic, compares, or, and}
use Rattle.mpl_mean.proofs.Sizes.SizedPlaces.{struct_type, which}
use Rattle.mpl_mean.proofs.Sizes.SizedRules.{AllRight, Right, WellDeclared, every_left, every_right}
use Rattle.mpl_mean.proofs.Sizes.SizedSettings.{Matches, PlaceFits, Setting, environment}
use Rattle.mpl_mean.proofs.Sizes.SizedSteps.{Frame}
use Rattle.mpl_mean.proofs.Sizes.SizedTypes.{HasSize, WellProgram, binary_size, element_words, own_size, shape_words, size, unary_size, value_of_shape}

some_declared : {a b : Declared} → ◌≡◌ {A = Option Declared} (Some a) (Some b) → a ≡ b
some_declared e = cc

-- ---- the words of places

pub whole_size : {ds : List Declaration} → WellProgram ds → (d : Declared) (n : ℕ) (s : Option Shape) → shape_of ds (Some d) ≡ s → is_some s ≡ true → is_one_value s ≡ true
    → n ≡ words_of ds d.type (dimension_of d.dimension) → HasSize ds (type_of_whole s) n
whole_size well d n None e h i k = absurd cc
whole_size well d n (Some (OneValue t)) e h i k = k ∙ shape_words well d t e
whole_size well d n (Some (AnArray t)) e h i k = absurd cc
whole_size well d n (Some (ARegular items)) e h i k = absurd cc

int_index : (ds : List Declaration) (t i : ValueType) → size ds t ≡ 1 → is_int i ≡ true → HasSize ds (type_of_element (Some (AnArray t)) (Some i)) 1
int_index ds t i e h = subst (λ b. HasSize ds (if b then Some t else None) 1) (sym h) (sym e)

pub element_size : (ds : List Declaration) (d : Declared) (s : Option Shape) (i : Option ValueType) (n : ℕ) → shape_of ds (Some d) ≡ s → WellDeclared ds d → can_be_indexed s i ≡ true → HasSize ds i n
    → HasSize ds (type_of_element s i) 1
element_size ds d s None n e w c h = absurd h
element_size ds d None (Some i) n e w c h = absurd (none w.0) where
  none : is_some (shape_of ds (Some d)) ≡ true → ⊥
  none k = let j = subst (λ s. is_some s ≡ true) e k in cc
element_size ds d (Some (OneValue t)) (Some i) n e w c h = absurd cc
element_size ds d (Some (AnArray t)) (Some i) n e w c h = int_index ds t i (element_words ds d t e w.1) c
element_size ds d (Some (ARegular items)) (Some i) n e w c h = absurd cc

-- ---- plain functions

pub chosen_function : (b : Bool) (o : Option Function) → is_some (if b then None else o) ≡ true → (f : Function) × (b ≡ false) × (o ≡ Some f)
chosen_function true o e = absurd cc
chosen_function false None e = absurd cc
chosen_function false (Some f) e = (f, refl, refl)

-- ---- what is declared at a target

every_named : (Q : Declared → Type 0) (name : List ℕ) (ds : List Declared) (d : Declared) → Every Q ds → first_named name ds ≡ Some d → Q d
every_named Q name [] d h e = absurd cc
every_named Q name (c ∷ ds) d h e = chosen (bytes_eq c.name name) e (every_named Q name ds d h.1) where
  chosen : (b : Bool) → (if b then Some c else first_named name ds) ≡ Some d → (first_named name ds ≡ Some d → Q d) → Q d
  chosen true e k = subst Q (some_declared e) h.0
  chosen false e k = k e

pub place_well : (ds : List Declaration) (total : ℕ) (d : Declared) (v : Option Variable) (part : Option Part) → PlaceFits ds total (Some d) v part → WellDeclared ds d
place_well ds total d (Some v) part h = h.2
place_well ds total d None None h = absurd h
place_well ds total d None (Some part) h = h.well

field_declared : {ds : List Declaration} → WellProgram ds → (field : List ℕ) (d : Declared) (s : Option Shape) → shape_of ds (Some d) ≡ s → is_some s ≡ true → is_struct s ≡ true → has_field ds field s ≡ true
    → (f : Declared) × (shape_behind_dot ds field s ≡ shape_of ds (Some f)) × WellDeclared ds f
field_declared well field d None e i j k = absurd cc
field_declared {ds} well field d (Some (OneValue (OfStruct n))) e i j k =
    let v = value_of_shape d.role d.dimension (meant ds d.type) (OfStruct n) e in
    let st = struct_type well d.role d.type n v.1 in
    let f = which (first_named field (declared_fields InStruct st.fields)) (subst (λ m. meant_has_field field m ≡ true) st.meant k) in
    (f.0, ap (shape_of_field ds field) st.meant ∙ ap (shape_of ds) f.1, every_named (WellDeclared ds) field (declared_fields InStruct st.fields) f.0 st.well f.1)
field_declared well field d (Some (OneValue OfInt)) e i j k = absurd cc
field_declared well field d (Some (OneValue OfBool)) e i j k = absurd cc
field_declared well field d (Some (OneValue (OfClass n))) e i j k = absurd cc
field_declared well field d (Some (AnArray t)) e i j k = absurd cc
field_declared well field d (Some (ARegular items)) e i j k = absurd cc

module _ (G : Frame) (S : Setting) (well : WellProgram G.declarations) (blocks : List (List Declared)) (vs : List Variable) where
  abbrev There : Target → Type 0
  There t = (d : Declared) × (target_shape (environment G S blocks) t ≡ shape_of G.declarations (Some d)) × WellDeclared G.declarations d

  variable_there : (name : List ℕ) → Matches G S blocks vs → is_some (variable_of (environment G S blocks) name) ≡ true → (d : Declared) × (variable_of (environment G S blocks) name ≡ Some d) × WellDeclared G.declarations d
  variable_there name m known =
      let d = which (variable_of (environment G S blocks) name) known in (
        d.0,
        d.1,
        place_well G.declarations G.state_words d.0 (variable_named name vs) (part_named name S.context.state)
            (subst (λ d. PlaceFits G.declarations G.state_words d (variable_named name vs) (part_named name S.context.state)) d.1 (m name)),
      )

  pub target_there : (t : Target) → Matches G S blocks vs → AllRight (target_nodes (environment G S blocks) t) → There t
  target_there (target.Variable at name) m n = let d = variable_there name.text m n.0.known in (d.0, ap (shape_of G.declarations) d.1, d.2)
  target_there (target.Field at name field) m n =
      let d = variable_there name.text m n.0.known in
      let f = field_declared well field.text d.0 (shape_of G.declarations (Some d.0)) refl (d.2).0 (subst (λ o. is_struct (shape_of G.declarations o) ≡ true) d.1 n.1.0.of_struct)
      (subst (λ o. has_field G.declarations field.text (shape_of G.declarations o) ≡ true) d.1 n.1.1.0.known) in
      (f.0, ap (λ o. shape_behind_dot G.declarations field.text (shape_of G.declarations o)) d.1 ∙ f.1, f.2)

  sized_there : (t : Option ValueType) (n : ℕ) → HasSize G.declarations t n → is_some t ≡ true
  sized_there None n h = absurd h
  sized_there (Some t) n h = refl

  there_sized : (t : Option ValueType) → is_some t ≡ true → (n : ℕ) × HasSize G.declarations t n
  there_sized None e = absurd cc
  there_sized (Some t) e = (size G.declarations t, refl)

  abbrev Ready : Expr → Type 0
  Ready p = Matches G S blocks vs × AllRight (expr_nodes (environment G S blocks) p)

  abbrev Typed : Expr → Type 0
  Typed p = is_some (type_of (environment G S blocks) p) ≡ true

  both : (at : At) (line : ℕ) (o : BinaryOperator) (p q : Expr) → Ready (expr.Binary at line o p q) → (Ready p → Typed p) → (Ready q → Typed q) → Typed (expr.Binary at line o p q)
  both at line o p q r h k =
      let m = there_sized (type_of (environment G S blocks) p) (h (r.0, every_left Right (expr_nodes (environment G S blocks) p) (expr_nodes (environment G S blocks) q) (r.1).1)) in
      let n = there_sized (type_of (environment G S blocks) q) (k (r.0, every_right Right (expr_nodes (environment G S blocks) p) (expr_nodes (environment G S blocks) q) (r.1).1)) in
      sized_there _ 1 (binary_size G.declarations (binary_operation o) (type_of (environment G S blocks) p) (type_of (environment G S blocks) q) m.0 n.0 m.1 n.1 (r.1).0.operands)

  pub type_there : {v : Evaluates} {p : Expr} {m : MayName} → Means v p m → Ready p → Typed p
  type_there (number at z) r = refl
  type_there (truth at b) r = refl
  type_there (own at) r = sized_there _ 1 (own_size G.declarations S.body S.class (r.1).0.own)
  type_there (input at) r = refl
  type_there (whole at t) r =
      let d = target_there t r.0 (r.1).1 in
      sized_there _ (words_of G.declarations (d.0).type (dimension_of (d.0).dimension))
      (subst (λ k. HasSize G.declarations (type_of_whole k) (words_of G.declarations (d.0).type (dimension_of (d.0).dimension))) (sym d.1)
      (whole_size well d.0 _ (shape_of G.declarations (Some d.0)) refl (d.2).0 (subst (λ k. is_one_value k ≡ true) d.1 (r.1).0.place) refl))
  type_there (element {p = p} at line t m) r =
      let d = target_there t r.0 (every_left Right (target_nodes (environment G S blocks) t) (expr_nodes (environment G S blocks) p) (r.1).1) in
      let i = there_sized (type_of (environment G S blocks) p) (type_there m (r.0, every_right Right (target_nodes (environment G S blocks) t) (expr_nodes (environment G S blocks) p) (r.1).1)) in
      sized_there _ 1
      (subst (λ k. HasSize G.declarations (type_of_element k (type_of (environment G S blocks) p)) 1) (sym d.1)
      (element_size G.declarations d.0 (shape_of G.declarations (Some d.0)) (type_of (environment G S blocks) p) i.0 refl d.2
      (subst (λ k. can_be_indexed k (type_of (environment G S blocks) p) ≡ true) d.1 (r.1).0.index) i.1))
  type_there (plain at f m) r =
      let g = chosen_function (is_main f.text) (function_named f.text G.declarations) (r.1).0.known in
      let is : plain_function (environment G S blocks) f.text ≡ Some g.0 = ap (λ b. if b then None else function_named f.text G.declarations) g.1 ∙ g.2 in
      subst (λ o. is_some (type_of_plain_call G.declarations o) ≡ true) (sym is) (function_of G.declarations f.text g.0 G.declarations g.1 well.each g.2).result
  type_there (parenthesized at m) r = type_there m r
  type_there (unary {p = p} at line o m) r =
      let i = there_sized (type_of (environment G S blocks) p) (type_there m (r.0, (r.1).1)) in
      sized_there _ 1 (unary_size G.declarations (unary_operation o) (type_of (environment G S blocks) p) i.0 i.1 (r.1).0.operands)
  type_there (arithmetic {p = p} {q = q} at line operator o m n) r = both at line operator p q r (type_there m) (type_there n)
  type_there (compares {p = p} {q = q} at line operator o m n) r = both at line operator p q r (type_there m) (type_there n)
  type_there (or {p = p} {q = q} at line m n) r = both at line Or p q r (type_there m) (type_there n)
  type_there (and {p = p} {q = q} at line m n) r = both at line And p q r (type_there m) (type_there n)
