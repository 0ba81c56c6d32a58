-- In typed programs each call in place in an expression has as many arguments as formals.
use Rattle.std.proofs.Common.{◌≡◌, ℕ, Bool, true, false, List, [], ◌∷◌, length, map, Option, Some, None, if◌then◌else◌, refl, sym, ap, subst, ◌∙◌, arith}
use Rattle.std.specs.Option.{option_and_then}
use Rattle.std.specs.Prelude.{is_some}
use Rattle.std.specs.Str.{bytes_eq}
use Rattle.mpl_ast.specs.declared.expression.Target.{Target}
use Rattle.mpl_ast.specs.declared.expression.Target.TheVariants as target
use Rattle.mpl_ast.specs.declared.place.Name.{Name}
use Rattle.mpl_ast.specs.declared.program.Declaration.{Declaration}
use Rattle.mpl_value.specs.declared.body.Arg.TheVariants.{Unknown}
use Rattle.mpl_mean.specs.Meaning.Layout.{Class, Member, Part, class_of_type, member_named, part_named, parts_of, parts_of_type, words_of_parts}
use Rattle.mpl_mean.specs.Meaning.Store.{Variable, variable_named}
use Rattle.mpl_mean.specs.TypeRules.CallRules.{can_be_called, member_takes}
use Rattle.mpl_mean.specs.TypeRules.ExpressionRules.{is_struct}
use Rattle.mpl_mean.specs.Plain.Expr.{Expr, Exprs}
use Rattle.mpl_mean.specs.Plain.Expr as expr
use Rattle.mpl_mean.specs.TypeRules.NameRules.{has_field, meant_has_field}
use Rattle.mpl_mean.specs.TypeRules.Nodes.{call_nodes, expr_nodes, nodes_of_each, statement_call_nodes, target_nodes}
use Rattle.mpl_mean.specs.TypeRules.Scopes.{variable_of}
use Rattle.mpl_mean.specs.TypeRules.Types.{AnArray, ARegular, Declared, InStruct, OfBool, OfClass, OfInt, OfStruct, OneValue, Shape as TypeShape, ValueType, declared_fields, first_named, meant, shape_of}
use Rattle.mpl_mean.specs.TypeRules.Typing.{items_called, member_called, member_of, shape_behind_dot, shape_of_field, target_shape, types_of}
use Rattle.mpl_mean.proofs.Sizes.SizedCallees.{MemberOf, callees_of, class_at}
use Rattle.mpl_mean.proofs.Sizes.SizedParts.{PartFits, parts_fit}
use Rattle.mpl_mean.proofs.Sizes.SizedPlaces.{struct_type, which}
use Rattle.mpl_mean.proofs.Sizes.SizedRules.{AllRight, Right, WellDeclared, every_left, every_right}
use Rattle.mpl_mean.proofs.Sizes.SizedSettings.{CalleesMatch, Matches, PlaceFits, Setting, environment}
use Rattle.mpl_mean.proofs.Sizes.SizedSteps.{Frame}
use Rattle.mpl_mean.proofs.Sizes.SizedTypes.{WellProgram, value_of_shape}
use Rattle.mpl_mean.proofs.Sizes.SizedTyping.{place_well}
use Rattle.mpl_mean.proofs.Truth.{both_true}
use Rattle.mpl_plain.specs.Arity.{ClassTakes, ExprFits, ExprsFit, IndexFits, MemberTakes, count_of}
use Rattle.mpl_mean.specs.Plain.Scopes.{Env, Found, Shape, Slot, class_found, found_at, found_field, found_name, found_part, slot_named}
use Rattle.mpl_plain.proofs.FittingExpressions.{formals_counted, plain_takes, types_counted}

-- ---- places

-- the variable that is declared, without what it holds
abbrev pub declared_variable : Shape → Variable
declared_variable shape = record { name = shape.name; type = shape.type; dimension = shape.dimension; holds = Unknown }

abbrev pub variables_of : List Shape → List Variable
variables_of = map declared_variable

abbrev IsVariable : Option Slot → Option Variable → Type 0
IsVariable None None = Unit {0}
IsVariable None (Some v) = ⊥
IsVariable (Some slot) None = ⊥
IsVariable (Some slot) (Some v) = slot.shape.type ≡ v.type

slot_is_variable : (name : List ℕ) (scope : List Shape) → IsVariable (slot_named name scope) (variable_named name (variables_of scope))
slot_is_variable name [] = tt
slot_is_variable name (shape ∷ older) = chosen (bytes_eq shape.name name) (slot_is_variable name older) where
  chosen : (b : Bool) → IsVariable (slot_named name older) (variable_named name (variables_of older))
      → IsVariable (if b then Some (record { number = length older; shape = shape }) else slot_named name older) (if b then Some (declared_variable shape) else variable_named name (variables_of older))
  chosen true h = refl
  chosen false h = h

-- what is found has the type of what is declared
abbrev pub FoundFits : List Declaration → Option Declared → Option Found → Type 0
FoundFits ds d None = Unit {0}
FoundFits ds None (Some found) = ⊥
FoundFits ds (Some d) (Some found) = (found.type ≡ d.type) × WellDeclared ds d

part_found : (ds : List Declaration) (total : ℕ) (d : Option Declared) (slot : Option Slot) (offset : ℕ) (part : Option Part) → PartFits ds total d part → FoundFits ds d (found_part slot offset part)
part_found ds total d slot offset None h = tt
part_found ds total None slot offset (Some part) h = absurd h
part_found ds total (Some d) slot offset (Some part) h = (h.type, h.well)

name_found : (total : ℕ) (env : Env) (name : List ℕ) (d : Option Declared) (slot : Option Slot) (v : Option Variable) → IsVariable slot v
    → PlaceFits env.declarations total d v (part_named name env.parts) → FoundFits env.declarations d (found_name env slot name)
name_found total env name d None None i h = part_found env.declarations total d None 0 (part_named name env.parts) h
name_found total env name d None (Some v) i h = absurd i
name_found total env name d (Some slot) None i h = absurd i
name_found total env name None (Some slot) (Some v) i h = absurd h
name_found total env name (Some d) (Some slot) (Some v) i h = (i ∙ h.0, h.2)

-- a field of a variable that is a struct
field_found : (env : Env) → WellProgram env.declarations → (field : List ℕ) (d : Declared) (found : Option Found)
    → is_some (shape_of env.declarations (Some d)) ≡ true → is_struct (shape_of env.declarations (Some d)) ≡ true → has_field env.declarations field (shape_of env.declarations (Some d)) ≡ true
    → FoundFits env.declarations (Some d) found
    → (f : Declared) × (shape_behind_dot env.declarations field (shape_of env.declarations (Some d)) ≡ shape_of env.declarations (Some f)) × FoundFits env.declarations (Some f) (found_field env field found)
field_found env well field d found i j k h = shaped (shape_of env.declarations (Some d)) refl i j k where
  ds : List Declaration
  ds = env.declarations

  in_struct : (fields : _) (f : Declared) (o : Option Found) → FoundFits ds (Some d) o → ((t : _) → t ≡ d.type → PartFits ds (words_of_parts (parts_of ds fields)) (Some f) (part_named field (parts_of_type ds t)))
      → FoundFits ds (Some f) (found_field env field o)
  in_struct fields f None h p = tt
  in_struct fields f (Some o) h p = part_found ds (words_of_parts (parts_of ds fields)) (Some f) o.slot o.offset (part_named field (parts_of_type ds o.type)) (p o.type h.0)

  shaped : (s : Option TypeShape) → shape_of ds (Some d) ≡ s → is_some s ≡ true → is_struct s ≡ true → has_field ds field s ≡ true
      → (f : Declared) × (shape_behind_dot ds field s ≡ shape_of ds (Some f)) × FoundFits ds (Some f) (found_field env field found)
  shaped None e i j k = absurd cc
  shaped (Some (OneValue (OfStruct n))) e i j k =
      let v = value_of_shape d.role d.dimension (meant ds d.type) (OfStruct n) e in
      let st = struct_type well d.role d.type n v.1 in
      let f = which (first_named field (declared_fields InStruct st.fields)) (subst (λ m. meant_has_field field m ≡ true) st.meant k) in
      let part : PartFits ds (words_of_parts (parts_of ds st.fields)) (Some f.0) (part_named field (parts_of ds st.fields)) =
      subst (λ o. PartFits ds (words_of_parts (parts_of ds st.fields)) o (part_named field (parts_of ds st.fields))) f.1
      (parts_fit ds (words_of_parts (parts_of ds st.fields)) field InStruct 0 st.fields st.well (omega arith)) in (
        f.0,
        ap (shape_of_field ds field) st.meant ∙ ap (shape_of ds) f.1,
        in_struct st.fields f.0 found h (λ t same.
            subst (λ ps. PartFits ds (words_of_parts (parts_of ds st.fields)) (Some f.0) (part_named field ps)) (sym (ap (parts_of_type ds) same ∙ st.parts)) part),
      )
  shaped (Some (OneValue OfInt)) e i j k = absurd cc
  shaped (Some (OneValue OfBool)) e i j k = absurd cc
  shaped (Some (OneValue (OfClass n))) e i j k = absurd cc
  shaped (Some (AnArray t)) e i j k = absurd cc
  shaped (Some (ARegular items)) e i j k = absurd cc

-- ---- calls

members_counted : (ds : List Declaration) (R : Member → Type 0) (ts : List (Option ValueType)) (n o : Option Member) → CalleesMatch ds R n o → member_takes ds n ts ≡ true → MemberTakes o (length ts)
members_counted ds R ts n None c h = tt
members_counted ds R ts None (Some m) c h = absurd c
members_counted ds R ts (Some n) (Some m) c h = ap length c.0.formals ∙ formals_counted ds ts n.formals h

module _ (G : Frame) (S : Setting) (well : WellProgram G.declarations) (ms : List Member) where
  abbrev pub env_of : List Shape → Env
  env_of scope = record { declarations = G.declarations; members = ms; parts = S.context.state; scope = scope }

  module _ (blocks : List (List Declared)) (scope : List Shape) (m : Matches G S blocks (variables_of scope)) where
    variable_found : (name : List ℕ) → FoundFits G.declarations (variable_of (environment G S blocks) name) (found_name (env_of scope) (slot_named name scope) name)
    variable_found name =
        name_found G.state_words (env_of scope) name (variable_of (environment G S blocks) name) (slot_named name scope) (variable_named name (variables_of scope)) (slot_is_variable name scope) (m name)

    variable_well : (name : List ℕ) (d : Declared) → variable_of (environment G S blocks) name ≡ Some d → WellDeclared G.declarations d
    variable_well name d e =
        place_well G.declarations G.state_words d (variable_named name (variables_of scope)) (part_named name S.context.state)
        (subst (λ d. PlaceFits G.declarations G.state_words d (variable_named name (variables_of scope)) (part_named name S.context.state)) e (m name))

    pub target_found : (t : Target) → AllRight (target_nodes (environment G S blocks) t)
        → (d : Declared) × (target_shape (environment G S blocks) t ≡ shape_of G.declarations (Some d)) × FoundFits G.declarations (Some d) (found_at (env_of scope) t)
    target_found (target.Variable at name) n =
        let d = which (variable_of (environment G S blocks) name.text) n.0.known in (
          d.0,
          ap (shape_of G.declarations) d.1,
          subst (λ d. FoundFits G.declarations d (found_name (env_of scope) (slot_named name.text scope) name.text)) d.1 (variable_found name.text),
        )
    target_found (target.Field at name field) n =
        let d = which (variable_of (environment G S blocks) name.text) n.0.known in
        let is : is_struct (shape_of G.declarations (Some d.0)) ≡ true = subst (λ o. is_struct (shape_of G.declarations o) ≡ true) d.1 n.1.0.of_struct in
        let has : has_field G.declarations field.text (shape_of G.declarations (Some d.0)) ≡ true = subst (λ o. has_field G.declarations field.text (shape_of G.declarations o) ≡ true) d.1 n.1.1.0.known in
        let f = field_found (env_of scope) well field.text d.0 (found_name (env_of scope) (slot_named name.text scope) name.text) (variable_well name.text d.0 d.1).0 is has
        (subst (λ d. FoundFits G.declarations d (found_name (env_of scope) (slot_named name.text scope) name.text)) d.1 (variable_found name.text)) in
        (f.0, ap (λ o. shape_behind_dot G.declarations field.text (shape_of G.declarations o)) d.1 ∙ f.1, f.2)

    class_takes : (at : ℕ) (t : Target) (member : Name) (ps : Exprs) (n : ℕ) → AllRight (call_nodes at (environment G S blocks) (Some t) member ps) → length (types_of (environment G S blocks) ps) ≡ n
        → ClassTakes (class_found (env_of scope) (found_at (env_of scope) t)) member.text n
    class_takes at t member ps n r long =
        let d = target_found t r.1.1 in
        found (found_at (env_of scope) t) d.0 d.1 d.2 where
          ts : List (Option ValueType)
          ts = types_of (environment G S blocks) ps

          by_class : (d : Declared) → target_shape (environment G S blocks) t ≡ shape_of G.declarations (Some d) → WellDeclared G.declarations d → (o : Option Class) → class_of_type G.declarations d.type ≡ o
              → ClassTakes o member.text n
          by_class d e w None i = tt
          by_class d e w (Some class) i = λ regular.
              let both = both_true _ _ r.0.call in
              let k = class_at G.declarations d (shape_of G.declarations (Some d)) refl w.0 (subst (λ s. can_be_called s ≡ true) e both.0) in
              let called : member_called (environment G S blocks) (Some t) member.text ≡ member_of member.text k.items =
              ap (λ s. option_and_then (member_of member.text) (items_called G.declarations s)) e ∙ ap (option_and_then (member_of member.text)) k.called in
              subst (λ n. MemberTakes (member_named member.text class.members) n) long
              (members_counted G.declarations (MemberOf G.declarations k.regular) ts (member_of member.text k.items) (member_named member.text class.members)
              (callees_of well k.name k.meant k.regular k.items k.stands class (sym k.class ∙ i) member.text)
              (subst (λ o. member_takes G.declarations o ts ≡ true) called both.1))

          found : (o : Option Found) (d : Declared) → target_shape (environment G S blocks) t ≡ shape_of G.declarations (Some d) → FoundFits G.declarations (Some d) o → ClassTakes (class_found (env_of scope) o) member.text n
          found None d e h = tt
          found (Some o) d e h =
              subst (λ w. ClassTakes (class_of_type G.declarations w) member.text n) (sym h.0) (by_class d e h.1 (class_of_type G.declarations d.type) refl)

    mutual
      pub expr_fits : (p : Expr) → AllRight (expr_nodes (environment G S blocks) p) → ExprFits (env_of scope) p
      expr_fits (expr.Number at value) r = tt
      expr_fits (expr.Truth at value) r = tt
      expr_fits (expr.Own at) r = tt
      expr_fits (expr.Input at) r = tt
      expr_fits (expr.Whole at target) r = tt
      expr_fits (expr.Element at line target index) r =
          expr_fits index (every_right Right (target_nodes (environment G S blocks) target) (expr_nodes (environment G S blocks) index) r.1)
      expr_fits (expr.PlainCall at function arguments) r = (plain_takes (environment G S blocks) at function arguments r, exprs_fit arguments r.1.1)
      expr_fits (expr.Parenthesized at inner) r = expr_fits inner r
      expr_fits (expr.Unary at line operator operand) r = expr_fits operand r.1
      expr_fits (expr.Binary at line operator left right) r = (
        expr_fits left (every_left Right (expr_nodes (environment G S blocks) left) (expr_nodes (environment G S blocks) right) r.1),
        expr_fits right (every_right Right (expr_nodes (environment G S blocks) left) (expr_nodes (environment G S blocks) right) r.1),
      )
      expr_fits (expr.CallOnOwn at member ps) r =
          exprs_fit ps (every_right Right (call_nodes at.span.from (environment G S blocks) None member ps) (nodes_of_each (environment G S blocks) ps) r.1)
      expr_fits (expr.CallOnTarget at t member ps) r = (
        class_takes at.span.from t member ps (count_of ps)
            (every_left Right (call_nodes at.span.from (environment G S blocks) (Some t) member ps) (nodes_of_each (environment G S blocks) ps) r.1)
            (types_counted (environment G S blocks) ps),
        exprs_fit ps (every_right Right (call_nodes at.span.from (environment G S blocks) (Some t) member ps) (nodes_of_each (environment G S blocks) ps) r.1),
      )

      exprs_fit : (ps : Exprs) → AllRight (nodes_of_each (environment G S blocks) ps) → ExprsFit (env_of scope) ps
      exprs_fit expr.NoExpr r = tt
      exprs_fit (expr.MoreExprs p ps) r = (
        expr_fits p (every_left Right (expr_nodes (environment G S blocks) p) (nodes_of_each (environment G S blocks) ps) r),
        exprs_fit ps (every_right Right (expr_nodes (environment G S blocks) p) (nodes_of_each (environment G S blocks) ps) r),
      )

    -- a call that is a whole statement
    pub call_fits : (p : Expr) → AllRight (statement_call_nodes (environment G S blocks) p) → ExprFits (env_of scope) p
    call_fits (expr.CallOnOwn at member ps) r =
        exprs_fit ps (every_right Right (call_nodes at.span.from (environment G S blocks) None member ps) (nodes_of_each (environment G S blocks) ps) r)
    call_fits (expr.CallOnTarget at t member ps) r = (
      class_takes at.span.from t member ps (count_of ps)
          (every_left Right (call_nodes at.span.from (environment G S blocks) (Some t) member ps) (nodes_of_each (environment G S blocks) ps) r)
          (types_counted (environment G S blocks) ps),
      exprs_fit ps (every_right Right (call_nodes at.span.from (environment G S blocks) (Some t) member ps) (nodes_of_each (environment G S blocks) ps) r),
    )
    call_fits (expr.Number at value) r = expr_fits (expr.Number at value) r
    call_fits (expr.Truth at value) r = expr_fits (expr.Truth at value) r
    call_fits (expr.Own at) r = expr_fits (expr.Own at) r
    call_fits (expr.Input at) r = expr_fits (expr.Input at) r
    call_fits (expr.Whole at target) r = expr_fits (expr.Whole at target) r
    call_fits (expr.Element at line target index) r = expr_fits (expr.Element at line target index) r
    call_fits (expr.PlainCall at function arguments) r = expr_fits (expr.PlainCall at function arguments) r
    call_fits (expr.Parenthesized at inner) r = expr_fits (expr.Parenthesized at inner) r
    call_fits (expr.Unary at line operator operand) r = expr_fits (expr.Unary at line operator operand) r
    call_fits (expr.Binary at line operator left right) r = expr_fits (expr.Binary at line operator left right) r

    -- the index in what is assigned to
    pub index_fits : (p : Expr) → AllRight (expr_nodes (environment G S blocks) p) → IndexFits (env_of scope) p
    index_fits (expr.Element at line target index) r =
        expr_fits index (every_right Right (target_nodes (environment G S blocks) target) (expr_nodes (environment G S blocks) index) r.1)
    index_fits (expr.Number at value) r = tt
    index_fits (expr.Truth at value) r = tt
    index_fits (expr.Own at) r = tt
    index_fits (expr.Input at) r = tt
    index_fits (expr.Whole at target) r = tt
    index_fits (expr.PlainCall at function arguments) r = tt
    index_fits (expr.Parenthesized at inner) r = tt
    index_fits (expr.Unary at line operator operand) r = tt
    index_fits (expr.Binary at line operator left right) r = tt
    index_fits (expr.CallOnOwn at member ps) r = tt
    index_fits (expr.CallOnTarget at t member ps) r = tt
