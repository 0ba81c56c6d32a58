-- In typed programs assignments, locals and new objects have what their code takes.
use Rattle.std.proofs.Common.{◌≡◌, ℕ, Bool, true, false, List, [], ◌∷◌, ◌++◌, length, map, Option, Some, None, if◌then◌else◌, refl, sym, ap, subst, ◌∙◌}
use Rattle.std.specs.Option.{option_map}
use Rattle.std.specs.Prelude.{is_some}
use Rattle.mpl_ast.specs.declared.class.Item.{Item}
use Rattle.mpl_ast.specs.declared.expression.Conjunction.{Conjunction}
use Rattle.mpl_ast.specs.declared.expression.Conjunction.TheOpen.{Place-F}
use Rattle.mpl_ast.specs.declared.expression.Equality.{Equality}
use Rattle.mpl_ast.specs.declared.expression.Expression.{Expression}
use Rattle.mpl_ast.specs.declared.expression.Place.{Place, out-Place}
use Rattle.mpl_ast.specs.declared.expression.Primary.{Primary}
use Rattle.mpl_ast.specs.declared.expression.Relation.{Relation}
use Rattle.mpl_ast.specs.declared.expression.Sum.{Sum}
use Rattle.mpl_ast.specs.declared.expression.Target.{Target}
use Rattle.mpl_ast.specs.declared.expression.Term.{Term}
use Rattle.mpl_ast.specs.declared.expression.Unary.{Unary}
use Rattle.mpl_ast.specs.declared.flow.Assignment.{Assignment}
use Rattle.mpl_ast.specs.declared.flow.Flow.{Flow}
use Rattle.mpl_ast.specs.declared.program.Declaration.{Declaration}
use Rattle.mpl_ast.specs.declared.statement.Declarator.{Declarator}
use Rattle.mpl_ast.specs.declared.statement.Declarator.TheVariants.{Plain, Initialized}
use Rattle.mpl_ast.specs.declared.statement.TypeName.{TypeName}
use Rattle.mpl_ast.specs.declared.statement.TypeName.TheVariants as type
use Rattle.mpl_mean.specs.Meaning.Layout.{class_named, class_of_type, classes_of, words_of}
use Rattle.mpl_mean.specs.Plain.Expr.{Expr, expr_of, expr_of_flow, expr_of_forms, expr_of_place}
use Rattle.mpl_mean.specs.Plain.Expr as expr
use Rattle.mpl_mean.specs.Plain.Stmt.{NewLocal, assigns, if_any, new_local}
use Rattle.mpl_mean.specs.TypeRules.CallRules.{is_object}
use Rattle.mpl_mean.specs.TypeRules.ExpressionRules.{is_no_regular, is_one_value}
use Rattle.mpl_mean.specs.TypeRules.NameRules.{is_meant}
use Rattle.mpl_mean.specs.TypeRules.Nodes.{Located, expr_nodes, place, target_nodes}
use Rattle.mpl_mean.specs.TypeRules.Nodes as node
use Rattle.mpl_mean.specs.TypeRules.Scopes.{with_last}
use Rattle.mpl_mean.specs.TypeRules.StatementNodes.{declared_local, dimension_nodes, local_walk, locals_walk, stmt_walk}
use Rattle.mpl_mean.specs.TypeRules.Types.{AClass, ABool, AnInt, AStruct, AnArray, ARegular, AsLocal, Declared, Meant, Nothing, OfBool, OfClass, OfInt, OfStruct, OneValue, Role, Shape as TypeShape, agree, is_field, meant, meant_by, shape_of, shape_of_meant, value_type}
use Rattle.mpl_mean.specs.TypeRules.Typing.{type_of, type_of_whole}
use Rattle.mpl_mean.proofs.ExpressionInduction.{place_of_parts, place_opens}
use Rattle.mpl_mean.proofs.Sizes.SizedAssignments.{object_size}
use Rattle.mpl_mean.proofs.Sizes.SizedExpressionForms.{expression_means}
use Rattle.mpl_mean.proofs.Sizes.SizedForms.{element, whole}
use Rattle.mpl_mean.proofs.Sizes.SizedLocals.{blocks_behind, dimension_element, local_shape, matches_more}
use Rattle.mpl_mean.proofs.Sizes.SizedRules.{AllRight, Right, every_left, every_right}
use Rattle.mpl_mean.proofs.Sizes.SizedSettings.{Matches, Setting, environment}
use Rattle.mpl_mean.proofs.Sizes.SizedStatementForms.{flow_passes}
use Rattle.mpl_mean.proofs.Sizes.SizedSteps.{Frame}
use Rattle.mpl_mean.proofs.Sizes.SizedTypes.{WellProgram, array_of_shape, class_of, not_bool, not_int, value_of_shape}
use Rattle.mpl_mean.proofs.Sizes.SizedTyping.{whole_size}
use Rattle.mpl_mean.proofs.Truth.{both_true, not_true}
use Rattle.mpl_gen_code.specs.Fits.{AssignmentFits, CreationFits, InitialFits, LocalsFit, May, PlaceFits, WordsAre}
use Rattle.mpl_gen_code.specs.Scopes.{Env, Found, Slot, class_found, found_at, words_of_shape}
use Rattle.mpl_gen_code.specs.StatementCode.{behind, behind_assignment, behind_found, declares, declares_all, shape_of_local}
use Rattle.mpl_gen_code.specs.Words.{words_of_expr, words_of_found}
use Rattle.mpl_gen_code.proofs.TypedExpressions.{expr_fits, expr_sized, index_fits}
use Rattle.mpl_gen_code.proofs.TypedFlows.{Allows, flow_fits, flow_sized}
use Rattle.mpl_gen_code.proofs.TypedPlaces.{FoundFits, Kept, declared_variable, env_in, target_found, variables_of}
use Rattle.mpl_gen_code.proofs.TypedValues.{agree_size}

-- ---- what surrounds the next statement

assignment_scope : (p : Expr) (env : Env) → (behind_assignment p env).scope ≡ env.scope
assignment_scope (expr.Element at line t p) env = found (found_at env t) where
  slotted : (f : Found) (o : Option Slot) → (behind_found (Some (record f { slot = o })) env).scope ≡ env.scope
  slotted f None = refl
  slotted f (Some slot) = refl

  found : (o : Option Found) → (behind_found o env).scope ≡ env.scope
  found None = refl
  found (Some f) = slotted f f.slot
assignment_scope (expr.Number at value) env = refl
assignment_scope (expr.Truth at value) env = refl
assignment_scope (expr.Own at) env = refl
assignment_scope (expr.Input at) env = refl
assignment_scope (expr.Whole at t) env = refl
assignment_scope (expr.PlainCall at f ps) env = refl
assignment_scope (expr.Parenthesized at p) env = refl
assignment_scope (expr.Unary at line o p) env = refl
assignment_scope (expr.Binary at line o p q) env = refl
assignment_scope (expr.CallOnOwn at member ps) env = refl
assignment_scope (expr.CallOnTarget at t member ps) env = refl

pub step_scope : (step : Option Assignment) (env : Env) → (behind (if_any (option_map assigns step)) env).scope ≡ env.scope
step_scope None env = refl
step_scope (Some a) env = assignment_scope (expr_of_place a.place) env

-- ---- objects

-- a class of objects
record ObjectClass (ds : List Declaration) (t : TypeName) : Type 0 where
  name : List ℕ
  meant : List ℕ
  items : List Item
  stands : meant_by name ds ≡ AClass meant false items
  class : class_of_type ds t ≡ class_named name (classes_of ds)

object_class : (ds : List Declaration) (role : Role) (t : TypeName) (n : List ℕ) → value_type role (meant ds t) ≡ Some (OfClass n) → ObjectClass ds t
object_class ds role (type.Int at) n e = absurd cc
object_class ds role (type.Bool at) n e = absurd cc
object_class ds role (type.Named at name) n e = named (meant_by name.text ds) refl e where
  named : (m : Meant) → meant_by name.text ds ≡ m → value_type role m ≡ Some (OfClass n) → ObjectClass ds (type.Named at name)
  named AnInt i e = absurd (not_int name.text ds i)
  named ABool i e = absurd (not_bool name.text ds i)
  named (AStruct k fields) i e = absurd (field (is_field role) e) where
    field : (b : Bool) → (if b then None else Some (OfStruct k)) ≡ Some (OfClass n) → ⊥
    field true e = cc
    field false e = cc
  named (AClass k true items) i e = absurd cc
  named (AClass k false items) i e = record { name = name.text; meant = k; items = items; stands = i; class = refl }
  named Nothing i e = absurd cc

object_at : (ds : List Declaration) (d : Declared) (s : Option TypeShape) → shape_of ds (Some d) ≡ s → is_some s ≡ true → is_object s ≡ true → ObjectClass ds d.type
object_at ds d None e i h = absurd cc
object_at ds d (Some (OneValue (OfClass n))) e i h = object_class ds d.role d.type n (value_of_shape d.role d.dimension (meant ds d.type) (OfClass n) e).1
object_at ds d (Some (OneValue OfInt)) e i h = absurd cc
object_at ds d (Some (OneValue OfBool)) e i h = absurd cc
object_at ds d (Some (OneValue (OfStruct n))) e i h = absurd cc
object_at ds d (Some (AnArray t)) e i h = absurd cc
object_at ds d (Some (ARegular items)) e i h = absurd cc

-- a place of one value
one_of : (ds : List Declaration) (t : TypeName) (s : Option TypeShape) → shape_of_meant AsLocal None (meant ds t) ≡ s → is_no_regular s ≡ true → is_one_value s ≡ true
one_of ds t None e h = refl
one_of ds t (Some (OneValue v)) e h = refl
one_of ds t (Some (AnArray v)) e h = absurd (let d = (array_of_shape AsLocal None (meant ds t) v e).0.1 in cc)
one_of ds t (Some (ARegular items)) e h = absurd cc

words_are : (env : Env) (found : Option Found) (words : ℕ) → PlaceFits env found → words_of_found found ≡ words → WordsAre found words
words_are env None words h e = absurd h
words_are env (Some found) words h e = e

module _ (G : Frame) (S : Setting) (K : Kept) (well : WellProgram G.declarations) (may : May) (allows : Allows G S K may) where
  -- what surrounds the next statement
  abbrev pub Next : List (List Declared) → Env → Type 0
  Next blocks env = (scope : List Slot) × (sizes : List ℕ) × (env ≡ env_in G S K scope sizes) × Matches G S blocks (variables_of scope)

  module _ (blocks : List (List Declared)) (scope : List Slot) (sizes : List ℕ) (m : Matches G S blocks (variables_of scope)) where
    abbrev env : Env
    env = env_in G S K scope sizes

    -- ---- assignments

    abbrev expr_of_layer : Place-F Conjunction Equality Expression Place Primary Relation Sum Term Unary → Expr
    expr_of_layer = place_of_parts expr_of_forms

    abbrev AssignReady : ℕ → Expr → Expr → Type 0
    AssignReady at p q = AllRight (place at (environment G S blocks) (node.Assigned p q) ∷ expr_nodes (environment G S blocks) p ++ expr_nodes (environment G S blocks) q)

    layer_fits : (at : ℕ) (l : Place-F Conjunction Equality Expression Place Primary Relation Sum Term Unary) (value : Flow) → AssignReady at (expr_of_layer l) (expr_of_flow value)
        → AssignmentFits may env (expr_of_layer l) (expr_of_flow value)
    layer_fits at (Place-F.Whole from t) value r =
        let h = environment G S blocks in
        let p = expr.Whole from t in
        let q = expr_of_flow value in
        let left = every_left Right (expr_nodes h p) (expr_nodes h q) r.1 in
        let right = every_right Right (expr_nodes h p) (expr_nodes h q) r.1 in
        let fits = expr_fits G S K well allows.total may (λ e. (allows.own e).0) allows.input blocks scope sizes m (whole from t) left in
        let sized = expr_sized G S K well allows.total may (λ e. (allows.own e).0) allows.input blocks scope sizes m (whole from t) left in (
          fits,
          flow_fits G S K well may allows blocks scope sizes m (flow_passes value) right,
          words_are env (found_at env t) (words_of_expr env q) fits
              (agree_size G.declarations (type_of h p) (type_of h q) (words_of_found (found_at env t)) (words_of_expr env q) sized (flow_sized G S K well may allows blocks scope sizes m (flow_passes value) right) r.0.right_side),
        )
    layer_fits at (Place-F.Element from line t e) value r =
        let h = environment G S blocks in
        let p = expr.Element from line t (expr_of e) in
        let q = expr_of_flow value in
        let left = every_left Right (expr_nodes h p) (expr_nodes h q) r.1 in
        let right = every_right Right (expr_nodes h p) (expr_nodes h q) r.1 in
        let two = index_fits G S K well allows.total may (λ e. (allows.own e).0) allows.input blocks scope sizes m from line t (expression_means e) left in
        let sized = expr_sized G S K well allows.total may (λ e. (allows.own e).0) allows.input blocks scope sizes m (element from line t (expression_means e)) left in (
          two.0,
          flow_fits G S K well may allows blocks scope sizes m (flow_passes value) right,
          sym (agree_size G.declarations (type_of h p) (type_of h q) 1 (words_of_expr env q) sized (flow_sized G S K well may allows blocks scope sizes m (flow_passes value) right) r.0.right_side),
          expr_fits G S K well allows.total may (λ e. (allows.own e).0) allows.input blocks scope sizes m (expression_means e) (every_right Right (target_nodes h t) (expr_nodes h (expr_of e)) left.1),
          two.1,
        )

    pub assignment_fits : (a : Assignment) → AllRight (stmt_walk (assigns a) (environment G S blocks)).nodes → AssignmentFits may env (expr_of_place a.place) (expr_of_flow a.value)
    assignment_fits a r =
        let same : expr_of_place a.place ≡ expr_of_layer (out-Place a.place) = place_opens expr_of_forms a.place in
        subst (λ p. AssignmentFits may env p (expr_of_flow a.value)) (sym same)
        (layer_fits a.at.span.from (out-Place a.place) a.value (subst (λ p. AssignReady a.at.span.from p (expr_of_flow a.value)) same r))

    found_next : (o : Option Found) → Next blocks (behind_found o env)
    found_next None = (scope, sizes, refl, m)
    found_next (Some f) = slotted f f.slot where
      slotted : (f : Found) (o : Option Slot) → Next blocks (behind_found (Some (record f { slot = o })) env)
      slotted f None = (scope, sizes, refl, m)
      slotted f (Some slot) = (scope, (sizes ++ 1 ∷ []) ++ f.words ∷ [], refl, m)

    pub assignment_next : (p : Expr) → Next blocks (behind_assignment p env)
    assignment_next (expr.Element at line t p) = found_next (found_at env t)
    assignment_next (expr.Number at value) = (scope, sizes, refl, m)
    assignment_next (expr.Truth at value) = (scope, sizes, refl, m)
    assignment_next (expr.Own at) = (scope, sizes, refl, m)
    assignment_next (expr.Input at) = (scope, sizes, refl, m)
    assignment_next (expr.Whole at t) = (scope, sizes, refl, m)
    assignment_next (expr.PlainCall at f ps) = (scope, sizes, refl, m)
    assignment_next (expr.Parenthesized at p) = (scope, sizes, refl, m)
    assignment_next (expr.Unary at line o p) = (scope, sizes, refl, m)
    assignment_next (expr.Binary at line o p q) = (scope, sizes, refl, m)
    assignment_next (expr.CallOnOwn at member ps) = (scope, sizes, refl, m)
    assignment_next (expr.CallOnTarget at t member ps) = (scope, sizes, refl, m)

    -- ---- objects

    pub creation_fits : (at : ℕ) (t : Target) → AllRight (place at (environment G S blocks) (node.ACreate t) ∷ target_nodes (environment G S blocks) t)
        → CreationFits may env (found_at env t) (class_found env (found_at env t))
    creation_fits at t r =
        let d = target_found G S K well allows.total blocks scope sizes m t r.1 in
        at_found d.0 (subst (λ s. is_object s ≡ true) d.1 r.0.call) (found_at env t) d.2 where
          may_post : may.posts ≡ true
          may_post = allows.creates r.0.in_place

          at_found : (d : Declared) → is_object (shape_of G.declarations (Some d)) ≡ true → (o : Option Found) → FoundFits env (Some d) o → CreationFits may env o (class_found env o)
          at_found d i None h = absurd h
          at_found d i (Some o) h =
              let k = object_at G.declarations d (shape_of G.declarations (Some d)) refl h.well.0 i in
              let f = class_of well k.name k.meant false k.items k.stands in
              let one : o.words ≡ 1 = h.words ∙ object_size well d (shape_of G.declarations (Some d)) refl h.well.0 i in
              subst (λ c. CreationFits may env (Some o) c) (sym (ap (class_of_type G.declarations) h.type ∙ (k.class ∙ f.found)))
              (may_post, f.is_regular, (k.name, f.found), h.inside, one)

  -- ---- locals

  module _ (type : TypeName) (known : is_meant (meant G.declarations type) ≡ true) where
    abbrev first_nodes : List (List Declared) → NewLocal → List Located
    first_nodes blocks new = (local_walk type new (environment G S blocks)).nodes

    abbrev After : List (List Declared) → List Slot → List ℕ → NewLocal → Type 0
    After blocks scope sizes new =
        InitialFits may (env_in G S K scope sizes) (words_of_shape G.declarations (shape_of_local type new)) new.initialiser
        × Next (with_last (declared_local type new) blocks) (declares type new (env_in G S K scope sizes))

    next_local : (blocks : List (List Declared)) (scope : List Slot) (sizes : List ℕ) → Matches G S blocks (variables_of scope) → (new : NewLocal) → AllRight (first_nodes blocks new)
        → Next (with_last (declared_local type new) blocks) (declares type new (env_in G S K scope sizes))
    next_local blocks scope sizes m new r =
        let h = environment G S blocks in (
          record { number = length sizes; shape = shape_of_local type new } ∷ scope,
          sizes ++ words_of_shape G.declarations (shape_of_local type new) ∷ [],
          refl,
          matches_more G S blocks (variables_of scope) (declared_local type new) (declared_variable (shape_of_local type new)) (refl, refl, refl)
              (local_shape new.dimension (meant G.declarations type) known, dimension_element G S blocks type new.dimension (every_left Right (dimension_nodes h type new.dimension) _ r.1))
              (not_true _ r.0.new) m,
        )

    one_fits : (blocks : List (List Declared)) (scope : List Slot) (sizes : List ℕ) → Matches G S blocks (variables_of scope) → (d : Declarator) → AllRight (first_nodes blocks (new_local d))
        → After blocks scope sizes (new_local d)
    one_fits blocks scope sizes m (Plain at variable dimension) r = (tt, next_local blocks scope sizes m (new_local (Plain at variable dimension)) r)
    one_fits blocks scope sizes m (Initialized at variable value) r =
        let h = environment G S blocks in
        let env = env_in G S K scope sizes in
        let d = declared_local type (new_local (Initialized at variable value)) in
        let q = expr_of_flow value in
        let right = every_left Right (expr_nodes h q) [] r.1.1 in
        let two = both_true (is_no_regular (shape_of G.declarations (Some d))) (agree (type_of_whole (shape_of G.declarations (Some d))) (type_of h q)) r.1.0.right_side in
        let sized = whole_size well d (words_of G.declarations type None) (shape_of G.declarations (Some d)) refl (local_shape None (meant G.declarations type) known)
        (one_of G.declarations type (shape_of G.declarations (Some d)) refl two.0) refl in (
          (
            flow_fits G S K well may allows blocks scope sizes m (flow_passes value) right,
            sym (agree_size G.declarations (type_of_whole (shape_of G.declarations (Some d))) (type_of h q) (words_of G.declarations type None) (words_of_expr env q) sized
                (flow_sized G S K well may allows blocks scope sizes m (flow_passes value) right) two.1),
          ),
          next_local blocks scope sizes m (new_local (Initialized at variable value)) r,
        )

    all_split : (blocks : List (List Declared)) (d : Declarator) (ds : List Declarator) → AllRight (locals_walk type (map new_local (d ∷ ds)) (environment G S blocks)).nodes
        → AllRight (first_nodes blocks (new_local d)) × AllRight (locals_walk type (map new_local ds) (environment G S (with_last (declared_local type (new_local d)) blocks))).nodes
    all_split blocks (Plain at variable dimension) ds r =
        (every_left Right (first_nodes blocks (new_local (Plain at variable dimension))) _ r, every_right Right (first_nodes blocks (new_local (Plain at variable dimension))) _ r)
    all_split blocks (Initialized at variable value) ds r =
        (every_left Right (first_nodes blocks (new_local (Initialized at variable value))) _ r, every_right Right (first_nodes blocks (new_local (Initialized at variable value))) _ r)

    pub locals_fit : (blocks : List (List Declared)) (scope : List Slot) (sizes : List ℕ) → Matches G S blocks (variables_of scope) → (ds : List Declarator)
        → AllRight (locals_walk type (map new_local ds) (environment G S blocks)).nodes
        → LocalsFit may (env_in G S K scope sizes) type (map new_local ds) × Next (blocks_behind type (map new_local ds) blocks) (declares_all type (map new_local ds) (env_in G S K scope sizes))
    locals_fit blocks scope sizes m [] r = (tt, (scope, sizes, refl, m))
    locals_fit blocks scope sizes m (d ∷ ds) r =
        let new = new_local d in
        let news = map new_local ds in
        let two = all_split blocks d ds r in
        let one = one_fits blocks scope sizes m d two.0 in
        let inner = with_last (declared_local type new) blocks in
        let next = one.1 in
        let others = locals_fit inner next.0 next.1 next.3 ds two.1 in (
          (one.0, subst (λ env. LocalsFit may env type news) (sym next.2) others.0),
          subst (λ env. Next (blocks_behind type news inner) (declares_all type news env)) (sym next.2) others.1,
        )
