-- In typed programs expressions have what their code takes.
use Rattle.std.proofs.Common.{◌≡◌, ℕ, ◌≤◌, Bool, true, false, ◌&&◌, ◌||◌, List, [], ◌∷◌, Option, Some, None, if◌then◌else◌, refl, sym, ap, subst, ◌∙◌}
use Rattle.std.specs.List.{AllZip, list_any}
use Rattle.std.specs.Prelude.{is_none}
use Rattle.mpl_ast.specs.declared.class.Formal.{Formal}
use Rattle.mpl_ast.specs.declared.expression.Target.{Target}
use Rattle.mpl_ast.specs.declared.place.At.{At}
use Rattle.mpl_ast.specs.declared.place.Name.{Name}
use Rattle.mpl_ast.specs.declared.program.Declaration.{Declaration}
use Rattle.mpl_mean.specs.Laws.Sizes.{words_of_formal}
use Rattle.mpl_mean.specs.Levels.{BinaryOperator, Or, And, Equate, Compare, Add, Multiply}
use Rattle.mpl_mean.specs.Meaning.CallMeaning.{MayName}
use Rattle.mpl_mean.specs.Meaning.ExpressionMeaning.{Evaluates}
use Rattle.mpl_mean.specs.Meaning.Layout.{Function, dimension_of, function_named, words_of, words_of_parts}
use Rattle.mpl_mean.specs.Meaning.PlaceMeaning.{is_bool}
use Rattle.mpl_mean.specs.Plain.Expr.{Expr, Exprs}
use Rattle.mpl_mean.specs.Plain.Expr as expr
use Rattle.mpl_mean.specs.TypeRules.CallRules.{function_takes}
use Rattle.mpl_mean.specs.TypeRules.ExpressionRules.{binary_agrees, can_be_indexed, is_one_value}
use Rattle.mpl_mean.specs.TypeRules.Nodes.{expr_nodes, nodes_of_each, target_nodes}
use Rattle.mpl_mean.specs.TypeRules.Operations.{Logic, binary_operation, unary_operation}
use Rattle.mpl_mean.specs.TypeRules.Scopes.{is_in_main, is_in_member, is_main, is_persistent, plain_function}
use Rattle.mpl_mean.specs.TypeRules.Types.{AsResult, Declared, ValueType, meant, shape_of, value_type}
use Rattle.mpl_mean.specs.TypeRules.Types as types
use Rattle.mpl_mean.specs.TypeRules.Typing.{target_shape, type_of, type_of_element, type_of_plain_call, type_of_whole, types_of}
use Rattle.mpl_mean.proofs.Sizes.SizedArguments.{FormalHas, formals_agree, function_of}
use Rattle.mpl_mean.proofs.Sizes.SizedForms.{Means, MeansEach, number, truth, own, input, whole, element, plain, parenthesized, unary, arithmetic, compares, or, and}
use Rattle.mpl_mean.proofs.Sizes.SizedForms as each
use Rattle.mpl_mean.proofs.Sizes.SizedRules.{AllRight, Right, WellDeclared, every_left, every_right}
use Rattle.mpl_mean.proofs.Sizes.SizedSettings.{Matches, Setting, environment}
use Rattle.mpl_mean.proofs.Sizes.SizedSteps.{Frame}
use Rattle.mpl_mean.proofs.Sizes.SizedTypes.{HasSize, WellProgram, binary_size, own_size, unary_size}
use Rattle.mpl_mean.proofs.Sizes.SizedTyping.{chosen_function, element_size, whole_size}
use Rattle.mpl_gen_code.specs.Fits.{DecidesBool, ExprFits, May, PlaceFits, ValuesFit}
use Rattle.mpl_gen_code.specs.Scopes.{Env, Found, Slot, found_at}
use Rattle.mpl_gen_code.specs.Words.{is_bool_expr, is_bool_found, is_bool_function, words_of_expr, words_of_found, words_of_function}
use Rattle.mpl_gen_code.proofs.TypedPlaces.{FoundFits, Kept, env_in, target_found, variables_of}
use Rattle.mpl_gen_code.proofs.TypedValues.{binary_bool, binary_ones, element_bool, index_one, own_no_bool, right_bool, sized_known, type_bool, typed_size, unary_bool, unary_one, whole_bool}

-- ---- what is found

found_words : (env : Env) (d : Declared) (found : Option Found) → FoundFits env (Some d) found → words_of_found found ≡ words_of env.declarations d.type (dimension_of d.dimension)
found_words env d None h = absurd h
found_words env d (Some found) h = h.words

pub found_place : (env : Env) (d : Declared) (found : Option Found) → FoundFits env (Some d) found → PlaceFits env found
found_place env d None h = absurd h
found_place env d (Some found) h = h.inside

pub found_well : (env : Env) (d : Declared) (found : Option Found) → FoundFits env (Some d) found → WellDeclared env.declarations d
found_well env d None h = absurd h
found_well env d (Some found) h = h.well

found_bool : (env : Env) (d : Declared) (found : Option Found) → FoundFits env (Some d) found → is_bool d.type ≡ true → is_bool_found found ≡ true
found_bool env d None h e = absurd h
found_bool env d (Some found) h e = subst (λ t. is_bool t ≡ true) (sym h.type) e

pub has_formal : (ds : List Declaration) (t : Option ValueType) (n : ℕ) (formal : Formal) → HasSize ds t n → FormalHas ds t formal → n ≡ words_of_formal ds formal
has_formal ds None n formal h k = absurd h
has_formal ds (Some t) n formal h k = h ∙ k

pub none_more : (a b : Bool) → a ≡ false → b ≡ false → (a || b) ≡ false
none_more true b e i = absurd cc
none_more false b e i = i

module _ (G : Frame) (S : Setting) (K : Kept) (well : WellProgram G.declarations) (total : G.state_words ≤ words_of_parts S.context.state) (may : May)
    (may_own : (is_in_member S.body && is_persistent S.class) ≡ true → may.own ≡ true) (may_input : is_in_main S.body ≡ true → may.input ≡ true)
    (blocks : List (List Declared)) (scope : List Slot) (sizes : List ℕ) (m : Matches G S blocks (variables_of scope)) where
  abbrev env : Env
  env = env_in G S K scope sizes

  abbrev Ready : Expr → Type 0
  Ready p = AllRight (expr_nodes (environment G S blocks) p)

  abbrev type_at : Expr → Option ValueType
  type_at = type_of (environment G S blocks)

  abbrev Sized : Expr → Type 0
  Sized p = HasSize G.declarations (type_at p) (words_of_expr env p)

  abbrev Target_there : Target → Type 0
  Target_there t = (d : Declared) × (target_shape (environment G S blocks) t ≡ shape_of G.declarations (Some d)) × FoundFits env (Some d) (found_at env t)

  there : (t : Target) → AllRight (target_nodes (environment G S blocks) t) → Target_there t
  there t r = target_found G S K well total blocks scope sizes m t r

  function_there : (f : Name) (at : At) (ps : Exprs) → Ready (expr.PlainCall at f ps)
      → (g : Function) × (is_main f.text ≡ false) × (function_named f.text G.declarations ≡ Some g)
  function_there f at ps r = chosen_function (is_main f.text) (function_named f.text G.declarations) r.0.known

  plain_is : (f : Name) (g : Function) → is_main f.text ≡ false → function_named f.text G.declarations ≡ Some g → plain_function (environment G S blocks) f.text ≡ Some g
  plain_is f g e i = ap (λ b. if b then None else function_named f.text G.declarations) e ∙ i

  -- ---- words

  both_sized : (at : At) (line : ℕ) (o : BinaryOperator) (p q : Expr) → Ready (expr.Binary at line o p q) → (Ready p → Sized p) → (Ready q → Sized q) → Sized p × Sized q
  both_sized at line o p q r h k = (
    h (every_left Right (expr_nodes (environment G S blocks) p) (expr_nodes (environment G S blocks) q) r.1),
    k (every_right Right (expr_nodes (environment G S blocks) p) (expr_nodes (environment G S blocks) q) r.1),
  )

  binary_sized : (at : At) (line : ℕ) (o : BinaryOperator) (p q : Expr) → Ready (expr.Binary at line o p q) → (Ready p → Sized p) → (Ready q → Sized q) → Sized (expr.Binary at line o p q)
  binary_sized at line o p q r h k =
      let two = both_sized at line o p q r h k in
      binary_size G.declarations (binary_operation o) (type_at p) (type_at q) (words_of_expr env p) (words_of_expr env q) two.0 two.1 r.0.operands

  pub expr_sized : {v : Evaluates} {p : Expr} {n : MayName} → Means v p n → Ready p → Sized p
  expr_sized (number at z) r = refl
  expr_sized (truth at b) r = refl
  expr_sized (own at) r = own_size G.declarations S.body S.class r.0.own
  expr_sized (input at) r = refl
  expr_sized (whole at t) r =
      let d = there t r.1 in
      subst (λ k. HasSize G.declarations (type_of_whole k) (words_of_found (found_at env t))) (sym d.1)
      (whole_size well d.0 (words_of_found (found_at env t)) (shape_of G.declarations (Some d.0)) refl (found_well env d.0 (found_at env t) d.2).0 (subst (λ k. is_one_value k ≡ true) d.1 r.0.place)
      (found_words env d.0 (found_at env t) d.2))
  expr_sized (element {p = p} at line t i) r =
      let d = there t (every_left Right (target_nodes (environment G S blocks) t) (expr_nodes (environment G S blocks) p) r.1) in
      let index = expr_sized i (every_right Right (target_nodes (environment G S blocks) t) (expr_nodes (environment G S blocks) p) r.1) in
      subst (λ k. HasSize G.declarations (type_of_element k (type_at p)) 1) (sym d.1)
      (element_size G.declarations d.0 (shape_of G.declarations (Some d.0)) (type_at p) (words_of_expr env p) refl (found_well env d.0 (found_at env t) d.2)
      (subst (λ k. can_be_indexed k (type_at p) ≡ true) d.1 r.0.index) index)
  expr_sized (plain {ps = ps} at f k) r =
      let g = function_there f at ps r in
      let sized : HasSize G.declarations (type_of_plain_call G.declarations (Some g.0)) (words_of_function G.declarations (Some g.0)) =
      typed_size well AsResult (g.0).result (value_type AsResult (meant G.declarations (g.0).result)) refl (function_of G.declarations f.text g.0 G.declarations g.1 well.each g.2).result in
      subst (λ o. HasSize G.declarations (type_of_plain_call G.declarations (plain_function (environment G S blocks) f.text)) (words_of_function G.declarations o)) (sym g.2)
      (subst (λ o. HasSize G.declarations (type_of_plain_call G.declarations o) (words_of_function G.declarations (Some g.0))) (sym (plain_is f g.0 g.1 g.2)) sized)
  expr_sized (parenthesized at i) r = expr_sized i r
  expr_sized (unary {p = p} at line o i) r = unary_size G.declarations (unary_operation o) (type_at p) (words_of_expr env p) (expr_sized i r.1) r.0.operands
  expr_sized (arithmetic {p = p} {q = q} at line operator o i j) r = binary_sized at line operator p q r (expr_sized i) (expr_sized j)
  expr_sized (compares {p = p} {q = q} at line operator o i j) r = binary_sized at line operator p q r (expr_sized i) (expr_sized j)
  expr_sized (or {p = p} {q = q} at line i j) r = binary_sized at line Or p q r (expr_sized i) (expr_sized j)
  expr_sized (and {p = p} {q = q} at line i j) r = binary_sized at line And p q r (expr_sized i) (expr_sized j)

  -- ---- which are `bool`

  abbrev BoolWhere : Expr → Type 0
  BoolWhere p = (v : ValueType) → type_at p ≡ Some v → types.is_bool v ≡ true → is_bool_expr env p ≡ true

  number_no_bool : (v : ValueType) → ◌≡◌ {A = Option ValueType} (Some types.OfInt) (Some v) → types.is_bool v ≡ true → ⊥
  number_no_bool types.OfInt e h = cc
  number_no_bool types.OfBool e h = cc
  number_no_bool (types.OfStruct n) e h = cc
  number_no_bool (types.OfClass n) e h = cc

  pub expr_bool : {w : Evaluates} {p : Expr} {n : MayName} → Means w p n → Ready p → BoolWhere p
  expr_bool (number at z) r = λ v e h. absurd (number_no_bool v e h)
  expr_bool (truth at b) r = λ v e h. refl
  expr_bool (own at) r = λ v e h. absurd (own_no_bool S.body S.class v e h)
  expr_bool (input at) r = λ v e h. absurd (number_no_bool v e h)
  expr_bool (whole at t) r = λ v e h.
      let d = there t r.1 in
      found_bool env d.0 (found_at env t) d.2 (whole_bool G.declarations d.0 (shape_of G.declarations (Some d.0)) v refl (subst (λ k. type_of_whole k ≡ Some v) d.1 e) h)
  expr_bool (element {p = p} at line t i) r = λ v e h.
      let d = there t (every_left Right (target_nodes (environment G S blocks) t) (expr_nodes (environment G S blocks) p) r.1) in
      found_bool env d.0 (found_at env t) d.2
      (element_bool G.declarations d.0 (shape_of G.declarations (Some d.0)) (type_at p) v refl (subst (λ k. type_of_element k (type_at p) ≡ Some v) d.1 e) h)
  expr_bool (plain {ps = ps} at f k) r = λ v e h.
      let g = function_there f at ps r in
      subst (λ o. is_bool_function o ≡ true) (sym g.2)
      (type_bool G.declarations AsResult (g.0).result v (subst (λ o. type_of_plain_call G.declarations o ≡ Some v) (plain_is f g.0 g.1 g.2) e) h)
  expr_bool (parenthesized at i) r = expr_bool i r
  expr_bool (unary {p = p} at line o i) r = λ v e h. unary_bool o (type_at p) v e h
  expr_bool (arithmetic {p = p} {q = q} at line operator o i j) r = λ v e h. binary_bool operator (type_at p) (type_at q) v e h
  expr_bool (compares {p = p} {q = q} at line operator o i j) r = λ v e h. binary_bool operator (type_at p) (type_at q) v e h
  expr_bool (or at line i j) r = λ v e h. refl
  expr_bool (and at line i j) r = λ v e h. refl

  -- ---- what their code takes

  logic_decides : (p q : Expr) → Sized p → Sized q → BoolWhere q → binary_agrees Logic (type_at p) (type_at q) ≡ true → is_bool_expr env q ≡ true
  logic_decides p q h k b e =
      let right = right_bool G.declarations (type_at p) (type_at q) (words_of_expr env p) (words_of_expr env q) h k e in
      b right.0 right.1 right.2

  decides : (o : BinaryOperator) (p q : Expr) → Sized p → Sized q → BoolWhere q → binary_agrees (binary_operation o) (type_at p) (type_at q) ≡ true → DecidesBool env o q
  decides Or p q h k b e = logic_decides p q h k b e
  decides And p q h k b e = logic_decides p q h k b e
  decides (Equate o) p q h k b e = tt
  decides (Compare o) p q h k b e = tt
  decides (Add o) p q h k b e = tt
  decides (Multiply o) p q h k b e = tt

  binary_fits : (at : At) (line : ℕ) (o : BinaryOperator) (p q : Expr) → Ready (expr.Binary at line o p q) → Sized p → Sized q → ExprFits may env p → ExprFits may env q → BoolWhere q
      → ExprFits may env (expr.Binary at line o p q)
  binary_fits at line o p q r h k f g b =
      let ones = binary_ones G.declarations (binary_operation o) (type_at p) (type_at q) (words_of_expr env p) (words_of_expr env q) h k r.0.operands in
      (f, ones.0, g, ones.1, decides o p q h k b r.0.operands)

  left_ready : (at : At) (line : ℕ) (o : BinaryOperator) (p q : Expr) → Ready (expr.Binary at line o p q) → Ready p
  left_ready at line o p q r = every_left Right (expr_nodes (environment G S blocks) p) (expr_nodes (environment G S blocks) q) r.1

  right_ready : (at : At) (line : ℕ) (o : BinaryOperator) (p q : Expr) → Ready (expr.Binary at line o p q) → Ready q
  right_ready at line o p q r = every_right Right (expr_nodes (environment G S blocks) p) (expr_nodes (environment G S blocks) q) r.1

  types_known : {fs : List Evaluates} {ps : Exprs} → MeansEach fs ps → AllRight (nodes_of_each (environment G S blocks) ps) → list_any is_none (types_of (environment G S blocks) ps) ≡ false
  types_known each.MeansEach.none r = refl
  types_known (each.MeansEach.more {p = p} {ps = ps} i is) r =
      none_more (is_none (type_at p)) (list_any is_none (types_of (environment G S blocks) ps))
      (sized_known G.declarations (type_at p) (words_of_expr env p) (expr_sized i (every_left Right (expr_nodes (environment G S blocks) p) (nodes_of_each (environment G S blocks) ps) r)))
      (types_known is (every_right Right (expr_nodes (environment G S blocks) p) (nodes_of_each (environment G S blocks) ps) r))

  pub index_fits : {w : Evaluates} {p : Expr} {n : MayName} (at : At) (line : ℕ) (t : Target) → Means w p n → Ready (expr.Element at line t p) → PlaceFits env (found_at env t) × (words_of_expr env p ≡ 1)
  index_fits {p = p} at line t i r =
      let d = there t (every_left Right (target_nodes (environment G S blocks) t) (expr_nodes (environment G S blocks) p) r.1) in
      let index = expr_sized i (every_right Right (target_nodes (environment G S blocks) t) (expr_nodes (environment G S blocks) p) r.1) in (
        found_place env d.0 (found_at env t) d.2,
        index_one G.declarations (shape_of G.declarations (Some d.0)) (type_at p) (words_of_expr env p) (found_well env d.0 (found_at env t) d.2).0 index
            (subst (λ k. can_be_indexed k (type_at p) ≡ true) d.1 r.0.index),
      )

  mutual
    pub expr_fits : {w : Evaluates} {p : Expr} {n : MayName} → Means w p n → Ready p → ExprFits may env p
    expr_fits (number at z) r = tt
    expr_fits (truth at b) r = tt
    expr_fits (own at) r = may_own r.0.own
    expr_fits (input at) r = may_input r.0.speaks
    expr_fits (whole at t) r = let d = there t r.1 in found_place env d.0 (found_at env t) d.2
    expr_fits (element {p = p} at line t i) r =
        let two = index_fits at line t i r in
        (two.0, expr_fits i (every_right Right (target_nodes (environment G S blocks) t) (expr_nodes (environment G S blocks) p) r.1), two.1)
    expr_fits (plain {ps = ps} at f k) r =
        let g = function_there f at ps r in
        let takes : function_takes G.declarations (Some g.0) (types_of (environment G S blocks) ps) ≡ true =
        subst (λ o. function_takes G.declarations o (types_of (environment G S blocks) ps) ≡ true) (plain_is f g.0 g.1 g.2) r.1.0.plain in
        let routine = (function_of G.declarations f.text g.0 G.declarations g.1 well.each g.2).routine in (
          g.0,
          record { named = g.2; other = g.1 },
          values_fit k r.1.1 (g.0).formals
              (formals_agree G.declarations well (types_of (environment G S blocks) ps) (g.0).formals (types_known k r.1.1) takes routine.0),
        )
    expr_fits (parenthesized at i) r = expr_fits i r
    expr_fits (unary {p = p} at line o i) r = (expr_fits i r.1, unary_one G.declarations (unary_operation o) (type_at p) (words_of_expr env p) (expr_sized i r.1) r.0.operands)
    expr_fits (arithmetic {p = p} {q = q} at line operator o i j) r =
        binary_fits at line operator p q r (expr_sized i (left_ready at line operator p q r)) (expr_sized j (right_ready at line operator p q r)) (expr_fits i (left_ready at line operator p q r))
        (expr_fits j (right_ready at line operator p q r)) (expr_bool j (right_ready at line operator p q r))
    expr_fits (compares {p = p} {q = q} at line operator o i j) r =
        binary_fits at line operator p q r (expr_sized i (left_ready at line operator p q r)) (expr_sized j (right_ready at line operator p q r)) (expr_fits i (left_ready at line operator p q r))
        (expr_fits j (right_ready at line operator p q r)) (expr_bool j (right_ready at line operator p q r))
    expr_fits (or {p = p} {q = q} at line i j) r =
        binary_fits at line Or p q r (expr_sized i (left_ready at line Or p q r)) (expr_sized j (right_ready at line Or p q r)) (expr_fits i (left_ready at line Or p q r))
        (expr_fits j (right_ready at line Or p q r)) (expr_bool j (right_ready at line Or p q r))
    expr_fits (and {p = p} {q = q} at line i j) r =
        binary_fits at line And p q r (expr_sized i (left_ready at line And p q r)) (expr_sized j (right_ready at line And p q r)) (expr_fits i (left_ready at line And p q r))
        (expr_fits j (right_ready at line And p q r)) (expr_bool j (right_ready at line And p q r))

    values_fit : {fs : List Evaluates} {ps : Exprs} → MeansEach fs ps → AllRight (nodes_of_each (environment G S blocks) ps) → (formals : List Formal)
        → AllZip (FormalHas G.declarations) (types_of (environment G S blocks) ps) formals → ValuesFit may env formals ps
    values_fit each.MeansEach.none r [] h = tt
    values_fit each.MeansEach.none r (formal ∷ formals) h = absurd h
    values_fit (each.MeansEach.more i is) r [] h = absurd h
    values_fit (each.MeansEach.more {p = p} {ps = ps} i is) r (formal ∷ formals) h =
        let first = every_left Right (expr_nodes (environment G S blocks) p) (nodes_of_each (environment G S blocks) ps) r in (
          expr_fits i first,
          has_formal G.declarations (type_at p) (words_of_expr env p) formal (expr_sized i first) h.0,
          values_fit is (every_right Right (expr_nodes (environment G S blocks) p) (nodes_of_each (environment G S blocks) ps) r) formals h.1,
        )
