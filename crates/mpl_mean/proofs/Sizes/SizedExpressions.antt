-- The value of an expression has the words of its type.
use Rattle.std.proofs.Common.{◌≡◌, ℕ, true, List, length, map, Option, Some, None, if◌then◌else◌, ℤ, refl, sym, ap, subst, ◌∙◌}
use Rattle.std.specs.List.{AllZip}
use Rattle.std.specs.Prelude.{is_some}
use Rattle.mpl_ast.specs.declared.expression.Target.{Target}
use Rattle.mpl_ast.specs.declared.expression.UnaryOperator.{UnaryOperator}
use Rattle.mpl_ast.specs.declared.expression.UnaryOperator.TheVariants as operator
use Rattle.mpl_ast.specs.declared.place.At.{At}
use Rattle.mpl_ast.specs.declared.place.Name.{Name}
use Rattle.mpl_mean.specs.Levels.{BinaryOperator, Or, And}
use Rattle.mpl_mean.specs.TypeRules.CallRules.{function_takes}
use Rattle.mpl_mean.specs.Meaning.CallMeaning.{MayName}
use Rattle.mpl_mean.specs.Meaning.ExpressionMeaning.{Evaluates, called, unary_operation}
use Rattle.mpl_mean.specs.TypeRules.ExpressionRules.{binary_agrees, can_be_indexed, is_one_value}
use Rattle.mpl_mean.specs.Meaning.Layout.{Function, dimension_of, function_named, words_of}
use Rattle.mpl_mean.specs.TypeRules.Nodes.{nodes_of_each, expr_nodes, target_nodes}
use Rattle.mpl_mean.specs.Plain.Expr.{Expr, Exprs, expr_of}
use Rattle.mpl_mean.specs.Plain.Expr as expr
use Rattle.mpl_mean.specs.Meaning.PlaceMeaning.{Location, read, words_of_location}
use Rattle.mpl_mean.specs.TypeRules.Operations.{Logic, binary_operation, unary_operation as unary_kind}
use Rattle.mpl_mean.specs.TypeRules.Scopes.{is_main, plain_function}
use Rattle.mpl_mean.specs.Meaning.Store.{Step, Variable}
use Rattle.mpl_mean.specs.TypeRules.Types.{AsResult, Declared, meant, shape_of, value_type}
use Rattle.mpl_mean.specs.TypeRules.Typing.{target_shape, type_of, type_of_binary, type_of_element, type_of_plain_call, type_of_whole, types_of}
use Rattle.mpl_mean.specs.Meaning.Values.{Value, is_true}
use Rattle.mpl_mean.proofs.Sizes.SizedAnswers.{ListsFit, all_keep, zip_from}
use Rattle.mpl_mean.proofs.Sizes.SizedArguments.{ValueHas, function_of, words_fit}
use Rattle.mpl_mean.proofs.Sizes.SizedForms.{Means, MeansEach, number, truth, own, input, whole, element, plain, parenthesized, unary, arithmetic, compares, or, and}
use Rattle.mpl_mean.proofs.Sizes.SizedForms as each
use Rattle.mpl_mean.proofs.Sizes.SizedPlaces.{SpotRight, index_keeps, location_keeps, which, words_keeps}
use Rattle.mpl_mean.proofs.Sizes.SizedRules.{AllRight, Right, WellDeclared, every_left, every_right}
use Rattle.mpl_mean.proofs.Sizes.SizedSettings.{Matches, PlainFits, Setting, Sound, environment, inside}
use Rattle.mpl_mean.proofs.Sizes.SizedSteps.{Frame, Keeps, computes, from_premise, give_keeps, if_keeps, so_keeps, stop_keeps, then_keeps}
use Rattle.mpl_mean.proofs.Sizes.SizedStores.{inputs_keeps}
use Rattle.mpl_mean.proofs.Sizes.SizedTyping.{chosen_function, element_size, type_there, whole_size}
use Rattle.mpl_mean.proofs.Sizes.SizedTypes.{HasSize, WellProgram, binary_size, logic_size, own_size, size, type_words, unary_size}
use Rattle.mpl_mean.proofs.Truth.{some_is}

-- ---- places

-- what was read at a target has the words of what is declared there
abbrev pub ReadOf : Frame → Setting → List (List Declared) → Target → Value → Type 0
ReadOf G S blocks t v =
    (d : Declared) × (target_shape (environment G S blocks) t ≡ shape_of G.declarations (Some d)) × WellDeclared G.declarations d
    × (length v.words ≡ words_of G.declarations d.type (dimension_of d.dimension))

read_location : (G : Frame) (S : Setting) (blocks : List (List Declared)) (vs : List Variable) {P : Type 0} (t : Target) (location : Option Location)
    → Keeps G vs (P × SpotRight G S blocks vs t location) Value (ReadOf G S blocks t) (words_of_location location)
read_location G S blocks vs t None = so_keeps G vs (λ p. p) (λ v p e. absurd (p.1).fits) (words_keeps G S blocks vs t None (λ p. p.1))
read_location G S blocks vs t (Some location) =
    so_keeps G vs (λ p. p) (λ v p e. ((p.1).declared, (p.1).shape, ((p.1).fits).well, e location refl ∙ ((p.1).fits).words)) (words_keeps G S blocks vs t (Some location) (λ p. p.1))

pub read_keeps : (G : Frame) (S : Setting) (well : WellProgram G.declarations) (blocks : List (List Declared)) (vs : List Variable) {P : Type 0} (t : Target) → (P → Matches G S blocks vs)
    → (P → AllRight (target_nodes (environment G S blocks) t)) → Keeps G vs P Value (ReadOf G S blocks t) (read (inside G S) t)
read_keeps G S well blocks vs t m n = location_keeps G S well blocks vs t words_of_location m n (λ location. read_location G S blocks vs t location)

called_keeps : (G : Frame) (S : Setting) (s : Sound G S) (vs : List Variable) {P : Type 0} (o : Option Function) (arguments : List (List ℤ))
    → (P → (f : Function) × (o ≡ Some f) × PlainFits G.declarations f × ListsFit G.declarations f.formals arguments)
    → Keeps G vs P Value (λ v. (f : Function) → o ≡ Some f → length v.words ≡ words_of G.declarations f.result None) (called (inside G S) o arguments)
called_keeps G S s vs None arguments h = stop_keeps G vs _ (λ p. absurd (let e = (h p).1 in cc))
called_keeps G S s vs (Some f) arguments h =
    then_keeps G vs
    (from_premise G vs
    (λ p.
    let g = h p in
    subst (λ f. PlainFits G.declarations f × ListsFit G.declarations f.formals arguments) (sym (some_is g.1)) (g.2, g.3))
    ((s.callees).plain G.MayMake G.MayWait G.state_words G.result_words G.calls G.MayReturn vs f arguments))
    (λ words. give_keeps G vs _ (λ p g e. p.1 ∙ ap (λ (f : Function). words_of G.declarations f.result None) (some_is e)))

-- ---- all expressions

module _ (G : Frame) (S : Setting) (s : Sound G S) (blocks : List (List Declared)) (vs : List Variable) where
  abbrev Ready : Expr → Type 0
  Ready p = Matches G S blocks vs × AllRight (expr_nodes (environment G S blocks) p)

  abbrev Keeps-Value : Expr → Step Value → Type 0
  Keeps-Value p f = Keeps G vs (Ready p) Value (ValueHas G.declarations (type_of (environment G S blocks) p)) f

  abbrev ReadyEach : Exprs → Type 0
  ReadyEach ps = Matches G S blocks vs × AllRight (nodes_of_each (environment G S blocks) ps)

  unary_value : {P : Type 0} (line : ℕ) (o : UnaryOperator) (v : Value) → Keeps G vs P Value (λ v. length v.words ≡ 1) (unary_operation line o v)
  unary_value line operator.Negative v = then_keeps G vs (computes G vs line _) (λ z. give_keeps G vs _ (λ p. refl))
  unary_value line operator.Not v = give_keeps G vs _ (λ p. refl)

  -- the nodes of the two operands
  left_ready : (at : At) (line : ℕ) (o : BinaryOperator) (p q : Expr) → Ready (expr.Binary at line o p q) → Ready p
  left_ready at line o p q r = (r.0, every_left Right (expr_nodes (environment G S blocks) p) (expr_nodes (environment G S blocks) q) (r.1).1)

  right_ready : (at : At) (line : ℕ) (o : BinaryOperator) (p q : Expr) → Ready (expr.Binary at line o p q) → Ready q
  right_ready at line o p q r = (r.0, every_right Right (expr_nodes (environment G S blocks) p) (expr_nodes (environment G S blocks) q) (r.1).1)

  both : (at : At) (line : ℕ) (o : BinaryOperator) (p q : Expr) (m n k : ℕ) → Ready (expr.Binary at line o p q) → HasSize G.declarations (type_of (environment G S blocks) p) m
      → HasSize G.declarations (type_of (environment G S blocks) q) n → k ≡ 1 → HasSize G.declarations (type_of (environment G S blocks) (expr.Binary at line o p q)) k
  both at line o p q m n k r h i e =
      subst (λ k. HasSize G.declarations (type_of (environment G S blocks) (expr.Binary at line o p q)) k) (sym e)
      (binary_size G.declarations (binary_operation o) (type_of (environment G S blocks) p) (type_of (environment G S blocks) q) m n h i (r.1).0.operands)

  right : (p q : Expr) (m n : ℕ) → binary_agrees Logic (type_of (environment G S blocks) p) (type_of (environment G S blocks) q) ≡ true
      → HasSize G.declarations (type_of (environment G S blocks) p) m → HasSize G.declarations (type_of (environment G S blocks) q) n
      → HasSize G.declarations (type_of_binary Logic (type_of (environment G S blocks) p) (type_of (environment G S blocks) q)) n
  right p q m n r h i = logic_size G.declarations (type_of (environment G S blocks) p) (type_of (environment G S blocks) q) m n h i r

  each_ready : (p : Expr) (ps : Exprs) → ReadyEach (expr.MoreExprs p ps) → Ready p × ReadyEach ps
  each_ready p ps r = (
    (r.0, every_left Right (expr_nodes (environment G S blocks) p) (nodes_of_each (environment G S blocks) ps) r.1),
    (r.0, every_right Right (expr_nodes (environment G S blocks) p) (nodes_of_each (environment G S blocks) ps) r.1),
  )

  plain_fits : (f : Name) (at : At) (ps : Exprs) (values : List Value) → Ready (expr.PlainCall at f ps) → AllZip (ValueHas G.declarations) (types_of (environment G S blocks) ps) values
      → (g : Function) × (function_named f.text G.declarations ≡ Some g) × PlainFits G.declarations g × ListsFit G.declarations g.formals (map (λ (value : Value). value.words) values)
  plain_fits f at ps values r h =
      let known = (r.1).0.known in
      let takes = (r.1).1.0.plain in
      let g = chosen_function (is_main f.text) (function_named f.text G.declarations) known in
      let fits = function_of G.declarations f.text g.0 G.declarations g.1 (s.well).each g.2 in
      let is : plain_function (environment G S blocks) f.text ≡ Some g.0 = ap (λ b. if b then None else function_named f.text G.declarations) g.1 ∙ g.2 in (
        g.0,
        g.2,
        fits,
        words_fit G.declarations s.well (types_of (environment G S blocks) ps) (g.0).formals values h
            (subst (λ o. function_takes G.declarations o (types_of (environment G S blocks) ps) ≡ true) is takes) (fits.routine).0,
      )

  plain_size : (f : Name) (at : At) (ps : Exprs) (v : Value) → Ready (expr.PlainCall at f ps)
      → ((g : Function) → function_named f.text G.declarations ≡ Some g → length v.words ≡ words_of G.declarations g.result None)
      → ValueHas G.declarations (type_of (environment G S blocks) (expr.PlainCall at f ps)) v
  plain_size f at ps v r h =
      let g = chosen_function (is_main f.text) (function_named f.text G.declarations) (r.1).0.known in
      let fits = function_of G.declarations f.text g.0 G.declarations g.1 (s.well).each g.2 in
      let is : plain_function (environment G S blocks) f.text ≡ Some g.0 = ap (λ b. if b then None else function_named f.text G.declarations) g.1 ∙ g.2 in
      let t = which (value_type AsResult (meant G.declarations (g.0).result)) fits.result in
      subst (λ o. ValueHas G.declarations (type_of_plain_call G.declarations o) v) (sym is)
      (subst (λ o. ValueHas G.declarations o v) (sym t.1) (h g.0 g.2 ∙ type_words s.well AsResult (g.0).result t.0 t.1))

  -- where the right operand isn't evaluated
  one : (at : At) (line : ℕ) (o : BinaryOperator) (p q : Expr) (m : ℕ) → Ready (expr.Binary at line o p q) → is_some (type_of (environment G S blocks) q) ≡ true → HasSize G.declarations (type_of (environment G S blocks) p) m
      → HasSize G.declarations (type_of (environment G S blocks) (expr.Binary at line o p q)) 1
  one at line o p q m r i h =
      let t = which (type_of (environment G S blocks) q) i in
      both at line o p q m (size G.declarations t.0) 1 r h (subst (λ o. HasSize G.declarations o (size G.declarations t.0)) (sym t.1) refl) refl

  mutual
    pub value_keeps : {v : Evaluates} {p : Expr} {m : MayName} → Means v p m → Keeps-Value p (v (inside G S))
    value_keeps (number at z) = give_keeps G vs _ (λ p. refl)
    value_keeps (truth at b) = give_keeps G vs _ (λ p. refl)
    value_keeps (own at) = give_keeps G vs _ (λ p. own_size G.declarations S.body S.class (p.1).0.own)
    value_keeps (input at) = so_keeps G vs (λ p. p) (λ v p e. e) (inputs_keeps G vs at.line)
    value_keeps (whole at t) =
        so_keeps G vs (λ p. p)
        (λ v p e.
        let place = (p.1).0.place in
        subst (λ k. HasSize G.declarations (type_of_whole k) (length v.words)) (sym e.1)
        (whole_size s.well e.0 (length v.words) (shape_of G.declarations (Some e.0)) refl (e.2).0 (subst (λ k. is_one_value k ≡ true) e.1 place) e.3))
        (read_keeps G S s.well blocks vs t (λ p. p.0) (λ p. (p.1).1))
    value_keeps (element {i = i} {p = p} at line t m) =
        let h = environment G S blocks in
        then_keeps G vs (read_keeps G S s.well blocks vs t (λ r. r.0) (λ r. every_left Right (target_nodes h t) (expr_nodes h p) (r.1).1)) (λ a.
        then_keeps G vs (from_premise G vs (λ r. (r.0.0, every_right Right (target_nodes h t) (expr_nodes h p) (r.0.1).1)) (value_keeps m)) (λ n.
        then_keeps G vs (index_keeps G vs line (length a.words) _) (λ k. give_keeps G vs _ (λ r.
        let e = r.0.0.1 in
        subst (λ k. HasSize G.declarations (type_of_element k (type_of h p)) 1) (sym e.1)
        (element_size G.declarations e.0 (shape_of G.declarations (Some e.0)) (type_of h p) (length n.words) refl e.2
        (subst (λ k. can_be_indexed k (type_of h p) ≡ true) e.1 (r.0.0.0.1).0.index) r.0.1)))))
    value_keeps (plain {fs = fs} {ps = ps} at f m) =
        then_keeps G vs (all_keep G vs (ValueHas G.declarations) (types_of (environment G S blocks) ps) _ (zip_from G vs (ValueHas G.declarations) (λ r. (r.0, (r.1).1.1)) _ _ (each_keeps m))) (λ values.
        so_keeps G vs (λ p. p) (λ v p e. plain_size f at ps v p.0 e)
        (called_keeps G S s vs (function_named f.text G.declarations) (map (λ (value : Value). value.words) values) (λ p. plain_fits f at ps values p.0 p.1)))
    value_keeps (parenthesized at m) = value_keeps m
    value_keeps (unary {p = p} at line o m) =
        then_keeps G vs (from_premise G vs (λ r. (r.0, (r.1).1)) (value_keeps m)) (λ v.
        so_keeps G vs (λ r. r)
        (λ w r e.
        subst (λ k. HasSize G.declarations (type_of (environment G S blocks) (expr.Unary at line o p)) k) (sym e)
        (unary_size G.declarations (unary_kind o) (type_of (environment G S blocks) p) (length v.words) r.1 (r.0.1).0.operands))
        (unary_value line o v))
    value_keeps (arithmetic {p = p} {q = q} at line operator o m n) =
        then_keeps G vs (from_premise G vs (left_ready at line operator p q) (value_keeps m)) (λ a.
        then_keeps G vs (from_premise G vs (λ r. right_ready at line operator p q r.0) (value_keeps n)) (λ b.
        then_keeps G vs (computes G vs line _) (λ z. give_keeps G vs _ (λ r. both at line operator p q _ _ 1 r.0.0.0 r.0.0.1 r.0.1 refl))))
    value_keeps (compares {p = p} {q = q} at line operator o m n) =
        then_keeps G vs (from_premise G vs (left_ready at line operator p q) (value_keeps m)) (λ a.
        then_keeps G vs (from_premise G vs (λ r. right_ready at line operator p q r.0) (value_keeps n)) (λ b.
        give_keeps G vs _ (λ r. both at line operator p q _ _ 1 r.0.0 r.0.1 r.1 refl)))
    value_keeps (or {p = p} {q = q} at line m n) =
        then_keeps G vs (from_premise G vs (left_ready at line Or p q) (value_keeps m)) (λ a.
        if_keeps G vs (is_true a) (give_keeps G vs _ (λ r. one at line Or p q _ r.0 (type_there G S s.well blocks vs n (right_ready at line Or p q r.0)) r.1))
        (so_keeps G vs (λ r. right_ready at line Or p q r.0) (λ b r e. right p q _ _ (r.0.1).0.operands r.1 e) (value_keeps n)))
    value_keeps (and {p = p} {q = q} at line m n) =
        then_keeps G vs (from_premise G vs (left_ready at line And p q) (value_keeps m)) (λ a.
        if_keeps G vs (is_true a)
        (so_keeps G vs (λ r. right_ready at line And p q r.0) (λ b r e. right p q _ _ (r.0.1).0.operands r.1 e) (value_keeps n))
        (give_keeps G vs _ (λ r. one at line And p q _ r.0 (type_there G S s.well blocks vs n (right_ready at line And p q r.0)) r.1)))

    pub each_keeps : {fs : List Evaluates} {ps : Exprs} → MeansEach fs ps
        → AllZip (λ t f. Keeps G vs (ReadyEach ps) Value (ValueHas G.declarations t) f) (types_of (environment G S blocks) ps) (map (λ (evaluates : Evaluates). evaluates (inside G S)) fs)
    each_keeps each.MeansEach.none = tt
    each_keeps (each.MeansEach.more {p = p} {ps = ps} m ms) =
        (from_premise G vs (λ q. (each_ready p ps q).0) (value_keeps m), zip_from G vs (ValueHas G.declarations) (λ q. (each_ready p ps q).1) _ _ (each_keeps ms))
