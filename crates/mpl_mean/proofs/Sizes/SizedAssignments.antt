-- What assignments and new objects do keeps the words of variables and of the state.
use Rattle.std.proofs.Common.{◌≡◌, ℕ, ◌+◌, Bool, true, false, List, [], ◌∷◌, ◌++◌, length, Option, Some, None, ℤ, refl, sym, subst, ◌∙◌, arith}
use Rattle.std.specs.Prelude.{is_some}
use Rattle.mpl_ast.specs.declared.expression.Conjunction.{Conjunction}
use Rattle.mpl_ast.specs.declared.expression.Conjunction.TheOpen.{Place-F}
use Rattle.mpl_ast.specs.declared.expression.Equality.{Equality}
use Rattle.mpl_ast.specs.declared.expression.Expression.{Expression}
use Rattle.mpl_ast.specs.declared.expression.Place.{Place, out-Place}
use Rattle.mpl_ast.specs.declared.expression.Primary.{Primary}
use Rattle.mpl_ast.specs.declared.expression.Relation.{Relation}
use Rattle.mpl_ast.specs.declared.expression.Sum.{Sum}
use Rattle.mpl_ast.specs.declared.expression.Target.{Target}
use Rattle.mpl_ast.specs.declared.expression.Term.{Term}
use Rattle.mpl_ast.specs.declared.expression.Unary.{Unary}
use Rattle.mpl_ast.specs.declared.flow.Assignment.{Assignment}
use Rattle.mpl_ast.specs.declared.place.At.{At}
use Rattle.mpl_ast.specs.declared.program.Declaration.{Declaration}
use Rattle.mpl_value.specs.declared.body.Arg.{Arg}
use Rattle.mpl_value.specs.declared.body.Arg.TheVariants.{Know}
use Rattle.mpl_mean.specs.TypeRules.CallRules.{is_object}
use Rattle.mpl_mean.specs.TypeRules.ExpressionRules.{can_be_indexed, is_one_value}
use Rattle.mpl_mean.specs.Meaning.Layout.{Class, class_of_type, dimension_of, words_of}
use Rattle.mpl_mean.specs.TypeRules.Nodes.{expr_nodes, place, target_nodes}
use Rattle.mpl_mean.specs.TypeRules.Nodes as node
use Rattle.mpl_mean.specs.Plain.Expr.{Expr, expr_of, expr_of_flow, expr_of_forms, expr_of_place}
use Rattle.mpl_mean.specs.Plain.Expr as expr
use Rattle.mpl_mean.specs.Meaning.PlaceMeaning.{Location, index_of, put}
use Rattle.mpl_mean.specs.Meaning.StatementMeaning.{Effect, assign_place, assign_location, assigns, at_location, create_at, new_object}
use Rattle.mpl_mean.specs.Meaning.Store.{Variable, ◌>>=◌, waits}
use Rattle.mpl_mean.specs.TypeRules.Types.{Declared, OfBool, OfClass, OfInt, OfStruct, Shape, AnArray, ARegular, OneValue, ValueType, agree, shape_of}
use Rattle.mpl_mean.specs.TypeRules.Typing.{target_shape, type_of, type_of_element, type_of_whole}
use Rattle.mpl_mean.specs.Meaning.Values.{Value, word_of}
use Rattle.mpl_mean.proofs.ExpressionInduction.{place_of_parts, place_opens}
use Rattle.mpl_mean.proofs.Sizes.SizedArguments.{ArgHas}
use Rattle.mpl_mean.proofs.Sizes.SizedCallees.{class_at, class_there}
use Rattle.mpl_mean.proofs.Sizes.SizedExpressionForms.{expression_means}
use Rattle.mpl_mean.proofs.Sizes.SizedExpressions.{value_keeps}
use Rattle.mpl_mean.proofs.Sizes.SizedFlows.{flow_keeps}
use Rattle.mpl_mean.proofs.Sizes.SizedPlaces.{BaseFits, SpotRight, base_keeps, field_base, index_keeps, put_keeps, location_keeps, which}
use Rattle.mpl_mean.proofs.Sizes.SizedRules.{AllRight, Right, every_left, every_right}
use Rattle.mpl_mean.proofs.Sizes.SizedSettings.{Matches, Setting, Sound, environment, inside}
use Rattle.mpl_mean.proofs.Sizes.SizedSteps.{ArgIn, Frame, Keeps, bare, force_keeps, from_premise, so_keeps, spend_keeps, stop_keeps, then_keeps}
use Rattle.mpl_mean.proofs.Sizes.SizedStores.{created_keeps, hold_keeps}
use Rattle.mpl_mean.proofs.Sizes.SizedTypes.{HasSize, WellProgram, same_size, shape_words, size}
use Rattle.mpl_mean.proofs.Sizes.SizedTyping.{element_size, target_there, type_there, whole_size}

-- what is passed on with the type of a place has its words
pub agree_arg : (W : Type 0) (ds : List Declaration) (s t : Option ValueType) (n : ℕ) (a : Arg) → HasSize ds s n → agree s t ≡ true → ArgHas W ds t a → ArgIn W n a
agree_arg W ds None t n a h e k = absurd h
agree_arg W ds (Some s) None n a h e k = absurd k
agree_arg W ds (Some s) (Some t) n a h e k = subst (λ m. ArgIn W m a) (sym (h ∙ same_size ds s t e)) k

-- what a new object goes into has a class
object_class : {ds : List Declaration} → WellProgram ds → (d : Declared) (s : Option Shape) → shape_of ds (Some d) ≡ s → is_some s ≡ true → is_object s ≡ true → is_some (class_of_type ds d.type) ≡ true
object_class well d None e i h = absurd cc
object_class well d (Some (OneValue (OfClass n))) e i h = class_there well d.type _ (class_at _ d (Some (OneValue (OfClass n))) e i h)
object_class well d (Some (OneValue OfInt)) e i h = absurd cc
object_class well d (Some (OneValue OfBool)) e i h = absurd cc
object_class well d (Some (OneValue (OfStruct n))) e i h = absurd cc
object_class well d (Some (AnArray t)) e i h = absurd cc
object_class well d (Some (ARegular items)) e i h = absurd cc

-- ---- into a place

whole_keeps : (G : Frame) (vs : List Variable) {P : Type 0} (p : Location) (v : Option Variable) (is_whole : Bool) (value : Arg)
    → (P → BaseFits G.MayWait G.declarations G.state_words vs v p.offset p.words is_whole) → (P → ArgIn G.MayWait p.words value)
    → Keeps G vs P (Unit {0}) (λ _. Unit {0}) (assign_location (Some (record p { variable = v; is_whole = is_whole })) value)
whole_keeps G vs p None is_whole value b f =
    so_keeps G vs (λ p. p) (λ a q h. tt)
    (then_keeps G vs (force_keeps G vs p.words value f) (λ words. put_keeps G vs None p.offset is_whole words (λ q. let i = q.1 in (p.words, omega arith, b q.0))))
whole_keeps G vs p (Some v) true value b f =
    hold_keeps G vs v.name value (λ q. (bare v, (b q).2, subst (λ n. ArgIn G.MayWait n value) ((b q).3 refl) (f q)))
whole_keeps G vs p (Some v) false value b f =
    so_keeps G vs (λ p. p) (λ a q h. tt)
    (then_keeps G vs (force_keeps G vs p.words value f) (λ words. put_keeps G vs (Some v) p.offset false words (λ q. let i = q.1 in (p.words, omega arith, b q.0))))

pub object_size : {ds : List Declaration} → WellProgram ds → (d : Declared) (s : Option Shape) → shape_of ds (Some d) ≡ s → is_some s ≡ true → is_object s ≡ true
    → words_of ds d.type (dimension_of d.dimension) ≡ 1
object_size well d None e i h = absurd cc
object_size well d (Some (OneValue (OfClass n))) e i h = shape_words well d (OfClass n) e
object_size well d (Some (OneValue OfInt)) e i h = absurd cc
object_size well d (Some (OneValue OfBool)) e i h = absurd cc
object_size well d (Some (OneValue (OfStruct n))) e i h = absurd cc
object_size well d (Some (AnArray t)) e i h = absurd cc
object_size well d (Some (ARegular items)) e i h = absurd cc

module _ (G : Frame) (S : Setting) (s : Sound G S) (blocks : List (List Declared)) (vs : List Variable) where
  abbrev Ready : Expr → Type 0
  Ready p = Matches G S blocks vs × AllRight (expr_nodes (environment G S blocks) p)

  -- a value with the type of the place
  abbrev Suits : Expr → Arg → Type 0
  Suits p value = (t : Option ValueType) × (agree (type_of (environment G S blocks) p) t ≡ true) × ArgHas G.MayWait G.declarations t value

  into_whole : (at : At) (t : Target) (value : Arg) (location : Option Location)
      → Keeps G vs ((Ready (expr.Whole at t) × Suits (expr.Whole at t) value) × SpotRight G S blocks vs t location) (Unit {0}) (λ _. Unit {0}) (assign_location location value)
  into_whole at t value None = stop_keeps G vs _ (λ q. absurd (q.1).fits)
  into_whole at t value (Some location) =
      whole_keeps G vs location location.variable location.is_whole value (λ q. (q.1).fits.base)
      (λ q.
      let d = (q.1).declared in
      let e = (q.1).shape in
      agree_arg G.MayWait G.declarations (type_of_whole (target_shape (environment G S blocks) t)) (q.0.1).0 location.words value
      (subst (λ k. HasSize G.declarations (type_of_whole k) location.words) (sym e)
      (whole_size s.well d location.words (shape_of G.declarations (Some d)) refl (q.1).fits.well.0 (subst (λ k. is_one_value k ≡ true) e (q.0.0.1).0.place) (q.1).fits.words))
      (q.0.1).1 (q.0.1).2)

  -- what is stored at an element, as an assignment has it
  abbrev element : ℕ → Option Location → Value → List ℤ → Effect
  element line None i words = waits
  element line (Some location) i words = index_of line location.words (word_of i) >>= (λ n. put location.variable (location.offset + n) words)

  element_there : (at : At) (line : ℕ) (t : Target) (e : Expression) → Ready (expr.Element at line t (expr_of e)) → HasSize G.declarations (type_of (environment G S blocks) (expr.Element at line t (expr_of e))) 1
  element_there at line t e r =
      let h = environment G S blocks in
      let d = target_there G S s.well blocks vs t r.0 (every_left Right (target_nodes h t) (expr_nodes h (expr_of e)) (r.1).1) in
      let i = which (type_of h (expr_of e)) (type_there G S s.well blocks vs (expression_means e) (r.0, every_right Right (target_nodes h t) (expr_nodes h (expr_of e)) (r.1).1)) in
      subst (λ k. HasSize G.declarations (type_of_element k (type_of h (expr_of e))) 1) (sym d.1)
      (element_size G.declarations d.0 (shape_of G.declarations (Some d.0)) (type_of h (expr_of e)) (size G.declarations i.0) refl d.2
      (subst (λ k. can_be_indexed k (type_of h (expr_of e)) ≡ true) d.1 (r.1).0.index) (subst (λ o. HasSize G.declarations o (size G.declarations i.0)) (sym i.1) refl))

  into_element : {P : Type 0} (line : ℕ) (t : Target) (i : Value) (words : List ℤ) → (P → length words ≡ 1) → (location : Option Location)
      → Keeps G vs (P × SpotRight G S blocks vs t location) (Unit {0}) (λ _. Unit {0}) (element line location i words)
  into_element line t i words h None = stop_keeps G vs _ (λ q. absurd (q.1).fits)
  into_element line t i words h (Some location) =
      so_keeps G vs (λ p. p) (λ a p e. tt)
      (then_keeps G vs (index_keeps G vs line location.words (word_of i)) (λ n.
      put_keeps G vs location.variable (location.offset + n) false words
      (λ q. let j = h q.0.0 in let k = q.1 in (1, omega arith, field_base G.MayWait G.declarations G.state_words vs location.variable location.offset location.words n 1 location.is_whole (q.0.1).fits.base k))))

  abbrev expr_of_layer : Place-F Conjunction Equality Expression Place Primary Relation Sum Term Unary → Expr
  expr_of_layer = place_of_parts expr_of_forms

  place_keeps : (l : Place-F Conjunction Equality Expression Place Primary Relation Sum Term Unary) (value : Arg)
      → Keeps G vs (Ready (expr_of_layer l) × Suits (expr_of_layer l) value) (Unit {0}) (λ _. Unit {0}) (assign_place (inside G S) l value)
  place_keeps (Place-F.Whole at t) value = location_keeps G S s.well blocks vs t (λ location. assign_location location value) (λ q. q.0.0) (λ q. (q.0.1).1) (into_whole at t value)
  place_keeps (Place-F.Element at line t e) value =
      let h = environment G S blocks in
      so_keeps G vs (λ p. p) (λ a p e. tt)
      (then_keeps G vs
      (force_keeps G vs 1 value
      (λ q. agree_arg G.MayWait G.declarations (type_of h (expr.Element at line t (expr_of e))) (q.1).0 1 value (element_there at line t e q.0) (q.1).1 (q.1).2)) (λ words.
      then_keeps G vs
      (from_premise G vs (λ q. (q.0.0.0, every_right Right (target_nodes h t) (expr_nodes h (expr_of e)) (q.0.0.1).1)) (value_keeps G S s blocks vs (expression_means e))) (λ i.
      location_keeps G S s.well blocks vs t (λ location. element line location i words) (λ q. q.0.0.0.0) (λ q. every_left Right (target_nodes h t) (expr_nodes h (expr_of e)) (q.0.0.0.1).1)
      (into_element line t i words (λ q. q.0.1)))))

  abbrev AssignReady : ℕ → Expr → Expr → Type 0
  AssignReady at p q =
      Matches G S blocks vs × AllRight (place at (environment G S blocks) (node.Assigned p q) ∷ expr_nodes (environment G S blocks) p ++ expr_nodes (environment G S blocks) q)

  pub assigns_keeps : (a : Assignment) → Keeps G vs (AssignReady a.at.span.from (expr_of_place a.place) (expr_of_flow a.value)) (Unit {0}) (λ _. Unit {0}) (assigns (inside G S) a)
  assigns_keeps a =
      let h = environment G S blocks in
      let p = expr_of_place a.place in
      let q = expr_of_flow a.value in
      let same : p ≡ expr_of_layer (out-Place a.place) = place_opens expr_of_forms a.place in
      so_keeps G vs (λ r. r) (λ b r e. tt)
      (then_keeps G vs (from_premise G vs (λ r. (r.0, every_right Right (expr_nodes h p) (expr_nodes h q) (r.1).1)) (flow_keeps G S s blocks vs a.value)) (λ value.
      from_premise G vs
      (λ r. subst (λ p. Ready p × Suits p value) same ((r.0.0, every_left Right (expr_nodes h p) (expr_nodes h q) (r.0.1).1), (type_of h q, (r.0.1).0.right_side, r.1)))
      (place_keeps (out-Place a.place) value)))

  -- ---- new objects

  object_keeps : {P : Type 0} (class : Option Class) → (P → is_some class ≡ true) → Keeps G vs P ℤ (λ _. Unit {0}) (new_object (inside G S) class)
  object_keeps None there = stop_keeps G vs _ (λ p. absurd (let e = there p in cc))
  object_keeps (Some class) there = so_keeps G vs (λ p. p) (λ a p e. tt) (then_keeps G vs (spend_keeps G vs S.context.turns) (λ _. created_keeps G vs (inside G S) class))

  create_into : {P : Type 0} (p : Location) (v : Option Variable) (is_whole : Bool) → (P → BaseFits G.MayWait G.declarations G.state_words vs v p.offset p.words is_whole) → (P → p.words ≡ 1) → (P → is_some (class_of_type G.declarations p.type) ≡ true)
      → Keeps G vs P (Unit {0}) (λ _. Unit {0}) (create_at (inside G S) (Some (record p { variable = v; is_whole = is_whole })))
  create_into p None is_whole b e there =
      so_keeps G vs (λ q. q) (λ a q h. tt)
      (then_keeps G vs (object_keeps (class_of_type G.declarations p.type) there) (λ object.
      put_keeps G vs None p.offset is_whole (object ∷ []) (λ q. let i = e q.0 in (p.words, omega arith, b q.0))))
  create_into p (Some v) true b e there =
      so_keeps G vs (λ q. q) (λ a q h. tt)
      (then_keeps G vs (object_keeps (class_of_type G.declarations p.type) there) (λ object.
      hold_keeps G vs v.name (Know (object ∷ [])) (λ q. (bare v, (b q.0).2, sym (e q.0) ∙ (b q.0).3 refl))))
  create_into p (Some v) false b e there =
      so_keeps G vs (λ q. q) (λ a q h. tt)
      (then_keeps G vs {h = λ _. new_object (inside G S) (class_of_type G.declarations p.type) >>= (λ object. put (Some v) p.offset (object ∷ []))}
      (base_keeps G vs (Some v) p.offset p.words false b) (λ _.
      (then_keeps G vs (object_keeps (class_of_type G.declarations p.type) (λ q. there q.0)) (λ object.
      put_keeps G vs (Some v) p.offset false (object ∷ []) (λ q. let i = e q.0.0 in (p.words, omega arith, b q.0.0))))))

  pub create_keeps : (at : ℕ) (t : Target) → Keeps G vs (Matches G S blocks vs × AllRight (place at (environment G S blocks) (node.ACreate t) ∷ target_nodes (environment G S blocks) t)) (Unit {0}) (λ _. Unit {0})
      (at_location (inside G S) t (create_at (inside G S)))
  create_keeps at t = location_keeps G S s.well blocks vs t (create_at (inside G S)) (λ q. q.0) (λ q. (q.1).1) each where
    each : (location : Option Location) → Keeps G vs ((Matches G S blocks vs × AllRight (place at (environment G S blocks) (node.ACreate t) ∷ target_nodes (environment G S blocks) t)) × SpotRight G S blocks vs t location)
        (Unit {0}) (λ _. Unit {0}) (create_at (inside G S) location)
    each None = stop_keeps G vs _ (λ q. absurd (q.1).fits)
    each (Some location) =
        create_into location location.variable location.is_whole (λ q. (q.1).fits.base)
        (λ q. (q.1).fits.words ∙ object_size s.well (q.1).declared (shape_of G.declarations (Some (q.1).declared)) refl (q.1).fits.well.0 (subst (λ k. is_object k ≡ true) (q.1).shape (q.0.1).0.call))
        (λ q.
        subst (λ w. is_some (class_of_type G.declarations w) ≡ true) (sym (q.1).fits.type)
        (object_class s.well (q.1).declared (shape_of G.declarations (Some (q.1).declared)) refl (q.1).fits.well.0 (subst (λ k. is_object k ≡ true) (q.1).shape (q.0.1).0.call)))
