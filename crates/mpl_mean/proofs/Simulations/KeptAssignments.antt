-- What locals, assignments and new objects do, in two runs.
use Rattle.std.proofs.Common.{ℕ, ◌+◌, Bool, true, false, List, [], ◌∷◌, Option, Some, None, ℤ, refl}
use Rattle.mpl_ast.specs.declared.expression.Conjunction.{Conjunction}
use Rattle.mpl_ast.specs.declared.expression.Conjunction.TheOpen.{Place-F}
use Rattle.mpl_ast.specs.declared.expression.Equality.{Equality}
use Rattle.mpl_ast.specs.declared.expression.Expression.{Expression}
use Rattle.mpl_ast.specs.declared.expression.Place.{Place, out-Place}
use Rattle.mpl_ast.specs.declared.expression.Primary.{Primary}
use Rattle.mpl_ast.specs.declared.expression.Relation.{Relation}
use Rattle.mpl_ast.specs.declared.expression.Sum.{Sum}
use Rattle.mpl_ast.specs.declared.expression.Target.{Target}
use Rattle.mpl_ast.specs.declared.expression.Term.{Term}
use Rattle.mpl_ast.specs.declared.expression.Unary.{Unary}
use Rattle.mpl_ast.specs.declared.flow.Assignment.{Assignment}
use Rattle.mpl_ast.specs.declared.statement.Declarator.{Declarator}
use Rattle.mpl_ast.specs.declared.statement.Declarator.TheVariants.{Plain, Initialized}
use Rattle.mpl_ast.specs.declared.statement.Local.{Local}
use Rattle.mpl_ast.specs.declared.statement.TypeName.{TypeName}
use Rattle.mpl_value.specs.declared.body.Arg.{Arg}
use Rattle.mpl_value.specs.declared.body.Arg.TheVariants.{Know}
use Rattle.mpl_mean.specs.Meaning.CallMeaning.{passes}
use Rattle.mpl_mean.specs.Meaning.Context.{Callees, Context}
use Rattle.mpl_mean.specs.Meaning.ExpressionMeaning.{value_of}
use Rattle.mpl_mean.specs.Meaning.Layout.{Class, class_of_type}
use Rattle.mpl_mean.specs.Meaning.PlaceMeaning.{Location, base_of, index_of, put}
use Rattle.mpl_mean.specs.Meaning.StatementMeaning.{Effect, declares, declares_all, assign_location, at_location, assign_place, assigns, new_object, created, create_at}
use Rattle.mpl_mean.specs.Meaning.Store.{Variable, ◌>>=◌, waits, force, hold, spend}
use Rattle.mpl_mean.specs.Meaning.Values.{Value, word_of}
use Rattle.mpl_mean.proofs.Simulations.Simulation.{Simulation, BelowBeside, Same, at_variable, first, second, goes_on_same, runs_in_turn, zip_map}
use Rattle.mpl_mean.proofs.Simulations.KeptPlaces.{VariablesBeside, SpotBeside, SpotsBeside, at_place, looks_at, base_kept, index_kept, put_kept}
use Rattle.mpl_mean.proofs.Simulations.KeptExpressions.{expression_kept}
use Rattle.mpl_mean.proofs.Simulations.KeptCalls.{flow_kept}

abbrev pub SameEffect : Simulation → Effect → Effect → Type 0
SameEffect S = S.Steps (Unit {0}) Same

-- what is done at a place, from what is done where there is none and where there is one
pub at_location_kept : (S : Simulation) (b c : Callees) (x : Context) (t : Target) (h k : Option Location → Effect) → SameEffect S (h None) (k None)
    → ((p q : Location) → SpotBeside S p q → SameEffect S (h (Some p)) (k (Some q))) → SameEffect S (at_location (first S b x) t h) (at_location (second S c x) t k)
at_location_kept S b c x t h k none some = looks_at S b c x t h k each where
  each : (p q : Option Location) → SpotsBeside S p q → SameEffect S (h p) (k q)
  each None None r = none
  each None (Some q) r = absurd r
  each (Some p) None r = absurd r
  each (Some p) (Some q) r = some p q r

-- ---- assignments

assign_location_kept : (S : Simulation) (p : Location) (v w : Option Variable) (is_whole : Bool) (value other : Arg) → VariablesBeside S v w → S.Held value other
    → SameEffect S (assign_location (Some (record p { variable = v; is_whole = is_whole })) value) (assign_location (Some (record p { variable = w; is_whole = is_whole })) other)
assign_location_kept S p None None is_whole value other r h =
    goes_on_same S (force value) (force other) _ _ (S.forces value other h) (λ words. put_kept S None None p.offset words tt)
assign_location_kept S p None (Some w) is_whole value other r h = absurd r
assign_location_kept S p (Some v) None is_whole value other r h = absurd r
assign_location_kept S p (Some v) (Some w) true value other r h =
    at_variable r (λ w. SameEffect S (hold v.name value) (hold w.name other)) (λ a e. S.holds v.name value other h)
assign_location_kept S p (Some v) (Some w) false value other r h =
    goes_on_same S (force value) (force other) _ _ (S.forces value other h) (λ words. put_kept S (Some v) (Some w) p.offset words r)

assign_kept : (S : Simulation) (value other : Arg) → S.Held value other → (p q : Location) → SpotBeside S p q → SameEffect S (assign_location (Some p) value) (assign_location (Some q) other)
assign_kept S value other h p q r =
    at_place r (λ q. SameEffect S (assign_location (Some p) value) (assign_location (Some q) other)) (λ w e. assign_location_kept S p p.variable w p.is_whole value other e h)

-- what is stored at an element, as an assignment has it
abbrev element : ℕ → Option Location → Value → List ℤ → Effect
element line None i words = waits
element line (Some location) i words = index_of line location.words (word_of i) >>= (λ n. put location.variable (location.offset + n) words)

element_kept : (S : Simulation) (line : ℕ) (z : ℤ) (words : List ℤ) (p q : Location) → SpotBeside S p q
    → SameEffect S (index_of line p.words z >>= (λ n. put p.variable (p.offset + n) words)) (index_of line q.words z >>= (λ n. put q.variable (q.offset + n) words))
element_kept S line z words p q r =
    at_place r (λ q. SameEffect S (index_of line p.words z >>= (λ n. put p.variable (p.offset + n) words)) (index_of line q.words z >>= (λ n. put q.variable (q.offset + n) words)))
    (λ w e.
    goes_on_same S (index_of line p.words z) (index_of line p.words z) (λ n. put p.variable (p.offset + n) words) (λ n. put w (p.offset + n) words)
    (index_kept S line p.words z) (λ n. put_kept S p.variable w (p.offset + n) words e))

-- ---- objects

new_object_kept : (S : Simulation) (b c : Callees) (x : Context) (class : Option Class) → S.Steps ℤ Same (new_object (first S b x) class) (new_object (second S c x) class)
new_object_kept S b c x None = S.waiting _ _
new_object_kept S b c x (Some class) = goes_on_same S (spend S.n) (spend S.m) (λ _. created (first S b x) class) (λ _. created (second S c x) class) S.spends (λ _. S.creates x class)

create_into : (S : Simulation) (b c : Callees) (x : Context) (p : Location) (v w : Option Variable) (is_whole : Bool) → VariablesBeside S v w
    → SameEffect S (create_at (first S b x) (Some (record p { variable = v; is_whole = is_whole }))) (create_at (second S c x) (Some (record p { variable = w; is_whole = is_whole })))
create_into S b c x p None None is_whole r =
    goes_on_same S (new_object (first S b x) (class_of_type x.declarations p.type)) (new_object (second S c x) (class_of_type x.declarations p.type)) _ _ (new_object_kept S b c x _)
    (λ object. put_kept S None None p.offset (object ∷ []) tt)
create_into S b c x p None (Some w) is_whole r = absurd r
create_into S b c x p (Some v) None is_whole r = absurd r
create_into S b c x p (Some v) (Some w) true r =
    goes_on_same S (new_object (first S b x) (class_of_type x.declarations p.type)) (new_object (second S c x) (class_of_type x.declarations p.type)) _ _ (new_object_kept S b c x _)
    (λ object. at_variable r (λ w. SameEffect S (hold v.name (Know (object ∷ []))) (hold w.name (Know (object ∷ [])))) (λ a e. S.holds v.name _ _ (S.itself _)))
create_into S b c x p (Some v) (Some w) false r =
    goes_on_same S (base_of (Some v)) (base_of (Some w)) _ _ (base_kept S (Some v) (Some w) r) (λ _.
    goes_on_same S (new_object (first S b x) (class_of_type x.declarations p.type)) (new_object (second S c x) (class_of_type x.declarations p.type)) _ _ (new_object_kept S b c x _)
    (λ object. put_kept S (Some v) (Some w) p.offset (object ∷ []) r))

pub create_kept : (S : Simulation) (b c : Callees) (x : Context) (t : Target) → SameEffect S (at_location (first S b x) t (create_at (first S b x))) (at_location (second S c x) t (create_at (second S c x)))
create_kept S b c x t =
    at_location_kept S b c x t (create_at (first S b x)) (create_at (second S c x)) (S.waiting _ _)
    (λ p q r. at_place r (λ q. SameEffect S (create_at (first S b x) (Some p)) (create_at (second S c x) (Some q))) (λ w e. create_into S b c x p p.variable w p.is_whole e))

module _ (S : Simulation) (b c : Callees) (d : BelowBeside S b c) where
  assign_place_kept : (x : Context) (place : Place-F Conjunction Equality Expression Place Primary Relation Sum Term Unary) (value other : Arg) → S.Held value other
      → SameEffect S (assign_place (first S b x) place value) (assign_place (second S c x) place other)
  assign_place_kept x (Place-F.Whole at t) value other h =
      at_location_kept S b c x t (λ location. assign_location location value) (λ location. assign_location location other) (S.waiting _ _) (assign_kept S value other h)
  assign_place_kept x (Place-F.Element at line t index) value other h =
      goes_on_same S (force value) (force other) _ _ (S.forces value other h) (λ words.
      goes_on_same S (value_of index (first S b x)) (value_of index (second S c x)) _ _ ((expression_kept S b c d index).at x) (λ i.
      at_location_kept S b c x t (λ location. element line location i words) (λ location. element line location i words) (S.waiting _ _) (element_kept S line (word_of i) words)))

  pub assigns_kept : (x : Context) (a : Assignment) → SameEffect S (assigns (first S b x) a) (assigns (second S c x) a)
  assigns_kept x a =
      S.goes_on _ _ _ _ (passes a.value (first S b x)) (passes a.value (second S c x)) _ _ S.held ((flow_kept S b c d a.value).at x)
      (assign_place_kept x (out-Place a.place))

  declares_kept : (x : Context) (type : TypeName) (declarator : Declarator) → SameEffect S (declares (first S b x) type declarator) (declares (second S c x) type declarator)
  declares_kept x type (Plain at variable dimension) = S.declares _ _ (record { same = refl; holds = S.itself _ })
  declares_kept x type (Initialized at variable value) =
      S.goes_on _ _ _ _ (passes value (first S b x)) (passes value (second S c x)) _ _ S.held ((flow_kept S b c d value).at x)
      (λ u v h. S.declares _ _ (record { same = refl; holds = h }))

  pub locals_kept : (x : Context) (local : Local) → SameEffect S (declares_all (first S b x) local) (declares_all (second S c x) local)
  locals_kept x local = runs_in_turn S _ _ (zip_map (SameEffect S) (declares (first S b x) local.type_name) (declares (second S c x) local.type_name) local.declarators (declares_kept x local.type_name))
