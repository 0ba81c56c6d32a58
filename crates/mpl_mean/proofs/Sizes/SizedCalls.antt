-- What is passed on has the words of its type, and calls are made with the arguments that are asked for.
use Rattle.std.proofs.Common.{◌≡◌, ℕ, Bool, true, false, ◌&&◌, List, [], Option, Some, None, if◌then◌else◌, ℤ, pos, refl, sym, ap, subst, ◌∙◌}
use Rattle.std.specs.FinMap.{get}
use Rattle.std.specs.List.{AllZip}
use Rattle.std.specs.Ordering.{int_eq}
use Rattle.std.specs.Prelude.{is_some}
use Rattle.mpl_ast.specs.declared.class.ResultType.{ResultType}
use Rattle.mpl_ast.specs.declared.class.ResultType.TheVariants as kind
use Rattle.mpl_ast.specs.declared.expression.Expression.{Expression}
use Rattle.mpl_ast.specs.declared.expression.Target.TheVariants as target
use Rattle.mpl_ast.specs.declared.program.Declaration.{Declaration}
use Rattle.mpl_value.specs.declared.body.Arg.{Arg}
use Rattle.mpl_value.specs.declared.body.Arg.TheVariants.{Know}
use Rattle.mpl_mean.specs.Meaning.CallMeaning.{MayName, answer, bound, call_of_member, held_or, made, pass, persistent_call, regular_call, whole_name, whole_variable}
use Rattle.mpl_value.specs.CallAnswers.{arg_of_reply, known_words}
use Rattle.mpl_mean.specs.TypeRules.CallRules.{call_may_stand, member_has_value}
use Rattle.mpl_mean.specs.TypeRules.ClassRules.{has_value}
use Rattle.mpl_mean.specs.Meaning.ExpressionMeaning.{Evaluates}
use Rattle.mpl_mean.specs.TypeRules.ExpressionRules.{is_one_value}
use Rattle.mpl_mean.specs.Meaning.Layout.{Member, part_named, words_of}
use Rattle.mpl_mean.specs.TypeRules.Nodes.{nodes_of_each, expr_nodes}
use Rattle.mpl_mean.specs.Plain.Expr.{Expr, Exprs, expr_of}
use Rattle.mpl_mean.specs.Plain.Expr as expr
use Rattle.mpl_mean.specs.TypeRules.Scopes.{Body, InFunction, InGuard, InMain, InMember, NoBody, Surrounding, is_in_member, is_persistent, variable_of}
use Rattle.mpl_mean.specs.Laws.Sizes.{ArgumentsFit, words_of_result}
use Rattle.mpl_mean.specs.Meaning.Store.{Step, Variable, ◌>>=◌, pure, variable_named}
use Rattle.mpl_mean.specs.TypeRules.Types.{AsResult, Declared, OfClass, OneValue, ValueType, meant, result_type, shape_of, value_type}
use Rattle.mpl_mean.specs.TypeRules.Typing.{type_of, type_of_call, type_of_whole}
use Rattle.mpl_mean.specs.Meaning.Values.{Value}
use Rattle.mpl_mean.specs.Laws.Waiting.{HasPersistent}
use Rattle.mpl_mean.proofs.Sizes.SizedAnswers.{IsMember, all_keep, answer_keeps, known_fit, made_keeps, reply_fits}
use Rattle.mpl_mean.proofs.Sizes.SizedArguments.{ArgHas, ValueHas, unknown_waits}
use Rattle.mpl_mean.proofs.Sizes.SizedExpressionForms.{expression_means}
use Rattle.mpl_mean.proofs.Sizes.SizedExpressions.{value_keeps}
use Rattle.mpl_mean.proofs.Sizes.SizedForms.{Means, number, truth, own, input, whole, element, plain, parenthesized, unary, arithmetic, compares, or, and}
use Rattle.mpl_mean.proofs.Sizes.SizedPlaces.{which}
use Rattle.mpl_mean.proofs.Sizes.SizedRules.{AllRight, WellResult}
use Rattle.mpl_mean.proofs.Sizes.SizedSettings.{FoundAs, Matches, MayCall, PlaceFits, RegularFits, Setting, Sound, VariableOf, environment, inside, look_keeps}
use Rattle.mpl_mean.proofs.Sizes.SizedSteps.{ArgIn, Frame, Keeps, bare, from_premise, give_keeps, if_keeps, spend_keeps, stop_keeps, then_keeps, variable_words}
use Rattle.mpl_mean.proofs.Sizes.SizedTypes.{HasSize, WellProgram, type_words}
use Rattle.mpl_mean.proofs.Sizes.SizedTyping.{whole_size}

-- ---- whole variables

has_arg : (W : Type 0) (ds : List Declaration) (t : Option ValueType) (n : ℕ) (a : Arg) → HasSize ds t n → ArgIn W n a → ArgHas W ds t a
has_arg W ds None n a h k = absurd h
has_arg W ds (Some t) n a h k = subst (λ n. ArgIn W n a) h k

known_has : (W : Type 0) (ds : List Declaration) (t : Option ValueType) (v : Value) → ValueHas ds t v → ArgHas W ds t (Know v.words)
known_has W ds None v h = absurd h
known_has W ds (Some t) v h = h

some_name : {a b : List ℕ} → ◌≡◌ {A = MayName} (Some a) (Some b) → a ≡ b
some_name e = cc

variable_size : {ds : List Declaration} → WellProgram ds → (w : Variable) (d : Option Declared) → VariableOf ds d (bare w) → is_one_value (shape_of ds d) ≡ true
    → HasSize ds (type_of_whole (shape_of ds d)) (variable_words ds w)
variable_size well w None h i = absurd h
variable_size {ds} well w (Some d) h i = whole_size well d (variable_words ds w) (shape_of ds (Some d)) refl (h.2).0 i (ap (λ t. words_of ds t w.dimension) h.0 ∙ ap (words_of ds d.type) h.1)

-- ---- results

result_has : (W : Type 0) {ds : List Declaration} → WellProgram ds → (r : ResultType) (a : Arg) → has_value r ≡ true → WellResult ds r → ArgIn W (words_of_result ds r) a → ArgHas W ds (result_type ds r) a
result_has W well (kind.Void at) a h w f = absurd cc
result_has W {ds} well (kind.Typed at t) a h w f =
    let v = which (value_type AsResult (meant ds t)) w in
    subst (λ o. ArgHas W ds o a) (sym v.1) (subst (λ n. ArgIn W n a) (type_words well AsResult t v.0 v.1) f)

-- the result of a call of the member that the type rules see
abbrev pub CallHas : Type 0 → List Declaration → Option Member → Arg → Type 0
CallHas W ds None a = ⊥
CallHas W ds (Some n) a = ArgIn W (words_of_result ds n.result) a × WellResult ds n.result

pub passed_has : (W : Type 0) {ds : List Declaration} → WellProgram ds → (n : Option Member) (a : Arg) → member_has_value n ≡ true → CallHas W ds n a → ArgHas W ds (type_of_call ds n) a
passed_has W well None a h c = absurd c
passed_has W well (Some n) a h c = result_has W well n.result a h c.1 c.0

-- ---- where calls may stand

pub own_may : (body : Body) (class : Option Surrounding) → (is_in_member body && is_persistent class) ≡ true → call_may_stand body (is_persistent class) (Some (OneValue (OfClass []))) ≡ true
own_may NoBody class e = absurd cc
own_may InGuard class e = absurd cc
own_may InMain class e = absurd cc
own_may (InFunction type) class e = absurd cc
own_may (InMember result) class e = ap (λ b. call_may_stand (InMember result) b (Some (OneValue (OfClass [])))) e

pub object_may : (body : Body) (persistent : Bool) (n : List ℕ) → call_may_stand body persistent (Some (OneValue (OfClass n))) ≡ true → call_may_stand body persistent (Some (OneValue (OfClass []))) ≡ true
object_may NoBody persistent n e = absurd cc
object_may InGuard persistent n e = absurd cc
object_may InMain persistent n e = refl
object_may (InFunction type) persistent n e = absurd cc
object_may (InMember result) true n e = refl
object_may (InMember result) false n e = absurd cc

pub if_known : (G : Frame) (vs : List Variable) {P : Type 0} {A : Type 0} {V : A → Type 0} (test : Bool) {f h : Step A} → Keeps G vs (P × (test ≡ true)) A V f → Keeps G vs (P × (test ≡ false)) A V h
    → Keeps G vs P A V (if test then f else h)
if_known G vs true t u = from_premise G vs (λ p. (p, refl)) t
if_known G vs false t u = from_premise G vs (λ p. (p, refl)) u

pub member_keeps : (G : Frame) (vs : List Variable) {P : Type 0} {V : Arg → Type 0} (o : Option Member) (h : Member → Step Arg) → (P → is_some o ≡ true) → ((m : Member) → Keeps G vs (P × (o ≡ Some m)) Arg V (h m))
    → Keeps G vs P Arg V (call_of_member o h)
member_keeps G vs None h there r = stop_keeps G vs _ (λ p. absurd (let e = there p in cc))
member_keeps G vs (Some m) h there r = from_premise G vs (λ p. (p, refl)) (r m)

pub bound_keeps : (G : Frame) (vs : List Variable) {P : Type 0} (line : ℕ) (object : ℤ) → Keeps G vs P ℤ (λ _. Unit {0}) (bound line object)
bound_keeps G vs line object = if_keeps G vs (int_eq object (pos 0)) (stop_keeps G vs _ (λ p. tt)) (give_keeps G vs object (λ p. tt))

module _ (G : Frame) (S : Setting) (s : Sound G S) (blocks : List (List Declared)) (vs : List Variable) where
  abbrev Ready : Expr → Type 0
  Ready p = Matches G S blocks vs × AllRight (expr_nodes (environment G S blocks) p)

  abbrev ReadyEach : Exprs → Type 0
  ReadyEach ps = Matches G S blocks vs × AllRight (nodes_of_each (environment G S blocks) ps)

  -- ---- expressions that are passed on

  named_fits : {v : Evaluates} {p : Expr} {m : MayName} (name : List ℕ) (w : Variable) → Means v p m → m ≡ Some name → Ready p → FoundAs G.MayWait G.declarations (variable_named name vs) name (Some w)
      → ArgHas G.MayWait G.declarations (type_of (environment G S blocks) p) w.holds
  named_fits name w (number at z) e r f = absurd cc
  named_fits name w (truth at b) e r f = absurd cc
  named_fits name w (own at) e r f = absurd cc
  named_fits name w (input at) e r f = absurd cc
  named_fits name w (whole at (target.Variable t n)) e r f =
      let found : variable_named n.text vs ≡ Some (bare w) = ap (λ k. variable_named k vs) (some_name e) ∙ f.0 in
      let place = subst (λ u. PlaceFits G.declarations G.state_words (variable_of (environment G S blocks) n.text) u (part_named n.text S.context.state)) found (r.0 n.text) in
      has_arg G.MayWait G.declarations (type_of (environment G S blocks) (expr.Whole at (target.Variable t n))) (variable_words G.declarations w) w.holds
      (variable_size s.well w (variable_of (environment G S blocks) n.text) place (r.1).0.place) f.1
  named_fits name w (whole at (target.Field t n field)) e r f = absurd cc
  named_fits name w (element at line t m) e r f = absurd cc
  named_fits name w (plain at g m) e r f = absurd cc
  named_fits name w (parenthesized at m) e r f = absurd cc
  named_fits name w (unary at line o m) e r f = absurd cc
  named_fits name w (arithmetic at line operator o m n) e r f = absurd cc
  named_fits name w (compares at line operator o m n) e r f = absurd cc
  named_fits name w (or at line m n) e r f = absurd cc
  named_fits name w (and at line m n) e r f = absurd cc

  abbrev Keeps-Passed : Expr → Step Arg → Type 0
  Keeps-Passed p f = Keeps G vs (Ready p) Arg (ArgHas G.MayWait G.declarations (type_of (environment G S blocks) p)) f

  evaluated : {P : Type 0} {v : Evaluates} {p : Expr} {m : MayName} → Means v p m → (P → Ready p)
      → Keeps G vs P Arg (ArgHas G.MayWait G.declarations (type_of (environment G S blocks) p)) (v (inside G S) >>= (λ (v : Value). pure (Know v.words)))
  evaluated {p = p} m h =
      then_keeps G vs (from_premise G vs h (value_keeps G S s blocks vs m)) (λ v. give_keeps G vs (Know v.words) (λ r. known_has G.MayWait G.declarations (type_of (environment G S blocks) p) v r.1))

  pass_means : {v : Evaluates} {p : Expr} (m : MayName) → Means v p m → Keeps-Passed p (λ s. held_or (whole_variable m s.variables) (v (inside G S)) s)
  pass_means None m = evaluated m (λ r. r)
  pass_means {v} {p} (Some name) m = look_keeps G vs name (λ u. held_or u (v (inside G S))) each where
    each : (u : Option Variable) → Keeps G vs (Ready p × FoundAs G.MayWait G.declarations (variable_named name vs) name u) Arg (ArgHas G.MayWait G.declarations (type_of (environment G S blocks) p)) (held_or u (v (inside G S)))
    each None = evaluated m (λ r. r.0)
    each (Some w) = give_keeps G vs w.holds (λ r. named_fits name w m refl r.0 r.1)

  pub pass_keeps : (e : Expression) → Keeps-Passed (expr_of e) (pass (inside G S) e)
  pass_keeps e = pass_means (whole_name e) (expression_means e)

  -- ---- calls

  abbrev EachKeeps : Type 0 → List (Option ValueType) → List (Step Arg) → Type 0
  EachKeeps P ts fs = AllZip (λ t f. Keeps G vs P Arg (ArgHas G.MayWait G.declarations t) f) ts fs

  pub persistent_keeps : {P : Type 0} (object : ℤ) (m : Member) (ts : List (Option ValueType)) (fs : List (Step Arg)) → EachKeeps P ts fs → (P → IsMember G.declarations m)
      → (P → (args : List Arg) → AllZip (ArgHas G.MayWait G.declarations) ts args → ArgumentsFit G.declarations m.formals args) → (P → MayCall S) → (P → HasPersistent G.declarations)
      → Keeps G vs P Arg (ArgIn G.MayWait (words_of_result G.declarations m.result)) (persistent_call (inside G S) object m fs)
  persistent_keeps object m ts fs r is fit may has =
      then_keeps G vs (all_keep G vs (ArgHas G.MayWait G.declarations) ts fs r) (λ args.
      then_keeps G vs {h = λ _. made object m.id args >>= (λ k. answer args (pure (arg_of_reply (get G.replies k))))} (spend_keeps G vs S.context.turns) (λ _.
      then_keeps G vs (made_keeps G vs object m args (λ p. is p.0.0) (λ p. fit p.0.0 args p.0.1) (λ p. s.replies (may p.0.0) (has p.0.0)) (λ p. s.makes (may p.0.0) (has p.0.0)) (λ p. s.awaits (may p.0.0) (has p.0.0))) (λ k.
      answer_keeps G vs (words_of_result G.declarations m.result) args (pure (arg_of_reply (get G.replies k))) (λ p. unknown_waits G.MayWait G.declarations ts args p.0.0.1)
      (give_keeps G vs _ (λ p. reply_fits G.MayWait (words_of_result G.declarations m.result) (get G.replies k) p.0.1.0 p.0.1.1)))))

  pub regular_keeps : {P : Type 0} (m : Member) (ts : List (Option ValueType)) (fs : List (Step Arg)) → EachKeeps P ts fs → (P → RegularFits G.declarations m)
      → (P → (args : List Arg) → AllZip (ArgHas G.MayWait G.declarations) ts args → ArgumentsFit G.declarations m.formals args)
      → Keeps G vs P Arg (ArgIn G.MayWait (words_of_result G.declarations m.result)) (regular_call (inside G S) m fs)
  regular_keeps m ts fs r is fit =
      then_keeps G vs (all_keep G vs (ArgHas G.MayWait G.declarations) ts fs r) (λ args.
      then_keeps G vs {h = λ _. answer args (S.context.callees.regular m (known_words args))} (spend_keeps G vs S.context.turns) (λ _.
      answer_keeps G vs (words_of_result G.declarations m.result) args (S.context.callees.regular m (known_words args)) (λ p. unknown_waits G.MayWait G.declarations ts args p.0.1)
      (from_premise G vs (λ p. (is p.0.0.0, known_fit G.declarations m.formals args (fit p.0.0.0 args p.0.0.1) p.1 p.2))
      ((s.callees).regular G.MayMake G.MayWait G.state_words G.result_words G.calls G.MayReturn vs m (known_words args)))))
