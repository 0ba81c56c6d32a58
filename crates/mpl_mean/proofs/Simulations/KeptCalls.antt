-- What is passed on and what calls give, in two runs.
use Rattle.std.proofs.Common.{◌≡◌, ℕ, List, [], ◌∷◌, map, Option, Some, None, ℤ, pos, refl, sym, subst}
use Rattle.std.specs.FinMap.{get}
use Rattle.std.specs.List.{AllZip}
use Rattle.std.specs.Ordering.{int_eq}
use Rattle.mpl_ast.specs.declared.expression.Expression.{Expression}
use Rattle.mpl_ast.specs.declared.expression.Target.{Target}
use Rattle.mpl_ast.specs.declared.flow.Call.{Call, fold-roll-Call, map-Call, roll-Call, ind-Call}
use Rattle.mpl_ast.specs.declared.flow.Flow.{Flow, fold-roll-Flow, map-Flow, roll-Flow, ind-Flow}
use Rattle.mpl_ast.specs.declared.flow.Call.TheOpen.{Call-F, Flow-F}
use Rattle.mpl_value.specs.declared.body.Arg.{Arg}
use Rattle.mpl_value.specs.declared.body.Arg.TheVariants.{Know}
use Rattle.mpl_mean.specs.Meaning.CallMeaning.{MayName, Passes, whole_name, whole_variable, held_or, pass, answer, made, persistent_call, regular_call, bound, call_of_member, call_on, class_of_location, call_on_target, at_context, flow_step, call_step, passes, call_value}
use Rattle.mpl_value.specs.CallAnswers.{arg_of_reply}
use Rattle.mpl_mean.specs.Meaning.Context.{Callees, Context}
use Rattle.mpl_mean.specs.Meaning.ExpressionMeaning.{value_of}
use Rattle.mpl_mean.specs.Meaning.Layout.{Class, Member, member_named, class_of_type}
use Rattle.mpl_mean.specs.Meaning.PlaceMeaning.{Location, words_of_location}
use Rattle.mpl_mean.specs.Meaning.Store.{Step, Variable, ◌>>=◌, pure, spend, all_of}
use Rattle.mpl_mean.specs.Meaning.Values.{Value, first_word}
use Rattle.mpl_mean.proofs.Simulations.Simulation.{Simulation, BelowBeside, Same, first, second, goes_on_same, gives_same, all_held}
use Rattle.mpl_mean.proofs.Simulations.KeptPlaces.{VariablesBeside, SpotsBeside, at_place, looks_at, words_kept}
use Rattle.mpl_mean.proofs.Simulations.KeptExpressions.{Kept, if_kept, expression_kept}

-- the class at a place is that of its type
pub class_same : (S : Simulation) (b c : Callees) (x : Context) (p q : Option Location) → SpotsBeside S p q → class_of_location (first S b x) p ≡ class_of_location (second S c x) q
class_same S b c x None None h = refl
class_same S b c x None (Some q) h = absurd h
class_same S b c x (Some p) None h = absurd h
class_same S b c x (Some p) (Some q) h =
    at_place h (λ q. class_of_type x.declarations p.type ≡ class_of_type x.declarations q.type) (λ w r. refl)

module _ (S : Simulation) (b c : Callees) (d : BelowBeside S b c) where
  -- ---- what is passed on

  held_kept : (v w : Option Variable) (f g : Step Value) → VariablesBeside S v w → S.Steps Value Same f g → S.Steps Arg S.Held (held_or v f) (held_or w g)
  held_kept None None f g h r = goes_on_same S f g _ _ r (λ v. S.gives _ _ (Know v.words) (Know v.words) S.held (S.itself _))
  held_kept None (Some w) f g h r = absurd h
  held_kept (Some v) None f g h r = absurd h
  held_kept (Some v) (Some w) f g h r = S.gives _ _ v.holds w.holds S.held h.holds

  whole_kept : (name : MayName) (f g : Step Value) → S.Steps Value Same f g
      → S.Steps Arg S.Held (λ s. held_or (whole_variable name s.variables) f s) (λ s. held_or (whole_variable name s.variables) g s)
  whole_kept None f g r = held_kept None None f g tt r
  whole_kept (Some name) f g r = S.looks _ _ name (λ v. held_or v f) (λ w. held_or w g) (λ v w h. held_kept v w f g h r)

  pub pass_kept : (x : Context) (e : Expression) → S.Steps Arg S.Held (pass (first S b x) e) (pass (second S c x) e)
  pass_kept x e = whole_kept (whole_name e) (value_of e (first S b x)) (value_of e (second S c x)) ((expression_kept S b c d e).at x)

  -- ---- calls

  abbrev SameArguments : List (Step Arg) → List (Step Arg) → Type 0
  SameArguments = AllZip (S.Steps Arg S.Held)

  persistent_kept : (x : Context) (object : ℤ) (m : Member) (fs gs : List (Step Arg)) → SameArguments fs gs
      → S.Steps Arg S.Held (persistent_call (first S b x) object m fs) (persistent_call (second S c x) object m gs)
  persistent_kept x object m fs gs r =
      S.goes_on _ _ _ _ (all_of fs) (all_of gs) _ _ S.all_held (all_held S fs gs r) (λ args others h.
      goes_on_same S (spend S.n) (spend S.m) (λ _. made object m.id args >>= (λ k. answer args (pure (arg_of_reply (get S.replies k)))))
      (λ _. made object m.id others >>= (λ k. answer others (pure (arg_of_reply (get S.more k))))) S.spends (λ _.
      goes_on_same S (made object m.id args) (made object m.id others) _ _ (S.makes object m.id args others h) (λ k.
      S.answers args others (λ _. pure (arg_of_reply (get S.replies k))) (λ _. pure (arg_of_reply (get S.more k))) h (λ _. S.replied k))))

  regular_kept : (x : Context) (m : Member) (fs gs : List (Step Arg)) → SameArguments fs gs → S.Steps Arg S.Held (regular_call (first S b x) m fs) (regular_call (second S c x) m gs)
  regular_kept x m fs gs r =
      S.goes_on _ _ _ _ (all_of fs) (all_of gs) _ _ S.all_held (all_held S fs gs r) (λ args others h.
      goes_on_same S (spend S.n) (spend S.m) _ _ S.spends (λ _. S.answers args others (b.regular m) (c.regular m) h (d.regular m)))

  bound_kept : (line : ℕ) (object : ℤ) → S.Steps ℤ Same (bound line object) (bound line object)
  bound_kept line object = if_kept S (int_eq object (pos 0)) _ _ _ _ (S.traps _ _ _) (gives_same S object)

  member_kept : (m : Option Member) (h k : Member → Step Arg) → ((m : Member) → S.Steps Arg S.Held (h m) (k m)) → S.Steps Arg S.Held (call_of_member m h) (call_of_member m k)
  member_kept None h k r = S.waiting _ _
  member_kept (Some m) h k r = r m

  call_on_kept : (x : Context) (line : ℕ) (p q : Option Location) (class : Option Class) (name : List ℕ) (fs gs : List (Step Arg)) → SpotsBeside S p q → SameArguments fs gs
      → S.Steps Arg S.Held (call_on (first S b x) line p class name fs) (call_on (second S c x) line q class name gs)
  call_on_kept x line p q None name fs gs h r = S.waiting _ _
  call_on_kept x line p q (Some class) name fs gs h r =
      if_kept S class.is_regular _ _ _ _ (member_kept (member_named name class.members) _ _ (λ m. regular_kept x m fs gs r))
      (goes_on_same S (words_of_location p) (words_of_location q) _ _ (words_kept S p q h) (λ v.
      goes_on_same S (bound line (first_word v.words)) (bound line (first_word v.words)) _ _ (bound_kept line (first_word v.words)) (λ object.
      member_kept (member_named name class.members) _ _ (λ m. persistent_kept x object m fs gs r))))

  call_on_target_kept : (x : Context) (line : ℕ) (t : Target) (name : List ℕ) (fs gs : List (Step Arg)) → SameArguments fs gs
      → S.Steps Arg S.Held (call_on_target (first S b x) line t name fs) (call_on_target (second S c x) line t name gs)
  call_on_target_kept x line t name fs gs r =
      looks_at S b c x t (λ p. call_on (first S b x) line p (class_of_location (first S b x) p) name fs) (λ q. call_on (second S c x) line q (class_of_location (second S c x) q) name gs)
      (λ p q h.
      subst (λ k. S.Steps Arg S.Held (call_on (first S b x) line p (class_of_location (first S b x) p) name fs) (call_on (second S c x) line q k name gs))
      (class_same S b c x p q h) (call_on_kept x line p q (class_of_location (first S b x) p) name fs gs h r))

  -- ---- flows

  abbrev Keeps : Passes → Type 0
  Keeps = Kept S b c Arg S.Held

  abbrev Keeps-Call : Call → Type 0
  Keeps-Call t = Keeps (call_value t)

  abbrev Keeps-Flow : Flow → Type 0
  Keeps-Flow t = Keeps (passes t)

  abbrev With-Call : Type 0
  With-Call = (t : Call) × Keeps-Call t

  abbrev With-Flow : Type 0
  With-Flow = (t : Flow) × Keeps-Flow t

  arguments_kept : (x : Context) (ts : List With-Flow)
      → SameArguments (at_context (first S b x) (map passes (map (λ t. t.0) ts))) (at_context (second S c x) (map passes (map (λ t. t.0) ts)))
  arguments_kept x [] = tt
  arguments_kept x (t ∷ ts) = ((t.1).at x, arguments_kept x ts)

  rolled-Call : (layer : Call-F Call Flow) → Keeps (call_step (map-Call Call Flow Passes Passes call_value passes layer)) → Keeps-Call (roll-Call layer)
  rolled-Call layer = subst Keeps (sym (fold-roll-Call Passes Passes call_step flow_step layer))

  rolled-Flow : (layer : Flow-F Call Flow) → Keeps (flow_step (map-Flow Call Flow Passes Passes call_value passes layer)) → Keeps-Flow (roll-Flow layer)
  rolled-Flow layer = subst Keeps (sym (fold-roll-Flow Passes Passes call_step flow_step layer))

  call_layer : (y : Call-F With-Call With-Flow) → Keeps-Call (roll-Call (map-Call With-Call With-Flow Call Flow (λ t. t.0) (λ t. t.0) y))
  call_layer (Call-F.OnOwn at name ts) =
      rolled-Call (Call-F.OnOwn at name (map (λ t. t.0) ts))
      (record { at = λ x. member_kept (member_named name.text x.members) _ _ (λ m. persistent_kept x x.object m _ _ (arguments_kept x ts)) })
  call_layer (Call-F.OnTarget at t name ts) =
      rolled-Call (Call-F.OnTarget at t name (map (λ t. t.0) ts)) (record { at = λ x. call_on_target_kept x at.line t name.text _ _ (arguments_kept x ts) })

  flow_layer : (y : Flow-F With-Call With-Flow) → Keeps-Flow (roll-Flow (map-Flow With-Call With-Flow Call Flow (λ t. t.0) (λ t. t.0) y))
  flow_layer (Flow-F.OfCall at t) = rolled-Flow (Flow-F.OfCall at t.0) (t.1)
  flow_layer (Flow-F.OfExpression at e) = rolled-Flow (Flow-F.OfExpression at e) (record { at = λ x. pass_kept x e })

  pub flow_kept : (t : Flow) → Kept S b c Arg S.Held (passes t)
  flow_kept =
      ind-Flow Keeps-Call Keeps-Flow (λ y z is. subst (λ l. Keeps-Call (roll-Call l)) is (call_layer z))
      (λ y z is. subst (λ l. Keeps-Flow (roll-Flow l)) is (flow_layer z))

  pub call_kept : (t : Call) → Kept S b c Arg S.Held (call_value t)
  call_kept =
      ind-Call Keeps-Call Keeps-Flow (λ y z is. subst (λ l. Keeps-Call (roll-Call l)) is (call_layer z))
      (λ y z is. subst (λ l. Keeps-Flow (roll-Flow l)) is (flow_layer z))
