-- In typed programs flows and calls have what their code takes.
use Rattle.std.proofs.Common.{◌≡◌, ℕ, ◌≤◌, Bool, true, false, ◌&&◌, List, [], ◌∷◌, ◌++◌, Option, Some, None, refl, sym, ap, subst, ◌∙◌}
use Rattle.std.specs.List.{AllZip, list_any}
use Rattle.std.specs.Option.{option_and_then}
use Rattle.std.specs.Prelude.{is_none, is_some}
use Rattle.mpl_ast.specs.declared.class.Formal.{Formal}
use Rattle.mpl_ast.specs.declared.class.ResultType.TheVariants.{Typed}
use Rattle.mpl_ast.specs.declared.expression.Target.{Target}
use Rattle.mpl_ast.specs.declared.place.At.{At}
use Rattle.mpl_ast.specs.declared.place.Name.{Name}
use Rattle.mpl_ast.specs.declared.program.Declaration.{Declaration}
use Rattle.mpl_ast.specs.declared.statement.TypeName.{TypeName}
use Rattle.mpl_mean.specs.Laws.Sizes.{member_of_id, words_of_result}
use Rattle.mpl_mean.specs.Meaning.CallMeaning.{MayName, Passes}
use Rattle.mpl_mean.specs.Meaning.ExpressionMeaning.{Evaluates}
use Rattle.mpl_mean.specs.Meaning.Layout.{Class, Member, class_named, class_of_type, classes_of, member_named, words_of, words_of_parts}
use Rattle.mpl_mean.specs.Plain.Expr.{Expr, Exprs, expr_of}
use Rattle.mpl_mean.specs.Plain.Expr as expr
use Rattle.mpl_mean.specs.TypeRules.CallRules.{call_may_stand, can_be_called, create_may_stand, member_has_value, member_takes}
use Rattle.mpl_mean.specs.TypeRules.ClassRules.{has_value}
use Rattle.mpl_mean.specs.TypeRules.NameRules.{has_member}
use Rattle.mpl_mean.specs.TypeRules.Nodes.{call_nodes, expr_nodes, nodes_of_each, statement_call_nodes, target_nodes}
use Rattle.mpl_mean.specs.TypeRules.Scopes.{Body, InFunction, InMain, InMember, is_in_main, is_in_member, is_persistent}
use Rattle.mpl_mean.specs.TypeRules.Types.{Declared, OfClass, OneValue, Shape as TypeShape, ValueType, result_type, shape_of}
use Rattle.mpl_mean.specs.TypeRules.Typing.{items_called, member_called, member_of, receiver_shape, target_shape, type_of, type_of_call, types_of}
use Rattle.mpl_mean.proofs.Sizes.SizedArguments.{FormalHas, formals_agree}
use Rattle.mpl_mean.proofs.Sizes.SizedCallees.{ClassOf, MemberOf, callees_of, class_at}
use Rattle.mpl_mean.proofs.Sizes.SizedExpressionForms.{expression_means}
use Rattle.mpl_mean.proofs.Sizes.SizedFlows.{no_call}
use Rattle.mpl_mean.proofs.Sizes.SizedForms.{Means, PassesEach, PassesOn, expression, on_own, on_target, number, truth, own, input, whole, element, plain, parenthesized, unary, arithmetic, compares, or, and}
use Rattle.mpl_mean.proofs.Sizes.SizedForms as each
use Rattle.mpl_mean.proofs.Sizes.SizedPlaces.{which}
use Rattle.mpl_mean.proofs.Sizes.SizedRules.{AllRight, HasType, Right, every_left, every_right}
use Rattle.mpl_mean.proofs.Sizes.SizedSettings.{Callee, CalleesMatch, Matches, Setting, environment}
use Rattle.mpl_mean.proofs.Sizes.SizedSteps.{Frame}
use Rattle.mpl_mean.proofs.Sizes.SizedTypes.{HasSize, WellProgram, class_of, shape_words}
use Rattle.mpl_mean.proofs.Truth.{both_true}
use Rattle.mpl_gen_code.specs.Fits.{ExprFits, FlowFits, FlowsFit, May, MemberIs, ReceiverFits}
use Rattle.mpl_gen_code.specs.Scopes.{Env, Finish, Found, OfBody, OfFunction, Slot, class_found, found_at}
use Rattle.mpl_gen_code.specs.Words.{member_in, words_of_expr, words_of_member}
use Rattle.mpl_gen_code.proofs.TypedExpressions.{expr_fits, expr_sized, has_formal, none_more}
use Rattle.mpl_gen_code.proofs.TypedPlaces.{FoundFits, FoundIs, Kept, env_in, target_found, variables_of}
use Rattle.mpl_gen_code.proofs.TypedValues.{result_size, sized_known}

-- a member that `self` has
abbrev pub OwnMember : List Declaration → Member → Type 0
OwnMember ds m = (class : Class) × MemberIs ds class m × (class.is_regular ≡ false)

-- a body ends as what it is of
abbrev pub FinishFits : List Declaration → Body → Finish → Type 0
FinishFits ds InMain (OfBody line) = Unit {0}
FinishFits ds (InMember result) (OfBody line) = Unit {0}
FinishFits ds (InFunction type) (OfFunction words line) = (words ≡ words_of ds type None) × HasType ds type
FinishFits ds body finish = ⊥

-- what the type rules allow in a body may stand in its code
pub record Allows (G : Frame) (S : Setting) (K : Kept) (may : May) : Type 0 where
  pub total : G.state_words ≤ words_of_parts S.context.state
  pub own : (is_in_member S.body && is_persistent S.class) ≡ true → (may.own ≡ true) × (may.posts ≡ true)
  pub input : is_in_main S.body ≡ true → may.input ≡ true
  pub sends : (receiver : Option TypeShape) → call_may_stand S.body (is_persistent S.class) receiver ≡ true → may.sends ≡ true
  pub posts : (n : List ℕ) → call_may_stand S.body (is_persistent S.class) (Some (OneValue (OfClass n))) ≡ true → may.posts ≡ true
  pub creates : create_may_stand S.body (is_persistent S.class) ≡ true → may.posts ≡ true
  pub members : (blocks : List (List Declared)) (name : List ℕ) → is_persistent S.class ≡ true
      → CalleesMatch G.declarations (OwnMember G.declarations) (member_called (environment G S blocks) None name) (member_named name K.members)
  pub own_items : (blocks : List (List Declared)) → is_persistent S.class ≡ true → is_some (items_called G.declarations (receiver_shape (environment G S blocks) None)) ≡ true
  pub gives : (at : At) (type : TypeName) → S.body ≡ InMember (Typed at type) → (may.gives ≡ Some (words_of G.declarations type None)) × HasType G.declarations type
  pub finish : FinishFits G.declarations S.body K.finish

-- the member that is called, and what the type rules see of it
callee_found : (ds : List Declaration) (R : Member → Type 0) (n o : Option Member) → CalleesMatch ds R n o → is_some n ≡ true
    → (m : Member) × (k : Member) × (o ≡ Some m) × (n ≡ Some k) × Callee ds m k × R m
callee_found ds R None o c e = absurd cc
callee_found ds R (Some n) None c e = absurd c
callee_found ds R (Some n) (Some m) c e = (m, n, refl, refl, c.0, c.1)

callee_agrees : {ds : List Declaration} → WellProgram ds → (ts : List (Option ValueType)) (n : Option Member) (m k : Member) → n ≡ Some k → Callee ds m k → list_any is_none ts ≡ false → member_takes ds n ts ≡ true
    → AllZip (FormalHas ds) ts m.formals
callee_agrees {ds} well ts n m k e c known h =
    formals_agree ds well ts m.formals known
    (subst (λ fs. member_takes ds (Some (record k { formals = fs })) ts ≡ true) (sym c.formals) (subst (λ n. member_takes ds n ts ≡ true) e h)) c.well

callee_sized : {ds : List Declaration} → WellProgram ds → (n o : Option Member) (m k : Member) → o ≡ Some m → n ≡ Some k → Callee ds m k → member_has_value n ≡ true
    → HasSize ds (type_of_call ds n) (words_of_member ds o)
callee_sized {ds} well n o m k i e c h =
    let value : has_value m.result ≡ true = subst (λ r. has_value r ≡ true) (sym c.result) (subst (λ n. member_has_value n ≡ true) e h) in
    subst (λ o. HasSize ds (type_of_call ds n) (words_of_member ds o)) (sym i)
    (subst (λ n. HasSize ds (type_of_call ds n) (words_of_result ds m.result)) (sym e)
    (subst (λ r. HasSize ds (result_type ds r) (words_of_result ds m.result)) c.result (result_size well m.result value c.typed)))

-- an expression is a flow
expr_flow : {v : Evaluates} {p : Expr} {n : MayName} (may : May) (env : Env) → Means v p n → ExprFits may env p → FlowFits may env p
expr_flow may env (number at z) h = h
expr_flow may env (truth at b) h = h
expr_flow may env (own at) h = h
expr_flow may env (input at) h = h
expr_flow may env (whole at t) h = h
expr_flow may env (element at line t i) h = h
expr_flow may env (plain at f k) h = h
expr_flow may env (parenthesized at i) h = h
expr_flow may env (unary at line o i) h = h
expr_flow may env (arithmetic at line operator o i j) h = h
expr_flow may env (compares at line operator o i j) h = h
expr_flow may env (or at line i j) h = h
expr_flow may env (and at line i j) h = h

found_class : {a b : Class} → ◌≡◌ {A = Option Class} (Some a) (Some b) → a ≡ b
found_class e = cc

-- a member that is found in a class is one of the program
member_is : {ds : List Declaration} → WellProgram ds → (t : TypeName) (s : Option TypeShape) (k : ClassOf ds t s) (class : Class) → class_named k.name (classes_of ds) ≡ Some class → (member : List ℕ) (m : Member)
    → member_named member class.members ≡ Some m → MemberIs ds class m
member_is {ds} well t s k class e member m i =
    let f = class_of well k.name k.meant k.regular k.items k.stands in
    let same : f.class ≡ class = found_class (sym f.found ∙ e) in
    record {
      found = subst (λ c. member_of_id ds (record { 0 = m.id }) ≡ Some (c, m)) same (f.numbered member m (subst (λ (c : Class). member_named member c.members ≡ Some m) (sym same) i)).1;
    }

module _ (G : Frame) (S : Setting) (K : Kept) (well : WellProgram G.declarations) (may : May) (allows : Allows G S K may) (blocks : List (List Declared)) (scope : List Slot) (sizes : List ℕ)
    (m : Matches G S blocks (variables_of scope)) where
  abbrev env : Env
  env = env_in G S K scope sizes

  abbrev type_at : Expr → Option ValueType
  type_at = type_of (environment G S blocks)

  abbrev Ready : Expr → Type 0
  Ready p = AllRight (expr_nodes (environment G S blocks) p)

  abbrev Sized : Expr → Type 0
  Sized p = HasSize G.declarations (type_at p) (words_of_expr env p)

  abbrev Called : Option Target → Name → Option Member
  Called receiver member = member_called (environment G S blocks) receiver member.text

  abbrev CallReady : ℕ → Option Target → Name → Exprs → Type 0
  CallReady at receiver member ps = AllRight (call_nodes at (environment G S blocks) receiver member ps ++ nodes_of_each (environment G S blocks) ps)

  -- ---- what is called

  abbrev OwnCallee : Name → Type 0
  OwnCallee member = (c : Member) × (k : Member) × (member_named member.text K.members ≡ Some c) × (Called None member ≡ Some k) × Callee G.declarations c k × OwnMember G.declarations c

  own_callee : (at : ℕ) (member : Name) (ps : Exprs) → CallReady at None member ps → OwnCallee member
  own_callee at member ps r =
      let persistent = (both_true (is_in_member S.body) (is_persistent S.class) r.1.1.0.own).1 in
      let items = which (items_called G.declarations (receiver_shape (environment G S blocks) None)) (allows.own_items blocks persistent) in
      let known : is_some (Called None member) ≡ true =
      subst (λ o. is_some (option_and_then (member_of member.text) o) ≡ true) (sym items.1) (subst (λ o. has_member member.text o ≡ true) items.1 r.1.0.known) in
      callee_found G.declarations (OwnMember G.declarations) (Called None member) (member_named member.text K.members) (allows.members blocks member.text persistent) known

  -- the class of what is found, and its member
  pub record TargetCallee (t : Target) (member : Name) : Type 0 where
    found : Found
    is : found_at env t ≡ Some found
    class : Class
    of_type : class_of_type G.declarations found.type ≡ Some class
    callee : Member
    seen : Member
    named : member_named member.text class.members ≡ Some callee
    called : Called (Some t) member ≡ Some seen
    alike : Callee G.declarations callee seen
    numbered : MemberIs G.declarations class callee
    receives : ReceiverFits may env (Some found) class.is_regular

  receives : (d : Declared) (found : Found) → FoundIs env d found → (class : Class) (b : Bool) → class.is_regular ≡ b → (b ≡ false → (n : List ℕ) × (shape_of G.declarations (Some d) ≡ Some (OneValue (OfClass n))))
      → call_may_stand S.body (is_persistent S.class) (shape_of G.declarations (Some d)) ≡ true → ReceiverFits may env (Some found) b
  receives d found h class true e o s = allows.sends (shape_of G.declarations (Some d)) s
  receives d found h class false e o s =
      let n = o refl in
      let one : found.words ≡ 1 = h.words ∙ shape_words well d (OfClass n.0) n.1 in
      (allows.posts n.0 (subst (λ w. call_may_stand S.body (is_persistent S.class) w ≡ true) n.1 s), h.inside, one)

  target_callee : (at : ℕ) (t : Target) (member : Name) (ps : Exprs) → CallReady at (Some t) member ps → TargetCallee t member
  target_callee at t member ps r =
      let d = target_found G S K well allows.total blocks scope sizes m t (every_left Right (target_nodes (environment G S blocks) t) (nodes_of_each (environment G S blocks) ps) r.1.1) in
      with_found d.0 d.1 (found_at env t) refl d.2 where
        ds : List Declaration
        ds = G.declarations

        with_class : (d : Declared) → target_shape (environment G S blocks) t ≡ shape_of G.declarations (Some d) → (o : Found) → found_at env t ≡ Some o → FoundIs env d o
            → ClassOf G.declarations d.type (shape_of G.declarations (Some d)) → TargetCallee t member
        with_class d e o i h k =
            let f = class_of well k.name k.meant k.regular k.items k.stands in
            let called : Called (Some t) member ≡ member_of member.text k.items =
            ap (λ s. option_and_then (member_of member.text) (items_called G.declarations s)) e ∙ ap (option_and_then (member_of member.text)) k.called in
            let known : is_some (member_of member.text k.items) ≡ true =
            subst (λ o. has_member member.text o ≡ true) k.called (subst (λ s. has_member member.text (items_called G.declarations s) ≡ true) e r.1.0.known) in
            let c = callee_found G.declarations (MemberOf G.declarations k.regular) (member_of member.text k.items) (member_named member.text (f.class).members)
            (callees_of well k.name k.meant k.regular k.items k.stands f.class f.found member.text) known in
            record {
              found = o;
              is = i;
              class = f.class;
              of_type = ap (class_of_type G.declarations) h.type ∙ (k.class ∙ f.found);
              callee = c.0;
              seen = c.1;
              named = c.2;
              called = called ∙ c.3;
              alike = c.4;
              numbered = member_is well d.type (shape_of G.declarations (Some d)) k f.class f.found member.text c.0 c.2;
              receives = receives d o h f.class (f.class).is_regular refl (λ b. k.object (sym f.is_regular ∙ b)) (subst (λ w. call_may_stand S.body (is_persistent S.class) w ≡ true) e r.0.in_place);
            }

        with_found : (d : Declared) → target_shape (environment G S blocks) t ≡ shape_of G.declarations (Some d) → (o : Option Found) → found_at env t ≡ o → FoundFits env (Some d) o → TargetCallee t member
        with_found d e None i h = absurd h
        with_found d e (Some o) i h =
            with_class d e o i h (class_at G.declarations d (shape_of G.declarations (Some d)) refl h.well.0 (subst (λ s. can_be_called s ≡ true) e (both_true _ _ r.0.call).0))

  class_is : (t : Target) (member : Name) (c : TargetCallee t member) → class_found env (found_at env t) ≡ Some c.class
  class_is t member c = ap (class_found env) c.is ∙ c.of_type

  -- ---- words

  pub flow_sized : {f : Passes} {p : Expr} → PassesOn f p → Ready p → Sized p
  flow_sized (on_own {ps = ps} at member k) r =
      let c = own_callee at.span.from member ps r.1 in
      callee_sized well (Called None member) (member_named member.text K.members) c.0 c.1 c.2 c.3 c.4 r.0.passed
  flow_sized (on_target {ps = ps} at t member k) r =
      let c = target_callee at.span.from t member ps r.1 in
      callee_sized well (Called (Some t) member) (member_in (class_found env (found_at env t)) member.text) c.callee c.seen
      (ap (λ o. member_in o member.text) (class_is t member c) ∙ c.named) c.called c.alike r.0.passed
  flow_sized (expression e) r = expr_sized G S K well allows.total may (λ e. (allows.own e).0) allows.input blocks scope sizes m (expression_means e) r

  types_known : {fs : List Passes} {ps : Exprs} → PassesEach fs ps → AllRight (nodes_of_each (environment G S blocks) ps) → list_any is_none (types_of (environment G S blocks) ps) ≡ false
  types_known each.PassesEach.none r = refl
  types_known (each.PassesEach.more {p = p} {ps = ps} i is) r =
      none_more (is_none (type_at p)) (list_any is_none (types_of (environment G S blocks) ps))
      (sized_known G.declarations (type_at p) (words_of_expr env p) (flow_sized i (every_left Right (expr_nodes (environment G S blocks) p) (nodes_of_each (environment G S blocks) ps) r)))
      (types_known is (every_right Right (expr_nodes (environment G S blocks) p) (nodes_of_each (environment G S blocks) ps) r))

  -- ---- what their code takes

  arguments_ready : (at : ℕ) (receiver : Option Target) (member : Name) (ps : Exprs) → CallReady at receiver member ps → AllRight (nodes_of_each (environment G S blocks) ps)
  arguments_ready at receiver member ps r = every_right Right (call_nodes at (environment G S blocks) receiver member ps) (nodes_of_each (environment G S blocks) ps) r

  -- what is shown of the arguments of a call
  abbrev ArgumentsGo : Exprs → Type 0
  ArgumentsGo ps = (formals : List Formal) → AllZip (FormalHas G.declarations) (types_of (environment G S blocks) ps) formals → FlowsFit may env formals ps

  own_fits : {fs : List Passes} {ps : Exprs} (at : At) (member : Name) → PassesEach fs ps → ArgumentsGo ps → CallReady at.span.from None member ps → FlowFits may env (expr.CallOnOwn at member ps)
  own_fits {ps = ps} at member k arguments r =
      let c = own_callee at.span.from member ps r in
      let o = c.5 in
      let stands = allows.own r.1.1.0.own in (
        o.0,
        c.0,
        o.1,
        o.2,
        c.2,
        stands.0,
        stands.1,
        arguments (c.0).formals
            (callee_agrees well (types_of (environment G S blocks) ps) (Called None member) c.0 c.1 c.3 c.4 (types_known k (arguments_ready at.span.from None member ps r)) (both_true _ _ r.0.call).1),
      )

  target_fits : {fs : List Passes} {ps : Exprs} (at : At) (t : Target) (member : Name) → PassesEach fs ps → ArgumentsGo ps → CallReady at.span.from (Some t) member ps
      → FlowFits may env (expr.CallOnTarget at t member ps)
  target_fits {ps = ps} at t member k arguments r =
      let c = target_callee at.span.from t member ps r in (
        c.class,
        c.callee,
        c.numbered,
        class_is t member c,
        c.named,
        subst (λ o. ReceiverFits may env o (c.class).is_regular) (sym c.is) c.receives,
        arguments (c.callee).formals
            (callee_agrees well (types_of (environment G S blocks) ps) (Called (Some t) member) c.callee c.seen c.called c.alike (types_known k (arguments_ready at.span.from (Some t) member ps r))
            (both_true _ _ r.0.call).1),
      )

  mutual
    pub flow_fits : {f : Passes} {p : Expr} → PassesOn f p → Ready p → FlowFits may env p
    flow_fits (on_own {ps = ps} at member k) r = own_fits at member k (flows_fit k (arguments_ready at.span.from None member ps r.1)) r.1
    flow_fits (on_target {ps = ps} at t member k) r = target_fits at t member k (flows_fit k (arguments_ready at.span.from (Some t) member ps r.1)) r.1
    flow_fits (expression e) r = expr_flow may env (expression_means e) (expr_fits G S K well allows.total may (λ e. (allows.own e).0) allows.input blocks scope sizes m (expression_means e) r)

    flows_fit : {fs : List Passes} {ps : Exprs} → PassesEach fs ps → AllRight (nodes_of_each (environment G S blocks) ps) → (formals : List Formal)
        → AllZip (FormalHas G.declarations) (types_of (environment G S blocks) ps) formals → FlowsFit may env formals ps
    flows_fit each.PassesEach.none r [] h = tt
    flows_fit each.PassesEach.none r (formal ∷ formals) h = absurd h
    flows_fit (each.PassesEach.more i is) r [] h = absurd h
    flows_fit (each.PassesEach.more {p = p} {ps = ps} i is) r (formal ∷ formals) h =
        let first = every_left Right (expr_nodes (environment G S blocks) p) (nodes_of_each (environment G S blocks) ps) r in (
          flow_fits i first,
          has_formal G.declarations (type_at p) (words_of_expr env p) formal (flow_sized i first) h.0,
          flows_fit is (every_right Right (expr_nodes (environment G S blocks) p) (nodes_of_each (environment G S blocks) ps) r) formals h.1,
        )

  -- a call that is a whole statement
  pub alone_fits : {f : Passes} {p : Expr} → PassesOn f p → AllRight (statement_call_nodes (environment G S blocks) p) → FlowFits may env p
  alone_fits (on_own {ps = ps} at member k) r = own_fits at member k (flows_fit k (arguments_ready at.span.from None member ps r)) r
  alone_fits (on_target {ps = ps} at t member k) r = target_fits at t member k (flows_fit k (arguments_ready at.span.from (Some t) member ps r)) r
  alone_fits (expression e) r = flow_fits (expression e) (subst AllRight (no_call (environment G S blocks) (expression_means e)) r)
