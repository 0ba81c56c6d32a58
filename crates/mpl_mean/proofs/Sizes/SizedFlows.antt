-- Flows and calls: each argument has the words of its formal, and what is passed on those of its type.
use Rattle.std.proofs.Common.{◌≡◌, ℕ, Bool, true, false, ◌&&◌, List, ◌++◌, Option, Some, None, refl, sym, ap, subst, ◌∙◌}
use Rattle.std.specs.List.{AllZip}
use Rattle.std.specs.Option.{option_and_then}
use Rattle.std.specs.Prelude.{is_some}
use Rattle.mpl_ast.specs.declared.expression.Target.{Target}
use Rattle.mpl_ast.specs.declared.flow.Call.{Call}
use Rattle.mpl_ast.specs.declared.flow.Flow.{Flow}
use Rattle.mpl_ast.specs.declared.place.Name.{Name}
use Rattle.mpl_ast.specs.declared.program.Declaration.{Declaration}
use Rattle.mpl_value.specs.declared.body.Arg.{Arg}
use Rattle.mpl_mean.specs.Meaning.CallMeaning.{MayName, Passes, at_context, call_of_member, call_on, call_on_target, call_value, class_of_location, passes, persistent_call}
use Rattle.mpl_mean.specs.TypeRules.CallRules.{call_may_stand, can_be_called, member_takes}
use Rattle.mpl_mean.specs.Meaning.ExpressionMeaning.{Evaluates}
use Rattle.mpl_mean.specs.Meaning.Layout.{Class, Member, class_named, class_of_type, classes_of, member_named}
use Rattle.mpl_mean.specs.TypeRules.NameRules.{has_member}
use Rattle.mpl_mean.specs.TypeRules.Nodes.{call_nodes, nodes_of_each, expr_nodes, statement_call_nodes, target_nodes}
use Rattle.mpl_mean.specs.Plain.Expr.{Expr, Exprs, expr_of, expr_of_call, expr_of_flow}
use Rattle.mpl_mean.specs.Plain.Expr as expr
use Rattle.mpl_mean.specs.Meaning.PlaceMeaning.{Location}
use Rattle.mpl_mean.specs.TypeRules.Scopes.{Environment, is_in_member, is_persistent}
use Rattle.mpl_mean.specs.Laws.Sizes.{ArgumentsFit, words_of_result}
use Rattle.mpl_mean.specs.Meaning.Store.{Step, Variable}
use Rattle.mpl_mean.specs.TypeRules.Types.{Declared, ValueType, shape_of}
use Rattle.mpl_mean.specs.TypeRules.Typing.{items_called, member_called, member_of, receiver_shape, target_shape, type_of, types_of}
use Rattle.mpl_mean.specs.Meaning.Values.{first_word}
use Rattle.mpl_mean.specs.Laws.Waiting.{HasPersistent}
use Rattle.mpl_mean.proofs.Sizes.SizedAnswers.{IsMember, zip_from}
use Rattle.mpl_mean.proofs.Sizes.SizedArguments.{ArgHas, args_fit}
use Rattle.mpl_mean.proofs.Sizes.SizedCallees.{ClassOf, MemberOf, callees_of, class_at, class_there, regular_of}
use Rattle.mpl_mean.proofs.Sizes.SizedCalls.{CallHas, bound_keeps, if_known, member_keeps, object_may, own_may, pass_keeps, passed_has, persistent_keeps, regular_keeps}
use Rattle.mpl_mean.proofs.Sizes.SizedExpressionForms.{expression_means}
use Rattle.mpl_mean.proofs.Sizes.SizedForms.{Means, number, truth, own, input, whole, element, plain, parenthesized, unary, arithmetic, compares, or, and, PassesOn, PassesEach, on_own, on_target, expression}
use Rattle.mpl_mean.proofs.Sizes.SizedForms as each
use Rattle.mpl_mean.proofs.Sizes.SizedPlaces.{which, SpotRight, location_keeps, words_keeps}
use Rattle.mpl_mean.proofs.Sizes.SizedRules.{AllRight, Right, WellResult, every_left, every_right}
use Rattle.mpl_mean.proofs.Sizes.SizedSettings.{Callee, CalleesMatch, Matches, MayCall, Setting, Sound, environment, inside}
use Rattle.mpl_mean.proofs.Sizes.SizedStatementForms.{call_passes, flow_passes}
use Rattle.mpl_mean.proofs.Sizes.SizedSteps.{ArgIn, Frame, Keeps, from_premise, so_keeps, stop_keeps, then_keeps}
use Rattle.mpl_mean.proofs.Sizes.SizedTypes.{WellProgram}
use Rattle.mpl_mean.proofs.Truth.{both_true}

-- the member that the type rules see, where one is called
callee_seen : (ds : List Declaration) (R : Member → Type 0) (n o : Option Member) (m : Member) → CalleesMatch ds R n o → o ≡ Some m → (k : Member) × (n ≡ Some k) × Callee ds m k × R m
callee_seen ds R None None m c e = absurd cc
callee_seen ds R None (Some o) m c e = absurd c
callee_seen ds R (Some n) None m c e = absurd c
callee_seen ds R (Some n) (Some o) m c e = let h = subst (λ m. Callee ds m n × R m) (some_member e) c in (n, refl, h.0, h.1) where
  some_member : {a b : Member} → ◌≡◌ {A = Option Member} (Some a) (Some b) → a ≡ b
  some_member e = cc

-- what the type rules find is there
callee_there : (ds : List Declaration) (R : Member → Type 0) (n o : Option Member) → CalleesMatch ds R n o → is_some n ≡ true → is_some o ≡ true
callee_there ds R None o c e = absurd cc
callee_there ds R (Some n) None c e = absurd c
callee_there ds R (Some n) (Some o) c e = refl

callee_fits : (W : Type 0) {ds : List Declaration} → WellProgram ds → (ts : List (Option ValueType)) (n : Option Member) (m k : Member) → n ≡ Some k → Callee ds m k → member_takes ds n ts ≡ true
    → (args : List Arg) → AllZip (ArgHas W ds) ts args → ArgumentsFit ds m.formals args
callee_fits W {ds} well ts n m k e c h args a =
    args_fit W ds well ts m.formals args a (subst (λ fs. member_takes ds (Some (record k { formals = fs })) ts ≡ true) (sym c.formals) (subst (λ n. member_takes ds n ts ≡ true) e h)) c.well

call_has : (W : Type 0) (ds : List Declaration) (n : Option Member) (m k : Member) (a : Arg) → n ≡ Some k → Callee ds m k → ArgIn W (words_of_result ds m.result) a → CallHas W ds n a
call_has W ds n m k a e c h = subst (λ n. CallHas W ds n a) (sym e) (subst (λ r. ArgIn W (words_of_result ds r) a) c.result h, subst (λ r. WellResult ds r) c.result c.typed)

-- an expression is no call of a member
pub no_call : {v : Evaluates} {p : Expr} {m : MayName} (h : Environment) → Means v p m → statement_call_nodes h p ≡ expr_nodes h p
no_call h (number at z) = refl
no_call h (truth at b) = refl
no_call h (own at) = refl
no_call h (input at) = refl
no_call h (whole at t) = refl
no_call h (element at line t m) = refl
no_call h (plain at g m) = refl
no_call h (parenthesized at m) = refl
no_call h (unary at line o m) = refl
no_call h (arithmetic at line operator o m n) = refl
no_call h (compares at line operator o m n) = refl
no_call h (or at line m n) = refl
no_call h (and at line m n) = refl

module _ (G : Frame) (S : Setting) (s : Sound G S) (blocks : List (List Declared)) (vs : List Variable) where
  abbrev EachKeeps : Type 0 → List (Option ValueType) → List (Step Arg) → Type 0
  EachKeeps P ts fs = AllZip (λ t f. Keeps G vs P Arg (ArgHas G.MayWait G.declarations t) f) ts fs

  abbrev CallReady : ℕ → Option Target → Name → Exprs → Type 0
  CallReady at receiver member ps =
      Matches G S blocks vs × AllRight (call_nodes at (environment G S blocks) receiver member ps ++ nodes_of_each (environment G S blocks) ps)

  abbrev Called : Option Target → Name → Option Member
  Called receiver member = member_called (environment G S blocks) receiver member.text

  -- ---- on `self`

  own_keeps : {P : Type 0} (at : ℕ) (member : Name) (ps : Exprs) (fs : List (Step Arg)) → (P → CallReady at None member ps) → EachKeeps P (types_of (environment G S blocks) ps) fs
      → Keeps G vs P Arg (CallHas G.MayWait G.declarations (Called None member)) (call_of_member (member_named member.text S.context.members) (λ m. persistent_call (inside G S) S.context.object m fs))
  own_keeps {P} at member ps fs ready r =
      member_keeps G vs (member_named member.text S.context.members) (λ m. persistent_call (inside G S) S.context.object m fs) there
      (λ m.
      so_keeps G vs (λ p. p) (λ a p h. let c = seen m p in call_has G.MayWait G.declarations (Called None member) m c.0 a c.1 c.2 h)
      (persistent_keeps G S s blocks vs S.context.object m (types_of (environment G S blocks) ps) fs (zip_from G vs (ArgHas G.MayWait G.declarations) (λ p. p.0) _ fs r) (λ p. (seen m p).3)
      (λ p. let c = seen m p in callee_fits G.MayWait s.well (types_of (environment G S blocks) ps) (Called None member) m c.0 c.1 c.2 (both_true _ _ ((ready p.0).1).0.call).1)
      (λ p. own_may S.body S.class (own p.0)) (λ p. s.own_class (both_true (is_in_member S.body) (is_persistent S.class) (own p.0)).1))) where
        own : P → (is_in_member S.body && is_persistent S.class) ≡ true
        own p = ((ready p).1).1.1.0.own

        there : P → is_some (member_named member.text S.context.members) ≡ true
        there p =
            let persistent = (both_true (is_in_member S.body) (is_persistent S.class) (own p)).1 in
            let items = which (items_called G.declarations (receiver_shape (environment G S blocks) None)) (s.own_items blocks persistent) in
            callee_there G.declarations (IsMember G.declarations) (member_of member.text items.0) (member_named member.text S.context.members)
            (subst (λ o. CalleesMatch G.declarations (IsMember G.declarations) (option_and_then (member_of member.text) o) (member_named member.text S.context.members)) items.1 (s.own blocks member.text persistent))
            (subst (λ o. has_member member.text o ≡ true) items.1 ((ready p).1).1.0.known)

        seen : (m : Member) → P × (member_named member.text S.context.members ≡ Some m) → (k : Member) × (Called None member ≡ Some k) × Callee G.declarations m k × IsMember G.declarations m
        seen m p =
            callee_seen G.declarations (IsMember G.declarations) (Called None member) (member_named member.text S.context.members) m
            (s.own blocks member.text (both_true (is_in_member S.body) (is_persistent S.class) (own p.0)).1) p.1

  -- ---- on a target

  module _ {P : Type 0} (at line : ℕ) (t : Target) (member : Name) (ps : Exprs) (fs : List (Step Arg)) (ready : P → CallReady at (Some t) member ps)
      (r : EachKeeps P (types_of (environment G S blocks) ps) fs) where
    class_seen : (location : Location) → P × SpotRight G S blocks vs t (Some location) → (d : Declared) × (target_shape (environment G S blocks) t ≡ shape_of G.declarations (Some d))
        × ClassOf G.declarations location.type (target_shape (environment G S blocks) t)
    class_seen location p =
        let d = (p.1).declared in
        let e = (p.1).shape in (
          d,
          e,
          subst (λ w. ClassOf G.declarations w (target_shape (environment G S blocks) t)) (sym (p.1).fits.type)
              (subst (λ k. ClassOf G.declarations d.type k) (sym e)
              (class_at G.declarations d (shape_of G.declarations (Some d)) refl (p.1).fits.well.0
              (subst (λ k. can_be_called k ≡ true) e (both_true _ _ ((ready p.0).1).0.call).0))),
        )

    abbrev Seen : Bool → Member → Type 0
    Seen regular m = (k : Member) × (Called (Some t) member ≡ Some k) × Callee G.declarations m k × MemberOf G.declarations regular m

    class_is : (location : Location) (class : Class) → class_of_type G.declarations location.type ≡ Some class → (p : P × SpotRight G S blocks vs t (Some location))
        → class_named ((class_seen location p).2).name (classes_of G.declarations) ≡ Some class
    class_is location class i p = sym ((class_seen location p).2).class ∙ i

    regular_is : (location : Location) (class : Class) → class_of_type G.declarations location.type ≡ Some class → (p : P × SpotRight G S blocks vs t (Some location)) → class.is_regular ≡ ((class_seen location p).2).regular
    regular_is location class i p = let k = (class_seen location p).2 in regular_of s.well k.name k.meant k.regular k.items k.stands class (class_is location class i p)

    seen : (location : Location) (class : Class) → class_of_type G.declarations location.type ≡ Some class → (m : Member) (p : P × SpotRight G S blocks vs t (Some location))
        → member_named member.text class.members ≡ Some m → Seen ((class_seen location p).2).regular m
    seen location class i m p e =
        let k = (class_seen location p).2 in
        callee_seen G.declarations (MemberOf G.declarations k.regular) (Called (Some t) member) (member_named member.text class.members) m
        (subst (λ n. CalleesMatch G.declarations (MemberOf G.declarations k.regular) n (member_named member.text class.members)) (sym (ap (option_and_then (member_of member.text)) k.called))
        (callees_of s.well k.name k.meant k.regular k.items k.stands class (class_is location class i p) member.text)) e

    -- the member is one of the class
    there : (location : Location) (class : Class) → class_of_type G.declarations location.type ≡ Some class → (p : P × SpotRight G S blocks vs t (Some location)) → is_some (member_named member.text class.members) ≡ true
    there location class i p =
        let k = (class_seen location p).2 in
        callee_there G.declarations (MemberOf G.declarations k.regular) (member_of member.text k.items) (member_named member.text class.members)
        (callees_of s.well k.name k.meant k.regular k.items k.stands class (class_is location class i p) member.text)
        (subst (λ items. has_member member.text items ≡ true) k.called ((ready p.0).1).1.0.known)

    has : (location : Location) (class : Class) → class_of_type G.declarations location.type ≡ Some class → (p : P × SpotRight G S blocks vs t (Some location)) → class.is_regular ≡ false → HasPersistent G.declarations
    has location class i p e = record { name = ((class_seen location p).2).name; class = class; named = class_is location class i p; persistent = e }

    takes : {Q : Type 0} → (Q → P) → (location : Location) (class : Class) → class_of_type G.declarations location.type ≡ Some class → (m : Member) → (Q → SpotRight G S blocks vs t (Some location))
        → (Q → member_named member.text class.members ≡ Some m) → Q → (args : List Arg) → AllZip (ArgHas G.MayWait G.declarations) (types_of (environment G S blocks) ps) args → ArgumentsFit G.declarations m.formals args
    takes h location class i m located e q =
        let c = seen location class i m (h q, located q) (e q) in
        callee_fits G.MayWait s.well (types_of (environment G S blocks) ps) (Called (Some t) member) m c.0 c.1 c.2 (both_true _ _ ((ready (h q)).1).0.call).1

    may : (location : Location) (class : Class) → class_of_type G.declarations location.type ≡ Some class → (p : P × SpotRight G S blocks vs t (Some location)) → class.is_regular ≡ false → MayCall S
    may location class i p e =
        let k = (class_seen location p).2 in
        let n = k.object (sym (regular_is location class i p) ∙ e) in
        object_may S.body (is_persistent S.class) n.0 (subst (λ w. call_may_stand S.body (is_persistent S.class) w ≡ true) n.1 ((ready p.0).1).0.in_place)

    on_class : (location : Location) (c : Option Class) → class_of_type G.declarations location.type ≡ c
        → Keeps G vs (P × SpotRight G S blocks vs t (Some location)) Arg (CallHas G.MayWait G.declarations (Called (Some t) member)) (call_on (inside G S) line (Some location) c member.text fs)
    on_class location None i =
        stop_keeps G vs _
        (λ p. absurd (let e : is_some (class_of_type G.declarations location.type) ≡ true = class_there s.well location.type _ ((class_seen location p).2) in let j : is_some (class_of_type G.declarations location.type) ≡ false = ap is_some i in cc))
    on_class location (Some class) i =
        if_known G vs class.is_regular
        (member_keeps G vs (member_named member.text class.members) _ (λ p. there location class i p.0) (λ m.
        so_keeps G vs (λ p. p) (λ a p h. let c = seen location class i m p.0.0 p.1 in call_has G.MayWait G.declarations (Called (Some t) member) m c.0 a c.1 c.2 h)
        (regular_keeps G S s blocks vs m (types_of (environment G S blocks) ps) fs (zip_from G vs (ArgHas G.MayWait G.declarations) (λ p. p.0.0.0) _ fs r)
        (λ p. (seen location class i m p.0.0 p.1).3.in_place (sym (regular_is location class i p.0.0) ∙ p.0.1))
        (takes (λ p. p.0.0.0) location class i m (λ p. p.0.0.1) (λ p. p.1)))))
        (then_keeps G vs (words_keeps G S blocks vs t (Some location) (λ p. p.0.1)) (λ value.
        then_keeps G vs (bound_keeps G vs line (first_word value.words)) (λ object.
        member_keeps G vs (member_named member.text class.members) (λ m. persistent_call (inside G S) object m fs) (λ p. there location class i p.0.0.0) (λ m.
        so_keeps G vs (λ p. p) (λ a p h. let c = seen location class i m p.0.0.0.0 p.1 in call_has G.MayWait G.declarations (Called (Some t) member) m c.0 a c.1 c.2 h)
        (persistent_keeps G S s blocks vs object m (types_of (environment G S blocks) ps) fs (zip_from G vs (ArgHas G.MayWait G.declarations) (λ p. p.0.0.0.0.0) _ fs r)
        (λ p. (seen location class i m p.0.0.0.0 p.1).3.is)
        (takes (λ p. p.0.0.0.0.0) location class i m (λ p. p.0.0.0.0.1) (λ p. p.1)) (λ p. may location class i p.0.0.0.0 p.0.0.0.1) (λ p. has location class i p.0.0.0.0 p.0.0.0.1))))))

    at_location : (location : Option Location)
        → Keeps G vs (P × SpotRight G S blocks vs t location) Arg (CallHas G.MayWait G.declarations (Called (Some t) member)) (call_on (inside G S) line location (class_of_location (inside G S) location) member.text fs)
    at_location None = stop_keeps G vs _ (λ p. absurd (p.1).fits)
    at_location (Some location) = on_class location (class_of_type G.declarations location.type) refl

    target_keeps : Keeps G vs P Arg (CallHas G.MayWait G.declarations (Called (Some t) member)) (call_on_target (inside G S) line t member.text fs)
    target_keeps =
        location_keeps G S s.well blocks vs t (λ location. call_on (inside G S) line location (class_of_location (inside G S) location) member.text fs) (λ p. (ready p).0)
        (λ p. every_left Right (target_nodes (environment G S blocks) t) (nodes_of_each (environment G S blocks) ps) ((ready p).1).1.1) at_location

  -- ---- all of them

  abbrev Ready : Expr → Type 0
  Ready p = Matches G S blocks vs × AllRight (expr_nodes (environment G S blocks) p)

  abbrev ReadyEach : Exprs → Type 0
  ReadyEach ps = Matches G S blocks vs × AllRight (nodes_of_each (environment G S blocks) ps)

  arguments_ready : (at : ℕ) (receiver : Option Target) (member : Name) (ps : Exprs) → CallReady at receiver member ps → ReadyEach ps
  arguments_ready at receiver member ps r = (r.0, every_right Right (call_nodes at (environment G S blocks) receiver member ps) (nodes_of_each (environment G S blocks) ps) r.1)

  each_ready : (p : Expr) (ps : Exprs) → ReadyEach (expr.MoreExprs p ps) → Ready p × ReadyEach ps
  each_ready p ps r = (
    (r.0, every_left Right (expr_nodes (environment G S blocks) p) (nodes_of_each (environment G S blocks) ps) r.1),
    (r.0, every_right Right (expr_nodes (environment G S blocks) p) (nodes_of_each (environment G S blocks) ps) r.1),
  )

  mutual
    pub passes_keeps : {f : Passes} {p : Expr} → PassesOn f p → Keeps G vs (Ready p) Arg (ArgHas G.MayWait G.declarations (type_of (environment G S blocks) p)) (f (inside G S))
    passes_keeps (on_own {fs = fs} {ps = ps} at member m) =
        so_keeps G vs (λ r. r) (λ a r h. passed_has G.MayWait s.well (Called None member) a (r.1).0.passed h)
        (own_keeps at.span.from member ps (at_context (inside G S) fs) (λ r. (r.0, (r.1).1))
        (zip_from G vs (ArgHas G.MayWait G.declarations) (λ r. arguments_ready at.span.from None member ps (r.0, (r.1).1)) _ _ (each_passes_keeps m)))
    passes_keeps (on_target {fs = fs} {ps = ps} at t member m) =
        so_keeps G vs (λ r. r) (λ a r h. passed_has G.MayWait s.well (Called (Some t) member) a (r.1).0.passed h)
        (target_keeps at.span.from at.line t member ps (at_context (inside G S) fs) (λ r. (r.0, (r.1).1))
        (zip_from G vs (ArgHas G.MayWait G.declarations) (λ r. arguments_ready at.span.from (Some t) member ps (r.0, (r.1).1)) _ _ (each_passes_keeps m)))
    passes_keeps (expression e) = pass_keeps G S s blocks vs e

    pub each_passes_keeps : {fs : List Passes} {ps : Exprs} → PassesEach fs ps → EachKeeps (ReadyEach ps) (types_of (environment G S blocks) ps) (at_context (inside G S) fs)
    each_passes_keeps each.PassesEach.none = tt
    each_passes_keeps (each.PassesEach.more {p = p} {ps = ps} m ms) =
        (from_premise G vs (λ q. (each_ready p ps q).0) (passes_keeps m), zip_from G vs (ArgHas G.MayWait G.declarations) (λ q. (each_ready p ps q).1) _ _ (each_passes_keeps ms))

  pub flow_keeps : (f : Flow) → Keeps G vs (Ready (expr_of_flow f)) Arg (ArgHas G.MayWait G.declarations (type_of (environment G S blocks) (expr_of_flow f))) (passes f (inside G S))
  flow_keeps f = passes_keeps (flow_passes f)

  alone_keeps : {f : Passes} {p : Expr} → PassesOn f p → Keeps G vs (Matches G S blocks vs × AllRight (statement_call_nodes (environment G S blocks) p)) Arg (λ _. Unit {0}) (f (inside G S))
  alone_keeps (on_own {fs = fs} {ps = ps} at member m) =
      so_keeps G vs (λ r. r) (λ a r h. tt)
      (own_keeps at.span.from member ps (at_context (inside G S) fs) (λ r. r) (zip_from G vs (ArgHas G.MayWait G.declarations) (arguments_ready at.span.from None member ps) _ _ (each_passes_keeps m)))
  alone_keeps (on_target {fs = fs} {ps = ps} at t member m) =
      so_keeps G vs (λ r. r) (λ a r h. tt)
      (target_keeps at.span.from at.line t member ps (at_context (inside G S) fs) (λ r. r) (zip_from G vs (ArgHas G.MayWait G.declarations) (arguments_ready at.span.from (Some t) member ps) _ _ (each_passes_keeps m)))
  alone_keeps (expression e) =
      so_keeps G vs (λ r. (r.0, subst AllRight (no_call (environment G S blocks) (expression_means e)) r.1)) (λ a r h. tt) (pass_keeps G S s blocks vs e)

  -- a call that is a whole statement
  pub call_keeps : (c : Call) → Keeps G vs (Matches G S blocks vs × AllRight (statement_call_nodes (environment G S blocks) (expr_of_call c))) Arg (λ _. Unit {0}) (call_value c (inside G S))
  call_keeps c = alone_keeps (call_passes c)
