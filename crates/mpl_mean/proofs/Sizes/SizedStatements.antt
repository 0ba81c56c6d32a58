-- What statements do keeps the sizes.
use Rattle.std.proofs.Common.{◌≡◌, ℕ, ◌+◌, true, List, [], ◌∷◌, length, map, Option, Some, None, ℤ, refl, sym, subst, ◌∙◌}
use Rattle.std.specs.List.{AllZip}
use Rattle.std.specs.Option.{option_map}
use Rattle.mpl_ast.specs.declared.class.ResultType.TheVariants.{Void, Typed}
use Rattle.mpl_ast.specs.declared.expression.Expression.{Expression}
use Rattle.mpl_ast.specs.declared.flow.Assignment.{Assignment}
use Rattle.mpl_ast.specs.declared.place.At.{At}
use Rattle.mpl_ast.specs.declared.program.Declaration.{Declaration}
use Rattle.mpl_ast.specs.declared.statement.ForStart.{ForStart}
use Rattle.mpl_ast.specs.declared.statement.ForStart.TheVariants.{Declare, Assign}
use Rattle.mpl_ast.specs.declared.statement.Local.{Local}
use Rattle.mpl_ast.specs.declared.statement.TypeName.{TypeName}
use Rattle.mpl_value.specs.declared.body.Arg.{Arg}
use Rattle.mpl_mean.specs.Plain.Stmt.{Stmt, Stmts, NewLocal, assigns, if_any, new_local, starts}
use Rattle.mpl_mean.specs.Plain.Stmt as stmt
use Rattle.mpl_mean.specs.Meaning.ExpressionMeaning.{value_of}
use Rattle.mpl_mean.specs.Meaning.Layout.{words_of}
use Rattle.mpl_mean.specs.TypeRules.Nodes.{expr_nodes}
use Rattle.mpl_mean.specs.Plain.Expr.{Expr, expr_of, expr_of_flow}
use Rattle.mpl_mean.specs.TypeRules.Scopes.{Body, InFunction, InGuard, InMain, InMember, NoBody, in_block}
use Rattle.mpl_mean.specs.Meaning.StatementMeaning.{Does, Effect, declares_all, gives_result, line_of, loop, nothing, returns, steps, values_of, while_loop}
use Rattle.mpl_mean.specs.Meaning.StatementMeaning as statement
use Rattle.mpl_mean.specs.TypeRules.StatementNodes.{stmt_walk, stmts_walk, print_walk}
use Rattle.mpl_mean.specs.TypeRules.StatementRules.{can_give, can_return}
use Rattle.mpl_mean.specs.Meaning.Store.{Returns, Variable, ◌>>◌, in_scope, in_turn}
use Rattle.mpl_mean.specs.TypeRules.Types.{AsResult, Declared, ValueType, agree, meant, value_type}
use Rattle.mpl_mean.specs.TypeRules.Typing.{type_of}
use Rattle.mpl_mean.specs.Meaning.Values.{Value, is_true}
use Rattle.mpl_mean.proofs.Sizes.SizedAnswers.{all_keep, zip_from}
use Rattle.mpl_mean.proofs.Sizes.SizedArguments.{ArgHas}
use Rattle.mpl_mean.proofs.Sizes.SizedAssignments.{assigns_keeps, create_keeps}
use Rattle.mpl_mean.proofs.Sizes.SizedExpressionForms.{expression_means}
use Rattle.mpl_mean.proofs.Sizes.SizedExpressions.{value_keeps}
use Rattle.mpl_mean.proofs.Sizes.SizedFlows.{call_keeps, flow_keeps}
use Rattle.mpl_mean.proofs.Sizes.SizedForms.{Acts, ActsEach, within, declare, assign, call, create, branch, branches, repeats, loops, print, rtf, return, empty}
use Rattle.mpl_mean.proofs.Sizes.SizedForms as each
use Rattle.mpl_mean.proofs.Sizes.SizedLocals.{blocks_behind, locals_move}
use Rattle.mpl_mean.proofs.Sizes.SizedPlaces.{which}
use Rattle.mpl_mean.proofs.Sizes.SizedRules.{AllRight, HasType, Right, every_left, every_right}
use Rattle.mpl_mean.proofs.Sizes.SizedScopes.{Moves, scope_keeps, so_moves, still_moves, then_moves}
use Rattle.mpl_mean.proofs.Sizes.SizedSettings.{Matches, ReturnFits, Setting, Sound, environment, inside}
use Rattle.mpl_mean.proofs.Sizes.SizedSteps.{ArgIn, Frame, Keeps, front_itself, from_premise, give_keeps, if_keeps, so_keeps, then_keeps}
use Rattle.mpl_mean.proofs.Sizes.SizedStores.{loops_keep, prints_keeps, results_keeps}
use Rattle.mpl_mean.proofs.Sizes.SizedTypes.{HasSize, WellProgram, same_size, size, type_words}
use Rattle.mpl_mean.proofs.Sizes.SizedBlocks.{after_is, blocks_after, loop_nodes, step_after}

-- ---- results

result_size : {ds : List Declaration} → WellProgram ds → (type : TypeName) (t : Option ValueType) (n : ℕ) → HasType ds type → HasSize ds t n → agree t (value_type AsResult (meant ds type)) ≡ true → n ≡ words_of ds type None
result_size well type None n w h e = absurd h
result_size {ds} well type (Some t) n w h e =
    let v = which (value_type AsResult (meant ds type)) w in
    h ∙ (same_size ds t v.0 (subst (λ o. agree (Some t) o ≡ true) v.1 e) ∙ sym (type_words well AsResult type v.0 v.1))

result_arg : (W : Type 0) {ds : List Declaration} → WellProgram ds → (type : TypeName) (t : Option ValueType) (a : Arg) → HasType ds type → ArgHas W ds t a → agree t (value_type AsResult (meant ds type)) ≡ true
    → ArgIn W (words_of ds type None) a
result_arg W well type None a w h e = absurd h
result_arg W {ds} well type (Some t) a w h e = subst (λ n. ArgIn W n a) (result_size well type (Some t) (size ds t) w refl e) h

module _ (G : Frame) (S : Setting) (s : Sound G S) where
  abbrev Keeps-Effect : List Variable → Type 0 → Effect → Type 0
  Keeps-Effect vs P f = Keeps G vs P (Unit {0}) (λ _. Unit {0}) f

  gives_fit : (blocks : List (List Declared)) (p : Expr) (a : Arg) (body : Body) → S.body ≡ body → can_give (environment G S blocks) body p ≡ true → ArgHas G.MayWait G.declarations (type_of (environment G S blocks) p) a
      → (n : ℕ) × (G.result_words ≡ Some n) × ArgIn G.MayWait n a
  gives_fit blocks p a (InMember (Typed at type)) i e h =
      (words_of G.declarations type None, s.result (Typed at type) i, result_arg G.MayWait s.well type (type_of (environment G S blocks) p) a (s.typed (Typed at type) i) h e)
  gives_fit blocks p a (InMember (Void at)) i e h = absurd cc
  gives_fit blocks p a NoBody i e h = absurd cc
  gives_fit blocks p a InGuard i e h = absurd cc
  gives_fit blocks p a InMain i e h = absurd cc
  gives_fit blocks p a (InFunction type) i e h = absurd cc

  return_agrees : (blocks : List (List Declared)) (p : Expr) (words : List ℤ) (body : Body) → S.body ≡ body → can_return (environment G S blocks) body (Some p) ≡ true
      → HasSize G.declarations (type_of (environment G S blocks) p) (length words) → ReturnFits G.declarations body words
  return_agrees blocks p words (InFunction type) i e h = result_size s.well type (type_of (environment G S blocks) p) (length words) (s.function_typed type i) h e
  return_agrees blocks p words (InMember result) i e h = tt
  return_agrees blocks p words NoBody i e h = tt
  return_agrees blocks p words InGuard i e h = tt
  return_agrees blocks p words InMain i e h = tt

  return_none : (blocks : List (List Declared)) (body : Body) → can_return (environment G S blocks) body None ≡ true → ReturnFits G.declarations body []
  return_none blocks (InFunction type) e = absurd cc
  return_none blocks (InMember result) e = tt
  return_none blocks NoBody e = tt
  return_none blocks InGuard e = tt
  return_none blocks InMain e = tt

  returned : (vs : List Variable) {P : Type 0} (words : List ℤ) → (P → ReturnFits G.declarations S.body words) → Keeps-Effect vs P (λ store. Returns words store)
  returned vs words h = record { grows = λ t. front_itself t.calls; holds = λ t q w. (s.returns words (h q.0), q.1.2) }

  module _ (blocks : List (List Declared)) (vs : List Variable) where
    abbrev Walked : Stmt → Type 0
    Walked a = Matches G S blocks vs × AllRight (stmt_walk a (environment G S blocks)).nodes

    returns_keep : (at : At) (value : Option Expression) → Keeps-Effect vs (Walked (stmt.Returns at (option_map expr_of value))) (returns (inside G S) value)
    returns_keep at None = returned vs [] (λ p. return_none blocks S.body (p.1).0.return)
    returns_keep at (Some e) =
        so_keeps G vs (λ p. p) (λ a p h. tt)
        (then_keeps G vs (from_premise G vs (λ p. (p.0, (p.1).1)) (value_keeps G S s blocks vs (expression_means e))) (λ v.
        returned vs v.words (λ p. return_agrees blocks (expr_of e) v.words S.body refl (p.0.1).0.return p.1)))

    prints_each : (es : List Expression)
        → AllZip (λ (e : Expression) f. Keeps G vs (Matches G S blocks vs × AllRight (print_walk (map expr_of es) (environment G S blocks)).nodes) Value (λ _. Unit {0}) f) es (map (λ e. value_of e (inside G S)) es)
    prints_each [] = tt
    prints_each (e ∷ es) = (
      so_keeps G vs (λ p. (p.0, every_left Right (expr_nodes (environment G S blocks) (expr_of e)) (print_walk (map expr_of es) (environment G S blocks)).nodes (p.1).1)) (λ a p h. tt)
          (value_keeps G S s blocks vs (expression_means e)),
      zip_from G vs (λ e v. Unit {0}) (λ p. (p.0, every_right Right (expr_nodes (environment G S blocks) (expr_of e)) (print_walk (map expr_of es) (environment G S blocks)).nodes (p.1).1)) es _ (prints_each es),
    )

    loop_keeps : {P : Type 0} (test : Expression) (h : Effect) → (P → Matches G S blocks vs × AllRight (expr_nodes (environment G S blocks) (expr_of test))) → Keeps-Effect vs P h → Keeps-Effect vs P (loop (inside G S) test h)
    loop_keeps test h p r = loops_keep G vs (S.context.turns + 1) S.context.turns (from_premise G vs p (value_keeps G S s blocks vs (expression_means test))) r

    steps_keep : (step : Option Assignment) → Keeps-Effect vs (Walked (if_any (option_map assigns step))) (steps (inside G S) step)
    steps_keep None = give_keeps G vs tt (λ p. tt)
    steps_keep (Some a) = assigns_keeps G S s blocks vs a

    declares_move : (l : Local) → Moves G vs (Walked (stmt.locals l)) (Matches G S (blocks_behind l.type_name (map new_local l.declarators) blocks)) (declares_all (inside G S) l)
    declares_move l =
        so_moves (Matches G S (blocks_behind l.type_name (map new_local l.declarators) blocks)) (Matches G S (blocks_behind l.type_name (map new_local l.declarators) blocks))
        (λ p. (p.0, (p.1).1, (p.1).0.known)) (λ ws p m. m) (locals_move G S s l.type_name blocks vs l.declarators)

    start_moves : (start : Option ForStart) → Moves G vs (Walked (if_any (option_map starts start))) (Matches G S (blocks_after (if_any (option_map starts start)) blocks)) (statement.starts (inside G S) start)
    start_moves None = still_moves (Matches G S blocks) (λ p. p.0) (give_keeps G vs {V = λ _. Unit {0}} tt (λ p. tt))
    start_moves (Some (Declare l)) = declares_move l
    start_moves (Some (Assign a)) = still_moves (Matches G S blocks) (λ p. p.0) (assigns_keeps G S s blocks vs a)

  -- ---- all statements

  abbrev WalkedAt : List (List Declared) → List Variable → Stmt → Type 0
  WalkedAt blocks vs a = Matches G S blocks vs × AllRight (stmt_walk a (environment G S blocks)).nodes

  abbrev WalkedEach : List (List Declared) → List Variable → Stmts → Type 0
  WalkedEach blocks vs stmts = Matches G S blocks vs × AllRight (stmts_walk stmts (environment G S blocks)).nodes

  abbrev Acts-Well : List (List Declared) → List Variable → Stmt → Effect → Type 0
  Acts-Well blocks vs a f = Moves G vs (WalkedAt blocks vs a) (Matches G S (blocks_after a blocks)) f

  -- a statement in a scope of its own
  scoped : (blocks : List (List Declared)) (vs : List Variable) (a : Stmt) {f : Effect} {P : Type 0} → (P → WalkedAt ([] ∷ blocks) vs a) → Acts-Well ([] ∷ blocks) vs a f → Keeps-Effect vs P (in_scope f)
  scoped blocks vs a p r = from_premise G vs p (scope_keeps (Matches G S (blocks_after a ([] ∷ blocks))) r)

  -- the nodes behind a first statement
  behind_first : (blocks : List (List Declared)) (a : Stmt) (stmts : Stmts) → AllRight (stmts_walk (stmt.MoreStmts a stmts) (environment G S blocks)).nodes
      → AllRight (stmt_walk a (environment G S blocks)).nodes × AllRight (stmts_walk stmts (environment G S (blocks_after a blocks))).nodes
  behind_first blocks a stmts r = (
    every_left Right (stmt_walk a (environment G S blocks)).nodes _ r,
    subst (λ h. AllRight (stmts_walk stmts h).nodes) (after_is G S a blocks) (every_right Right (stmt_walk a (environment G S blocks)).nodes _ r),
  )

  -- a loop behind its start
  abbrev LoopReady : List (List Declared) → List Variable → Expression → Option Assignment → Stmt → Type 0
  LoopReady blocks vs test step a = Matches G S blocks vs × AllRight (loop_nodes (environment G S blocks) (expr_of test) (if_any (option_map assigns step)) a)

  -- the nodes of its step and of its statement
  loop_split : (blocks : List (List Declared)) (test : Expr) (step : Option Assignment) (a : Stmt) → AllRight (loop_nodes (environment G S blocks) test (if_any (option_map assigns step)) a)
      → AllRight (stmt_walk (if_any (option_map assigns step)) (environment G S blocks)).nodes × AllRight (stmt_walk a (environment G S ([] ∷ blocks))).nodes
  loop_split blocks test step a r =
      let walked = stmt_walk (if_any (option_map assigns step)) (environment G S blocks) in
      let both = every_right Right (expr_nodes (environment G S blocks) test) _ r.1 in
      (every_left Right walked.nodes _ both, subst (λ h. AllRight (stmt_walk a (in_block h)).nodes) (step_after step (environment G S blocks)) (every_right Right walked.nodes _ both))

  mutual
    pub acts_move : {f : Does} {a : Stmt} (blocks : List (List Declared)) (vs : List Variable) → Acts f a → Acts-Well blocks vs a (f (inside G S))
    acts_move blocks vs (within {stmts = stmts} m) =
        still_moves (Matches G S blocks) (λ p. p.0) (from_premise G vs (λ p. (p.0, p.1)) (scope_keeps (λ ws. Unit {0}) (acts_each ([] ∷ blocks) vs m)))
    acts_move blocks vs (declare l) = declares_move blocks vs l
    acts_move blocks vs (assign a) = still_moves (Matches G S blocks) (λ p. p.0) (assigns_keeps G S s blocks vs a)
    acts_move blocks vs (call c) =
        still_moves (Matches G S blocks) (λ p. p.0)
        (then_keeps G vs {h = λ _. nothing} (call_keeps G S s blocks vs c) (λ a. give_keeps G vs {V = λ _. Unit {0}} tt (λ p. tt)))
    acts_move blocks vs (create at t) = still_moves (Matches G S blocks) (λ p. p.0) (create_keeps G S s blocks vs at.span.from t)
    acts_move blocks vs (branch {a = a} test m) =
        still_moves (Matches G S blocks) (λ p. p.0)
        (then_keeps G vs (from_premise G vs (λ p. (p.0, every_left Right (expr_nodes (environment G S blocks) (expr_of test)) _ (p.1).1)) (value_keeps G S s blocks vs (expression_means test))) (λ v.
        if_keeps G vs (is_true v)
        (scoped blocks vs a
        (λ p. (p.0.0, every_right Right (expr_nodes (environment G S blocks) (expr_of test)) _ (p.0.1).1))
        (acts_move ([] ∷ blocks) vs m))
        (give_keeps G vs tt (λ p. tt))))
    acts_move blocks vs (branches {a = a} {b = b} test m n) =
        still_moves (Matches G S blocks) (λ p. p.0)
        (then_keeps G vs (from_premise G vs (λ p. (p.0, every_left Right (expr_nodes (environment G S blocks) (expr_of test)) _ (p.1).1)) (value_keeps G S s blocks vs (expression_means test))) (λ v.
        if_keeps G vs (is_true v)
        (scoped blocks vs a
        (λ p. (p.0.0, every_left Right (stmt_walk a (environment G S ([] ∷ blocks))).nodes _ (every_right Right (expr_nodes (environment G S blocks) (expr_of test)) _ (p.0.1).1)))
        (acts_move ([] ∷ blocks) vs m))
        (scoped blocks vs b
        (λ p. (
          p.0.0,
          every_right Right (stmt_walk a (environment G S ([] ∷ blocks))).nodes (stmt_walk b (environment G S ([] ∷ blocks))).nodes
              (every_right Right (expr_nodes (environment G S blocks) (expr_of test)) _ (p.0.1).1),
        ))
        (acts_move ([] ∷ blocks) vs n))))
    acts_move blocks vs (repeats {a = a} test m) =
        still_moves (Matches G S blocks) (λ p. p.0)
        (loop_keeps blocks vs test _ (λ p. (p.0, every_left Right (expr_nodes (environment G S blocks) (expr_of test)) _ (p.1).1))
        (scoped blocks vs a (λ p. (p.0, every_right Right (expr_nodes (environment G S blocks) (expr_of test)) _ (p.1).1)) (acts_move ([] ∷ blocks) vs m)))
    acts_move blocks vs (loops {f = f} {a = a} start test step m) =
        let first = if_any (option_map starts start) in
        let inner = blocks_after first ([] ∷ blocks) in
        still_moves (Matches G S blocks) (λ p. p.0)
        (scope_keeps (λ ws. Unit {0})
        (then_moves (λ ws. LoopReady inner ws test step a) (λ ws. Unit {0}) {f = statement.starts (inside G S) start} {g = loop (inside G S) test (in_scope (f (inside G S)) >> steps (inside G S) step)}
        (so_moves (Matches G S inner) (λ ws. LoopReady inner ws test step a) (λ p. (p.0, every_left Right (stmt_walk first (environment G S ([] ∷ blocks))).nodes _ p.1))
        (λ ws p q. (
          q,
          subst (λ h. AllRight (loop_nodes h (expr_of test) (if_any (option_map assigns step)) a)) (after_is G S first ([] ∷ blocks))
              (every_right Right (stmt_walk first (environment G S ([] ∷ blocks))).nodes _ p.1),
        ))
        (start_moves ([] ∷ blocks) vs start))
        (λ ws.
        still_moves (λ ws. Unit {0}) (λ p. tt)
        (from_premise G ws (λ p. p.1)
        (loop_keeps inner ws test (in_scope (f (inside G S)) >> steps (inside G S) step) (λ p. (p.0, every_left Right (expr_nodes (environment G S inner) (expr_of test)) _ (p.1).1))
        (so_keeps G ws (λ p. p) (λ b p h. tt)
        (then_keeps G ws {h = λ _. steps (inside G S) step}
        (scoped inner ws a (λ p. (p.0, (loop_split inner (expr_of test) step a p.1).1)) (acts_move ([] ∷ inner) ws m))
        (λ _. from_premise G ws (λ p. (p.0.0, (loop_split inner (expr_of test) step a (p.0).1).0)) (steps_keep inner ws step)))))))))
    acts_move blocks vs (print at es) =
        still_moves (Matches G S blocks) (λ p. p.0)
        (then_keeps G vs (all_keep G vs (λ e v. Unit {0}) es _ (zip_from G vs (λ e v. Unit {0}) (λ p. (p.0, (p.1).1)) es _ (prints_each blocks vs es))) (λ values. prints_keeps G vs (line_of values)))
    acts_move blocks vs (rtf at value) =
        still_moves (Matches G S blocks) (λ p. p.0)
        (then_keeps G vs (from_premise G vs (λ p. (p.0, (p.1).1)) (flow_keeps G S s blocks vs value)) (λ a.
        results_keeps G vs at.line a (λ p. gives_fit blocks (expr_of_flow value) a S.body refl (p.0.1).0.rtf p.1)))
    acts_move blocks vs (return at value) = still_moves (Matches G S blocks) (λ p. p.0) (returns_keep blocks vs at value)
    acts_move blocks vs empty = still_moves (Matches G S blocks) (λ p. p.0) (give_keeps G vs {V = λ _. Unit {0}} tt (λ p. tt))

    pub acts_each : {fs : List Does} {stmts : Stmts} (blocks : List (List Declared)) (vs : List Variable) → ActsEach fs stmts
        → Moves G vs (WalkedEach blocks vs stmts) (λ ws. Unit {0}) (in_turn (map (λ (does : Does). does (inside G S)) fs))
    acts_each blocks vs each.ActsEach.none = still_moves (λ ws. Unit {0}) (λ p. tt) (give_keeps G vs {V = λ _. Unit {0}} tt (λ p. tt))
    acts_each blocks vs (each.ActsEach.more {f = f} {fs = fs} {a = a} {stmts = stmts} m ms) =
        then_moves (λ ws. WalkedEach (blocks_after a blocks) ws stmts) (λ ws. Unit {0}) {f = f (inside G S)} {g = in_turn (map (λ (does : Does). does (inside G S)) fs)}
        (so_moves (Matches G S (blocks_after a blocks)) (λ ws. WalkedEach (blocks_after a blocks) ws stmts) (λ p. (p.0, (behind_first blocks a stmts p.1).0))
        (λ ws p q. (q, (behind_first blocks a stmts p.1).1)) (acts_move blocks vs m))
        (λ ws. so_moves (λ ws. Unit {0}) (λ ws. Unit {0}) (λ p. p.1) (λ vs p m. m) (acts_each (blocks_after a blocks) ws ms))
