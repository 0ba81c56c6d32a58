-- In the bodies of typed programs statements have what their code takes.
use Rattle.std.proofs.Common.{◌≡◌, ℕ, true, List, [], ◌∷◌, map, Option, Some, None, refl, sym, ap, subst, ◌∙◌}
use Rattle.std.specs.Option.{option_map}
use Rattle.mpl_ast.specs.declared.class.ResultType.TheVariants.{Void, Typed}
use Rattle.mpl_ast.specs.declared.expression.Expression.{Expression}
use Rattle.mpl_ast.specs.declared.flow.Assignment.{Assignment}
use Rattle.mpl_ast.specs.declared.flow.Flow.{Flow}
use Rattle.mpl_ast.specs.declared.statement.ForStart.{ForStart}
use Rattle.mpl_ast.specs.declared.statement.ForStart.TheVariants as start
use Rattle.mpl_ast.specs.declared.statement.Local.{Local}
use Rattle.mpl_ast.specs.declared.statement.Statement.{Statement}
use Rattle.mpl_mean.specs.Meaning.Layout.{words_of}
use Rattle.mpl_mean.specs.Meaning.StatementMeaning.{Does}
use Rattle.mpl_mean.specs.Plain.Expr.{expr_of, expr_of_flow, expr_of_place}
use Rattle.mpl_mean.specs.Plain.Stmt.{Stmt, Stmts, assigns, if_any, locals, starts, stmts_from}
use Rattle.mpl_mean.specs.TypeRules.Nodes.{expr_nodes}
use Rattle.mpl_mean.specs.TypeRules.Scopes.{Body, InFunction, InGuard, InMain, InMember, NoBody, in_block}
use Rattle.mpl_mean.specs.TypeRules.StatementNodes.{exprs_if_any, print_walk, stmt_walk, stmts_walk}
use Rattle.mpl_mean.specs.TypeRules.StatementRules.{can_give, can_return}
use Rattle.mpl_mean.specs.TypeRules.Types.{AsResult, Declared, OfBool, agree, meant, value_type}
use Rattle.mpl_mean.specs.TypeRules.Typing.{type_of}
use Rattle.mpl_mean.proofs.Sizes.SizedBlocks.{after_is, blocks_after, loop_nodes, step_after}
use Rattle.mpl_mean.proofs.Sizes.SizedExpressionForms.{expression_means}
use Rattle.mpl_mean.proofs.Sizes.SizedForms.{Acts, ActsEach, within, declare, assign, call, create, branch, branches, repeats, loops, print, rtf, return, empty}
use Rattle.mpl_mean.proofs.Sizes.SizedForms as each
use Rattle.mpl_mean.proofs.Sizes.SizedRules.{AllRight, Right, every_left, every_right}
use Rattle.mpl_mean.proofs.Sizes.SizedSettings.{Matches, Setting, environment}
use Rattle.mpl_mean.proofs.Sizes.SizedStatementForms.{call_passes, flow_passes, statements_act}
use Rattle.mpl_mean.proofs.Sizes.SizedSteps.{Frame}
use Rattle.mpl_mean.proofs.Sizes.SizedTypes.{HasSize, WellProgram}
use Rattle.mpl_gen_code.specs.Fits.{EachFits, ExprFits, GivesWords, May, ReturnsFit, StmtFits, StmtsFit, TestFits}
use Rattle.mpl_gen_code.specs.Scopes.{Env, Finish, OfBody, OfFunction, Slot, out_of}
use Rattle.mpl_gen_code.specs.StatementCode.{behind, behind_all, behind_block}
use Rattle.mpl_gen_code.specs.Words.{words_of_expr}
use Rattle.mpl_gen_code.proofs.TypedAssignments as assignments
use Rattle.mpl_gen_code.proofs.TypedAssignments.{assignment_fits, assignment_next, creation_fits, locals_fit, step_scope}
use Rattle.mpl_gen_code.proofs.TypedExpressions.{expr_fits, expr_sized}
use Rattle.mpl_gen_code.proofs.TypedFlows.{Allows, FinishFits, alone_fits, flow_fits, flow_sized}
use Rattle.mpl_gen_code.proofs.TypedPlaces.{Kept, env_in, variables_of}
use Rattle.mpl_gen_code.proofs.TypedValues.{agree_size, printed_one, typed_size}

module _ (G : Frame) (S : Setting) (K : Kept) (well : WellProgram G.declarations) (may : May) (allows : Allows G S K may) where
  abbrev env_of : List Slot → List ℕ → Env
  env_of = env_in G S K

  abbrev Next : List (List Declared) → Env → Type 0
  Next = assignments.Next G S K well may allows

  abbrev Scope : List (List Declared) → List Slot → Type 0
  Scope blocks scope = Matches G S blocks (variables_of scope)

  abbrev Fits : List (List Declared) → List Slot → List ℕ → Stmt → Type 0
  Fits blocks scope sizes a = StmtFits may (env_of scope sizes) a × Next (blocks_after a blocks) (behind a (env_of scope sizes))

  -- what surrounds the next statement behind a block, with the numbers that it used
  abbrev Behind : List (List Declared) → List Slot → Env → Type 0
  Behind blocks scope env = (sizes : List ℕ) × (env ≡ env_of scope sizes)

  behind_next : (blocks inner : List (List Declared)) (scope : List Slot) (sizes : List ℕ) (env : Env) → Next inner env → Behind blocks scope (out_of (env_of scope sizes) env)
  behind_next blocks inner scope sizes env n = (n.1, ap (out_of (env_of scope sizes)) n.2)

  -- ---- parts

  module _ (blocks : List (List Declared)) (scope : List Slot) (sizes : List ℕ) (m : Matches G S blocks (variables_of scope)) where
    abbrev env : Env
    env = env_of scope sizes

    value_fits : (e : Expression) → AllRight (expr_nodes (environment G S blocks) (expr_of e)) → ExprFits may env (expr_of e)
    value_fits e r = expr_fits G S K well allows.total may (λ e. (allows.own e).0) allows.input blocks scope sizes m (expression_means e) r

    value_sized : (e : Expression) → AllRight (expr_nodes (environment G S blocks) (expr_of e)) → HasSize G.declarations (type_of (environment G S blocks) (expr_of e)) (words_of_expr env (expr_of e))
    value_sized e r = expr_sized G S K well allows.total may (λ e. (allows.own e).0) allows.input blocks scope sizes m (expression_means e) r

    test_fits : (e : Expression) → AllRight (expr_nodes (environment G S blocks) (expr_of e)) → agree (Some OfBool) (type_of (environment G S blocks) (expr_of e)) ≡ true → TestFits may env (expr_of e)
    test_fits e r h = (
      value_fits e r,
      sym (agree_size G.declarations (Some OfBool) (type_of (environment G S blocks) (expr_of e)) 1 (words_of_expr env (expr_of e)) refl (value_sized e r) h),
    )

    prints_fit : (es : List Expression) → AllRight (print_walk (map expr_of es) (environment G S blocks)).nodes → EachFits may env (map expr_of es)
    prints_fit [] r = tt
    prints_fit (e ∷ es) r =
        let h = environment G S blocks in
        let first = every_left Right (expr_nodes h (expr_of e)) (print_walk (map expr_of es) h).nodes r.1 in (
          value_fits e first,
          printed_one G.declarations (type_of h (expr_of e)) (words_of_expr env (expr_of e)) (value_sized e first) r.0.operands,
          prints_fit es (every_right Right (expr_nodes h (expr_of e)) (print_walk (map expr_of es) h).nodes r.1),
        )

    gives_fit : (body : Body) → S.body ≡ body → (value : Flow) → AllRight (expr_nodes (environment G S blocks) (expr_of_flow value)) → can_give (environment G S blocks) body (expr_of_flow value) ≡ true
        → GivesWords may.gives (words_of_expr env (expr_of_flow value))
    gives_fit (InMember (Typed at type)) e value r h =
        let g = allows.gives at type e in
        let t = value_type AsResult (meant G.declarations type) in
        let words = agree_size G.declarations (type_of (environment G S blocks) (expr_of_flow value)) t (words_of_expr env (expr_of_flow value)) (words_of G.declarations type None)
        (flow_sized G S K well may allows blocks scope sizes m (flow_passes value) r) (typed_size well AsResult type t refl g.1) h in
        subst (λ o. GivesWords o (words_of_expr env (expr_of_flow value))) (sym g.0) words
    gives_fit (InMember (Void at)) e value r h = absurd cc
    gives_fit NoBody e value r h = absurd cc
    gives_fit InGuard e value r h = absurd cc
    gives_fit InMain e value r h = absurd cc
    gives_fit (InFunction type) e value r h = absurd cc

    returns_fit : (body : Body) (finish : Finish) (value : Option Expression) → FinishFits G.declarations body finish → can_return (environment G S blocks) body (option_map expr_of value) ≡ true
        → AllRight (exprs_if_any (option_map expr_of value) (environment G S blocks)).nodes → ReturnsFit may env finish (option_map expr_of value)
    returns_fit InMain (OfBody line) None f h r = tt
    returns_fit InMain (OfBody line) (Some e) f h r = (value_fits e r, tt)
    returns_fit InMain (OfFunction words line) value f h r = absurd f
    returns_fit (InMember result) (OfBody line) None f h r = tt
    returns_fit (InMember result) (OfBody line) (Some e) f h r = absurd cc
    returns_fit (InMember result) (OfFunction words line) value f h r = absurd f
    returns_fit (InFunction type) (OfBody line) value f h r = absurd f
    returns_fit (InFunction type) (OfFunction words line) None f h r = absurd cc
    returns_fit (InFunction type) (OfFunction words line) (Some e) f h r =
        let t = value_type AsResult (meant G.declarations type) in (
          value_fits e r,
          agree_size G.declarations (type_of (environment G S blocks) (expr_of e)) t (words_of_expr env (expr_of e)) (words_of G.declarations type None) (value_sized e r) (typed_size well AsResult type t refl f.1) h ∙ sym f.0,
        )
    returns_fit NoBody (OfBody line) value f h r = absurd f
    returns_fit NoBody (OfFunction words line) value f h r = absurd f
    returns_fit InGuard (OfBody line) value f h r = absurd f
    returns_fit InGuard (OfFunction words line) value f h r = absurd f

    local_fits : (l : Local) → AllRight (stmt_walk (locals l) (environment G S blocks)).nodes → Fits blocks scope sizes (locals l)
    local_fits l r = locals_fit G S K well may allows l.type_name r.0.known blocks scope sizes m l.declarators r.1

    start_fits : (s : Option ForStart) → AllRight (stmt_walk (if_any (option_map starts s)) (environment G S blocks)).nodes → Fits blocks scope sizes (if_any (option_map starts s))
    start_fits None r = (tt, (scope, sizes, refl, m))
    start_fits (Some (start.Declare l)) r = local_fits l r
    start_fits (Some (start.Assign a)) r = (assignment_fits G S K well may allows blocks scope sizes m a r, assignment_next G S K well may allows blocks scope sizes m (expr_of_place a.place))

    step_fits : (step : Option Assignment) → AllRight (stmt_walk (if_any (option_map assigns step)) (environment G S blocks)).nodes → Fits blocks scope sizes (if_any (option_map assigns step))
    step_fits None r = (tt, (scope, sizes, refl, m))
    step_fits (Some a) r = (assignment_fits G S K well may allows blocks scope sizes m a r, assignment_next G S K well may allows blocks scope sizes m (expr_of_place a.place))

  step_blocks : (step : Option Assignment) (blocks : List (List Declared)) → blocks_after (if_any (option_map assigns step)) blocks ≡ blocks
  step_blocks None blocks = refl
  step_blocks (Some a) blocks = refl

  -- ---- all of them

  mutual
    statement_fits : {f : Does} {a : Stmt} (blocks : List (List Declared)) (scope : List Slot) (sizes : List ℕ) → Scope blocks scope → Acts f a → AllRight (stmt_walk a (environment G S blocks)).nodes
        → Fits blocks scope sizes a
    statement_fits blocks scope sizes m (within {stmts = stmts} s) r =
        let inner = statements_acting_fit ([] ∷ blocks) scope sizes m s r in
        (inner.0, (scope, (inner.1).0, (inner.1).1, m))
    statement_fits blocks scope sizes m (declare l) r = local_fits blocks scope sizes m l r
    statement_fits blocks scope sizes m (assign a) r =
        (assignment_fits G S K well may allows blocks scope sizes m a r, assignment_next G S K well may allows blocks scope sizes m (expr_of_place a.place))
    statement_fits blocks scope sizes m (call c) r = (alone_fits G S K well may allows blocks scope sizes m (call_passes c) r, (scope, sizes, refl, m))
    statement_fits blocks scope sizes m (create at t) r = (creation_fits G S K well may allows blocks scope sizes m at.span.from t r, (scope, sizes, refl, m))
    statement_fits blocks scope sizes m (branch {a = a} test s) r =
        let h = environment G S blocks in
        let inner = statement_fits ([] ∷ blocks) scope sizes m s (every_right Right (expr_nodes h (expr_of test)) _ r.1) in
        let after = behind_next blocks (blocks_after a ([] ∷ blocks)) scope sizes (behind a (env_of scope sizes)) inner.1 in
        ((test_fits blocks scope sizes m test (every_left Right (expr_nodes h (expr_of test)) _ r.1) r.0.test, inner.0), (scope, after.0, after.1, m))
    statement_fits blocks scope sizes m (branches {a = a} {b = b} test s u) r =
        let h = environment G S blocks in
        let both = every_right Right (expr_nodes h (expr_of test)) _ r.1 in
        let first = statement_fits ([] ∷ blocks) scope sizes m s (every_left Right (stmt_walk a (environment G S ([] ∷ blocks))).nodes _ both) in
        let between = behind_next blocks (blocks_after a ([] ∷ blocks)) scope sizes (behind a (env_of scope sizes)) first.1 in
        let second = statement_fits ([] ∷ blocks) scope between.0 m u (every_right Right (stmt_walk a (environment G S ([] ∷ blocks))).nodes (stmt_walk b (environment G S ([] ∷ blocks))).nodes both) in
        let after = behind_next blocks (blocks_after b ([] ∷ blocks)) scope sizes (behind b (env_of scope between.0)) second.1 in (
          (
            test_fits blocks scope sizes m test (every_left Right (expr_nodes h (expr_of test)) _ r.1) r.0.test,
            first.0,
            subst (λ env. StmtFits may env b) (sym between.1) second.0,
          ),
          (scope, after.0, ap (λ env. out_of (env_of scope sizes) (behind b env)) between.1 ∙ after.1, m),
        )
    statement_fits blocks scope sizes m (repeats {a = a} test s) r =
        let h = environment G S blocks in
        let inner = statement_fits ([] ∷ blocks) scope sizes m s (every_right Right (expr_nodes h (expr_of test)) _ r.1) in
        let after = behind_next blocks (blocks_after a ([] ∷ blocks)) scope sizes (behind a (env_of scope sizes)) inner.1 in
        ((test_fits blocks scope sizes m test (every_left Right (expr_nodes h (expr_of test)) _ r.1) r.0.test, inner.0), (scope, after.0, after.1, m))
    statement_fits blocks scope sizes m (loops {a = a} start test step s) r =
        let first = if_any (option_map starts start) in
        let next = if_any (option_map assigns step) in
        let inner = blocks_after first ([] ∷ blocks) in
        let walked = stmt_walk first (environment G S ([] ∷ blocks)) in
        let begun = start_fits ([] ∷ blocks) scope sizes m start (every_left Right walked.nodes _ r) in
        let scope' = (begun.1).0 in
        let sizes' = (begun.1).1 in
        let is = (begun.1).2 in
        let n = (begun.1).3 in
        let rest : AllRight (loop_nodes (environment G S inner) (expr_of test) next a) =
        subst (λ h. AllRight (loop_nodes h (expr_of test) next a)) (after_is G S first ([] ∷ blocks)) (every_right Right walked.nodes _ r) in
        let stepped = stmt_walk next (environment G S inner) in
        let both = every_right Right (expr_nodes (environment G S inner) (expr_of test)) _ rest.1 in
        let ready : AllRight (stmt_walk a (environment G S ([] ∷ inner))).nodes =
        subst (λ h. AllRight (stmt_walk a (in_block h)).nodes) (step_after step (environment G S inner)) (every_right Right stepped.nodes _ both) in
        let body = statement_fits ([] ∷ inner) scope' sizes' n s ready in
        let between = behind_next inner (blocks_after a ([] ∷ inner)) scope' sizes' (behind a (env_of scope' sizes')) body.1 in
        let last = step_fits inner scope' between.0 n step (every_left Right stepped.nodes _ both) in
        let after = behind_next blocks (blocks_after next inner) scope sizes (behind next (env_of scope' between.0)) last.1 in (
          (
            begun.0,
            subst (λ env. TestFits may env (expr_of test)) (sym is)
                (test_fits inner scope' sizes' n test (every_left Right (expr_nodes (environment G S inner) (expr_of test)) _ rest.1) rest.0.test),
            subst (λ env. StmtFits may env a) (sym is) body.0,
            subst (λ env. StmtFits may (behind_block a env) next) (sym is) (subst (λ env. StmtFits may env next) (sym between.1) last.0),
            step_scope step (behind_block a (behind first (env_of scope sizes))),
          ),
          (
            scope,
            after.0,
            ap (λ env. out_of (env_of scope sizes) (behind next (out_of env (behind a env)))) is ∙ (ap (λ env. out_of (env_of scope sizes) (behind next env)) between.1 ∙ after.1),
            m,
          ),
        )
    statement_fits blocks scope sizes m (print at es) r = ((allows.input r.0.speaks, prints_fit blocks scope sizes m es r.1), (scope, sizes, refl, m))
    statement_fits blocks scope sizes m (rtf at value) r =
        ((flow_fits G S K well may allows blocks scope sizes m (flow_passes value) r.1, gives_fit blocks scope sizes m S.body refl value r.1 r.0.rtf), (scope, sizes, refl, m))
    statement_fits blocks scope sizes m (return at value) r = (returns_fit blocks scope sizes m S.body K.finish value allows.finish r.0.return r.1, (scope, sizes, refl, m))
    statement_fits blocks scope sizes m empty r = (tt, (scope, sizes, refl, m))

    statements_acting_fit : {fs : List Does} {stmts : Stmts} (blocks : List (List Declared)) (scope : List Slot) (sizes : List ℕ) → Scope blocks scope → ActsEach fs stmts
        → AllRight (stmts_walk stmts (environment G S blocks)).nodes → StmtsFit may (env_of scope sizes) stmts × Behind blocks scope (out_of (env_of scope sizes) (behind_all stmts (env_of scope sizes)))
    statements_acting_fit blocks scope sizes m each.ActsEach.none r = (tt, (sizes, refl))
    statements_acting_fit blocks scope sizes m (each.ActsEach.more {a = a} {stmts = stmts} s ss) r =
        let one = statement_fits blocks scope sizes m s (every_left Right (stmt_walk a (environment G S blocks)).nodes _ r) in
        let others = subst (λ h. AllRight (stmts_walk stmts h).nodes) (after_is G S a blocks) (every_right Right (stmt_walk a (environment G S blocks)).nodes _ r) in
        let n = one.1 in
        let later = statements_acting_fit (blocks_after a blocks) n.0 n.1 n.3 ss others in (
          (one.0, subst (λ env. StmtsFit may env stmts) (sym n.2) later.0),
          ((later.1).0, ap (λ env. out_of (env_of scope sizes) (behind_all stmts env)) n.2 ∙ ap (out_of (env_of scope sizes)) (later.1).1),
        )

  pub statements_fit : (scope : List Slot) (sizes : List ℕ) (ts : List Statement) → Scope ([] ∷ []) scope → AllRight (stmts_walk (stmts_from ts) (environment G S ([] ∷ []))).nodes
      → StmtsFit may (env_of scope sizes) (stmts_from ts)
  statements_fit scope sizes ts m r = (statements_acting_fit ([] ∷ []) scope sizes m (statements_act ts) r).0
