-- In the bodies of typed programs calls in place have as many arguments as formals.
use Rattle.std.proofs.Common.{◌≡◌, true, List, [], ◌∷◌, ◌++◌, map, Option, Some, None, refl, sym, subst}
use Rattle.std.specs.Option.{option_map}
use Rattle.mpl_ast.specs.declared.flow.Assignment.{Assignment}
use Rattle.mpl_ast.specs.declared.place.Name.{Name}
use Rattle.mpl_ast.specs.declared.statement.Dimension.{Dimension}
use Rattle.mpl_ast.specs.declared.statement.ForStart.{ForStart}
use Rattle.mpl_ast.specs.declared.statement.ForStart.TheVariants as start
use Rattle.mpl_ast.specs.declared.statement.Local.{Local}
use Rattle.mpl_ast.specs.declared.statement.Statement.{Statement}
use Rattle.mpl_ast.specs.declared.statement.TypeName.{TypeName}
use Rattle.mpl_mean.specs.Meaning.Layout.{Member, dimension_of}
use Rattle.mpl_mean.specs.Meaning.StatementMeaning.{Does}
use Rattle.mpl_mean.specs.Plain.Expr.{Expr, expr_of, expr_of_call, expr_of_flow, expr_of_place}
use Rattle.mpl_mean.specs.Plain.Stmt.{NewLocal, Stmt, Stmts, assigns, if_any, locals, new_local, starts, stmts_from}
use Rattle.mpl_mean.specs.TypeRules.NameRules.{is_meant}
use Rattle.mpl_mean.specs.TypeRules.Nodes.{Located, expr_nodes}
use Rattle.mpl_mean.specs.TypeRules.Scopes.{in_block, with_last}
use Rattle.mpl_mean.specs.TypeRules.StatementNodes.{declared_local, dimension_nodes, exprs_if_any, local_walk, locals_walk, print_walk, stmt_walk, stmts_walk}
use Rattle.mpl_mean.specs.TypeRules.Types.{Declared, meant}
use Rattle.mpl_mean.proofs.Sizes.SizedBlocks.{after_is, blocks_after, loop_nodes, step_after}
use Rattle.mpl_mean.proofs.Sizes.SizedForms.{Acts, ActsEach, within, declare, assign, call, create, branch, branches, repeats, loops, print, rtf, return, empty}
use Rattle.mpl_mean.proofs.Sizes.SizedForms as each
use Rattle.mpl_mean.proofs.Sizes.SizedLocals.{blocks_behind, dimension_element, local_shape, matches_more}
use Rattle.mpl_mean.proofs.Sizes.SizedRules.{AllRight, Right, every_left, every_right}
use Rattle.mpl_mean.proofs.Sizes.SizedSettings.{Matches, Setting, environment}
use Rattle.mpl_mean.proofs.Sizes.SizedStatementForms.{statements_act}
use Rattle.mpl_mean.proofs.Sizes.SizedSteps.{Frame}
use Rattle.mpl_mean.proofs.Sizes.SizedTypes.{WellProgram}
use Rattle.mpl_mean.proofs.Truth.{not_true}
use Rattle.mpl_plain.specs.Arity.{AnyFits, EachFits, ExprFits, LocalsFit, StatementFits, StatementsFit}
use Rattle.mpl_mean.specs.Plain.Scopes.{Env, Shape, behind, declares, declares_all}
use Rattle.mpl_plain.proofs.FittingFlows as flows
use Rattle.mpl_plain.proofs.FittingFlows.{declared_variable, variables_of}

-- the step of a loop declares nothing
step_behind : (step : Option Assignment) (env : Env) → behind (if_any (option_map assigns step)) env ≡ env
step_behind None env = refl
step_behind (Some a) env = refl

module _ (G : Frame) (S : Setting) (well : WellProgram G.declarations) (ms : List Member) where
  abbrev env_of : List Shape → Env
  env_of = flows.env_of G S well ms

  abbrev Scope : List (List Declared) → List Shape → Type 0
  Scope blocks scope = Matches G S blocks (variables_of scope)

  -- what surrounds the next statement
  abbrev Next : List (List Declared) → Env → Type 0
  Next blocks env = (scope : List Shape) × (env ≡ env_of scope) × Scope blocks scope

  -- ---- assignments

  assignment_fits : (blocks : List (List Declared)) (scope : List Shape) → Scope blocks scope → (a : Assignment) → AllRight (stmt_walk (assigns a) (environment G S blocks)).nodes → StatementFits (env_of scope) (assigns a)
  assignment_fits blocks scope m a r =
      let h = environment G S blocks in (
        flows.expr_fits G S well ms blocks scope m (expr_of_flow a.value) (every_right Right (expr_nodes h (expr_of_place a.place)) (expr_nodes h (expr_of_flow a.value)) r.1),
        flows.index_fits G S well ms blocks scope m (expr_of_place a.place) (every_left Right (expr_nodes h (expr_of_place a.place)) (expr_nodes h (expr_of_flow a.value)) r.1),
      )

  step_fits : (blocks : List (List Declared)) (scope : List Shape) → Scope blocks scope → (step : Option Assignment) → AllRight (stmt_walk (if_any (option_map assigns step)) (environment G S blocks)).nodes
      → StatementFits (env_of scope) (if_any (option_map assigns step))
  step_fits blocks scope m None r = tt
  step_fits blocks scope m (Some a) r = assignment_fits blocks scope m a r

  -- ---- locals

  any_fits : (blocks : List (List Declared)) (scope : List Shape) → Scope blocks scope → (value : Option Expr) (rest : List Located) → AllRight ((exprs_if_any value (environment G S blocks)).nodes ++ rest)
      → AnyFits (env_of scope) value
  any_fits blocks scope m None rest r = tt
  any_fits blocks scope m (Some p) rest r = flows.expr_fits G S well ms blocks scope m p (every_left Right (expr_nodes (environment G S blocks) p) rest r)

  module _ (type : TypeName) (known : is_meant (meant G.declarations type) ≡ true) where
    abbrev first_nodes : List (List Declared) → NewLocal → List Located
    first_nodes blocks new = (local_walk type new (environment G S blocks)).nodes

    abbrev After : List (List Declared) → List Shape → NewLocal → Type 0
    After blocks scope new = AnyFits (env_of scope) new.initialiser × Next (with_last (declared_local type new) blocks) (declares type new (env_of scope))

    one_fits : (blocks : List (List Declared)) (scope : List Shape) → Scope blocks scope → (new : NewLocal) → AllRight (first_nodes blocks new) → After blocks scope new
    one_fits blocks scope m new r =
        let h = environment G S blocks in
        let shape : Shape = record { name = new.name.text; type = type; dimension = dimension_of new.dimension } in (
          any_fits blocks scope m new.initialiser [] (every_right Right (dimension_nodes h type new.dimension) _ r.1).1,
          (
            shape ∷ scope,
            refl,
            matches_more G S blocks (variables_of scope) (declared_local type new) (declared_variable shape) (refl, refl, refl)
                (local_shape new.dimension (meant G.declarations type) known, dimension_element G S blocks type new.dimension (every_left Right (dimension_nodes h type new.dimension) _ r.1))
                (not_true _ r.0.new) m,
          ),
        )

    all_split : (blocks : List (List Declared)) (name : Name) (dimension : Option Dimension) (initialiser : Option Expr) (news : List NewLocal)
        → AllRight (locals_walk type (record { name = name; dimension = dimension; initialiser = initialiser } ∷ news) (environment G S blocks)).nodes
        → AllRight (first_nodes blocks (record { name = name; dimension = dimension; initialiser = initialiser }))
        × AllRight (locals_walk type news (environment G S (with_last (declared_local type (record { name = name; dimension = dimension; initialiser = initialiser })) blocks))).nodes
    all_split blocks name dimension None news r =
        let new : NewLocal = record { name = name; dimension = dimension; initialiser = None } in
        (every_left Right (first_nodes blocks new) _ r, every_right Right (first_nodes blocks new) _ r)
    all_split blocks name dimension (Some value) news r =
        let new : NewLocal = record { name = name; dimension = dimension; initialiser = Some value } in
        (every_left Right (first_nodes blocks new) _ r, every_right Right (first_nodes blocks new) _ r)

    locals_fit : (blocks : List (List Declared)) (scope : List Shape) → Scope blocks scope → (news : List NewLocal) → AllRight (locals_walk type news (environment G S blocks)).nodes
        → LocalsFit (env_of scope) type news × Next (blocks_behind type news blocks) (declares_all type news (env_of scope))
    locals_fit blocks scope m [] r = (tt, (scope, refl, m))
    locals_fit blocks scope m (new ∷ news) r =
        let two = all_split blocks new.name new.dimension new.initialiser news r in
        let one = one_fits blocks scope m new two.0 in
        let inner = with_last (declared_local type new) blocks in
        let others = locals_fit inner (one.1).0 (one.1).2 news two.1 in (
          (one.0, subst (λ env. LocalsFit env type news) (sym (one.1).1) others.0),
          subst (λ env. Next (blocks_behind type news inner) (declares_all type news env)) (sym (one.1).1) others.1,
        )

  abbrev Fits : List (List Declared) → List Shape → Stmt → Type 0
  Fits blocks scope a = StatementFits (env_of scope) a × Next (blocks_after a blocks) (behind a (env_of scope))

  local_fits : (blocks : List (List Declared)) (scope : List Shape) → Scope blocks scope → (l : Local) → AllRight (stmt_walk (locals l) (environment G S blocks)).nodes → Fits blocks scope (locals l)
  local_fits blocks scope m l r = locals_fit l.type_name r.0.known blocks scope m (map new_local l.declarators) r.1

  start_fits : (blocks : List (List Declared)) (scope : List Shape) → Scope blocks scope → (s : Option ForStart) → AllRight (stmt_walk (if_any (option_map starts s)) (environment G S blocks)).nodes
      → Fits blocks scope (if_any (option_map starts s))
  start_fits blocks scope m None r = (tt, (scope, refl, m))
  start_fits blocks scope m (Some (start.Declare l)) r = local_fits blocks scope m l r
  start_fits blocks scope m (Some (start.Assign a)) r = (assignment_fits blocks scope m a r, (scope, refl, m))

  -- ---- all of them

  prints_fit : (blocks : List (List Declared)) (scope : List Shape) → Scope blocks scope → (ps : List Expr) → AllRight (print_walk ps (environment G S blocks)).nodes → EachFits (env_of scope) ps
  prints_fit blocks scope m [] r = tt
  prints_fit blocks scope m (p ∷ ps) r = (
    flows.expr_fits G S well ms blocks scope m p (every_left Right (expr_nodes (environment G S blocks) p) (print_walk ps (environment G S blocks)).nodes r.1),
    prints_fit blocks scope m ps (every_right Right (expr_nodes (environment G S blocks) p) (print_walk ps (environment G S blocks)).nodes r.1),
  )

  returns_fit : (blocks : List (List Declared)) (scope : List Shape) → Scope blocks scope → (value : Option Expr) → AllRight (exprs_if_any value (environment G S blocks)).nodes → AnyFits (env_of scope) value
  returns_fit blocks scope m None r = tt
  returns_fit blocks scope m (Some p) r = flows.expr_fits G S well ms blocks scope m p r

  mutual
    statement_fits : {f : Does} {a : Stmt} (blocks : List (List Declared)) (scope : List Shape) → Scope blocks scope → Acts f a → AllRight (stmt_walk a (environment G S blocks)).nodes → Fits blocks scope a
    statement_fits blocks scope m (within s) r = (statements_acting_fit ([] ∷ blocks) scope m s r, (scope, refl, m))
    statement_fits blocks scope m (declare l) r = local_fits blocks scope m l r
    statement_fits blocks scope m (assign a) r = (assignment_fits blocks scope m a r, (scope, refl, m))
    statement_fits blocks scope m (call c) r = (flows.call_fits G S well ms blocks scope m (expr_of_call c) r, (scope, refl, m))
    statement_fits blocks scope m (create at t) r = (tt, (scope, refl, m))
    statement_fits blocks scope m (branch {a = a} test s) r =
        let h = environment G S blocks in (
          (
            flows.expr_fits G S well ms blocks scope m (expr_of test) (every_left Right (expr_nodes h (expr_of test)) _ r.1),
            (statement_fits ([] ∷ blocks) scope m s (every_right Right (expr_nodes h (expr_of test)) _ r.1)).0,
          ),
          (scope, refl, m),
        )
    statement_fits blocks scope m (branches {a = a} {b = b} test s u) r =
        let h = environment G S blocks in
        let both = every_right Right (expr_nodes h (expr_of test)) _ r.1 in (
          (
            flows.expr_fits G S well ms blocks scope m (expr_of test) (every_left Right (expr_nodes h (expr_of test)) _ r.1),
            (statement_fits ([] ∷ blocks) scope m s (every_left Right (stmt_walk a (environment G S ([] ∷ blocks))).nodes _ both)).0,
            (statement_fits ([] ∷ blocks) scope m u (every_right Right (stmt_walk a (environment G S ([] ∷ blocks))).nodes (stmt_walk b (environment G S ([] ∷ blocks))).nodes both)).0,
          ),
          (scope, refl, m),
        )
    statement_fits blocks scope m (repeats test s) r =
        let h = environment G S blocks in (
          (
            flows.expr_fits G S well ms blocks scope m (expr_of test) (every_left Right (expr_nodes h (expr_of test)) _ r.1),
            (statement_fits ([] ∷ blocks) scope m s (every_right Right (expr_nodes h (expr_of test)) _ r.1)).0,
          ),
          (scope, refl, m),
        )
    statement_fits blocks scope m (loops {a = a} start test step s) r =
        let first = if_any (option_map starts start) in
        let inner = blocks_after first ([] ∷ blocks) in
        let walked = stmt_walk first (environment G S ([] ∷ blocks)) in
        let begun = start_fits ([] ∷ blocks) scope m start (every_left Right walked.nodes _ r) in
        let behind_start = (begun.1).0 in
        let n = (begun.1).2 in
        let rest : AllRight (loop_nodes (environment G S inner) (expr_of test) (if_any (option_map assigns step)) a) =
        subst (λ h. AllRight (loop_nodes h (expr_of test) (if_any (option_map assigns step)) a)) (after_is G S first ([] ∷ blocks)) (every_right Right walked.nodes _ r) in
        let stepped = stmt_walk (if_any (option_map assigns step)) (environment G S inner) in
        let both = every_right Right (expr_nodes (environment G S inner) (expr_of test)) _ rest.1 in
        let body : AllRight (stmt_walk a (environment G S ([] ∷ inner))).nodes =
        subst (λ h. AllRight (stmt_walk a (in_block h)).nodes) (step_after step (environment G S inner)) (every_right Right stepped.nodes _ both) in (
          (
            begun.0,
            subst (λ env. ExprFits env (expr_of test)) (sym (begun.1).1)
                (flows.expr_fits G S well ms inner behind_start n (expr_of test) (every_left Right (expr_nodes (environment G S inner) (expr_of test)) _ rest.1)),
            subst (λ env. StatementFits env (if_any (option_map assigns step))) (sym (begun.1).1) (step_fits inner behind_start n step (every_left Right stepped.nodes _ both)),
            subst (λ env. StatementFits env a) (sym (begun.1).1) (statement_fits ([] ∷ inner) behind_start n s body).0,
            step_behind step (behind first (env_of scope)),
          ),
          (scope, refl, m),
        )
    statement_fits blocks scope m (print at es) r = (prints_fit blocks scope m (map expr_of es) r.1, (scope, refl, m))
    statement_fits blocks scope m (rtf at value) r = (flows.expr_fits G S well ms blocks scope m (expr_of_flow value) r.1, (scope, refl, m))
    statement_fits blocks scope m (return at value) r = (returns_fit blocks scope m (option_map expr_of value) r.1, (scope, refl, m))
    statement_fits blocks scope m empty r = (tt, (scope, refl, m))

    statements_acting_fit : {fs : List Does} {stmts : Stmts} (blocks : List (List Declared)) (scope : List Shape) → Scope blocks scope → ActsEach fs stmts
        → AllRight (stmts_walk stmts (environment G S blocks)).nodes → StatementsFit (env_of scope) stmts
    statements_acting_fit blocks scope m each.ActsEach.none r = tt
    statements_acting_fit blocks scope m (each.ActsEach.more {a = a} {stmts = stmts} s ss) r =
        let one = statement_fits blocks scope m s (every_left Right (stmt_walk a (environment G S blocks)).nodes _ r) in
        let others = subst (λ h. AllRight (stmts_walk stmts h).nodes) (after_is G S a blocks) (every_right Right (stmt_walk a (environment G S blocks)).nodes _ r) in
        (one.0, subst (λ env. StatementsFit env stmts) (sym (one.1).1) (statements_acting_fit (blocks_after a blocks) (one.1).0 (one.1).2 ss others))

  pub statements_fit : (scope : List Shape) (ts : List Statement) → Scope ([] ∷ []) scope → AllRight (stmts_walk (stmts_from ts) (environment G S ([] ∷ []))).nodes → StatementsFit (env_of scope) (stmts_from ts)
  statements_fit scope ts m r = statements_acting_fit ([] ∷ []) scope m (statements_act ts) r
