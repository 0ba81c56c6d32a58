-- Checked statements are as they are meant.
use Rattle.std.proofs.Common.{◌≡◌, ℕ, zero, suc, ◌+◌, Bool, true, false, List, [], ◌∷◌, length, map, Option, Some, None, if◌then◌else◌, ℤ, refl, ap, sym, subst, ◌∙◌, arith}
use Rattle.std.proofs.lemmas.List.{append-nil}
use Rattle.mpl_ast.specs.declared.statement.TypeName.{TypeName}
use Rattle.mpl_value.specs.Words.{zeros}
use Rattle.mpl_value.specs.declared.body.Arg.{Arg}
use Rattle.mpl_value.specs.declared.body.Arg.TheVariants as arg
use Rattle.mpl_value.specs.declared.body.BodyResult.{BodyResult}
use Rattle.mpl_value.specs.declared.body.BodyResult.TheVariants as result
use Rattle.mpl_mean.specs.Meaning.Context.{Context}
use Rattle.mpl_mean.specs.Meaning.Layout.{dimension_of, words_of}
use Rattle.mpl_mean.specs.Meaning.StatementMeaning.{Does, Effect, give_result, gives_result, line_of, nothing, while_loop}
use Rattle.mpl_mean.specs.Meaning.Store.{Store, Outcome, Goes, Returns, Ends, Step, Variable, ◌>>=◌, ◌>>◌, all_of, declare, in_scope, in_turn, printed, spend}
use Rattle.mpl_mean.specs.Meaning.Values.{Value, is_true}
use Rattle.mpl_mean.specs.Plain.Expr.{Expr}
use Rattle.mpl_mean.specs.Plain.Scopes.{Env, Shape, behind, declares, declares_all}
use Rattle.mpl_mean.specs.Plain.Stmt.{NewLocal, Stmt, Stmts}
use Rattle.mpl_mean.specs.Plain.Stmt as t
use Rattle.mpl_mean.specs.Pending.BodyWays.{each_value, event_of, flow_ways, local_ways, locals_ways, return_ways, stmt_ways, stmts_ways, value_ways}
use Rattle.mpl_mean.specs.Pending.Looseness.{Settles, Loose, Path, behind_path, where_one_is}
use Rattle.mpl_mean.specs.Pending.Paths.{Ways, NoEvent, Only, Then, Either, Loop, Stop, Through, one_way, other_way, leaves, goes_round}
use Rattle.mpl_mean.specs.Pending.Paths as paths
use Rattle.mpl_plain.specs.Arity.{AnyFits, EachFits, LocalsFit, StatementFits, StatementsFit}
use Rattle.mpl_plain.specs.ExprMeaning.{tree_passes, tree_value}
use Rattle.mpl_plain.specs.StmtMeaning.{local_does, tree_does, tree_loop, tree_returns, trees_do}
use Rattle.mpl_checked.specs.Checked.CheckedExpressions.{checked_passes, checked_value}
use Rattle.mpl_checked.specs.Checked.CheckedStatements.{checked_declares, checked_does, checked_each, checked_loop, checked_returned, checked_while}
use Rattle.mpl_checked.specs.Checked.CheckedSteps.{CheckedStep, Checking, ◌>?>◌, checked_all, checked_in_scope, checked_in_turn, meant}
use Rattle.mpl_checked.proofs.Agreeing.{Agrees, Any, Anything, Follows, Keeps, event_agrees, kept, one_agrees, other_agrees, quiet_agrees, quiet_then, then_agrees, then_quiet}
use Rattle.mpl_checked.proofs.AgreeAssignments.{assigns_agree, event_sets}
use Rattle.mpl_checked.proofs.AgreeCalls.{passes_agree, value_agrees}
use Rattle.mpl_checked.proofs.AgreeCreations.{creates_agree}
use Rattle.mpl_checked.proofs.AgreeForms.{Agreeing, Below, Long, Passed, keeps_spend, may_be_loose, more_agree, none_agree}
use Rattle.mpl_checked.proofs.AgreeScopes.{Newer, behind_env, behind_newer, newer_both, scoped_agrees}
use Rattle.mpl_checked.proofs.Covering.{Covers, covers_body, covers_first, covers_one, covers_other, covers_round, covers_second, covers_test}
use Rattle.mpl_checked.proofs.Standing.{Beside, IsKnown, here_is, other_beside}
use Rattle.mpl_checked.proofs.Uses.{env_of}

keeps_gives : (line : ℕ) (a : Arg) (given : BodyResult) (s : Store) → Keeps Anything s (give_result line a given s)
keeps_gives line a result.Open s = (refl, tt)
keeps_gives line a (result.Known known) s = tt
keeps_gives line a result.Unknown s = tt

-- ---- rounds of a loop

abbrev Rounds : Ways → Ways → Ways
Rounds test body = Then test (Either (Then body (Loop test body)) NoEvent)

round_through : {test body : Ways} {path : Path} → Through (Rounds test body) path → Through (Loop test body) path
round_through (paths.in_turn first (one_way (paths.in_turn second rest))) = goes_round first second rest
round_through {test} {body} (paths.in_turn {p = p} first (other_way paths.nothing)) = subst (λ path. Through (Loop test body) path) (sym (append-nil p)) (leaves first)

round_follows : {A : Type 0} (test body : Ways) (scope : List Shape) (loose : Loose) (P : Loose → A → Type 0) (o : Outcome A) → Follows (Rounds test body) scope loose P o → Follows (Loop test body) scope loose P o
round_follows test body scope loose P (Goes a s) f = (f.0, round_through f.1, f.2, f.3)
round_follows test body scope loose P (Returns words s) f = tt
round_follows test body scope loose P (Ends e s) f = tt

abbrev pub behind_all : Stmts → Env → Env
behind_all t.NoStmt env = env
behind_all (t.MoreStmts stmt stmts) env = behind_all stmts (behind stmt env)

module _ (checking : Checking) (c : Context) (below : Below checking c) where
  -- from each store that stands by a scope it is as it is meant, and stands by a later scope
  abbrev DoesSo : List Shape → Ways → List Shape → CheckedStep (Unit {0}) → Effect → Type 0
  DoesSo scope ways later k o = (loose : Loose) (s : Store) → Covers checking.marks ways loose → Beside loose scope s.variables → Agrees ways later loose Any (k s) (o s)

  -- ---- locals

  declared_beside : (loose : Loose) (scope : List Shape) (vs : List Variable) (type : TypeName) (local : NewLocal) (a : Arg) (b : Bool) → (b ≡ false → IsKnown a) → Beside loose scope vs
      → Beside (where_one_is (length scope) b loose) (record { name = local.name.text; type = type; dimension = dimension_of local.dimension } ∷ scope)
      (record { name = local.name.text; type = type; dimension = dimension_of local.dimension; holds = a } ∷ vs)
  declared_beside loose scope vs type local a b known beside =
      (record { name = refl; type = refl; known = λ off. known (sym (here_is (length scope) b loose) ∙ off) }, other_beside (length scope) b loose scope vs (omega arith) beside)

  local_agrees : (scope : List Shape) (type : TypeName) (local : NewLocal) (initialiser : Option Expr) → AnyFits (env_of c scope) initialiser
      → DoesSo scope (local_ways (env_of c scope) initialiser) (declares type local (env_of c scope)).scope
      (checked_declares checking c type (record { name = local.name; dimension = local.dimension; initialiser = initialiser }))
      (local_does type (record { name = local.name; dimension = local.dimension; initialiser = initialiser }) c)
  local_agrees scope type local None fits loose s covers beside =
      let words : List ℤ = zeros (words_of c.declarations type (dimension_of local.dimension)) in
      event_agrees (Settles (length scope)) (declares type local (env_of c scope)).scope loose Any _ _
      (record { same = refl; stays = (declared_beside loose scope s.variables type local (arg.Know words) false (λ _. tt) beside, tt) })
  local_agrees scope type local (Some expr) fits loose s covers beside =
      let env : Env = env_of c scope in
      then_agrees (flow_ways env expr) (Only (event_of env (length scope) expr)) scope (declares type local env).scope loose (Passed env expr) Any (checked_passes checking expr c s) (tree_passes expr c s)
      (λ holds. meant (declare (record { name = local.name.text; type = type; dimension = dimension_of local.dimension; holds = holds })))
      (λ holds. declare (record { name = local.name.text; type = type; dimension = dimension_of local.dimension; holds = holds }))
      (passes_agree checking c below scope expr fits loose s (covers_first covers) beside)
      (λ holds s1 path through beside1 told.
      event_agrees (event_of env (length scope) expr) (declares type local env).scope (behind_path path loose) Any _ _
      (record {
        same = refl;
        stays = (
          subst (λ l. Beside l (declares type local env).scope (record { name = local.name.text; type = type; dimension = dimension_of local.dimension; holds = holds } ∷ s1.variables))
              (sym (event_sets env (length scope) expr (behind_path path loose)))
              (declared_beside (behind_path path loose) scope s1.variables type local holds (may_be_loose env (behind_path path loose) expr) told beside1),
          tt,
        );
      }))

  locals_agree : (type : TypeName) (locals : List NewLocal) (scope : List Shape) → LocalsFit (env_of c scope) type locals
      → DoesSo scope (locals_ways (env_of c scope) type locals) (declares_all type locals (env_of c scope)).scope (checked_in_turn (map (checked_declares checking c type) locals)) (in_turn (map (λ new. local_does type new c) locals))
  locals_agree type [] scope fits loose s covers beside = quiet_agrees (record { same = refl; stays = (beside, tt) })
  locals_agree type (local ∷ locals) scope fits loose s covers beside =
      let env : Env = env_of c scope in
      then_agrees (local_ways env local.initialiser) (locals_ways (declares type local env) type locals) (declares type local env).scope (declares_all type locals (declares type local env)).scope loose Any Any
      (checked_declares checking c type local s) (local_does type local c s) (λ _. checked_in_turn (map (checked_declares checking c type) locals)) (λ _. in_turn (map (λ new. local_does type new c) locals))
      (local_agrees scope type local local.initialiser fits.0 loose s (covers_first covers) beside)
      (λ u s1 path through beside1 _. locals_agree type locals (declares type local env).scope fits.1 (behind_path path loose) s1 (covers_second covers path through) beside1)

  -- ---- loops

  loop_agrees : (scope : List Shape) (test body : Ways) (kt : CheckedStep Value) (ot : Step Value) (kb : CheckedStep (Unit {0})) (ob : Effect) → Agreeing checking c scope Any test kt ot → DoesSo scope body scope kb ob
      → (fuel turns : ℕ) → DoesSo scope (Loop test body) scope (checked_while fuel turns kt kb) (while_loop fuel turns ot ob)
  loop_agrees scope test body kt ot kb ob on_test on_body zero turns loose s covers beside = record { same = refl; follows = tt }
  loop_agrees scope test body kt ot kb ob on_test on_body (suc fuel) turns loose s covers beside =
      quiet_then (Loop test body) scope scope loose Any Any (meant (spend turns) s) (spend turns s)
      (λ _. kt >?> (λ value. if is_true value then (kb >?> (λ _. checked_while fuel turns kt kb)) else meant nothing))
      (λ _. ot >>= (λ value. if is_true value then (ob >> while_loop fuel turns ot ob) else nothing))
      (kept scope loose Anything s (spend turns s) beside (keeps_spend turns s))
      (λ u s1 beside1 _.
      let is = then_agrees test (Either (Then body (Loop test body)) NoEvent) scope scope loose Any Any (kt s1) (ot s1)
      (λ value. if is_true value then (kb >?> (λ _. checked_while fuel turns kt kb)) else meant nothing)
      (λ value. if is_true value then (ob >> while_loop fuel turns ot ob) else nothing)
      (on_test loose s1 (covers_test covers) beside1)
      (λ value s2 path through beside2 _. by_test (is_true value) s2 path through beside2
      (loop_agrees scope test body kt ot kb ob on_test on_body fuel turns)) in
      record { same = is.same; follows = round_follows test body scope loose Any ((ot >>= (λ value. if is_true value then (ob >> while_loop fuel turns ot ob) else nothing)) s1) is.follows }) where
        by_test : (b : Bool) (s2 : Store) (path : Path) → Through test path → Beside (behind_path path loose) scope s2.variables → DoesSo scope (Loop test body) scope (checked_while fuel turns kt kb) (while_loop fuel turns ot ob)
            → Agrees (Either (Then body (Loop test body)) NoEvent) scope (behind_path path loose) Any ((if b then (kb >?> (λ _. checked_while fuel turns kt kb)) else meant nothing) s2)
            ((if b then (ob >> while_loop fuel turns ot ob) else nothing) s2)
        by_test false s2 path through beside2 next = other_agrees (quiet_agrees (record { same = refl; stays = (beside2, tt) }))
        by_test true s2 path through beside2 next =
            one_agrees (then_agrees body (Loop test body) scope scope (behind_path path loose) Any Any (kb s2) (ob s2) (λ _. checked_while fuel turns kt kb) (λ _. while_loop fuel turns ot ob)
            (on_body (behind_path path loose) s2 (covers_body covers path through) beside2)
            (λ u s3 round passed beside3 _. next (behind_path round (behind_path path loose)) s3 (covers_round covers path round through passed) beside3))

  -- ---- lists of values, and what becomes of one

  each_agrees : (scope : List Shape) (exprs : List Expr) → EachFits (env_of c scope) exprs
      → Agreeing checking c scope (Long (length exprs)) (each_value (env_of c scope) exprs) (checked_all (map (λ expr. checked_value checking expr c) exprs)) (all_of (map (λ expr. tree_value expr c) exprs))
  each_agrees scope [] fits = none_agree checking c scope
  each_agrees scope (expr ∷ exprs) fits =
      more_agree checking c scope (value_ways (env_of c scope) expr) (each_value (env_of c scope) exprs) Any (length exprs) (checked_value checking expr c) (map (λ expr. checked_value checking expr c) exprs)
      (tree_value expr c) (map (λ expr. tree_value expr c) exprs) (value_agrees checking c below scope expr fits.0) (each_agrees scope exprs fits.1)

  prints_agree : (scope : List Shape) (exprs : List Expr) → EachFits (env_of c scope) exprs
      → DoesSo scope (each_value (env_of c scope) exprs) scope (checked_all (map (λ expr. checked_value checking expr c) exprs) >?> (λ vs. meant (printed (line_of vs))))
      (all_of (map (λ expr. tree_value expr c) exprs) >>= (λ vs. printed (line_of vs)))
  prints_agree scope exprs fits loose s covers beside =
      then_quiet (each_value (env_of c scope) exprs) scope scope loose (Long (length exprs)) Any (checked_all (map (λ expr. checked_value checking expr c) exprs) s) (all_of (map (λ expr. tree_value expr c) exprs) s)
      (λ vs. meant (printed (line_of vs))) (λ vs. printed (line_of vs)) (each_agrees scope exprs fits loose s covers beside) (λ vs s1 later beside1 _. record { same = refl; stays = (beside1, tt) })

  flow_quiet : (scope : List Shape) (expr : Expr) (h : Arg → Effect) → StatementFits (env_of c scope) (t.Calls expr) → ((a : Arg) (s : Store) → Keeps Anything s (h a s))
      → DoesSo scope (flow_ways (env_of c scope) expr) scope (checked_passes checking expr c >?> (λ a. meant (h a))) (tree_passes expr c >>= h)
  flow_quiet scope expr h fits keeps loose s covers beside =
      then_quiet (flow_ways (env_of c scope) expr) scope scope loose (Passed (env_of c scope) expr) Any (checked_passes checking expr c s) (tree_passes expr c s) (λ a. meant (h a)) h
      (passes_agree checking c below scope expr fits loose s covers beside) (λ a s1 later beside1 _. kept scope later Anything s1 (h a s1) beside1 (keeps a s1))

  returns_agree : (scope : List Shape) (expr : Option Expr) → AnyFits (env_of c scope) expr → DoesSo scope (return_ways (env_of c scope) expr) scope (checked_returned checking expr c) (tree_returns expr c)
  returns_agree scope None fits loose s covers beside = record { same = refl; follows = tt }
  returns_agree scope (Some expr) fits loose s covers beside =
      then_agrees (value_ways (env_of c scope) expr) Stop scope scope loose Any Any (checked_value checking expr c s) (tree_value expr c s) (λ v. meant (λ store. Returns v.words store)) (λ v store. Returns v.words store)
      (value_agrees checking c below scope expr fits loose s (covers_first covers) beside) (λ v s1 path through beside1 _. record { same = refl; follows = tt })

  -- ---- the forms

  either_agrees : (scope : List Shape) (test : Expr) → StatementFits (env_of c scope) (t.Calls test) → (one other : Ways) (k1 k2 : CheckedStep (Unit {0})) (o1 o2 : Effect) → DoesSo scope one scope k1 o1 → DoesSo scope other scope k2 o2
      → DoesSo scope (Then (value_ways (env_of c scope) test) (Either one other)) scope (checked_value checking test c >?> (λ v. if is_true v then k1 else k2)) (tree_value test c >>= (λ v. if is_true v then o1 else o2))
  either_agrees scope test fits one other k1 k2 o1 o2 on_one on_other loose s covers beside =
      then_agrees (value_ways (env_of c scope) test) (Either one other) scope scope loose Any Any (checked_value checking test c s) (tree_value test c s) (λ v. if is_true v then k1 else k2) (λ v. if is_true v then o1 else o2)
      (value_agrees checking c below scope test fits loose s (covers_first covers) beside)
      (λ v s1 path through beside1 _. by_test (is_true v) (behind_path path loose) s1 (covers_second covers path through) beside1) where
        by_test : (b : Bool) (later : Loose) (s1 : Store) → Covers checking.marks (Either one other) later → Beside later scope s1.variables
            → Agrees (Either one other) scope later Any ((if b then k1 else k2) s1) ((if b then o1 else o2) s1)
        by_test true later s1 covers1 beside1 = one_agrees (on_one later s1 (covers_one covers1) beside1)
        by_test false later s1 covers1 beside1 = other_agrees (on_other later s1 (covers_other covers1) beside1)

  nothing_agrees : (scope : List Shape) → DoesSo scope NoEvent scope (meant nothing) nothing
  nothing_agrees scope loose s covers beside = quiet_agrees (record { same = refl; stays = (beside, tt) })

  scoped : (scope later : List Shape) (ways : Ways) (k : CheckedStep (Unit {0})) (o : Effect) → Newer scope later → DoesSo scope ways later k o → DoesSo scope ways scope (checked_in_scope k) (in_scope o)
  scoped scope later ways k o newer on loose s covers beside = scoped_agrees ways scope later loose k o s newer beside (on loose s covers beside)

  two_do : (scope mid later : List Shape) (first second : Ways) (k1 k2 : CheckedStep (Unit {0})) (o1 o2 : Effect) → DoesSo scope first mid k1 o1 → DoesSo mid second later k2 o2
      → DoesSo scope (Then first second) later (k1 >?> (λ _. k2)) (o1 >> o2)
  two_do scope mid later first second k1 k2 o1 o2 on_first on_second loose s covers beside =
      then_agrees first second mid later loose Any Any (k1 s) (o1 s) (λ _. k2) (λ _. o2) (on_first loose s (covers_first covers) beside)
      (λ u s1 path through beside1 _. on_second (behind_path path loose) s1 (covers_second covers path through) beside1)

  loops_agree : (first : Stmt) (test : Expr) (step body : Stmt) (scope : List Shape) → DoesSo scope (stmt_ways (env_of c scope) first) (behind first (env_of c scope)).scope (checked_does checking first c) (tree_does first c)
      → behind first (env_of c scope) ≡ env_of c (behind first (env_of c scope)).scope → StatementFits (behind first (env_of c scope)) (t.Calls test)
      → (StatementFits (env_of c (behind first (env_of c scope)).scope) step → DoesSo (behind first (env_of c scope)).scope (stmt_ways (env_of c (behind first (env_of c scope)).scope) step)
      (behind step (env_of c (behind first (env_of c scope)).scope)).scope (checked_does checking step c) (tree_does step c))
      → (StatementFits (env_of c (behind first (env_of c scope)).scope) body → DoesSo (behind first (env_of c scope)).scope (stmt_ways (env_of c (behind first (env_of c scope)).scope) body)
      (behind body (env_of c (behind first (env_of c scope)).scope)).scope (checked_does checking body c) (tree_does body c))
      → StatementFits (behind first (env_of c scope)) step → StatementFits (behind first (env_of c scope)) body → behind step (behind first (env_of c scope)) ≡ behind first (env_of c scope)
      → DoesSo scope (stmt_ways (env_of c scope) (t.Loops first test step body)) scope (checked_does checking (t.Loops first test step body) c) (tree_does (t.Loops first test step body) c)
  loops_agree first test step body scope on_first is fits_test on_step on_body fits_step fits_body none =
      let mid : List Shape = (behind first (env_of c scope)).scope in
      let env : Env = env_of c mid in
      let declares_none : (behind step env).scope ≡ mid = ap (λ env. env.scope) (ap (behind step) (sym is) ∙ none) in
      let steps : DoesSo mid (stmt_ways env step) mid (checked_does checking step c) (tree_does step c) =
      subst (λ later. DoesSo mid (stmt_ways env step) later (checked_does checking step c) (tree_does step c)) declares_none (on_step (subst (λ env. StatementFits env step) is fits_step)) in
      let bodies : DoesSo mid (stmt_ways env body) mid (checked_in_scope (checked_does checking body c)) (in_scope (tree_does body c)) =
      scoped mid (behind body env).scope (stmt_ways env body) (checked_does checking body c) (tree_does body c) (behind_newer c body mid) (on_body (subst (λ env. StatementFits env body) is fits_body)) in
      let round = two_do mid mid mid (stmt_ways env body) (stmt_ways env step) (checked_in_scope (checked_does checking body c)) (checked_does checking step c) (in_scope (tree_does body c)) (tree_does step c) bodies steps in
      let loops : DoesSo mid (Loop (value_ways env test) (Then (stmt_ways env body) (stmt_ways env step))) mid
      (checked_loop checking c test (checked_in_scope (checked_does checking body c) >?> (λ _. checked_does checking step c))) (tree_loop c test (in_scope (tree_does body c) >> tree_does step c)) =
      loop_agrees mid (value_ways env test) (Then (stmt_ways env body) (stmt_ways env step)) (checked_value checking test c) (tree_value test c) _ _
      (value_agrees checking c below mid test (subst (λ env. StatementFits env (t.Calls test)) is fits_test)) round (c.turns + 1) c.turns in
      let behind_first = subst (λ env. DoesSo mid (Loop (value_ways env test) (Then (stmt_ways env body) (stmt_ways env step))) mid
      (checked_loop checking c test (checked_in_scope (checked_does checking body c) >?> (λ _. checked_does checking step c))) (tree_loop c test (in_scope (tree_does body c) >> tree_does step c))) (sym is) loops in
      scoped scope mid (stmt_ways (env_of c scope) (t.Loops first test step body)) _ _ (behind_newer c first scope)
      (two_do scope mid mid (stmt_ways (env_of c scope) first) (Loop (value_ways (behind first (env_of c scope)) test) (Then (stmt_ways (behind first (env_of c scope)) body) (stmt_ways (behind first (env_of c scope)) step)))
      (checked_does checking first c) _ (tree_does first c) _ on_first behind_first)

  mutual
    pub stmt_agrees : (stmt : Stmt) (scope : List Shape) → StatementFits (env_of c scope) stmt
        → DoesSo scope (stmt_ways (env_of c scope) stmt) (behind stmt (env_of c scope)).scope (checked_does checking stmt c) (tree_does stmt c)
    stmt_agrees t.Nothing scope fits = nothing_agrees scope
    stmt_agrees (t.Within stmts) scope fits =
        let inner = stmts_agree stmts scope fits in
        scoped scope (behind_all stmts (env_of c scope)).scope (stmts_ways (env_of c scope) stmts) (checked_in_turn (checked_each checking stmts c)) (in_turn (map (λ (does : Does). does c) (trees_do stmts))) inner.1 inner.0
    stmt_agrees (t.Locals type locals) scope fits = locals_agree type locals scope fits
    stmt_agrees (t.Assigns at place expr) scope fits = assigns_agree checking c below scope place expr fits.0 fits.1
    stmt_agrees (t.Calls call) scope fits = flow_quiet scope call (λ _. nothing) fits (λ a s. (refl, tt))
    stmt_agrees (t.Creates at target) scope fits = creates_agree checking c scope at.id target
    stmt_agrees (t.When test then_part) scope fits =
        either_agrees scope test fits.0 (stmt_ways (env_of c scope) then_part) NoEvent (checked_in_scope (checked_does checking then_part c)) (meant nothing) (in_scope (tree_does then_part c)) nothing
        (scoped scope _ (stmt_ways (env_of c scope) then_part) (checked_does checking then_part c) (tree_does then_part c) (behind_newer c then_part scope) (stmt_agrees then_part scope fits.1)) (nothing_agrees scope)
    stmt_agrees (t.Branches test then_part else_part) scope fits =
        either_agrees scope test fits.0 (stmt_ways (env_of c scope) then_part) (stmt_ways (env_of c scope) else_part) (checked_in_scope (checked_does checking then_part c)) (checked_in_scope (checked_does checking else_part c))
        (in_scope (tree_does then_part c)) (in_scope (tree_does else_part c))
        (scoped scope _ (stmt_ways (env_of c scope) then_part) (checked_does checking then_part c) (tree_does then_part c) (behind_newer c then_part scope) (stmt_agrees then_part scope fits.1))
        (scoped scope _ (stmt_ways (env_of c scope) else_part) (checked_does checking else_part c) (tree_does else_part c) (behind_newer c else_part scope) (stmt_agrees else_part scope fits.2))
    stmt_agrees (t.Repeats test body) scope fits =
        loop_agrees scope (value_ways (env_of c scope) test) (stmt_ways (env_of c scope) body) (checked_value checking test c) (tree_value test c) (checked_in_scope (checked_does checking body c)) (in_scope (tree_does body c))
        (value_agrees checking c below scope test fits.0)
        (scoped scope _ (stmt_ways (env_of c scope) body) (checked_does checking body c) (tree_does body c) (behind_newer c body scope) (stmt_agrees body scope fits.1)) (c.turns + 1) c.turns
    stmt_agrees (t.Loops first test step body) scope fits =
        loops_agree first test step body scope (stmt_agrees first scope fits.0) (behind_env c first scope) fits.1 (stmt_agrees step (behind first (env_of c scope)).scope) (stmt_agrees body (behind first (env_of c scope)).scope)
        fits.2 fits.3 fits.4
    stmt_agrees (t.Prints at exprs) scope fits = prints_agree scope exprs fits
    stmt_agrees (t.Gives at expr) scope fits = flow_quiet scope expr (gives_result at.line) fits (λ a s. keeps_gives at.line a s.result s)
    stmt_agrees (t.Returns at expr) scope fits = returns_agree scope expr fits

    pub stmts_agree : (stmts : Stmts) (scope : List Shape) → StatementsFit (env_of c scope) stmts
        → DoesSo scope (stmts_ways (env_of c scope) stmts) (behind_all stmts (env_of c scope)).scope (checked_in_turn (checked_each checking stmts c)) (in_turn (map (λ (does : Does). does c) (trees_do stmts))) × Newer scope (behind_all stmts (env_of c scope)).scope
    stmts_agree t.NoStmt scope fits = (nothing_agrees scope, ([], refl))
    stmts_agree (t.MoreStmts stmt stmts) scope fits =
        let mid : List Shape = (behind stmt (env_of c scope)).scope in
        let is = behind_env c stmt scope in
        let rest = subst (λ env. DoesSo mid (stmts_ways env stmts) (behind_all stmts env).scope (checked_in_turn (checked_each checking stmts c)) (in_turn (map (λ (does : Does). does c) (trees_do stmts))) × Newer mid (behind_all stmts env).scope)
        (sym is) (stmts_agree stmts mid (subst (λ env. StatementsFit env stmts) is fits.1)) in (
          two_do scope mid (behind_all stmts (behind stmt (env_of c scope))).scope (stmt_ways (env_of c scope) stmt) (stmts_ways (behind stmt (env_of c scope)) stmts) (checked_does checking stmt c)
              (checked_in_turn (checked_each checking stmts c)) (tree_does stmt c) (in_turn (map (λ (does : Does). does c) (trees_do stmts))) (stmt_agrees stmt scope fits.0) rest.0,
          newer_both scope mid (behind_all stmts (behind stmt (env_of c scope))).scope (behind_newer c stmt scope) rest.1,
        )
