-- The code of statements is safe in a frame alone, where it is safe behind it and the uses ahead are marked where their
-- variables are loose.
use Rattle.std.proofs.Common.{◌≡◌, ◌≤◌, ℕ, zero, suc, ◌+◌, Bool, true, List, [], ◌∷◌, length, map, Option, Some, None, ℤ, refl, ap, sym, subst, arith, ◌∙◌}
use Rattle.std.proofs.lemmas.List.{length-map}
use Rattle.std.specs.List.{slice_get, slice_set}
use Rattle.mpl_ast.specs.declared.place.At.{At as Node}
use Rattle.mpl_ast.specs.declared.statement.TypeName.{TypeName}
use Rattle.mpl_value.specs.Words.{zeros}
use Rattle.mpl_mean.specs.Pending.BodyWays.{event_of, flow_ways, local_ways, locals_ways, return_ways, stmt_ways, stmts_ways, value_ways}
use Rattle.mpl_mean.specs.Pending.Looseness.{Event, Settles}
use Rattle.mpl_mean.specs.Pending.Paths.{Ways}
use Rattle.mpl_mean.specs.Pending.Paths as paths
use Rattle.mpl_mean.specs.Plain.Expr.{Expr}
use Rattle.mpl_mean.specs.Plain.Expr as e
use Rattle.mpl_mean.specs.Plain.Scopes as plain
use Rattle.mpl_mean.specs.Plain.Stmt.{NewLocal, Stmt, Stmts}
use Rattle.mpl_mean.specs.Plain.Stmt as form
use Rattle.mdf_code.specs.Alone.{Held, Words}
use Rattle.mdf_code.specs.Frames as frames
use Rattle.mdf_code.specs.Parts.{is_place}
use Rattle.mdf_code.specs.Stacks.{pushed}
use Rattle.mdf_code.specs.declared.instr.Instr.TheVariants as instr
use Rattle.mpl_gen_code.specs.ExpressionCode.{flow_code, value_code}
use Rattle.mpl_gen_code.specs.Fits.{GivesWords, InitialFits, LocalsFit, May, ReturnsFit, StmtFits, StmtsFit, TestFits}
use Rattle.mpl_gen_code.specs.Pieces.{Piece, all_joined, either, followed_by, joined, loop, one, unless_zero}
use Rattle.mpl_gen_code.specs.Scopes.{Env, Finish, OfBody, OfFunction, Slot, words_of_shape}
use Rattle.mpl_gen_code.specs.StatementCode.{behind, behind_all, behind_block, declares, declares_all, initial_code, letter, letters_of, locals_code, return_code, shape_of_local, stmt_code, stmts_code}
use Rattle.mpl_gen_code.specs.Words.{is_bool_expr, words_of_expr}
use Rattle.mpl_gen_code.proofs.Behind.{grown, grown_all, well_behind}
use Rattle.mpl_gen_code.proofs.Compiled.{Compiled}
use Rattle.mpl_gen_code.proofs.Fronts.{front, front_all, front_declares, front_more, front_then}
use Rattle.mpl_gen_code.proofs.Locals.{Ready}
use Rattle.mpl_gen_code.proofs.Places.{Followed, Joined, Way, from_either, from_followed, from_joined, from_unless, no_back}
use Rattle.mpl_gen_code.proofs.Reaching.{From}
use Rattle.mpl_gen_code.proofs.Scoped.{IsFrontOf, WellScoped, got_in_front}
use Rattle.mpl_gen_code.proofs.Storing.{apart_next, assigns_same, at_scope, got_last, out_same, same_behind, well_more}
use Rattle.mpl_gen_laws.specs.SafeFrames.{HeldFits}
use Rattle.mpl_gen_laws.proofs.LooseWays.{loop_then, one_then, other_then}
use Rattle.mpl_gen_laws.proofs.Loosened.{behind_seen, block_seen, plain_env, shape_in}
use Rattle.mpl_gen_laws.proofs.SafeAhead.{Ahead, IsInto, TakesAs, ahead_by, ahead_in_turn, ahead_later, ahead_one, ahead_other, ahead_outside, ahead_skip, event_into, past_new}
use Rattle.mpl_gen_laws.proofs.SafeAssignments.{assigns_follow, creates_follow, element_assigned, takes_flow}
use Rattle.mpl_gen_laws.proofs.SafeExpressions.{BehindWord, Called, InScope, MayIn, expr_follows, jumps, jumps_by, one_of}
use Rattle.mpl_gen_laws.proofs.SafeFlows.{flow_follows}
use Rattle.mpl_gen_laws.proofs.SafeLeaves.{FinishesIn, each_follows, prints, returns}
use Rattle.mpl_gen_laws.proofs.SafeSteps.{At, Is, Later, Onward, Run, Scene, VarsFit, all_sizes, frame, later_then, performs, text, zip_get}
use Rattle.mpl_gen_laws.proofs.SafeStores.{clears, drops, ends, gives}

module _ (C : Scene) (may : May) (outer : Env) (allowed : MayIn C may outer.parts) (N : ℕ) (below : (m : ℕ) → m ≤ N → Called C outer.declarations m)
    (marks : ℕ → Bool) (compiled : Compiled C.image outer.declarations marks) (B : Run C) (finishes : FinishesIn C N B outer.finish) where
  abbrev Inside : ℕ → Type 0
  Inside q = (k : ℕ) → k ≤ q → is_place C.image C.code k ≡ true

  before : (q m : ℕ) → m ≤ q → Inside q → Inside m
  before q m h up k le = up k (omega (arith, h, le))

  abbrev at : List Slot → List ℕ → Env
  at scope known = at_scope outer scope known

  abbrev pub IsReady : Env → Env → Type 0
  IsReady env behind_it = Ready outer.declarations (all_sizes C) env behind_it

  in_scope : (scope : List Slot) (known : List ℕ) → WellScoped outer.declarations known scope → IsFrontOf known (all_sizes C) → InScope C (at scope known)
  in_scope scope known well f = record { sizes = f; scope = well }

  abbrev Here : List Slot → Run C → List Held → Ways → Type 0
  Here scope D vs ways = Ahead C outer.marks scope D vs ways

  -- behind a statement, with what lies ahead there
  abbrev pub Then : ℕ → ℕ → List Slot → Ways → Type 0
  Then n q scope rest = (m : ℕ) → m ≤ n → (E : Run C) → Later C B E → (us : List Held) → Ahead C outer.marks scope E us rest → At C m E q [] [] us

  abbrev pub FollowsAt : Env → Stmt → Type 0
  FollowsAt env stmt = (n : ℕ) → n ≤ N → (D : Run C) → Later C B D → (p q : ℕ) (vs : List Held) → From (text C) p (stmt_code env stmt p) q → Inside q → StmtFits may env stmt → IsReady env (behind stmt env)
      → (rest : Ways) → Ahead C outer.marks env.scope D vs (paths.Then (stmt_ways (plain_env env) stmt) rest) → Then n q (behind stmt env).scope rest → At C n D p [] [] vs

  abbrev pub Follows : Stmt → Type 0
  Follows stmt = (scope : List Slot) (known : List ℕ) → FollowsAt (at scope known) stmt

  anywhere : (stmt : Stmt) → Follows stmt → (env : Env) → env ≡ at env.scope env.sizes → FollowsAt env stmt
  anywhere stmt f env e = subst (λ env. FollowsAt env stmt) (sym e) (f env.scope env.sizes)

  abbrev pub FollowsAllAt : Env → Stmts → Type 0
  FollowsAllAt env stmts = (n : ℕ) → n ≤ N → (D : Run C) → Later C B D → (p q : ℕ) (vs : List Held) → From (text C) p (stmts_code env stmts p) q → Inside q → StmtsFit may env stmts → IsReady env (behind_all stmts env)
      → (rest : Ways) → Ahead C outer.marks env.scope D vs (paths.Then (stmts_ways (plain_env env) stmts) rest) → Then n q (behind_all stmts env).scope rest → At C n D p [] [] vs

  abbrev pub FollowsAll : Stmts → Type 0
  FollowsAll stmts = (scope : List Slot) (known : List ℕ) → FollowsAllAt (at scope known) stmts

  all_anywhere : (stmts : Stmts) → FollowsAll stmts → (env : Env) → env ≡ at env.scope env.sizes → FollowsAllAt env stmts
  all_anywhere stmts f env e = subst (λ env. FollowsAllAt env stmts) (sym e) (f env.scope env.sizes)

  at_once : (n : ℕ) (D : Run C) → Later C B D → (p q : ℕ) (vs : List Held) → p ≡ q → (scope : List Slot) (rest : Ways) → Here scope D vs (paths.Then paths.NoEvent rest) → Then n q scope rest → At C n D p [] [] vs
  at_once n D later p q vs same scope rest a h = subst (λ r. At C n D r [] [] vs) (sym same) (h n (omega arith) D later vs (ahead_skip C outer.marks scope D vs rest a))

  -- what is declared in a block is out of scope behind it
  outside : (env : Env) (stmt : Stmt) (n q : ℕ) (rest : Ways) → Then n q env.scope rest → Then n q (behind stmt env).scope rest
  outside env stmt n q rest h m le E after us a =
      let g = grown stmt env in h m le E after us (ahead_outside C outer.marks g.newer env.scope E us rest (subst (λ scope. Here scope E us rest) g.is a))

  outside_all : (env : Env) (stmts : Stmts) (n q : ℕ) (rest : Ways) → Then n q env.scope rest → Then n q (behind_all stmts env).scope rest
  outside_all env stmts n q rest h m le E after us a =
      let g = grown_all stmts env in h m le E after us (ahead_outside C outer.marks g.newer env.scope E us rest (subst (λ scope. Here scope E us rest) g.is a))

  -- ---- locals

  abbrev pub LocalsFollow : TypeName → List NewLocal → Type 0
  LocalsFollow type locals = (scope : List Slot) (known : List ℕ) (n : ℕ) → n ≤ N → (D : Run C) → Later C B D → (p q : ℕ) (vs : List Held) → From (text C) p (locals_code (at scope known) type locals p) q → Inside q → LocalsFit may (at scope known) type locals
      → IsReady (at scope known) (declares_all type locals (at scope known)) → (rest : Ways) → Ahead C outer.marks scope D vs (paths.Then (locals_ways (plain_env (at scope known)) type locals) rest)
      → Then n q (declares_all type locals (at scope known)).scope rest → At C n D p [] [] vs

  local_follows : (type : TypeName) (local : NewLocal) (locals : List NewLocal) → LocalsFollow type locals → LocalsFollow type (local ∷ locals)
  local_follows type local locals others scope known n few D later p q vs from up fits ready rest a h =
      by_initial local.initialiser parts.first fits.0 (ahead_in_turn C outer.marks scope D vs (local_ways (plain_env env) local.initialiser) others_ways rest a) where
        env : Env
        env = at scope known

        next : Env
        next = declares type local env

        others_ways : Ways
        others_ways = locals_ways (plain_env (declares type local (at scope known))) type locals

        slot : Slot
        slot = record { number = length known; shape = shape_of_local type local }

        parts : Joined (text C) (initial_code env local.initialiser) (locals_code next type locals) p q
        parts = from_joined (text C) (initial_code env local.initialiser) (locals_code next type locals) p q from

        here_front : IsFrontOf next.sizes (all_sizes C)
        here_front = front_then (front_declares type locals next) ready.fronts

        size : slice_get (all_sizes C) (length known) ≡ Some (words_of_shape outer.declarations (shape_of_local type local))
        size = ap (λ (all : List ℕ). slice_get all (length known)) here_front.is ∙ got_in_front next.sizes here_front.rest (length known) _ (got_last known _)

        number_is : length (map shape_in scope) ≡ length scope
        number_is = length-map scope shape_in

        go_on : (m : ℕ) → m ≤ n → (E : Run C) → Later C B E → (us : List Held) → Ahead C outer.marks (declares type local (at scope known)).scope E us (paths.Then others_ways rest) → At C m E parts.middle [] [] us
        go_on m le E after us ahead =
            others next.scope next.sizes m (omega (arith, le, few)) E after parts.middle q us parts.second up fits.1
            (record { well = well_behind (form.Locals type (local ∷ [])) env ready.well; fronts = ready.fronts }) rest ahead
            (λ j less F more ts behind. h j (omega (arith, le, less)) F more ts behind)

        -- the new variable takes this
        declared : (E : Run C) (v : Held) (event : Event) → VarsFit C vs → VarsFit C (slice_set vs (length known) v) → IsInto (length scope) event → TakesAs E.knows scope vs v event
            → Here scope E vs (paths.Then (paths.Only event) (paths.Then others_ways rest)) → Here (slot ∷ scope) E (slice_set vs (length known) v) (paths.Then others_ways rest)
        declared E v event fit fit_now is takes ahead =
            past_new C outer.marks scope E vs slot v event (paths.Then others_ways rest) (apart_next outer.declarations known scope ready.well)
            ((zip_get (HeldFits C.sizes) (all_sizes C) vs (length known) (words_of_shape outer.declarations (shape_of_local type local)) fit size).3) fit_now is takes ahead

        by_initial : (o : Option Expr) → From (text C) p (initial_code env o p) parts.middle → InitialFits may env (words_of_shape outer.declarations (shape_of_local type local)) o
            → Here scope D vs (paths.Then (local_ways (plain_env env) o) (paths.Then others_ways rest)) → At C n D p [] [] vs
        by_initial None from fits ahead =
            let blank = zeros (words_of_shape outer.declarations (shape_of_local type local)) in
            clears C n D p [] [] vs (length known) (words_of_shape outer.declarations (shape_of_local type local)) from.0 size ahead.fit
            (λ fit_now m less.
            let there : p + 1 ≡ parts.middle = from.1 in
            subst (λ r. At C m D r [] [] (slice_set vs (length known) (Words (zeros (words_of_shape outer.declarations (shape_of_local type local)))))) (sym there)
            (go_on m (omega (arith, less)) D later (slice_set vs (length known) (Words blank))
            (declared D (Words blank) (Settles (length (map shape_in scope))) ahead.fit fit_now number_is (blank, refl) ahead)))
        by_initial (Some t) from fits ahead =
            let inner = from_followed (text C) (flow_code env t) (instr.SetVariable (length known)) p parts.middle from in
            let event = event_of (plain_env env) (length (map shape_in scope)) t in
            flow_follows C may env (in_scope scope known ready.well (front_then (front_more known _) here_front)) allowed N below marks compiled t n few D p inner.middle [] [] vs inner.first
            (before q inner.middle (let a = inner.within in let b = parts.within in omega arith) up) fits.0 (paths.Then (paths.Only event) (paths.Then others_ways rest))
            (ahead_in_turn C outer.marks scope D vs (flow_ways (plain_env env) t) (paths.Only event) (paths.Then others_ways rest) ahead)
            (λ m le E after v held takes ahead.
            takes_flow C m E inner.middle parts.middle vs (length known) (words_of_expr env t) (words_of_shape outer.declarations (shape_of_local type local)) v fits.1 inner.is inner.next size held ahead.fit
            (λ fit_us j less. go_on j (omega (arith, le, less)) E (later_then C B D E later after) (slice_set vs (length known) v)
            (declared E v event ahead.fit fit_us
            (subst (λ n. IsInto n event) number_is (event_into (plain_env env) (length (map shape_in scope)) t)) (takes (length (map shape_in scope))) ahead)))

  locals_follow : (type : TypeName) (locals : List NewLocal) → LocalsFollow type locals
  locals_follow type [] scope known n few D later p q vs from up fits ready rest a h = at_once n D later p q vs from scope rest a h
  locals_follow type (local ∷ locals) scope known n few D later p q vs from up fits ready rest a h =
      local_follows type local locals (locals_follow type locals) scope known n few D later p q vs from up fits ready rest a h

  -- ---- assignments

  assignment : (place value : Expr) (node : Node) → Follows (form.Assigns node place value)
  assignment (e.Whole at t) value node scope known n few D later p q vs from up fits ready rest a h =
      assigns_follow C may (at_scope outer scope known) (in_scope scope known ready.well ready.fronts) allowed N below marks compiled at t value n few D p q vs up fits.1 rest a
      (λ m le E after us behind. h m le E (later_then C B D E later after) us behind) from fits.0 fits.2
  assignment (e.Element at line t index) value node scope known n few D later p q vs from up fits ready rest a h =
      let same : (behind (form.Assigns node (e.Element at line t index) value) (at_scope outer scope known)).scope ≡ scope = ap (λ (o : Env). o.scope) (assigns_same (e.Element at line t index) (at_scope outer scope known)) in
      element_assigned C may (at_scope outer scope known)
      (in_scope scope known ready.well (front_then (front (form.Assigns node (e.Element at line t index) value) (at_scope outer scope known)) ready.fronts)) allowed N below marks compiled at.id line t vs index value n few D p q
      from up fits.0 ready.fronts fits.1 fits.2 fits.3 fits.4 rest a (λ m le E after us behind. h m le E (later_then C B D E later after) us (subst (λ scope. Here scope E us rest) (sym same) behind))
  assignment (e.Number at z) value node scope known n few D later p q vs from up fits ready rest a h = absurd fits
  assignment (e.Truth at b) value node scope known n few D later p q vs from up fits ready rest a h = absurd fits
  assignment (e.Own at) value node scope known n few D later p q vs from up fits ready rest a h = absurd fits
  assignment (e.Input at) value node scope known n few D later p q vs from up fits ready rest a h = absurd fits
  assignment (e.PlainCall at function ts) value node scope known n few D later p q vs from up fits ready rest a h = absurd fits
  assignment (e.Parenthesized at t) value node scope known n few D later p q vs from up fits ready rest a h = absurd fits
  assignment (e.Unary at line operator t) value node scope known n few D later p q vs from up fits ready rest a h = absurd fits
  assignment (e.Binary at line operator left right) value node scope known n few D later p q vs from up fits ready rest a h = absurd fits
  assignment (e.CallOnOwn at member ts) value node scope known n few D later p q vs from up fits ready rest a h = absurd fits
  assignment (e.CallOnTarget at t member ts) value node scope known n few D later p q vs from up fits ready rest a h = absurd fits

  -- ---- leaves

  calls_follow : (t : Expr) → Follows (form.Calls t)
  calls_follow t scope known n few D later p q vs from up fits ready rest a h =
      let parts = from_followed (text C) (flow_code (at scope known) t) instr.DropFlow p q from in
      flow_follows C may (at scope known) (in_scope scope known ready.well ready.fronts) allowed N below marks compiled t n few D p parts.middle [] [] vs parts.first (before q parts.middle parts.within up) fits rest a
      (λ m le E after v held takes ahead.
      drops C m E parts.middle [] [] vs (record { value = v; words = words_of_expr (at scope known) t }) parts.is
      (λ j less. subst (λ r. At C j E r [] [] vs) (sym parts.next) (h j (omega (arith, le, less)) E (later_then C B D E later after) vs ahead)))

  prints_follow : (node : Node) (ts : List Expr) → Follows (form.Prints node ts)
  prints_follow node ts scope known n few D later p q vs from up fits ready rest a h =
      let env = at scope known in
      let parts = from_followed (text C) (all_joined (map (value_code env) ts)) (instr.Print (letters_of env ts)) p q from in
      each_follows C may (at scope known) (in_scope scope known ready.well ready.fronts) allowed N below ts n few D p parts.middle [] [] vs parts.first (before q parts.middle parts.within up) fits.1 rest a
      (λ m le E after words long ahead.
      prints C m E parts.middle (letters_of (at scope known) ts) words [] [] vs parts.is (allowed.input fits.0) (long ∙ sym (length-map ts (λ expr. letter (is_bool_expr (at scope known) expr))))
      (λ F further j less. subst (λ r. At C j F r [] [] vs) (sym parts.next)
      (h j (omega (arith, le, less)) F (later_then C B E F (later_then C B D E later after) further) vs (ahead_later C outer.marks scope E F vs rest further ahead))))

  gives_follow : (node : Node) (t : Expr) → Follows (form.Gives node t)
  gives_follow node t scope known n few D later p q vs from up fits ready rest a h =
      let parts = from_followed (text C) (flow_code (at scope known) t) (instr.Reply node.line) p q from in
      flow_follows C may (at scope known) (in_scope scope known ready.well ready.fronts) allowed N below marks compiled t n few D p parts.middle [] [] vs parts.first (before q parts.middle parts.within up) fits.0 rest a
      (λ m le E after v held takes ahead. by_gives may.gives refl fits.1 m le E after parts.middle v parts.is parts.next ahead) where
        by_gives : (o : Option ℕ) → may.gives ≡ o → GivesWords o (words_of_expr (at scope known) t) → (m : ℕ) → m ≤ n → (E : Run C) → Later C D E → (r : ℕ) (v : Held) → Is C r (instr.Reply node.line) → r + 1 ≡ q
            → Here scope E vs rest → At C m E r [] (record { value = v; words = words_of_expr (at scope known) t } ∷ []) vs
        by_gives None is words m le E after r v stands next ahead = absurd words
        by_gives (Some count) is words m le E after r v stands next ahead =
            gives C m E r [] [] vs node.line (words_of_expr (at scope known) t) v stands (allowed.gives count is ∙ ap Some (sym words))
            (λ F further j less. subst (λ r. At C j F r [] [] vs) (sym next)
            (h j (omega (arith, le, less)) F (later_then C B E F (later_then C B D E later after) further) vs (ahead_later C outer.marks scope E F vs rest further ahead)))

  returns_follow : (finish : Finish) → FinishesIn C N B finish → (o : Option Expr) (scope : List Slot) (known : List ℕ) → InScope C (at scope known) → (n : ℕ) → n ≤ N → (D : Run C) → Later C B D → (p q : ℕ) (vs : List Held)
      → From (text C) p (return_code (at scope known) finish o p) q → Inside q → ReturnsFit may (at scope known) finish o → (rest : Ways) → Here scope D vs (paths.Then (return_ways (plain_env (at scope known)) o) rest) → At C n D p [] [] vs
  returns_follow (OfBody line) goes None scope known scoped n few D later p q vs from up fits rest a = ends C n D p [] [] vs line from.0
  returns_follow (OfFunction count line) goes None scope known scoped n few D later p q vs from up fits rest a = absurd fits
  returns_follow (OfBody line) goes (Some t) scope known scoped n few D later p q vs from up fits rest a =
      let parts = from_followed (text C) (value_code (at scope known) t) (instr.End line) p q from in
      expr_follows C may (at scope known) scoped allowed N below t n few D p parts.middle [] [] vs parts.first (before q parts.middle parts.within up) fits.0 (paths.Then paths.Stop rest)
      (ahead_in_turn C outer.marks scope D vs (value_ways (plain_env (at scope known)) t) paths.Stop rest a)
      (λ m le E after words long ahead. ends C m E parts.middle (pushed words []) [] vs line parts.is)
  returns_follow (OfFunction count line) goes (Some t) scope known scoped n few D later p q vs from up fits rest a =
      let parts = from_followed (text C) (value_code (at scope known) t) (instr.Return count) p q from in
      expr_follows C may (at scope known) scoped allowed N below t n few D p parts.middle [] [] vs parts.first (before q parts.middle parts.within up) fits.0 (paths.Then paths.Stop rest)
      (ahead_in_turn C outer.marks scope D vs (value_ways (plain_env (at scope known)) t) paths.Stop rest a)
      (λ m le E after words long ahead. returns C N m (omega (arith, le, few)) B E (later_then C B D E later after) parts.middle count words [] [] vs goes parts.is (long ∙ fits.1))

  -- ---- tests

  test_follows : (t : Expr) (scope : List Slot) (known : List ℕ) → WellScoped outer.declarations known scope → IsFrontOf known (all_sizes C) → (n : ℕ) → n ≤ N → (D : Run C) (p q : ℕ) (vs : List Held) → From (text C) p (value_code (at scope known) t p) q → Inside q
      → TestFits may (at scope known) t → (rest : Ways) → Here scope D vs (paths.Then (value_ways (plain_env (at scope known)) t) rest) → BehindWord C outer.marks scope n D q [] [] vs rest → At C n D p [] [] vs
  test_follows t scope known well f n few D p q vs from up fits rest a h =
      expr_follows C may (at scope known) (in_scope scope known well f) allowed N below t n few D p q [] [] vs from up fits.0 rest a
      (one_of C may (at scope known) (in_scope scope known well f) allowed N below n D q [] [] vs t rest fits.1 h)

  jumps_on : (scope : List Slot) (known : List ℕ) → InScope C (at scope known) → (n : ℕ) (D : Run C) (p q : ℕ) (vs : List Held) → Is C p (instr.Jump q) → is_place C.image C.code q ≡ true → Onward C n D q [] [] vs → At C n D p [] [] vs
  jumps_on scope known scoped n D p q vs is there h = jumps C may (at scope known) scoped allowed N below n D p q [] [] vs is there h

  decides : (scope : List Slot) (known : List ℕ) → InScope C (at scope known) → (n : ℕ) (D : Run C) (p o : ℕ) (w : ℤ) (vs : List Held) → Is C p (instr.JumpZero o) → is_place C.image C.code o ≡ true → Onward C n D o [] [] vs → Onward C n D (p + 1) [] [] vs → At C n D p (w ∷ []) [] vs
  decides scope known scoped n D p o w vs is there at_zero other = jumps_by C may (at scope known) scoped allowed N below n D p o [] w [] vs is there at_zero other

  block_like : (stmt : Stmt) (scope : List Slot) (known : List ℕ) → behind_block stmt (at scope known) ≡ at scope (behind stmt (at scope known)).sizes
  block_like stmt scope known = out_same (at scope known) (behind stmt (at scope known)) (same_behind stmt (at scope known))

  -- ---- loops

  -- what a loop goes round
  abbrev Rounds : Piece → Ways → List Slot → Type 0
  Rounds piece round scope = (n : ℕ) → n ≤ N → (D : Run C) → Later C B D → (p q : ℕ) (vs : List Held) → From (text C) p (piece p) q → Inside q → (rest : Ways) → Here scope D vs (paths.Then round rest) → Then n q scope rest → At C n D p [] [] vs

  loop_follows : (t : Expr) (piece : Piece) (round : Ways) (scope : List Slot) (known : List ℕ) → WellScoped outer.declarations known scope → IsFrontOf known (all_sizes C) → TestFits may (at scope known) t → Rounds piece round scope
      → (p q : ℕ) → From (text C) p (loop (value_code (at scope known) t) piece p) q → Inside q → (rest : Ways)
      → (b n : ℕ) → n ≤ b → n ≤ N → (D : Run C) → Later C B D → (vs : List Held) → Here scope D vs (paths.Then (paths.Loop (value_ways (plain_env (at scope known)) t) round) rest) → Then n q scope rest → At C n D p [] [] vs
  loop_follows t piece round scope known well f fits rounds p q from up rest zero zero le few D later vs a h = tt
  loop_follows t piece round scope known well f fits rounds p q from up rest zero (suc n) le few D later vs a h = absurd (omega (arith, le))
  loop_follows t piece round scope known well f fits rounds p q from up rest (suc b) n le few D later vs a h =
      goes_round (λ m le few E after us a h. loop_follows t piece round scope known well f fits rounds p q from up rest b m le few E after us a h) where
        tested : Ways
        tested = value_ways (plain_env (at scope known)) t

        again_ways : Ways
        again_ways = paths.Then (paths.Loop (value_ways (plain_env (at scope known)) t) round) rest

        first : Joined (text C) (one instr.Test) (joined (value_code (at scope known) t) (unless_zero (followed_by piece (instr.Jump p)))) p q
        first = from_joined (text C) (one instr.Test) (joined (value_code (at scope known) t) (unless_zero (followed_by piece (instr.Jump p)))) p q from

        second : Joined (text C) (value_code (at scope known) t) (unless_zero (followed_by piece (instr.Jump p))) first.middle q
        second = from_joined (text C) (value_code (at scope known) t) (unless_zero (followed_by piece (instr.Jump p))) first.middle q first.second

        way : Way (text C) (followed_by piece (instr.Jump p)) second.middle q
        way = from_unless (text C) (followed_by piece (instr.Jump p)) second.middle q second.second

        third : Followed (text C) piece (instr.Jump p) (second.middle + 1) q
        third = from_followed (text C) piece (instr.Jump p) (second.middle + 1) q way.way

        begins : p ≤ q
        begins = no_back (text C) (loop (value_code (at scope known) t) piece p) p q from

        there : p + 1 ≡ first.middle
        there = first.first.1

        goes_round : ((m : ℕ) → m ≤ b → m ≤ N → (E : Run C) → Later C B E → (us : List Held) → Here scope E us again_ways → Then m q scope rest → At C m E p [] [] us) → At C n D p [] [] vs
        goes_round again =
            performs C n D p [] [] vs instr.Test (frames.Spends (frame C D (p + 1) [] [] vs)) first.first.0 refl
            (λ m less.
            subst (λ r. At C m D r [] [] vs) (sym there)
            (test_follows t scope known well f m (omega (arith, less, few)) D first.middle second.middle vs second.first (before q second.middle second.within up) fits (paths.Either rest (paths.Then round again_ways))
            (ahead_by C outer.marks scope D vs (paths.Then tested (paths.Either rest (paths.Then round again_ways))) again_ways (loop_then tested round rest) a)
            (λ k k_le E after w ahead.
            decides scope known (in_scope scope known well f) k E second.middle q w vs way.test (up q (omega arith))
            (λ j j_less. h j (omega (arith, less, k_le, j_less)) E (later_then C B D E later after) vs (ahead_one C outer.marks scope E vs rest (paths.Then round again_ways) ahead))
            (λ j j_less.
            rounds j (omega (arith, less, few, k_le, j_less)) E (later_then C B D E later after) (second.middle + 1) third.middle vs third.first (before q third.middle third.within up) again_ways
            (ahead_other C outer.marks scope E vs rest (paths.Then round again_ways) ahead)
            (λ i i_le F further us ahead.
            jumps_on scope known (in_scope scope known well f) i F third.middle p us third.is (up p begins)
            (λ d d_less.
            again d (omega (arith, le, less, k_le, j_less, i_le, d_less)) (omega (arith, less, few, k_le, j_less, i_le, d_less)) F further us ahead
            (λ c c_le G more ts behind. h c (omega (arith, less, k_le, j_less, i_le, d_less, c_le)) G more ts behind)))))))

  -- ---- the forms, from what is known of their parts

  -- with a part, or not
  with_part : (scope : List Slot) (E : Run C) (vs : List Held) (part rest : Ways) → Here scope E vs (paths.Then (paths.Either part paths.NoEvent) rest) → Here scope E vs (paths.Then part rest)
  with_part scope E vs part rest a = ahead_by C outer.marks scope E vs (paths.Then part rest) (paths.Then (paths.Either part paths.NoEvent) rest) (one_then part paths.NoEvent rest) a

  without : (scope : List Slot) (E : Run C) (vs : List Held) (part rest : Ways) → Here scope E vs (paths.Then (paths.Either part paths.NoEvent) rest) → Here scope E vs rest
  without scope E vs part rest a =
      ahead_skip C outer.marks scope E vs rest (ahead_by C outer.marks scope E vs (paths.Then paths.NoEvent rest) (paths.Then (paths.Either part paths.NoEvent) rest) (other_then part paths.NoEvent rest) a)

  when_follows : (t : Expr) (then_part : Stmt) → Follows then_part → Follows (form.When t then_part)
  when_follows t then_part on_then scope known n few D later p q vs from up fits ready rest a h =
      let env = at scope known in
      let parts = from_joined (text C) (value_code env t) (unless_zero (stmt_code env then_part)) p q from in
      let way = from_unless (text C) (stmt_code env then_part) parts.middle q parts.second in
      let fronts = front_then (front then_part env) ready.fronts in
      let part = stmt_ways (plain_env env) then_part in
      test_follows t scope known ready.well fronts n few D p parts.middle vs parts.first (before q parts.middle parts.within up) fits.0 (paths.Then (paths.Either part paths.NoEvent) rest)
      (ahead_in_turn C outer.marks scope D vs (value_ways (plain_env env) t) (paths.Either part paths.NoEvent) rest a)
      (λ m le E after w ahead.
      decides scope known (in_scope scope known ready.well fronts) m E parts.middle q w vs way.test (up q (omega arith))
      (λ j less. h j (omega (arith, le, less)) E (later_then C B D E later after) vs (without scope E vs part rest ahead))
      (λ j less.
      on_then scope known j (omega (arith, le, less, few)) E (later_then C B D E later after) (parts.middle + 1) q vs way.way up fits.1 (record { well = ready.well; fronts = ready.fronts }) rest (with_part scope E vs part rest ahead)
      (outside env then_part j q rest (λ k under F more us behind. h k (omega (arith, le, less, under)) F more us behind))))

  branches_follow : (t : Expr) (then_part else_part : Stmt) → Follows then_part → Follows else_part → Follows (form.Branches t then_part else_part)
  branches_follow t then_part else_part on_then on_else scope known n few D later p q vs from up fits ready rest a h =
      let env = at scope known in
      let next = behind_block then_part env in
      let next_is = block_like then_part scope known in
      let parts = from_joined (text C) (value_code env t) (either (stmt_code env then_part) (stmt_code next else_part)) p q from in
      let ways = from_either (text C) (stmt_code env then_part) (stmt_code next else_part) parts.middle q parts.second in
      let next_front = front_then (front else_part next) ready.fronts in
      let fronts = front_then (front then_part env) next_front in
      let one = stmt_ways (plain_env env) then_part in
      let other = stmt_ways (plain_env env) else_part in
      test_follows t scope known ready.well fronts n few D p parts.middle vs parts.first (before q parts.middle parts.within up) fits.0 (paths.Then (paths.Either one other) rest)
      (ahead_in_turn C outer.marks scope D vs (value_ways (plain_env env) t) (paths.Either one other) rest a)
      (λ m le E after w ahead.
      decides scope known (in_scope scope known ready.well fronts) m E parts.middle ways.other w vs ways.test (up ways.other ways.other_within)
      (λ j less.
      anywhere else_part on_else next next_is j (omega (arith, le, less, few)) E (later_then C B D E later after) ways.other q vs ways.other_way up fits.2
      (record { well = well_more outer.declarations scope (front then_part env) ready.well; fronts = ready.fronts }) rest
      (subst (λ around. Here scope E vs (paths.Then (stmt_ways around else_part) rest)) (block_seen then_part env) (ahead_by C outer.marks scope E vs (paths.Then other rest) (paths.Then (paths.Either one other) rest) (other_then one other rest) ahead))
      (outside next else_part j q rest (λ k under F more us behind. h k (omega (arith, le, less, under)) F more us behind)))
      (λ j less.
      on_then scope known j (omega (arith, le, less, few)) E (later_then C B D E later after) (parts.middle + 1) ways.back vs ways.one_way (before q ways.back ways.back_within up) fits.1 (record { well = ready.well; fronts = next_front }) rest
      (ahead_by C outer.marks scope E vs (paths.Then one rest) (paths.Then (paths.Either one other) rest) (one_then one other rest) ahead)
      (outside env then_part j ways.back rest
      (λ k under F more us behind.
      jumps_on scope known (in_scope scope known ready.well fronts) k F ways.back q us ways.jump (up q (omega arith))
      (λ i above. h i (omega (arith, le, less, under, above)) F more us behind)))))

  repeats_follow : (t : Expr) (body : Stmt) → Follows body → Follows (form.Repeats t body)
  repeats_follow t body on_body scope known n few D later p q vs from up fits ready rest a h =
      let env = at scope known in
      loop_follows t (stmt_code env body) (stmt_ways (plain_env env) body) scope known ready.well (front_then (front body env) ready.fronts) fits.0
      (λ m le E after r s us code inside others ahead go. on_body scope known m le E after r s us code inside fits.1 (record { well = ready.well; fronts = ready.fronts }) others ahead (outside env body m s others go))
      p q from up rest n n (omega arith) few D later vs a h

  -- a loop with a step, behind its start
  abbrev StepsAt : Expr → Stmt → Stmt → Env → Type 0
  StepsAt t step body env = (n : ℕ) → n ≤ N → (D : Run C) → Later C B D → (p q : ℕ) (vs : List Held) → From (text C) p (loop (value_code env t) (joined (stmt_code env body) (stmt_code (behind_block body env) step)) p) q → Inside q
      → TestFits may env t → StmtFits may env body → StmtFits may (behind_block body env) step → IsReady env (behind step (behind_block body env)) → (rest : Ways)
      → Here env.scope D vs (paths.Then (paths.Loop (value_ways (plain_env env) t) (paths.Then (stmt_ways (plain_env env) body) (stmt_ways (plain_env env) step))) rest) → Then n q env.scope rest → At C n D p [] [] vs

  steps_follow : (t : Expr) (step body : Stmt) → Follows step → Follows body → (scope : List Slot) (known : List ℕ) → StepsAt t step body (at scope known)
  steps_follow t step body on_step on_body scope known n few D later p q vs from up test_fits body_fits step_fits ready rest a h =
      let env = at scope known in
      let next = behind_block body env in
      let next_is = block_like body scope known in
      let next_front = front_then (front step next) ready.fronts in
      let one = stmt_ways (plain_env env) body in
      let other = stmt_ways (plain_env env) step in
      loop_follows t (joined (stmt_code env body) (stmt_code next step)) (paths.Then one other) scope known ready.well (front_then (front body env) next_front) test_fits
      (λ m le E after r s us code inside others ahead go.
      let parts = from_joined (text C) (stmt_code env body) (stmt_code next step) r s code in
      on_body scope known m le E after r parts.middle us parts.first (before s parts.middle parts.within inside) body_fits (record { well = ready.well; fronts = next_front }) (paths.Then other others)
      (ahead_in_turn C outer.marks scope E us one other others ahead)
      (outside env body m parts.middle (paths.Then other others)
      (λ j less F more ts ahead.
      anywhere step on_step next next_is j (omega (arith, le, less)) F more parts.middle s ts parts.second inside step_fits
      (record { well = well_more outer.declarations scope (front body env) ready.well; fronts = ready.fronts }) others
      (subst (λ around. Here scope F ts (paths.Then (stmt_ways around step) others)) (block_seen body env) ahead)
      (outside next step j s others (λ k under G further xs behind. go k (omega (arith, less, under)) G further xs behind)))))
      p q from up rest n n (omega arith) few D later vs a h

  loops_follow : (start : Stmt) (t : Expr) (step body : Stmt) → Follows start → Follows step → Follows body → Follows (form.Loops start t step body)
  loops_follow start t step body on_start on_step on_body scope known n few D later p q vs from up fits ready rest a h =
      let env = at scope known in
      let env1 = behind start env in
      let env2 = behind_block body env1 in
      let one_is : env1 ≡ at env1.scope env1.sizes = same_behind start env in
      let parts = from_joined (text C) (stmt_code env start) (loop (value_code env1 t) (joined (stmt_code env1 body) (stmt_code env2 step))) p q from in
      let fronts_one = front_then (front body env1) (front_then (front step env2) ready.fronts) in
      let around = plain.behind start (plain_env env) in
      let round = paths.Loop (value_ways around t) (paths.Then (stmt_ways around body) (stmt_ways around step)) in
      on_start scope known n few D later p parts.middle vs parts.first (before q parts.middle parts.within up) fits.0 (record { well = ready.well; fronts = fronts_one }) (paths.Then round rest)
      (ahead_in_turn C outer.marks scope D vs (stmt_ways (plain_env env) start) round rest a)
      (λ m le E more us ahead.
      subst (StepsAt t step body) (sym one_is) (steps_follow t step body on_step on_body env1.scope env1.sizes) m (omega (arith, le, few)) E more parts.middle q us parts.second up fits.1 fits.2 fits.3
      (record { well = well_behind start env ready.well; fronts = ready.fronts }) rest
      (subst (λ around. Here (behind start (at scope known)).scope E us (paths.Then (paths.Loop (value_ways around t) (paths.Then (stmt_ways around body) (stmt_ways around step))) rest)) (behind_seen start env) ahead)
      (outside env start m q rest (λ j less F further ts behind. h j (omega (arith, le, less)) F further ts behind)))

  then_follow : (stmt : Stmt) (stmts : Stmts) → Follows stmt → FollowsAll stmts → FollowsAll (form.MoreStmts stmt stmts)
  then_follow stmt stmts on_stmt on_stmts scope known n few D later p q vs from up fits ready rest a h =
      let env = at scope known in
      let next = behind stmt env in
      let parts = from_joined (text C) (stmt_code env stmt) (stmts_code next stmts) p q from in
      let others = stmts_ways (plain.behind stmt (plain_env env)) stmts in
      on_stmt scope known n few D later p parts.middle vs parts.first (before q parts.middle parts.within up) fits.0 (record { well = ready.well; fronts = front_then (front_all stmts next) ready.fronts }) (paths.Then others rest)
      (ahead_in_turn C outer.marks scope D vs (stmt_ways (plain_env env) stmt) others rest a)
      (λ m le E more us ahead.
      all_anywhere stmts on_stmts next (same_behind stmt env) m (omega (arith, le, few)) E more parts.middle q us parts.second up fits.1 (record { well = well_behind stmt env ready.well; fronts = ready.fronts }) rest
      (subst (λ around. Here (behind stmt (at scope known)).scope E us (paths.Then (stmts_ways around stmts) rest)) (behind_seen stmt env) ahead)
      (λ j less F further ts behind. h j (omega (arith, le, less)) F further ts behind))

  -- ---- all statements

  mutual
    pub stmt_follows : (stmt : Stmt) → Follows stmt
    stmt_follows form.Nothing = λ scope known n few D later p q vs from up fits ready rest a h. at_once n D later p q vs from scope rest a h
    stmt_follows (form.Within stmts) = λ scope known n few D later p q vs from up fits ready rest a h.
        stmts_follow stmts scope known n few D later p q vs from up fits (record { well = ready.well; fronts = ready.fronts }) rest a (outside_all (at scope known) stmts n q rest h)
    stmt_follows (form.Locals type locals) = locals_follow type locals
    stmt_follows (form.Assigns node place value) = assignment place value node
    stmt_follows (form.Calls t) = calls_follow t
    stmt_follows (form.Creates node t) = λ scope known n few D later p q vs from up fits ready rest a h.
        creates_follow C may (at scope known) (in_scope scope known ready.well ready.fronts) allowed N below marks compiled node.id t n D p q vs rest a (λ m le E after us behind. h m le E (later_then C B D E later after) us behind) from fits
    stmt_follows (form.When t then_part) = when_follows t then_part (stmt_follows then_part)
    stmt_follows (form.Branches t then_part else_part) = branches_follow t then_part else_part (stmt_follows then_part) (stmt_follows else_part)
    stmt_follows (form.Repeats t body) = repeats_follow t body (stmt_follows body)
    stmt_follows (form.Loops start t step body) = loops_follow start t step body (stmt_follows start) (stmt_follows step) (stmt_follows body)
    stmt_follows (form.Prints node ts) = prints_follow node ts
    stmt_follows (form.Gives node t) = gives_follow node t
    stmt_follows (form.Returns node o) = λ scope known n few D later p q vs from up fits ready rest a h.
        returns_follow outer.finish finishes o scope known (in_scope scope known ready.well ready.fronts) n few D later p q vs from up fits rest a

    pub stmts_follow : (stmts : Stmts) → FollowsAll stmts
    stmts_follow form.NoStmt = λ scope known n few D later p q vs from up fits ready rest a h. at_once n D later p q vs from scope rest a h
    stmts_follow (form.MoreStmts stmt stmts) = then_follow stmt stmts (stmt_follows stmt) (stmts_follow stmts)
