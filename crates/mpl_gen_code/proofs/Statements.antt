-- The code of statements does what they mean.
use Rattle.std.proofs.Common.{◌≡◌, ◌≤◌, ◌<◌, ℕ, zero, suc, ◌+◌, true, false, not, List, [], ◌∷◌, length, if◌then◌else◌, ℤ, pos, refl, ap, sym, subst, arith, ◌∙◌}
use Rattle.std.specs.Ordering.{int_eq}
use Rattle.mpl_value.specs.declared.body.Arg.{Arg}
use Rattle.mpl_mean.specs.Meaning.Context.{Callees, Context}
use Rattle.mpl_mean.specs.Meaning.Layout.{Function, Member}
use Rattle.mpl_mean.specs.Meaning.StatementMeaning.{nothing}
use Rattle.mpl_mean.specs.Meaning.Store.{Store, Outcome, Goes, only_oldest, spend}
use Rattle.mpl_mean.specs.Meaning.Values.{Value, is_true, word_of}
use Rattle.mpl_mean.specs.Plain.Expr.{Expr}
use Rattle.mpl_mean.specs.Plain.Expr as e
use Rattle.mpl_mean.specs.Plain.Stmt.{Stmt, Stmts}
use Rattle.mpl_mean.specs.Plain.Stmt as form
use Rattle.mdf_code.specs.Parts.{sizes_at, text_at}
use Rattle.mdf_code.specs.declared.instr.Instr.{Instr}
use Rattle.mdf_code.specs.declared.instr.Instr.TheVariants as instr
use Rattle.mpl_checked.specs.Checked.CheckedExpressions.{checked_value}
use Rattle.mpl_checked.specs.Checked.CheckedStatements.{checked_does, checked_each, checked_while}
use Rattle.mpl_checked.specs.Checked.CheckedSteps.{Checked, CheckedCallees, CheckedStep, Checking, Meant, checked_in_scope, checked_in_turn, goes_on, meant, unless_astray, ◌>?>◌}
use Rattle.mpl_gen_code.specs.ExpressionCode.{value_code}
use Rattle.mpl_gen_code.specs.Fits.{May, StmtFits, StmtsFit, TestFits}
use Rattle.mpl_gen_code.specs.Pieces.{Piece, either, followed_by, joined, loop, one, unless_zero}
use Rattle.mpl_gen_code.specs.Scopes.{Env, Slot, out_of}
use Rattle.mpl_gen_code.specs.StatementCode.{behind, behind_all, behind_block, stmt_code, stmts_code}
use Rattle.mpl_gen_code.specs.Words.{is_bool_expr, words_of_expr}
use Rattle.mpl_gen_code.proofs.Adding.{Adds, adds_value}
use Rattle.mpl_gen_code.proofs.AddingStatements.{adds_does, adds_each, adds_in_scope, adds_in_turn, adds_while, within_scope}
use Rattle.mpl_gen_code.proofs.Assignments.{Done, Writable, assigns_follow}
use Rattle.mpl_gen_code.proofs.Behind.{Grown, grown, grown_all, leaves_stands, oldest_comes, same_stands, well_behind}
use Rattle.mpl_gen_code.proofs.Below.{Below}
use Rattle.mpl_gen_code.proofs.Creating.{creates_follow}
use Rattle.mpl_gen_code.proofs.Effects.{tests}
use Rattle.mpl_gen_code.proofs.ElementStores.{element_assigned}
use Rattle.mpl_gen_code.proofs.Expressions.{expr_follows}
use Rattle.mpl_gen_code.proofs.Flows.{Surrounded, meets_map, meets_on}
use Rattle.mpl_gen_code.proofs.Forcing.{comes_pure}
use Rattle.mpl_gen_code.proofs.Fronts.{front, front_all, front_then}
use Rattle.mpl_gen_code.proofs.Instructions.{At as Reached, jumps, jumps_over, passes_on}
use Rattle.mpl_gen_code.proofs.Leaves.{EndsAs, calls_follow, gives_follow, prints_follow, returns_follow}
use Rattle.mpl_gen_code.proofs.Locals.{Ready, locals_follow}
use Rattle.mpl_gen_code.proofs.Members.{Meets, bounded}
use Rattle.mpl_gen_code.proofs.Operators.{top, zero_or_not}
use Rattle.mpl_gen_code.proofs.Places.{Followed, Joined, Upto, ValueAt, Way, from_either, from_followed, from_joined, from_unless, moved, no_back, upto_before}
use Rattle.mpl_gen_code.proofs.Raising.{lowered, raised}
use Rattle.mpl_gen_code.proofs.Reaching.{Fixed, From, Here, Run, Whole, comes_map, run_of}
use Rattle.mpl_gen_code.proofs.Scoped.{Allowed, IsFrontOf, Scoped, Stands, WellScoped, context_of}
use Rattle.mpl_gen_code.proofs.Storing.{at_scope, out_same, same_behind, well_more}

module _ (W : Whole) (here : Here) (may : May) (outer : Env) (inner : Callees) (callees : CheckedCallees) (base : ℕ) (below : Below W outer.declarations callees base)
    (allowed : (low : ℕ) → Allowed (run_of W low here) may outer.parts) (around : (low : ℕ) → Surrounded (run_of W low here) outer.declarations outer.marks)
    (plain : (f : Function) (arguments : List (List ℤ)) → Adds outer.declarations W.vowed (callees.plain f arguments))
    (regular : (m : Member) (arguments : List (List ℤ)) → Adds outer.declarations W.vowed (callees.regular m arguments))
    (writable : (low : ℕ) → Writable (run_of W low here) outer.parts) (finishes : here.finish ≡ outer.finish) (ends : (low : ℕ) → EndsAs (run_of W low here) outer.finish) where
  abbrev K : ℕ → Run
  K low = run_of W low here

  abbrev pub c : Context
  c = context_of (K 0) inner outer

  abbrev pub chk : Checking
  chk = record { marks = outer.marks; callees = callees }

  abbrev text : List Instr
  text = text_at W.setting.image here.code

  abbrev sizes : List ℕ
  sizes = sizes_at W.setting.image here.code

  abbrev M : {A : Type 0} → ℕ → (A → Store → Type 0) → Checked (Outcome A) → Type 0
  M low Q o = Meets (K low) outer.declarations Q o

  abbrev S : ℕ → Env → List Arg → Store → Type 0
  S low env vs s = Stands (K low) here.keeping env vs s

  abbrev X : ℕ → List ℤ → List Arg → Store → Type 0
  X place ws vs s = Reached (K 0) place ws [] vs s

  abbrev Inside : ℕ → Type 0
  Inside q = Upto (K 0) (Fixed []) outer [] q

  abbrev before : (q m : ℕ) → m ≤ q → Inside q → Inside m
  before = upto_before (K 0) (Fixed []) outer []

  abbrev here_at : {p q : ℕ} (ws : List ℤ) (vs : List Arg) (s : Store) → p ≡ q → X q ws vs s → X p ws vs s
  here_at ws vs s e = moved (K 0) (Fixed []) outer vs ws [] s e

  abbrev at : List Slot → List ℕ → Env
  at scope known = at_scope outer scope known

  abbrev IsReady : Env → Env → Type 0
  IsReady env behind_it = Ready outer.declarations sizes env behind_it

  scoped_at : (low : ℕ) (scope : List Slot) (known : List ℕ) → WellScoped outer.declarations known scope → IsFrontOf known sizes → Scoped (K low) (at scope known)
  scoped_at low scope known well f = record { sizes = f; scope = well }

  -- a statement does what it means, in these surroundings
  abbrev FollowsAt : Env → Stmt → Type 0
  FollowsAt env stmt = (low : ℕ) → base ≤ low → (p q : ℕ) (vs : List Arg) (s : Store) → From text p (stmt_code env stmt p) q → Inside q → StmtFits may env stmt
      → IsReady env (behind stmt env) → S low env vs s → M low (Done (K low) (behind stmt env) q) (checked_does chk stmt c s) → X p [] vs s

  abbrev Follows : Stmt → Type 0
  Follows stmt = (scope : List Slot) (known : List ℕ) → FollowsAt (at scope known) stmt

  anywhere : (stmt : Stmt) → Follows stmt → (env : Env) → env ≡ at env.scope env.sizes → FollowsAt env stmt
  anywhere stmt f env e = subst (λ env. FollowsAt env stmt) (sym e) (f env.scope env.sizes)

  -- the parts of a state are the same everywhere in a body
  parts_same : (env : Env) → env ≡ at env.scope env.sizes → env.parts ≡ outer.parts
  parts_same env e = ap Env.parts e

  -- ---- tests

  test_follows : {B : Type 0} (t : Expr) (low : ℕ) → base ≤ low → (scope : List Slot) (known : List ℕ) → WellScoped outer.declarations known scope → IsFrontOf known sizes → (Q : B → Store → Type 0) (h : Value → CheckedStep B)
      → (p q : ℕ) (vs : List Arg) (s : Store) → From text p (value_code (at scope known) t p) q → Inside q → TestFits may (at scope known) t → S low (at scope known) vs s
      → M low Q (goes_on (checked_value chk t c s) h) → ((v : Value) (s1 : Store) → S low (at scope known) vs s1 → M low Q (h v s1) → X q (word_of v ∷ []) vs s1) → X p [] vs s
  test_follows t low above scope known well f Q h p q vs s from inside fits stands m next =
      let scoped = scoped_at low scope known well f in
      expr_follows (K low) may (at scope known) inner callees base below above (allowed low) scoped vs t here.keeping p q [] [] s from inside fits.0 stands
      (meets_map (K low) outer.declarations Q (ValueAt (K low) here.keeping (at scope known) vs q [] [] (words_of_expr (at scope known) t) (is_bool_expr (at scope known) t)) (checked_value chk t c s) h
      (λ v s1 d stands1 long bool. top (K low) may (at scope known) inner callees base below above (allowed low) scoped vs v q [] [] s1 (long ∙ fits.1) (next v s1 stands1 d))
      m)

  -- where a value decides between two steps
  decides : {B : Type 0} (low : ℕ) (Q : B → Store → Type 0) (v : Value) (s : Store) (one other : CheckedStep B) (P : Type 0)
      → M low Q ((if is_true v then one else other) s) → (int_eq (word_of v) (pos 0) ≡ true → M low Q (other s) → P) → (int_eq (word_of v) (pos 0) ≡ false → M low Q (one s) → P) → P
  decides low Q v s one other P m zero_case other_case =
      zero_or_not P (int_eq (word_of v) (pos 0))
      (λ z. zero_case z (subst (λ b. M low Q ((if b then one else other) s)) (ap not z) m))
      (λ z. other_case z (subst (λ b. M low Q ((if b then one else other) s)) (ap not z) m))

  -- ---- blocks

  -- behind a block its variables are out of scope
  out_of_scope : (low : ℕ) (env inside_it : Env) (q : ℕ) (vs : List Arg) (s : Store) (o : Checked (Outcome (Unit {0}))) → Grown env.scope inside_it.scope → S low env vs s
      → M low (Done (K low) (out_of env inside_it) q) (unless_astray (only_oldest (length s.variables)) o) → M low (Done (K low) inside_it q) o
  out_of_scope low env inside_it q vs s o g stands m = (
    within_scope outer.declarations W.vowed (length s.variables) o m.0,
    comes_map (K low) o (λ u t d vs1 stands1. d vs1 (leaves_stands (K low) here.keeping env inside_it vs1 vs s t g stands stands1))
        (oldest_comes (K low) (Done (K low) (out_of env inside_it) q) (length s.variables) o m.1),
  )

  -- the variables go on elsewhere
  done_like : (low : ℕ) (env other : Env) (q m : ℕ) (o : Checked (Outcome (Unit {0}))) → ((vs : List Arg) (s : Store) → S low other vs s → S low env vs s)
      → ((vs : List Arg) (s : Store) → X q [] vs s → X m [] vs s) → M low (Done (K low) env q) o → M low (Done (K low) other m) o
  done_like low env other q m o stands_in goes m1 = (m1.0, comes_map (K low) o (λ u t d vs stands. goes vs t (d vs (stands_in vs t stands))) m1.1)

  -- the statement of a block, from a place to another, in surroundings that are those of the block but for new variables
  block_follows : (stmt : Stmt) (env : Env) → FollowsAt env stmt → env ≡ at env.scope env.sizes → (low : ℕ) → base ≤ low → (p q : ℕ) (vs : List Arg) (s : Store) → From text p (stmt_code env stmt p) q → Inside q
      → StmtFits may env stmt → IsReady env (behind stmt env) → S low env vs s → M low (Done (K low) env q) (checked_in_scope (checked_does chk stmt c) s) → X p [] vs s
  block_follows stmt env f e low above p q vs s from inside fits ready stands m =
      f low above p q vs s from inside fits ready stands
      (out_of_scope low env (behind stmt env) q vs s (checked_does chk stmt c s) (grown stmt env) stands
      (done_like low env (out_of env (behind stmt env)) q q _ (λ us t there. same_stands (K low) here.keeping (out_of env (behind stmt env)) env us t refl (parts_again stmt env) there) (λ us t x. x) m)) where
        parts_again : (stmt : Stmt) (env : Env) → env.parts ≡ (behind stmt env).parts
        parts_again stmt env = sym (ap Env.parts (same_behind stmt env))

  -- ---- loops

  -- what a loop goes round
  abbrev Rounds : Env → CheckedStep (Unit {0}) → Piece → Type 0
  Rounds env body piece = (low : ℕ) → base ≤ low → (m b : ℕ) (vs : List Arg) (s : Store) → From text m (piece m) b → Inside b → S low env vs s → M low (Done (K low) env b) (body s) → X m [] vs s

  loop_follows : (t : Expr) (body : CheckedStep (Unit {0})) (piece : Piece) (scope : List Slot) (known : List ℕ) → WellScoped outer.declarations known scope → IsFrontOf known sizes → TestFits may (at scope known) t
      → Rounds (at scope known) body piece → Adds outer.declarations W.vowed body → (p q : ℕ) → From text p (loop (value_code (at scope known) t) piece p) q → Inside q
      → (fuel low : ℕ) → base ≤ low → (vs : List Arg) (s : Store) → W.setting.turns < s.turns + fuel → S low (at scope known) vs s
      → M low (Done (K low) (at scope known) q) (checked_while fuel W.setting.turns (checked_value chk t c) body s) → X p [] vs s
  loop_follows t body piece scope known well f fits rounds adds p q from inside zero low above vs s enough stands m = absurd (let h = stands.within in omega arith)
  loop_follows t body piece scope known well f fits rounds adds p q from inside (suc fuel) low above vs s enough stands m =
      tests (K low) p [] [] vs s Next (λ t1. Meant (Goes tt t1)) (bounded (K low) here.keeping env vs stands) first.first.0
      (λ now d. here_at [] vs turned first.first.1 (goes_round (loop_follows t body piece scope known well f fits rounds adds p q from inside fuel) now.within d))
      (comes_pure (K low) Next (Meant (spend W.setting.turns s))
      (meets_map (K low) outer.declarations (Done (K low) env q) Next (Meant (spend W.setting.turns s)) (λ _. round) (λ u t1 d. d) m)) where
        env : Env
        env = at scope known

        turned : Store
        turned = record s { turns = s.turns + 1 }

        again : CheckedStep (Unit {0})
        again = checked_while fuel W.setting.turns (checked_value chk t c) body

        round : CheckedStep (Unit {0})
        round = checked_value chk t c >?> (λ value. if is_true value then (body >?> (λ _. again)) else meant nothing)

        -- what is asked for behind the turn
        Next : Unit {0} → Store → Type 0
        Next u t1 = M low (Done (K low) env q) (round t1)

        first : Joined text (one instr.Test) (joined (value_code env t) (unless_zero (followed_by piece (instr.Jump p)))) p q
        first = from_joined text (one instr.Test) (joined (value_code env t) (unless_zero (followed_by piece (instr.Jump p)))) p q from

        second : Joined text (value_code env t) (unless_zero (followed_by piece (instr.Jump p))) first.middle q
        second = from_joined text (value_code env t) (unless_zero (followed_by piece (instr.Jump p))) first.middle q first.second

        way : Way text (followed_by piece (instr.Jump p)) second.middle q
        way = from_unless text (followed_by piece (instr.Jump p)) second.middle q second.second

        third : Followed text piece (instr.Jump p) (second.middle + 1) q
        third = from_followed text piece (instr.Jump p) (second.middle + 1) q way.way

        high : ℕ
        high = s.turns + 1

        rises : low ≤ high
        rises = let h = stands.low in omega arith

        begins : p ≤ q
        begins = no_back text (loop (value_code env t) piece p) p q from

        goes_round : ((low : ℕ) → base ≤ low → (vs : List Arg) (s : Store) → W.setting.turns < s.turns + fuel → S low env vs s → M low (Done (K low) env q) (again s) → X p [] vs s)
            → turned.turns ≤ W.setting.turns → M low (Done (K low) env q) (round turned) → X first.middle [] vs turned
        goes_round rest within d =
            let stands_now : S high env vs turned = record { agree = stands.agree; sized = stands.sized; keeps = stands.keeps; long = stands.long; low = omega arith; within = within; result = stands.result } in
            let now : M high (Done (K high) env q) (round turned) =
            (d.0, raised W here low high rises (Done (K high) env q) (round turned) (comes_map (K low) (round turned) (λ u t1 g us there. g us (lowered W here low high rises here.keeping env us t1 there)) d.1)) in
            test_follows t high (omega arith) scope known well f (Done (K high) env q) _ first.middle second.middle vs turned second.first (before q second.middle second.within inside) fits stands_now now
            (λ v s1 stands1 d1.
            decides high (Done (K high) env q) v s1 (body >?> (λ _. again)) (meant nothing) (X second.middle (word_of v ∷ []) vs s1) d1
            (λ z e. jumps_over (K 0) second.middle [] [] vs s1 q (word_of v) (inside q (omega arith)) z way.test (e.1 vs stands1))
            (λ z e. passes_on (K 0) second.middle [] [] vs s1 q (word_of v) (inside q (omega arith)) z way.test
            (rounds high (omega arith) (second.middle + 1) third.middle vs s1 third.first (before q third.middle third.within inside) stands1
            (meets_on (K high) outer.declarations (Done (K high) env q) (Done (K high) env third.middle) (body s1) (λ _. again)
            (λ _. adds_while outer.declarations W.vowed fuel W.setting.turns (adds_value outer.declarations W.vowed chk c plain regular t) adds)
            (λ u s2 d2 us stands2. jumps (K 0) third.middle [] [] us s2 p (inside p begins) third.is
            (rest high (omega arith) us s2 (let h = stands2.low in omega arith) stands2 d2)) e))))

  -- ---- the forms, from what is known of their parts

  abbrev FollowsAllAt : Env → Stmts → Type 0
  FollowsAllAt env stmts = (low : ℕ) → base ≤ low → (p q : ℕ) (vs : List Arg) (s : Store) → From text p (stmts_code env stmts p) q → Inside q → StmtsFit may env stmts
      → IsReady env (behind_all stmts env) → S low env vs s → M low (Done (K low) (behind_all stmts env) q) (checked_in_turn (checked_each chk stmts c) s) → X p [] vs s

  abbrev FollowsAll : Stmts → Type 0
  FollowsAll stmts = (scope : List Slot) (known : List ℕ) → FollowsAllAt (at scope known) stmts

  all_anywhere : (stmts : Stmts) → FollowsAll stmts → (env : Env) → env ≡ at env.scope env.sizes → FollowsAllAt env stmts
  all_anywhere stmts f env e = subst (λ env. FollowsAllAt env stmts) (sym e) (f env.scope env.sizes)

  -- the surroundings behind a block are those before it, but for what there are of variables
  block_like : (stmt : Stmt) (scope : List Slot) (known : List ℕ) → behind_block stmt (at scope known) ≡ at scope (behind stmt (at scope known)).sizes
  block_like stmt scope known = out_same (at scope known) (behind stmt (at scope known)) (same_behind stmt (at scope known))

  into_block : (low : ℕ) (stmt : Stmt) (scope : List Slot) (known : List ℕ) (vs : List Arg) (s : Store) → S low (at scope known) vs s → S low (behind_block stmt (at scope known)) vs s
  into_block low stmt scope known vs s = same_stands (K low) here.keeping (at scope known) (behind_block stmt (at scope known)) vs s refl (ap Env.parts (block_like stmt scope known))

  -- an assignment
  assignment : (place value : Expr) (node : Rattle.mpl_ast.specs.declared.place.At.At) → Follows (form.Assigns node place value)
  assignment (e.Whole at t) value node scope known low above p q vs s from inside fits ready stands m =
      assigns_follow (K low) may (at_scope outer scope known) inner callees base below above (allowed low) (scoped_at low scope known ready.well ready.fronts) (around low) plain regular (writable low) vs at t value p q s inside fits.1 stands from fits.0 fits.2 m
  assignment (e.Element at line t index) value node scope known low above p q vs s from inside fits ready stands m =
      element_assigned (K low) may (at_scope outer scope known) inner callees base below above (allowed low)
      (scoped_at low scope known ready.well (front_then (front (form.Assigns node (e.Element at line t index) value) (at_scope outer scope known)) ready.fronts)) (around low) plain regular (writable low) at line t index value p q vs s inside
      from fits.0 ready.fronts fits.1 fits.2 fits.3 fits.4 stands m
  assignment (e.Number at z) value node scope known low above p q vs s from inside fits ready stands m = absurd fits
  assignment (e.Truth at b) value node scope known low above p q vs s from inside fits ready stands m = absurd fits
  assignment (e.Own at) value node scope known low above p q vs s from inside fits ready stands m = absurd fits
  assignment (e.Input at) value node scope known low above p q vs s from inside fits ready stands m = absurd fits
  assignment (e.PlainCall at function ts) value node scope known low above p q vs s from inside fits ready stands m = absurd fits
  assignment (e.Parenthesized at t) value node scope known low above p q vs s from inside fits ready stands m = absurd fits
  assignment (e.Unary at line operator t) value node scope known low above p q vs s from inside fits ready stands m = absurd fits
  assignment (e.Binary at line operator left right) value node scope known low above p q vs s from inside fits ready stands m = absurd fits
  assignment (e.CallOnOwn at member ts) value node scope known low above p q vs s from inside fits ready stands m = absurd fits
  assignment (e.CallOnTarget at t member ts) value node scope known low above p q vs s from inside fits ready stands m = absurd fits

  -- a branch without an `else`
  when_follows : (t : Expr) (then_part : Stmt) → Follows then_part → Follows (form.When t then_part)
  when_follows t then_part on_then scope known low above p q vs s from inside fits ready stands m =
      let env = at scope known in
      let parts = from_joined text (value_code env t) (unless_zero (stmt_code env then_part)) p q from in
      let way = from_unless text (stmt_code env then_part) parts.middle q parts.second in
      test_follows t low above scope known ready.well (front_then (front then_part env) ready.fronts) (Done (K low) (behind_block then_part env) q) _ p parts.middle vs s parts.first (before q parts.middle parts.within inside) fits.0 stands m
      (λ v s1 stands1 d.
      decides low (Done (K low) (behind_block then_part env) q) v s1 (checked_in_scope (checked_does chk then_part c)) (meant nothing) (X parts.middle (word_of v ∷ []) vs s1) d
      (λ z e. jumps_over (K 0) parts.middle [] [] vs s1 q (word_of v) (inside q (omega arith)) z way.test (e.1 vs (into_block low then_part scope known vs s1 stands1)))
      (λ z e. passes_on (K 0) parts.middle [] [] vs s1 q (word_of v) (inside q (omega arith)) z way.test
      (block_follows then_part env (on_then scope known) refl low above (parts.middle + 1) q vs s1 way.way inside fits.1 (record { well = ready.well; fronts = ready.fronts }) stands1
      (done_like low (behind_block then_part env) env q q _ (into_block low then_part scope known) (λ us t x. x) e))))

  -- a branch with an `else`
  branches_follow : (t : Expr) (then_part else_part : Stmt) → Follows then_part → Follows else_part → Follows (form.Branches t then_part else_part)
  branches_follow t then_part else_part on_then on_else scope known low above p q vs s from inside fits ready stands m =
      let env = at scope known in
      let next = behind_block then_part env in
      let last = behind_block else_part next in
      let next_is = block_like then_part scope known in
      let parts = from_joined text (value_code env t) (either (stmt_code env then_part) (stmt_code next else_part)) p q from in
      let ways = from_either text (stmt_code env then_part) (stmt_code next else_part) parts.middle q parts.second in
      let next_front = front_then (front else_part next) ready.fronts in
      let last_stands : (us : List Arg) (t : Store) → S low env us t → S low (behind_block else_part next) us t =
      λ us t. same_stands (K low) here.keeping env (behind_block else_part next) us t refl (ap Env.parts (out_same next (behind else_part next) (same_behind else_part next)) ∙ ap Env.parts next_is) in
      test_follows t low above scope known ready.well (front_then (front then_part env) next_front) (Done (K low) last q) _ p parts.middle vs s parts.first (before q parts.middle parts.within inside) fits.0 stands m
      (λ v s1 stands1 d.
      decides low (Done (K low) last q) v s1 (checked_in_scope (checked_does chk then_part c)) (checked_in_scope (checked_does chk else_part c)) (X parts.middle (word_of v ∷ []) vs s1) d
      (λ z e. jumps_over (K 0) parts.middle [] [] vs s1 ways.other (word_of v) (inside ways.other ways.other_within) z ways.test
      (block_follows else_part next (anywhere else_part on_else next next_is) next_is low above ways.other q vs s1 ways.other_way inside fits.2
      (record { well = well_more outer.declarations scope (front then_part env) ready.well; fronts = ready.fronts }) (into_block low then_part scope known vs s1 stands1)
      (done_like low last next q q _ (λ us t there. last_stands us t (same_stands (K low) here.keeping next env us t refl (sym (ap Env.parts next_is)) there)) (λ us t x. x) e)))
      (λ z e. passes_on (K 0) parts.middle [] [] vs s1 ways.other (word_of v) (inside ways.other ways.other_within) z ways.test
      (block_follows then_part env (on_then scope known) refl low above (parts.middle + 1) ways.back vs s1 ways.one_way (before q ways.back ways.back_within inside) fits.1 (record { well = ready.well; fronts = next_front }) stands1
      (done_like low last env q ways.back _ last_stands (λ us t x. jumps (K 0) ways.back [] [] us t q (inside q (omega arith)) ways.jump x) e))))

  -- a loop with a test alone
  repeats_follow : (t : Expr) (body : Stmt) → Follows body → Follows (form.Repeats t body)
  repeats_follow t body on_body scope known low above p q vs s from inside fits ready stands m =
      let env = at scope known in
      loop_follows t (checked_in_scope (checked_does chk body c)) (stmt_code env body) scope known ready.well (front_then (front body env) ready.fronts) fits.0
      (λ low above m b us t1 code inside there d. block_follows body env (on_body scope known) refl low above m b us t1 code inside fits.1 (record { well = ready.well; fronts = ready.fronts }) there d)
      (adds_in_scope outer.declarations W.vowed (adds_does outer.declarations W.vowed chk c plain regular body)) p q from inside
      (W.setting.turns + 1) low above vs s (omega arith) stands
      (done_like low (behind_block body env) env q q _ (into_block low body scope known) (λ us t x. x) m)

  -- a loop with a step, behind its start
  abbrev StepsAt : Expr → Stmt → Stmt → Env → Type 0
  StepsAt t step body env = (low : ℕ) → base ≤ low → (p q : ℕ) (vs : List Arg) (s : Store) → From text p (loop (value_code env t) (joined (stmt_code env body) (stmt_code (behind_block body env) step)) p) q → Inside q
      → TestFits may env t → StmtFits may env body → StmtFits may (behind_block body env) step → (behind step (behind_block body env)).scope ≡ env.scope
      → IsReady env (behind step (behind_block body env)) → S low env vs s
      → M low (Done (K low) env q) (checked_while (W.setting.turns + 1) W.setting.turns (checked_value chk t c) (checked_in_scope (checked_does chk body c) >?> (λ _. checked_does chk step c)) s) → X p [] vs s

  steps_follow : (t : Expr) (step body : Stmt) → Follows step → Follows body → (scope : List Slot) (known : List ℕ) → StepsAt t step body (at scope known)
  steps_follow t step body on_step on_body scope known low above p q vs s from inside test_fits body_fits step_fits same_scope ready stands m =
      let env = at scope known in
      let next = behind_block body env in
      let next_is = block_like body scope known in
      let last_parts : env.parts ≡ (behind step next).parts = sym (ap Env.parts (same_behind step next) ∙ ap Env.parts next_is) in
      let next_front = front_then (front step next) ready.fronts in
      let on_round : Rounds env (checked_in_scope (checked_does chk body c) >?> (λ _. checked_does chk step c)) (joined (stmt_code env body) (stmt_code next step)) =
      λ low above m b us t1 code inside there d.
      let parts = from_joined text (stmt_code env body) (stmt_code next step) m b code in
      block_follows body env (on_body scope known) refl low above m parts.middle us t1 parts.first (before b parts.middle parts.within inside) body_fits (record { well = ready.well; fronts = next_front }) there
      (meets_on (K low) outer.declarations (Done (K low) env b) (Done (K low) env parts.middle) (checked_in_scope (checked_does chk body c) t1) _ (λ _. adds_does outer.declarations W.vowed chk c plain regular step)
      (λ u s2 d2 ws stands2.
      anywhere step on_step next next_is low above parts.middle b ws s2 parts.second inside step_fits
      (record { well = well_more outer.declarations scope (front body env) ready.well; fronts = ready.fronts }) (into_block low body scope known ws s2 stands2)
      (done_like low env (behind step next) b b _ (λ xs t2. same_stands (K low) here.keeping (behind step next) env xs t2 (sym same_scope) last_parts) (λ xs t2 x. x) d2))
      d) in
      loop_follows t (checked_in_scope (checked_does chk body c) >?> (λ _. checked_does chk step c)) (joined (stmt_code env body) (stmt_code next step)) scope known ready.well
      (front_then (front body env) next_front) test_fits on_round
      (Rattle.mpl_gen_code.proofs.Adding.adds_then outer.declarations W.vowed (adds_in_scope outer.declarations W.vowed (adds_does outer.declarations W.vowed chk c plain regular body)) (λ _. adds_does outer.declarations W.vowed chk c plain regular step))
      p q from inside (W.setting.turns + 1) low above vs s (omega arith) stands m

  loops_follow : (start : Stmt) (t : Expr) (step body : Stmt) → Follows start → Follows step → Follows body → Follows (form.Loops start t step body)
  loops_follow start t step body on_start on_step on_body scope known low above p q vs s from inside fits ready stands m =
      let env = at scope known in
      let env1 = behind start env in
      let env2 = behind_block body env1 in
      let last = behind step env2 in
      let one_is : env1 ≡ at env1.scope env1.sizes = same_behind start env in
      let two_is : env2 ≡ at env2.scope env2.sizes = out_same env1 (behind body env1) (same_behind body env1) ∙ ap (λ (o : Env). at_scope o env1.scope (behind body env1).sizes) one_is in
      let parts = from_joined text (stmt_code env start) (loop (value_code env1 t) (joined (stmt_code env1 body) (stmt_code env2 step))) p q from in
      let fronts_one = front_then (front body env1) (front_then (front step env2) ready.fronts) in
      let last_parts : (out_of env last).parts ≡ (out_of env env1).parts =
      ap Env.parts (same_behind step env2) ∙ ap Env.parts two_is ∙ sym (ap Env.parts one_is) in
      on_start scope known low above p parts.middle vs s parts.first (before q parts.middle parts.within inside) fits.0 (record { well = ready.well; fronts = fronts_one }) stands
      (meets_on (K low) outer.declarations (Done (K low) env1 q) (Done (K low) env1 parts.middle) (checked_does chk start c s) _
      (λ _. adds_while outer.declarations W.vowed _ W.setting.turns (adds_value outer.declarations W.vowed chk c plain regular t)
      (Rattle.mpl_gen_code.proofs.Adding.adds_then outer.declarations W.vowed (adds_in_scope outer.declarations W.vowed (adds_does outer.declarations W.vowed chk c plain regular body)) (λ _. adds_does outer.declarations W.vowed chk c plain regular step)))
      (λ u s1 d us stands1.
      subst (StepsAt t step body) (sym one_is) (steps_follow t step body on_step on_body env1.scope env1.sizes) low above parts.middle q us s1 parts.second inside fits.1 fits.2 fits.3 fits.4
      (record { well = well_behind start env ready.well; fronts = ready.fronts }) stands1 d)
      (out_of_scope low env env1 q vs s _ (grown start env) stands
      (done_like low (out_of env last) (out_of env env1) q q _ (λ us t1. same_stands (K low) here.keeping (out_of env env1) (out_of env last) us t1 refl last_parts) (λ us t1 x. x) m)))

  -- a statement, and then the others
  then_follow : (stmt : Stmt) (stmts : Stmts) → Follows stmt → FollowsAll stmts → FollowsAll (form.MoreStmts stmt stmts)
  then_follow stmt stmts on_stmt on_stmts scope known low above p q vs s from inside fits ready stands m =
      let env = at scope known in
      let next = behind stmt env in
      let parts = from_joined text (stmt_code env stmt) (stmts_code next stmts) p q from in
      on_stmt scope known low above p parts.middle vs s parts.first (before q parts.middle parts.within inside) fits.0 (record { well = ready.well; fronts = front_then (front_all stmts next) ready.fronts }) stands
      (meets_on (K low) outer.declarations (Done (K low) (behind_all stmts next) q) (Done (K low) next parts.middle) (checked_does chk stmt c s) _
      (λ _. adds_in_turn outer.declarations W.vowed _ (adds_each outer.declarations W.vowed chk c plain regular stmts))
      (λ u s1 d us stands1. all_anywhere stmts on_stmts next (same_behind stmt env) low above parts.middle q us s1 parts.second inside fits.1 (record { well = well_behind stmt env ready.well; fronts = ready.fronts }) stands1 d)
      m)

  -- ---- all statements

  mutual
    pub stmt_follows : (stmt : Stmt) → Follows stmt
    stmt_follows form.Nothing = λ scope known low above p q vs s from inside fits ready stands m. here_at [] vs s from (m.1 vs stands)
    stmt_follows (form.Within stmts) = λ scope known low above p q vs s from inside fits ready stands m.
        stmts_follow stmts scope known low above p q vs s from inside fits (record { well = ready.well; fronts = ready.fronts }) stands
        (out_of_scope low (at scope known) (behind_all stmts (at scope known)) q vs s _ (grown_all stmts (at scope known)) stands m)
    stmt_follows (form.Locals type locals) = λ scope known low above p q vs s from inside fits ready stands m.
        locals_follow (K low) may outer inner callees base below above (allowed low) (around low) plain regular type locals scope known p q vs s from inside fits ready stands m
    stmt_follows (form.Assigns node place value) = assignment place value node
    stmt_follows (form.Calls t) = λ scope known low above p q vs s from inside fits ready stands m.
        calls_follow (K low) may (at scope known) inner callees base below above (allowed low) (scoped_at low scope known ready.well ready.fronts) (around low) plain regular (writable low) vs t p q s from inside fits stands m
    stmt_follows (form.Creates node t) = λ scope known low above p q vs s from inside fits ready stands m.
        creates_follow (K low) may (at scope known) inner callees base below above (allowed low) (scoped_at low scope known ready.well ready.fronts) (around low) plain regular (writable low) node t p q vs s stands from fits m
    stmt_follows (form.When t then_part) = when_follows t then_part (stmt_follows then_part)
    stmt_follows (form.Branches t then_part else_part) = branches_follow t then_part else_part (stmt_follows then_part) (stmt_follows else_part)
    stmt_follows (form.Repeats t body) = repeats_follow t body (stmt_follows body)
    stmt_follows (form.Loops start t step body) = loops_follow start t step body (stmt_follows start) (stmt_follows step) (stmt_follows body)
    stmt_follows (form.Prints node ts) = λ scope known low above p q vs s from inside fits ready stands m.
        prints_follow (K low) may (at scope known) inner callees base below above (allowed low) (scoped_at low scope known ready.well ready.fronts) (around low) plain regular (writable low) vs ts p q s from inside fits.0 fits.1 stands m
    stmt_follows (form.Gives node t) = λ scope known low above p q vs s from inside fits ready stands m.
        gives_follow (K low) may (at scope known) inner callees base below above (allowed low) (scoped_at low scope known ready.well ready.fronts) (around low) plain regular (writable low) vs node.line t p q s from inside fits.0 fits.1 stands m
    stmt_follows (form.Returns node o) = λ scope known low above p q vs s from inside fits ready stands m.
        returns_follow (K low) may (at scope known) inner callees base below above (allowed low) (scoped_at low scope known ready.well ready.fronts) (around low) plain regular (writable low) vs outer.finish finishes (ends low) o p q s from inside fits stands m

    pub stmts_follow : (stmts : Stmts) → FollowsAll stmts
    stmts_follow form.NoStmt = λ scope known low above p q vs s from inside fits ready stands m. here_at [] vs s from (m.1 vs stands)
    stmts_follow (form.MoreStmts stmt stmts) = then_follow stmt stmts (stmt_follows stmt) (stmts_follow stmts)
