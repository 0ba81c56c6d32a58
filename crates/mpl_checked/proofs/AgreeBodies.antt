-- Checked bodies are as they are meant, in place and alone.
use Rattle.std.proofs.Common.{◌≡◌, ℕ, zero, suc, ◌+◌, Bool, true, false, List, [], ◌∷◌, length, map, drop, Option, Some, None, if◌then◌else◌, ℤ, refl, ap, sym, subst, ◌∙◌, arith}
use Rattle.std.specs.FinMap.{FinMap, empty}
use Rattle.std.specs.Ordering.{nat_cmp}
use Rattle.std.specs.Prelude.{codes, nat_lt}
use Rattle.mpl_ast.specs.declared.class.Formal.{Formal}
use Rattle.mpl_ast.specs.declared.program.Declaration.{Declaration}
use Rattle.mpl_ast.specs.declared.program.Program.{Program}
use Rattle.mpl_ast.specs.declared.statement.Statement.{Statement}
use Rattle.mpl_value.specs.declared.body.Arg.{Arg}
use Rattle.mpl_value.specs.declared.body.BodyEnd.{BodyEnd}
use Rattle.mpl_value.specs.declared.body.BodyEnd.TheVariants as end
use Rattle.mpl_value.specs.declared.body.BodyResult.{BodyResult}
use Rattle.mpl_value.specs.declared.body.BodyStart.{BodyStart}
use Rattle.mpl_value.specs.declared.body.MemberId.{MemberId}
use Rattle.mpl_value.specs.declared.known.Known.{Known}
use Rattle.mpl_mean.specs.Meaning.BodyMeaning.{back_with, body_of, callees_at, context_with, formals_holding, in_class, main_yield, member_body, member_end, member_of_classes, member_yield, run, split_words, statements_of, store_of, store_with, with_variables, yield_of}
use Rattle.mpl_mean.specs.Meaning.Context.{Context}
use Rattle.mpl_mean.specs.Meaning.Layout.{Class, Function, Member, class_named, classes_of, function_named, member_named, parts_of, words_of}
use Rattle.mpl_mean.specs.Meaning.StatementMeaning.{Does, Effect}
use Rattle.mpl_mean.specs.Meaning.Store.{Store, Outcome, Goes, Returns, Ends, ◌>>◌, and_then, in_turn, spend, stop}
use Rattle.mpl_mean.specs.Plain.Scopes.{Shape, formal_shape}
use Rattle.mpl_mean.specs.Plain.Stmt.{Stmts, NoStmt, stmts_of}
use Rattle.mpl_mean.specs.Pending.BodyWays.{stmts_ways}
use Rattle.mpl_mean.specs.Pending.Looseness.{Event, Path, none_loose}
use Rattle.mpl_mean.specs.Pending.MayBePending.{AnyMarked, MayBePending, all_ways, function_ways, member_ways}
use Rattle.mpl_mean.specs.Pending.Paths.{Marked, UpTo, Ways, NoEvent}
use Rattle.mpl_plain.specs.StmtMeaning.{trees_do, trees_run}
use Rattle.mpl_plain.proofs.StmtsSame.{run_same}
use Rattle.mpl_plain.specs.Arity.{StatementsFit}
use Rattle.mpl_checked.proofs.Fitting.{BodiesFit}
use Rattle.mpl_checked.specs.Checked.CheckedBodies.{after_function, after_member, checked_body, checked_callees_at, checked_of_class, checked_run, checked_yield, stmts_of_function}
use Rattle.mpl_checked.specs.Checked.CheckedStatements.{checked_each}
use Rattle.mpl_checked.specs.Checked.CheckedSteps.{Meant, Checking, checked_in_turn, unless_astray}
use Rattle.mpl_checked.proofs.Agreeing.{Any, Anything, Keeps, kept, quiet_then}
use Rattle.mpl_checked.proofs.AgreeForms.{Below, keeps_spend}
use Rattle.mpl_checked.proofs.AgreeStatements.{behind_all, stmts_agree}
use Rattle.mpl_checked.proofs.AnyBody.{function_marked, member_marked, numbered_marked}
use Rattle.mpl_checked.proofs.Covering.{Covers}
use Rattle.mpl_checked.proofs.Standing.{Beside}
use Rattle.mpl_checked.proofs.Uses.{env_of}

-- ---- formals

formals_beside : (formals : List Formal) (arguments : List (List ℤ)) → length formals ≡ length arguments → Beside none_loose (map formal_shape formals) (formals_holding formals arguments)
formals_beside [] [] e = tt
formals_beside [] (words ∷ arguments) e = absurd (let e' : 0 ≡ suc (length arguments) = e in omega arith)
formals_beside (formal ∷ formals) [] e = absurd (let e' : suc (length formals) ≡ 0 = e in omega arith)
formals_beside (formal ∷ formals) (words ∷ arguments) e =
    (record { name = refl; type = refl; known = λ off. tt }, formals_beside formals arguments (let e' : suc (length formals) ≡ suc (length arguments) = e in let less : length formals ≡ length arguments = omega arith in less))

split_sized : (ds : List Declaration) (formals : List Formal) (words : List ℤ) → length formals ≡ length (split_words ds formals words)
split_sized ds [] words = refl
split_sized ds (formal ∷ formals) words = ap suc (split_sized ds formals (drop (words_of ds formal.type_name None) words))

-- ---- a body

-- marks that have what is marked cover a body from its start
pub covers_body_of : (marks : ℕ → Bool) (ways : Ways) → ((node : ℕ) → Marked ways node → marks node ≡ true) → Covers marks ways none_loose
covers_body_of marks ways h = record { marked = λ node variable path upto e. h node (record { variable = variable; path = path; leads = upto; is_loose = e }) }

runs_so : (checking : Checking) (c : Context) → Below checking c → (scope : List Shape) (stmts : Stmts) (s : Store) → StatementsFit (env_of c scope) stmts → Covers checking.marks (stmts_ways (env_of c scope) stmts) none_loose
    → Beside none_loose scope s.variables → checked_run checking c stmts s ≡ Meant (trees_run c stmts s)
runs_so checking c below scope stmts s fits covers beside =
    let is = quiet_then (stmts_ways (env_of c scope) stmts) scope (behind_all stmts (env_of c scope)).scope none_loose Any Any (Meant (spend c.turns s)) (spend c.turns s)
    (λ _. checked_in_turn (checked_each checking stmts c)) (λ _. in_turn (map (λ (does : Does). does c) (trees_do stmts)))
    (kept scope none_loose Anything s (spend c.turns s) beside (keeps_spend c.turns s))
    (λ u t beside1 _. (stmts_agree checking c below stmts scope fits).0 none_loose t covers beside1) in
    is.same

-- as the statements of the tree
body_so : (checking : Checking) (c : Context) → Below checking c → (scope : List Shape) (statements : List Statement) (stmts : Stmts) (s : Store) → run c statements ≡ trees_run c stmts → StatementsFit (env_of c scope) stmts
    → Covers checking.marks (stmts_ways (env_of c scope) stmts) none_loose → Beside none_loose scope s.variables → checked_run checking c stmts s ≡ Meant (run c statements s)
body_so checking c below scope statements stmts s same fits covers beside = runs_so checking c below scope stmts s fits covers beside ∙ ap (λ (f : Effect). Meant (f s)) (sym same)

-- ---- what comes back to a caller

keeps_function : (f : Function) (s : Store) (o : Outcome (Unit {0})) → Keeps Anything s (after_function f s o)
keeps_function f s (Goes value t) = tt
keeps_function f s (Returns words t) = (refl, tt)
keeps_function f s (Ends e t) = tt

keeps_back : (turns : ℕ) (s : Store) (e : BodyEnd) (result : BodyResult) → Keeps Anything s (back_with turns (e, result) s)
keeps_back turns s end.Done result = (refl, tt)
keeps_back turns s (end.Trap trap) result = (refl, tt)
keeps_back turns s end.Waits result = (refl, tt)
keeps_back turns s end.Spent result = tt

keeps_member : (m : Member) (s : Store) (o : Outcome (Unit {0})) → Keeps Anything s (after_member m s o)
keeps_member m s o = keeps_back (store_of o).turns s (member_end m o).0 (member_end m o).1

keeps_spent : (A : Type 0) (turns : ℕ) (s : Store) → Keeps {A = A} Anything s ((spend turns >> stop {A = A} end.Spent) s)
keeps_spent A turns s = chosen (nat_lt s.turns turns) where
  chosen : (b : Bool)
      → Keeps {A = A} Anything s (and_then {A = Unit {0}} {B = A} (if b then Goes tt (record s { turns = s.turns + 1 }) else Ends end.Spent (record s { turns = s.turns + 1 })) (λ _. stop end.Spent))
  chosen true = tt
  chosen false = tt

no_use : {event : Event} {path : Path} → UpTo event NoEvent path → ⊥
no_use h = elim h [ ]

-- ---- levels of calls

module _ (ds : List Declaration) (fit : BodiesFit ds) (marks : ℕ → Bool) (holds : (node : ℕ) → AnyMarked (all_ways ds) node → marks node ≡ true) where
  abbrev checking_at : ℕ → ℕ → FinMap nat_cmp Known → Checking
  checking_at level turns replies = record { marks = marks; callees = checked_callees_at marks level ds turns replies }

  abbrev context_at : ℕ → ℕ → FinMap nat_cmp Known → Context
  context_at level turns replies = context_with ds turns replies (callees_at level ds turns replies)

  regular_fits : (name member : List ℕ) (class : Class) (m : Member) → class_named name (classes_of ds) ≡ Some class → class.is_regular ≡ true → member_named member class.members ≡ Some m
      → StatementsFit (env_of (context_with ds 0 empty (callees_at 0 ds 0 empty)) (map formal_shape m.formals)) (stmts_of m.body)
      × Covers marks (stmts_ways (env_of (context_with ds 0 empty (callees_at 0 ds 0 empty)) (map formal_shape m.formals)) (stmts_of m.body)) none_loose
  regular_fits name member class m e regular found =
      subst (λ b. StatementsFit (record { declarations = ds; members = if b then [] else class.members; parts = if b then [] else parts_of ds class.state; scope = map formal_shape m.formals }) (stmts_of m.body)
      × Covers marks (stmts_ways (record { declarations = ds; members = if b then [] else class.members; parts = if b then [] else parts_of ds class.state; scope = map formal_shape m.formals }) (stmts_of m.body)) none_loose)
      regular (fit.regular name member class m e regular found, covers_body_of marks (member_ways ds class m) (λ node h. holds node (member_marked ds name member class m node e found h)))

  pub levels_below : (level turns : ℕ) (replies : FinMap nat_cmp Known) → Below (checking_at level turns replies) (context_at level turns replies)
  levels_below zero turns replies = record {
    plain = λ name f is arguments sized s. (refl, keeps_spent (List ℤ) turns s);
    regular = λ name member class m is regular found arguments sized s. (refl, keeps_spent Arg turns s);
  }
  levels_below (suc level) turns replies = record {
    plain = λ name f is arguments sized s.
        let t : Store = with_variables (formals_holding f.formals arguments) s in (
          ap (unless_astray (after_function f s))
              (body_so (checking_at level turns replies) (context_at level turns replies) (levels_below level turns replies) (map formal_shape f.formals) f.body.statements (stmts_of f.body) t
              (run_same (context_at level turns replies) f.body.statements) (fit.function name f is)
              (covers_body_of marks (function_ways ds f) (λ node h. holds node (function_marked ds name f node is h))) (formals_beside f.formals arguments sized)),
          keeps_function f s (run (context_at level turns replies) f.body.statements t),
        );
    regular = λ name member class m is regular found arguments sized s.
        let t : Store = store_with (formals_holding m.formals arguments) [] [] s.turns in
        let fits = regular_fits name member class m is regular found in (
          ap (unless_astray (after_member m s))
              (body_so (checking_at level turns empty) (context_at level turns empty) (levels_below level turns empty) (map formal_shape m.formals) m.body.statements (stmts_of m.body) t
              (run_same (context_at level turns empty) m.body.statements) fits.0 fits.1 (formals_beside m.formals arguments sized)),
          keeps_member m s (run (context_at level turns empty) m.body.statements t),
        );
  }

  -- ---- bodies from their starts

  main_so : (turns : ℕ) (replies : FinMap nat_cmp Known) (start : BodyStart) (f : Option Function) → function_named (codes "main") ds ≡ f
      → checked_run (checking_at turns turns replies) (record (context_at turns turns replies) { number = start.number }) (stmts_of_function f) (store_with [] start.state start.input 0)
      ≡ Meant (run (record (context_at turns turns replies) { number = start.number }) (statements_of f) (store_with [] start.state start.input 0))
  main_so turns replies start None is =
      let below = levels_below turns turns replies in
      body_so (checking_at turns turns replies) (record (context_at turns turns replies) { number = start.number }) (record { plain = below.plain; regular = below.regular }) [] [] NoStmt (store_with [] start.state start.input 0)
      refl tt (record { marked = λ node variable path upto e. absurd (no_use upto) }) tt
  main_so turns replies start (Some f) is =
      let below = levels_below turns turns replies in
      let c : Context = record (context_at turns turns replies) { number = start.number } in
      let fits = subst (λ (formals : List Formal). StatementsFit (env_of c (map formal_shape formals)) (stmts_of f.body) × Covers marks (stmts_ways (env_of c (map formal_shape formals)) (stmts_of f.body)) none_loose) (fit.main f is)
      (fit.function (codes "main") f is, covers_body_of marks (function_ways ds f) (λ node h. holds node (function_marked ds (codes "main") f node is h))) in
      body_so (checking_at turns turns replies) c (record { plain = below.plain; regular = below.regular }) [] f.body.statements (stmts_of f.body) (store_with [] start.state start.input 0)
      (run_same c f.body.statements) fits.0 fits.1 tt

  member_so : (turns : ℕ) (replies : FinMap nat_cmp Known) (start : BodyStart) (id : ℕ) (found : Option (Class × Member)) → member_of_classes id (classes_of ds) ≡ found
      → checked_of_class (checking_at turns turns replies) (context_at turns turns replies) start found ≡ Meant (member_body (context_at turns turns replies) start found)
  member_so turns replies start id None is = refl
  member_so turns replies start id (Some found) is =
      let below = levels_below turns turns replies in
      let c : Context = in_class found.0 start (context_at turns turns replies) in
      let m = found.1 in
      let words = split_words ds m.formals start.args in
      ap (unless_astray (member_yield m))
      (body_so (checking_at turns turns replies) c (record { plain = below.plain; regular = below.regular }) (map formal_shape m.formals) m.body.statements (stmts_of m.body)
      (store_with (formals_holding m.formals words) start.state start.input 0) (run_same c m.body.statements) (fit.member id found is)
      (covers_body_of marks (member_ways ds found.0 m) (λ node h. holds node (numbered_marked ds id found node is h))) (formals_beside m.formals words (split_sized ds m.formals start.args)))

  body_yields : (turns : ℕ) (replies : FinMap nat_cmp Known) (start : BodyStart) (member : Option MemberId)
      → checked_body (checking_at turns turns replies) (context_at turns turns replies) start member ≡ Meant (body_of (context_at turns turns replies) start member)
  body_yields turns replies start None = ap (unless_astray main_yield) (main_so turns replies start (function_named (codes "main") ds) refl)
  body_yields turns replies start (Some m) = member_so turns replies start m.0 (member_of_classes m.0 (classes_of ds)) refl

pub yields_so : (p : Program) → BodiesFit p.declarations → (marks : ℕ → Bool) → ((node : ℕ) → MayBePending p node → marks node ≡ true)
    → (start : BodyStart) (replies : FinMap nat_cmp Known) (turns : ℕ) → checked_yield marks p start replies turns ≡ Meant (yield_of p start replies turns)
yields_so p fit marks holds start replies turns = body_yields p.declarations fit marks holds turns replies start start.member
