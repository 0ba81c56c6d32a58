-- What a body does counts its turns.
use Rattle.std.proofs.Common.{◌≡◌, ℕ, zero, suc, ◌+◌, ◌≤◌, Bool, true, false, List, [], ◌∷◌, Option, Some, None, if◌then◌else◌, ℤ, refl, arith}
use Rattle.std.specs.FinMap.{FinMap, empty}
use Rattle.std.specs.Ordering.{nat_cmp}
use Rattle.mpl_ast.specs.declared.program.Declaration.{Declaration}
use Rattle.mpl_ast.specs.declared.statement.Statement.{Statement}
use Rattle.mpl_value.specs.declared.body.Arg.{Arg}
use Rattle.mpl_value.specs.declared.body.Arg.TheVariants.{Know, Trapped, Unknown}
use Rattle.mpl_value.specs.declared.body.BodyEnd.TheVariants as end
use Rattle.mpl_value.specs.declared.body.BodyResult.{BodyResult}
use Rattle.mpl_value.specs.declared.body.BodyResult.TheVariants as result
use Rattle.mpl_value.specs.declared.known.Known.{Known}
use Rattle.mpl_value.specs.declared.known.Trap.{Trap}
use Rattle.mpl_mean.specs.Meaning.BodyMeaning.{callees_at, context_with, formals_holding, plain_body, regular_body, run, store_with}
use Rattle.mpl_value.specs.CallAnswers.{any_unknown, leftmost_trap, known_words}
use Rattle.mpl_mean.specs.Meaning.CallMeaning.{unless_trapped}
use Rattle.mpl_mean.specs.Meaning.Context.{Context}
use Rattle.mpl_mean.specs.Meaning.ExpressionMeaning.{next_of, next_number}
use Rattle.mpl_mean.specs.Meaning.Layout.{Function, Member}
use Rattle.mpl_mean.specs.Meaning.StatementMeaning.{give_result, gives_result}
use Rattle.mpl_mean.specs.Meaning.Store.{Store, Outcome, Goes, Returns, Ends, Step, force, pure, stop, variable_named}
use Rattle.mpl_mean.proofs.Allowance.Counted.{Counted, Exact, quiet, then_counted, turn_counted, spend_counted, loop_counted, scope_counted}
use Rattle.mpl_mean.proofs.MoreReplies.ComesBack.{after_plain, after_regular}
use Rattle.mpl_mean.proofs.MoreReplies.Follows.{store_after}
use Rattle.mpl_mean.proofs.Simulations.KeptStatements.{body_kept}
use Rattle.mpl_mean.proofs.Simulations.Simulation.{Simulation, BelowBeside, Same, VariableBeside, maybe_itself, variable_itself, zip_itself}
use Rattle.mpl_mean.proofs.Simulations.UnlessSpent.{is_spent}

-- ---- what is forced, read and given takes no turn

abbrev pub IsQuiet : {A : Type 0} → Store → Outcome A → Type 0
IsQuiet s o = (is_spent o ≡ false) × ((store_after o).turns ≡ s.turns)

pub force_quiet : (a : Arg) (s : Store) → IsQuiet s (force a s)
force_quiet (Know words) s = (refl, refl)
force_quiet (Trapped t) s = (refl, refl)
force_quiet Unknown s = (refl, refl)

pub next_quiet : (line : ℕ) (input : List ℤ) (s : Store) → IsQuiet s (next_of line input s)
next_quiet line [] s = (refl, refl)
next_quiet line (z ∷ input) s = (refl, refl)

pub given_quiet : (line : ℕ) (a : Arg) (r : BodyResult) (s : Store) → IsQuiet s (give_result line a r s)
given_quiet line a result.Open s = (refl, refl)
given_quiet line a (result.Known known) s = (refl, refl)
given_quiet line a result.Unknown s = (refl, refl)

-- ---- answers

unless_counted : (n low : ℕ) (trap : Option Trap) (f : Step Arg) → Counted n low f → Counted n low (unless_trapped trap f)
unless_counted n low None f r = r
unless_counted n low (Some t) f r = quiet n low (pure (Trapped t)) (λ s. (refl, refl))

pub answer_of : (n low : ℕ) (unknown : Bool) (trap : Option Trap) (f : Step Arg) → Counted n low f → Counted n low (if unknown then pure Unknown else unless_trapped trap f)
answer_of n low true trap f r = quiet n low (pure Unknown) (λ s. (refl, refl))
answer_of n low false trap f r = unless_counted n low trap f r

-- ---- bodies in place

plain_exact : (n : ℕ) (f : Function) (s : Store) (o : Outcome (Unit {0})) → Exact n s o → Exact n s (after_plain f s o)
plain_exact n f s (Goes value t) e = record { grows = e.grows; exact = e.exact }
plain_exact n f s (Returns words t) e = record { grows = e.grows; exact = e.exact }
plain_exact n f s (Ends x t) e = record { grows = e.grows; exact = e.exact }

regular_exact : (n : ℕ) (m : Member) (s : Store) (o : Outcome (Unit {0})) → Exact n s o → Exact n s (after_regular m s o)
regular_exact n m s (Goes value t) e = record { grows = e.grows; exact = e.exact }
regular_exact n m s (Returns words t) e = record { grows = e.grows; exact = e.exact }
regular_exact n m s (Ends end.Done t) e = record { grows = e.grows; exact = e.exact }
regular_exact n m s (Ends (end.Trap trap) t) e = record { grows = e.grows; exact = e.exact }
regular_exact n m s (Ends end.Waits t) e = record { grows = e.grows; exact = e.exact }
regular_exact n m s (Ends end.Spent t) e = record { grows = e.grows; exact = e.exact }

-- a run at another store with as many turns
at_store : (n : ℕ) (s t : Store) {A : Type 0} {o : Outcome A} → s.turns ≡ t.turns → Exact n t o → Exact n s o
at_store n s t h e = let i = e.grows in record { grows = omega (arith, h); exact = e.exact }

pub plain_counted : (n low : ℕ) (x : Context) (f : Function) (arguments : List (List ℤ)) → Counted n low (run x f.body.statements) → Counted n low (plain_body x f arguments)
plain_counted n low x f arguments r s from to =
    let t = record s { variables = formals_holding f.formals arguments } in plain_exact n f s _ (at_store n s t refl (r t from to))

pub regular_counted : (n low : ℕ) (x : Context) (m : Member) (arguments : List (List ℤ)) → Counted n low (run x m.body.statements) → Counted n low (regular_body x m arguments)
regular_counted n low x m arguments r s from to =
    let t = store_with (formals_holding m.formals arguments) [] [] s.turns in regular_exact n m s _ (at_store n s t refl (r t from to))

-- ---- all steps

abbrev pub by_count : (n low : ℕ) → FinMap nat_cmp Known → Simulation
by_count n low replies = record {
  n = n;
  m = n;
  replies = replies;
  more = replies;
  Held = Same;
  Serves = λ A V. (a : A) → V a a;
  Steps = λ A V f g. Counted n low f;
  Answers = λ f g. Counted n low f;
  same = λ A a. refl;
  held = λ a. refl;
  all_held = zip_itself Same (λ a. refl);
  itself = λ a. refl;
  gives = λ A V a b serves v. quiet n low (pure a) (λ s. (refl, refl));
  goes_on = λ A B V W f g h k serves r q. then_counted n low f h r (λ a. q a a (serves a));
  traps = λ A V t. quiet n low (stop (end.Trap t)) (λ s. (refl, refl));
  waiting = λ A V. quiet n low (stop end.Waits) (λ s. (refl, refl));
  spends = spend_counted n low;
  looks = λ A V name h k r s. let v = variable_named name s.variables in r v v (maybe_itself (VariableBeside Same) (variable_itself Same (λ a. refl)) v) s;
  returns = λ words. quiet n low (λ s. Returns words s) (λ s. (refl, refl));
  state = quiet n low (λ s. Goes s.state s) (λ s. (refl, refl));
  restates = λ offset words. quiet n low _ (λ s. (refl, refl));
  forces = λ a b e. quiet n low (force a) (force_quiet a);
  holds = λ name a b e. quiet n low _ (λ s. (refl, refl));
  declares = λ v w e. quiet n low _ (λ s. (refl, refl));
  scopes = λ A V f g r. scope_counted n low f r;
  prints = λ text. quiet n low _ (λ s. (refl, refl));
  inputs = λ line. quiet n low (next_number line) (λ s. next_quiet line s.input s);
  makes = λ object member args others e. quiet n low _ (λ s. (refl, refl));
  creates = λ x class. quiet n low _ (λ s. (refl, refl));
  results = λ line a b e. quiet n low (gives_result line a) (λ s. given_quiet line a s.result s);
  answers = λ args others f g h r. answer_of n low (any_unknown args) (leftmost_trap args) (f (known_words args)) (r (known_words args));
  replied = λ k. quiet n low _ (λ s. (refl, refl));
  loops = λ f g h k r q. loop_counted (n + 1) n low f h (omega arith) r q;
  in_plain = λ x y f arguments r. plain_counted n low x f arguments r;
  in_regular = λ x y m arguments r. regular_counted n low x m arguments r;
}

-- ---- levels

none_counted : (n low : ℕ) {A : Type 0} → n ≤ low → Counted n (low + 1) {A = A} (stop end.Spent)
none_counted n low few s from to = absurd (omega arith)

-- As many levels as turns are left: each start of a body takes one.
pub below_counted : (ds : List Declaration) (n : ℕ) (replies : FinMap nat_cmp Known) (level low : ℕ) → n ≤ low + level
    → BelowBeside (by_count n low replies) (callees_at level ds n replies) (callees_at level ds n replies)
below_counted ds n replies zero low few =
    record {
      plain = λ f arguments. turn_counted n low (stop end.Spent) (none_counted n low (omega arith));
      regular = λ m arguments. turn_counted n low (stop end.Spent) (none_counted n low (omega arith));
    }
below_counted ds n replies (suc level) low few =
    let ran = (λ (replies : FinMap nat_cmp Known) (ts : List Statement).
    let b = callees_at level ds n replies in
    turn_counted n low _ (body_kept (by_count n (low + 1) replies) b b (below_counted ds n replies level (low + 1) (omega arith)) (context_with ds n replies b) ts)) in
    record {
      plain = λ f arguments. plain_counted n low (context_with ds n replies (callees_at level ds n replies)) f arguments (ran replies f.body.statements);
      regular = λ m arguments. regular_counted n low (context_with ds n empty (callees_at level ds n empty)) m arguments (ran empty m.body.statements);
    }

-- the whole run of a body, with all its levels
pub run_counted : (ds : List Declaration) (n : ℕ) (replies : FinMap nat_cmp Known) (x : Context) (ts : List Statement)
    → Counted n 0 (run (record x { turns = n; replies = replies; callees = callees_at n ds n replies }) ts)
run_counted ds n replies x ts =
    let b = callees_at n ds n replies in
    turn_counted n 0 _ (body_kept (by_count n 1 replies) b b (below_counted ds n replies n 1 (omega arith)) x ts)
