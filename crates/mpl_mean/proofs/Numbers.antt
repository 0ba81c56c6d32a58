-- A body numbers its calls.
use Rattle.std.proofs.Common.{◌≡◌, ℕ, zero, suc, ◌+◌, Bool, true, false, List, [], ◌∷◌, ◌++◌, length, Option, Some, None, if◌then◌else◌, nat_lt, ℤ, refl, sym, subst, arith}
use Rattle.std.specs.FinMap.{FinMap, empty}
use Rattle.std.specs.Ordering.{nat_cmp}
use Rattle.mpl_ast.specs.declared.program.Declaration.{Declaration}
use Rattle.mpl_ast.specs.declared.program.Program.{Program}
use Rattle.mpl_value.specs.declared.body.Arg.{Arg}
use Rattle.mpl_value.specs.declared.body.Arg.TheVariants.{Know, Trapped, Unknown}
use Rattle.mpl_value.specs.declared.body.BodyEnd.TheVariants as end
use Rattle.mpl_value.specs.declared.body.BodyResult.{BodyResult}
use Rattle.mpl_value.specs.declared.body.BodyResult.TheVariants as result
use Rattle.mpl_value.specs.declared.body.BodyStart.{BodyStart}
use Rattle.mpl_value.specs.declared.body.CallMade.{CallMade}
use Rattle.mpl_value.specs.declared.body.MemberId.{MemberId}
use Rattle.mpl_value.specs.declared.body.Yield.{Yield}
use Rattle.mpl_value.specs.declared.known.Known.{Known}
use Rattle.mpl_value.specs.declared.known.Trap.{Trap}
use Rattle.mpl_value.specs.CallAnswers.{any_unknown, known_words, leftmost_trap}
use Rattle.mpl_mean.specs.Laws.Numbers.{NumberedFrom}
use Rattle.mpl_mean.specs.Meaning.BodyMeaning.{callees_at, body_of, context_with, formals_holding, in_class, main_statements, main_yield, member_body, member_of_classes, member_yield, run, split_words, store_with, yield_of}
use Rattle.mpl_mean.specs.Meaning.CallMeaning.{unless_trapped}
use Rattle.mpl_mean.specs.Meaning.Context.{Context}
use Rattle.mpl_mean.specs.Meaning.ExpressionMeaning.{next_of, next_number}
use Rattle.mpl_mean.specs.Meaning.Layout.{Class, Function, Member, classes_of}
use Rattle.mpl_mean.specs.Meaning.StatementMeaning.{Effect, give_result, gives_result, nothing, while_loop}
use Rattle.mpl_mean.specs.Meaning.Store.{Store, Outcome, Goes, Returns, Ends, Step, ◌>>=◌, ◌>>◌, and_then, force, only_oldest, pure, spend, stop, variable_named}
use Rattle.mpl_mean.specs.Meaning.Values.{Value, is_true}
use Rattle.mpl_mean.proofs.Allowance.Tells.{Tells, main_tells, member_tells}
use Rattle.mpl_mean.proofs.MoreReplies.ComesBack.{after_plain, after_regular}
use Rattle.mpl_mean.proofs.MoreReplies.Follows.{store_after}
use Rattle.mpl_mean.proofs.Simulations.KeptStatements.{run_kept}
use Rattle.mpl_mean.proofs.Simulations.Simulation.{Simulation, BelowBeside, Same, VariableBeside, maybe_itself, variable_itself, zip_itself}

-- a step after which the calls are numbered if they were before
abbrev Numbers : {A : Type 0} → Step A → Type 0
Numbers f = (s : Store) → NumberedFrom 1 s.calls → NumberedFrom 1 (store_after (f s)).calls

-- a step that makes no call
silent : {A : Type 0} (f : Step A) → ((s : Store) → (store_after (f s)).calls ≡ s.calls) → Numbers f
silent f h s n = subst (NumberedFrom 1) (sym (h s)) n

one_more : (k : ℕ) (calls : List CallMade) (call : CallMade) → NumberedFrom k calls → call.call ≡ k + length calls → NumberedFrom k (calls ++ call ∷ [])
one_more k [] call n e = (omega (arith, e), tt)
one_more k (c ∷ calls) call n e = (n.0, one_more (suc k) calls call n.1 (omega (arith, e)))

-- ---- one step after another

then_numbers : {A B : Type 0} (h : A → Step B) → ((a : A) → Numbers (h a)) → (o : Outcome A) → NumberedFrom 1 (store_after o).calls → NumberedFrom 1 (store_after (and_then o h)).calls
then_numbers h r (Goes a s) n = r a s n
then_numbers h r (Returns words s) n = n
then_numbers h r (Ends e s) n = n

goes_on : {A B : Type 0} (f : Step A) (h : A → Step B) → Numbers f → ((a : A) → Numbers (h a)) → Numbers (f >>= h)
goes_on f h r q s n = then_numbers h q (f s) (r s n)

spends : (n : ℕ) → Numbers (spend n)
spends n s h = by_test (nat_lt s.turns n) where
  by_test : (b : Bool) → NumberedFrom 1 (store_after {A = Unit {0}} (if b then Goes tt (record s { turns = s.turns + 1 }) else Ends end.Spent (record s { turns = s.turns + 1 }))).calls
  by_test true = h
  by_test false = h

in_turns : (n : ℕ) {A : Type 0} (rest : Step A) → Numbers rest → Numbers (spend n >> rest)
in_turns n {A} rest r s h = then_numbers {A = Unit {0}} (λ _. rest) (λ _. r) (spend n s) (spends n s h)

if_numbers : (b : Bool) (h : Effect) → Numbers h → Numbers (if b then h else nothing)
if_numbers true h r = r
if_numbers false h r = λ s n. n

loops : (fuel n : ℕ) (f : Step Value) (h : Effect) → Numbers f → Numbers h → Numbers (while_loop fuel n f h)
loops zero n f h r q = λ s i. i
loops (suc fuel) n f h r q =
    in_turns n (f >>= (λ v. if is_true v then (h >> while_loop fuel n f h) else nothing))
    (goes_on f _ r (λ v. if_numbers (is_true v) (h >> while_loop fuel n f h) (goes_on h (λ _. while_loop fuel n f h) q (λ _. loops fuel n f h r q))))

scoped : {A : Type 0} (count : ℕ) (o : Outcome A) → NumberedFrom 1 (store_after o).calls → NumberedFrom 1 (store_after (only_oldest count o)).calls
scoped count (Goes a s) n = n
scoped count (Returns words s) n = n
scoped count (Ends e s) n = n

-- ---- forms

forced : (a : Arg) (s : Store) → (store_after (force a s)).calls ≡ s.calls
forced (Know words) s = refl
forced (Trapped t) s = refl
forced Unknown s = refl

next_silent : (line : ℕ) (input : List ℤ) (s : Store) → (store_after (next_of line input s)).calls ≡ s.calls
next_silent line [] s = refl
next_silent line (z ∷ input) s = refl

given_silent : (line : ℕ) (a : Arg) (r : BodyResult) (s : Store) → (store_after (give_result line a r s)).calls ≡ s.calls
given_silent line a result.Open s = refl
given_silent line a (result.Known known) s = refl
given_silent line a result.Unknown s = refl

unless_numbers : (trap : Option Trap) (f : Step Arg) → Numbers f → Numbers (unless_trapped trap f)
unless_numbers None f r = r
unless_numbers (Some t) f r = λ s n. n

answers : (unknown : Bool) (trap : Option Trap) (f : Step Arg) → Numbers f → Numbers (if unknown then pure Unknown else unless_trapped trap f)
answers true trap f r = λ s n. n
answers false trap f r = unless_numbers trap f r

in_plain : (f : Function) (s : Store) (o : Outcome (Unit {0})) → NumberedFrom 1 (store_after o).calls → NumberedFrom 1 (store_after (after_plain f s o)).calls
in_plain f s (Goes value t) n = n
in_plain f s (Returns words t) n = n
in_plain f s (Ends e t) n = n

in_regular : (m : Member) (s : Store) (o : Outcome (Unit {0})) → NumberedFrom 1 s.calls → NumberedFrom 1 (store_after (after_regular m s o)).calls
in_regular m s (Goes value t) n = n
in_regular m s (Returns words t) n = n
in_regular m s (Ends end.Done t) n = n
in_regular m s (Ends (end.Trap trap) t) n = n
in_regular m s (Ends end.Waits t) n = n
in_regular m s (Ends end.Spent t) n = n

-- ---- all steps

abbrev by_numbers : ℕ → FinMap nat_cmp Known → Simulation
by_numbers n replies = record {
  n = n;
  m = n;
  replies = replies;
  more = replies;
  Held = Same;
  Serves = λ A V. (a : A) → V a a;
  Steps = λ A V f g. Numbers f;
  Answers = λ f g. Numbers f;
  same = λ A a. refl;
  held = λ a. refl;
  all_held = zip_itself Same (λ a. refl);
  itself = λ a. refl;
  gives = λ A V a b serves v s h. h;
  goes_on = λ A B V W f g h k serves r q. goes_on f h r (λ a. q a a (serves a));
  traps = λ A V t s h. h;
  waiting = λ A V s h. h;
  spends = spends n;
  looks = λ A V name h k r s. let v = variable_named name s.variables in r v v (maybe_itself (VariableBeside Same) (variable_itself Same (λ a. refl)) v) s;
  returns = λ words s h. h;
  state = λ s h. h;
  restates = λ offset words s h. h;
  forces = λ a b e. silent (force a) (forced a);
  holds = λ name a b e s h. h;
  declares = λ v w e s h. h;
  scopes = λ A V f g r s h. scoped _ (f s) (r s h);
  prints = λ text s h. h;
  inputs = λ line. silent (next_number line) (λ s. next_silent line s.input s);
  makes = λ object member args others e s h. one_more 1 s.calls _ h (omega arith);
  creates = λ x class s h. h;
  results = λ line a b e. silent (gives_result line a) (λ s. given_silent line a s.result s);
  answers = λ args others f g h r. answers (any_unknown args) (leftmost_trap args) (f (known_words args)) (r (known_words args));
  replied = λ k s h. h;
  loops = λ f g h k r q. loops (n + 1) n f h r q;
  in_plain = λ x y f arguments r s h. in_plain f s (run x f.body.statements (record s { variables = formals_holding f.formals arguments })) (r (record s { variables = formals_holding f.formals arguments }) h);
  in_regular = λ x y m arguments r s h. in_regular m s (run x m.body.statements (store_with (formals_holding m.formals arguments) [] [] s.turns)) h;
}

-- ---- levels

below : (ds : List Declaration) (n : ℕ) (replies : FinMap nat_cmp Known) (level : ℕ) → BelowBeside (by_numbers n replies) (callees_at level ds n replies) (callees_at level ds n replies)
below ds n replies zero = record {
  plain = λ f arguments. in_turns n (stop end.Spent) (λ s h. h);
  regular = λ m arguments. in_turns n (stop end.Spent) (λ s h. h);
}
below ds n replies (suc level) = record {
  plain = λ f arguments s h.
      let b = callees_at level ds n replies in
      in_plain f s (run (context_with ds n replies b) f.body.statements (record s { variables = formals_holding f.formals arguments })) (run_kept (by_numbers n replies) b b (below ds n replies level) (context_with ds n replies b) f.body.statements (record s { variables = formals_holding f.formals arguments }) h);
  regular = λ m arguments s h.
      let b = callees_at level ds n empty in in_regular m s (run (context_with ds n empty b) m.body.statements (store_with (formals_holding m.formals arguments) [] [] s.turns)) h;
}

-- ---- bodies

module _ (ds : List Declaration) (replies : FinMap nat_cmp Known) (n : ℕ) (start : BodyStart) where
  abbrev context : Context
  context = context_with ds n replies (callees_at n ds n replies)

  told : (o : Outcome (Unit {0})) (y : Yield) → Tells o y → NumberedFrom 1 (store_after o).calls → NumberedFrom 1 y.calls
  told o y t h = subst (NumberedFrom 1) t.calls h

  members_number : (found : Option (Class × Member)) → NumberedFrom 1 (member_body context start found).calls
  members_number None = tt
  members_number (Some found) =
      let s = store_with (formals_holding found.1.formals (split_words ds found.1.formals start.args)) start.state start.input 0 in
      let b = callees_at n ds n replies in
      let o = run (in_class found.0 start context) found.1.body.statements s in
      told o (member_yield found.1 o) (member_tells found.1 o) (run_kept (by_numbers n replies) b b (below ds n replies n) (in_class found.0 start context) found.1.body.statements s tt)

  bodies_number : (member : Option MemberId) → NumberedFrom 1 (body_of context start member).calls
  bodies_number None =
      let s = store_with [] start.state start.input 0 in
      let b = callees_at n ds n replies in
      let o = run (record context { number = start.number }) (main_statements ds) s in
      told o (main_yield o) (main_tells o) (run_kept (by_numbers n replies) b b (below ds n replies n) (record context { number = start.number }) (main_statements ds) s tt)
  bodies_number (Some m) = members_number (member_of_classes m.0 (classes_of ds))

pub yield_numbers : (p : Program) (start : BodyStart) (replies : FinMap nat_cmp Known) (n : ℕ) → NumberedFrom 1 (yield_of p start replies n).calls
yield_numbers p start replies n = bodies_number p.declarations replies n start start.member
