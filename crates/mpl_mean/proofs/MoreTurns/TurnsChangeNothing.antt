-- With more turns a body that isn't spent does the same.
use Rattle.std.proofs.Common.{◌≡◌, ◌≢◌, ℕ, zero, suc, ◌+◌, ◌≤◌, false, List, [], Option, Some, None, ℤ, refl, sym, ap, subst, ◌∙◌, arith}
use Rattle.std.proofs.lemmas.List.Elements.{same_from_all_zip}
use Rattle.std.specs.FinMap.{FinMap, empty}
use Rattle.std.specs.List.{AllZip}
use Rattle.std.specs.Ordering.{nat_cmp}
use Rattle.mpl_ast.specs.declared.program.Declaration.{Declaration}
use Rattle.mpl_ast.specs.declared.program.Program.{Program}
use Rattle.mpl_value.specs.declared.body.Arg.{Arg}
use Rattle.mpl_value.specs.declared.body.BodyEnd.{BodyEnd}
use Rattle.mpl_value.specs.declared.body.BodyEnd.TheVariants as end
use Rattle.mpl_value.specs.declared.body.BodyStart.{BodyStart}
use Rattle.mpl_value.specs.declared.body.MemberId.{MemberId}
use Rattle.mpl_value.specs.declared.known.Known.{Known}
use Rattle.mpl_mean.specs.Meaning.BodyMeaning.{callees_at, body_of, context_with, formals_holding, in_class, main_statements, main_yield, member_body, member_of_classes, member_yield, split_words, store_with, yield_of}
use Rattle.mpl_mean.specs.Meaning.CallMeaning.{answer, made}
use Rattle.mpl_value.specs.CallAnswers.{known_words}
use Rattle.mpl_mean.specs.Meaning.Context.{Context}
use Rattle.mpl_mean.specs.Meaning.Layout.{Class, Member, classes_of}
use Rattle.mpl_mean.specs.Meaning.StatementMeaning.{gives_result}
use Rattle.mpl_mean.specs.Meaning.Store.{Step, Outcome, Goes, Returns, Ends, Variable, variable_named, force, hold, declare}
use Rattle.mpl_mean.proofs.MoreReplies.ComesBack.{after_plain, after_regular}
use Rattle.mpl_mean.proofs.Simulations.Simulation.{Simulation, BelowBeside, Same, VariableBeside, maybe_itself, variable_itself, zip_itself}
use Rattle.mpl_mean.proofs.Simulations.KeptStatements.{run_kept}
use Rattle.mpl_mean.proofs.Simulations.UnlessSpent.{is_spent, is_spent_end, Agrees, then_agrees, spend_agrees, none_agrees, loop_agrees, scope_agrees, answer_agrees, spent_in_plain, spent_in_regular}

all_same : (args others : List Arg) → AllZip Same args others → args ≡ others
all_same args others h = sym (same_from_all_zip Same args others h (λ x y e. sym e))

same_variable : {v w : Variable} → VariableBeside Same v w → v ≡ w
same_variable {v} b = ap (λ a. record v { holds = a }) b.holds ∙ b.same

answers_agree : (args others : List Arg) (f g : List (List ℤ) → Step Arg) → AllZip Same args others → ((words : List (List ℤ)) → Agrees (f words) (g words))
    → Agrees (answer args (f (known_words args))) (answer others (g (known_words others)))
answers_agree args others f g h r =
    subst (λ others. Agrees (answer args (f (known_words args))) (answer others (g (known_words others)))) (all_same args others h)
    (answer_agrees args (f (known_words args)) (g (known_words args)) (r (known_words args)))

abbrev by_turns : (n m : ℕ) → n ≤ m → FinMap nat_cmp Known → Simulation
by_turns n m le replies = record {
  n = n;
  m = m;
  replies = replies;
  more = replies;
  Held = Same;
  Serves = λ A V. ((a : A) → V a a) × ((a b : A) → V a b → a ≡ b);
  Steps = λ A V. Agrees;
  Answers = Agrees;
  same = λ A. (λ a. refl, λ a b e. e);
  held = (λ a. refl, λ a b e. e);
  all_held = (zip_itself Same (λ a. refl), all_same);
  itself = λ a. refl;
  gives = λ A V a b serves v s i. ap (λ a. Goes a s) (serves.1 a b v);
  goes_on = λ A B V W f g h k serves r q. then_agrees f g h k r (λ a. q a a (serves.0 a));
  traps = λ A V t s i. refl;
  waiting = λ A V s i. refl;
  spends = spend_agrees n m le;
  looks = λ A V name h k r s. let v = variable_named name s.variables in r v v (maybe_itself (VariableBeside Same) (variable_itself Same (λ a. refl)) v) s;
  returns = λ words s i. refl;
  state = λ s i. refl;
  restates = λ offset words s i. refl;
  forces = λ a b e s i. ap (λ a. force a s) e;
  holds = λ name a b e s i. ap (λ a. hold name a s) e;
  declares = λ v w e s i. ap (λ v. declare v s) (same_variable e);
  scopes = λ A V f g r. scope_agrees f g r;
  prints = λ text s i. refl;
  inputs = λ line s i. refl;
  makes = λ object member args others e s i. ap (λ args. made object member args s) (all_same args others e);
  creates = λ x class s i. refl;
  results = λ line a b e s i. ap (λ a. gives_result line a s) e;
  answers = answers_agree;
  replied = λ k s i. refl;
  loops = λ f g h k r q. loop_agrees (n + 1) (m + 1) n m f g h k (omega arith) le r q;
  in_plain = λ x y f arguments r s i. ap (after_plain f s) (r _ (spent_in_plain f s _ i));
  in_regular = λ x y member arguments r s i. ap (after_regular member s) (r _ (spent_in_regular member s _ i));
}

-- ---- levels

callees_beside : (ds : List Declaration) (replies : FinMap nat_cmp Known) (n m : ℕ) (le : n ≤ m) (level more : ℕ) → level ≤ more
    → BelowBeside (by_turns n m le replies) (callees_at level ds n replies) (callees_at more ds m replies)
callees_beside ds replies n m le zero more few = record { plain = λ f arguments. none_agrees n _; regular = λ member arguments. none_agrees n _ }
callees_beside ds replies n m le (suc level) zero few = absurd (omega arith)
callees_beside ds replies n m le (suc level) (suc more) few =
    let S = by_turns n m le replies in
    let x = context_with ds n replies (callees_at level ds n replies) in
    let y = context_with ds m replies (callees_at more ds m replies) in
    let d = callees_beside ds replies n m le level more (omega arith) in
    let T = by_turns n m le empty in
    let x' = context_with ds n empty (callees_at level ds n empty) in
    let y' = context_with ds m empty (callees_at more ds m empty) in
    let d' = callees_beside ds empty n m le level more (omega arith) in
    record {
      plain = λ f arguments. S.in_plain x y f arguments (run_kept S _ _ d x f.body.statements);
      regular = λ member arguments. S.in_regular x' y' member arguments (run_kept T _ _ d' x' member.body.statements);
    }

-- ---- yields

-- an end that isn't Spent
not_spent : (e : BodyEnd) → e ≢ end.Spent → is_spent_end e ≡ false
not_spent end.Done h = refl
not_spent (end.Trap t) h = refl
not_spent end.Waits h = refl
not_spent end.Spent h = absurd (h refl)

main_same : (o p : Outcome (Unit {0})) → (is_spent o ≡ false → o ≡ p) → (main_yield o).end ≢ end.Spent → main_yield p ≡ main_yield o
main_same (Goes value store) p r h = ap main_yield (sym (r refl))
main_same (Returns words store) p r h = ap main_yield (sym (r refl))
main_same (Ends e store) p r h = ap main_yield (sym (r (not_spent e h)))

member_same : (m : Member) (o p : Outcome (Unit {0})) → (is_spent o ≡ false → o ≡ p) → (member_yield m o).end ≢ end.Spent → member_yield m p ≡ member_yield m o
member_same m (Goes value store) p r h = ap (member_yield m) (sym (r refl))
member_same m (Returns words store) p r h = ap (member_yield m) (sym (r refl))
member_same m (Ends e store) p r h = ap (member_yield m) (sym (r (not_spent e h)))

module _ (ds : List Declaration) (replies : FinMap nat_cmp Known) (n m : ℕ) (le : n ≤ m) (start : BodyStart) where
  abbrev few : Context
  few = context_with ds n replies (callees_at n ds n replies)

  abbrev many : Context
  many = context_with ds m replies (callees_at m ds m replies)

  members_same : (found : Option (Class × Member)) → (member_body few start found).end ≢ end.Spent → member_body many start found ≡ member_body few start found
  members_same None h = refl
  members_same (Some found) h =
      member_same found.1 _ _
      (run_kept (by_turns n m le replies) _ _ (callees_beside ds replies n m le n m le) (in_class found.0 start few) found.1.body.statements
      (store_with (formals_holding found.1.formals (split_words ds found.1.formals start.args)) start.state start.input 0)) h

  bodies_same : (member : Option MemberId) → (body_of few start member).end ≢ end.Spent → body_of many start member ≡ body_of few start member
  bodies_same None h =
      main_same _ _
      (run_kept (by_turns n m le replies) _ _ (callees_beside ds replies n m le n m le) (record few { number = start.number }) (main_statements ds)
      (store_with [] start.state start.input 0)) h
  bodies_same (Some m) h = members_same (member_of_classes m.0 (classes_of ds)) h

pub more_turns : (p : Program) (start : BodyStart) (replies : FinMap nat_cmp Known) (n m : ℕ) → (yield_of p start replies n).end ≢ end.Spent → n ≤ m
    → yield_of p start replies m ≡ yield_of p start replies n
more_turns p start replies n m h le = bodies_same p.declarations replies n m le start start.member h
