-- With more replies a yield only grows.
use Rattle.std.proofs.Common.{◌≢◌, ℕ, zero, suc, ◌+◌, ◌≤◌, Bool, true, false, List, [], map, Option, Some, None, if◌then◌else◌, nat_lt, ℤ, refl, ap, arith, le_refl}
use Rattle.std.specs.FinMap.{FinMap, empty, get}
use Rattle.std.specs.Ordering.{nat_cmp}
use Rattle.mpl_ast.specs.declared.program.Declaration.{Declaration}
use Rattle.mpl_ast.specs.declared.program.Program.{Program}
use Rattle.mpl_ast.specs.declared.statement.Statement.{Statement}
use Rattle.mpl_value.specs.declared.body.Arg.{Arg}
use Rattle.mpl_value.specs.declared.body.Arg.TheVariants.{Unknown}
use Rattle.mpl_value.specs.declared.body.BodyEnd.{BodyEnd}
use Rattle.mpl_value.specs.declared.body.BodyEnd.TheVariants as end
use Rattle.mpl_value.specs.declared.body.BodyResult.{BodyResult}
use Rattle.mpl_value.specs.declared.body.BodyStart.{BodyStart}
use Rattle.mpl_value.specs.declared.body.MemberId.{MemberId}
use Rattle.mpl_value.specs.declared.known.Known.{Known}
use Rattle.mpl_mean.specs.Meaning.BodyMeaning.{callees_at, body_of, context_with, formals_holding, in_class, main_statements, main_yield, member_body, member_of_classes, member_yield, plain_body, regular_body, run, split_words, store_of, store_with, yield_of, yield_with}
use Rattle.mpl_mean.specs.Meaning.Context.{Context}
use Rattle.mpl_mean.specs.Meaning.Layout.{Class, Member, classes_of}
use Rattle.mpl_value.specs.Growing.{AreAmong, Grows, ResultStays, Stays}
use Rattle.mpl_mean.specs.Meaning.StatementMeaning.{does}
use Rattle.mpl_mean.specs.Meaning.Store.{Store, Outcome, Goes, Returns, Ends, Step, ◌>>◌, and_then, pure, in_turn, spend, stop}
use Rattle.mpl_mean.proofs.Simulations.Simulation.{Simulation, BelowBeside, Same, zip_itself}
use Rattle.mpl_mean.proofs.Simulations.KeptStatements.{body_kept, run_kept}
use Rattle.mpl_mean.proofs.MoreReplies.Later.{Later, Later-itself, Later-trans, Adds, Adds-itself, Ahead, Beside, Beside-ahead, Beside-itself, Beside-later, ResultBeside-stays, Stays-itself}
use Rattle.mpl_mean.proofs.MoreReplies.Follows.{Follows, goes, returns, ends, waited, first_spent, second_spent, StepFollows, later_turns, one_more, store_after, then_step, gives_step, stops_step, spend_step, force_step, scope_step}
use Rattle.mpl_mean.proofs.MoreReplies.FollowsStores.{looks_step, state_step, restates_step, holds_step, declares_step, prints_step, inputs_step, makes_step, creates_step, results_step}
use Rattle.mpl_mean.proofs.MoreReplies.FollowsCalls.{Answers, reply_stays, answer_step, loop_step}
use Rattle.mpl_mean.proofs.MoreReplies.FollowsBodies.{TakesTurn, plain_step, plain_turn, regular_step, regular_turn, turn_later, with_turn}
use Rattle.mpl_mean.proofs.MoreReplies.ResultsAtEnd.{ended_stays, stopped_stays, waited_stays}

abbrev pub by_replies : (n m : ℕ) → n ≤ m → (replies more : FinMap nat_cmp Known) → AreAmong replies more → Simulation
by_replies n m le replies more among = record {
  n = n;
  m = m;
  replies = replies;
  more = more;
  Held = Stays;
  Serves = λ A V. (a : A) → V a a;
  Steps = StepFollows;
  Answers = Answers;
  same = λ A a. refl;
  held = Stays-itself;
  all_held = zip_itself Stays Stays-itself;
  itself = Stays-itself;
  gives = λ A V a b serves v. gives_step A V a b v;
  goes_on = then_step;
  traps = λ A V t. stops_step A V (end.Trap t);
  waiting = λ A V. stops_step A V end.Waits;
  spends = spend_step n m;
  looks = looks_step;
  returns = λ words. record { follows = λ s t e. returns e; grows = Later-itself; adds = Adds-itself };
  state = state_step;
  restates = restates_step;
  forces = force_step;
  holds = holds_step;
  declares = declares_step;
  scopes = scope_step;
  prints = prints_step;
  inputs = inputs_step;
  makes = makes_step;
  creates = creates_step;
  results = results_step;
  answers = answer_step;
  replied = λ k. reply_stays (get replies k) (get more k) (among k);
  loops = λ f g h k r q. loop_step (n + 1) (m + 1) n m f g h k (omega arith) r q;
  in_plain = plain_step;
  in_regular = regular_step;
}

-- ---- levels

-- a step that only runs out of turns
none_follows : {A : Type 0} (V : A → A → Type 0) (b : Bool) (s : Store) (p : Outcome A) → Later s (store_after p)
    → Follows V (and_then {A = Unit {0}} (if b then Goes tt s else Ends end.Spent s) (λ _. stop end.Spent)) p
none_follows V true s p l = first_spent l
none_follows V false s p l = first_spent l

none_adds : (A : Type 0) (b : Bool) (s : Store) → Adds s (store_after {A = A} (and_then {A = Unit {0}} (if b then Goes tt s else Ends end.Spent s) (λ _. stop end.Spent)))
none_adds A true s = Adds-itself s
none_adds A false s = Adds-itself s

none_step : (A : Type 0) (V : A → A → Type 0) (n : ℕ) (g : Step A) → TakesTurn g → StepFollows A V (spend n >> stop end.Spent) g
none_step A V n g r = record {
  follows = λ s t e. none_follows V (nat_lt s.turns n) (with_turn s) (g t) (Later-trans (with_turn s) (with_turn t) _ (Beside-later _ _ (one_more s t e)) (r t));
  grows = λ t. Later-trans t (with_turn t) _ (later_turns t (t.turns + 1) (omega arith)) (r t);
  adds = λ s. none_adds A (nat_lt s.turns n) (with_turn s);
}

none_turn : (A : Type 0) (m : ℕ) → TakesTurn {A = A} (spend m >> stop end.Spent)
none_turn A m t = none_left (nat_lt t.turns m) (with_turn t) where
  none_left : (b : Bool) (t : Store) → Later t (store_after {A = A} (and_then {A = Unit {0}} (if b then Goes tt t else Ends end.Spent t) (λ _. stop end.Spent)))
  none_left true t = Later-itself t
  none_left false t = Later-itself t

unasked_none : (m : ℕ) → StepFollows Arg Stays (pure Unknown) (spend m >> stop end.Spent)
unasked_none m = record {
  follows = λ s t e. left (nat_lt t.turns m) s (with_turn t) (Beside-ahead s t e);
  grows = (none_step Arg Stays m (spend m >> stop end.Spent) (none_turn Arg m)).grows;
  adds = Adds-itself;
} where
  left : (b : Bool) (s t : Store) → Ahead s t → Follows Stays (Goes Unknown s) (and_then {A = Unit {0}} (if b then Goes tt t else Ends end.Spent t) (λ _. stop end.Spent))
  left true s t i = second_spent i
  left false s t i = second_spent i

module _ (ds : List Declaration) (n m : ℕ) (le : n ≤ m) where
  abbrev at : ℕ → ℕ → FinMap nat_cmp Known → Context
  at turns level replies = context_with ds turns replies (callees_at level ds turns replies)

  -- what is called from a run with fewer replies and from one with more
  abbrev Beside-levels : (level higher : ℕ) (replies more : FinMap nat_cmp Known) → AreAmong replies more → Type 0
  Beside-levels level higher replies more among = BelowBeside (by_replies n m le replies more among) (callees_at level ds n replies) (callees_at higher ds m more)

  run_turn : (level higher : ℕ) (replies more : FinMap nat_cmp Known) (among : AreAmong replies more) → Beside-levels level higher replies more among → (ts : List Statement) → TakesTurn (run (at m higher more) ts)
  run_turn level higher replies more among d ts =
      turn_later m (in_turn (map (λ s. does s (at m higher more)) ts))
      (body_kept (by_replies n m le replies more among) (callees_at level ds n replies) (callees_at higher ds m more) d (at n level replies) ts).grows

  pub callees_beside : (level higher : ℕ) (replies more : FinMap nat_cmp Known) (among : AreAmong replies more) → level ≤ higher → Beside-levels level higher replies more among
  callees_beside zero zero replies more among few = record {
    plain = λ f arguments. none_step (List ℤ) Same n _ (none_turn (List ℤ) m);
    regular = λ member arguments. record { step = none_step Arg Stays n _ (none_turn Arg m); unasked = unasked_none m };
  }
  callees_beside zero (suc higher) replies more among few =
      let d = callees_beside zero higher replies more among (omega arith) in
      let d' = callees_beside zero higher empty empty (λ call known e. e) (omega arith) in
      let T = by_replies n m le empty empty (λ call known e. e) in
      let y = at m higher more in
      let y' = at m higher empty in
      record {
        plain = λ f arguments. none_step (List ℤ) Same n (plain_body y f arguments) (plain_turn y f arguments (run_turn zero higher replies more among d f.body.statements));
        regular = λ member arguments. record {
          step = none_step Arg Stays n (regular_body y' member arguments) (regular_turn y' member arguments (run_turn zero higher empty empty (λ call known e. e) d' member.body.statements));
          unasked = (T.in_regular (at n zero empty) y' member arguments (run_kept T _ _ d' (at n zero empty) member.body.statements)).unasked;
        };
      }
  callees_beside (suc level) zero replies more among few = absurd (omega arith)
  callees_beside (suc level) (suc higher) replies more among few =
      let S = by_replies n m le replies more among in
      let T = by_replies n m le empty empty (λ call known e. e) in
      let d = callees_beside level higher replies more among (omega arith) in
      let d' = callees_beside level higher empty empty (λ call known e. e) (omega arith) in
      record {
        plain = λ f arguments. S.in_plain (at n level replies) (at m higher more) f arguments (run_kept S _ _ d (at n level replies) f.body.statements);
        regular = λ member arguments. T.in_regular (at n level empty) (at m higher empty) member arguments (run_kept T _ _ d' (at n level empty) member.body.statements);
      }

-- ---- yields

grown_beside : (e : BodyEnd) (r q : BodyResult) (s t : Store) → Beside s t → ResultStays r q → Grows (yield_with e r s) (yield_with e q t)
grown_beside e r q s t b h =
    let l = Beside-later s t b in
    record {
      result = h;
      settled = λ over. record { end = refl; lines = ap (λ (u : Store). u.lines) b.same; state = ap (λ (u : Store). u.state) b.same };
      lines = l.lines;
      creations = l.creations;
      calls = l.calls;
      turns = l.turns;
    }

grown_later : (r : BodyResult) (e : BodyEnd) (q : BodyResult) (s t : Store) → Later s t → ResultStays r q → Grows (yield_with end.Waits r s) (yield_with e q t)
grown_later r e q s t l h = record { result = h; settled = λ over. absurd over; lines = l.lines; creations = l.creations; calls = l.calls; turns = l.turns }

waited_main : (s : Store) (p : Outcome (Unit {0})) → Later s (store_after p) → Grows (main_yield (Ends end.Waits s)) (main_yield p)
waited_main s (Goes value t) l = grown_later s.result end.Done t.result s t l l.result
waited_main s (Returns words t) l = grown_later s.result end.Done t.result s t l l.result
waited_main s (Ends e t) l = grown_later s.result e t.result s t l l.result

main_grows : (o p : Outcome (Unit {0})) → Follows Same o p → (main_yield o).end ≢ end.Spent → (main_yield p).end ≢ end.Spent → Grows (main_yield o) (main_yield p)
main_grows o p (goes {s = s} {t = t} v e) first second = grown_beside end.Done s.result t.result s t e (ResultBeside-stays _ _ e.result)
main_grows o p (returns {s = s} {t = t} e) first second = grown_beside end.Done s.result t.result s t e (ResultBeside-stays _ _ e.result)
main_grows o p (ends {e = b} {s = s} {t = t} e) first second = grown_beside b s.result t.result s t e (ResultBeside-stays _ _ e.result)
main_grows o p (waited {s = s} {p = p'} l) first second = waited_main s p' l
main_grows o p (first_spent l) first second = absurd (first refl)
main_grows o p (second_spent i) first second = absurd (second refl)

member_grows : (m : Member) (o p : Outcome (Unit {0})) → Follows Same o p → (member_yield m o).end ≢ end.Spent → (member_yield m p).end ≢ end.Spent
    → Grows (member_yield m o) (member_yield m p)
member_grows m o p (goes {s = s} {t = t} v e) first second = grown_beside end.Done _ _ s t e (ended_stays m.result m.body.mark_line s.result t.result e.result)
member_grows m o p (returns {s = s} {t = t} e) first second = grown_beside end.Done _ _ s t e (ended_stays m.result m.body.mark_line s.result t.result e.result)
member_grows m o p (ends {e = b} {s = s} {t = t} e) first second = grown_beside b _ _ s t e (stopped_stays b s.result t.result e.result)
member_grows m o p (waited {s = s} {p = p'} l) first second = grown_later _ _ _ s (store_of p') l (waited_stays m s.result p' l.result)
member_grows m o p (first_spent l) first second = absurd (first refl)
member_grows m o p (second_spent i) first second = absurd (second refl)

module _ (ds : List Declaration) (n : ℕ) (replies more : FinMap nat_cmp Known) (among : AreAmong replies more) (start : BodyStart) where
  abbrev with_few : Context
  with_few = context_with ds n replies (callees_at n ds n replies)

  abbrev with_more : Context
  with_more = context_with ds n more (callees_at n ds n more)

  members_grow : (found : Option (Class × Member)) → (member_body with_few start found).end ≢ end.Spent → (member_body with_more start found).end ≢ end.Spent
      → Grows (member_body with_few start found) (member_body with_more start found)
  members_grow None first second = waited_main (store_with [] start.state start.input 0) (Ends end.Waits (store_with [] start.state start.input 0)) (Later-itself _)
  members_grow (Some found) first second =
      let s = store_with (formals_holding found.1.formals (split_words ds found.1.formals start.args)) start.state start.input 0 in
      member_grows found.1 _ _
      ((run_kept (by_replies n n (le_refl n) replies more among) _ _ (callees_beside ds n n (le_refl n) n n replies more among (le_refl n)) (in_class found.0 start with_few) found.1.body.statements).follows
      s s (Beside-itself s)) first second

  bodies_grow : (member : Option MemberId) → (body_of with_few start member).end ≢ end.Spent → (body_of with_more start member).end ≢ end.Spent
      → Grows (body_of with_few start member) (body_of with_more start member)
  bodies_grow None first second =
      let s = store_with [] start.state start.input 0 in
      main_grows _ _
      ((run_kept (by_replies n n (le_refl n) replies more among) _ _ (callees_beside ds n n (le_refl n) n n replies more among (le_refl n)) (record with_few { number = start.number }) (main_statements ds)).follows
      s s (Beside-itself s)) first second
  bodies_grow (Some m) first second = members_grow (member_of_classes m.0 (classes_of ds)) first second

pub more_replies : (p : Program) (start : BodyStart) (replies more : FinMap nat_cmp Known) (n : ℕ) → AreAmong replies more
    → (yield_of p start replies n).end ≢ end.Spent → (yield_of p start more n).end ≢ end.Spent → Grows (yield_of p start replies n) (yield_of p start more n)
more_replies p start replies more n among = bodies_grow p.declarations n replies more among start start.member
