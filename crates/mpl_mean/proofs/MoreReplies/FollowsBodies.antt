-- How a body called in place comes back in a run with more replies follows how it comes back in one with fewer.
use Rattle.std.proofs.Common.{ℕ, ◌+◌, ◌≤◌, Bool, true, false, List, [], if◌then◌else◌, nat_lt, ℤ, refl, ap, le_trans}
use Rattle.mpl_value.specs.declared.body.Arg.TheVariants.{Unknown}
use Rattle.mpl_value.specs.declared.body.BodyEnd.TheVariants as end
use Rattle.mpl_mean.specs.Meaning.BodyMeaning.{formals_holding, plain_body, regular_body, run, store_with, with_variables}
use Rattle.mpl_mean.specs.Meaning.Context.{Context}
use Rattle.mpl_mean.specs.Meaning.Layout.{Function, Member}
use Rattle.mpl_value.specs.Growing.{Stays}
use Rattle.mpl_mean.specs.Meaning.StatementMeaning.{Effect}
use Rattle.mpl_mean.specs.Meaning.Store.{Store, Outcome, Goes, Returns, Ends, Step, Variable, ◌>>◌, and_then, spend}
use Rattle.mpl_mean.proofs.MoreReplies.ComesBack.{after_plain, after_regular}
use Rattle.mpl_mean.proofs.Simulations.Simulation.{Same}
use Rattle.mpl_mean.proofs.MoreReplies.Later.{Later, Later-itself, Adds, Adds-itself, Adds-trans, Ahead-adds, Beside, Beside-ahead, Beside-later, variables_itself}
use Rattle.mpl_mean.proofs.MoreReplies.Follows.{Follows, goes, returns, ends, waited, first_spent, second_spent, Growing, StepFollows, store_after, later_turns}
use Rattle.mpl_mean.proofs.MoreReplies.FollowsCalls.{Answers}
use Rattle.mpl_mean.proofs.MoreReplies.ResultsAtEnd.{arg_stays, ended_stays, stopped_stays, waited_stays}

-- ---- plain functions

with_variables_beside : (s t u v : Store) → Beside s t → Beside u v → Beside (with_variables s.variables u) (with_variables t.variables v)
with_variables_beside s t u v e h = record {
  same = ap (λ (x : Store). record x { variables = t.variables }) h.same;
  variables = e.variables;
  calls = h.calls;
  result = h.result;
  turns = h.turns;
}

plain_later : (f : Function) (s t : Store) (p : Outcome (Unit {0})) → Later s (store_after p) → Later s (store_after (after_plain f t p))
plain_later f s t (Goes value u) l = record { result = l.result; lines = l.lines; creations = l.creations; calls = l.calls; turns = l.turns }
plain_later f s t (Returns words u) l = record { result = l.result; lines = l.lines; creations = l.creations; calls = l.calls; turns = l.turns }
plain_later f s t (Ends e u) l = record { result = l.result; lines = l.lines; creations = l.creations; calls = l.calls; turns = l.turns }

later_from : (vs : List Variable) (s t : Store) → Later (with_variables vs s) t → Later s t
later_from vs s t l = record { result = l.result; lines = l.lines; creations = l.creations; calls = l.calls; turns = l.turns }

later_with : (vs : List Variable) (s t : Store) → Later s t → Later (with_variables vs s) t
later_with vs s t l = record { result = l.result; lines = l.lines; creations = l.creations; calls = l.calls; turns = l.turns }

plain_adds : (f : Function) (s : Store) (o : Outcome (Unit {0})) → Adds (store_after o) (store_after (after_plain f s o))
plain_adds f s (Goes value u) = Adds-itself u
plain_adds f s (Returns words u) = Adds-itself u
plain_adds f s (Ends e u) = Adds-itself u

plain_follows : (f : Function) (s t : Store) → Beside s t → (o p : Outcome (Unit {0})) → Follows Same o p → Follows Same (after_plain f s o) (after_plain f t p)
plain_follows f s t e o p (goes v h) = ends (with_variables_beside s t _ _ e h)
plain_follows f s t e o p (returns h) = goes refl (with_variables_beside s t _ _ e h)
plain_follows f s t e o p (ends h) = ends (with_variables_beside s t _ _ e h)
plain_follows f s t e o p (waited {s = u} {p = p'} l) = waited (later_with s.variables u _ (plain_later f u t p' l))
plain_follows f s t e o p (first_spent {s = u} {p = p'} l) = first_spent (later_with s.variables u _ (plain_later f u t p' l))
plain_follows f s t e o p (second_spent {o = o'} {t = v} i) = second_spent (Ahead-adds (store_after o') (store_after (after_plain f s o')) v i (plain_adds f s o'))

pub plain_step : (x y : Context) (f : Function) (arguments : List (List ℤ)) → StepFollows (Unit {0}) Same (run x f.body.statements) (run y f.body.statements)
    → StepFollows (List ℤ) Same (plain_body x f arguments) (plain_body y f arguments)
plain_step x y f arguments r = record {
  follows = λ s t e. plain_follows f s t e _ _ (r.follows _ _ (begun s t e));
  grows = λ t. plain_later f t t (run y f.body.statements (with_variables vs t)) (later_from vs t _ (r.grows (with_variables vs t)));
  adds = λ s. let o = run x f.body.statements (with_variables vs s) in Adds-trans s (store_after o) (store_after (after_plain f s o)) (r.adds (with_variables vs s)) (plain_adds f s o);
} where
  vs : List Variable
  vs = formals_holding f.formals arguments

  begun : (s t : Store) → Beside s t → Beside (with_variables vs s) (with_variables vs t)
  begun s t e = record {
    same = ap (λ (u : Store). record u { variables = vs }) e.same;
    variables = variables_itself vs;
    calls = e.calls;
    result = e.result;
    turns = e.turns;
  }

-- ---- regular members

back_beside : (s t : Store) (n k : ℕ) → Beside s t → n ≤ k → Beside (record s { turns = n }) (record t { turns = k })
back_beside s t n k e h = record {
  same = ap (λ (u : Store). record u { turns = k }) e.same;
  variables = e.variables;
  calls = e.calls;
  result = e.result;
  turns = h;
}

waited_follows : (m : Member) (s t : Store) → Beside s t → (u : Store) (p : Outcome (Unit {0})) → Later u (store_after p) → Follows Stays (after_regular m s (Ends end.Waits u)) (after_regular m t p)
waited_follows m s t e u (Goes value v) l = goes (arg_stays _ _ (waited_stays m u.result (Goes value v) l.result)) (back_beside s t u.turns v.turns e l.turns)
waited_follows m s t e u (Returns words v) l = goes (arg_stays _ _ (waited_stays m u.result (Returns words v) l.result)) (back_beside s t u.turns v.turns e l.turns)
waited_follows m s t e u (Ends end.Done v) l = goes (arg_stays _ _ (waited_stays m u.result (Ends end.Done v) l.result)) (back_beside s t u.turns v.turns e l.turns)
waited_follows m s t e u (Ends (end.Trap trap) v) l = goes (arg_stays _ _ (waited_stays m u.result (Ends (end.Trap trap) v) l.result)) (back_beside s t u.turns v.turns e l.turns)
waited_follows m s t e u (Ends end.Waits v) l = goes (arg_stays _ _ (waited_stays m u.result (Ends end.Waits v) l.result)) (back_beside s t u.turns v.turns e l.turns)
waited_follows m s t e u (Ends end.Spent v) l = second_spent (Beside-ahead s t e)

regular_adds : (m : Member) (s : Store) (o : Outcome (Unit {0})) → Adds s (store_after (after_regular m s o))
regular_adds m s (Goes value u) = Adds-itself s
regular_adds m s (Returns words u) = Adds-itself s
regular_adds m s (Ends end.Done u) = Adds-itself s
regular_adds m s (Ends (end.Trap trap) u) = Adds-itself s
regular_adds m s (Ends end.Waits u) = Adds-itself s
regular_adds m s (Ends end.Spent u) = Adds-itself s

pub regular_later : (m : Member) (s t : Store) (p : Outcome (Unit {0})) → Later s (record t { turns = (store_after p).turns }) → Later s (store_after (after_regular m t p))
regular_later m s t (Goes value v) l = l
regular_later m s t (Returns words v) l = l
regular_later m s t (Ends end.Done v) l = l
regular_later m s t (Ends (end.Trap trap) v) l = l
regular_later m s t (Ends end.Waits v) l = l
regular_later m s t (Ends end.Spent v) l = l

regular_follows : (m : Member) (s t : Store) → Beside s t → (o p : Outcome (Unit {0})) → Follows Same o p → Follows Stays (after_regular m s o) (after_regular m t p)
regular_follows m s t e o p (goes {s = u} {t = v} i h) = goes (arg_stays _ _ (ended_stays m.result m.body.mark_line u.result v.result h.result)) (back_beside s t u.turns v.turns e h.turns)
regular_follows m s t e o p (returns {s = u} {t = v} h) = goes (arg_stays _ _ (ended_stays m.result m.body.mark_line u.result v.result h.result)) (back_beside s t u.turns v.turns e h.turns)
regular_follows m s t e o p (ends {e = end.Done} {s = u} {t = v} h) = goes (arg_stays _ _ (stopped_stays end.Done u.result v.result h.result)) (back_beside s t u.turns v.turns e h.turns)
regular_follows m s t e o p (ends {e = end.Trap trap} {s = u} {t = v} h) = goes (arg_stays _ _ (stopped_stays (end.Trap trap) u.result v.result h.result)) (back_beside s t u.turns v.turns e h.turns)
regular_follows m s t e o p (ends {e = end.Waits} {s = u} {t = v} h) = goes (arg_stays _ _ (stopped_stays end.Waits u.result v.result h.result)) (back_beside s t u.turns v.turns e h.turns)
regular_follows m s t e o p (ends {e = end.Spent} {s = u} {t = v} h) = ends (back_beside s t u.turns v.turns e h.turns)
regular_follows m s t e o p (waited {s = u} {p = p'} l) = waited_follows m s t e u p' l
regular_follows m s t e o p (first_spent {s = u} {p = p'} l) =
    first_spent (regular_later m _ t p' (Beside-later _ _ (back_beside s t u.turns (store_after p').turns e l.turns)))
regular_follows m s t e o p (second_spent {o = o'} {t = v} i) = second_spent (Ahead-adds s (store_after (after_regular m s o')) t (Beside-ahead s t e) (regular_adds m s o'))

unasked_follows : (m : Member) (s t : Store) → Beside s t → (p : Outcome (Unit {0})) → t.turns ≤ (store_after p).turns → Follows Stays (Goes Unknown s) (after_regular m t p)
unasked_follows m s t e (Goes value v) h = goes tt (back_beside s t s.turns v.turns e (le_trans e.turns h))
unasked_follows m s t e (Returns words v) h = goes tt (back_beside s t s.turns v.turns e (le_trans e.turns h))
unasked_follows m s t e (Ends end.Done v) h = goes tt (back_beside s t s.turns v.turns e (le_trans e.turns h))
unasked_follows m s t e (Ends (end.Trap trap) v) h = goes tt (back_beside s t s.turns v.turns e (le_trans e.turns h))
unasked_follows m s t e (Ends end.Waits v) h = goes tt (back_beside s t s.turns v.turns e (le_trans e.turns h))
unasked_follows m s t e (Ends end.Spent v) h = second_spent (Beside-ahead s t e)

pub regular_step : (x y : Context) (m : Member) (arguments : List (List ℤ)) → StepFollows (Unit {0}) Same (run x m.body.statements) (run y m.body.statements)
    → Answers (regular_body x m arguments) (regular_body y m arguments)
regular_step x y m arguments r = record {
  step = record { follows = λ s t e. regular_follows m s t e _ _ (r.follows _ _ (begun s t e)); grows = grows; adds = λ s. regular_adds m s (run x m.body.statements (start s)) };
  unasked = record { follows = λ s t e. unasked_follows m s t e (ran t) (r.grows (start t)).turns; grows = grows; adds = Adds-itself };
} where
  start : Store → Store
  start t = store_with (formals_holding m.formals arguments) [] [] t.turns

  ran : Store → Outcome (Unit {0})
  ran t = run y m.body.statements (start t)

  begun : (s t : Store) → Beside s t → Beside (start s) (start t)
  begun s t e = record { same = refl; variables = variables_itself (formals_holding m.formals arguments); calls = tt; result = refl; turns = e.turns }

  grows : (t : Store) → Later t (store_after (regular_body y m arguments t))
  grows t = regular_later m t t (ran t) (later_turns t _ (r.grows (start t)).turns)

-- ---- the turn at the start of a body

abbrev pub with_turn : Store → Store
with_turn t = record t { turns = t.turns + 1 }

-- a step whose first turn is spent in any case
abbrev pub TakesTurn : {A : Type 0} → Step A → Type 0
TakesTurn g = (t : Store) → Later (with_turn t) (store_after (g t))

after_turn : (b : Bool) (t : Store) (rest : Effect) → Growing rest → Later t (store_after (and_then {A = Unit {0}} (if b then Goes tt t else Ends end.Spent t) (λ _. rest)))
after_turn true t rest r = r t
after_turn false t rest r = Later-itself t

pub turn_later : (n : ℕ) (rest : Effect) → Growing rest → TakesTurn (spend n >> rest)
turn_later n rest r t = after_turn (nat_lt t.turns n) (with_turn t) rest r

pub plain_turn : (y : Context) (f : Function) (arguments : List (List ℤ)) → TakesTurn (run y f.body.statements) → TakesTurn (plain_body y f arguments)
plain_turn y f arguments r t =
    let vs = formals_holding f.formals arguments in
    plain_later f (with_turn t) t (run y f.body.statements (with_variables vs t)) (later_from vs (with_turn t) _ (r (with_variables vs t)))

pub regular_turn : (y : Context) (m : Member) (arguments : List (List ℤ)) → TakesTurn (run y m.body.statements) → TakesTurn (regular_body y m arguments)
regular_turn y m arguments r t =
    let start = store_with (formals_holding m.formals arguments) [] [] t.turns in
    regular_later m (with_turn t) t (run y m.body.statements start) (later_turns (with_turn t) _ (r start).turns)
