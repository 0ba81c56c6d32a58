-- How a step of a run with more replies follows one with fewer.
use Rattle.std.proofs.Common.{ℕ, zero, suc, ◌+◌, ◌-◌, ◌≤◌, Bool, true, false, List, [], ◌∷◌, length, drop, Option, Some, if◌then◌else◌, nat_lt, ℤ, refl, sym, ap, subst, arith}
use Rattle.std.proofs.lemmas.Slice.Zip.{AllZip-long}
use Rattle.std.specs.List.{AllZip}
use Rattle.std.specs.Str.{bytes_eq}
use Rattle.mpl_value.specs.declared.body.Arg.{Arg}
use Rattle.mpl_value.specs.declared.body.Arg.TheVariants.{Know, Trapped, Unknown}
use Rattle.mpl_value.specs.declared.body.BodyEnd.{BodyEnd}
use Rattle.mpl_value.specs.declared.body.BodyEnd.TheVariants as end
use Rattle.mpl_value.specs.Growing.{Stays}
use Rattle.mpl_mean.specs.Meaning.Store.{Store, Outcome, Goes, Returns, Ends, Step, Variable, ◌>>=◌, and_then, stop, spend, force, variable_named, only_oldest, in_scope, oldest}
use Rattle.mpl_mean.proofs.Simulations.Simulation.{Same, VariableBeside, MaybeBeside, at_variable}
use Rattle.mpl_mean.proofs.MoreReplies.Later.{Later, Later-itself, Later-trans, Adds, Adds-itself, Adds-trans, Ahead, Ahead-adds, Beside, Beside-later, Beside-ahead}

abbrev pub store_after : {A : Type 0} → Outcome A → Store
store_after (Goes value store) = store
store_after (Returns words store) = store
store_after (Ends e store) = store

-- The second outcome is the first with more known in it, or what came of a run that went on where the first had to wait
-- or was spent; or the second is spent, and the first went on.
pub data Follows {A : Type 0} (V : A → A → Type 0) : Outcome A → Outcome A → Type 0 where
  goes : {a b : A} {s t : Store} → V a b → Beside s t → Follows V (Goes a s) (Goes b t)
  returns : {words : List ℤ} {s t : Store} → Beside s t → Follows V (Returns words s) (Returns words t)
  ends : {e : BodyEnd} {s t : Store} → Beside s t → Follows V (Ends e s) (Ends e t)
  waited : {s : Store} {p : Outcome A} → Later s (store_after p) → Follows V (Ends end.Waits s) p
  first_spent : {s : Store} {p : Outcome A} → Later s (store_after p) → Follows V (Ends end.Spent s) p
  second_spent : {o : Outcome A} {t : Store} → Ahead (store_after o) t → Follows V o (Ends end.Spent t)

-- a step that goes on only to later stores
abbrev pub Growing : {A : Type 0} → Step A → Type 0
Growing f = (s : Store) → Later s (store_after (f s))

-- The same of steps, of which the first only adds calls and the second goes on only to later stores.
pub record StepFollows (A : Type 0) (V : A → A → Type 0) (f g : Step A) : Type 0 where
  pub follows : (s t : Store) → Beside s t → Follows V (f s) (g t)
  pub grows : Growing g
  pub adds : (s : Store) → Adds s (store_after (f s))

-- ---- one step after another

grown : {A B : Type 0} (k : A → Step B) → ((b : A) (t : Store) → Later t (store_after (k b t))) → (p : Outcome A) → Later (store_after p) (store_after (and_then p k))
grown k r (Goes b t) = r b t
grown k r (Returns words t) = Later-itself t
grown k r (Ends e t) = Later-itself t

added : {A B : Type 0} (h : A → Step B) → ((a : A) (s : Store) → Adds s (store_after (h a s))) → (o : Outcome A) → Adds (store_after o) (store_after (and_then o h))
added h r (Goes a s) = r a s
added h r (Returns words s) = Adds-itself s
added h r (Ends e s) = Adds-itself s

then_follows : {A B : Type 0} (V : A → A → Type 0) (W : B → B → Type 0) (h k : A → Step B) → ((a : A) → V a a) → ((a b : A) → V a b → StepFollows B W (h a) (k b))
    → (o p : Outcome A) → Follows V o p → Follows W (and_then o h) (and_then p k)
then_follows V W h k r q o p (goes {a = a} {b = b} {s = s} {t = t} v e) = (q a b v).follows s t e
then_follows V W h k r q o p (returns e) = returns e
then_follows V W h k r q o p (ends e) = ends e
then_follows V W h k r q o p (waited {s = s} {p = p'} l) = waited (Later-trans s (store_after p') _ l (grown k (λ b. (q b b (r b)).grows) p'))
then_follows V W h k r q o p (first_spent {s = s} {p = p'} l) =
    first_spent (Later-trans s (store_after p') _ l (grown k (λ b. (q b b (r b)).grows) p'))
then_follows V W h k r q o p (second_spent {o = o'} {t = t} i) =
    second_spent (Ahead-adds (store_after o') (store_after (and_then o' h)) t i (added h (λ a. (q a a (r a)).adds) o'))

pub then_grows : {A B : Type 0} (f : Step A) (h : A → Step B) → Growing f → ((a : A) → Growing (h a)) → Growing (f >>= h)
then_grows f h r q s = Later-trans s (store_after (f s)) _ (r s) (grown h q (f s))

pub then_step : (A B : Type 0) (V : A → A → Type 0) (W : B → B → Type 0) (f g : Step A) (h k : A → Step B) → ((a : A) → V a a) → StepFollows A V f g
    → ((a b : A) → V a b → StepFollows B W (h a) (k b)) → StepFollows B W (f >>= h) (g >>= k)
then_step A B V W f g h k r d q = record {
  follows = λ s t e. then_follows V W h k r q (f s) (g t) (d.follows s t e);
  grows = then_grows g k d.grows (λ b. (q b b (r b)).grows);
  adds = λ s. Adds-trans s (store_after (f s)) (store_after (and_then (f s) h)) (d.adds s) (added h (λ a. (q a a (r a)).adds) (f s));
}

pub gives_step : (A : Type 0) (V : A → A → Type 0) (a b : A) → V a b → StepFollows A V (λ s. Goes a s) (λ s. Goes b s)
gives_step A V a b v = record { follows = λ s t e. goes v e; grows = Later-itself; adds = Adds-itself }

pub stops_step : (A : Type 0) (V : A → A → Type 0) (e : BodyEnd) → StepFollows A V (stop e) (stop e)
stops_step A V e = record { follows = λ s t b. ends b; grows = Later-itself; adds = Adds-itself }

-- the first is spent where the second goes on
pub spent_step : (A : Type 0) (V : A → A → Type 0) (g : Step A) → Growing g → StepFollows A V (stop end.Spent) g
spent_step A V g r = record { follows = λ s t e. first_spent (Later-trans s t _ (Beside-later s t e) (r t)); grows = r; adds = Adds-itself }

-- ---- turns

turn_follows : (b c : Bool) (u v : Store) → Beside u v → Follows {A = Unit {0}} Same (if b then Goes tt u else Ends end.Spent u) (if c then Goes tt v else Ends end.Spent v)
turn_follows true true u v e = goes refl e
turn_follows true false u v e = second_spent (Beside-ahead u v e)
turn_follows false true u v e = first_spent (Beside-later u v e)
turn_follows false false u v e = ends e

turn_adds : (b : Bool) (s : Store) → Adds s (store_after {A = Unit {0}} (if b then Goes tt (record s { turns = s.turns + 1 }) else Ends end.Spent (record s { turns = s.turns + 1 })))
turn_adds true s = Adds-itself s
turn_adds false s = Adds-itself s

turn_grows : (b : Bool) (t u : Store) → Later t u → Later t (store_after {A = Unit {0}} (if b then Goes tt u else Ends end.Spent u))
turn_grows true t u l = l
turn_grows false t u l = l

pub one_more : (s t : Store) → Beside s t → Beside (record s { turns = s.turns + 1 }) (record t { turns = t.turns + 1 })
one_more s t e = record {
  same = ap (λ (u : Store). record u { turns = t.turns + 1 }) e.same;
  variables = e.variables;
  calls = e.calls;
  result = e.result;
  turns = let h = e.turns in omega arith;
}

pub later_turns : (t : Store) (n : ℕ) → t.turns ≤ n → Later t (record t { turns = n })
later_turns t n h = let l = Later-itself t in record { result = l.result; lines = l.lines; creations = l.creations; calls = l.calls; turns = h }

pub spend_step : (n m : ℕ) → StepFollows (Unit {0}) Same (spend n) (spend m)
spend_step n m = record {
  follows = λ s t e. turn_follows (nat_lt s.turns n) (nat_lt t.turns m) _ _ (one_more s t e);
  grows = λ t. turn_grows (nat_lt t.turns m) t (record t { turns = t.turns + 1 }) (later_turns t (t.turns + 1) (omega arith));
  adds = λ s. turn_adds (nat_lt s.turns n) s;
}

-- ---- variables

either_beside : (b : Bool) (v w : Variable) (others more : Option Variable) → VariableBeside Stays v w → MaybeBeside (VariableBeside Stays) others more
    → MaybeBeside (VariableBeside Stays) (if b then Some v else others) (if b then Some w else more)
either_beside true v w others more r q = r
either_beside false v w others more r q = q

pub named_beside : (name : List ℕ) (vs ws : List Variable) → AllZip (VariableBeside Stays) vs ws → MaybeBeside (VariableBeside Stays) (variable_named name vs) (variable_named name ws)
named_beside name [] [] h = tt
named_beside name [] (w ∷ ws) h = absurd h
named_beside name (v ∷ vs) [] h = absurd h
named_beside name (v ∷ vs) (w ∷ ws) h =
    let others = named_beside name vs ws h.1 in
    at_variable h.0 (λ w. MaybeBeside (VariableBeside Stays) (variable_named name (v ∷ vs)) (variable_named name (w ∷ ws)))
    (λ a r. either_beside (bytes_eq v.name name) v (record v { holds = a }) _ _ (record { same = refl; holds = r }) others)

pub force_step : (a b : Arg) → Stays a b → StepFollows (List ℤ) Same (force a) (force b)
force_step (Know words) b h = subst (λ b. StepFollows (List ℤ) Same (force (Know words)) (force b)) h (gives_step _ _ words words refl)
force_step (Trapped t) b h = subst (λ b. StepFollows (List ℤ) Same (force (Trapped t)) (force b)) h (stops_step _ _ _)
force_step Unknown b h = record { follows = λ s t e. waited (Later-trans s t _ (Beside-later s t e) (forced b t)); grows = forced b; adds = Adds-itself } where
  forced : (b : Arg) (t : Store) → Later t (store_after (force b t))
  forced (Know words) t = Later-itself t
  forced (Trapped trap) t = Later-itself t
  forced Unknown t = Later-itself t

zip_drop : (count : ℕ) (vs ws : List Variable) → AllZip (VariableBeside Stays) vs ws → AllZip (VariableBeside Stays) (drop count vs) (drop count ws)
zip_drop zero vs ws h = h
zip_drop (suc count) [] [] h = tt
zip_drop (suc count) [] (w ∷ ws) h = absurd h
zip_drop (suc count) (v ∷ vs) [] h = absurd h
zip_drop (suc count) (v ∷ vs) (w ∷ ws) h = zip_drop count vs ws h.1

zip_oldest : (count : ℕ) (vs ws : List Variable) → AllZip (VariableBeside Stays) vs ws → AllZip (VariableBeside Stays) (oldest count vs) (oldest count ws)
zip_oldest count vs ws h =
    subst (λ n. AllZip (VariableBeside Stays) (oldest count vs) (drop (n - count) ws)) (sym (AllZip-long _ vs ws h)) (zip_drop (length vs - count) vs ws h)

later_scope : {A : Type 0} (count : ℕ) (s : Store) (p : Outcome A) → Later s (store_after p) → Later s (store_after (only_oldest count p))
later_scope count s (Goes a t) l = record { result = l.result; lines = l.lines; creations = l.creations; calls = l.calls; turns = l.turns }
later_scope count s (Returns words t) l = l
later_scope count s (Ends e t) l = l

scoped_calls : {A : Type 0} (count : ℕ) (o : Outcome A) → Adds (store_after o) (store_after (only_oldest count o))
scoped_calls count (Goes a s) = Adds-itself s
scoped_calls count (Returns words s) = Adds-itself s
scoped_calls count (Ends e s) = Adds-itself s

scope_follows : {A : Type 0} (V : A → A → Type 0) (count : ℕ) (o p : Outcome A) → Follows V o p → Follows V (only_oldest count o) (only_oldest count p)
scope_follows V count o p (goes {s = s} {t = t} v e) = goes v (record {
  same = ap (λ (u : Store). record u { variables = oldest count t.variables }) e.same;
  variables = zip_oldest count s.variables t.variables e.variables;
  calls = e.calls;
  result = e.result;
  turns = e.turns;
})
scope_follows V count o p (returns e) = returns e
scope_follows V count o p (ends e) = ends e
scope_follows V count o p (waited {s = s} {p = p'} l) = waited (later_scope count s p' l)
scope_follows V count o p (first_spent {s = s} {p = p'} l) = first_spent (later_scope count s p' l)
scope_follows V count o p (second_spent {o = o'} {t = t} i) = second_spent (Ahead-adds (store_after o') (store_after (only_oldest count o')) t i (scoped_calls count o'))

pub scope_step : (A : Type 0) (V : A → A → Type 0) (f g : Step A) → StepFollows A V f g → StepFollows A V (in_scope f) (in_scope g)
scope_step A V f g r = record {
  follows = λ s t e.
      subst (λ n. Follows V (in_scope f s) (only_oldest n (g t))) (sym (AllZip-long _ s.variables t.variables e.variables))
      (scope_follows V (length s.variables) (f s) (g t) (r.follows s t e));
  grows = λ t. later_scope (length t.variables) t (g t) (r.grows t);
  adds = λ s. Adds-trans s (store_after (f s)) (store_after (in_scope f s)) (r.adds s) (scoped_calls (length s.variables) (f s));
}
