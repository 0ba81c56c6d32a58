-- What a body does is the same, whatever turns were spent before it, as long as as many are left.
use Rattle.std.proofs.Common.{◌≡◌, ℕ, zero, suc, ◌+◌, ◌≤◌, Bool, true, false, List, [], ◌∷◌, map, Option, Some, None, if◌then◌else◌, ℤ, refl, sym, ap, ◌∙◌, arith}
use Rattle.std.proofs.lemmas.List.Elements.{same_from_all_zip}
use Rattle.std.specs.FinMap.{empty}
use Rattle.std.specs.List.{AllZip}
use Rattle.mpl_ast.specs.declared.program.Declaration.{Declaration}
use Rattle.mpl_ast.specs.declared.statement.Statement.{Statement}
use Rattle.mpl_value.specs.declared.body.Arg.{Arg}
use Rattle.mpl_value.specs.declared.body.Arg.TheVariants.{Know, Trapped, Unknown}
use Rattle.mpl_value.specs.declared.body.BodyEnd.TheVariants as end
use Rattle.mpl_value.specs.declared.body.BodyResult.{BodyResult}
use Rattle.mpl_value.specs.declared.body.BodyResult.TheVariants as result
use Rattle.mpl_value.specs.declared.known.Trap.{Trap}
use Rattle.mpl_mean.specs.Meaning.BodyMeaning.{callees_at, context_with, formals_holding, plain_body, regular_body, run, store_with, with_variables}
use Rattle.mpl_mean.specs.Meaning.CallMeaning.{answer, made, unless_trapped}
use Rattle.mpl_value.specs.CallAnswers.{any_unknown, known_words, leftmost_trap}
use Rattle.mpl_mean.specs.Meaning.Context.{Context}
use Rattle.mpl_mean.specs.Meaning.ExpressionMeaning.{next_of}
use Rattle.mpl_mean.specs.Meaning.Layout.{Function, Member}
use Rattle.mpl_mean.specs.Meaning.StatementMeaning.{does, give_result, gives_result}
use Rattle.mpl_mean.specs.Meaning.Store.{Store, Outcome, Goes, Returns, Ends, Step, Variable, declare, force, pure, hold, in_turn, stop, variable_named}
use Rattle.mpl_mean.proofs.Allowance.CountedSteps.{below_counted, by_count, plain_counted, regular_counted}
use Rattle.mpl_mean.proofs.MoreReplies.ComesBack.{after_plain, after_regular}
use Rattle.mpl_mean.proofs.InPlace.Shifted.{Shifts, loop_shifts, next_turn, none_left, scope_shifts, shift, shifted, spend_same, then_shifts, turn_shifts}
use Rattle.mpl_mean.proofs.Simulations.KeptStatements.{body_kept}
use Rattle.mpl_mean.proofs.Simulations.Simulation.{Simulation, BelowBeside, Same, VariableBeside, maybe_itself, variable_itself, zip_itself}

-- ---- what is forced, read and given

force_same : (k : ℕ) (a : Arg) (t : Store) → force a (shift k t) ≡ shifted k (force a t)
force_same k (Know words) t = refl
force_same k (Trapped trap) t = refl
force_same k Unknown t = refl

next_same : (k line : ℕ) (input : List ℤ) (t : Store) → next_of line input (shift k t) ≡ shifted k (next_of line input t)
next_same k line [] t = refl
next_same k line (z ∷ input) t = refl

given_same : (k line : ℕ) (a : Arg) (r : BodyResult) (t : Store) → give_result line a r (shift k t) ≡ shifted k (give_result line a r t)
given_same k line a result.Open t = refl
given_same k line a (result.Known known) t = refl
given_same k line a result.Unknown t = refl

-- ---- answers

all_same : (args others : List Arg) → AllZip Same args others → args ≡ others
all_same args others h = sym (same_from_all_zip Same args others h (λ x y e. sym e))

same_variable : {v w : Variable} → VariableBeside Same v w → v ≡ w
same_variable {v} b = ap (λ a. record v { holds = a }) b.holds ∙ b.same

answer_same : (left k low : ℕ) (unknown : Bool) (trap : Option Trap) (f g : Step Arg) → Shifts left k low f g → (t : Store) → low ≤ t.turns + k → t.turns ≤ left
    → (if unknown then pure Unknown else unless_trapped trap f) (shift k t) ≡ shifted k ((if unknown then pure Unknown else unless_trapped trap g) t)
answer_same left k low true trap f g r t from to = refl
answer_same left k low false None f g r t from to = r.same t from to
answer_same left k low false (Some trap) f g r t from to = refl

-- ---- bodies in place

plain_same : (k : ℕ) (f : Function) (t : Store) (o : Outcome (Unit {0})) → after_plain f (shift k t) (shifted k o) ≡ shifted k (after_plain f t o)
plain_same k f t (Goes value u) = refl
plain_same k f t (Returns words u) = refl
plain_same k f t (Ends e u) = refl

regular_same : (k : ℕ) (m : Member) (t : Store) (o : Outcome (Unit {0})) → after_regular m (shift k t) (shifted k o) ≡ shifted k (after_regular m t o)
regular_same k m t (Goes value u) = refl
regular_same k m t (Returns words u) = refl
regular_same k m t (Ends end.Done u) = refl
regular_same k m t (Ends (end.Trap trap) u) = refl
regular_same k m t (Ends end.Waits u) = refl
regular_same k m t (Ends end.Spent u) = refl

plain_shifts : (left k low : ℕ) (x y : Context) (f : Function) (arguments : List (List ℤ)) → Shifts left k low (run x f.body.statements) (run y f.body.statements)
    → Shifts left k low (plain_body x f arguments) (plain_body y f arguments)
plain_shifts left k low x y f arguments r = record {
  counted = plain_counted (left + k) low x f arguments r.counted;
  same = λ t from to.
      let begun = with_variables (formals_holding f.formals arguments) t in
      ap (after_plain f (shift k t)) (r.same begun from to) ∙ plain_same k f t (run y f.body.statements begun);
}

regular_shifts : (left k low : ℕ) (x y : Context) (m : Member) (arguments : List (List ℤ)) → Shifts left k low (run x m.body.statements) (run y m.body.statements)
    → Shifts left k low (regular_body x m arguments) (regular_body y m arguments)
regular_shifts left k low x y m arguments r = record {
  counted = regular_counted (left + k) low x m arguments r.counted;
  same = λ t from to.
      let begun = store_with (formals_holding m.formals arguments) [] [] t.turns in
      ap (after_regular m (shift k t)) (r.same begun from to) ∙ regular_same k m t (run y m.body.statements begun);
}

-- ---- all steps

module _ (left k low : ℕ) (above : k ≤ low) where
  abbrev count : Simulation
  count = by_count (left + k) low empty

  abbrev by_shift : Simulation
  by_shift = record {
    n = left + k;
    m = left;
    replies = empty;
    more = empty;
    Held = Same;
    Serves = λ A V. ((a : A) → V a a) × ((a b : A) → V a b → a ≡ b);
    Steps = λ A V. Shifts left k low;
    Answers = Shifts left k low;
    same = λ A. (λ a. refl, λ a b e. e);
    held = (λ a. refl, λ a b e. e);
    all_held = (zip_itself Same (λ a. refl), all_same);
    itself = λ a. refl;
    gives = λ A V a b serves v. record { counted = count.gives A V a b serves.0 v; same = λ t from to. ap (λ a. Goes a (shift k t)) (serves.1 a b v) };
    goes_on = λ A B V W f g h i serves r q. then_shifts left k low f g h i r (λ a. q a a (serves.0 a));
    traps = λ A V trap. record { counted = count.traps A V trap; same = λ t from to. refl };
    waiting = λ A V. record { counted = count.waiting A V; same = λ t from to. refl };
    spends = record { counted = count.spends; same = λ t from to. spend_same left k t };
    looks = λ A V name h i r. record {
      counted = λ s. let v = variable_named name s.variables in (r v v (maybe_itself (VariableBeside Same) (variable_itself Same (λ a. refl)) v)).counted s;
      same = λ t. let v = variable_named name t.variables in (r v v (maybe_itself (VariableBeside Same) (variable_itself Same (λ a. refl)) v)).same t;
    };
    returns = λ words. record { counted = count.returns words; same = λ t from to. refl };
    state = record { counted = count.state; same = λ t from to. refl };
    restates = λ offset words. record { counted = count.restates offset words; same = λ t from to. refl };
    forces = λ a b e. record { counted = count.forces a b e; same = λ t from to. force_same k a t ∙ ap (λ a. shifted k (force a t)) e };
    holds = λ name a b e. record { counted = count.holds name a b e; same = λ t from to. ap (λ a. hold name a (shift k t)) e };
    declares = λ v w e. record { counted = count.declares v w e; same = λ t from to. ap (λ v. declare v (shift k t)) (same_variable e) };
    scopes = λ A V f g r. scope_shifts left k low f g r;
    prints = λ text. record { counted = count.prints text; same = λ t from to. refl };
    inputs = λ line. record { counted = count.inputs line; same = λ t from to. next_same k line t.input t };
    makes = λ object member args others e. record {
      counted = count.makes object member args others e;
      same = λ t from to. ap (λ args. made object member args (shift k t)) (all_same args others e);
    };
    creates = λ x class. record { counted = count.creates x class; same = λ t from to. refl };
    results = λ line a b e. record { counted = count.results line a b e; same = λ t from to. given_same k line a t.result t ∙ ap (λ a. shifted k (gives_result line a t)) e };
    answers = λ args others f g h r. record {
      counted = count.answers args others f f h (λ words. (r words).counted);
      same = λ t from to.
          answer_same left k low (any_unknown args) (leftmost_trap args) (f (known_words args)) (g (known_words args)) (r (known_words args)) t from to
          ∙ ap (λ args. shifted k (answer args (g (known_words args)) t)) (all_same args others h);
    };
    replied = λ call. record { counted = count.replied call; same = λ t from to. refl };
    loops = λ f g h i r q. loop_shifts (left + k + 1) (left + 1) left k low f g h i (omega arith) (omega arith) r q;
    in_plain = λ x y f arguments r. plain_shifts left k low x y f arguments r;
    in_regular = λ x y m arguments r. regular_shifts left k low x y m arguments r;
  }

-- ---- levels

limit_same : (k : ℕ) {A : Type 0} (f g : Step A) (t : Store) → f (shift k t) ≡ Ends end.Spent (record t { turns = t.turns + k + 1 }) → g t ≡ Ends end.Spent (record t { turns = t.turns + 1 })
    → f (shift k t) ≡ shifted k (g t)
limit_same k f g t e h = e ∙ ap (λ u. Ends end.Spent u) (next_turn k t) ∙ sym (ap (shifted k) h)

module _ (ds : List Declaration) where
  abbrev at : ℕ → ℕ → Context
  at level turns = context_with ds turns empty (callees_at level ds turns empty)

  -- where no turn is left the level decides nothing
  pub plain_none : (level turns : ℕ) (f : Function) (arguments : List (List ℤ)) (s : Store) → turns ≤ s.turns
      → (callees_at level ds turns empty).plain f arguments s ≡ Ends end.Spent (record s { turns = s.turns + 1 })
  plain_none zero turns f arguments s le = none_left turns s (stop end.Spent) le
  plain_none (suc level) turns f arguments s le =
      ap (after_plain f s) (none_left turns (with_variables (formals_holding f.formals arguments) s) (in_turn (map (λ s. does s (at level turns)) f.body.statements)) le)

  pub regular_none : (level turns : ℕ) (m : Member) (arguments : List (List ℤ)) (s : Store) → turns ≤ s.turns
      → (callees_at level ds turns empty).regular m arguments s ≡ Ends end.Spent (record s { turns = s.turns + 1 })
  regular_none zero turns m arguments s le = none_left turns s (stop end.Spent) le
  regular_none (suc level) turns m arguments s le =
      ap (after_regular m s) (none_left turns (store_with (formals_holding m.formals arguments) [] [] s.turns) (in_turn (map (λ s. does s (at level turns)) m.body.statements)) le)

  module _ (left k : ℕ) where
    at_limit : (level higher low : ℕ) (above : k ≤ low) → left + k ≤ low + level → left + k ≤ low → BelowBeside (by_shift left k low above) (callees_at level ds (left + k) empty) (callees_at higher ds left empty)
    at_limit level higher low above few none = record {
      plain = λ f arguments. record {
        counted = (below_counted ds (left + k) empty level low few).plain f arguments;
        same = λ t from to. limit_same k ((callees_at level ds (left + k) empty).plain f arguments) ((callees_at higher ds left empty).plain f arguments) t (plain_none level (left + k) f arguments (shift k t) (omega arith)) (plain_none higher left f arguments t (omega arith));
      };
      regular = λ m arguments. record {
        counted = (below_counted ds (left + k) empty level low few).regular m arguments;
        same = λ t from to. limit_same k ((callees_at level ds (left + k) empty).regular m arguments) ((callees_at higher ds left empty).regular m arguments) t (regular_none level (left + k) m arguments (shift k t) (omega arith)) (regular_none higher left m arguments t (omega arith));
      };
    }

    below_shifts : (level higher low : ℕ) (above : k ≤ low) → left + k ≤ low + level → left + k ≤ low + higher
        → BelowBeside (by_shift left k low above) (callees_at level ds (left + k) empty) (callees_at higher ds left empty)
    below_shifts zero higher low above few le = at_limit zero higher low above few (omega arith)
    below_shifts (suc level) zero low above few le = at_limit (suc level) zero low above few (omega arith)
    below_shifts (suc level) (suc higher) low above few le =
        let x = at level (left + k) in
        let y = at higher left in
        let more : k ≤ low + 1 = omega arith in
        let d = below_shifts level higher (low + 1) more (omega arith) (omega arith) in
        let ran = (λ (ts : List Statement). turn_shifts left k low _ _ (body_kept (by_shift left k (low + 1) more) _ _ d x ts)) in
        record {
          plain = λ f arguments. plain_shifts left k low x y f arguments (ran f.body.statements);
          regular = λ m arguments. regular_shifts left k low x y m arguments (ran m.body.statements);
        }

    -- a regular member that is called where so many turns were spent, and where none was
    pub regular_shifted : (level higher : ℕ) → left ≤ level → left ≤ higher → (m : Member) (arguments : List (List ℤ)) (t : Store) → t.turns ≡ 0
        → (callees_at level ds (left + k) empty).regular m arguments (shift k t) ≡ shifted k ((callees_at higher ds left empty).regular m arguments t)
    regular_shifted level higher few le m arguments t none =
        ((below_shifts level higher k (omega arith) (omega arith) (omega arith)).regular m arguments).same t (omega arith) (omega arith)
