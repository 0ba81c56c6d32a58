-- What is said of a place in a frame alone: its variables fit, and the uses that lie ahead are marked where their variables are
-- loose.
use Rattle.std.proofs.Common.{◌≡◌, ◌<◌, ℕ, Bool, true, false, List, [], ◌∷◌, ◌++◌, length, Option, Some, None, ℤ, ◌⊎◌, inl, inr, refl, ap, sym, subst, ◌∙◌}
use Rattle.std.specs.List.{slice_get, slice_set}
use Rattle.mpl_ast.specs.declared.program.Declaration.{Declaration}
use Rattle.mpl_value.specs.declared.body.Arg.{Arg}
use Rattle.mpl_value.specs.declared.body.Arg.TheVariants as arg
use Rattle.mpl_mean.specs.Pending.BodyWays.{event_of, held_event}
use Rattle.mpl_mean.specs.Pending.Looseness.{Event, Copies, Forces, Loosens, Loose, Settles, behind_event, where_one_is}
use Rattle.mpl_mean.specs.Pending.Paths.{Ways, Either, NoEvent, Only, Then, here, in_first, in_second, only}
use Rattle.mpl_mean.specs.Plain.Expr.{Expr}
use Rattle.mpl_mean.specs.Plain.Expr as e
use Rattle.mpl_mean.specs.Plain.Scopes as plain
use Rattle.mdf_code.specs.Alone.{Held, seen_by}
use Rattle.mpl_checked.proofs.Covering.{Covers, covers_one, covers_other}
use Rattle.mpl_gen_code.specs.Scopes.{Slot}
use Rattle.mpl_gen_code.proofs.Scoped.{IsApart, WellScoped}
use Rattle.mpl_gen_laws.proofs.LooseWays.{AreAhead, covers_ahead, in_turn_then, skips}
use Rattle.mpl_gen_laws.proofs.Loosened.{Beside, KnownAt, StandsAt, beside_hidden, beside_kept, beside_known, beside_later, beside_new, beside_set, beside_settled}
use Rattle.mpl_gen_laws.proofs.SafeSteps.{Later, Run, Scene, VarsFit, still_known}

-- ---- what a whole variable takes

-- an event in which this variable takes something
abbrev pub IsInto : ℕ → Event → Type 0
IsInto n (Loosens m) = m ≡ n
IsInto n (Settles m) = m ≡ n
IsInto n (Copies m from) = m ≡ n
IsInto n (Forces node m) = ⊥

-- what is settled is known, and a copy is of a variable
abbrev pub TakesAs : (ℕ → Arg) → List Slot → List Held → Held → Event → Type 0
TakesAs knows scope vs v (Loosens n) = Unit {0}
TakesAs knows scope vs v (Settles n) = (words : List ℤ) × (seen_by knows v ≡ arg.Know words)
TakesAs knows scope vs v (Copies n from) = (slot : Slot) × StandsAt scope from slot × (slice_get vs slot.number ≡ Some v)
TakesAs knows scope vs v (Forces node n) = Unit {0}

held_into : (n : ℕ) (o : Option plain.Slot) → IsInto n (held_event n o)
held_into n None = refl
held_into n (Some slot) = refl

pub event_into : (env : plain.Env) (n : ℕ) (t : Expr) → IsInto n (event_of env n t)
event_into env n (e.Number at z) = refl
event_into env n (e.Truth at b) = refl
event_into env n (e.Own at) = refl
event_into env n (e.Input at) = refl
event_into env n (e.Whole at target) = held_into n (plain.whole_slot env (e.Whole at target))
event_into env n (e.Element at line target index) = refl
event_into env n (e.PlainCall at function arguments) = refl
event_into env n (e.Parenthesized at t) = refl
event_into env n (e.Unary at line operator operand) = refl
event_into env n (e.Binary at line operator left right) = refl
event_into env n (e.CallOnOwn at member arguments) = refl
event_into env n (e.CallOnTarget at target member arguments) = refl

-- ---- what lies ahead

pub record Ahead (C : Scene) (marks : ℕ → Bool) (scope : List Slot) (D : Run C) (vs : List Held) (ways : Ways) : Type 0 where
  pub fit : VarsFit C vs
  pub loose : Loose
  pub covers : Covers marks ways loose
  pub beside : Beside D.knows loose scope vs

module _ (C : Scene) (marks : ℕ → Bool) (scope : List Slot) where
  abbrev Here : Run C → List Held → Ways → Type 0
  Here D vs ways = Ahead C marks scope D vs ways

  pub ahead_later : (D E : Run C) (vs : List Held) (ways : Ways) → Later C D E → Here D vs ways → Here E vs ways
  ahead_later D E vs ways later a = record { fit = a.fit; loose = a.loose; covers = a.covers; beside = beside_later D.knows E.knows a.loose scope vs (λ v words e. still_known C D E v words later e) a.beside }

  pub ahead_by : (D : Run C) (vs : List Held) (new old : Ways) → AreAhead new old → Here D vs old → Here D vs new
  ahead_by D vs new old ahead a = record { fit = a.fit; loose = a.loose; covers = covers_ahead new old ahead a.covers; beside = a.beside }

  pub ahead_one : (D : Run C) (vs : List Held) (one other : Ways) → Here D vs (Either one other) → Here D vs one
  ahead_one D vs one other a = record { fit = a.fit; loose = a.loose; covers = covers_one a.covers; beside = a.beside }

  pub ahead_other : (D : Run C) (vs : List Held) (one other : Ways) → Here D vs (Either one other) → Here D vs other
  ahead_other D vs one other a = record { fit = a.fit; loose = a.loose; covers = covers_other a.covers; beside = a.beside }

  -- where nothing comes before the rest
  pub ahead_skip : (D : Run C) (vs : List Held) (rest : Ways) → Here D vs (Then NoEvent rest) → Here D vs rest
  ahead_skip D vs rest a = ahead_by D vs rest (Then NoEvent rest) (skips rest) a

  pub ahead_in_turn : (D : Run C) (vs : List Held) (first second rest : Ways) → Here D vs (Then (Then first second) rest) → Here D vs (Then first (Then second rest))
  ahead_in_turn D vs first second rest a = ahead_by D vs (Then first (Then second rest)) (Then (Then first second) rest) (in_turn_then first second rest) a

  covers_event : (event : Event) (rest : Ways) (loose : Loose) → Covers marks (Then (Only event) rest) loose → Covers marks rest (behind_event event loose)
  covers_event event rest loose c = record { marked = λ node variable path upto e. c.marked node variable (event ∷ path) (in_second only upto) e }

  -- a use is marked, or what it uses is known
  pub used_or_known : (D : Run C) (vs : List Held) (node n : ℕ) (slot : Slot) (rest : Ways) → StandsAt scope n slot → Here D vs (Then (Only (Forces node n)) rest) → (marks node ≡ true) ⊎ KnownAt D.knows vs slot.number
  used_or_known D vs node n slot rest stands a = by_loose (a.loose n) refl where
    by_loose : (b : Bool) → a.loose n ≡ b → (marks node ≡ true) ⊎ KnownAt D.knows vs slot.number
    by_loose true is = inl (a.covers.marked node n _ (in_first here) is)
    by_loose false is = inr (beside_known D.knows a.loose scope vs n slot stands a.beside is)

  -- behind a use
  pub past_use : (D : Run C) (vs : List Held) (node n : ℕ) (slot : Slot) (rest : Ways) → StandsAt scope n slot → KnownAt D.knows vs slot.number → Here D vs (Then (Only (Forces node n)) rest) → Here D vs rest
  past_use D vs node n slot rest stands known a = record {
    fit = a.fit;
    loose = where_one_is n false a.loose;
    covers = covers_event (Forces node n) rest a.loose a.covers;
    beside = beside_settled D.knows a.loose scope vs n slot stands known a.beside;
  }

  -- where the variable then holds other words
  pub past_store : (D : Run C) (ds : List Declaration) (sizes : List ℕ) (vs : List Held) (n : ℕ) (slot : Slot) (v : Held) (words : List ℤ) (ways : Ways) → WellScoped ds sizes scope → StandsAt scope n slot → slot.number < length vs
      → VarsFit C (slice_set vs slot.number v) → seen_by D.knows v ≡ arg.Know words → Here D vs ways → Here D (slice_set vs slot.number v) ways
  past_store D ds sizes vs n slot v words ways well stands within fit known a =
      record { fit = fit; loose = a.loose; covers = a.covers; beside = beside_kept D.knows a.loose ds sizes scope vs n slot v words well stands within known a.beside }

  -- two variables that aren't in scope
  pub past_test : (D : Run C) (vs : List Held) (one other : ℕ) (v u : Held) (ways : Ways) → IsApart one scope → IsApart other scope → VarsFit C (slice_set (slice_set vs one v) other u) → Here D vs ways → Here D (slice_set (slice_set vs one v) other u) ways
  past_test D vs one other v u ways first second fit a =
      record { fit = fit; loose = a.loose; covers = a.covers; beside = beside_hidden D.knows a.loose scope (slice_set vs one v) other u second (beside_hidden D.knows a.loose scope vs one v first a.beside) }

  abbrev Knows : Run C → Held → Type 0
  Knows D v = (words : List ℤ) × (seen_by D.knows v ≡ arg.Know words)

  some_same : {a b : Held} → Some a ≡ Some b → a ≡ b
  some_same e = cc e

  taken : (D : Run C) (vs : List Held) (loose : Loose) (n : ℕ) (v : Held) (event : Event) → IsInto n event → TakesAs D.knows scope vs v event → Beside D.knows loose scope vs
      → (b : Bool) × (behind_event event loose ≡ where_one_is n b loose) × (b ≡ false → Knows D v)
  taken D vs loose n v (Loosens m) is takes beside = (true, ap (λ k. where_one_is k true loose) is, λ e. absurd cc)
  taken D vs loose n v (Settles m) is takes beside = (false, ap (λ k. where_one_is k false loose) is, λ e. takes)
  taken D vs loose n v (Copies m from) is takes beside = (
    loose from,
    ap (λ k. where_one_is k (loose from) loose) is,
    λ off. let known = beside_known D.knows loose scope vs from takes.0 takes.1 beside off in
        (known.1, ap (seen_by D.knows) (some_same (sym takes.2 ∙ known.2)) ∙ known.3),
  )
  taken D vs loose n v (Forces node m) is takes beside = absurd is

  pub past_taken : (D : Run C) (ds : List Declaration) (sizes : List ℕ) (vs : List Held) (n : ℕ) (slot : Slot) (v : Held) (event : Event) (rest : Ways) → WellScoped ds sizes scope → StandsAt scope n slot → slot.number < length vs
      → VarsFit C (slice_set vs slot.number v) → IsInto n event → TakesAs D.knows scope vs v event → Here D vs (Then (Only event) rest) → Here D (slice_set vs slot.number v) rest
  past_taken D ds sizes vs n slot v event rest well stands within fit is takes a = let t = taken D vs a.loose n v event is takes a.beside in record {
    fit = fit;
    loose = where_one_is n t.0 a.loose;
    covers = subst (Covers marks rest) t.1 (covers_event event rest a.loose a.covers);
    beside = beside_set D.knows a.loose ds sizes scope vs n slot v t.0 well stands within t.2 a.beside;
  }

  -- a new variable
  pub past_new : (D : Run C) (vs : List Held) (slot : Slot) (v : Held) (event : Event) (rest : Ways) → IsApart slot.number scope → slot.number < length vs → VarsFit C (slice_set vs slot.number v) → IsInto (length scope) event → TakesAs D.knows scope vs v event
      → Here D vs (Then (Only event) rest) → Ahead C marks (slot ∷ scope) D (slice_set vs slot.number v) rest
  past_new D vs slot v event rest apart within fit is takes a = let t = taken D vs a.loose (length scope) v event is takes a.beside in record {
    fit = fit;
    loose = where_one_is (length scope) t.0 a.loose;
    covers = subst (Covers marks rest) t.1 (covers_event event rest a.loose a.covers);
    beside = beside_new D.knows a.loose scope vs slot v t.0 apart within t.2 a.beside;
  }

-- behind a block its variables are out of scope
pub ahead_outside : (C : Scene) (marks : ℕ → Bool) (newer scope : List Slot) (D : Run C) (vs : List Held) (ways : Ways) → Ahead C marks (newer ++ scope) D vs ways → Ahead C marks scope D vs ways
ahead_outside C marks newer scope D vs ways a = record { fit = a.fit; loose = a.loose; covers = a.covers; beside = older newer a.beside } where
  older : (newer : List Slot) → Beside D.knows a.loose (newer ++ scope) vs → Beside D.knows a.loose scope vs
  older [] h = h
  older (slot ∷ newer) h = older newer h.1
