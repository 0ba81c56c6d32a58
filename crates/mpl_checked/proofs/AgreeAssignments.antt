-- Checked assignments are as they are meant.
use Rattle.std.proofs.Common.{◌≡◌, ℕ, ◌+◌, Bool, true, false, List, [], ◌∷◌, ◌⊎◌, inl, inr, Option, Some, None, ℤ, refl, ap, sym, subst, true≢false, ◌∙◌}
use Rattle.mpl_ast.specs.declared.expression.Target.{Target}
use Rattle.mpl_ast.specs.declared.expression.Target.TheVariants as target
use Rattle.mpl_ast.specs.declared.place.At.{At}
use Rattle.mpl_ast.specs.declared.place.Name.{Name}
use Rattle.mpl_ast.specs.declared.statement.TypeName.{TypeName}
use Rattle.mpl_value.specs.Words.{index_below}
use Rattle.mpl_value.specs.declared.body.Arg.{Arg}
use Rattle.mpl_value.specs.declared.body.Arg.TheVariants as arg
use Rattle.mpl_mean.specs.Meaning.CallMeaning.{held_or}
use Rattle.mpl_mean.specs.Meaning.Context.{Context}
use Rattle.mpl_mean.specs.Meaning.Layout as Layout
use Rattle.mpl_mean.specs.Meaning.Layout.{Class, part_named, parts_of_type}
use Rattle.mpl_mean.specs.Meaning.PlaceMeaning.{Location, location_of, location_of_name, put, read, tested_index}
use Rattle.mpl_mean.specs.Meaning.StatementMeaning.{Effect, assign_location, at_location}
use Rattle.mpl_mean.specs.Meaning.Store.{Store, Outcome, Goes, Returns, Ends, Step, Variable, ◌>>=◌, and_then, force, holding, variable_named, waits}
use Rattle.mpl_mean.specs.Meaning.Values.{Value, word_of}
use Rattle.mpl_mean.specs.Plain.Expr.{Expr, Exprs, stands_at}
use Rattle.mpl_mean.specs.Plain.Expr as e
use Rattle.mpl_mean.specs.Plain.Scopes.{Env, Found, Shape, Slot, found_at, found_field, found_name, found_part, slot_named, slot_of_target, whole_slot}
use Rattle.mpl_mean.specs.Pending.BodyWays.{assigned_ways, becomes, event_of, flow_ways, forces, held_event, place_ways, unless_whole, uses, value_ways}
use Rattle.mpl_mean.specs.Pending.Looseness.{Forces, Loose, behind_event, behind_path, where_one_is}
use Rattle.mpl_mean.specs.Pending.Paths.{Ways, Only, Then, only}
use Rattle.mpl_plain.specs.Arity.{ExprFits, IndexFits}
use Rattle.mpl_plain.specs.ExprMeaning.{tree_passes, tree_value}
use Rattle.mpl_plain.specs.StmtMeaning.{assign_element, assign_tree}
use Rattle.mpl_checked.specs.Checked.CheckedExpressions.{checked_held, checked_passes, checked_read, checked_value}
use Rattle.mpl_checked.specs.Checked.CheckedStatements.{checked_assign, checked_assign_element, checked_assigns, checked_force_passed, checked_put}
use Rattle.mpl_checked.specs.Checked.CheckedSteps.{Checked, Meant, CheckedStep, Checking, ◌>?>◌, checked_force, force_unknown, goes_on, meant}
use Rattle.mpl_checked.proofs.Agreeing.{Agrees, Any, Quiet, event_agrees, event_then, then_agrees, then_quiet}
use Rattle.mpl_checked.proofs.AgreeCalls.{passes_agree, value_agrees}
use Rattle.mpl_checked.proofs.AgreeForms.{Agreeing, Below, Passed, may_be_loose, slot_loose}
use Rattle.mpl_checked.proofs.Covering.{Covers, covers_first, covers_second}
use Rattle.mpl_checked.proofs.Standing.{Beside, IsKnown, Sits, sits}
use Rattle.mpl_checked.proofs.Uses.{Placed, env_of, name_at, placed, put_agrees, use_marked}

-- ---- what a variable holds behind its event

held_sets : (y : ℕ) (slot : Option Slot) (loose : Loose) → behind_event (held_event y slot) loose ≡ where_one_is y (slot_loose loose slot) loose
held_sets y None loose = refl
held_sets y (Some slot) loose = refl

pub event_sets : (env : Env) (y : ℕ) (expr : Expr) (loose : Loose) → behind_event (event_of env y expr) loose ≡ where_one_is y (may_be_loose env loose expr) loose
event_sets env y (e.Number at z) loose = refl
event_sets env y (e.Truth at b) loose = refl
event_sets env y (e.Own at) loose = refl
event_sets env y (e.Input at) loose = refl
event_sets env y (e.Whole at t) loose = held_sets y (whole_slot env (e.Whole at t)) loose
event_sets env y (e.Element at line t index) loose = refl
event_sets env y (e.PlainCall at function arguments) loose = refl
event_sets env y (e.Parenthesized at inner) loose = refl
event_sets env y (e.Unary at line operator operand) loose = refl
event_sets env y (e.Binary at line operator left right) loose = refl
event_sets env y (e.CallOnOwn at member arguments) loose = refl
event_sets env y (e.CallOnTarget at t member arguments) loose = refl

-- ---- what is forced at once

abbrev IsCall : Expr → Type 0
IsCall (e.CallOnOwn at member arguments) = Unit {0}
IsCall (e.CallOnTarget at t member arguments) = Unit {0}
IsCall other = ⊥

-- it ends, as it is meant
abbrev IsEnd : {A : Type 0} → Outcome A → Type 0
IsEnd {A} (Goes a s) = ⊥
IsEnd {A} (Returns words s) = ⊥
IsEnd {A} (Ends e s) = Unit {0}

ended_agrees : {A : Type 0} (ways : Ways) (scope : List Shape) (loose : Loose) (P : Loose → A → Type 0) (k : Checked (Outcome A)) (o : Outcome A) → k ≡ Meant o → IsEnd o → Agrees ways scope loose P k o
ended_agrees ways scope loose P k (Goes a s) same is = absurd is
ended_agrees ways scope loose P k (Returns words s) same is = absurd is
ended_agrees ways scope loose P k (Ends e s) same is = record { same = same; follows = tt }

module _ (checking : Checking) where
  pub known_passed : (expr : Expr) (words : List ℤ) (s : Store) → checked_force_passed checking expr (arg.Know words) s ≡ Meant (Goes words s)
  known_passed (e.Number at z) words s = refl
  known_passed (e.Truth at b) words s = refl
  known_passed (e.Own at) words s = refl
  known_passed (e.Input at) words s = refl
  known_passed (e.Whole at t) words s = refl
  known_passed (e.Element at line t index) words s = refl
  known_passed (e.PlainCall at function arguments) words s = refl
  known_passed (e.Parenthesized at inner) words s = refl
  known_passed (e.Unary at line operator operand) words s = refl
  known_passed (e.Binary at line operator left right) words s = refl
  known_passed (e.CallOnOwn at member arguments) words s = refl
  known_passed (e.CallOnTarget at t member arguments) words s = refl

  -- what isn't known is the result of a call, or a marked use of a variable
  abbrev MayFail : Expr → Type 0
  MayFail expr = IsCall expr ⊎ (checking.marks (stands_at expr).id ≡ true)

  marked_fails : (node : ℕ) (passed : Arg) (s : Store) → checking.marks node ≡ true → (IsKnown passed → ⊥) → checked_force (checking.marks node) passed s ≡ Meant (force passed s)
  marked_fails node (arg.Know words) s is unknown = refl
  marked_fails node (arg.Trapped trap) s is unknown = ap (λ b. force_unknown b (arg.Trapped trap) s) is
  marked_fails node arg.Unknown s is unknown = ap (λ b. force_unknown b arg.Unknown s) is

  fails_as_meant : (expr : Expr) (passed : Arg) (s : Store) → MayFail expr → (IsKnown passed → ⊥) → checked_force_passed checking expr passed s ≡ Meant (force passed s)
  fails_as_meant (e.CallOnOwn at member arguments) passed s may unknown = refl
  fails_as_meant (e.CallOnTarget at t member arguments) passed s may unknown = refl
  fails_as_meant (e.Number at z) passed s (inl call) unknown = absurd call
  fails_as_meant (e.Number at z) passed s (inr is) unknown = marked_fails at.id passed s is unknown
  fails_as_meant (e.Truth at b) passed s (inl call) unknown = absurd call
  fails_as_meant (e.Truth at b) passed s (inr is) unknown = marked_fails at.id passed s is unknown
  fails_as_meant (e.Own at) passed s (inl call) unknown = absurd call
  fails_as_meant (e.Own at) passed s (inr is) unknown = marked_fails at.id passed s is unknown
  fails_as_meant (e.Input at) passed s (inl call) unknown = absurd call
  fails_as_meant (e.Input at) passed s (inr is) unknown = marked_fails at.id passed s is unknown
  fails_as_meant (e.Whole at t) passed s (inl call) unknown = absurd call
  fails_as_meant (e.Whole at t) passed s (inr is) unknown = marked_fails at.id passed s is unknown
  fails_as_meant (e.Element at line t index) passed s (inl call) unknown = absurd call
  fails_as_meant (e.Element at line t index) passed s (inr is) unknown = marked_fails at.id passed s is unknown
  fails_as_meant (e.PlainCall at function arguments) passed s (inl call) unknown = absurd call
  fails_as_meant (e.PlainCall at function arguments) passed s (inr is) unknown = marked_fails at.id passed s is unknown
  fails_as_meant (e.Parenthesized at inner) passed s (inl call) unknown = absurd call
  fails_as_meant (e.Parenthesized at inner) passed s (inr is) unknown = marked_fails at.id passed s is unknown
  fails_as_meant (e.Unary at line operator operand) passed s (inl call) unknown = absurd call
  fails_as_meant (e.Unary at line operator operand) passed s (inr is) unknown = marked_fails at.id passed s is unknown
  fails_as_meant (e.Binary at line operator left right) passed s (inl call) unknown = absurd call
  fails_as_meant (e.Binary at line operator left right) passed s (inr is) unknown = marked_fails at.id passed s is unknown

  force_ends : {B : Type 0} (passed : Arg) (s : Store) (h : List ℤ → Step B) → (IsKnown passed → ⊥) → IsEnd (and_then (force passed s) h)
  force_ends (arg.Know words) s h unknown = absurd (unknown tt)
  force_ends (arg.Trapped trap) s h unknown = tt
  force_ends arg.Unknown s h unknown = tt

  failed_same : {B : Type 0} (expr : Expr) (passed : Arg) (s : Store) (kh : List ℤ → CheckedStep B) (h : List ℤ → Step B) → MayFail expr → (IsKnown passed → ⊥)
      → goes_on (checked_force_passed checking expr passed s) kh ≡ Meant (and_then (force passed s) h)
  failed_same expr passed s kh h may unknown = ap (λ k. goes_on k kh) (fails_as_meant expr passed s may unknown) ∙ by_passed passed unknown where
    by_passed : (a : Arg) → (IsKnown a → ⊥) → goes_on (Meant (force a s)) kh ≡ Meant (and_then (force a s) h)
    by_passed (arg.Know words) unknown = absurd (unknown tt)
    by_passed (arg.Trapped trap) unknown = refl
    by_passed arg.Unknown unknown = refl

module _ (checking : Checking) (c : Context) (below : Below checking c) (scope : List Shape) where
  abbrev env : Env
  env = env_of c scope

  abbrev On : {A : Type 0} → (Loose → A → Type 0) → Ways → CheckedStep A → Step A → Type 0
  On P ways k o = Agreeing checking c scope P ways k o

  -- what comes behind a flow whose value is forced
  pub record Takes (expr : Expr) (ways : Ways) (k : Arg → CheckedStep (Unit {0})) (o : Arg → Effect) : Type 0 where
    pub known : (words : List ℤ) → On Any ways (k (arg.Know words)) (o (arg.Know words))
    pub fails : (passed : Arg) (loose : Loose) (s : Store) → Beside loose scope s.variables → MayFail checking expr → (IsKnown passed → ⊥) → (k passed s ≡ Meant (o passed s)) × IsEnd (o passed s)

  -- the value of a flow that is no variable
  evaluated_then : (expr : Expr) (ways : Ways) (k : Arg → CheckedStep (Unit {0})) (o : Arg → Effect) → Takes expr ways k o
      → ((loose : Loose) (passed : Arg) → Passed env expr loose passed → IsKnown passed ⊎ IsCall expr)
      → On (Passed env expr) (value_ways env expr) (checked_passes checking expr c) (tree_passes expr c)
      → On Any (Then (value_ways env expr) ways) (checked_passes checking expr c >?> k) (tree_passes expr c >>= o)
  evaluated_then expr ways k o takes tells on loose s covers beside =
      then_agrees (value_ways env expr) ways scope scope loose (Passed env expr) Any (checked_passes checking expr c s) (tree_passes expr c s) k o (on loose s (covers_first covers) beside)
      (λ passed s1 path through beside1 told.
      by_passed passed s1 (behind_path path loose) (tells (behind_path path loose) passed told) (covers_second covers path through) beside1) where
        failed : (passed : Arg) (s1 : Store) (later : Loose) → IsKnown passed ⊎ IsCall expr → Beside later scope s1.variables → (IsKnown passed → ⊥) → Agrees ways scope later Any (k passed s1) (o passed s1)
        failed passed s1 later (inl known) beside1 unknown = absurd (unknown known)
        failed passed s1 later (inr call) beside1 unknown = let fails = takes.fails passed later s1 beside1 (inl call) unknown in ended_agrees ways scope later Any (k passed s1) (o passed s1) fails.0 fails.1

        by_passed : (passed : Arg) (s1 : Store) (later : Loose) → IsKnown passed ⊎ IsCall expr → Covers checking.marks ways later → Beside later scope s1.variables → Agrees ways scope later Any (k passed s1) (o passed s1)
        by_passed (arg.Know words) s1 later told covers1 beside1 = takes.known words later s1 covers1 beside1
        by_passed (arg.Trapped trap) s1 later told covers1 beside1 = failed (arg.Trapped trap) s1 later told beside1 (λ h. h)
        by_passed arg.Unknown s1 later told covers1 beside1 = failed arg.Unknown s1 later told beside1 (λ h. h)

  -- the value of a flow that is a variable
  variable_then : (at : At) (t : Target) (name : List ℕ) (ways : Ways) (k : Arg → CheckedStep (Unit {0})) (o : Arg → Effect) → Takes (e.Whole at t) ways k o → (value : CheckedStep Value) (meaning : Step Value)
      → (loose : Loose) (s : Store) (w : Option Variable) (slot : Slot) → Beside loose scope s.variables → Sits loose scope s.variables name w (Some slot)
      → Covers checking.marks (Then (Only (Forces at.id slot.number)) ways) loose
      → Agrees (Then (Only (Forces at.id slot.number)) ways) scope loose Any (goes_on (checked_held w value s) k) (and_then (held_or w meaning s) o)
  variable_then at t name ways k o takes value meaning loose s None slot beside seat covers = absurd seat
  variable_then at t name ways k o takes value meaning loose s (Some w) slot beside seat covers = by_holds w.holds refl where
    failed : (a : Arg) → w.holds ≡ a → (IsKnown a → ⊥) → Agrees (Then (Only (Forces at.id slot.number)) ways) scope loose Any (k a s) (o a s)
    failed a is unknown =
        let marked = use_marked checking scope at.id slot.number loose (loose slot.number) refl (covers_first covers) (λ off. unknown (subst IsKnown is (seat.known off))) in
        let fails = takes.fails a loose s beside (inr marked) unknown in
        ended_agrees (Then (Only (Forces at.id slot.number)) ways) scope loose Any (k a s) (o a s) fails.0 fails.1

    by_holds : (a : Arg) → w.holds ≡ a → Agrees (Then (Only (Forces at.id slot.number)) ways) scope loose Any (k a s) (o a s)
    by_holds (arg.Know words) is =
        event_then (Forces at.id slot.number) ways scope loose Any (k (arg.Know words) s) (o (arg.Know words) s)
        (takes.known words (where_one_is slot.number false loose) s (covers_second covers (Forces at.id slot.number ∷ []) only) (seat.settled (subst IsKnown (sym is) tt)))
    by_holds (arg.Trapped trap) is = failed (arg.Trapped trap) is (λ h. h)
    by_holds arg.Unknown is = failed arg.Unknown is (λ h. h)

  -- a flow, and what takes its value
  pub flow_then : (expr : Expr) (ways : Ways) (k : Arg → CheckedStep (Unit {0})) (o : Arg → Effect) → ExprFits env expr → Takes expr ways k o
      → On Any (Then (value_ways env expr) ways) (checked_passes checking expr c >?> k) (tree_passes expr c >>= o)
  flow_then (e.Number at z) ways k o fits takes = evaluated_then (e.Number at z) ways k o takes (λ l a told. inl (told refl)) (passes_agree checking c below scope (e.Number at z) fits)
  flow_then (e.Truth at b) ways k o fits takes = evaluated_then (e.Truth at b) ways k o takes (λ l a told. inl (told refl)) (passes_agree checking c below scope (e.Truth at b) fits)
  flow_then (e.Own at) ways k o fits takes = evaluated_then (e.Own at) ways k o takes (λ l a told. inl (told refl)) (passes_agree checking c below scope (e.Own at) fits)
  flow_then (e.Input at) ways k o fits takes = evaluated_then (e.Input at) ways k o takes (λ l a told. inl (told refl)) (passes_agree checking c below scope (e.Input at) fits)
  flow_then (e.Whole at (target.Field at1 variable field)) ways k o fits takes =
      evaluated_then (e.Whole at (target.Field at1 variable field)) ways k o takes (λ l a told. inl (told refl)) (passes_agree checking c below scope (e.Whole at (target.Field at1 variable field)) fits)
  flow_then (e.Whole at (target.Variable at1 variable)) ways k o fits takes = by_slot (slot_named variable.text scope) refl where
    expr : Expr
    expr = e.Whole at (target.Variable at1 variable)

    by_slot : (slot : Option Slot) → slot_named variable.text scope ≡ slot → On Any (Then (uses at.id (found_name env (slot_named variable.text scope) variable.text)) ways) (checked_passes checking expr c >?> k) (tree_passes expr c >>= o)
    by_slot None is =
        evaluated_then expr ways k o takes (λ l a told. inl (told (ap (slot_loose l) is)))
        (subst (λ slot. On (Passed env expr) (unless_whole slot (uses at.id (found_name env (slot_named variable.text scope) variable.text))) (checked_passes checking expr c) (tree_passes expr c)) is
        (passes_agree checking c below scope expr fits))
    by_slot (Some slot) is = subst (λ slot. On Any (Then (uses at.id (found_name env slot variable.text)) ways) (checked_passes checking expr c >?> k) (tree_passes expr c >>= o)) (sym is)
        (λ loose s covers beside. variable_then at (target.Variable at1 variable) variable.text ways k o takes (checked_read checking at.id c (target.Variable at1 variable)) (read c (target.Variable at1 variable)) loose s
        (variable_named variable.text s.variables) slot beside
        (subst (λ slot. Sits loose scope s.variables variable.text (variable_named variable.text s.variables) slot) is (sits variable.text loose scope s.variables beside)) covers)
  flow_then (e.Element at line t index) ways k o fits takes =
      evaluated_then (e.Element at line t index) ways k o takes (λ l a told. inl (told refl)) (passes_agree checking c below scope (e.Element at line t index) fits)
  flow_then (e.PlainCall at function arguments) ways k o fits takes =
      evaluated_then (e.PlainCall at function arguments) ways k o takes (λ l a told. inl (told refl)) (passes_agree checking c below scope (e.PlainCall at function arguments) fits)
  flow_then (e.Parenthesized at inner) ways k o fits takes =
      evaluated_then (e.Parenthesized at inner) ways k o takes (λ l a told. inl (told refl)) (passes_agree checking c below scope (e.Parenthesized at inner) fits)
  flow_then (e.Unary at line operator operand) ways k o fits takes =
      evaluated_then (e.Unary at line operator operand) ways k o takes (λ l a told. inl (told refl)) (passes_agree checking c below scope (e.Unary at line operator operand) fits)
  flow_then (e.Binary at line operator left right) ways k o fits takes =
      evaluated_then (e.Binary at line operator left right) ways k o takes (λ l a told. inl (told refl)) (passes_agree checking c below scope (e.Binary at line operator left right) fits)
  flow_then (e.CallOnOwn at member arguments) ways k o fits takes =
      evaluated_then (e.CallOnOwn at member arguments) ways k o takes (λ l a told. inr tt) (passes_agree checking c below scope (e.CallOnOwn at member arguments) fits)
  flow_then (e.CallOnTarget at t member arguments) ways k o fits takes =
      evaluated_then (e.CallOnTarget at t member arguments) ways k o takes (λ l a told. inr tt) (passes_agree checking c below scope (e.CallOnTarget at t member arguments) fits)

  -- ---- into a part or the state

  abbrev IsPart : Option Found → Type 0
  IsPart None = Unit {0}
  IsPart (Some f) = (f.slot ≡ None) ⊎ (f.is_whole ≡ false)

  -- where a place lies, and that it is no whole variable
  abbrev Part : Option Variable → Bool → Type 0
  Part None whole = Unit {0}
  Part (Some v) whole = whole ≡ false

  is_part : (loose : Loose) (vs : List Variable) (name : List ℕ) (v : Option Variable) (slot : Option Slot) (whole whole1 : Bool) → Sits loose scope vs name v slot → whole ≡ whole1
      → (slot ≡ None) ⊎ (whole1 ≡ false) → Part v whole
  is_part loose vs name None slot whole whole1 sits same part = tt
  is_part loose vs name (Some v) None whole whole1 sits same part = absurd sits
  is_part loose vs name (Some v) (Some slot) whole whole1 sits same (inl none) = absurd cc
  is_part loose vs name (Some v) (Some slot) whole whole1 sits same (inr off) = same ∙ off

  into_agrees : (node : ℕ) (expr : Expr) (v : Option Variable) (offset size : ℕ) (type : TypeName) (whole : Bool) (slot : Option Slot) (name : List ℕ) (words : List ℤ) (loose : Loose) (s : Store) → Part v whole
      → Covers checking.marks (forces node slot) loose → Beside loose scope s.variables → Sits loose scope s.variables name v slot
      → Agrees (forces node slot) scope loose Any (checked_assign checking node expr (Some (record { variable = v; offset = offset; words = size; type = type; is_whole = whole })) (arg.Know words) s)
      (assign_location (Some (record { variable = v; offset = offset; words = size; type = type; is_whole = whole })) (arg.Know words) s)
  into_agrees node expr None offset size type whole slot name words loose s part covers beside sits =
      subst (λ k. Agrees (forces node slot) scope loose Any (goes_on k (λ ws. checked_put checking node None offset ws)) (put None offset words s)) (sym (known_passed checking expr words s))
      (put_agrees checking scope loose node name None slot offset words s covers beside sits)
  into_agrees node expr (Some v) offset size type true slot name words loose s part covers beside sits = absurd (true≢false part)
  into_agrees node expr (Some v) offset size type false slot name words loose s part covers beside sits =
      subst (λ k. Agrees (forces node slot) scope loose Any (goes_on k (λ ws. checked_put checking node (Some v) offset ws)) (put (Some v) offset words s)) (sym (known_passed checking expr words s))
      (put_agrees checking scope loose node name (Some v) slot offset words s covers beside sits)

  into_fails : (node : ℕ) (expr : Expr) (v : Option Variable) (offset size : ℕ) (type : TypeName) (whole : Bool) (passed : Arg) (s : Store) → Part v whole → MayFail checking expr → (IsKnown passed → ⊥)
      → let l : Location = record { variable = v; offset = offset; words = size; type = type; is_whole = whole } in
      (checked_assign checking node expr (Some l) passed s ≡ Meant (assign_location (Some l) passed s)) × IsEnd (assign_location (Some l) passed s)
  into_fails node expr None offset size type whole passed s part may unknown =
      (failed_same checking expr passed s (λ ws. checked_put checking node None offset ws) (λ ws. put None offset ws) may unknown, force_ends checking passed s (λ ws. put None offset ws) unknown)
  into_fails node expr (Some v) offset size type true passed s part may unknown = absurd (true≢false part)
  into_fails node expr (Some v) offset size type false passed s part may unknown =
      (failed_same checking expr passed s (λ ws. checked_put checking node (Some v) offset ws) (λ ws. put (Some v) offset ws) may unknown, force_ends checking passed s (λ ws. put (Some v) offset ws) unknown)

  part_takes : (node : ℕ) (expr : Expr) (t : Target) → IsPart (found_at env t)
      → Takes expr (uses node (found_at env t)) (λ passed store. checked_assign checking node expr (location_of c t store) passed store) (λ passed. at_location c t (λ location. assign_location location passed))
  part_takes node expr t part = record {
    known = λ words loose s covers beside. into words loose s (location_of c t s) (found_at env t) (placed c loose scope t s beside) part covers beside;
    fails = λ passed loose s beside may unknown. fails passed loose s (location_of c t s) (found_at env t) (placed c loose scope t s beside) part may unknown;
  } where
    into : (words : List ℤ) (loose : Loose) (s : Store) (l : Option Location) (f : Option Found) → Placed loose scope s.variables (name_at t) l f → IsPart f → Covers checking.marks (uses node f) loose → Beside loose scope s.variables
        → Agrees (uses node f) scope loose Any (checked_assign checking node expr l (arg.Know words) s) (assign_location l (arg.Know words) s)
    into words loose s None None place part covers beside = record { same = refl; follows = tt }
    into words loose s None (Some f) place part covers beside = absurd place
    into words loose s (Some l) None place part covers beside = absurd place
    into words loose s (Some l) (Some f) place part covers beside =
        into_agrees node expr l.variable l.offset l.words l.type l.is_whole f.slot (name_at t) words loose s (is_part loose s.variables (name_at t) l.variable f.slot l.is_whole f.is_whole place.seat place.whole part) covers beside place.seat

    fails : (passed : Arg) (loose : Loose) (s : Store) (l : Option Location) (f : Option Found) → Placed loose scope s.variables (name_at t) l f → IsPart f → MayFail checking expr → (IsKnown passed → ⊥)
        → (checked_assign checking node expr l passed s ≡ Meant (assign_location l passed s)) × IsEnd (assign_location l passed s)
    fails passed loose s None None place part may unknown = (refl, tt)
    fails passed loose s None (Some f) place part may unknown = absurd place
    fails passed loose s (Some l) None place part may unknown = absurd place
    fails passed loose s (Some l) (Some f) place part may unknown =
        into_fails node expr l.variable l.offset l.words l.type l.is_whole passed s (is_part loose s.variables (name_at t) l.variable f.slot l.is_whole f.is_whole place.seat place.whole part) may unknown

  -- ---- into an element

  at_element : (node line : ℕ) (name : List ℕ) (i : Value) (words : List ℤ) (l : Option Location) (f : Option Found) (loose : Loose) (s : Store) → Covers checking.marks (uses node f) loose → Beside loose scope s.variables
      → Placed loose scope s.variables name l f → Agrees (uses node f) scope loose Any (checked_assign_element checking node line l i words s) (assign_element line l i words s)
  at_element node line name i words None None loose s covers beside place = record { same = refl; follows = tt }
  at_element node line name i words None (Some f) loose s covers beside place = absurd place
  at_element node line name i words (Some l) None loose s covers beside place = absurd place
  at_element node line name i words (Some l) (Some f) loose s covers beside place = by_index (index_below l.words (word_of i)) where
    by_index : (n : Option ℕ) → Agrees (uses node (Some f)) scope loose Any (goes_on (Meant (tested_index line n s)) (λ n. checked_put checking node l.variable (l.offset + n) words))
        (and_then (tested_index line n s) (λ n. put l.variable (l.offset + n) words))
    by_index None = record { same = refl; follows = tt }
    by_index (Some n) = put_agrees checking scope loose node name l.variable f.slot (l.offset + n) words s covers beside place.seat

  element_takes : (node line : ℕ) (expr index : Expr) (t : Target) → ExprFits env index
      → Takes expr (Then (value_ways env index) (uses node (found_at env t)))
      (λ passed. checked_force_passed checking expr passed >?> (λ words. checked_value checking index c >?> (λ i store. checked_assign_element checking node line (location_of c t store) i words store)))
      (λ passed. force passed >>= (λ words. tree_value index c >>= (λ i. at_location c t (λ location. assign_element line location i words))))
  element_takes node line expr index t fits = record {
    known = λ words loose s covers beside.
        subst (λ k. Agrees (Then (value_ways env index) (uses node (found_at env t))) scope loose Any
        (goes_on k (λ words. checked_value checking index c >?> (λ i store. checked_assign_element checking node line (location_of c t store) i words store)))
        ((tree_value index c >>= (λ i. at_location c t (λ location. assign_element line location i words))) s)) (sym (known_passed checking expr words s))
        (then_agrees (value_ways env index) (uses node (found_at env t)) scope scope loose Any Any (checked_value checking index c s) (tree_value index c s)
        (λ i store. checked_assign_element checking node line (location_of c t store) i words store) (λ i. at_location c t (λ location. assign_element line location i words))
        (value_agrees checking c below scope index fits loose s (covers_first covers) beside)
        (λ i s1 path through beside1 _. at_element node line (name_at t) i words (location_of c t s1) (found_at env t) (behind_path path loose) s1 (covers_second covers path through) beside1
        (placed c (behind_path path loose) scope t s1 beside1)));
    fails = λ passed loose s beside may unknown. (
      failed_same checking expr passed s (λ words. checked_value checking index c >?> (λ i store. checked_assign_element checking node line (location_of c t store) i words store))
          (λ words. tree_value index c >>= (λ i. at_location c t (λ location. assign_element line location i words))) may unknown,
      force_ends checking passed s (λ words. tree_value index c >>= (λ i. at_location c t (λ location. assign_element line location i words))) unknown,
    );
  }

  -- ---- into a whole variable

  held_quiet : (node : ℕ) (expr : Expr) (name : List ℕ) (passed : Arg) (later : Loose) (s : Store) (w : Option Variable) (slot : Slot) → Sits later scope s.variables name w (Some slot) → Passed env expr later passed
      → Quiet scope (behind_event (event_of env slot.number expr) later) Any (checked_assign checking node expr (location_of_name c w name) passed s) (assign_location (location_of_name c w name) passed s)
  held_quiet node expr name passed later s None slot seat told = absurd seat
  held_quiet node expr name passed later s (Some w) slot seat told = record {
    same = refl;
    stays = (
      subst (λ l. Beside l scope (holding w.name passed s.variables)) (sym (event_sets env slot.number expr later))
          (subst (λ n. Beside (where_one_is slot.number (may_be_loose env later expr) later) scope (holding n passed s.variables)) (sym seat.named) (seat.held passed (may_be_loose env later expr) told)),
      tt,
    );
  }

  whole_agrees : (at at1 : At) (variable : Name) (expr : Expr) (slot : Slot) → slot_named variable.text scope ≡ Some slot → ExprFits env expr
      → On Any (becomes env slot.number expr) (checked_assigns checking (e.Whole at (target.Variable at1 variable)) expr c) (tree_passes expr c >>= assign_tree (e.Whole at (target.Variable at1 variable)) c)
  whole_agrees at at1 variable expr slot is fits loose s covers beside =
      let t = target.Variable at1 variable in
      then_agrees (flow_ways env expr) (Only (event_of env slot.number expr)) scope scope loose (Passed env expr) Any (checked_passes checking expr c s) (tree_passes expr c s)
      (λ passed store. checked_assign checking at.id expr (location_of c t store) passed store) (λ passed. at_location c t (λ location. assign_location location passed))
      (passes_agree checking c below scope expr fits loose s (covers_first covers) beside)
      (λ passed s1 path through beside1 told.
      event_agrees (event_of env slot.number expr) scope (behind_path path loose) Any (checked_assign checking at.id expr (location_of c t s1) passed s1) (assign_location (location_of c t s1) passed s1)
      (held_quiet at.id expr variable.text passed (behind_path path loose) s1 (variable_named variable.text s1.variables) slot
      (subst (λ slot. Sits (behind_path path loose) scope s1.variables variable.text (variable_named variable.text s1.variables) slot) is (sits variable.text (behind_path path loose) scope s1.variables beside1)) told))

  -- ---- the forms of places

  none_is_part : (name : List ℕ) (slot : Option Slot) → slot ≡ None → IsPart (found_name env slot name)
  none_is_part name (Some slot) is = absurd cc
  none_is_part name None is = by_part (part_named name c.state) where
    by_part : (part : Option Layout.Part) → IsPart (found_part None 0 part)
    by_part None = tt
    by_part (Some part) = inl refl

  field_is_part : (field : List ℕ) (f : Option Found) → IsPart (found_field env field f)
  field_is_part field None = tt
  field_is_part field (Some f) = by_part (part_named field (parts_of_type c.declarations f.type)) where
    by_part : (part : Option Layout.Part) → IsPart (found_part f.slot f.offset part)
    by_part None = tt
    by_part (Some part) = inr refl

  target_agrees : (at : At) (t : Target) (expr : Expr) → ExprFits env expr
      → On Any (assigned_ways env at.id (slot_of_target env t) expr (found_at env t)) (checked_assigns checking (e.Whole at t) expr c) (tree_passes expr c >>= assign_tree (e.Whole at t) c)
  target_agrees at (target.Field at1 variable field) expr fits =
      flow_then expr _ _ _ fits (part_takes at.id expr (target.Field at1 variable field) (field_is_part field.text (found_name env (slot_named variable.text scope) variable.text)))
  target_agrees at (target.Variable at1 variable) expr fits = by_slot (slot_named variable.text scope) refl where
    t : Target
    t = target.Variable at1 variable

    by_slot : (slot : Option Slot) → slot_named variable.text scope ≡ slot
        → On Any (assigned_ways env at.id (slot_named variable.text scope) expr (found_at env t)) (checked_assigns checking (e.Whole at t) expr c) (tree_passes expr c >>= assign_tree (e.Whole at t) c)
    by_slot None is =
        subst (λ slot. On Any (assigned_ways env at.id slot expr (found_at env t)) (checked_assigns checking (e.Whole at t) expr c) (tree_passes expr c >>= assign_tree (e.Whole at t) c)) (sym is)
        (flow_then expr _ _ _ fits (part_takes at.id expr t (none_is_part variable.text (slot_named variable.text scope) is)))
    by_slot (Some slot) is =
        subst (λ slot. On Any (assigned_ways env at.id slot expr (found_at env t)) (checked_assigns checking (e.Whole at t) expr c) (tree_passes expr c >>= assign_tree (e.Whole at t) c)) (sym is) (whole_agrees at at1 variable expr slot is fits)

  -- nothing else is assigned to
  no_place : (expr : Expr) → ExprFits env expr → On {A = Unit {0}} Any (flow_ways env expr) (checked_passes checking expr c >?> (λ passed. meant waits)) (tree_passes expr c >>= (λ (passed : Arg). waits))
  no_place expr fits loose s covers beside =
      then_quiet (flow_ways env expr) scope scope loose (Passed env expr) Any (checked_passes checking expr c s) (tree_passes expr c s) (λ passed. meant waits) (λ passed. waits)
      (passes_agree checking c below scope expr fits loose s covers beside) (λ passed s1 later beside1 _. record { same = refl; stays = tt })

  pub assigns_agree : (place expr : Expr) → ExprFits env expr → IndexFits env place → On Any (place_ways env place expr) (checked_assigns checking place expr c) (tree_passes expr c >>= assign_tree place c)
  assigns_agree (e.Whole at t) expr fits _ = target_agrees at t expr fits
  assigns_agree (e.Element at line t index) expr fits index_fits = flow_then expr _ _ _ fits (element_takes at.id line expr index t index_fits)
  assigns_agree (e.Number at z) expr fits _ = no_place expr fits
  assigns_agree (e.Truth at b) expr fits _ = no_place expr fits
  assigns_agree (e.Own at) expr fits _ = no_place expr fits
  assigns_agree (e.Input at) expr fits _ = no_place expr fits
  assigns_agree (e.PlainCall at function arguments) expr fits _ = no_place expr fits
  assigns_agree (e.Parenthesized at inner) expr fits _ = no_place expr fits
  assigns_agree (e.Unary at line operator operand) expr fits _ = no_place expr fits
  assigns_agree (e.Binary at line operator left right) expr fits _ = no_place expr fits
  assigns_agree (e.CallOnOwn at member arguments) expr fits _ = no_place expr fits
  assigns_agree (e.CallOnTarget at t member arguments) expr fits _ = no_place expr fits
