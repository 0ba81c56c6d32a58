-- Steps only add calls: what is promised of the replies to the calls behind a step is promised of those before.
use Rattle.std.proofs.Common.{◌≡◌, ℕ, ◌+◌, Bool, true, false, List, [], ◌∷◌, ◌++◌, length, Option, Some, None, if◌then◌else◌, ℤ, pos, Result, Ok, Err, refl, sym, subst, ◌∙◌}
use Rattle.std.specs.FinMap.{FinMap, get}
use Rattle.std.specs.Ordering.{int_eq, nat_cmp}
use Rattle.std.specs.List.{slice_index_or}
use Rattle.std.specs.Prelude.{nat_lt}
use Rattle.mpl_ast.specs.declared.expression.Target.{Target}
use Rattle.mpl_ast.specs.declared.expression.UnaryOperator.{UnaryOperator}
use Rattle.mpl_ast.specs.declared.expression.UnaryOperator.TheVariants as unary
use Rattle.mpl_ast.specs.declared.place.Name.{Name}
use Rattle.mpl_ast.specs.declared.program.Declaration.{Declaration}
use Rattle.mpl_value.specs.CallAnswers.{any_unknown, arg_of_reply, known_words, leftmost_trap}
use Rattle.mpl_value.specs.declared.body.Arg.{Arg}
use Rattle.mpl_value.specs.declared.body.Arg.TheVariants as arg
use Rattle.mpl_value.specs.declared.body.BodyEnd.TheVariants as end
use Rattle.mpl_value.specs.declared.body.CallMade.{CallMade}
use Rattle.mpl_value.specs.declared.known.Known.{Known}
use Rattle.mpl_value.specs.declared.known.Trap.{Trap}
use Rattle.mpl_value.specs.declared.known.TrapKind.{TrapKind}
use Rattle.mpl_value.specs.declared.known.TrapKind.TheVariants.{Unbound}
use Rattle.mpl_mean.specs.Laws.Sizes.{CallReplyFits, Every}
use Rattle.mpl_mean.specs.Levels.{BinaryOperator, Or, And, Equate, Compare, Add, Multiply}
use Rattle.mpl_mean.specs.Meaning.CallMeaning.{answer, bound, class_of_location, made, name_of_target, unless_trapped, whole_variable}
use Rattle.mpl_mean.specs.Meaning.Context.{Context}
use Rattle.mpl_mean.specs.Meaning.ExpressionMeaning.{next_of, unary_operation}
use Rattle.mpl_mean.specs.Meaning.Layout.{Class, Function, Member, function_named, member_named}
use Rattle.mpl_mean.specs.Meaning.PlaceMeaning.{Location, index_of, location_of, tested_index}
use Rattle.mpl_mean.specs.Meaning.Store.{Store, Outcome, Goes, Returns, Ends, Step, Variable, ◌>>=◌, ◌>>◌, and_then, computed, force, pure, spend, trap}
use Rattle.mpl_mean.specs.Meaning.Values.{Value, bool_value, first_word, int_value, is_true, word_of}
use Rattle.mpl_mean.specs.Plain.Expr.{Expr, Exprs}
use Rattle.mpl_mean.specs.Plain.Expr as e
use Rattle.mpl_checked.specs.Checked.CheckedExpressions.{checked_answer, checked_base, checked_binary, checked_call_on, checked_call_on_target, checked_called, checked_element, checked_flows, checked_forced, checked_held, checked_of_member, checked_own_call, checked_passes, checked_persistent, checked_read, checked_regular, checked_unless_trapped, checked_value, checked_values, checked_words}
use Rattle.mpl_checked.specs.Checked.CheckedSteps.{Checked, Meant, Astray, CheckedStep, Checking, checked_all, checked_force, goes_on, meant, ◌>?>◌}

-- the calls behind a step
abbrev pub calls_of : {A : Type 0} → Outcome A → List CallMade
calls_of (Goes a s) = s.calls
calls_of (Returns words s) = s.calls
calls_of (Ends e s) = s.calls

-- the value that answers each call has its size
abbrev pub Promised : List Declaration → FinMap nat_cmp Known → List CallMade → Type 0
Promised ds table = Every (CallReplyFits ds table)

abbrev pub Within : {A : Type 0} → List Declaration → FinMap nat_cmp Known → Checked (Outcome A) → Type 0
Within ds table (Meant o) = Promised ds table (calls_of o)
Within ds table Astray = ⊥

pub record Adds {A : Type 0} (ds : List Declaration) (table : FinMap nat_cmp Known) (step : CheckedStep A) : Type 0 where
  pub back : (s : Store) → Within ds table (step s) → Promised ds table s.calls

-- ---- small steps

pub spend_same : (turns : ℕ) (s : Store) → calls_of (spend turns s) ≡ s.calls
spend_same turns s = by_test (nat_lt s.turns turns) where
  turned : Store
  turned = record s { turns = s.turns + 1 }

  by_test : (b : Bool) → calls_of {A = Unit {0}} (if b then Goes tt turned else Ends end.Spent turned) ≡ s.calls
  by_test true = refl
  by_test false = refl

pub force_same : (a : Arg) (s : Store) → calls_of (force a s) ≡ s.calls
force_same (arg.Know words) s = refl
force_same (arg.Trapped t) s = refl
force_same arg.Unknown s = refl

computed_same : (line : ℕ) (r : Result ℤ TrapKind) (s : Store) → calls_of (computed line r s) ≡ s.calls
computed_same line (Ok z) s = refl
computed_same line (Err kind) s = refl

pub index_same : (line : ℕ) (o : Option ℕ) (s : Store) → calls_of (tested_index line o s) ≡ s.calls
index_same line None s = refl
index_same line (Some n) s = refl

next_same : (line : ℕ) (input : List ℤ) (s : Store) → calls_of (next_of line input s) ≡ s.calls
next_same line [] s = refl
next_same line (z ∷ input) s = refl

bound_same : (line : ℕ) (object : ℤ) (s : Store) → calls_of (bound line object s) ≡ s.calls
bound_same line object s = by_test (int_eq object (pos 0)) where
  by_test : (b : Bool) → calls_of {A = ℤ} ((if b then trap Unbound line else pure object) s) ≡ s.calls
  by_test true = refl
  by_test false = refl

-- a step and what is made of its value with no call
pub same_then : {A B : Type 0} (o : Outcome A) (h : A → Step B) (s : Store) → calls_of o ≡ s.calls → ((a : A) (t : Store) → calls_of (h a t) ≡ t.calls) → calls_of (and_then o h) ≡ s.calls
same_then (Goes a t) h s e on_h = on_h a t ∙ e
same_then (Returns words t) h s e on_h = e
same_then (Ends x t) h s e on_h = e

pub every_front : {A : Type 0} (P : A → Type 0) (xs ys : List A) → Every P (xs ++ ys) → Every P xs
every_front P [] ys h = tt
every_front P (x ∷ xs) ys h = (h.0, every_front P xs ys h.1)

answer_same : (args : List Arg) (known : Step Arg) (s : Store) → calls_of (known s) ≡ s.calls → calls_of (answer args known s) ≡ s.calls
answer_same args known s e = by_test (any_unknown args) where
  by_trap : (t : Option Trap) → calls_of (unless_trapped t known s) ≡ s.calls
  by_trap None = e
  by_trap (Some t) = refl

  by_test : (b : Bool) → calls_of {A = Arg} ((if b then pure arg.Unknown else unless_trapped (leftmost_trap args) known) s) ≡ s.calls
  by_test true = refl
  by_test false = by_trap (leftmost_trap args)

module _ (ds : List Declaration) (table : FinMap nat_cmp Known) where
  -- ---- steps one after another

  pub adds_then : {A B : Type 0} {f : CheckedStep A} {h : A → CheckedStep B} → Adds ds table f → ((a : A) → Adds ds table (h a)) → Adds ds table (f >?> h)
  adds_then {A} {B} {f} {h} on_f on_h = record { back = λ s w. by_outcome s (f s) refl w } where
    by_outcome : (s : Store) (o : Checked (Outcome A)) → f s ≡ o → Within ds table (goes_on o h) → Promised ds table s.calls
    by_outcome s (Meant (Goes a t)) e w = on_f.back s (subst (Within ds table) (sym e) ((on_h a).back t w))
    by_outcome s (Meant (Returns words t)) e w = on_f.back s (subst (Within ds table) (sym e) w)
    by_outcome s (Meant (Ends x t)) e w = on_f.back s (subst (Within ds table) (sym e) w)
    by_outcome s Astray e w = absurd w

  -- a step that makes no call
  pub adds_none : {A : Type 0} {step : Step A} → ((s : Store) → calls_of (step s) ≡ s.calls) → Adds ds table (meant step)
  adds_none same = record { back = λ s w. subst (Promised ds table) (same s) w }

  pub adds_if : {A : Type 0} (b : Bool) {f g : CheckedStep A} → Adds ds table f → Adds ds table g → Adds ds table (if b then f else g)
  adds_if true on_f on_g = on_f
  adds_if false on_f on_g = on_g

  pub at_store : {A B : Type 0} {f : B → CheckedStep A} {g : Store → B} → ((b : B) → Adds ds table (f b)) → Adds ds table (λ s. f (g s) s)
  at_store {g = g} on = record { back = λ s w. (on (g s)).back s w }

  abbrev pub EachAdds : {A : Type 0} → List (CheckedStep A) → Type 0
  EachAdds [] = Unit {0}
  EachAdds (step ∷ steps) = Adds ds table step × EachAdds steps

  pub adds_all : {A : Type 0} (steps : List (CheckedStep A)) → EachAdds steps → Adds ds table (checked_all steps)
  adds_all {A} [] each = adds_none {A = List A} {step = pure []} (λ s. refl)
  adds_all (step ∷ steps) each = adds_then each.0 (λ value. adds_then (adds_all steps each.1) (λ values. adds_none (λ s. refl)))

  pub adds_force : (marked : Bool) (a : Arg) → Adds ds table (checked_force marked a)
  adds_force marked (arg.Know words) = adds_none (λ s. refl)
  adds_force true (arg.Trapped t) = adds_none (λ s. refl)
  adds_force false (arg.Trapped t) = record { back = λ s w. absurd w }
  adds_force true arg.Unknown = adds_none (λ s. refl)
  adds_force false arg.Unknown = record { back = λ s w. absurd w }

  -- ---- places

  pub adds_base : (checking : Checking) (node : ℕ) (v : Option Variable) → Adds ds table (checked_base checking node v)
  adds_base checking node (Some v) = adds_force (checking.marks node) v.holds
  adds_base checking node None = adds_none (λ s. refl)

  pub adds_words : (checking : Checking) (node : ℕ) (l : Option Location) → Adds ds table (checked_words checking node l)
  adds_words checking node None = adds_none (λ s. refl)
  adds_words checking node (Some l) = adds_then (adds_base checking node l.variable) (λ words. adds_none (λ s. refl))

  -- ---- calls

  pub adds_call : (turns : ℕ) (object : ℤ) (member : ℕ) (args : List Arg) (known : ℕ → Arg)
      → Adds ds table (meant (spend turns >> (made object member args >>= (λ k. answer args (pure (known k))))))
  adds_call turns object member args known = record { back = λ s w. by_test s (nat_lt s.turns turns) w } where
    turned : Store → Store
    turned s = record s { turns = s.turns + 1 }

    by_test : (s : Store) (b : Bool) → Promised ds table (calls_of (and_then {A = Unit {0}} (if b then Goes tt (turned s) else Ends end.Spent (turned s))
        (λ _. made object member args >>= (λ k. answer args (pure (known k)))))) → Promised ds table s.calls
    by_test s true w =
        every_front (CallReplyFits ds table) s.calls _
        (subst (Promised ds table) (answer_same args (pure (known (length s.calls + 1))) (record s { turns = s.turns + 1; calls = s.calls ++ record { call = length s.calls + 1; object = object; member = record { 0 = member }; args = args } ∷ [] }) refl) w)
    by_test s false w = w

  pub adds_of_member : (m : Option Member) {call : Member → CheckedStep Arg} → ((member : Member) → Adds ds table (call member)) → Adds ds table (checked_of_member m call)
  adds_of_member None each = adds_none (λ s. refl)
  adds_of_member (Some m) each = each m

  pub adds_held : (v : Option Variable) {value : CheckedStep Value} → Adds ds table value → Adds ds table (checked_held v value)
  adds_held (Some v) on = adds_none (λ s. refl)
  adds_held None on = adds_then on (λ v. adds_none (λ s. refl))

  -- ---- the forms

  module _ (checking : Checking) (context : Context) (plain : (f : Function) (arguments : List (List ℤ)) → Adds ds table (checking.callees.plain f arguments))
      (regular : (m : Member) (arguments : List (List ℤ)) → Adds ds table (checking.callees.regular m arguments)) where
    adds_called : (f : Option Function) (arguments : List (List ℤ)) → Adds ds table (checked_called checking f arguments)
    adds_called None arguments = adds_none (λ s. refl)
    adds_called (Some f) arguments = adds_then (plain f arguments) (λ words. adds_none (λ s. refl))

    pub adds_persistent : (object : ℤ) (m : Member) (arguments : List (CheckedStep Arg)) → EachAdds arguments → Adds ds table (checked_persistent context object m arguments)
    adds_persistent object m arguments each = adds_then (adds_all arguments each) (λ args. adds_call context.turns object m.id args (λ k. arg_of_reply (get context.replies k)))

    adds_answer : (args : List Arg) {known : CheckedStep Arg} → Adds ds table known → Adds ds table (checked_answer args known)
    adds_answer args {known} on = adds_if (any_unknown args) (adds_none (λ s. refl)) (by_trap (leftmost_trap args)) where
      by_trap : (t : Option Trap) → Adds ds table (checked_unless_trapped t known)
      by_trap None = on
      by_trap (Some t) = adds_none (λ s. refl)

    pub adds_made : (m : Member) (args : List Arg) → Adds ds table (meant (spend context.turns) >?> (λ _. checked_answer args (checking.callees.regular m (known_words args))))
    adds_made m args = adds_then (adds_none (spend_same context.turns)) (λ _. adds_answer args (regular m (known_words args)))

    pub adds_regular : (m : Member) (arguments : List (CheckedStep Arg)) → EachAdds arguments → Adds ds table (checked_regular checking context m arguments)
    adds_regular m arguments each = adds_then (adds_all arguments each) (adds_made m)

    pub adds_call_on : (node line : ℕ) (l : Option Location) (class : Option Class) (member : List ℕ) (arguments : List (CheckedStep Arg)) → EachAdds arguments
        → Adds ds table (checked_call_on checking context node line l class member arguments)
    adds_call_on node line l None member arguments each = adds_none (λ s. refl)
    adds_call_on node line l (Some class) member arguments each =
        adds_if class.is_regular (adds_of_member (member_named member class.members) (λ m. adds_regular m arguments each))
        (adds_then (adds_words checking node l) (λ value.
        adds_then (adds_none (bound_same line (first_word value.words))) (λ object.
        adds_of_member (member_named member class.members) (λ m. adds_persistent object m arguments each))))

    adds_computed : (line : ℕ) (r : Result ℤ TrapKind) → Adds ds table (meant (computed line r >>= (λ z. pure (int_value z))))
    adds_computed line r = adds_none (λ s. same_then (computed line r s) (λ z. pure (int_value z)) s (computed_same line r s) (λ z t. refl))

    adds_two : {A : Type 0} {f g : CheckedStep Value} {h : Value → Value → CheckedStep A} → Adds ds table f → Adds ds table g → ((a b : Value) → Adds ds table (h a b)) → Adds ds table (f >?> (λ a. g >?> h a))
    adds_two on_f on_g on_h = adds_then on_f (λ a. adds_then on_g (on_h a))

    adds_binary : (line : ℕ) (o : BinaryOperator) (f g : Context → CheckedStep Value) → Adds ds table (f context) → Adds ds table (g context) → Adds ds table (checked_binary line o f g context)
    adds_binary line Or f g on_f on_g = adds_then on_f (λ a. adds_if (is_true a) (adds_none (λ s. refl)) on_g)
    adds_binary line And f g on_f on_g = adds_then on_f (λ a. adds_if (is_true a) on_g (adds_none (λ s. refl)))
    adds_binary line (Equate o) f g on_f on_g = adds_two on_f on_g (λ a b. adds_none (λ s. refl))
    adds_binary line (Compare o) f g on_f on_g = adds_two on_f on_g (λ a b. adds_none (λ s. refl))
    adds_binary line (Add o) f g on_f on_g = adds_two on_f on_g (λ a b. adds_computed line _)
    adds_binary line (Multiply o) f g on_f on_g = adds_two on_f on_g (λ a b. adds_computed line _)

    adds_unary : (line : ℕ) (o : UnaryOperator) (a : Value) → Adds ds table (meant (unary_operation line o a))
    adds_unary line unary.Negative a = adds_computed line _
    adds_unary line unary.Not a = adds_none (λ s. refl)

    abbrev element : Value → ℕ → Value
    element a n = record { words = slice_index_or a.words n (pos 0) ∷ []; is_bool = a.is_bool }

    adds_tested : (line : ℕ) (a i : Value) → Adds ds table (meant (index_of line (length a.words) (word_of i) >>= (λ n. pure (element a n))))
    adds_tested line a i = adds_none (λ s. same_then (index_of line (length a.words) (word_of i) s) _ s (index_same line _ s) (λ n t. refl))

    adds_element : (line : ℕ) {array index : CheckedStep Value} → Adds ds table array → Adds ds table index → Adds ds table (checked_element line array index)
    adds_element line on_array on_index = adds_two on_array on_index (λ a i. adds_tested line a i)

    adds_forced : {step : CheckedStep Arg} → Adds ds table step → Adds ds table (checked_forced step)
    adds_forced on = adds_then on (λ a. adds_none (λ s. same_then (force a s) _ s (force_same a s) (λ words t. refl)))

    adds_read : (node : ℕ) (target : Target) → Adds ds table (checked_read checking node context target)
    adds_read node target = at_store {f = checked_words checking node} {g = location_of context target} (adds_words checking node)

    adds_own : (member : Name) (arguments : List (CheckedStep Arg)) → EachAdds arguments → Adds ds table (checked_own_call context member arguments)
    adds_own member arguments each = adds_of_member (member_named member.text context.members) (λ m. adds_persistent context.object m arguments each)

    adds_target : (node line : ℕ) (target : Target) (member : List ℕ) (arguments : List (CheckedStep Arg)) → EachAdds arguments → Adds ds table (checked_call_on_target checking context node line target member arguments)
    adds_target node line target member arguments each =
        at_store {f = λ l. checked_call_on checking context node line l (class_of_location context l) member arguments} {g = location_of context target}
        (λ l. adds_call_on node line l (class_of_location context l) member arguments each)

    mutual
      pub adds_value : (t : Expr) → Adds ds table (checked_value checking t context)
      adds_value (e.Number at z) = adds_none (λ s. refl)
      adds_value (e.Truth at b) = adds_none (λ s. refl)
      adds_value (e.Own at) = adds_none (λ s. refl)
      adds_value (e.Input at) = adds_none (λ s. next_same at.line s.input s)
      adds_value (e.Whole at target) = adds_read at.id target
      adds_value (e.Element at line target index) = adds_element line (adds_read at.id target) (adds_value index)
      adds_value (e.PlainCall at function arguments) = adds_then (adds_all _ (adds_values arguments)) (λ values. adds_called (function_named function.text context.declarations) _)
      adds_value (e.Parenthesized at t) = adds_value t
      adds_value (e.Unary at line operator t) = adds_then (adds_value t) (adds_unary line operator)
      adds_value (e.Binary at line operator left right) = adds_binary line operator _ _ (adds_value left) (adds_value right)
      adds_value (e.CallOnOwn at member arguments) = adds_forced (adds_own member _ (adds_flows arguments))
      adds_value (e.CallOnTarget at target member arguments) = adds_forced (adds_target at.id at.line target member.text _ (adds_flows arguments))

      pub adds_values : (ts : Exprs) → EachAdds (checked_values checking ts context)
      adds_values e.NoExpr = tt
      adds_values (e.MoreExprs t ts) = (adds_value t, adds_values ts)

      pub adds_flows : (ts : Exprs) → EachAdds (checked_flows checking ts context)
      adds_flows e.NoExpr = tt
      adds_flows (e.MoreExprs t ts) = (adds_passes t, adds_flows ts)

      pub adds_passes : (t : Expr) → Adds ds table (checked_passes checking t context)
      adds_passes (e.CallOnOwn at member arguments) = adds_own member _ (adds_flows arguments)
      adds_passes (e.CallOnTarget at target member arguments) = adds_target at.id at.line target member.text _ (adds_flows arguments)
      adds_passes (e.Number at z) = adds_held None {value = meant (pure (int_value z))} (adds_none (λ s. refl))
      adds_passes (e.Truth at b) = adds_held None {value = meant (pure (bool_value b))} (adds_none (λ s. refl))
      adds_passes (e.Own at) = adds_held None {value = meant (pure (int_value context.object))} (adds_none (λ s. refl))
      adds_passes (e.Input at) = adds_held None (adds_none (λ s. next_same at.line s.input s))
      adds_passes (e.Whole at target) =
          at_store {f = λ v. checked_held v (checked_read checking at.id context target)} {g = λ s. whole_variable (name_of_target target) s.variables} (λ v. adds_held v (adds_read at.id target))
      adds_passes (e.Element at line target index) = adds_held None (adds_element line (adds_read at.id target) (adds_value index))
      adds_passes (e.PlainCall at function arguments) =
          adds_held None (adds_then (adds_all _ (adds_values arguments)) (λ values. adds_called (function_named function.text context.declarations) _))
      adds_passes (e.Parenthesized at t) = adds_held None (adds_value t)
      adds_passes (e.Unary at line operator t) = adds_held None (adds_then (adds_value t) (adds_unary line operator))
      adds_passes (e.Binary at line operator left right) = adds_held None (adds_binary line operator _ _ (adds_value left) (adds_value right))
