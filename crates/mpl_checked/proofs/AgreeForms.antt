-- Checked expressions, flows and calls are as they are meant.
use Rattle.std.proofs.Common.{◌≡◌, ℕ, suc, ◌+◌, Bool, true, false, List, [], ◌∷◌, length, Option, Some, None, if◌then◌else◌, ℤ, pos, Result, Ok, Err, refl, ap}
use Rattle.std.specs.List.{slice_index_or}
use Rattle.std.specs.Ordering.{int_eq}
use Rattle.std.specs.Prelude.{nat_lt}
use Rattle.mpl_ast.specs.declared.expression.Target.{Target}
use Rattle.mpl_ast.specs.declared.expression.Target.TheVariants as target
use Rattle.mpl_ast.specs.declared.expression.UnaryOperator.{UnaryOperator}
use Rattle.mpl_ast.specs.declared.expression.UnaryOperator.TheVariants as unary
use Rattle.mpl_ast.specs.declared.place.At.{At}
use Rattle.mpl_ast.specs.declared.statement.TypeName.{TypeName}
use Rattle.mpl_ast.specs.declared.statement.TypeName.TheVariants as type
use Rattle.mpl_ast.specs.declared.program.Declaration.{Declaration}
use Rattle.mpl_value.specs.Arithmetic.{negation}
use Rattle.mpl_value.specs.CallAnswers.{any_unknown, known_words, leftmost_trap}
use Rattle.mpl_value.specs.Words.{index_below}
use Rattle.mpl_value.specs.declared.body.Arg.{Arg}
use Rattle.mpl_value.specs.declared.body.Arg.TheVariants as arg
use Rattle.mpl_value.specs.declared.known.Trap.{Trap}
use Rattle.mpl_value.specs.declared.known.TrapKind.{TrapKind}
use Rattle.mpl_value.specs.declared.known.TrapKind.TheVariants.{Unbound}
use Rattle.mpl_value.specs.declared.body.BodyEnd.TheVariants as end
use Rattle.mpl_mean.specs.Levels as levels
use Rattle.mpl_mean.specs.Levels.{BinaryOperator}
use Rattle.mpl_mean.specs.Meaning.CallMeaning.{answer, bound, held_or, name_of_target, unless_trapped, whole_variable}
use Rattle.mpl_mean.specs.Meaning.Context.{Context}
use Rattle.mpl_mean.specs.Meaning.ExpressionMeaning.{element_of, equality_test, next_of, relation_test, sum_operation, term_operation, unary_operation, value_of_binary, value_of_unary}
use Rattle.mpl_mean.specs.Meaning.Layout.{Class, Function, Member, class_named, class_of_type, classes_of, function_named, member_named}
use Rattle.mpl_mean.specs.Meaning.PlaceMeaning.{index_of, read, tested_index}
use Rattle.mpl_mean.specs.Meaning.Store.{Store, Goes, Ends, Step, Variable, ◌>>=◌, all_of, computed, force, pure, spend, trap, variable_named}
use Rattle.mpl_mean.specs.Meaning.Values.{Value, bool_value, int_value, is_true, word_of}
use Rattle.mpl_mean.specs.Plain.Expr.{Expr, Exprs}
use Rattle.mpl_mean.specs.Plain.Expr as e
use Rattle.mpl_mean.specs.Plain.Scopes.{Env, Shape, Slot, found_at, slot_named, slot_of_target, whole_slot}
use Rattle.mpl_mean.specs.Pending.BodyWays.{binary_ways, unless_whole, uses}
use Rattle.mpl_mean.specs.Pending.Looseness.{Loose, behind_path}
use Rattle.mpl_mean.specs.Pending.Paths.{Ways, NoEvent, Then, Either}
use Rattle.mpl_checked.specs.Checked.CheckedExpressions.{checked_binary, checked_element, checked_forced, checked_held, checked_read, checked_unary}
use Rattle.mpl_checked.specs.Checked.CheckedSteps.{Meant, CheckedStep, Checking, ◌>?>◌, checked_all, meant}
use Rattle.mpl_checked.proofs.Agreeing.{Agrees, Any, Anything, Keeps, agrees_weaker, keeps_then, kept, one_agrees, other_agrees, quiet_agrees, then_agrees, then_quiet}
use Rattle.mpl_checked.proofs.Covering.{Covers, covers_first, covers_one, covers_second}
use Rattle.mpl_checked.proofs.Standing.{Beside, IsKnown, Sits, sits}
use Rattle.mpl_checked.proofs.Uses.{env_of, read_agrees}

-- ---- plain steps keep the variables

pub keeps_tested : (line : ℕ) (n : Option ℕ) (s : Store) → Keeps Anything s (tested_index line n s)
keeps_tested line None s = tt
keeps_tested line (Some n) s = (refl, tt)

keeps_computed : (line : ℕ) (z : Result ℤ TrapKind) (s : Store) → Keeps Anything s (computed line z s)
keeps_computed line (Ok z) s = (refl, tt)
keeps_computed line (Err kind) s = tt

pub keeps_next : (line : ℕ) (input : List ℤ) (s : Store) → Keeps Anything s (next_of line input s)
keeps_next line [] s = tt
keeps_next line (z ∷ input) s = (refl, tt)

keeps_unary : (line : ℕ) (operator : UnaryOperator) (a : Value) (s : Store) → Keeps Anything s (unary_operation line operator a s)
keeps_unary line unary.Negative a s = keeps_then Anything Anything s (computed line (negation (word_of a)) s) (λ z. pure (int_value z)) (keeps_computed line (negation (word_of a)) s) (λ z t _. (refl, tt))
keeps_unary line unary.Not a s = (refl, tt)

pub keeps_bound : (line : ℕ) (object : ℤ) (s : Store) → Keeps Anything s (bound line object s)
keeps_bound line object s = chosen (int_eq object (pos 0)) where
  chosen : (b : Bool) → Keeps Anything s ((if b then trap Unbound line else pure object) s)
  chosen true = tt
  chosen false = (refl, tt)

pub keeps_spend : (turns : ℕ) (s : Store) → Keeps Anything s (spend turns s)
keeps_spend turns s = chosen (nat_lt s.turns turns) where
  chosen : (b : Bool) → Keeps {A = Unit {0}} Anything s (if b then Goes tt (record s { turns = s.turns + 1 }) else Ends end.Spent (record s { turns = s.turns + 1 }))
  chosen true = (refl, tt)
  chosen false = tt

keeps_unless : (t : Option Trap) (known : Step Arg) (s : Store) → Keeps Anything s (known s) → Keeps Anything s (unless_trapped t known s)
keeps_unless None known s h = h
keeps_unless (Some t) known s h = (refl, tt)

pub keeps_answer : (args : List Arg) (known : Step Arg) (s : Store) → Keeps Anything s (known s) → Keeps Anything s (answer args known s)
keeps_answer args known s h = chosen (any_unknown args) where
  chosen : (b : Bool) → Keeps Anything s ((if b then pure arg.Unknown else unless_trapped (leftmost_trap args) known) s)
  chosen true = (refl, tt)
  chosen false = keeps_unless (leftmost_trap args) known s h

pub keeps_force : (a : Arg) (s : Store) → Keeps Anything s (force a s)
keeps_force (arg.Know words) s = (refl, tt)
keeps_force (arg.Trapped t) s = tt
keeps_force arg.Unknown s = tt

pub known_few : (args : List Arg) → any_unknown args ≡ false → leftmost_trap args ≡ None → length (known_words args) ≡ length args
known_few [] u t = refl
known_few (arg.Know words ∷ args) u t = ap suc (known_few args u t)
known_few (arg.Trapped trap ∷ args) u t = absurd cc
known_few (arg.Unknown ∷ args) u t = absurd cc

pub class_is_named : (ds : List Declaration) (type : TypeName) (class : Class) → class_of_type ds type ≡ Some class → (name : List ℕ) × (class_named name (classes_of ds) ≡ Some class)
class_is_named ds (type.Int at) class e = absurd cc
class_is_named ds (type.Bool at) class e = absurd cc
class_is_named ds (type.Named at name) class e = (name.text, e)

-- ---- what is called from a body

-- what is called in place is as it is meant, and changes none of the caller's variables
pub record Below (checking : Checking) (c : Context) : Type 0 where
  pub plain : (name : List ℕ) (f : Function) → function_named name c.declarations ≡ Some f → (arguments : List (List ℤ)) → length f.formals ≡ length arguments → (s : Store)
      → (checking.callees.plain f arguments s ≡ Meant (c.callees.plain f arguments s)) × Keeps Anything s (c.callees.plain f arguments s)
  pub regular : (name member : List ℕ) (class : Class) (m : Member) → class_named name (classes_of c.declarations) ≡ Some class → class.is_regular ≡ true → member_named member class.members ≡ Some m
      → (arguments : List (List ℤ)) → length m.formals ≡ length arguments → (s : Store)
      → (checking.callees.regular m arguments s ≡ Meant (c.callees.regular m arguments s)) × Keeps Anything s (c.callees.regular m arguments s)

-- what may not be known of a flow
abbrev pub slot_loose : Loose → Option Slot → Bool
slot_loose loose None = false
slot_loose loose (Some slot) = loose slot.number

abbrev pub may_be_loose : Env → Loose → Expr → Bool
may_be_loose env loose (e.CallOnOwn at member arguments) = true
may_be_loose env loose (e.CallOnTarget at target member arguments) = true
may_be_loose env loose other = slot_loose loose (whole_slot env other)

abbrev pub Passed : Env → Expr → Loose → Arg → Type 0
Passed env expr loose passed = may_be_loose env loose expr ≡ false → IsKnown passed

abbrev pub Long : {A : Type 0} → ℕ → Loose → List A → Type 0
Long n loose values = length values ≡ n

abbrev pub KnownArg : Loose → Arg → Type 0
KnownArg loose passed = IsKnown passed

module _ (checking : Checking) (c : Context) (scope : List Shape) where
  abbrev env : Env
  env = env_of c scope

  -- from each store that stands by the scope a step is as it is meant
  abbrev pub Agreeing : {A : Type 0} → (Loose → A → Type 0) → Ways → CheckedStep A → Step A → Type 0
  Agreeing P ways k o = (loose : Loose) (s : Store) → Covers checking.marks ways loose → Beside loose scope s.variables → Agrees ways scope loose P (k s) (o s)

  pub plain_agrees : {A : Type 0} (step : Step A) → ((s : Store) → Keeps Anything s (step s)) → Agreeing Any NoEvent (meant step) step
  plain_agrees step keeps loose s covers beside = quiet_agrees (kept scope loose Anything s (step s) beside (keeps s))

  -- ---- two operands

  pub two_agree : (left right : Ways) (kl kr : CheckedStep Value) (l r : Step Value) (out : Value → Value → Step Value) → Agreeing Any left kl l → Agreeing Any right kr r
      → ((a b : Value) (s : Store) → Keeps Anything s (out a b s)) → Agreeing Any (Then left right) (kl >?> (λ a. kr >?> (λ b. meant (out a b)))) (l >>= (λ a. r >>= (λ b. out a b)))
  two_agree left right kl kr l r out on_left on_right keeps loose s covers beside =
      then_agrees left right scope scope loose Any Any (kl s) (l s) (λ a. kr >?> (λ b. meant (out a b))) (λ a. r >>= (λ b. out a b)) (on_left loose s (covers_first covers) beside)
      (λ a s1 path through beside1 _. then_quiet right scope scope (behind_path path loose) Any Any (kr s1) (r s1) (λ b. meant (out a b)) (λ b. out a b)
      (on_right (behind_path path loose) s1 (covers_second covers path through) beside1)
      (λ b s2 later beside2 _. kept scope later Anything s2 (out a b s2) beside2 (keeps a b s2)))

  decides : (right : Ways) (loose : Loose) (s : Store) (b : Bool) (known : Value) (kr : CheckedStep Value) (r : Step Value) → Beside loose scope s.variables → Agrees right scope loose Any (kr s) (r s)
      → Agrees (Either right NoEvent) scope loose Any ((if b then meant (pure known) else kr) s) ((if b then pure known else r) s)
  decides right loose s true known kr r beside on_right = other_agrees (quiet_agrees (record { same = refl; stays = (beside, tt) }))
  decides right loose s false known kr r beside on_right = one_agrees on_right

  decides_not : (right : Ways) (loose : Loose) (s : Store) (b : Bool) (known : Value) (kr : CheckedStep Value) (r : Step Value) → Beside loose scope s.variables → Agrees right scope loose Any (kr s) (r s)
      → Agrees (Either right NoEvent) scope loose Any ((if b then kr else meant (pure known)) s) ((if b then r else pure known) s)
  decides_not right loose s false known kr r beside on_right = other_agrees (quiet_agrees (record { same = refl; stays = (beside, tt) }))
  decides_not right loose s true known kr r beside on_right = one_agrees on_right

  pub binary_agrees : (line : ℕ) (operator : BinaryOperator) (left right : Ways) (kl kr : Context → CheckedStep Value) (l r : Context → Step Value) → Agreeing Any left (kl c) (l c) → Agreeing Any right (kr c) (r c)
      → Agreeing Any (binary_ways operator left right) (checked_binary line operator kl kr c) (value_of_binary line operator l r c)
  binary_agrees line levels.Or left right kl kr l r on_left on_right loose s covers beside =
      then_agrees left (Either right NoEvent) scope scope loose Any Any (kl c s) (l c s) (λ a. if is_true a then meant (pure (bool_value true)) else kr c) (λ a. if is_true a then pure (bool_value true) else r c)
      (on_left loose s (covers_first covers) beside)
      (λ a s1 path through beside1 _. decides right (behind_path path loose) s1 (is_true a) (bool_value true) (kr c) (r c) beside1
      (on_right (behind_path path loose) s1 (covers_one (covers_second covers path through)) beside1))
  binary_agrees line levels.And left right kl kr l r on_left on_right loose s covers beside =
      then_agrees left (Either right NoEvent) scope scope loose Any Any (kl c s) (l c s) (λ a. if is_true a then kr c else meant (pure (bool_value false))) (λ a. if is_true a then r c else pure (bool_value false))
      (on_left loose s (covers_first covers) beside)
      (λ a s1 path through beside1 _. decides_not right (behind_path path loose) s1 (is_true a) (bool_value false) (kr c) (r c) beside1
      (on_right (behind_path path loose) s1 (covers_one (covers_second covers path through)) beside1))
  binary_agrees line (levels.Equate o) left right kl kr l r on_left on_right loose s covers beside =
      two_agree left right (kl c) (kr c) (l c) (r c) (λ a b. pure (bool_value (equality_test o (word_of a) (word_of b)))) on_left on_right (λ a b s. (refl, tt)) loose s covers beside
  binary_agrees line (levels.Compare o) left right kl kr l r on_left on_right loose s covers beside =
      two_agree left right (kl c) (kr c) (l c) (r c) (λ a b. pure (bool_value (relation_test o (word_of a) (word_of b)))) on_left on_right (λ a b s. (refl, tt)) loose s covers beside
  binary_agrees line (levels.Add o) left right kl kr l r on_left on_right loose s covers beside =
      two_agree left right (kl c) (kr c) (l c) (r c) (λ a b. computed line (sum_operation o (word_of a) (word_of b)) >>= (λ z. pure (int_value z))) on_left on_right
      (λ a b s. keeps_then Anything Anything s (computed line (sum_operation o (word_of a) (word_of b)) s) (λ z. pure (int_value z)) (keeps_computed line (sum_operation o (word_of a) (word_of b)) s) (λ z t _. (refl, tt))) loose s covers beside
  binary_agrees line (levels.Multiply o) left right kl kr l r on_left on_right loose s covers beside =
      two_agree left right (kl c) (kr c) (l c) (r c) (λ a b. computed line (term_operation o (word_of a) (word_of b)) >>= (λ z. pure (int_value z))) on_left on_right
      (λ a b s. keeps_then Anything Anything s (computed line (term_operation o (word_of a) (word_of b)) s) (λ z. pure (int_value z)) (keeps_computed line (term_operation o (word_of a) (word_of b)) s) (λ z t _. (refl, tt))) loose s covers beside

  pub unary_agrees : (line : ℕ) (operator : UnaryOperator) (ways : Ways) (k : Context → CheckedStep Value) (o : Context → Step Value) → Agreeing Any ways (k c) (o c)
      → Agreeing Any ways (checked_unary line operator k c) (value_of_unary line operator o c)
  unary_agrees line operator ways k o on loose s covers beside =
      then_quiet ways scope scope loose Any Any (k c s) (o c s) (λ a. meant (unary_operation line operator a)) (unary_operation line operator) (on loose s covers beside)
      (λ a s1 later beside1 _. kept scope later Anything s1 (unary_operation line operator a s1) beside1 (keeps_unary line operator a s1))

  pub reading_agrees : (node : ℕ) (t : Target) → Agreeing Any (uses node (found_at env t)) (checked_read checking node c t) (read c t)
  reading_agrees node t loose s covers beside = read_agrees checking scope c loose node t s covers beside

  pub element_agrees : (line node : ℕ) (t : Target) (index : Ways) (k : CheckedStep Value) (o : Step Value) → Agreeing Any index k o
      → Agreeing Any (Then (uses node (found_at env t)) index) (checked_element line (checked_read checking node c t) k) (element_of line (read c t) o)
  element_agrees line node t index k o on =
      two_agree (uses node (found_at env t)) index (checked_read checking node c t) k (read c t) o
      (λ a i. index_of line (length a.words) (word_of i) >>= (λ n. pure (record { words = slice_index_or a.words n (pos 0) ∷ []; is_bool = a.is_bool })))
      (reading_agrees node t) on
      (λ a i s. keeps_then Anything Anything s (index_of line (length a.words) (word_of i) s) (λ n. pure (record { words = slice_index_or a.words n (pos 0) ∷ []; is_bool = a.is_bool }))
      (keeps_tested line (index_below (length a.words) (word_of i)) s) (λ n t _. (refl, tt)))

  -- ---- one after another

  pub none_agree : {A : Type 0} → Agreeing {A = List A} (Long 0) NoEvent (checked_all []) (all_of [])
  none_agree loose s covers beside = quiet_agrees (record { same = refl; stays = (beside, refl) })

  pub more_agree : {A : Type 0} (first rest : Ways) (P : Loose → A → Type 0) (n : ℕ) (k : CheckedStep A) (ks : List (CheckedStep A)) (o : Step A) (os : List (Step A)) → Agreeing P first k o
      → Agreeing (Long n) rest (checked_all ks) (all_of os) → Agreeing (Long (suc n)) (Then first rest) (checked_all (k ∷ ks)) (all_of (o ∷ os))
  more_agree first rest P n k ks o os on_first on_rest loose s covers beside =
      then_agrees first rest scope scope loose P (Long (suc n)) (k s) (o s) (λ v. checked_all ks >?> (λ vs. meant (pure (v ∷ vs)))) (λ v. all_of os >>= (λ vs. pure (v ∷ vs)))
      (on_first loose s (covers_first covers) beside)
      (λ v s1 path through beside1 _. then_quiet rest scope scope (behind_path path loose) (Long n) (Long (suc n)) (checked_all ks s1) (all_of os s1) (λ vs. meant (pure (v ∷ vs))) (λ vs. pure (v ∷ vs))
      (on_rest (behind_path path loose) s1 (covers_second covers path through) beside1)
      (λ vs s2 later beside2 long. record { same = refl; stays = (beside2, ap suc long) }))

  -- ---- flows

  pub held_agrees : (ways : Ways) (k : CheckedStep Value) (o : Step Value) → Agreeing Any ways k o → Agreeing KnownArg ways (checked_held None k) (held_or None o)
  held_agrees ways k o on loose s covers beside =
      then_quiet ways scope scope loose Any KnownArg (k s) (o s) (λ v. meant (pure (arg.Know v.words))) (λ v. pure (arg.Know v.words)) (on loose s covers beside)
      (λ v s1 later beside1 _. record { same = refl; stays = (beside1, tt) })

  pub flow_agrees : (expr : Expr) (ways : Ways) (k : CheckedStep Value) (o : Step Value) → Agreeing Any ways k o → Agreeing (Passed env expr) ways (checked_held None k) (held_or None o)
  flow_agrees expr ways k o on loose s covers beside =
      agrees_weaker ways scope loose KnownArg (Passed env expr) (checked_held None k s) (held_or None o s) (λ l a known off. known) (held_agrees ways k o on loose s covers beside)

  whole_agrees : (ways : Ways) (loose : Loose) (s : Store) (name : List ℕ) (v : Option Variable) (slot : Option Slot) (k : CheckedStep Value) (o : Step Value) → Beside loose scope s.variables
      → Sits loose scope s.variables name v slot → Covers checking.marks (unless_whole slot ways) loose → Agreeing Any ways k o
      → Agrees (unless_whole slot ways) scope loose (λ l a. slot_loose l slot ≡ false → IsKnown a) (checked_held v k s) (held_or v o s)
  whole_agrees ways loose s name None None k o beside sits covers on =
      agrees_weaker ways scope loose KnownArg (λ l a. false ≡ false → IsKnown a) (checked_held None k s) (held_or None o s) (λ l a known off. known) (held_agrees ways k o on loose s covers beside)
  whole_agrees ways loose s name None (Some slot) k o beside sits covers on = absurd sits
  whole_agrees ways loose s name (Some v) None k o beside sits covers on = absurd sits
  whole_agrees ways loose s name (Some v) (Some slot) k o beside seat covers on = quiet_agrees (record { same = refl; stays = (beside, seat.known) })

  pub place_agrees : (at : At) (t : Target)
      → Agreeing (Passed env (e.Whole at t)) (unless_whole (slot_of_target env t) (uses at.id (found_at env t)))
      (λ s. checked_held (whole_variable (name_of_target t) s.variables) (checked_read checking at.id c t) s) (λ s. held_or (whole_variable (name_of_target t) s.variables) (read c t) s)
  place_agrees at (target.Variable at1 variable) loose s covers beside =
      whole_agrees (uses at.id (found_at env (target.Variable at1 variable))) loose s variable.text (variable_named variable.text s.variables) (slot_named variable.text scope)
      (checked_read checking at.id c (target.Variable at1 variable)) (read c (target.Variable at1 variable)) beside (sits variable.text loose scope s.variables beside) covers
      (reading_agrees at.id (target.Variable at1 variable))
  place_agrees at (target.Field at1 variable field) loose s covers beside =
      flow_agrees (e.Whole at (target.Field at1 variable field)) (uses at.id (found_at env (target.Field at1 variable field))) (checked_read checking at.id c (target.Field at1 variable field))
      (read c (target.Field at1 variable field)) (reading_agrees at.id (target.Field at1 variable field)) loose s covers beside

  pub forced_agrees : (P : Loose → Arg → Type 0) (ways : Ways) (k : CheckedStep Arg) (o : Step Arg) → Agreeing P ways k o → Agreeing Any ways (checked_forced k) (o >>= (λ a. force a >>= (λ words. pure (record { words = words; is_bool = false }))))
  forced_agrees P ways k o on loose s covers beside =
      then_quiet ways scope scope loose P Any (k s) (o s) (λ a. meant (force a >>= (λ words. pure (record { words = words; is_bool = false })))) (λ a. force a >>= (λ words. pure (record { words = words; is_bool = false })))
      (on loose s covers beside)
      (λ a s1 later beside1 _. kept scope later Anything s1 ((force a >>= (λ words. pure (record { words = words; is_bool = false }))) s1) beside1
      (keeps_then Anything Anything s1 (force a s1) (λ words. pure (record { words = words; is_bool = false })) (keeps_force a s1) (λ words t _. (refl, tt))))
