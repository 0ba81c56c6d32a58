-- The checked meaning of expressions, flows and calls.
use Rattle.std.specs.Prelude.{ℕ, Bool, true, false, List, [], ◌∷◌, map, length, Option, Some, None, if◌then◌else◌, ℤ, pos, Result}
use Rattle.std.specs.List.{slice_index_or}
use Rattle.std.specs.FinMap.{get}
use Rattle.mpl_ast.specs.declared.expression.Target.{Target}
use Rattle.mpl_ast.specs.declared.expression.UnaryOperator.{UnaryOperator}
use Rattle.mpl_ast.specs.declared.place.Name.{Name}
use Rattle.mpl_value.specs.CallAnswers.{any_unknown, arg_of_reply, known_words, leftmost_trap}
use Rattle.mpl_value.specs.Words.{words_at}
use Rattle.mpl_value.specs.declared.body.Arg.{Arg}
use Rattle.mpl_value.specs.declared.body.Arg.TheVariants.{Know, Trapped, Unknown}
use Rattle.mpl_value.specs.declared.known.Trap.{Trap}
use Rattle.mpl_value.specs.declared.known.TrapKind.{TrapKind}
use Rattle.mpl_mean.specs.Levels.{BinaryOperator, Or, And, Equate, Compare, Add, Multiply}
use Rattle.mpl_mean.specs.Meaning.CallMeaning.{answer, bound, class_of_location, made, name_of_target, whole_variable}
use Rattle.mpl_mean.specs.Meaning.Context.{Context}
use Rattle.mpl_mean.specs.Meaning.ExpressionMeaning.{equality_test, next_number, relation_test, sum_operation, term_operation, unary_operation}
use Rattle.mpl_mean.specs.Meaning.Layout.{Class, Function, Member, function_named, member_named}
use Rattle.mpl_mean.specs.Meaning.PlaceMeaning.{Location, base_of, index_of, is_bool, location_of, words_of_location}
use Rattle.mpl_mean.specs.Meaning.Store.{Variable, Step, ◌>>=◌, ◌>>◌, computed, force, pure, spend, waits}
use Rattle.mpl_mean.specs.Meaning.Values.{Value, bool_value, first_word, int_value, is_true, word_of}
use Rattle.mpl_mean.specs.Plain.Expr.{Expr, Exprs, NoExpr, MoreExprs}
use Rattle.mpl_mean.specs.Plain.Expr as e
use Rattle.mpl_checked.specs.Checked.CheckedSteps.{CheckedStep, Checking, ◌>?>◌, checked_all, checked_force, meant}

abbrev pub CheckedEvaluates : Type 0
CheckedEvaluates = Context → CheckedStep Value

abbrev pub CheckedPasses : Type 0
CheckedPasses = Context → CheckedStep Arg

-- ---- places

-- all words of the variable that a place is of, which a use forces, or those of the state
abbrev pub checked_base : Checking → ℕ → Option Variable → CheckedStep (List ℤ)
checked_base checking node (Some v) = checked_force (checking.marks node) v.holds
checked_base checking node None = meant (base_of None)

abbrev pub checked_words : Checking → ℕ → Option Location → CheckedStep Value
checked_words checking node None = meant (words_of_location None)
checked_words checking node (Some location) = checked_base checking node location.variable
    >?> (λ words. meant (pure (record { words = words_at location.offset location.words words; is_bool = is_bool location.type })))

abbrev pub checked_read : Checking → ℕ → Context → Target → CheckedStep Value
checked_read checking node context target store = checked_words checking node (location_of context target store) store

abbrev pub checked_element : ℕ → CheckedStep Value → CheckedStep Value → CheckedStep Value
checked_element line array index =
    array >?> (λ a. index >?> (λ i. meant (index_of line (length a.words) (word_of i) >>= (λ n. pure (record { words = slice_index_or a.words n (pos 0) ∷ []; is_bool = a.is_bool })))))

-- ---- operators and plain calls

abbrev pub checked_arithmetic : ℕ → (ℤ → ℤ → Result ℤ TrapKind) → CheckedEvaluates → CheckedEvaluates → CheckedEvaluates
checked_arithmetic line operator left right context =
    left context >?> (λ a. right context >?> (λ b. meant (computed line (operator (word_of a) (word_of b)) >>= (λ z. pure (int_value z)))))

abbrev pub checked_test : (ℤ → ℤ → Bool) → CheckedEvaluates → CheckedEvaluates → CheckedEvaluates
checked_test test left right context = left context >?> (λ a. right context >?> (λ b. meant (pure (bool_value (test (word_of a) (word_of b))))))

abbrev pub checked_binary : ℕ → BinaryOperator → CheckedEvaluates → CheckedEvaluates → CheckedEvaluates
checked_binary line Or left right = λ context. left context >?> (λ a. if is_true a then meant (pure (bool_value true)) else right context)
checked_binary line And left right = λ context. left context >?> (λ a. if is_true a then right context else meant (pure (bool_value false)))
checked_binary line (Equate operator) left right = checked_test (equality_test operator) left right
checked_binary line (Compare operator) left right = checked_test (relation_test operator) left right
checked_binary line (Add operator) left right = checked_arithmetic line (sum_operation operator) left right
checked_binary line (Multiply operator) left right = checked_arithmetic line (term_operation operator) left right

abbrev pub checked_unary : ℕ → UnaryOperator → CheckedEvaluates → CheckedEvaluates
checked_unary line operator operand = λ context. operand context >?> (λ a. meant (unary_operation line operator a))

abbrev pub checked_called : Checking → Option Function → List (List ℤ) → CheckedStep Value
checked_called checking None arguments = meant waits
checked_called checking (Some f) arguments = checking.callees.plain f arguments >?> (λ words. meant (pure (record { words = words; is_bool = is_bool f.result })))

abbrev pub checked_plain : Checking → Context → Name → List (CheckedStep Value) → CheckedStep Value
checked_plain checking context function arguments = checked_all arguments
    >?> (λ values. checked_called checking (function_named function.text context.declarations) (map (λ (value : Value). value.words) values))

-- ---- Mentat calls

abbrev pub checked_held : Option Variable → CheckedStep Value → CheckedStep Arg
checked_held (Some v) value = meant (pure v.holds)
checked_held None value = value >?> (λ v. meant (pure (Know v.words)))

abbrev pub checked_persistent : Context → ℤ → Member → List (CheckedStep Arg) → CheckedStep Arg
checked_persistent context object member arguments = checked_all arguments
    >?> (λ args. meant (spend context.turns >> (made object member.id args >>= (λ k. answer args (pure (arg_of_reply (get context.replies k)))))))

abbrev pub checked_unless_trapped : Option Trap → CheckedStep Arg → CheckedStep Arg
checked_unless_trapped None known = known
checked_unless_trapped (Some t) known = meant (pure (Trapped t))

abbrev pub checked_answer : List Arg → CheckedStep Arg → CheckedStep Arg
checked_answer arguments known = if any_unknown arguments then meant (pure Unknown) else checked_unless_trapped (leftmost_trap arguments) known

abbrev pub checked_regular : Checking → Context → Member → List (CheckedStep Arg) → CheckedStep Arg
checked_regular checking context member arguments = checked_all arguments
    >?> (λ args. meant (spend context.turns) >?> (λ _. checked_answer args (checking.callees.regular member (known_words args))))

abbrev pub checked_of_member : Option Member → (Member → CheckedStep Arg) → CheckedStep Arg
checked_of_member None call = meant waits
checked_of_member (Some member) call = call member

abbrev pub checked_call_on : Checking → Context → ℕ → ℕ → Option Location → Option Class → List ℕ → List (CheckedStep Arg) → CheckedStep Arg
checked_call_on checking context node line location None member arguments = meant waits
checked_call_on checking context node line location (Some class) member arguments =
    if class.is_regular then checked_of_member (member_named member class.members) (λ m. checked_regular checking context m arguments)
    else (checked_words checking node location >?> (λ value. meant (bound line (first_word value.words)) >?> (λ object.
    checked_of_member (member_named member class.members) (λ m. checked_persistent context object m arguments))))

abbrev pub checked_call_on_target : Checking → Context → ℕ → ℕ → Target → List ℕ → List (CheckedStep Arg) → CheckedStep Arg
checked_call_on_target checking context node line target member arguments store =
    checked_call_on checking context node line (location_of context target store) (class_of_location context (location_of context target store)) member arguments store

abbrev pub checked_own_call : Context → Name → List (CheckedStep Arg) → CheckedStep Arg
checked_own_call context member arguments = checked_of_member (member_named member.text context.members) (λ m. checked_persistent context context.object m arguments)

-- the result of a call where a value is asked for
abbrev pub checked_forced : CheckedStep Arg → CheckedStep Value
checked_forced step = step >?> (λ arg. meant (force arg >>= (λ words. pure (record { words = words; is_bool = false }))))

-- ---- one form after another

abbrev mutual
  pub checked_value : Checking → Expr → CheckedEvaluates
  checked_value checking (e.Number at z) = λ context. meant (pure (int_value z))
  checked_value checking (e.Truth at b) = λ context. meant (pure (bool_value b))
  checked_value checking (e.Own at) = λ context. meant (pure (int_value context.object))
  checked_value checking (e.Input at) = λ context. meant (next_number at.line)
  checked_value checking (e.Whole at target) = λ context. checked_read checking at.id context target
  checked_value checking (e.Element at line target index) = λ context. checked_element line (checked_read checking at.id context target) (checked_value checking index context)
  checked_value checking (e.PlainCall at function arguments) = λ context. checked_plain checking context function (checked_values checking arguments context)
  checked_value checking (e.Parenthesized at inner) = checked_value checking inner
  checked_value checking (e.Unary at line operator operand) = checked_unary line operator (checked_value checking operand)
  checked_value checking (e.Binary at line operator left right) = checked_binary line operator (checked_value checking left) (checked_value checking right)
  checked_value checking (e.CallOnOwn at member arguments) = λ context. checked_forced (checked_own_call context member (checked_flows checking arguments context))
  checked_value checking (e.CallOnTarget at target member arguments) = λ context.
      checked_forced (checked_call_on_target checking context at.id at.line target member.text (checked_flows checking arguments context))

  pub checked_values : Checking → Exprs → Context → List (CheckedStep Value)
  checked_values checking NoExpr = λ context. []
  checked_values checking (MoreExprs expr exprs) = λ context. checked_value checking expr context ∷ checked_values checking exprs context

  pub checked_flows : Checking → Exprs → Context → List (CheckedStep Arg)
  checked_flows checking NoExpr = λ context. []
  checked_flows checking (MoreExprs expr exprs) = λ context. checked_passes checking expr context ∷ checked_flows checking exprs context

  -- a whole formal or local is passed on as it stands
  pub checked_passes : Checking → Expr → CheckedPasses
  checked_passes checking (e.CallOnOwn at member arguments) = λ context. checked_own_call context member (checked_flows checking arguments context)
  checked_passes checking (e.CallOnTarget at target member arguments) = λ context.
      checked_call_on_target checking context at.id at.line target member.text (checked_flows checking arguments context)
  checked_passes checking (e.Number at z) = λ context. checked_held None (meant (pure (int_value z)))
  checked_passes checking (e.Truth at b) = λ context. checked_held None (meant (pure (bool_value b)))
  checked_passes checking (e.Own at) = λ context. checked_held None (meant (pure (int_value context.object)))
  checked_passes checking (e.Input at) = λ context. checked_held None (meant (next_number at.line))
  checked_passes checking (e.Whole at target) = λ context store.
      checked_held (whole_variable (name_of_target target) store.variables) (checked_read checking at.id context target) store
  checked_passes checking (e.Element at line target index) = λ context.
      checked_held None (checked_element line (checked_read checking at.id context target) (checked_value checking index context))
  checked_passes checking (e.PlainCall at function arguments) = λ context. checked_held None (checked_plain checking context function (checked_values checking arguments context))
  checked_passes checking (e.Parenthesized at inner) = λ context. checked_held None (checked_value checking inner context)
  checked_passes checking (e.Unary at line operator operand) = λ context. checked_held None (checked_unary line operator (checked_value checking operand) context)
  checked_passes checking (e.Binary at line operator left right) = λ context.
      checked_held None (checked_binary line operator (checked_value checking left) (checked_value checking right) context)
