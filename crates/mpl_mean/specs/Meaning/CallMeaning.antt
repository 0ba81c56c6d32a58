-- The values that are passed on as they stand, and calls of members.
use Rattle.std.specs.Prelude.{ℕ, ◌+◌, List, [], ◌∷◌, ◌++◌, map, length, Option, Some, None, if◌then◌else◌, ℤ, pos}
use Rattle.std.specs.FinMap.{get}
use Rattle.std.specs.Ordering.{int_eq}
use Rattle.mpl_ast.specs.declared.expression.Expression.{Expression}
use Rattle.mpl_ast.specs.declared.expression.Conjunction.TheOpen.{Place-F, Primary-F}
use Rattle.mpl_ast.specs.declared.expression.Target.{Target}
use Rattle.mpl_ast.specs.declared.expression.Target.TheVariants as target
use Rattle.mpl_ast.specs.declared.flow.Call.{Call, fold-Call}
use Rattle.mpl_ast.specs.declared.flow.Flow.{Flow, fold-Flow}
use Rattle.mpl_ast.specs.declared.flow.Call.TheOpen.{Call-F, Flow-F}
use Rattle.mpl_value.specs.declared.body.Arg.{Arg}
use Rattle.mpl_value.specs.declared.body.Arg.TheVariants.{Know, Trapped, Unknown}
use Rattle.mpl_value.specs.declared.known.Trap.{Trap}
use Rattle.mpl_value.specs.declared.known.TrapKind.TheVariants.{Unbound}
use Rattle.mpl_mean.specs.Levels.{Forms, expression_by}
use Rattle.mpl_mean.specs.Meaning.Context.{Context}
use Rattle.mpl_mean.specs.Meaning.ExpressionMeaning.{value_of}
use Rattle.mpl_mean.specs.Meaning.Layout.{Class, Member, member_named, class_of_type}
use Rattle.mpl_mean.specs.Meaning.PlaceMeaning.{Location, location_of, words_of_location}
use Rattle.mpl_mean.specs.Meaning.Store.{Goes, Step, ◌>>=◌, ◌>>◌, pure, trap, waits, spend, all_of, variable_named, Variable}
use Rattle.mpl_mean.specs.Meaning.Values.{Value, first_word}
use Rattle.mpl_value.specs.CallAnswers.{any_unknown, leftmost_trap, known_words, arg_of_reply}

-- ---- whole variables

-- the name that an expression is, if it is one
abbrev pub MayName : Type 0
MayName = Option (List ℕ)

abbrev pub name_of_primary : Primary-F MayName MayName MayName MayName MayName MayName MayName MayName MayName → MayName
name_of_primary (Primary-F.Number at value) = None
name_of_primary (Primary-F.True at) = None
name_of_primary (Primary-F.False at) = None
name_of_primary (Primary-F.Own at) = None
name_of_primary (Primary-F.Read at place) = place
name_of_primary (Primary-F.Input at) = None
name_of_primary (Primary-F.CallPlain at function arguments) = None
name_of_primary (Primary-F.Parenthesized at inner) = None

abbrev pub name_of_target : Target → MayName
name_of_target (target.Variable at variable) = Some variable.text
name_of_target (target.Field at variable field) = None

abbrev pub name_of_place : Place-F MayName MayName MayName MayName MayName MayName MayName MayName MayName → MayName
name_of_place (Place-F.Whole at target) = name_of_target target
name_of_place (Place-F.Element at line target index) = None

abbrev pub name_of_forms : Forms MayName
name_of_forms = record {
  alone = λ at part. part;
  binary = λ at line operator left right. None;
  unary = λ at line operator operand. None;
  primary = name_of_primary;
  place = name_of_place;
}

abbrev pub whole_name : Expression → MayName
whole_name = expression_by name_of_forms

-- the formal or local that an expression is, if it is one
abbrev pub whole_variable : MayName → List Variable → Option Variable
whole_variable None variables = None
whole_variable (Some name) variables = variable_named name variables

-- ---- arguments

abbrev pub Passes : Type 0
Passes = Context → Step Arg

abbrev pub held_or : Option Variable → Step Value → Step Arg
held_or (Some v) value = pure v.holds
held_or None value = value >>= (λ v. pure (Know v.words))

-- a whole formal or local is passed on as it stands, and every other expression is evaluated
abbrev pub pass : Context → Expression → Step Arg
pass context e store = held_or (whole_variable (whole_name e) store.variables) (value_of e context) store

abbrev pub unless_trapped : Option Trap → Step Arg → Step Arg
unless_trapped None known = known
unless_trapped (Some t) known = pure (Trapped t)

-- The answer of a call: unknown where an argument is, else the leftmost trap of its arguments, else what the called body
-- or the table of replies gives.
abbrev pub answer : List Arg → Step Arg → Step Arg
answer arguments known = if any_unknown arguments then pure Unknown else unless_trapped (leftmost_trap arguments) known

-- ---- calls

-- one more call on a persistent object, and its number
abbrev pub made : ℤ → ℕ → List Arg → Step ℕ
made object member arguments store =
    Goes (length store.calls + 1) (record store { calls = store.calls ++ record { call = length store.calls + 1; object = object; member = record { 0 = member }; args = arguments } ∷ [] })

abbrev pub persistent_call : Context → ℤ → Member → List (Step Arg) → Step Arg
persistent_call context object member arguments =
    all_of arguments >>= (λ args. spend context.turns >> (made object member.id args >>= (λ k. answer args (pure (arg_of_reply (get context.replies k))))))

abbrev pub regular_call : Context → Member → List (Step Arg) → Step Arg
regular_call context member arguments =
    all_of arguments >>= (λ args. spend context.turns >> answer args (context.callees.regular member (known_words args)))

-- the word of an object, which is not 0
abbrev pub bound : ℕ → ℤ → Step ℤ
bound line object = if int_eq object (pos 0) then trap Unbound line else pure object

abbrev pub call_of_member : Option Member → (Member → Step Arg) → Step Arg
call_of_member None call = waits
call_of_member (Some member) call = call member

-- the receiver with its test, the arguments, and then the call
abbrev pub call_on : Context → ℕ → Option Location → Option Class → List ℕ → List (Step Arg) → Step Arg
call_on context line location None member arguments = waits
call_on context line location (Some class) member arguments =
    if class.is_regular then call_of_member (member_named member class.members) (λ m. regular_call context m arguments)
    else (words_of_location location >>= (λ value. bound line (first_word value.words) >>= (λ object.
    call_of_member (member_named member class.members) (λ m. persistent_call context object m arguments))))

abbrev pub class_of_location : Context → Option Location → Option Class
class_of_location context None = None
class_of_location context (Some location) = class_of_type context.declarations location.type

abbrev pub call_on_target : Context → ℕ → Target → List ℕ → List (Step Arg) → Step Arg
call_on_target context line target member arguments store =
    call_on context line (location_of context target store) (class_of_location context (location_of context target store)) member arguments store

abbrev pub at_context : Context → List Passes → List (Step Arg)
at_context context = map (λ (passes : Passes). passes context)

abbrev pub flow_step : Flow-F Passes Passes → Passes
flow_step (Flow-F.OfCall at call) = call
flow_step (Flow-F.OfExpression at expression) = λ context. pass context expression

abbrev pub call_step : Call-F Passes Passes → Passes
call_step (Call-F.OnOwn at member arguments) = λ context.
    call_of_member (member_named member.text context.members) (λ m. persistent_call context context.object m (at_context context arguments))
call_step (Call-F.OnTarget at target member arguments) = λ context.
    call_on_target context at.line target member.text (at_context context arguments)

-- what a flow passes on
abbrev pub passes : Flow → Passes
passes = fold-Flow Passes Passes call_step flow_step

-- the result of a call
abbrev pub call_value : Call → Passes
call_value = fold-Call Passes Passes call_step flow_step
