-- What each instruction does.
use Rattle.std.specs.Prelude.{ℕ, zero, suc, ◌+◌, ◌-◌, true, false, not, nat_lt, List, [], ◌∷◌, ◌++◌, map, reverse, take, drop, length, slice_get, Option, Some, None, if◌then◌else◌, ℤ, pos, Result, Ok, Err}
use Rattle.std.specs.FinMap.{get}
use Rattle.std.specs.List.{slice_index_or}
use Rattle.std.specs.Ordering.{int_eq}
use Rattle.mpl_ast.specs.declared.expression.UnaryOperator.{UnaryOperator}
use Rattle.mpl_ast.specs.declared.expression.UnaryOperator.TheVariants as unary
use Rattle.mpl_value.specs.Arithmetic.{negation}
use Rattle.mpl_value.specs.CallAnswers.{any_unknown, leftmost_trap, arg_of_reply}
use Rattle.mpl_value.specs.Results.{result_of}
use Rattle.mpl_value.specs.Words.{words_at, with_words, index_below, zeros, object_word}
use Rattle.mpl_value.specs.declared.body.Arg.{Arg}
use Rattle.mpl_value.specs.declared.body.Arg.TheVariants as arg
use Rattle.mpl_value.specs.declared.body.BodyEnd.{BodyEnd}
use Rattle.mpl_value.specs.declared.body.BodyEnd.TheVariants as end
use Rattle.mpl_value.specs.declared.body.BodyResult.{BodyResult}
use Rattle.mpl_value.specs.declared.body.BodyResult.TheVariants as result
use Rattle.mpl_value.specs.declared.body.Yield.{Yield}
use Rattle.mpl_value.specs.declared.known.Known.{Known}
use Rattle.mpl_value.specs.declared.known.Trap.{Trap}
use Rattle.mpl_value.specs.declared.known.TrapKind.{TrapKind}
use Rattle.mpl_value.specs.declared.known.TrapKind.TheVariants.{Index, NoInput, Twice, Unbound}
use Rattle.mpl_mean.specs.Meaning.ExpressionMeaning.{equality_test, relation_test, sum_operation, term_operation}
use Rattle.mpl_mean.specs.Meaning.StatementMeaning.{line_of}
use Rattle.mpl_mean.specs.Meaning.Values.{Value, bool_value, first_word, int_value, is_true, word_of}
use Rattle.mpl_body_code.specs.Machine.{Item, OfValue, OfTrap, NotKnown, Frame, Body, OfPlain, OfRegular, Machine, Setting, Next, Goes, Stops, words_item, item_of, arg_of, held, put_held, ended, finished, returned}
use Rattle.mpl_body_code.specs.declared.instruction.Base.{Base}
use Rattle.mpl_body_code.specs.declared.instruction.Base.TheVariants as base
use Rattle.mpl_body_code.specs.declared.instruction.Finish.{Finish}
use Rattle.mpl_body_code.specs.declared.instruction.FunctionCode.{FunctionCode}
use Rattle.mpl_body_code.specs.declared.instruction.Instruction.{Instruction}
use Rattle.mpl_body_code.specs.declared.instruction.Instruction.TheVariants as instruction
use Rattle.mpl_body_code.specs.declared.instruction.MemberCode.{MemberCode}
use Rattle.mpl_body_code.specs.declared.instruction.Operator.{Operator}
use Rattle.mpl_body_code.specs.declared.instruction.Operator.TheVariants as operator

-- ---- going on

-- from another place, with another stack
abbrev pub at_place : ℕ → Machine → List Item → Next
at_place place x stack = Goes (record x { frame = record x.frame { place = place; stack = stack } })

abbrev pub onward : Machine → List Item → Next
onward x stack = at_place (x.frame.place + 1) x stack

abbrev pub past : ℕ → Machine → List Item → Next
past count x stack = at_place (x.frame.place + 1 + count) x stack

abbrev pub stops : BodyEnd → Machine → Next
stops e x = ended x.callers e x.body x.turns

abbrev pub traps : TrapKind → ℕ → Machine → Next
traps kind line x = stops (end.Trap (record { kind = kind; line = line })) x

-- What no code of a body comes to: an item is missing, or is no value.
abbrev pub strays : Machine → Next
strays x = stops end.Waits x

abbrev pub spends : Setting → Machine → (Machine → Next) → Next
spends s x next = if nat_lt x.turns s.turns then next (record x { turns = x.turns + 1 }) else stops end.Spent (record x { turns = x.turns + 1 })

-- ---- what lies on the stack

abbrev pub on_item : Machine → List Item → (Item → List Item → Next) → Next
on_item x [] next = strays x
on_item x (item ∷ below) next = next item below

abbrev pub on_value : Machine → List Item → (Value → List Item → Next) → Next
on_value x [] next = strays x
on_value x (OfValue value ∷ below) next = next value below
on_value x (OfTrap trap ∷ below) next = strays x
on_value x (NotKnown ∷ below) next = strays x

-- so many from the top, the top last
abbrev pub top_of : ℕ → List Item → List Item
top_of count stack = reverse (take count stack)

abbrev pub values_of : List Item → List Value
values_of [] = []
values_of (OfValue value ∷ items) = value ∷ values_of items
values_of (OfTrap trap ∷ items) = values_of items
values_of (NotKnown ∷ items) = values_of items

-- ---- places

-- what is known of a variable
abbrev pub forced : Machine → Arg → (List ℤ → Next) → Next
forced x (arg.Know words) next = next words
forced x (arg.Trapped trap) next = stops (end.Trap trap) x
forced x arg.Unknown next = strays x

abbrev pub on_base : Machine → Base → (List ℤ → Next) → Next
on_base x (base.Slot number) next = forced x (held number x.frame.slots) next
on_base x base.State next = next x.body.state

abbrev pub with_slots : Machine → List Arg → Machine
with_slots x slots = record x { frame = record x.frame { slots = slots } }

-- other words from an offset on
abbrev pub puts : Machine → Base → ℕ → List ℤ → List Item → Next
puts x (base.Slot number) offset words below =
    forced x (held number x.frame.slots) (λ old. onward (with_slots x (put_held number (arg.Know (with_words offset words old)) x.frame.slots)) below)
puts x base.State offset words below = onward (record x { body = record x.body { state = with_words offset words x.body.state } }) below

abbrev pub indexed : Machine → ℕ → Option ℕ → (ℕ → Next) → Next
indexed x line None next = traps Index line x
indexed x line (Some n) next = next n

-- ---- operators

abbrev pub computes : Machine → ℕ → Result ℤ TrapKind → List Item → Next
computes x line (Ok z) below = onward x (OfValue (int_value z) ∷ below)
computes x line (Err kind) below = traps kind line x

abbrev pub operates : Machine → ℕ → Operator → ℤ → ℤ → List Item → Next
operates x line (operator.Equate o) a b below = onward x (OfValue (bool_value (equality_test o a b)) ∷ below)
operates x line (operator.Compare o) a b below = onward x (OfValue (bool_value (relation_test o a b)) ∷ below)
operates x line (operator.Add o) a b below = computes x line (sum_operation o a b) below
operates x line (operator.Multiply o) a b below = computes x line (term_operation o a b) below

abbrev pub operates_alone : Machine → ℕ → UnaryOperator → Value → List Item → Next
operates_alone x line unary.Negative a below = computes x line (negation (word_of a)) below
operates_alone x line unary.Not a below = onward x (OfValue (bool_value (not (is_true a))) ∷ below)

abbrev pub takes_input : Machine → ℕ → List ℤ → Next
takes_input x line [] = traps NoInput line x
takes_input x line (z ∷ input) = onward (record x { body = record x.body { input = input } }) (OfValue (int_value z) ∷ x.frame.stack)

-- ---- calls

-- the frame goes on behind the call, when that is over
abbrev pub waiting : Machine → List Item → Frame
waiting x below = record x.frame { place = x.frame.place + 1; stack = below }

abbrev pub begun : ℕ → List Arg → Frame
begun entry arguments = record { place = entry; stack = []; slots = arguments; object = pos 0; number = 0 }

-- a turn for the start of a plain function, and then its code
abbrev pub begins_plain : Setting → Machine → FunctionCode → List Arg → List Item → Next
begins_plain s x f arguments below = spends s x (λ x.
    Goes (record x { frame = begun f.entry arguments; callers = OfPlain (waiting x below) f.line f.is_bool ∷ x.callers }))

abbrev pub body_begun : Finish → Body
body_begun finish = record { state = []; lines = []; input = []; calls = []; creations = []; result = result.Open; finish = finish; answered = false }

abbrev pub begins_regular : Setting → Machine → MemberCode → List Arg → List Item → Next
begins_regular s x m arguments below = spends s x (λ x.
    Goes (record x { frame = begun m.entry arguments; body = body_begun m.finish; callers = OfRegular (waiting x below) x.body ∷ x.callers }))

abbrev pub calls_plain : Setting → Machine → Option FunctionCode → List Item → List Item → Next
calls_plain s x None items below = strays x
calls_plain s x (Some f) items below = begins_plain s x f (map arg_of items) below

abbrev pub unless_trapped : Machine → Option Trap → Next → List Item → Next
unless_trapped x None known below = known
unless_trapped x (Some trap) known below = onward x (OfTrap trap ∷ below)

-- what the arguments decide, and else what is known
abbrev pub answers : Machine → List Arg → Next → List Item → Next
answers x arguments known below = if any_unknown arguments then onward x (NotKnown ∷ below) else unless_trapped x (leftmost_trap arguments) known below

abbrev pub calls_regular : Setting → Machine → Option MemberCode → List Arg → List Item → Next
calls_regular s x None arguments below = strays x
calls_regular s x (Some m) arguments below = spends s x (λ x. answers x arguments (begins_regular s x m arguments below) below)

-- the reply to a call of the body
abbrev pub reply_to : Setting → Body → ℕ → Option Known
reply_to s body call = if body.answered then get s.replies call else None

abbrev pub with_call : Machine → ℤ → ℕ → List Arg → Machine
with_call x object member arguments = record x {
  body = record x.body { calls = x.body.calls ++ record { call = length x.body.calls + 1; object = object; member = record { 0 = member }; args = arguments } ∷ [] };
}

abbrev pub replies : Setting → Machine → ℕ → List Arg → List Item → Next
replies s x call arguments below = answers x arguments (onward x (item_of (arg_of_reply (reply_to s x.body call)) ∷ below)) below

abbrev pub calls_object : Setting → Machine → ℕ → List Arg → ℤ → List Item → Next
calls_object s x member arguments object below = spends s x (λ x. replies s (with_call x object member arguments) (length x.body.calls + 1) arguments below)

abbrev pub creates : Setting → Machine → ℤ → List Item → Next
creates s x class below = spends s x (λ x.
    onward (record x { body = record x.body { creations = x.body.creations ++ class ∷ [] } })
    (OfValue (int_value (object_word x.frame.number (length x.body.creations + 1))) ∷ below))

-- ---- results

abbrev pub gives : Machine → ℕ → Arg → BodyResult → List Item → Next
gives x line value result.Open below = onward (record x { body = record x.body { result = result_of value } }) below
gives x line value (result.Known known) below = traps Twice line x
gives x line value result.Unknown below = traps Twice line x

-- ---- each instruction

abbrev pub performs : Setting → Instruction → Machine → Next
performs s (instruction.Number z) x = onward x (OfValue (int_value z) ∷ x.frame.stack)
performs s (instruction.Truth b) x = onward x (OfValue (bool_value b) ∷ x.frame.stack)
performs s instruction.Own x = onward x (OfValue (int_value x.frame.object) ∷ x.frame.stack)
performs s instruction.Nothing x = onward x (words_item [] false ∷ x.frame.stack)
performs s (instruction.Input line) x = takes_input x line x.body.input
performs s (instruction.Read spot) x = on_base x spot.base (λ words. onward x (words_item (words_at spot.offset spot.words words) spot.is_bool ∷ x.frame.stack))
performs s (instruction.Index line) x = on_value x x.frame.stack (λ i below. on_value x below (λ a below.
    indexed x line (index_below (length a.words) (word_of i)) (λ n. onward x (words_item (slice_index_or a.words n (pos 0) ∷ []) a.is_bool ∷ below))))
performs s (instruction.CallPlain function count) x =
    calls_plain s x (slice_get s.image.functions function) (top_of count x.frame.stack) (drop count x.frame.stack)
performs s (instruction.Unary line operator) x = on_value x x.frame.stack (λ a below. operates_alone x line operator a below)
performs s (instruction.Binary line operator) x = on_value x x.frame.stack (λ b below. on_value x below (λ a below. operates x line operator (word_of a) (word_of b) below))
performs s (instruction.Or count) x = on_value x x.frame.stack (λ a below. if is_true a then past count x (OfValue (bool_value true) ∷ below) else onward x below)
performs s (instruction.And count) x = on_value x x.frame.stack (λ a below. if is_true a then onward x below else past count x (OfValue (bool_value false) ∷ below))
performs s instruction.Wait x = stops end.Waits x
performs s (instruction.Declare words) x = onward (with_slots x (arg.Know (zeros words) ∷ x.frame.slots)) x.frame.stack
performs s instruction.Bind x = on_item x x.frame.stack (λ item below. onward (with_slots x (arg_of item ∷ x.frame.slots)) below)
performs s (instruction.Pass number) x = onward x (item_of (held number x.frame.slots) ∷ x.frame.stack)
performs s (instruction.CallRegular member count) x =
    calls_regular s x (slice_get s.image.members member) (map arg_of (top_of count x.frame.stack)) (drop count x.frame.stack)
performs s (instruction.Receiver line) x = on_value x x.frame.stack (λ value below.
    if int_eq (first_word value.words) (pos 0) then traps Unbound line x else onward x (OfValue (int_value (first_word value.words)) ∷ below))
performs s (instruction.CallObject member count) x = on_value x (drop count x.frame.stack) (λ object below.
    calls_object s x member (map arg_of (top_of count x.frame.stack)) (word_of object) below)
performs s (instruction.Hold number) x = on_item x x.frame.stack (λ item below. onward (with_slots x (put_held number (arg_of item) x.frame.slots)) below)
performs s instruction.Force x = on_item x x.frame.stack (λ item below. forced x (arg_of item) (λ words. onward x (item ∷ below)))
performs s (instruction.Put spot) x = on_value x x.frame.stack (λ value below. puts x spot.base spot.offset value.words below)
performs s (instruction.PutElement line spot) x = on_value x x.frame.stack (λ i below. on_value x below (λ value below.
    indexed x line (index_below spot.words (word_of i)) (λ n. puts x spot.base (spot.offset + n) value.words below)))
performs s (instruction.New class) x = creates s x class x.frame.stack
performs s (instruction.ForceSpot spot) x = on_base x spot.base (λ words. onward x x.frame.stack)
performs s instruction.Drop x = on_item x x.frame.stack (λ item below. onward x below)
performs s (instruction.Unless count) x = on_value x x.frame.stack (λ value below. if is_true value then onward x below else past count x below)
performs s (instruction.Skip count) x = past count x x.frame.stack
performs s (instruction.Leave count) x = onward (with_slots x (drop (length x.frame.slots - count) x.frame.slots)) x.frame.stack
performs s instruction.Turn x = spends s x (λ x. onward x x.frame.stack)
performs s (instruction.Again count) x = spends s x (λ x. at_place (x.frame.place - count) x x.frame.stack)
performs s (instruction.Print count) x =
    onward (record x { body = record x.body { lines = x.body.lines ++ line_of (values_of (top_of count x.frame.stack)) } }) (drop count x.frame.stack)
performs s (instruction.Give line) x = on_item x x.frame.stack (λ item below. gives x line (arg_of item) x.body.result below)
performs s instruction.Return x = on_value x x.frame.stack (λ value below. returned value.words x.callers x.body x.turns)
performs s instruction.ReturnNothing x = returned [] x.callers x.body x.turns
performs s instruction.End x = finished x.callers x.body x.turns

abbrev pub performs_if : Setting → Option Instruction → Machine → Next
performs_if s None x = strays x
performs_if s (Some i) x = performs s i x

-- ---- one after another

abbrev pub step : Setting → Machine → Next
step s x = performs_if s (slice_get s.image.code x.frame.place) x

abbrev pub followed : (Machine → Option Yield) → Next → Option Yield
followed more (Goes x) = more x
followed more (Stops yield) = Some yield

-- what a machine comes to in so many steps, if it does
abbrev pub exec : ℕ → Setting → Machine → Option Yield
exec zero s x = None
exec (suc steps) s x = followed (exec steps s) (step s x)
