-- With each step the numbers stay small.
use Rattle.std.proofs.Common.{◌≡◌, ◌≤◌, ◌<◌, ℕ, ◌+◌, ◌-◌, ◌^◌, Bool, true, false, List, [], ◌∷◌, ◌++◌, length, map, drop, Option, Some, None, if◌then◌else◌, ℤ, pos, Result, Ok, Err, refl, subst, arith}
use Rattle.std.proofs.lemmas.List.{length-append}
use Rattle.std.proofs.lemmas.Bool.{ltb-true}
use Rattle.std.specs.Prelude.{nat_lt, slice_get}
use Rattle.mpl_ast.specs.declared.expression.UnaryOperator.{UnaryOperator}
use Rattle.mpl_ast.specs.declared.expression.UnaryOperator.TheVariants as unary
use Rattle.mpl_value.specs.Words.{index_below, object_word}
use Rattle.mpl_value.specs.CallAnswers.{any_unknown, arg_of_reply, leftmost_trap}
use Rattle.mpl_value.specs.declared.body.Arg.{Arg}
use Rattle.mpl_value.specs.declared.body.Arg.TheVariants as arg
use Rattle.mpl_value.specs.declared.body.BodyEnd.{BodyEnd}
use Rattle.mpl_value.specs.declared.body.CallMade.{CallMade}
use Rattle.mpl_value.specs.declared.body.BodyEnd.TheVariants as end
use Rattle.mpl_value.specs.declared.body.BodyResult.{BodyResult}
use Rattle.mpl_value.specs.declared.body.BodyResult.TheVariants as result
use Rattle.mpl_value.specs.declared.known.Trap.{Trap}
use Rattle.mpl_value.specs.declared.known.TrapKind.{TrapKind}
use Rattle.mpl_value.specs.declared.known.TrapKind.TheVariants.{Unbound}
use Rattle.std.specs.List.{slice_index_or}
use Rattle.std.specs.Ordering.{int_eq}
use Rattle.mpl_mean.specs.Meaning.Values.{Value, bool_value, first_word, int_value, is_true, word_of}
use Rattle.mpl_body_code.specs.Machine.{Body, Caller, Item, Machine, Next, OfPlain, OfRegular, OfValue, OfTrap, NotKnown, Setting, arg_of, ended, finished, held, item_of, put_held, returned, words_item, Goes, Stops}
use Rattle.mpl_body_code.specs.Steps as steps
use Rattle.mpl_body_code.specs.Steps.{answers, at_place, begins_plain, begins_regular, calls_object, calls_plain, calls_regular, computes, forced, gives, indexed, on_base, on_item, on_value, onward, operates, operates_alone, past, performs, performs_if, puts, spends, step, stops, takes_input, top_of, traps, with_call, with_slots}
use Rattle.mpl_body_run.specs.Small.{CallerIsSmall, CallersAreSmall, IsSmall, MachineIsSmall, PartsAreSmall}
use Rattle.mpl_body_code.specs.declared.instruction.Base.{Base}
use Rattle.mpl_body_code.specs.declared.instruction.Base.TheVariants as base
use Rattle.mpl_body_code.specs.declared.instruction.FunctionCode.{FunctionCode}
use Rattle.mpl_body_code.specs.declared.instruction.Instruction.{Instruction}
use Rattle.mpl_body_code.specs.declared.instruction.Instruction.TheVariants as instruction
use Rattle.mpl_body_code.specs.declared.instruction.MemberCode.{MemberCode}
use Rattle.mpl_body_code.specs.declared.instruction.Operator.{Operator}
use Rattle.mpl_body_code.specs.declared.instruction.Operator.TheVariants as operator

-- ---- numbers

more_small : {number creations calls turns : ℕ} → IsSmall number creations calls turns → IsSmall number creations calls (turns + 1)
more_small {number} {creations} {calls} {turns} h = record {
  number_small = h.number_small;
  creations_few = let a : creations ≤ turns = h.creations_few in omega arith;
  calls_few = let a : calls ≤ turns = h.calls_few in omega arith;
}

more_caller : (turns : ℕ) (caller : Caller) → CallerIsSmall turns caller → CallerIsSmall (turns + 1) caller
more_caller turns (OfPlain frame line is_bool) h = h
more_caller turns (OfRegular frame body) h = more_small h

more_callers : (turns : ℕ) (callers : List Caller) → CallersAreSmall turns callers → CallersAreSmall (turns + 1) callers
more_callers turns [] h = tt
more_callers turns (caller ∷ callers) h = (more_caller turns caller h.0, more_callers turns callers h.1)

one_more : {A : Type 0} (xs : List A) (x : A) (turns : ℕ) → length xs ≤ turns → length (xs ++ x ∷ []) ≤ turns + 1
one_more xs x turns h = let e = length-append xs (x ∷ []) in omega arith

module _ (S : Setting) where
  -- whatever comes next has small numbers
  abbrev Keeps : Next → Type 0
  Keeps (Goes x) = MachineIsSmall S.turns x
  Keeps (Stops yield) = Unit {0}

  abbrev Stands : Machine → Type 0
  Stands x = MachineIsSmall S.turns x

  -- of those who wait nothing more is known where the body ends
  ended_keeps : (callers : List Caller) (e : BodyEnd) (body : Body) (turns number : ℕ) → number < 2 ^ 31 → length body.creations ≤ turns → length body.calls ≤ turns → CallersAreSmall turns callers → turns ≤ S.turns → Keeps (ended callers e body turns)
  ended_keeps [] e body turns number n a b h w = tt
  ended_keeps (OfPlain frame line is_bool ∷ callers) e body turns number n a b h w = ended_keeps callers e body turns number n a b h.1 w
  ended_keeps (OfRegular frame outer ∷ callers) end.Done body turns number n a b h w = record { own = h.0; callers_small = h.1; within = w }
  ended_keeps (OfRegular frame outer ∷ callers) (end.Trap trap) body turns number n a b h w = record { own = h.0; callers_small = h.1; within = w }
  ended_keeps (OfRegular frame outer ∷ callers) end.Waits body turns number n a b h w = record { own = h.0; callers_small = h.1; within = w }
  ended_keeps (OfRegular frame outer ∷ callers) end.Spent body turns number n a b h w =
      ended_keeps callers end.Spent outer turns frame.number h.0.number_small h.0.creations_few h.0.calls_few h.1 w

  -- a body that is spent ends all
  spent_keeps : (callers : List Caller) (body : Body) (turns : ℕ) → Keeps (ended callers end.Spent body turns)
  spent_keeps [] body turns = tt
  spent_keeps (OfPlain frame line is_bool ∷ callers) body turns = spent_keeps callers body turns
  spent_keeps (OfRegular frame outer ∷ callers) body turns = spent_keeps callers outer turns

  finished_keeps : (callers : List Caller) (body : Body) (turns number : ℕ) → number < 2 ^ 31 → length body.creations ≤ turns → length body.calls ≤ turns → CallersAreSmall turns callers → turns ≤ S.turns → Keeps (finished callers body turns)
  finished_keeps [] body turns number n a b h w = tt
  finished_keeps (OfPlain frame line is_bool ∷ callers) body turns number n a b h w = ended_keeps callers _ body turns number n a b h.1 w
  finished_keeps (OfRegular frame outer ∷ callers) body turns number n a b h w = record { own = h.0; callers_small = h.1; within = w }

  returned_keeps : (words : List ℤ) (callers : List Caller) (body : Body) (turns number : ℕ) → number < 2 ^ 31 → length body.creations ≤ turns → length body.calls ≤ turns → CallersAreSmall turns callers → turns ≤ S.turns → Keeps (returned words callers body turns)
  returned_keeps words [] body turns number n a b h w = tt
  returned_keeps words (OfPlain frame line is_bool ∷ callers) body turns number n a b h w =
      record { own = record { number_small = h.0; creations_few = a; calls_few = b }; callers_small = h.1; within = w }
  returned_keeps words (OfRegular frame outer ∷ callers) body turns number n a b h w = finished_keeps (OfRegular frame outer ∷ callers) body turns number n a b h w

  returns_keep : (words : List ℤ) (x : Machine) → Stands x → Keeps (returned words x.callers x.body x.turns)
  returns_keep words x h = returned_keeps words x.callers x.body x.turns x.frame.number h.own.number_small h.own.creations_few h.own.calls_few h.callers_small h.within

  stops_keep : (e : BodyEnd) (x : Machine) → Stands x → Keeps (stops e x)
  stops_keep e x h = ended_keeps x.callers e x.body x.turns x.frame.number h.own.number_small h.own.creations_few h.own.calls_few h.callers_small h.within

  spent_stands : (x : Machine) → Stands x → x.turns < S.turns → Stands (record x { turns = x.turns + 1 })
  spent_stands x h less = record { own = more_small h.own; callers_small = more_callers x.turns x.callers h.callers_small; within = omega (arith, less) }

  spends_keep : (x : Machine) (next : Machine → Next) → Stands x → (x.turns < S.turns → Keeps (next (record x { turns = x.turns + 1 }))) → Keeps (spends S x next)
  spends_keep x next h f = by_turns (nat_lt x.turns S.turns) refl where
    by_turns : (b : Bool) → nat_lt x.turns S.turns ≡ b → Keeps (if b then next (record x { turns = x.turns + 1 }) else stops end.Spent (record x { turns = x.turns + 1 }))
    by_turns true is = f (ltb-true x.turns S.turns is)
    by_turns false is = spent_keeps x.callers x.body (x.turns + 1)

  -- ---- what lies on the stack

  value_keeps : (x : Machine) (stack : List Item) (next : Value → List Item → Next) → Stands x → ((v : Value) (below : List Item) → Keeps (next v below)) → Keeps (on_value x stack next)
  value_keeps x [] next h f = stops_keep end.Waits x h
  value_keeps x (OfValue v ∷ below) next h f = f v below
  value_keeps x (OfTrap trap ∷ below) next h f = stops_keep end.Waits x h
  value_keeps x (NotKnown ∷ below) next h f = stops_keep end.Waits x h

  item_keeps : (x : Machine) (stack : List Item) (next : Item → List Item → Next) → Stands x → ((item : Item) (below : List Item) → Keeps (next item below)) → Keeps (on_item x stack next)
  item_keeps x [] next h f = stops_keep end.Waits x h
  item_keeps x (item ∷ below) next h f = f item below

  forced_keeps : (x : Machine) (a : Arg) (next : List ℤ → Next) → Stands x → ((words : List ℤ) → Keeps (next words)) → Keeps (forced x a next)
  forced_keeps x (arg.Know words) next h f = f words
  forced_keeps x (arg.Trapped trap) next h f = stops_keep (end.Trap trap) x h
  forced_keeps x arg.Unknown next h f = stops_keep end.Waits x h

  base_keeps : (x : Machine) (b : Base) (next : List ℤ → Next) → Stands x → ((words : List ℤ) → Keeps (next words)) → Keeps (on_base x b next)
  base_keeps x (base.Slot number) next h f = forced_keeps x (held number x.frame.slots) next h f
  base_keeps x base.State next h f = f x.body.state

  puts_keep : (x : Machine) (b : Base) (offset : ℕ) (words : List ℤ) (below : List Item) → Stands x → Keeps (puts x b offset words below)
  puts_keep x (base.Slot number) offset words below h = forced_keeps x (held number x.frame.slots) _ h (λ old. h)
  puts_keep x base.State offset words below h = h

  indexed_keeps : (x : Machine) (line : ℕ) (found : Option ℕ) (next : ℕ → Next) → Stands x → ((n : ℕ) → Keeps (next n)) → Keeps (indexed x line found next)
  indexed_keeps x line None next h f = stops_keep _ x h
  indexed_keeps x line (Some n) next h f = f n

  computes_keeps : (x : Machine) (line : ℕ) (r : Result ℤ TrapKind) (below : List Item) → Stands x → Keeps (computes x line r below)
  computes_keeps x line (Ok z) below h = h
  computes_keeps x line (Err kind) below h = stops_keep _ x h

  operates_keeps : (x : Machine) (line : ℕ) (o : Operator) (a b : ℤ) (below : List Item) → Stands x → Keeps (operates x line o a b below)
  operates_keeps x line (operator.Equate o) a b below h = h
  operates_keeps x line (operator.Compare o) a b below h = h
  operates_keeps x line (operator.Add o) a b below h = computes_keeps x line _ below h
  operates_keeps x line (operator.Multiply o) a b below h = computes_keeps x line _ below h

  alone_keeps : (x : Machine) (line : ℕ) (o : UnaryOperator) (a : Value) (below : List Item) → Stands x → Keeps (operates_alone x line o a below)
  alone_keeps x line unary.Negative a below h = computes_keeps x line _ below h
  alone_keeps x line unary.Not a below h = h

  input_keeps : (x : Machine) (line : ℕ) (input : List ℤ) → Stands x → Keeps (takes_input x line input)
  input_keeps x line [] h = stops_keep _ x h
  input_keeps x line (z ∷ input) h = h

  -- ---- calls

  begun_stands : (x : Machine) → Stands x → x.turns < S.turns → IsSmall 0 0 0 (x.turns + 1)
  begun_stands x h less = record { number_small = omega arith; creations_few = omega arith; calls_few = omega arith }

  called_stands : (x : Machine) → Stands x → x.turns < S.turns → (call : CallMade) → PartsAreSmall S.turns x.frame.number (length x.body.creations) (length (x.body.calls ++ call ∷ [])) (x.turns + 1) x.callers
  called_stands x h less call = record {
    own = record { number_small = h.own.number_small; creations_few = (more_small h.own).creations_few; calls_few = one_more x.body.calls call x.turns h.own.calls_few };
    callers_small = more_callers x.turns x.callers h.callers_small;
    within = omega (arith, less);
  }

  plain_keeps : (x : Machine) (f : Option FunctionCode) (items below : List Item) → Stands x → Keeps (calls_plain S x f items below)
  plain_keeps x None items below h = stops_keep end.Waits x h
  plain_keeps x (Some f) items below h =
      spends_keep x (λ z. Goes (record z {
        frame = steps.begun f.entry (map arg_of items);
        callers = OfPlain (steps.waiting z below) f.line f.is_bool ∷ z.callers;
      })) h
      (λ less. record {
        own = record { number_small = omega arith; creations_few = (more_small h.own).creations_few; calls_few = (more_small h.own).calls_few };
        callers_small = (h.own.number_small, more_callers x.turns x.callers h.callers_small);
        within = omega (arith, less);
      })

  regular_keeps : (x : Machine) (m : MemberCode) (arguments : List Arg) (below : List Item) → Stands x → Keeps (begins_regular S x m arguments below)
  regular_keeps x m arguments below h =
      spends_keep x (λ z. Goes (record z {
        frame = steps.begun m.entry arguments;
        body = steps.body_begun m.finish;
        callers = OfRegular (steps.waiting z below) z.body ∷ z.callers;
      })) h
      (λ less. record { own = begun_stands x h less; callers_small = (more_small h.own, more_callers x.turns x.callers h.callers_small); within = omega (arith, less) })

  answers_keep : (x : Machine) (arguments : List Arg) (known : Next) (below : List Item) → Stands x → Keeps known → Keeps (answers x arguments known below)
  answers_keep x arguments known below h f = by_unknown (any_unknown arguments) (leftmost_trap arguments) where
    by_unknown : (b : Bool) (trap : Option Trap) → Keeps (if b then onward x (NotKnown ∷ below) else steps.unless_trapped x trap known below)
    by_unknown true trap = h
    by_unknown false None = f
    by_unknown false (Some trap) = h

  called_keeps : (x : Machine) (m : Option MemberCode) (arguments : List Arg) (below : List Item) → Stands x → Keeps (calls_regular S x m arguments below)
  called_keeps x None arguments below h = stops_keep end.Waits x h
  called_keeps x (Some m) arguments below h = spends_keep x (λ z. answers z arguments (begins_regular S z m arguments below) below) h (λ less.
      answers_keep (record x { turns = x.turns + 1 }) arguments _ below (spent_stands x h less) (regular_keeps (record x { turns = x.turns + 1 }) m arguments below (spent_stands x h less)))

  gives_keeps : (x : Machine) (line : ℕ) (value : Arg) (given : BodyResult) (below : List Item) → Stands x → Keeps (gives x line value given below)
  gives_keeps x line value result.Open below h = h
  gives_keeps x line value (result.Known known) below h = stops_keep _ x h
  gives_keeps x line value result.Unknown below h = stops_keep _ x h

  either_keeps : (b : Bool) (one other : Next) → Keeps one → Keeps other → Keeps (if b then one else other)
  either_keeps true one other f g = f
  either_keeps false one other f g = g

  -- ---- each instruction

  keeps : (i : Instruction) (x : Machine) → Stands x → Keeps (performs S i x)
  keeps (instruction.Number z) x h = h
  keeps (instruction.Truth b) x h = h
  keeps instruction.Own x h = h
  keeps instruction.Nothing x h = h
  keeps (instruction.Input line) x h = input_keeps x line x.body.input h
  keeps (instruction.Read spot) x h = base_keeps x spot.base _ h (λ words. h)
  keeps (instruction.Index line) x h =
      value_keeps x x.frame.stack
      (λ i below. on_value x below (λ a under. indexed x line (index_below (length a.words) (word_of i)) (λ n. onward x (words_item (slice_index_or a.words n (pos 0) ∷ []) a.is_bool ∷ under)))) h
      (λ i below. value_keeps x below (λ a under. indexed x line (index_below (length a.words) (word_of i)) (λ n. onward x (words_item (slice_index_or a.words n (pos 0) ∷ []) a.is_bool ∷ under))) h
      (λ a under. indexed_keeps x line (index_below (length a.words) (word_of i)) (λ n. onward x (words_item (slice_index_or a.words n (pos 0) ∷ []) a.is_bool ∷ under)) h (λ n. h)))
  keeps (instruction.CallPlain function count) x h = plain_keeps x _ _ _ h
  keeps (instruction.Unary line o) x h = value_keeps x _ _ h (λ a below. alone_keeps x line o a below h)
  keeps (instruction.Binary line o) x h =
      value_keeps x x.frame.stack (λ b below. on_value x below (λ a under. operates x line o (word_of a) (word_of b) under)) h
      (λ b below. value_keeps x below (λ a under. operates x line o (word_of a) (word_of b) under) h (λ a under. operates_keeps x line o (word_of a) (word_of b) under h))
  keeps (instruction.Or count) x h =
      value_keeps x x.frame.stack (λ a below. if is_true a then past count x (OfValue (bool_value true) ∷ below) else onward x below) h
      (λ a below. either_keeps (is_true a) (past count x (OfValue (bool_value true) ∷ below)) (onward x below) h (h))
  keeps (instruction.And count) x h =
      value_keeps x x.frame.stack (λ a below. if is_true a then onward x below else past count x (OfValue (bool_value false) ∷ below)) h
      (λ a below. either_keeps (is_true a) (onward x below) (past count x (OfValue (bool_value false) ∷ below)) (h) h)
  keeps instruction.Wait x h = stops_keep end.Waits x h
  keeps (instruction.Declare words) x h = h
  keeps instruction.Bind x h =
      item_keeps x x.frame.stack (λ item below. onward (with_slots x (arg_of item ∷ x.frame.slots)) below) h (λ item below. h)
  keeps (instruction.Pass number) x h = h
  keeps (instruction.CallRegular member count) x h = called_keeps x _ _ _ h
  keeps (instruction.Receiver line) x h =
      value_keeps x x.frame.stack
      (λ v below. if int_eq (first_word v.words) (pos 0) then traps Unbound line x else onward x (OfValue (int_value (first_word v.words)) ∷ below)) h
      (λ v below. either_keeps (int_eq (first_word v.words) (pos 0)) (traps Unbound line x) (onward x (OfValue (int_value (first_word v.words)) ∷ below))
      (stops_keep (end.Trap (record { kind = Unbound; line = line })) x h) (h))
  keeps (instruction.CallObject member count) x h =
      value_keeps x (drop count x.frame.stack) (λ object below. calls_object S x member (map arg_of (top_of count x.frame.stack)) (word_of object) below) h (λ object below.
      spends_keep x (λ z. steps.replies S (with_call z (word_of object) member (map arg_of (top_of count x.frame.stack))) (length z.body.calls + 1) (map arg_of (top_of count x.frame.stack)) below) h
      (λ less. answers_keep (with_call (record x { turns = x.turns + 1 }) (word_of object) member (map arg_of (top_of count x.frame.stack))) (map arg_of (top_of count x.frame.stack))
      (onward (with_call (record x { turns = x.turns + 1 }) (word_of object) member (map arg_of (top_of count x.frame.stack)))
      (item_of (arg_of_reply (steps.reply_to S (with_call (record x { turns = x.turns + 1 }) (word_of object) member (map arg_of (top_of count x.frame.stack))).body (length x.body.calls + 1))) ∷ below))
      below (called_stands x h less _) (called_stands x h less _)))
  keeps (instruction.Hold number) x h =
      item_keeps x x.frame.stack (λ item below. onward (with_slots x (put_held number (arg_of item) x.frame.slots)) below) h (λ item below. h)
  keeps instruction.Force x h =
      item_keeps x x.frame.stack (λ item below. forced x (arg_of item) (λ words. onward x (item ∷ below))) h
      (λ item below. forced_keeps x (arg_of item) (λ words. onward x (item ∷ below)) h (λ words. h))
  keeps (instruction.Put spot) x h = value_keeps x _ _ h (λ v below. puts_keep x spot.base spot.offset v.words below h)
  keeps (instruction.PutElement line spot) x h =
      value_keeps x x.frame.stack
      (λ i below. on_value x below (λ v under. indexed x line (index_below spot.words (word_of i)) (λ n. puts x spot.base (spot.offset + n) v.words under))) h
      (λ i below. value_keeps x below (λ v under. indexed x line (index_below spot.words (word_of i)) (λ n. puts x spot.base (spot.offset + n) v.words under)) h
      (λ v under. indexed_keeps x line (index_below spot.words (word_of i)) (λ n. puts x spot.base (spot.offset + n) v.words under) h
      (λ n. puts_keep x spot.base (spot.offset + n) v.words under h)))
  keeps (instruction.New class) x h = spends_keep x (λ z. onward (record z { body = record z.body { creations = z.body.creations ++ class ∷ [] } })
      (OfValue (int_value (object_word z.frame.number (length z.body.creations + 1))) ∷ x.frame.stack)) h
      (λ less. record {
        own = record { number_small = h.own.number_small; creations_few = one_more x.body.creations class x.turns h.own.creations_few; calls_few = (more_small h.own).calls_few };
        callers_small = more_callers x.turns x.callers h.callers_small;
        within = omega (arith, less);
      })
  keeps (instruction.ForceSpot spot) x h = base_keeps x spot.base _ h (λ words. h)
  keeps instruction.Drop x h = item_keeps x x.frame.stack (λ item below. onward x below) h (λ item below. h)
  keeps (instruction.Unless count) x h =
      value_keeps x x.frame.stack (λ v below. if is_true v then onward x below else past count x below) h
      (λ v below. either_keeps (is_true v) (onward x below) (past count x below) (h) h)
  keeps (instruction.Skip count) x h = h
  keeps (instruction.Leave count) x h = h
  keeps instruction.Turn x h = spends_keep x (λ z. onward z z.frame.stack) h (λ less. spent_stands x h less)
  keeps (instruction.Again count) x h = spends_keep x (λ z. at_place (z.frame.place - count) z z.frame.stack) h (λ less. spent_stands x h less)
  keeps (instruction.Print count) x h = h
  keeps (instruction.Give line) x h = item_keeps x _ _ h (λ item below. gives_keeps x line _ x.body.result below h)
  keeps instruction.Return x h = value_keeps x _ _ h (λ v below. returns_keep v.words x h)
  keeps instruction.ReturnNothing x h = returns_keep [] x h
  keeps instruction.End x h = finished_keeps x.callers x.body x.turns x.frame.number h.own.number_small h.own.creations_few h.own.calls_few h.callers_small h.within

  step_keeps : (x : Machine) → Stands x → Keeps (step S x)
  step_keeps x h = by_fetch (slice_get S.image.code x.frame.place) where
    by_fetch : (o : Option Instruction) → Keeps (performs_if S o x)
    by_fetch None = stops_keep end.Waits x h
    by_fetch (Some i) = keeps i x h

pub stays_small : (S : Setting) (x z : Machine) → MachineIsSmall S.turns x → step S x ≡ Goes z → MachineIsSmall S.turns z
stays_small S x z h is = subst (Keeps S) is (step_keeps S x h)
