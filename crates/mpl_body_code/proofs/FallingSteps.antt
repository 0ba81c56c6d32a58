-- With each step fewer are left.
use Rattle.std.proofs.Common.{◌≡◌, ◌≤◌, ◌<◌, ℕ, suc, ◌+◌, ◌-◌, ◌*◌, Bool, true, false, List, [], ◌∷◌, ◌++◌, length, map, drop, Option, Some, None, if◌then◌else◌, ℤ, pos, Result, Ok, Err, refl, subst, arith}
use Rattle.std.proofs.Math.Nat.{le-add_right, le_refl, mul-le-mul_right, suc-mul}
use Rattle.std.proofs.lemmas.Bool.{ltb-true}
use Rattle.std.proofs.lemmas.Option.{slice_get_within}
use Rattle.std.specs.Prelude.{nat_lt, slice_get}
use Rattle.mpl_ast.specs.declared.expression.UnaryOperator.{UnaryOperator}
use Rattle.mpl_ast.specs.declared.expression.UnaryOperator.TheVariants as unary
use Rattle.mpl_value.specs.Words.{index_below, object_word}
use Rattle.mpl_value.specs.CallAnswers.{any_unknown, arg_of_reply, leftmost_trap}
use Rattle.mpl_value.specs.declared.body.Arg.{Arg}
use Rattle.mpl_value.specs.declared.body.Arg.TheVariants as arg
use Rattle.mpl_value.specs.declared.body.BodyEnd.{BodyEnd}
use Rattle.mpl_value.specs.declared.body.BodyEnd.TheVariants as end
use Rattle.mpl_value.specs.declared.body.BodyResult.{BodyResult}
use Rattle.mpl_value.specs.declared.body.BodyResult.TheVariants as result
use Rattle.mpl_value.specs.declared.known.Trap.{Trap}
use Rattle.mpl_value.specs.declared.known.TrapKind.{TrapKind}
use Rattle.mpl_value.specs.declared.known.TrapKind.TheVariants.{Unbound}
use Rattle.std.specs.List.{slice_index_or}
use Rattle.std.specs.Ordering.{int_eq}
use Rattle.mpl_mean.specs.Meaning.Values.{Value, bool_value, first_word, int_value, is_true, word_of}
use Rattle.mpl_body_code.specs.Machine.{Body, Caller, Item, Machine, Next, OfPlain, OfRegular, OfValue, OfTrap, NotKnown, Setting, arg_of, ended, finished, held, item_of, put_held, returned, words_item, Goes, Stops}
use Rattle.mpl_body_code.specs.Steps as steps
use Rattle.mpl_body_code.specs.Steps.{answers, at_place, begins_plain, begins_regular, calls_object, calls_plain, calls_regular, computes, forced, gives, indexed, on_base, on_item, on_value, onward, operates, operates_alone, past, performs, performs_if, puts, spends, step, stops, takes_input, top_of, traps, with_call, with_slots}
use Rattle.mpl_body_code.specs.StepsLeft.{steps_left}
use Rattle.mpl_body_code.specs.declared.instruction.Base.{Base}
use Rattle.mpl_body_code.specs.declared.instruction.Base.TheVariants as base
use Rattle.mpl_body_code.specs.declared.instruction.FunctionCode.{FunctionCode}
use Rattle.mpl_body_code.specs.declared.instruction.Instruction.{Instruction}
use Rattle.mpl_body_code.specs.declared.instruction.Instruction.TheVariants as instruction
use Rattle.mpl_body_code.specs.declared.instruction.MemberCode.{MemberCode}
use Rattle.mpl_body_code.specs.declared.instruction.Operator.{Operator}
use Rattle.mpl_body_code.specs.declared.instruction.Operator.TheVariants as operator

-- ---- numbers

product_rises : (a b m : ℕ) → a < b → a * m + m ≤ b * m
product_rises a b m h =
    let less : suc a ≤ b = omega arith in
    let raised : suc a * m ≤ b * m = mul-le-mul_right m less in
    subst (λ (k : ℕ). k ≤ b * m) (suc-mul a m) raised

product_keeps : (a b m : ℕ) → a ≤ b → a * m ≤ b * m
product_keeps a b m h = mul-le-mul_right m h

module _ (S : Setting) where
  abbrev long : ℕ
  long = length S.image.code

  -- how often the place may still begin anew
  abbrev rounds : ℕ → List Caller → ℕ
  rounds turns callers = 2 * (S.turns - turns) + length callers

  -- whatever comes next has fewer steps left than so many
  abbrev Falls : ℕ → Next → Type 0
  Falls most (Goes x) = steps_left S x < most
  Falls most (Stops yield) = Unit {0}

  -- so many are left at least, from a place within the code
  record Room (place turns : ℕ) (callers : List Caller) (most : ℕ) : Type 0 where
    within : place < long
    least : rounds turns callers * (long + 2) + (long + 1 - place) ≤ most

  abbrev Stands : Machine → ℕ → Type 0
  Stands x most = Room x.frame.place x.turns x.callers most

  onward_falls : {place turns most : ℕ} {callers : List Caller} → Room place turns callers most → rounds turns callers * (long + 2) + (long + 1 - (place + 1)) < most
  onward_falls {place} {turns} {most} {callers} h =
      let a : place < long = h.within in
      let b : rounds turns callers * (long + 2) + (long + 1 - place) ≤ most = h.least in
      omega arith

  past_falls : {place turns most : ℕ} {callers : List Caller} (count : ℕ) → Room place turns callers most → rounds turns callers * (long + 2) + (long + 1 - (place + 1 + count)) < most
  past_falls {place} {turns} {most} {callers} count h =
      let a : place < long = h.within in
      let b : rounds turns callers * (long + 2) + (long + 1 - place) ≤ most = h.least in
      omega arith

  -- fewer rounds are left
  anew_falls : (place turns : ℕ) (callers : List Caller) (most before : ℕ) → rounds turns callers < before → before * (long + 2) ≤ most → rounds turns callers * (long + 2) + (long + 1 - place) < most
  anew_falls place turns callers most before h least =
      let a = product_rises (rounds turns callers) before (long + 2) h in
      omega arith

  ended_falls : (callers : List Caller) (e : BodyEnd) (body : Body) (turns most : ℕ) → rounds turns callers * (long + 2) ≤ most → Falls most (ended callers e body turns)
  ended_falls [] e body turns most h = tt
  ended_falls (OfPlain frame line is_bool ∷ callers) e body turns most h =
      ended_falls callers e body turns most
      (let a = product_keeps (rounds turns callers) (rounds turns (OfPlain frame line is_bool ∷ callers)) (long + 2) (omega arith) in omega arith)
  ended_falls (OfRegular frame outer ∷ callers) end.Done body turns most h = anew_falls frame.place turns callers most (rounds turns (OfRegular frame outer ∷ callers)) (omega arith) h
  ended_falls (OfRegular frame outer ∷ callers) (end.Trap trap) body turns most h = anew_falls frame.place turns callers most (rounds turns (OfRegular frame outer ∷ callers)) (omega arith) h
  ended_falls (OfRegular frame outer ∷ callers) end.Waits body turns most h = anew_falls frame.place turns callers most (rounds turns (OfRegular frame outer ∷ callers)) (omega arith) h
  ended_falls (OfRegular frame outer ∷ callers) end.Spent body turns most h =
      ended_falls callers end.Spent outer turns most
      (let a = product_keeps (rounds turns callers) (rounds turns (OfRegular frame outer ∷ callers)) (long + 2) (omega arith) in omega arith)

  finished_falls : (callers : List Caller) (body : Body) (turns most : ℕ) → rounds turns callers * (long + 2) ≤ most → Falls most (finished callers body turns)
  finished_falls [] body turns most h = tt
  finished_falls (OfPlain frame line is_bool ∷ callers) body turns most h =
      ended_falls callers _ body turns most
      (let a = product_keeps (rounds turns callers) (rounds turns (OfPlain frame line is_bool ∷ callers)) (long + 2) (omega arith) in omega arith)
  finished_falls (OfRegular frame outer ∷ callers) body turns most h = anew_falls frame.place turns callers most (rounds turns (OfRegular frame outer ∷ callers)) (omega arith) h

  returned_falls : (words : List ℤ) (callers : List Caller) (body : Body) (turns most : ℕ) → rounds turns callers * (long + 2) ≤ most → Falls most (returned words callers body turns)
  returned_falls words [] body turns most h = tt
  returned_falls words (OfPlain frame line is_bool ∷ callers) body turns most h = anew_falls frame.place turns callers most (rounds turns (OfPlain frame line is_bool ∷ callers)) (omega arith) h
  returned_falls words (OfRegular frame outer ∷ callers) body turns most h = finished_falls (OfRegular frame outer ∷ callers) body turns most h

  all_rounds : (x : Machine) (most : ℕ) → Stands x most → rounds x.turns x.callers * (long + 2) ≤ most
  all_rounds x most h =
      let b : rounds x.turns x.callers * (long + 2) + (long + 1 - x.frame.place) ≤ most = h.least in
      omega arith

  stops_fall : (e : BodyEnd) (x : Machine) (most : ℕ) → Stands x most → Falls most (stops e x)
  stops_fall e x most h = ended_falls x.callers e x.body x.turns most (all_rounds x most h)

  spent_stands : (x : Machine) (most : ℕ) → Stands x most → Stands (record x { turns = x.turns + 1 }) most
  spent_stands x most h = record {
    within = h.within;
    least =
        let b : rounds x.turns x.callers * (long + 2) + (long + 1 - x.frame.place) ≤ most = h.least in
        let a = product_keeps (rounds (x.turns + 1) x.callers) (rounds x.turns x.callers) (long + 2) (omega arith) in
        omega arith;
  }

  spends_fall : (x : Machine) (most : ℕ) (next : Machine → Next) → Stands x most → (x.turns < S.turns → Falls most (next (record x { turns = x.turns + 1 }))) → Falls most (spends S x next)
  spends_fall x most next h f = by_turns (nat_lt x.turns S.turns) refl where
    by_turns : (b : Bool) → nat_lt x.turns S.turns ≡ b → Falls most (if b then next (record x { turns = x.turns + 1 }) else stops end.Spent (record x { turns = x.turns + 1 }))
    by_turns true is = f (ltb-true x.turns S.turns is)
    by_turns false is = stops_fall end.Spent (record x { turns = x.turns + 1 }) most (spent_stands x most h)

  -- ---- what lies on the stack

  value_falls : (x : Machine) (most : ℕ) (stack : List Item) (next : Value → List Item → Next) → Stands x most → ((v : Value) (below : List Item) → Falls most (next v below)) → Falls most (on_value x stack next)
  value_falls x most [] next h f = stops_fall end.Waits x most h
  value_falls x most (OfValue v ∷ below) next h f = f v below
  value_falls x most (OfTrap trap ∷ below) next h f = stops_fall end.Waits x most h
  value_falls x most (NotKnown ∷ below) next h f = stops_fall end.Waits x most h

  item_falls : (x : Machine) (most : ℕ) (stack : List Item) (next : Item → List Item → Next) → Stands x most → ((item : Item) (below : List Item) → Falls most (next item below)) → Falls most (on_item x stack next)
  item_falls x most [] next h f = stops_fall end.Waits x most h
  item_falls x most (item ∷ below) next h f = f item below

  forced_falls : (x : Machine) (most : ℕ) (a : Arg) (next : List ℤ → Next) → Stands x most → ((words : List ℤ) → Falls most (next words)) → Falls most (forced x a next)
  forced_falls x most (arg.Know words) next h f = f words
  forced_falls x most (arg.Trapped trap) next h f = stops_fall (end.Trap trap) x most h
  forced_falls x most arg.Unknown next h f = stops_fall end.Waits x most h

  base_falls : (x : Machine) (most : ℕ) (b : Base) (next : List ℤ → Next) → Stands x most → ((words : List ℤ) → Falls most (next words)) → Falls most (on_base x b next)
  base_falls x most (base.Slot number) next h f = forced_falls x most (held number x.frame.slots) next h f
  base_falls x most base.State next h f = f x.body.state

  puts_fall : (x : Machine) (most : ℕ) (b : Base) (offset : ℕ) (words : List ℤ) (below : List Item) → Stands x most → Falls most (puts x b offset words below)
  puts_fall x most (base.Slot number) offset words below h = forced_falls x most (held number x.frame.slots) _ h (λ old. onward_falls h)
  puts_fall x most base.State offset words below h = onward_falls h

  indexed_falls : (x : Machine) (most line : ℕ) (found : Option ℕ) (next : ℕ → Next) → Stands x most → ((n : ℕ) → Falls most (next n)) → Falls most (indexed x line found next)
  indexed_falls x most line None next h f = stops_fall _ x most h
  indexed_falls x most line (Some n) next h f = f n

  computes_falls : (x : Machine) (most line : ℕ) (r : Result ℤ TrapKind) (below : List Item) → Stands x most → Falls most (computes x line r below)
  computes_falls x most line (Ok z) below h = onward_falls h
  computes_falls x most line (Err kind) below h = stops_fall _ x most h

  operates_falls : (x : Machine) (most line : ℕ) (o : Operator) (a b : ℤ) (below : List Item) → Stands x most → Falls most (operates x line o a b below)
  operates_falls x most line (operator.Equate o) a b below h = onward_falls h
  operates_falls x most line (operator.Compare o) a b below h = onward_falls h
  operates_falls x most line (operator.Add o) a b below h = computes_falls x most line _ below h
  operates_falls x most line (operator.Multiply o) a b below h = computes_falls x most line _ below h

  alone_falls : (x : Machine) (most line : ℕ) (o : UnaryOperator) (a : Value) (below : List Item) → Stands x most → Falls most (operates_alone x line o a below)
  alone_falls x most line unary.Negative a below h = computes_falls x most line _ below h
  alone_falls x most line unary.Not a below h = onward_falls h

  input_falls : (x : Machine) (most line : ℕ) (input : List ℤ) → Stands x most → Falls most (takes_input x line input)
  input_falls x most line [] h = stops_fall _ x most h
  input_falls x most line (z ∷ input) h = onward_falls h

  -- ---- calls

  begins_falls : (x : Machine) (most place : ℕ) (caller : Caller) → Stands x most → x.turns < S.turns
      → rounds (x.turns + 1) (caller ∷ x.callers) * (long + 2) + (long + 1 - place) < most
  begins_falls x most place caller h less = anew_falls place (x.turns + 1) (caller ∷ x.callers) most (rounds x.turns x.callers) (omega arith) (all_rounds x most h)

  plain_falls : (x : Machine) (most : ℕ) (f : Option FunctionCode) (items below : List Item) → Stands x most → Falls most (calls_plain S x f items below)
  plain_falls x most None items below h = stops_fall end.Waits x most h
  plain_falls x most (Some f) items below h =
      spends_fall x most (λ z. Goes (record z {
        frame = steps.begun f.entry (map arg_of items);
        callers = OfPlain (steps.waiting z below) f.line f.is_bool ∷ z.callers;
      })) h
      (λ less. begins_falls x most f.entry (OfPlain (steps.waiting x below) f.line f.is_bool) h less)

  regular_falls : (x : Machine) (most : ℕ) (m : MemberCode) (arguments : List Arg) (below : List Item) → Stands x most → Falls most (begins_regular S x m arguments below)
  regular_falls x most m arguments below h =
      spends_fall x most (λ z. Goes (record z {
        frame = steps.begun m.entry arguments;
        body = steps.body_begun m.finish;
        callers = OfRegular (steps.waiting z below) z.body ∷ z.callers;
      })) h
      (λ less. begins_falls x most m.entry (OfRegular (steps.waiting x below) x.body) h less)

  answers_fall : (x : Machine) (most : ℕ) (arguments : List Arg) (known : Next) (below : List Item) → Stands x most → Falls most known → Falls most (answers x arguments known below)
  answers_fall x most arguments known below h f = by_unknown (any_unknown arguments) (leftmost_trap arguments) where
    by_unknown : (b : Bool) (trap : Option Trap) → Falls most (if b then onward x (NotKnown ∷ below) else steps.unless_trapped x trap known below)
    by_unknown true trap = onward_falls h
    by_unknown false None = f
    by_unknown false (Some trap) = onward_falls h

  called_falls : (x : Machine) (most : ℕ) (m : Option MemberCode) (arguments : List Arg) (below : List Item) → Stands x most → Falls most (calls_regular S x m arguments below)
  called_falls x most None arguments below h = stops_fall end.Waits x most h
  called_falls x most (Some m) arguments below h = spends_fall x most (λ z. answers z arguments (begins_regular S z m arguments below) below) h (λ less.
      answers_fall (record x { turns = x.turns + 1 }) most arguments _ below (spent_stands x most h) (regular_falls (record x { turns = x.turns + 1 }) most m arguments below (spent_stands x most h)))

  gives_falls : (x : Machine) (most line : ℕ) (value : Arg) (given : BodyResult) (below : List Item) → Stands x most → Falls most (gives x line value given below)
  gives_falls x most line value result.Open below h = onward_falls h
  gives_falls x most line value (result.Known known) below h = stops_fall _ x most h
  gives_falls x most line value result.Unknown below h = stops_fall _ x most h

  either_falls : (most : ℕ) (b : Bool) (one other : Next) → Falls most one → Falls most other → Falls most (if b then one else other)
  either_falls most true one other f g = f
  either_falls most false one other f g = g

  -- ---- each instruction

  falls : (i : Instruction) (x : Machine) (most : ℕ) → Stands x most → Falls most (performs S i x)
  falls (instruction.Number z) x most h = onward_falls h
  falls (instruction.Truth b) x most h = onward_falls h
  falls instruction.Own x most h = onward_falls h
  falls instruction.Nothing x most h = onward_falls h
  falls (instruction.Input line) x most h = input_falls x most line x.body.input h
  falls (instruction.Read spot) x most h = base_falls x most spot.base _ h (λ words. onward_falls h)
  falls (instruction.Index line) x most h =
      value_falls x most x.frame.stack
      (λ i below. on_value x below (λ a under. indexed x line (index_below (length a.words) (word_of i)) (λ n. onward x (words_item (slice_index_or a.words n (pos 0) ∷ []) a.is_bool ∷ under)))) h
      (λ i below. value_falls x most below (λ a under. indexed x line (index_below (length a.words) (word_of i)) (λ n. onward x (words_item (slice_index_or a.words n (pos 0) ∷ []) a.is_bool ∷ under))) h
      (λ a under. indexed_falls x most line (index_below (length a.words) (word_of i)) (λ n. onward x (words_item (slice_index_or a.words n (pos 0) ∷ []) a.is_bool ∷ under)) h (λ n. onward_falls h)))
  falls (instruction.CallPlain function count) x most h = plain_falls x most _ _ _ h
  falls (instruction.Unary line o) x most h = value_falls x most _ _ h (λ a below. alone_falls x most line o a below h)
  falls (instruction.Binary line o) x most h =
      value_falls x most x.frame.stack (λ b below. on_value x below (λ a under. operates x line o (word_of a) (word_of b) under)) h
      (λ b below. value_falls x most below (λ a under. operates x line o (word_of a) (word_of b) under) h (λ a under. operates_falls x most line o (word_of a) (word_of b) under h))
  falls (instruction.Or count) x most h =
      value_falls x most x.frame.stack (λ a below. if is_true a then past count x (OfValue (bool_value true) ∷ below) else onward x below) h
      (λ a below. either_falls most (is_true a) (past count x (OfValue (bool_value true) ∷ below)) (onward x below) (past_falls count h) (onward_falls h))
  falls (instruction.And count) x most h =
      value_falls x most x.frame.stack (λ a below. if is_true a then onward x below else past count x (OfValue (bool_value false) ∷ below)) h
      (λ a below. either_falls most (is_true a) (onward x below) (past count x (OfValue (bool_value false) ∷ below)) (onward_falls h) (past_falls count h))
  falls instruction.Wait x most h = stops_fall end.Waits x most h
  falls (instruction.Declare words) x most h = onward_falls h
  falls instruction.Bind x most h =
      item_falls x most x.frame.stack (λ item below. onward (with_slots x (arg_of item ∷ x.frame.slots)) below) h (λ item below. onward_falls h)
  falls (instruction.Pass number) x most h = onward_falls h
  falls (instruction.CallRegular member count) x most h = called_falls x most _ _ _ h
  falls (instruction.Receiver line) x most h =
      value_falls x most x.frame.stack
      (λ v below. if int_eq (first_word v.words) (pos 0) then traps Unbound line x else onward x (OfValue (int_value (first_word v.words)) ∷ below)) h
      (λ v below. either_falls most (int_eq (first_word v.words) (pos 0)) (traps Unbound line x) (onward x (OfValue (int_value (first_word v.words)) ∷ below))
      (stops_fall (end.Trap (record { kind = Unbound; line = line })) x most h) (onward_falls h))
  falls (instruction.CallObject member count) x most h =
      value_falls x most (drop count x.frame.stack) (λ object below. calls_object S x member (map arg_of (top_of count x.frame.stack)) (word_of object) below) h (λ object below.
      spends_fall x most (λ z. steps.replies S (with_call z (word_of object) member (map arg_of (top_of count x.frame.stack))) (length z.body.calls + 1) (map arg_of (top_of count x.frame.stack)) below) h
      (λ less. answers_fall (with_call (record x { turns = x.turns + 1 }) (word_of object) member (map arg_of (top_of count x.frame.stack))) most (map arg_of (top_of count x.frame.stack))
      (onward (with_call (record x { turns = x.turns + 1 }) (word_of object) member (map arg_of (top_of count x.frame.stack)))
      (item_of (arg_of_reply (steps.reply_to S (with_call (record x { turns = x.turns + 1 }) (word_of object) member (map arg_of (top_of count x.frame.stack))).body (length x.body.calls + 1))) ∷ below))
      below (spent_stands x most h) (onward_falls (spent_stands x most h))))
  falls (instruction.Hold number) x most h =
      item_falls x most x.frame.stack (λ item below. onward (with_slots x (put_held number (arg_of item) x.frame.slots)) below) h (λ item below. onward_falls h)
  falls instruction.Force x most h =
      item_falls x most x.frame.stack (λ item below. forced x (arg_of item) (λ words. onward x (item ∷ below))) h
      (λ item below. forced_falls x most (arg_of item) (λ words. onward x (item ∷ below)) h (λ words. onward_falls h))
  falls (instruction.Put spot) x most h = value_falls x most _ _ h (λ v below. puts_fall x most spot.base spot.offset v.words below h)
  falls (instruction.PutElement line spot) x most h =
      value_falls x most x.frame.stack
      (λ i below. on_value x below (λ v under. indexed x line (index_below spot.words (word_of i)) (λ n. puts x spot.base (spot.offset + n) v.words under))) h
      (λ i below. value_falls x most below (λ v under. indexed x line (index_below spot.words (word_of i)) (λ n. puts x spot.base (spot.offset + n) v.words under)) h
      (λ v under. indexed_falls x most line (index_below spot.words (word_of i)) (λ n. puts x spot.base (spot.offset + n) v.words under) h
      (λ n. puts_fall x most spot.base (spot.offset + n) v.words under h)))
  falls (instruction.New class) x most h = spends_fall x most (λ z. onward (record z { body = record z.body { creations = z.body.creations ++ class ∷ [] } })
      (OfValue (int_value (object_word z.frame.number (length z.body.creations + 1))) ∷ x.frame.stack)) h (λ less. onward_falls (spent_stands x most h))
  falls (instruction.ForceSpot spot) x most h = base_falls x most spot.base _ h (λ words. onward_falls h)
  falls instruction.Drop x most h = item_falls x most x.frame.stack (λ item below. onward x below) h (λ item below. onward_falls h)
  falls (instruction.Unless count) x most h =
      value_falls x most x.frame.stack (λ v below. if is_true v then onward x below else past count x below) h
      (λ v below. either_falls most (is_true v) (onward x below) (past count x below) (onward_falls h) (past_falls count h))
  falls (instruction.Skip count) x most h = past_falls count h
  falls (instruction.Leave count) x most h = onward_falls h
  falls instruction.Turn x most h = spends_fall x most (λ z. onward z z.frame.stack) h (λ less. onward_falls (spent_stands x most h))
  falls (instruction.Again count) x most h = spends_fall x most (λ z. at_place (z.frame.place - count) z z.frame.stack) h (λ less. anew_falls (x.frame.place - count) (x.turns + 1) x.callers most (rounds x.turns x.callers) (omega arith) (all_rounds x most h))
  falls (instruction.Print count) x most h = onward_falls h
  falls (instruction.Give line) x most h = item_falls x most _ _ h (λ item below. gives_falls x most line _ x.body.result below h)
  falls instruction.Return x most h = value_falls x most _ _ h (λ v below. returned_falls v.words x.callers x.body x.turns most (all_rounds x most h))
  falls instruction.ReturnNothing x most h = returned_falls [] x.callers x.body x.turns most (all_rounds x most h)
  falls instruction.End x most h = finished_falls x.callers x.body x.turns most (all_rounds x most h)

  step_falls : (x : Machine) → Falls (steps_left S x) (step S x)
  step_falls x = by_fetch (slice_get S.image.code x.frame.place) refl where
    by_fetch : (o : Option Instruction) → slice_get S.image.code x.frame.place ≡ o → Falls (steps_left S x) (performs_if S o x)
    by_fetch None is = ended_falls x.callers end.Waits x.body x.turns (steps_left S x) (le-add_right (rounds x.turns x.callers * (long + 2)) (long + 1 - x.frame.place))
    by_fetch (Some i) is = falls i x (steps_left S x) (record { within = slice_get_within S.image.code x.frame.place i is; least = le_refl (steps_left S x) })

pub steps_fall : (S : Setting) (x z : Machine) → step S x ≡ Goes z → steps_left S z < steps_left S x
steps_fall S x z is = subst (Falls S (steps_left S x)) is (step_falls S x)
