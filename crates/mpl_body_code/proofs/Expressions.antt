-- The code of each form of expression does what the form means, where that of its parts does.
use Rattle.std.proofs.Common.{◌≡◌, ◌≤◌, ℕ, suc, ◌+◌, Bool, true, false, not, List, [], ◌∷◌, ◌++◌, length, map, drop, Option, Some, None, if◌then◌else◌, ℤ, pos, Result, Ok, Err, refl, ap, sym, subst, ◌∙◌}
use Rattle.std.specs.Prelude.{slice_get}
use Rattle.std.proofs.lemmas.List.{length-map}
use Rattle.std.specs.List.{slice_index_or}
use Rattle.std.specs.Option.{option_map}
use Rattle.mpl_ast.specs.declared.expression.Target.{Target}
use Rattle.mpl_ast.specs.declared.expression.UnaryOperator.{UnaryOperator}
use Rattle.mpl_ast.specs.declared.expression.UnaryOperator.TheVariants as unary
use Rattle.mpl_ast.specs.declared.place.Name.{Name}
use Rattle.mpl_ast.specs.declared.program.Declaration.{Declaration}
use Rattle.mpl_value.specs.Arithmetic.{negation}
use Rattle.mpl_value.specs.Words.{index_below}
use Rattle.mpl_value.specs.declared.body.Arg.{Arg}
use Rattle.mpl_value.specs.declared.body.Arg.TheVariants as arg
use Rattle.mpl_value.specs.declared.known.TrapKind.{TrapKind}
use Rattle.mpl_mean.specs.Levels as levels
use Rattle.mpl_mean.specs.Levels.{BinaryOperator}
use Rattle.mpl_mean.specs.Meaning.Context.{Callees, Context}
use Rattle.mpl_mean.specs.Meaning.ExpressionMeaning.{Evaluates, call_plain, called, element_of, equality_test, next_number, next_of, relation_test, sum_operation, term_operation, unary_operation, value_of_binary, value_of_unary}
use Rattle.mpl_mean.specs.Meaning.Layout.{Function, Member, Part, function_named}
use Rattle.mpl_mean.specs.Meaning.PlaceMeaning.{base_of, read, tested_index, words_of_location}
use Rattle.mpl_mean.specs.Meaning.Store.{Store, Step, ◌>>=◌, all_of, computed, force, pure}
use Rattle.mpl_mean.specs.Meaning.Values.{Value, bool_value, int_value, is_true, word_of}
use Rattle.mpl_plain.specs.Arity.{FunctionTakes}
use Rattle.mpl_body_code.specs.Codes.{Code, From, binary_code, number_of_function, plain_code, read_code}
use Rattle.mpl_body_code.specs.Images.{HasCode}
use Rattle.mpl_body_code.specs.Machine.{Item, Next, OfValue, held}
use Rattle.mpl_mean.specs.Plain.Scopes.{Env, Found, Shape, Slot, found_at}
use Rattle.mpl_body_code.specs.Scopes.{base_of_slot, spot_of}
use Rattle.mpl_body_code.specs.Steps.{begins_plain, calls_plain, computes, forced, indexed, on_base, onward, operates_alone, past, performs, takes_input, top_of}
use Rattle.mpl_body_code.specs.declared.instruction.Instruction.{Instruction}
use Rattle.mpl_body_code.specs.declared.instruction.Instruction.TheVariants as instruction
use Rattle.mpl_body_code.specs.declared.instruction.Operator.TheVariants as operator
use Rattle.mpl_body_code.proofs.Arguments.{below_pushed, known_length, pushed, top_pushed, values_passed}
use Rattle.mpl_body_code.proofs.Below.{Below, no_number}
use Rattle.mpl_body_code.proofs.Reaching.{Comes, Leads, Reaches, Run, from_length, from_parts, goes_on, performing, running}
use Rattle.mpl_body_code.proofs.Scoped.{Stands, context_of, located, location_at, variable_at}

module _ (K : Run) (scope : List Shape) (slots : List Arg) where
  abbrev pub At : ℕ → List Item → Store → Type 0
  At place stack s = Reaches K.setting K.yield (running K place stack slots s)

  abbrev pub To : Next → Type 0
  To = Leads K.setting K.yield

  -- the value is on top at a place
  abbrev pub ValueAt : ℕ → List Item → Value → Store → Type 0
  ValueAt place stack v s = Stands K scope slots s → At place (OfValue v ∷ stack) s

  abbrev CodeFrom : ℕ → Code → ℕ → Type 0
  CodeFrom = From K.setting.image.code

  -- ---- steps

  pub moved : {p q : ℕ} (stack : List Item) (s : Store) → p ≡ q → At q stack s → At p stack s
  moved stack s e = subst (λ n. At n stack s) (sym e)

  pub forced_follows : {B : Type 0} (Q : B → Store → Type 0) (p : ℕ) (stack : List Item) (s : Store) (a : Arg) (h : List ℤ → Step B) (next : List ℤ → Next) → Stands K scope slots s
      → ((words : List ℤ) → Comes K Q (h words s) → To (next words)) → Comes K Q ((force a >>= h) s) → To (forced (running K p stack slots s) a next)
  forced_follows Q p stack s (arg.Know words) h next stands f c = f words c
  forced_follows Q p stack s (arg.Trapped trap) h next stands f c = c stands.low (λ _. stands.within)
  forced_follows Q p stack s arg.Unknown h next stands f c = c stands.low (λ _. stands.within)

  pub base_follows : {B : Type 0} (Q : B → Store → Type 0) (p : ℕ) (stack : List Item) (s : Store) (slot : Option Slot) (h : List ℤ → Step B) (next : List ℤ → Next) → Stands K scope slots s
      → ((words : List ℤ) → Comes K Q (h words s) → To (next words)) → Comes K Q ((base_of (option_map (variable_at slots) slot) >>= h) s)
      → To (on_base (running K p stack slots s) (base_of_slot slot) next)
  base_follows Q p stack s None h next stands f c = f s.state c
  base_follows Q p stack s (Some slot) h next stands f c = forced_follows Q p stack s (held slot.number slots) h next stands f c

  pub indexed_follows : {B : Type 0} (Q : B → Store → Type 0) (p : ℕ) (stack : List Item) (s : Store) (line : ℕ) (found : Option ℕ) (h : ℕ → Step B) (next : ℕ → Next) → Stands K scope slots s
      → ((n : ℕ) → Comes K Q (h n s) → To (next n)) → Comes K Q ((tested_index line found >>= h) s) → To (indexed (running K p stack slots s) line found next)
  indexed_follows Q p stack s line None h next stands f c = c stands.low (λ _. stands.within)
  indexed_follows Q p stack s line (Some n) h next stands f c = f n c

  computes_follows : (p q : ℕ) (stack below : List Item) (s : Store) (line : ℕ) (r : Result ℤ TrapKind) → p + 1 ≡ q → Stands K scope slots s
      → Comes K (ValueAt q below) ((computed line r >>= (λ z. pure (int_value z))) s) → To (computes (running K p stack slots s) line r below)
  computes_follows p q stack below s line (Ok z) e stands c = moved (OfValue (int_value z) ∷ below) s e (c stands)
  computes_follows p q stack below s line (Err kind) e stands c = c stands.low (λ _. stands.within)

  input_follows : (p q : ℕ) (stack : List Item) (s : Store) (line : ℕ) (input : List ℤ) → p + 1 ≡ q → Stands K scope slots s
      → Comes K (ValueAt q stack) (next_of line input s) → To (takes_input (running K p stack slots s) line input)
  input_follows p q stack s line [] e stands c = c stands.low (λ _. stands.within)
  input_follows p q stack s line (z ∷ input) e stands c =
      moved (OfValue (int_value z) ∷ stack) (record s { input = input }) e
      (c (record { agree = stands.agree; sized = stands.sized; low = stands.low; within = stands.within }))

  alone_follows : (p q : ℕ) (stack below : List Item) (s : Store) (line : ℕ) (o : UnaryOperator) (a : Value) → p + 1 ≡ q → Stands K scope slots s
      → Comes K (ValueAt q below) (unary_operation line o a s) → To (operates_alone (running K p stack slots s) line o a below)
  alone_follows p q stack below s line unary.Negative a e stands c = computes_follows p q stack below s line (negation (word_of a)) e stands c
  alone_follows p q stack below s line unary.Not a e stands c = moved (OfValue (bool_value (not (is_true a))) ∷ below) s e (c stands)

  pub read_follows : (p q : ℕ) (stack : List Item) (s : Store) (found : Option Found) → CodeFrom p (read_code found) q → Stands K scope slots s
      → Comes K (ValueAt q stack) (words_of_location (option_map (location_at slots) found) s) → At p stack s
  read_follows p q stack s None from stands c =
      performing K.setting K.yield (running K p stack slots s) instruction.Nothing from.0 (moved (OfValue (record { words = []; is_bool = false }) ∷ stack) s from.1 (c stands))
  read_follows p q stack s (Some found) from stands c =
      performing K.setting K.yield (running K p stack slots s) (instruction.Read (spot_of found)) from.0
      (base_follows (ValueAt q stack) p stack s found.slot _ _ stands (λ words d. moved _ s from.1 (d stands)) c)

module _ (K : Run) (ds : List Declaration) (members : List Member) (parts : List Part) (callees : Callees) (has : HasCode K.setting ds)
    (base : ℕ) (below : Below K.setting K.yield ds K.answered callees base) (above : base ≤ K.low) (scope : List Shape) (slots : List Arg) where
  abbrev env : Env
  env = record { declarations = ds; members = members; parts = parts; scope = scope }

  abbrev c : Context
  c = context_of K callees env

  abbrev V : ℕ → List Item → Value → Store → Type 0
  V = ValueAt K scope slots

  abbrev X : ℕ → List Item → Store → Type 0
  X = At K scope slots

  perform : (p : ℕ) (stack : List Item) (s : Store) (i : Instruction) → slice_get K.setting.image.code p ≡ Some i → To K scope slots (performs K.setting i (running K p stack slots s)) → X p stack s
  perform p stack s i = performing K.setting K.yield (running K p stack slots s) i

  abbrev CodeHere : ℕ → Code → ℕ → Type 0
  CodeHere = From K.setting.image.code

  -- the code leaves the value, wherever it stands
  abbrev pub ValueFollows : Code → Evaluates → Type 0
  ValueFollows code v = (p q : ℕ) (stack : List Item) (s : Store) → CodeHere p code q → Stands K scope slots s → Comes K (V q stack) (v c s) → X p stack s

  -- so many values are on top at a place
  abbrev pub ValuesAt : ℕ → List Item → ℕ → List Value → Store → Type 0
  ValuesAt place stack count values s = Stands K scope slots s → length values ≡ count → X place (pushed (map OfValue values) stack) s

  -- one after another
  abbrev pub ValuesFollow : Code → List Evaluates → ℕ → Type 0
  ValuesFollow code vs count = (p q : ℕ) (stack : List Item) (s : Store) → CodeHere p code q → Stands K scope slots s
      → Comes K (ValuesAt q stack count) (all_of (map (λ (evaluates : Evaluates). evaluates c) vs) s) → X p stack s

  pub no_value : ValuesFollow [] [] 0
  no_value p q stack s from stands h = moved K scope slots stack s from (h stands refl)

  pub more_values : (code others : Code) (v : Evaluates) (vs : List Evaluates) (count : ℕ) → ValueFollows code v → ValuesFollow others vs count → ValuesFollow (code ++ others) (v ∷ vs) (suc count)
  more_values code others v vs count first rest p q stack s from stands h =
      let one = from_parts K.setting.image.code code others p q from in
      first p one.0 stack s one.1 stands
      (goes_on K (ValuesAt q stack (suc count)) (V one.0 stack) (v c s) _ (λ a s1 h1 stands1.
      rest one.0 q (OfValue a ∷ stack) s1 one.2 stands1
      (goes_on K (ValuesAt q stack (suc count)) (ValuesAt q (OfValue a ∷ stack) count) (all_of (map (λ (evaluates : Evaluates). evaluates c) vs) s1) _
      (λ values s2 h2 stands2 sized. h2 stands2 (ap suc sized)) h1))
      h)

  -- ---- places

  pub reads : (t : Target) → ValueFollows (read_code (found_at env t)) (λ context. read context t)
  reads t p q stack s from stands h =
      read_follows K scope slots p q stack s (found_at env t) from stands (subst (λ l. Comes K (V q stack) (words_of_location l s)) (located K callees env slots s t stands) h)

  pub element_follows : (line : ℕ) (t : Target) (code : Code) (index : Evaluates) → ValueFollows code index
      → ValueFollows (read_code (found_at env t) ++ (code ++ instruction.Index line ∷ [])) (λ context. element_of line (read context t) (index context))
  element_follows line t code index on_index p q stack s from stands h =
      let first = from_parts K.setting.image.code (read_code (found_at env t)) _ p q from in
      let second = from_parts K.setting.image.code code _ first.0 q first.2 in
      reads t p first.0 stack s first.1 stands
      (goes_on K (V q stack) (V first.0 stack) (read c t s) _ (λ a s1 h1 stands1.
      on_index first.0 second.0 (OfValue a ∷ stack) s1 second.1 stands1
      (goes_on K (V q stack) (V second.0 (OfValue a ∷ stack)) (index c s1) _ (λ i s2 h2 stands2.
      perform second.0 (OfValue i ∷ OfValue a ∷ stack) s2 (instruction.Index line) second.2.0
      (indexed_follows K scope slots (V q stack) second.0 (OfValue i ∷ OfValue a ∷ stack) s2 line (index_below (length a.words) (word_of i)) _ _ stands2
      (λ n h3. moved K scope slots (OfValue (record { words = slice_index_or a.words n (pos 0) ∷ []; is_bool = a.is_bool }) ∷ stack) s2 second.2.1 (h3 stands2)) h2))
      h1))
      h)

  -- ---- plain functions

  calls_function : (p q : ℕ) (stack : List Item) (s : Store) (name : List ℕ) (count : ℕ) (values : List Value) (found : Option Function)
      → function_named name ds ≡ found → FunctionTakes found count → length values ≡ count → From K.setting.image.code p (plain_code (number_of_function 0 name ds) count) q → Stands K scope slots s
      → Comes K (V q stack) (called c found (map (λ (value : Value). value.words) values) s) → X p (pushed (map OfValue values) stack) s
  calls_function p q stack s name count values None is takes sized from stands h =
      perform p (pushed (map OfValue values) stack) s instruction.Wait
      (subst (λ n. From K.setting.image.code p (plain_code n count) q) (no_number 0 name ds is) from).0 (h stands.low (λ _. stands.within))
  calls_function p q stack s name count values (Some f) is takes sized from stands h =
      let found = has.function name f is in
      let code = subst (λ n. From K.setting.image.code p (plain_code n count) q) found.numbered from in
      let items = map OfValue values in
      let all = pushed items stack in
      let long : length items ≡ count = known_length values ∙ sized in
      let words = map (λ (value : Value). value.words) values in
      let x = running K p all slots s in
      perform p all s (instruction.CallPlain found.number count) code.0
      (subst (λ o. To K scope slots (calls_plain K.setting x o (top_of count all) (drop count all))) (sym found.stands)
      (subst (λ (top : List Item). To K scope slots (calls_plain K.setting x (Some found.code) top (drop count all))) (sym (top_pushed items stack count long))
      (subst (λ (rest : List Item). To K scope slots (calls_plain K.setting x (Some found.code) items rest)) (sym (below_pushed items stack count long))
      (subst (λ (all : List Arg). To K scope slots (begins_plain K.setting x found.code all stack)) (values_passed values)
      (below.plain K.low above K.around f found.code found.is words (takes ∙ sym sized ∙ sym (length-map values (λ (value : Value). value.words))) p all stack slots s stands.low stands.within
      (goes_on K (V q stack) _ (callees.plain f words s) _
      (λ ws t d same low within. moved K scope slots _ t code.1 (d (record { agree = same ∙ stands.agree; sized = stands.sized; low = low; within = within })))
      h))))))

  pub plain_follows : (function : Name) (code : Code) (vs : List Evaluates) (count : ℕ) → FunctionTakes (function_named function.text ds) count → ValuesFollow code vs count
      → ValueFollows (code ++ plain_code (number_of_function 0 function.text ds) count) (λ context. call_plain context function (map (λ (evaluates : Evaluates). evaluates context) vs))
  plain_follows function code vs count takes arguments p q stack s from stands h =
      let first = from_parts K.setting.image.code code _ p q from in
      arguments p first.0 stack s first.1 stands
      (goes_on K (V q stack) (ValuesAt first.0 stack count) (all_of (map (λ (evaluates : Evaluates). evaluates c) vs) s) _ (λ values s1 h1 stands1 sized.
      calls_function first.0 q stack s1 function.text count values (function_named function.text ds) refl takes sized first.2 stands1 h1)
      h)

  -- ---- where a value decides

  either_follows : (b : Bool) (v : Value) (p q : ℕ) (stack : List Item) (s : Store) (other : Step Value) (code : Code) → From K.setting.image.code (p + 1) code q → Stands K scope slots s
      → (Comes K (V q stack) (other s) → X (p + 1) stack s) → Comes K (V q stack) ((if b then pure v else other) s)
      → To K scope slots (if b then past (length code) (running K p stack slots s) (OfValue v ∷ stack) else onward (running K p stack slots s) stack)
  either_follows true v p q stack s other code from stands f h = moved K scope slots _ s (sym (from_length K.setting.image.code code (p + 1) q from)) (h stands)
  either_follows false v p q stack s other code from stands f h = f h

  both_follow : (b : Bool) (p q : ℕ) (stack : List Item) (s : Store) (other : Step Value) (code : Code) → From K.setting.image.code (p + 1) code q → Stands K scope slots s
      → (Comes K (V q stack) (other s) → X (p + 1) stack s) → Comes K (V q stack) ((if b then other else pure (bool_value false)) s)
      → To K scope slots (if b then onward (running K p stack slots s) stack else past (length code) (running K p stack slots s) (OfValue (bool_value false) ∷ stack))
  both_follow true p q stack s other code from stands f h = f h
  both_follow false p q stack s other code from stands f h = moved K scope slots _ s (sym (from_length K.setting.image.code code (p + 1) q from)) (h stands)

  -- ---- operators

  pub unary_follows : (line : ℕ) (o : UnaryOperator) (code : Code) (operand : Evaluates) → ValueFollows code operand
      → ValueFollows (code ++ instruction.Unary line o ∷ []) (value_of_unary line o operand)
  unary_follows line o code operand on_operand p q stack s from stands h =
      let first = from_parts K.setting.image.code code _ p q from in
      on_operand p first.0 stack s first.1 stands
      (goes_on K (V q stack) (V first.0 stack) (operand c s) _ (λ a s1 h1 stands1.
      perform first.0 (OfValue a ∷ stack) s1 (instruction.Unary line o) first.2.0 (alone_follows K scope slots first.0 q (OfValue a ∷ stack) stack s1 line o a first.2.1 stands1 h1))
      h)

  module _ (left_code right_code : Code) (left right : Evaluates) (on_left : ValueFollows left_code left) (on_right : ValueFollows right_code right) where
    -- both operands, and then what an instruction makes of them
    operands_follow : (p q : ℕ) (stack : List Item) (s : Store) (i : Instruction)
        → CodeHere p (left_code ++ (right_code ++ i ∷ [])) q → Stands K scope slots s
        → (outcome : Value → Value → Step Value)
        → ((a b : Value) (p1 : ℕ) (s1 : Store) → p1 + 1 ≡ q → Stands K scope slots s1 → Comes K (V q stack) (outcome a b s1)
        → To K scope slots (performs K.setting i (running K p1 (OfValue b ∷ OfValue a ∷ stack) slots s1)))
        → Comes K (V q stack) ((left c >>= (λ a. right c >>= outcome a)) s) → X p stack s
    operands_follow p q stack s i from stands outcome ends h =
        let first = from_parts K.setting.image.code left_code _ p q from in
        let second = from_parts K.setting.image.code right_code _ first.0 q first.2 in
        on_left p first.0 stack s first.1 stands
        (goes_on K (V q stack) (V first.0 stack) (left c s) _ (λ a s1 h1 stands1.
        on_right first.0 second.0 (OfValue a ∷ stack) s1 second.1 stands1
        (goes_on K (V q stack) (V second.0 (OfValue a ∷ stack)) (right c s1) _ (λ b s2 h2 stands2.
        perform second.0 (OfValue b ∷ OfValue a ∷ stack) s2 i second.2.0 (ends a b second.0 s2 second.2.1 stands2 h2))
        h1))
        h)

    pub binary_follows : (line : ℕ) (operator : BinaryOperator) → ValueFollows (binary_code line operator left_code right_code) (value_of_binary line operator left right)
    binary_follows line levels.Or p q stack s from stands h =
        let first = from_parts K.setting.image.code left_code _ p q from in
        on_left p first.0 stack s first.1 stands
        (goes_on K (V q stack) (V first.0 stack) (left c s) _ (λ a s1 h1 stands1.
        perform first.0 (OfValue a ∷ stack) s1 (instruction.Or (length right_code)) first.2.0
        (either_follows (is_true a) (bool_value true) first.0 q stack s1 (right c) right_code first.2.1 stands1
        (λ d. on_right (first.0 + 1) q stack s1 first.2.1 stands1 d) h1))
        h)
    binary_follows line levels.And p q stack s from stands h =
        let first = from_parts K.setting.image.code left_code _ p q from in
        on_left p first.0 stack s first.1 stands
        (goes_on K (V q stack) (V first.0 stack) (left c s) _ (λ a s1 h1 stands1.
        perform first.0 (OfValue a ∷ stack) s1 (instruction.And (length right_code)) first.2.0
        (both_follow (is_true a) first.0 q stack s1 (right c) right_code first.2.1 stands1
        (λ d. on_right (first.0 + 1) q stack s1 first.2.1 stands1 d) h1))
        h)
    binary_follows line (levels.Equate o) p q stack s from stands h =
        operands_follow p q stack s (instruction.Binary line (operator.Equate o)) from stands (λ a b. pure (bool_value (equality_test o (word_of a) (word_of b))))
        (λ a b p1 s1 e stands1 h1. moved K scope slots _ s1 e (h1 stands1)) h
    binary_follows line (levels.Compare o) p q stack s from stands h =
        operands_follow p q stack s (instruction.Binary line (operator.Compare o)) from stands (λ a b. pure (bool_value (relation_test o (word_of a) (word_of b))))
        (λ a b p1 s1 e stands1 h1. moved K scope slots _ s1 e (h1 stands1)) h
    binary_follows line (levels.Add o) p q stack s from stands h =
        operands_follow p q stack s (instruction.Binary line (operator.Add o)) from stands
        (λ a b. computed line (sum_operation o (word_of a) (word_of b)) >>= (λ z. pure (int_value z)))
        (λ a b p1 s1 e stands1 h1. computes_follows K scope slots p1 q (OfValue b ∷ OfValue a ∷ stack) stack s1 line (sum_operation o (word_of a) (word_of b)) e stands1 h1) h
    binary_follows line (levels.Multiply o) p q stack s from stands h =
        operands_follow p q stack s (instruction.Binary line (operator.Multiply o)) from stands
        (λ a b. computed line (term_operation o (word_of a) (word_of b)) >>= (λ z. pure (int_value z)))
        (λ a b p1 s1 e stands1 h1. computes_follows K scope slots p1 q (OfValue b ∷ OfValue a ∷ stack) stack s1 line (term_operation o (word_of a) (word_of b)) e stands1 h1) h

  -- ---- what is there at once

  pub number_follows : (z : ℤ) → ValueFollows (instruction.Number z ∷ []) (λ context. pure (int_value z))
  number_follows z p q stack s from stands h = perform p stack s (instruction.Number z) from.0 (moved K scope slots _ s from.1 (h stands))

  pub truth_follows : (b : Bool) → ValueFollows (instruction.Truth b ∷ []) (λ context. pure (bool_value b))
  truth_follows b p q stack s from stands h = perform p stack s (instruction.Truth b) from.0 (moved K scope slots _ s from.1 (h stands))

  pub self_follows : ValueFollows (instruction.Own ∷ []) (λ context. pure (int_value context.object))
  self_follows p q stack s from stands h = perform p stack s instruction.Own from.0 (moved K scope slots _ s from.1 (h stands))

  pub next_follows : (line : ℕ) → ValueFollows (instruction.Input line ∷ []) (λ context. next_number line)
  next_follows line p q stack s from stands h =
      perform p stack s (instruction.Input line) from.0 (input_follows K scope slots p q stack s line s.input from.1 stands h)
