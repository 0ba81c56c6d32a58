-- What each instruction does.
use Rattle.std.specs.Prelude.{ℕ, ◌+◌, Bool, true, false, not, ◌==◌, List, [], ◌∷◌, ◌++◌, map, take, length, slice_get, codes, Option, Some, None, Result, Ok, Err, if◌then◌else◌, ℤ, pos, int_lt, int_le, sum}
use Rattle.std.specs.Fmt.{signed_decimal}
use Rattle.std.specs.Ordering.{int_eq}
use Rattle.mpl_value.specs.declared.body.Arg.{Arg}
use Rattle.mpl_value.specs.declared.body.Arg.TheVariants.{Know, Trapped, Unknown}
use Rattle.mpl_value.specs.declared.known.TrapKind.{TrapKind}
use Rattle.mpl_value.specs.declared.known.TrapKind.TheVariants.{Index, NoInput, NoReply, Twice, Unbound}
use Rattle.mpl_value.specs.Arithmetic as arithmetic
use Rattle.mpl_value.specs.Words.{bool_word, index_below, zeros}
use Rattle.mdf_code.specs.declared.instr.Instr.{Instr}
use Rattle.mdf_code.specs.declared.instr.Instr.TheVariants as instr
use Rattle.mdf_code.specs.declared.raw.RawFunction.{RawFunction}
use Rattle.mdf_code.specs.declared.raw.RawMember.{RawMember}
use Rattle.mdf_code.specs.Frames.{Around, Caller, Flow, Flows, Frame, InFunction, Next, Goes, Spends, Stops, Stop, Calls, Creates, Ends, Needs, Replies, Strays, Traps}
use Rattle.mdf_code.specs.Parts.{function_of, given_words, has_object, has_state, is_main, is_place, is_regular, may_post, may_send, sizes_at, sizes_of_formals, text_at, variables_holding}
use Rattle.mdf_code.specs.Stacks.{given, known_words_of, popped, popped_all, pushed, read_words, set_at, where_true, write_words}

-- What an instruction does, where it can stand. It strays where it finds nothing to do.
abbrev pub Does : Type 0 → Type 0
Does V = Option (Next V)

-- ---- going on

abbrev pub at_place : {V : Type 0} → ℕ → Frame V → Frame V
at_place place f = record f { place = place }

abbrev pub onward : {V : Type 0} → Frame V → Frame V
onward f = at_place (f.place + 1) f

abbrev pub goes : {V : Type 0} → Frame V → Does V
goes f = Some (Goes (onward f))

abbrev pub goes_with : {V : Type 0} → List ℤ → Frame V → Does V
goes_with words f = goes (record f { words = words })

abbrev pub goes_holding : {V : Type 0} → Option (List V) → Frame V → Does V
goes_holding variables f = given variables (λ held. goes (record f { variables = held }))

abbrev pub goes_keeping : {V : Type 0} → Option (List ℤ) → Frame V → Does V
goes_keeping state f = given state (λ kept. goes (record f { state = kept }))

abbrev pub traps : {V : Type 0} → TrapKind → ℕ → Frame V → Does V
traps kind line f = Some (Stops (Traps (record { kind = kind; line = line })) f)

abbrev pub stops : {V : Type 0} → Stop V → Frame V → Does V
stops stop f = Some (Stops stop f)

-- ---- words

abbrev pub on_word : {V : Type 0} → Frame V → (ℤ → List ℤ → Does V) → Does V
on_word f next = given (popped f.words) (λ top. next top.items top.below)

-- the words below and on top
abbrev pub on_two : {V : Type 0} → Frame V → (ℤ → ℤ → List ℤ → Does V) → Does V
on_two f next = given (popped f.words) (λ b. given (popped b.below) (λ a. next a.items b.items a.below))

abbrev pub on_words : {V : Type 0} → ℕ → Frame V → (List ℤ → List ℤ → Does V) → Does V
on_words count f next = given (popped_all count f.words) (λ top. next top.items top.below)

abbrev pub computed : {V : Type 0} → ℕ → Result ℤ TrapKind → List ℤ → Frame V → Does V
computed line (Ok z) below f = goes_with (z ∷ below) f
computed line (Err kind) below f = traps kind line f

abbrev pub computes : {V : Type 0} → (ℤ → ℤ → Result ℤ TrapKind) → ℕ → Frame V → Does V
computes operation line f = on_two f (λ a b below. computed line (operation a b) below f)

abbrev pub compares : {V : Type 0} → (ℤ → ℤ → Bool) → Frame V → Does V
compares test f = on_two f (λ a b below. goes_with (bool_word (test a b) ∷ below) f)

-- an index of an array of so many words, or its trap
abbrev pub at_index : {V : Type 0} → Option ℕ → ℕ → Frame V → (ℕ → Does V) → Does V
at_index None line f next = traps Index line f
at_index (Some n) line f next = next n

abbrev pub indexed : {V : Type 0} → ℕ → ℤ → ℕ → Frame V → (ℕ → Does V) → Does V
indexed count i = at_index (index_below count i)

-- ---- variables

abbrev pub on_variable : {V : Type 0} → ℕ → Frame V → (V → Does V) → Does V
on_variable variable f = given (slice_get f.variables variable)

-- the words of a variable that is known
abbrev pub on_known : {V : Type 0} → Flows V → ℕ → Frame V → (List ℤ → Does V) → Does V
on_known flows variable f next = on_variable variable f (λ value. given (known_words_of (flows.see value)) next)

abbrev pub size_of : {V : Type 0} → Around → ℕ → Frame V → Option ℕ
size_of x variable f = slice_get (sizes_at x.image f.code) variable

abbrev pub stores : {V : Type 0} → Flows V → ℕ → Option (List ℤ) → Frame V → Does V
stores flows variable written f = given written (λ words. goes_holding (set_at variable (flows.known words) f.variables) f)

-- ---- flow values

abbrev pub on_flow : {V : Type 0} → Frame V → (Flow V → List (Flow V) → Does V) → Does V
on_flow f next = given (popped f.flows) (λ top. next top.items top.below)

abbrev pub pushes_flow : {V : Type 0} → V → ℕ → Frame V → Does V
pushes_flow value words f = goes (record f { flows = record { value = value; words = words } ∷ f.flows })

-- What is needed goes on where it is known and traps where it is a trap. Else the frame stops where it stands.
abbrev pub needed : {V : Type 0} → V → Arg → Frame V → (List ℤ → Does V) → Does V
needed value (Know words) f next = next words
needed value (Trapped t) f next = stops (Traps t) f
needed value Unknown f next = stops (Needs value) f

-- each value has the words of its formal
abbrev pub sizes_agree : {V : Type 0} → List ℕ → List (Flow V) → Bool
sizes_agree [] [] = true
sizes_agree [] (flow ∷ flows) = false
sizes_agree (size ∷ sizes) [] = false
sizes_agree (size ∷ sizes) (flow ∷ flows) = if flow.words == size then sizes_agree sizes flows else false

abbrev pub values_of : {V : Type 0} → List (Flow V) → List V
values_of = map (λ flow. flow.value)

-- ---- calls

-- a member of a class of this kind, with as many formals
abbrev pub on_member : {V : Type 0} → Around → ℕ → ℕ → (Bool → Bool) → (RawMember → Does V) → Does V
on_member x member count kind next =
    given (slice_get x.image.members member) (λ m. given (is_regular x.image m) (λ regular.
    where_true (kind regular) (where_true (m.formals == count) (next m))))

-- the flow values for a member's formals go to the call
abbrev pub calls : {V : Type 0} → ℕ → RawMember → ℤ → Frame V → Does V
calls member m object f =
    given (popped_all m.formals f.flows) (λ top. where_true (sizes_agree (sizes_of_formals m) top.items)
    (stops (Calls member object (values_of top.items)) (onward (record f { flows = top.below }))))

abbrev pub start_function : {V : Type 0} → Flows V → ℕ → RawFunction → List ℤ → List ℤ → Frame V → Frame V
start_function flows function called arguments below f = record f {
  code = InFunction function;
  place = 0;
  words = [];
  flows = [];
  variables = map flows.known (variables_holding called.formals called.body.vars arguments);
  callers = record { code = f.code; place = f.place + 1; words = below; flows = f.flows; variables = f.variables } ∷ f.callers;
}

abbrev pub goes_back : {V : Type 0} → List ℤ → List (Caller V) → Frame V → Does V
goes_back words [] f = None
goes_back words (caller ∷ callers) f = Some (Goes (record f {
  code = caller.code;
  place = caller.place;
  words = pushed words caller.words;
  flows = caller.flows;
  variables = caller.variables;
  callers = callers;
}))

-- ---- input and printing

-- the next number
abbrev pub reads : {V : Type 0} → ℕ → List ℤ → Frame V → Does V
reads line [] f = traps NoInput line f
reads line (z ∷ zs) f = goes_with (z ∷ f.words) (record f { input = zs })

-- an int in decimal, and a bool as `true` where it isn't 0
abbrev pub word_text : ℕ → ℤ → List ℕ
word_text letter word =
    if letter == 98 then (if int_eq word (pos 0) then codes "false" else codes "true") else signed_decimal word

abbrev pub texts_after_first : List ℕ → List ℤ → List ℕ
texts_after_first [] words = 10 ∷ []
texts_after_first (letter ∷ letters) [] = 10 ∷ []
texts_after_first (letter ∷ letters) (word ∷ words) = 32 ∷ (word_text letter word ++ texts_after_first letters words)

-- the words with one space between them, and a line feed
abbrev pub line_of : List ℕ → List ℤ → List ℕ
line_of [] words = 10 ∷ []
line_of (letter ∷ letters) [] = 10 ∷ []
line_of (letter ∷ letters) (word ∷ words) = word_text letter word ++ texts_after_first letters words

-- ---- instructions

abbrev pub does : {V : Type 0} → Flows V → Around → Instr → Frame V → Does V
does flows x (instr.Push word) f = goes_with (word ∷ f.words) f
does flows x (instr.Drop count) f = on_words count f (λ words below. goes_with below f)
does flows x (instr.Load variable offset count) f =
    on_known flows variable f (λ held. given (read_words offset count held) (λ words. goes_with (pushed words f.words) f))
does flows x (instr.Store variable offset count) f =
    on_known flows variable f (λ held. on_words count f (λ words below. stores flows variable (write_words offset words held) (record f { words = below })))
does flows x (instr.LoadIndexed variable offset count line) f =
    on_known flows variable f (λ held. given (read_words offset count held) (λ array. on_word f (λ i below.
    indexed count i line f (λ n. given (read_words n 1 array) (λ words. goes_with (pushed words below) f)))))
does flows x (instr.StoreIndexed variable offset count line) f =
    on_known flows variable f (λ held. given (read_words offset count held) (λ array. on_two f (λ word i below.
    indexed count i line f (λ n. stores flows variable (write_words (offset + n) (word ∷ []) held) (record f { words = below })))))
does flows x (instr.Zero variable) f =
    given (size_of x variable f) (λ size. goes_holding (set_at variable (flows.known (zeros size)) f.variables) f)
does flows x (instr.Copy variable source) f =
    given (size_of x variable f) (λ size. given (size_of x source f) (λ same. where_true (same == size)
    (on_variable source f (λ value. goes_holding (set_at variable value f.variables) f))))
does flows x (instr.Need variable) f = on_variable variable f (λ value. needed value (flows.see value) f (λ words. goes f))
does flows x (instr.Fetch offset count) f =
    where_true (has_state x.image f.code) (given (read_words offset count f.state) (λ words. goes_with (pushed words f.words) f))
does flows x (instr.Keep offset count) f =
    where_true (has_object x.image f.code) (on_words count f (λ words below. goes_keeping (write_words offset words f.state) (record f { words = below })))
does flows x (instr.FetchIndexed offset count line) f =
    where_true (has_state x.image f.code) (given (read_words offset count f.state) (λ array. on_word f (λ i below.
    indexed count i line f (λ n. given (read_words n 1 array) (λ words. goes_with (pushed words below) f)))))
does flows x (instr.KeepIndexed offset count line) f =
    where_true (has_object x.image f.code) (given (read_words offset count f.state) (λ array. on_two f (λ word i below.
    indexed count i line f (λ n. goes_keeping (write_words (offset + n) (word ∷ []) f.state) (record f { words = below })))))
does flows x (instr.Add line) f = computes arithmetic.sum line f
does flows x (instr.Sub line) f = computes arithmetic.difference line f
does flows x (instr.Mul line) f = computes arithmetic.product line f
does flows x (instr.Div line) f = computes arithmetic.quotient line f
does flows x (instr.Rem line) f = computes arithmetic.remainder line f
does flows x (instr.Neg line) f = on_word f (λ a below. computed line (arithmetic.negation a) below f)
does flows x instr.Not f = on_word f (λ a below. goes_with (bool_word (int_eq a (pos 0)) ∷ below) f)
does flows x instr.Equal f = compares int_eq f
does flows x instr.NotEqual f = compares (λ a b. not (int_eq a b)) f
does flows x instr.Less f = compares int_lt f
does flows x instr.LessEqual f = compares int_le f
does flows x instr.Greater f = compares (λ a b. int_lt b a) f
does flows x instr.GreaterEqual f = compares (λ a b. int_le b a) f
does flows x (instr.Jump place) f = where_true (is_place x.image f.code place) (Some (Goes (at_place place f)))
does flows x (instr.JumpZero place) f =
    where_true (is_place x.image f.code place) (on_word f (λ a below.
    if int_eq a (pos 0) then Some (Goes (at_place place (record f { words = below }))) else goes_with below f))
does flows x instr.Test f = Some (Spends (onward f))
does flows x (instr.Call function) f =
    given (slice_get x.image.functions function) (λ called.
    on_words (sum (take called.formals called.body.vars)) f (λ words below. Some (Spends (start_function flows function called words below f))))
does flows x (instr.Return count) f =
    given (function_of x.image f.code) (λ function. where_true (function.result == count)
    (on_words count f (λ words below. goes_back words f.callers f)))
does flows x instr.Own f = where_true (has_object x.image f.code) (goes_with (x.object ∷ f.words) f)
does flows x (instr.Bound line) f = on_word f (λ object below. if int_eq object (pos 0) then traps Unbound line f else goes f)
does flows x (instr.ArgWords count) f = on_words count f (λ words below. pushes_flow (flows.known words) count (record f { words = below }))
does flows x (instr.ArgVariable variable) f =
    given (size_of x variable f) (λ size. on_variable variable f (λ value. pushes_flow value size f))
does flows x (instr.Send member count) f =
    where_true (may_send f.code) (on_member x member count (λ regular. regular) (λ m. calls member m (pos 0) f))
does flows x (instr.Post member count) f =
    where_true (may_post x.image f.code) (on_member x member count not (λ m. on_word f (λ object below. calls member m object (record f { words = below }))))
does flows x (instr.SetVariable variable) f =
    on_flow f (λ flow below. given (size_of x variable f) (λ size. where_true (flow.words == size)
    (goes_holding (set_at variable flow.value f.variables) (record f { flows = below }))))
does flows x instr.DropFlow f = on_flow f (λ flow below. goes (record f { flows = below }))
does flows x instr.Force f =
    on_flow f (λ flow below. needed flow.value (flows.see flow.value) f (λ words. goes_with (pushed words f.words) (record f { flows = below })))
does flows x (instr.Create class) f =
    where_true (may_post x.image f.code) (given (slice_get x.image.classes class) (λ c. where_true (not c.regular) (stops (Creates class) (onward f))))
does flows x (instr.Reply line) f =
    given (given_words x.image f.code) (λ words. on_flow f (λ flow below. where_true (flow.words == words)
    (if f.replied then traps Twice line f else stops (Replies flow.value) (onward (record f { flows = below; replied = true })))))
does flows x (instr.Input line) f = where_true (is_main f.code) (reads line f.input f)
does flows x (instr.Print letters) f =
    where_true (is_main f.code) (on_words (length letters) f (λ words below. goes (record f { words = below; lines = f.lines ++ line_of letters words })))
does flows x (instr.End line) f = stops (Ends line) f
does flows x (instr.Fail line) f = given (function_of x.image f.code) (λ function. traps NoReply line f)

-- ---- a step

abbrev pub or_strays : {V : Type 0} → Frame V → Does V → Next V
or_strays f None = Stops Strays f
or_strays f (Some next) = next

-- The step of a frame. It strays past the end of its code too.
abbrev pub step : {V : Type 0} → Flows V → Around → Frame V → Next V
step flows x f = or_strays f (given (slice_get (text_at x.image f.code) f.place) (λ instruction. does flows x instruction f))
