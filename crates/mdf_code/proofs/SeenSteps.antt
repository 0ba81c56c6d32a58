-- The step of a frame, as its flow values are seen, is the step in place of the frame that is seen.
use Rattle.std.proofs.Common.{◌≡◌, ℕ, nat_lt, nat_le, Bool, true, false, List, [], ◌∷◌, ◌++◌, length, map, take, drop, reverse, Option, Some, None, Result, Ok, Err, ℤ, pos, cond, not, sum, ◌==◌, ◌+◌, refl, sym, ap, ap₂, ◌∙◌}
use Rattle.std.proofs.lemmas.List.{length-map, map-append, map-set, reverse-append}
use Rattle.std.proofs.lemmas.Option.{slice_get-map}
use Rattle.std.specs.List.{take-map, drop-map, slice_get, slice_set}
use Rattle.std.specs.Option.{option_map}
use Rattle.std.specs.Ordering.{int_eq}
use Rattle.mpl_value.specs.declared.body.Arg.{Arg}
use Rattle.mpl_value.specs.declared.body.Arg.TheVariants.{Know, Trapped, Unknown}
use Rattle.mpl_value.specs.declared.known.TrapKind.{TrapKind}
use Rattle.mpl_value.specs.Arithmetic as arithmetic
use Rattle.mpl_value.specs.Words.{index_below, zeros}
use Rattle.mdf_code.specs.declared.instr.Instr.{Instr}
use Rattle.mdf_code.specs.declared.instr.Instr.TheVariants as instr
use Rattle.mdf_code.specs.declared.raw.RawFunction.{RawFunction}
use Rattle.mdf_code.specs.declared.raw.RawMember.{RawMember}
use Rattle.mdf_code.specs.Alone.{Held, caller_seen, flow_seen, flows_seen, frame_seen, framed, next_seen, seen_by, values_seen}
use Rattle.mdf_code.specs.Frames.{Around, Caller, Flow, Flows, Frame, Spends, Calls}
use Rattle.mdf_code.specs.Parts.{function_of, given_words, has_object, has_state, is_main, is_place, is_regular, may_post, may_send, sizes_of_formals, text_at, variables_holding}
use Rattle.mdf_code.specs.Stacks.{PoppedAll, given, known_words_of, popped, popped_all, read_words, set_at, where_true, write_words}
use Rattle.mdf_code.specs.Steps.{Does, at_index, calls, computed, does, goes_back, goes_holding, needed, on_known, on_member, on_variable, onward, or_strays, pushes_flow, reads, size_of, sizes_agree, start_function, step, stops, values_of}
use Rattle.mdf_code.specs.Yields.{in_place}

-- what stands for words is seen as these words
abbrev pub IsSeen : {V : Type 0} → Flows V → Type 0
IsSeen flows = (words : List ℤ) → flows.see (flows.known words) ≡ Know words

abbrev pub does_seen : {V : Type 0} → (V → Arg) → Does V → Does Arg
does_seen see = option_map (next_seen see)

-- ---- what may be missing

given_seen : {A : Type 0} {V : Type 0} (see : V → Arg) (o : Option A) (h : A → Does V) (g : A → Does Arg) → ((a : A) → does_seen see (h a) ≡ g a) → does_seen see (given o h) ≡ given o g
given_seen see None h g e = refl
given_seen see (Some a) h g e = e a

true_seen : {V : Type 0} (see : V → Arg) (b : Bool) (h : Does V) (g : Does Arg) → does_seen see h ≡ g → does_seen see (where_true b h) ≡ where_true b g
true_seen see true h g e = e
true_seen see false h g e = refl

if_seen : {V : Type 0} (see : V → Arg) (b : Bool) (h i : Does V) (g j : Does Arg) → does_seen see h ≡ g → does_seen see i ≡ j → does_seen see (cond b h i) ≡ cond b g j
if_seen see true h i g j e d = e
if_seen see false h i g j e d = d

index_seen : {V : Type 0} (see : V → Arg) (o : Option ℕ) (line : ℕ) (f : Frame V) (h : ℕ → Does V) (g : ℕ → Does Arg) → ((n : ℕ) → does_seen see (h n) ≡ g n) →
    does_seen see (at_index o line f h) ≡ at_index o line (frame_seen see f) g
index_seen see None line f h g e = refl
index_seen see (Some n) line f h g e = e n

computed_seen : {V : Type 0} (see : V → Arg) (line : ℕ) (r : Result ℤ TrapKind) (below : List ℤ) (f : Frame V) → does_seen see (computed line r below f) ≡ computed line r below (frame_seen see f)
computed_seen see line (Ok z) below f = refl
computed_seen see line (Err kind) below f = refl

reads_seen : {V : Type 0} (see : V → Arg) (line : ℕ) (input : List ℤ) (f : Frame V) → does_seen see (reads line input f) ≡ reads line input (frame_seen see f)
reads_seen see line [] f = refl
reads_seen see line (z ∷ zs) f = refl

back_seen : {V : Type 0} (see : V → Arg) (words : List ℤ) (callers : List (Caller V)) (f : Frame V) → does_seen see (goes_back words callers f) ≡ goes_back words (map (caller_seen see) callers) (frame_seen see f)
back_seen see words [] f = refl
back_seen see words (caller ∷ callers) f = refl

-- ---- variables

option_seen : {V : Type 0} (see : V → Arg) (o : Option V) (h : V → Does V) (g : Arg → Does Arg) → ((x : V) → does_seen see (h x) ≡ g (see x)) →
    does_seen see (given o h) ≡ given (option_map see o) g
option_seen see None h g e = refl
option_seen see (Some x) h g e = e x

variable_seen : {V : Type 0} (see : V → Arg) (variable : ℕ) (f : Frame V) (h : V → Does V) (g : Arg → Does Arg) → ((x : V) → does_seen see (h x) ≡ g (see x)) →
    does_seen see (on_variable variable f h) ≡ on_variable variable (frame_seen see f) g
variable_seen see variable f h g e =
    option_seen see (slice_get f.variables variable) h g e ∙ ap (λ (o : Option Arg). given o g) (sym (slice_get-map see f.variables variable))

known_seen : {V : Type 0} (flows : Flows V) (variable : ℕ) (f : Frame V) (h : List ℤ → Does V) (g : List ℤ → Does Arg) → ((words : List ℤ) → does_seen flows.see (h words) ≡ g words) →
    does_seen flows.see (on_known flows variable f h) ≡ on_known in_place variable (frame_seen flows.see f) g
known_seen flows variable f h g e = variable_seen flows.see variable f _ _ (λ x. given_seen flows.see (known_words_of (flows.see x)) h g e)

needed_at : {V : Type 0} (see : V → Arg) (value : V) (a : Arg) (f : Frame V) (h : List ℤ → Does V) (g : List ℤ → Does Arg) → ((words : List ℤ) → does_seen see (h words) ≡ g words) →
    does_seen see (needed value a f h) ≡ needed (see value) a (frame_seen see f) g
needed_at see value (Know words) f h g e = e words
needed_at see value (Trapped t) f h g e = refl
needed_at see value Unknown f h g e = refl

needed_seen : {V : Type 0} (see : V → Arg) (value : V) (f : Frame V) (h : List ℤ → Does V) (g : List ℤ → Does Arg) → ((words : List ℤ) → does_seen see (h words) ≡ g words) →
    does_seen see (needed value (see value) f h) ≡ needed (see value) (see value) (frame_seen see f) g
needed_seen see value f h g e = needed_at see value (see value) f h g e

set_seen : {V : Type 0} (see : V → Arg) (variable : ℕ) (x : V) (variables : List V) →
    option_map (values_seen see) (set_at variable x variables) ≡ set_at variable (see x) (values_seen see variables)
set_seen see variable x variables =
    by_test (nat_lt variable (length variables))
    ∙ ap (λ (n : ℕ). cond (nat_lt variable n) (Some (slice_set (values_seen see variables) variable (see x))) None) (sym (length-map variables see)) where
      by_test : (t : Bool) → option_map (values_seen see) (cond t (Some (slice_set variables variable x)) None)
          ≡ cond t (Some (slice_set (values_seen see variables) variable (see x))) None
      by_test true = ap (λ (vs : List Arg). Some vs) (map-set see variables variable x)
      by_test false = refl

holding_at : {V : Type 0} (see : V → Arg) (o : Option (List V)) (f : Frame V) → does_seen see (goes_holding o f) ≡ goes_holding (option_map (values_seen see) o) (frame_seen see f)
holding_at see None f = refl
holding_at see (Some variables) f = refl

holding_seen : {V : Type 0} (see : V → Arg) (variable : ℕ) (x : V) (variables : List V) (f : Frame V) →
    does_seen see (goes_holding (set_at variable x variables) f) ≡ goes_holding (set_at variable (see x) (values_seen see variables)) (frame_seen see f)
holding_seen see variable x variables f =
    holding_at see (set_at variable x variables) f ∙ ap (λ (o : Option (List Arg)). goes_holding o (frame_seen see f)) (set_seen see variable x variables)

storing_seen : {V : Type 0} (flows : Flows V) → IsSeen flows → (variable : ℕ) (words : List ℤ) (variables : List V) (f : Frame V) →
    does_seen flows.see (goes_holding (set_at variable (flows.known words) variables) f) ≡ goes_holding (set_at variable (Know words) (values_seen flows.see variables)) (frame_seen flows.see f)
storing_seen flows is variable words variables f =
    holding_seen flows.see variable (flows.known words) variables f
    ∙ ap (λ (a : Arg). goes_holding (set_at variable a (values_seen flows.see variables)) (frame_seen flows.see f)) (is words)

-- ---- flow values

on_flow_seen : {V : Type 0} (see : V → Arg) (flows : List (Flow V)) (h : Flow V → List (Flow V) → Does V) (g : Flow Arg → List (Flow Arg) → Does Arg) →
    ((flow : Flow V) (below : List (Flow V)) → does_seen see (h flow below) ≡ g (flow_seen see flow) (flows_seen see below)) →
    does_seen see (given (popped flows) (λ top. h top.items top.below)) ≡ given (popped (flows_seen see flows)) (λ top. g top.items top.below)
on_flow_seen see [] h g e = refl
on_flow_seen see (flow ∷ below) h g e = e flow below

sizes_seen : {V : Type 0} (see : V → Arg) (sizes : List ℕ) (flows : List (Flow V)) → sizes_agree sizes flows ≡ sizes_agree sizes (flows_seen see flows)
sizes_seen see [] [] = refl
sizes_seen see [] (flow ∷ flows) = refl
sizes_seen see (size ∷ sizes) [] = refl
sizes_seen see (size ∷ sizes) (flow ∷ flows) = ap (λ (b : Bool). cond (flow.words == size) b false) (sizes_seen see sizes flows)

values_of_seen : {V : Type 0} (see : V → Arg) (flows : List (Flow V)) → values_seen see (values_of flows) ≡ values_of (flows_seen see flows)
values_of_seen see [] = refl
values_of_seen see (flow ∷ flows) = ap (λ (vs : List Arg). see flow.value ∷ vs) (values_of_seen see flows)

pub known_words_seen : {V : Type 0} (flows : Flows V) → IsSeen flows → (values : List (List ℤ)) → values_seen flows.see (map flows.known values) ≡ map Know values
known_words_seen flows is [] = refl
known_words_seen flows is (words ∷ values) = ap₂ (λ (v : Arg) (vs : List Arg). v ∷ vs) (is words) (known_words_seen flows is values)

abbrev popped_all_seen : {V : Type 0} (see : V → Arg) → PoppedAll (Flow V) → PoppedAll (Flow Arg)
popped_all_seen see top = record { items = flows_seen see top.items; below = flows_seen see top.below }

map_reversed : {A B : Type 0} (g : A → B) (xs : List A) → map g (reverse xs) ≡ reverse (map g xs)
map_reversed g [] = refl
map_reversed g (x ∷ xs) =
    ap (map g) (reverse-append (x ∷ []) xs)
    ∙ (map-append g (reverse xs) (x ∷ [])
    ∙ (ap (λ ys. ys ++ g x ∷ []) (map_reversed g xs)
    ∙ sym (reverse-append (g x ∷ []) (map g xs))))

popped_seen : {V : Type 0} (see : V → Arg) (count : ℕ) (flows : List (Flow V)) → option_map (popped_all_seen see) (popped_all count flows) ≡ popped_all count (flows_seen see flows)
popped_seen see count flows =
    by_test (nat_le count (length flows))
    ∙ ap (λ (n : ℕ). cond (nat_le count n) (Some (seen_top (take count (flows_seen see flows)) (drop count (flows_seen see flows)))) None) (sym (length-map flows (flow_seen see))) where
      seen_top : List (Flow Arg) → List (Flow Arg) → PoppedAll (Flow Arg)
      seen_top items below = record { items = reverse items; below = below }

      by_test : (t : Bool) → option_map (popped_all_seen see) (cond t (Some (record { items = reverse (take count flows); below = drop count flows })) None)
          ≡ cond t (Some (seen_top (take count (flows_seen see flows)) (drop count (flows_seen see flows)))) None
      by_test true =
          ap (λ (items : List (Flow Arg)). Some (record { items = items; below = flows_seen see (drop count flows) })) (map_reversed (flow_seen see) (take count flows))
          ∙ (ap (λ (items : List (Flow Arg)). Some (seen_top items (flows_seen see (drop count flows)))) (sym (take-map (flow_seen see) count flows))
          ∙ ap (λ (below : List (Flow Arg)). Some (seen_top (take count (flows_seen see flows)) below)) (sym (drop-map (flow_seen see) count flows)))
      by_test false = refl

-- ---- calls

call_at : {V : Type 0} (see : V → Arg) (member : ℕ) (sizes : List ℕ) (object : ℤ) (f : Frame V) (o : Option (PoppedAll (Flow V))) →
    does_seen see (given o (λ top. where_true (sizes_agree sizes top.items) (stops (Calls member object (values_of top.items)) (onward (record f { flows = top.below })))))
    ≡ given (option_map (popped_all_seen see) o) (λ top. where_true (sizes_agree sizes top.items) (stops (Calls member object (values_of top.items)) (onward (record (frame_seen see f) { flows = top.below }))))
call_at see member sizes object f None = refl
call_at see member sizes object f (Some top) =
    true_seen see (sizes_agree sizes top.items) _ (stops (Calls member object (values_of (flows_seen see top.items))) (onward (record (frame_seen see f) { flows = flows_seen see top.below })))
    (ap (λ (vs : List Arg). stops (Calls member object vs) (onward (record (frame_seen see f) { flows = flows_seen see top.below }))) (values_of_seen see top.items))
    ∙ ap (λ (b : Bool). where_true b (stops (Calls member object (values_of (flows_seen see top.items))) (onward (record (frame_seen see f) { flows = flows_seen see top.below })))) (sizes_seen see sizes top.items)

calls_seen : {V : Type 0} (see : V → Arg) (member : ℕ) (m : RawMember) (object : ℤ) (f : Frame V) → does_seen see (calls member m object f) ≡ calls member m object (frame_seen see f)
calls_seen see member m object f =
    call_at see member (sizes_of_formals m) object f (popped_all m.formals f.flows)
    ∙ ap (λ (o : Option (PoppedAll (Flow Arg))). given o (λ top. where_true (sizes_agree (sizes_of_formals m) top.items) (stops (Calls member object (values_of top.items)) (onward (record (frame_seen see f) { flows = top.below })))))
    (popped_seen see m.formals f.flows)

member_seen : {V : Type 0} (see : V → Arg) (x : Around) (member count : ℕ) (kind : Bool → Bool) (h : RawMember → Does V) (g : RawMember → Does Arg) → ((m : RawMember) → does_seen see (h m) ≡ g m) →
    does_seen see (on_member x member count kind h) ≡ on_member x member count kind g
member_seen see x member count kind h g e =
    given_seen see (slice_get x.image.members member) _ _ (λ m. given_seen see (is_regular x.image m) _ _ (λ regular.
    true_seen see (kind regular) _ _ (true_seen see (m.formals == count) _ _ (e m))))

start_seen : {V : Type 0} (flows : Flows V) → IsSeen flows → (function : ℕ) (called : RawFunction) (words below : List ℤ) (f : Frame V) →
    does_seen flows.see (Some (Spends (start_function flows function called words below f))) ≡ Some (Spends (start_function in_place function called words below (frame_seen flows.see f)))
start_seen flows is function called words below f =
    ap (λ (vs : List Arg). Some (Spends (record (start_function in_place function called words below (frame_seen flows.see f)) { variables = vs })))
    (known_words_seen flows is (variables_holding called.formals called.body.vars words))

-- ---- instructions

pub does_the_same : {V : Type 0} (flows : Flows V) → IsSeen flows → (x : Around) (i : Instr) (f : Frame V) → does_seen flows.see (does flows x i f) ≡ does in_place x i (frame_seen flows.see f)
does_the_same flows is x (instr.Push word) f = refl
does_the_same flows is x (instr.Drop count) f = given_seen flows.see (popped_all count f.words) _ _ (λ top. refl)
does_the_same flows is x (instr.Load variable offset count) f = known_seen flows variable f _ _ (λ held. given_seen flows.see (read_words offset count held) _ _ (λ words. refl))
does_the_same flows is x (instr.Store variable offset count) f =
    known_seen flows variable f _ _ (λ held. given_seen flows.see (popped_all count f.words) _ _ (λ top.
    given_seen flows.see (write_words offset top.items held) _ _ (λ words. storing_seen flows is variable words f.variables (record f { words = top.below }))))
does_the_same flows is x (instr.LoadIndexed variable offset count line) f =
    known_seen flows variable f _ _ (λ held. given_seen flows.see (read_words offset count held) _ _ (λ array. given_seen flows.see (popped f.words) _ _ (λ top.
    index_seen flows.see (index_below count top.items) line f _ _ (λ n. given_seen flows.see (read_words n 1 array) _ _ (λ words. refl)))))
does_the_same flows is x (instr.StoreIndexed variable offset count line) f =
    known_seen flows variable f _ _ (λ held. given_seen flows.see (read_words offset count held) _ _ (λ array. given_seen flows.see (popped f.words) _ _ (λ b. given_seen flows.see (popped b.below) _ _ (λ a.
    index_seen flows.see (index_below count b.items) line f _ _ (λ n. given_seen flows.see (write_words (offset + n) (a.items ∷ []) held) _ _ (λ words.
    storing_seen flows is variable words f.variables (record f { words = a.below })))))))
does_the_same flows is x (instr.Zero variable) f = given_seen flows.see (size_of x variable f) _ _ (λ size. storing_seen flows is variable (zeros size) f.variables f)
does_the_same flows is x (instr.Copy variable source) f =
    given_seen flows.see (size_of x variable f) _ _ (λ size. given_seen flows.see (size_of x source f) _ _ (λ same. true_seen flows.see (same == size) _ _
    (variable_seen flows.see source f _ _ (λ value. holding_seen flows.see variable value f.variables f))))
does_the_same flows is x (instr.Need variable) f = variable_seen flows.see variable f _ _ (λ value. needed_seen flows.see value f _ _ (λ words. refl))
does_the_same flows is x (instr.Fetch offset count) f = true_seen flows.see (has_state x.image f.code) _ _ (given_seen flows.see (read_words offset count f.state) _ _ (λ words. refl))
does_the_same flows is x (instr.Keep offset count) f =
    true_seen flows.see (has_object x.image f.code) _ _ (given_seen flows.see (popped_all count f.words) _ _ (λ top. given_seen flows.see (write_words offset top.items f.state) _ _ (λ kept. refl)))
does_the_same flows is x (instr.FetchIndexed offset count line) f =
    true_seen flows.see (has_state x.image f.code) _ _ (given_seen flows.see (read_words offset count f.state) _ _ (λ array. given_seen flows.see (popped f.words) _ _ (λ top.
    index_seen flows.see (index_below count top.items) line f _ _ (λ n. given_seen flows.see (read_words n 1 array) _ _ (λ words. refl)))))
does_the_same flows is x (instr.KeepIndexed offset count line) f =
    true_seen flows.see (has_object x.image f.code) _ _ (given_seen flows.see (read_words offset count f.state) _ _ (λ array. given_seen flows.see (popped f.words) _ _ (λ b. given_seen flows.see (popped b.below) _ _ (λ a.
    index_seen flows.see (index_below count b.items) line f _ _ (λ n. given_seen flows.see (write_words (offset + n) (a.items ∷ []) f.state) _ _ (λ kept. refl))))))
does_the_same flows is x (instr.Add line) f = given_seen flows.see (popped f.words) _ _ (λ b. given_seen flows.see (popped b.below) _ _ (λ a. computed_seen flows.see line (arithmetic.sum a.items b.items) a.below f))
does_the_same flows is x (instr.Sub line) f = given_seen flows.see (popped f.words) _ _ (λ b. given_seen flows.see (popped b.below) _ _ (λ a. computed_seen flows.see line (arithmetic.difference a.items b.items) a.below f))
does_the_same flows is x (instr.Mul line) f = given_seen flows.see (popped f.words) _ _ (λ b. given_seen flows.see (popped b.below) _ _ (λ a. computed_seen flows.see line (arithmetic.product a.items b.items) a.below f))
does_the_same flows is x (instr.Div line) f = given_seen flows.see (popped f.words) _ _ (λ b. given_seen flows.see (popped b.below) _ _ (λ a. computed_seen flows.see line (arithmetic.quotient a.items b.items) a.below f))
does_the_same flows is x (instr.Rem line) f = given_seen flows.see (popped f.words) _ _ (λ b. given_seen flows.see (popped b.below) _ _ (λ a. computed_seen flows.see line (arithmetic.remainder a.items b.items) a.below f))
does_the_same flows is x (instr.Neg line) f = given_seen flows.see (popped f.words) _ _ (λ a. computed_seen flows.see line (arithmetic.negation a.items) a.below f)
does_the_same flows is x instr.Not f = given_seen flows.see (popped f.words) _ _ (λ a. refl)
does_the_same flows is x instr.Equal f = given_seen flows.see (popped f.words) _ _ (λ b. given_seen flows.see (popped b.below) _ _ (λ a. refl))
does_the_same flows is x instr.NotEqual f = given_seen flows.see (popped f.words) _ _ (λ b. given_seen flows.see (popped b.below) _ _ (λ a. refl))
does_the_same flows is x instr.Less f = given_seen flows.see (popped f.words) _ _ (λ b. given_seen flows.see (popped b.below) _ _ (λ a. refl))
does_the_same flows is x instr.LessEqual f = given_seen flows.see (popped f.words) _ _ (λ b. given_seen flows.see (popped b.below) _ _ (λ a. refl))
does_the_same flows is x instr.Greater f = given_seen flows.see (popped f.words) _ _ (λ b. given_seen flows.see (popped b.below) _ _ (λ a. refl))
does_the_same flows is x instr.GreaterEqual f = given_seen flows.see (popped f.words) _ _ (λ b. given_seen flows.see (popped b.below) _ _ (λ a. refl))
does_the_same flows is x (instr.Jump place) f = true_seen flows.see (is_place x.image f.code place) _ _ refl
does_the_same flows is x (instr.JumpZero place) f =
    true_seen flows.see (is_place x.image f.code place) _ _ (given_seen flows.see (popped f.words) _ _ (λ a. if_seen flows.see (int_eq a.items (pos 0)) _ _ _ _ refl refl))
does_the_same flows is x instr.Test f = refl
does_the_same flows is x (instr.Call function) f =
    given_seen flows.see (slice_get x.image.functions function) _ _ (λ called. given_seen flows.see (popped_all (sum (take called.formals called.body.vars)) f.words) _ _ (λ top.
    start_seen flows is function called top.items top.below f))
does_the_same flows is x (instr.Return count) f =
    given_seen flows.see (function_of x.image f.code) _ _ (λ function. true_seen flows.see (function.result == count) _ _ (given_seen flows.see (popped_all count f.words) _ _ (λ top.
    back_seen flows.see top.items f.callers f)))
does_the_same flows is x instr.Own f = true_seen flows.see (has_object x.image f.code) _ _ refl
does_the_same flows is x (instr.Bound line) f = given_seen flows.see (popped f.words) _ _ (λ top. if_seen flows.see (int_eq top.items (pos 0)) _ _ _ _ refl refl)
does_the_same flows is x (instr.ArgWords count) f = given_seen flows.see (popped_all count f.words) _ _ (λ top.
    ap (λ (a : Arg). pushes_flow a count (record (frame_seen flows.see f) { words = top.below })) (is top.items))
does_the_same flows is x (instr.ArgVariable variable) f = given_seen flows.see (size_of x variable f) _ _ (λ size. variable_seen flows.see variable f _ _ (λ value. refl))
does_the_same flows is x (instr.Send member count) f =
    true_seen flows.see (may_send f.code) _ _ (member_seen flows.see x member count (λ regular. regular) _ _ (λ m. calls_seen flows.see member m (pos 0) f))
does_the_same flows is x (instr.Post member count) f =
    true_seen flows.see (may_post x.image f.code) _ _ (member_seen flows.see x member count not _ _ (λ m. given_seen flows.see (popped f.words) _ _ (λ top.
    calls_seen flows.see member m top.items (record f { words = top.below }))))
does_the_same flows is x (instr.SetVariable variable) f =
    on_flow_seen flows.see f.flows _ _ (λ flow below. given_seen flows.see (size_of x variable f) _ _ (λ size. true_seen flows.see (flow.words == size) _ _
    (holding_seen flows.see variable flow.value f.variables (record f { flows = below }))))
does_the_same flows is x instr.DropFlow f = on_flow_seen flows.see f.flows _ _ (λ flow below. refl)
does_the_same flows is x instr.Force f = on_flow_seen flows.see f.flows _ _ (λ flow below. needed_seen flows.see flow.value f _ _ (λ words. refl))
does_the_same flows is x (instr.Create class) f =
    true_seen flows.see (may_post x.image f.code) _ _ (given_seen flows.see (slice_get x.image.classes class) _ _ (λ c. true_seen flows.see (not c.regular) _ _ refl))
does_the_same flows is x (instr.Reply line) f =
    given_seen flows.see (given_words x.image f.code) _ _ (λ words. on_flow_seen flows.see f.flows _ _ (λ flow below. true_seen flows.see (flow.words == words) _ _
    (if_seen flows.see f.replied _ _ _ _ refl refl)))
does_the_same flows is x (instr.Input line) f = true_seen flows.see (is_main f.code) _ _ (reads_seen flows.see line f.input f)
does_the_same flows is x (instr.Print letters) f = true_seen flows.see (is_main f.code) _ _ (given_seen flows.see (popped_all (length letters) f.words) _ _ (λ top. refl))
does_the_same flows is x (instr.End line) f = refl
does_the_same flows is x (instr.Fail line) f = given_seen flows.see (function_of x.image f.code) _ _ (λ function. refl)

-- ---- a step

strays_seen : {V : Type 0} (see : V → Arg) (f : Frame V) (d : Does V) → next_seen see (or_strays f d) ≡ or_strays (frame_seen see f) (does_seen see d)
strays_seen see f None = refl
strays_seen see f (Some next) = refl

pub step_seen : {V : Type 0} (flows : Flows V) → IsSeen flows → (x : Around) (f : Frame V) → next_seen flows.see (step flows x f) ≡ step in_place x (frame_seen flows.see f)
step_seen flows is x f =
    strays_seen flows.see f (given (slice_get (text_at x.image f.code) f.place) (λ i. does flows x i f))
    ∙ ap (or_strays (frame_seen flows.see f)) (given_seen flows.see (slice_get (text_at x.image f.code) f.place) _ _ (λ i. does_the_same flows is x i f))

pub framed_seen : (knows : ℕ → Arg) (x : Around) (f : Frame Held) → next_seen (seen_by knows) (step (framed knows) x f) ≡ step in_place x (frame_seen (seen_by knows) f)
framed_seen knows = step_seen (framed knows) (λ words. refl)
