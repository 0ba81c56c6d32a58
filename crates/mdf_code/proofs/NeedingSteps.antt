-- A step that needs a value, or strays, stops where it stands, and it needs only what isn't known.
use Rattle.std.proofs.Common.{◌≡◌, ℕ, ◌+◌, ◌==◌, Bool, true, false, not, sum, cond, List, [], ◌∷◌, length, take, Option, Some, None, Result, Ok, Err, ℤ, pos, int_lt, int_le, refl}
use Rattle.std.specs.List.{slice_get}
use Rattle.std.specs.Ordering.{int_eq}
use Rattle.mpl_value.specs.declared.body.Arg.{Arg}
use Rattle.mpl_value.specs.declared.body.Arg.TheVariants.{Know, Trapped, Unknown}
use Rattle.mpl_value.specs.declared.known.TrapKind.{TrapKind}
use Rattle.mpl_value.specs.Arithmetic as arithmetic
use Rattle.mpl_value.specs.Words.{index_below, zeros}
use Rattle.mdf_code.specs.declared.instr.Instr.{Instr}
use Rattle.mdf_code.specs.declared.instr.Instr.TheVariants as instr
use Rattle.mdf_code.specs.declared.raw.RawMember.{RawMember}
use Rattle.mdf_code.specs.Frames.{Around, Caller, Flow, Flows, Frame, Next, Goes, Spends, Stops, Calls, Creates, Ends, Needs, Replies, Strays, Traps}
use Rattle.mdf_code.specs.Parts.{function_of, given_words, has_object, has_state, is_main, is_place, is_regular, may_post, may_send, sizes_of_formals, text_at}
use Rattle.mdf_code.specs.Stacks.{given, known_words_of, popped, popped_all, pushed, read_words, set_at, where_true, write_words}
use Rattle.mdf_code.specs.Steps.{Does, at_index, calls, compares, computed, computes, does, goes, goes_back, goes_holding, goes_with, needed, on_member, on_two, or_strays, reads, size_of, sizes_agree, step, stores}

-- ---- what neither needs nor strays

abbrev pub NeedsNone : {V : Type 0} → Next V → Type 0
NeedsNone (Stops (Needs value) f) = ⊥
NeedsNone next = Unit {0}

abbrev IsPlain : {V : Type 0} → Does V → Type 0
IsPlain (Some (Stops (Needs value) f)) = ⊥
IsPlain (Some (Stops Strays f)) = ⊥
IsPlain d = Unit {0}

-- a need of what isn't known, where the step stands: with more known it is the same as long as that isn't, and else there
-- is no need
pub record NeedsUnknown {V : Type 0} (see more : V → Arg) (value : V) (f g : Frame V) (later : Next V) : Type 0 where
  pub unknown : see value ≡ Unknown
  pub here : f ≡ g
  pub still : more value ≡ Unknown → Stops (Needs value) g ≡ later
  pub met : (more value ≡ Unknown → ⊥) → NeedsNone later

-- what is said of a step from a frame, beside the step with more known
abbrev pub StopsHere : {V : Type 0} → (V → Arg) → (V → Arg) → Frame V → Next V → Next V → Type 0
StopsHere see more f (Stops (Needs value) g) later = NeedsUnknown see more value f g later
StopsHere see more f (Stops Strays g) later = f ≡ g
StopsHere see more f next later = Unit {0}

abbrev Fair : {V : Type 0} → (V → Arg) → (V → Arg) → Frame V → Does V → Does V → Type 0
Fair see more f d e = StopsHere see more f (or_strays f d) (or_strays f e)

plain_needs_none : {V : Type 0} (f : Frame V) (d : Does V) → IsPlain d → NeedsNone (or_strays f d)
plain_needs_none f None plain = tt
plain_needs_none f (Some (Goes g)) plain = tt
plain_needs_none f (Some (Spends g)) plain = tt
plain_needs_none f (Some (Stops (Calls member object arguments) g)) plain = tt
plain_needs_none f (Some (Stops (Needs value) g)) plain = plain
plain_needs_none f (Some (Stops (Replies value) g)) plain = tt
plain_needs_none f (Some (Stops (Creates class) g)) plain = tt
plain_needs_none f (Some (Stops (Ends line) g)) plain = tt
plain_needs_none f (Some (Stops Strays g)) plain = tt
plain_needs_none f (Some (Stops (Traps trap) g)) plain = tt

plain_fair : {V : Type 0} (see more : V → Arg) (f : Frame V) (d e : Does V) → IsPlain d → Fair see more f d e
plain_fair see more f None e plain = refl
plain_fair see more f (Some (Goes g)) e plain = tt
plain_fair see more f (Some (Spends g)) e plain = tt
plain_fair see more f (Some (Stops (Calls member object arguments) g)) e plain = tt
plain_fair see more f (Some (Stops (Needs value) g)) e plain = absurd plain
plain_fair see more f (Some (Stops (Replies value) g)) e plain = tt
plain_fair see more f (Some (Stops (Creates class) g)) e plain = tt
plain_fair see more f (Some (Stops (Ends line) g)) e plain = tt
plain_fair see more f (Some (Stops Strays g)) e plain = absurd plain
plain_fair see more f (Some (Stops (Traps trap) g)) e plain = tt

-- ---- what may be missing

given_plain : {V A : Type 0} (o : Option A) (h : A → Does V) → ((a : A) → IsPlain (h a)) → IsPlain (given o h)
given_plain None h e = tt
given_plain (Some a) h e = e a

true_plain : {V : Type 0} (b : Bool) (d : Does V) → IsPlain d → IsPlain (where_true b d)
true_plain true d e = e
true_plain false d e = tt

if_plain : {V : Type 0} (b : Bool) (d e : Does V) → IsPlain d → IsPlain e → IsPlain (cond b d e)
if_plain true d e h j = h
if_plain false d e h j = j

index_plain : {V : Type 0} (o : Option ℕ) (line : ℕ) (f : Frame V) (next : ℕ → Does V) → ((n : ℕ) → IsPlain (next n)) → IsPlain (at_index o line f next)
index_plain None line f next e = tt
index_plain (Some n) line f next e = e n

computed_plain : {V : Type 0} (line : ℕ) (r : Result ℤ TrapKind) (below : List ℤ) (f : Frame V) → IsPlain (computed line r below f)
computed_plain line (Ok z) below f = tt
computed_plain line (Err kind) below f = tt

two_plain : {V : Type 0} (f : Frame V) (next : ℤ → ℤ → List ℤ → Does V) → ((a b : ℤ) (below : List ℤ) → IsPlain (next a b below)) → IsPlain (on_two f next)
two_plain f next e = given_plain (popped f.words) _ (λ b. given_plain (popped b.below) _ (λ a. e a.items b.items a.below))

computes_plain : {V : Type 0} (operation : ℤ → ℤ → Result ℤ TrapKind) (line : ℕ) (f : Frame V) → IsPlain (computes operation line f)
computes_plain operation line f = two_plain f _ (λ a b below. computed_plain line (operation a b) below f)

compares_plain : {V : Type 0} (test : ℤ → ℤ → Bool) (f : Frame V) → IsPlain (compares test f)
compares_plain test f = two_plain f _ (λ a b below. tt)

holding_plain : {V : Type 0} (o : Option (List V)) (f : Frame V) → IsPlain (goes_holding o f)
holding_plain None f = tt
holding_plain (Some held) f = tt

stores_plain : {V : Type 0} (flows : Flows V) (variable : ℕ) (o : Option (List ℤ)) (f : Frame V) → IsPlain (stores flows variable o f)
stores_plain flows variable None f = tt
stores_plain flows variable (Some words) f = holding_plain (set_at variable (flows.known words) f.variables) f

reads_plain : {V : Type 0} (line : ℕ) (input : List ℤ) (f : Frame V) → IsPlain (reads line input f)
reads_plain line [] f = tt
reads_plain line (z ∷ zs) f = tt

back_plain : {V : Type 0} (words : List ℤ) (callers : List (Caller V)) (f : Frame V) → IsPlain (goes_back words callers f)
back_plain words [] f = tt
back_plain words (caller ∷ callers) f = tt

calls_plain : {V : Type 0} (member : ℕ) (m : RawMember) (object : ℤ) (f : Frame V) → IsPlain (calls member m object f)
calls_plain member m object f = given_plain (popped_all m.formals f.flows) _ (λ top. true_plain (sizes_agree (sizes_of_formals m) top.items) _ tt)

member_plain : {V : Type 0} (x : Around) (member count : ℕ) (kind : Bool → Bool) (next : RawMember → Does V) → ((m : RawMember) → IsPlain (next m)) → IsPlain (on_member x member count kind next)
member_plain x member count kind next e =
    given_plain (slice_get x.image.members member) _ (λ m. given_plain (is_regular x.image m) _ (λ regular. true_plain (kind regular) _ (true_plain (m.formals == count) _ (e m))))

variable_plain : {V : Type 0} (flows : Flows V) (variable : ℕ) (f : Frame V) (next : List ℤ → Does V) → ((words : List ℤ) → IsPlain (next words)) →
    IsPlain (given (slice_get f.variables variable) (λ value. given (known_words_of (flows.see value)) next))
variable_plain flows variable f next e = given_plain (slice_get f.variables variable) _ (λ value. given_plain (known_words_of (flows.see value)) _ e)

-- ---- what is needed

needed_fair : {V : Type 0} (see more : V → Arg) (f : Frame V) (value : V) (a b : Arg) (next : List ℤ → Does V) → ((words : List ℤ) → IsPlain (next words)) → see value ≡ a → more value ≡ b →
    Fair see more f (needed value a f next) (needed value b f next)
needed_fair see more f value (Know words) b next plain is also = plain_fair see more f (next words) (needed value b f next) (plain words)
needed_fair see more f value (Trapped t) b next plain is also = tt
needed_fair see more f value Unknown (Know words) next plain is also =
    record { unknown = is; here = refl; still = λ h. absurd (cc (h, also)); met = λ _. plain_needs_none f (next words) (plain words) }
needed_fair see more f value Unknown (Trapped t) next plain is also = record { unknown = is; here = refl; still = λ h. absurd (cc (h, also)); met = λ _. tt }
needed_fair see more f value Unknown Unknown next plain is also = record { unknown = is; here = refl; still = λ _. refl; met = λ other. absurd (other also) }

variable_fair : {V : Type 0} (see more : V → Arg) (f : Frame V) (next : List ℤ → Does V) (o : Option V) → ((words : List ℤ) → IsPlain (next words)) →
    Fair see more f (given o (λ value. needed value (see value) f next)) (given o (λ value. needed value (more value) f next))
variable_fair see more f next None plain = refl
variable_fair see more f next (Some value) plain = needed_fair see more f value (see value) (more value) next plain refl refl

flow_fair : {V : Type 0} (see more : V → Arg) (f : Frame V) (flows : List (Flow V)) (next : List (Flow V) → List ℤ → Does V) → ((below : List (Flow V)) (words : List ℤ) → IsPlain (next below words)) →
    Fair see more f (given (popped flows) (λ top. needed top.items.value (see top.items.value) f (next top.below)))
    (given (popped flows) (λ top. needed top.items.value (more top.items.value) f (next top.below)))
flow_fair see more f [] next plain = refl
flow_fair see more f (flow ∷ below) next plain = needed_fair see more f flow.value (see flow.value) (more flow.value) (next below) (plain below) refl refl

-- ---- instructions

abbrev FairAt : {V : Type 0} → Flows V → (V → Arg) → Around → Instr → Frame V → Type 0
FairAt flows more x i f = Fair flows.see more f (does flows x i f) (does (record flows { see = more }) x i f)

by_plain : {V : Type 0} (flows : Flows V) (more : V → Arg) (x : Around) (i : Instr) (f : Frame V) → IsPlain (does flows x i f) → FairAt flows more x i f
by_plain flows more x i f plain = plain_fair flows.see more f (does flows x i f) (does (record flows { see = more }) x i f) plain

does_fair : {V : Type 0} (flows : Flows V) (more : V → Arg) (x : Around) (i : Instr) (f : Frame V) → FairAt flows more x i f
does_fair flows more x (instr.Need variable) f = variable_fair flows.see more f (λ words. goes f) (slice_get f.variables variable) (λ words. tt)
does_fair flows more x instr.Force f = flow_fair flows.see more f f.flows (λ below words. goes_with (pushed words f.words) (record f { flows = below })) (λ below words. tt)
does_fair flows more x (instr.Push word) f = tt
does_fair flows more x (instr.Drop count) f = by_plain flows more x (instr.Drop count) f (given_plain (popped_all count f.words) _ (λ top. tt))
does_fair flows more x (instr.Load variable offset count) f =
    by_plain flows more x (instr.Load variable offset count) f (variable_plain flows variable f _ (λ held. given_plain (read_words offset count held) _ (λ words. tt)))
does_fair flows more x (instr.Store variable offset count) f =
    by_plain flows more x (instr.Store variable offset count) f (variable_plain flows variable f _ (λ held. given_plain (popped_all count f.words) _ (λ top.
    stores_plain flows variable (write_words offset top.items held) (record f { words = top.below }))))
does_fair flows more x (instr.LoadIndexed variable offset count line) f =
    by_plain flows more x (instr.LoadIndexed variable offset count line) f (variable_plain flows variable f _ (λ held. given_plain (read_words offset count held) _ (λ array.
    given_plain (popped f.words) _ (λ top. index_plain (index_below count top.items) line f _ (λ n. given_plain (read_words n 1 array) _ (λ words. tt))))))
does_fair flows more x (instr.StoreIndexed variable offset count line) f =
    by_plain flows more x (instr.StoreIndexed variable offset count line) f (variable_plain flows variable f _ (λ held. given_plain (read_words offset count held) _ (λ array.
    two_plain f _ (λ word i below. index_plain (index_below count i) line f _ (λ n. stores_plain flows variable (write_words (offset + n) (word ∷ []) held) (record f { words = below }))))))
does_fair flows more x (instr.Zero variable) f =
    by_plain flows more x (instr.Zero variable) f (given_plain (size_of x variable f) _ (λ size. holding_plain (set_at variable (flows.known (zeros size)) f.variables) f))
does_fair flows more x (instr.Copy variable source) f =
    by_plain flows more x (instr.Copy variable source) f (given_plain (size_of x variable f) _ (λ size. given_plain (size_of x source f) _ (λ same. true_plain (same == size) _
    (given_plain (slice_get f.variables source) _ (λ value. holding_plain (set_at variable value f.variables) f)))))
does_fair flows more x (instr.Fetch offset count) f =
    by_plain flows more x (instr.Fetch offset count) f (true_plain (has_state x.image f.code) _ (given_plain (read_words offset count f.state) _ (λ words. tt)))
does_fair flows more x (instr.Keep offset count) f =
    by_plain flows more x (instr.Keep offset count) f (true_plain (has_object x.image f.code) _ (given_plain (popped_all count f.words) _ (λ top. given_plain (write_words offset top.items f.state) _ (λ kept. tt))))
does_fair flows more x (instr.FetchIndexed offset count line) f =
    by_plain flows more x (instr.FetchIndexed offset count line) f (true_plain (has_state x.image f.code) _ (given_plain (read_words offset count f.state) _ (λ array. given_plain (popped f.words) _ (λ top.
    index_plain (index_below count top.items) line f _ (λ n. given_plain (read_words n 1 array) _ (λ words. tt))))))
does_fair flows more x (instr.KeepIndexed offset count line) f =
    by_plain flows more x (instr.KeepIndexed offset count line) f (true_plain (has_object x.image f.code) _ (given_plain (read_words offset count f.state) _ (λ array. two_plain f _ (λ word i below.
    index_plain (index_below count i) line f _ (λ n. given_plain (write_words (offset + n) (word ∷ []) f.state) _ (λ kept. tt))))))
does_fair flows more x (instr.Add line) f = by_plain flows more x (instr.Add line) f (computes_plain arithmetic.sum line f)
does_fair flows more x (instr.Sub line) f = by_plain flows more x (instr.Sub line) f (computes_plain arithmetic.difference line f)
does_fair flows more x (instr.Mul line) f = by_plain flows more x (instr.Mul line) f (computes_plain arithmetic.product line f)
does_fair flows more x (instr.Div line) f = by_plain flows more x (instr.Div line) f (computes_plain arithmetic.quotient line f)
does_fair flows more x (instr.Rem line) f = by_plain flows more x (instr.Rem line) f (computes_plain arithmetic.remainder line f)
does_fair flows more x (instr.Neg line) f = by_plain flows more x (instr.Neg line) f (given_plain (popped f.words) _ (λ a. computed_plain line (arithmetic.negation a.items) a.below f))
does_fair flows more x instr.Not f = by_plain flows more x instr.Not f (given_plain (popped f.words) _ (λ a. tt))
does_fair flows more x instr.Equal f = by_plain flows more x instr.Equal f (compares_plain int_eq f)
does_fair flows more x instr.NotEqual f = by_plain flows more x instr.NotEqual f (compares_plain (λ a b. not (int_eq a b)) f)
does_fair flows more x instr.Less f = by_plain flows more x instr.Less f (compares_plain int_lt f)
does_fair flows more x instr.LessEqual f = by_plain flows more x instr.LessEqual f (compares_plain int_le f)
does_fair flows more x instr.Greater f = by_plain flows more x instr.Greater f (compares_plain (λ a b. int_lt b a) f)
does_fair flows more x instr.GreaterEqual f = by_plain flows more x instr.GreaterEqual f (compares_plain (λ a b. int_le b a) f)
does_fair flows more x (instr.Jump place) f = by_plain flows more x (instr.Jump place) f (true_plain (is_place x.image f.code place) _ tt)
does_fair flows more x (instr.JumpZero place) f =
    by_plain flows more x (instr.JumpZero place) f (true_plain (is_place x.image f.code place) _ (given_plain (popped f.words) _ (λ a. if_plain (int_eq a.items (pos 0)) _ _ tt tt)))
does_fair flows more x instr.Test f = tt
does_fair flows more x (instr.Call function) f =
    by_plain flows more x (instr.Call function) f (given_plain (slice_get x.image.functions function) _ (λ called. given_plain (popped_all (sum (take called.formals called.body.vars)) f.words) _ (λ top. tt)))
does_fair flows more x (instr.Return count) f =
    by_plain flows more x (instr.Return count) f (given_plain (function_of x.image f.code) _ (λ function. true_plain (function.result == count) _ (given_plain (popped_all count f.words) _ (λ top.
    back_plain top.items f.callers f))))
does_fair flows more x instr.Own f = by_plain flows more x instr.Own f (true_plain (has_object x.image f.code) _ tt)
does_fair flows more x (instr.Bound line) f = by_plain flows more x (instr.Bound line) f (given_plain (popped f.words) _ (λ top. if_plain (int_eq top.items (pos 0)) _ _ tt tt))
does_fair flows more x (instr.ArgWords count) f = by_plain flows more x (instr.ArgWords count) f (given_plain (popped_all count f.words) _ (λ top. tt))
does_fair flows more x (instr.ArgVariable variable) f =
    by_plain flows more x (instr.ArgVariable variable) f (given_plain (size_of x variable f) _ (λ size. given_plain (slice_get f.variables variable) _ (λ value. tt)))
does_fair flows more x (instr.Send member count) f =
    by_plain flows more x (instr.Send member count) f (true_plain (may_send f.code) _ (member_plain x member count (λ regular. regular) _ (λ m. calls_plain member m (pos 0) f)))
does_fair flows more x (instr.Post member count) f =
    by_plain flows more x (instr.Post member count) f (true_plain (may_post x.image f.code) _ (member_plain x member count not _ (λ m. given_plain (popped f.words) _ (λ top.
    calls_plain member m top.items (record f { words = top.below })))))
does_fair flows more x (instr.SetVariable variable) f =
    by_plain flows more x (instr.SetVariable variable) f (given_plain (popped f.flows) _ (λ top. given_plain (size_of x variable f) _ (λ size. true_plain (top.items.words == size) _
    (holding_plain (set_at variable top.items.value f.variables) (record f { flows = top.below })))))
does_fair flows more x instr.DropFlow f = by_plain flows more x instr.DropFlow f (given_plain (popped f.flows) _ (λ top. tt))
does_fair flows more x (instr.Create class) f =
    by_plain flows more x (instr.Create class) f (true_plain (may_post x.image f.code) _ (given_plain (slice_get x.image.classes class) _ (λ c. true_plain (not c.regular) _ tt)))
does_fair flows more x (instr.Reply line) f =
    by_plain flows more x (instr.Reply line) f (given_plain (given_words x.image f.code) _ (λ words. given_plain (popped f.flows) _ (λ top. true_plain (top.items.words == words) _ (if_plain f.replied _ _ tt tt))))
does_fair flows more x (instr.Input line) f = by_plain flows more x (instr.Input line) f (true_plain (is_main f.code) _ (reads_plain line f.input f))
does_fair flows more x (instr.Print letters) f = by_plain flows more x (instr.Print letters) f (true_plain (is_main f.code) _ (given_plain (popped_all (length letters) f.words) _ (λ top. tt)))
does_fair flows more x (instr.End line) f = tt
does_fair flows more x (instr.Fail line) f = by_plain flows more x (instr.Fail line) f (given_plain (function_of x.image f.code) _ (λ function. tt))

pub stops_here : {V : Type 0} (flows : Flows V) (more : V → Arg) (x : Around) (f : Frame V) → StopsHere flows.see more f (step flows x f) (step (record flows { see = more }) x f)
stops_here flows more x f = at_instruction (slice_get (text_at x.image f.code) f.place) where
  at_instruction : (o : Option Instr) → Fair flows.see more f (given o (λ i. does flows x i f)) (given o (λ i. does (record flows { see = more }) x i f))
  at_instruction None = refl
  at_instruction (Some i) = does_fair flows more x i f
