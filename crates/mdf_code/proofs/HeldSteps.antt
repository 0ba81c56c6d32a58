-- A step makes no flow values but known words, and does only what its body's code may do.
use Rattle.std.proofs.Common.{◌≡◌, ℕ, zero, suc, ◌+◌, ◌==◌, Bool, true, false, nat_lt, not, sum, cond, List, [], ◌∷◌, length, map, take, Option, Some, None, Result, Ok, Err, ℤ, pos, int_lt, int_le, sym, ◌∙◌, refl, ap, subst, ◌⊎◌, inl, inr}
use Rattle.std.specs.List.{AllByRecursion, slice_get, slice_set}
use Rattle.std.specs.Option.{unwrap_or}
use Rattle.std.specs.Ordering.{int_eq}
use Rattle.mpl_value.specs.declared.body.Arg.{Arg}
use Rattle.mpl_value.specs.declared.body.Arg.TheVariants.{Know, Trapped, Unknown}
use Rattle.mpl_value.specs.declared.known.TrapKind.{TrapKind}
use Rattle.mpl_value.specs.Arithmetic as arithmetic
use Rattle.mpl_value.specs.Words.{index_below, zeros}
use Rattle.mdf_code.specs.declared.instr.Instr.{Instr}
use Rattle.mdf_code.specs.declared.instr.Instr.TheVariants as instr
use Rattle.mdf_code.specs.declared.raw.RawFunction.{RawFunction}
use Rattle.mdf_code.specs.declared.raw.RawImage.{RawImage}
use Rattle.mdf_code.specs.declared.raw.RawMember.{RawMember}
use Rattle.mdf_code.specs.Frames.{Around, Caller, Code, InMain, InFunction, InMember, InGuard, Flow, Flows, Frame, Next, Goes, Spends, Stops, Stop, Calls, Creates, Ends, Needs, Replies, Strays, Traps}
use Rattle.mdf_code.specs.Parts.{function_of, given_words, has_object, has_state, is_main, is_place, is_regular, may_post, may_send, sizes_of_formals, text_at, variables_holding}
use Rattle.mdf_code.specs.Stacks.{given, known_words_of, popped, popped_all, read_words, set_at, where_true, write_words}
use Rattle.mdf_code.specs.Steps.{Does, at_index, calls, compares, computed, computes, does, goes_back, goes_holding, goes_keeping, needed, on_known, on_member, on_two, on_word, on_words, or_strays, reads, size_of, sizes_agree, start_function, step, stores, values_of}
use Rattle.mdf_code.specs.Yields.{found_regular, member_is_regular}
use Rattle.mdf_code.proofs.FittingValues.{popped_from, some_is}

-- ---- what holds of a frame

-- the code of a plain function, or the body's own
abbrev pub IsOf : Code → Code → Type 0
IsOf base (InFunction function) = Unit {0}
IsOf base InMain = InMain ≡ base
IsOf base (InMember member) = InMember member ≡ base
IsOf base (InGuard entry) = InGuard entry ≡ base

pub record PlaceHas {V : Type 0} (P : V → Type 0) (base : Code) (code : Code) (held : List V) (pushed : List (Flow V)) : Type 0 where
  pub is_of : IsOf base code
  pub variables : AllByRecursion P held
  pub flows : AllByRecursion (λ (flow : Flow V). P flow.value) pushed

abbrev pub CallerHas : {V : Type 0} → (V → Type 0) → Code → Caller V → Type 0
CallerHas P base caller = PlaceHas P base caller.code caller.variables caller.flows

pub record PartsHave {V : Type 0} (P : V → Type 0) (base : Code) (code : Code) (held : List V) (pushed : List (Flow V)) (back : List (Caller V)) : Type 0 where
  pub here : PlaceHas P base code held pushed
  pub callers : AllByRecursion (λ (caller : Caller V). CallerHas P base caller) back

-- each flow value is one of these, in a frame of this body's code
abbrev pub FrameHas : {V : Type 0} → (V → Type 0) → Code → Frame V → Type 0
FrameHas P base f = PartsHave P base f.code f.variables f.flows f.callers

-- a code that gives a result
abbrev pub MayGive : RawImage → Code → Type 0
MayGive image base = (words : ℕ) × (given_words image base ≡ Some words)

abbrev pub MayCall : RawImage → Code → ℕ → Type 0
MayCall image base member = (member_is_regular image member ≡ true) ⊎ (may_post image base ≡ true)

abbrev pub StopHas : {V : Type 0} → (V → Type 0) → RawImage → Code → Stop V → Type 0
StopHas P image base (Calls member object arguments) = AllByRecursion P arguments × MayCall image base member
StopHas P image base (Needs value) = P value
StopHas P image base (Replies value) = P value × MayGive image base
StopHas P image base (Creates class) = may_post image base ≡ true
StopHas P image base (Ends line) = Unit {0}
StopHas P image base Strays = Unit {0}
StopHas P image base (Traps trap) = Unit {0}

abbrev pub NextHas : {V : Type 0} → (V → Type 0) → RawImage → Code → Next V → Type 0
NextHas P image base (Goes g) = FrameHas P base g
NextHas P image base (Spends g) = FrameHas P base g
NextHas P image base (Stops stop g) = FrameHas P base g × StopHas P image base stop

-- the flow values, what is asked of them, and the body's code
pub record Kept (V : Type 0) : Type 1 where
  pub flows : Flows V
  pub P : V → Type 0
  pub known : (words : List ℤ) → P (flows.known words)
  pub x : Around
  pub base : Code

abbrev Has : {V : Type 0} → Kept V → Frame V → Type 0
Has t f = FrameHas t.P t.base f

abbrev HasIf : {V : Type 0} → Kept V → Does V → Type 0
HasIf t None = Unit {0}
HasIf t (Some next) = NextHas t.P t.x.image t.base next

-- ---- what may be missing

given_has : {V A : Type 0} (t : Kept V) (o : Option A) (h : A → Does V) → ((a : A) → o ≡ Some a → HasIf t (h a)) → HasIf t (given o h)
given_has t None h e = tt
given_has t (Some a) h e = e a refl

true_has : {V : Type 0} (t : Kept V) (b : Bool) (d : Does V) → (b ≡ true → HasIf t d) → HasIf t (where_true b d)
true_has t true d e = e refl
true_has t false d e = tt

if_has : {V : Type 0} (t : Kept V) (b : Bool) (d e : Does V) → HasIf t d → HasIf t e → HasIf t (cond b d e)
if_has t true d e h j = h
if_has t false d e h j = j

index_has : {V : Type 0} (t : Kept V) (f : Frame V) → Has t f → (o : Option ℕ) (line : ℕ) (next : ℕ → Does V) → ((n : ℕ) → HasIf t (next n)) → HasIf t (at_index o line f next)
index_has t f has None line next e = (has, tt)
index_has t f has (Some n) line next e = e n

computed_has : {V : Type 0} (t : Kept V) (line : ℕ) (r : Result ℤ TrapKind) (below : List ℤ) (f : Frame V) → Has t f → HasIf t (computed line r below f)
computed_has t line (Ok z) below f has = has
computed_has t line (Err kind) below f has = (has, tt)

word_has : {V : Type 0} (t : Kept V) (f : Frame V) (next : ℤ → List ℤ → Does V) → ((a : ℤ) (below : List ℤ) → HasIf t (next a below)) → HasIf t (on_word f next)
word_has t f next e = given_has t (popped f.words) _ (λ top is. e top.items top.below)

two_have : {V : Type 0} (t : Kept V) (f : Frame V) (next : ℤ → ℤ → List ℤ → Does V) → ((a b : ℤ) (below : List ℤ) → HasIf t (next a b below)) → HasIf t (on_two f next)
two_have t f next e = given_has t (popped f.words) _ (λ b is. given_has t (popped b.below) _ (λ a is. e a.items b.items a.below))

words_have : {V : Type 0} (t : Kept V) (count : ℕ) (f : Frame V) (next : List ℤ → List ℤ → Does V) → ((words below : List ℤ) → HasIf t (next words below)) → HasIf t (on_words count f next)
words_have t count f next e = given_has t (popped_all count f.words) _ (λ top is. e top.items top.below)

computes_has : {V : Type 0} (t : Kept V) (operation : ℤ → ℤ → Result ℤ TrapKind) (line : ℕ) (f : Frame V) → Has t f → HasIf t (computes operation line f)
computes_has t operation line f has = two_have t f _ (λ a b below. computed_has t line (operation a b) below f has)

compares_has : {V : Type 0} (t : Kept V) (test : ℤ → ℤ → Bool) (f : Frame V) → Has t f → HasIf t (compares test f)
compares_has t test f has = two_have t f _ (λ a b below. has)

reads_has : {V : Type 0} (t : Kept V) (line : ℕ) (input : List ℤ) (f : Frame V) → Has t f → HasIf t (reads line input f)
reads_has t line [] f has = (has, tt)
reads_has t line (z ∷ zs) f has = has

back_has : {V : Type 0} (t : Kept V) (words : List ℤ) (callers : List (Caller V)) (f : Frame V) → AllByRecursion (λ (caller : Caller V). CallerHas t.P t.base caller) callers → HasIf t (goes_back words callers f)
back_has t words [] f has = tt
back_has t words (caller ∷ callers) f has = record { here = has.0; callers = has.1 }

-- ---- flow values

got_has : {V : Type 0} (P : V → Type 0) (values : List V) (place : ℕ) (value : V) → AllByRecursion P values → slice_get values place ≡ Some value → P value
got_has P [] place value each h = absurd (cc h)
got_has P (v ∷ values) zero value each h = subst P (some_is v value h) each.0
got_has P (v ∷ values) (suc place) value each h = got_has P values place value each.1 h

put_has : {V : Type 0} (P : V → Type 0) (values : List V) (place : ℕ) (new : V) → AllByRecursion P values → P new → AllByRecursion P (slice_set values place new)
put_has P [] place new each is = tt
put_has P (v ∷ values) zero new each is = (is, each.1)
put_has P (v ∷ values) (suc place) new each is = (each.0, put_has P values place new each.1 is)

hold : {V : Type 0} (t : Kept V) (f : Frame V) (held : List V) → Has t f → AllByRecursion t.P held → Has t (record f { variables = held })
hold t f held has each = record { here = record { is_of = has.here.is_of; variables = each; flows = has.here.flows }; callers = has.callers }

flow_on : {V : Type 0} (t : Kept V) (f : Frame V) (flows : List (Flow V)) → Has t f → AllByRecursion (λ (flow : Flow V). t.P flow.value) flows → Has t (record f { flows = flows })
flow_on t f flows has each = record { here = record { is_of = has.here.is_of; variables = has.here.variables; flows = each }; callers = has.callers }

holding_has : {V : Type 0} (t : Kept V) (variable : ℕ) (new : V) (f : Frame V) → Has t f → t.P new → HasIf t (goes_holding (set_at variable new f.variables) f)
holding_has t variable new f has is = by_test (nat_lt variable (length f.variables)) where
  by_test : (b : Bool) → HasIf t (goes_holding (cond b (Some (slice_set f.variables variable new)) None) f)
  by_test true = hold t f (slice_set f.variables variable new) has (put_has t.P f.variables variable new has.here.variables is)
  by_test false = tt

stores_has : {V : Type 0} (t : Kept V) (variable : ℕ) (o : Option (List ℤ)) (f : Frame V) → Has t f → HasIf t (stores t.flows variable o f)
stores_has t variable None f has = tt
stores_has t variable (Some words) f has = holding_has t variable (t.flows.known words) f has (t.known words)

keeping_has : {V : Type 0} (t : Kept V) (o : Option (List ℤ)) (f : Frame V) → Has t f → HasIf t (goes_keeping o f)
keeping_has t None f has = tt
keeping_has t (Some kept) f has = record { here = has.here; callers = has.callers }

known_has : {V : Type 0} (t : Kept V) (variable : ℕ) (f : Frame V) (next : List ℤ → Does V) → ((held : List ℤ) → HasIf t (next held)) → HasIf t (on_known t.flows variable f next)
known_has t variable f next e = given_has t (slice_get f.variables variable) _ (λ value there. given_has t (known_words_of (t.flows.see value)) next (λ held is. e held))

needed_has : {V : Type 0} (t : Kept V) (value : V) (a : Arg) (f : Frame V) (next : List ℤ → Does V) → Has t f → t.P value → ((words : List ℤ) → HasIf t (next words)) → HasIf t (needed value a f next)
needed_has t value (Know words) f next has is e = e words
needed_has t value (Trapped trap) f next has is e = (has, tt)
needed_has t value Unknown f next has is e = (has, is)

on_flow_has : {V : Type 0} (t : Kept V) (flows : List (Flow V)) (next : Flow V → List (Flow V) → Does V) → AllByRecursion (λ (flow : Flow V). t.P flow.value) flows →
    ((flow : Flow V) (below : List (Flow V)) → t.P flow.value → AllByRecursion (λ (flow : Flow V). t.P flow.value) below → HasIf t (next flow below)) → HasIf t (given (popped flows) (λ top. next top.items top.below))
on_flow_has t [] next has e = tt
on_flow_has t (flow ∷ below) next has e = e flow below has.0 has.1

values_have : {V : Type 0} (P : V → Type 0) (flows : List (Flow V)) → AllByRecursion (λ (flow : Flow V). P flow.value) flows → AllByRecursion P (values_of flows)
values_have P [] each = tt
values_have P (flow ∷ flows) each = (each.0, values_have P flows each.1)

known_have : {V : Type 0} (t : Kept V) (values : List (List ℤ)) → AllByRecursion t.P (map t.flows.known values)
known_have t [] = tt
known_have t (words ∷ values) = (t.known words, known_have t values)

-- ---- what a code may do

post_of : (image : RawImage) (base code : Code) → IsOf base code → may_post image code ≡ true → may_post image base ≡ true
post_of image base (InFunction function) is h = absurd (cc h)
post_of image base InMain is h = ap (may_post image) (sym is) ∙ h
post_of image base (InMember member) is h = ap (may_post image) (sym is) ∙ h
post_of image base (InGuard entry) is h = absurd (cc h)

give_of : (image : RawImage) (base code : Code) (words : ℕ) → IsOf base code → given_words image code ≡ Some words → MayGive image base
give_of image base (InFunction function) words is h = absurd (cc h)
give_of image base InMain words is h = absurd (cc h)
give_of image base (InMember member) words is h = (words, ap (given_words image) (sym is) ∙ h)
give_of image base (InGuard entry) words is h = absurd (cc h)

regular_member : (image : RawImage) (member : ℕ) (m : RawMember) → slice_get image.members member ≡ Some m → is_regular image m ≡ Some true → member_is_regular image member ≡ true
regular_member image member m is kind = ap (found_regular image) is ∙ ap (λ (o : Option Bool). unwrap_or o false) kind

calls_have : {V : Type 0} (t : Kept V) (member : ℕ) (m : RawMember) (object : ℤ) (f : Frame V) → Has t f → MayCall t.x.image t.base member → HasIf t (calls member m object f)
calls_have {V = V} t member m object f has may = given_has t (popped_all m.formals f.flows) _ (λ top popped. true_has t (sizes_agree (sizes_of_formals m) top.items) _ (λ agree.
    let from = popped_from (λ (flow : Flow V). t.P flow.value) m.formals f.flows top has.here.flows popped in
    (flow_on t f top.below has from.below, (values_have t.P top.items from.items, may))))

-- a member of a class that is regular, or that isn't
member_has : {V : Type 0} (t : Kept V) (member count : ℕ) (kind : Bool → Bool) (next : RawMember → Does V) →
    ((m : RawMember) (regular : Bool) → slice_get t.x.image.members member ≡ Some m → is_regular t.x.image m ≡ Some regular → kind regular ≡ true → HasIf t (next m)) → HasIf t (on_member t.x member count kind next)
member_has t member count kind next e = given_has t (slice_get t.x.image.members member) _ (λ m is. given_has t (is_regular t.x.image m) _ (λ regular kinded.
    true_has t (kind regular) _ (λ right. true_has t (m.formals == count) _ (λ _. e m regular is kinded right))))

function_has : {V : Type 0} (t : Kept V) (function : ℕ) (called : RawFunction) (words below : List ℤ) (f : Frame V) → Has t f → Has t (start_function t.flows function called words below f)
function_has t function called words below f has = record {
  here = record { is_of = tt; variables = known_have t (variables_holding called.formals called.body.vars words); flows = tt };
  callers = (has.here, has.callers);
}

-- ---- instructions

does_has : {V : Type 0} (t : Kept V) (i : Instr) (f : Frame V) →
    Has t f → HasIf t (does t.flows t.x i f)
does_has t (instr.Push word) f has = has
does_has t (instr.Drop count) f has = words_have t count f _ (λ words below. has)
does_has t (instr.Load variable offset count) f has = known_has t variable f _ (λ held. given_has t (read_words offset count held) _ (λ words is. has))
does_has t (instr.Store variable offset count) f has =
    known_has t variable f _ (λ held. words_have t count f _ (λ words below. stores_has t variable (write_words offset words held) (record f { words = below }) has))
does_has t (instr.LoadIndexed variable offset count line) f has =
    known_has t variable f _ (λ held. given_has t (read_words offset count held) _ (λ array is. word_has t f _ (λ i below.
    index_has t f has (index_below count i) line _ (λ n. given_has t (read_words n 1 array) _ (λ words is. has)))))
does_has t (instr.StoreIndexed variable offset count line) f has =
    known_has t variable f _ (λ held. given_has t (read_words offset count held) _ (λ array is. two_have t f _ (λ word i below.
    index_has t f has (index_below count i) line _ (λ n. stores_has t variable (write_words (offset + n) (word ∷ []) held) (record f { words = below }) has))))
does_has t (instr.Zero variable) f has = given_has t (size_of t.x variable f) _ (λ size is. holding_has t variable (t.flows.known (zeros size)) f has (t.known (zeros size)))
does_has t (instr.Copy variable source) f has =
    given_has t (size_of t.x variable f) _ (λ size is. given_has t (size_of t.x source f) _ (λ same sized. true_has t (same == size) _ (λ equal.
    given_has t (slice_get f.variables source) _ (λ value there. holding_has t variable value f has (got_has t.P f.variables source value has.here.variables there)))))
does_has t (instr.Need variable) f has =
    given_has t (slice_get f.variables variable) _ (λ value there. needed_has t value (t.flows.see value) f _ has (got_has t.P f.variables variable value has.here.variables there) (λ words. has))
does_has t (instr.Fetch offset count) f has = true_has t (has_state t.x.image f.code) _ (λ _. given_has t (read_words offset count f.state) _ (λ words is. has))
does_has t (instr.Keep offset count) f has =
    true_has t (has_object t.x.image f.code) _ (λ _. words_have t count f _ (λ words below. keeping_has t (write_words offset words f.state) (record f { words = below }) has))
does_has t (instr.FetchIndexed offset count line) f has =
    true_has t (has_state t.x.image f.code) _ (λ _. given_has t (read_words offset count f.state) _ (λ array is. word_has t f _ (λ i below.
    index_has t f has (index_below count i) line _ (λ n. given_has t (read_words n 1 array) _ (λ words is. has)))))
does_has t (instr.KeepIndexed offset count line) f has =
    true_has t (has_object t.x.image f.code) _ (λ _. given_has t (read_words offset count f.state) _ (λ array is. two_have t f _ (λ word i below.
    index_has t f has (index_below count i) line _ (λ n. keeping_has t (write_words (offset + n) (word ∷ []) f.state) (record f { words = below }) has))))
does_has t (instr.Add line) f has = computes_has t arithmetic.sum line f has
does_has t (instr.Sub line) f has = computes_has t arithmetic.difference line f has
does_has t (instr.Mul line) f has = computes_has t arithmetic.product line f has
does_has t (instr.Div line) f has = computes_has t arithmetic.quotient line f has
does_has t (instr.Rem line) f has = computes_has t arithmetic.remainder line f has
does_has t (instr.Neg line) f has = word_has t f _ (λ a below. computed_has t line (arithmetic.negation a) below f has)
does_has t instr.Not f has = word_has t f _ (λ a below. has)
does_has t instr.Equal f has = compares_has t int_eq f has
does_has t instr.NotEqual f has = compares_has t (λ a b. not (int_eq a b)) f has
does_has t instr.Less f has = compares_has t int_lt f has
does_has t instr.LessEqual f has = compares_has t int_le f has
does_has t instr.Greater f has = compares_has t (λ a b. int_lt b a) f has
does_has t instr.GreaterEqual f has = compares_has t (λ a b. int_le b a) f has
does_has t (instr.Jump place) f has = true_has t (is_place t.x.image f.code place) _ (λ _. has)
does_has t (instr.JumpZero place) f has = true_has t (is_place t.x.image f.code place) _ (λ _. word_has t f _ (λ a below. if_has t (int_eq a (pos 0)) _ _ has has))
does_has t instr.Test f has = has
does_has t (instr.Call function) f has =
    given_has t (slice_get t.x.image.functions function) _ (λ called is. words_have t (sum (take called.formals called.body.vars)) f _ (λ words below. function_has t function called words below f has))
does_has t (instr.Return count) f has =
    given_has t (function_of t.x.image f.code) _ (λ function is. true_has t (function.result == count) _ (λ _. words_have t count f _ (λ words below. back_has t words f.callers f has.callers)))
does_has t instr.Own f has = true_has t (has_object t.x.image f.code) _ (λ _. has)
does_has t (instr.Bound line) f has = word_has t f _ (λ object below. if_has t (int_eq object (pos 0)) _ _ (has, tt) has)
does_has t (instr.ArgWords count) f has = words_have t count f _ (λ words below. flow_on t f (record { value = t.flows.known words; words = count } ∷ f.flows) has (t.known words, has.here.flows))
does_has t (instr.ArgVariable variable) f has =
    given_has t (size_of t.x variable f) _ (λ size is. given_has t (slice_get f.variables variable) _ (λ value there.
    flow_on t f (record { value = value; words = size } ∷ f.flows) has (got_has t.P f.variables variable value has.here.variables there, has.here.flows)))
does_has t (instr.Send member count) f has =
    true_has t (may_send f.code) _ (λ _. member_has t member count (λ regular. regular) _ (λ m kind is kinded right.
    calls_have t member m (pos 0) f has (inl (regular_member t.x.image member m is (kinded ∙ ap (λ (b : Bool). Some b) right)))))
does_has t (instr.Post member count) f has =
    true_has t (may_post t.x.image f.code) _ (λ may. member_has t member count not _ (λ m kind is kinded right. word_has t f _ (λ object below.
    calls_have t member m object (record f { words = below }) has (inr (post_of t.x.image t.base f.code has.here.is_of may)))))
does_has t (instr.SetVariable variable) f has =
    on_flow_has t f.flows _ has.here.flows (λ flow below is rest. given_has t (size_of t.x variable f) _ (λ size sized. true_has t (flow.words == size) _ (λ equal.
    holding_has t variable flow.value (record f { flows = below }) (flow_on t f below has rest) is)))
does_has t instr.DropFlow f has = on_flow_has t f.flows _ has.here.flows (λ flow below is rest. flow_on t f below has rest)
does_has t instr.Force f has = on_flow_has t f.flows _ has.here.flows (λ flow below is rest. needed_has t flow.value (t.flows.see flow.value) f _ has is (λ words. flow_on t f below has rest))
does_has t (instr.Create class) f has =
    true_has t (may_post t.x.image f.code) _ (λ may. given_has t (slice_get t.x.image.classes class) _ (λ c is. true_has t (not c.regular) _ (λ _. (has, post_of t.x.image t.base f.code has.here.is_of may))))
does_has t (instr.Reply line) f has =
    given_has t (given_words t.x.image f.code) _ (λ words is. on_flow_has t f.flows _ has.here.flows (λ flow below held rest. true_has t (flow.words == words) _ (λ equal.
    if_has t f.replied _ _ (has, tt) (flow_on t f below has rest, (held, give_of t.x.image t.base f.code words has.here.is_of is)))))
does_has t (instr.Input line) f has = true_has t (is_main f.code) _ (λ _. reads_has t line f.input f has)
does_has t (instr.Print letters) f has = true_has t (is_main f.code) _ (λ _. words_have t (length letters) f _ (λ words below. has))
does_has t (instr.End line) f has = (has, tt)
does_has t (instr.Fail line) f has = given_has t (function_of t.x.image f.code) _ (λ function is. (has, tt))

pub step_has : {V : Type 0} (t : Kept V) (f : Frame V) → FrameHas t.P t.base f → NextHas t.P t.x.image t.base (step t.flows t.x f)
step_has {V = V} t f has = at_instruction (slice_get (text_at t.x.image f.code) f.place) where
  strays : (d : Does V) → HasIf t d → NextHas t.P t.x.image t.base (or_strays f d)
  strays None h = (has, tt)
  strays (Some next) h = h

  at_instruction : (o : Option Instr) → NextHas t.P t.x.image t.base (or_strays f (given o (λ i. does t.flows t.x i f)))
  at_instruction None = (has, tt)
  at_instruction (Some i) = strays (does t.flows t.x i f) (does_has t i f has)
