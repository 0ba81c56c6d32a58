-- Frames of images whose classes are regular call regular members alone, and create nothing.
use Rattle.std.proofs.Common.{◌≡◌, ℕ, zero, suc, ◌+◌, ◌==◌, Bool, true, false, not, sum, cond, List, [], ◌∷◌, length, take, Option, Some, None, Result, Ok, Err, ℤ, pos, int_lt, int_le, ◌∙◌, refl, ap, subst, slice_get}
use Rattle.std.specs.Option.{unwrap_or}
use Rattle.std.specs.Ordering.{int_eq}
use Rattle.mpl_value.specs.declared.body.Arg.{Arg}
use Rattle.mpl_value.specs.declared.body.Arg.TheVariants.{Know, Trapped, Unknown}
use Rattle.mpl_value.specs.declared.body.BodyStart.{BodyStart}
use Rattle.mpl_value.specs.declared.known.TrapKind.{TrapKind}
use Rattle.mpl_value.specs.Arithmetic as arithmetic
use Rattle.mpl_value.specs.Words.{index_below, zeros}
use Rattle.mpl_mean.specs.Meaning.DirectRun.{main_start}
use Rattle.mdf_code.specs.declared.instr.Instr.{Instr}
use Rattle.mdf_code.specs.declared.instr.Instr.TheVariants as instr
use Rattle.mdf_code.specs.declared.raw.RawClass.{RawClass}
use Rattle.mdf_code.specs.declared.raw.RawImage.{RawImage}
use Rattle.mdf_code.specs.declared.raw.RawMember.{RawMember}
use Rattle.mdf_code.specs.Alone.{Held, framed}
use Rattle.mdf_code.specs.Frames.{Around, Caller, Flow, Flows, Frame, Next, Goes, Spends, Stops, Stop, Calls, Creates, Ends, Needs, Replies, Strays, Traps}
use Rattle.mdf_code.specs.Parts.{class_is_regular, function_of, given_words, has_object, has_state, is_main, is_place, is_regular, may_post, may_send, sizes_of_formals, text_at}
use Rattle.mdf_code.specs.Stacks.{given, known_words_of, popped, popped_all, read_words, set_at, where_true, write_words}
use Rattle.mdf_code.specs.Steps.{Does, at_index, calls, compares, computed, computes, does, goes_back, goes_holding, goes_keeping, needed, on_known, on_member, on_two, on_word, on_words, or_strays, reads, size_of, sizes_agree, step, stores}
use Rattle.mdf_code.specs.Told.{Alone, Beats, Halt, HaltsNext, Stands, Stood, Told, after, around_start, behind, most_turns, run, runs_on}
use Rattle.mdf_code.specs.Yields.{found_regular, member_is_regular}
use Rattle.mdf_core.specs.Worlds.{Job}
use Rattle.mdf_drive.specs.Plain.{EachRegular, IsPlain}

-- ---- stops

abbrev PlainStop : {V : Type 0} → RawImage → Stop V → Type 0
PlainStop image (Calls member object arguments) = member_is_regular image member ≡ true
PlainStop image (Needs value) = Unit {0}
PlainStop image (Replies value) = Unit {0}
PlainStop image (Creates class) = ⊥
PlainStop image (Ends line) = Unit {0}
PlainStop image Strays = Unit {0}
PlainStop image (Traps trap) = Unit {0}

abbrev PlainNext : {V : Type 0} → RawImage → Next V → Type 0
PlainNext image (Goes g) = Unit {0}
PlainNext image (Spends g) = Unit {0}
PlainNext image (Stops stop g) = PlainStop image stop

-- the flow values, and what a frame runs in, whose classes are regular
record PlainFrames (V : Type 0) : Type 1 where
  flows : Flows V
  x : Around
  classes : EachRegular x.image

abbrev PlainIf : {V : Type 0} → PlainFrames V → Does V → Type 0
PlainIf t None = Unit {0}
PlainIf t (Some next) = PlainNext t.x.image next

-- ---- what may be missing

given_plain : {V A : Type 0} (t : PlainFrames V) (o : Option A) (h : A → Does V) → ((a : A) → o ≡ Some a → PlainIf t (h a)) → PlainIf t (given o h)
given_plain t None h e = tt
given_plain t (Some a) h e = e a refl

true_plain : {V : Type 0} (t : PlainFrames V) (b : Bool) (d : Does V) → (b ≡ true → PlainIf t d) → PlainIf t (where_true b d)
true_plain t true d e = e refl
true_plain t false d e = tt

if_plain : {V : Type 0} (t : PlainFrames V) (b : Bool) (d e : Does V) → PlainIf t d → PlainIf t e → PlainIf t (cond b d e)
if_plain t true d e h j = h
if_plain t false d e h j = j

index_plain : {V : Type 0} (t : PlainFrames V) (f : Frame V) → (o : Option ℕ) (line : ℕ) (next : ℕ → Does V) → ((n : ℕ) → PlainIf t (next n)) → PlainIf t (at_index o line f next)
index_plain t f None line next e = tt
index_plain t f (Some n) line next e = e n

computed_plain : {V : Type 0} (t : PlainFrames V) (line : ℕ) (r : Result ℤ TrapKind) (below : List ℤ) (f : Frame V) → PlainIf t (computed line r below f)
computed_plain t line (Ok z) below f = tt
computed_plain t line (Err kind) below f = tt

word_plain : {V : Type 0} (t : PlainFrames V) (f : Frame V) (next : ℤ → List ℤ → Does V) → ((a : ℤ) (below : List ℤ) → PlainIf t (next a below)) → PlainIf t (on_word f next)
word_plain t f next e = given_plain t (popped f.words) _ (λ top is. e top.items top.below)

two_plain : {V : Type 0} (t : PlainFrames V) (f : Frame V) (next : ℤ → ℤ → List ℤ → Does V) → ((a b : ℤ) (below : List ℤ) → PlainIf t (next a b below)) → PlainIf t (on_two f next)
two_plain t f next e = given_plain t (popped f.words) _ (λ b is. given_plain t (popped b.below) _ (λ a is. e a.items b.items a.below))

words_plain : {V : Type 0} (t : PlainFrames V) (count : ℕ) (f : Frame V) (next : List ℤ → List ℤ → Does V) → ((words below : List ℤ) → PlainIf t (next words below)) → PlainIf t (on_words count f next)
words_plain t count f next e = given_plain t (popped_all count f.words) _ (λ top is. e top.items top.below)

computes_plain : {V : Type 0} (t : PlainFrames V) (operation : ℤ → ℤ → Result ℤ TrapKind) (line : ℕ) (f : Frame V) → PlainIf t (computes operation line f)
computes_plain t operation line f = two_plain t f _ (λ a b below. computed_plain t line (operation a b) below f)

compares_plain : {V : Type 0} (t : PlainFrames V) (test : ℤ → ℤ → Bool) (f : Frame V) → PlainIf t (compares test f)
compares_plain t test f = two_plain t f _ (λ a b below. tt)

reads_plain : {V : Type 0} (t : PlainFrames V) (line : ℕ) (input : List ℤ) (f : Frame V) → PlainIf t (reads line input f)
reads_plain t line [] f = tt
reads_plain t line (z ∷ zs) f = tt

back_plain : {V : Type 0} (t : PlainFrames V) (words : List ℤ) (callers : List (Caller V)) (f : Frame V) → PlainIf t (goes_back words callers f)
back_plain t words [] f = tt
back_plain t words (caller ∷ callers) f = tt

holding_plain : {V : Type 0} (t : PlainFrames V) (variable : ℕ) (new : V) (values : List V) (f : Frame V) → PlainIf t (goes_holding (set_at variable new values) f)
holding_plain {V = V} t variable new values f = by_held (set_at variable new values) where
  by_held : (o : Option (List V)) → PlainIf t (goes_holding o f)
  by_held None = tt
  by_held (Some held) = tt

stores_plain : {V : Type 0} (t : PlainFrames V) (variable : ℕ) (o : Option (List ℤ)) (f : Frame V) → PlainIf t (stores t.flows variable o f)
stores_plain t variable None f = tt
stores_plain t variable (Some words) f = holding_plain t variable (t.flows.known words) f.variables f

keeping_plain : {V : Type 0} (t : PlainFrames V) (o : Option (List ℤ)) (f : Frame V) → PlainIf t (goes_keeping o f)
keeping_plain t None f = tt
keeping_plain t (Some kept) f = tt

known_plain : {V : Type 0} (t : PlainFrames V) (variable : ℕ) (f : Frame V) (next : List ℤ → Does V) → ((held : List ℤ) → PlainIf t (next held)) → PlainIf t (on_known t.flows variable f next)
known_plain t variable f next e = given_plain t (slice_get f.variables variable) _ (λ value there. given_plain t (known_words_of (t.flows.see value)) next (λ held is. e held))

needed_plain : {V : Type 0} (t : PlainFrames V) (value : V) (a : Arg) (f : Frame V) (next : List ℤ → Does V) → ((words : List ℤ) → PlainIf t (next words)) → PlainIf t (needed value a f next)
needed_plain t value (Know words) f next e = e words
needed_plain t value (Trapped trap) f next e = tt
needed_plain t value Unknown f next e = tt

flow_plain : {V : Type 0} (t : PlainFrames V) (flows : List (Flow V)) (next : Flow V → List (Flow V) → Does V) → ((flow : Flow V) (below : List (Flow V)) → PlainIf t (next flow below)) → PlainIf t (given (popped flows) (λ top. next top.items top.below))
flow_plain t [] next e = tt
flow_plain t (flow ∷ below) next e = e flow below

calls_plain : {V : Type 0} (t : PlainFrames V) (member : ℕ) (m : RawMember) (object : ℤ) (f : Frame V) → member_is_regular t.x.image member ≡ true → PlainIf t (calls member m object f)
calls_plain t member m object f may = given_plain t (popped_all m.formals f.flows) _ (λ top popped. true_plain t (sizes_agree (sizes_of_formals m) top.items) _ (λ agree. may))

member_plain : {V : Type 0} (t : PlainFrames V) (member count : ℕ) (kind : Bool → Bool) (next : RawMember → Does V) →
    ((m : RawMember) (regular : Bool) → slice_get t.x.image.members member ≡ Some m → is_regular t.x.image m ≡ Some regular → kind regular ≡ true → PlainIf t (next m)) → PlainIf t (on_member t.x member count kind next)
member_plain t member count kind next e = given_plain t (slice_get t.x.image.members member) _ (λ m is. given_plain t (is_regular t.x.image m) _ (λ regular kinded.
    true_plain t (kind regular) _ (λ right. true_plain t (m.formals == count) _ (λ _. e m regular is kinded right))))

regular_member : (image : RawImage) (member : ℕ) (m : RawMember) → slice_get image.members member ≡ Some m → is_regular image m ≡ Some true → member_is_regular image member ≡ true
regular_member image member m is kind = ap (found_regular image) is ∙ ap (λ (o : Option Bool). unwrap_or o false) kind

false_true : (a b : Bool) → a ≡ true → a ≡ b → not b ≡ true → ⊥
false_true a true h e n = cc n
false_true a false h e n = cc (h, e)

-- no member is of a class that isn't regular
not_regular : (image : RawImage) (m : RawMember) (regular : Bool) → EachRegular image → is_regular image m ≡ Some regular → not regular ≡ true → ⊥
not_regular image m regular each kind h = by_class (slice_get image.classes m.class) refl kind where
  by_class : (o : Option RawClass) → slice_get image.classes m.class ≡ o → class_is_regular o ≡ Some regular → ⊥
  by_class None is e = cc e
  by_class (Some class) is e = false_true class.regular regular (each m.class class is) (some_same e) h where
    some_same : Some class.regular ≡ Some regular → class.regular ≡ regular
    some_same s = cc s

-- ---- instructions

does_plain : {V : Type 0} (t : PlainFrames V) (i : Instr) (f : Frame V) → PlainIf t (does t.flows t.x i f)
does_plain t (instr.Push word) f = tt
does_plain t (instr.Drop count) f = words_plain t count f _ (λ words below. tt)
does_plain t (instr.Load variable offset count) f = known_plain t variable f _ (λ held. given_plain t (read_words offset count held) _ (λ words is. tt))
does_plain t (instr.Store variable offset count) f =
    known_plain t variable f _ (λ held. words_plain t count f _ (λ words below. stores_plain t variable (write_words offset words held) (record f { words = below })))
does_plain t (instr.LoadIndexed variable offset count line) f =
    known_plain t variable f _ (λ held. given_plain t (read_words offset count held) _ (λ array is. word_plain t f _ (λ i below.
    index_plain t f (index_below count i) line _ (λ n. given_plain t (read_words n 1 array) _ (λ words is. tt)))))
does_plain t (instr.StoreIndexed variable offset count line) f =
    known_plain t variable f _ (λ held. given_plain t (read_words offset count held) _ (λ array is. two_plain t f _ (λ word i below.
    index_plain t f (index_below count i) line _ (λ n. stores_plain t variable (write_words (offset + n) (word ∷ []) held) (record f { words = below })))))
does_plain t (instr.Zero variable) f = given_plain t (size_of t.x variable f) _ (λ size is. holding_plain t variable (t.flows.known (zeros size)) f.variables f)
does_plain t (instr.Copy variable source) f =
    given_plain t (size_of t.x variable f) _ (λ size is. given_plain t (size_of t.x source f) _ (λ same sized. true_plain t (same == size) _ (λ equal.
    given_plain t (slice_get f.variables source) _ (λ value there. holding_plain t variable value f.variables f))))
does_plain t (instr.Need variable) f =
    given_plain t (slice_get f.variables variable) _ (λ value there. needed_plain t value (t.flows.see value) f _ (λ words. tt))
does_plain t (instr.Fetch offset count) f = true_plain t (has_state t.x.image f.code) _ (λ _. given_plain t (read_words offset count f.state) _ (λ words is. tt))
does_plain t (instr.Keep offset count) f =
    true_plain t (has_object t.x.image f.code) _ (λ _. words_plain t count f _ (λ words below. keeping_plain t (write_words offset words f.state) (record f { words = below })))
does_plain t (instr.FetchIndexed offset count line) f =
    true_plain t (has_state t.x.image f.code) _ (λ _. given_plain t (read_words offset count f.state) _ (λ array is. word_plain t f _ (λ i below.
    index_plain t f (index_below count i) line _ (λ n. given_plain t (read_words n 1 array) _ (λ words is. tt)))))
does_plain t (instr.KeepIndexed offset count line) f =
    true_plain t (has_object t.x.image f.code) _ (λ _. given_plain t (read_words offset count f.state) _ (λ array is. two_plain t f _ (λ word i below.
    index_plain t f (index_below count i) line _ (λ n. keeping_plain t (write_words (offset + n) (word ∷ []) f.state) (record f { words = below })))))
does_plain t (instr.Add line) f = computes_plain t arithmetic.sum line f
does_plain t (instr.Sub line) f = computes_plain t arithmetic.difference line f
does_plain t (instr.Mul line) f = computes_plain t arithmetic.product line f
does_plain t (instr.Div line) f = computes_plain t arithmetic.quotient line f
does_plain t (instr.Rem line) f = computes_plain t arithmetic.remainder line f
does_plain t (instr.Neg line) f = word_plain t f _ (λ a below. computed_plain t line (arithmetic.negation a) below f)
does_plain t instr.Not f = word_plain t f _ (λ a below. tt)
does_plain t instr.Equal f = compares_plain t int_eq f
does_plain t instr.NotEqual f = compares_plain t (λ a b. not (int_eq a b)) f
does_plain t instr.Less f = compares_plain t int_lt f
does_plain t instr.LessEqual f = compares_plain t int_le f
does_plain t instr.Greater f = compares_plain t (λ a b. int_lt b a) f
does_plain t instr.GreaterEqual f = compares_plain t (λ a b. int_le b a) f
does_plain t (instr.Jump place) f = true_plain t (is_place t.x.image f.code place) _ (λ _. tt)
does_plain t (instr.JumpZero place) f = true_plain t (is_place t.x.image f.code place) _ (λ _. word_plain t f _ (λ a below. if_plain t (int_eq a (pos 0)) _ _ tt tt))
does_plain t instr.Test f = tt
does_plain t (instr.Call function) f =
    given_plain t (slice_get t.x.image.functions function) _ (λ called is. words_plain t (sum (take called.formals called.body.vars)) f _ (λ words below. tt))
does_plain t (instr.Return count) f =
    given_plain t (function_of t.x.image f.code) _ (λ function is. true_plain t (function.result == count) _ (λ _. words_plain t count f _ (λ words below. back_plain t words f.callers f)))
does_plain t instr.Own f = true_plain t (has_object t.x.image f.code) _ (λ _. tt)
does_plain t (instr.Bound line) f = word_plain t f _ (λ object below. if_plain t (int_eq object (pos 0)) _ _ tt tt)
does_plain t (instr.ArgWords count) f = words_plain t count f _ (λ words below. tt)
does_plain t (instr.ArgVariable variable) f = given_plain t (size_of t.x variable f) _ (λ size is. given_plain t (slice_get f.variables variable) _ (λ value there. tt))
does_plain t (instr.Send member count) f =
    true_plain t (may_send f.code) _ (λ _. member_plain t member count (λ regular. regular) _ (λ m kind is kinded right.
    calls_plain t member m (pos 0) f (regular_member t.x.image member m is (kinded ∙ ap (λ (b : Bool). Some b) right))))
does_plain t (instr.Post member count) f =
    true_plain t (may_post t.x.image f.code) _ (λ may. member_plain t member count not _ (λ m kind is kinded right. absurd (not_regular t.x.image m kind t.classes kinded right)))
does_plain t (instr.SetVariable variable) f =
    flow_plain t f.flows _ (λ flow below. given_plain t (size_of t.x variable f) _ (λ size sized. true_plain t (flow.words == size) _ (λ equal. holding_plain t variable flow.value f.variables (record f { flows = below }))))
does_plain t instr.DropFlow f = flow_plain t f.flows _ (λ flow below. tt)
does_plain t instr.Force f = flow_plain t f.flows _ (λ flow below. needed_plain t flow.value (t.flows.see flow.value) f _ (λ words. tt))
does_plain t (instr.Create class) f =
    true_plain t (may_post t.x.image f.code) _ (λ may. given_plain t (slice_get t.x.image.classes class) _ (λ c is. true_plain t (not c.regular) _ (λ n. absurd (false_true c.regular c.regular (t.classes class c is) refl n))))
does_plain t (instr.Reply line) f =
    given_plain t (given_words t.x.image f.code) _ (λ words is. flow_plain t f.flows _ (λ flow below. true_plain t (flow.words == words) _ (λ equal. if_plain t f.replied _ _ tt tt)))
does_plain t (instr.Input line) f = true_plain t (is_main f.code) _ (λ _. reads_plain t line f.input f)
does_plain t (instr.Print letters) f = true_plain t (is_main f.code) _ (λ _. words_plain t (length letters) f _ (λ words below. tt))
does_plain t (instr.End line) f = tt
does_plain t (instr.Fail line) f = given_plain t (function_of t.x.image f.code) _ (λ function is. tt)

step_plain : {V : Type 0} (t : PlainFrames V) (f : Frame V) → PlainNext t.x.image (step t.flows t.x f)
step_plain {V = V} t f = at_instruction (slice_get (text_at t.x.image f.code) f.place) where
  strays : (d : Does V) → PlainIf t d → PlainNext t.x.image (or_strays f d)
  strays None h = tt
  strays (Some next) h = h

  at_instruction : (o : Option Instr) → PlainNext t.x.image (or_strays f (given o (λ i. does t.flows t.x i f)))
  at_instruction None = tt
  at_instruction (Some i) = strays (does t.flows t.x i f) (does_plain t i f)

-- ---- halts

abbrev PlainHalt : RawImage → Halt → Type 0
PlainHalt image (Stands stop) = PlainStop image stop
PlainHalt image Beats = Unit {0}

some_stood : (s t : Stood) → Some s ≡ Some t → s ≡ t
some_stood s t h = cc h

run_plain : (x : Around) → EachRegular x.image → (fuel : ℕ) (knows : ℕ → Arg) (quantum turns : ℕ) (f : Frame Held) (stood : Stood) → run fuel knows x quantum turns f ≡ Some stood → PlainHalt x.image stood.halt
run_plain x each zero knows quantum turns f stood h = absurd (cc h)
run_plain x each (suc fuel) knows quantum turns f stood h = by_next (run_plain x each fuel knows quantum) (step (framed knows) x f) (step_plain (record { flows = framed knows; x = x; classes = each }) f) h where
  by_turn : ((n : ℕ) (g : Frame Held) (s : Stood) → run fuel knows x quantum n g ≡ Some s → PlainHalt x.image s.halt) → (g : Frame Held) (b : Bool) →
      cond b (Some (record { halt = Beats; turns = turns + 1; frame = g })) (run fuel knows x quantum (turns + 1) g) ≡ Some stood → PlainHalt x.image stood.halt
  by_turn again g true e = subst (λ s. PlainHalt x.image s.halt) (some_stood (record { halt = Beats; turns = turns + 1; frame = g }) stood e) tt
  by_turn again g false e = again (turns + 1) g stood e

  by_next : ((n : ℕ) (g : Frame Held) (s : Stood) → run fuel knows x quantum n g ≡ Some s → PlainHalt x.image s.halt) → (next : Next Held) → PlainNext x.image next → after (run fuel knows x quantum) quantum turns next ≡ Some stood → PlainHalt x.image stood.halt
  by_next again (Goes g) p e = again turns g stood e
  by_next again (Spends g) p e = by_turn again g (turns + 1 == quantum) e
  by_next again (Stops stop g) p e = subst (λ s. PlainHalt x.image s.halt) (some_stood (record { halt = Stands stop; turns = turns; frame = g }) stood e) p

halt_plain : (image : RawImage) (start : BodyStart) → EachRegular image → (told : List Told) (stood : Stood) → HaltsNext image start told stood → PlainHalt image stood.halt
halt_plain image start each told stood halts = by_behind (behind halts.steps image start told) halts.within where
  by_behind : (o : Option Alone) → given o (runs_on halts.steps image start) ≡ Some stood → PlainHalt image stood.halt
  by_behind None i = absurd (cc i)
  by_behind (Some a) i = run_plain (around_start image start) each halts.steps a.knows most_turns 0 a.frame stood i

pub regular_images_are_plain : (job : Job) → EachRegular job.image → IsPlain job
regular_images_are_plain job each = record {
  calls = λ told stood member object arguments halts is. subst (PlainHalt job.image) is (halt_plain job.image (main_start job.input) each told stood halts);
  creates = λ told stood class halts is. absurd (subst (PlainHalt job.image) is (halt_plain job.image (main_start job.input) each told stood halts));
}
