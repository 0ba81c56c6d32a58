-- A step prints behind what was printed, and gives the body's result once.
use Rattle.std.proofs.Common.{◌≡◌, ℕ, ◌+◌, ◌==◌, Bool, true, false, not, sum, cond, List, [], ◌∷◌, ◌++◌, length, take, Option, Some, None, Result, Ok, Err, ℤ, pos, int_lt, int_le, sym, ◌∙◌, refl, subst}
use Rattle.std.specs.List.{slice_get}
use Rattle.std.specs.Ordering.{int_eq}
use Rattle.mpl_value.specs.declared.body.Arg.{Arg}
use Rattle.mpl_value.specs.declared.body.Arg.TheVariants.{Know, Trapped, Unknown}
use Rattle.mpl_value.specs.declared.known.TrapKind.{TrapKind}
use Rattle.mpl_value.specs.Arithmetic as arithmetic
use Rattle.mpl_value.specs.Growing.{IsFront}
use Rattle.mpl_value.specs.Words.{bool_word, index_below, zeros}
use Rattle.mdf_code.specs.declared.instr.Instr.{Instr}
use Rattle.mdf_code.specs.declared.instr.Instr.TheVariants as instr
use Rattle.mdf_code.specs.declared.raw.RawMember.{RawMember}
use Rattle.mdf_code.specs.Frames.{Around, Caller, Flows, Frame, Next, Goes, Spends, Stops, Calls, Creates, Ends, Needs, Replies, Strays, Traps}
use Rattle.mdf_code.specs.Parts.{function_of, given_words, has_object, has_state, is_main, is_place, is_regular, may_post, may_send, sizes_of_formals, text_at}
use Rattle.mdf_code.specs.Stacks.{given, known_words_of, popped, popped_all, read_words, set_at, where_true, write_words}
use Rattle.mdf_code.specs.Steps.{Does, at_index, calls, compares, computed, computes, does, goes, goes_back, goes_holding, goes_keeping, line_of, needed, on_known, on_member, on_two, on_word, on_words, onward, or_strays, reads, size_of, sizes_agree, step, stops, stores}

-- ---- fronts

pub front_same : {A : Type 0} (items : List A) → IsFront items items
front_same [] = tt
front_same (item ∷ items) = (refl, front_same items)

pub front_appended : {A : Type 0} (items more : List A) → IsFront items (items ++ more)
front_appended [] more = tt
front_appended (item ∷ items) more = (refl, front_appended items more)

pub front_after : {A : Type 0} (one two three : List A) → IsFront one two → IsFront two three → IsFront one three
front_after [] two three h g = tt
front_after (a ∷ one) [] three h g = absurd h
front_after (a ∷ one) (b ∷ two) [] h g = absurd g
front_after (a ∷ one) (b ∷ two) (c ∷ three) h g = (h.0 ∙ g.0, front_after one two three h.1 g.1)

-- ---- what a step adds

-- it printed more at most
pub record PrintsMore {V : Type 0} (f g : Frame V) : Type 0 where
  pub lines : IsFront f.lines g.lines
  pub replied : g.replied ≡ f.replied

-- it gave the result, which wasn't given
pub record GivesFirst {V : Type 0} (f g : Frame V) : Type 0 where
  pub lines : g.lines ≡ f.lines
  pub before : f.replied ≡ false
  pub after : g.replied ≡ true

abbrev pub Adds : {V : Type 0} → Frame V → Next V → Type 0
Adds f (Goes g) = PrintsMore f g
Adds f (Spends g) = PrintsMore f g
Adds f (Stops (Replies value) g) = GivesFirst f g
Adds f (Stops (Needs value) g) = f ≡ g
Adds f (Stops (Calls member object arguments) g) = PrintsMore f g
Adds f (Stops (Creates class) g) = PrintsMore f g
Adds f (Stops (Ends line) g) = PrintsMore f g
Adds f (Stops Strays g) = PrintsMore f g
Adds f (Stops (Traps trap) g) = PrintsMore f g

abbrev AddsIf : {V : Type 0} → Frame V → Does V → Type 0
AddsIf f None = Unit {0}
AddsIf f (Some next) = Adds f next

-- the same lines, and the result as before
abbrev Same : {V : Type 0} → Frame V → Frame V → Type 0
Same f g = (g.lines ≡ f.lines) × (g.replied ≡ f.replied)

pub prints_none : {V : Type 0} (f g : Frame V) → Same f g → PrintsMore f g
prints_none f g same = record { lines = subst (IsFront f.lines) (sym same.0) (front_same f.lines); replied = same.1 }

-- ---- what may be missing

given_adds : {V A : Type 0} (f : Frame V) (o : Option A) (h : A → Does V) → ((a : A) → AddsIf f (h a)) → AddsIf f (given o h)
given_adds f None h e = tt
given_adds f (Some a) h e = e a

true_adds : {V : Type 0} (f : Frame V) (b : Bool) (d : Does V) → AddsIf f d → AddsIf f (where_true b d)
true_adds f true d e = e
true_adds f false d e = tt

if_adds : {V : Type 0} (f : Frame V) (b : Bool) (d e : Does V) → AddsIf f d → AddsIf f e → AddsIf f (cond b d e)
if_adds f true d e h j = h
if_adds f false d e h j = j

goes_adds : {V : Type 0} (f g : Frame V) → Same f g → AddsIf f (goes g)
goes_adds f g same = prints_none f (onward g) same

index_adds : {V : Type 0} (f : Frame V) (o : Option ℕ) (line : ℕ) (next : ℕ → Does V) → ((n : ℕ) → AddsIf f (next n)) → AddsIf f (at_index o line f next)
index_adds f None line next e = prints_none f f (refl, refl)
index_adds f (Some n) line next e = e n

computed_adds : {V : Type 0} (line : ℕ) (r : Result ℤ TrapKind) (below : List ℤ) (f : Frame V) → AddsIf f (computed line r below f)
computed_adds line (Ok z) below f = goes_adds f (record f { words = z ∷ below }) (refl, refl)
computed_adds line (Err kind) below f = prints_none f f (refl, refl)

word_adds : {V : Type 0} (f : Frame V) (next : ℤ → List ℤ → Does V) → ((a : ℤ) (below : List ℤ) → AddsIf f (next a below)) → AddsIf f (on_word f next)
word_adds f next e = given_adds f (popped f.words) _ (λ top. e top.items top.below)

two_add : {V : Type 0} (f : Frame V) (next : ℤ → ℤ → List ℤ → Does V) → ((a b : ℤ) (below : List ℤ) → AddsIf f (next a b below)) → AddsIf f (on_two f next)
two_add f next e = given_adds f (popped f.words) _ (λ b. given_adds f (popped b.below) _ (λ a. e a.items b.items a.below))

words_add : {V : Type 0} (count : ℕ) (f : Frame V) (next : List ℤ → List ℤ → Does V) → ((words below : List ℤ) → AddsIf f (next words below)) → AddsIf f (on_words count f next)
words_add count f next e = given_adds f (popped_all count f.words) _ (λ top. e top.items top.below)

computes_adds : {V : Type 0} (operation : ℤ → ℤ → Result ℤ TrapKind) (line : ℕ) (f : Frame V) → AddsIf f (computes operation line f)
computes_adds operation line f = two_add f _ (λ a b below. computed_adds line (operation a b) below f)

compares_adds : {V : Type 0} (test : ℤ → ℤ → Bool) (f : Frame V) → AddsIf f (compares test f)
compares_adds test f = two_add f _ (λ a b below. goes_adds f (record f { words = bool_word (test a b) ∷ below }) (refl, refl))

reads_adds : {V : Type 0} (line : ℕ) (input : List ℤ) (f : Frame V) → AddsIf f (reads line input f)
reads_adds line [] f = prints_none f f (refl, refl)
reads_adds line (z ∷ zs) f = goes_adds f (record f { words = z ∷ f.words; input = zs }) (refl, refl)

back_adds : {V : Type 0} (words : List ℤ) (callers : List (Caller V)) (f : Frame V) → AddsIf f (goes_back words callers f)
back_adds words [] f = tt
back_adds words (caller ∷ callers) f = record { lines = front_same f.lines; replied = refl }

holding_adds : {V : Type 0} (o : Option (List V)) (f g : Frame V) → Same f g → AddsIf f (goes_holding o g)
holding_adds None f g same = tt
holding_adds (Some held) f g same = goes_adds f (record g { variables = held }) same

keeping_adds : {V : Type 0} (o : Option (List ℤ)) (f g : Frame V) → Same f g → AddsIf f (goes_keeping o g)
keeping_adds None f g same = tt
keeping_adds (Some kept) f g same = goes_adds f (record g { state = kept }) same

stores_adds : {V : Type 0} (flows : Flows V) (variable : ℕ) (o : Option (List ℤ)) (f g : Frame V) → Same f g → AddsIf f (stores flows variable o g)
stores_adds flows variable None f g same = tt
stores_adds flows variable (Some words) f g same = holding_adds (set_at variable (flows.known words) g.variables) f g same

known_adds : {V : Type 0} (flows : Flows V) (variable : ℕ) (f : Frame V) (next : List ℤ → Does V) → ((words : List ℤ) → AddsIf f (next words)) → AddsIf f (on_known flows variable f next)
known_adds flows variable f next e = given_adds f (slice_get f.variables variable) _ (λ value. given_adds f (known_words_of (flows.see value)) next e)

needed_adds : {V : Type 0} (value : V) (a : Arg) (f : Frame V) (next : List ℤ → Does V) → ((words : List ℤ) → AddsIf f (next words)) → AddsIf f (needed value a f next)
needed_adds value (Know words) f next e = e words
needed_adds value (Trapped t) f next e = prints_none f f (refl, refl)
needed_adds value Unknown f next e = refl

calls_add : {V : Type 0} (member : ℕ) (m : RawMember) (object : ℤ) (f g : Frame V) → Same f g → AddsIf f (calls member m object g)
calls_add member m object f g same = given_adds f (popped_all m.formals g.flows) _ (λ top. true_adds f (sizes_agree (sizes_of_formals m) top.items) _
    (prints_none f (onward (record g { flows = top.below })) same))

member_adds : {V : Type 0} (f : Frame V) (x : Around) (member count : ℕ) (kind : Bool → Bool) (next : RawMember → Does V) → ((m : RawMember) → AddsIf f (next m)) → AddsIf f (on_member x member count kind next)
member_adds f x member count kind next e = given_adds f (slice_get x.image.members member) _ (λ m. given_adds f (is_regular x.image m) _ (λ regular.
    true_adds f (kind regular) _ (true_adds f (m.formals == count) _ (e m))))

not_replied : {V : Type 0} (f g : Frame V) (value : V) → Same f g → (b : Bool) → f.replied ≡ b → (d : Does V) → AddsIf f d → AddsIf f (cond b d (stops (Replies value) (record g { replied = true })))
not_replied f g value same true is d e = e
not_replied f g value same false is d e = record { lines = same.0; before = is; after = refl }

-- ---- instructions

does_add : {V : Type 0} (flows : Flows V) (x : Around) (i : Instr) (f : Frame V) → AddsIf f (does flows x i f)
does_add flows x (instr.Push word) f = goes_adds f _ (refl, refl)
does_add flows x (instr.Drop count) f = words_add count f _ (λ words below. goes_adds f _ (refl, refl))
does_add flows x (instr.Load variable offset count) f = known_adds flows variable f _ (λ held. given_adds f (read_words offset count held) _ (λ words. goes_adds f _ (refl, refl)))
does_add flows x (instr.Store variable offset count) f =
    known_adds flows variable f _ (λ held. words_add count f _ (λ words below. stores_adds flows variable (write_words offset words held) f (record f { words = below }) (refl, refl)))
does_add flows x (instr.LoadIndexed variable offset count line) f =
    known_adds flows variable f _ (λ held. given_adds f (read_words offset count held) _ (λ array. word_adds f _ (λ i below.
    index_adds f (index_below count i) line _ (λ n. given_adds f (read_words n 1 array) _ (λ words. goes_adds f _ (refl, refl))))))
does_add flows x (instr.StoreIndexed variable offset count line) f =
    known_adds flows variable f _ (λ held. given_adds f (read_words offset count held) _ (λ array. two_add f _ (λ word i below.
    index_adds f (index_below count i) line _ (λ n. stores_adds flows variable (write_words (offset + n) (word ∷ []) held) f (record f { words = below }) (refl, refl)))))
does_add flows x (instr.Zero variable) f = given_adds f (size_of x variable f) _ (λ size. holding_adds (set_at variable (flows.known (zeros size)) f.variables) f f (refl, refl))
does_add flows x (instr.Copy variable source) f =
    given_adds f (size_of x variable f) _ (λ size. given_adds f (size_of x source f) _ (λ same. true_adds f (same == size) _
    (given_adds f (slice_get f.variables source) _ (λ value. holding_adds (set_at variable value f.variables) f f (refl, refl)))))
does_add flows x (instr.Need variable) f = given_adds f (slice_get f.variables variable) _ (λ value. needed_adds value (flows.see value) f _ (λ words. goes_adds f f (refl, refl)))
does_add flows x (instr.Fetch offset count) f = true_adds f (has_state x.image f.code) _ (given_adds f (read_words offset count f.state) _ (λ words. goes_adds f _ (refl, refl)))
does_add flows x (instr.Keep offset count) f =
    true_adds f (has_object x.image f.code) _ (words_add count f _ (λ words below. keeping_adds (write_words offset words f.state) f (record f { words = below }) (refl, refl)))
does_add flows x (instr.FetchIndexed offset count line) f =
    true_adds f (has_state x.image f.code) _ (given_adds f (read_words offset count f.state) _ (λ array. word_adds f _ (λ i below.
    index_adds f (index_below count i) line _ (λ n. given_adds f (read_words n 1 array) _ (λ words. goes_adds f _ (refl, refl))))))
does_add flows x (instr.KeepIndexed offset count line) f =
    true_adds f (has_object x.image f.code) _ (given_adds f (read_words offset count f.state) _ (λ array. two_add f _ (λ word i below.
    index_adds f (index_below count i) line _ (λ n. keeping_adds (write_words (offset + n) (word ∷ []) f.state) f (record f { words = below }) (refl, refl)))))
does_add flows x (instr.Add line) f = computes_adds arithmetic.sum line f
does_add flows x (instr.Sub line) f = computes_adds arithmetic.difference line f
does_add flows x (instr.Mul line) f = computes_adds arithmetic.product line f
does_add flows x (instr.Div line) f = computes_adds arithmetic.quotient line f
does_add flows x (instr.Rem line) f = computes_adds arithmetic.remainder line f
does_add flows x (instr.Neg line) f = word_adds f _ (λ a below. computed_adds line (arithmetic.negation a) below f)
does_add flows x instr.Not f = word_adds f _ (λ a below. goes_adds f _ (refl, refl))
does_add flows x instr.Equal f = compares_adds int_eq f
does_add flows x instr.NotEqual f = compares_adds (λ a b. not (int_eq a b)) f
does_add flows x instr.Less f = compares_adds int_lt f
does_add flows x instr.LessEqual f = compares_adds int_le f
does_add flows x instr.Greater f = compares_adds (λ a b. int_lt b a) f
does_add flows x instr.GreaterEqual f = compares_adds (λ a b. int_le b a) f
does_add flows x (instr.Jump place) f = true_adds f (is_place x.image f.code place) _ (record { lines = front_same f.lines; replied = refl })
does_add flows x (instr.JumpZero place) f =
    true_adds f (is_place x.image f.code place) _ (word_adds f _ (λ a below. if_adds f (int_eq a (pos 0)) _ _ (record { lines = front_same f.lines; replied = refl }) (goes_adds f _ (refl, refl))))
does_add flows x instr.Test f = record { lines = front_same f.lines; replied = refl }
does_add flows x (instr.Call function) f =
    given_adds f (slice_get x.image.functions function) _ (λ called. words_add (sum (take called.formals called.body.vars)) f _ (λ words below. record { lines = front_same f.lines; replied = refl }))
does_add flows x (instr.Return count) f =
    given_adds f (function_of x.image f.code) _ (λ function. true_adds f (function.result == count) _ (words_add count f _ (λ words below. back_adds words f.callers f)))
does_add flows x instr.Own f = true_adds f (has_object x.image f.code) _ (goes_adds f _ (refl, refl))
does_add flows x (instr.Bound line) f = word_adds f _ (λ object below. if_adds f (int_eq object (pos 0)) _ _ (record { lines = front_same f.lines; replied = refl }) (goes_adds f f (refl, refl)))
does_add flows x (instr.ArgWords count) f = words_add count f _ (λ words below. goes_adds f _ (refl, refl))
does_add flows x (instr.ArgVariable variable) f = given_adds f (size_of x variable f) _ (λ size. given_adds f (slice_get f.variables variable) _ (λ value. goes_adds f _ (refl, refl)))
does_add flows x (instr.Send member count) f = true_adds f (may_send f.code) _ (member_adds f x member count (λ regular. regular) _ (λ m. calls_add member m (pos 0) f f (refl, refl)))
does_add flows x (instr.Post member count) f =
    true_adds f (may_post x.image f.code) _ (member_adds f x member count not _ (λ m. word_adds f _ (λ object below. calls_add member m object f (record f { words = below }) (refl, refl))))
does_add flows x (instr.SetVariable variable) f =
    given_adds f (popped f.flows) _ (λ top. given_adds f (size_of x variable f) _ (λ size. true_adds f (top.items.words == size) _
    (holding_adds (set_at variable top.items.value f.variables) f (record f { flows = top.below }) (refl, refl))))
does_add flows x instr.DropFlow f = given_adds f (popped f.flows) _ (λ top. goes_adds f (record f { flows = top.below }) (refl, refl))
does_add flows x instr.Force f = given_adds f (popped f.flows) _ (λ top. needed_adds top.items.value (flows.see top.items.value) f _ (λ words. goes_adds f _ (refl, refl)))
does_add flows x (instr.Create class) f =
    true_adds f (may_post x.image f.code) _ (given_adds f (slice_get x.image.classes class) _ (λ c. true_adds f (not c.regular) _ (record { lines = front_same f.lines; replied = refl })))
does_add flows x (instr.Reply line) f =
    given_adds f (given_words x.image f.code) _ (λ words. given_adds f (popped f.flows) _ (λ top. true_adds f (top.items.words == words) _
    (not_replied f (onward (record f { flows = top.below })) top.items.value (refl, refl) f.replied refl _ (record { lines = front_same f.lines; replied = refl }))))
does_add flows x (instr.Input line) f = true_adds f (is_main f.code) _ (reads_adds line f.input f)
does_add flows x (instr.Print letters) f =
    true_adds f (is_main f.code) _ (words_add (length letters) f _ (λ words below. record { lines = front_appended f.lines (line_of letters words); replied = refl }))
does_add flows x (instr.End line) f = record { lines = front_same f.lines; replied = refl }
does_add flows x (instr.Fail line) f = given_adds f (function_of x.image f.code) _ (λ function. record { lines = front_same f.lines; replied = refl })

pub step_adds : {V : Type 0} (flows : Flows V) (x : Around) (f : Frame V) → Adds f (step flows x f)
step_adds {V = V} flows x f = at_instruction (slice_get (text_at x.image f.code) f.place) where
  strays : (d : Does V) → AddsIf f d → Adds f (or_strays f d)
  strays None h = record { lines = front_same f.lines; replied = refl }
  strays (Some next) h = h

  at_instruction : (o : Option Instr) → Adds f (or_strays f (given o (λ i. does flows x i f)))
  at_instruction None = record { lines = front_same f.lines; replied = refl }
  at_instruction (Some i) = strays (does flows x i f) (does_add flows x i f)
