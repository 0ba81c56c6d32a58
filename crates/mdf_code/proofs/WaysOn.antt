-- A step goes on at a place that its instruction leads to, or behind the call of a plain function.
use Rattle.std.proofs.Common.{◌≡◌, ℕ, suc, ◌+◌, ◌==◌, Bool, true, false, not, sum, cond, List, [], ◌∷◌, ◌++◌, length, take, Option, Some, None, Result, Ok, Err, ℤ, pos, int_lt, int_le, sym, ◌∙◌, refl, ap, subst, ◌⊎◌, inl, inr}
use Rattle.std.specs.List.{list_all, slice_get}
use Rattle.std.specs.Ordering.{int_eq}
use Rattle.mpl_value.specs.declared.body.Arg.{Arg}
use Rattle.mpl_value.specs.declared.body.Arg.TheVariants.{Know, Trapped, Unknown}
use Rattle.mpl_value.specs.declared.known.TrapKind.{TrapKind}
use Rattle.mpl_value.specs.Arithmetic as arithmetic
use Rattle.mpl_value.specs.Words.{bool_word, index_below, zeros}
use Rattle.mdf_code.specs.declared.instr.Instr.{Instr}
use Rattle.mdf_code.specs.declared.instr.Instr.TheVariants as instr
use Rattle.mdf_code.specs.declared.raw.RawMember.{RawMember}
use Rattle.mdf_code.specs.Frames.{Around, Caller, Flows, Frame, Next, Goes, Spends, Stops, Calls, Creates, Ends, Needs, Replies, Strays, Traps}
use Rattle.mdf_code.specs.Images.{ways_on}
use Rattle.mdf_code.specs.Parts.{function_of, given_words, has_object, has_state, is_main, is_place, is_regular, may_post, may_send, sizes_of_formals, text_at}
use Rattle.mdf_code.specs.Stacks.{given, known_words_of, popped, popped_all, pushed, read_words, set_at, where_true, write_words}
use Rattle.mdf_code.proofs.MarkedPlaces.{both_true}
use Rattle.mdf_code.specs.Steps.{Does, at_index, at_place, calls, computed, does, goes, goes_back, goes_holding, line_of, needed, on_known, on_member, onward, or_strays, reads, size_of, sizes_agree, step}

-- the same code, at a place that the instruction leads to
pub record OnWay {V : Type 0} (i : Instr) (f g : Frame V) : Type 0 where
  pub code : g.code ≡ f.code
  pub callers : g.callers ≡ f.callers
  pub leads : (p : ℕ → Bool) → list_all p (ways_on i f.place) ≡ true → p g.place ≡ true

-- back behind a call
abbrev pub IsBack : {V : Type 0} → Frame V → Frame V → Type 0
IsBack f g = suc (length g.callers) ≡ length f.callers

abbrev pub Moves : {V : Type 0} → Instr → Frame V → Next V → Type 0
Moves i f (Goes g) = OnWay i f g ⊎ IsBack f g
Moves i f (Spends g) = Unit {0}
Moves i f (Stops (Replies value) g) = OnWay i f g
Moves i f (Stops (Calls member object arguments) g) = Unit {0}
Moves i f (Stops (Needs value) g) = Unit {0}
Moves i f (Stops (Creates class) g) = Unit {0}
Moves i f (Stops (Ends line) g) = Unit {0}
Moves i f (Stops Strays g) = Unit {0}
Moves i f (Stops (Traps trap) g) = Unit {0}

abbrev MovesIf : {V : Type 0} → Instr → Frame V → Does V → Type 0
MovesIf i f None = Unit {0}
MovesIf i f (Some next) = Moves i f next

-- ---- one way

-- the instruction leads to the next place alone
abbrev Onward : {V : Type 0} → Instr → Frame V → Type 0
Onward i f = ways_on i f.place ≡ (f.place + 1) ∷ []

on_next : {V : Type 0} (i : Instr) (f g : Frame V) → Onward i f → g.code ≡ f.code → g.callers ≡ f.callers → g.place ≡ f.place → OnWay i f (onward g)
on_next i f g only code callers place = record {
  code = code;
  callers = callers;
  leads = λ p h. ap (λ (n : ℕ). p (n + 1)) place ∙ (both_true (p (f.place + 1)) (list_all p []) (ap (list_all p) (sym only) ∙ h)).0;
}

-- ---- what may be missing

given_moves : {V A : Type 0} (i : Instr) (f : Frame V) (o : Option A) (h : A → Does V) → ((a : A) → MovesIf i f (h a)) → MovesIf i f (given o h)
given_moves i f None h e = tt
given_moves i f (Some a) h e = e a

true_moves : {V : Type 0} (i : Instr) (f : Frame V) (b : Bool) (d : Does V) → MovesIf i f d → MovesIf i f (where_true b d)
true_moves i f true d e = e
true_moves i f false d e = tt

if_moves : {V : Type 0} (i : Instr) (f : Frame V) (b : Bool) (d e : Does V) → MovesIf i f d → MovesIf i f e → MovesIf i f (cond b d e)
if_moves i f true d e h j = h
if_moves i f false d e h j = j

index_moves : {V : Type 0} (i : Instr) (f : Frame V) (o : Option ℕ) (line : ℕ) (next : ℕ → Does V) → ((n : ℕ) → MovesIf i f (next n)) → MovesIf i f (at_index o line f next)
index_moves i f None line next e = tt
index_moves i f (Some n) line next e = e n

goes_moves : {V : Type 0} (i : Instr) (f g : Frame V) → Onward i f → g.code ≡ f.code → g.callers ≡ f.callers → g.place ≡ f.place → MovesIf i f (goes g)
goes_moves i f g only code callers place = inl (on_next i f g only code callers place)

computed_moves : {V : Type 0} (i : Instr) (line : ℕ) (r : Result ℤ TrapKind) (below : List ℤ) (f : Frame V) → Onward i f → MovesIf i f (computed line r below f)
computed_moves i line (Ok z) below f only = inl (on_next i f (record f { words = z ∷ below }) only refl refl refl)
computed_moves i line (Err kind) below f only = tt

reads_moves : {V : Type 0} (i : Instr) (line : ℕ) (input : List ℤ) (f : Frame V) → Onward i f → MovesIf i f (reads line input f)
reads_moves i line [] f only = tt
reads_moves i line (z ∷ zs) f only = inl (on_next i f (record f { words = z ∷ f.words; input = zs }) only refl refl refl)

holding_moves : {V : Type 0} (i : Instr) (o : Option (List V)) (f g : Frame V) → Onward i f → g.code ≡ f.code → g.callers ≡ f.callers → g.place ≡ f.place → MovesIf i f (goes_holding o g)
holding_moves i None f g only code callers place = tt
holding_moves i (Some held) f g only code callers place = inl (on_next i f (record g { variables = held }) only code callers place)

needed_moves : {V : Type 0} (i : Instr) (value : V) (a : Arg) (f : Frame V) (next : List ℤ → Does V) → ((words : List ℤ) → MovesIf i f (next words)) → MovesIf i f (needed value a f next)
needed_moves i value (Know words) f next e = e words
needed_moves i value (Trapped t) f next e = tt
needed_moves i value Unknown f next e = tt

calls_move : {V : Type 0} (i : Instr) (member : ℕ) (m : RawMember) (object : ℤ) (f g : Frame V) → MovesIf i f (calls member m object g)
calls_move i member m object f g = given_moves i f (popped_all m.formals g.flows) _ (λ top. true_moves i f (sizes_agree (sizes_of_formals m) top.items) _ tt)

member_moves : {V : Type 0} (i : Instr) (f : Frame V) (x : Around) (member count : ℕ) (kind : Bool → Bool) (next : RawMember → Does V) → ((m : RawMember) → MovesIf i f (next m)) →
    MovesIf i f (on_member x member count kind next)
member_moves i f x member count kind next e =
    given_moves i f (slice_get x.image.members member) _ (λ m. given_moves i f (is_regular x.image m) _ (λ regular.
    true_moves i f (kind regular) _ (true_moves i f (m.formals == count) _ (e m))))

known_moves : {V : Type 0} (i : Instr) (f : Frame V) (flows : Flows V) (variable : ℕ) (g : Frame V) (next : List ℤ → Does V) → ((words : List ℤ) → MovesIf i f (next words)) →
    MovesIf i f (on_known flows variable g next)
known_moves i f flows variable g next e = given_moves i f (slice_get g.variables variable) _ (λ value. given_moves i f (known_words_of (flows.see value)) next e)

jumps : {V : Type 0} (i : Instr) (place : ℕ) (f g : Frame V) → g.code ≡ f.code → g.callers ≡ f.callers → ((p : ℕ → Bool) → list_all p (ways_on i f.place) ≡ true → p place ≡ true) →
    MovesIf i f (Some (Goes (at_place place g)))
jumps i place f g code callers leads = inl (record { code = code; callers = callers; leads = leads })

back_moves : {V : Type 0} (i : Instr) (words : List ℤ) (callers : List (Caller V)) (f : Frame V) → f.callers ≡ callers → MovesIf i f (goes_back words callers f)
back_moves i words [] f is = tt
back_moves i words (caller ∷ callers) f is = inr (sym (ap length is))

-- ---- instructions

pub does_move : {V : Type 0} (flows : Flows V) (x : Around) (i : Instr) (f : Frame V) → MovesIf i f (does flows x i f)
does_move flows x (instr.Push word) f = goes_moves (instr.Push word) f (record f { words = word ∷ f.words }) refl refl refl refl
does_move flows x (instr.Drop count) f = given_moves (instr.Drop count) f (popped_all count f.words) _ (λ top. goes_moves (instr.Drop count) f (record f { words = top.below }) refl refl refl refl)
does_move flows x (instr.Load variable offset count) f = known_moves (instr.Load variable offset count) f flows variable f _ (λ held. given_moves (instr.Load variable offset count) f (read_words offset count held) _ (λ words. goes_moves (instr.Load variable offset count) f (record f { words = pushed words f.words }) refl refl refl refl))
does_move flows x (instr.Store variable offset count) f = known_moves (instr.Store variable offset count) f flows variable f _ (λ held. given_moves (instr.Store variable offset count) f (popped_all count f.words) _ (λ top. given_moves (instr.Store variable offset count) f (write_words offset top.items held) _ (λ words. holding_moves (instr.Store variable offset count) (set_at variable (flows.known words) f.variables) f (record f { words = top.below }) refl refl refl refl)))
does_move flows x (instr.LoadIndexed variable offset count line) f = known_moves (instr.LoadIndexed variable offset count line) f flows variable f _ (λ held. given_moves (instr.LoadIndexed variable offset count line) f (read_words offset count held) _ (λ array. given_moves (instr.LoadIndexed variable offset count line) f (popped f.words) _ (λ top. index_moves (instr.LoadIndexed variable offset count line) f (index_below count top.items) line _ (λ n. given_moves (instr.LoadIndexed variable offset count line) f (read_words n 1 array) _ (λ words. goes_moves (instr.LoadIndexed variable offset count line) f (record f { words = pushed words top.below }) refl refl refl refl)))))
does_move flows x (instr.StoreIndexed variable offset count line) f = known_moves (instr.StoreIndexed variable offset count line) f flows variable f _ (λ held. given_moves (instr.StoreIndexed variable offset count line) f (read_words offset count held) _ (λ array. given_moves (instr.StoreIndexed variable offset count line) f (popped f.words) _ (λ b. given_moves (instr.StoreIndexed variable offset count line) f (popped b.below) _ (λ a. index_moves (instr.StoreIndexed variable offset count line) f (index_below count b.items) line _ (λ n. given_moves (instr.StoreIndexed variable offset count line) f (write_words (offset + n) (a.items ∷ []) held) _ (λ words. holding_moves (instr.StoreIndexed variable offset count line) (set_at variable (flows.known words) f.variables) f (record f { words = a.below }) refl refl refl refl))))))
does_move flows x (instr.Zero variable) f = given_moves (instr.Zero variable) f (size_of x variable f) _ (λ size. holding_moves (instr.Zero variable) (set_at variable (flows.known (zeros size)) f.variables) f f refl refl refl refl)
does_move flows x (instr.Copy variable source) f = given_moves (instr.Copy variable source) f (size_of x variable f) _ (λ size. given_moves (instr.Copy variable source) f (size_of x source f) _ (λ same. true_moves (instr.Copy variable source) f (same == size) _ (given_moves (instr.Copy variable source) f (slice_get f.variables source) _ (λ value. holding_moves (instr.Copy variable source) (set_at variable value f.variables) f f refl refl refl refl))))
does_move flows x (instr.Need variable) f = given_moves (instr.Need variable) f (slice_get f.variables variable) _ (λ value. needed_moves (instr.Need variable) value (flows.see value) f _ (λ words. goes_moves (instr.Need variable) f f refl refl refl refl))
does_move flows x (instr.Fetch offset count) f = true_moves (instr.Fetch offset count) f (has_state x.image f.code) _ (given_moves (instr.Fetch offset count) f (read_words offset count f.state) _ (λ words. goes_moves (instr.Fetch offset count) f (record f { words = pushed words f.words }) refl refl refl refl))
does_move flows x (instr.Keep offset count) f = true_moves (instr.Keep offset count) f (has_object x.image f.code) _ (given_moves (instr.Keep offset count) f (popped_all count f.words) _ (λ top. given_moves (instr.Keep offset count) f (write_words offset top.items f.state) _ (λ kept. goes_moves (instr.Keep offset count) f (record f { words = top.below; state = kept }) refl refl refl refl)))
does_move flows x (instr.FetchIndexed offset count line) f = true_moves (instr.FetchIndexed offset count line) f (has_state x.image f.code) _ (given_moves (instr.FetchIndexed offset count line) f (read_words offset count f.state) _ (λ array. given_moves (instr.FetchIndexed offset count line) f (popped f.words) _ (λ top. index_moves (instr.FetchIndexed offset count line) f (index_below count top.items) line _ (λ n. given_moves (instr.FetchIndexed offset count line) f (read_words n 1 array) _ (λ words. goes_moves (instr.FetchIndexed offset count line) f (record f { words = pushed words top.below }) refl refl refl refl)))))
does_move flows x (instr.KeepIndexed offset count line) f = true_moves (instr.KeepIndexed offset count line) f (has_object x.image f.code) _ (given_moves (instr.KeepIndexed offset count line) f (read_words offset count f.state) _ (λ array. given_moves (instr.KeepIndexed offset count line) f (popped f.words) _ (λ b. given_moves (instr.KeepIndexed offset count line) f (popped b.below) _ (λ a. index_moves (instr.KeepIndexed offset count line) f (index_below count b.items) line _ (λ n. given_moves (instr.KeepIndexed offset count line) f (write_words (offset + n) (a.items ∷ []) f.state) _ (λ kept. goes_moves (instr.KeepIndexed offset count line) f (record f { words = a.below; state = kept }) refl refl refl refl))))))
does_move flows x (instr.Add line) f = given_moves (instr.Add line) f (popped f.words) _ (λ b. given_moves (instr.Add line) f (popped b.below) _ (λ a. computed_moves (instr.Add line) line (arithmetic.sum a.items b.items) a.below f refl))
does_move flows x (instr.Sub line) f = given_moves (instr.Sub line) f (popped f.words) _ (λ b. given_moves (instr.Sub line) f (popped b.below) _ (λ a. computed_moves (instr.Sub line) line (arithmetic.difference a.items b.items) a.below f refl))
does_move flows x (instr.Mul line) f = given_moves (instr.Mul line) f (popped f.words) _ (λ b. given_moves (instr.Mul line) f (popped b.below) _ (λ a. computed_moves (instr.Mul line) line (arithmetic.product a.items b.items) a.below f refl))
does_move flows x (instr.Div line) f = given_moves (instr.Div line) f (popped f.words) _ (λ b. given_moves (instr.Div line) f (popped b.below) _ (λ a. computed_moves (instr.Div line) line (arithmetic.quotient a.items b.items) a.below f refl))
does_move flows x (instr.Rem line) f = given_moves (instr.Rem line) f (popped f.words) _ (λ b. given_moves (instr.Rem line) f (popped b.below) _ (λ a. computed_moves (instr.Rem line) line (arithmetic.remainder a.items b.items) a.below f refl))
does_move flows x (instr.Neg line) f = given_moves (instr.Neg line) f (popped f.words) _ (λ a. computed_moves (instr.Neg line) line (arithmetic.negation a.items) a.below f refl)
does_move flows x instr.Not f = given_moves instr.Not f (popped f.words) _ (λ a. goes_moves instr.Not f (record f { words = bool_word (int_eq a.items (pos 0)) ∷ a.below }) refl refl refl refl)
does_move flows x instr.Equal f = given_moves instr.Equal f (popped f.words) _ (λ b. given_moves instr.Equal f (popped b.below) _ (λ a. goes_moves instr.Equal f (record f { words = bool_word (int_eq a.items b.items) ∷ a.below }) refl refl refl refl))
does_move flows x instr.NotEqual f = given_moves instr.NotEqual f (popped f.words) _ (λ b. given_moves instr.NotEqual f (popped b.below) _ (λ a. goes_moves instr.NotEqual f (record f { words = bool_word (not (int_eq a.items b.items)) ∷ a.below }) refl refl refl refl))
does_move flows x instr.Less f = given_moves instr.Less f (popped f.words) _ (λ b. given_moves instr.Less f (popped b.below) _ (λ a. goes_moves instr.Less f (record f { words = bool_word (int_lt a.items b.items) ∷ a.below }) refl refl refl refl))
does_move flows x instr.LessEqual f = given_moves instr.LessEqual f (popped f.words) _ (λ b. given_moves instr.LessEqual f (popped b.below) _ (λ a. goes_moves instr.LessEqual f (record f { words = bool_word (int_le a.items b.items) ∷ a.below }) refl refl refl refl))
does_move flows x instr.Greater f = given_moves instr.Greater f (popped f.words) _ (λ b. given_moves instr.Greater f (popped b.below) _ (λ a. goes_moves instr.Greater f (record f { words = bool_word (int_lt b.items a.items) ∷ a.below }) refl refl refl refl))
does_move flows x instr.GreaterEqual f = given_moves instr.GreaterEqual f (popped f.words) _ (λ b. given_moves instr.GreaterEqual f (popped b.below) _ (λ a. goes_moves instr.GreaterEqual f (record f { words = bool_word (int_le b.items a.items) ∷ a.below }) refl refl refl refl))
does_move flows x (instr.Jump place) f = true_moves (instr.Jump place) f (is_place x.image f.code place) _ (jumps (instr.Jump place) place f f refl refl (λ p h. (both_true (p place) (list_all p []) h).0))
does_move flows x (instr.JumpZero place) f = true_moves (instr.JumpZero place) f (is_place x.image f.code place) _ (given_moves (instr.JumpZero place) f (popped f.words) _ (λ a. if_moves (instr.JumpZero place) f (int_eq a.items (pos 0)) _ _ (jumps (instr.JumpZero place) place f (record f { words = a.below }) refl refl (λ p h. (both_true (p place) (list_all p ((f.place + 1) ∷ [])) h).0)) (jumps (instr.JumpZero place) (f.place + 1) f (record f { words = a.below }) refl refl (λ p h. (both_true (p (f.place + 1)) (list_all p []) (both_true (p place) (list_all p ((f.place + 1) ∷ [])) h).1).0))))
does_move flows x instr.Test f = tt
does_move flows x (instr.Call function) f = given_moves (instr.Call function) f (slice_get x.image.functions function) _ (λ called. given_moves (instr.Call function) f (popped_all (sum (take called.formals called.body.vars)) f.words) _ (λ top. tt))
does_move flows x (instr.Return count) f = given_moves (instr.Return count) f (function_of x.image f.code) _ (λ function. true_moves (instr.Return count) f (function.result == count) _ (given_moves (instr.Return count) f (popped_all count f.words) _ (λ top. back_moves (instr.Return count) top.items f.callers f refl)))
does_move flows x instr.Own f = true_moves instr.Own f (has_object x.image f.code) _ (goes_moves instr.Own f (record f { words = x.object ∷ f.words }) refl refl refl refl)
does_move flows x (instr.Bound line) f = given_moves (instr.Bound line) f (popped f.words) _ (λ top. if_moves (instr.Bound line) f (int_eq top.items (pos 0)) _ _ tt (goes_moves (instr.Bound line) f f refl refl refl refl))
does_move flows x (instr.ArgWords count) f = given_moves (instr.ArgWords count) f (popped_all count f.words) _ (λ top. goes_moves (instr.ArgWords count) f (record f { words = top.below; flows = record { value = flows.known top.items; words = count } ∷ f.flows }) refl refl refl refl)
does_move flows x (instr.ArgVariable variable) f = given_moves (instr.ArgVariable variable) f (size_of x variable f) _ (λ size. given_moves (instr.ArgVariable variable) f (slice_get f.variables variable) _ (λ value. goes_moves (instr.ArgVariable variable) f (record f { flows = record { value = value; words = size } ∷ f.flows }) refl refl refl refl))
does_move flows x (instr.Send member count) f = true_moves (instr.Send member count) f (may_send f.code) _ (member_moves (instr.Send member count) f x member count (λ regular. regular) _ (λ m. calls_move (instr.Send member count) member m (pos 0) f f))
does_move flows x (instr.Post member count) f = true_moves (instr.Post member count) f (may_post x.image f.code) _ (member_moves (instr.Post member count) f x member count not _ (λ m. given_moves (instr.Post member count) f (popped f.words) _ (λ top. calls_move (instr.Post member count) member m top.items f (record f { words = top.below }))))
does_move flows x (instr.SetVariable variable) f = given_moves (instr.SetVariable variable) f (popped f.flows) _ (λ top. given_moves (instr.SetVariable variable) f (size_of x variable f) _ (λ size. true_moves (instr.SetVariable variable) f (top.items.words == size) _ (holding_moves (instr.SetVariable variable) (set_at variable top.items.value f.variables) f (record f { flows = top.below }) refl refl refl refl)))
does_move flows x instr.DropFlow f = given_moves instr.DropFlow f (popped f.flows) _ (λ top. goes_moves instr.DropFlow f (record f { flows = top.below }) refl refl refl refl)
does_move flows x instr.Force f = given_moves instr.Force f (popped f.flows) _ (λ top. needed_moves instr.Force top.items.value (flows.see top.items.value) f _ (λ words. goes_moves instr.Force f (record f { words = pushed words f.words; flows = top.below }) refl refl refl refl))
does_move flows x (instr.Create class) f = true_moves (instr.Create class) f (may_post x.image f.code) _ (given_moves (instr.Create class) f (slice_get x.image.classes class) _ (λ c. true_moves (instr.Create class) f (not c.regular) _ tt))
does_move flows x (instr.Reply line) f = given_moves (instr.Reply line) f (given_words x.image f.code) _ (λ words. given_moves (instr.Reply line) f (popped f.flows) _ (λ top. true_moves (instr.Reply line) f (top.items.words == words) _ (if_moves (instr.Reply line) f f.replied _ _ tt (on_next (instr.Reply line) f (record f { flows = top.below; replied = true }) refl refl refl refl))))
does_move flows x (instr.Input line) f = true_moves (instr.Input line) f (is_main f.code) _ (reads_moves (instr.Input line) line f.input f refl)
does_move flows x (instr.Print letters) f = true_moves (instr.Print letters) f (is_main f.code) _ (given_moves (instr.Print letters) f (popped_all (length letters) f.words) _ (λ top. goes_moves (instr.Print letters) f (record f { words = top.below; lines = f.lines ++ line_of letters top.items }) refl refl refl refl))
does_move flows x (instr.End line) f = tt
does_move flows x (instr.Fail line) f = given_moves (instr.Fail line) f (function_of x.image f.code) _ (λ function. tt)

-- a step, where the code goes on or ends
pub step_moves : {V : Type 0} (flows : Flows V) (x : Around) (f : Frame V) (i : Instr) → slice_get (text_at x.image f.code) f.place ≡ Some i → Moves i f (step flows x f)
step_moves {V = V} flows x f i is =
    subst (λ (o : Option Instr). Moves i f (or_strays f (given o (λ i. does flows x i f)))) (sym is) (strays (does flows x i f) (does_move flows x i f)) where
      strays : (d : Does V) → MovesIf i f d → Moves i f (or_strays f d)
      strays None h = tt
      strays (Some next) h = h
