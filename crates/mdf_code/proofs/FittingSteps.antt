-- A step keeps the sizes of a frame's variables, flow values and state.
use Rattle.std.proofs.Common.{◌≡◌, ℕ, ◌+◌, ◌==◌, Bool, true, false, not, sum, cond, List, [], ◌∷◌, length, take, Option, Some, None, Result, Ok, Err, ℤ, pos, int_lt, int_le, sym, ◌∙◌, refl, ap, subst}
use Rattle.std.proofs.lemmas.Bool.{eqb-true}
use Rattle.std.specs.List.{AllByRecursion, AllZip, slice_get}
use Rattle.std.specs.Option.{option_map}
use Rattle.std.specs.Ordering.{int_eq}
use Rattle.mpl_value.specs.declared.body.Arg.{Arg}
use Rattle.mpl_value.specs.declared.body.Arg.TheVariants.{Know, Trapped, Unknown}
use Rattle.mpl_value.specs.declared.body.MemberId.{MemberId}
use Rattle.mpl_value.specs.declared.known.TrapKind.{TrapKind}
use Rattle.mpl_value.specs.Arithmetic as arithmetic
use Rattle.mpl_value.specs.Results.{result_of}
use Rattle.mpl_value.specs.Words.{index_below, zeros}
use Rattle.mdf_code.specs.declared.instr.Instr.{Instr}
use Rattle.mdf_code.specs.declared.instr.Instr.TheVariants as instr
use Rattle.mdf_code.specs.declared.raw.RawFunction.{RawFunction}
use Rattle.mdf_code.specs.declared.raw.RawMember.{RawMember}
use Rattle.mdf_code.specs.Frames.{Around, Caller, Code, InMain, InFunction, InMember, InGuard, Flow, Frame, Next, Goes, Spends, Stops, Calls, Creates, Ends, Needs, Replies, Strays, Traps}
use Rattle.mdf_code.specs.Parts.{function_of, given_words, has_object, has_state, is_main, is_place, is_regular, may_post, may_send, sizes_at, sizes_of, sizes_of_formals, text_at}
use Rattle.mdf_code.specs.Sizes.{ArgFits, ArgumentsFit, ResultFits, words_given}
use Rattle.mdf_code.specs.Stacks.{given, known_words_of, popped, popped_all, read_words, set_at, where_true, write_words}
use Rattle.mdf_code.specs.Steps.{Does, at_index, calls, compares, computed, computes, does, goes_back, goes_holding, goes_keeping, needed, on_known, on_member, on_two, on_word, on_words, or_strays, reads, size_of, sizes_agree, start_function, step, stores, values_of}
use Rattle.mdf_code.specs.Yields.{in_place, words_of_member}
use Rattle.mdf_code.proofs.FittingValues.{FlowFits, agreed_fit, got_fits, held_fit, known_is, popped_from, popped_many, same_length, set_fits, zeros_fit}

-- what a body's frame fits: its image, its member, and the words of its state
pub record Fitted : Type 0 where
  pub x : Around
  pub member : Option MemberId
  pub words : ℕ

-- the code of a member is that of the body
abbrev pub StandsIn : Option MemberId → Code → Type 0
StandsIn member (InMember id) = member ≡ Some (record { 0 = id })
StandsIn member InMain = Unit {0}
StandsIn member (InFunction function) = Unit {0}
StandsIn member (InGuard entry) = Unit {0}

-- each variable has its size, and each flow value its words, where they are known
pub record PlaceFits (t : Fitted) (code : Code) (held : List Arg) (pushed : List (Flow Arg)) : Type 0 where
  pub stands : StandsIn t.member code
  pub variables : AllZip ArgFits (sizes_at t.x.image code) held
  pub flows : AllByRecursion FlowFits pushed

abbrev pub CallerFits : Fitted → Caller Arg → Type 0
CallerFits t caller = PlaceFits t caller.code caller.variables caller.flows

pub record PartsFit (t : Fitted) (code : Code) (held : List Arg) (pushed : List (Flow Arg)) (back : List (Caller Arg)) (kept : List ℤ) : Type 0 where
  pub here : PlaceFits t code held pushed
  pub callers : AllByRecursion (CallerFits t) back
  pub state : length kept ≡ t.words

abbrev pub FrameFits : Fitted → Frame Arg → Type 0
FrameFits t f = PartsFit t f.code f.variables f.flows f.callers f.state

abbrev pub NextFits : Fitted → Next Arg → Type 0
NextFits t (Goes g) = FrameFits t g
NextFits t (Spends g) = FrameFits t g
NextFits t (Stops (Calls member object arguments) g) = FrameFits t g × ArgumentsFit arguments (slice_get t.x.image.members member)
NextFits t (Stops (Replies value) g) = FrameFits t g × ResultFits (words_given t.x.image t.member) (result_of value)
NextFits t (Stops (Needs value) g) = FrameFits t g
NextFits t (Stops (Creates class) g) = FrameFits t g
NextFits t (Stops (Ends line) g) = FrameFits t g
NextFits t (Stops Strays g) = FrameFits t g
NextFits t (Stops (Traps trap) g) = FrameFits t g

abbrev FitsIf : Fitted → Does Arg → Type 0
FitsIf t None = Unit {0}
FitsIf t (Some next) = NextFits t next

-- ---- what may be missing

given_fits : {A : Type 0} (t : Fitted) (o : Option A) (h : A → Does Arg) → ((a : A) → o ≡ Some a → FitsIf t (h a)) → FitsIf t (given o h)
given_fits t None h e = tt
given_fits t (Some a) h e = e a refl

true_fits : (t : Fitted) (b : Bool) (d : Does Arg) → (b ≡ true → FitsIf t d) → FitsIf t (where_true b d)
true_fits t true d e = e refl
true_fits t false d e = tt

if_fits : (t : Fitted) (b : Bool) (d e : Does Arg) → FitsIf t d → FitsIf t e → FitsIf t (cond b d e)
if_fits t true d e h j = h
if_fits t false d e h j = j

index_fits : (t : Fitted) (f : Frame Arg) → FrameFits t f → (o : Option ℕ) (line : ℕ) (next : ℕ → Does Arg) → ((n : ℕ) → FitsIf t (next n)) → FitsIf t (at_index o line f next)
index_fits t f fits None line next e = fits
index_fits t f fits (Some n) line next e = e n

computed_fits : (t : Fitted) (line : ℕ) (r : Result ℤ TrapKind) (below : List ℤ) (f : Frame Arg) → FrameFits t f → FitsIf t (computed line r below f)
computed_fits t line (Ok z) below f fits = fits
computed_fits t line (Err kind) below f fits = fits

word_fits : (t : Fitted) (f : Frame Arg) (next : ℤ → List ℤ → Does Arg) → ((a : ℤ) (below : List ℤ) → FitsIf t (next a below)) → FitsIf t (on_word f next)
word_fits t f next e = given_fits t (popped f.words) _ (λ top is. e top.items top.below)

two_fit : (t : Fitted) (f : Frame Arg) (next : ℤ → ℤ → List ℤ → Does Arg) → ((a b : ℤ) (below : List ℤ) → FitsIf t (next a b below)) → FitsIf t (on_two f next)
two_fit t f next e = given_fits t (popped f.words) _ (λ b is. given_fits t (popped b.below) _ (λ a is. e a.items b.items a.below))

-- so many words
words_fit : (t : Fitted) (count : ℕ) (f : Frame Arg) (next : List ℤ → List ℤ → Does Arg) → ((words below : List ℤ) → length words ≡ count → FitsIf t (next words below)) → FitsIf t (on_words count f next)
words_fit t count f next e = given_fits t (popped_all count f.words) _ (λ top is. e top.items top.below (popped_many count f.words top is))

computes_fit : (t : Fitted) (operation : ℤ → ℤ → Result ℤ TrapKind) (line : ℕ) (f : Frame Arg) → FrameFits t f → FitsIf t (computes operation line f)
computes_fit t operation line f fits = two_fit t f _ (λ a b below. computed_fits t line (operation a b) below f fits)

compares_fit : (t : Fitted) (test : ℤ → ℤ → Bool) (f : Frame Arg) → FrameFits t f → FitsIf t (compares test f)
compares_fit t test f fits = two_fit t f _ (λ a b below. fits)

reads_fit : (t : Fitted) (line : ℕ) (input : List ℤ) (f : Frame Arg) → FrameFits t f → FitsIf t (reads line input f)
reads_fit t line [] f fits = fits
reads_fit t line (z ∷ zs) f fits = fits

back_fits : (t : Fitted) (words : List ℤ) (callers : List (Caller Arg)) (f : Frame Arg) → AllByRecursion (CallerFits t) callers → length f.state ≡ t.words → FitsIf t (goes_back words callers f)
back_fits t words [] f fits state = tt
back_fits t words (caller ∷ callers) f fits state = record { here = fits.0; callers = fits.1; state = state }

-- ---- variables and states

-- other variables of the same sizes
hold : (t : Fitted) (f : Frame Arg) (held : List Arg) → FrameFits t f → AllZip ArgFits (sizes_at t.x.image f.code) held → FrameFits t (record f { variables = held })
hold t f held fits variables = record { here = record { stands = fits.here.stands; variables = variables; flows = fits.here.flows }; callers = fits.callers; state = fits.state }

holding_fits : (t : Fitted) (variable : ℕ) (new : Arg) (f : Frame Arg) → FrameFits t f → ((size : ℕ) → slice_get (sizes_at t.x.image f.code) variable ≡ Some size → ArgFits size new) →
    FitsIf t (goes_holding (set_at variable new f.variables) f)
holding_fits t variable new f fits each =
    given_fits t (set_at variable new f.variables) _ (λ held is. hold t f held fits (set_fits (sizes_at t.x.image f.code) f.variables held variable new fits.here.variables each is))

-- the words of a variable that is known, of its size
known_fits : (t : Fitted) (variable : ℕ) (f : Frame Arg) → FrameFits t f → (next : List ℤ → Does Arg) →
    ((held : List ℤ) → ((size : ℕ) → slice_get (sizes_at t.x.image f.code) variable ≡ Some size → length held ≡ size) → FitsIf t (next held)) → FitsIf t (on_known in_place variable f next)
known_fits t variable f fits next e =
    given_fits t (slice_get f.variables variable) _ (λ value there. given_fits t (known_words_of value) next (λ held is.
    e held (λ size sized. subst (ArgFits size) (known_is value held is) (got_fits (sizes_at t.x.image f.code) f.variables variable size value fits.here.variables sized there))))

stores_fit : (t : Fitted) (variable offset : ℕ) (new held : List ℤ) (f : Frame Arg) → FrameFits t f → ((size : ℕ) → slice_get (sizes_at t.x.image f.code) variable ≡ Some size → length held ≡ size) →
    FitsIf t (stores in_place variable (write_words offset new held) f)
stores_fit t variable offset new held f fits sized =
    given_fits t (write_words offset new held) _ (λ written is. holding_fits t variable (Know written) f fits (λ size there. same_length offset new held written is ∙ sized size there))

keeping_fits : (t : Fitted) (offset : ℕ) (new : List ℤ) (f : Frame Arg) → FrameFits t f → FitsIf t (goes_keeping (write_words offset new f.state) f)
keeping_fits t offset new f fits =
    given_fits t (write_words offset new f.state) _ (λ kept is. record { here = fits.here; callers = fits.callers; state = same_length offset new f.state kept is ∙ fits.state })

needed_fits : (t : Fitted) (value a : Arg) (f : Frame Arg) (next : List ℤ → Does Arg) → FrameFits t f → ((words : List ℤ) → FitsIf t (next words)) → FitsIf t (needed value a f next)
needed_fits t value (Know words) f next fits e = e words
needed_fits t value (Trapped trap) f next fits e = fits
needed_fits t value Unknown f next fits e = fits

-- the same size by two look-ups
one_size : {A : Type 0} (o : Option A) (a b : A) → o ≡ Some a → o ≡ Some b → a ≡ b
one_size {A = A} o a b h g = some_is a b (sym h ∙ g) where
  some_is : (a b : A) → Some a ≡ Some b → a ≡ b
  some_is a b h = cc h

-- ---- flow values and calls

-- other flow values that fit
pub flow_on : (t : Fitted) (f : Frame Arg) (flows : List (Flow Arg)) → FrameFits t f → AllByRecursion FlowFits flows → FrameFits t (record f { flows = flows })
flow_on t f flows fits each = record { here = record { stands = fits.here.stands; variables = fits.here.variables; flows = each }; callers = fits.callers; state = fits.state }

on_flow_fits : (t : Fitted) (flows : List (Flow Arg)) (next : Flow Arg → List (Flow Arg) → Does Arg) → AllByRecursion FlowFits flows →
    ((flow : Flow Arg) (below : List (Flow Arg)) → FlowFits flow → AllByRecursion FlowFits below → FitsIf t (next flow below)) → FitsIf t (given (popped flows) (λ top. next top.items top.below))
on_flow_fits t [] next fits e = tt
on_flow_fits t (flow ∷ below) next fits e = e flow below fits.0 fits.1

calls_fit : (t : Fitted) (member : ℕ) (m : RawMember) (object : ℤ) (f : Frame Arg) → FrameFits t f → slice_get t.x.image.members member ≡ Some m → FitsIf t (calls member m object f)
calls_fit t member m object f fits is = given_fits t (popped_all m.formals f.flows) _ (λ top popped. true_fits t (sizes_agree (sizes_of_formals m) top.items) _ (λ agree.
    let from = popped_from FlowFits m.formals f.flows top fits.here.flows popped in
    (flow_on t f top.below fits from.below, subst (ArgumentsFit (values_of top.items)) (sym is) (agreed_fit (sizes_of_formals m) top.items from.items agree))))

member_fits : (t : Fitted) (member count : ℕ) (kind : Bool → Bool) (next : RawMember → Does Arg) → ((m : RawMember) → slice_get t.x.image.members member ≡ Some m → FitsIf t (next m)) →
    FitsIf t (on_member t.x member count kind next)
member_fits t member count kind next e = given_fits t (slice_get t.x.image.members member) _ (λ m is. given_fits t (is_regular t.x.image m) _ (λ regular _.
    true_fits t (kind regular) _ (λ _. true_fits t (m.formals == count) _ (λ _. e m is))))

function_fits : (t : Fitted) (function : ℕ) (called : RawFunction) (words below : List ℤ) (f : Frame Arg) → FrameFits t f → slice_get t.x.image.functions function ≡ Some called →
    length words ≡ sum (take called.formals called.body.vars) → FrameFits t (start_function in_place function called words below f)
function_fits t function called words below f fits is many = record {
  here = record {
    stands = tt;
    variables = subst (λ (o : Option RawFunction). AllZip ArgFits (sizes_of (option_map (λ (f : RawFunction). f.body) o)) (start_function in_place function called words below f).variables) (sym is)
        (held_fit called.formals called.body.vars words many);
    flows = tt;
  };
  callers = (fits.here, fits.callers);
  state = fits.state;
}

-- what a member gives has the words of its result
given_fit : (t : Fitted) (code : Code) (words : ℕ) (value : Arg) → StandsIn t.member code → given_words t.x.image code ≡ Some words → ArgFits words value → ResultFits (words_given t.x.image t.member) (result_of value)
given_fit t InMain words value stands is fits = absurd (cc is)
given_fit t (InFunction function) words value stands is fits = absurd (cc is)
given_fit t (InGuard entry) words value stands is fits = absurd (cc is)
given_fit t (InMember id) words value stands is fits =
    subst (λ (member : Option MemberId). ResultFits (words_given t.x.image member) (result_of value)) (sym stands) (by_member (slice_get t.x.image.members id) is) where
      by_words : (o : Option ℕ) → o ≡ Some words → (m : RawMember) → m.result ≡ o → ResultFits (Some (words_of_member (Some m))) (result_of value)
      by_words o h m e = by_value value fits where
        of_value : words_of_member (Some m) ≡ words
        of_value = ap (λ (o : Option ℕ). words_of_member (Some (record m { result = o }))) (e ∙ h)

        by_value : (a : Arg) → ArgFits words a → ResultFits (Some (words_of_member (Some m))) (result_of a)
        by_value (Know ws) fits = fits ∙ sym of_value
        by_value (Trapped trap) fits = tt
        by_value Unknown fits = tt

      by_member : (o : Option RawMember) → given o (λ m. m.result) ≡ Some words → ResultFits (Some (words_of_member o)) (result_of value)
      by_member None h = absurd (cc h)
      by_member (Some m) h = by_words m.result h m refl

-- ---- instructions

does_fit : (t : Fitted) (i : Instr) (f : Frame Arg) → FrameFits t f → FitsIf t (does in_place t.x i f)
does_fit t (instr.Push word) f fits = fits
does_fit t (instr.Drop count) f fits = words_fit t count f _ (λ words below many. fits)
does_fit t (instr.Load variable offset count) f fits = known_fits t variable f fits _ (λ held sized. given_fits t (read_words offset count held) _ (λ words is. fits))
does_fit t (instr.Store variable offset count) f fits =
    known_fits t variable f fits _ (λ held sized. words_fit t count f _ (λ words below many. stores_fit t variable offset words held (record f { words = below }) fits sized))
does_fit t (instr.LoadIndexed variable offset count line) f fits =
    known_fits t variable f fits _ (λ held sized. given_fits t (read_words offset count held) _ (λ array is. word_fits t f _ (λ i below.
    index_fits t f fits (index_below count i) line _ (λ n. given_fits t (read_words n 1 array) _ (λ words is. fits)))))
does_fit t (instr.StoreIndexed variable offset count line) f fits =
    known_fits t variable f fits _ (λ held sized. given_fits t (read_words offset count held) _ (λ array is. two_fit t f _ (λ word i below.
    index_fits t f fits (index_below count i) line _ (λ n. stores_fit t variable (offset + n) (word ∷ []) held (record f { words = below }) fits sized))))
does_fit t (instr.Zero variable) f fits = given_fits t (size_of t.x variable f) _ (λ size is.
    holding_fits t variable (Know (zeros size)) f fits (λ other there. zeros_fit size ∙ one_size (size_of t.x variable f) size other is there))
does_fit t (instr.Copy variable source) f fits =
    given_fits t (size_of t.x variable f) _ (λ size is. given_fits t (size_of t.x source f) _ (λ same sized. true_fits t (same == size) _ (λ equal.
    given_fits t (slice_get f.variables source) _ (λ value there. holding_fits t variable value f fits (λ other again.
    subst (λ (n : ℕ). ArgFits n value) (eqb-true same size equal ∙ one_size (size_of t.x variable f) size other is again)
    (got_fits (sizes_at t.x.image f.code) f.variables source same value fits.here.variables sized there))))))
does_fit t (instr.Need variable) f fits = given_fits t (slice_get f.variables variable) _ (λ value there. needed_fits t value value f _ fits (λ words. fits))
does_fit t (instr.Fetch offset count) f fits = true_fits t (has_state t.x.image f.code) _ (λ _. given_fits t (read_words offset count f.state) _ (λ words is. fits))
does_fit t (instr.Keep offset count) f fits =
    true_fits t (has_object t.x.image f.code) _ (λ _. words_fit t count f _ (λ words below many. keeping_fits t offset words (record f { words = below }) fits))
does_fit t (instr.FetchIndexed offset count line) f fits =
    true_fits t (has_state t.x.image f.code) _ (λ _. given_fits t (read_words offset count f.state) _ (λ array is. word_fits t f _ (λ i below.
    index_fits t f fits (index_below count i) line _ (λ n. given_fits t (read_words n 1 array) _ (λ words is. fits)))))
does_fit t (instr.KeepIndexed offset count line) f fits =
    true_fits t (has_object t.x.image f.code) _ (λ _. given_fits t (read_words offset count f.state) _ (λ array is. two_fit t f _ (λ word i below.
    index_fits t f fits (index_below count i) line _ (λ n. keeping_fits t (offset + n) (word ∷ []) (record f { words = below }) fits))))
does_fit t (instr.Add line) f fits = computes_fit t arithmetic.sum line f fits
does_fit t (instr.Sub line) f fits = computes_fit t arithmetic.difference line f fits
does_fit t (instr.Mul line) f fits = computes_fit t arithmetic.product line f fits
does_fit t (instr.Div line) f fits = computes_fit t arithmetic.quotient line f fits
does_fit t (instr.Rem line) f fits = computes_fit t arithmetic.remainder line f fits
does_fit t (instr.Neg line) f fits = word_fits t f _ (λ a below. computed_fits t line (arithmetic.negation a) below f fits)
does_fit t instr.Not f fits = word_fits t f _ (λ a below. fits)
does_fit t instr.Equal f fits = compares_fit t int_eq f fits
does_fit t instr.NotEqual f fits = compares_fit t (λ a b. not (int_eq a b)) f fits
does_fit t instr.Less f fits = compares_fit t int_lt f fits
does_fit t instr.LessEqual f fits = compares_fit t int_le f fits
does_fit t instr.Greater f fits = compares_fit t (λ a b. int_lt b a) f fits
does_fit t instr.GreaterEqual f fits = compares_fit t (λ a b. int_le b a) f fits
does_fit t (instr.Jump place) f fits = true_fits t (is_place t.x.image f.code place) _ (λ _. fits)
does_fit t (instr.JumpZero place) f fits = true_fits t (is_place t.x.image f.code place) _ (λ _. word_fits t f _ (λ a below. if_fits t (int_eq a (pos 0)) _ _ fits fits))
does_fit t instr.Test f fits = fits
does_fit t (instr.Call function) f fits =
    given_fits t (slice_get t.x.image.functions function) _ (λ called is. words_fit t (sum (take called.formals called.body.vars)) f _ (λ words below many.
    function_fits t function called words below f fits is many))
does_fit t (instr.Return count) f fits =
    given_fits t (function_of t.x.image f.code) _ (λ function is. true_fits t (function.result == count) _ (λ _. words_fit t count f _ (λ words below many. back_fits t words f.callers f fits.callers fits.state)))
does_fit t instr.Own f fits = true_fits t (has_object t.x.image f.code) _ (λ _. fits)
does_fit t (instr.Bound line) f fits = word_fits t f _ (λ object below. if_fits t (int_eq object (pos 0)) _ _ fits fits)
does_fit t (instr.ArgWords count) f fits = words_fit t count f _ (λ words below many. flow_on t f (record { value = Know words; words = count } ∷ f.flows) fits (many, fits.here.flows))
does_fit t (instr.ArgVariable variable) f fits =
    given_fits t (size_of t.x variable f) _ (λ size is. given_fits t (slice_get f.variables variable) _ (λ value there.
    flow_on t f (record { value = value; words = size } ∷ f.flows) fits (got_fits (sizes_at t.x.image f.code) f.variables variable size value fits.here.variables is there, fits.here.flows)))
does_fit t (instr.Send member count) f fits = true_fits t (may_send f.code) _ (λ _. member_fits t member count (λ regular. regular) _ (λ m is. calls_fit t member m (pos 0) f fits is))
does_fit t (instr.Post member count) f fits =
    true_fits t (may_post t.x.image f.code) _ (λ _. member_fits t member count not _ (λ m is. word_fits t f _ (λ object below. calls_fit t member m object (record f { words = below }) fits is)))
does_fit t (instr.SetVariable variable) f fits =
    on_flow_fits t f.flows _ fits.here.flows (λ flow below fit rest. given_fits t (size_of t.x variable f) _ (λ size is. true_fits t (flow.words == size) _ (λ equal.
    holding_fits t variable flow.value (record f { flows = below }) (flow_on t f below fits rest) (λ other again.
    subst (λ (n : ℕ). ArgFits n flow.value) (eqb-true flow.words size equal ∙ one_size (size_of t.x variable f) size other is again) fit))))
does_fit t instr.DropFlow f fits = on_flow_fits t f.flows _ fits.here.flows (λ flow below fit rest. flow_on t f below fits rest)
does_fit t instr.Force f fits = on_flow_fits t f.flows _ fits.here.flows (λ flow below fit rest. needed_fits t flow.value flow.value f _ fits (λ words. flow_on t f below fits rest))
does_fit t (instr.Create class) f fits =
    true_fits t (may_post t.x.image f.code) _ (λ _. given_fits t (slice_get t.x.image.classes class) _ (λ c is. true_fits t (not c.regular) _ (λ _. fits)))
does_fit t (instr.Reply line) f fits =
    given_fits t (given_words t.x.image f.code) _ (λ words is. on_flow_fits t f.flows _ fits.here.flows (λ flow below fit rest. true_fits t (flow.words == words) _ (λ equal.
    if_fits t f.replied _ _ fits
    (flow_on t f below fits rest, given_fit t f.code words flow.value fits.here.stands is (subst (λ (n : ℕ). ArgFits n flow.value) (eqb-true flow.words words equal) fit)))))
does_fit t (instr.Input line) f fits = true_fits t (is_main f.code) _ (λ _. reads_fit t line f.input f fits)
does_fit t (instr.Print letters) f fits = true_fits t (is_main f.code) _ (λ _. words_fit t (length letters) f _ (λ words below many. fits))
does_fit t (instr.End line) f fits = fits
does_fit t (instr.Fail line) f fits = given_fits t (function_of t.x.image f.code) _ (λ function is. fits)

pub step_fits : (t : Fitted) (f : Frame Arg) → FrameFits t f → NextFits t (step in_place t.x f)
step_fits t f fits = at_instruction (slice_get (text_at t.x.image f.code) f.place) where
  strays : (d : Does Arg) → FitsIf t d → NextFits t (or_strays f d)
  strays None h = fits
  strays (Some next) h = h

  at_instruction : (o : Option Instr) → NextFits t (or_strays f (given o (λ i. does in_place t.x i f)))
  at_instruction None = fits
  at_instruction (Some i) = strays (does in_place t.x i f) (does_fit t i f fits)
