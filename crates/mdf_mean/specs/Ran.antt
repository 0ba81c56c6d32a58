-- The bodies of a journal, with their starts and what they did.
use Rattle.std.specs.Prelude.{ℕ, ◌/◌, ◌%◌, ◌^◌, Bool, true, false, not, ◌&&◌, ◌||◌, List, [], ◌∷◌, ◌++◌, map, slice_get, Option, Some, None, is_some, if◌then◌else◌, nat_eq, zero, suc, ℤ}
use Rattle.std.specs.List.{list_all}
use Rattle.std.specs.Ordering.{int_eq}
use Rattle.mpl_value.specs.declared.body.Arg.{Arg}
use Rattle.mpl_value.specs.declared.body.Arg.TheVariants.{Know, Trapped, Unknown}
use Rattle.mpl_value.specs.declared.body.BodyEnd.{BodyEnd}
use Rattle.mpl_value.specs.declared.body.BodyEnd.TheVariants as end
use Rattle.mpl_value.specs.declared.body.BodyResult.{BodyResult}
use Rattle.mpl_value.specs.declared.body.BodyResult.TheVariants as result
use Rattle.mpl_value.specs.declared.body.BodyStart.{BodyStart}
use Rattle.mpl_value.specs.declared.body.CallMade.{CallMade}
use Rattle.mpl_value.specs.declared.body.Yield.{Yield}
use Rattle.mpl_value.specs.declared.known.Known.{Known}
use Rattle.mpl_value.specs.Words.{zeros}
use Rattle.mpl_mean.specs.Meaning.DirectRun.{main_start}
use Rattle.mpl_mean.specs.Meaning.Layout.{natural}
use Rattle.mdf_mean.specs.declared.entry.Entry.{Entry}
use Rattle.mdf_mean.specs.declared.entry.Entry.TheVariants.{Arrive, Accept, Reply}
use Rattle.mdf_mean.specs.Meanings.{Meaning, Setting}
use Rattle.mdf_mean.specs.Histories.{replies_to}

-- a body: its start, and what it does from there
pub record Ran : Type 0 where
  pub start : BodyStart
  pub yield : Yield

-- the item of a number, from 1
abbrev pub numbered : {A : Type 0} → ℕ → List A → Option A
numbered zero items = None
numbered (suc n) items = slice_get items n

abbrev pub body_numbered : ℕ → List Ran → Option Ran
body_numbered i [] = None
body_numbered i (b ∷ bs) = if nat_eq b.start.number i then Some b else body_numbered i bs

-- ---- calls

abbrev pub is_known : Arg → Bool
is_known (Know words) = true
is_known (Trapped t) = false
is_known Unknown = false

abbrev pub argument_words : List Arg → List ℤ
argument_words [] = []
argument_words (Know words ∷ others) = words ++ argument_words others
argument_words (Trapped t ∷ others) = argument_words others
argument_words (Unknown ∷ others) = argument_words others

abbrev pub call_in : ℕ → Option Ran → Option CallMade
call_in k None = None
call_in k (Some b) = numbered k b.yield.calls

abbrev pub if_known : Option CallMade → Option CallMade
if_known None = None
if_known (Some call) = if list_all is_known call.args then Some call else None

-- the call of this name, where it was made and all its arguments are known
abbrev pub known_call : List Ran → ℕ → ℕ → Option CallMade
known_call bs i k = if_known (call_in k (body_numbered i bs))

-- ---- objects

abbrev pub creation_in : ℕ → Option Ran → Option ℤ
creation_in j None = None
creation_in j (Some b) = numbered j b.yield.creations

-- the number of the body that created an object, and the object's number among those of that body, from 1
abbrev pub creator_of : ℤ → ℕ
creator_of o = natural o / 2 ^ 32

abbrev pub place_of : ℤ → ℕ
place_of o = natural o % 2 ^ 32

-- the class of an object that was created
abbrev pub class_of : List Ran → ℤ → Option ℤ
class_of bs o = creation_in (place_of o) (body_numbered (creator_of o) bs)

-- the newest body on an object
abbrev pub last_on : ℤ → List Ran → Option Ran
last_on o [] = None
last_on o (b ∷ bs) = if int_eq b.start.object o then Some b else last_on o bs

abbrev pub words_of_object : Meaning → Option ℤ → ℕ
words_of_object m None = 0
words_of_object m (Some class) = m.words class

abbrev pub state_left : ℕ → Option Ran → List ℤ
state_left words None = zeros words
state_left words (Some b) = b.yield.state

-- the state of an object: what its newest body left, or zeros
abbrev pub state_of : Meaning → List Ran → ℤ → List ℤ
state_of m bs o = state_left (words_of_object m (class_of bs o)) (last_on o bs)

abbrev pub has_ended : BodyEnd → Bool
has_ended end.Done = true
has_ended (end.Trap t) = true
has_ended end.Waits = false
has_ended end.Spent = false

-- an object that was created, and whose bodies have all ended
abbrev pub is_idle : List Ran → ℤ → Bool
is_idle bs o = is_some (class_of bs o) && list_all (λ (b : Ran). not (int_eq b.start.object o) || has_ended b.yield.end) bs

-- ---- results

abbrev pub known_result : BodyResult → Option Known
known_result result.Open = None
known_result (result.Known known) = Some known
known_result result.Unknown = None

abbrev pub result_in : Option Ran → Option Known
result_in None = None
result_in (Some b) = known_result b.yield.result

-- the known result of the body of a number
abbrev pub result_of : List Ran → Option ℕ → Option Known
result_of bs None = None
result_of bs (Some number) = result_in (body_numbered number bs)

-- ---- the bodies of a journal

-- the body of an accepted call starts from the state of its object
abbrev pub accepted_start : ℕ → List ℤ → CallMade → BodyStart
accepted_start number state call = record {
  member = Some call.member;
  args = argument_words call.args;
  state = state;
  object = call.object;
  number = number;
  input = [];
}

-- what a body does, with the replies that the journal has for its calls
abbrev pub ran : Setting → List Entry → BodyStart → Ran
ran s h start = record { start = start; yield = s.meaning.yield start (replies_to start.number h) s.turns }

abbrev pub with_call : Meaning → ℕ → List Ran → List BodyStart → Option CallMade → List BodyStart
with_call m number bs starts None = starts
with_call m number bs starts (Some call) = accepted_start number (state_of m bs call.object) call ∷ starts

-- The starts, the newest first: `main`, and one for each accepted call. A call and its object's state are those at
-- the entry.
abbrev pub starts_of : Setting → List Entry → List BodyStart
starts_of s [] = main_start s.input ∷ []
starts_of s (Arrive i k ∷ before) = starts_of s before
starts_of s (Accept number i k ∷ before) =
    let bs = map (ran s before) (starts_of s before) in with_call s.meaning number bs (starts_of s before) (known_call bs i k)
starts_of s (Reply i k known ∷ before) = starts_of s before

abbrev pub bodies : Setting → List Entry → List Ran
bodies s h = map (ran s h) (starts_of s h)
