-- Which journals explain a run, and what the run then is.
use Rattle.std.specs.Prelude.{◌≡◌, ℕ, ◌+◌, ◌<◌, ◌^◌, true, false, List, [], ◌∷◌, ◌++◌, Some, None, ℤ}
use Rattle.mpl_value.specs.declared.body.BodyEnd.{BodyEnd}
use Rattle.mpl_value.specs.declared.body.BodyEnd.TheVariants as end
use Rattle.mpl_value.specs.declared.body.CallMade.{CallMade}
use Rattle.mpl_value.specs.declared.body.Yield.{Yield}
use Rattle.mpl_value.specs.declared.known.Known.{Known}
use Rattle.mpl_value.specs.declared.known.Trap.{Trap}
use Rattle.mpl_mean.specs.Meaning.DirectRun.{main_start}
use Rattle.mdf_mean.specs.declared.entry.Entry.{Entry}
use Rattle.mdf_mean.specs.declared.entry.Entry.TheVariants.{Arrive, Accept, Reply}
use Rattle.mdf_mean.specs.Meanings.{Meaning, Setting}
use Rattle.mdf_mean.specs.Histories.{accepted_as, has_arrived, has_reply, is_taken}
use Rattle.mdf_mean.specs.Ran.{Ran, bodies, is_idle, known_call, ran, result_of}
use Rattle.mdf_mean.specs.Picks.{pick}

-- ---- justified entries

-- a call arrives once, with all its arguments known
pub record MayArrive (bs : List Ran) (h : List Entry) (i k : ℕ) : Type 0 where
  pub call : CallMade
  pub made : known_call bs i k ≡ Some call
  pub first : has_arrived i k h ≡ false

-- an idle object accepts its pick, as a body with a number of its own
pub record MayAccept (m : Meaning) (bs : List Ran) (h : List Entry) (number i k : ℕ) : Type 0 where
  pub call : CallMade
  pub made : known_call bs i k ≡ Some call
  pub idle : is_idle bs call.object ≡ true
  pub picked : pick m bs h call.object ≡ Some (record { body = i; call = k })
  pub least : 0 < number
  pub most : number < 2 ^ 31
  pub free : is_taken number h ≡ false

-- a call that was accepted is replied to once, with the known result of its body
pub record MayReply (bs : List Ran) (h : List Entry) (i k : ℕ) (known : Known) : Type 0 where
  pub given : result_of bs (accepted_as i k h) ≡ Some known
  pub first : has_reply i k h ≡ false

abbrev pub MayCome : Meaning → List Ran → List Entry → Entry → Type 0
MayCome m bs h (Arrive i k) = MayArrive bs h i k
MayCome m bs h (Accept number i k) = MayAccept m bs h number i k
MayCome m bs h (Reply i k known) = MayReply bs h i k known

-- An entry is justified by those before it.
abbrev pub Justified : Setting → List Entry → Entry → Type 0
Justified s h e = MayCome s.meaning (bodies s h) h e

-- ---- journals

-- Each entry is justified by those before it.
abbrev pub Explained : Setting → List Entry → Type 0
Explained s [] = Unit {0}
Explained s (e ∷ before) = Justified s before e × Explained s before

-- No call may arrive, no idle object has a call to accept, and no call may be replied to.
pub record IsClosed (m : Meaning) (bs : List Ran) (h : List Entry) : Type 0 where
  pub arrived : (i k : ℕ) → MayArrive bs h i k → ⊥
  pub accepted : (o : ℤ) → is_idle bs o ≡ true → pick m bs h o ≡ None
  pub replied : (i k : ℕ) (known : Known) → MayReply bs h i k known → ⊥

abbrev pub Closed : Setting → List Entry → Type 0
Closed s h = IsClosed s.meaning (bodies s h) h

-- ---- turns

abbrev pub total_turns : List Ran → ℕ
total_turns [] = 0
total_turns (b ∷ bs) = b.yield.turns + total_turns bs

-- the turns of all bodies of a journal
abbrev pub turns_of : Setting → List Entry → ℕ
turns_of s h = total_turns (bodies s h)

-- The bodies of some explained front of the journal, maybe the empty one, need more turns than a body is given.
pub record Over (s : Setting) (h : List Entry) : Type 0 where
  pub later : List Entry
  pub front : List Entry
  pub is : h ≡ later ++ front
  pub explained : Explained s front
  pub turns : s.turns < turns_of s front

-- ---- outcomes

-- what becomes of `main`, with the lines that it printed
pub data Outcome : Type 0 where
  Done : (lines : List ℕ) → Outcome
  Trapped : (trap : Trap) (lines : List ℕ) → Outcome
  Stuck : (lines : List ℕ) → Outcome
  Spent : (lines : List ℕ) → Outcome

abbrev pub outcome_at : BodyEnd → List ℕ → Outcome
outcome_at end.Done lines = Done lines
outcome_at (end.Trap trap) lines = Trapped trap lines
outcome_at end.Waits lines = Stuck lines
outcome_at end.Spent lines = Spent lines

abbrev pub outcome_with : Yield → Outcome
outcome_with yield = outcome_at yield.end yield.lines

abbrev pub outcome_of : Setting → List Entry → Outcome
outcome_of s h = outcome_with (ran s h (main_start s.input)).yield
