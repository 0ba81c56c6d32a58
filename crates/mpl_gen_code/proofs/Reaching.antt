-- What a body comes to, from what its next steps come to.
use Rattle.std.proofs.Common.{◌≡◌, ◌≢◌, ◌≤◌, ℕ, suc, ◌+◌, Bool, true, false, List, [], ◌∷◌, ◌++◌, length, Option, Some, ℤ, refl, sym, subst, arith}
use Rattle.std.specs.FinMap.{FinMap}
use Rattle.std.specs.Ordering.{nat_cmp}
use Rattle.std.specs.Prelude.{slice_get}
use Rattle.mpl_value.specs.declared.body.Arg.{Arg}
use Rattle.mpl_value.specs.declared.body.BodyEnd.{BodyEnd}
use Rattle.mpl_value.specs.declared.body.BodyEnd.TheVariants as end
use Rattle.mpl_value.specs.declared.body.BodyResult.{BodyResult}
use Rattle.mpl_value.specs.declared.body.BodyResult.TheVariants as result
use Rattle.mpl_value.specs.declared.body.MemberId.{MemberId}
use Rattle.mpl_value.specs.declared.body.Yield.{Yield}
use Rattle.mpl_value.specs.declared.known.Known.{Known}
use Rattle.mpl_mean.specs.Meaning.Store.{Store, Outcome, Goes, Returns, Ends}
use Rattle.mdf_code.specs.Frames.{Caller, Code, Flow, Frame, Next}
use Rattle.mdf_code.specs.Parts.{text_at}
use Rattle.mdf_code.specs.Sizes.{ResultFits}
use Rattle.mdf_code.specs.Steps.{Does, or_strays, step}
use Rattle.mdf_code.specs.Steps as steps
use Rattle.mdf_code.specs.Yields.{Body, Ended, Setting, act, around, comes_back_at, exec, in_place, missed_at, or_missed, result_at_trap, yield_at}
use Rattle.mdf_code.specs.declared.instr.Instr.{Instr}
use Rattle.mdf_code.specs.Stacks.{given, pushed}
use Rattle.mpl_checked.specs.Checked.CheckedSteps.{Checked, Meant, Astray, CheckedStep, goes_on}
use Rattle.mpl_gen_code.specs.Scopes.{Finish, OfBody, OfFunction}

-- ---- bodies that wait for one another

-- a body that waits for that of a regular member
pub record Waiting : Type 0 where
  pub setting : Setting
  pub member : ℕ
  pub body : Body

-- With this end those that wait for it come to the yield of the first of all.
abbrev pub Arrives : List Waiting → Yield → Ended → Type 0
Arrives [] y e = (yield_at e ≡ y) × (e.body.strayed ≡ false)
Arrives (w ∷ outer) y e = (fuel : ℕ) × (next : Ended) × (comes_back_at (exec fuel) w.setting w.member w.body e e.end ≡ Some next) × Arrives outer y next

-- a body that runs, those that wait for it, the words of its result, and the replies to its calls
pub record Whole : Type 0 where
  pub setting : Setting
  pub outer : List Waiting
  pub final : Yield
  pub given : Option ℕ
  pub table : FinMap nat_cmp Known
  -- the replies of which it is promised that they fit
  pub vowed : FinMap nat_cmp Known

abbrev pub Reaches : Whole → Body → Type 0
Reaches W b = (fuel : ℕ) × (e : Ended) × (exec fuel W.setting b ≡ Some e) × Arrives W.outer W.final e

abbrev pub Acts : Whole → Body → Next Arg → Type 0
Acts W b next = (fuel : ℕ) × (e : Ended) × (act (exec fuel) W.setting b next ≡ Some e) × Arrives W.outer W.final e

abbrev pub takes_step : (W : Whole) (b : Body) → Acts W b (step in_place (around W.setting) b.frame) → Reaches W b
takes_step W b h = (suc h.0, h.1, h.2, h.3)

-- ---- where a body stands

-- where a frame stands, but for what the meaning has of it too
pub record Point : Type 0 where
  pub code : Code
  pub place : ℕ
  pub words : List ℤ
  pub flows : List (Flow Arg)
  pub variables : List Arg
  pub callers : List (Caller Arg)

abbrev pub was_given : BodyResult → Bool
was_given result.Open = false
was_given (result.Known known) = true
was_given result.Unknown = true

abbrev pub frame_at : Point → Store → Frame Arg
frame_at p s = record {
  code = p.code;
  place = p.place;
  words = p.words;
  flows = p.flows;
  variables = p.variables;
  callers = p.callers;
  state = s.state;
  input = s.input;
  lines = s.lines;
  replied = was_given s.result;
}

-- so many calls were made
abbrev pub body_at : Point → ℕ → Store → Body
body_at p sent s = record {
  frame = frame_at p s;
  sent = sent;
  calls = s.calls;
  creations = s.creations;
  result = s.result;
  turns = s.turns;
  strayed = false;
}

abbrev pub moved_to : ℕ → Point → Point
moved_to place p = record p { place = place }

-- ---- what the meaning's outcomes ask for

-- what stays of an object's state: its count of words, or all of it
pub data Keeping : Type 0 where
  Sized : (words : ℕ) → Keeping
  Fixed : (state : List ℤ) → Keeping

abbrev pub Keeps : Keeping → List ℤ → Type 0
Keeps (Sized words) state = length state ≡ words
Keeps (Fixed fixed) state = state ≡ fixed

-- a code that runs in a body: its callers, how it ends, and what it keeps of the state
pub record Here : Type 0 where
  pub code : Code
  pub callers : List (Caller Arg)
  pub finish : Finish
  pub keeping : Keeping
  -- the object and the number as the meaning has them
  pub object : ℤ
  pub number : ℕ

-- a run of such a code, from so many turns on
pub record Run : Type 0 where
  pub whole : Whole
  pub here : Here
  pub low : ℕ

abbrev pub run_of : Whole → ℕ → Here → Run
run_of W low here = record { whole = W; here = here; low = low }

-- what holds of a store where a code comes to an end of its own
pub record Kept (K : Run) (s : Store) : Type 0 where
  pub low : K.low ≤ s.turns
  pub within : s.turns ≤ K.whole.setting.turns
  pub keeps : Keeps K.here.keeping s.state
  pub result : ResultFits K.whole.given s.result

-- the result of a body that stops before its end
abbrev pub stopped : Option MemberId → BodyEnd → BodyResult → BodyResult
stopped member (end.Trap t) given = result_at_trap member t given
stopped member other given = given

abbrev pub with_result : BodyResult → Body → Body
with_result given b = record b { result = given }

-- a body that stops before its end
abbrev pub Stopped : Whole → BodyEnd → Store → Type 0
Stopped W e s = (p : Point) (sent : ℕ) → Arrives W.outer W.final (record { body = with_result (stopped W.setting.member e s.result) (body_at p sent s); end = e })

-- a body that is done at a line
abbrev pub IsDone : Whole → ℕ → Store → Type 0
IsDone W line s = (p : Point) (sent : ℕ) →
    Arrives W.outer W.final (record { body = with_result (or_missed (missed_at W.setting.image line W.setting.member) s.result) (body_at p sent s); end = end.Done })

-- behind a plain function that gives these words
abbrev pub back_at : Caller Arg → List (Caller Arg) → List ℤ → Point
back_at caller callers words = record {
  code = caller.code;
  place = caller.place;
  words = pushed words caller.words;
  flows = caller.flows;
  variables = caller.variables;
  callers = callers;
}

-- what a code returns goes to its caller, and ends a body
abbrev pub Returned : Whole → Finish → List (Caller Arg) → List ℤ → Store → Type 0
Returned W (OfBody line) callers words s = IsDone W line s
Returned W (OfFunction count line) [] words s = ⊥
Returned W (OfFunction count line) (caller ∷ callers) words s = length words ≡ count → (sent : ℕ) → Reaches W (body_at (back_at caller callers words) sent s)

pub record Halted (K : Run) (e : BodyEnd) (s : Store) : Type 0 where
  pub low : K.low ≤ s.turns
  pub within : e ≢ end.Spent → s.turns ≤ K.whole.setting.turns
  pub result : ResultFits K.whole.given s.result

-- What an outcome of the meaning asks for, so that the body comes to where it is to come.
abbrev pub Comes : {A : Type 0} → Run → (A → Store → Type 0) → Checked (Outcome A) → Type 0
Comes K Q (Meant (Goes a s)) = Q a s
Comes K Q (Meant (Returns words s)) = Kept K s → Returned K.whole K.here.finish K.here.callers words s
Comes K Q (Meant (Ends e s)) = Halted K e s → Stopped K.whole e s
Comes K Q Astray = ⊥

pub comes_then : {A B : Type 0} (K : Run) (Q : B → Store → Type 0) (o : Checked (Outcome A)) (h : A → CheckedStep B) → Comes K Q (goes_on o h) → Comes K (λ a s. Comes K Q (h a s)) o
comes_then K Q (Meant (Goes a s)) h c = c
comes_then K Q (Meant (Returns words s)) h c = c
comes_then K Q (Meant (Ends e s)) h c = c
comes_then K Q Astray h c = c

pub comes_map : {A : Type 0} (K : Run) {P Q : A → Store → Type 0} (o : Checked (Outcome A)) → ((a : A) (s : Store) → P a s → Q a s) → Comes K P o → Comes K Q o
comes_map K (Meant (Goes a s)) f c = f a s c
comes_map K (Meant (Returns words s)) f c = c
comes_map K (Meant (Ends e s)) f c = c
comes_map K Astray f c = c

-- first the one and then the other
pub comes_on : {A B : Type 0} (K : Run) (Q : B → Store → Type 0) (P : A → Store → Type 0) (o : Checked (Outcome A)) (h : A → CheckedStep B)
    → ((a : A) (s : Store) → Comes K Q (h a s) → P a s) → Comes K Q (goes_on o h) → Comes K P o
comes_on K Q P o h f c = comes_map K o f (comes_then K Q o h c)

-- ---- the places of code

-- these instructions stand from one place to another
abbrev pub From : List Instr → ℕ → List Instr → ℕ → Type 0
From code place [] end = place ≡ end
From code place (i ∷ is) end = (slice_get code place ≡ Some i) × From code (place + 1) is end

pub from_parts : (code : List Instr) (a b : List Instr) (p q : ℕ) → From code p (a ++ b) q → (m : ℕ) × From code p a m × From code m b q
from_parts code [] b p q h = (p, refl, h)
from_parts code (i ∷ a) b p q h = let rest = from_parts code a b (p + 1) q h.1 in (rest.0, (h.0, rest.1), rest.2)

pub from_length : (code : List Instr) (a : List Instr) (p q : ℕ) → From code p a q → q ≡ p + length a
from_length code [] p q h = let e : p ≡ q = h in omega arith
from_length code (i ∷ a) p q h = let e : q ≡ p + 1 + length a = from_length code a (p + 1) q h.1 in let goal : q ≡ p + suc (length a) = omega arith in goal

-- ---- one instruction

pub performing : (W : Whole) (b : Body) (i : Instr) → slice_get (text_at W.setting.image b.frame.code) b.frame.place ≡ Some i
    → Acts W b (or_strays b.frame (steps.does in_place (around W.setting) i b.frame)) → Reaches W b
performing W b i is h =
    takes_step W b (subst (λ (o : Option Instr). Acts W b (or_strays b.frame (given o (λ instruction. steps.does in_place (around W.setting) instruction b.frame)))) (sym is) h)
