-- A run only adds to its body: lines, objects and calls come behind those that were there, and a known result stays.
use Rattle.std.proofs.Common.{◌≡◌, ℕ, zero, suc, ◌+◌, nat_lt, Bool, true, false, List, [], ◌∷◌, Option, Some, None, ℤ, pos, cond, refl, sym, ap, ◌∙◌, subst}
use Rattle.mpl_value.specs.declared.body.Arg.{Arg}
use Rattle.mpl_value.specs.declared.body.BodyEnd.{BodyEnd}
use Rattle.mpl_value.specs.declared.body.BodyEnd.TheVariants as end
use Rattle.mpl_value.specs.declared.body.BodyResult.{BodyResult}
use Rattle.mpl_value.specs.declared.body.BodyResult.TheVariants as result
use Rattle.mpl_value.specs.declared.body.MemberId.{MemberId}
use Rattle.mpl_value.specs.declared.known.Trap.{Trap}
use Rattle.mpl_value.specs.CallAnswers.{any_unknown, leftmost_trap}
use Rattle.mpl_value.specs.Growing.{IsFront, ResultStays}
use Rattle.mpl_value.specs.Results.{result_of}
use Rattle.mdf_code.specs.Frames.{Frame, Next, Goes, Spends, Stops, Calls, Creates, Ends, Needs, Replies, Strays, Traps}
use Rattle.mdf_code.specs.Steps.{step}
use Rattle.mdf_code.specs.Yields.{Body, Ended, Runs, Setting, act, around, calls, comes_back, comes_back_at, creates, ends, exec, in_place, member_is_regular, missed_at, or_missed, persistent_call, regular_call, result_at_trap, spends, unless_trapped, with_frame}
use Rattle.mdf_code.proofs.AddingSteps.{Adds, PrintsMore, front_after, front_appended, front_same, step_adds}
use Rattle.mdf_code.proofs.TwoRuns.{ended_is}

-- the second body is the first, or has more
pub record IsGrown (b c : Body) : Type 0 where
  pub lines : IsFront b.frame.lines c.frame.lines
  pub creations : IsFront b.creations c.creations
  pub calls : IsFront b.calls c.calls
  pub result : ResultStays b.result c.result

-- a body that hasn't given its result has none
abbrev pub IsOpen : Body → Type 0
IsOpen b = b.frame.replied ≡ false → b.result ≡ result.Open

-- ---- results

pub result_kept : (r : BodyResult) → ResultStays r r
result_kept result.Open = tt
result_kept (result.Known known) = refl
result_kept result.Unknown = tt

result_after : (r s t : BodyResult) → ResultStays r s → ResultStays s t → ResultStays r t
result_after result.Open s t h g = tt
result_after (result.Known known) s t h g = subst (λ (x : BodyResult). ResultStays x t) (sym h) g
result_after result.Unknown s t h g = tt

missed_stays : (missed r : BodyResult) → ResultStays r (or_missed missed r)
missed_stays missed result.Open = tt
missed_stays missed (result.Known known) = refl
missed_stays missed result.Unknown = tt

trapped_stays : (member : Option MemberId) (t : Trap) (r : BodyResult) → ResultStays r (result_at_trap member t r)
trapped_stays None t r = result_kept r
trapped_stays (Some member) t result.Open = tt
trapped_stays (Some member) t (result.Known known) = refl
trapped_stays (Some member) t result.Unknown = tt

-- ---- bodies

pub grown_after : (b c d : Body) → IsGrown b c → IsGrown c d → IsGrown b d
grown_after b c d h g = record {
  lines = front_after b.frame.lines c.frame.lines d.frame.lines h.lines g.lines;
  creations = front_after b.creations c.creations d.creations h.creations g.creations;
  calls = front_after b.calls c.calls d.calls h.calls g.calls;
  result = result_after b.result c.result d.result h.result g.result;
}

-- with the same lines, objects, calls and result
grown_same : (b c : Body) → b.frame.lines ≡ c.frame.lines → b.creations ≡ c.creations → b.calls ≡ c.calls → b.result ≡ c.result → IsGrown b c
grown_same b c lines creations calls result = record {
  lines = subst (IsFront b.frame.lines) lines (front_same b.frame.lines);
  creations = subst (IsFront b.creations) creations (front_same b.creations);
  calls = subst (IsFront b.calls) calls (front_same b.calls);
  result = subst (ResultStays b.result) result (result_kept b.result);
}

grown_ends : (x : BodyEnd) (b c : Body) (e : Ended) → IsGrown b c → ends x c ≡ Some e → IsGrown b e.body
grown_ends x b c e grown h = subst (λ (z : Ended). IsGrown b z.body) (ended_is x c e h) grown

-- ---- runs

abbrev Grow : Runs → Type 0
Grow again = (s : Setting) (b : Body) (e : Ended) → IsOpen b → again s b ≡ Some e → IsGrown b e.body

-- from a body that is grown already
grown_on : (again : Runs) → Grow again → (s : Setting) (b c : Body) (e : Ended) → IsGrown b c → IsOpen c → again s c ≡ Some e → IsGrown b e.body
grown_on again grow s b c e grown unset h = grown_after b c e.body grown (grow s c e unset h)

spends_grow : (s : Setting) (b : Body) (e : Ended) (next : Body → Option Ended) → (next (record b { turns = b.turns + 1 }) ≡ Some e → IsGrown (record b { turns = b.turns + 1 }) e.body) →
    spends s b next ≡ Some e → IsGrown b e.body
spends_grow s b e next grow h = by_test (nat_lt b.turns s.turns) h where
  going : Body
  going = record b { turns = b.turns + 1 }

  by_test : (t : Bool) → cond t (next going) (ends end.Spent going) ≡ Some e → IsGrown b e.body
  by_test true g = grown_after b going e.body (grown_same b going refl refl refl refl) (grow g)
  by_test false g = grown_ends end.Spent b going e (grown_same b going refl refl refl refl) g

-- answered, with other turns and numbers
answered_grows : (again : Runs) → Grow again → (s : Setting) (b c : Body) (e : Ended) → IsOpen b → b.frame.lines ≡ c.frame.lines → b.creations ≡ c.creations → b.calls ≡ c.calls → b.result ≡ c.result → b.frame.replied ≡ c.frame.replied →
    again s c ≡ Some e → IsGrown b e.body
answered_grows again grow s b c e unset lines creations calls result replied h =
    grown_on again grow s b c e (grown_same b c lines creations calls result) (λ is. sym result ∙ unset (replied ∙ is)) h

back_grows : (again : Runs) → Grow again → (s : Setting) (member : ℕ) (b : Body) (o : Option Ended) (e : Ended) → IsOpen b → comes_back again s member b o ≡ Some e → IsGrown b e.body
back_grows again grow s member b None e unset h = absurd (cc h)
back_grows again grow s member b (Some ended) e unset h = by_end ended.end h where
  by_end : (x : BodyEnd) → comes_back_at again s member b ended x ≡ Some e → IsGrown b e.body
  by_end end.Done g = answered_grows again grow s b _ e unset refl refl refl refl refl g
  by_end (end.Trap t) g = answered_grows again grow s b _ e unset refl refl refl refl refl g
  by_end end.Waits g = answered_grows again grow s b _ e unset refl refl refl refl refl g
  by_end end.Spent g = grown_ends end.Spent b _ e (grown_same b _ refl refl refl refl) g

unless_trapped_grows : (again : Runs) → Grow again → (s : Setting) (member : ℕ) (b : Body) (t : Option Trap) (o : Option Ended) (e : Ended) → IsOpen b → (o ≡ Some e → IsGrown b e.body) →
    unless_trapped again s member b t o ≡ Some e → IsGrown b e.body
unless_trapped_grows again grow s member b None o e unset grown h = grown h
unless_trapped_grows again grow s member b (Some t) o e unset grown h = answered_grows again grow s b _ e unset refl refl refl refl refl h

branch_grows : (t : Bool) (b : Body) (o p : Option Ended) (e : Ended) → (o ≡ Some e → IsGrown b e.body) → (p ≡ Some e → IsGrown b e.body) → cond t o p ≡ Some e → IsGrown b e.body
branch_grows true b o p e one other h = one h
branch_grows false b o p e one other h = other h

regular_grows : (again : Runs) → Grow again → (s : Setting) (member : ℕ) (arguments : List Arg) (answers : Option (ℕ → Arg)) (b : Body) (e : Ended) → IsOpen b →
    regular_call again s member arguments answers b ≡ Some e → IsGrown b e.body
regular_grows again grow s member arguments (Some answers) b e unset h = answered_grows again grow s b _ e unset refl refl refl refl refl h
regular_grows again grow s member arguments None b e unset h =
    branch_grows (any_unknown arguments) b _ _ e (λ g. answered_grows again grow s b _ e unset refl refl refl refl refl g)
    (λ g. unless_trapped_grows again grow s member b (leftmost_trap arguments) _ e unset (λ i. back_grows again grow s member b _ e unset i) g) h

calls_grow : (again : Runs) → Grow again → (s : Setting) (member : ℕ) (object : ℤ) (arguments : List Arg) (b : Body) (e : Ended) → IsOpen b →
    calls again s member object arguments b ≡ Some e → IsGrown b e.body
calls_grow again grow s member object arguments b e unset h = branch_grows (member_is_regular s.image member) b _ _ e regular persistent h where
  sent : Body
  sent = record b { sent = b.sent + 1 }

  regular : regular_call again s member arguments s.answers sent ≡ Some e → IsGrown b e.body
  regular g = grown_after b sent e.body (grown_same b sent refl refl refl refl) (regular_grows again grow s member arguments s.answers sent e unset g)

  persistent : persistent_call again s member object arguments sent ≡ Some e → IsGrown b e.body
  persistent g = grown_on again grow s b _ e (record { lines = front_same b.frame.lines; creations = front_same b.creations; calls = front_appended b.calls _; result = result_kept b.result }) unset g

creates_grow : (again : Runs) → Grow again → (s : Setting) (class : ℕ) (b : Body) (e : Ended) → IsOpen b → creates again s class b ≡ Some e → IsGrown b e.body
creates_grow again grow s class b e unset h =
    grown_on again grow s b _ e (record { lines = front_same b.frame.lines; creations = front_appended b.creations (pos class ∷ []); calls = front_same b.calls; result = result_kept b.result }) unset h

-- ---- steps

printed : (b : Body) (f : Frame Arg) → PrintsMore b.frame f → IsGrown b (with_frame f b)
printed b f more = record { lines = more.lines; creations = front_same b.creations; calls = front_same b.calls; result = result_kept b.result }

act_grows : (again : Runs) → Grow again → (s : Setting) (b : Body) (next : Next Arg) (e : Ended) → IsOpen b → Adds b.frame next → act again s b next ≡ Some e → IsGrown b e.body
act_grows again grow s b (Goes f) e unset adds h = grown_on again grow s b (with_frame f b) e (printed b f adds) (λ is. unset (sym adds.replied ∙ is)) h
act_grows again grow s b (Spends f) e unset adds h =
    grown_after b (with_frame f b) e.body (printed b f adds) (spends_grow s (with_frame f b) e (again s) (λ g. grow s _ e (λ is. unset (sym adds.replied ∙ is)) g) h)
act_grows again grow s b (Stops (Replies value) f) e unset adds h =
    grown_on again grow s b (record b { frame = f; result = result_of value }) e
    (record {
      lines = subst (IsFront b.frame.lines) (sym adds.lines) (front_same b.frame.lines);
      creations = front_same b.creations;
      calls = front_same b.calls;
      result = subst (λ (r : BodyResult). ResultStays r (result_of value)) (sym (unset adds.before)) tt;
    }) (λ is. absurd (cc (is, adds.after))) h
act_grows again grow s b (Stops (Needs value) f) e unset adds h = grown_ends end.Waits b (with_frame f b) e (grown_same b (with_frame f b) (ap (λ (g : Frame Arg). g.lines) adds) refl refl refl) h
act_grows again grow s b (Stops (Calls member object arguments) f) e unset adds h =
    grown_after b (with_frame f b) e.body (printed b f adds) (spends_grow s (with_frame f b) e (calls again s member object arguments) (λ g. calls_grow again grow s member object arguments _ e (λ is. unset (sym adds.replied ∙ is)) g) h)
act_grows again grow s b (Stops (Creates class) f) e unset adds h =
    grown_after b (with_frame f b) e.body (printed b f adds) (spends_grow s (with_frame f b) e (creates again s class) (λ g. creates_grow again grow s class _ e (λ is. unset (sym adds.replied ∙ is)) g) h)
act_grows again grow s b (Stops (Ends line) f) e unset adds h =
    grown_ends end.Done b (record b { frame = f; result = or_missed (missed_at s.image line s.member) b.result }) e
    (record { lines = adds.lines; creations = front_same b.creations; calls = front_same b.calls; result = missed_stays (missed_at s.image line s.member) b.result }) h
act_grows again grow s b (Stops Strays f) e unset adds h =
    grown_ends end.Done b (record b { frame = f; strayed = true; result = or_missed (missed_at s.image 0 s.member) b.result }) e
    (record { lines = adds.lines; creations = front_same b.creations; calls = front_same b.calls; result = missed_stays (missed_at s.image 0 s.member) b.result }) h
act_grows again grow s b (Stops (Traps t) f) e unset adds h =
    grown_ends (end.Trap t) b (record b { frame = f; result = result_at_trap s.member t b.result }) e
    (record { lines = adds.lines; creations = front_same b.creations; calls = front_same b.calls; result = trapped_stays s.member t b.result }) h

-- What a run comes to is the body grown.
pub exec_grows : (k : ℕ) → Grow (exec k)
exec_grows zero s b e unset h = absurd (cc h)
exec_grows (suc k) s b e unset h = act_grows (exec k) (exec_grows k) s b (step in_place (around s) b.frame) e unset (step_adds in_place (around s) b.frame) h
