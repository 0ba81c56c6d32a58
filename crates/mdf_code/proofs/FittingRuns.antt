-- A run keeps the sizes of its body's calls, result and state.
use Rattle.std.proofs.Common.{◌≡◌, ℕ, zero, suc, ◌+◌, nat_lt, Bool, true, false, List, [], ◌∷◌, ◌++◌, length, take, flat_map, sum, Option, Some, None, ℤ, pos, cond, refl, sym, ◌∙◌, subst}
use Rattle.std.specs.FinMap.{FinMap}
use Rattle.std.specs.List.{AllByRecursion, slice_get}
use Rattle.std.specs.Option.{option_map}
use Rattle.std.specs.Ordering.{nat_cmp}
use Rattle.mpl_value.specs.declared.body.Arg.{Arg}
use Rattle.mpl_value.specs.declared.body.Arg.TheVariants.{Trapped, Unknown}
use Rattle.mpl_value.specs.declared.body.BodyEnd.{BodyEnd}
use Rattle.mpl_value.specs.declared.body.BodyEnd.TheVariants as end
use Rattle.mpl_value.specs.declared.body.BodyResult.{BodyResult}
use Rattle.mpl_value.specs.declared.body.BodyResult.TheVariants as result
use Rattle.mpl_value.specs.declared.body.BodyStart.{BodyStart}
use Rattle.mpl_value.specs.declared.body.CallMade.{CallMade}
use Rattle.mpl_value.specs.declared.body.MemberId.{MemberId}
use Rattle.mpl_value.specs.declared.body.Yield.{Yield}
use Rattle.mpl_value.specs.declared.known.Known.{Known}
use Rattle.mpl_value.specs.declared.known.Known.TheVariants as known
use Rattle.mpl_value.specs.declared.known.Trap.{Trap}
use Rattle.mpl_value.specs.CallAnswers.{any_unknown, arg_of_result, known_words, leftmost_trap}
use Rattle.mpl_value.specs.Growing.{IsFront}
use Rattle.mpl_value.specs.Results.{result_of}
use Rattle.mpl_value.specs.Words.{object_word}
use Rattle.mdf_code.specs.declared.raw.RawImage.{RawImage}
use Rattle.mdf_code.specs.declared.raw.RawMember.{RawMember}
use Rattle.mdf_code.specs.Frames.{Frame, Next, Goes, Spends, Stops, Calls, Creates, Ends, Needs, Replies, Strays, Traps}
use Rattle.mdf_code.specs.Parts.{result_words, sizes_at, sizes_of}
use Rattle.mdf_code.specs.Sizes.{ArgFits, ArgumentsFit, CallFits, CallReplyFits, RepliesFit, ResultFits, Sized, StartFits, words_given}
use Rattle.mdf_code.specs.Steps.{step}
use Rattle.mdf_code.specs.Yields.{Body, Ended, Setting, Yields, act, answer, around, called_in_place, calls, code_of_member, comes_back, comes_back_at, creates, ends, exec, formals_at, formals_of, goes_on_answered, in_place, made, member_is_regular, missed, missed_at, missed_by, named, or_missed, persistent_call, regular_call, regular_setting, regular_start, replies_of, result_at_trap, run_of, setting_of, spends, start_body, unless_trap, unless_trapped, with_frame, words_of_member, words_of_result, yield_at}
use Rattle.mdf_code.proofs.AddingSteps.{Adds, step_adds}
use Rattle.mdf_code.proofs.FittingSteps.{Fitted, FrameFits, NextFits, StandsIn, flow_on, step_fits}
use Rattle.mdf_code.proofs.FittingValues.{every_pushed, held_fit, joined_fit}
use Rattle.mdf_code.proofs.GrownBodies.{IsOpen, exec_grows}
use Rattle.mdf_code.proofs.SameRuns.{called_alone}
use Rattle.mdf_code.proofs.TwoRuns.{ended_is}

-- what a body has of the sizes of its image
pub record MadeFits (t : Fitted) (f : Frame Arg) (sent : List CallMade) (given : BodyResult) : Type 0 where
  pub frame : FrameFits t f
  pub calls : AllByRecursion (CallFits t.x.image) sent
  pub result : ResultFits (words_given t.x.image t.member) given

abbrev pub BodyFits : Fitted → Body → Type 0
BodyFits t b = MadeFits t b.frame b.calls b.result

-- ---- lists

every_front : {A : Type 0} (P : A → Type 0) (xs ys : List A) → IsFront xs ys → AllByRecursion P ys → AllByRecursion P xs
every_front P [] ys front each = tt
every_front P (x ∷ xs) [] front each = absurd front
every_front P (x ∷ xs) (y ∷ ys) front each = (subst P (sym front.0) each.0, every_front P xs ys front.1 each.1)

last_of : {A : Type 0} (P : A → Type 0) (xs : List A) (x : A) → AllByRecursion P (xs ++ x ∷ []) → P x
last_of P [] x each = each.0
last_of P (y ∷ xs) x each = last_of P xs x each.1

none_replied : (image : RawImage) (sent : List CallMade) → AllByRecursion (CallReplyFits image (λ call. Unknown)) sent
none_replied image [] = tt
none_replied image (call ∷ sent) = (tt, none_replied image sent)

-- ---- results

open_fits : (o : Option ℕ) → ResultFits o result.Open
open_fits None = tt
open_fits (Some words) = tt

trap_fits : (o : Option ℕ) (t : Trap) → ResultFits o (result.Known (known.Trapped t))
trap_fits None t = tt
trap_fits (Some words) t = tt

missed_fits : (image : RawImage) (line : ℕ) (member : Option MemberId) (r : BodyResult) → ResultFits (words_given image member) r → ResultFits (words_given image member) (or_missed (missed_at image line member) r)
missed_fits image line member (result.Known known) fits = fits
missed_fits image line member result.Unknown fits = fits
missed_fits image line None result.Open fits = tt
missed_fits image line (Some member) result.Open fits = by_member (slice_get image.members member.0) where
  by_result : (o : Option ℕ) → ResultFits (Some (result_words o)) (missed line o)
  by_result None = refl
  by_result (Some words) = tt

  by_member : (o : Option RawMember) → ResultFits (Some (words_of_member o)) (missed_by line o)
  by_member None = tt
  by_member (Some m) = by_result m.result

trapped_fits : (image : RawImage) (member : Option MemberId) (t : Trap) (r : BodyResult) → ResultFits (words_given image member) r → ResultFits (words_given image member) (result_at_trap member t r)
trapped_fits image None t r fits = fits
trapped_fits image (Some member) t result.Open fits = tt
trapped_fits image (Some member) t (result.Known known) fits = fits
trapped_fits image (Some member) t result.Unknown fits = fits

result_fits_as_value : (words : ℕ) (r : BodyResult) → ResultFits (Some words) r → ArgFits words (arg_of_result r)
result_fits_as_value words result.Open fits = tt
result_fits_as_value words (result.Known (known.Value value)) fits = fits
result_fits_as_value words (result.Known (known.Trapped t)) fits = tt
result_fits_as_value words result.Unknown fits = tt

answer_fits : (words : ℕ) (arguments : List Arg) (a : Arg) → ArgFits words a → ArgFits words (answer arguments a)
answer_fits words arguments a fits = by_test (any_unknown arguments) where
  by_trap : (t : Option Trap) → ArgFits words (unless_trap a t)
  by_trap None = fits
  by_trap (Some t) = tt

  by_test : (t : Bool) → ArgFits words (cond t Unknown (unless_trap a (leftmost_trap arguments)))
  by_test true = tt
  by_test false = by_trap (leftmost_trap arguments)

-- ---- starts

abbrev fitted : Setting → ℕ → Fitted
fitted s words = record { x = around s; member = s.member; words = words }

stands_at_start : (member : Option MemberId) → StandsIn member (code_of_member member)
stands_at_start None = tt
stands_at_start (Some member) = refl

start_fits : (object : ℤ) (image : RawImage) (start : BodyStart) (turns : ℕ) → StartFits image start → BodyFits (record { x = record { image = image; object = object }; member = start.member; words = length start.state }) (start_body image start turns)
start_fits object image start turns fits = record {
  frame = record {
    here = record {
      stands = stands_at_start start.member;
      variables = held_fit (formals_at image start.member) (sizes_at image (code_of_member start.member)) start.args fits;
      flows = tt;
    };
    callers = tt;
    state = refl;
  };
  calls = tt;
  result = open_fits (words_given image start.member);
}

-- known arguments of the sizes of the formals fit the start of a regular member
regular_start_fits : (image : RawImage) (member : ℕ) (arguments : List Arg) → ArgumentsFit arguments (slice_get image.members member) → any_unknown arguments ≡ false → leftmost_trap arguments ≡ None →
    StartFits image (regular_start member (flat_map (λ words. words) (known_words arguments)))
regular_start_fits image member arguments fits known untrapped = by_member (slice_get image.members member) fits where
  by_member : (o : Option RawMember) → ArgumentsFit arguments o →
      length (flat_map (λ words. words) (known_words arguments)) ≡ sum (take (formals_of o) (sizes_of (option_map (λ (m : RawMember). m.body) o)))
  by_member None fits = absurd fits
  by_member (Some m) fits = joined_fit (take m.formals m.body.vars) arguments fits known untrapped

-- ---- runs

-- a body that makes its calls itself
abbrev direct : Setting → Setting
direct s = record s { answers = None }

-- the replies to the calls that were made fit
abbrev Replied : Setting → Ended → Type 0
Replied s e = AllByRecursion (CallReplyFits s.image s.replies) e.body.calls

abbrev Fit : ℕ → Type 0
Fit k = (s : Setting) (words : ℕ) (b : Body) (e : Ended) → BodyFits (fitted s words) b → IsOpen b → exec k (direct s) b ≡ Some e → Replied s e → BodyFits (fitted s words) e.body

ends_fit : (t : Fitted) (x : BodyEnd) (b : Body) (e : Ended) → BodyFits t b → ends x b ≡ Some e → BodyFits t e.body
ends_fit t x b e fits h = subst (λ (z : Ended). BodyFits t z.body) (ended_is x b e h) fits

spends_fit : (t : Fitted) (s : Setting) (b : Body) (e : Ended) (next : Body → Option Ended) → BodyFits t b → (next (record b { turns = b.turns + 1 }) ≡ Some e → BodyFits t e.body) → spends s b next ≡ Some e → BodyFits t e.body
spends_fit t s b e next fits each h = by_test (nat_lt b.turns s.turns) h where
  by_test : (x : Bool) → cond x (next (record b { turns = b.turns + 1 })) (ends end.Spent (record b { turns = b.turns + 1 })) ≡ Some e → BodyFits t e.body
  by_test true g = each g
  by_test false g = ends_fit t end.Spent (record b { turns = b.turns + 1 }) e fits g

answered_fit : (k : ℕ) → Fit k → (s : Setting) (words member : ℕ) (b : Body) (value : Arg) (e : Ended) → BodyFits (fitted s words) b → IsOpen b → ArgFits (words_of_result s.image member) value →
    goes_on_answered (exec k) (direct s) member b value ≡ Some e → Replied s e → BodyFits (fitted s words) e.body
answered_fit k fit s words member b value e fits unset sized h replied =
    fit s words _ e (record {
      frame = flow_on (fitted s words) b.frame (record { value = value; words = words_of_result s.image member } ∷ b.frame.flows) fits.frame (sized, fits.frame.here.flows);
      calls = fits.calls;
      result = fits.result;
    }) unset h replied

-- what comes back of a regular member's body has its size
called_fits : (k : ℕ) → Fit k → (s : Setting) (member : ℕ) (arguments : List Arg) (b : Body) (x : Ended) → ArgumentsFit arguments (slice_get s.image.members member) → any_unknown arguments ≡ false → leftmost_trap arguments ≡ None →
    called_alone (exec k) (direct s) member (known_words arguments) b ≡ Some x → ArgFits (words_of_result s.image member) (arg_of_result x.body.result)
called_fits k fit s member arguments b x fits known untrapped h =
    result_fits_as_value (words_of_result s.image member) x.body.result (spends_fit (fitted callee 0) (direct s) first x (exec k callee) started
    (λ g. fit callee 0 (record first { turns = first.turns + 1 }) x started (λ _. refl) g (none_replied s.image x.body.calls)) h).result where
      callee : Setting
      callee = regular_setting (direct s) member

      first : Body
      first = start_body s.image (regular_start member (flat_map (λ words. words) (known_words arguments))) b.turns

      started : BodyFits (fitted callee 0) first
      started = start_fits (callee.object) s.image (regular_start member (flat_map (λ words. words) (known_words arguments))) b.turns (regular_start_fits s.image member arguments fits known untrapped)

back_fits : (k : ℕ) → Fit k → (s : Setting) (words member : ℕ) (b : Body) (x e : Ended) → BodyFits (fitted s words) b → IsOpen b → ArgFits (words_of_result s.image member) (arg_of_result x.body.result) →
    comes_back (exec k) (direct s) member b (Some x) ≡ Some e → Replied s e → BodyFits (fitted s words) e.body
back_fits k fit s words member b x e fits unset sized h replied = by_end x.end h where
  by_end : (o : BodyEnd) → comes_back_at (exec k) (direct s) member b x o ≡ Some e → BodyFits (fitted s words) e.body
  by_end end.Done g = answered_fit k fit s words member (record b { turns = x.body.turns }) (arg_of_result x.body.result) e fits unset sized g replied
  by_end (end.Trap t) g = answered_fit k fit s words member (record b { turns = x.body.turns }) (arg_of_result x.body.result) e fits unset sized g replied
  by_end end.Waits g = answered_fit k fit s words member (record b { turns = x.body.turns }) (arg_of_result x.body.result) e fits unset sized g replied
  by_end end.Spent g = ends_fit (fitted s words) end.Spent (record b { turns = x.body.turns }) e fits g

regular_fits : (k : ℕ) → Fit k → (s : Setting) (words member : ℕ) (arguments : List Arg) (b : Body) (e : Ended) → BodyFits (fitted s words) b → IsOpen b → ArgumentsFit arguments (slice_get s.image.members member) →
    regular_call (exec k) (direct s) member arguments None b ≡ Some e → Replied s e → BodyFits (fitted s words) e.body
regular_fits k fit s words member arguments b e fits unset sized h replied = by_test (any_unknown arguments) refl h where
  by_call : any_unknown arguments ≡ false → leftmost_trap arguments ≡ None → (o : Option Ended) → called_alone (exec k) (direct s) member (known_words arguments) b ≡ o →
      comes_back (exec k) (direct s) member b o ≡ Some e → BodyFits (fitted s words) e.body
  by_call known untrapped None is g = absurd (cc g)
  by_call known untrapped (Some x) is g = back_fits k fit s words member b x e fits unset (called_fits k fit s member arguments b x sized known untrapped is) g replied

  by_trap : any_unknown arguments ≡ false → (t : Option Trap) → leftmost_trap arguments ≡ t →
      unless_trapped (exec k) (direct s) member b t (called_in_place (exec k) (direct s) member (known_words arguments) b) ≡ Some e → BodyFits (fitted s words) e.body
  by_trap known None is g = by_call known is (called_alone (exec k) (direct s) member (known_words arguments) b) refl g
  by_trap known (Some t) is g = answered_fit k fit s words member b (Trapped t) e fits unset tt g replied

  by_test : (x : Bool) → any_unknown arguments ≡ x → cond x (goes_on_answered (exec k) (direct s) member b Unknown)
      (unless_trapped (exec k) (direct s) member b (leftmost_trap arguments) (called_in_place (exec k) (direct s) member (known_words arguments) b)) ≡ Some e → BodyFits (fitted s words) e.body
  by_test true is g = answered_fit k fit s words member b Unknown e fits unset tt g replied
  by_test false is g = by_trap is (leftmost_trap arguments) refl g

persistent_fits : (k : ℕ) → Fit k → (s : Setting) (words member : ℕ) (object : ℤ) (arguments : List Arg) (b : Body) (e : Ended) → BodyFits (fitted s words) b → IsOpen b → ArgumentsFit arguments (slice_get s.image.members member) →
    persistent_call (exec k) (direct s) member object arguments b ≡ Some e → Replied s e → BodyFits (fitted s words) e.body
persistent_fits k fit s words member object arguments b e fits unset sized h replied =
    answered_fit k fit s words member (made member object arguments b) (answer arguments (s.replies (length b.calls + 1))) e
    (record { frame = fits.frame; calls = every_pushed (CallFits s.image) b.calls _ fits.calls sized; result = fits.result }) unset
    (answer_fits (words_of_result s.image member) arguments (s.replies (length b.calls + 1)) reply_fits) h replied where
      reply_fits : ArgFits (words_of_result s.image member) (s.replies (length b.calls + 1))
      reply_fits = last_of (CallReplyFits s.image s.replies) b.calls _
          (every_front (CallReplyFits s.image s.replies) (made member object arguments b).calls e.body.calls (exec_grows k (direct s) _ e unset h).calls replied)

calls_fit : (k : ℕ) → Fit k → (s : Setting) (words member : ℕ) (object : ℤ) (arguments : List Arg) (b : Body) (e : Ended) → BodyFits (fitted s words) b → IsOpen b → ArgumentsFit arguments (slice_get s.image.members member) →
    calls (exec k) (direct s) member object arguments b ≡ Some e → Replied s e → BodyFits (fitted s words) e.body
calls_fit k fit s words member object arguments b e fits unset sized h replied = by_test (member_is_regular s.image member) h where
  by_test : (x : Bool) → cond x (regular_call (exec k) (direct s) member arguments None (record b { sent = b.sent + 1 })) (persistent_call (exec k) (direct s) member object arguments (record b { sent = b.sent + 1 })) ≡ Some e →
      BodyFits (fitted s words) e.body
  by_test true g = regular_fits k fit s words member arguments (record b { sent = b.sent + 1 }) e fits unset sized g replied
  by_test false g = persistent_fits k fit s words member object arguments (record b { sent = b.sent + 1 }) e fits unset sized g replied

creates_fit : (k : ℕ) → Fit k → (s : Setting) (words class : ℕ) (b : Body) (e : Ended) → BodyFits (fitted s words) b → IsOpen b → creates (exec k) (direct s) class b ≡ Some e → Replied s e → BodyFits (fitted s words) e.body
creates_fit k fit s words class b e fits unset h replied =
    fit s words (with_frame (named (object_word s.number (length b.creations + 1)) b.frame) (record b { creations = b.creations ++ pos class ∷ [] })) e
    (record { frame = fits.frame; calls = fits.calls; result = fits.result }) unset h replied

-- ---- steps

act_fits : (k : ℕ) → Fit k → (s : Setting) (words : ℕ) (b : Body) (next : Next Arg) (e : Ended) → BodyFits (fitted s words) b → IsOpen b → NextFits (fitted s words) next → Adds b.frame next →
    act (exec k) (direct s) b next ≡ Some e → Replied s e → BodyFits (fitted s words) e.body
act_fits k fit s words b (Goes g) e fits unset sized adds h replied = fit s words (with_frame g b) e (record { frame = sized; calls = fits.calls; result = fits.result }) (λ is. unset (sym adds.replied ∙ is)) h replied
act_fits k fit s words b (Spends g) e fits unset sized adds h replied =
    let moved : BodyFits (fitted s words) (with_frame g b) = record { frame = sized; calls = fits.calls; result = fits.result } in
    spends_fit (fitted s words) (direct s) (with_frame g b) e (exec k (direct s)) moved (λ i. fit s words _ e moved (λ is. unset (sym adds.replied ∙ is)) i replied) h
act_fits k fit s words b (Stops (Calls member object arguments) g) e fits unset sized adds h replied =
    let moved : BodyFits (fitted s words) (with_frame g b) = record { frame = sized.0; calls = fits.calls; result = fits.result } in
    spends_fit (fitted s words) (direct s) (with_frame g b) e (calls (exec k) (direct s) member object arguments) moved
    (λ i. calls_fit k fit s words member object arguments _ e moved (λ is. unset (sym adds.replied ∙ is)) sized.1 i replied) h
act_fits k fit s words b (Stops (Needs value) g) e fits unset sized adds h replied = ends_fit (fitted s words) end.Waits (with_frame g b) e (record { frame = sized; calls = fits.calls; result = fits.result }) h
act_fits k fit s words b (Stops (Replies value) g) e fits unset sized adds h replied =
    fit s words (record b { frame = g; result = result_of value }) e (record { frame = sized.0; calls = fits.calls; result = sized.1 }) (λ is. absurd (true_is_not_false (sym adds.after ∙ is))) h replied where
      true_is_not_false : true ≡ false → ⊥
      true_is_not_false h = cc h
act_fits k fit s words b (Stops (Creates class) g) e fits unset sized adds h replied =
    let moved : BodyFits (fitted s words) (with_frame g b) = record { frame = sized; calls = fits.calls; result = fits.result } in
    spends_fit (fitted s words) (direct s) (with_frame g b) e (creates (exec k) (direct s) class) moved (λ i. creates_fit k fit s words class _ e moved (λ is. unset (sym adds.replied ∙ is)) i replied) h
act_fits k fit s words b (Stops (Ends line) g) e fits unset sized adds h replied =
    ends_fit (fitted s words) end.Done (record b { frame = g; result = or_missed (missed_at s.image line s.member) b.result }) e
    (record { frame = sized; calls = fits.calls; result = missed_fits s.image line s.member b.result fits.result }) h
act_fits k fit s words b (Stops Strays g) e fits unset sized adds h replied =
    ends_fit (fitted s words) end.Done (record b { frame = g; strayed = true; result = or_missed (missed_at s.image 0 s.member) b.result }) e
    (record { frame = sized; calls = fits.calls; result = missed_fits s.image 0 s.member b.result fits.result }) h
act_fits k fit s words b (Stops (Traps t) g) e fits unset sized adds h replied =
    ends_fit (fitted s words) (end.Trap t) (record b { frame = g; result = result_at_trap s.member t b.result }) e
    (record { frame = sized; calls = fits.calls; result = trapped_fits s.image s.member t b.result fits.result }) h

exec_fits : (k : ℕ) → Fit k
exec_fits zero s words b e fits unset h replied = absurd (cc h)
exec_fits (suc k) s words b e fits unset h replied =
    act_fits k (exec_fits k) s words b (step in_place (around s) b.frame) e fits unset (step_fits (fitted s words) b.frame fits.frame) (step_adds in_place (around s) b.frame) h replied

-- ---- yields

-- What a code makes has its sizes.
pub yields_fit : (image : RawImage) (start : BodyStart) (replies : FinMap nat_cmp Known) (n : ℕ) (y : Yield) → StartFits image start → Yields image start replies n y → RepliesFit image replies y.calls → Sized image start y
yields_fit image start replies n y fits yields replied = by_run (run_of yields.steps s start) refl yields.within where
  s : Setting
  s = setting_of image start (replies_of replies) n

  started : BodyFits (fitted s (length start.state)) (start_body image start 0)
  started = start_fits start.object image start 0 fits

  sized : (z : Yield) (e : Ended) → run_of yields.steps s start ≡ Some e → yield_at e ≡ z → RepliesFit image replies z.calls → Sized image start z
  sized z e ran is replied =
      let ended = spends_fit (fitted s (length start.state)) s (start_body image start 0) e (exec yields.steps s) started
      (λ g. exec_fits yields.steps s (length start.state) (record (start_body image start 0) { turns = 1 }) e started (λ _. refl) g (subst (λ (x : Yield). RepliesFit image replies x.calls) (sym is) replied)) ran in
      subst (Sized image start) is (record { calls = ended.calls; result = ended.result; state = ended.frame.state })

  by_run : (o : Option Ended) → run_of yields.steps s start ≡ o → option_map yield_at o ≡ Some y → Sized image start y
  by_run None is g = absurd (cc g)
  by_run (Some e) is g = sized y e is (some_is (yield_at e) y g) replied where
    some_is : (a b : Yield) → Some a ≡ Some b → a ≡ b
    some_is a b h = cc h
