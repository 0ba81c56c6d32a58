-- Printing and returning is safe in a frame alone, where it is safe behind it.
use Rattle.std.proofs.Common.{◌≡◌, ◌≤◌, ℕ, suc, ◌+◌, ◌==◌, true, List, [], ◌∷◌, ◌++◌, length, map, Some, ℤ, refl, ap, sym, subst, arith, ◌∙◌}
use Rattle.std.proofs.lemmas.List.{length-append}
use Rattle.mpl_value.specs.declared.known.TrapKind.TheVariants.{NoReply}
use Rattle.mpl_mean.specs.Pending.BodyWays.{each_value, value_ways}
use Rattle.mpl_mean.specs.Pending.Paths.{Ways, Then}
use Rattle.mpl_mean.specs.Plain.Expr.{Expr}
use Rattle.mpl_mean.proofs.Sizes.SizedClasses.{same_number}
use Rattle.mdf_code.specs.Alone.{Held}
use Rattle.mdf_code.specs.Frames.{Caller, Flow, Frame}
use Rattle.mdf_code.specs.Frames as frames
use Rattle.mdf_code.specs.Parts.{function_of, is_main, is_place}
use Rattle.mdf_code.specs.Stacks.{popped_all, pushed}
use Rattle.mdf_code.specs.Steps.{line_of}
use Rattle.mdf_code.specs.Steps as steps
use Rattle.mdf_code.specs.declared.instr.Instr.TheVariants as instr
use Rattle.mdf_code.specs.declared.raw.RawFunction.{RawFunction}
use Rattle.mpl_gen_code.specs.ExpressionCode.{value_code}
use Rattle.mpl_gen_code.specs.Fits.{EachFits, May}
use Rattle.mpl_gen_code.specs.Pieces.{all_joined}
use Rattle.mpl_gen_code.specs.Scopes.{Env, Finish, OfBody, OfFunction}
use Rattle.mpl_gen_code.specs.Words.{words_of_expr}
use Rattle.mpl_gen_code.proofs.Places.{from_joined}
use Rattle.mpl_gen_code.proofs.Popping.{given_is, popped_pushed, pushed_both, true_is}
use Rattle.mpl_gen_code.proofs.Reaching.{From}
use Rattle.mpl_gen_laws.specs.SafeFrames.{Safe}
use Rattle.mpl_gen_laws.proofs.Loosened.{plain_env}
use Rattle.mpl_gen_laws.proofs.SafeAhead.{Ahead, ahead_in_turn, ahead_skip}
use Rattle.mpl_gen_laws.proofs.SafeExpressions.{BehindWords, Called, InScope, MayIn, expr_follows, moved, upto_before}
use Rattle.mpl_gen_laws.proofs.SafeSteps.{At, Is, Later, Onward, Run, Scene, frame, later_same, later_then, performs, text}

-- ---- the caller of a plain function

-- a run of one scene as a run of another with the same results and the same state
abbrev pub back_frame : (C : Scene) → Run C → Caller Held → List (Caller Held) → List ℤ → Frame Held
back_frame C D caller callers words = record {
  code = caller.code;
  place = caller.place;
  words = pushed words caller.words;
  flows = caller.flows;
  variables = caller.variables;
  callers = callers;
  state = D.state;
  input = D.input;
  lines = D.lines;
  replied = D.replied;
}

-- what is returned for so many steps behind a run, and where it goes
pub record Returning (C : Scene) (n : ℕ) (D : Run C) (count : ℕ) : Type 0 where
  pub function : RawFunction
  pub stands : function_of C.image C.code ≡ Some function
  pub gives : function.result ≡ count
  pub caller : Caller Held
  pub callers : List (Caller Held)
  pub called : C.callers ≡ caller ∷ callers
  pub back : (m : ℕ) → m ≤ n → (E : Run C) → Later C D E → (words : List ℤ) → length words ≡ count → Safe C.image C.object C.sizes m E.calls E.knows (back_frame C E caller callers words)

abbrev pub FinishesIn : (C : Scene) → ℕ → Run C → Finish → Type 0
FinishesIn C n D (OfBody line) = Unit {0}
FinishesIn C n D (OfFunction count line) = Returning C n D count

module _ (C : Scene) where
  pub returns : (N n : ℕ) → n ≤ N → (D0 D : Run C) → Later C D0 D → (p count : ℕ) (words ws : List ℤ) (fs : List (Flow Held)) (vs : List Held) → Returning C N D0 count → Is C p (instr.Return count) → length words ≡ count → At C n D p (pushed words ws) fs vs
  returns N n few D0 D later p count words ws fs vs r is long =
      performs C n D p (pushed words ws) fs vs (instr.Return count) (frames.Goes (back_frame C D r.caller r.callers words)) is
      (given_is (function_of C.image C.code) r.function _ r.stands
      ∙ true_is (r.function.result == count) _ (ap (λ k. k == count) r.gives ∙ same_number count)
      ∙ given_is (popped_all count (pushed words ws)) _ _ (popped_pushed words ws count long)
      ∙ ap (λ callers. steps.goes_back words callers (record (frame C D p (pushed words ws) fs vs) { callers = callers })) r.called)
      (λ m less. r.back m (omega (arith, less, few)) D later words long)

  pub fails : (n : ℕ) (D : Run C) (p line : ℕ) (ws : List ℤ) (fs : List (Flow Held)) (vs : List Held) (function : RawFunction) → function_of C.image C.code ≡ Some function → Is C p (instr.Fail line) → At C n D p ws fs vs
  fails n D p line ws fs vs function stands is =
      performs C n D p ws fs vs (instr.Fail line) (frames.Stops (frames.Traps (record { kind = NoReply; line = line })) (frame C D p ws fs vs)) is (given_is (function_of C.image C.code) function _ stands) (λ m less. tt)

  pub prints : (n : ℕ) (D : Run C) (p : ℕ) (letters : List ℕ) (words ws : List ℤ) (fs : List (Flow Held)) (vs : List Held) → Is C p (instr.Print letters) → is_main C.code ≡ true → length words ≡ length letters
      → ((E : Run C) → Later C D E → Onward C n E (p + 1) ws fs vs) → At C n D p (pushed words ws) fs vs
  prints n D p letters words ws fs vs is main long h =
      performs C n D p (pushed words ws) fs vs (instr.Print letters) (frames.Goes (frame C printed (p + 1) ws fs vs)) is
      (true_is (is_main C.code) _ main ∙ given_is (popped_all (length letters) (pushed words ws)) _ _ (popped_pushed words ws (length letters) long))
      (h printed (record { keeps = λ result words e. e })) where
        printed : Run C
        printed = record { calls = D.calls; knows = D.knows; good = D.good; state = D.state; is_long = D.is_long; input = D.input; lines = D.lines ++ line_of letters words; replied = D.replied }

-- ---- words that are printed

module _ (C : Scene) (may : May) (env : Env) (scoped : InScope C env) (allowed : MayIn C may env.parts) (N : ℕ) (below : (m : ℕ) → m ≤ N → Called C env.declarations m) where
  pub each_follows : (ts : List Expr) (n : ℕ) → n ≤ N → (D : Run C) (p q : ℕ) (ws : List ℤ) (fs : List (Flow Held)) (vs : List Held) → From (text C) p (all_joined (map (value_code env) ts) p) q
      → ((k : ℕ) → k ≤ q → is_place C.image C.code k ≡ true) → EachFits may env ts → (rest : Ways) → Ahead C env.marks env.scope D vs (Then (each_value (plain_env env) ts) rest) → BehindWords C env.marks env.scope n D q ws fs vs (length ts) rest → At C n D p ws fs vs
  each_follows [] n few D p q ws fs vs from up fits rest a h = moved C may env scoped allowed N below n D ws fs vs from (h n (omega arith) D (later_same C D) [] refl (ahead_skip C env.marks env.scope D vs rest a))
  each_follows (t ∷ ts) n few D p q ws fs vs from up fits rest a h =
      let parts = from_joined (text C) (value_code env t) (all_joined (map (value_code env) ts)) p q from in
      expr_follows C may env scoped allowed N below t n few D p parts.middle ws fs vs parts.first (upto_before C may env scoped allowed N below q parts.middle parts.within up) fits.0 (Then (each_value (plain_env env) ts) rest)
      (ahead_in_turn C env.marks env.scope D vs (value_ways (plain_env env) t) (each_value (plain_env env) ts) rest a)
      (λ m le E later words long ahead.
      each_follows ts m (omega (arith, le, few)) E parts.middle q (pushed words ws) fs vs parts.second up fits.2 rest ahead
      (λ j less F after more more_long ahead.
      subst (λ (all : List ℤ). At C j F q all fs vs) (sym (pushed_both words more ws))
      (h j (omega (arith, le, less)) F (later_then C D E F later after) (words ++ more)
      (let both = length-append words more in let single : words_of_expr env t ≡ 1 = fits.1 in let goal : length (words ++ more) ≡ suc (length ts) = omega (arith, both, long, single, more_long) in goal) ahead)))
