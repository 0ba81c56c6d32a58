-- A value that is forced is safe in a frame alone, where it is safe behind it and the uses ahead are marked where their variables
-- are loose.
use Rattle.std.proofs.Common.{◌≡◌, ◌≤◌, ℕ, ◌+◌, Bool, true, List, ◌∷◌, ℤ, refl, sym, subst, arith}
use Rattle.mpl_mean.specs.Plain.Expr.{Expr}
use Rattle.mpl_mean.specs.Plain.Expr as e
use Rattle.mpl_mean.specs.Plain.Scopes as plain
use Rattle.mpl_mean.specs.Pending.BodyWays.{flow_ways, value_ways}
use Rattle.mpl_mean.specs.Pending.Paths.{Ways, Then}
use Rattle.mdf_code.specs.Alone.{Held}
use Rattle.mdf_code.specs.Frames.{Flow}
use Rattle.mdf_code.specs.Frames as frames
use Rattle.mdf_code.specs.Parts.{is_place}
use Rattle.mdf_code.specs.Stacks.{pushed}
use Rattle.mdf_code.specs.declared.instr.Instr.TheVariants as instr
use Rattle.mpl_gen_code.specs.ExpressionCode.{flow_code, value_code}
use Rattle.mpl_gen_code.specs.Fits.{FlowFits, May}
use Rattle.mpl_gen_code.specs.Pieces.{followed_by}
use Rattle.mpl_gen_code.specs.Scopes.{Env}
use Rattle.mpl_gen_code.specs.Words.{words_of_expr}
use Rattle.mpl_gen_code.proofs.Compiled.{Compiled}
use Rattle.mpl_gen_code.proofs.Places.{from_followed}
use Rattle.mpl_gen_code.proofs.Reaching.{From}
use Rattle.mpl_gen_laws.specs.SafeFrames.{HeldFits}
use Rattle.mpl_gen_laws.proofs.Loosened.{plain_env}
use Rattle.mpl_gen_laws.proofs.SafeAhead.{Ahead, ahead_later}
use Rattle.mpl_gen_laws.proofs.SafeExpressions.{BehindWords, Called, InScope, MayIn, ThenWords, expr_follows, upto_before}
use Rattle.mpl_gen_laws.proofs.SafeFlows.{flow_follows}
use Rattle.mpl_gen_laws.proofs.SafeSteps.{At, Is, Run, Scene, known_long, later_then, needed, text}

-- a result that is forced
pub forces : (C : Scene) (n : ℕ) (D : Run C) (p q : ℕ) (ws : List ℤ) (fs : List (Flow Held)) (vs : List Held) (count : ℕ) (v : Held) → HeldFits C.sizes count v → Is C p instr.Force → p + 1 ≡ q → ThenWords C n D q ws fs vs count
    → At C n D p ws (record { value = v; words = count } ∷ fs) vs
forces C n D p q ws fs vs count v held is next h =
    needed C n n (omega arith) D p ws (record { value = v; words = count } ∷ fs) vs instr.Force v (λ words f. frames.Goes (record f { place = f.place + 1; words = pushed words f.words; flows = fs })) is (λ E. refl)
    (λ m le E later words known j less. subst (λ r. At C j E r (pushed words ws) fs vs) (sym next) (h j (omega (arith, le, less)) E later words (known_long C E count v words held known)))

module _ (C : Scene) (may : May) (env : Env) (scoped : InScope C env) (allowed : MayIn C may env.parts) (N : ℕ) (below : (m : ℕ) → m ≤ N → Called C env.declarations m)
    (marks : ℕ → Bool) (compiled : Compiled C.image env.declarations marks) where
  abbrev around : plain.Env
  around = plain_env env

  abbrev pub ForcedFollows : Expr → Type 0
  ForcedFollows t = (n : ℕ) → n ≤ N → (D : Run C) (p q : ℕ) (ws : List ℤ) (fs : List (Flow Held)) (vs : List Held) → From (text C) p (value_code env t p) q → ((k : ℕ) → k ≤ q → is_place C.image C.code k ≡ true) → FlowFits may env t
      → (rest : Ways) → Ahead C env.marks env.scope D vs (Then (value_ways around t) rest) → BehindWords C env.marks env.scope n D q ws fs vs (words_of_expr env t) rest → At C n D p ws fs vs

  call_forced : (t : Expr) (n : ℕ) → n ≤ N → (D : Run C) (p q : ℕ) (ws : List ℤ) (fs : List (Flow Held)) (vs : List Held) → From (text C) p (followed_by (flow_code env t) instr.Force p) q → ((k : ℕ) → k ≤ q → is_place C.image C.code k ≡ true)
      → FlowFits may env t → (rest : Ways) → Ahead C env.marks env.scope D vs (Then (flow_ways around t) rest) → BehindWords C env.marks env.scope n D q ws fs vs (words_of_expr env t) rest → At C n D p ws fs vs
  call_forced t n few D p q ws fs vs from up fits rest a h =
      let parts = from_followed (text C) (flow_code env t) instr.Force p q from in
      flow_follows C may env scoped allowed N below marks compiled t n few D p parts.middle ws fs vs parts.first (upto_before C may env scoped allowed N below q parts.middle parts.within up) fits rest a
      (λ m le E later v held takes ahead.
      forces C m E parts.middle q ws fs vs (words_of_expr env t) v held parts.is parts.next
      (λ j less F after words long. h j (omega (arith, le, less)) F (later_then C D E F later after) words long (ahead_later C env.marks env.scope E F vs rest after ahead)))

  pub forced_follows : (t : Expr) → ForcedFollows t
  forced_follows (e.Number at z) = expr_follows C may env scoped allowed N below (e.Number at z)
  forced_follows (e.Truth at b) = expr_follows C may env scoped allowed N below (e.Truth at b)
  forced_follows (e.Own at) = expr_follows C may env scoped allowed N below (e.Own at)
  forced_follows (e.Input at) = expr_follows C may env scoped allowed N below (e.Input at)
  forced_follows (e.Whole at target) = expr_follows C may env scoped allowed N below (e.Whole at target)
  forced_follows (e.Element at line target index) = expr_follows C may env scoped allowed N below (e.Element at line target index)
  forced_follows (e.PlainCall at function arguments) = expr_follows C may env scoped allowed N below (e.PlainCall at function arguments)
  forced_follows (e.Parenthesized at t) = expr_follows C may env scoped allowed N below (e.Parenthesized at t)
  forced_follows (e.Unary at line operator operand) = expr_follows C may env scoped allowed N below (e.Unary at line operator operand)
  forced_follows (e.Binary at line operator left right) = expr_follows C may env scoped allowed N below (e.Binary at line operator left right)
  forced_follows (e.CallOnOwn at member arguments) = call_forced (e.CallOnOwn at member arguments)
  forced_follows (e.CallOnTarget at target member arguments) = call_forced (e.CallOnTarget at target member arguments)
