-- A body is safe in a frame alone where the uses are marked that may find a pending or a trapped result, and so is a plain
-- function that is called.
use Rattle.std.proofs.Common.{◌≡◌, ◌≤◌, ◌<◌, ℕ, zero, suc, ◌+◌, Bool, true, List, [], ◌∷◌, ◌++◌, length, map, take, sum, Option, Some, None, ℤ, inl, refl, ap, sym, subst, arith, ◌∙◌}
use Rattle.std.proofs.lemmas.Bool.{lt-ltb}
use Rattle.std.proofs.lemmas.Option.{slice_get-map}
use Rattle.std.specs.List.{AllZip, slice_get}
use Rattle.std.specs.Option.{option_map}
use Rattle.mpl_ast.specs.declared.program.Declaration.{Declaration}
use Rattle.mpl_value.specs.declared.body.Arg.{Arg}
use Rattle.mpl_value.specs.declared.body.Arg.TheVariants.{Know}
use Rattle.mpl_mean.specs.Laws.Sizes.{words_of_formal}
use Rattle.mpl_mean.specs.Meaning.Layout.{Function, words_of}
use Rattle.mpl_mean.specs.Pending.BodyWays.{stmts_ways}
use Rattle.mpl_mean.specs.Pending.Looseness.{Loose, none_loose}
use Rattle.mpl_mean.specs.Pending.Paths.{NoEvent, Then}
use Rattle.mpl_mean.specs.Plain.Stmt.{Stmts, stmts_of}
use Rattle.mdf_code.specs.Alone.{Held, Words, framed, seen_by}
use Rattle.mdf_code.specs.Frames.{Caller, Flow, InFunction}
use Rattle.mdf_code.specs.Frames as frames
use Rattle.mdf_code.specs.Parts.{is_place, sizes_at, sizes_of, text_at, text_of, variables_holding}
use Rattle.mdf_code.specs.Sizes.{ArgFits}
use Rattle.mdf_code.specs.Stacks.{popped_all, pushed}
use Rattle.mdf_code.specs.Steps.{does}
use Rattle.mdf_code.specs.declared.instr.Instr.{Instr}
use Rattle.mdf_code.specs.declared.instr.Instr.TheVariants as instr
use Rattle.mdf_code.specs.declared.raw.RawFunction.{RawFunction}
use Rattle.mdf_code.proofs.FittingValues.{held_fit}
use Rattle.mpl_checked.proofs.Covering.{Covers}
use Rattle.mpl_gen_code.specs.ExpressionCode.{function_number}
use Rattle.mpl_gen_code.specs.Fits.{FunctionIs, May, StmtsFit, function_may}
use Rattle.mpl_gen_code.specs.ProgramFits.{ProgramFits}
use Rattle.mpl_gen_code.specs.ProgramImage.{function_env, function_image}
use Rattle.mpl_gen_code.specs.Scopes.{Env, Finish, OfBody, OfFunction, Slot, words_of_shape}
use Rattle.mpl_gen_code.specs.StatementCode.{behind_all, body_code, end_instr, stmts_code}
use Rattle.mpl_gen_code.proofs.Below.{function_numbered}
use Rattle.mpl_gen_code.proofs.Bodies.{from_whole}
use Rattle.mpl_gen_code.proofs.Compiled.{Compiled}
use Rattle.mpl_gen_code.proofs.Fronts.{formals_first, front_all, front_itself, front_then}
use Rattle.mpl_gen_code.proofs.Popping.{given_is, popped_pushed}
use Rattle.mpl_gen_code.proofs.Reaching.{From, from_parts}
use Rattle.mpl_gen_code.proofs.Scoped.{IsFrontOf, WellScoped, got_in_front}
use Rattle.mpl_gen_code.proofs.Starting.{formals_well}
use Rattle.mpl_gen_laws.specs.SafeFrames.{HeldFits}
use Rattle.mpl_gen_laws.proofs.CoveredBodies.{ProgramCovers}
use Rattle.mpl_gen_laws.proofs.LooseWays.{alone, covers_ahead}
use Rattle.mpl_gen_laws.proofs.Loosened.{Beside, KnownAt, plain_env}
use Rattle.mpl_gen_laws.proofs.SafeExpressions.{Called, MayIn, ThenWords}
use Rattle.mpl_gen_laws.proofs.SafeLeaves.{FinishesIn, fails}
use Rattle.mpl_gen_laws.proofs.SafeStatements.{stmts_follow}
use Rattle.mpl_gen_laws.proofs.SafeSteps.{At, Is, Run, Scene, VarsFit, all_sizes, frame, later_same, performs, x, zip_get}
use Rattle.mpl_gen_laws.proofs.SafeStores.{ends}

-- ---- bodies

-- the code of these statements
pub record IsBodyOf (C : Scene) (outer : Env) (stmts : Stmts) : Type 0 where
  pub text : text_at C.image C.code ≡ body_code outer stmts 0
  pub sizes : sizes_at C.image C.code ≡ (behind_all stmts outer).sizes
  pub places : (n : ℕ) → n < length (text_at C.image C.code) → is_place C.image C.code n ≡ true

-- behind the statements
at_end : (C : Scene) (N : ℕ) (B : Run C) (finish : Finish) → FinishesIn C N B finish → (n : ℕ) (E : Run C) (p : ℕ) (vs : List Held) → Is C p (end_instr finish) → At C n E p [] [] vs
at_end C N B (OfBody line) goes n E p vs is = ends C n E p [] [] vs line is
at_end C N B (OfFunction count line) goes n E p vs is = fails C n E p line [] [] vs goes.function goes.stands is

-- variables that hold words are known
words_beside : (C : Scene) (knows : ℕ → Arg) (loose : Loose) (ds : List Declaration) (sizes : List ℕ) (scope : List Slot) → WellScoped ds sizes scope → IsFrontOf sizes (all_sizes C) → (values : List (List ℤ)) → VarsFit C (map Words values)
    → Beside knows loose scope (map Words values)
words_beside C knows loose ds sizes [] well front values fit = tt
words_beside C knows loose ds sizes (slot ∷ older) well front values fit = ((λ off. known), words_beside C knows loose ds sizes older well.2 front values fit) where
  size : slice_get (all_sizes C) slot.number ≡ Some (words_of_shape ds slot.shape)
  size = ap (λ (all : List ℕ). slice_get all slot.number) front.is ∙ got_in_front sizes front.rest slot.number _ well.0

  of_words : (o : Option (List ℤ)) (v : Held) → option_map Words o ≡ Some v → (words : List ℤ) × (v ≡ Words words)
  of_words None v e = absurd (cc e)
  of_words (Some words) v e = (words, same e) where
    same : {a b : Held} → Some a ≡ Some b → b ≡ a
    same e = cc e

  known : KnownAt knows (map Words values) slot.number
  known =
      let held = zip_get (HeldFits C.sizes) (all_sizes C) (map Words values) slot.number (words_of_shape ds slot.shape) fit size in
      let is = of_words (slice_get values slot.number) held.0 (sym (slice_get-map Words values slot.number) ∙ held.1) in
      (held.0, is.0, held.1, ap (seen_by knows) is.1)

pub body_follows : (C : Scene) (may : May) (outer : Env) (allowed : MayIn C may outer.parts) (N : ℕ) (below : (m : ℕ) → m ≤ N → Called C outer.declarations m)
    (marks : ℕ → Bool) (compiled : Compiled C.image outer.declarations marks) (B : Run C) (finishes : FinishesIn C N B outer.finish) (stmts : Stmts) → IsBodyOf C outer stmts → StmtsFit may outer stmts
    → Covers outer.marks (stmts_ways (plain_env outer) stmts) none_loose → WellScoped outer.declarations outer.sizes outer.scope → (values : List (List ℤ)) → VarsFit C (map Words values) → At C N B 0 [] [] (map Words values)
body_follows C may outer allowed N below marks compiled B finishes stmts is fits covers well values fit =
    let code : From (text_at C.image C.code) 0 (stmts_code outer stmts 0 ++ end_instr outer.finish ∷ []) (length (body_code outer stmts 0)) =
    subst (λ (text : List Instr). From text 0 (body_code outer stmts 0) (length (body_code outer stmts 0))) (sym is.text) (from_whole (body_code outer stmts 0)) in
    let parts = from_parts (text_at C.image C.code) (stmts_code outer stmts 0) (end_instr outer.finish ∷ []) 0 (length (body_code outer stmts 0)) code in
    let last : parts.0 + 1 ≡ length (body_code outer stmts 0) = parts.2.1 in
    let long : length (text_at C.image C.code) ≡ length (body_code outer stmts 0) = ap length is.text in
    let fronts : IsFrontOf (behind_all stmts outer).sizes (all_sizes C) = subst (IsFrontOf (behind_all stmts outer).sizes) (sym is.sizes) (front_itself (behind_all stmts outer).sizes) in
    stmts_follow C may outer allowed N below marks compiled B finishes stmts outer.scope outer.sizes N (omega arith) B (later_same C B) 0 parts.0 (map Words values) parts.1
    (λ n le. is.places n (omega (arith, le, last, long))) fits
    (record { well = well; fronts = fronts }) NoEvent
    (record {
      fit = fit;
      loose = none_loose;
      covers = covers_ahead (Then (stmts_ways (plain_env outer) stmts) NoEvent) (stmts_ways (plain_env outer) stmts) (alone (stmts_ways (plain_env outer) stmts)) covers;
      beside = words_beside C B.knows none_loose outer.declarations outer.sizes outer.scope well (front_then (front_all stmts outer) fronts) values fit;
    })
    (λ m le E later us ahead. at_end C N B outer.finish finishes m E parts.0 us parts.2.0)

-- words that fit are held so
pub words_held : (counts : ℕ → ℕ) (sizes : List ℕ) (values : List (List ℤ)) → AllZip ArgFits sizes (map Know values) → AllZip (HeldFits counts) sizes (map Words values)
words_held counts [] [] fit = tt
words_held counts [] (words ∷ values) fit = absurd fit
words_held counts (size ∷ sizes) [] fit = absurd fit
words_held counts (size ∷ sizes) (words ∷ values) fit = (fit.0, words_held counts sizes values fit.1)

-- ---- plain functions

-- a plain function that is called from a scene
abbrev pub scene_of : Scene → ℕ → Caller Held → Scene
scene_of C number caller = record { image = C.image; object = C.object; sizes = C.sizes; code = InFunction number; callers = caller ∷ C.callers; long = C.long }

abbrev pub enters : (C : Scene) (number : ℕ) (caller : Caller Held) → Run C → Run (scene_of C number caller)
enters C number caller D = record { calls = D.calls; knows = D.knows; good = D.good; state = D.state; is_long = D.is_long; input = D.input; lines = D.lines; replied = D.replied }

abbrev pub leaves : (C : Scene) (number : ℕ) (caller : Caller Held) → Run (scene_of C number caller) → Run C
leaves C number caller D = record { calls = D.calls; knows = D.knows; good = D.good; state = D.state; is_long = D.is_long; input = D.input; lines = D.lines; replied = D.replied }

module _ (ds : List Declaration) (marks : ℕ → Bool) (covers : ProgramCovers ds marks) (trees : ProgramFits ds marks) where
  module _ (C : Scene) (compiled : Compiled C.image ds marks) (name : List ℕ) (f : Function) (is : FunctionIs ds name f) (number : ℕ) (numbered : function_number ds name ≡ Some number)
      (D : Run C) (p : ℕ) (arguments ws : List ℤ) (fs : List (Flow Held)) (vs : List Held) (args_long : length arguments ≡ sum (map (words_of_formal ds) f.formals)) (stands_here : Is C p (instr.Call number)) where
    abbrev outer : Env
    outer = function_env ds marks f

    abbrev stmts : Stmts
    stmts = stmts_of f.body

    abbrev raw : RawFunction
    raw = function_image ds marks (record { name = name; function = f })

    abbrev caller : Caller Held
    caller = record { code = C.code; place = p + 1; words = ws; flows = fs; variables = vs }

    abbrev F : Scene
    F = scene_of C number caller

    abbrev us : List Held
    us = map Words (variables_holding (length f.formals) raw.body.vars arguments)

    stands_in : slice_get C.image.functions number ≡ Some raw
    stands_in =
        let n = function_numbered ds name f is in
        subst (λ k. slice_get C.image.functions k ≡ Some raw) (some_same (sym n.numbered ∙ numbered)) (compiled.functions n.number _ n.stands) where
          some_same : {a b : ℕ} → Some a ≡ Some b → a ≡ b
          some_same e = cc

    first : take (length f.formals) raw.body.vars ≡ map (words_of_formal ds) f.formals
    first = formals_first ds f.formals stmts outer refl

    sizes_are : sizes_at C.image (InFunction number) ≡ raw.body.vars
    sizes_are = ap (λ (o : Option RawFunction). sizes_of (option_map (λ (f : RawFunction). f.body) o)) stands_in

    body_is : IsBodyOf F outer stmts
    body_is = record {
      text = ap (λ (o : Option RawFunction). text_of (option_map (λ (f : RawFunction). f.body) o)) stands_in;
      sizes = sizes_are;
      places = λ n h. lt-ltb n (length (text_at C.image (InFunction number))) h;
    }

    stepped : does (framed D.knows) (x C) (instr.Call number) (frame C D p (pushed arguments ws) fs vs) ≡ Some (frames.Spends (frame F (enters C number caller D) 0 [] [] us))
    stepped =
        given_is (slice_get C.image.functions number) raw _ stands_in
        ∙ given_is (popped_all (sum (take (length f.formals) raw.body.vars)) (pushed arguments ws)) _ _ (popped_pushed arguments ws (sum (take (length f.formals) raw.body.vars)) (args_long ∙ ap sum (sym first)))

    allowed : MayIn F function_may []
    allowed = record {
      input = λ e. absurd cc;
      own = λ e. absurd cc;
      sends = λ e. absurd cc;
      posts = λ e. absurd cc;
      gives = λ n e. absurd cc;
      reads = inl refl;
      writes = inl refl;
      state = let e : 0 ≤ C.long = omega arith in e;
    }

    fit : VarsFit F us
    fit =
        subst (λ (sizes : List ℕ). AllZip (HeldFits C.sizes) sizes us) (sym sizes_are)
        (words_held C.sizes raw.body.vars (variables_holding (length f.formals) raw.body.vars arguments) (held_fit (length f.formals) raw.body.vars arguments (args_long ∙ ap sum (sym first))))

    -- where what it calls is safe for fewer steps
    pub called : (n : ℕ) → ((m : ℕ) → m < n → (k : ℕ) → k ≤ m → Called F ds k) → ThenWords C n D (p + 1) ws fs vs (words_of ds f.result None) → At C n D p (pushed arguments ws) fs vs
    called n below h =
        performs C n D p (pushed arguments ws) fs vs (instr.Call number) (frames.Spends (frame F (enters C number caller D) 0 [] [] us)) stands_here stepped
        (λ m less.
        body_follows F function_may outer allowed m (below m less) marks compiled (enters C number caller D)
        (record {
          function = raw;
          stands = stands_in;
          gives = refl;
          caller = caller;
          callers = C.callers;
          called = refl;
          back = λ j le E later words words_long. h j (omega (arith, less, le)) (leaves C number caller E) (record { keeps = later.keeps }) words words_long;
        })
        stmts body_is (trees.function name f is) (covers.function name f is) (formals_well ds f.formals) (variables_holding (length f.formals) raw.body.vars arguments) fit)

  -- calls of plain functions are safe for any number of steps
  pub called_upto : (N : ℕ) (C : Scene) → Compiled C.image ds marks → (n : ℕ) → n ≤ N → Called C ds n
  called_upto zero C compiled zero le = λ name f is number numbered D p arguments ws fs vs long stands h. tt
  called_upto zero C compiled (suc n) le = absurd (omega (arith, le))
  called_upto (suc N) C compiled n le = λ name f is number numbered D p arguments ws fs vs long stands h.
      called C compiled name f is number numbered D p arguments ws fs vs long stands n
      (λ m less k few. called_upto N (scene_of C number (record { code = C.code; place = p + 1; words = ws; flows = fs; variables = vs })) compiled k (omega (arith, le, less, few))) h
