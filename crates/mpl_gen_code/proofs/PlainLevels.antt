-- A plain function that is called does what it means, if what it calls does.
use Rattle.std.proofs.Common.{◌≡◌, ◌≤◌, ℕ, zero, suc, ◌+◌, Bool, List, [], ◌∷◌, length, map, take, drop, flat_map, sum, Option, Some, None, ℤ, pos, inl, refl, ap, sym, subst, arith, ◌∙◌}
use Rattle.std.proofs.lemmas.Bool.{lt-ltb}
use Rattle.std.specs.FinMap.{empty}
use Rattle.std.specs.List.{AllZip, slice_get}
use Rattle.std.specs.Option.{option_map}
use Rattle.mpl_ast.specs.declared.program.Declaration.{Declaration}
use Rattle.mpl_value.specs.Words.{zeros}
use Rattle.mpl_value.specs.declared.body.Arg.{Arg}
use Rattle.mpl_value.specs.declared.body.Arg.TheVariants.{Know}
use Rattle.mpl_value.specs.declared.body.BodyEnd.TheVariants as end
use Rattle.mpl_mean.specs.Laws.InPlace.{ArgumentsHaveWords}
use Rattle.mpl_mean.specs.Laws.Sizes.{words_of_formal}
use Rattle.mpl_mean.specs.Meaning.BodyMeaning.{callees_at, formals_holding, with_variables}
use Rattle.mpl_mean.specs.Meaning.Context.{Callees}
use Rattle.mpl_mean.specs.Meaning.Layout.{Function, words_of}
use Rattle.mpl_mean.specs.Meaning.Store.{Store, Outcome, Goes, Returns, Ends, spend}
use Rattle.mpl_mean.specs.Plain.Stmt.{Stmts, stmts_of}
use Rattle.mdf_code.specs.Frames.{Caller, Flow, InFunction, Next}
use Rattle.mdf_code.specs.Frames as frames
use Rattle.mdf_code.specs.Parts.{sizes_at, sizes_of, text_at, text_of, variables_holding}
use Rattle.mdf_code.specs.Sizes.{ArgFits, ResultFits}
use Rattle.mdf_code.specs.Stacks.{popped_all, pushed}
use Rattle.mdf_code.specs.Steps.{or_strays, start_function}
use Rattle.mdf_code.specs.Steps as steps
use Rattle.mdf_code.specs.Yields.{around, exec, in_place}
use Rattle.mdf_code.specs.declared.instr.Instr.TheVariants as instr
use Rattle.mdf_code.specs.declared.raw.RawFunction.{RawFunction}
use Rattle.mdf_code.proofs.FittingValues.{held_fit}
use Rattle.mpl_checked.specs.Checked.CheckedBodies.{after_function, checked_callees_at, checked_run}
use Rattle.mpl_checked.specs.Checked.CheckedStatements.{checked_each}
use Rattle.mpl_checked.specs.Checked.CheckedSteps.{Checked, Meant, Astray, CheckedCallees, checked_in_turn, unless_astray}
use Rattle.mpl_gen_code.specs.ExpressionCode.{function_number}
use Rattle.mpl_gen_code.specs.Fits.{FunctionIs, function_may}
use Rattle.mpl_gen_code.specs.ProgramImage.{function_env, function_image}
use Rattle.mpl_gen_code.specs.Scopes.{Env, OfFunction, formals_from}
use Rattle.mpl_gen_code.proofs.AddingCallees.{plain_adds, regular_adds}
use Rattle.mpl_gen_code.specs.ProgramFits.{ProgramFits}
use Rattle.mpl_gen_code.proofs.Below.{Below, function_numbered}
use Rattle.mpl_gen_code.proofs.Bodies.{Finished, IsBody, body_follows, within_none}
use Rattle.mpl_gen_code.proofs.Calling.{Bounded, meant_then, spends_comes}
use Rattle.mpl_gen_code.proofs.Compiled.{Compiled}
use Rattle.mpl_gen_code.proofs.Fronts.{formals_first}
use Rattle.mpl_gen_code.proofs.Instructions.{At as Reached, Is, point}
use Rattle.mpl_gen_code.proofs.Popping.{given_is, popped_pushed}
use Rattle.mpl_gen_code.proofs.Raising.{raised}
use Rattle.mpl_gen_code.proofs.Reaching.{Acts, Comes, Fixed, Here, Run, Whole, body_at, comes_map, frame_at, performing, run_of}
use Rattle.mpl_gen_code.proofs.Scoped.{Allowed, Stands, context_of, variables_of}
use Rattle.mpl_gen_code.proofs.Starting.{formals_held, formals_well, joined_long, many_have, split_joined, start_variables}

-- ---- the code of a function

module _ (W : Whole) (ds : List Declaration) (marks : ℕ → Bool) (compiled : Compiled W.setting.image ds marks) (trees : ProgramFits ds marks) (in_place_too : W.setting.answers ≡ None) where
  -- with no promise on replies, since it makes no calls
  abbrev pub U : Whole
  U = record W { vowed = empty }

  module _ (here : Here) (low : ℕ) (name : List ℕ) (f : Function) (is : FunctionIs ds name f) (number : ℕ) (numbered : function_number ds name ≡ Some number)
      (arguments : List (List ℤ)) (have : ArgumentsHaveWords ds f.formals arguments) (p : ℕ) (ws : List ℤ) (fs : List (Flow Arg)) (vs : List Arg) (s : Store) where
    abbrev K : Run
    K = run_of W low here

    abbrev outer : Env
    outer = function_env ds marks f

    abbrev stmts : Stmts
    stmts = stmts_of f.body

    abbrev raw : RawFunction
    raw = function_image ds marks (record { name = name; function = f })

    abbrev words : List ℤ
    words = flat_map (λ words. words) arguments

    -- the frame that it begins with
    abbrev there : Here
    there = record {
      code = InFunction number;
      callers = record { code = here.code; place = p + 1; words = ws; flows = fs; variables = vs } ∷ here.callers;
      finish = OfFunction (words_of ds f.result None) f.body.mark_line;
      keeping = Fixed s.state;
      object = pos 0;
      number = 0;
    }

    abbrev us : List Arg
    us = map Know (variables_holding (length f.formals) raw.body.vars words)

    stands_in : slice_get W.setting.image.functions number ≡ Some raw
    stands_in =
        let n = function_numbered ds name f is in
        subst (λ k. slice_get W.setting.image.functions k ≡ Some raw) (some_same (sym n.numbered ∙ numbered)) (compiled.functions n.number _ n.stands) where
          some_same : {a b : ℕ} → Some a ≡ Some b → a ≡ b
          some_same e = cc

    first : take (length f.formals) raw.body.vars ≡ map (words_of_formal ds) f.formals
    first = formals_first ds f.formals stmts outer refl

    text_is : text_at W.setting.image (InFunction number) ≡ raw.body.code
    text_is = ap (λ (o : Option RawFunction). text_of (option_map (λ (f : RawFunction). f.body) o)) stands_in

    sizes_are : sizes_at W.setting.image (InFunction number) ≡ raw.body.vars
    sizes_are = ap (λ (o : Option RawFunction). sizes_of (option_map (λ (f : RawFunction). f.body) o)) stands_in

    body_is : IsBody U there outer stmts
    body_is = record { text = text_is; sizes = sizes_are; places = λ n h. lt-ltb n (length (text_at W.setting.image (InFunction number))) h }

    stepped : steps.does in_place (around W.setting) (instr.Call number) (frame_at (point K p (pushed words ws) fs vs) s) ≡ Some (frames.Spends (frame_at (point (run_of U low there) 0 [] [] us) s))
    stepped =
        given_is (slice_get W.setting.image.functions number) raw _ stands_in
        ∙ given_is (popped_all (sum (take (length f.formals) raw.body.vars)) (pushed words ws)) _ _
        (popped_pushed words ws (sum (take (length f.formals) raw.body.vars)) (joined_long ds f.formals arguments have ∙ ap sum (sym first)))

    allowed : (high : ℕ) → Allowed (run_of U high there) function_may []
    allowed high = record {
      input = λ e. absurd cc;
      own = λ e. absurd cc;
      sends = λ e. absurd cc;
      posts = λ e. absurd cc;
      gives = λ n e. absurd cc;
      reads = inl refl;
      writes = inl refl;
    }

    -- what the variables of the frame hold is what the formals hold
    stands_at : (high : ℕ) → high ≤ s.turns → s.turns ≤ W.setting.turns → ResultFits W.given s.result → Stands (run_of U high there) (Fixed s.state) outer us (with_variables (formals_holding f.formals arguments) s)
    stands_at high low_enough within result = record {
      agree =
          formals_held f.formals arguments (map Know (map zeros (drop (length f.formals) raw.body.vars))) (many_have ds f.formals arguments have)
          ∙ ap (λ (all : List Arg). variables_of all (formals_from 0 f.formals)) (sym (start_variables ds f.formals raw.body.vars words arguments (length f.formals) refl first (split_joined ds f.formals arguments have)));
      sized =
          subst (λ (sizes : List ℕ). AllZip ArgFits sizes us) (sym sizes_are)
          (held_fit (length f.formals) raw.body.vars words (joined_long ds f.formals arguments have ∙ ap sum (sym first)));
      keeps = refl;
      long = let e : 0 ≤ length s.state = omega arith in e;
      low = low_enough;
      within = within;
      result = result;
    }

    -- what is asked for behind the call is what is asked for at the end of the function
    comes_back : (Q : List ℤ → Store → Type 0) (o : Checked (Outcome (Unit {0}))) → low ≤ s.turns
        → ((words : List ℤ) (t : Store) → Q words t → t.variables ≡ s.variables → t.state ≡ s.state → ResultFits W.given t.result → low ≤ t.turns → t.turns ≤ W.setting.turns → length words ≡ words_of ds f.result None
        → Reached K (p + 1) (pushed words ws) fs vs t)
        → Comes K Q (unless_astray (after_function f s) o) → Comes (run_of U low there) (λ u t. Finished (run_of U low there) there.finish t) o
    comes_back Q (Meant (Goes u t)) le next c = λ kept. c (record { low = kept.low; within = λ _. kept.within; result = kept.result })
    comes_back Q (Meant (Returns words t)) le next c = λ kept long. next words (with_variables s.variables t) c refl kept.keeps kept.result kept.low kept.within long
    comes_back Q (Meant (Ends e t)) le next c = λ halted. c (record { low = halted.low; within = halted.within; result = halted.result })
    comes_back Q Astray le next c = c

    -- where the function's own calls do what they mean
    pub called : (level : ℕ) → Below U ds (checked_callees_at marks level ds W.setting.turns W.table) (s.turns + 1) → low ≤ s.turns → s.turns ≤ W.setting.turns → ResultFits W.given s.result → Is K p (instr.Call number)
        → Comes K
        (λ words t. t.variables ≡ s.variables → t.state ≡ s.state → ResultFits W.given t.result → low ≤ t.turns → t.turns ≤ W.setting.turns → length words ≡ words_of ds f.result None → Reached K (p + 1) (pushed words ws) fs vs t)
        ((checked_callees_at marks (suc level) ds W.setting.turns W.table).plain f arguments s)
        → Reached K p (pushed words ws) fs vs s
    called level below le within result stands_here c sent =
        performing W (body_at (point K p (pushed words ws) fs vs) sent s) (instr.Call number) stands_here
        (subst (λ (o : Option (Next Arg)). Acts W (body_at (point K p (pushed words ws) fs vs) sent s) (or_strays (frame_at (point K p (pushed words ws) fs vs) s) o)) (sym stepped)
        (spends_comes (run_of U low there) End (point (run_of U low there) 0 [] [] us) sent begin rest (λ fuel. exec fuel W.setting) (record { low = le; within = within; result = result }) behind
        (comes_back _ (checked_run chk context stmts begin) le (λ words t d. d) c))) where
          chk : Rattle.mpl_checked.specs.Checked.CheckedSteps.Checking
          chk = record { marks = marks; callees = checked_callees_at marks level ds W.setting.turns W.table }

          context : Rattle.mpl_mean.specs.Meaning.Context.Context
          context = context_of (run_of U 0 there) (callees_at level ds W.setting.turns W.table) outer

          begin : Store
          begin = with_variables (formals_holding f.formals arguments) s

          rest : Rattle.mpl_checked.specs.Checked.CheckedSteps.CheckedStep (Unit {0})
          rest = checked_in_turn (checked_each chk stmts context)

          End : Unit {0} → Store → Type 0
          End u t = Finished (run_of U low there) there.finish t

          high : ℕ
          high = s.turns + 1

          turned : Store
          turned = record begin { turns = s.turns + 1 }

          stands_turned : s.turns + 1 ≤ W.setting.turns → Stands (run_of U high there) (Fixed s.state) outer us turned
          stands_turned more =
              let st = stands_at 0 (omega arith) within result in
              record { agree = st.agree; sized = st.sized; keeps = st.keeps; long = st.long; low = let e : s.turns + 1 ≤ s.turns + 1 = omega arith in e; within = more; result = result }

          behind : Bounded (run_of U low there) turned → Comes (run_of U low there) End (rest turned) → Rattle.mpl_gen_code.proofs.Calling.Comes_by (run_of U low there) (λ fuel. exec fuel W.setting (body_at (point (run_of U low there) 0 [] [] us) sent turned))
          behind now d =
              let d_high : Comes (run_of U high there) (λ u t. Finished (run_of U high there) there.finish t) (rest turned) =
              raised U there low high (omega arith) _ (rest turned) (comes_map (run_of U low there) (rest turned) (λ u t e kept. e (record { low = let h = kept.low in omega arith; within = kept.within; keeps = kept.keeps; result = kept.result })) d) in
              body_follows U there function_may outer (callees_at level ds W.setting.turns W.table) (checked_callees_at marks level ds W.setting.turns W.table) high below allowed
              (λ low. record { members = compiled.members; classes = compiled.classes; in_place = in_place_too })
              (plain_adds ds empty marks level W.setting.turns W.table) (regular_adds ds empty marks level W.setting.turns W.table) (λ low. inl refl) refl
              (λ low. record { function = raw; stands = stands_in; gives = refl; caller = record { code = here.code; place = p + 1; words = ws; flows = fs; variables = vs }; callers = here.callers; called = refl })
              stmts body_is (trees.function name f is) (formals_well ds f.formals) high (omega arith) us turned (stands_turned now.within)
              (within_none (run_of U high there) ds _ (rest turned) d_high) d_high sent

    -- where no turn is left
    pub called_spent : W.setting.turns ≤ s.turns → low ≤ s.turns → s.turns ≤ W.setting.turns → ResultFits W.given s.result → Is K p (instr.Call number)
        → (Q : List ℤ → Store → Type 0) → Comes K Q ((checked_callees_at marks zero ds W.setting.turns W.table).plain f arguments s) → Reached K p (pushed words ws) fs vs s
    called_spent none le within result stands_here Q c sent =
        performing W (body_at (point K p (pushed words ws) fs vs) sent s) (instr.Call number) stands_here
        (subst (λ (o : Option (Next Arg)). Acts W (body_at (point K p (pushed words ws) fs vs) sent s) (or_strays (frame_at (point K p (pushed words ws) fs vs) s) o)) (sym stepped)
        (spends_comes K Q (point (run_of U low there) 0 [] [] us) sent s (λ t. Meant (Ends end.Spent t)) (λ fuel. exec fuel W.setting) (record { low = le; within = within; result = result })
        (λ now d. absurd (let h = now.within in omega arith))
        (subst (Comes K Q) (meant_then (spend W.setting.turns s) (λ _ t. Ends end.Spent t)) c)))
