-- The code of `main` and of members yields what they mean.
use Rattle.std.proofs.Common.{◌≡◌, ◌≤◌, ℕ, ◌+◌, Bool, true, false, not, List, [], ◌∷◌, length, map, take, drop, sum, Option, Some, None, if◌then◌else◌, ℤ, pos, ◌⊎◌, inl, inr, refl, ap, sym, subst, arith, ◌∙◌}
use Rattle.std.proofs.lemmas.Bool.{lt-ltb}
use Rattle.std.specs.FinMap.{FinMap}
use Rattle.std.specs.Option.{option_map, unwrap_or}
use Rattle.std.specs.Ordering.{nat_cmp}
use Rattle.std.specs.Prelude.{codes}
use Rattle.std.proofs.lemmas.List.Sums.{sum_by-cons}
use Rattle.mpl_ast.specs.declared.class.Formal.{Formal}
use Rattle.mpl_ast.specs.declared.program.Declaration.{Declaration}
use Rattle.mpl_value.specs.Words.{zeros}
use Rattle.mpl_value.specs.declared.body.Arg.{Arg}
use Rattle.mpl_value.specs.declared.body.Arg.TheVariants.{Know}
use Rattle.mpl_value.specs.declared.body.BodyEnd.{BodyEnd}
use Rattle.mpl_value.specs.declared.body.BodyEnd.TheVariants as end
use Rattle.mpl_value.specs.declared.body.BodyResult.{BodyResult}
use Rattle.mpl_value.specs.declared.body.BodyResult.TheVariants as result
use Rattle.mpl_value.specs.declared.body.BodyStart.{BodyStart}
use Rattle.mpl_value.specs.declared.body.MemberId.{MemberId}
use Rattle.mpl_value.specs.declared.body.Yield.{Yield}
use Rattle.mpl_value.specs.declared.known.Known.{Known}
use Rattle.mpl_mean.specs.Laws.Sizes.{words_of_formal, words_of_formals, words_of_result}
use Rattle.mpl_mean.specs.Meaning.BodyMeaning.{callees_at, formals_holding, main_yield, member_of_classes, member_or, member_yield, store_with, yield_with}
use Rattle.mpl_mean.specs.Meaning.BodyMeaning as mean
use Rattle.mpl_mean.specs.Meaning.Layout.{Class, Function, Member, function_named, parts_of, words_of_parts}
use Rattle.mpl_mean.specs.Meaning.Store.{Store, Outcome, Goes, Returns, Ends}
use Rattle.mpl_mean.specs.Plain.Stmt.{Stmts, stmts_of}
use Rattle.mdf_code.specs.Frames.{InMain, InMember}
use Rattle.mdf_code.specs.Parts.{has_object, is_persistent_member, sizes_at, sizes_of, text_at, text_of, variables_holding}
use Rattle.mdf_code.specs.Stacks.{given}
use Rattle.mdf_code.specs.Yields.{YieldsUnstrayed, formals_at, formals_of, missed_by, or_missed}
use Rattle.mdf_code.specs.declared.raw.RawCode.{RawCode}
use Rattle.mdf_code.specs.declared.raw.RawImage.{RawImage}
use Rattle.mdf_code.specs.declared.raw.RawMember.{RawMember}
use Rattle.mdf_code.proofs.FittingValues.{held_fit}
use Rattle.mpl_checked.specs.Checked.CheckedBodies.{checked_callees_at, checked_run, stmts_of_function}
use Rattle.mpl_checked.specs.Checked.CheckedSteps.{Checked, Meant, Astray, unless_astray}
use Rattle.mpl_gen_code.specs.Fits.{MemberIs, main_may, member_may}
use Rattle.mpl_gen_code.specs.ProgramFits.{ProgramFits}
use Rattle.mpl_gen_code.specs.ProgramImage.{code_of_body, main_env, main_line, main_stmts, member_env, result_image}
use Rattle.mpl_gen_code.specs.Scopes.{Env, OfBody, formals_from}
use Rattle.mpl_gen_code.specs.StatementCode.{behind_all}
use Rattle.mpl_gen_code.proofs.Adding.{Promised}
use Rattle.mpl_gen_code.proofs.Assignments.{Writable}
use Rattle.mpl_gen_code.proofs.Bodies.{Finished, IsBody}
use Rattle.mpl_gen_code.proofs.Calling.{MemberStands}
use Rattle.mpl_gen_code.proofs.Compiled.{Compiled}
use Rattle.mpl_gen_code.proofs.Fronts.{formals_first}
use Rattle.mpl_gen_code.proofs.Members.{Meets}
use Rattle.mpl_gen_code.proofs.Reaching.{Here, IsDone, Run, Sized, Whole, run_of, stopped}
use Rattle.mpl_gen_code.proofs.RegularLevels.{end_same, stop_same}
use Rattle.mpl_gen_code.proofs.Scoped.{Allowed, Stands, context_of, variables_of}
use Rattle.mpl_gen_code.proofs.Starting.{formals_held, formals_well, split_many, split_same, start_variables}
use Rattle.mpl_gen_code.proofs.FirstBodies.{first_whole, starts}
use Rattle.mpl_mean.specs.Laws.Sizes.{MemberFits}

-- ---- `main`

pub main_same : (o : Option Function) → main_stmts o ≡ stmts_of_function o
main_same None = refl
main_same (Some f) = refl

or_open : (r : BodyResult) → or_missed result.Open r ≡ r
or_open result.Open = refl
or_open (result.Known known) = refl
or_open result.Unknown = refl

main_stopped : (e : BodyEnd) (r : BodyResult) → stopped None e r ≡ r
main_stopped (end.Trap t) r = refl
main_stopped end.Done r = refl
main_stopped end.Waits r = refl
main_stopped end.Spent r = refl

meant_is : {A : Type 0} {a b : A} → Meant a ≡ Meant b → a ≡ b
meant_is e = cc

module _ (image : RawImage) (ds : List Declaration) (marks : ℕ → Bool) (compiled : Compiled image ds marks) (fits : ProgramFits ds marks) (replies : FinMap nat_cmp Known) (turns : ℕ) (y : Yield) (promised : Promised ds replies y.calls) where
  module _ (code : image.main ≡ code_of_body (main_env ds marks) (main_stmts (function_named (codes "main") ds))) (start : BodyStart) (no_args : length start.args ≡ 0) where
    abbrev at_main : BodyStart
    at_main = record start { member = None }

    abbrev W : Whole
    W = first_whole image at_main replies turns None y

    abbrev outer : Env
    outer = main_env ds marks

    abbrev stmts : Stmts
    stmts = main_stmts (function_named (codes "main") ds)

    abbrev here : Here
    here = record { code = InMain; callers = []; finish = outer.finish; keeping = Sized (length start.state); object = pos 0; number = start.number }

    abbrev K : Run
    K = run_of W 0 here

    main_allowed : (low : ℕ) → Allowed (run_of W low here) main_may []
    main_allowed low = record {
      input = λ e. refl;
      own = λ e. absurd cc;
      sends = λ e. refl;
      posts = λ e. (refl, refl, refl, (λ call. refl));
      gives = λ n e. absurd cc;
      reads = inl refl;
      writes = inl refl;
    }

    main_body : IsBody W here outer stmts
    main_body = record {
      text = ap (λ (c : RawCode). c.code) code;
      sizes = ap (λ (c : RawCode). c.vars) code;
      places = λ n h. lt-ltb n (length (text_at image InMain)) h;
    }

    abbrev vs : List Arg
    vs = map Know (variables_holding 0 (sizes_at image InMain) start.args)

    abbrev begin : Store
    begin = store_with [] start.state start.input 0

    main_stands : Stands K here.keeping outer vs begin
    main_stands = record {
      agree = refl;
      sized = held_fit 0 (sizes_at image InMain) start.args no_args;
      keeps = refl;
      long = let e : 0 ≤ length start.state = omega arith in e;
      low = let e : 0 ≤ 0 = omega arith in e;
      within = let e : 0 ≤ turns = omega arith in e;
      result = tt;
    }

    main_done : (line : ℕ) (t : Store) → yield_with end.Done t.result t ≡ y → IsDone W line t
    main_done line t e at sent = (ap (λ r. yield_with end.Done r t) (or_open t.result) ∙ e, refl)

    main_meets : (line : ℕ) (o : Checked (Outcome (Unit {0}))) → unless_astray main_yield o ≡ Meant y → Meets (run_of W 0 (record here { finish = OfBody line })) ds (λ u t. Finished (run_of W 0 (record here { finish = OfBody line })) (OfBody line) t) o
    main_meets line (Meant (Goes u t)) e = (subst (λ (z : Yield). Promised ds replies z.calls) (sym (meant_is e)) promised, (λ kept. main_done line t (meant_is e)))
    main_meets line (Meant (Returns words t)) e = (subst (λ (z : Yield). Promised ds replies z.calls) (sym (meant_is e)) promised, (λ kept. main_done line t (meant_is e)))
    main_meets line (Meant (Ends x t)) e =
        (subst (λ (z : Yield). Promised ds replies z.calls) (sym (meant_is e)) promised, (λ halted at sent. (ap (λ r. yield_with x r t) (main_stopped x t.result) ∙ meant_is e, refl)))
    main_meets line Astray e = absurd cc

    pub main_yields : unless_astray main_yield
        (checked_run (record { marks = marks; callees = checked_callees_at marks turns ds turns replies }) (context_of K (callees_at turns ds turns replies) outer) stmts begin) ≡ Meant y
        → YieldsUnstrayed image at_main replies turns y
    main_yields e =
        let r = starts W here main_may outer compiled fits refl refl main_allowed (λ low. inl refl) (λ low. tt) stmts main_body fits.main tt vs begin (omega arith) tt main_stands
        (main_meets (main_line (function_named (codes "main") ds)) _ e) in
        record { steps = r.0; ended = r.1; within = r.2; is = r.3.0; unstrayed = r.3.1 }

  -- ---- members

  module _ (start : BodyStart) (class : Class) (m : Member) (is : MemberIs ds class m) (fit : MemberFits ds start (Some (class, m))) where
    abbrev id : MemberId
    id = record { 0 = m.id }

    abbrev at_member : BodyStart
    at_member = record start { member = Some id }

    abbrev MW : Whole
    MW = first_whole image at_member replies turns (Some (words_of_result ds m.result)) y

    abbrev around : Env
    around = member_env ds marks class m

    abbrev body : Stmts
    body = stmts_of m.body

    abbrev there : Here
    there = record { code = InMember m.id; callers = []; finish = around.finish; keeping = Sized (length start.state); object = start.object; number = start.number }

    abbrev MK : Run
    MK = run_of MW 0 there

    stands_in : MemberStands image ds marks class m
    stands_in = compiled.members class m is

    object_is : has_object image (InMember m.id) ≡ not class.is_regular
    object_is = ap (λ (o : Option RawMember). is_persistent_member image o) stands_in.stands ∙ ap (λ (o : Option Bool). not (unwrap_or o true)) stands_in.class_is

    by_kind : (b : Bool) → class.is_regular ≡ b → (around.parts ≡ []) ⊎ (has_object image (InMember m.id) ≡ true)
    by_kind true e = inl (ap (λ (b : Bool). if b then [] else parts_of ds class.state) e)
    by_kind false e = inr (object_is ∙ ap not e)

    words_result : (r : Rattle.mpl_ast.specs.declared.class.ResultType.ResultType) (n : ℕ) → result_image ds r ≡ Some n → words_of_result ds r ≡ n
    words_result (Rattle.mpl_ast.specs.declared.class.ResultType.TheVariants.Void at) n e = absurd cc
    words_result (Rattle.mpl_ast.specs.declared.class.ResultType.TheVariants.Typed at type) n e = cc

    member_allowed : (low : ℕ) → Allowed (run_of MW low there) (member_may ds class m) around.parts
    member_allowed low = record {
      input = λ e. absurd cc;
      own = λ e. (object_is ∙ e, refl);
      sends = λ e. refl;
      posts = λ e. (object_is ∙ e, refl, refl, (λ call. refl));
      gives = λ n e. (ap (λ (o : Option RawMember). given o (λ m. m.result)) stands_in.stands ∙ e, ap Some (words_result m.result n e));
      reads = by_kind class.is_regular refl;
      writes = by_kind class.is_regular refl;
    }

    member_writes : (low : ℕ) → Writable (run_of MW low there) around.parts
    member_writes low = inr (length start.state, refl)

    formals_are : formals_at image (Some id) ≡ length m.formals
    formals_are = ap formals_of stands_in.stands

    sizes_are : sizes_at image (InMember m.id) ≡ (behind_all body around).sizes
    sizes_are = ap (λ (o : Option RawMember). sizes_of (option_map (λ (m : RawMember). m.body) o)) stands_in.stands

    member_is_body : IsBody MW there around body
    member_is_body = record {
      text = ap (λ (o : Option RawMember). text_of (option_map (λ (m : RawMember). m.body) o)) stands_in.stands;
      sizes = sizes_are;
      places = λ n h. lt-ltb n (length (text_at image (InMember m.id))) h;
    }

    first : take (length m.formals) (sizes_at image (InMember m.id)) ≡ map (words_of_formal ds) m.formals
    first = ap (take (length m.formals)) sizes_are ∙ formals_first ds m.formals body around refl

    long : length start.args ≡ sum (take (formals_at image (Some id)) (sizes_at image (InMember m.id)))
    long = fit.0 ∙ sums m.formals ∙ ap sum (sym (ap (λ n. take n (sizes_at image (InMember m.id))) formals_are ∙ first)) where
      sums : (formals : List Formal) → words_of_formals ds formals ≡ sum (map (words_of_formal ds) formals)
      sums [] = refl
      sums (formal ∷ formals) =
          sum_by-cons (words_of_formal ds) formal formals ∙ ap (λ n. words_of_formal ds formal + n) (sums formals) ∙ sym (sum_by-cons (λ (n : ℕ). n) (words_of_formal ds formal) (map (words_of_formal ds) formals))

    abbrev us : List Arg
    us = map Know (variables_holding (formals_at image (Some id)) (sizes_at image (InMember m.id)) start.args)

    abbrev arguments : List (List ℤ)
    arguments = mean.split_words ds m.formals start.args

    abbrev first_store : Store
    first_store = store_with (formals_holding m.formals arguments) start.state start.input 0

    state_long : (b : Bool) → class.is_regular ≡ b → words_of_parts around.parts ≤ length start.state
    state_long true e = subst (λ (b : Bool). words_of_parts (if b then [] else parts_of ds class.state) ≤ length start.state) (sym e) (let n : 0 ≤ length start.state = omega arith in n)
    state_long false e = subst (λ (b : Bool). words_of_parts (if b then [] else parts_of ds class.state) ≤ length start.state) (sym e) (let n : length start.state ≡ words_of_parts (parts_of ds class.state) = fit.1 in omega arith)

    member_stands : Stands MK there.keeping around us first_store
    member_stands = record {
      agree =
          formals_held m.formals arguments (map Know (map zeros (drop (length m.formals) (sizes_at image (InMember m.id))))) (split_many ds m.formals start.args)
          ∙ ap (λ (all : List Arg). variables_of all (formals_from 0 m.formals))
          (sym (start_variables ds m.formals (sizes_at image (InMember m.id)) start.args arguments (formals_at image (Some id)) formals_are first (split_same ds m.formals start.args)));
      sized = held_fit (formals_at image (Some id)) (sizes_at image (InMember m.id)) start.args long;
      keeps = refl;
      long = state_long class.is_regular refl;
      low = let e : 0 ≤ 0 = omega arith in e;
      within = let e : 0 ≤ turns = omega arith in e;
      result = tt;
    }

    member_done : (t : Store) → yield_with end.Done (mean.result_at_end m.result m.body.mark_line t.result) t ≡ y → IsDone MW m.body.mark_line t
    member_done t e at sent = (
      ap (λ r. yield_with end.Done r t)
          (ap (λ (o : Option RawMember). or_missed (missed_by m.body.mark_line o) t.result) stands_in.stands ∙ sym (end_same ds m.body.mark_line m.result t.result))
          ∙ e,
      refl,
    )

    member_meets : (o : Checked (Outcome (Unit {0}))) → unless_astray (member_yield m) o ≡ Meant y → Meets MK ds (λ u t. Finished MK there.finish t) o
    member_meets (Meant (Goes u t)) e = (subst (λ (z : Yield). Promised ds replies z.calls) (sym (meant_is e)) promised, (λ kept. member_done t (meant_is e)))
    member_meets (Meant (Returns words t)) e = (subst (λ (z : Yield). Promised ds replies z.calls) (sym (meant_is e)) promised, (λ kept. member_done t (meant_is e)))
    member_meets (Meant (Ends x t)) e =
        (subst (λ (z : Yield). Promised ds replies z.calls) (sym (meant_is e)) promised, (λ halted at sent. (ap (λ r. yield_with x r t) (sym (stop_same id x t.result)) ∙ meant_is e, refl)))
    member_meets Astray e = absurd cc

    pub member_yields : unless_astray (member_yield m)
        (checked_run (record { marks = marks; callees = checked_callees_at marks turns ds turns replies }) (context_of MK (callees_at turns ds turns replies) around) body first_store) ≡ Meant y
        → YieldsUnstrayed image at_member replies turns y
    member_yields e =
        let r = starts MW there (member_may ds class m) around compiled fits refl refl member_allowed member_writes (λ low. tt) body member_is_body (fits.member class m is) (formals_well ds m.formals) us first_store (omega arith) tt member_stands
        (member_meets _ e) in
        record { steps = r.0; ended = r.1; within = r.2; is = r.3.0; unstrayed = r.3.1 }
