-- A body of a program whose uses are marked that may find a pending or a trapped result is safe in a frame alone, from a start
-- that fits.
use Rattle.std.proofs.Common.{◌≡◌, ◌≤◌, ℕ, ◌+◌, Bool, true, false, not, List, [], ◌∷◌, length, map, take, sum, Option, Some, None, if◌then◌else◌, ◌⊎◌, inl, inr, refl, ap, sym, subst, arith, ◌∙◌}
use Rattle.std.proofs.lemmas.Bool.{lt-ltb}
use Rattle.std.proofs.lemmas.List.Sums.{sum_by-cons}
use Rattle.std.specs.FinMap.{empty}
use Rattle.std.specs.Option.{option_map, unwrap_or}
use Rattle.std.specs.Prelude.{codes}
use Rattle.mpl_ast.specs.declared.class.Formal.{Formal}
use Rattle.mpl_ast.specs.declared.program.Declaration.{Declaration}
use Rattle.mpl_ast.specs.declared.program.Program.{Program}
use Rattle.mpl_value.specs.declared.body.Arg.TheVariants as arg
use Rattle.mpl_value.specs.declared.body.BodyStart.{BodyStart}
use Rattle.mpl_value.specs.declared.body.MemberId.{MemberId}
use Rattle.mpl_mean.specs.Laws.Sizes.{MemberFits, StartFits, WordsFit, member_of_id, words_of_formal, words_of_formals}
use Rattle.mpl_mean.specs.Meaning.BodyMeaning.{member_of_classes}
use Rattle.mpl_mean.specs.Meaning.Layout.{Class, Member, classes_of, function_named, parts_of, words_of_parts}
use Rattle.mpl_mean.specs.Pending.MayBePending.{MayBePending}
use Rattle.mpl_mean.specs.Plain.Stmt.{Stmts, stmts_of}
use Rattle.mpl_mean.specs.TypeRules.Rules.{is_typed}
use Rattle.mdf_code.specs.Alone.{Words}
use Rattle.mdf_code.specs.Frames.{InMain, InMember}
use Rattle.mdf_code.specs.Parts.{has_object, is_persistent_member, sizes_at, sizes_of, text_at, text_of, variables_holding}
use Rattle.mdf_code.specs.Right.{StraysAsInPlace}
use Rattle.mdf_code.specs.Stacks.{given}
use Rattle.mdf_code.specs.Yields.{formals_at, formals_of, start_frame}
use Rattle.mdf_code.specs.declared.raw.RawImage.{RawImage}
use Rattle.mdf_code.specs.declared.raw.RawMember.{RawMember}
use Rattle.mdf_code.proofs.FittingValues.{held_fit}
use Rattle.mpl_gen_code.specs.Fits.{MemberIs, main_may, member_may}
use Rattle.mpl_gen_code.specs.ProgramFits.{ProgramFits}
use Rattle.mpl_gen_code.specs.ProgramImage.{image_of, main_env, main_stmts, member_env}
use Rattle.mpl_gen_code.specs.Scopes.{Env}
use Rattle.mpl_gen_code.specs.StatementCode.{behind_all}
use Rattle.mpl_gen_code.proofs.Calling.{MemberStands}
use Rattle.mpl_gen_code.proofs.Compiled.{Compiled}
use Rattle.mpl_gen_code.proofs.Compiling.{id_same, image_compiled}
use Rattle.mpl_gen_code.proofs.Fronts.{formals_first}
use Rattle.mpl_gen_code.proofs.Starting.{formals_well}
use Rattle.mpl_gen_code.proofs.TypedPrograms.{typed_fits}
use Rattle.mpl_gen_laws.specs.SafeFrames.{Safe}
use Rattle.mpl_gen_laws.proofs.CoveredBodies.{ProgramCovers, bodies_covered}
use Rattle.mpl_gen_laws.proofs.SafeBodies.{IsBodyOf, body_follows, called_upto, words_held}
use Rattle.mpl_gen_laws.proofs.SafeExpressions.{MayIn}
use Rattle.mpl_gen_laws.proofs.SafeSteps.{Run, Scene}
use Rattle.mpl_gen_laws.proofs.SafeTold.{strays_nowhere}

module _ (p : Program) (marks : ℕ → Bool) (covers : ProgramCovers p.declarations marks) (trees : ProgramFits p.declarations marks) (start : BodyStart) (counts : ℕ → ℕ) (n : ℕ) where
  abbrev ds : List Declaration
  ds = p.declarations

  abbrev image : RawImage
  image = image_of p marks

  compiled : Compiled image ds marks
  compiled = image_compiled p marks

  -- the body of this member is safe from its start
  abbrev SafeFrom : Option MemberId → Type 0
  SafeFrom o = Safe image start.object counts n 0 (λ r. arg.Unknown) (start_frame Words image (record start { member = o }))

  -- ---- `main`

  abbrev main_scene : Scene
  main_scene = record { image = image; object = start.object; sizes = counts; code = InMain; callers = []; long = length start.state }

  abbrev main_begins : Run main_scene
  main_begins = record { calls = 0; knows = λ r. arg.Unknown; good = λ r. tt; state = start.state; is_long = refl; input = start.input; lines = []; replied = false }

  abbrev main_body : Stmts
  main_body = main_stmts (function_named (codes "main") ds)

  main_allowed : MayIn main_scene main_may []
  main_allowed = record {
    input = λ e. refl;
    own = λ e. absurd cc;
    sends = λ e. refl;
    posts = λ e. refl;
    gives = λ n e. absurd cc;
    reads = inl refl;
    writes = inl refl;
    state = let e : 0 ≤ length start.state = omega arith in e;
  }

  main_is_body : IsBodyOf main_scene (main_env ds marks) main_body
  main_is_body = record { text = refl; sizes = refl; places = λ n h. lt-ltb n (length (text_at image InMain)) h }

  main_safe : length start.args ≡ 0 → SafeFrom None
  main_safe no_args =
      body_follows main_scene main_may (main_env ds marks) main_allowed n (λ m le. called_upto ds marks covers trees n main_scene compiled m le) marks compiled main_begins tt main_body main_is_body trees.main covers.main tt
      (variables_holding 0 (sizes_at image InMain) start.args)
      (words_held counts (sizes_at image InMain) (variables_holding 0 (sizes_at image InMain) start.args) (held_fit 0 (sizes_at image InMain) start.args no_args))

  -- ---- members

  module _ (class : Class) (m : Member) (is : MemberIs ds class m) (fit : MemberFits ds start (Some (class, m))) where
    abbrev id : MemberId
    id = record { 0 = m.id }

    abbrev around : Env
    around = member_env ds marks class m

    abbrev scene : Scene
    scene = record { image = image; object = start.object; sizes = counts; code = InMember m.id; callers = []; long = length start.state }

    abbrev begins : Run scene
    begins = record { calls = 0; knows = λ r. arg.Unknown; good = λ r. tt; state = start.state; is_long = refl; input = start.input; lines = []; replied = false }

    stands_in : MemberStands image ds marks class m
    stands_in = compiled.members class m is

    object_is : has_object image (InMember m.id) ≡ not class.is_regular
    object_is = ap (λ (o : Option RawMember). is_persistent_member image o) stands_in.stands ∙ ap (λ (o : Option Bool). not (unwrap_or o true)) stands_in.class_is

    by_kind : (b : Bool) → class.is_regular ≡ b → (around.parts ≡ []) ⊎ (has_object image (InMember m.id) ≡ true)
    by_kind true e = inl (ap (λ (b : Bool). if b then [] else parts_of ds class.state) e)
    by_kind false e = inr (object_is ∙ ap not e)

    state_long : (b : Bool) → class.is_regular ≡ b → words_of_parts around.parts ≤ length start.state
    state_long true e = subst (λ (b : Bool). words_of_parts (if b then [] else parts_of ds class.state) ≤ length start.state) (sym e) (let n : 0 ≤ length start.state = omega arith in n)
    state_long false e = subst (λ (b : Bool). words_of_parts (if b then [] else parts_of ds class.state) ≤ length start.state) (sym e) (let n : length start.state ≡ words_of_parts (parts_of ds class.state) = fit.1 in omega arith)

    allowed : MayIn scene (member_may ds class m) around.parts
    allowed = record {
      input = λ e. absurd cc;
      own = λ e. object_is ∙ e;
      sends = λ e. refl;
      posts = λ e. object_is ∙ e;
      gives = λ n e. ap (λ (o : Option RawMember). given o (λ m. m.result)) stands_in.stands ∙ e;
      reads = by_kind class.is_regular refl;
      writes = by_kind class.is_regular refl;
      state = state_long class.is_regular refl;
    }

    formals_are : formals_at image (Some id) ≡ length m.formals
    formals_are = ap formals_of stands_in.stands

    sizes_are : sizes_at image (InMember m.id) ≡ (behind_all (stmts_of m.body) around).sizes
    sizes_are = ap (λ (o : Option RawMember). sizes_of (option_map (λ (m : RawMember). m.body) o)) stands_in.stands

    is_body : IsBodyOf scene around (stmts_of m.body)
    is_body = record {
      text = ap (λ (o : Option RawMember). text_of (option_map (λ (m : RawMember). m.body) o)) stands_in.stands;
      sizes = sizes_are;
      places = λ n h. lt-ltb n (length (text_at image (InMember m.id))) h;
    }

    formals_come : take (length m.formals) (sizes_at image (InMember m.id)) ≡ map (words_of_formal ds) m.formals
    formals_come = ap (take (length m.formals)) sizes_are ∙ formals_first ds m.formals (stmts_of m.body) around refl

    args_long : length start.args ≡ sum (take (formals_at image (Some id)) (sizes_at image (InMember m.id)))
    args_long = fit.0 ∙ sums m.formals ∙ ap sum (sym (ap (λ n. take n (sizes_at image (InMember m.id))) formals_are ∙ formals_come)) where
      sums : (formals : List Formal) → words_of_formals ds formals ≡ sum (map (words_of_formal ds) formals)
      sums [] = refl
      sums (formal ∷ formals) =
          sum_by-cons (words_of_formal ds) formal formals ∙ ap (λ n. words_of_formal ds formal + n) (sums formals) ∙ sym (sum_by-cons (λ (n : ℕ). n) (words_of_formal ds formal) (map (words_of_formal ds) formals))

    member_safe : SafeFrom (Some id)
    member_safe =
        body_follows scene (member_may ds class m) around allowed n (λ m le. called_upto ds marks covers trees n scene compiled m le) marks compiled begins tt (stmts_of m.body) is_body (trees.member class m is) (covers.member class m is) (formals_well ds m.formals)
        (variables_holding (formals_at image (Some id)) (sizes_at image (InMember m.id)) start.args)
        (words_held counts (sizes_at image (InMember m.id)) (variables_holding (formals_at image (Some id)) (sizes_at image (InMember m.id)) start.args)
        (held_fit (formals_at image (Some id)) (sizes_at image (InMember m.id)) start.args args_long))

  -- ---- any body

  of_found : (id : MemberId) (found : Option (Class × Member)) → member_of_id ds id ≡ found → MemberFits ds start found → SafeFrom (Some id)
  of_found id None is fit = absurd fit
  of_found id (Some found) is fit =
      let same = id_same p id.0 found.0 found.1 is in
      subst (λ n. SafeFrom (Some (record { 0 = n }))) same (member_safe found.0 found.1 (record { found = ap (λ n. member_of_classes n (classes_of ds)) same ∙ is }) fit)

  by_member : (o : Option MemberId) → WordsFit ds start o → SafeFrom o
  by_member None fit = main_safe fit.0
  by_member (Some id) fit = of_found id (member_of_id ds id) refl fit

  body_safe : StartFits p start → Safe image start.object counts n 0 (λ r. arg.Unknown) (start_frame Words image start)
  body_safe fit = by_member start.member fit.words

pub covered_frames_stray_nowhere : (p : Program) (marks : ℕ → Bool) → is_typed p ≡ true → ((node : ℕ) → MayBePending p node → marks node ≡ true) → (start : BodyStart) → StartFits p start → StraysAsInPlace (image_of p marks) start empty
covered_frames_stray_nowhere p marks typed holds start fit =
    strays_nowhere (image_of p marks) start (λ counts n. body_safe p marks (bodies_covered p marks typed holds) (typed_fits p marks typed) start counts n fit)
