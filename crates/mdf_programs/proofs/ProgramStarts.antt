-- In a machine of a well typed program whose classes are regular each start fits, as the program's declarations say.
use Rattle.std.proofs.Common.{◌≡◌, ◌<◌, ◌+◌, ℕ, zero, suc, Bool, true, List, [], ◌∷◌, length, map, sum, take, slice_get, Option, Some, None, ℤ, refl, sym, ap, ◌∙◌, subst, arith}
use Rattle.std.proofs.lemmas.List.Sums.{sum_by-cons}
use Rattle.std.specs.Option.{option_map}
use Rattle.mpl_ast.specs.declared.class.Entry.{Entry}
use Rattle.mpl_ast.specs.declared.class.Formal.{Formal}
use Rattle.mpl_ast.specs.declared.program.Declaration.{Declaration}
use Rattle.mpl_ast.specs.declared.program.Program.{Program}
use Rattle.mpl_value.specs.declared.body.Arg.{Arg}
use Rattle.mpl_value.specs.declared.body.MemberId.{MemberId}
use Rattle.mpl_mean.specs.Laws.Sizes.{Every, MemberFits, StartFits, member_of_id, words_of_formal, words_of_formals, words_of_object}
use Rattle.mpl_mean.specs.Meaning.BodyMeaning.{member_of_classes}
use Rattle.mpl_mean.specs.Meaning.DirectRun.{main_start}
use Rattle.mpl_mean.specs.Meaning.Layout.{Class, Member, classes_of, parts_of, words_of_parts}
use Rattle.mpl_mean.specs.Plain.Stmt.{stmts_of}
use Rattle.mpl_mean.specs.TypeRules.Rules.{is_typed}
use Rattle.mpl_mean.proofs.Sizes.SizedPrograms.{well_program}
use Rattle.mpl_mean.proofs.Sizes.SizedStarts.{class_numbered}
use Rattle.mdf_code.specs.declared.raw.RawClass.{RawClass}
use Rattle.mdf_code.specs.declared.raw.RawImage.{RawImage}
use Rattle.mdf_code.specs.declared.raw.RawMember.{RawMember}
use Rattle.mdf_code.specs.Frames.{InMember}
use Rattle.mdf_code.specs.Parts.{sizes_at, sizes_of}
use Rattle.mdf_code.specs.Sizes.{ArgumentsFit}
use Rattle.mdf_code.specs.Sizes as code
use Rattle.mdf_code.specs.Yields.{formals_at, formals_of, regular_start}
use Rattle.mpl_gen_code.specs.Fits.{MemberIs}
use Rattle.mpl_gen_code.specs.ProgramImage.{classes_image, image_of, member_env, selects_of}
use Rattle.mpl_gen_code.specs.Scopes.{Env}
use Rattle.mpl_gen_code.specs.StatementCode.{behind_all}
use Rattle.mpl_gen_code.proofs.Calling.{MemberStands}
use Rattle.mpl_gen_code.proofs.Compiling.{id_same, image_compiled}
use Rattle.mpl_gen_code.proofs.Fronts.{formals_first}
use Rattle.mdf_core.specs.Actors.{arguments_of, port_words}
use Rattle.mdf_core.specs.Enabled.{IsLog}
use Rattle.mdf_core.specs.Stages.{Starts, StartsPlain, OfMain, OfMember, has_begun}
use Rattle.mdf_core.specs.Steps.{Log, after}
use Rattle.mdf_core.specs.Worlds.{Job, World}
use Rattle.mdf_core.proofs.FilledPorts.{some_same}
use Rattle.mdf_core.proofs.Staging.{as_statuses_say}
use Rattle.mdf_core.proofs.ToldSo.{so}
use Rattle.mdf_core.proofs.TreeOfActors.{tree}
use Rattle.mdf_drive.specs.Plain.{IsPlain}
use Rattle.mdf_drive.proofs.PlainImages.{regular_images_are_plain}
use Rattle.mdf_drive.proofs.Plainness.{all_plain, main_call_is}
use Rattle.mdf_drive.proofs.Tallies.{plain_start}
use Rattle.mdf_programs.specs.ProgramJobs.{HasRegularClasses, job_of}
use Rattle.mdf_drive.proofs.FittingLogs.{actor_starts, arguments_fit, starts_fit}
use Rattle.mdf_programs.proofs.NumberedMembers.{found_member, of_member}

-- a member of a regular class starts with the words of its formals, and with no state
module _ (p : Program) (marks : ℕ → Bool) (typed : is_typed p ≡ true) (class : Class) (m : Member) (is : MemberIs p.declarations class m) (regular : class.is_regular ≡ true) where
  abbrev ds : List Declaration
  ds = p.declarations

  abbrev image : RawImage
  image = image_of p marks

  abbrev id : MemberId
  id = record { 0 = m.id }

  abbrev around : Env
  around = member_env ds marks class m

  stands : MemberStands image ds marks class m
  stands = (image_compiled p marks).members class m is

  formals_are : formals_at image (Some id) ≡ length m.formals
  formals_are = ap formals_of stands.stands

  sizes_are : sizes_at image (InMember m.id) ≡ (behind_all (stmts_of m.body) around).sizes
  sizes_are = ap (λ (o : Option RawMember). sizes_of (option_map (λ (m : RawMember). m.body) o)) stands.stands

  formals_come : take (length m.formals) (sizes_at image (InMember m.id)) ≡ map (words_of_formal ds) m.formals
  formals_come = ap (take (length m.formals)) sizes_are ∙ formals_first ds m.formals (stmts_of m.body) around refl

  sums : (formals : List Formal) → words_of_formals ds formals ≡ sum (map (words_of_formal ds) formals)
  sums [] = refl
  sums (formal ∷ formals) =
      sum_by-cons (words_of_formal ds) formal formals ∙ ap (λ n. words_of_formal ds formal + n) (sums formals) ∙ sym (sum_by-cons (λ (n : ℕ). n) (words_of_formal ds formal) (map (words_of_formal ds) formals))

  formals_sum : sum (code.sizes_of_start image (Some id)) ≡ words_of_formals ds m.formals
  formals_sum = ap sum (ap (λ n. take n (sizes_at image (InMember m.id))) formals_are ∙ formals_come) ∙ sym (sums m.formals)

  no_state : words_of_object ds class ≡ 0
  no_state =
      let well = well_program p typed in
      let found = class_numbered ds m.id (class, m) 0 0 [] ds well.differ well.each is.found in
      ap (λ fields. words_of_parts (parts_of ds fields)) (found.state ∙ found.right.2 regular)

  regular_fits : (words : List ℤ) → code.StartFits image (regular_start m.id words) → MemberFits ds (regular_start m.id words) (Some (class, m))
  regular_fits words fit = (fit ∙ formals_sum, sym no_state)

main_fits : (p : Program) (input : List ℤ) → StartFits p (main_start input)
main_fits p input = record { number = omega arith; words = (refl, refl) }

-- the start of a regular member fits
member_fits : (p : Program) (marks : ℕ → Bool) → is_typed p ≡ true → HasRegularClasses p → (member : ℕ) (words : List ℤ) (arguments : List Arg) → ArgumentsFit arguments (slice_get (image_of p marks).members member)
    → code.StartFits (image_of p marks) (regular_start member words) → StartFits p (regular_start member words)
member_fits p marks typed regular member words arguments fits fit = record { number = omega arith; words = by_raw (slice_get (image_of p marks).members member) refl fits } where
  of_found : (found : Class × Member) → member_of_classes member (classes_of p.declarations) ≡ Some found → MemberFits p.declarations (regular_start member words) (member_of_id p.declarations (record { 0 = member }))
  of_found found e =
      let same = id_same p member found.0 found.1 e in
      let is : MemberIs p.declarations found.0 found.1 = record { found = ap (λ n. member_of_classes n (classes_of p.declarations)) same ∙ e } in
      let kind = of_member (λ (class : Class). class.is_regular ≡ true) member (classes_of p.declarations) regular found.0 found.1 e in
      subst (MemberFits p.declarations (regular_start member words)) (sym e)
      (subst (λ n. MemberFits p.declarations (regular_start n words) (Some found)) same
      (regular_fits p marks typed found.0 found.1 is kind words (subst (λ n. code.StartFits (image_of p marks) (regular_start n words)) (sym same) fit)))

  by_raw : (o : Option RawMember) → slice_get (image_of p marks).members member ≡ o → ArgumentsFit arguments o → MemberFits p.declarations (regular_start member words) (member_of_id p.declarations (record { 0 = member }))
  by_raw None e fits = absurd fits
  by_raw (Some raw) e fits = let f = found_member p marks member raw e in of_found f.0 f.1

-- ---- programs without objects

-- the image's classes are the program's
classes_regular : (ds : List Declaration) (classes : List Class) (selects : List (Option (List Entry))) → Every (λ (class : Class). class.is_regular ≡ true) classes → (n : ℕ) (raw : RawClass)
    → slice_get (classes_image ds classes selects) n ≡ Some raw → raw.regular ≡ true
classes_regular ds [] selects regular n raw e = absurd cc
classes_regular ds (class ∷ classes) [] regular n raw e = absurd cc
classes_regular ds (class ∷ classes) (select ∷ selects) regular zero raw e = sym (ap RawClass.regular (some_same e)) ∙ regular.0
classes_regular ds (class ∷ classes) (select ∷ selects) regular (suc n) raw e = classes_regular ds classes selects regular.1 n raw e

pub regular_programs_are_plain : (p : Program) (marks : ℕ → Bool) (input : List ℤ) (budget : ℕ) → HasRegularClasses p → IsPlain (job_of p marks input budget)
regular_programs_are_plain p marks input budget regular = regular_images_are_plain (job_of p marks input budget) (classes_regular p.declarations (classes_of p.declarations) (selects_of p.declarations) regular)

-- ---- logs

plain_starts : (job : Job) (log : Log) → IsPlain job → IsLog job log → (c : ℕ) → c < (after job log).count → Starts job ((after job log).actors c)
    → StartsPlain job ((after job log).actors c).call ((after job log).actors c).ports ((after job log).actors c).start
plain_starts job log main h c here starts =
    let w = after job log in plain_start job (w.actors c) (all_plain job w main (tree job log h) (as_statuses_say job log h) (so job log h) (main_call_is job log h) c here) starts

pub program_starts_fit : (p : Program) (marks : ℕ → Bool) (input : List ℤ) (budget : ℕ) → is_typed p ≡ true → HasRegularClasses p → (log : Log) → IsLog (job_of p marks input budget) log → (c : ℕ) → c < (after (job_of p marks input budget) log).count
    → has_begun ((after (job_of p marks input budget) log).actors c).status ≡ true → StartFits p ((after (job_of p marks input budget) log).actors c).start
program_starts_fit p marks input budget typed regular log h c here begun =
    at (plain_starts job log (regular_programs_are_plain p marks input budget regular) h c here (actor_starts job log h c begun)) where
      job : Job
      job = job_of p marks input budget

      w : World
      w = after (job_of p marks input budget) log

      at : StartsPlain (job_of p marks input budget) ((after (job_of p marks input budget) log).actors c).call ((after (job_of p marks input budget) log).actors c).ports ((after (job_of p marks input budget) log).actors c).start
          → StartFits p ((after (job_of p marks input budget) log).actors c).start
      at (OfMain none is) = subst (StartFits p) (sym is) (main_fits p input)
      at (OfMember member named is) = subst (StartFits p) (sym is)
          (member_fits p marks typed regular member.0 (port_words ((after (job_of p marks input budget) log).actors c).ports) (arguments_of ((after (job_of p marks input budget) log).actors c).ports)
          (arguments_fit (job_of p marks input budget) log h c member here begun named)
          (subst (code.StartFits (image_of p marks)) is (starts_fit (job_of p marks input budget) log h c here begun)))
