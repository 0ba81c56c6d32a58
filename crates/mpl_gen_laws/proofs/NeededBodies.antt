-- The image of a typed program needs variables at the uses that are marked, and nowhere else.
use Rattle.std.proofs.Common.{◌≡◌, ℕ, Bool, true, false, List, [], ◌∷◌, ◌++◌, map, Option, Some, None, refl, ap, ap₂, sym, subst, ◌∙◌}
use Rattle.std.specs.Prelude.{codes, flat_map}
use Rattle.mpl_ast.specs.declared.class.Formal.{Formal}
use Rattle.mpl_ast.specs.declared.program.Declaration.{Declaration}
use Rattle.mpl_ast.specs.declared.program.Program.{Program}
use Rattle.mdf_code.specs.declared.raw.RawFunction.{RawFunction}
use Rattle.mdf_code.specs.declared.raw.RawMember.{RawMember}
use Rattle.mpl_mean.specs.Laws.Sizes.{Every}
use Rattle.mpl_mean.specs.Meaning.Layout.{Class, Function, Member, classes_of, function_named}
use Rattle.mpl_mean.specs.Pending.BodyWays.{stmts_ways}
use Rattle.mpl_mean.specs.Pending.MayBePending.{function_ways, member_ways}
use Rattle.mpl_mean.specs.Plain.Scopes as plain
use Rattle.mpl_mean.specs.Plain.Stmt.{stmts_of}
use Rattle.mpl_mean.specs.TypeRules.Rules.{is_typed}
use Rattle.mpl_mean.proofs.Sizes.SizedPrograms.{well_program}
use Rattle.mpl_gen_code.specs.ExpressionCode.{PlainFunction, plain_functions}
use Rattle.mpl_gen_code.specs.Fits.{FunctionIs, MemberIs, function_may, main_may, member_may}
use Rattle.mpl_gen_code.specs.ProgramFits.{ProgramFits}
use Rattle.mpl_gen_code.specs.ProgramImage.{function_env, function_image, image_of, main_env, main_stmts, member_env, member_image}
use Rattle.mpl_gen_code.specs.Scopes.{formals_from}
use Rattle.mpl_gen_code.proofs.TypedPrograms.{typed_fits}
use Rattle.mpl_gen_laws.specs.MarkedUses.{marked_uses, needs_in}
use Rattle.mpl_gen_laws.proofs.CoveredBodies.{formals_seen}
use Rattle.mpl_gen_laws.proofs.EachBody.{each_function, each_member}
use Rattle.mpl_gen_laws.proofs.NeededStatements.{body_counted}

same_each : {A B : Type 0} (f g : A → B) (xs : List A) → Every (λ x. f x ≡ g x) xs → map f xs ≡ map g xs
same_each f g [] h = refl
same_each f g (x ∷ xs) h = ap₂ (λ y ys. y ∷ ys) h.0 (same_each f g xs h.1)

mapped_twice : {A B C : Type 0} (f : A → B) (g : B → C) (xs : List A) → map g (map f xs) ≡ map (λ x. g (f x)) xs
mapped_twice f g [] = refl
mapped_twice f g (x ∷ xs) = ap (λ ys. g (f x) ∷ ys) (mapped_twice f g xs)

mapped_both : {A B : Type 0} (f : A → B) (xs ys : List A) → map f (xs ++ ys) ≡ map f xs ++ map f ys
mapped_both f [] ys = refl
mapped_both f (x ∷ xs) ys = ap (λ zs. f x ∷ zs) (mapped_both f xs ys)

-- what a code does is said of a function or a member by its body
abbrev pub function_needs : RawFunction → ℕ
function_needs f = needs_in f.body.code

abbrev pub member_needs : RawMember → ℕ
member_needs m = needs_in m.body.code

module _ (p : Program) (marks : ℕ → Bool) (typed : is_typed p ≡ true) where
  abbrev ds : List Declaration
  ds = p.declarations

  fits : ProgramFits ds marks
  fits = typed_fits p marks typed

  pub main_counted : needs_in (image_of p marks).main.code ≡ marked_uses marks (stmts_ways (plain.main_env ds) (main_stmts (function_named (codes "main") ds)))
  main_counted = body_counted main_may (main_env ds marks) (main_stmts (function_named (codes "main") ds)) fits.main

  function_counted : (f : PlainFunction) → FunctionIs ds f.name f.function → function_needs (function_image ds marks f) ≡ marked_uses marks (function_ways ds f.function)
  function_counted f is =
      body_counted function_may (function_env ds marks f.function) (stmts_of f.function.body) (fits.function f.name f.function is)
      ∙ ap (λ scope. marked_uses marks (stmts_ways (record { declarations = p.declarations; members = []; parts = []; scope = scope }) (stmts_of f.function.body))) (sym (formals_seen 0 f.function.formals))

  pub functions_counted : map function_needs (image_of p marks).functions ≡ map (λ (f : PlainFunction). marked_uses marks (function_ways ds f.function)) (plain_functions ds)
  functions_counted =
      mapped_twice (function_image ds marks) function_needs (plain_functions ds)
      ∙ same_each (λ f. function_needs (function_image ds marks f)) (λ (f : PlainFunction). marked_uses marks (function_ways ds f.function)) (plain_functions ds)
      (each_function ds (λ (f : PlainFunction). function_needs (function_image ds marks f) ≡ marked_uses marks (function_ways ds f.function)) function_counted (well_program p typed))

  abbrev MemberCounted : Class → Member → Type 0
  MemberCounted class m = member_needs (member_image ds marks class m) ≡ marked_uses marks (member_ways ds class m)

  member_counted : (class : Class) (m : Member) → MemberIs ds class m → MemberCounted class m
  member_counted class m is =
      body_counted (member_may ds class m) (member_env ds marks class m) (stmts_of m.body) (fits.member class m is)
      ∙ ap (λ scope. marked_uses marks (stmts_ways (record (plain.member_env p.declarations class m) { scope = scope }) (stmts_of m.body))) (sym (formals_seen 0 m.formals))

  members_of_classes : (classes : List Class) → Every (λ (class : Class). Every (MemberCounted class) class.members) classes
      → map member_needs (flat_map (λ (class : Class). map (member_image ds marks class) class.members) classes) ≡ flat_map (λ (class : Class). map (λ (m : Member). marked_uses marks (member_ways ds class m)) class.members) classes
  members_of_classes [] h = refl
  members_of_classes (class ∷ classes) h =
      mapped_both member_needs (map (member_image ds marks class) class.members) (flat_map (λ (class : Class). map (member_image ds marks class) class.members) classes)
      ∙ ap₂ (λ xs ys. xs ++ ys)
      (mapped_twice (member_image ds marks class) member_needs class.members ∙ same_each (λ m. member_needs (member_image ds marks class m)) (λ (m : Member). marked_uses marks (member_ways ds class m)) class.members h.0)
      (members_of_classes classes h.1)

  pub members_counted : map member_needs (image_of p marks).members ≡ flat_map (λ (class : Class). map (λ (m : Member). marked_uses marks (member_ways ds class m)) class.members) (classes_of ds)
  members_counted = members_of_classes (classes_of ds) (each_member ds MemberCounted member_counted)
