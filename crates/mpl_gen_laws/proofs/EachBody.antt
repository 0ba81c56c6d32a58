-- What holds of the body of each function and of each member that a program knows holds of all that are in its image.
use Rattle.std.proofs.Common.{◌≡◌, ◌≤◌, ℕ, ◌+◌, Bool, true, false, List, [], ◌∷◌, ◌++◌, length, Option, Some, None, if◌then◌else◌, refl, ap, sym, subst, arith, ◌∙◌}
use Rattle.std.specs.List.{list_any}
use Rattle.std.specs.Prelude.{codes}
use Rattle.std.specs.Str.{bytes_eq}
use Rattle.mpl_ast.specs.declared.class.Item.{Item}
use Rattle.mpl_ast.specs.declared.class.Item.TheVariants as item
use Rattle.mpl_ast.specs.declared.program.Declaration.{Declaration}
use Rattle.mpl_ast.specs.declared.program.Declaration.TheVariants as declaration
use Rattle.mdf_mean.specs.LawfulLanguage.MembersOfClasses.{members_numbered}
use Rattle.mpl_mean.specs.Laws.Sizes.{Every}
use Rattle.mpl_mean.specs.Meaning.BodyMeaning.{member_of_classes, member_or}
use Rattle.mpl_mean.specs.Meaning.Layout.{Class, Function, Member, classes_from, classes_of, formals_of, function_named, is_regular, members_from, state_of}
use Rattle.mpl_mean.proofs.Sizes.SizedClasses.{HasNumber, NamesDiffer, bytes_itself, none_above}
use Rattle.mpl_mean.proofs.Sizes.SizedTypes.{WellProgram}
use Rattle.mpl_gen_code.specs.ExpressionCode.{PlainFunction, plain_functions}
use Rattle.mpl_gen_code.specs.Fits.{FunctionIs, MemberIs}
use Rattle.mpl_gen_laws.proofs.ProgramImages.{fresh_of}

module _ (ds : List Declaration) (P : PlainFunction → Type 0) (each : (plain : PlainFunction) → FunctionIs ds plain.name plain.function → P plain) where
  functions_each : (earlier : List (List ℕ)) (some : List Declaration) → NamesDiffer earlier some → ((name : List ℕ) → list_any (bytes_eq name) earlier ≡ false → function_named name ds ≡ function_named name some) → Every P (plain_functions some)
  functions_each earlier [] differ found = tt
  functions_each earlier (declaration.Struct at line struct fields ∷ some) differ found =
      functions_each (earlier ++ struct.text ∷ []) some differ.1 (λ name fresh. found name (fresh_of name struct.text earlier fresh).0)
  functions_each earlier (declaration.Class at line kind class items ∷ some) differ found =
      functions_each (earlier ++ class.text ∷ []) some differ.1 (λ name fresh. found name (fresh_of name class.text earlier fresh).0)
  functions_each earlier (declaration.Function at result function formals body ∷ some) differ found =
      by_main (bytes_eq function.text (codes "main")) refl
      (functions_each (earlier ++ function.text ∷ []) some differ.1
      (λ name fresh. let two = fresh_of name function.text earlier fresh in found name two.0 ∙ ap (λ b. if b then Some here else function_named name some) two.1)) where
        here : Function
        here = record { result = result; formals = formals_of formals; body = body }

        by_main : (b : Bool) → bytes_eq function.text (codes "main") ≡ b → Every P (plain_functions some)
            → Every P (if b then plain_functions some else record { name = function.text; function = record { result = result; formals = formals_of formals; body = body } } ∷ plain_functions some)
        by_main true e h = h
        by_main false e h = (
          each (record { name = function.text; function = here })
              (record { named = found function.text differ.0 ∙ ap (λ b. if b then Some here else function_named function.text some) (bytes_itself function.text); other = e }),
          h,
        )

  pub each_function : WellProgram ds → Every P (plain_functions ds)
  each_function well = functions_each [] ds well.differ (λ name fresh. refl)

module _ (ds : List Declaration) (P : Class → Member → Type 0) (each : (class : Class) (m : Member) → MemberIs ds class m → P class m) where
  abbrev Ids : ℕ → ℕ → List Declaration → Type 0
  Ids number first rest = (id : ℕ) → first ≤ id → member_of_classes id (classes_of ds) ≡ member_of_classes id (classes_from number first rest)

  members_each : (class : Class) (first : ℕ) (all : List Item) → ((m : Member) → HasNumber first all m → member_of_classes m.id (classes_of ds) ≡ Some (class, m)) → (members : List Member) → Every (HasNumber first all) members → Every (P class) members
  members_each class first all found [] n = tt
  members_each class first all found (m ∷ members) n = (each class m (record { found = found m n.0 }), members_each class first all found members n.1)

  classes_each : (number first : ℕ) (rest : List Declaration) → Ids number first rest → Every (λ (class : Class). Every (P class) class.members) (classes_from number first rest)
  classes_each number first [] ids = tt
  classes_each number first (declaration.Struct at line name fields ∷ rest) ids = classes_each number first rest ids
  classes_each number first (declaration.Function at result name formals body ∷ rest) ids = classes_each number first rest ids
  classes_each number first (declaration.Class at line kind name items ∷ rest) ids =
      let here : Class = record { number = number; name = name.text; is_regular = is_regular kind; state = state_of items; members = members_from first items } in
      let later = first + length (members_from first items) in
      let others = classes_from (number + 1) later rest in (
        members_each here first items (λ m n. ids m.id n.least ∙ ap (λ o. member_or here o (member_of_classes m.id others)) n.found) (members_from first items) (members_numbered first items),
        classes_each (number + 1) later rest (λ id le. ids id (omega (arith, le)) ∙ ap (λ o. member_or here o (member_of_classes id others)) (none_above id first items le)),
      )

  pub each_member : Every (λ (class : Class). Every (P class) class.members) (classes_of ds)
  each_member = classes_each 0 0 ds (λ id le. refl)
