-- The image of a typed program is an image.
use Rattle.std.proofs.Common.{◌≡◌, ◌≤◌, ℕ, ◌+◌, Bool, true, false, ◌&&◌, ◌||◌, true≢false, List, [], ◌∷◌, ◌++◌, length, map, Option, Some, None, if◌then◌else◌, nat_le, refl, ap, sym, subst, arith, ◌∙◌}
use Rattle.std.proofs.lemmas.Bool.{le-leb, leb-true}
use Rattle.std.proofs.lemmas.List.Folds.{list_all-append, list_any-append}
use Rattle.std.specs.List.{list_all, list_any}
use Rattle.std.specs.Prelude.{codes}
use Rattle.std.specs.Str.{bytes_eq}
use Rattle.mpl_ast.specs.declared.class.Entry.{Entry}
use Rattle.mpl_ast.specs.declared.class.Item.{Item}
use Rattle.mpl_ast.specs.declared.class.Item.TheVariants as item
use Rattle.mpl_ast.specs.declared.class.ResultType.{ResultType}
use Rattle.mpl_ast.specs.declared.class.ResultType.TheVariants.{Void, Typed}
use Rattle.mpl_ast.specs.declared.expression.Expression.{Expression}
use Rattle.mpl_ast.specs.declared.place.Name.{Name}
use Rattle.mpl_ast.specs.declared.program.Declaration.{Declaration}
use Rattle.mpl_ast.specs.declared.program.Declaration.TheVariants as declaration
use Rattle.mpl_ast.specs.declared.program.Program.{Program}
use Rattle.mpl_ast.specs.declared.statement.Block.{Block}
use Rattle.mpl_mean.specs.Laws.Sizes.{Every}
use Rattle.mdf_mean.specs.Guards.{select_in}
use Rattle.mdf_mean.specs.LawfulLanguage.MembersOfClasses.{members_numbered}
use Rattle.mpl_mean.specs.Meaning.BodyMeaning.{member_of_classes, member_or}
use Rattle.mpl_mean.specs.Meaning.Layout.{Class, Function, Member, classes_from, classes_of, formals_of, function_named, is_regular, member_named, members_from, parts_of, state_of, words_of, words_of_parts}
use Rattle.mpl_mean.specs.Plain.Expr.{expr_of}
use Rattle.mpl_mean.specs.Plain.Stmt.{stmts_of}
use Rattle.mpl_mean.specs.TypeRules.ClassRules.{may_stand_in_guard}
use Rattle.mpl_mean.specs.TypeRules.Nodes.{Located, expr_nodes}
use Rattle.mpl_mean.specs.TypeRules.ProgramNodes.{surrounding}
use Rattle.mpl_mean.specs.TypeRules.Rules.{is_typed}
use Rattle.mpl_mean.specs.TypeRules.Scopes.{Environment, at_top, in_class}
use Rattle.mpl_mean.specs.TypeRules.SizeRules.{state_fits}
use Rattle.mpl_mean.specs.TypeRules.Types.{OfBool, agree, words_of_state}
use Rattle.mpl_mean.specs.TypeRules.Typing.{type_of}
use Rattle.mpl_mean.proofs.Sizes.SizedClasses.{HasNumber, NamesDiffer, bytes_itself, bytes_same, none_above}
use Rattle.mpl_mean.proofs.Sizes.SizedExpressionForms.{expression_means}
use Rattle.mpl_mean.proofs.Sizes.SizedPrograms.{well_program}
use Rattle.mpl_mean.proofs.Sizes.SizedRules.{WellDeclaration, WellItem}
use Rattle.mpl_mean.proofs.Sizes.SizedTypes.{WellProgram}
use Rattle.mpl_mean.proofs.Truth.{both_true, some_is}
use Rattle.mdf_code.specs.Images.{guard_fits, is_class, is_code, is_entry, is_function, is_image, is_member, result_fits, words_fit}
use Rattle.mpl_gen_code.specs.ExpressionCode.{PlainFunction, plain_functions}
use Rattle.mpl_gen_code.specs.Fits.{MemberIs, main_may, function_may, member_may}
use Rattle.mpl_gen_code.specs.ProgramFits.{ProgramFits}
use Rattle.mpl_gen_code.specs.ProgramImage.{all_entries, classes_image, code_of_body, entries_image, entries_of_select, function_env, function_image, guard_code, image_of, main_env, main_stmts, member_env, member_image, members_image, result_image, select_of, selects_of, with_entry}
use Rattle.mpl_gen_code.proofs.TypedPrograms.{typed_fits}
use Rattle.mpl_gen_laws.proofs.FewWords.{body_is_code, formals_inside}
use Rattle.mpl_gen_laws.proofs.GuardCodes.{pure_guard}
use Rattle.mpl_gen_laws.proofs.GuardEntries.{found_select, same_select}
use Rattle.mpl_gen_laws.proofs.GuardRules.{DeclarationKeeps, EntryKeeps, GuardKeeps, ItemKeeps, guards_keep, is_pure}
use Rattle.mpl_gen_laws.proofs.SmallSizes.{ClassFew, DeclarationFew, Few, ItemFew, few, state_least, stmts_few, type_few}
use Rattle.mpl_gen_laws.specs.PrintedLines.{AllPrint, DeclarationPrints, ItemPrints, LinesHaveValues}

other_bytes : (a b : List ℕ) → bytes_eq a b ≡ false → bytes_eq b a ≡ false
other_bytes a b e = chosen (bytes_eq b a) refl where
  chosen : (t : Bool) → bytes_eq b a ≡ t → t ≡ false
  chosen true i = absurd (true≢false (sym (subst (λ w. bytes_eq a w ≡ true) (sym (bytes_same b a i)) (bytes_itself a)) ∙ e))
  chosen false i = refl

-- a name that differs from those before and from one more
pub fresh_of : (name other : List ℕ) (earlier : List (List ℕ)) → list_any (bytes_eq name) (earlier ++ other ∷ []) ≡ false → (list_any (bytes_eq name) earlier ≡ false) × (bytes_eq other name ≡ false)
fresh_of name other earlier e =
    let two = both (list_any (bytes_eq name) earlier) (bytes_eq name other || false) (sym (list_any-append (bytes_eq name) earlier (other ∷ [])) ∙ e) in
    (two.0, other_bytes name other (both (bytes_eq name other) false two.1).0) where
      both : (a b : Bool) → (a || b) ≡ false → (a ≡ false) × (b ≡ false)
      both true b e = absurd cc
      both false b e = (refl, e)

two_true : (a b : Bool) → a ≡ true → b ≡ true → (a && b) ≡ true
two_true a b h k = ap (λ t. t && b) h ∙ k

all_both : {A : Type 0} (test : A → Bool) (xs ys : List A) → list_all test xs ≡ true → list_all test ys ≡ true → list_all test (xs ++ ys) ≡ true
all_both test xs ys h k = list_all-append test xs ys ∙ two_true (list_all test xs) (list_all test ys) h k

module _ (p : Program) (marks : ℕ → Bool) (typed : is_typed p ≡ true) (prints : LinesHaveValues p) where
  abbrev ds : List Declaration
  ds = p.declarations

  sizes : Every (DeclarationFew ds) ds
  sizes = (few p typed).sizes

  well : WellProgram ds
  well = well_program p typed

  fits : ProgramFits ds marks
  fits = typed_fits p marks typed

  -- ---- bodies of functions

  -- what holds of the body of each function by its name
  record BodyGood (block : Block) : Type 0 where
    few : Rattle.mpl_gen_laws.proofs.SmallSizes.AllLocalsFew (stmts_of block)
    printed : AllPrint (stmts_of block)

  found_body : (name : List ℕ) (f : Function) (some : List Declaration) → Every (WellDeclaration ds) some → Every DeclarationPrints some → function_named name some ≡ Some f → BodyGood f.body
  found_body name f [] w h e = absurd cc
  found_body name f (declaration.Struct at line struct fields ∷ some) w h e = found_body name f some w.1 h.1 e
  found_body name f (declaration.Class at line kind class items ∷ some) w h e = found_body name f some w.1 h.1 e
  found_body name f (declaration.Function at result function formals body ∷ some) w h e = chosen (bytes_eq function.text name) e (found_body name f some w.1 h.1) where
    chosen : (b : Bool) → (if b then Some (record { result = result; formals = formals_of formals; body = body }) else function_named name some) ≡ Some f → (function_named name some ≡ Some f → BodyGood f.body) → BodyGood f.body
    chosen true e k = subst (λ (f : Function). BodyGood f.body) (some_is e) (record { few = stmts_few (stmts_of body) _ (w.0).0.1; printed = h.0 })
    chosen false e k = k e

  main_code : (o : Option Function) → function_named (codes "main") ds ≡ o → is_code (code_of_body (main_env ds marks) (main_stmts o)) ≡ true
  main_code None e = refl
  main_code (Some f) e =
      let good = found_body (codes "main") f ds well.each prints e in
      body_is_code ds sizes main_may (main_env ds marks) [] (stmts_of f.body) refl refl refl (subst (λ o. Rattle.mpl_gen_code.specs.Fits.StmtsFit main_may (main_env ds marks) (main_stmts o)) e fits.main) good.few good.printed

  -- ---- plain functions

  function_good : (plain : PlainFunction) → function_named plain.name ds ≡ Some plain.function → bytes_eq plain.name (codes "main") ≡ false → is_function (function_image ds marks plain) ≡ true
  function_good plain named other =
      let f = plain.function in
      let good = found_body plain.name f ds well.each prints named in
      two_true (nat_le (length f.formals) (length (code_of_body (function_env ds marks f) (stmts_of f.body)).vars)) (is_code (code_of_body (function_env ds marks f) (stmts_of f.body)))
      (formals_inside ds sizes (function_env ds marks f) f.formals (stmts_of f.body) refl)
      (body_is_code ds sizes function_may (function_env ds marks f) f.formals (stmts_of f.body) refl refl refl (fits.function plain.name f (record { named = named; other = other })) good.few good.printed)

  functions_good : (earlier : List (List ℕ)) (some : List Declaration) → NamesDiffer earlier some → ((name : List ℕ) → list_any (bytes_eq name) earlier ≡ false → function_named name ds ≡ function_named name some)
      → list_all is_function (map (function_image ds marks) (plain_functions some)) ≡ true
  functions_good earlier [] differ found = refl
  functions_good earlier (declaration.Struct at line struct fields ∷ some) differ found =
      functions_good (earlier ++ struct.text ∷ []) some differ.1 (λ name fresh. found name (fresh_of name struct.text earlier fresh).0)
  functions_good earlier (declaration.Class at line kind class items ∷ some) differ found =
      functions_good (earlier ++ class.text ∷ []) some differ.1 (λ name fresh. found name (fresh_of name class.text earlier fresh).0)
  functions_good earlier (declaration.Function at result function formals body ∷ some) differ found =
      by_main (bytes_eq function.text (codes "main")) refl
      (functions_good (earlier ++ function.text ∷ []) some differ.1
      (λ name fresh. let two = fresh_of name function.text earlier fresh in found name two.0 ∙ ap (λ b. if b then Some here else function_named name some) two.1)) where
        here : Function
        here = record { result = result; formals = formals_of formals; body = body }

        by_main : (b : Bool) → bytes_eq function.text (codes "main") ≡ b → list_all is_function (map (function_image ds marks) (plain_functions some)) ≡ true
            → list_all is_function (map (function_image ds marks) (if b then plain_functions some else record { name = function.text; function = record { result = result; formals = formals_of formals; body = body } } ∷ plain_functions some)) ≡ true
        by_main true e h = h
        by_main false e h =
            two_true (is_function (function_image ds marks (record { name = function.text; function = here }))) _
            (function_good (record { name = function.text; function = here })
            (found function.text differ.0 ∙ ap (λ b. if b then Some here else function_named function.text some) (bytes_itself function.text)) e) h

  -- ---- members

  result_good : (r : ResultType) → result_fits (result_image ds r) ≡ true
  result_good (Void at) = refl
  result_good (Typed at type) = le-leb (words_of ds type None) 1024 (let h = type_few ds sizes type in omega (arith, h))

  member_good : (class : Class) (m : Member) → MemberIs ds class m → length m.formals ≤ 16 → Rattle.mpl_gen_laws.proofs.SmallSizes.AllLocalsFew (stmts_of m.body) → AllPrint (stmts_of m.body) → is_member (member_image ds marks class m) ≡ true
  member_good class m is count locals printed =
      let code = code_of_body (member_env ds marks class m) (stmts_of m.body) in
      two_true (nat_le (length m.formals) (length code.vars)) (nat_le (length m.formals) 16 && (result_fits (result_image ds m.result) && is_code code)) (formals_inside ds sizes (member_env ds marks class m) m.formals (stmts_of m.body) refl)
      (two_true (nat_le (length m.formals) 16) (result_fits (result_image ds m.result) && is_code code) (le-leb (length m.formals) 16 count)
      (two_true (result_fits (result_image ds m.result)) (is_code code) (result_good m.result)
      (body_is_code ds sizes (member_may ds class m) (member_env ds marks class m) m.formals (stmts_of m.body) refl refl refl (fits.member class m is) locals printed)))

  -- those of a class, of which these items are left
  members_good : (class : Class) (surrounding : Rattle.mpl_mean.specs.TypeRules.Scopes.Surrounding) (first : ℕ) (all : List Item) → ((m : Member) → HasNumber first all m → member_of_classes m.id (classes_of ds) ≡ Some (class, m)) → (id : ℕ) (items : List Item)
      → Every (HasNumber first all) (members_from id items) → Every (WellItem ds surrounding) items → Every ItemPrints items → Every ItemFew items
      → list_all is_member (map (member_image ds marks class) (members_from id items)) ≡ true
  members_good class surrounding first all found id [] n w h c = refl
  members_good class surrounding first all found id (item.OfField at field ∷ items) n w h c = members_good class surrounding first all found id items n w.1 h.1 c.1
  members_good class surrounding first all found id (item.Member at result name formals body ∷ items) n w h c =
      let m : Member = record { id = id; name = name.text; result = result; formals = formals_of formals; body = body } in
      two_true (is_member (member_image ds marks class m)) _ (member_good class m (record { found = found m n.0 }) c.0 (stmts_few (stmts_of body) _ ((w.0).0).1) h.0)
      (members_good class surrounding first all found (id + 1) items n.1 w.1 h.1 c.1)
  members_good class surrounding first all found id (item.Select at line entries ∷ items) n w h c = members_good class surrounding first all found id items n w.1 h.1 c.1
  members_good class surrounding first all found id (item.Public at ∷ items) n w h c = members_good class surrounding first all found id items n w.1 h.1 c.1
  members_good class surrounding first all found id (item.Private at ∷ items) n w h c = members_good class surrounding first all found id items n w.1 h.1 c.1
  members_good class surrounding first all found id (item.Empty at ∷ items) n w h c = members_good class surrounding first all found id items n w.1 h.1 c.1

  all_members_good : (number first : ℕ) (rest : List Declaration) → ((id : ℕ) → first ≤ id → member_of_classes id (classes_of ds) ≡ member_of_classes id (classes_from number first rest))
      → Every (WellDeclaration ds) rest → Every DeclarationPrints rest → Every ClassFew rest → list_all is_member (members_image ds marks (classes_from number first rest)) ≡ true
  all_members_good number first [] ids w h c = refl
  all_members_good number first (declaration.Struct at line name fields ∷ rest) ids w h c = all_members_good number first rest ids w.1 h.1 c.1
  all_members_good number first (declaration.Function at result name formals body ∷ rest) ids w h c = all_members_good number first rest ids w.1 h.1 c.1
  all_members_good number first (declaration.Class at line kind name items ∷ rest) ids w h c =
      let later = first + length (members_from first items) in
      all_both is_member (map (member_image ds marks here) (members_from first items)) (members_image ds marks (classes_from (number + 1) later rest))
      (members_good here (surrounding kind name items) first items
      (λ m n. ids m.id n.least ∙ ap (λ o. member_or here o (member_of_classes m.id (classes_from (number + 1) later rest))) n.found)
      first items (members_numbered first items) (w.0).0 h.0 c.0)
      (all_members_good (number + 1) later rest
      (λ id le. ids id (omega (arith, le)) ∙ ap (λ o. member_or here o (member_of_classes id (classes_from (number + 1) later rest))) (none_above id first items le)) w.1 h.1 c.1) where
        here : Class
        here = record { number = number; name = name.text; is_regular = is_regular kind; state = state_of items; members = members_from first items }

  -- ---- classes and entries

  state_good : (regular : Bool) (items : List Item) → (regular ≡ true → state_of items ≡ []) → state_fits ds regular items ≡ true → words_fit (words_of_parts (parts_of ds (state_of items))) ≡ true
  state_good true items none h = ap (λ fields. words_fit (words_of_parts (parts_of ds fields))) (none refl)
  state_good false items none h =
      let few = leb-true (words_of_state ds (state_of items)) 256 h in
      let least : words_of_parts (parts_of ds (state_of items)) ≤ words_of_state ds (state_of items) = state_least ds 0 (state_of items) in
      le-leb (words_of_parts (parts_of ds (state_of items))) 1024 (omega (arith, few, least))

  classes_good : (number first : ℕ) (rest : List Declaration) → Every (WellDeclaration ds) rest → Every (DeclarationFew ds) rest → list_all is_class (classes_image ds (classes_from number first rest) (selects_of rest)) ≡ true
  classes_good number first [] w h = refl
  classes_good number first (declaration.Struct at line name fields ∷ rest) w h = classes_good number first rest w.1 h.1
  classes_good number first (declaration.Function at result name formals body ∷ rest) w h = classes_good number first rest w.1 h.1
  classes_good number first (declaration.Class at line kind name items ∷ rest) w h =
      two_true (words_fit (words_of_parts (parts_of ds (state_of items)))) _ (state_good (is_regular kind) items (w.0).2 h.0) (classes_good (number + 1) (first + length (members_from first items)) rest w.1 h.1)

  guard_good : (environment : Environment) (items : List Item) (member : Name) (class : Class) (m : Member) (guard : Option Expression) → GuardKeeps environment items member guard → guard_fits (guard_code ds class m guard) ≡ true
  guard_good environment items member class m None h = refl
  guard_good environment items member class m (Some test) h =
      let inner = (Rattle.mpl_mean.specs.TypeRules.ProgramNodes.guard environment items member test).environment in
      pure_guard ds class m (expr_of test)
      (is_pure inner (expression_means test) (both_true (agree (Some OfBool) (type_of inner (expr_of test))) (list_all (λ (p : Located). may_stand_in_guard p.node) (expr_nodes inner (expr_of test))) h.allowed).1) 0

  entries_good : (environment : Environment) (items : List Item) (class : Class) (entries : List Entry) → Every (EntryKeeps environment items) entries → list_all is_entry (entries_image ds class entries) ≡ true
  entries_good environment items class [] h = refl
  entries_good environment items class (entry ∷ entries) h = by_member (member_named entry.member.text class.members) (entries_good environment items class entries h.1) where
    by_member : (o : Option Member) → list_all is_entry (entries_image ds class entries) ≡ true → list_all is_entry (with_entry ds class entry o (entries_image ds class entries)) ≡ true
    by_member None k = k
    by_member (Some m) k = two_true (guard_fits (guard_code ds class m entry.guard)) _ (guard_good environment items entry.member class m entry.guard h.0) k

  select_good : (environment : Environment) (items : List Item) (class : Class) (o : Option (List Entry)) → select_in items ≡ o → Every (ItemKeeps environment items) items → list_all is_entry (entries_of_select ds class o) ≡ true
  select_good environment items class None e h = refl
  select_good environment items class (Some entries) e h =
      entries_good environment items class entries (found_select (Every (EntryKeeps environment items)) (ItemKeeps environment items) (λ node line entries h. h) items entries h e)

  all_entries_good : (number first : ℕ) (rest : List Declaration) → Every (DeclarationKeeps ds) rest → list_all is_entry (all_entries ds (classes_from number first rest) (selects_of rest)) ≡ true
  all_entries_good number first [] h = refl
  all_entries_good number first (declaration.Struct at line name fields ∷ rest) h = all_entries_good number first rest h.1
  all_entries_good number first (declaration.Function at result name formals body ∷ rest) h = all_entries_good number first rest h.1
  all_entries_good number first (declaration.Class at line kind name items ∷ rest) h =
      let later = first + length (members_from first items) in
      all_both is_entry (entries_of_select ds here (select_of items)) (all_entries ds (classes_from (number + 1) later rest) (selects_of rest))
      (select_good (in_class (surrounding kind name items) (at_top ds)) items here (select_of items) (sym (same_select items)) h.0)
      (all_entries_good (number + 1) later rest h.1) where
        here : Class
        here = record { number = number; name = name.text; is_regular = is_regular kind; state = state_of items; members = members_from first items }

  -- ---- all of it

  pub program_is_image : is_image (image_of p marks) ≡ true
  program_is_image =
      let image = image_of p marks in
      two_true (list_all is_function image.functions) (list_all is_class image.classes && (list_all is_member image.members && (list_all is_entry image.entries && is_code image.main)))
      (functions_good [] ds well.differ (λ name fresh. refl))
      (two_true (list_all is_class image.classes) (list_all is_member image.members && (list_all is_entry image.entries && is_code image.main)) (classes_good 0 0 ds well.each sizes)
      (two_true (list_all is_member image.members) (list_all is_entry image.entries && is_code image.main) (all_members_good 0 0 ds (λ id le. refl) well.each prints (few p typed).counts)
      (two_true (list_all is_entry image.entries) (is_code image.main) (all_entries_good 0 0 ds (guards_keep p typed))
      (main_code (function_named (codes "main") ds) refl))))
