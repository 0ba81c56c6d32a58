-- The numbers of the image of a program that is typed and has few tokens are small.
use Rattle.std.proofs.Common.{◌≡◌, ◌≤◌, ℕ, ◌+◌, ◌*◌, Bool, true, false, List, [], ◌∷◌, ◌++◌, length, map, Option, Some, None, if◌then◌else◌, refl, subst, arith}
use Rattle.std.proofs.lemmas.List.{length-map}
use Rattle.std.specs.Prelude.{codes}
use Rattle.std.specs.Str.{bytes_eq}
use Rattle.mpl_ast.specs.declared.class.Entry.{Entry}
use Rattle.mpl_ast.specs.declared.class.Formal.{Formal}
use Rattle.mpl_ast.specs.declared.class.Item.{Item}
use Rattle.mpl_ast.specs.declared.class.Item.TheVariants as item
use Rattle.mpl_ast.specs.declared.expression.Expression.{Expression}
use Rattle.mpl_ast.specs.declared.program.Declaration.{Declaration}
use Rattle.mpl_ast.specs.declared.program.Declaration.TheVariants as declaration
use Rattle.mpl_ast.specs.declared.program.Program.{Program}
use Rattle.mpl_ast.specs.declared.statement.Block.{Block}
use Rattle.mdf_code.specs.declared.raw.RawEntry.{RawEntry}
use Rattle.mpl_mean.specs.Accepted.{IsAcceptable}
use Rattle.mpl_mean.specs.Laws.Sizes.{Every, words_of_formal}
use Rattle.mpl_mean.specs.Meaning.BodyMeaning.{of_object}
use Rattle.mpl_mean.specs.Meaning.Layout.{Class, Function, Member, classes_from, classes_of, formals_of, function_named, is_regular, member_named, members_from, natural, parts_of, state_of, words_of}
use Rattle.mpl_mean.specs.Plain.Expr.{expr_of}
use Rattle.mpl_mean.specs.Plain.Stmt.{stmts_of}
use Rattle.mpl_mean.specs.TypeRules.ProgramNodes.{surrounding}
use Rattle.mpl_mean.specs.TypeRules.Scopes.{Surrounding}
use Rattle.mpl_mean.proofs.Sizes.SizedPrograms.{well_program}
use Rattle.mpl_mean.proofs.Sizes.SizedRules.{WellDeclaration, WellItem}
use Rattle.mpl_mean.proofs.Truth.{some_is}
use Rattle.mpl_gen_code.specs.ExpressionCode.{PlainFunction, plain_functions}
use Rattle.mpl_gen_code.specs.ProgramImage.{all_entries, body_env, code_of_body, entries_image, entries_of_select, function_env, function_image, guard_code, guard_env, image_of, main_env, main_line, main_stmts, member_env, member_image, members_image, select_of, selects_of, with_entry}
use Rattle.mpl_gen_code.specs.Scopes.{Env, Finish, OfBody, OfFunction, formals_from}
use Rattle.mpl_gen_laws.proofs.SmallSizes.{AllLocalsFew, ClassFew, DeclarationFew, ItemFew, few, stmts_few, type_few}
use Rattle.mpl_layout.specs.Bounds.{Bounded, StateFits, StructFits, words_within}
use Rattle.mpl_layout.proofs.Bounds.{acceptable_bounded}
use Rattle.mpl_gen_bounds.specs.ImageFits.{CodeFits, EntryFits, FunctionFits, GuardFits, ImageFits, MemberFits}
use Rattle.mpl_gen_bounds.proofs.FormCounts.{count_all, stmts_forms}
use Rattle.mpl_gen_bounds.proofs.LaidExpressions.{codes_laid}
use Rattle.mpl_gen_bounds.proofs.LaidPieces.{IsLimit, every_both, fits_below}
use Rattle.mpl_gen_bounds.proofs.LaidStatements.{body_fits}
use Rattle.mpl_gen_bounds.proofs.Priorities.{DeclarationPriorities, IsByte, ItemPriorities, priorities_keep}
use Rattle.mpl_gen_bounds.proofs.ProgramTokens.{body_forms, declaration_forms, entry_forms, guard_forms, item_forms, tokens_enough}
use Rattle.mpl_gen_bounds.proofs.SizedTypes.{fields_small, types_sized}
use Rattle.mpl_gen_bounds.proofs.SmallScopes.{FinishSmall, IfAny, IsFew, PartSmall, Sized, SlotSmall, Small}

module _ (ds : List Declaration) (sizes : Every (DeclarationFew ds) ds) (structs : Every (StructFits ds) ds) (marks : ℕ → Bool) (limit : ℕ) (is : IsLimit limit) (wide : 1024 ≤ limit) where
  abbrev sized : Sized ds
  sized = types_sized ds sizes structs

  abbrev EnvSmall : Env → Type 0
  EnvSmall = Small ds sized limit

  -- five instructions a form are within the limit
  abbrev HasRoom : ℕ → Type 0
  HasRoom count = 5 * count ≤ limit

  -- ---- what surrounds a body

  scope_small : (number : ℕ) (formals : List Formal) → number + length formals ≤ limit → Every (SlotSmall ds sized limit) (formals_from number formals)
  scope_small number [] room = tt
  scope_small number (formal ∷ formals) room =
      ((omega (arith, room), let words = type_few ds sizes formal.type_name in omega (arith, words)), scope_small (number + 1) formals (omega (arith, room)))

  formals_few : (formals : List Formal) → Every IsFew (map (words_of_formal ds) formals)
  formals_few [] = tt
  formals_few (formal ∷ formals) = (let words = type_few ds sizes formal.type_name in omega (arith, words), formals_few formals)

  env_small : (some : ℕ → Bool) (finish : Finish) (formals : List Formal) → FinishSmall finish → length formals ≤ limit → EnvSmall (body_env ds some finish formals)
  env_small some finish formals h room = record {
    declarations = refl;
    scope = scope_small 0 formals (omega (arith, room));
    parts = tt;
    sizes = formals_few formals;
    finish = h;
  }

  body_good : (env : Env) (formals : List Formal) (body : Block) → EnvSmall env → env.sizes ≡ map (words_of_formal ds) formals → AllLocalsFew (stmts_of body) → HasRoom (body_forms formals body) → CodeFits (code_of_body env (stmts_of body))
  body_good env formals body small same locals room =
      let long = length-map formals (words_of_formal ds) in
      let length_is : length env.sizes ≡ length (map (words_of_formal ds) formals) = subst (λ (xs : List ℕ). length env.sizes ≡ length xs) same refl in
      body_fits ds sized limit is wide env (stmts_of body) small locals (omega (arith, room, long, length_is)) (omega (arith, room))

  -- ---- functions

  function_fits : (plain : PlainFunction) → AllLocalsFew (stmts_of plain.function.body) → HasRoom (body_forms plain.function.formals plain.function.body) → FunctionFits (function_image ds marks plain)
  function_fits plain locals room =
      let f = plain.function in
      let words = type_few ds sizes f.result in record {
        formals = fits_below (length f.formals) is (omega (arith, room));
        body = body_good (function_env ds marks f) f.formals f.body (env_small marks (OfFunction (words_of ds f.result None) f.body.mark_line) f.formals words (omega (arith, room))) refl locals room;
      }

  functions_fit : (some : List Declaration) → Every (WellDeclaration ds) some → HasRoom (count_all declaration_forms some) → Every FunctionFits (map (function_image ds marks) (plain_functions some))
  functions_fit [] w room = tt
  functions_fit (declaration.Struct at line name fields ∷ some) w room = functions_fit some w.1 (omega (arith, room))
  functions_fit (declaration.Class at line kind name items ∷ some) w room = functions_fit some w.1 (omega (arith, room))
  functions_fit (declaration.Function at result name formals body ∷ some) w room =
      by_main (bytes_eq name.text (codes "main"))
      (function_fits (record { name = name.text; function = record { result = result; formals = formals_of formals; body = body } }) (stmts_few (stmts_of body) _ (w.0).0.1) (omega (arith, room)))
      (functions_fit some w.1 (omega (arith, room))) where
        here : PlainFunction
        here = record { name = name.text; function = record { result = result; formals = formals_of formals; body = body } }

        by_main : (b : Bool) → FunctionFits (function_image ds marks (record { name = name.text; function = record { result = result; formals = formals_of formals; body = body } }))
            → Every FunctionFits (map (function_image ds marks) (plain_functions some))
            → Every FunctionFits (map (function_image ds marks) (if b then plain_functions some else record { name = name.text; function = record { result = result; formals = formals_of formals; body = body } } ∷ plain_functions some))
        by_main true h k = k
        by_main false h k = (h, k)

  -- ---- `main`

  record BodyGood (block : Block) : Type 0 where
    locals : AllLocalsFew (stmts_of block)
    room : HasRoom (1 + stmts_forms (stmts_of block))

  found_body : (name : List ℕ) (f : Function) (some : List Declaration) → Every (WellDeclaration ds) some → HasRoom (count_all declaration_forms some) → function_named name some ≡ Some f → BodyGood f.body
  found_body name f [] w room e = absurd cc
  found_body name f (declaration.Struct at line struct fields ∷ some) w room e = found_body name f some w.1 (omega (arith, room)) e
  found_body name f (declaration.Class at line kind class items ∷ some) w room e = found_body name f some w.1 (omega (arith, room)) e
  found_body name f (declaration.Function at result function formals body ∷ some) w room e =
      chosen (bytes_eq function.text name) e (record { locals = stmts_few (stmts_of body) _ (w.0).0.1; room = omega (arith, room) }) (found_body name f some w.1 (omega (arith, room))) where
        chosen : (b : Bool) → (if b then Some (record { result = result; formals = formals_of formals; body = body }) else function_named name some) ≡ Some f → BodyGood body
            → (function_named name some ≡ Some f → BodyGood f.body) → BodyGood f.body
        chosen true e h k = subst (λ (f : Function). BodyGood f.body) (some_is e) h
        chosen false e h k = k e

  main_fits : (o : Option Function) → function_named (codes "main") ds ≡ o → Every (WellDeclaration ds) ds → HasRoom (count_all declaration_forms ds) → CodeFits (code_of_body (main_env ds marks) (main_stmts o))
  main_fits None e w room =
      body_fits ds sized limit is wide (main_env ds marks) (main_stmts None) (env_small marks (OfBody (main_line (function_named (codes "main") ds))) [] tt (omega arith)) tt (omega arith) (omega (arith, wide))
  main_fits (Some f) e w room =
      let good = found_body (codes "main") f ds w room e in
      let few = good.room in
      body_good (main_env ds marks) [] f.body (env_small marks (OfBody (main_line (function_named (codes "main") ds))) [] tt (omega arith)) refl good.locals (omega (arith, few))

  -- ---- members

  -- the state of an object, where there is one
  state_small : (class : Class) → StateFits ds class → Every PartSmall (of_object class (parts_of ds class.state))
  state_small class h = by_kind class.is_regular where
    by_kind : (regular : Bool) → Every PartSmall (if regular then [] else parts_of ds class.state)
    by_kind true = tt
    by_kind false = fields_small ds class.state h

  member_small : (class : Class) (m : Member) → StateFits ds class → length m.formals ≤ limit → EnvSmall (member_env ds marks class m)
  member_small class m h room = record {
    declarations = refl;
    scope = scope_small 0 m.formals (omega (arith, room));
    parts = state_small class h;
    sizes = formals_few m.formals;
    finish = tt;
  }

  members_fit : (class : Class) (around : Surrounding) → StateFits ds class → (id : ℕ) (items : List Item) → Every (WellItem ds around) items → HasRoom (count_all item_forms items)
      → Every MemberFits (map (member_image ds marks class) (members_from id items))
  members_fit class around h id [] w room = tt
  members_fit class around h id (item.OfField at field ∷ items) w room = members_fit class around h id items w.1 (omega (arith, room))
  members_fit class around h id (item.Member at result name formals body ∷ items) w room =
      let m : Member = record { id = id; name = name.text; result = result; formals = formals_of formals; body = body } in (
        record {
          formals = fits_below (length (formals_of formals)) is (omega (arith, room));
          body = body_good (member_env ds marks class m) (formals_of formals) body (member_small class m h (omega (arith, room))) refl (stmts_few (stmts_of body) _ ((w.0).0).1) (omega (arith, room));
        },
        members_fit class around h (id + 1) items w.1 (omega (arith, room)),
      )
  members_fit class around h id (item.Select at line entries ∷ items) w room = members_fit class around h id items w.1 (omega (arith, room))
  members_fit class around h id (item.Public at ∷ items) w room = members_fit class around h id items w.1 (omega (arith, room))
  members_fit class around h id (item.Private at ∷ items) w room = members_fit class around h id items w.1 (omega (arith, room))
  members_fit class around h id (item.Empty at ∷ items) w room = members_fit class around h id items w.1 (omega (arith, room))

  all_members_fit : (number first : ℕ) (some : List Declaration) → Every (WellDeclaration ds) some → Every (StateFits ds) (classes_from number first some) → HasRoom (count_all declaration_forms some)
      → Every MemberFits (members_image ds marks (classes_from number first some))
  all_members_fit number first [] w h room = tt
  all_members_fit number first (declaration.Struct at line name fields ∷ some) w h room = all_members_fit number first some w.1 h (omega (arith, room))
  all_members_fit number first (declaration.Function at result name formals body ∷ some) w h room = all_members_fit number first some w.1 h (omega (arith, room))
  all_members_fit number first (declaration.Class at line kind name items ∷ some) w h room =
      let here : Class = record { number = number; name = name.text; is_regular = is_regular kind; state = state_of items; members = members_from first items } in
      let later = first + length (members_from first items) in
      every_both MemberFits (map (member_image ds marks here) here.members) (members_image ds marks (classes_from (number + 1) later some))
      (members_fit here (surrounding kind name items) h.0 first items (w.0).0 (omega (arith, room)))
      (all_members_fit (number + 1) later some w.1 h.1 (omega (arith, room)))

  -- ---- entries

  abbrev FewFormals : Member → Type 0
  FewFormals m = length m.formals ≤ 16

  few_each : (id : ℕ) (items : List Item) → Every ItemFew items → Every FewFormals (members_from id items)
  few_each id [] h = tt
  few_each id (item.OfField at field ∷ items) h = few_each id items h.1
  few_each id (item.Member at result name formals body ∷ items) h = (h.0, few_each (id + 1) items h.1)
  few_each id (item.Select at line entries ∷ items) h = few_each id items h.1
  few_each id (item.Public at ∷ items) h = few_each id items h.1
  few_each id (item.Private at ∷ items) h = few_each id items h.1
  few_each id (item.Empty at ∷ items) h = few_each id items h.1

  few_named : (name : List ℕ) (members : List Member) → Every FewFormals members → IfAny FewFormals (member_named name members)
  few_named name [] h = tt
  few_named name (m ∷ members) h = chosen (bytes_eq m.name name) (few_named name members h.1) where
    chosen : (b : Bool) → IfAny FewFormals (member_named name members) → IfAny FewFormals (if b then Some m else member_named name members)
    chosen true k = h.0
    chosen false k = k

  guard_small : (class : Class) (m : Member) → StateFits ds class → FewFormals m → EnvSmall (guard_env ds class m)
  guard_small class m h n = record {
    declarations = refl;
    scope = scope_small 0 m.formals (omega (arith, n, wide));
    parts = fields_small ds class.state h;
    sizes = formals_few m.formals;
    finish = tt;
  }

  guard_fits : (class : Class) (m : Member) (o : Option Expression) → StateFits ds class → FewFormals m → HasRoom (Rattle.mpl_gen_bounds.proofs.FormCounts.count_if_any guard_forms o) → GuardFits (guard_code ds class m o)
  guard_fits class m None h n room = tt
  guard_fits class m (Some guard) h n room = (codes_laid ds sized limit is wide (guard_env ds class m) (expr_of guard) (guard_small class m h n)).value.fits 0 (omega (arith, room))

  with_fits : (class : Class) (entry : Entry) (o : Option Member) (others : List RawEntry) → StateFits ds class → IsByte entry → IfAny FewFormals o → HasRoom (entry_forms entry) → Every EntryFits others
      → Every EntryFits (with_entry ds class entry o others)
  with_fits class entry None others h p n room k = k
  with_fits class entry (Some m) others h p n room k = (record { priority = omega (arith, p); guard = guard_fits class m entry.guard h n room }, k)

  entries_fit : (class : Class) (entries : List Entry) → StateFits ds class → Every IsByte entries → Every FewFormals class.members → HasRoom (count_all entry_forms entries) → Every EntryFits (entries_image ds class entries)
  entries_fit class [] h p n room = tt
  entries_fit class (entry ∷ entries) h p n room =
      with_fits class entry (member_named entry.member.text class.members) (entries_image ds class entries) h p.0 (few_named entry.member.text class.members n) (omega (arith, room))
      (entries_fit class entries h p.1 n (omega (arith, room)))

  select_fits : (class : Class) (items : List Item) → StateFits ds class → Every ItemPriorities items → Every FewFormals class.members → HasRoom (count_all item_forms items) → Every EntryFits (entries_of_select ds class (select_of items))
  select_fits class [] h p n room = tt
  select_fits class (item.OfField at field ∷ items) h p n room = select_fits class items h p.1 n (omega (arith, room))
  select_fits class (item.Member at result name formals body ∷ items) h p n room = select_fits class items h p.1 n (omega (arith, room))
  select_fits class (item.Select at line entries ∷ items) h p n room = entries_fit class entries h p.0 n (omega (arith, room))
  select_fits class (item.Public at ∷ items) h p n room = select_fits class items h p.1 n (omega (arith, room))
  select_fits class (item.Private at ∷ items) h p n room = select_fits class items h p.1 n (omega (arith, room))
  select_fits class (item.Empty at ∷ items) h p n room = select_fits class items h p.1 n (omega (arith, room))

  all_entries_fit : (number first : ℕ) (some : List Declaration) → Every (StateFits ds) (classes_from number first some) → Every DeclarationPriorities some → Every ClassFew some → HasRoom (count_all declaration_forms some)
      → Every EntryFits (all_entries ds (classes_from number first some) (selects_of some))
  all_entries_fit number first [] h p n room = tt
  all_entries_fit number first (declaration.Struct at line name fields ∷ some) h p n room = all_entries_fit number first some h p.1 n.1 (omega (arith, room))
  all_entries_fit number first (declaration.Function at result name formals body ∷ some) h p n room = all_entries_fit number first some h p.1 n.1 (omega (arith, room))
  all_entries_fit number first (declaration.Class at line kind name items ∷ some) h p n room =
      let here : Class = record { number = number; name = name.text; is_regular = is_regular kind; state = state_of items; members = members_from first items } in
      let later = first + length (members_from first items) in
      every_both EntryFits (entries_of_select ds here (select_of items)) (all_entries ds (classes_from (number + 1) later some) (selects_of some))
      (select_fits here items h.0 p.0 (few_each first items n.0) (omega (arith, room)))
      (all_entries_fit (number + 1) later some h.1 p.1 n.1 (omega (arith, room)))

pub images_fit : (p : Program) (marks : ℕ → Bool) → IsAcceptable p → ImageFits (image_of p marks)
images_fit p marks accepted =
    let ds = p.declarations in
    let bounded = acceptable_bounded p accepted in
    let small = few p accepted.typed in
    let well = well_program p accepted.typed in
    let enough = tokens_enough p accepted.tokens accepted.spelled in
    let short = accepted.short in
    let room : 5 * count_all declaration_forms ds ≤ 5242880 = omega (arith, enough, short) in
    let is : IsLimit 5242880 = record { below = omega arith } in
    let wide : 1024 ≤ 5242880 = omega arith in record {
      functions = functions_fit ds small.sizes bounded.structs marks 5242880 is wide ds well.each room;
      members = all_members_fit ds small.sizes bounded.structs marks 5242880 is wide 0 0 ds well.each bounded.states room;
      entries = all_entries_fit ds small.sizes bounded.structs marks 5242880 is wide 0 0 ds bounded.states (priorities_keep p accepted.typed) small.counts room;
      main = main_fits ds small.sizes bounded.structs marks 5242880 is wide (function_named (codes "main") ds) refl well.each room;
    }
