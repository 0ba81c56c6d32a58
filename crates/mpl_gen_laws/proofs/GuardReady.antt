-- The guard of an entry in a typed and light program holds as the language says.
use Rattle.std.proofs.Common.{◌≡◌, ℕ, zero, suc, ◌+◌, Bool, true, false, List, [], ◌∷◌, length, map, take, drop, Option, Some, None, if◌then◌else◌, ℤ, append-nil, refl, ap, sym, subst, arith, ◌∙◌}
use Rattle.std.proofs.lemmas.List.{length-drop, length-take}
use Rattle.std.proofs.lemmas.List.Sums.{sum_by-cons}
use Rattle.std.specs.FinMap.{empty}
use Rattle.std.specs.List.{AllZip, list_all, slice_get}
use Rattle.std.specs.Option.{option_map}
use Rattle.std.specs.Str.{bytes_eq}
use Rattle.mpl_ast.specs.declared.class.Formal.{Formal}
use Rattle.mpl_ast.specs.declared.class.Item.{Item}
use Rattle.mpl_ast.specs.declared.class.Item.TheVariants as item
use Rattle.mpl_ast.specs.declared.class.Kind.{Kind}
use Rattle.mpl_ast.specs.declared.expression.Expression.{Expression}
use Rattle.mpl_ast.specs.declared.place.Name.{Name}
use Rattle.mpl_ast.specs.declared.program.Declaration.{Declaration}
use Rattle.mpl_value.specs.declared.body.Arg.{Arg}
use Rattle.mpl_value.specs.declared.body.Arg.TheVariants.{Know}
use Rattle.mpl_mean.specs.Laws.Sizes.{Every, words_of_formal, words_of_formals, words_of_object}
use Rattle.mpl_mean.specs.Meaning.BodyMeaning.{callees_at, context_with, formals_holding, store_with}
use Rattle.mpl_mean.specs.Meaning.BodyMeaning as mean
use Rattle.mpl_mean.specs.Meaning.ExpressionMeaning.{value_of}
use Rattle.mpl_mean.specs.Meaning.Layout.{Class, Member, formals_of, is_regular, member_named, members_from, parts_of, state_of, words_of_parts, part_named}
use Rattle.mpl_mean.specs.Meaning.Store.{Outcome, Goes, Returns, Ends, Store}
use Rattle.mpl_mean.specs.Meaning.Values.{Value}
use Rattle.mpl_mean.specs.Plain.Expr.{expr_of}
use Rattle.mpl_mean.specs.TypeRules.ClassRules.{may_stand_in_guard}
use Rattle.mpl_mean.specs.TypeRules.Nodes.{Located, expr_nodes}
use Rattle.mpl_mean.specs.TypeRules.ProgramNodes.{accepted_formals, surrounding}
use Rattle.mpl_mean.specs.TypeRules.Scopes.{InGuard, Surrounding, at_top, in_body, in_class, state_members}
use Rattle.mpl_mean.specs.TypeRules.Types.{InState, OfBool, ValueType, agree, declared_formals}
use Rattle.mpl_mean.specs.TypeRules.Typing.{type_of}
use Rattle.mpl_mean.proofs.Sizes.SizedExpressionForms.{expression_means}
use Rattle.mpl_mean.proofs.Sizes.SizedParts.{parts_fit}
use Rattle.mpl_mean.proofs.Sizes.SizedRules.{WellClass, WellDeclared, WellItem, WellMember}
use Rattle.mpl_mean.proofs.Sizes.SizedSettings.{Setting, frame}
use Rattle.mpl_mean.proofs.Sizes.SizedSteps.{Frame}
use Rattle.mpl_mean.proofs.Sizes.SizedTypes.{HasSize, WellProgram, same_size}
use Rattle.mpl_mean.proofs.Truth.{both_true, some_is}
use Rattle.mdf_code.specs.Frames as frames
use Rattle.mdf_code.specs.Guards.{entry_holds, holds}
use Rattle.mdf_code.specs.Parts.{code_of, guard_code, sizes_at, sizes_of, split_words, text_of}
use Rattle.mdf_code.specs.Sizes.{ArgFits, sizes_of_start}
use Rattle.mdf_code.specs.Stacks.{given}
use Rattle.mdf_code.specs.Yields.{formals_of as formals_of_member}
use Rattle.mdf_code.specs.declared.instr.Instr.{Instr}
use Rattle.mdf_code.specs.declared.raw.RawEntry.{RawEntry}
use Rattle.mdf_code.specs.declared.raw.RawImage.{RawImage}
use Rattle.mdf_code.specs.declared.raw.RawMember.{RawMember}
use Rattle.mdf_mean.specs.Guards.{gives_true, guard_context, guard_holds}
use Rattle.mpl_gen_code.specs.ExpressionCode.{value_code}
use Rattle.mpl_gen_code.specs.Fits.{function_may}
use Rattle.mpl_gen_code.specs.ProgramImage.{guard_env, member_env}
use Rattle.mpl_gen_code.specs.Scopes.{OfBody, formals_from}
use Rattle.mpl_gen_code.specs.StatementCode.{behind_all}
use Rattle.mpl_mean.specs.Plain.Stmt.{stmts_of}
use Rattle.mpl_gen_code.proofs.Bodies.{from_whole}
use Rattle.mpl_gen_code.proofs.Calling.{MemberStands}
use Rattle.mpl_gen_code.proofs.Fronts.{formals_first}
use Rattle.mpl_gen_code.proofs.Scoped.{Scoped, Stands, variables_of}
use Rattle.mpl_gen_code.proofs.Reaching.{Fixed}
use Rattle.mpl_gen_code.proofs.Starting.{formals_held, formals_well, split_many, split_same}
use Rattle.mpl_gen_code.proofs.TypedExpressions.{expr_fits, expr_sized}
use Rattle.mpl_gen_code.proofs.TypedPlaces.{Kept}
use Rattle.mpl_gen_code.proofs.TypedPrograms.{formals_match}
use Rattle.mpl_gen_laws.proofs.GuardExpressions.{AllKnown, expression_follows, run_of_guard}
use Rattle.mpl_gen_laws.proofs.GuardForms.{Low, Ready}
use Rattle.mpl_gen_laws.proofs.GuardRules.{Keeps, is_pure}
use Rattle.mpl_gen_laws.proofs.GuardRuns.{Guard, ends}

-- ---- a type that is `bool`

bool_one : (ds : List Declaration) (t : Option ValueType) (n : ℕ) → HasSize ds t n → agree (Some OfBool) t ≡ true → n ≡ 1
bool_one ds None n h e = absurd h
bool_one ds (Some t) n h e = h ∙ sym (same_size ds OfBool t e)

-- ---- members by their names

-- the formals of a member, whatever number the first has
pub same_formals : (name : List ℕ) (a b : ℕ) (items : List Item) (m : Member) → member_named name (members_from a items) ≡ Some m → accepted_formals (member_named name (members_from b items)) ≡ m.formals
same_formals name a b [] m e = absurd cc
same_formals name a b (item.OfField at field ∷ items) m e = same_formals name a b items m e
same_formals name a b (item.Member at result member formals body ∷ items) m e = chosen (bytes_eq member.text name) e (same_formals name (a + 1) (b + 1) items m) where
  first : ℕ → Member
  first id = record { id = id; name = member.text; result = result; formals = formals_of formals; body = body }

  chosen : (t : Bool) → (if t then Some (first a) else member_named name (members_from (a + 1) items)) ≡ Some m
      → (member_named name (members_from (a + 1) items) ≡ Some m → accepted_formals (member_named name (members_from (b + 1) items)) ≡ m.formals)
      → accepted_formals (if t then Some (first b) else member_named name (members_from (b + 1) items)) ≡ m.formals
  chosen true e k = ap (λ (m : Member). m.formals) (some_is e)
  chosen false e k = k e
same_formals name a b (item.Select at line entries ∷ items) m e = same_formals name a b items m e
same_formals name a b (item.Public at ∷ items) m e = same_formals name a b items m e
same_formals name a b (item.Private at ∷ items) m e = same_formals name a b items m e
same_formals name a b (item.Empty at ∷ items) m e = same_formals name a b items m e

pub named_well : (ds : List Declaration) (class : Surrounding) (name : List ℕ) (id : ℕ) (items : List Item) (m : Member) → Every (WellItem ds class) items → member_named name (members_from id items) ≡ Some m
    → WellMember ds class m.result m.formals m.body
named_well ds class name id [] m w e = absurd cc
named_well ds class name id (item.OfField at field ∷ items) m w e = named_well ds class name id items m w.1 e
named_well ds class name id (item.Member at result member formals body ∷ items) m w e = chosen (bytes_eq member.text name) _ w.0 e (named_well ds class name (id + 1) items m w.1) where
  chosen : (b : Bool) (first : Member) → WellMember ds class first.result first.formals first.body → (if b then Some first else member_named name (members_from (id + 1) items)) ≡ Some m
      → (member_named name (members_from (id + 1) items) ≡ Some m → WellMember ds class m.result m.formals m.body) → WellMember ds class m.result m.formals m.body
  chosen true first i e k = subst (λ (m : Member). WellMember ds class m.result m.formals m.body) (some_is e) i
  chosen false first i e k = k e
named_well ds class name id (item.Select at line entries ∷ items) m w e = named_well ds class name id items m w.1 e
named_well ds class name id (item.Public at ∷ items) m w e = named_well ds class name id items m w.1 e
named_well ds class name id (item.Private at ∷ items) m w e = named_well ds class name id items m w.1 e
named_well ds class name id (item.Empty at ∷ items) m w e = named_well ds class name id items m w.1 e

-- ---- words of arguments

pub split_fit : (ds : List Declaration) (formals : List Formal) (words : List ℤ) → length words ≡ words_of_formals ds formals → AllZip ArgFits (map (words_of_formal ds) formals) (map Know (mean.split_words ds formals words))
split_fit ds [] words e = tt
split_fit ds (formal ∷ formals) words e =
    let size = words_of_formal ds formal in
    let total = sum_by-cons (words_of_formal ds) formal formals in
    let front = length-take size words in
    let back = length-drop size words in
    (omega (arith, e, total, front), split_fit ds formals (drop size words) (omega (arith, e, total, back)))

all_known : (arguments : List (List ℤ)) → AllKnown (map Know arguments)
all_known [] n a e = absurd cc
all_known (words ∷ arguments) zero a e = (words, sym (some_arg e)) where
  some_arg : {a b : Arg} → ◌≡◌ {A = Option Arg} (Some a) (Some b) → a ≡ b
  some_arg e = cc
all_known (words ∷ arguments) (suc n) a e = all_known arguments n a e

-- ---- the guard of an entry

module _ (ds : List Declaration) (well : WellProgram ds) (number first : ℕ) (kind : Kind) (name : Name) (items : List Item) (right : WellClass ds (surrounding kind name items)) (m : Member) (test : Expression)
    (formals : List Formal) (formals_are : formals ≡ m.formals) (formals_well_declared : Every (WellDeclared ds) (declared_formals m.formals))
    (keeps : Keeps (in_body InGuard (declared_formals formals) (in_class (surrounding kind name items) (at_top ds))) test) (low : Low 0 (expr_of test)) where
  abbrev class : Class
  class = record { number = number; name = name.text; is_regular = is_regular kind; state = state_of items; members = members_from first items }

  abbrev total : ℕ
  total = words_of_parts (parts_of ds (state_of items))

  abbrev G : Frame
  G = frame ds (Unit {0}) (Unit {0}) empty total None [] (λ words. Unit {0})

  abbrev S : Setting
  S = record { class = Some (surrounding kind name items); body = InGuard; formals = declared_formals m.formals; context = record (context_with ds 0 empty (callees_at 0 ds 0 empty)) { state = parts_of ds (state_of items) } }

  abbrev K : Kept
  K = record { marks = λ id. false; finish = OfBody 0; members = [] }

  keeps_here : Keeps (in_body InGuard (declared_formals m.formals) (in_class (surrounding kind name items) (at_top ds))) test
  keeps_here = subst (λ formals. Keeps (in_body InGuard (declared_formals formals) (in_class (surrounding kind name items) (at_top ds))) test) formals_are keeps

  pub ready : Ready (guard_env ds class m) 0 (expr_of test)
  ready =
      let tests = both_true (agree (Some OfBool) (type_of (in_body InGuard (declared_formals m.formals) (in_class (surrounding kind name items) (at_top ds))) (expr_of test)))
      (list_all (λ (p : Located). may_stand_in_guard p.node) (expr_nodes (in_body InGuard (declared_formals m.formals) (in_class (surrounding kind name items) (at_top ds))) (expr_of test))) keeps_here.allowed in
      record {
        fits = expr_fits G S K well (omega arith) function_may (λ e. absurd cc) (λ e. absurd cc) ([] ∷ []) (formals_from 0 m.formals) (map (words_of_formal ds) m.formals) matches (expression_means test) keeps_here.right;
        one = bool_one ds _ _
            (expr_sized G S K well (omega arith) function_may (λ e. absurd cc) (λ e. absurd cc) ([] ∷ []) (formals_from 0 m.formals) (map (words_of_formal ds) m.formals) matches (expression_means test) keeps_here.right) tests.0;
        alone = is_pure _ (expression_means test) tests.1;
        low = low;
      } where
        matches : Rattle.mpl_mean.proofs.Sizes.SizedSettings.Matches G S ([] ∷ []) (Rattle.mpl_gen_code.proofs.TypedPlaces.variables_of (formals_from 0 m.formals))
        matches member =
            formals_match ds total member 0 m.formals (state_members (Some (surrounding kind name items))) (part_named member (parts_of ds (state_of items))) formals_well_declared
            (parts_fit ds total member InState 0 (state_of items) right.1 (omega arith))

  -- ---- its code

  module _ (marks : ℕ → Bool) (image : RawImage) (member_stands : MemberStands image ds marks class m) (entry : ℕ) (raw : RawEntry) (stands_at : slice_get image.entries entry ≡ Some raw)
      (member_is : raw.member ≡ record { 0 = m.id }) (guard_is : raw.guard ≡ Some (value_code (guard_env ds class m) (expr_of test) 0)) (state arguments : List ℤ)
      (state_long : length state ≡ words_of_object ds class) (arguments_long : length arguments ≡ words_of_formals ds m.formals) where
    abbrev text : List Instr
    text = value_code (guard_env ds class m) (expr_of test) 0

    abbrev held : List (List ℤ)
    held = mean.split_words ds m.formals arguments

    first_sizes : take (length m.formals) (behind_all (stmts_of m.body) (member_env ds marks class m)).sizes ≡ map (words_of_formal ds) m.formals
    first_sizes = formals_first ds m.formals (stmts_of m.body) (member_env ds marks class m) refl

    code_is : code_of image (frames.InGuard entry) ≡ Some (record { vars = map (words_of_formal ds) m.formals; code = text })
    code_is =
        ap (λ (o : Option RawEntry). given o (λ e. given e.guard (guard_code image e))) stands_at
        ∙ ap (λ (o : Option (List Instr)). given o (guard_code image raw)) guard_is
        ∙ ap (λ (id : Rattle.mpl_value.specs.declared.body.MemberId.MemberId). given (slice_get image.members id.0) (λ m. Some (record { vars = take m.formals m.body.vars; code = text }))) member_is
        ∙ ap (λ (o : Option RawMember). given o (λ m. Some (record { vars = take m.formals m.body.vars; code = text }))) member_stands.stands
        ∙ ap (λ (sizes : List ℕ). Some (record { vars = sizes; code = text })) first_sizes

    sizes_are : sizes_at image (frames.InGuard entry) ≡ map (words_of_formal ds) m.formals
    sizes_are = ap sizes_of code_is

    start_sizes : sizes_of_start image (Some raw.member) ≡ map (words_of_formal ds) m.formals
    start_sizes =
        ap (λ (id : Rattle.mpl_value.specs.declared.body.MemberId.MemberId). sizes_of_start image (Some id)) member_is
        ∙ ap (λ (o : Option RawMember). take (formals_of_member o) (sizes_of (option_map (λ (m : RawMember). m.body) o))) member_stands.stands
        ∙ first_sizes

    arguments_are : split_words (sizes_of_start image (Some raw.member)) arguments ≡ held
    arguments_are = ap (λ sizes. split_words sizes arguments) start_sizes ∙ split_same ds m.formals arguments

    abbrev H : Guard
    H = record { image = image; entry = entry; code = text; is = ap text_of code_is; variables = map Know held; state = state }

    abbrev s : Store
    s = store_with (formals_holding m.formals held) state [] 0

    scoped : Scoped (run_of_guard H) (guard_env ds class m)
    scoped = record { sizes = record { rest = []; is = sizes_are ∙ sym (append-nil (map (words_of_formal ds) m.formals)) }; scope = formals_well ds m.formals }

    stands : Stands (run_of_guard H) (Fixed state) (guard_env ds class m) (map Know held) s
    stands = record {
      agree = formals_held m.formals held [] (split_many ds m.formals arguments) ∙ ap (λ all. variables_of all (formals_from 0 m.formals)) (append-nil (map Know held));
      sized = subst (λ sizes. AllZip ArgFits sizes (map Know held)) (sym sizes_are) (split_fit ds m.formals arguments arguments_long);
      keeps = refl;
      long = omega (arith, state_long);
      low = omega arith;
      within = omega arith;
      result = tt;
    }

    -- what the guard means
    abbrev means : Outcome Value
    means = value_of test (guard_context ds class) s

    runs : Rattle.mpl_gen_laws.proofs.GuardRuns.Gives H (gives_true means) 0 []
    runs = expression_follows ds class m H s refl (all_known held) scoped stands (gives_true means) test 0 (length text) [] (from_whole text) (omega arith) ready (wanted means) where
      wanted : (o : Outcome Value) → Rattle.mpl_gen_laws.proofs.GuardExpressions.Wanted H s (gives_true o) (length text) [] o
      wanted (Goes v t) = λ same single. ends H (length text) (Rattle.mpl_mean.specs.Meaning.Values.word_of v) refl
      wanted (Returns words t) = refl
      wanted (Ends x t) = refl

    pub holds_so : holds image entry (split_words (sizes_of_start image (Some raw.member)) arguments) state ≡ guard_holds value_of ds class m (Some test) state arguments
    holds_so =
        ap (λ (o : Option RawEntry). entry_holds image entry (split_words (sizes_of_start image (Some raw.member)) arguments) state o) stands_at
        ∙ ap (λ (formals : List (List ℤ)). entry_holds image entry formals state (Some raw)) arguments_are
        ∙ ap (λ (guard : Option (List Instr)). entry_holds image entry held state (Some (record raw { guard = guard }))) guard_is
        ∙ runs (length text) (omega arith)
