-- The bodies of typed programs have what their code takes.
use Rattle.std.proofs.Common.{◌≡◌, ℕ, ◌+◌, Bool, true, false, not, List, [], ◌∷◌, ◌++◌, map, Option, Some, None, if◌then◌else◌, refl, sym, ap, subst, ◌∙◌, arith}
use Rattle.std.specs.FinMap.{empty}
use Rattle.std.specs.Option.{option_and_then, option_map}
use Rattle.std.specs.Prelude.{codes, is_some}
use Rattle.std.specs.Str.{bytes_eq}
use Rattle.mpl_ast.specs.declared.class.Formal.{Formal}
use Rattle.mpl_ast.specs.declared.class.ResultType.{ResultType}
use Rattle.mpl_ast.specs.declared.program.Declaration.{Declaration}
use Rattle.mpl_ast.specs.declared.program.Program.{Program}
use Rattle.mpl_ast.specs.declared.statement.Block.{Block}
use Rattle.mpl_mean.specs.Laws.Sizes.{Every, member_of_id, words_of_formal}
use Rattle.mpl_mean.specs.Meaning.BodyMeaning.{callees_at, context_with, of_object}
use Rattle.mpl_mean.specs.Meaning.Layout.{Class, Function, Member, Part, function_named, member_named, part_named, parts_of, state_of, words_of, words_of_parts}
use Rattle.mpl_mean.specs.Meaning.Store.{variable_named}
use Rattle.mpl_mean.specs.Plain.Stmt.{stmts_of}
use Rattle.mpl_mean.specs.TypeRules.CallRules.{call_may_stand}
use Rattle.mpl_mean.specs.TypeRules.Rules.{is_typed}
use Rattle.mpl_mean.specs.TypeRules.Scopes.{Body, InFunction, InMain, InMember, Surrounding, state_members}
use Rattle.mpl_mean.specs.TypeRules.Types.{AsFormal, Declared, InState, OfClass, OneValue, declared_formals, first_named}
use Rattle.mpl_mean.specs.TypeRules.Typing.{items_called, items_of_meant, member_called, member_of}
use Rattle.mpl_mean.proofs.Sizes.SizedArguments.{function_of}
use Rattle.mpl_mean.proofs.Sizes.SizedBodies.{member_is, setting}
use Rattle.mpl_mean.proofs.Sizes.SizedCallees.{MemberOf, callees_of}
use Rattle.mpl_mean.proofs.Sizes.SizedParts.{PartFits, parts_fit}
use Rattle.mpl_mean.proofs.Sizes.SizedPrograms.{well_program}
use Rattle.mpl_mean.proofs.Sizes.SizedRules.{HasType, WellDeclared, WellResult, WellRoutine, within}
use Rattle.mpl_mean.proofs.Sizes.SizedSettings.{CalleesMatch, PlaceFits, Setting, frame}
use Rattle.mpl_mean.proofs.Sizes.SizedStarts.{ClassNumbered, class_numbered, main_of, surrounding_of}
use Rattle.mpl_mean.proofs.Sizes.SizedSteps.{Frame}
use Rattle.mpl_mean.proofs.Sizes.SizedTypes.{WellProgram, class_of}
use Rattle.mpl_mean.proofs.Truth.{not_true}
use Rattle.mpl_gen_code.specs.Fits.{FunctionIs, May, MemberIs, StmtsFit, function_may, main_may, member_may}
use Rattle.mpl_gen_code.specs.ProgramFits.{ProgramFits}
use Rattle.mpl_gen_code.specs.ProgramImage.{function_env, main_env, main_line, main_stmts, member_env, result_image}
use Rattle.mpl_gen_code.specs.Scopes.{OfBody, OfFunction, formal_shape, formals_from}
use Rattle.mpl_gen_code.proofs.TypedFlows.{Allows, OwnMember}
use Rattle.mpl_gen_code.proofs.TypedPlaces.{Kept, declared_variable, env_in, variables_of}
use Rattle.mpl_gen_code.proofs.TypedStatements.{statements_fit}

-- the formals of a body, and behind them the state of its object
pub formals_match : (ds : List Declaration) (total : ℕ) (name : List ℕ) (number : ℕ) (formals : List Formal) (state : List Declared) (part : Option Part) → Every (WellDeclared ds) (declared_formals formals)
    → PartFits ds total (first_named name state) part
    → PlaceFits ds total (first_named name (declared_formals formals ++ state)) (variable_named name (variables_of (formals_from number formals))) part
formals_match ds total name number [] state part w p = p
formals_match ds total name number (formal ∷ formals) state part w p = chosen (bytes_eq formal.name.text name) (formals_match ds total name (number + 1) formals state part w.1 p) where
  chosen : (b : Bool) → PlaceFits ds total (first_named name (declared_formals formals ++ state)) (variable_named name (variables_of (formals_from (number + 1) formals))) part
      → PlaceFits ds total (if b then Some (record { role = AsFormal; name = formal.name.text; type = formal.type_name; dimension = None }) else first_named name (declared_formals formals ++ state))
      (if b then Some (declared_variable (formal_shape formal)) else variable_named name (variables_of (formals_from (number + 1) formals))) part
  chosen true k = (refl, refl, w.0)
  chosen false k = k

-- what more is shown of the members that match
callees_with : (ds : List Declaration) (R T : Member → Type 0) (n o : Option Member) → ((m : Member) → o ≡ Some m → T m) → CalleesMatch ds R n o → CalleesMatch ds T n o
callees_with ds R T None None h c = tt
callees_with ds R T None (Some m) h c = absurd c
callees_with ds R T (Some n) None h c = absurd c
callees_with ds R T (Some n) (Some m) h c = (c.0, h m refl)

found_class : {a b : Class} → ◌≡◌ {A = Option Class} (Some a) (Some b) → a ≡ b
found_class e = cc

-- members of objects are called only in persistent classes
may_post : (result : ResultType) (n : List ℕ) (b : Bool) → call_may_stand (InMember result) b (Some (OneValue (OfClass n))) ≡ true → b ≡ true
may_post result n true e = refl
may_post result n false e = absurd cc

module _ (ds : List Declaration) (marks : ℕ → Bool) (well : WellProgram ds) where
  abbrev frame_of : ℕ → Frame
  frame_of total = frame ds (Unit {0}) (Unit {0}) empty total None [] (λ words. Unit {0})

  abbrev setting_of : Option Surrounding → Body → List Formal → List Part → Setting
  setting_of class body formals parts = setting class body (declared_formals formals) (record (context_with ds 0 empty (callees_at 0 ds 0 empty)) { state = parts })

  routine_fits : (total : ℕ) (class : Option Surrounding) (body : Body) (formals : List Formal) (block : Block) (parts : List Part) (K : Kept) (may : May)
      → Allows (frame_of total) (setting_of class body formals parts) K may → WellRoutine ds class body formals block
      → ((name : List ℕ) → PartFits ds total (first_named name (state_members class)) (part_named name parts))
      → StmtsFit may (env_in (frame_of total) (setting_of class body formals parts) K (formals_from 0 formals) (map (words_of_formal ds) formals)) (stmts_of block)
  routine_fits total class body formals block parts K may allows right state =
      statements_fit (frame_of total) (setting_of class body formals parts) K well may allows (formals_from 0 formals) (map (words_of_formal ds) formals) block.statements
      (λ name. formals_match ds total name 0 formals (state_members class) (part_named name parts) right.0 (state name)) right.1

  -- ---- functions

  function_fits : (name : List ℕ) (f : Function) → FunctionIs ds name f → StmtsFit function_may (function_env ds marks f) (stmts_of f.body)
  function_fits name f is =
      let right = function_of ds name f ds is.other well.each is.named in
      let K : Kept = record { marks = marks; finish = OfFunction (words_of ds f.result None) f.body.mark_line; members = [] } in
      routine_fits 0 None (InFunction f.result) f.formals f.body [] K function_may (allowed right.result) right.routine (λ name. tt) where
        allowed : HasType ds f.result
            → Allows (frame_of 0) (setting_of None (InFunction f.result) f.formals []) (record { marks = marks; finish = OfFunction (words_of ds f.result None) f.body.mark_line; members = [] }) function_may
        allowed typed = record {
          total = omega arith;
          own = λ e. absurd cc;
          input = λ e. absurd cc;
          sends = λ receiver e. absurd cc;
          posts = λ n e. absurd cc;
          creates = λ e. absurd cc;
          members = λ blocks name e. absurd cc;
          own_items = λ blocks e. absurd cc;
          gives = λ at type e. absurd cc;
          finish = (refl, typed);
        }

  main_allows : (line : ℕ) → Allows (frame_of 0) (setting_of None InMain [] []) (record { marks = marks; finish = OfBody line; members = [] }) main_may
  main_allows line = record {
    total = omega arith;
    own = λ e. absurd cc;
    input = λ e. refl;
    sends = λ receiver e. refl;
    posts = λ n e. refl;
    creates = λ e. refl;
    members = λ blocks name e. absurd cc;
    own_items = λ blocks e. absurd cc;
    gives = λ at type e. absurd cc;
    finish = tt;
  }

  main_fits : StmtsFit main_may (main_env ds marks) (main_stmts (function_named (codes "main") ds))
  main_fits = found (function_named (codes "main") ds) refl where
    found : (o : Option Function) → function_named (codes "main") ds ≡ o
        → StmtsFit main_may (env_in (frame_of 0) (setting_of None InMain [] []) (record { marks = marks; finish = OfBody (main_line o); members = [] }) [] []) (main_stmts o)
    found None e = tt
    found (Some f) e =
        let right = main_of ds f ds well.each e in
        let routine : WellRoutine ds None InMain [] f.body = subst (λ formals. WellRoutine ds None InMain formals f.body) right.1 right.0 in
        routine_fits 0 None InMain [] f.body [] (record { marks = marks; finish = OfBody f.body.mark_line; members = [] }) main_may (main_allows f.body.mark_line) routine (λ name. tt)

  -- ---- members

  module _ (class : Class) (m : Member) (is : ClassNumbered ds (class, m) [] 0 0 ds) where
    abbrev parts : List Part
    parts = of_object class (parts_of ds class.state)

    abbrev total : ℕ
    total = words_of_parts (parts_of ds (state_of is.items))

    abbrev kept : Kept
    kept = record { marks = marks; finish = OfBody m.body.mark_line; members = of_object class class.members }

    -- a regular class has no state
    object_parts : parts_of ds class.state ≡ of_object class (parts_of ds class.state)
    object_parts = by_kind class.is_regular refl where
      by_kind : (b : Bool) → class.is_regular ≡ b → parts_of ds class.state ≡ (if b then [] else parts_of ds class.state)
      by_kind true e = ap (parts_of ds) (is.state ∙ (is.right).2 e)
      by_kind false e = refl

    state_fits : (name : List ℕ) → PartFits ds total (first_named name (state_members (Some (surrounding_of class is.items)))) (part_named name parts)
    state_fits name =
        subst (λ ps. PartFits ds total (first_named name (state_members (Some (surrounding_of class is.items)))) (part_named name ps)) object_parts
        (subst (λ fields. PartFits ds total (first_named name (state_members (Some (surrounding_of class is.items)))) (part_named name (parts_of ds fields))) (sym is.state)
        (parts_fit ds total name InState 0 (state_of is.items) (is.right).1 (omega arith)))

    total_is : total ≡ words_of_parts parts
    total_is = ap (λ fields. words_of_parts (parts_of ds fields)) (sym is.state) ∙ ap words_of_parts object_parts

    own_member : class.is_regular ≡ false → (name : List ℕ) (o : Member) → member_named name class.members ≡ Some o → OwnMember ds o
    own_member regular name o e =
        let f = class_of well class.name class.name class.is_regular is.items is.meant in
        let same : f.class ≡ class = found_class (sym f.found ∙ is.named) in (
          class,
          record { found = subst (λ c. member_of_id ds (record { 0 = o.id }) ≡ Some (c, o)) same (f.numbered name o (subst (λ (c : Class). member_named name c.members ≡ Some o) (sym same) e)).1 },
          regular,
        )

    own_fits : (blocks : List (List Declared)) (name : List ℕ) → not class.is_regular ≡ true
        → CalleesMatch ds (OwnMember ds) (member_called (within ds (Some (surrounding_of class is.items)) (InMember m.result) (declared_formals m.formals) blocks) None name) (member_named name (of_object class class.members))
    own_fits blocks name e =
        subst (λ ms. CalleesMatch ds (OwnMember ds) (member_called (within ds (Some (surrounding_of class is.items)) (InMember m.result) (declared_formals m.formals) blocks) None name) (member_named name ms))
        (sym (ap (λ b. if b then [] else class.members) (not_true class.is_regular e)))
        (subst (λ b. CalleesMatch ds (OwnMember ds) (option_and_then (member_of name) (items_called ds (option_map OneValue (if b then None else Some (OfClass class.name))))) (member_named name class.members))
        (sym (not_true class.is_regular e))
        (subst (λ k. CalleesMatch ds (OwnMember ds) (option_and_then (member_of name) (items_of_meant k)) (member_named name class.members)) (sym is.meant)
        (callees_with ds (MemberOf ds class.is_regular) (OwnMember ds) (member_of name is.items) (member_named name class.members) (own_member (not_true class.is_regular e) name)
        (callees_of well class.name class.name class.is_regular is.items is.meant class is.named name))))

    member_allows : Allows (frame_of total) (setting_of (Some (surrounding_of class is.items)) (InMember m.result) m.formals parts) kept (member_may ds class m)
    member_allows = record {
      total = let e = total_is in omega arith;
      own = λ e. (e, e);
      input = λ e. absurd cc;
      sends = λ receiver e. refl;
      posts = λ n e. may_post m.result n (not class.is_regular) e;
      creates = λ e. e;
      members = own_fits;
      own_items = λ blocks e.
          subst (λ b. is_some (items_called ds (option_map OneValue (if b then None else Some (OfClass class.name)))) ≡ true) (sym (not_true class.is_regular e))
          (subst (λ k. is_some (items_of_meant k) ≡ true) (sym is.meant) refl);
      gives = λ at type e.
          let same = member_is e in
          (ap (result_image ds) same, subst (λ r. WellResult ds r) same (is.member).1);
      finish = tt;
    }

    numbered_fits : StmtsFit (member_may ds class m) (member_env ds marks class m) (stmts_of m.body)
    numbered_fits =
        routine_fits total (Some (surrounding_of class is.items)) (InMember m.result) m.formals m.body parts kept (member_may ds class m) member_allows (is.member).0 state_fits

  member_fits : (class : Class) (m : Member) → MemberIs ds class m → StmtsFit (member_may ds class m) (member_env ds marks class m) (stmts_of m.body)
  member_fits class m is = numbered_fits class m (class_numbered ds m.id (class, m) 0 0 [] ds well.differ well.each is.found)

-- ---- all of them

pub typed_fits : (p : Program) (marks : ℕ → Bool) → is_typed p ≡ true → ProgramFits p.declarations marks
typed_fits p marks typed =
    let well = well_program p typed in
    record {
      main = main_fits p.declarations marks well;
      function = λ name f is. function_fits p.declarations marks well name f is;
      member = λ class m is. member_fits p.declarations marks well class m is;
    }
