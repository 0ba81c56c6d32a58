-- In each body of a typed program calls in place have as many arguments as formals.
use Rattle.std.proofs.Common.{◌≡◌, ℕ, ◌+◌, Bool, true, false, List, [], ◌∷◌, ◌++◌, length, map, Option, Some, None, if◌then◌else◌, refl, sym, ap, subst, ◌∙◌, arith}
use Rattle.std.specs.FinMap.{empty}
use Rattle.std.specs.Prelude.{codes}
use Rattle.std.specs.Str.{bytes_eq}
use Rattle.mpl_ast.specs.declared.class.Formal.{Formal}
use Rattle.mpl_ast.specs.declared.class.Item.{Item}
use Rattle.mpl_ast.specs.declared.program.Declaration.{Declaration}
use Rattle.mpl_ast.specs.declared.program.Declaration.TheVariants as declaration
use Rattle.mpl_ast.specs.declared.statement.Block.{Block}
use Rattle.mpl_value.specs.declared.body.MemberId.{MemberId}
use Rattle.mpl_mean.specs.Laws.Sizes.{Every, member_of_id}
use Rattle.mpl_mean.specs.Meaning.BodyMeaning.{callees_at, context_with, main_statements, of_object, statements_of}
use Rattle.mpl_mean.specs.Meaning.Layout.{Class, Function, Member, Part, class_named, classes_from, classes_of, function_named, is_regular, member_named, members_from, part_named, parts_of, state_of, words_of_parts}
use Rattle.mpl_mean.specs.Meaning.Store.{variable_named}
use Rattle.mpl_mean.specs.Plain.Stmt.{stmts_from, stmts_of}
use Rattle.mpl_mean.specs.TypeRules.Scopes.{Body, InMain, InMember, Surrounding, is_main, state_members}
use Rattle.mpl_mean.specs.TypeRules.Types.{AsFormal, Declared, InState, declared_fields, declared_formals, first_named}
use Rattle.mpl_mean.proofs.Sizes.SizedArguments.{function_of}
use Rattle.mpl_mean.proofs.Sizes.SizedBodies.{setting}
use Rattle.mpl_mean.proofs.Sizes.SizedCallees.{member_well}
use Rattle.mpl_mean.proofs.Sizes.SizedClasses.{bytes_same}
use Rattle.mpl_mean.proofs.Sizes.SizedParts.{PartFits, parts_fit}
use Rattle.mpl_mean.proofs.Sizes.SizedRules.{WellClass, WellDeclaration, WellDeclared, WellRoutine}
use Rattle.mpl_mean.proofs.Sizes.SizedSettings.{PlaceFits, Setting, frame}
use Rattle.mpl_mean.proofs.Sizes.SizedStarts.{ClassNumbered, class_numbered, main_of, surrounding_of}
use Rattle.mpl_mean.proofs.Sizes.SizedSteps.{Frame}
use Rattle.mpl_mean.proofs.Sizes.SizedTypes.{WellProgram}
use Rattle.mpl_mean.proofs.Truth.{some_is}
use Rattle.mpl_plain.specs.Arity.{StatementsFit}
use Rattle.mpl_mean.specs.Plain.Scopes.{formal_shape, function_env, member_env, main_env, regular_env}
use Rattle.mpl_plain.proofs.FittingFlows.{declared_variable, variables_of}
use Rattle.mpl_plain.proofs.FittingStatements.{statements_fit}

-- the formals of a body, and behind them the state of its object
formals_match : (ds : List Declaration) (total : ℕ) (name : List ℕ) (formals : List Formal) (state : List Declared) (part : Option Part) → Every (WellDeclared ds) (declared_formals formals)
    → PartFits ds total (first_named name state) part → PlaceFits ds total (first_named name (declared_formals formals ++ state)) (variable_named name (variables_of (map formal_shape formals))) part
formals_match ds total name [] state part w p = p
formals_match ds total name (formal ∷ formals) state part w p = chosen (bytes_eq formal.name.text name) (formals_match ds total name formals state part w.1 p) where
  chosen : (b : Bool) → PlaceFits ds total (first_named name (declared_formals formals ++ state)) (variable_named name (variables_of (map formal_shape formals))) part
      → PlaceFits ds total (if b then Some (record { role = AsFormal; name = formal.name.text; type = formal.type_name; dimension = None }) else first_named name (declared_formals formals ++ state))
      (if b then Some (declared_variable (formal_shape formal)) else variable_named name (variables_of (map formal_shape formals))) part
  chosen true k = (refl, refl, w.0)
  chosen false k = k

module _ (ds : List Declaration) (well : WellProgram ds) where
  abbrev frame_of : ℕ → Frame
  frame_of total = frame ds (Unit {0}) (Unit {0}) empty total None [] (λ words. Unit {0})

  abbrev setting_of : Option Surrounding → Body → List Formal → List Part → Setting
  setting_of class body formals parts = setting class body (declared_formals formals) (record (context_with ds 0 empty (callees_at 0 ds 0 empty)) { state = parts })

  routine_fits : (total : ℕ) (class : Option Surrounding) (body : Body) (formals : List Formal) (block : Block) (ms : List Member) (parts : List Part) → WellRoutine ds class body formals block
      → ((name : List ℕ) → PartFits ds total (first_named name (state_members class)) (part_named name parts))
      → StatementsFit (record { declarations = ds; members = ms; parts = parts; scope = map formal_shape formals }) (stmts_of block)
  routine_fits total class body formals block ms parts right state =
      statements_fit (frame_of total) (setting_of class body formals parts) well ms (map formal_shape formals) block.statements
      (λ name. formals_match ds total name formals (state_members class) (part_named name parts) right.0 (state name)) right.1

  -- ---- functions

  function_right : (name : List ℕ) (f : Function) → function_named name ds ≡ Some f → (body : Body) × WellRoutine ds None body f.formals f.body
  function_right name f e = chosen (is_main name) refl where
    chosen : (b : Bool) → is_main name ≡ b → (body : Body) × WellRoutine ds None body f.formals f.body
    chosen true i = (InMain, (main_of ds f ds well.each (subst (λ n. function_named n ds ≡ Some f) (bytes_same name (codes "main") i) e)).0)
    chosen false i = (_, (function_of ds name f ds i well.each e).routine)

  pub function_fits : (name : List ℕ) (f : Function) → function_named name ds ≡ Some f → StatementsFit (function_env ds f) (stmts_of f.body)
  function_fits name f e = let right = function_right name f e in routine_fits 0 None right.0 f.formals f.body [] [] right.1 (λ name. tt)

  pub main_fits : StatementsFit (main_env ds) (stmts_from (main_statements ds))
  main_fits = found (function_named (codes "main") ds) refl where
    found : (o : Option Function) → function_named (codes "main") ds ≡ o → StatementsFit (main_env ds) (stmts_from (statements_of o))
    found None e = tt
    found (Some f) e =
        subst (λ formals. StatementsFit (record { declarations = ds; members = []; parts = []; scope = map formal_shape formals }) (stmts_of f.body)) (main_of ds f ds well.each e).1
        (function_fits (codes "main") f e)

  -- ---- members

  pub numbered_fits : (id : MemberId) (found : Class × Member) → member_of_id ds id ≡ Some found → StatementsFit (member_env ds found.0 found.1) (stmts_of (found.1).body)
  numbered_fits id found e =
      let is = class_numbered ds id.0 found 0 0 [] ds well.differ well.each e in
      routine_fits (words_of_parts (parts_of ds (state_of is.items))) (Some (surrounding_of found.0 is.items)) (InMember (found.1).result) (found.1).formals (found.1).body
      (of_object found.0 (found.0).members) (of_object found.0 (parts_of ds (found.0).state)) (is.member).0 (state is) where
        object_parts : (is : ClassNumbered ds found [] 0 0 ds) → parts_of ds (found.0).state ≡ of_object found.0 (parts_of ds (found.0).state)
        object_parts is = by_kind (found.0).is_regular refl where
          by_kind : (b : Bool) → (found.0).is_regular ≡ b → parts_of ds (found.0).state ≡ (if b then [] else parts_of ds (found.0).state)
          by_kind true e = ap (parts_of ds) (is.state ∙ (is.right).2 e)
          by_kind false e = refl

        state : (is : ClassNumbered ds found [] 0 0 ds) (name : List ℕ)
            → PartFits ds (words_of_parts (parts_of ds (state_of is.items))) (first_named name (state_members (Some (surrounding_of found.0 is.items)))) (part_named name (of_object found.0 (parts_of ds (found.0).state)))
        state is name =
            let total = words_of_parts (parts_of ds (state_of is.items)) in
            subst (λ ps. PartFits ds total (first_named name (state_members (Some (surrounding_of found.0 is.items)))) (part_named name ps)) (object_parts is)
            (subst (λ fields. PartFits ds total (first_named name (state_members (Some (surrounding_of found.0 is.items)))) (part_named name (parts_of ds fields))) (sym is.state)
            (parts_fit ds total name InState 0 (state_of is.items) (is.right).1 (omega arith)))

  -- a class is found with the items of its declaration
  record ClassRight (class : Class) : Type 0 where
    items : List Item
    first : ℕ
    members : class.members ≡ members_from first items
    name : List ℕ
    right : WellClass ds (record { name = name; is_regular = class.is_regular; items = items })

  class_right : (name : List ℕ) (class : Class) (number id : ℕ) (others : List Declaration) → Every (WellDeclaration ds) others → class_named name (classes_from number id others) ≡ Some class → ClassRight class
  class_right name class number id [] w e = absurd cc
  class_right name class number id (declaration.Struct at line struct fields ∷ others) w e = class_right name class number id others w.1 e
  class_right name class number id (declaration.Function at result function formals body ∷ others) w e = class_right name class number id others w.1 e
  class_right name class number id (declaration.Class at line kind declared items ∷ others) w e =
      chosen (bytes_eq declared.text name) e (class_right name class (number + 1) (id + length (members_from id items)) others w.1) where
        chosen : (b : Bool)
            → (if b then Some (record { number = number; name = declared.text; is_regular = is_regular kind; state = state_of items; members = members_from id items })
            else class_named name (classes_from (number + 1) (id + length (members_from id items)) others)) ≡ Some class
            → (class_named name (classes_from (number + 1) (id + length (members_from id items)) others) ≡ Some class → ClassRight class) → ClassRight class
        chosen true e k = subst ClassRight (some_is e) (record { items = items; first = id; members = refl; name = declared.text; right = w.0 })
        chosen false e k = k e

  pub regular_fits : (name member : List ℕ) (class : Class) (m : Member) → class_named name (classes_of ds) ≡ Some class → class.is_regular ≡ true → member_named member class.members ≡ Some m
      → StatementsFit (regular_env ds m) (stmts_of m.body)
  regular_fits name member class m e regular found =
      let c = class_right name class 0 0 ds well.each e in
      let surrounds : Surrounding = record { name = c.name; is_regular = class.is_regular; items = c.items } in
      let right = member_well ds surrounds member c.first c.items m (c.right).0 (subst (λ ms. member_named member ms ≡ Some m) c.members found) in
      routine_fits 0 (Some surrounds) (InMember m.result) m.formals m.body [] [] right.0
      (λ name. subst (λ fields. PartFits ds 0 (first_named name (declared_fields InState fields)) None) (sym ((c.right).2 regular)) tt)
