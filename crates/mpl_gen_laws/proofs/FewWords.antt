-- Each variable of a code has few words.
use Rattle.std.proofs.Common.{◌≡◌, ◌≤◌, ℕ, ◌+◌, Bool, true, false, ◌&&◌, List, [], ◌∷◌, ◌++◌, length, map, Option, Some, None, if◌then◌else◌, nat_le, refl, ap, sym, subst, arith, ◌∙◌}
use Rattle.std.proofs.lemmas.Bool.{le-leb}
use Rattle.std.proofs.lemmas.List.{length-append, length-map}
use Rattle.std.specs.List.{list_all}
use Rattle.std.specs.Str.{bytes_eq}
use Rattle.mpl_ast.specs.declared.class.Formal.{Formal}
use Rattle.mpl_ast.specs.declared.expression.Target.{Target}
use Rattle.mpl_ast.specs.declared.program.Declaration.{Declaration}
use Rattle.mpl_ast.specs.declared.statement.Dimension.{Dimension}
use Rattle.mpl_ast.specs.declared.statement.TypeName.{TypeName}
use Rattle.mpl_mean.specs.Laws.Sizes.{Every, words_of_formal}
use Rattle.mpl_mean.specs.Meaning.Layout.{dimension_of, words_of}
use Rattle.mpl_mean.specs.Plain.Expr.{Expr}
use Rattle.mpl_mean.specs.Plain.Expr as e
use Rattle.mpl_mean.specs.Plain.Stmt.{NewLocal, Stmt, Stmts}
use Rattle.mpl_mean.specs.Plain.Stmt as s
use Rattle.mdf_code.specs.Images.{is_code, letters_fit, loops_pass, words_fit}
use Rattle.mpl_gen_code.specs.Fits.{AssignmentFits, May, PlaceFits, StmtFits, StmtsFit}
use Rattle.mpl_gen_code.specs.ProgramImage.{code_of_body}
use Rattle.mpl_gen_code.specs.Scopes.{Env, Found, Slot, formals_from, found_at, out_of, slot_named, words_of_shape}
use Rattle.mpl_gen_code.specs.StatementCode.{behind, behind_all, behind_assignment, behind_block, behind_element, behind_found, body_code, declares, declares_all, shape_of_local}
use Rattle.mpl_gen_code.proofs.Fronts.{front_all}
use Rattle.mpl_gen_code.proofs.Scoped.{slot_is}
use Rattle.mpl_gen_laws.proofs.Onward.{body_onward}
use Rattle.mpl_gen_laws.proofs.SmallSizes.{AllLocalsFew, DeclarationFew, DimensionFew, LocalsFew, type_few}
use Rattle.mpl_gen_laws.specs.PrintedLines.{AllPrint}

abbrev IsFew : ℕ → Type 0
IsFew n = n ≤ 1024

every_last : {A : Type 0} (P : A → Type 0) (xs : List A) (x : A) → Every P xs → P x → Every P (xs ++ x ∷ [])
every_last P [] x h k = (k, tt)
every_last P (y ∷ xs) x h k = (h.0, every_last P xs x h.1 k)

module _ (ds : List Declaration) (sizes_few : Every (DeclarationFew ds) ds) where
  abbrev SlotFew : Slot → Type 0
  SlotFew slot = words_of_shape ds slot.shape ≤ 1024

  -- the variables so far, and those in scope
  record FewIn (env : Env) : Type 0 where
    declarations : env.declarations ≡ ds
    sizes : Every IsFew env.sizes
    scope : Every SlotFew env.scope

  dimension_words : (t : TypeName) (dimension : Option Dimension) (new : NewLocal) → DimensionFew (record new { dimension = dimension }) → words_of ds t (dimension_of dimension) ≤ 1024
  dimension_words t None new h = let few = type_few ds sizes_few t in omega (arith, few)
  dimension_words t (Some dimension) new h = omega (arith, h)

  declare_few : (t : TypeName) (new : NewLocal) (env : Env) → DimensionFew new → FewIn env → FewIn (declares t new env)
  declare_few t new env h f =
      let words : words_of ds t (dimension_of new.dimension) ≤ 1024 = dimension_words t new.dimension new h in record {
        declarations = f.declarations;
        sizes = every_last IsFew env.sizes (words_of_shape env.declarations (shape_of_local t new)) f.sizes (subst (λ (ds : List Declaration). words_of ds t (dimension_of new.dimension) ≤ 1024) (sym f.declarations) words);
        scope = (words, f.scope);
      }

  declares_few : (t : TypeName) (locals : List NewLocal) (env : Env) → Every DimensionFew locals → FewIn env → FewIn (declares_all t locals env)
  declares_few t [] env h f = f
  declares_few t (new ∷ locals) env h f = declares_few t locals (declares t new env) h.1 (declare_few t new env h.0 f)

  slot_few : (name : List ℕ) (slots : List Slot) (slot : Slot) → Every SlotFew slots → slot_named name slots ≡ Some slot → SlotFew slot
  slot_few name [] slot h e = absurd cc
  slot_few name (first ∷ slots) slot h e = chosen (bytes_eq first.shape.name name) e (slot_few name slots slot h.1) where
    some_slot : {a b : Slot} → ◌≡◌ {A = Option Slot} (Some a) (Some b) → a ≡ b
    some_slot e = cc

    chosen : (b : Bool) → (if b then Some first else slot_named name slots) ≡ Some slot → (slot_named name slots ≡ Some slot → SlotFew slot) → SlotFew slot
    chosen true e k = subst SlotFew (some_slot e) h.0
    chosen false e k = k e

  element_few : (t : Target) (o : Option Found) (env : Env) → found_at env t ≡ o → PlaceFits env o → FewIn env → FewIn (behind_found o env)
  element_few t None env e fits f = f
  element_few t (Some found) env e fits f = by_slot found.slot refl fits where
    by_slot : (slot : Option Slot) → found.slot ≡ slot → PlaceFits env (Some (record found { slot = slot })) → FewIn (behind_element found slot env)
    by_slot None i fits = f
    by_slot (Some slot) i fits =
        let is = slot_is env t found slot e i in
        let few = slot_few is.name env.scope slot f.scope is.named in
        let inside : found.offset + found.words ≤ words_of_shape ds slot.shape = subst (λ (ds : List Declaration). found.offset + found.words ≤ words_of_shape ds slot.shape) f.declarations fits in record {
          declarations = f.declarations;
          sizes = every_last IsFew (env.sizes ++ 1 ∷ []) found.words (every_last IsFew env.sizes 1 f.sizes (omega arith)) (omega (arith, few, inside));
          scope = f.scope;
        }

  assigns_few : (may : May) (place value : Expr) (env : Env) → AssignmentFits may env place value → FewIn env → FewIn (behind_assignment place env)
  assigns_few may (e.Element at line target index) value env fits f = element_few target (found_at env target) env refl fits.0 f
  assigns_few may (e.Whole at target) value env fits f = f
  assigns_few may (e.Number at z) value env fits f = f
  assigns_few may (e.Truth at b) value env fits f = f
  assigns_few may (e.Own at) value env fits f = f
  assigns_few may (e.Input at) value env fits f = f
  assigns_few may (e.PlainCall at function arguments) value env fits f = f
  assigns_few may (e.Parenthesized at inner) value env fits f = f
  assigns_few may (e.Unary at line operator operand) value env fits f = f
  assigns_few may (e.Binary at line operator left right) value env fits f = f
  assigns_few may (e.CallOnOwn at member arguments) value env fits f = f
  assigns_few may (e.CallOnTarget at target member arguments) value env fits f = f

  out_few : (outer inner : Env) → FewIn outer → FewIn inner → FewIn (out_of outer inner)
  out_few outer inner f g = record { declarations = g.declarations; sizes = g.sizes; scope = f.scope }

  mutual
    behind_few : (may : May) (stmt : Stmt) (env : Env) → StmtFits may env stmt → LocalsFew stmt → FewIn env → FewIn (behind stmt env)
    behind_few may s.Nothing env fits h f = f
    behind_few may (s.Within stmts) env fits h f = out_few env (behind_all stmts env) f (all_few may stmts env fits h f)
    behind_few may (s.Locals type locals) env fits h f = declares_few type locals env h f
    behind_few may (s.Assigns at place value) env fits h f = assigns_few may place value env fits f
    behind_few may (s.Calls call) env fits h f = f
    behind_few may (s.Creates at target) env fits h f = f
    behind_few may (s.When test then_part) env fits h f = out_few env (behind then_part env) f (behind_few may then_part env fits.1 h f)
    behind_few may (s.Branches test then_part else_part) env fits h f =
        let first = out_few env (behind then_part env) f (behind_few may then_part env fits.1 h.0 f) in
        out_few env (behind else_part (behind_block then_part env)) f (behind_few may else_part (behind_block then_part env) fits.2 h.1 first)
    behind_few may (s.Repeats test body) env fits h f = out_few env (behind body env) f (behind_few may body env fits.1 h f)
    behind_few may (s.Loops first test step body) env fits h f =
        let begun = behind_few may first env fits.0 h.0 f in
        let between = out_few (behind first env) (behind body (behind first env)) begun (behind_few may body (behind first env) fits.2 h.2 begun) in
        out_few env (behind step (behind_block body (behind first env))) f (behind_few may step (behind_block body (behind first env)) fits.3 h.1 between)
    behind_few may (s.Prints at arguments) env fits h f = f
    behind_few may (s.Gives at value) env fits h f = f
    behind_few may (s.Returns at value) env fits h f = f

    all_few : (may : May) (stmts : Stmts) (env : Env) → StmtsFit may env stmts → AllLocalsFew stmts → FewIn env → FewIn (behind_all stmts env)
    all_few may s.NoStmt env fits h f = f
    all_few may (s.MoreStmts stmt stmts) env fits h f = all_few may stmts (behind stmt env) fits.1 h.1 (behind_few may stmt env fits.0 h.0 f)

  -- ---- the code of a body

  formals_few : (formals : List Formal) → Every IsFew (map (words_of_formal ds) formals)
  formals_few [] = tt
  formals_few (formal ∷ formals) = (let few = type_few ds sizes_few formal.type_name in omega (arith, few), formals_few formals)

  scope_few : (number : ℕ) (formals : List Formal) → Every SlotFew (formals_from number formals)
  scope_few number [] = tt
  scope_few number (formal ∷ formals) = (let few = type_few ds sizes_few formal.type_name in omega (arith, few), scope_few (number + 1) formals)

  words_fit_all : (sizes : List ℕ) → Every IsFew sizes → list_all words_fit sizes ≡ true
  words_fit_all [] h = refl
  words_fit_all (n ∷ sizes) h = ap (λ b. b && list_all words_fit sizes) (le-leb n 1024 h.0) ∙ words_fit_all sizes h.1

  -- a body with these formals
  record FormalsIn (env : Env) (formals : List Formal) : Type 0 where
    declarations : env.declarations ≡ ds
    sizes : env.sizes ≡ map (words_of_formal ds) formals
    scope : env.scope ≡ formals_from 0 formals

  few_from : (env : Env) (formals : List Formal) → FormalsIn env formals → FewIn env
  few_from env formals f = record {
    declarations = f.declarations;
    sizes = subst (Every IsFew) (sym f.sizes) (formals_few formals);
    scope = subst (Every SlotFew) (sym f.scope) (scope_few 0 formals);
  }

  three_true : (a b c : Bool) → a ≡ true → b ≡ true → c ≡ true → (a && (b && c)) ≡ true
  three_true a b c h k l = ap (λ t. t && (b && c)) h ∙ (ap (λ t. t && c) k ∙ l)

  pub body_is_code : (may : May) (env : Env) (formals : List Formal) (stmts : Stmts) → env.declarations ≡ ds → env.sizes ≡ map (words_of_formal ds) formals → env.scope ≡ formals_from 0 formals
      → StmtsFit may env stmts → AllLocalsFew stmts → AllPrint stmts → is_code (code_of_body env stmts) ≡ true
  body_is_code may env formals stmts declarations sizes scope fits few prints =
      let onward = body_onward env stmts prints in
      let words = all_few may stmts env fits few (few_from env formals (record { declarations = declarations; sizes = sizes; scope = scope })) in
      three_true (list_all words_fit (behind_all stmts env).sizes) (list_all letters_fit (body_code env stmts 0)) (loops_pass (body_code env stmts 0)) (words_fit_all (behind_all stmts env).sizes words.sizes) onward.0 onward.1

  pub formals_inside : (env : Env) (formals : List Formal) (stmts : Stmts) → env.sizes ≡ map (words_of_formal ds) formals → nat_le (length formals) (length (code_of_body env stmts).vars) ≡ true
  formals_inside env formals stmts sizes =
      let front = front_all stmts env in
      let whole = ap length front.is in
      let parts = length-append env.sizes front.rest in
      let first = ap length sizes in
      let mapped = length-map formals (words_of_formal ds) in
      le-leb (length formals) (length (behind_all stmts env).sizes) (omega (arith, whole, parts, first, mapped))
