-- The code of locals that are declared does what that means.
use Rattle.std.proofs.Common.{◌≡◌, ◌≤◌, ℕ, List, [], ◌∷◌, length, map, Option, Some, None, ℤ, refl, ap, subst, arith, ◌∙◌}
use Rattle.std.specs.List.{slice_get, slice_set}
use Rattle.mpl_ast.specs.declared.program.Declaration.{Declaration}
use Rattle.mpl_ast.specs.declared.statement.TypeName.{TypeName}
use Rattle.mpl_value.specs.Words.{zeros}
use Rattle.mpl_value.specs.declared.body.Arg.{Arg}
use Rattle.mpl_value.specs.declared.body.Arg.TheVariants as arg
use Rattle.mpl_mean.specs.Meaning.Context.{Callees, Context}
use Rattle.mpl_mean.specs.Meaning.Layout.{Function, Member}
use Rattle.mpl_mean.specs.Meaning.Store.{Store, Outcome, Goes, Returns, Ends, declare}
use Rattle.mpl_mean.specs.Plain.Expr.{Expr}
use Rattle.mpl_mean.specs.Plain.Stmt.{NewLocal, Stmt, Stmts}
use Rattle.mpl_mean.specs.Plain.Stmt as form
use Rattle.mdf_code.specs.Parts.{sizes_at, text_at}
use Rattle.mdf_code.specs.Sizes.{ArgFits}
use Rattle.mdf_code.specs.declared.instr.Instr.{Instr}
use Rattle.mdf_code.specs.declared.instr.Instr.TheVariants as instr
use Rattle.mdf_code.proofs.FittingValues.{zeros_fit}
use Rattle.mpl_checked.specs.Checked.CheckedExpressions.{checked_passes}
use Rattle.mpl_checked.specs.Checked.CheckedStatements.{checked_declares, checked_initial}
use Rattle.mpl_checked.specs.Checked.CheckedSteps.{Checked, Astray, CheckedCallees, CheckedStep, Checking, Meant, checked_in_turn, goes_on, meant}
use Rattle.mpl_gen_code.specs.ExpressionCode.{flow_code}
use Rattle.mpl_gen_code.specs.Fits.{InitialFits, LocalsFit, May}
use Rattle.mpl_gen_code.specs.Scopes.{Env, Slot, words_of_shape}
use Rattle.mpl_gen_code.specs.StatementCode.{declares, declares_all, initial_code, locals_code, shape_of_local}
use Rattle.mpl_gen_code.specs.Words.{words_of_expr}
use Rattle.mpl_gen_code.proofs.Adding.{Adds, adds_none, adds_then}
use Rattle.mpl_gen_code.proofs.AddingStatements.{adds_in_turn, adds_locals}
use Rattle.mpl_gen_code.proofs.Assignments.{Done}
use Rattle.mpl_gen_code.proofs.Behind.{declares_stands, well_behind}
use Rattle.mpl_gen_code.proofs.Below.{Below}
use Rattle.mpl_gen_code.proofs.Effects.{sets_variable}
use Rattle.mpl_gen_code.proofs.Flows.{Surrounded, flow_follows, meets_on}
use Rattle.mpl_gen_code.proofs.Fronts.{front_declares, front_more, front_then}
use Rattle.mpl_gen_code.proofs.Instructions.{At as Reached, zeroes}
use Rattle.mpl_gen_code.proofs.Members.{ItemAt, Meets}
use Rattle.mpl_gen_code.proofs.Places.{Joined, Upto, from_followed, from_joined, moved, upto_before}
use Rattle.mpl_gen_code.proofs.Reaching.{Fixed, From, Run}
use Rattle.mpl_gen_code.proofs.Scoped.{Allowed, IsFrontOf, Scoped, Stands, WellScoped, context_of, got_in_front}
use Rattle.mpl_gen_code.proofs.Storing.{at_scope, got_last, number_inside}

-- what is asked of the surroundings of a statement: each variable has its number, and those behind it are among all
pub record Ready (ds : List Declaration) (all : List ℕ) (env behind_it : Env) : Type 0 where
  pub well : WellScoped ds env.sizes env.scope
  pub fronts : IsFrontOf behind_it.sizes all

module _ (K : Run) (may : May) (outer : Env) (inner : Callees) (callees : CheckedCallees) (base : ℕ) (below : Below K.whole outer.declarations callees base) (above : base ≤ K.low)
    (allowed : Allowed K may outer.parts) (around : Surrounded K outer.declarations outer.marks)
    (plain : (f : Function) (arguments : List (List ℤ)) → Adds outer.declarations K.whole.vowed (callees.plain f arguments))
    (regular : (m : Member) (arguments : List (List ℤ)) → Adds outer.declarations K.whole.vowed (callees.regular m arguments)) where
  abbrev pub c : Context
  c = context_of K inner outer

  abbrev pub chk : Checking
  chk = record { marks = outer.marks; callees = callees }

  abbrev text : List Instr
  text = text_at K.whole.setting.image K.here.code

  abbrev sizes : List ℕ
  sizes = sizes_at K.whole.setting.image K.here.code

  abbrev M : {A : Type 0} → (A → Store → Type 0) → Checked (Outcome A) → Type 0
  M Q o = Meets K outer.declarations Q o

  abbrev S : Env → List Arg → Store → Type 0
  S env vs s = Stands K K.here.keeping env vs s

  abbrev Inside : ℕ → Type 0
  Inside q = Upto K (Fixed []) outer [] q

  abbrev before : (q m : ℕ) → m ≤ q → Inside q → Inside m
  before = upto_before K (Fixed []) outer []

  abbrev at : List Slot → List ℕ → Env
  at scope known = at_scope outer scope known

  scoped_at : (scope : List Slot) (known : List ℕ) → WellScoped outer.declarations known scope → IsFrontOf known sizes → Scoped K (at scope known)
  scoped_at scope known well f = record { sizes = f; scope = well }

  -- ---- locals

  abbrev pub LocalsFollow : TypeName → List NewLocal → Type 0
  LocalsFollow type locals = (scope : List Slot) (known : List ℕ) (p q : ℕ) (vs : List Arg) (s : Store) → From text p (locals_code (at scope known) type locals p) q → Inside q
      → LocalsFit may (at scope known) type locals → Ready outer.declarations sizes (at scope known) (declares_all type locals (at scope known)) → S (at scope known) vs s
      → M (Done K (declares_all type locals (at scope known)) q) (checked_in_turn (map (checked_declares chk c type) locals) s) → Reached K p [] [] vs s

  -- a local, and then the others
  local_follows : (type : TypeName) (local : NewLocal) (locals : List NewLocal) → LocalsFollow type locals → LocalsFollow type (local ∷ locals)
  local_follows type local locals others scope known p q vs s from inside fits ready stands m = by_initial local.initialiser refl parts.first fits.0 where
    env : Env
    env = at scope known

    next : Env
    next = declares type local env

    parts : Joined text (initial_code env local.initialiser) (locals_code next type locals) p q
    parts = from_joined text (initial_code env local.initialiser) (locals_code next type locals) p q from

    declared : Arg → CheckedStep (Unit {0})
    declared a = meant (declare (record { name = local.name.text; type = type; dimension = (shape_of_local type local).dimension; holds = a }))

    rest : Unit {0} → CheckedStep (Unit {0})
    rest u = checked_in_turn (map (checked_declares chk c type) locals)

    adds_rest : (a : Arg) → Adds outer.declarations K.whole.vowed (λ s. goes_on (declared a s) rest)
    adds_rest a =
        adds_then outer.declarations K.whole.vowed {f = declared a} {h = rest} (adds_none outer.declarations K.whole.vowed (λ s. refl))
        (λ _. adds_in_turn outer.declarations K.whole.vowed _ (adds_locals outer.declarations K.whole.vowed chk c plain regular type locals))

    here_front : IsFrontOf next.sizes sizes
    here_front = front_then (front_declares type locals next) ready.fronts

    size : slice_get sizes (length known) ≡ Some (words_of_shape outer.declarations (shape_of_local type local))
    size = ap (λ (all : List ℕ). slice_get all (length known)) here_front.is ∙ got_in_front next.sizes here_front.rest (length known) _ (got_last known _)

    -- the variable holds this, and the other locals follow
    go_on : (a : Arg) (vs : List Arg) (s1 : Store) → S env vs s1 → ArgFits (words_of_shape outer.declarations (shape_of_local type local)) a
        → M (Done K (declares_all type locals next) q)
        (checked_in_turn (map (checked_declares chk c type) locals) (record s1 { variables = record { name = local.name.text; type = type; dimension = (shape_of_local type local).dimension; holds = a } ∷ s1.variables }))
        → Reached K parts.middle [] [] (slice_set vs (length known) a) s1
    go_on a vs s1 stands1 fit m1 =
        others next.scope next.sizes parts.middle q (slice_set vs (length known) a) _ parts.second inside fits.1
        (record { well = well_behind (form.Locals type (local ∷ [])) env ready.well; fronts = ready.fronts })
        (declares_stands K K.here.keeping env vs s1 (shape_of_local type local) a ready.well here_front fit stands1) m1

    by_initial : (o : Option Expr) → local.initialiser ≡ o → From text p (initial_code env o p) parts.middle → InitialFits may env (words_of_shape outer.declarations (shape_of_local type local)) o → Reached K p [] [] vs s
    by_initial None is from fits =
        zeroes K p [] [] vs s (length known) _ size (number_inside _ vs (length known) _ stands.sized size) from.0
        (moved K K.here.keeping outer _ [] [] s from.1
        (go_on (arg.Know (zeros (words_of_shape outer.declarations (shape_of_local type local)))) vs s stands (zeros_fit _)
        (subst (λ o. M (Done K (declares_all type locals next) q) (goes_on (goes_on (checked_initial chk c type local o s) declared) rest)) is m)))
    by_initial (Some t) is from fits =
        let inner_parts = from_followed text (flow_code env t) (instr.SetVariable (length known)) p parts.middle from in
        flow_follows K may env inner callees base below above allowed (scoped_at scope known ready.well (front_then (front_more known _) here_front)) around plain regular vs t K.here.keeping p inner_parts.middle [] [] s inner_parts.first
        (before q inner_parts.middle (let a = inner_parts.within in let b = parts.within in omega arith) inside) fits.0 stands
        (meets_on K outer.declarations (Done K (declares_all type locals next) q) (ItemAt K K.here.keeping env vs inner_parts.middle [] [] (words_of_expr env t)) (checked_passes chk t c s) _
        adds_rest
        (λ a s1 d stands1 fit.
        sets_variable K inner_parts.middle [] [] vs s1 (length known) _ (words_of_expr env t) a size fits.1 (number_inside _ vs (length known) _ stands1.sized size) inner_parts.is
        (moved K K.here.keeping outer _ [] [] s1 inner_parts.next (go_on a vs s1 stands1 (subst (λ n. ArgFits n a) fits.1 fit) d)))
        (deep (Done K (declares_all type locals next) q) (checked_passes chk t c s) declared rest (subst (λ o. M (Done K (declares_all type locals next) q) (goes_on (goes_on (checked_initial chk c type local o s) declared) rest)) is m))) where
          deep : {A B D : Type 0} (Q : D → Store → Type 0) (o : Checked (Outcome A)) (f : A → CheckedStep B) (g : B → CheckedStep D) → M Q (goes_on (goes_on o f) g) → M Q (goes_on o (λ a s. goes_on (f a s) g))
          deep Q (Meant (Goes a s)) f g m = m
          deep Q (Meant (Returns words s)) f g m = m
          deep Q (Meant (Ends x s)) f g m = m
          deep Q Astray f g m = m

  pub locals_follow : (type : TypeName) (locals : List NewLocal) → LocalsFollow type locals
  locals_follow type [] scope known p q vs s from inside fits ready stands m = moved K K.here.keeping outer vs [] [] s from (m.1 vs stands)
  locals_follow type (local ∷ locals) scope known p q vs s from inside fits ready stands m =
      local_follows type local locals (locals_follow type locals) scope known p q vs s from inside fits ready stands m
