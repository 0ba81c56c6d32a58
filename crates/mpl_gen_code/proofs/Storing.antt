-- What statements do to the variables, and to what they hold.
use Rattle.std.proofs.Common.{◌≡◌, ◌≢◌, ◌<◌, ℕ, zero, suc, Bool, true, List, [], ◌∷◌, ◌++◌, length, Option, Some, None, if◌then◌else◌, refl, ap, ap₂, sym, subst, arith, ◌∙◌}
use Rattle.std.specs.List.{AllZip, slice_get, slice_set}
use Rattle.std.specs.Str.{bytes_eq}
use Rattle.mpl_ast.specs.declared.program.Declaration.{Declaration}
use Rattle.mpl_ast.specs.declared.statement.TypeName.{TypeName}
use Rattle.mpl_value.specs.declared.body.Arg.{Arg}
use Rattle.mpl_mean.specs.Meaning.Store.{Variable, holding}
use Rattle.mpl_mean.specs.Plain.Expr.{Expr}
use Rattle.mpl_mean.specs.Plain.Expr as e
use Rattle.mpl_mean.specs.Plain.Stmt.{NewLocal, Stmt, Stmts}
use Rattle.mpl_mean.specs.Plain.Stmt as s
use Rattle.mdf_code.specs.Sizes.{ArgFits}
use Rattle.mpl_gen_code.specs.Scopes.{Env, Found, Shape, Slot, found_at, out_of, slot_named, with_variable, words_of_shape}
use Rattle.mpl_gen_code.specs.StatementCode.{behind, behind_all, behind_assignment, behind_block, behind_element, behind_found, declares, declares_all, shape_of_local}
use Rattle.mpl_gen_code.proofs.Fronts.{front_more}
use Rattle.mpl_gen_code.proofs.Scoped.{IsApart, IsFrontOf, WellScoped, got_in_front, held, one_of, variable_of, variables_of}

-- ---- what is held after a change

pub held_set : (n : ℕ) (a : Arg) (vs : List Arg) → n < length vs → held n (slice_set vs n a) ≡ a
held_set n a [] h = absurd (let e : n < 0 = h in omega arith)
held_set zero a (v ∷ vs) h = refl
held_set (suc n) a (v ∷ vs) h = held_set n a vs (let e : suc n < suc (length vs) = h in omega arith)

pub held_other : (m n : ℕ) (a : Arg) (vs : List Arg) → m ≢ n → held m (slice_set vs n a) ≡ held m vs
held_other m n a [] h = refl
held_other zero zero a (v ∷ vs) h = absurd (h refl)
held_other zero (suc n) a (v ∷ vs) h = refl
held_other (suc m) zero a (v ∷ vs) h = refl
held_other (suc m) (suc n) a (v ∷ vs) h = held_other m n a vs (λ e. h (ap suc e))

-- a change at a number that no variable of the scope has
pub others_stay : (n : ℕ) (a : Arg) (vs : List Arg) (scope : List Slot) → IsApart n scope → variables_of (slice_set vs n a) scope ≡ variables_of vs scope
others_stay n a vs [] apart = refl
others_stay n a vs (slot ∷ scope) apart =
    ap₂ (λ held_here others. record { name = slot.shape.name; type = slot.shape.type; dimension = slot.shape.dimension; holds = held_here } ∷ others) (held_other slot.number n a vs apart.0) (others_stay n a vs scope apart.1)

apart_named : (n : ℕ) (name : List ℕ) (scope : List Slot) (slot : Slot) → IsApart n scope → slot_named name scope ≡ Some slot → slot.number ≢ n
apart_named n name [] slot apart e = absurd cc
apart_named n name (first ∷ scope) slot apart e =
    one_of (slot.number ≢ n) (bytes_eq first.shape.name name) (Some first) (slot_named name scope) (Some slot) e
    (λ _ this. subst (λ (o : Slot). o.number ≢ n) (some_is this) apart.0) (λ _ rest. apart_named n name scope slot apart.1 rest) where
      some_is : {a b : Slot} → Some a ≡ Some b → a ≡ b
      some_is e = cc

same_name : (a b : List ℕ) → bytes_eq a b ≡ true → a ≡ b
same_name a b = (Rattle.std.proofs.lemmas.Slice.Eq.bytes_eq-Decides a b).0

pub named_so : (name : List ℕ) (scope : List Slot) (slot : Slot) → slot_named name scope ≡ Some slot → slot.shape.name ≡ name
named_so name [] slot e = absurd cc
named_so name (first ∷ scope) slot e =
    one_of (slot.shape.name ≡ name) (bytes_eq first.shape.name name) (Some first) (slot_named name scope) (Some slot) e
    (λ b this. ap (λ (o : Option Slot). name_or o) (sym this) ∙ same_name first.shape.name name b) (λ _ rest. named_so name scope slot rest) where
      name_or : Option Slot → List ℕ
      name_or None = []
      name_or (Some slot) = slot.shape.name

-- what the newest variable of a name holds is held by the variable of its number
pub held_named : (ds : List Declaration) (sizes : List ℕ) (name : List ℕ) (a : Arg) (scope : List Slot) (vs : List Arg) (slot : Slot) → WellScoped ds sizes scope → slot_named name scope ≡ Some slot → slot.number < length vs
    → holding name a (variables_of vs scope) ≡ variables_of (slice_set vs slot.number a) scope
held_named ds sizes name a [] vs slot well e inside = absurd cc
held_named ds sizes name a (first ∷ scope) vs slot well e inside =
    one_of (holding name a (variables_of vs (first ∷ scope)) ≡ variables_of (slice_set vs slot.number a) (first ∷ scope)) (bytes_eq first.shape.name name) (Some first) (slot_named name scope) (Some slot) e
    (λ b this.
    let same : first ≡ slot = cc this in
    subst (λ (o : Slot). holding name a (variables_of vs (first ∷ scope)) ≡ variables_of (slice_set vs o.number a) (first ∷ scope)) same
    (ap (λ (b : Bool). if b then with_held a ∷ variables_of vs scope else variable_of vs first ∷ holding name a (variables_of vs scope)) b
    ∙ ap₂ (λ (held_here : Arg) others. with_held held_here ∷ others) (sym (held_set first.number a vs (subst (λ (o : Slot). o.number < length vs) (sym same) inside))) (sym (others_stay first.number a vs scope well.1))))
    (λ b rest.
    ap (λ (b : Bool). if b then with_held a ∷ variables_of vs scope else variable_of vs first ∷ holding name a (variables_of vs scope)) b
    ∙ ap₂ (λ (held_here : Arg) others. with_held held_here ∷ others) (sym (held_other first.number slot.number a vs (λ same. apart_named first.number name scope slot well.1 rest (sym same))))
    (held_named ds sizes name a scope vs slot well.2 rest inside)) where
      with_held : Arg → Variable
      with_held holds = record { name = first.shape.name; type = first.shape.type; dimension = first.shape.dimension; holds = holds }

-- ---- numbers that there are

pub number_inside : (sizes : List ℕ) (vs : List Arg) (n size : ℕ) → AllZip ArgFits sizes vs → slice_get sizes n ≡ Some size → n < length vs
number_inside [] vs n size fit e = absurd cc
number_inside (k ∷ sizes) [] n size fit e = absurd fit
number_inside (k ∷ sizes) (v ∷ vs) zero size fit e = let g : 0 < suc (length vs) = omega arith in g
number_inside (k ∷ sizes) (v ∷ vs) (suc n) size fit e = let h = number_inside sizes vs n size fit.1 e in let g : suc n < suc (length vs) = omega arith in g

pub got_last : (sizes : List ℕ) (size : ℕ) → slice_get (sizes ++ size ∷ []) (length sizes) ≡ Some size
got_last [] size = refl
got_last (k ∷ sizes) size = got_last sizes size

pub got_within : {A : Type 0} (xs : List A) (n : ℕ) (x : A) → slice_get xs n ≡ Some x → n < length xs
got_within [] n x e = absurd cc
got_within (y ∷ xs) zero x e = let g : 0 < suc (length xs) = omega arith in g
got_within (y ∷ xs) (suc n) x e = let h = got_within xs n x e in let g : suc n < suc (length xs) = omega arith in g

pub well_more : (ds : List Declaration) {sizes more : List ℕ} (scope : List Slot) → IsFrontOf sizes more → WellScoped ds sizes scope → WellScoped ds more scope
well_more ds [] f well = tt
well_more ds {sizes} (slot ∷ scope) f well =
    (ap (λ (all : List ℕ). slice_get all slot.number) f.is ∙ got_in_front sizes f.rest slot.number _ well.0, well.1, well_more ds scope f well.2)

pub apart_next : (ds : List Declaration) (sizes : List ℕ) (scope : List Slot) → WellScoped ds sizes scope → IsApart (length sizes) scope
apart_next ds sizes [] well = tt
apart_next ds sizes (slot ∷ scope) well = ((λ e. absurd (let h = got_within sizes slot.number _ well.0 in omega arith)), apart_next ds sizes scope well.2)

-- ---- scopes behind statements

pub well_declares : (type : TypeName) (locals : List NewLocal) (env : Env) → WellScoped env.declarations env.sizes env.scope → WellScoped env.declarations (declares_all type locals env).sizes (declares_all type locals env).scope
well_declares type [] env well = well
well_declares type (local ∷ locals) env well = well_declares type locals (declares type local env) (well_variable (shape_of_local type local) env well) where
  well_variable : (shape : Shape) (env : Env) → WellScoped env.declarations env.sizes env.scope → WellScoped env.declarations (with_variable shape env).sizes (with_variable shape env).scope
  well_variable shape env well =
      (got_last env.sizes (words_of_shape env.declarations shape), apart_next env.declarations env.sizes env.scope well, well_more env.declarations env.scope (front_more env.sizes _) well)

-- a statement leaves all but the variables as it is
abbrev pub at_scope : Env → List Slot → List ℕ → Env
at_scope env scope sizes = record env { scope = scope; sizes = sizes }

declares_same : (type : TypeName) (locals : List NewLocal) (env : Env) → declares_all type locals env ≡ at_scope env (declares_all type locals env).scope (declares_all type locals env).sizes
declares_same type [] env = refl
declares_same type (local ∷ locals) env = declares_same type locals (declares type local env)

element_same : (found : Found) (slot : Option Slot) (env : Env) → behind_element found slot env ≡ at_scope env env.scope (behind_element found slot env).sizes
element_same found None env = refl
element_same found (Some slot) env = refl

pub found_same : (o : Option Found) (env : Env) → behind_found o env ≡ at_scope env env.scope (behind_found o env).sizes
found_same None env = refl
found_same (Some found) env = element_same found found.slot env

pub assigns_same : (place : Expr) (env : Env) → behind_assignment place env ≡ at_scope env env.scope (behind_assignment place env).sizes
assigns_same (e.Element at line target index) env = found_same (found_at env target) env
assigns_same (e.Number at z) env = refl
assigns_same (e.Truth at b) env = refl
assigns_same (e.Own at) env = refl
assigns_same (e.Input at) env = refl
assigns_same (e.Whole at target) env = refl
assigns_same (e.PlainCall at function arguments) env = refl
assigns_same (e.Parenthesized at t) env = refl
assigns_same (e.Unary at line operator t) env = refl
assigns_same (e.Binary at line operator left right) env = refl
assigns_same (e.CallOnOwn at member arguments) env = refl
assigns_same (e.CallOnTarget at target member arguments) env = refl

-- two changes of the variables are one
same_twice : (env other last : Env) → other ≡ at_scope env other.scope other.sizes → last ≡ at_scope other last.scope last.sizes → last ≡ at_scope env last.scope last.sizes
same_twice env other last one two = two ∙ ap (λ (o : Env). at_scope o last.scope last.sizes) one

pub out_same : (env other : Env) → other ≡ at_scope env other.scope other.sizes → out_of env other ≡ at_scope env env.scope other.sizes
out_same env other one = ap (λ (o : Env). record o { scope = env.scope }) one

mutual
  pub same_behind : (stmt : Stmt) (env : Env) → behind stmt env ≡ at_scope env (behind stmt env).scope (behind stmt env).sizes
  same_behind s.Nothing env = refl
  same_behind (s.Within stmts) env = out_same env (behind_all stmts env) (same_behind_all stmts env)
  same_behind (s.Locals type locals) env = declares_same type locals env
  same_behind (s.Assigns at place t) env = assigns_same place env ∙ refl_scope place env where
    refl_scope : (place : Expr) (env : Env) → at_scope env env.scope (behind_assignment place env).sizes ≡ at_scope env (behind_assignment place env).scope (behind_assignment place env).sizes
    refl_scope place env = ap (λ (o : Env). at_scope env o.scope (behind_assignment place env).sizes) (sym (assigns_same place env))
  same_behind (s.Calls call) env = refl
  same_behind (s.Creates at target) env = refl
  same_behind (s.When test then_part) env = out_same env (behind then_part env) (same_behind then_part env)
  same_behind (s.Branches test then_part else_part) env =
      out_same env (behind else_part (behind_block then_part env))
      (same_twice env (behind_block then_part env) (behind else_part (behind_block then_part env)) (out_same env (behind then_part env) (same_behind then_part env)) (same_behind else_part (behind_block then_part env)))
  same_behind (s.Repeats test body) env = out_same env (behind body env) (same_behind body env)
  same_behind (s.Loops first test step body) env =
      let one = same_behind first env in
      let two = same_twice env (behind first env) (behind_block body (behind first env)) one (out_same (behind first env) (behind body (behind first env)) (same_behind body (behind first env))) in
      out_same env (behind step (behind_block body (behind first env))) (same_twice env (behind_block body (behind first env)) (behind step (behind_block body (behind first env))) two (same_behind step (behind_block body (behind first env))))
  same_behind (s.Prints at ts) env = refl
  same_behind (s.Gives at t) env = refl
  same_behind (s.Returns at o) env = refl

  pub same_behind_all : (stmts : Stmts) (env : Env) → behind_all stmts env ≡ at_scope env (behind_all stmts env).scope (behind_all stmts env).sizes
  same_behind_all s.NoStmt env = refl
  same_behind_all (s.MoreStmts stmt stmts) env = same_twice env (behind stmt env) (behind_all stmts (behind stmt env)) (same_behind stmt env) (same_behind_all stmts (behind stmt env))
