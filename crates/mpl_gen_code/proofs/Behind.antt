-- A store behind a change of its variables, and behind a block.
use Rattle.std.proofs.Common.{◌≡◌, ◌≤◌, ◌+◌, ◌-◌, ℕ, List, [], ◌∷◌, ◌++◌, length, map, drop, Some, append_assoc, refl, ap, ap₂, sym, subst, arith, ◌∙◌}
use Rattle.std.proofs.Math.Seq.{drop-append_seam}
use Rattle.std.proofs.lemmas.List.{length-append, length-map, map-append}
use Rattle.std.specs.List.{slice_get, slice_set}
use Rattle.mpl_ast.specs.declared.program.Declaration.{Declaration}
use Rattle.mpl_ast.specs.declared.statement.TypeName.{TypeName}
use Rattle.mpl_value.specs.declared.body.Arg.{Arg}
use Rattle.mpl_mean.specs.Meaning.Layout.{words_of_parts}
use Rattle.mpl_mean.specs.Meaning.Store.{Store, Outcome, Goes, Returns, Ends, Variable, holding, oldest, only_oldest}
use Rattle.mpl_mean.specs.Plain.Stmt.{NewLocal, Stmt, Stmts}
use Rattle.mpl_mean.specs.Plain.Stmt as s
use Rattle.mdf_code.specs.Parts.{sizes_at}
use Rattle.mdf_code.specs.Sizes.{ArgFits}
use Rattle.mdf_code.proofs.FittingValues.{set_fits}
use Rattle.mpl_checked.specs.Checked.CheckedSteps.{Checked, Meant, Astray, unless_astray}
use Rattle.mpl_gen_code.specs.Scopes.{Env, Shape, Slot, out_of, with_variable, words_of_shape}
use Rattle.mpl_gen_code.specs.StatementCode.{behind, behind_all, declares, declares_all, shape_of_local}
use Rattle.mpl_gen_code.proofs.Fronts.{front}
use Rattle.mpl_gen_code.proofs.Popping.{set_there}
use Rattle.mpl_gen_code.proofs.Reaching.{Comes, Keeping, Run}
use Rattle.mpl_gen_code.proofs.Scoped.{IsApart, IsFrontOf, IsSlot, Scoped, Stands, WellScoped, got_in_front, size_here, variable_of, variables_of}
use Rattle.mpl_gen_code.proofs.Storing.{apart_next, assigns_same, got_last, held_named, held_set, named_so, number_inside, others_stay, well_declares, well_more}

-- ---- scopes behind statements

-- what a statement declares comes before the rest
pub record Grown (outer scope : List Slot) : Type 0 where
  pub newer : List Slot
  pub is : scope ≡ newer ++ outer

pub grown_itself : (scope : List Slot) → Grown scope scope
grown_itself scope = record { newer = []; is = refl }

grown_then : (a : List Slot) {b c : List Slot} → Grown a b → Grown b c → Grown a c
grown_then a f g = record { newer = g.newer ++ f.newer; is = g.is ∙ ap (λ all. g.newer ++ all) f.is ∙ sym (append_assoc g.newer f.newer a) }

grown_declares : (type : TypeName) (locals : List NewLocal) (env : Env) → Grown env.scope (declares_all type locals env).scope
grown_declares type [] env = grown_itself env.scope
grown_declares type (local ∷ locals) env =
    grown_then env.scope {b = (declares type local env).scope} (record { newer = record { number = length env.sizes; shape = shape_of_local type local } ∷ []; is = refl }) (grown_declares type locals (declares type local env))

pub grown : (stmt : Stmt) (env : Env) → Grown env.scope (behind stmt env).scope
grown s.Nothing env = grown_itself env.scope
grown (s.Within stmts) env = grown_itself env.scope
grown (s.Locals type locals) env = grown_declares type locals env
grown (s.Assigns at place t) env = record { newer = []; is = ap (λ (o : Env). o.scope) (assigns_same place env) }
grown (s.Calls call) env = grown_itself env.scope
grown (s.Creates at target) env = grown_itself env.scope
grown (s.When test then_part) env = grown_itself env.scope
grown (s.Branches test then_part else_part) env = grown_itself env.scope
grown (s.Repeats test body) env = grown_itself env.scope
grown (s.Loops first test step body) env = grown_itself env.scope
grown (s.Prints at ts) env = grown_itself env.scope
grown (s.Gives at t) env = grown_itself env.scope
grown (s.Returns at o) env = grown_itself env.scope

pub grown_all : (stmts : Stmts) (env : Env) → Grown env.scope (behind_all stmts env).scope
grown_all s.NoStmt env = grown_itself env.scope
grown_all (s.MoreStmts stmt stmts) env = grown_then env.scope {b = (behind stmt env).scope} (grown stmt env) (grown_all stmts (behind stmt env))

well_same : (ds : List Declaration) (env other : Env) → IsFrontOf env.sizes other.sizes → other.scope ≡ env.scope → WellScoped ds env.sizes env.scope → WellScoped ds other.sizes other.scope
well_same ds env other f e well = subst (WellScoped ds other.sizes) (sym e) (well_more ds env.scope f well)

pub well_behind : (stmt : Stmt) (env : Env) → WellScoped env.declarations env.sizes env.scope → WellScoped env.declarations (behind stmt env).sizes (behind stmt env).scope
well_behind s.Nothing env well = well
well_behind (s.Within stmts) env well = well_same env.declarations env (behind (s.Within stmts) env) (front (s.Within stmts) env) refl well
well_behind (s.Locals type locals) env well = well_declares type locals env well
well_behind (s.Assigns at place t) env well =
    well_same env.declarations env (behind (s.Assigns at place t) env) (front (s.Assigns at place t) env) (ap (λ (o : Env). o.scope) (assigns_same place env)) well
well_behind (s.Calls call) env well = well
well_behind (s.Creates at target) env well = well
well_behind (s.When test then_part) env well = well_same env.declarations env (behind (s.When test then_part) env) (front (s.When test then_part) env) refl well
well_behind (s.Branches test then_part else_part) env well = well_same env.declarations env (behind (s.Branches test then_part else_part) env) (front (s.Branches test then_part else_part) env) refl well
well_behind (s.Repeats test body) env well = well_same env.declarations env (behind (s.Repeats test body) env) (front (s.Repeats test body) env) refl well
well_behind (s.Loops first test step body) env well = well_same env.declarations env (behind (s.Loops first test step body) env) (front (s.Loops first test step body) env) refl well
well_behind (s.Prints at ts) env well = well
well_behind (s.Gives at t) env well = well
well_behind (s.Returns at o) env well = well

-- ---- stores behind a change

module _ (K : Run) (keeping : Keeping) (env : Env) where
  abbrev S : List Arg → Store → Type 0
  S vs s = Stands K keeping env vs s

  -- a variable of the scope holds something else
  pub holds_stands : (vs : List Arg) (s : Store) (slot : Slot) (a : Arg) → Scoped K env → IsSlot env.scope slot → ArgFits (words_of_shape env.declarations slot.shape) a → S vs s
      → S (slice_set vs slot.number a) (record s { variables = holding slot.shape.name a s.variables })
  holds_stands vs s slot a scoped is fits stands =
      let size = size_here K env scoped slot is in
      let inside = number_inside _ vs slot.number _ stands.sized size in record {
        agree =
            ap₂ (λ name variables. holding name a variables) (named_so is.name env.scope slot is.named) stands.agree
            ∙ held_named env.declarations env.sizes is.name a env.scope vs slot scoped.scope is.named inside;
        sized = set_fits _ vs (slice_set vs slot.number a) slot.number a stands.sized (λ k e. subst (λ n. ArgFits n a) (one_size (sym size ∙ e)) fits) (set_there slot.number a vs inside);
        keeps = stands.keeps;
        long = stands.long;
        low = stands.low;
        within = stands.within;
        result = stands.result;
      } where
        one_size : {n m : ℕ} → Some n ≡ Some m → n ≡ m
        one_size e = cc

  -- a number that no variable of the scope has is given something else to hold
  pub hides_stands : (vs : List Arg) (s : Store) (n size : ℕ) (a : Arg) → IsApart n env.scope → slice_get (sizes_at K.whole.setting.image K.here.code) n ≡ Some size → ArgFits size a → S vs s → S (slice_set vs n a) s
  hides_stands vs s n size a apart e fits stands = record {
    agree = stands.agree ∙ sym (others_stay n a vs env.scope apart);
    sized = set_fits _ vs (slice_set vs n a) n a stands.sized (λ k g. subst (λ m. ArgFits m a) (one_size (sym e ∙ g)) fits) (set_there n a vs (number_inside _ vs n size stands.sized e));
    keeps = stands.keeps;
    long = stands.long;
    low = stands.low;
    within = stands.within;
    result = stands.result;
  } where
    one_size : {n m : ℕ} → Some n ≡ Some m → n ≡ m
    one_size e = cc

  -- one more variable
  pub declares_stands : (vs : List Arg) (s : Store) (shape : Shape) (a : Arg) → WellScoped env.declarations env.sizes env.scope → IsFrontOf (with_variable shape env).sizes (sizes_at K.whole.setting.image K.here.code)
      → ArgFits (words_of_shape env.declarations shape) a → S vs s
      → Stands K keeping (with_variable shape env) (slice_set vs (length env.sizes) a)
      (record s { variables = record { name = shape.name; type = shape.type; dimension = shape.dimension; holds = a } ∷ s.variables })
  declares_stands vs s shape a well front_is fits stands =
      let size : slice_get (sizes_at K.whole.setting.image K.here.code) (length env.sizes) ≡ Some (words_of_shape env.declarations shape) =
      ap (λ (all : List ℕ). slice_get all (length env.sizes)) front_is.is ∙ got_in_front (env.sizes ++ words_of_shape env.declarations shape ∷ []) front_is.rest (length env.sizes) _ (got_last env.sizes _) in
      let now = hides_stands vs s (length env.sizes) _ a (apart_next env.declarations env.sizes env.scope well) size fits stands in record {
        agree = ap₂ (λ (held_here : Arg) others. with_held held_here ∷ others) (sym (held_set (length env.sizes) a vs (number_inside _ vs (length env.sizes) _ stands.sized size))) now.agree;
        sized = now.sized;
        keeps = stands.keeps;
        long = stands.long;
        low = stands.low;
        within = stands.within;
        result = stands.result;
      } where
        with_held : Arg → Variable
        with_held holds = record { name = shape.name; type = shape.type; dimension = shape.dimension; holds = holds }

  -- behind a block its variables go
  pub leaves_stands : (inner : Env) (later : List Arg) (vs : List Arg) (s t : Store) → Grown env.scope inner.scope → S vs s → Stands K keeping inner later t
      → Stands K keeping (out_of env inner) later (record t { variables = oldest (length s.variables) t.variables })
  leaves_stands inner later vs s t g before after =
      let many : length t.variables ≡ length g.newer + length env.scope =
      ap length after.agree ∙ length-map inner.scope (variable_of later) ∙ ap length g.is ∙ length-append g.newer env.scope in
      let few : length s.variables ≡ length env.scope = ap length before.agree ∙ length-map env.scope (variable_of vs) in
      let count : length t.variables - length s.variables ≡ length (map (variable_of later) g.newer) = omega (arith, many, few, length-map g.newer (variable_of later)) in record {
        agree =
            ap₂ drop count (after.agree ∙ ap (map (variable_of later)) g.is ∙ map-append (variable_of later) g.newer env.scope)
            ∙ drop-append_seam (map (variable_of later) g.newer) (map (variable_of later) env.scope);
        sized = after.sized;
        keeps = after.keeps;
        long = after.long;
        low = after.low;
        within = after.within;
        result = after.result;
      }

pub oldest_comes : {A : Type 0} (K : Run) (Q : A → Store → Type 0) (count : ℕ) (o : Checked (Outcome A)) → Comes K Q (unless_astray (only_oldest count) o)
    → Comes K (λ a t. Q a (record t { variables = oldest count t.variables })) o
oldest_comes K Q count (Meant (Goes a t)) h = h
oldest_comes K Q count (Meant (Returns words t)) h = h
oldest_comes K Q count (Meant (Ends e t)) h = h
oldest_comes K Q count Astray h = h

-- a store stands in a scope whatever else surrounds it
pub same_stands : (K : Run) (keeping : Keeping) (env other : Env) (vs : List Arg) (s : Store) → other.scope ≡ env.scope → other.parts ≡ env.parts → Stands K keeping env vs s → Stands K keeping other vs s
same_stands K keeping env other vs s scope parts stands = record {
  agree = subst (λ slots. s.variables ≡ variables_of vs slots) (sym scope) stands.agree;
  sized = stands.sized;
  keeps = stands.keeps;
  long = subst (λ all. words_of_parts all ≤ length s.state) (sym parts) stands.long;
  low = stands.low;
  within = stands.within;
  result = stands.result;
}
