-- Blocks: what is declared in them goes out of scope with them.
use Rattle.std.proofs.Common.{◌≡◌, ◌≤◌, ℕ, suc, ◌-◌, List, [], ◌∷◌, ◌++◌, length, drop, refl, ap, sym, subst, ◌∙◌, arith}
use Rattle.mpl_mean.specs.Meaning.Context.{Context}
use Rattle.mpl_mean.specs.Meaning.Store.{Store, Outcome, Goes, Returns, Ends, Step, Variable, in_scope, oldest, only_oldest}
use Rattle.mpl_mean.specs.Plain.Scopes.{Shape, behind, declares_all}
use Rattle.mpl_mean.specs.Plain.Stmt.{NewLocal, Stmt}
use Rattle.mpl_mean.specs.Plain.Stmt as s
use Rattle.mpl_mean.specs.Pending.Looseness.{Loose, behind_path}
use Rattle.mpl_mean.specs.Pending.Paths.{Ways}
use Rattle.mpl_ast.specs.declared.statement.TypeName.{TypeName}
use Rattle.mpl_checked.specs.Checked.CheckedSteps.{CheckedStep, checked_in_scope, unless_astray}
use Rattle.mpl_checked.proofs.Agreeing.{Agrees, Any, Follows}
use Rattle.mpl_checked.proofs.Standing.{Beside}
use Rattle.mpl_checked.proofs.Uses.{env_of}

-- a scope with newer variables in front
abbrev pub Newer : List Shape → List Shape → Type 0
Newer scope later = (newer : List Shape) × (later ≡ newer ++ scope)

pub sized : (loose : Loose) (scope : List Shape) (vs : List Variable) → Beside loose scope vs → length vs ≡ length scope
sized loose [] [] h = refl
sized loose [] (v ∷ vs) h = absurd h
sized loose (shape ∷ scope) [] h = absurd h
sized loose (shape ∷ scope) (v ∷ vs) h = ap suc (sized loose scope vs h.1)

at_least : (loose : Loose) (newer scope : List Shape) (vs : List Variable) → Beside loose (newer ++ scope) vs → length scope ≤ length vs
at_least loose [] scope vs h = let e : length vs ≡ length scope = sized loose scope vs h in omega arith
at_least loose (shape ∷ newer) scope [] h = absurd h
at_least loose (shape ∷ newer) scope (v ∷ vs) h = let less : length scope ≤ length vs = at_least loose newer scope vs h.1 in let goal : length scope ≤ suc (length vs) = omega arith in goal

pub oldest_beside : (loose : Loose) (newer scope : List Shape) (vs : List Variable) → Beside loose (newer ++ scope) vs → Beside loose scope (oldest (length scope) vs)
oldest_beside loose [] scope vs h =
    let e : length vs ≡ length scope = sized loose scope vs h in
    let none : length vs - length scope ≡ 0 = omega arith in
    subst (λ n. Beside loose scope (drop n vs)) (sym none) h
oldest_beside loose (shape ∷ newer) scope [] h = absurd h
oldest_beside loose (shape ∷ newer) scope (v ∷ vs) h =
    let less : length scope ≤ length vs = at_least loose newer scope vs h.1 in
    let one : suc (length vs) - length scope ≡ suc (length vs - length scope) = omega arith in
    subst (λ n. Beside loose scope (drop n (v ∷ vs))) (sym one) (oldest_beside loose newer scope vs h.1)

closed : {A : Type 0} (ways : Ways) (scope later : List Shape) (loose : Loose) (count : ℕ) (o : Outcome A) → Newer scope later → count ≡ length scope → Follows ways later loose Any o → Follows ways scope loose Any (only_oldest count o)
closed ways scope later loose count (Goes a s) newer is f = (
  f.0,
  f.1,
  subst (λ n. Beside (behind_path f.0 loose) scope (oldest n s.variables)) (sym is)
      (oldest_beside (behind_path f.0 loose) newer.0 scope s.variables (subst (λ all. Beside (behind_path f.0 loose) all s.variables) newer.1 f.2)),
  tt,
)
closed ways scope later loose count (Returns words s) newer is f = tt
closed ways scope later loose count (Ends e s) newer is f = tt

pub scoped_agrees : {A : Type 0} (ways : Ways) (scope later : List Shape) (loose : Loose) (k : CheckedStep A) (o : Step A) (s : Store) → Newer scope later → Beside loose scope s.variables
    → Agrees ways later loose Any (k s) (o s) → Agrees ways scope loose Any (checked_in_scope k s) (in_scope o s)
scoped_agrees ways scope later loose k o s newer beside is =
    record { same = ap (unless_astray (only_oldest (length s.variables))) is.same; follows = closed ways scope later loose (length s.variables) (o s) newer (sized loose scope s.variables beside) is.follows }

-- ---- the scope behind a statement

pub locals_env : (c : Context) (type : TypeName) (locals : List NewLocal) (scope : List Shape) → declares_all type locals (env_of c scope) ≡ env_of c (declares_all type locals (env_of c scope)).scope
locals_env c type [] scope = refl
locals_env c type (local ∷ locals) scope = locals_env c type locals _

pub behind_env : (c : Context) (stmt : Stmt) (scope : List Shape) → behind stmt (env_of c scope) ≡ env_of c (behind stmt (env_of c scope)).scope
behind_env c (s.Locals type locals) scope = locals_env c type locals scope
behind_env c s.Nothing scope = refl
behind_env c (s.Within stmts) scope = refl
behind_env c (s.Assigns at place value) scope = refl
behind_env c (s.Calls call) scope = refl
behind_env c (s.Creates at target) scope = refl
behind_env c (s.When test then_part) scope = refl
behind_env c (s.Branches test then_part else_part) scope = refl
behind_env c (s.Repeats test body) scope = refl
behind_env c (s.Loops first test step body) scope = refl
behind_env c (s.Prints at exprs) scope = refl
behind_env c (s.Gives at value) scope = refl
behind_env c (s.Returns at value) scope = refl

newer_first : (scope : List Shape) (shape : Shape) (later : List Shape) → Newer (shape ∷ scope) later → Newer scope later
newer_first scope shape later newer = (newer.0 ++ shape ∷ [], newer.1 ∙ moved newer.0) where
  moved : (xs : List Shape) → (xs ++ shape ∷ scope) ≡ ((xs ++ shape ∷ []) ++ scope)
  moved [] = refl
  moved (x ∷ xs) = ap (λ all. x ∷ all) (moved xs)

pub locals_newer : (c : Context) (type : TypeName) (locals : List NewLocal) (scope : List Shape) → Newer scope (declares_all type locals (env_of c scope)).scope
locals_newer c type [] scope = ([], refl)
locals_newer c type (local ∷ locals) scope = newer_first scope _ _ (locals_newer c type locals _)

pub behind_newer : (c : Context) (stmt : Stmt) (scope : List Shape) → Newer scope (behind stmt (env_of c scope)).scope
behind_newer c (s.Locals type locals) scope = locals_newer c type locals scope
behind_newer c s.Nothing scope = ([], refl)
behind_newer c (s.Within stmts) scope = ([], refl)
behind_newer c (s.Assigns at place value) scope = ([], refl)
behind_newer c (s.Calls call) scope = ([], refl)
behind_newer c (s.Creates at target) scope = ([], refl)
behind_newer c (s.When test then_part) scope = ([], refl)
behind_newer c (s.Branches test then_part else_part) scope = ([], refl)
behind_newer c (s.Repeats test body) scope = ([], refl)
behind_newer c (s.Loops first test step body) scope = ([], refl)
behind_newer c (s.Prints at exprs) scope = ([], refl)
behind_newer c (s.Gives at value) scope = ([], refl)
behind_newer c (s.Returns at value) scope = ([], refl)

pub newer_both : (a b d : List Shape) → Newer a b → Newer b d → Newer a d
newer_both a b d ab bd = (bd.0 ++ ab.0, bd.1 ∙ ap (λ all. bd.0 ++ all) ab.1 ∙ joined bd.0) where
  joined : (xs : List Shape) → (xs ++ (ab.0 ++ a)) ≡ ((xs ++ ab.0) ++ a)
  joined [] = refl
  joined (x ∷ xs) = ap (λ all. x ∷ all) (joined xs)
