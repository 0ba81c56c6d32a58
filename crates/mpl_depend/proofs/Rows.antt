-- Rows of ways that are made one after another.
use Rattle.std.proofs.Common.{◌≡◌, ℕ, ◌+◌, List, [], ◌∷◌, ◌++◌, map, drop, refl, ap, sym, ◌∙◌}
use Rattle.std.proofs.lemmas.List.{append-nil, append_assoc, map-append}
use Rattle.mpl_ast.specs.declared.expression.Expression.{Expression}
use Rattle.mpl_ast.specs.declared.flow.Flow.{Flow}
use Rattle.mpl_ast.specs.declared.statement.Declarator.{Declarator}
use Rattle.mpl_ast.specs.declared.statement.Statement.{Statement}
use Rattle.mpl_ast.specs.declared.statement.TypeName.{TypeName}
use Rattle.mpl_mean.specs.Plain.Expr.{expr_of, expr_of_flow, listed}
use Rattle.mpl_mean.specs.Plain.Scopes.{Env, behind, declares}
use Rattle.mpl_mean.specs.Plain.Stmt.{new_local, stmt_of, stmts_from}
use Rattle.mpl_mean.specs.Pending.BodyWays.{each_value, flow_ways, flows_ways, local_ways, locals_ways, stmt_ways, stmts_ways, value_ways, values_ways}
use Rattle.mpl_mean.specs.Pending.Paths.{Ways}
use Rattle.mpl_mean.specs.Pending.Paths as paths
use Rattle.mpl_depend.specs.Internal.SeenWays.{all_seen, ways_seen}
use Rattle.mpl_depend.specs.declared.ways.Ways.{Ways as Made}

-- ---- rows of one function

pub row_next : {A : Type 0} (f : A → Ways) (list : List A) (made : List Made) (i : ℕ) (x : A) (w : Made) → drop i list ≡ x ∷ drop (i + 1) list → ways_seen w ≡ f x → map ways_seen made ++ map f (drop i list) ≡ map f list
    → map ways_seen (made ++ w ∷ []) ++ map f (drop (i + 1) list) ≡ map f list
row_next f list made i x w e is so =
    ap (λ front. front ++ map f (drop (i + 1) list)) (map-append ways_seen made (w ∷ []))
    ∙ append_assoc (map ways_seen made) (ways_seen w ∷ []) (map f (drop (i + 1) list))
    ∙ ap (λ v. map ways_seen made ++ v ∷ map f (drop (i + 1) list)) is
    ∙ ap (λ left. map ways_seen made ++ map f left) (sym e) ∙ so

pub row_ends : {A : Type 0} (f : A → Ways) (list : List A) (made : List Made) (i : ℕ) → drop i list ≡ [] → map ways_seen made ++ map f (drop i list) ≡ map f list → all_seen (map ways_seen made) ≡ all_seen (map f list)
row_ends f list made i e so = ap all_seen (sym (append-nil (map ways_seen made)) ∙ ap (λ left. map ways_seen made ++ map f left) (sym e) ∙ so)

abbrev pub value_row : Env → Expression → Ways
value_row env node = value_ways env (expr_of node)

abbrev pub flow_row : Env → Flow → Ways
flow_row env node = flow_ways env (expr_of_flow node)

pub values_row : (env : Env) (list : List Expression) → values_ways env (listed (map expr_of list)) ≡ all_seen (map (value_row env) list)
values_row env [] = refl
values_row env (node ∷ list) = ap (λ rest. paths.Then (value_row env node) rest) (values_row env list)

pub flows_row : (env : Env) (list : List Flow) → flows_ways env (listed (map expr_of_flow list)) ≡ all_seen (map (flow_row env) list)
flows_row env [] = refl
flows_row env (node ∷ list) = ap (λ rest. paths.Then (flow_row env node) rest) (flows_row env list)

pub each_row : (env : Env) (list : List Expression) → each_value env (map expr_of list) ≡ all_seen (map (value_row env) list)
each_row env [] = refl
each_row env (node ∷ list) = ap (λ rest. paths.Then (value_row env node) rest) (each_row env list)

-- ---- rows in a scope that grows

abbrev pub stmts_row : Env → List Statement → List Ways
stmts_row env [] = []
stmts_row env (node ∷ list) = stmt_ways env (stmt_of node) ∷ stmts_row (behind (stmt_of node) env) list

abbrev pub locals_row : TypeName → Env → List Declarator → List Ways
locals_row type env [] = []
locals_row type env (node ∷ list) = local_ways env (new_local node).initialiser ∷ locals_row type (declares type (new_local node) env) list

pub stmts_are : (env : Env) (list : List Statement) → stmts_ways env (stmts_from list) ≡ all_seen (stmts_row env list)
stmts_are env [] = refl
stmts_are env (node ∷ list) = ap (λ rest. paths.Then (stmt_ways env (stmt_of node)) rest) (stmts_are (behind (stmt_of node) env) list)

pub locals_are : (type : TypeName) (env : Env) (list : List Declarator) → locals_ways env type (map new_local list) ≡ all_seen (locals_row type env list)
locals_are type env [] = refl
locals_are type env (node ∷ list) = ap (λ rest. paths.Then (local_ways env (new_local node).initialiser) rest) (locals_are type (declares type (new_local node) env) list)

-- one more is made, and what is left of the row follows
pub grown_next : (made : List Made) (w : Made) (x : Ways) (rest left all : List Ways) → ways_seen w ≡ x → left ≡ x ∷ rest → map ways_seen made ++ left ≡ all → map ways_seen (made ++ w ∷ []) ++ rest ≡ all
grown_next made w x rest left all is e so =
    ap (λ front. front ++ rest) (map-append ways_seen made (w ∷ [])) ∙ append_assoc (map ways_seen made) (ways_seen w ∷ []) rest ∙ ap (λ v. map ways_seen made ++ v ∷ rest) is
    ∙ ap (λ left. map ways_seen made ++ left) (sym e) ∙ so

pub grown_ends : (made : List Made) (left all : List Ways) → left ≡ [] → map ways_seen made ++ left ≡ all → all_seen (map ways_seen made) ≡ all_seen all
grown_ends made left all e so = ap all_seen (sym (append-nil (map ways_seen made)) ∙ ap (λ left. map ways_seen made ++ left) (sym e) ∙ so)
