-- What is declared in a block goes with it.
use Rattle.std.proofs.Common.{◌≡◌, ◌-◌, List, [], ◌∷◌, ◌++◌, length, drop, append_assoc, arith, ℕ, refl, ap, ap₂, sym, ◌∙◌}
use Rattle.std.proofs.lemmas.List.{length-append}
use Rattle.mpl_ast.specs.declared.statement.TypeName.{TypeName}
use Rattle.mpl_mean.specs.Plain.Stmt.{NewLocal, NoStmt, MoreStmts, Stmt, Stmts, assigns}
use Rattle.mpl_mean.specs.Plain.Stmt as stmt
use Rattle.mpl_mean.specs.Plain.Scopes.{Env, Shape, behind, declares, declares_all, with_scope}
use Rattle.mpl_locals.specs.Behind.{behind_all, left}

-- the same but for variables that are newer
record Extends (inner outer : Env) : Type 0 where
  more : List Shape
  scope : inner.scope ≡ more ++ outer.scope
  others : inner ≡ with_scope outer inner.scope

itself : (env : Env) → Extends env env
itself env = record { more = []; scope = refl; others = refl }

further : {a b c : Env} → Extends a b → Extends b c → Extends a c
further {a} {b} {c} p q = record {
  more = p.more ++ q.more;
  scope = p.scope ∙ ap (λ scope. p.more ++ scope) q.scope ∙ sym (append_assoc p.more q.more c.scope);
  others = p.others ∙ ap (λ (env : Env). with_scope env a.scope) q.others;
}

all_extend : (type : TypeName) (news : List NewLocal) (env : Env) → Extends (declares_all type news env) env
all_extend type [] env = itself env
all_extend type (new ∷ news) env = further (all_extend type news (declares type new env)) (record { more = _ ∷ []; scope = refl; others = refl })

behind_extends : (tree : Stmt) (env : Env) → Extends (behind tree env) env
behind_extends stmt.Nothing env = itself env
behind_extends (stmt.Within stmts) env = itself env
behind_extends (stmt.Locals type news) env = all_extend type news env
behind_extends (stmt.Assigns at place value) env = itself env
behind_extends (stmt.Calls call) env = itself env
behind_extends (stmt.Creates at target) env = itself env
behind_extends (stmt.When test then_part) env = itself env
behind_extends (stmt.Branches test then_part else_part) env = itself env
behind_extends (stmt.Repeats test body) env = itself env
behind_extends (stmt.Loops first test step body) env = itself env
behind_extends (stmt.Prints at arguments) env = itself env
behind_extends (stmt.Gives at value) env = itself env
behind_extends (stmt.Returns at value) env = itself env

trees_extend : (trees : Stmts) (env : Env) → Extends (behind_all trees env) env
trees_extend NoStmt env = itself env
trees_extend (MoreStmts tree trees) env = further (trees_extend trees (behind tree env)) (behind_extends tree env)

drop_front : (xs ys : List Shape) → drop (length xs) (xs ++ ys) ≡ ys
drop_front [] ys = refl
drop_front (x ∷ xs) ys = drop_front xs ys

drop_newer : (xs ys : List Shape) → drop (length (xs ++ ys) - length ys) (xs ++ ys) ≡ ys
drop_newer xs ys = ap (λ n. drop n (xs ++ ys)) (let e = length-append xs ys in let same : length (xs ++ ys) - length ys ≡ length xs = omega arith in same) ∙ drop_front xs ys

extended_left : (inner outer : Env) → Extends inner outer → left (length outer.scope) inner ≡ outer
extended_left inner outer h =
    ap (λ (env : Env). with_scope env (drop (length inner.scope - length outer.scope) inner.scope)) h.others
    ∙ ap (λ scope. with_scope outer (drop (length scope - length outer.scope) scope)) h.scope
    ∙ ap (λ scope. with_scope outer scope) (drop_newer h.more outer.scope)

pub left_behind : (tree : Stmt) (env : Env) → left (length env.scope) (behind tree env) ≡ env
left_behind tree env = extended_left (behind tree env) env (behind_extends tree env)

pub left_all : (trees : Stmts) (env : Env) → left (length env.scope) (behind_all trees env) ≡ env
left_all trees env = extended_left (behind_all trees env) env (trees_extend trees env)

-- a statement whose variables go out of scope with it
pub left_after : (tree : Stmt) (env mid next : Env) (count : ℕ) → count ≡ length env.scope → mid ≡ behind tree env → next ≡ left count mid → next ≡ env
left_after tree env mid next count many was is = is ∙ ap₂ (λ n (inner : Env). left n inner) many was ∙ left_behind tree env

pub left_after_all : (trees : Stmts) (env mid next : Env) (count : ℕ) → count ≡ length env.scope → mid ≡ behind_all trees env → next ≡ left count mid → next ≡ env
left_after_all trees env mid next count many was is = is ∙ ap₂ (λ n (inner : Env). left n inner) many was ∙ left_all trees env
