-- What is declared in a block goes with it.
use Rattle.std.proofs.Common.{◌≡◌, ◌-◌, List, [], ◌∷◌, ◌++◌, length, drop, append_assoc, arith, refl, ap, sym, ◌∙◌, Option, Some, None}
use Rattle.std.proofs.lemmas.List.{length-append}
use Rattle.mpl_ast.specs.declared.statement.TypeName.{TypeName}
use Rattle.mpl_mean.specs.Plain.Expr.{Expr}
use Rattle.mpl_mean.specs.Plain.Expr as e
use Rattle.mpl_mean.specs.Plain.Stmt.{NewLocal, NoStmt, MoreStmts, Stmt, Stmts}
use Rattle.mpl_mean.specs.Plain.Stmt as stmt
use Rattle.mpl_gen_code.specs.Scopes.{Env, Found, Slot, found_at, out_of}
use Rattle.mpl_gen_code.specs.StatementCode.{behind, behind_all, behind_assignment, behind_block, behind_element, behind_found, declares, declares_all}
use Rattle.mpl_gen_body.specs.Internal.Writing.{left}

-- the same variables, and newer ones
record Extends (inner outer : Env) : Type 0 where
  more : List Slot
  scope : inner.scope ≡ more ++ outer.scope

itself : (inner outer : Env) → inner.scope ≡ outer.scope → Extends inner outer
itself inner outer same = record { more = []; scope = same }

further : {a b c : Env} → Extends a b → Extends b c → Extends a c
further {a} {b} {c} p q = record {
  more = p.more ++ q.more;
  scope = p.scope ∙ ap (λ scope. p.more ++ scope) q.scope ∙ sym (append_assoc p.more q.more c.scope);
}

all_extend : (type : TypeName) (news : List NewLocal) (env : Env) → Extends (declares_all type news env) env
all_extend type [] env = itself env env refl
all_extend type (new ∷ news) env = further (all_extend type news (declares type new env)) (record { more = _ ∷ []; scope = refl })

element_stays : (found : Found) (slot : Option Slot) (env : Env) → (behind_element found slot env).scope ≡ env.scope
element_stays found None env = refl
element_stays found (Some slot) env = refl

found_stays : (found : Option Found) (env : Env) → (behind_found found env).scope ≡ env.scope
found_stays None env = refl
found_stays (Some found) env = element_stays found found.slot env

assignment_stays : (place : Expr) (env : Env) → (behind_assignment place env).scope ≡ env.scope
assignment_stays (e.Number at value) env = refl
assignment_stays (e.Truth at value) env = refl
assignment_stays (e.Own at) env = refl
assignment_stays (e.Input at) env = refl
assignment_stays (e.Whole at target) env = refl
assignment_stays (e.Element at line target index) env = found_stays (found_at env target) env
assignment_stays (e.PlainCall at function arguments) env = refl
assignment_stays (e.Parenthesized at inner) env = refl
assignment_stays (e.Unary at line operator operand) env = refl
assignment_stays (e.Binary at line operator l r) env = refl
assignment_stays (e.CallOnOwn at member arguments) env = refl
assignment_stays (e.CallOnTarget at target member arguments) env = refl

behind_extends : (tree : Stmt) (env : Env) → Extends (behind tree env) env
behind_extends stmt.Nothing env = itself env env refl
behind_extends (stmt.Within stmts) env = record { more = []; scope = refl }
behind_extends (stmt.Locals type news) env = all_extend type news env
behind_extends (stmt.Assigns at place value) env = itself (behind_assignment place env) env (assignment_stays place env)
behind_extends (stmt.Calls call) env = itself env env refl
behind_extends (stmt.Creates at target) env = itself env env refl
behind_extends (stmt.When test then_part) env = record { more = []; scope = refl }
behind_extends (stmt.Branches test then_part else_part) env = record { more = []; scope = refl }
behind_extends (stmt.Repeats test body) env = record { more = []; scope = refl }
behind_extends (stmt.Loops first test step body) env = record { more = []; scope = refl }
behind_extends (stmt.Prints at arguments) env = itself env env refl
behind_extends (stmt.Gives at value) env = itself env env refl
behind_extends (stmt.Returns at value) env = itself env env refl

trees_extend : (trees : Stmts) (env : Env) → Extends (behind_all trees env) env
trees_extend NoStmt env = itself env env refl
trees_extend (MoreStmts tree trees) env = further (trees_extend trees (behind tree env)) (behind_extends tree env)

drop_front : (xs ys : List Slot) → drop (length xs) (xs ++ ys) ≡ ys
drop_front [] ys = refl
drop_front (x ∷ xs) ys = drop_front xs ys

drop_newer : (xs ys : List Slot) → drop (length (xs ++ ys) - length ys) (xs ++ ys) ≡ ys
drop_newer xs ys = ap (λ n. drop n (xs ++ ys)) (let e = length-append xs ys in let same : length (xs ++ ys) - length ys ≡ length xs = omega arith in same) ∙ drop_front xs ys

abbrev with_slots : Env → List Slot → Env
with_slots env scope = record env { scope = scope }

extended_left : (inner outer : Env) → Extends inner outer → left (length outer.scope) inner ≡ out_of outer inner
extended_left inner outer h =
    ap (with_slots inner) (ap (λ (scope : List Slot). drop (length scope - length outer.scope) scope) h.scope ∙ drop_newer h.more outer.scope)

pub left_behind : (tree : Stmt) (env : Env) → left (length env.scope) (behind tree env) ≡ out_of env (behind tree env)
left_behind tree env = extended_left (behind tree env) env (behind_extends tree env)

pub left_all : (trees : Stmts) (env : Env) → left (length env.scope) (behind_all trees env) ≡ out_of env (behind_all trees env)
left_all trees env = extended_left (behind_all trees env) env (trees_extend trees env)

-- behind a loop, what was declared before it goes too
pub left_loop : (first step body : Stmt) (env : Env)
    → left (length env.scope) (behind step (behind_block body (behind first env))) ≡ out_of env (behind step (behind_block body (behind first env)))
left_loop first step body env =
    extended_left (behind step (behind_block body (behind first env))) env
    (further (behind_extends step (behind_block body (behind first env)))
    (further (itself (behind_block body (behind first env)) (behind first env) refl) (behind_extends first env)))
