-- Statements only add variables, and those that there are keep their numbers.
use Rattle.std.proofs.Common.{◌≡◌, List, [], ◌∷◌, ◌++◌, length, map, take, Option, Some, None, append-nil, append_assoc, refl, ap, sym, ◌∙◌}
use Rattle.std.proofs.Math.Seq.{take-append_seam}
use Rattle.std.proofs.lemmas.List.{length-map}
use Rattle.mpl_ast.specs.declared.class.Formal.{Formal}
use Rattle.mpl_ast.specs.declared.program.Declaration.{Declaration}
use Rattle.mpl_ast.specs.declared.statement.TypeName.{TypeName}
use Rattle.mpl_mean.specs.Laws.Sizes.{words_of_formal}
use Rattle.mpl_mean.specs.Plain.Expr.{Expr}
use Rattle.mpl_mean.specs.Plain.Expr as e
use Rattle.mpl_mean.specs.Plain.Stmt.{NewLocal, Stmt, Stmts}
use Rattle.mpl_mean.specs.Plain.Stmt as s
use Rattle.mpl_gen_code.specs.Scopes.{Env, Found, Slot, found_at}
use Rattle.mpl_gen_code.specs.StatementCode.{behind, behind_all, behind_assignment, behind_block, behind_element, behind_found, declares, declares_all}
use Rattle.mpl_gen_code.proofs.Scoped.{IsFrontOf}

pub front_itself : {A : Type 0} (xs : List A) → IsFrontOf xs xs
front_itself xs = record { rest = []; is = sym (append-nil xs) }

pub front_more : {A : Type 0} (xs ys : List A) → IsFrontOf xs (xs ++ ys)
front_more xs ys = record { rest = ys; is = refl }

pub front_then : {A : Type 0} {xs ys zs : List A} → IsFrontOf xs ys → IsFrontOf ys zs → IsFrontOf xs zs
front_then {xs = xs} f g = record { rest = f.rest ++ g.rest; is = g.is ∙ ap (λ all. all ++ g.rest) f.is ∙ append_assoc xs f.rest g.rest }

pub front_declares : (type : TypeName) (locals : List NewLocal) (env : Env) → IsFrontOf env.sizes (declares_all type locals env).sizes
front_declares type [] env = front_itself env.sizes
front_declares type (local ∷ locals) env = front_then (front_more env.sizes _) (front_declares type locals (declares type local env))

front_element : (found : Found) (slot : Option Slot) (env : Env) → IsFrontOf env.sizes (behind_element found slot env).sizes
front_element found None env = front_itself env.sizes
front_element found (Some slot) env = front_then (front_more env.sizes (1 ∷ [])) (front_more (env.sizes ++ 1 ∷ []) (found.words ∷ []))

front_found : (o : Option Found) (env : Env) → IsFrontOf env.sizes (behind_found o env).sizes
front_found None env = front_itself env.sizes
front_found (Some found) env = front_element found found.slot env

pub front_assigns : (place : Expr) (env : Env) → IsFrontOf env.sizes (behind_assignment place env).sizes
front_assigns (e.Element at line target index) env = front_found (found_at env target) env
front_assigns (e.Number at z) env = front_itself env.sizes
front_assigns (e.Truth at b) env = front_itself env.sizes
front_assigns (e.Own at) env = front_itself env.sizes
front_assigns (e.Input at) env = front_itself env.sizes
front_assigns (e.Whole at target) env = front_itself env.sizes
front_assigns (e.PlainCall at function arguments) env = front_itself env.sizes
front_assigns (e.Parenthesized at t) env = front_itself env.sizes
front_assigns (e.Unary at line operator t) env = front_itself env.sizes
front_assigns (e.Binary at line operator left right) env = front_itself env.sizes
front_assigns (e.CallOnOwn at member arguments) env = front_itself env.sizes
front_assigns (e.CallOnTarget at target member arguments) env = front_itself env.sizes

mutual
  pub front : (stmt : Stmt) (env : Env) → IsFrontOf env.sizes (behind stmt env).sizes
  front s.Nothing env = front_itself env.sizes
  front (s.Within stmts) env = front_all stmts env
  front (s.Locals type locals) env = front_declares type locals env
  front (s.Assigns at place value) env = front_assigns place env
  front (s.Calls call) env = front_itself env.sizes
  front (s.Creates at target) env = front_itself env.sizes
  front (s.When test then_part) env = front then_part env
  front (s.Branches test then_part else_part) env = front_then (front then_part env) (front else_part (behind_block then_part env))
  front (s.Repeats test body) env = front body env
  front (s.Loops first test step body) env =
      front_then (front first env) (front_then (front body (behind first env)) (front step (behind_block body (behind first env))))
  front (s.Prints at arguments) env = front_itself env.sizes
  front (s.Gives at value) env = front_itself env.sizes
  front (s.Returns at value) env = front_itself env.sizes

  pub front_all : (stmts : Stmts) (env : Env) → IsFrontOf env.sizes (behind_all stmts env).sizes
  front_all s.NoStmt env = front_itself env.sizes
  front_all (s.MoreStmts stmt stmts) env = front_then (front stmt env) (front_all stmts (behind stmt env))

-- the formals come first
pub formals_first : (ds : List Declaration) (formals : List Formal) (stmts : Stmts) (env : Env) → env.sizes ≡ map (words_of_formal ds) formals
    → take (length formals) (behind_all stmts env).sizes ≡ map (words_of_formal ds) formals
formals_first ds formals stmts env e =
    let f = front_all stmts env in
    ap (take (length formals)) (f.is ∙ ap (λ all. all ++ f.rest) e)
    ∙ ap (λ n. take n (map (words_of_formal ds) formals ++ f.rest)) (sym (length-map formals (words_of_formal ds)))
    ∙ take-append_seam (map (words_of_formal ds) formals) f.rest
