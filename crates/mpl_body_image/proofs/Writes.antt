-- Statements within others: their code, and the variables that go with them.
use Rattle.std.proofs.Common.{◌≡◌, ℕ, suc, [], ◌∷◌, ◌++◌, length, Result, Ok, Err, append_assoc, ap, ap₂, sym, subst, ◌∙◌}
use Rattle.std.specs.Prelude.{OnOk}
use Rattle.mpl_value.specs.declared.memory.NoMemory.{NoMemory}
use Rattle.mpl_mean.specs.Plain.Expr.{Expr}
use Rattle.mpl_mean.specs.Plain.Stmt.{Stmt, Stmts}
use Rattle.mpl_mean.specs.Plain.Stmt as stmt
use Rattle.mpl_mean.specs.Plain.Scopes.{Env, behind}
use Rattle.mpl_body_code.specs.Codes.{Code, expression_code, loop_code, scope_code, statement_code, statements_code}
use Rattle.mpl_body_code.specs.declared.instruction.Instruction.TheVariants as instruction
use Rattle.mpl_locals.specs.Behind.{left}
use Rattle.mpl_body_image.specs.Internal.Writing.{Wrote, WroteAll, WroteCode}
use Rattle.mpl_locals.proofs.Blocks.{left_all, left_behind}

pub if_written : {P Q : Type 0} (r : Result (Unit {0}) NoMemory) → (P → Q) → OnOk r P → OnOk r Q
if_written (Ok u) f h = f h
if_written (Err e) f h = h

-- ---- scopes

scope_written : (env middle next : Env) (count : ℕ) (code old mid new : Code) → count ≡ length env.scope → mid ≡ old ++ code → left (length env.scope) middle ≡ env
    → WroteCode (left count middle) (instruction.Leave count ∷ []) mid new next → WroteCode env (scope_code env code) old new next
scope_written env middle next count code old mid new many is was h = record {
  code_is = h.code_is ∙ ap₂ (λ front n. front ++ instruction.Leave n ∷ []) is many ∙ append_assoc old code (instruction.Leave (length env.scope) ∷ []);
  same = h.same ∙ ap (λ n. left n middle) many ∙ was;
}

-- the statements of a block
pub block_written : (env middle next : Env) (count : ℕ) (trees : Stmts) (old mid new : Code) → count ≡ length env.scope → WroteAll env trees old mid middle
    → WroteCode (left count middle) (instruction.Leave count ∷ []) mid new next → WroteCode env (statement_code env (stmt.Within trees)) old new next
block_written env middle next count trees old mid new many all h =
    scope_written env middle next count (statements_code env trees) old mid new many all.code (ap (left (length env.scope)) all.scope ∙ left_all trees env) h

-- a statement in a code of its own
pub part_written : (env middle next : Env) (count : ℕ) (read tree : Stmt) (nothing mid new : Code) → read ≡ tree → nothing ≡ [] → count ≡ length env.scope → Wrote env read nothing mid middle
    → WroteCode (left count middle) (instruction.Leave count ∷ []) mid new next → WroteCode env (scope_code env (statement_code env tree)) [] new next
part_written env middle next count read tree nothing mid new is none many one h =
    scope_written env middle next count (statement_code env tree) [] mid new many (one.code ∙ ap₂ (λ front (t : Stmt). front ++ statement_code env t) none is)
    (ap (left (length env.scope)) one.scope ∙ left_behind read env) h

-- a part behind another one is written in the scope that the first one found
pub next_part : (env inner middle next : Env) (count : ℕ) (read tree : Stmt) (nothing mid new : Code) → inner ≡ env → read ≡ tree → nothing ≡ [] → count ≡ length env.scope → Wrote inner read nothing mid middle
    → WroteCode (left count middle) (instruction.Leave count ∷ []) mid new next → WroteCode env (scope_code env (statement_code env tree)) [] new next
next_part env inner middle next count read tree nothing mid new same is none many one h =
    part_written env middle next count read tree nothing mid new is none many (subst (λ (e : Env). Wrote e read nothing mid middle) same one) h

-- ---- statements

pub when_written : (env next : Env) (tree : Stmt) (test : Expr) (part : Stmt) (old new inner : Code) → tree ≡ stmt.When test part
    → WroteCode env (scope_code env (statement_code env part)) [] inner next → new ≡ old ++ (expression_code next test ++ instruction.Unless (length inner) ∷ inner)
    → Wrote env tree old new next
when_written env next tree test part old new inner is h written =
    subst (λ (tree : Stmt). Wrote env tree old new next) (sym is) (record {
      code = written ∙ ap₂ (λ (e : Env) code. old ++ (expression_code e test ++ instruction.Unless (length code) ∷ code)) h.same h.code_is;
      scope = h.same;
    })

pub branch_written : (env between next : Env) (tree : Stmt) (test : Expr) (first second : Stmt) (old new inner other : Code) → tree ≡ stmt.Branches test first second
    → WroteCode env (scope_code env (statement_code env first)) [] inner between → WroteCode env (scope_code env (statement_code env second)) [] other next
    → new ≡ old ++ (expression_code next test ++ instruction.Unless (suc (length inner)) ∷ (inner ++ instruction.Skip (length other) ∷ other))
    → Wrote env tree old new next
branch_written env between next tree test first second old new inner other is h k written =
    subst (λ (tree : Stmt). Wrote env tree old new next) (sym is) (record {
      code = written
          ∙ ap (λ (e : Env). old ++ (expression_code e test ++ instruction.Unless (suc (length inner)) ∷ (inner ++ instruction.Skip (length other) ∷ other))) k.same
          ∙ ap₂ (λ code others. old ++ (expression_code env test ++ instruction.Unless (suc (length code)) ∷ (code ++ instruction.Skip (length others) ∷ others))) h.code_is k.code_is;
      scope = k.same;
    })

pub loop_written : (env next : Env) (tree : Stmt) (test : Expr) (part : Stmt) (old new inner : Code) → tree ≡ stmt.Repeats test part
    → WroteCode env (scope_code env (statement_code env part)) [] inner next → new ≡ old ++ loop_code (expression_code next test) inner
    → Wrote env tree old new next
loop_written env next tree test part old new inner is h written =
    subst (λ (tree : Stmt). Wrote env tree old new next) (sym is) (record {
      code = written ∙ ap₂ (λ (e : Env) code. old ++ loop_code (expression_code e test) code) h.same h.code_is;
      scope = h.same;
    })

-- what a `for` does first, its loop, and the end of its scope
pub for_written : (env first within next : Env) (tree start : Stmt) (test : Expr) (step part : Stmt) (count : ℕ) (old began turned new inner stepped : Code) → tree ≡ stmt.Loops start test step part
    → count ≡ length env.scope → Wrote env start old began first
    → WroteCode first (scope_code first (statement_code first part)) [] inner within → stepped ≡ inner ++ statement_code within step
    → turned ≡ began ++ loop_code (expression_code within test) stepped → WroteCode (left count within) (instruction.Leave count ∷ []) turned new next
    → Wrote env tree old new next
for_written env first within next tree start test step part count old began turned new inner stepped is many begin h steps loops leaves =
    let here : Env = behind start env in
    let same : within ≡ here = h.same ∙ begin.scope in
    let body : Code = scope_code here (statement_code here part) ++ statement_code here step in
    let inside : stepped ≡ body =
    steps ∙ ap (λ code. code ++ statement_code within step) h.code_is
    ∙ ap₂ (λ (e f : Env). scope_code e (statement_code e part) ++ statement_code f step) begin.scope same in
    let whole : turned ≡ old ++ (statement_code env start ++ loop_code (expression_code here test) body) =
    loops ∙ ap₂ (λ (e : Env) code. began ++ loop_code (expression_code e test) code) same inside
    ∙ ap (λ front. front ++ loop_code (expression_code here test) body) begin.code
    ∙ append_assoc old (statement_code env start) (loop_code (expression_code here test) body) in
    let all = scope_written env within next count (statement_code env start ++ loop_code (expression_code here test) body) old turned new many whole
    (ap (left (length env.scope)) same ∙ left_behind start env) leaves in
    subst (λ (tree : Stmt). Wrote env tree old new next) (sym is) (record { code = all.code_is; scope = all.same })
