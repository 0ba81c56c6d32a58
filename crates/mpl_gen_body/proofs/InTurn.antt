-- Statements and locals one after another, as loops write them.
use Rattle.std.proofs.Common.{◌≡◌, List, [], ◌∷◌, map, ap, ap₂, sym, ◌∙◌}
use Rattle.mpl_ast.specs.declared.statement.Declarator.{Declarator}
use Rattle.mpl_ast.specs.declared.statement.Statement.{Statement}
use Rattle.mpl_ast.specs.declared.statement.TypeName.{TypeName}
use Rattle.mpl_mean.specs.Plain.Stmt.{new_local, stmt_of, stmts_from}
use Rattle.mpl_gen_code.specs.Scopes.{Env}
use Rattle.mpl_gen_code.specs.StatementCode.{behind, behind_all, declares, declares_all, initial_code, locals_code, stmt_code, stmts_code}
use Rattle.mpl_gen_expr.specs.Texts.{Text, written}
use Rattle.mpl_gen_expr.proofs.Texts.{joined_written, none_written}
use Rattle.mpl_gen_body.specs.Internal.Writing.{Wrote}

-- what is left comes to this code and to these surroundings
abbrev pub StmtsLead : Env → List Statement → Text → Text → Env → Type 0
StmtsLead env later text last end = (written (stmts_code env (stmts_from later)) text ≡ last) × (behind_all (stmts_from later) env ≡ end)

abbrev pub LocalsLead : TypeName → Env → List Declarator → Text → Text → Env → Type 0
LocalsLead type env later text last end =
    (written (locals_code env type (map new_local later)) text ≡ last) × (declares_all type (map new_local later) env ≡ end)

pub stmts_more : (env next end : Env) (x : Statement) (rest later : List Statement) (t t1 last : Text) → later ≡ x ∷ rest
    → Wrote (stmt_code env (stmt_of x)) (behind (stmt_of x) env) t t1 next → StmtsLead env later t last end → StmtsLead next rest t1 last end
stmts_more env next end x rest later t t1 last split w lead = (
  ap₂ (λ (e : Env) t. written (stmts_code e (stmts_from rest)) t) w.env w.code
      ∙ sym (joined_written (stmt_code env (stmt_of x)) (stmts_code (behind (stmt_of x) env) (stmts_from rest)) t)
      ∙ ap (λ (l : List Statement). written (stmts_code env (stmts_from l)) t) (sym split) ∙ lead.0,
  ap (behind_all (stmts_from rest)) w.env ∙ ap (λ (l : List Statement). behind_all (stmts_from l) env) (sym split) ∙ lead.1,
)

pub stmts_end : (env end : Env) (later : List Statement) (t last : Text) → later ≡ [] → StmtsLead env later t last end → (t ≡ last) × (env ≡ end)
stmts_end env end later t last none lead = (
  sym (none_written t) ∙ ap (λ (l : List Statement). written (stmts_code env (stmts_from l)) t) (sym none) ∙ lead.0,
  ap (λ (l : List Statement). behind_all (stmts_from l) env) (sym none) ∙ lead.1,
)

pub locals_more : (type : TypeName) (env next end : Env) (x : Declarator) (rest later : List Declarator) (t t1 last : Text) → later ≡ x ∷ rest
    → Wrote (initial_code env (new_local x).initialiser) (declares type (new_local x) env) t t1 next → LocalsLead type env later t last end → LocalsLead type next rest t1 last end
locals_more type env next end x rest later t t1 last split w lead = (
  ap₂ (λ (e : Env) t. written (locals_code e type (map new_local rest)) t) w.env w.code
      ∙ sym (joined_written (initial_code env (new_local x).initialiser) (locals_code (declares type (new_local x) env) type (map new_local rest)) t)
      ∙ ap (λ (l : List Declarator). written (locals_code env type (map new_local l)) t) (sym split) ∙ lead.0,
  ap (declares_all type (map new_local rest)) w.env ∙ ap (λ (l : List Declarator). declares_all type (map new_local l) env) (sym split) ∙ lead.1,
)

pub locals_end : (type : TypeName) (env end : Env) (later : List Declarator) (t last : Text) → later ≡ [] → LocalsLead type env later t last end → (t ≡ last) × (env ≡ end)
locals_end type env end later t last none lead = (
  sym (none_written t) ∙ ap (λ (l : List Declarator). written (locals_code env type (map new_local l)) t) (sym none) ∙ lead.0,
  ap (λ (l : List Declarator). declares_all type (map new_local l) env) (sym none) ∙ lead.1,
)
