use Rattle.std.proofs.Common.{ℕ, List, ap, ap₂, subst, sym, ◌∙◌}
use Rattle.mdf_code.specs.declared.instr.Instr.{Instr}
use Rattle.mpl_mean.specs.Laws.Sizes.{Every}
use Rattle.mpl_mean.specs.Plain.Stmt.{stmts_from}
use Rattle.mpl_gen_code.specs.Scopes.{Env}
use Rattle.mpl_gen_code.specs.StatementCode.{behind_all, body_code}
use Rattle.mpl_gen_scope.specs.SeenScope.{env_seen}
use Rattle.mpl_gen_expr.specs.Drafts.{InstrFits}
use Rattle.mpl_gen_body.proofs.Writes.{all_written}
use Rattle.mpl_gen_body.proofs.bodies.code_of_body.Goals as goal

pub into_text-requires : goal.into_text-requires
into_text-requires c =
    let stmts = stmts_from c.args.list.now in
    subst (Every InstrFits)
    (sym (all_written (body_code (env_seen c.in_ok-scope.scope) stmts) c.new-codes.result c.body.new.codes c.new-codes.ensures c.in_ok-body.ensures.code ∙ ap (λ (e : Env). body_code e stmts 0) c.in_ok-scope.ensures))
    c.requires.code

pub returns : goal.returns
returns c =
    let stmts = stmts_from c.args.list.now in
    ap₂ (λ (vars : List ℕ) (code : List Instr). record { vars = vars; code = code })
    (c.in_ok-vars.ensures ∙ c.as_slice.ensures ∙ ap (λ (e : Env). e.sizes) (c.in_ok-body.ensures.env ∙ ap (λ (e : Env). behind_all stmts e) c.in_ok-scope.ensures))
    (c.in_ok-code.ensures
    ∙ all_written (body_code (env_seen c.in_ok-scope.scope) stmts) c.new-codes.result c.body.new.codes c.new-codes.ensures c.in_ok-body.ensures.code
    ∙ ap (λ (e : Env). body_code e stmts 0) c.in_ok-scope.ensures)
