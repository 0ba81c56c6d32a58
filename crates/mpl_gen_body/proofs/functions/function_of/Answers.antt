use Rattle.std.proofs.Common.{ℕ, List, None, arith, ap, subst, sym, ◌∙◌}
use Rattle.mpl_ast.specs.declared.program.Declaration.{Declaration}
use Rattle.mpl_ast.specs.declared.statement.Statement.{Statement}
use Rattle.mpl_mean.specs.Meaning.Layout.{words_of}
use Rattle.mpl_mean.specs.Plain.Stmt.{stmts_from}
use Rattle.mpl_gen_code.specs.ProgramImage.{body_env, code_of_body}
use Rattle.mpl_gen_code.specs.Scopes.{OfFunction}
use Rattle.mpl_gen_scope.specs.SeenMarks.{marked}
use Rattle.mpl_gen_bounds.specs.ImageFits.{CodeFits}
use Rattle.mpl_gen_body.proofs.functions.function_of.Goals as goal

pub code_of_body-requires : goal.code_of_body-requires
code_of_body-requires c =
    let ds = c.args.outline.now in
    let marks = marked c.args.marks.nodes.now in
    let line = c.args.block.now.mark_line in
    let formals = c.args.formals.now in
    subst (λ (n : ℕ). CodeFits (code_of_body (body_env ds marks (OfFunction n line) formals) (stmts_from c.as_slice-list.result.now))) (sym (c.words_of_one-words.ensures.is ∙ ap (λ (ds : List Declaration). words_of ds c.args.result_type.now None) c.layout.ensures))
    (subst (λ (list : List Statement). CodeFits (code_of_body (body_env ds marks (OfFunction (words_of ds c.args.result_type.now None) line) formals) (stmts_from list))) (sym c.as_slice-list.ensures) c.requires.body)

pub overflow_cast-result : goal.overflow_cast-result
overflow_cast-result c = omega (arith, c.requires.formals)
