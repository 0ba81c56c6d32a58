use Rattle.std.proofs.Common.{ℕ, [], ◌∷◌, ap, ◌∙◌}
use Rattle.mdf_code.specs.declared.instr.Instr.TheVariants as instr
use Rattle.mpl_gen_expr.specs.Texts.{written}
use Rattle.mpl_gen_expr.proofs.Done.{if_written}
use Rattle.mpl_gen_body.proofs.Rows.{six_done}
use Rattle.mpl_gen_body.proofs.assignments.test_index.Goals as goal

pub returns : goal.returns
returns c =
    let hidden = c.args.hidden in
    let words = c.args.words in
    let line = c.args.line in
    if_written c.push-6.result
    (λ last.
    six_done (instr.ArgWords 1) (instr.SetVariable hidden) (instr.Zero c.args.zeros) (instr.Load hidden 0 1) (instr.LoadIndexed c.args.zeros 0 words line) (instr.Drop 1) _ _ _ _ _ _ _
    c.in_ok-push.ensures.ok c.in_ok-push-2.ensures.ok c.in_ok-push-3.ensures.ok c.in_ok-push-4.ensures.ok c.in_ok-push-5.ensures.ok last
    ∙ ap (λ (zeros : ℕ). written (λ _. instr.ArgWords 1 ∷ instr.SetVariable hidden ∷ instr.Zero zeros ∷ instr.Load hidden 0 1 ∷ instr.LoadIndexed zeros 0 words line ∷ instr.Drop 1 ∷ []) c.args.codes.now) c.requires)
    c.push-6.ensures.ok
