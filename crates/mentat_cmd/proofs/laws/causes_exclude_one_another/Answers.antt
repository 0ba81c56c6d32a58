use Rattle.mentat_cmd.proofs.Causes.{causes_exclude}
use Rattle.mentat_cmd.proofs.laws.causes_exclude_one_another.Goals as goal

pub returns : goal.returns
returns c =
    let one = c.faults_exclude_one_another.ensures in
    causes_exclude c.tokens_have_one_program.ensures (record { syntax = one.syntax; depth = one.depth; not_both = one.not_both; no_syntax = one.no_syntax; no_depth = one.no_depth })
