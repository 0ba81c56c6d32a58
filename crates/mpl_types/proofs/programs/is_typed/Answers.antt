use Rattle.std.proofs.Common.{◌≡◌, rules, is_none, ◌∙◌}
use Rattle.mpl_types.proofs.ProgramLemmas.{typed_by}
use Rattle.mpl_types.proofs.programs.is_typed.Goals as goal

pub returns : goal.returns
returns c =
    let same : c.is_none.result ≡ is_none c.in_ok-failure.failure = search rules in
    same ∙ typed_by c.args.program.now c.in_ok-failure.failure c.in_ok-failure.ensures
