use Rattle.std.proofs.Common.{ap, ◌∙◌}
use Rattle.mpl_mean.specs.TypeRules.Types.{AsFormal, agree, value_type}
use Rattle.mpl_scope.specs.SeenTypes.{seen_types}
use Rattle.mpl_types.proofs.ArgumentLemmas.{first_is}
use Rattle.mpl_types.proofs.arguments.formal_agrees.Goals as goal

pub returns-in-Some : goal.returns-in-Some
returns-in-Some c =
    c.agree.ensures ∙ ap (agree (seen_types c.args.value)) (c.value_type.ensures ∙ ap (value_type AsFormal) c.meant-meant.ensures)
    ∙ first_is c.args.outline.now c.args.formals.now c.args.place c.in-Some.formal.now (seen_types c.args.value) c.in-Some.ensures
