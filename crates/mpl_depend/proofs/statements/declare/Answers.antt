use Rattle.std.proofs.Common.{drop, map, ap, sym, ◌∙◌, arith}
use Rattle.mpl_mean.proofs.Lists.{none_left}
use Rattle.mpl_mean.specs.Pending.BodyWays.{locals_ways}
use Rattle.mpl_mean.specs.Plain.Stmt.{new_local}
use Rattle.mpl_depend.specs.Internal.SeenScope.{env_seen}
use Rattle.mpl_depend.proofs.Rows.{grown_ends, locals_are, locals_row}
use Rattle.mpl_depend.proofs.statements.declare.Goals as goal

pub returns-clause-ways : goal.returns-clause-ways
returns-clause-ways c =
    let items = c.as_slice-declarator-items.result.now in
    let type = c.args.local.now.type_name in
    let env = env_seen c.args.scope.now in
    let row = locals_row type (env_seen c.loop-declarator.scope) in
    let i = c.loop-declarator.declarator-index in
    c.all.ensures
    ∙ grown_ends c.loop-declarator.ways.items (row (drop i items)) (locals_row type env items) (ap row (none_left items i (omega arith))) c.loop-declarator.invariant.row
    ∙ sym (locals_are type env items)
    ∙ ap (λ locals. locals_ways env type (map new_local locals)) c.as_slice-declarator-items.ensures
